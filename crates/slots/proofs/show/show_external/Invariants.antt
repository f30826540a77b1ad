-- `slots::show::show_external`: after j turns the dots passed are shown, and the rest is as it was.
use Rattle.std.proofs.Common.{ℕ, take, get_or, ◌≤◌, ◌≡◌}
use Rattle.lists.specs.Tab.{tab}
use Rattle.slots.specs.Shows.{shown_dot}
use Rattle.slots.proofs.show.show_external.Given as goal

abbrev pub invariant-loop-j : goal.invariant-loop-j
invariant-loop-j l =
    (take l.j l.out ≡ tab (shown_dot l.registers l.palette l.cell l.run l.external l.from) l.j)
    × ((i : ℕ) → l.j ≤ i → get_or l.out i 0 ≡ get_or l.initial.out i 0)
