-- Runs computed: how they end, the latch, the records, and demand 3 in a stretch between two port writes.
use mathlib.Core.Path.{◌≡◌, refl, ap}
use mathlib.Core.Bool.{Bool, true, false, ◌||◌}
use mathlib.Core.List.{List, [], ◌∷◌, ◌++◌, map}
use Prim.Native.Nat.{ℕ, zero, suc, ◌*◌, ◌<◌}
use native.Mathlib.Omega.{arith}
use lib.Dec.{ltb, lit≤}
use lib.ListN.{set, replicate}
use borrow.Author.Tests.{ltb-false}
use Rattle.lists.specs.Number.{number}
use Rattle.lists.proofs.Tests.{or_first, or_rest}
use Rattle.nick.specs.Sizes.{record_bytes}
use Rattle.nick.specs.Numbers.{byte_at, Bytes}
use Rattle.nick.specs.Registers.{written_registers, written_scan, written, fresh_state}
use Rattle.nick.specs.Blocks.{loaded_number, decoded, block_at, block_addresses, loaded, continued, begun}
use Rattle.nick.specs.Slots.{mode_numbered, font_address}
use Rattle.nick.specs.Colour.{colours_numbered, graphics_added, graphics_byte, character_added, palette_colour}
use Rattle.nick.specs.External.{priority_gives, mixed_colour}
use Rattle.nick.specs.Scanline.{slot_dots, begun_dots, line_dots, begun_fetches, line_fetches, ended, next_scan}
use Rattle.nick.specs.Sync.{line_sync, line_sync_count}
use Rattle.nick.specs.Record.{flags, line_record, next_state}
use Rattle.nick.specs.Refusals.{lines_refusal}
use Rattle.nick.specs.Painting.{Painting, paint, paint_line}
use Rattle.nick.specs.Direct.{Answered, shows, direct, direct_names}
use Rattle.claims.proofs.Demand3Examples.{ram}
use Rattle.script.specs.Steps.{Step, writes, paints, enables, unknown, begins, after}
use Rattle.script.specs.Runs.{Ended, finished, refused, stopped, bench_after, run_refusal, Run, refused_run, ran, run}
use Rattle.script.specs.declared.Bench.{Bench}
use Rattle.script.specs.Stretches.{IsPainting, Reaches}
use Rattle.script.proofs.PaintingAlone.{painting_alone}
use Rattle.script.proofs.BetweenWrites.{between_writes, never_refused}

-- Demand 3's RAM with VINT in block 1: block 0 gives lines 0 and 1, block 1 lines 2, 3 and 4, and so on in turn. VIRQ's edge is in
-- lines 2, 7 and 12.
abbrev board : List ℕ
board = set ram 17 135

-- steps as bytes
abbrev write : ℕ → ℕ → List ℕ
write port value = 0 ∷ port ∷ value ∷ []

abbrev line : List ℕ
line = 1 ∷ 0 ∷ 0 ∷ []

-- the port is not looked at, and of the data bit 0 alone is
abbrev enable : ℕ → List ℕ
enable value = 2 ∷ 200 ∷ value ∷ []

abbrev reset : List ℕ
reset = 3 ∷ 200 ∷ 200 ∷ []

-- a run from the fresh state, with buffers for h lines: dots of 170, records of 85
abbrev run_of : List ℕ → ℕ → List ℕ → Run
run_of script h external = run fresh_state board script (replicate (736 * h) 170) (replicate (record_bytes * h) 85) external

-- how it ended, as numbers: 0 finished; 1 refused, and the number; 2 stopped, the number and the place
abbrev end_numbers : Ended → List ℕ
end_numbers finished = 0 ∷ []
end_numbers (refused n) = 1 ∷ n ∷ []
end_numbers (stopped n place) = 2 ∷ n ∷ place ∷ []

-- then latch, enable, request and lines painted
abbrev summary : Run → List ℕ
summary r = end_numbers r.ended ++ (number r.bench.latch ∷ number r.bench.enable ∷ number r.request ∷ r.bench.lines ∷ [])

-- BORDER 5, a line, BORDER 9, two lines, FIXBIAS 128, a line; then a kind that there is not, and a line that is not painted
abbrev stopping : List ℕ
stopping =
    write 129 5 ++ enable 3 ++ line ++ write 129 9 ++ (1 ∷ 200 ∷ 200 ∷ []) ++ line ++ write 128 128 ++ line ++ (7 ∷ 1 ∷ 1 ∷ []) ++ line

pub record Example : Type 0 where
  pub got : List ℕ
  pub want : List ℕ

abbrev examples : List Example
examples =
    -- the run stops at its step 8, with the latch on: line 2 has the edge
    record { got = summary (run_of stopping 5 []); want = 2 ∷ 19 ∷ 8 ∷ 1 ∷ 1 ∷ 1 ∷ 4 ∷ [] }
    -- "lines not painted keep their dots and get stamped records"; VC1 follows the write
    ∷ record {
      got = (run_of stopping 5 []).records;
      want = (12 ∷ 0 ∷ 20 ∷ 2 ∷ 0 ∷ 0 ∷ 0 ∷ [])
          ++ (20 ∷ 0 ∷ 4 ∷ 2 ∷ 0 ∷ 0 ∷ 0 ∷ [])
          ++ (15 ∷ 0 ∷ 20 ∷ 2 ∷ 0 ∷ 1 ∷ 0 ∷ [])
          ++ (5 ∷ 0 ∷ 4 ∷ 2 ∷ 1 ∷ 1 ∷ 0 ∷ [])
          ++ replicate record_bytes 255;
    }
    ∷ record { got = map (λ (y : ℕ). byte_at (run_of stopping 5 []).dots (736 * y)) (0 ∷ 1 ∷ 2 ∷ 3 ∷ 4 ∷ []); want = 5 ∷ 9 ∷ 9 ∷ 9 ∷ 170 ∷ [] }
    -- "record bit 1 sets the latch whether or not interrupts are enabled"
    ∷ record { got = summary (run_of (line ++ line ++ line) 3 []); want = 0 ∷ 1 ∷ 0 ∷ 0 ∷ 3 ∷ [] }
    -- switching interrupts off does not clear it; "only a reset clears it"
    ∷ record { got = summary (run_of (enable 1 ++ line ++ line ++ line ++ enable 254) 3 []); want = 0 ∷ 1 ∷ 0 ∷ 0 ∷ 3 ∷ [] }
    ∷ record { got = summary (run_of (enable 1 ++ line ++ line ++ line ++ reset) 3 []); want = 0 ∷ 0 ∷ 1 ∷ 0 ∷ 3 ∷ [] }
    -- VIRQ stays low in lines 3 and 4, which is no edge; line 7 has the next one
    ∷ record { got = summary (run_of (line ++ line ++ line ++ reset ++ line ++ line) 5 []); want = 0 ∷ 0 ∷ 0 ∷ 0 ∷ 5 ∷ [] }
    ∷ record {
      got = summary (run_of (line ++ line ++ line ++ reset ++ line ++ line ++ line ++ line ++ line) 8 []);
      want = 0 ∷ 1 ∷ 0 ∷ 0 ∷ 8 ∷ [];
    }
    -- refused at a step with 1, 2 and 19; what came before stands
    ∷ record { got = summary (run_of (enable 1 ++ write 144 0) 0 []); want = 2 ∷ 1 ∷ 1 ∷ 0 ∷ 1 ∷ 0 ∷ 0 ∷ [] }
    ∷ record { got = summary (run_of (write 132 0 ++ line) 1 []); want = 2 ∷ 2 ∷ 0 ∷ 0 ∷ 0 ∷ 0 ∷ 0 ∷ [] }
    ∷ record { got = summary (run_of (line ++ (4 ∷ 0 ∷ 0 ∷ [])) 1 []); want = 2 ∷ 19 ∷ 1 ∷ 0 ∷ 0 ∷ 0 ∷ 1 ∷ [] }
    -- before the first step: a step that is not whole is not counted, and gets 19; 8 comes before it
    ∷ record { got = summary (run_of (enable 1 ++ line ++ (1 ∷ [])) 1 []); want = 1 ∷ 19 ∷ 0 ∷ 0 ∷ 0 ∷ 0 ∷ [] }
    ∷ record { got = summary (run_of (line ++ (1 ∷ 0 ∷ [])) 1 (0 ∷ [])); want = 1 ∷ 8 ∷ 0 ∷ 0 ∷ 0 ∷ 0 ∷ [] }
    -- "(with none, 5 isn't given)"; then the buffers must be empty
    ∷ record { got = summary (run_of [] 0 []); want = 0 ∷ 0 ∷ 0 ∷ 0 ∷ 0 ∷ [] }
    ∷ record { got = summary (run_of reset 1 []); want = 1 ∷ 6 ∷ 0 ∷ 0 ∷ 0 ∷ 0 ∷ [] }
    ∷ record { got = summary (run_of (replicate 3075 1) 1 []); want = 1 ∷ 5 ∷ 0 ∷ 0 ∷ 0 ∷ 0 ∷ [] }
    -- steps after the refused one count for the buffers
    ∷ record { got = summary (run_of ((255 ∷ 0 ∷ 0 ∷ []) ++ line ++ line) 1 []); want = 1 ∷ 6 ∷ 0 ∷ 0 ∷ 0 ∷ 0 ∷ [] }
    ∷ []

pub worked : map (λ (x : Example). x.got) examples ≡ map (λ (x : Example). x.want) examples
unfolding
    written_registers written_scan written loaded_number decoded block_at block_addresses loaded continued begun mode_numbered font_address
    colours_numbered graphics_added graphics_byte character_added palette_colour mixed_colour slot_dots begun_dots line_dots begun_fetches
    line_fetches ended next_scan line_sync line_sync_count flags line_record next_state lines_refusal after run_refusal refused_run ran run
worked = refl

-- a list with no number over 255
abbrev any_over : List ℕ → Bool
any_over [] = false
any_over (byte ∷ more) = ltb 255 byte || any_over more

bytes_of : (bytes : List ℕ) → any_over bytes ≡ false → Bytes bytes
bytes_of [] e i = lit≤ tt
bytes_of (byte ∷ more) e zero = omega (arith, ltb-false 255 byte (or_first (ltb 255 byte) (any_over more) e))
bytes_of (byte ∷ more) e (suc i) = bytes_of more (or_rest (ltb 255 byte) (any_over more) e) i

-- the steps of `stopping` up to the second write of BORDER, those up to the write of FIXBIAS, and the others
abbrev before : List Step
before = writes 129 5 ∷ enables true ∷ paints ∷ writes 129 9 ∷ []

abbrev stretch : List Step
stretch = paints ∷ paints ∷ []

abbrev rest : List Step
rest = writes 128 128 ∷ paints ∷ unknown ∷ paints ∷ []

-- external input for the five lines: it is 135 at dot 48 of line 2
abbrev mixed : List ℕ
mixed = replicate 1520 0 ++ (135 ∷ replicate 2159 0)

-- the bench as the stretch begins
abbrev here : Bench
here = bench_after board before (begins fresh_state)

abbrev shown : ℕ → List ℕ → Answered
shown c named = shows (record { colour = c; names = named })

-- Demand 3 between the two port writes gives the painted dots: dot 40 of the stretch's first line, which is line 1 of the run, and
-- dot 48 of its second, where external input wins.
pub in_the_middle :
    (direct here.state board 0 40 0 ≡ shown 11 (69 ∷ [])) × (direct here.state board 1 48 135 ≡ shown 27 (81 ∷ 259 ∷ []))
unfolding
    written_registers written_scan written loaded_number decoded block_at block_addresses loaded continued begun mode_numbered font_address
    colours_numbered graphics_added graphics_byte character_added palette_colour priority_gives mixed_colour slot_dots begun_dots line_dots
    begun_fetches line_fetches ended next_scan line_sync line_sync_count flags line_record next_state direct_names lines_refusal after run_refusal
    ran run
in_the_middle =
    let dots : List ℕ = replicate 3680 170 in
    let records : List ℕ = replicate 35 85 in
    let bytes = bytes_of stopping refl in
    let reach : Reaches fresh_state board stopping dots records mixed before stretch rest = record { begun = refl; parts = refl; goes_on = refl } in (
      between_writes fresh_state board stopping dots records mixed before stretch rest 0 40 (lit≤ tt) bytes reach refl (lit≤ tt) (lit≤ tt),
      between_writes fresh_state board stopping dots records mixed before stretch rest 1 48 (lit≤ tt) bytes reach refl (lit≤ tt) (lit≤ tt),
    )

-- two painting steps, with bytes that are not looked at, are the painting of two lines
abbrev two_lines : List ℕ
two_lines = 1 ∷ 200 ∷ 255 ∷ 1 ∷ 3 ∷ 7 ∷ []

kinds : (i : ℕ) → i < 2 → byte_at two_lines (3 * i) ≡ 1
kinds zero h = refl
kinds (suc zero) h = refl
kinds (suc (suc i)) h = absurd (omega (arith, h))

pub alone :
    (dots records external : List ℕ)
    → IsPainting (run fresh_state board two_lines dots records external) (paint fresh_state board 2 dots records external)
alone dots records external = painting_alone fresh_state board two_lines dots records external 2 (lit≤ tt) (refl, kinds)

-- the fourth line of `stopping`, painted by itself, is not refused
pub never :
    (paint_line (bench_after board (before ++ stretch ++ (writes 128 128 ∷ [])) (begins fresh_state)).state board (replicate 736 0)
    (replicate record_bytes 0)
    []
    ).refusal
    ≡ 0
unfolding
    written_registers written_scan written loaded_number decoded block_at loaded continued begun mode_numbered ended next_scan line_sync
    next_state lines_refusal after run_refusal
never =
    ap (λ (p : Painting). p.refusal)
    (never_refused fresh_state board stopping (replicate 3680 170) (replicate 35 85) [] (replicate 736 0) (replicate record_bytes 0)
    (before ++ stretch ++ (writes 128 128 ∷ [])) (unknown ∷ paints ∷ []) (lit≤ tt) (bytes_of stopping refl)
    (record { begun = refl; parts = refl; goes_on = refl }) refl refl)
