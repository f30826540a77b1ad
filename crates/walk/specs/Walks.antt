-- What the walk from block to block answers.
use Rattle.std.specs.Prelude.{◌≡◌, ℕ, ◌≤◌, List}
use Rattle.nick.specs.Scanline.{scan_after}
use Rattle.nick.specs.Refusals.{Formed}
use Rattle.nick.specs.declared.Registers.{Registers}
use Rattle.nick.specs.declared.Scan.{Scan}
use Rattle.walk.specs.declared.Turned.{Turned}

-- d is the scan after n scanlines from c
pub record Reached (g : Registers) (ram : List ℕ) (c : Scan) (n : ℕ) (d : Scan) : Type 0 where
  pub scan : d ≡ scan_after g ram n c
  pub formed : Formed d

-- one turn of the walk goes on by at least one and at most n scanlines
pub record Turns (g : Registers) (ram : List ℕ) (c : Scan) (n : ℕ) (r : Turned) : Type 0 where
  pub reached : Reached g ram c r.lines r.scan
  pub some : 1 ≤ r.lines
  pub most : r.lines ≤ n
