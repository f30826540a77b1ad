-- The bytes that a call leaves hold the state that the rules leave, so calls one after another follow the rules.
use mathlib.Core.Path.{◌≡◌, refl}
use mathlib.Core.Bool.{Bool, true, false, cond}
use mathlib.Core.List.{List, [], ◌∷◌}
use Prim.Native.Nat.{ℕ, zero, suc}
use native.Mathlib.Omega.{arith}
use lib.Dec.{eqb}
use lib.ListN.{length}
use Rattle.nick.specs.Registers.{fresh_state, written_scan, written}
use Rattle.nick.specs.Blocks.{decoded, block_at, loaded, continued, begun}
use Rattle.nick.specs.Scanline.{ended, next_scan}
use Rattle.nick.specs.Record.{next_state, state_after}
use Rattle.nick.specs.Painting.{painted, refused_painting, paint}
use Rattle.nick.specs.declared.Registers.{Registers}
use Rattle.nick.specs.declared.Scan.{Scan}
use Rattle.nick.specs.declared.State.{State}
use Rattle.script.specs.Steps.{Step, writes, paints, enables, resets, unknown, steps_of, begins, after}
use Rattle.script.specs.Runs.{finished, stopped, done, stop_number, bench_after, run_refusal, Run, refused_run, ran, run}
use Rattle.script.specs.declared.Bench.{Bench}
use Rattle.encoding.specs.Encoding.{encoded, scan_of, state_of}
use Rattle.encoding.proofs.StateBytes.{round_trip}
use Rattle.nick_c.specs.Calls.{is_state, run_from, ran_state}

-- the stored block has eight colours
abbrev pub Eight : State → Type 0
Eight s = length s.scan.block.col ≡ 8

pub bytes_eight : (b : List ℕ) → Eight (state_of b)
unfolding state_of scan_of decoded
bytes_eight b = refl

begun_eight : (g : Registers) (ram : List ℕ) (c : Scan) → length c.block.col ≡ 8 → length (begun g ram c).block.col ≡ 8
unfolding begun loaded continued block_at decoded
begun_eight g ram c h = grind arith

after_eight : (ram : List ℕ) (n : ℕ) (s : State) → Eight s → Eight (state_after ram n s)
unfolding next_state next_scan ended
after_eight ram zero s h = h
after_eight ram (suc n) s h =
    begun_eight (state_after ram n s).registers ram (state_after ram n s).scan (after_eight ram n s h)

module _ (s : State) (h : Eight s) where
  pub paint_eight : (ram : List ℕ) (n : ℕ) (dots records external : List ℕ) → Eight (paint s ram n dots records external).state
  unfolding paint painted refused_painting
  paint_eight ram n dots records external = grind (arith, after_eight ram n s h)

  pub write_eight : (port value : ℕ) → Eight (written s port value)
  unfolding written written_scan
  write_eight port value = grind arith

step_eight : (ram : List ℕ) (step : Step) (b : Bench) → Eight b.state → Eight (after ram step b).state
unfolding after
step_eight ram (writes port value) b h = write_eight b.state h port value
step_eight ram paints b h = after_eight ram 1 b.state h
step_eight ram (enables on) b h = h
step_eight ram resets b h = h
step_eight ram unknown b h = h

steps_eight : (ram : List ℕ) (steps : List Step) (b : Bench) → Eight b.state → Eight (bench_after ram steps b).state
steps_eight ram [] b h = h
steps_eight ram (step ∷ more) b h = steps_eight ram more (after ram step b) (step_eight ram step b h)

-- what each call leaves, read again
pub fresh_chains : state_of (encoded fresh_state) ≡ fresh_state
fresh_chains = round_trip fresh_state refl

module _ (b : List ℕ) where
  pub write_chains : (port value : ℕ) → state_of (encoded (written (state_of b) port value)) ≡ written (state_of b) port value
  write_chains port value = round_trip (written (state_of b) port value) (write_eight (state_of b) (bytes_eight b) port value)

  pub paint_chains : (ram : List ℕ) (n : ℕ) (dots records external : List ℕ) → state_of (encoded (paint (state_of b) ram n dots records external).state) ≡ (paint (state_of b) ram n dots records external).state
  paint_chains ram n dots records external =
      round_trip (paint (state_of b) ram n dots records external).state (paint_eight (state_of b) (bytes_eight b) ram n dots records external)

  module _ (ram script dots records external : List ℕ) where
    abbrev steps : List Step
    steps = steps_of script

    -- the state after the steps that are done
    abbrev left : State
    left = (bench_after ram (done steps) (begins (state_of b))).state

    left_chains : state_of (encoded left) ≡ left
    left_chains = round_trip left (steps_eight ram (done steps) (begins (state_of b)) (bytes_eight b))

    began_chains : (all : Bool) (n place : ℕ) → state_of (ran_state (cond all finished (stopped n place)) left b) ≡ left
    began_chains true n place = left_chains
    began_chains false n place = left_chains

    abbrev Chains : Run → Type 0
    Chains x = state_of (ran_state x.ended x.bench.state b) ≡ x.bench.state

    -- refused before its first step, a run leaves the bytes, and so the state as it was given
    pub run_chains : Chains (run_from b ram script dots records external)
    unfolding run_from run ran refused_run
    run_chains = go (is_state b) (eqb refusal 0) _
      where
        refusal : ℕ
        refusal = run_refusal (state_of b) ram script dots records external

        go : (whole accepted : Bool) (other : ℕ) → Chains (cond whole (cond accepted (ran (state_of b) ram script dots records external) (refused_run refusal (state_of b) dots records)) (refused_run other (state_of b) dots records))
        go true true other = began_chains (eqb (stop_number steps) 0) _ _
        go true false other = refl
        go false accepted other = refl
