-- `script::steps::do_steps`: one step more, and a refused one. With these laws in `using` the check gives up at its limits.
use Rattle.std.proofs.Common.{rules}
use Rattle.script.proofs.Going.{going_more, going_stop}
use Rattle.script.proofs.steps.do_steps.Goals as goal

pub loop-place-preserved : goal.loop-place-preserved
loop-place-preserved c =
    going_more c.loop-place.invariant c.requires.accepted c.as_chunks.ensures.front c.as_chunks.ensures.front_len c.loop-place-test.true
    c.do_step-done.ensures.does (search rules) (search rules) c.in-Ok.ensures.refusal

pub returns-in_default : goal.returns-in_default
returns-in_default c =
    going_stop c.loop-place.invariant c.requires.accepted c.as_chunks.ensures.front c.as_chunks.ensures.front_len c.loop-place-test.true
    c.do_step-done.ensures.does (search rules) (search rules) c.unwrap_err.result (search rules)
