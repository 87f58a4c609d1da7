use Rattle.session.proofs.Session.{reached-after}
use Rattle.session.proofs.run_calls.Goals as goal

pub returns-in_err-answer : goal.returns-in_err-answer
returns-in_err-answer g c = reached-after _ _ _ _ _ c.loop.invariant c.answer.ensures

pub loop-preserved : goal.loop-preserved
loop-preserved g c = reached-after _ _ _ _ _ c.loop.invariant c.answer.ensures
