use Rattle.session.specs.Session.{Reached}
use Rattle.session.proofs.run_calls.Given as goal

abbrev pub invariant-loop : goal.invariant-loop
invariant-loop g l = Reached l.desk
