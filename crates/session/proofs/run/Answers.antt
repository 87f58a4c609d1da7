use Rattle.session.proofs.Session.{reached-fresh}
use Rattle.session.proofs.run.Goals as goal

pub run_calls-requires : goal.run_calls-requires
run_calls-requires g c = reached-fresh _ c.new-desk.ensures
