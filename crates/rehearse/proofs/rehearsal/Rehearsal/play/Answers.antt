use Rattle.rehearse.proofs.Reached.{returned}
use Rattle.rehearse.proofs.rehearsal.Rehearsal.play.Goals as goal

pub returns-clause-reached : goal.returns-clause-reached
returns-clause-reached c = returned c.args.self.now _ c.in-Some.step c.play_step.result c.play_step.ensures
