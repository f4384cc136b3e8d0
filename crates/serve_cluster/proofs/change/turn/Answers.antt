use Rattle.serve_cluster.proofs.Acting.{cause_more}
use Rattle.serve_cluster.proofs.change.turn.Goals as goal

pub returns-in-Ok-clause-does : goal.returns-in-Ok-clause-does
returns-in-Ok-clause-does c = c.event_of-event.ensures.does c.args.world.now c.step.new.self c.in-Ok.field-0 c.in-Ok.ensures.plays

pub returns-clause-causes : goal.returns-clause-causes
returns-clause-causes c = cause_more c.in-Err.memory (c.event_of-event.ensures.causes c.args.world.now) c.in-Err.ensures.causes
