use Rattle.std.proofs.Common.{◌∙◌, sym}
use Rattle.serve_cluster.proofs.Acting.{expired_open, expire_lacks, cause_more}
use Rattle.serve_cluster.proofs.acts.expire.Goals as goal

pub returns-in-Ok-clause-does : goal.returns-in-Ok-clause-does
returns-in-Ok-clause-does c = expired_open c.args.world.now c.step.new.self c.in-Ok.field-0 c.args.request c.args.end.now (sym c.is_some.ensures ∙ c.if-is_some.false) c.in-Ok.ensures.plays

pub returns-clause-causes : goal.returns-clause-causes
returns-clause-causes c = cause_more c.in-Err.memory (expire_lacks c.args.world.now c.args.request c.args.end.now (sym c.is_some.ensures ∙ c.if-is_some.false)) c.in-Err.ensures.causes
