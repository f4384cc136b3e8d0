use Rattle.audit_model.proofs.Decided.{said_is, is_said}
use Rattle.audit_model.proofs.Unique.{one_said}
use Rattle.audit_laws.proofs.lines_say_one_thing.Goals as goal

pub returns : goal.returns
returns c = record { read = λ line said. (said_is line said, is_said line said); one = one_said }
