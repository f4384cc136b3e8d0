-- What is admitted of a head that asks nothing that is served.
use Rattle.std.proofs.Common.{ℕ, Err, ap}
use Rattle.layout_text.specs.declared.keys.Access.{Access}
use Rattle.http_model.specs.declared.head.Head.{Head}
use Rattle.s3_model.specs.declared.fault.AskFault.{AskFault}
use Rattle.s3_model.specs.declared.fault.AskFault.TheVariants.{Refused, Memory}
use Rattle.s3_model.specs.Asks.{Understands}
use Rattle.serve_model.specs.Admitting.{if_asked, Admits}

pub not_asked : (access : Access) (now : ℕ) (head : Head) (f : AskFault) → Understands head (Err f) → Admits access now head (Err f)
not_asked access now head (Refused fault) e = ap (if_asked access now head) e
not_asked access now head Memory e = tt
