use Rattle.std.proofs.Common.{List, ℕ, Option, ap, subst, take}
use Rattle.http_model.specs.declared.head.Head.{Head}
use Rattle.http_model.specs.Heads.{IsNoHead, IsReading}
use Rattle.http_wire.proofs.whole.take_head.Goals as goal

pub returns-in-Ok-None-clause-bad : goal.returns-in-Ok-None-clause-bad
returns-in-Ok-None-clause-bad c = λ e.
    let R : Option Head → Type 0 = IsReading (take c.args.end c.deref.result.now) in
    let P : List ℕ → Type 0 = IsNoHead in
    subst P (ap (take c.args.end) c.deref.ensures.value) (subst R c.in-Ok-None.field-0-is c.in-Ok-None.ensures.head)
