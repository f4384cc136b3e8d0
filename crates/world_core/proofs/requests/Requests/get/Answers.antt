use Rattle.std.proofs.Common.{Some, sym, ap, ◌∙◌, arith}
use Rattle.std.proofs.lemmas.List.{length-map}
use Rattle.world_core.specs.Parts.{asked}
use Rattle.world_core.proofs.Asked.{asked_at, numbered_low, numbered_past}
use Rattle.world_core.proofs.requests.Requests.get.Goals as goal
use Rattle.world_core.proofs.requests.Requests.get.Goals.{else-number-ge1-via-then-number-ge1+else-number-len, else-number-ge1-via-else-number-ge1}

pub returns-then-number-len : goal.returns-then-number-len
returns-then-number-len c =
    rw (← c.self.view_is) (ap (λ r. Some (asked r)) c.index.ensures ∙ asked_at c.self.inside.list.items c.args.number c.index.result.now (omega arith) (omega arith))

pub returns-else-number-ge1 : goal.returns-else-number-ge1
returns-else-number-ge1 c =
    rw (← c.self.view_is)
    (elim c.else-number-ge1.branch [
      | else-number-ge1-via-then-number-ge1+else-number-len w ↦ sym (numbered_past _ c.args.number (rw length-map (omega arith)))
      | else-number-ge1-via-else-number-ge1 w ↦ sym (numbered_low _ c.args.number (omega arith))
    ])
