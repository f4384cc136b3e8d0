use Rattle.std.specs.Prelude.{◌≡◌, ◌==◌, Some, None, IfSome, slice_get}
use Rattle.std.specs.Option.{option_copied}
use Rattle.std.specs.List.{find}
use Rattle.std.proofs.Common.{ap, sym, ◌∙◌}
use Rattle.gc_model.specs.Collecting.{numbered, keyed}
use Rattle.table_gc.proofs.Keyed.{first_keyed, none_of}
use Rattle.table_gc.proofs.Numbering.{found_number}
use Rattle.table_gc.proofs.collections.Collections.of.Goals as goal

pub returns-in-Some-clause-is : goal.returns-in-Some-clause-is
returns-in-Some-clause-is c =
    let n = c.in-Some.number in
    let first = ap (λ ns. slice_get ns 0) (sym (c.self.invariant.keyed c.args.key.now)) ∙ sym c.first.ensures ∙ c.in-Some.is in
    let same : numbered n c.args.self.now ≡ keyed c.args.key.now c.args.self.now = rw (← c.self.view_is) (first_keyed c.args.key.now n 0 c.self.inside.list c.self.invariant.numbered.rises first) in
    c.numbered.ensures ∙ same

pub returns-in-Some-clause-numbered : goal.returns-in-Some-clause-numbered
returns-in-Some-clause-numbered c =
    let o = c.args.self.now in
    let n = c.in-Some.number in
    elim c.numbered.result as (λ r. option_copied r ≡ numbered n o → IfSome r (λ x. numbered x.now.number o ≡ Some x.now)) [
      | None ↦ λ is. tt
      | Some x ↦ λ is. ap (λ m. numbered m o) (found_number n o.collections x.now (sym is)) ∙ sym is
    ] c.numbered.ensures

pub returns-in-None-clause-is : goal.returns-in-None-clause-is
returns-in-None-clause-is c =
    let first = ap (λ ns. slice_get ns 0) (sym (c.self.invariant.keyed c.args.key.now)) ∙ sym c.first.ensures ∙ c.in-None.is in
    let none : keyed c.args.key.now c.args.self.now ≡ None = rw (← c.self.view_is) (none_of c.args.key.now c.self.inside.list first) in
    sym none
