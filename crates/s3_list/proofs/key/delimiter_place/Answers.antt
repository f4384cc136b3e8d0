use Rattle.std.proofs.Common.{nat_eq, drop, length, sym, ◌∙◌, Bool, ℕ}
use Rattle.std.specs.List.{starts_with}
use Rattle.s3_list.proofs.Places.{least_later}
use Rattle.s3_list.proofs.key.delimiter_place.Goals as goal

pub loop-place-preserved : goal.loop-place-preserved
loop-place-preserved c =
    let test : ℕ → Bool = λ i. starts_with nat_eq (drop i c.args.key.now) c.args.delimiter.now in
    sym (least_later test c.loop-place.place (length c.args.key.now) c.loop-place-test.true (sym c.stands_at.ensures.same ∙ c.if-stands_at.false)) ∙ c.loop-place.invariant
