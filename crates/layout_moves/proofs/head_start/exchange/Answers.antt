use Rattle.std.proofs.Common.{◌≡◌, ◌<◌, List, [], length, IsTrue, sym, ◌∙◌, subst, arith}
use Rattle.std.proofs.lemmas.Option.{get_or_from_slice_get}
use Rattle.layout_roles.specs.declared.role.Role.{Role}
use Rattle.layout_moves.specs.Prices.{may_take}
use Rattle.layout_moves.proofs.Heading.{exchanged}
use Rattle.layout_moves.proofs.head_start.exchange.Goals as goal

pub returns : goal.returns
returns c =
    let sets = c.args.sets.now in
    let set = c.at.result.now in
    let inside : c.args.partition < length sets = omega (arith, c.if-len-partition.false, c.len.ensures) in
    let is = get_or_from_slice_get sets c.args.partition set [] c.at.ensures in
    let take = subst (λ (zs : List (List Role)). IsTrue (may_take c.args.each set c.args.out zs c.args.new)) c.requires.grouped (sym c.takes.ensures ∙ c.if-not-takes.false) in
    record {
      bases = rw c.set.ensures (exchanged c.args.roles.now.list c.args.each sets c.args.partition c.args.out c.args.new set c.swapped.result c.args.roles.now.ascending c.requires.bases inside is (sym c.has.ensures ∙ c.if-not-has.false) take c.swapped.ensures.swap c.swapped.ensures.ascends);
    }
