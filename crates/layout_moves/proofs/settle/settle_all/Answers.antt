use Rattle.std.proofs.Common.{ℕ, ◌<◌, IsTrue, [], length, ◌∙◌, subst, arith}
use Rattle.std.proofs.lemmas.List.{length-set}
use Rattle.std.proofs.lemmas.List.Sums.{AllPass-from_list_all, list_all-from_AllPass}
use Rattle.std.proofs.lemmas.Option.{get_or_from_slice_get}
use Rattle.layout_roles.specs.Zones.{set_ascends}
use Rattle.layout_roles.specs.Fits.{NodeSet, set_at}
use Rattle.layout_moves.specs.Prices.{IsBase, IsCheap, asked}
use Rattle.layout_moves.proofs.Steps.{all_set, all_at}
use Rattle.layout_moves.proofs.settle.settle_all.Goals as goal

pub settled-set-requires-clause-ascends : goal.settled-set-requires-clause-ascends
settled-set-requires-clause-ascends c =
    let inv = c.loop-p.invariant in
    let w = inv.whole in
    let r = c.requires.whole in
    let inside : c.loop-p.p < length c.loop-p.sets = omega arith in
    subst (λ (x : NodeSet). IsTrue (set_ascends x)) (get_or_from_slice_get c.loop-p.sets c.loop-p.p c.at.result.now [] c.at.ensures) (AllPass-from_list_all set_ascends c.loop-p.sets inv.ascending c.loop-p.p [] inside)

pub loop-p-preserved : goal.loop-p-preserved
loop-p-preserved c =
    let inv = c.loop-p.invariant in
    let w = inv.whole in
    let r = c.requires.whole in
    let p = c.loop-p.p in
    let sets = c.loop-p.sets in
    let new = c.settled-set.result in
    let inside : p < length sets = omega arith in
    let asks : ℕ → ℕ → ℕ = λ q. asked c.args.fee (set_at c.args.old.now q) c.args.prices.now in
    rw c.set.ensures (record {
      whole = length-set sets p new ∙ inv.whole;
      bases = all_set (IsBase c.args.roles.now.list c.args.each) sets p new inside inv.bases c.settled-set.ensures.base;
      ascending = list_all-from_AllPass set_ascends _ (all_set (λ x. IsTrue (set_ascends x)) sets p new inside (AllPass-from_list_all set_ascends sets inv.ascending) c.settled-set.ensures.ascends);
      cheap = λ q less. all_at (λ n x. IsCheap 1 c.args.each c.args.groups.now (asks n) x) sets p new inside q (λ _. c.settled-set.ensures.cheap) (λ apart. inv.cheap q (omega arith));
    })
