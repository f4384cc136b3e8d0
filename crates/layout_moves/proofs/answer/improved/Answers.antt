use Rattle.std.proofs.Common.{◌≡◌, ℕ, ◌+◌, ◌-◌, ◌/◌, ◌%◌, ◌<◌, ◌≤◌, nat_lt, IsTrue, List, ◌∷◌, length, map, sym, ap, ◌∙◌, subst, arith}
use Rattle.std.specs.Prelude.{ℤ, pos}
use Rattle.std.specs.List.{list_all}
use Rattle.layout_roles.specs.declared.role.Role.{Role}
use Rattle.layout_roles.specs.Zones.{zones}
use Rattle.layout_roles.specs.Fits.{NodeSet, partitions, set_at}
use Rattle.layout_flow.proofs.Whole.{few_zones}
use Rattle.layout_moves.specs.Moves.{moves, bound, potentials}
use Rattle.layout_moves.specs.Prices.{asked, dearest, potential}
use Rattle.layout_moves.specs.Listing.{listing}
use Rattle.layout_moves.proofs.Limit.{base_of_fits}
use Rattle.layout_moves.proofs.Ending.{Ended, ended_fits, ended_bound, fewest_from}
use Rattle.layout_roles.specs.declared.vertex.Vertex.{Vertex}
use Rattle.layout_roles.specs.declared.vertex.Vertex.TheVariants.{Source}
use Rattle.layout_moves.proofs.Ordered.{in_vertex_order}
use Rattle.layout_moves.proofs.answer.improved.Goals as goal

pub settle_all-requires-clause-bases : goal.settle_all-requires-clause-bases
settle_all-requires-clause-bases c = base_of_fits partitions c.args.roles.now.list c.args.r c.args.size c.args.start.sets c.requires.high c.args.roles.now.ascending c.requires.fits

pub potentials_of-requires-clause-few : goal.potentials_of-requires-clause-few
potentials_of-requires-clause-few c =
    let roles = c.args.roles.now in
    let few = few_zones roles.list roles.ascending roles.numbered in
    let same = ap (λ (zs : List (List Role)). length zs) (c.as_slice-groups.ensures ∙ c.in_ok-zones.ensures.groups ∙ ap zones c.as_slice.ensures) in
    omega (arith, few, same)

pub returns-clause-fits : goal.returns-clause-fits
returns-clause-fits c =
    let roles = c.args.roles.now in
    ended_fits roles.list c.args.r c.args.size c.as_slice-old.result.now c.hold_auction.new.sets c.hold_auction.new.prices c.requires.low c.requires.high roles.ascending c.hold_auction.ensures.priced c.hold_auction.ensures.within

pub returns-clause-bound : goal.returns-clause-bound
returns-clause-bound c =
    let roles = c.args.roles.now in
    let old = c.as_slice-old.result.now in
    let sets = c.hold_auction.new.sets in
    let prices = c.hold_auction.new.prices in
    let exact = c.in_ok-prices-2.prices in
    let shift = c.shift_of-shift.result in
    let top = c.top_of-top.result in
    let priced = c.hold_auction.ensures.priced in
    let five = c.as_slice-5.ensures in
    let six = c.as_slice-6.ensures in
    let len = ap (λ (xs : List NodeSet). length xs) five in
    let topped : (p : ℕ) → p < 256 → dearest (asked 1 (set_at old p) exact) (set_at sets p) ≤ top = λ p less.
    subst (λ (xs : List ℕ). dearest (asked 1 (set_at old p) xs) (set_at sets p) ≤ top) six
    (subst (λ (xs : List NodeSet). dearest (asked 1 (set_at old p) c.as_slice-6.result.now) (set_at xs p) ≤ top) five (c.top_of-top.ensures.topped p (let w = priced.whole in omega arith))) in
    let ended : Ended roles.list c.args.r c.args.size old sets prices exact shift top = record {
      priced = priced;
      within = c.hold_auction.ensures.within;
      small = c.shift_of-shift.ensures.small;
      clear = subst (λ (xs : List ℕ). IsTrue (list_all (λ price. nat_lt 0 ((price + shift) % 66)) xs)) c.as_slice-3.ensures c.shift_of-shift.ensures.clear;
      exact_is = c.in_ok-prices-2.ensures.rounded ∙ ap (λ (xs : List ℕ). map (λ price. (price + shift) / 66) xs) c.as_slice-4.ensures;
      topped = topped;
    } in
    let listed = c.in_ok-potentials.ensures.listed ∙ ap (λ (xs : List NodeSet). listing 256 (potential roles.list (4 - c.args.r) old xs c.as_slice-8.result.now top) roles.list) c.as_slice-7.ensures
    ∙ ap (λ (xs : List ℕ). listing 256 (potential roles.list (4 - c.args.r) old sets xs top) roles.list) c.as_slice-8.ensures in
    let whole = ended_bound roles.list c.args.r c.args.size old sets prices exact shift top c.in_ok-potentials.potentials c.requires.low c.requires.high roles.ascending roles.numbered ended listed in
    let count : c.count_moves-moves.result ≡ moves old sets = c.count_moves-moves.ensures ∙ ap (moves old) c.as_slice-9.ensures in
    let bounded : bound roles.list c.args.r c.args.size c.args.old.now.sets (potentials c.in_ok-potentials.potentials) ≡ pos c.count_moves-moves.result =
    subst (λ (xs : List NodeSet). bound roles.list c.args.r c.args.size xs (potentials c.in_ok-potentials.potentials) ≡ pos c.count_moves-moves.result) c.as_slice-old.ensures (whole ∙ ap pos (sym count)) in
    bounded

pub returns-clause-fewest : goal.returns-clause-fewest
returns-clause-fewest c = λ other fits.
    let roles = c.args.roles.now in
    let old = c.as_slice-old.result.now in
    let sets = c.hold_auction.new.sets in
    let prices = c.hold_auction.new.prices in
    let exact = c.in_ok-prices-2.prices in
    let shift = c.shift_of-shift.result in
    let top = c.top_of-top.result in
    let priced = c.hold_auction.ensures.priced in
    let five = c.as_slice-5.ensures in
    let six = c.as_slice-6.ensures in
    let len = ap (λ (xs : List NodeSet). length xs) five in
    let topped : (p : ℕ) → p < 256 → dearest (asked 1 (set_at old p) exact) (set_at sets p) ≤ top = λ p less.
    subst (λ (xs : List ℕ). dearest (asked 1 (set_at old p) xs) (set_at sets p) ≤ top) six
    (subst (λ (xs : List NodeSet). dearest (asked 1 (set_at old p) c.as_slice-6.result.now) (set_at xs p) ≤ top) five (c.top_of-top.ensures.topped p (let w = priced.whole in omega arith))) in
    let ended : Ended roles.list c.args.r c.args.size old sets prices exact shift top = record {
      priced = priced;
      within = c.hold_auction.ensures.within;
      small = c.shift_of-shift.ensures.small;
      clear = subst (λ (xs : List ℕ). IsTrue (list_all (λ price. nat_lt 0 ((price + shift) % 66)) xs)) c.as_slice-3.ensures c.shift_of-shift.ensures.clear;
      exact_is = c.in_ok-prices-2.ensures.rounded ∙ ap (λ (xs : List ℕ). map (λ price. (price + shift) / 66) xs) c.as_slice-4.ensures;
      topped = topped;
    } in
    let listed = c.in_ok-potentials.ensures.listed ∙ ap (λ (xs : List NodeSet). listing 256 (potential roles.list (4 - c.args.r) old xs c.as_slice-8.result.now top) roles.list) c.as_slice-7.ensures
    ∙ ap (λ (xs : List ℕ). listing 256 (potential roles.list (4 - c.args.r) old sets xs top) roles.list) c.as_slice-8.ensures in
    let whole = ended_bound roles.list c.args.r c.args.size old sets prices exact shift top c.in_ok-potentials.potentials c.requires.low c.requires.high roles.ascending roles.numbered ended listed in
    let count : c.count_moves-moves.result ≡ moves old sets = c.count_moves-moves.ensures ∙ ap (moves old) c.as_slice-9.ensures in
    let bounded : bound roles.list c.args.r c.args.size c.args.old.now.sets (potentials c.in_ok-potentials.potentials) ≡ pos c.count_moves-moves.result =
    subst (λ (xs : List NodeSet). bound roles.list c.args.r c.args.size xs (potentials c.in_ok-potentials.potentials) ≡ pos c.count_moves-moves.result) c.as_slice-old.ensures (whole ∙ ap pos (sym count)) in
    fewest_from roles.list c.args.r c.args.size c.args.old.now.sets other c.in_ok-potentials.potentials c.count_moves-moves.result c.requires.low c.requires.high roles.ascending bounded fits

pub returns-clause-listed : goal.returns-clause-listed
unfolding partitions
returns-clause-listed c =
    let roles = c.args.roles.now.list in
    let one = potential roles (4 - c.args.r) c.as_slice-old.result.now c.as_slice-7.result.now c.as_slice-8.result.now c.top_of-top.result in
    ap (λ (list : List (Vertex × ℤ)). Source ∷ map (λ entry. entry.0) list) c.in_ok-potentials.ensures.listed ∙ in_vertex_order 256 one roles
