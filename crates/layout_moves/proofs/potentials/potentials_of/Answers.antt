use Rattle.std.proofs.Common.{◌≡◌, ◌++◌, [], ◌∷◌, List, sym, ap, ◌∙◌, arith, rules, append_assoc}
use Rattle.std.specs.Prelude.{ℕ, ℤ, pos, ◌-ℤ◌}
use mir.Syntax.{w64}
use mir.Val.{SFits}
use Rattle.std.proofs.lemmas.Int.{ints, to_z-of_z}
use Rattle.std.specs.List.{flat_map, range_with_len}
use Rattle.layout_roles.specs.declared.vertex.Vertex.{Vertex}
use Rattle.layout_roles.specs.declared.vertex.Vertex.TheVariants.{Sink}
use Rattle.layout_moves.specs.Prices.{potential}
use Rattle.layout_moves.specs.Listing.{partition_listing, node_listing, listing}
use Rattle.layout_moves.proofs.Adding.{parts_push}
use Rattle.layout_moves.proofs.potentials.potentials_of.Goals as goal

less_none : (n : ℕ) → pos n -ℤ pos 0 ≡ pos n
less_none n = omega (arith, ints)

pub loop-p-preserved : goal.loop-p-preserved
loop-p-preserved c =
    let roles = c.args.roles.now.list in
    let part = partition_listing (potential roles c.args.each c.args.old.now c.args.sets.now c.args.prices.now c.args.top) roles in
    c.in_ok-add_partition.ensures.ok ∙ ap (λ (xs : List (Vertex × ℤ)). xs ++ part c.loop-p.p) c.loop-p.invariant ∙ sym (parts_push part c.loop-p.p)

pub returns-clause-listed : goal.returns-clause-listed
unfolding listing
returns-clause-listed c =
    let roles = c.args.roles.now.list in
    let potentials = potential roles c.args.each c.args.old.now c.args.sets.now c.args.prices.now c.args.top in
    let end : c.loop-p.p ≡ 256 = omega arith in
    let parts : c.loop-p.list ≡ flat_map (partition_listing potentials roles) (range_with_len 0 256) = c.loop-p.invariant ∙ ap (λ n. flat_map (partition_listing potentials roles) (range_with_len 0 n)) end in
    let fits : SFits w64 c.below.result = search rules in
    let zero = to_z-of_z w64 c.below.result fits ∙ c.below.ensures ∙ less_none c.args.top in
    c.in_ok-push.ensures.ok
    ∙ ap (λ z. c.add_nodes.new.list ++ (Sink, z) ∷ []) zero
    ∙ ap (λ (xs : List (Vertex × ℤ)). xs ++ (Sink, pos c.args.top) ∷ []) (c.in_ok-add_nodes.ensures.ok ∙ ap (λ (xs : List (Vertex × ℤ)). xs ++ node_listing potentials roles) parts)
    ∙ append_assoc (flat_map (partition_listing potentials roles) (range_with_len 0 256)) (node_listing potentials roles) ((Sink, pos c.args.top) ∷ [])
