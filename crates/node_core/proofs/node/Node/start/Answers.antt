use Rattle.std.proofs.Common.{map, ap, subst, ◌∙◌}
use Rattle.std.proofs.lemmas.Result.{IfOk-weaker, IfErr-weaker}
use Rattle.node_parts.specs.Sends.{with_others, StartsAll}
use Rattle.node_parts.proofs.WalkSends.{causes_more}
use Rattle.node_core.proofs.Moves.{started, cannot_start}
use Rattle.node_core.proofs.node.Node.start.Goals as goal

pub returns-clause-starts : goal.returns-clause-starts
returns-clause-starts g c =
    let join = g.S.Row.Crdt.join in
    let s = g.S.Schema.words in
    let self = c.args.self.now in
    let places = map (λ place. (place.0, place.1.items)) c.as_slice.result.now in
    let are = ap (map (λ place. (place.0, place.1.items))) c.as_slice.ensures.value ∙ (c.in_ok-places.ensures.are ∙ ap (λ t. with_others t.node c.args.parts.now) c.sender-sender.ensures) in
    IfOk-weaker c.start_all.result _ _
    (λ begun starts id x is. started self c.args.number id c.args.parts.now places c.args.out.now.items c.start_all.new.out.items begun.items x is are
    (subst (λ t. StartsAll join s t self.contents places c.args.out.now.items c.start_all.new.out.items begun.items) c.sender-sender.ensures starts))
    c.start_all.ensures.starts

pub returns-clause-causes : goal.returns-clause-causes
returns-clause-causes g c =
    let places = map (λ place. (place.0, place.1.items)) c.as_slice.result.now in
    let are = ap (map (λ place. (place.0, place.1.items))) c.as_slice.ensures.value ∙ (c.in_ok-places.ensures.are ∙ ap (λ t. with_others t.node c.args.parts.now) c.sender-sender.ensures) in
    IfErr-weaker c.start_all.result _ _ (λ e cause. causes_more e (λ fails. cannot_start c.args.self.now c.args.parts.now places are fails) cause) c.start_all.ensures.causes
