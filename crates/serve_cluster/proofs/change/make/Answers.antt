use Rattle.std.proofs.Common.{◌≡◌, ◌++◌, map, ap, subst, ◌∙◌}
use Rattle.cluster_machine.specs.Phases.{in_order}
use Rattle.serve_model.specs.Clusters.{asker}
use Rattle.serve_cluster.specs.Acting.{LacksRoom}
use Rattle.serve_cluster.specs.Changes.{nodes_of, acts_at, DoesIn}
use Rattle.change_deeds.specs.Deeds.{act_of, acts_past_apply}
use Rattle.serve_cluster.proofs.Acting.{cause_more}
use Rattle.serve_cluster.proofs.Making.{makes, make_lacks}
use Rattle.serve_cluster.proofs.change.make.Goals as goal

pub returns-in-Ok-clause-does : goal.returns-in-Ok-clause-does
returns-in-Ok-clause-does c =
    let node : c.asker-node.result ≡ asker c.args.older.now = c.asker-node.ensures in
    let newer : c.in_ok-newer.newer ≡ nodes_of c.args.change.shown.roles.list = c.in_ok-newer.ensures.nodes ∙ ap nodes_of c.as_slice-roles.ensures in
    let part : c.as_slice-2.result.now ≡ in_order (c.args.older.now ++ nodes_of c.args.change.shown.roles.list) = c.as_slice-2.ensures ∙ (c.in_ok-part.ensures.both ∙ ap (λ ns. in_order (c.args.older.now ++ ns)) (c.as_slice.ensures ∙ newer)) in
    let does =
    subst (λ ds. DoesIn c.args.world.now c.stage_and_apply.new.world (acts_at (asker c.args.older.now) c.args.change (map act_of ds))) c.as_slice-3.ensures
    (subst (λ n. DoesIn c.args.world.now c.stage_and_apply.new.world (acts_at n c.args.change (map act_of c.as_slice-3.result.now))) node c.in-Ok.ensures.does) in
    makes c.args.world.now c.args.older.now c.args.change (map act_of c.in_ok-deeds.deeds) (c.in_ok-deeds.ensures.deeds ∙ (λ i. acts_past_apply (node i) (part i))) c.stage_and_apply.new.world c.forget_delivered.new.self does c.forget_delivered.ensures

pub returns-in-Err-clause-causes : goal.returns-in-Err-clause-causes
returns-in-Err-clause-causes c =
    let node : c.asker-node.result ≡ asker c.args.older.now = c.asker-node.ensures in
    let newer : c.in_ok-newer.newer ≡ nodes_of c.args.change.shown.roles.list = c.in_ok-newer.ensures.nodes ∙ ap nodes_of c.as_slice-roles.ensures in
    let part : c.as_slice-2.result.now ≡ in_order (c.args.older.now ++ nodes_of c.args.change.shown.roles.list) = c.as_slice-2.ensures ∙ (c.in_ok-part.ensures.both ∙ ap (λ ns. in_order (c.args.older.now ++ ns)) (c.as_slice.ensures ∙ newer)) in
    cause_more c.in-Err.memory
    (λ full. make_lacks c.args.world.now c.args.older.now c.args.change (map act_of c.in_ok-deeds.deeds) (c.in_ok-deeds.ensures.deeds ∙ (λ i. acts_past_apply (node i) (part i)))
    (subst (λ ds. LacksRoom c.args.world.now (acts_at (asker c.args.older.now) c.args.change (map act_of ds))) c.as_slice-3.ensures
    (subst (λ n. LacksRoom c.args.world.now (acts_at n c.args.change (map act_of c.as_slice-3.result.now))) node full)))
    c.in-Err.ensures.causes
