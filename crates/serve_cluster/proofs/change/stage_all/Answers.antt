use Rattle.std.proofs.Common.{◌≡◌, ◌∷◌, length, take, drop, ◌-◌, sym, ◌∙◌, ap, subst}
use Rattle.store_model.specs.Run.{plainly}
use Rattle.store_model.specs.Acts.{moves}
use Rattle.change_deeds.specs.Deeds.{staged_as}
use Rattle.serve_cluster.proofs.Acting.{cause_more}
use Rattle.serve_cluster.proofs.Going.{Going, begins, going_store, one_done, one_lacks_room, all_done, first_of, none_of}
use Rattle.serve_cluster.proofs.Staging.{AreNodes, nodes_so, ascends_so, in_acts}
use Rattle.serve_cluster.proofs.change.stage_all.Goals as goal

pub roles-init : goal.roles-init
roles-init c = record {
  nodes = subst AreNodes (sym c.as_slice-rest.ensures) (nodes_so 0 c.args.roles.now.list (ascends_so 0 c.args.roles.now.list c.args.roles.now.ascending) c.args.roles.now.numbered);
  going =
      subst (λ rs. Going c.args.world.now c.args.world.now (in_acts c.args.roles.now.list) (in_acts rs)) (sym c.as_slice-rest.ensures)
      (begins c.args.world.now (in_acts c.args.roles.now.list));
}

pub stage-requires-clause-stands : goal.stage-requires-clause-stands
stage-requires-clause-stands c = going_store c.args.world.now c.roles.world (in_acts c.args.roles.now.list) (in_acts c.roles.rest.now) c.requires c.roles.invariant.going

pub stage-requires-clause-low : goal.stage-requires-clause-low
stage-requires-clause-low c =
    let later = take (length c.roles.rest.now - 1) (drop 1 c.roles.rest.now) in
    let first : c.roles.rest.now ≡ c.index-rest-0.result ∷ later = first_of c.roles.rest.now c.index-rest-0.result c.roles-test.ensures ∙ ap (λ r. r ∷ later) (sym c.index-rest-0.is) in
    (subst AreNodes first c.roles.invariant.nodes).0

pub stage-requires-clause-high : goal.stage-requires-clause-high
stage-requires-clause-high c =
    let later = take (length c.roles.rest.now - 1) (drop 1 c.roles.rest.now) in
    let first : c.roles.rest.now ≡ c.index-rest-0.result ∷ later = first_of c.roles.rest.now c.index-rest-0.result c.roles-test.ensures ∙ ap (λ r. r ∷ later) (sym c.index-rest-0.is) in
    (subst AreNodes first c.roles.invariant.nodes).1

pub roles-preserved : goal.roles-preserved
roles-preserved c =
    let later = take (length c.roles.rest.now - 1) (drop 1 c.roles.rest.now) in
    let first : c.roles.rest.now ≡ c.index-rest-0.result ∷ later = first_of c.roles.rest.now c.index-rest-0.result c.roles-test.ensures ∙ ap (λ r. r ∷ later) (sym c.index-rest-0.is) in
    record {
      nodes = (subst AreNodes first c.roles.invariant.nodes).2;
      going =
          one_done c.args.world.now c.roles.world c.stage.new.world (in_acts c.args.roles.now.list) (in_acts c.roles.rest.now) (moves (plainly (staged_as c.index-rest-0.result))) (in_acts later) (ap in_acts first) c.roles.invariant.going c.in-Ok.ensures.does;
    }

pub returns-in-Err-clause-causes : goal.returns-in-Err-clause-causes
returns-in-Err-clause-causes c =
    let later = take (length c.roles.rest.now - 1) (drop 1 c.roles.rest.now) in
    let first : c.roles.rest.now ≡ c.index-rest-0.result ∷ later = first_of c.roles.rest.now c.index-rest-0.result c.roles-test.ensures ∙ ap (λ r. r ∷ later) (sym c.index-rest-0.is) in
    cause_more c.in-Err.memory
    (one_lacks_room c.args.world.now c.roles.world (in_acts c.args.roles.now.list) (in_acts c.roles.rest.now) (moves (plainly (staged_as c.index-rest-0.result))) (in_acts later) (ap in_acts first) c.roles.invariant.going) c.in-Err.ensures.causes

pub returns-clause-does : goal.returns-clause-does
returns-clause-does c = all_done c.args.world.now c.roles.world (in_acts c.args.roles.now.list) (in_acts c.roles.rest.now) (ap in_acts (none_of c.roles.rest.now c.roles-test.ensures)) c.roles.invariant.going
