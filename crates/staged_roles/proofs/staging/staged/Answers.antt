use Rattle.std.proofs.Common.{◌++◌, [], ◌∷◌, nat_lt, ap, sym, ◌∙◌, arith}
use Rattle.std.proofs.lemmas.Bool.{lt-ltb, le-ltb, false≢true}
use Rattle.std.proofs.lemmas.List.{append_assoc, take_all}
use Rattle.std.specs.List.{list_all}
use Rattle.layout_roles.specs.Zones.{nodes_ascend, is_numbered}
use Rattle.cluster_machine.specs.World.{new_role}
use Rattle.staged_roles.proofs.StagedList.{below, more_in, more_out, begun_with, begun_without, read_all, staged_ascends, staged_numbered}
use Rattle.staged_roles.proofs.staging.staged.Goals as goal
use Rattle.staged_roles.proofs.staging.staged.Goals.{then-other-node+in_ok-copy+in_ok-push, else-other-node, in-Some+in_ok-push-2, in_default, then-node-other+in_ok-copy-2+in_ok-push-3, else-node-other}

pub loop-other-preserved : goal.loop-other-preserved
loop-other-preserved c =
    let node = c.args.node in
    let r = c.other-item.result in
    let before = c.loop-other.invariant.list in
    elim c.if-other-node.branch [
      | then-other-node+in_ok-copy+in_ok-push w ↦
          let more = more_in (λ x. nat_lt x.node node) c.as_slice-others.result.now c.loop-other.other-index r c.loop-other-test.true c.other-item.is (lt-ltb r.node node w.if-other-node.true) in
          let same = w.in_ok-copy.ensures.same in
          record { list = w.list-is ∙ (w.in_ok-push.ensures.ok ∙ ((λ i. before i ++ same i ∷ []) ∙ sym more)); role = c.loop-other.invariant.role }
      | else-other-node w ↦
          let more = more_out (λ x. nat_lt x.node node) c.as_slice-others.result.now c.loop-other.other-index r c.loop-other-test.true c.other-item.is (le-ltb r.node node w.if-other-node.false) in
          record { list = w.list-is ∙ (before ∙ sym more); role = c.loop-other.invariant.role }
    ]

pub loop-other-2-init : goal.loop-other-2-init
loop-other-2-init c =
    let others = c.as_slice-others.result.now in
    let before = c.loop-other.invariant.list ∙ ap (below c.args.node) (take_all c.loop-other.other-index others c.loop-other-test.false) in
    let role = sym c.loop-other.invariant.role in
    elim c.match-role-3.branch [
      | in-Some+in_ok-push-2 w ↦
          w.list-is ∙ (w.in_ok-push-2.ensures.ok ∙ (ap (λ xs. xs ++ record { node = c.args.node; zone = w.in-Some.zone; kind = w.in-Some.kind } ∷ []) before
          ∙ begun_with c.args.node c.args.role w.in-Some.zone w.in-Some.kind others (role ∙ w.in-Some.is)))
      | in_default w ↦ w.list-is ∙ (before ∙ begun_without c.args.node c.args.role others (role ∙ w.in_default.is))
    ]

pub loop-other-2-preserved : goal.loop-other-2-preserved
loop-other-2-preserved c =
    let node = c.args.node in
    let others = c.as_slice-others.result.now in
    let r = c.other-item-in-loop-other-2.result in
    let before = c.loop-other-2.invariant in
    let low = below node others ++ new_role node c.args.role [] in
    elim c.if-node-other.branch [
      | then-node-other+in_ok-copy-2+in_ok-push-3 w ↦
          let more = more_in (λ x. nat_lt node x.node) others c.loop-other-2.other-index r c.loop-other-2-test.true c.other-item-in-loop-other-2.is (lt-ltb node r.node w.if-node-other.true) in
          let same = w.in_ok-copy-2.ensures.same in
          w.list-is ∙ (w.in_ok-push-3.ensures.ok ∙ ((λ i. before i ++ same i ∷ []) ∙ (append_assoc low _ _ ∙ ap (λ xs. low ++ xs) (sym more))))
      | else-node-other w ↦
          let more = more_out (λ x. nat_lt node x.node) others c.loop-other-2.other-index r c.loop-other-2-test.true c.other-item-in-loop-other-2.is (le-ltb node r.node w.if-node-other.false) in
          w.list-is ∙ (before ∙ ap (λ xs. low ++ xs) (sym more))
    ]

pub unreachable-requires : goal.unreachable-requires
unreachable-requires c =
    let node = c.args.node in
    let roles = c.args.roles.now in
    let is = read_all node roles c.args.role c.as_slice-others.result.now c.loop-other-2.list c.loop-other-2.other-index c.as_slice-others.ensures c.loop-other-2-test.false c.loop-other-2.invariant in
    false≢true (c.in-None.ensures.some.1 (ap nodes_ascend is ∙ staged_ascends node c.args.role 0 roles.list (omega arith) roles.ascending, ap (list_all is_numbered) is ∙ staged_numbered node c.args.role roles.list (omega arith) roles.numbered))

pub returns-clause-staged : goal.returns-clause-staged
returns-clause-staged c =
    c.in-Some-from_list.ensures.same ∙ read_all c.args.node c.args.roles.now c.args.role c.as_slice-others.result.now c.loop-other-2.list c.loop-other-2.other-index c.as_slice-others.ensures c.loop-other-2-test.false c.loop-other-2.invariant
