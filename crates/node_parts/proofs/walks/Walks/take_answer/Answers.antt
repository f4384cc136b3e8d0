use Rattle.std.proofs.Common.{◌≡◌, true, false, Some, IsSome, option_map, refl, sym, ap, subst, ◌∙◌}
use Rattle.std.specs.BTreeMap.{get}
use Rattle.node_parts.specs.declared.walks.Walks.{Walks}
use Rattle.node_parts.specs.Walks.{walk_cmp, has_ended}
use Rattle.node_parts.proofs.KeptWalks.{as_walk, Updated, awaits_there, unchanged_at, taken_after, tells_none, tells_some}
use Rattle.node_parts.proofs.walks.Walks.take_answer.Goals.{then-has_ended+in-Some-1, then-has_ended+in-None-1, else-has_ended}
use Rattle.node_parts.proofs.walks.Walks.take_answer.Goals as goal

pub returns-then-not-awaits-clause-takes : goal.returns-then-not-awaits-clause-takes
returns-then-not-awaits-clause-takes g c x walks is are =
    let a = c.args.answer in
    let self = c.args.self.now in
    let walk = c.in-Some.walk.now in
    let new : Walks = record { by_place = c.get_mut.follows.lender walk } in
    let some : get walk_cmp self.by_place (a.p, a.from) ≡ Some walk = sym c.in-Some.ensures.value in
    let up : Updated self new a.p a.from (Some walk) = λ k. ((c.get_mut.follows.holds walk).3 (subst (λ o. IsSome o) (sym some) refl)).0 k in
    tells_none g.S.Row.Crdt.join g.S.Schema.words new a x walks
    (awaits_there a self walks walk false are some (sym c.awaits.ensures ∙ c.if-not-awaits.true))
    (unchanged_at self new a.p a.from walk walks are (ap (option_map (as_walk a.from)) some) up)

pub returns-clause-takes : goal.returns-clause-takes
returns-clause-takes g c x walks is are =
    let a = c.args.answer in
    let self = c.args.self.now in
    let walk = c.in-Some.walk.now in
    let later = c.take_answer.new.walk in
    let end = c.in_ok-end.end in
    let mid : Walks = record { by_place = c.get_mut.follows.lender later } in
    let some : get walk_cmp self.by_place (a.p, a.from) ≡ Some walk = sym c.in-Some.ensures.value in
    let up : Updated self mid a.p a.from (Some later) = λ k. ((c.get_mut.follows.holds later).3 (subst (λ o. IsSome o) (sym some) refl)).0 k in
    tells_some g.S.Row.Crdt.join g.S.Schema.words c.args.contents.now self c.if-has_ended.self a end x walks walk later is are some (sym c.awaits.ensures ∙ c.if-not-awaits.false) c.in_ok-end.ensures.goes_on c.in_ok-end.ensures.spelled
    (elim c.if-has_ended.branch [
      | then-has_ended+in-Some-1 w ↦
          let over : has_ended end ≡ true = sym c.has_ended.ensures ∙ w.if-has_ended.true in
          rw (w.self-is, over) (taken_after self mid (record { by_place = w.remove.new.self }) a.p a.from later up (λ k. w.remove.ensures.updates.0 k))
      | then-has_ended+in-None-1 w ↦
          let over : has_ended end ≡ true = sym c.has_ended.ensures ∙ w.if-has_ended.true in
          rw (w.self-is, over) (taken_after self mid (record { by_place = w.remove.new.self }) a.p a.from later up (λ k. w.remove.ensures.updates.0 k))
      | else-has_ended w ↦
          let more : has_ended end ≡ false = sym c.has_ended.ensures ∙ w.if-has_ended.false in
          rw (w.self-is, more) up
    ])
