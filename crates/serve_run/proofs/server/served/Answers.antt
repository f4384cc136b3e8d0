use Rattle.std.proofs.Common.{inl, inr, ◌∙◌, ◌-◌, refl, ap, map, take, length, Ok}
use Rattle.std.proofs.lemmas.List.{length-map}
use Rattle.serve_cluster.specs.declared.change.Change.{Change}
use Rattle.serve_cluster.specs.Changes.{IsChanging}
use Rattle.serve_run.specs.Told.{told}
use Rattle.serve_run.specs.Answer.{to_show}
use Rattle.serve_run.proofs.Serving.{begins_as, left, how_stopped, members_are, tail_is, unshown_is, unshown_stops, first_stops}
use Rattle.serve_run.proofs.Ending.{caused_on, fault_on, link_before, link_on}
use Rattle.serve_run.proofs.server.served.Goals as goal

pub serve-requires-clause-state : goal.serve-requires-clause-state
serve-requires-clause-state g c =
    let p = c.args.plan in
    let members = members_are p c.as_slice.result.now c.in_ok-members.members c.as_slice.ensures c.in_ok-members.ensures.nodes in
    let b =
    begins_as c.computed_changes_may_come.ensures.may c.members_of_both_are_all.ensures p c.requires.plan c.in_ok-world.world c.new-inner.result c.new-cluster.result c.in_ok-members.members c.in_ok-world.ensures.opened members c.new-inner.ensures
    c.new-cluster.ensures in
    (_, b.stands)

pub returns-in_err-count-clause-how : goal.returns-in_err-count-clause-how
returns-in_err-count-clause-how g c = λ g'.
    let p = c.args.plan in
    let members = members_are p c.as_slice.result.now c.in_ok-members.members c.as_slice.ensures c.in_ok-members.ensures.nodes in
    let b =
    begins_as c.computed_changes_may_come.ensures.may c.members_of_both_are_all.ensures p c.requires.plan c.in_ok-world.world c.new-inner.result c.new-cluster.result c.in_ok-members.members c.in_ok-world.ensures.opened members c.new-inner.ensures
    c.new-cluster.ensures in
    how_stopped c.promises_are_kept.ensures c.a_first_layout_stands_with_the_empty_map.ensures c.connections_are_served_through_changes.ensures.served g' p c.requires.plan.sized (IsChanging c.new-cluster.result) b (IsChanging c.serve.new.store) c.serve.new.served
    (g.C.Clock.times c.args.clock.now) (g.C.Clock.times c.serve.new.clock) (g.L.Link.coming c.args.link.now) (g.L.Link.coming c.serve.new.link) (g.L.Link.past c.args.link.now) (g.L.Link.past c.serve.new.link)
    c.connections_are_served_through_changes.ensures.ended (record { begins = c.states_know_their_requests.ensures.begins; keeps = c.states_know_their_requests.ensures.keeps; middle = c.a_get_of_a_cluster_gives_all_of_it.ensures.middle }) c.args.server.count c.from_residual-in_err-count.result c.in_err-count.field-0.0 c.from_residual-in_err-count.ensures.1 c.in_err-count.ensures.goes (c.in_err-count.ensures.served g')

pub returns-in_err-text-clause-how : goal.returns-in_err-text-clause-how
returns-in_err-text-clause-how g c = λ g'.
    let p = c.args.plan in
    let members = members_are p c.as_slice.result.now c.in_ok-members.members c.as_slice.ensures c.in_ok-members.ensures.nodes in
    let b =
    begins_as c.computed_changes_may_come.ensures.may c.members_of_both_are_all.ensures p c.requires.plan c.in_ok-world.world c.new-inner.result c.new-cluster.result c.in_ok-members.members c.in_ok-world.ensures.opened members c.new-inner.ensures
    c.new-cluster.ensures in
    let times = g.C.Clock.times c.args.clock.now in
    let times' = g.C.Clock.times c.serve.new.clock in
    let coming = g.L.Link.coming c.args.link.now in
    let coming' = g.L.Link.coming c.serve.new.link in
    let past = g.L.Link.past c.args.link.now in
    let past' = g.L.Link.past c.serve.new.link in
    let l =
    left c.promises_are_kept.ensures c.a_first_layout_stands_with_the_empty_map.ensures c.connections_are_served_through_changes.ensures.served g' p c.requires.plan.sized (IsChanging c.new-cluster.result) b (IsChanging c.serve.new.store) c.serve.new.served
    times times' coming coming' past past' c.in_ok-count.count c.in_ok-count.ensures.goes (c.in_ok-count.ensures.served g') in
    unshown_stops g' p (told times times' coming coming' past past') c.in_ok-count.count l.has c.args.server.count c.from_residual-in_err-text.result c.in_err-text.field-0.0 c.from_residual-in_err-text.ensures.1
    (elim c.in_err-text.ensures.causes [
      | inl e ↦ inl e
      | inr h ↦ inr (h.0, to_show c.in_ok-count.count l.has (unshown_is l.at.cluster.run _ l.run (h.1 l.at.cluster.run (c.world.ensures l.at l.stands))))
    ])

pub returns-clause-how : goal.returns-clause-how
returns-clause-how g c = λ g'.
    let p = c.args.plan in
    let members = members_are p c.as_slice.result.now c.in_ok-members.members c.as_slice.ensures c.in_ok-members.ensures.nodes in
    let b =
    begins_as c.computed_changes_may_come.ensures.may c.members_of_both_are_all.ensures p c.requires.plan c.in_ok-world.world c.new-inner.result c.new-cluster.result c.in_ok-members.members c.in_ok-world.ensures.opened members c.new-inner.ensures
    c.new-cluster.ensures in
    let times = g.C.Clock.times c.args.clock.now in
    let times' = g.C.Clock.times c.serve.new.clock in
    let coming = g.L.Link.coming c.args.link.now in
    let coming' = g.L.Link.coming c.serve.new.link in
    let past = g.L.Link.past c.args.link.now in
    let past' = g.L.Link.past c.serve.new.link in
    let l =
    left c.promises_are_kept.ensures c.a_first_layout_stands_with_the_empty_map.ensures c.connections_are_served_through_changes.ensures.served g' p c.requires.plan.sized (IsChanging c.new-cluster.result) b (IsChanging c.serve.new.store) c.serve.new.served
    times times' coming coming' past past' c.in_ok-count.count c.in_ok-count.ensures.goes (c.in_ok-count.ensures.served g') in
    let sets = c.in_ok-later.ensures.sets ∙ ap (map (λ (change : Change). change.shown.certified.sets)) c.as_slice-2.ensures in
    let count = c.len.ensures ∙ (ap (λ xs. length xs) sets ∙ length-map p.changes (λ (change : Change). change.shown.certified.sets)) in
    record {
      number = c.in_ok-count.count;
      within = c.in_ok-count.ensures.within;
      short = c.in_ok-count.ensures.short;
      gone = c.in_ok-count.ensures.gone;
      has = l.has;
      text_is =
          tail_is p l.has.first l.has.jobs c.in_ok-count.count c.left-left.result c.as_slice-3.result.now c.in_ok-text.text
          (c.as_slice-3.ensures ∙ c.truncate.ensures ∙ (ap (λ n. take n c.in_ok-later.later) (c.saturating_sub-made.ensures ∙ ap (λ n. n - c.left-left.result) count) ∙ ap (take (length p.changes - c.left-left.result)) sets))
          (c.left-left.ensures l.at l.stands ∙ ap (λ xs. length xs) l.left) l.at.cluster.run l.run (c.in_ok-text.ensures.text l.at.cluster.run (c.world.ensures l.at l.stands));
    }

pub returns-in_err-world-clause-how : goal.returns-in_err-world-clause-how
returns-in_err-world-clause-how g c = λ g'.
    let t = told (g.C.Clock.times c.args.clock.now) (g.C.Clock.times c.args.clock.now) (g.L.Link.coming c.args.link.now) (g.L.Link.coming c.args.link.now) (g.L.Link.past c.args.link.now) (g.L.Link.past c.args.link.now) in
    first_stops g' c.args.plan t refl c.args.server.count c.from_residual-in_err-world.result c.in_err-world.field-0.0 c.from_residual-in_err-world.ensures.1 c.in_err-world.ensures.want

pub returns-in_err-later-clause-how : goal.returns-in_err-later-clause-how
returns-in_err-later-clause-how g c = λ g'.
    let t = told (g.C.Clock.times c.args.clock.now) (g.C.Clock.times c.args.clock.now) (g.L.Link.coming c.args.link.now) (g.L.Link.coming c.args.link.now) (g.L.Link.past c.args.link.now) (g.L.Link.past c.args.link.now) in
    first_stops g' c.args.plan t refl c.args.server.count c.from_residual-in_err-later.result c.in_err-later.field-0.0 c.from_residual-in_err-later.ensures.1 c.in_err-later.ensures.want

pub returns-in_err-members-clause-how : goal.returns-in_err-members-clause-how
returns-in_err-members-clause-how g c = λ g'.
    let t = told (g.C.Clock.times c.args.clock.now) (g.C.Clock.times c.args.clock.now) (g.L.Link.coming c.args.link.now) (g.L.Link.coming c.args.link.now) (g.L.Link.past c.args.link.now) (g.L.Link.past c.args.link.now) in
    first_stops g' c.args.plan t refl c.args.server.count c.from_residual.result c.in_err-members.field-0.0 c.from_residual.ensures.1 c.in_err-members.ensures.want

pub returns-in_err-count-clause-told : goal.returns-in_err-count-clause-told
returns-in_err-count-clause-told g c = link_on c.in_err-count.field-0.0 c.from_residual-in_err-count.result _ c.from_residual-in_err-count.ensures.1 c.in_err-count.ensures.told

pub returns-in_err-text-clause-told : goal.returns-in_err-text-clause-told
returns-in_err-text-clause-told g c = link_before c.in_ok-count.count c.from_residual-in_err-text.result _ c.in_ok-count.ensures.told

pub returns-clause-told : goal.returns-clause-told
returns-clause-told g c = link_before c.in_ok-count.count (Ok c.in_ok-text.text) _ c.in_ok-count.ensures.told

pub returns-in_err-count-clause-causes : goal.returns-in_err-count-clause-causes
returns-in_err-count-clause-causes g c = caused_on c.in_err-count.field-0.0 c.from_residual-in_err-count.result c.from_residual-in_err-count.ensures.1

pub returns-in_err-count-clause-fault : goal.returns-in_err-count-clause-fault
returns-in_err-count-clause-fault g c = fault_on c.in_err-count.field-0.0 c.from_residual-in_err-count.result c.from_residual-in_err-count.ensures.1 c.in_err-count.ensures.fault
