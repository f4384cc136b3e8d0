use Rattle.std.proofs.Common.{◌≡◌, ◌<◌, ◌^◌, suc, None, inr, refl, ap, sym, subst, ◌∙◌, add-one, arith}
use Rattle.std.specs.List.{AllByRecursion}
use Rattle.layout_roles.specs.declared.layout.Layout.{Layout}
use Rattle.cluster_machine.specs.Node.{Node as Model}
use Rattle.cluster_machine.specs.Phases.{call_at, with_call, calls_now, begins}
use Rattle.cluster_machine.specs.Layouts.{layouts}
use Rattle.node_parts.specs.Posts.{Posts}
use Rattle.node_core.specs.Stands.{StandsFor, Done, begins_at}
use Rattle.node_core.proofs.Nodes.{same_contents}
use Rattle.node_parts.proofs.Answered.{request_is}
use Rattle.node_core.proofs.Phases.{some_of, has_one, version_called, counted, enters}
use Rattle.node_core.proofs.node.Node.phase.Goals as goal

pub returns-in_default-checked_add-clause-causes : goal.returns-in_default-checked_add-clause-causes
returns-in_default-checked_add-clause-causes g c = inr (
  refl,
  λ kept id x is fits.
      let s = g.S.Schema.words in
      let o = some_of c.in-Some.phases (call_at x.calls c.args.request) (c.in-Some.ensures x.calls is.calls) in
      let e = enters s kept x o.0 c.args.phase in
      let few = rw o.1 at fits.phases in
      let fits_yet = counted x.calls c.args.request (suc o.0.phases) o.0 e.0 o.1 (subst (λ (y : Model g.row.S-Row.Denot Layout). AllByRecursion (λ d. d.phases < 2 ^ 32) y.calls) e.1 few) in
      c.in_default-checked_add.ensures (omega (arith, o.2)),
)

pub returns-clause-begins : goal.returns-clause-begins
returns-clause-begins g c kept id x is =
    let join = g.S.Row.Crdt.join in
    let s = g.S.Schema.words in
    let self = c.args.self.now in
    let o = some_of c.in-Some.phases (call_at x.calls c.args.request) (c.in-Some.ensures x.calls is.calls) in
    let number : suc o.0.phases ≡ c.in-Some-checked_add.number = ap suc o.2 ∙ (sym (add-one c.in-Some.phases) ∙ sym c.in-Some-checked_add.ensures.1) in
    let began = c.in_ok-present.ensures.begins kept x o.0 is.view (has_one x.view x.calls c.args.request o.0 o.1 is.has_version) (request_is c.args.request o.0 x.calls o.1) number in
    let entered = record o.0 { phases = c.in-Some-checked_add.number; present = began.doing } in
    let y = calls_now x entered in
    let stands : StandsFor join s (record self { calls = c.enter.new.self }) id y = record {
      id_is = is.id_is;
      view = is.view;
      contents = same_contents x x.view (with_call entered x.calls) x.round x.rounds x.mending x.lasting is.contents;
      calls = c.enter.ensures x.calls o.0 began.doing is.calls o.1 began.is;
      rounds = is.rounds;
      gc = is.gc;
      has_version = version_called x.view entered x.calls is.has_version;
    } in
    subst (λ found. Done join s (record self { calls = c.enter.new.self }) id c.args.out.now.items c.begin.new.out.items None (begins_at s kept x c.args.phase found)) (sym o.1) (record {
      stands = subst (StandsFor join s (record self { calls = c.enter.new.self }) id) (sym began.node) stands;
      posts = subst (λ n. Posts n c.args.out.now.items c.begin.new.out.items (begins s layouts kept x o.0 c.args.phase).posts) is.id_is began.posts;
      ends = began.ends;
      spelled = λ sizes. began.spelled;
    })
