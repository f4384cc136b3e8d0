use Rattle.std.proofs.Common.{◌≡◌, length, refl, ap, subst, ◌∙◌}
use Rattle.view_model.specs.Layouts.{reading}
use Rattle.view_model.specs.View.{newest}
use Rattle.cluster_machine.specs.declared.step.LocalEnd.TheVariants.{Collected as EndsSo}
use Rattle.cluster_machine.specs.Layouts.{layouts}
use Rattle.cluster_machine.specs.Collects.{progress}
use Rattle.node_parts.specs.declared.collector.Collector.{Collector}
use Rattle.node_parts.specs.Collects.{Collected, CannotCollect}
use Rattle.node_parts.proofs.Faults.{passed_on}
use Rattle.node_core.proofs.Collections.{with_collections}
use Rattle.node_core.proofs.node.Node.collect.Goals as goal

pub returns-clause-collects : goal.returns-clause-collects
returns-clause-collects g c id x is =
    let join = g.S.Row.Crdt.join in
    let s = g.S.Schema.words in
    let self = c.args.self.now in
    let here : Collector = record { node = id; newest = newest reading x.view; now = c.args.now; alloc = self.alloc } in
    let same : c.collector-collector.result ≡ here = c.collector-collector.ensures ∙ (λ i. record { node = is.id_is i; newest = newest reading (is.view i); now = c.args.now; alloc = self.alloc }) in
    let all = subst (λ k. Collected join s x k c.collect.new.gc c.args.out.now.items c.collect.new.out.items c.in_ok-begun.begun) same (c.in_ok-begun.ensures.collects x is.contents is.gc) in
    let t = progress join s layouts id c.args.now x in (
      record {
        stands = with_collections self id x c.collect.new.gc t.gc is all.done.gc_is;
        posts = all.done.posts;
        ends = refl;
        spelled = λ sized. all.spelled;
      },
      λ i. EndsSo (all.begun_is i) ((ap length c.all.ensures.all ∙ ap (λ o. length o.collections) all.done.gc_is) i),
    )

pub returns-in_err-begun-clause-causes : goal.returns-in_err-begun-clause-causes
returns-in_err-begun-clause-causes g c = passed_on c.from_residual.result c.in_err-begun.field-0.0 c.from_residual.ensures.1 c.in_err-begun.ensures.causes (λ cannot id x is fits.
    let join = g.S.Row.Crdt.join in
    let s = g.S.Schema.words in
    let self = c.args.self.now in
    let here : Collector = record { node = id; newest = newest reading x.view; now = c.args.now; alloc = self.alloc } in
    let same : c.collector-collector.result ≡ here = c.collector-collector.ensures ∙ (λ i. record { node = is.id_is i; newest = newest reading (is.view i); now = c.args.now; alloc = self.alloc }) in
    subst (λ k. CannotCollect join s k self.contents self.gc) same cannot x is.contents is.gc fits.spelled fits.collections)
