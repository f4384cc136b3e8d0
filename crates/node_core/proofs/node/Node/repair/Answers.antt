use Rattle.std.proofs.Common.{◌≡◌, ◌≤◌, suc, true, false, Some, map, inl, inr, refl, ap, sym, subst, ◌∙◌, add-one}
use Rattle.std.proofs.lemmas.Result.{err_from_is_err_and}
use Rattle.view_model.specs.Layouts.{reading}
use Rattle.layout_history.specs.Views.{known}
use Rattle.view_model.specs.View.{newest, layout_at, is_gapless}
use Rattle.cluster_machine.specs.Rounds.{are_spelled, parts_of, other_nodes, walks_of}
use Rattle.cluster_machine.specs.Layouts.{layouts}
use Rattle.cluster_machine.specs.Node.{Mending}
use Rattle.node_parts.specs.Sends.{part_of, IsMended}
use Rattle.node_core.specs.Stands.{StandsFor}
use Rattle.node_core.proofs.Moves.{started_with}
use Rattle.node_core.proofs.Nodes.{same_contents}
use Rattle.node_core.proofs.Stored.{newest_is_there}
use Rattle.node_core.proofs.node.Node.repair.Goals as goal

pub returns-in_err-begun-clause-causes : goal.returns-in_err-begun-clause-causes
returns-in_err-begun-clause-causes g c =
    let join = g.S.Row.Crdt.join in
    let s = g.S.Schema.words in
    let self = c.args.self.now in
    let p = err_from_is_err_and c.from_residual-in_err-begun.result c.from_residual-in_err-begun.ensures.1 in
    rw (p.1, p.2) (elim c.in_err-begun.ensures.causes [
      | inl want ↦ inl want
      | inr full ↦ inr (
        full.0,
        λ id x is fits.
            let own : is_gapless reading (known self.view).layouts ≡ true = self.view.gapless in
            let here = newest_is_there x.view (subst (λ v. is_gapless reading v.layouts ≡ true) is.view own) (subst (λ v. 1 ≤ newest reading v) is.view c.requires.has_version) in
            let at = ap (layout_at reading x.view) (c.newest-newest.ensures ∙ ap (newest reading) is.view) ∙ here.1 in
            let moves = c.in_ok-parts.ensures.are id x here.0 here.0 is at at in
            let unspelled = subst (λ ps. are_spelled join s layouts x ps ≡ false) (ap (map part_of) c.as_slice.ensures.value ∙ moves.0) (full.1 id x is) in
            let spelled = rw here.1 at fits.spelled in
            let no : true ≡ false = sym spelled ∙ unspelled in cc,
      )
    ])

pub returns-clause-repairs : goal.returns-clause-repairs
returns-clause-repairs g c = (
  refl,
  λ id x is.
      let join = g.S.Row.Crdt.join in
      let s = g.S.Schema.words in
      let self = c.args.self.now in
      let own : is_gapless reading (known self.view).layouts ≡ true = self.view.gapless in
      let here = newest_is_there x.view (subst (λ v. is_gapless reading v.layouts ≡ true) is.view own) (subst (λ v. 1 ≤ newest reading v) is.view c.requires.has_version) in
      let at = ap (layout_at reading x.view) (c.newest-newest.ensures ∙ ap (newest reading) is.view) ∙ here.1 in
      let number : c.in_ok-number.number ≡ suc x.rounds = c.in_ok-number.ensures.is ∙ (add-one self.rounds.begun ∙ ap suc is.rounds.begun) in
      let moves = c.in_ok-parts.ensures.are id x here.0 here.0 is at at in
      let parts = parts_of join s layouts id x (Some here.0) (Some here.0) in
      let st = started_with join s c.in_ok-number.number (suc x.rounds) id c.as_slice.result.now parts c.args.out.now.items c.start.new.out.items c.in_ok-begun.begun.items x number (ap (map part_of) c.as_slice.ensures.value ∙ moves.0) (c.in_ok-begun.ensures.starts id x is) in
      let now = subst (λ n. StandsFor join s n id x) (sym c.in_ok-begun.ensures.unchanged) is in
      let mending : Mending = record { number = suc x.rounds; walks = walks_of join s x (other_nodes join s layouts id) parts } in
      rw here.1 (record {
        stands = record {
          id_is = now.id_is;
          view = now.view;
          contents = same_contents x x.view x.calls x.round (suc x.rounds) (Some mending) x.lasting now.contents;
          calls = now.calls;
          rounds = record {
            is_open = now.rounds.is_open;
            begun = number;
            mending_is = subst (λ m. IsMended c.in_ok-mending.mending m) (λ i. record { number = number i; walks = st.begun_are i }) c.in_ok-mending.ensures.is;
            lasting_is = now.rounds.lasting_is;
          };
          gc = now.gc;
          has_version = now.has_version;
        };
        posts = st.posts;
        ends = refl;
        spelled = λ sizes. st.spelled;
      }),
)
