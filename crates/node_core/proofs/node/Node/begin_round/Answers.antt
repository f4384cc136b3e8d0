use Rattle.std.proofs.Common.{◌≡◌, ◌+◌, suc, true, false, Some, None, map, inl, inr, refl, ap, sym, subst, ◌∙◌, add-one, arith}
use Rattle.std.proofs.lemmas.Bool.{leb-true}
use Rattle.std.proofs.lemmas.Result.{err_from_is_err_and}
use Rattle.view_model.specs.Layouts.{reading}
use Rattle.layout_history.specs.Views.{known}
use Rattle.view_model.specs.View.{newest, read_version, layout_at, is_gapless}
use Rattle.cluster_machine.specs.declared.step.LocalEnd.TheVariants.{At}
use Rattle.cluster_machine.specs.Rounds.{are_spelled, parts_of, other_nodes, walks_of}
use Rattle.cluster_machine.specs.Layouts.{layouts}
use Rattle.node_parts.specs.Sends.{part_of}
use Rattle.node_parts.specs.Rounds.{IsMoving, begun_round}
use Rattle.node_parts.specs.Walks.{walk_of}
use Rattle.node_core.specs.Stands.{StandsFor}
use Rattle.node_core.proofs.Moves.{started_with}
use Rattle.node_core.proofs.Nodes.{same_contents, and_first}
use Rattle.node_core.proofs.Stored.{read_is_there, next_is_there}
use Rattle.node_core.proofs.node.Node.begin_round.Goals as goal

pub returns-in_err-begun-clause-causes : goal.returns-in_err-begun-clause-causes
returns-in_err-begun-clause-causes g c =
    let join = g.S.Row.Crdt.join in
    let s = g.S.Schema.words in
    let self = c.args.self.now in
    let p = err_from_is_err_and c.from_residual-in_err-begun.result c.from_residual-in_err-begun.ensures.1 in
    rw (p.1, p.2) (elim c.in_err-begun.ensures.causes [
      | inl want ↦ inl want
      | inr full ↦ inr (
        full.0,
        λ id x may at is fits.
            let own : is_gapless reading (known self.view).layouts ≡ true = self.view.gapless in
            let gapless = subst (λ v. is_gapless reading v.layouts ≡ true) is.view own in
            let next = leb-true (suc (read_version reading x.view)) (newest reading x.view) (and_first _ _ may) in
            let here = read_is_there x.view gapless (omega arith) in
            let there = next_is_there x.view gapless next in
            let moves = c.in_ok-parts.ensures.are id x here.0 there.0 is (ap (layout_at reading x.view) (sym at) ∙ here.1) (ap (layout_at reading x.view) (add-one c.args.at ∙ ap suc (sym at)) ∙ there.1) in
            let parts = ap (map part_of) c.as_slice.ensures.value ∙ moves.0 in
            let unspelled = subst (λ ps. are_spelled join s layouts x ps ≡ false) parts (full.1 id x is) in
            let spelled = rw (here.1, there.1) at fits.spelled in
            let no : true ≡ false = sym spelled ∙ unspelled in cc,
      )
    ])

pub returns-clause-begins : goal.returns-clause-begins
returns-clause-begins g c id x may at is =
    let join = g.S.Row.Crdt.join in
    let s = g.S.Schema.words in
    let self = c.args.self.now in
    let own : is_gapless reading (known self.view).layouts ≡ true = self.view.gapless in
    let gapless = subst (λ v. is_gapless reading v.layouts ≡ true) is.view own in
    let next = leb-true (suc (read_version reading x.view)) (newest reading x.view) (and_first _ _ may) in
    let here = read_is_there x.view gapless (omega arith) in
    let there = next_is_there x.view gapless next in
    let target : c.args.at + 1 ≡ suc (read_version reading x.view) = add-one c.args.at ∙ ap suc (sym at) in
    let number : c.in_ok-number.number ≡ suc x.rounds = c.in_ok-number.ensures.is ∙ (add-one self.rounds.begun ∙ ap suc is.rounds.begun) in
    let moves = c.in_ok-parts.ensures.are id x here.0 there.0 is (ap (layout_at reading x.view) (sym at) ∙ here.1) (ap (layout_at reading x.view) target ∙ there.1) in
    let parts = parts_of join s layouts id x (Some here.0) (Some there.0) in
    let walks = walks_of join s x (other_nodes join s layouts id) parts in
    let st = started_with join s c.in_ok-number.number (suc x.rounds) id c.as_slice.result.now parts c.args.out.now.items c.start.new.out.items c.in_ok-begun.begun.items x number (ap (map part_of) c.as_slice.ensures.value ∙ moves.0) (c.in_ok-begun.ensures.starts id x is) in
    let round = begun_round (suc x.rounds) (suc (read_version reading x.view)) parts id walks in
    let now = subst (λ n. StandsFor join s n id x) (sym c.in_ok-begun.ensures.unchanged) is in
    let kept = c.start.new.self in
    let same : begun_round c.in_ok-number.number (c.args.at + 1) (map part_of c.in_ok-parts.parts.items) kept.id (map walk_of c.in_ok-begun.begun.items) ≡ round = λ i. begun_round (number i) (target i) (moves.0 i) (now.id_is i) (st.begun_are i) in
    let moving = subst (λ n. IsMoving n c.in_ok-moving.moving round) now.id_is (subst (IsMoving kept.id c.in_ok-moving.moving) same (c.in_ok-moving.ensures.begins moves.1)) in
    let y = record x { rounds = suc x.rounds; lasting = None } in
    let goes = c.in_ok-go_on.ensures.goes_on id y round moving (record {
      id_is = now.id_is;
      view = now.view;
      contents = same_contents x x.view x.calls x.round (suc x.rounds) x.mending None now.contents;
      calls = now.calls;
      begun = number;
      mending_is = now.rounds.mending_is;
      lasting_is = tt;
      gc = now.gc;
      has_version = now.has_version;
    }) in (
      rw (here.1, there.1) (record {
        stands = goes;
        posts = st.posts;
        ends = refl;
        spelled = λ sizes. st.spelled;
      }),
      ap At (add-one c.args.at),
    )
