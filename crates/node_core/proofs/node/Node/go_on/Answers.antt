use Rattle.std.proofs.Common.{◌≡◌, true, false, Some, None, sym, ◌∙◌}
use Rattle.layout_trackers.specs.declared.which.Which.TheVariants.{Sync}
use Rattle.view_model.specs.Layouts.{reading}
use Rattle.view_model.specs.View.{with_entry}
use Rattle.cluster_machine.specs.Rounds.{is_complete}
use Rattle.node_core.proofs.Nodes.{same_contents, version_kept, together}
use Rattle.node_core.proofs.node.Node.go_on.Goals as goal

pub returns-in_ok-raise-clause-goes_on : goal.returns-in_ok-raise-clause-goes_on
returns-in_ok-raise-clause-goes_on g c id x r moving is =
    let complete : is_complete r ≡ true = sym (c.is_complete.ensures id r moving) ∙ c.if-is_complete.true in
    let v = with_entry reading Sync id r.target x.view in
    rw complete (record {
      id_is = is.id_is;
      view = c.in_ok-raise.ensures.raised ∙ (λ i. with_entry reading Sync (is.id_is i) (c.target.ensures id r moving i) (is.view i));
      contents = same_contents x v x.calls None x.rounds x.mending (Some (record { number = r.number; walks = r.walks })) is.contents;
      calls = is.calls;
      rounds = record { is_open = tt; begun = is.begun; mending_is = is.mending_is; lasting_is = c.into_lasting.ensures id r moving };
      gc = is.gc;
      has_version = version_kept x.view v.trackers x.calls is.has_version;
    })

pub returns-else-is_complete-clause-goes_on : goal.returns-else-is_complete-clause-goes_on
returns-else-is_complete-clause-goes_on g c id x r moving is =
    let open_yet : is_complete r ≡ false = sym (c.is_complete.ensures id r moving) ∙ c.if-is_complete.false in
    rw open_yet (together c.args.self.now id x c.args.moving r is moving)
