use Rattle.std.proofs.Common.{◌≡◌, true, false, Some, sym, ap, subst, ◌∙◌}
use Rattle.std.proofs.lemmas.Result.{IfErr-weaker}
use Rattle.cluster_machine.specs.Acts.{syncs}
use Rattle.cluster_machine.specs.Layouts.{layouts}
use Rattle.node_parts.specs.Rounds.{IsOpen}
use Rattle.node_parts.proofs.WalkSends.{causes_more}
use Rattle.node_core.proofs.Nodes.{open_some, apart}
use Rattle.node_core.proofs.node.Node.sync.Goals as goal

pub returns-in-Some-clause-causes : goal.returns-in-Some-clause-causes
returns-in-Some-clause-causes g c =
    IfErr-weaker c.again.result _ _
    (λ e cause. causes_more e
    (λ never id x is fits.
    let o = open_some c.in-Some.moving x.round (subst (λ m. IsOpen id m x.round) (sym c.in-Some.ensures.value) is.rounds.is_open) in
    let unspelled = never id x o.0 o.2 (apart c.args.self.now id x c.take.new.self is) in
    let spelled : (syncs g.S.Row.Crdt.join g.S.Schema.words layouts id x (Some o.0)).did.is_spelled ≡ true = ap (λ t. (syncs g.S.Row.Crdt.join g.S.Schema.words layouts id x t).did.is_spelled) (sym o.1) ∙ fits.spelled in
    let no : true ≡ false = sym spelled ∙ unspelled in cc)
    cause)
    c.again.ensures.causes
