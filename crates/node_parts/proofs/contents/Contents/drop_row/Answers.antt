use Rattle.std.proofs.Common.{refl, ap, sym, ◌∙◌}
use Rattle.node_parts.specs.Collects.{marker_of}
use Rattle.node_parts.proofs.TombSteps.{dropped_row, none_needed}
use Rattle.node_parts.proofs.contents.Contents.drop_row.Goals as goal

pub returns-in-Some-clause-drops : goal.returns-in-Some-clause-drops
returns-in-Some-clause-drops g c x is =
    let self = c.args.self.now in
    dropped_row g.met.S.Schema.laws self (record self { table = c.remove.new.self }) x c.args.table c.args.key.now is
    (none_needed g.S.Schema.words c.args.table c.args.key.now self.table (sym c.needs_block.ensures ∙ c.if-needs_block.false)) c.in_ok-row.ensures.rows refl refl

pub returns-in-None-clause-drops : goal.returns-in-None-clause-drops
returns-in-None-clause-drops g c x is =
    let self = c.args.self.now in
    dropped_row g.met.S.Schema.laws self (record self { table = c.remove.new.self }) x c.args.table c.args.key.now is
    (none_needed g.S.Schema.words c.args.table c.args.key.now self.table (sym c.needs_block.ensures ∙ c.if-needs_block.false)) c.in_ok-row.ensures.rows refl refl

pub returns-in-Some-clause-marker : goal.returns-in-Some-clause-marker
returns-in-Some-clause-marker g c = c.marker.ensures ∙ ap (marker_of g.S.Schema.words) (sym c.in-Some.is ∙ c.in_ok-row.ensures.row)

pub returns-in-None-clause-marker : goal.returns-in-None-clause-marker
returns-in-None-clause-marker g c = ap (marker_of g.S.Schema.words) (sym c.in-None.is ∙ c.in_ok-row.ensures.row)
