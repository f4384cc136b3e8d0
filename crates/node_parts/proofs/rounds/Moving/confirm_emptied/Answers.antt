use Rattle.std.proofs.Common.{rules, map, ap, subst, ◌∙◌, arith}
use Rattle.std.proofs.lemmas.Fn.{filter_same}
use Rattle.std.proofs.lemmas.List.{take_all}
use Rattle.table_model.specs.Rows.{rows_in}
use Rattle.node_parts.specs.Walks.{has_tables}
use Rattle.node_parts.proofs.Emptying.{EmptiedSome, all_emptied, filter_map_same}
use Rattle.node_parts.proofs.rounds.Moving.confirm_emptied.Goals as goal

pub returns : goal.returns
returns g c =
    let join = g.S.Row.Crdt.join in
    let words = g.S.Schema.words in
    let contents = c.args.contents.now in
    let parts = c.args.parts.now.items in
    let items = c.as_slice-p-items.result.now in
    all_emptied join words g.met.S.Schema.laws contents c.args.self.now c.loop-p.self (map (λ part. (part.0, part.1.items)) parts) (map (λ part. (part.0, part.1.items)) c.retain.new.self.items)
    (subst (λ l. EmptiedSome join words contents c.args.self.now c.loop-p.self (map (λ part. (part.0, part.1.items)) l)) (take_all c.loop-p.p-index items (omega (arith, c.loop-p-test.false)) ∙ c.as_slice-p-items.ensures.value) c.loop-p.invariant)
    (ap (map (λ part. (part.0, part.1.items))) (filter_same _ (λ part. has_tables words (rows_in words part.0 contents.table)) _ (λ part b f t. search rules) parts c.retain.new.self.items c.retain.ensures.filtered)
    ∙ filter_map_same (λ part. (part.0, part.1.items)) (λ part. has_tables words (rows_in words part.0 contents.table)) parts)
