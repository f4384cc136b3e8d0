use Rattle.std.specs.Prelude.{◌||◌}
use Rattle.std.proofs.Common.{ap, sym, ◌∙◌}
use Rattle.table_model.specs.Rows.{find_row}
use Rattle.table_store.specs.Index.{has_key}
use Rattle.table_store.specs.Markers.{is_marked}
use Rattle.node_parts.specs.Collects.{marker_of}
use Rattle.node_parts.proofs.LookedAt.{aged_is, none_aged}
use Rattle.node_parts.proofs.collector.Collector.aged.Goals as goal

pub returns-in_default-clause-are : goal.returns-in_default-clause-are
returns-in_default-clause-are g c key =
    let s = g.S.Schema.words in
    ap (has_key key) c.new-keys.ensures.empty ∙ sym (none_aged c.args.self.now c.in_default.ensures.none (marker_of s (find_row s 1 key c.args.contents.now.table)))

pub returns-clause-are : goal.returns-clause-are
returns-clause-are g c key =
    let s = g.S.Schema.words in
    let row = find_row s 1 key c.args.contents.now.table in
    let limit = c.in-Some.ensures.some in
    c.in_ok-add_marked.ensures.adds key
    ∙ (ap (λ ks. has_key key ks || is_marked s c.in-Some.limit row) c.new-keys.ensures.empty
    ∙ (ap (λ l. is_marked s l row) limit.1
    ∙ sym (aged_is s c.args.self.now limit.0 row)))
