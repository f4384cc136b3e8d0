use Rattle.std.specs.Prelude.{◌||◌}
use Rattle.std.proofs.Common.{ap, sym, ◌∙◌}
use Rattle.std.specs.Ordering.{nat_cmp, is_eq}
use Rattle.std.specs.Cmp.Lexicographic.{slice_cmp}
use Rattle.table_store.specs.Index.{has_key}
use Rattle.table_store.proofs.Entries.{has_again, has_insert, has_more}
use Rattle.table_store.proofs.index.add_to.Goals as goal

pub returns-clause-others : goal.returns-clause-others
returns-clause-others c other had =
    ap (has_key other) c.in_ok-insert.ensures.keys ∙ has_more other c.in_ok-key.key c.args.keys.now.keys had

pub returns-clause-adds : goal.returns-clause-adds
returns-clause-adds c other =
    ap (has_key other) c.in_ok-insert.ensures.keys
    ∙ (has_insert other c.in_ok-key.key c.args.keys.now.keys
    ∙ ap (λ k. has_key other c.args.keys.now.keys || is_eq (slice_cmp nat_cmp other k)) c.in_ok-key.ensures.items)

pub returns-then-contains-clause-adds : goal.returns-then-contains-clause-adds
returns-then-contains-clause-adds c other = has_again c.args.key.now other c.args.keys.now.keys (sym c.contains.ensures ∙ c.if-contains.true)
