use Rattle.std.proofs.Common.{ap, sym, ◌∙◌}
use Rattle.std.specs.Map.{lookup}
use Rattle.table_store.proofs.Entries.{at, has_is}
use Rattle.table_store.proofs.Keys.{extends_new, has_new, not_found}
use Rattle.table_store.proofs.index.add_key.Goals as goal

pub returns-then-contains_key-clause-has : goal.returns-then-contains_key-clause-has
returns-then-contains_key-clause-has c = has_is c.args.key.now c.args.pairs.now.entries ∙ (sym c.contains_key.ensures ∙ c.if-contains_key.true)

pub returns-clause-extends : goal.returns-clause-extends
returns-clause-extends c =
    let entries = c.args.pairs.now.entries in
    let key = c.in_ok-key.key in
    extends_new entries c.insert.new.self.entries key
    (ap (λ k. lookup (at k) entries) c.in_ok-key.ensures.items ∙ not_found (lookup (at c.args.key.now) entries) (sym c.contains_key.ensures ∙ c.if-contains_key.false))
    c.in_ok-insert.ensures.entries

pub returns-clause-has : goal.returns-clause-has
returns-clause-has c = has_new c.args.pairs.now.entries c.insert.new.self.entries c.in_ok-key.key c.args.key.now c.in_ok-key.ensures.items c.in_ok-insert.ensures.entries
