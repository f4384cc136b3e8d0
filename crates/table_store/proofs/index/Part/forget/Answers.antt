use Rattle.std.proofs.Common.{Result, Ok, Err, OnErr, refl, ap, sym, subst, ◌∙◌}
use Rattle.std.specs.Map.{lookup}
use Rattle.std.specs.Option.{is_some}
use Rattle.table_store.specs.Index.{IsKept, has_key, known}
use Rattle.table_store.proofs.Entries.{at, has_is, has_left, lookup_left}
use Rattle.table_store.proofs.Forgetting.{kept_forgotten}
use Rattle.table_store.proofs.Putting.{kept_on, unchanged_keeps}
use Rattle.table_store.proofs.index.Part.forget.Goals as goal

at_err : {A E : Type 0} (r : Result A E) (P : Type 0) → P → OnErr r P
at_err (Ok x) P p = tt
at_err (Err e) P p = p

pub returns-clause-forgets : goal.returns-clause-forgets
returns-clause-forgets c =
    let old = c.args.self.now in
    let key = c.args.key.now in
    let entries = old.pairs.entries in
    record {
      keys = λ other apart.
          has_is other c.remove.new.self.entries
          ∙ (ap is_some (ap (λ es. lookup (at other) es) c.remove.ensures.entries ∙ lookup_left key other entries apart) ∙ sym (has_is other entries));
      pairs = λ other apart. ap known (ap (λ es. lookup (at other) es) c.remove.ensures.entries ∙ lookup_left key other entries apart);
      gone = ap known c.remove.ensures.updates.1;
      waiting = λ other apart. ap (has_key other) c.remove-2.ensures.keys ∙ has_left key other old.waiting.keys apart;
      kept = λ told kept. subst (IsKept c.drop_pair.new.trie) (sym c.remove.ensures.entries)
          (kept_forgotten old.trie c.settle.new.self c.drop_pair.new.trie key entries c.in_ok-settle.ensures.settled c.settle.ensures.kept told kept c.known-pair.result c.known-pair.ensures c.in_ok-drop_pair.ensures.removed c.in_ok-drop_pair.ensures.nothing);
    }

pub returns-in_err-settle-clause-stays : goal.returns-in_err-settle-clause-stays
returns-in_err-settle-clause-stays c = at_err c.from_residual.result _ (record { pairs = refl; waiting = refl; kept = kept_on c.args.self.now.trie c.settle.new.self c.args.self.now.pairs.entries c.settle.ensures.kept })

pub returns-in_err-drop_pair-clause-stays : goal.returns-in_err-drop_pair-clause-stays
returns-in_err-drop_pair-clause-stays c = at_err c.from_residual-in_err-drop_pair.result _
    (record {
      pairs = refl;
      waiting = refl;
      kept = λ kept. kept_on c.settle.new.self c.drop_pair.new.trie c.args.self.now.pairs.entries (unchanged_keeps c.settle.new.self c.drop_pair.new.trie c.in_err-drop_pair.ensures.err)
          (kept_on c.args.self.now.trie c.settle.new.self c.args.self.now.pairs.entries c.settle.ensures.kept kept);
    })
