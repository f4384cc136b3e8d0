use Rattle.std.proofs.Common.{◌≡◌, Result, Ok, Err, OnErr, ap, sym, ◌∙◌, subst}
use Rattle.std.specs.Map.{set_value}
use Rattle.std.proofs.lemmas.Map.Steps.{set_value_same}
use Rattle.table_store.specs.Index.{IsKept, known, pair_at}
use Rattle.table_store.proofs.Entries.{lookup_other}
use Rattle.table_store.proofs.Putting.{kept_on, kept_put, not_lost, unchanged_keeps}
use Rattle.table_store.proofs.settling.take_row.Goals as goal

at_err : {A E : Type 0} (r : Result A E) (P : Type 0) → P → OnErr r P
at_err (Ok x) P p = tt
at_err (Err e) P p = p

pub returns-in-None-clause-taken : goal.returns-in-None-clause-taken
returns-in-None-clause-taken g c = absurd (not_lost c.args.key.now c.args.pairs.now.entries c.requires.has (sym c.in-None.ensures.value))

pub returns-in_err-put_pair-in-Some-clause-others : goal.returns-in_err-put_pair-in-Some-clause-others
returns-in_err-put_pair-in-Some-clause-others g c other apart =
    let new = c.put_pair.new.pair in
    ap (pair_at other) (c.get_mut.follows.holds new).0 ∙ ap known (lookup_other c.args.key.now other new c.args.pairs.now.entries apart)

pub returns-in_err-put_pair-in-Some-clause-kept : goal.returns-in_err-put_pair-in-Some-clause-kept
returns-in_err-put_pair-in-Some-clause-kept g c kept =
    let entries = c.args.pairs.now.entries in
    let new = c.put_pair.new.pair in
    let there = c.in-Some.pair.now in
    let same : (c.get_mut.follows.lender new).entries ≡ entries = (c.get_mut.follows.holds new).0 ∙ (ap (set_value _ entries) c.in_err-put_pair-in-Some.ensures.err.1 ∙ set_value_same _ entries there (sym c.in-Some.ensures.value)) in
    subst (IsKept c.put_pair.new.trie) (sym same)
    (kept_on c.args.trie.now c.put_pair.new.trie entries (unchanged_keeps c.args.trie.now c.put_pair.new.trie c.in_err-put_pair-in-Some.ensures.err.0) kept)

pub returns-in_err-put_pair-in-Some-clause-err : goal.returns-in_err-put_pair-in-Some-clause-err
returns-in_err-put_pair-in-Some-clause-err g c =
    let entries = c.args.pairs.now.entries in
    let new = c.put_pair.new.pair in
    at_err c.from_residual-in_err-put_pair-in-Some.result _
    ((c.get_mut.follows.holds new).0 ∙ (ap (set_value _ entries) c.in_err-put_pair-in-Some.ensures.err.1 ∙ set_value_same _ entries c.in-Some.pair.now (sym c.in-Some.ensures.value)))

pub returns-clause-others : goal.returns-clause-others
returns-clause-others g c other apart =
    let new = c.put_pair.new.pair in
    ap (pair_at other) (c.get_mut.follows.holds new).0 ∙ ap known (lookup_other c.args.key.now other new c.args.pairs.now.entries apart)

pub returns-clause-kept : goal.returns-clause-kept
returns-clause-kept g c kept =
    let new = c.put_pair.new.pair in
    let put = c.in_ok-put_pair-in-Some.ensures in
    kept_put c.args.trie.now c.put_pair.new.trie c.args.pairs.now.entries (c.get_mut.follows.lender new).entries c.args.key.now c.blake2b_256-hash.result.0 c.in-Some.pair.now new
    (sym c.in-Some.ensures.value) c.requires.known put.free c.requires.settled put.put (c.get_mut.follows.holds new).0 put.is kept
