use Rattle.std.specs.Prelude.{◌≡◌, ◌+◌, ◌||◌, ◌∷◌, Bool, is_some}
use Rattle.std.proofs.Common.{ap, sym, ◌∙◌, arith, drop}
use Rattle.std.proofs.Math.Bool.{or-false}
use Rattle.std.proofs.lemmas.List.{drop_all, drop_more}
use Rattle.std.specs.List.{find, list_any}
use Rattle.std.specs.Ordering.{nat_cmp, is_eq}
use Rattle.std.specs.Cmp.Lexicographic.{slice_cmp}
use Rattle.gc_model.specs.declared.collection.Collection.{Collection}
use Rattle.table_gc.specs.Keys.{is_of}
use Rattle.table_store.specs.Index.{has_key}
use Rattle.table_store.proofs.Entries.{has_insert}
use Rattle.node_parts.proofs.LookedAt.{any_found, key_of, or_move}
use Rattle.node_parts.proofs.collector.add_open.Goals as goal

pub loop-collection-preserved : goal.loop-collection-preserved
loop-collection-preserved c key =
    let all = c.all-all.result.now in
    let i = c.loop-collection.collection-index in
    let o = c.collection-item.result in
    let test : Collection → Bool = λ x. is_eq (slice_cmp nat_cmp key x.key) in
    let had = has_key key c.loop-collection.keys.keys in
    let next : drop i all ≡ o ∷ drop (i + 1) all = drop_more all i o c.loop-collection-test.true ∙ ap (λ y. y ∷ drop (i + 1) all) (sym c.collection-item.is) in
    let added : has_key key c.insert.new.self.keys ≡ (had || test o) =
    ap (has_key key) c.in_ok-insert.ensures.keys
    ∙ (has_insert key c.in_ok-key.key c.loop-collection.keys.keys
    ∙ ap (λ k. had || is_eq (slice_cmp nat_cmp key k)) (c.in_ok-key.ensures.items ∙ c.as_slice.ensures)) in
    ap (λ b. b || list_any test (drop (i + 1) all)) added
    ∙ (or_move had (test o) (list_any test (drop (i + 1) all))
    ∙ (ap (λ xs. had || list_any test xs) (sym next)
    ∙ c.loop-collection.invariant key))

pub returns-clause-adds : goal.returns-clause-adds
returns-clause-adds c key =
    let all = c.all-all.result.now in
    let i = c.loop-collection.collection-index in
    let test : Collection → Bool = λ x. is_eq (slice_cmp nat_cmp key x.key) in
    let had = has_key key c.loop-collection.keys.keys in
    let tests : test ≡ is_of key = λ j o. key_of key o j in
    sym (ap (λ xs. had || list_any test xs) (drop_all i all (omega (arith, c.loop-collection-test.false))) ∙ or-false had)
    ∙ (c.loop-collection.invariant key
    ∙ ap (λ b. has_key key c.args.keys.now.keys || b)
    (ap (λ t. list_any t all) tests ∙ (any_found (is_of key) all ∙ ap (λ xs. is_some (find (is_of key) xs)) c.all-all.ensures.all)))
