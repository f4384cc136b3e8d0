use Rattle.std.specs.Prelude.{◌≡◌, true, false, [], ◌∷◌, ◌++◌, Some, filter}
use Rattle.std.proofs.Common.{ap, sym, ◌∙◌, append-nil, append_assoc}
use Rattle.std.specs.Map.{keys_of}
use Rattle.std.specs.Map.Iter.{deref_pair}
use Rattle.std.specs.BTreeMap.{get}
use Rattle.std.specs.BTreeSet.{contains}
use Rattle.std.proofs.lemmas.Map.Views.{All-turn}
use Rattle.blake2_hash.specs.Blake2b.{blake2b}
use Rattle.blake2_hash.specs.Hash.{digest_of}
use Rattle.table_store.specs.Index.{entries_in, known}
use Rattle.table_store.specs.Notes.{is_among, note_cmp}
use Rattle.table_store.specs.Shelf.{shelf_rows, vec_cmp}
use Rattle.table_store.proofs.NotedRows.{skip_key, take_key}
use Rattle.table_store.proofs.Partitions.{walked, walk_is, are_there, none_in}
use Rattle.table_store.proofs.noted.push_noted.Goals as goal

pub key_hash-requires : goal.key_hash-requires
key_hash-requires g c =
    let part = c.in-Some.part.now in
    let given = c.into_iter-key-iterator.ensures.into_iter_gives in
    let fits = c.requires.fits c.args.p part (sym c.in-Some.ensures.value) in
    let entry : get vec_cmp part.pairs c.in-Some-2.key.now ≡ Some c.in-Some-2.pair.now =
    All-turn deref_pair (λ e. get vec_cmp part.pairs e.0 ≡ Some e.1) part.pairs.entries c.loop-key.yielded c.into_iter-key-iterator.result c.loop-key.key-iterator c.next.new.self c.next.result (c.in-Some-2.key, c.in-Some-2.pair) given.6 given.0 c.loop-key.yielded_by c.in-Some-2.is c.next.ensures.steps in
    record { known = λ pair same. (fits.pairs_are c.in-Some-2.key.now.items pair (ap known entry ∙ same)).1 ∙ ap (blake2b 32) (sym c.as_slice.ensures.value) }

pub loop-key-preserved-in_ok-push-in-Some : goal.loop-key-preserved-in_ok-push-in-Some
loop-key-preserved-in_ok-push-in-Some g c =
    let words = g.S.Schema.words in
    let p = c.args.p in
    let notes = c.args.notes.now in
    let entries = c.args.shelf.now.rows.entries in
    let key = c.in-Some-2.key.now in
    let next = keys_of c.next.new.self in
    let row = c.in-Some-row_in.row.now in
    let old = c.loop-key.rows.items in
    let left = filter (is_among words notes) (walked p next entries) in
    let hash : c.key_hash.result ≡ digest_of key.items = λ i. record { 0 = (c.key_hash.ensures ∙ ap (blake2b 32) c.as_slice.ensures.value) i } in
    let is : contains note_cmp notes (c.args.table, digest_of key.items) ≡ true = ap (λ h. contains note_cmp notes (c.args.table, h)) (sym hash) ∙ (sym c.contains.ensures ∙ c.if-contains.true) in
    ap (λ l. l ++ left) c.in_ok-push-in-Some.ensures.items
    ∙ (append_assoc old (c.in_ok-copy-in-Some.field-0 ∷ []) left
    ∙ (ap (λ r. old ++ r ∷ left) c.in_ok-copy-in-Some.ensures.same
    ∙ (ap (λ l. old ++ l) (sym (take_key words c.args.table p entries c.requires.placed notes key next row is (sym c.in-Some-row_in.ensures)))
    ∙ (ap (λ es. old ++ filter (is_among words notes) (walked p (keys_of es) entries)) (sym c.in-Some-2.ensures.steps)
    ∙ c.loop-key.invariant))))

pub loop-key-preserved : goal.loop-key-preserved
loop-key-preserved g c =
    let words = g.S.Schema.words in
    let p = c.args.p in
    let notes = c.args.notes.now in
    let entries = c.args.shelf.now.rows.entries in
    let key = c.in-Some-2.key.now in
    let next = keys_of c.next.new.self in
    let old = c.loop-key.rows.items in
    let hash : c.key_hash.result ≡ digest_of key.items = λ i. record { 0 = (c.key_hash.ensures ∙ ap (blake2b 32) c.as_slice.ensures.value) i } in
    let not : contains note_cmp notes (c.args.table, digest_of key.items) ≡ false = ap (λ h. contains note_cmp notes (c.args.table, h)) (sym hash) ∙ (sym c.contains.ensures ∙ c.if-contains.false) in
    ap (λ l. old ++ l) (sym (skip_key words c.args.table p entries c.requires.placed notes key next not))
    ∙ (ap (λ es. old ++ filter (is_among words notes) (walked p (keys_of es) entries)) (sym c.in-Some-2.ensures.steps)
    ∙ c.loop-key.invariant)

pub returns-in-None-clause-rows : goal.returns-in-None-clause-rows
returns-in-None-clause-rows g c =
    let p = c.args.p in
    let entries = c.args.shelf.now.rows.entries in
    let none = none_in p entries (are_there c.args.shelf.now.index p [] entries (ap (λ o. keys_of (entries_in o)) (sym c.in-None.ensures.value)) c.args.shelf.now.indexed) in
    sym (append-nil c.args.rows.now.items) ∙ ap (λ es. c.args.rows.now.items ++ filter (is_among g.S.Schema.words c.args.notes.now) (shelf_rows es)) (sym none)

pub returns-in-None-2-clause-rows : goal.returns-in-None-2-clause-rows
returns-in-None-2-clause-rows g c =
    let p = c.args.p in
    let entries = c.args.shelf.now.rows.entries in
    let given = c.into_iter-key-iterator.ensures.into_iter_gives in
    let keys = keys_of c.in-Some.part.now.pairs.entries in
    let test = is_among g.S.Schema.words c.args.notes.now in
    let there = are_there c.args.shelf.now.index p keys entries (ap (λ o. keys_of (entries_in o)) (sym c.in-Some.ensures.value)) c.args.shelf.now.indexed in
    let all = ap (λ es. walked p (keys_of es) entries) given.0 ∙ walk_is p keys entries c.are_in_order.ensures given.5 there in
    sym (append-nil c.loop-key.rows.items)
    ∙ (ap (λ es. c.loop-key.rows.items ++ filter test (walked p (keys_of es) entries)) (sym c.in-None-2.ensures.steps.0)
    ∙ (c.loop-key.invariant
    ∙ ap (λ rows. c.args.rows.now.items ++ filter test rows) all))
