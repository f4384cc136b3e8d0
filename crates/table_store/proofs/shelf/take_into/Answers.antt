use Rattle.std.proofs.Common.{◌≡◌, Option, Some, None, Result, Ok, Err, OnErr, false, is_some, option_map, refl, ap, sym, ◌∙◌, subst}
use Rattle.std.specs.List.{list_all}
use Rattle.std.specs.Option.{option_and_then}
use Rattle.std.specs.Map.{set_value}
use Rattle.std.specs.BTreeMap.{get, insert_entry}
use Rattle.std.specs.Ordering.{nat_cmp}
use Rattle.std.proofs.lemmas.Option.{same_Some}
use Rattle.std.proofs.lemmas.Map.Steps.{set_value_same}
use Rattle.table_model.specs.Rows.{change_of}
use Rattle.table_store.specs.declared.shelf.Placed.{Placed}
use Rattle.table_store.specs.Shelf.{shelf_rows, placed_at, is_indexed, vec_cmp}
use Rattle.table_store.specs.Index.{has_key, keys_under, waits_in}
use Rattle.table_store.specs.Markers.{OthersStay, marked_at}
use Rattle.table_store.proofs.Entries.{lookup_put}
use Rattle.table_store.proofs.Fitting.{fits_on, fits_put}
use Rattle.table_store.proofs.Marking.{marked_gone, marked_put, marked_stay}
use Rattle.table_store.proofs.Partitions.{indexed_more, indexed_put_or_not, indexed_again}
use Rattle.table_store.proofs.Shelves.{merged_with, at_same, row_there, none_there, written_is_put, merged_here, placed_put, found_is, entry_new, entry_merged}
use Rattle.table_store.proofs.shelf.take_into.Goals as goal

at_err : {A E : Type 0} (r : Result A E) (P : Type 0) → P → OnErr r P
at_err (Ok x) P p = tt
at_err (Err e) P p = p

some_is : {A B : Type 0} (f : A → B) (o : Option A) → is_some o ≡ is_some (option_map f o)
some_is f None = refl
some_is f (Some x) = refl

-- ---- a row stands at the key

pub invariant_of-shelf : goal.invariant_of-shelf
invariant_of-shelf g c =
    let index = c.args.shelf.now.index in
    let later = c.note.new.index in
    let entries = c.args.shelf.now.rows.entries in
    let there = c.in-Some.there.now in
    let same : (c.get_mut.follows.lender there).entries ≡ entries = (c.get_mut.follows.holds there).0 ∙ set_value_same _ entries there (sym c.in-Some.ensures.value) in
    record { indexed = ap (list_all (is_indexed later)) same ∙ indexed_more index later entries c.note.ensures.others c.args.shelf.now.indexed }

pub returns-in_err-note-clause-unchanged : goal.returns-in_err-note-clause-unchanged
returns-in_err-note-clause-unchanged g c =
    let entries = c.args.shelf.now.rows.entries in
    let there = c.in-Some.there.now in
    at_err c.from_residual-in_err-note.result _ ((c.get_mut.follows.holds there).0 ∙ set_value_same _ entries there (sym c.in-Some.ensures.value))

pub returns-in_err-note-clause-fits : goal.returns-in_err-note-clause-fits
returns-in_err-note-clause-fits g c fit =
    let entries = c.args.shelf.now.rows.entries in
    let there = c.in-Some.there.now in
    fits_on g.S.Schema.words c.args.shelf.now.index c.note.new.index entries (c.get_mut.follows.lender there).entries c.args.shelf.now.indexed c.note.ensures.grows
    ((c.get_mut.follows.holds there).0 ∙ set_value_same _ entries there (sym c.in-Some.ensures.value)) fit

pub invariant_of-shelf-in-Some : goal.invariant_of-shelf-in-Some
invariant_of-shelf-in-Some g c =
    let index = c.args.shelf.now.index in
    let later = c.note.new.index in
    let entries = c.args.shelf.now.rows.entries in
    let key = c.into_vec-key.result in
    let there = c.in-Some.there.now in
    let new = c.merge_at.new.there in
    let found : placed_at key.items entries ≡ Some there = at_same (Some there) c.as_slice.result.now key.items entries c.in-Some.ensures.value c.as_slice.ensures.value in
    let put = written_is_put key new there entries (c.get_mut.follows.lender new).entries c.as_slice.result.now c.as_slice.ensures.value c.get_mut.ensures.ordered found (c.get_mut.follows.holds new).0 in
    record {
      indexed =
          indexed_again later key new there entries (c.get_mut.follows.lender new).entries put c.merge_at.ensures.partition found
          (indexed_more index later entries c.note.ensures.others c.args.shelf.now.indexed);
    }

pub returns-in_err-taken-clause-fits : goal.returns-in_err-taken-clause-fits
returns-in_err-taken-clause-fits g c fit =
    let entries = c.args.shelf.now.rows.entries in
    let there = c.in-Some.there.now in
    let new = c.merge_at.new.there in
    fits_on g.S.Schema.words c.args.shelf.now.index c.note.new.index entries (c.get_mut.follows.lender new).entries c.args.shelf.now.indexed c.note.ensures.grows
    ((c.get_mut.follows.holds new).0 ∙ (ap (set_value _ entries) c.in_err-taken.ensures.unchanged ∙ set_value_same _ entries there (sym c.in-Some.ensures.value))) fit

pub returns-in-Some-clause-fits : goal.returns-in-Some-clause-fits
returns-in-Some-clause-fits g c fit =
    let later = c.note.new.index in
    let entries = c.args.shelf.now.rows.entries in
    let key = c.into_vec-key.result in
    let there = c.in-Some.there.now in
    let new = c.merge_at.new.there in
    let found : placed_at key.items entries ≡ Some there = at_same (Some there) c.as_slice.result.now key.items entries c.in-Some.ensures.value c.as_slice.ensures.value in
    let put = written_is_put key new there entries (c.get_mut.follows.lender new).entries c.as_slice.result.now c.as_slice.ensures.value c.get_mut.ensures.ordered found (c.get_mut.follows.holds new).0 in
    fits_put g.S.Schema.words c.args.shelf.now.index later entries (c.get_mut.follows.lender new).entries c.args.shelf.now.indexed c.note.ensures.grows key.items new
    (λ other. ap (placed_at other) put ∙ lookup_put other key new entries)
    (λ w at. ap (λ v. v.partition) (same_Some w there (sym at ∙ found)) ∙ sym c.merge_at.ensures.partition)
    ((λ i. has_key (sym c.as_slice-in-Some.ensures.value i) (keys_under later (c.merge_at.ensures.partition i))) ∙ c.in_ok-note.ensures.has)
    ((λ i. waits_in (sym c.as_slice-in-Some.ensures.value i) (get nat_cmp later (c.merge_at.ensures.partition i))) ∙ c.in_ok-note.ensures.waits)
    fit

pub returns-in_err-taken-clause-unchanged : goal.returns-in_err-taken-clause-unchanged
returns-in_err-taken-clause-unchanged g c =
    let entries = c.args.shelf.now.rows.entries in
    let there = c.in-Some.there.now in
    let new = c.merge_at.new.there in
    at_err c.from_residual-in_err-taken.result _
    ((c.get_mut.follows.holds new).0 ∙ (ap (set_value _ entries) c.in_err-taken.ensures.unchanged ∙ set_value_same _ entries there (sym c.in-Some.ensures.value)))

pub returns-in-Some-clause-rows : goal.returns-in-Some-clause-rows
returns-in-Some-clause-rows g c table t all =
    let words = g.S.Schema.words in
    let join = g.S.Row.Crdt.join in
    let row = c.args.row in
    let entries = c.args.shelf.now.rows.entries in
    let key = c.into_vec-key.result in
    let there = c.in-Some.there.now in
    let new = c.merge_at.new.there in
    let key-is : key.items ≡ words.key row = c.into_vec-key.ensures ∙ c.in_ok-key.ensures.is in
    let found : placed_at key.items entries ≡ Some there = at_same (Some there) c.as_slice.result.now key.items entries c.in-Some.ensures.value c.as_slice.ensures.value in
    let here : placed_at (words.key row) entries ≡ Some there = at_same (Some there) c.as_slice.result.now (words.key row) entries c.in-Some.ensures.value (c.as_slice.ensures.value ∙ key-is) in
    let put = written_is_put key new there entries (c.get_mut.follows.lender new).entries c.as_slice.result.now c.as_slice.ensures.value c.get_mut.ensures.ordered found (c.get_mut.follows.holds new).0 in
    ap shelf_rows put
    ∙ merged_here words table join row key new entries t key-is
    (c.in_ok-taken.ensures.row ∙ ap (λ o. merged_with join o row) (sym (row_there (words.key row) there entries here))) c.get_mut.ensures.ordered all

pub returns-in-Some-clause-placed : goal.returns-in-Some-clause-placed
returns-in-Some-clause-placed g c table t all =
    let words = g.S.Schema.words in
    let row = c.args.row in
    let entries = c.args.shelf.now.rows.entries in
    let key = c.into_vec-key.result in
    let there = c.in-Some.there.now in
    let new = c.merge_at.new.there in
    let key-is : key.items ≡ words.key row = c.into_vec-key.ensures ∙ c.in_ok-key.ensures.is in
    let found : placed_at key.items entries ≡ Some there = at_same (Some there) c.as_slice.result.now key.items entries c.in-Some.ensures.value c.as_slice.ensures.value in
    let here : placed_at (words.key row) entries ≡ Some there = at_same (Some there) c.as_slice.result.now (words.key row) entries c.in-Some.ensures.value (c.as_slice.ensures.value ∙ key-is) in
    let put = written_is_put key new there entries (c.get_mut.follows.lender new).entries c.as_slice.result.now c.as_slice.ensures.value c.get_mut.ensures.ordered found (c.get_mut.follows.holds new).0 in
    rw put
    (placed_put words table key new entries
    (entry_merged words table row key new c.key.ensures.proper t key-is g.met.S.Schema.laws there c.merge_at.ensures.partition c.in_ok-taken.ensures.row (found_is words table (words.key row) there entries all here))
    all)

pub returns-in-Some-clause-before : goal.returns-in-Some-clause-before
returns-in-Some-clause-before g c =
    let words = g.S.Schema.words in
    let row = c.args.row in
    let entries = c.args.shelf.now.rows.entries in
    let key = c.into_vec-key.result in
    let there = c.in-Some.there.now in
    let key-is : key.items ≡ words.key row = c.into_vec-key.ensures ∙ c.in_ok-key.ensures.is in
    let here : placed_at (words.key row) entries ≡ Some there = at_same (Some there) c.as_slice.result.now (words.key row) entries c.in-Some.ensures.value (c.as_slice.ensures.value ∙ key-is) in
    c.in_ok-taken.ensures.before ∙ ap (option_and_then words.live_block) (sym (row_there (words.key row) there entries here))

pub returns-in-Some-clause-change : goal.returns-in-Some-clause-change
returns-in-Some-clause-change g c =
    let words = g.S.Schema.words in
    let join = g.S.Row.Crdt.join in
    let row = c.args.row in
    let entries = c.args.shelf.now.rows.entries in
    let key = c.into_vec-key.result in
    let there = c.in-Some.there.now in
    let key-is : key.items ≡ words.key row = c.into_vec-key.ensures ∙ c.in_ok-key.ensures.is in
    let here : placed_at (words.key row) entries ≡ Some there = at_same (Some there) c.as_slice.result.now (words.key row) entries c.in-Some.ensures.value (c.as_slice.ensures.value ∙ key-is) in
    c.in_ok-taken.ensures.change ∙ ap (λ o. change_of join words o row) (sym (row_there (words.key row) there entries here))

pub returns-in_err-note-clause-marked : goal.returns-in_err-note-clause-marked
returns-in_err-note-clause-marked g c =
    let entries = c.args.shelf.now.rows.entries in
    let there = c.in-Some.there.now in
    let markers = c.args.shelf.now.markers in
    marked_stay g.S.Schema.words markers markers entries (c.get_mut.follows.lender there).entries
    ((c.get_mut.follows.holds there).0 ∙ set_value_same _ entries there (sym c.in-Some.ensures.value)) (λ t key had. had)

pub returns-in_err-taken-clause-marked : goal.returns-in_err-taken-clause-marked
returns-in_err-taken-clause-marked g c =
    let entries = c.args.shelf.now.rows.entries in
    let there = c.in-Some.there.now in
    let new = c.merge_at.new.there in
    marked_stay g.S.Schema.words c.args.shelf.now.markers c.merge_at.new.markers entries (c.get_mut.follows.lender new).entries
    ((c.get_mut.follows.holds new).0 ∙ (ap (set_value _ entries) c.in_err-taken.ensures.unchanged ∙ set_value_same _ entries there (sym c.in-Some.ensures.value)))
    c.in_err-taken.ensures.stay

pub returns-in-Some-clause-marked : goal.returns-in-Some-clause-marked
returns-in-Some-clause-marked g c all =
    let entries = c.args.shelf.now.rows.entries in
    let markers = c.args.shelf.now.markers in
    let key = c.into_vec-key.result in
    let there = c.in-Some.there.now in
    let new = c.merge_at.new.there in
    let found : placed_at key.items entries ≡ Some there = at_same (Some there) c.as_slice.result.now key.items entries c.in-Some.ensures.value c.as_slice.ensures.value in
    let put = written_is_put key new there entries (c.get_mut.follows.lender new).entries c.as_slice.result.now c.as_slice.ensures.value c.get_mut.ensures.ordered found (c.get_mut.follows.holds new).0 in
    marked_put g.S.Schema.words key.items markers c.merge_at.new.markers entries (c.get_mut.follows.lender new).entries
    (subst (λ k. OthersStay k markers c.merge_at.new.markers) c.as_slice-in-Some-2.ensures.value c.merge_at.ensures.others) all
    new (λ version marker. ap (λ k. marked_at version.0 k c.merge_at.new.markers) (sym c.as_slice-in-Some-2.ensures.value) ∙ c.in_ok-taken.ensures.marked version marker)
    (λ other. ap (placed_at other) put ∙ lookup_put other key new entries)

-- ---- none does

pub invariant_of-shelf-in-Break-branch-4 : goal.invariant_of-shelf-in-Break-branch-4
invariant_of-shelf-in-Break-branch-4 g c =
    let entries = c.args.shelf.now.rows.entries in
    let same : c.get_mut.follows.lender-at-none.entries ≡ entries = ap (λ m. m.entries) c.get_mut.follows.holds-at-none in
    record { indexed = ap (list_all (is_indexed c.note-2.new.index)) same ∙ indexed_more c.args.shelf.now.index c.note-2.new.index entries c.note-2.ensures.others c.args.shelf.now.indexed }

pub invariant_of-shelf-2 : goal.invariant_of-shelf-2
invariant_of-shelf-2 g c =
    let row = c.args.row in
    let entries = c.args.shelf.now.rows.entries in
    let key = c.into_vec-key.result in
    let placed : Placed g.row.S-Row.Denot = record { partition = c.partition.result; row = row } in
    let same : c.get_mut.follows.lender-at-none.entries ≡ entries = ap (λ m. m.entries) c.get_mut.follows.holds-at-none in
    let index = c.note-2.new.index in
    let all = ap (list_all (is_indexed index)) same ∙ indexed_more c.args.shelf.now.index index entries c.note-2.ensures.others c.args.shelf.now.indexed in
    record {
      indexed = indexed_put_or_not index c.insert.result key placed c.get_mut.follows.lender-at-none.entries c.insert.new.self.entries c.insert.ensures.entries c.insert.ensures.err
          (ap (λ k. has_key k (keys_under index placed.partition)) (sym c.as_slice-2.ensures.value) ∙ c.in_ok-note-2.ensures.has) all;
    }

pub returns-in_err-note-2-clause-fits : goal.returns-in_err-note-2-clause-fits
returns-in_err-note-2-clause-fits g c fit =
    let entries = c.args.shelf.now.rows.entries in
    fits_on g.S.Schema.words c.args.shelf.now.index c.note-2.new.index entries c.get_mut.follows.lender-at-none.entries c.args.shelf.now.indexed c.note-2.ensures.grows (ap (λ m. m.entries) c.get_mut.follows.holds-at-none) fit

pub returns-in_err-insert-clause-fits : goal.returns-in_err-insert-clause-fits
returns-in_err-insert-clause-fits g c fit =
    let entries = c.args.shelf.now.rows.entries in
    fits_on g.S.Schema.words c.args.shelf.now.index c.note-2.new.index entries c.insert.new.self.entries c.args.shelf.now.indexed c.note-2.ensures.grows
    (c.in_err-insert.ensures.err ∙ ap (λ m. m.entries) c.get_mut.follows.holds-at-none) fit

pub returns-clause-fits : goal.returns-clause-fits
returns-clause-fits g c fit =
    let row = c.args.row in
    let entries = c.args.shelf.now.rows.entries in
    let key = c.into_vec-key.result in
    let placed : Placed g.row.S-Row.Denot = record { partition = c.partition.result; row = row } in
    let same : c.get_mut.follows.lender-at-none.entries ≡ entries = ap (λ m. m.entries) c.get_mut.follows.holds-at-none in
    let index = c.note-2.new.index in
    let none : placed_at key.items entries ≡ None = at_same None c.as_slice.result.now key.items entries c.in_default.ensures.value c.as_slice.ensures.value in
    fits_put g.S.Schema.words c.args.shelf.now.index index entries c.insert.new.self.entries c.args.shelf.now.indexed c.note-2.ensures.grows key.items placed
    (λ other. ap (placed_at other) (c.in_ok-insert.ensures.entries ∙ ap (λ es. insert_entry vec_cmp es key placed) same) ∙ lookup_put other key placed entries)
    (λ w at. let wrong : None ≡ Some w = sym none ∙ at in cc)
    (ap (λ k. has_key k (keys_under index placed.partition)) (sym c.as_slice-2.ensures.value) ∙ c.in_ok-note-2.ensures.has)
    (ap (λ k. waits_in k (get nat_cmp index placed.partition)) (sym c.as_slice-2.ensures.value) ∙ c.in_ok-note-2.ensures.waits)
    fit

pub returns-clause-rows : goal.returns-clause-rows
returns-clause-rows g c table t all =
    let words = g.S.Schema.words in
    let join = g.S.Row.Crdt.join in
    let row = c.args.row in
    let entries = c.args.shelf.now.rows.entries in
    let key = c.into_vec-key.result in
    let key-is : key.items ≡ words.key row = c.into_vec-key.ensures ∙ c.in_ok-key.ensures.is in
    let none : placed_at (words.key row) entries ≡ None = at_same None c.as_slice.result.now (words.key row) entries c.in_default.ensures.value (c.as_slice.ensures.value ∙ key-is) in
    let placed : Placed g.row.S-Row.Denot = record { partition = c.partition.result; row = row } in
    let same : c.get_mut.follows.lender-at-none.entries ≡ entries = ap (λ m. m.entries) c.get_mut.follows.holds-at-none in
    ap shelf_rows (c.in_ok-insert.ensures.entries ∙ ap (λ es. insert_entry vec_cmp es key placed) same)
    ∙ merged_here words table join row key placed entries t key-is (ap (λ o. merged_with join o row) (sym (none_there (words.key row) entries none))) c.get_mut.ensures.ordered all

pub returns-clause-placed : goal.returns-clause-placed
returns-clause-placed g c table t all =
    let words = g.S.Schema.words in
    let row = c.args.row in
    let entries = c.args.shelf.now.rows.entries in
    let key = c.into_vec-key.result in
    let key-is : key.items ≡ words.key row = c.into_vec-key.ensures ∙ c.in_ok-key.ensures.is in
    let placed : Placed g.row.S-Row.Denot = record { partition = c.partition.result; row = row } in
    let same : c.get_mut.follows.lender-at-none.entries ≡ entries = ap (λ m. m.entries) c.get_mut.follows.holds-at-none in
    rw (c.in_ok-insert.ensures.entries, same)
    (placed_put words table key placed entries (entry_new words table row key placed c.key.ensures.proper t key-is c.partition.ensures.is refl) all)

pub returns-clause-before : goal.returns-clause-before
returns-clause-before g c =
    let words = g.S.Schema.words in
    let row = c.args.row in
    let entries = c.args.shelf.now.rows.entries in
    let key = c.into_vec-key.result in
    let key-is : key.items ≡ words.key row = c.into_vec-key.ensures ∙ c.in_ok-key.ensures.is in
    let none : placed_at (words.key row) entries ≡ None = at_same None c.as_slice.result.now (words.key row) entries c.in_default.ensures.value (c.as_slice.ensures.value ∙ key-is) in
    ap (option_and_then words.live_block) (sym (none_there (words.key row) entries none))

pub returns-clause-change : goal.returns-clause-change
returns-clause-change g c =
    let words = g.S.Schema.words in
    let join = g.S.Row.Crdt.join in
    let row = c.args.row in
    let entries = c.args.shelf.now.rows.entries in
    let key = c.into_vec-key.result in
    let key-is : key.items ≡ words.key row = c.into_vec-key.ensures ∙ c.in_ok-key.ensures.is in
    let none : placed_at (words.key row) entries ≡ None = at_same None c.as_slice.result.now (words.key row) entries c.in_default.ensures.value (c.as_slice.ensures.value ∙ key-is) in
    let live : c.is_some.result ≡ is_some (words.live_block row) = c.is_some.ensures ∙ (some_is (λ h. h.0) c.live_block.result ∙ ap is_some c.live_block.ensures) in
    (λ i. record { triggered = c.new.ensures i; was_live = false; is_live = live i }) ∙ ap (λ o. change_of join words o row) (sym (none_there (words.key row) entries none))

-- ---- its marker is noted

pub invariant_of-shelf-in-Break-branch-5 : goal.invariant_of-shelf-in-Break-branch-5
invariant_of-shelf-in-Break-branch-5 g c =
    let entries = c.args.shelf.now.rows.entries in
    let same : c.get_mut.follows.lender-at-none.entries ≡ entries = ap (λ m. m.entries) c.get_mut.follows.holds-at-none in
    record { indexed = ap (list_all (is_indexed c.note-2.new.index)) same ∙ indexed_more c.args.shelf.now.index c.note-2.new.index entries c.note-2.ensures.others c.args.shelf.now.indexed }

pub returns-in_err-change_marker-clause-fits : goal.returns-in_err-change_marker-clause-fits
returns-in_err-change_marker-clause-fits g c fit =
    let entries = c.args.shelf.now.rows.entries in
    fits_on g.S.Schema.words c.args.shelf.now.index c.note-2.new.index entries c.get_mut.follows.lender-at-none.entries c.args.shelf.now.indexed c.note-2.ensures.grows (ap (λ m. m.entries) c.get_mut.follows.holds-at-none) fit

pub returns-in_err-note-2-clause-marked : goal.returns-in_err-note-2-clause-marked
returns-in_err-note-2-clause-marked g c =
    let markers = c.args.shelf.now.markers in
    marked_stay g.S.Schema.words markers markers c.args.shelf.now.rows.entries c.get_mut.follows.lender-at-none.entries (ap (λ m. m.entries) c.get_mut.follows.holds-at-none) (λ t key had. had)

pub returns-in_err-change_marker-clause-marked : goal.returns-in_err-change_marker-clause-marked
returns-in_err-change_marker-clause-marked g c =
    marked_stay g.S.Schema.words c.args.shelf.now.markers c.change_marker.new.markers c.args.shelf.now.rows.entries c.get_mut.follows.lender-at-none.entries
    (ap (λ m. m.entries) c.get_mut.follows.holds-at-none) c.in_err-change_marker.ensures.stay

pub returns-in_err-insert-clause-marked : goal.returns-in_err-insert-clause-marked
returns-in_err-insert-clause-marked g c all =
    let entries = c.args.shelf.now.rows.entries in
    let markers = c.args.shelf.now.markers in
    let key = c.into_vec-key.result in
    let none : placed_at key.items entries ≡ None = at_same None c.as_slice.result.now key.items entries c.in_default.ensures.value c.as_slice.ensures.value in
    let same : c.insert.new.self.entries ≡ entries = c.in_err-insert.ensures.err ∙ ap (λ m. m.entries) c.get_mut.follows.holds-at-none in
    marked_gone g.S.Schema.words key.items markers c.change_marker.new.markers entries c.insert.new.self.entries
    (subst (λ k. OthersStay k markers c.change_marker.new.markers) c.as_slice-3.ensures.value c.change_marker.ensures.others) all
    (record { gone = ap (placed_at key.items) same ∙ none; others = λ other apart. ap (placed_at other) same })

pub returns-clause-marked : goal.returns-clause-marked
returns-clause-marked g c all =
    let entries = c.args.shelf.now.rows.entries in
    let markers = c.args.shelf.now.markers in
    let key = c.into_vec-key.result in
    let placed : Placed g.row.S-Row.Denot = record { partition = c.partition.result; row = c.args.row } in
    let same : c.get_mut.follows.lender-at-none.entries ≡ entries = ap (λ m. m.entries) c.get_mut.follows.holds-at-none in
    marked_put g.S.Schema.words key.items markers c.change_marker.new.markers entries c.insert.new.self.entries
    (subst (λ k. OthersStay k markers c.change_marker.new.markers) c.as_slice-3.ensures.value c.change_marker.ensures.others) all
    placed (λ version marker. ap (λ k. marked_at version.0 k c.change_marker.new.markers) (sym c.as_slice-3.ensures.value) ∙ c.in_ok-change_marker.ensures.marked version (c.marker-new.ensures ∙ marker))
    (λ other. ap (placed_at other) (c.in_ok-insert.ensures.entries ∙ ap (λ es. insert_entry vec_cmp es key placed) same) ∙ lookup_put other key placed entries)
