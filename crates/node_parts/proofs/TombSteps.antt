-- A row that is dropped as if none had been accepted at its place.
use Rattle.std.specs.Prelude.{◌≡◌, ℕ, ◌&&◌, not, Bool, true, false, cond, count_by, is_some, IsTrue, List, [], ◌∷◌, Option, Some, None, refl}
use Rattle.std.proofs.Common.{ap, sym, ◌∙◌, subst, arith}
use Rattle.std.specs.List.{AllByRecursion, filter}
use Rattle.std.specs.Option.{option_and_then}
use Rattle.std.specs.Ordering.{is_eq}
use Rattle.std.specs.Cmp.{Equal-is}
use Rattle.std.proofs.lemmas.List.Elements.{recursion_from_All, All-from_recursion}
use Rattle.blake2_hash.specs.Blake2b.{blake2b}
use Rattle.layout_roles.specs.declared.layout.Layout.{Layout}
use Rattle.table_schema.specs.Words.{Words}
use Rattle.table_schema.specs.Laws.{Laws, Same}
use Rattle.table_model.specs.Rows.{find_row, is_at, place, place_cmp, row_at, rows}
use Rattle.table_model.proofs.RowLaws.{Above, Ascends, place_identical, row_found, rows_ascend, rows_filter}
use Rattle.cluster_machine.specs.Node.{Node, Did, quiet}
use Rattle.cluster_machine.specs.Phases.{spelled as bytes_in}
use Rattle.cluster_machine.specs.Rows.{is_block, same_bytes}
use Rattle.cluster_machine.specs.Collects.{forgets_row, has_bytes, has_digest, without_row}
use Rattle.node_parts.specs.declared.contents.Contents.{Contents}
use Rattle.node_parts.specs.Collects.{marker_of}
use Rattle.node_parts.specs.Contents.{IsContents, Became}
use Rattle.node_parts.proofs.Counting.{count_cons, needs, one}

-- the same node
pub became_same : {S R : Type 0} {join : R → R → R} {s : Words R} (c : Contents S R) (x : Node R Layout) → IsContents join s c x → Became join s c x x
became_same c x is = record { contents = is; rest = record { view = refl; calls = refl; round = refl; rounds = refl; mending = refl; lasting = refl; gc = refl } }

module _ {R : Type 0} (join : R → R → R) (s : Words R) (table : ℕ) (key : List ℕ) where
  -- all rows but the one of a table and key
  abbrev others_of : List R → List R
  others_of xs = filter (λ r. not (is_at s table key r)) xs

  stay_above : (xs : List R) → Above s (table, key) xs → others_of xs ≡ xs
  stay_above [] above = refl
  stay_above (x ∷ xs) above = ap (λ o. cond (not (is_eq o)) (x ∷ others_of xs) (others_of xs)) above.0 ∙ ap (λ l. x ∷ l) (stay_above xs above.1)

  count_at : (hash : List ℕ) (x : R) (xs : List R) → Above s (place s x) xs → (is_at s table key x ≡ true → s.live_block x ≡ None) → (is_at s table key x ≡ false → count_by (needs join s hash) (others_of xs) ≡ count_by (needs join s hash) xs) →
      (b : Bool) → is_at s table key x ≡ b → count_by (needs join s hash) (cond (not b) (x ∷ others_of xs) (others_of xs)) ≡ count_by (needs join s hash) (x ∷ xs)
  count_at hash x xs above none rest true h =
      let at : (table, key) ≡ place s x = place_identical (table, key) (place s x) ((Equal-is _).0 h) in
      let same : others_of xs ≡ xs = stay_above xs (subst (λ q. Above s q xs) (sym at) above) in
      let here : one (needs join s hash x) ≡ 0 = ap (λ o. one (is_block hash o)) (none h) in
      ap (count_by (needs join s hash)) same ∙ omega (arith, here, count_cons (needs join s hash) x xs)
  count_at hash x xs above none rest false h =
      let later = rest h in
      omega (arith, later, count_cons (needs join s hash) x xs, count_cons (needs join s hash) x (others_of xs))

  -- where the row needs no block as many need one without it
  counts_without : (hash : List ℕ) (xs : List R) → Ascends s xs → ((r : R) → find_row s table key xs ≡ Some r → s.live_block r ≡ None) → count_by (needs join s hash) (others_of xs) ≡ count_by (needs join s hash) xs
  counts_without hash [] a none = refl
  counts_without hash (x ∷ xs) a none =
      count_at hash x xs a.0 (λ h. none x (ap (λ b. cond b (Some x) (find_row s table key xs)) h))
      (λ h. counts_without hash xs a.1 (λ r found. none r (ap (λ b. cond b (Some x) (find_row s table key xs)) h ∙ found)))
      (is_at s table key x) refl

  all_others : (xs : List R) → AllByRecursion (λ r. IsTrue (s.is_proper r)) xs → AllByRecursion (λ r. IsTrue (s.is_proper r)) (others_of xs)
  all_others [] all = tt
  all_others (x ∷ xs) all =
      elim (is_at s table key x) as (λ b. AllByRecursion (λ r. IsTrue (s.is_proper r)) (cond (not b) (x ∷ others_of xs) (others_of xs))) [ true ↦ all_others xs all.1 | false ↦ (all.0, all_others xs all.1) ]

  -- two rows at one place are both at it, or neither is
  alike : (a b : R) → Same s a b → not (is_at s table key a) ≡ not (is_at s table key b)
  alike a b same = λ i. not (is_eq (place_cmp (table, key) (same.table i, same.key i)))

module _ {S R : Type 0} {join : R → R → R} {s : Words R} (laws : Laws join s) where
  -- the contents without the row of a table and key, which needs no block
  pub dropped_row : (c d : Contents S R) (x : Node R Layout) (table : ℕ) (key : List ℕ) → IsContents join s c x → ((r : R) → find_row s table key c.table ≡ Some r → s.live_block r ≡ None) →
      d.table ≡ filter (λ r. not (is_at s table key r)) c.table → d.outbox ≡ c.outbox → d.blocks ≡ c.blocks → Became join s d x (without_row join s x table key)
  dropped_row c d x table key is none rows-are outbox blocks =
      let stays = rows_filter laws (λ r. not (is_at s table key r)) (alike join s table key) x.accepted is.proper in
      record {
        contents = record {
          proper = All-from_recursion (λ r. IsTrue (s.is_proper r)) (others_of join s table key x.accepted) (all_others join s table key x.accepted (recursion_from_All (λ r. IsTrue (s.is_proper r)) x.accepted is.proper));
          table = rows-are ∙ (ap (others_of join s table key) is.table ∙ sym stays);
          items = rw outbox is.items;
          queued = rw outbox is.queued;
          blocks = rw blocks (record {
            bytes = is.blocks.bytes;
            counts = λ h.
                is.blocks.counts h
                ∙ (sym (counts_without join s table key h.0 (rows join s x.accepted) (rows_ascend laws x.accepted is.proper) (λ r found. none r (ap (find_row s table key) is.table ∙ found)))
                ∙ ap (count_by (needs join s h.0)) (sym stays));
            notes = is.blocks.notes;
            number = is.blocks.number;
          });
        };
        rest = record { view = refl; calls = refl; round = refl; rounds = refl; mending = refl; lasting = refl; gc = refl };
      }

-- where the row that is found needs no block
pub none_needed : {R : Type 0} (s : Words R) (table : ℕ) (key : List ℕ) (xs : List R) → is_some (option_and_then s.live_block (find_row s table key xs)) ≡ false → (r : R) → find_row s table key xs ≡ Some r → s.live_block r ≡ None
none_needed s table key xs none r found = none_by (s.live_block r) (ap (λ o. is_some (option_and_then s.live_block o)) (sym found) ∙ none)
  where
    none_by : (o : Option (List ℕ)) → is_some o ≡ false → o ≡ None
    none_by None h = refl
    none_by (Some hash) h = cc

-- ---- a row's bytes

-- the bytes of a row that may be there
pub has_is : {R : Type 0} (join : R → R → R) (s : Words R) (bytes : List ℕ) (o : Option R) (b : Option (List ℕ)) → b ≡ option_and_then s.spelling o → has_bytes join s bytes o ≡ (is_some b && same_bytes (bytes_in b) bytes)
has_is join s bytes None b is = ap (λ p. is_some p && same_bytes (bytes_in p) bytes) (sym is)
has_is join s bytes (Some r) b is = ap (λ p. is_some p && same_bytes (bytes_in p) bytes) (sym is)

module _ {S R : Type 0} {join : R → R → R} {s : Words R} (laws : Laws join s) (c : Contents S R) (x : Node R Layout) (is : IsContents join s c x) (table : ℕ) (key hash : List ℕ) where
  abbrev row : Option R
  row = row_at join s x.accepted table key

  abbrev forgotten : Option R → Did R Layout
  forgotten o = forgets_row join s x table key (has_digest join s hash) o

  -- the row that is found is the node's
  pub found_is : find_row s table key c.table ≡ row
  found_is = ap (find_row s table key) is.table ∙ row_found laws x.accepted table key is.proper

  none_by : (b : Option (List ℕ)) → (is_some b && same_bytes (blake2b 32 (bytes_in b)) hash) ≡ false → (o : Option R) → b ≡ option_and_then s.spelling o → Became join s c x (forgotten o).node × (None ≡ (forgotten o).dropped)
  none_by b other None are = (became_same c x is, refl)
  none_by b other (Some r) are =
      let fails : has_digest join s hash r ≡ false = ap (λ p. is_some p && same_bytes (blake2b 32 (bytes_in p)) hash) (sym are) ∙ other in
      let d : Bool → Did R Layout = λ t. cond t (record (quiet (without_row join s x table key)) { collects = r ∷ []; dropped = s.marker r }) (quiet x) in
      subst (λ t. Became join s c x (d t).node × (None ≡ (d t).dropped)) (sym fails) (became_same c x is, refl)

  -- no row whose bytes have the digest is there
  pub forgets_none : (b : Option (List ℕ)) → b ≡ option_and_then s.spelling (find_row s table key c.table) → (is_some b && same_bytes (blake2b 32 (bytes_in b)) hash) ≡ false → Became join s c x (forgotten row).node × (None ≡ (forgotten row).dropped)
  forgets_none b are other = none_by b other row (are ∙ ap (option_and_then s.spelling) found_is)

  it_by : (d : Contents S R) (marker : Option (ℕ × ℕ)) (bytes : List ℕ) → same_bytes (blake2b 32 bytes) hash ≡ true → Became join s d x (without_row join s x table key) → (o : Option R) → Some bytes ≡ option_and_then s.spelling o → marker ≡ marker_of s o →
      Became join s d x (forgotten o).node × (marker ≡ (forgotten o).dropped)
  it_by d marker bytes same drops None are is-marker = absurd (let no : Some bytes ≡ None = are in cc)
  it_by d marker bytes same drops (Some r) are is-marker =
      let passes : has_digest join s hash r ≡ true = ap (λ p. is_some p && same_bytes (blake2b 32 (bytes_in p)) hash) (sym are) ∙ same in
      let e : Bool → Did R Layout = λ t. cond t (record (quiet (without_row join s x table key)) { collects = r ∷ []; dropped = s.marker r }) (quiet x) in
      subst (λ t. Became join s d x (e t).node × (marker ≡ (e t).dropped)) (sym passes) (drops, is-marker)

  -- one is, and was dropped
  pub forgets_it : (d : Contents S R) (marker : Option (ℕ × ℕ)) (bytes : List ℕ) → Some bytes ≡ option_and_then s.spelling (find_row s table key c.table) → same_bytes (blake2b 32 bytes) hash ≡ true →
      Became join s d x (without_row join s x table key) → marker ≡ marker_of s (find_row s table key c.table) → Became join s d x (forgotten row).node × (marker ≡ (forgotten row).dropped)
  forgets_it d marker bytes are same drops is-marker = it_by d marker bytes same drops row (are ∙ ap (option_and_then s.spelling) found_is) (is-marker ∙ ap (marker_of s) found_is)
