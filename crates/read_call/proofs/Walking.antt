-- One step of the walk over two answers.
use Rattle.std.proofs.Common.{◌≡◌, ℕ, suc, ◌+◌, ◌<◌, ◌≤◌, min, Bool, true, false, cond, Option, List, [], ◌∷◌, ◌++◌, ◌-◌, map, take, length, get_or, drop, reverse, refl, sym, ap, ◌∙◌, append_assoc, append-nil, add-one, drop-cons, ltb, arith}
use Rattle.std.specs.Prelude.{filter}
use Rattle.std.proofs.lemmas.Bool.Decides.{nat_tests}
use Rattle.std.proofs.lemmas.List.{drop_all, take_rest, reverse-append}
use Rattle.std.specs.declared.cmp.Ordering.{Ordering}
use Rattle.std.specs.declared.cmp.Ordering.TheVariants.{Less, Equal, Greater}
use Rattle.crdt_core.specs.Lex.{by_order}
use Rattle.crdt_core.specs.IdentityLaws.{slice_identical, nat_identical}
use Rattle.crdt_core.specs.Entries.{merged}
use Rattle.table_schema.specs.Words.{Words}
use Rattle.quorum_model.specs.Window.{key_cmp, keyed, is_within, rows_within}
use Rattle.read_call.specs.Walk.{from_next}

pub merged_end : {V : Type 0} (join : V → V → V) (es : List (List ℕ × V)) → merged key_cmp join es [] ≡ es
merged_end join [] = refl
merged_end join (e ∷ es) = refl

module _ {R : Type 0} where
  pub within_cons : (end : Option (List ℕ)) (e : List ℕ × R) (es : List (List ℕ × R)) → rows_within end (e ∷ es) ≡ rows_within end (e ∷ []) ++ rows_within end es
  within_cons end e es =
      elim (is_within end e.0) as (λ t. map (λ x. x.1) (cond t (e ∷ filter (λ x. is_within end x.0) es) (filter (λ x. is_within end x.0) es)) ≡ map (λ x. x.1) (cond t (e ∷ []) []) ++ rows_within end es) [ true ↦ refl | false ↦ refl ]

  cut : (xs : List R) (i : ℕ) (x : R) → i < length xs → x ≡ get_or xs i x → drop i xs ≡ x ∷ drop (suc i) xs
  cut xs i x lt is = drop-cons xs i x lt ∙ ap (λ y. y ∷ drop (suc i) xs) (sym is)

  module _ (s : Words R) where
    -- the next row of a walk over the rest
    pub rest_next : (end : Option (List ℕ)) (xs : List R) (i : ℕ) (x : R) → i < length xs → x ≡ get_or xs i x →
        rows_within end (keyed s (drop i xs)) ≡ rows_within end ((s.key x, x) ∷ []) ++ rows_within end (keyed s (drop (i + 1) xs))
    rest_next end xs i x lt is = rw (add-one i, cut xs i x lt is) (within_cons end (s.key x, x) (keyed s (drop (suc i) xs)))

    pub rest_step : (end : Option (List ℕ)) (xs : List R) (i : ℕ) (x : R) (key : List ℕ) (rows more all : List R) → i < length xs → x ≡ get_or xs i x → key ≡ s.key x →
        more ≡ rows ++ rows_within end ((key, x) ∷ []) → rows ++ rows_within end (keyed s (drop i xs)) ≡ all → more ++ rows_within end (keyed s (drop (i + 1) xs)) ≡ all
    rest_step end xs i x key rows more all lt is k m before =
        let rest = rows_within end (keyed s (drop (i + 1) xs)) in
        ap (λ l. l ++ rest) (m ∙ ap (λ q. rows ++ rows_within end ((q, x) ∷ [])) k)
        ∙ (append_assoc rows (rows_within end ((s.key x, x) ∷ [])) rest ∙ (ap (λ l. rows ++ l) (sym (rest_next end xs i x lt is)) ∙ before))

    pub rest_end : (end : Option (List ℕ)) (xs : List R) (i : ℕ) (rows all : List R) → length xs ≤ i → rows ++ rows_within end (keyed s (drop i xs)) ≡ all → rows ≡ all
    rest_end end xs i rows all le before =
        sym (append-nil rows) ∙ (ap (λ l. rows ++ rows_within end (keyed s l)) (sym (drop_all i xs le)) ∙ before)

    module _ (join : R → R → R) where
      merged_cons : (x y : R) (xs : List R) (key : List ℕ) (ys : List (List ℕ × R)) (o : Ordering) → key_cmp (s.key x) key ≡ o →
          merged key_cmp join (keyed s (x ∷ xs)) ((key, y) ∷ ys) ≡ by_order o ((s.key x, x) ∷ merged key_cmp join (keyed s xs) ((key, y) ∷ ys)) ((s.key x, join x y) ∷ merged key_cmp join (keyed s xs) ys) ((key, y) ∷ merged key_cmp join (keyed s (x ∷ xs)) ys)
      merged_cons x y xs key ys o e = rw e refl

      module _ (xs : List R) (i : ℕ) (x : R) (key : List ℕ) (y : R) (ys : List (List ℕ × R)) (lt : i < length xs) (is : x ≡ get_or xs i x) where
        pub next_below : key_cmp (s.key x) key ≡ Less → merged key_cmp join (keyed s (drop i xs)) ((key, y) ∷ ys) ≡ (s.key x, x) ∷ merged key_cmp join (keyed s (drop (i + 1) xs)) ((key, y) ∷ ys)
        next_below e = rw (add-one i, cut xs i x lt is) (merged_cons x y (drop (suc i) xs) key ys Less e)

        -- a copy of it was added where it is within the end
        pub next_copied : (end : Option (List ℕ)) (own : List ℕ) (rows more all : List R) → key_cmp (s.key x) key ≡ Less → own ≡ s.key x → more ≡ rows ++ rows_within end ((own, x) ∷ []) →
            rows ++ rows_within end (merged key_cmp join (keyed s (drop i xs)) ((key, y) ∷ ys)) ≡ all → more ++ rows_within end (merged key_cmp join (keyed s (drop (i + 1) xs)) ((key, y) ∷ ys)) ≡ all
        next_copied end own rows more all e k m before =
            let rest = merged key_cmp join (keyed s (drop (i + 1) xs)) ((key, y) ∷ ys) in
            ap (λ l. l ++ rows_within end rest) (m ∙ ap (λ q. rows ++ rows_within end ((q, x) ∷ [])) k)
            ∙ (append_assoc rows (rows_within end ((s.key x, x) ∷ [])) (rows_within end rest)
            ∙ (ap (λ l. rows ++ l) (sym (within_cons end (s.key x, x) rest) ∙ ap (rows_within end) (sym (next_below e))) ∙ before))

        pub next_equal : key_cmp (s.key x) key ≡ Equal → merged key_cmp join (keyed s (drop i xs)) ((key, y) ∷ ys) ≡ from_next join s true (drop i xs) key y ys
        next_equal e =
            rw (cut xs i x lt is) (merged_cons x y (drop (suc i) xs) key ys Equal e
            ∙ ap (λ k. (k, join x y) ∷ merged key_cmp join (keyed s (drop (suc i) xs)) ys) (slice_identical nat_identical (s.key x) key e))

        pub next_above : key_cmp (s.key x) key ≡ Greater → merged key_cmp join (keyed s (drop i xs)) ((key, y) ∷ ys) ≡ from_next join s false (drop i xs) key y ys
        next_above e = rw (cut xs i x lt is) (merged_cons x y (drop (suc i) xs) key ys Greater e)

      pub next_none : (xs : List R) (i : ℕ) (key : List ℕ) (y : R) (ys : List (List ℕ × R)) → length xs ≤ i → merged key_cmp join (keyed s (drop i xs)) ((key, y) ∷ ys) ≡ from_next join s false (drop i xs) key y ys
      next_none xs i key y ys le = rw (drop_all i xs le) refl

      module _ (end : Option (List ℕ)) (key : List ℕ) (y : R) (ys : List (List ℕ × R)) (xs : List R) (i : ℕ) where
        pub met_left : (rows : List R) → i < length xs → false ≡ is_within end key →
            rows ++ rows_within end (merged key_cmp join (keyed s (drop (i + 1) xs)) ys) ≡ rows ++ rows_within end (from_next join s true (drop i xs) key y ys)
        met_left rows lt e =
            rw (add-one i, drop-cons xs i y lt, sym e) refl

-- ---- the whole walk

pub none_left : {R : Type 0} (xs : List R) → length xs ≤ 0 → xs ≡ []
none_left [] h = refl
none_left (x ∷ xs) h = absurd (omega (arith, h))

module _ {R : Type 0} (s : Words R) (join : R → R → R) (end : Option (List ℕ)) (xs : List R) where
  abbrev pub walked : ℕ → List R → List R
  walked i waiting = rows_within end (merged key_cmp join (keyed s (drop i xs)) (keyed s (reverse waiting)))

  -- one row of the second answer was taken
  pub walk_step : (i j : ℕ) (b : Bool) (count : ℕ) (before after : List R) (y : R) (key : List ℕ) (rows passed more all : List R) → before ≡ after ++ y ∷ [] → key ≡ s.key y →
      passed ++ rows_within end (from_next join s b (drop count xs) key y (keyed s (reverse after))) ≡ rows ++ rows_within end (merged key_cmp join (keyed s (drop i xs)) ((key, y) ∷ keyed s (reverse after))) →
      more ++ rows_within end (merged key_cmp join (keyed s (drop j xs)) (keyed s (reverse after))) ≡ passed ++ rows_within end (from_next join s b (drop count xs) key y (keyed s (reverse after))) →
      rows ++ walked i before ≡ all → more ++ walked j after ≡ all
  walk_step i j b count before after y key rows passed more all popped k below next all_before =
      let front : keyed s (reverse before) ≡ (key, y) ∷ keyed s (reverse after) =
      ap (λ l. keyed s (reverse l)) popped ∙ (ap (keyed s) (reverse-append after (y ∷ [])) ∙ ap (λ q. (q, y) ∷ keyed s (reverse after)) (sym k)) in
      next ∙ (below ∙ (ap (λ l. rows ++ rows_within end (merged key_cmp join (keyed s (drop i xs)) l)) (sym front) ∙ all_before))

  -- none is waiting
  pub walk_end : (i : ℕ) (waiting rows more all : List R) → waiting ≡ [] → more ≡ rows ++ rows_within end (keyed s (drop i xs)) → rows ++ walked i waiting ≡ all → more ≡ all
  walk_end i waiting rows more all none m all_before =
      m ∙ (ap (λ es. rows ++ rows_within end es) (sym (merged_end join (keyed s (drop i xs)))) ∙ (ap (λ l. rows ++ walked i l) (sym none) ∙ all_before))

past_32 : (bytes : List ℕ) → drop (min (length bytes) 32) bytes ≡ drop 32 bytes
past_32 bytes =
    elim (ltb 32 (length bytes)) as (λ b. ltb 32 (length bytes) ≡ b → drop (min (length bytes) 32) bytes ≡ drop 32 bytes) [
      | true ↦ λ e. let is : min (length bytes) 32 ≡ 32 = grind (arith, nat_tests) in rw is refl
      | false ↦ λ e.
          let is : min (length bytes) 32 ≡ length bytes = grind (arith, nat_tests) in
          let le : length bytes ≤ 32 = grind (arith, nat_tests) in
          rw (is, drop_all (length bytes) bytes (omega arith), drop_all 32 bytes le) refl
    ] refl

pub without_position : (bytes key rest : List ℕ) (start : ℕ) → bytes ≡ key → start ≡ min (length bytes) 32 → rest ≡ take (length bytes - start) (drop start bytes) → rest ≡ drop 32 key
without_position bytes key rest start same at cut_off =
    cut_off ∙ (take_rest bytes start ∙ (ap (λ n. drop n bytes) at ∙ (past_32 bytes ∙ ap (drop 32) same)))
