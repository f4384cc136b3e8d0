-- Laws that impls cite; what is defined here serves their proofs alone.
-- Readers of several values are made of readers of one.
use Rattle.std.proofs.Common.{◌≡◌, ℕ, zero, suc, Bool, true, List, [], ◌∷◌, ◌++◌, length, Option, Some, refl, sym, ap, subst, ◌∙◌, append_assoc}
use Rattle.std.specs.Prelude.{◌&&◌}
use Rattle.std.specs.List.{list_all, flat_map}
use Rattle.crdt_core.specs.EntryLaws.{and_parts, and_both}
use Rattle.row_codec.specs.Reads.{◌>>=◌, IsBytes, Begins, Reads}
use Rattle.row_codec.specs.Range.{is_below, are_short}
use Rattle.row_codec.specs.Spelling.{four, counted}
use Rattle.row_codec.specs.Reading.{four_at, each_at, counted_at, both_at, made_at, tested_at}
use Rattle.row_codec.specs.NumberLaws.{bind_some, some_is, bytes_rest, bytes_both, four_bytes, four_reads}

module _ {X Y : Type 0} {P : X → Bool} {Q : Y → Bool} {short_x : X → Bool} {short_y : Y → Bool} {text_x : X → List ℕ} {text_y : Y → List ℕ} {x_at : List ℕ → Option (X × List ℕ)} {y_at : List ℕ → Option (Y × List ℕ)} where
  pub both_reads : Reads P short_x text_x x_at → Reads Q short_y text_y y_at → Reads (λ p. P p.0 && Q p.1) (λ p. short_x p.0 && short_y p.1) (λ p. text_x p.0 ++ text_y p.1) (both_at x_at y_at)
  unfolding both_at
  both_reads a b = record {
    bytes = λ p fits. let each = and_parts (P p.0) (Q p.1) fits in bytes_both (text_x p.0) (text_y p.1) (a.bytes p.0 each.0) (b.bytes p.1 each.1);
    takes = λ bytes p rest fits e.
        let c = bind_some (x_at bytes) (λ x. y_at x.1 >>= λ y. Some ((x.0, y.0), y.1)) (p, rest) e in
        let d = bind_some (y_at c.0.1) (λ y. Some ((c.0.0, y.0), y.1)) (p, rest) c.2 in
        let t = a.takes bytes c.0.0 c.0.1 fits c.1 in
        let u = b.takes c.0.1 d.0.0 d.0.1 (bytes_rest bytes (text_x c.0.0) c.0.1 t.parts fits) d.1 in
        let parts : bytes ≡ (text_x c.0.0 ++ text_y d.0.0) ++ d.0.1 = t.parts ∙ ap (λ (y : List ℕ). text_x c.0.0 ++ y) u.parts ∙ sym (append_assoc (text_x c.0.0) (text_y d.0.0) d.0.1) in
        subst (λ (q : (X × Y) × List ℕ). Begins (λ p. P p.0 && Q p.1) (λ p. short_x p.0 && short_y p.1) (λ p. text_x p.0 ++ text_y p.1) bytes q.0 q.1) (some_is _ _ d.2) (record { parts = parts; fits = and_both _ _ t.fits u.fits; short = and_both _ _ t.short u.short });
    again = λ p rest proper short.
        let each = and_parts (P p.0) (Q p.1) proper in
        let parts = and_parts (short_x p.0) (short_y p.1) short in
        let first = a.again p.0 (text_y p.1 ++ rest) each.0 parts.0 in
        let second = b.again p.1 rest each.1 parts.1 in
        ap (both_at x_at y_at) (append_assoc (text_x p.0) (text_y p.1) rest) ∙ rw (first, second) refl;
  }

module _ {X Y : Type 0} {P : X → Bool} {short : X → Bool} {text : X → List ℕ} {x_at : List ℕ → Option (X × List ℕ)} (to : X → Y) (from : Y → X) (there : (y : Y) → to (from y) ≡ y) (back : (x : X) → from (to x) ≡ x) where
  pub made_reads : Reads P short text x_at → Reads (λ y. P (from y)) (λ y. short (from y)) (λ y. text (from y)) (made_at to x_at)
  unfolding made_at
  made_reads a = record {
    bytes = λ y fits. a.bytes (from y) fits;
    takes = λ bytes y rest fits e.
        let c = bind_some (x_at bytes) (λ x. Some (to x.0, x.1)) (y, rest) e in
        let t = a.takes bytes c.0.0 c.0.1 fits c.1 in
        let moved : Begins P short text bytes (from (to c.0.0)) c.0.1 = subst (λ (x : X). Begins P short text bytes x c.0.1) (sym (back c.0.0)) t in
        subst (λ (q : Y × List ℕ). Begins (λ y. P (from y)) (λ y. short (from y)) (λ y. text (from y)) bytes q.0 q.1) (some_is _ _ c.2) (record { parts = moved.parts; fits = moved.fits; short = moved.short });
    again = λ y rest proper is_short.
        let one = a.again (from y) rest proper is_short in
        rw one (ap (λ (z : Y). Some (z, rest)) (there y));
  }

module _ {X Y : Type 0} {P : X → Bool} {short : X → Bool} {text : X → List ℕ} {x_at : List ℕ → Option (X × List ℕ)} (to : X → Option Y) (from : Y → X) (there : (y : Y) → to (from y) ≡ Some y) (back : (x : X) (y : Y) → to x ≡ Some y → from y ≡ x) where
  pub tested_reads : Reads P short text x_at → Reads (λ y. P (from y)) (λ y. short (from y)) (λ y. text (from y)) (tested_at to x_at)
  unfolding tested_at
  tested_reads a = record {
    bytes = λ y fits. a.bytes (from y) fits;
    takes = λ bytes y rest fits e.
        let c = bind_some (x_at bytes) (λ x. to x.0 >>= λ y. Some (y, x.1)) (y, rest) e in
        let d = bind_some (to c.0.0) (λ y. Some (y, c.0.1)) (y, rest) c.2 in
        let t = a.takes bytes c.0.0 c.0.1 fits c.1 in
        let moved : Begins P short text bytes (from d.0) c.0.1 = subst (λ (x : X). Begins P short text bytes x c.0.1) (sym (back c.0.0 d.0 d.1)) t in
        subst (λ (q : Y × List ℕ). Begins (λ y. P (from y)) (λ y. short (from y)) (λ y. text (from y)) bytes q.0 q.1) (some_is _ _ d.2) (record { parts = moved.parts; fits = moved.fits; short = moved.short });
    again = λ y rest proper is_short.
        let one = a.again (from y) rest proper is_short in
        rw (one, there y) refl;
  }

module _ {X : Type 0} {P : X → Bool} {short : X → Bool} {text : X → List ℕ} {x_at : List ℕ → Option (X × List ℕ)} (a : Reads P short text x_at) where
  -- bytes that begin with the spellings of n values
  record Each (n : ℕ) (bytes : List ℕ) (xs : List X) (rest : List ℕ) : Type 0 where
    count : length xs ≡ n
    begins : Begins (list_all P) (list_all short) (flat_map text) bytes xs rest

  -- n values, one after the other
  each_takes : (n : ℕ) (bytes : List ℕ) (xs : List X) (rest : List ℕ) → IsBytes bytes → each_at x_at n bytes ≡ Some (xs, rest) → Each n bytes xs rest
  unfolding each_at
  each_takes zero bytes xs rest fits e =
      subst (λ (q : List X × List ℕ). Each zero bytes q.0 q.1) (some_is ([], bytes) (xs, rest) e) (record { count = refl; begins = record { parts = refl; fits = refl; short = refl } })
  each_takes (suc n) bytes xs rest fits e =
      let c = bind_some (x_at bytes) (λ x. each_at x_at n x.1 >>= λ ys. Some (x.0 ∷ ys.0, ys.1)) (xs, rest) e in
      let d = bind_some (each_at x_at n c.0.1) (λ ys. Some (c.0.0 ∷ ys.0, ys.1)) (xs, rest) c.2 in
      let t = a.takes bytes c.0.0 c.0.1 fits c.1 in
      let u = each_takes n c.0.1 d.0.0 d.0.1 (bytes_rest bytes (text c.0.0) c.0.1 t.parts fits) d.1 in
      let parts : bytes ≡ flat_map text (c.0.0 ∷ d.0.0) ++ d.0.1 = t.parts ∙ ap (λ (y : List ℕ). text c.0.0 ++ y) u.begins.parts ∙ sym (append_assoc (text c.0.0) (flat_map text d.0.0) d.0.1) in
      subst (λ (q : List X × List ℕ). Each (suc n) bytes q.0 q.1) (some_is _ _ d.2) (record { count = ap suc u.count; begins = record { parts = parts; fits = and_both _ _ t.fits u.begins.fits; short = and_both _ _ t.short u.begins.short } })

  each_bytes : (xs : List X) → list_all P xs ≡ true → IsBytes (flat_map text xs)
  each_bytes [] fits = refl
  each_bytes (x ∷ xs) fits = let each = and_parts (P x) (list_all P xs) fits in bytes_both (text x) (flat_map text xs) (a.bytes x each.0) (each_bytes xs each.1)

  each_again : (xs : List X) (rest : List ℕ) → list_all P xs ≡ true → list_all short xs ≡ true → each_at x_at (length xs) (flat_map text xs ++ rest) ≡ Some (xs, rest)
  unfolding each_at
  each_again [] rest proper h = refl
  each_again (x ∷ xs) rest proper h =
      let each = and_parts (P x) (list_all P xs) proper in
      let parts = and_parts (short x) (list_all short xs) h in
      let first = a.again x (flat_map text xs ++ rest) each.0 parts.0 in
      let others = each_again xs rest each.1 parts.1 in
      ap (each_at x_at (suc (length xs))) (append_assoc (text x) (flat_map text xs) rest) ∙ rw (first, others) refl

  pub counted_reads : Reads (list_all P) (are_short short) (counted text) (counted_at x_at)
  unfolding counted_at
  counted_reads = record {
    bytes = λ xs fits. bytes_both (four (length xs)) (flat_map text xs) (four_bytes (length xs)) (each_bytes xs fits);
    takes = λ bytes xs rest fits e.
        let c = bind_some (four_at bytes) (λ n. each_at x_at n.0 n.1) (xs, rest) e in
        let t = four_reads.takes bytes c.0.0 c.0.1 fits c.1 in
        let u = each_takes c.0.0 c.0.1 xs rest (bytes_rest bytes (four c.0.0) c.0.1 t.parts fits) c.2 in
        let parts : bytes ≡ counted text xs ++ rest = t.parts ∙ ap (λ (y : List ℕ). four c.0.0 ++ y) u.begins.parts ∙ sym (append_assoc (four c.0.0) (flat_map text xs) rest) ∙ ap (λ (n : ℕ). (four n ++ flat_map text xs) ++ rest) (sym u.count) in
        record { parts = parts; fits = u.begins.fits; short = and_both _ _ (rw u.count t.fits) u.begins.short };
    again = λ xs rest proper h.
        let parts = and_parts (is_below xs) (list_all short xs) h in
        let first = four_reads.again (length xs) (flat_map text xs ++ rest) parts.0 refl in
        let others = each_again xs rest proper parts.1 in
        ap (counted_at x_at) (append_assoc (four (length xs)) (flat_map text xs) rest) ∙ rw (first, others) refl;
  }
