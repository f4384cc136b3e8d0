-- Values are ordered as their bytes are, whatever follows them.
use Rattle.std.proofs.Common.{◌≡◌, ℕ, Bool, true, List, [], ◌∷◌, ◌++◌, length, refl, sym, ap, ◌∙◌, append_assoc, arith}
use Rattle.std.specs.Prelude.{◌&&◌}
use Rattle.std.specs.List.{list_all, flat_map}
use Rattle.std.specs.declared.cmp.Ordering.{Ordering}
use Rattle.std.specs.declared.cmp.Ordering.TheVariants.{Less, Equal, Greater}
use Rattle.std.specs.Ordering.{nat_cmp, ordering_then}
use Rattle.std.specs.Cmp.Lexicographic.{slice_cmp}
use Rattle.std.proofs.lemmas.Cmp.{ranked}
use Rattle.crdt_core.specs.EntryLaws.{and_parts}
use Rattle.crdt_rows.specs.Fields.{list_cmp, bytes_cmp}
use Rattle.row_codec.specs.Range.{is_four, is_below, are_short}
use Rattle.row_codec.specs.Spelling.{four, field, counted}
use Rattle.row_codec.proofs.ByteOrder.{four_order, four_length}

-- two strings of bytes, byte by byte
abbrev pub texts : List ℕ → List ℕ → Ordering
texts = slice_cmp nat_cmp

-- values that fit are ordered by R, which is the order of their bytes, whatever follows
pub record Ordered {X : Type 0} (fits : X → Bool) (R : X → X → Ordering) (text : X → List ℕ) : Type 0 where
  pub decides : (x y : X) → fits x ≡ true → fits y ≡ true → (u v : List ℕ) → texts (text x ++ u) (text y ++ v) ≡ ordering_then (R x y) (texts u v)

pub then_assoc : (r s t : Ordering) → ordering_then (ordering_then r s) t ≡ ordering_then r (ordering_then s t)
then_assoc Less s t = refl
then_assoc Equal s t = refl
then_assoc Greater s t = refl

-- strings of one length decide before what follows
pub same_length : (a b u v : List ℕ) → length a ≡ length b → texts (a ++ u) (b ++ v) ≡ ordering_then (texts a b) (texts u v)
same_length [] [] u v e = refl
same_length [] (y ∷ b) u v e = absurd (omega arith)
same_length (x ∷ a) [] u v e = absurd (omega arith)
same_length (x ∷ a) (y ∷ b) u v e = ap (ordering_then (nat_cmp x y)) (same_length a b u v (omega arith)) ∙ sym (then_assoc (nat_cmp x y) (texts a b) (texts u v))

module _ {X Y : Type 0} {P : X → Bool} {Q : Y → Bool} {R : X → X → Ordering} {S : Y → Y → Ordering} {text_x : X → List ℕ} {text_y : Y → List ℕ} where
  pub both_ordered : Ordered P R text_x → Ordered Q S text_y → Ordered (λ (p : X × Y). P p.0 && Q p.1) (λ p q. ordering_then (R p.0 q.0) (S p.1 q.1)) (λ p. text_x p.0 ++ text_y p.1)
  both_ordered a b = record {
    decides = λ p q f g u v.
        let left = and_parts (P p.0) (Q p.1) f in
        let right = and_parts (P q.0) (Q q.1) g in
        (λ i. texts (append_assoc (text_x p.0) (text_y p.1) u i) (append_assoc (text_x q.0) (text_y q.1) v i))
        ∙ (a.decides p.0 q.0 left.0 right.0 (text_y p.1 ++ u) (text_y q.1 ++ v)
        ∙ (ap (ordering_then (R p.0 q.0)) (b.decides p.1 q.1 left.1 right.1 u v)
        ∙ sym (then_assoc (R p.0 q.0) (S p.1 q.1) (texts u v))));
  }

-- ---- behind a length or a count

behind_by : (m n : ℕ) (s : Ordering) (t u : Ordering) (r : Ordering) → nat_cmp m n ≡ r → (m ≡ n → t ≡ ordering_then s u) → ordering_then r t ≡ ordering_then (ordering_then r s) u
behind_by m n s t u Less e h = refl
behind_by m n s t u Equal e h = h (ranked m n Equal (sym e))
behind_by m n s t u Greater e h = refl

counts : (m n : ℕ) (a b : List ℕ) → is_four m ≡ true → is_four n ≡ true → texts (four m ++ a) (four n ++ b) ≡ ordering_then (nat_cmp m n) (texts a b)
counts m n a b p q = same_length (four m) (four n) a b (four_length m ∙ sym (four_length n)) ∙ ap (λ (r : Ordering). ordering_then r (texts a b)) (four_order m n p q)

behind : (m n : ℕ) (a b u v : List ℕ) (s : Ordering) → is_four m ≡ true → is_four n ≡ true → (m ≡ n → texts (a ++ u) (b ++ v) ≡ ordering_then s (texts u v)) → texts ((four m ++ a) ++ u) ((four n ++ b) ++ v) ≡ ordering_then (ordering_then (nat_cmp m n) s) (texts u v)
behind m n a b u v s p q h =
    (λ i. texts (append_assoc (four m) a u i) (append_assoc (four n) b v i))
    ∙ (counts m n (a ++ u) (b ++ v) p q ∙ behind_by m n s (texts (a ++ u) (b ++ v)) (texts u v) (nat_cmp m n) refl h)

-- bytes behind their length
pub field_ordered : Ordered is_below bytes_cmp field
field_ordered = record { decides = λ x y f g u v. behind (length x) (length y) x y u v (texts x y) f g (same_length x y u v) }

module _ {X : Type 0} {P : X → Bool} {R : X → X → Ordering} {text : X → List ℕ} (a : Ordered P R text) where
  each_ordered : (xs ys : List X) (u v : List ℕ) → list_all P xs ≡ true → list_all P ys ≡ true → length xs ≡ length ys → texts (flat_map text xs ++ u) (flat_map text ys ++ v) ≡ ordering_then (slice_cmp R xs ys) (texts u v)
  each_ordered [] [] u v f g e = refl
  each_ordered [] (y ∷ ys) u v f g e = absurd (omega arith)
  each_ordered (x ∷ xs) [] u v f g e = absurd (omega arith)
  each_ordered (x ∷ xs) (y ∷ ys) u v f g e =
      let left = and_parts (P x) (list_all P xs) f in
      let right = and_parts (P y) (list_all P ys) g in
      (λ i. texts (append_assoc (text x) (flat_map text xs) u i) (append_assoc (text y) (flat_map text ys) v i))
      ∙ (a.decides x y left.0 right.0 (flat_map text xs ++ u) (flat_map text ys ++ v)
      ∙ (ap (ordering_then (R x y)) (each_ordered xs ys u v left.1 right.1 (omega arith))
      ∙ sym (then_assoc (R x y) (slice_cmp R xs ys) (texts u v))))

  -- values behind their count
  pub counted_ordered : Ordered (are_short P) (list_cmp R) (counted text)
  counted_ordered = record {
    decides = λ xs ys f g u v.
        let left = and_parts (is_below xs) (list_all P xs) f in
        let right = and_parts (is_below ys) (list_all P ys) g in
        behind (length xs) (length ys) (flat_map text xs) (flat_map text ys) u v (slice_cmp R xs ys) left.0 right.0 (each_ordered xs ys u v left.1 right.1);
  }
