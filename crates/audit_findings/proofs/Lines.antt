-- Whether a text begins with another or differs from it in some line first.
use Rattle.std.proofs.Common.{◌≡◌, ◌≤◌, ◌+◌, ◌⊎◌, inl, inr, ℕ, suc, Bool, true, false, Some, None, List, [], ◌∷◌, ◌++◌, length, refl, sym, ap, ◌∙◌, append_assoc, append-nil, length-append, arith, bytes_eq}
use Rattle.std.proofs.lemmas.Slice.Eq.{bytes_eq-Decides}
use Rattle.audit_model.specs.Audit.{DifferFirst}

abbrev pub Lines : Type 0
Lines = List (List ℕ)

pub one_line : (a b : List ℕ) → (a ≡ b) ⊎ (a ≡ b → ⊥)
one_line a b = by_test (bytes_eq a b) refl
  where
    by_test : (t : Bool) → bytes_eq a b ≡ t → (a ≡ b) ⊎ (a ≡ b → ⊥)
    by_test true e = inl ((bytes_eq-Decides a b).0 e)
    by_test false e = inr (λ same. let no : false ≡ true = sym e ∙ (bytes_eq-Decides a b).1 same in cc)

-- it begins with this front, or differs first within it
pub data Begins (text front : Lines) : Type 0 where
  on : (rest : Lines) → text ≡ front ++ rest → Begins text front
  off : (k : ℕ) → DifferFirst text front k → k ≤ length front → Begins text front

-- one line more before both
onto : (m l : List ℕ) (a b : Lines) (k : ℕ) → m ≡ l → DifferFirst a b k → DifferFirst (m ∷ a) (l ∷ b) (suc k)
onto m l a b k same d = record {
  before = l ∷ d.before;
  rest_a = d.rest_a;
  rest_b = d.rest_b;
  a_is = λ i. same i ∷ d.a_is i;
  b_is = ap (λ x. l ∷ x) d.b_is;
  differ = d.differ;
  place = ap suc d.place;
}

pub begins : (text front : Lines) → Begins text front
begins text [] = on text refl
begins [] (l ∷ front) =
    off 1 (record { before = []; rest_a = []; rest_b = l ∷ front; a_is = refl; b_is = refl; differ = λ e. let no : None ≡ Some l = e in cc; place = refl }) (omega arith)
begins (m ∷ text) (l ∷ front) = by_line (one_line m l) (begins text front)
  where
    by_line : (m ≡ l) ⊎ (m ≡ l → ⊥) → Begins text front → Begins (m ∷ text) (l ∷ front)
    by_line (inl same) (on rest is) = on rest (λ i. same i ∷ is i)
    by_line (inl same) (off k d le) = off (suc k) (onto m l text front k same d) (omega arith)
    by_line (inr other) later =
        off 1 (record { before = []; rest_a = m ∷ text; rest_b = l ∷ front; a_is = refl; b_is = refl; differ = λ e. let some : Some m ≡ Some l = e in other (let is : m ≡ l = cc in is); place = refl }) (omega arith)

-- two texts are one, or differ first in some line
pub data Compared (a b : Lines) : Type 0 where
  same : a ≡ b → Compared a b
  other : (k : ℕ) → DifferFirst a b k → Compared a b

pub compared : (a b : Lines) → Compared a b
compared a b = by_front (begins a b)
  where
    by_front : Begins a b → Compared a b
    by_front (on [] is) = same (is ∙ append-nil b)
    by_front (on (x ∷ xs) is) =
        other (suc (length b)) (record { before = b; rest_a = x ∷ xs; rest_b = []; a_is = is; b_is = sym (append-nil b); differ = λ e. let no : Some x ≡ None = e in cc; place = refl })
    by_front (off k d le) = other k d

-- a difference behind what both begin with
pub further : (front a b : Lines) (j : ℕ) → DifferFirst a b j → (k : ℕ) × (DifferFirst (front ++ a) (front ++ b) k × (j ≤ length b → k ≤ length (front ++ b)))
further front a b j d =
    let k : ℕ = suc (length (front ++ d.before)) in
    let place : j ≡ suc (length d.before) = d.place in
    let first : length (front ++ d.before) ≡ length front + length d.before = length-append front d.before in
    let all : length (front ++ b) ≡ length front + length b = length-append front b in (
      k,
      (
        record {
          before = front ++ d.before;
          rest_a = d.rest_a;
          rest_b = d.rest_b;
          a_is = ap (λ x. front ++ x) d.a_is ∙ sym (append_assoc front d.before d.rest_a);
          b_is = ap (λ x. front ++ x) d.b_is ∙ sym (append_assoc front d.before d.rest_b);
          differ = d.differ;
          place = refl;
        },
        λ le. omega arith,
      ),
    )
