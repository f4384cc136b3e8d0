-- Whether a text begins with a piece of the grammar is decided.
use Rattle.std.proofs.Common.{◌≡◌, ℕ, inl, inr, List, [], ◌∷◌, ◌++◌, refl, subst}
use Rattle.std.proofs.lemmas.Bool.{cases_eq}
use Rattle.httparse.specs.Pieces.{Piece, Then, Newline}
use Rattle.httparse.specs.Grammar.{LineEnd, crlf, lf, print_end}
use Rattle.httparse.proofs.PieceLemmas.{IsDeterministic}

-- a text begins with the piece, or it doesn't
pub data Decision {A : Type 0} (G : Piece A) (text : List ℕ) : Type 0 where
  begins : (a : A) (rest : List ℕ) → G a text rest → Decision G text
  lacks : ((a : A) (rest : List ℕ) → G a text rest → ⊥) → Decision G text

-- ---- one piece and then another

second : {A B : Type 0} (G : Piece A) (H : Piece B) → IsDeterministic G → (text : List ℕ) (a : A) (middle : List ℕ) → G a text middle → Decision H middle → Decision (Then G H) text
second G H det text a middle read (begins b rest h) = begins (a, b) rest (middle, read, h)
second G H det text a middle read (lacks none) =
    lacks (λ ab rest x.
    let same = det.unique ab.0 a text x.0 middle x.1 read in
    none ab.1 rest (subst (λ (m : List ℕ). H ab.1 m rest) same.1 x.2))

first_of_two : {A B : Type 0} (G : Piece A) (H : Piece B) → IsDeterministic G → ((text : List ℕ) → Decision H text) → (text : List ℕ) → Decision G text → Decision (Then G H) text
first_of_two G H det next text (begins a middle read) = second G H det text a middle read (next middle)
first_of_two G H det next text (lacks none) = lacks (λ ab rest x. none ab.0 x.0 x.1)

pub both : {A B : Type 0} (G : Piece A) (H : Piece B) → IsDeterministic G → ((text : List ℕ) → Decision G text) → ((text : List ℕ) → Decision H text) → (text : List ℕ) → Decision (Then G H) text
both G H det this next text = first_of_two G H det next text (this text)

-- ---- a fixed front

pub data Front (front text : List ℕ) : Type 0 where
  is_front : (rest : List ℕ) → text ≡ front ++ rest → Front front text
  no_front : ((rest : List ℕ) → text ≡ front ++ rest → ⊥) → Front front text

pub nil_is_no_cons : (x : ℕ) (xs : List ℕ) → [] ≡ x ∷ xs → ⊥
nil_is_no_cons x xs e = cc

pub same_head : (x y : ℕ) (xs ys : List ℕ) → x ∷ xs ≡ y ∷ ys → x ≡ y
same_head x y xs ys e = cc

pub same_tail : (x y : ℕ) (xs ys : List ℕ) → x ∷ xs ≡ y ∷ ys → xs ≡ ys
same_tail x y xs ys e = cc

pub more_front : (f b : ℕ) (front text : List ℕ) → b ≡ f → Front front text → Front (f ∷ front) (b ∷ text)
more_front f b front text e (is_front rest h) = is_front rest (cc)
more_front f b front text e (no_front none) = no_front (λ rest h. none rest (same_tail b f text (front ++ rest) h))

pub front_of : (front text : List ℕ) → Front front text
front_of [] text = is_front text refl
front_of (f ∷ front) [] = no_front (λ rest h. nil_is_no_cons f (front ++ rest) h)
front_of (f ∷ front) (b ∷ text) =
    elim (cases_eq b f) [ inl e ↦ more_front f b front text e (front_of front text) | inr n ↦ no_front (λ rest h. n (same_head b f text (front ++ rest) h)) ]

-- ---- the end of a line

newline_or : (text : List ℕ) → Front (print_end crlf) text → Front (print_end lf) text → Decision Newline text
newline_or text (is_front rest h) other = begins crlf rest h
newline_or text (no_front none) (is_front rest h) = begins lf rest h
newline_or text (no_front none) (no_front neither) = lacks (λ end rest h. which end rest h)
  where
    which : (end : LineEnd) (rest : List ℕ) → text ≡ print_end end ++ rest → ⊥
    which crlf rest h = none rest h
    which lf rest h = neither rest h

pub newline_decided : (text : List ℕ) → Decision Newline text
newline_decided text = newline_or text (front_of (print_end crlf) text) (front_of (print_end lf) text)
