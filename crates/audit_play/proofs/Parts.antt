-- Where two whole texts part, their lines differ first.
use Rattle.std.proofs.Common.{◌≡◌, ℕ, suc, ◌≤◌, true, false, ◌==◌, if◌then◌else◌, Some, None, List, [], ◌∷◌, ◌++◌, length, refl, sym, ap, ◌∙◌, subst, arith}
use Rattle.std.specs.Prelude.{slice_get}
use Rattle.std.proofs.lemmas.Bool.{eqb-true}
use Rattle.text_model.specs.Grammar.{onto_first, lines_of}
use Rattle.audit_model.specs.Audit.{DifferFirst}
use Rattle.audit_play.proofs.Whole.{ends, whole, feeds, after_byte, goes_on, some_line, lines_count, feeds_both, some_feed}

-- two texts don't begin alike
abbrev pub Part : List ℕ → List ℕ → Type 0
Part a b = slice_get a 0 ≡ slice_get b 0 → ⊥

onto_head : (b : ℕ) (ls : List (List ℕ)) → (l : List ℕ) × (slice_get (onto_first b ls) 0 ≡ Some (b ∷ l))
onto_head b [] = ([], refl)
onto_head b (l ∷ ls) = (l, refl)

-- texts whose first lines are the same begin alike
first_alike : (a b : List ℕ) → slice_get (lines_of a) 0 ≡ slice_get (lines_of b) 0 → slice_get a 0 ≡ slice_get b 0
first_alike [] [] h = refl
first_alike [] (c ∷ cs) h = let some = some_line c cs in let no_line : None ≡ Some some.0 = h ∙ ap (λ ls. slice_get ls 0) some.1.1 in cc
first_alike (b ∷ bs) [] h = let some = some_line b bs in let no_line : None ≡ Some some.0 = sym h ∙ ap (λ ls. slice_get ls 0) some.1.1 in cc
first_alike (b ∷ bs) (c ∷ cs) h =
    elim (b == 10) as (λ t. (b == 10) ≡ t → slice_get (if t then [] ∷ lines_of bs else onto_first b (lines_of bs)) 0 ≡ slice_get (lines_of (c ∷ cs)) 0 → Some b ≡ Some c) [
      | true ↦ λ e.
          elim (c == 10) as (λ t. (c == 10) ≡ t → Some [] ≡ slice_get (if t then [] ∷ lines_of cs else onto_first c (lines_of cs)) 0 → Some b ≡ Some c) [
            | true ↦ λ f k. ap Some (eqb-true b 10 e ∙ sym (eqb-true c 10 f))
            | false ↦ λ f k. let other = onto_head c (lines_of cs) in let no_line : Some [] ≡ Some (c ∷ other.0) = k ∙ other.1 in cc
          ] refl
      | false ↦ λ e k.
          let one = onto_head b (lines_of bs) in
          elim (c == 10) as (λ t. Some (b ∷ one.0) ≡ slice_get (if t then [] ∷ lines_of cs else onto_first c (lines_of cs)) 0 → Some b ≡ Some c) [
            | true ↦ λ m. cc
            | false ↦ λ m. let other = onto_head c (lines_of cs) in let same : Some (b ∷ one.0) ≡ Some (c ∷ other.0) = m ∙ other.1 in cc
          ] (sym one.1 ∙ k)
    ] refl h

-- a byte before both texts that is no line feed
onto_differ : (b k : ℕ) (l m : List ℕ) (ls ms : List (List ℕ)) → DifferFirst (l ∷ ls) (m ∷ ms) k → DifferFirst ((b ∷ l) ∷ ls) ((b ∷ m) ∷ ms) k
onto_differ b k l m ls ms d =
    elim d.before as (λ before. l ∷ ls ≡ before ++ d.rest_a → m ∷ ms ≡ before ++ d.rest_b → k ≡ suc (length before) → DifferFirst ((b ∷ l) ∷ ls) ((b ∷ m) ∷ ms) k) [
      | [] ↦ λ x y p. record {
        before = [];
        rest_a = (b ∷ l) ∷ ls;
        rest_b = (b ∷ m) ∷ ms;
        a_is = refl;
        b_is = refl;
        differ = λ e. d.differ (sym (ap (λ z. slice_get z 0) x) ∙ same_front b l m e ∙ ap (λ z. slice_get z 0) y);
        place = p;
      }
      | f ∷ fs ↦ λ x y p. record {
        before = (b ∷ f) ∷ fs;
        rest_a = d.rest_a;
        rest_b = d.rest_b;
        a_is = ap (onto_first b) x;
        b_is = ap (onto_first b) y;
        differ = d.differ;
        place = p;
      }
    ] d.a_is d.b_is d.place
  where
    same_front : (b : ℕ) (l m : List ℕ) → Some (b ∷ l) ≡ Some (b ∷ m) → Some l ≡ Some m
    same_front b l m e = cc

onto_differs : (b k : ℕ) (as' bs' : List (List ℕ)) (l m : List ℕ) (ls ms : List (List ℕ)) → as' ≡ l ∷ ls → bs' ≡ m ∷ ms → DifferFirst as' bs' k → DifferFirst (onto_first b as') (onto_first b bs') k
onto_differs b k as' bs' l m ls ms x y d =
    subst (λ (z : List (List ℕ) × List (List ℕ)). DifferFirst (onto_first b z.0) (onto_first b z.1) k) (λ i. (sym x i, sym y i))
    (onto_differ b k l m ls ms (subst (λ (z : List (List ℕ) × List (List ℕ)). DifferFirst z.0 z.1 k) (λ i. (x i, y i)) d))

line_more : (k : ℕ) (as' bs' : List (List ℕ)) → DifferFirst as' bs' k → DifferFirst ([] ∷ as') ([] ∷ bs') (suc k)
line_more k as' bs' d = record {
  before = [] ∷ d.before;
  rest_a = d.rest_a;
  rest_b = d.rest_b;
  a_is = ap (λ ls. [] ∷ ls) d.a_is;
  b_is = ap (λ ls. [] ∷ ls) d.b_is;
  differ = d.differ;
  place = ap suc d.place;
}

-- behind a beginning that is theirs both, whole texts that part differ in the line in which they part
pub part_differ : (p r e : List ℕ) → whole (p ++ r) ≡ true → whole (p ++ e) ≡ true → Part r e → DifferFirst (lines_of (p ++ r)) (lines_of (p ++ e)) (suc (feeds p))
part_differ [] r e h k part = record {
  before = [];
  rest_a = lines_of r;
  rest_b = lines_of e;
  a_is = refl;
  b_is = refl;
  differ = λ same. part (first_alike r e same);
  place = refl;
}
part_differ (b ∷ p) r e h k part =
    elim (b == 10) as
    (λ t. ends t (p ++ r) ≡ true → ends t (p ++ e) ≡ true →
    DifferFirst (if t then [] ∷ lines_of (p ++ r) else onto_first b (lines_of (p ++ r))) (if t then [] ∷ lines_of (p ++ e) else onto_first b (lines_of (p ++ e))) (suc (if t then suc (feeds p) else feeds p))) [
      | true ↦ λ x y. line_more (suc (feeds p)) (lines_of (p ++ r)) (lines_of (p ++ e)) (part_differ p r e x y part)
      | false ↦ λ x y.
          let one = goes_on (p ++ r) x in
          let other = goes_on (p ++ e) y in
          onto_differs b (suc (feeds p)) (lines_of (p ++ r)) (lines_of (p ++ e)) one.0 other.0 one.1.0 other.1.0 one.1.1 other.1.1
          (part_differ p r e (after_byte (p ++ r) x) (after_byte (p ++ e) y) part)
    ] h k

-- and that line is one of the second text, where it goes on
pub part_within : (p e : List ℕ) (b : ℕ) → whole (p ++ b ∷ e) ≡ true → suc (feeds p) ≤ length (lines_of (p ++ b ∷ e))
part_within p e b h =
    let count = lines_count (p ++ b ∷ e) h in
    let both = feeds_both p (b ∷ e) in
    let more = some_more p h in
    omega arith
  where
    some_more : (p : List ℕ) → whole (p ++ b ∷ e) ≡ true → 1 ≤ feeds (b ∷ e)
    some_more [] h = some_feed (b ∷ e) h
    some_more (x ∷ xs) h = elim (x == 10) as (λ t. ends t (xs ++ b ∷ e) ≡ true → 1 ≤ feeds (b ∷ e)) [ true ↦ λ k. some_more xs k | false ↦ λ k. some_more xs (after_byte (xs ++ b ∷ e) k) ] h
