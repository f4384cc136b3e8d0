-- The search for the mark, line by line.
use Rattle.std.proofs.Common.{◌≡◌, ℕ, Bool, zero, suc, ◌+◌, ◌<◌, ◌≤◌, true, false, ◌==◌, Some, None, inl, inr, List, [], ◌∷◌, ◌++◌, length, take, drop, refl, sym, ap, ◌∙◌, subst, arith, position, get_or}
use Rattle.std.proofs.lemmas.Bool.{eqb-true}
use Rattle.std.proofs.Math.Seq.{take-add}
use Rattle.std.proofs.lemmas.List.{take-append-drop, take_all, drop-drop, drop_all, length-drop}
use Rattle.std.proofs.lemmas.List.Quantifiers.{position-Some}
use Rattle.text_model.specs.Grammar.{lines_of, onto_first}
use Rattle.schedule_text.proofs.FirstLine.{cut_some, cut_none}
use Rattle.audit_play.specs.Parting.{IsWhole}
use Rattle.audit_play.proofs.Whole.{ends, whole, is_whole, after_byte, both_whole, lines_both}
use Rattle.audit_run.specs.Parts.{mark, HaveNoMark}
use Rattle.audit_run.specs.Scanned.{IsScanned, IsMark}

-- a text that ends with a line feed
ended : (b : ℕ) (bs : List ℕ) → ends (b == 10) bs ≡ true → (first : List ℕ) × (b ∷ bs ≡ first ++ 10 ∷ [])
ended b [] h = ([], ap (λ x. x ∷ []) (eqb-true b 10 h))
ended b (c ∷ cs) h = let r = ended c cs h in (b ∷ r.0, ap (λ t. b ∷ t) r.1)

pub whole_is : (text : List ℕ) → whole text ≡ true → IsWhole text
whole_is [] h = inl refl
whole_is (b ∷ bs) h = inr (ended b bs h)

-- what is behind a place of a whole text is whole
pub drop_whole : (n : ℕ) (text : List ℕ) → whole text ≡ true → whole (drop n text) ≡ true
drop_whole zero text h = h
drop_whole (suc n) [] h = h
drop_whole (suc n) (b ∷ bs) h =
    elim (b == 10) as (λ t. ends t bs ≡ true → whole (drop n bs) ≡ true) [
      | true ↦ λ k. drop_whole n bs k
      | false ↦ λ k. drop_whole n bs (after_byte bs k)
    ] h

all_both : (a b : List (List ℕ)) → HaveNoMark a → HaveNoMark b → HaveNoMark (a ++ b)
all_both [] b h k = k
all_both (l ∷ ls) b h k = (h.0, all_both ls b h.1 k)

abbrev pub is_feed : ℕ → Bool
is_feed b = b == 10

-- up to the first line feed, with it, a text is one line
one_line : (i : ℕ) (xs : List ℕ) → i < length xs → is_feed (get_or xs i 0) ≡ true → ((k : ℕ) → k < i → is_feed (get_or xs k 0) ≡ false) →
    (lines_of (take (suc i) xs) ≡ take i xs ∷ []) × (ends false (take (suc i) xs) ≡ true)
one_line i [] lt here before = absurd (omega arith)
one_line zero (b ∷ xs) lt here before = (rw here refl, here)
one_line (suc i) (b ∷ xs) lt here before =
    let other : is_feed b ≡ false = before 0 (omega arith) in
    let more = one_line i xs (omega arith) here (λ k low. before (suc k) (omega arith)) in
    (rw other (ap (onto_first b) more.0), subst (λ t. ends t (take (suc i) xs) ≡ true) (sym other) more.1)

-- the search from one place on
module _ (text : List ℕ) (place : ℕ) (h : IsScanned text place) where
  abbrev front : List ℕ
  front = take place text

  abbrev rest : List ℕ
  rest = drop place text

  front_whole : whole front ≡ true
  front_whole = is_whole front h.whole

  pub text_lines : lines_of text ≡ lines_of front ++ lines_of rest
  text_lines = ap lines_of (sym (take-append-drop place text)) ∙ lines_both front rest front_whole

  -- no line is the mark where the last one isn't
  pub none_last : HaveNoMark (lines_of rest) → HaveNoMark (lines_of text)
  none_last k = subst HaveNoMark (sym text_lines) (all_both (lines_of front) (lines_of rest) h.none k)

  pub none_at_end : length text ≤ place → HaveNoMark (lines_of text)
  none_at_end le = subst (λ t. HaveNoMark (lines_of t)) (take_all place text le) h.none

  -- the last line has no line feed
  module _ (no_feed : None ≡ position is_feed rest) (more : place < length text) where
    some_rest : 0 < length rest
    some_rest = let long = length-drop place text in omega arith

    last_is : lines_of rest ≡ rest ∷ []
    last_is = cut_none rest no_feed some_rest

    pub at_last : rest ≡ mark → IsMark text (Some (place, length text))
    at_last is = (h, omega arith, last_is ∙ (λ i. is i ∷ lines_of (sym (drop_all (length text) text (omega arith)) i)))

    pub past_last : (rest ≡ mark → ⊥) → HaveNoMark (lines_of text)
    past_last not = none_last (subst HaveNoMark (sym last_is) (not, tt))

  -- a line with its line feed
  module _ (end : ℕ) (is : Some end ≡ position is_feed rest) where
    abbrev next : ℕ
    next = place + end + 1

    found : (end < length rest) × (is_feed (get_or rest end 0) ≡ true) × ((k : ℕ) → k < end → is_feed (get_or rest k 0) ≡ false)
    found = position-Some is_feed rest end 0 (sym is)

    abbrev own : List ℕ
    own = take (suc end) rest

    own_is : (lines_of own ≡ take end rest ∷ []) × (ends false own ≡ true)
    own_is = one_line end rest found.0 found.1 found.2

    pub within : next ≤ length text
    within = let long = length-drop place text in let lt = found.0 in omega arith

    front_next : take next text ≡ front ++ own
    front_next = let e : next ≡ place + suc end = omega arith in ap (λ n. take n text) e ∙ take-add place (suc end) text

    rest_next : drop (suc end) rest ≡ drop next text
    rest_next = let e : place + suc end ≡ next = omega arith in drop-drop (suc end) place text ∙ ap (λ n. drop n text) e

    pub at_mark : take end rest ≡ mark → IsMark text (Some (place, next))
    at_mark same = (h, within, cut_some rest end is ∙ (λ i. same i ∷ lines_of (rest_next i)))

    pub goes_on : (take end rest ≡ mark → ⊥) → IsScanned text next
    goes_on not = record {
      inside = within;
      whole = subst IsWhole (sym front_next) (whole_is (front ++ own) (both_whole front own front_whole (after_byte own own_is.1)));
      none = subst (λ t. HaveNoMark (lines_of t)) (sym front_next) (subst HaveNoMark (sym (lines_both front own front_whole)) (all_both (lines_of front) (lines_of own) h.none (subst HaveNoMark (sym own_is.0) (not, tt))));
    }

-- before the first line
pub at_first : (text : List ℕ) → IsScanned text 0
at_first text = record { inside = omega arith; whole = inl refl; none = tt }
