-- Texts that are empty or end with a line feed, and their lines.
use Rattle.std.proofs.Common.{◌≡◌, ℕ, suc, ◌+◌, ◌≤◌, Bool, true, false, ◌==◌, if◌then◌else◌, inl, inr, List, [], ◌∷◌, ◌++◌, length, refl, sym, ap, ◌∙◌, arith}
use Rattle.std.specs.Prelude.{count_by}
use Rattle.std.proofs.lemmas.List.Recursion.{is_count_by}
use Rattle.text_model.specs.Grammar.{onto_first, lines_of}
use Rattle.audit_play.specs.Parting.{IsWhole}

-- whether a text ends with a line feed; where it is empty, this is said of it
abbrev pub ends : Bool → List ℕ → Bool
ends t [] = t
ends t (b ∷ bs) = ends (b == 10) bs

abbrev pub whole : List ℕ → Bool
whole text = ends true text

pub ends_both : (t : Bool) (a b : List ℕ) → ends t (a ++ b) ≡ ends (ends t a) b
ends_both t [] b = refl
ends_both t (x ∷ xs) b = ends_both (x == 10) xs b

pub is_whole : (text : List ℕ) → IsWhole text → whole text ≡ true
is_whole text (inl none) = ap whole none
is_whole text (inr h) = ap whole h.1 ∙ ends_both true h.0 (10 ∷ [])

pub both_whole : (a b : List ℕ) → whole a ≡ true → whole b ≡ true → whole (a ++ b) ≡ true
both_whole a b h k = ends_both true a b ∙ ap (λ t. ends t b) h ∙ k

-- a whole text goes on behind a byte that is no line feed
pub after_byte : (bs : List ℕ) → ends false bs ≡ true → whole bs ≡ true
after_byte [] h = refl
after_byte (c ∷ cs) h = h

onto_some : (b : ℕ) (ls : List (List ℕ)) → (l : List ℕ) × ((more : List (List ℕ)) × (onto_first b ls ≡ l ∷ more))
onto_some b [] = (b ∷ [], ([], refl))
onto_some b (l ∷ ls) = (b ∷ l, (ls, refl))

pub some_line : (b : ℕ) (bs : List ℕ) → (l : List ℕ) × ((ls : List (List ℕ)) × (lines_of (b ∷ bs) ≡ l ∷ ls))
some_line b bs =
    elim (b == 10) as (λ t. (l : List ℕ) × ((ls : List (List ℕ)) × ((if t then [] ∷ lines_of bs else onto_first b (lines_of bs)) ≡ l ∷ ls))) [
      | true ↦ ([], (lines_of bs, refl))
      | false ↦ onto_some b (lines_of bs)
    ]

pub goes_on : (bs : List ℕ) → ends false bs ≡ true → (l : List ℕ) × ((ls : List (List ℕ)) × (lines_of bs ≡ l ∷ ls))
goes_on [] h = absurd (let e : false ≡ true = h in cc)
goes_on (c ∷ cs) h = some_line c cs

-- the byte at the front of the first of some lines, whatever come behind them
onto_both : (b : ℕ) (l : List ℕ) (ls as' more : List (List ℕ)) → as' ≡ l ∷ ls → onto_first b (as' ++ more) ≡ onto_first b as' ++ more
onto_both b l ls as' more is = ap (λ xs. onto_first b (xs ++ more)) is ∙ ap (λ xs. onto_first b xs ++ more) (sym is)

-- the lines of a whole text and of what follows it
pub lines_both : (a b : List ℕ) → whole a ≡ true → lines_of (a ++ b) ≡ lines_of a ++ lines_of b
lines_both [] b h = refl
lines_both (x ∷ xs) b h =
    elim (x == 10) as (λ t. ends t xs ≡ true → (if t then [] ∷ lines_of (xs ++ b) else onto_first x (lines_of (xs ++ b))) ≡ (if t then [] ∷ lines_of xs else onto_first x (lines_of xs)) ++ lines_of b) [
      | true ↦ λ k. ap (λ ls. [] ∷ ls) (lines_both xs b k)
      | false ↦ λ k.
          let some = goes_on xs k in
          ap (onto_first x) (lines_both xs b (after_byte xs k)) ∙ onto_both x some.0 some.1.0 (lines_of xs) (lines_of b) some.1.1
    ] h

-- how many line feeds
abbrev pub feeds : List ℕ → ℕ
feeds [] = 0
feeds (b ∷ bs) = if b == 10 then suc (feeds bs) else feeds bs

pub feeds_counted : (text : List ℕ) → feeds text ≡ count_by (λ b. b == 10) text
feeds_counted text = is_count_by feeds (λ b. b == 10) refl (λ b bs. one_more (b == 10) (feeds bs)) text
  where
    one_more : (t : Bool) (n : ℕ) → (if t then suc n else n) ≡ (if t then 1 + n else n)
    one_more true n = omega arith
    one_more false n = refl

onto_count : (b : ℕ) (l : List ℕ) (ls as' : List (List ℕ)) → as' ≡ l ∷ ls → length (onto_first b as') ≡ length as'
onto_count b l ls as' is = ap (λ xs. length (onto_first b xs)) is ∙ ap (λ (xs : List (List ℕ)). length xs) (sym is)

-- a whole text has as many lines as line feeds
pub lines_count : (a : List ℕ) → whole a ≡ true → length (lines_of a) ≡ feeds a
lines_count [] h = refl
lines_count (x ∷ xs) h =
    elim (x == 10) as (λ t. ends t xs ≡ true → length (if t then [] ∷ lines_of xs else onto_first x (lines_of xs)) ≡ (if t then suc (feeds xs) else feeds xs)) [
      | true ↦ λ k. ap suc (lines_count xs k)
      | false ↦ λ k. let some = goes_on xs k in onto_count x some.0 some.1.0 (lines_of xs) some.1.1 ∙ lines_count xs (after_byte xs k)
    ] h

pub feeds_both : (a b : List ℕ) → feeds (a ++ b) ≡ feeds a + feeds b
feeds_both [] b = omega arith
feeds_both (x ∷ xs) b =
    elim (x == 10) as (λ t. (if t then suc (feeds (xs ++ b)) else feeds (xs ++ b)) ≡ (if t then suc (feeds xs) else feeds xs) + feeds b) [
      | true ↦ let h = feeds_both xs b in omega arith
      | false ↦ feeds_both xs b
    ]

-- a text that ends with a line feed has one
pub some_feed : (bs : List ℕ) → ends false bs ≡ true → 1 ≤ feeds bs
some_feed [] h = absurd (let e : false ≡ true = h in cc)
some_feed (x ∷ xs) h =
    elim (x == 10) as (λ t. ends t xs ≡ true → 1 ≤ (if t then suc (feeds xs) else feeds xs)) [
      | true ↦ λ k. omega arith
      | false ↦ λ k. some_feed xs k
    ] h
