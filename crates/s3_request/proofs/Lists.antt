-- Tests and searches over lists.
use Rattle.std.proofs.Common.{◌≡◌, ℕ, ◌+◌, ◌-◌, ◌≤◌, ◌<◌, Bool, true, false, ◌||◌, List, [], ◌∷◌, ◌++◌, map, length, take, drop, get_or, Bor, Option, Some, None, unwrap_or, cond, ltb, refl, ap, sym, ◌∙◌, arith}
use Rattle.std.proofs.lemmas.List.Elements.{filter_map-append}
use Rattle.std.specs.List.{list_any, filter_map, cons_option}
use Rattle.std.proofs.lemmas.Bool.{ltb-false}
use Rattle.std.proofs.lemmas.List.{at_drop_all, drop_more, take_all, take_more, length-drop, map-append}
use Rattle.s3_model.specs.Words.{begins_word, holds_word}

-- some element's image passes a test where some image does
pub list_any_of_map : {X Y : Type 0} (f : X → Y) (test : Y → Bool) (xs : List X) → list_any (λ x. test (f x)) xs ≡ list_any test (map f xs)
list_any_of_map f test [] = refl
list_any_of_map f test (x ∷ xs) = ap (λ b. test (f x) || b) (list_any_of_map f test xs)

-- the place of the first element that passes, or the length
pub place_or_len : (p n : ℕ) (r : Option ℕ) → p ≤ n → r ≡ cond (ltb p n) (Some p) None → unwrap_or r n ≡ p
place_or_len p n r within is = elim (ltb p n) as (λ b. ltb p n ≡ b → r ≡ cond b (Some p) None → unwrap_or r n ≡ p) [
  | true ↦ λ t e. ap (λ o. unwrap_or o n) e
  | false ↦ λ t e. let k : n ≤ p = ltb-false p n t in ap (λ o. unwrap_or o n) e ∙ omega arith
] refl is

-- where a word begins in what is left of a text, or doesn't
holds_more : (text word : List ℕ) (i : ℕ) → i < length text → holds_word (drop i text) word ≡ (begins_word (drop i text) word || holds_word (drop (i + 1) text) word)
holds_more text word i within =
    let rest : List ℕ = drop (i + 1) text in
    let at : drop i text ≡ get_or text i 0 ∷ rest = drop_more text i 0 within in
    rw at refl

-- the word begins here
pub begins_here : (text word : List ℕ) (n i : ℕ) (b : Bool) → i < length text → length text - i ≤ n → b ≡ begins_word (take n (drop i text)) word → b ≡ true →
    holds_word (drop i text) word ≡ holds_word text word → true ≡ holds_word text word
begins_here text word n i b within size is found inv =
    let all : take n (drop i text) ≡ drop i text = take_all n (drop i text) (omega (arith, length-drop i text)) in
    let at : begins_word (drop i text) word ≡ true = ap (λ p. begins_word p word) (sym all) ∙ sym is ∙ found in
    ap (λ t. t || holds_word (drop (i + 1) text) word) (sym at) ∙ sym (holds_more text word i within) ∙ inv

-- it doesn't
pub begins_later : (text word : List ℕ) (n i : ℕ) (b : Bool) → i < length text → length text - i ≤ n → b ≡ begins_word (take n (drop i text)) word → b ≡ false →
    holds_word (drop i text) word ≡ holds_word text word → holds_word (drop (i + 1) text) word ≡ holds_word text word
begins_later text word n i b within size is missed inv =
    let all : take n (drop i text) ≡ drop i text = take_all n (drop i text) (omega (arith, length-drop i text)) in
    let at : begins_word (drop i text) word ≡ false = ap (λ p. begins_word p word) (sym all) ∙ sym is ∙ missed in
    ap (λ t. t || holds_word (drop (i + 1) text) word) (sym at) ∙ sym (holds_more text word i within) ∙ inv

-- nothing is left of the text
pub begins_nowhere : (text word : List ℕ) (i : ℕ) (b : Bool) → length text ≤ i → b ≡ begins_word [] word → holds_word (drop i text) word ≡ holds_word text word → b ≡ holds_word text word
begins_nowhere text word i b past is inv = is ∙ sym (at_drop_all (λ t. holds_word t word) text i past) ∙ inv

-- a loop's step from the parameters of some pieces to those of one more
pub given_step : {A : Type 0} (read : List ℕ → Option A) (pieces : List (Bor (List ℕ))) (i : ℕ) (d : Bor (List ℕ)) (given given' : List A) (parameter : Option A) → i < length pieces →
    given ≡ filter_map read (map (λ p. p.now) (take i pieces)) → given' ≡ given ++ cons_option parameter [] → parameter ≡ read (get_or pieces i d).now →
    given' ≡ filter_map read (map (λ p. p.now) (take (i + 1) pieces))
given_step read pieces i d given given' parameter within inv push is =
    let shown : Bor (List ℕ) → List ℕ = λ p. p.now in
    let piece : Bor (List ℕ) = get_or pieces i d in
    let more : take (i + 1) pieces ≡ take i pieces ++ piece ∷ [] = take_more pieces i d within in
    push ∙ ap (λ x. x ++ cons_option parameter []) inv ∙ ap (λ x. filter_map read (map shown (take i pieces)) ++ cons_option x []) is
    ∙ sym (ap (λ ps. filter_map read (map shown ps)) more ∙ ap (λ ps. filter_map read ps) (map-append shown (take i pieces) (piece ∷ [])) ∙ filter_map-append read (map shown (take i pieces)) (piece.now ∷ []))
