-- The headers that are stored, header by header.
use Rattle.std.proofs.Common.{◌≡◌, ℕ, ◌+◌, ◌<◌, Bool, true, false, not, ◌&&◌, ◌||◌, List, [], ◌∷◌, ◌++◌, map, filter, length, drop, get_or, cond, refl, ap, sym, ◌∙◌, append_assoc}
use Rattle.std.proofs.lemmas.Bool.{false≢true}
use Rattle.std.proofs.lemmas.List.{at_drop_more}
use Rattle.s3_model.specs.Headers.{is_stored, is_content_type, as_stored, first_alone, own_stored}
use Rattle.s3_request.specs.Keeping.{kept_of}

abbrev Header : Type 0
Header = List ℕ × List ℕ

-- those of some headers that pass a test, where one of a type came before or didn't
abbrev pub after_by : (List ℕ × List ℕ → Bool) → (List ℕ × List ℕ → Bool) → Bool → List (List ℕ × List ℕ) → List (List ℕ × List ℕ)
after_by kept type true hs = map as_stored (filter (λ h. not (type h)) (filter kept hs))
after_by kept type false hs = map as_stored (first_alone type (filter kept hs))

-- those that are stored of what is left, where a Content-Type came before or didn't
abbrev pub stored_after : Bool → List (List ℕ × List ℕ) → List (List ℕ × List ℕ)
stored_after typed hs = after_by is_stored is_content_type typed hs

one_more : (kept type : Header → Bool) (h : Header) (hs : List Header) (seen k t : Bool) → kept h ≡ k → type h ≡ t → (t ≡ true → k ≡ true) →
    after_by kept type seen (h ∷ hs) ≡ (cond (k && not (seen && t)) (as_stored h ∷ []) []) ++ after_by kept type (seen || t) hs
one_more kept type h hs true true true ek et s = rw (ek, et) refl
one_more kept type h hs true true false ek et s = rw (ek, et) refl
one_more kept type h hs true false true ek et s = absurd (false≢true (s refl))
one_more kept type h hs true false false ek et s = rw ek refl
one_more kept type h hs false true true ek et s = rw (ek, et) refl
one_more kept type h hs false true false ek et s = rw (ek, et) refl
one_more kept type h hs false false true ek et s = absurd (false≢true (s refl))
one_more kept type h hs false false false ek et s = rw ek refl

or_left : (a b : Bool) → a ≡ true → (a || b) ≡ true
or_left true b e = refl
or_left false b e = absurd (false≢true e)

-- a Content-Type is stored
type_is_stored : (h : Header) → is_content_type h ≡ true → is_stored h ≡ true
type_is_stored h e = or_left _ _ (or_left _ _ e)

-- one header of those that are left
pub stored_more : (typed : Bool) (h : Header) (hs : List Header) → stored_after typed (h ∷ hs) ≡ kept_of typed h ++ stored_after (typed || is_content_type h) hs
stored_more typed h hs = one_more is_stored is_content_type h hs typed _ _ refl refl (type_is_stored h)

pub stored_step : (typed typed' : Bool) (headers old now now' : List Header) (i : ℕ) (h : Header) → i < length headers → h ≡ get_or headers i h →
    now ++ stored_after typed (drop i headers) ≡ old ++ own_stored headers → now' ≡ now ++ kept_of typed h → typed' ≡ (typed || is_content_type h) →
    now' ++ stored_after typed' (drop (i + 1) headers) ≡ old ++ own_stored headers
stored_step typed typed' headers old now now' i h within is inv push more =
    let rest : List Header = drop (i + 1) headers in
    let one : stored_after typed (drop i headers) ≡ kept_of typed h ++ stored_after (typed || is_content_type h) rest =
    at_drop_more (λ hs. stored_after typed hs) headers i h within ∙ ap (λ x. stored_after typed (x ∷ rest)) (sym is) ∙ stored_more typed h rest in
    rw (push, more) (append_assoc now (kept_of typed h) (stored_after (typed || is_content_type h) rest) ∙ ap (λ x. now ++ x) (sym one) ∙ inv)
