-- Where a text differs first from another that goes on.
use Rattle.std.proofs.Common.{◌≡◌, ◌≤◌, ℕ, suc, List, [], ◌∷◌, ◌++◌, length, refl, sym, ap, ◌∙◌, append_assoc, append-nil, slice_get, inl, inr, arith}
use Rattle.std.proofs.lemmas.Bool.{cases_lt}
use Rattle.audit_model.specs.Audit.{DifferFirst}

abbrev pub Lines : Type 0
Lines = List (List ℕ)

-- what the longer of two fronts has more
behind_shorter : (a b c d : Lines) → a ++ b ≡ c ++ d → length c ≤ length a → (m : Lines) × ((a ≡ c ++ m) × (d ≡ m ++ b))
behind_shorter a b [] d e le = (a, (refl, sym e))
behind_shorter [] b (l ∷ c) d e le = absurd (omega arith)
behind_shorter (k ∷ a) b (l ∷ c) d e le =
    let first : k ≡ l = cc in
    let later : a ++ b ≡ c ++ d = cc in
    let rest = behind_shorter a b c d later (omega arith) in
    (rest.0, ((λ i. first i ∷ rest.1.0 i), rest.1.1))

-- the first line of what isn't empty, whatever follows
first_of : (m rest other : Lines) → (m ≡ [] → ⊥) → slice_get (m ++ rest) 0 ≡ slice_get (m ++ other) 0
first_of [] rest other some = absurd (some refl)
first_of (l ∷ m) rest other some = refl

-- a difference within a front is one whatever follows the front
pub within_front : (text front rest other : Lines) (k : ℕ) → DifferFirst text (front ++ rest) k → k ≤ length front → DifferFirst text (front ++ other) k
within_front text front rest other k d le =
    let place : k ≡ suc (length d.before) = d.place in
    let at = behind_shorter front rest d.before d.rest_b d.b_is (omega arith) in
    let some : at.0 ≡ [] → ⊥ = λ e. let same : length front ≡ length d.before = ap length (at.1.0 ∙ (ap (λ m. d.before ++ m) e ∙ append-nil d.before)) in omega arith in
    record {
      before = d.before;
      rest_a = d.rest_a;
      rest_b = at.0 ++ other;
      a_is = d.a_is;
      b_is = ap (λ x. x ++ other) at.1.0 ∙ append_assoc d.before at.0 other;
      differ = λ e. d.differ (e ∙ (first_of at.0 other rest some ∙ ap (λ x. slice_get x 0) (sym at.1.1)));
      place = d.place;
    }

-- a text that doesn't begin with a front differs within it from what begins with it
pub within_missing : (text front rest : Lines) (k : ℕ) → ((more : Lines) → text ≡ front ++ more → ⊥) → DifferFirst text (front ++ rest) k → k ≤ length front
within_missing text front rest k missing d =
    let place : k ≡ suc (length d.before) = d.place in
    elim (cases_lt (length d.before) (length front)) as (λ _. k ≤ length front) [
      | inl less ↦ omega arith
      | inr much ↦
          let at = behind_shorter d.before d.rest_b front rest (sym d.b_is) much in
          absurd (missing (at.0 ++ d.rest_a) (d.a_is ∙ (ap (λ x. x ++ d.rest_a) at.1.0 ∙ append_assoc front at.0 d.rest_a)))
    ]

cancel : (c a b : Lines) → c ++ a ≡ c ++ b → a ≡ b
cancel [] a b e = e
cancel (l ∷ c) a b e = let later : c ++ a ≡ c ++ b = cc in cancel c a b later

-- one text differs nowhere from itself
pub never_differ : (a b : Lines) (k : ℕ) → a ≡ b → DifferFirst a b k → ⊥
never_differ a b k same d = d.differ (ap (λ x. slice_get x 0) (cancel d.before d.rest_a d.rest_b (sym d.a_is ∙ (same ∙ d.b_is))))
