use Rattle.std.proofs.Common.{◌≡◌, ℕ, suc, Bool, true, false, List, [], ◌∷◌, ◌++◌, nat_eq, replicate, refl, sym, ap, ◌∙◌, subst, arith}
use Rattle.std.specs.Cmp.Lexicographic.{pointwise, told_text}
use Rattle.layout_roles.specs.Runs.{Run, joined, runs, written_out, AreApart}
use Rattle.layout_text.proofs.laws.longest_runs.Goals as goal

abbrev same : List ℕ → List ℕ → Bool
same = pointwise nat_eq

written_joined : (x : List ℕ) (rs : List (Run (List ℕ))) → written_out (joined same x rs) ≡ x ∷ written_out rs
written_joined x [] = refl
written_joined x (run ∷ rs) =
    elim (same x run.value) as (λ b. same x run.value ≡ b → written_out (joined same x (run ∷ rs)) ≡ x ∷ written_out (run ∷ rs)) [
      | true ↦ λ e. let is : x ≡ run.value = told_text x run.value true (sym e) in
          rw e (ap (λ v. x ∷ replicate run.count v ++ written_out rs) is)
      | false ↦ λ e. rw e refl
    ] refl

written : (values : List (List ℕ)) → written_out (runs same values) ≡ values
written [] = refl
written (x ∷ xs) = written_joined x (runs same xs) ∙ ap (λ (vs : List (List ℕ)). x ∷ vs) (written xs)

longer_apart : (x : List ℕ) (run : Run (List ℕ)) (rs : List (Run (List ℕ))) → x ≡ run.value → AreApart same (run ∷ rs) → AreApart same (record { value = x; count = suc run.count } ∷ rs)
longer_apart x run [] is h = omega arith
longer_apart x run (next ∷ rs) is h = (omega arith, subst (λ v. same v next.value ≡ false) (sym is) h.1, h.2)

apart_joined : (x : List ℕ) (rs : List (Run (List ℕ))) → AreApart same rs → AreApart same (joined same x rs)
apart_joined x [] h = omega arith
apart_joined x (run ∷ rs) h =
    elim (same x run.value) as (λ b. same x run.value ≡ b → AreApart same (joined same x (run ∷ rs))) [
      | true ↦ λ e. let is : x ≡ run.value = told_text x run.value true (sym e) in rw e (longer_apart x run rs is h)
      | false ↦ λ e. rw e (omega arith, e, h)
    ] refl

apart : (values : List (List ℕ)) → AreApart same (runs same values)
apart [] = tt
apart (x ∷ xs) = apart_joined x (runs same xs) (apart xs)

pub returns : goal.returns
returns c = record { whole = written; apart = apart }
