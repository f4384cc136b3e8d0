-- Steps one after the other: each has room where a replay goes on after those before it.
use Rattle.std.specs.Prelude.{◌≡◌, List, [], ◌∷◌, ◌++◌}
use Rattle.std.specs.List.{AllByRecursion}
use Rattle.std.proofs.Common.{sym, subst}

module _ {Step : Type 0} (GoesOn HasRoom : Step → Type 0) where
  -- so do these steps, and where the replay goes on after all of them this holds
  pub record AreTaken (steps : List Step) (After : Type 0) : Type 0 where
    pub rooms : (done : List Step) (last : Step) (later : List Step) → steps ≡ done ++ last ∷ later → AllByRecursion GoesOn done → HasRoom last
    pub on : AllByRecursion GoesOn steps → After

  pub none_taken : (After : Type 0) → After → AreTaken [] After
  none_taken After after = record { rooms = λ done last later is. absurd (none done last later is); on = λ on. after }
    where
      none : (done : List Step) (last : Step) (later : List Step) → [] ≡ done ++ last ∷ later → ⊥
      none [] last later is = cc
      none (x ∷ done) last later is = cc

  pub more_taken : (first : Step) (steps : List Step) (After : Type 0) → HasRoom first → (GoesOn first → AreTaken steps After) → AreTaken (first ∷ steps) After
  more_taken first steps After room rest = record {
    rooms = by_done;
    on = λ on. (rest on.0).on on.1;
  }
    where
      by_done : (done : List Step) (last : Step) (later : List Step) → first ∷ steps ≡ done ++ last ∷ later → AllByRecursion GoesOn done → HasRoom last
      by_done [] last later is on = let same : first ≡ last = cc in subst HasRoom same room
      by_done (x ∷ done) last later is on =
          let same : first ≡ x = cc in
          let more : steps ≡ done ++ last ∷ later = cc in
          (rest (subst GoesOn (sym same) on.0)).rooms done last later more on.1
