-- What one more answer does to a call.
use Rattle.std.proofs.Common.{◌≡◌, ◌≢◌, ℕ, Bool, true, false, cond, ◌==◌, Option, Some, None, List, [], ◌∷◌, ◌++◌, refl, sym, ap, ◌∙◌, append-nil, subst, arith, eq-eqb}
use Rattle.std.specs.Prelude.{is_some, option_map, if◌then◌else◌}
use Rattle.std.specs.Option.{option_or}
use Rattle.std.proofs.lemmas.List.Elements.{filter-append}
use Rattle.std.proofs.lemmas.Bool.Decides.{nat_tests}
use Rattle.quorum_model.specs.Quorum.{is_among}
use Rattle.quorum_model.specs.Answers.{heard, answer_of_other, first_two, first_two_at}
use Rattle.read_call.specs.declared.progress.Progress.{Progress}
use Rattle.read_call.specs.declared.progress.Progress.TheVariants.{Asked, Answered, Over}
use Rattle.read_call.specs.Stands.{Waits}
use Rattle.read_call.specs.Progress.{progress_of, progress_from}

differs : (a b : ℕ) → a ≢ b → (b == a) ≡ false
differs a b h = grind (arith, nat_tests)

module _ {A : Type 0} where
  abbrev pub next : Progress A → ℕ × A → Progress A
  next Asked a = Answered a.0 a.1
  next (Answered first have) a = if a.0 == first then Answered first have else Over
  next Over a = Over

  abbrev pub two : Progress A → ℕ × A → Option (A × A)
  two Asked a = None
  two (Answered first have) a = if a.0 == first then None else Some (have, a.1)
  two Over a = None

  other_snoc : (node : ℕ) (rest : List (ℕ × A)) (a : ℕ × A) → answer_of_other node (rest ++ a ∷ []) ≡ option_or (answer_of_other node rest) (if a.0 == node then None else Some a.1)
  other_snoc node [] a = refl
  other_snoc node (x ∷ rest) a =
      elim (x.0 == node) as (λ t. cond t (answer_of_other node (rest ++ a ∷ [])) (Some x.1) ≡ option_or (cond t (answer_of_other node rest) (Some x.1)) (if a.0 == node then None else Some a.1)) [
        | true ↦ other_snoc node rest a
        | false ↦ refl
      ]

  progress_or : (x a : ℕ × A) (o : Option A) → progress_from x (option_or o (if a.0 == x.0 then None else Some a.1)) ≡ next (progress_from x o) a
  progress_or x a None =
      elim (a.0 == x.0) as (λ t. progress_from x (cond t None (Some a.1)) ≡ cond t (Answered x.0 x.1) Over) [ true ↦ refl | false ↦ refl ]
  progress_or x a (Some b) = refl

  progress_snoc : (h : List (ℕ × A)) (a : ℕ × A) → progress_of (h ++ a ∷ []) ≡ next (progress_of h) a
  progress_snoc [] a = refl
  progress_snoc (x ∷ rest) a = ap (progress_from x) (other_snoc x.0 rest a) ∙ progress_or x a (answer_of_other x.0 rest)

  abbrev paired : ℕ × A → Option A → Option (A × A)
  paired x o = option_map (λ b. (x.1, b)) o

  two_or : (x a : ℕ × A) (o : Option A) → (if is_some (paired x o) then None else paired x (option_or o (if a.0 == x.0 then None else Some a.1))) ≡ two (progress_from x o) a
  two_or x a None =
      elim (a.0 == x.0) as (λ t. paired x (cond t None (Some a.1)) ≡ cond t None (Some (x.1, a.1))) [ true ↦ refl | false ↦ refl ]
  two_or x a (Some b) = refl

  two_snoc : (h : List (ℕ × A)) (a : ℕ × A) → (if is_some (first_two h) then None else first_two (h ++ a ∷ [])) ≡ two (progress_of h) a
  two_snoc [] a = refl
  two_snoc (x ∷ rest) a =
      ap (λ o. if is_some (first_two (x ∷ rest)) then None else paired x o) (other_snoc x.0 rest a) ∙ two_or x a (answer_of_other x.0 rest)

  nothing_new : (o : Option (A × A)) → (if is_some o then None else o) ≡ None
  nothing_new None = refl
  nothing_new (Some p) = refl

  heard_one : (nodes : List ℕ) (answers : List (ℕ × A)) (a : ℕ × A) (b : Bool) → is_among a.0 nodes ≡ b → heard nodes (answers ++ a ∷ []) ≡ heard nodes answers ++ cond b (a ∷ []) []
  heard_one nodes answers a b e = filter-append (λ x. is_among x.0 nodes) answers (a ∷ []) ∙ ap (λ t. heard nodes answers ++ cond t (a ∷ []) []) e

  module _ (asked nodes : List ℕ) (answers : List (ℕ × A)) (a : ℕ × A) where
    abbrev pub After : Progress A → Option (A × A) → Type 0
    After p given = Waits asked p nodes (answers ++ a ∷ []) × (given ≡ first_two_at nodes answers a)

    -- one of the nodes answers
    heard_by : (p : Progress A) → Waits asked p nodes answers → is_among a.0 asked ≡ true → After (next p a) (two p a)
    heard_by p s e =
        let is : is_among a.0 nodes ≡ true = ap (is_among a.0) (sym s.same_nodes) ∙ e in (
          record {
            same_nodes = s.same_nodes;
            so_far = ap (λ q. next q a) s.so_far ∙ sym (ap progress_of (heard_one nodes answers a true is) ∙ progress_snoc (heard nodes answers) a);
          },
          ap (λ q. two q a) s.so_far ∙ sym (ap (λ h. if is_some (first_two (heard nodes answers)) then None else first_two h) (heard_one nodes answers a true is) ∙ two_snoc (heard nodes answers) a),
        )

    pub first_heard : (p : Progress A) → Asked ≡ p → Waits asked p nodes answers → is_among a.0 asked ≡ true → After (Answered a.0 a.1) None
    first_heard p at s e = heard_by Asked (subst (λ q. Waits asked q nodes answers) (sym at) s) e

    pub later_heard : (p : Progress A) → Over ≡ p → Waits asked p nodes answers → is_among a.0 asked ≡ true → After Over None
    later_heard p at s e = heard_by Over (subst (λ q. Waits asked q nodes answers) (sym at) s) e

    answered_by : (first : ℕ) (have : A) (b : Bool) → (a.0 == first) ≡ b → After (if a.0 == first then Answered first have else Over) (if a.0 == first then None else Some (have, a.1)) → After (cond b (Answered first have) Over) (cond b None (Some (have, a.1)))
    answered_by first have b e h = subst (λ t. After (cond t (Answered first have) Over) (cond t None (Some (have, a.1)))) e h

    pub again_heard : (p : Progress A) (first : ℕ) (have : A) → Answered first have ≡ p → first ≡ a.0 → Waits asked p nodes answers → is_among a.0 asked ≡ true → After (Answered first have) None
    again_heard p first have at same s e =
        answered_by first have true (eq-eqb a.0 first (sym same)) (heard_by (Answered first have) (subst (λ q. Waits asked q nodes answers) (sym at) s) e)

    pub second_heard : (p : Progress A) (first : ℕ) (have : A) → Answered first have ≡ p → first ≢ a.0 → Waits asked p nodes answers → is_among a.0 asked ≡ true → After Over (Some (have, a.1))
    second_heard p first have at other s e =
        answered_by first have false (differs first a.0 other) (heard_by (Answered first have) (subst (λ q. Waits asked q nodes answers) (sym at) s) e)

    -- another node does
    pub none_heard : (p : Progress A) → Waits asked p nodes answers → is_among a.0 asked ≡ false → After p None
    none_heard p s e =
        let is : is_among a.0 nodes ≡ false = ap (is_among a.0) (sym s.same_nodes) ∙ e in
        let still = heard_one nodes answers a false is ∙ append-nil (heard nodes answers) in (
          record { same_nodes = s.same_nodes; so_far = s.so_far ∙ sym (ap progress_of still) },
          sym (ap (λ h. if is_some (first_two (heard nodes answers)) then None else first_two h) still ∙ nothing_new (first_two (heard nodes answers))),
        )
