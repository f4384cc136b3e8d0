-- Requests that ended: each has one end, and waits for nothing.
use Rattle.std.proofs.Common.{◌≡◌, ℕ, ◌-◌, ◌==◌, true, false, Option, Some, None, List, [], ◌∷◌, ◌++◌, refl, sym, ap, ◌∙◌, subst}
use Rattle.std.specs.Prelude.{slice_set}
use Rattle.std.proofs.lemmas.Bool.{eqb-true, eqb-false, eq-eqb}
use Rattle.flow_model.specs.declared.flow.Flow.{Flow}
use Rattle.flow_model.specs.declared.flow.FlowEnd.{FlowEnd}
use Rattle.cluster_machine.specs.World.{numbered}
use Rattle.store_model.specs.Run.{Asked as Waiting}
use Rattle.store_model.specs.Acts.{end_of, without_end}
use Rattle.s3_world.specs.Reads.{IsOver, AreOver}
use Rattle.s3_world.proofs.Places.{numbered_other, numbered_push}

-- a number is another one or not
pub by_number : (q p : ℕ) (P : Type 0) → (q ≡ p → P) → ((q ≡ p → ⊥) → P) → P
by_number q p P same other =
    elim (q == p) as (λ b. (q == p) ≡ b → P) [
      | true ↦ λ e. same (eqb-true q p e)
      | false ↦ λ e. other (eqb-false q p e)
    ] refl

pub differs : (q p : ℕ) → (q ≡ p → ⊥) → (q == p) ≡ false
differs q p other =
    elim (q == p) as (λ b. (q == p) ≡ b → b ≡ false) [
      | true ↦ λ e. absurd (other (eqb-true q p e))
      | false ↦ λ e. refl
    ] refl

-- where the test isn't met, an end is one of the others
end_past : (e : ℕ × FlowEnd) (es : List (ℕ × FlowEnd)) (q : ℕ) → (e.0 ≡ q → ⊥) → end_of (e ∷ es) q ≡ end_of es q
end_past e es q other = rw (differs e.0 q other) refl

end_here : (e : ℕ × FlowEnd) (es : List (ℕ × FlowEnd)) (q : ℕ) → e.0 ≡ q → end_of (e ∷ es) q ≡ Some e.1
end_here e es q same = rw (eq-eqb e.0 q same) refl

not_here : (e : ℕ × FlowEnd) (es : List (ℕ × FlowEnd)) (q : ℕ) → end_of (e ∷ es) q ≡ None → e.0 ≡ q → ⊥
not_here e es q none same = let h = sym none ∙ end_here e es q same in absurd (cc)

-- ---- one end more

pub end_pushed : (es : List (ℕ × FlowEnd)) (q : ℕ) (end : FlowEnd) → end_of es q ≡ None → end_of (es ++ (q, end) ∷ []) q ≡ Some end
end_pushed [] q end none = end_here (q, end) [] q refl
end_pushed (e ∷ es) q end none =
    let other = not_here e es q none in
    end_past e (es ++ (q, end) ∷ []) q other ∙ end_pushed es q end (sym (end_past e es q other) ∙ none)

pub end_of_others : (es : List (ℕ × FlowEnd)) (q p : ℕ) (end : FlowEnd) → (q ≡ p → ⊥) → end_of (es ++ (q, end) ∷ []) p ≡ end_of es p
end_of_others [] q p end other = end_past (q, end) [] p other
end_of_others (e ∷ es) q p end other =
    by_number e.0 p (end_of (e ∷ es ++ (q, end) ∷ []) p ≡ end_of (e ∷ es) p)
    (λ same. end_here e (es ++ (q, end) ∷ []) p same ∙ sym (end_here e es p same))
    (λ not. end_past e (es ++ (q, end) ∷ []) p not ∙ end_of_others es q p end other ∙ sym (end_past e es p not))

-- ---- one end less

without_here : (e : ℕ × FlowEnd) (es : List (ℕ × FlowEnd)) (q : ℕ) → e.0 ≡ q → without_end (e ∷ es) q ≡ es
without_here e es q same = rw (eq-eqb e.0 q same) refl

without_past : (e : ℕ × FlowEnd) (es : List (ℕ × FlowEnd)) (q : ℕ) → (e.0 ≡ q → ⊥) → without_end (e ∷ es) q ≡ e ∷ without_end es q
without_past e es q other = rw (differs e.0 q other) refl

pub others_without : (es : List (ℕ × FlowEnd)) (q p : ℕ) → (q ≡ p → ⊥) → end_of (without_end es q) p ≡ end_of es p
others_without [] q p other = refl
others_without (e ∷ es) q p other =
    by_number e.0 q (end_of (without_end (e ∷ es) q) p ≡ end_of (e ∷ es) p)
    (λ same. ap (λ xs. end_of xs p) (without_here e es q same) ∙ sym (end_past e es p (λ h. other (sym same ∙ h))))
    (λ not. ap (λ xs. end_of xs p) (without_past e es q not) ∙ by_number e.0 p (end_of (e ∷ without_end es q) p ≡ end_of (e ∷ es) p)
    (λ same. end_here e (without_end es q) p same ∙ sym (end_here e es p same))
    (λ no. end_past e (without_end es q) p no ∙ others_without es q p other ∙ sym (end_past e es p no)))

module _ (asked : List Waiting) where
  -- ---- requests that are over

  -- a request that waits has no end
  pub waits_without_end : (es : List (ℕ × FlowEnd)) (q : ℕ) (m : Waiting) (f : Flow) → AreOver asked es → numbered asked q ≡ Some m → m.flow ≡ Some f → end_of es q ≡ None
  waits_without_end [] q m f over at waits = refl
  waits_without_end (e ∷ es) q m f over at waits =
      let not_it : e.0 ≡ q → ⊥ = λ same. (let h : IsOver (Some m) = subst IsOver (ap (numbered asked) same ∙ at) over.0 in let no = sym waits ∙ h in absurd (cc)) in
      end_past e es q not_it ∙ waits_without_end es q m f over.2 at waits

  -- a request that has an end waits for nothing
  pub ended_is_over : (es : List (ℕ × FlowEnd)) (q : ℕ) (end : FlowEnd) → AreOver asked es → end_of es q ≡ Some end → IsOver (numbered asked q)
  ended_is_over [] q end over is = absurd (cc)
  ended_is_over (e ∷ es) q end over is =
      by_number e.0 q (IsOver (numbered asked q))
      (λ same. subst (λ p. IsOver (numbered asked p)) same over.0)
      (λ other. ended_is_over es q end over.2 (sym (end_past e es q other) ∙ is))

  none_ended : (es : List (ℕ × FlowEnd)) (q : ℕ) (o : Option FlowEnd) → AreOver asked es → numbered asked q ≡ None → end_of es q ≡ o → o ≡ None
  none_ended es q None over nobody is = refl
  none_ended es q (Some end) over nobody is = absurd (subst IsOver nobody (ended_is_over es q end over is))

  -- nor has a number that nobody asked under
  pub nobody_ended : (es : List (ℕ × FlowEnd)) (q : ℕ) → AreOver asked es → numbered asked q ≡ None → end_of es q ≡ None
  nobody_ended es q over nobody = none_ended es q (end_of es q) over nobody refl

  pub over_pushed : (es : List (ℕ × FlowEnd)) (q : ℕ) (end : FlowEnd) → AreOver asked es → IsOver (numbered asked q) → end_of es q ≡ None → AreOver asked (es ++ (q, end) ∷ [])
  over_pushed [] q end over here none = (here, refl, tt)
  over_pushed (e ∷ es) q end over here none =
      let other = not_here e es q none in
      (over.0, end_of_others es q e.0 end (λ h. other (sym h)) ∙ over.1, over_pushed es q end over.2 here (sym (end_past e es q other) ∙ none))

  none_without : (es : List (ℕ × FlowEnd)) (q p : ℕ) → end_of es p ≡ None → end_of (without_end es q) p ≡ None
  none_without [] q p none = refl
  none_without (e ∷ es) q p none =
      let past = end_past e es p (not_here e es p none) in
      by_number e.0 q (end_of (without_end (e ∷ es) q) p ≡ None)
      (λ same. ap (λ xs. end_of xs p) (without_here e es q same) ∙ sym past ∙ none)
      (λ other. ap (λ xs. end_of xs p) (without_past e es q other) ∙ end_past e (without_end es q) p (not_here e es p none) ∙ none_without es q p (sym past ∙ none))

  pub over_without : (es : List (ℕ × FlowEnd)) (q : ℕ) → AreOver asked es → AreOver asked (without_end es q)
  over_without [] q over = tt
  over_without (e ∷ es) q over =
      by_number e.0 q (AreOver asked (without_end (e ∷ es) q))
      (λ same. subst (AreOver asked) (sym (without_here e es q same)) over.2)
      (λ other. subst (AreOver asked) (sym (without_past e es q other)) (over.0, none_without es q e.0 over.1, over_without es q over.2))

  pub taken_is_gone : (es : List (ℕ × FlowEnd)) (q : ℕ) → AreOver asked es → end_of (without_end es q) q ≡ None
  taken_is_gone [] q over = refl
  taken_is_gone (e ∷ es) q over =
      by_number e.0 q (end_of (without_end (e ∷ es) q) q ≡ None)
      (λ same. ap (λ xs. end_of xs q) (without_here e es q same) ∙ ap (end_of es) (sym same) ∙ over.1)
      (λ other. ap (λ xs. end_of xs q) (without_past e es q other) ∙ end_past e (without_end es q) q other ∙ taken_is_gone es q over.2)

  -- ---- another request changes, or one more is asked

  pub over_set : (es : List (ℕ × FlowEnd)) (q : ℕ) (m now : Waiting) (f : Flow) → numbered asked q ≡ Some m → m.flow ≡ Some f → AreOver asked es → AreOver (slice_set asked (q - 1) now) es
  over_set [] q m now f at waits over = tt
  over_set (e ∷ es) q m now f at waits over =
      let not_it : q ≡ e.0 → ⊥ = λ same. (let h : IsOver (Some m) = subst IsOver (ap (numbered asked) (sym same) ∙ at) over.0 in let no = sym waits ∙ h in absurd (cc)) in
      (subst IsOver (sym (numbered_other asked q e.0 m now at not_it)) over.0, over.1, over_set es q m now f at waits over.2)

  pub over_more : (es : List (ℕ × FlowEnd)) (m : Waiting) → AreOver asked es → AreOver (asked ++ m ∷ []) es
  over_more [] m over = tt
  over_more (e ∷ es) m over = (
    elim (numbered asked e.0) as (λ o. numbered asked e.0 ≡ o → IsOver o → IsOver (numbered (asked ++ m ∷ []) e.0)) [
      | None ↦ λ is h. absurd h
      | Some x ↦ λ is h. subst IsOver (sym (numbered_push asked e.0 x m is)) h
    ] refl over.0,
    over.1,
    over_more es m over.2,
  )
