-- What is kept of requests, by their numbers.
use Rattle.std.proofs.Common.{◌≡◌, ℕ, suc, ◌-◌, true, false, Option, Some, None, List, [], ◌∷◌, ◌++◌, length, refl, sym, ap, ◌∙◌, subst}
use Rattle.std.specs.Prelude.{IsSome, slice_set}
use Rattle.std.specs.BTreeMap.{BTreeMap, UpdatesBy, WritesThrough}
use Rattle.std.specs.Cmp.{Equal-is}
use Rattle.std.specs.Ordering.{nat_cmp, is_eq}
use Rattle.crdt_core.specs.IdentityLaws.{nat_identical}
use Rattle.cluster_machine.specs.World.{numbered}
use Rattle.history_model.specs.declared.record.Kind.{Kind}
use Rattle.flow_model.specs.declared.flow.Flow.{Flow}
use Rattle.store_model.specs.Run.{State, Asked as Waiting}
use Rattle.s3_world.specs.declared.asked.Asked.{Asked}
use Rattle.s3_world.specs.declared.driver.Driver.{Driver}
use Rattle.s3_world.specs.Driven.{Known, known_with, known, kept, IsHanding}
use Rattle.s3_world.specs.Reads.{Handed, asked_at, Writes}
use Rattle.s3_world.proofs.Overs.{by_number}
use Rattle.s3_world.proofs.Places.{numbered_set, numbered_other, numbered_last, numbered_before}

-- ---- what is written

-- the map's order tells two numbers apart
apart : (q p : ℕ) → (q ≡ p → ⊥) → is_eq (nat_cmp q p) ≡ false
apart q p other =
    elim (is_eq (nat_cmp q p)) as (λ b. is_eq (nat_cmp q p) ≡ b → b ≡ false) [
      | true ↦ λ e. absurd (other (nat_identical q p ((Equal-is (nat_cmp q p)).0 e)))
      | false ↦ λ e. refl
    ] refl

module _ (old new : BTreeMap ℕ Asked) (q : ℕ) where
  pub updated : (now : Option Asked) → UpdatesBy nat_cmp (nat_cmp q) old new now → Writes old new q now
  updated now u = record { here = u.1; others = λ p other. u.2 p (apart q p other) }

  -- through a borrow of what is kept of the request
  pub written : (a x : Asked) → asked_at old q ≡ Some a → WritesThrough nat_cmp (nat_cmp q) old x new → Writes old new q (Some x)
  written a x at h = updated (Some x) (h.3 (subst IsSome (sym at) refl))

  pub is_written : (x : Asked) → Writes old new q (Some x) → IsSome (asked_at new q)
  is_written x w = subst IsSome (sym w.here) refl

  module _ (now : Option Asked) (w : Writes old new q now) where
    -- what holds of all holds still
    pub all_written : (P : Option Asked → Type 0) → ((p : ℕ) → P (asked_at old p)) → P now → (p : ℕ) → P (asked_at new p)
    all_written P all here p =
        by_number q p (P (asked_at new p)) (λ same. subst (λ p. P (asked_at new p)) same (subst P (sym w.here) here)) (λ other. subst P (sym (w.others p other)) (all p))

    -- what is said of this one as before is so of all
    pub same_for : {B : Type 0} (f : Option Asked → B) (before : Option Asked) → asked_at old q ≡ before → f now ≡ f before → (p : ℕ) → f (asked_at new p) ≡ f (asked_at old p)
    same_for f before at same p =
        by_number q p (f (asked_at new p) ≡ f (asked_at old p)) (λ here. subst (λ p. f (asked_at new p) ≡ f (asked_at old p)) here (ap f w.here ∙ same ∙ sym (ap f at))) (λ other. ap f (w.others p other))

    -- of each request the same is known, if of this one, which is written in the model too
    pub known_set : (asked : List Waiting) (m then : Waiting) → numbered asked q ≡ Some m → ((p : ℕ) → known (asked_at old p) ≡ kept (numbered asked p)) → known now ≡ kept (Some then) →
        (p : ℕ) → known (asked_at new p) ≡ kept (numbered (slice_set asked (q - 1) then) p)
    known_set asked m then at all here p =
        by_number q p (known (asked_at new p) ≡ kept (numbered (slice_set asked (q - 1) then) p))
        (λ same. subst (λ p. known (asked_at new p) ≡ kept (numbered (slice_set asked (q - 1) then) p)) same (ap known w.here ∙ here ∙ ap kept (sym (numbered_set asked q m then at))))
        (λ other. ap known (w.others p other) ∙ all p ∙ ap kept (sym (numbered_other asked q p m then at other)))

-- and of one more
pub known_pushed : (old new : BTreeMap ℕ Asked) (asked : List Waiting) (a : Asked) (m : Waiting) → Writes old new (suc (length asked)) (Some a) → ((p : ℕ) → known (asked_at old p) ≡ kept (numbered asked p)) → known (Some a) ≡ kept (Some m) →
    (p : ℕ) → known (asked_at new p) ≡ kept (numbered (asked ++ m ∷ []) p)
known_pushed old new asked a m w all here p =
    by_number (suc (length asked)) p (known (asked_at new p) ≡ kept (numbered (asked ++ m ∷ []) p))
    (λ same. subst (λ p. known (asked_at new p) ≡ kept (numbered (asked ++ m ∷ []) p)) same (ap known w.here ∙ here ∙ ap kept (sym (numbered_last asked m))))
    (λ other. ap known (w.others p other) ∙ all p ∙ ap kept (sym (numbered_before asked p m (λ e. other (sym e)))))

-- one write after the other
pub written_over : (old mid new : BTreeMap ℕ Asked) (q : ℕ) (x y : Option Asked) → Writes old mid q x → Writes mid new q y → Writes old new q y
written_over old mid new q x y first second = record { here = second.here; others = λ p other. second.others p other ∙ first.others p other }

-- ---- the model's request

-- request q of the model waits for this, where the code's does, and does the same
pub record WaitsToo (asked : List Waiting) (q : ℕ) (a : Asked) (f : Flow) : Type 0 where
  pub request : Waiting
  pub there : numbered asked q ≡ Some request
  pub node : request.node ≡ a.node
  pub kind : request.kind ≡ a.kind
  pub flow : request.flow ≡ Some f

module _ (asked : List Waiting) (q : ℕ) (a : Asked) (f : Flow) where
  with_flow : (m : Waiting) (flow : Option Flow) → numbered asked q ≡ Some m → m.flow ≡ flow → known_with m.node m.kind flow ≡ Some (record { node = a.node; kind = a.kind; flow = f }) → WaitsToo asked q a f
  with_flow m None there is h = absurd (cc)
  with_flow m (Some g) there is h =
      let left : Known = record { node = m.node; kind = m.kind; flow = g } in
      let right : Known = record { node = a.node; kind = a.kind; flow = f } in
      let same : left ≡ right = cc in
      record { request = m; there = there; node = ap (λ (k : Known). k.node) same; kind = ap (λ (k : Known). k.kind) same; flow = is ∙ ap (λ (k : Known). Some k.flow) same }

  with_request : (o : Option Waiting) → numbered asked q ≡ o → kept o ≡ Some (record { node = a.node; kind = a.kind; flow = f }) → WaitsToo asked q a f
  with_request None is h = absurd (cc)
  with_request (Some m) is h = with_flow m m.flow is refl h

-- it waits for what the driver's waits for
pub waiting_at : {F : Type 0} {given : Handed} (driver : Driver F) (s : State) → IsHanding given driver s → (q : ℕ) (a : Asked) (f : Flow) → asked_at driver.requests q ≡ Some a → a.flow ≡ Some f → WaitsToo s.asked q a f
waiting_at driver s d q a f at going = with_request s.asked q a f (numbered s.asked q) refl (sym (d.requests q) ∙ ap known at ∙ ap (known_with a.node a.kind) going)

none_with : (node : ℕ) (kind : Kind) (flow : Option Flow) → known_with node kind flow ≡ None → flow ≡ None
none_with node kind None h = refl
none_with node kind (Some f) h = absurd (cc)

-- a request of the model of which nothing is known waits for nothing
pub over_at : (asked : List Waiting) (q : ℕ) (m : Waiting) → numbered asked q ≡ Some m → kept (numbered asked q) ≡ None → m.flow ≡ None
over_at asked q m at none = none_with m.node m.kind m.flow (ap kept (sym at) ∙ none)
