-- A phase of an open request begins.
use Rattle.std.proofs.Common.{◌≡◌, ◌<◌, ◌^◌, ◌==◌, ℕ, suc, true, false, cond, leb, IsTrue, Option, Some, None, option_map, List, [], ◌∷◌, refl, ap, ◌∙◌}
use Rattle.std.specs.List.{AllByRecursion}
use Rattle.std.specs.Cmp.{nat_eq_equiv}
use Rattle.layout_roles.specs.declared.layout.Layout.{Layout}
use Rattle.view_model.specs.Layouts.{reading}
use Rattle.view_model.specs.View.{View, newest}
use Rattle.table_schema.specs.Words.{Words}
use Rattle.wire_messages.specs.declared.phase.Phase.{Phase}
use Rattle.wire_messages.specs.declared.phase.Phase.TheVariants.{Read, Range, Store, Block}
use Rattle.cluster_machine.specs.Node.{Node as Model, Call as Opened, Present as Doing}
use Rattle.cluster_machine.specs.Phases.{call_at, with_call, calls_now, begins}
use Rattle.cluster_machine.specs.Layouts.{layouts}
use Rattle.node_core.specs.Stands.{HasVersion}

module _ {R : Type 0} where
  -- a call that has so many phases is there
  pub some_of : (p : ℕ) (o : Option (Opened R)) → Some p ≡ option_map (λ c. c.phases) o → (c : Opened R) × (o ≡ Some c) × (c.phases ≡ p)
  some_of p None e = cc
  some_of p (Some c) e = (c, refl, cc)

  -- where a call is there a version is stored
  pub has_one : (v : View Layout) (calls : List (Opened R)) (q : ℕ) (c : Opened R) → call_at calls q ≡ Some c → HasVersion v calls → IsTrue (leb 1 (newest reading v))
  has_one v [] q c e h = cc
  has_one v (d ∷ ds) q c e h = h

  pub version_called : (v : View Layout) (c : Opened R) (calls : List (Opened R)) → HasVersion v calls → HasVersion v (with_call c calls)
  version_called v c [] h = tt
  version_called v c (d ∷ ds) h = h

  -- the call that has entered a phase has this count
  pub counted : (calls : List (Opened R)) (q n : ℕ) (c : Opened R) (doing : Doing R) → call_at calls q ≡ Some c → AllByRecursion (λ (c : Opened R). c.phases < 2 ^ 32) (with_call (record c { phases = n; present = doing }) calls) → n < 2 ^ 32
  counted [] q n c doing e a = cc
  counted (d ∷ ds) q n c doing e a = elim (d.request == q) as (λ b. (d.request == q) ≡ b → cond b (Some d) (call_at ds q) ≡ Some c → n < 2 ^ 32) [
    | true ↦ (λ same h.
        let one : d ≡ c = cc in
        let here : (d.request == c.request) ≡ true = ap (λ (z : Opened R). z.request == c.request) one ∙ nat_eq_equiv.refl c.request in
        rw here at a.0)
    | false ↦ (λ same h. counted ds q n c doing h a.1)
  ] refl e

  -- whatever the phase, the call enters the next one
  pub enters : (s : Words R) (kept : List R) (x : Model R Layout) (c : Opened R) (phase : Phase R) → (doing : Doing R) × ((begins s layouts kept x c phase).node ≡ calls_now x (record c { phases = suc c.phases; present = doing }))
  enters s kept x c (Read table position key) = (_, refl)
  enters s kept x c (Range position prefix after) = (_, refl)
  enters s kept x c (Store rows) = (_, refl)
  enters s kept x c (Block hash) = (_, refl)
