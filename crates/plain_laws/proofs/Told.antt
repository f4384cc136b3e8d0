-- How jobs end: the map answers each whose buckets are there, and where there is an answer nothing else was given.
use Rattle.std.proofs.Common.{◌≡◌, ℕ, true, false, Option, Some, None, List, refl, sym, ◌∙◌, subst}
use Rattle.std.specs.Prelude.{⊤, if◌then◌else◌, option_map}
use Rattle.crdt_rows.specs.declared.version.Version.{Version}
use Rattle.layout_roles.specs.declared.cut.Cut.{Cut}
use Rattle.cluster_machine.specs.declared.step.Refusal.{Refusal}
use Rattle.flow_model.specs.declared.order.Order.{Order}
use Rattle.flow_model.specs.declared.order.Order.TheVariants as order
use Rattle.flow_model.specs.declared.flow.Content.{Content}
use Rattle.flow_model.specs.declared.flow.FlowEnd.{FlowEnd}
use Rattle.flow_model.specs.declared.flow.FlowEnd.TheVariants.{Stored, Found, Nothing, Listed, Superseded, Aborted}
use Rattle.store_model.specs.Orders.{buckets_of}
use Rattle.store_model.specs.Run.{are_buckets}
use Rattle.store_model.specs.Acts.{Act}
use Rattle.serve_model.specs.Stores.{Job, order_of_job, Given, Carried}
use Rattle.serve_model.specs.Told.{Told, whole, told_of, TellSame}
use Rattle.serve_model.specs.Clusters.{Cluster, cluster, wait, begun_with, number_in, end_in, end_then, begun_then, asking, acts_for}
use Rattle.serve_model.specs.Plain.{Has, never, deleted, object, Plain, has_at, at_time, counted, with_object, answered, done_for, plain}
use Rattle.plain_laws.specs.Holds.{IsTold}
use Rattle.plain_laws.proofs.Jobs.{each_order, done_by}

-- ---- ends that tell the same

-- what is told is an answer
abbrev IsAnswer : Option Told → Type 0
IsAnswer None = ⊥
IsAnswer (Some (whole (Superseded id))) = ⊥
IsAnswer (Some said) = ⊤

told_so : (end : Option FlowEnd) → (IsTold end → IsAnswer (option_map told_of end)) × (IsAnswer (option_map told_of end) → IsTold end)
told_so None = (λ t. t, λ t. t)
told_so (Some (Stored version meta)) = (λ t. t, λ t. t)
told_so (Some (Found version meta body)) = (λ t. t, λ t. t)
told_so (Some Nothing) = (λ t. t, λ t. t)
told_so (Some (Listed rows)) = (λ t. t, λ t. t)
told_so (Some (Superseded id)) = (λ t. t, λ t. t)
told_so (Some Aborted) = (λ t. t, λ t. t)

-- what tells the same as an end is one
pub told_alike : (one other : Option FlowEnd) → TellSame one other → IsTold other → IsTold one
told_alike one other same told = (told_so one).1 (subst IsAnswer (sym same) ((told_so other).0 told))

-- ---- the map

-- it ended, and nothing was given but its answer
abbrev IsAlone : Carried Plain → Type 0
IsAlone carried = IsTold carried.end × (carried.begun ≡ None)

object_alone : (P : Plain) (has : Has) (f : Version → Content → Carried Plain) → ((version : Version) (c : Content) → IsAlone (f version c)) → IsAlone (with_object P has f)
object_alone P never f alone = (tt, refl)
object_alone P (deleted version) f alone = (tt, refl)
object_alone P (object version block c) f alone = alone version c

answered_alone : (P : Plain) (order : Order) → IsAlone (answered P order)
answered_alone P (order.Put bucket key body headers) = (tt, refl)
answered_alone P (order.Stream bucket key length headers) = (tt, refl)
answered_alone P (order.Get bucket key) = object_alone P (has_at P (record { bucket = bucket; key = key })) _ (λ version c. (tt, refl))
answered_alone P (order.Head bucket key) = object_alone P (has_at P (record { bucket = bucket; key = key })) _ (λ version c. (tt, refl))
answered_alone P (order.Delete bucket key) = (tt, refl)
answered_alone P (order.Copy from_bucket from_key bucket key headers) = object_alone P (has_at P (record { bucket = from_bucket; key = from_key })) _ (λ version c. (tt, refl))
answered_alone P (order.List bucket prefix) = (tt, refl)

done_alone : (P : Plain) (job : Job) → IsAlone (done_for P job)
done_alone P job = done_by (λ o. ⊤) IsAlone P (λ o any. answered_alone P o) (tt, refl) job (each_order (λ o. ⊤) (λ o. tt) job)

-- the map tells an end of each job whose buckets are there
pub carried_told : (P : Plain) (time : ℕ) (job : Job) → are_buckets P.buckets (buckets_of (order_of_job job)) ≡ true → IsTold (plain.carries P time job).end
carried_told P time job known =
    subst (λ b. IsTold (if b then done_for (counted (at_time P time)) job else record { state = at_time P time; end = None; begun = None }).end) (sym known) (done_alone (counted (at_time P time)) job).0

-- and gives nothing but its answers
pub map_begun : (P : Plain) (time : ℕ) (job : Job) → (plain.carries P time job).begun ≡ None
map_begun P time job =
    elim (are_buckets P.buckets (buckets_of (order_of_job job))) as (λ b. (if b then done_for (counted (at_time P time)) job else record { state = at_time P time; end = None; begun = None }).begun ≡ None) [
      | true ↦ (done_alone (counted (at_time P time)) job).1
      | false ↦ refl
    ]

-- ---- the cluster

answer_alone : (end : Option FlowEnd) (begun : Option Given) → IsTold end → begun_with end begun ≡ None
answer_alone None begun told = absurd told
answer_alone (Some (Stored version meta)) begun told = refl
answer_alone (Some (Found version meta body)) begun told = refl
answer_alone (Some Nothing) begun told = refl
answer_alone (Some (Listed rows)) begun told = refl
answer_alone (Some (Superseded id)) begun told = absurd told
answer_alone (Some Aborted) begun told = refl

-- where a job of the cluster has an answer nothing else was given
cluster_begun : (c : Cluster) (time : ℕ) (job : Job) → IsTold (cluster.carries c time job).end → (cluster.carries c time job).begun ≡ None
cluster_begun c time job told =
    let o = asking c.members c.run (wait c time) (order_of_job job) in
    let done : List Act = acts_for c.members o job in
    elim o.refused as (λ (r : Option (Refusal Cut)). IsTold (end_then c.members o.state (number_in o.words) done r) → begun_then c.members o.state (number_in o.words) done r ≡ None) [
      | Some reason ↦ λ t. refl
      | None ↦ λ t. answer_alone (end_in c.members o.state (number_in o.words) done) _ t
    ] told

-- where its end tells what the map's does, neither gave anything but the answer
pub begun_alike : (c : Cluster) (P : Plain) (time : ℕ) (job : Job) → are_buckets P.buckets (buckets_of (order_of_job job)) ≡ true → TellSame (cluster.carries c time job).end (plain.carries P time job).end → (cluster.carries c time job).begun ≡ (plain.carries P time job).begun
begun_alike c P time job known same = cluster_begun c time job (told_alike (cluster.carries c time job).end (plain.carries P time job).end same (carried_told P time job known)) ∙ sym (map_begun P time job)
