-- Jobs whose upload is left: the cluster gives it up, and holds the same map, as the map's job says.
use Rattle.std.proofs.Common.{◌≡◌, ◌≤◌, ◌<◌, ◌*◌, ℕ, true, false, List, [], length, refl, ap, inr, arith}
use Rattle.std.specs.Prelude.{◌==◌, if◌then◌else◌, ⊤}
use Rattle.std.proofs.lemmas.List.{length-take}
use Rattle.flow_model.specs.declared.order.Order.TheVariants as order
use Rattle.flow_model.specs.declared.flow.FlowEnd.TheVariants.{Aborted}
use Rattle.flow_model.specs.Blocks.{piece}
use Rattle.store_model.specs.Fresh.{NoClash}
use Rattle.store_model.specs.Orders.{buckets_of}
use Rattle.store_model.specs.Run.{State, are_buckets}
use Rattle.store_model.specs.Acts.{Act}
use Rattle.serve_model.specs.declared.upload.Upload.{Upload}
use Rattle.serve_model.specs.Stores.{Job, carry, keep, leave, order_of_job, stream_of}
use Rattle.serve_model.specs.Clusters.{Cluster, carried_acts, streamed, fits}
use Rattle.serve_model.specs.Plain.{Plain, at_time, counted, tells, answered, done_for, IsPieceOf, AreApart}
use Rattle.plain_laws.specs.Holds.{Holds}
use Rattle.plain_laws.specs.Blocks.{IsBlockAt}
use Rattle.plain_laws.proofs.Jobs.{put_of}
use Rattle.plain_laws.proofs.Keeping.{Follows}
use Rattle.plain_laws.proofs.Starting.{number}
use Rattle.plain_laws.proofs.Carrying.{now, asked_state, has_key, number_fits, all_fit}
use Rattle.plain_laws.proofs.Followed.{kept_before, agrees_refused, serves_so}
use Rattle.plain_laws.proofs.LeftBytes.{padded, comes_whole, begins_within, there_taken, size_is, piece_is}
use Rattle.plain_laws.proofs.LeftHolding.{left_served}

-- an upload that is left: it is to be, or too few or too many bytes came, or none is to come at all
abbrev pub IsLeftOff : Job → Type 0
IsLeftOff (leave u came) = ⊤
IsLeftOff (keep u came) = (length came == u.length) ≡ false
IsLeftOff (carry (order.Stream bucket key size headers)) = ⊤
IsLeftOff (carry other) = ⊥

-- a block of it that comes whole is one of the bytes that came
piece_of : (block : ℕ) (u : Upload) (came : List ℕ) (i : ℕ) → comes_whole block u.length came i ≡ true → IsPieceOf block u came (piece block (padded block u.length came) i)
piece_of block u came i whole = record {
  place = i;
  there = there_taken block u.length came i whole;
  whole = size_is block u.length came i whole;
  bytes_are = piece_is block u.length came i whole;
}

-- where no byte came none comes whole
none_whole : (block size i : ℕ) → comes_whole block size [] i ≡ true → ⊥
none_whole block size i whole =
    let low = begins_within block size [] i whole in
    let none = length-take {A = ℕ} size [] in
    omega (arith, low, none)

module _ (c : Cluster) (P : Plain) (h : Holds c P) (clash : NoClash P.buckets) (some : 1 ≤ P.block) (time : ℕ) (u : Upload) (came : List ℕ) where
  abbrev after : Plain
  after = counted (at_time P time)

  abbrev asked : are_buckets P.buckets (buckets_of (stream_of u)) ≡ true → State
  asked known = asked_state c P h time (stream_of u) known

  abbrev q : ℕ
  q = number (now c P h time (stream_of u))

  abbrev done : are_buckets P.buckets (buckets_of (stream_of u)) ≡ true → List Act
  done known = streamed false (asked known) q came

  -- it is to be left
  leave_follows : fits c time (leave u came) → (known : are_buckets P.buckets (buckets_of (stream_of u)) ≡ true) → Follows c P time (leave u came)
  leave_follows fit known =
      let s = left_served c P h clash time u came known some (has_key c P h time (leave u came) fit) (number_fits c P h time (leave u came) known fit) (IsBlockAt c P (leave u came)) (kept_before c P (leave u came)) (λ i whole. inr (piece_of P.block u came i whole))
      (all_fit c P h time (leave u came) known (done known) refl fit) in
      serves_so c P h time (leave u came) known (done known) refl fit after Aborted Aborted refl refl refl s.holding s.keeps s.ends

  -- not as many bytes came as were announced
  keep_follows : fits c time (keep u came) → (length came == u.length) ≡ false → (known : are_buckets P.buckets (buckets_of (stream_of u)) ≡ true) → Follows c P time (keep u came)
  keep_follows fit differs known =
      let done_is : carried_acts (asked known) q (keep u came) ≡ done known = ap (λ b. streamed b (asked known) q came) differs in
      let aborts : done_for after (keep u came) ≡ tells after Aborted = ap (λ b. if b then answered after (put_of u came) else tells after Aborted) differs in
      let s = left_served c P h clash time u came known some (has_key c P h time (keep u came) fit) (number_fits c P h time (keep u came) known fit) (IsBlockAt c P (keep u came)) (kept_before c P (keep u came)) (λ i whole. inr (piece_of P.block u came i whole))
      (all_fit c P h time (keep u came) known (done known) done_is fit) in
      serves_so c P h time (keep u came) known (done known) done_is fit after Aborted Aborted refl aborts refl s.holding s.keeps s.ends

-- none comes
carry_follows : (c : Cluster) (P : Plain) (h : Holds c P) (clash : NoClash P.buckets) (some : 1 ≤ P.block) (time : ℕ) (u : Upload) → fits c time (carry (stream_of u)) → are_buckets P.buckets (buckets_of (stream_of u)) ≡ true → Follows c P time (carry (stream_of u))
carry_follows c P h clash some time u fit known =
    let job : Job = carry (stream_of u) in
    let done : List Act = streamed false (asked_state c P h time (stream_of u) known) (number (now c P h time (stream_of u))) [] in
    let s = left_served c P h clash time u [] known some (has_key c P h time job fit) (number_fits c P h time job known fit) (IsBlockAt c P job) (kept_before c P job) (λ i whole. absurd (none_whole P.block u.length i whole)) (all_fit c P h time job known done refl fit) in
    serves_so c P h time job known done refl fit (counted (at_time P time)) Aborted Aborted refl refl refl s.holding s.keeps s.ends

-- such a job is carried out as by the map
follows_where : (c : Cluster) (P : Plain) (time : ℕ) (job : Job) → IsLeftOff job → (h : Holds c P) → NoClash P.buckets → 1 ≤ P.block → fits c time job → are_buckets P.buckets (buckets_of (order_of_job job)) ≡ true → Follows c P time job
follows_where c P time (leave u came) off h clash some fit known = leave_follows c P h clash some time u came fit known
follows_where c P time (keep u came) off h clash some fit known = keep_follows c P h clash some time u came fit off known
follows_where c P time (carry (order.Stream bucket key size headers)) off h clash some fit known = carry_follows c P h clash some time (record { bucket = bucket; key = key; length = size; headers = headers }) fit known
follows_where c P time (carry (order.Put bucket key body headers)) off h clash some fit known = absurd off
follows_where c P time (carry (order.Get bucket key)) off h clash some fit known = absurd off
follows_where c P time (carry (order.Head bucket key)) off h clash some fit known = absurd off
follows_where c P time (carry (order.Delete bucket key)) off h clash some fit known = absurd off
follows_where c P time (carry (order.Copy from_bucket from_key bucket key headers)) off h clash some fit known = absurd off
follows_where c P time (carry (order.List bucket prefix)) off h clash some fit known = absurd off

-- whether or not the bucket is there
pub left_follows : (c : Cluster) (P : Plain) (time : ℕ) (job : Job) → IsLeftOff job → Holds c P → NoClash P.buckets → 1 ≤ P.block → AreApart (IsBlockAt c P job) → fits c time job → Follows c P time job
left_follows c P time job off h clash some apart fit =
    elim (are_buckets P.buckets (buckets_of (order_of_job job))) as (λ b. are_buckets P.buckets (buckets_of (order_of_job job)) ≡ b → Follows c P time job) [
      | true ↦ λ known. follows_where c P time job off h clash some fit known
      | false ↦ λ unknown. agrees_refused c P h time job unknown
    ] refl
