-- Each turn may be cut off before the store is asked.
use Rattle.std.proofs.Common.{◌≡◌, ℕ, nat_lt, ◌+◌, Bool, true, false, if◌then◌else◌, List, [], Option, Some, None, Result, Ok, Err, refl, inl}
use Rattle.flow_model.specs.declared.order.Order.{Order}
use Rattle.http_model.specs.declared.head.Head.{Head}
use Rattle.s3_model.specs.declared.fault.Code.{Code}
use Rattle.s3_model.specs.declared.fault.S3Fault.{S3Fault}
use Rattle.serve_model.specs.declared.admitted.Admitted.{Admitted}
use Rattle.serve_model.specs.Admitting.{admitted}
use Rattle.serve_model.specs.declared.buckets.Buckets.{Buckets}
use Rattle.serve_model.specs.declared.request.Request.{Request}
use Rattle.serve_model.specs.Judging.{refusal_of, counted_before, upload_of, order_of}
use Rattle.serve_model.specs.declared.upload.Upload.{Upload}
use Rattle.serve_model.specs.Stores.{Store}
use Rattle.serve_model.specs.Talk.{Grammar, Serving, Stop, Turn, behind, kept_limit, exceeded, counted, counting, order_turn, plan_turn, judged_turn, whole_turn, body_turn, stream_turn, coming_turn, waiting_turn, interim, request_of, request_turn, asked_turn, head_turn, turn}
use Rattle.serve_model.proofs.Ones.{one_weaker, one_mapped}
use Rattle.serve_loop.proofs.Serving.{Begins, BeginsWith}

pub begins_so : {S : Type 0} (p : Serving S) (t : Turn S) → BeginsWith p t → Begins t
begins_so p t h = one_weaker (λ stop. (stop.asks ≡ []) × (stop.serving ≡ p)) (λ stop. stop.asks ≡ []) (λ stop e. e.0) t.stops h

counting_begins : {S : Type 0} (size : ℕ) (p : Serving S) (go : Serving S → Turn S) → ((q : Serving S) → Begins (go q)) → Begins (counting size p go)
unfolding counting
counting_begins size p go h =
    elim (nat_lt kept_limit (p.kept + size)) as (λ b. Begins (if b then exceeded (counted size p) else go (counted size p))) [
      | true ↦ inl refl
      | false ↦ h (counted size p)
    ]

pub order_begins : {S : Type 0} (store : Store S) (r : Request) (order : Order) (p : Serving S) (rest : List ℕ) → Begins (order_turn store r order p rest)
order_begins store r order p rest = inl refl

module _ {S : Type 0} (store : Store S) (buckets : Buckets) where
  pub plan_begins : (r : Request) (o : Option Order) (p : Serving S) (rest : List ℕ) → Begins (plan_turn store buckets r o p rest)
  plan_begins r (Some order) p rest = inl refl
  plan_begins r None p rest = inl refl

  judged_begins : (r : Request) (body : List ℕ) (c : Option Code) (p : Serving S) (rest : List ℕ) → Begins (judged_turn store buckets r body c p rest)
  judged_begins r body (Some code) p rest = inl refl
  judged_begins r body None p rest = plan_begins r (order_of r.ask body) p rest

  pub whole_begins : (r : Request) (body : List ℕ) (p : Serving S) (rest : List ℕ) → Begins (whole_turn store buckets r body p rest)
  whole_begins r body p rest = judged_begins r body (refusal_of buckets r body) p rest

  pub body_begins : (r : Request) (p : Serving S) (rest : List ℕ) → BeginsWith p (body_turn store buckets r p rest)
  unfolding body_turn
  body_begins r p rest = inl (refl, refl)

  pub stream_begins : (r : Request) (u : Upload) (p : Serving S) (rest : List ℕ) → BeginsWith p (stream_turn store buckets r u p rest)
  unfolding stream_turn
  stream_begins r u p rest = inl (refl, refl)

  pub coming_begins : (r : Request) (u : Option Upload) (p : Serving S) (rest : List ℕ) → BeginsWith p (coming_turn store buckets r u p rest)
  coming_begins r (Some u) p rest = stream_begins r u p rest
  coming_begins r None p rest = body_begins r p rest

  waiting_begins : (r : Request) (p : Serving S) (rest : List ℕ) → Begins (waiting_turn store buckets r p rest)
  waiting_begins r p rest =
      let t = coming_turn store buckets r (upload_of buckets r) p rest in
      one_mapped (λ (stop : Stop S). stop.asks ≡ []) (λ (stop : Stop S). stop.asks ≡ []) (behind (interim r) []) (λ stop e. e) t.stops (begins_so p t (coming_begins r (upload_of buckets r) p rest))

  pub request_begins : (r : Request) (p : Serving S) (rest : List ℕ) → Begins (request_turn store buckets r p rest)
  request_begins r p rest = counting_begins (counted_before buckets.names r.ask r.length) p (λ q. waiting_turn store buckets r q rest) (λ q. waiting_begins r q rest)

  asked_begins : (last : Bool) (now : ℕ) (head : Head) (a : Result Admitted S3Fault) (p : Serving S) (rest : List ℕ) → Begins (asked_turn store buckets last now head a p rest)
  asked_begins last now head (Ok ask) p rest = request_begins (request_of last now head ask) p rest
  asked_begins last now head (Err fault) p rest = inl refl

  pub head_begins : (last : Bool) (now : ℕ) (h : Option Head) (p : Serving S) (rest : List ℕ) → Begins (head_turn store buckets last now h p rest)
  head_begins last now (Some head) p rest = asked_begins last now head (admitted buckets.access now head) p rest
  head_begins last now None p rest = inl refl

  pub turn_begins : (g : Grammar) (last : Bool) (p : Serving S) (all : List ℕ) → BeginsWith p (turn store buckets g last p all)
  turn_begins g last p all = inl (refl, refl)
