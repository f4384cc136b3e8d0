-- What is carried out and answered where keys are configured.
use Rattle.std.specs.Prelude.{◌≡◌, ◌≤◌, ℕ, Bool, true, List, [], ◌++◌, length, take, Some, None, Ok}
use Rattle.std.specs.List.{AllByRecursion}
use Rattle.flow_model.specs.declared.order.Order.{Order}
use Rattle.layout_text.specs.declared.keys.Access.{Access}
use Rattle.http_model.specs.declared.head.Head.{Head}
use Rattle.http_model.specs.Cut.{ends, cut}
use Rattle.s3_model.specs.declared.fault.Code.{Code}
use Rattle.s3_model.specs.declared.fault.S3Fault.{S3Fault}
use Rattle.s3_model.specs.declared.reply.Reply.{Reply}
use Rattle.s3_model.specs.Faults.{status_of}
use Rattle.s3_model.specs.Asks.{length_refusal, asked_of}
use Rattle.sig_v4.specs.declared.signed.Signed.{Signed}
use Rattle.sig_v4.specs.Checks.{checked}
use Rattle.serve_model.specs.declared.admitted.Admitted.{Admitted}
use Rattle.serve_model.specs.declared.answer.Answer.TheVariants as answer
use Rattle.serve_model.specs.declared.buckets.Buckets.{Buckets}
use Rattle.serve_model.specs.declared.request.Request.{Request}
use Rattle.serve_model.specs.Keys.{may}
use Rattle.serve_model.specs.Judging.{refusal_of, upload_of, order_of}
use Rattle.serve_model.specs.declared.upload.Upload.{Upload}
use Rattle.serve_model.specs.Stores.{Job, carry, keep, leave, Given, Store, Asking}
use Rattle.serve_model.specs.Connections.{IsPrefixOf}
use Rattle.serve_model.specs.Talk.{Grammar, Serving, Stop, Halt, request_of, interim, text_of, begun_text, head_refusal, clocked, turn}

-- a key signed the head at this time, it may ask what the head asks, and the length is in order
pub record IsAllowed (access : Access) (now : ℕ) (head : Head) (a : Admitted) : Type 0 where
  pub signed : Signed
  pub is_signed : checked head access.keys access.region now ≡ Ok signed
  pub who : a.who ≡ Some signed.place
  pub digest : a.digest ≡ signed.digest
  pub asks : asked_of head ≡ Ok a.ask
  pub may_ask : may access a.who a.ask ≡ true
  pub long : length_refusal head a.ask ≡ None

-- these bytes begin with a head that is allowed, which asks this request, and these are left behind it
pub record IsAdmitted (buckets : Buckets) (g : Grammar) (last : Bool) (now : ℕ) (bytes : List ℕ) (r : Request) (rest : List ℕ) : Type 0 where
  pub front : List ℕ
  pub head : Head
  pub cut_is : cut bytes ≡ ends front rest
  pub read : g.head_of front ≡ Some head
  pub asked : Admitted
  pub allowed : IsAllowed buckets.access now head asked
  pub is_of : r ≡ request_of last now head asked

-- these bytes begin with such a head and the whole body that it announces, which nothing refuses
pub record IsRequest (buckets : Buckets) (g : Grammar) (last : Bool) (now : ℕ) (bytes : List ℕ) (r : Request) (body : List ℕ) : Type 0 where
  pub rest : List ℕ
  pub admitted : IsAdmitted buckets g last now bytes r rest
  pub whole : r.length ≤ length rest
  pub body_is : body ≡ take r.length rest
  pub unrefused : refusal_of buckets r body ≡ None

-- the job is what such a request asks, to keep the upload that it is, or to give the upload up that a head asks which is allowed, after a first part of the bytes behind it
pub data IsAsked (buckets : Buckets) (g : Grammar) (last : Bool) (now : ℕ) (bytes : List ℕ) (job : Job) : Type 0 where
  ordered : (r : Request) (body : List ℕ) (o : Order) → IsRequest buckets g last now bytes r body → order_of r.ask body ≡ Some o → job ≡ carry o → IsAsked buckets g last now bytes job
  kept : (r : Request) (body : List ℕ) (u : Upload) → IsRequest buckets g last now bytes r body → upload_of buckets r ≡ Some u → job ≡ keep u body → IsAsked buckets g last now bytes job
  given_up : (r : Request) (rest came : List ℕ) (u : Upload) → IsAdmitted buckets g last now bytes r rest → upload_of buckets r ≡ Some u → IsPrefixOf came rest → job ≡ leave u came → IsAsked buckets g last now bytes job

-- a refusal has the status of its code
abbrev pub IsOfCode : S3Fault → Type 0
IsOfCode fault = fault.status ≡ status_of fault.code

-- what is written for the first request in these bytes: nothing, a refusal of its head, the interim line and a refusal or no more behind a head that is allowed, or the reply to such a request, or what a get got of one without an answer
pub data IsSaid (buckets : Buckets) (g : Grammar) (last : Bool) (now : ℕ) (bytes text : List ℕ) : Type 0 where
  nothing : text ≡ [] → IsSaid buckets g last now bytes text
  head_refused : (fault : S3Fault) (path : List ℕ) (is_head : Bool) → IsOfCode fault → text ≡ head_refusal fault path is_head now → IsSaid buckets g last now bytes text
  unanswered : (r : Request) (rest : List ℕ) → IsAdmitted buckets g last now bytes r rest → text ≡ interim r → IsSaid buckets g last now bytes text
  refused : (r : Request) (rest : List ℕ) (code : Code) → IsAdmitted buckets g last now bytes r rest → text ≡ interim r ++ text_of r (answer.Refusal code) → IsSaid buckets g last now bytes text
  replied : (r : Request) (body : List ℕ) (reply : Reply) → IsRequest buckets g last now bytes r body → text ≡ interim r ++ text_of r (answer.Reply reply) → IsSaid buckets g last now bytes text
  got : (r : Request) (body : List ℕ) (given : Given) → IsRequest buckets g last now bytes r body → text ≡ interim r ++ begun_text r (Some given) → IsSaid buckets g last now bytes text

-- a get in the middle of which serving may be given up is such a request, before which no more is written than the interim line
pub record IsGot {S : Type 0} (buckets : Buckets) (g : Grammar) (last : Bool) (now : ℕ) (bytes : List ℕ) (halt : Halt S) : Type 0 where
  pub body : List ℕ
  pub is_request : IsRequest buckets g last now bytes halt.request body
  pub text : halt.text ≡ interim halt.request

module _ {S : Type 0} (store : Store S) (buckets : Buckets) (g : Grammar) where
  -- whatever is served, with whatever bytes to come: the store is asked only what such a request asks, also where the connection is cut off
  abbrev pub OnlySignedIsCarriedOut : Type 0
  OnlySignedIsCarriedOut =
      (last : Bool) (p : Serving S) (bytes : List ℕ) →
      (let t = turn store buckets g last p bytes in
      let Asked : List (Asking S) → Type 0 = AllByRecursion (λ a. IsAsked buckets g last (clocked p).time bytes a.job) in
      Asked t.asks × AllByRecursion (λ (stop : Stop S). Asked stop.asks) t.stops)

  -- and only such a request is answered otherwise than by a refusal, also where serving is given up in the middle of a get
  abbrev pub OnlyAllowedIsAnswered : Type 0
  OnlyAllowedIsAnswered =
      (last : Bool) (p : Serving S) (bytes : List ℕ) →
      IsSaid buckets g last (clocked p).time bytes (turn store buckets g last p bytes).text × AllByRecursion (IsGot buckets g last (clocked p).time bytes) (turn store buckets g last p bytes).halts
