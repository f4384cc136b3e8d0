-- What is asked and written for one request where keys are configured.
use Rattle.std.proofs.Common.{◌≡◌, ◌≤◌, ℕ, ◌+◌, Bool, true, false, nat_le, nat_lt, if◌then◌else◌, Option, Some, None, Result, Ok, Err, List, [], ◌∷◌, ◌++◌, length, take, drop, take-append-drop, codes, refl, sym, ap, ◌∙◌, append-nil, append_assoc}
use Rattle.std.proofs.lemmas.Bool.{leb-true}
use Rattle.std.specs.List.{AllByRecursion}
use Rattle.crdt_core.proofs.Each.{all_weaker}
use Rattle.flow_model.specs.declared.order.Order.{Order}
use Rattle.flow_model.specs.declared.order.Order.TheVariants as order
use Rattle.flow_model.specs.declared.flow.FlowEnd.{FlowEnd}
use Rattle.http_model.specs.declared.head.Head.{Head}
use Rattle.http_model.specs.Cut.{Cut, ends, too_long, unfinished, cut}
use Rattle.s3_model.specs.declared.fault.Code.{Code}
use Rattle.s3_model.specs.declared.fault.Code.TheVariants.{InvalidRequest, IncompleteBody}
use Rattle.s3_model.specs.declared.fault.S3Fault.{S3Fault}
use Rattle.s3_model.specs.declared.reply.Reply.{Reply}
use Rattle.s3_model.specs.Asks.{is_method}
use Rattle.s3_model.specs.Faults.{fault_of}
use Rattle.s3_model.specs.Words.{is_empty}
use Rattle.serve_model.specs.declared.admitted.Admitted.{Admitted}
use Rattle.serve_model.specs.declared.answer.Answer.{Answer}
use Rattle.serve_model.specs.declared.answer.Answer.TheVariants as answer
use Rattle.serve_model.specs.declared.buckets.Buckets.{Buckets}
use Rattle.serve_model.specs.declared.request.Request.{Request}
use Rattle.serve_model.specs.Admitting.{admitted}
use Rattle.serve_model.specs.declared.upload.Upload.{Upload}
use Rattle.serve_model.specs.Stores.{Job, carry, keep, leave, Given, Store, Asking, IsLeftOf}
use Rattle.serve_model.specs.Connections.{IsPrefixOf}
use Rattle.serve_model.specs.Judging.{refusal_of, counted_before, upload_of, order_of, reply_without, answer_to, counted_after}
use Rattle.serve_model.specs.Talk.{Grammar, Serving, kept_limit, Stop, Halt, Turn, request_of, path_shown, clocked, counted, counting, exceeded, interim, text_of, begun_text, answer_turn, given_turn, end_turn, behind_halt, having_asked, halts_of, asking_now, left_turn, leaving_turn, came_turn, plan_turn, judged_turn, whole_turn, body_turn, stream_turn, coming_turn, waiting_turn, request_turn, asked_turn, head_turn, cut_turn, turn}
use Rattle.signed_laws.specs.Allowed.{IsAllowed, IsAdmitted, IsRequest, IsAsked, ordered, kept, given_up, IsSaid, nothing, head_refused, unanswered, refused, replied, got, IsGot}
use Rattle.serve_model.proofs.Ones.{all_mapped}
use Rattle.serve_model.proofs.Within.{Within, first_all, turn_within}
use Rattle.signed_laws.proofs.Admitted.{allowed}
use Rattle.signed_laws.proofs.Refusals.{admitted_of_code}

module _ (buckets : Buckets) (g : Grammar) (last : Bool) (now : ℕ) (bytes : List ℕ) where
  -- what is written behind the interim line
  data Behind (r : Request) (text : List ℕ) : Type 0 where
    none : text ≡ [] → Behind r text
    refusal : (code : Code) → text ≡ text_of r (answer.Refusal code) → Behind r text
    reply : (body : List ℕ) (it : Reply) → IsRequest buckets g last now bytes r body → text ≡ text_of r (answer.Reply it) → Behind r text
    given : (body : List ℕ) (it : Given) → IsRequest buckets g last now bytes r body → text ≡ begun_text r (Some it) → Behind r text

  module _ {S : Type 0} where
    -- each job is one that a request asks
    abbrev AllAsked : Turn S → Type 0
    AllAsked t = AllByRecursion (λ (a : Asking S). IsAsked buckets g last now bytes a.job) t.asks

    -- a get in the middle of which serving may be given up is this request, before which nothing is written
    record IsGet (r : Request) (halt : Halt S) : Type 0 where
      body : List ℕ
      is_request : IsRequest buckets g last now bytes halt.request body
      request_is : halt.request ≡ r
      text : halt.text ≡ []

    abbrev Good : Request → Turn S → Type 0
    Good r t = AllAsked t × Behind r t.text × AllByRecursion (IsGet r) t.halts

    -- it is so whether too much was put or copied or not
    counting_good : (r : Request) (size : ℕ) (p : Serving S) (go : Serving S → Turn S) → ((q : Serving S) → Good r (go q)) → Good r (counting size p go)
    unfolding counting
    counting_good r size p go h =
        elim (nat_lt kept_limit (p.kept + size)) as (λ b. Good r (if b then exceeded (counted size p) else go (counted size p))) [
          | true ↦ (tt, none refl, tt)
          | false ↦ h (counted size p)
        ]

    refusal_good : (r : Request) (code : Code) (p : Serving S) (rest : List ℕ) → Good r (answer_turn r (answer.Refusal code) p rest)
    refusal_good r code p rest = (tt, refusal code refl, tt)

    -- what is asked before changes no request
    asked_good : (r : Request) (a : Asking S) (t : Turn S) → AllByRecursion (IsGet r) t.halts → AllByRecursion (IsGet r) (having_asked a t).halts
    asked_good r a t all = all_mapped (IsGet r) (IsGet r) (behind_halt [] (a ∷ [])) (λ h k. record { body = k.body; is_request = k.is_request; request_is = k.request_is; text = k.text }) t.halts all

    left_good : (r : Request) (code : Code) (end : Option FlowEnd) (p : Serving S) (rest : List ℕ) → Good r (left_turn r code end p rest)
    left_good r code None p rest = (tt, none refl, tt)
    left_good r code (Some end) p rest = refusal_good r code p rest

    module _ (r : Request) (body : List ℕ) (is : IsRequest buckets g last now bytes r body) where
      answer_good : (a : Answer) (p : Serving S) (rest : List ℕ) → Good r (answer_turn r a p rest)
      answer_good (answer.Reply it) p rest = (tt, reply body it is refl, tt)
      answer_good (answer.Refusal code) p rest = refusal_good r code p rest
      answer_good answer.Nothing p rest = (tt, none refl, tt)

      given_good : (a : Answer) (had : Option Given) (p : Serving S) (rest : List ℕ) → Good r (given_turn r a had p rest)
      given_good (answer.Reply it) had p rest = (tt, reply body it is refl, tt)
      given_good (answer.Refusal code) had p rest = (tt, refusal code refl, tt)
      given_good answer.Nothing None p rest = (tt, none refl, tt)
      given_good answer.Nothing (Some it) p rest = (tt, given body it is refl, tt)

      end_good : (e : Option FlowEnd) (had : Option Given) (p : Serving S) (rest : List ℕ) → Good r (end_turn r e had p rest)
      end_good None had p rest = given_good answer.Nothing had p rest
      end_good (Some e) had p rest = counting_good r (counted_after r.ask e) p (λ q. given_turn r (answer_to r.ask e) had q rest) (λ q. given_good (answer_to r.ask e) had q rest)

      giving_good : (o : Order) (a : Asking S) (t : Turn S) → AllByRecursion (IsGet r) t.halts → AllByRecursion (IsGet r) (halts_of (carry o) r a ++ t.halts)
      giving_good (order.Get bucket key) a t all = (record { body = body; is_request = is; request_is = refl; text = refl }, all)
      giving_good (order.Put bucket key body' headers) a t all = all
      giving_good (order.Stream bucket key length headers) a t all = all
      giving_good (order.Head bucket key) a t all = all
      giving_good (order.Delete bucket key) a t all = all
      giving_good (order.Copy from_bucket from_key bucket key headers) a t all = all
      giving_good (order.List bucket prefix) a t all = all

      -- a job that it asks is carried out, and answered by its end
      job_good : (store : Store S) (job : Job) → IsAsked buckets g last now bytes job → (p : Serving S) (rest : List ℕ) →
          (let c = store.carries p.store r.time job in Good r (having_asked (asking_now r job p) (end_turn r c.end c.begun (record p { store = c.state }) rest)))
      job_good store job asked p rest =
          let c = store.carries p.store r.time job in
          let t = end_turn r c.end c.begun (record p { store = c.state }) rest in
          let h = end_good c.end c.begun (record p { store = c.state }) rest in
          ((asked, h.0), h.1, asked_good r (asking_now r job p) t h.2)

      plan_good : (store : Store S) (o : Option Order) → order_of r.ask body ≡ o → (p : Serving S) (rest : List ℕ) → Good r (plan_turn store buckets r o p rest)
      plan_good store (Some o) asks p rest =
          let c = store.carries p.store r.time (carry o) in
          let a : Asking S = asking_now r (carry o) p in
          let h = job_good store (carry o) (ordered r body o is asks refl) p rest in
          (h.0, h.1, giving_good o a (having_asked a (end_turn r c.end c.begun (record p { store = c.state }) rest)) h.2)
      plan_good store None asks p rest = answer_good (answer.Reply (reply_without buckets r.who r.ask)) p rest

    module _ (store : Store S) (front rest : List ℕ) (head : Head) (cut_is : cut bytes ≡ ends front rest) (read : g.head_of front ≡ Some head) (asked : Admitted) (allows : IsAllowed buckets.access now head asked) where
      abbrev r : Request
      r = request_of last now head asked

      is_admitted : IsAdmitted buckets g last now bytes r rest
      is_admitted = record { front = front; head = head; cut_is = cut_is; read = read; asked = asked; allowed = allows; is_of = refl }

      judged_good : r.length ≤ length rest → (c : Option Code) → refusal_of buckets r (take r.length rest) ≡ c → (p : Serving S) → Good r (judged_turn store buckets r (take r.length rest) c p (drop r.length rest))
      judged_good whole (Some code) is p = refusal_good r code p (drop r.length rest)
      judged_good whole None is p =
          let body = take r.length rest in
          plan_good r body (record { rest = rest; admitted = is_admitted; whole = whole; body_is = refl; unrefused = is }) store (order_of r.ask body) refl p (drop r.length rest)

      body_good : (p : Serving S) → Good r (body_turn store buckets r p rest)
      unfolding body_turn
      body_good p = by_length (nat_le r.length (length rest)) refl
        where
          by_length : (b : Bool) → nat_le r.length (length rest) ≡ b →
              Good r (if b then whole_turn store buckets r (take r.length rest) p (drop r.length rest) else answer_turn r (answer.Refusal IncompleteBody) p rest)
          by_length true e = judged_good (leb-true r.length (length rest) e) (refusal_of buckets r (take r.length rest)) refl p
          by_length false e = refusal_good r IncompleteBody p rest

      -- ---- uploads

      -- the upload is given up after a first part of what is behind the head
      leaving_good : (u : Upload) → upload_of buckets r ≡ Some u → (code : Code) (came : List ℕ) → IsPrefixOf came rest → (p : Serving S) (left : List ℕ) → Good r (leaving_turn store r u code came p left)
      leaving_good u is code came first p left =
          let c = store.carries p.store r.time (leave u came) in
          let h = left_good r code c.end (record p { store = c.state }) left in
          ((given_up r rest came u is_admitted is first refl, h.0), h.1, asked_good r (asking_now r (leave u came) p) (left_turn r code c.end (record p { store = c.state }) left) h.2)

      abbrev body_here : List ℕ
      body_here = take r.length rest

      is_first : IsPrefixOf body_here rest
      is_first = (drop r.length rest, take-append-drop r.length rest)

      came_good : r.length ≤ length rest → (u : Upload) → upload_of buckets r ≡ Some u → (c : Option Code) → refusal_of buckets r body_here ≡ c → (p : Serving S) → Good r (came_turn store r u c body_here p (drop r.length rest))
      came_good whole u is (Some code) e p = leaving_good u is code body_here is_first p (drop r.length rest)
      came_good whole u is None e p =
          let asks : IsRequest buckets g last now bytes r body_here = record { rest = rest; admitted = is_admitted; whole = whole; body_is = refl; unrefused = e } in job_good r body_here asks store (keep u body_here) (kept r body_here u asks is refl) p (drop r.length rest)

      stream_good : (u : Upload) → upload_of buckets r ≡ Some u → (p : Serving S) → Good r (stream_turn store buckets r u p rest)
      unfolding stream_turn
      stream_good u is p = by_length (nat_le r.length (length rest)) refl
        where
          by_length : (b : Bool) → nat_le r.length (length rest) ≡ b →
              Good r (if b then came_turn store r u (refusal_of buckets r body_here) body_here p (drop r.length rest) else leaving_turn store r u IncompleteBody body_here p rest)
          by_length true e = came_good (leb-true r.length (length rest) e) u is (refusal_of buckets r body_here) refl p
          by_length false e = leaving_good u is IncompleteBody body_here is_first p rest

      at_once_or_not : (o : Option Upload) → upload_of buckets r ≡ o → (p : Serving S) → Good r (coming_turn store buckets r o p rest)
      at_once_or_not (Some u) is p = stream_good u is p
      at_once_or_not None is p = body_good p

      -- behind the interim line
      said_of : (text : List ℕ) → Behind r text → IsSaid buckets g last now bytes (interim r ++ text)
      said_of text (none e) = unanswered r rest is_admitted (ap (λ x. interim r ++ x) e ∙ append-nil (interim r))
      said_of text (refusal code e) = refused r rest code is_admitted (ap (λ x. interim r ++ x) e)
      said_of text (reply body it is e) = replied r body it is (ap (λ x. interim r ++ x) e)
      said_of text (given body it is e) = got r body it is (ap (λ x. interim r ++ x) e)

      -- and so of a get behind it
      got_of : (h : Halt S) → IsGet r h → IsGot buckets g last now bytes (behind_halt (interim r) [] h)
      got_of h k = record { body = k.body; is_request = k.is_request; text = ap (λ x. interim r ++ x) k.text ∙ (append-nil (interim r) ∙ sym (ap interim k.request_is)) }

      abbrev Fine : Turn S → Type 0
      Fine t = AllAsked t × IsSaid buckets g last now bytes t.text × AllByRecursion (IsGot buckets g last now bytes) t.halts

      waiting_fine : (p : Serving S) → Fine (waiting_turn store buckets r p rest)
      waiting_fine p =
          let h = at_once_or_not (upload_of buckets r) refl p in
          let t = coming_turn store buckets r (upload_of buckets r) p rest in
          (h.0, said_of t.text h.1, all_mapped (IsGet r) (IsGot buckets g last now bytes) (behind_halt (interim r) []) got_of t.halts h.2)

      request_fine : (p : Serving S) → Fine (request_turn store buckets r p rest)
      unfolding counting
      request_fine p =
          let size = counted_before buckets.names r.ask r.length in
          elim (nat_lt kept_limit (p.kept + size)) as (λ b. Fine (if b then exceeded (counted size p) else waiting_turn store buckets r (counted size p) rest)) [
            | true ↦ (tt, nothing refl, tt)
            | false ↦ waiting_fine (counted size p)
          ]

module _ {S : Type 0} (store : Store S) (buckets : Buckets) (some : is_empty buckets.access.keys ≡ false) (g : Grammar) (last : Bool) (bytes : List ℕ) (p : Serving S) where
  abbrev now : ℕ
  now = (clocked p).time

  abbrev Is : Turn S → Type 0
  Is t = AllByRecursion (λ (a : Asking S). IsAsked buckets g last now bytes a.job) t.asks × IsSaid buckets g last now bytes t.text × AllByRecursion (IsGot buckets g last now bytes) t.halts

  asked_is : (front rest : List ℕ) (head : Head) → cut bytes ≡ ends front rest → g.head_of front ≡ Some head → (r : Result Admitted S3Fault) → admitted buckets.access now head ≡ r →
      Is (asked_turn store buckets last now head r (clocked p) rest)
  asked_is front rest head cut_is read (Ok asked) e = request_fine buckets g last now bytes store front rest head cut_is read asked (allowed buckets.access now head asked some e) (clocked p)
  asked_is front rest head cut_is read (Err fault) e = (tt, head_refused fault (path_shown head) (is_method head (codes "HEAD")) (admitted_of_code head buckets.access now fault e) refl, tt)

  head_is : (front rest : List ℕ) → cut bytes ≡ ends front rest → (h : Option Head) → g.head_of front ≡ h → Is (head_turn store buckets last now h (clocked p) rest)
  head_is front rest cut_is (Some head) read = asked_is front rest head cut_is read (admitted buckets.access now head) refl
  head_is front rest cut_is None read = (tt, head_refused (fault_of InvalidRequest) [] false refl refl, tt)

  cut_is_so : (c : Cut) → cut bytes ≡ c → Is (cut_turn store buckets g last p c)
  cut_is_so (ends front rest) e = head_is front rest e (g.head_of front) refl
  cut_is_so too_long e = (tt, head_refused (fault_of InvalidRequest) [] false refl refl, tt)
  cut_is_so unfinished e = (tt, nothing refl, tt)

  pub turn_is : Is (turn store buckets g last p bytes)
  turn_is = cut_is_so (cut bytes) refl

  -- what is asked where the connection is cut off is asked too, or gives up earlier what is
  asked_earlier : (first second : Job) → IsLeftOf first second → IsAsked buckets g last now bytes second → IsAsked buckets g last now bytes first
  asked_earlier (leave u came) (keep v all) (same, (more, is)) (kept request body w is_request up e) =
      let w_is : u ≡ w = (let v_is : v ≡ w = cc in same ∙ v_is) in
      let body_is : all ≡ body = cc in
      let rest : List ℕ = is_request.rest in
      let parts : came ++ (more ++ drop request.length rest) ≡ rest =
      sym (append_assoc came more (drop request.length rest)) ∙ (ap (λ x. x ++ drop request.length rest) (is ∙ (body_is ∙ is_request.body_is)) ∙ take-append-drop request.length rest) in
      given_up request rest came w is_request.admitted up (more ++ drop request.length rest, parts) (ap (λ u. leave u came) w_is)
  asked_earlier (leave u came) (leave v all) (same, (more, is)) (given_up request rest full w may up first e) =
      let w_is : u ≡ w = (let v_is : v ≡ w = cc in same ∙ v_is) in
      let full_is : all ≡ full = cc in
      given_up request rest came w may up (more ++ first.0, sym (append_assoc came more first.0) ∙ (ap (λ x. x ++ first.0) (is ∙ full_is) ∙ first.1)) (ap (λ u. leave u came) w_is)
  asked_earlier (leave u came) (keep v all) is (ordered request body o is_request asks e) = cc
  asked_earlier (leave u came) (keep v all) is (given_up request rest full w may up first e) = cc
  asked_earlier (leave u came) (leave v all) is (ordered request body o is_request asks e) = cc
  asked_earlier (leave u came) (leave v all) is (kept request body w is_request up e) = cc
  asked_earlier (leave u came) (carry o) is h = absurd is
  asked_earlier (carry o) second is h = absurd is
  asked_earlier (keep u came) second is h = absurd is

  pub stops_are : AllByRecursion (λ (stop : Stop S). AllByRecursion (λ (a : Asking S). IsAsked buckets g last now bytes a.job) stop.asks) (turn store buckets g last p bytes).stops
  stops_are =
      let t = turn store buckets g last p bytes in
      let Asked : Asking S → Type 0 = λ a. IsAsked buckets g last now bytes a.job in
      all_weaker (λ (stop : Stop S). Within t.text t.asks stop) (λ (stop : Stop S). AllByRecursion Asked stop.asks) (λ stop h. first_all Asked (λ a b left. asked_earlier a.job b.job left.2) stop.asks t.asks h.1 turn_is.0) t.stops
      (turn_within store buckets g last p bytes)
