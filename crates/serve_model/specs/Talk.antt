-- What is written to a connection: a function of its bytes, over a store, the times that a clock still gives, and what was counted.
use Rattle.std.specs.Prelude.{ℕ, zero, suc, ◌+◌, Bool, true, false, ◌||◌, ◌&&◌, ◌==◌, nat_le, nat_lt, min, max, List, [], ◌∷◌, ◌++◌, map, length, take, drop, codes, Option, Some, None, Result, Ok, Err, if◌then◌else◌}
use Rattle.flow_model.specs.declared.order.Order.{Order}
use Rattle.flow_model.specs.declared.order.Order.TheVariants as order
use Rattle.flow_model.specs.declared.flow.FlowEnd.{FlowEnd}
use Rattle.http_model.specs.declared.head.Head.{Head}
use Rattle.http_model.specs.Cut.{Cut, ends, too_long, unfinished, cut}
use Rattle.http_model.specs.Heads.{IsReading}
use Rattle.s3_model.specs.declared.ask.Ask.{Ask}
use Rattle.s3_model.specs.declared.ask.Ask.TheVariants as ask
use Rattle.s3_model.specs.declared.fault.Code.{Code}
use Rattle.s3_model.specs.declared.fault.Code.TheVariants.{InvalidRequest, IncompleteBody}
use Rattle.s3_model.specs.declared.fault.S3Fault.{S3Fault}
use Rattle.s3_model.specs.declared.reply.Reply.{Reply}
use Rattle.s3_model.specs.declared.reply.Reply.TheVariants.{Refused}
use Rattle.s3_model.specs.Answer.{found_text, answer_text}
use Rattle.s3_model.specs.Asks.{is_method}
use Rattle.s3_model.specs.Connections.{closes as closes_after_head, expects}
use Rattle.s3_model.specs.Faults.{fault_of, closes_after}
use Rattle.s3_model.specs.Headers.{length_of}
use Rattle.s3_model.specs.Targets.{path_of, is_bad_target}
use Rattle.serve_model.specs.declared.admitted.Admitted.{Admitted}
use Rattle.serve_model.specs.declared.answer.Answer.{Answer}
use Rattle.serve_model.specs.declared.answer.Answer.TheVariants as answer
use Rattle.serve_model.specs.declared.buckets.Buckets.{Buckets}
use Rattle.serve_model.specs.declared.request.Request.{Request}
use Rattle.serve_model.specs.Stores.{Upload, Job, carry, keep, leave, Given, Store, Asking}
use Rattle.serve_model.specs.Admitting.{admitted}
use Rattle.serve_model.specs.Judging.{refusal_of, counted_before, upload_of, order_of, reply_without, answer_to, counted_after}

-- a reader of heads: what the bytes of a head say, if they say anything. There is one, and it is the only one.
pub record Grammar : Type 0 where
  pub head_of : List ℕ → Option Head
  pub reads : (front : List ℕ) → IsReading front (head_of front)

-- the state of a store, the times that the clock is still to give, of which the last repeats, the time of the last request, and how many bytes were put or copied
pub record Serving (S : Type 0) : Type 0 where
  pub store : S
  pub times : List ℕ
  pub time : ℕ
  pub kept : ℕ

-- how many bytes may be put or copied
abbrev pub kept_limit : ℕ
kept_limit = 536870912

-- the greatest time of a request, in milliseconds since 1970; a later one counts as this one
abbrev pub time_limit : ℕ
time_limit = 253402000000000

-- how many requests of one connection are answered
abbrev pub request_limit : ℕ
request_limit = 1000

-- the first of the times that the clock gives, 0 where there is none
abbrev pub first_of : List ℕ → ℕ
first_of [] = 0
first_of (t ∷ ts) = t

-- the times that the clock gives after the first; the last one stays
abbrev pub later_of : List ℕ → List ℕ
later_of [] = []
later_of (t ∷ []) = t ∷ []
later_of (t ∷ u ∷ us) = u ∷ us

-- the time of a request for which the clock gave this, where this was that of the last one: no time is before the last one
abbrev pub time_from : ℕ → ℕ → ℕ
time_from last given = max last (min given time_limit)

-- how the connection goes on: with these bytes, or not; or serving ends, since too many bytes were put or copied
pub data Next : Type 0 where
  goes : List ℕ → Next
  closes : Next
  exceeds : Next

-- the connection goes on with these bytes unless it closes
abbrev pub unless_closed : Bool → List ℕ → Next
unless_closed true rest = closes
unless_closed false rest = goes rest

-- a place where a connection may be cut off: the text of which a first part is written then, the jobs that the store was asked before, what is served then, and whether an upload is on its way there, which the store has to give up
pub record Stop (S : Type 0) : Type 0 where
  pub text : List ℕ
  pub asks : List (Asking S)
  pub serving : Serving S
  pub uploads : Bool

-- a get in the middle of which serving may be given up: what was written and which jobs the store was asked before it, the request, and what is asked
pub record Halt (S : Type 0) : Type 0 where
  pub text : List ℕ
  pub asks : List (Asking S)
  pub request : Request
  pub asking : Asking S

-- what comes of one request: what is written, where it may be cut off, in which gets serving may be given up, what the store is asked, what is served from then on, and how the connection goes on
pub record Turn (S : Type 0) : Type 0 where
  pub text : List ℕ
  pub stops : List (Stop S)
  pub halts : List (Halt S)
  pub asks : List (Asking S)
  pub serving : Serving S
  pub next : Next

-- the path that a refusal of a head shows; none where the target is no path
abbrev pub path_shown : Head → List ℕ
path_shown head = if is_bad_target head.target then [] else path_of head.target

-- what is known of a request once its head is admitted
abbrev pub request_of : Bool → ℕ → Head → Admitted → Request
request_of last now head a =
    record {
      ask = a.ask;
      who = a.who;
      digest = a.digest;
      path = path_of head.target;
      is_head = is_method head (codes "HEAD");
      length = length_of head.headers;
      waits = expects head;
      closes = last || closes_after_head head;
      time = now;
    }

-- the interim line, where it is waited for and a body of a byte at least was announced
abbrev pub interim : Request → List ℕ
interim r = if r.waits && nat_lt 0 r.length then codes "HTTP/1.1 100 Continue\r\n\r\n" else []

-- the connection closes after this refusal
abbrev pub closes_with : Request → Code → Bool
closes_with r code = r.closes || closes_after code

-- what is replied to a request that is refused
abbrev pub refusal : Request → Code → Reply
refusal r code = Refused (fault_of code) r.path r.is_head

-- the bytes with which a request is answered
abbrev pub text_of : Request → Answer → List ℕ
text_of r (answer.Reply reply) = answer_text (Some r.ask) reply r.time r.closes
text_of r (answer.Refusal code) = answer_text (Some r.ask) (refusal r code) r.time (closes_with r code)
text_of r answer.Nothing = []

-- the answer to a get that found an object, of which these bytes are given; to any other ask nothing
abbrev pub get_text : Ask → Given → ℕ → Bool → List ℕ
get_text (ask.Get bucket key range) g now close = found_text range g.version g.meta g.bytes now close
get_text _ g now close = []

-- a get without an answer may have got a first part of one: the head, and those bytes of its range that had come
abbrev pub begun_text : Request → Option Given → List ℕ
begun_text r None = []
begun_text r (Some g) = get_text r.ask g r.time r.closes

-- the bytes with which a request is answered, or those that it got without an answer
abbrev pub given_text : Request → Answer → Option Given → List ℕ
given_text r answer.Nothing begun = begun_text r begun
given_text r a begun = text_of r a

-- whether the connection closes after them; without an answer it does
abbrev pub closes_of : Request → Answer → Bool
closes_of r (answer.Reply reply) = r.closes
closes_of r (answer.Refusal code) = closes_with r code
closes_of r answer.Nothing = true

-- the bytes with which a head is refused, at a time in milliseconds
abbrev pub head_refusal : S3Fault → List ℕ → Bool → ℕ → List ℕ
head_refusal fault path is_head now = answer_text None (Refused fault path is_head) now true

-- the same, where the head couldn't be read
abbrev pub bad_head : ℕ → List ℕ
bad_head now = head_refusal (fault_of InvalidRequest) [] false now

-- the numbers below this one, the greatest first
abbrev pub below : ℕ → List ℕ
below zero = []
below (suc n) = n ∷ below n

module _ {S : Type 0} where
  -- the clock was asked
  abbrev pub clocked : Serving S → Serving S
  clocked p = record p { times = later_of p.times; time = time_from p.time (first_of p.times) }

  -- so many bytes more were put or copied
  abbrev pub counted : ℕ → Serving S → Serving S
  counted size p = record p { kept = p.kept + size }

  -- a place where this text is written, and the store wasn't asked before
  abbrev pub stop : List ℕ → Serving S → Stop S
  stop text p = record { text = text; asks = []; serving = p; uploads = false }

  -- a place before which this text was written and these jobs were asked too
  abbrev pub behind : List ℕ → List (Asking S) → Stop S → Stop S
  behind text asks s = record { text = text ++ s.text; asks = asks ++ s.asks; serving = s.serving; uploads = s.uploads }

  -- a get before which this text was written and these jobs were asked too
  abbrev pub behind_halt : List ℕ → List (Asking S) → Halt S → Halt S
  behind_halt text asks h = record h { text = text ++ h.text; asks = asks ++ h.asks }

  -- it may be cut off here already, with nothing written
  abbrev pub passing : Serving S → Turn S → Turn S
  passing p t = record t { stops = stop [] p ∷ t.stops }

  -- the store was asked this before
  abbrev pub having_asked : Asking S → Turn S → Turn S
  having_asked a t = record t { stops = map (behind [] (a ∷ [])) t.stops; halts = map (behind_halt [] (a ∷ [])) t.halts; asks = a ∷ t.asks }

  -- something was written before
  abbrev pub after : List ℕ → Turn S → Turn S
  after text t = record t { text = text ++ t.text; stops = map (behind text []) t.stops; halts = map (behind_halt text []) t.halts }

  -- something is written, in which it may be cut off, and then the connection closes or goes on with the rest
  abbrev pub said : List ℕ → Bool → Serving S → List ℕ → Turn S
  said text close p rest = record { text = text; stops = stop text p ∷ []; halts = []; asks = []; serving = p; next = unless_closed close rest }

  -- a request is answered
  abbrev pub answer_turn : Request → Answer → Serving S → List ℕ → Turn S
  answer_turn r a p rest = said (text_of r a) (closes_of r a) p rest

  -- too many bytes were put or copied
  abbrev pub exceeded : Serving S → Turn S
  exceeded p = record { text = []; stops = stop [] p ∷ []; halts = []; asks = []; serving = p; next = exceeds }

  -- so many bytes more are put or copied, and if they aren't too many, it goes on so
  unfoldable pub counting : ℕ → Serving S → (Serving S → Turn S) → Turn S
  counting size p go = if nat_lt kept_limit (p.kept + size) then exceeded (counted size p) else go (counted size p)

  -- a request is answered, or it isn't: then the connection closes, and a get may have got a first part of an answer
  abbrev pub given_turn : Request → Answer → Option Given → Serving S → List ℕ → Turn S
  given_turn r a begun p rest = said (given_text r a begun) (closes_of r a) p rest

  -- the store has carried out what a request asks, which ended so; without an end there is no answer
  abbrev pub end_turn : Request → Option FlowEnd → Option Given → Serving S → List ℕ → Turn S
  end_turn r None begun p rest = given_turn r answer.Nothing begun p rest
  end_turn r (Some end) begun p rest = counting (counted_after r.ask end) p (λ q. given_turn r (answer_to r.ask end) begun q rest)

  -- the get, in the middle of which serving may be given up, if the job is one
  abbrev pub halts_of : Job → Request → Asking S → List (Halt S)
  halts_of (carry (order.Get bucket key)) r a = record { text = []; asks = []; request = r; asking = a } ∷ []
  halts_of job r a = []

  -- what a get is given is written while the store is still at work: serving may be given up in the middle of it
  abbrev pub giving : Request → Asking S → Turn S → Turn S
  giving r a t = record t { halts = halts_of a.job r a ++ t.halts }

  -- a job is asked now
  abbrev pub asking_now : Request → Job → Serving S → Asking S
  asking_now r job p = record { state = p.store; time = r.time; job = job }

  -- the store carries out an order, unless it is cut off before
  abbrev pub order_turn : Store S → Request → Order → Serving S → List ℕ → Turn S
  order_turn store r o p rest =
      let a = asking_now r (carry o) p in
      let c = store.carries p.store r.time (carry o) in
      passing p (giving r a (having_asked a (end_turn r c.end c.begun (record p { store = c.state }) rest)))

  -- ---- uploads whose bytes come block by block

  -- an upload was given up, which ended so, and is refused; without an end there is no answer
  abbrev pub left_turn : Request → Code → Option FlowEnd → Serving S → List ℕ → Turn S
  left_turn r code None p rest = answer_turn r answer.Nothing p rest
  left_turn r code (Some end) p rest = answer_turn r (answer.Refusal code) p rest

  module _ (store : Store S) (r : Request) (u : Upload) where
    -- the store gives the upload up after these bytes, and it is refused
    abbrev pub leaving_turn : Code → List ℕ → Serving S → List ℕ → Turn S
    leaving_turn code came p rest =
        let c = store.carries p.store r.time (leave u came) in
        having_asked (asking_now r (leave u came) p) (left_turn r code c.end (record p { store = c.state }) rest)

    -- the store keeps the upload
    abbrev pub keeping_turn : List ℕ → Serving S → List ℕ → Turn S
    keeping_turn came p rest =
        let c = store.carries p.store r.time (keep u came) in
        having_asked (asking_now r (keep u came) p) (end_turn r c.end c.begun (record p { store = c.state }) rest)

    -- all bytes came, which are refused or not
    abbrev pub came_turn : Option Code → List ℕ → Serving S → List ℕ → Turn S
    came_turn (Some code) came p rest = leaving_turn code came p rest
    came_turn None came p rest = keeping_turn came p rest

    -- a place where it may be cut off as an upload begins
    abbrev pub uploading : Serving S → Stop S
    uploading p = record { text = []; asks = []; serving = p; uploads = true }

    -- a place where it may be cut off while the bytes come, after so many of them: then the store gives the upload up
    abbrev pub cut_after : List ℕ → Serving S → ℕ → Stop S
    cut_after came p n =
        let job = leave u (take n came) in
        record { text = []; asks = asking_now r job p ∷ []; serving = record p { store = (store.carries p.store r.time job).state }; uploads = true }

    -- it may be cut off as the upload begins, and after each number of these bytes that came, but not once all have come
    abbrev pub while_coming : List ℕ → Serving S → Turn S → Turn S
    while_coming came p t = record t { stops = uploading p ∷ map (cut_after came p) (below (min (suc (length came)) u.length)) ++ t.stops }

  module _ (store : Store S) (buckets : Buckets) where
    -- nothing refuses the request before the store is asked
    abbrev pub plan_turn : Request → Option Order → Serving S → List ℕ → Turn S
    plan_turn r (Some o) p rest = order_turn store r o p rest
    plan_turn r None p rest = answer_turn r (answer.Reply (reply_without buckets r.who r.ask)) p rest

    -- a request whose body was read is refused, or isn't
    abbrev pub judged_turn : Request → List ℕ → Option Code → Serving S → List ℕ → Turn S
    judged_turn r body (Some code) p rest = answer_turn r (answer.Refusal code) p rest
    judged_turn r body None p rest = plan_turn r (order_of r.ask body) p rest

    -- a body was read
    abbrev pub whole_turn : Request → List ℕ → Serving S → List ℕ → Turn S
    whole_turn r body p rest = judged_turn r body (refusal_of buckets r body) p rest

    -- a body is to be read, unless the input ends before it does
    unfoldable pub body_turn : Request → Serving S → List ℕ → Turn S
    body_turn r p rest = passing p (if nat_le r.length (length rest) then whole_turn r (take r.length rest) p (drop r.length rest) else answer_turn r (answer.Refusal IncompleteBody) p rest)

    -- the bytes of an upload come, and are judged once all did; or the input ends before
    abbrev pub received_turn : Request → Upload → List ℕ → Serving S → List ℕ → Turn S
    received_turn r u came p rest = if nat_le r.length (length rest) then came_turn store r u (refusal_of buckets r came) came p (drop r.length rest) else leaving_turn store r u IncompleteBody came p rest

    -- an upload begins, unless it is cut off before, and its bytes are to come
    unfoldable pub stream_turn : Request → Upload → Serving S → List ℕ → Turn S
    stream_turn r u p rest = let came = take r.length rest in passing p (while_coming store r u came p (received_turn r u came p rest))

    -- a body is to be read block by block, or at once
    abbrev pub coming_turn : Request → Option Upload → Serving S → List ℕ → Turn S
    coming_turn r (Some u) p rest = stream_turn r u p rest
    coming_turn r None p rest = body_turn r p rest

    -- the interim line is written where it is to be, before the body is read
    abbrev pub waiting_turn : Request → Serving S → List ℕ → Turn S
    waiting_turn r p rest = after (interim r) (coming_turn r (upload_of buckets r) p rest)

    -- a request was admitted
    abbrev pub request_turn : Request → Serving S → List ℕ → Turn S
    request_turn r p rest = counting (counted_before buckets.names r.ask r.length) p (λ q. waiting_turn r q rest)

    -- what a head asks was admitted, or it is refused
    abbrev pub asked_turn : Bool → ℕ → Head → Result Admitted S3Fault → Serving S → List ℕ → Turn S
    asked_turn last now head (Ok a) p rest = request_turn (request_of last now head a) p rest
    asked_turn last now head (Err fault) p rest = said (head_refusal fault (path_shown head) (is_method head (codes "HEAD")) now) true p rest

    -- a head was read, or is outside the grammar
    abbrev pub head_turn : Bool → ℕ → Option Head → Serving S → List ℕ → Turn S
    head_turn last now (Some head) p rest = asked_turn last now head (admitted buckets.access now head) p rest
    head_turn last now None p rest = said (bad_head now) true p rest

    module _ (g : Grammar) where
      -- what the bytes begin with; the clock is asked once the head has its end
      abbrev pub cut_turn : Bool → Serving S → Cut → Turn S
      cut_turn last p (ends front rest) = head_turn last (clocked p).time (g.head_of front) (clocked p) rest
      cut_turn last p too_long = said (bad_head (clocked p).time) true (clocked p) []
      cut_turn last p unfinished = said [] true p []

      -- what comes of the first request in these bytes; `last` says that the connection closes after it
      abbrev pub turn : Bool → Serving S → List ℕ → Turn S
      turn last p bytes = passing p (cut_turn last p (cut bytes))

-- what is written to a connection, where it may be cut off, in which gets serving may be given up, what the store is asked, one job after the other, what is served then, and whether serving ends with it
pub record Talk (S : Type 0) : Type 0 where
  pub text : List ℕ
  pub stops : List (Stop S)
  pub halts : List (Halt S)
  pub asks : List (Asking S)
  pub serving : Serving S
  pub is_over : Bool

module _ {S : Type 0} where
  -- a turn, and then what comes of the bytes that are left
  abbrev pub go_on : (Serving S → List ℕ → Talk S) → Turn S → Next → Talk S
  go_on talk t (goes rest) =
      let u = talk t.serving rest in
      record {
        text = t.text ++ u.text;
        stops = t.stops ++ map (behind t.text t.asks) u.stops;
        halts = t.halts ++ map (behind_halt t.text t.asks) u.halts;
        asks = t.asks ++ u.asks;
        serving = u.serving;
        is_over = u.is_over;
      }
  go_on talk t closes = record { text = t.text; stops = t.stops; halts = t.halts; asks = t.asks; serving = t.serving; is_over = false }
  go_on talk t exceeds = record { text = t.text; stops = t.stops; halts = t.halts; asks = t.asks; serving = t.serving; is_over = true }

  -- a connection with these bytes, on which so many requests are answered at most
  unfoldable pub talk : Store S → Buckets → Grammar → ℕ → Serving S → List ℕ → Talk S
  talk store buckets g zero p bytes = record { text = []; stops = []; halts = []; asks = []; serving = p; is_over = false }
  talk store buckets g (suc more) p bytes = let t = turn store buckets g (more == 0) p bytes in go_on (talk store buckets g more) t t.next
