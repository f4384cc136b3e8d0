-- What a connection asks: a job for each of its requests at most, at times that the clock counts.
use Rattle.std.specs.Prelude.{◌≡◌, ◌≤◌, ◌+◌, ◌==◌, nat_le, nat_lt, ℕ, zero, suc, Bool, true, false, if◌then◌else◌, Option, Some, None, Result, Ok, Err, List, [], ◌∷◌, ◌++◌, length, take, drop, refl}
use Rattle.std.specs.List.{AllByRecursion}
use Rattle.std.proofs.Common.{sym, subst, arith, length-append}
use Rattle.crdt_core.proofs.Each.{all_append}
use Rattle.flow_model.specs.declared.flow.FlowEnd.{FlowEnd}
use Rattle.flow_model.specs.declared.order.Order.{Order}
use Rattle.http_model.specs.Cut.{Cut, ends, too_long, unfinished, cut}
use Rattle.http_model.specs.declared.head.Head.{Head}
use Rattle.s3_model.specs.declared.fault.Code.{Code}
use Rattle.s3_model.specs.declared.fault.Code.TheVariants.{IncompleteBody}
use Rattle.s3_model.specs.declared.fault.S3Fault.{S3Fault}
use Rattle.serve_model.specs.declared.admitted.Admitted.{Admitted}
use Rattle.serve_model.specs.declared.answer.Answer.TheVariants as answer
use Rattle.serve_model.specs.declared.buckets.Buckets.{Buckets}
use Rattle.serve_model.specs.declared.request.Request.{Request}
use Rattle.serve_model.specs.declared.upload.Upload.{Upload}
use Rattle.serve_model.specs.Admitting.{admitted}
use Rattle.serve_model.specs.Connections.{stated}
use Rattle.serve_model.specs.Judging.{refusal_of, counted_before, upload_of, order_of, answer_to, counted_after}
use Rattle.serve_model.specs.Stores.{Job, carry, keep, leave, Given, Store, Asking}
use Rattle.serve_model.specs.Talk.{Grammar, Serving, Turn, Talk, Next, goes, closes, exceeds, kept_limit, time_limit, request_limit, clocked, counted, passing, having_asked, after, interim, answer_turn, exceeded, counting, given_turn, end_turn, asking_now, order_turn, left_turn, leaving_turn, keeping_turn, came_turn, plan_turn, judged_turn, whole_turn, body_turn, stream_turn, coming_turn, waiting_turn, request_turn, request_of, asked_turn, head_turn, cut_turn, turn, go_on, talk}
use Rattle.serve_limits.specs.Asked.{AreAskedFrom, AsksAskable}

abbrev IsEarly : {S : Type 0} → Asking S → Type 0
IsEarly a = a.time ≤ time_limit

module _ {S : Type 0} (store : Store S) where
  -- a turn asks so many jobs at most, and is at no time past the greatest one
  record Asks (n : ℕ) (p : Serving S) (t : Turn S) : Type 0 where
    few : length t.asks ≤ n
    early : AllByRecursion IsEarly t.asks
    led : AreAskedFrom store p.store t.asks t.serving.store
    time : t.serving.time ≤ time_limit

  -- one that asks nothing, and leaves store and time
  asks_none : (n : ℕ) (p : Serving S) (t : Turn S) → t.asks ≡ [] → t.serving.store ≡ p.store → t.serving.time ≡ p.time → p.time ≤ time_limit → Asks n p t
  asks_none n p t none same time low = record {
    few = subst (λ (as' : List (Asking S)). length as' ≤ n) (sym none) (omega arith);
    early = subst (λ (as' : List (Asking S)). AllByRecursion IsEarly as') (sym none) tt;
    led = subst (λ (as' : List (Asking S)). AreAskedFrom store p.store as' t.serving.store) (sym none) same;
    time = omega (arith, time, low);
  }

  passes : (n : ℕ) (p q : Serving S) (t : Turn S) → Asks n p t → Asks n p (passing q t)
  passes n p q t a = record { few = a.few; early = a.early; led = a.led; time = a.time }

  behind_text : (n : ℕ) (p : Serving S) (text : List ℕ) (t : Turn S) → Asks n p t → Asks n p (after text t)
  behind_text n p text t a = record { few = a.few; early = a.early; led = a.led; time = a.time }

  -- a job is asked, and the turn goes on from the state to which it leads
  asked_first : (p : Serving S) (r : Request) (job : Job) (t : Turn S) → r.time ≤ time_limit → Asks 0 (record p { store = (store.carries p.store r.time job).state }) t → Asks 1 p (having_asked (asking_now r job p) t)
  asked_first p r job t low a = let few = a.few in record { few = omega (arith, few); early = (low, a.early); led = (refl, a.led); time = a.time }

  by_test : (n : ℕ) (p : Serving S) (b : Bool) (t u : Turn S) → Asks n p t → Asks n p u → Asks n p (if b then t else u)
  by_test n p true t u a b = a
  by_test n p false t u a b = b

  -- what is counted changes neither store nor time
  counts : (n size : ℕ) (p : Serving S) (go : Serving S → Turn S) → p.time ≤ time_limit → ((q : Serving S) → q.store ≡ p.store → q.time ≡ p.time → Asks n p (go q)) → Asks n p (counting size p go)
  unfolding counting
  counts n size p go low h = by_test n p (nat_lt kept_limit (p.kept + size)) (exceeded (counted size p)) (go (counted size p)) (asks_none n p (exceeded (counted size p)) refl refl refl low) (h (counted size p) refl refl)

  ended : (p : Serving S) (r : Request) (end : Option FlowEnd) (begun : Option Given) (rest : List ℕ) → p.time ≤ time_limit → Asks 0 p (end_turn r end begun p rest)
  ended p r None begun rest low = asks_none 0 p (given_turn r answer.Nothing begun p rest) refl refl refl low
  ended p r (Some end) begun rest low =
      counts 0 (counted_after r.ask end) p (λ q. given_turn r (answer_to r.ask end) begun q rest) low
      (λ q same time. asks_none 0 p (given_turn r (answer_to r.ask end) begun q rest) refl same time low)

  left_so : (p : Serving S) (r : Request) (code : Code) (end : Option FlowEnd) (rest : List ℕ) → p.time ≤ time_limit → Asks 0 p (left_turn r code end p rest)
  left_so p r code None rest low = asks_none 0 p (left_turn r code None p rest) refl refl refl low
  left_so p r code (Some end) rest low = asks_none 0 p (left_turn r code (Some end) p rest) refl refl refl low

  ordered : (p : Serving S) (r : Request) (o : Order) (rest : List ℕ) → r.time ≤ time_limit → p.time ≤ time_limit → Asks 1 p (order_turn store r o p rest)
  ordered p r o rest now low =
      let c = store.carries p.store r.time (carry o) in
      let a = asked_first p r (carry o) (end_turn r c.end c.begun (record p { store = c.state }) rest) now (ended (record p { store = c.state }) r c.end c.begun rest low) in
      record { few = a.few; early = a.early; led = a.led; time = a.time }

  module _ (p : Serving S) (r : Request) (u : Upload) (rest : List ℕ) (now : r.time ≤ time_limit) (low : p.time ≤ time_limit) where
    left : (code : Code) (came : List ℕ) → Asks 1 p (leaving_turn store r u code came p rest)
    left code came = let c = store.carries p.store r.time (leave u came) in asked_first p r (leave u came) (left_turn r code c.end (record p { store = c.state }) rest) now (left_so (record p { store = c.state }) r code c.end rest low)

    kept : (came : List ℕ) → Asks 1 p (keeping_turn store r u came p rest)
    kept came = let c = store.carries p.store r.time (keep u came) in asked_first p r (keep u came) (end_turn r c.end c.begun (record p { store = c.state }) rest) now (ended (record p { store = c.state }) r c.end c.begun rest low)

    came_so : (o : Option Code) (came : List ℕ) → Asks 1 p (came_turn store r u o came p rest)
    came_so (Some code) came = left code came
    came_so None came = kept came

  module _ (buckets : Buckets) where
    planned : (p : Serving S) (r : Request) (o : Option Order) (rest : List ℕ) → r.time ≤ time_limit → p.time ≤ time_limit → Asks 1 p (plan_turn store buckets r o p rest)
    planned p r (Some o) rest now low = ordered p r o rest now low
    planned p r None rest now low = asks_none 1 p (plan_turn store buckets r None p rest) refl refl refl low

    judged : (p : Serving S) (r : Request) (body : List ℕ) (o : Option Code) (rest : List ℕ) → r.time ≤ time_limit → p.time ≤ time_limit → Asks 1 p (judged_turn store buckets r body o p rest)
    judged p r body (Some code) rest now low = asks_none 1 p (judged_turn store buckets r body (Some code) p rest) refl refl refl low
    judged p r body None rest now low = planned p r (order_of r.ask body) rest now low

    bodied : (p : Serving S) (r : Request) (rest : List ℕ) → r.time ≤ time_limit → p.time ≤ time_limit → Asks 1 p (body_turn store buckets r p rest)
    unfolding body_turn
    bodied p r rest now low =
        let whole = whole_turn store buckets r (take r.length rest) p (drop r.length rest) in
        let part = answer_turn r (answer.Refusal IncompleteBody) p rest in
        passes 1 p p (if nat_le r.length (length rest) then whole else part)
        (by_test 1 p (nat_le r.length (length rest)) whole part (judged p r (take r.length rest) (refusal_of buckets r (take r.length rest)) (drop r.length rest) now low) (asks_none 1 p part refl refl refl low))

    streamed : (p : Serving S) (r : Request) (u : Upload) (rest : List ℕ) → r.time ≤ time_limit → p.time ≤ time_limit → Asks 1 p (stream_turn store buckets r u p rest)
    unfolding stream_turn
    streamed p r u rest now low =
        let came = take r.length rest in
        let whole = came_turn store r u (refusal_of buckets r came) came p (drop r.length rest) in
        let part = leaving_turn store r u IncompleteBody came p rest in
        let a = by_test 1 p (nat_le r.length (length rest)) whole part (came_so p r u (drop r.length rest) now low (refusal_of buckets r came) came) (left p r u rest now low IncompleteBody came) in
        record { few = a.few; early = a.early; led = a.led; time = a.time }

    coming : (p : Serving S) (r : Request) (o : Option Upload) (rest : List ℕ) → r.time ≤ time_limit → p.time ≤ time_limit → Asks 1 p (coming_turn store buckets r o p rest)
    coming p r (Some u) rest now low = streamed p r u rest now low
    coming p r None rest now low = bodied p r rest now low

    -- the same turn of what is served with other counts
    same_store : (n : ℕ) (p q : Serving S) (t : Turn S) → q.store ≡ p.store → Asks n q t → Asks n p t
    same_store n p q t same a = record { few = a.few; early = a.early; led = subst (λ (s : S). AreAskedFrom store s t.asks t.serving.store) same a.led; time = a.time }

    requested : (p : Serving S) (r : Request) (rest : List ℕ) → r.time ≤ time_limit → p.time ≤ time_limit → Asks 1 p (request_turn store buckets r p rest)
    requested p r rest now low =
        counts 1 (counted_before buckets.names r.ask r.length) p (λ q. waiting_turn store buckets r q rest) low
        (λ q same time. same_store 1 p q (waiting_turn store buckets r q rest) same
        (behind_text 1 q (interim r) (coming_turn store buckets r (upload_of buckets r) q rest) (coming q r (upload_of buckets r) rest now (omega (arith, time, low)))))

    asked_so : (p : Serving S) (last : Bool) (now : ℕ) (head : Head) (o : Result Admitted S3Fault) (rest : List ℕ) → now ≤ time_limit → p.time ≤ time_limit → Asks 1 p (asked_turn store buckets last now head o p rest)
    asked_so p last now head (Ok a) rest early low = requested p (request_of last now head a) rest early low
    asked_so p last now head (Err fault) rest early low = asks_none 1 p (asked_turn store buckets last now head (Err fault) p rest) refl refl refl low

    headed : (p : Serving S) (last : Bool) (now : ℕ) (o : Option Head) (rest : List ℕ) → now ≤ time_limit → p.time ≤ time_limit → Asks 1 p (head_turn store buckets last now o p rest)
    headed p last now (Some head) rest early low = asked_so p last now head (admitted buckets.access now head) rest early low
    headed p last now None rest early low = asks_none 1 p (head_turn store buckets last now None p rest) refl refl refl low

    module _ (g : Grammar) where
      clocked_early : (p : Serving S) → p.time ≤ time_limit → (clocked p).time ≤ time_limit
      clocked_early p low = omega (arith, low)

      cut_so : (p : Serving S) (last : Bool) (c : Cut) → p.time ≤ time_limit → Asks 1 p (cut_turn store buckets g last p c)
      cut_so p last (ends front rest) low = same_store 1 p (clocked p) (cut_turn store buckets g last p (ends front rest)) refl (headed (clocked p) last (clocked p).time (g.head_of front) rest (clocked_early p low) (clocked_early p low))
      cut_so p last too_long low = same_store 1 p (clocked p) (cut_turn store buckets g last p too_long) refl (asks_none 1 (clocked p) (cut_turn store buckets g last p too_long) refl refl refl (clocked_early p low))
      cut_so p last unfinished low = asks_none 1 p (cut_turn store buckets g last p unfinished) refl refl refl low

      turned : (p : Serving S) (last : Bool) (bytes : List ℕ) → p.time ≤ time_limit → Asks 1 p (turn store buckets g last p bytes)
      turned p last bytes low = passes 1 p p (cut_turn store buckets g last p (cut bytes)) (cut_so p last (cut bytes) low)

      -- ---- connections

      record Talks (n : ℕ) (p : Serving S) (t : Talk S) : Type 0 where
        few : length t.asks ≤ n
        early : AllByRecursion IsEarly t.asks
        led : AreAskedFrom store p.store t.asks t.serving.store
        time : t.serving.time ≤ time_limit

      led_both : (s m e : S) (xs ys : List (Asking S)) → AreAskedFrom store s xs m → AreAskedFrom store m ys e → AreAskedFrom store s (xs ++ ys) e
      led_both s m e [] ys a b = subst (λ (x : S). AreAskedFrom store x ys e) a b
      led_both s m e (x ∷ xs) ys a b = (a.0, led_both (store.carries s x.time x.job).state m e xs ys a.1 b)

      talk_on : (n : ℕ) (p : Serving S) (more : Serving S → List ℕ → Talk S) → ((q : Serving S) (bytes : List ℕ) → q.time ≤ time_limit → Talks n q (more q bytes)) → (t : Turn S) (next : Next) → Asks 1 p t → Talks (suc n) p (go_on more t next)
      talk_on n p more h t (goes rest) a =
          let u = h t.serving rest a.time in
          let one = a.few in
          let others = u.few in
          let both = length-append t.asks (more t.serving rest).asks in
          record {
            few = omega (arith, one, others, both);
            early = all_append IsEarly t.asks (more t.serving rest).asks a.early u.early;
            led = led_both p.store t.serving.store (more t.serving rest).serving.store t.asks (more t.serving rest).asks a.led u.led;
            time = u.time;
          }
      talk_on n p more h t closes a = let one = a.few in record { few = omega (arith, one); early = a.early; led = a.led; time = a.time }
      talk_on n p more h t exceeds a = let one = a.few in record { few = omega (arith, one); early = a.early; led = a.led; time = a.time }

      talks : (n : ℕ) (p : Serving S) (bytes : List ℕ) → p.time ≤ time_limit → Talks n p (talk store buckets g n p bytes)
      unfolding talk
      talks zero p bytes low = record { few = omega arith; early = tt; led = refl; time = low }
      talks (suc n) p bytes low = let t = turn store buckets g (n == 0) p bytes in talk_on n p (talk store buckets g n) (talks n) t t.next (turned p (n == 0) bytes low)

      pub connection_asks : (p : Serving S) (bytes : List ℕ) → p.time ≤ time_limit → AsksAskable store p (stated store buckets g p bytes)
      connection_asks p bytes low = let t = talks request_limit p bytes low in record { few = t.few; early = t.early; led = t.led; time = t.time }
