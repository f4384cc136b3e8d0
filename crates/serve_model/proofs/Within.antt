-- The stops of a connection lie within it.
use Rattle.std.proofs.Common.{ℕ, zero, suc, ◌+◌, ◌==◌, min, Bool, true, false, nat_le, nat_lt, if◌then◌else◌, Option, Some, None, Result, Ok, Err, List, [], ◌∷◌, ◌++◌, map, length, take, drop, take-append-drop, append_assoc, codes, refl, sym, ap, ◌∙◌, subst}
use Rattle.std.specs.List.{AllByRecursion}
use Rattle.crdt_core.proofs.Each.{all_append, all_weaker}
use Rattle.flow_model.specs.declared.order.Order.{Order}
use Rattle.flow_model.specs.declared.flow.FlowEnd.{FlowEnd}
use Rattle.http_model.specs.declared.head.Head.{Head}
use Rattle.http_model.specs.Cut.{Cut, ends, too_long, unfinished, cut}
use Rattle.s3_model.specs.declared.fault.Code.{Code}
use Rattle.s3_model.specs.declared.fault.S3Fault.{S3Fault}
use Rattle.s3_model.specs.declared.fault.Code.TheVariants.{IncompleteBody}
use Rattle.s3_model.specs.Asks.{is_method}
use Rattle.serve_model.specs.declared.answer.Answer.{Answer}
use Rattle.serve_model.specs.declared.answer.Answer.TheVariants as answer
use Rattle.serve_model.specs.declared.admitted.Admitted.{Admitted}
use Rattle.serve_model.specs.declared.buckets.Buckets.{Buckets}
use Rattle.serve_model.specs.declared.request.Request.{Request}
use Rattle.serve_model.specs.Admitting.{admitted}
use Rattle.serve_model.specs.Stores.{Upload, Job, carry, keep, leave, Given, Store, Asking, IsLeftFor}
use Rattle.serve_model.specs.Connections.{IsPrefixOf, AreFirstOf, first_parts, left_earlier, LiesWithin}
use Rattle.serve_model.specs.Judging.{refusal_of, counted_before, upload_of, order_of, reply_without, answer_to, counted_after}
use Rattle.serve_model.specs.Talk.{Grammar, Serving, kept_limit, Next, goes, closes, exceeds, Stop, Turn, request_of, clocked, counted, behind, passing, having_asked, said, answer_turn, exceeded, counting, given_turn, end_turn, giving, asking_now, order_turn, left_turn, leaving_turn, came_turn, below, cut_after, while_coming, plan_turn, judged_turn, whole_turn, body_turn, received_turn, stream_turn, coming_turn, waiting_turn, request_turn, asked_turn, head_turn, cut_turn, turn, Talk, go_on, talk, interim, bad_head, head_refusal, path_shown, text_of, given_text, closes_of}
use Rattle.serve_model.proofs.Giving.{prefix_all, prefix_more, prefix_behind}
use Rattle.serve_model.proofs.Ones.{split, all_mapped}

-- ---- the first of jobs

module _ {S : Type 0} where
  -- of more jobs
  first_more : (front xs ys : List (Asking S)) → AreFirstOf front xs → AreFirstOf front (xs ++ ys)
  first_more front xs ys (first_parts h) = first_parts (prefix_more front xs ys h)
  first_more front xs ys (left_earlier before a b is h l) = left_earlier before a b is (prefix_more (before ++ b ∷ []) xs ys h) l

  -- the same comes before both
  first_behind : (xs front ys : List (Asking S)) → AreFirstOf front ys → AreFirstOf (xs ++ front) (xs ++ ys)
  first_behind xs front ys (first_parts h) = first_parts (prefix_behind xs front ys h)
  first_behind xs front ys (left_earlier before a b is h l) =
      left_earlier (xs ++ before) a b (ap (λ (js : List (Asking S)). xs ++ js) is ∙ sym (append_assoc xs before (a ∷ [])))
      (subst (λ (js : List (Asking S)). IsPrefixOf js (xs ++ ys)) (sym (append_assoc xs before (b ∷ []))) (prefix_behind xs (before ++ b ∷ []) ys h)) l

  -- what holds of jobs, and of those that give an upload up in their place, holds of the first of them
  pub first_all : (P : Asking S → Type 0) → ((a b : Asking S) → IsLeftFor a b → P b → P a) → (front all : List (Asking S)) → AreFirstOf front all → AllByRecursion P all → AllByRecursion P front
  first_all P earlier front all (first_parts (rest, is)) h = (split P front rest (subst (AllByRecursion P) (sym is) h)).0
  first_all P earlier front all (left_earlier before a b is (rest, all_is) l) h =
      let parts = split P before (b ∷ []) (split P (before ++ b ∷ []) rest (subst (AllByRecursion P) (sym all_is) h)).0 in
      subst (AllByRecursion P) (sym is) (all_append P before (a ∷ []) parts.0 (earlier a b l parts.1.0, tt))

-- ---- stops

module _ {S : Type 0} where
  -- of a text and of jobs
  abbrev pub Within : List ℕ → List (Asking S) → Stop S → Type 0
  Within text asks s = IsPrefixOf s.text text × AreFirstOf s.asks asks

  abbrev pub AllWithin : Turn S → Type 0
  AllWithin t = AllByRecursion (Within t.text t.asks) t.stops

  passing_within : (p : Serving S) (t : Turn S) → AllWithin t → AllWithin (passing p t)
  passing_within p t h = (((t.text, refl), first_parts (t.asks, refl)), h)

  behind_within : (text text' : List ℕ) (asks asks' : List (Asking S)) (stops : List (Stop S)) → AllByRecursion (Within text' asks') stops → AllByRecursion (Within (text ++ text') (asks ++ asks')) (map (behind text asks) stops)
  behind_within text text' asks asks' stops h =
      all_mapped (Within text' asks') (Within (text ++ text') (asks ++ asks')) (behind text asks) (λ s k. (prefix_behind text s.text text' k.0, first_behind asks s.asks asks' k.1)) stops h

  said_within : (text : List ℕ) (close : Bool) (p : Serving S) (rest : List ℕ) → AllWithin (said text close p rest)
  said_within text close p rest = ((prefix_all text, first_parts ([], refl)), tt)

  counting_within : (size : ℕ) (p : Serving S) (go : Serving S → Turn S) → ((q : Serving S) → AllWithin (go q)) → AllWithin (counting size p go)
  unfolding counting
  counting_within size p go h =
      elim (nat_lt kept_limit (p.kept + size)) as (λ b. AllWithin (if b then exceeded (counted size p) else go (counted size p))) [
        | true ↦ ((([], refl), first_parts ([], refl)), tt)
        | false ↦ h (counted size p)
      ]

  answer_within : (r : Request) (a : Answer) (p : Serving S) (rest : List ℕ) → AllWithin (answer_turn r a p rest)
  answer_within r a p rest = said_within (text_of r a) (closes_of r a) p rest

  given_within : (r : Request) (a : Answer) (had : Option Given) (p : Serving S) (rest : List ℕ) → AllWithin (given_turn r a had p rest)
  given_within r a had p rest = said_within (given_text r a had) (closes_of r a) p rest

  end_within : (r : Request) (end : Option FlowEnd) (had : Option Given) (p : Serving S) (rest : List ℕ) → AllWithin (end_turn r end had p rest)
  end_within r None had p rest = given_within r answer.Nothing had p rest
  end_within r (Some end) had p rest = counting_within (counted_after r.ask end) p (λ q. given_turn r (answer_to r.ask end) had q rest) (λ q. given_within r (answer_to r.ask end) had q rest)

  left_within : (r : Request) (code : Code) (end : Option FlowEnd) (p : Serving S) (rest : List ℕ) → AllWithin (left_turn r code end p rest)
  left_within r code None p rest = answer_within r answer.Nothing p rest
  left_within r code (Some end) p rest = answer_within r (answer.Refusal code) p rest

  module _ (store : Store S) where
    -- a job is carried out, and answered by its end
    job_within : (r : Request) (job : Job) (p : Serving S) (rest : List ℕ) → (let c = store.carries p.store r.time job in AllWithin (having_asked (asking_now r job p) (end_turn r c.end c.begun (record p { store = c.state }) rest)))
    job_within r job p rest =
        let c = store.carries p.store r.time job in
        let t = end_turn r c.end c.begun (record p { store = c.state }) rest in
        behind_within [] t.text (asking_now r job p ∷ []) t.asks t.stops (end_within r c.end c.begun (record p { store = c.state }) rest)

    order_within : (r : Request) (o : Order) (p : Serving S) (rest : List ℕ) → AllWithin (order_turn store r o p rest)
    order_within r o p rest =
        let c = store.carries p.store r.time (carry o) in
        let a : Asking S = asking_now r (carry o) p in
        passing_within p (giving r a (having_asked a (end_turn r c.end c.begun (record p { store = c.state }) rest))) (job_within r (carry o) p rest)

    module _ (r : Request) (u : Upload) where
      leaving_within : (code : Code) (came : List ℕ) (p : Serving S) (rest : List ℕ) → AllWithin (leaving_turn store r u code came p rest)
      leaving_within code came p rest =
          let c = store.carries p.store r.time (leave u came) in
          let t = left_turn r code c.end (record p { store = c.state }) rest in
          behind_within [] t.text (asking_now r (leave u came) p ∷ []) t.asks t.stops (left_within r code c.end (record p { store = c.state }) rest)

      came_within : (c : Option Code) (came : List ℕ) (p : Serving S) (rest : List ℕ) → AllWithin (came_turn store r u c came p rest)
      came_within (Some code) came p rest = leaving_within code came p rest
      came_within None came p rest = job_within r (keep u came) p rest

      -- where it is cut off while the bytes come, the upload is given up in place of what is asked once they came
      abbrev LeftBefore : List ℕ → Serving S → List (Asking S) → Type 0
      LeftBefore came p asks = (n : ℕ) → AreFirstOf (asking_now r (leave u (take n came)) p ∷ []) asks

      cuts_within : (came : List ℕ) (p : Serving S) (text : List ℕ) (asks : List (Asking S)) (stops : List (Stop S)) → LeftBefore came p asks → AllByRecursion (Within text asks) stops → (ns : List ℕ) → AllByRecursion (Within text asks) (map (cut_after store r u came p) ns ++ stops)
      cuts_within came p text asks stops before h [] = h
      cuts_within came p text asks stops before h (n ∷ ns) = (((text, refl), before n), cuts_within came p text asks stops before h ns)

      coming_within : (came : List ℕ) (p : Serving S) (t : Turn S) → LeftBefore came p t.asks → AllWithin t → AllWithin (while_coming store r u came p t)
      coming_within came p t before h = (((t.text, refl), first_parts (t.asks, refl)), cuts_within came p t.text t.asks t.stops before h (below (min (suc (length came)) u.length)))

      came_before : (c : Option Code) (came : List ℕ) (p : Serving S) (rest : List ℕ) → LeftBefore came p (came_turn store r u c came p rest).asks
      came_before (Some code) came p rest n =
          let a : Asking S = asking_now r (leave u (take n came)) p in
          let b : Asking S = asking_now r (leave u came) p in
          left_earlier [] a b refl ((left_turn r code (store.carries p.store r.time (leave u came)).end (record p { store = (store.carries p.store r.time (leave u came)).state }) rest).asks, refl) (refl, refl, (refl, (drop n came, take-append-drop n came)))
      came_before None came p rest n =
          let c = store.carries p.store r.time (keep u came) in
          let a : Asking S = asking_now r (leave u (take n came)) p in
          let b : Asking S = asking_now r (keep u came) p in
          left_earlier [] a b refl ((end_turn r c.end c.begun (record p { store = c.state }) rest).asks, refl) (refl, refl, (refl, (drop n came, take-append-drop n came)))

    module _ (buckets : Buckets) where
      plan_within : (r : Request) (o : Option Order) (p : Serving S) (rest : List ℕ) → AllWithin (plan_turn store buckets r o p rest)
      plan_within r (Some order) p rest = order_within r order p rest
      plan_within r None p rest = answer_within r (answer.Reply (reply_without buckets r.who r.ask)) p rest

      judged_within : (r : Request) (body : List ℕ) (c : Option Code) (p : Serving S) (rest : List ℕ) → AllWithin (judged_turn store buckets r body c p rest)
      judged_within r body (Some code) p rest = answer_within r (answer.Refusal code) p rest
      judged_within r body None p rest = plan_within r (order_of r.ask body) p rest

      body_within : (r : Request) (p : Serving S) (rest : List ℕ) → AllWithin (body_turn store buckets r p rest)
      unfolding body_turn
      body_within r p rest =
          passing_within p (if nat_le r.length (length rest) then whole_turn store buckets r (take r.length rest) p (drop r.length rest) else answer_turn r (answer.Refusal IncompleteBody) p rest)
          (elim (nat_le r.length (length rest)) as (λ b. AllWithin (if b then whole_turn store buckets r (take r.length rest) p (drop r.length rest) else answer_turn r (answer.Refusal IncompleteBody) p rest)) [
            | true ↦ judged_within r (take r.length rest) (refusal_of buckets r (take r.length rest)) p (drop r.length rest)
            | false ↦ answer_within r (answer.Refusal IncompleteBody) p rest
          ])

      received_within : (r : Request) (u : Upload) (came : List ℕ) (p : Serving S) (rest : List ℕ) → AllWithin (received_turn store buckets r u came p rest)
      received_within r u came p rest =
          elim (nat_le r.length (length rest)) as (λ b. AllWithin (if b then came_turn store r u (refusal_of buckets r came) came p (drop r.length rest) else leaving_turn store r u IncompleteBody came p rest)) [
            | true ↦ came_within r u (refusal_of buckets r came) came p (drop r.length rest)
            | false ↦ leaving_within r u IncompleteBody came p rest
          ]

      received_before : (r : Request) (u : Upload) (came : List ℕ) (p : Serving S) (rest : List ℕ) → LeftBefore r u came p (received_turn store buckets r u came p rest).asks
      received_before r u came p rest =
          elim (nat_le r.length (length rest)) as (λ b. LeftBefore r u came p (if b then came_turn store r u (refusal_of buckets r came) came p (drop r.length rest) else leaving_turn store r u IncompleteBody came p rest).asks) [
            | true ↦ came_before r u (refusal_of buckets r came) came p (drop r.length rest)
            | false ↦ came_before r u (Some IncompleteBody) came p rest
          ]

      stream_within : (r : Request) (u : Upload) (p : Serving S) (rest : List ℕ) → AllWithin (stream_turn store buckets r u p rest)
      unfolding stream_turn
      stream_within r u p rest =
          let came = take r.length rest in
          let t = received_turn store buckets r u came p rest in
          passing_within p (while_coming store r u came p t) (coming_within r u came p t (received_before r u came p rest) (received_within r u came p rest))

      at_once_or_not : (r : Request) (o : Option Upload) (p : Serving S) (rest : List ℕ) → AllWithin (coming_turn store buckets r o p rest)
      at_once_or_not r (Some u) p rest = stream_within r u p rest
      at_once_or_not r None p rest = body_within r p rest

      waiting_within : (r : Request) (p : Serving S) (rest : List ℕ) → AllWithin (waiting_turn store buckets r p rest)
      waiting_within r p rest = let t = coming_turn store buckets r (upload_of buckets r) p rest in behind_within (interim r) t.text [] t.asks t.stops (at_once_or_not r (upload_of buckets r) p rest)

      request_within : (r : Request) (p : Serving S) (rest : List ℕ) → AllWithin (request_turn store buckets r p rest)
      request_within r p rest = counting_within (counted_before buckets.names r.ask r.length) p (λ q. waiting_turn store buckets r q rest) (λ q. waiting_within r q rest)

      asked_within : (last : Bool) (now : ℕ) (head : Head) (a : Result Admitted S3Fault) (p : Serving S) (rest : List ℕ) → AllWithin (asked_turn store buckets last now head a p rest)
      asked_within last now head (Ok ask) p rest = request_within (request_of last now head ask) p rest
      asked_within last now head (Err fault) p rest = said_within (head_refusal fault (path_shown head) (is_method head (codes "HEAD")) now) true p rest

      head_within : (last : Bool) (now : ℕ) (h : Option Head) (p : Serving S) (rest : List ℕ) → AllWithin (head_turn store buckets last now h p rest)
      head_within last now (Some head) p rest = asked_within last now head (admitted buckets.access now head) p rest
      head_within last now None p rest = said_within (bad_head now) true p rest

      module _ (g : Grammar) where
        cut_within : (last : Bool) (p : Serving S) (c : Cut) → AllWithin (cut_turn store buckets g last p c)
        cut_within last p (ends front rest) = head_within last (clocked p).time (g.head_of front) (clocked p) rest
        cut_within last p too_long = said_within (bad_head (clocked p).time) true (clocked p) []
        cut_within last p unfinished = said_within [] true p []

        pub turn_within : (last : Bool) (p : Serving S) (bytes : List ℕ) → AllWithin (turn store buckets g last p bytes)
        turn_within last p bytes = passing_within p (cut_turn store buckets g last p (cut bytes)) (cut_within last p (cut bytes))

        go_on_within : (f : Serving S → List ℕ → Talk S) (t : Turn S) (n : Next) → AllWithin t → ((rest : List ℕ) → AllByRecursion (LiesWithin (f t.serving rest)) (f t.serving rest).stops) → AllByRecursion (LiesWithin (go_on f t n)) (go_on f t n).stops
        go_on_within f t (goes rest) h later =
            let u = f t.serving rest in
            all_append (Within (t.text ++ u.text) (t.asks ++ u.asks)) t.stops (map (behind t.text t.asks) u.stops)
            (all_weaker (Within t.text t.asks) (Within (t.text ++ u.text) (t.asks ++ u.asks)) (λ s k. (prefix_more s.text t.text u.text k.0, first_more s.asks t.asks u.asks k.1)) t.stops h)
            (behind_within t.text u.text t.asks u.asks u.stops (later rest))
        go_on_within f t closes h later = h
        go_on_within f t exceeds h later = h

        pub talk_within : (count : ℕ) (p : Serving S) (bytes : List ℕ) → AllByRecursion (LiesWithin (talk store buckets g count p bytes)) (talk store buckets g count p bytes).stops
        unfolding talk
        talk_within zero p bytes = tt
        talk_within (suc more) p bytes =
            let t = turn store buckets g (more == 0) p bytes in
            go_on_within (talk store buckets g more) t t.next (turn_within (more == 0) p bytes) (λ rest. talk_within more t.serving rest)
