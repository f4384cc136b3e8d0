-- What may be written of a get in the middle of which serving is given up lies within its connection.
use Rattle.std.proofs.Common.{◌≡◌, ℕ, zero, suc, ◌+◌, ◌==◌, Bool, true, false, nat_le, nat_lt, if◌then◌else◌, Option, Some, None, Result, Ok, Err, List, [], ◌∷◌, ◌++◌, map, length, take, drop, refl, sym, ap, ◌∙◌, subst, append_assoc, arith}
use Rattle.std.specs.List.{AllByRecursion}
use Rattle.crdt_core.proofs.Each.{all_append, all_weaker}
use Rattle.flow_model.specs.declared.order.Order.{Order}
use Rattle.flow_model.specs.declared.order.Order.TheVariants as order
use Rattle.flow_model.specs.declared.flow.FlowEnd.{FlowEnd}
use Rattle.http_model.specs.declared.head.Head.{Head}
use Rattle.http_model.specs.Cut.{Cut, ends, too_long, unfinished, cut}
use Rattle.s3_model.specs.declared.ask.Ask.{Ask}
use Rattle.s3_model.specs.declared.ask.Ask.TheVariants as ask
use Rattle.s3_model.specs.declared.ask.Range.{Range}
use Rattle.s3_model.specs.declared.fault.Code.{Code}
use Rattle.s3_model.specs.declared.fault.S3Fault.{S3Fault}
use Rattle.s3_model.specs.declared.fault.Code.TheVariants.{IncompleteBody}
use Rattle.serve_model.specs.declared.answer.Answer.TheVariants as answer
use Rattle.serve_model.specs.declared.admitted.Admitted.{Admitted}
use Rattle.serve_model.specs.declared.buckets.Buckets.{Buckets}
use Rattle.serve_model.specs.declared.request.Request.{Request}
use Rattle.serve_model.specs.Admitting.{admitted}
use Rattle.serve_model.specs.Stores.{Upload, Job, carry, keep, leave, Given, Store, Asking, IsFirstOf, given, given_with, gives_asked}
use Rattle.serve_model.specs.Connections.{IsPrefixOf, GetLiesWithin}
use Rattle.serve_model.specs.Judging.{refusal_of, counted_before, upload_of, order_of, answer_to, counted_after}
use Rattle.serve_model.specs.Talk.{Grammar, Serving, kept_limit, Next, goes, closes, exceeds, Halt, Turn, request_of, clocked, counted, behind_halt, passing, having_asked, exceeded, counting, given_turn, end_turn, asking_now, order_turn, left_turn, leaving_turn, came_turn, while_coming, plan_turn, judged_turn, whole_turn, answer_turn, body_turn, stream_turn, coming_turn, waiting_turn, request_turn, asked_turn, head_turn, cut_turn, turn, Talk, go_on, talk, interim, begun_text}
use Rattle.serve_model.proofs.Giving.{prefix_more, prefix_behind, given_lies}
use Rattle.serve_model.proofs.Ones.{all_mapped}

-- what may be given in the middle of a get is the first of what is given in all
abbrev GivesFirst : {S : Type 0} → Store S → Type 0
GivesFirst {S} store = (s : S) (time : ℕ) (bucket key : List ℕ) (g : Given) → store.gives s time (order.Get bucket key) g → IsFirstOf (Some g) (given (store.carries s time (carry (order.Get bucket key))))

module _ {S : Type 0} (store : Store S) where
  -- of a text, where the store gives so, and of jobs
  abbrev pub Within : List ℕ → List (Asking S) → Halt S → Type 0
  Within text asks h = (GivesFirst store → (g : Given) → gives_asked store h.asking g → IsPrefixOf (h.text ++ begun_text h.request (Some g)) text) × IsPrefixOf h.asks asks

  abbrev AllWithin : Turn S → Type 0
  AllWithin t = AllByRecursion (Within t.text t.asks) t.halts

  -- not too many bytes were put or copied
  abbrev MayGoOn : Serving S → Type 0
  MayGoOn p = nat_lt kept_limit p.kept ≡ false

  behind_within : (text text' : List ℕ) (asks asks' : List (Asking S)) (halts : List (Halt S)) → AllByRecursion (Within text' asks') halts → AllByRecursion (Within (text ++ text') (asks ++ asks')) (map (behind_halt text asks) halts)
  behind_within text text' asks asks' halts h =
      all_mapped (Within text' asks') (Within (text ++ text') (asks ++ asks')) (behind_halt text asks)
      (λ x k. (
        λ first g gives.
            subst (λ (front : List ℕ). IsPrefixOf front (text ++ text')) (sym (append_assoc text x.text (begun_text x.request (Some g)))) (prefix_behind text (x.text ++ begun_text x.request (Some g)) text' (k.0 first g gives)),
        prefix_behind asks x.asks asks' k.1,
      )) halts h

  counting_within : (size : ℕ) (p : Serving S) (go : Serving S → Turn S) → ((q : Serving S) → MayGoOn q → AllWithin (go q)) → AllWithin (counting size p go)
  unfolding counting
  counting_within size p go h =
      elim (nat_lt kept_limit (p.kept + size)) as (λ b. nat_lt kept_limit (p.kept + size) ≡ b → AllWithin (if b then exceeded (counted size p) else go (counted size p))) [
        | true ↦ λ e. tt
        | false ↦ λ e. h (counted size p) e
      ] refl

  end_within : (r : Request) (end : Option FlowEnd) (had : Option Given) (p : Serving S) (rest : List ℕ) → AllWithin (end_turn r end had p rest)
  end_within r None had p rest = tt
  end_within r (Some end) had p rest = counting_within (counted_after r.ask end) p (λ q. given_turn r (answer_to r.ask end) had q rest) (λ q may. tt)

  module _ (r : Request) (had : Option Given) (p : Serving S) (rest : List ℕ) (may : MayGoOn p) (g : Given) where
    abbrev asking : Ask → Request
    asking a = record r { ask = a }

    -- a get counts no bytes
    get_lies : (bucket key : List ℕ) (range : Option Range) (end : Option FlowEnd) → IsFirstOf (Some g) (given_with end had) →
        IsPrefixOf (begun_text (asking (ask.Get bucket key range)) (Some g)) (end_turn (asking (ask.Get bucket key range)) end had p rest).text
    unfolding counting
    get_lies bucket key range None h = given_lies (asking (ask.Get bucket key range)) had g None h
    get_lies bucket key range (Some end) h =
        let r' : Request = asking (ask.Get bucket key range) in
        let same : p.kept + 0 ≡ p.kept = omega arith in
        subst (λ (b : Bool). IsPrefixOf (begun_text r' (Some g)) (if b then exceeded (counted 0 p) else given_turn r' (answer_to r'.ask end) had (counted 0 p) rest).text)
        (sym (ap (λ (n : ℕ). nat_lt kept_limit n) same ∙ may)) (given_lies r' had g (Some end) h)

    lies_in_end : (a : Ask) (end : Option FlowEnd) → IsFirstOf (Some g) (given_with end had) → IsPrefixOf (begun_text (asking a) (Some g)) (end_turn (asking a) end had p rest).text
    lies_in_end (ask.Get bucket key range) end h = get_lies bucket key range end h
    lies_in_end ask.ListBuckets end h = ((end_turn (asking ask.ListBuckets) end had p rest).text, refl)
    lies_in_end (ask.HeadBucket bucket) end h = ((end_turn (asking (ask.HeadBucket bucket)) end had p rest).text, refl)
    lies_in_end (ask.List bucket list delimiter url token start) end h = ((end_turn (asking (ask.List bucket list delimiter url token start)) end had p rest).text, refl)
    lies_in_end (ask.BadList bucket) end h = ((end_turn (asking (ask.BadList bucket)) end had p rest).text, refl)
    lies_in_end (ask.Head bucket key range) end h = ((end_turn (asking (ask.Head bucket key range)) end had p rest).text, refl)
    lies_in_end (ask.Delete bucket key) end h = ((end_turn (asking (ask.Delete bucket key)) end had p rest).text, refl)
    lies_in_end (ask.Put bucket key length md5 headers) end h = ((end_turn (asking (ask.Put bucket key length md5 headers)) end had p rest).text, refl)
    lies_in_end (ask.Copy from bucket key headers) end h = ((end_turn (asking (ask.Copy from bucket key headers)) end had p rest).text, refl)

  module _ (r : Request) (p : Serving S) (rest : List ℕ) (may : MayGoOn p) where
    abbrev ended : Job → Turn S
    ended job = let c = store.carries p.store r.time job in end_turn r c.end c.begun (record p { store = c.state }) rest

    before : (job : Job) → AllWithin (having_asked (asking_now r job p) (ended job))
    before job =
        let c = store.carries p.store r.time job in
        behind_within [] (ended job).text (asking_now r job p ∷ []) (ended job).asks (ended job).halts (end_within r c.end c.begun (record p { store = c.state }) rest)

    order_within : (o : Order) → AllWithin (order_turn store r o p rest)
    order_within (order.Get bucket key) =
        let get : Job = carry (order.Get bucket key) in
        let c = store.carries p.store r.time get in (
          (λ first g gives. lies_in_end r c.begun (record p { store = c.state }) rest may g r.ask c.end (first p.store r.time bucket key g gives), (asking_now r get p ∷ (ended get).asks, refl)),
          before get,
        )
    order_within (order.Put bucket key body headers) = before (carry (order.Put bucket key body headers))
    order_within (order.Stream bucket key announced headers) = before (carry (order.Stream bucket key announced headers))
    order_within (order.Head bucket key) = before (carry (order.Head bucket key))
    order_within (order.Delete bucket key) = before (carry (order.Delete bucket key))
    order_within (order.Copy from_bucket from_key bucket key headers) = before (carry (order.Copy from_bucket from_key bucket key headers))
    order_within (order.List bucket prefix) = before (carry (order.List bucket prefix))

    left_within : (code : Code) (end : Option FlowEnd) (q : Serving S) → AllWithin (left_turn r code end q rest)
    left_within code None q = tt
    left_within code (Some end) q = tt

    leaving_within : (u : Upload) (code : Code) (came : List ℕ) → AllWithin (leaving_turn store r u code came p rest)
    leaving_within u code came =
        let c = store.carries p.store r.time (leave u came) in
        let t = left_turn r code c.end (record p { store = c.state }) rest in
        behind_within [] t.text (asking_now r (leave u came) p ∷ []) t.asks t.halts (left_within code c.end (record p { store = c.state }))

    came_within : (u : Upload) (c : Option Code) (came : List ℕ) → AllWithin (came_turn store r u c came p rest)
    came_within u (Some code) came = leaving_within u code came
    came_within u None came = before (keep u came)

  module _ (buckets : Buckets) where
    plan_within : (r : Request) (o : Option Order) (p : Serving S) (rest : List ℕ) → MayGoOn p → AllWithin (plan_turn store buckets r o p rest)
    plan_within r (Some o) p rest may = order_within r p rest may o
    plan_within r None p rest may = tt

    judged_within : (r : Request) (body : List ℕ) (c : Option Code) (p : Serving S) (rest : List ℕ) → MayGoOn p → AllWithin (judged_turn store buckets r body c p rest)
    judged_within r body (Some code) p rest may = tt
    judged_within r body None p rest may = plan_within r (order_of r.ask body) p rest may

    body_within : (r : Request) (p : Serving S) (rest : List ℕ) → MayGoOn p → AllWithin (body_turn store buckets r p rest)
    unfolding body_turn
    body_within r p rest may =
        elim (nat_le r.length (length rest)) as (λ b. AllWithin (passing p (if b then whole_turn store buckets r (take r.length rest) p (drop r.length rest) else answer_turn r (answer.Refusal IncompleteBody) p rest))) [
          | true ↦ judged_within r (take r.length rest) (refusal_of buckets r (take r.length rest)) p (drop r.length rest) may
          | false ↦ tt
        ]

    stream_within : (r : Request) (u : Upload) (p : Serving S) (rest : List ℕ) → MayGoOn p → AllWithin (stream_turn store buckets r u p rest)
    unfolding stream_turn
    stream_within r u p rest may =
        let came = take r.length rest in
        elim (nat_le r.length (length rest)) as (λ b. AllWithin (passing p (while_coming store r u came p (if b then came_turn store r u (refusal_of buckets r came) came p (drop r.length rest) else leaving_turn store r u IncompleteBody came p rest)))) [
          | true ↦ came_within r p (drop r.length rest) may u (refusal_of buckets r came) came
          | false ↦ leaving_within r p rest may u IncompleteBody came
        ]

    at_once_or_not : (r : Request) (o : Option Upload) (p : Serving S) (rest : List ℕ) → MayGoOn p → AllWithin (coming_turn store buckets r o p rest)
    at_once_or_not r (Some u) p rest may = stream_within r u p rest may
    at_once_or_not r None p rest may = body_within r p rest may

    waiting_within : (r : Request) (p : Serving S) (rest : List ℕ) → MayGoOn p → AllWithin (waiting_turn store buckets r p rest)
    waiting_within r p rest may = let t = coming_turn store buckets r (upload_of buckets r) p rest in behind_within (interim r) t.text [] t.asks t.halts (at_once_or_not r (upload_of buckets r) p rest may)

    request_within : (r : Request) (p : Serving S) (rest : List ℕ) → AllWithin (request_turn store buckets r p rest)
    request_within r p rest = counting_within (counted_before buckets.names r.ask r.length) p (λ q. waiting_turn store buckets r q rest) (λ q may. waiting_within r q rest may)

    asked_within : (last : Bool) (now : ℕ) (head : Head) (a : Result Admitted S3Fault) (p : Serving S) (rest : List ℕ) → AllWithin (asked_turn store buckets last now head a p rest)
    asked_within last now head (Ok ask) p rest = request_within (request_of last now head ask) p rest
    asked_within last now head (Err fault) p rest = tt

    head_within : (last : Bool) (now : ℕ) (h : Option Head) (p : Serving S) (rest : List ℕ) → AllWithin (head_turn store buckets last now h p rest)
    head_within last now (Some head) p rest = asked_within last now head (admitted buckets.access now head) p rest
    head_within last now None p rest = tt

    module _ (g : Grammar) where
      cut_within : (last : Bool) (p : Serving S) (c : Cut) → AllWithin (cut_turn store buckets g last p c)
      cut_within last p (ends front rest) = head_within last (clocked p).time (g.head_of front) (clocked p) rest
      cut_within last p too_long = tt
      cut_within last p unfinished = tt

      turn_within : (last : Bool) (p : Serving S) (bytes : List ℕ) → AllWithin (turn store buckets g last p bytes)
      turn_within last p bytes = cut_within last p (cut bytes)

      abbrev AllIn : Talk S → Type 0
      AllIn t = AllByRecursion (Within t.text t.asks) t.halts

      go_on_within : (f : Serving S → List ℕ → Talk S) (t : Turn S) (n : Next) → AllWithin t → ((rest : List ℕ) → AllIn (f t.serving rest)) → AllIn (go_on f t n)
      go_on_within f t (goes rest) h later =
          let u = f t.serving rest in
          all_append (Within (t.text ++ u.text) (t.asks ++ u.asks)) t.halts (map (behind_halt t.text t.asks) u.halts)
          (all_weaker (Within t.text t.asks) (Within (t.text ++ u.text) (t.asks ++ u.asks)) (λ s k. (λ first g gives. prefix_more (s.text ++ begun_text s.request (Some g)) t.text u.text (k.0 first g gives), prefix_more s.asks t.asks u.asks k.1)) t.halts h)
          (behind_within t.text u.text t.asks u.asks u.halts (later rest))
      go_on_within f t closes h later = h
      go_on_within f t exceeds h later = h

      pub talk_within : (count : ℕ) (p : Serving S) (bytes : List ℕ) → AllIn (talk store buckets g count p bytes)
      unfolding talk
      talk_within zero p bytes = tt
      talk_within (suc more) p bytes =
          let t = turn store buckets g (more == 0) p bytes in
          go_on_within (talk store buckets g more) t t.next (turn_within (more == 0) p bytes) (λ rest. talk_within more t.serving rest)

      -- so it is over a store that gives in the middle of a get the first of what it gives in all
      pub gets_within : GivesFirst store → (count : ℕ) (p : Serving S) (bytes : List ℕ) → (let t = talk store buckets g count p bytes in AllByRecursion (GetLiesWithin store t) t.halts)
      gets_within first count p bytes =
          let t = talk store buckets g count p bytes in all_weaker (Within t.text t.asks) (GetLiesWithin store t) (λ h k. (k.0 first, k.1)) t.halts (talk_within count p bytes)
