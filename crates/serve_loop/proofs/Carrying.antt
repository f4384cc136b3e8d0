-- How a request is served whose job the store carried out.
use Rattle.std.proofs.Common.{◌≡◌, ℕ, ◌+◌, ◌<◌, ◌≤◌, ◌⊎◌, inl, inr, List, [], ◌∷◌, ◌++◌, arith, Option, Some, None, Bool, true, false, Result, Ok, Err, refl, sym, ap, subst}
use Rattle.std.proofs.lemmas.List.Elements.{Contains-append_right}
use Rattle.crdt_core.specs.declared.memory.Memory.{Memory as Wanting}
use Rattle.crdt_core.specs.declared.memory.Memory.TheVariants.{Want, Full}
use Rattle.lab_outside.specs.Connection.{Connection, OnPresent}
use Rattle.lab_outside.proofs.Present.{on_present, on_present_same}
use Rattle.flow_model.specs.declared.order.Order.{Order}
use Rattle.flow_model.specs.declared.flow.FlowEnd.{FlowEnd}
use Rattle.s3_model.specs.declared.ask.Ask.{Ask}
use Rattle.s3_model.specs.declared.ask.Ask.TheVariants as ask
use Rattle.serve_model.specs.declared.answer.Answer.{Answer}
use Rattle.serve_model.specs.declared.answer.Answer.TheVariants.{Nothing, Reply, Refusal}
use Rattle.serve_model.specs.declared.request.Request.{Request}
use Rattle.serve_model.specs.declared.served.Served.{Served}
use Rattle.serve_model.specs.declared.served.ServeFault.{ServeFault}
use Rattle.serve_model.specs.declared.served.ServeFault.TheVariants.{Kept}
use Rattle.serve_model.specs.Faults.{fault_of}
use Rattle.serve_model.specs.Stores.{Job, carry, Given, Store, Asking, OverflowsAmong, known_from}
use Rattle.serve_model.specs.Judging.{answer_to, counted_after}
use Rattle.serve_model.specs.Talk.{Serving, Turn, text_of, get_text, begun_text, given_text, closes_of, counted, counting, kept_limit, having_asked, giving, given_turn, end_turn, order_turn}
use Rattle.serve_model.specs.Serving.{CarriedOut, Reached, Goes, GivesUp, Says, Stands, SaysOn, ServesOn}
use Rattle.serve_loop.specs.Giving.{IsNoGet, EndsWith, says}
use Rattle.serve_loop.proofs.Serving.{silence_says, ends_serves, serves_same, passing_serves, giving_serves, asked_serves, leads_none, counting_serves, counting_limits, stands_counted, carried_reached}

pub full_is_no_want : Full ≡ Want → ⊥
full_is_no_want e = cc

-- ---- an ask that is no get is written nothing without an answer

no_get_text : (a : Ask) (g : Given) (now : ℕ) (close : Bool) → IsNoGet a → get_text a g now close ≡ []
no_get_text (ask.Get bucket key range) g now close h = absurd h
no_get_text ask.ListBuckets g now close h = refl
no_get_text (ask.HeadBucket bucket) g now close h = refl
no_get_text (ask.List bucket list delimiter url token start) g now close h = refl
no_get_text (ask.BadList bucket) g now close h = refl
no_get_text (ask.Head bucket key range) g now close h = refl
no_get_text (ask.Delete bucket key) g now close h = refl
no_get_text (ask.Put bucket key size md5 headers) g now close h = refl
no_get_text (ask.Copy from bucket key headers) g now close h = refl

module _ (r : Request) (no_get : IsNoGet r.ask) where
  pub none_begun : (had : Option Given) → begun_text r had ≡ []
  none_begun None = refl
  none_begun (Some g) = no_get_text r.ask g r.time r.closes no_get

  said_of_no_get : (a : Answer) (had : Option Given) → given_text r a had ≡ text_of r a
  said_of_no_get Nothing had = none_begun had
  said_of_no_get (Reply reply) had = refl
  said_of_no_get (Refusal code) had = refl

-- ---- the store was asked

module _ {S : Type 0} (store : Store S) (fits lacks : S → ℕ → Job → Type 0) (holds holds' : S → Type 0) (r : Request) (job : Job) where
  -- the store gave up
  pub gives_goes : (A : Type 0) (m : Wanting) → (m ≡ Want) ⊎ ((m ≡ Full) × ((s : S) → holds s → lacks s r.time job)) → Goes store fits lacks {A = A} holds holds' (Err (fault_of m))
  gives_goes A Want h = tt
  gives_goes A Full (inl e) = absurd (full_is_no_want e)
  gives_goes A Full (inr h) = λ s st. record { asking = record { state = s; time = r.time; job = job }; leads = leads_none store fits lacks s; overflows = h.1 s st }

  module _ (times : Option (List ℕ)) (kept : List ℕ) (p : Serving S) (served : Served) (st : Stands holds times served p) where
    -- what the store was asked
    abbrev pub asking : Asking S
    asking = record { state = p.store; time = r.time; job = job }

    asks_more : (asks : List (Asking S)) → OverflowsAmong store fits lacks p.store asks → OverflowsAmong store fits lacks p.store (asking ∷ asks)
    asks_more asks o = record { at = o.at; asking = o.asking; is_asked = Contains-append_right (asking ∷ []) asks o.asking o.is_asked; is_of = o.is_of }

    -- why it gave up
    pub gives_asked : (m : Wanting) (later : List (Asking S)) → (m ≡ Want) ⊎ ((m ≡ Full) × ((s : S) → holds s → lacks s r.time job)) → GivesUp (OverflowsAmong store fits lacks p.store) (asking ∷ later) (fault_of m)
    gives_asked Want later h = tt
    gives_asked Full later (inl e) = absurd (full_is_no_want e)
    gives_asked Full later (inr h) =
        record { at = record { asking = asking; leads = leads_none store fits lacks p.store; overflows = h.1 p.store st.store }; asking = asking; is_asked = (0, omega arith, refl); is_of = inl refl }

    -- what is served after it
    abbrev pub served_then : Serving S
    served_then = record p { store = (store.carries p.store r.time job).state }

    module _ (end : Option FlowEnd) (f : (s : S) → holds s → CarriedOut store fits lacks holds' s r.time job end) where
      pub stands_then : Stands (Reached store fits lacks holds' p.store) times served served_then
      stands_then = record { store = carried_reached store fits lacks holds' p.store r.time job end (f p.store st.store); clock = st.clock; time = st.time; kept = st.kept }

      -- it was carried out, and then served so
      pub asked_so : (served' : Served) (result : Result Bool ServeFault) (o n : Option Connection) (t : Option FlowEnd → List ℕ → Turn S)
          → ServesOn (λ left. t end (kept ++ left)) (Reached store fits lacks holds' p.store) (known_from store fits lacks p.store) times served' result kept o n
          → ServesOn (λ left. having_asked asking (t (store.carries p.store r.time job).end (kept ++ left))) (Reached store fits lacks holds' p.store) (known_from store fits lacks p.store) times served' result kept o n
      asked_so served' result o n t h =
          let H = Reached store fits lacks holds' p.store in
          let K = known_from store fits lacks p.store in
          let carried = f p.store st.store in
          serves_same H K times served' (λ left. having_asked asking (t end (kept ++ left))) (λ left. having_asked asking (t (store.carries p.store r.time job).end (kept ++ left))) result kept o n
          (λ left. ap (λ e. having_asked asking (t e (kept ++ left))) (sym carried.end_is))
          (asked_serves H K times served' result kept o n asking (λ left. t end (kept ++ left)) carried.fit asks_more h)

    -- what a get that didn't answer had given
    abbrev pub had : Option Given
    had = (store.carries p.store r.time job).begun

    -- it ended, and that is answered
    abbrev pub ended_turn : List ℕ → Turn S
    ended_turn rest = having_asked asking (end_turn r (store.carries p.store r.time job).end had served_then rest)

    -- it didn't end
    pub ended_not : (result : Result Bool ServeFault) (o n : Option Connection) → ((s : S) → holds s → CarriedOut store fits lacks holds' s r.time job None) → OnPresent (EndsWith (begun_text r had) true result) o n
        → ServesOn (λ left. ended_turn (kept ++ left)) (Reached store fits lacks holds' p.store) (known_from store fits lacks p.store) times served result kept o n
    ended_not result o n f ends =
        asked_so None f served result o n (λ end rest. end_turn r end had served_then rest) (ends_serves (Reached store fits lacks holds' p.store) (known_from store fits lacks p.store) times served result kept o n (begun_text r had) true served_then (stands_then None f) ends)

    -- it ended, and that was answered
    pub ended_answered : (served' : Served) (result : Result Bool ServeFault) (o n : Option Connection) (end : FlowEnd) (size : ℕ) → ((s : S) → holds s → CarriedOut store fits lacks holds' s r.time job (Some end)) → size ≡ counted_after r.ask end
        → served'.kept ≡ served.kept + size → served'.time ≡ served.time → served.kept + size ≤ kept_limit → OnPresent (EndsWith (given_text r (answer_to r.ask end) had) (closes_of r (answer_to r.ask end)) result) o n
        → ServesOn (λ left. ended_turn (kept ++ left)) (Reached store fits lacks holds' p.store) (known_from store fits lacks p.store) times served' result kept o n
    ended_answered served' result o n end size f same more time le ends =
        let H = Reached store fits lacks holds' p.store in
        let K = known_from store fits lacks p.store in
        let a = answer_to r.ask end in
        let P : ℕ → Type 0 = λ k. ServesOn (λ left. counting k served_then (λ q. given_turn r a had q (kept ++ left))) H K times served' result kept o n in
        asked_so (Some end) f served' result o n (λ end rest. end_turn r end had served_then rest)
        (subst P same
        (counting_serves H K times size served_then (λ left q. given_turn r a had q (kept ++ left)) kept served' served result o n st.kept le
        (ends_serves H K times served' result kept o n (given_text r a had) (closes_of r a) (counted size served_then) (stands_counted H times served served' size served_then more time (stands_then (Some end) f)) ends)))

    -- it ended, and too many bytes were copied
    pub ended_limits : (served' : Served) (o : Option Connection) (end : FlowEnd) (size : ℕ) → ((s : S) → holds s → CarriedOut store fits lacks holds' s r.time job (Some end)) → size ≡ counted_after r.ask end → kept_limit < served.kept + size
        → ServesOn (λ left. ended_turn (kept ++ left)) (Reached store fits lacks holds' p.store) (known_from store fits lacks p.store) times served' (Err Kept) kept o o
    ended_limits served' o end size f same lt =
        let H = Reached store fits lacks holds' p.store in
        let K = known_from store fits lacks p.store in
        let a = answer_to r.ask end in
        let P : ℕ → Type 0 = λ k. ServesOn (λ left. counting k served_then (λ q. given_turn r a had q (kept ++ left))) H K times served' (Err Kept) kept o o in
        asked_so (Some end) f served' (Err Kept) o o (λ end rest. end_turn r end had served_then rest)
        (subst P same (counting_limits H K times size served_then (λ left q. given_turn r a had q (kept ++ left)) kept served' served o st.kept lt))

    module _ (no_get : IsNoGet r.ask) where
      -- it is no get, and didn't end
      pub ended_silent : (o : Option Connection) → ((s : S) → holds s → CarriedOut store fits lacks holds' s r.time job None)
          → ServesOn (λ left. ended_turn (kept ++ left)) (Reached store fits lacks holds' p.store) (known_from store fits lacks p.store) times served (Ok false) kept o o
      ended_silent o f =
          let P : List ℕ → Type 0 = λ text. OnPresent (EndsWith text true (Ok false)) o o in
          ended_not (Ok false) o o f (subst P (sym (none_begun r no_get had)) (on_present_same (EndsWith [] true (Ok false)) o (λ c. says (silence_says c))))

      -- it is no get, and its end was answered
      pub ended_said : (served' : Served) (result : Result Bool ServeFault) (o n : Option Connection) (end : FlowEnd) (size : ℕ) → ((s : S) → holds s → CarriedOut store fits lacks holds' s r.time job (Some end)) → size ≡ counted_after r.ask end
          → served'.kept ≡ served.kept + size → served'.time ≡ served.time → served.kept + size ≤ kept_limit → SaysOn (text_of r (answer_to r.ask end)) (closes_of r (answer_to r.ask end)) result o n
          → ServesOn (λ left. ended_turn (kept ++ left)) (Reached store fits lacks holds' p.store) (known_from store fits lacks p.store) times served' result kept o n
      ended_said served' result o n end size f same more time le said =
          let a = answer_to r.ask end in
          let P : List ℕ → Type 0 = λ text. OnPresent (EndsWith text (closes_of r a) result) o n in
          ended_answered served' result o n end size f same more time le (subst P (sym (said_of_no_get r no_get a had)) (on_present (Says (text_of r a) (closes_of r a) result) (EndsWith (text_of r a) (closes_of r a) result) o n (λ c d h. says h) said))

-- ---- an order

module _ {S : Type 0} (store : Store S) (fits lacks : S → ℕ → Job → Type 0) (holds holds' : S → Type 0) (r : Request) (order : Order) (times : Option (List ℕ)) (kept : List ℕ) (p : Serving S) (served : Served) (st : Stands holds times served p) where
  -- its turn, from what is served after it
  pub order_so : (served' : Served) (result : Result Bool ServeFault) (o n : Option Connection)
      → ServesOn (λ left. ended_turn store fits lacks holds holds' r (carry order) times kept p served st (kept ++ left)) (Reached store fits lacks holds' p.store) (known_from store fits lacks p.store) times served' result kept o n
      → ServesOn (λ left. order_turn store r order p (kept ++ left)) (Reached store fits lacks holds' p.store) (known_from store fits lacks p.store) times served' result kept o n
  order_so served' result o n h =
      let H = Reached store fits lacks holds' p.store in
      let K = known_from store fits lacks p.store in
      let t : List ℕ → Turn S = λ left. ended_turn store fits lacks holds holds' r (carry order) times kept p served st (kept ++ left) in
      let a : Asking S = record { state = p.store; time = r.time; job = carry order } in
      passing_serves H K times served' result kept o n p (λ left. giving r a (t left)) (giving_serves H K times served' result kept o n r a t h)
