-- How an upload is served whose bytes were taken as far as they came.
use Rattle.std.proofs.Common.{◌≡◌, ◌⊎◌, inl, inr, ℕ, ◌+◌, ◌<◌, ◌≤◌, nat_le, nat_lt, Bool, true, false, cond, if◌then◌else◌, Option, Some, None, List, [], ◌∷◌, ◌++◌, length, take, drop, Result, Ok, Err, IfOk, OnOk, IfErr, refl, sym, ap, ◌∙◌, subst, append-nil, length-append, arith}
use Rattle.std.proofs.lemmas.Bool.{lt-ltb, ltb-true}
use Rattle.crdt_core.specs.declared.memory.Memory.{Memory as Wanting}
use Rattle.crdt_core.specs.declared.memory.Memory.TheVariants.{Want, Full}
use Rattle.crdt_core.specs.Members.{OneOf}
use Rattle.lab_outside.specs.Connection.{Connection, OnPresent}
use Rattle.lab_outside.proofs.Present.{on_present_same}
use Rattle.http_wire.specs.Reading.{OnAll}
use Rattle.flow_model.specs.declared.flow.FlowEnd.{FlowEnd}
use Rattle.s3_model.specs.declared.fault.Code.{Code}
use Rattle.s3_model.specs.declared.fault.Code.TheVariants.{IncompleteBody}
use Rattle.serve_model.specs.declared.answer.Answer.{Answer}
use Rattle.serve_model.specs.declared.buckets.Buckets.{Buckets}
use Rattle.serve_model.specs.declared.request.Request.{Request}
use Rattle.serve_model.specs.declared.served.Served.{Served}
use Rattle.serve_model.specs.declared.served.ServeFault.{ServeFault}
use Rattle.serve_model.specs.declared.served.ServeFault.TheVariants.{Kept, Number, Memory}
use Rattle.serve_model.specs.Faults.{fault_of}
use Rattle.serve_model.specs.Judging.{refusal_of}
use Rattle.serve_model.specs.declared.upload.Upload.{Upload}
use Rattle.serve_model.specs.Stores.{Job, keep, leave, IsLeftOf, Store, Asking, Known, OverflowsAmong, known_from}
use Rattle.serve_model.specs.Uploads.{IsPart, IsLeft}
use Rattle.serve_model.specs.Talk.{Serving, Stop, Turn, text_of, closes_of, said, passing, having_asked, asking_now, answer_turn, end_turn, left_turn, leaving_turn, keeping_turn, came_turn, uploading, while_coming, received_turn, stream_turn}
use Rattle.serve_model.specs.Serving.{CarriedOut, Reached, Goes, GivesUp, IsLostAt, Says, Stands, CutOffAt, SaysOn, ServesOn}
use Rattle.serve_loop.specs.Giving.{IsNoGet}
use Rattle.serve_loop.specs.Sums.{refusal_of_sums}
use Rattle.serve_loop.specs.Uploads.{IsNeedOf, EachTaken, EachLeft}
use Rattle.serve_loop.specs.Taking.{IsStreamed, NeedsSo, IsCause, IsQuiet, IsFailed, CameFirst, CameShort, CameSo}
use Rattle.serve_loop.specs.declared.taking.Came.TheVariants.{Whole, Short, Cut, Unneeded}
use Rattle.serve_loop.proofs.Serving.{each_left, serves_same, says_serves, silence_says, passing_serves, coming_serves, gives_up, read_then, cut_while, given_up_while, lost_while, nothing_after, leads_none, carried_goes}
use Rattle.serve_loop.proofs.Begins.{begins_so, stream_begins}
use Rattle.serve_loop.proofs.Carrying.{asked_so, stands_then, none_begun, full_is_no_want}
use Rattle.serve_loop.proofs.Streams.{taken_as, put_is_no_get, first_taken, same_refusal, whole_turn_is, short_turn_is, asked_of, cut_here, short_left}

-- ---- why serving is given up

pub cause_of : (m : Wanting) (P : Type 0) → (m ≡ Want) ⊎ ((m ≡ Full) × P) → IsCause P (fault_of m)
cause_of Want P h = tt
cause_of Full P (inl e) = absurd (full_is_no_want e)
cause_of Full P (inr h) = h.1

pub cause_weaker : (P Q : Type 0) (e : ServeFault) → (P → Q) → IsCause P e → IsCause Q e
cause_weaker P Q Kept f h = h
cause_weaker P Q Number f h = f h
cause_weaker P Q Memory f h = tt

module _ {S : Type 0} (store : Store S) (fits lacks : S → ℕ → Job → Type 0) (holds holds' : S → Type 0) (time : ℕ) (job : Job) where
  -- a job has no room, from whatever state the code's store stood for
  pub cause_goes : (A : Type 0) (e : ServeFault) → IsCause ((s : S) → holds s → lacks s time job) e → Goes store fits lacks {A = A} holds holds' (Err e)
  cause_goes A Kept h = absurd h
  cause_goes A Number h = λ s st. record { asking = record { state = s; time = time; job = job }; leads = leads_none store fits lacks s; overflows = h s st }
  cause_goes A Memory h = tt

-- whatever it stood for before
pub goes_from : {S : Type 0} (store : Store S) (fits lacks : S → ℕ → Job → Type 0) (A : Type 0) (old mid new : S → Type 0) (r : Result A ServeFault) → ((s : S) → old s → mid s) → Goes store fits lacks {A = A} mid new r → Goes store fits lacks {A = A} old new r
goes_from store fits lacks A old mid new (Ok a) f h = λ s st. h s (f s st)
goes_from store fits lacks A old mid new (Err Kept) f h = λ s st. h s (f s st)
goes_from store fits lacks A old mid new (Err Number) f h = λ s st. h s (f s st)
goes_from store fits lacks A old mid new (Err Memory) f h = tt

-- one of these jobs has none, or to give its upload up in its place
pub cause_asked : {S : Type 0} (store : Store S) (fits lacks : S → ℕ → Job → Type 0) (r : Request) (p : Serving S) (job other : Job) (later : List (Asking S)) (e : ServeFault) → IsLeftOf job other → IsCause (lacks p.store r.time job) e →
    GivesUp (OverflowsAmong store fits lacks p.store) (asking_now r other p ∷ later) e
cause_asked store fits lacks r p job other later Kept left h = absurd h
cause_asked store fits lacks r p job other later Number left h =
    record {
      at = record { asking = asking_now r job p; leads = leads_none store fits lacks p.store; overflows = h };
      asking = asking_now r other p;
      is_asked = (0, omega arith, refl);
      is_of = inr (refl, refl, left);
    }
cause_asked store fits lacks r p job other later Memory left h = tt

-- ---- a part of a block

-- the bytes that came of the next block, where they are fewer than it needs
abbrev pub part_of : ℕ → List ℕ → List ℕ
part_of size rest = cond (nat_lt (length rest) size) rest []

pub part_is : (size : ℕ) (rest : List ℕ) → length rest < size → part_of size rest ≡ rest
part_is size rest lt = ap (λ b. cond b rest []) (lt-ltb (length rest) size lt)

is_part : (size : ℕ) (rest : List ℕ) → IsPart (Some size) (part_of size rest)
is_part size rest =
    elim (nat_lt (length rest) size) as (λ b. nat_lt (length rest) size ≡ b → IsPart (Some size) (cond b rest [])) [
      | true ↦ λ less. inr (ltb-true (length rest) size less)
      | false ↦ λ more. inl refl
    ] refl

-- an upload that is left after these bytes and such a part
pub left_in_part : (u : Upload) (came : List ℕ) (size : ℕ) (rest : List ℕ) → IsLeft u came (Some size) (leave u (came ++ part_of size rest))
left_in_part u came size rest = (refl, (part_of size rest, is_part size rest, refl))

-- and after these alone
pub left_so_far : (u : Upload) (came : List ℕ) (need : Option ℕ) → IsLeft u came need (leave u came)
left_so_far u came None = (refl, ([], tt, sym (append-nil came)))
left_so_far u came (Some size) = (refl, ([], inl refl, sym (append-nil came)))

-- ---- an upload that was given up is refused

module _ {S : Type 0} (store : Store S) (fits lacks : S → ℕ → Job → Type 0) (holds holds' : S → Type 0) (r : Request) (u : Upload) (code : Code) (all : List ℕ → List ℕ) (times : Option (List ℕ)) (kept : List ℕ) (p : Serving S) (served : Served) where
  -- its turn
  abbrev pub refused_turn : List ℕ → Turn S
  refused_turn left = passing p (leaving_turn store r u code (all left) p (kept ++ left))

  -- it ended so, and that was answered
  pub left_answered : (st : Stands holds times served p) (end : Option FlowEnd) (a : Answer) (result : Result Bool ServeFault) (o n : Option Connection) → ((q : Serving S) (rest : List ℕ) → left_turn r code end q rest ≡ answer_turn r a q rest)
      → ((left : List ℕ) (s : S) → holds s → CarriedOut store fits lacks holds' s r.time (leave u (all left)) end) → SaysOn (text_of r a) (closes_of r a) result o n
      → ServesOn refused_turn (Reached store fits lacks holds' p.store) (known_from store fits lacks p.store) times served result kept o n
  left_answered st end a result o n is f said =
      let H = Reached store fits lacks holds' p.store in
      let K = known_from store fits lacks p.store in
      let later : List ℕ → Serving S = λ left. record p { store = (store.carries p.store r.time (leave u (all left))).state } in
      let asked : List ℕ → List ℕ → Turn S = λ left rest. having_asked (asking_now r (leave u (all left)) p) (left_turn r code (store.carries p.store r.time (leave u (all left))).end (later left) (kept ++ rest)) in
      each_left H K times served result kept refused_turn (λ left rest. passing p (asked left rest)) (λ left. refl) o n
      (λ left.
      let job : Job = leave u (all left) in
      let answered : ServesOn (λ rest. left_turn r code end (later left) (kept ++ rest)) H K times served result kept o n =
      serves_same H K times served (λ rest. answer_turn r a (later left) (kept ++ rest)) (λ rest. left_turn r code end (later left) (kept ++ rest)) result kept o n (λ rest. is (later left) (kept ++ rest))
      (says_serves H K times served result kept o n (text_of r a) (closes_of r a) (later left) (stands_then store fits lacks holds holds' r job times kept p served st end (f left)) said) in
      passing_serves H K times served result kept o n p (asked left) (asked_so store fits lacks holds holds' r job times kept p served st end (f left) served result o n (λ end rest. left_turn r code end (later left) rest) answered))

  -- serving is given up before it is
  pub left_wants : (came : List ℕ) (need : Option ℕ) (e : ServeFault) (o : Option Connection) → ((left : List ℕ) → IsLeft u came need (leave u (all left))) → IsCause (lacks p.store r.time (leave u came)) e
      → ServesOn refused_turn (Reached store fits lacks holds' p.store) (known_from store fits lacks p.store) times served (Err e) kept o o
  left_wants came need e o left cause =
      gives_up (Reached store fits lacks holds' p.store) (known_from store fits lacks p.store) times served refused_turn e kept o (λ rest. inl refl)
      (λ rest. let part = left rest in cause_asked store fits lacks r p (leave u came) (leave u (all rest)) _ e (refl, (part.1.0, sym part.1.2)) cause)

-- ---- what is served of the upload that was begun

module _ {S : Type 0} (store : Store S) (buckets : Buckets) (r : Request) (u : Upload) (p : Serving S) (H : S → Type 0) (K : Known S) (times : Option (List ℕ)) (served : Served) (before kept came : List ℕ) where
  -- all bytes came, and they were judged
  pub whole_serves : (result : Result Bool ServeFault) (o m n : Option Connection) → IsStreamed buckets r u → length came ≡ r.length → OnPresent (λ c d. IsQuiet c d × OnAll (CameFirst came) before kept c d) o m
      → ServesOn (λ left. passing p (came_turn store r u (refusal_of_sums r came) came p (kept ++ left))) H K times served result kept m n
      → ServesOn (λ left. stream_turn store buckets r u p (before ++ left)) H K times served result kept o n
  whole_serves result o m n is len reads h =
      let code = refusal_of buckets r came in
      read_then H K times served result before kept kept o m n (CameFirst came) (stream_turn store buckets r u p) (λ rest. passing p (while_coming store r u came p (came_turn store r u code came p rest))) reads
      (λ all rest e. whole_turn_is store buckets r u p all came rest e len)
      (coming_serves H K times served result kept m n store r u (λ left. came) p (λ left. came_turn store r u code came p (kept ++ left))
      (serves_same H K times served (λ left. passing p (came_turn store r u (refusal_of_sums r came) came p (kept ++ left))) (λ left. passing p (came_turn store r u code came p (kept ++ left))) result kept m n
      (λ left. ap (λ c. passing p (came_turn store r u c came p (kept ++ left))) (sym (same_refusal buckets r u came is))) h))

  -- the input ended before, and it was refused
  pub short_serves : (size : ℕ) (result : Result Bool ServeFault) (o m n : Option Connection) → length came + size ≤ r.length → OnPresent (λ c d. IsQuiet c d × OnAll (CameShort came (Some size)) before kept c d) o m
      → ServesOn (λ left. passing p (leaving_turn store r u IncompleteBody (came ++ part_of size (kept ++ left)) p (kept ++ left))) H K times served result kept m n
      → ServesOn (λ left. stream_turn store buckets r u p (before ++ left)) H K times served result kept o n
  short_serves size result o m n le reads h =
      let came_in : List ℕ → List ℕ = λ rest. came ++ part_of size rest in
      let left : List ℕ → Turn S = λ rest. leaving_turn store r u IncompleteBody (came_in rest) p rest in
      read_then H K times served result before kept kept o m n (CameShort came (Some size)) (stream_turn store buckets r u p) (λ rest. passing p (while_coming store r u (came_in rest) p (left rest))) reads
      (λ all rest e.
      let long : length all ≡ length came + length rest = ap length e.0 ∙ length-append came rest in
      let few = e.1 in
      let is : all ≡ came_in rest = e.0 ∙ ap (λ (part : List ℕ). came ++ part) (sym (part_is size rest e.1)) in
      let c = store.carries p.store r.time (leave u (came_in rest)) in
      short_turn_is store buckets r u p all (omega (arith, long, few, le))
      ∙ (ap (λ (bytes : List ℕ). passing p (while_coming store r u bytes p (leaving_turn store r u IncompleteBody bytes p all))) is
      ∙ ap (λ (t : Turn S). passing p (while_coming store r u (came_in rest) p (having_asked (asking_now r (leave u (came_in rest)) p) t))) (short_left r c.end (record p { store = c.state }) all rest)))
      (coming_serves H K times served result kept m n store r u (λ left. came_in (kept ++ left)) p (λ rest. left (kept ++ rest)) h)

  -- the link failed before, and it was given up
  pub cut_serves : (o n : Option Connection) → length came < r.length → u.length ≡ r.length → OnPresent (λ c d. IsFailed c d × OnAll (CameFirst came) before kept c d) o n → K.fits (asking_now r (leave u came) p)
      → Stands H times served (record p { store = (store.carries p.store r.time (leave u came)).state })
      → ServesOn (λ left. stream_turn store buckets r u p (before ++ left)) H K times served (Ok false) kept o n
  cut_serves o n lt size reads fit st =
      cut_while H K times served before kept kept o n (CameFirst came) (stream_turn store buckets r u p)
      (λ all rest c d e same. cut_here store buckets r u p (CutOffAt K.fits H times served c d) all came rest e lt size ((nothing_after c d same [], (fit, tt)), st)) reads

-- so it is served where serving is given up
abbrev pub StreamServed : {S : Type 0} → Store S → Buckets → (S → ℕ → Job → Type 0) → (S → ℕ → Job → Type 0) → Request → Upload → Serving S → (S → Type 0) → Option (List ℕ) → Served → List ℕ → List ℕ → ServeFault → Option Connection → Option Connection → Type 0
StreamServed store buckets fits lacks r u p H times served before kept e o n = ServesOn (λ left. stream_turn store buckets r u p (before ++ left)) H (known_from store fits lacks p.store) times served (Err e) kept o n

-- why serving is given up: the upload that is given up after these bytes has no room
why_left : {S : Type 0} (store : Store S) (buckets : Buckets) (fits lacks : S → ℕ → Job → Type 0) (r : Request) (u : Upload) (p : Serving S) (came : List ℕ) (e : ServeFault) → IsCause ((length came ≤ r.length) × lacks p.store r.time (leave u came)) e → (all rest : List ℕ) → all ≡ came ++ rest
    → GivesUp (OverflowsAmong store fits lacks p.store) (stream_turn store buckets r u p all).asks e
why_left {S} store buckets fits lacks r u p came Kept cause all rest is = absurd cause
why_left {S} store buckets fits lacks r u p came Number cause all rest is =
    asked_of store buckets r u p (λ (asks : List (Asking S)). OverflowsAmong store fits lacks p.store asks) all came rest is cause.0 (λ job later left. cause_asked store fits lacks r p (leave u came) job later Number left cause.1)
why_left {S} store buckets fits lacks r u p came Memory cause all rest is = tt

-- serving is given up while its bytes come
pub wants_serves : {S : Type 0} (store : Store S) (buckets : Buckets) (fits lacks : S → ℕ → Job → Type 0) (r : Request) (u : Upload) (p : Serving S) (H : S → Type 0) (times : Option (List ℕ)) (served : Served) (before kept came : List ℕ) (e : ServeFault) (o n : Option Connection) →
    IsCause ((length came ≤ r.length) × lacks p.store r.time (leave u came)) e → OnPresent (λ c d. IsQuiet c d × OnAll (CameFirst came) before kept c d) o n → StreamServed store buckets fits lacks r u p H times served before kept e o n
wants_serves store buckets fits lacks r u p H times served before kept came e o n cause reads =
    given_up_while H (known_from store fits lacks p.store) times served before kept kept o n (CameFirst came) (stream_turn store buckets r u p) e (λ all. begins_so p (stream_turn store buckets r u p all) (stream_begins store buckets r u p all)) (why_left store buckets fits lacks r u p came e cause) reads

-- and once its client was lost
lost_here : {S : Type 0} (store : Store S) (buckets : Buckets) (r : Request) (u : Upload) (p : Serving S) (P : Stop S → Type 0) (all : List ℕ) → P (uploading store r u p) → OneOf P (stream_turn store buckets r u p all).stops
unfolding stream_turn
lost_here store buckets r u p P all h = inr (inl h)

pub lost_serves : {S : Type 0} (store : Store S) (buckets : Buckets) (fits lacks : S → ℕ → Job → Type 0) (r : Request) (u : Upload) (p : Serving S) (H : S → Type 0) (times : Option (List ℕ)) (served : Served) (before kept came : List ℕ) (e : ServeFault) (o n : Option Connection) →
    IsCause ((length came ≤ r.length) × lacks p.store r.time (leave u came)) e → OnPresent (λ c d. IsFailed c d × OnAll (CameFirst came) before kept c d) o n → StreamServed store buckets fits lacks r u p H times served before kept e o n
lost_serves store buckets fits lacks r u p H times served before kept came e o n cause reads =
    let K = known_from store fits lacks p.store in
    lost_while H K times served before kept kept o n (CameFirst came) (stream_turn store buckets r u p) e (λ all. begins_so p (stream_turn store buckets r u p all) (stream_begins store buckets r u p all))
    (λ all c d same. lost_here store buckets r u p (IsLostAt K.fits c d) all ((nothing_after c d same [], tt), refl)) (why_left store buckets fits lacks r u p came e cause) reads

-- ---- an upload that waits for no client

module _ {S : Type 0} (store : Store S) (fits lacks : S → ℕ → Job → Type 0) (holds holds' : S → Type 0) (r : Request) (no_get : IsNoGet r.ask) (u : Upload) (times : Option (List ℕ)) (kept : List ℕ) (p : Serving S) (served : Served) (st : Stands holds times served p) (came : List ℕ)
    (f : (job : Job) → IsLeft u came None job → (s : S) → holds s → CarriedOut store fits lacks holds' s r.time job None) (o : Option Connection) where
  -- whichever job it is, it doesn't end, and isn't answered
  job_silent : (job : Job) (t : Option FlowEnd → Turn S) (rest : List ℕ) → IsLeft u came None job → t None ≡ said [] true (record p { store = (store.carries p.store r.time job).state }) rest
      → ServesOn (λ left. having_asked (asking_now r job p) (t (store.carries p.store r.time job).end)) (Reached store fits lacks holds' p.store) (known_from store fits lacks p.store) times served (Ok false) kept o o
  job_silent job t rest left is =
      let H = Reached store fits lacks holds' p.store in
      let K = known_from store fits lacks p.store in
      let q : Serving S = record p { store = (store.carries p.store r.time job).state } in
      asked_so store fits lacks holds holds' r job times kept p served st None (f job left) served (Ok false) o o (λ end rest. t end)
      (serves_same H K times served (λ left. said [] true q (kept ++ left)) (λ left. t None) (Ok false) kept o o (λ left. is)
      (says_serves H K times served (Ok false) kept o o [] true q (stands_then store fits lacks holds holds' r job times kept p served st None (f job left)) (on_present_same (Says [] true (Ok false)) o silence_says)))

  module _ (buckets : Buckets) (all : List ℕ) (more : (part : List ℕ) × (came ++ part ≡ take r.length all)) where
    abbrev bytes : List ℕ
    bytes = take r.length all

    kept_silent : ServesOn (λ left. keeping_turn store r u bytes p (drop r.length all)) (Reached store fits lacks holds' p.store) (known_from store fits lacks p.store) times served (Ok false) kept o o
    kept_silent =
        let c = store.carries p.store r.time (keep u bytes) in
        let q : Serving S = record p { store = c.state } in
        job_silent (keep u bytes) (λ end. end_turn r end c.begun q (drop r.length all)) (drop r.length all) (refl, refl, (more.0, sym more.1)) (ap (λ text. said text true q (drop r.length all)) (none_begun r no_get c.begun))

    left_silent : (code : Code) (rest : List ℕ) → ServesOn (λ left. leaving_turn store r u code bytes p rest) (Reached store fits lacks holds' p.store) (known_from store fits lacks p.store) times served (Ok false) kept o o
    left_silent code rest =
        let c = store.carries p.store r.time (leave u bytes) in
        job_silent (leave u bytes) (λ end. left_turn r code end (record p { store = c.state }) rest) rest (refl, (more.0, tt, sym more.1)) refl

    came_silent : (code : Option Code) → ServesOn (λ left. came_turn store r u code bytes p (drop r.length all)) (Reached store fits lacks holds' p.store) (known_from store fits lacks p.store) times served (Ok false) kept o o
    came_silent (Some code) = left_silent code (drop r.length all)
    came_silent None = kept_silent

    received_silent : (b : Bool) → ServesOn (λ left. if b then came_turn store r u (refusal_of buckets r bytes) bytes p (drop r.length all) else leaving_turn store r u IncompleteBody bytes p all) (Reached store fits lacks holds' p.store) (known_from store fits lacks p.store) times served (Ok false) kept o o
    received_silent true = came_silent (refusal_of buckets r bytes)
    received_silent false = left_silent IncompleteBody all

    stream_silent : ServesOn (λ left. stream_turn store buckets r u p all) (Reached store fits lacks holds' p.store) (known_from store fits lacks p.store) times served (Ok false) kept o o
    unfolding stream_turn
    stream_silent =
        let H = Reached store fits lacks holds' p.store in
        let K = known_from store fits lacks p.store in
        let t : Turn S = received_turn store buckets r u bytes p all in
        coming_serves H K times served (Ok false) kept o o store r u (λ left. bytes) p (λ left. t) (passing_serves H K times served (Ok false) kept o o p (λ left. t) (received_silent (nat_le r.length (length all))))

-- whatever was to come, nothing is answered
pub unneeded_serves : {S : Type 0} (store : Store S) (buckets : Buckets) (fits lacks : S → ℕ → Job → Type 0) (holds holds' : S → Type 0) (r : Request) (no_get : IsNoGet r.ask) (u : Upload) (times : Option (List ℕ)) (before kept : List ℕ) (p : Serving S) (served : Served)
    (st : Stands holds times served p) (came : List ℕ) (f : (job : Job) → IsLeft u came None job → (s : S) → holds s → CarriedOut store fits lacks holds' s r.time job None) (o m : Option Connection) → length came ≤ r.length → OnPresent (λ c d. IsQuiet c d × OnAll (CameFirst came) before kept c d) o m →
    ServesOn (λ left. stream_turn store buckets r u p (before ++ left)) (Reached store fits lacks holds' p.store) (known_from store fits lacks p.store) times served (Ok false) kept o m
unneeded_serves {S} store buckets fits lacks holds holds' r no_get u times before kept p served st came f o m le reads =
    let H = Reached store fits lacks holds' p.store in
    let K = known_from store fits lacks p.store in
    let t : List ℕ → Turn S = λ rest. stream_turn store buckets r u p (came ++ rest) in
    read_then H K times served (Ok false) before kept kept o m m (CameFirst came) (stream_turn store buckets r u p) t reads (λ all rest e. ap (stream_turn store buckets r u p) e)
    (each_left H K times served (Ok false) kept (λ left. t (kept ++ left)) (λ left rest. t (kept ++ left)) (λ left. refl) m m
    (λ left. stream_silent store fits lacks holds holds' r no_get u times kept p served st came f m buckets (came ++ (kept ++ left)) (first_taken (came ++ (kept ++ left)) came (kept ++ left) r.length refl le)))

-- ---- how it ends

-- no more came than was announced
pub needs_within : (u : Upload) (came : List ℕ) (need : Option ℕ) → IsNeedOf u came need → length came ≤ u.length
needs_within u came None h = h
needs_within u came (Some size) h = (let le = h.0 in omega (arith, le))

-- what is known of the call that gives an upload up
pub record LeavesSo {S : Type 0} (store : Store S) (fits lacks : S → ℕ → Job → Type 0) (takes : S → ℕ → Upload → List ℕ → Option ℕ → Type 0) (holds' : S → Type 0) (result : Result Bool ServeFault) : Type 0 where
  pub closes : IfOk result (λ on. on ≡ false)
  pub given_up : OnOk result ((end : Option FlowEnd) × EachLeft takes (λ s time job. CarriedOut store fits lacks holds' s time job end) × EachTaken takes None (λ s time u came. end ≡ None))
  pub causes : IfErr result (IsCause ((need : Option ℕ) → EachTaken takes need (λ s time u came. lacks s time (leave u came))))

module _ {S : Type 0} (store : Store S) (buckets : Buckets) (fits lacks : S → ℕ → Job → Type 0) (takes : S → ℕ → Upload → List ℕ → Option ℕ → Type 0) (holds' : S → Type 0) (r : Request) (u : Upload) (times : Option (List ℕ)) (before kept : List ℕ) (p : Serving S) (served : Served) (came : List ℕ)
    (need : Option ℕ) (st : Stands (λ s. takes s r.time u came need) times served p) (streamed : IsStreamed buckets r u) (needs : IsNeedOf u came need) where
  abbrev pub H : S → Type 0
  H = Reached store fits lacks holds' p.store

  -- so it is served
  abbrev pub ServesSo : Result Bool ServeFault → Option Connection → Option Connection → Type 0
  ServesSo result o n = ServesOn (λ left. stream_turn store buckets r u p (before ++ left)) H (known_from store fits lacks p.store) times served result kept o n

  size_is : u.length ≡ r.length
  size_is = (taken_as buckets.names r.length r.ask u streamed).size_is

  within : length came ≤ r.length
  within = (let le = needs_within u came need needs in let same = size_is in omega (arith, le, same))

  -- serving is given up when it is left
  left_cause : (e : ServeFault) → IsCause ((need : Option ℕ) → EachTaken takes need (λ s time u came. lacks s time (leave u came))) e → IsCause ((length came ≤ r.length) × lacks p.store r.time (leave u came)) e
  left_cause e cause = cause_weaker _ ((length came ≤ r.length) × lacks p.store r.time (leave u came)) e (λ lack. (within, lack need p.store r.time u came st.store)) cause

  pub cut_ends : (result : Result Bool ServeFault) (o n : Option Connection) → NeedsSo Cut need → LeavesSo store fits lacks takes holds' result → OnPresent (CameSo Cut came need before kept) o n → ServesSo result o n
  cut_ends (Err e) o n so left reads = lost_serves store buckets fits lacks r u p H times served before kept came e o n (left_cause e left.causes) reads
  cut_ends (Ok on) o n so left reads =
      let end = left.given_up.0 in
      let f : (s : S) → takes s r.time u came need → CarriedOut store fits lacks holds' s r.time (leave u came) end = λ s h. left.given_up.1 s r.time u came need (leave u came) h (left_so_far u came need) in
      let more : IsNeedOf u came (Some so.0) = subst (IsNeedOf u came) so.1 needs in
      let le = more.0 in
      let some = so.2 in
      let same = size_is in
      let st' = stands_then store fits lacks (λ s. takes s r.time u came need) holds' r (leave u came) times kept p served st end f in
      subst (λ b. ServesSo (Ok b) o n) (sym left.closes) (cut_serves store buckets r u p H (known_from store fits lacks p.store) times served before kept came o n (omega (arith, le, some, same)) size_is reads (f p.store st.store).fit st')

  pub unneeded_ends : (result : Result Bool ServeFault) (o n : Option Connection) → need ≡ None → LeavesSo store fits lacks takes holds' result → OnPresent (CameSo Unneeded came need before kept) o n → ServesSo result o n
  unneeded_ends (Err e) o n none left reads = wants_serves store buckets fits lacks r u p H times served before kept came e o n (left_cause e left.causes) reads
  unneeded_ends (Ok on) o n none left reads =
      let end = left.given_up.0 in
      let st' : Stands (λ s. takes s r.time u came None) times served p = subst (λ x. Stands (λ s. takes s r.time u came x) times served p) none st in
      let silent : end ≡ None = left.given_up.2 p.store r.time u came st'.store in
      let f : (job : Job) → IsLeft u came None job → (s : S) → takes s r.time u came None → CarriedOut store fits lacks holds' s r.time job None =
      λ job is s h. subst (CarriedOut store fits lacks holds' s r.time job) silent (left.given_up.1 s r.time u came None job h is) in
      subst (λ b. ServesSo (Ok b) o n) (sym left.closes)
      (unneeded_serves store buckets fits lacks (λ s. takes s r.time u came None) holds' r (put_is_no_get r.ask (taken_as buckets.names r.length r.ask u streamed).put) u times before kept p served st' came f o n within reads)

  pub short_ends : (result : Result Bool ServeFault) (o m n : Option Connection) → (so : NeedsSo Short need) → OnPresent (CameSo Short came need before kept) o m
      → ServesOn (λ left. passing p (leaving_turn store r u IncompleteBody (came ++ part_of so.0 (kept ++ left)) p (kept ++ left))) H (known_from store fits lacks p.store) times served result kept m n → ServesSo result o n
  short_ends result o m n so reads h =
      let more : IsNeedOf u came (Some so.0) = subst (IsNeedOf u came) so.1 needs in
      let le = more.0 in
      let same = size_is in
      short_serves store buckets r u p H (known_from store fits lacks p.store) times served before kept came so.0 result o m n (omega (arith, le, same)) (subst (λ x. OnPresent (CameSo Short came x before kept) o m) so.1 reads) h

  pub whole_ends : (result : Result Bool ServeFault) (o m n : Option Connection) → need ≡ Some 0 → OnPresent (CameSo Whole came need before kept) o m
      → ServesOn (λ left. passing p (came_turn store r u (refusal_of_sums r came) came p (kept ++ left))) H (known_from store fits lacks p.store) times served result kept m n → ServesSo result o n
  whole_ends result o m n none reads h =
      let all : IsNeedOf u came (Some 0) = subst (IsNeedOf u came) none needs in
      whole_serves store buckets r u p H (known_from store fits lacks p.store) times served before kept came result o m n streamed (all.1 refl ∙ size_is) reads h

-- whatever is known of the call, it leads on
pub left_goes : {S : Type 0} (store : Store S) (fits lacks : S → ℕ → Job → Type 0) (takes : S → ℕ → Upload → List ℕ → Option ℕ → Type 0) (holds' : S → Type 0) (result : Result Bool ServeFault) → LeavesSo store fits lacks takes holds' result → (time : ℕ) (u : Upload) (came : List ℕ) (need : Option ℕ) →
    Goes store fits lacks (λ s. takes s time u came need) holds' result
left_goes {S} store fits lacks takes holds' (Ok on) left time u came need =
    carried_goes store fits lacks (λ s. takes s time u came need) holds' time (leave u came) left.given_up.0 (Ok on) tt (λ s h. left.given_up.1 s time u came need (leave u came) h (left_so_far u came need))
left_goes {S} store fits lacks takes holds' (Err e) left time u came need =
    cause_goes store fits lacks (λ s. takes s time u came need) holds' time (leave u came) Bool e (cause_weaker _ ((s : S) → takes s time u came need → lacks s time (leave u came)) e (λ lack s h. lack need s time u came h) left.causes)
