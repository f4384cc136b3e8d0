-- What is shown of a request on the connection that is present.
use Rattle.std.proofs.Common.{◌≡◌, ℕ, ◌+◌, ◌≤◌, ◌<◌, List, [], ◌∷◌, ◌++◌, map, length, min, suc, Option, Some, None, Bool, true, false, not, Result, Ok, Err, IfErr, refl, sym, ◌∙◌, ap, subst, append_assoc, arith, nat_lt, inl, inr}
use Rattle.std.specs.List.{AllByRecursion}
use Rattle.crdt_core.specs.Members.{OneOf}
use Rattle.std.proofs.lemmas.Bool.{lt-ltb, le-ltb, cond-true, cond-false}
use Rattle.lab_outside.specs.Connection.{Connection, OnPresent, WritesWhole}
use Rattle.lab_outside.specs.Bytes.{Wrote, WrotePrefix}
use Rattle.lab_outside.proofs.Bytes.{wrote_none, wrote_more, wrote_prefix_after, wrote_prefix_more}
use Rattle.lab_outside.specs.Rose.{Rose}
use Rattle.lab_outside.proofs.Present.{on_present, on_present_same, on_present_then}
use Rattle.http_wire.specs.Reading.{on_all, OnAll}
use Rattle.flow_model.specs.declared.flow.FlowEnd.{FlowEnd}
use Rattle.serve_model.specs.declared.served.Served.{Served}
use Rattle.serve_model.specs.declared.served.ServeFault.{ServeFault}
use Rattle.serve_model.specs.declared.served.ServeFault.TheVariants.{Kept, Number, Memory}
use Rattle.serve_model.specs.declared.request.Request.{Request}
use Rattle.serve_model.specs.declared.upload.Upload.{Upload}
use Rattle.serve_model.specs.Stores.{Job, Store, Asking, Leads, Known}
use Rattle.serve_model.specs.Talk.{Serving, goes, exceeds, unless_closed, Stop, Halt, Turn, behind, behind_halt, stop, passing, below, uploading, cut_after, while_coming, having_asked, giving, halts_of, begun_text, after, said, exceeded, counted, counting, kept_limit}
use Rattle.serve_model.specs.Serving.{CarriedOut, Reached, Goes, Says, said as was_said, cut_short, unsaid, Stands, Continues, ComesTo, ComesInto, CutOffAt, GivesUp, IsLostAt, IsSteady, Serves, done, cut_off, limited, given_up, halted, OnLeft, SaysOn, ServesOn}
use Rattle.serve_model.proofs.Ones.{one_weaker, one_mapped, one_right}
use Rattle.serve_loop.specs.Giving.{EndsWith, says, stops}
use Rattle.serve_loop.specs.Taking.{IsQuiet, IsFailed}

-- ---- bytes that are told to be left

pub on_left : (P : List ℕ → Type 0) (o : Option (List ℕ)) → ((left : List ℕ) → o ≡ Some left → P left) → OnLeft P o
on_left P None f = tt
on_left P (Some left) f = f left refl

pub at_left : (P : List ℕ → Type 0) (o : Option (List ℕ)) (left : List ℕ) → o ≡ Some left → OnLeft P o → P left
at_left P o left e h = let Q : Option (List ℕ) → Type 0 = OnLeft P in subst Q e h

-- the bytes that are left after it, and what holds of all
pub record StillTold (P : List ℕ → List ℕ → Type 0) (kept kept' left : List ℕ) (new : Option (List ℕ)) : Type 0 where
  pub then_left : List ℕ
  pub told : new ≡ Some then_left
  pub holds : P (kept ++ left) (kept' ++ then_left)

told_of : (P : List ℕ → List ℕ → Type 0) (kept kept' left : List ℕ) (new : Option (List ℕ)) → on_all P kept kept' (Some left) new → StillTold P kept kept' left new
told_of P kept kept' left None h = absurd h
told_of P kept kept' left (Some left') h = record { then_left = left'; told = refl; holds = h }

still_told : (P : List ℕ → List ℕ → Type 0) (kept kept' left : List ℕ) (old new : Option (List ℕ)) → old ≡ Some left → on_all P kept kept' old new → StillTold P kept kept' left new
still_told P kept kept' left old new e h = let Q : Option (List ℕ) → Type 0 = λ o. on_all P kept kept' o new in told_of P kept kept' left new (subst Q e h)

-- ---- texts

nothing_written : (o : Option (List ℕ)) (text : List ℕ) → WrotePrefix o o text
nothing_written o text = record { front = []; rest = text; whole = refl; wrote = wrote_none o }

pub nothing_after : (c d : Connection) → d.written ≡ c.written → (text : List ℕ) → WrotePrefix c.written d.written text
nothing_after c d e text = let Q : Option (List ℕ) → Type 0 = λ o. WrotePrefix c.written o text in subst Q (sym e) (nothing_written c.written text)

pub whole_says : {E : Type 0} (text : List ℕ) (close : Bool) (c d : Connection) → WritesWhole {E = E} (Ok tt) text c d → Says text close (Ok (not close)) c d
whole_says text close c d w = was_said refl w.ok w.unread w.steady

pub part_says : {E : Type 0} (e : E) (text : List ℕ) (close : Bool) (c d : Connection) → WritesWhole (Err e) text c d → Says text close (Ok false) c d
part_says e text close c d w = cut_short refl w.err w.fault

pub nothing_says : (text : List ℕ) (close : Bool) (c : Connection) → Says text close (Err Memory) c c
nothing_says text close c = unsaid refl refl

pub silence_says : (c : Connection) → Says [] true (Ok false) c c
silence_says c = was_said refl (wrote_none c.written) refl refl

-- ---- how the connection goes on

continues : (close : Bool) (kept left : List ℕ) (told : Option (List ℕ)) → told ≡ Some left → Continues (unless_closed close (kept ++ left)) (not close) kept told
continues true kept left told e = refl
continues false kept left told e =
    let R : Option (List ℕ) → Type 0 = λ l. Continues (goes (kept ++ left)) true kept l in
    subst R (sym e) (refl, refl)

-- ---- why serving is given up

pub gives_up_for : {S : Type 0} (e : ServeFault) (O P : List (Asking S) → Type 0) (xs ys : List (Asking S)) → (O xs → P ys) → GivesUp O xs e → GivesUp P ys e
gives_up_for Kept O P xs ys f h = h
gives_up_for Number O P xs ys f h = f h
gives_up_for Memory O P xs ys f h = h

-- ---- stops

-- it may be cut off before the store is asked
abbrev pub Begins : {S : Type 0} → Turn S → Type 0
Begins t = OneOf (λ stop. stop.asks ≡ []) t.stops

-- and this is served there
abbrev pub BeginsWith : {S : Type 0} → Serving S → Turn S → Type 0
BeginsWith p t = OneOf (λ stop. (stop.asks ≡ []) × (stop.serving ≡ p)) t.stops

module _ {S : Type 0} (fits : Asking S → Type 0) (holds : S → Type 0) (times : Option (List ℕ)) (served : Served) where
  none_asked : (stop : Stop S) → stop.asks ≡ [] → AllByRecursion fits stop.asks
  none_asked stop e = let P : List (Asking S) → Type 0 = AllByRecursion fits in subst P (sym e) tt

  -- nothing was written
  unwritten_comes : (c d : Connection) → d.written ≡ c.written → (t : Turn S) → Begins t → OneOf (ComesTo fits c d) t.stops
  unwritten_comes c d same t b = one_weaker (λ (stop : Stop S). stop.asks ≡ []) (ComesTo fits c d) (λ stop e. (nothing_after c d same stop.text, none_asked stop e)) t.stops b

  -- and it was cut off
  unwritten_cut : (p : Serving S) (c d : Connection) → d.written ≡ c.written → Stands holds times served p → (t : Turn S) → BeginsWith p t → OneOf (CutOffAt fits holds times served c d) t.stops
  unwritten_cut p c d same st t b =
      one_weaker (λ (stop : Stop S). (stop.asks ≡ []) × (stop.serving ≡ p)) (CutOffAt fits holds times served c d)
      (λ stop e. let P : Serving S → Type 0 = Stands holds times served in ((nothing_after c d same stop.text, none_asked stop e.0), subst P (sym e.1) st)) t.stops b

  -- a first part of a text was written that comes before it
  part_cut : (p : Serving S) (text : List ℕ) (c d : Connection) → WrotePrefix c.written d.written text → Stands holds times served p → (t : Turn S) → BeginsWith p t → OneOf (CutOffAt fits holds times served c d) (map (behind text []) t.stops)
  part_cut p text c d w st t b =
      one_mapped (λ (stop : Stop S). (stop.asks ≡ []) × (stop.serving ≡ p)) (CutOffAt fits holds times served c d) (behind text [])
      (λ stop e. let P : Serving S → Type 0 = Stands holds times served in ((wrote_prefix_more c.written d.written text stop.text w, none_asked stop e.0), subst P (sym e.1) st)) t.stops b

  -- a text was written before
  comes_after : (text : List ℕ) (c d f : Connection) → Wrote c.written d.written text → (stop : Stop S) → ComesTo fits d f stop → ComesTo fits c f (behind text [] stop)
  comes_after text c d f first stop h = (wrote_prefix_after c.written d.written f.written text stop.text first h.0, h.1)

-- ---- one request

-- no call failed before, and so it is of one behind it
pub steady_from : {S : Type 0} (fits : Asking S → Type 0) (xs ys : List (Stop S)) (c d f : Connection) → d.faults ≡ c.faults → (OneOf (IsLostAt fits d f) xs → OneOf (IsLostAt fits c f) ys) → IsSteady fits xs d f → IsSteady fits ys c f
steady_from fits xs ys c d f same more (inl none) = inl (none ∙ same)
steady_from fits xs ys c d f same more (inr (rose, lost)) = inr (subst (λ k. Rose k f.faults) same rose, more lost)

-- the places where an upload may be cut off while these bytes come
abbrev cuts_of : {S : Type 0} → Store S → Request → Upload → List ℕ → Serving S → List (Stop S)
cuts_of store q u came p = uploading store q u p ∷ map (cut_after store q u came p) (below (min (suc (length came)) u.length))

module _ {S : Type 0} (holds : S → Type 0) (known : Known S) (times : Option (List ℕ)) (served : Served) where
  module _ (t u : List ℕ → Turn S) (r : Result Bool ServeFault) (kept : List ℕ) (o n : Option Connection) where
    -- from one turn to another, whatever is left
    turn_for_turn : ((left : List ℕ) (c d : Connection) → Serves (t left) holds known times served r kept c d → Serves (u left) holds known times served r kept c d) → ServesOn t holds known times served r kept o n → ServesOn u holds known times served r kept o n
    turn_for_turn f h =
        on_present (λ c d. OnLeft (λ left. Serves (t left) holds known times served r kept c d) c.left) (λ c d. OnLeft (λ left. Serves (u left) holds known times served r kept c d) c.left) o n
        (λ c d x. on_left (λ left. Serves (u left) holds known times served r kept c d) c.left (λ left e. f left c d (at_left (λ l. Serves (t l) holds known times served r kept c d) c.left left e x))) h

    -- a turn that is stated in another way
    pub serves_same : ((left : List ℕ) → u left ≡ t left) → ServesOn t holds known times served r kept o n → ServesOn u holds known times served r kept o n
    serves_same same h = turn_for_turn (λ left c d s. let Q : Turn S → Type 0 = λ v. Serves v holds known times served r kept c d in subst Q (sym (same left)) s) h

  module _ (r : Result Bool ServeFault) (kept : List ℕ) (t : List ℕ → Turn S) (each : List ℕ → List ℕ → Turn S) (same : (left : List ℕ) → t left ≡ each left left) where
    -- whatever is left, as it is for what is left
    pub each_left : (o n : Option Connection) → ((left : List ℕ) → ServesOn (each left) holds known times served r kept o n) → ServesOn t holds known times served r kept o n
    each_left None n h = tt
    each_left (Some c) None h = absurd (h [])
    each_left (Some c) (Some d) h =
        on_left (λ left. Serves (t left) holds known times served r kept c d) c.left
        (λ left told. let Q : Turn S → Type 0 = λ v. Serves v holds known times served r kept c d in subst Q (sym (same left)) (at_left (λ l. Serves (each left l) holds known times served r kept c d) c.left left told (h left)))

  passing_one : (p : Serving S) (t : Turn S) (r : Result Bool ServeFault) (kept : List ℕ) (c d : Connection) → Serves t holds known times served r kept c d → Serves (passing p t) holds known times served r kept c d
  passing_one p t r kept c d (done on ok w all st go n) = done on ok w all st go n
  passing_one p t r kept c d (cut_off ok n at) = cut_off ok n (inr at)
  passing_one p t r kept c d (limited err is w all n) = limited err is w all n
  passing_one p t r kept c d (given_up e err why at n) = given_up e err why (inr at) (steady_from known.fits t.stops (stop [] p ∷ t.stops) c c d refl (λ lost. inr lost) n)
  passing_one p t r kept c d (halted e err why at n) = halted e err why at n

  -- places more behind the first one
  among_cuts : (P : Stop S → Type 0) (store : Store S) (q : Request) (u : Upload) (came : List ℕ) (p : Serving S) (others : List (Stop S)) → OneOf P (stop [] p ∷ others) → OneOf P (stop [] p ∷ (cuts_of store q u came p ++ others))
  among_cuts P store q u came p others (inl at) = inl at
  among_cuts P store q u came p others (inr at) = inr (one_right P (cuts_of store q u came p) others at)

  coming_one : (store : Store S) (q : Request) (u : Upload) (came : List ℕ) (p : Serving S) (t : Turn S) (r : Result Bool ServeFault) (kept : List ℕ) (c d : Connection) → Serves (passing p t) holds known times served r kept c d
      → Serves (passing p (while_coming store q u came p t)) holds known times served r kept c d
  coming_one store q u came p t r kept c d (done on ok w all st go n) = done on ok w all st go n
  coming_one store q u came p t r kept c d (cut_off ok n at) = cut_off ok n (among_cuts (CutOffAt known.fits holds times served c d) store q u came p t.stops at)
  coming_one store q u came p t r kept c d (limited err is w all n) = limited err is w all n
  coming_one store q u came p t r kept c d (given_up e err why at n) =
      given_up e err why (among_cuts (ComesTo known.fits c d) store q u came p t.stops at)
      (steady_from known.fits (stop [] p ∷ t.stops) (stop [] p ∷ (cuts_of store q u came p ++ t.stops)) c c d refl (among_cuts (IsLostAt known.fits c d) store q u came p t.stops) n)
  coming_one store q u came p t r kept c d (halted e err why at n) = halted e err why at n

  giving_one : (q : Request) (a : Asking S) (t : Turn S) (r : Result Bool ServeFault) (kept : List ℕ) (c d : Connection) → Serves t holds known times served r kept c d → Serves (giving q a t) holds known times served r kept c d
  giving_one q a t r kept c d (done on ok w all st go n) = done on ok w all st go n
  giving_one q a t r kept c d (cut_off ok n at) = cut_off ok n at
  giving_one q a t r kept c d (limited err is w all n) = limited err is w all n
  giving_one q a t r kept c d (given_up e err why at n) = given_up e err why at n
  giving_one q a t r kept c d (halted e err why at n) = halted e err why (one_right (ComesInto known c d) (halts_of a.job q a) t.halts at) n

  asked_one : (a : Asking S) (t : Turn S) (r : Result Bool ServeFault) (kept : List ℕ) (c d : Connection) → known.fits a → (known.overflows t.asks → known.overflows (a ∷ t.asks)) → Serves t holds known times served r kept c d → Serves (having_asked a t) holds known times served r kept c d
  asked_one a t r kept c d fit f (done on ok w all st go n) = done on ok w (fit, all) st go n
  asked_one a t r kept c d fit f (cut_off ok n at) =
      cut_off ok n (one_mapped (CutOffAt known.fits holds times served c d) (CutOffAt known.fits holds times served c d) (behind [] (a ∷ [])) (λ stop h. ((h.0.0, (fit, h.0.1)), h.1)) t.stops at)
  asked_one a t r kept c d fit f (limited err is w all n) = limited err is w (fit, all) n
  asked_one a t r kept c d fit f (given_up e err why at n) =
      given_up e err (gives_up_for e known.overflows known.overflows t.asks (a ∷ t.asks) f why) (one_mapped (ComesTo known.fits c d) (ComesTo known.fits c d) (behind [] (a ∷ [])) (λ stop h. (h.0, (fit, h.1))) t.stops at)
      (steady_from known.fits t.stops (map (behind [] (a ∷ [])) t.stops) c c d refl (one_mapped (IsLostAt known.fits c d) (IsLostAt known.fits c d) (behind [] (a ∷ [])) (λ stop h. ((h.0.0, (fit, h.0.1)), h.1)) t.stops) n)
  asked_one a t r kept c d fit f (halted e err why at n) =
      halted e err (gives_up_for e known.overflows known.overflows t.asks (a ∷ t.asks) f why) (one_mapped (ComesInto known c d) (ComesInto known c d) (behind_halt [] (a ∷ [])) (λ halt h. (h.0, h.1, h.2, (fit, h.3))) t.halts at) n

  -- a text was written before a get
  into_after : (text : List ℕ) (c d f : Connection) → Wrote c.written d.written text → (halt : Halt S) → ComesInto known d f halt → ComesInto known c f (behind_halt text [] halt)
  into_after text c d f first halt h =
      let more = begun_text halt.request (Some h.0) in
      let P : List ℕ → Type 0 = WrotePrefix c.written f.written in
      (h.0, h.1, subst P (sym (append_assoc text halt.text more)) (wrote_prefix_after c.written d.written f.written text (halt.text ++ more) first h.2), h.3)

  after_one : (text : List ℕ) (t : Turn S) (r : Result Bool ServeFault) (kept : List ℕ) (c d f : Connection) → Wrote c.written d.written text → d.faults ≡ c.faults → Serves t holds known times served r kept d f → Serves (after text t) holds known times served r kept c f
  after_one text t r kept c d f first same (done on ok w all st go n) = done on ok (wrote_more c.written d.written f.written text t.text first w) all st go (n ∙ same)
  after_one text t r kept c d f first same (cut_off ok n at) =
      cut_off ok (subst (λ k. Rose k f.faults) same n)
      (one_mapped (CutOffAt known.fits holds times served d f) (CutOffAt known.fits holds times served c f) (behind text []) (λ stop h. (comes_after known.fits holds times served text c d f first stop h.0, h.1)) t.stops at)
  after_one text t r kept c d f first same (limited err is w all n) = limited err is (wrote_more c.written d.written f.written text t.text first w) all (n ∙ same)
  after_one text t r kept c d f first same (given_up e err why at n) =
      given_up e err why (one_mapped (ComesTo known.fits d f) (ComesTo known.fits c f) (behind text []) (comes_after known.fits holds times served text c d f first) t.stops at)
      (steady_from known.fits t.stops (map (behind text []) t.stops) c d f same (one_mapped (IsLostAt known.fits d f) (IsLostAt known.fits c f) (behind text []) (λ stop h. (comes_after known.fits holds times served text c d f first stop h.0, h.1)) t.stops) n)
  after_one text t r kept c d f first same (halted e err why at n) =
      halted e err why (one_mapped (ComesInto known d f) (ComesInto known c f) (behind_halt text []) (into_after text c d f first) t.halts at) (omega (arith, same, n))

  says_one : (text : List ℕ) (close : Bool) (p : Serving S) (kept left : List ℕ) (r : Result Bool ServeFault) (c d : Connection) → c.left ≡ Some left → Stands holds times served p → Says text close r c d → Serves (said text close p (kept ++ left)) holds known times served r kept c d
  says_one text close p kept left r c d told st (was_said ok w l n) = done (not close) ok w tt st (continues close kept left d.left (l ∙ told)) n
  says_one text close p kept left r c d told st (cut_short ok w n) = cut_off ok n (inl ((w, tt), st))
  says_one text close p kept left r c d told st (unsaid err same) =
      let P : Connection → Type 0 = λ x. WrotePrefix c.written x.written text in
      given_up Memory err tt (inl (subst P (sym same) (nothing_written c.written text), tt)) (inl (ap (λ (x : Connection). x.faults) same))

  ends_one : (text : List ℕ) (close : Bool) (p : Serving S) (kept left : List ℕ) (r : Result Bool ServeFault) (c d : Connection) → c.left ≡ Some left → Stands holds times served p → EndsWith text close r c d → Serves (said text close p (kept ++ left)) holds known times served r kept c d
  ends_one text close p kept left r c d told st (says h) = says_one text close p kept left r c d told st h
  ends_one text close p kept left r c d told st (stops err part same) = given_up Memory err tt (inl (part, tt)) (inl same)

  module _ (r : Result Bool ServeFault) (kept : List ℕ) (o n : Option Connection) where
    -- an answer was written
    pub says_serves : (text : List ℕ) (close : Bool) (p : Serving S) → Stands holds times served p → SaysOn text close r o n → ServesOn (λ left. said text close p (kept ++ left)) holds known times served r kept o n
    says_serves text close p st h =
        on_present (Says text close r) (λ c d. OnLeft (λ left. Serves (said text close p (kept ++ left)) holds known times served r kept c d) c.left) o n
        (λ c d s. on_left (λ left. Serves (said text close p (kept ++ left)) holds known times served r kept c d) c.left (λ left e. says_one text close p kept left r c d e st s)) h

    -- the same, or a first part of it, as memory was wanting
    pub ends_serves : (text : List ℕ) (close : Bool) (p : Serving S) → Stands holds times served p → OnPresent (EndsWith text close r) o n → ServesOn (λ left. said text close p (kept ++ left)) holds known times served r kept o n
    ends_serves text close p st h =
        on_present (EndsWith text close r) (λ c d. OnLeft (λ left. Serves (said text close p (kept ++ left)) holds known times served r kept c d) c.left) o n
        (λ c d s. on_left (λ left. Serves (said text close p (kept ++ left)) holds known times served r kept c d) c.left (λ left e. ends_one text close p kept left r c d e st s)) h

    -- a stop more
    pub passing_serves : (p : Serving S) (t : List ℕ → Turn S) → ServesOn t holds known times served r kept o n → ServesOn (λ left. passing p (t left)) holds known times served r kept o n
    passing_serves p t h = turn_for_turn t (λ left. passing p (t left)) r kept o n (λ left c d s. passing_one p (t left) r kept c d s) h

    -- a get more in which serving may be given up
    pub giving_serves : (q : Request) (a : Asking S) (t : List ℕ → Turn S) → ServesOn t holds known times served r kept o n → ServesOn (λ left. giving q a (t left)) holds known times served r kept o n
    giving_serves q a t h = turn_for_turn t (λ left. giving q a (t left)) r kept o n (λ left c d s. giving_one q a (t left) r kept c d s) h

    -- places more, while the bytes of an upload come
    pub coming_serves : (store : Store S) (q : Request) (u : Upload) (came : List ℕ → List ℕ) (p : Serving S) (t : List ℕ → Turn S) → ServesOn (λ left. passing p (t left)) holds known times served r kept o n
        → ServesOn (λ left. passing p (while_coming store q u (came left) p (t left))) holds known times served r kept o n
    coming_serves store q u came p t h =
        turn_for_turn (λ left. passing p (t left)) (λ left. passing p (while_coming store q u (came left) p (t left))) r kept o n (λ left c d s. coming_one store q u (came left) p (t left) r kept c d s) h

    -- the store was asked this before
    pub asked_serves : (a : Asking S) (t : List ℕ → Turn S) → known.fits a → ((asks : List (Asking S)) → known.overflows asks → known.overflows (a ∷ asks)) → ServesOn t holds known times served r kept o n → ServesOn (λ left. having_asked a (t left)) holds known times served r kept o n
    asked_serves a t fit f h = turn_for_turn t (λ left. having_asked a (t left)) r kept o n (λ left c d s. asked_one a (t left) r kept c d fit (f (t left).asks) s) h

  -- nothing was done, and serving is given up
  pub gives_up : (t : List ℕ → Turn S) (e : ServeFault) (kept : List ℕ) (o : Option Connection) → ((left : List ℕ) → Begins (t left)) → ((left : List ℕ) → GivesUp known.overflows (t left).asks e) → ServesOn t holds known times served (Err e) kept o o
  gives_up t e kept o begins why =
      on_present_same (λ c d. OnLeft (λ left. Serves (t left) holds known times served (Err e) kept c d) c.left) o
      (λ c. on_left (λ left. Serves (t left) holds known times served (Err e) kept c c) c.left (λ left told. given_up e refl (why left) (unwritten_comes known.fits holds times served c c refl (t left) (begins left)) (inl refl)))

  -- too many bytes were put or copied
  pub is_limited : (t : List ℕ → Turn S) (kept : List ℕ) (o : Option Connection) → ((left : List ℕ) → (t left).next ≡ exceeds) → ((left : List ℕ) → (t left).text ≡ []) → ((left : List ℕ) → (t left).asks ≡ []) → ServesOn t holds known times served (Err Kept) kept o o
  is_limited t kept o next text asks =
      on_present_same (λ c d. OnLeft (λ left. Serves (t left) holds known times served (Err Kept) kept c d) c.left) o
      (λ c. on_left (λ left. Serves (t left) holds known times served (Err Kept) kept c c) c.left
      (λ left told.
      let Q : List ℕ → Type 0 = Wrote c.written c.written in
      let P : List (Asking S) → Type 0 = AllByRecursion known.fits in
      limited refl (next left) (subst Q (sym (text left)) (wrote_none c.written)) (subst P (sym (asks left)) tt) refl))

  -- something was written before
  pub after_serves : (E : Type 0) (text : List ℕ) (t : List ℕ → Turn S) (r : Result Bool ServeFault) (kept : List ℕ) (o m n : Option Connection) → OnPresent (WritesWhole {E = E} (Ok tt) text) o m → ServesOn t holds known times served r kept m n → ServesOn (λ left. after text (t left)) holds known times served r kept o n
  after_serves E text t r kept o m n w h =
      on_present_then (WritesWhole {E = E} (Ok tt) text) (λ c d. OnLeft (λ left. Serves (t left) holds known times served r kept c d) c.left) (λ c d. OnLeft (λ left. Serves (after text (t left)) holds known times served r kept c d) c.left) o m n
      (λ c d f a s. on_left (λ left. Serves (after text (t left)) holds known times served r kept c f) c.left
      (λ left e. after_one text (t left) r kept c d f a.ok a.steady (at_left (λ l. Serves (t l) holds known times served r kept d f) d.left left (a.unread ∙ e) s))) w h

  -- it wasn't written whole
  pub part_serves : {E : Type 0} (e : E) (text : List ℕ) (t : List ℕ → Turn S) (p : Serving S) (kept : List ℕ) (o n : Option Connection) → Stands holds times served p → ((left : List ℕ) → BeginsWith p (t left)) → OnPresent (WritesWhole (Err e) text) o n → ServesOn (λ left. after text (t left)) holds known times served (Ok false) kept o n
  part_serves e text t p kept o n st begins w =
      on_present (WritesWhole (Err e) text) (λ c d. OnLeft (λ left. Serves (after text (t left)) holds known times served (Ok false) kept c d) c.left) o n
      (λ c d a. on_left (λ left. Serves (after text (t left)) holds known times served (Ok false) kept c d) c.left
      (λ left told. cut_off refl a.fault (part_cut known.fits holds times served p text c d a.err st (t left) (begins left)))) w

-- ---- what reading leaves

module _ {S : Type 0} (holds : S → Type 0) (known : Known S) (times : Option (List ℕ)) (served : Served) (r : Result Bool ServeFault) (kept kept' new : List ℕ) (o m n : Option Connection) where
  quiet_comes : (c d f : Connection) → IsQuiet c d → (stop : Stop S) → ComesTo known.fits d f stop → ComesTo known.fits c f stop
  quiet_comes c d f q stop h =
      let Q : Option (List ℕ) → Type 0 = λ x. Wrote c.written x [] in
      (wrote_prefix_after c.written d.written f.written [] stop.text (subst Q (sym q.unwritten) (wrote_none c.written)) h.0, h.1)

  quiet_into : (c d f : Connection) → IsQuiet c d → (halt : Halt S) → ComesInto known d f halt → ComesInto known c f halt
  quiet_into c d f q halt h =
      let Q : Option (List ℕ) → Type 0 = λ x. Wrote c.written x [] in
      (h.0, h.1, wrote_prefix_after c.written d.written f.written [] (halt.text ++ begun_text halt.request (Some h.0)) (subst Q (sym q.unwritten) (wrote_none c.written)) h.2, h.3)

  quiet_wrote : (c d f : Connection) (text : List ℕ) → IsQuiet c d → Wrote d.written f.written text → Wrote c.written f.written text
  quiet_wrote c d f text q w =
      let Q : Option (List ℕ) → Type 0 = λ x. Wrote c.written x [] in
      wrote_more c.written d.written f.written [] text (subst Q (sym q.unwritten) (wrote_none c.written)) w

  quiet_one : (t : Turn S) (c d f : Connection) → IsQuiet c d → Serves t holds known times served r new d f → Serves t holds known times served r new c f
  quiet_one t c d f q (done on ok w all st go n) = done on ok (quiet_wrote c d f t.text q w) all st go (n ∙ q.steady)
  quiet_one t c d f q (cut_off ok n at) =
      cut_off ok (subst (λ k. Rose k f.faults) q.steady n) (one_weaker (CutOffAt known.fits holds times served d f) (CutOffAt known.fits holds times served c f) (λ stop h. (quiet_comes c d f q stop h.0, h.1)) t.stops at)
  quiet_one t c d f q (limited err is w all n) = limited err is (quiet_wrote c d f t.text q w) all (n ∙ q.steady)
  quiet_one t c d f q (given_up e err why at n) =
      given_up e err why (one_weaker (ComesTo known.fits d f) (ComesTo known.fits c f) (quiet_comes c d f q) t.stops at)
      (steady_from known.fits t.stops t.stops c d f q.steady (one_weaker (IsLostAt known.fits d f) (IsLostAt known.fits c f) (λ stop h. (quiet_comes c d f q stop h.0, h.1)) t.stops) n)
  quiet_one t c d f q (halted e err why at n) = halted e err why (one_weaker (ComesInto known d f) (ComesInto known c f) (quiet_into c d f q) t.halts at) (let same = q.steady in omega (arith, same, n))

  -- bytes were read, and what is stated of all of them is what is stated so of the rest, which was served
  pub read_then : (P : List ℕ → List ℕ → Type 0) (t u : List ℕ → Turn S) → OnPresent (λ c d. IsQuiet c d × OnAll P kept kept' c d) o m → ((all rest : List ℕ) → P all rest → t all ≡ u rest)
      → ServesOn (λ left. u (kept' ++ left)) holds known times served r new m n → ServesOn (λ left. t (kept ++ left)) holds known times served r new o n
  read_then P t u reads same h =
      on_present_then (λ c d. IsQuiet c d × OnAll P kept kept' c d) (λ c d. OnLeft (λ left. Serves (u (kept' ++ left)) holds known times served r new c d) c.left) (λ c d. OnLeft (λ left. Serves (t (kept ++ left)) holds known times served r new c d) c.left) o m n
      (λ c d f a s. on_left (λ left. Serves (t (kept ++ left)) holds known times served r new c f) c.left
      (λ left e.
      let x = still_told P kept kept' left c.left d.left e a.1 in
      let Q : Turn S → Type 0 = λ v. Serves v holds known times served r new c f in
      subst Q (sym (same (kept ++ left) (kept' ++ x.then_left) x.holds))
      (quiet_one (u (kept' ++ x.then_left)) c d f a.0 (at_left (λ l. Serves (u (kept' ++ l)) holds known times served r new d f) d.left x.then_left x.told s)))) reads h

-- ---- while bytes come

module _ {S : Type 0} (holds : S → Type 0) (known : Known S) (times : Option (List ℕ)) (served : Served) (kept kept' new : List ℕ) (o n : Option Connection) (P : List ℕ → List ℕ → Type 0) (t : List ℕ → Turn S) where
  -- a read failed, and it was cut off at one of the stops that there are then
  pub cut_while : ((all rest : List ℕ) (c d : Connection) → P all rest → d.written ≡ c.written → OneOf (CutOffAt known.fits holds times served c d) (t all).stops) → OnPresent (λ c d. IsFailed c d × OnAll P kept kept' c d) o n
      → ServesOn (λ left. t (kept ++ left)) holds known times served (Ok false) new o n
  cut_while cuts reads =
      on_present (λ c d. IsFailed c d × OnAll P kept kept' c d) (λ c d. OnLeft (λ left. Serves (t (kept ++ left)) holds known times served (Ok false) new c d) c.left) o n
      (λ c d a. on_left (λ left. Serves (t (kept ++ left)) holds known times served (Ok false) new c d) c.left
      (λ left e. let x = still_told P kept kept' left c.left d.left e a.1 in cut_off refl a.0.rose (cuts (kept ++ left) (kept' ++ x.then_left) c d x.holds a.0.unwritten))) reads

  -- serving is given up, and nothing was written
  pub given_up_while : (e : ServeFault) → ((all : List ℕ) → Begins (t all)) → ((all rest : List ℕ) → P all rest → GivesUp known.overflows (t all).asks e) → OnPresent (λ c d. IsQuiet c d × OnAll P kept kept' c d) o n
      → ServesOn (λ left. t (kept ++ left)) holds known times served (Err e) new o n
  given_up_while e begins why reads =
      on_present (λ c d. IsQuiet c d × OnAll P kept kept' c d) (λ c d. OnLeft (λ left. Serves (t (kept ++ left)) holds known times served (Err e) new c d) c.left) o n
      (λ c d a. on_left (λ left. Serves (t (kept ++ left)) holds known times served (Err e) new c d) c.left
      (λ left told.
      let x = still_told P kept kept' left c.left d.left told a.1 in
      given_up e refl (why (kept ++ left) (kept' ++ x.then_left) x.holds) (unwritten_comes known.fits holds times served c d a.0.unwritten (t (kept ++ left)) (begins (kept ++ left))) (inl a.0.steady))) reads

  -- the same, as an upload is given up whose client was lost
  pub lost_while : (e : ServeFault) → ((all : List ℕ) → Begins (t all)) → ((all : List ℕ) (c d : Connection) → d.written ≡ c.written → OneOf (IsLostAt known.fits c d) (t all).stops) → ((all rest : List ℕ) → P all rest → GivesUp known.overflows (t all).asks e)
      → OnPresent (λ c d. IsFailed c d × OnAll P kept kept' c d) o n → ServesOn (λ left. t (kept ++ left)) holds known times served (Err e) new o n
  lost_while e begins lost why reads =
      on_present (λ c d. IsFailed c d × OnAll P kept kept' c d) (λ c d. OnLeft (λ left. Serves (t (kept ++ left)) holds known times served (Err e) new c d) c.left) o n
      (λ c d a. on_left (λ left. Serves (t (kept ++ left)) holds known times served (Err e) new c d) c.left
      (λ left told.
      let x = still_told P kept kept' left c.left d.left told a.1 in
      given_up e refl (why (kept ++ left) (kept' ++ x.then_left) x.holds) (unwritten_comes known.fits holds times served c d a.0.unwritten (t (kept ++ left)) (begins (kept ++ left)))
      (inr (a.0.rose, lost (kept ++ left) c d a.0.unwritten)))) reads

-- nothing was read
all_same : (P : List ℕ → List ℕ → Type 0) (kept : List ℕ) (o : Option (List ℕ)) → ((all : List ℕ) → P all all) → on_all P kept kept o o
all_same P kept None f = tt
all_same P kept (Some left) f = f (kept ++ left)

pub none_read : (P : List ℕ → List ℕ → Type 0) (kept : List ℕ) (o : Option Connection) → ((all : List ℕ) → P all all) → OnPresent (λ c d. IsQuiet c d × OnAll P kept kept c d) o o
none_read P kept o f = on_present_same (λ c d. IsQuiet c d × OnAll P kept kept c d) o (λ c. (record { unwritten = refl; steady = refl }, all_same P kept c.left f))

-- less is said of it
pub all_weaker : (P Q : List ℕ → List ℕ → Type 0) (kept kept' : List ℕ) (o n : Option (List ℕ)) → ((all rest : List ℕ) → P all rest → Q all rest) → on_all P kept kept' o n → on_all Q kept kept' o n
all_weaker P Q kept kept' None n f h = tt
all_weaker P Q kept kept' (Some left) None f h = absurd h
all_weaker P Q kept kept' (Some left) (Some later) f h = f (kept ++ left) (kept' ++ later) h

-- more was read
pub all_more : (P Q R : List ℕ → List ℕ → Type 0) (kept mid new : List ℕ) (a b c : Option (List ℕ)) → ((all more rest : List ℕ) → P all more → Q more rest → R all rest) → on_all P kept mid a b → on_all Q mid new b c → on_all R kept new a c
all_more P Q R kept mid new None b c f h k = tt
all_more P Q R kept mid new (Some x) None c f h k = absurd h
all_more P Q R kept mid new (Some x) (Some y) None f h k = absurd k
all_more P Q R kept mid new (Some x) (Some y) (Some z) f h k = f (kept ++ x) (mid ++ y) (new ++ z) h k

module _ {S : Type 0} (holds : S → Type 0) (known : Known S) (times : Option (List ℕ)) (served : Served) (kept : List ℕ) (o n : Option Connection) (t : List ℕ → Turn S) where
  -- a read failed
  pub read_fails : (p : Serving S) → Stands holds times served p → ((left : List ℕ) → BeginsWith p (t left)) → OnPresent IsFailed o n → ServesOn t holds known times served (Ok false) kept o n
  read_fails p st begins reads =
      on_present IsFailed (λ c d. OnLeft (λ left. Serves (t left) holds known times served (Ok false) kept c d) c.left) o n
      (λ c d a. on_left (λ left. Serves (t left) holds known times served (Ok false) kept c d) c.left (λ left told. cut_off refl a.rose (unwritten_cut known.fits holds times served p c d a.unwritten st (t left) (begins left)))) reads

  -- memory was wanting
  pub read_wants : ((left : List ℕ) → Begins (t left)) → OnPresent IsQuiet o n → ServesOn t holds known times served (Err Memory) kept o n
  read_wants begins reads =
      on_present IsQuiet (λ c d. OnLeft (λ left. Serves (t left) holds known times served (Err Memory) kept c d) c.left) o n
      (λ c d q. on_left (λ left. Serves (t left) holds known times served (Err Memory) kept c d) c.left (λ left told. given_up Memory refl tt (unwritten_comes known.fits holds times served c d q.unwritten (t left) (begins left)) (inl q.steady))) reads

-- ---- bytes that are counted

counting_within : {S : Type 0} (size : ℕ) (p : Serving S) (go : Serving S → Turn S) → p.kept + size ≤ kept_limit → counting size p go ≡ go (counted size p)
unfolding counting
counting_within size p go le = cond-false (nat_lt kept_limit (p.kept + size)) (exceeded (counted size p)) (go (counted size p)) (le-ltb kept_limit (p.kept + size) le)

counting_beyond : {S : Type 0} (size : ℕ) (p : Serving S) (go : Serving S → Turn S) → kept_limit < p.kept + size → counting size p go ≡ exceeded (counted size p)
unfolding counting
counting_beyond size p go lt = cond-true (nat_lt kept_limit (p.kept + size)) (exceeded (counted size p)) (go (counted size p)) (lt-ltb kept_limit (p.kept + size) lt)

module _ {S : Type 0} (holds : S → Type 0) (known : Known S) (times : Option (List ℕ)) (size : ℕ) (p : Serving S) (go : List ℕ → Serving S → Turn S) (kept : List ℕ) where
  -- they aren't too many
  pub counting_serves : (served old : Served) (r : Result Bool ServeFault) (o n : Option Connection) → old.kept ≡ p.kept → old.kept + size ≤ kept_limit → ServesOn (λ left. go left (counted size p)) holds known times served r kept o n → ServesOn (λ left. counting size p (go left)) holds known times served r kept o n
  counting_serves served old r o n is le h =
      serves_same holds known times served (λ left. go left (counted size p)) (λ left. counting size p (go left)) r kept o n (λ left. counting_within size p (go left) (let Q : ℕ → Type 0 = λ k. k + size ≤ kept_limit in subst Q is le)) h

  pub counting_limits : (served old : Served) (o : Option Connection) → old.kept ≡ p.kept → kept_limit < old.kept + size → ServesOn (λ left. counting size p (go left)) holds known times served (Err Kept) kept o o
  counting_limits served old o is lt =
      let more : kept_limit < p.kept + size = let Q : ℕ → Type 0 = λ k. kept_limit < k + size in subst Q is lt in
      is_limited holds known times served (λ left. counting size p (go left)) kept o
      (λ left. ap (λ (t : Turn S). t.next) (counting_beyond size p (go left) more)) (λ left. ap (λ (t : Turn S). t.text) (counting_beyond size p (go left) more)) (λ left. ap (λ (t : Turn S). t.asks) (counting_beyond size p (go left) more))

-- what is counted
pub stands_counted : {S : Type 0} (holds : S → Type 0) (times : Option (List ℕ)) (old new : Served) (size : ℕ) (p : Serving S) → new.kept ≡ old.kept + size → new.time ≡ old.time → Stands holds times old p → Stands holds times new (counted size p)
stands_counted holds times old new size p kept time st = record { store = st.store; clock = st.clock; time = time ∙ st.time; kept = kept ∙ ap (λ k. k + size) st.kept }

-- ---- the states to which jobs lead

module _ {S : Type 0} (store : Store S) (fits lacks : S → ℕ → Job → Type 0) where
  pub leads_none : (s : S) → Leads store fits s s
  leads_none s = record { jobs = []; after = refl; fit = tt }

  pub here_reached : (holds : S → Type 0) (s : S) → holds s → Reached store fits lacks holds s s
  here_reached holds s st = (st, leads_none s)

  pub stands_here : (holds : S → Type 0) (times : Option (List ℕ)) (served : Served) (p : Serving S) → Stands holds times served p → Stands (Reached store fits lacks holds p.store) times served p
  stands_here holds times served p st = record { store = (st.store, leads_none p.store); clock = st.clock; time = st.time; kept = st.kept }

  -- after a job
  pub carried_reached : (holds : S → Type 0) (s : S) (time : ℕ) (job : Job) (end : Option FlowEnd) → CarriedOut store fits lacks holds s time job end → Reached store fits lacks holds s (store.carries s time job).state
  carried_reached holds s time job end h = (h.stands, record { jobs = (time, job) ∷ []; after = refl; fit = (h.fit, tt) })

  pub carried_goes : (holds holds' : S → Type 0) (time : ℕ) (job : Job) (end : Option FlowEnd) (r : Result Bool ServeFault) → IfErr r (λ e. e ≡ Memory) → ((s : S) → holds s → CarriedOut store fits lacks holds' s time job end) → Goes store fits lacks holds holds' r
  carried_goes holds holds' time job end (Ok b) cause h = λ s st. ((store.carries s time job).state, carried_reached holds' s time job end (h s st))
  carried_goes holds holds' time job end (Err Kept) cause h = λ s st. ((store.carries s time job).state, carried_reached holds' s time job end (h s st))
  carried_goes holds holds' time job end (Err Number) cause h = absurd (wrong cause)
    where
      wrong : Number ≡ Memory → ⊥
      wrong e = cc
  carried_goes holds holds' time job end (Err Memory) cause h = tt

  pub carried_limits : (holds holds' : S → Type 0) (time : ℕ) (job : Job) (end : Option FlowEnd) → ((s : S) → holds s → CarriedOut store fits lacks holds' s time job end) → Goes store fits lacks {A = Bool} holds holds' (Err Kept)
  carried_limits holds holds' time job end h = λ s st. ((store.carries s time job).state, carried_reached holds' s time job end (h s st))

  -- the store wasn't asked
  pub goes_here : (holds : S → Type 0) (r : Result Bool ServeFault) → IfErr r (λ e. e ≡ Memory) → Goes store fits lacks holds holds r
  goes_here holds (Ok b) cause = λ s st. (s, (st, leads_none s))
  goes_here holds (Err Kept) cause = λ s st. (s, (st, leads_none s))
  goes_here holds (Err Number) cause = absurd (wrong cause)
    where
      wrong : Number ≡ Memory → ⊥
      wrong e = cc
  goes_here holds (Err Memory) cause = tt

  pub limits_here : (holds : S → Type 0) → Goes store fits lacks {A = Bool} holds holds (Err Kept)
  limits_here holds = λ s st. (s, (st, leads_none s))

-- ---- two facts of one call

pub on_present_both : (A B T : Connection → Connection → Type 0) (o n : Option Connection) → ((c d : Connection) → A c d → B c d → T c d) → OnPresent A o n → OnPresent B o n → OnPresent T o n
on_present_both A B T None n f h k = tt
on_present_both A B T (Some c) None f h k = absurd h
on_present_both A B T (Some c) (Some d) f h k = f c d h k
