-- Connections, served one after the other.
use Rattle.std.proofs.Common.{◌≡◌, ℕ, ◌+◌, List, [], ◌∷◌, ◌++◌, arith, length, length-append, Option, Some, None, IsSome, IfSome, option_to_list, true, false, Result, Ok, Err, OnOk, inl, inr, refl, sym, ◌∙◌, ap, subst, append_assoc, append-nil}
use Rattle.std.specs.Prelude.{is_err}
use Rattle.lab_outside.specs.Connection.{Connection, IsFresh, OnPresent, TakesNext}
use Rattle.lab_outside.specs.Rose.{Rose}
use Rattle.lab_outside.specs.Bytes.{Wrote, WrotePrefix}
use Rattle.serve_model.specs.declared.buckets.Buckets.{Buckets}
use Rattle.serve_model.specs.declared.served.Served.{Served}
use Rattle.serve_model.specs.declared.served.ServeFault.{ServeFault}
use Rattle.serve_model.specs.declared.served.ServeFault.TheVariants.{Kept}
use Rattle.serve_model.specs.Stores.{Job, Given, Store, Asking, fits_asking, gives_asked, Known, OverflowsAmong, known_from}
use Rattle.serve_model.specs.Talk.{Grammar, Serving, Stop, Halt, begun_text, talk, request_limit}
use Rattle.serve_model.specs.Serving.{Reached, ComesTo, ComesInto, CutOffAt, GivesUp, IsLostAt, IsSteady, Stands, OnLeft}
use Rattle.serve_model.specs.Connections.{Talks, whole, cut_off, limited, given_up, halted, IsPrefixOf, IsUpTo, IsInto, WasSteady, IsServed, exact, part, AreServed, ServesAll, EndsSo, too_many, begun, halted as halts, ServesAllButLast}
use Rattle.serve_model.proofs.Ones.{one_weaker, one_at, at_one}
use Rattle.serve_loop.proofs.Serving.{at_left, gives_up_for}
use Rattle.serve_loop.proofs.Talking.{stands_more, stands_plain, among_more}

-- ---- what was written to a connection to which nothing was written before

written_is : (o o' : Option (List ℕ)) (text : List ℕ) → IfSome o (λ b. b ≡ []) → Wrote o o' text → IfSome o' (λ w. w ≡ text)
written_is o None text new w = tt
written_is None (Some x) text new w = absurd w
written_is (Some b) (Some x) text new w = w ∙ ap (λ y. y ++ text) new

prefix_of : (o' : Option (List ℕ)) (front rest text : List ℕ) → front ++ rest ≡ text → IfSome o' (λ w. w ≡ front) → IfSome o' (λ w. IsPrefixOf w text)
prefix_of None front rest text e h = tt
prefix_of (Some x) front rest text e h = (rest, ap (λ y. y ++ rest) h ∙ e)

prefix_is : (o o' : Option (List ℕ)) (text : List ℕ) → IfSome o (λ b. b ≡ []) → WrotePrefix o o' text → IfSome o' (λ w. IsPrefixOf w text)
prefix_is o o' text new w = prefix_of o' w.front w.rest text w.whole (written_is o o' w.front new w.wrote)

ok_is_no_error : (r : Result Unit ServeFault) (e : ServeFault) → r ≡ Ok tt → r ≡ Err e → ⊥
ok_is_no_error r e h k = cc

same_fault : (r : Result Unit ServeFault) (a b : ServeFault) → r ≡ Err a → r ≡ Err b → a ≡ b
same_fault r a b h k = cc

-- ---- one connection

module _ {S : Type 0} (store : Store S) (buckets : Buckets) (g : Grammar) (known : Known S) where
  record ServedOnce (p : Serving S) (bytes : List ℕ) (holds : S → Type 0) (times : Option (List ℕ)) (served : Served) (d : Connection) : Type 0 where
    serving : Serving S
    is_served : IsServed store buckets g known.fits p bytes d serving
    stands : Stands holds times served serving

  module _ (p : Serving S) (bytes : List ℕ) (holds : S → Type 0) (times : Option (List ℕ)) (served : Served) (c d : Connection) (fresh : IsFresh c) where
    -- what was written up to a stop
    up_to : (stop : Stop S) → ComesTo known.fits c d stop → IsUpTo store buckets g known.fits d stop
    up_to stop h = (prefix_is c.written d.written stop.text fresh.unwritten h.0, h.1)

    served_once : Talks (talk store buckets g request_limit p bytes) holds known times served (Ok tt) c d → ServedOnce p bytes holds times served d
    served_once (whole ok over w asked st n) = record { serving = (talk store buckets g request_limit p bytes).serving; is_served = exact over (written_is c.written d.written (talk store buckets g request_limit p bytes).text fresh.unwritten w) asked (n ∙ fresh.faultless) refl; stands = st }
    served_once (cut_off ok n stops) =
        let t = talk store buckets g request_limit p bytes in
        let P : ℕ → Type 0 = λ k. Rose k d.faults in
        let at = one_at (CutOffAt known.fits holds times served c d) t.stops stops in
        record {
          serving = at.0.serving;
          is_served = part (subst P fresh.faultless n) (at_one (λ (stop : Stop S). IsUpTo store buckets g known.fits d stop × (at.0.serving ≡ stop.serving)) t.stops at.0 at.1.0 (up_to at.0 at.1.1.0, refl));
          stands = at.1.1.1;
        }
    served_once (limited err over w asked n) = absurd (ok_is_no_error (Ok tt) Kept refl err)
    served_once (given_up e err why at n) = absurd (ok_is_no_error (Ok tt) e refl err)
    served_once (halted e err why at n) = absurd (ok_is_no_error (Ok tt) e refl err)

    -- what was written in the middle of a get
    into : ((a : Asking S) (given : Given) → known.gives a given → gives_asked store a given) → (halt : Halt S) → ComesInto known c d halt → IsInto store buckets g known.fits d halt
    into may halt h = (h.0, may halt.asking h.0 h.1, prefix_is c.written d.written (halt.text ++ begun_text halt.request (Some h.0)) fresh.unwritten h.2, h.3)

    -- where no call failed, or one with which the client of an upload was lost
    was_steady : (stops : List (Stop S)) → IsSteady known.fits stops c d → WasSteady store buckets g known.fits d stops
    was_steady stops (inl same) = inl (same ∙ fresh.faultless)
    was_steady stops (inr (rose, lost)) =
        inr
        (subst (λ k. Rose k d.faults) fresh.faultless rose, one_weaker (IsLostAt known.fits c d) (λ (stop : Stop S). IsUpTo store buckets g known.fits d stop × (stop.uploads ≡ true)) (λ stop h. (up_to stop h.0, h.1)) stops lost)

    -- where serving ends with it, for a reason that holds of what was served before it too
    ends_so : (before : List (Asking S) → Type 0) → ((a : Asking S) (given : Given) → known.gives a given → gives_asked store a given) → (known.overflows (talk store buckets g request_limit p bytes).asks → before (talk store buckets g request_limit p bytes).asks) → (e : ServeFault) → Talks (talk store buckets g request_limit p bytes) holds known times served (Err e) c d
        → EndsSo store buckets g known.fits before (talk store buckets g request_limit p bytes) d e
    ends_so before may f e (whole ok over w asked st n) = absurd (ok_is_no_error (Err e) e ok refl)
    ends_so before may f e (cut_off ok n at) = absurd (ok_is_no_error (Err e) e ok refl)
    ends_so before may f e (limited err over w asked n) =
        let P : ServeFault → Type 0 = EndsSo store buckets g known.fits before (talk store buckets g request_limit p bytes) d in
        subst P (sym (same_fault (Err e) e Kept refl err)) (too_many over (written_is c.written d.written (talk store buckets g request_limit p bytes).text fresh.unwritten w) asked (n ∙ fresh.faultless))
    ends_so before may f e (given_up m err why at n) =
        let asks = (talk store buckets g request_limit p bytes).asks in
        let Q : ServeFault → Type 0 = GivesUp before asks in
        begun e (subst Q (sym (same_fault (Err e) e m refl err)) (gives_up_for m known.overflows before asks asks f why)) (one_weaker (ComesTo known.fits c d) (IsUpTo store buckets g known.fits d) up_to (talk store buckets g request_limit p bytes).stops at)
        (was_steady (talk store buckets g request_limit p bytes).stops n)
    ends_so before may f e (halted m err why at n) =
        let asks = (talk store buckets g request_limit p bytes).asks in
        let Q : ServeFault → Type 0 = GivesUp before asks in
        halts e (subst Q (sym (same_fault (Err e) e m refl err)) (gives_up_for m known.overflows before asks asks f why)) (one_weaker (ComesInto known c d) (IsInto store buckets g known.fits d) (into may) (talk store buckets g request_limit p bytes).halts at)

  -- ---- one connection more

  are_more : (p q q' : Serving S) (came : List (List ℕ)) (gone : List Connection) (bytes : List ℕ) (d : Connection) → AreServed store buckets g known.fits p came gone q → IsServed store buckets g known.fits q bytes d q' → AreServed store buckets g known.fits p (came ++ bytes ∷ []) (gone ++ d ∷ []) q'
  are_more p q q' [] [] bytes d h s = let P : Serving S → Type 0 = λ x. IsServed store buckets g known.fits x bytes d q' in (q', subst P h s, refl)
  are_more p q q' [] (y ∷ gone) bytes d h s = absurd h
  are_more p q q' (x ∷ came) [] bytes d h s = absurd h
  are_more p q q' (x ∷ came) (y ∷ gone) bytes d (mid, first, rest) s = (mid, first, are_more mid q q' came gone bytes d rest s)

-- the connection that comes is the first of those to come
record Comes (to_come : List (List ℕ)) (new : Option (List (List ℕ))) (c : Connection) : Type 0 where
  bytes : List ℕ
  rest : List (List ℕ)
  first : to_come ≡ bytes ∷ rest
  new_is : new ≡ Some rest
  left : c.left ≡ Some bytes

comes_of : (to_come : List (List ℕ)) (new : Option (List (List ℕ))) (c : Connection) → TakesNext (Some to_come) new (Some c) → Comes to_come new c
comes_of [] new c h = absurd (some_is_none c h.1)
  where
    some_is_none : (x : Connection) → Some x ≡ None → ⊥
    some_is_none x e = cc
comes_of (bytes ∷ rest) new c h = record { bytes = bytes; rest = rest; first = refl; new_is = h.0; left = h.1 }

module _ {S : Type 0} (store : Store S) (fits lacks : S → ℕ → Job → Type 0) (buckets : Buckets) (g : Grammar) (p : Serving S) (number : ℕ) (holds holds' : S → Type 0) (times times' : Option (List ℕ)) (served served' : Served) (past past1 past2 : List Connection) where
  Talked : Result Unit ServeFault → Connection → Connection → Type 0
  Talked r c d = (q : Serving S) → Stands holds times served q → OnLeft (λ left. Talks (talk store buckets g request_limit q left) (Reached store fits lacks holds' q.store) (known_from store fits lacks q.store) times' served' r c d) c.left

  module _ (coming : List (List ℕ)) (old new : Option (List (List ℕ))) (c d : Connection) (a : ServesAll store buckets g (fits_asking fits) p number (Reached store fits lacks holds p.store) times served coming old past past1) (takes : TakesNext old new (Some c)) (fresh : IsFresh c) (goes : past2 ≡ past1 ++ d ∷ []) where
    next_comes : Comes a.to_come new c
    next_comes = let Q : Option (List (List ℕ)) → Type 0 = λ o. TakesNext o new (Some c) in comes_of a.to_come new c (subst Q a.comes_new takes)

    one_talk : (r : Result Unit ServeFault) (k : Comes a.to_come new c) → ((q : Serving S) → Stands holds times served q → OnLeft (λ left. Talks (talk store buckets g request_limit q left) (Reached store fits lacks holds' q.store) (known_from store fits lacks q.store) times' served' r c d) c.left)
        → Talks (talk store buckets g request_limit a.serving k.bytes) (Reached store fits lacks holds' a.serving.store) (known_from store fits lacks a.serving.store) times' served' r c d
    one_talk r k talks = at_left (λ left. Talks (talk store buckets g request_limit a.serving left) (Reached store fits lacks holds' a.serving.store) (known_from store fits lacks a.serving.store) times' served' r c d) c.left k.bytes k.left (talks a.serving (stands_plain store fits lacks holds times served p.store a.serving a.stands))

    one_more : ((q : Serving S) → Stands holds times served q → OnLeft (λ left. Talks (talk store buckets g request_limit q left) (Reached store fits lacks holds' q.store) (known_from store fits lacks q.store) times' served' (Ok tt) c d) c.left) → ServesAll store buckets g (fits_asking fits) p (number + 1) (Reached store fits lacks holds' p.store) times' served' coming new past past2
    one_more talks =
        let k = next_comes in
        let s = served_once store buckets g (known_from store fits lacks a.serving.store) a.serving k.bytes (Reached store fits lacks holds' a.serving.store) times' served' c d fresh (one_talk (Ok tt) k talks) in
        record {
          came = a.came ++ k.bytes ∷ [];
          to_come = k.rest;
          comes = a.comes ∙ ap (λ r. a.came ++ r) k.first ∙ sym (append_assoc a.came (k.bytes ∷ []) k.rest);
          comes_new = k.new_is;
          gone = a.gone ++ d ∷ [];
          goes = goes ∙ ap (λ x. x ++ d ∷ []) a.goes ∙ append_assoc past a.gone (d ∷ []);
          count = length-append a.gone (d ∷ []) ∙ ap (λ n. n + 1) a.count;
          serving = s.serving;
          are_served = are_more store buckets g (known_from store fits lacks p.store) p a.serving s.serving a.came a.gone k.bytes d a.are_served s.is_served;
          stands = stands_more store fits lacks holds' times' served' p.store a.serving.store s.serving a.stands.store.1 s.stands;
        }

    last_begun : (e : ServeFault) → ((q : Serving S) → Stands holds times served q → OnLeft (λ left. Talks (talk store buckets g request_limit q left) (Reached store fits lacks holds' q.store) (known_from store fits lacks q.store) times' served' (Err e) c d) c.left) → ServesAllButLast store buckets g (fits_asking fits) (OverflowsAmong store fits lacks p.store) p e coming new past past2
    last_begun e talks =
        let k = next_comes in
        record {
          came = a.came;
          bytes = k.bytes;
          to_come = k.rest;
          comes = a.comes ∙ ap (λ r. a.came ++ r) k.first;
          comes_new = k.new_is;
          gone = a.gone;
          last = d;
          goes = goes ∙ ap (λ x. x ++ d ∷ []) a.goes;
          serving = a.serving;
          are_served = a.are_served;
          ends = ends_so store buckets g (known_from store fits lacks a.serving.store) a.serving k.bytes (Reached store fits lacks holds' a.serving.store) times' served' c d fresh (OverflowsAmong store fits lacks p.store) (λ a given h. h)
              (let asks = (talk store buckets g request_limit a.serving k.bytes).asks in among_more store fits lacks p.store a.serving.store asks asks a.stands.store.1 (λ x h. h)) e (one_talk (Err e) k talks);
        }

  -- ---- over a link

  pub all_more : (o old new : Option (List (List ℕ))) (m n : Option Connection) → IfSome o (λ coming. ServesAll store buckets g (fits_asking fits) p number (Reached store fits lacks holds p.store) times served coming old past past1) → TakesNext old new m → IsSome m → IsSome n → IfSome m IsFresh → past2 ≡ past1 ++ option_to_list n
      → ((q : Serving S) → Stands holds times served q → OnPresent (λ c d. OnLeft (λ left. Talks (talk store buckets g request_limit q left) (Reached store fits lacks holds' q.store) (known_from store fits lacks q.store) times' served' (Ok tt) c d) c.left) m n)
      → IfSome o (λ coming. ServesAll store buckets g (fits_asking fits) p (number + 1) (Reached store fits lacks holds' p.store) times' served' coming new past past2)
  all_more None old new m n a takes here there fresh goes talks = tt
  all_more (Some coming) old new None n a takes here there fresh goes talks = cc
  all_more (Some coming) old new (Some c) None a takes here there fresh goes talks = cc
  all_more (Some coming) old new (Some c) (Some d) a takes here there fresh goes talks = one_more coming old new c d a takes fresh goes talks

  pub all_but_last : (e : ServeFault) (o old new : Option (List (List ℕ))) (m n : Option Connection) → IfSome o (λ coming. ServesAll store buckets g (fits_asking fits) p number (Reached store fits lacks holds p.store) times served coming old past past1) → TakesNext old new m → IsSome m → IsSome n → IfSome m IsFresh → past2 ≡ past1 ++ option_to_list n
      → ((q : Serving S) → Stands holds times served q → OnPresent (λ c d. OnLeft (λ left. Talks (talk store buckets g request_limit q left) (Reached store fits lacks holds' q.store) (known_from store fits lacks q.store) times' served' (Err e) c d) c.left) m n)
      → IfSome o (λ coming. ServesAllButLast store buckets g (fits_asking fits) (OverflowsAmong store fits lacks p.store) p e coming new past past2)
  all_but_last e None old new m n a takes here there fresh goes talks = tt
  all_but_last e (Some coming) old new None n a takes here there fresh goes talks = cc
  all_but_last e (Some coming) old new (Some c) None a takes here there fresh goes talks = cc
  all_but_last e (Some coming) old new (Some c) (Some d) a takes here there fresh goes talks = last_begun coming old new c d a takes fresh goes e talks

module _ {S : Type 0} (store : Store S) (buckets : Buckets) (g : Grammar) (FitsIt : Asking S → Type 0) (p : Serving S) (holds : S → Type 0) (times : Option (List ℕ)) (served : Served) where
  pub all_begin : (o o' : Option (List (List ℕ))) (past past' : List Connection) → o' ≡ o → past' ≡ past → Stands holds times served p → IfSome o (λ coming. ServesAll store buckets g FitsIt p 0 holds times served coming o' past past')
  all_begin None o' past past' e k st = tt
  all_begin (Some coming) o' past past' e k st =
      record { came = []; to_come = coming; comes = refl; comes_new = e; gone = []; goes = k ∙ sym (append-nil past); count = refl; serving = p; are_served = refl; stands = st }

  -- no further connection came
  module _ (number : ℕ) (past past1 past2 : List Connection) where
    same_all : (coming : List (List ℕ)) (old new : Option (List (List ℕ))) → new ≡ old → past2 ≡ past1 ++ [] → ServesAll store buckets g FitsIt p number holds times served coming old past past1 → ServesAll store buckets g FitsIt p number holds times served coming new past past2
    same_all coming old new e k a =
        record { came = a.came; to_come = a.to_come; comes = a.comes; comes_new = e ∙ a.comes_new; gone = a.gone; goes = k ∙ append-nil past1 ∙ a.goes; count = a.count; serving = a.serving; are_served = a.are_served; stands = a.stands }

    pub all_same : (o old new : Option (List (List ℕ))) → new ≡ old → past2 ≡ past1 ++ [] → IfSome o (λ coming. ServesAll store buckets g FitsIt p number holds times served coming old past past1) → IfSome o (λ coming. ServesAll store buckets g FitsIt p number holds times served coming new past past2)
    all_same None old new e k a = tt
    all_same (Some coming) old new e k a = same_all coming old new e k a

    none_left : (to_come : List (List ℕ)) (new : Option (List (List ℕ))) → TakesNext (Some to_come) new None → (new ≡ Some to_come) × (to_come ≡ [])
    none_left [] new h = (h.0, refl)
    none_left (bytes ∷ rest) new h = absurd h.1

    pub all_over : (o old new : Option (List (List ℕ))) → TakesNext old new None → past2 ≡ past1 ++ [] → IfSome o (λ coming. ServesAll store buckets g FitsIt p number holds times served coming old past past1) → IfSome o (λ coming. ServesAll store buckets g FitsIt p number holds times served coming new past past2)
    all_over None old new takes k a = tt
    all_over (Some coming) old new takes k a =
        let Q : Option (List (List ℕ)) → Type 0 = λ o. TakesNext o new None in
        same_all coming old new ((none_left a.to_come new (subst Q a.comes_new takes)).0 ∙ sym a.comes_new) k a

-- ---- the answers of the calls

-- a call that didn't fail
pub succeeded : {T E : Type 0} (r : Result T E) (P : Type 0) → is_err r ≡ false → OnOk r P → P
succeeded (Ok x) P e h = h
succeeded (Err x) P e h = absurd (true_is_false e)
  where
    true_is_false : true ≡ false → ⊥
    true_is_false e = cc

pub absent_of : (o : Option Connection) → (IsSome o → ⊥) → o ≡ None
absent_of None h = refl
absent_of (Some c) h = absurd (h refl)

pub goes_with : (past past1 past2 : List Connection) (o : Option Connection) → o ≡ None → past1 ≡ past ++ option_to_list o → past2 ≡ past1 → past2 ≡ past ++ []
goes_with past past1 past2 o none e k = k ∙ e ∙ ap (λ x. past ++ option_to_list x) none

pub some_then : {X : Type 0} (P Q : X → Type 0) (o : Option X) → ((x : X) → P x → Q x) → IfSome o P → IfSome o Q
some_then P Q None f h = tt
some_then P Q (Some x) f h = f x h

-- ---- how many are past

-- one more
pub gone_more : (past past1 past2 : List Connection) (o : Option Connection) (number : ℕ) → length past1 ≡ length past + number → IsSome o → past2 ≡ past1 ++ option_to_list o → length past2 ≡ length past + (number + 1)
gone_more past past1 past2 None number h some e = cc
gone_more past past1 past2 (Some c) number h some e = let more = ap length e ∙ length-append past1 (c ∷ []) in omega (arith, h, more)

-- none more
pub gone_same : (past past1 past2 : List Connection) (o : Option Connection) (number : ℕ) → length past1 ≡ length past + number → o ≡ None → past2 ≡ past1 ++ option_to_list o → length past2 ≡ length past + number
gone_same past past1 past2 None number h none e = let more = ap length e ∙ length-append past1 [] in omega (arith, h, more)
gone_same past past1 past2 (Some c) number h none e = cc

-- ---- what is told of the connections to come

-- where they were told at first, they are told
abbrev pub StillTells : Option (List (List ℕ)) → Option (List (List ℕ)) → Type 0
StillTells first now = IfSome first (λ coming. IsSome now)

pub tells_first : (first now : Option (List (List ℕ))) → now ≡ first → StillTells first now
tells_first None now e = tt
tells_first (Some coming) now e = let P : Option (List (List ℕ)) → Type 0 = IsSome in subst P (sym e) refl

takes_tells : (now new : Option (List (List ℕ))) (m : Option Connection) → IsSome now → TakesNext now new m → IsSome new
takes_tells None new m here takes = cc
takes_tells (Some []) new m here takes = let P : Option (List (List ℕ)) → Type 0 = IsSome in subst P (sym takes.0) refl
takes_tells (Some (bytes ∷ rest)) new m here takes = let P : Option (List (List ℕ)) → Type 0 = IsSome in subst P (sym takes.0) refl

pub tells_next : (first now new : Option (List (List ℕ))) (m : Option Connection) → StillTells first now → TakesNext now new m → StillTells first new
tells_next first now new m h takes = some_then (λ coming. IsSome now) (λ coming. IsSome new) first (λ coming here. takes_tells now new m here takes) h

none_comes : (now new : Option (List (List ℕ))) → IsSome now → TakesNext now new None → new ≡ Some []
none_comes None new here takes = cc
none_comes (Some []) new here takes = takes.0
none_comes (Some (bytes ∷ rest)) new here takes = absurd takes.1

pub none_is_left : (first now new : Option (List (List ℕ))) → StillTells first now → TakesNext now new None → IfSome first (λ coming. new ≡ Some [])
none_is_left first now new h takes = some_then (λ coming. IsSome now) (λ coming. new ≡ Some []) first (λ coming here. none_comes now new here takes) h
