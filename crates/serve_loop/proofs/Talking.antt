-- Requests of one connection, one after the other.
use Rattle.std.proofs.Common.{◌≡◌, ℕ, suc, ◌≤◌, ◌==◌, List, [], ◌∷◌, ◌++◌, map, Option, Some, None, Bool, true, false, IsSome, Result, Ok, Err, refl, sym, ◌∙◌, ap, subst, append_assoc, append-nil, arith, ap₂}
use Rattle.std.proofs.lemmas.List.Elements.{Contains-append_left, Contains-append_right}
use Rattle.std.specs.List.{AllByRecursion, Contains}
use Rattle.crdt_core.specs.Members.{OneOf}
use Rattle.lab_outside.specs.Connection.{Connection, OnPresent}
use Rattle.lab_outside.specs.Bytes.{Wrote, WrotePrefix}
use Rattle.lab_outside.proofs.Bytes.{wrote_none, wrote_more, wrote_prefix_after}
use Rattle.lab_outside.specs.Rose.{Rose}
use Rattle.serve_model.specs.declared.buckets.Buckets.{Buckets}
use Rattle.serve_model.specs.declared.served.Served.{Served}
use Rattle.serve_model.specs.declared.served.ServeFault.{ServeFault}
use Rattle.serve_model.specs.declared.served.ServeFault.TheVariants.{Kept, Number, Memory}
use Rattle.serve_model.specs.Stores.{Job, Store, Asking, after_jobs, JobsFit, Leads, Overflows, fits_asking, Known, OverflowsAmong, known_from}
use Rattle.serve_model.specs.Talk.{Grammar, Serving, Next, goes, closes, exceeds, Stop, behind, Halt, behind_halt, begun_text, Turn, turn, Talk, go_on, talk}
use Rattle.serve_model.specs.Serving.{HasState, Reached, Goes, Stands, Continues, ComesTo, ComesInto, CutOffAt, GivesUp, IsLostAt, Serves, done, cut_off, limited, given_up, halted, OnLeft, ServesOn}
use Rattle.serve_model.specs.Connections.{Talks, whole, cut_off as talk_cut, limited as talk_limited, given_up as talk_given_up, halted as talk_halted}
use Rattle.serve_model.proofs.Ones.{one_left, one_right, one_mapped}
use Rattle.serve_loop.proofs.Serving.{on_left, at_left, gives_up_for, steady_from}

-- ---- the connection that is present

pub on_present_bind : (R T : Connection → Connection → Type 0) (o m n : Option Connection) → OnPresent R o m → IsSome n → ((c d f : Connection) → m ≡ Some d → n ≡ Some f → R c d → T c f) → OnPresent T o n
on_present_bind R T None m n h some k = tt
on_present_bind R T (Some c) None n h some k = absurd h
on_present_bind R T (Some c) (Some d) None h some k = cc
on_present_bind R T (Some c) (Some d) (Some f) h some k = k c d f refl refl h

pub at_present : (U : Connection → Connection → Type 0) (m n : Option Connection) (d f : Connection) → m ≡ Some d → n ≡ Some f → OnPresent U m n → U d f
at_present U m n d f e k h =
    let P : Option Connection → Type 0 = λ x. OnPresent U x n in
    let Q : Option Connection → Type 0 = λ x. OnPresent U (Some d) x in
    subst Q k (subst P e h)

-- ---- jobs and then jobs

module _ {S : Type 0} (store : Store S) (fits : S → ℕ → Job → Type 0) where
  after_append : (s : S) (xs ys : List (ℕ × Job)) → after_jobs store s (xs ++ ys) ≡ after_jobs store (after_jobs store s xs) ys
  after_append s [] ys = refl
  after_append s (x ∷ xs) ys = after_append (store.carries s x.0 x.1).state xs ys

  fit_append : (s : S) (xs ys : List (ℕ × Job)) → JobsFit store fits s xs → JobsFit store fits (after_jobs store s xs) ys → JobsFit store fits s (xs ++ ys)
  fit_append s [] ys f h = h
  fit_append s (x ∷ xs) ys f h = (f.0, fit_append (store.carries s x.0 x.1).state xs ys f.1 h)

  pub leads_more : (s t u : S) → Leads store fits s t → Leads store fits t u → Leads store fits s u
  leads_more s t u a b =
      let P : S → Type 0 = λ x. JobsFit store fits x b.jobs in
      record {
        jobs = a.jobs ++ b.jobs;
        after = b.after ∙ ap (λ x. after_jobs store x b.jobs) a.after ∙ sym (after_append s a.jobs b.jobs);
        fit = fit_append s a.jobs b.jobs a.fit (subst P a.after b.fit);
      }

module _ {S : Type 0} (store : Store S) (fits lacks : S → ℕ → Job → Type 0) where
  pub reached_more : (holds : S → Type 0) (s t u : S) → Leads store fits s t → Reached store fits lacks holds t u → Reached store fits lacks holds s u
  reached_more holds s t u a b = (b.0, leads_more store fits s t u a b.1)

  pub overflows_more : (s t : S) → Leads store fits s t → Overflows store fits lacks t → Overflows store fits lacks s
  overflows_more s t a o = record { asking = o.asking; leads = leads_more store fits s t o.asking.state a o.leads; overflows = o.overflows }

  -- a job among these has no room, or to give its upload up has none, and they are among those
  pub among_more : (s t : S) (xs ys : List (Asking S)) → Leads store fits s t → ((x : Asking S) → Contains xs x → Contains ys x) → OverflowsAmong store fits lacks t xs → OverflowsAmong store fits lacks s ys
  unfolding overflows_more
  among_more s t xs ys a f o = record { at = overflows_more s t a o.at; asking = o.asking; is_asked = f o.asking o.is_asked; is_of = o.is_of }

  -- something follows
  pub goes_more : (A : Type 0) (old mid new : S → Type 0) (r : Result A ServeFault) → ((s : S) → old s → HasState (Reached store fits lacks mid s)) → Goes store fits lacks {A = A} mid new r → Goes store fits lacks {A = A} old new r
  goes_more A old mid new (Ok a) h k = λ s st. let t = h s st in let u = k t.0 t.1.0 in (u.0, reached_more new s t.0 u.0 t.1.1 u.1)
  goes_more A old mid new (Err Kept) h k = λ s st. let t = h s st in let u = k t.0 t.1.0 in (u.0, reached_more new s t.0 u.0 t.1.1 u.1)
  goes_more A old mid new (Err Number) h k = λ s st. let t = h s st in overflows_more s t.0 t.1.1 (k t.0 t.1.0)
  goes_more A old mid new (Err Memory) h k = tt

  pub stands_more : (holds : S → Type 0) (times : Option (List ℕ)) (served : Served) (s t : S) (q : Serving S) → Leads store fits s t → Stands (Reached store fits lacks holds t) times served q → Stands (Reached store fits lacks holds s) times served q
  stands_more holds times served s t q a st = record { store = reached_more holds s t q.store a st.store; clock = st.clock; time = st.time; kept = st.kept }

  pub stands_plain : (holds : S → Type 0) (times : Option (List ℕ)) (served : Served) (s : S) (q : Serving S) → Stands (Reached store fits lacks holds s) times served q → Stands holds times served q
  stands_plain holds times served s q st = record { store = st.store.0; clock = st.clock; time = st.time; kept = st.kept }

-- ---- what was said and asked before

all_append : {A : Type 0} (Q : A → Type 0) (xs ys : List A) → AllByRecursion Q xs → AllByRecursion Q ys → AllByRecursion Q (xs ++ ys)
all_append Q [] ys h k = k
all_append Q (x ∷ xs) ys h k = (h.0, all_append Q xs ys h.1 k)

-- a text, stops, halts and what the store was asked come before a talk
abbrev pub prefixed : {S : Type 0} → List ℕ → List (Stop S) → List (Halt S) → List (Asking S) → Talk S → Talk S
prefixed text stops halts asks u =
    record { text = text ++ u.text; stops = stops ++ map (behind text asks) u.stops; halts = halts ++ map (behind_halt text asks) u.halts; asks = asks ++ u.asks; serving = u.serving; is_over = u.is_over }

-- what is put before each of two lists in turn is put before both
module _ {X : Type 0} where
  map_append : (f : X → X) (xs ys : List X) → map f (xs ++ ys) ≡ map f xs ++ map f ys
  map_append f [] ys = refl
  map_append f (x ∷ xs) ys = ap (λ zs. f x ∷ zs) (map_append f xs ys)

  map_twice : (f g h : X → X) → ((x : X) → f (g x) ≡ h x) → (xs : List X) → map f (map g xs) ≡ map h xs
  map_twice f g h one [] = refl
  map_twice f g h one (x ∷ xs) = ap₂ (λ y ys. y ∷ ys) (one x) (map_twice f g h one xs)

  twice_behind : (f g h : X → X) → ((x : X) → f (g x) ≡ h x) → (xs ys zs : List X) → xs ++ map f (ys ++ map g zs) ≡ (xs ++ map f ys) ++ map h zs
  twice_behind f g h one xs ys zs =
      ap (λ (x : List X). xs ++ x) (map_append f ys (map g zs) ∙ ap (λ (x : List X). map f ys ++ x) (map_twice f g h one zs)) ∙ sym (append_assoc xs (map f ys) (map h zs))

module _ {S : Type 0} (text : List ℕ) (asks : List (Asking S)) (text' : List ℕ) (asks' : List (Asking S)) where
  stop_twice : (x : Stop S) → behind text asks (behind text' asks' x) ≡ behind (text ++ text') (asks ++ asks') x
  stop_twice x = ap₂ (λ t a. record { text = t; asks = a; serving = x.serving; uploads = x.uploads }) (sym (append_assoc text text' x.text)) (sym (append_assoc asks asks' x.asks))

  halt_twice : (x : Halt S) → behind_halt text asks (behind_halt text' asks' x) ≡ behind_halt (text ++ text') (asks ++ asks') x
  halt_twice x = ap₂ (λ t a. record { text = t; asks = a; request = x.request; asking = x.asking }) (sym (append_assoc text text' x.text)) (sym (append_assoc asks asks' x.asks))

  -- and before what comes before it
  prefixed_twice : (stops : List (Stop S)) (halts : List (Halt S)) (stops' : List (Stop S)) (halts' : List (Halt S)) (u : Talk S) →
      prefixed text stops halts asks (prefixed text' stops' halts' asks' u)
      ≡ prefixed (text ++ text') (stops ++ map (behind text asks) stops') (halts ++ map (behind_halt text asks) halts') (asks ++ asks') u
  prefixed_twice stops halts stops' halts' u =
      let stops'' = twice_behind (behind text asks) (behind text' asks') (behind (text ++ text') (asks ++ asks')) stop_twice stops stops' u.stops in
      let halts'' = twice_behind (behind_halt text asks) (behind_halt text' asks') (behind_halt (text ++ text') (asks ++ asks')) halt_twice halts halts' u.halts in
      ap₂ (λ t a. record { text = t; stops = stops ++ map (behind text asks) (stops' ++ map (behind text' asks') u.stops); halts = halts ++ map (behind_halt text asks) (halts' ++ map (behind_halt text' asks') u.halts); asks = a; serving = u.serving; is_over = u.is_over })
      (sym (append_assoc text text' u.text)) (sym (append_assoc asks asks' u.asks))
      ∙ ap₂ (λ x y. record { text = (text ++ text') ++ u.text; stops = x; halts = y; asks = (asks ++ asks') ++ u.asks; serving = u.serving; is_over = u.is_over }) stops'' halts''

-- ---- one more turn

-- the bytes that go on are those that are kept and left
record GoesOn (next : Next) (kept : List ℕ) (o : Option (List ℕ)) : Type 0 where
  left : List ℕ
  told : o ≡ Some left
  next_is : next ≡ goes (kept ++ left)

goes_on : (next : Next) (kept : List ℕ) (o : Option (List ℕ)) (on : Bool) → true ≡ on → Continues next on kept o → GoesOn next kept o
goes_on closes kept o on e h = absurd (not_both on e h)
  where
    not_both : (b : Bool) → true ≡ b → b ≡ false → ⊥
    not_both b x y = cc
goes_on exceeds kept o on e h = absurd h
goes_on (goes rest) kept None on e h = absurd h
goes_on (goes rest) kept (Some left) on e h = record { left = left; told = refl; next_is = ap goes h.1 }

ends_here : (next : Next) (kept : List ℕ) (o : Option (List ℕ)) (on : Bool) → false ≡ on → Continues next on kept o → next ≡ closes
ends_here closes kept o on e h = refl
ends_here exceeds kept o on e h = absurd h
ends_here (goes rest) kept None on e h = absurd h
ends_here (goes rest) kept (Some left) on e h = absurd (not_both on e h.0)
  where
    not_both : (b : Bool) → false ≡ b → b ≡ true → ⊥
    not_both b x y = cc

same_ok : (r : Result Bool ServeFault) (a b : Bool) → r ≡ Ok a → r ≡ Ok b → a ≡ b
same_ok r a b e k = cc

same_err : (r : Result Bool ServeFault) (a b : ServeFault) → r ≡ Err a → r ≡ Err b → a ≡ b
same_err r a b e k = cc

ok_is_no_error : (r : Result Bool ServeFault) (a : Bool) (e : ServeFault) → r ≡ Ok a → r ≡ Err e → ⊥
ok_is_no_error r a e h k = cc

module _ {S : Type 0} (store : Store S) (buckets : Buckets) (g : Grammar) where
  talk_none : (p : Serving S) (bytes : List ℕ) → talk store buckets g 0 p bytes ≡ record { text = []; stops = []; halts = []; asks = []; serving = p; is_over = false }
  unfolding talk
  talk_none p bytes = refl

  talk_next : (more : ℕ) (p : Serving S) (bytes : List ℕ) → talk store buckets g (suc more) p bytes ≡ go_on (talk store buckets g more) (turn store buckets g (more == 0) p bytes) (turn store buckets g (more == 0) p bytes).next
  unfolding talk
  talk_next more p bytes = refl

  module _ (more : ℕ) (p : Serving S) (bytes : List ℕ) where
    talk_with : (next : Next) → (turn store buckets g (more == 0) p bytes).next ≡ next → talk store buckets g (suc more) p bytes ≡ go_on (talk store buckets g more) (turn store buckets g (more == 0) p bytes) next
    talk_with next e = talk_next more p bytes ∙ ap (go_on (talk store buckets g more) (turn store buckets g (more == 0) p bytes)) e

  -- a turn's stops are the talk's
  go_on_stops : (P : Stop S → Type 0) (more : ℕ) (t : Turn S) (next : Next) → OneOf P t.stops → OneOf P (go_on (talk store buckets g more) t next).stops
  go_on_stops P more t (goes rest) h = one_left P t.stops (map (behind t.text t.asks) (talk store buckets g more t.serving rest).stops) h
  go_on_stops P more t closes h = h
  go_on_stops P more t exceeds h = h

  turn_stops : (P : Stop S → Type 0) (more : ℕ) (p : Serving S) (bytes : List ℕ) → OneOf P (turn store buckets g (more == 0) p bytes).stops → OneOf P (talk store buckets g (suc more) p bytes).stops
  turn_stops P more p bytes h =
      let Q : Talk S → Type 0 = λ u. OneOf P u.stops in
      subst Q (sym (talk_next more p bytes)) (go_on_stops P more (turn store buckets g (more == 0) p bytes) (turn store buckets g (more == 0) p bytes).next h)

  -- and its halts
  go_on_halts : (P : Halt S → Type 0) (more : ℕ) (t : Turn S) (next : Next) → OneOf P t.halts → OneOf P (go_on (talk store buckets g more) t next).halts
  go_on_halts P more t (goes rest) h = one_left P t.halts (map (behind_halt t.text t.asks) (talk store buckets g more t.serving rest).halts) h
  go_on_halts P more t closes h = h
  go_on_halts P more t exceeds h = h

  turn_halts : (P : Halt S → Type 0) (more : ℕ) (p : Serving S) (bytes : List ℕ) → OneOf P (turn store buckets g (more == 0) p bytes).halts → OneOf P (talk store buckets g (suc more) p bytes).halts
  turn_halts P more p bytes h =
      let Q : Talk S → Type 0 = λ u. OneOf P u.halts in
      subst Q (sym (talk_next more p bytes)) (go_on_halts P more (turn store buckets g (more == 0) p bytes) (turn store buckets g (more == 0) p bytes).next h)

  -- what the turn asks, the talk asks
  go_on_asks : (more : ℕ) (t : Turn S) (next : Next) (x : Asking S) → Contains t.asks x → Contains (go_on (talk store buckets g more) t next).asks x
  go_on_asks more t (goes rest) x h = Contains-append_left t.asks (talk store buckets g more t.serving rest).asks x h
  go_on_asks more t closes x h = h
  go_on_asks more t exceeds x h = h

  turn_asks : (more : ℕ) (p : Serving S) (bytes : List ℕ) (x : Asking S) → Contains (turn store buckets g (more == 0) p bytes).asks x → Contains (talk store buckets g (suc more) p bytes).asks x
  turn_asks more p bytes x h =
      let P : Talk S → Type 0 = λ u. Contains u.asks x in
      subst P (sym (talk_next more p bytes)) (go_on_asks more (turn store buckets g (more == 0) p bytes) (turn store buckets g (more == 0) p bytes).next x h)

-- ---- so far

-- so far a first part of what is stated of all bytes was written, each job that the store was asked fits, and what is stated of the rest is to come
pub record InTalk {S : Type 0} (store : Store S) (FitsIt : Asking S → Type 0) (buckets : Buckets) (g : Grammar) (all : Talk S) (holds : S → Type 0) (times : Option (List ℕ)) (served : Served) (more : ℕ) (kept : List ℕ) (c d : Connection) : Type 0 where
  pub text : List ℕ
  pub stops : List (Stop S)
  pub halts : List (Halt S)
  pub asks : List (Asking S)
  pub serving : Serving S
  pub left : List ℕ
  pub told : d.left ≡ Some left
  pub wrote : Wrote c.written d.written text
  pub fit : AllByRecursion FitsIt asks
  pub stands : Stands holds times served serving
  pub steady : d.faults ≡ c.faults
  pub is : all ≡ prefixed text stops halts asks (talk store buckets g more serving (kept ++ left))

map_none : {X : Type 0} (f : X → X) → ((x : X) → f x ≡ x) → (xs : List X) → map f xs ≡ xs
map_none f one [] = refl
map_none f one (x ∷ xs) = ap₂ (λ y ys. y ∷ ys) (one x) (map_none f one xs)

prefixed_none : {S : Type 0} (u : Talk S) → prefixed [] [] [] [] u ≡ u
prefixed_none u = ap₂ (λ x y. record u { stops = x; halts = y }) (map_none (behind [] []) (λ x. refl) u.stops) (map_none (behind_halt [] []) (λ x. refl) u.halts)

module _ {S : Type 0} (store : Store S) (FitsIt : Asking S → Type 0) (buckets : Buckets) (g : Grammar) where
  pub talk_begins : (limit more : ℕ) (p : Serving S) (bytes : List ℕ) (holds : S → Type 0) (times : Option (List ℕ)) (served : Served) (kept : List ℕ) (c : Connection) → c.left ≡ Some bytes → kept ≡ [] → more ≡ limit → Stands holds times served p → InTalk store FitsIt buckets g (talk store buckets g limit p bytes) holds times served more kept c c
  talk_begins limit more p bytes holds times served kept c told none all st =
      record {
        text = [];
        stops = [];
        halts = [];
        asks = [];
        serving = p;
        left = bytes;
        told = told;
        wrote = wrote_none c.written;
        fit = tt;
        stands = st;
        steady = refl;
        is = ap (λ n. talk store buckets g n p bytes) (sym all) ∙ ap (λ k. talk store buckets g more p (k ++ bytes)) (sym none) ∙ sym (prefixed_none (talk store buckets g more p (kept ++ bytes)));
      }

module _ {S : Type 0} (store : Store S) (fits lacks : S → ℕ → Job → Type 0) (buckets : Buckets) (g : Grammar) (all : Talk S) (start : S) (more : ℕ) (kept kept' : List ℕ) (holds holds' : S → Type 0) (times times' : Option (List ℕ)) (served served' : Served) (c d f : Connection)
    (i : InTalk store (fits_asking fits) buckets g all (Reached store fits lacks holds start) times served (suc more) kept c d) where
  abbrev pub Follows : Result Bool ServeFault → Type 0
  Follows r = Serves (turn store buckets g (more == 0) i.serving (kept ++ i.left)) (Reached store fits lacks holds' i.serving.store) (known_from store fits lacks i.serving.store) times' served' r kept' d f

  -- the request was served, and the connection goes on
  pub talk_goes_on : Follows (Ok true) → InTalk store (fits_asking fits) buckets g all (Reached store fits lacks holds' start) times' served' more kept' c f
  talk_goes_on (done on ok w asked st go n) =
      let t = turn store buckets g (more == 0) i.serving (kept ++ i.left) in
      let o = goes_on t.next kept' f.left on (same_ok (Ok true) true on refl ok) go in
      let u = talk store buckets g more t.serving (kept' ++ o.left) in
      let next : talk store buckets g (suc more) i.serving (kept ++ i.left) ≡ prefixed t.text t.stops t.halts t.asks u = talk_with store buckets g more i.serving (kept ++ i.left) (goes (kept' ++ o.left)) o.next_is in
      record {
        text = i.text ++ t.text;
        stops = i.stops ++ map (behind i.text i.asks) t.stops;
        halts = i.halts ++ map (behind_halt i.text i.asks) t.halts;
        asks = i.asks ++ t.asks;
        serving = t.serving;
        left = o.left;
        told = o.told;
        wrote = wrote_more c.written d.written f.written i.text t.text i.wrote w;
        fit = all_append (fits_asking fits) i.asks t.asks i.fit asked;
        stands = stands_more store fits lacks holds' times' served' start i.serving.store t.serving i.stands.store.1 st;
        steady = n ∙ i.steady;
        is = i.is ∙ ap (prefixed i.text i.stops i.halts i.asks) next ∙ prefixed_twice i.text i.asks t.text t.asks i.stops i.halts t.stops t.halts u;
      }
  talk_goes_on (cut_off err n at) = absurd (true_is_false (same_ok (Ok true) true false refl err))
    where
      true_is_false : true ≡ false → ⊥
      true_is_false e = cc
  talk_goes_on (limited err next w asked n) = absurd (ok_is_no_error (Ok true) true Kept refl err)
  talk_goes_on (given_up m err why at n) = absurd (ok_is_no_error (Ok true) true m refl err)
  talk_goes_on (halted m err why at n) = absurd (ok_is_no_error (Ok true) true m refl err)

  -- the turn's stops are stops of all
  stops_of_all : (P Q : Stop S → Type 0) → ((stop : Stop S) → P stop → Q (behind i.text i.asks stop)) → OneOf P (turn store buckets g (more == 0) i.serving (kept ++ i.left)).stops → OneOf Q all.stops
  stops_of_all P Q f h =
      let v = talk store buckets g (suc more) i.serving (kept ++ i.left) in
      let R : Talk S → Type 0 = λ u. OneOf Q u.stops in
      subst R (sym i.is) (one_right Q i.stops (map (behind i.text i.asks) v.stops) (one_mapped P Q (behind i.text i.asks) f v.stops (turn_stops store buckets g P more i.serving (kept ++ i.left) h)))

  halts_of_all : (P Q : Halt S → Type 0) → ((halt : Halt S) → P halt → Q (behind_halt i.text i.asks halt)) → OneOf P (turn store buckets g (more == 0) i.serving (kept ++ i.left)).halts → OneOf Q all.halts
  halts_of_all P Q f h =
      let v = talk store buckets g (suc more) i.serving (kept ++ i.left) in
      let R : Talk S → Type 0 = λ u. OneOf Q u.halts in
      subst R (sym i.is) (one_right Q i.halts (map (behind_halt i.text i.asks) v.halts) (one_mapped P Q (behind_halt i.text i.asks) f v.halts (turn_halts store buckets g P more i.serving (kept ++ i.left) h)))

  into_so_far : (halt : Halt S) → ComesInto (known_from store fits lacks i.serving.store) d f halt → ComesInto (known_from store fits lacks start) c f (behind_halt i.text i.asks halt)
  into_so_far halt h =
      let more = begun_text halt.request (Some h.0) in
      let P : List ℕ → Type 0 = WrotePrefix c.written f.written in
      (h.0, h.1, subst P (sym (append_assoc i.text halt.text more)) (wrote_prefix_after c.written d.written f.written i.text (halt.text ++ more) i.wrote h.2), all_append (fits_asking fits) i.asks halt.asks i.fit h.3)

  comes_so_far : (stop : Stop S) → ComesTo (fits_asking fits) d f stop → ComesTo (fits_asking fits) c f (behind i.text i.asks stop)
  comes_so_far stop h = (wrote_prefix_after c.written d.written f.written i.text stop.text i.wrote h.0, all_append (fits_asking fits) i.asks stop.asks i.fit h.1)

  cut_off_there : (stop : Stop S) → CutOffAt (fits_asking fits) (Reached store fits lacks holds' i.serving.store) times' served' d f stop → CutOffAt (fits_asking fits) (Reached store fits lacks holds' start) times' served' c f (behind i.text i.asks stop)
  cut_off_there stop h = (comes_so_far stop h.0, stands_more store fits lacks holds' times' served' start i.serving.store stop.serving i.stands.store.1 h.1)

  asks_of_all : (x : Asking S) → Contains (turn store buckets g (more == 0) i.serving (kept ++ i.left)).asks x → Contains all.asks x
  asks_of_all x h =
      let v = talk store buckets g (suc more) i.serving (kept ++ i.left) in
      let P : Talk S → Type 0 = λ u. Contains u.asks x in
      subst P (sym i.is) (Contains-append_right i.asks v.asks x (turn_asks store buckets g more i.serving (kept ++ i.left) x h))

  why_of_all : (e : ServeFault) → GivesUp (OverflowsAmong store fits lacks i.serving.store) (turn store buckets g (more == 0) i.serving (kept ++ i.left)).asks e → GivesUp (OverflowsAmong store fits lacks start) all.asks e
  why_of_all e why =
      let t = turn store buckets g (more == 0) i.serving (kept ++ i.left) in
      gives_up_for e (OverflowsAmong store fits lacks i.serving.store) (OverflowsAmong store fits lacks start) t.asks all.asks
      (among_more store fits lacks start i.serving.store t.asks all.asks i.stands.store.1 asks_of_all) why

  -- the connection ends after it
  pub talk_ends : Follows (Ok false) → Talks all (Reached store fits lacks holds' start) (known_from store fits lacks start) times' served' (Ok tt) c f
  talk_ends (done on ok w asked st go n) =
      let t = turn store buckets g (more == 0) i.serving (kept ++ i.left) in
      let off : talk store buckets g (suc more) i.serving (kept ++ i.left) ≡ record { text = t.text; stops = t.stops; halts = t.halts; asks = t.asks; serving = t.serving; is_over = false } = talk_with store buckets g more i.serving (kept ++ i.left) closes (ends_here t.next kept' f.left on (same_ok (Ok false) false on refl ok) go) in
      let is : all ≡ record { text = i.text ++ t.text; stops = i.stops ++ map (behind i.text i.asks) t.stops; halts = i.halts ++ map (behind_halt i.text i.asks) t.halts; asks = i.asks ++ t.asks; serving = t.serving; is_over = false } = i.is ∙ ap (prefixed i.text i.stops i.halts i.asks) off in
      let P : Talk S → Type 0 = λ x. Talks x (Reached store fits lacks holds' start) (known_from store fits lacks start) times' served' (Ok tt) c f in
      subst P (sym is) (whole refl refl (wrote_more c.written d.written f.written i.text t.text i.wrote w) (all_append (fits_asking fits) i.asks t.asks i.fit asked) (stands_more store fits lacks holds' times' served' start i.serving.store t.serving i.stands.store.1 st) (n ∙ i.steady))
  talk_ends (cut_off ok n at) =
      talk_cut refl (subst (λ k. Rose k f.faults) i.steady n)
      (stops_of_all (CutOffAt (fits_asking fits) (Reached store fits lacks holds' i.serving.store) times' served' d f) (CutOffAt (fits_asking fits) (Reached store fits lacks holds' start) times' served' c f) cut_off_there at)
  talk_ends (limited err next w asked n) = absurd (ok_is_no_error (Ok false) false Kept refl err)
  talk_ends (given_up m err why at n) = absurd (ok_is_no_error (Ok false) false m refl err)
  talk_ends (halted m err why at n) = absurd (ok_is_no_error (Ok false) false m refl err)

  -- serving ends in it
  pub talk_stops : (e : ServeFault) → Follows (Err e) → Talks all (Reached store fits lacks holds' start) (known_from store fits lacks start) times' served' (Err e) c f
  talk_stops e (done on ok w asked st go n) = absurd (ok_is_no_error (Err e) on e ok refl)
  talk_stops e (cut_off ok n at) = absurd (ok_is_no_error (Err e) false e ok refl)
  talk_stops e (limited err next w asked n) =
      let t = turn store buckets g (more == 0) i.serving (kept ++ i.left) in
      let over : talk store buckets g (suc more) i.serving (kept ++ i.left) ≡ record { text = t.text; stops = t.stops; halts = t.halts; asks = t.asks; serving = t.serving; is_over = true } = talk_with store buckets g more i.serving (kept ++ i.left) exceeds next in
      let is : all ≡ record { text = i.text ++ t.text; stops = i.stops ++ map (behind i.text i.asks) t.stops; halts = i.halts ++ map (behind_halt i.text i.asks) t.halts; asks = i.asks ++ t.asks; serving = t.serving; is_over = true } = i.is ∙ ap (prefixed i.text i.stops i.halts i.asks) over in
      let P : Talk S → Type 0 = λ x. Talks x (Reached store fits lacks holds' start) (known_from store fits lacks start) times' served' (Err e) c f in
      subst P (sym is) (talk_limited (ap Err (same_err (Err e) e Kept refl err)) refl (wrote_more c.written d.written f.written i.text t.text i.wrote w) (all_append (fits_asking fits) i.asks t.asks i.fit asked) (n ∙ i.steady))
  talk_stops e (given_up m err why at n) =
      let same : e ≡ m = same_err (Err e) e m refl err in
      let Q : ServeFault → Type 0 = GivesUp (OverflowsAmong store fits lacks start) all.asks in
      talk_given_up e refl (subst Q (sym same) (why_of_all m why)) (stops_of_all (ComesTo (fits_asking fits) d f) (ComesTo (fits_asking fits) c f) comes_so_far at)
      (steady_from (fits_asking fits) (turn store buckets g (more == 0) i.serving (kept ++ i.left)).stops all.stops c d f i.steady (stops_of_all (IsLostAt (fits_asking fits) d f) (IsLostAt (fits_asking fits) c f) (λ stop h. (comes_so_far stop h.0, h.1))) n)
  talk_stops e (halted m err why at n) =
      let same : e ≡ m = same_err (Err e) e m refl err in
      let Q : ServeFault → Type 0 = GivesUp (OverflowsAmong store fits lacks start) all.asks in
      talk_halted e refl (subst Q (sym same) (why_of_all m why)) (halts_of_all (ComesInto (known_from store fits lacks i.serving.store) d f) (ComesInto (known_from store fits lacks start) c f) into_so_far at) (let same = i.steady in omega (arith, same, n))

-- as many requests were answered as one connection may have
module _ {S : Type 0} (store : Store S) (buckets : Buckets) (g : Grammar) where
  pub talk_is_over : (all : Talk S) (more : ℕ) (kept : List ℕ) (holds : S → Type 0) (known : Known S) (times : Option (List ℕ)) (served : Served) (c d : Connection) → more ≡ 0 → InTalk store known.fits buckets g all holds times served more kept c d → Talks all holds known times served (Ok tt) c d
  talk_is_over all more kept holds known times served c d over i =
      let rest : talk store buckets g more i.serving (kept ++ i.left) ≡ record { text = []; stops = []; halts = []; asks = []; serving = i.serving; is_over = false } = ap (λ n. talk store buckets g n i.serving (kept ++ i.left)) over ∙ talk_none store buckets g i.serving (kept ++ i.left) in
      let is : all ≡ record { text = i.text ++ []; stops = i.stops ++ []; halts = i.halts ++ []; asks = i.asks ++ []; serving = i.serving; is_over = false } = i.is ∙ ap (prefixed i.text i.stops i.halts i.asks) rest in
      let P : Talk S → Type 0 = λ x. Talks x holds known times served (Ok tt) c d in
      let Q : List ℕ → Type 0 = Wrote c.written d.written in
      subst P (sym is) (whole refl refl (subst Q (sym (append-nil i.text)) i.wrote) (all_append known.fits i.asks [] i.fit tt) i.stands i.steady)

-- ---- over the connection that is present

-- a turn more, whatever is to follow from it
module _ {S : Type 0} (store : Store S) (fits lacks : S → ℕ → Job → Type 0) (buckets : Buckets) (g : Grammar) (all : List ℕ → Talk S) (start : S) (more n : ℕ) (kept kept' : List ℕ) (holds holds' : S → Type 0) (times times' : Option (List ℕ)) (served served' : Served) (r : Result Bool ServeFault) (Next' : List ℕ → Connection → Connection → Type 0) (o m k : Option Connection) where
  pub turn_then : n ≡ suc more → OnPresent (λ c d. OnLeft (λ left. InTalk store (fits_asking fits) buckets g (all left) (Reached store fits lacks holds start) times served n kept c d) c.left) o m → IsSome k
      → ((q : Serving S) → Stands holds times served q → ServesOn (λ left. turn store buckets g (more == 0) q (kept ++ left)) (Reached store fits lacks holds' q.store) (known_from store fits lacks q.store) times' served' r kept' m k)
      → ((left : List ℕ) (c d f : Connection) (i : InTalk store (fits_asking fits) buckets g (all left) (Reached store fits lacks holds start) times served (suc more) kept c d) → Follows store fits lacks buckets g (all left) start more kept kept' holds holds' times times' served served' c d f i r → Next' left c f)
      → OnPresent (λ c f. OnLeft (λ left. Next' left c f) c.left) o k
  turn_then e inv some serves step =
      on_present_bind (λ c d. OnLeft (λ left. InTalk store (fits_asking fits) buckets g (all left) (Reached store fits lacks holds start) times served n kept c d) c.left) (λ c f. OnLeft (λ left. Next' left c f) c.left) o m k inv some
      (λ c d f em ek h.
      on_left (λ left. Next' left c f) c.left
      (λ left el.
      let P : ℕ → Type 0 = λ x. InTalk store (fits_asking fits) buckets g (all left) (Reached store fits lacks holds start) times served x kept c d in
      let i = subst P e (at_left (λ l. InTalk store (fits_asking fits) buckets g (all l) (Reached store fits lacks holds start) times served n kept c d) c.left left el h) in
      step left c d f i
      (at_left (λ l. Serves (turn store buckets g (more == 0) i.serving (kept ++ l)) (Reached store fits lacks holds' i.serving.store) (known_from store fits lacks i.serving.store) times' served' r kept' d f) d.left i.left i.told
      (at_present (λ d f. OnLeft (λ l. Serves (turn store buckets g (more == 0) i.serving (kept ++ l)) (Reached store fits lacks holds' i.serving.store) (known_from store fits lacks i.serving.store) times' served' r kept' d f) d.left) m k d f em ek
      (serves i.serving (stands_plain store fits lacks holds times served start i.serving i.stands))))))
