-- What was served over a cluster that holds a map was served as from the map.
use Rattle.std.proofs.Common.{◌≡◌, ℕ, Bool, Option, Some, None, List, [], ◌∷◌, ◌++◌, Result, sym, ap, subst, ◌∙◌, inl, inr}
use Rattle.std.specs.Prelude.{⊤}
use Rattle.std.specs.List.{AllByRecursion}
use Rattle.crdt_core.specs.Members.{Has, OneOf}
use Rattle.lab_outside.specs.Bytes.{Wrote, WrotePrefix}
use Rattle.lab_outside.proofs.Present.{on_present}
use Rattle.lab_outside.specs.Connection.{Connection, OnPresent}
use Rattle.serve_model.specs.declared.buckets.Buckets.{Buckets}
use Rattle.serve_model.specs.declared.served.Served.{Served}
use Rattle.serve_model.specs.declared.served.ServeFault.{ServeFault}
use Rattle.serve_model.specs.declared.served.ServeFault.TheVariants.{Kept, Number, Memory}
use Rattle.serve_model.specs.declared.request.Request.{Request}
use Rattle.serve_model.specs.Clusters.{Cluster as Model, cluster as model, fits, lacks}
use Rattle.serve_model.specs.Plain.{Plain, plain, AreApart}
use Rattle.serve_model.specs.Serving.{Reached, Stands, Continues, CutOffAt, ComesTo, ComesInto, GivesUp, IsLostAt, IsSteady, Serves, done, cut_off, limited, given_up, halted, OnLeft}
use Rattle.serve_model.specs.Stores.{Asking, fits_asking, known_from}
use Rattle.serve_model.specs.Talk.{Grammar, Serving, Next, Stop, Halt, Turn, turn, begun_text}
use Rattle.serve_model.proofs.Ones.{one_weaker, one_at, at_all}
use Rattle.serve_cluster.specs.declared.cluster.Cluster.{Cluster}
use Rattle.serve_cluster.specs.Standing.{StandsFor}
use Rattle.plain_laws.specs.Served.{HoldsApart, IsTurnBlock, IsServingFrom, IsTurnFrom, IsAtMapStop, AreStopsFrom, IsGetFrom, AreGetsFrom}
use Rattle.serve_lent.specs.Lent.{HoldsMap, of_map, over_cluster, AreBlocksApart}

any : {A : Type 0} (xs : List A) → AllByRecursion (λ x. ⊤) xs
any [] = tt
any (x ∷ xs) = (tt, any xs)

-- what the law says of one request
pub record CitedTurns : Type 0 where
  pub whole : (buckets : Buckets) (g : Grammar) (last : Bool) (p : Serving Model) (P : Plain) (request : List ℕ) → HoldsApart p.store P → AreApart (IsTurnBlock buckets g last p P request) →
      AllByRecursion (fits_asking fits) (turn model buckets g last p request).asks → IsTurnFrom P buckets g last p request
  pub stops : (buckets : Buckets) (g : Grammar) (last : Bool) (p : Serving Model) (P : Plain) (request : List ℕ) → HoldsApart p.store P → AreApart (IsTurnBlock buckets g last p P request) → AreStopsFrom P buckets g last p request
  pub gets : (buckets : Buckets) (g : Grammar) (last : Bool) (p : Serving Model) (P : Plain) (request : List ℕ) → HoldsApart p.store P → AreApart (IsTurnBlock buckets g last p P request) → AreGetsFrom P buckets g last p request

any_cause : (overflows : List (Asking Model) → Type 0) (asks : List (Asking Model)) (others : List (Asking Plain)) (e : ServeFault) → GivesUp overflows asks e → GivesUp (λ (x : List (Asking Plain)). ⊤) others e
any_cause overflows asks others Kept why = absurd why
any_cause overflows asks others Number why = tt
any_cause overflows asks others Memory why = tt

-- what is written up to two stops is the same, and what is served there
abbrev IsSameStop : Stop Model → Stop Plain → Type 0
IsSameStop s r = (s.text ≡ r.text) × IsServingFrom s.serving r.serving × (s.uploads ≡ r.uploads)

module _ (cited : CitedTurns) (buckets : Buckets) (g : Grammar) (last : Bool) (c : Model) (q : Serving Plain) (holds : HoldsApart c q.store) (new : Cluster) (request : List ℕ) (apart : AreBlocksApart c buckets g last q request) where
  abbrev p : Serving Model
  p = over_cluster c q

  abbrev t : Turn Model
  t = turn model buckets g last p request

  abbrev u : Turn Plain
  u = turn plain buckets g last q request

  abbrev Held : Model → Type 0
  Held = Reached model fits lacks (StandsFor new) p.store

  -- a code's cluster, clock and counts that stand for what is served over the cluster stand for what is served over the map
  stands_so : (times : Option (List ℕ)) (served : Served) (s : Serving Model) (r : Serving Plain) → IsServingFrom s r → Stands Held times served s → Stands (HoldsMap new) times served r
  stands_so times served s r from is = record {
    store = record { state = s.store; stands = is.store.0; holds = from.holds };
    clock = is.clock ∙ ap Some from.times;
    time = is.time ∙ from.time;
    kept = is.kept ∙ from.kept;
  }

  module _ (times : Option (List ℕ)) (served : Served) (result : Result Bool ServeFault) (kept : List ℕ) (a b : Connection) where
    cut_so : (s : Stop Model) (r : Stop Plain) → IsSameStop s r → CutOffAt (fits_asking fits) Held times served a b s → CutOffAt of_map.fits (HoldsMap new) times served a b r
    cut_so s r same is = ((subst (WrotePrefix a.written b.written) same.0 is.0.0, any r.asks), stands_so times served s.serving r.serving same.1 is.1)

    comes_so : (s : Stop Model) (r : Stop Plain) → IsSameStop s r → ComesTo (fits_asking fits) a b s → ComesTo of_map.fits a b r
    comes_so s r same is = (subst (WrotePrefix a.written b.written) same.0 is.0, any r.asks)

    into_so : (h : Halt Model) (k : Halt Plain) → IsGetFrom h k → ComesInto (known_from model fits lacks p.store) a b h → ComesInto of_map a b k
    into_so h k from (x, gives, wrote, fit) = (
      x,
      from.gives x gives,
      subst (λ (r : Request). WrotePrefix a.written b.written (k.text ++ begun_text r (Some x))) from.request (subst (λ (text : List ℕ). WrotePrefix a.written b.written (text ++ begun_text h.request (Some x))) from.text wrote),
      any k.asks,
    )

    at_stop : (s : Stop Model) → Has t.stops s → AllByRecursion (fits_asking fits) s.asks → IsAtMapStop q.store buckets g last p request s
    at_stop s there fit = at_all (λ (x : Stop Model). AllByRecursion (fits_asking fits) x.asks → IsAtMapStop q.store buckets g last p request x) t.stops s there (cited.stops buckets g last p q.store request holds apart) fit

    at_get : (h : Halt Model) → Has t.halts h → AllByRecursion (fits_asking fits) h.asks → OneOf (IsGetFrom h) u.halts
    at_get h there fit = at_all (λ (x : Halt Model). AllByRecursion (fits_asking fits) x.asks → OneOf (IsGetFrom x) u.halts) t.halts h there (cited.gets buckets g last p q.store request holds apart) fit

    from : AllByRecursion (fits_asking fits) t.asks → IsTurnFrom q.store buckets g last p request
    from fit = cited.whole buckets g last p q.store request holds apart fit

    steady_so : IsSteady (fits_asking fits) t.stops a b → IsSteady of_map.fits u.stops a b
    steady_so (inl none) = inl none
    steady_so (inr (rose, lost)) =
        let at = one_at (IsLostAt (fits_asking fits) a b) t.stops lost in
        inr (rose, one_weaker (IsSameStop at.0) (IsLostAt of_map.fits a b) (λ r same. (comes_so at.0 r same at.1.1.0, sym same.2 ∙ at.1.1.1)) u.stops (at_stop at.0 at.1.0 at.1.1.0.1))

    pub serves_so : Serves t Held (known_from model fits lacks p.store) times served result kept a b → Serves u (HoldsMap new) of_map times served result kept a b
    serves_so (done on is wrote fit stands goes_on faults) =
        let f = from fit in
        done on is (subst (Wrote a.written b.written) f.text wrote) (any u.asks) (stands_so times served t.serving u.serving f.serving stands) (subst (λ (n : Next). Continues n on kept b.left) f.next goes_on) faults
    serves_so (cut_off is rose stops) =
        let at = one_at (CutOffAt (fits_asking fits) Held times served a b) t.stops stops in
        cut_off is rose
        (one_weaker (IsSameStop at.0) (CutOffAt of_map.fits (HoldsMap new) times served a b) (λ r same. cut_so at.0 r same at.1.1) u.stops (at_stop at.0 at.1.0 at.1.1.0.1))
    serves_so (limited is next wrote fit faults) = let f = from fit in limited is (sym f.next ∙ next) (subst (Wrote a.written b.written) f.text wrote) (any u.asks) faults
    serves_so (given_up e is why stops steady) =
        let at = one_at (ComesTo (fits_asking fits) a b) t.stops stops in
        given_up e is (any_cause (known_from model fits lacks p.store).overflows t.asks u.asks e why)
        (one_weaker (IsSameStop at.0) (ComesTo of_map.fits a b) (λ r same. comes_so at.0 r same at.1.1) u.stops (at_stop at.0 at.1.0 at.1.1.1)) (steady_so steady)
    serves_so (halted e is why halts faults) =
        let at = one_at (ComesInto (known_from model fits lacks p.store) a b) t.halts halts in
        halted e is (any_cause (known_from model fits lacks p.store).overflows t.asks u.asks e why)
        (one_weaker (IsGetFrom at.0) (ComesInto of_map a b) (λ k same. into_so at.0 k same at.1.1) u.halts (at_get at.0 at.1.0 at.1.1.3)) faults

-- so it is on the connection that is present, of the bytes that are told to be left
module _ (cited : CitedTurns) (buckets : Buckets) (g : Grammar) (last : Bool) (c : Model) (q : Serving Plain) (holds : HoldsApart c q.store) (new : Cluster) (before : List ℕ) (times : Option (List ℕ)) (served : Served) (result : Result Bool ServeFault) (kept : List ℕ) where
  abbrev Over : Connection → Connection → Type 0
  Over a b = OnLeft (λ left. Serves (turn model buckets g last (over_cluster c q) (before ++ left)) (Reached model fits lacks (StandsFor new) c) (known_from model fits lacks c) times served result kept a b) a.left

  abbrev From : Connection → Connection → Type 0
  From a b = OnLeft (λ left. AreBlocksApart c buckets g last q (before ++ left) → Serves (turn plain buckets g last q (before ++ left)) (HoldsMap new) of_map times served result kept a b) a.left

  on_left : (a b : Connection) (o : Option (List ℕ)) →
      OnLeft (λ left. Serves (turn model buckets g last (over_cluster c q) (before ++ left)) (Reached model fits lacks (StandsFor new) c) (known_from model fits lacks c) times served result kept a b) o →
      OnLeft (λ left. AreBlocksApart c buckets g last q (before ++ left) → Serves (turn plain buckets g last q (before ++ left)) (HoldsMap new) of_map times served result kept a b) o
  on_left a b None h = h
  on_left a b (Some left) h = λ apart. serves_so cited buckets g last c q holds new (before ++ left) apart times served result kept a b h

  pub from_map : (old_present new_present : Option Connection) → OnPresent Over old_present new_present → OnPresent From old_present new_present
  from_map old_present new_present h = on_present Over From old_present new_present (λ a b h. on_left a b a.left h) h
