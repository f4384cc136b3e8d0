-- Jobs that are asked, and what the changes after them hash: where all of it is such, it is such of each.
use Rattle.std.specs.Prelude.{◌≡◌, ℕ, List, [], ◌∷◌, ◌++◌}
use Rattle.std.specs.List.{AllByRecursion}
use Rattle.std.proofs.Common.{◌≡◌, true, subst, inl, inr}
use Rattle.crdt_core.specs.Members.{OneOf}
use Rattle.crdt_core.proofs.Each.{all_weaker}
use Rattle.lab_outside.specs.Connection.{Connection}
use Rattle.serve_model.specs.declared.buckets.Buckets.{Buckets}
use Rattle.serve_model.specs.Stores.{Asking, fits_asking}
use Rattle.serve_model.specs.declared.served.ServeFault.{ServeFault}
use Rattle.serve_model.specs.Talk.{Grammar, Serving, Stop, Halt, request_limit}
use Rattle.serve_model.specs.Connections.{IsPrefixOf, stated, IsUpTo, IsInto, WasSteady, IsServed, exact, part, AreServed, EndsSo, too_many, begun, halted}
use Rattle.serve_model.proofs.Ones.{one_left}
use Rattle.serve_model.proofs.Halting.{Within, talk_within}
use Rattle.serve_changes.specs.Changing.{Changing, changing, changing_fits}
use Rattle.plain_changes.specs.Changing.{HashesAfter, SomeAfter, IsServedHash}

module _ (IsHash : List ℕ → Type 0) where
  -- the job may be asked, and what the change after it hashes is such
  abbrev pub MaySuch : Asking Changing → Type 0
  MaySuch a = fits_asking changing_fits a × ((x : List ℕ) → HashesAfter x a → IsHash x)

  pub all_may : (asks : List (Asking Changing)) → AllByRecursion (fits_asking changing_fits) asks → ((x : List ℕ) → OneOf (HashesAfter x) asks → IsHash x) → AllByRecursion MaySuch asks
  all_may [] fit f = tt
  all_may (a ∷ asks) fit f = ((fit.0, λ x h. f x (inl h)), all_may asks fit.1 (λ x h. f x (inr h)))

  module _ (buckets : Buckets) (g : Grammar) where
    -- a stop that was come to, with what is served there
    up_to : (d : Connection) (Q : Stop Changing → Type 0) (stops : List (Stop Changing)) → ((x : List ℕ) → OneOf (λ (stop : Stop Changing). OneOf (HashesAfter x) stop.asks) stops → IsHash x) → OneOf (λ (stop : Stop Changing). IsUpTo changing buckets g (fits_asking changing_fits) d stop × Q stop) stops →
        OneOf (λ (stop : Stop Changing). IsUpTo changing buckets g MaySuch d stop × Q stop) stops
    up_to d Q [] f h = absurd h
    up_to d Q (stop ∷ stops) f h = elim h [
      | inl here ↦ inl ((here.0.0, all_may stop.asks here.0.1 (λ x g. f x (inl g))), here.1)
      | inr there ↦ inr (up_to d Q stops (λ x g. f x (inr g)) there)
    ]

    pub up_to_stop : (d : Connection) (stops : List (Stop Changing)) → ((x : List ℕ) → OneOf (λ (stop : Stop Changing). OneOf (HashesAfter x) stop.asks) stops → IsHash x) → OneOf (IsUpTo changing buckets g (fits_asking changing_fits) d) stops → OneOf (IsUpTo changing buckets g MaySuch d) stops
    up_to_stop d [] f h = absurd h
    up_to_stop d (stop ∷ stops) f h = elim h [
      | inl here ↦ inl (here.0, all_may stop.asks here.1 (λ x g. f x (inl g)))
      | inr there ↦ inr (up_to_stop d stops (λ x g. f x (inr g)) there)
    ]

    -- what is hashed from a stop on that was come to
    from_stop : (more : List (List ℕ)) (ds : List Connection) (x : List ℕ) (mid : Serving Changing) (P : Stop Changing → Type 0) (stops : List (Stop Changing)) → OneOf (λ (stop : Stop Changing). P stop × (mid ≡ stop.serving)) stops → IsServedHash buckets g mid more ds x →
        OneOf (λ (stop : Stop Changing). IsServedHash buckets g stop.serving more ds x) stops
    from_stop more ds x mid P [] h k = absurd h
    from_stop more ds x mid P (stop ∷ stops) h k = elim h [
      | inl here ↦ inl (subst (λ (q : Serving Changing). IsServedHash buckets g q more ds x) here.1 k)
      | inr there ↦ inr (from_stop more ds x mid P stops there k)
    ]

    -- connections that were served, with others behind them
    pub record AreSuch (p s : Serving Changing) (came rest : List (List ℕ)) (gone ds : List Connection) : Type 0 where
      pub served : AreServed changing buckets g MaySuch p came gone s
      pub others : (x : List ℕ) → IsServedHash buckets g s rest ds x → IsHash x

    one_served : (p : Serving Changing) (bytes : List ℕ) (d : Connection) (mid : Serving Changing) → IsServed changing buckets g (fits_asking changing_fits) p bytes d mid →
        ((x : List ℕ) → SomeAfter x (stated changing buckets g p bytes).asks (stated changing buckets g p bytes).stops → IsHash x) → IsServed changing buckets g MaySuch p bytes d mid
    one_served p bytes d mid (exact over text fit none same) f = exact over text (all_may (stated changing buckets g p bytes).asks fit (λ x h. f x (inl h))) none same
    one_served p bytes d mid (part rose one) f = part rose (up_to d (λ (stop : Stop Changing). mid ≡ stop.serving) (stated changing buckets g p bytes).stops (λ x h. f x (inr h)) one)

    behind_it : (p : Serving Changing) (bytes : List ℕ) (d : Connection) (mid : Serving Changing) (more : List (List ℕ)) (ds : List Connection) → IsServed changing buckets g (fits_asking changing_fits) p bytes d mid → (x : List ℕ) → IsServedHash buckets g mid more ds x → IsServedHash buckets g p (bytes ∷ more) (d ∷ ds) x
    behind_it p bytes d mid more ds (exact over text fit none same) x h = inr (inl (subst (λ (q : Serving Changing). IsServedHash buckets g q more ds x) same h))
    behind_it p bytes d mid more ds (part rose one) x h = inr (inr (from_stop more ds x mid (IsUpTo changing buckets g (fits_asking changing_fits) d) (stated changing buckets g p bytes).stops one h))

    pub served_such : (rest : List (List ℕ)) (ds : List Connection) (came : List (List ℕ)) (gone : List Connection) (p s : Serving Changing) → AreServed changing buckets g (fits_asking changing_fits) p came gone s →
        ((x : List ℕ) → IsServedHash buckets g p (came ++ rest) (gone ++ ds) x → IsHash x) → AreSuch p s came rest gone ds
    served_such rest ds [] [] p s served f = record { served = served; others = λ x h. f x (subst (λ (q : Serving Changing). IsServedHash buckets g q rest ds x) served h) }
    served_such rest ds [] (d ∷ gone) p s served f = absurd served
    served_such rest ds (bytes ∷ came) [] p s served f = absurd served
    served_such rest ds (bytes ∷ came) (d ∷ gone) p s served f =
        let one = served.1 in
        let behind = served_such rest ds came gone served.0 s served.2 (λ x h. f x (behind_it p bytes d served.0 (came ++ rest) (gone ++ ds) one x h)) in
        record { served = (served.0, one_served p bytes d served.0 one (λ x h. f x (inl h)), behind.served); others = behind.others }

    -- so it is of the jobs before a get in the middle of which serving is given up, which are the first of all
    into_get : (d : Connection) (asks : List (Asking Changing)) (halts : List (Halt Changing)) → ((x : List ℕ) → OneOf (HashesAfter x) asks → IsHash x) → AllByRecursion (λ (h : Halt Changing). IsPrefixOf h.asks asks) halts →
        OneOf (IsInto changing buckets g (fits_asking changing_fits) d) halts → OneOf (IsInto changing buckets g MaySuch d) halts
    into_get d asks [] f first h = absurd h
    into_get d asks (halt ∷ halts) f first h = elim h [
      | inl here ↦ inl (here.0, here.1, here.2, all_may halt.asks here.3 (λ x g. f x (subst (OneOf (HashesAfter x)) first.0.1 (one_left (HashesAfter x) halt.asks first.0.0 g))))
      | inr there ↦ inr (into_get d asks halts f first.1 there)
    ]

    -- where the client of an upload was lost
    was_steady : (d : Connection) (stops : List (Stop Changing)) → ((x : List ℕ) → OneOf (λ (stop : Stop Changing). OneOf (HashesAfter x) stop.asks) stops → IsHash x) → WasSteady changing buckets g (fits_asking changing_fits) d stops → WasSteady changing buckets g MaySuch d stops
    was_steady d stops f (inl none) = inl none
    was_steady d stops f (inr (rose, lost)) = inr (rose, up_to d (λ (stop : Stop Changing). stop.uploads ≡ true) stops f lost)

    pub ends_such : (p : Serving Changing) (bytes : List ℕ) (d : Connection) (fault : ServeFault) (overflows : List (Asking Changing) → Type 0) → (let t = stated changing buckets g p bytes in
        ((x : List ℕ) → SomeAfter x t.asks t.stops → IsHash x) → EndsSo changing buckets g (fits_asking changing_fits) overflows t d fault → EndsSo changing buckets g MaySuch overflows t d fault)
    ends_such p bytes d fault overflows f (too_many over text fit none) = too_many over text (all_may (stated changing buckets g p bytes).asks fit (λ x h. f x (inl h))) none
    ends_such p bytes d fault overflows f (begun e gives one steady) =
        begun e gives (up_to_stop d (stated changing buckets g p bytes).stops (λ x h. f x (inr h)) one) (was_steady d (stated changing buckets g p bytes).stops (λ x h. f x (inr h)) steady)
    ends_such p bytes d fault overflows f (halted e gives one) =
        let t = stated changing buckets g p bytes in
        halted e gives (into_get d t.asks t.halts (λ x h. f x (inl h)) (all_weaker (Within changing t.text t.asks) (λ (h : Halt Changing). IsPrefixOf h.asks t.asks) (λ h k. k.1) t.halts (talk_within changing buckets g request_limit p bytes)) one)
