-- What was written to the connection with which serving ended is a first part of what is stated of it.
use Rattle.std.proofs.Common.{◌≡◌, ℕ, zero, suc, ◌==◌, Bool, Some, None, IfSome, List, [], ◌∷◌, ◌++◌, refl, sym, ap, ◌∙◌, append_assoc, subst}
use Rattle.std.specs.Prelude.{⊤}
use Rattle.std.specs.List.{AllByRecursion}
use Rattle.crdt_core.specs.Members.{OneOf}
use Rattle.lab_outside.specs.Connection.{Connection}
use Rattle.flow_model.specs.declared.order.Order.TheVariants as order
use Rattle.serve_model.specs.declared.buckets.Buckets.{Buckets}
use Rattle.serve_model.specs.declared.served.ServeFault.{ServeFault}
use Rattle.serve_model.specs.Stores.{Job, carry, Given, Store, Asking, IsFirstOf, given}
use Rattle.serve_model.specs.Talk.{Grammar, Serving, Next, goes, closes, exceeds, Stop, Halt, Turn, turn, Talk, go_on, talk, body_turn, stream_turn, begun_text, request_limit}
use Rattle.serve_model.specs.Connections.{IsPrefixOf, LiesWithin, GetLiesWithin, IsUpTo, IsInto, EndsSo, too_many, begun, halted, AreServed, stated}
use Rattle.serve_model.proofs.Alike.{any, AnswerAlike, Serves, Halts, AllMeant, talk_alike, into_alike, served_alike}
use Rattle.serve_model.proofs.Telling.{tells_same}
use Rattle.serve_model.proofs.Giving.{prefix_all}
use Rattle.serve_model.proofs.Halting.{gets_within}
use Rattle.serve_model.proofs.Within.{talk_within as stops_within}
use Rattle.serve_model.proofs.Ones.{one_at, at_all}

-- the same store, which in the middle of a get gives a first part of what it gives in all
abbrev in_whole : {S : Type 0} → Store S → Store S
in_whole store = record { carries = store.carries; gives = λ s time o g. IsFirstOf (Some g) (given (store.carries s time (carry o))) }

-- a first part of a first part
prefix_through : {A : Type 0} (xs ys zs : List A) → IsPrefixOf xs ys → IsPrefixOf ys zs → IsPrefixOf xs zs
prefix_through xs ys zs h k = (h.0 ++ k.0, sym (append_assoc xs h.0 k.0) ∙ (ap (λ x. x ++ k.0) h.1 ∙ k.1))

-- such states are kept by what may be asked, and what is given in the middle of a get is the first of what it gives in all
module _ {S : Type 0} (store : Store S) (Such : S → Type 0) (May : Asking S → Type 0)
    (keeps : (s : S) (time : ℕ) (job : Job) → Such s → May (record { state = s; time = time; job = job }) → Such (store.carries s time job).state)
    (first : (s : S) (time : ℕ) (bucket key : List ℕ) (g : Given) → Such s → store.gives s time (order.Get bucket key) g → IsFirstOf (Some g) (given (store.carries s time (carry (order.Get bucket key))))) where
  abbrev Same : S → S → Type 0
  Same s t = (s ≡ t) × Such s

  abbrev Any : Asking S → Type 0
  Any a = ⊤

  answers : AnswerAlike store (in_whole store) Same May Any
  answers = record {
    answers = λ s t time job same may any. (
      tells_same (store.carries s time job).end (store.carries t time job).end (ap (λ (x : S). (store.carries x time job).end) same.0),
      ap (λ (x : S). (store.carries x time job).begun) same.0,
      (ap (λ (x : S). (store.carries x time job).state) same.0, keeps s time job same.1 may),
    );
    earlier = λ a b left any. tt;
    gives = λ s t time bucket key g same gives. subst (λ (x : S). IsFirstOf (Some g) (given (store.carries x time (carry (order.Get bucket key))))) same.0 (first s time bucket key g same.1 gives);
  }

  module _ (buckets : Buckets) (g : Grammar) where
    -- both have the same turns and talks
    same_turn : (last : Bool) (p : Serving S) (bytes : List ℕ) → turn (in_whole store) buckets g last p bytes ≡ turn store buckets g last p bytes
    unfolding body_turn stream_turn
    same_turn last p bytes = refl

    goes_on_same : (f h : Serving S → List ℕ → Talk S) → ((p : Serving S) (bytes : List ℕ) → f p bytes ≡ h p bytes) → (t : Turn S) (n : Next) → go_on f t n ≡ go_on h t n
    goes_on_same f h same t (goes rest) = ap (λ (u : Talk S). go_on (λ p bytes. u) t (goes rest)) (same t.serving rest)
    goes_on_same f h same t closes = refl
    goes_on_same f h same t exceeds = refl

    same_talk : (count : ℕ) (p : Serving S) (bytes : List ℕ) → talk (in_whole store) buckets g count p bytes ≡ talk store buckets g count p bytes
    unfolding talk
    same_talk zero p bytes = refl
    same_talk (suc more) p bytes =
        ap (λ (t : Turn S). go_on (talk (in_whole store) buckets g more) t t.next) (same_turn (more == 0) p bytes)
        ∙ (let t = turn store buckets g (more == 0) p bytes in goes_on_same (talk (in_whole store) buckets g more) (talk store buckets g more) (same_talk more) t t.next)

    -- what is served is the same
    served_same : (p : Serving S) → Such p.store → Serves store (in_whole store) Same May Any answers p p
    served_same p such = record { store = (refl, such); times = refl; time = refl; kept = refl }

    module _ (overflows : List (Asking S) → Type 0) (p : Serving S) (such : Such p.store) (bytes : List ℕ) (d : Connection) where
      abbrev t : Talk S
      t = stated store buckets g p bytes

      abbrev u : Talk S
      u = stated (in_whole store) buckets g p bytes

      abbrev IsPart : List ℕ → Type 0
      IsPart text = IfSome d.written (λ written. IsPrefixOf written text)

      part_through : (text whole : List ℕ) → IsPrefixOf text whole → IsPart text → IsPart whole
      part_through text whole more = elim d.written as (λ o. IfSome o (λ written. IsPrefixOf written text) → IfSome o (λ written. IsPrefixOf written whole)) [
        | None ↦ λ h. tt
        | Some written ↦ λ h. prefix_through written text whole h more
      ]

      all_written : (text : List ℕ) → IfSome d.written (λ written. written ≡ text) → IsPart text
      all_written text = elim d.written as (λ o. IfSome o (λ written. written ≡ text) → IfSome o (λ written. IsPrefixOf written text)) [
        | None ↦ λ h. tt
        | Some written ↦ λ h. subst (IsPrefixOf written) h (prefix_all written)
      ]

      -- it came into the middle of a get, which is one of the whole store's
      into : OneOf (IsInto store buckets g May d) t.halts → IsPart t.text
      into halts =
          let at = one_at (IsInto store buckets g May d) t.halts halts in
          let alike = (talk_alike store (in_whole store) Same May Any answers buckets g request_limit p p bytes (served_same p such)).halts (any u.asks) in
          let k = at_all (λ (x : Halt S). AllByRecursion May x.asks → OneOf (Halts store (in_whole store) Same May Any answers x) u.halts) t.halts at.0 at.1.0 alike at.1.1.3 in
          let to = one_at (Halts store (in_whole store) Same May Any answers at.0) u.halts k in
          let there = into_alike store (in_whole store) Same May Any answers buckets g d at.0 to.0 to.1.1 at.1.1 in
          let lies = at_all (GetLiesWithin (in_whole store) u) u.halts to.0 to.1.0 (gets_within (in_whole store) buckets g (λ s time bucket key g h. h) request_limit p bytes) in
          subst IsPart (ap (λ (x : Talk S). x.text) (same_talk request_limit p bytes)) (part_through (to.0.text ++ begun_text to.0.request (Some there.0)) u.text (lies.0 there.0 there.1) there.2)

      pub ended_in_part : (fault : ServeFault) → EndsSo store buckets g May overflows t d fault → IsPart t.text
      ended_in_part fault (too_many over wrote fit none) = all_written t.text wrote
      ended_in_part fault (begun e why stops steady) =
          let at = one_at (IsUpTo store buckets g May d) t.stops stops in
          part_through at.0.text t.text (at_all (LiesWithin t) t.stops at.0 at.1.0 (stops_within store buckets g request_limit p bytes)).0 at.1.1.0
      ended_in_part fault (halted e why halts) = into halts

    -- whatever is asked may be asked
    each_any : (came : List (List ℕ)) (gone : List Connection) → ((r : Serving S) → AllMeant store (in_whole store) Same May Any answers buckets g r came gone) → (stops : List (Stop S)) →
        AllByRecursion (λ (r : Stop S). AllMeant store (in_whole store) Same May Any answers buckets g r.serving came gone) stops
    each_any came gone f [] = tt
    each_any came gone f (r ∷ stops) = (f r.serving, each_any came gone f stops)

    all_any : (came : List (List ℕ)) (gone : List Connection) (q : Serving S) → AllMeant store (in_whole store) Same May Any answers buckets g q came gone
    all_any [] gone q = tt
    all_any (x ∷ came) [] q = tt
    all_any (x ∷ came) (d ∷ gone) q =
        let u = talk (in_whole store) buckets g request_limit q x in
        (any u.asks, all_any came gone u.serving, λ rose. each_any came gone (λ r. all_any came gone r) u.stops)

    -- connections lead from such a state to such a one
    pub served_such : (p s : Serving S) (came : List (List ℕ)) (gone : List Connection) → Such p.store → AreServed store buckets g May p came gone s → Such s.store
    served_such p s came gone such served =
        (served_alike store (in_whole store) Same May Any answers buckets g [] [] came gone p s p (served_same p such) (all_any (came ++ []) (gone ++ []) p) served).alike.store.1
