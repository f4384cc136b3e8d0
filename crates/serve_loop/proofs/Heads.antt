-- How a request is served whose head was looked for.
use Rattle.std.proofs.Common.{◌≡◌, ℕ, List, [], ◌∷◌, Option, Some, None, Bool, true, refl, ◌∙◌, ap, subst}
use Rattle.lab_outside.specs.Times.{GivesTime}
use Rattle.http_model.specs.declared.head.Head.{Head}
use Rattle.http_model.specs.Cut.{ends, too_long, unfinished, cut}
use Rattle.http_model.specs.Heads.{IsHead, IsNoHead, IsReading}
use Rattle.http_model.proofs.HeadFacts.{head_unique}
use Rattle.serve_model.specs.declared.buckets.Buckets.{Buckets}
use Rattle.serve_model.specs.declared.served.Served.{Served}
use Rattle.serve_model.specs.Stores.{Store}
use Rattle.serve_model.specs.Talk.{Grammar, Serving, first_of, later_of, time_from, clocked, passing, said, bad_head, head_turn, cut_turn, turn}
use Rattle.serve_model.specs.Serving.{Stands}

-- ---- the time

gives_first : (times : List ℕ) (time : ℕ) (new : Option (List ℕ)) → GivesTime (Some times) time new → (time ≡ first_of times) × (new ≡ Some (later_of times))
gives_first [] time new h = absurd h
gives_first (t ∷ []) time new h = h
gives_first (t ∷ u ∷ us) time new h = h

pub gives_time : (old new : Option (List ℕ)) (time : ℕ) (times : List ℕ) → GivesTime old time new → old ≡ Some times → (time ≡ first_of times) × (new ≡ Some (later_of times))
gives_time old new time times h e = let Q : Option (List ℕ) → Type 0 = λ o. GivesTime o time new in gives_first times time new (subst Q e h)

-- the clock was asked
pub stands_clocked : {S : Type 0} (holds : S → Type 0) (old new : Option (List ℕ)) (served served' : Served) (p : Serving S) → served'.kept ≡ served.kept
    → ((times : List ℕ) → old ≡ Some times → (served'.time ≡ time_from served.time (first_of times)) × (new ≡ Some (later_of times)))
    → Stands holds old served p → Stands holds new served' (clocked p)
stands_clocked holds old new served served' p kept asked st =
    let a = asked p.times st.clock in
    record { store = st.store; clock = a.1; time = a.0 ∙ ap (λ t. time_from t (first_of p.times)) st.time; kept = kept ∙ st.kept }

-- ---- what a head's bytes say

reading_some : (front : List ℕ) (head : Head) (o : Option Head) → IsReading front o → IsHead front head → o ≡ Some head
reading_some front head None none is = absurd (none head is)
reading_some front head (Some other) some is = ap Some (head_unique front other head some is)

reading_none : (front : List ℕ) (o : Option Head) → IsReading front o → IsNoHead front → o ≡ None
reading_none front None is none = refl
reading_none front (Some head) is none = absurd (none head is)

-- ---- the turn that follows

module _ {S : Type 0} (store : Store S) (buckets : Buckets) (g : Grammar) (last : Bool) (p : Serving S) where
  pub turn_of_head : (head : Head) (all rest : List ℕ) → (front : List ℕ) × (cut all ≡ ends front rest) × IsHead front head → turn store buckets g last p all ≡ passing p (head_turn store buckets last (clocked p).time (Some head) (clocked p) rest)
  turn_of_head head all rest (front, e, is) =
      ap (λ x. passing p (cut_turn store buckets g last p x)) e ∙ ap (λ o. passing p (head_turn store buckets last (clocked p).time o (clocked p) rest)) (reading_some front head (g.head_of front) (g.reads front) is)

  pub turn_of_bad : (all rest : List ℕ) → (front : List ℕ) × (cut all ≡ ends front rest) × IsNoHead front → turn store buckets g last p all ≡ passing p (said (bad_head (clocked p).time) true (clocked p) rest)
  turn_of_bad all rest (front, e, none) =
      ap (λ x. passing p (cut_turn store buckets g last p x)) e ∙ ap (λ o. passing p (head_turn store buckets last (clocked p).time o (clocked p) rest)) (reading_none front (g.head_of front) (g.reads front) none)

  pub turn_of_long : (all rest : List ℕ) → (cut all ≡ too_long) × (rest ≡ all) → turn store buckets g last p all ≡ passing p (said (bad_head (clocked p).time) true (clocked p) rest)
  turn_of_long all rest h = ap (λ x. passing p (cut_turn store buckets g last p x)) h.0

  pub turn_of_end : (all rest : List ℕ) → (cut all ≡ unfinished) × (rest ≡ all) → turn store buckets g last p all ≡ passing p (said [] true p rest)
  turn_of_end all rest h = ap (λ x. passing p (cut_turn store buckets g last p x)) h.0
