-- How walks begin: over which tables, and with whom.
use Rattle.std.specs.Prelude.{◌≡◌, ◌≤◌, ◌⊎◌, ℕ, Bool, true, false, not, cond, ◌==◌, ◌||◌, Option, Some, None, List, [], ◌∷◌, map, filter, IsTrue, refl}
use Rattle.std.specs.List.{Contains, AllByRecursion, list_all, list_any}
use Rattle.std.proofs.Common.{ap, sym, subst, ◌∙◌, inl, inr, arith}
use Rattle.std.proofs.lemmas.Bool.{eq-eqb, cases_lt}
use Rattle.std.proofs.lemmas.List.Elements.{All-contains_itself, recursion_from_All}
use Rattle.blake2_hash.specs.Blake2b.{blake2b}
use Rattle.crdt_core.specs.EntryLaws.{and_parts}
use Rattle.crdt_core.specs.Laws.{JoinLaws}
use Rattle.crdt_core.specs.Members.{Has, OneOf}
use Rattle.crdt_core.proofs.Each.{all_append, all_weaker}
use Rattle.table_schema.specs.Words.{Words}
use Rattle.table_schema.specs.Laws.{Laws}
use Rattle.walk_model.proofs.Covering.{kept_in, under_start}
use Rattle.plane_model.specs.Rows.{IsAtLeast, IsOver}
use Rattle.plane_model.specs.World as plane
use Rattle.plane_model.specs.World.{row_at as log_at, collected_at}
use Rattle.plane_model.specs.Kept.{IsGone}
use Rattle.plane_laws.proofs.Sound.{IsSound}
use Rattle.cluster_machine.specs.Layouts.{Layouts}
use Rattle.cluster_machine.specs.Node as machine
use Rattle.cluster_machine.specs.Node.{Part, Node, Post, Walk}
use Rattle.cluster_machine.specs.Phases.{is_spelled}
use Rattle.cluster_machine.specs.Rounds.{is_empty, confirmations, open_nodes, open_parts, rows_at, has_rows, are_spelled, walk_with, walks_of, starts, is_complete, emptied_parts, filled_parts, new_walks, walked_anew, again}
use Rattle.walk_model.specs.Noting.{tables_of}
use Rattle.cluster_machine.specs.Hashes.{AsksOver, NoClash}
use Rattle.cluster_machine.specs.World.{World}
use Rattle.cluster_machine.specs.Step.{did}
use Rattle.machine_laws.proofs.Rounding.{said_starts}
use Rattle.machine_reads.specs.Places.{Place, at_place}
use Rattle.machine_reads.specs.Tie.{Issued, a_round, a_repair, both, State, HasBase, GivesNext, HadThere, IsAllGone, IsConfirmed, IsRound, IsRoundIn, IsPart, IsWalk, IsTied}
use Rattle.machine_reads.proofs.Leads.{Leads}
use Rattle.machine_reads.proofs.Pairs.{among_rows}
use Rattle.machine_reads.proofs.Sees.{newest_same}
use Rattle.machine_reads.proofs.Rounds.{round_by}
use Rattle.machine_reads.proofs.Walks.{at_least_some, MayAsk, MayCompare, sent_starts, own_over}
use Rattle.machine_reads.proofs.Views.{all_filter}

any_has : {X : Type 0} (f : X → Bool) (xs : List X) (x : X) → Has xs x → f x ≡ true → list_any f xs ≡ true
any_has f [] x h e = absurd h
any_has f (y ∷ xs) x (inl same) e = ap (λ b. b || list_any f xs) (ap f same ∙ e)
any_has f (y ∷ xs) x (inr h) e = or_right (f y) (list_any f xs) (any_has f xs x h e)
  where
    or_right : (a b : Bool) → b ≡ true → (a || b) ≡ true
    or_right true b e = refl
    or_right false b e = e

one_of_three : (table : ℕ) → 1 ≤ table → table ≤ 3 → Has (1 ∷ 2 ∷ 3 ∷ []) table
one_of_three table low high = elim (cases_lt table 2) [
  | inl one ↦ inl (omega arith)
  | inr more ↦ elim (cases_lt table 3) [ inl two ↦ inr (inl (omega arith)) | inr three ↦ inr (inr (inl (omega arith))) ]
]

-- there is one, so they are not empty
some_there : {X : Type 0} (xs : List X) (x : X) → Has xs x → not (is_empty xs) ≡ true
some_there [] x h = absurd h
some_there (y ∷ xs) x h = refl

each_over : {R : Type 0} {join : R → R → R} → JoinLaws join → (o q : Option R) → ((x : R) → IsAtLeast join q x → IsAtLeast join o x) → IsOver join o q
each_over laws o None f = tt
each_over laws o (Some y) f = f y (laws.idempotent y)

not_true : (b : Bool) → not b ≡ true → b ≡ false
not_true true e = cc
not_true false e = refl

-- those that are left pass the test too
all_passing : {X : Type 0} (P : X → Type 0) (f : X → Bool) (xs : List X) → AllByRecursion P xs → AllByRecursion (λ x. P x × (f x ≡ true)) (filter f xs)
all_passing P f [] a = tt
all_passing P f (x ∷ xs) a = elim (f x) as (λ b. f x ≡ b → AllByRecursion (λ x. P x × (f x ≡ true)) (cond b (x ∷ filter f xs) (filter f xs))) [
  | true ↦ (λ e. ((a.0, e), all_passing P f xs a.1))
  | false ↦ (λ e. all_passing P f xs a.1)
] refl

pub all_inside : (set : List ℕ) → AllByRecursion (λ n. Contains set n) set
all_inside set = recursion_from_All (λ n. Contains set n) set (All-contains_itself set)

-- what holds of each node of these partitions holds of their confirmations
all_confirmations : (Is : ℕ → ℕ → Type 0) (nodes : Part → List ℕ) (parts : List Part) → AllByRecursion (λ (part : Part). (n : ℕ) → Is part.partition n) parts → AllByRecursion (λ (c : machine.Confirmed). Is c.partition c.node) (confirmations nodes parts)
all_confirmations Is nodes [] a = tt
all_confirmations Is nodes (part ∷ parts) a =
    all_append (λ (c : machine.Confirmed). Is c.partition c.node) (map (λ n. record { partition = part.partition; node = n }) (nodes part)) (confirmations nodes parts) (each (nodes part)) (all_confirmations Is nodes parts a.1)
  where
    each : (ns : List ℕ) → AllByRecursion (λ (c : machine.Confirmed). Is c.partition c.node) (map (λ n. record { partition = part.partition; node = n }) ns)
    each [] = tt
    each (n ∷ ns) = (a.0 n, each ns)

module _ {R L : Type 0} (join : R → R → R) (s : Words R) (k : Layouts L) (partitions : ℕ) (H : List ℕ → Type 0) (some : 1 ≤ partitions) (joins_well : JoinLaws join) (laws : Laws join s) where
  -- the table of what is at a place of a partition is among those over which a walk begins
  tables_have : (y : Node R L) (part : ℕ) (q : Place) (r : R) → AllByRecursion (λ r. IsTrue (s.is_proper r)) y.accepted → q.0 ≡ part → IsAtLeast join (at_place s join y.accepted q) r → Has (tables_of s (rows_at join s y part)) q.1.0
  tables_have y part q r proper e has =
      let there = at_least_some join (at_place s join y.accepted q) r has in
      let z = there.0 in
      let found = among_rows joins_well laws y.accepted part q z proper e there.1 in
      let table : s.table z ≡ q.1.0 = ap (λ (a : Place). a.1.0) found.1.0 in
      let range = laws.table_is_first_to_third z found.1.1 in
      kept_in (λ i. list_any (λ (r : R). s.table r == i) (rows_at join s y part)) (1 ∷ 2 ∷ 3 ∷ []) q.1.0
      (subst (λ i. Has (1 ∷ 2 ∷ 3 ∷ []) i) table (one_of_three (s.table z) range.0 range.1))
      (any_has (λ (r : R). s.table r == q.1.0) (rows_at join s y part) z found.0 (eq-eqb (s.table z) q.1.0 table))

  -- a walk that begins accounts for each key
  pub new_walk : (new : State join s k partitions H) (h : Issued R L) (rd : plane.Round Place R) (y : Node R L) (part to : ℕ) → AllByRecursion (λ r. IsTrue (s.is_proper r)) y.accepted →
      HasBase join s k partitions H new h rd part ((both join s k partitions H).control.newest new.control rd.node) → GivesNext join s k partitions H new h rd part to →
      ((q : Place) (r : R) → HadThere join s k partitions H rd part q r → IsAtLeast join (at_place s join y.accepted q) r ⊎ IsGone (both join s k partitions H) new.log q r) → IsWalk join s k partitions H new h rd (walk_with join s y part to)
  new_walk new h rd y part to proper base given over = record {
    base = base;
    given = given;
    covers = λ q r had. elim (over q r had) [
      | inl has ↦ inr (inr (under_start (tables_of s (rows_at join s y part)) (walk_with join s y part to).state.prefixes q.1.0 (blake2b 32 q.1.1) refl (tables_have y part q r proper had.0 has)))
      | inr gone ↦ inl (inr gone)
    ];
  }

  -- what holds of each walk that begins
  all_with : (Q : Walk → Type 0) (y : Node R L) (part : ℕ) (nodes : List ℕ) → AllByRecursion (λ n. Q (walk_with join s y part n)) nodes → AllByRecursion Q (map (walk_with join s y part) nodes)
  all_with Q y part [] a = tt
  all_with Q y part (n ∷ nodes) a = (a.0, all_with Q y part nodes a.1)

  pub all_walks : (Q : Walk → Type 0) (y : Node R L) (nodes : Part → List ℕ) (parts : List Part) → AllByRecursion (λ part. AllByRecursion (λ n. Q (walk_with join s y part.partition n)) (nodes part)) parts → AllByRecursion Q (walks_of join s y nodes parts)
  all_walks Q y nodes [] a = tt
  all_walks Q y nodes (part ∷ parts) a = all_append Q (map (walk_with join s y part.partition) (nodes part)) (walks_of join s y nodes parts) (all_with Q y part.partition (nodes part) a.0) (all_walks Q y nodes parts a.1)

  -- each part, with the test that its rows have bytes
  pub spelled_parts : (Q : Part → Type 0) (y : Node R L) (parts : List Part) → AllByRecursion Q parts → are_spelled join s k y parts ≡ true → AllByRecursion (λ part. Q part × (list_all (is_spelled s) (rows_at join s y part.partition) ≡ true)) parts
  spelled_parts Q y [] a e = tt
  spelled_parts Q y (part ∷ parts) a e =
      let both_ = and_parts (list_all (is_spelled s) (rows_at join s y part.partition)) (are_spelled join s k y parts) e in
      ((a.0, both_.0), spelled_parts Q y parts a.1 both_.1)

  module _ (w : World R L) (p : State join s k partitions H) (g : Issued R L) (sound : IsSound (both join s k partitions H) p) (t : IsTied join s k partitions H w p g) (A C : Type 0) (clear : NoClash H) where
    -- a repair and a complete round may ask whatever they want
    pub all_free : (q : State join s k partitions H) (h : Issued R L) (n number : ℕ) (y : Node R L) (issued : h.rounds n number ≡ Some a_repair) (walks : List Walk) → AllByRecursion (λ (v : Walk). MayAsk join s k partitions H some joins_well laws w n q h number a_repair issued y a_repair v.state.partition v.node) walks
    all_free q h n number y issued [] = tt
    all_free q h n number y issued (v ∷ walks) = (tt, all_free q h n number y issued walks)

    module _ (n : ℕ) (x : machine.Round) (e : (w.nodes n).round ≡ Some x) (spelled : are_spelled join s k (w.nodes n) (filled_parts join s k (w.nodes n) x) ≡ true)
        (may : (part : ℕ) → OneOf (λ (y : Post R L). AsksOver part y.packet) (again join s k n (w.nodes n) x).posts → MayCompare join s k partitions H some joins_well laws w p g sound t A C clear n part) where
      abbrev y : Node R L
      y = w.nodes n

      m : IsRound join s k partitions H p g n x
      m = subst (IsRoundIn join s k partitions H p g n) e (t.nodes n).round

      abbrev rd : plane.Round Place R
      rd = m.round

      abbrev Is : Part → Type 0
      Is part = IsPart join s k partitions H p g rd part

      abbrev walks : List Walk
      walks = new_walks join s k (w.nodes n) x

      over : (part : Part) → Is part → (q : Place) (r : R) → HadThere join s k partitions H rd part.partition q r → IsAtLeast join (at_place s join (w.nodes n).accepted q) r ⊎ IsGone (both join s k partitions H) p.log q r
      over part is = own_over join s k partitions H some joins_well laws w p g sound t A C clear n x e m part.partition is.base.mine

      given : (part : Part) → Is part → AllByRecursion (λ i. GivesNext join s k partitions H p g rd part.partition i) (open_nodes x part)
      given part is = all_filter _ _ part.set (subst (λ set. AllByRecursion (λ i. Contains set i) part.set) is.set_is (all_inside part.set))

      -- where no row of a partition is left all that the node had was collected
      all_gone : (part : Part) → Is part → has_rows join s y part.partition ≡ false → IsAllGone join s k partitions H p g rd part.partition
      all_gone part is none q e = each_over joins_well (collected_at (both join s k partitions H) p.log q) (log_at (both join s k partitions H) rd.log rd.node q) (λ r had. elim (over part is q r (e, had)) [
        | inl has ↦
            let there = at_least_some join (at_place s join y.accepted q) r has in
            absurd (let no : true ≡ false = sym (some_there (rows_at join s y part.partition) there.0 (among_rows joins_well laws y.accepted part.partition q there.0 (t.nodes n).proper e there.1).0) ∙ none in cc)
        | inr gone ↦ gone
      ])

      open_ones : AllByRecursion Is (open_parts x)
      open_ones = all_filter Is _ x.parts m.all_parts

      -- so each that is confirmed for want of rows is confirmed
      emptied : AllByRecursion (λ (c : machine.Confirmed). IsConfirmed join s k partitions H p g rd c.partition c.node) (confirmations (open_nodes x) (emptied_parts join s k y x))
      emptied = all_confirmations (IsConfirmed join s k partitions H p g rd) (open_nodes x) (emptied_parts join s k y x)
          (all_weaker _ _ (λ (part : Part) (is : Is part × (not (has_rows join s y part.partition) ≡ true)). λ i. inr (all_gone part is.0 (not_true (has_rows join s y part.partition) is.1)))
          (emptied_parts join s k y x) (all_passing Is (λ (part : Part). not (has_rows join s y part.partition)) (open_parts x) open_ones))

      filled_ones : AllByRecursion (λ part. Is part × (list_all (is_spelled s) (rows_at join s (w.nodes n) part.partition) ≡ true)) (filled_parts join s k (w.nodes n) x)
      filled_ones = spelled_parts Is y (filled_parts join s k (w.nodes n) x) (all_filter Is _ (open_parts x) open_ones) spelled

      fresh : AllByRecursion (IsWalk join s k partitions H p g rd) walks
      fresh = all_walks (IsWalk join s k partitions H p g rd) y (open_nodes x) (filled_parts join s k y x)
          (all_weaker _ _ (λ (part : Part) (is : Is part × (list_all (is_spelled s) (rows_at join s y part.partition) ≡ true)).
          all_weaker _ _ (λ i in_set. new_walk p g rd y part.partition i (t.nodes n).proper is.0.base in_set (over part is.0)) (open_nodes x part) (given part is.0)) (filled_parts join s k y x) filled_ones)

      abbrev May : Walk → Type 0
      May v = MayAsk join s k partitions H some joins_well laws w n p g x.number (a_round rd) m.issued (w.nodes n) (a_round rd) v.state.partition v.node

      may_ask : AllByRecursion May walks
      may_ask = all_walks May y (open_nodes x) (filled_parts join s k y x)
          (all_weaker _ _ (λ (part : Part) (is : Is part × (list_all (is_spelled s) (rows_at join s y part.partition) ≡ true)).
          all_weaker _ _ (λ i in_set. record {
            base = subst (λ v. HasBase join s k partitions H p g rd part.partition v) (ap ((both join s k partitions H).control.newest p.control) m.node ∙ newest_same join s k partitions H some w p sound t.control n) is.0.base;
            given = in_set;
            proper = (t.nodes n).proper;
            spelled = is.1;
            over = over part is.0;
          }) (open_nodes x part) (given part is.0)) (filled_parts join s k y x) filled_ones)

      is_anew : IsRound join s k partitions H p g n (walked_anew join s k (w.nodes n) x)
      is_anew = record {
        round = m.round;
        issued = m.issued;
        is_there = m.is_there;
        node = m.node;
        target = m.target;
        known = m.known;
        confirmed = all_append _ x.confirmed (confirmations (open_nodes x) (emptied_parts join s k y x)) m.confirmed emptied;
        parts = m.parts;
        all_parts = m.all_parts;
        walks = all_append _ walks _ fresh (all_filter _ _ x.walks m.walks);
      }

      -- an open round starts its walks anew
      pub walks_again : Leads join s k partitions H some joins_well {A = A} {C = C} w p g (did w n (again join s k n (w.nodes n) x))
      walks_again =
          let now = walked_anew join s k y x in
          round_by join s k partitions H some joins_well laws A C w p g sound t n x now (starts join s k y x.number walks) (are_spelled join s k y (filled_parts join s k y x)) (is_complete now) (said_starts join s k y x.number walks) e refl is_anew refl
          (sent_starts join s k partitions H some joins_well laws w n p g x.number (a_round rd) m.issued y walks may_ask may)
          (λ q h o. sent_starts join s k partitions H some joins_well laws w n q h x.number a_repair o y walks (all_free q h n x.number y o walks) (λ part one. tt))
