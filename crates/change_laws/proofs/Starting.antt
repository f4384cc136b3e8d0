-- Each storage node of the older version may begin its round, and begins walks over what it has.
use Rattle.std.specs.Prelude.{◌≡◌, ◌≤◌, ◌<◌, ◌⊎◌, ℕ, suc, ◌+◌, Bool, true, false, cond, not, ◌&&◌, ◌==◌, leb, nat_lt, IsTrue, Option, Some, None, List, [], ◌∷◌, ◌++◌, length, map, refl}
use Rattle.std.specs.List.{AllByRecursion, filter, list_all}
use Rattle.std.proofs.Common.{ap, sym, subst, ◌∙◌, inl, inr, arith}
use Rattle.std.proofs.lemmas.Bool.{le-leb, lt-ltb, and_from, or_left, or_right, eq-eqb, eqb-true, eqb-false, cases_lt}
use Rattle.std.proofs.lemmas.List.Elements.{All-from_recursion, recursion_from_All}
use Rattle.crdt_core.specs.Members.{Has as HasOne}
use Rattle.layout_trackers.specs.declared.which.Which.{Which}
use Rattle.layout_trackers.specs.declared.which.Which.TheVariants.{Ack, Sync, SyncAck}
use Rattle.table_schema.specs.Words.{Words, partition_of}
use Rattle.table_schema.specs.Laws.{Laws}
use Rattle.table_model.specs.Rows.{rows}
use Rattle.table_model.proofs.RowLaws.{rows_proper}
use Rattle.view_model.specs.View.{View, oldest, newest, last_version, first_version, layout_at, version_of, ack_least, read_version}
use Rattle.control_model.specs.Facts.{entry_of}
use Rattle.version_laws.proofs.Tests.{has_left}
use Rattle.quorum_model.specs.Quorum.{is_among}
use Rattle.walk_model.specs.Walking.{Prefix}
use Rattle.walk_model.specs.Noting.{has_table, tables_of}
use Rattle.wire_messages.specs.declared.message.Tag.TheVariants.{Round as ForRound}
use Rattle.cluster_machine.specs.declared.step.Action.TheVariants.{Sync as GoOn}
use Rattle.cluster_machine.specs.declared.step.LocalEnd.TheVariants.{At, Idle}
use Rattle.cluster_machine.specs.Layouts.{Layouts, set_of, storage_in}
use Rattle.cluster_machine.specs.Node.{Node, Post, Round, Part, Walk, Confirmed, Did, quiet}
use Rattle.cluster_machine.specs.Acts.{Acted, acts, syncs}
use Rattle.cluster_machine.specs.Rounds.{numbered_from, confirmed_for, is_empty, is_walk, walk_at, rows_at, has_rows, walk_with, walks_of, asks_at, first_asks, starts, are_spelled, sets_in, parts_of, goes_on, may_sync, other_nodes, begin_round}
use Rattle.cluster_machine.specs.World.{Sent}
use Rattle.cluster_machine.specs.Run.{IsLayout}
use Rattle.machine_origins.proofs.Lists.{all_filter}
use Rattle.drained_laws.specs.Waiting.{SomeOf, Has}
use Rattle.drained_laws.specs.Calm.{IsMember}
use Rattle.drained_laws.specs.Accounts.{confirms, Carries, OnWay, AreThree}
use Rattle.drained_laws.proofs.Waits.{some_right, some_mapped, all_mapped, all_has}
use Rattle.drained_laws.proofs.Views.{among_here, among_there}
use Rattle.drained_laws.proofs.Posts.{three_at, member_at}
use Rattle.change_laws.specs.Resting.{AreUpTo}
use Rattle.change_laws.specs.Rounds.{tops, OnWalk, IsOnWalk, IsPart, IsWalk, AreWalks, IsGoing, IsRoundMessage, IsOfRounds, IsRounding}
use Rattle.change_laws.proofs.Lists.{some_filtered, some_before_map, some_flat, some_before_flat, some_found, found_some, some_one, one_some, some_not_empty, not_empty_one, with_all, all_flat, filter_all, all_of_each}
use Rattle.change_laws.proofs.TwoViews.{two, is_two, at_old, at_next, unread_two, least_two, counts_up_to}
use Rattle.change_laws.proofs.Moving.{sends_at}
use Rattle.change_laws.proofs.Rounding.{goes_so, young}
use Rattle.change_laws.proofs.Spread.{among_parts}
use Rattle.change_laws.proofs.Walking.{found_walk, is_walk_from, open_first}

-- ---- lists

pub among_one : (n : ℕ) (xs : List ℕ) → IsTrue (is_among n xs) → HasOne xs n
among_one n [] e = cc
among_one n (x ∷ xs) e = elim (among_parts n x xs e) [ inl h ↦ inl h | inr t ↦ inr (among_one n xs t) ]

pub among_has : (n : ℕ) (xs : List ℕ) → IsTrue (is_among n xs) → Has xs n
among_has n [] e = cc
among_has n (x ∷ xs) e = elim (among_parts n x xs e) [ inl h ↦ inl h | inr t ↦ inr (among_has n xs t) ]

pub all_from : (f : ℕ → Bool) (xs : List ℕ) → ((n : ℕ) → IsTrue (is_among n xs) → f n ≡ true) → list_all f xs ≡ true
all_from f [] h = refl
all_from f (x ∷ xs) h = and_from (f x) (list_all f xs) (h x (among_here x xs)) (all_from f xs (λ n e. h n (among_there n x xs e)))

first_of_some : (xs : List (List ℕ)) → length xs ≡ 256 → (set : List ℕ) × HasOne xs set
first_of_some [] e = absurd (omega (arith, e))
first_of_some (x ∷ xs) e = (x, inl refl)

low_numbered : (p bound : ℕ) (sets : List (List ℕ)) → p + length sets ≤ bound → AllByRecursion (λ (part : Part). part.partition < bound) (numbered_from p sets)
low_numbered p bound [] h = tt
low_numbered p bound (set ∷ sets) h = (omega arith, low_numbered (suc p) bound sets (omega arith))

and_right_true : (a b : Bool) → (a && b) ≡ true → b ≡ true
and_right_true true b e = e
and_right_true false b e = cc

not_true : (b : Bool) → not b ≡ true → b ≡ false
not_true true e = cc
not_true false e = refl

-- a node that is filtered by a test that it passes
pub kept_among : (f : ℕ → Bool) (m : ℕ) (ms : List ℕ) → IsTrue (is_among m ms) → f m ≡ true → IsTrue (is_among m (filter f ms))
kept_among f m [] e t = cc
kept_among f m (x ∷ xs) e t = elim (among_parts m x xs e) [
  | inl same ↦ subst (λ b. IsTrue (is_among m (cond b (x ∷ filter f xs) (filter f xs)))) (sym (ap f same ∙ t)) (subst (λ z. IsTrue (is_among m (z ∷ filter f xs))) (sym same) (among_here m (filter f xs)))
  | inr there ↦ (let rest = kept_among f m xs there t in elim (f x) as (λ b. IsTrue (is_among m (cond b (x ∷ filter f xs) (filter f xs)))) [ true ↦ among_there m x (filter f xs) rest | false ↦ rest ])
]

-- and such a node is among them
among_kept : (f : ℕ → Bool) (m : ℕ) (ms : List ℕ) → IsTrue (is_among m (filter f ms)) → IsTrue (is_among m ms)
among_kept f m [] e = cc
among_kept f m (x ∷ xs) e =
    elim (f x) as (λ b. IsTrue (is_among m (cond b (x ∷ filter f xs) (filter f xs))) → IsTrue (is_among m (x ∷ xs))) [
      | true ↦ (λ g. elim (among_parts m x (filter f xs) g) [ inl same ↦ subst (λ z. IsTrue (is_among m (z ∷ xs))) (sym same) (among_here m xs) | inr there ↦ among_there m x xs (among_kept f m xs there) ])
      | false ↦ (λ g. among_there m x xs (among_kept f m xs g))
    ] e

pub has_among : (n : ℕ) (xs : List ℕ) → Has xs n → IsTrue (is_among n xs)
has_among n [] h = elim h [ ]
has_among n (x ∷ xs) h = elim h [ inl same ↦ subst (λ z. IsTrue (is_among n (z ∷ xs))) (sym same) (among_here n xs) | inr there ↦ among_there n x xs (has_among n xs there) ]

-- a node has confirmed each of its partitions
self_confirmed : (n : ℕ) (q : Part) (qs : List Part) → Has qs q → Has (confirmed_for q.partition (map (λ (part : Part). record { partition = part.partition; node = n }) qs)) n
self_confirmed n q [] h = elim h [ ]
self_confirmed n q (p ∷ ps) h =
    elim (p.partition == q.partition) as (λ b. (p.partition == q.partition) ≡ b → Has (map (λ (c : Confirmed). c.node) (cond b (record { partition = p.partition; node = n } ∷ filter (λ (c : Confirmed). c.partition == q.partition) (map (λ (part : Part). record { partition = part.partition; node = n }) ps)) (filter (λ (c : Confirmed). c.partition == q.partition) (map (λ (part : Part). record { partition = part.partition; node = n }) ps)))) n) [
      | true ↦ (λ e. inl refl)
      | false ↦ (λ e. elim h [ inl same ↦ (let never : false ≡ true = sym e ∙ eq-eqb p.partition q.partition (ap (λ (z : Part). z.partition) same) in cc) | inr there ↦ self_confirmed n q ps there ])
    ] refl

-- ---- tables

one_of_three : (table : ℕ) → 1 ≤ table → table ≤ 3 → Has (1 ∷ 2 ∷ 3 ∷ []) table
one_of_three table low high = elim (cases_lt table 2) [
  | inl one ↦ inl (omega arith)
  | inr more ↦ elim (cases_lt table 3) [ inl two ↦ inr (inl (omega arith)) | inr three ↦ inr (inr (inl (omega arith))) ]
]

module _ {R : Type 0} {join : R → R → R} {s : Words R} (laws : Laws join s) where
  has_its_table : (there : List R) (r : R) → Has there r → has_table s (s.table r) there ≡ true
  has_its_table [] r h = elim h [ ]
  has_its_table (x ∷ xs) r h = elim h [
    | inl same ↦ or_left (s.table x == s.table r) (has_table s (s.table r) xs) (eq-eqb (s.table x) (s.table r) (ap s.table same))
    | inr more ↦ or_right (s.table x == s.table r) (has_table s (s.table r) xs) (has_its_table xs r more)
  ]

  -- the table of a row is among those of the rows
  pub tables_have : (there : List R) (r : R) → Has there r → IsTrue (s.is_proper r) → Has (tables_of s there) (s.table r)
  tables_have there r h proper =
      let range = laws.table_is_first_to_third r proper in
      some_filtered (λ t. t ≡ s.table r) (λ t. has_table s t there) (1 ∷ 2 ∷ 3 ∷ [])
      (one_some (λ t. (t ≡ s.table r) × (has_table s t there ≡ true)) (1 ∷ 2 ∷ 3 ∷ []) (s.table r) (one_of_three (s.table r) range.0 range.1) (refl, has_its_table there r h))

module _ {R : Type 0} {join : R → R → R} {s : Words R} (laws : Laws join s) {L : Type 0} (k : Layouts L) (l new : L) (later : k.reading.version new ≡ suc (k.reading.version l)) (real : 1 ≤ k.reading.version l) (layout : IsLayout k 256 l) (layout_new : IsLayout k 256 new)
    (part : List ℕ) (members : (n : ℕ) → IsMember k l n → IsTrue (is_among n part)) (members_new : (n : ℕ) → IsMember k new n → IsTrue (is_among n part)) where
  abbrev i : ℕ
  i = suc (k.reading.version l)

  -- a node that takes part, before rounds begin: all have acknowledged the newer version, and it knows that
  pub record IsReady (x : Node R L) : Type 0 where
    pub layouts : x.view.layouts ≡ l ∷ new ∷ []
    pub entries : AreUpTo k l (tops i (k.reading.version l) (k.reading.version l)) x.view
    pub calls : x.calls ≡ []
    pub round : x.round ≡ None
    pub proper : AllByRecursion (λ r. IsTrue (s.is_proper r)) x.accepted
    pub acked : (j : ℕ) → IsTrue (is_among j part) → i ≤ entry_of Ack x.view j

  -- a storage node is a member
  pub storage_member : (n : ℕ) → IsTrue (is_among n (k.storage l)) → IsMember k l n
  storage_member n e = at_all (k.storage l) layout.members e
    where
      at_all : (xs : List ℕ) → AllByRecursion (λ n. IsTrue (is_among n (k.reading.members l))) xs → IsTrue (is_among n xs) → IsMember k l n
      at_all [] h e = cc
      at_all (x ∷ xs) h e = elim (among_parts n x xs e) [ inl same ↦ subst (λ z. IsMember k l z) same h.0 | inr there ↦ at_all xs h.1 there ]

  pub some_member : (m : ℕ) × IsMember k l m
  some_member =
      let three = three_at k l layout 0 (omega arith) in
      (three.one, member_at k l layout 0 three.one (omega arith) (subst (λ ms. is_among three.one ms ≡ true) (sym three.are) (among_here three.one (three.two ∷ three.three ∷ []))))

  module _ (n : ℕ) (x : Node R L) (is : IsReady x) where
    abbrev v : View L
    v = x.view

    as_two : two k.reading l new later real v.trackers ≡ v
    as_two = is_two k.reading l new later real v is.layouts

    read_so : read_version k.reading v ≡ k.reading.version l
    read_so =
        let set = first_of_some (k.reading.sets l) layout.count in
        subst (λ (u : View L). read_version k.reading u ≡ k.reading.version l) as_two
        (unread_two k.reading l new later real v.trackers set.0 set.1 (λ n. is.entries Sync n) (λ n. is.entries SyncAck n))

    old_at : layout_at k.reading v (k.reading.version l) ≡ Some l
    old_at = subst (λ (u : View L). layout_at k.reading u (k.reading.version l) ≡ Some l) as_two (at_old k.reading l new later real)

    new_at : layout_at k.reading v i ≡ Some new
    new_at = subst (λ (u : View L). layout_at k.reading u i ≡ Some new) as_two (at_next k.reading l new later real)

    least_so : i ≤ ack_least k.reading v
    least_so =
        let m = some_member in
        let f : ℕ → Bool = λ n. leb i (entry_of Ack v n) in
        subst (λ (u : View L). i ≤ ack_least k.reading u) as_two
        (least_two k.reading l new later real Ack v.trackers m.0 (has_left (k.reading.members l) (_ ++ []) m.0 (among_one m.0 (k.reading.members l) m.1))
        (all_from f (k.reading.members l) (λ n e. le-leb i (entry_of Ack v n) (is.acked n (members n e))))
        (all_from f (k.reading.members new) (λ n e. le-leb i (entry_of Ack v n) (is.acked n (members_new n e)))))

    own_low : version_of k.reading Sync v n < i
    own_low =
        let low : version_of k.reading Sync v n ≤ k.reading.version l =
        counts_up_to Sync n (k.reading.version l) (oldest k.reading v) v.trackers (is.entries Sync n) (let e : oldest k.reading v ≡ k.reading.version l = ap (λ ls. first_version k.reading ls) is.layouts in omega arith) in
        omega arith

    -- a round begins exactly at a storage node of the older version
    pub may_so : may_sync join s k n v ≡ is_among n (k.storage l)
    may_so =
        let at = k.reading.version l in
        let f : ℕ → Bool = λ at. leb (suc at) (newest k.reading v) && (is_among n (storage_in k (layout_at k.reading v at)) && (leb (suc at) (ack_least k.reading v) && nat_lt (version_of k.reading Sync v n) (suc at))) in
        let young : newest k.reading v ≡ k.reading.version new = ap (λ ls. last_version k.reading 0 ls) is.layouts in
        let first : leb i (newest k.reading v) ≡ true = le-leb i (newest k.reading v) (omega arith) in
        let third : leb i (ack_least k.reading v) ≡ true = le-leb i (ack_least k.reading v) least_so in
        let fourth : nat_lt (version_of k.reading Sync v n) i ≡ true = lt-ltb (version_of k.reading Sync v n) i own_low in
        ap f read_so ∙ (rw (first, third, fourth) (ap (λ o. true && (is_among n (storage_in k o) && (true && true))) old_at ∙ by_test (is_among n (k.storage l))))
      where
        by_test : (b : Bool) → (true && (b && (true && true))) ≡ b
        by_test true = refl
        by_test false = refl

    -- the partitions that it hands on
    abbrev pub parts : List Part
    parts = parts_of join s k n x (Some l) (Some new)

    -- what it begins
    abbrev pub round_with : ℕ → Option L → Option L → Round
    round_with at here there =
        let ps = parts_of join s k n x here there in
        record { number = suc x.rounds; target = suc at; parts = ps; confirmed = map (λ (part : Part). record { partition = part.partition; node = n }) ps; walks = walks_of join s x (other_nodes join s k n) ps }

    abbrev pub begun_with : ℕ → Option L → Option L → Did R L
    begun_with at here there =
        let ps = parts_of join s k n x here there in
        record (quiet (goes_on join s k n (record x { rounds = suc x.rounds; lasting = None }) (round_with at here there))) {
          posts = starts join s k x (suc x.rounds) (walks_of join s x (other_nodes join s k n) ps);
          is_spelled = are_spelled join s k x ps;
        }

    begins_so : begin_round join s k n x ≡ begun_with (k.reading.version l) (Some l) (Some new)
    begins_so =
        ap (λ at. begun_with at (layout_at k.reading v at) (layout_at k.reading v (suc at))) read_so
        ∙ (ap (λ o. begun_with (k.reading.version l) o (layout_at k.reading v i)) old_at ∙ ap (λ o. begun_with (k.reading.version l) (Some l) o) new_at)

    did_by : (b : Bool) (c d : Acted R L) → (cond b c d).did ≡ cond b c.did d.did
    did_by true c d = refl
    did_by false c d = refl

    pub sync_so : (now : ℕ) → (acts join s k n now x GoOn).did ≡ cond (is_among n (k.storage l)) (begun_with (k.reading.version l) (Some l) (Some new)) (quiet x)
    sync_so now =
        let at = read_version k.reading v in
        let c : Acted R L = record { did = begin_round join s k n x; how = At (suc at) } in
        let d : Acted R L = record { did = quiet x; how = Idle at (ack_least k.reading v) } in
        ap (λ o. (syncs join s k n x o).did) is.round
        ∙ (did_by (may_sync join s k n v) c d ∙ (ap (λ b. cond b (begin_round join s k n x) (quiet x)) may_so ∙ ap (λ e. cond (is_among n (k.storage l)) e (quiet x)) begins_so))

    -- ---- its walks

    abbrev pub walks : List Walk
    walks = walks_of join s x (other_nodes join s k n) parts

    abbrev pub IsFinePart : Part → Type 0
    IsFinePart q = (q.partition < 256) × (q.set ≡ set_of k new q.partition) × (is_empty (rows_at join s x q.partition) ≡ false)

    pub parts_fine : AllByRecursion IsFinePart parts
    parts_fine =
        let f : Part → Bool = λ q. is_among n q.set && has_rows join s x q.partition in
        let all = sets_in join s k (Some l) in
        let low : AllByRecursion (λ (q : Part). q.partition < 256) all = low_numbered 0 256 (k.reading.sets l) (let e = layout.count in omega (arith, e)) in
        all_mapped (λ (q : Part). record { partition = q.partition; set = set_of k new q.partition }) (λ (q : Part). (q.partition < 256) × (f q ≡ true)) IsFinePart
        (λ q h. (h.0, refl, not_true (is_empty (rows_at join s x q.partition)) (and_right_true (is_among n q.set) (has_rows join s x q.partition) h.1)))
        (filter f all) (filter_all (λ (q : Part). q.partition < 256) f all low)

    rows_fine : (p : ℕ) → AllByRecursion (λ r. IsTrue (s.is_proper r)) (rows_at join s x p)
    rows_fine p =
        all_filter (λ r. IsTrue (s.is_proper r)) (λ r. partition_of s r == p) (rows join s x.accepted)
        (recursion_from_All (λ r. IsTrue (s.is_proper r)) (rows join s x.accepted) (rows_proper laws x.accepted (All-from_recursion (λ r. IsTrue (s.is_proper r)) x.accepted is.proper)))

    -- a walk with another node of the set is among them
    pub walk_there : (q : Part) (m : ℕ) → Has parts q → IsTrue (is_among m q.set) → (m ≡ n → ⊥) → Has walks (walk_with join s x q.partition m)
    walk_there q m h e d =
        let other = among_has m (other_nodes join s k n q) (kept_among (λ o. not (o == n)) m q.set e (ap not (ne m d))) in
        some_flat (λ w. w ≡ walk_with join s x q.partition m) (λ (part : Part). map (walk_with join s x part.partition) (other_nodes join s k n part)) parts
        (one_some (λ (part : Part). SomeOf (λ w. w ≡ walk_with join s x q.partition m) (map (walk_with join s x part.partition) (other_nodes join s k n part))) parts q h
        (some_mapped (walk_with join s x q.partition) (λ o. o ≡ m) (λ w. w ≡ walk_with join s x q.partition m) (λ o same. ap (walk_with join s x q.partition) same) (other_nodes join s k n q) other))
      where
        ne : (m : ℕ) → (m ≡ n → ⊥) → (m == n) ≡ false
        ne m d = elim (m == n) as (λ b. (m == n) ≡ b → b ≡ false) [ true ↦ (λ e. absurd (d (eqb-true m n e))) | false ↦ (λ e. refl) ] refl

    -- each of them is over such a partition, with another node of the set
    pub record IsStart (w : Walk) : Type 0 where
      pub of_part : Part
      pub fine : IsFinePart of_part
      pub other : ℕ
      pub in_set : IsTrue (is_among other (set_of k new of_part.partition))
      pub same : walk_with join s x of_part.partition other ≡ w

    pub each_start : (w : Walk) → Has walks w → IsStart w
    each_start w h =
        let some = some_before_flat (λ u. u ≡ w) (λ (part : Part). map (walk_with join s x part.partition) (other_nodes join s k n part)) parts h in
        let q = some_one (λ (part : Part). IsFinePart part × SomeOf (λ u. u ≡ w) (map (walk_with join s x part.partition) (other_nodes join s k n part))) parts (with_all IsFinePart (λ (part : Part). SomeOf (λ u. u ≡ w) (map (walk_with join s x part.partition) (other_nodes join s k n part))) parts parts_fine some) in
        let o = some_one (λ o. walk_with join s x q.0.partition o ≡ w) (other_nodes join s k n q.0) (some_before_map (λ u. u ≡ w) (walk_with join s x q.0.partition) (other_nodes join s k n q.0) q.1.1.1) in
        record {
          of_part = q.0;
          fine = q.1.1.0;
          other = o.0;
          in_set = subst (λ set. IsTrue (is_among o.0 set)) q.1.1.0.1 (among_kept (λ o. not (o == n)) o.0 q.0.set (has_among o.0 (other_nodes join s k n q.0) o.1.0));
          same = o.1.1;
        }

    module _ (number : ℕ → ℕ) (begun : ℕ → Type 0) (so : number n ≡ suc x.rounds) (b : begun n) (ws : List (Sent R L)) (moment : ℕ) where
      abbrev posts : List (Post R L)
      posts = starts join s k x (suc x.rounds) walks

      abbrev more : List (Sent R L)
      more = ws ++ sends_at moment n posts

      abbrev send : Post R L → Sent R L
      send q = record { from = n; to = q.to; packet = q.packet; moment = moment }

      here : IsTrue (is_among n (k.storage l)) → IsTrue (is_among n part)
      here storage = members n (storage_member n storage)

      -- its first questions are on their way
      first_ask : (w : Walk) → Has walks w → (t : ℕ) (y : List ℕ) → ([] ≡ y) × Has (tables_of s (rows_at join s x w.state.partition)) t → w ≡ walk_with join s x w.state.partition w.node → OnWalk n w.node (suc x.rounds) w.state.partition t y more
      first_ask w h t y at fresh =
          let P : Sent R L → Type 0 = IsOnWalk n w.node (suc x.rounds) w.state.partition t y in
          some_right P ws (sends_at moment n posts)
          (some_mapped send (λ (q : Post R L). P (send q)) P (λ q e. e) posts
          (some_flat (λ (q : Post R L). P (send q)) (first_asks join s k x (suc x.rounds)) walks
          (one_some (λ (u : Walk). SomeOf (λ (q : Post R L). P (send q)) (first_asks join s k x (suc x.rounds) u)) walks w h
          (some_mapped (λ (o : Prefix). asks_at join s k x (suc x.rounds) w.state.partition w.node o.0 o.1) (λ (o : Prefix). (o.0 ≡ t) × (o.1 ≡ y)) (λ (q : Post R L). P (send q)) (λ o e. inl (refl, refl, (refl, refl, e.0, e.1))) w.state.prefixes
          (subst (λ (u : Walk). SomeOf (λ (o : Prefix). (o.0 ≡ t) × (o.1 ≡ y)) u.state.prefixes) (sym fresh)
          (some_mapped (λ (t : ℕ). (t, [])) (λ v. v ≡ t) (λ (o : Prefix). (o.0 ≡ t) × (o.1 ≡ y)) (λ v e. (e, at.0)) (tables_of s (rows_at join s x w.state.partition)) at.1))))))

      walk_starts : (q : Part) (o : ℕ) → IsFinePart q → IsTrue (is_among o (set_of k new q.partition)) → Has walks (walk_with join s x q.partition o) → IsWalk join s k l new part more n (suc x.rounds) q.partition o x.accepted (walk_with join s x q.partition o)
      walk_starts q o fine in_set h =
          let w : Walk = walk_with join s x q.partition o in
          let there = rows_at join s x q.partition in
          let row = not_empty_one there fine.2 in
          record {
            given = in_set;
            goes_on = some_not_empty (λ (z : Prefix). z.0 ≡ s.table row.0) w.state.prefixes (some_mapped (λ (t : ℕ). (t, [])) (λ t. t ≡ s.table row.0) (λ (z : Prefix). z.0 ≡ s.table row.0) (λ t e. e) (tables_of s there)
                (tables_have laws there row.0 row.1 (all_has (λ r. IsTrue (s.is_proper r)) there row.0 (rows_fine q.partition) row.1)));
            awaited = λ t y e. first_ask w h t y (open_first t y (tables_of s there) e) refl;
            noted = tt;
          }

      walks_start : AreWalks join s k l new part more n (number n) x.accepted walks
      walks_start p m w e =
          let h = found_some (is_walk p m) walks w e in
          let at = found_walk p m walks w e in
          let st = each_start w h in
          let p_is : st.of_part.partition ≡ p = ap (λ (u : Walk). u.state.partition) st.same ∙ at.0 in
          let m_is : st.other ≡ m = ap (λ (u : Walk). u.node) st.same ∙ at.1 in
          subst (λ j. IsWalk join s k l new part more n j p m x.accepted w) (sym so)
          (subst (λ u. IsWalk join s k l new part more n (suc x.rounds) p m x.accepted u) st.same
          (subst (λ j. IsWalk join s k l new part more n (suc x.rounds) p j x.accepted (walk_with join s x st.of_part.partition st.other)) m_is
          (subst (λ j. IsWalk join s k l new part more n (suc x.rounds) j st.other x.accepted (walk_with join s x st.of_part.partition st.other)) p_is
          (walk_starts st.of_part st.other st.fine st.in_set (subst (Has walks) (sym st.same) h)))))

      part_starts : (q : Part) → Has parts q → IsFinePart q → IsPart more n (suc x.rounds) (round_with (k.reading.version l) (Some l) (Some new)).confirmed walks q
      part_starts q h fine = record {
        three = subst (λ set. AreThree set) (sym fine.1) (three_at k new layout_new q.partition fine.0);
        owed = λ m e. by_test m e (m == n) refl;
      }
        where
          by_test : (m : ℕ) → IsTrue (is_among m q.set) → (c : Bool) → (m == n) ≡ c → Has (confirmed_for q.partition (round_with (k.reading.version l) (Some l) (Some new)).confirmed) m ⊎ (OnWay (confirms (ForRound (suc x.rounds) q.partition)) n m more ⊎ ((w : Walk) × (walk_at q.partition m walks ≡ Some w)))
          by_test m e true c = inl (subst (Has (confirmed_for q.partition (round_with (k.reading.version l) (Some l) (Some new)).confirmed)) (sym (eqb-true m n c)) (self_confirmed n q parts h))
          by_test m e false c =
              let w = walk_with join s x q.partition m in
              inr (inr (some_found (is_walk q.partition m) walks (one_some (λ u. is_walk q.partition m u ≡ true) walks w (walk_there q m h e (eqb-false m n c)) (is_walk_from q.partition m w refl refl))))

      abbrev IsOf : Sent R L → Type 0
      IsOf y = IsOfRounds join s k l new part number begun y

      abbrev GoodPost : Post R L → Type 0
      GoodPost q = IsTrue (is_among n part) × IsTrue (is_among q.to part) × Carries (IsRoundMessage join s k l new part number begun n q.to) q.packet

      asks_good : IsTrue (is_among n part) → (w : Walk) → IsStart w → (ps : List Prefix) → AllByRecursion GoodPost (map (λ (o : Prefix). asks_at join s k x (suc x.rounds) w.state.partition w.node o.0 o.1) ps)
      asks_good h w st [] = tt
      asks_good h w st (o ∷ os) =
          let in_set : IsTrue (is_among w.node (set_of k new w.state.partition)) =
          subst (λ (u : Walk). IsTrue (is_among u.node (set_of k new u.state.partition))) st.same st.in_set in
          let low : w.state.partition < 256 = subst (λ (u : Walk). u.state.partition < 256) st.same st.fine.0 in
          ((h, members_new w.node (member_at k new layout_new w.state.partition w.node low in_set), (ap (λ j. ForRound j w.state.partition) (sym so), young laws k l new later part n x is.layouts, in_set, b)), asks_good h w st os)

      -- the round that begins is accounted for by what it sends
      pub begun_fine : IsTrue (is_among n (k.storage l)) →
          (let d = begun_with (k.reading.version l) (Some l) (Some new) in
          IsRounding join s k l new part number begun n d.node × IsGoing join s k l new part more n (number n) d.node × AllByRecursion IsOf (sends_at moment n d.posts))
      begun_fine storage =
          let low : AreUpTo k l (tops i i (k.reading.version l)) v = λ which j. wider which (entry_of which v j) (is.entries which j) in
          let g = goes_so laws k l new later part number begun more n (number n) (record x { rounds = suc x.rounds; lasting = None }) (round_with (k.reading.version l) (Some l) (Some new))
          (record { layouts = is.layouts; entries = low; calls = is.calls; proper = is.proper; idle = inl refl }) b (sym so) refl walks_start
          (all_of_each (IsPart more n (suc x.rounds) (round_with (k.reading.version l) (Some l) (Some new)).confirmed walks) parts (λ q h. part_starts q h (all_has IsFinePart parts q parts_fine h))) in (
            g.0,
            g.1,
            all_mapped send GoodPost IsOf (λ q h. h) posts
                (all_flat GoodPost (first_asks join s k x (suc x.rounds)) walks (all_of_each (λ (w : Walk). AllByRecursion GoodPost (first_asks join s k x (suc x.rounds) w)) walks (λ w h. asks_good (here storage) w (each_start w h) w.state.prefixes))),
          )
        where
          wider : (which : Which) (e : ℕ) → e ≤ tops i (k.reading.version l) (k.reading.version l) which → e ≤ tops i i (k.reading.version l) which
          wider Ack e h = h
          wider Sync e h = omega arith
          wider SyncAck e h = h
