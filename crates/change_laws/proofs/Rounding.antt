-- What is delivered while rounds are open: questions of walks and their answers, pushes and their confirmations.
use Rattle.std.specs.Prelude.{◌≡◌, ◌≢◌, ◌⊎◌, ℕ, suc, Bool, true, false, cond, not, ◌==◌, nat_lt, IsTrue, Option, Some, None, List, [], ◌∷◌, ◌++◌, map, refl}
use Rattle.std.specs.List.{AllByRecursion, filter, list_any, list_all}
use Rattle.std.proofs.Common.{ap, sym, subst, ◌∙◌, inl, inr, arith}
use Rattle.std.proofs.lemmas.Bool.{eqb-false, eq-eqb, le-ltb, cond-false, or_left, or_right, and_from}
use Rattle.blake2_hash.specs.declared.digest.Hash32.{Hash32}
use Rattle.layout_trackers.specs.declared.which.Which.{Which}
use Rattle.layout_trackers.specs.declared.which.Which.TheVariants.{Sync}
use Rattle.table_schema.specs.Words.{Words}
use Rattle.table_schema.specs.Laws.{Laws}
use Rattle.table_model.specs.Rows.{rows}
use Rattle.view_model.specs.View.{View, newest, last_version}
use Rattle.version_laws.proofs.OneView.{own_entry}
use Rattle.quorum_model.specs.Quorum.{is_among, two_of}
use Rattle.wire_messages.specs.declared.message.Message.{Message}
use Rattle.wire_messages.specs.declared.message.Message.TheVariants.{Store, Stored, Walk as AsksValue, Same as HasSame, Differ}
use Rattle.wire_messages.specs.declared.message.Tag.{Tag}
use Rattle.wire_messages.specs.declared.message.Tag.TheVariants.{Round as ForRound}
use Rattle.cluster_machine.specs.Layouts.{Layouts, set_of, is_given}
use Rattle.cluster_machine.specs.Node.{Node, says, Round, Part, Walk, Confirmed, Did, quiet}
use Rattle.cluster_machine.specs.Phases.{is_spelled}
use Rattle.cluster_machine.specs.Receives.{answers, hears, round_came, compared}
use Rattle.cluster_machine.specs.Rows.{same_bytes, accepts_all, accepts_read}
use Rattle.cluster_machine.specs.Rounds.{confirmed_for, is_complete, walk_at, rows_at, children_here, value_here, synced, goes_on}
use Rattle.cluster_machine.specs.World.{Sent}
use Rattle.crdt_core.proofs.Each.{all_append, all_weaker}
use Rattle.machine_origins.proofs.Lists.{all_parts}
use Rattle.drained_laws.specs.Waiting.{Has}
use Rattle.drained_laws.specs.Accounts.{Matter, reads, scans, confirms, Asks, Answers, IsOnWay, OnWay}
use Rattle.drained_laws.proofs.Waits.{some_left, some_right, some_others}
use Rattle.drained_laws.proofs.Deliveries.{one_changes}
use Rattle.drained_laws.proofs.Calls.{two_of_three}
use Rattle.change_laws.specs.Resting.{AreUpTo}
use Rattle.change_laws.specs.Rounds.{tops, walks_in, HasNumber, IsOnWalk, OnWalk, IsPart, IsWalk, AreWalks, IsRoundOf, IsGoing, IsOfRounds, IsRounding, AreRounds}
use Rattle.change_laws.proofs.Moving.{with_one, sends_at}
use Rattle.change_laws.proofs.Places.{KeepsPlaces, places_same, grows_all, noted_stays}
use Rattle.change_laws.proofs.Raising.{raised_low}

-- ---- tags and confirmations

abbrev number_in : Tag → ℕ
number_in (ForRound number p) = number
number_in _ = 0

abbrev pub partition_in : Tag → ℕ
partition_in (ForRound number p) = p
partition_in _ = 0

module _ (R : Type 0) where
  -- the confirmation of a question is its answer
  asks_answers : (b : Matter) (tag : Tag) (named p : ℕ) (rows : List (List ℕ × Option (List ℕ))) → Asks {R = R} b (Store tag named p rows) → Answers {R = R} b (Stored tag)
  asks_answers (confirms t) tag named p rows h = h
  asks_answers (reads q n) tag named p rows h = h
  asks_answers (scans q n) tag named p rows h = h

  stored_asks_none : (b : Matter) (tag : Tag) → Asks {R = R} b (Stored tag) → ⊥
  stored_asks_none (confirms t) tag h = h
  stored_asks_none (reads q n) tag h = h
  stored_asks_none (scans q n) tag h = h

  store_answers_none : (b : Matter) (tag : Tag) (named p : ℕ) (rows : List (List ℕ × Option (List ℕ))) → Answers {R = R} b (Store tag named p rows) → ⊥
  store_answers_none (confirms t) tag named p rows h = h
  store_answers_none (reads q n) tag named p rows h = h
  store_answers_none (scans q n) tag named p rows h = h

  -- a walk's messages are about no such matter
  abbrev pub IsNone : Message R → Type 0
  IsNone g = (b : Matter) → (Asks b g ⊎ Answers b g) → ⊥

  pub asks_none : (tag : Tag) (named p table : ℕ) (prefix : List ℕ) (hash : Hash32) → IsNone (AsksValue tag named p table prefix hash)
  asks_none tag named p table prefix hash (confirms t) h = elim h [ inl a ↦ a | inr a ↦ a ]
  asks_none tag named p table prefix hash (reads q n) h = elim h [ inl a ↦ a | inr a ↦ a ]
  asks_none tag named p table prefix hash (scans q n) h = elim h [ inl a ↦ a | inr a ↦ a ]

  pub same_none : (tag : Tag) (table : ℕ) (prefix : List ℕ) → IsNone (HasSame tag table prefix)
  same_none tag table prefix (confirms t) h = elim h [ inl a ↦ a | inr a ↦ a ]
  same_none tag table prefix (reads q n) h = elim h [ inl a ↦ a | inr a ↦ a ]
  same_none tag table prefix (scans q n) h = elim h [ inl a ↦ a | inr a ↦ a ]

  pub differ_none : (tag : Tag) (table : ℕ) (prefix : List ℕ) (pairs : List (ℕ × Hash32)) → IsNone (Differ tag table prefix pairs)
  differ_none tag table prefix pairs (confirms t) h = elim h [ inl a ↦ a | inr a ↦ a ]
  differ_none tag table prefix pairs (reads q n) h = elim h [ inl a ↦ a | inr a ↦ a ]
  differ_none tag table prefix pairs (scans q n) h = elim h [ inl a ↦ a | inr a ↦ a ]

-- who has confirmed stays so
pub confirmed_more : (p m : ℕ) (xs ys : List Confirmed) → Has (confirmed_for p xs) m → Has (confirmed_for p (xs ++ ys)) m
confirmed_more p m [] ys h = elim h [ ]
confirmed_more p m (x ∷ xs) ys h =
    elim (x.partition == p) as (λ b. Has (map (λ c. c.node) (cond b (x ∷ filter (λ c. c.partition == p) xs) (filter (λ c. c.partition == p) xs))) m → Has (map (λ c. c.node) (cond b (x ∷ filter (λ c. c.partition == p) (xs ++ ys)) (filter (λ c. c.partition == p) (xs ++ ys)))) m) [
      | true ↦ (λ i. elim i [ inl e ↦ inl e | inr r ↦ inr (confirmed_more p m xs ys r) ])
      | false ↦ (λ i. confirmed_more p m xs ys i)
    ] h

-- and so has the one that does now
pub confirmed_now : (p m q : ℕ) (xs : List Confirmed) → q ≡ p → Has (confirmed_for p (xs ++ record { partition = q; node = m } ∷ [])) m
confirmed_now p m q [] e = subst (λ b. Has (map (λ (c : Confirmed). c.node) (cond b (record { partition = q; node = m } ∷ []) [])) m) (sym (eq-eqb q p e)) (inl refl)
confirmed_now p m q (x ∷ xs) e =
    let rest = confirmed_now p m q xs e in
    elim (x.partition == p) as (λ b. Has (map (λ c. c.node) (cond b (x ∷ filter (λ c. c.partition == p) (xs ++ record { partition = q; node = m } ∷ [])) (filter (λ c. c.partition == p) (xs ++ record { partition = q; node = m } ∷ [])))) m) [
      | true ↦ inr rest
      | false ↦ rest
    ]

-- where all have confirmed the round is complete
pub complete_so : (R L : Type 0) (n number : ℕ) (confirmed : List Confirmed) (walks : List Walk) → ((p m : ℕ) (w : Walk) → walk_at p m walks ≡ Some w → ⊥) → (parts : List Part) → AllByRecursion (IsPart {R = R} {L = L} [] n number confirmed walks) parts →
    list_all (λ part. two_of part.set (confirmed_for part.partition confirmed)) parts ≡ true
complete_so R L n number confirmed walks none [] h = refl
complete_so R L n number confirmed walks none (part ∷ parts) h =
    and_from (two_of part.set (confirmed_for part.partition confirmed)) (list_all (λ part. two_of part.set (confirmed_for part.partition confirmed)) parts)
    (two_of_three part.set (confirmed_for part.partition confirmed) h.0.three (λ m e. elim (h.0.owed m e) [ inl x ↦ x | inr (inl never) ↦ elim never [ ] | inr (inr w) ↦ absurd (none part.partition m w.0 w.1) ]))
    (complete_so R L n number confirmed walks none parts h.1)

-- ---- rows that come

module _ {R : Type 0} (join : R → R → R) (s : Words R) {L : Type 0} where
  -- but for rows, blocks, notes and the outbox
  pub record IsSelf (x y : Node R L) : Type 0 where
    pub view : y.view ≡ x.view
    pub calls : y.calls ≡ x.calls
    pub round : y.round ≡ x.round
    pub lasting : y.lasting ≡ x.lasting

  one_self : (now : ℕ) (x : Node R L) (o : Option R) (block : Option (List ℕ)) → IsSelf x (accepts_read join s now x o block)
  one_self now x None block = record { view = refl; calls = refl; round = refl; lasting = refl }
  one_self now x (Some r) block = record { view = refl; calls = refl; round = refl; lasting = refl }

  pub all_self : (now : ℕ) (x : Node R L) (rows : List (List ℕ × Option (List ℕ))) → IsSelf x (accepts_all join s now x rows)
  all_self now x [] = record { view = refl; calls = refl; round = refl; lasting = refl }
  all_self now x (r ∷ rs) =
      let one = one_self now x (s.read r.0) r.1 in
      let rest = all_self now (accepts_read join s now x (s.read r.0) r.1) rs in
      record { view = rest.view ∙ one.view; calls = rest.calls ∙ one.calls; round = rest.round ∙ one.round; lasting = rest.lasting ∙ one.lasting }

module _ {R : Type 0} {join : R → R → R} {s : Words R} (laws : Laws join s) {L : Type 0} (k : Layouts L) (l new : L) (later : k.reading.version new ≡ suc (k.reading.version l)) (part : List ℕ) where
  abbrev top : Which → ℕ
  top = tops (suc (k.reading.version l)) (suc (k.reading.version l)) (k.reading.version l)

  -- ---- what is accounted for by some messages is so by others

  part_stays : (ws more : List (Sent R L)) (n i : ℕ) (confirmed : List Confirmed) (walks : List Walk) → ((b : Matter) (m : ℕ) → OnWay b n m ws → OnWay b n m more) → (q : Part) → IsPart ws n i confirmed walks q → IsPart more n i confirmed walks q
  part_stays ws more n i confirmed walks f q h = record {
    three = h.three;
    owed = λ m e. elim (h.owed m e) [ inl has ↦ inl has | inr (inl waits) ↦ inr (inl (f (confirms (ForRound i q.partition)) m waits)) | inr (inr w) ↦ inr (inr w) ];
  }

  pub state_stays : (ws more : List (Sent R L)) (n : ℕ) (v : View L) (o : Option Round) → ((b : Matter) (m : ℕ) → OnWay b n m ws → OnWay b n m more) → IsRoundOf join s k l new part ws n v o → IsRoundOf join s k l new part more n v o
  state_stays ws more n v None f h = h
  state_stays ws more n v (Some round) f h = (
    h.0,
    h.1,
    all_weaker (IsPart ws n round.number round.confirmed round.walks) (IsPart more n round.number round.confirmed round.walks) (part_stays ws more n round.number round.confirmed round.walks f) round.parts h.2,
  )

  pub walk_stays : (ws more : List (Sent R L)) (n i p m : ℕ) (a b : List R) (w : Walk) → KeepsPlaces laws a b → ((t : ℕ) (y : List ℕ) → OnWalk n m i p t y ws → OnWalk n m i p t y more) → IsWalk join s k l new part ws n i p m a w → IsWalk join s k l new part more n i p m b w
  walk_stays ws more n i p m a b w keeps f h = record { given = h.given; goes_on = h.goes_on; awaited = λ t y o. f t y (h.awaited t y o); noted = noted_stays laws a b p w.state.noted keeps h.noted }

  pub going_by : (ws more : List (Sent R L)) (n i : ℕ) (x y : Node R L) → y.round ≡ x.round → y.lasting ≡ x.lasting → KeepsPlaces laws x.accepted y.accepted →
      ((m p t : ℕ) (z : List ℕ) → OnWalk n m i p t z ws → OnWalk n m i p t z more) → IsRoundOf join s k l new part more n y.view y.round → IsGoing join s k l new part ws n i x → IsGoing join s k l new part more n i y
  going_by ws more n i x y round lasting keeps f state h = record {
    has_number = subst (λ o. HasNumber i o y.lasting) (sym round) (subst (λ o. HasNumber i x.round o) (sym lasting) h.has_number);
    walks = λ p m w e. walk_stays ws more n i p m x.accepted y.accepted w keeps (f m p) (h.walks p m w (sym (ap (λ o. walk_at p m (walks_in o y.lasting)) round ∙ ap (λ o. walk_at p m (walks_in x.round o)) lasting) ∙ e));
    state = state;
  }

  pub going_stays : (ws more : List (Sent R L)) (n i : ℕ) (x : Node R L) → ((b : Matter) (m : ℕ) → OnWay b n m ws → OnWay b n m more) → ((m p t : ℕ) (z : List ℕ) → OnWalk n m i p t z ws → OnWalk n m i p t z more) →
      IsGoing join s k l new part ws n i x → IsGoing join s k l new part more n i x
  going_stays ws more n i x f g h = going_by ws more n i x x refl refl (places_same laws x.accepted) g (state_stays ws more n x.view x.round f h.state) h

  -- ---- what is asked of a node of the newer set

  pub young : (id : ℕ) (x : Node R L) → x.view.layouts ≡ l ∷ new ∷ [] → newest k.reading x.view ≡ k.reading.version new
  young id x both = ap (λ ls. last_version k.reading 0 ls) both

  given_so : (id p : ℕ) (x : Node R L) → x.view.layouts ≡ l ∷ new ∷ [] → IsTrue (is_among id (set_of k new p)) → not (is_given k x.view id p) ≡ false
  given_so id p x both due =
      ap not (ap (λ ls. list_any (is_among id) (map (λ z. set_of k z p) ls)) both ∙ or_right (is_among id (set_of k l p)) (list_any (is_among id) (set_of k new p ∷ [])) (or_left (is_among id (set_of k new p)) false due))

  not_behind : (id named : ℕ) (x : Node R L) → x.view.layouts ≡ l ∷ new ∷ [] → named ≡ k.reading.version new → nat_lt (newest k.reading x.view) named ≡ false
  not_behind id named x both e = le-ltb (newest k.reading x.view) named (let y = young id x both in omega arith)

  -- a store of a round is taken and confirmed
  pub store_taken : (id now : ℕ) (x : Node R L) (from : ℕ) (tag : Tag) (named p : ℕ) (rows : List (List ℕ × Option (List ℕ))) → x.view.layouts ≡ l ∷ new ∷ [] → named ≡ k.reading.version new → IsTrue (is_among id (set_of k new p)) →
      hears join s k id now x from (Store tag named p rows) ≡ answers (accepts_all join s now x rows) from (Stored tag)
  store_taken id now x from tag named p rows both e due = cond-false (nat_lt (newest k.reading x.view) named) _ _ (not_behind id named x both e) ∙ cond-false (not (is_given k x.view id p)) _ _ (given_so id p x both due)

  -- a question of a walk is answered
  pub asked_taken : (id now : ℕ) (x : Node R L) (from : ℕ) (tag : Tag) (named p table : ℕ) (prefix : List ℕ) (hash : Hash32) → x.view.layouts ≡ l ∷ new ∷ [] → named ≡ k.reading.version new → IsTrue (is_among id (set_of k new p)) →
      hears join s k id now x from (AsksValue tag named p table prefix hash) ≡ record (answers x from (compared join s k x tag p table prefix hash)) { is_spelled = list_all (is_spelled s) (rows_at join s x p) }
  asked_taken id now x from tag named p table prefix hash both e due = cond-false (nat_lt (newest k.reading x.view) named) _ _ (not_behind id named x both e) ∙ cond-false (not (is_given k x.view id p)) _ _ (given_so id p x both due)

  -- what holds of both answers holds of the one that is given
  pub compared_is : (P : Message R → Type 0) (x : Node R L) (tag : Tag) (p table : ℕ) (prefix : List ℕ) (hash : Hash32) → P (HasSame tag table prefix) → P (Differ tag table prefix (children_here join s x table p prefix)) → P (compared join s k x tag p table prefix hash)
  compared_is P x tag p table prefix hash a b =
      elim (same_bytes hash.0 (value_here join s x table p prefix).0) as (λ c. P (cond c (HasSame tag table prefix) (Differ tag table prefix (children_here join s x table p prefix)))) [ true ↦ a | false ↦ b ]

  -- ---- what happens while these have begun, each under its number

  module _ (number : ℕ → ℕ) (begun : ℕ → Type 0) where
    abbrev pub IsIn : ℕ → Node R L → Type 0
    IsIn n x = IsRounding join s k l new part number begun n x

    abbrev pub IsOf : Sent R L → Type 0
    IsOf x = IsOfRounds join s k l new part number begun x

    -- the node that has a round goes on with it
    pub goes_so : (ws : List (Sent R L)) (id i : ℕ) (x : Node R L) (round : Round) → IsIn id (record x { round = None }) → begun id → round.number ≡ i → (round.target ≡ suc (k.reading.version l)) → AreWalks join s k l new part ws id i x.accepted round.walks →
        AllByRecursion (IsPart ws id round.number round.confirmed round.walks) round.parts → IsIn id (goes_on join s k id x round) × IsGoing join s k l new part ws id i (goes_on join s k id x round)
    goes_so ws id i x round is b same target walks parts = by_test (is_complete round) refl
      where
        by_test : (b : Bool) → is_complete round ≡ b → IsIn id (cond b (synced join s k id x round) (record x { round = Some round })) × IsGoing join s k l new part ws id i (cond b (synced join s k id x round) (record x { round = Some round }))
        by_test true e =
            let own = own_entry k.reading x.view Sync id round.target in (
              record { layouts = is.layouts; entries = raised_low k l new later top Sync id round.target x.view is.entries (let h = target in omega arith); calls = is.calls; proper = is.proper; idle = inl refl },
              record { has_number = same; walks = walks; state = (let h = target in omega arith) },
            )
        by_test false e = (
          record { layouts = is.layouts; entries = is.entries; calls = is.calls; proper = is.proper; idle = inr b },
          record { has_number = same; walks = walks; state = (target, e, parts) },
        )

    -- ---- a message comes

    module _ (was : ℕ → Node R L) (nodes : ℕ → Node R L) (before after : List (Sent R L)) (from to sent now moment : ℕ) (m : Message R) where
      abbrev x : Sent R L
      x = record { from = from; to = to; packet = says m; moment = sent }

      abbrev d : Did R L
      d = hears join s k to now (nodes to) from m

      abbrev more : List (Sent R L)
      more = (before ++ after) ++ sends_at moment to d.posts

      module _ (is : AreRounds join s k l new part number begun was nodes (before ++ x ∷ after)) where
        all_so : AllByRecursion IsOf before × AllByRecursion IsOf (x ∷ after)
        all_so = all_parts IsOf before (x ∷ after) is.messages

        here : IsTrue (is_among to part)
        here = all_so.1.0.1

        -- what is on its way stays so, or it was this message
        flight : (b : Matter) (n o : ℕ) → OnWay b n o (before ++ x ∷ after) → OnWay b n o more ⊎ IsOnWay b n o x
        flight b n o h = elim (some_others (IsOnWay b n o) before x after h) [ inl this ↦ inr this | inr rest ↦ inl (some_left (IsOnWay b n o) (before ++ after) (sends_at moment to d.posts) rest) ]

        walk_flight : (n o i p t : ℕ) (y : List ℕ) → OnWalk n o i p t y (before ++ x ∷ after) → OnWalk n o i p t y more ⊎ IsOnWalk n o i p t y x
        walk_flight n o i p t y h = elim (some_others (IsOnWalk n o i p t y) before x after h) [ inl this ↦ inr this | inr rest ↦ inl (some_left (IsOnWalk n o i p t y) (before ++ after) (sends_at moment to d.posts) rest) ]

        -- one node changes, and what waits stays accounted for
        pub put_together : IsIn to d.node → (begun to → IsGoing join s k l new part more to (number to) d.node) → ((n : ℕ) → n ≢ to → (b : Matter) (o : ℕ) → OnWay b n o (before ++ x ∷ after) → OnWay b n o more) →
            ((n : ℕ) → n ≢ to → (o i p t : ℕ) (y : List ℕ) → OnWalk n o i p t y (before ++ x ∷ after) → OnWalk n o i p t y more) → AllByRecursion IsOf (sends_at moment to d.posts) →
            AreRounds join s k l new part number begun was (with_one to d.node nodes) more
        put_together node_so going_so stays walks_stay sends_so = record {
          inside = one_changes (λ n y. IsTrue (is_among n part) → IsIn n y) to d.node nodes (λ h. node_so) (λ n apart. is.inside n);
          going = one_changes (λ n y. begun n → IsGoing join s k l new part more n (number n) y) to d.node nodes going_so
              (λ n apart h. going_stays (before ++ x ∷ after) more n (number n) (nodes n) (stays n apart) (λ o p t y. walks_stay n apart o (number n) p t y) (is.going n h));
          outside = one_changes (λ n y. is_among n part ≡ false → y ≡ was n) to d.node nodes (λ e. (let never : false ≡ true = sym e ∙ here in cc)) (λ n apart. is.outside n);
          messages = all_append IsOf (before ++ after) (sends_at moment to d.posts) (all_append IsOf before after all_so.0 all_so.1.1) sends_so;
        }

    -- rows come
    pub store_heard : (was nodes : ℕ → Node R L) (before after : List (Sent R L)) (from to sent now moment : ℕ) (tag : Tag) (named p : ℕ) (rows : List (List ℕ × Option (List ℕ))) →
        AreRounds join s k l new part number begun was nodes (before ++ record { from = from; to = to; packet = says (Store tag named p rows); moment = sent } ∷ after) →
        (let d = hears join s k to now (nodes to) from (Store tag named p rows) in AreRounds join s k l new part number begun was (with_one to d.node nodes) ((before ++ after) ++ sends_at moment to d.posts))
    store_heard was nodes before after from to sent now moment tag named p rows is =
        let msg : Message R = Store tag named p rows in
        let x : Sent R L = record { from = from; to = to; packet = says msg; moment = sent } in
        let d : Did R L = hears join s k to now (nodes to) from msg in
        let reply : Did R L = answers (accepts_all join s now (nodes to) rows) from (Stored tag) in
        let parts = all_parts IsOf before (x ∷ after) is.messages in
        let own = parts.1.0 in
        let old = is.inside to own.1 in
        let same : d ≡ reply = store_taken to now (nodes to) from tag named p rows old.layouts own.2.1 own.2.2 in
        let self = all_self join s now (nodes to) rows in
        let grows = grows_all laws now (nodes to) rows old.proper in
        let more : List (Sent R L) = (before ++ after) ++ sends_at moment to d.posts in
        let answer : Sent R L = record { from = to; to = from; packet = says (Stored tag); moment = moment } in
        let sends_so : sends_at moment to d.posts ≡ answer ∷ [] = ap (λ (e : Did R L). sends_at moment to e.posts) same in
        let node_so : d.node ≡ accepts_all join s now (nodes to) rows = ap (λ (e : Did R L). e.node) same in
        let stays : (n : ℕ) (b : Matter) (o : ℕ) → OnWay b n o (before ++ x ∷ after) → OnWay b n o more = λ n b o h.
        elim (flight was nodes before after from to sent now moment msg is b n o h) [
          | inl there ↦ there
          | inr this ↦ (elim this [
            | inl asks ↦ subst (λ ss. OnWay b n o ((before ++ after) ++ ss)) (sym sends_so) (some_right (IsOnWay b n o) (before ++ after) (answer ∷ []) (inl (inr (asks.1, asks.0, asks_answers R b tag named p rows asks.2))))
            | inr answers ↦ absurd (store_answers_none R b tag named p rows answers.2)
          ])
        ] in
        let walks_stay : (n o i q t : ℕ) (y : List ℕ) → OnWalk n o i q t y (before ++ x ∷ after) → OnWalk n o i q t y more = λ n o i q t y h.
        elim (walk_flight was nodes before after from to sent now moment msg is n o i q t y h) [ inl there ↦ there | inr this ↦ (elim this [ inl asks ↦ elim asks.2 [ ] | inr tells ↦ elim tells.2 [ ] ]) ] in
        put_together was nodes before after from to sent now moment msg is
        (subst (IsIn to) (sym node_so)
        (record {
          layouts = ap (λ (v : View L). v.layouts) self.view ∙ old.layouts;
          entries = subst (AreUpTo k l top) (sym self.view) old.entries;
          calls = self.calls ∙ old.calls;
          proper = grows.proper;
          idle = elim old.idle [ inl none ↦ inl (self.round ∙ none) | inr b ↦ inr b ];
        }))
        (λ b. subst (IsGoing join s k l new part more to (number to)) (sym node_so)
        (let g = is.going to b in
        going_by (before ++ x ∷ after) more to (number to) (nodes to) (accepts_all join s now (nodes to) rows) self.round self.lasting grows.places (λ o q t y. walks_stay to o (number to) q t y)
        (subst (λ (v : View L). IsRoundOf join s k l new part more to v (accepts_all join s now (nodes to) rows).round) (sym self.view)
        (subst (IsRoundOf join s k l new part more to (nodes to).view) (sym self.round) (state_stays (before ++ x ∷ after) more to (nodes to).view (nodes to).round (stays to) g.state))) g))
        (λ n apart. stays n)
        (λ n apart. walks_stay n)
        (subst (AllByRecursion IsOf) (sym sends_so) ((own.1, own.0, own.2.0), tt))

    -- a confirmation comes
    module _ (was nodes : ℕ → Node R L) (before after : List (Sent R L)) (from to sent now moment : ℕ) (i p : ℕ) where
      abbrev msg : Message R
      msg = Stored (ForRound i p)

      abbrev y : Sent R L
      y = record { from = from; to = to; packet = says msg; moment = sent }

      abbrev all : List (Sent R L)
      all = before ++ y ∷ after

      abbrev rest : List (Sent R L)
      rest = (before ++ after) ++ []

      module _ (is : AreRounds join s k l new part number begun was nodes (before ++ y ∷ after)) where
        abbrev z : Node R L
        z = nodes to

        of_round : IsTrue (is_among to part)
        of_round = (all_parts IsOf before (y ∷ after) is.messages).1.0.1

        -- what is on its way to another stays so
        others_stay : (n : ℕ) → n ≢ to → (b : Matter) (o : ℕ) → OnWay b n o all → OnWay b n o rest
        others_stay n apart b o h = elim (some_others (IsOnWay b n o) before y after h) [
          | inr there ↦ some_left (IsOnWay b n o) (before ++ after) [] there
          | inl this ↦ (elim this [ inl asks ↦ absurd (stored_asks_none R b (ForRound i p) asks.2) | inr answers ↦ absurd (apart (sym answers.1)) ])
        ]

        -- of walks nothing was this
        walks_stay : (n o j q t : ℕ) (u : List ℕ) → OnWalk n o j q t u all → OnWalk n o j q t u rest
        walks_stay n o j q t u h = elim (some_others (IsOnWalk n o j q t u) before y after h) [
          | inr there ↦ some_left (IsOnWalk n o j q t u) (before ++ after) [] there
          | inl this ↦ (elim this [ inl asks ↦ elim asks.2 [ ] | inr tells ↦ elim tells.2 [ ] ])
        ]

        -- and what is on its way to this node stays so, or it was this confirmation
        own_stays : (b : Matter) (o : ℕ) → OnWay b to o all → OnWay b to o rest ⊎ ((from ≡ o) × Answers {R = R} b msg)
        own_stays b o h = elim (some_others (IsOnWay b to o) before y after h) [
          | inr there ↦ inl (some_left (IsOnWay b to o) (before ++ after) [] there)
          | inl this ↦ (elim this [ inl asks ↦ absurd (stored_asks_none R b (ForRound i p) asks.2) | inr answers ↦ inr (answers.0, answers.2) ])
        ]

        -- of another round
        other_parts : (round : Round) → (round.number ≡ i → ⊥) → AllByRecursion (IsPart all to round.number round.confirmed round.walks) round.parts → AllByRecursion (IsPart rest to round.number round.confirmed round.walks) round.parts
        other_parts round apart h = all_weaker (IsPart all to round.number round.confirmed round.walks) (IsPart rest to round.number round.confirmed round.walks)
            (λ q o. record {
              three = o.three;
              owed = λ j e. elim (o.owed j e) [
                | inl has ↦ inl has
                | inr (inr w) ↦ inr (inr w)
                | inr (inl waits) ↦ (elim (own_stays (confirms (ForRound round.number q.partition)) j waits) [ inl there ↦ inr (inl there) | inr this ↦ absurd (apart (sym (ap number_in this.1))) ])
              ];
            }) round.parts h

        -- of this round
        own_parts : (round : Round) → AllByRecursion (IsPart all to round.number round.confirmed round.walks) round.parts → AllByRecursion (IsPart rest to round.number (round.confirmed ++ record { partition = p; node = from } ∷ []) round.walks) round.parts
        own_parts round h = all_weaker (IsPart all to round.number round.confirmed round.walks) (IsPart rest to round.number (round.confirmed ++ record { partition = p; node = from } ∷ []) round.walks)
            (λ q o. record {
              three = o.three;
              owed = λ j e. elim (o.owed j e) [
                | inl has ↦ inl (confirmed_more q.partition j round.confirmed (record { partition = p; node = from } ∷ []) has)
                | inr (inr w) ↦ inr (inr w)
                | inr (inl waits) ↦ (elim (own_stays (confirms (ForRound round.number q.partition)) j waits) [
                  | inl there ↦ inr (inl there)
                  | inr this ↦ inl (subst (λ f. Has (confirmed_for q.partition (round.confirmed ++ record { partition = p; node = f } ∷ [])) j) (sym this.0) (confirmed_now q.partition j p round.confirmed (ap partition_in this.1)))
                ])
              ];
            }) round.parts h

        old : IsIn to z
        old = is.inside to of_round

        without : IsIn to (record z { round = None })
        without = record { layouts = old.layouts; entries = old.entries; calls = old.calls; proper = old.proper; idle = inl refl }

        walks_of : (o : Option Round) → z.round ≡ o → begun to → AreWalks join s k l new part rest to (number to) z.accepted (walks_in o z.lasting)
        walks_of o e b q j w f =
            walk_stays all rest to (number to) q j z.accepted z.accepted w (places_same laws z.accepted) (λ t u. walks_stay to j (number to) q t u) ((is.going to b).walks q j w (ap (λ r. walk_at q j (walks_in r z.lasting)) e ∙ f))

        abbrev Fine : Did R L → Type 0
        Fine e = IsIn to e.node × (begun to → IsGoing join s k l new part rest to (number to) e.node) × (e.posts ≡ [])

        open_begun : (round : Round) → z.round ≡ Some round → begun to
        open_begun round e = elim old.idle [ inl none ↦ (let never : None ≡ Some round = sym none ∙ e in cc) | inr b ↦ b ]

        unchanged : (o : Option Round) → z.round ≡ o → (begun to → IsRoundOf join s k l new part rest to z.view o) → begun to → IsGoing join s k l new part rest to (number to) z
        unchanged o e state b =
            going_by all rest to (number to) z z refl refl (places_same laws z.accepted) (λ j q t u. walks_stay to j (number to) q t u) (subst (IsRoundOf join s k l new part rest to z.view) (sym e) (state b)) (is.going to b)

        by_round : (o : Option Round) → z.round ≡ o → Fine (round_came join s k to z from i p o)
        by_round None e = (old, unchanged None e (λ b. subst (IsRoundOf join s k l new part all to z.view) e (is.going to b).state), refl)
        by_round (Some round) e =
            let b = open_begun round e in
            let state : IsRoundOf join s k l new part all to z.view (Some round) = subst (IsRoundOf join s k l new part all to z.view) e (is.going to b).state in
            elim (round.number == i) as (λ c. (round.number == i) ≡ c → Fine (cond c (quiet (goes_on join s k to z (record round { confirmed = round.confirmed ++ record { partition = p; node = from } ∷ [] }))) (quiet z))) [
              | true ↦ (λ same.
                  let g = goes_so rest to (number to) z (record round { confirmed = round.confirmed ++ record { partition = p; node = from } ∷ [] }) without b
                  (subst (λ o. HasNumber (number to) o z.lasting) e (is.going to b).has_number) state.0 (walks_of (Some round) e b) (own_parts round state.2) in
                  (g.0, (λ c. g.1), refl))
              | false ↦ (λ apart. (old, unchanged (Some round) e (λ c. (state.0, state.1, other_parts round (eqb-false round.number i apart) state.2)), refl))
            ] refl

        pub stored_heard : (let e = hears join s k to now z from msg in AreRounds join s k l new part number begun was (with_one to e.node nodes) ((before ++ after) ++ sends_at moment to e.posts))
        stored_heard =
            let e : Did R L = round_came join s k to z from i p z.round in
            let fine : Fine e = by_round z.round refl in
            let none : sends_at moment to e.posts ≡ [] = ap (sends_at moment to) fine.2 in
            put_together was nodes before after from to sent now moment msg is fine.0
            (λ b. subst (λ ss. IsGoing join s k l new part ((before ++ after) ++ ss) to (number to) e.node) (sym none) (fine.1 b))
            (λ n apart b o h. subst (λ ss. OnWay b n o ((before ++ after) ++ ss)) (sym none) (others_stay n apart b o h))
            (λ n apart o j q t u h. subst (λ ss. OnWalk n o j q t u ((before ++ after) ++ ss)) (sym none) (walks_stay n o j q t u h))
            (subst (AllByRecursion IsOf) (sym none) tt)
