-- What is delivered while rounds are open: a question of a walk, and its answer.
use Rattle.std.specs.Prelude.{◌≡◌, ◌≢◌, ◌⊎◌, ℕ, suc, Bool, true, false, cond, ◌==◌, ◌&&◌, IsTrue, Option, Some, None, List, [], ◌∷◌, ◌++◌, map, refl, ⊤}
use Rattle.std.specs.Option.{unwrap_or}
use Rattle.std.specs.List.{AllByRecursion, filter}
use Rattle.std.proofs.Common.{ap, sym, subst, ◌∙◌, inl, inr}
use Rattle.std.proofs.lemmas.Bool.{eq-eqb, cases_Bool, false≢true}
use Rattle.blake2_hash.specs.Blake2b.{blake2b}
use Rattle.blake2_hash.specs.declared.digest.Hash32.{Hash32}
use Rattle.table_schema.specs.Words.{Words}
use Rattle.table_schema.specs.Laws.{Laws}
use Rattle.table_model.specs.Rows.{rows, rows_in}
use Rattle.quorum_model.specs.Quorum.{is_among}
use Rattle.walk_model.specs.Walking.{is_open, differing}
use Rattle.walk_model.specs.Sets.{children_at}
use Rattle.walk_model.specs.Noting.{is_noted}
use Rattle.wire_messages.specs.declared.message.Message.{Message}
use Rattle.wire_messages.specs.declared.message.Message.TheVariants.{Store, Stored, Walk as AsksValue, Same as HasSame, Differ}
use Rattle.wire_messages.specs.declared.message.Tag.{Tag}
use Rattle.wire_messages.specs.declared.message.Tag.TheVariants.{Call as ForCall, Round as ForRound, Item as ForItem}
use Rattle.cluster_machine.specs.Layouts.{Layouts, set_of}
use Rattle.cluster_machine.specs.Node.{Node, Packet, says, shows, Round, Mending, Part, Walk, Confirmed, Post, Did, quiet}
use Rattle.cluster_machine.specs.Receives.{receives, hears, compared}
use Rattle.cluster_machine.specs.Rounds.{confirmed_for, is_empty, walk_at, walks_after, has_ended, found_same, rows_at, pairs_at, asked_after, noted_after, walk_after, asks_at, pushes_rows, sends_after, goes_on, round_walks, mending_walks, at_walk, mending_came, with_mending, with_lasting, late_came, answer_came}
use Rattle.cluster_machine.specs.World.{Sent}
use Rattle.crdt_core.proofs.Each.{all_append, all_weaker}
use Rattle.machine_origins.proofs.Lists.{all_parts}
use Rattle.drained_laws.specs.Waiting.{SomeOf, Has}
use Rattle.drained_laws.specs.Accounts.{Matter, confirms, Carries, IsOnWay, OnWay}
use Rattle.drained_laws.proofs.Waits.{some_left, some_right, some_others, some_mapped, some_weaker, all_mapped}
use Rattle.change_laws.specs.Rounds.{IsOfRound, IsNumbered, walks_in, HasNumber, AsksFor, Tells, IsOnWalk, OnWalk, IsPart, IsOfRow, IsWalk, AreWalks, IsRoundOf, IsGoing, IsRoundMessage, IsOfRounds, IsRounding, AreRounds}
use Rattle.change_laws.proofs.Lists.{some_filtered, some_not_empty}
use Rattle.change_laws.proofs.Moving.{with_one, sends_at}
use Rattle.change_laws.proofs.Walking.{same_or_not, found_walk, after_other, after_here, at_after, open_cases, open_after, open_asked, has_open, notes_rows, noted_row}
use Rattle.change_laws.proofs.Rounding.{IsNone, asks_none, same_none, differ_none, partition_in, confirmed_more, confirmed_now, complete_so, state_stays, going_stays, young, asked_taken, compared_is, goes_so, put_together, store_heard, stored_heard}

module _ {R : Type 0} {join : R → R → R} {s : Words R} (laws : Laws join s) {L : Type 0} (k : Layouts L) (l new : L) (later : k.reading.version new ≡ suc (k.reading.version l)) (part : List ℕ) (number : ℕ → ℕ) (begun : ℕ → Type 0) where
  abbrev IsIn : ℕ → Node R L → Type 0
  IsIn n x = IsRounding join s k l new part number begun n x

  abbrev IsOf : Sent R L → Type 0
  IsOf x = IsOfRounds join s k l new part number begun x

  abbrev Rounds : (ℕ → Node R L) → (ℕ → Node R L) → List (Sent R L) → Type 0
  Rounds was nodes ws = AreRounds join s k l new part number begun was nodes ws

  -- ---- a question

  asked_heard : (was nodes : ℕ → Node R L) (before after : List (Sent R L)) (from to sent now moment : ℕ) (tag : Tag) (named p table : ℕ) (prefix : List ℕ) (hash : Hash32) →
      Rounds was nodes (before ++ record { from = from; to = to; packet = says (AsksValue tag named p table prefix hash); moment = sent } ∷ after) →
      (let d = hears join s k to now (nodes to) from (AsksValue tag named p table prefix hash) in Rounds was (with_one to d.node nodes) ((before ++ after) ++ sends_at moment to d.posts))
  asked_heard was nodes before after from to sent now moment tag named p table prefix hash is =
      let msg : Message R = AsksValue tag named p table prefix hash in
      let x : Sent R L = record { from = from; to = to; packet = says msg; moment = sent } in
      let z : Node R L = nodes to in
      let d : Did R L = hears join s k to now z from msg in
      let own = (all_parts IsOf before (x ∷ after) is.messages).1.0 in
      let old = is.inside to own.1 in
      let same = asked_taken laws k l new later part to now z from tag named p table prefix hash old.layouts own.2.1 own.2.2 in
      let more : List (Sent R L) = (before ++ after) ++ sends_at moment to d.posts in
      let answer : Sent R L = record { from = to; to = from; packet = says (compared join s k z tag p table prefix hash); moment = moment } in
      let sends_so : sends_at moment to d.posts ≡ answer ∷ [] = ap (λ (e : Did R L). sends_at moment to e.posts) same in
      let node_so : d.node ≡ z = ap (λ (e : Did R L). e.node) same in
      let ways : (b : Matter) (n o : ℕ) → OnWay b n o (before ++ x ∷ after) → OnWay b n o more = λ b n o h.
      elim (some_others (IsOnWay b n o) before x after h) [
        | inr there ↦ some_left (IsOnWay b n o) (before ++ after) (sends_at moment to d.posts) there
        | inl this ↦ (elim this [ inl asks ↦ absurd (asks_none R tag named p table prefix hash b (inl asks.2)) | inr tells ↦ absurd (asks_none R tag named p table prefix hash b (inr tells.2)) ])
      ] in
      let walks : (n o i q t : ℕ) (y : List ℕ) → OnWalk n o i q t y (before ++ x ∷ after) → OnWalk n o i q t y more = λ n o i q t y h.
      elim (some_others (IsOnWalk n o i q t y) before x after h) [
        | inr there ↦ some_left (IsOnWalk n o i q t y) (before ++ after) (sends_at moment to d.posts) there
        | inl this ↦ (elim this [
          | inl asks ↦ subst (λ ss. OnWalk n o i q t y ((before ++ after) ++ ss)) (sym sends_so) (some_right (IsOnWalk n o i q t y) (before ++ after) (answer ∷ [])
              (inl (inr (asks.1, asks.0, compared_is laws k l new later part (Tells i q t y) z tag p table prefix hash (asks.2.0, asks.2.2, asks.2.3) (asks.2.0, asks.2.2, asks.2.3)))))
          | inr tells ↦ elim tells.2 [ ]
        ])
      ] in
      let back : IsNumbered (number from) tag × begun from = (subst (IsNumbered (number from)) (sym own.2.0) refl, own.2.3) in
      put_together laws k l new later part number begun was nodes before after from to sent now moment msg is
      (subst (IsIn to) (sym node_so) old)
      (λ b. subst (IsGoing join s k l new part more to (number to)) (sym node_so) (going_stays laws k l new later part (before ++ x ∷ after) more to (number to) z (λ c o. ways c to o) (λ o q t y. walks to o (number to) q t y) (is.going to b)))
      (λ n apart b o. ways b n o)
      (λ n apart. walks n)
      (subst (AllByRecursion IsOf) (sym sends_so) ((own.1, own.0, compared_is laws k l new later part (IsRoundMessage join s k l new part number begun to from) z tag p table prefix hash back back), tt))

  -- ---- an answer

  module _ (was nodes : ℕ → Node R L) (before after : List (Sent R L)) (from to sent now moment i p table : ℕ) (prefix : List ℕ) (g : Message R) (answer : Option (List (ℕ × Hash32)))
      (none : IsNone R g) (none_asks : (j q t : ℕ) (u : List ℕ) → AsksFor j q t u g → ⊥) (tells_so : (j q t : ℕ) (u : List ℕ) → Tells j q t u g → (ForRound i p ≡ ForRound j q) × (table ≡ t) × (prefix ≡ u)) where
    abbrev x : Sent R L
    x = record { from = from; to = to; packet = says g; moment = sent }

    abbrev all : List (Sent R L)
    all = before ++ x ∷ after

    abbrev z : Node R L
    z = nodes to

    abbrev N : ℕ
    N = number to

    abbrev rest : List (Post R L) → List (Sent R L)
    rest posts = (before ++ after) ++ sends_at moment to posts

    module _ (is : Rounds was nodes (before ++ record { from = from; to = to; packet = says g; moment = sent } ∷ after)) (b : begun to) (same : i ≡ number to) where
      own : IsOf x
      own = (all_parts IsOf before (x ∷ after) is.messages).1.0

      old : IsIn to z
      old = is.inside to own.1

      going : IsGoing join s k l new part all to N z
      going = is.going to b

      ways : (posts : List (Post R L)) (c : Matter) (n o : ℕ) → OnWay c n o all → OnWay c n o (rest posts)
      ways posts c n o h = elim (some_others (IsOnWay c n o) before x after h) [
        | inr there ↦ some_left (IsOnWay c n o) (before ++ after) (sends_at moment to posts) there
        | inl this ↦ (elim this [ inl asks ↦ absurd (none c (inl asks.2)) | inr tells ↦ absurd (none c (inr tells.2)) ])
      ]

      -- what is on its way for another's walk stays so
      others_walk : (posts : List (Post R L)) (n : ℕ) → n ≢ to → (o j q t : ℕ) (u : List ℕ) → OnWalk n o j q t u all → OnWalk n o j q t u (rest posts)
      others_walk posts n apart o j q t u h = elim (some_others (IsOnWalk n o j q t u) before x after h) [
        | inr there ↦ some_left (IsOnWalk n o j q t u) (before ++ after) (sends_at moment to posts) there
        | inl this ↦ (elim this [ inl asks ↦ absurd (none_asks j q t u asks.2) | inr tells ↦ absurd (apart (sym tells.1)) ])
      ]

      -- and for this node's stays so, or was this
      own_walk : (posts : List (Post R L)) (o j q t : ℕ) (u : List ℕ) → OnWalk to o j q t u all → OnWalk to o j q t u (rest posts) ⊎ ((from ≡ o) × (ForRound i p ≡ ForRound j q) × (table ≡ t) × (prefix ≡ u))
      own_walk posts o j q t u h = elim (some_others (IsOnWalk to o j q t u) before x after h) [
        | inr there ↦ inl (some_left (IsOnWalk to o j q t u) (before ++ after) (sends_at moment to posts) there)
        | inl this ↦ (elim this [ inl asks ↦ absurd (none_asks j q t u asks.2) | inr tells ↦ (let e = tells_so j q t u tells.2 in inr (tells.0, e.0, e.1, e.2)) ])
      ]

      abbrev Fine : Did R L → Type 0
      Fine e = IsIn to e.node × IsGoing join s k l new part (rest e.posts) to N e.node × AllByRecursion IsOf (sends_at moment to e.posts)

      -- no walk awaits it
      unawaited : (walks : List Walk) → walks_in z.round z.lasting ≡ walks → ((u : Walk) → walk_at p from walks ≡ Some u → is_open table prefix u.state.prefixes ≡ true → ⊥) → Fine (quiet z)
      unawaited walks so alone = (
        old,
        record {
          has_number = going.has_number;
          walks = λ q m u e. (let w = going.walks q m u e in record {
            given = w.given;
            goes_on = w.goes_on;
            awaited = λ t y o. elim (own_walk [] m N q t y (w.awaited t y o)) [
              | inl there ↦ there
              | inr this ↦
                  absurd (alone u
                  (subst (λ ws. walk_at p from ws ≡ Some u) so (subst (λ j. walk_at j from (walks_in z.round z.lasting) ≡ Some u) (sym (ap partition_in this.1)) (subst (λ j. walk_at q j (walks_in z.round z.lasting) ≡ Some u) (sym this.0) e)))
                  (subst (λ v. is_open table v u.state.prefixes ≡ true) (sym this.3) (subst (λ j. is_open j y u.state.prefixes ≡ true) (sym this.2) o)))
            ];
            noted = w.noted;
          });
          state = state_stays laws k l new later part all (rest []) to z.view z.round (λ c o. ways [] c to o) going.state;
        },
        tt,
      )

      -- a walk awaits it
      module _ (j : ℕ) (so : j ≡ number to) (w : Walk) (walks : List Walk) (there : walk_at p from walks ≡ Some w) (each : AreWalks join s k l new part all to N z.accepted walks) where
        abbrev gone : Walk
        gone = walk_after join s z w table prefix answer

        abbrev asked : List (List ℕ)
        asked = asked_after join s z w.state.partition table prefix answer

        abbrev posts : List (Post R L)
        posts = sends_after join s k z j gone table asked

        abbrev send : Post R L → Sent R L
        send q = record { from = to; to = q.to; packet = q.packet; moment = moment }

        at : (w.state.partition ≡ p) × (w.node ≡ from)
        at = found_walk p from walks w there

        before_it : IsWalk join s k l new part all to N p from z.accepted w
        before_it = each p from w there

        -- what it asks now is on its way
        sent_ask : (t : ℕ) (y : List ℕ) → table ≡ t → Has asked y → has_ended gone ≡ false → OnWalk to from N p t y (rest posts)
        sent_ask t y same_table h f =
            some_right (IsOnWalk to from N p t y) (before ++ after) (sends_at moment to posts)
            (some_mapped send (λ (q : Post R L). IsOnWalk to from N p t y (send q)) (IsOnWalk to from N p t y) (λ q e. e) posts
            (subst (λ c. SomeOf (λ (q : Post R L). IsOnWalk to from N p t y (send q)) (cond c (pushes_rows join s k z j w.state.partition (w.node ∷ []) (filter (is_noted s gone.state.noted) (rows_at join s z w.state.partition))) (map (asks_at join s k z j w.state.partition w.node table) asked))) (sym f)
            (some_mapped (asks_at join s k z j w.state.partition w.node table) (λ v. v ≡ y) (λ (q : Post R L). IsOnWalk to from N p t y (send q)) (λ v e. inl (refl, at.1, ((λ i. ForRound (so i) (at.0 i)), at.0, same_table, e))) asked h)))

        new_noted : (o : Option (List (ℕ × Hash32))) → AllByRecursion (IsOfRow s (rows_in s w.state.partition (rows join s z.accepted))) (noted_after join s z w.state.partition table prefix o)
        new_noted None = tt
        new_noted (Some theirs) = notes_rows s (rows_in s w.state.partition (rows join s z.accepted)) table prefix (differing theirs (children_at (blake2b 32) prefix (pairs_at join s z table w.state.partition)))

        all_noted : AllByRecursion (IsOfRow s (rows_in s p (rows join s z.accepted))) gone.state.noted
        all_noted =
            all_append (IsOfRow s (rows_in s p (rows join s z.accepted))) w.state.noted (noted_after join s z w.state.partition table prefix answer) before_it.noted
            (subst (λ q. AllByRecursion (IsOfRow s (rows_in s q (rows join s z.accepted))) (noted_after join s z w.state.partition table prefix answer)) at.0 (new_noted answer))

        -- the walk goes on
        this_walk : has_ended gone ≡ false → IsWalk join s k l new part (rest posts) to N p from z.accepted gone
        this_walk f = record {
          given = before_it.given;
          goes_on = f;
          awaited = λ t y o.
              (let a = open_after table prefix t y (w.state.prefixes ++ map (λ v. (table, v)) asked) o in
              elim (open_cases t y w.state.prefixes (map (λ v. (table, v)) asked) a.0) [
                | inl earlier ↦ (elim (own_walk posts from N p t y (before_it.awaited t y earlier)) [ inl waits ↦ waits | inr this ↦ absurd (a.1 (sym this.2) (sym this.3)) ])
                | inr next ↦ (let c = open_asked table t y asked next in sent_ask t y c.0 c.1 f)
              ]);
          noted = all_noted;
        }

        now_walks : AreWalks join s k l new part (rest posts) to N z.accepted (walks_after gone walks)
        now_walks q m u e = elim (at_after gone walks q m u e) [
          | inl here ↦
              subst (λ v. IsWalk join s k l new part (rest posts) to N q m z.accepted v) (sym here.2)
              (subst (λ v. IsWalk join s k l new part (rest posts) to N q v z.accepted gone) (sym (here.1 ∙ at.1))
              (subst (λ v. IsWalk join s k l new part (rest posts) to N v from z.accepted gone) (sym (here.0 ∙ at.0)) (this_walk here.3)))
          | inr other ↦ (let v = each q m u other.1 in record {
            given = v.given;
            goes_on = v.goes_on;
            awaited = λ t y o. elim (own_walk posts m N q t y (v.awaited t y o)) [ inl waits ↦ waits | inr this ↦ absurd (other.0 (sym (ap partition_in this.1) ∙ sym at.0) (sym this.0 ∙ sym at.1)) ];
            noted = v.noted;
          })
        ]

        -- where it ends, and something is noted, it is pushed
        push_sent : (rs : List R) → is_empty rs ≡ false → SomeOf (IsOnWay (confirms (ForRound j p)) to from) (sends_at moment to (pushes_rows join s k z j w.state.partition (w.node ∷ []) rs))
        push_sent [] e = cc
        push_sent (r ∷ rs) e = inl (inl (refl, at.1, ap (ForRound j) at.0))

        pushed : has_ended gone ≡ true → is_empty gone.state.noted ≡ false → OnWay (confirms (ForRound j p)) to from (rest posts)
        pushed t e =
            let rs = filter (is_noted s gone.state.noted) (rows_at join s z w.state.partition) in
            let some = some_filtered (λ r. ⊤) (is_noted s gone.state.noted) (rows_at join s z w.state.partition)
            (some_weaker (λ r. is_noted s gone.state.noted r ≡ true) (λ r. ⊤ × (is_noted s gone.state.noted r ≡ true)) (λ r h. (tt, h)) (rows_at join s z w.state.partition)
            (noted_row s (rows_at join s z w.state.partition) gone.state.noted (subst (λ q. AllByRecursion (IsOfRow s (rows_in s q (rows join s z.accepted))) gone.state.noted) (sym at.0) all_noted) e)) in
            some_right (IsOnWay (confirms (ForRound j p)) to from) (before ++ after) (sends_at moment to posts)
            (subst (λ c. SomeOf (IsOnWay (confirms (ForRound j p)) to from) (sends_at moment to (cond c (pushes_rows join s k z j w.state.partition (w.node ∷ []) rs) (map (asks_at join s k z j w.state.partition w.node table) asked)))) (sym t)
            (push_sent rs (some_not_empty (λ r. ⊤) rs some)))

        -- each node of a part stays accounted for
        now_part : (confirmed more : List Confirmed) → ((q m : ℕ) → Has (confirmed_for q confirmed) m → Has (confirmed_for q more) m) → (has_ended gone ≡ true → Has (confirmed_for p more) from ⊎ OnWay (confirms (ForRound j p)) to from (rest posts)) →
            (q : Part) → IsPart all to j confirmed walks q → IsPart (rest posts) to j more (walks_after gone walks) q
        now_part confirmed more f done q h = record {
          three = h.three;
          owed = λ m e. elim (h.owed m e) [
            | inl has ↦ inl (f q.partition m has)
            | inr (inl waits) ↦ inr (inl (ways posts (confirms (ForRound j q.partition)) to m waits))
            | inr (inr u) ↦ (elim (same_or_not p from q.partition m) [
              | inr d ↦ inr (inr (u.0, after_other gone walks q.partition m (λ a c. d (a ∙ at.0) (c ∙ at.1)) ∙ u.1))
              | inl here ↦ (elim (cases_Bool (has_ended gone)) [
                | inl t ↦ (elim (done t) [
                  | inl has ↦ inl (subst (λ v. Has (confirmed_for v more) m) (sym here.0) (subst (Has (confirmed_for p more)) (sym here.1) has))
                  | inr waits ↦ inr (inl (subst (λ v. OnWay (confirms (ForRound j v)) to m (rest posts)) (sym here.0) (subst (λ v. OnWay (confirms (ForRound j p)) to v (rest posts)) (sym here.1) waits)))
                ])
                | inr f ↦
                    inr (inr (gone, subst (λ v. walk_at v m (walks_after gone walks) ≡ Some gone) (at.0 ∙ sym here.0) (subst (λ v. walk_at w.state.partition v (walks_after gone walks) ≡ Some gone) (at.1 ∙ sym here.1) (after_here gone walks f))))
              ])
            ])
          ];
        }

        -- what it sends are messages of rounds
        abbrev GoodPost : Post R L → Type 0
        GoodPost q = IsTrue (is_among to part) × IsTrue (is_among q.to part) × Carries (IsRoundMessage join s k l new part number begun to q.to) q.packet

        given_there : IsTrue (is_among w.node (set_of k new w.state.partition))
        given_there = subst (λ v. IsTrue (is_among v (set_of k new w.state.partition))) (sym at.1) (subst (λ v. IsTrue (is_among from (set_of k new v))) (sym at.0) before_it.given)

        node_there : IsTrue (is_among w.node part)
        node_there = subst (λ v. IsTrue (is_among v part)) (sym at.1) own.0

        pushes_good : (rs : List R) → AllByRecursion GoodPost (pushes_rows join s k z j w.state.partition (w.node ∷ []) rs)
        pushes_good [] = tt
        pushes_good (r ∷ rs) = ((own.1, node_there, (tt, young laws k l new later part to z old.layouts, given_there)), tt)

        asks_good : (ps : List (List ℕ)) → AllByRecursion GoodPost (map (asks_at join s k z j w.state.partition w.node table) ps)
        asks_good [] = tt
        asks_good (v ∷ vs) = ((own.1, node_there, (ap (λ n. ForRound n w.state.partition) so, young laws k l new later part to z old.layouts, given_there, b)), asks_good vs)

        posts_good : AllByRecursion IsOf (sends_at moment to posts)
        posts_good =
            let rs = filter (is_noted s gone.state.noted) (rows_at join s z w.state.partition) in
            all_mapped send GoodPost IsOf (λ q h. h) posts
            (elim (has_ended gone) as (λ c. AllByRecursion GoodPost (cond c (pushes_rows join s k z j w.state.partition (w.node ∷ []) rs) (map (asks_at join s k z j w.state.partition w.node table) asked))) [ true ↦ pushes_good rs | false ↦ asks_good asked ])

      -- a walk of the open round
      round_goes : (round : Round) → z.round ≡ Some round → (w : Walk) → walk_at p from round.walks ≡ Some w → Fine (round_walks join s k to z table prefix answer round w)
      round_goes round open_now w there =
          let so : round.number ≡ N = subst (λ o. HasNumber N o z.lasting) open_now going.has_number in
          let each : AreWalks join s k l new part all to N z.accepted round.walks = λ q m u e. going.walks q m u (ap (λ o. walk_at q m (walks_in o z.lasting)) open_now ∙ e) in
          let state : IsRoundOf join s k l new part all to z.view (Some round) = subst (IsRoundOf join s k l new part all to z.view) open_now going.state in
          let gone : Walk = walk_after join s z w table prefix answer in
          let at = found_walk p from round.walks w there in
          let c : Confirmed = record { partition = w.state.partition; node = w.node } in
          let now : Round = record round { walks = walks_after gone round.walks } in
          let sends : List (Post R L) = sends_after join s k z round.number gone table (asked_after join s z w.state.partition table prefix answer) in
          let walks_so = now_walks round.number so w round.walks there each in
          let by_test : (t : Bool) → found_same gone ≡ t → IsIn to (cond t (goes_on join s k to z (record now { confirmed = round.confirmed ++ c ∷ [] })) (record z { round = Some now })) × IsGoing join s k l new part (rest sends) to N (cond t (goes_on join s k to z (record now { confirmed = round.confirmed ++ c ∷ [] })) (record z { round = Some now })) =
          λ t. elim t as (λ t. found_same gone ≡ t → IsIn to (cond t (goes_on join s k to z (record now { confirmed = round.confirmed ++ c ∷ [] })) (record z { round = Some now })) × IsGoing join s k l new part (rest sends) to N (cond t (goes_on join s k to z (record now { confirmed = round.confirmed ++ c ∷ [] })) (record z { round = Some now }))) [
            | true ↦ (λ e.
                goes_so laws k l new later part number begun (rest sends) to N z (record now { confirmed = round.confirmed ++ c ∷ [] }) (record { layouts = old.layouts; entries = old.entries; calls = old.calls; proper = old.proper; idle = inl refl }) b so state.0 walks_so
                (all_weaker (IsPart all to round.number round.confirmed round.walks) (IsPart (rest sends) to round.number (round.confirmed ++ c ∷ []) (walks_after gone round.walks))
                (now_part round.number so w round.walks there each round.confirmed (round.confirmed ++ c ∷ []) (λ q m. confirmed_more q m round.confirmed (c ∷ []))
                (λ ended. inl (subst (Has (confirmed_for p (round.confirmed ++ c ∷ []))) at.1 (confirmed_now p w.node w.state.partition round.confirmed at.0)))) round.parts state.2))
            | false ↦ (λ e. (
              record { layouts = old.layouts; entries = old.entries; calls = old.calls; proper = old.proper; idle = inr b },
              record {
                has_number = so;
                walks = walks_so;
                state = (
                  state.0,
                  state.1,
                  all_weaker (IsPart all to round.number round.confirmed round.walks) (IsPart (rest sends) to round.number round.confirmed (walks_after gone round.walks))
                      (now_part round.number so w round.walks there each round.confirmed round.confirmed (λ q m h. h) (λ ended. inr (pushed round.number so w round.walks there each ended (ap (λ t. t && is_empty gone.state.noted) (sym ended) ∙ e)))) round.parts state.2,
                );
              },
            ))
          ] in
          let both = by_test (found_same gone) refl in
          (both.0, both.1, posts_good round.number so w round.walks there each)

      -- a walk of the last round
      lasting_goes : (lasting : Mending) → z.round ≡ None → z.lasting ≡ Some lasting → (w : Walk) → walk_at p from lasting.walks ≡ Some w → Fine (mending_walks join s k z (with_lasting join s k z) table prefix answer lasting w)
      lasting_goes lasting shut kept w there =
          let so : lasting.number ≡ N = subst (λ o. HasNumber N None o) kept (subst (λ o. HasNumber N o z.lasting) shut going.has_number) in
          let each : AreWalks join s k l new part all to N z.accepted lasting.walks = λ q m u e. going.walks q m u (ap (λ o. walk_at q m (walks_in o z.lasting)) shut ∙ (ap (λ o. walk_at q m (walks_in None o)) kept ∙ e)) in
          let gone : Walk = walk_after join s z w table prefix answer in
          let sends : List (Post R L) = sends_after join s k z lasting.number gone table (asked_after join s z w.state.partition table prefix answer) in (
            record { layouts = old.layouts; entries = old.entries; calls = old.calls; proper = old.proper; idle = inl shut },
            record {
              has_number = subst (λ o. HasNumber N o (Some (record lasting { walks = walks_after gone lasting.walks }))) (sym shut) so;
              walks = λ q m u e. now_walks lasting.number so w lasting.walks there each q m u (sym (ap (λ o. walk_at q m (walks_in o (Some (record lasting { walks = walks_after gone lasting.walks })))) shut) ∙ e);
              state = state_stays laws k l new later part all (rest sends) to z.view z.round (λ c o. ways sends c to o) going.state;
            },
            posts_good lasting.number so w lasting.walks there each,
          )

      -- what the answer finds
      at_fine : (f : Walk → Did R L) (walks : List Walk) → walks_in z.round z.lasting ≡ walks → ((w : Walk) → walk_at p from walks ≡ Some w → Fine (f w)) → Fine (at_walk join s k z table prefix f (walk_at p from walks))
      at_fine f walks so h = by_walk (walk_at p from walks) refl
        where
          by_walk : (o : Option Walk) → walk_at p from walks ≡ o → Fine (at_walk join s k z table prefix f o)
          by_walk None e = unawaited walks so (λ u e' opens. (let never : None ≡ Some u = sym e ∙ e' in cc))
          by_walk (Some w) e = elim (is_open table prefix w.state.prefixes) as (λ t. is_open table prefix w.state.prefixes ≡ t → Fine (cond t (f w) (quiet z))) [
            | true ↦ (λ opens. h w e)
            | false ↦ (λ shut. unawaited walks so (λ u e' opens. (let same : w ≡ u = ap (λ o. unwrap_or o w) (sym e ∙ e') in false≢true (sym shut ∙ subst (λ v. is_open table prefix v.state.prefixes ≡ true) (sym same) opens))))
          ] refl

      came : (o : Option Round) (q : Option Mending) → z.round ≡ o → z.lasting ≡ q → HasNumber N o q → Fine (answer_came join s k to z from i p table prefix answer o)
      came None None e f h = elim h [ ]
      came None (Some lasting) e f h =
          let other = mending_came join s k z (with_mending join s k z) (quiet z) from i p table prefix answer z.mending in
          let is_here : (lasting.number == i) ≡ true = eq-eqb lasting.number i (h ∙ sym same) in
          subst (λ o. Fine (mending_came join s k z (with_lasting join s k z) other from i p table prefix answer o)) (sym f)
          (subst (λ t. Fine (cond t (at_walk join s k z table prefix (mending_walks join s k z (with_lasting join s k z) table prefix answer lasting) (walk_at p from lasting.walks)) other)) (sym is_here)
          (at_fine (mending_walks join s k z (with_lasting join s k z) table prefix answer lasting) lasting.walks (ap (λ o. walks_in o z.lasting) e ∙ ap (λ o. walks_in None o) f) (λ w there. lasting_goes lasting e f w there)))
      came (Some round) q e f h =
          let is_here : (round.number == i) ≡ true = eq-eqb round.number i (h ∙ sym same) in
          subst (λ t. Fine (cond t (at_walk join s k z table prefix (round_walks join s k to z table prefix answer round) (walk_at p from round.walks)) (late_came join s k z from i p table prefix answer))) (sym is_here)
          (at_fine (round_walks join s k to z table prefix answer round) round.walks (ap (λ o. walks_in o z.lasting) e) (λ w there. round_goes round e w there))

      pub answer_fine : Fine (answer_came join s k to z from i p table prefix answer z.round)
      answer_fine = came z.round z.lasting refl refl going.has_number

    answer_heard : Rounds was nodes (before ++ record { from = from; to = to; packet = says g; moment = sent } ∷ after) → begun to → i ≡ number to → hears join s k to now (nodes to) from g ≡ answer_came join s k to (nodes to) from i p table prefix answer (nodes to).round →
        (let d = hears join s k to now (nodes to) from g in Rounds was (with_one to d.node nodes) ((before ++ after) ++ sends_at moment to d.posts))
    answer_heard is b same so =
        let e : Did R L = answer_came join s k to (nodes to) from i p table prefix answer (nodes to).round in
        let d : Did R L = hears join s k to now (nodes to) from g in
        let fine : (let e = d in IsIn to e.node × IsGoing join s k l new part (rest e.posts) to N e.node × AllByRecursion IsOf (sends_at moment to e.posts)) =
        subst (λ (e : Did R L). IsIn to e.node × IsGoing join s k l new part ((before ++ after) ++ sends_at moment to e.posts) to (number to) e.node × AllByRecursion IsOf (sends_at moment to e.posts)) (sym so) (answer_fine is b same) in
        put_together laws k l new later part number begun was nodes before after from to sent now moment g is fine.0 (λ c. fine.1) (λ n apart c o. ways is b same d.posts c n o) (λ n apart o j q t u. others_walk is b same d.posts n apart o j q t u) fine.2

  -- ---- each delivery

  pub rounds_heard : (was nodes : ℕ → Node R L) (before : List (Sent R L)) (x : Sent R L) (after : List (Sent R L)) (now moment : ℕ) → Rounds was nodes (before ++ x ∷ after) →
      (let d = receives join s k x.to now (nodes x.to) x.from x.packet in Rounds was (with_one x.to d.node nodes) ((before ++ after) ++ sends_at moment x.to d.posts))
  rounds_heard was nodes before x after now moment is = by_packet x.packet x.from x.to x.moment is
    where
      of : (p : Packet R L) (from to sent : ℕ) → Rounds was nodes (before ++ record { from = from; to = to; packet = p; moment = sent } ∷ after) → Carries (IsRoundMessage join s k l new part number begun from to) p
      of p from to sent is = (all_parts IsOf before (record { from = from; to = to; packet = p; moment = sent } ∷ after) is.messages).1.0.2

      by_tag : (tag : Tag) (from to sent : ℕ) → IsOfRound tag → Rounds was nodes (before ++ record { from = from; to = to; packet = says (Stored tag); moment = sent } ∷ after) →
          (let d = receives join s k to now (nodes to) from (says (Stored tag)) in Rounds was (with_one to d.node nodes) ((before ++ after) ++ sends_at moment to d.posts))
      by_tag (ForRound i p) from to sent h is = stored_heard laws k l new later part number begun was nodes before after from to sent now moment i p is
      by_tag (ForCall a b c) from to sent h is = elim h [ ]
      by_tag (ForItem a) from to sent h is = elim h [ ]

      by_same : (tag : Tag) (table : ℕ) (prefix : List ℕ) (from to sent : ℕ) → IsNumbered (number to) tag × begun to → Rounds was nodes (before ++ record { from = from; to = to; packet = says (HasSame tag table prefix); moment = sent } ∷ after) →
          (let d = receives join s k to now (nodes to) from (says (HasSame tag table prefix)) in Rounds was (with_one to d.node nodes) ((before ++ after) ++ sends_at moment to d.posts))
      by_same (ForRound i p) table prefix from to sent h is =
          answer_heard was nodes before after from to sent now moment i p table prefix (HasSame (ForRound i p) table prefix) None (same_none R (ForRound i p) table prefix) (λ j q t u never. never) (λ j q t u e. (e.0, e.1, e.2)) is h.1 h.0 refl
      by_same (ForCall a b c) table prefix from to sent h is = elim h.0 [ ]
      by_same (ForItem a) table prefix from to sent h is = elim h.0 [ ]

      by_differ : (tag : Tag) (table : ℕ) (prefix : List ℕ) (pairs : List (ℕ × Hash32)) (from to sent : ℕ) → IsNumbered (number to) tag × begun to → Rounds was nodes (before ++ record { from = from; to = to; packet = says (Differ tag table prefix pairs); moment = sent } ∷ after) →
          (let d = receives join s k to now (nodes to) from (says (Differ tag table prefix pairs)) in Rounds was (with_one to d.node nodes) ((before ++ after) ++ sends_at moment to d.posts))
      by_differ (ForRound i p) table prefix pairs from to sent h is =
          answer_heard was nodes before after from to sent now moment i p table prefix (Differ (ForRound i p) table prefix pairs) (Some pairs) (differ_none R (ForRound i p) table prefix pairs) (λ j q t u never. never) (λ j q t u e. (e.0, e.1, e.2)) is h.1 h.0 refl
      by_differ (ForCall a b c) table prefix pairs from to sent h is = elim h.0 [ ]
      by_differ (ForItem a) table prefix pairs from to sent h is = elim h.0 [ ]

      by_message : (g : Message R) (from to sent : ℕ) → IsRoundMessage join s k l new part number begun from to g → Rounds was nodes (before ++ record { from = from; to = to; packet = says g; moment = sent } ∷ after) →
          (let d = receives join s k to now (nodes to) from (says g) in Rounds was (with_one to d.node nodes) ((before ++ after) ++ sends_at moment to d.posts))
      by_message (Store tag named p rows) from to sent h is = store_heard laws k l new later part number begun was nodes before after from to sent now moment tag named p rows is
      by_message (Stored tag) from to sent h is = by_tag tag from to sent h is
      by_message (AsksValue tag named p table prefix hash) from to sent h is = asked_heard was nodes before after from to sent now moment tag named p table prefix hash is
      by_message (HasSame tag table prefix) from to sent h is = by_same tag table prefix from to sent h is
      by_message (Differ tag table prefix pairs) from to sent h is = by_differ tag table prefix pairs from to sent h is
      by_message _ from to sent h is = elim h [ ]

      by_packet : (p : Packet R L) (from to sent : ℕ) → Rounds was nodes (before ++ record { from = from; to = to; packet = p; moment = sent } ∷ after) →
          (let d = receives join s k to now (nodes to) from p in Rounds was (with_one to d.node nodes) ((before ++ after) ++ sends_at moment to d.posts))
      by_packet (says g) from to sent is = by_message g from to sent (of (says g) from to sent is) is
      by_packet (shows v) from to sent is = elim (of (shows v) from to sent is) [ ]

  -- ---- where nothing waits

  -- no walk goes on
  pub no_walk : (n : ℕ) (x : Node R L) → IsGoing join s k l new part [] n (number n) x → (p m : ℕ) (w : Walk) → walk_at p m (walks_in x.round x.lasting) ≡ Some w → ⊥
  no_walk n x h p m w e =
      let u = h.walks p m w e in
      let o = has_open w u.goes_on in
      u.awaited o.0.0 o.0.1 o.1

  -- and no round is open
  pub none_open : (n : ℕ) (x : Node R L) → IsGoing join s k l new part [] n (number n) x → (o : Option Round) → x.round ≡ o → o ≡ None
  none_open n x h None e = refl
  none_open n x h (Some round) e =
      let state : IsRoundOf join s k l new part [] n x.view (Some round) = subst (IsRoundOf join s k l new part [] n x.view) e h.state in
      absurd (false≢true (sym state.1 ∙ complete_so R L n round.number round.confirmed round.walks (λ p m w f. no_walk n x h p m w (ap (λ o. walk_at p m (walks_in o x.lasting)) e ∙ f)) round.parts state.2))
