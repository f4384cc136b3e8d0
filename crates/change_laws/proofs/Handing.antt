-- What is delivered while rounds are open, and what becomes of rows: what a node is owed it has, or it is brought, or sought.
use Rattle.std.specs.Prelude.{◌≡◌, ◌⊎◌, ◌<◌, ◌==◌, ℕ, suc, nat_eq, true, false, cond, IsTrue, Option, Some, None, List, [], ◌∷◌, ◌++◌, length, map, refl}
use Rattle.std.specs.Option.{unwrap_or}
use Rattle.std.specs.List.{AllByRecursion, filter, starts_with}
use Rattle.std.proofs.Common.{ap, sym, subst, ◌∙◌, inl, inr}
use Rattle.std.proofs.lemmas.Bool.{cases_Bool, eqb-true, eqb-false}
use Rattle.blake2_hash.specs.Blake2b.{blake2b}
use Rattle.blake2_hash.specs.declared.digest.Hash32.{Hash32}
use Rattle.crdt_core.specs.Laws.{JoinLaws}
use Rattle.crdt_core.proofs.Each.{all_append, all_weaker}
use Rattle.table_schema.specs.Words.{Words, partition_of}
use Rattle.table_schema.specs.Laws.{Laws}
use Rattle.table_model.specs.Rows.{row_at, rows}
use Rattle.quorum_model.specs.Quorum.{is_among}
use Rattle.walk_model.specs.Account.{Noted, UnderOpen}
use Rattle.walk_model.specs.Noting.{is_noted}
use Rattle.walk_model.specs.Sets.{children_at}
use Rattle.walk_model.specs.Walking.{Prefix, plain, closed}
use Rattle.walk_model.proofs.Prefixes.{same_is}
use Rattle.walk_model.proofs.Taking.{accounted}
use Rattle.wire_messages.specs.declared.message.Message.{Message}
use Rattle.wire_messages.specs.declared.message.Message.TheVariants.{Store, Stored, Walk as AsksValue, Same as HasSame, Differ}
use Rattle.wire_messages.specs.declared.message.Tag.{Tag}
use Rattle.wire_messages.specs.declared.message.Tag.TheVariants.{Call as ForCall, Round as ForRound, Item as ForItem}
use Rattle.cluster_machine.specs.Hashes.{IsOfWalk, Hashes, NoClash}
use Rattle.cluster_machine.specs.Layouts.{Layouts}
use Rattle.cluster_machine.specs.Node.{Block, Node, Packet, says, shows, Walk, Post, Did}
use Rattle.cluster_machine.specs.Phases.{is_spelled}
use Rattle.cluster_machine.specs.Receives.{receives, hears, compared}
use Rattle.cluster_machine.specs.Rows.{same_bytes, block_at, accepts_all}
use Rattle.cluster_machine.specs.Rounds.{is_empty, walk_at, walks_after, has_ended, rows_at, found, with_its_block, value_here, children_here, asked_after, noted_after, walk_after, asks_at, pushes_rows, sends_after, answer_came}
use Rattle.cluster_machine.specs.World.{Sent}
use Rattle.machine_origins.proofs.Lists.{all_parts, all_filter}
use Rattle.drained_laws.specs.Waiting.{SomeOf, Has as HasOne}
use Rattle.drained_laws.specs.Accounts.{Carries}
use Rattle.drained_laws.proofs.Waits.{some_left, some_right, some_others, some_mapped, all_mapped}
use Rattle.drained_laws.proofs.Deliveries.{one_changes}
use Rattle.drained_laws.proofs.Posts.{reads_back}
use Rattle.block_laws.proofs.Found.{rows_found}
use Rattle.change_laws.specs.Rounds.{IsOfRound, IsNumbered, walks_in, HasNumber, IsRoundMessage, IsOfRounds, AreRounds}
use Rattle.change_laws.specs.Handing.{IsQuiet, AreGiven, AllKept, HasGood, Holds, StoresIt, trie, IsHashed, IsUnder, IsGoodRow, IsQuestion, SaysSame, IsTold, SaysDiffer, MeansMessage, Means, IsSought, AreHanded}
use Rattle.change_laws.proofs.Equal.{row_there, in_partition}
use Rattle.change_laws.proofs.Found.{came_calmly, IsFound, answer_does}
use Rattle.change_laws.proofs.Lists.{some_filtered, one_some, with_all}
use Rattle.change_laws.proofs.Meaning.{means_more, Takes, keeps_all, takes_same}
use Rattle.change_laws.proofs.Moving.{with_one, sends_at}
use Rattle.change_laws.proofs.Pairs.{same_shows, differ_shows}
use Rattle.change_laws.proofs.Rounding.{all_self, store_taken, asked_taken}
use Rattle.change_laws.proofs.Taking.{took_all}
use Rattle.change_laws.proofs.Walking.{same_or_not, found_walk, after_other, after_here, noted_passes}

module _ {R : Type 0} {join : R → R → R} (joins : JoinLaws join) {s : Words R} (laws : Laws join s) (quiet_rows : IsQuiet s) (good : R → Type 0) (proper : (r : R) → good r → IsTrue (s.is_proper r))
    (one : (a b : R) → good a → good b → s.table a ≡ s.table b → s.key a ≡ s.key b → a ≡ b) (spelled : (r : R) → good r → is_spelled s r ≡ true) (H kept : List ℕ → Type 0)
    {L : Type 0} (k : Layouts L) (l new : L) (later : k.reading.version new ≡ suc (k.reading.version l)) (part : List ℕ) (number : ℕ → ℕ) (begun : ℕ → Type 0) (was : ℕ → Node R L) (owes : R → ℕ → Type 0) where
  abbrev Holds_it : R → List R → Type 0
  Holds_it r acc = Holds join s good r acc

  abbrev Means_so : (ℕ → Node R L) → Sent R L → Type 0
  Means_so nodes x = Means join s good H kept was nodes x

  abbrev Handed : (ℕ → Node R L) → List (Sent R L) → Type 0
  Handed nodes ws = AreHanded join s good H kept part was begun owes nodes ws

  abbrev Takes_so : ℕ → Node R L → Node R L → Type 0
  Takes_so to x y = Takes join s good H kept k part was to x y

  abbrev BringsIt : R → ℕ → Sent R L → Type 0
  BringsIt r n x = (x.to ≡ n) × Carries (StoresIt join s good r) x.packet

  abbrev Sought : (ℕ → Node R L) → R → ℕ → Type 0
  Sought nodes r n = IsSought join s good H kept was nodes begun r n

  put_rows : (nodes : ℕ → Node R L) (before : List (Sent R L)) (x : Sent R L) (after sends : List (Sent R L)) (to : ℕ) (y : Node R L) → Handed nodes (before ++ x ∷ after) → Takes_so to (nodes to) y →
      ((r : R) (n : ℕ) → BringsIt r n x → (n ≡ to) × Holds_it r y.accepted) → (NoClash H → (r : R) (n : ℕ) → Sought nodes r n → Holds_it r (with_one to y nodes n).accepted ⊎ (SomeOf (BringsIt r n) sends ⊎ Sought (with_one to y nodes) r n)) →
      AllByRecursion (Means_so (with_one to y nodes)) sends → Handed (with_one to y nodes) ((before ++ after) ++ sends)
  put_rows nodes before x after sends to y is t brings seeks good_sends =
      let keep = keeps_all join s good H kept k part was nodes to y t in
      let all = all_parts (Means_so nodes) before (x ∷ after) is.messages in
      let more : (ws : List (Sent R L)) → AllByRecursion (Means_so nodes) ws → AllByRecursion (Means_so (with_one to y nodes)) ws = λ ws. all_weaker (Means_so nodes) (Means_so (with_one to y nodes)) (means_more join s good H kept k part was nodes (with_one to y nodes) keep) ws in
      record {
        rows = one_changes (λ n z. IsTrue (is_among n part) → HasGood join s good z.accepted) to y nodes t.has (λ n apart. is.rows n);
        stays = λ n h r there. keep r n (is.stays n h r there);
        items = one_changes (λ n z. z.items ≡ (was n).items) to y nodes (t.items ∙ is.items to) (λ n apart. is.items n);
        blocks = one_changes (λ n z. AllKept kept z.blocks) to y nodes (t.blocks (is.blocks to)) (λ n apart. is.blocks n);
        owed = λ clear r n h. elim (is.owed clear r n h) [
          | inl there ↦ inl (keep r n there)
          | inr (inl waits) ↦ (elim (some_others (BringsIt r n) before x after waits) [
            | inl this ↦ (let b = brings r n this in inl (one_changes (λ m z. m ≡ n → Holds_it r z.accepted) to y nodes (λ e. b.1) (λ m apart e. absurd (apart (e ∙ b.0))) n refl))
            | inr rest ↦ inr (inl (some_left (BringsIt r n) (before ++ after) sends rest))
          ])
          | inr (inr sought) ↦ (elim (seeks clear r n sought) [
            | inl there ↦ inl there
            | inr (inl waits) ↦ inr (inl (some_right (BringsIt r n) (before ++ after) sends waits))
            | inr (inr still) ↦ inr (inr still)
          ])
        ];
        messages = all_append (Means_so (with_one to y nodes)) (before ++ after) sends (all_append (Means_so (with_one to y nodes)) before after (more before all.0) (more after all.1.1)) good_sends;
      }

  -- where the node's walks are as they were what is sought is so still
  seeks_still : (nodes : ℕ → Node R L) (to : ℕ) (y : Node R L) → walks_in y.round y.lasting ≡ walks_in (nodes to).round (nodes to).lasting → (r : R) (n : ℕ) → Sought nodes r n → Sought (with_one to y nodes) r n
  seeks_still nodes to y same r n h = record {
    by = h.by;
    began = h.began;
    good_one = h.good_one;
    there = h.there;
    walk = h.walk;
    is_open = one_changes (λ m z. m ≡ h.by → walk_at (partition_of s r) n (walks_in z.round z.lasting) ≡ Some h.walk) to y nodes
        (λ e. ap (walk_at (partition_of s r) n) same ∙ subst (λ j. walk_at (partition_of s r) n (walks_in (nodes j).round (nodes j).lasting) ≡ Some h.walk) (sym e) h.is_open)
        (λ m apart e. subst (λ j. walk_at (partition_of s r) n (walks_in (nodes j).round (nodes j).lasting) ≡ Some h.walk) (sym e) h.is_open) h.by refl;
    sought = h.sought;
  }

  -- ---- rows that are pushed

  block_given : (bs : List Block) (hash : List ℕ) → AllKept kept bs → AreGiven kept (block_at bs hash)
  block_given [] hash all = tt
  block_given (b ∷ bs) hash all = elim (same_bytes b.hash hash) as (λ t. AreGiven kept (cond t (Some b.bytes) (block_at bs hash))) [ true ↦ all.0 | false ↦ block_given bs hash all.1 ]

  module _ (x : Node R L) (has : HasGood join s good x.accepted) (keeps : AllKept kept x.blocks) where
    found_given : (o : Option (List ℕ)) → AreGiven kept (found join s x o)
    found_given None = tt
    found_given (Some hash) = block_given x.blocks hash keeps

    -- each row of the node is one of those
    rows_good : (p : ℕ) → AllByRecursion good (rows_at join s x p)
    rows_good p =
        all_filter good (λ r. partition_of s r == p) (rows join s x.accepted)
        (all_weaker (λ r. row_at join s x.accepted (s.table r) (s.key r) ≡ Some r) good (λ r h. (has.each (s.table r) (s.key r) r h).0) (rows join s x.accepted) (rows_found laws x.accepted has.proper))

    pub bytes_good : (rs : List R) → AllByRecursion good rs → AllByRecursion (IsGoodRow join s good H kept) (map (with_its_block join s x) rs)
    bytes_good rs h = all_mapped (with_its_block join s x) good (IsGoodRow join s good H kept) (λ r g. (r, reads_back laws r (spelled r g), g, found_given (s.live_block r))) rs h

    pub bytes_have : (r : R) (rs : List R) → AllByRecursion good rs → HasOne rs r → SomeOf (λ (b : List ℕ × Option (List ℕ)). s.read b.0 ≡ Some r) (map (with_its_block join s x) rs)
    bytes_have r rs g h = some_mapped (with_its_block join s x) (λ y. good y × (y ≡ r)) (λ (b : List ℕ × Option (List ℕ)). s.read b.0 ≡ Some r) (λ y e. reads_back laws y (spelled y e.0) ∙ ap Some e.1) rs (with_all good (λ y. y ≡ r) rs g h)

  -- ---- a message comes

  module _ (nodes : ℕ → Node R L) (before after : List (Sent R L)) (from to sent now moment : ℕ) where
    abbrev Rounds : Packet R L → Type 0
    Rounds p = AreRounds join s k l new part number begun was nodes (before ++ record { from = from; to = to; packet = p; moment = sent } ∷ after)

    abbrev Both : Packet R L → Type 0
    Both p = Rounds p × Handed nodes (before ++ record { from = from; to = to; packet = p; moment = sent } ∷ after)

    abbrev After : Did R L → Type 0
    After d = Handed (with_one to d.node nodes) ((before ++ after) ++ sends_at moment to d.posts)

    abbrev x : Node R L
    x = nodes to

    module _ (g : Message R) (is : Both (says g)) where
      abbrev this : Sent R L
      this = record { from = from; to = to; packet = says g; moment = sent }

      of_round : IsOfRounds join s k l new part number begun this
      of_round = (all_parts (λ (y : Sent R L). IsOfRounds join s k l new part number begun y) before (this ∷ after) is.0.messages).1.0

      means_this : Means_so nodes this
      means_this = (all_parts (Means_so nodes) before (this ∷ after) is.1.messages).1.0

      has_here : HasGood join s good (nodes to).accepted
      has_here = is.1.rows to of_round.1

    -- rows
    store_rows : (tag : Tag) (named p : ℕ) (rows : List (List ℕ × Option (List ℕ))) → Both (says (Store tag named p rows)) → After (hears join s k to now x from (Store tag named p rows))
    store_rows tag named p rows is =
        let g : Message R = Store tag named p rows in
        let o = of_round g is in
        let same = store_taken laws k l new later part to now x from tag named p rows (is.0.inside to o.1).layouts o.2.1 o.2.2 in
        let took = took_all joins s quiet_rows good proper one H kept now x rows (has_here g is) (means_this g is) in
        let self = all_self join s now x rows in
        let y = accepts_all join s now x rows in
        subst After (sym same)
        (put_rows nodes before (this g is) after (record { from = to; to = from; packet = says (Stored tag); moment = moment } ∷ []) to y is.1
        (record { has = λ h. took.has; items = took.items; blocks = took.blocks; holds = λ r h. took.stays (s.table r) (s.key r) r h })
        (λ r n b. (sym b.0, took.came r b.1))
        (λ clear r n sought. inr (inr (seeks_still nodes to y (ap (λ q. walks_in q y.lasting) self.round ∙ ap (λ q. walks_in (nodes to).round q) self.lasting) r n sought)))
        (tt, tt))

    -- a confirmation
    stored_rows : (i p : ℕ) → Both (says (Stored (ForRound i p))) → After (hears join s k to now x from (Stored (ForRound i p)))
    stored_rows i p is =
        let g : Message R = Stored (ForRound i p) in
        let d : Did R L = hears join s k to now x from g in
        let calm = came_calmly join s k to x from i p in
        let none : sends_at moment to d.posts ≡ [] = ap (sends_at moment to) calm.posts in
        put_rows nodes before (this g is) after (sends_at moment to d.posts) to d.node is.1 (takes_same join s good H kept k part was to x d.node (is.1.rows to) calm.rows) (λ r n b. elim b.1 [ ])
        (λ clear r n sought. inr (inr (seeks_still nodes to d.node calm.walks r n sought))) (subst (AllByRecursion (Means_so (with_one to d.node nodes))) (sym none) tt)

    -- a question
    asked_rows : (tag : Tag) (named p table : ℕ) (prefix : List ℕ) (hash : Hash32) → Both (says (AsksValue tag named p table prefix hash)) → ((y : List ℕ) → Hashes s p (rows join s (nodes to).accepted) y → H y) →
        After (hears join s k to now x from (AsksValue tag named p table prefix hash))
    asked_rows tag named p table prefix hash is hashed =
        let g : Message R = AsksValue tag named p table prefix hash in
        let o = of_round g is in
        let same = asked_taken laws k l new later part to now x from tag named p table prefix hash (is.0.inside to o.1).layouts o.2.1 o.2.2 in
        let answer : Message R = compared join s k x tag p table prefix hash in
        subst After (sym same)
        (put_rows nodes before (this g is) after (record { from = to; to = from; packet = says answer; moment = moment } ∷ []) to x is.1
        (record { has = is.1.rows to; items = refl; blocks = λ b. b; holds = λ r h. h }) (λ r n b. elim b.1 [ ])
        (λ clear r n sought. inr (inr (seeks_still nodes to x refl r n sought))) (answer_means o.2.0, tt))
      where
        ask : IsQuestion join s good H kept was nodes from p table prefix hash.0
        ask = means_this (AsksValue tag named p table prefix hash) is

        own : IsHashed join s good H p (nodes to).accepted
        own = record { good_rows = has_here (AsksValue tag named p table prefix hash) is; hashed = hashed }

        here_so : (r : R) → Holds_it r (nodes to).accepted → Holds_it r (with_one to (nodes to) nodes to).accepted
        here_so r h = one_changes (λ m z. m ≡ to → Holds_it r z.accepted) to (nodes to) nodes (λ e. h) (λ m apart e. absurd (apart e)) to refl

        says_same : hash.0 ≡ (value_here join s (nodes to) table p prefix).0 → (t : Tag) → t ≡ ForRound (number from) p → SaysSame join s good H kept was (with_one to (nodes to) nodes) to from t table prefix
        says_same e t f = subst (λ t. SaysSame join s good H kept was (with_one to (nodes to) nodes) to from t table prefix) (sym f)
            (λ clear r under there. here_so r (same_shows laws good one H clear p table prefix ask.rows_then (nodes to).accepted ask.is_hashed own r under (ask.over r under.good_one there) (sym ask.hash_is ∙ e)))

        says_differ : (t : Tag) → t ≡ ForRound (number from) p → SaysDiffer join s good H kept was (with_one to (nodes to) nodes) to t table prefix (children_here join s (nodes to) table p prefix)
        says_differ t f = subst (λ t. SaysDiffer join s good H kept was (with_one to (nodes to) nodes) to t table prefix (children_here join s (nodes to) table p prefix)) (sym f)
            (record { rows_then = (nodes to).accepted; is_hashed = own; children_are = plain_back (children_at (blake2b 32) prefix (trie join s good H (nodes to).accepted table p)); still = λ r good_one h. here_so r h })
          where
            plain_back : (cs : List (ℕ × List ℕ)) → map plain (map (λ child. (child.0, record { 0 = child.1 })) cs) ≡ cs
            plain_back [] = refl
            plain_back (c ∷ cs) = ap (λ rest. c ∷ rest) (plain_back cs)

        answer_means : tag ≡ ForRound (number from) p → MeansMessage join s good H kept was (with_one to (nodes to) nodes) to from (compared join s k (nodes to) tag p table prefix hash)
        answer_means f =
            elim (same_bytes hash.0 (value_here join s (nodes to) table p prefix).0) as (λ b. same_bytes hash.0 (value_here join s (nodes to) table p prefix).0 ≡ b →
            MeansMessage join s good H kept was (with_one to (nodes to) nodes) to from (cond b (HasSame tag table prefix) (Differ tag table prefix (children_here join s (nodes to) table p prefix)))) [
              | true ↦ (λ e. says_same (same_is hash.0 (value_here join s (nodes to) table p prefix).0 e) tag f)
              | false ↦ (λ e. says_differ tag f)
            ] refl

    -- an answer
    module _ (i p table : ℕ) (prefix : List ℕ) (answer : Option (List (ℕ × Hash32))) (g : Message R) (is : Both (says g)) (none : (r : R) → StoresIt join s good r g → ⊥) (b : begun to) (same_number : i ≡ number to) (hashed : (y : List ℕ) → Hashes s p (rows join s (nodes to).accepted) y → H y)
        (told : NoClash H → (r : R) → IsUnder join s good H p table prefix r → Holds_it r (was to).accepted →
        Holds_it r (nodes from).accepted ⊎ (Noted (noted_after join s (nodes to) p table prefix answer) table (blake2b 32 (s.key r)) ⊎ UnderOpen (closed table prefix (map (λ q. (table, q)) (asked_after join s (nodes to) p table prefix answer))) table (blake2b 32 (s.key r)))) where
      abbrev d : Did R L
      d = answer_came join s k to (nodes to) from i p table prefix answer (nodes to).round

      abbrev walks : List Walk
      walks = walks_in (nodes to).round (nodes to).lasting

      o : IsOfRounds join s k l new part number begun (this g is)
      o = of_round g is

      has_number : HasNumber i (nodes to).round (nodes to).lasting
      has_number = subst (λ j. HasNumber j (nodes to).round (nodes to).lasting) (sym same_number) (is.0.going to b).has_number

      none_here : (y : Node R L) (r : R) (n : ℕ) → BringsIt r n (this g is) → (n ≡ to) × Holds_it r y.accepted
      none_here y r n h = absurd (none r h.1)

      module _ (f : IsFound join s k to (nodes to) from i p table prefix answer d) where
        abbrev w : Walk
        w = f.walk

        abbrev gone : Walk
        gone = walk_after join s (nodes to) f.walk table prefix answer

        abbrev asked : List (List ℕ)
        asked = asked_after join s (nodes to) f.walk.state.partition table prefix answer

        abbrev pushed : List R
        pushed = filter (is_noted s gone.state.noted) (rows_at join s (nodes to) f.walk.state.partition)

        abbrev send : Post R L → Sent R L
        send q = record { from = to; to = q.to; packet = q.packet; moment = moment }

        at : (f.walk.state.partition ≡ p) × (f.walk.node ≡ from)
        at = found_walk p from walks f.walk f.is_there

        takes : Takes_so to (nodes to) d.node
        takes = takes_same join s good H kept k part was to (nodes to) d.node (is.1.rows to) f.rows

        rows_so : AllByRecursion good pushed
        rows_so = all_filter good (is_noted s gone.state.noted) (rows_at join s (nodes to) f.walk.state.partition) (rows_good (nodes to) (has_here g is) (is.1.blocks to) f.walk.state.partition)

        -- ---- what it sends

        push_means : (rs : List R) → AllByRecursion good rs → AllByRecursion (λ (q : Post R L). Means_so (with_one to d.node nodes) (send q)) (pushes_rows join s k (nodes to) i f.walk.state.partition (f.walk.node ∷ []) rs)
        push_means [] h = tt
        push_means (r ∷ rs) h = (bytes_good (nodes to) (has_here g is) (is.1.blocks to) (r ∷ rs) h, tt)

        own_hashed : IsHashed join s good H f.walk.state.partition (nodes to).accepted
        own_hashed = subst (λ q. IsHashed join s good H q (nodes to).accepted) (sym at.0) (record { good_rows = has_here g is; hashed = hashed })

        ask_means : (ps : List (List ℕ)) → AllByRecursion (λ (q : Post R L). Means_so (with_one to d.node nodes) (send q)) (map (asks_at join s k (nodes to) i f.walk.state.partition f.walk.node table) ps)
        ask_means [] = tt
        ask_means (v ∷ vs) = (record { rows_then = (nodes to).accepted; is_hashed = own_hashed; hash_is = refl; over = λ r good_one h. is.1.stays to o.1 r h }, ask_means vs)

        sends_mean : AllByRecursion (Means_so (with_one to d.node nodes)) (sends_at moment to d.posts)
        sends_mean =
            subst (λ ps. AllByRecursion (Means_so (with_one to d.node nodes)) (sends_at moment to ps)) (sym f.posts)
            (all_mapped send (λ (q : Post R L). Means_so (with_one to d.node nodes) (send q)) (Means_so (with_one to d.node nodes)) (λ q h. h) (sends_after join s k (nodes to) i gone table asked)
            (elim (has_ended gone) as (λ c. AllByRecursion (λ (q : Post R L). Means_so (with_one to d.node nodes) (send q)) (cond c (pushes_rows join s k (nodes to) i f.walk.state.partition (f.walk.node ∷ []) pushed) (map (asks_at join s k (nodes to) i f.walk.state.partition f.walk.node table) asked))) [
              | true ↦ push_means pushed rows_so
              | false ↦ ask_means asked
            ]))

        -- ---- what is sought

        module _ (clear : NoClash H) (r : R) (n : ℕ) (sought : Sought nodes r n) (by_to : sought.by ≡ to) where
          had : Holds_it r (was to).accepted
          had = subst (λ j. Holds_it r (was j).accepted) by_to sought.there

          has_now : Holds_it r (nodes to).accepted
          has_now = is.1.stays to o.1 r had

          open_to : walk_at (partition_of s r) n walks ≡ Some sought.walk
          open_to = subst (λ j. walk_at (partition_of s r) n (walks_in (nodes j).round (nodes j).lasting) ≡ Some sought.walk) by_to sought.is_open

          abbrev Outcome : Type 0
          Outcome = Holds_it r (with_one to d.node nodes n).accepted ⊎ (SomeOf (BringsIt r n) (sends_at moment to d.posts) ⊎ Sought (with_one to d.node nodes) r n)

          -- a walk of the node notes it then, or asks for a prefix
          sought_then : (v : Walk) → walk_at (partition_of s r) n (walks_in d.node.round d.node.lasting) ≡ Some v → Noted v.state.noted (s.table r) (blake2b 32 (s.key r)) ⊎ UnderOpen v.state.prefixes (s.table r) (blake2b 32 (s.key r)) → Outcome
          sought_then v e h = inr (inr (record {
            by = sought.by;
            began = sought.began;
            good_one = sought.good_one;
            there = sought.there;
            walk = v;
            is_open = one_changes (λ m z. m ≡ sought.by → walk_at (partition_of s r) n (walks_in z.round z.lasting) ≡ Some v) to d.node nodes (λ same. e) (λ m apart same. absurd (apart (same ∙ by_to))) sought.by refl;
            sought = h;
          }))

          -- another walk
          other_walk : ((partition_of s r ≡ p) → (n ≡ from) → ⊥) → Outcome
          other_walk apart = sought_then sought.walk (ap (walk_at (partition_of s r) n) f.walks_now ∙ (after_other gone walks (partition_of s r) n (λ a c. apart (a ∙ at.0) (c ∙ at.1)) ∙ open_to)) sought.sought

          -- this walk
          module _ (of_p : partition_of s r ≡ p) (to_from : n ≡ from) where
            same_walk : sought.walk ≡ f.walk
            same_walk =
                ap (λ o. unwrap_or o sought.walk)
                (sym (subst (λ j. walk_at p j walks ≡ Some sought.walk) to_from (subst (λ j. walk_at j n walks ≡ Some sought.walk) of_p open_to)) ∙ f.is_there)

            abbrev Done : Type 0
            Done = Holds_it r (nodes from).accepted

            abbrev Key : List ℕ
            Key = blake2b 32 (s.key r)

            told_so : table ≡ s.table r → length prefix < 32 → starts_with nat_eq (blake2b 32 (s.key r)) prefix ≡ true →
                Done ⊎ (Noted (noted_after join s (nodes to) f.walk.state.partition table prefix answer) (s.table r) (blake2b 32 (s.key r)) ⊎ UnderOpen (closed table prefix (map (λ q. (table, q)) asked)) (s.table r) (blake2b 32 (s.key r)))
            told_so e short begins =
                subst (λ t. Done ⊎ (Noted (noted_after join s (nodes to) f.walk.state.partition table prefix answer) t (blake2b 32 (s.key r)) ⊎ UnderOpen (closed table prefix (map (λ q. (table, q)) asked)) t (blake2b 32 (s.key r)))) e
                (subst (λ v. Done ⊎ (Noted (noted_after join s (nodes to) v table prefix answer) table (blake2b 32 (s.key r)) ⊎ UnderOpen (closed table prefix (map (λ q. (table, q)) (asked_after join s (nodes to) v table prefix answer))) table (blake2b 32 (s.key r)))) (sym at.0)
                (told clear r (record { good_one = sought.good_one; of_part = of_p; of_table = sym e; short = short; begins = begins }) had))

            then : Done ⊎ (Noted gone.state.noted (s.table r) (blake2b 32 (s.key r)) ⊎ UnderOpen gone.state.prefixes (s.table r) (blake2b 32 (s.key r)))
            then =
                accounted Done f.walk.state table prefix asked (noted_after join s (nodes to) f.walk.state.partition table prefix answer) (s.table r) (blake2b 32 (s.key r)) told_so
                (inr (subst (λ (v : Walk). Noted v.state.noted (s.table r) (blake2b 32 (s.key r)) ⊎ UnderOpen v.state.prefixes (s.table r) (blake2b 32 (s.key r))) same_walk sought.sought))

            none_open : (os : List Prefix) → is_empty os ≡ true → UnderOpen os (s.table r) (blake2b 32 (s.key r)) → ⊥
            none_open [] e h = absurd h
            none_open (v ∷ vs) e h = cc

            brings_push : (rs : List R) → AllByRecursion good rs → HasOne rs r → SomeOf (BringsIt r n) (sends_at moment to (pushes_rows join s k (nodes to) i f.walk.state.partition (f.walk.node ∷ []) rs))
            brings_push [] h e = elim e [ ]
            brings_push (z ∷ zs) h e = inl (at.1 ∙ sym to_from, bytes_have (nodes to) (has_here g is) (is.1.blocks to) r (z ∷ zs) h e)

            -- a row whose key is noted is pushed at the end
            is_pushed : has_ended gone ≡ true → Noted gone.state.noted (s.table r) (blake2b 32 (s.key r)) → SomeOf (BringsIt r n) (sends_at moment to d.posts)
            is_pushed ended noted =
                let has = has_here g is in
                let there : HasOne (rows_at join s (nodes to) f.walk.state.partition) r =
                in_partition laws (nodes to).accepted has.proper f.walk.state.partition r (row_there laws (nodes to).accepted has.proper (s.table r) (s.key r) r has_now).0 (of_p ∙ sym at.0) in
                let passes : HasOne pushed r =
                some_filtered (λ y. y ≡ r) (is_noted s gone.state.noted) (rows_at join s (nodes to) f.walk.state.partition)
                (one_some (λ y. (y ≡ r) × (is_noted s gone.state.noted y ≡ true)) (rows_at join s (nodes to) f.walk.state.partition) r there (refl, noted_passes s gone.state.noted r noted)) in
                subst (λ ps. SomeOf (BringsIt r n) (sends_at moment to ps)) (sym f.posts)
                (subst (λ c. SomeOf (BringsIt r n) (sends_at moment to (cond c (pushes_rows join s k (nodes to) i f.walk.state.partition (f.walk.node ∷ []) pushed) (map (asks_at join s k (nodes to) i f.walk.state.partition f.walk.node table) asked)))) (sym ended)
                (brings_push pushed rows_so passes))

            at_end : Noted gone.state.noted (s.table r) (blake2b 32 (s.key r)) ⊎ UnderOpen gone.state.prefixes (s.table r) (blake2b 32 (s.key r)) → Outcome
            at_end h = elim (cases_Bool (has_ended gone)) [
              | inl ended ↦ (elim h [ inl noted ↦ inr (inl (is_pushed ended noted)) | inr under ↦ absurd (none_open gone.state.prefixes ended under) ])
              | inr goes ↦
                  sought_then gone
                  (ap (walk_at (partition_of s r) n) f.walks_now
                  ∙ subst (λ v. walk_at v n (walks_after gone walks) ≡ Some gone) (at.0 ∙ sym of_p) (subst (λ v. walk_at f.walk.state.partition v (walks_after gone walks) ≡ Some gone) (at.1 ∙ sym to_from) (after_here gone walks goes))) h
            ]

            this_walk : Outcome
            this_walk = elim then [
              | inl done ↦ inl (keeps_all join s good H kept k part was nodes to d.node takes r n (subst (λ j. Holds_it r (nodes j).accepted) (sym to_from) done))
              | inr more ↦ at_end more
            ]

          by_this : Outcome
          by_this = elim (same_or_not p from (partition_of s r) n) [ inl here ↦ this_walk here.0 here.1 | inr apart ↦ other_walk apart ]

        seeks : NoClash H → (r : R) (n : ℕ) → Sought nodes r n → Holds_it r (with_one to d.node nodes n).accepted ⊎ (SomeOf (BringsIt r n) (sends_at moment to d.posts) ⊎ Sought (with_one to d.node nodes) r n)
        seeks clear r n sought = elim (sought.by == to) as (λ c. (sought.by == to) ≡ c → Holds_it r (with_one to d.node nodes n).accepted ⊎ (SomeOf (BringsIt r n) (sends_at moment to d.posts) ⊎ Sought (with_one to d.node nodes) r n)) [
          | true ↦ (λ e. by_this clear r n sought (eqb-true sought.by to e))
          | false ↦ (λ e. inr (inr (record {
            by = sought.by;
            began = sought.began;
            good_one = sought.good_one;
            there = sought.there;
            walk = sought.walk;
            is_open = one_changes (λ m z. m ≡ sought.by → walk_at (partition_of s r) n (walks_in z.round z.lasting) ≡ Some sought.walk) to d.node nodes (λ same. absurd (eqb-false sought.by to e (sym same)))
                (λ m apart same. subst (λ j. walk_at (partition_of s r) n (walks_in (nodes j).round (nodes j).lasting) ≡ Some sought.walk) (sym same) sought.is_open) sought.by refl;
            sought = sought.sought;
          })))
        ] refl

        found_rows : After d
        found_rows = put_rows nodes before (this g is) after (sends_at moment to d.posts) to d.node is.1 takes (none_here d.node) seeks sends_mean

      answer_rows : After d
      answer_rows = elim (answer_does join s k to (nodes to) from i p table prefix answer has_number) [
        | inr f ↦ found_rows f
        | inl ignored ↦
            subst After (sym ignored.is)
            (put_rows nodes before (this g is) after [] to (nodes to) is.1 (record { has = is.1.rows to; items = refl; blocks = λ b. b; holds = λ r h. h }) (none_here (nodes to)) (λ clear r n sought. inr (inr (seeks_still nodes to (nodes to) refl r n sought))) tt)
      ]

    -- `same`, and `differ`
    same_rows : (i p table : ℕ) (prefix : List ℕ) → Both (says (HasSame (ForRound i p) table prefix)) → ((y : List ℕ) → Hashes s p (rows join s (nodes to).accepted) y → H y) → After (hears join s k to now x from (HasSame (ForRound i p) table prefix))
    same_rows i p table prefix is hashed =
        let g : Message R = HasSame (ForRound i p) table prefix in
        let o = of_round g is in
        answer_rows i p table prefix None g is (λ r never. never) o.2.1 o.2.0 hashed (λ clear r under there. inl (means_this g is clear r under there))

    differ_rows : (i p table : ℕ) (prefix : List ℕ) (children : List (ℕ × Hash32)) → Both (says (Differ (ForRound i p) table prefix children)) → ((y : List ℕ) → Hashes s p (rows join s (nodes to).accepted) y → H y) →
        After (hears join s k to now x from (Differ (ForRound i p) table prefix children))
    differ_rows i p table prefix children is hashed =
        let g : Message R = Differ (ForRound i p) table prefix children in
        let o = of_round g is in
        let told : IsTold join s good H kept was nodes from p table prefix children = means_this g is in
        let own : IsHashed join s good H p (nodes to).accepted = record { good_rows = has_here g is; hashed = hashed } in
        answer_rows i p table prefix (Some children) g is (λ r never. never) o.2.1 o.2.0 hashed
        (λ clear r under there. elim (differ_shows laws good one H clear p table prefix (nodes to).accepted told.rows_then own told.is_hashed r under (is.1.stays to o.1 r there) children told.children_are) [
          | inl has ↦ inl (told.still r under.good_one has)
          | inr rest ↦ inr rest
        ])

    by_tag : (tag : Tag) → IsOfRound tag → Both (says (Stored tag)) → After (hears join s k to now x from (Stored tag))
    by_tag (ForRound i p) h is = stored_rows i p is
    by_tag (ForCall a b c) h is = elim h [ ]
    by_tag (ForItem a) h is = elim h [ ]

    by_same : (tag : Tag) (table : ℕ) (prefix : List ℕ) → IsNumbered (number to) tag → Both (says (HasSame tag table prefix)) → ((p : ℕ) → IsOfWalk {R = R} {L = L} p (says (HasSame tag table prefix)) → (y : List ℕ) → Hashes s p (rows join s (nodes to).accepted) y → H y) →
        After (hears join s k to now x from (HasSame tag table prefix))
    by_same (ForRound i p) table prefix h is hashed = same_rows i p table prefix is (hashed p refl)
    by_same (ForCall a b c) table prefix h is hashed = elim h [ ]
    by_same (ForItem a) table prefix h is hashed = elim h [ ]

    by_differ : (tag : Tag) (table : ℕ) (prefix : List ℕ) (children : List (ℕ × Hash32)) → IsNumbered (number to) tag → Both (says (Differ tag table prefix children)) →
        ((p : ℕ) → IsOfWalk {R = R} {L = L} p (says (Differ tag table prefix children)) → (y : List ℕ) → Hashes s p (rows join s (nodes to).accepted) y → H y) → After (hears join s k to now x from (Differ tag table prefix children))
    by_differ (ForRound i p) table prefix children h is hashed = differ_rows i p table prefix children is (hashed p refl)
    by_differ (ForCall a b c) table prefix children h is hashed = elim h [ ]
    by_differ (ForItem a) table prefix children h is hashed = elim h [ ]

    by_message : (g : Message R) → IsRoundMessage join s k l new part number begun from to g → Both (says g) → ((p : ℕ) → IsOfWalk {R = R} {L = L} p (says g) → (y : List ℕ) → Hashes s p (rows join s (nodes to).accepted) y → H y) → After (hears join s k to now x from g)
    by_message (Store tag named p rows) h is hashed = store_rows tag named p rows is
    by_message (Stored tag) h is hashed = by_tag tag h is
    by_message (AsksValue tag named p table prefix hash) h is hashed = asked_rows tag named p table prefix hash is (hashed p refl)
    by_message (HasSame tag table prefix) h is hashed = by_same tag table prefix h.0 is hashed
    by_message (Differ tag table prefix children) h is hashed = by_differ tag table prefix children h.0 is hashed
    by_message _ h is hashed = elim h [ ]

    pub packet_rows : (p : Packet R L) → Both p → ((q : ℕ) → IsOfWalk q p → (y : List ℕ) → Hashes s q (rows join s (nodes to).accepted) y → H y) → After (receives join s k to now x from p)
    packet_rows (says g) is hashed = by_message g (of_round g is).2 is hashed
    packet_rows (shows v) is hashed = elim (all_parts (λ (y : Sent R L). IsOfRounds join s k l new part number begun y) before (record { from = from; to = to; packet = shows v; moment = sent } ∷ after) is.0.messages).1.0.2 [ ]
