-- Walks: what a node asks another, what the other answers, and what the answers account for.
use Rattle.std.specs.Prelude.{◌≡◌, ◌≤◌, ◌<◌, ◌⊎◌, ℕ, suc, nat_eq, true, false, cond, Option, Some, None, List, [], ◌∷◌, ◌++◌, length, map, IsTrue, refl}
use Rattle.std.specs.List.{Contains, AllByRecursion, list_all, starts_with}
use Rattle.std.proofs.Common.{ap, sym, subst, ◌∙◌, inl, inr, arith}
use Rattle.blake2_hash.specs.Blake2b.{blake2b}
use Rattle.blake2_hash.specs.DigestLaws.{digest_length}
use Rattle.blake2_hash.specs.declared.digest.Hash32.{Hash32}
use Rattle.crdt_core.specs.Laws.{JoinLaws}
use Rattle.crdt_core.specs.Members.{OneOf}
use Rattle.view_model.specs.View.{newest}
use Rattle.control_model.specs.World as control
use Rattle.control_model.specs.Steps.{Step}
use Rattle.table_schema.specs.Words.{Words}
use Rattle.table_schema.specs.Laws.{Laws}
use Rattle.table_model.specs.Rows.{rows}
use Rattle.table_model.specs.Top.{pair_of}
use Rattle.walk_model.specs.Equal.{inputs_at}
use Rattle.walk_model.specs.Sets.{value_at, children_at}
use Rattle.walk_model.specs.Walking.{Prefix, plain, closed}
use Rattle.walk_model.specs.Account.{Answer, Noted, UnderOpen, SaysSame as SameThere, SaysDiffer as DiffersThere}
use Rattle.walk_model.proofs.Covering.{one_left, one_right, told_same, told_differ}
use Rattle.walk_model.proofs.Taking.{accounted}
use Rattle.walk_model.proofs.Prefixes.{same_is}
use Rattle.wire_messages.specs.declared.message.Message.TheVariants.{Same as HasSame, Differ}
use Rattle.wire_messages.specs.declared.message.Tag.{Tag}
use Rattle.wire_messages.specs.declared.message.Tag.TheVariants.{Call as ForCall, Round as ForRound, Item as ForItem}
use Rattle.plane_model.specs.Rows.{IsAtLeast}
use Rattle.plane_model.specs.World as plane
use Rattle.plane_model.specs.World.{row_at as log_at}
use Rattle.plane_model.specs.Kept.{IsGone}
use Rattle.plane_laws.proofs.Sound.{IsSound}
use Rattle.plane_laws.proofs.Steps.{has_still}
use Rattle.cluster_machine.specs.Layouts.{Layouts}
use Rattle.cluster_machine.specs.Node as machine
use Rattle.cluster_machine.specs.Node.{Node, Post, Walk}
use Rattle.cluster_machine.specs.Phases.{is_spelled}
use Rattle.cluster_machine.specs.Rows.{same_bytes}
use Rattle.cluster_machine.specs.Rounds.{rows_at, with_its_block, value_here, children_here, asks_at, first_asks, starts, pushes_rows, walk_after, asked_after, noted_after}
use Rattle.cluster_machine.specs.Receives.{compared}
use Rattle.cluster_machine.specs.Hashes.{AsksOver, Hashes, NoClash}
use Rattle.cluster_machine.specs.World.{World}
use Rattle.cluster_machine.specs.Step.{sent_by}
use Rattle.machine_reads.specs.Places.{Place, at_place}
use Rattle.machine_reads.specs.Hashed.{trie, AreHashed}
use Rattle.machine_reads.specs.Tie.{Issued, Begun, a_round, a_repair, both, State, HasBase, GivesNext, HoldsFor, HadThere, IsBelow, IsPushOf, IsAsk, IsAskOf, MeansValue, MeansReply, IsAnswer, IsAnswerOf, MeansMessage, Means, IsRound, IsWalk, IsTied}
use Rattle.machine_reads.proofs.Pairs.{set_of, inputs_hashed, clear_at, pair_at, shown_same}
use Rattle.machine_reads.proofs.Growth.{base_grows}
use Rattle.machine_reads.proofs.Leads.{issues_self, laws_of, grown}
use Rattle.machine_reads.proofs.Storing.{sent_append}
use Rattle.machine_reads.proofs.Rounds.{rows_back, open_by}

abbrev digest : List ℕ → List ℕ
digest = blake2b 32

pub at_least_some : {R : Type 0} (join : R → R → R) (o : Option R) (x : R) → IsAtLeast join o x → (y : R) × (o ≡ Some y)
at_least_some join None x h = absurd h
at_least_some join (Some y) x h = (y, refl)

plain_back : (cs : List (ℕ × List ℕ)) → map plain (map (λ (c : ℕ × List ℕ). (c.0, record { 0 = c.1 })) cs) ≡ cs
plain_back [] = refl
plain_back (c ∷ cs) = ap (λ l. c ∷ l) (plain_back cs)

module _ {R L : Type 0} (join : R → R → R) (s : Words R) (k : Layouts L) (partitions : ℕ) (H : List ℕ → Type 0) (some : 1 ≤ partitions) (joins_well : JoinLaws join) (laws : Laws join s) where
  abbrev pub P : Rattle.plane_model.specs.Plane.Plane (control.World L) (Step L) Place R
  P = both join s k partitions H

  -- ---- what a node sends for a walk

  module _ (w : World R L) (n : ℕ) (new : State join s k partitions H) (h : Issued R L) (number : ℕ) (b : Begun R) (issued : h.rounds n number ≡ Some b) (y : Node R L) where
    -- a node may ask for a round whose rows it has still, but those that were collected
    pub record CanAsk (rd : plane.Round Place R) (part to : ℕ) : Type 0 where
      pub base : HasBase join s k partitions H new h rd part (newest k.reading y.view)
      pub given : GivesNext join s k partitions H new h rd part to
      pub proper : AllByRecursion (λ r. IsTrue (s.is_proper r)) y.accepted
      pub spelled : list_all (is_spelled s) (rows_at join s y part) ≡ true
      pub over : (q : Place) (x : R) → HadThere join s k partitions H rd part q x → IsAtLeast join (at_place s join y.accepted q) x ⊎ IsGone P new.log q x

    abbrev pub MayAsk : Begun R → ℕ → ℕ → Type 0
    MayAsk (a_round rd) part to = CanAsk rd part to
    MayAsk a_repair part to = Unit {0}

    -- what it hashes then is among the strings of the run, where it asks for a round
    abbrev pub MayHash : Begun R → ℕ → Type 0
    MayHash (a_round rd) part = (x : List ℕ) → Hashes s part (rows join s y.accepted) x → H x
    MayHash a_repair part = Unit {0}

    ask_of : (c : Begun R) (part to table : ℕ) (prefix : List ℕ) → MayAsk c part to → MayHash c part → IsAskOf join s k partitions H new h c part (newest k.reading y.view) table prefix (value_here join s y table part prefix).0 to
    ask_of (a_round rd) part to table prefix m hashed =
        record { base = m.base; given = m.given; contents = y.accepted; hashed = record { proper = m.proper; spelled = m.spelled; hashed = hashed }; over = m.over; hash_is = refl }
    ask_of a_repair part to table prefix m hashed = tt

    -- for each partition of these messages it may hash
    abbrev pub HashesFor : List (Post R L) → Type 0
    HashesFor posts = (part : ℕ) → OneOf (λ (x : Post R L). AsksOver part x.packet) posts → MayHash b part

    sent_asks : (part to : ℕ) (prefixes : List Prefix) → MayAsk b part to → HashesFor (map (λ o. asks_at join s k y number part to o.0 o.1) prefixes) → AllByRecursion (Means join s k partitions H new h) (sent_by w n (map (λ o. asks_at join s k y number part to o.0 o.1) prefixes))
    sent_asks part to [] m hashed = tt
    sent_asks part to (o ∷ prefixes) m hashed =
        ((refl, record { begun = b; issued = issued; ask = ask_of b part to o.0 o.1 m (hashed part (inl refl)) }), sent_asks part to prefixes m (λ p one. hashed p (inr one)))

    pub sent_further : (part to table : ℕ) (prefixes : List (List ℕ)) → MayAsk b part to → MayHash b part → AllByRecursion (Means join s k partitions H new h) (sent_by w n (map (asks_at join s k y number part to table) prefixes))
    sent_further part to table [] m hashed = tt
    sent_further part to table (prefix ∷ prefixes) m hashed = ((refl, record { begun = b; issued = issued; ask = ask_of b part to table prefix m hashed }), sent_further part to table prefixes m hashed)

    pub sent_starts : (walks : List Walk) → AllByRecursion (λ (v : Walk). MayAsk b v.state.partition v.node) walks → HashesFor (starts join s k y number walks) → AllByRecursion (Means join s k partitions H new h) (sent_by w n (starts join s k y number walks))
    sent_starts [] a hashed = tt
    sent_starts (v ∷ walks) a hashed =
        let first = first_asks join s k y number v in
        let rest = starts join s k y number walks in
        sent_append (Means join s k partitions H new h) w n first rest
        (sent_asks v.state.partition v.node v.state.prefixes a.0 (λ part one. hashed part (one_left (λ (x : Post R L). AsksOver part x.packet) first rest one)))
        (sent_starts walks a.1 (λ part one. hashed part (one_right (λ (x : Post R L). AsksOver part x.packet) first rest one)))

    -- these rows may be pushed for a round, which with what the other node holds are what the round's node had
    pub record CanPush (rd : plane.Round Place R) (part to : ℕ) (rs : List R) : Type 0 where
      pub base : HasBase join s k partitions H new h rd part (newest k.reading y.view)
      pub covers : (q : Place) (x : R) → HadThere join s k partitions H rd part q x → IsAtLeast join (at_place s join rs q) x ⊎ HoldsFor join s k partitions H new h rd to q x

    abbrev pub MayPush : Begun R → ℕ → ℕ → List R → Type 0
    MayPush (a_round rd) part to rs = CanPush rd part to rs
    MayPush a_repair part to rs = Unit {0}

    push_of : (c : Begun R) (part to : ℕ) (rs : List R) → list_all (is_spelled s) rs ≡ true → MayPush c part to rs → IsPushOf join s k partitions H new h c part (newest k.reading y.view) (map (with_its_block join s y) rs) to
    push_of (a_round rd) part to rs spelled m = record {
      base = m.base;
      covers = λ q x had. elim (m.covers q x had) [
        | inl come ↦ inl (subst (λ l. IsAtLeast join (at_place s join l q) x) (sym (rows_back join s k partitions H some joins_well laws y rs spelled)) come)
        | inr held ↦ inr held
      ];
    }
    push_of a_repair part to rs spelled m = tt

    pub sent_pushed : (part to : ℕ) (rs : List R) → list_all (is_spelled s) rs ≡ true → MayPush b part to rs → AllByRecursion (Means join s k partitions H new h) (sent_by w n (pushes_rows join s k y number part (to ∷ []) rs))
    sent_pushed part to [] spelled m = tt
    sent_pushed part to (r ∷ rs) spelled m = ((refl, record { begun = b; issued = issued; push = push_of b part to (r ∷ rs) spelled m }), tt)

  -- ---- what the walks of a node account for

  module _ (w : World R L) (p : State join s k partitions H) (g : Issued R L) (sound : IsSound (both join s k partitions H) p) (t : IsTied join s k partitions H w p g) (A C : Type 0) (clear : NoClash H) where
    -- what a node hashes for a partition is among the strings of the run
    abbrev pub MayCompare : ℕ → ℕ → Type 0
    MayCompare n part = (x : List ℕ) → Hashes s part (rows join s (w.nodes n).accepted) x → H x

    -- the rows of now
    here_hashed : (n part : ℕ) → list_all (is_spelled s) (rows_at join s (w.nodes n) part) ≡ true → MayCompare n part → AreHashed join s H (w.nodes n).accepted part
    here_hashed n part spelled may = record { proper = (t.nodes n).proper; spelled = spelled; hashed = may }

    -- the node of an open round has what it had when the round began, or it was collected
    pub own_over : (n : ℕ) (x : machine.Round) (e : (w.nodes n).round ≡ Some x) (m : IsRound join s k partitions H p g n x) (part : ℕ) → Contains (P.control.set p.control m.round.from part) m.round.node →
        (q : Place) (r : R) → HadThere join s k partitions H m.round part q r → IsAtLeast join (at_place s join (w.nodes n).accepted q) r ⊎ IsGone P p.log q r
    own_over n x e m part mine q r had = elim
        (has_still P (laws_of join s k partitions H some joins_well) p sound m.round m.is_there (open_by join s k partitions H some joins_well laws A C w p g sound t n x m e) q r
        (subst (λ i. Contains (P.control.set p.control m.round.from i) m.round.node) (sym had.0) mine) had.1) [
          | inl has ↦ inl (subst (λ o. IsAtLeast join o r) (ap (λ i. log_at P p.log i q) m.node ∙ (t.nodes n).rows q) has)
          | inr gone ↦ inr gone
        ]

    -- what a node has now it holds for a version that it knows and that gives it the partition
    pub holds_now : (rd : plane.Round Place R) (part n : ℕ) (q : Place) (r : R) → suc rd.from ≤ P.control.newest p.control n → GivesNext join s k partitions H p g rd part n → q.0 ≡ part →
        IsAtLeast join (at_place s join (w.nodes n).accepted q) r → HoldsFor join s k partitions H p g rd n q r
    holds_now rd part n q r knows given e has = inl (record {
      is_given = subst (λ i. Contains (P.control.set p.control (suc rd.from) i) n) (sym e) given;
      knows = knows;
      has = inr (subst (λ o. IsAtLeast join o r) (sym ((t.nodes n).rows q)) has);
    })

    base_at : (rd : plane.Round Place R) (part named more : ℕ) → named ≤ more → HasBase join s k partitions H p g rd part named → HasBase join s k partitions H p g rd part more
    base_at rd part named more low m = base_grows join s k partitions H p p g g (grown join s k partitions H some joins_well p g g [] sound tt (issues_self g)) rd part named more low m

    -- ---- answers to a walk of a round

    module _ (n : ℕ) (rd : plane.Round Place R) (part named table : ℕ) (prefix hash : List ℕ) (ask : IsAsk join s k partitions H p g rd part named table prefix hash n)
        (knows : named ≤ P.control.newest p.control n) (spelled : list_all (is_spelled s) (rows_at join s (w.nodes n) part) ≡ true) (may : MayCompare n part) where
      y : Node R L
      y = w.nodes n

      own : AreHashed join s H (w.nodes n).accepted part
      own = here_hashed n part spelled may

      next_known : suc rd.from ≤ P.control.newest p.control n
      next_known = let a : suc rd.from ≤ ask.base.push.newest = ask.base.next in let b : ask.base.push.newest ≤ named = ask.base.newest in omega arith

      -- where both values are one, the node has what the other has
      same_there : hash ≡ value_at digest prefix (trie join s H (w.nodes n).accepted table part) → (q : Place) (r : R) → HadThere join s k partitions H rd part q r → IsBelow join s k partitions H table prefix q →
          IsAtLeast join (at_place s join ask.contents q) r → HoldsFor join s k partitions H p g rd n q r
      same_there same q r had below over =
          let there = at_least_some join (at_place s join ask.contents q) r over in
          let a : Answer = record { table = table; own = trie join s H ask.contents table part; theirs = trie join s H (w.nodes n).accepted table part } in
          let says : SameThere digest prefix a = record {
            own_set = set_of joins_well laws H clear part table ask.contents ask.hashed;
            their_set = set_of joins_well laws H clear part table (w.nodes n).accepted own;
            values = sym ask.hash_is ∙ same;
            clear = clear_at joins_well laws H clear (inputs_at digest prefix a.own) (inputs_at digest prefix a.theirs)
                (inputs_hashed joins_well laws H clear part table ask.contents ask.hashed prefix) (inputs_hashed joins_well laws H clear part table (w.nodes n).accepted own prefix);
          } in
          let same_row : at_place s join (w.nodes n).accepted q ≡ Some there.0 = elim (told_same digest digest_length a table prefix [] [] refl says (digest q.1.1)
          ((pair_of s there.0).1, pair_at joins_well laws H clear part table ask.contents ask.hashed q there.0 had.0 below.of_table there.1) below.short below.starts) [
            | inl shows ↦ shown_same joins_well laws H clear part table ask.contents (w.nodes n).accepted ask.hashed own q there.0 had.0 below.of_table there.1 shows
            | inr rest ↦ elim rest [ inl none ↦ absurd none | inr none ↦ absurd none ]
          ] in
          holds_now rd part n q r next_known ask.given had.0 (subst (λ o. IsAtLeast join o r) (there.1 ∙ sym same_row) over)

      -- so it holds what the round's node had when the round began
      one_value : hash ≡ value_at digest prefix (trie join s H (w.nodes n).accepted table part) → IsAnswer join s k partitions H p g rd part table prefix None n
      one_value same = record {
        base = base_at rd part named (P.control.newest p.control n) knows ask.base;
        given = ask.given;
        holds = λ q r had below. elim (ask.over q r had) [ inl over ↦ same_there same q r had below over | inr gone ↦ inr gone ];
      }

      -- else it tells what it has
      other_value : IsAnswer join s k partitions H p g rd part table prefix (Some (children_here join s (w.nodes n) table part prefix)) n
      other_value = record {
        base = base_at rd part named (P.control.newest p.control n) knows ask.base;
        given = ask.given;
        contents = (w.nodes n).accepted;
        hashed = own;
        children_are = plain_back (children_at digest prefix (trie join s H (w.nodes n).accepted table part));
        holds = λ q r e has. holds_now rd part n q r next_known ask.given e has;
      }

    -- the answer that a node gives means what an answer means
    module _ (n from : ℕ) (number named part table : ℕ) (prefix : List ℕ) (hash : Hash32) (knows : named ≤ P.control.newest p.control n) (spelled : list_all (is_spelled s) (rows_at join s (w.nodes n) part) ≡ true) (may : MayCompare n part) where
      same_of_ask : (b : Begun R) → IsAskOf join s k partitions H p g b part named table prefix hash.0 n → hash.0 ≡ (value_here join s (w.nodes n) table part prefix).0 → IsAnswerOf join s k partitions H p g b part table prefix None n
      same_of_ask (a_round rd) ask same = one_value n rd part named table prefix hash.0 ask knows spelled may same
      same_of_ask a_repair ask same = tt

      differ_of_ask : (b : Begun R) → IsAskOf join s k partitions H p g b part named table prefix hash.0 n → IsAnswerOf join s k partitions H p g b part table prefix (Some (children_here join s (w.nodes n) table part prefix)) n
      differ_of_ask (a_round rd) ask = other_value n rd part named table prefix hash.0 ask knows spelled may
      differ_of_ask a_repair ask = tt

      reply_same : (tag : Tag) → MeansValue join s k partitions H p g from n tag named part table prefix hash.0 → hash.0 ≡ (value_here join s (w.nodes n) table part prefix).0 → MeansReply join s k partitions H p g n from tag table prefix None
      reply_same (ForCall request phase slot) m same = tt
      reply_same (ForRound number part') m same = subst (λ i. MeansReply join s k partitions H p g n from (ForRound number i) table prefix None) (sym m.0) (record { begun = m.1.begun; issued = m.1.issued; says = same_of_ask m.1.begun m.1.ask same })
      reply_same (ForItem number) m same = tt

      reply_differ : (tag : Tag) → MeansValue join s k partitions H p g from n tag named part table prefix hash.0 → MeansReply join s k partitions H p g n from tag table prefix (Some (children_here join s (w.nodes n) table part prefix))
      reply_differ (ForCall request phase slot) m = tt
      reply_differ (ForRound number part') m =
          subst (λ i. MeansReply join s k partitions H p g n from (ForRound number i) table prefix (Some (children_here join s (w.nodes n) table part prefix))) (sym m.0)
          (record { begun = m.1.begun; issued = m.1.issued; says = differ_of_ask m.1.begun m.1.ask })
      reply_differ (ForItem number) m = tt

      pub compared_means : (tag : Tag) → MeansValue join s k partitions H p g from n tag named part table prefix hash.0 → MeansMessage join s k partitions H p g n from (compared join s k (w.nodes n) tag part table prefix hash)
      compared_means tag m =
          elim (same_bytes hash.0 (value_here join s (w.nodes n) table part prefix).0) as (λ b. same_bytes hash.0 (value_here join s (w.nodes n) table part prefix).0 ≡ b →
          MeansMessage join s k partitions H p g n from (cond b (HasSame tag table prefix) (Differ tag table prefix (children_here join s (w.nodes n) table part prefix)))) [
            | true ↦ (λ e. reply_same tag m (same_is hash.0 (value_here join s (w.nodes n) table part prefix).0 e))
            | false ↦ (λ e. reply_differ tag m)
          ] refl

    -- ---- a walk after an answer

    module _ (n : ℕ) (x : machine.Round) (open_now : (w.nodes n).round ≡ Some x) (m : IsRound join s k partitions H p g n x) (v : Walk) (is : IsWalk join s k partitions H p g m.round v) (table : ℕ) (prefix : List ℕ)
        (spelled : list_all (is_spelled s) (rows_at join s (w.nodes n) v.state.partition) ≡ true) (may : MayCompare n v.state.partition) where
      abbrev part : ℕ
      part = v.state.partition

      own_here : AreHashed join s H (w.nodes n).accepted part
      own_here = here_hashed n part spelled may

      -- a key under the prefix of which the node has the row still is held, noted or asked for
      told_here : (q : Place) (r : R) → HadThere join s k partitions H m.round part q r → IsAtLeast join (at_place s join (w.nodes n).accepted q) r → (pairs : List (ℕ × Hash32)) → IsAnswer join s k partitions H p g m.round part table prefix (Some pairs) v.node →
          table ≡ q.1.0 → length prefix < 32 → starts_with nat_eq (digest q.1.1) prefix ≡ true →
          HoldsFor join s k partitions H p g m.round v.node q r ⊎ (Noted (noted_after join s (w.nodes n) part table prefix (Some pairs)) q.1.0 (digest q.1.1) ⊎ UnderOpen (closed table prefix (map (λ p. (table, p)) (asked_after join s (w.nodes n) part table prefix (Some pairs)))) q.1.0 (digest q.1.1))
      told_here q r had over pairs says e short under =
          let mine = (w.nodes n).accepted in
          let there = at_least_some join (at_place s join mine q) r over in
          let a : Answer = record { table = table; own = trie join s H mine table part; theirs = trie join s H says.contents table part } in
          let set = set_of joins_well laws H clear part table mine own_here in
          let differs : DiffersThere digest prefix pairs a = record {
            their_set = set_of joins_well laws H clear part table says.contents says.hashed;
            children_are = says.children_are;
            clear = λ byte low. clear_at joins_well laws H clear (inputs_at digest (prefix ++ byte ∷ []) a.own) (inputs_at digest (prefix ++ byte ∷ []) a.theirs)
                (inputs_hashed joins_well laws H clear part table mine own_here (prefix ++ byte ∷ [])) (inputs_hashed joins_well laws H clear part table says.contents says.hashed (prefix ++ byte ∷ []));
          } in
          let Asked : ℕ → Type 0 = λ i. UnderOpen (closed table prefix (map (λ p. (table, p)) (asked_after join s (w.nodes n) part table prefix (Some pairs)))) i (digest q.1.1) in
          let Kept : ℕ → Type 0 = λ i. Noted (noted_after join s (w.nodes n) part table prefix (Some pairs)) i (digest q.1.1) in
          elim (told_differ digest digest_length a table prefix pairs refl set differs (digest q.1.1) ((pair_of s there.0).1, pair_at joins_well laws H clear part table mine own_here q there.0 had.0 (sym e) there.1) short under) [
            | inl shows ↦
                let same_row = shown_same joins_well laws H clear part table mine says.contents own_here says.hashed q there.0 had.0 (sym e) there.1 shows in
                inl (says.holds q r had.0 (subst (λ o. IsAtLeast join o r) (there.1 ∙ sym same_row) over))
            | inr rest ↦ elim rest [ inl noted ↦ inr (inl (subst Kept e noted)) | inr asked ↦ inr (inr (subst Asked e asked)) ]
          ]

      -- a key under the prefix is held or collected, noted or asked for
      told : (q : Place) (r : R) → HadThere join s k partitions H m.round part q r → (answer : Option (List (ℕ × Hash32))) → IsAnswer join s k partitions H p g m.round part table prefix answer v.node →
          table ≡ q.1.0 → length prefix < 32 → starts_with nat_eq (digest q.1.1) prefix ≡ true →
          HoldsFor join s k partitions H p g m.round v.node q r ⊎ (Noted (noted_after join s (w.nodes n) part table prefix answer) q.1.0 (digest q.1.1) ⊎ UnderOpen (closed table prefix (map (λ p. (table, p)) (asked_after join s (w.nodes n) part table prefix answer))) q.1.0 (digest q.1.1))
      told q r had None says e short under = inl (says.holds q r had (record { of_table = sym e; short = short; starts = under }))
      told q r had (Some pairs) says e short under = elim (own_over n x open_now m part is.base.mine q r had) [
        | inl over ↦ told_here q r had over pairs says e short under
        | inr gone ↦ inl (inr gone)
      ]

      -- the walk goes on to account for each key
      pub walk_goes : (answer : Option (List (ℕ × Hash32))) → IsAnswer join s k partitions H p g m.round part table prefix answer v.node → IsWalk join s k partitions H p g m.round (walk_after join s (w.nodes n) v table prefix answer)
      walk_goes answer says = record {
        base = is.base;
        given = is.given;
        covers = λ q r had. accounted (HoldsFor join s k partitions H p g m.round v.node q r) v.state table prefix (asked_after join s (w.nodes n) part table prefix answer) (noted_after join s (w.nodes n) part table prefix answer) q.1.0 (digest q.1.1)
            (told q r had answer says) (is.covers q r had);
      }
