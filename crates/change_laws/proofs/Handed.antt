-- All rounds begin and complete, and what their nodes had is handed on.
use Rattle.std.specs.Prelude.{◌≡◌, ◌≢◌, ◌≤◌, ℕ, suc, Bool, true, false, cond, IsTrue, Some, None, List, [], ◌∷◌, ◌++◌, refl}
use Rattle.std.specs.List.{AllByRecursion}
use Rattle.std.proofs.Common.{ap, sym, subst, ◌∙◌, inl, inr}
use Rattle.std.proofs.lemmas.Bool.{cond-false, false≢true}
use Rattle.std.proofs.lemmas.List.{append-nil}
use Rattle.crdt_core.proofs.Each.{all_append, all_weaker}
use Rattle.crdt_core.specs.Laws.{JoinLaws}
use Rattle.crdt_core.specs.Members.{OneOf}
use Rattle.layout_roles.specs.declared.role.Role.{Role}
use Rattle.table_schema.specs.Words.{Words, partition_of}
use Rattle.table_schema.specs.Laws.{Laws}
use Rattle.table_model.specs.Rows.{rows}
use Rattle.quorum_model.specs.Quorum.{is_among}
use Rattle.cluster_machine.specs.declared.step.Step.TheVariants.{Sync as Syncs}
use Rattle.cluster_machine.specs.declared.step.Action.TheVariants.{Sync as GoOn}
use Rattle.cluster_machine.specs.declared.step.Refusal.TheVariants.{NotMember}
use Rattle.cluster_machine.specs.Hashes.{AsksOver, Hashes, NoClash, StepHashes, RunHashes}
use Rattle.cluster_machine.specs.Layouts.{Layouts, set_of, has_none}
use Rattle.cluster_machine.specs.Node.{Node, Did, quiet}
use Rattle.cluster_machine.specs.Acts.{Acted, acts}
use Rattle.cluster_machine.specs.Phases.{is_spelled}
use Rattle.cluster_machine.specs.Rounds.{walk_at}
use Rattle.cluster_machine.specs.World.{Sent, World, clock}
use Rattle.cluster_machine.specs.Step.{Choice, Effects, told, refusal, sent_by, did}
use Rattle.cluster_machine.specs.Run.{IsLayout, Move, does, next, run}
use Rattle.drained_laws.specs.Waiting.{SomeOf, waiting}
use Rattle.drained_laws.specs.Calm.{IsMember}
use Rattle.drained_laws.specs.Accounts.{Carries}
use Rattle.drained_laws.proofs.Waits.{some_left}
use Rattle.drained_laws.proofs.Views.{all_among, among_here, among_there}
use Rattle.drained_laws.proofs.Deliveries.{one_changes}
use Rattle.change_model.specs.Steps.{each}
use Rattle.change_laws.specs.Script.{AreApart, after_each, Drains}
use Rattle.change_laws.specs.Rounds.{walks_in, IsGoing, AreRounds}
use Rattle.change_laws.specs.Handing.{IsQuiet, AllKept, HasGood, Has, StoresIt, Means, IsSought, AreHanded}
use Rattle.change_laws.proofs.Answering.{rounds_heard, no_walk}
use Rattle.change_laws.proofs.Begun.{sought_first, posts_mean}
use Rattle.change_laws.proofs.Clear.{IsClear, hashes_first, hashes_then, known_so}
use Rattle.change_laws.proofs.Found.{goes_same, goes_walks}
use Rattle.change_laws.proofs.Handing.{packet_rows}
use Rattle.change_laws.proofs.Meaning.{keeps_all, means_more, takes_same}
use Rattle.change_laws.proofs.Moving.{Kept, with_one, sends_at, deliveries_known}
use Rattle.change_laws.proofs.Raising.{local_keeps, some_known}
use Rattle.change_laws.proofs.Spreading.{same_nodes}
use Rattle.change_laws.proofs.Starting.{IsReady, sync_so, round_with, begun_with}
use Rattle.change_laws.proofs.Syncing.{number, with_this, with_these, AreBeginning, one_begins, one_more, one_less, rounds_fewer, begins_none}

module _ {R : Type 0} {join : R → R → R} (joins : JoinLaws join) {s : Words R} (laws : Laws join s) (quiet_rows : IsQuiet s) (good : R → Type 0) (good_proper : (r : R) → good r → IsTrue (s.is_proper r))
    (one : (a b : R) → good a → good b → s.table a ≡ s.table b → s.key a ≡ s.key b → a ≡ b) (spelled : (r : R) → good r → is_spelled s r ≡ true) (H kept : List ℕ → Type 0)
    {L : Type 0} (k : Layouts L) (l new : L) (later : k.reading.version new ≡ suc (k.reading.version l)) (real : 1 ≤ k.reading.version l) (layout : IsLayout k 256 l) (layout_new : IsLayout k 256 new)
    (part : List ℕ) (members : (n : ℕ) → IsMember k l n → IsTrue (is_among n part)) (members_new : (n : ℕ) → IsMember k new n → IsTrue (is_among n part))
    (A C : Type 0) (trio : L) (trio_roles : List Role → List Role) (versions : ℕ) (choice : Choice L A C) (was : ℕ → Node R L) (ready : (n : ℕ) → IsTrue (is_among n part) → IsReady laws k l new later real layout layout_new part members members_new (was n)) where
  -- node m is owed the row by a node that has begun its round
  pub record Owes (begun : ℕ → Type 0) (r : R) (m : ℕ) : Type 0 where
    pub by : ℕ
    pub has_begun : begun by
    pub other : by ≢ m
    pub of_old : IsTrue (is_among by (set_of k l (partition_of s r)))
    pub of_new : IsTrue (is_among m (set_of k new (partition_of s r)))
    pub is_good : good r
    pub there : Has join s good r (was by)

  abbrev Handed : (ℕ → Type 0) → (ℕ → Node R L) → List (Sent R L) → Type 0
  Handed begun nodes ws = AreHanded join s good H kept part was begun (Owes begun) nodes ws

  abbrev Beginning : List ℕ → (ℕ → Type 0) → (ℕ → Node R L) → List (Sent R L) → Type 0
  Beginning left begun nodes ws = AreBeginning laws k l new later real layout layout_new part members members_new A C trio trio_roles versions choice was ready left begun nodes ws

  abbrev AreBegun : List ℕ → (ℕ → Type 0) → (ℕ → Node R L) → List (Sent R L) → Type 0
  AreBegun left begun nodes ws = Beginning left begun nodes ws × Handed begun nodes ws

  abbrev this_one : ℕ → (ℕ → Type 0) → ℕ → Type 0
  this_one n begun = with_this laws k l new later real layout layout_new part members members_new A C trio trio_roles versions choice was ready n begun

  abbrev these_ones : List ℕ → (ℕ → Type 0) → ℕ → Type 0
  these_ones ns begun = with_these laws k l new later real layout layout_new part members members_new A C trio trio_roles versions choice was ready ns begun

  owes_as : (begun more : ℕ → Type 0) → ((j : ℕ) → begun j → more j) → (r : R) (m : ℕ) → Owes begun r m → Owes more r m
  owes_as begun more f r m o = record { by = o.by; has_begun = f o.by o.has_begun; other = o.other; of_old = o.of_old; of_new = o.of_new; is_good = o.is_good; there = o.there }

  sought_as : (begun more : ℕ → Type 0) → ((j : ℕ) → begun j → more j) → (nodes : ℕ → Node R L) (r : R) (m : ℕ) → IsSought join s good H kept was nodes begun r m → IsSought join s good H kept was nodes more r m
  sought_as begun more f nodes r m h = record { by = h.by; began = f h.by h.began; good_one = h.good_one; there = h.there; walk = h.walk; is_open = h.is_open; sought = h.sought }

  -- where the same are said to have begun
  handed_as : (begun more : ℕ → Type 0) → ((j : ℕ) → begun j → more j) → ((j : ℕ) → more j → begun j) → (nodes : ℕ → Node R L) (ws : List (Sent R L)) → Handed begun nodes ws → Handed more nodes ws
  handed_as begun more f g nodes ws h = record {
    rows = h.rows;
    stays = h.stays;
    items = h.items;
    blocks = h.blocks;
    owed = λ clear r m o. elim (h.owed clear r m (owes_as more begun g r m o)) [ inl there ↦ inl there | inr (inl waits) ↦ inr (inl waits) | inr (inr sought) ↦ inr (inr (sought_as begun more f nodes r m sought)) ];
    messages = h.messages;
  }

  abbrev Hashed : World R L → List (Move R L A C) → List ℕ → Type 0
  Hashed w ms y = RunHashes s join k trio trio_roles w ms y

  module _ (n : ℕ) (left : List ℕ) (begun : ℕ → Type 0) (here : IsTrue (is_among n part)) (apart : is_among n left ≡ false) (fresh : (j : ℕ) → begun j → IsTrue (is_among j (n ∷ left)) → ⊥) (w : World R L) (is : Kept (AreBegun (n ∷ left) begun) versions w)
      (hashed : (y : List ℕ) → StepHashes s join k trio trio_roles w (record { step = Syncs n; choice = choice }) y → H y) where
    abbrev x : Node R L
    x = w.nodes n

    same : x ≡ was n
    same = is.holds.0.1 n (among_here n left)

    is_ready : IsReady laws k l new later real layout layout_new part members members_new x
    is_ready = subst (IsReady laws k l new later real layout layout_new part members members_new) (sym same) (ready n here)

    abbrev more : ℕ → Type 0
    more = this_one n begun

    known : has_none k x.view ≡ false
    known = some_known k l new later x.view is_ready.layouts

    abbrev d : Bool → Did R L
    d b = cond b (begun_with laws k l new later real layout layout_new part members members_new n x is_ready (k.reading.version l) (Some l) (Some new)) (quiet x)

    -- what the step sends
    sends_so : (does {A = A} {C = C} join s k trio trio_roles w (record { step = Syncs n; choice = choice })).sends ≡ sent_by w n (d (is_among n (k.storage l))).posts
    sends_so =
        let acted : Acted R L = acts join s k n (clock w n) x GoOn in
        let e : Effects R L A C = record (did w n acted.did) { words = told acted.how } in
        ap (λ (f : Effects R L A C). f.sends) (cond-false (has_none k x.view) (refusal w NotMember) e known)
        ∙ ap (λ (f : Did R L). sent_by w n f.posts) (sync_so laws k l new later real layout layout_new part members members_new n x is_ready (clock w n))

    asked_hashed : (b : Bool) → is_among n (k.storage l) ≡ b → (q : ℕ) → OneOf (λ (y : Sent R L). (y.from ≡ n) × AsksOver q y.packet) (sends_at w.time n (d b).posts) → (y : List ℕ) → Hashes s q (rows join s x.accepted) y → H y
    asked_hashed b e q asks y h =
        hashed y (n, (q, (inr (subst (OneOf (λ (y : Sent R L). (y.from ≡ n) × AsksOver q y.packet)) (sym (sends_so ∙ ap (λ c. sent_by w n (d c).posts) e)) asks), h)))

    abbrev BringsIt : R → ℕ → Sent R L → Type 0
    BringsIt r m y = (y.to ≡ m) × Carries (StoresIt join s good r) y.packet

    by_test : (b : Bool) → is_among n (k.storage l) ≡ b → Handed more (with_one n (d b).node w.nodes) (waiting w ++ sends_at w.time n (d b).posts)
    by_test true e =
        let sends = sends_at w.time n (d true).posts in
        let has = is.holds.1.rows n here in
        let y = (d true).node in
        let round = round_with laws k l new later real layout layout_new part members members_new n x is_ready (k.reading.version l) (Some l) (Some new) in
        let start : Node R L = record x { rounds = suc x.rounds; lasting = None } in
        let g = goes_same join s k n start round in
        let t = takes_same join s good H kept k part was n x y (is.holds.1.rows n) (record { accepted = g.accepted; items = g.items; blocks = g.blocks }) in
        let keep = keeps_all join s good H kept k part was w.nodes n y t in
        record {
          rows = one_changes (λ m z. IsTrue (is_among m part) → HasGood join s good z.accepted) n y w.nodes t.has (λ m a. is.holds.1.rows m);
          stays = λ m h r there. keep r m (is.holds.1.stays m h r there);
          items = one_changes (λ m z. z.items ≡ (was m).items) n y w.nodes (t.items ∙ is.holds.1.items n) (λ m a. is.holds.1.items m);
          blocks = one_changes (λ m z. AllKept kept z.blocks) n y w.nodes (t.blocks (is.holds.1.blocks n)) (λ m a. is.holds.1.blocks m);
          owed = λ clear r m o. elim o.has_begun [
            | inl old ↦ (elim (is.holds.1.owed clear r m (record { by = o.by; has_begun = old; other = o.other; of_old = o.of_old; of_new = o.of_new; is_good = o.is_good; there = o.there })) [
              | inl there ↦ inl (keep r m there)
              | inr (inl waits) ↦ inr (inl (some_left (BringsIt r m) (waiting w) sends waits))
              | inr (inr sought) ↦ inr (inr (still_sought y r m sought))
            ])
            | inr now ↦
                (let by_n : n ≡ o.by = now.0 in
                let v = sought_first laws good good_proper k l new later real layout layout_new part members members_new n x is_ready has r o.is_good (subst (Has join s good r) (sym same) (subst (λ j. Has join s good r (was j)) (sym by_n) o.there))
                (subst (λ j. IsTrue (is_among j (set_of k l (partition_of s r)))) (sym by_n) o.of_old) m (λ f. o.other (sym by_n ∙ sym f)) o.of_new in
                inr (inr (record {
                  by = n;
                  began = inr (refl, e);
                  good_one = o.is_good;
                  there = subst (λ j. Has join s good r (was j)) (sym by_n) o.there;
                  walk = v.0;
                  is_open = one_changes (λ j z. j ≡ n → walk_at (partition_of s r) m (walks_in z.round z.lasting) ≡ Some v.0) n y w.nodes (λ f. ap (walk_at (partition_of s r) m) (goes_walks join s k n start round) ∙ v.1.0) (λ j a f. absurd (a f)) n refl;
                  sought = v.1.1;
                })))
          ];
          messages = all_append (Means join s good H kept was (with_one n y w.nodes)) (waiting w) sends
              (all_weaker (Means join s good H kept was w.nodes) (Means join s good H kept was (with_one n y w.nodes)) (means_more join s good H kept k part was w.nodes (with_one n y w.nodes) keep) (waiting w) is.holds.1.messages)
              (posts_mean laws good good_proper k l new later real layout layout_new part members members_new n x is_ready has H kept was (with_one n y w.nodes) (suc x.rounds) w.time (λ r there. subst (Has join s good r) (sym same) there) (asked_hashed true e));
        }
      where
        still_sought : (y : Node R L) (r : R) (m : ℕ) → IsSought join s good H kept was w.nodes begun r m → IsSought join s good H kept was (with_one n y w.nodes) more r m
        still_sought y r m h = record {
          by = h.by;
          began = inl h.began;
          good_one = h.good_one;
          there = h.there;
          walk = h.walk;
          is_open = one_changes (λ j z. j ≡ h.by → walk_at (partition_of s r) m (walks_in z.round z.lasting) ≡ Some h.walk) n y w.nodes
              (λ f. absurd (fresh h.by h.began (subst (λ j. IsTrue (is_among j (n ∷ left))) f (among_here n left))))
              (λ j a f. subst (λ i. walk_at (partition_of s r) m (walks_in (w.nodes i).round (w.nodes i).lasting) ≡ Some h.walk) (sym f) h.is_open) h.by refl;
          sought = h.sought;
        }
    by_test false e =
        subst (λ (ns : ℕ → Node R L). Handed more ns (waiting w ++ [])) (sym (same_nodes n w.nodes))
        (subst (Handed more w.nodes) (sym (append-nil (waiting w)))
        (record {
          rows = is.holds.1.rows;
          stays = is.holds.1.stays;
          items = is.holds.1.items;
          blocks = is.holds.1.blocks;
          owed = λ clear r m o. elim o.has_begun [
            | inl old ↦ (elim (is.holds.1.owed clear r m (record { by = o.by; has_begun = old; other = o.other; of_old = o.of_old; of_new = o.of_new; is_good = o.is_good; there = o.there })) [
              | inl there ↦ inl there
              | inr (inl waits) ↦ inr (inl waits)
              | inr (inr sought) ↦ inr (inr (sought_as begun more (λ j h. inl h) w.nodes r m sought))
            ])
            | inr now ↦ absurd (false≢true (sym e ∙ subst (λ j. IsTrue (is_among j (k.storage l))) (sym now.0) now.1))
          ];
          messages = is.holds.1.messages;
        }))

    pub one_hands : Kept (AreBegun left more) versions (next join s k trio trio_roles w (record { step = Syncs n; choice = choice }))
    one_hands =
        let first = one_begins laws k l new later real layout layout_new part members members_new A C trio trio_roles versions choice was ready n left begun here apart w (record { marked = is.marked; applied = is.applied; holds = is.holds.0 }) in
        let second = local_keeps A C join s k trio trio_roles versions (AreBegun (n ∷ left) begun) (Handed more) w n GoOn is known
        (subst (λ (f : Did R L). Handed more (with_one n f.node w.nodes) (waiting w ++ sends_at w.time n f.posts)) (sym (sync_so laws k l new later real layout layout_new part members members_new n x is_ready (clock w n))) (by_test (is_among n (k.storage l)) refl)) in
        record { marked = first.marked; applied = first.applied; holds = (first.holds, second.holds) }

  abbrev as_more : (n : ℕ) (ns : List ℕ) (begun : ℕ → Type 0) (j : ℕ) → these_ones (n ∷ ns) begun j → these_ones ns (this_one n begun) j
  as_more n ns begun = one_more laws k l new later real layout layout_new part members members_new A C trio trio_roles versions choice was ready n ns begun

  abbrev as_less : (n : ℕ) (ns : List ℕ) (begun : ℕ → Type 0) (j : ℕ) → these_ones ns (this_one n begun) j → these_ones (n ∷ ns) begun j
  as_less n ns begun = one_less laws k l new later real layout layout_new part members members_new A C trio trio_roles versions choice was ready n ns begun

  abbrev N : ℕ → ℕ
  N = number laws k l new later real layout layout_new part members members_new A C trio trio_roles versions choice was ready

  fewer_so : (begun more : ℕ → Type 0) → ((j : ℕ) → begun j → more j) → ((j : ℕ) → more j → begun j) → (nodes : ℕ → Node R L) (ws : List (Sent R L)) → AreRounds join s k l new part N begun was nodes ws → AreRounds join s k l new part N more was nodes ws
  fewer_so begun more f g nodes ws h = rounds_fewer laws k l new later real layout layout_new part members members_new A C trio trio_roles versions choice was ready begun more f g nodes ws h

  all_hand : (ns : List ℕ) → AllByRecursion (λ n. IsTrue (is_among n part)) ns → AreApart ns → (begun : ℕ → Type 0) → ((j : ℕ) → begun j → IsTrue (is_among j ns) → ⊥) → (w : World R L) → Kept (AreBegun ns begun) versions w → ((y : List ℕ) → Hashed w (each choice Syncs ns) y → H y) →
      Kept (AreBegun [] (these_ones ns begun)) versions (run join s k trio trio_roles w (each choice Syncs ns))
  all_hand [] all apart begun fresh w is hashed =
      let f : (j : ℕ) → begun j → these_ones [] begun j = λ j h. inl h in
      let g : (j : ℕ) → these_ones [] begun j → begun j = λ j h. elim h [ inl old ↦ old | inr never ↦ cc ] in
      record {
        marked = is.marked;
        applied = is.applied;
        holds = ((fewer_so begun (these_ones [] begun) f g w.nodes (waiting w) is.holds.0.0, is.holds.0.1), handed_as begun (these_ones [] begun) f g w.nodes (waiting w) is.holds.1);
      }
  all_hand (n ∷ ns) all apart begun fresh w is hashed =
      let after = next join s k trio trio_roles w (record { step = Syncs n; choice = choice }) in
      let rest = all_hand ns all.1 apart.1 (this_one n begun) (λ j h e. elim h [
        | inl old ↦ fresh j old (among_there j n ns e)
        | inr now ↦ false≢true (sym apart.0 ∙ subst (λ z. IsTrue (is_among z ns)) (sym now.0) e)
      ]) after (one_hands n ns begun all.0 apart.0 fresh w is (λ y h. hashed y (inl h))) (λ y h. hashed y (inr h)) in
      record {
        marked = rest.marked;
        applied = rest.applied;
        holds = (
          (fewer_so (these_ones ns (this_one n begun)) (these_ones (n ∷ ns) begun) (as_less n ns begun) (as_more n ns begun) _ _ rest.holds.0.0, rest.holds.0.1),
          handed_as (these_ones ns (this_one n begun)) (these_ones (n ∷ ns) begun) (as_less n ns begun) (as_more n ns begun) _ _ rest.holds.1,
        );
      }

  -- what a round hands on: each node that takes part has those rows alone, outboxes are as they were, and if no digests clash each row of a
  -- storage node is at each other node of its newer set
  pub record AreOver (nodes : ℕ → Node R L) : Type 0 where
    pub rows : (n : ℕ) → IsTrue (is_among n part) → HasGood join s good (nodes n).accepted
    pub stays : (n : ℕ) → IsTrue (is_among n part) → (r : R) → Has join s good r (was n) → Has join s good r (nodes n)
    pub items : (n : ℕ) → (nodes n).items ≡ (was n).items
    pub blocks : (n : ℕ) → AllKept kept (nodes n).blocks
    pub handed : NoClash H → (r : R) (m : ℕ) → Owes (λ j. IsTrue (is_among j part) × IsTrue (is_among j (k.storage l))) r m → Has join s good r (nodes m)

  pub rounds_hand_on : AreApart part → ((n : ℕ) → IsTrue (is_among n part) → HasGood join s good (was n).accepted) → ((n : ℕ) → AllKept kept (was n).blocks) → (w v : World R L) → Kept (λ nodes ws. (nodes ≡ was) × (ws ≡ [])) versions w →
      (drains : Drains A C join s k trio trio_roles (after_each A C join s k trio trio_roles choice Syncs part w) v) → ((y : List ℕ) → Hashed w (each choice Syncs part ++ drains.deliveries) y → H y) → AreOver v.nodes
  rounds_hand_on apart had keeps w v is drains hashed =
      let begun : ℕ → Type 0 = these_ones part (λ j. ⊥) in
      let last : World R L = run {A = A} {C = C} join s k trio trio_roles (after_each A C join s k trio trio_roles choice Syncs part w) drains.deliveries in
      let first = begins_none laws k l new later real layout layout_new part members members_new A C trio trio_roles versions choice was ready w is in
      let start : Kept (AreBegun part (λ j. ⊥)) versions w = record { marked = is.marked; applied = is.applied; holds = (first.holds, rows_none) } in
      let began = all_hand part (all_among part) apart (λ j. ⊥) (λ j never e. never) w start (λ y h. hashed y (hashes_first A C join s k trio trio_roles w (each choice Syncs part) drains.deliveries y h)) in
      let end = deliveries_known A C join s k trio trio_roles versions (IsClear A C join s k trio trio_roles H)
      (λ nodes ws. AreRounds join s k l new part N begun was nodes ws × Handed begun nodes ws)
      (λ nodes before x after now moment both clear_here. (
        rounds_heard laws k l new later part N begun was nodes before x after now moment both.0,
        packet_rows joins laws quiet_rows good good_proper one spelled H kept k l new later part N begun was (Owes begun) nodes before after x.from x.to x.moment now moment x.packet both clear_here,
      ))
      _ drains.deliveries drains.fresh_ones (known_so A C join s k trio trio_roles H _ drains.deliveries (λ y h. hashed y (hashes_then A C join s k trio trio_roles w (each choice Syncs part) drains.deliveries y h)))
      (record { marked = began.marked; applied = began.applied; holds = (began.holds.0.0, began.holds.1) }) in
      subst (λ (u : World R L). AreOver u.nodes) (sym drains.leads)
      (record {
        rows = end.holds.1.rows;
        stays = end.holds.1.stays;
        items = end.holds.1.items;
        blocks = end.holds.1.blocks;
        handed = λ clear r m o. elim (end.holds.1.owed clear r m (record { by = o.by; has_begun = inr o.has_begun; other = o.other; of_old = o.of_old; of_new = o.of_new; is_good = o.is_good; there = o.there })) [
          | inl there ↦ there
          | inr (inl waits) ↦ absurd (subst (SomeOf (λ (y : Sent R L). (y.to ≡ m) × Carries (StoresIt join s good r) y.packet)) drains.none waits)
          | inr (inr sought) ↦
              absurd (no_walk laws k l new later part N begun sought.by (last.nodes sought.by) (subst (λ ws. IsGoing join s k l new part ws sought.by (N sought.by) (last.nodes sought.by)) drains.none (end.holds.0.going sought.by sought.began)) (partition_of s r) m sought.walk sought.is_open)
        ];
      })
    where
      nodes_at : (n : ℕ) → w.nodes n ≡ was n
      nodes_at n = ap (λ f. f n) is.holds.0

      rows_none : Handed (λ j. ⊥) w.nodes (waiting w)
      rows_none = record {
        rows = λ n h. subst (λ (z : Node R L). HasGood join s good z.accepted) (sym (nodes_at n)) (had n h);
        stays = λ n h r there. subst (λ (z : Node R L). Has join s good r z) (sym (nodes_at n)) there;
        items = λ n. ap (λ (z : Node R L). z.items) (nodes_at n);
        blocks = λ n. subst (λ (z : Node R L). AllKept kept z.blocks) (sym (nodes_at n)) (keeps n);
        owed = λ clear r m o. absurd o.has_begun;
        messages = subst (AllByRecursion (Means join s good H kept was w.nodes)) (sym is.holds.1) tt;
      }
