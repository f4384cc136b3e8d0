-- All storage nodes of the older version begin their rounds, and all rounds complete.
use Rattle.std.specs.Prelude.{◌≡◌, ◌≤◌, ◌⊎◌, ℕ, suc, Bool, true, false, cond, IsTrue, Some, None, List, [], ◌∷◌, ◌++◌, refl}
use Rattle.std.specs.List.{AllByRecursion}
use Rattle.std.proofs.Common.{ap, sym, subst, ◌∙◌, inl, inr, arith}
use Rattle.std.proofs.lemmas.Bool.{false≢true}
use Rattle.std.proofs.lemmas.List.{append-nil}
use Rattle.crdt_core.proofs.Each.{all_append, all_weaker}
use Rattle.layout_roles.specs.declared.role.Role.{Role}
use Rattle.layout_trackers.specs.declared.which.Which.{Which}
use Rattle.layout_trackers.specs.declared.which.Which.TheVariants.{Ack, Sync, SyncAck}
use Rattle.table_schema.specs.Words.{Words}
use Rattle.table_schema.specs.Laws.{Laws}
use Rattle.control_model.specs.Facts.{entry_of}
use Rattle.quorum_model.specs.Quorum.{is_among}
use Rattle.wire_messages.specs.declared.message.Message.{Message}
use Rattle.wire_messages.specs.declared.message.Message.TheVariants.{Store, Stored, Walk as AsksValue, Same, Differ}
use Rattle.cluster_machine.specs.declared.step.Step.TheVariants.{Sync as Syncs}
use Rattle.cluster_machine.specs.declared.step.Action.TheVariants.{Sync as GoOn}
use Rattle.cluster_machine.specs.Layouts.{Layouts}
use Rattle.cluster_machine.specs.Node.{Node, Packet, says, shows, Did, quiet}
use Rattle.cluster_machine.specs.World.{Sent, World, clock}
use Rattle.cluster_machine.specs.Step.{Choice}
use Rattle.cluster_machine.specs.Run.{IsLayout, next, run}
use Rattle.drained_laws.specs.Waiting.{waiting}
use Rattle.drained_laws.specs.Calm.{IsMember}
use Rattle.drained_laws.specs.Accounts.{Carries, IsOnWay}
use Rattle.drained_laws.proofs.Waits.{some_left}
use Rattle.drained_laws.proofs.Views.{among_here, among_there}
use Rattle.drained_laws.proofs.Deliveries.{one_changes}
use Rattle.change_model.specs.Steps.{each}
use Rattle.change_laws.specs.Script.{AreApart, after_each, Drains}
use Rattle.change_laws.specs.Resting.{AreUpTo}
use Rattle.change_laws.specs.Rounds.{tops, IsOnWalk, IsRoundOf, IsGoing, IsRoundMessage, IsOfRounds, IsRounding, AreRounds}
use Rattle.change_laws.proofs.Moving.{Kept, with_one, sends_at, deliveries_keep}
use Rattle.change_laws.proofs.Raising.{local_keeps, some_known}
use Rattle.change_laws.proofs.Rounding.{going_stays}
use Rattle.change_laws.proofs.Answering.{rounds_heard, none_open}
use Rattle.change_laws.proofs.Spread.{among_parts}
use Rattle.change_laws.proofs.Starting.{IsReady, storage_member, sync_so, begun_with, begun_fine}

module _ {R : Type 0} (join : R → R → R) (s : Words R) {L : Type 0} (k : Layouts L) (l new : L) (part : List ℕ) (number : ℕ → ℕ) (begun more : ℕ → Type 0) (f : (n : ℕ) → begun n → more n) where
  -- where more have begun messages mean the same
  message_more : (from to : ℕ) (m : Message R) → IsRoundMessage join s k l new part number begun from to m → IsRoundMessage join s k l new part number more from to m
  message_more from to (Store tag named p rows) h = h
  message_more from to (Stored tag) h = h
  message_more from to (AsksValue tag named p table prefix hash) h = (h.0, h.1, h.2, f from h.3)
  message_more from to (Same tag table prefix) h = (h.0, f to h.1)
  message_more from to (Differ tag table prefix pairs) h = (h.0, f to h.1)
  message_more from to _ h = elim h [ ]

  packet_more : (from to : ℕ) (p : Packet R L) → Carries (IsRoundMessage join s k l new part number begun from to) p → Carries (IsRoundMessage join s k l new part number more from to) p
  packet_more from to (says m) h = message_more from to m h
  packet_more from to (shows v) h = h

  pub messages_more : (ws : List (Sent R L)) → AllByRecursion (λ (x : Sent R L). IsOfRounds join s k l new part number begun x) ws → AllByRecursion (λ (x : Sent R L). IsOfRounds join s k l new part number more x) ws
  messages_more ws h = all_weaker (λ (x : Sent R L). IsOfRounds join s k l new part number begun x) (λ (x : Sent R L). IsOfRounds join s k l new part number more x) (λ x i. (i.0, i.1, packet_more x.from x.to x.packet i.2)) ws h

  inside_more : (n : ℕ) (x : Node R L) → IsRounding join s k l new part number begun n x → IsRounding join s k l new part number more n x
  inside_more n x h = record { layouts = h.layouts; entries = h.entries; calls = h.calls; proper = h.proper; idle = elim h.idle [ inl none ↦ inl none | inr b ↦ inr (f n b) ] }

module _ {R : Type 0} {join : R → R → R} {s : Words R} (laws : Laws join s) {L : Type 0} (k : Layouts L) (l new : L) (later : k.reading.version new ≡ suc (k.reading.version l)) (real : 1 ≤ k.reading.version l) (layout : IsLayout k 256 l) (layout_new : IsLayout k 256 new)
    (part : List ℕ) (members : (n : ℕ) → IsMember k l n → IsTrue (is_among n part)) (members_new : (n : ℕ) → IsMember k new n → IsTrue (is_among n part))
    (A C : Type 0) (trio : L) (trio_roles : List Role → List Role) (versions : ℕ) (choice : Choice L A C) (was : ℕ → Node R L) (ready : (n : ℕ) → IsTrue (is_among n part) → IsReady laws k l new later real layout layout_new part members members_new (was n)) where
  abbrev i : ℕ
  i = suc (k.reading.version l)

  -- the number of a node's round
  abbrev pub number : ℕ → ℕ
  number n = suc (was n).rounds

  abbrev pub Rounds : (ℕ → Type 0) → (ℕ → Node R L) → List (Sent R L) → Type 0
  Rounds begun nodes ws = AreRounds join s k l new part number begun was nodes ws

  -- some have begun, and these are as they were
  abbrev pub AreBeginning : List ℕ → (ℕ → Type 0) → (ℕ → Node R L) → List (Sent R L) → Type 0
  AreBeginning left begun nodes ws = Rounds begun nodes ws × ((n : ℕ) → IsTrue (is_among n left) → nodes n ≡ was n)

  -- with this one
  abbrev pub with_this : ℕ → (ℕ → Type 0) → ℕ → Type 0
  with_this n begun j = begun j ⊎ ((n ≡ j) × IsTrue (is_among j (k.storage l)))

  pub one_begins : (n : ℕ) (left : List ℕ) (begun : ℕ → Type 0) → IsTrue (is_among n part) → is_among n left ≡ false → (w : World R L) → Kept (AreBeginning (n ∷ left) begun) versions w →
      Kept (AreBeginning left (with_this n begun)) versions (next join s k trio trio_roles w (record { step = Syncs n; choice = choice }))
  one_begins n left begun here apart w is =
      let x = w.nodes n in
      let same : x ≡ was n = is.holds.1 n (among_here n left) in
      let is_ready = subst (IsReady laws k l new later real layout layout_new part members members_new) (sym same) (ready n here) in
      let Q : (ℕ → Node R L) → List (Sent R L) → Type 0 = AreBeginning left (with_this n begun) in
      local_keeps A C join s k trio trio_roles versions (AreBeginning (n ∷ left) begun) Q w n GoOn is (some_known k l new later x.view is_ready.layouts)
      (subst (λ (d : Did R L). Q (with_one n d.node w.nodes) (waiting w ++ sends_at w.time n d.posts)) (sym (sync_so laws k l new later real layout layout_new part members members_new n x is_ready (clock w n))) (by_test is_ready (is_among n (k.storage l)) refl))
    where
      rest_so : (y : Node R L) (m : ℕ) → IsTrue (is_among m left) → with_one n y w.nodes m ≡ was m
      rest_so y m e = one_changes (λ j z. IsTrue (is_among j left) → z ≡ was j) n y w.nodes (λ h. absurd (false≢true (sym apart ∙ h))) (λ j d h. is.holds.1 j (among_there j n left h)) m e

      old : (j : ℕ) → begun j → with_this n begun j
      old j h = inl h

      by_test : (is_ready : IsReady laws k l new later real layout layout_new part members members_new (w.nodes n)) (b : Bool) → is_among n (k.storage l) ≡ b →
          (let d = cond b (begun_with laws k l new later real layout layout_new part members members_new n (w.nodes n) is_ready (k.reading.version l) (Some l) (Some new)) (quiet (w.nodes n)) in
          AreBeginning left (with_this n begun) (with_one n d.node w.nodes) (waiting w ++ sends_at w.time n d.posts))
      by_test is_ready true e =
          let x = w.nodes n in
          let d = begun_with laws k l new later real layout layout_new part members members_new n x is_ready (k.reading.version l) (Some l) (Some new) in
          let sends = sends_at w.time n d.posts in
          let all = waiting w ++ sends in
          let so : number n ≡ suc x.rounds = ap (λ (z : Node R L). suc z.rounds) (sym (is.holds.1 n (among_here n left))) in
          let fine = begun_fine laws k l new later real layout layout_new part members members_new n x is_ready number (with_this n begun) so (inr (refl, e)) (waiting w) w.time e in (
            record {
              inside = one_changes (λ m y. IsTrue (is_among m part) → IsRounding join s k l new part number (with_this n begun) m y) n d.node w.nodes (λ h. fine.0)
                  (λ m d h. inside_more join s k l new part number begun (with_this n begun) old m (w.nodes m) (is.holds.0.inside m h));
              going = λ j h. one_changes (λ m y. m ≡ j → IsGoing join s k l new part all j (number j) y) n d.node w.nodes (λ e. subst (λ z. IsGoing join s k l new part all z (number z) d.node) e fine.1)
                  (λ m d e. subst (λ z. IsGoing join s k l new part all j (number j) (w.nodes z)) (sym e) (elim h [
                    | inl earlier ↦
                        going_stays laws k l new later part (waiting w) all j (number j) (w.nodes j) (λ b o waits. some_left (IsOnWay b j o) (waiting w) sends waits)
                        (λ o p t y waits. some_left (IsOnWalk j o (number j) p t y) (waiting w) sends waits) (is.holds.0.going j earlier)
                    | inr now ↦ absurd (d (e ∙ sym now.0))
                  ])) j refl;
              outside = one_changes (λ m y. is_among m part ≡ false → y ≡ was m) n d.node w.nodes (λ e. (let never : false ≡ true = sym e ∙ here in cc)) (λ m d. is.holds.0.outside m);
              messages = all_append (λ (x : Sent R L). IsOfRounds join s k l new part number (with_this n begun) x) (waiting w) sends (messages_more join s k l new part number begun (with_this n begun) old (waiting w) is.holds.0.messages) fine.2;
            },
            rest_so d.node,
          )
      by_test is_ready false e =
          let x = w.nodes n in
          let none = append-nil (waiting w) in (
            record {
              inside = one_changes (λ m y. IsTrue (is_among m part) → IsRounding join s k l new part number (with_this n begun) m y) n x w.nodes
                  (λ h. inside_more join s k l new part number begun (with_this n begun) old n x (is.holds.0.inside n h)) (λ m d h. inside_more join s k l new part number begun (with_this n begun) old m (w.nodes m) (is.holds.0.inside m h));
              going = λ j h. one_changes (λ m y. m ≡ j → IsGoing join s k l new part (waiting w ++ []) j (number j) y) n x w.nodes
                  (λ same. subst (λ z. IsGoing join s k l new part (waiting w ++ []) j (number j) (w.nodes z)) (sym same) (still j h)) (λ m d same. subst (λ z. IsGoing join s k l new part (waiting w ++ []) j (number j) (w.nodes z)) (sym same) (still j h)) j refl;
              outside = one_changes (λ m y. is_among m part ≡ false → y ≡ was m) n x w.nodes (λ e. (let never : false ≡ true = sym e ∙ here in cc)) (λ m d. is.holds.0.outside m);
              messages = subst (AllByRecursion (λ (x : Sent R L). IsOfRounds join s k l new part number (with_this n begun) x)) (sym none) (messages_more join s k l new part number begun (with_this n begun) old (waiting w) is.holds.0.messages);
            },
            rest_so x,
          )
        where
          still : (j : ℕ) → with_this n begun j → IsGoing join s k l new part (waiting w ++ []) j (number j) (w.nodes j)
          still j h = subst (λ ws. IsGoing join s k l new part ws j (number j) (w.nodes j)) (sym (append-nil (waiting w))) (elim h [
            | inl earlier ↦ is.holds.0.going j earlier
            | inr now ↦ absurd (false≢true (sym e ∙ subst (λ z. IsTrue (is_among z (k.storage l))) (sym now.0) now.1))
          ])

  -- where fewer are said to have begun
  pub rounds_fewer : (begun more : ℕ → Type 0) → ((j : ℕ) → begun j → more j) → ((j : ℕ) → more j → begun j) → (nodes : ℕ → Node R L) (ws : List (Sent R L)) → Rounds begun nodes ws → Rounds more nodes ws
  rounds_fewer begun more f g nodes ws h = record {
    inside = λ n e. inside_more join s k l new part number begun more f n (nodes n) (h.inside n e);
    going = λ n b. h.going n (g n b);
    outside = h.outside;
    messages = messages_more join s k l new part number begun more f ws h.messages;
  }

  -- with all of these
  abbrev pub with_these : List ℕ → (ℕ → Type 0) → ℕ → Type 0
  with_these ns begun j = begun j ⊎ (IsTrue (is_among j ns) × IsTrue (is_among j (k.storage l)))

  pub one_more : (n : ℕ) (ns : List ℕ) (begun : ℕ → Type 0) (j : ℕ) → with_these (n ∷ ns) begun j → with_these ns (with_this n begun) j
  one_more n ns begun j h = elim h [
    | inl old ↦ inl (inl old)
    | inr now ↦ (elim (among_parts j n ns now.0) [ inl this ↦ inl (inr (this, now.1)) | inr rest ↦ inr (rest, now.1) ])
  ]

  pub one_less : (n : ℕ) (ns : List ℕ) (begun : ℕ → Type 0) (j : ℕ) → with_these ns (with_this n begun) j → with_these (n ∷ ns) begun j
  one_less n ns begun j h = elim h [
    | inl (inl old) ↦ inl old
    | inl (inr this) ↦ inr (subst (λ z. IsTrue (is_among z (n ∷ ns))) this.0 (among_here n ns), this.1)
    | inr rest ↦ inr (among_there j n ns rest.0, rest.1)
  ]

  pub all_begin : (ns : List ℕ) → AllByRecursion (λ n. IsTrue (is_among n part)) ns → AreApart ns → (begun : ℕ → Type 0) (w : World R L) → Kept (AreBeginning ns begun) versions w →
      Kept (AreBeginning [] (with_these ns begun)) versions (run join s k trio trio_roles w (each choice Syncs ns))
  all_begin [] all apart begun w is = record {
    marked = is.marked;
    applied = is.applied;
    holds = (rounds_fewer begun (with_these [] begun) (λ j h. inl h) (λ j h. elim h [ inl old ↦ old | inr never ↦ cc ]) w.nodes (waiting w) is.holds.0, is.holds.1);
  }
  all_begin (n ∷ ns) all apart begun w is =
      let rest = all_begin ns all.1 apart.1 (with_this n begun) _ (one_begins n ns begun all.0 apart.0 w is) in
      record {
        marked = rest.marked;
        applied = rest.applied;
        holds = (rounds_fewer (with_these ns (with_this n begun)) (with_these (n ∷ ns) begun) (one_less n ns begun) (one_more n ns begun) _ _ rest.holds.0, rest.holds.1);
      }

  -- a node that takes part, after the rounds
  pub record IsMoved (x : Node R L) : Type 0 where
    pub layouts : x.view.layouts ≡ l ∷ new ∷ []
    pub entries : AreUpTo k l (tops i i (k.reading.version l)) x.view
    pub calls : x.calls ≡ []
    pub round : x.round ≡ None

  abbrev pub AreMoved : (ℕ → Node R L) → List (Sent R L) → Type 0
  AreMoved nodes ws = ((n : ℕ) → IsTrue (is_among n part) → IsMoved (nodes n)) × ((n : ℕ) → is_among n part ≡ false → nodes n ≡ was n) × (ws ≡ []) × ((j : ℕ) → IsTrue (is_among j (k.storage l)) → i ≤ entry_of Sync (nodes j).view j)

  -- before any round begins
  module _ (w : World R L) (is : Kept (λ nodes ws. (nodes ≡ was) × (ws ≡ [])) versions w) where
    nodes_at : (n : ℕ) → w.nodes n ≡ was n
    nodes_at n = ap (λ f. f n) is.holds.0

    wider : (which : Which) (e : ℕ) → e ≤ tops i (k.reading.version l) (k.reading.version l) which → e ≤ tops i i (k.reading.version l) which
    wider Ack e h = h
    wider Sync e h = omega arith
    wider SyncAck e h = h

    rounds_none : Rounds (λ j. ⊥) w.nodes (waiting w)
    rounds_none = record {
      inside = λ n h. subst (λ x. IsRounding join s k l new part number (λ j. ⊥) n x) (sym (nodes_at n)) (let r = ready n h in record {
        layouts = r.layouts;
        entries = λ which j. wider which (entry_of which (was n).view j) (r.entries which j);
        calls = r.calls;
        proper = r.proper;
        idle = inl r.round;
      });
      going = λ n never. absurd never;
      outside = λ n e. nodes_at n;
      messages = subst (AllByRecursion (λ (x : Sent R L). IsOfRounds join s k l new part number (λ j. ⊥) x)) (sym is.holds.1) tt;
    }

    pub begins_none : Kept (AreBeginning part (λ j. ⊥)) versions w
    begins_none = record { marked = is.marked; applied = is.applied; holds = (rounds_none, λ n h. nodes_at n) }

  -- all rounds begin and complete
  pub rounds_complete : AllByRecursion (λ n. IsTrue (is_among n part)) part → AreApart part → (w v : World R L) → Kept (λ nodes ws. (nodes ≡ was) × (ws ≡ [])) versions w → Drains A C join s k trio trio_roles (after_each A C join s k trio trio_roles choice Syncs part w) v → Kept AreMoved versions v
  rounds_complete all apart w v is drains =
      let begun : ℕ → Type 0 = with_these part (λ j. ⊥) in
      let began = all_begin part all apart (λ j. ⊥) w (begins_none w is) in
      let end = deliveries_keep A C join s k trio trio_roles versions (λ nodes ws. Rounds begun nodes ws) (rounds_heard laws k l new later part number begun was) _ drains.deliveries drains.fresh_ones (record { marked = began.marked; applied = began.applied; holds = began.holds.0 }) in
      subst (Kept AreMoved versions) (sym drains.leads)
      (record { marked = end.marked; applied = end.applied; holds = finished _ _ drains.none end.holds })
    where
      over : (nodes : ℕ → Node R L) (ws : List (Sent R L)) → ws ≡ [] → Rounds (with_these part (λ j. ⊥)) nodes ws → (j : ℕ) → with_these part (λ j. ⊥) j → (nodes j).round ≡ None
      over nodes ws none r j b = none_open laws k l new later part number (with_these part (λ j. ⊥)) j (nodes j) (subst (λ z. IsGoing join s k l new part z j (number j) (nodes j)) none (r.going j b)) (nodes j).round refl

      finished : (nodes : ℕ → Node R L) (ws : List (Sent R L)) → ws ≡ [] → Rounds (with_these part (λ j. ⊥)) nodes ws → AreMoved nodes ws
      finished nodes ws none r = (
        λ n h. (let a = r.inside n h in record { layouts = a.layouts; entries = a.entries; calls = a.calls; round = elim a.idle [ inl shut ↦ shut | inr b ↦ over nodes ws none r n b ] }),
        r.outside,
        none,
        λ j e. (let b : with_these part (λ j. ⊥) j = inr (members j (storage_member laws k l new later real layout layout_new part members members_new j e), e) in subst (IsRoundOf join s k l new part ws j (nodes j).view) (over nodes ws none r j b) (r.going j b).state),
      )
