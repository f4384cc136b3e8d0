-- Each step keeps the pace.
use Rattle.std.proofs.Common.{◌≡◌, ◌≢◌, ℕ, suc, pred, ◌<◌, ◌≤◌, max, Bool, true, false, cond, ◌&&◌, ◌==◌, leb, Option, Some, None, List, [], ◌∷◌, ◌++◌, IsTrue, IfSome, slice_get, refl, sym, ◌∙◌, ap, subst, inl, inr, ◌⊎◌, arith, eqb-true, leb-true, le_refl, le_trans, lt_of_lt_of_le}
use Rattle.std.specs.Prelude.{nat_lt}
use Rattle.std.proofs.lemmas.Bool.{cases_eq, cases_lt, and_parts, cond_both, false≢true}
use Rattle.layout_trackers.specs.declared.which.Which.{Which}
use Rattle.layout_trackers.specs.declared.which.Which.TheVariants.{Ack, Sync, SyncAck}
use Rattle.view_model.specs.View.{Reading, View, oldest, newest, layout_at, version_of, ack_least, read_version, merged, cleaned, appended, with_entry}
use Rattle.view_model.proofs.Joins.{oldest_merged}
use Rattle.view_model.proofs.Cleans.{gapless_cleaned, newest_stays}
use Rattle.control_model.specs.Layouts.{IsMember, is_member, is_lawful}
use Rattle.control_model.specs.World.{Request, Round, Node, World, next, nothing, empty, view_of, layout_of}
use Rattle.control_model.specs.Steps.{Step, applies, installs, still, with_view, comes, least_start, without, is_none, completes, is_current, change, step, round_of}
use Rattle.crdt_core.specs.Members.{Has}
use Rattle.control_model.specs.Facts.{entry_of, read_of}
use Rattle.version_laws.proofs.Tests.{some_of, some_at}
use Rattle.version_laws.proofs.OneView.{sync_not_syncack, sync_not_ack, syncack_not_sync, syncack_not_ack, ack_not_syncack, ack_not_sync, merged_entry, own_entry, other_node, other_kind, ordered, started, read_low, read_high, read_below, WhyRead, why_read, established_two, least_member, clean_reaches, oldest_appended, some_set, some_member}
use Rattle.version_laws.proofs.WholeViews.{IsView, IsMessage, IsWhole, same_layout, at_each, at_one, IsWholeChange, grows, whole_next}
use Rattle.version_laws.proofs.WholeSteps.{One, whole_change, first_top}
use Rattle.version_laws.proofs.Paced.{Reaches, reaches_less, reaches_max, IsRound, IsRequest, IsPaced, IsPacedChange, nobody_member, zero_or, paced_next}

pub least_start-has : (d : ℕ) (qs : List Request) (q : Request) → Has qs q → least_start d qs ≤ q.start
least_start-has d [] q has = absurd has
least_start-has d (x ∷ xs) q (inl e) = let same : x.start ≡ q.start = ap (λ (t : Request). t.start) e in omega arith
least_start-has d (x ∷ xs) q (inr has) = let h = least_start-has d xs q has in omega arith

still-some : (P : ℕ → Type 0) (oldest : ℕ) (o : Option ℕ) → IfSome o P → IfSome (still oldest o) P
still-some P oldest None h = tt
still-some P oldest (Some v) h = cond_both (leb v oldest) None (Some v) (λ o. IfSome o P) (λ _. tt) (λ _. h)

pub without-has : (number : ℕ) (qs : List Request) (q : Request) → Has (without number qs) q → Has qs q
without-has number [] q has = has
without-has number (x ∷ xs) q has =
    elim (x.number == number) as (λ b. Has (cond b (without number xs) (x ∷ without number xs)) q → Has (x ∷ xs) q) [
      | true ↦ λ h. inr (without-has number xs q h)
      | false ↦ λ h. elim h [ inl e ↦ inl e | inr d ↦ inr (without-has number xs q d) ]
    ] has

module _ {L : Type 0} (R : Reading L) (parts : ℕ) (some : 1 ≤ parts) where
  -- the set of some partition in the version before
  set_before : (new : World L) → IsWhole R parts new → (v : View L) → IsView R parts new v → (i : ℕ) → oldest R v < i → i ≤ newest R v → (l : L) × (layout_at R v (pred i) ≡ Some l) × ((set : List ℕ) × Has (R.sets l) set)
  set_before new sn v iv i a b =
      let u = iv.under in
      let o : 1 ≤ oldest R v = started R v iv.gapless (omega arith) in
      let l = sn.lawful (pred i) (omega arith) (omega arith) in
      (l.0, iv.agrees (pred i) (omega arith) (omega arith) ∙ l.1, some_set R parts some (pred i) l.0 l.2)

  -- what is reached where a view changed
  view_reaches : (w new : World L) → IsWhole R parts new → (v : View L) → IsView R parts new v → Reaches R w (oldest R v) → ((m : ℕ) → Reaches R w (entry_of Sync v m)) → ((m : ℕ) → Reaches R w (entry_of SyncAck v m)) → Reaches R w (read_version R v)
  view_reaches w new sn v iv old syncs syncacks = by_why (why_read R v iv.gapless)
    where
      by_why : WhyRead R v → Reaches R w (read_version R v)
      by_why (WhyRead.is_oldest e) = subst (Reaches R w) (sym e) old
      by_why (WhyRead.acked n h) = reaches_less R w (read_version R v) (entry_of SyncAck v n) h (syncacks n)
      by_why (WhyRead.synced more t) =
          let i = read_version R v in
          let s = set_before new sn v iv i more (read_high R v) in
          let n = some_of (λ n. i ≤ entry_of Sync v n) s.2.0 (established_two R v i s.0 t s.1 s.2.0 s.2.1) in
          reaches_less R w i (entry_of Sync v n.0) n.1 (syncs n.0)

  module _ (w : World L) (s : IsWhole R parts w) (p : IsPaced R w) where
    own_sync : (m : ℕ) → Reaches R w (entry_of Sync (view_of w m) m)
    own_sync m = elim (p.synced m) [
      | inl e ↦ Reaches.low (omega arith)
      | inr has ↦ Reaches.by_round (round_of m (entry_of Sync (view_of w m) m)) (p.done _ has) (le_refl _)
    ]

    own_syncack : (m : ℕ) → Reaches R w (entry_of SyncAck (view_of w m) m)
    own_syncack m = Reaches.read m (s.syncacks m)

    own_oldest : (m : ℕ) → Reaches R w (oldest R (view_of w m))
    own_oldest m = Reaches.read m (read_low R (view_of w m) (s.views m).gapless)

    -- of entries that are known
    known_sync : (v : View L) → ((k : Which) (m : ℕ) → entry_of k v m ≤ entry_of k (view_of w m) m) → (m : ℕ) → Reaches R w (entry_of Sync v m)
    known_sync v known m = reaches_less R w (entry_of Sync v m) (entry_of Sync (view_of w m) m) (known Sync m) (own_sync m)

    known_syncack : (v : View L) → ((k : Which) (m : ℕ) → entry_of k v m ≤ entry_of k (view_of w m) m) → (m : ℕ) → Reaches R w (entry_of SyncAck v m)
    known_syncack v known m = reaches_less R w (entry_of SyncAck v m) (entry_of SyncAck (view_of w m) m) (known SyncAck m) (own_syncack m)

    still_paced : (sends : List (View L)) → IsPacedChange R w (record (nothing w) { sends = sends })
    still_paced sends = record {
      passed = λ n e. absurd (false≢true e);
      syncacks = λ n e. absurd (false≢true e);
      reaches = λ n e. absurd (false≢true e);
      requests = λ n e. absurd (false≢true e);
      begins = λ t has. absurd has;
      synced = λ n e. absurd (false≢true e);
      completes = λ t has. absurd has;
      open_ones = λ n e. absurd (false≢true e);
    }

    -- one node changes, and no request or round begins
    module _ (n : ℕ) (x : Node L) (completes : List Round) (asked : ℕ) where
      abbrev After : World L
      After = next w (One R parts w n x [] completes asked)

      calm : IsWholeChange R parts w (One R parts w n x [] completes asked)
          → ((j m : ℕ) → j < oldest R x.view → IsMember R m (layout_of w j) → j < read_of R w m)
          → Reaches R w (oldest R x.view)
          → ((m : ℕ) → Reaches R w (entry_of Sync x.view m))
          → ((m : ℕ) → Reaches R w (entry_of SyncAck x.view m))
          → (entry_of SyncAck x.view n ≤ read_of R w n)
          → ((q : Request) → Has x.requests q → Has (w.nodes n).requests q)
          → ((q : Request) → Has x.requests q → entry_of Ack x.view n ≤ q.start)
          → ((entry_of Sync x.view n ≡ 0) ⊎ Has (completes ++ w.completed) (round_of n (entry_of Sync x.view n)))
          → ((t : Round) → Has completes t → Has w.began t)
          → IfSome x.round (λ i. Has w.began (round_of n i))
          → IsPacedChange R w (One R parts w n x [] completes asked)
      calm hc passed old syncs syncacks syncack requests acked synced done round =
          let new = whole_next R parts w (One R parts w n x [] completes asked) s hc in
          record {
            passed = λ m e j i b mem. passed j i b mem;
            syncacks = λ m e. at_one n (λ m. entry_of SyncAck x.view m ≤ read_of R w m) syncack m e;
            reaches = λ m e. view_reaches w After new x.view (hc.views m e) old syncs syncacks;
            requests = λ m e. at_one n (λ m. (q : Request) → Has x.requests q → (Has (w.nodes m).requests q × (entry_of Ack x.view m ≤ q.start)) ⊎ (IsRequest R After x m q × ((t : Round) → Has w.began t → t.version ≤ q.start)))
                (λ q has. inl (requests q has, acked q has)) m e;
            begins = λ t has. absurd has;
            synced = λ m e. at_one n (λ m. (entry_of Sync x.view m ≡ 0) ⊎ Has (completes ++ w.completed) (round_of m (entry_of Sync x.view m))) synced m e;
            completes = done;
            open_ones = λ m e. at_one n (λ m. IfSome x.round (λ i. Has w.began (round_of m i))) round m e;
          }

    -- ---- a view arrives

    comes_paced : (n : ℕ) (o : Option (View L)) → IfSome o (IsMessage R parts w) → IsWholeChange R parts w (comes R w n o) → IsPacedChange R w (comes R w n o)
    comes_paced n None h hc = still_paced []
    comes_paced n (Some v) h hc =
        let own = view_of w n in
        let m = merged R own v in
        let x = with_view R (w.nodes n) m in
        let mine = s.views n in
        let other = h.0 in
        let sender = h.1.0 in
        let low = h.1.1.oldest_grew in
        let o = oldest_merged R own v mine.gapless other.gapless in
        let known : (k : Which) (i : ℕ) → entry_of k m i ≤ entry_of k (view_of w i) i = λ k i. (let a = mine.known k i in let b = other.known k i in let e = merged_entry R own v k i in omega arith) in
        let sync : entry_of Sync m n ≡ entry_of Sync own n = (let a = other.known Sync n in let e = merged_entry R own v Sync n in omega arith) in
        calm n x [] w.asked hc
        (λ j i b mem. elim (cases_lt j (oldest R own)) [ inl less ↦ p.passed n j i less mem | inr more ↦ p.passed sender j i (omega arith) mem ])
        (subst (Reaches R w) (sym o) (reaches_max R w (oldest R own) (oldest R v) (own_oldest n) (reaches_less R w (oldest R v) (oldest R (view_of w sender)) low (own_oldest sender))))
        (known_sync m known) (known_syncack m known)
        (le_trans (known SyncAck n) (s.syncacks n))
        (λ q has. has)
        (λ q has. le_trans (known Ack n) (p.requests n q has).acked)
        (subst (λ t. (t ≡ 0) ⊎ Has w.completed (round_of n t)) (sym sync) (p.synced n))
        (λ t has. absurd has)
        (still-some (λ i. Has w.began (round_of n i)) (oldest R m) (w.nodes n).round (p.open_ones n))

    -- ---- a node raises its own entry

    -- of a tracker in which one entry rose
    raised_reaches : (n : ℕ) (kind : Which) (i : ℕ) (k : Which) → ((m : ℕ) → Reaches R w (entry_of k (view_of w n) m)) → (k ≡ kind → Reaches R w i) → (k ≡ kind) ⊎ (k ≢ kind) → (m : ℕ) → Reaches R w (entry_of k (with_entry R kind n i (view_of w n)) m)
    raised_reaches n kind i k before reach (inr apart) m = subst (Reaches R w) (sym (other_kind R (view_of w n) kind n i k m apart)) (before m)
    raised_reaches n kind i k before reach (inl same) m =
        let own = view_of w n in
        elim (cases_eq m n) [
          | inl e ↦
              let at : entry_of k (with_entry R kind n i own) m ≡ max (entry_of k own n) i =
              ap (λ t. entry_of k (with_entry R kind n i own) t) e ∙ subst (λ t. entry_of k (with_entry R t n i own) n ≡ max (entry_of k own n) i) same (own_entry R own k n i) in
              subst (Reaches R w) (sym at) (reaches_max R w (entry_of k own n) i (before n) (reach same))
          | inr apart ↦ subst (Reaches R w) (sym (other_node R own kind n i k m apart)) (before m)
        ]

    ack_paced : (n : ℕ) → IsWholeChange R parts w (change R parts w (Step.RaiseAck n)) → IsPacedChange R w (change R parts w (Step.RaiseAck n))
    ack_paced n hc =
        let own = view_of w n in
        let qs = (w.nodes n).requests in
        let i = least_start (newest R own) qs in
        let known = (s.views n).known in
        let a = own_entry R own Ack n i in
        let sync : entry_of Sync (with_entry R Ack n i own) n ≡ entry_of Sync own n = other_kind R own Ack n i Sync n sync_not_ack in
        let syncack : entry_of SyncAck (with_entry R Ack n i own) n ≡ entry_of SyncAck own n = other_kind R own Ack n i SyncAck n syncack_not_ack in
        calm n (record (w.nodes n) { view = with_entry R Ack n i own }) [] w.asked hc
        (λ j m b mem. p.passed n j m b mem)
        (own_oldest n)
        (raised_reaches n Ack i Sync (known_sync own known) (λ e. absurd (sync_not_ack e)) (inr sync_not_ack))
        (raised_reaches n Ack i SyncAck (known_syncack own known) (λ e. absurd (syncack_not_ack e)) (inr syncack_not_ack))
        (let before = s.syncacks n in omega arith)
        (λ q has. has)
        (λ q has. let least = least_start-has (newest R own) qs q has in let acked = (p.requests n q has).acked in omega arith)
        (subst (λ t. (t ≡ 0) ⊎ Has w.completed (round_of n t)) (sym sync) (p.synced n))
        (λ t has. absurd has)
        (p.open_ones n)

    syncack_paced : (n : ℕ) → IsWholeChange R parts w (change R parts w (Step.RaiseSyncAck n)) → IsPacedChange R w (change R parts w (Step.RaiseSyncAck n))
    syncack_paced n hc =
        let own = view_of w n in
        let i = read_version R own in
        let known = (s.views n).known in
        let a : entry_of Ack (with_entry R SyncAck n i own) n ≡ entry_of Ack own n = other_kind R own SyncAck n i Ack n ack_not_syncack in
        let b = own_entry R own SyncAck n i in
        let sync : entry_of Sync (with_entry R SyncAck n i own) n ≡ entry_of Sync own n = other_kind R own SyncAck n i Sync n sync_not_syncack in
        calm n (record (w.nodes n) { view = with_entry R SyncAck n i own }) [] w.asked hc
        (λ j m b mem. p.passed n j m b mem)
        (own_oldest n)
        (raised_reaches n SyncAck i Sync (known_sync own known) (λ e. absurd (sync_not_syncack e)) (inr sync_not_syncack))
        (raised_reaches n SyncAck i SyncAck (known_syncack own known) (λ e. Reaches.read n (le_refl i)) (inl refl))
        (let before = s.syncacks n in omega arith)
        (λ q has. has)
        (λ q has. let acked = (p.requests n q has).acked in omega arith)
        (subst (λ t. (t ≡ 0) ⊎ Has w.completed (round_of n t)) (sym sync) (p.synced n))
        (λ t has. absurd has)
        (p.open_ones n)

    -- the node's sync, raised to the version of a round that it completes, is one to which it completed a round
    synced_by : (n i : ℕ) → (entry_of Sync (view_of w n) n ≡ 0) ⊎ Has (round_of n i ∷ w.completed) (round_of n (entry_of Sync (view_of w n) n)) →
        (t : ℕ) → t ≡ max (entry_of Sync (view_of w n) n) i → (t ≡ 0) ⊎ Has (round_of n i ∷ w.completed) (round_of n t)
    synced_by n i kept t is =
        let old = entry_of Sync (view_of w n) n in
        elim (cases_lt old i) [
          | inl less ↦ let e : i ≡ t = omega arith in inr (inl (ap (round_of n) e))
          | inr more ↦ let e : old ≡ t = omega arith in subst (λ t. (t ≡ 0) ⊎ Has (round_of n i ∷ w.completed) (round_of n t)) e kept
        ]

    completes_paced : (n : ℕ) (o : Option ℕ) → IfSome o (λ i. Has w.began (round_of n i)) → IsWholeChange R parts w (completes R w n o) → IsPacedChange R w (completes R w n o)
    completes_paced n None h hc = still_paced []
    completes_paced n (Some i) h hc =
        let own = view_of w n in
        let v = with_entry R Sync n i own in
        let known = (s.views n).known in
        let a : entry_of Ack v n ≡ entry_of Ack own n = other_kind R own Sync n i Ack n ack_not_sync in
        let b : entry_of SyncAck v n ≡ entry_of SyncAck own n = other_kind R own Sync n i SyncAck n syncack_not_sync in
        calm n (record (w.nodes n) { view = v; round = None }) (round_of n i ∷ []) w.asked hc
        (λ j m b mem. p.passed n j m b mem)
        (own_oldest n)
        (raised_reaches n Sync i Sync (known_sync own known) (λ e. Reaches.by_round (round_of n i) h (le_refl i)) (inl refl))
        (raised_reaches n Sync i SyncAck (known_syncack own known) (λ e. absurd (syncack_not_sync e)) (inr syncack_not_sync))
        (let before = s.syncacks n in omega arith)
        (λ q has. has)
        (λ q has. let acked = (p.requests n q has).acked in omega arith)
        (synced_by n i (elim (p.synced n) [ inl e ↦ inl e | inr has ↦ inr (inr has) ]) (entry_of Sync v n) (own_entry R own Sync n i))
        (λ t has. elim has [ inl e ↦ subst (Has w.began) e h | inr never ↦ absurd never ])
        tt

    -- ---- a clean

    -- what a node cleans below has been passed by each member of a stored version
    pub clean_passed : (n m j : ℕ) → oldest R (view_of w n) ≤ j → j ≤ newest R (view_of w n) → IsMember R m (layout_of w j) → (oldest R (cleaned R (view_of w n)) ≡ oldest R (view_of w n)) ⊎ (oldest R (cleaned R (view_of w n)) ≤ entry_of SyncAck (view_of w n) m)
    clean_passed n m j a b mem =
        clean_reaches R (view_of w n) (s.views n).gapless j m (subst (λ l. IsMember R m l) (sym ((s.views n).agrees j a b)) mem)

    pub cleaned_high : (n : ℕ) → oldest R (cleaned R (view_of w n)) ≤ newest R (view_of w n)
    cleaned_high n =
        let own = view_of w n in
        let g = (s.views n).gapless in
        let o = ordered R (cleaned R own) (gapless_cleaned R own g) in
        let e = newest_stays R own g in
        omega arith

    cleaned_reached : (n : ℕ) → Reaches R w (oldest R (cleaned R (view_of w n)))
    cleaned_reached n =
        let own = view_of w n in
        let mine = s.views n in
        let o = ordered R own mine.gapless in
        let high = cleaned_high n in
        elim (zero_or (newest R own)) [
          | inl e ↦ Reaches.low (omega arith)
          | inr one ↦
              let l = s.lawful (newest R own) one mine.under in
              let m = some_member R parts some (newest R own) l.0 l.2 in
              elim (clean_passed n m.0 (newest R own) o (le_refl (newest R own)) (subst (λ l. IsMember R m.0 l) (sym l.1) m.1)) [
                | inl e ↦ subst (Reaches R w) (sym e) (own_oldest n)
                | inr h ↦ reaches_less R w (oldest R (cleaned R own)) (entry_of SyncAck own m.0) h (known_syncack own mine.known m.0)
              ]
        ]

    clean_paced : (n : ℕ) → IsWholeChange R parts w (change R parts w (Step.Clean n)) → IsPacedChange R w (change R parts w (Step.Clean n))
    clean_paced n hc =
        let own = view_of w n in
        let mine = s.views n in
        let v = cleaned R own in
        let high = cleaned_high n in
        calm n (with_view R (w.nodes n) v) [] w.asked hc
        (λ j m b mem.
        elim (cases_lt j (oldest R own)) [
          | inl less ↦ p.passed n j m less mem
          | inr more ↦ elim (clean_passed n m j more (omega arith) mem) [
            | inl e ↦ absurd (omega arith)
            | inr h ↦ let a = mine.known SyncAck m in let d = s.syncacks m in omega arith
          ]
        ])
        (cleaned_reached n)
        (known_sync own mine.known) (known_syncack own mine.known)
        (s.syncacks n)
        (λ q has. has)
        (λ q has. (p.requests n q has).acked)
        (p.synced n)
        (λ t has. absurd has)
        (still-some (λ i. Has w.began (round_of n i)) (oldest R v) (w.nodes n).round (p.open_ones n))

    -- ---- requests

    -- requests go, and maybe the round
    less_paced : (n : ℕ) (requests : List Request) (round : Option ℕ) → ((q : Request) → Has requests q → Has (w.nodes n).requests q) → IfSome round (λ i. Has w.began (round_of n i)) →
        (let c = One R parts w n (record { view = view_of w n; requests = requests; round = round }) [] [] w.asked in IsWholeChange R parts w c → IsPacedChange R w c)
    less_paced n requests round less open_one hc =
        let own = view_of w n in
        calm n (record { view = own; requests = requests; round = round }) [] w.asked hc
        (λ j m b mem. p.passed n j m b mem)
        (own_oldest n)
        (known_sync own (s.views n).known) (known_syncack own (s.views n).known)
        (s.syncacks n)
        less
        (λ q has. (p.requests n q (less q has)).acked)
        (p.synced n)
        (λ t has. absurd has)
        open_one

    -- a request begins
    begin_paced : (n : ℕ) → IsTrue (is_current R (view_of w n) n) →
        (let v = view_of w n in
        let c = One R parts w n (record (w.nodes n) { requests = record { number = suc w.asked; start = newest R v } ∷ (w.nodes n).requests }) [] [] (suc w.asked) in IsWholeChange R parts w c → IsPacedChange R w c)
    begin_paced n member hc =
        let v = view_of w n in
        let mine = s.views n in
        let one : Request = record { number = suc w.asked; start = newest R v } in
        let x = record (w.nodes n) { requests = one ∷ (w.nodes n).requests } in
        let c = One R parts w n x [] [] (suc w.asked) in
        let mem : IsMember R n (layout_of w (newest R v)) = subst (λ l. IsMember R n l) (mine.agrees (newest R v) (ordered R v mine.gapless) (le_refl (newest R v))) member in
        let same_view : (m : ℕ) → read_of R (next w c) m ≤ newest R v =
        at_each w c (λ m y. read_version R y.view ≤ newest R v) (λ m e. read_high R v)
        (λ m. elim (cases_lt (newest R v) (read_of R w m)) [ inl less ↦ (let no = p.behind m (newest R v) n less mem in absurd (omega arith)) | inr at ↦ at ]) in
        record {
          passed = λ m e j i b mem. p.passed n j i b mem;
          syncacks = λ m e. at_one n (λ m. entry_of SyncAck v m ≤ read_of R w m) (s.syncacks n) m e;
          reaches = λ m e. Reaches.read n (le_refl (read_version R v));
          requests = λ m e. at_one n (λ m. (q : Request) → Has x.requests q → (Has (w.nodes m).requests q × (entry_of Ack x.view m ≤ q.start)) ⊎ (IsRequest R (next w c) x m q × ((t : Round) → Has w.began t → t.version ≤ q.start)))
              (λ q has. elim has [
                | inl e ↦ inr (subst (λ (q : Request). IsRequest R (next w c) x n q × ((t : Round) → Has w.began t → t.version ≤ q.start)) e (
                  record { member = mem; within = le_refl (newest R v); acked = s.acks n; least = same_view },
                  λ t began. elim (cases_lt (newest R v) t.version) [ inl less ↦ (let no = (p.rounds t began).on (newest R v) n less mem in absurd (omega arith)) | inr at ↦ at ],
                ))
                | inr old ↦ inl (old, (p.requests n q old).acked)
              ]) m e;
          begins = λ t has. absurd has;
          synced = λ m e. at_one n (λ m. (entry_of Sync v m ≡ 0) ⊎ Has w.completed (round_of m (entry_of Sync v m))) (p.synced n) m e;
          completes = λ t has. absurd has;
          open_ones = λ m e. at_one n (λ m. IfSome (w.nodes n).round (λ i. Has w.began (round_of m i))) (p.open_ones n) m e;
        }

    -- ---- a round begins

    round_paced : (n : ℕ) (i : ℕ) → i ≡ suc (read_of R w n) → IsTrue (leb i (newest R (view_of w n))) → IsTrue (leb i (ack_least R (view_of w n))) →
        (let c = One R parts w n (record (w.nodes n) { round = Some i }) (round_of n i ∷ []) [] w.asked in IsWholeChange R parts w c → IsPacedChange R w c)
    round_paced n i is within acked hc =
        let v = view_of w n in
        let x = record (w.nodes n) { round = Some i } in
        let c = One R parts w n x (round_of n i ∷ []) [] w.asked in
        let g = grows R parts w c hc in
        let new = whole_next R parts w c s hc in
        let mine = s.views n in
        let high : i ≤ newest R v = leb-true i (newest R v) within in
        let least : i ≤ ack_least R v = leb-true i (ack_least R v) acked in
        let low = read_low R v mine.gapless in
        let stored : (j m : ℕ) → oldest R v ≤ j → j < i → IsMember R m (layout_of w j) → i ≤ entry_of Ack (view_of w m) m =
        λ j m a b mem. le_trans (least_member R Ack v i j m least (omega arith) (subst (λ l. IsMember R m l) (sym (mine.agrees j a (omega arith))) mem)) (mine.known Ack m) in
        let on : (j m : ℕ) → j < i → IsMember R m (layout_of w j) → j < newest R (view_of w m) =
        λ j m b mem. elim (cases_lt j (oldest R v)) [
          | inl less ↦ lt_of_lt_of_le (p.passed n j m less mem) (read_high R (view_of w m))
          | inr more ↦ (let a = stored j m more b mem in let h = s.acks m in omega arith)
        ] in
        let late : (m : ℕ) (q : Request) → Has (w.nodes m).requests q → i ≤ q.start =
        λ m q has. (let one = p.requests m q has in elim (cases_lt q.start i) [
          | inl less ↦ elim (cases_lt q.start (oldest R v)) [
            | inl passed ↦ (let a = p.passed n q.start m passed one.member in let b = one.least m in absurd (omega arith))
            | inr more ↦ (let a = stored q.start m more less one.member in let b = one.acked in absurd (omega arith))
          ]
          | inr at ↦ at
        ]) in
        record {
          passed = λ m e j k b mem. p.passed n j k b mem;
          syncacks = λ m e. at_one n (λ m. entry_of SyncAck v m ≤ read_of R w m) (s.syncacks n) m e;
          reaches = λ m e. Reaches.read n (le_refl (read_version R v));
          requests = λ m e. at_one n (λ m. (q : Request) → Has x.requests q → (Has (w.nodes m).requests q × (entry_of Ack x.view m ≤ q.start)) ⊎ (IsRequest R (next w c) x m q × ((t : Round) → Has w.began t → t.version ≤ q.start)))
              (λ q has. inl (has, (p.requests n q has).acked)) m e;
          begins = λ t has. elim has [
            | inl e ↦ subst (IsRound R (next w c)) e (record {
              reached = (n, le_trans (subst (λ t. pred t ≤ read_version R v) (sym is) (le_refl (read_version R v))) (read_below R v (view_of (next w c) n) mine.gapless (new.views n).gapless (g.views n)));
              under = le_trans high mine.under;
              on = λ j m b mem. lt_of_lt_of_le (on j m b mem) (g.views m).newest_grew;
              late = at_each w c (λ m y. (q : Request) → Has y.requests q → i ≤ q.start) (λ m e q has. late n q has) late;
            })
            | inr never ↦ absurd never
          ];
          synced = λ m e. at_one n (λ m. (entry_of Sync v m ≡ 0) ⊎ Has w.completed (round_of m (entry_of Sync v m))) (p.synced n) m e;
          completes = λ t has. absurd has;
          open_ones = λ m e. at_one n (λ m. Has (round_of n i ∷ w.began) (round_of m i)) (inl refl) m e;
        }

    -- ---- a new version

    -- a member of its newest version knows one
    pub some_newest : (n : ℕ) → IsTrue (is_current R (view_of w n) n) → 1 ≤ newest R (view_of w n)
    some_newest n member =
        let mine = s.views n in
        elim (zero_or (newest R (view_of w n))) [
          | inl z ↦ absurd (nobody_member R parts w s n (subst (λ t. IsMember R n (layout_of w t)) z (subst (λ l. IsMember R n l) (mine.agrees (newest R (view_of w n)) (ordered R (view_of w n) mine.gapless) (le_refl _)) member)))
          | inr one ↦ one
        ]

    apply_paced : (n : ℕ) (l : L) → IsTrue (is_current R (view_of w n) n) → (let c = applies R w n l (appended R (view_of w n) l) in IsWholeChange R parts w c → IsPacedChange R w c)
    apply_paced n l member hc =
        let own = view_of w n in
        let v = appended R own l in
        let c = applies R w n l v in
        let x = record (w.nodes n) { view = v } in
        let g = grows R parts w c hc in
        let new = whole_next R parts w c s hc in
        let mine = s.views n in
        let same_oldest : oldest R v ≡ oldest R own = oldest_appended R own l (started R own mine.gapless (some_newest n member)) in
        record {
          passed = λ m e j k b mem.
              (let o = ordered R own mine.gapless in let u = mine.under in
              p.passed n j k (omega arith) (subst (λ l. IsMember R k l) (sym (same_layout R parts w (next w c) g j (omega arith))) mem));
          syncacks = λ m e. at_one n (λ m. entry_of SyncAck v m ≤ read_of R w m) (s.syncacks n) m e;
          reaches = λ m e. view_reaches w (next w c) new v (hc.views m e) (subst (Reaches R w) (sym same_oldest) (own_oldest n)) (known_sync own mine.known) (known_syncack own mine.known);
          requests = λ m e. at_one n (λ m. (q : Request) → Has x.requests q → (Has (w.nodes m).requests q × (entry_of Ack x.view m ≤ q.start)) ⊎ (IsRequest R (next w c) x m q × ((t : Round) → Has w.began t → t.version ≤ q.start)))
              (λ q has. inl (has, (p.requests n q has).acked)) m e;
          begins = λ t has. absurd has;
          synced = λ m e. at_one n (λ m. (entry_of Sync v m ≡ 0) ⊎ Has w.completed (round_of m (entry_of Sync v m))) (p.synced n) m e;
          completes = λ t has. absurd has;
          open_ones = λ m e. at_one n (λ m. IfSome (w.nodes n).round (λ i. Has w.began (round_of m i))) (p.open_ones n) m e;
        }

    install_paced : (who : ℕ → Bool) (l : L) → IsTrue (is_lawful R parts 1 l) → w.top ≡ 0 → (let c = installs R w who l in IsWholeChange R parts w c → IsPacedChange R w c)
    install_paced who l lawful none hc =
        let c = installs R w who l in
        let new = whole_next R parts w c s hc in
        record {
          passed = λ m e j k b mem.
              (let v = hc.views m e in let o = ordered R (appended R (view_of w m) l) v.gapless in
              let t = first_top R parts w s who l lawful none m in
              let z : j ≡ 0 = omega arith in
              absurd (nobody_member R parts (next w c) new k (subst (λ t. IsMember R k (layout_of (next w c) t)) z mem)));
          syncacks = λ m e. s.syncacks m;
          reaches = λ m e. (let t = first_top R parts w s who l lawful none m in let h = read_high R (appended R (view_of w m) l) in Reaches.low (omega arith));
          requests = λ m e q has. inl (has, (p.requests m q has).acked);
          begins = λ t has. absurd has;
          synced = λ m e. p.synced m;
          completes = λ t has. absurd has;
          open_ones = λ m e. p.open_ones m;
        }

  -- ---- every step

  pub paced_change : (w : World L) (e : Step L) → IsWhole R parts w → IsPaced R w → IsWholeChange R parts w (change R parts w e) → IsPacedChange R w (change R parts w e)
  paced_change w (Step.Install who l) s p =
      cond_both ((w.top == 0) && is_lawful R parts 1 l) (installs R w who l) (nothing w) (λ c. IsWholeChange R parts w c → IsPacedChange R w c)
      (λ t. let both = and_parts (w.top == 0) (is_lawful R parts 1 l) t in install_paced w s p who l both.1 (eqb-true w.top 0 both.0))
      (λ _ _. still_paced w s p [])
  paced_change w (Step.Apply n l) s p =
      let v = view_of w n in
      let a = is_current R v n in
      let b = (newest R v == w.top) && is_lawful R parts (suc w.top) l in
      cond_both (a && b) (applies R w n l (appended R v l)) (nothing w) (λ c. IsWholeChange R parts w c → IsPacedChange R w c)
      (λ t. apply_paced w s p n l (and_parts a b t).0)
      (λ _ _. still_paced w s p [])
  paced_change w (Step.Gossip n) s p = λ hc. still_paced w s p (view_of w n ∷ [])
  paced_change w (Step.Deliver n k) s p = comes_paced w s p n (slice_get w.sent k) (some_at (IsMessage R parts w) w.sent k s.sent)
  paced_change w (Step.RaiseAck n) s p = ack_paced w s p n
  paced_change w (Step.RaiseSyncAck n) s p = syncack_paced w s p n
  paced_change w (Step.Clean n) s p = clean_paced w s p n
  paced_change w (Step.Begin n) s p =
      cond_both (is_current R (view_of w n) n) _ (nothing w) (λ c. IsWholeChange R parts w c → IsPacedChange R w c)
      (λ t. begin_paced w s p n t)
      (λ _ _. still_paced w s p [])
  paced_change w (Step.End n q) s p = less_paced w s p n (without q (w.nodes n).requests) (w.nodes n).round (without-has q (w.nodes n).requests) (p.open_ones n)
  paced_change w (Step.BeginRound n) s p =
      let x = w.nodes n in
      let v = view_of w n in
      let i = suc (read_version R v) in
      let a = is_none x.round in
      let b = leb i (newest R v) in
      let d = is_member R n (layout_at R v (pred i)) in
      let f = leb i (ack_least R v) in
      let h = nat_lt (version_of R Sync v n) i in
      cond_both (a && (b && (d && (f && h)))) _ (nothing w) (λ c. IsWholeChange R parts w c → IsPacedChange R w c)
      (λ t.
      let p1 = and_parts a (b && (d && (f && h))) t in
      let p2 = and_parts b (d && (f && h)) p1.1 in
      let p3 = and_parts d (f && h) p2.1 in
      let p4 = and_parts f h p3.1 in
      round_paced w s p n i refl p2.0 p4.0)
      (λ _ _. still_paced w s p [])
  paced_change w (Step.Complete n) s p = completes_paced w s p n (w.nodes n).round (p.open_ones n)
  paced_change w (Step.Restart n) s p = less_paced w s p n [] None (λ q has. absurd has) tt

  pub step_paced : (w : World L) (e : Step L) → IsWhole R parts w → IsPaced R w → IsPaced R (step R parts w e)
  step_paced w e s p =
      let hc = whole_change R parts w e s in
      paced_next R parts w (change R parts w e) s hc p (paced_change w e s p hc)

pub empty_paced : {L : Type 0} (R : Reading L) → IsPaced R empty
empty_paced R = record {
  passed = λ n j m b mem. absurd (omega arith);
  behind = λ n j m b mem. absurd (false≢true mem);
  rounds = λ t has. absurd has;
  requests = λ m q has. absurd has;
  synced = λ n. inl refl;
  done = λ t has. has;
  open_ones = λ n. tt;
}
