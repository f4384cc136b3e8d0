-- Rounds, read versions and requests in flight keep pace with one another.
use Rattle.std.proofs.Common.{◌≡◌, ℕ, zero, suc, pred, ◌<◌, ◌≤◌, max, Option, Some, None, IsTrue, IfSome, refl, sym, subst, inl, inr, ◌⊎◌, arith, le_refl, le_trans, lt_of_lt_of_le}
use Rattle.std.proofs.lemmas.Bool.{cases_lt, false≢true}
use Rattle.layout_trackers.specs.declared.which.Which.TheVariants.{Ack, Sync, SyncAck}
use Rattle.view_model.specs.View.{Reading, oldest, newest, read_version}
use Rattle.control_model.specs.Layouts.{IsMember}
use Rattle.control_model.specs.World.{Request, Round, Node, World, Change, next, view_of, layout_of}
use Rattle.control_model.specs.Steps.{round_of}
use Rattle.crdt_core.specs.Members.{Has}
use Rattle.control_model.specs.Facts.{entry_of, read_of}
use Rattle.version_laws.proofs.Tests.{has_right, has_cases}
use Rattle.version_laws.proofs.OneView.{ordered, read_high, read_below}
use Rattle.version_laws.proofs.WholeViews.{IsWhole, Grows, same_layout, at_each, IsWholeChange, grows, whole_next}

pub some_weaker : (P Q : ℕ → Type 0) (o : Option ℕ) → ((i : ℕ) → P i → Q i) → IfSome o P → IfSome o Q
some_weaker P Q None f h = h
some_weaker P Q (Some i) f h = f i h

pub zero_or : (n : ℕ) → (n ≡ 0) ⊎ (1 ≤ n)
zero_or zero = inl refl
zero_or (suc n) = inr (omega arith)

module _ {L : Type 0} (R : Reading L) where
  -- a version that is at most 1, that some node reads, or that a round went to
  pub data Reaches (w : World L) (i : ℕ) : Type 0 where
    low : i ≤ 1 → Reaches w i
    read : (n : ℕ) → i ≤ read_of R w n → Reaches w i
    by_round : (t : Round) → Has w.began t → i ≤ t.version → Reaches w i

  pub reaches_less : (w : World L) (i j : ℕ) → i ≤ j → Reaches w j → Reaches w i
  reaches_less w i j h (Reaches.low a) = Reaches.low (le_trans h a)
  reaches_less w i j h (Reaches.read n a) = Reaches.read n (le_trans h a)
  reaches_less w i j h (Reaches.by_round t b a) = Reaches.by_round t b (le_trans h a)

  pub reaches_max : (w : World L) (i j : ℕ) → Reaches w i → Reaches w j → Reaches w (max i j)
  reaches_max w i j a b =
      elim (cases_lt i j) [
        | inl less ↦ reaches_less w (max i j) j (omega arith) b
        | inr more ↦ reaches_less w (max i j) i (omega arith) a
      ]

  pub record IsRound (w : World L) (t : Round) : Type 0 where
    pub reached : (n : ℕ) × (pred t.version ≤ read_of R w n)
    pub under : t.version ≤ w.top
    pub on : (j m : ℕ) → j < t.version → IsMember R m (layout_of w j) → j < newest R (view_of w m)
    pub late : (m : ℕ) (q : Request) → Has (w.nodes m).requests q → t.version ≤ q.start

  -- x is node m
  pub record IsRequest (w : World L) (x : Node L) (m : ℕ) (q : Request) : Type 0 where
    pub member : IsMember R m (layout_of w q.start)
    pub within : q.start ≤ newest R x.view
    pub acked : entry_of Ack x.view m ≤ q.start
    pub least : (n : ℕ) → read_of R w n ≤ q.start

  pub record IsPaced (w : World L) : Type 0 where
    pub passed : (n j m : ℕ) → j < oldest R (view_of w n) → IsMember R m (layout_of w j) → j < read_of R w m
    pub behind : (n j m : ℕ) → j < read_of R w n → IsMember R m (layout_of w j) → j < newest R (view_of w m)
    pub rounds : (t : Round) → Has w.began t → IsRound w t
    pub requests : (m : ℕ) (q : Request) → Has (w.nodes m).requests q → IsRequest w (w.nodes m) m q
    pub synced : (n : ℕ) → (entry_of Sync (view_of w n) n ≡ 0) ⊎ Has w.completed (round_of n (entry_of Sync (view_of w n) n))
    pub done : (t : Round) → Has w.completed t → Has w.began t
    pub open_ones : (n : ℕ) → IfSome (w.nodes n).round (λ i. Has w.began (round_of n i))

  pub record IsPacedChange (w : World L) (c : Change L) : Type 0 where
    pub passed : (n : ℕ) → IsTrue (c.who n) → (j m : ℕ) → j < oldest R (c.node n).view → IsMember R m (layout_of (next w c) j) → j < read_of R w m
    pub syncacks : (n : ℕ) → IsTrue (c.who n) → entry_of SyncAck (c.node n).view n ≤ read_of R w n
    pub reaches : (n : ℕ) → IsTrue (c.who n) → Reaches w (read_version R (c.node n).view)
    pub requests : (n : ℕ) → IsTrue (c.who n) → (q : Request) → Has (c.node n).requests q →
        (Has (w.nodes n).requests q × (entry_of Ack (c.node n).view n ≤ q.start)) ⊎
        (IsRequest (next w c) (c.node n) n q × ((t : Round) → Has w.began t → t.version ≤ q.start))
    pub begins : (t : Round) → Has c.begins t → IsRound (next w c) t
    pub synced : (n : ℕ) → IsTrue (c.who n) → (entry_of Sync (c.node n).view n ≡ 0) ⊎ Has (next w c).completed (round_of n (entry_of Sync (c.node n).view n))
    pub completes : (t : Round) → Has c.completes t → Has w.began t
    pub open_ones : (n : ℕ) → IsTrue (c.who n) → IfSome (c.node n).round (λ i. Has (next w c).began (round_of n i))

  module _ (parts : ℕ) where
    pub nobody_member : (w : World L) → IsWhole R parts w → (m : ℕ) → IsMember R m (layout_of w 0) → ⊥
    nobody_member w s m h = false≢true (subst (λ l. IsMember R m l) s.nobody_first h)

    pub read_top : (w : World L) → IsWhole R parts w → (n : ℕ) → read_of R w n ≤ w.top
    read_top w s n = let v = s.views n in le_trans (read_high R (view_of w n)) v.under

    -- a request starts at a real version
    pub start_real : (w : World L) → IsWhole R parts w → (x : Node L) (m : ℕ) (q : Request) → IsRequest w x m q → 1 ≤ q.start
    start_real w s x m q h =
        elim (zero_or q.start) [
          | inl e ↦ absurd (nobody_member w s m (subst (λ t. IsMember R m (layout_of w t)) e h.member))
          | inr e ↦ e
        ]

    module _ (w : World L) (c : Change L) (s : IsWhole R parts w) (hc : IsWholeChange R parts w c) (p : IsPaced w) (h : IsPacedChange w c) where
      abbrev New : World L
      New = next w c

      g : Grows R parts w New
      g = grows R parts w c hc

      new : IsWhole R parts New
      new = whole_next R parts w c s hc

      reads_more : (n : ℕ) → read_of R w n ≤ read_of R New n
      reads_more n = read_below R (view_of w n) (view_of New n) (s.views n).gapless (new.views n).gapless (g.views n)

      back : (j m : ℕ) → j ≤ w.top → IsMember R m (layout_of New j) → IsMember R m (layout_of w j)
      back j m b x = subst (λ l. IsMember R m l) (sym (same_layout R parts w New g j b)) x

      forth : (j m : ℕ) → j ≤ w.top → IsMember R m (layout_of w j) → IsMember R m (layout_of New j)
      forth j m b x = subst (λ l. IsMember R m l) (same_layout R parts w New g j b) x

      pub all_reach : (n : ℕ) → Reaches w (read_of R New n)
      all_reach = at_each w c (λ n x. Reaches w (read_version R x.view)) h.reaches (λ n. Reaches.read n (le_refl (read_of R w n)))

      later : (m j : ℕ) → j < newest R (view_of w m) → j < newest R (view_of New m)
      later m j b = lt_of_lt_of_le b (g.views m).newest_grew

      behind : (j m i : ℕ) → Reaches w i → j < i → IsMember R m (layout_of New j) → j < newest R (view_of New m)
      behind j m i (Reaches.low a) b x =
          let zero_is : j ≡ 0 = omega arith in
          absurd (nobody_member w s m (back 0 m (omega arith) (subst (λ t. IsMember R m (layout_of New t)) zero_is x)))
      behind j m i (Reaches.read n a) b x =
          let top = read_top w s n in
          later m j (p.behind n j m (omega arith) (back j m (omega arith) x))
      behind j m i (Reaches.by_round t began a) b x =
          let one = p.rounds t began in
          let top = one.under in
          later m j (one.on j m (omega arith) (back j m (omega arith) x))

      least : (m : ℕ) (q : Request) → Has (w.nodes m).requests q → (i : ℕ) → Reaches w i → i ≤ q.start
      least m q has i (Reaches.low a) = le_trans a (start_real w s (w.nodes m) m q (p.requests m q has))
      least m q has i (Reaches.read n a) = le_trans a ((p.requests m q has).least n)
      least m q has i (Reaches.by_round t began a) = le_trans a ((p.rounds t began).late m q has)

      old_request : (m : ℕ) (x : Node L) (q : Request) → newest R (view_of w m) ≤ newest R x.view → entry_of Ack x.view m ≤ q.start → Has (w.nodes m).requests q → IsRequest New x m q
      old_request m x q more acked has =
          let one = p.requests m q has in
          let v = s.views m in
          record {
            member = forth q.start m (le_trans one.within v.under) one.member;
            within = le_trans one.within more;
            acked = acked;
            least = λ n. least m q has (read_of R New n) (all_reach n);
          }

      late : (t : Round) → Has w.began t → (m : ℕ) (q : Request) → Has (New.nodes m).requests q → t.version ≤ q.start
      late t began = at_each w c (λ m x. (q : Request) → Has x.requests q → t.version ≤ q.start)
          (λ m e q has. elim (h.requests m e q has) [ inl old ↦ (p.rounds t began).late m q old.0 | inr fresh ↦ fresh.1 t began ])
          (λ m q has. (p.rounds t began).late m q has)

      old_round : (t : Round) → Has w.began t → IsRound New t
      old_round t began =
          let one = p.rounds t began in
          let n = one.reached.0 in
          record {
            reached = (n, le_trans one.reached.1 (reads_more n));
            under = le_trans one.under g.top;
            on = λ j m b x. let top = one.under in later m j (one.on j m b (back j m (omega arith) x));
            late = late t began;
          }

      -- what is no longer stored was passed before this step
      pub passed_before : (n j m : ℕ) → j < oldest R (view_of New n) → IsMember R m (layout_of New j) → j < read_of R w m
      passed_before = at_each w c (λ n x. (j m : ℕ) → j < oldest R x.view → IsMember R m (layout_of New j) → j < read_of R w m) h.passed
          (λ n j m b x. let v = s.views n in let o = ordered R (view_of w n) v.gapless in let u = v.under in p.passed n j m b (back j m (omega arith) x))

      -- what is acknowledged was read before this step
      pub syncack_before : (n : ℕ) → entry_of SyncAck (view_of New n) n ≤ read_of R w n
      syncack_before = at_each w c (λ n x. entry_of SyncAck x.view n ≤ read_of R w n) h.syncacks s.syncacks

      -- a round that completes began before
      pub began_before : (t : Round) → Has New.completed t → Has w.began t
      began_before t has = elim (has_cases c.completes w.completed t has) [ inl one ↦ h.completes t one | inr old ↦ p.done t old ]

      pub paced_next : IsPaced New
      paced_next = record {
        passed = λ n j m b x. lt_of_lt_of_le (passed_before n j m b x) (reads_more m);
        behind = λ n j m b x. behind j m (read_of R New n) (all_reach n) b x;
        rounds = λ t has. elim (has_cases c.begins w.began t has) [ inl one ↦ h.begins t one | inr old ↦ old_round t old ];
        requests = at_each w c (λ m x. (q : Request) → Has x.requests q → IsRequest New x m q)
            (λ m e q has. elim (h.requests m e q has) [ inl old ↦ old_request m (c.node m) q (hc.below m e).newest_grew old.1 old.0 | inr one ↦ one.0 ])
            (λ m q has. old_request m (w.nodes m) q (le_refl (newest R (view_of w m))) (p.requests m q has).acked has);
        synced = at_each w c (λ n x. (entry_of Sync x.view n ≡ 0) ⊎ Has New.completed (round_of n (entry_of Sync x.view n))) h.synced
            (λ n. elim (p.synced n) [ inl e ↦ inl e | inr has ↦ inr (has_right c.completes w.completed _ has) ]);
        done = λ t has. has_right c.begins w.began t (began_before t has);
        open_ones = at_each w c (λ n x. IfSome x.round (λ i. Has New.began (round_of n i))) h.open_ones
            (λ n. some_weaker (λ i. Has w.began (round_of n i)) (λ i. Has New.began (round_of n i)) (w.nodes n).round (λ i has. has_right c.begins w.began (round_of n i) has) (p.open_ones n));
      }
