-- Views travel whole: what each view has, and that it only grows.
use Rattle.std.proofs.Common.{◌≡◌, ℕ, pred, ◌<◌, ◌≤◌, false, ◌==◌, IsTrue, Option, Some, None, sym, ◌∙◌, ap, subst, inl, inr, arith, eqb-true, le_trans}
use Rattle.std.specs.List.{AllByRecursion}
use Rattle.std.proofs.lemmas.Bool.{cases_lt, cond_both}
use Rattle.layout_trackers.specs.declared.which.Which.{Which}
use Rattle.layout_trackers.specs.declared.which.Which.TheVariants.{Ack, SyncAck}
use Rattle.view_model.specs.View.{Reading, View, oldest, newest, layout_at, read_version, GrewFrom}
use Rattle.control_model.specs.Layouts.{IsMember, is_lawful}
use Rattle.control_model.specs.World.{Node, Applied, World, Change, next, view_of, layout_of}
use Rattle.control_model.specs.Facts.{entry_of}
use Rattle.version_laws.proofs.OneView.{Gapless, grew_refl, grew_trans, entries_grew}
use Rattle.crdt_core.proofs.Each.{all_append, all_weaker}

-- a fact of each node after a change
pub at_each : {L : Type 0} (w : World L) (c : Change L) (P : ℕ → Node L → Type 0) → ((n : ℕ) → IsTrue (c.who n) → P n (c.node n)) → ((n : ℕ) → P n (w.nodes n)) → (n : ℕ) → P n ((next w c).nodes n)
at_each w c P new old n = cond_both (c.who n) (c.node n) (w.nodes n) (P n) (new n) (λ _. old n)

-- the same, where the fact of an unchanged node needs that it is unchanged
pub at_each_apart : {L : Type 0} (w : World L) (c : Change L) (P : ℕ → Node L → Type 0) → ((n : ℕ) → IsTrue (c.who n) → P n (c.node n)) → ((n : ℕ) → c.who n ≡ false → P n (w.nodes n)) → (n : ℕ) → P n ((next w c).nodes n)
at_each_apart w c P new old n = cond_both (c.who n) (c.node n) (w.nodes n) (P n) (new n) (old n)

pub at_one : (n : ℕ) (P : ℕ → Type 0) → P n → (m : ℕ) → IsTrue (m == n) → P m
at_one n P p m e = subst P (sym (eqb-true m n e)) p

module _ {L : Type 0} (R : Reading L) (parts : ℕ) where
  -- what a view has, in a node or in a message
  pub record IsView (w : World L) (v : View L) : Type 0 where
    pub gapless : Gapless R v
    pub under : newest R v ≤ w.top
    pub agrees : (i : ℕ) → oldest R v ≤ i → i ≤ newest R v → layout_at R v i ≡ layout_of w i
    pub known : (k : Which) (n : ℕ) → entry_of k v n ≤ entry_of k (view_of w n) n
    pub since : (i : ℕ) → 2 ≤ i → i ≤ newest R v → GrewFrom R (w.applied i).origin v
    pub before : (i : ℕ) → 2 ≤ i → newest R v < i → i ≤ w.top → (k : Which) → entry_of k v (w.applied i).by ≤ entry_of k (w.applied i).origin (w.applied i).by

  -- a message's view is one that some node has, or has grown from
  abbrev pub IsMessage : World L → View L → Type 0
  IsMessage w v = IsView w v × ((n : ℕ) × GrewFrom R v (view_of w n))

  pub record IsApplier (w : World L) (i : ℕ) : Type 0 where
    pub gapless : Gapless R (w.applied i).origin
    pub acked : entry_of SyncAck (w.applied i).origin (w.applied i).by ≤ read_version R (w.applied i).origin
    pub member : IsMember R (w.applied i).by (layout_of w (pred i))
    pub has : i ≤ newest R (view_of w (w.applied i).by)

  abbrev pub Lawful : ℕ → Option L → Type 0
  Lawful i o = (l : L) × (o ≡ Some l) × IsTrue (is_lawful R parts i l)

  pub record IsWhole (w : World L) : Type 0 where
    pub views : (n : ℕ) → IsView w (view_of w n)
    pub sent : AllByRecursion (IsMessage w) w.sent
    pub acks : (n : ℕ) → entry_of Ack (view_of w n) n ≤ newest R (view_of w n)
    pub syncacks : (n : ℕ) → entry_of SyncAck (view_of w n) n ≤ read_version R (view_of w n)
    pub appliers : (i : ℕ) → 2 ≤ i → i ≤ w.top → IsApplier w i
    pub lawful : (i : ℕ) → 1 ≤ i → i ≤ w.top → Lawful i (layout_of w i)
    pub nobody_first : layout_of w 0 ≡ None

  -- what lasts
  pub record Grows (w new : World L) : Type 0 where
    pub views : (n : ℕ) → GrewFrom R (view_of w n) (view_of new n)
    pub top : w.top ≤ new.top
    pub applied : (i : ℕ) → i ≤ w.top → w.applied i ≡ new.applied i
    pub fresh : (i : ℕ) → 2 ≤ i → w.top < i → i ≤ new.top → (k : Which) → entry_of k (view_of w (new.applied i).by) (new.applied i).by ≤ entry_of k (new.applied i).origin (new.applied i).by

  pub same_layout : (w new : World L) → Grows w new → (i : ℕ) → i ≤ w.top → layout_of w i ≡ layout_of new i
  same_layout w new g i h = ap (λ (a : Applied L). a.layout) (g.applied i h)

  pub view_grows : (w new : World L) → Grows w new → (v : View L) → IsView w v → IsView new v
  view_grows w new g v h = record {
    gapless = h.gapless;
    under = le_trans h.under g.top;
    agrees = λ i a b. h.agrees i a b ∙ same_layout w new g i (le_trans b h.under);
    known = λ k n. le_trans (h.known k n) (entries_grew R (view_of w n) (view_of new n) (g.views n) k n);
    since = λ i two b. subst (λ (a : Applied L). GrewFrom R a.origin v) (g.applied i (le_trans b h.under)) (h.since i two b);
    before = λ i two b c k.
        elim (cases_lt w.top i) [
          | inl more ↦ le_trans (h.known k (new.applied i).by) (g.fresh i two more c k)
          | inr old ↦ subst (λ (a : Applied L). entry_of k v a.by ≤ entry_of k a.origin a.by) (g.applied i old) (h.before i two b old k)
        ];
  }

  pub message_grows : (w new : World L) → Grows w new → (v : View L) → IsMessage w v → IsMessage new v
  message_grows w new g v h = (view_grows w new g v h.0, (h.1.0, grew_trans R v (view_of w h.1.0) (view_of new h.1.0) h.1.1 (g.views h.1.0)))

  -- what a change keeps whole
  pub record IsWholeChange (w : World L) (c : Change L) : Type 0 where
    pub below : (n : ℕ) → IsTrue (c.who n) → GrewFrom R (view_of w n) (c.node n).view
    pub views : (n : ℕ) → IsTrue (c.who n) → IsView (next w c) (c.node n).view
    pub acks : (n : ℕ) → IsTrue (c.who n) → entry_of Ack (c.node n).view n ≤ newest R (c.node n).view
    pub syncacks : (n : ℕ) → IsTrue (c.who n) → entry_of SyncAck (c.node n).view n ≤ read_version R (c.node n).view
    pub sends : AllByRecursion (IsMessage (next w c)) c.sends
    pub top : w.top ≤ c.top
    pub applied : (i : ℕ) → i ≤ w.top → w.applied i ≡ c.applied i
    pub fresh : (i : ℕ) → 2 ≤ i → w.top < i → i ≤ c.top → (k : Which) → entry_of k (view_of w (c.applied i).by) (c.applied i).by ≤ entry_of k (c.applied i).origin (c.applied i).by
    pub appliers : (i : ℕ) → 2 ≤ i → w.top < i → i ≤ c.top → IsApplier (next w c) i
    pub lawful : (i : ℕ) → w.top < i → i ≤ c.top → Lawful i (c.applied i).layout

  pub grows_by : (w : World L) (c : Change L) → ((n : ℕ) → IsTrue (c.who n) → GrewFrom R (view_of w n) (c.node n).view) → w.top ≤ c.top → ((i : ℕ) → i ≤ w.top → w.applied i ≡ c.applied i) → ((i : ℕ) → 2 ≤ i → w.top < i → i ≤ c.top → (k : Which) → entry_of k (view_of w (c.applied i).by) (c.applied i).by ≤ entry_of k (c.applied i).origin (c.applied i).by) → Grows w (next w c)
  grows_by w c below top applied fresh = record {
    views = at_each w c (λ n x. GrewFrom R (view_of w n) x.view) below (λ n. grew_refl R (view_of w n));
    top = top;
    applied = applied;
    fresh = fresh;
  }

  pub grows : (w : World L) (c : Change L) → IsWholeChange w c → Grows w (next w c)
  grows w c h = grows_by w c h.below h.top h.applied h.fresh

  old_applier : (w : World L) (c : Change L) → IsWhole w → IsWholeChange w c → (i : ℕ) → 2 ≤ i → i ≤ w.top → IsApplier (next w c) i
  old_applier w c s h i two old =
      let g = grows w c h in
      let a = s.appliers i two old in
      let e = h.applied i old in
      let f = h.applied (pred i) (omega arith) in
      record {
        gapless = subst (λ (x : Applied L). Gapless R x.origin) e a.gapless;
        acked = subst (λ (x : Applied L). entry_of SyncAck x.origin x.by ≤ read_version R x.origin) e a.acked;
        member = subst (λ (x : Applied L). IsMember R x.by (c.applied (pred i)).layout) e (subst (λ (x : Applied L). IsMember R (w.applied i).by x.layout) f a.member);
        has = subst (λ (x : Applied L). i ≤ newest R (view_of (next w c) x.by)) e (le_trans a.has (g.views (w.applied i).by).newest_grew);
      }

  pub whole_next : (w : World L) (c : Change L) → IsWhole w → IsWholeChange w c → IsWhole (next w c)
  whole_next w c s h =
      let g = grows w c h in
      record {
        views = at_each w c (λ n x. IsView (next w c) x.view) h.views (λ n. view_grows w (next w c) g (view_of w n) (s.views n));
        sent = all_append (IsMessage (next w c)) w.sent c.sends (all_weaker (IsMessage w) (IsMessage (next w c)) (message_grows w (next w c) g) w.sent s.sent) h.sends;
        acks = at_each w c (λ n x. entry_of Ack x.view n ≤ newest R x.view) h.acks s.acks;
        syncacks = at_each w c (λ n x. entry_of SyncAck x.view n ≤ read_version R x.view) h.syncacks s.syncacks;
        appliers = λ i two b.
            elim (cases_lt w.top i) [
              | inl more ↦ h.appliers i two more b
              | inr old ↦ old_applier w c s h i two old
            ];
        lawful = λ i one b.
            elim (cases_lt w.top i) [
              | inl more ↦ h.lawful i more b
              | inr old ↦ subst (λ (a : Applied L). Lawful i a.layout) (h.applied i old) (s.lawful i one old)
            ];
        nobody_first = sym (ap (λ (a : Applied L). a.layout) (h.applied 0 (omega arith))) ∙ s.nobody_first;
      }
