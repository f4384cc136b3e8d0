-- Whoever may begin a request, or has one, reads a version that every node still stores or is past.
use Rattle.std.proofs.Common.{◌≡◌, ℕ, suc, ◌<◌, ◌≤◌, Bool, ◌&&◌, ◌==◌, Option, Some, None, List, [], ◌∷◌, IsTrue, IfSome, slice_get, refl, sym, ◌∙◌, ap, subst, inl, inr, ◌⊎◌, arith, eqb-true, eq-eqb, le_refl, le_trans, lt_of_lt_of_le}
use Rattle.std.specs.List.{AllByRecursion}
use Rattle.std.proofs.lemmas.Bool.{cases_lt, and_parts, cond_both, false≢true}
use Rattle.layout_trackers.specs.declared.which.Which.TheVariants.{Sync, SyncAck}
use Rattle.view_model.specs.View.{Reading, View, oldest, newest, layout_at, read_version, merged, cleaned, appended, with_entry, GrewFrom}
use Rattle.view_model.proofs.Joins.{oldest_merged, newest_merged}
use Rattle.view_model.proofs.Cleans.{newest_stays, newest_kept, gapless_cleaned}
use Rattle.view_model.proofs.ReadVersions.{merged_grew}
use Rattle.control_model.specs.Layouts.{IsMember, is_lawful}
use Rattle.control_model.specs.World.{Request, Round, Node, World, Change, next, nothing, empty, view_of, layout_of}
use Rattle.control_model.specs.Steps.{Step, applies, installs, comes, completes, is_current, may_begin, change, step, round_of}
use Rattle.crdt_core.specs.Members.{Has}
use Rattle.control_model.specs.Facts.{read_of}
use Rattle.version_laws.proofs.Tests.{all_both, some_at}
use Rattle.version_laws.proofs.OneView.{ordered, started, grew_at, read_low, read_high, read_below, cleaned_grew, oldest_appended}
use Rattle.version_laws.proofs.WholeViews.{IsView, IsMessage, IsWhole, Grows, at_each, at_one, IsWholeChange, grows, whole_next}
use Rattle.version_laws.proofs.WholeSteps.{One, merge_below, merged_view, whole_change, first_top}
use Rattle.version_laws.proofs.Paced.{IsPaced, nobody_member, zero_or}
use Rattle.version_laws.proofs.PacedSteps.{clean_passed, cleaned_high, some_newest, without-has}
use Rattle.crdt_core.proofs.Each.{all_append, all_weaker}

some_both : {A : Type 0} (P Q : A → Type 0) (o : Option A) → IfSome o P → IfSome o Q → IfSome o (λ x. P x × Q x)
some_both P Q None a b = tt
some_both P Q (Some x) a b = (a, b)

module _ {L : Type 0} (R : Reading L) where
  -- a member m of a view's newest version reads at least o, or would with this view, or has a newer view
  pub data Met (w : World L) (o : ℕ) (v : View L) (m : ℕ) : Type 0 where
    known : o ≤ read_of R w m → Met w o v m
    seen : o ≤ read_version R v → Met w o v m
    stale : newest R v < newest R (view_of w m) → Met w o v m

  abbrev pub IsRecentView : World L → View L → Type 0
  IsRecentView w v = (m : ℕ) → IsMember R m (layout_at R v (newest R v)) → (n : ℕ) → Met w (oldest R (view_of w n)) v m

  pub record IsRecent (w : World L) : Type 0 where
    pub views : (x : ℕ) → IsRecentView w (view_of w x)
    pub sent : AllByRecursion (IsRecentView w) w.sent
    pub asked : (m : ℕ) (q : Request) → Has (w.nodes m).requests q → (n : ℕ) → oldest R (view_of w n) ≤ read_of R w m

  pub member_recent : (w : World L) → IsRecent w → (m : ℕ) → IsMember R m (layout_at R (view_of w m) (newest R (view_of w m))) → (n : ℕ) → oldest R (view_of w n) ≤ read_of R w m
  member_recent w s m mem n = by (s.views m m mem n)
    where
      by : Met w (oldest R (view_of w n)) (view_of w m) m → oldest R (view_of w n) ≤ read_of R w m
      by (Met.known h) = h
      by (Met.seen h) = h
      by (Met.stale h) = absurd (omega arith)

  pub met_less : (w : World L) (o p : ℕ) (v : View L) (m : ℕ) → o ≤ p → Met w p v m → Met w o v m
  met_less w o p v m h (Met.known a) = Met.known (le_trans h a)
  met_less w o p v m h (Met.seen a) = Met.seen (le_trans h a)
  met_less w o p v m h (Met.stale a) = Met.stale a

  module _ (parts : ℕ) where
    -- a view that another one came from, with the same newest version
    pub record From (w : World L) (v : View L) : Type 0 where
      pub old : View L
      pub is_view : IsView R parts w old
      pub is_recent : IsRecentView w old
      pub same_newest : newest R old ≡ newest R v
      pub same_layout : layout_at R old (newest R old) ≡ layout_at R v (newest R v)
      pub reads : read_version R old ≤ read_version R v

    pub record IsRecentChange (w : World L) (c : Change L) : Type 0 where
      pub olds : (n : ℕ) → IsTrue (c.who n) → (v : View L) → IsView R parts w v → IsRecentView w v → (m : ℕ) → IsMember R m (layout_at R v (newest R v)) → Met w (oldest R (c.node n).view) v m
      pub asks : (n : ℕ) → IsTrue (c.who n) → (m : ℕ) (q : Request) → Has (w.nodes m).requests q → oldest R (c.node n).view ≤ read_of R w m
      pub views : (x : ℕ) → IsTrue (c.who x) → From w (c.node x).view ⊎ ((n : ℕ) → oldest R (view_of (next w c) n) ≤ read_version R (c.node x).view)
      pub requests : (m : ℕ) → IsTrue (c.who m) → (q : Request) → Has (c.node m).requests q → Has (w.nodes m).requests q ⊎ ((n : ℕ) → oldest R (view_of (next w c) n) ≤ read_of R (next w c) m)
      pub sends : AllByRecursion (From w) c.sends

    pub same_from : (w : World L) (v : View L) → IsView R parts w v → IsRecentView w v → From w v
    same_from w v iv rv = record { old = v; is_view = iv; is_recent = rv; same_newest = refl; same_layout = refl; reads = le_refl (read_version R v) }

    module _ (w : World L) (c : Change L) (s : IsWhole R parts w) (hc : IsWholeChange R parts w c) (r : IsRecent w) (h : IsRecentChange w c) where
      abbrev New : World L
      New = next w c

      g : Grows R parts w New
      g = grows R parts w c hc

      reads_more : (m : ℕ) → read_of R w m ≤ read_of R New m
      reads_more m = read_below R (view_of w m) (view_of New m) (s.views m).gapless ((whole_next R parts w c s hc).views m).gapless (g.views m)

      met_grows : (o : ℕ) (v x : View L) (m : ℕ) → newest R v ≡ newest R x → read_version R v ≤ read_version R x → Met w o v m → Met New o x m
      met_grows o v x m e a (Met.known b) = Met.known (le_trans b (reads_more m))
      met_grows o v x m e a (Met.seen b) = Met.seen (le_trans b a)
      met_grows o v x m e a (Met.stale b) = Met.stale (let more = (g.views m).newest_grew in omega arith)

      met_all : (v : View L) → IsView R parts w v → IsRecentView w v → (m : ℕ) → IsMember R m (layout_at R v (newest R v)) → (n : ℕ) → Met w (oldest R (view_of New n)) v m
      met_all v iv rv m mem = at_each w c (λ n x. Met w (oldest R x.view) v m) (λ n e. h.olds n e v iv rv m mem) (rv m mem)

      recent_from : (x : View L) → From w x → IsRecentView New x
      recent_from x f m mem n =
          met_grows (oldest R (view_of New n)) f.old x m f.same_newest f.reads (met_all f.old f.is_view f.is_recent m (subst (λ l. IsMember R m l) (sym f.same_layout) mem) n)

      asked_all : (m : ℕ) (q : Request) → Has (w.nodes m).requests q → (n : ℕ) → oldest R (view_of New n) ≤ read_of R New m
      asked_all m q has n =
          le_trans (at_each w c (λ n x. oldest R x.view ≤ read_of R w m) (λ n e. h.asks n e m q has) (r.asked m q has) n) (reads_more m)

      pub recent_next : IsRecent New
      recent_next = record {
        views = at_each w c (λ i x. IsRecentView New x.view)
            (λ i e. elim (h.views i e) [ inl f ↦ recent_from (c.node i).view f | inr all ↦ λ m mem n. Met.seen (all n) ])
            (λ i. recent_from (view_of w i) (same_from w (view_of w i) (s.views i) (r.views i)));
        sent = all_append (IsRecentView New) w.sent c.sends
            (all_weaker (λ v. IsMessage R parts w v × IsRecentView w v) (IsRecentView New) (λ v f. recent_from v (same_from w v f.0.0 f.1)) w.sent (all_both (IsMessage R parts w) (IsRecentView w) w.sent s.sent r.sent))
            (all_weaker (From w) (IsRecentView New) recent_from c.sends h.sends);
        asked = at_each w c (λ m x. (q : Request) → Has x.requests q → (n : ℕ) → oldest R (view_of New n) ≤ read_of R New m)
            (λ m e q has. elim (h.requests m e q has) [ inl old ↦ asked_all m q old | inr all ↦ all ])
            (λ m q has. asked_all m q has);
      }

    module _ (some : 1 ≤ parts) (w : World L) (s : IsWhole R parts w) (p : IsPaced R w) (r : IsRecent w) where
      still_recent : (sends : List (View L)) → AllByRecursion (From w) sends → IsRecentChange w (record (nothing w) { sends = sends })
      still_recent sends f = record {
        olds = λ n e. absurd (false≢true e);
        asks = λ n e. absurd (false≢true e);
        views = λ n e. absurd (false≢true e);
        requests = λ n e. absurd (false≢true e);
        sends = f;
      }

      -- a view grows with the same layouts, and no request begins
      raised_recent : (n : ℕ) (x : Node L) (begins completes : List Round) (asked : ℕ) → IsWholeChange R parts w (One R parts w n x begins completes asked) → (view_of w n).layouts ≡ x.view.layouts → ((q : Request) → Has x.requests q → Has (w.nodes n).requests q) → IsRecentChange w (One R parts w n x begins completes asked)
      raised_recent n x begins completes asked hc layouts less =
          let own = view_of w n in
          let self : IsTrue (n == n) = eq-eqb n n refl in
          let same_view : oldest R own ≡ oldest R x.view = ap (λ ls. oldest R (record own { layouts = ls })) layouts in
          record {
            olds = λ m e v iv rv i mem. subst (λ o. Met w o v i) same_view (rv i mem n);
            asks = λ m e i q has. subst (λ o. o ≤ read_of R w i) same_view (r.asked i q has n);
            views = λ m e. inl (record {
              old = own;
              is_view = s.views n;
              is_recent = r.views n;
              same_newest = ap (λ ls. newest R (record own { layouts = ls })) layouts;
              same_layout = ap (λ ls. layout_at R (record own { layouts = ls }) (newest R (record own { layouts = ls }))) layouts;
              reads = read_below R own x.view (s.views n).gapless (hc.views n self).gapless (hc.below n self);
            });
            requests = λ m e q has. at_one n (λ m. Has (w.nodes m).requests q ⊎ ((i : ℕ) → oldest R (view_of (next w (One R parts w n x begins completes asked)) i) ≤ read_of R (next w (One R parts w n x begins completes asked)) m)) (inl (less q has)) m e;
            sends = tt;
          }

      -- ---- a view arrives

      -- the newer of two views that are merged has its newest layout
      by_layout : (a b : View L) → IsView R parts w a → IsView R parts w b → GrewFrom R a b → newest R a ≡ newest R b → layout_at R a (newest R a) ≡ layout_at R b (newest R b)
      by_layout a b p q less e =
          let o = ordered R b q.gapless in
          grew_at R a b p.gapless q.gapless less (newest R a) (omega arith) (le_refl (newest R a)) ∙ ap (layout_at R b) e

      -- with the view that came, this node's view is one from which it grew with the same newest version
      comes_from : (n : ℕ) (v : View L) → IsView R parts w v → IsRecentView w v → IsView R parts w (merged R (view_of w n) v) → From w (merged R (view_of w n) v)
      comes_from n v other recent both =
          let own = view_of w n in
          let m = merged R own v in
          let mine = s.views n in
          let left = merged_grew R own v mine.gapless other.gapless in
          let right = merge_below R parts w own v mine other in
          let t = newest_merged R own v mine.gapless other.gapless in
          elim (cases_lt (newest R own) (newest R v)) [
            | inl less ↦ record {
              old = v;
              is_view = other;
              is_recent = recent;
              same_newest = omega arith;
              same_layout = by_layout v m other both right (omega arith);
              reads = read_below R v m other.gapless both.gapless right;
            }
            | inr more ↦ record {
              old = own;
              is_view = mine;
              is_recent = r.views n;
              same_newest = omega arith;
              same_layout = by_layout own m mine both left (omega arith);
              reads = read_below R own m mine.gapless both.gapless left;
            }
          ]

      comes_recent : (n : ℕ) (o : Option (View L)) → IfSome o (λ v. (IsMessage R parts w v × IsView R parts w (merged R (view_of w n) v)) × IsRecentView w v) → IsWholeChange R parts w (comes R w n o) → IsRecentChange w (comes R w n o)
      comes_recent n None h hc = still_recent [] tt
      comes_recent n (Some v) h hc =
          let own = view_of w n in
          let m = merged R own v in
          let mine = s.views n in
          let other = h.0.0.0 in
          let y = h.0.0.1.0 in
          let old_y = h.0.0.1.1.oldest_grew in
          let o = oldest_merged R own v mine.gapless other.gapless in
          record {
            olds = λ i e x ix rx k mem.
                elim (cases_lt (oldest R own) (oldest R v)) [
                  | inl less ↦ met_less w (oldest R m) (oldest R (view_of w y)) x k (omega arith) (rx k mem y)
                  | inr more ↦ met_less w (oldest R m) (oldest R own) x k (omega arith) (rx k mem n)
                ];
            asks = λ i e k q has. let a = r.asked k q has n in let b = r.asked k q has y in omega arith;
            views = λ i e. inl (comes_from n v other h.1 h.0.1);
            requests = λ i e q has. at_one n (λ i. Has (w.nodes i).requests q ⊎ ((k : ℕ) → oldest R (view_of (next w (comes R w n (Some v))) k) ≤ read_of R (next w (comes R w n (Some v))) i)) (inl has) i e;
            sends = tt;
          }

      -- ---- a clean

      -- a view with a version past those of a node that cleans: its applier was a member of the newest that the node has
      past : (n : ℕ) (v : View L) → IsView R parts w v → newest R (view_of w n) < newest R v → (oldest R (cleaned R (view_of w n)) ≡ oldest R (view_of w n)) ⊎ (oldest R (cleaned R (view_of w n)) ≤ read_version R v)
      past n v iv more =
          let own = view_of w n in
          let mine = s.views n in
          let high = cleaned_high R parts some w s p n in
          let i = suc (newest R own) in
          let under = iv.under in
          elim (zero_or (newest R own)) [
            | inl z ↦ inr (omega arith)
            | inr one ↦
                let a = s.appliers i (omega arith) (omega arith) in
                let by = (w.applied i).by in
                let origin = (w.applied i).origin in
                elim (clean_passed R parts some w s p n by (newest R own) (ordered R own mine.gapless) (le_refl (newest R own)) a.member) [
                  | inl e ↦ inl e
                  | inr h ↦
                      let before = mine.before i (omega arith) (omega arith) (omega arith) SyncAck in
                      let since = iv.since i (omega arith) (omega arith) in
                      inr (le_trans h (le_trans before (le_trans a.acked (read_below R origin v a.gapless iv.gapless since))))
                ]
          ]

      clean_met : (n : ℕ) (v : View L) → IsView R parts w v → IsRecentView w v → (m : ℕ) → IsMember R m (layout_at R v (newest R v)) → Met w (oldest R (cleaned R (view_of w n))) v m
      clean_met n v iv rv m mem =
          let own = view_of w n in
          let mine = s.views n in
          let world_mem : IsMember R m (layout_of w (newest R v)) = subst (λ l. IsMember R m l) (iv.agrees (newest R v) (ordered R v iv.gapless) (le_refl (newest R v))) mem in
          elim (cases_lt (newest R v) (oldest R own)) [
            | inl less ↦ Met.stale (lt_of_lt_of_le (p.passed n (newest R v) m less world_mem) (read_high R (view_of w m)))
            | inr stored ↦ elim (cases_lt (newest R own) (newest R v)) [
              | inl more ↦ elim (past n v iv more) [
                | inl e ↦ subst (λ o. Met w o v m) (sym e) (rv m mem n)
                | inr h ↦ Met.seen h
              ]
              | inr at ↦ elim (clean_passed R parts some w s p n m (newest R v) stored at world_mem) [
                | inl e ↦ subst (λ o. Met w o v m) (sym e) (rv m mem n)
                | inr h ↦ Met.known (le_trans h (le_trans (mine.known SyncAck m) (s.syncacks m)))
              ]
            ]
          ]

      clean_asks : (n m : ℕ) (q : Request) → Has (w.nodes m).requests q → oldest R (cleaned R (view_of w n)) ≤ read_of R w m
      clean_asks n m q has =
          let own = view_of w n in
          let mine = s.views n in
          let one = p.requests m q has in
          let before = r.asked m q has n in
          let within = one.within in
          elim (cases_lt q.start (oldest R own)) [
            | inl less ↦ let a = p.passed n q.start m less one.member in let b = one.least m in absurd (omega arith)
            | inr stored ↦ elim (cases_lt (newest R own) q.start) [
              | inl more ↦ elim (past n (view_of w m) (s.views m) (omega arith)) [ inl e ↦ omega arith | inr h ↦ h ]
              | inr at ↦ elim (clean_passed R parts some w s p n m q.start stored at one.member) [
                | inl e ↦ omega arith
                | inr h ↦ le_trans h (le_trans (mine.known SyncAck m) (s.syncacks m))
              ]
            ]
          ]

      clean_recent : (n : ℕ) → IsWholeChange R parts w (change R parts w (Step.Clean n)) → IsRecentChange w (change R parts w (Step.Clean n))
      clean_recent n hc =
          let own = view_of w n in
          let mine = s.views n in
          let v = cleaned R own in
          let stays = newest_stays R own mine.gapless in
          record {
            olds = λ i e x ix rx m mem. clean_met n x ix rx m mem;
            asks = λ i e m q has. clean_asks n m q has;
            views = λ i e. inl (record {
              old = own;
              is_view = mine;
              is_recent = r.views n;
              same_newest = sym stays;
              same_layout = sym (newest_kept R own mine.gapless) ∙ ap (layout_at R v) (sym stays);
              reads = read_below R own v mine.gapless (gapless_cleaned R own mine.gapless) (cleaned_grew R own mine.gapless);
            });
            requests = λ i e q has. at_one n (λ i. Has (w.nodes i).requests q ⊎ ((k : ℕ) → oldest R (view_of (next w (change R parts w (Step.Clean n))) k) ≤ read_of R (next w (change R parts w (Step.Clean n))) i)) (inl has) i e;
            sends = tt;
          }

      -- ---- a request begins

      begin_recent : (n : ℕ) → IsTrue (is_current R (view_of w n) n) →
          (let v = view_of w n in
          let c = One R parts w n (record (w.nodes n) { requests = record { number = suc w.asked; start = newest R v } ∷ (w.nodes n).requests }) [] [] (suc w.asked) in IsWholeChange R parts w c → IsRecentChange w c)
      begin_recent n member hc =
          let v = view_of w n in
          let one : Request = record { number = suc w.asked; start = newest R v } in
          let x = record (w.nodes n) { requests = one ∷ (w.nodes n).requests } in
          let c = One R parts w n x [] [] (suc w.asked) in
          let g = grows R parts w c hc in
          let all : (k : ℕ) → oldest R (view_of (next w c) k) ≤ read_version R v = at_each w c (λ k y. oldest R y.view ≤ read_version R v) (λ k e. read_low R v (s.views n).gapless) (member_recent w r n member) in
          let more : (m : ℕ) → read_of R w m ≤ read_of R (next w c) m = λ m. read_below R (view_of w m) (view_of (next w c) m) (s.views m).gapless ((whole_next R parts w c s hc).views m).gapless (g.views m) in
          record {
            olds = λ m e y iv rv i mem. rv i mem n;
            asks = λ m e i q has. r.asked i q has n;
            views = λ m e. inl (same_from w v (s.views n) (r.views n));
            requests = λ m e q has. at_one n (λ m. Has (w.nodes m).requests q ⊎ ((k : ℕ) → oldest R (view_of (next w c) k) ≤ read_of R (next w c) m))
                (elim has [ inl _ ↦ inr (λ k. le_trans (all k) (more n)) | inr old ↦ inl old ]) m e;
            sends = tt;
          }

      -- ---- a new version

      apply_recent : (n : ℕ) (l : L) → IsTrue (is_current R (view_of w n) n) → (let c = applies R w n l (appended R (view_of w n) l) in IsWholeChange R parts w c → IsRecentChange w c)
      apply_recent n l member hc =
          let own = view_of w n in
          let v = appended R own l in
          let c = applies R w n l v in
          let mine = s.views n in
          let self : IsTrue (n == n) = eq-eqb n n refl in
          let reads : read_version R own ≤ read_version R v = read_below R own v mine.gapless (hc.views n self).gapless (hc.below n self) in
          let real : 1 ≤ oldest R own = started R own mine.gapless (some_newest R parts some w s p n member) in
          let same_oldest : oldest R v ≡ oldest R own = oldest_appended R own l real in
          record {
            olds = λ i e x ix rx m mem. subst (λ o. Met w o x m) (sym same_oldest) (rx m mem n);
            asks = λ i e m q has. subst (λ o. o ≤ read_of R w m) (sym same_oldest) (r.asked m q has n);
            views = λ i e. inr (at_each w c (λ k y. oldest R y.view ≤ read_version R v) (λ k e. read_low R v (hc.views n self).gapless) (λ k. le_trans (member_recent w r n member k) reads));
            requests = λ i e q has. at_one n (λ i. Has (w.nodes i).requests q ⊎ ((k : ℕ) → oldest R (view_of (next w c) k) ≤ read_of R (next w c) i)) (inl has) i e;
            sends = tt;
          }

      none_yet : w.top ≡ 0 → (v : View L) → IsView R parts w v → (m : ℕ) → IsMember R m (layout_at R v (newest R v)) → ⊥
      none_yet none v iv m mem =
          let u = iv.under in
          let z : newest R v ≡ 0 = omega arith in
          nobody_member R parts w s m (subst (λ t. IsMember R m (layout_of w t)) z (subst (λ l. IsMember R m l) (iv.agrees (newest R v) (ordered R v iv.gapless) (le_refl (newest R v))) mem))

      install_recent : (who : ℕ → Bool) (l : L) → IsTrue (is_lawful R parts 1 l) → w.top ≡ 0 → (let c = installs R w who l in IsWholeChange R parts w c → IsRecentChange w c)
      install_recent who l lawful none hc =
          let c = installs R w who l in
          let new = whole_next R parts w c s hc in
          record {
            olds = λ i e x ix rx m mem. absurd (none_yet none x ix m mem);
            asks = λ i e m q has.
                (let one = p.requests m q has in let a = one.within in let v = s.views m in let u = v.under in
                let z : q.start ≡ 0 = omega arith in
                absurd (nobody_member R parts w s m (subst (λ t. IsMember R m (layout_of w t)) z one.member)));
            views = λ i e. inr (λ k.
                let v = new.views k in let o = ordered R (view_of (next w c) k) v.gapless in let u = v.under in
                let g = (hc.views i e).gapless in
                let low = read_low R (c.node i).view g in
                let t = first_top R parts w s who l lawful none i in
                let one : 1 ≤ oldest R (c.node i).view = started R (c.node i).view g (omega arith) in
                omega arith);
            requests = λ i e q has. inl has;
            sends = tt;
          }

    -- ---- every step

    merged_at : (w : World L) (n k : ℕ) → IsWhole R parts w → IfSome (slice_get w.sent k) (λ v. IsMessage R parts w v × IsView R parts w (merged R (view_of w n) v))
    merged_at w n k s = some_at (λ v. IsMessage R parts w v × IsView R parts w (merged R (view_of w n) v)) w.sent k
        (all_weaker (IsMessage R parts w) (λ v. IsMessage R parts w v × IsView R parts w (merged R (view_of w n) v)) (λ v m. (m, merged_view R parts w (view_of w n) v (s.views n) m.0)) w.sent s.sent)

    pub recent_change : (some : 1 ≤ parts) (w : World L) (e : Step L) → IsWhole R parts w → IsPaced R w → IsRecent w → IsWholeChange R parts w (change R parts w e) → IsRecentChange w (change R parts w e)
    recent_change some w (Step.Install who l) s p r =
        cond_both ((w.top == 0) && is_lawful R parts 1 l) (installs R w who l) (nothing w) (λ c. IsWholeChange R parts w c → IsRecentChange w c)
        (λ t. let both = and_parts (w.top == 0) (is_lawful R parts 1 l) t in install_recent some w s p r who l both.1 (eqb-true w.top 0 both.0))
        (λ _ _. still_recent some w s p r [] tt)
    recent_change some w (Step.Apply n l) s p r =
        let v = view_of w n in
        let a = is_current R v n in
        let b = (newest R v == w.top) && is_lawful R parts (suc w.top) l in
        cond_both (a && b) (applies R w n l (appended R v l)) (nothing w) (λ c. IsWholeChange R parts w c → IsRecentChange w c)
        (λ t. apply_recent some w s p r n l (and_parts a b t).0)
        (λ _ _. still_recent some w s p r [] tt)
    recent_change some w (Step.Gossip n) s p r = λ hc. still_recent some w s p r (view_of w n ∷ []) (same_from w (view_of w n) (s.views n) (r.views n), tt)
    recent_change some w (Step.Deliver n k) s p r =
        comes_recent some w s p r n (slice_get w.sent k) (some_both (λ v. IsMessage R parts w v × IsView R parts w (merged R (view_of w n) v)) (IsRecentView w) (slice_get w.sent k) (merged_at w n k s) (some_at (IsRecentView w) w.sent k r.sent))
    recent_change some w (Step.RaiseAck n) s p r = λ hc. raised_recent some w s p r n _ [] [] w.asked hc refl (λ q has. has)
    recent_change some w (Step.RaiseSyncAck n) s p r = λ hc. raised_recent some w s p r n _ [] [] w.asked hc refl (λ q has. has)
    recent_change some w (Step.Clean n) s p r = clean_recent some w s p r n
    recent_change some w (Step.Begin n) s p r =
        cond_both (is_current R (view_of w n) n) _ (nothing w) (λ c. IsWholeChange R parts w c → IsRecentChange w c)
        (λ t. begin_recent some w s p r n t)
        (λ _ _. still_recent some w s p r [] tt)
    recent_change some w (Step.End n q) s p r = λ hc. raised_recent some w s p r n _ [] [] w.asked hc refl (without-has q (w.nodes n).requests)
    recent_change some w (Step.BeginRound n) s p r =
        let i = suc (read_of R w n) in
        cond_both (may_begin R (w.nodes n) n i) _ (nothing w) (λ c. IsWholeChange R parts w c → IsRecentChange w c)
        (λ _ hc. raised_recent some w s p r n (record (w.nodes n) { round = Some i }) (round_of n i ∷ []) [] w.asked hc refl (λ q has. has))
        (λ _ _. still_recent some w s p r [] tt)
    recent_change some w (Step.Complete n) s p r = by (w.nodes n).round
      where
        by : (o : Option ℕ) → IsWholeChange R parts w (completes R w n o) → IsRecentChange w (completes R w n o)
        by None hc = still_recent some w s p r [] tt
        by (Some i) hc = raised_recent some w s p r n (record (w.nodes n) { view = with_entry R Sync n i (view_of w n); round = None }) [] (round_of n i ∷ []) w.asked hc refl (λ q has. has)
    recent_change some w (Step.Restart n) s p r = λ hc. raised_recent some w s p r n _ [] [] w.asked hc refl (λ q has. absurd has)

    pub step_recent : (some : 1 ≤ parts) (w : World L) (e : Step L) → IsWhole R parts w → IsPaced R w → IsRecent w → IsRecent (step R parts w e)
    step_recent some w e s p r =
        let hc = whole_change R parts w e s in
        recent_next w (change R parts w e) s hc r (recent_change some w e s p r hc)

pub empty_recent : {L : Type 0} (R : Reading L) → IsRecent R empty
empty_recent R = record {
  views = λ x m mem. absurd (false≢true mem);
  sent = tt;
  asked = λ m q has. absurd has;
}
