-- Each step keeps views whole.
use Rattle.std.proofs.Common.{◌≡◌, ℕ, suc, pred, ◌<◌, ◌≤◌, Bool, ◌&&◌, ◌==◌, Option, Some, None, List, [], ◌∷◌, IsTrue, IfSome, slice_get, refl, sym, ◌∙◌, ap, subst, inl, inr, arith, eqb-true, eq-eqb, le_refl, le_trans}
use Rattle.std.proofs.lemmas.Bool.{eqb-false, cases_lt, cases_Bool, and_parts, cond_both, cond-true, false≢true}
use Rattle.layout_trackers.specs.declared.which.Which.{Which}
use Rattle.layout_trackers.specs.declared.which.Which.TheVariants.{Ack, Sync, SyncAck}
use Rattle.view_model.specs.View.{Reading, View, oldest, newest, layout_at, read_version, merged, Agree, cleaned, appended, with_entry, GrewFrom}
use Rattle.view_model.proofs.Joins.{gapless_merged, oldest_merged, newest_merged}
use Rattle.view_model.proofs.Cleans.{gapless_cleaned, newest_stays}
use Rattle.view_model.proofs.ReadVersions.{merged_grew, merged_grew_other, raised_grew, appended_grew}
use Rattle.control_model.specs.Layouts.{IsMember, is_lawful}
use Rattle.control_model.specs.World.{Request, Round, Node, Applied, World, Change, next, nothing, only, unseen, empty, view_of, layout_of}
use Rattle.control_model.specs.Steps.{Step, applies, installs, with_view, comes, least_start, without, completes, is_current, may_begin, change, step, round_of}
use Rattle.control_model.specs.Facts.{entry_of}
use Rattle.version_laws.proofs.Tests.{some_at, some_is}
use Rattle.version_laws.proofs.OneView.{syncack_not_ack, ack_not_syncack, syncack_not_sync, ack_not_sync, Gapless, grew_refl, grew_trans, merged_entry, own_entry, other_node, other_kind, range_of, ordered, started, grew_at, read_below, cleaned_grew, at_appended, at_new, newest_new, gapless_new}
use Rattle.version_laws.proofs.WholeViews.{at_each, at_each_apart, at_one, IsView, IsMessage, IsApplier, Lawful, IsWhole, Grows, view_grows, IsWholeChange, grows_by, grows, whole_next}

pub least_start-le : (d : ℕ) (qs : List Request) → least_start d qs ≤ d
least_start-le d [] = le_refl d
least_start-le d (q ∷ qs) = let h = least_start-le d qs in omega arith

module _ {L : Type 0} (R : Reading L) (parts : ℕ) where
  pub nothing_whole : (w : World L) → IsWholeChange R parts w (nothing w)
  nothing_whole w = record {
    below = λ n e. absurd (false≢true e);
    views = λ n e. absurd (false≢true e);
    acks = λ n e. absurd (false≢true e);
    syncacks = λ n e. absurd (false≢true e);
    sends = tt;
    top = le_refl w.top;
    applied = λ i h. refl;
    fresh = λ i two a b k. absurd (omega arith);
    appliers = λ i two a b. absurd (omega arith);
    lawful = λ i a b. absurd (omega arith);
  }

  gossip_whole : (w : World L) (n : ℕ) → IsWhole R parts w → IsWholeChange R parts w (change R parts w (Step.Gossip n))
  gossip_whole w n s =
      let c = change R parts w (Step.Gossip n) in
      let g : Grows R parts w (next w c) = grows_by R parts w c (λ m e. absurd (false≢true e)) (le_refl w.top) (λ i h. refl) (λ i two a b k. absurd (omega arith)) in
      record {
        below = λ m e. absurd (false≢true e);
        views = λ m e. absurd (false≢true e);
        acks = λ m e. absurd (false≢true e);
        syncacks = λ m e. absurd (false≢true e);
        sends = ((view_grows R parts w (next w c) g (view_of w n) (s.views n), (n, grew_refl R (view_of w n))), tt);
        top = le_refl w.top;
        applied = λ i h. refl;
        fresh = λ i two a b k. absurd (omega arith);
        appliers = λ i two a b. absurd (omega arith);
        lawful = λ i a b. absurd (omega arith);
      }

  -- one node changes, and no version is new
  abbrev pub One : World L → ℕ → Node L → List Round → List Round → ℕ → Change L
  One w n x begins completes asked = record { who = λ m. m == n; node = λ _. x; sends = []; top = w.top; applied = w.applied; begins = begins; completes = completes; asked = asked }

  module _ (w : World L) (s : IsWhole R parts w) (n : ℕ) (x : Node L) (begins completes : List Round) (asked : ℕ) (below : GrewFrom R (view_of w n) x.view) where
    abbrev After : World L
    After = next w (One w n x begins completes asked)

    pub one_grows : Grows R parts w After
    one_grows = grows_by R parts w (One w n x begins completes asked) (λ m e. at_one n (λ m. GrewFrom R (view_of w m) x.view) below m e) (le_refl w.top) (λ i h. refl) (λ i two a b k. absurd (omega arith))

    pub one_whole : IsView R parts After x.view → entry_of Ack x.view n ≤ newest R x.view → entry_of SyncAck x.view n ≤ read_version R x.view → IsWholeChange R parts w (One w n x begins completes asked)
    one_whole v a k = record {
      below = λ m e. at_one n (λ m. GrewFrom R (view_of w m) x.view) below m e;
      views = λ m e. v;
      acks = λ m e. at_one n (λ m. entry_of Ack x.view m ≤ newest R x.view) a m e;
      syncacks = λ m e. at_one n (λ m. entry_of SyncAck x.view m ≤ read_version R x.view) k m e;
      sends = tt;
      top = le_refl w.top;
      applied = λ i h. refl;
      fresh = λ i two a b k. absurd (omega arith);
      appliers = λ i two a b. absurd (omega arith);
      lawful = λ i a b. absurd (omega arith);
    }

    -- an unchanged view
    pub same_whole : x.view ≡ view_of w n → IsWholeChange R parts w (One w n x begins completes asked)
    same_whole e =
        one_whole
        (subst (IsView R parts After) (sym e) (view_grows R parts w After one_grows (view_of w n) (s.views n)))
        (subst (λ (v : View L). entry_of Ack v n ≤ newest R v) (sym e) (s.acks n))
        (subst (λ (v : View L). entry_of SyncAck v n ≤ read_version R v) (sym e) (s.syncacks n))

  -- ---- a view arrives

  -- views that go back to the same versions agree
  pub agree : (w : World L) (a b : View L) → IsView R parts w a → IsView R parts w b → Agree R a b
  agree w a b p q i x y e f =
      let in_a = range_of R a p.gapless i x e in
      let in_b = range_of R b q.gapless i y f in
      some_is x y (sym e ∙ (p.agrees i in_a.0 in_a.1 ∙ (sym (q.agrees i in_b.0 in_b.1) ∙ f)))

  pub merge_below : (w : World L) (a b : View L) → IsView R parts w a → IsView R parts w b → GrewFrom R b (merged R a b)
  merge_below w a b p q = merged_grew_other R a b p.gapless q.gapless (agree w a b p q)

  merged_agrees : (w : World L) (a b : View L) → IsView R parts w a → IsView R parts w b → (i : ℕ) → oldest R (merged R a b) ≤ i → i ≤ newest R (merged R a b) → layout_at R (merged R a b) i ≡ layout_of w i
  merged_agrees w a b p q i low high =
      let m = merged R a b in
      let g = gapless_merged R a b p.gapless q.gapless in
      let o = oldest_merged R a b p.gapless q.gapless in
      let t = newest_merged R a b p.gapless q.gapless in
      elim (cases_lt (newest R a) i) [
        | inl more ↦ sym (grew_at R b m q.gapless g (merge_below w a b p q) i low (omega arith)) ∙ q.agrees i (omega arith) (omega arith)
        | inr here ↦ sym (grew_at R a m p.gapless g (merged_grew R a b p.gapless q.gapless) i low here) ∙ p.agrees i (omega arith) here
      ]

  pub merged_view : (w : World L) (a b : View L) → IsView R parts w a → IsView R parts w b → IsView R parts w (merged R a b)
  merged_view w a b p q =
      let m = merged R a b in
      let left = merged_grew R a b p.gapless q.gapless in
      let right = merge_below w a b p q in
      let t = newest_merged R a b p.gapless q.gapless in
      let u = p.under in let v = q.under in
      record {
        gapless = gapless_merged R a b p.gapless q.gapless;
        under = omega arith;
        agrees = merged_agrees w a b p q;
        known = λ k n. let e = merged_entry R a b k n in let x = p.known k n in let y = q.known k n in omega arith;
        since = λ i two h.
            elim (cases_lt (newest R a) i) [
              | inl more ↦ grew_trans R (w.applied i).origin b m (q.since i two (omega arith)) right
              | inr here ↦ grew_trans R (w.applied i).origin a m (p.since i two here) left
            ];
        before = λ i two h top k.
            let e = merged_entry R a b k (w.applied i).by in
            let x = p.before i two (omega arith) top k in let y = q.before i two (omega arith) top k in omega arith;
      }

  comes_whole : (w : World L) (n : ℕ) (o : Option (View L)) → IsWhole R parts w → IfSome o (IsMessage R parts w) → IsWholeChange R parts w (comes R w n o)
  comes_whole w n None s h = nothing_whole w
  comes_whole w n (Some v) s h =
      let own = view_of w n in
      let m = merged R own v in
      let x = with_view R (w.nodes n) m in
      let mine = s.views n in
      let other = h.0 in
      let below : GrewFrom R own x.view = merged_grew R own v mine.gapless other.gapless in
      let g : Grows R parts w (next w (only w n x)) = one_grows w s n x [] [] w.asked below in
      let both = merged_view w own v mine other in
      let acks = s.acks n in
      let syncacks = s.syncacks n in
      let ack = other.known Ack n in
      let syncack = other.known SyncAck n in
      let a = merged_entry R own v Ack n in
      let b = merged_entry R own v SyncAck n in
      let t = newest_merged R own v mine.gapless other.gapless in
      let reads = read_below R own m mine.gapless both.gapless below in
      one_whole w s n x [] [] w.asked below (view_grows R parts w (next w (only w n x)) g m both) (omega arith) (omega arith)

  -- ---- a node raises its own entry

  raise_view : (w : World L) (s : IsWhole R parts w) (n : ℕ) (kind : Which) (i : ℕ) (requests : List Request) (round : Option ℕ) (completes : List Round) →
      (let v = with_entry R kind n i (view_of w n) in
      IsView R parts (next w (One w n (record { view = v; requests = requests; round = round }) [] completes w.asked)) v)
  raise_view w s n kind i requests round completes =
      let own = view_of w n in
      let v = with_entry R kind n i own in
      let x : Node L = record { view = v; requests = requests; round = round } in
      let c = One w n x [] completes w.asked in
      let below = raised_grew R kind n i own in
      let g : Grows R parts w (next w c) = one_grows w s n x [] completes w.asked below in
      let base = view_grows R parts w (next w c) g own (s.views n) in
      record {
        gapless = base.gapless;
        under = base.under;
        agrees = base.agrees;
        known = λ k. at_each_apart w c (λ m y. entry_of k v m ≤ entry_of k y.view m) (λ m e. le_refl (entry_of k v m))
            (λ m e. subst (λ t. t ≤ entry_of k (view_of w m) m) (sym (other_node R own kind n i k m (eqb-false m n e))) ((s.views n).known k m));
        since = λ j two h. grew_trans R (w.applied j).origin own v (base.since j two h) below;
        before = λ j two h t k.
            elim (cases_Bool ((w.applied j).by == n)) [
              | inl e ↦
                  let a = s.appliers j two t in
                  let has : j ≤ newest R own = subst (λ m. j ≤ newest R (view_of w m)) (eqb-true (w.applied j).by n e) a.has in
                  absurd (omega arith)
              | inr e ↦ subst (λ t. t ≤ entry_of k (w.applied j).origin (w.applied j).by) (sym (other_node R own kind n i k (w.applied j).by (eqb-false (w.applied j).by n e))) (base.before j two h t k)
            ];
      }

  ack_whole : (w : World L) (n : ℕ) → IsWhole R parts w → IsWholeChange R parts w (change R parts w (Step.RaiseAck n))
  ack_whole w n s =
      let own = view_of w n in
      let qs = (w.nodes n).requests in
      let i = least_start (newest R own) qs in
      let v = with_entry R Ack n i own in
      let below = raised_grew R Ack n i own in
      let g = (s.views n).gapless in
      let reads = read_below R own v g g below in
      let syncacks = s.syncacks n in
      let acks = s.acks n in
      let least = least_start-le (newest R own) qs in
      let a = own_entry R own Ack n i in
      let b = other_kind R own Ack n i SyncAck n syncack_not_ack in
      one_whole w s n (record (w.nodes n) { view = v }) [] [] w.asked below (raise_view w s n Ack i qs (w.nodes n).round []) (omega arith) (omega arith)

  syncack_whole : (w : World L) (n : ℕ) → IsWhole R parts w → IsWholeChange R parts w (change R parts w (Step.RaiseSyncAck n))
  syncack_whole w n s =
      let own = view_of w n in
      let i = read_version R own in
      let v = with_entry R SyncAck n i own in
      let below = raised_grew R SyncAck n i own in
      let g = (s.views n).gapless in
      let reads = read_below R own v g g below in
      let syncacks = s.syncacks n in
      let acks = s.acks n in
      let a = other_kind R own SyncAck n i Ack n ack_not_syncack in
      let b = own_entry R own SyncAck n i in
      one_whole w s n (record (w.nodes n) { view = v }) [] [] w.asked below (raise_view w s n SyncAck i (w.nodes n).requests (w.nodes n).round []) (omega arith) (omega arith)

  completes_whole : (w : World L) (n : ℕ) (o : Option ℕ) → IsWhole R parts w → IsWholeChange R parts w (completes R w n o)
  completes_whole w n None s = nothing_whole w
  completes_whole w n (Some i) s =
      let own = view_of w n in
      let v = with_entry R Sync n i own in
      let below = raised_grew R Sync n i own in
      let g = (s.views n).gapless in
      let reads = read_below R own v g g below in
      let syncacks = s.syncacks n in
      let acks = s.acks n in
      let a = other_kind R own Sync n i Ack n ack_not_sync in
      let b = other_kind R own Sync n i SyncAck n syncack_not_sync in
      one_whole w s n (record (w.nodes n) { view = v; round = None }) [] (round_of n i ∷ []) w.asked below
      (raise_view w s n Sync i (w.nodes n).requests None (round_of n i ∷ [])) (omega arith) (omega arith)

  clean_whole : (w : World L) (n : ℕ) → IsWhole R parts w → IsWholeChange R parts w (change R parts w (Step.Clean n))
  clean_whole w n s =
      let own = view_of w n in
      let v = cleaned R own in
      let x = with_view R (w.nodes n) v in
      let mine = s.views n in
      let below : GrewFrom R own v = cleaned_grew R own mine.gapless in
      let clean : Gapless R v = gapless_cleaned R own mine.gapless in
      let stays = newest_stays R own mine.gapless in
      let u = mine.under in
      let acks = s.acks n in
      let g : Grows R parts w (next w (only w n x)) = one_grows w s n x [] [] w.asked below in
      let base = view_grows R parts w (next w (only w n x)) g own mine in
      one_whole w s n x [] [] w.asked below
      (record {
        gapless = clean;
        under = omega arith;
        agrees = λ i a b. let low = below.oldest_grew in sym (grew_at R own v mine.gapless clean below i a (omega arith)) ∙ mine.agrees i (omega arith) (omega arith);
        known = base.known;
        since = λ i two h. grew_trans R (w.applied i).origin own v (base.since i two (omega arith)) below;
        before = λ i two h top k. base.before i two (omega arith) top k;
      })
      (omega arith)
      (le_trans (s.syncacks n) (read_below R own v mine.gapless clean below))

  -- ---- a new version

  module _ (w : World L) (s : IsWhole R parts w) (n : ℕ) (l : L) (lawful : IsTrue (is_lawful R parts (suc w.top) l)) (member : IsTrue (is_current R (view_of w n) n)) (known_top : newest R (view_of w n) ≡ w.top) where
    abbrev Own : View L
    Own = view_of w n

    abbrev New : View L
    New = appended R Own l

    abbrev Here : Applied L
    Here = record { layout = Some l; by = n; origin = New }

    abbrev C : Change L
    C = applies R w n l New

    version_next : R.version l ≡ suc (newest R Own)
    version_next = eqb-true (R.version l) (suc w.top) (and_parts (R.version l == suc w.top) _ lawful).0 ∙ ap suc (sym known_top)

    old_applied : (i : ℕ) → i ≤ w.top → w.applied i ≡ C.applied i
    old_applied i h = cond_both (i == suc w.top) Here (w.applied i) (λ a. w.applied i ≡ a) (λ e. let same = eqb-true i (suc w.top) e in absurd (omega arith)) (λ _. refl)

    new_applied : (i : ℕ) → w.top < i → i ≤ suc w.top → C.applied i ≡ Here
    new_applied i a b = cond-true (i == suc w.top) Here (w.applied i) (eq-eqb i (suc w.top) (omega arith))

    below_new : GrewFrom R Own New
    below_new = appended_grew R Own l version_next

    fresh_new : (i : ℕ) → 2 ≤ i → w.top < i → i ≤ suc w.top → (k : Which) → entry_of k (view_of w (C.applied i).by) (C.applied i).by ≤ entry_of k (C.applied i).origin (C.applied i).by
    fresh_new i two a b k = subst (λ (x : Applied L). entry_of k (view_of w x.by) x.by ≤ entry_of k x.origin x.by) (sym (new_applied i a b)) (le_refl (entry_of k Own n))

    new_gapless : Gapless R New
    new_gapless = gapless_new R Own l (s.views n).gapless version_next

    new_top : newest R New ≡ suc w.top
    new_top = newest_new R Own l (s.views n).gapless version_next ∙ ap suc known_top

    new_agrees : (j : ℕ) → oldest R New ≤ j → j ≤ newest R New → layout_at R New j ≡ layout_of (next w C) j
    new_agrees j a b =
        let t = new_top in
        let low = below_new.oldest_grew in
        elim (cases_lt w.top j) [
          | inl more ↦
              let same : j ≡ suc (newest R Own) = omega arith in
              ap (layout_at R New) same ∙ (at_new R Own l (s.views n).gapless version_next ∙ sym (ap (λ (x : Applied L). x.layout) (new_applied j more (omega arith))))
          | inr old ↦ at_appended R Own l (s.views n).gapless version_next j (omega arith) ∙ ((s.views n).agrees j (omega arith) (omega arith) ∙ ap (λ (x : Applied L). x.layout) (old_applied j old))
        ]

    new_view : IsView R parts (next w C) New
    new_view = record {
      gapless = new_gapless;
      under = let t = new_top in omega arith;
      agrees = new_agrees;
      known = λ k. at_each w C (λ m y. entry_of k New m ≤ entry_of k y.view m) (λ m e. le_refl (entry_of k New m)) ((s.views n).known k);
      since = λ i two h.
          (let t = new_top in
          elim (cases_lt w.top i) [
            | inl more ↦ subst (λ (a : Applied L). GrewFrom R a.origin New) (sym (new_applied i more (omega arith))) (grew_refl R New)
            | inr old ↦ subst (λ (a : Applied L). GrewFrom R a.origin New) (old_applied i old) (grew_trans R (w.applied i).origin Own New ((s.views n).since i two (omega arith)) below_new)
          ]);
      before = λ i two a b k. let t = new_top in absurd (omega arith);
    }

    new_applier : (i : ℕ) → w.top < i → i ≤ suc w.top → IsApplier R parts (next w C) i
    new_applier i a b =
        let top_is : i ≡ suc w.top = omega arith in
        let at : C.applied i ≡ Here = new_applied i a b in
        let mine = s.views n in
        let o = ordered R Own mine.gapless in
        let of_top : IsMember R n (layout_of w w.top) = subst (λ t. IsMember R n (layout_of w t)) known_top (subst (λ k. IsMember R n k) (mine.agrees (newest R Own) o (le_refl (newest R Own))) member) in
        let still_of_top : IsMember R n (layout_of (next w C) w.top) = subst (λ (x : Applied L). IsMember R n x.layout) (old_applied w.top (le_refl w.top)) of_top in
        let pred_is : w.top ≡ pred i = ap pred (sym top_is) in
        let own_view : view_of (next w C) n ≡ New = ap (λ (y : Node L). y.view) (cond-true (n == n) _ (w.nodes n) (eq-eqb n n refl)) in
        let t = new_top in
        record {
          gapless = subst (λ (x : Applied L). Gapless R x.origin) (sym at) new_gapless;
          acked = subst (λ (x : Applied L). entry_of SyncAck x.origin x.by ≤ read_version R x.origin) (sym at) (le_trans (s.syncacks n) (read_below R Own New mine.gapless new_gapless below_new));
          member = subst (λ (x : Applied L). IsMember R x.by (layout_of (next w C) (pred i))) (sym at) (subst (λ t. IsMember R n (layout_of (next w C) t)) pred_is still_of_top);
          has = subst (λ (x : Applied L). i ≤ newest R (view_of (next w C) x.by)) (sym at) (subst (λ (v : View L). i ≤ newest R v) (sym own_view) (omega arith));
        }

    pub apply_whole : IsWholeChange R parts w C
    apply_whole =
        let mine = s.views n in
        let acks = s.acks n in
        let syncacks = s.syncacks n in
        let t = new_top in
        let reads = read_below R Own New mine.gapless new_gapless below_new in
        record {
          below = λ m e. at_one n (λ m. GrewFrom R (view_of w m) New) below_new m e;
          views = λ m e. new_view;
          acks = λ m e. at_one n (λ m. entry_of Ack New m ≤ newest R New) (omega arith) m e;
          syncacks = λ m e. at_one n (λ m. entry_of SyncAck New m ≤ read_version R New) (le_trans syncacks reads) m e;
          sends = tt;
          top = omega arith;
          applied = old_applied;
          fresh = fresh_new;
          appliers = λ i two a b. new_applier i a b;
          lawful = λ i a b. subst (λ (x : Applied L). Lawful R parts i x.layout) (sym (new_applied i a b)) (l, refl, subst (λ t. IsTrue (is_lawful R parts t l)) (let same : suc w.top ≡ i = omega arith in same) lawful);
        }

  -- ---- version 1

  module _ (w : World L) (s : IsWhole R parts w) (who : ℕ → Bool) (l : L) (lawful : IsTrue (is_lawful R parts 1 l)) (none : w.top ≡ 0) where
    abbrev D : Change L
    D = installs R w who l

    abbrev First : Applied L
    First = record { layout = Some l; by = 0; origin = unseen }

    none_known : (m : ℕ) → newest R (view_of w m) ≡ 0
    none_known m = let v = s.views m in let u = v.under in omega arith

    version_first : (m : ℕ) → R.version l ≡ suc (newest R (view_of w m))
    version_first m = eqb-true (R.version l) 1 (and_parts (R.version l == 1) _ lawful).0 ∙ ap suc (sym (none_known m))

    first_applied : (i : ℕ) → i ≤ w.top → w.applied i ≡ D.applied i
    first_applied i h = cond_both (i == 1) First (w.applied i) (λ a. w.applied i ≡ a) (λ e. let same = eqb-true i 1 e in absurd (omega arith)) (λ _. refl)

    new_first : (i : ℕ) → i ≡ 1 → D.applied i ≡ First
    new_first i e = cond-true (i == 1) First (w.applied i) (eq-eqb i 1 e)

    below_first : (m : ℕ) → GrewFrom R (view_of w m) (appended R (view_of w m) l)
    below_first m = appended_grew R (view_of w m) l (version_first m)

    pub first_gapless : (m : ℕ) → Gapless R (appended R (view_of w m) l)
    first_gapless m = gapless_new R (view_of w m) l (s.views m).gapless (version_first m)

    pub first_top : (m : ℕ) → newest R (appended R (view_of w m) l) ≡ 1
    first_top m = newest_new R (view_of w m) l (s.views m).gapless (version_first m) ∙ ap suc (none_known m)

    first_agrees : (m j : ℕ) → oldest R (appended R (view_of w m) l) ≤ j → j ≤ newest R (appended R (view_of w m) l) → layout_at R (appended R (view_of w m) l) j ≡ layout_of (next w D) j
    first_agrees m j a b =
        let t = first_top m in
        let g = first_gapless m in
        let one : 1 ≤ oldest R (appended R (view_of w m) l) = started R (appended R (view_of w m) l) g (omega arith) in
        let is_one : j ≡ 1 = omega arith in
        let same : j ≡ suc (newest R (view_of w m)) = is_one ∙ ap suc (sym (none_known m)) in
        ap (layout_at R (appended R (view_of w m) l)) same ∙ (at_new R (view_of w m) l (s.views m).gapless (version_first m) ∙ sym (ap (λ (x : Applied L). x.layout) (new_first j is_one)))

    pub install_whole : IsWholeChange R parts w D
    install_whole = record {
      below = λ m e. below_first m;
      views = λ m e. record {
        gapless = first_gapless m;
        under = let t = first_top m in omega arith;
        agrees = first_agrees m;
        known = λ k. at_each w D (λ i y. entry_of k (view_of w m) i ≤ entry_of k y.view i) (λ i e. (s.views m).known k i) ((s.views m).known k);
        since = λ i two h. let t = first_top m in absurd (omega arith);
        before = λ i two a b k. absurd (omega arith);
      };
      acks = λ m e. let acks = s.acks m in let z = none_known m in omega arith;
      syncacks = λ m e. le_trans (s.syncacks m) (read_below R (view_of w m) (appended R (view_of w m) l) (s.views m).gapless (first_gapless m) (below_first m));
      sends = tt;
      top = omega arith;
      applied = first_applied;
      fresh = λ i two a b k. absurd (omega arith);
      appliers = λ i two a b. absurd (omega arith);
      lawful = λ i a b. (let one : i ≡ 1 = omega arith in subst (λ (x : Applied L). Lawful R parts i x.layout) (sym (new_first i one)) (l, refl, subst (λ t. IsTrue (is_lawful R parts t l)) (sym one) lawful));
    }

  -- ---- every step

  pub whole_change : (w : World L) (e : Step L) → IsWhole R parts w → IsWholeChange R parts w (change R parts w e)
  whole_change w (Step.Install who l) s =
      cond_both ((w.top == 0) && is_lawful R parts 1 l) (installs R w who l) (nothing w) (IsWholeChange R parts w)
      (λ t. let both = and_parts (w.top == 0) (is_lawful R parts 1 l) t in install_whole w s who l both.1 (eqb-true w.top 0 both.0))
      (λ _. nothing_whole w)
  whole_change w (Step.Apply n l) s =
      let v = view_of w n in
      let a = is_current R v n in
      let b = newest R v == w.top in
      let d = is_lawful R parts (suc w.top) l in
      cond_both (a && (b && d)) (applies R w n l (appended R v l)) (nothing w) (IsWholeChange R parts w)
      (λ t.
      let p = and_parts a (b && d) t in
      let q = and_parts b d p.1 in
      apply_whole w s n l q.1 p.0 (eqb-true (newest R v) w.top q.0))
      (λ _. nothing_whole w)
  whole_change w (Step.Gossip n) s = gossip_whole w n s
  whole_change w (Step.Deliver n k) s = comes_whole w n (slice_get w.sent k) s (some_at (IsMessage R parts w) w.sent k s.sent)
  whole_change w (Step.RaiseAck n) s = ack_whole w n s
  whole_change w (Step.RaiseSyncAck n) s = syncack_whole w n s
  whole_change w (Step.Clean n) s = clean_whole w n s
  whole_change w (Step.Begin n) s =
      let v = view_of w n in
      cond_both (is_current R v n) _ (nothing w) (IsWholeChange R parts w)
      (λ _. same_whole w s n (record (w.nodes n) { requests = record { number = suc w.asked; start = newest R v } ∷ (w.nodes n).requests }) [] [] (suc w.asked) (grew_refl R v) refl)
      (λ _. nothing_whole w)
  whole_change w (Step.End n q) s = same_whole w s n (record (w.nodes n) { requests = without q (w.nodes n).requests }) [] [] w.asked (grew_refl R (view_of w n)) refl
  whole_change w (Step.BeginRound n) s =
      let i = suc (read_version R (view_of w n)) in
      cond_both (may_begin R (w.nodes n) n i) _ (nothing w) (IsWholeChange R parts w)
      (λ _. same_whole w s n (record (w.nodes n) { round = Some i }) (round_of n i ∷ []) [] w.asked (grew_refl R (view_of w n)) refl)
      (λ _. nothing_whole w)
  whole_change w (Step.Complete n) s = completes_whole w n (w.nodes n).round s
  whole_change w (Step.Restart n) s = same_whole w s n (record (w.nodes n) { requests = []; round = None }) [] [] w.asked (grew_refl R (view_of w n)) refl

  pub step_whole : (w : World L) (e : Step L) → IsWhole R parts w → IsWhole R parts (step R parts w e)
  step_whole w e s = whole_next R parts w (change R parts w e) s (whole_change w e s)

  pub step_grows : (w : World L) (e : Step L) → IsWhole R parts w → Grows R parts w (step R parts w e)
  step_grows w e s = grows R parts w (change R parts w e) (whole_change w e s)

  pub empty_whole : IsWhole R parts empty
  empty_whole = record {
    views = λ n. record {
      gapless = refl;
      under = le_refl 0;
      agrees = λ i a b. refl;
      known = λ k m. le_refl (entry_of {L = L} k unseen m);
      since = λ i two h. absurd (omega arith);
      before = λ i two a b k. absurd (omega arith);
    };
    sent = tt;
    acks = λ n. le_refl 0;
    syncacks = λ n. le_refl 0;
    appliers = λ i two h. absurd (omega arith);
    lawful = λ i one h. absurd (omega arith);
    nobody_first = refl;
  }
