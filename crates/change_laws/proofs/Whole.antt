-- The whole change, step by step: views, trackers and rounds.
use Rattle.std.specs.Prelude.{◌≡◌, ◌≤◌, ◌<◌, ◌⊎◌, ℕ, suc, Bool, true, false, leb, IsTrue, Option, Some, None, List, [], ◌∷◌, ◌++◌, refl}
use Rattle.std.specs.List.{AllByRecursion, filter, list_all}
use Rattle.std.proofs.Common.{ap, sym, subst, ◌∙◌, inl, inr, arith}
use Rattle.std.proofs.lemmas.Bool.{le-leb, and_from, eq-eqb}
use Rattle.std.proofs.lemmas.List.{length-map}
use Rattle.crdt_core.specs.Members.{two_pass}
use Rattle.layout_roles.specs.declared.role.Role.{Role}
use Rattle.layout_trackers.specs.declared.which.Which.{Which}
use Rattle.layout_trackers.specs.declared.which.Which.TheVariants.{Ack, Sync, SyncAck}
use Rattle.table_schema.specs.Words.{Words}
use Rattle.table_schema.specs.Laws.{Laws}
use Rattle.view_model.specs.View.{View, is_gapless, newest, last_version, least_of, read_version}
use Rattle.std.specs.Option.{unwrap_or}
use Rattle.view_model.proofs.Gapless.{at, leads, hit, above_newest}
use Rattle.control_model.specs.Facts.{entry_of}
use Rattle.version_laws.proofs.Tests.{has_left, none_is_not}
use Rattle.quorum_model.specs.Quorum.{is_among}
use Rattle.cluster_machine.specs.declared.step.Step.TheVariants.{Ack as Acks, SyncAck as SyncAcks, Clean}
use Rattle.cluster_machine.specs.Layouts.{Layouts}
use Rattle.cluster_machine.specs.Node.{Node, Round}
use Rattle.cluster_machine.specs.World.{Sent, World, forgot}
use Rattle.cluster_machine.specs.Step.{Choice}
use Rattle.cluster_machine.specs.Run.{IsSet, IsLayout}
use Rattle.machine_origins.proofs.Lists.{all_filter}
use Rattle.drained_laws.specs.Waiting.{waiting}
use Rattle.drained_laws.specs.Calm.{IsMember}
use Rattle.drained_laws.proofs.Waits.{forgotten_wait}
use Rattle.drained_laws.proofs.Views.{all_among}
use Rattle.change_laws.specs.Script.{AreApart, after_each, Changes}
use Rattle.change_laws.specs.Resting.{AreUpTo, IsPast, IsBack, HasAlone, IsResting}
use Rattle.change_laws.specs.Between.{IsShow, IsBetween}
use Rattle.change_laws.specs.Opening.{is_in_either, IsOpened}
use Rattle.change_laws.specs.Rounds.{tops}
use Rattle.change_laws.specs.Cleaning.{IsCleaned}
use Rattle.change_laws.proofs.TwoViews.{is_two, read_two, least_two}
use Rattle.change_laws.proofs.Moving.{Kept}
use Rattle.change_laws.proofs.Opening.{opened_all}
use Rattle.change_laws.proofs.Raising.{acks_raised, sync_acks_raised}
use Rattle.change_laws.proofs.Spread.{spread_so}
use Rattle.change_laws.proofs.Starting.{among_one, all_from, some_member, storage_member, IsReady}
use Rattle.change_laws.proofs.Syncing.{IsMoved, rounds_complete}
use Rattle.change_laws.proofs.Cleaning.{all_cleaned}

-- two of three that all pass
two_by_three : {L : Type 0} (k : Layouts L) (l : L) (f : ℕ → Bool) (set : List ℕ) → IsSet k l set → ((n : ℕ) → IsTrue (is_among n (k.storage l)) → f n ≡ true) → two_pass f set ≡ true
two_by_three k l f set is h =
    let all : AllByRecursion (λ n. IsTrue (is_among n (k.storage l))) (is.one ∷ is.two ∷ is.three ∷ []) = subst (AllByRecursion (λ n. IsTrue (is_among n (k.storage l)))) is.are is.keep_copies in
    let first : f is.one ≡ true = h is.one all.0 in
    let second : f is.two ≡ true = h is.two all.1.0 in
    let third : f is.three ≡ true = h is.three all.1.1.0 in
    ap (two_pass f) is.are ∙ rw (first, second, third) refl

sets_two : {L : Type 0} (k : Layouts L) (l : L) (f : ℕ → Bool) (sets : List (List ℕ)) → AllByRecursion (IsSet k l) sets → ((n : ℕ) → IsTrue (is_among n (k.storage l)) → f n ≡ true) → list_all (two_pass f) sets ≡ true
sets_two k l f [] all h = refl
sets_two k l f (set ∷ sets) all h = and_from (two_pass f set) (list_all (two_pass f) sets) (two_by_three k l f set all.0 h) (sets_two k l f sets all.1 h)

-- greater bounds
tops_more : (a b c d e f : ℕ) → a ≤ d → b ≤ e → c ≤ f → (which : Which) → tops a b c which ≤ tops d e f which
tops_more a b c d e f h i j Ack = h
tops_more a b c d e f h i j Sync = i
tops_more a b c d e f h i j SyncAck = j

tops_same : (a : ℕ) (which : Which) → tops a a a which ≡ a
tops_same a Ack = refl
tops_same a Sync = refl
tops_same a SyncAck = refl

module _ {R : Type 0} {join : R → R → R} {s : Words R} (laws : Laws join s) {L : Type 0} (k : Layouts L) (l new : L) (later : k.reading.version new ≡ suc (k.reading.version l)) (layout : IsLayout k 256 l) (layout_new : IsLayout k 256 new)
    (part : List ℕ) (apart : AreApart part) (members : (n : ℕ) → IsMember k l n → IsTrue (is_among n part)) (members_new : (n : ℕ) → IsMember k new n → IsTrue (is_among n part))
    (A C : Type 0) (trio : L) (trio_roles : List Role → List Role) (m : ℕ) (member : IsMember k l m) (few : k.reading.version l < 100) (choice : Choice L A C) (shown : A) (w after : World R L) (rest : IsResting k l w)
    (proper : (n : ℕ) → IsTrue (is_among n part) → AllByRecursion (λ r. IsTrue (s.is_proper r)) (w.nodes n).accepted)
    (is : Changes A C join s k trio trio_roles choice new shown m part w after) where
  abbrev pub v : ℕ
  v = k.reading.version l

  abbrev pub i : ℕ
  i = suc v

  abbrev pub real : 1 ≤ v
  real = layout.version

  here : IsTrue (is_among m part)
  here = members m member

  all : AllByRecursion (λ n. IsTrue (is_among n part)) part
  all = all_among part

  abbrev pub J : ℕ → Type 0
  J j = IsTrue (is_among j part)

  wider : (top more : Which → ℕ) (u : View L) → ((which : Which) → top which ≤ more which) → AreUpTo k l top u → AreUpTo k l more u
  wider top more u h low which n = let a = h which in let b = low which n in omega arith

  between_wider : (top more : Which → ℕ) (was nodes : ℕ → Node R L) (ws : List (Sent R L)) → ((which : Which) → top which ≤ more which) → ws ≡ [] → IsBetween k l new part top was nodes ws → IsBetween k l new part more was nodes ws
  between_wider top more was nodes ws h none b = record {
    inside = λ n e. (let o = b.inside n e in record { layouts = o.layouts; entries = wider top more (nodes n).view h o.entries; same = o.same; round = o.round });
    outside = b.outside;
    shown = subst (AllByRecursion (λ (x : Sent R L). IsTrue (is_among x.to part) × IsShow k l new part more x.packet)) (sym none) tt;
  }

  -- ---- all know both versions

  pub told_so : Kept (λ nodes ws. ((n : ℕ) → IsTrue (is_among n part) → IsOpened s k l new n (w.nodes n) (nodes n)) × ((n : ℕ) → is_among n part ≡ false → nodes n ≡ w.nodes n) × (ws ≡ [])) i is.told
  told_so = opened_all join s k l new later real A C trio trio_roles w rest m member few shown part here choice is.told is.tells

  abbrev pub was_told : ℕ → Node R L
  was_told = is.told.nodes

  told_between : Kept (λ nodes ws. IsBetween k l new part (tops i v v) was_told nodes ws × (ws ≡ [])) i is.told
  told_between = record {
    marked = told_so.marked;
    applied = told_so.applied;
    holds = (
      record {
        inside = λ n e. (let o = told_so.holds.0 n e in record { layouts = o.layouts; entries = wider (λ which. v) (tops i v v) (was_told n).view (λ which. up which) o.entries; same = refl; round = o.round });
        outside = λ n e. refl;
        shown = subst (AllByRecursion (λ (x : Sent R L). IsTrue (is_among x.to part) × IsShow k l new part (tops i v v) x.packet)) (sym told_so.holds.2) tt;
      },
      told_so.holds.2,
    );
  }
    where
      up : (which : Which) → v ≤ tops i v v which
      up Ack = omega arith
      up Sync = omega arith
      up SyncAck = omega arith

  -- ---- all have acknowledged the newer one, and know it

  pub acked_so : Kept (λ nodes ws. IsBetween k l new part (tops i v v) was_told nodes ws × (ws ≡ []) × ((n j : ℕ) → IsTrue (is_among n part) → J j → i ≤ entry_of Ack (nodes n).view j)) i is.acked
  acked_so =
      spread_so A C join s k l new later real part (tops i v v) was_told trio trio_roles i choice Ack i J m here (λ j h. h) (after_each A C join s k trio trio_roles choice Acks part is.told) is.acked
      (acks_raised A C join s k l new later real part (tops i v v) was_told trio trio_roles i choice (λ n e. (told_so.holds.0 n e).calls) (omega arith) all is.told told_between) is.acks

  told_proper : (n : ℕ) → IsTrue (is_among n part) → ((was_told n).accepted ≡ (w.nodes n).accepted) ⊎ ((was_told n).accepted ≡ filter (is_in_either s k l new n) (w.nodes n).accepted) → AllByRecursion (λ r. IsTrue (s.is_proper r)) (was_told n).accepted
  told_proper n e (inl same) = subst (AllByRecursion (λ r. IsTrue (s.is_proper r))) (sym same) (proper n e)
  told_proper n e (inr left) = subst (AllByRecursion (λ r. IsTrue (s.is_proper r))) (sym left) (all_filter (λ r. IsTrue (s.is_proper r)) (is_in_either s k l new n) (w.nodes n).accepted (proper n e))

  abbrev pub was_acked : ℕ → Node R L
  was_acked = is.acked.nodes

  pub ready_so : (n : ℕ) → IsTrue (is_among n part) → IsReady laws k l new later real layout layout_new part members members_new (was_acked n)
  ready_so n e =
      let o = acked_so.holds.0.inside n e in
      record {
        layouts = o.layouts;
        entries = o.entries;
        calls = ap (λ (x : Node R L). x.calls) o.same ∙ (told_so.holds.0 n e).calls;
        round = o.round;
        proper = subst (AllByRecursion (λ r. IsTrue (s.is_proper r))) (sym (ap (λ (x : Node R L). x.accepted) o.same)) (told_proper n e (told_so.holds.0 n e).accepted);
        acked = λ j h. acked_so.holds.2 n j e h;
      }

  -- ---- the rounds are over

  pub moved_so : Kept (λ nodes ws. ((n : ℕ) → IsTrue (is_among n part) → IsMoved laws k l new later real layout layout_new part members members_new A C trio trio_roles i choice was_acked ready_so (nodes n)) × ((n : ℕ) → is_among n part ≡ false → nodes n ≡ was_acked n) × (ws ≡ []) × ((j : ℕ) → IsTrue (is_among j (k.storage l)) → i ≤ entry_of Sync (nodes j).view j)) i is.moved
  moved_so =
      rounds_complete laws k l new later real layout layout_new part members members_new A C trio trio_roles i choice was_acked ready_so all apart is.acked is.moved
      (record { marked = acked_so.marked; applied = acked_so.applied; holds = (refl, acked_so.holds.1) }) is.moves

  abbrev pub was_moved : ℕ → Node R L
  was_moved = is.moved.nodes

  abbrev Stores : ℕ → Type 0
  Stores j = IsTrue (is_among j (k.storage l))

  stores_part : (j : ℕ) → Stores j → IsTrue (is_among j part)
  stores_part j h = members j (storage_member laws k l new later real layout layout_new part members members_new j h)

  moved_between : Kept (λ nodes ws. IsBetween k l new part (tops i i v) was_moved nodes ws × (ws ≡ []) × ((j : ℕ) → Stores j → i ≤ entry_of Sync (nodes j).view j)) i is.moved
  moved_between = record {
    marked = moved_so.marked;
    applied = moved_so.applied;
    holds = (
      record {
        inside = λ n e. (let o = moved_so.holds.0 n e in record { layouts = o.layouts; entries = o.entries; same = refl; round = o.round });
        outside = λ n e. refl;
        shown = subst (AllByRecursion (λ (x : Sent R L). IsTrue (is_among x.to part) × IsShow k l new part (tops i i v) x.packet)) (sym moved_so.holds.2) tt;
      },
      moved_so.holds.2,
      moved_so.holds.3,
    );
  }

  -- ---- all know that, and read the newer version

  synced_so : Kept (λ nodes ws. IsBetween k l new part (tops i i v) was_moved nodes ws × (ws ≡ []) × ((n j : ℕ) → IsTrue (is_among n part) → Stores j → i ≤ entry_of Sync (nodes n).view j)) i is.synced
  synced_so = spread_so A C join s k l new later real part (tops i i v) was_moved trio trio_roles i choice Sync i Stores m here stores_part is.moved is.synced moved_between is.syncs

  pub reads_so : (n : ℕ) → IsTrue (is_among n part) → read_version k.reading (is.synced.nodes n).view ≡ i
  reads_so n e =
      let u = (is.synced.nodes n).view in
      subst (λ (u : View L). read_version k.reading u ≡ i) (is_two k.reading l new later real u (synced_so.holds.0.inside n e).layouts)
      (read_two k.reading l new later real u.trackers (sets_two k l (λ j. leb i (entry_of Sync u j)) (k.reading.sets l) layout.sets (λ j h. le-leb i (entry_of Sync u j) (synced_so.holds.2 n j e h))))

  -- ---- all have told so, and know it

  known_so : Kept (λ nodes ws. IsBetween k l new part (tops i i i) was_moved nodes ws × (ws ≡ []) × ((n j : ℕ) → IsTrue (is_among n part) → J j → i ≤ entry_of SyncAck (nodes n).view j)) i is.known
  known_so =
      spread_so A C join s k l new later real part (tops i i i) was_moved trio trio_roles i choice SyncAck i J m here (λ j h. h) (after_each A C join s k trio trio_roles choice SyncAcks part is.synced) is.known
      (sync_acks_raised A C join s k l new later real part (tops i i i) was_moved trio trio_roles i choice (omega arith) all is.synced
      (record {
        marked = synced_so.marked;
        applied = synced_so.applied;
        holds = (between_wider (tops i i v) (tops i i i) was_moved is.synced.nodes (waiting is.synced) (tops_more i i v i i i (omega arith) (omega arith) (omega arith)) synced_so.holds.1 synced_so.holds.0, synced_so.holds.1, reads_so);
      })) is.knows

  -- ---- the older version goes

  moved_calls : (n : ℕ) → IsTrue (is_among n part) → (was_moved n).calls ≡ []
  moved_calls n e = (moved_so.holds.0 n e).calls

  least_so : (n : ℕ) → IsTrue (is_among n part) → i ≤ least_of k.reading SyncAck (is.known.nodes n).view
  least_so n e =
      let u = (is.known.nodes n).view in
      let f : ℕ → Bool = λ j. leb i (entry_of SyncAck u j) in
      let one = some_member laws k l new later real layout layout_new part members members_new in
      subst (λ (u : View L). i ≤ least_of k.reading SyncAck u) (is_two k.reading l new later real u (known_so.holds.0.inside n e).layouts)
      (least_two k.reading l new later real SyncAck u.trackers one.0 (has_left (k.reading.members l) (_ ++ []) one.0 (among_one one.0 (k.reading.members l) one.1))
      (all_from f (k.reading.members l) (λ j h. le-leb i (entry_of SyncAck u j) (known_so.holds.2 n j e (members j h))))
      (all_from f (k.reading.members new) (λ j h. le-leb i (entry_of SyncAck u j) (known_so.holds.2 n j e (members_new j h)))))

  abbrev pub cleaned_world : World R L
  cleaned_world = after_each A C join s k trio trio_roles choice Clean part is.known

  pub cleaned_so : Kept (λ nodes ws. ((n : ℕ) → IsTrue (is_among n part) → IsCleaned s k new n (was_moved n) (nodes n)) × ((n : ℕ) → is_among n part ≡ false → nodes n ≡ was_moved n) × (ws ≡ [])) i cleaned_world
  cleaned_so =
      let done = all_cleaned join s k l new later real part A C trio trio_roles i choice was_moved moved_calls part all (λ j. ⊥) is.known
      (record {
        marked = known_so.marked;
        applied = known_so.applied;
        holds = (
          λ n e. inl (let o = known_so.holds.0.inside n e in (record { layouts = o.layouts; entries = low n e; same = o.same; round = o.round }, least_so n e)),
          λ n never. absurd never,
          known_so.holds.0.outside,
          known_so.holds.1,
        );
      }) in
      record { marked = done.marked; applied = done.applied; holds = ((λ n e. done.holds.1 n (inr e)), done.holds.2, done.holds.3) }
    where
      low : (n : ℕ) → IsTrue (is_among n part) → AreUpTo k l (λ which. k.reading.version new) (is.known.nodes n).view
      low n e which j = let h = (known_so.holds.0.inside n e).entries which j in let t = tops_same i which in omega arith

  -- ---- at rest on the newer version

  abbrev pub final : ℕ → Node R L
  final = cleaned_world.nodes

  -- a node that takes no part is as it was
  pub others_so : (n : ℕ) → is_among n part ≡ false → final n ≡ w.nodes n
  others_so n e = cleaned_so.holds.1 n e ∙ (moved_so.holds.1 n e ∙ (acked_so.holds.0.outside n e ∙ told_so.holds.1 n e))

  pub alone_so : (n : ℕ) → IsTrue (is_among n part) → HasAlone k new (final n)
  alone_so n e = let c = cleaned_so.holds.0 n e in record { layouts = c.layouts; round = c.round }

  past_more : (round : Option Round) → IsPast k l round → IsPast k new round
  past_more None h = tt
  past_more (Some round) h = omega arith

  cleaned_back : (n : ℕ) → IsTrue (is_among n part) → IsBack k new (final n)
  cleaned_back n e =
      let c = cleaned_so.holds.0 n e in
      let u = (final n).view in
      record {
        view = record {
          gapless = ap (is_gapless k.reading) c.layouts ∙ leads k.reading new [] (omega arith) refl;
          below = (let young : newest k.reading u ≡ k.reading.version new = ap (λ ls. last_version k.reading 0 ls) c.layouts in omega arith);
          same = λ x f. some_same x (sym (ap (λ ls. at k.reading ls (k.reading.version new)) c.layouts ∙ hit k.reading new [] (k.reading.version new) (eq-eqb (k.reading.version new) (k.reading.version new) refl)) ∙ f);
          entries = c.entries;
        };
        calls = c.calls;
        round = subst (IsPast k new) (sym c.round) tt;
      }
    where
      some_same : (x : L) → Some new ≡ Some x → x ≡ new
      some_same x f = sym (ap (λ o. unwrap_or o new) f)

  other_back : (n : ℕ) → is_among n part ≡ false → IsBack k new (final n)
  other_back n e = subst (IsBack k new) (sym (others_so n e)) (let b = rest.nodes n in record {
    view = record {
      gapless = b.view.gapless;
      below = (let h = b.view.below in omega arith);
      same = λ x f. absurd (none_is_not x (sym (above_newest k.reading (w.nodes n).view.layouts (k.reading.version new) b.view.gapless (let h = b.view.below in omega arith)) ∙ f));
      entries = λ which j. (let h = b.view.entries which j in omega arith);
    };
    calls = b.calls;
    round = past_more (w.nodes n).round b.round;
  })

  each_back : (n : ℕ) (b : Bool) → is_among n part ≡ b → IsBack k new (final n)
  each_back n true e = cleaned_back n e
  each_back n false e = other_back n e

  pub rests_so : IsResting k new after
  rests_so = subst (IsResting k new) (sym is.leads) (record {
    members = λ n h. alone_so n (members_new n h);
    nodes = λ n. each_back n (is_among n part) refl;
    marked = cleaned_so.marked ∙ sym (length-map cleaned_world.marks forgot);
    delivered = forgotten_wait cleaned_world.messages cleaned_world.marks ∙ cleaned_so.holds.2;
    applied = cleaned_so.applied ∙ sym later;
  })

  pub all_alone : (n : ℕ) → IsTrue (is_among n part) → HasAlone k new (after.nodes n)
  all_alone n e = subst (λ (u : World R L). HasAlone k new (u.nodes n)) (sym is.leads) (alone_so n e)

  pub unchanged_so : (n : ℕ) → is_among n part ≡ false → after.nodes n ≡ w.nodes n
  unchanged_so n e = ap (λ (u : World R L). u.nodes n) is.leads ∙ others_so n e
