-- The whole change, step by step: rows and outboxes.
use Rattle.std.specs.Prelude.{◌≡◌, ◌≤◌, ◌<◌, ◌⊎◌, ℕ, zero, suc, Bool, true, false, cond, IsTrue, Some, List, [], ◌∷◌, length, map, filter, slice_get, refl}
use Rattle.std.specs.Option.{unwrap_or}
use Rattle.std.specs.List.{AllByRecursion, list_any}
use Rattle.std.proofs.Common.{ap, sym, subst, ◌∙◌, inl, inr, arith}
use Rattle.std.proofs.lemmas.Bool.{or_left, or_parts, or_from, false≢true}
use Rattle.std.proofs.lemmas.List.Elements.{All-from_recursion, recursion_from_All, All-filter}
use Rattle.crdt_core.specs.Laws.{JoinLaws}
use Rattle.layout_roles.specs.declared.role.Role.{Role}
use Rattle.layout_trackers.specs.declared.which.Which.TheVariants.{Ack}
use Rattle.control_model.specs.Facts.{entry_of}
use Rattle.table_schema.specs.Words.{Words, partition_of}
use Rattle.table_schema.specs.Laws.{Laws}
use Rattle.table_model.specs.Rows.{AllProper, row_at, rows, rows_in}
use Rattle.quorum_model.specs.Quorum.{is_among}
use Rattle.cluster_machine.specs.declared.step.Step.TheVariants.{Sync as Syncs}
use Rattle.cluster_machine.specs.Hashes.{NoClash}
use Rattle.cluster_machine.specs.Layouts.{Layouts, set_of}
use Rattle.cluster_machine.specs.Node.{Block, Node}
use Rattle.cluster_machine.specs.Phases.{is_spelled}
use Rattle.cluster_machine.specs.World.{World}
use Rattle.cluster_machine.specs.Step.{Choice}
use Rattle.cluster_machine.specs.Run.{IsSet, IsLayout}
use Rattle.drained_laws.specs.Waiting.{SomeOf}
use Rattle.drained_laws.specs.Calm.{IsMember}
use Rattle.drained_laws.specs.Drained.{AreEqual}
use Rattle.drained_laws.proofs.Posts.{member_at}
use Rattle.drained_laws.proofs.Views.{all_among}
use Rattle.change_model.specs.Steps.{each}
use Rattle.change_laws.specs.Script.{AreApart, AreSpelled, Changes, RoundHashes}
use Rattle.change_laws.specs.Resting.{IsResting}
use Rattle.change_laws.specs.Opening.{IsOpened}
use Rattle.change_laws.specs.Between.{IsBetween}
use Rattle.change_laws.specs.Rounds.{tops}
use Rattle.change_laws.specs.Cleaning.{IsCleaned}
use Rattle.change_laws.proofs.Moving.{Kept}
use Rattle.change_laws.proofs.Starting.{IsReady}
use Rattle.change_laws.proofs.Spelled.{row_spelled}
use Rattle.block_laws.proofs.Found.{row_left}
use Rattle.change_laws.specs.Handing.{IsQuiet, AllKept, IsKeptIn, HasGood, Has}
use Rattle.change_laws.proofs.Spread.{among_parts}
use Rattle.change_laws.proofs.Handed.{AreOver, rounds_hand_on}
use Rattle.change_laws.proofs.Equal.{filtered_rows, same_partitions, IsOld, one_old, has_old, all_have, other_of_set}
use Rattle.change_laws.proofs.Whole.{told_so, acked_so, ready_so, cleaned_so, cleaned_world, others_so}

module _ {X : Type 0} (P : X → Type 0) where
  get_all : (xs : List X) (i : ℕ) (x : X) → AllByRecursion P xs → i < length xs → P (unwrap_or (slice_get xs i) x)
  get_all [] i x a low = absurd (omega arith)
  get_all (y ∷ ys) zero x a low = a.0
  get_all (y ∷ ys) (suc i) x a low = get_all ys i x a.1 (omega arith)

-- each block of a node is one that some node has
module _ {R L : Type 0} (w : World R L) where
  some_itself : (n : ℕ) (bs : List Block) → ((bytes : List ℕ) → SomeOf (λ (b : Block). b.bytes ≡ bytes) bs → IsKeptIn w bytes) → AllKept (IsKeptIn w) bs
  some_itself n [] f = tt
  some_itself n (b ∷ bs) f = (f b.bytes (inl refl), some_itself n bs (λ bytes h. f bytes (inr h)))

  pub each_kept : (n : ℕ) → AllKept (IsKeptIn w) (w.nodes n).blocks
  each_kept n = some_itself n (w.nodes n).blocks (λ bytes h. (n, h))

-- the nodes of a set keep copies
stores_at : {L : Type 0} (k : Layouts L) (l : L) → IsLayout k 256 l → (p n : ℕ) → p < 256 → IsTrue (is_among n (set_of k l p)) → IsTrue (is_among n (k.storage l))
stores_at k l layout p n low e =
    let is = get_all (IsSet k l) (k.reading.sets l) p [] layout.sets (subst (λ n. p < n) (sym layout.count) low) in
    among (set_of k l p) is.keep_copies e
  where
    among : (xs : List ℕ) → AllByRecursion (λ n. IsTrue (is_among n (k.storage l))) xs → IsTrue (is_among n xs) → IsTrue (is_among n (k.storage l))
    among [] a h = cc
    among (x ∷ xs) a h = elim (among_parts n x xs h) [ inl same ↦ subst (λ z. IsTrue (is_among z (k.storage l))) same a.0 | inr there ↦ among xs a.1 there ]

-- the same rows, partition by partition
equal_by : {R : Type 0} (join : R → R → R) (s : Words R) {L : Type 0} (k : Layouts L) (l : L) (a b : ℕ → List R) → ((n : ℕ) → AllProper s (b n)) → ((p n : ℕ) → p < 256 → rows_in s p (rows join s (b n)) ≡ rows_in s p (rows join s (a n))) → AreEqual join s k l a → AreEqual join s k l b
equal_by join s k l a b proper same is = record {
  proper = proper;
  same = λ p n m low here there. same p n low ∙ (is.same p n m low here there ∙ sym (same p m low));
  nobody = λ p n low other. same p n low ∙ is.nobody p n low other;
}

module _ {R : Type 0} {join : R → R → R} (joins : JoinLaws join) {s : Words R} (laws : Laws join s) (quiet_rows : IsQuiet s) {L : Type 0} (k : Layouts L) (l new : L) (later : k.reading.version new ≡ suc (k.reading.version l)) (layout : IsLayout k 256 l) (layout_new : IsLayout k 256 new)
    (part : List ℕ) (apart : AreApart part) (members : (n : ℕ) → IsMember k l n → IsTrue (is_among n part)) (members_new : (n : ℕ) → IsMember k new n → IsTrue (is_among n part))
    (A C : Type 0) (trio : L) (trio_roles : List Role → List Role) (m : ℕ) (member : IsMember k l m) (few : k.reading.version l < 100) (choice : Choice L A C) (shown : A) (w after : World R L) (rest : IsResting k l w)
    (is : Changes A C join s k trio trio_roles choice new shown m part w after) (equal : AreEqual join s k l (λ n. (w.nodes n).accepted)) (spelled : AreSpelled A C join s k trio trio_roles is.acked (each choice Syncs part)) (kept : List ℕ → Type 0) (keeps : (n : ℕ) → AllKept kept (w.nodes n).blocks) where
  proper_so : (n : ℕ) → IsTrue (is_among n part) → AllByRecursion (λ r. IsTrue (s.is_proper r)) (w.nodes n).accepted
  proper_so n e = recursion_from_All (λ r. IsTrue (s.is_proper r)) (w.nodes n).accepted (equal.proper n)

  told_kept : Kept (λ nodes ws. ((n : ℕ) → IsTrue (is_among n part) → IsOpened s k l new n (w.nodes n) (nodes n)) × ((n : ℕ) → is_among n part ≡ false → nodes n ≡ w.nodes n) × (ws ≡ [])) (suc (k.reading.version l)) is.told
  told_kept = told_so laws k l new later layout layout_new part apart members members_new A C trio trio_roles m member few choice shown w after rest proper_so is

  abbrev was : ℕ → Node R L
  was = is.acked.nodes

  -- ---- the new version has spread

  told_rows : (n : ℕ) (b : Bool) → is_among n part ≡ b → (p : ℕ) → p < 256 → rows_in s p (rows join s (is.told.nodes n).accepted) ≡ rows_in s p (rows join s (w.nodes n).accepted)
  told_rows n false e p low = ap (λ (x : Node R L). rows_in s p (rows join s x.accepted)) (told_kept.holds.1 n e)
  told_rows n true e p low = by_rows (told_kept.holds.0 n e).accepted
    where
      test : ℕ → Bool
      test q = list_any (is_among n) (map (λ x. set_of k x q) (l ∷ new ∷ []))

      by_test : (b : Bool) → list_any (is_among n) (map (λ x. set_of k x p) (l ∷ new ∷ [])) ≡ b → cond b (rows_in s p (rows join s (w.nodes n).accepted)) [] ≡ rows_in s p (rows join s (w.nodes n).accepted)
      by_test true f = refl
      by_test false f = sym (equal.nobody p n low (or_parts (is_among n (set_of k l p)) (list_any (is_among n) (set_of k new p ∷ [])) f).0)

      by_rows : ((is.told.nodes n).accepted ≡ (w.nodes n).accepted) ⊎ ((is.told.nodes n).accepted ≡ filter (λ r. list_any (is_among n) (map (λ x. set_of k x (partition_of s r)) (l ∷ new ∷ []))) (w.nodes n).accepted) → rows_in s p (rows join s (is.told.nodes n).accepted) ≡ rows_in s p (rows join s (w.nodes n).accepted)
      by_rows (inl same) = ap (λ acc. rows_in s p (rows join s acc)) same
      by_rows (inr left) =
          ap (λ acc. rows_in s p (rows join s acc)) left
          ∙ (filtered_rows laws (λ q. list_any (is_among n) (map (λ x. set_of k x q) (l ∷ new ∷ []))) (w.nodes n).accepted p (equal.proper n)
          ∙ by_test (list_any (is_among n) (map (λ x. set_of k x p) (l ∷ new ∷ []))) refl)

  told_proper : (n : ℕ) (b : Bool) → is_among n part ≡ b → AllProper s (is.told.nodes n).accepted
  told_proper n false e = subst (λ (x : Node R L). AllProper s x.accepted) (sym (told_kept.holds.1 n e)) (equal.proper n)
  told_proper n true e = by_rows (told_kept.holds.0 n e).accepted
    where
      by_rows : ((is.told.nodes n).accepted ≡ (w.nodes n).accepted) ⊎ ((is.told.nodes n).accepted ≡ filter (λ r. list_any (is_among n) (map (λ x. set_of k x (partition_of s r)) (l ∷ new ∷ []))) (w.nodes n).accepted) → AllProper s (is.told.nodes n).accepted
      by_rows (inl same) = subst (AllProper s) (sym same) (equal.proper n)
      by_rows (inr left) = subst (AllProper s) (sym left) (All-filter (λ r. list_any (is_among n) (map (λ x. set_of k x (partition_of s r)) (l ∷ new ∷ []))) (λ r. IsTrue (s.is_proper r)) (w.nodes n).accepted (equal.proper n))

  told_items : (n : ℕ) (b : Bool) → is_among n part ≡ b → (is.told.nodes n).items ≡ (w.nodes n).items
  told_items n false e = ap (λ (x : Node R L). x.items) (told_kept.holds.1 n e)
  told_items n true e = (told_kept.holds.0 n e).items

  -- ---- and was acknowledged: rows and outboxes are as they were

  acked_kept : Kept (λ nodes ws. IsBetween k l new part (tops (suc (k.reading.version l)) (k.reading.version l) (k.reading.version l)) is.told.nodes nodes ws × (ws ≡ []) × ((n j : ℕ) → IsTrue (is_among n part) → IsTrue (is_among j part) → suc (k.reading.version l) ≤ entry_of Ack (nodes n).view j)) (suc (k.reading.version l)) is.acked
  acked_kept = acked_so laws k l new later layout layout_new part apart members members_new A C trio trio_roles m member few choice shown w after rest proper_so is

  acked_accepted : (n : ℕ) (b : Bool) → is_among n part ≡ b → (was n).accepted ≡ (is.told.nodes n).accepted
  acked_accepted n false e = ap (λ (x : Node R L). x.accepted) (acked_kept.holds.0.outside n e)
  acked_accepted n true e = ap (λ (x : Node R L). x.accepted) (acked_kept.holds.0.inside n e).same

  acked_items : (n : ℕ) (b : Bool) → is_among n part ≡ b → (was n).items ≡ (is.told.nodes n).items
  acked_items n false e = ap (λ (x : Node R L). x.items) (acked_kept.holds.0.outside n e)
  acked_items n true e = ap (λ (x : Node R L). x.items) (acked_kept.holds.0.inside n e).same

  told_blocks : (n : ℕ) (b : Bool) → is_among n part ≡ b → (is.told.nodes n).blocks ≡ (w.nodes n).blocks
  told_blocks n false e = ap (λ (x : Node R L). x.blocks) (told_kept.holds.1 n e)
  told_blocks n true e = (told_kept.holds.0 n e).blocks

  acked_same_blocks : (n : ℕ) (b : Bool) → is_among n part ≡ b → (was n).blocks ≡ (is.told.nodes n).blocks
  acked_same_blocks n false e = ap (λ (x : Node R L). x.blocks) (acked_kept.holds.0.outside n e)
  acked_same_blocks n true e = ap (λ (x : Node R L). x.blocks) (acked_kept.holds.0.inside n e).same

  acked_blocks : (n : ℕ) → AllKept kept (was n).blocks
  acked_blocks n = subst (AllKept kept) (sym (acked_same_blocks n (is_among n part) refl ∙ told_blocks n (is_among n part) refl)) (keeps n)

  acked_equal : AreEqual join s k l (λ n. (was n).accepted)
  acked_equal = equal_by join s k l (λ n. (w.nodes n).accepted) (λ n. (was n).accepted)
      (λ n. subst (AllProper s) (sym (acked_accepted n (is_among n part) refl)) (told_proper n (is_among n part) refl))
      (λ p n low. ap (λ acc. rows_in s p (rows join s acc)) (acked_accepted n (is_among n part) refl) ∙ told_rows n (is_among n part) refl p low)
      equal

  -- ---- the rounds hand on what there was

  abbrev Old : R → Type 0
  Old = IsOld laws k l layout (λ n. (was n).accepted) acked_equal

  abbrev ready : (n : ℕ) → IsTrue (is_among n part) → IsReady laws k l new later layout.version layout layout_new part members members_new (was n)
  ready = ready_so laws k l new later layout layout_new part apart members members_new A C trio trio_roles m member few choice shown w after rest proper_so is

  abbrev moved : ℕ → Node R L
  moved = is.moved.nodes

  -- each of those rows has a spelling, since the node that has it begins a round
  spelled_old : (r : R) → Old r → is_spelled s r ≡ true
  spelled_old r old =
      let p = partition_of s r in
      let low = laws.partition_is_byte r old.proper in
      row_spelled laws Old (λ r old. old.proper) k l new later layout.version layout layout_new part members members_new A C trio trio_roles choice was ready apart (all_among part) is.acked refl spelled
      old.at (members old.at (member_at k l layout p old.at low old.of_set)) (stores_at k l layout p old.at low old.of_set) (has_old laws k l layout (λ n. (was n).accepted) acked_equal old.at) r old old.there old.of_set

  abbrev Strings : List ℕ → Type 0
  Strings = RoundHashes A C join s k trio trio_roles choice new shown m part w after is

  over : AreOver joins laws quiet_rows Old (λ r old. old.proper) (one_old laws k l layout (λ n. (was n).accepted) acked_equal) spelled_old Strings kept k l new later layout.version layout layout_new part members members_new A C trio trio_roles (suc (k.reading.version l)) choice was ready moved
  over = rounds_hand_on joins laws quiet_rows Old (λ r old. old.proper) (one_old laws k l layout (λ n. (was n).accepted) acked_equal) spelled_old Strings kept k l new later layout.version layout layout_new part members members_new A C trio trio_roles (suc (k.reading.version l)) choice was ready
      apart (λ n e. has_old laws k l layout (λ n. (was n).accepted) acked_equal n) (λ n. acked_blocks n) is.acked is.moved (record { marked = acked_kept.marked; applied = acked_kept.applied; holds = (refl, acked_kept.holds.1) }) is.moves (λ y h. h)

  -- each node of a newer set has each row of the partition
  has_all : NoClash Strings → (r : R) → Old r → (n : ℕ) → IsTrue (is_among n (set_of k new (partition_of s r))) → Has join s Old r (moved n)
  has_all clear r old n here =
      let p = partition_of s r in
      let low = laws.partition_is_byte r old.proper in
      let b = other_of_set laws k l layout (λ n. (was n).accepted) acked_equal p n low in
      over.handed clear r n (record {
        by = b.0;
        has_begun = (members b.0 (member_at k l layout p b.0 low b.1), stores_at k l layout p b.0 low b.1);
        other = b.2;
        of_old = b.1;
        of_new = here;
        is_good = old;
        there = all_have laws k l layout (λ n. (was n).accepted) acked_equal r old b.0 b.1;
      })

  in_part : (p n : ℕ) → p < 256 → IsTrue (is_among n (set_of k new p)) → IsTrue (is_among n part)
  in_part p n low here = members_new n (member_at k new layout_new p n low here)

  moved_same : NoClash Strings → (p n o : ℕ) → p < 256 → IsTrue (is_among n (set_of k new p)) → IsTrue (is_among o (set_of k new p)) → rows_in s p (rows join s (moved n).accepted) ≡ rows_in s p (rows join s (moved o).accepted)
  moved_same clear p n o low here there =
      let first = over.rows n (in_part p n low here) in
      let second = over.rows o (in_part p o low there) in
      same_partitions laws (moved n).accepted (moved o).accepted first.proper second.proper p (turn n o first there) (turn o n second here)
    where
      turn : (n o : ℕ) → HasGood join s Old (moved n).accepted → IsTrue (is_among o (set_of k new p)) → (table : ℕ) (key : List ℕ) (r : R) → row_at join s (moved n).accepted table key ≡ Some r → partition_of s r ≡ p → row_at join s (moved o).accepted table key ≡ Some r
      turn n o has there table key r e q =
          let g = has.each table key r e in
          let at = has_all clear r g.0 o (subst (λ j. IsTrue (is_among o (set_of k new j))) (sym q) there) in
          subst (λ t. row_at join s (moved o).accepted t key ≡ Some r) g.1 (subst (λ j. row_at join s (moved o).accepted (s.table r) j ≡ Some r) g.2 at)

  -- ---- the older version goes, with its rows

  abbrev final : ℕ → Node R L
  final = (cleaned_world laws k l new later layout layout_new part apart members members_new A C trio trio_roles m member few choice shown w after rest proper_so is).nodes

  cleaned_kept : Kept (λ nodes ws. ((n : ℕ) → IsTrue (is_among n part) → IsCleaned s k new n (moved n) (nodes n)) × ((n : ℕ) → is_among n part ≡ false → nodes n ≡ moved n) × (ws ≡ [])) (suc (k.reading.version l)) (cleaned_world laws k l new later layout layout_new part apart members members_new A C trio trio_roles m member few choice shown w after rest proper_so is)
  cleaned_kept = cleaned_so laws k l new later layout layout_new part apart members members_new A C trio trio_roles m member few choice shown w after rest proper_so is

  moved_proper : (n : ℕ) → IsTrue (is_among n part) → AllProper s (moved n).accepted
  moved_proper n e = All-from_recursion (λ r. IsTrue (s.is_proper r)) (moved n).accepted (over.rows n e).proper

  final_rows : (n : ℕ) → IsTrue (is_among n part) → (p : ℕ) → rows_in s p (rows join s (final n).accepted) ≡ cond (list_any (is_among n) (map (λ x. set_of k x p) (new ∷ []))) (rows_in s p (rows join s (moved n).accepted)) []
  final_rows n e p =
      ap (λ acc. rows_in s p (rows join s acc)) (cleaned_kept.holds.0 n e).accepted
      ∙ filtered_rows laws (λ q. list_any (is_among n) (map (λ x. set_of k x q) (new ∷ []))) (moved n).accepted p (moved_proper n e)

  kept_rows : (p n : ℕ) → p < 256 → IsTrue (is_among n (set_of k new p)) → rows_in s p (rows join s (final n).accepted) ≡ rows_in s p (rows join s (moved n).accepted)
  kept_rows p n low here = final_rows n (in_part p n low here) p ∙ ap (λ b. cond b (rows_in s p (rows join s (moved n).accepted)) []) (or_left (is_among n (set_of k new p)) false here)

  other_kept : (n : ℕ) → is_among n part ≡ false → final n ≡ w.nodes n
  other_kept = others_so laws k l new later layout layout_new part apart members members_new A C trio trio_roles m member few choice shown w after rest proper_so is

  final_proper : (n : ℕ) (b : Bool) → is_among n part ≡ b → AllProper s (final n).accepted
  final_proper n true e =
      subst (AllProper s) (sym (cleaned_kept.holds.0 n e).accepted) (All-filter (λ r. list_any (is_among n) (map (λ x. set_of k x (partition_of s r)) (new ∷ []))) (λ r. IsTrue (s.is_proper r)) (moved n).accepted (moved_proper n e))
  final_proper n false e = subst (λ (x : Node R L). AllProper s x.accepted) (sym (other_kept n e)) (equal.proper n)

  not_member : (p n : ℕ) → p < 256 → is_among n part ≡ false → (b : Bool) → is_among n (set_of k l p) ≡ b → is_among n (set_of k l p) ≡ false
  not_member p n low e false f = f
  not_member p n low e true f = absurd (false≢true (sym e ∙ members n (member_at k l layout p n low f)))

  final_nobody : (p n : ℕ) → p < 256 → is_among n (set_of k new p) ≡ false → (b : Bool) → is_among n part ≡ b → rows_in s p (rows join s (final n).accepted) ≡ []
  final_nobody p n low other true e = final_rows n e p ∙ ap (λ b. cond b (rows_in s p (rows join s (moved n).accepted)) []) (or_from (is_among n (set_of k new p)) false other refl)
  final_nobody p n low other false e = ap (λ (x : Node R L). rows_in s p (rows join s x.accepted)) (other_kept n e) ∙ equal.nobody p n low (not_member p n low e (is_among n (set_of k l p)) refl)

  final_equal : NoClash Strings → AreEqual join s k new (λ n. (final n).accepted)
  final_equal clear = record {
    proper = λ n. final_proper n (is_among n part) refl;
    same = λ p n o low here there. kept_rows p n low here ∙ (moved_same clear p n o low here there ∙ sym (kept_rows p o low there));
    nobody = λ p n low other. final_nobody p n low other (is_among n part) refl;
  }

  -- replicas are equal in the newer version
  pub equal_so : NoClash Strings → AreEqual join s k new (λ n. (after.nodes n).accepted)
  equal_so clear = subst (λ (u : World R L). AreEqual join s k new (λ n. (u.nodes n).accepted)) (sym is.leads) (final_equal clear)

  final_items : (n : ℕ) (b : Bool) → is_among n part ≡ b → (final n).items ≡ (w.nodes n).items
  final_items n true e = (cleaned_kept.holds.0 n e).items ∙ (over.items n ∙ (acked_items n true e ∙ told_items n true e))
  final_items n false e = ap (λ (x : Node R L). x.items) (other_kept n e)

  -- outboxes are as they were
  pub items_so : (n : ℕ) → (after.nodes n).items ≡ (w.nodes n).items
  items_so n = ap (λ (u : World R L). (u.nodes n).items) is.leads ∙ final_items n (is_among n part) refl

  -- ---- what each node has

  -- a node of a newer set has what a node of the older one had
  moved_old : NoClash Strings → (p n b : ℕ) → p < 256 → IsTrue (is_among n (set_of k new p)) → IsTrue (is_among b (set_of k l p)) → rows_in s p (rows join s (moved n).accepted) ≡ rows_in s p (rows join s (was b).accepted)
  moved_old clear p n b low here there =
      let has = over.rows n (in_part p n low here) in
      let old = has_old laws k l layout (λ n. (was n).accepted) acked_equal b in
      same_partitions laws (moved n).accepted (was b).accepted has.proper old.proper p
      (λ table key r e q.
      (let g = has.each table key r e in
      let at = all_have laws k l layout (λ n. (was n).accepted) acked_equal r g.0 b (subst (λ j. IsTrue (is_among b (set_of k l j))) (sym q) there) in
      subst (λ t. row_at join s (was b).accepted t key ≡ Some r) g.1 (subst (λ j. row_at join s (was b).accepted (s.table r) j ≡ Some r) g.2 at)))
      (λ table key r e q.
      (let g = old.each table key r e in
      let at = has_all clear r g.0 n (subst (λ j. IsTrue (is_among n (set_of k new j))) (sym q) here) in
      subst (λ t. row_at join s (moved n).accepted t key ≡ Some r) g.1 (subst (λ j. row_at join s (moved n).accepted (s.table r) j ≡ Some r) g.2 at)))

  final_old : NoClash Strings → (p n b : ℕ) → p < 256 → IsTrue (is_among n (set_of k new p)) → IsTrue (is_among b (set_of k l p)) → rows_in s p (rows join s (final n).accepted) ≡ rows_in s p (rows join s (w.nodes b).accepted)
  final_old clear p n b low here there =
      kept_rows p n low here
      ∙ (moved_old clear p n b low here there
      ∙ (ap (λ acc. rows_in s p (rows join s acc)) (acked_accepted b (is_among b part) refl) ∙ told_rows b (is_among b part) refl p low))

  pub handed_so : NoClash Strings → (p n b : ℕ) → p < 256 → IsTrue (is_among n (set_of k new p)) → IsTrue (is_among b (set_of k l p)) → rows_in s p (rows join s (after.nodes n).accepted) ≡ rows_in s p (rows join s (w.nodes b).accepted)
  handed_so clear p n b low here there = ap (λ (u : World R L). rows_in s p (rows join s (u.nodes n).accepted)) is.leads ∙ final_old clear p n b low here there

  -- ---- and no node has anything else

  told_had : (n : ℕ) (table : ℕ) (key : List ℕ) (r : R) → row_at join s (is.told.nodes n).accepted table key ≡ Some r → row_at join s (w.nodes n).accepted table key ≡ Some r
  told_had n table key r e = by_part (is_among n part) refl
    where
      proper : AllByRecursion (λ r. IsTrue (s.is_proper r)) (w.nodes n).accepted
      proper = recursion_from_All (λ r. IsTrue (s.is_proper r)) (w.nodes n).accepted (equal.proper n)

      by_rows : ((is.told.nodes n).accepted ≡ (w.nodes n).accepted) ⊎ ((is.told.nodes n).accepted ≡ filter (λ r. list_any (is_among n) (map (λ x. set_of k x (partition_of s r)) (l ∷ new ∷ []))) (w.nodes n).accepted) → row_at join s (w.nodes n).accepted table key ≡ Some r
      by_rows (inl same) = ap (λ acc. row_at join s acc table key) (sym same) ∙ e
      by_rows (inr left) = row_left laws (w.nodes n).accepted proper (λ q. list_any (is_among n) (map (λ x. set_of k x q) (l ∷ new ∷ []))) table key r (ap (λ acc. row_at join s acc table key) (sym left) ∙ e)

      by_part : (b : Bool) → is_among n part ≡ b → row_at join s (w.nodes n).accepted table key ≡ Some r
      by_part true f = by_rows (told_kept.holds.0 n f).accepted
      by_part false f = ap (λ (x : Node R L). row_at join s x.accepted table key) (sym (told_kept.holds.1 n f)) ∙ e

  -- what a node has some node had before
  final_had : (n : ℕ) (b : Bool) → is_among n part ≡ b → (table : ℕ) (key : List ℕ) (r : R) → row_at join s (final n).accepted table key ≡ Some r → (o : ℕ) × (row_at join s (w.nodes o).accepted table key ≡ Some r)
  final_had n false f table key r e = (n, ap (λ (x : Node R L). row_at join s x.accepted table key) (sym (other_kept n f)) ∙ e)
  final_had n true f table key r e =
      let has = over.rows n f in
      let there = row_left laws (moved n).accepted has.proper (λ q. list_any (is_among n) (map (λ x. set_of k x q) (new ∷ []))) table key r (ap (λ acc. row_at join s acc table key) (sym (cleaned_kept.holds.0 n f).accepted) ∙ e) in
      let g = has.each table key r there in
      let at = subst (λ t. row_at join s (was g.0.at).accepted t key ≡ Some r) g.1 (subst (λ j. row_at join s (was g.0.at).accepted (s.table r) j ≡ Some r) g.2 g.0.there) in
      (g.0.at, told_had g.0.at table key r (ap (λ acc. row_at join s acc table key) (sym (acked_accepted g.0.at (is_among g.0.at part) refl)) ∙ at))

  pub nothing_new : (n : ℕ) (table : ℕ) (key : List ℕ) (r : R) → row_at join s (after.nodes n).accepted table key ≡ Some r → (o : ℕ) × (row_at join s (w.nodes o).accepted table key ≡ Some r)
  nothing_new n table key r e = final_had n (is_among n part) refl table key r (ap (λ (u : World R L). row_at join s (u.nodes n).accepted table key) (sym is.leads) ∙ e)

  final_blocks : (n : ℕ) (b : Bool) → is_among n part ≡ b → AllKept kept (final n).blocks
  final_blocks n true e = subst (AllKept kept) (sym (cleaned_kept.holds.0 n e).blocks) (over.blocks n)
  final_blocks n false e = subst (λ (x : Node R L). AllKept kept x.blocks) (sym (other_kept n e)) (keeps n)

  -- and so are its blocks
  pub blocks_so : (n : ℕ) → AllKept kept (after.nodes n).blocks
  blocks_so n = subst (λ (u : World R L). AllKept kept (u.nodes n).blocks) (sym is.leads) (final_blocks n (is_among n part) refl)
