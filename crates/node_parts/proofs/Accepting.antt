-- Contents that accept rows: what is queued, and what later rows leave of it.
use Rattle.std.proofs.Common.{◌≡◌, ◌<◌, ◌+◌, ◌^◌, ℕ, zero, suc, true, false, cond, List, [], ◌∷◌, ◌++◌, Option, Some, None, is_some, length, IsTrue, get_or, take, drop, refl, sym, ap, ◌∙◌, subst, append_assoc, arith, add-one, drop-cons, length-append, length-take-le}
use Rattle.std.specs.List.{AllZip, AllByRecursion}
use Rattle.std.specs.Option.{option_and_then}
use Rattle.std.proofs.lemmas.List.Elements.{All-cons, All-from_recursion, recursion_from_All}
use Rattle.crdt_core.specs.Order.{option_join}
use Rattle.blake2_hash.specs.declared.digest.Hash32.{Hash32}
use Rattle.block_resync.specs.Outbox.{Outbox, pushed_on}
use Rattle.block_resync.specs.declared.item.Item.{Item}
use Rattle.layout_roles.specs.declared.layout.Layout.{Layout}
use Rattle.table_schema.specs.Words.{Words, partition_of}
use Rattle.table_schema.specs.Laws.{Laws}
use Rattle.table_model.specs.Rows.{AllProper, row_at, rows, merged_in, find_row, change_of}
use Rattle.table_model.proofs.RowLaws.{row_found}
use Rattle.cluster_machine.specs.Node.{Node, Item as Waiting}
use Rattle.cluster_machine.specs.Phases.{is_spelled}
use Rattle.cluster_machine.specs.Rows.{accepts, accepts_read, accepts_all, called_for, block_of, blocks_after, notes_after, lost_block, queue_from}
use Rattle.node_parts.specs.declared.contents.Contents.{Contents}
use Rattle.node_parts.proofs.KeptBlocks.{hash_of}
use Rattle.node_parts.proofs.AcceptedBlocks.{after_is, old_block, new_block, accepted_blocks}
use Rattle.node_parts.specs.Contents.{AreBlocks, IsItem, IsContents, Became, KeepsRest, Holds, Turns, Exceeds, Accepts, CannotAccept}
use Rattle.node_parts.specs.References.{referred}

zip_push : {A B : Type 0} (Q : A → B → Type 0) (xs : List A) (ys : List B) (x : A) (y : B) → AllZip Q xs ys → Q x y → AllZip Q (xs ++ x ∷ []) (ys ++ y ∷ [])
zip_push Q [] [] x y h q = (q, tt)
zip_push Q [] (b ∷ bs) x y h q = absurd h
zip_push Q (a ∷ others) [] x y h q = absurd h
zip_push Q (a ∷ others) (b ∷ bs) x y h q = (h.0, zip_push Q others bs x y h.1 q)

left_all : {A : Type 0} (P : A → Type 0) (xs ys : List A) → AllByRecursion P (xs ++ ys) → AllByRecursion P xs
left_all P [] ys h = tt
left_all P (x ∷ xs) ys h = (h.0, left_all P xs ys h.1)

pub right_all : {A : Type 0} (P : A → Type 0) (xs ys : List A) → AllByRecursion P (xs ++ ys) → AllByRecursion P ys
right_all P [] ys h = h
right_all P (x ∷ xs) ys h = right_all P xs ys h.1

-- ---- what is queued

-- after these rows were queued behind the items ms
pub record Queued {R : Type 0} (join : R → R → R) (s : Words R) (old new : Outbox) (rs : List R) (ms : List (Waiting R)) : Type 0 where
  pub items : AllZip (IsItem s) new.items (ms ++ queue_from join s old.pushed rs)
  pub pushed : new.pushed ≡ old.pushed + length rs

module _ {R : Type 0} (join : R → R → R) (s : Words R) where
  abbrev pub Queues : Outbox → Outbox → List R → Type 0
  Queues old new rs = (ms : List (Waiting R)) → AllZip (IsItem s) old.items ms → Queued join s old new rs ms

  with_nothing : {A : Type 0} (xs : List A) → xs ≡ xs ++ []
  with_nothing [] = refl
  with_nothing (x ∷ xs) = ap (λ z. x ∷ z) (with_nothing xs)

  pub queues_none : (o : Outbox) → Queues o o []
  queues_none o ms h = record { items = subst (AllZip (IsItem s) o.items) (with_nothing ms) h; pushed = omega arith }

  abbrev item_of : ℕ → R → Waiting R
  item_of n r = record { number = suc n; row = r; confirmed = [] }

  queue_more : (n : ℕ) (rs : List R) (r : R) → queue_from join s n (rs ++ r ∷ []) ≡ queue_from join s n rs ++ item_of (n + length rs) r ∷ []
  queue_more n [] r = let none : n ≡ n + 0 = omega arith in ap (λ k. item_of k r ∷ []) none
  queue_more n (x ∷ xs) r =
      let one : suc n + length xs ≡ n + suc (length xs) = omega arith in
      ap (λ ms. item_of n x ∷ ms) (queue_more (suc n) xs r ∙ ap (λ k. queue_from join s (suc n) xs ++ item_of k r ∷ []) one)

  pub queues_more : (old mid : Outbox) (rs : List R) (r : R) (bytes : List ℕ) (p : ℕ) → Queues old mid rs → s.spelling r ≡ Some bytes → p ≡ partition_of s r → Queues old (pushed_on mid bytes p) (rs ++ r ∷ [])
  queues_more old mid rs r bytes p q spelled place ms h =
      let was = q ms h in
      let before = ms ++ queue_from join s old.pushed rs in
      let last = item_of (old.pushed + length rs) r in
      let here : before ++ last ∷ [] ≡ ms ++ queue_from join s old.pushed (rs ++ r ∷ []) = append_assoc ms (queue_from join s old.pushed rs) (last ∷ []) ∙ ap (λ l. ms ++ l) (sym (queue_more old.pushed rs r)) in
      let item : Item = record { number = mid.pushed + 1; row = bytes; partition = p; confirmed = [] } in
      let number : mid.pushed + 1 ≡ suc (old.pushed + length rs) = omega (arith, was.pushed) in
      record {
        items = subst (AllZip (IsItem s) (pushed_on mid bytes p).items) here (zip_push (IsItem s) mid.items before item last was.items (record { number = number; row = spelled; partition = place; confirmed = λ n. refl }));
        pushed = omega (arith, was.pushed, length-append rs (r ∷ []));
      }

-- ---- a row that is accepted

pub needs_is : {R : Type 0} (join : R → R → R) (s : Words R) (there : Option R) → option_and_then s.live_block there ≡ block_of join s there
needs_is join s None = refl
needs_is join s (Some r) = refl

module _ {R : Type 0} {join : R → R → R} {s : Words R} (laws : Laws join s) where
  called_by : (before : Option R) (r : R) → called_for join s before (option_join join before (Some r)) ≡ (change_of join s before r).triggered
  called_by None r = refl
  called_by (Some old) r = refl

  called_is : (older : List R) (r : R) → AllProper s older →
      called_for join s (row_at join s older (s.table r) (s.key r)) (row_at join s (r ∷ older) (s.table r) (s.key r)) ≡ (change_of join s (find_row s (s.table r) (s.key r) (rows join s older)) r).triggered
  called_is older r all =
      let before = row_at join s older (s.table r) (s.key r) in
      ap (called_for join s before) (after_is laws r older)
      ∙ (called_by before r ∙ ap (λ o. (change_of join s o r).triggered) (sym (row_found laws older (s.table r) (s.key r) all)))

  module _ {S : Type 0} (c : Contents S R) (x : Node R Layout) (r : R) (rs : List R) (h : IsContents join s c x) (is : rs ≡ (change_of join s (find_row s (s.table r) (s.key r) c.table) r).triggered) where
    abbrev calls : List R
    calls = called_for join s (row_at join s x.accepted (s.table r) (s.key r)) (row_at join s (r ∷ x.accepted) (s.table r) (s.key r))

    same_calls : rs ≡ calls
    same_calls = is ∙ (ap (λ t. (change_of join s (find_row s (s.table r) (s.key r) t) r).triggered) h.table ∙ sym (called_is x.accepted r h.proper))

    pub became : (d : Contents S R) (now : ℕ) (given : Option (List ℕ)) (before after : Option Hash32) → IsTrue (s.is_proper r) → d.table ≡ merged_in join s r c.table → Queues join s c.outbox d.outbox rs →
        hash_of before ≡ block_of join s (find_row s (s.table r) (s.key r) c.table) →
        hash_of after ≡ cond (change_of join s (find_row s (s.table r) (s.key r) c.table) r).is_live (s.live_block r) None →
        d.blocks ≡ referred now given c.blocks before after → Became join s d x (accepts join s now x r given)
    became d now given before after proper merged queues was will blocks =
        let q = queues x.items h.items in
        record {
          contents = record {
            proper = All-cons (λ y. IsTrue (s.is_proper y)) r x.accepted proper h.proper;
            table = merged ∙ ap (merged_in join s r) h.table;
            items = subst (λ n. AllZip (IsItem s) d.outbox.items (x.items ++ queue_from join s n calls)) h.queued (subst (λ l. AllZip (IsItem s) d.outbox.items (x.items ++ queue_from join s c.outbox.pushed l)) same_calls q.items);
            queued = q.pushed ∙ (λ i. h.queued i + length (same_calls i));
            blocks = subst (λ k. AreBlocks join s k (r ∷ x.accepted) (blocks_after join s x.blocks (new_block laws r proper x.accepted h.proper before after) given) (notes_after join s (r ∷ x.accepted) x.notes now (lost_block join s (old_block laws r proper x.accepted h.proper before after) (new_block laws r proper x.accepted h.proper before after)))) (sym blocks)
                (accepted_blocks laws r proper x.accepted h.proper before after
                (was ∙ ap (λ t. block_of join s (find_row s (s.table r) (s.key r) t)) h.table)
                (will ∙ ap (λ t. cond (change_of join s (find_row s (s.table r) (s.key r) t) r).is_live (s.live_block r) None) h.table)
                now given c.blocks x.blocks x.notes h.blocks);
          };
          rest = record { view = refl; calls = refl; round = refl; rounds = refl; mending = refl; lasting = refl; gc = refl };
        }

    queued_spelled : (n : ℕ) (ts : List R) (i : ℕ) (d : R) → AllByRecursion (λ (m : Waiting R). IsTrue (is_spelled s m.row)) (queue_from join s n ts) → i < length ts → IsTrue (is_spelled s (get_or ts i d))
    queued_spelled n [] i d all lt = absurd (omega arith)
    queued_spelled n (t ∷ ts) zero d all lt = all.0
    queued_spelled n (t ∷ ts) (suc i) d all lt = queued_spelled (suc n) ts i d all.1 (omega arith)

    unspelled : (t : R) → s.spelling t ≡ None → IsTrue (is_spelled s t) → ⊥
    unspelled t none is = let no : false ≡ true = sym (ap is_some none) ∙ is in cc

    -- one of the rows that are queued has no spelling
    pub lacks_spelling : (now : ℕ) (given : Option (List ℕ)) (i : ℕ) (d : R) → i < length rs → s.spelling (get_or rs i d) ≡ None → Holds s (accepts join s now x r given) → ⊥
    lacks_spelling now given i d lt none holds =
        let whole = recursion_from_All (λ (m : Waiting R). IsTrue (is_spelled s m.row)) (x.items ++ queue_from join s x.queued calls) holds.spelled in
        let later = right_all (λ (m : Waiting R). IsTrue (is_spelled s m.row)) x.items (queue_from join s x.queued calls) whole in
        let spelled = queued_spelled x.queued calls i d later (subst (λ l. i < length l) same_calls lt) in
        unspelled (get_or calls i d) (ap (λ l. s.spelling (get_or l i d)) (sym same_calls) ∙ none) spelled

    -- there are too many items
    pub overflows : (now : ℕ) (given : Option (List ℕ)) (i : ℕ) (mid : Outbox) → i < length rs → Queues join s c.outbox mid (take i rs) → mid.pushed + 1 ≡ 2 ^ 64 → Holds s (accepts join s now x r given) → ⊥
    overflows now given i mid lt queues full holds =
        let q = queues x.items h.items in
        let count : length rs ≡ length calls = ap length same_calls in
        let high : x.queued + length calls < 2 ^ 64 = holds.queued in
        let taken : length (take i rs) ≡ i = length-take-le i rs (omega arith) in
        omega (arith, q.pushed, h.queued, taken, count, high, full)

-- ---- rows that are accepted one after the other

module _ {R : Type 0} (join : R → R → R) (s : Words R) where
  holds_before : (now : ℕ) (y : Node R Layout) (r : R) (given : Option (List ℕ)) → Holds s (accepts join s now y r given) → Holds s y
  holds_before now y r given h =
      let new = called_for join s (row_at join s y.accepted (s.table r) (s.key r)) (row_at join s (r ∷ y.accepted) (s.table r) (s.key r)) in
      let whole = recursion_from_All (λ (m : Waiting R). IsTrue (is_spelled s m.row)) (y.items ++ queue_from join s y.queued new) h.spelled in
      let high : y.queued + length new < 2 ^ 64 = h.queued in
      record {
        spelled = All-from_recursion (λ (m : Waiting R). IsTrue (is_spelled s m.row)) y.items (left_all (λ (m : Waiting R). IsTrue (is_spelled s m.row)) y.items (queue_from join s y.queued new) whole);
        queued = omega arith;
      }

  holds_unread : (now : ℕ) (y : Node R Layout) (read : Option R) (given : Option (List ℕ)) → Holds s (accepts_read join s now y read given) → Holds s y
  holds_unread now y None given h = h
  holds_unread now y (Some r) given h = holds_before now y r given h

  -- what a node holds too much of it still does after more rows
  pub holds_first : (now : ℕ) (y : Node R Layout) (stored : List (List ℕ × Option (List ℕ))) → Holds s (accepts_all join s now y stored) → Holds s y
  holds_first now y [] h = h
  holds_first now y (b ∷ bs) h = holds_unread now y (s.read b.0) b.1 (holds_first now (accepts_read join s now y (s.read b.0) b.1) bs h)

-- x became the contents' node so far, and to accept the rest leads on to z
pub record Passes {S R : Type 0} (join : R → R → R) (s : Words R) (c : Contents S R) (now : ℕ) (x z : Node R Layout) (rest : List (List ℕ × Option (List ℕ))) : Type 0 where
  pub so_far : Node R Layout
  pub became : Became join s c x so_far
  pub still : z ≡ accepts_all join s now so_far rest

rest_on : {R : Type 0} (x y z : Node R Layout) → KeepsRest x y → KeepsRest y z → KeepsRest x z
rest_on x y z a b = record { view = b.view ∙ a.view; calls = b.calls ∙ a.calls; round = b.round ∙ a.round; rounds = b.rounds ∙ a.rounds; mending = b.mending ∙ a.mending; lasting = b.lasting ∙ a.lasting; gc = b.gc ∙ a.gc }

module _ {S R : Type 0} (join : R → R → R) (s : Words R) (now : ℕ) where
  -- of the whole list the rest is still to be accepted
  abbrev pub PassesTo : Contents S R → Contents S R → List (List ℕ × Option (List ℕ)) → List (List ℕ × Option (List ℕ)) → Type 0
  PassesTo old mid whole rest = (x : Node R Layout) → IsContents join s old x → Passes join s mid now x (accepts_all join s now x whole) rest

  pub passes_first : (c : Contents S R) (whole : List (List ℕ × Option (List ℕ))) → PassesTo c c whole whole
  passes_first c whole x h = record { so_far = x; became = record { contents = h; rest = record { view = refl; calls = refl; round = refl; rounds = refl; mending = refl; lasting = refl; gc = refl } }; still = refl }

  pub passes_last : (old new : Contents S R) (whole : List (List ℕ × Option (List ℕ))) → PassesTo old new whole [] → Accepts join s old new now whole
  passes_last old new whole passes x h = let p = passes x h in subst (Became join s new x) (sym p.still) p.became

  pub passes_next : (old mid : Contents S R) (whole : List (List ℕ × Option (List ℕ))) (i : ℕ) (b : List ℕ × Option (List ℕ)) → i < length whole → b ≡ get_or whole i b → PassesTo old mid whole (drop i whole) → PassesTo old mid whole (b ∷ drop (i + 1) whole)
  passes_next old mid whole i b lt is passes =
      let next : drop i whole ≡ b ∷ drop (i + 1) whole = drop-cons whole i b lt ∙ (λ j. sym is j ∷ drop (sym (add-one i) j) whole) in
      subst (PassesTo old mid whole) next passes

  module _ (old mid : Contents S R) (whole rest : List (List ℕ × Option (List ℕ))) (b : List ℕ × Option (List ℕ)) (passes : PassesTo old mid whole (b ∷ rest)) where
    -- bytes of no row
    pub passes_over : s.read b.0 ≡ None → PassesTo old mid whole rest
    passes_over none x h =
        let p = passes x h in
        record { so_far = p.so_far; became = p.became; still = p.still ∙ ap (λ read. accepts_all join s now (accepts_read join s now p.so_far read b.1) rest) none }

    module _ (r : R) (is : s.read b.0 ≡ Some r) where
      goes_on : (y z : Node R Layout) → z ≡ accepts_all join s now y (b ∷ rest) → z ≡ accepts_all join s now (accepts join s now y r b.1) rest
      goes_on y z e = e ∙ ap (λ read. accepts_all join s now (accepts_read join s now y read b.1) rest) is

      pub passes_on : (new : Contents S R) → Turns join s mid new (λ y. accepts join s now y r b.1) → PassesTo old new whole rest
      passes_on new turns x h =
          let p = passes x h in
          let y = accepts join s now p.so_far r b.1 in
          let next = turns p.so_far p.became.contents in
          record {
            so_far = y;
            became = record { contents = next.contents; rest = rest_on x p.so_far y p.became.rest next.rest };
            still = goes_on p.so_far (accepts_all join s now x whole) p.still;
          }

      pub stops : Exceeds join s mid (λ y. accepts join s now y r b.1) → CannotAccept join s old now whole
      stops exceeds x h holds =
          let p = passes x h in
          exceeds p.so_far p.became.contents
          (holds_first join s now (accepts join s now p.so_far r b.1) rest (subst (Holds s) (goes_on p.so_far (accepts_all join s now x whole) p.still) holds))
