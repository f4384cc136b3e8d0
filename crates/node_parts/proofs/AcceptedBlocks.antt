-- The blocks after a row was accepted.
use Rattle.std.proofs.Common.{◌≡◌, ℕ, ◌+◌, true, false, cond, List, [], ◌∷◌, Option, Some, None, is_some, IsTrue, if◌then◌else◌, unwrap_or, refl, sym, ap, ◌∙◌, subst}
use Rattle.std.specs.Ordering.{is_eq}
use Rattle.std.specs.Cmp.{tied_itself, Equal-is}
use Rattle.std.proofs.lemmas.List.Elements.{All-head, All-tail}
use Rattle.crdt_core.specs.Order.{option_join}
use Rattle.blake2_hash.specs.declared.digest.Hash32.{Hash32}
use Rattle.block_store.specs.Contents.{Contents as Kept}
use Rattle.table_schema.specs.Words.{Words}
use Rattle.table_schema.specs.Laws.{Laws, Same}
use Rattle.table_model.specs.Rows.{AllProper, place, row_cmp, is_at, row_at, rows, find_row, change_of}
use Rattle.table_model.proofs.RowLaws.{place_total, joins, rows_proper, row_found}
use Rattle.cluster_machine.specs.Node.{Block, Note}
use Rattle.cluster_machine.specs.Rows.{is_block, block_of, count_of, blocks_after, notes_after, lost_block}
use Rattle.node_parts.specs.Contents.{AreBlocks}
use Rattle.node_parts.specs.References.{referred}
use Rattle.node_parts.proofs.Counting.{one, count_accepted}
use Rattle.node_parts.proofs.KeptBlocks.{Alike, hash_of, refers}

module _ {R : Type 0} {join : R → R → R} {s : Words R} (laws : Laws join s) where
  at_itself : (r : R) → is_at s (s.table r) (s.key r) r ≡ true
  at_itself r = ap is_eq (tied_itself place_total (place s r))

  -- what stands at a row's place once it is accepted
  pub after_is : (r : R) (older : List R) → row_at join s (r ∷ older) (s.table r) (s.key r) ≡ option_join join (row_at join s older (s.table r) (s.key r)) (Some r)
  after_is r older =
      let before = row_at join s older (s.table r) (s.key r) in
      ap (λ b. if b then option_join join before (Some r) else before) (at_itself r)

  module _ (r : R) (proper : IsTrue (s.is_proper r)) where
    -- the row that is found at a row's place is of one table and key with it
    found_same : (xs : List R) → AllProper s xs → (old : R) → find_row s (s.table r) (s.key r) xs ≡ Some old → Same s old r
    found_same [] all old e = cc
    found_same (x ∷ xs) all old e =
        elim (is_at s (s.table r) (s.key r) x) as (λ t. is_at s (s.table r) (s.key r) x ≡ t → cond t (Some x) (find_row s (s.table r) (s.key r) xs) ≡ Some old → Same s old r) [
          | true ↦ λ t f.
              subst (λ y. Same s y r) (ap (λ o. unwrap_or o x) f) (joins laws r x proper (All-head (λ y. IsTrue (s.is_proper y)) x xs all) ((Equal-is (row_cmp s r x)).0 t))
          | false ↦ λ t f. found_same xs (All-tail (λ y. IsTrue (s.is_proper y)) x xs all) old f
        ] refl e

    -- a block that the merged row needs the row that came needs
    merged_by : (old : R) → Same s old r → (o : Option (List ℕ)) → s.live_block (join old r) ≡ o → cond (is_some o) (s.live_block r) None ≡ o
    merged_by old same None e = refl
    merged_by old same (Some hash) e = (laws.joined_block old r hash same e).1

    itself : (o : Option (List ℕ)) → cond (is_some o) o None ≡ o
    itself None = refl
    itself (Some hash) = refl

    needed_after : (old : Option R) → ((o : R) → old ≡ Some o → Same s o r) → cond (change_of join s old r).is_live (s.live_block r) None ≡ block_of join s (option_join join old (Some r))
    needed_after None same = itself (s.live_block r)
    needed_after (Some o) same = merged_by o (same o refl) (s.live_block (join o r)) refl

    alike_by : (before after : Option Hash32) (o : R) → Same s o r → hash_of before ≡ s.live_block o → hash_of after ≡ s.live_block (join o r) → Alike before after
    alike_by None after o same was will = tt
    alike_by (Some old) None o same was will = tt
    alike_by (Some old) (Some new) o same was will =
        let both : Some old.0 ≡ Some new.0 = was ∙ (laws.joined_block o r new.0 same (sym will)).0 in
        λ i. record { 0 = ap (λ b. unwrap_or b old.0) both i }

    alike : (before after : Option Hash32) (old : Option R) → ((o : R) → old ≡ Some o → Same s o r) → hash_of before ≡ block_of join s old → hash_of after ≡ block_of join s (option_join join old (Some r)) → Alike before after
    alike None after None same was will = tt
    alike (Some old) after None same was will = cc
    alike before after (Some o) same was will = alike_by before after o (same o refl) was will

    module _ (older : List R) (all : AllProper s older) (before after : Option Hash32) where
      abbrev found : Option R
      found = find_row s (s.table r) (s.key r) (rows join s older)

      abbrev pub old_block : Option (List ℕ)
      old_block = block_of join s (row_at join s older (s.table r) (s.key r))

      abbrev pub new_block : Option (List ℕ)
      new_block = block_of join s (row_at join s (r ∷ older) (s.table r) (s.key r))

      module _ (was : hash_of before ≡ block_of join s found) (will : hash_of after ≡ cond (change_of join s found r).is_live (s.live_block r) None) where
        same : (o : R) → found ≡ Some o → Same s o r
        same o e = found_same (rows join s older) (rows_proper laws older all) o e

        joined : hash_of after ≡ block_of join s (option_join join found (Some r))
        joined = will ∙ needed_after found same

        before_is : hash_of before ≡ old_block
        before_is = was ∙ ap (block_of join s) (row_found laws older (s.table r) (s.key r) all)

        after_block : hash_of after ≡ new_block
        after_block = joined ∙ ap (block_of join s) (ap (λ o. option_join join o (Some r)) (row_found laws older (s.table r) (s.key r) all) ∙ sym (after_is r older))

        counts : (q : List ℕ) → count_of join s (r ∷ older) q + one (is_block q (hash_of before)) ≡ count_of join s older q + one (is_block q (hash_of after))
        counts q =
            ap (λ b. count_of join s (r ∷ older) q + one (is_block q b)) was
            ∙ (count_accepted laws q older r all ∙ ap (λ b. count_of join s older q + one (is_block q b)) (sym joined))

        pub accepted_blocks : (now : ℕ) (given : Option (List ℕ)) (kept : Kept) (there : List Block) (noted : List Note) → AreBlocks join s kept older there noted →
            AreBlocks join s (referred now given kept before after) (r ∷ older) (blocks_after join s there new_block given) (notes_after join s (r ∷ older) noted now (lost_block join s old_block new_block))
        accepted_blocks now given kept there noted are =
            let now_are = refers join s kept older (r ∷ older) there noted now given before after (alike before after found same was joined) counts are in
            subst (λ b. AreBlocks join s (referred now given kept before after) (r ∷ older) (blocks_after join s there new_block given) (notes_after join s (r ∷ older) noted now (lost_block join s b new_block))) before_is
            (subst (λ b. AreBlocks join s (referred now given kept before after) (r ∷ older) (blocks_after join s there b given) (notes_after join s (r ∷ older) noted now (lost_block join s (hash_of before) b))) after_block now_are)
