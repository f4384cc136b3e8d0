-- The partitions that a layout gives a node and of which it has rows, from the first to the last.
use Rattle.std.proofs.Common.{◌≡◌, ℕ, suc, ◌+◌, ◌<◌, ◌≤◌, Bool, true, false, cond, ◌&&◌, List, [], ◌∷◌, ◌++◌, Some, map, length, drop, refl, sym, ap, ◌∙◌, append-nil, append_assoc, add-one, arith}
use Rattle.std.specs.Option.{unwrap_or}
use Rattle.std.specs.Prelude.{slice_get}
use Rattle.std.specs.List.{filter, AllByRecursion}
use Rattle.std.specs.List.Sorted.{IsStrictlySortedBy}
use Rattle.std.specs.Ordering.{nat_cmp}
use Rattle.std.specs.Cmp.{nat_cmp_is}
use Rattle.std.specs.declared.cmp.Ordering.TheVariants.{Less}
use Rattle.std.proofs.Math.Seq.{drop-cons}
use Rattle.std.proofs.lemmas.List.{map-append, drop_all}
use Rattle.std.proofs.lemmas.Map.Keys.{IsStrictlyIncreasing-from_sorted}
use Rattle.std.proofs.lemmas.Option.{slice_get_within, get_or_from_slice_get}
use Rattle.layout_roles.specs.declared.layout.Layout.{Layout}
use Rattle.table_schema.specs.Words.{Words}
use Rattle.table_schema.specs.Laws.{Laws}
use Rattle.table_model.specs.Rows.{rows_in}
use Rattle.quorum_model.specs.Quorum.{is_among}
use Rattle.cluster_machine.specs.Layouts.{set_in, layouts}
use Rattle.cluster_machine.specs.Node.{Node, Part}
use Rattle.cluster_machine.specs.Rounds.{has_rows, numbered_from}
use Rattle.node_parts.specs.declared.contents.Contents.{Contents}
use Rattle.node_parts.specs.declared.sender.Sender.{Sender}
use Rattle.node_parts.specs.Contents.{IsContents}
use Rattle.node_parts.specs.Sends.{part_of, moved, AreMoved}
use Rattle.node_parts.specs.Walks.{has_tables}
use Rattle.node_parts.proofs.Spelled.{has_both}

-- ---- parts ascend

abbrev AllAbove : ℕ → List ℕ → Type 0
AllAbove p ks = AllByRecursion (λ k. p < k) ks

lower : (p : ℕ) (ks : List ℕ) → AllAbove (suc p) ks → AllAbove p ks
lower p [] a = tt
lower p (k ∷ ks) a = (let h = a.0 in omega (arith, h), lower p ks a.1)

less_all : (p : ℕ) (ks : List ℕ) → AllAbove p ks → AllByRecursion (λ k. nat_cmp p k ≡ Less) ks
less_all p [] a = tt
less_all p (k ∷ ks) a = (sym (nat_cmp_is p k Less a.0), less_all p ks a.1)

abbrev places : (Part → Bool) → ℕ → List (List ℕ) → List ℕ
places q p sets = map (λ (part : Part). part.partition) (filter q (numbered_from p sets))

above : (q : Part → Bool) (p : ℕ) (sets : List (List ℕ)) → AllAbove p (places q (suc p) sets)
above q p [] = tt
above q p (set ∷ sets) =
    elim (q (record { partition = suc p; set = set })) as (λ b. AllAbove p (map (λ (part : Part). part.partition) (cond b (record { partition = suc p; set = set } ∷ filter q (numbered_from (suc (suc p)) sets)) (filter q (numbered_from (suc (suc p)) sets))))) [
      | true ↦ (omega arith, lower p (places q (suc (suc p)) sets) (above q (suc p) sets))
      | false ↦ lower p (places q (suc (suc p)) sets) (above q (suc p) sets)
    ]

in_order : (q : Part → Bool) (p : ℕ) (sets : List (List ℕ)) → IsStrictlySortedBy nat_cmp (places q p sets)
unfolding IsStrictlySortedBy
in_order q p [] = tt
in_order q p (set ∷ sets) =
    elim (q (record { partition = p; set = set })) as (λ b. IsStrictlySortedBy nat_cmp (map (λ (part : Part). part.partition) (cond b (record { partition = p; set = set } ∷ filter q (numbered_from (suc p) sets)) (filter q (numbered_from (suc p) sets))))) [
      | true ↦ (less_all p (places q (suc p) sets) (above q p sets), in_order q (suc p) sets)
      | false ↦ in_order q (suc p) sets
    ]

module _ {R : Type 0} (join : R → R → R) (s : Words R) where
  -- the node is in the part's set, and has rows of it
  abbrev is_moved : Sender → Node R Layout → Part → Bool
  is_moved sender x part = is_among sender.node part.set && has_rows join s x part.partition

  abbrev there_at : Layout → ℕ → Part
  there_at there p = record { partition = p; set = set_in layouts (Some there) p }

  abbrev moved_among : Sender → Layout → Node R Layout → List Part → List Part
  moved_among sender there x parts = map (λ part. there_at there part.partition) (filter (is_moved sender x) parts)

  -- the parts that move from the partition p on
  abbrev ahead : Sender → Layout → Layout → Node R Layout → ℕ → List Part
  ahead sender here there x p = moved_among sender there x (numbered_from p (drop p here.sets.sets))

  -- these and what is ahead are all
  abbrev pub MovedSoFar : {S : Type 0} → Sender → Contents S R → Layout → Layout → List (ℕ × List ℕ) → ℕ → Type 0
  MovedSoFar sender c here there parts p = (x : Node R Layout) → IsContents join s c x → map part_of parts ++ ahead sender here there x p ≡ moved join s sender here there x

  -- the next part comes first of those ahead
  ahead_is : (here : Layout) (p : ℕ) (set : List ℕ) → slice_get here.sets.sets p ≡ Some set → numbered_from p (drop p here.sets.sets) ≡ record { partition = p; set = set } ∷ numbered_from (suc p) (drop (suc p) here.sets.sets)
  ahead_is here p set at =
      let sets = here.sets.sets in
      ap (numbered_from p) (drop-cons sets p [] (slice_get_within sets p set at))
      ∙ ap (λ t. record { partition = p; set = t } ∷ numbered_from (suc p) (drop (suc p) sets)) (get_or_from_slice_get sets p set [] at)

  chosen : (sender : Sender) (there : Layout) (x : Node R Layout) (part : Part) (rest : List Part) (b : Bool) → is_moved sender x part ≡ b →
      moved_among sender there x (part ∷ rest) ≡ cond b (there_at there part.partition ∷ moved_among sender there x rest) (moved_among sender there x rest)
  chosen sender there x part rest true e = ap (λ b. map (λ (part : Part). there_at there part.partition) (cond b (part ∷ filter (is_moved sender x) rest) (filter (is_moved sender x) rest))) e
  chosen sender there x part rest false e = ap (λ b. map (λ (part : Part). there_at there part.partition) (cond b (part ∷ filter (is_moved sender x) rest) (filter (is_moved sender x) rest))) e

  next_ahead : (sender : Sender) (here there : Layout) (x : Node R Layout) (p : ℕ) (set : List ℕ) (b : Bool) → slice_get here.sets.sets p ≡ Some set → is_moved sender x (record { partition = p; set = set }) ≡ b →
      ahead sender here there x p ≡ cond b (there_at there p ∷ ahead sender here there x (p + 1)) (ahead sender here there x (p + 1))
  next_ahead sender here there x p set b at e =
      rw (add-one p)
      (ap (moved_among sender there x) (ahead_is here p set at) ∙ chosen sender there x (record { partition = p; set = set }) (numbered_from (suc p) (drop (suc p) here.sets.sets)) b e)

  -- another node's partition
  pub not_ours : {S : Type 0} (sender : Sender) (c : Contents S R) (here there : Layout) (parts : List (ℕ × List ℕ)) (p : ℕ) (set : List ℕ) → slice_get here.sets.sets p ≡ Some set → is_among sender.node set ≡ false →
      MovedSoFar sender c here there parts p → MovedSoFar sender c here there parts (p + 1)
  not_ours sender c here there parts p set at other f x is =
      ap (λ a. map part_of parts ++ a) (sym (next_ahead sender here there x p set false at (ap (λ b. b && has_rows join s x p) other))) ∙ f x is

  -- the node has no rows of the partition
  pub no_rows : {S : Type 0} (laws : Laws join s) (sender : Sender) (c : Contents S R) (here there : Layout) (parts : List (ℕ × List ℕ)) (p : ℕ) (set : List ℕ) → slice_get here.sets.sets p ≡ Some set → is_among sender.node set ≡ true → has_tables s (rows_in s p c.table) ≡ false →
      MovedSoFar sender c here there parts p → MovedSoFar sender c here there parts (p + 1)
  no_rows laws sender c here there parts p set at ours none f x is =
      let gone = sym (has_both laws c x p is) ∙ none in
      ap (λ a. map part_of parts ++ a) (sym (next_ahead sender here there x p set false at (λ i. ours i && gone i))) ∙ f x is

  set_there : (there : Layout) (p : ℕ) (to : List ℕ) → slice_get there.sets.sets p ≡ Some to → there_at there p ≡ part_of (p, to)
  set_there there p to at = ap (λ o. record { partition = p; set = unwrap_or o [] }) at

  -- the partition moves
  pub with_rows : {S : Type 0} (laws : Laws join s) (sender : Sender) (c : Contents S R) (here there : Layout) (parts : List (ℕ × List ℕ)) (p : ℕ) (set to : List ℕ) → slice_get here.sets.sets p ≡ Some set → is_among sender.node set ≡ true → has_tables s (rows_in s p c.table) ≡ true →
      slice_get there.sets.sets p ≡ Some to → MovedSoFar sender c here there parts p → MovedSoFar sender c here there (parts ++ (p, to) ∷ []) (p + 1)
  with_rows laws sender c here there parts p set to at ours some at_there f x is =
      let rest = ahead sender here there x (p + 1) in
      let there_are = sym (has_both laws c x p is) ∙ some in
      let next : ahead sender here there x p ≡ part_of (p, to) ∷ rest =
      next_ahead sender here there x p set true at (λ i. ours i && there_are i) ∙ ap (λ t. t ∷ rest) (set_there there p to at_there) in
      ap (λ a. a ++ rest) (map-append part_of parts ((p, to) ∷ []))
      ∙ append_assoc (map part_of parts) (part_of (p, to) ∷ []) rest
      ∙ ap (λ a. map part_of parts ++ a) (sym next)
      ∙ f x is

  firsts : (parts : List (ℕ × List ℕ)) → map (λ (part : Part). part.partition) (map part_of parts) ≡ map (λ part. part.0) parts
  firsts [] = refl
  firsts (part ∷ parts) = ap (λ ps. part.0 ∷ ps) (firsts parts)

  same_places : (there : Layout) (parts : List Part) → map (λ (part : Part). part.partition) (map (λ (part : Part). there_at there part.partition) parts) ≡ map (λ (part : Part). part.partition) parts
  same_places there [] = refl
  same_places there (part ∷ parts) = ap (λ ps. part.partition ∷ ps) (same_places there parts)

  -- after the last partition
  pub at_last : {S : Type 0} (sender : Sender) (c : Contents S R) (here there : Layout) (parts : List (ℕ × List ℕ)) (p : ℕ) → length here.sets.sets ≤ p → MovedSoFar sender c here there parts p → AreMoved join s sender c here there parts
  at_last sender c here there parts p past f x is =
      let none : ahead sender here there x p ≡ [] = ap (λ sets. moved_among sender there x (numbered_from p sets)) (drop_all p here.sets.sets past) in
      let all : map part_of parts ≡ moved join s sender here there x = sym (append-nil (map part_of parts)) ∙ ap (λ a. map part_of parts ++ a) (sym none) ∙ f x is in
      let ordered = in_order (is_moved sender x) 0 here.sets.sets in
      let same = same_places there (filter (is_moved sender x) (numbered_from 0 here.sets.sets)) in
      let numbers : map (λ part. part.0) parts ≡ places (is_moved sender x) 0 here.sets.sets = sym (firsts parts) ∙ ap (map (λ (part : Part). part.partition)) all ∙ same in
      (all, IsStrictlyIncreasing-from_sorted (map (λ part. part.0) parts) (rw numbers ordered))

  -- before the first partition
  pub at_first : {S : Type 0} (sender : Sender) (c : Contents S R) (here there : Layout) (parts : List (ℕ × List ℕ)) → parts ≡ [] → MovedSoFar sender c here there parts 0
  at_first sender c here there parts none x is = ap (λ l. map part_of l ++ ahead sender here there x 0) none
