-- Partitions that are put in order.
use Rattle.std.proofs.Common.{◌≡◌, ℕ, ◌+◌, ◌<◌, ◌≤◌, List, [], ◌∷◌, ◌++◌, map, length, get_or, drop, refl, sym, ap, ◌∙◌, add-one, append-nil, append_assoc}
use Rattle.std.proofs.Math.Seq.{drop-cons}
use Rattle.std.proofs.lemmas.List.{drop_all}
use Rattle.std.specs.List.{AllByRecursion}
use Rattle.std.specs.List.Sorted.{IsStrictlySortedBy, IsStrictlyIncreasing}
use Rattle.std.specs.Map.{keys_of}
use Rattle.std.specs.Ordering.{nat_cmp, match_ordering}
use Rattle.std.specs.Cmp.{nat_cmp_total}
use Rattle.std.specs.declared.cmp.Ordering.TheVariants.{Less, Equal, Greater}
use Rattle.std.specs.BTreeMap.{insert_entry}
use Rattle.std.proofs.lemmas.Map.Keys.{sorted_head, sorted_tail, sorted_from_strictly_increasing}
use Rattle.sync_round.specs.Round.{ordered_after, by_partition}
use Rattle.quorum_tally.specs.Marks.{IsRight, nodes_of}
use Rattle.sync_round.specs.Parts.{Entries}
use Rattle.quorum_tally.specs.declared.marks.Marks.{Marks}

abbrev Part : Type 0
Part = ℕ × List ℕ

-- each of these partitions is below p
abbrev Below : ℕ → List Part → Type 0
Below p parts = AllByRecursion (λ (e : Part). nat_cmp e.0 p ≡ Less) parts

abbrev BelowAll : List Part → List ℕ → Type 0
BelowAll made ps = AllByRecursion (λ (e : Part). AllByRecursion (λ k. nat_cmp e.0 k ≡ Less) ps) made

firsts : (p : ℕ) (ps : List ℕ) (made : List Part) → BelowAll made (p ∷ ps) → Below p made
firsts p ps [] b = tt
firsts p ps (e ∷ es) b = (b.0.0, firsts p ps es b.1)

rests : (p : ℕ) (ps : List ℕ) (made : List Part) → BelowAll made (p ∷ ps) → BelowAll made ps
rests p ps [] b = tt
rests p ps (e ∷ es) b = (b.0.1, rests p ps es b.1)

all_below : (ps : List ℕ) (made : List Part) (part : Part) → BelowAll made ps → AllByRecursion (λ k. nat_cmp part.0 k ≡ Less) ps → BelowAll (made ++ part ∷ []) ps
all_below ps [] part b l = (l, tt)
all_below ps (e ∷ es) part b l = (b.0, all_below ps es part b.1 l)

put_last : (made : List Part) (part : Part) → Below part.0 made → insert_entry nat_cmp made part.0 part.1 ≡ made ++ part ∷ []
put_last [] part b = refl
put_last (e ∷ es) part b = rw (nat_cmp_total.antisymm part.0 e.0, b.0) (ap (λ t. e ∷ t) (put_last es part b.1))

put_in_turn : (parts made : List Part) → IsStrictlySortedBy nat_cmp (keys_of parts) → BelowAll made (keys_of parts) → ordered_after made parts ≡ made ++ parts
put_in_turn [] made s b = sym (append-nil made)
put_in_turn (part ∷ parts) made s b =
    ap (λ m. ordered_after m parts) (put_last made part (firsts part.0 (keys_of parts) made b))
    ∙ put_in_turn parts (made ++ part ∷ []) (sorted_tail nat_cmp part.0 (keys_of parts) s)
    (all_below (keys_of parts) made part (rests part.0 (keys_of parts) made b) (sorted_head nat_cmp part.0 (keys_of parts) s))
    ∙ append_assoc made (part ∷ []) parts

-- partitions that ascend are in order
pub in_order : (parts : List Part) → IsStrictlyIncreasing (map (λ part. part.0) parts) → by_partition parts ≡ parts
in_order parts i = put_in_turn parts [] (sorted_from_strictly_increasing (keys_of parts) i) tt

-- ---- the entries that are made of them

abbrev pub shown : ℕ × Marks → Part
shown e = (e.0, nodes_of e.1)

pub shown_inserted : (p : ℕ) (s : Marks) (es : Entries) → map shown (insert_entry nat_cmp es p s) ≡ insert_entry nat_cmp (map shown es) p (nodes_of s)
shown_inserted p s [] = refl
shown_inserted p s (e ∷ es) =
    elim (nat_cmp p e.0) as (λ r. map shown (match_ordering r ((p, s) ∷ e ∷ es) ((e.0, s) ∷ es) (e ∷ insert_entry nat_cmp es p s)) ≡ match_ordering r ((p, nodes_of s) ∷ map shown (e ∷ es)) ((e.0, nodes_of s) ∷ map shown es) (shown e ∷ insert_entry nat_cmp (map shown es) p (nodes_of s))) [
      | Less ↦ refl
      | Equal ↦ refl
      | Greater ↦ ap (λ t. shown e ∷ t) (shown_inserted p s es)
    ]

abbrev pub AllRight : List ℕ → Entries → Type 0
AllRight nodes es = AllByRecursion (λ (e : ℕ × Marks). IsRight nodes e.1) es

pub right_inserted : (nodes : List ℕ) (p : ℕ) (s : Marks) (es : Entries) → AllRight nodes es → IsRight nodes s → AllRight nodes (insert_entry nat_cmp es p s)
right_inserted nodes p s [] a r = (r, tt)
right_inserted nodes p s (e ∷ es) a r =
    elim (nat_cmp p e.0) as (λ o. AllRight nodes (match_ordering o ((p, s) ∷ e ∷ es) ((e.0, s) ∷ es) (e ∷ insert_entry nat_cmp es p s))) [
      | Less ↦ (r, a)
      | Equal ↦ (r, a.1)
      | Greater ↦ (a.0, right_inserted nodes p s es a.1 r)
    ]

-- ---- one partition after the other

pub next_put : (items : List Part) (i : ℕ) (d : Part) (s : Marks) (es new : Entries) (whole : List Part) → i < length items → ordered_after (map shown es) (drop i items) ≡ whole → nodes_of s ≡ (get_or items i d).1 → new ≡ insert_entry nat_cmp es (get_or items i d).0 s → ordered_after (map shown new) (drop (i + 1) items) ≡ whole
next_put items i d s es new whole lt so_far nodes put =
    let part = get_or items i d in
    let made : map shown new ≡ insert_entry nat_cmp (map shown es) part.0 part.1 =
    ap (map shown) put ∙ shown_inserted part.0 s es ∙ ap (insert_entry nat_cmp (map shown es) part.0) nodes in
    let left : drop i items ≡ part ∷ drop (i + 1) items = rw (add-one i) (drop-cons items i d lt) in
    ap (λ m. ordered_after m (drop (i + 1) items)) made ∙ sym (ap (ordered_after (map shown es)) left) ∙ so_far

pub all_put : (items made whole : List Part) (i : ℕ) → length items ≤ i → ordered_after made (drop i items) ≡ whole → made ≡ whole
all_put items made whole i past so_far = sym (ap (ordered_after made) (drop_all i items past)) ∙ so_far
