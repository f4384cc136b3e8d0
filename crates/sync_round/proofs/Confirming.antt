-- What a confirmation does to marks, and to the entries of a round.
use Rattle.std.proofs.Common.{◌≡◌, ℕ, ◌+◌, ◌≤◌, Bool, true, false, cond, ◌||◌, ◌&&◌, ◌==◌, List, [], ◌∷◌, ◌++◌, Some, map, not, refl, sym, ap, ◌∙◌, append-nil, arith}
use Rattle.std.specs.Prelude.{count_by, if◌then◌else◌}
use Rattle.std.specs.List.{AllByRecursion}
use Rattle.std.specs.List.Sorted.{IsStrictlySortedBy}
use Rattle.std.specs.Map.{lookup, set_value, keys_of}
use Rattle.std.specs.Option.{is_some}
use Rattle.std.specs.Ordering.{nat_cmp}
use Rattle.std.specs.Cmp.{both_ways, tied_itself, nat_cmp_total, nat_eq_equiv, eq_by_cmp_equiv, Equal-is}
use borrow.Author.Tests.{eqb-true, eq-eqb}
use Rattle.std.proofs.lemmas.Option.{same_Some}
use Rattle.crdt_core.specs.IdentityLaws.{nat_identical}
use Rattle.sync_round.proofs.Ordering.{shown}
use Rattle.quorum_tally.proofs.Confirming.{after_right, new_right}
use Rattle.std.specs.BTreeMap.{is_at}
use Rattle.std.proofs.Math.Bool.{or-false}
use Rattle.std.proofs.lemmas.Bool.{leb-true, le-leb, or_parts}
use Rattle.std.proofs.lemmas.Map.{NonePasses}
use Rattle.std.proofs.lemmas.Map.Entries.{none_past_head, sum_by-set_value}
use Rattle.std.proofs.lemmas.Map.Keys.{sorted_tail, IsDistinct-from_sorted}
use Rattle.quorum_model.specs.Quorum.{is_among}
use Rattle.sync_round.specs.Round.{told_for, confirmed, is_asked}
use Rattle.quorum_tally.specs.Marks.{unmarked, mark_after, marks_after, three, nodes_of, has_two, IsRight}
use Rattle.sync_round.specs.Parts.{Entries, entries_after, lacking_of}
use Rattle.quorum_tally.specs.declared.marks.Marks.{Marks}
use Rattle.quorum_tally.specs.declared.marks.Mark.{Mark}

one_more : (a x : Bool) → cond a 1 0 ≤ cond (a || x) 1 0
one_more true x = omega arith
one_more false x = omega arith

more_marks : (n : ℕ) (s : Marks) → count_by (λ m. m.is_confirmed) (three s) ≤ count_by (λ m. m.is_confirmed) (three (marks_after n s))
more_marks n s =
    omega (arith, one_more s.first.is_confirmed (n == s.first.node), one_more s.second.is_confirmed (n == s.second.node), one_more s.third.is_confirmed (n == s.third.node))

-- two that have confirmed stay two
two_kept : (n : ℕ) (s : Marks) → has_two s ≡ true → has_two (marks_after n s) ≡ true
two_kept n s e =
    let old = count_by (λ (m : Mark). m.is_confirmed) (three s) in
    let new = count_by (λ (m : Mark). m.is_confirmed) (three (marks_after n s)) in
    let two = leb-true 2 old e in
    le-leb 2 new (omega (arith, two, more_marks n s))

-- ---- of the entries

abbrev pub finds : ℕ → ℕ → Bool
finds p = is_at (nat_cmp p)

same_number : (p k : ℕ) → finds p k ≡ (p == k)
same_number p k =
    both_ways (finds p k) (p == k)
    (λ e. eq-eqb p k (nat_identical p k ((Equal-is (nat_cmp p k)).0 e)))
    (λ e. let same = eqb-true p k e in rw (← same, tied_itself nat_cmp_total p) refl)

abbrev entry_after : ℕ → ℕ → ℕ × Marks → ℕ × Marks
entry_after p node e = (e.0, (if p == e.0 then marks_after node e.1 else e.1))

entry_kept : (p node : ℕ) (e : ℕ × Marks) → (p == e.0) ≡ false → entry_after p node e ≡ e
entry_kept p node e apart = rw apart refl

entry_marked : (p node : ℕ) (e : ℕ × Marks) → (p == e.0) ≡ true → entry_after p node e ≡ (e.0, marks_after node e.1)
entry_marked p node e here = rw here refl

pub none_marked : (p node : ℕ) (es : Entries) → NonePasses (finds p) es → entries_after p node es ≡ es
none_marked p node [] n = refl
none_marked p node (e ∷ es) n = λ i. entry_kept p node e (sym (same_number p e.0) ∙ n.0) i ∷ none_marked p node es n.1 i

pub one_marked : (p node : ℕ) (v : Marks) (es : Entries) → IsStrictlySortedBy nat_cmp (keys_of es) → lookup (finds p) es ≡ Some v → set_value (finds p) es (marks_after node v) ≡ entries_after p node es
one_marked p node v [] s l = absurd (let f : false ≡ true = ap is_some l in cc)
one_marked p node v (e ∷ es) s l =
    elim (finds p e.0) as (λ b. finds p e.0 ≡ b → cond b (Some e.1) (lookup (finds p) es) ≡ Some v → cond b ((e.0, marks_after node v) ∷ es) (e ∷ set_value (finds p) es (marks_after node v)) ≡ entries_after p node (e ∷ es)) [
      | true ↦ λ t m.
          let here = sym (same_number p e.0) ∙ t in
          let rest = none_past_head (eq_by_cmp_equiv nat_cmp_total) p e es (IsDistinct-from_sorted nat_cmp (keys_of (e ∷ es)) s) t in
          let first : (e.0, marks_after node v) ≡ entry_after p node e = ap (λ (w : Marks). (e.0, marks_after node w)) (sym (same_Some e.1 v m)) ∙ sym (entry_marked p node e here) in
          λ i. first i ∷ sym (none_marked p node es rest) i
      | false ↦ λ t m.
          let apart = sym (same_number p e.0) ∙ t in
          λ i. sym (entry_kept p node e apart) i ∷ one_marked p node v es (sorted_tail nat_cmp e.0 (keys_of es) s) m i
    ] refl l

abbrev weight : Marks → ℕ
weight s = cond (not (has_two s)) 1 0

fewer_by_two : (v w : Bool) (m n : ℕ) → (v ≡ true → w ≡ true) → m + cond (not v) 1 0 ≡ n + cond (not w) 1 0 → m + (if not v && w then 1 else 0) ≡ n
fewer_by_two true true m n k e = omega (arith, e)
fewer_by_two true false m n k e = absurd (let f : false ≡ true = k refl in cc)
fewer_by_two false true m n k e = omega (arith, e)
fewer_by_two false false m n k e = omega (arith, e)

-- the count of those that lack two falls by one exactly where the second confirms
pub second_counted : (p node : ℕ) (v : Marks) (es : Entries) → lookup (finds p) es ≡ Some v → lacking_of (set_value (finds p) es (marks_after node v)) + (if not (has_two v) && has_two (marks_after node v) then 1 else 0) ≡ lacking_of es
second_counted p node v es l =
    fewer_by_two (has_two v) (has_two (marks_after node v)) (lacking_of (set_value (finds p) es (marks_after node v))) (lacking_of es) (two_kept node v)
    (sum_by-set_value weight (finds p) es v (marks_after node v) l)

pub shown_after : (p node : ℕ) (es : Entries) → map shown (entries_after p node es) ≡ map shown es
shown_after p node [] = refl
shown_after p node (e ∷ es) =
    elim (p == e.0) as (λ b. shown (e.0, (if b then marks_after node e.1 else e.1)) ∷ map shown (entries_after p node es) ≡ shown e ∷ map shown es) [
      | true ↦ ap (λ t. shown e ∷ t) (shown_after p node es)
      | false ↦ ap (λ t. shown e ∷ t) (shown_after p node es)
    ]

-- ---- against what was told

told_for-snoc : (q p node : ℕ) (ts : List (ℕ × ℕ)) → told_for q (ts ++ (p, node) ∷ []) ≡ told_for q ts ++ (if p == q then node ∷ [] else [])
told_for-snoc q p node [] = refl
told_for-snoc q p node (t ∷ ts) =
    elim (t.0 == q) as (λ b. (if b then t.1 ∷ told_for q (ts ++ (p, node) ∷ []) else told_for q (ts ++ (p, node) ∷ [])) ≡ (if b then t.1 ∷ told_for q ts else told_for q ts) ++ (if p == q then node ∷ [] else [])) [
      | true ↦ ap (λ ns. t.1 ∷ ns) (told_for-snoc q p node ts)
      | false ↦ told_for-snoc q p node ts
    ]

-- each entry's marks are those of the nodes that have confirmed its partition
abbrev pub Told : ℕ → List (ℕ × ℕ) → Entries → Type 0
Told own told es = AllByRecursion (λ (e : ℕ × Marks). IsRight (confirmed own told e.0) e.1) es

told_entry : (own : ℕ) (told : List (ℕ × ℕ)) (p node : ℕ) (e : ℕ × Marks) → IsRight (confirmed own told e.0) e.1 → IsRight (confirmed own (told ++ (p, node) ∷ []) e.0) (entry_after p node e).1
told_entry own told p node e r =
    let more : (b : Bool) → IsRight (own ∷ (told_for e.0 told ++ (if b then node ∷ [] else []))) (if b then marks_after node e.1 else e.1) = λ b. elim b as (λ b. IsRight (own ∷ (told_for e.0 told ++ (if b then node ∷ [] else []))) (if b then marks_after node e.1 else e.1)) [
      | true ↦ after_right node (own ∷ told_for e.0 told) e.1 r
      | false ↦ rw (append-nil (told_for e.0 told)) r
    ] in
    rw (told_for-snoc e.0 p node told) (more (p == e.0))

pub told_after : (own : ℕ) (told : List (ℕ × ℕ)) (p node : ℕ) (es : Entries) → Told own told es → Told own (told ++ (p, node) ∷ []) (entries_after p node es)
told_after own told p node [] a = tt
told_after own told p node (e ∷ es) a = (told_entry own told p node e a.0, told_after own told p node es a.1)

-- ---- a node that isn't asked

mark_kept : (n : ℕ) (m : Mark) → (m.node == n) ≡ false → mark_after n m ≡ m
mark_kept n m apart = λ i. record { node = m.node; is_confirmed = (ap (λ b. m.is_confirmed || b) (nat_eq_equiv.symm n m.node ∙ apart) ∙ or-false m.is_confirmed) i }

marks_kept : (n : ℕ) (s : Marks) → is_among n (nodes_of s) ≡ false → marks_after n s ≡ s
marks_kept n s none =
    let first = or_parts (s.first.node == n) ((s.second.node == n) || ((s.third.node == n) || false)) none in
    let second = or_parts (s.second.node == n) ((s.third.node == n) || false) first.1 in
    let third = or_parts (s.third.node == n) false second.1 in
    λ i. record { first = mark_kept n s.first first.0 i; second = mark_kept n s.second second.0 i; third = mark_kept n s.third third.0 i }

entry_unasked : (p node : ℕ) (e : ℕ × Marks) → ((p == e.0) && is_among node (nodes_of e.1)) ≡ false → entry_after p node e ≡ e
entry_unasked p node e =
    elim (p == e.0) as (λ b. (b && is_among node (nodes_of e.1)) ≡ false → (e.0, (if b then marks_after node e.1 else e.1)) ≡ e) [
      | true ↦ λ none i. (e.0, marks_kept node e.1 none i)
      | false ↦ λ none. refl
    ]

pub unasked_same : (p node : ℕ) (es : Entries) → is_asked (map shown es) p node ≡ false → entries_after p node es ≡ es
unasked_same p node [] none = refl
unasked_same p node (e ∷ es) none =
    let parts = or_parts ((p == e.0) && is_among node (nodes_of e.1)) (is_asked (map shown es) p node) none in
    λ i. entry_unasked p node e parts.0 i ∷ unasked_same p node es parts.1 i

-- ---- from the start

pub first_right : (own : ℕ) (s : Marks) → s.first ≡ unmarked s.first.node → s.second ≡ unmarked s.second.node → s.third ≡ unmarked s.third.node → IsRight (own ∷ []) (marks_after own s)
first_right own s a b c = after_right own [] s (new_right s a b c)
