-- The confirmations of a round: the model has one list of them, which begins with the node's own.
use Rattle.std.proofs.Common.{◌≡◌, ℕ, Bool, true, false, cond, not, ◌||◌, ◌&&◌, ◌==◌, List, [], ◌∷◌, ◌++◌, map, length, refl, sym, ap, ◌∙◌, append_assoc}
use Rattle.std.specs.Prelude.{if◌then◌else◌, nat_le, count_by}
use Rattle.std.specs.List.{filter, list_all, list_any, AllByRecursion}
use Rattle.std.specs.Cmp.{nat_eq_equiv}
use Rattle.std.proofs.Math.Dec.{eqb-suc-zero}
use Rattle.std.proofs.lemmas.List.{map-append}
use Rattle.std.proofs.Math.Bool.{or-true}
use Rattle.quorum_model.specs.Quorum.{is_among, two_of}
use Rattle.sync_round.specs.Round.{told_for, confirmed, missing, is_complete, open_parts}
use Rattle.cluster_machine.specs.Node.{Confirmed, Part}
use Rattle.cluster_machine.specs.Rounds.{confirmed_for, is_empty}
use Rattle.node_parts.specs.Sends.{part_of}
use Rattle.node_parts.specs.Rounds.{pair_of, confirmed_by, has_any}

-- the node's own confirmations, then the others
abbrev pub all_of : ℕ → List Part → List (ℕ × ℕ) → List Confirmed
all_of node parts told = map (λ part. record { partition = part.partition; node = node }) parts ++ map confirmed_by told

told_same : (p : ℕ) (told : List (ℕ × ℕ)) → confirmed_for p (map confirmed_by told) ≡ told_for p told
told_same p [] = refl
told_same p (t ∷ ts) =
    elim (t.0 == p) as (λ b. map (λ (c : Confirmed). c.node) (cond b (confirmed_by t ∷ filter (λ c. c.partition == p) (map confirmed_by ts)) (filter (λ c. c.partition == p) (map confirmed_by ts))) ≡ cond b (t.1 ∷ told_for p ts) (told_for p ts)) [
      | true ↦ ap (λ ns. t.1 ∷ ns) (told_same p ts)
      | false ↦ told_same p ts
    ]

-- the partition is one of these
abbrev pub has : ℕ → List Part → Bool
has p parts = list_any (λ part. part.partition == p) parts

absorbed : (a h x : Bool) → (a || ((h && a) || x)) ≡ (a || x)
absorbed true h x = refl
absorbed false true x = refl
absorbed false false x = refl

pub own_first : (node n p : ℕ) (parts : List Part) (told : List (ℕ × ℕ)) → is_among n (confirmed_for p (all_of node parts told)) ≡ ((has p parts && (node == n)) || is_among n (told_for p told))
own_first node n p [] told = ap (is_among n) (told_same p told)
own_first node n p (part ∷ parts) told =
    let rest = filter (λ (c : Confirmed). c.partition == p) (all_of node parts told) in
    elim (part.partition == p) as (λ b. is_among n (map (λ (c : Confirmed). c.node) (cond b (record { partition = part.partition; node = node } ∷ rest) rest)) ≡ (((b || has p parts) && (node == n)) || is_among n (told_for p told))) [
      | true ↦ ap (λ x. (node == n) || x) (own_first node n p parts told) ∙ absorbed (node == n) (has p parts) (is_among n (told_for p told))
      | false ↦ own_first node n p parts told
    ]

-- of a partition of the round the same nodes have confirmed
same_nodes : (node n p : ℕ) (parts : List Part) (told : List (ℕ × ℕ)) → has p parts ≡ true → is_among n (confirmed node told p) ≡ is_among n (confirmed_for p (all_of node parts told))
same_nodes node n p parts told h = sym (own_first node n p parts told ∙ ap (λ b. (b && (node == n)) || is_among n (told_for p told)) h)

-- ---- of all parts

abbrev pub AreAmong : List Part → List Part → Type 0
AreAmong parts some = AllByRecursion (λ (part : Part). has part.partition parts ≡ true) some

among_more : (first : Part) (parts some : List Part) → AreAmong parts some → AreAmong (first ∷ parts) some
among_more first parts [] a = tt
among_more first parts (part ∷ some) a =
    (ap (λ b. (first.partition == part.partition) || b) a.0 ∙ or-true (first.partition == part.partition), among_more first parts some a.1)

pub all_among : (parts : List Part) → AreAmong parts parts
all_among [] = tt
all_among (part ∷ parts) =
    (ap (λ b. b || has part.partition parts) (nat_eq_equiv.refl part.partition), among_more part parts parts (all_among parts))

complete_among : (node : ℕ) (parts : List Part) (told : List (ℕ × ℕ)) (some : List Part) → AreAmong parts some → is_complete (map pair_of some) node told ≡ list_all (λ part. two_of part.set (confirmed_for part.partition (all_of node parts told))) some
complete_among node parts told [] a = refl
complete_among node parts told (part ∷ some) a =
    λ i. nat_le 2 (count_by (λ n. same_nodes node n part.partition parts told a.0 i) part.set) && complete_among node parts told some a.1 i

pub complete_same : (node : ℕ) (parts : List Part) (told : List (ℕ × ℕ)) → is_complete (map pair_of parts) node told ≡ list_all (λ part. two_of part.set (confirmed_for part.partition (all_of node parts told))) parts
complete_same node parts told = complete_among node parts told parts (all_among parts)

-- the nodes of a part that haven't confirmed it, with its partition
abbrev pub left : List Confirmed → Part → ℕ × List ℕ
left cs part = (part.partition, filter (λ n. not (is_among n (confirmed_for part.partition cs))) part.set)

where_any : (p : ℕ) (ns : List ℕ) (rest : List (ℕ × List ℕ)) → (if length ns == 0 then rest else (p, ns) ∷ rest) ≡ cond (not (is_empty ns)) ((p, ns) ∷ rest) rest
where_any p [] rest = refl
where_any p (n ∷ ns) rest = rw (eqb-suc-zero (length ns)) refl

open_among : (node : ℕ) (parts : List Part) (told : List (ℕ × ℕ)) (some : List Part) → AreAmong parts some → open_parts (map pair_of some) node told ≡ filter has_any (map (left (all_of node parts told)) some)
open_among node parts told [] a = refl
open_among node parts told (part ∷ some) a =
    let ns = missing part.set (confirmed node told part.partition) in
    where_any part.partition ns (open_parts (map pair_of some) node told)
    ∙ λ i.
    let here = filter (λ n. not (same_nodes node n part.partition parts told a.0 i)) part.set in
    let rest = open_among node parts told some a.1 i in
    cond (not (is_empty here)) ((part.partition, here) ∷ rest) rest

pub open_same : (node : ℕ) (parts : List Part) (told : List (ℕ × ℕ)) → open_parts (map pair_of parts) node told ≡ filter has_any (map (left (all_of node parts told)) parts)
open_same node parts told = open_among node parts told parts (all_among parts)

pub same_pairs : (parts : List (ℕ × List ℕ)) → map pair_of (map part_of parts) ≡ parts
same_pairs [] = refl
same_pairs (part ∷ parts) = ap (λ ps. part ∷ ps) (same_pairs parts)

-- one more is told
pub told_more : (node : ℕ) (parts : List Part) (told : List (ℕ × ℕ)) (p from : ℕ) → all_of node parts told ++ record { partition = p; node = from } ∷ [] ≡ all_of node parts (told ++ (p, from) ∷ [])
told_more node parts told p from =
    let mine : List Confirmed = map (λ part. record { partition = part.partition; node = node }) parts in
    append_assoc mine (map confirmed_by told) (record { partition = p; node = from } ∷ []) ∙ ap (λ cs. mine ++ cs) (sym (map-append confirmed_by told ((p, from) ∷ [])))
