-- What the marks of all sets say of the nodes that confirmed.
use Rattle.std.proofs.Common.{◌≡◌, ℕ, zero, suc, ◌<◌, ◌≤◌, Bool, true, false, ◌&&◌, List, [], ◌∷◌, ◌++◌, map, take, drop, length, refl, sym, ap, ◌∙◌, append-nil, arith}
use Rattle.std.specs.Prelude.{◌↔◌, IsTrue}
use Rattle.std.specs.List.{All, AllByRecursion, list_all}
use Rattle.std.proofs.lemmas.List.{drop-map, take_all, drop_all}
use Rattle.std.proofs.lemmas.List.Sums.{AllPass-from_list_all, list_all-from_AllPass}
use Rattle.quorum_model.specs.Quorum.{two_of, is_some_set}
use Rattle.quorum_tally.specs.declared.marks.Marks.{Marks}
use Rattle.quorum_tally.specs.Marks.{marks_after, nodes_of, has_two, IsRight}
use Rattle.quorum_tally.proofs.Confirming.{after_right, two_shown}

pub all_right : (n : ℕ) (ns : List ℕ) (ss : List Marks) → AllByRecursion (IsRight ns) ss → AllByRecursion (IsRight (ns ++ n ∷ [])) (map (marks_after n) ss)
all_right n ns [] r = tt
all_right n ns (s ∷ ss) r = (after_right n ns s r.0, all_right n ns ss r.1)

pub same_sets : (n : ℕ) (ss : List Marks) → map nodes_of (map (marks_after n) ss) ≡ map nodes_of ss
same_sets n [] = refl
same_sets n (s ∷ ss) = ap (λ ls. nodes_of s ∷ ls) (same_sets n ss)

pub all_two : (ns : List ℕ) (ss : List Marks) → AllByRecursion (IsRight ns) ss → list_all has_two ss ≡ list_all (λ set. two_of set ns) (map nodes_of ss)
all_two ns [] r = refl
all_two ns (s ∷ ss) r = rw (two_shown ns s r.0, all_two ns ss r.1) refl

drop_right : (ns : List ℕ) (n : ℕ) (ss : List Marks) → AllByRecursion (IsRight ns) ss → AllByRecursion (IsRight ns) (drop n ss)
drop_right ns zero ss r = r
drop_right ns (suc n) [] r = tt
drop_right ns (suc n) (s ∷ ss) r = drop_right ns n ss r.1

-- past the last set none is asked
pub none_later : (ns : List ℕ) (n : ℕ) (ss : List Marks) → length ss ≤ n → false ≡ (is_some_set (drop n (map nodes_of ss)) && list_all (λ set. two_of set ns) (drop n (map nodes_of ss)))
none_later ns n ss h = rw (drop-map nodes_of n ss, drop_all n ss h) refl

some_below : (n : ℕ) (ss : List Marks) → n < length ss → is_some_set (drop n (map nodes_of ss)) ≡ true
some_below zero [] h = absurd (omega arith)
some_below zero (s ∷ ss) h = refl
some_below (suc n) [] h = absurd (omega arith)
some_below (suc n) (s ∷ ss) h = some_below n ss (omega arith)

-- what is asked of the later sets
pub later_sets : (ns : List ℕ) (n : ℕ) (ss : List Marks) → n < length ss → AllByRecursion (IsRight ns) ss → list_all has_two (drop n ss) ≡ (is_some_set (drop n (map nodes_of ss)) && list_all (λ set. two_of set ns) (drop n (map nodes_of ss)))
later_sets ns n ss h r =
    rw (some_below n ss h, drop-map nodes_of n ss) (all_two ns (drop n ss) (drop_right ns n ss r))

-- what `all` answered, as the list's own test
pub all_from_each : (b : Bool) (ss : List Marks) → IsTrue b ↔ All (λ (s : Marks). IsTrue (has_two s)) ss → b ≡ list_all has_two ss
all_from_each true ss h = sym (list_all-from_AllPass has_two ss (λ k d lt. h.0 refl k d lt))
all_from_each false ss h =
    elim (list_all has_two ss) as (λ b. list_all has_two ss ≡ b → false ≡ b) [
      | true ↦ λ e. let no : IsTrue false = h.1 (AllPass-from_list_all has_two ss e) in cc
      | false ↦ λ e. refl
    ] refl

-- the loop over the slots came to its end
pub all_after : (f : Marks → Marks) (xs ys : List Marks) (i : ℕ) → length xs ≤ i → ys ≡ map f (take i xs) ++ drop i xs → ys ≡ map f xs
all_after f xs ys i h e = e ∙ rw (take_all i xs h, drop_all i xs h) (append-nil (map f xs))
