-- Walks by partition and node: what stands at a place after one is put or taken out, and after some begin.
use Rattle.std.proofs.Common.{◌≡◌, ℕ, ◌==◌, ◌&&◌, Bool, true, false, not, cond, Option, Some, None, List, [], ◌∷◌, refl, sym, ap, ◌∙◌, append-nil}
use Rattle.std.specs.List.{filter, find, list_any}
use Rattle.std.specs.Option.{option_or}
use Rattle.std.specs.Ordering.{nat_cmp, ordering_then, is_eq}
use Rattle.std.specs.declared.cmp.Ordering.{Ordering}
use Rattle.std.specs.declared.cmp.Ordering.TheVariants.{Less, Equal, Greater}
use Rattle.std.proofs.lemmas.Bool.{eqb-true}
use Rattle.std.proofs.lemmas.List.Folds.{find-append}
use Rattle.crdt_core.specs.EntryLaws.{and_parts}
use Rattle.cluster_machine.specs.Node.{Walk}
use Rattle.cluster_machine.specs.Rounds.{is_walk, walk_at, without_walk, with_walk, renewed}
use Rattle.node_parts.specs.Walks.{walk_cmp}
use Rattle.node_parts.proofs.OpenCalls.{same_number}

-- ---- places

both_equal : (x y : Ordering) → is_eq (ordering_then x y) ≡ (is_eq x && is_eq y)
both_equal Less y = refl
both_equal Equal y = refl
both_equal Greater y = refl

-- two places are one where partition and node are
pub same_place : (a b : ℕ × ℕ) → is_eq (walk_cmp a b) ≡ ((a.0 == b.0) && (a.1 == b.1))
same_place a b = both_equal (nat_cmp a.0 b.0) (nat_cmp a.1 b.1) ∙ (λ i. same_number a.0 b.0 i && same_number a.1 b.1 i)

-- a walk at a place is over that partition, with that node
pub found_at : (p n : ℕ) (walks : List Walk) (w : Walk) → walk_at p n walks ≡ Some w → (w.state.partition ≡ p) × (w.node ≡ n)
found_at p n [] w e = cc
found_at p n (v ∷ vs) w e =
    elim (is_walk p n v) as (λ b. is_walk p n v ≡ b → cond b (Some v) (walk_at p n vs) ≡ Some w → (w.state.partition ≡ p) × (w.node ≡ n)) [
      | true ↦ (λ t h.
          let one : v ≡ w = cc in
          let parts = and_parts (v.state.partition == p) (v.node == n) t in
          (ap (λ (z : Walk). z.state.partition) (sym one) ∙ eqb-true v.state.partition p parts.0, ap (λ (z : Walk). z.node) (sym one) ∙ eqb-true v.node n parts.1))
      | false ↦ (λ t h. found_at p n vs w h)
    ] refl e

-- ---- what is left where some are taken out

module _ {X : Type 0} (test drop : X → Bool) where
  pub none_left : (xs : List X) → ((x : X) → test x ≡ true → drop x ≡ true) → find test (filter (λ x. not (drop x)) xs) ≡ None
  none_left [] all = refl
  none_left (x ∷ xs) all =
      elim (drop x) as (λ b. drop x ≡ b → find test (cond (not b) (x ∷ filter (λ x. not (drop x)) xs) (filter (λ x. not (drop x)) xs)) ≡ None) [
        | true ↦ (λ d. none_left xs all)
        | false ↦ (λ d. elim (test x) as (λ b. test x ≡ b → cond b (Some x) (find test (filter (λ x. not (drop x)) xs)) ≡ None) [
          | true ↦ (λ t. let no = sym d ∙ all x t in cc)
          | false ↦ (λ t. none_left xs all)
        ] refl)
      ] refl

  pub still_found : (xs : List X) → ((x : X) → drop x ≡ true → test x ≡ false) → find test (filter (λ x. not (drop x)) xs) ≡ find test xs
  still_found [] all = refl
  still_found (x ∷ xs) all =
      elim (drop x) as (λ b. drop x ≡ b → find test (cond (not b) (x ∷ filter (λ x. not (drop x)) xs) (filter (λ x. not (drop x)) xs)) ≡ cond (test x) (Some x) (find test xs)) [
        | true ↦ (λ d. still_found xs all ∙ ap (λ b. cond b (Some x) (find test xs)) (sym (all x d)))
        | false ↦ (λ d. ap (cond (test x) (Some x)) (still_found xs all))
      ] refl

-- the walk of one place is not at another
apart : (p q n m : ℕ) (v : Walk) → ((q == p) && (m == n)) ≡ false → is_walk q m v ≡ true → is_walk p n v ≡ false
apart p q n m v other here =
    let parts = and_parts (v.state.partition == q) (v.node == m) here in
    (λ i. (eqb-true v.state.partition q parts.0 i == p) && (eqb-true v.node m parts.1 i == n)) ∙ other

together : (p q n m : ℕ) (v : Walk) → ((q == p) && (m == n)) ≡ true → is_walk p n v ≡ true → is_walk q m v ≡ true
together p q n m v same here =
    let parts = and_parts (q == p) (m == n) same in
    (λ i. (v.state.partition == eqb-true q p parts.0 i) && (v.node == eqb-true m n parts.1 i)) ∙ here

-- the place q, m is empty then, and the others stay
pub taken_out : (p q n m : ℕ) (walks : List Walk) → walk_at p n (without_walk q m walks) ≡ cond ((q == p) && (m == n)) None (walk_at p n walks)
taken_out p q n m walks =
    elim ((q == p) && (m == n)) as (λ b. ((q == p) && (m == n)) ≡ b → walk_at p n (without_walk q m walks) ≡ cond b None (walk_at p n walks)) [
      | true ↦ (λ e. none_left (is_walk p n) (is_walk q m) walks (λ v. together p q n m v e))
      | false ↦ (λ e. still_found (is_walk p n) (is_walk q m) walks (λ v. apart p q n m v e))
    ] refl

-- the walk is at its place then, and the others stay
pub put_in : (p n : ℕ) (w : Walk) (walks : List Walk) → walk_at p n (with_walk w walks) ≡ cond (is_walk p n w) (Some w) (walk_at p n walks)
put_in p n w walks =
    elim (is_walk p n w) as (λ b. is_walk p n w ≡ b → cond b (Some w) (walk_at p n (without_walk w.state.partition w.node walks)) ≡ cond b (Some w) (walk_at p n walks)) [
      | true ↦ (λ e. refl)
      | false ↦ (λ e. taken_out p w.state.partition n w.node walks ∙ ap (λ b. cond b None (walk_at p n walks)) e)
    ] refl

-- ---- walks that begin

any_found : {X : Type 0} (test : X → Bool) (xs : List X) → find test xs ≡ None → list_any test xs ≡ false
any_found test [] e = refl
any_found test (x ∷ xs) e =
    elim (test x) as (λ b. test x ≡ b → cond b (Some x) (find test xs) ≡ None → list_any test (x ∷ xs) ≡ false) [
      | true ↦ (λ t h. cc)
      | false ↦ (λ t h. rw t (any_found test xs h))
    ] refl e

-- a walk of the old ones at a place where none begins stays
stays : (p n : ℕ) (new : List Walk) (v : Walk) → walk_at p n new ≡ None → list_any (is_walk v.state.partition v.node) new ≡ true → is_walk p n v ≡ false
stays p n new v none some =
    elim (is_walk p n v) as (λ b. is_walk p n v ≡ b → b ≡ false) [
      | true ↦ (λ e.
          let parts = and_parts (v.state.partition == p) (v.node == n) e in
          let gone : list_any (is_walk v.state.partition v.node) new ≡ false =
          (λ i. list_any (is_walk (eqb-true v.state.partition p parts.0 i) (eqb-true v.node n parts.1 i)) new) ∙ any_found (is_walk p n) new none in
          let no = sym some ∙ gone in cc)
      | false ↦ (λ e. refl)
    ] refl

renewed_by : (p n : ℕ) (new old : List Walk) (o : Option Walk) → walk_at p n new ≡ o →
    option_or o (walk_at p n (filter (λ w. not (list_any (is_walk w.state.partition w.node) new)) old)) ≡ option_or o (walk_at p n old)
renewed_by p n new old None e = still_found (is_walk p n) (λ w. list_any (is_walk w.state.partition w.node) new) old (λ v some. stays p n new v e some)
renewed_by p n new old (Some w) e = refl

-- at each place stands one of the new walks, or else what stood there
pub renewed_at : (p n : ℕ) (new old : List Walk) → walk_at p n (renewed new old) ≡ option_or (walk_at p n new) (walk_at p n old)
renewed_at p n new old =
    find-append (is_walk p n) new (filter (λ w. not (list_any (is_walk w.state.partition w.node) new)) old)
    ∙ renewed_by p n new old (walk_at p n new) refl

-- those that begin where there are none
pub none_renewed : (new : List Walk) → renewed new [] ≡ new
none_renewed new = append-nil new
