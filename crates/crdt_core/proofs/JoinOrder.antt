-- The order that a join gives, and the join of a list, as the least upper bound.
use Rattle.std.specs.Prelude.{◌≡◌, List, [], ◌∷◌, ◌++◌, Option, Some, None, unwrap_or, fold, All, Contains, refl}
use Rattle.std.proofs.Common.{ap, sym, subst, ◌∙◌}
use Rattle.std.proofs.lemmas.List.Elements.{All-nil, All-cons, All-head, All-tail, All-weaker, All-contains, All-contains_itself}
use Rattle.crdt_core.specs.Laws.{JoinLaws}
use Rattle.crdt_core.specs.Order.{AtMost, option_join, join_of, SameMembers, OrderLaws, IsLeastUpperBound}
use Rattle.crdt_core.specs.OrderLaws.{option_join-none, option_laws}

module _ {R : Type 0} {j : R → R → R} (laws : JoinLaws j) where
  pub order_laws : OrderLaws (AtMost j)
  order_laws = record {
    reflexive = laws.idempotent;
    antisymmetric = λ a b p q. sym q ∙ laws.commutative a b ∙ p;
    transitive = λ a b c p q. ap (λ x. j x a) (sym q) ∙ laws.associative c b a ∙ ap (j c) p ∙ q;
  }

  pub least_upper_bound : (a b : R) → IsLeastUpperBound (AtMost j) a b (j a b)
  least_upper_bound a b = record {
    left = laws.commutative (j a b) a ∙ sym (laws.associative a a b) ∙ ap (λ x. j x b) (laws.idempotent a);
    right = laws.associative a b b ∙ ap (j a) (laws.idempotent b);
    least = λ d p q. sym (laws.associative d a b) ∙ ap (λ x. j x b) p ∙ q;
  }

-- none is below every value
pub none_least : {R : Type 0} (j : R → R → R) (a : Option R) → AtMost (option_join j) None a
none_least j a = option_join-none j a

pub at_most_some : {R : Type 0} (j : R → R → R) (a b : R) → AtMost (option_join j) (Some a) (Some b) → AtMost j a b
at_most_some j a b p = ap (λ o. unwrap_or o b) p

module _ {R : Type 0} {j : R → R → R} (laws : JoinLaws j) where
  fold_from : (a b : R) (xs : List R) → fold j (j a b) xs ≡ j a (fold j b xs)
  fold_from a b [] = refl
  fold_from a b (x ∷ xs) = ap (λ y. fold j y xs) (laws.associative a b x) ∙ fold_from a (j b x) xs

  pub join_of-cons : (x : R) (xs : List R) → join_of j (x ∷ xs) ≡ option_join j (Some x) (join_of j xs)
  join_of-cons x [] = refl
  join_of-cons x (y ∷ ys) = ap Some (fold_from x y ys)

  pub join_of-append : (xs ys : List R) → join_of j (xs ++ ys) ≡ option_join j (join_of j xs) (join_of j ys)
  join_of-append [] ys = refl
  join_of-append (x ∷ xs) ys =
      join_of-cons x (xs ++ ys)
      ∙ ap (option_join j (Some x)) (join_of-append xs ys)
      ∙ sym ((option_laws laws).associative (Some x) (join_of j xs) (join_of j ys))
      ∙ ap (λ o. option_join j o (join_of j ys)) (sym (join_of-cons x xs))

  below_cons : (x : R) (xs : List R) → AtMost (option_join j) (join_of j xs) (join_of j (x ∷ xs))
  below_cons x xs = rw (join_of-cons x xs) ((least_upper_bound (option_laws laws) (Some x) (join_of j xs)).right)

  -- each value of a list is below its join
  pub members_below : (xs : List R) → All (λ x. AtMost (option_join j) (Some x) (join_of j xs)) xs
  members_below [] = All-nil (λ x. AtMost (option_join j) (Some x) (join_of j []))
  members_below (x ∷ xs) =
      All-cons (λ y. AtMost (option_join j) (Some y) (join_of j (x ∷ xs))) x xs
      (subst (λ all. AtMost (option_join j) (Some x) all) (sym (join_of-cons x xs)) ((least_upper_bound (option_laws laws) (Some x) (join_of j xs)).left))
      (All-weaker _ _ (λ y p. (order_laws (option_laws laws)).transitive (Some y) (join_of j xs) (join_of j (x ∷ xs)) p (below_cons x xs)) xs (members_below xs))

  -- and the join is below all that each of them is below
  pub join_least : (xs : List R) (b : Option R) → All (λ x. AtMost (option_join j) (Some x) b) xs → AtMost (option_join j) (join_of j xs) b
  join_least [] b h = none_least j b
  join_least (x ∷ xs) b h =
      rw (join_of-cons x xs)
      ((least_upper_bound (option_laws laws) (Some x) (join_of j xs)).least b
      (All-head (λ y. AtMost (option_join j) (Some y) b) x xs h)
      (join_least xs b (All-tail (λ y. AtMost (option_join j) (Some y) b) x xs h)))

  -- a list that holds more has the greater join
  pub join_grows : (xs ys : List R) → ((x : R) → Contains xs x → Contains ys x) → AtMost (option_join j) (join_of j xs) (join_of j ys)
  join_grows xs ys h =
      join_least xs (join_of j ys) (All-weaker (Contains xs) (λ x. AtMost (option_join j) (Some x) (join_of j ys))
      (λ x inside. All-contains (λ y. AtMost (option_join j) (Some y) (join_of j ys)) ys x (members_below ys) (h x inside)) xs (All-contains_itself xs))

  -- the join depends on the members alone
  pub join_of-members : (xs ys : List R) → SameMembers xs ys → join_of j xs ≡ join_of j ys
  join_of-members xs ys same =
      (order_laws (option_laws laws)).antisymmetric (join_of j xs) (join_of j ys) (join_grows xs ys (λ x. (same x).0)) (join_grows ys xs (λ x. (same x).1))
