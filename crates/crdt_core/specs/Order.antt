-- The order that a join gives, and the join of a list.
use Rattle.std.specs.Prelude.{◌≡◌, ◌↔◌, List, [], ◌∷◌, Option, Some, None, fold, Contains}

-- a is at most b where merging a into b gives b
abbrev pub AtMost : {R : Type 0} → (R → R → R) → R → R → Type 0
AtMost join a b = join b a ≡ b

-- the join of two values of which each may be missing: none adds nothing
abbrev pub option_join : {R : Type 0} → (R → R → R) → Option R → Option R → Option R
option_join join None b = b
option_join join (Some a) None = Some a
option_join join (Some a) (Some b) = Some (join a b)

-- none for the empty list, else its values merged one after the other
abbrev pub join_of : {R : Type 0} → (R → R → R) → List R → Option R
join_of join [] = None
join_of join (x ∷ xs) = Some (fold join x xs)

-- the lists hold the same values, in whatever order and however often
abbrev pub SameMembers : {R : Type 0} → List R → List R → Type 0
SameMembers {R} xs ys = (x : R) → Contains xs x ↔ Contains ys x

-- a partial order
pub record OrderLaws {R : Type 0} (Below : R → R → Type 0) : Type 0 where
  pub reflexive : (a : R) → Below a a
  pub antisymmetric : (a b : R) → Below a b → Below b a → a ≡ b
  pub transitive : (a b c : R) → Below a b → Below b c → Below a c

-- c is above a and b, and below all that is above both
pub record IsLeastUpperBound {R : Type 0} (Below : R → R → Type 0) (a b c : R) : Type 0 where
  pub left : Below a c
  pub right : Below b c
  pub least : (d : R) → Below a d → Below b d → Below c d
