-- What is seen of the rows of one key: how they merge, which versions they have, and which rows are tombstones.
use Rattle.std.specs.Prelude.{◌≡◌, ◌⊎◌, ℕ, ◌≤◌, Bool, true, false, Option, Some}

-- rows R with versions V
pub record Marks (R V : Type 0) : Type 0 where
  pub join : R → R → R
  pub below : R → V → Bool  -- the row has a version below this one
  pub tops : R → V → Bool  -- the row's newest complete version is not below this one
  pub marker : R → Option V  -- of a tombstone: its delete marker, which is its only version
  pub time : V → ℕ  -- a version's timestamp, in milliseconds

-- what the marks of rows owe
pub record MarkLaws {R V : Type 0} (m : Marks R V) : Type 0 where
  pub joined_below : (a b : R) (v : V) → m.below (m.join a b) v ≡ true → (m.below a v ≡ true) ⊎ (m.below b v ≡ true)
  pub tops_left : (a b : R) (v : V) → m.tops a v ≡ true → m.tops (m.join a b) v ≡ true
  pub tops_right : (a b : R) (v : V) → m.tops b v ≡ true → m.tops (m.join a b) v ≡ true
  pub topped : (a : R) (v : V) → m.tops a v ≡ true → m.below a v ≡ false  -- a row has nothing below its newest complete version
  pub marked : (a : R) (v : V) → m.marker a ≡ Some v → m.tops a v ≡ true
  pub marked_time : (a : R) (u v : V) → m.marker a ≡ Some u → m.tops a v ≡ true → m.time v ≤ m.time u  -- what a tombstone tops is not above its marker
  pub marked_below : (a b : R) (u v : V) → m.marker a ≡ Some u → m.tops a v ≡ true → m.below b v ≡ true → m.below b u ≡ true
