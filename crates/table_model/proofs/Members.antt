-- Contents as sets: what a filter keeps, and that the join at a place depends on the members alone.
use Rattle.std.specs.Prelude.{◌≡◌, ℕ, Bool, true, false, cond, List, [], ◌∷◌, Some, All, Contains, IsTrue, filter, refl}
use Rattle.std.proofs.Common.{ap, sym, ◌∙◌, arith}
use Rattle.std.proofs.lemmas.List.Elements.{All-nil, All-cons, All-weaker, All-contains, All-contains_itself, All-filter, filter_passes, Contains-append_left, Contains-append_right}
use Rattle.crdt_core.specs.Laws.{JoinLaws}
use Rattle.crdt_core.specs.Order.{option_join, join_of, SameMembers}
use Rattle.crdt_core.specs.OrderLaws.{option_laws}
use Rattle.crdt_core.proofs.JoinOrder.{join_of-cons, join_of-members}
use Rattle.table_schema.specs.Words.{Words}
use Rattle.table_schema.specs.Laws.{Laws}
use Rattle.table_model.specs.Rows.{is_at, AllProper, row_at, rows, rows_in}
use Rattle.table_model.proofs.RowLaws.{same_rows, rows_ascend, row_found, rows_of_partition}

module _ {X : Type 0} (p : X → Bool) where
  first_kept : (x : X) (xs : List X) → p x ≡ true → Contains (filter p (x ∷ xs)) x
  first_kept x xs e = rw e (Contains-append_left (x ∷ []) (filter p xs) x (0, omega arith, refl))

  more_kept : (b : Bool) (x y : X) (xs : List X) → Contains xs y → Contains (cond b (x ∷ xs) xs) y
  more_kept true x y xs h = Contains-append_right (x ∷ []) xs y h
  more_kept false x y xs h = h

  kept : (xs : List X) → All (λ x. p x ≡ true → Contains (filter p xs) x) xs
  kept [] = All-nil (λ x. p x ≡ true → Contains (filter p []) x)
  kept (x ∷ xs) =
      All-cons (λ y. p y ≡ true → Contains (filter p (x ∷ xs)) y) x xs (first_kept x xs)
      (All-weaker (λ y. p y ≡ true → Contains (filter p xs) y) (λ y. p y ≡ true → Contains (filter p (x ∷ xs)) y) (λ y h e. more_kept (p x) x y (filter p xs) (h e)) xs (kept xs))

  -- a member of a filter is one of the list, and passes
  from_filter : (xs : List X) (x : X) → Contains (filter p xs) x → Contains xs x
  from_filter xs x h = All-contains (Contains xs) (filter p xs) x (All-filter p (Contains xs) xs (All-contains_itself xs)) h

  passes : (xs : List X) (x : X) → Contains (filter p xs) x → p x ≡ true
  passes xs x h = All-contains (λ y. p y ≡ true) (filter p xs) x (filter_passes p xs) h

  through_filter : (xs ys : List X) → ((x : X) → Contains xs x → Contains ys x) → (x : X) → Contains (filter p xs) x → Contains (filter p ys) x
  through_filter xs ys h x inside = All-contains (λ y. p y ≡ true → Contains (filter p ys) y) ys x (kept ys) (h x (from_filter xs x inside)) (passes xs x inside)

  pub same_filter : (xs ys : List X) → SameMembers xs ys → SameMembers (filter p xs) (filter p ys)
  same_filter xs ys same x = (through_filter xs ys (λ y. (same y).0) x, through_filter ys xs (λ y. (same y).1) x)

-- ---- contents

module _ {R : Type 0} {join : R → R → R} (joins : JoinLaws join) (s : Words R) where
  join_by : (table : ℕ) (key : List ℕ) (r : R) (older : List R) → row_at join s older table key ≡ join_of join (filter (is_at s table key) older) → (b : Bool) → is_at s table key r ≡ b → row_at join s (r ∷ older) table key ≡ join_of join (filter (is_at s table key) (r ∷ older))
  join_by table key r older rest true e =
      rw e (ap (λ o. option_join join o (Some r)) rest ∙ ((option_laws joins).commutative (join_of join (filter (is_at s table key) older)) (Some r) ∙ sym (join_of-cons joins r (filter (is_at s table key) older))))
  join_by table key r older rest false e = rw e rest

  -- the row at a place is the join of the members there
  pub row_is_join : (contents : List R) (table : ℕ) (key : List ℕ) → row_at join s contents table key ≡ join_of join (filter (is_at s table key) contents)
  row_is_join [] table key = refl
  row_is_join (r ∷ older) table key = join_by table key r older (row_is_join older table key) (is_at s table key r) refl

  pub same_row : (a b : List R) (table : ℕ) (key : List ℕ) → SameMembers a b → row_at join s a table key ≡ row_at join s b table key
  same_row a b table key same =
      row_is_join a table key ∙ (join_of-members joins (filter (is_at s table key) a) (filter (is_at s table key) b) (same_filter (is_at s table key) a b same) ∙ sym (row_is_join b table key))

  pub proper_members : (a b : List R) → SameMembers a b → AllProper s a → AllProper s b
  proper_members a b same all =
      All-weaker (Contains b) (λ y. IsTrue (s.is_proper y)) (λ y inside. All-contains (λ z. IsTrue (s.is_proper z)) a y all ((same y).1 inside)) b (All-contains_itself b)

  module _ (laws : Laws join s) where
    pub same_contents : (a b : List R) → AllProper s a → SameMembers a b → rows join s a ≡ rows join s b
    same_contents a b p same =
        let q = proper_members a b same p in
        same_rows s (rows join s a) (rows join s b) (rows_ascend laws a p) (rows_ascend laws b q)
        (λ table key. row_found laws a table key p ∙ (same_row a b table key same ∙ sym (row_found laws b table key q)))

    pub same_partition : (a b : List R) (n : ℕ) → AllProper s a → AllProper s b → SameMembers (rows_in s n a) (rows_in s n b) → rows_in s n (rows join s a) ≡ rows_in s n (rows join s b)
    same_partition a b n p q same =
        sym (rows_of_partition laws a n p)
        ∙ (same_contents (rows_in s n a) (rows_in s n b) (All-filter _ (λ y. IsTrue (s.is_proper y)) a p) same ∙ rows_of_partition laws b n q)
