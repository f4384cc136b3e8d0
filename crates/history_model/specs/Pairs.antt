-- How many pairs there are of a finished read and a write that it owes something.
use Rattle.std.specs.Prelude.{ℕ, zero, suc, ◌+◌, nat_lt, Bool, ◌&&◌, if◌then◌else◌, is_some, List, length, slice_get}
use Rattle.history_model.specs.declared.record.Kind.{Kind}
use Rattle.history_model.specs.declared.record.Record.{Record}
use Rattle.history_model.specs.Record.{is_read, is_write, finish, acknowledged, is_some_with, begins, same_bytes, names}

-- at place b a write began of a key that the read names, and was acknowledged before place i
abbrev pub is_owed : List Record → ℕ → Kind → List ℕ → List ℕ → ℕ → Bool
is_owed h i kind bucket own b =
    begins (λ q other place key. is_write other && (names kind own key && (same_bytes place bucket
    && is_some_with (λ a. nat_lt a.0 i) (acknowledged h b q)))) (slice_get h b)

-- at place i a read began that finished, and at place b a write of a key that it names, which was acknowledged before
abbrev pub is_pair : List Record → ℕ → ℕ → Bool
is_pair h i b =
    begins (λ q kind bucket own. is_read kind && (is_some (finish h i q) && is_owed h i kind bucket own b)) (slice_get h i)

-- the sum of f over the numbers below n
abbrev pub sum_below : (ℕ → ℕ) → ℕ → ℕ
sum_below f zero = 0
sum_below f (suc n) = sum_below f n + f n

-- how many numbers below n pass
abbrev pub count_below : (ℕ → Bool) → ℕ → ℕ
count_below p n = sum_below (λ k. if p k then 1 else 0) n

-- how many pairs of places there are of a read and a write
abbrev pub pair_count : List Record → ℕ
pair_count h = sum_below (λ i. count_below (is_pair h i) (length h)) (length h)
