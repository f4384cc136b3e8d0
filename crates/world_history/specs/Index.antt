-- What an index of records says.
use Rattle.std.specs.Prelude.{◌≡◌, ℕ, nat_eq, Bool, true, ◌&&◌, cond, Option, Some, None, option_map, List, slice_get, Contains, IsSorted}
use Rattle.std.specs.List.{list_any}
use Rattle.std.specs.Ordering.{nat_cmp, ordering_then, is_lt}
use Rattle.std.specs.declared.cmp.Ordering.{Ordering}
use Rattle.history_model.specs.declared.record.Record.{Record}
use Rattle.history_model.specs.Record.{request_of}

-- the order of requests' numbers, and at a tie of places
abbrev pub place_cmp : ℕ × ℕ → ℕ × ℕ → Ordering
place_cmp a b = ordering_then (nat_cmp a.0 b.0) (nat_cmp a.1 b.1)

-- the entry stands before those of request q at place n or later
abbrev pub is_earlier : ℕ → ℕ → ℕ × ℕ → Bool
is_earlier q n e = is_lt (place_cmp e (q, n))

-- the record at place k speaks of request q
abbrev pub Speaks : List Record → ℕ → ℕ → Type 0
Speaks h k q = option_map request_of (slice_get h k) ≡ Some q

-- the number of each record's request with the record's place, in order
pub record IsOrder (h : List Record) (order : List (ℕ × ℕ)) : Type 0 where
  pub sorted : IsSorted place_cmp order
  pub whole : (k q : ℕ) → Speaks h k q → list_any (λ e. nat_eq e.0 q && nat_eq e.1 k) order ≡ true
  pub sound : (e : ℕ × ℕ) → Contains order e → Speaks h e.1 e.0

-- the place of an entry, if it is one of request q
abbrev pub place_of : ℕ → Option (ℕ × ℕ) → Option ℕ
place_of q None = None
place_of q (Some e) = cond (nat_eq e.0 q) (Some e.1) None
