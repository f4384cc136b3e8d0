-- A connection of a link, and what the calls do to it.
use Rattle.std.specs.Prelude.{◌≡◌, ℕ, ◌<◌, ◌≤◌, List, [], ◌∷◌, length, take, Option, Some, None, ⊤, Result, IfOk, OnOk, OnErr, IfSome, IsSomeAnd, slice_get}
use Rattle.std.specs.Option.{option_and_then}
use Rattle.std.specs.Io.KnownBytes.{Consumes, IsAtEnd}
use Rattle.lab_outside.specs.Rose.{Rose}
use Rattle.lab_outside.specs.Bytes.{Wrote, WrotePrefix}

-- the bytes that its reads have still to give and those that were written, where they are told, and the count of faults of both
pub record Connection : Type 0 where
  pub left : Option (List ℕ)
  pub written : Option (List ℕ)
  pub faults : ℕ

-- nothing was written to it, and none of its calls failed
pub record IsFresh (c : Connection) : Type 0 where
  pub unwritten : IfSome c.written (λ bytes. bytes ≡ [])
  pub faultless : c.faults ≡ 0

-- a call on the connection that is present leaves one, and they are related so
abbrev pub OnPresent : (Connection → Connection → Type 0) → Option Connection → Option Connection → Type 0
OnPresent Relates None new = ⊤
OnPresent Relates (Some c) None = ⊥
OnPresent Relates (Some c) (Some d) = Relates c d

-- the first of the connections to come is the one that is present then; where none is to come, none is
abbrev pub TakesNext : Option (List (List ℕ)) → Option (List (List ℕ)) → Option Connection → Type 0
TakesNext None new present = new ≡ None
TakesNext (Some []) new present = (new ≡ Some []) × (present ≡ None)
TakesNext (Some (bytes ∷ rest)) new present = (new ≡ Some rest) × IsSomeAnd present (λ c. c.left ≡ Some bytes)

-- a read into a piece, which held `before` and then `after`
pub record ReadsFrom {E : Type 0} (result : Result ℕ E) (before after : List ℕ) (c d : Connection) : Type 0 where
  pub count : IfOk result (λ n. n ≤ length before)
  pub bytes : IfOk result (λ n. Consumes c.left d.left (take n after))
  pub end : IfOk result (λ n. n ≡ 0 → 0 < length before → IsAtEnd d.left)
  pub kept : OnErr result (d.left ≡ c.left)
  pub counted : c.faults ≤ d.faults
  pub fault : OnErr result (Rose c.faults d.faults)
  pub steady : OnOk result (d.faults ≡ c.faults)
  pub unwritten : d.written ≡ c.written

-- a write of the bytes of a piece
pub record WritesTo {E : Type 0} (result : Result ℕ E) (piece : List ℕ) (c d : Connection) : Type 0 where
  pub count : IfOk result (λ n. n ≤ length piece)
  pub some : IfOk result (λ n. 0 < length piece → 0 < n)
  pub bytes : IfOk result (λ n. Wrote c.written d.written (take n piece))
  pub kept : OnErr result (d.written ≡ c.written)
  pub counted : c.faults ≤ d.faults
  pub fault : OnErr result (Rose c.faults d.faults)
  pub steady : OnOk result (d.faults ≡ c.faults)
  pub unread : d.left ≡ c.left

-- all the bytes were written, and the connection's count of faults is as before; or a first part of them, and it rose
pub record WritesWhole {E : Type 0} (result : Result Unit E) (bytes : List ℕ) (c d : Connection) : Type 0 where
  pub ok : OnOk result (Wrote c.written d.written bytes)
  pub err : OnErr result (WrotePrefix c.written d.written bytes)
  pub counted : c.faults ≤ d.faults
  pub fault : OnErr result (Rose c.faults d.faults)
  pub steady : OnOk result (d.faults ≡ c.faults)
  pub unread : d.left ≡ c.left

-- what was written to the i-th of the connections, from 0, where it is told
abbrev pub written_at : List Connection → ℕ → Option (List ℕ)
written_at connections i = option_and_then (λ (c : Connection). c.written) (slice_get connections i)
