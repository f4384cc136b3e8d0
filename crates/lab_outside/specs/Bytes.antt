-- What reads and writes do to the bytes that are left and that were written, where those are told.
use Rattle.std.specs.Prelude.{◌≡◌, ℕ, ◌+◌, nat_lt, if◌then◌else◌, List, ◌++◌, length, Option, Some, None, ⊤}
use Rattle.std.specs.Io.KnownBytes.{Consumes}

-- where the bytes are told after it, they were told before, and have grown by `bytes`; a sink may stop telling, and then tells no more
abbrev pub Wrote : Option (List ℕ) → Option (List ℕ) → List ℕ → Type 0
Wrote old None bytes = ⊤
Wrote None (Some now) bytes = ⊥
Wrote (Some before) (Some now) bytes = now ≡ before ++ bytes

-- some first part of `bytes` was written, and no more
pub record WrotePrefix (old new : Option (List ℕ)) (bytes : List ℕ) : Type 0 where
  pub front : List ℕ
  pub rest : List ℕ
  pub whole : front ++ rest ≡ bytes
  pub wrote : Wrote old new front

-- some first part of the bytes that were left was read, and is gone
pub record ConsumesPrefix (old new : Option (List ℕ)) : Type 0 where
  pub front : List ℕ
  pub consumed : Consumes old new front

-- what a sink tells after a write of `bytes`, if it tells no more than `size` bytes
abbrev pub told_after : Option (List ℕ) → List ℕ → ℕ → Option (List ℕ)
told_after None bytes size = None
told_after (Some before) bytes size =
    if nat_lt size (length before + length bytes) then None else Some (before ++ bytes)
