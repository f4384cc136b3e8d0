-- Entries of versions and their states, and what each object row keeps of them.
use Rattle.std.specs.Prelude.{ℕ, max, cond, Bool, List, [], ◌∷◌, Option}
use Rattle.crdt_core.specs.declared.max.Max.{Max}
use Rattle.crdt_rows.specs.declared.version.Version.{Version}
use Rattle.crdt_rows.specs.declared.state.State.{State}
use Rattle.crdt_rows.specs.State.{is_complete, is_aborted, is_sized}
use Rattle.crdt_rows.specs.Version.{version_cmp}
use Rattle.crdt_rows.specs.Newest.{newest_of, is_settled}
use Rattle.crdt_rows.specs.Each.{passes}

-- the newest complete version
abbrev pub newest_version : List (Version × Max State) → Option Version
newest_version = newest_of version_cmp (λ s. is_complete s.0)

-- no version is older than the newest complete one
abbrev pub is_settled_row : List (Version × Max State) → Bool
is_settled_row = is_settled version_cmp (λ s. is_complete s.0)

-- inline bytes are as many as their size says, at each version
abbrev pub is_sized_row : List (Version × Max State) → Bool
is_sized_row = passes (λ s. is_sized s.0)

-- the greatest timestamp of the versions that aren't aborted, or 0 where there is none
abbrev pub greatest_ts : List (Version × Max State) → ℕ
greatest_ts [] = 0
greatest_ts (e ∷ es) = cond (is_aborted e.1.0) (greatest_ts es) (max e.0.ts (greatest_ts es))
