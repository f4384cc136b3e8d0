-- How far the timestamps come that a server's writes draw.
use Rattle.std.specs.Prelude.{◌≡◌, ◌≤◌, ◌+◌, ◌*◌, ℕ, List}
use Rattle.std.specs.List.{AllByRecursion, Contains}
use Rattle.crdt_rows.specs.declared.version.Version.{Version}
use Rattle.store_model.specs.Run.{Draw, State, start}
use Rattle.store_model.specs.Acts.{Act, after_acts, AreLawfulActs, ActsFit}
use Rattle.serve_model.specs.Talk.{time_limit, request_limit}
use Rattle.serve_limits.specs.Asked.{connection_limit}

-- lawful acts that fit lead to the state, from nothing on
pub record IsLedTo (s : State) : Type 0 where
  pub acts : List Act
  pub lawful : AreLawfulActs start acts
  pub fit : ActsFit start acts
  pub is : s ≡ after_acts start acts

-- the greatest time that a request has, and one for each request
abbrev pub stamp_limit : ℕ
stamp_limit = time_limit + connection_limit * request_limit

-- no timestamp of a version is past so much
abbrev pub AreStampedBy : ℕ → List Version → Type 0
AreStampedBy limit versions = AllByRecursion (λ v. v.ts ≤ limit) versions

-- no write drew a timestamp past so much
abbrev pub DrewBy : ℕ → State → Type 0
DrewBy limit s = (d : Draw) → Contains s.draws d → d.version.ts ≤ limit
