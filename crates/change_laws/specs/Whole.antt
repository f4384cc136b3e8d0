-- Which change may be made.
use Rattle.std.specs.Prelude.{◌≡◌, ◌<◌, ℕ, suc, IsTrue, List}
use Rattle.table_schema.specs.Words.{Words}
use Rattle.table_model.specs.Rows.{AllProper}
use Rattle.quorum_model.specs.Quorum.{is_among}
use Rattle.cluster_machine.specs.Layouts.{Layouts}
use Rattle.cluster_machine.specs.Run.{IsLayout}
use Rattle.cluster_machine.specs.World.{World}
use Rattle.drained_laws.specs.Calm.{IsMember}
use Rattle.change_laws.specs.Script.{AreApart}

-- from one layout to another, which is of the next version and at most the hundredth, applied at a member; the nodes that take part are all members of both, each once
pub record MayChange {L : Type 0} (k : Layouts L) (l new : L) (part : List ℕ) (m : ℕ) : Type 0 where
  pub later : k.reading.version new ≡ suc (k.reading.version l)
  pub few : k.reading.version l < 100
  pub layout : IsLayout k 256 l
  pub layout_new : IsLayout k 256 new
  pub apart : AreApart part
  pub members : (n : ℕ) → IsMember k l n → IsTrue (is_among n part)
  pub members_new : (n : ℕ) → IsMember k new n → IsTrue (is_among n part)
  pub first : IsMember k l m

-- each row that one of these nodes accepted is proper
abbrev pub AreProperAt : {R L : Type 0} → Words R → List ℕ → World R L → Type 0
AreProperAt s nodes w = (n : ℕ) → IsTrue (is_among n nodes) → AllProper s (w.nodes n).accepted
