-- Layout changes one after the other, each a list of acts.
use Rattle.std.specs.Prelude.{◌≡◌, ℕ, IsTrue, ⊤, List, [], ◌∷◌, ◌++◌}
use Rattle.std.specs.List.{AllByRecursion}
use Rattle.crdt_rows.specs.declared.any_row.AnyRow.{AnyRow}
use Rattle.layout_roles.specs.declared.layout.Layout.{Layout}
use Rattle.cluster_machine.specs.declared.step.Step.{Step}
use Rattle.cluster_machine.specs.declared.step.Step.TheVariants.{Role as Stage, Redundancy as Spread}
use Rattle.quorum_model.specs.Quorum.{is_among}
use Rattle.cluster_machine.specs.Choices.{IsBest}
use Rattle.cluster_machine.specs.Hashes.{NoClash}
use Rattle.cluster_machine.specs.Layouts.{layouts}
use Rattle.cluster_machine.specs.Step.{given}
use Rattle.machine_laws.specs.Follows.{Follows}
use Rattle.store_model.specs.Run.{State}
use Rattle.store_model.specs.Acts.{Act, moves, after_acts, ActsFit}
use Rattle.store_laws.specs.Hashed.{ActsHash}
use Rattle.serve_model.specs.Clusters.{Cluster}
use Rattle.serve_model.specs.Plain.{Plain, AreApart}
use Rattle.drained_laws.specs.Calm.{IsMember}
use Rattle.change_laws.specs.Script.{AreApart as AreOnce}
use Rattle.change_laws.specs.Resting.{IsResting}
use Rattle.change_laws.specs.Whole.{MayChange}
use Rattle.plain_laws.specs.Blocks.{IsKept}
use Rattle.plain_laws.specs.Holds.{Holds}
use Rattle.serve_changes.specs.Acts.{change_acts}
use Rattle.serve_changes.specs.Changing.{Change}

-- the cluster holds the map, is at rest on this layout, no two blocks that nodes keep have one digest, and what it did with views the control plane does
pub record Standing (c : Cluster) (P : Plain) (l : Layout) : Type 0 where
  pub holds : Holds c P
  pub at : holds.layout ≡ l
  pub rest : IsResting layouts l c.run.world
  pub apart : AreApart (IsKept c.run.world)
  pub follows : Follows layouts 256 c.run.world

-- a step that stages a role or a redundancy
abbrev pub Stages : Step AnyRow → Type 0
Stages (Stage n role) = ⊤
Stages (Spread r) = ⊤
Stages _ = ⊥

-- the act is such a step
abbrev pub IsStaging : Act → Type 0
IsStaging (moves m) = Stages m.step
IsStaging _ = ⊥

-- all of its acts, where its layout is applied
abbrev pub acts_of : Change → List Act
acts_of ch = ch.stages ++ change_acts (given ch.new ch.shown) ch.first ch.part

-- the cluster after it
abbrev pub after_change : Cluster → Change → Cluster
after_change c ch = record c { run = after_acts c.run (acts_of ch); members = layouts.reading.members ch.new }

-- the cluster after changes in order
abbrev pub after_changes : Cluster → List Change → Cluster
after_changes c [] = c
after_changes c (ch ∷ chs) = after_changes (after_change c ch) chs

-- the layout after them
abbrev pub last_of : Layout → List Change → Layout
last_of l [] = l
last_of l (ch ∷ chs) = last_of ch.new chs

-- no two of the strings that the change's acts hash for walks have one digest
abbrev pub IsClear : State → Change → Type 0
IsClear s ch = NoClash (ActsHash s (acts_of ch))

-- each may follow the one before, its acts fit, and the digests of its walks don't clash
abbrev pub MayFollow : Layout → State → List Change → Type 0
MayFollow l s [] = ⊤
MayFollow l s (ch ∷ chs) =
    AllByRecursion IsStaging ch.stages × MayChange layouts l ch.new ch.part ch.first × ActsFit s (acts_of ch) × IsClear s ch × MayFollow ch.new (after_acts s (acts_of ch)) chs

-- the roles that are staged when the layout is applied, and the redundancy, are those for which it is the best of its version
abbrev pub IsComputedFor : State → Change → ℕ → Type 0
IsComputedFor s ch version = let w = (after_acts s ch.stages).world in IsBest w.roles w.redundancy version ch.new ch.shown

-- the nodes that take part are all members of both layouts, each once, and the layout is applied at a member of the older one
pub record TakesAll (l : Layout) (ch : Change) : Type 0 where
  pub apart : AreOnce ch.part
  pub members : (n : ℕ) → IsMember layouts l n → IsTrue (is_among n ch.part)
  pub members_new : (n : ℕ) → IsMember layouts ch.new n → IsTrue (is_among n ch.part)
  pub first : IsMember layouts l ch.first
