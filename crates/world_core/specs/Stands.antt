-- When a world of the code stands for one of the machine, and when a call does what the machine's step does.
use Rattle.std.specs.Prelude.{◌≡◌, ℕ, suc, leb, cond, IsTrue, List, [], ◌∷◌, ◌++◌, length, map}
use Rattle.blake2_hash.specs.Blake2b.{blake2b}
use Rattle.cluster_machine.specs.Ties as ties
use Rattle.layout_roles.specs.declared.layout.Layout.{Layout}
use Rattle.layout_roles.specs.Certificates.{IsRedundancy}
use Rattle.table_schema.specs.Words.{Words}
use Rattle.wire_messages.specs.declared.phase.PhaseEnd.{PhaseEnd}
use Rattle.cluster_machine.specs.declared.step.Step.{Step}
use Rattle.cluster_machine.specs.declared.step.Action.{Action}
use Rattle.cluster_machine.specs.declared.step.Refusal.TheVariants.{VersionLimit}
use Rattle.cluster_machine.specs.declared.line.Line.{Line}
use Rattle.cluster_machine.specs.declared.line.Line.TheVariants.{Synced}
use Rattle.cluster_machine.specs.Layouts.{layouts}
use Rattle.node_parts.specs.declared.packet.Envelope.{Envelope}
use Rattle.cluster_machine.specs.declared.applied.Applied.{Applied}
use Rattle.cluster_machine.specs.Node.{Ended}
use Rattle.cluster_machine.specs.Acts.{acts}
use Rattle.cluster_machine.specs.World.{Sent, Mark, clock, sent_bytes}
use Rattle.cluster_machine.specs.Step.{none_given, applied, did, told, local}
use Rattle.cluster_machine.specs.Choices.{Decision}
use Rattle.cluster_machine.specs.Blocks.{AllStocked}
use Rattle.cluster_machine.specs.Fits.{Fits, IsWord}
use Rattle.cluster_machine.specs.Trio.{trio, stage_trio}
use Rattle.cluster_machine.specs.Worlds.{Model, Doing, Done, IsSound, IsLawful, does, RoomWith, HasRoom}
use Rattle.world_core.specs.declared.report.Report.{Report}
use Rattle.world_core.specs.declared.world.World.{World}
use Rattle.world_core.specs.Parts.{AreClocks, IsPost, AreSent, not_yet, lines_from}
use Rattle.world_core.specs.Nodes.{AreNodes}

-- the code's world is this world of the machine, which is sound, has the blocks of the rows in its nodes and messages, and fits
pub record StandsFor {S R : Type 0} (join : R → R → R) (s : Words R) (c : World S R) (w : Model R) : Type 0 where
  pub nodes : AreNodes join s c.nodes w.nodes
  pub post : IsPost s c.post w.messages w.marks
  pub clocks : AreClocks c.clocks w.time w.skew_of
  pub roles : c.roles.list ≡ w.roles
  pub redundancy : c.redundancy ≡ w.redundancy
  pub wanted : IsRedundancy w.redundancy
  pub applied : c.applied ≡ w.applied
  pub requests : c.requests ≡ w.requests
  pub fits : Fits s w
  pub sound : IsSound w
  pub stocked : AllStocked (blake2b 32) s join w

-- the code's world stands for some world: it was not given up
abbrev pub IsWorld : {S R : Type 0} → (R → R → R) → Words R → World S R → Type 0
IsWorld {S} {R} join s c = (w : Model R) × StandsFor join s c w

-- a phase that ended, in the words of the machine
abbrev pub ended : {R : Type 0} → ℕ × PhaseEnd R → Ended R
ended e = record { request = e.0; how = e.1 }

-- the report answers what the effects of the machine's step answer
pub record Tells {R : Type 0} (report : Report R) (e : Done R) : Type 0 where
  pub refused : report.refused ≡ e.refused
  pub words : report.words ≡ e.words
  pub lines : report.lines ≡ e.tells
  pub ends : map ended report.ends ≡ e.ends
  pub lost : report.lost ≡ e.lost

-- no layout is given
abbrev pub nothing_given : Decision
nothing_given = none_given VersionLimit

-- a step that is given no layout
abbrev pub plainly : {R : Type 0} → Step R → Doing R
plainly step = record { step = step; choice = nothing_given }

-- the code's world stands for the one after these effects, and the report tells what they tell; every row that is sent has a spelling
pub record DoesSo {S R : Type 0} (join : R → R → R) (s : Words R) (new : World S R) (report : Report R) (w : Model R) (e : Done R) : Type 0 where
  pub stands : StandsFor join s new (applied w e)
  pub tells : Tells report e
  pub spelled : IsTrue e.is_spelled

-- the same of a step
abbrev pub Does : {S R : Type 0} → (R → R → R) → Words R → World S R → Report R → Model R → Doing R → Type 0
Does join s new report w m = DoesSo join s new report w (does join s w m)

-- what an apply is given is lawful
pub record Stepped {S R : Type 0} (join : R → R → R) (s : Words R) (new : World S R) (report : Report R) (w : Model R) (step : Step R) : Type 0 where
  pub choice : Decision
  pub lawful : IsLawful w (record { step = step; choice = choice })
  pub does : Does join s new report w (record { step = step; choice = choice })

-- with something lawful given there is no room after the step
pub record LacksRoom {R : Type 0} (join : R → R → R) (s : Words R) (w : Model R) (step : Step R) : Type 0 where
  pub choice : Decision
  pub lawful : IsLawful w (record { step = step; choice = choice })
  pub lacks : HasRoom join s w (record { step = step; choice = choice }) → ⊥

module _ {S R : Type 0} (join : R → R → R) (s : Words R) where
  -- whatever world the code's world stood for, it did this step
  abbrev pub Steps : World S R → World S R → Report R → Step R → Type 0
  Steps old new report step = ties.Steps (StandsFor join s) old (λ w. Stepped join s new report w step)

  -- whatever world it stood for, some number or row after this step would not fit
  abbrev pub Overflows : World S R → Step R → Type 0
  Overflows old step = ties.Steps (StandsFor join s) old (λ w. LacksRoom join s w step)

  -- the same of what effects do
  abbrev pub PlaysSo : World S R → World S R → Report R → (Model R → Done R) → Type 0
  PlaysSo old new report f = ties.Steps (StandsFor join s) old (λ w. DoesSo join s new report w (f w))

  -- whatever world it stood for, what this does would not fit
  abbrev pub ExceedsSo : World S R → (Model R → Done R) → Type 0
  ExceedsSo old f = ties.Overflows (StandsFor join s) old (λ w. RoomWith join s w (f w))

  -- the same of a step that is given no layout
  abbrev pub Plays : World S R → World S R → Report R → Step R → Type 0
  Plays old new report step = PlaysSo old new report (λ w. does join s w (plainly step))

  -- the same of a step that is given no layout
  abbrev pub Exceeds : World S R → Step R → Type 0
  Exceeds old step = ExceedsSo old (λ w. does join s w (plainly step))

  -- the same of what no step does
  abbrev pub Turns : World S R → World S R → (Model R → Model R) → Type 0
  Turns old new f = ties.Steps (StandsFor join s) old (λ w. StandsFor join s new (f w))

-- ---- what a node sends

-- the line of a node's sync, where it rose
abbrev pub synced_lines : ℕ → ℕ → ℕ → List (Line Applied)
synced_lines node before after = cond (leb after before) [] (Synced node after ∷ [])

-- the messages were sent, and their lines told, and nothing else changed
pub record SendsOut {S R : Type 0} (join : R → R → R) (s : Words R) (old new : World S R) (node before after : ℕ) (out : List (Envelope R)) (old_lines new_lines : List (Line Applied)) : Type 0 where
  pub rest : new ≡ record old { post = new.post }
  pub posts : (messages : List (Sent R Layout)) (marks : List Mark) (sent : List (Sent R Layout)) → IsPost s old.post messages marks → AreSent out sent → IsPost s new.post (messages ++ sent) (marks ++ not_yet sent)
  pub lines : (messages : List (Sent R Layout)) (marks : List Mark) → IsPost s old.post messages marks → new_lines ≡ old_lines ++ (lines_from (suc (length messages)) out ++ synced_lines node before after)

-- the sizes of all messages, with these, are no number of the code
abbrev pub CannotSend : {S R : Type 0} → Words R → World S R → List (Envelope R) → Type 0
CannotSend {S} {R} s old out = (messages : List (Sent R Layout)) (marks : List Mark) (sent : List (Sent R Layout)) → IsPost s old.post messages marks → AreSent out sent → IsWord (sent_bytes s (messages ++ sent)) → ⊥

module _ {R : Type 0} (join : R → R → R) (s : Words R) where
  -- a node acts, and may
  abbrev pub acts_so : ℕ → Action → Model R → Done R
  acts_so node action w =
      let a = acts join s layouts node (clock w node) (w.nodes node) action in
      record (did w node a.did) { words = told a.how }

  -- the same, unless it knows no version
  abbrev pub local_so : ℕ → Action → Model R → Done R
  local_so node action w = local join s layouts trio stage_trio w node action
