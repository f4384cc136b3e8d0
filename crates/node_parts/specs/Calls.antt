-- When the open requests of the code stand for those of the model, and what an answer does to them.
use Rattle.std.specs.Prelude.{◌≡◌, ℕ, Bool, true, Option, Some, None, List, [], ◌∷◌, ⊤}
use Rattle.std.specs.List.{AllZip}
use Rattle.std.specs.declared.cmp.Reverse.{Reverse}
use Rattle.layout_roles.specs.declared.layout.Layout.{Layout}
use Rattle.table_schema.specs.Words.{Words}
use Rattle.view_model.specs.View.{oldest}
use Rattle.wire_messages.specs.declared.phase.PhaseEnd.{PhaseEnd}
use Rattle.read_call.specs.Stands.{ReadStands, RangeStands}
use Rattle.write_call.specs.Stands.{Stands}
use Rattle.cluster_machine.specs.Node.{Node, Call as Opened, Present as Doing, resting, asking, scanning, storing, fetching, Did, Ended}
use Rattle.cluster_machine.specs.Phases.{calls_now, with_call, in_phase, row_came, rows_came, stored_came, block_came}
use Rattle.node_parts.specs.declared.call.Present.{Present}
use Rattle.node_parts.specs.declared.call.Present.TheVariants.{Resting, Asking, Scanning, Storing, Fetching}
use Rattle.node_parts.specs.declared.call.Call.{Call}
use Rattle.node_parts.specs.declared.calls.Calls.{Calls}
use Rattle.cluster_machine.specs.Layouts.{layouts}

-- the code's phase is the model's
abbrev pub IsPresent : {S R : Type 0} → Present S R → Doing R → Type 0
IsPresent Resting resting = ⊤
IsPresent (Asking call) (asking question answers) = ReadStands call question.set answers
IsPresent (Scanning call) (scanning scan answers) = RangeStands call scan.set answers
IsPresent (Storing call) (storing rows slots) = Stands call slots
IsPresent Fetching (fetching hash) = ⊤
IsPresent _ _ = ⊥

-- the code's request stands for the model's
pub record IsCall {S R : Type 0} (c : Call S R) (m : Opened R) : Type 0 where
  pub start : c.start ≡ m.start
  pub phases : c.phases ≡ m.phases
  pub present : IsPresent c.present m.present

-- an open request stands for the model's, under its number
pub record IsEntry {S R : Type 0} (e : Reverse ℕ × Call S R) (m : Opened R) : Type 0 where
  pub request : e.0.0 ≡ m.request
  pub call : IsCall e.1 m

-- the newest first
abbrev pub AreCalls : {S R : Type 0} → Calls S R → List (Opened R) → Type 0
AreCalls calls ms = AllZip IsEntry calls.by_number.entries ms

-- a request's phase ended, or didn't
abbrev pub ended_with : {R : Type 0} → ℕ → Option (PhaseEnd R) → List (Ended R)
ended_with request None = []
ended_with request (Some how) = record { request = request; how = how } ∷ []

-- the call of request c.request became the one that d leaves, and d does nothing else but end the phase where one is given
pub record Took {S R : Type 0} (new : Call S R) (given : Option (PhaseEnd R)) (x : Node R Layout) (c : Opened R) (d : Did R Layout) : Type 0 where
  pub after : Opened R
  pub is : IsCall new after
  pub request : after.request ≡ c.request
  pub start : after.start ≡ c.start
  pub node : d.node ≡ calls_now x after
  pub posts : d.posts ≡ []
  pub ends : d.ends ≡ ended_with c.request given
  pub spelled : d.is_spelled ≡ true

-- the same of a node's calls: nothing else of the node changes
pub record Heard {S R : Type 0} (new : Calls S R) (given : Option (PhaseEnd R)) (request : ℕ) (x : Node R Layout) (d : Did R Layout) : Type 0 where
  pub calls : AreCalls new d.node.calls
  pub rest : d.node ≡ record x { calls = d.node.calls }
  pub posts : d.posts ≡ []
  pub ends : d.ends ≡ ended_with request given
  pub spelled : d.is_spelled ≡ true

-- whatever call of the node the code's call stands for, it does what f does
abbrev pub Takes : {S R : Type 0} → Call S R → Call S R → Option (PhaseEnd R) → (Node R Layout → Opened R → Did R Layout) → Type 0
Takes {S} {R} old new given f = (x : Node R Layout) (c : Opened R) → with_call c x.calls ≡ x.calls → IsCall old c → Took new given x c (f x c)

-- whatever node had the old requests, this does to them what makes the new ones
abbrev pub Hears : {S R : Type 0} → Calls S R → Calls S R → Option (PhaseEnd R) → ℕ → (Node R Layout → Did R Layout) → Type 0
Hears {S} {R} old new given request f = (x : Node R Layout) → AreCalls old x.calls → Heard new given request x (f x)

-- an answer of one row does to a request what the model says
abbrev pub TakesRow : {S R : Type 0} → (R → R → R) → Call S R → Call S R → ℕ → Option R → Option (PhaseEnd R) → Type 0
TakesRow join old new from row given = Takes old new given (λ x c. row_came join x c from row c.present)

-- an answer of many rows does to a request what the model says
abbrev pub TakesRows : {S R : Type 0} → (R → R → R) → Words R → Call S R → Call S R → ℕ → List R → Bool → Option (PhaseEnd R) → Type 0
TakesRows join s old new from rows more given = Takes old new given (λ x c. rows_came join s x c from rows more c.present)

-- a confirmation does to a request what the model says, where its node's oldest stored version is this one
abbrev pub TakesConfirmation : {S R : Type 0} → Call S R → Call S R → ℕ → ℕ → ℕ → Option (PhaseEnd R) → Type 0
TakesConfirmation {S} {R} old new from slot first given =
    (x : Node R Layout) (c : Opened R) → oldest layouts.reading x.view ≡ first → with_call c x.calls ≡ x.calls → IsCall old c → Took new given x c (stored_came layouts x c slot from c.present)

-- a block does to a request what the model says
abbrev pub TakesBlock : {S R : Type 0} → Call S R → Call S R → List ℕ → Option (PhaseEnd R) → Type 0
TakesBlock old new bytes given = Takes old new given (λ x c. block_came x c bytes c.present)

-- an answer of one row does to all requests what the model says
abbrev pub HearsRow : {S R : Type 0} → (R → R → R) → Calls S R → Calls S R → ℕ → ℕ → ℕ → Option R → Option (PhaseEnd R) → Type 0
HearsRow join old new from request phase row given = Hears old new given request (λ x. in_phase x request phase (λ c. row_came join x c from row c.present))

-- an answer of many rows does to all requests what the model says
abbrev pub HearsRows : {S R : Type 0} → (R → R → R) → Words R → Calls S R → Calls S R → ℕ → ℕ → ℕ → List R → Bool → Option (PhaseEnd R) → Type 0
HearsRows join s old new from request phase rows more given = Hears old new given request (λ x. in_phase x request phase (λ c. rows_came join s x c from rows more c.present))

-- a confirmation does to all requests what the model says, where their node's oldest stored version is this one
abbrev pub HearsConfirmation : {S R : Type 0} → Calls S R → Calls S R → ℕ → ℕ → ℕ → ℕ → ℕ → Option (PhaseEnd R) → Type 0
HearsConfirmation {S} {R} old new from request phase slot first given =
    (x : Node R Layout) → oldest layouts.reading x.view ≡ first → AreCalls old x.calls → Heard new given request x (in_phase x request phase (λ c. stored_came layouts x c slot from c.present))

-- a block does to all requests what the model says
abbrev pub HearsBlock : {S R : Type 0} → Calls S R → Calls S R → ℕ → ℕ → List ℕ → Option (PhaseEnd R) → Type 0
HearsBlock old new request phase bytes given = Hears old new given request (λ x. in_phase x request phase (λ c. block_came x c bytes c.present))
