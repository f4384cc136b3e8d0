-- A get that is on its way.
use Rattle.std.specs.Prelude.{◌≡◌, ◌<◌, ◌≤◌, ◌+◌, ◌-◌, ℕ, suc, ⊤, Bool, true, false, if◌then◌else◌, ◌^◌, option_map, List, [], ◌∷◌, Option, None, Some, max}
use Rattle.std.specs.List.{AllByRecursion}
use Rattle.crdt_rows.specs.declared.version.Version.{Version}
use Rattle.crdt_rows.specs.declared.body.Meta.{Meta}
use Rattle.layout_roles.specs.declared.cut.Cut.{Cut}
use Rattle.cluster_machine.specs.declared.step.Refusal.{Refusal}
use Rattle.cluster_machine.specs.declared.step.Words.TheVariants.{One}
use Rattle.flow_model.specs.declared.order.Order.{Order}
use Rattle.flow_model.specs.declared.order.Order.TheVariants.{Get}
use Rattle.flow_model.specs.declared.flow.FlowEnd.{FlowEnd}
use Rattle.flow_model.specs.declared.flow.FlowEnd.TheVariants as flow
use Rattle.store_model.specs.Run.{State, Outcome, opened}
use Rattle.store_model.specs.Acts.{Act, drain, after_acts, end_of, all_messages, AreLawfulActs, ActsFit}
use Rattle.store_model.specs.Gets.{found_by}
use Rattle.s3_world.specs.declared.world.S3World.{S3World}
use Rattle.s3_world.specs.Stands.{IsStore, IsGiving}
use Rattle.serve_model.specs.Stores.{Given}
use Rattle.serve_model.specs.Clusters.{Cluster as Model, delivered, acts_to_ask, acts_to_end, acts_opened, end_in, given_by, wait, asking, ActLacksRoom}
use Rattle.get_laws.specs.OnTheWay.{KnowsRequests, LeavesEnd, next_request}
use Rattle.serve_loop.specs.declared.storage.Got.{Got}
use Rattle.serve_loop.specs.declared.storage.Got.TheVariants.{Found, Piece, End}
use Rattle.serve_loop.specs.Gets.{found_now, with_piece, bytes_of, with_given, GaveAll}
use Rattle.serve_cluster.specs.declared.cluster.Cluster.{Cluster}
use Rattle.serve_cluster.specs.declared.getting.Getting.{Getting}
use Rattle.serve_cluster.specs.Acting.{LedTo, DoneActs}

-- in this state a get was just opened, as request q
pub record IsOpened (s : State) (q : ℕ) : Type 0 where
  pub before : State
  pub node : ℕ
  pub bucket : List ℕ
  pub key : List ℕ
  pub knows : KnowsRequests before
  pub state : s ≡ (opened before node (Get bucket key)).state
  pub number : q ≡ next_request before

-- what was given is nothing, or is of the object that was found, once that was told
abbrev pub HasTold : Bool → Option (Version × Meta) → Option Given → Type 0
HasTold false found so_far = so_far ≡ None
HasTold true found so_far = (g : Given) × (so_far ≡ Some g) × (found ≡ Some (g.version, g.meta))

-- request q, a get that was opened in a state, has given so much in the world after these acts
pub record HasGiven (world : S3World) (q : ℕ) (told : Bool) (acts : List Act) (s : State) (so_far : Option Given) : Type 0 where
  pub opened : IsOpened s q
  pub leaves : AllByRecursion (LeavesEnd q) acts
  pub led : LedTo (λ t. IsGiving world t q (bytes_of so_far)) s acts
  pub told_is : HasTold told (found_by (after_acts s acts) q) so_far

-- the acts of a get since it was opened
abbrev pub acts_since : List ℕ → Getting → List Act
acts_since members g = if g.worked then acts_to_end members delivered else drain (all_messages - g.left) ∷ []

-- a get that was opened in a state is on its way in a world, and has given so much
pub record IsGetting (world : S3World) (members : List ℕ) (g : Getting) (s : State) (so_far : Option Given) : Type 0 where
  pub few : g.left ≤ all_messages
  pub given : HasGiven world g.request g.told (acts_since members g) s so_far

-- it is on its way in the world
abbrev pub HasGot : S3World → Getting → Type 0
HasGot world g = (members : List ℕ) × (s : State) × (so_far : Option Given) × IsGetting world members g s so_far

-- all messages were delivered, and it has given so much in the world
abbrev pub IsDrainedGet : S3World → Getting → State → Option Given → Type 0
IsDrainedGet world g s so_far = HasGiven world g.request g.told delivered s so_far

-- it has given something in the world then
abbrev pub HasDrainedGet : S3World → Getting → Type 0
HasDrainedGet world g = (s : State) × (so_far : Option Given) × IsDrainedGet world g s so_far

-- more than how often it goes on
abbrev pub left_of : Getting → ℕ
left_of g = g.left + (if g.worked then 0 else suc all_messages)

-- ---- what it gives

-- it gives the object that it found, or the next of its bytes
abbrev pub GivesMore : (Option Given → Type 0) → Option Given → Got → Type 0
GivesMore on so_far (Found version meta) = (so_far ≡ None) × on (Some (found_now version meta))
GivesMore on so_far (Piece bytes) = (g : Given) × (so_far ≡ Some g) × on (Some (with_piece g bytes))
GivesMore on so_far (End end) = ⊥

-- it is an end with an object
abbrev pub is_object : Option FlowEnd → Bool
is_object (Some (flow.Found version meta body)) = true
is_object end = false

-- the request ended with an object, or what was given is all that it has found and got
abbrev pub HasGivenAll : State → ℕ → Option Given → Type 0
HasGivenAll s q so_far = GaveAll so_far (given_by s q) (end_of s.ends q)

-- it gives more, or has given all that there is
abbrev pub GivesOrHas : (Option Given → Type 0) → State → ℕ → Option Given → Option Got → Type 0
GivesOrHas on s q so_far None = on so_far × HasGivenAll s q so_far
GivesOrHas on s q so_far (Some got) = GivesMore on so_far got

-- whatever was done since it was opened, it gives more, or has given all that there is
abbrev pub HandsOut : S3World → S3World → Getting → Getting → Option Got → Type 0
HandsOut old new g h got = (acts : List Act) (s : State) (so_far : Option Given) → HasGiven old g.request g.told acts s so_far → GivesOrHas (HasGiven new h.request h.told acts s) (after_acts s acts) g.request so_far got

-- it gives more, or all messages were delivered
abbrev pub GivesOrDrained : S3World → List ℕ → Getting → State → Option Given → Option Got → Type 0
GivesOrDrained world members g s so_far None = IsDrainedGet world g s so_far
GivesOrDrained world members g s so_far (Some got) = GivesMore (IsGetting world members g s) so_far got

-- messages are delivered to it one by one
abbrev pub Delivers : S3World → S3World → Getting → Getting → Option Got → Type 0
Delivers old new g h got = (members : List ℕ) (s : State) (so_far : Option Given) → IsGetting old members g s so_far → GivesOrDrained new members h s so_far got

-- whatever it had given, a drain of all messages has no room
abbrev pub LacksDrain : S3World → Getting → Type 0
LacksDrain old g = (members : List ℕ) (s : State) (so_far : Option Given) → IsGetting old members g s so_far → ActLacksRoom s delivered

-- request q, which was opened in a state, ended so, past what it had given, and its end was taken
pub record Ended (world : S3World) (members : List ℕ) (q : ℕ) (s : State) (so_far : Option Given) (end : Option FlowEnd) : Type 0 where
  pub end_is : with_given so_far end ≡ end_in members s q delivered
  pub all : GaveAll so_far (given_by (after_acts s (acts_to_end members delivered)) q) end
  pub does : DoneActs world s (acts_opened members s q delivered)

-- it gives more, or ends
abbrev pub GivesOrEnds : S3World → List ℕ → Getting → State → Option Given → Got → Type 0
GivesOrEnds world members g s so_far (Found version meta) = GivesMore (IsGetting world members g s) so_far (Found version meta)
GivesOrEnds world members g s so_far (Piece bytes) = GivesMore (IsGetting world members g s) so_far (Piece bytes)
GivesOrEnds world members g s so_far (End end) = Ended world members g.request s so_far end

-- whatever it had given, it gives more, or ends
abbrev pub GivesNext : S3World → S3World → List ℕ → Getting → Getting → Got → Type 0
GivesNext old new members g h got = (s : State) (so_far : Option Given) → IsGetting old members g s so_far → GivesOrEnds new members h s so_far got

-- whatever it had given, one of its acts has no room
abbrev pub LacksGetting : S3World → List ℕ → Getting → Type 0
LacksGetting old members g = (s : State) (so_far : Option Given) → IsGetting old members g s so_far → ActLacksRoom s (acts_opened members s g.request delivered)

-- the same, once all messages were delivered
abbrev pub GivesRest : S3World → S3World → List ℕ → Getting → Getting → Got → Type 0
GivesRest old new members g h got = (s : State) (so_far : Option Given) → IsDrainedGet old g s so_far → GivesOrEnds new members h s so_far got

abbrev pub LacksRest : S3World → List ℕ → Getting → Type 0
LacksRest old members g = (s : State) (so_far : Option Given) → IsDrainedGet old g s so_far → ActLacksRoom s (acts_opened members s g.request delivered)

-- ---- in a cluster

-- a get that was just opened as this request: nothing was delivered
abbrev pub new_get : ℕ → Getting
new_get q = record { request = q; told = false; worked = false; left = 2 ^ 64 - 1 }

-- of a request that was asked for, none where it was refused
abbrev pub begun_get : Option ℕ → Option Getting
begun_get number = option_map new_get number

-- a request was asked for: its number, or none where it was refused
abbrev pub IsNumber : Option ℕ → Outcome → Type 0
IsNumber None o = (reason : Refusal Cut) × (o.refused ≡ Some reason)
IsNumber (Some q) o = (o.refused ≡ None) × (o.words ≡ One q)

-- of the request nothing was handed out
abbrev pub GivesNothing : S3World → State → Option ℕ → Type 0
GivesNothing world s None = ⊤
GivesNothing world s (Some q) = IsGiving world s q []

-- an order was asked of a cluster at a time, and the code's cluster stands for it then
pub record HasAsked (c : Cluster) (m : Model) (time : ℕ) (order : Order) (number : Option ℕ) : Type 0 where
  pub does : DoneActs c.world m.run (acts_to_ask m.members (wait m time) order)
  pub gives : GivesNothing c.world (asking m.members m.run (wait m time) order).state number
  pub ticked : c.ticked ≡ max m.ticked time
  pub members : c.members ≡ m.members
  pub sized : 0 < m.run.block
  pub knows : KnowsRequests m.run
  pub number_is : IsNumber number (asking m.members m.run (wait m time) order)

-- what is on its way since a get was asked for: nothing, where it was refused
abbrev pub IsComing : S3World → List ℕ → Option Getting → Outcome → Option Given → Type 0
IsComing world members None o so_far = IsNumber None o × (so_far ≡ None) × IsStore world o.state
IsComing world members (Some g) o so_far = IsNumber (Some g.request) o × IsGetting world members g o.state so_far

-- a get is on its way in a cluster, and has given so much
pub record IsOnItsWay (c : Cluster) (m : Model) (time : ℕ) (order : Order) (so_far : Option Given) : Type 0 where
  pub bucket : List ℕ
  pub key : List ℕ
  pub is_get : order ≡ Get bucket key
  pub lawful : AreLawfulActs m.run (acts_to_ask m.members (wait m time) order)
  pub fit : ActsFit m.run (acts_to_ask m.members (wait m time) order)
  pub ticked : c.ticked ≡ max m.ticked time
  pub members : c.members ≡ m.members
  pub knows : KnowsRequests m.run
  pub coming : IsComing c.world m.members c.getting (asking m.members m.run (wait m time) order) so_far

-- more than how often what is on its way goes on
abbrev pub left_in : Cluster → ℕ
left_in c = elim c.getting as (λ g. ℕ) [
  | None ↦ 0
  | Some g ↦ left_of g
]
