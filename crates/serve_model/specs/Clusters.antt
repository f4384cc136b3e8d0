-- The cluster as a store: a job is a list of acts.
use Rattle.std.specs.Prelude.{◌≡◌, ◌≤◌, ℕ, zero, suc, ◌-◌, ◌==◌, max, ⊤, Bool, false, ◌&&◌, ◌||◌, nat_lt, if◌then◌else◌, Option, Some, None, List, [], ◌∷◌, ◌++◌, map, length, take, drop}
use Rattle.std.specs.Option.{option_map}
use Rattle.crdt_rows.specs.declared.version.Version.{Version}
use Rattle.crdt_rows.specs.declared.body.Meta.{Meta}
use Rattle.layout_roles.specs.declared.cut.Cut.{Cut}
use Rattle.cluster_machine.specs.declared.step.Refusal.{Refusal}
use Rattle.cluster_machine.specs.declared.step.Words.{Words}
use Rattle.cluster_machine.specs.declared.step.Words.TheVariants.{One}
use Rattle.cluster_machine.specs.declared.step.Step.TheVariants.{Tick, Work, Expire}
use Rattle.flow_model.specs.declared.order.Order.{Order}
use Rattle.flow_model.specs.declared.order.Order.TheVariants as order
use Rattle.flow_model.specs.declared.flow.FlowEnd.{FlowEnd}
use Rattle.flow_model.specs.declared.flow.FlowEnd.TheVariants.{Superseded}
use Rattle.store_model.specs.Run.{State, Outcome, plainly, need_at}
use Rattle.store_model.specs.Acts.{Act, moves, asks, drain, forgets, takes, feeds, keeps, gives_up, acted, after_acts, end_of, all_messages, AreLawfulActs, ActsFit, IsLawfulAct}
use Rattle.store_model.specs.Turns.{FitsOutcome}
use Rattle.store_model.specs.Gets.{found_by, gathered}
use Rattle.serve_model.specs.Stores.{Job, carry, keep, leave, order_of_job, Given, Store, IsFirstOf}

-- ---- the acts of a request

-- the members stand in order, and the first one asks
abbrev pub asker : List ℕ → ℕ
asker [] = 0
asker (n ∷ ns) = n

-- the world's time goes on, and the request is asked
abbrev pub acts_to_ask : List ℕ → ℕ → Order → List Act
acts_to_ask members ms order = moves (plainly (Tick ms)) ∷ asks (asker members) order ∷ []

-- each member works off what waits at it
abbrev pub works : List ℕ → List Act
works members = map (λ n. moves (plainly (Work n))) members

-- all messages are delivered
abbrev pub delivered : List Act
delivered = drain all_messages ∷ []

-- each member works off what waits at it, and all messages are delivered
abbrev pub round : List ℕ → List Act
round members = works members ++ delivered

-- ---- the acts of an upload

-- a block comes, and all messages are delivered
abbrev pub fed_block : ℕ → List ℕ → List Act
fed_block q bytes = feeds q bytes ∷ delivered

-- these bytes come for request q, block by block as it needs them, as long as what it needs is there whole: so many blocks at most
abbrev pub fed_acts : ℕ → State → ℕ → List ℕ → List Act
fed_acts zero s q bytes = []
fed_acts (suc more) s q bytes = elim (need_at s q) as (λ o. List Act) [
  | None ↦ []
  | Some size ↦ if size == 0 || nat_lt (length bytes) size then [] else fed_block q (take size bytes) ++ fed_acts more (after_acts s (fed_block q (take size bytes))) q (drop size bytes)
]

-- request q, which needs so much, is kept if it is to be and needs nothing more, and is given up else; neither where it waits for no client
abbrev pub decided : Bool → ℕ → Option ℕ → List Act
decided keeping q None = []
decided keeping q (Some size) = if keeping && size == 0 then keeps q ∷ delivered else gives_up q ∷ delivered

-- the bytes of an upload come
abbrev pub received_acts : State → ℕ → List ℕ → List Act
received_acts s q came = delivered ++ fed_acts (length came) (after_acts s delivered) q came

-- the bytes of an upload come, and it is kept or given up
unfoldable pub streamed : Bool → State → ℕ → List ℕ → List Act
streamed keeping s q came = let received = received_acts s q came in received ++ decided keeping q (need_at (after_acts s received) q)

-- ---- the acts of a job

-- all that an order needs comes with it: it is no object whose bytes are still to come
abbrev pub IsWhole : Order → Type 0
IsWhole (order.Stream bucket key announced headers) = ⊥
IsWhole other = ⊤

-- what is done for an order whose request was opened: all messages are delivered; where its bytes are still to come, none comes and it is given up
abbrev pub order_acts : State → ℕ → Order → List Act
order_acts s q (order.Stream bucket key announced headers) = streamed false s q []
order_acts s q other = delivered

-- what is done for a job whose request was opened; an upload of which not all bytes came, or more, isn't kept
abbrev pub carried_acts : State → ℕ → Job → List Act
carried_acts s q (carry o) = order_acts s q o
carried_acts s q (keep u came) = streamed (length came == u.length) s q came
carried_acts s q (leave u came) = streamed false s q came

-- this is done, and two rounds follow
abbrev pub acts_to_end : List ℕ → List Act → List Act
acts_to_end members done = done ++ round members ++ round members

-- a request without an end is expired
abbrev pub expiry : ℕ → Option FlowEnd → List Act
expiry q None = moves (plainly (Expire q)) ∷ []
expiry q (Some end) = []

-- the end is taken, and delivered messages are forgotten
abbrev pub acts_past_end : ℕ → Option FlowEnd → List Act
acts_past_end q end = takes q ∷ expiry q end ++ forgets ∷ []

-- what a get had given, where it has no answer
abbrev pub begun_with : Option FlowEnd → Option Given → Option Given
begun_with None begun = begun
begun_with (Some (Superseded id)) begun = begun
begun_with (Some end) begun = None

-- the number that a request was given
abbrev pub number_in : Words → ℕ
number_in (One q) = q
number_in _ = 0

-- what request q found, if it is a get, and which bytes of it have come
abbrev pub given_by : State → ℕ → Option Given
given_by s q = option_map (λ (found : Version × Meta). record { version = found.0; meta = found.1; bytes = gathered s q }) (found_by s q)

module _ (members : List ℕ) where
  -- how request q, which was opened, ends once this is done
  abbrev pub end_in : State → ℕ → List Act → Option FlowEnd
  end_in s q done = end_of (after_acts s (acts_to_end members done)).ends q

  -- what it had given, where it is a get without an answer
  abbrev pub begun_in : State → ℕ → List Act → Option Given
  begun_in s q done = begun_with (end_in s q done) (given_by (after_acts s (acts_to_end members done)) q)

  -- this and the acts that follow until the request has ended
  abbrev pub acts_opened : State → ℕ → List Act → List Act
  acts_opened s q done = acts_to_end members done ++ acts_past_end q (end_in s q done)

  -- the same, where it may have been refused
  abbrev pub acts_then : State → ℕ → List Act → Option (Refusal Cut) → List Act
  acts_then s q done (Some reason) = []
  acts_then s q done None = acts_opened s q done

  -- how the request ends; not at all where it was refused
  abbrev pub end_then : State → ℕ → List Act → Option (Refusal Cut) → Option FlowEnd
  end_then s q done (Some reason) = None
  end_then s q done None = end_in s q done

  -- what it had given, where it is a get without an answer
  abbrev pub begun_then : State → ℕ → List Act → Option (Refusal Cut) → Option Given
  begun_then s q done (Some reason) = None
  begun_then s q done None = begun_in s q done

  -- what comes of asking, once the time went on
  abbrev pub asking : State → ℕ → Order → Outcome
  asking s ms order = acted (acted s (moves (plainly (Tick ms)))).state (asks (asker members) order)

  -- what is done for a job, where this came of its request
  abbrev pub acts_for : Outcome → Job → List Act
  acts_for o job = carried_acts o.state (number_in o.words) job

  -- the acts of a job
  abbrev pub acts_of_job : State → ℕ → Job → List Act
  acts_of_job s ms job = let o = asking s ms (order_of_job job) in acts_to_ask members ms (order_of_job job) ++ acts_then o.state (number_in o.words) (acts_for o job) o.refused

  -- how a job ends
  abbrev pub end_of_job : State → ℕ → Job → Option FlowEnd
  end_of_job s ms job = let o = asking s ms (order_of_job job) in end_then o.state (number_in o.words) (acts_for o job) o.refused

  -- what a get without an answer had given
  abbrev pub begun_of_job : State → ℕ → Job → Option Given
  begun_of_job s ms job = let o = asking s ms (order_of_job job) in begun_then o.state (number_in o.words) (acts_for o job) o.refused

-- ---- the store

-- a state of a run, to which time its world was brought, and the members, in order
pub record Cluster : Type 0 where
  pub run : State
  pub ticked : ℕ
  pub members : List ℕ

-- how far the world's time is behind
abbrev pub wait : Cluster → ℕ → ℕ
wait c time = time - c.ticked

-- the acts of a job at a time
abbrev pub acts_at : Cluster → ℕ → Job → List Act
acts_at c time job = acts_of_job c.members c.run (wait c time) job

-- in the middle of a get, when these of its acts are done, the last of them perhaps some deliveries alone, so much of an object has come, or more; as far as that all is lawful and fits
pub record GivesSoFar (c : Cluster) (time : ℕ) (order : Order) (g : Given) : Type 0 where
  pub before : List Act
  pub count : ℕ
  pub few : count ≤ all_messages
  pub later : List Act
  pub parts : acts_to_ask c.members (wait c time) order ++ acts_to_end c.members delivered ≡ before ++ drain all_messages ∷ later
  pub lawful : AreLawfulActs c.run (before ++ drain count ∷ [])
  pub fit : ActsFit c.run (before ++ drain count ∷ [])
  pub given : IsFirstOf (Some g) (given_by (after_acts c.run (before ++ drain count ∷ [])) (number_in (asking c.members c.run (wait c time) order).words))

-- the cluster carries out jobs
abbrev pub cluster : Store Cluster
cluster = record {
  carries = λ c time job.
      record {
        state = record { run = after_acts c.run (acts_at c time job); ticked = max c.ticked time; members = c.members };
        end = end_of_job c.members c.run (wait c time) job;
        begun = begun_of_job c.members c.run (wait c time) job;
      };
  gives = GivesSoFar;
}

-- the acts of the job are lawful, and every number fits
abbrev pub fits : Cluster → ℕ → Job → Type 0
fits c time job = AreLawfulActs c.run (acts_at c time job) × ActsFit c.run (acts_at c time job)

-- of these acts those before some act are lawful and fit, and that act, which is lawful then, has no room
pub record ActLacksRoom (s : State) (acts : List Act) : Type 0 where
  pub before : List Act
  pub act : Act
  pub later : List Act
  pub parts : acts ≡ before ++ act ∷ later
  pub lawful : AreLawfulActs s before
  pub fit : ActsFit s before
  pub may : IsLawfulAct (after_acts s before) act
  pub lacks : FitsOutcome (after_acts s before) (acted (after_acts s before) act) → ⊥

-- an act of the job has no room
abbrev pub lacks : Cluster → ℕ → Job → Type 0
lacks c time job = ActLacksRoom c.run (acts_at c time job)
