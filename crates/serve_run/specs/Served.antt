-- What a server did: the acts of its requests, what is promised of them, and what was written to its connections.
use Rattle.std.specs.Prelude.{◌≡◌, ℕ, ◌-◌, Option, List, ◌∷◌, ◌++◌, map, flat_map, length, take, IfSome}
use Rattle.std.specs.List.{range_with_len}
use Rattle.lab_outside.specs.Connection.{Connection}
use Rattle.layout_roles.specs.declared.layout.Layout.{Layout}
use Rattle.layout_roles.specs.Fits.{NodeSet}
use Rattle.layout_roles.specs.Text.{set_lines}
use Rattle.store_model.specs.Run.{State, start}
use Rattle.store_model.specs.Acts.{Act, after_acts, AreLawfulActs, ActsFit}
use Rattle.store_model.specs.Moments.{AtEachMoment}
use Rattle.store_laws.specs.Hashed.{NeverCollect}
use Rattle.store_anchors.specs.Promises.{KeepsPromises}
use Rattle.text_model.specs.Transcript.{line_at, end_line}
use Rattle.serve_model.specs.declared.served.Served.{Served}
use Rattle.serve_model.specs.declared.served.ServeFault.{ServeFault}
use Rattle.serve_model.specs.Stores.{Job, fits_asking, after_jobs, JobsFit, OverflowsAmong}
use Rattle.serve_changes.specs.Changing.{Change, changing, changing_fits, changing_lacks, acts_through}
use Rattle.serve_model.specs.Talk.{Grammar}
use Rattle.serve_model.specs.Connections.{IsPrefixOf, ServesAll, ServesAllButLast, stated}
use Rattle.serve_run.specs.declared.plan.Plan.{Plan}
use Rattle.serve_run.specs.Start.{opening, IsOf}
use Rattle.serve_run.specs.Begun.{begun, serving}
use Rattle.serve_run.specs.Told.{Told, WhereTold}
use Rattle.serve_run.specs.FromMap.{IsFromMap, EndsFromMap}

-- ---- the acts

-- all acts of a server that carried out these jobs, and the changes between them, from nothing
abbrev pub all_acts : Plan → Layout → List (ℕ × Job) → List Act
all_acts p first jobs = opening p.config.buckets p.config.block_size first ++ acts_through (begun p first) jobs

-- the state after them
abbrev pub state_after : Plan → Layout → List (ℕ × Job) → State
state_after p first jobs = after_acts start (all_acts p first jobs)

-- the changes that are to come then
abbrev pub left_after : Plan → Layout → List (ℕ × Job) → List (ℕ × Change)
left_after p first jobs = (after_jobs changing (begun p first) jobs).to_come

-- ---- what is promised of them

-- the acts are lawful and fit, none of them is `collect`, and at each moment of them, within drains too, what is promised holds
pub record AreKept (acts : List Act) : Type 0 where
  pub lawful : AreLawfulActs start acts
  pub fit : ActsFit start acts
  pub never : NeverCollect acts
  pub promises : AtEachMoment KeepsPromises acts

-- ---- what was written

-- the nodes that a server may have
abbrev pub all_nodes : List ℕ
all_nodes = range_with_len 1 16

-- the sets of layout versions, one after the other, the lines of the nodes, and the last line, after so many connections
abbrev pub tail : List (List NodeSet) → ℕ → State → List ℕ
tail versions number s = flat_map set_lines versions ++ flat_map (line_at s.world) all_nodes ++ end_line number (length s.world.requests) (length s.world.messages)

-- the sets of each layout version that was applied, where so many changes are to come still
abbrev pub versions_of : Plan → ℕ → List (List NodeSet)
versions_of p left = p.certified.sets.sets ∷ map (λ c. c.shown.certified.sets.sets) (take (length p.changes - left) p.changes)

-- what a server of this plan writes at its end, after these jobs
abbrev pub tail_of : Plan → Layout → List (ℕ × Job) → ℕ → List ℕ
tail_of p first jobs number = tail (versions_of p (length (left_after p first jobs))) number (state_after p first jobs)

-- jobs were carried out from the opened cluster on; and where clock and link tell, so many connections were served as it is stated of their bytes, one after the other, which led to the state after these jobs; and they are served as by a server that is one map
pub record HasServed (g : Grammar) (p : Plan) (number : ℕ) (t : Told) : Type 0 where
  pub first : Layout
  pub is_of : IsOf p first
  pub jobs : List (ℕ × Job)
  pub kept : AreKept (all_acts p first jobs)
  pub counts : Served
  pub served : WhereTold t (λ times coming. ServesAll changing p.buckets g (fits_asking changing_fits) (serving p first times) number (λ c. (c.cluster.run ≡ state_after p first jobs) × (c.to_come ≡ left_after p first jobs)) t.times_after counts coming t.coming_after t.past t.past_after)
  pub from_map : IsFromMap g p first p.buckets 0 t

-- however connections were served of which serving ended with the last one, what was written to it is what is stated of its bytes, or a first part
abbrev pub IsInPart : Grammar → Plan → Layout → ServeFault → Option (List (List ℕ)) → List Connection → List Connection → List ℕ → List (List ℕ) → Type 0
IsInPart g p first fault coming_after past past_after times coming =
    (a : ServesAllButLast changing p.buckets g (fits_asking changing_fits) (OverflowsAmong changing changing_fits changing_lacks (begun p first)) (serving p first times) fault coming coming_after past past_after) →
    IfSome a.last.written (λ written. IsPrefixOf written (stated changing p.buckets g a.serving a.bytes).text)

-- serving ended with a connection, for this fault; where clock and link tell, all connections before it were served as it is stated, and what was written to it is what is stated of it, or a first part; and whatever jobs can be carried out from the opened cluster on keep what is promised; and the connections are served, and serving ends with the last one, as by a server that is one map
pub record HasBrokenOff (g : Grammar) (p : Plan) (fault : ServeFault) (t : Told) : Type 0 where
  pub first : Layout
  pub is_of : IsOf p first
  pub kept : (jobs : List (ℕ × Job)) → JobsFit changing changing_fits (begun p first) jobs → AreKept (all_acts p first jobs)
  pub served : WhereTold t (λ times coming. ServesAllButLast changing p.buckets g (fits_asking changing_fits) (OverflowsAmong changing changing_fits changing_lacks (begun p first)) (serving p first times) fault coming t.coming_after t.past t.past_after)
  pub in_part : WhereTold t (IsInPart g p first fault t.coming_after t.past t.past_after)
  pub from_map : IsFromMap g p first p.buckets 1 t
  pub ends_from_map : EndsFromMap g p first p.buckets fault t
