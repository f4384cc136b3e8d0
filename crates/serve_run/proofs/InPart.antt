-- What was written to the connection with which serving ended is a first part of what is stated of it.
use Rattle.std.proofs.Common.{ℕ, true, false, ◌==◌, Option, Some, List, [], ◌∷◌, length}
use Rattle.std.specs.Prelude.{cond}
use Rattle.lab_outside.specs.Connection.{Connection}
use Rattle.layout_roles.specs.declared.layout.Layout.{Layout}
use Rattle.flow_model.specs.declared.order.Order.TheVariants.{Get}
use Rattle.store_model.specs.Run.{State, start}
use Rattle.store_model.specs.Acts.{Act, after_acts, AreLawfulActs}
use Rattle.serve_model.specs.declared.served.ServeFault.{ServeFault}
use Rattle.serve_model.specs.Stores.{Job, Given, IsFirstOf, fits_asking, OverflowsAmong}
use Rattle.serve_model.specs.Talk.{Grammar}
use Rattle.serve_model.specs.Clusters.{Cluster, cluster, acts_at}
use Rattle.serve_model.proofs.InPart.{ended_in_part, served_such}
use Rattle.serve_changes.specs.Changing.{Change, Changing, changing, changing_fits, changing_lacks, with_change, changed, acts_in, acts_due}
use Rattle.get_laws.specs.OnTheWay.{KnowsRequests, given_in_all}
use Rattle.serve_run.specs.declared.plan.Plan.{Plan}
use Rattle.serve_run.specs.Start.{opening, opened}
use Rattle.serve_run.specs.Begun.{begun, serving}
use Rattle.serve_run.specs.Served.{IsInPart}

-- the laws of gets: each state to which lawful acts lead knows its requests, and then what is given in the middle of a get is the first of what it gives in all
pub record GetLaws : Type 0 where
  pub begins : KnowsRequests start
  pub keeps : (s : State) (acts : List Act) → AreLawfulActs s acts → KnowsRequests s → KnowsRequests (after_acts s acts)
  pub middle : (c : Cluster) (time : ℕ) (bucket key : List ℕ) (g : Given) → KnowsRequests c.run → cluster.gives c time (Get bucket key) g → IsFirstOf (Some g) (given_in_all c time bucket key)

module _ (laws : GetLaws) where
  abbrev Knows : Changing → Type 0
  Knows c = KnowsRequests c.cluster.run

  change_knows : (c : Cluster) (chs : List (ℕ × Change)) → KnowsRequests c.run → AreLawfulActs c.run (acts_due c chs) → Knows (with_change c chs)
  change_knows c [] known lawful = known
  change_knows c (ch ∷ chs) known lawful =
      elim (length c.run.world.requests == ch.0) as (λ b. AreLawfulActs c.run (cond b (acts_in c.run ch.1) []) → KnowsRequests (cond {A = Changing} b (record { cluster = changed c ch.1; to_come = chs }) (record { cluster = c; to_come = ch ∷ chs })).cluster.run) [
        | true ↦ λ l. laws.keeps c.run (acts_in c.run ch.1) l known
        | false ↦ λ l. known
      ] lawful

  job_knows : (c : Changing) (time : ℕ) (job : Job) → Knows c → changing_fits c time job → Knows (changing.carries c time job).state
  job_knows c time job known fit = change_knows (cluster.carries c.cluster time job).state c.to_come (laws.keeps c.cluster.run (acts_at c.cluster time job) fit.0.0 known) fit.1.0

  module _ (g : Grammar) (p : Plan) (first : Layout) (lawful : AreLawfulActs start (opening p.config.buckets p.config.block_size first)) (fault : ServeFault) (coming' : Option (List (List ℕ))) (past past' : List Connection) (times : List ℕ) (coming : List (List ℕ)) where
    opened_knows : KnowsRequests (opened p first)
    opened_knows = laws.keeps start (opening p.config.buckets p.config.block_size first) lawful laws.begins

    pub in_part : IsInPart g p first fault coming' past past' times coming
    in_part = λ a.
        let last_knows : Knows a.serving.store =
        served_such changing Knows (fits_asking changing_fits) job_knows (λ c time bucket key x known gives. laws.middle c.cluster time bucket key x known gives) p.buckets g (serving p first times) a.serving a.came a.gone opened_knows a.are_served in
        ended_in_part changing Knows (fits_asking changing_fits) job_knows (λ c time bucket key x known gives. laws.middle c.cluster time bucket key x known gives) p.buckets g
        (OverflowsAmong changing changing_fits changing_lacks (begun p first)) a.serving last_knows a.bytes a.last fault a.ends
