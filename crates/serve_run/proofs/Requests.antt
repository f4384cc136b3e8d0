-- The acts of jobs and of the changes between them: they lead where the jobs lead, and are lawful and fit where the jobs do.
use Rattle.std.proofs.Common.{◌≡◌, ℕ, List, sym, ◌∙◌, ap}
use Rattle.layout_roles.specs.declared.layout.Layout.{Layout}
use Rattle.store_model.specs.Run.{start}
use Rattle.store_model.specs.Acts.{AreLawfulActs, ActsFit}
use Rattle.store_model.proofs.Acts.{acts_after}
use Rattle.serve_model.specs.Stores.{Job, after_jobs, JobsFit}
use Rattle.serve_changes.specs.Changing.{Changing, changing, changing_fits, acts_through}
use Rattle.plain_changes.proofs.Through.{through_leads, through_runs}
use Rattle.serve_cluster.proofs.Acting.{acts_lawful, acts_fit}
use Rattle.store_anchors.specs.Promises.{EveryRunKeepsPromises}
use Rattle.serve_run.specs.declared.plan.Plan.{Plan}
use Rattle.serve_run.specs.Start.{opening}
use Rattle.serve_run.specs.Begun.{begun}
use Rattle.serve_run.specs.Served.{all_acts, state_after, AreKept}
use Rattle.serve_run.proofs.Never.{server_never_collects}

module _ (p : Plan) (first : Layout) where
  pub run_is : (t : Changing) (jobs : List (ℕ × Job)) → t ≡ after_jobs changing (begun p first) jobs → t.cluster.run ≡ state_after p first jobs
  run_is t jobs e =
      ap (λ (c : Changing). c.cluster.run) e ∙ through_leads (begun p first) jobs ∙ sym (acts_after start (opening p.config.buckets p.config.block_size first) (acts_through (begun p first) jobs))

  pub all_kept : EveryRunKeepsPromises → AreLawfulActs start (opening p.config.buckets p.config.block_size first) → ActsFit start (opening p.config.buckets p.config.block_size first) → (jobs : List (ℕ × Job)) → JobsFit changing changing_fits (begun p first) jobs →
      AreKept (all_acts p first jobs)
  all_kept keeps lawful fit jobs h =
      let opens = opening p.config.buckets p.config.block_size first in
      let runs = through_runs (begun p first) jobs h in
      let l = acts_lawful start opens (acts_through (begun p first) jobs) lawful runs.0 in
      let f = acts_fit start opens (acts_through (begun p first) jobs) fit runs.1 in
      record { lawful = l; fit = f; never = server_never_collects p first jobs; promises = keeps (all_acts p first jobs) l f }
