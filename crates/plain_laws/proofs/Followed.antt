-- A job that both the cluster and the map carry out, or refuse: where the cluster ended it so, they agree.
use Rattle.std.proofs.Common.{◌≡◌, ℕ, true, false, Some, None, List, [], ◌∷◌, ◌++◌, sym, ap, ◌∙◌, subst, inl}
use Rattle.std.specs.Prelude.{if◌then◌else◌}
use Rattle.crdt_core.proofs.Each.{all_weaker}
use Rattle.crdt_rows.specs.declared.any_row.AnyRow.{AnyRow}
use Rattle.cluster_machine.specs.Node.{Block}
use Rattle.flow_model.specs.declared.flow.FlowEnd.{FlowEnd}
use Rattle.store_model.specs.Orders.{buckets_of}
use Rattle.store_model.specs.Run.{State, are_buckets}
use Rattle.store_model.specs.Acts.{Act}
use Rattle.serve_model.specs.Stores.{Job, order_of_job, Carried}
use Rattle.serve_model.specs.Told.{TellSame}
use Rattle.serve_model.specs.Clusters.{Cluster, cluster, carried_acts, fits}
use Rattle.serve_model.proofs.Telling.{tells_same}
use Rattle.serve_model.specs.Plain.{Plain, at_time, counted, tells, done_for, plain, IsMap}
use Rattle.plain_laws.specs.Holds.{Holds}
use Rattle.plain_laws.specs.Blocks.{IsKept, IsBlockAt}
use Rattle.plain_laws.proofs.Holding.{Holding}
use Rattle.plain_laws.proofs.Starting.{number}
use Rattle.plain_laws.proofs.Ordered.{carries_map}
use Rattle.plain_laws.proofs.Keeping.{Follows, AllKeep, each_is_kept, kept_such}
use Rattle.plain_laws.proofs.Told.{map_begun, begun_alike}
use Rattle.plain_laws.proofs.Carrying.{now, asked_state, has_key, refused_holds, refused_begun, refused_keeps, done_state, worked_state, served_holds, served_rows, served_keeps, carried_holds, carried_keeps}

-- the blocks that nodes keep at first are blocks that they may keep
pub kept_before : (c : Cluster) (P : Plain) (job : Job) → AllKeep (IsBlockAt c P job) c.run.world
kept_before c P job n = all_weaker (λ (b : Block). IsKept c.run.world b.bytes) (λ (b : Block). IsBlockAt c P job b.bytes) (λ b k. inl k) (c.run.world.nodes n).blocks (each_is_kept c.run.world n)

-- the job is refused by both
pub agrees_refused : (c : Cluster) (P : Plain) (h : Holds c P) (time : ℕ) (job : Job) → are_buckets P.buckets (buckets_of (order_of_job job)) ≡ false → Follows c P time job
agrees_refused c P h time job e =
    let r = refused_holds c P h time job e in
    let is : plain.carries P time job ≡ record { state = at_time P time; end = None; begun = None } = ap (λ b. if b then done_for (counted (at_time P time)) job else record { state = at_time P time; end = None; begun = None }) e in
    record {
      agrees = record {
        end = tells_same (cluster.carries c time job).end (plain.carries P time job).end (r.0 ∙ sym (ap (λ (x : Carried Plain). x.end) is));
        begun = refused_begun c P h time job e ∙ sym (map_begun P time job);
        holds = subst (λ (Q : Plain). Holds (cluster.carries c time job).state Q) (sym (ap (λ (x : Carried Plain). x.state) is)) r.1;
      };
      keeps = kept_such (IsBlockAt c P job) (cluster.carries c time job).state.run.world (refused_keeps c P h time job e (IsBlockAt c P job) (kept_before c P job));
    }

module _ (c : Cluster) (P : Plain) (h : Holds c P) (time : ℕ) (job : Job) (known : are_buckets P.buckets (buckets_of (order_of_job job)) ≡ true) where
  abbrev before : State
  before = now c P h time (order_of_job job)

  abbrev after : Plain
  after = counted (at_time P time)

  abbrev q : ℕ
  q = number before

  pub carried_as : plain.carries P time job ≡ done_for after job
  carried_as = ap (λ b. if b then done_for after job else record { state = at_time P time; end = None; begun = None }) known

  -- once it was asked this was done for it, and it ends as with the map
  module _ (done : List Act) (done_is : carried_acts (asked_state c P h time (order_of_job job) known) q job ≡ done) (fit : fits c time job) (Q : Plain) (end told : FlowEnd) (alike : TellSame (Some end) (Some told)) (is : done_for after job ≡ tells Q told) (ticked : Q.ticked ≡ (at_time P time).ticked) where
    same : plain.carries P time job ≡ tells Q told
    same = carried_as ∙ is

    is_map : IsMap Q
    is_map = subst IsMap (ap (λ (x : Carried Plain). x.state) same) (carries_map P time job (has_key c P h time job fit) h.map)

    follows_so : ((cluster.carries c time job).end ≡ Some end) × Holds (cluster.carries c time job).state Q → AllKeep (IsBlockAt c P job) (cluster.carries c time job).state.run.world → Follows c P time job
    follows_so r keeps =
        let end_is : TellSame (cluster.carries c time job).end (plain.carries P time job).end =
        subst (λ e. TellSame (cluster.carries c time job).end e) (sym (ap (λ (x : Carried Plain). x.end) same)) (subst (λ e. TellSame e (Some told)) (sym r.0) alike) in
        record {
          agrees = record {
            end = end_is;
            begun = begun_alike c P time job known end_is;
            holds = subst (λ (Q : Plain). Holds (cluster.carries c time job).state Q) (sym (ap (λ (x : Carried Plain). x.state) same)) r.1;
          };
          keeps = kept_such (IsBlockAt c P job) (cluster.carries c time job).state.run.world keeps;
        }

    -- where the rounds after it change nothing
    pub answers_so : (let u = done_state c P h time job known done done_is in Holding h.layout Q u → AllKeep (IsBlockAt c P job) u.world → u.ends ≡ before.ends ++ (q, end) ∷ [] → Follows c P time job)
    answers_so = λ holding keeps ends. follows_so (carried_holds c P h time job known done done_is fit Q end ticked is_map holding ends) (carried_keeps c P h time job known done done_is fit Q end ticked is_map holding ends (IsBlockAt c P job) keeps)

    -- where they change something
    pub serves_so : (let u = worked_state c P h time job known done done_is in Holding h.layout Q u → AllKeep (IsBlockAt c P job) u.world → u.ends ≡ before.ends ++ (q, end) ∷ [] → Follows c P time job)
    serves_so = λ holding keeps ends. follows_so (served_holds c P h time job known done done_is fit Q end ticked is_map holding ends) (served_keeps c P h time job known done done_is fit Q end ticked is_map holding ends (IsBlockAt c P job) keeps)

    -- and its nodes then have the rows that they had after the rounds
    pub rows_so : (let u = worked_state c P h time job known done done_is in Holding h.layout Q u → u.ends ≡ before.ends ++ (q, end) ∷ [] →
        (Rows : (ℕ → List AnyRow) → Type 0) → Rows (λ m. (u.world.nodes m).accepted) → Rows (λ m. ((cluster.carries c time job).state.run.world.nodes m).accepted))
    rows_so = λ holding ends Rows had. served_rows c P h time job known done done_is fit Q end ticked is_map holding ends Rows had
