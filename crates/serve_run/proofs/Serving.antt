-- From what serving says of the code's cluster to what is stated of a server.
use Rattle.std.proofs.Common.{◌≡◌, ◌≤◌, ◌⊎◌, ◌-◌, inl, inr, IsTrue, ℕ, zero, suc, List, [], ◌∷◌, ◌++◌, length, take, append-nil, append_assoc, arith, Option, Some, None, Result, Ok, Err, IfSome, map, refl, sym, ◌∙◌, ap, subst}
use Rattle.std.specs.Result.{IsErrAnd}
use Rattle.std.specs.List.{list_any}
use Rattle.crdt_core.specs.declared.memory.Memory.{Memory as Why}
use Rattle.crdt_core.specs.declared.memory.Memory.TheVariants.{Want, Full}
use Rattle.lab_outside.specs.Connection.{Connection}
use Rattle.layout_roles.specs.declared.layout.Layout.{Layout}
use Rattle.layout_roles.specs.declared.role.Role.{Role}
use Rattle.layout_roles.specs.declared.assignment.Assignment.{Assignment}
use Rattle.layout_roles.specs.Fits.{NodeSet}
use Rattle.cluster_machine.specs.Layouts.{layouts}
use Rattle.store_model.specs.Run.{State, World, start}
use Rattle.store_model.specs.Acts.{AreLawfulActs, ActsFit, installs}
use Rattle.store_model.specs.Fresh.{NoClash}
use Rattle.serve_model.specs.declared.served.Served.{Served}
use Rattle.serve_model.specs.declared.served.ServeFault.{ServeFault}
use Rattle.serve_model.specs.declared.served.ServeFault.TheVariants as fault
use Rattle.serve_changes.specs.Changing.{Changing, changing, changing_fits, changing_lacks}
use Rattle.serve_model.specs.Stores.{Job, fits_asking, OverflowsAmong, known_from}
use Rattle.serve_model.specs.Talk.{Grammar, Serving}
use Rattle.serve_model.specs.Serving.{HasState, Reached, Stands}
use Rattle.serve_model.specs.Connections.{AreServed, ServesAll, ServesAllButLast}
use Rattle.serve_loop.specs.declared.service.ServeStop.{ServeStop}
use Rattle.serve_loop.specs.declared.service.ServeStop.TheVariants as ended
use Rattle.serve_loop.specs.Service.{Ends, Leaves}
use Rattle.store_anchors.specs.Promises.{EveryRunKeepsPromises}
use Rattle.serve_run.specs.declared.plan.Plan.{Plan}
use Rattle.serve_run.specs.declared.stop.Stop.{Stop}
use Rattle.serve_cluster.specs.declared.change.Change.{Change as Planned}
use Rattle.serve_cluster.specs.declared.changing.Changing.{Changing as CodeChanging}
use Rattle.serve_cluster.specs.declared.cluster.Cluster.{Cluster as Code}
use Rattle.serve_cluster.specs.Changes.{AreWithin, AreChanges, IsChanging}
use Rattle.serve_cluster.specs.Standing.{StandsFor}
use Rattle.world_text.specs.Shown.{is_unshown}
use Rattle.s3_world.specs.declared.world.S3World.{S3World}
use Rattle.s3_world.specs.Stands.{IsStore}
use Rattle.plain_changes.specs.Changing.{MayCome}
use Rattle.serve_run.specs.Plan.{IsPlan}
use Rattle.serve_run.specs.Start.{preparing, opening, opened, IsOf, IsOpened}
use Rattle.serve_run.specs.Told.{Told, told}
use Rattle.serve_run.specs.FromMap.{AreFromMap, AreFromMapButLast}
use Rattle.serve_run.specs.Begun.{nodes_of, to_come_from, begun, serving}
use Rattle.serve_run.specs.Served.{all_nodes, state_after, left_after, tail, versions_of, tail_of, HasServed, IsInPart, HasBrokenOff}
use Rattle.serve_run.specs.Stop.{stop_of_memory, stop_of_serving}
use Rattle.serve_run.specs.Answer.{IsUnshown, LacksRoom, for_job, at_first, afterwards, within, HasStopped, HowServed}
use Rattle.serve_run.proofs.Opening.{after_last, world_kept}
use Rattle.serve_run.proofs.Requests.{run_is, all_kept}
use Rattle.serve_run.proofs.ToCome.{MayComeSo, TakeAllSo, are_changes, plan_may_come}
use Rattle.serve_run.proofs.InPart.{GetLaws, in_part}
use Rattle.serve_run.proofs.FromMap.{FirstStands, ServedFrom, EndedFrom, installs_first, are_from_map, end_from_map}

-- connections were served, and the code's cluster stands for one with the state after the jobs
pub record Left (g : Grammar) (p : Plan) (number : ℕ) (times times' : Option (List ℕ)) (coming coming' : Option (List (List ℕ))) (past past' : List Connection) (holds : Changing → Type 0) : Type 0 where
  pub has : HasServed g p number (told times times' coming coming' past past')
  pub at : Changing
  pub stands : holds at
  pub run : at.cluster.run ≡ state_after p has.first has.jobs
  pub left : at.to_come ≡ left_after p has.first has.jobs

-- the code's clock and counts stand for what is served at first
pub begins : (p : Plan) (first : Layout) (holds : Changing → Type 0) (times : Option (List ℕ)) (counts : Served) (ts : List ℕ) → holds (begun p first) → counts ≡ record { kept = 0; time = 0 } → times ≡ Some ts → Stands holds times counts (serving p first ts)
begins p first holds times counts ts stands same e = record { store = stands; clock = e; time = ap (λ (s : Served). s.time) same; kept = ap (λ (s : Served). s.kept) same }

-- where times and connections aren't both told, and where they may be
module _ (P : List ℕ → List (List ℕ) → Type 0) where
  none_told : (times : Option (List ℕ)) (coming : Option (List (List ℕ))) → ((ts : List ℕ) (cs : List (List ℕ)) → times ≡ Some ts → coming ≡ Some cs → ⊥) → IfSome times (λ ts. IfSome coming (λ cs. P ts cs))
  none_told None coming untold = tt
  none_told (Some ts) None untold = tt
  none_told (Some ts) (Some cs) untold = absurd (untold ts cs refl refl)

  some_told : (times : Option (List ℕ)) (coming : Option (List (List ℕ))) → ((ts : List ℕ) → times ≡ Some ts → IfSome coming (λ cs. P ts cs)) → IfSome times (λ ts. IfSome coming (λ cs. P ts cs))
  some_told None coming all = tt
  some_told (Some ts) coming all = all ts refl

where_some : {A : Type 0} (P Q : A → Type 0) (o : Option A) → ((x : A) → P x → Q x) → IfSome o P → IfSome o Q
where_some P Q None f h = tt
where_some P Q (Some x) f h = f x h

-- what the code's cluster stands for when serving begins: the opened cluster, to which lawful acts led that fit, with the plan's changes to come, which may be made
pub record BeginsAs (p : Plan) (holds : Changing → Type 0) : Type 0 where
  pub first : Layout
  pub is_of : IsOf p first
  pub lawful : AreLawfulActs start (opening p.config.buckets p.config.block_size first)
  pub fit : ActsFit start (opening p.config.buckets p.config.block_size first)
  pub stands : holds (begun p first)
  pub may : MayCome first (to_come_from first p.changes)

-- nothing is staged when a server begins
none_staged : (p : Plan) (first : Layout) → AreWithin (opened p first).world.roles
none_staged p first =
    let acts = preparing p.config.buckets p.config.block_size in
    let none : (opened p first).world.roles ≡ [] = ap (λ (t : State). t.world.roles) (after_last start acts (installs first)) ∙ ap (λ (w : World). w.roles) (world_kept start p.config.buckets p.config.block_size) in
    subst AreWithin (sym none) tt

pub begins_as : MayComeSo → TakeAllSo → (p : Plan) → IsPlan p → (world : S3World) (inner : Code) (c : CodeChanging) (members : List ℕ) → IsOpened world p → members ≡ nodes_of p → ((s : State) → IsStore world s → StandsFor inner (record { run = s; ticked = 0; members = members })) →
    ((m : Changing) → StandsFor inner m.cluster → AreWithin m.cluster.run.world.roles → AreChanges m.cluster.members p.changes m.to_come → IsChanging c m) → BeginsAs p (IsChanging c)
begins_as law all p plan world inner c members o e h k =
    let there = subst (λ ms. StandsFor inner (record { run = opened p o.first; ticked = 0; members = ms })) e (h (opened p o.first) o.stands) in
    let same : layouts.reading.members o.first ≡ nodes_of p = ap (map (λ (role : Role). role.node)) o.is_of.roles in
    record {
      first = o.first;
      is_of = o.is_of;
      lawful = o.lawful;
      fit = o.fit;
      stands = k (begun p o.first) there (none_staged p o.first) (subst (λ ms. AreChanges ms p.changes (to_come_from o.first p.changes)) same (are_changes o.first p.changes plan.computed));
      may = plan_may_come law all p plan o.first o.is_of (installs_first p o.first o.lawful);
    }

-- the members of the code's cluster are the nodes of the plan
pub members_are : (p : Plan) (roles : List Role) (members : List ℕ) → roles ≡ p.config.roles.list → members ≡ map (λ role. role.node) roles → members ≡ nodes_of p
members_are p roles members e h = h ∙ ap (map (λ (role : Role). role.node)) e

-- a node can't be shown in the state that was left
pub unshown_is : (s t : State) → s ≡ t → IsTrue (list_any (is_unshown s.world) all_nodes) → IsUnshown t
unshown_is s t e h = subst IsUnshown e h

-- why the text of the end couldn't be made
module _ (g : Grammar) (p : Plan) (t : Told) where
  stops_showing : (number : ℕ) → HasServed g p number t → (why : Why) → (why ≡ Want) ⊎ ((why ≡ Full) × LacksRoom g p t) → HasStopped g p t (stop_of_memory why)
  stops_showing number has Want h = afterwards number has
  stops_showing number has Full (inl e) = cc
  stops_showing number has Full (inr h) = h.1

  pub unshown_stops : (number : ℕ) → HasServed g p number t → (count : ℕ) (r : Result (List ℕ) Stop) (why : Why) → IsErrAnd r (λ e. e ≡ stop_of_memory why) → (why ≡ Want) ⊎ ((why ≡ Full) × LacksRoom g p t) → HowServed g p count t r
  unshown_stops number has count (Ok text) why is h = absurd is
  unshown_stops number has count (Err e) why is h = subst (HasStopped g p t) (sym is) (stops_showing number has why h)

  -- memory was wanting before a connection was served
  wants_first : t.past_after ≡ t.past → (why : Why) → why ≡ Want → HasStopped g p t (stop_of_memory why)
  wants_first same Want e = at_first same
  wants_first same Full e = cc

  pub first_stops : t.past_after ≡ t.past → (count : ℕ) (r : Result (List ℕ) Stop) (why : Why) → IsErrAnd r (λ e. e ≡ stop_of_memory why) → why ≡ Want → HowServed g p count t r
  first_stops same count (Ok text) why is h = absurd is
  first_stops same count (Err e) why is h = subst (HasStopped g p t) (sym is) (wants_first same why h)

-- the sets of the first changes, taken before or after their sets
taken_sets : (n : ℕ) (cs : List Planned) → map (λ (sets : Assignment). sets.sets) (take n (map (λ (c : Planned). c.shown.certified.sets) cs)) ≡ map (λ (c : Planned). c.shown.certified.sets.sets) (take n cs)
taken_sets zero cs = refl
taken_sets (suc n) [] = refl
taken_sets (suc n) (c ∷ cs) = ap (λ later. c.shown.certified.sets.sets ∷ later) (taken_sets n cs)

-- the text is that of the layout versions that were applied and of the state that was left
pub tail_is : (p : Plan) (first : Layout) (jobs : List (ℕ × Job)) (number left : ℕ) (later : List Assignment) (text : List ℕ) → later ≡ take (length p.changes - left) (map (λ (c : Planned). c.shown.certified.sets) p.changes) → left ≡ length (left_after p first jobs) →
    (s : State) → s ≡ state_after p first jobs → text ≡ tail (p.certified.sets.sets ∷ map (λ (sets : Assignment). sets.sets) later) number s → text ≡ tail_of p first jobs number
tail_is p first jobs number left later text is many s e h =
    let V : List (List NodeSet) → State → Type 0 = λ versions x. text ≡ tail versions number x in
    let versions : p.certified.sets.sets ∷ map (λ (sets : Assignment). sets.sets) later ≡ versions_of p (length (left_after p first jobs)) =
    ap (λ ys. p.certified.sets.sets ∷ map (λ (sets : Assignment). sets.sets) ys) is ∙ (ap (λ ys. p.certified.sets.sets ∷ ys) (taken_sets (length p.changes - left) p.changes) ∙ ap (versions_of p) many) in
    subst (λ x. V (versions_of p (length (left_after p first jobs))) x) e (subst (λ vs. V vs s) versions h)

module _ (keeps : EveryRunKeepsPromises) (first_stands : FirstStands) (served_from : ServedFrom) (g : Grammar) (p : Plan) (sized : 1 ≤ p.config.block_size) (holds0 : Changing → Type 0) (b : BeginsAs p holds0) (holds : Changing → Type 0) (counts : Served)
    (times times' : Option (List ℕ)) (coming coming' : Option (List (List ℕ))) (past past' : List Connection) where
  abbrev All : List ℕ → ℕ → List (List ℕ) → Type 0
  All ts number cs = ServesAll changing p.buckets g (fits_asking changing_fits) (serving p b.first ts) number (Reached changing changing_fits changing_lacks holds (begun p b.first)) times' counts cs coming' past past'

  -- the connections that were served are served as from the map
  from_here : NoClash p.config.buckets → (ts : List ℕ) (cs : List (List ℕ)) (left_out : ℕ) (came to_come : List (List ℕ)) (all more : List Connection) (s : Serving Changing) → AreServed changing p.buckets g (fits_asking changing_fits) (serving p b.first ts) came all s →
      cs ≡ came ++ to_come → past' ≡ past ++ (all ++ more) → length more ≤ left_out → AreFromMap g p b.first p.buckets left_out past past' ts cs
  from_here clash ts cs left_out came to_come all more s served comes goes few =
      are_from_map first_stands served_from g p sized b.first b.is_of (installs_first p b.first b.lawful) b.may p.buckets ts clash left_out past past' cs came to_come all more s served comes goes few

  -- where nothing is told of the times or of the connections to come
  from_reached : (number : ℕ) (times : Option (List ℕ)) (coming : Option (List (List ℕ))) → HasState (Reached changing changing_fits changing_lacks holds (begun p b.first)) →
      ((ts : List ℕ) (cs : List (List ℕ)) → times ≡ Some ts → coming ≡ Some cs → ⊥) → Left g p number times times' coming coming' past past' holds
  from_reached number times coming goes untold =
      let leads = goes.1.1 in
      record {
        has = record {
          first = b.first;
          is_of = b.is_of;
          jobs = leads.jobs;
          kept = all_kept p b.first keeps b.lawful b.fit leads.jobs leads.fit;
          counts = counts;
          served = none_told (λ ts cs. ServesAll changing p.buckets g (fits_asking changing_fits) (serving p b.first ts) number (λ c. (c.cluster.run ≡ state_after p b.first leads.jobs) × (c.to_come ≡ left_after p b.first leads.jobs)) times' counts cs coming' past past') times coming untold;
          from_map = λ clash. none_told (AreFromMap g p b.first p.buckets 0 past past') times coming untold;
        };
        at = goes.0;
        stands = goes.1.0;
        run = run_is p b.first goes.0 leads.jobs leads.after;
        left = ap (λ (c : Changing). c.to_come) leads.after;
      }

  from_all : (number : ℕ) (ts : List ℕ) (cs : List (List ℕ)) → All ts number cs → Left g p number (Some ts) times' (Some cs) coming' past past' holds
  from_all number ts cs a =
      let leads = a.stands.store.1 in
      let run = run_is p b.first a.serving.store leads.jobs leads.after in
      let left = ap (λ (c : Changing). c.to_come) leads.after in
      record {
        has = record {
          first = b.first;
          is_of = b.is_of;
          jobs = leads.jobs;
          kept = all_kept p b.first keeps b.lawful b.fit leads.jobs leads.fit;
          counts = counts;
          served = record {
            came = a.came;
            to_come = a.to_come;
            comes = a.comes;
            comes_new = a.comes_new;
            gone = a.gone;
            goes = a.goes;
            count = a.count;
            serving = a.serving;
            are_served = a.are_served;
            stands = record { store = (run, left); clock = a.stands.clock; time = a.stands.time; kept = a.stands.kept };
          };
          from_map = λ clash. from_here clash ts cs 0 a.came a.to_come a.gone [] a.serving a.are_served a.comes (a.goes ∙ ap (λ x. past ++ x) (sym (append-nil a.gone))) (omega arith);
        };
        at = a.serving.store;
        stands = a.stands.store.0;
        left = left;
        run = run;
      }

  -- so it is of the times and the connections to come
  abbrev Where : (List ℕ → List (List ℕ) → Type 0) → Option (List ℕ) → Option (List (List ℕ)) → Type 0
  Where P times coming = (ts : List ℕ) → times ≡ Some ts → IfSome coming (P ts)

  left_where : (number : ℕ) (times : Option (List ℕ)) (coming : Option (List (List ℕ))) → HasState (Reached changing changing_fits changing_lacks holds (begun p b.first)) → Where (λ ts cs. All ts number cs) times coming → Left g p number times times' coming coming' past past' holds
  left_where number None coming goes all = from_reached number None coming goes (λ ts cs e f. cc)
  left_where number (Some ts) None goes all = from_reached number (Some ts) None goes (λ us cs e f. cc)
  left_where number (Some ts) (Some cs) goes all = from_all number ts cs (all ts refl)

  -- the link failed after some connections
  left_early : (times : Option (List ℕ)) (coming : Option (List (List ℕ))) → HasState (Reached changing changing_fits changing_lacks holds (begun p b.first)) → Where (λ ts cs. (number : ℕ) × All ts number cs) times coming → (number : ℕ) × HasServed g p number (told times times' coming coming' past past')
  left_early None coming goes all = (0, (from_reached 0 None coming goes (λ ts cs e f. cc)).has)
  left_early (Some ts) None goes all = (0, (from_reached 0 (Some ts) None goes (λ us cs e f. cc)).has)
  left_early (Some ts) (Some cs) goes all = let a = all ts refl in (a.0, (from_all a.0 ts cs a.1).has)

  -- serving ended with a connection
  abbrev ButLast : ServeFault → List ℕ → List (List ℕ) → Type 0
  ButLast fault ts cs = ServesAllButLast changing p.buckets g (fits_asking changing_fits) (OverflowsAmong changing changing_fits changing_lacks (begun p b.first)) (serving p b.first ts) fault cs coming' past past'

  broken_off : EndedFrom → GetLaws → (fault : ServeFault) → Where (ButLast fault) times coming → HasBrokenOff g p fault (told times times' coming coming' past past')
  broken_off ended_from gets fault all =
      record {
        first = b.first;
        is_of = b.is_of;
        kept = all_kept p b.first keeps b.lawful b.fit;
        served = some_told (ButLast fault) times coming all;
        in_part = some_told (IsInPart g p b.first fault coming' past past') times coming (λ ts e. where_some (ButLast fault ts) (IsInPart g p b.first fault coming' past past' ts) coming (λ cs a. in_part gets g p b.first b.lawful fault coming' past past' ts cs) (all ts e));
        from_map = λ clash. some_told (AreFromMap g p b.first p.buckets 1 past past') times coming (λ ts e. where_some (ButLast fault ts) (AreFromMap g p b.first p.buckets 1 past past' ts) coming (λ cs a. from_here clash ts cs 1 a.came (a.bytes ∷ a.to_come) a.gone (a.last ∷ []) a.serving a.are_served a.comes (a.goes ∙ append_assoc past a.gone (a.last ∷ [])) (omega arith)) (all ts e));
        ends_from_map = λ clash.
            some_told (AreFromMapButLast g p b.first p.buckets fault coming' past past') times coming
            (λ ts e.
            where_some (ButLast fault ts) (AreFromMapButLast g p b.first p.buckets fault coming' past past' ts) coming
            (λ cs a. end_from_map first_stands served_from g p sized b.first b.is_of (installs_first p b.first b.lawful) b.may p.buckets ts ended_from clash (OverflowsAmong changing changing_fits changing_lacks (begun p b.first)) fault coming' past past' cs a) (all ts e));
      }

  -- what `serve` says of each state for which the code's cluster stood
  abbrev Says : Result ℕ ServeStop → Type 0
  Says r = (q : Serving Changing) → Stands holds0 times (record { kept = 0; time = 0 }) q → IfSome coming (λ cs. Ends changing p.buckets g q (Reached changing changing_fits changing_lacks holds q.store) (known_from changing changing_fits changing_lacks q.store) times' counts r cs coming' past past')

  says_so : (r : Result ℕ ServeStop) → Says r →
      Where (λ ts cs. Ends changing p.buckets g (serving p b.first ts) (Reached changing changing_fits changing_lacks holds (begun p b.first)) (known_from changing changing_fits changing_lacks (begun p b.first)) times' counts r cs coming' past past') times coming
  says_so r served = λ ts e. served (serving p b.first ts) (begins p b.first holds0 times (record { kept = 0; time = 0 }) ts b.stands refl e)

  -- as many connections were served as were asked for, or no more came
  pub left : (number : ℕ) → Leaves changing changing_fits changing_lacks holds0 holds (Ok number) → Says (Ok number) → Left g p number times times' coming coming' past past' holds
  left number goes served = left_where number times coming (goes (begun p b.first) b.stands) (says_so (Ok number) served)

  -- serving stopped early
  has_stopped : EndedFrom → GetLaws → (stop : ServeStop) → Leaves changing changing_fits changing_lacks holds0 holds (Err stop) → Says (Err stop) → HasStopped g p (told times times' coming coming' past past') (stop_of_serving stop)
  unfolding broken_off
  has_stopped ended_from gets ended.Link goes served = left_early times coming (goes (begun p b.first) b.stands) (says_so (Err ended.Link) served)
  has_stopped ended_from gets (ended.Fault fault.Kept) goes served = broken_off ended_from gets fault.Kept (says_so (Err (ended.Fault fault.Kept)) served)
  has_stopped ended_from gets (ended.Fault fault.Number) goes served = for_job (broken_off ended_from gets fault.Number (says_so (Err (ended.Fault fault.Number)) served)) (goes (begun p b.first) b.stands)
  has_stopped ended_from gets (ended.Fault fault.Memory) goes served = within (broken_off ended_from gets fault.Memory (says_so (Err (ended.Fault fault.Memory)) served))

  pub how_stopped : EndedFrom → GetLaws → (count : ℕ) (r : Result (List ℕ) Stop) (stop : ServeStop) → IsErrAnd r (λ e. e ≡ stop_of_serving stop) → Leaves changing changing_fits changing_lacks holds0 holds (Err stop) → Says (Err stop) → HowServed g p count (told times times' coming coming' past past') r
  how_stopped ended_from gets count (Ok text) stop is goes served = absurd is
  how_stopped ended_from gets count (Err e) stop is goes served = subst (HasStopped g p (told times times' coming coming' past past')) (sym is) (has_stopped ended_from gets stop goes served)
