-- A step of the world by itself, and the requests that it ends.
use Rattle.std.proofs.Common.{◌≡◌, ℕ, suc, Bool, true, false, not, ◌&&◌, cond, leb, Option, Some, None, Result, Ok, Err, IfOk, List, [], ◌∷◌, refl, sym, ap, ◌∙◌}
use Rattle.std.specs.Prelude.{map, option_map}
use Rattle.crdt_core.specs.declared.memory.Memory.{Memory}
use Rattle.blake2_hash.specs.Blake2b.{blake2b}
use Rattle.layout_roles.specs.declared.layout.Layout.{Layout}
use Rattle.layout_roles.specs.declared.cut.Cut.{Cut}
use Rattle.cluster_machine.specs.declared.applied.Applied.{Applied}
use Rattle.cluster_machine.specs.declared.step.Step.{Step}
use Rattle.cluster_machine.specs.declared.step.Step.TheVariants.{Trio, Role as Stage, Redundancy as Spread, Apply, Tick, Skew, Deliver, Lose, Expire, Restart, Gossip, Ack, Sync as Syncs, SyncAck, Clean, Work, Repair, Collect, Open, Phase as Begin, Close}
use Rattle.cluster_machine.specs.declared.step.Action.{Action}
use Rattle.cluster_machine.specs.declared.step.Action.TheVariants as action
use Rattle.cluster_machine.specs.declared.step.Refusal.{Refusal}
use Rattle.cluster_machine.specs.declared.step.Refusal.TheVariants.{VersionTaken, VersionLimit, NotMember}
use Rattle.cluster_machine.specs.Acts.{acts}
use Rattle.cluster_machine.specs.Blocks.{StepBringsBlocks}
use Rattle.cluster_machine.specs.Choices.{Decision}
use Rattle.cluster_machine.specs.Layouts.{layouts}
use Rattle.cluster_machine.specs.Trio.{trio, stage_trio}
use Rattle.cluster_machine.specs.Step.{most_versions, given, none_given, at_message, expires, chosen, applies_at, acting, refusal}
use Rattle.cluster_machine.specs.World.{Request, Sent, Mark, numbered, clock, is_member_at}
use Rattle.cluster_machine.specs.Worlds.{Done as Effect, newest_at}
use Rattle.k2v_rows.specs.declared.k2v_row.K2vRow.{K2vRow}
use Rattle.k2v_rows.specs.Row.{row_join}
use Rattle.k2v_schema.specs.Schema.{words}
use Rattle.k2v_model.specs.declared.line.ItemRefusal.TheVariants.{Cluster}
use Rattle.k2v_model.specs.Acts.{ends_all}
use Rattle.k2v_model.specs.Run.{World, State, effect, cluster_lines}
use Rattle.k2v_text.specs.declared.event.ItemTold.{ItemTold}
use Rattle.world_core.specs.declared.report.Report.{Report}
use Rattle.world_core.specs.Stands.{Tells, Steps, Overflows as WorldOverflows}
use Rattle.k2v_world.specs.declared.asked.Asked.{Asked}
use Rattle.k2v_world.specs.declared.world.ItemWorld.{ItemWorld}
use Rattle.k2v_world.specs.Kept.{kept, ended_all, ended_by}
use Rattle.k2v_world.specs.Stands.{IsItems, IsQuiet, told_of, PlaysStep, OverflowsStep}
use Rattle.k2v_world.proofs.Places.{all_kept}

-- ---- which requests a step ends

-- it ends none
abbrev Ends : Effect K2vRow → Type 0
Ends e = e.closes ≡ []

by_test : (b : Bool) (x y : Effect K2vRow) → Ends x → Ends y → Ends (cond b x y)
by_test true x y p q = p
by_test false x y p q = q

module _ (w : World) where
  by_message : (f : Sent K2vRow Layout → Effect K2vRow) → ((sent : Sent K2vRow Layout) → Ends (f sent)) → (o : Option (Sent K2vRow Layout)) (mark : Option Mark) → Ends (at_message w f o mark)
  by_message f h None mark = refl
  by_message f h (Some s) None = refl
  by_message f h (Some s) (Some mark) = by_test mark.is_lost (refusal w _) (f s) refl (h s)

  by_choice : (n next : ℕ) (choice : Decision) → Ends (chosen row_join words layouts trio stage_trio w n next choice)
  by_choice n next (none_given r) = refl
  by_choice n next (given l shown) = refl

  by_apply : (n : ℕ) (choice : Decision) → Ends (applies_at row_join words layouts trio stage_trio w n choice)
  by_apply n choice =
      let next = suc (newest_at w n) in
      let applies : Effect K2vRow = chosen row_join words layouts trio stage_trio w n next choice in
      let within : Effect K2vRow = cond (leb most_versions w.applied) (refusal w VersionLimit) applies in
      let fresh : Effect K2vRow = cond (leb next w.applied) (refusal w (VersionTaken next)) within in
      by_test (leb 1 w.applied && not (is_member_at layouts w n)) (refusal w NotMember) fresh refl
      (by_test (leb next w.applied) (refusal w (VersionTaken next)) within refl (by_test (leb most_versions w.applied) (refusal w VersionLimit) applies refl (by_choice n next choice)))

  by_act : (n : ℕ) (b : Bool) (action : Action) →
      Ends (acting row_join words layouts trio stage_trio w n b (acts row_join words layouts n (clock w n) (w.nodes n) action))
  by_act n b action = by_test b _ _ refl refl

pub ends_none : (s : State) (st : Step K2vRow) (choice : Decision) → IsQuiet st → Ends (effect s (record { step = st; choice = choice }))
ends_none s Trio choice is = by_test _ _ _ refl refl
ends_none s (Stage n role) choice is = refl
ends_none s (Spread r) choice is = refl
ends_none s (Apply n) choice is = by_apply s.world n choice
ends_none s (Tick ms) choice is = refl
ends_none s (Skew n ms) choice is = refl
ends_none s (Deliver m) choice is = absurd is
ends_none s (Lose m) choice is = by_message s.world _ (λ sent. refl) _ _
ends_none s (Expire q) choice is = absurd is
ends_none s (Restart n) choice is = absurd is
ends_none s (Gossip from to) choice is = refl
ends_none s (Ack n) choice is = by_act s.world n _ action.Ack
ends_none s (Syncs n) choice is = by_act s.world n _ action.Sync
ends_none s (SyncAck n) choice is = by_act s.world n _ action.SyncAck
ends_none s (Clean n) choice is = by_act s.world n _ action.Clean
ends_none s (Work n) choice is = by_act s.world n _ action.Work
ends_none s (Repair n) choice is = by_act s.world n _ action.Repair
ends_none s (Collect n) choice is = by_act s.world n _ action.Collect
ends_none s (Open n) choice is = absurd is
ends_none s (Begin q phase) choice is = absurd is
ends_none s (Close q) choice is = absurd is

-- an expiry ends its request, unless it is refused
abbrev ended_if : ℕ → Option (Refusal Cut) → List ℕ
ended_if q None = q ∷ []
ended_if q (Some r) = []

expiry : (w : World) (q : ℕ) (o : Option Request) → (expires {A = Applied} {C = Cut} w q o).closes ≡ ended_if q (expires {A = Applied} {C = Cut} w q o).refused
expiry w q None = refl
expiry w q (Some r) = by_open r.is_open where
  by_open : (b : Bool) → (expires {A = Applied} {C = Cut} w q (Some (record r { is_open = b }))).closes ≡ ended_if q (expires {A = Applied} {C = Cut} w q (Some (record r { is_open = b }))).refused
  by_open true = refl
  by_open false = refl

by_refusal : (xs : List Asked) (q : ℕ) (o : Option (Refusal Cut)) → ended_by xs q o ≡ ended_all xs (ended_if q o)
by_refusal xs q None = refl
by_refusal xs q (Some r) = refl

-- it begins no store phase
pub quiet_brings : (st : Step K2vRow) → IsQuiet st → StepBringsBlocks (blake2b 32) words st
quiet_brings Trio is = tt
quiet_brings (Stage n role) is = tt
quiet_brings (Spread r) is = tt
quiet_brings (Apply n) is = tt
quiet_brings (Tick ms) is = tt
quiet_brings (Skew n ms) is = tt
quiet_brings (Deliver m) is = tt
quiet_brings (Lose m) is = tt
quiet_brings (Expire q) is = tt
quiet_brings (Restart n) is = tt
quiet_brings (Gossip from to) is = tt
quiet_brings (Ack n) is = tt
quiet_brings (Syncs n) is = tt
quiet_brings (SyncAck n) is = tt
quiet_brings (Clean n) is = tt
quiet_brings (Work n) is = tt
quiet_brings (Repair n) is = tt
quiet_brings (Collect n) is = tt
quiet_brings (Open n) is = tt
quiet_brings (Begin q phase) is = absurd is
quiet_brings (Close q) is = tt

-- ---- the step as an event

-- an answer of the call that tells it
answers : (P : ItemTold → Type 0) (report : Report K2vRow) → ((told : ItemTold) → told ≡ told_of report → P told) → (r : Result ItemTold Memory) → IfOk r (λ told. told ≡ told_of report) → IfOk r P
answers P report plays (Ok told) h = plays told h
answers P report plays (Err e) h = tt

module _ (old new : ItemWorld) (st : Step K2vRow) (report : Report K2vRow) (steps : Steps row_join words old.world new.world report st) (buckets : new.buckets ≡ old.buckets) where
  step_plays : ((s : State) (choice : Decision) → IsItems old s → Tells report (effect s (record { step = st; choice = choice })) → new.requests ≡ map kept (ends_all s.requests (effect s (record { step = st; choice = choice })).closes)) →
      (r : Result ItemTold Memory) → IfOk r (λ told. told ≡ told_of report) → IfOk r (λ told. PlaysStep old new told st)
  step_plays requests = answers (λ told. PlaysStep old new told st) report (λ told says s d.
      let did = steps s.world d.world in
      record {
        choice = did.choice;
        lawful = did.lawful;
        does = record {
          stands = record { world = did.does.stands; buckets = buckets ∙ d.buckets; requests = requests s did.choice d did.does.tells };
          tells = record {
            refused = ap (λ (t : ItemTold). t.refused) says ∙ ap (option_map Cluster) did.does.tells.refused;
            words = ap (λ (t : ItemTold). t.words) says ∙ did.does.tells.words;
            lines = ap (λ (t : ItemTold). t.lines) says ∙ ap cluster_lines did.does.tells.lines;
          };
          fits = ((did.does.stands.fits, did.does.spelled), tt);
        };
      })

  pub quiet_plays : IsQuiet st → new.requests ≡ old.requests → (r : Result ItemTold Memory) → IfOk r (λ told. told ≡ told_of report) → IfOk r (λ told. PlaysStep old new told st)
  quiet_plays quiet requests = step_plays (λ s choice d tells. requests ∙ d.requests ∙ ap (λ qs. map kept (ends_all s.requests qs)) (sym (ends_none s st choice quiet)))

pub expire_plays : (old new : ItemWorld) (q : ℕ) (report : Report K2vRow) → Steps row_join words old.world new.world report (Expire q) → new.buckets ≡ old.buckets → new.requests ≡ ended_by old.requests q report.refused →
    (r : Result ItemTold Memory) → IfOk r (λ told. told ≡ told_of report) → IfOk r (λ told. PlaysStep old new told (Expire q))
expire_plays old new q report steps buckets requests = step_plays old new (Expire q) report steps buckets (λ s choice d tells.
    requests
    ∙ ap (ended_by old.requests q) tells.refused
    ∙ by_refusal old.requests q (expires {A = Applied} {C = Cut} s.world q (numbered s.world.requests q)).refused
    ∙ ap (ended_all old.requests) (sym (expiry s.world q (numbered s.world.requests q)))
    ∙ ap (λ rs. ended_all rs (expires {A = Applied} {C = Cut} s.world q (numbered s.world.requests q)).closes) d.requests
    ∙ all_kept s.requests (expires {A = Applied} {C = Cut} s.world q (numbered s.world.requests q)).closes)

pub restart_plays : (old new : ItemWorld) (n : ℕ) (report : Report K2vRow) → Steps row_join words old.world new.world report (Restart n) → new.buckets ≡ old.buckets → new.requests ≡ ended_all old.requests report.lost →
    (r : Result ItemTold Memory) → IfOk r (λ told. told ≡ told_of report) → IfOk r (λ told. PlaysStep old new told (Restart n))
restart_plays old new n report steps buckets requests = step_plays old new (Restart n) report steps buckets (λ s choice d tells.
    requests ∙ ap (ended_all old.requests) tells.lost ∙ ap (λ rs. ended_all rs (effect s (record { step = Restart n; choice = choice })).lost) d.requests ∙ all_kept s.requests (effect s (record { step = Restart n; choice = choice })).lost)

pub step_overflows : (old : ItemWorld) (st : Step K2vRow) → WorldOverflows row_join words old.world st → OverflowsStep old st
step_overflows old st full s d = let no = full s.world d.world in record { choice = no.choice; lawful = no.lawful; lacks = λ fits. no.lacks fits.0 }
