-- Worlds that name places alone, and the moments at which their requests began: one for each, and none to come.
use Rattle.std.proofs.Common.{◌≡◌, ◌≤◌, ◌+◌, ℕ, zero, suc, Some, List, [], ◌∷◌, ◌++◌, length, map, arith}
use Rattle.std.specs.List.{AllByRecursion}
use Rattle.std.proofs.lemmas.List.{length-append, length-map}
use Rattle.crdt_core.proofs.Each.{all_append, all_weaker}
use Rattle.crdt_rows.specs.declared.any_row.AnyRow.{AnyRow}
use Rattle.crdt_rows.specs.AnyRow.{any_join}
use Rattle.object_schema.specs.Schema.{words}
use Rattle.cluster_machine.specs.Layouts.{layouts}
use Rattle.cluster_machine.specs.World.{Request, numbered}
use Rattle.cluster_machine.specs.Step.{shut}
use Rattle.cluster_machine.specs.Worlds.{Done as Effect, does, next}
use Rattle.cluster_machine.proofs.Closing.{length_shut}
use Rattle.machine_origins.proofs.Places.{numbered_within, numbered_there}
use Rattle.machine_collects.specs.Prompt.{moments_after}
use Rattle.receiver_laws.specs.Places.{StepNames, ChoiceNames, WorldNames}
use Rattle.store_model.specs.Run.{World, Moving}
use Rattle.prompt_laws.proofs.Places.{IsPlace}

-- what receiver_laws says of a step
abbrev pub NamesStay : Type 0
NamesStay = (w : World) (m : Moving) → StepNames IsPlace m.step → ChoiceNames IsPlace layouts m.choice → WorldNames IsPlace layouts w → WorldNames IsPlace layouts (next any_join words w m)

pub record IsTimed (moments : List ℕ) (w : World) : Type 0 where
  pub names : WorldNames IsPlace layouts w
  pub counts : length moments ≡ length w.requests
  pub past : AllByRecursion (λ t. t ≤ w.time) moments

all_now : (time later : ℕ) (opens : List Request) → time ≤ later → AllByRecursion (λ t. t ≤ later) (map (λ (r : Request). time) opens)
all_now time later [] low = tt
all_now time later (r ∷ rs) low = (low, all_now time later rs low)

pub timed_next : NamesStay → (moments : List ℕ) (w : World) (m : Moving) → StepNames IsPlace m.step → ChoiceNames IsPlace layouts m.choice → IsTimed moments w →
    IsTimed (moments_after moments w (does any_join words w m)) (next any_join words w m)
timed_next stays moments w m step choice h =
    let e : Effect AnyRow = does any_join words w m in
    let new : List ℕ = map (λ (r : Request). w.time) e.opens in
    let grew : length (moments ++ new) ≡ length moments + length new = length-append moments new in
    let as_many : length new ≡ length e.opens = length-map e.opens (λ (r : Request). w.time) in
    let opens : length (shut w.requests e.closes ++ e.opens) ≡ length (shut w.requests e.closes) + length e.opens = length-append (shut w.requests e.closes) e.opens in
    let stay : length (shut w.requests e.closes) ≡ length w.requests = length_shut w.requests e.closes in
    let before = h.counts in
    record {
      names = stays w m step choice h.names;
      counts = omega (arith, grew, as_many, opens, stay, before);
      past = all_append (λ t. t ≤ w.time + e.passes) moments new (all_weaker (λ t. t ≤ w.time) (λ t. t ≤ w.time + e.passes) (λ t low. omega (arith, low)) moments h.past) (all_now w.time (w.time + e.passes) e.opens (omega arith));
    }

-- the moment of a request
pub moment_at : (moments : List ℕ) (requests : List Request) (q : ℕ) (r : Request) → length moments ≡ length requests → numbered requests q ≡ Some r → (began : ℕ) × (numbered moments q ≡ Some began)
moment_at moments requests zero r same is = absurd cc
moment_at moments requests (suc i) r same is = let within = numbered_within requests (suc i) r is in numbered_there moments (suc i) (omega arith) (omega (arith, within, same))
