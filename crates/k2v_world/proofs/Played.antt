-- An event, from what its call did.
use Rattle.std.proofs.Common.{◌≡◌, ℕ, Result, Ok, Err, IfOk, ◌⊎◌, inl, inr, sym, ap, ◌∙◌, subst}
use Rattle.std.specs.Prelude.{IfErr}
use Rattle.crdt_core.specs.declared.memory.Memory.{Memory}
use Rattle.cluster_machine.specs.declared.step.Step.TheVariants as step
use Rattle.cluster_machine.specs.Worlds.{HaveRoom}
use Rattle.store_model.specs.declared.event.Event.{Event}
use Rattle.store_model.specs.declared.event.Event.TheVariants.{Apply}
use Rattle.k2v_rows.specs.Row.{row_join}
use Rattle.k2v_schema.specs.Schema.{words}
use Rattle.k2v_model.specs.declared.order.Order.{Order}
use Rattle.k2v_model.specs.Run.{State, Outcome, silent, begins}
use Rattle.k2v_model.specs.Acts.{Act, asks, drain, acted, IsLawfulAct}
use Rattle.k2v_text.specs.declared.event.ItemEvent.{ItemEvent}
use Rattle.k2v_text.specs.declared.event.ItemEvent.TheVariants.{Common}
use Rattle.k2v_text.specs.declared.event.ItemTold.{ItemTold}
use Rattle.k2v_text.specs.Events.{act_of, common_act}
use Rattle.world_core.specs.Stands.{nothing_given}
use Rattle.k2v_world.specs.declared.world.ItemWorld.{ItemWorld}
use Rattle.k2v_world.specs.Stands.{Does, Plays, Overflows, PlaysStep, OverflowsStep, PlaysEvent, OverflowsEvent}
use Rattle.k2v_world.proofs.Causes.{Comes, same_causes}

-- an event that is this act, which may always happen
module _ (old new : ItemWorld) (event : ItemEvent) (f : State → Outcome) (lawful : (s : State) → IsLawfulAct s (act_of event nothing_given)) (same : (s : State) → acted s (act_of event nothing_given) ≡ f s) where
  pub event_plays : (r : Result ItemTold Memory) → IfOk r (λ told. Plays old new told f) → IfOk r (λ told. PlaysEvent old new told event)
  event_plays (Err e) h = tt
  event_plays (Ok told) h = λ s d. record { choice = nothing_given; lawful = lawful s; does = subst (λ (o : Outcome). Does new told s o) (sym (same s)) (h s d) }

  pub event_overflows : (r : Result ItemTold Memory) → IfErr r (λ e. Comes e (Overflows old f)) → IfErr r (λ e. Comes e (OverflowsEvent old event))
  event_overflows r h = same_causes r (λ full s d. record { choice = nothing_given; lawful = lawful s; lacks = λ fits. full s d (subst (λ (o : Outcome). HaveRoom row_join words s.world o.moves) (same s) fits) }) h

-- a request of a schedule is the one that was made of it
module _ (old new : ItemWorld) (event : ItemEvent) (node : ℕ) (o wanted : Order) (is : o ≡ wanted) (act : act_of event nothing_given ≡ asks node wanted) where
  lawful : (s : State) → IsLawfulAct s (act_of event nothing_given)
  lawful s = subst (IsLawfulAct s) (sym act) tt

  same : (s : State) → acted s (act_of event nothing_given) ≡ begins s node o
  same s = ap (acted s) act ∙ ap (begins s node) (sym is)

  pub order_plays : (r : Result ItemTold Memory) → IfOk r (λ told. Plays old new told (λ s. begins s node o)) → IfOk r (λ told. PlaysEvent old new told event)
  order_plays r h = event_plays old new event (λ s. begins s node o) lawful same r h

  pub order_overflows : (r : Result ItemTold Memory) → IfErr r (λ e. Comes e (Overflows old (λ s. begins s node o))) → IfErr r (λ e. Comes e (OverflowsEvent old event))
  order_overflows r h = event_overflows old new event (λ s. begins s node o) lawful same r h

-- an apply is given what its step was
module _ (old new : ItemWorld) (node : ℕ) where
  pub apply_plays : (r : Result ItemTold Memory) → IfOk r (λ told. PlaysStep old new told (step.Apply node)) → IfOk r (λ told. PlaysEvent old new told (Common (Apply node)))
  apply_plays (Err e) h = tt
  apply_plays (Ok told) h = λ s d. let did = h s d in record { choice = did.choice; lawful = (tt, tt, did.lawful); does = did.does }

  pub apply_overflows : (r : Result ItemTold Memory) → IfErr r (λ e. Comes e (OverflowsStep old (step.Apply node))) → IfErr r (λ e. Comes e (OverflowsEvent old (Common (Apply node))))
  apply_overflows r h = same_causes r (λ full s d. let no = full s d in record { choice = no.choice; lawful = (tt, tt, no.lawful); lacks = no.lacks }) h

-- one of two
pub either : {A B P : Type 0} → A ⊎ B → (A → P) → (B → P) → P
either (inl a) f g = f a
either (inr b) f g = g b

-- an event that does nothing
pub nothing_plays : (old : ItemWorld) (event : Event) (told : ItemTold) → common_act event nothing_given ≡ drain 0 → Plays old old told silent → PlaysEvent old old told (Common event)
nothing_plays old event told act h = λ s d. record {
  choice = nothing_given;
  lawful = subst (IsLawfulAct s) (sym act) tt;
  does = subst (λ (a : Act). Does old told s (acted s a)) (sym act) (h s d);
}
