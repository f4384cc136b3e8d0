-- A workload collects nothing.
use Rattle.std.proofs.Common.{◌≡◌, ℕ, List, [], ◌∷◌, inl, sym, subst}
use Rattle.cluster_machine.specs.Choices.{Decision}
use Rattle.store_model.specs.declared.event.Event.{Event}
use Rattle.store_model.specs.declared.event.Event.TheVariants as event
use Rattle.store_model.specs.Events.{Turn, act_of, acts_of, events_of}
use Rattle.store_laws.specs.Hashed.{IsOtherAct, NeverCollect, CollectsSafely}
use Rattle.workload.specs.Schedule.{schedule}
use Rattle.workload.proofs.Others.{IsOther, AreOther, schedule_is_other}

event_other : (e : Event) (choice : Decision) → IsOther e → IsOtherAct (act_of e choice)
event_other (event.Collect n) choice h = absurd h
event_other e choice h = tt

turns_other : (turns : List Turn) → AreOther (events_of turns) → NeverCollect (acts_of turns)
turns_other [] h = tt
turns_other (t ∷ turns) h = (event_other t.numbered.event t.choice h.0, turns_other turns h.1)

pub collects_safely : (turns : List Turn) (count seed : ℕ) → events_of turns ≡ schedule count seed → CollectsSafely (acts_of turns)
collects_safely turns count seed is = inl (turns_other turns (subst AreOther (sym is) (schedule_is_other count seed)))
