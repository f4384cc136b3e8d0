-- What may happen in a run, and the run of a list of it.
use Rattle.std.specs.Prelude.{◌≡◌, ◌≤◌, ◌==◌, ◌^◌, ◌-◌, ℕ, ⊤, cond, length, Option, Some, None, IsSome, List, [], ◌∷◌, ◌++◌, map}
use Rattle.crdt_rows.specs.declared.any_row.AnyRow.{AnyRow}
use Rattle.crdt_rows.specs.AnyRow.{any_join}
use Rattle.layout_roles.specs.declared.layout.Layout.{Layout}
use Rattle.object_schema.specs.Schema.{words}
use Rattle.cluster_machine.specs.declared.step.Step.{Step}
use Rattle.cluster_machine.specs.declared.step.Step.TheVariants.{Deliver, Expire, Restart, Open, Phase, Close}
use Rattle.cluster_machine.specs.World.{forget_delivered}
use Rattle.cluster_machine.specs.Choices.{IsFirst}
use Rattle.cluster_machine.specs.Worlds.{Done as Effect, IsMeant, IsLawful, FitAll, installed}
use Rattle.history_model.specs.declared.record.Cause.TheVariants.{Expired, Restarted}
use Rattle.history_model.specs.declared.record.Record.{Record}
use Rattle.history_model.specs.declared.record.Record.TheVariants.{Ended}
use Rattle.flow_model.specs.declared.order.Order.{Order}
use Rattle.flow_model.specs.declared.order.Order.TheVariants as order
use Rattle.flow_model.specs.declared.flow.FlowEnd.{FlowEnd}
use Rattle.flow_model.specs.Blocks.{inline_limit}
use Rattle.store_model.specs.Run.{Moving, State, Outcome, silent, effect, doing, begins, delivers, drains, need_at, feeding, keeping, giving_up}

-- a step of the world, a first layout put into the views of its nodes, a request at a node, a delivery, deliveries up to a number, that delivered messages are forgotten, that the end of a request is taken, a bucket, a size of blocks, or what the client of a streamed upload does: a block comes, it is kept, or it is given up
pub data Act : Type 0 where
  moves : Moving → Act
  installs : Layout → Act
  asks : ℕ → Order → Act
  delivery : ℕ → Act
  drain : ℕ → Act
  forgets : Act
  takes : ℕ → Act
  adds : List ℕ → Act
  cuts : ℕ → Act
  feeds : ℕ → List ℕ → Act
  keeps : ℕ → Act
  gives_up : ℕ → Act

-- what the history has of requests that end by a step of the world
abbrev pub endings : Step AnyRow → Effect AnyRow → List Record
endings (Expire q) e = map (λ q. Ended q Expired) e.closes
endings (Restart n) e = map (λ q. Ended q Restarted) e.lost
endings st e = []

-- one step and its lines are all
abbrev pub plain : State → Moving → Outcome
plain s m =
    let e = effect s m in
    record { state = record (doing s m) { history = s.history ++ endings m.step e }; moves = m ∷ []; new_versions = []; refused = e.refused; words = e.words; lines = e.tells }

-- how request q ended by itself, if that wasn't taken
abbrev pub end_of : List (ℕ × FlowEnd) → ℕ → Option FlowEnd
end_of [] q = None
end_of (e ∷ es) q = cond (e.0 == q) (Some e.1) (end_of es q)

-- the ends of requests without that of request q
abbrev pub without_end : List (ℕ × FlowEnd) → ℕ → List (ℕ × FlowEnd)
without_end [] q = []
without_end (e ∷ es) q = cond (e.0 == q) es (e ∷ without_end es q)

-- as many deliveries as messages can have numbers: where so many are asked for, all messages are delivered
unfoldable pub all_messages : ℕ
all_messages = 2 ^ 64 - 1

-- what comes of an act
abbrev pub acted : State → Act → Outcome
acted s (moves m) = plain s m
acted s (installs first) = silent (record s { world = installed any_join words s.world first })
acted s (asks n order) = begins s n order
acted s (delivery m) = delivers s m
acted s (drain n) = drains n s
acted s forgets = silent (record s { world = forget_delivered s.world })
acted s (takes q) = silent (record s { ends = without_end s.ends q })
acted s (adds name) = silent (record s { buckets = s.buckets ++ name ∷ [] })
acted s (cuts block) = silent (record s { block = block })
acted s (feeds q bytes) = feeding s q bytes
acted s (keeps q) = keeping s q
acted s (gives_up q) = giving_up s q

-- the state after acts in order
abbrev pub after_acts : State → List Act → State
after_acts s [] = s
after_acts s (a ∷ as') = after_acts (acted s a).state as'

-- requests begin, go on and finish by themselves, and a delivery is an act of its own: no other step of the world is one of theirs
abbrev pub IsOuter : Step AnyRow → Type 0
IsOuter (Deliver m) = ⊥
IsOuter (Open n) = ⊥
IsOuter (Phase q phase) = ⊥
IsOuter (Close q) = ⊥
IsOuter st = ⊤

-- an object that is written has a key of a byte at least, and one that is streamed bytes that are kept in blocks
abbrev pub HasKey : Order → Type 0
HasKey (order.Put bucket key body headers) = 1 ≤ length key
HasKey (order.Stream bucket key announced headers) = (1 ≤ length key) × (inline_limit ≤ announced)
HasKey (order.Delete bucket key) = 1 ≤ length key
HasKey (order.Copy from_bucket from_key bucket key headers) = 1 ≤ length key
HasKey other = ⊤

-- the act may happen: a step of the world meets its conditions and is given what is lawful, a layout that is installed is a greatest one of version 1, before any version was applied, what is written has a key, and the client of a streamed upload does what this needs, or gives it up while it needs something
abbrev pub IsLawfulAct : State → Act → Type 0
IsLawfulAct s (moves m) = IsOuter m.step × IsMeant m.step × IsLawful s.world m
IsLawfulAct s (installs first) = IsFirst first × (s.world.applied ≡ 0)
IsLawfulAct s (asks n order) = HasKey order
IsLawfulAct s (feeds q bytes) = (need_at s q ≡ Some (length bytes)) × (1 ≤ length bytes)
IsLawfulAct s (keeps q) = need_at s q ≡ Some 0
IsLawfulAct s (gives_up q) = IsSome (need_at s q)
IsLawfulAct s a = ⊤

-- each of these acts may happen when it does
abbrev pub AreLawfulActs : State → List Act → Type 0
AreLawfulActs s [] = ⊤
AreLawfulActs s (a ∷ as') = IsLawfulAct s a × AreLawfulActs (acted s a).state as'

-- after each step of the world every number fits, and every row that is sent has a spelling
abbrev pub ActsFit : State → List Act → Type 0
ActsFit s [] = ⊤
ActsFit s (a ∷ as') = FitAll any_join words s.world (acted s a).moves × ActsFit (acted s a).state as'
