use Rattle.std.specs.Prelude.{ℕ, IsTrue}
use Rattle.cluster_machine.specs.Run.{does}
use Rattle.receiver_laws.proofs.Steps.{applied_places, step_places}
use Rattle.receiver_laws.proofs.worlds_name_places.Goals as goal

pub returns-clause-empty : goal.returns-clause-empty
returns-clause-empty g c is_place k = record { nodes = λ n. record { layouts = tt; round = tt; mending = tt; lasting = tt }; messages = tt; requests = tt; roles = tt }

pub returns-clause-stepped : goal.returns-clause-stepped
returns-clause-stepped g c is_place join s k trio trio_roles w m all first staging step choice h =
    let IsPlace : ℕ → Type 0 = λ n. IsTrue (is_place n) in
    applied_places k IsPlace w (does join s k trio trio_roles w m) h (step_places join s k trio trio_roles IsPlace all first staging w h m.step m.choice step choice)
