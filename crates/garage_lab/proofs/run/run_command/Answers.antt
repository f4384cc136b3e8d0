use Rattle.std.proofs.Common.{refl, subst}
use Rattle.garage_lab.specs.Command.{IsInRange}
use Rattle.garage_lab.proofs.Running.{unlinked_no_usage, workload_no_usage}
use Rattle.garage_lab.proofs.run.run_command.Goals as goal

pub run_workload-requires : goal.run_workload-requires
run_workload-requires g c = record { few = subst IsInRange c.in-Workload.is c.requires.in_range }

pub returns-in-Layout-clause-does : goal.returns-in-Layout-clause-does
returns-in-Layout-clause-does g c = rw c.in-Layout.is (c.run_layout.ensures, refl, refl)

pub returns-in-Layout-clause-no_usage : goal.returns-in-Layout-clause-no_usage
returns-in-Layout-clause-no_usage g c = unlinked_no_usage c.run_layout.result c.run_layout.ensures.statuses

pub returns-in-Moves-clause-does : goal.returns-in-Moves-clause-does
returns-in-Moves-clause-does g c = rw c.in-Moves.is (c.run_layout-in-Moves.ensures, refl, refl)

pub returns-in-Moves-clause-no_usage : goal.returns-in-Moves-clause-no_usage
returns-in-Moves-clause-no_usage g c = unlinked_no_usage c.run_layout-in-Moves.result c.run_layout-in-Moves.ensures.statuses

pub returns-in-Replay-clause-does : goal.returns-in-Replay-clause-does
returns-in-Replay-clause-does g c = rw c.in-Replay.is (c.run_replay.ensures, refl, refl)

pub returns-in-Replay-clause-no_usage : goal.returns-in-Replay-clause-no_usage
returns-in-Replay-clause-no_usage g c = unlinked_no_usage c.run_replay.result c.run_replay.ensures.statuses

pub returns-in-Check-clause-does : goal.returns-in-Check-clause-does
returns-in-Check-clause-does g c = rw c.in-Check.is (c.run_replay-in-Check.ensures, refl, refl)

pub returns-in-Check-clause-no_usage : goal.returns-in-Check-clause-no_usage
returns-in-Check-clause-no_usage g c = unlinked_no_usage c.run_replay-in-Check.result c.run_replay-in-Check.ensures.statuses

pub returns-in-Audit-clause-does : goal.returns-in-Audit-clause-does
returns-in-Audit-clause-does g c = rw c.in-Audit.is (c.run_audit.ensures, refl, refl)

pub returns-in-Audit-clause-no_usage : goal.returns-in-Audit-clause-no_usage
returns-in-Audit-clause-no_usage g c = unlinked_no_usage c.run_audit.result c.run_audit.ensures.statuses

pub returns-in-Items-clause-does : goal.returns-in-Items-clause-does
returns-in-Items-clause-does g c = rw c.in-Items.is (c.k2v.ensures, refl, refl)

pub returns-in-Items-clause-no_usage : goal.returns-in-Items-clause-no_usage
returns-in-Items-clause-no_usage g c = unlinked_no_usage c.k2v.result c.k2v.ensures.statuses

pub returns-in-Workload-clause-does : goal.returns-in-Workload-clause-does
returns-in-Workload-clause-does g c = rw c.in-Workload.is (c.run_workload.ensures, refl, refl, refl)

pub returns-in-Workload-clause-no_usage : goal.returns-in-Workload-clause-no_usage
returns-in-Workload-clause-no_usage g c = workload_no_usage c.run_workload.result c.run_workload.ensures.statuses

pub returns-in-Serve-clause-does : goal.returns-in-Serve-clause-does
returns-in-Serve-clause-does g c = rw c.in-Serve.is c.run_server.ensures.serves
