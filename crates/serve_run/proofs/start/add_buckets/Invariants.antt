use Rattle.std.proofs.Common.{drop}
use Rattle.s3_world.specs.Stands.{HasStore}
use Rattle.serve_run.proofs.Opening.{AllLead}
use Rattle.serve_run.proofs.start.add_buckets.Given as goal

abbrev pub invariant-loop-name : goal.invariant-loop-name
invariant-loop-name l = record { stands : HasStore l.world; all : AllLead l.fn.world l.world (drop l.name-index l.names) l.names }
