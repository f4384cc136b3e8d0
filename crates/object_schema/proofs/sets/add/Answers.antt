use Rattle.crdt_core.specs.Flag.{or_join}
use Rattle.object_schema.specs.Triggers.{up}
use Rattle.object_schema.proofs.SetLemmas.{keys_joined}
use Rattle.object_schema.proofs.sets.add.Goals as goal

pub returns-clause-ok : goal.returns-clause-ok
returns-clause-ok g c = keys_joined g.met.K.Ord.total or_join c.args.set.now c.join_at.new.self c.args.value up c.in_ok-join_at.ensures.joined
