use Rattle.std.proofs.Common.{◌≡◌, ◌++◌, drop}
use Rattle.node_parts.specs.Collects.{gone_from}
use Rattle.node_parts.proofs.collector.Collector.gone.Given as goal

-- the numbers of those that are left stand behind those so far
abbrev pub invariant-loop-collection : goal.invariant-loop-collection
invariant-loop-collection g l =
    l.gone.items ++ gone_from g.S.Row.Crdt.join g.S.Schema.words l.contents (drop l.collection-index l.all) ≡ gone_from g.S.Row.Crdt.join g.S.Schema.words l.contents l.all
