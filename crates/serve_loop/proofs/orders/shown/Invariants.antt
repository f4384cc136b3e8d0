use Rattle.std.proofs.Common.{◌≡◌, ◌++◌, drop}
use Rattle.std.specs.List.{filter}
use Rattle.serve_model.specs.Keys.{may_read}
use Rattle.serve_loop.proofs.orders.shown.Given as goal

abbrev pub invariant-loop-name : goal.invariant-loop-name
invariant-loop-name l =
    l.shown ++ filter (may_read l.buckets.access l.who) (drop l.name-index l.buckets.names) ≡ filter (may_read l.buckets.access l.who) l.buckets.names
