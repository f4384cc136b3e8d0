use Rattle.std.proofs.Common.{◌≡◌, drop}
use Rattle.k2v_world.specs.Kept.{ended_all}
use Rattle.k2v_world.proofs.world.ItemWorld.end_all.Given as goal

abbrev pub invariant-loop-request : goal.invariant-loop-request
invariant-loop-request l = record {
  rest : l.self ≡ record l.initial.self { requests = l.self.requests };
  ended : ended_all l.self.requests (drop l.request-index l.fn.requests) ≡ ended_all l.initial.self.requests l.fn.requests;
}
