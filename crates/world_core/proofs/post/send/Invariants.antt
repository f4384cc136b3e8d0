use Rattle.std.proofs.Common.{◌≡◌, ◌+◌, suc, ◌++◌, length}
use Rattle.world_core.specs.Parts.{lines_from}
use Rattle.world_core.proofs.PostsSent.{Sends}
use Rattle.world_core.proofs.post.send.Given as goal

abbrev pub invariant-loop-envelope : goal.invariant-loop-envelope
invariant-loop-envelope g l = record {
  rest : l.yielded ++ l.envelope-iterator.rest.items ≡ l.fn.envelopes.items;
  sent : Sends g.S.Schema.words l.fn.post l.post l.yielded;
  told : l.lines ≡ l.fn.lines ++ lines_from (suc l.fn.post.sent) l.yielded;
  many : l.post.sent ≡ l.fn.post.sent + length l.yielded;
}
