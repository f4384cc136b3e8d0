use Rattle.std.proofs.Common.{subst, ◌∙◌, arith}
use Rattle.std.proofs.lemmas.Result.{on_ok_weaker}
use Rattle.wire_messages.specs.declared.message.Message.TheVariants.{Tomb}
use Rattle.cluster_machine.specs.Phases.{to_each}
use Rattle.node_parts.specs.Posts.{Posts}
use Rattle.node_parts.proofs.Faults.{not_pushed}
use Rattle.node_parts.proofs.collector.Collector.begin.Goals as goal

pub returns-in_err-number-clause-causes : goal.returns-in_err-number-clause-causes
returns-in_err-number-clause-causes g c = not_pushed c.from_residual-in_err-number.result c.in_err-number.field-0.0 c.args.gc.now.begun c.from_residual-in_err-number.ensures.1 c.in_err-number.ensures.refused (λ full. omega (arith, full))

pub returns-clause-begins : goal.returns-clause-begins
returns-clause-begins g c = on_ok_weaker c.ask.result (λ asks. record {
  gc_is = c.in_ok-number.ensures.ok;
  posts = subst (Posts c.args.self.node c.args.out.now.items c.ask.new.out.items)
      (λ i. to_each ((c.as_slice.ensures.value ∙ c.in_ok-others.ensures.are) i) (Tomb (c.in_ok-number.ensures.number i) 1 (c.in_ok-sent.ensures.same i))) asks;
}) c.ask.ensures.asks
