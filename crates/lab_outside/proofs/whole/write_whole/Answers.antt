use Rattle.std.proofs.Common.{◌∙◌}
use Rattle.std.proofs.lemmas.List.{take_rest}
use Rattle.lab_outside.proofs.Bytes.{written_more}
use Rattle.lab_outside.proofs.whole.write_whole.Goals as goal

pub loop-rest-preserved : goal.loop-rest-preserved
loop-rest-preserved g c =
    record {
      written =
          rw take_rest
          (written_more (g.O.Sink.written c.args.output.now) (g.O.Sink.written c.loop-rest.output) (g.O.Sink.written c.write.new.self) c.args.bytes.now c.loop-rest.rest.now c.in_ok-count.count c.loop-rest.invariant.written c.in_ok-count.ensures.bytes);
      steady = c.in_ok-count.ensures.steady ∙ c.loop-rest.invariant.steady;
    }
