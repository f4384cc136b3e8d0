use Rattle.std.proofs.Common.{arith, subst, sym}
use Rattle.std.proofs.lemmas.Grind.{common_steps}
use Rattle.lab_outside.specs.SureConnection.{AreFresh}
use Rattle.lab_outside.proofs.Connections.{fresh_more, left_more}
use Rattle.lab_outside.proofs.sure_link.SureLink.new.Goals as goal

pub loop-bytes-preserved : goal.loop-bytes-preserved
loop-bytes-preserved c =
    record {
      coming = left_more (λ bytes. bytes.items) c.loop-bytes.coming.items c.push_back.new.self.items c.in_ok-new.field-0 c.loop-bytes.yielded c.in-Some.bytes c.loop-bytes.invariant.coming c.in_ok-push_back.ensures.items c.in_ok-new.ensures.left;
      count = grind (arith, common_steps);
      fresh = subst AreFresh (sym c.in_ok-push_back.ensures.items) (fresh_more c.loop-bytes.coming.items c.in_ok-new.field-0 c.loop-bytes.invariant.fresh c.in_ok-new.ensures.written);
    }

pub invariant_of-result-clause-room : goal.invariant_of-result-clause-room
invariant_of-result-clause-room c = omega (arith, c.loop-bytes.invariant.count, c.in_ok-past.ensures.exact, c.in_ok-past.ensures.len, c.len.ensures)

pub invariant_of-result-clause-fresh : goal.invariant_of-result-clause-fresh
invariant_of-result-clause-fresh c = c.loop-bytes.invariant.fresh
