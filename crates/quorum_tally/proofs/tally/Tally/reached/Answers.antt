use Rattle.std.proofs.Common.{arith, ◌∙◌, ◌-◌, drop}
use Rattle.std.specs.Prelude.{◌↔◌, IsTrue}
use Rattle.std.specs.List.{All}
use Rattle.std.proofs.lemmas.List.{take_rest}
use Rattle.quorum_tally.specs.Marks.{has_two}
use Rattle.quorum_tally.proofs.Counting.{all_from_each, later_sets, none_later}
use Rattle.quorum_tally.proofs.tally.Tally.reached.Goals as goal

pub returns-then-skipped-len : goal.returns-then-skipped-len
returns-then-skipped-len c first sets nodes t =
    rw (← t.version, ← t.sets_of) (none_later nodes (c.args.from - c.args.self.now.first) c.args.self.now.slots.items (omega arith))

pub returns : goal.returns
returns c first sets nodes t =
    let items = c.args.self.now.slots.items in
    let n = c.args.from - c.args.self.now.first in
    let each : IsTrue c.each_has_two.result ↔ All (λ s. IsTrue (has_two s)) (drop n items) = rw (take_rest, c.deref.ensures.value, c.saturating_sub-skipped.ensures) at c.each_has_two.ensures in
    rw (← t.version, ← t.sets_of) (all_from_each c.each_has_two.result (drop n items) each ∙ later_sets nodes n items (omega arith) t.marks)
