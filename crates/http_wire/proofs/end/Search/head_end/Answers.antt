use Rattle.std.proofs.Common.{sym, ◌∙◌, arith}
use Rattle.http_wire.proofs.Searches.{search_steps, search_finds, search_ends}
use Rattle.http_wire.proofs.end.Search.head_end.Goals as goal

pub returns-then-ends_with_next-clause-end : goal.returns-then-ends_with_next-clause-end
returns-then-ends_with_next-clause-end c =
    sym (search_finds c.args.bytes.now c.bytes.self c.ends_with_next.new.self c.bytes.invariant c.ends_with_next.ensures.place (omega (arith, c.bytes-test.true, c.min-count.ensures, c.ends_with_next.ensures.place)) (sym c.ends_with_next.ensures.ends ∙ c.if-ends_with_next.true))

pub bytes-preserved : goal.bytes-preserved
bytes-preserved c =
    search_steps c.args.bytes.now c.bytes.self c.ends_with_next.new.self c.bytes.invariant c.ends_with_next.ensures.place (omega (arith, c.bytes-test.true, c.min-count.ensures, c.ends_with_next.ensures.place)) (sym c.ends_with_next.ensures.ends ∙ c.if-ends_with_next.false) c.ends_with_next.ensures.text

pub returns-clause-end : goal.returns-clause-end
returns-clause-end c = sym (search_ends c.args.bytes.now c.bytes.self c.bytes.invariant (omega (arith, c.bytes-test.false, c.min-count.ensures)))
