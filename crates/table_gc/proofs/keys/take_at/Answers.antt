use Rattle.std.specs.Prelude.{Some, is_some, ◌==◌, not}
use Rattle.std.specs.List.{filter}
use Rattle.std.proofs.Common.{ap, sym, ◌∙◌}
use Rattle.table_gc.specs.Keys.{numbers_in}
use Rattle.table_gc.proofs.Keyed.{numbers_changed}
use Rattle.table_gc.proofs.keys.take_at.Goals as goal

pub returns-in-Some : goal.returns-in-Some
returns-in-Some c =
    let there = sym c.in-Some.ensures.value in
    let later = c.get_mut.follows.lender c.take_out.new.numbers in
    numbers_changed c.args.key.now c.args.keys.now later (Some c.take_out.new.numbers) ((c.get_mut.follows.holds c.take_out.new.numbers).3 (ap is_some there))
    (filter (λ n. not (n == c.args.number))) (c.take_out.ensures ∙ ap (λ o. filter (λ n. not (n == c.args.number)) (numbers_in o)) (sym there))
