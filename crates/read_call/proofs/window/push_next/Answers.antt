use Rattle.std.proofs.Common.{◌≡◌, sym, subst, ◌∙◌, ◌++◌, ◌+◌, drop}
use Rattle.crdt_core.specs.Entries.{merged}
use Rattle.quorum_model.specs.Window.{key_cmp, keyed, rows_within}
use Rattle.read_call.specs.Walk.{from_next}
use Rattle.read_call.proofs.Walking.{met_left}
use Rattle.read_call.proofs.window.push_next.Goals as goal

pub returns-in-true-false-clause-next : goal.returns-in-true-false-clause-next
returns-in-true-false-clause-next g c s end key ys e =
    let xs = c.args.first.now in
    let rows = c.args.rows.now.items in
    let n = c.args.passed.count in
    subst (λ b. rows ++ rows_within end (merged key_cmp g.R.Crdt.join (keyed s (drop (n + 1) xs)) ys) ≡ rows ++ rows_within end (from_next g.R.Crdt.join s b (drop n xs) key c.args.row ys)) (sym c.in-true-false.is-0)
    (met_left s g.R.Crdt.join end key c.args.row ys xs n rows (c.requires.met c.in-true-false.is-0) (sym c.in-true-false.is-1 ∙ e))
