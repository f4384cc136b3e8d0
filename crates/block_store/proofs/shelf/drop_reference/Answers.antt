use Rattle.std.proofs.Common.{◌≡◌, false, true, sym, ap, ◌∙◌, arith}
use Rattle.std.specs.Prelude.{◌==◌}
use Rattle.block_store.specs.Shelf.{contents_of}
use Rattle.block_store.proofs.Steps.{count_absent, count_found, last_dead, other_dead}
use Rattle.block_store.proofs.shelf.drop_reference.Goals as goal

pub overflow_sub-kept : goal.overflow_sub-kept
overflow_sub-kept c =
    let count = count_found c.args.hash.now c.in-Some.kept.now c.args.shelf.now.entries c.requires.ordered (sym c.in-Some.ensures.value) in
    omega (arith, count, c.requires.live)

pub returns-then-kept-gt0-clause-last : goal.returns-then-kept-gt0-clause-last
returns-then-kept-gt0-clause-last c =
    let count = count_found c.args.hash.now c.in-Some.kept.now c.args.shelf.now.entries c.requires.ordered (sym c.in-Some.ensures.value) in
    let more : false ≡ (c.in-Some.kept.now.count == 1) = grind (arith, c.if-kept-gt0.true) in
    more ∙ ap (λ k. k == 1) (sym count)

pub returns-then-kept-gt0-clause-told : goal.returns-then-kept-gt0-clause-told
returns-then-kept-gt0-clause-told c =
    let found = sym c.in-Some.ensures.value in
    let count = count_found c.args.hash.now c.in-Some.kept.now c.args.shelf.now.entries c.requires.ordered found in
    ap contents_of (c.get_mut.follows.holds _).0
    ∙ other_dead c.args.hash.now c.args.now c.in-Some.kept.now c.args.shelf.now.entries c.requires.ordered found (omega (arith, count, c.requires.live)) (omega (arith, c.if-kept-gt0.true))

pub returns-clause-last : goal.returns-clause-last
returns-clause-last c =
    let count = count_found c.args.hash.now c.in-Some.kept.now c.args.shelf.now.entries c.requires.ordered (sym c.in-Some.ensures.value) in
    let one : true ≡ (c.in-Some.kept.now.count == 1) = grind (arith, c.if-kept-gt0.false, count, c.requires.live) in
    one ∙ ap (λ k. k == 1) (sym count)

pub returns-clause-told : goal.returns-clause-told
returns-clause-told c =
    let found = sym c.in-Some.ensures.value in
    let count = count_found c.args.hash.now c.in-Some.kept.now c.args.shelf.now.entries c.requires.ordered found in
    ap contents_of (c.get_mut.follows.holds _).0
    ∙ last_dead c.args.hash.now c.args.now c.in-Some.kept.now c.args.shelf.now.entries c.requires.ordered found (omega (arith, count, c.requires.live)) (omega (arith, c.if-kept-gt0.false))

pub returns-in_default-clause-last : goal.returns-in_default-clause-last
returns-in_default-clause-last c =
    let none = count_absent c.args.hash.now c.args.shelf.now.entries c.requires.ordered (sym c.in_default.ensures.value) in
    absurd (omega (arith, none, c.requires.live))

pub returns-in_default-clause-told : goal.returns-in_default-clause-told
returns-in_default-clause-told c =
    let none = count_absent c.args.hash.now c.args.shelf.now.entries c.requires.ordered (sym c.in_default.ensures.value) in
    absurd (omega (arith, none, c.requires.live))
