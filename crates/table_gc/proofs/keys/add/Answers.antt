use Rattle.std.specs.Prelude.{◌≡◌, ◌++◌, ◌∷◌, ℕ, List, [], Some, is_some}
use Rattle.std.specs.Global.{Vec}
use Rattle.std.specs.Map.{lookup}
use Rattle.std.specs.BTreeMap.{is_at}
use Rattle.std.specs.Ordering.{nat_cmp}
use Rattle.std.specs.Cmp.Lexicographic.{slice_cmp}
use Rattle.std.proofs.Common.{ap, sym, subst, ◌∙◌}
use Rattle.table_gc.specs.Keys.{Adds, numbers_in, numbers_at}
use Rattle.table_gc.proofs.Numbering.{on_err}
use Rattle.table_gc.proofs.Keyed.{numbers_changed, numbers_same}
use Rattle.table_gc.proofs.keys.add.Goals as goal

-- ---- the key has numbers

pub returns-in_err-push-clause-err : goal.returns-in_err-push-clause-err
returns-in_err-push-clause-err c =
    let there = sym c.in-Some.ensures.value in
    let later = c.get_mut.follows.lender c.push.new.self in
    let same : (other : List ℕ) → numbers_at other later ≡ numbers_at other c.args.keys.now =
    numbers_same c.as_slice.result.now c.args.keys.now later (Some c.push.new.self) ((c.get_mut.follows.holds c.push.new.self).3 (ap is_some there)) (c.in_err-push.ensures.items ∙ ap numbers_in (sym there)) in
    on_err c.from_residual.result same

pub returns-in-Some-clause-ok : goal.returns-in-Some-clause-ok
returns-in-Some-clause-ok c =
    let there = sym c.in-Some.ensures.value in
    let later = c.get_mut.follows.lender c.push.new.self in
    subst (λ key. Adds key c.args.number c.args.keys.now later) c.as_slice.ensures.value
    (numbers_changed c.as_slice.result.now c.args.keys.now later (Some c.push.new.self) ((c.get_mut.follows.holds c.push.new.self).3 (ap is_some there))
    (λ ns. ns ++ c.args.number ∷ []) (c.in_ok-push.ensures.items ∙ ap (λ o. numbers_in o ++ c.args.number ∷ []) (sym there)))

-- ---- it has none yet

pub returns-in_err-push-2-clause-err : goal.returns-in_err-push-2-clause-err
returns-in_err-push-2-clause-err c =
    let same : (other : List ℕ) → numbers_at other c.get_mut.follows.lender-at-none ≡ numbers_at other c.args.keys.now = λ other. ap (numbers_at other) c.get_mut.follows.holds-at-none in
    on_err c.from_residual-in_err-push-2.result same

pub returns-in_err-insert-clause-err : goal.returns-in_err-insert-clause-err
returns-in_err-insert-clause-err c =
    let same : (other : List ℕ) → numbers_at other c.insert.new.self ≡ numbers_at other c.args.keys.now =
    λ other. ap (λ es. numbers_in (lookup (is_at (λ (k : Vec ℕ). slice_cmp nat_cmp other k.items)) es)) c.in_err-insert.ensures.err ∙ ap (numbers_at other) c.get_mut.follows.holds-at-none in
    on_err c.from_residual-in_err-insert.result same

pub returns-clause-ok : goal.returns-clause-ok
returns-clause-ok c =
    let mid = c.get_mut.follows.lender-at-none in
    let none : numbers_at c.args.key.items c.args.keys.now ≡ [] = ap numbers_in (sym (rw c.as_slice.ensures.value at c.in_default.ensures.value)) in
    let none_yet : numbers_at c.args.key.items mid ≡ [] = ap (numbers_at c.args.key.items) c.get_mut.follows.holds-at-none ∙ none in
    subst (λ m. Adds c.args.key.items c.args.number m c.insert.new.self) c.get_mut.follows.holds-at-none
    (numbers_changed c.args.key.items mid c.insert.new.self (Some c.push-2.new.self) c.in_ok-insert.ensures.updates
    (λ ns. ns ++ c.args.number ∷ []) (c.in_ok-push-2.ensures.items ∙ ap (λ ns. ns ++ c.args.number ∷ []) (c.new-numbers.ensures.items ∙ sym none_yet)))
