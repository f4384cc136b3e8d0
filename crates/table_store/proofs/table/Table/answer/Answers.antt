use Rattle.std.specs.Prelude.{◌≡◌, ◌++◌}
use Rattle.std.proofs.Common.{ap, sym, ◌∙◌, subst}
use Rattle.blake2_hash.specs.Blake2b.{blake2b}
use Rattle.table_model.specs.Rows.{rows_in}
use Rattle.table_model.specs.Top.{any_unspelled, pairs_of}
use Rattle.merkle_trie.specs.Keeping.{Keeps}
use Rattle.table_store.specs.Shelf.{shelf_rows}
use Rattle.table_store.specs.Whole.{rows_of_all}
use Rattle.table_store.proofs.Wholes.{part_three, passed_on}
use Rattle.table_store.proofs.table.Table.answer.Goals as goal

pub returns-in_err-settle_all-clause-causes : goal.returns-in_err-settle_all-clause-causes
returns-in_err-settle_all-clause-causes g c =
    let words = g.S.Schema.words in
    let inside = c.self.inside in
    let same = part_three words inside.first inside.second inside.third c.args.self.now c.partition-p.result c.self.invariant.sound c.self.view_is ∙ ap (λ p. any_unspelled words (rows_in words p c.args.self.now)) c.partition-p.ensures in
    passed_on c.from_residual.result c.in_err-settle_all.field-0.0 c.from_residual.ensures.1 c.in_err-settle_all.ensures.causes (λ any. sym same ∙ any)

pub returns-clause-tells : goal.returns-clause-tells
returns-clause-tells g c open-there =
    let words = g.S.Schema.words in
    let settled = c.settle_all.ensures in
    let all = rows_of_all c.settle_all.new.first c.settle_all.new.second c.settle_all.new.third in
    let rows : all ≡ c.args.self.now = (λ i. shelf_rows (settled.first.rows i) ++ (shelf_rows (settled.second.rows i) ++ shelf_rows (settled.third.rows i))) ∙ c.self.view_is in
    let pairs : pairs_of words c.args.table c.partition-p.result all ≡ pairs_of words c.args.table c.args.walk.now.partition c.args.self.now = (λ i. pairs_of words c.args.table (c.partition-p.ensures i) (rows i)) in
    c.in_ok-end.ensures.tells open-there (pairs_of words c.args.table c.args.walk.now.partition c.args.self.now) (subst (Keeps (blake2b 32) c.trie_of-trie.result.now) pairs c.trie_of-trie.ensures.keeps)

pub returns-clause-written : goal.returns-clause-written
returns-clause-written g c =
    let words = g.S.Schema.words in
    let inside = c.self.inside in
    let same = part_three words inside.first inside.second inside.third c.args.self.now c.partition-p.result c.self.invariant.sound c.self.view_is ∙ ap (λ p. any_unspelled words (rows_in words p c.args.self.now)) c.partition-p.ensures in
    sym same ∙ c.in_ok-settle_all.ensures.written
