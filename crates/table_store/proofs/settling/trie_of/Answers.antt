use Rattle.std.proofs.Common.{ap, sym, ◌∙◌, subst, arith}
use Rattle.std.proofs.lemmas.Bool.{ne_eqb}
use Rattle.blake2_hash.specs.Blake2b.{blake2b}
use Rattle.table_model.specs.Top.{pairs_of}
use Rattle.merkle_trie.specs.Keeping.{Keeps}
use Rattle.table_store.specs.Whole.{rows_of_all}
use Rattle.table_store.proofs.PartitionRoots.{of_first, of_second, of_third, of_none}
use Rattle.table_store.proofs.settling.trie_of.Goals as goal

pub returns-in-1-clause-keeps : goal.returns-in-1-clause-keeps
returns-in-1-clause-keeps g c =
    let words = g.S.Schema.words in
    let first = c.args.first.now in
    let second = c.args.second.now in
    let third = c.args.third.now in
    let same = ap (λ table. pairs_of words table c.args.p (rows_of_all first second third)) c.in-1.is ∙ of_first words first.rows.entries second.rows.entries third.rows.entries c.requires.whole.sound c.args.p in
    subst (Keeps (blake2b 32) c.trie_in.result.now) (sym same) c.trie_in.ensures.keeps

pub returns-in-2-clause-keeps : goal.returns-in-2-clause-keeps
returns-in-2-clause-keeps g c =
    let words = g.S.Schema.words in
    let first = c.args.first.now in
    let second = c.args.second.now in
    let third = c.args.third.now in
    let same = ap (λ table. pairs_of words table c.args.p (rows_of_all first second third)) c.in-2.is ∙ of_second words first.rows.entries second.rows.entries third.rows.entries c.requires.whole.sound c.args.p in
    subst (Keeps (blake2b 32) c.trie_in-in-2.result.now) (sym same) c.trie_in-in-2.ensures.keeps

pub returns-in-3-clause-keeps : goal.returns-in-3-clause-keeps
returns-in-3-clause-keeps g c =
    let words = g.S.Schema.words in
    let first = c.args.first.now in
    let second = c.args.second.now in
    let third = c.args.third.now in
    let same = ap (λ table. pairs_of words table c.args.p (rows_of_all first second third)) c.in-3.is ∙ of_third words first.rows.entries second.rows.entries third.rows.entries c.requires.whole.sound c.args.p in
    subst (Keeps (blake2b 32) c.trie_in-in-3.result.now) (sym same) c.trie_in-in-3.ensures.keeps

pub returns-in_default-clause-keeps : goal.returns-in_default-clause-keeps
returns-in_default-clause-keeps g c =
    let words = g.S.Schema.words in
    let first = c.args.first.now in
    let second = c.args.second.now in
    let third = c.args.third.now in
    let none = of_none words first.rows.entries second.rows.entries third.rows.entries c.requires.whole.sound c.args.table c.args.p (ne_eqb 1 c.args.table (λ h. omega arith)) (ne_eqb 2 c.args.table (λ h. omega arith)) (ne_eqb 3 c.args.table (λ h. omega arith)) in
    subst (Keeps (blake2b 32) c.args.nothing.now) (sym none) c.requires.whole.nothing_kept
