use Rattle.std.specs.Prelude.{◌≡◌, ℕ, [], List}
use Rattle.std.proofs.Common.{sym, subst, arith}
use Rattle.blake2_hash.specs.Blake2b.{blake2b}
use Rattle.table_model.specs.Root.{Pair}
use Rattle.merkle_trie.specs.Keeping.{Keeps}
use Rattle.bench.specs.Numbered.{numbered}
use Rattle.bench.proofs.Numbers.{numbered_none, numbered_more}
use Rattle.bench.proofs.tries.changed_root.Goals as goal

pub builds-init : goal.builds-init
builds-init c = let P : List Pair → Type 0 = λ ps. Keeps (blake2b 32) c.new-trie.result ps in subst P (sym (numbered_none 1 [])) c.new-trie.ensures.empty

pub builds-preserved : goal.builds-preserved
builds-preserved c =
    let P : List Pair → Type 0 = λ ps. Keeps (blake2b 32) c.put_numbered.new.trie ps in
    subst P (numbered_more 1 c.builds.n []) (c.in_ok-put_numbered.ensures (numbered 1 c.builds.n []) c.builds.invariant)

pub changes-init : goal.changes-init
changes-init c =
    let end : c.builds.n ≡ c.args.pair_count = omega arith in
    let P : List Pair → Type 0 = λ ps. Keeps (blake2b 32) c.settle.new.self ps in
    let Q : ℕ → Type 0 = λ n. Keeps (blake2b 32) c.settle.new.self (numbered 1 n []) in
    (subst P (sym (numbered_none 2 (numbered 1 c.args.pair_count []))) (subst Q end (c.settle.ensures.kept (numbered 1 c.builds.n []) c.builds.invariant)), c.in_ok-settle.ensures.settled)

pub changes-preserved : goal.changes-preserved
changes-preserved c =
    let first = numbered 1 c.args.pair_count [] in
    let P : List Pair → Type 0 = λ ps. Keeps (blake2b 32) c.settle-in-changes.new.self ps in
    (subst P (numbered_more 2 c.changes.n first) (c.settle-in-changes.ensures.kept _ (c.in_ok-put_numbered-2.ensures (numbered 2 c.changes.n first) c.changes.invariant.0)), c.in_ok-settle-2.ensures.settled)
