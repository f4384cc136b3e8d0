use Rattle.std.proofs.Common.{rules, ◌*◌, ℕ, arith}
use Rattle.std.proofs.lemmas.List.Edits.{fill_by_more}
use Rattle.std.proofs.lemmas.List.FromFn.{fill_by_all}
use Rattle.blake2_hash.specs.Blake2b.{word_at}
use Rattle.blake2_hash.proofs.compress.block_words.Goals as goal

pub loop-i-preserved : goal.loop-i-preserved
loop-i-preserved c = record {
  len = search rules;
  same = rw c.word_at.ensures (fill_by_more (λ (i : ℕ). word_at c.args.block.now (8 * i)) c.loop-i.words c.loop-i.i 0 (omega arith) c.loop-i.invariant.same);
}

pub returns : goal.returns
returns c =
    fill_by_all (λ (i : ℕ). word_at c.args.block.now (8 * i)) c.loop-i.words 16 0 c.loop-i.invariant.len
    (λ k below. c.loop-i.invariant.same k (omega arith))
