use Rattle.std.proofs.Common.{◌≡◌, ℕ, ◌+◌, ◌*◌, ◌%◌, List, ◌++◌, take, arith, ap, ◌∙◌}
use Rattle.blake2_hash.specs.Blake2b.{blake2b}
use Rattle.bench.specs.Pattern.{pattern}
use Rattle.bench.proofs.Periods.{pattern-add, pattern-zero, take-pattern}
use Rattle.bench.proofs.hashing.pattern_digest.Goals as goal

pub loop-init : goal.loop-init
loop-init c = rw pattern-zero c.new-hasher.ensures

pub loop-preserved : goal.loop-preserved
loop-preserved c =
    let so_far : ℕ = 32128 * c.loop.counter in
    let longer : pattern so_far ++ c.pattern_piece-piece.result ≡ pattern (32128 * (c.loop.counter + 1)) =
    ap (λ (xs : List ℕ). pattern so_far ++ xs) c.pattern_piece-piece.ensures
    ∙ pattern-add so_far 32128 (128 * c.loop.counter) (omega arith) ∙ ap pattern (omega arith) in
    rw longer at (c.update.ensures (pattern so_far) c.loop.invariant)

pub returns : goal.returns
returns c =
    let so_far : ℕ = 32128 * c.loop.counter in
    let rest : ℕ = c.args.byte_count % 32128 in
    let tail : take rest c.pattern_piece-piece.result ≡ pattern rest =
    ap (λ (xs : List ℕ). take rest xs) c.pattern_piece-piece.ensures ∙ take-pattern 32128 rest (omega arith) in
    let all : pattern so_far ++ take rest c.pattern_piece-piece.result ≡ pattern c.args.byte_count =
    ap (λ (xs : List ℕ). pattern so_far ++ xs) tail
    ∙ pattern-add so_far rest (128 * c.loop.counter) (omega arith) ∙ ap pattern (omega arith) in
    c.finish.ensures (pattern so_far ++ take rest c.pattern_piece-piece.result) (c.update-2.ensures (pattern so_far) c.loop.invariant)
    ∙ ap (blake2b 32) all
