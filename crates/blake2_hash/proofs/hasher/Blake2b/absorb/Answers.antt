use Rattle.std.proofs.Common.{◌≡◌, ◌-◌, ℕ, [], length, take, arith, ap, sym, ◌∙◌, length-take-le}
use Rattle.std.proofs.lemmas.List.{take_rest}
use Rattle.blake2_hash.specs.Hashing.{Progress}
use Rattle.blake2_hash.proofs.Taking.{HoldsFor_kept, HoldsFor_first, HoldsFor_filled}
use Rattle.blake2_hash.proofs.hasher.Blake2b.absorb.Goals as goal

pub returns-then-bytes-room : goal.returns-then-bytes-room
returns-then-bytes-room c = λ n m held.
    let pending = ap (λ (p : Progress). p.pending) c.self.view_is in
    let len : length c.args.self.now.pending ≡ c.self.inside.buffered =
    sym (ap length pending) ∙ length-take-le c.self.inside.buffered c.self.inside.buffer (omega (arith, c.self.invariant, c.self.told.1)) in
    rw c.keep.ensures (HoldsFor_kept n c.args.self.now m c.args.bytes.now held (omega (arith, c.self.invariant)))

pub returns-then-self-eq0 : goal.returns-then-self-eq0
returns-then-self-eq0 c = λ n m held.
    let pending = ap (λ (p : Progress). p.pending) c.self.view_is in
    let none : c.args.self.now.pending ≡ [] =
    sym pending ∙ ap (λ (k : ℕ). take k c.self.inside.buffer) c.if-self-eq0.true in
    rw c.absorb_long.ensures (HoldsFor_first n c.args.self.now m c.args.bytes.now held none (omega arith))

pub returns-else-self-eq0 : goal.returns-else-self-eq0
returns-else-self-eq0 c = λ n m held.
    let room : ℕ = 128 - c.self.inside.buffered in
    let pending = ap (λ (p : Progress). p.pending) c.self.view_is in
    let len : length c.args.self.now.pending ≡ c.self.inside.buffered =
    sym (ap length pending) ∙ length-take-le c.self.inside.buffered c.self.inside.buffer (omega (arith, c.self.invariant, c.self.told.1)) in
    rw (c.absorb_long-else-self-eq0.ensures, take_rest c.args.bytes.now room, c.compress_buffer.ensures, c.keep-else-self-eq0.ensures)
    (HoldsFor_filled n c.args.self.now m c.args.bytes.now room held (omega (arith, c.self.invariant)) (omega arith) (omega arith))
