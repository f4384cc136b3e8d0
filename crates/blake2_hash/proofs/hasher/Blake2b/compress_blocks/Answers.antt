use Rattle.std.proofs.Common.{◌≡◌, ◌+◌, ◌-◌, ◌*◌, ℕ, drop, take, arith, ap, refl}
use Rattle.blake2_hash.proofs.Taking.{taken_blocks_more, taken_blocks_start, pending_none}
use Rattle.blake2_hash.proofs.hasher.Blake2b.compress_blocks.Goals as goal

pub loop-i-init : goal.loop-i-init
loop-i-init c =
    let e = taken_blocks_start c.args.self.now c.args.bytes.now in
    record {
      state_is = rw (e, ← c.self.view_is) refl;
      count_is = rw (e, ← c.self.view_is) refl;
      none = rw (← c.self.view_is) at c.requires.empty;
      fits = c.self.invariant;
    }

pub loop-i-preserved : goal.loop-i-preserved
loop-i-preserved c =
    let width : 128 * c.loop-i.i + 128 - 128 * c.loop-i.i ≡ 128 = omega arith in
    let block : take (128 * c.loop-i.i + 128 - 128 * c.loop-i.i) (drop (128 * c.loop-i.i) c.args.bytes.now) ≡ take 128 (drop (128 * c.loop-i.i) c.args.bytes.now) =
    ap (λ (k : ℕ). take k (drop (128 * c.loop-i.i) c.args.bytes.now)) width in
    let more = taken_blocks_more c.args.self.now c.args.bytes.now _ c.loop-i.i block in
    let h = c.loop-i.invariant in
    record {
      state_is = rw (c.compress.ensures, more, h.state_is, h.count_is) refl;
      count_is = rw (more, h.count_is) refl;
      none = h.none;
      fits = h.fits;
    }

pub returns : goal.returns
returns c =
    let h = c.loop-i.invariant in
    let done : c.loop-i.i ≡ c.args.block_count = omega arith in
    let none = pending_none c.args.self.now c.args.bytes.now c.loop-i.i c.requires.empty in
    rw (h.state_is, h.count_is, h.none, ← none, ← done) refl
