use Rattle.std.proofs.Common.{◌≡◌, ℕ, List, ◌++◌, ◌-◌, sym, subst, arith}
use Rattle.lab_outside.proofs.Present.{stays_none, stays_more}
use Rattle.serve_model.specs.declared.served.ServeFault.{ServeFault}
use Rattle.serve_loop.specs.Taking.{GaveUp}
use Rattle.serve_loop.specs.Sums.{AreSums}
use Rattle.serve_loop.proofs.Uploading.{cause_of, cause_weaker}
use Rattle.serve_loop.proofs.Parts.{read_on, read_short, read_failed, read_wanting, part_size, so_far_none, fits_left, some_needed, is_needed, needs_none, so_far_more, lacks_more}
use Rattle.serve_loop.proofs.taking.take_parts.Goals as goal

pub parts-init : goal.parts-init
parts-init g c = record {
  present = c.requires.present;
  taken = so_far_none (g.S.Storage.takes c.args.store.now) c.args.length c.args.first c.args.sums.now c.args.kept.now.bytes.items (g.L.Link.present c.args.link.now);
  stays = stays_none g.L.Link c.args.link.now;
}

pub returns-in_default-clause-taken : goal.returns-in_default-clause-taken
returns-in_default-clause-taken g c = let i = c.parts.invariant.taken in record { came = i.came; need = c.parts.need; needs = c.in_default.is; takes = i.takes; sums = i.sums; read = i.read }

pub returns-in-Err-Closed-clause-taken : goal.returns-in-Err-Closed-clause-taken
returns-in-Err-Closed-clause-taken g c =
    let i = c.parts.invariant.taken in
    let takes = g.S.Storage.takes c.args.store.now in
    let size = c.in-Some.size in
    let kept = c.parts.kept.bytes.items in
    let before = c.args.kept.now.bytes.items in
    let new = c.read_body.new.kept.bytes.items in
    let o = g.L.Link.present c.args.link.now in
    let m = g.L.Link.present c.parts.link in
    let n = g.L.Link.present c.read_body.new.link in
    let some = some_needed takes (g.S.Storage.takes c.parts.store) c.args.length c.args.first c.parts.left c.args.sums.now c.parts.sums before kept o m c.requires.begun c.parts.need i size c.in-Some.is c.parts-test.true in
    record {
      came = i.came;
      need = c.parts.need;
      needs = (size, c.in-Some.is, some);
      takes = i.takes;
      sums = i.sums;
      read =
          rw c.in-Some.is
          (read_short i.came kept before new size o m n i.read (rw c.in-Err-Closed.field-0-is at c.in-Err-Closed.ensures.reads) (rw c.in-Err-Closed.field-0-is at c.in-Err-Closed.ensures.told));
    }

pub returns-in-Err-Failed-clause-taken : goal.returns-in-Err-Failed-clause-taken
returns-in-Err-Failed-clause-taken g c =
    let i = c.parts.invariant.taken in
    let takes = g.S.Storage.takes c.args.store.now in
    let size = c.in-Some.size in
    let kept = c.parts.kept.bytes.items in
    let before = c.args.kept.now.bytes.items in
    let new = c.read_body.new.kept.bytes.items in
    let o = g.L.Link.present c.args.link.now in
    let m = g.L.Link.present c.parts.link in
    let n = g.L.Link.present c.read_body.new.link in
    let some = some_needed takes (g.S.Storage.takes c.parts.store) c.args.length c.args.first c.parts.left c.args.sums.now c.parts.sums before kept o m c.requires.begun c.parts.need i size c.in-Some.is c.parts-test.true in
    record {
      came = i.came;
      need = c.parts.need;
      needs = (size, c.in-Some.is, some);
      takes = i.takes;
      sums = i.sums;
      read = read_failed i.came kept before new size o m n i.read (rw c.in-Err-Failed.field-0-is at c.in-Err-Failed.ensures.reads) (rw c.in-Err-Failed.field-0-is at c.in-Err-Failed.ensures.told);
    }

pub returns-in-Err-Memory-clause-causes : goal.returns-in-Err-Memory-clause-causes
returns-in-Err-Memory-clause-causes g c =
    let i = c.parts.invariant.taken in
    record {
      came = i.came;
      because = tt;
      read =
          read_wanting i.came c.parts.kept.bytes.items c.args.kept.now.bytes.items c.read_body.new.kept.bytes.items c.in-Some.size (g.L.Link.present c.args.link.now) (g.L.Link.present c.parts.link) (g.L.Link.present c.read_body.new.link) i.read
          (rw c.in-Err-Memory.field-0-is at c.in-Err-Memory.ensures.reads) (rw c.in-Err-Memory.field-0-is at c.in-Err-Memory.ensures.told);
    }

pub overflow_sub-left : goal.overflow_sub-left
overflow_sub-left g c =
    let i = c.parts.invariant.taken in
    fits_left (g.S.Storage.takes c.args.store.now) (g.S.Storage.takes c.parts.store) c.args.length c.args.first c.parts.left c.args.sums.now c.parts.sums c.args.kept.now.bytes.items c.parts.kept.bytes.items (g.L.Link.present c.args.link.now) (g.L.Link.present c.parts.link) c.requires.begun c.parts.need i
    c.in-Some.size c.in-Some.is

pub feed-requires-clause-needed : goal.feed-requires-clause-needed
feed-requires-clause-needed g c =
    let i = c.parts.invariant.taken in
    let m = g.L.Link.present c.parts.link in
    let n = g.L.Link.present c.read_body.new.link in
    is_needed (g.S.Storage.takes c.args.store.now) (g.S.Storage.takes c.parts.store) c.args.length c.args.first c.parts.left c.args.sums.now c.parts.sums c.args.kept.now.bytes.items c.parts.kept.bytes.items (g.L.Link.present c.args.link.now) m c.requires.begun c.parts.need i
    c.in-Some.size c.in-Ok.part c.in-Some.is (part_size c.parts.kept.bytes.items c.read_body.new.kept.bytes.items c.in-Ok.part c.in-Some.size m n c.parts.invariant.present c.in-Ok.ensures.reads)

pub feed-requires-clause-some : goal.feed-requires-clause-some
feed-requires-clause-some g c =
    let i = c.parts.invariant.taken in
    let m = g.L.Link.present c.parts.link in
    let n = g.L.Link.present c.read_body.new.link in
    let len = part_size c.parts.kept.bytes.items c.read_body.new.kept.bytes.items c.in-Ok.part c.in-Some.size m n c.parts.invariant.present c.in-Ok.ensures.reads in
    let some = some_needed (g.S.Storage.takes c.args.store.now) (g.S.Storage.takes c.parts.store) c.args.length c.args.first c.parts.left c.args.sums.now c.parts.sums c.args.kept.now.bytes.items c.parts.kept.bytes.items (g.L.Link.present c.args.link.now) m c.requires.begun c.parts.need i
    c.in-Some.size c.in-Some.is c.parts-test.true in
    omega (arith, len, some)

pub parts-preserved : goal.parts-preserved
parts-preserved g c =
    let i = c.parts.invariant.taken in
    let takes = g.S.Storage.takes c.args.store.now in
    let mid = g.S.Storage.takes c.parts.store in
    let size = c.in-Some.size in
    let part = c.in-Ok.part in
    let kept = c.parts.kept.bytes.items in
    let before = c.args.kept.now.bytes.items in
    let new = c.read_body.new.kept.bytes.items in
    let left = c.parts.left in
    let o = g.L.Link.present c.args.link.now in
    let m = g.L.Link.present c.parts.link in
    let n = g.L.Link.present c.read_body.new.link in
    let len = part_size kept new part size m n c.parts.invariant.present c.in-Ok.ensures.reads in
    let le = fits_left takes mid c.args.length c.args.first left c.args.sums.now c.parts.sums before kept o m c.requires.begun c.parts.need i size c.in-Some.is in
    record {
      present = c.read_body.ensures.present;
      taken =
          so_far_more takes mid c.args.length c.args.first left c.args.sums.now c.parts.sums before kept o m c.requires.begun c.parts.need i size c.in-Some.is part len (g.S.Storage.takes c.feed.new.self) c.in-Ok-feed.need (left - size) c.add.new.self new n (omega (arith, le)) c.in-Ok-feed.ensures.takes
          (λ r bytes are. subst (λ (more : List ℕ). AreSums r c.add.new.self (bytes ++ more)) c.as_slice.ensures (c.add.ensures r bytes are)) (read_on i.came kept before new size o m n i.read part c.in-Ok.ensures.reads c.in-Ok.ensures.told);
      stays = stays_more g.L.Link c.args.link.now c.parts.link c.read_body.new.link c.parts.invariant.stays c.read_body.ensures.stays;
    }

pub returns-in-Err-clause-causes : goal.returns-in-Err-clause-causes
returns-in-Err-clause-causes g c =
    let i = c.parts.invariant.taken in
    let takes = g.S.Storage.takes c.args.store.now in
    let mid = g.S.Storage.takes c.parts.store in
    let size = c.in-Some.size in
    let part = c.in-Ok.part in
    let kept = c.parts.kept.bytes.items in
    let before = c.args.kept.now.bytes.items in
    let new = c.read_body.new.kept.bytes.items in
    let o = g.L.Link.present c.args.link.now in
    let m = g.L.Link.present c.parts.link in
    let n = g.L.Link.present c.read_body.new.link in
    let len = part_size kept new part size m n c.parts.invariant.present c.in-Ok.ensures.reads in
    let P : ServeFault → Type 0 = GaveUp takes g.S.Storage.lacks c.args.length c.args.first before new o n in
    subst P (sym c.from.ensures)
    (record {
      came = i.came ++ part;
      because = cause_weaker _ _ _ (λ full. lacks_more takes mid c.args.length c.args.first c.parts.left c.args.sums.now c.parts.sums before kept o m c.requires.begun c.parts.need i size c.in-Some.is part len g.S.Storage.lacks full) (cause_of c.in-Err.memory _ c.in-Err.ensures.causes);
      read = read_on i.came kept before new size o m n i.read part c.in-Ok.ensures.reads c.in-Ok.ensures.told;
    })

pub returns-in-Some-need-clause-taken : goal.returns-in-Some-need-clause-taken
returns-in-Some-need-clause-taken g c =
    let i = c.parts.invariant.taken in
    let none : c.parts.left ≡ 0 = omega (arith, c.parts-test.false) in
    record {
      came = i.came;
      need = c.parts.need;
      needs =
          needs_none (g.S.Storage.takes c.args.store.now) (g.S.Storage.takes c.parts.store) c.args.length c.args.first c.parts.left c.args.sums.now c.parts.sums c.args.kept.now.bytes.items c.parts.kept.bytes.items (g.L.Link.present c.args.link.now) (g.L.Link.present c.parts.link) c.requires.begun c.parts.need i none
          c.in-Some-need.field-0 c.in-Some-need.is;
      takes = i.takes;
      sums = i.sums;
      read = i.read;
    }

pub returns-in-None-clause-taken : goal.returns-in-None-clause-taken
returns-in-None-clause-taken g c = let i = c.parts.invariant.taken in record { came = i.came; need = c.parts.need; needs = c.in-None.is; takes = i.takes; sums = i.sums; read = i.read }
