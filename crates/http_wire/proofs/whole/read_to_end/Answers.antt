use Rattle.std.proofs.Common.{◌≡◌, ℕ, List, sym, subst, arith, None, Ok, Err, length, take, ◌≤◌, ◌<◌}
use Rattle.http_wire.specs.declared.head.HeadEnd.TheVariants.{Closed, TooLong}
use Rattle.lab_outside.specs.Connection.{OnPresent}
use Rattle.http_model.specs.Cut.{head_limit, head_end}
use Rattle.http_wire.specs.Reading.{Takes}
use Rattle.http_wire.specs.Pieces.{IsSearched, ReadsPiece, SeesEnd}
use Rattle.http_wire.proofs.Searches.{search_begins, search_grows}
use Rattle.http_wire.proofs.Takings.{takes_none, takes_more}
use Rattle.http_wire.proofs.Cuts.{cut_too_long}
use Rattle.lab_outside.proofs.Present.{on_present, on_present_same, on_present_then, stays_none, stays_more}
use Rattle.http_wire.proofs.Ends.{handed_on, piece_fails, piece_ends}
use Rattle.http_wire.proofs.whole.read_to_end.Goals as goal

pub returns-then-len-ge-HEAD_LIMIT-clause-reads : goal.returns-then-len-ge-HEAD_LIMIT-clause-reads
returns-then-len-ge-HEAD_LIMIT-clause-reads g c =
    let seen = c.pieces.kept.bytes.items in
    let none : head_end seen ≡ None = cc in
    let full : head_limit ≤ length seen = omega (arith, c.pieces.kept.bytes.ok.0) in
    on_present (Takes c.args.kept.now.bytes.items seen) (SeesEnd c.args.kept.now.bytes.items (Err TooLong) seen) (g.L.Link.present c.args.link.now) (g.L.Link.present c.pieces.link)
    (λ a b t. (t, cut_too_long seen none full)) c.pieces.invariant.takes

pub returns-in_err-read_piece-clause-reads : goal.returns-in_err-read_piece-clause-reads
returns-in_err-read_piece-clause-reads g c =
    let kept = c.args.kept.now.bytes.items in
    let seen = c.pieces.kept.bytes.items in
    let new = c.read_piece.new.kept.bytes.items in
    let e = c.in_err-read_piece.field-0.0 in
    handed_on (λ r. OnPresent (SeesEnd kept r new) (g.L.Link.present c.args.link.now) (g.L.Link.present c.read_piece.new.link)) c.from_residual.result e c.from_residual.ensures.1
    (on_present_then (Takes kept seen) (ReadsPiece seen (Err e) new) (SeesEnd kept (Err e) new) (g.L.Link.present c.args.link.now) (g.L.Link.present c.pieces.link) (g.L.Link.present c.read_piece.new.link)
    (λ a b d t u. piece_fails kept seen new e a b d t u) c.pieces.invariant.takes c.in_err-read_piece.ensures.reads)

pub returns-then-branch-eq0-clause-reads : goal.returns-then-branch-eq0-clause-reads
returns-then-branch-eq0-clause-reads g c =
    let kept = c.args.kept.now.bytes.items in
    let seen = c.pieces.kept.bytes.items in
    let new = c.read_piece.new.kept.bytes.items in
    let n = c.in_ok-read_piece.field-0 in
    let none : head_end seen ≡ None = cc in
    let short : length seen < head_limit = omega (arith, c.pieces.kept.bytes.ok.0) in
    on_present_then (Takes kept seen) (ReadsPiece seen (Ok n) new) (SeesEnd kept (Err Closed) new) (g.L.Link.present c.args.link.now) (g.L.Link.present c.pieces.link) (g.L.Link.present c.read_piece.new.link)
    (λ a b d t u. piece_ends kept seen new c.read_piece.new.piece n a b d c.if-branch-eq0.true c.in_ok-read_piece.ensures.grows none short t u) c.pieces.invariant.takes c.in_ok-read_piece.ensures.reads

pub pieces-init : goal.pieces-init
pieces-init g c =
    record {
      present = c.requires;
      searched = search_begins c.args.kept.now.bytes.items c.new-search.result c.new-search.ensures.place c.new-search.ensures.text;
      takes = on_present_same (Takes c.args.kept.now.bytes.items c.args.kept.now.bytes.items) (g.L.Link.present c.args.link.now) (λ a. takes_none c.args.kept.now.bytes.items a);
      stays = stays_none g.L.Link c.args.link.now;
    }

pub pieces-preserved : goal.pieces-preserved
pieces-preserved g c =
    let kept = c.args.kept.now.bytes.items in
    let seen = c.pieces.kept.bytes.items in
    let new = c.read_piece.new.kept.bytes.items in
    let n = c.in_ok-read_piece.field-0 in
    let P : List ℕ → Type 0 = λ x. IsSearched x c.head_end.new.self in
    record {
      present = c.read_piece.ensures.present;
      searched = subst P (sym {A = List ℕ} c.in_ok-read_piece.ensures.grows) (search_grows seen (take n c.read_piece.new.piece) c.head_end.new.self (subst P c.deref.ensures.value c.in-None.ensures.searched));
      takes =
          on_present_then (Takes kept seen) (ReadsPiece seen (Ok n) new) (Takes kept new) (g.L.Link.present c.args.link.now) (g.L.Link.present c.pieces.link) (g.L.Link.present c.read_piece.new.link)
          (λ a b d t u. takes_more kept seen new a b d t u.0) c.pieces.invariant.takes c.in_ok-read_piece.ensures.reads;
      stays = stays_more g.L.Link c.args.link.now c.pieces.link c.read_piece.new.link c.pieces.invariant.stays c.read_piece.ensures.stays;
    }
