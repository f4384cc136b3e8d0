use Rattle.std.proofs.Common.{sym, ◌∙◌}
use Rattle.s3_world.proofs.Kept.{written}
use Rattle.s3_world.proofs.Taking.{nobody_left, none_left, piece_taken}
use Rattle.s3_world.proofs.driver.Driver.take_piece.Goals as goal

pub returns-in_err-asked-clause-all : goal.returns-in_err-asked-clause-all
returns-in_err-asked-clause-all g c = rw c.from_residual.ensures (nobody_left c.args.self.now c.args.request (sym c.in_err-asked.ensures.value))

pub returns-else-has_piece-clause-all : goal.returns-else-has_piece-clause-all
returns-else-has_piece-clause-all g c = none_left c.args.self.now c.args.request c.in_ok-asked.asked.now (sym c.in_ok-asked.ensures.value) (sym c.has_piece.ensures ∙ c.if-has_piece.false)

pub returns-in_ok-get_mut-clause-piece : goal.returns-in_ok-get_mut-clause-piece
returns-in_ok-get_mut-clause-piece g c =
    piece_taken c.args.self.now c.args.request c.in_ok-get_mut.field-0.now (sym c.in_ok-get_mut.ensures.value) (c.get_mut.follows.lender c.take_piece.new.self) c.take_piece.new.self
    (written c.args.self.now.requests (c.get_mut.follows.lender c.take_piece.new.self) c.args.request c.in_ok-get_mut.field-0.now c.take_piece.new.self (sym c.in_ok-get_mut.ensures.value) (c.get_mut.follows.holds c.take_piece.new.self))
    c.take_piece.result c.take_piece.ensures.piece
