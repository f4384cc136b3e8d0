use Rattle.s3_world.proofs.Storing.{piece_given, none_given, all_given}
use Rattle.s3_world.proofs.world.S3World.take_piece.Goals as goal

pub returns-clause-piece : goal.returns-clause-piece
returns-clause-piece c = piece_given c.args.self.now c.take_piece.new.self c.args.request c.take_piece.result c.take_piece.ensures.piece

pub returns-clause-none : goal.returns-clause-none
returns-clause-none c = none_given c.args.self.now c.take_piece.new.self c.take_piece.result c.take_piece.ensures.none

pub returns-clause-all : goal.returns-clause-all
returns-clause-all c = all_given c.args.self.now c.args.request c.take_piece.result c.take_piece.ensures.all
