use Rattle.serve_loop.specs.declared.storage.Got.TheVariants as got
use Rattle.serve_cluster.proofs.Acting.{ok_as, cause_more}
use Rattle.serve_cluster.proofs.Coming.{Goes, get_goes_on, get_mid, get_ends, get_lacks, get_may, get_order_lacks}
use Rattle.serve_cluster.proofs.changing.ChangingStorage.next.Goals as goal

pub make_due-requires : goal.make_due-requires
make_due-requires c = record {
  state =
      get_mid c.args.self.now c.next.new.self c.in-Ok-End.end
      (ok_as (Goes c.args.self.now.cluster c.next.new.self) c.next.result c.in-Ok-End.field-0 (got.End c.in-Ok-End.end) c.in-Ok-End.is c.in-Ok-End.field-0-is c.next.ensures.goes)
      c.requires.on_its_way;
}

pub returns-in-Ok-clause-goes : goal.returns-in-Ok-clause-goes
returns-in-Ok-clause-goes c =
    get_ends c.args.self.now c.next.new.self c.in-Ok-End.end
    (ok_as (Goes c.args.self.now.cluster c.next.new.self) c.next.result c.in-Ok-End.field-0 (got.End c.in-Ok-End.end) c.in-Ok-End.is c.in-Ok-End.field-0-is c.next.ensures.goes)
    c.make_due.new.self c.in-Ok.ensures.does

pub returns-in-Err-make_due-clause-causes : goal.returns-in-Err-make_due-clause-causes
returns-in-Err-make_due-clause-causes c =
    cause_more c.in-Err-make_due.memory
    (get_lacks c.args.self.now c.next.new.self c.in-Ok-End.end
    (ok_as (Goes c.args.self.now.cluster c.next.new.self) c.next.result c.in-Ok-End.field-0 (got.End c.in-Ok-End.end) c.in-Ok-End.is c.in-Ok-End.field-0-is c.next.ensures.goes))
    c.in-Err-make_due.ensures.causes

pub returns-in-Err-clause-causes : goal.returns-in-Err-clause-causes
returns-in-Err-clause-causes c = cause_more c.in-Err.memory (get_order_lacks c.args.self.now) c.in-Err.ensures.causes

pub returns-in-Ok-Found-clause-goes : goal.returns-in-Ok-Found-clause-goes
returns-in-Ok-Found-clause-goes c =
    get_goes_on c.args.self.now c.next.new.self (got.Found c.in-Ok-Found.version c.in-Ok-Found.meta) tt
    (ok_as (Goes c.args.self.now.cluster c.next.new.self) c.next.result c.in-Ok-Found.field-0 (got.Found c.in-Ok-Found.version c.in-Ok-Found.meta) c.in-Ok-Found.is c.in-Ok-Found.field-0-is c.next.ensures.goes)

pub returns-in-Ok-Piece-clause-goes : goal.returns-in-Ok-Piece-clause-goes
returns-in-Ok-Piece-clause-goes c =
    get_goes_on c.args.self.now c.next.new.self (got.Piece c.in-Ok-Piece.piece) tt
    (ok_as (Goes c.args.self.now.cluster c.next.new.self) c.next.result c.in-Ok-Piece.field-0 (got.Piece c.in-Ok-Piece.piece) c.in-Ok-Piece.is c.in-Ok-Piece.field-0-is c.next.ensures.goes)

pub returns-in-Ok-clause-first : goal.returns-in-Ok-clause-first
returns-in-Ok-clause-first c = λ m time order so_far h. c.next.ensures.first m.cluster time order so_far h.cluster

pub returns-in-Ok-clause-so_far : goal.returns-in-Ok-clause-so_far
returns-in-Ok-clause-so_far c = λ m time order so_far h. get_may m time order so_far (c.next.ensures.so_far m.cluster time order so_far h.cluster)

pub returns-in-Err-make_due-clause-first : goal.returns-in-Err-make_due-clause-first
returns-in-Err-make_due-clause-first c = λ m time order so_far h. c.next.ensures.first m.cluster time order so_far h.cluster

pub returns-in-Err-make_due-clause-so_far : goal.returns-in-Err-make_due-clause-so_far
returns-in-Err-make_due-clause-so_far c = λ m time order so_far h. get_may m time order so_far (c.next.ensures.so_far m.cluster time order so_far h.cluster)

pub returns-in-Err-clause-first : goal.returns-in-Err-clause-first
returns-in-Err-clause-first c = λ m time order so_far h. c.next.ensures.first m.cluster time order so_far h.cluster

pub returns-in-Err-clause-so_far : goal.returns-in-Err-clause-so_far
returns-in-Err-clause-so_far c = λ m time order so_far h. get_may m time order so_far (c.next.ensures.so_far m.cluster time order so_far h.cluster)

pub returns-in-Ok-Found-clause-first : goal.returns-in-Ok-Found-clause-first
returns-in-Ok-Found-clause-first c = λ m time order so_far h. c.next.ensures.first m.cluster time order so_far h.cluster

pub returns-in-Ok-Found-clause-so_far : goal.returns-in-Ok-Found-clause-so_far
returns-in-Ok-Found-clause-so_far c = λ m time order so_far h. get_may m time order so_far (c.next.ensures.so_far m.cluster time order so_far h.cluster)

pub returns-in-Ok-Piece-clause-first : goal.returns-in-Ok-Piece-clause-first
returns-in-Ok-Piece-clause-first c = λ m time order so_far h. c.next.ensures.first m.cluster time order so_far h.cluster

pub returns-in-Ok-Piece-clause-so_far : goal.returns-in-Ok-Piece-clause-so_far
returns-in-Ok-Piece-clause-so_far c = λ m time order so_far h. get_may m time order so_far (c.next.ensures.so_far m.cluster time order so_far h.cluster)
