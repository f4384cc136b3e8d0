use Rattle.std.proofs.Common.{Ok}
use Rattle.http_wire.specs.Reading.{ReadsHead}
use Rattle.http_wire.specs.Pieces.{SeesEnd}
use Rattle.lab_outside.proofs.Present.{on_present}
use Rattle.http_wire.proofs.Ends.{head_taken}
use Rattle.http_wire.proofs.whole.find_head.Goals as goal

pub returns-clause-reads : goal.returns-clause-reads
returns-clause-reads g c =
    let kept = c.args.kept.now.bytes.items in
    let seen = c.read_to_end.new.kept.bytes.items in
    let new = c.take_head.new.kept.bytes.items in
    on_present (SeesEnd kept (Ok c.in_ok-end.end) seen) (ReadsHead kept c.take_head.result new) (g.L.Link.present c.args.link.now) (g.L.Link.present c.read_to_end.new.link)
    (λ a b s. head_taken kept seen c.in_ok-end.end new c.take_head.result a b c.take_head.ensures.head c.take_head.ensures.bad c.take_head.ensures.rest c.take_head.ensures.kept c.take_head.ensures.causes s) c.in_ok-end.ensures.reads
