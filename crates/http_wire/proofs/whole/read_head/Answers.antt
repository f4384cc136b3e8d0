use Rattle.http_wire.specs.Reading.{ReadsHead, IsHeadOf, OnAll}
use Rattle.lab_outside.proofs.Present.{on_present}
use Rattle.http_wire.proofs.Tolds.{told_head}
use Rattle.http_wire.proofs.whole.read_head.Goals as goal

pub returns-clause-told : goal.returns-clause-told
returns-clause-told g c =
    let kept = c.args.kept.now.bytes.items in
    let new = c.find_head.new.kept.bytes.items in
    on_present (ReadsHead kept c.find_head.result new) (OnAll (λ all rest. IsHeadOf all c.find_head.result rest) kept new) (g.L.Link.present c.args.link.now) (g.L.Link.present c.find_head.new.link)
    (λ a b h. told_head kept new c.find_head.result a b h) c.find_head.ensures.reads
