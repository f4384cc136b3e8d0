use Rattle.http_wire.specs.Reading.{ReadsBody, IsBodyOf, OnAll}
use Rattle.lab_outside.proofs.Present.{on_present}
use Rattle.http_wire.proofs.Tolds.{told_body}
use Rattle.http_wire.proofs.body.read_body.Goals as goal

pub returns-clause-told : goal.returns-clause-told
returns-clause-told g c =
    let kept = c.args.kept.now.bytes.items in
    let new = c.find_body.new.kept.bytes.items in
    on_present (ReadsBody kept c.args.length c.find_body.result new) (OnAll (λ all rest. IsBodyOf all c.args.length c.find_body.result rest) kept new) (g.L.Link.present c.args.link.now) (g.L.Link.present c.find_body.new.link)
    (λ a b h. told_body kept c.args.length new c.find_body.result a b h) c.find_body.ensures.reads
