use Rattle.std.proofs.Common.{Ok, ◌∙◌, drop}
use Rattle.std.proofs.lemmas.List.{take_rest}
use Rattle.lab_outside.specs.declared.ports.Failed.{Failed}
use Rattle.lab_outside.specs.Connection.{Connection, WritesTo}
use Rattle.lab_outside.proofs.Present.{IsPart, still_present, on_present_then, part_more}
use Rattle.lab_outside.proofs.send.send_whole.Goals as goal

pub writes-preserved : goal.writes-preserved
writes-preserved g c =
    let bytes = c.args.bytes.now in
    let rest = c.writes.rest.now in
    let n = c.in-Ok.count in
    let W : Connection → Connection → Type 0 = WritesTo {E = Failed} (Ok n) rest in
    let s = c.writes.invariant.stays in
    record {
      present = still_present W (g.L.Link.present c.writes.link) (g.L.Link.present c.write.new.self) c.writes.invariant.present c.in-Ok.ensures.writes;
      part =
          rw take_rest
          (on_present_then (IsPart bytes rest) W (IsPart bytes (drop n rest)) (g.L.Link.present c.args.link.now) (g.L.Link.present c.writes.link) (g.L.Link.present c.write.new.self)
          (λ a b d p w. part_more {E = Failed} bytes rest n a b d p w) c.writes.invariant.part c.in-Ok.ensures.writes);
      stays = record { coming = c.in-Ok.ensures.still_coming ∙ s.coming; past = c.in-Ok.ensures.still_past ∙ s.past; open_at = c.in-Ok.ensures.still_open ∙ s.open_at; faults = c.in-Ok.ensures.uncounted ∙ s.faults };
    }
