use Rattle.std.proofs.Common.{◌≡◌, ◌≤◌, ◌+◌, ◌-◌, ◌∙◌, Ok, arith, length, take, drop, length-take, length-drop}
use borrow.Rule.Slice.PartMut.{put_mid, same_len_mid}
use Rattle.lab_outside.specs.declared.ports.Failed.{Failed}
use Rattle.lab_outside.specs.Connection.{Connection, ReadsFrom}
use Rattle.lab_outside.proofs.Present.{still_present, on_present_then, of_present}
use Rattle.http_wire.specs.Reading.{Takes}
use Rattle.http_wire.proofs.Bodies.{place_grows, place_fills}
use Rattle.http_wire.proofs.body.fill.Goals as goal

pub pieces-preserved : goal.pieces-preserved
pieces-preserved g c =
    let old = g.L.Link.present c.pieces.link in
    let new = g.L.Link.present c.read.new.self in
    let place = c.pieces.place in
    let a = c.pieces.count in
    let k = length place - a in
    let into = c.read.new.into in
    let more = c.in-Ok.more in
    let W : Connection → Connection → Type 0 = ReadsFrom {E = Failed} (Ok more) (take k (drop a place)) into in
    let long : length into ≡ length (take k (drop a place)) = c.read.auto.into in
    let count : more ≤ length into = of_present W (more ≤ length into) old new c.pieces.invariant.present (λ x y w. omega (arith, long, w.count)) c.in-Ok.ensures.reads in
    let same : length (put_mid a k place into) ≡ length place = same_len_mid a k place into long in
    let before = take c.args.count.now c.args.place.now in
    let after = take (a + more) (put_mid a k place into) in
    let s = c.pieces.invariant.stays in
    record {
      present = still_present W old new c.pieces.invariant.present c.in-Ok.ensures.reads;
      size = same ∙ c.pieces.invariant.size;
      within = omega (arith, same, long, count, length-take k (drop a place), length-drop a place, c.pieces.invariant.within);
      takes =
          on_present_then (Takes before (take a place)) W (Takes before after) (g.L.Link.present c.args.link.now) old new
          (λ x y z t w. place_fills {E = Failed} before (take a place) after (take k (drop a place)) into more x y z (place_grows a more k place into c.pieces.invariant.within count) t w)
          c.pieces.invariant.takes c.in-Ok.ensures.reads;
      stays = record { coming = c.in-Ok.ensures.still_coming ∙ s.coming; past = c.in-Ok.ensures.still_past ∙ s.past; open_at = c.in-Ok.ensures.still_open ∙ s.open_at; faults = c.in-Ok.ensures.uncounted ∙ s.faults };
    }
