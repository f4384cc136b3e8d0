use Rattle.std.proofs.Common.{sym, ◌∙◌}
use Rattle.event_places.proofs.Looking.{not_there, read_place}
use Rattle.event_places.proofs.places.event_at.Goals as goal

pub returns-in-Some : goal.returns-in-Some
returns-in-Some c =
    c.named.ensures
    ∙ read_place c.args.line c.args.name.now c.args.events.now c.in-Some.place c.index-events-place.result c.requires c.in-Some.ensures.in_range c.index-events-place.is c.in-Some.ensures.found

pub returns-in-None : goal.returns-in-None
returns-in-None c = sym (not_there c.args.events.now c.args.line c.args.name.now c.in-None.ensures.absent)
