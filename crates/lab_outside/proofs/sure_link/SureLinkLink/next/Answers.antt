use Rattle.lab_outside.proofs.Connections.{fresh_rest, fresh_first, fresh_present, room_after}
use Rattle.lab_outside.proofs.sure_link.SureLinkLink.next.Goals as goal

pub invariant_of-self-clause-room : goal.invariant_of-self-clause-room
invariant_of-self-clause-room c = room_after c.settle.new.self.present c.pop_front.result _ _ _ _ c.settle.new.self.room c.settle.ensures.present c.pop_front.ensures.len

pub invariant_of-self-clause-fresh : goal.invariant_of-self-clause-fresh
invariant_of-self-clause-fresh c = fresh_rest c.pop_front.result c.settle.new.self.coming.items c.pop_front.new.self.items c.pop_front.ensures.items c.settle.new.self.fresh

pub returns-clause-fresh : goal.returns-clause-fresh
returns-clause-fresh c = fresh_present c.pop_front.result (fresh_first c.pop_front.result c.settle.new.self.coming.items c.pop_front.new.self.items c.pop_front.ensures.items c.settle.new.self.fresh)
