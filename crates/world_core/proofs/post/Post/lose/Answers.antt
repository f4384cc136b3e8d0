use Rattle.std.proofs.Common.{length, refl}
use Rattle.std.proofs.lemmas.Option.{slice_get_read}
use Rattle.world_core.proofs.Posts.{lost_post, over_post}
use Rattle.world_core.proofs.post.Post.lose.Goals as goal

pub returns-in_default : goal.returns-in_default
returns-in_default g c s messages marks mark p at = over_post s c.args.self.now messages marks mark c.args.number p at c.in_default.ensures.none

pub returns : goal.returns
returns g c s messages marks mark p at =
    let place = c.in-Some.place in
    let slots = c.args.self.now.slots.items in
    lost_post s c.args.self.now _ messages marks c.args.number place c.index_mut-slot.result.now p c.in-Some.ensures.found
    (record {
      there = slice_get_read slots (length slots) place c.index_mut-slot.result.now refl c.in-Some.ensures.found.within c.index_mut-slot.ensures.value;
      slots = refl;
      sent = refl;
      bytes = refl;
      first = c.next_waiting-self.ensures.first;
    })
