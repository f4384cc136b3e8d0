use Rattle.std.proofs.Common.{length, refl}
use Rattle.std.proofs.lemmas.Option.{slice_get_read}
use Rattle.world_core.proofs.Posts.{delivered_post, not_over}
use Rattle.world_core.proofs.post.Post.deliver.Goals as goal

pub returns-in_default : goal.returns-in_default
returns-in_default g c s messages marks mark p at live = absurd (not_over s c.args.self.now messages marks mark c.args.number p at live c.in_default.ensures.none)

pub returns : goal.returns
returns g c s messages marks mark p at live =
    let place = c.in-Some.place in
    let slots = c.args.self.now.slots.items in
    delivered_post s c.args.self.now _ messages marks mark c.args.number place c.index_mut.result.now p at live c.in-Some.ensures.found
    (record {
      there = slice_get_read slots (length slots) place c.index_mut.result.now refl c.in-Some.ensures.found.within c.index_mut.ensures.value;
      slots = refl;
      sent = refl;
      bytes = refl;
      first = c.next_waiting-self.ensures.first;
    })
