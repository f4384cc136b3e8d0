use Rattle.std.proofs.Common.{◌≡◌, sym, ◌∙◌}
use Rattle.cluster_machine.specs.World.{numbered}
use Rattle.wire_messages.specs.declared.phase.PhaseEnd.TheVariants.{Row}
use Rattle.k2v_model.specs.declared.order.Ask.TheVariants.{Write}
use Rattle.k2v_model.specs.Run.{follow}
use Rattle.k2v_world.specs.declared.asked.Stage.TheVariants.{Reading}
use Rattle.k2v_world.proofs.Causes.{same_causes}
use Rattle.k2v_world.proofs.Follows.{found_at, found_in, shows_plays, shows_overflows, stores_plays, stores_overflows, unmade, silent_as}
use Rattle.k2v_world.proofs.world.ItemWorld.has_read.Goals as goal

pub returns-in-Read-clause-plays : goal.returns-in-Read-clause-plays
returns-in-Read-clause-plays c =
    let a = c.at.result.now in
    let there = c.at.ensures in
    shows_plays c.args.self.now c.args.i c.args.request a (found_at c.args.self.now c.args.i c.args.request Reading c.requires.reading a there) (found_in c.args.self.now c.args.i c.args.request Reading c.requires.reading a there)
    c.args.read c.in-Read.is c.shows.new.self c.shows.result c.shows.ensures.goes

pub returns-in-Read-clause-causes : goal.returns-in-Read-clause-causes
returns-in-Read-clause-causes c =
    let a = c.at.result.now in
    let there = c.at.ensures in
    same_causes c.shows.result
    (shows_overflows c.args.self.now c.args.i c.args.request a (found_at c.args.self.now c.args.i c.args.request Reading c.requires.reading a there) (found_in c.args.self.now c.args.i c.args.request Reading c.requires.reading a there)
    c.args.read c.in-Read.is)
    c.shows.ensures.causes

pub returns-in-Some-clause-plays : goal.returns-in-Some-clause-plays
returns-in-Some-clause-plays c =
    let a = c.at.result.now in
    let there = c.at.ensures in
    let at = found_at c.args.self.now c.args.i c.args.request Reading c.requires.reading a there in
    let reads = found_in c.args.self.now c.args.i c.args.request Reading c.requires.reading a there in
    let asks : a.order.ask ≡ Write c.in_ok-value-in-Write.value c.in-Write.token = rw c.in_ok-value-in-Write.ensures.same c.in-Write.is in
    stores_plays c.args.self.now c.args.i c.args.request a at reads c.args.read c.in_ok-value-in-Write.value c.in-Write.token asks c.in-Some.row (sym c.in-Some.is ∙ c.in_ok-row-in-Write.ensures.is a at)
    c.stores.new.self c.stores.result c.stores.ensures.goes

pub returns-in-Some-clause-causes : goal.returns-in-Some-clause-causes
returns-in-Some-clause-causes c =
    let a = c.at.result.now in
    let there = c.at.ensures in
    let at = found_at c.args.self.now c.args.i c.args.request Reading c.requires.reading a there in
    let reads = found_in c.args.self.now c.args.i c.args.request Reading c.requires.reading a there in
    let asks : a.order.ask ≡ Write c.in_ok-value-in-Write.value c.in-Write.token = rw c.in_ok-value-in-Write.ensures.same c.in-Write.is in
    same_causes c.stores.result
    (stores_overflows c.args.self.now c.args.i c.args.request a at reads c.args.read c.in_ok-value-in-Write.value c.in-Write.token asks c.in-Some.row (sym c.in-Some.is ∙ c.in_ok-row-in-Write.ensures.is a at))
    c.stores.ensures.causes

pub returns-in-None-clause-plays : goal.returns-in-None-clause-plays
returns-in-None-clause-plays c =
    let a = c.at.result.now in
    let there = c.at.ensures in
    let at = found_at c.args.self.now c.args.i c.args.request Reading c.requires.reading a there in
    let reads = found_in c.args.self.now c.args.i c.args.request Reading c.requires.reading a there in
    let asks : a.order.ask ≡ Write c.in_ok-value-in-Write.value c.in-Write.token = rw c.in_ok-value-in-Write.ensures.same c.in-Write.is in
    silent_as c.args.self.now c.quiet.result (λ s. follow s c.args.request (numbered s.requests c.args.request) (Row c.args.read))
    (unmade c.args.self.now c.args.i c.args.request a at reads c.args.read c.in_ok-value-in-Write.value c.in-Write.token asks (sym c.in-None.is ∙ c.in_ok-row-in-Write.ensures.is a at)) c.quiet.ensures
