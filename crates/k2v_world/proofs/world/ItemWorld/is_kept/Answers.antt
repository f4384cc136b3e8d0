use Rattle.k2v_world.specs.declared.asked.Stage.TheVariants.{Storing}
use Rattle.k2v_world.proofs.Causes.{same_causes}
use Rattle.k2v_world.proofs.Follows.{found_at, found_in, kept_plays, kept_overflows}
use Rattle.k2v_world.proofs.world.ItemWorld.is_kept.Goals as goal

pub returns-clause-plays : goal.returns-clause-plays
returns-clause-plays c =
    let a = c.at-asked.result.now in
    let there = c.at-asked.ensures in
    kept_plays c.args.self.now c.args.i c.args.request a (found_at c.args.self.now c.args.i c.args.request Storing c.requires.storing a there) (found_in c.args.self.now c.args.i c.args.request Storing c.requires.storing a there)
    c.finishes.new.self c.finishes.result (rw c.is_deletion.ensures at c.finishes.ensures.goes)

pub returns-clause-causes : goal.returns-clause-causes
returns-clause-causes c =
    let a = c.at-asked.result.now in
    let there = c.at-asked.ensures in
    same_causes c.finishes.result
    (kept_overflows c.args.self.now c.args.i c.args.request a (found_at c.args.self.now c.args.i c.args.request Storing c.requires.storing a there) (found_in c.args.self.now c.args.i c.args.request Storing c.requires.storing a there))
    c.finishes.ensures.causes
