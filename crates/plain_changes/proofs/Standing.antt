-- A cluster that stands on a layout with a map stands on the last of the layouts after changes.
use Rattle.std.specs.Prelude.{◌≡◌, ℕ, suc, List, [], ◌∷◌}
use Rattle.std.specs.List.{AllByRecursion}
use Rattle.std.proofs.Common.{ap, sym, subst, ◌∙◌}
use Rattle.layout_roles.specs.declared.layout.Layout.{Layout}
use Rattle.layout_roles.specs.declared.cut.Cut.{Cut}
use Rattle.crdt_rows.specs.AnyRow.{any_join}
use Rattle.object_schema.specs.Schema.{words}
use Rattle.cluster_machine.specs.declared.applied.Applied.{Applied}
use Rattle.cluster_machine.specs.Layouts.{layouts}
use Rattle.cluster_machine.specs.Step.{given}
use Rattle.cluster_machine.specs.Trio.{trio, stage_trio}
use Rattle.machine_laws.specs.Follows.{Follows}
use Rattle.store_model.specs.Run.{State, World}
use Rattle.store_model.specs.Acts.{Act, after_acts, ActsFit}
use Rattle.store_model.proofs.Acts.{acts_after, fit_in_parts}
use Rattle.serve_model.specs.Clusters.{Cluster}
use Rattle.serve_model.specs.Plain.{Plain}
use Rattle.store_laws.specs.Hashed.{ActsHash}
use Rattle.store_laws.proofs.Hashing.{hashed_rest}
use Rattle.change_laws.specs.Script.{RoundHashes}
use Rattle.change_laws.specs.Resting.{IsResting}
use Rattle.change_laws.specs.Whole.{MayChange}
use Rattle.plain_laws.specs.Blocks.{IsKept}
use Rattle.serve_changes.specs.Acts.{change_acts}
use Rattle.plain_changes.specs.Changed.{staged, IsClear as IsClearRound, moved_to}
use Rattle.serve_changes.specs.Changing.{Change}
use Rattle.plain_changes.specs.Standing.{Standing, IsStaging, after_changes, last_of, IsClear, MayFollow, acts_of, after_change}
use Rattle.plain_changes.proofs.Acted.{in_world}
use Rattle.plain_changes.proofs.Changed.{holds_on, holds_at, rests_on, kept_back, apart_on}
use Rattle.plain_changes.proofs.Following.{follows_changed}
use Rattle.plain_changes.proofs.Making.{IsCalmState, IsMade, given_none, made_so}
use Rattle.plain_changes.proofs.Staged.{IsStaged, acts_staged}

module _ (c : Cluster) (P : Plain) (l : Layout) (stands : Standing c P l) (ch : Change) (stages : AllByRecursion IsStaging ch.stages) (may : MayChange layouts l ch.new ch.part ch.first) (fits : ActsFit c.run (acts_of ch)) where
  abbrev acts_then : List Act
  acts_then = change_acts (given ch.new ch.shown) ch.first ch.part

  done : IsStaged c.run (after_acts c.run ch.stages)
  done = acts_staged c.run ch.stages stages

  abbrev s : State
  s = in_world c.run (staged c.run.world done.roles done.wanted)

  fits_then : ActsFit s acts_then
  fits_then = subst (λ x. ActsFit x acts_then) done.state (fit_in_parts c.run ch.stages acts_then fits).1

  calm : IsCalmState s
  calm = record { idle = λ n. (stands.rest.nodes n).calls; matched = stands.rest.marked }

  made : IsMade ch.new ch.shown ch.first ch.part s (after_acts s acts_then)
  made = made_so ch.new ch.shown ch.first ch.part s calm fits_then

  abbrev after : World
  after = (after_acts s acts_then).world

  here : IsResting layouts stands.holds.layout c.run.world
  here = subst (λ x. IsResting layouts x c.run.world) (sym stands.at) stands.rest

  may_here : MayChange layouts stands.holds.layout ch.new ch.part ch.first
  may_here = subst (λ x. MayChange layouts x ch.new ch.part ch.first) (sym stands.at) may

  follows_staged : Follows layouts 256 s.world
  follows_staged = let f = stands.follows in record {
    control_world = f.control_world;
    reached = f.reached;
    same = record { nodes = f.same.nodes; top = f.same.top; asked = f.same.asked; sent = f.same.sent; layouts = f.same.layouts };
  }

  chosen_version : layouts.reading.version ch.new ≡ suc s.world.applied
  chosen_version = may.later ∙ ap (λ i. suc i) (sym stands.rest.applied)

  leads : after_acts c.run (acts_of ch) ≡ in_world c.run after
  leads = acts_after c.run ch.stages acts_then ∙ (ap (λ x. after_acts x acts_then) done.state ∙ made.state)

  -- where no digests of the change's walks clash, none of its rounds' do
  module _ (clear : IsClear c.run ch) where
    hashed : (y : List ℕ) → RoundHashes Applied Cut any_join words layouts trio stage_trio given_none ch.new ch.shown ch.first ch.part s.world after made.changed y → ActsHash c.run (acts_of ch) y
    hashed y h = hashed_rest c.run ch.stages acts_then y (subst (λ x. ActsHash x acts_then y) (sym done.state) (made.hashed y h))

    clear_here : IsClearRound given_none ch.new ch.shown ch.first ch.part s.world after made.changed
    clear_here = record { apart = λ x y g h e. clear.apart x y (hashed x g) (hashed y h) e; some = λ x g. clear.some x (hashed x g) }

    stands_moved : Standing (moved_to c after ch.new) P ch.new
    stands_moved = record {
      holds = holds_on c P stands.holds ch.new ch.part ch.first done.roles done.wanted given_none ch.shown after here may_here stands.apart made.changed made.spelled clear_here;
      at = holds_at c P stands.holds ch.new ch.part ch.first done.roles done.wanted given_none ch.shown after here may_here stands.apart made.changed made.spelled clear_here;
      rest = rests_on c P stands.holds ch.new ch.part ch.first done.roles done.wanted given_none ch.shown after here may_here stands.apart made.changed made.spelled;
      apart = apart_on c P stands.holds ch.new ch.part ch.first done.roles done.wanted given_none ch.shown after here may_here stands.apart made.changed made.spelled;
      follows = follows_changed given_none ch.new ch.shown ch.first ch.part s.world after made.changed (may.layout_new, chosen_version) follows_staged;
    }

    pub stands_on : Standing (after_change c ch) P ch.new
    stands_on = subst (λ x. Standing (record c { run = x; members = layouts.reading.members ch.new }) P ch.new) (sym leads) stands_moved

-- no node keeps a block that none kept before
module _ (c : Cluster) (P : Plain) (l : Layout) (stands : Standing c P l) (ch : Change) (stages : AllByRecursion IsStaging ch.stages) (may : MayChange layouts l ch.new ch.part ch.first) (fits : ActsFit c.run (acts_of ch)) where
  pub kept_before : (bytes : List ℕ) → IsKept (after_change c ch).run.world bytes → IsKept c.run.world bytes
  kept_before bytes k =
      let d = done c P l stands ch stages may fits in
      let w = after c P l stands ch stages may fits in
      let m = made c P l stands ch stages may fits in
      kept_back c P stands.holds ch.new ch.part ch.first d.roles d.wanted given_none ch.shown w (here c P l stands ch stages may fits) (may_here c P l stands ch stages may fits) stands.apart m.changed m.spelled bytes
      (subst (λ (x : State). IsKept x.world bytes) (leads c P l stands ch stages may fits) k)

pub stands_after : (c : Cluster) (P : Plain) (l : Layout) → Standing c P l → (chs : List Change) → MayFollow l c.run chs → Standing (after_changes c chs) P (last_of l chs)
stands_after c P l stands [] may = stands
stands_after c P l stands (ch ∷ chs) may = stands_after (after_change c ch) P ch.new (stands_on c P l stands ch may.0 may.1 may.2 may.3) chs may.4
