-- A cluster that stands on a layout comes to the next one: an apply at a member isn't refused.
use Rattle.std.specs.Prelude.{◌≡◌, ◌<◌, ℕ, suc, Bool, true, false, cond, not, ◌&&◌, leb, [], ◌∷◌, ◌++◌, refl}
use Rattle.std.specs.List.{AllByRecursion}
use Rattle.std.proofs.Common.{ap, sym, ◌∙◌, arith}
use Rattle.std.proofs.lemmas.Bool.{lt-leb}
use Rattle.layout_roles.specs.declared.layout.Layout.{Layout}
use Rattle.cluster_machine.specs.Choices.{Decision}
use Rattle.cluster_machine.specs.Layouts.{layouts}
use Rattle.cluster_machine.specs.Step.{most_versions, given, none_given}
use Rattle.cluster_machine.specs.declared.step.Refusal.TheVariants.{VersionLimit}
use Rattle.cluster_machine.specs.World.{is_member_at}
use Rattle.cluster_machine.specs.Worlds.{newest_at, comes_to_layout}
use Rattle.change_model.specs.Given.{layout_of, given_at}
use Rattle.store_model.specs.Run.{World, State}
use Rattle.store_model.specs.Acts.{after_acts}
use Rattle.serve_model.specs.Clusters.{Cluster}
use Rattle.serve_model.specs.Plain.{Plain}
use Rattle.plain_laws.proofs.Frames.{member_one}
use Rattle.drained_laws.specs.Calm.{IsMember}
use Rattle.drained_laws.proofs.Views.{newest_one}
use Rattle.serve_changes.specs.Acts.{change_acts}
use Rattle.serve_changes.specs.Changing.{Change, acts_in}
use Rattle.plain_changes.specs.Changed.{staged}
use Rattle.plain_changes.specs.Standing.{Standing, IsStaging, acts_of}
use Rattle.plain_changes.proofs.Staged.{IsStaged, acts_staged}

and_false : (b : Bool) → (b && false) ≡ false
and_false true = refl
and_false false = refl

all_three : (x y z : Bool) → x ≡ false → y ≡ false → z ≡ false → (not x && (not y && not z)) ≡ true
all_three true y z e f g = absurd (cc)
all_three false true z e f g = absurd (cc)
all_three false false true e f g = absurd (cc)
all_three false false false e f g = refl

module _ (c : Cluster) (P : Plain) (l : Layout) (stands : Standing c P l) (few : layouts.reading.version l < 100) (ch : Change) (stages : AllByRecursion IsStaging ch.stages) (first : IsMember layouts l ch.first) where
  abbrev v : ℕ
  v = layouts.reading.version l

  pub done : IsStaged c.run (after_acts c.run ch.stages)
  done = acts_staged c.run ch.stages stages

  abbrev pub w : World
  w = staged c.run.world done.roles done.wanted

  alone : (w.nodes ch.first).view.layouts ≡ l ∷ []
  alone = (stands.rest.members ch.first first).layouts

  pub newest_so : newest_at w ch.first ≡ v
  newest_so = newest_one layouts l (w.nodes ch.first).view alone

  member : is_member_at layouts w ch.first ≡ true
  member = member_one layouts l (w.nodes ch.first).view alone ch.first first

  pub comes : comes_to_layout w ch.first ≡ true
  comes =
      let top = stands.rest.applied in
      let at = newest_so in
      all_three (leb 1 w.applied && not (is_member_at layouts w ch.first)) (leb (suc (newest_at w ch.first)) w.applied) (leb most_versions w.applied)
      (ap (λ b. leb 1 w.applied && not b) member ∙ and_false (leb 1 w.applied))
      (lt-leb (suc (newest_at w ch.first)) w.applied (omega arith))
      (lt-leb most_versions w.applied (omega arith))

  given_there : given_at w ch.first ch.shown ≡ given (layout_of (suc v) ch.shown) ch.shown
  given_there =
      ap (λ b. cond {A = Decision} b (given (layout_of (suc (newest_at w ch.first)) ch.shown) ch.shown) (none_given VersionLimit)) comes
      ∙ ap (λ i. given (layout_of (suc i) ch.shown) ch.shown) newest_so

  -- its acts are those that apply its layout
  pub acts_same : ch.new ≡ layout_of (suc v) ch.shown → acts_in c.run ch ≡ acts_of ch
  acts_same is =
      ap (λ (s : State). ch.stages ++ change_acts (given_at s.world ch.first ch.shown) ch.first ch.part) done.state
      ∙ ap (λ d. ch.stages ++ change_acts d ch.first ch.part) (given_there ∙ ap (λ (x : Layout). given x ch.shown) (sym is))
