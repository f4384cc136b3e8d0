-- The changes of a plan: they are changes of the model, and may be made one after the other.
use Rattle.std.proofs.Common.{◌≡◌, ◌≤◌, ◌+◌, ℕ, suc, true, None, List, [], ◌∷◌, ◌++◌, map, length, refl, sym, ap, subst, arith}
use Rattle.std.specs.List.{AllByRecursion, range_with_len}
use Rattle.layout_roles.specs.declared.layout.Layout.{Layout}
use Rattle.layout_roles.specs.declared.redundancy.Redundancy.{Redundancy}
use Rattle.layout_roles.specs.declared.role.Role.{Role}
use Rattle.quorum_model.specs.Quorum.{is_among}
use Rattle.cluster_machine.specs.declared.step.Step.TheVariants as step
use Rattle.cluster_machine.specs.Choices.{IsFirst, IsBest}
use Rattle.cluster_machine.specs.Layouts.{layouts}
use Rattle.cluster_machine.specs.Run.{IsLayout}
use Rattle.change_model.specs.Steps.{members_of_both}
use Rattle.drained_laws.specs.Calm.{IsMember}
use Rattle.drained_laws.proofs.Posts.{three_at, member_at}
use Rattle.drained_laws.proofs.Views.{among_here}
use Rattle.world_laws.proofs.Sets.{first_is_layout, best_is_layout}
use Rattle.store_model.specs.Run.{plainly}
use Rattle.serve_model.specs.Clusters.{asker}
use Rattle.serve_changes.specs.Acts.{steps}
use Rattle.serve_changes.specs.Changing.{Change, change_from}
use Rattle.plain_changes.specs.Standing.{IsStaging, TakesAll}
use Rattle.plain_changes.specs.Changing.{MayCome, AreComputed}
use Rattle.serve_cluster.specs.declared.change.Change.{Change as Planned}
use Rattle.serve_cluster.specs.Changes.{IsComputed, AreChanges}
use Rattle.change_deeds.specs.Deeds.{staged_as}
use Rattle.serve_run.specs.declared.plan.Plan.{Plan}
use Rattle.serve_run.specs.Plan.{IsPlan}
use Rattle.serve_run.specs.Start.{IsOf}
use Rattle.serve_run.specs.Begun.{to_come_from}

-- what the laws on changes say
abbrev pub MayComeSo : Type 0
MayComeSo = (l : Layout) (to_come : List (ℕ × Change)) → IsLayout layouts 256 l → layouts.reading.version l + length to_come ≤ 100 → AreComputed l to_come → MayCome l to_come

abbrev pub TakeAllSo : Type 0
TakeAllSo = (l : Layout) (change : Change) → change.part ≡ members_of_both layouts l change.new → IsMember layouts l change.first → TakesAll l change

-- ---- changes of the code

pub are_changes : (l : Layout) (cs : List Planned) → AllByRecursion IsComputed cs → AreChanges (layouts.reading.members l) cs (to_come_from l cs)
are_changes l [] h = tt
are_changes l (c ∷ cs) h = (record { after = refl; stages = refl; shown = refl; first = refl; part = refl; newer = refl; computed = h.0 }, are_changes (change_from l c.redundancy c.shown).new cs h.1)

-- ---- what is staged

in_staging : (roles : List Role) (wanted : Redundancy) → AllByRecursion IsStaging (steps (map (λ role. plainly (staged_as role)) roles ++ plainly (step.Redundancy wanted) ∷ []))
in_staging [] wanted = (tt, tt)
in_staging (r ∷ roles) wanted = (tt, in_staging roles wanted)

all_staging : (ns : List ℕ) (roles : List Role) (wanted : Redundancy) → AllByRecursion IsStaging (steps (map (λ n. plainly (step.Role n None)) ns ++ (map (λ role. plainly (staged_as role)) roles ++ plainly (step.Redundancy wanted) ∷ [])))
all_staging [] roles wanted = in_staging roles wanted
all_staging (n ∷ ns) roles wanted = (tt, all_staging ns roles wanted)

-- ---- who takes part

asker_among : (ms : List ℕ) (n : ℕ) → is_among n ms ≡ true → is_among (asker ms) ms ≡ true
asker_among [] n h = absurd (cc)
asker_among (m ∷ ms) n h = among_here m ms

asker_member : (l : Layout) → IsLayout layouts 256 l → IsMember layouts l (asker (layouts.reading.members l))
asker_member l layout =
    let three = three_at layouts l layout 0 (omega arith) in
    asker_among (layouts.reading.members l) three.one (member_at layouts l layout 0 three.one (omega arith) (subst (λ ms. is_among three.one ms ≡ true) (sym three.are) (among_here three.one (three.two ∷ three.three ∷ []))))

-- ---- all of them

all_computed : TakeAllSo → (l : Layout) (cs : List Planned) → IsLayout layouts 256 l → AllByRecursion IsComputed cs → AreComputed l (to_come_from l cs)
all_computed all l [] layout h = tt
all_computed all l (c ∷ cs) layout h =
    let ch = change_from l c.redundancy c.shown in
    let roles = c.shown.roles.list in
    let best : IsBest roles c.redundancy (suc (layouts.reading.version l)) ch.new c.shown = record { version_is = refl; roles_are = refl; shown_roles = refl; redundancy = refl; size = refl; sets = refl; enough = h.0.is_for.enough; certified = h.0.is_for.certified } in
    let new : IsLayout layouts 256 ch.new = best_is_layout roles c.redundancy (suc (layouts.reading.version l)) ch.new c.shown (omega arith) best in (
      all_staging (range_with_len 1 16) roles c.redundancy,
      (roles, c.redundancy, best),
      refl,
      all l ch refl (asker_member l layout),
      all_computed all ch.new cs new h.1,
    )

as_many : (l : Layout) (cs : List Planned) → length (to_come_from l cs) ≡ length cs
as_many l [] = refl
as_many l (c ∷ cs) = ap suc (as_many (change_from l c.redundancy c.shown).new cs)

pub plan_may_come : MayComeSo → TakeAllSo → (p : Plan) → IsPlan p → (first : Layout) → IsOf p first → IsFirst first → MayCome first (to_come_from first p.changes)
plan_may_come law all p plan first of is =
    let layout = first_is_layout first is in
    let few = plan.few in
    let many = as_many first p.changes in
    let one = is.version in
    law first (to_come_from first p.changes) layout (omega (arith, few, many, one)) (all_computed all first p.changes layout plan.computed)
