-- What a call for one kind of step does is what the step does.
use Rattle.std.proofs.Common.{◌≡◌, ◌⊎◌, inl, inr, Result, Ok, Err, IfOk, IfErr, sym, subst}
use Rattle.crdt_core.specs.declared.memory.Memory.{Memory}
use Rattle.crdt_core.specs.declared.memory.Memory.TheVariants.{Want, Full}
use Rattle.table_schema.specs.Words.{Words}
use Rattle.cluster_machine.specs.declared.step.Step.{Step}
use Rattle.cluster_machine.specs.Worlds.{Model, IsLawfulStep}
use Rattle.world_core.specs.declared.report.Report.{Report}
use Rattle.world_core.specs.declared.world.World.{World}
use Rattle.world_core.specs.Stands.{Steps, Overflows, Plays, Exceeds, nothing_given}

module _ {S R : Type 0} (join : R → R → R) (s : Words R) (old : World S R) (step t : Step R) (is : t ≡ step) (free : (w : Model R) → IsLawfulStep w step nothing_given) where
  pub played : (new : World S R) (result : Result (Report R) Memory) → IfOk result (λ report. Plays join s old new report step) → IfOk result (λ report. Steps join s old new report t)
  played new (Ok report) h = subst (λ x. Steps join s old new report x) (sym is) (λ w stands. record { choice = nothing_given; lawful = free w; does = h w stands })
  played new (Err e) h = tt

  overflows : Exceeds join s old step → Overflows join s old t
  overflows h = subst (λ x. Overflows join s old x) (sym is) (λ w stands. record { choice = nothing_given; lawful = free w; lacks = h w stands })

  pub exceeded : (result : Result (Report R) Memory) → IfErr result (λ e. (e ≡ Want) ⊎ ((e ≡ Full) × Exceeds join s old step)) → IfErr result (λ e. (e ≡ Want) ⊎ ((e ≡ Full) × Overflows join s old t))
  exceeded (Ok report) h = tt
  exceeded (Err e) h = elim h [ inl want ↦ inl want | inr full ↦ inr (full.0, overflows full.1) ]

  pub exceeded_alone : (result : Result (Report R) Memory) → IfErr result (λ e. (e ≡ Full) × Exceeds join s old step) → IfErr result (λ e. (e ≡ Want) ⊎ ((e ≡ Full) × Overflows join s old t))
  exceeded_alone (Ok report) h = tt
  exceeded_alone (Err e) h = inr (h.0, overflows h.1)
