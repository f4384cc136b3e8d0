-- What is known of every world that lawful steps lead to.
use Rattle.std.specs.Prelude.{◌≡◌, List, [], ◌∷◌, ◌++◌, refl}
use Rattle.std.specs.List.{Contains}
use Rattle.std.proofs.Common.{inl, inr}
use Rattle.layout_roles.specs.declared.layout.Layout.{Layout}
use Rattle.crdt_rows.specs.declared.any_row.AnyRow.{AnyRow}
use Rattle.crdt_rows.specs.AnyRow.{any_join}
use Rattle.object_schema.specs.Schema.{words}
use Rattle.cluster_machine.specs.Node.{Reading}
use Rattle.cluster_machine.specs.World.{empty}
use Rattle.cluster_machine.specs.Kept.{KeptReads}
use Rattle.machine_origins.specs.Origins.{ComesFrom, Gave, stored_in}
use Rattle.cluster_machine.specs.Worlds.{IsLawfulRun, IsLawfulStart, next, run, start, IsSound}
use Rattle.store_model.specs.Run.{World, Moving}
use Rattle.cluster_machine.specs.Hashes.{NoClash}
use Rattle.cluster_machine.specs.Layouts.{layouts}
use Rattle.cluster_machine.specs.Trio.{trio, stage_trio}
use Rattle.cluster_machine.specs.Hashes.{RunHashes}
use Rattle.world_reads.specs.Hashed.{StartHashes}
use Rattle.world_reads.proofs.Installed.{clear_within}
use Rattle.machine_origins.specs.Windows.{GaveWindow}
use Rattle.machine_collects.specs.Without.{AreOther}
use Rattle.store_laws.proofs.Deeds.{Deed, hashes, collects, IsOfAny, StepsDo, others, hashed_done}

pub run_more : (w : World) (moves : List Moving) (m : Moving) → run any_join words w (moves ++ m ∷ []) ≡ next any_join words (run any_join words w moves) m
run_more w [] m = refl
run_more w (first ∷ moves) m = run_more (next any_join words w first) moves m

pub lawful_more : (w : World) (moves : List Moving) (m : Moving) → IsLawfulRun any_join words w moves → IsLawfulRun any_join words (run any_join words w moves) (m ∷ []) → IsLawfulRun any_join words w (moves ++ m ∷ [])
lawful_more w [] m h k = k
lawful_more w (first ∷ moves) m h k = (h.0, h.1, h.2, h.3, lawful_more (next any_join words w first) moves m h.4 k)

-- every world that lawful steps lead to from this one, which others led to: where no two strings among which is all that they hash have one digest, reads gave what was kept, or it was collected; nothing was, where none of them collects, and else object rows that were stored; and reads gave only what was stored; it is sound; range phases gave windows
pub record FromWorld (H : Deed → Type 0) (begin : World) (before : List Moving) : Type 0 where
  pub kept_reads : NoClash (λ x. H (hashes x)) → (moves : List Moving) → IsLawfulRun any_join words begin moves → ((d : Deed) → IsOfAny d → StepsDo empty before d → H d) → ((d : Deed) → IsOfAny d → StepsDo begin moves d → H d) → KeptReads any_join words (run any_join words begin moves)
  pub nothing_collected : ¬ H collects → (moves : List Moving) → IsLawfulRun any_join words begin moves → ((d : Deed) → IsOfAny d → StepsDo empty before d → H d) → ((d : Deed) → IsOfAny d → StepsDo begin moves d → H d) → (run any_join words begin moves).collected ≡ []
  pub collected_objects : (moves : List Moving) → IsLawfulRun any_join words begin moves →
      (r : AnyRow) → Contains (run any_join words begin moves).collected r → (words.table r ≡ 1) × ComesFrom any_join words (stored_in (before ++ moves)) r
  pub stored_rows : (moves : List Moving) → IsLawfulRun any_join words begin moves →
      (r : Reading AnyRow) → Contains (run any_join words begin moves).reads r → Gave words (ComesFrom any_join words (stored_in (before ++ moves))) r
  pub is_sound : (moves : List Moving) → IsLawfulRun any_join words begin moves → IsSound (run any_join words begin moves)
  pub windows : (moves : List Moving) → IsLawfulRun any_join words begin moves → (r : Reading AnyRow) → Contains (run any_join words begin moves).reads r → GaveWindow words r

-- from the empty world, and from one with an installed layout
pub record EveryWorld (H : Deed → Type 0) : Type 0 where
  pub from_empty : FromWorld H empty []
  pub from_installed : (before : List Moving) (first : Layout) → IsLawfulStart any_join words before first → FromWorld H (start any_join words before first) before

-- what the laws of worlds say, put together
pub every_world : (H : Deed → Type 0) →
    ((moves : List Moving) → IsLawfulRun any_join words empty moves → NoClash (RunHashes words any_join layouts trio stage_trio empty moves) → KeptReads any_join words (run any_join words empty moves)) →
    ((moves : List Moving) → IsLawfulRun any_join words empty moves → (r : Reading AnyRow) → Contains (run any_join words empty moves).reads r → Gave words (ComesFrom any_join words (stored_in moves)) r) →
    ((moves : List Moving) → IsLawfulRun any_join words empty moves → IsSound (run any_join words empty moves)) →
    ((moves : List Moving) → IsLawfulRun any_join words empty moves → (r : Reading AnyRow) → Contains (run any_join words empty moves).reads r → GaveWindow words r) →
    ((before : List Moving) (first : Layout) (after : List Moving) → IsLawfulStart any_join words before first → IsLawfulRun any_join words (start any_join words before first) after → NoClash (StartHashes words any_join before first after) → KeptReads any_join words (run any_join words (start any_join words before first) after)) →
    ((before : List Moving) (first : Layout) (after : List Moving) → IsLawfulStart any_join words before first → IsLawfulRun any_join words (start any_join words before first) after →
    (r : Reading AnyRow) → Contains (run any_join words (start any_join words before first) after).reads r → Gave words (ComesFrom any_join words (stored_in (before ++ after))) r) →
    ((before : List Moving) (first : Layout) (after : List Moving) → IsLawfulStart any_join words before first → IsLawfulRun any_join words (start any_join words before first) after → IsSound (run any_join words (start any_join words before first) after)) →
    ((before : List Moving) (first : Layout) (after : List Moving) → IsLawfulStart any_join words before first → IsLawfulRun any_join words (start any_join words before first) after →
    (r : Reading AnyRow) → Contains (run any_join words (start any_join words before first) after).reads r → GaveWindow words r) →
    ((moves : List Moving) → AreOther moves → (run any_join words empty moves).collected ≡ []) →
    ((before : List Moving) (first : Layout) (after : List Moving) → IsLawfulStart any_join words before first → AreOther before → AreOther after → (run any_join words (start any_join words before first) after).collected ≡ []) →
    ((moves : List Moving) → IsLawfulRun any_join words empty moves → (r : AnyRow) → Contains (run any_join words empty moves).collected r → (words.table r ≡ 1) × ComesFrom any_join words (stored_in moves) r) →
    ((before : List Moving) (first : Layout) (after : List Moving) → IsLawfulStart any_join words before first → IsLawfulRun any_join words (start any_join words before first) after →
    (r : AnyRow) → Contains (run any_join words (start any_join words before first) after).collected r → (words.table r ≡ 1) × ComesFrom any_join words (stored_in (before ++ after)) r) → EveryWorld H
every_world H kept stored sound windows kept_then stored_then sound_then windows_then nothing nothing_then objects objects_then = record {
  from_empty = record {
    kept_reads = λ apart moves lawful early late. kept moves lawful (clear_within _ (λ x. H (hashes x)) (λ x h. late (hashes x) tt (hashed_done empty moves x h)) apart);
    nothing_collected = λ never moves lawful early late. nothing moves (others empty moves (λ h. never (late collects tt h)));
    collected_objects = objects;
    stored_rows = stored;
    is_sound = sound;
    windows = windows;
  };
  from_installed = λ before first h. record {
    kept_reads = λ apart moves lawful early late. kept_then before first moves h lawful (clear_within _ (λ x. H (hashes x)) (λ x either. elim either [
      | inl e ↦ early (hashes x) tt (hashed_done empty before x e)
      | inr l ↦ late (hashes x) tt (hashed_done (start any_join words before first) moves x l)
    ]) apart);
    nothing_collected = λ never moves lawful early late.
        nothing_then before first moves h (others empty before (λ d. never (early collects tt d))) (others (start any_join words before first) moves (λ d. never (late collects tt d)));
    collected_objects = λ moves. objects_then before first moves h;
    stored_rows = λ moves. stored_then before first moves h;
    is_sound = λ moves. sound_then before first moves h;
    windows = λ moves. windows_then before first moves h;
  };
}
