-- A world that acts lead to, with no message forgotten, is the end of a run of the machine, whose first layout is the one that was installed, if one was.
use Rattle.std.specs.Prelude.{◌≡◌, ◌≤◌, ◌+◌, List, [], ◌∷◌, refl}
use Rattle.std.proofs.Common.{ap, sym, subst, inl, inr, arith}
use Rattle.std.specs.List.{All}
use Rattle.std.proofs.lemmas.List.Elements.{All-append, All-cons}
use Rattle.crdt_rows.specs.declared.any_row.AnyRow.{AnyRow}
use Rattle.crdt_rows.specs.AnyRow.{any_join}
use Rattle.layout_roles.specs.declared.layout.Layout.{Layout}
use Rattle.layout_roles.specs.declared.role.Role.{Role}
use Rattle.object_schema.specs.Schema.{words}
use Rattle.cluster_machine.specs.Layouts.{layouts}
use Rattle.cluster_machine.specs.Run.{IsLayout, IsRun, run as machine_run, does as machine_does}
use Rattle.cluster_machine.specs.Trio.{trio, stage_trio}
use Rattle.cluster_machine.specs.World.{empty}
use Rattle.cluster_machine.specs.Worlds.{IsLawfulRun, run, start, does}
use Rattle.cluster_machine.specs.declared.step.Step.{Step}
use Rattle.cluster_machine.specs.declared.step.Step.TheVariants.{Trio}
use Rattle.world_laws.proofs.Sets.{first_is_layout}
use Rattle.world_laws.proofs.TrioGreatest.{trio_is_first}
use Rattle.world_reads.proofs.Installed.{first_step, whole, whole_same, whole_is_run, step_same, applied_more, clear_within, whole_hashes}
use Rattle.cluster_machine.specs.Hashes.{NoClash, RunHashes}
use Rattle.store_laws.specs.Hashed.{StepsHash}
use Rattle.world_reads.proofs.Lawful.{lawful_is_run, same_run}
use Rattle.store_model.specs.Run.{World, Moving}
use Rattle.store_laws.proofs.Every.{EveryWorld}
use Rattle.store_laws.proofs.Sound.{IsReachedBy, IsInstalled}
use Rattle.store_laws.proofs.Deeds.{Deed, hashes, hashed_done}

-- the run of the machine: each of its steps is so, and each step does in this world what it does after them
pub record IsEndOf (IsSo : Step AnyRow → Type 0) (v : World) : Type 0 where
  pub first : Layout
  pub roles : List Role → List Role
  pub is_layout : IsLayout layouts 256 first
  pub version : layouts.reading.version first ≡ 1
  pub moves : List Moving
  pub is_run : IsRun any_join words layouts first roles 256 empty moves
  pub leads : machine_run any_join words layouts first roles empty moves ≡ v
  pub same : (m : Moving) → does any_join words v m ≡ machine_does any_join words layouts first roles v m
  pub are : All (λ (m : Moving). IsSo m.step) moves
  pub clear : NoClash (RunHashes words any_join layouts first roles empty moves)

module _ {H : Deed → Type 0} where
  module _ (every : EveryWorld H) (no_clash : NoClash (λ x. H (hashes x))) {IsSo : Step AnyRow → Type 0} (w : World) (r : IsReachedBy H IsSo w) where
    -- nothing was installed
    from_empty : r.begin ≡ empty → IsEndOf IsSo (run any_join words r.begin r.moves)
    from_empty at_empty =
        let lawful : IsLawfulRun any_join words empty r.moves = subst (λ (u : World). IsLawfulRun any_join words u r.moves) at_empty r.lawful in
        subst (IsEndOf IsSo) (ap (λ (u : World). run any_join words u r.moves) (sym at_empty)) (record {
          first = trio;
          roles = stage_trio;
          is_layout = first_is_layout trio trio_is_first;
          version = refl;
          moves = r.moves;
          is_run = lawful_is_run any_join words empty r.moves (every.from_empty.is_sound [] tt) lawful;
          leads = same_run any_join words empty r.moves;
          same = λ m. refl;
          are = r.are;
          clear = clear_within _ (λ x. H (hashes x)) (λ x h. r.done (hashes x) tt (hashed_done r.begin r.moves x (subst (λ (u : World). StepsHash u r.moves x) (sym at_empty) h))) no_clash;
        })

    -- a layout was installed, which is a step of the machine that is so too
    from_installed : IsSo Trio → IsInstalled r.begin r.before → IsEndOf IsSo (run any_join words r.begin r.moves)
    from_installed is was =
        let begin : World = start any_join words r.before was.first in
        let v : World = run any_join words begin r.moves in
        let lawful : IsLawfulRun any_join words begin r.moves = subst (λ (u : World). IsLawfulRun any_join words u r.moves) was.is r.lawful in
        let sound = every.from_empty.is_sound [] tt in
        let more : begin.applied ≤ v.applied = applied_more any_join words was.first begin r.moves in
        let one : begin.applied ≡ (run any_join words empty r.before).applied + 1 = refl in
        subst (IsEndOf IsSo) (ap (λ (u : World). run any_join words u r.moves) (sym was.is)) (record {
          first = was.first;
          roles = λ roles. roles;
          is_layout = first_is_layout was.first was.lawful.first_layout;
          version = was.lawful.first_layout.version;
          moves = whole any_join words was.first r.before r.moves sound was.lawful;
          is_run = whole_is_run any_join words was.first r.before r.moves sound was.lawful lawful;
          leads = whole_same any_join words was.first r.before r.moves sound was.lawful;
          same = λ m. step_same any_join words was.first v m.step m.choice (inl (omega (arith, more, one)));
          are = All-append (λ (m : Moving). IsSo m.step) r.before (first_step ∷ r.moves) r.before_are (All-cons (λ (m : Moving). IsSo m.step) first_step r.moves is r.are);
          clear = clear_within _ (λ x. H (hashes x)) (λ x h. elim (whole_hashes any_join words was.first r.before r.moves sound was.lawful x h) [
            | inl early ↦ r.done_before (hashes x) tt (hashed_done empty r.before x early)
            | inr late ↦ r.done (hashes x) tt (hashed_done r.begin r.moves x (subst (λ (u : World). StepsHash u r.moves x) (sym was.is) late))
          ]) no_clash;
        })

    pub reached_end : IsSo Trio → IsEndOf IsSo (run any_join words r.begin r.moves)
    reached_end is = elim r.begun [ inl at_empty ↦ from_empty at_empty.1 | inr was ↦ from_installed is was ]
