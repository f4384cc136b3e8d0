use Rattle.std.proofs.Common.{ap, sym, ◌∙◌}
use Rattle.std.specs.List.{list_all}
use Rattle.std.specs.Ordering.{is_lt}
use Rattle.crdt_core.specs.Map.{map_from}
use Rattle.crdt_core.specs.Max.{max_join}
use Rattle.crdt_rows.specs.State.{state_cmp}
use Rattle.crdt_rows.specs.Version.{version_cmp}
use Rattle.crdt_rows.specs.FieldLaws.{version_total, version_identical}
use Rattle.crdt_rows.proofs.Older.{older_merged}
use Rattle.crdt_rows.proofs.object_row.merge_from.Goals as goal
use Rattle.crdt_rows.proofs.object_row.merge_from.Goals.{then-not-are_older+in_ok-merge, else-not-are_older}

-- where the other versions are all older, nothing of them would stay
pub returns-clause-joined : goal.returns-clause-joined
returns-clause-joined c =
    c.keep_from.ensures ∙ elim c.if-not-are_older.branch [
      | then-not-are_older+in_ok-merge w ↦ ap (map_from c.args.version.now) (w.ours-is ∙ w.in_ok-merge.ensures.joined)
      | else-not-are_older w ↦ ap (map_from c.args.version.now) w.ours-is ∙ older_merged version_total version_identical (max_join state_cmp) c.args.version.now c.args.ours.now c.args.theirs.now (ap (list_all (λ e. is_lt (version_cmp e.0 c.args.version.now))) (sym c.as_slice.ensures) ∙ (sym c.are_older.ensures ∙ w.if-not-are_older.false))
    ]
