use Rattle.std.proofs.Common.{Result, Ok, Err, OnOk, OnErr, ap, sym, ◌∙◌}
use Rattle.crdt_core.specs.Map.{map_entries, map_join}
use Rattle.crdt_core.specs.Max.{max_join}
use Rattle.crdt_rows.specs.Newest.{later}
use Rattle.crdt_rows.specs.Settled.{kept_map}
use Rattle.crdt_rows.specs.State.{state_cmp}
use Rattle.crdt_rows.specs.Version.{version_cmp}
use Rattle.crdt_rows.specs.Versions.{is_settled_row, is_sized_row}
use Rattle.crdt_rows.specs.ObjectRowLaws.{same_row}
use Rattle.crdt_rows.proofs.ObjectJoin.{versions_settled, versions_sized, join-bucket, join-key, join-versions}
use Rattle.crdt_rows.proofs.object_row.ObjectRowCrdt.merge.Goals as goal

by_result : {A E P Q C : Type 0} (r : Result A E) → OnOk r P → OnErr r Q → (P → C) → (Q → C) → C
by_result (Ok x) p q f g = f p
by_result (Err e) p q f g = g q

-- the merged versions are settled and sized, as those before were
pub invariant_of-self : goal.invariant_of-self
invariant_of-self c =
    let a = c.args.self.now in
    let b = c.args.other.now in
    let newer = c.later-newest.ensures ∙ (λ i. later version_cmp (c.newest_version.ensures i) (c.newest_version-in-Equal.ensures i)) in
    by_result c.merge_versions.result c.merge_versions.ensures.joined c.merge_versions.ensures.unchanged
    (λ e. let whole = e ∙ ap (λ n. kept_map n (map_join (max_join state_cmp) a.versions b.versions)) newer in record {
      settled = ap (λ m. is_settled_row (map_entries m)) whole ∙ versions_settled a b;
      sized = ap (λ m. is_sized_row (map_entries m)) whole ∙ versions_sized a b;
    })
    (λ e. record {
      settled = ap (λ m. is_settled_row (map_entries m)) e ∙ a.settled;
      sized = ap (λ m. is_sized_row (map_entries m)) e ∙ a.sized;
    })

-- under one key, the versions are those of the join
pub returns-in_ok-merge_versions-in-Equal-clause-joined : goal.returns-in_ok-merge_versions-in-Equal-clause-joined
returns-in_ok-merge_versions-in-Equal-clause-joined c =
    let a = c.args.self.now in
    let b = c.args.other.now in
    let newer = c.later-newest.ensures ∙ (λ i. later version_cmp (c.newest_version.ensures i) (c.newest_version-in-Equal.ensures i)) in
    let whole = c.in_ok-merge_versions-in-Equal.ensures.joined ∙ ap (λ n. kept_map n (map_join (max_join state_cmp) a.versions b.versions)) newer in
    let tied = sym c.in-Equal.ensures in
    same_row _ _ (sym (join-bucket a b tied)) (sym (join-key a b tied)) (whole ∙ sym (join-versions a b tied))
