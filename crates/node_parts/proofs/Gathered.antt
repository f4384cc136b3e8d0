-- What is done about the rows at the keys that were gathered is what the machine does about all rows.
use Rattle.std.specs.Prelude.{◌≡◌, ◌≤◌, ◌<◌, ◌^◌, ℕ, ◌+◌, true, List}
use Rattle.std.proofs.Common.{ap, sym, ◌∙◌, subst, arith}
use Rattle.std.specs.List.{filter, list_all}
use Rattle.std.specs.BTreeSet.{BTreeSet}
use Rattle.layout_roles.specs.declared.layout.Layout.{Layout}
use Rattle.gc_model.specs.Collecting.{Open, IsNumbered}
use Rattle.table_schema.specs.Words.{Words}
use Rattle.table_schema.specs.Laws.{Laws}
use Rattle.table_store.specs.Index.{Key}
use Rattle.cluster_machine.specs.Layouts.{layouts}
use Rattle.cluster_machine.specs.Node.{Node}
use Rattle.cluster_machine.specs.Phases.{is_spelled}
use Rattle.cluster_machine.specs.Collects.{looked_at, object_rows, with_rows}
use Rattle.node_parts.specs.declared.collector.Collector.{Collector}
use Rattle.node_parts.specs.declared.contents.Contents.{Contents}
use Rattle.node_parts.specs.declared.packet.Envelope.{Envelope}
use Rattle.node_parts.specs.Contents.{IsContents}
use Rattle.node_parts.specs.Collects.{AboutKeys, CannotAboutKeys, ClosesGone, Collected, IsDone, Looks, about_rows, rows_at}
use Rattle.node_parts.proofs.GoingOn.{rows_count}
use Rattle.node_parts.proofs.Looking.{is_looked_at}
use Rattle.node_parts.proofs.Gathering.{about_keys_is, closed_is, looked_is, rows_looked}

-- the count of collections doesn't fall
pub risen : {S R : Type 0} (join : R → R → R) (s : Words R) (contents : Contents S R) (c : Collector) (old left new : Open) (keys : List Key) (out later : List (Envelope R)) → ClosesGone join s contents old left →
    AboutKeys join s c contents.table keys left new out later → old.begun ≤ new.begun
risen join s contents c old left new keys out later closes about =
    let count = rows_count join s c contents.table (rows_at join s contents.table keys) left in
    let ended = ap (λ o. o.begun) about.done.gc_is in
    let began = ap (λ o. o.begun) closes in
    omega (arith, ended, count, began)

module _ {S R : Type 0} {join : R → R → R} {s : Words R} (laws : Laws join s) (contents : Contents S R) (x : Node R Layout) (is : IsContents join s contents x)
    (c : Collector) (old left : Open) (same : old ≡ x.gc) (closes : ClosesGone join s contents old left) (keys : BTreeSet Key) (looks : Looks join s c.now contents left keys) (numbered : IsNumbered left.begun left.collections) where
  closed_gone : left ≡ with_rows join s layouts x x.gc
  closed_gone = closed_is join s laws contents x is old left same closes

  all_is : about_rows join s c (rows_at join s contents.table keys.keys) left ≡ about_rows join s c (object_rows join s x) (with_rows join s layouts x x.gc)
  all_is = about_keys_is join s laws contents x is c left keys looks numbered ∙ ap (about_rows join s c (object_rows join s x)) closed_gone

  looked_all : rows_at join s contents.table keys.keys ≡ looked_at join s layouts c.now x
  looked_all =
      rows_looked join s laws contents x is c left keys looks
      ∙ (ap (λ g. filter (is_looked_at join s c.node c.now c.newest g) (object_rows join s x)) closed_gone ∙ looked_is join s laws contents x is c.node c.now c.newest)

  -- all was done, and so many began
  pub collected : (new : Open) (out later : List (Envelope R)) (begun : ℕ) → begun + old.begun ≡ new.begun → AboutKeys join s c contents.table keys.keys left new out later → Collected join s x c new out later begun
  collected new out later begun rose about =
      let t = about_rows join s c (rows_at join s contents.table keys.keys) left in
      let count = rows_count join s c contents.table (rows_at join s contents.table keys.keys) left in
      let ended = ap (λ o. o.begun) about.done.gc_is in
      let began = ap (λ o. o.begun) closes in
      let so_many : begun ≡ t.begun = omega (arith, rose, ended, count, began) in
      record {
        done = subst (IsDone c.node new out later) all_is about.done;
        begun_is = so_many ∙ ap (λ u. u.begun) all_is;
        spelled = ap (list_all (is_spelled s)) (sym looked_all) ∙ about.spelled;
      }

  -- it can't be done
  pub not_collected : CannotAboutKeys join s c contents.table keys.keys left → list_all (is_spelled s) (looked_at join s layouts c.now x) ≡ true →
      (about_rows join s c (object_rows join s x) (with_rows join s layouts x x.gc)).gc.begun < 2 ^ 64 → ⊥
  not_collected cannot spelled fits = cannot (ap (list_all (is_spelled s)) looked_all ∙ spelled) (subst (λ u. u.gc.begun < 2 ^ 64) (sym all_is) fits)
