use Rattle.std.proofs.Common.{◌≡◌, set, refl, sym, ◌∙◌}
use Rattle.std.proofs.lemmas.List.{set-get_or}
use Rattle.crdt_core.specs.Map.{map_single}
use Rattle.crdt_core.specs.MapLaws.{same_map, map_join-entries}
use Rattle.crdt_core.specs.Places.{IsAt, IsGap}
use Rattle.crdt_core.proofs.PlaceLemmas.{merged_set, merged_gap, ascending_merged_one, ascending_set, read_some, by_result, on_err}
use Rattle.crdt_core.proofs.map.Map.join_at.Goals as goal

-- a new value under the old key
pub invariant_of-self : goal.invariant_of-self
invariant_of-self g c =
    let es = c.args.self.now.entries in
    record { ascending = ascending_set g.K.Ord.cmp c.at_mut-entry.result.now c.merge.new.self es c.in-Ok.i c.at_mut-entry.ensures.value ∙ c.args.self.now.ascending }

-- the value at the key is joined with the new one
pub returns-in_ok-merge-in-Ok-clause-joined : goal.returns-in_ok-merge-in-Ok-clause-joined
returns-in_ok-merge-in-Ok-clause-joined g c =
    let es = c.args.self.now.entries in
    let at : IsAt g.K.Ord.cmp c.args.key es c.in-Ok.i = rw c.as_slice.ensures at c.in-Ok.ensures.found in
    let entries = merged_set g.K.Ord.cmp c.args.key g.V.Crdt.join c.args.v.now es c.in-Ok.i _ _ at (read_some es c.in-Ok.i _ c.at_mut-entry.ensures.value) c.in_ok-merge-in-Ok.ensures.joined in
    same_map _ _ (entries ∙ sym (map_join-entries g.met.K.Ord.total g.V.Crdt.join c.args.self.now (map_single c.args.key c.args.v.now)))

-- a value that could not be joined stays as it was
pub returns-in_err-merge-in-Ok-clause-unchanged : goal.returns-in_err-merge-in-Ok-clause-unchanged
returns-in_err-merge-in-Ok-clause-unchanged g c =
    let es = c.args.self.now.entries in
    let e = c.at_mut-entry.result.now in
    let read = read_some es c.in-Ok.i e c.at_mut-entry.ensures.value in
    let same : set es c.in-Ok.i (e.0, c.merge.new.self) ≡ es = rw (c.in_err-merge-in-Ok.ensures.unchanged, read) (set-get_or es c.in-Ok.i e) in
    on_err c.from_residual.result (same_map _ _ same)

-- the new entry is in its place
pub returns-in_ok-insert-in-Err-clause-joined : goal.returns-in_ok-insert-in-Err-clause-joined
returns-in_ok-insert-in-Err-clause-joined g c =
    let es = c.args.self.now.entries in
    let gap : IsGap g.K.Ord.cmp c.args.key es c.in-Err.i = rw c.as_slice.ensures at c.in-Err.ensures.absent in
    let m = merged_gap g.K.Ord.cmp c.args.key g.V.Crdt.join c.args.v.now es c.in-Err.i gap in
    same_map _ _ (rw (c.in_ok-insert-in-Err.ensures.ok, c.in_ok-copy-in-Err.ensures.same) (sym m)
    ∙ sym (map_join-entries g.met.K.Ord.total g.V.Crdt.join c.args.self.now (map_single c.args.key c.args.v.now)))

pub invariant_of-self-in-Err : goal.invariant_of-self-in-Err
invariant_of-self-in-Err g c =
    let R = g.K.Ord.cmp in
    let es = c.args.self.now.entries in
    let gap : IsGap R c.args.key es c.in-Err.i = rw c.as_slice.ensures at c.in-Err.ensures.absent in
    let m = merged_gap R c.args.key g.V.Crdt.join c.args.v.now es c.in-Err.i gap in
    let kept = ascending_merged_one g.met.K.Ord.total g.V.Crdt.join es c.args.key c.args.v.now c.args.self.now.ascending in
    record {
      ascending = by_result c.insert.result c.insert.ensures.ok c.insert.ensures.err
          (λ e. rw (e, c.in_ok-copy-in-Err.ensures.same, ← m) kept)
          (λ e. rw e c.args.self.now.ascending);
    }

-- nothing was put in
pub returns-in_err-copy-in-Err-clause-unchanged : goal.returns-in_err-copy-in-Err-clause-unchanged
returns-in_err-copy-in-Err-clause-unchanged g c = on_err c.from_residual-in_err-copy-in-Err.result (same_map _ _ refl)

pub returns-in_err-insert-in-Err-clause-unchanged : goal.returns-in_err-insert-in-Err-clause-unchanged
returns-in_err-insert-in-Err-clause-unchanged g c = on_err c.from_residual-in_err-insert-in-Err.result (same_map _ _ c.in_err-insert-in-Err.ensures.err)
