use Rattle.std.proofs.Common.{◌≡◌, [], ◌∷◌, OnOk, ap, sym, subst, ◌∙◌}
use Rattle.crdt_core.specs.Entries.{merged}
use Rattle.crdt_core.specs.EntryLaws.{ascending_merged}
use Rattle.crdt_core.specs.Map.{map_join, map_single}
use Rattle.crdt_core.specs.MapLaws.{same_map, map_join-entries}
use Rattle.crdt_core.proofs.Tails.{merged_nil, no_entries, one_entry}
use Rattle.crdt_core.proofs.map.MapCrdt.merge.Goals as goal

-- merging keeps the order
pub invariant_of-self : goal.invariant_of-self
invariant_of-self g c =
    let ours = c.args.self.now in
    let theirs = c.args.other.now in
    record { ascending = rw (c.in_ok-self-in_default.ensures.merged, c.as_slice-in_default.ensures, c.as_slice.ensures) (ascending_merged g.met.K.Ord.total g.V.Crdt.join ours.entries theirs.entries ours.ascending theirs.ascending) }

-- no entry adds nothing
pub returns-in-empty-clause-joined : goal.returns-in-empty-clause-joined
returns-in-empty-clause-joined g c =
    let R = g.K.Ord.cmp in
    let j = g.V.Crdt.join in
    let ours = c.args.self.now in
    let theirs = c.args.other.now in
    let none : theirs.entries ≡ [] = no_entries theirs.entries (rw c.as_slice.ensures at c.in-empty.len_below) in
    same_map _ _ (sym (map_join-entries g.met.K.Ord.total j ours theirs ∙ (ap (merged R j ours.entries) none ∙ merged_nil R j ours.entries)))

-- one entry is joined in at its key
pub returns-in_ok-copy-in-len1-clause-joined : goal.returns-in_ok-copy-in-len1-clause-joined
returns-in_ok-copy-in-len1-clause-joined g c =
    let theirs = c.args.other.now in
    let key = c.in_ok-copy-in-len1.field-0 in
    let e = c.index-key-0.result in
    let f = c.index-v-0.result in
    let one : (e.0, f.1) ∷ [] ≡ theirs.entries = one_entry theirs.entries e f
    (rw c.as_slice.ensures at c.in-len1.len_at_least)
    (rw c.as_slice.ensures at c.in-len1.len_below)
    (rw c.as_slice.ensures at c.index-key-0.is)
    (rw c.as_slice.ensures at c.index-v-0.is) in
    let copied : key ≡ e.0 = c.in_ok-copy-in-len1.ensures.same ∙ ap (λ x. x.0) (sym c.index-key-0.is) in
    let single : map_single key f.1 ≡ theirs = same_map _ _ (ap (λ k. (k, f.1) ∷ []) copied ∙ one) in
    let put = subst (λ (x : g.row.K.Denot × g.row.V.Denot). OnOk c.join_at.result (c.join_at.new.self ≡ map_join g.V.Crdt.join c.args.self.now (map_single key x.1))) (sym c.index-v-0.is) c.join_at.ensures.joined in
    subst (λ m. OnOk c.join_at.result (c.join_at.new.self ≡ map_join g.V.Crdt.join c.args.self.now m)) single put

-- the new map has the merged entries, as the join does
pub returns-in_ok-self-in_default-clause-joined : goal.returns-in_ok-self-in_default-clause-joined
returns-in_ok-self-in_default-clause-joined g c =
    same_map _ _ (rw (c.in_ok-self-in_default.ensures.merged, c.as_slice-in_default.ensures, c.as_slice.ensures) (sym (map_join-entries g.met.K.Ord.total g.V.Crdt.join c.args.self.now c.args.other.now)))
