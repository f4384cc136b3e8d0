-- What a list shows, row by row.
use Rattle.std.proofs.Common.{◌≡◌, ℕ, List, [], ◌∷◌, ◌++◌, refl, ap, ◌∙◌}
use Rattle.crdt_rows.specs.declared.object_row.ObjectRow.{ObjectRow}
use Rattle.flow_model.specs.Says.{Said, none, marked, inline, in_blocks, said_by}
use Rattle.store_model.specs.Answers.{Entry, with_entry, entries, versions_of, lines_of}

with_entry_first : (key : List ℕ) (said : Said) (es : List Entry) → with_entry key said es ≡ with_entry key said [] ++ es
with_entry_first key none es = refl
with_entry_first key (marked version) es = refl
with_entry_first key (inline version meta body) es = refl
with_entry_first key (in_blocks version meta first) es = refl

versions_more : (a b : List Entry) → versions_of (a ++ b) ≡ versions_of a ++ versions_of b
versions_more [] b = refl
versions_more (e ∷ a) b = ap ((e.key, e.version) ∷◌) (versions_more a b)

lines_more : (a b : List Entry) → lines_of (a ++ b) ≡ lines_of a ++ lines_of b
lines_more [] b = refl
lines_more (e ∷ a) b = ap ((e.key, e.version.ts, e.version.id, e.meta.size) ∷◌) (lines_more a b)

-- the first row's, then the others'
pub versions_first : (r : ObjectRow) (rs : List ObjectRow) → versions_of (entries (r ∷ rs)) ≡ versions_of (entries (r ∷ [])) ++ versions_of (entries rs)
versions_first r rs = ap versions_of (with_entry_first r.key (said_by r) (entries rs)) ∙ versions_more (entries (r ∷ [])) (entries rs)

pub lines_first : (r : ObjectRow) (rs : List ObjectRow) → lines_of (entries (r ∷ rs)) ≡ lines_of (entries (r ∷ [])) ++ lines_of (entries rs)
lines_first r rs = ap lines_of (with_entry_first r.key (said_by r) (entries rs)) ∙ lines_more (entries (r ∷ [])) (entries rs)
