-- What the end of a collection makes of a node.
use Rattle.std.specs.Prelude.{◌≡◌, ℕ, ◌==◌, ◌&&◌, Bool, true, false, cond, List, Option, Some, None, refl}
use Rattle.std.proofs.Common.{ap, sym, ◌∙◌, subst}
use Rattle.std.proofs.lemmas.Bool.{and_parts, both_ways}
use Rattle.blake2_hash.specs.Blake2b.{blake2b}
use Rattle.blake2_hash.specs.declared.digest.Hash32.{Hash32}
use Rattle.layout_roles.specs.declared.layout.Layout.{Layout}
use Rattle.gc_model.specs.declared.collection.Collection.{Collection}
use Rattle.table_schema.specs.Words.{Words}
use Rattle.table_schema.specs.Laws.{Laws}
use Rattle.table_model.specs.Rows.{find_row, row_at}
use Rattle.table_gc.proofs.Keyed.{same_key}
use Rattle.wire_messages.specs.declared.message.Message.TheVariants.{Forget}
use Rattle.cluster_machine.specs.Node.{Node, Did, quiet}
use Rattle.cluster_machine.specs.Phases.{bytes_of, is_spelled, to_each}
use Rattle.cluster_machine.specs.Rows.{same_bytes}
use Rattle.cluster_machine.specs.Collects.{drops_row, has_bytes, others, without_row}
use Rattle.node_parts.specs.declared.collector.Collector.{Collector}
use Rattle.node_parts.specs.declared.contents.Contents.{Contents}
use Rattle.node_parts.specs.declared.packet.Envelope.{Envelope}
use Rattle.node_parts.specs.Collects.{ends_row, marker_of}
use Rattle.node_parts.specs.Contents.{IsContents, Became}
use Rattle.node_parts.specs.Posts.{Posts}
use Rattle.node_parts.proofs.Posting.{posts_none}
use Rattle.node_parts.proofs.TombSteps.{became_same, found_is}

module _ {S R : Type 0} {join : R → R → R} {s : Words R} (laws : Laws join s) (contents : Contents S R) (x : Node R Layout) (is : IsContents join s contents x) (c : Collector) (o : Collection) (out : List (Envelope R)) where
  abbrev row : Option R
  row = row_at join s x.accepted 1 o.key

  abbrev ended : Option R → Bool → Did R Layout
  ended r b = cond b (drops_row join s c.node x o r) (quiet x)

  stands_is : (b : Bool) → ((c.newest == o.newest) && has_bytes join s o.row (find_row s 1 o.key contents.table)) ≡ b → ((c.newest == o.newest) && has_bytes join s o.row row) ≡ b
  stands_is b stands = ap (λ r. (c.newest == o.newest) && has_bytes join s o.row r) (sym (found_is laws contents x is 1 o.key o.row)) ∙ stands

  -- the row or the newest version has changed
  pub ends_none : ((c.newest == o.newest) && has_bytes join s o.row (find_row s 1 o.key contents.table)) ≡ false →
      Became join s contents x (ends_row join s c x o).node × Posts c.node out out (ends_row join s c x o).posts × (None ≡ (ends_row join s c x o).dropped)
  ends_none other =
      subst (λ b. Became join s contents x (ended row b).node × Posts c.node out out (ended row b).posts × (None ≡ (ended row b).dropped)) (sym (stands_is false other)) (became_same contents x is, posts_none c.node out, refl)

  -- neither has, and the row was dropped
  module _ (new : Contents S R) (later : List (Envelope R)) (dropped : Option (ℕ × ℕ)) (hash : Hash32) (hash-is : hash.0 ≡ blake2b 32 o.row) (drops : Became join s new x (without_row join s x 1 o.key))
      (posts : Posts c.node out later (to_each (others c.node) (Forget 1 o.key hash))) where
    it_by : (r : Option R) → has_bytes join s o.row r ≡ true → dropped ≡ marker_of s r → Became join s new x (ended r true).node × Posts c.node out later (ended r true).posts × (dropped ≡ (ended r true).dropped)
    it_by None has marker = absurd (both_ways false refl has)
    it_by (Some r) has marker =
        let bytes : bytes_of s r ≡ o.row = same_key (bytes_of s r) o.row (and_parts (is_spelled s r) (same_bytes (bytes_of s r) o.row) has).1 in
        let digest = hash-is ∙ ap (blake2b 32) (sym bytes) in
        (drops, subst (λ h. Posts c.node out later (to_each (others c.node) (Forget 1 o.key h))) (λ i. record { 0 = digest i }) posts, marker)

    pub ends_it : ((c.newest == o.newest) && has_bytes join s o.row (find_row s 1 o.key contents.table)) ≡ true → dropped ≡ marker_of s (find_row s 1 o.key contents.table) →
        Became join s new x (ends_row join s c x o).node × Posts c.node out later (ends_row join s c x o).posts × (dropped ≡ (ends_row join s c x o).dropped)
    ends_it stands marker =
        let same = stands_is true stands in
        subst (λ b. Became join s new x (ended row b).node × Posts c.node out later (ended row b).posts × (dropped ≡ (ended row b).dropped)) (sym same)
        (it_by row (and_parts (c.newest == o.newest) (has_bytes join s o.row row) same).1 (marker ∙ ap (marker_of s) (found_is laws contents x is 1 o.key o.row)))
