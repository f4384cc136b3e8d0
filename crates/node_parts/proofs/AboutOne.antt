-- What is done about one row, by whether there is a collection of it.
use Rattle.std.specs.Prelude.{◌≡◌, ◌^◌, ◌≤◌, ℕ, ◌+◌, ◌==◌, ◌&&◌, Bool, true, false, cond, List, Some, None, refl}
use Rattle.std.proofs.Common.{ap, sym, ◌∙◌, subst, arith}
use Rattle.std.proofs.lemmas.Bool.{both_ways}
use Rattle.std.specs.Option.{is_some}
use Rattle.layout_roles.specs.declared.layout.Layout.{Layout}
use Rattle.gc_model.specs.declared.collection.Collection.{Collection}
use Rattle.gc_model.specs.Collecting.{Open, begun_with, closed, keyed}
use Rattle.table_schema.specs.Words.{Words}
use Rattle.wire_messages.specs.declared.message.Message.TheVariants.{Tomb}
use Rattle.cluster_machine.specs.Layouts.{layouts}
use Rattle.cluster_machine.specs.Phases.{bytes_of, is_spelled, spelled as bytes_in, to_each}
use Rattle.cluster_machine.specs.Rows.{same_bytes}
use Rattle.cluster_machine.specs.Collects.{Progress, is_aged, others, about}
use Rattle.node_parts.specs.declared.collector.Collector.{Collector}
use Rattle.node_parts.specs.declared.packet.Envelope.{Envelope}
use Rattle.node_parts.specs.Posts.{Posts}
use Rattle.node_parts.specs.Collects.{Begins, CannotAbout, IsDone, about_row, from_here, going_on}
use Rattle.node_parts.proofs.Posting.{posts_none}

module _ {R : Type 0} (join : R → R → R) (s : Words R) (c : Collector) (r : R) (gc : Open) where
  -- bytes that were written are the row's
  pub written : (bytes : List ℕ) → s.spelling r ≡ Some bytes → bytes_of s r ≡ bytes
  written bytes e = ap bytes_in e

  pub is_written : (bytes : List ℕ) → s.spelling r ≡ Some bytes → is_spelled s r ≡ true
  is_written bytes e = ap is_some e

  -- a row that can't be written
  pub not_written : s.spelling r ≡ None → CannotAbout join s c r gc
  not_written none spelled fits = both_ways (is_spelled s r) (ap is_some none) spelled

  module _ (none : keyed (s.key r) gc ≡ None) where
    abbrev begun_row : Progress R Layout
    begun_row = record { gc = begun_with gc (s.key r) (bytes_of s r) c.node c.newest; posts = to_each (others c.node) (Tomb (gc.begun + 1) 1 (bytes_of s r)); begun = 1 }

    begins_is : (b : Bool) → (is_spelled s r && is_aged c.now (s.marker r)) ≡ b → about_row join s c r gc ≡ cond b begun_row (from_here gc)
    begins_is b is = ap (λ o. about join s layouts c.node c.now c.newest r o (from_here gc)) none ∙ ap (λ b. cond b begun_row (from_here gc)) is

    and_false : (a : Bool) → (a && false) ≡ false
    and_false true = refl
    and_false false = refl

    -- no tombstone that is old enough
    pub about_none : (out : List (Envelope R)) → is_aged c.now (s.marker r) ≡ false → IsDone c.node gc out out (about_row join s c r gc)
    about_none out young =
        subst (IsDone c.node gc out out) (sym (begins_is false (ap (λ b. is_spelled s r && b) young ∙ and_false (is_spelled s r)))) (record { gc_is = refl; posts = posts_none c.node out })

    -- one that is
    pub about_begins : (bytes : List ℕ) → s.spelling r ≡ Some bytes → is_aged c.now (s.marker r) ≡ true → (new : Open) (out later : List (Envelope R)) → Begins c (s.key r) bytes gc new out later → IsDone c.node new out later (about_row join s c r gc)
    about_begins bytes spelled old new out later begins =
        let is = written bytes spelled in
        subst (IsDone c.node new out later) (sym (begins_is true (λ i. is_written bytes spelled i && old i)))
        (record {
          gc_is = begins.gc_is ∙ ap (λ row. begun_with gc (s.key r) row c.node c.newest) (sym is);
          posts = subst (λ row. Posts c.node out later (to_each (others c.node) (Tomb (gc.begun + 1) 1 row))) (sym is) begins.posts;
        })

    -- one that would be the 2 ^ 64-th
    pub about_full : (bytes : List ℕ) → s.spelling r ≡ Some bytes → is_aged c.now (s.marker r) ≡ true → 2 ^ 64 ≤ gc.begun + 1 → CannotAbout join s c r gc
    about_full bytes spelled old full written fits =
        let counted = ap (λ t. t.gc.begun) (begins_is true (λ i. is_written bytes spelled i && old i)) in
        absurd (omega (arith, counted, full, fits))

  module _ (o : Collection) (found : keyed (s.key r) gc ≡ Some o) (bytes : List ℕ) (spelled : s.spelling r ≡ Some bytes) where
    open_is : (b : Bool) → (same_bytes bytes o.row && (c.newest == o.newest)) ≡ b → about_row join s c r gc ≡ cond b (going_on join s c o gc) (record (from_here gc) { gc = closed o.number gc })
    open_is b is =
        ap (λ k. about join s layouts c.node c.now c.newest r k (from_here gc)) found
        ∙ ap (λ d. cond d (going_on join s c o gc) (record (from_here gc) { gc = closed o.number gc }))
        ((λ i. (is_written bytes spelled i && same_bytes (written bytes spelled i) o.row) && (c.newest == o.newest)) ∙ is)

    -- the row or the node's newest version has changed
    pub about_closes : (out : List (Envelope R)) → (same_bytes bytes o.row && (c.newest == o.newest)) ≡ false → (new : Open) → new ≡ closed o.number gc → IsDone c.node new out out (about_row join s c r gc)
    about_closes out other new is = subst (IsDone c.node new out out) (sym (open_is false other)) (record { gc_is = is; posts = posts_none c.node out })

    -- neither has
    pub about_goes : (same_bytes bytes o.row && (c.newest == o.newest)) ≡ true → (new : Open) (out later : List (Envelope R)) → IsDone c.node new out later (going_on join s c o gc) → IsDone c.node new out later (about_row join s c r gc)
    about_goes same new out later done = subst (IsDone c.node new out later) (sym (open_is true same)) done
