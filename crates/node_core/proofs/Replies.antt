-- A node that stays as it is and answers.
use Rattle.std.proofs.Common.{◌≡◌, ℕ, Bool, true, List, [], ◌∷◌, Option, Some, None, IsSome, option_map, is_some, length, refl, subst}
use Rattle.std.specs.List.{list_all}
use Rattle.layout_roles.specs.declared.layout.Layout.{Layout}
use Rattle.table_schema.specs.Words.{Words}
use Rattle.wire_messages.specs.declared.message.Message.{Message}
use Rattle.wire_messages.specs.declared.message.Message.TheVariants.{Row, Rows}
use Rattle.wire_messages.specs.Size.{size, plus, row_length, rows_length}
use Rattle.cluster_machine.specs.Node.{Node as Model}
use Rattle.cluster_machine.specs.Phases.{to_each, is_spelled}
use Rattle.cluster_machine.specs.Receives.{answers, is_sendable}
use Rattle.node_core.specs.declared.node.Node.{Node}
use Rattle.node_parts.specs.declared.packet.Envelope.{Envelope}
use Rattle.node_parts.specs.Posts.{Posts}
use Rattle.node_core.specs.Stands.{StandsFor, Done}

module _ {S R : Type 0} {join : R → R → R} {s : Words R} where
  -- the node has sent the one message
  pub replies : (c : Node S R) (id : ℕ) (x : Model R Layout) (to : ℕ) (m : Message R) (b : Bool) (old new : List (Envelope R)) →
      StandsFor join s c id x → Posts c.id old new (to_each (to ∷ []) m) → (IsSome (size s m) → b ≡ true) → Done join s c id old new None (record (answers x to m) { is_spelled = b })
  replies c id x to m b old new is sent sized = record {
    stands = is;
    posts = subst (λ n. Posts n old new (to_each (to ∷ []) m)) is.id_is sent;
    ends = refl;
    spelled = λ sizes. sized sizes.0;
  }

module _ {R : Type 0} (join : R → R → R) (s : Words R) where
  plus_some : (a b : Option ℕ) → IsSome (plus a b) → IsSome b
  plus_some None b h = cc
  plus_some (Some a) None h = cc
  plus_some (Some a) (Some b) h = refl

  first_some : (a b : Option ℕ) → IsSome (plus a b) → IsSome a
  first_some None b h = cc
  first_some (Some a) b h = refl

  has_length : (o : Option (List ℕ)) → IsSome (option_map length o) → is_some o ≡ true
  has_length None h = cc
  has_length (Some bytes) h = refl

  -- a row whose length is a number has a spelling
  pub sized_row : (request phase : ℕ) (row : Option R) → IsSome (size s (Row request phase row)) → is_sendable join s row ≡ true
  sized_row request phase None h = refl
  sized_row request phase (Some r) h = has_length (s.spelling r) (plus_some (Some 64) (row_length s r) h)

  all_sized : (rows : List R) → IsSome (rows_length s rows) → list_all (is_spelled s) rows ≡ true
  all_sized [] h = refl
  all_sized (r ∷ rs) h = rw (has_length (s.spelling r) (first_some (row_length s r) (rows_length s rs) h)) (all_sized rs (plus_some (row_length s r) (rows_length s rs) h))

  pub sized_rows : (request phase : ℕ) (rows : List R) (more : Bool) → IsSome (size s (Rows request phase rows more)) → list_all (is_spelled s) rows ≡ true
  sized_rows request phase rows more h = all_sized rows (plus_some (Some 64) (rows_length s rows) h)
