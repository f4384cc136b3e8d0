-- What a world shows of its nodes, and when it can't show one.
use Rattle.std.specs.Prelude.{◌≡◌, ℕ, Bool, List, IsTrue, flat_map}
use Rattle.std.specs.List.{list_any}
use Rattle.crdt_rows.specs.AnyRow.{any_join}
use Rattle.object_schema.specs.Schema.{words}
use Rattle.table_model.specs.Rows.{rows}
use Rattle.table_model.specs.Top.{any_unspelled}
use Rattle.cluster_machine.specs.Ties as ties
use Rattle.store_model.specs.Run.{World}
use Rattle.text_model.specs.Transcript.{line_at}
use Rattle.s3_world.specs.declared.world.S3World.{S3World}
use Rattle.s3_world.specs.Stands.{IsStore}

-- node n of a world has a row without a spelling
abbrev pub is_unshown : World → ℕ → Bool
is_unshown w n = any_unspelled words (rows any_join words (w.nodes n).accepted)

-- whatever state the code's world stands for, this is the line of node n
abbrev pub ShowsNode : S3World → ℕ → List ℕ → Type 0
ShowsNode world n text = ties.Steps IsStore world (λ s. text ≡ line_at s.world n)

-- whatever state it stands for, these are the lines of these nodes
abbrev pub ShowsNodes : S3World → List ℕ → List ℕ → Type 0
ShowsNodes world nodes text = ties.Steps IsStore world (λ s. text ≡ flat_map (line_at s.world) nodes)

-- whatever state it stands for, node n can't be shown
abbrev pub CannotShow : S3World → ℕ → Type 0
CannotShow world n = ties.Steps IsStore world (λ s. IsTrue (is_unshown s.world n))

-- whatever state it stands for, one of these nodes can't
abbrev pub CannotShowSome : S3World → List ℕ → Type 0
CannotShowSome world nodes = ties.Steps IsStore world (λ s. IsTrue (list_any (is_unshown s.world) nodes))
