-- What is done where a test passes.
use Rattle.std.proofs.Common.{◌≡◌, ℕ, suc, Bool, true, false, Option, List, refl, ap, sym, ◌∙◌}
use Rattle.crdt_rows.specs.declared.version.Version.{Version}
use Rattle.crdt_rows.specs.declared.any_row.AnyRow.{AnyRow}
use Rattle.wire_messages.specs.declared.phase.Phase.TheVariants.{Store}
use Rattle.flow_model.specs.declared.flow.Name.{Name}
use Rattle.flow_model.specs.declared.flow.Content.{Content}
use Rattle.flow_model.specs.declared.flow.Wish.TheVariants as wish
use Rattle.flow_model.specs.declared.flow.Stage.TheVariants.{Uploading}
use Rattle.flow_model.specs.Blocks.{has_piece, is_long}
use Rattle.flow_model.specs.Rows.{block_rows, in_blocks, inline, complete}
use Rattle.flow_model.specs.Next.{more, completes, uploads}

at_true : {A : Type 0} (b : Bool) (x y : A) → b ≡ true → elim b [ true ↦ x | false ↦ y ] ≡ x
at_true true x y e = refl
at_true false x y e = cc

-- the block that is there is stored next
pub next_block : (id block : ℕ) (name : Name) (version : Version) (c : Content) (stored later : ℕ) (made : List (AnyRow × Option (List ℕ))) → later ≡ suc stored →
    has_piece block c.body stored ≡ true → made ≡ block_rows version.id block c.body stored →
    more id block (Uploading name version c later) (Store made) ≡ uploads id block name version c stored
next_block id block name version c stored later made is_later here is_made =
    ap (λ k. more id block (Uploading name version c k) (Store made)) is_later
    ∙ (ap (λ rows. more id block (Uploading name version c (suc stored)) (Store rows)) is_made
    ∙ sym (at_true (has_piece block c.body stored) (more id block (Uploading name version c (suc stored)) (Store (block_rows version.id block c.body stored))) (completes id block name version (wish.Content c)) here))

-- bytes that are long are complete in blocks
pub complete_long : (name : Name) (version : Version) (block : ℕ) (c : Content) (row : AnyRow) → is_long c.body ≡ true → row ≡ in_blocks name version block c → row ≡ complete name version block (wish.Content c)
complete_long name version block c row long is = is ∙ sym (at_true (is_long c.body) (in_blocks name version block c) (inline name version c) long)

at_false : {A : Type 0} (b : Bool) (x y : A) → b ≡ false → elim b [ true ↦ x | false ↦ y ] ≡ y
at_false true x y e = cc
at_false false x y e = refl

-- others in their row
pub complete_short : (name : Name) (version : Version) (block : ℕ) (c : Content) (row : AnyRow) → is_long c.body ≡ false → row ≡ inline name version c → row ≡ complete name version block (wish.Content c)
complete_short name version block c row short is = is ∙ sym (at_false (is_long c.body) (in_blocks name version block c) (inline name version c) short)
