-- A request phase by phase.
use Rattle.std.proofs.Common.{◌≡◌, ℕ, suc, Bool, true, false, Some, List, ◌∷◌, refl, ap, ◌∙◌}
use Rattle.crdt_rows.specs.declared.version.Version.{Version}
use Rattle.crdt_rows.specs.declared.any_row.AnyRow.{AnyRow}
use Rattle.wire_messages.specs.declared.phase.Phase.{Phase}
use Rattle.wire_messages.specs.declared.phase.Phase.TheVariants.{Store}
use Rattle.flow_model.specs.declared.flow.Name.{Name}
use Rattle.flow_model.specs.declared.flow.Content.{Content}
use Rattle.flow_model.specs.declared.flow.Wish.TheVariants as wish
use Rattle.flow_model.specs.declared.flow.Stage.TheVariants.{Uploading, Completing}
use Rattle.flow_model.specs.declared.flow.Flow.{Flow}
use Rattle.flow_model.specs.declared.flow.FlowStep.{FlowStep}
use Rattle.flow_model.specs.declared.flow.FlowStep.TheVariants.{More}
use Rattle.flow_model.specs.Blocks.{has_piece, is_long}
use Rattle.flow_model.specs.Rows as row
use Rattle.flow_model.specs.Next.{next, more, stores, completes, writes, uploads}
use Rattle.flow_laws.specs.Courses.{Ended, phases, comes_to, Runs}

pub at_true : {A : Type 0} (b : Bool) (x y : A) → b ≡ true → elim b [ true ↦ x | false ↦ y ] ≡ x
at_true true x y e = refl
at_true false x y e = cc

pub at_false : {A : Type 0} (b : Bool) (x y : A) → b ≡ false → elim b [ true ↦ x | false ↦ y ] ≡ y
at_false true x y e = cc
at_false false x y e = refl

-- one phase ends, and the request runs on from what it does then
pub go_on : (flow : Flow) (phase : Phase AnyRow) (e : Ended) (es : List Ended) (asked : List (Phase AnyRow)) (step last : FlowStep) → next flow e.0 e.1 ≡ step → Runs step es asked last →
    Runs (More flow phase) (e ∷ es) (phase ∷ asked) last
go_on flow phase e es asked step last does runs = record {
  asks = ap (λ s. phase ∷ phases s es) does ∙ ap (phase ∷◌) runs.asks;
  comes = ap (λ s. comes_to s es) does ∙ runs.comes;
}

-- long bytes are announced
pub announced : (id block : ℕ) (name : Name) (version : Version) (c : Content) → is_long c.body ≡ true →
    writes id block name version (wish.Content c) ≡ more id block (Uploading name version c 0) (stores (row.uploading name version))
announced id block name version c long =
    at_true (is_long c.body) (more id block (Uploading name version c 0) (stores (row.uploading name version))) (completes id block name version (wish.Content c)) long

-- a block that is there is stored
pub stored_next : (id block : ℕ) (name : Name) (version : Version) (c : Content) (i : ℕ) → has_piece block c.body i ≡ true →
    uploads id block name version c i ≡ more id block (Uploading name version c (suc i)) (Store (row.block_rows version.id block c.body i))
stored_next id block name version c i here =
    at_true (has_piece block c.body i) (more id block (Uploading name version c (suc i)) (Store (row.block_rows version.id block c.body i))) (completes id block name version (wish.Content c)) here

-- after the last block the complete version is stored
pub stored_last : (id block : ℕ) (name : Name) (version : Version) (c : Content) (i : ℕ) → is_long c.body ≡ true → has_piece block c.body i ≡ false →
    uploads id block name version c i ≡ more id block (Completing version (Some (row.meta_of c))) (stores (row.in_blocks name version block c))
stored_last id block name version c i long gone =
    at_false (has_piece block c.body i) (more id block (Uploading name version c (suc i)) (Store (row.block_rows version.id block c.body i))) (completes id block name version (wish.Content c)) gone
    ∙ ap (λ r. more id block (Completing version (Some (row.meta_of c))) (stores r)) (at_true (is_long c.body) (row.in_blocks name version block c) (row.inline name version c) long)
