use Rattle.std.specs.Prelude.{◌≡◌, ◌⊎◌, ℕ, List, Some}
use Rattle.std.specs.Option.{unwrap_or}
use Rattle.std.proofs.Common.{ap, sym, subst, ◌∙◌}
use Rattle.blake2_hash.specs.declared.digest.Hash32.{Hash32}
use Rattle.crdt_rows.specs.declared.version.Version.{Version}
use Rattle.crdt_rows.specs.declared.state.State.TheVariants.{Aborted}
use Rattle.object_origins.specs.Gone.{WasStored, IsOverwritten}
use Rattle.object_origins.proofs.gone_versions_were_overwritten.Goals as goal

pub returns : goal.returns
returns c = λ stored draw drawn id key v is gone.
    let one : Some (gone.key, gone.version) ≡ Some (key, v) = sym (drawn gone.key gone.version gone.state gone.was_stored) ∙ (ap draw gone.id_is ∙ is) in
    let same : (gone.key, gone.version) ≡ (key, v) = ap (λ o. unwrap_or o (gone.key, gone.version)) one in
    subst (λ (p : (Hash32 × List ℕ) × Version). IsOverwritten stored p.0 p.1 ⊎ WasStored stored p.0 p.1 Aborted) same gone.why
