-- What a streamed put does, phase by phase: it stores the rows of the put of its bytes, and needs its client after each phase but the last.
use Rattle.std.proofs.Common.{◌≡◌, ℕ, suc, true, false, Option, Some, None, List, [], ◌∷◌, length, refl, sym, ap, ◌∙◌}
use Rattle.crdt_rows.specs.declared.version.Version.{Version}
use Rattle.crdt_rows.specs.declared.any_row.AnyRow.{AnyRow}
use Rattle.wire_messages.specs.declared.phase.Phase.TheVariants.{Store}
use Rattle.wire_messages.specs.declared.phase.PhaseEnd.TheVariants.{Row, Kept}
use Rattle.flow_model.specs.declared.flow.Name.{Name}
use Rattle.flow_model.specs.declared.flow.Content.{Content}
use Rattle.flow_model.specs.declared.flow.Wish.TheVariants as wish
use Rattle.flow_model.specs.declared.flow.Stage.TheVariants.{Drawing, Completing}
use Rattle.flow_model.specs.declared.flow.Flow.{Flow}
use Rattle.flow_model.specs.declared.flow.FlowStep.TheVariants.{More, Need, End}
use Rattle.flow_model.specs.Blocks.{piece, has_piece, is_long}
use Rattle.flow_model.specs.Rows.{meta_of, in_blocks, block_rows}
use Rattle.flow_model.specs.Next.{drawn, writes, next}
use Rattle.flow_model.specs.Streams.{Step, need_of, fed, finished}
use Rattle.flow_laws.specs.Streams.{coming_of, receiving, needing}
use Rattle.flow_laws.proofs.Streaming.{wants_next, fed_next, finished_whole}
use Rattle.plain_laws.proofs.Parts.{IsCount, rows_at, end, complete_is}

module _ (q : ℕ) (name : Name) (version : Version) (block : ℕ) (c : Content) (long : is_long c.body ≡ true) (count : ℕ) (counts : IsCount block c.body count) where
  -- it reads the row of its object
  abbrev pub reading : Flow
  reading = record { id = q; block = block; stage = Drawing name (wish.Stream (coming_of c)) }

  -- so many blocks have come, and the last of them is being stored
  abbrev pub receives : ℕ → Flow
  receives i = receiving q block name version c i

  -- they are stored: it needs the next one, or is to be told that all have come
  abbrev pub needs : ℕ → Flow
  needs i = needing q block name version c i

  -- all have come and are to be kept
  abbrev pub completing : Flow
  completing = record { id = q; block = block; stage = Completing version (Some (meta_of c)) }

  abbrev stored_rows : ℕ → List (AnyRow × Option (List ℕ))
  stored_rows j = rows_at q name version block c long count counts j

  abbrev sizes : ℕ → ℕ
  sizes i = length (piece block c.body i)

  -- where it has read, and draws this version
  pub announces_so : (value : Option AnyRow) (now : ℕ) → drawn q value now ≡ version → next reading (Row value) now ≡ More (receives 0) (Store (stored_rows 0))
  announces_so value now drawn_is = ap (λ v. writes q block name v (wish.Stream (coming_of c))) drawn_is

  pub needs_so : (i now : ℕ) → next (receives i) Kept now ≡ Need (needs i) (sizes i)
  needs_so i now = ap (Need (needs i)) (wants_next q block c i)

  pub need_is : (i : ℕ) → need_of (needs i) ≡ Some (sizes i)
  need_is i = ap Some (wants_next q block c i)

  abbrev storing : Flow → List (AnyRow × Option (List ℕ)) → Step
  storing flow rows = Some (flow, Store rows)

  pub feeds_so : (i : ℕ) → has_piece block c.body i ≡ true → fed (needs i) (piece block c.body i) ≡ Some (receives (suc i), Store (stored_rows (suc i)))
  feeds_so i here =
      fed_next q block name version c i here
      ∙ ap (λ b. storing (receives (suc i)) (elim b as (λ b. List (AnyRow × Option (List ℕ))) [ true ↦ block_rows version.id block c.body i | false ↦ (in_blocks name version block c, None) ∷ [] ])) (sym here)

  pub keeps_so : finished (needs count) ≡ Some (completing, Store (stored_rows (suc count)))
  keeps_so =
      finished_whole q block name version c count counts.no_more
      ∙ (ap (λ r. storing completing ((r, None) ∷ [])) (complete_is q name version block c long count counts)
      ∙ ap (λ b. storing completing (elim b as (λ b. List (AnyRow × Option (List ℕ))) [ true ↦ block_rows version.id block c.body count | false ↦ (in_blocks name version block c, None) ∷ [] ])) (sym counts.no_more))

  pub completes_so : (now : ℕ) → next completing Kept now ≡ End (end q name version block c long count counts)
  completes_so now = refl
