-- What a request has read of an object whose row it asked for: a version that a write drew for it, and that is not below what was acknowledged before the request began.
use Rattle.std.specs.Prelude.{◌≡◌, ◌⊎◌, ℕ, Option, Some, List, ◌∷◌, ◌++◌}
use Rattle.std.proofs.Common.{ap, sym, subst, ◌∙◌, inl, inr}
use Rattle.std.specs.List.{Contains}
use Rattle.crdt_core.specs.Order.{option_join}
use Rattle.crdt_rows.specs.declared.version.Version.{Version}
use Rattle.crdt_rows.specs.declared.object_row.ObjectRow.{ObjectRow}
use Rattle.crdt_rows.specs.declared.any_row.AnyRow.{AnyRow}
use Rattle.crdt_rows.specs.declared.any_row.AnyRow.TheVariants as rows
use Rattle.crdt_rows.specs.AnyRow.{any_join}
use Rattle.object_schema.specs.Schema.{words}
use Rattle.object_collects.specs.Seen.{object_versions}
use Rattle.collect_reads.specs.Clean.{GaveNotBelow}
use Rattle.table_model.specs.Rows.{row_at}
use Rattle.cluster_machine.specs.Kept.{IsOver}
use Rattle.cluster_machine.specs.Node.{read}
use Rattle.cluster_machine.specs.World.{numbered}
use Rattle.history_model.specs.declared.record.Kind.{Kind}
use Rattle.history_model.specs.declared.record.Record.{Record}
use Rattle.history_model.specs.Fresh.{Below}
use Rattle.flow_model.specs.declared.flow.Name.{Name}
use Rattle.flow_model.specs.declared.flow.Aim.{Aim}
use Rattle.flow_model.specs.declared.flow.Stage.TheVariants.{Looking}
use Rattle.flow_model.specs.declared.flow.Flow.{Flow}
use Rattle.flow_model.specs.Rows.{row_key}
use Rattle.flow_model.specs.Says.{Said, none, said_by, said_of}
use Rattle.store_model.specs.Run.{Moving, State, Asked}
use Rattle.store_collects.proofs.Clean.{GaveClean}
use Rattle.store_laws.proofs.Clean.{reached_clean, reached_gone}
use Rattle.store_laws.proofs.Covering.{IsSaid, IsHere}
use Rattle.store_laws.proofs.Gone.{IsPassed, IsCovering, value_covers}
use Rattle.store_laws.proofs.Ends.{HasRead}
use Rattle.store_laws.proofs.Going.{flow_of}
use Rattle.store_laws.proofs.Rows.{IsFound, IsValue, found}
use Rattle.store_laws.proofs.Sound.{AsksFor, AsksRow, HasKept, IsSound, WasAcknowledged, began}
use Rattle.store_laws.proofs.Values.{given_good, says_row}
use Rattle.store_anchors.proofs.Cited.{Cited}
use Rattle.store_anchors.proofs.Laid.{IsLaidIn}
use Rattle.store_anchors.proofs.Reading.{gave}
use Rattle.store_laws.proofs.Deeds.{Deed, IsSafe}

module _ {H : Deed → Type 0} where
  module _ (cited : Cited H) (moves : List Moving) (s : State) (sound : IsSound H s) (laid : IsLaidIn H moves s) (q : ℕ) (a : Asked) (at : numbered s.asked q ≡ Some a) (block : ℕ) (name : Name) (aim : Aim) (flow_is : a.flow ≡ Some (flow_of q block (Looking name aim))) (value : Option AnyRow) (h : HasRead s.asked s.history s.world.reads q value) where
    -- the row that it asked for is the object's
    asks : AsksRow name h.question
    asks =
        let w = h.is_asking.waits in
        let some_is : Some w.one ≡ Some a = sym w.is_there ∙ at in
        let one_is : w.one ≡ a = cc in
        let flows : Some w.flow ≡ Some (flow_of q block (Looking name aim)) = sym w.flow_is ∙ (ap (λ (x : Asked). x.flow) one_is ∙ flow_is) in
        let same : w.flow ≡ flow_of q block (Looking name aim) = cc in
        subst (λ (f : Flow). AsksFor f.stage h.question) same h.is_asking.asks

    value_known : (row : AnyRow) → value ≡ Some row → IsValue s.draws name row
    value_known row e =
        let good = given_good cited.every s q sound value h row e in
        let from = gave cited moves s sound laid h.question row (subst (λ (v : Option AnyRow). Contains s.world.reads (read h.question v)) e h.is_there) in
        let table : words.table row ≡ 1 = from.1 ∙ asks.0 in
        record { is_of = good.0; table = table; key = from.2 ∙ asks.1; is_proper = good.1 table }

    -- each version that a row says was drawn for the object
    object_found : (r : ObjectRow) → value ≡ Some (rows.Object r) → IsFound s.draws r name (said_by r)
    object_found r e = let known = value_known (rows.Object r) e in found s.draws r name known.is_of known.key

    pub said_found : (said : Said) → said_of value ≡ said → (said ≡ none → ⊥) → (r : ObjectRow) × IsFound s.draws r name said
    said_found said e some = let row = says_row value said e some in (row.0, subst (IsFound s.draws row.0 name) row.2 (object_found row.0 row.1))

    value_here : (row : AnyRow) → value ≡ Some row → IsHere (row_key name) row
    value_here row e = let known = value_known row e in record { table = known.table; key_is = known.key; is_proper = known.is_proper }

    -- it is an object's row, which covers what was acknowledged before, or a marker that was collected covers that
    covered : IsSafe H → (before after : List Record) (n : ℕ) (kind : Kind) (own : Name) (w : Version) → s.history ≡ before ++ began q n kind own ∷ after → WasAcknowledged before name w →
        IsCovering value w ⊎ IsPassed s.draws s.world.collected name value w
    covered safe before after n kind own w cut ack =
        let k : HasKept h.question.kept name w = h.is_asking.has before after n kind own cut name w ack in
        let g : GaveClean s.world.collected (read h.question value) = reached_clean cited.every s.world sound.reached (record { apart = cited.clear; safe = safe }) (read h.question value) h.is_there in
        let P : ℕ → List ℕ → Type 0 = λ t i. IsOver any_join words (option_join any_join (row_at any_join words g.collected t i) value) (row_at any_join words h.question.kept t i) in
        let over : P 1 (row_key name) = subst (P 1) asks.1 (subst (λ (t : ℕ). P t h.question.key) asks.0 g.kept) in
        value_covers s.draws s.world.collected g.collected g.among g.marked (reached_gone cited.every s.draws s.world sound.reached) name value
        (λ r u there marked same row e.
        let here = value_here row e in
        subst (λ (v : Option AnyRow). GaveNotBelow words object_versions (words.key r) u (read h.question v)) e (g.clean r u there marked) here.table (here.key_is ∙ sym same))
        w k.block k.wish h.question.kept h.is_asking.proper k.is_there value_here over

    -- so the version that is said is not below that
    pub not_below : IsSafe H → (before after : List Record) (n : ℕ) (kind : Kind) (own : Name) → s.history ≡ before ++ began q n kind own ∷ after → (said : Said) (v : Version) → said_of value ≡ said → IsSaid v said → ((u : Version) → IsSaid u said → v ≡ u) →
        (w : Version) → WasAcknowledged before name w → ¬ Below v w
    not_below safe before after n kind own cut said v e mine one w ack = elim (covered safe before after n kind own w cut ack) [
      | inl c ↦
          let says : said_by c.row ≡ said = sym (ap said_of c.value_is) ∙ e in
          subst (λ (u : Version). ¬ Below u w) (sym (one c.covers.version (subst (IsSaid c.covers.version) says c.covers.says))) c.covers.not_below
      | inr p ↦ p.not_below v (subst (IsSaid v) (sym e) mine)
    ]
