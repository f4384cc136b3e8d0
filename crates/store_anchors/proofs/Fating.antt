-- What requests do keeps what stays so of versions.
use Rattle.std.proofs.Common.{◌≡◌, inl, inr, ℕ, suc, true, false, Option, Some, None, List, [], ◌∷◌, ◌++◌, length, refl, sym, ap, ◌∙◌, subst}
use Rattle.std.specs.Prelude.{⊤}
use Rattle.std.specs.List.{Contains}
use Rattle.std.proofs.lemmas.List.{append-nil}
use Rattle.std.proofs.lemmas.List.Elements.{All-contains, Contains-append_cases}
use Rattle.crdt_rows.specs.declared.version.Version.{Version}
use Rattle.crdt_rows.specs.declared.body.Meta.{Meta}
use Rattle.crdt_rows.specs.declared.version_row.BlockRef.{BlockRef}
use Rattle.crdt_rows.specs.declared.object_row.ObjectRow.{ObjectRow}
use Rattle.crdt_rows.specs.declared.any_row.AnyRow.{AnyRow}
use Rattle.wire_messages.specs.declared.phase.Phase.TheVariants.{Store}
use Rattle.wire_messages.specs.declared.phase.PhaseEnd.{PhaseEnd}
use Rattle.wire_messages.specs.declared.phase.PhaseEnd.TheVariants.{Row as Answered, Window, Kept, Block}
use Rattle.cluster_machine.specs.declared.step.Step.TheVariants as step
use Rattle.cluster_machine.specs.World.{numbered}
use Rattle.machine_origins.specs.Origins.{stored_by, stored_in}
use Rattle.machine_origins.proofs.ByOrigin.{stored_have}
use Rattle.flow_model.specs.declared.flow.Name.{Name}
use Rattle.flow_model.specs.declared.flow.Coming.{Coming}
use Rattle.flow_model.specs.declared.flow.Content.{Content}
use Rattle.flow_model.specs.declared.flow.Wish.{Wish}
use Rattle.flow_model.specs.declared.flow.Wish.TheVariants as wish
use Rattle.flow_model.specs.declared.flow.Aim.{Aim}
use Rattle.flow_model.specs.declared.flow.Aim.TheVariants as aim
use Rattle.flow_model.specs.declared.flow.Stage.{Stage}
use Rattle.flow_model.specs.declared.flow.Stage.TheVariants.{Drawing, Uploading, Receiving, Needing, Aborting, Completing, Looking, Opening, Gathering, Listing}
use Rattle.flow_model.specs.declared.flow.Flow.{Flow}
use Rattle.flow_model.specs.declared.flow.FlowStep.{FlowStep}
use Rattle.flow_model.specs.declared.flow.FlowStep.TheVariants.{More, Need, Wait, End}
use Rattle.flow_model.specs.declared.flow.FlowEnd.TheVariants.{Stored}
use Rattle.flow_model.specs.Blocks.{has_piece, is_long}
use Rattle.flow_model.specs.Rows.{meta_of, content_of, uploading, aborted, complete, version_row, reference_row, block_rows, version_row_at, reference_to}
use Rattle.flow_model.specs.Says.{Said, none, marked, inline, in_blocks, said_of, Named, unnamed, whole, deleted, named_by, shown_rows}
use Rattle.flow_model.specs.Next.{drawn, stores, more, found, looked, reads_on, gathers, opened, lists, completes, uploads, goes_on as flow_goes_on}
use Rattle.store_model.specs.Run.{Moving, State, Asked, Draw, Outcome, phases, plainly, set_flow, draws_of, takes}
use Rattle.store_laws.proofs.Elements.{none_in, only, cons_cases}
use Rattle.store_laws.proofs.Going.{flow_of}
use Rattle.store_laws.proofs.Once.{IsPast, IsOnceIn}
use Rattle.store_laws.proofs.Rows.{IsKnown, complete_row}
use Rattle.store_laws.proofs.Sound.{IsSound}
use Rattle.store_anchors.proofs.Kept.{Past, IsRowOf}
use Rattle.store_anchors.proofs.Laid.{HasUploaded, past, IsLaidIn, stored_more}
use Rattle.store_anchors.proofs.Told.{row_version, row_given_up, complete_given_up, aborted_drawn, one_known}
use Rattle.store_anchors.proofs.Fated.{OfVersion, ArePieces, HaveCome, IsGivenUp, IsFated, IsFatedIn, named_drawn, pieces_with, fated_set}
use Rattle.store_laws.proofs.Deeds.{Deed}

-- after these steps and those of an outcome
abbrev pub OutcomeFated : List Moving → Outcome → Type 0
OutcomeFated ms o = IsFated (stored_in (ms ++ o.moves)) o.state.asked o.state.draws

-- a row of an object names no blocks
abbrev pub NamesNone : AnyRow → Type 0
NamesNone row = (id : ℕ) → OfVersion id row → ⊥

pub complete_names_none : (name : Name) (v : Version) (block : ℕ) (w : Wish) → NamesNone (complete name v block w)
complete_names_none name v block w id of = subst (OfVersion id) (complete_row name v block w).1 of

-- a stage in which no bytes come
abbrev pub NoStream : Stage → Type 0
NoStream stage = (stored : List AnyRow) (block : ℕ) → HaveCome stored block stage

-- a step that stores nothing, and in whose stage no bytes come
abbrev pub IsQuiet : ℕ → FlowStep → Type 0
IsQuiet q (More g phase) = (stored_by (phases q phase).step ≡ []) × NoStream g.stage
IsQuiet q (Need g wanted) = NoStream g.stage
IsQuiet q (Wait g) = NoStream g.stage
IsQuiet q (End end) = ⊤

module _ (q block : ℕ) where
  found_quiet : (aim : Aim) (v : Version) (meta : Meta) (body : List ℕ) → IsQuiet q (found q block aim v meta body)
  found_quiet aim.Get v meta body = tt
  found_quiet aim.Head v meta body = tt
  found_quiet (aim.Copy name headers) v meta body = (refl, λ stored size. tt)

  gathers_quiet : (aim : Aim) (v : Version) (meta : Meta) (left : List BlockRef) (body : List ℕ) → IsQuiet q (gathers q block aim v meta left body)
  gathers_quiet aim v meta [] body = found_quiet aim v meta body
  gathers_quiet aim v meta (b ∷ left) body = (refl, λ stored size. tt)

  opened_quiet : (aim : Aim) (v : Version) (meta : Meta) (n : Named) → IsQuiet q (opened q block aim v meta n)
  opened_quiet aim v meta unnamed = λ stored size. tt
  opened_quiet aim v meta (whole blocks) = gathers_quiet aim v meta blocks []
  opened_quiet aim v meta deleted = tt

  reads_on_quiet : (aim : Aim) (v : Version) (meta : Meta) → IsQuiet q (reads_on q block aim v meta)
  reads_on_quiet aim.Get v meta = (refl, λ stored size. tt)
  reads_on_quiet aim.Head v meta = tt
  reads_on_quiet (aim.Copy name headers) v meta = (refl, λ stored size. tt)

  looked_quiet : (aim : Aim) (said : Said) → IsQuiet q (looked q block aim said)
  looked_quiet aim none = tt
  looked_quiet aim (marked v) = tt
  looked_quiet aim (inline v meta body) = found_quiet aim v meta body
  looked_quiet aim (in_blocks v meta first) = reads_on_quiet aim v meta

  lists_quiet : (bucket prefix : List ℕ) (rs : List ObjectRow) (reach : Option (List ℕ)) → IsQuiet q (lists q block bucket prefix rs reach)
  lists_quiet bucket prefix rs None = tt
  lists_quiet bucket prefix rs (Some after) = (refl, λ stored size. tt)

module _ {H : Deed → Type 0} where
  module _ (ms : List Moving) (s : State) (sound : IsSound H s) (once : IsOnceIn s) (laid : IsLaidIn H ms s) (fated : IsFatedIn ms s) (q : ℕ) (a : Asked) (at : numbered s.asked q ≡ Some a) where
    abbrev stored : List AnyRow
    stored = stored_in ms

    abbrev p : Past
    p = past ms s.world s.draws

    each : (row : AnyRow) → Contains stored row → IsRowOf p row
    each row c = All-contains (IsRowOf p) stored row (stored_have (IsRowOf p) ms laid.stored) c

    -- the draws of the request
    request_of : (d : Draw) → Contains s.draws d → d.version.id ≡ q → d.request ≡ q
    request_of d c e = sym (sound.drawn d c).id_is ∙ e

    abbrev pub StepFated : List Draw → FlowStep → Type 0
    StepFated ds st = OutcomeFated ms (takes s q a ds st)

    -- what is known after a step that stores these rows
    pub one_step : (m : Moving) (asked : List Asked) (draws : List Draw) → IsFated (stored ++ stored_by m.step) asked draws → IsFated (stored_in (ms ++ m ∷ [])) asked draws
    one_step m asked draws h = subst (λ (rs : List AnyRow). IsFated rs asked draws) (sym (stored_more ms m)) h

    no_step : (asked : List Asked) (draws : List Draw) → IsFated (stored ++ []) asked draws → IsFated (stored_in (ms ++ [])) asked draws
    no_step asked draws h = subst (λ (k : List Moving). IsFated (stored_in k) asked draws) (sym (append-nil ms)) (subst (λ (rs : List AnyRow). IsFated rs asked draws) (append-nil stored) h)

    -- ---- nothing is stored or drawn

    module _ (f : Flow) (flow_is : a.flow ≡ Some f) where
      fated_still : (flow : Option Flow) → ((g : Flow) → flow ≡ Some g → HaveCome (stored ++ []) g.block g.stage) → ((g : Flow) → flow ≡ Some g → IsGivenUp f.stage → IsGivenUp g.stage) → IsFated (stored ++ []) (set_flow s q a flow) s.draws
      fated_still flow come keep = fated_set s sound stored fated q a at [] [] flow
          (λ d c. absurd (none_in d c)) (λ row id c of. absurd (none_in row c))
          (λ d c k own is. pieces_with stored [] d.version.id d.block c.body (fated.pieces d c k is) (λ row there of. none_in row there))
          come
          (λ d c k own. (let was : Contains stored (aborted d.name d.version) = subst (λ (rs : List AnyRow). Contains rs (aborted d.name d.version)) (append-nil stored) k in (
            (λ e there own_e known. fated.never_both d e c was there ((sound.drawn e there).id_is ∙ (own_e ∙ sym own) ∙ sym (sound.drawn d c).id_is) known),
            (λ g is. keep g is (fated.over d a f c was (ap (numbered s.asked) own ∙ at) flow_is)),
          )))
          (λ d c k. absurd (none_in _ k))

      quiet_fated : (IsGivenUp f.stage → ⊥) → (st : FlowStep) → IsQuiet q st → StepFated [] st
      quiet_fated going (More g phase) h =
          one_step (phases q phase) (set_flow s q a (Some g)) s.draws (subst (λ (rs : List AnyRow). IsFated (stored ++ rs) (set_flow s q a (Some g)) s.draws) (sym h.0)
          (fated_still (Some g) (λ x is. (let same : g ≡ x = cc in subst (λ (y : Flow). HaveCome (stored ++ []) y.block y.stage) same (h.1 (stored ++ []) g.block))) (λ x is up. absurd (going up))))
      quiet_fated going (Need g wanted) h = no_step (set_flow s q a (Some g)) s.draws (fated_still (Some g) (λ x is. (let same : g ≡ x = cc in subst (λ (y : Flow). HaveCome (stored ++ []) y.block y.stage) same (h (stored ++ []) g.block))) (λ x is up. absurd (going up)))
      quiet_fated going (Wait g) h = no_step (set_flow s q a (Some g)) s.draws (fated_still (Some g) (λ x is. (let same : g ≡ x = cc in subst (λ (y : Flow). HaveCome (stored ++ []) y.block y.stage) same (h (stored ++ []) g.block))) (λ x is up. absurd (going up)))
      quiet_fated going (End end) h = one_step (plainly (step.Close q)) (set_flow s q a None) s.draws (fated_still None (λ x is. cc) (λ x is up. cc))

      -- the request waits on, or for something else of the same version
      waits_fated : (g : Flow) → HaveCome stored g.block g.stage → (IsGivenUp f.stage → IsGivenUp g.stage) → IsFated (stored_in (ms ++ [])) (set_flow s q a (Some g)) s.draws
      waits_fated g come keep = no_step (set_flow s q a (Some g)) s.draws (fated_still (Some g)
          (λ x is. (let same : g ≡ x = cc in subst (λ (y : Flow). HaveCome (stored ++ []) y.block y.stage) same (subst (λ (rs : List AnyRow). HaveCome rs g.block g.stage) (sym (append-nil stored)) come)))
          (λ x is up. (let same : g ≡ x = cc in subst (λ (y : Flow). IsGivenUp y.stage) same (keep up))))

    -- ---- a write draws, and stores a row of its object

    module _ (none_drawn : (d : Draw) → Contains s.draws d → d.request ≡ q → ⊥) (x : Draw) (x_request : x.request ≡ q) (x_id : x.version.id ≡ q) (r : AnyRow) (names_none : NamesNone r) (going : row_given_up r ≡ false) where
      id_of : (d : Draw) → Contains (x ∷ s.draws) d → d.request ≡ q → d.version.id ≡ q
      id_of d c own = elim (cons_cases x s.draws d c) [
        | inl here ↦ subst (λ (y : Draw). y.version.id ≡ q) here x_id
        | inr old ↦ (sound.drawn d old).id_is ∙ own
      ]

      -- nothing was stored of it
      no_row : (row : AnyRow) (id : ℕ) → Contains (stored ++ r ∷ []) row → id ≡ q → OfVersion id row → ⊥
      no_row row id c is of = elim (Contains-append_cases stored (r ∷ []) row c) [
        | inl old ↦ (let d = named_drawn p row id (each row old) of in none_drawn d.0 d.1 (request_of d.0 d.1 (d.2 ∙ is)))
        | inr new ↦ names_none id (subst (OfVersion id) (sym (only r row new)) of)
      ]

      pub any_pieces : (id block : ℕ) (body : List ℕ) → id ≡ q → ArePieces (stored ++ r ∷ []) id block body
      any_pieces id block body is row c of = absurd (no_row row id c is of)

      not_aborted : (d : Draw) → Contains (r ∷ []) (aborted d.name d.version) → ⊥
      not_aborted d c = (let no : false ≡ true = sym going ∙ ap row_given_up (only r (aborted d.name d.version) c) in cc)

      none_aborted : (d : Draw) → d.version.id ≡ q → Contains (stored ++ r ∷ []) (aborted d.name d.version) → ⊥
      none_aborted d is c = elim (Contains-append_cases stored (r ∷ []) (aborted d.name d.version) c) [
        | inl old ↦ (let k = aborted_drawn p d.name d.version (each (aborted d.name d.version) old) in none_drawn k.0 k.1 (request_of k.0 k.1 (ap (λ (v : Version). v.id) k.2 ∙ is)))
        | inr new ↦ not_aborted d new
      ]

      pub drawn_fated : (g : Flow) → HaveCome (stored ++ r ∷ []) g.block g.stage → IsFated (stored ++ r ∷ []) (set_flow s q a (Some g)) (x ∷ s.draws)
      drawn_fated g come = fated_set s sound stored fated q a at (r ∷ []) (x ∷ []) (Some g)
          (λ d c. (let same : x ≡ d = only x d c in (subst (λ (y : Draw). y.request ≡ q) same x_request, subst (λ (y : Draw). y.version.id ≡ q) same x_id)))
          (λ row id c of. absurd (names_none id (subst (OfVersion id) (sym (only r row c)) of)))
          (λ d c k own is. any_pieces d.version.id d.block c.body (id_of d k own))
          (λ f is. (let same : g ≡ f = cc in subst (λ (y : Flow). HaveCome (stored ++ r ∷ []) y.block y.stage) same come))
          (λ d c k own. absurd (none_aborted d (id_of d c own) k))
          (λ d c k. absurd (not_aborted d k))

    -- ---- a write that has drawn for whole bytes stores rows

    module _ (d : Draw) (c : Content) (drawn_here : Contains s.draws d) (own : d.request ≡ q) (is : d.wish ≡ wish.Content c) where
      known : IsKnown d.wish
      known = subst IsKnown (sym is) tt

      one_draw : (e : Draw) (x : Content) → Contains s.draws e → e.request ≡ q → e.wish ≡ wish.Content x → e ≡ d
      one_draw e x k mine wished = one_known e d (once.one e d k drawn_here (mine ∙ sym own)) (subst IsKnown (sym wished) tt) known

      pub uploaded_fated : (newer : List AnyRow) → ((row : AnyRow) → Contains newer row → OfVersion d.version.id row → (i : ℕ) × (has_piece d.block c.body i ≡ true) × (row ≡ version_row d.version.id d.block c.body i)) →
          ((row : AnyRow) (id : ℕ) → Contains newer row → OfVersion id row → id ≡ q) → ((name : Name) (v : Version) → Contains newer (aborted name v) → ⊥) → (g : Flow) → NoStream g.stage → IsFated (stored ++ newer) (set_flow s q a (Some g)) s.draws
      uploaded_fated newer rows_are rows_own none_aborted g quiet = fated_set s sound stored fated q a at newer [] (Some g)
          (λ e k. absurd (none_in e k)) rows_own
          (λ e x k mine wished.
          let same : e ≡ d = one_draw e x k mine wished in
          let wishes : wish.Content c ≡ wish.Content x = sym is ∙ (ap (λ (y : Draw). y.wish) (sym same) ∙ wished) in
          let content_is : c ≡ x = cc in
          let here : ArePieces (stored ++ newer) d.version.id d.block c.body = (λ row there of. elim (Contains-append_cases stored newer row there) [
            | inl old ↦ fated.pieces d c drawn_here is row old of
            | inr new ↦ rows_are row new of
          ]) in
          subst (λ (y : Content). ArePieces (stored ++ newer) e.version.id e.block y.body) content_is (subst (λ (y : Draw). ArePieces (stored ++ newer) y.version.id y.block c.body) (sym same) here))
          (λ f e. (let same : g ≡ f = cc in subst (λ (y : Flow). HaveCome (stored ++ newer) y.block y.stage) same (quiet (stored ++ newer) g.block)))
          (λ e k there mine. absurd (elim (Contains-append_cases stored newer (aborted e.name e.version) there) [
            | inl old ↦ fated.never_both e d k old drawn_here ((sound.drawn d drawn_here).id_is ∙ (own ∙ sym mine) ∙ sym (sound.drawn e k).id_is) known
            | inr new ↦ none_aborted e.name e.version new
          ]))
          (λ e k there. absurd (none_aborted e.name e.version there))

    -- ---- a stream that needs its client

    module _ (block : ℕ) (name : Name) (v : Version) (coming : Coming) (received : List ℕ) (flow_is : a.flow ≡ Some (flow_of q block (Needing name v coming received))) (id_is : v.id ≡ q) where
      streamed : (d : Draw) → Contains s.draws d → d.request ≡ q → d.wish ≡ wish.Stream coming
      streamed d k own = once.past d a (flow_of q block (Needing name v coming received)) k (ap (numbered s.asked) own ∙ at) flow_is

      unknown : (d : Draw) → Contains s.draws d → d.request ≡ q → IsKnown d.wish → ⊥
      unknown d k own h = subst IsKnown (streamed d k own) h

      not_over : (d : Draw) → Contains s.draws d → d.request ≡ q → Contains stored (aborted d.name d.version) → ⊥
      not_over d k own c = fated.over d a (flow_of q block (Needing name v coming received)) k c (ap (numbered s.asked) own ∙ at) flow_is

      come : ArePieces stored v.id block received
      come = fated.coming q a (flow_of q block (Needing name v coming received)) at flow_is

      -- a block has come, and those before it are where they were
      pub fed_fated : (bytes : List ℕ) → ((i : ℕ) → has_piece block received i ≡ true → (has_piece block (received ++ bytes) i ≡ true) × (version_row v.id block received i ≡ version_row v.id block (received ++ bytes) i)) →
          ((k : ℕ) × (has_piece block (received ++ bytes) k ≡ true) × (version_row_at v.id (length received) bytes ≡ version_row v.id block (received ++ bytes) k)) →
          IsFated (stored ++ version_row_at v.id (length received) bytes ∷ reference_to v.id bytes ∷ []) (set_flow s q a (Some (flow_of q block (Receiving name v coming (received ++ bytes))))) s.draws
      fed_fated bytes later new =
          let one : AnyRow = version_row_at v.id (length received) bytes in
          let other : AnyRow = reference_to v.id bytes in
          let newer : List AnyRow = one ∷ other ∷ [] in
          let g : Flow = flow_of q block (Receiving name v coming (received ++ bytes)) in
          let none_aborted : (n : Name) (u : Version) → Contains newer (aborted n u) → ⊥ = (λ n u c. elim (cons_cases one (other ∷ []) (aborted n u) c) [
            | inl e ↦ (let no : false ≡ true = ap row_given_up e in cc)
            | inr more ↦ (let no : false ≡ true = ap row_given_up (only other (aborted n u) more) in cc)
          ]) in
          fated_set s sound stored fated q a at newer [] (Some g)
          (λ d k. absurd (none_in d k))
          (λ row id c of. elim (cons_cases one (other ∷ []) row c) [
            | inl e ↦ sym (subst (OfVersion id) (sym e) of) ∙ id_is
            | inr more ↦ absurd (subst (OfVersion id) (sym (only other row more)) of)
          ])
          (λ d c k own is. (let no : wish.Stream coming ≡ wish.Content c = sym (streamed d k own) ∙ is in cc))
          (λ f e.
          let same : g ≡ f = cc in
          let pieces : ArePieces (stored ++ newer) v.id block (received ++ bytes) = (λ row c of. elim (Contains-append_cases stored newer row c) [
            | inl old ↦ (let was = come row old of in let now = later was.0 was.1 in (was.0, now.0, was.2 ∙ now.1))
            | inr here ↦ elim (cons_cases one (other ∷ []) row here) [
              | inl e ↦ (new.0, new.1, sym e ∙ new.2)
              | inr more ↦ absurd (subst (OfVersion v.id) (sym (only other row more)) of)
            ]
          ]) in
          subst (λ (y : Flow). HaveCome (stored ++ newer) y.block y.stage) same pieces)
          (λ d k c own. absurd (elim (Contains-append_cases stored newer (aborted d.name d.version) c) [
            | inl old ↦ not_over d k own old
            | inr new ↦ none_aborted d.name d.version new
          ]))
          (λ d k c. absurd (none_aborted d.name d.version c))

      -- it is given up
      pub given_up_fated : IsFated (stored ++ aborted name v ∷ []) (set_flow s q a (Some (flow_of q block (Aborting v)))) s.draws
      given_up_fated =
          let r : AnyRow = aborted name v in
          let g : Flow = flow_of q block (Aborting v) in
          fated_set s sound stored fated q a at (r ∷ []) [] (Some g)
          (λ d k. absurd (none_in d k))
          (λ row id c of. absurd (subst (OfVersion id) (sym (only r row c)) of))
          (λ d c k own is. (let no : wish.Stream coming ≡ wish.Content c = sym (streamed d k own) ∙ is in cc))
          (λ f e. (let same : g ≡ f = cc in subst (λ (y : Flow). HaveCome (stored ++ r ∷ []) y.block y.stage) same tt))
          (λ d k c own. ((λ e there mine h. unknown e there mine h), (λ f e. (let same : g ≡ f = cc in subst (λ (y : Flow). IsGivenUp y.stage) same tt))))
          (λ d k c.
          let version_is : v ≡ d.version = ap row_version (only r (aborted d.name d.version) c) in
          request_of d k (ap (λ (u : Version). u.id) (sym version_is) ∙ id_is))

      -- it is kept: a draw of the bytes that came enters
      pub kept_fated : (x : Draw) → x.request ≡ q → x.version ≡ v → x.block ≡ block → x.wish ≡ wish.Content (content_of coming received) → (r : AnyRow) → NamesNone r → row_given_up r ≡ false → (g : Flow) → NoStream g.stage →
          IsFated (stored ++ r ∷ []) (set_flow s q a (Some g)) (x ∷ s.draws)
      kept_fated x request version_is block_is wishes r names_none going g quiet =
          let x_id : x.version.id ≡ q = ap (λ (u : Version). u.id) version_is ∙ id_is in
          let none_aborted : (d : Draw) → Contains (r ∷ []) (aborted d.name d.version) → ⊥ = (λ d c. (let no : false ≡ true = sym going ∙ ap row_given_up (only r (aborted d.name d.version) c) in cc)) in
          let pieces : ArePieces (stored ++ r ∷ []) v.id block received = pieces_with stored (r ∷ []) v.id block received come (λ row c of. names_none v.id (subst (OfVersion v.id) (sym (only r row c)) of)) in
          fated_set s sound stored fated q a at (r ∷ []) (x ∷ []) (Some g)
          (λ d c. (let same : x ≡ d = only x d c in (subst (λ (y : Draw). y.request ≡ q) same request, subst (λ (y : Draw). y.version.id ≡ q) same x_id)))
          (λ row id c of. absurd (names_none id (subst (OfVersion id) (sym (only r row c)) of)))
          (λ d c k own is. elim (cons_cases x s.draws d k) [
            | inl here ↦
                let contents : wish.Content (content_of coming received) ≡ wish.Content c = sym wishes ∙ (ap (λ (y : Draw). y.wish) here ∙ is) in
                let same : content_of coming received ≡ c = cc in
                let version : v ≡ d.version = sym version_is ∙ ap (λ (y : Draw). y.version) here in
                let size : block ≡ d.block = sym block_is ∙ ap (λ (y : Draw). y.block) here in
                subst (λ (y : Content). ArePieces (stored ++ r ∷ []) d.version.id d.block y.body) same (subst (λ (n : ℕ). ArePieces (stored ++ r ∷ []) d.version.id n received) size (subst (λ (u : Version). ArePieces (stored ++ r ∷ []) u.id block received) version pieces))
            | inr old ↦ (let no : wish.Stream coming ≡ wish.Content c = sym (streamed d old own) ∙ is in cc)
          ])
          (λ f e. (let same : g ≡ f = cc in subst (λ (y : Flow). HaveCome (stored ++ r ∷ []) y.block y.stage) same (quiet (stored ++ r ∷ []) g.block)))
          (λ d k c own. absurd (elim (Contains-append_cases stored (r ∷ []) (aborted d.name d.version) c) [
            | inl old ↦ elim (cons_cases x s.draws d k) [
              | inl here ↦ (let was = aborted_drawn p d.name d.version (each (aborted d.name d.version) old) in
                  not_over was.0 was.1 (request_of was.0 was.1 (ap (λ (u : Version). u.id) (was.2 ∙ (ap (λ (y : Draw). y.version) (sym here))) ∙ x_id)) (subst (Contains stored) was.3 old))
              | inr there ↦ not_over d there own old
            ]
            | inr new ↦ none_aborted d new
          ]))
          (λ d k c. absurd (none_aborted d c))

-- ---- a phase ended

module _ {H : Deed → Type 0} where
  module _ (ms : List Moving) (s : State) (sound : IsSound H s) (once : IsOnceIn s) (laid : IsLaidIn H ms s) (fated : IsFatedIn ms s) (q : ℕ) (a : Asked) (at : numbered s.asked q ≡ Some a) (block : ℕ) where
    abbrev pub StepIs : List Draw → FlowStep → Type 0
    StepIs ds st = StepFated ms s sound once laid fated q a at ds st

    -- what a request does that waits so when its phase ends so
    abbrev pub StageFated : ℕ → Stage → PhaseEnd AnyRow → Type 0
    StageFated now stage end = a.flow ≡ Some (flow_of q block stage) → StepIs (draws_of s q block stage end now) (flow_goes_on q block stage end now)

    module _ (stage : Stage) (flow_is : a.flow ≡ Some (flow_of q block stage)) where
      abbrev f : Flow
      f = flow_of q block stage

      not_drawn : ((d : Draw) → IsPast d stage → ⊥) → (d : Draw) → Contains s.draws d → d.request ≡ q → ⊥
      not_drawn before d k own = before d (once.past d a f k (ap (numbered s.asked) own ∙ at) flow_is)

      on : StepIs [] (Wait f)
      on = waits_fated ms s sound once laid fated q a at f flow_is f (fated.coming q a f at flow_is) (λ up. up)

      quietly : (IsGivenUp stage → ⊥) → (st : FlowStep) → IsQuiet q st → StepIs [] st
      quietly going st h = quiet_fated ms s sound once laid fated q a at f flow_is going st h

    -- a write draws
    module _ (name : Name) (w : Wish) (flow_is : a.flow ≡ Some (flow_of q block (Drawing name w))) (v : Version) (id_is : v.id ≡ q) (moment : ℕ) where
      abbrev x : Draw
      x = record { request = q; name = name; version = v; wish = w; block = block; moment = moment }

      stores_row : (r : AnyRow) → NamesNone r → row_given_up r ≡ false → (stage : Stage) → HaveCome (stored_in ms ++ r ∷ []) block stage → StepIs (x ∷ []) (More (flow_of q block stage) (stores r))
      stores_row r names_none going stage come =
          one_step ms s sound once laid fated q a at (phases q (stores r)) (set_flow s q a (Some (flow_of q block stage))) (x ∷ s.draws)
          (drawn_fated ms s sound once laid fated q a at (not_drawn (Drawing name w) flow_is (λ d no. no)) x refl id_is r names_none going (flow_of q block stage) come)

    uploading_none : (name : Name) (v : Version) → NamesNone (uploading name v)
    uploading_none name v id of = of

    drawing_fated : (name : Name) (w : Wish) (value : Option AnyRow) (now : ℕ) → StageFated now (Drawing name w) (Answered value)
    drawing_fated name wish.Marker value now flow_is =
        let v : Version = drawn q value now in
        stores_row name wish.Marker flow_is v refl (length s.history) (complete name v block wish.Marker) (complete_names_none name v block wish.Marker) (complete_given_up name v block wish.Marker) (Completing v None) tt
    drawing_fated name (wish.Stream coming) value now flow_is =
        let v : Version = drawn q value now in
        let r : AnyRow = uploading name v in
        stores_row name (wish.Stream coming) flow_is v refl (length s.history) r (uploading_none name v) refl (Receiving name v coming [])
        (any_pieces ms s sound once laid fated q a at (not_drawn (Drawing name (wish.Stream coming)) flow_is (λ d no. no)) (x name (wish.Stream coming) flow_is v refl (length s.history)) refl refl r (uploading_none name v) refl v.id block [] refl)
    drawing_fated name (wish.Content c) value now flow_is =
        let v : Version = drawn q value now in
        elim (is_long c.body) as (λ b. StepIs (x name (wish.Content c) flow_is v refl (length s.history) ∷ []) (elim b as (λ b. FlowStep) [ true ↦ more q block (Uploading name v c 0) (stores (uploading name v)) | false ↦ completes q block name v (wish.Content c) ])) [
          | true ↦ stores_row name (wish.Content c) flow_is v refl (length s.history) (uploading name v) (uploading_none name v) refl (Uploading name v c 0) tt
          | false ↦ stores_row name (wish.Content c) flow_is v refl (length s.history) (complete name v block (wish.Content c)) (complete_names_none name v block (wish.Content c)) (complete_given_up name v block (wish.Content c)) (Completing v (Some (meta_of c))) tt
        ]

    -- an upload goes on
    uploads_fated : (name : Name) (v : Version) (c : Content) (k : ℕ) → a.flow ≡ Some (flow_of q block (Uploading name v c k)) → StepIs [] (uploads q block name v c k)
    uploads_fated name v c k flow_is =
        let h : HasUploaded (past ms s.world s.draws) q block name v c k = laid.stages q a (flow_of q block (Uploading name v c k)) at flow_is in
        let d : Draw = record { request = q; name = name; version = v; wish = wish.Content c; block = block; moment = h.moment } in
        let id_is : v.id ≡ q = (sound.drawn d h.drawn).id_is in
        let one : AnyRow = version_row v.id block c.body k in
        let other : AnyRow = reference_row v.id block c.body k in
        elim (has_piece block c.body k) as (λ b. has_piece block c.body k ≡ b → StepIs [] (elim b as (λ b. FlowStep) [ true ↦ more q block (Uploading name v c (suc k)) (Store (block_rows v.id block c.body k)) | false ↦ completes q block name v (wish.Content c) ])) [
          | true ↦ λ has. one_step ms s sound once laid fated q a at (phases q (Store (block_rows v.id block c.body k))) (set_flow s q a (Some (flow_of q block (Uploading name v c (suc k))))) s.draws
              (uploaded_fated ms s sound once laid fated q a at d c h.drawn refl refl (one ∷ other ∷ [])
              (λ row there of. elim (cons_cases one (other ∷ []) row there) [
                | inl e ↦ (k, has, sym e)
                | inr more ↦ absurd (subst (OfVersion v.id) (sym (only other row more)) of)
              ])
              (λ row id there of. elim (cons_cases one (other ∷ []) row there) [
                | inl e ↦ sym (subst (OfVersion id) (sym e) of) ∙ id_is
                | inr more ↦ absurd (subst (OfVersion id) (sym (only other row more)) of)
              ])
              (λ n u there. elim (cons_cases one (other ∷ []) (aborted n u) there) [
                | inl e ↦ (let no : false ≡ true = ap row_given_up e in cc)
                | inr more ↦ (let no : false ≡ true = ap row_given_up (only other (aborted n u) more) in cc)
              ])
              (flow_of q block (Uploading name v c (suc k))) (λ stored size. tt))
          | false ↦ λ no_more.
              let r : AnyRow = complete name v block (wish.Content c) in
              one_step ms s sound once laid fated q a at (phases q (stores r)) (set_flow s q a (Some (flow_of q block (Completing v (Some (meta_of c)))))) s.draws
              (uploaded_fated ms s sound once laid fated q a at d c h.drawn refl refl (r ∷ [])
              (λ row there of. absurd (complete_names_none name v block (wish.Content c) v.id (subst (OfVersion v.id) (sym (only r row there)) of)))
              (λ row id there of. absurd (complete_names_none name v block (wish.Content c) id (subst (OfVersion id) (sym (only r row there)) of)))
              (λ n u there. (let no : false ≡ true = sym (complete_given_up name v block (wish.Content c)) ∙ ap row_given_up (only r (aborted n u) there) in cc))
              (flow_of q block (Completing v (Some (meta_of c)))) (λ stored size. tt))
        ] refl

    pub stage_fated : (now : ℕ) (stage : Stage) (end : PhaseEnd AnyRow) → StageFated now stage end
    stage_fated now (Drawing name w) (Answered value) flow_is = drawing_fated name w value now flow_is
    stage_fated now (Uploading name v c k) Kept flow_is = uploads_fated name v c k flow_is
    stage_fated now (Receiving name v coming received) Kept flow_is =
        let g : Flow = flow_of q block (Receiving name v coming received) in
        waits_fated ms s sound once laid fated q a at g flow_is (flow_of q block (Needing name v coming received)) (fated.coming q a g at flow_is) (λ up. absurd up)
    stage_fated now (Aborting v) Kept flow_is =
        one_step ms s sound once laid fated q a at (plainly (step.Close q)) (set_flow s q a None) s.draws (fated_still ms s sound once laid fated q a at (flow_of q block (Aborting v)) flow_is None (λ x is. cc) (λ x is up. cc))
    stage_fated now (Completing v meta) Kept flow_is = quietly (Completing v meta) flow_is (λ no. no) (End (Stored v meta)) tt
    stage_fated now (Looking name aim) (Answered value) flow_is = quietly (Looking name aim) flow_is (λ no. no) (looked q block aim (said_of value)) (looked_quiet q block aim (said_of value))
    stage_fated now (Opening v meta aim) (Answered value) flow_is = quietly (Opening v meta aim) flow_is (λ no. no) (opened q block aim v meta (named_by value meta.size)) (opened_quiet q block aim v meta (named_by value meta.size))
    stage_fated now (Gathering v meta aim left body) (Block bytes) flow_is = quietly (Gathering v meta aim left body) flow_is (λ no. no) (gathers q block aim v meta left (body ++ bytes)) (gathers_quiet q block aim v meta left (body ++ bytes))
    stage_fated now (Listing bucket prefix rs) (Window others reach) flow_is = quietly (Listing bucket prefix rs) flow_is (λ no. no) (lists q block bucket prefix (rs ++ shown_rows others) reach) (lists_quiet q block bucket prefix (rs ++ shown_rows others) reach)
    stage_fated now (Drawing name w) end flow_is = on (Drawing name w) flow_is
    stage_fated now (Uploading name v c k) end flow_is = on (Uploading name v c k) flow_is
    stage_fated now (Receiving name v coming received) end flow_is = on (Receiving name v coming received) flow_is
    stage_fated now (Needing name v coming received) end flow_is = on (Needing name v coming received) flow_is
    stage_fated now (Aborting v) end flow_is = on (Aborting v) flow_is
    stage_fated now (Completing v meta) end flow_is = on (Completing v meta) flow_is
    stage_fated now (Looking name aim) end flow_is = on (Looking name aim) flow_is
    stage_fated now (Opening v meta aim) end flow_is = on (Opening v meta aim) flow_is
    stage_fated now (Gathering v meta aim left body) end flow_is = on (Gathering v meta aim left body) flow_is
    stage_fated now (Listing bucket prefix rs) end flow_is = on (Listing bucket prefix rs) flow_is
