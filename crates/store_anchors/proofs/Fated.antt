-- What stays so of a version however much more is stored: its blocks are those of its bytes, and it isn't stored both complete and given up.
use Rattle.std.specs.Prelude.{◌≡◌, ◌==◌, ◌-◌, ℕ, true, false, Option, Some, List, [], ◌∷◌, ◌++◌, slice_set, refl, ⊤}
use Rattle.std.proofs.Common.{ap, sym, subst, ◌∙◌, inl, inr}
use Rattle.std.specs.List.{Contains}
use Rattle.std.proofs.lemmas.Bool.{eqb-true, eqb-false}
use Rattle.std.proofs.lemmas.List.{append-nil}
use Rattle.std.proofs.lemmas.List.Elements.{Contains-append_cases}
use Rattle.crdt_rows.specs.declared.version.Version.{Version}
use Rattle.crdt_rows.specs.declared.any_row.AnyRow.{AnyRow}
use Rattle.crdt_rows.specs.declared.any_row.AnyRow.TheVariants as rows
use Rattle.cluster_machine.specs.World.{numbered}
use Rattle.machine_origins.specs.Origins.{stored_by, stored_in}
use Rattle.machine_origins.proofs.Places.{numbered_set_here, numbered_set_cases}
use Rattle.flow_model.specs.declared.flow.Content.{Content}
use Rattle.flow_model.specs.declared.flow.Wish.TheVariants as wish
use Rattle.flow_model.specs.declared.flow.Stage.{Stage}
use Rattle.flow_model.specs.declared.flow.Stage.TheVariants.{Drawing, Uploading, Receiving, Needing, Aborting, Completing, Looking, Opening, Gathering, Listing}
use Rattle.flow_model.specs.declared.flow.Flow.{Flow}
use Rattle.flow_model.specs.Blocks.{has_piece}
use Rattle.flow_model.specs.Rows.{aborted, version_row}
use Rattle.store_model.specs.Run.{Moving, State, Asked, Draw}
use Rattle.store_laws.proofs.Rows.{IsKnown, complete_row}
use Rattle.store_laws.proofs.Sound.{IsStage, IsSound}
use Rattle.store_anchors.proofs.Kept.{Past, IsRowOf, announces, gives_up, completes, names, refers}
use Rattle.store_anchors.proofs.Laid.{stored_more}
use Rattle.store_anchors.proofs.Told.{NeverBoth}
use Rattle.store_laws.proofs.Deeds.{Deed}

-- a row that names blocks of the version with this identifier
abbrev pub OfVersion : ℕ → AnyRow → Type 0
OfVersion id (rows.Version r) = r.id ≡ id
OfVersion id row = ⊥

-- one that was stored is of a version that was drawn
pub named_drawn : (p : Past) (row : AnyRow) (id : ℕ) → IsRowOf p row → OfVersion id row → (d : Draw) × Contains p.draws d × (d.version.id ≡ id)
named_drawn p row id h of = elim h [
  | announces d c is ↦ absurd (subst (OfVersion id) is of)
  | gives_up d c is ↦ absurd (subst (OfVersion id) is of)
  | completes d c known is all ↦ absurd (subst (OfVersion id) (is ∙ (complete_row d.name d.version d.block d.wish).1) of)
  | names d offset bytes c is ↦ (d, c, subst (OfVersion id) is of)
  | refers d bytes c is ↦ absurd (subst (OfVersion id) is of)
]

-- each stored one names a block of these bytes
abbrev pub ArePieces : List AnyRow → ℕ → ℕ → List ℕ → Type 0
ArePieces stored id block body = (row : AnyRow) → Contains stored row → OfVersion id row → (i : ℕ) × (has_piece block body i ≡ true) × (row ≡ version_row id block body i)

-- of a stream whose bytes come, a block of those that came
abbrev pub HaveCome : List AnyRow → ℕ → Stage → Type 0
HaveCome stored block (Receiving name v coming received) = ArePieces stored v.id block received
HaveCome stored block (Needing name v coming received) = ArePieces stored v.id block received
HaveCome stored block stage = ⊤

-- a stream of this version comes
abbrev pub IsOfStream : Stage → Version → Type 0
IsOfStream (Receiving name v coming received) u = v ≡ u
IsOfStream (Needing name v coming received) u = v ≡ u
IsOfStream stage u = ⊥

-- the upload is being given up
abbrev pub IsGivenUp : Stage → Type 0
IsGivenUp (Aborting v) = ⊤
IsGivenUp stage = ⊥

-- the blocks that are stored of a version are those of its bytes, or of those that came; and one that was given up has no other draw than that of its stream, and its request does nothing more
pub record IsFated (stored : List AnyRow) (asked : List Asked) (draws : List Draw) : Type 0 where
  pub pieces : (d : Draw) (c : Content) → Contains draws d → d.wish ≡ wish.Content c → ArePieces stored d.version.id d.block c.body
  pub coming : (q : ℕ) (a : Asked) (flow : Flow) → numbered asked q ≡ Some a → a.flow ≡ Some flow → HaveCome stored flow.block flow.stage
  pub never_both : NeverBoth draws stored
  pub over : (d : Draw) (a : Asked) (flow : Flow) → Contains draws d → Contains stored (aborted d.name d.version) → numbered asked d.request ≡ Some a → a.flow ≡ Some flow → IsGivenUp flow.stage

abbrev pub IsFatedIn : List Moving → State → Type 0
IsFatedIn moves s = IsFated (stored_in moves) s.asked s.draws

-- a step that stores nothing
pub fated_quiet : (moves : List Moving) (m : Moving) (asked : List Asked) (draws : List Draw) → stored_by m.step ≡ [] → IsFated (stored_in moves) asked draws → IsFated (stored_in (moves ++ m ∷ [])) asked draws
fated_quiet moves m asked draws none fated =
    subst (λ (rs : List AnyRow). IsFated rs asked draws) (sym (stored_more moves m ∙ (ap (λ (rs : List AnyRow). stored_in moves ++ rs) none ∙ append-nil (stored_in moves)))) fated

-- pieces, with rows of other versions
pub pieces_with : (stored newer : List AnyRow) (id block : ℕ) (body : List ℕ) → ArePieces stored id block body → ((row : AnyRow) → Contains newer row → OfVersion id row → ⊥) → ArePieces (stored ++ newer) id block body
pieces_with stored newer id block body are others row c of = elim (Contains-append_cases stored newer row c) [
  | inl old ↦ are row old of
  | inr new ↦ absurd (others row new of)
]

module _ (stored newer : List AnyRow) (block : ℕ) where
  -- what came, with rows of another version
  pub come_with : (stage : Stage) → HaveCome stored block stage → ((v : Version) → IsOfStream stage v → (row : AnyRow) → Contains newer row → OfVersion v.id row → ⊥) → HaveCome (stored ++ newer) block stage
  come_with (Receiving name v coming received) h others = pieces_with stored newer v.id block received h (others v refl)
  come_with (Needing name v coming received) h others = pieces_with stored newer v.id block received h (others v refl)
  come_with (Drawing name w) h others = tt
  come_with (Uploading name v c k) h others = tt
  come_with (Aborting v) h others = tt
  come_with (Completing v meta) h others = tt
  come_with (Looking name aim) h others = tt
  come_with (Opening v meta aim) h others = tt
  come_with (Gathering v meta aim left body) h others = tt
  come_with (Listing bucket prefix rs) h others = tt

-- the version of a stream has the number of its request
pub stream_id : {H : Deed → Type 0} (s : State) (p : ℕ) (a : Asked) (stage : Stage) (v : Version) → IsSound H s → IsStage H s.draws s.history p a stage → IsOfStream stage v → v.id ≡ p
stream_id s p a (Receiving name u coming received) v sound is e = ap (λ (x : Version). x.id) (sym e) ∙ (sound.drawn _ is.1.drawn).id_is
stream_id s p a (Needing name u coming received) v sound is e = ap (λ (x : Version). x.id) (sym e) ∙ (sound.drawn _ is.1.drawn).id_is
stream_id s p a (Drawing name w) v sound is e = absurd e
stream_id s p a (Uploading name u c k) v sound is e = absurd e
stream_id s p a (Aborting u) v sound is e = absurd e
stream_id s p a (Completing u meta) v sound is e = absurd e
stream_id s p a (Looking name aim) v sound is e = absurd e
stream_id s p a (Opening u meta aim) v sound is e = absurd e
stream_id s p a (Gathering u meta aim left body) v sound is e = absurd e
stream_id s p a (Listing bucket prefix rs) v sound is e = absurd e

module _ {H : Deed → Type 0} where
  module _ (s : State) (sound : IsSound H s) (stored : List AnyRow) (fated : IsFated stored s.asked s.draws) (q : ℕ) (a : Asked) (at : numbered s.asked q ≡ Some a) where
    pub old_id : (d : Draw) → Contains s.draws d → d.version.id ≡ d.request
    old_id d c = (sound.drawn d c).id_is

    -- request q stores these rows, draws these versions, and waits for this
    module _ (newer : List AnyRow) (ds : List Draw) (flow : Option Flow)
        (own : (d : Draw) → Contains ds d → (d.request ≡ q) × (d.version.id ≡ q))
        (rows_own : (row : AnyRow) (id : ℕ) → Contains newer row → OfVersion id row → id ≡ q)
        (new_pieces : (d : Draw) (c : Content) → Contains (ds ++ s.draws) d → d.request ≡ q → d.wish ≡ wish.Content c → ArePieces (stored ++ newer) d.version.id d.block c.body)
        (new_coming : (f : Flow) → flow ≡ Some f → HaveCome (stored ++ newer) f.block f.stage)
        (aborts : (d : Draw) → Contains (ds ++ s.draws) d → Contains (stored ++ newer) (aborted d.name d.version) → d.request ≡ q →
        ((e : Draw) → Contains (ds ++ s.draws) e → e.request ≡ q → IsKnown e.wish → ⊥) × ((f : Flow) → flow ≡ Some f → IsGivenUp f.stage))
        (aborts_own : (d : Draw) → Contains s.draws d → Contains newer (aborted d.name d.version) → d.request ≡ q) where
      abbrev set_now : Asked
      set_now = record a { flow = flow }

      id_of : (d : Draw) → Contains (ds ++ s.draws) d → d.version.id ≡ d.request
      id_of d c = elim (Contains-append_cases ds s.draws d c) [
        | inl new ↦ let is = own d new in is.1 ∙ sym is.0
        | inr old ↦ old_id d old
      ]

      -- another request's draw is an old one
      old_of : (d : Draw) → Contains (ds ++ s.draws) d → (d.request ≡ q → ⊥) → Contains s.draws d
      old_of d c other = elim (Contains-append_cases ds s.draws d c) [
        | inl new ↦ absurd (other (own d new).0)
        | inr old ↦ old
      ]

      -- and what was stored of it was so before
      old_aborted : (d : Draw) → Contains s.draws d → (d.request ≡ q → ⊥) → Contains (stored ++ newer) (aborted d.name d.version) → Contains stored (aborted d.name d.version)
      old_aborted d c other k = elim (Contains-append_cases stored newer (aborted d.name d.version) k) [
        | inl old ↦ old
        | inr new ↦ absurd (other (aborts_own d c new))
      ]

      -- what this request waits for then
      flow_now : (o : Asked) (f : Flow) → numbered (slice_set s.asked (q - 1) set_now) q ≡ Some o → o.flow ≡ Some f → flow ≡ Some f
      flow_now o f there is =
          let here : Some set_now ≡ Some o = sym (numbered_set_here s.asked q set_now a at) ∙ there in
          let same : set_now ≡ o = cc in
          ap (λ (x : Asked). x.flow) same ∙ is

      -- and another
      asked_then : (p : ℕ) (o : Asked) → (p ≡ q → ⊥) → numbered (slice_set s.asked (q - 1) set_now) p ≡ Some o → numbered s.asked p ≡ Some o
      asked_then p o other there = elim (numbered_set_cases s.asked q p a set_now o at there) [
        | inl e ↦ absurd (other e.0)
        | inr was ↦ was
      ]

      fated_pieces : (d : Draw) (c : Content) → Contains (ds ++ s.draws) d → d.wish ≡ wish.Content c → ArePieces (stored ++ newer) d.version.id d.block c.body
      fated_pieces d c k is = elim (d.request == q) as (λ b. (d.request == q) ≡ b → ArePieces (stored ++ newer) d.version.id d.block c.body) [
        | true ↦ λ t. new_pieces d c k (eqb-true d.request q t) is
        | false ↦ λ f.
            let other : d.request ≡ q → ⊥ = eqb-false d.request q f in
            pieces_with stored newer d.version.id d.block c.body (fated.pieces d c (old_of d k other) is) (λ row there of. other (sym (id_of d k) ∙ rows_own row d.version.id there of))
      ] refl

      fated_coming : (p : ℕ) (o : Asked) (f : Flow) → numbered (slice_set s.asked (q - 1) set_now) p ≡ Some o → o.flow ≡ Some f → HaveCome (stored ++ newer) f.block f.stage
      fated_coming p o f there is = elim (p == q) as (λ b. (p == q) ≡ b → HaveCome (stored ++ newer) f.block f.stage) [
        | true ↦ λ t. new_coming f (flow_now o f (ap (numbered (slice_set s.asked (q - 1) set_now)) (sym (eqb-true p q t)) ∙ there) is)
        | false ↦ λ n.
            let other : p ≡ q → ⊥ = eqb-false p q n in
            let was = asked_then p o other there in
            come_with stored newer f.block f.stage (fated.coming p o f was is)
            (λ v of row c names. other (sym (stream_id s p o f.stage v sound (sound.stages p o f was is).1 of) ∙ rows_own row v.id c names))
      ] refl

      fated_never : NeverBoth (ds ++ s.draws) (stored ++ newer)
      fated_never d e c k there same known =
          let both : e.request ≡ d.request = sym (id_of e there) ∙ (same ∙ id_of d c) in
          elim (d.request == q) as (λ b. (d.request == q) ≡ b → ⊥) [
            | true ↦ λ t. let is : d.request ≡ q = eqb-true d.request q t in (aborts d c k is).0 e there (both ∙ is) known
            | false ↦ λ n.
                let other : d.request ≡ q → ⊥ = eqb-false d.request q n in
                let old = old_of d c other in
                fated.never_both d e old (old_aborted d old other k) (old_of e there (λ is. other (sym both ∙ is))) same known
          ] refl

      fated_over : (d : Draw) (o : Asked) (f : Flow) → Contains (ds ++ s.draws) d → Contains (stored ++ newer) (aborted d.name d.version) → numbered (slice_set s.asked (q - 1) set_now) d.request ≡ Some o → o.flow ≡ Some f → IsGivenUp f.stage
      fated_over d o f c k there is = elim (d.request == q) as (λ b. (d.request == q) ≡ b → IsGivenUp f.stage) [
        | true ↦ λ t.
            let own_is : d.request ≡ q = eqb-true d.request q t in
            (aborts d c k own_is).1 f (flow_now o f (ap (numbered (slice_set s.asked (q - 1) set_now)) (sym own_is) ∙ there) is)
        | false ↦ λ n.
            let other : d.request ≡ q → ⊥ = eqb-false d.request q n in
            let old = old_of d c other in
            fated.over d o f old (old_aborted d old other k) (asked_then d.request o other there) is
      ] refl

      pub fated_set : IsFated (stored ++ newer) (slice_set s.asked (q - 1) set_now) (ds ++ s.draws)
      fated_set = record { pieces = fated_pieces; coming = fated_coming; never_both = fated_never; over = fated_over }
