-- Reads stay fresh as the history grows by a record: of a request that began, finished or ended.
use Rattle.std.proofs.Common.{◌≡◌, ◌⊎◌, inl, inr, ℕ, suc, ◌+◌, ◌<◌, ◌≤◌, Some, List, [], ◌∷◌, ◌++◌, length, take, drop, refl, sym, ap, ◌∙◌, subst, arith}
use Rattle.std.specs.Prelude.{IsTrue, slice_get}
use Rattle.std.specs.List.{Contains}
use Rattle.std.proofs.lemmas.List.{length_push, append-nil}
use Rattle.std.proofs.lemmas.Option.{get_or_from_slice_get}
use Rattle.blake2_hash.specs.declared.digest.Hash32.{Hash32}
use Rattle.blake2_hash.specs.Hash.{digest_of}
use Rattle.crdt_core.specs.Members.{Has}
use Rattle.crdt_rows.specs.declared.object_row.ObjectRow.{ObjectRow}
use Rattle.crdt_rows.specs.declared.any_row.AnyRow.{AnyRow}
use Rattle.crdt_rows.specs.declared.any_row.AnyRow.TheVariants as rows
use Rattle.crdt_rows.specs.declared.version.Version.{Version}
use Rattle.history_model.specs.declared.record.Kind.{Kind}
use Rattle.history_model.specs.declared.record.Answer.{Answer}
use Rattle.history_model.specs.declared.record.Record.{Record}
use Rattle.history_model.specs.declared.record.Record.TheVariants.{Began, Finished}
use Rattle.history_model.specs.Record.{names}
use Rattle.history_model.specs.Fresh.{Below, IsAcknowledged}
use Rattle.flow_model.specs.declared.flow.Name.{Name}
use Rattle.flow_model.specs.Says.{said_by, marked}
use Rattle.store_model.specs.Run.{Draw, Saw, State}
use Rattle.store_model.specs.Fresh.{IsMarked, IsDrawn, HasDeleted, NoClash, IsRead}
use Rattle.store_collects.specs.Fresh.{IsForgotten, Covers, IsFreshRead, IsFresh}
use Rattle.machine_origins.proofs.Places.{get_append}
use Rattle.store_laws.proofs.Records.{in_front, finish_is, finish_cases, acknowledged_is, split, old_at, began_before, acknowledged_before}
use Rattle.store_laws.proofs.Rows.{IsOf, more_draws, marker_drawn}
use Rattle.store_laws.proofs.Sound.{began, IsWishOf, WasAcknowledged, DrewHere, Sights, sights, IsExplained, CoversNow, IsFreshEnd, IsSound}
use Rattle.store_laws.proofs.Deeds.{Deed, IsClear}

-- ---- what was seen and drawn stays so

pub marked_later : (old new : List Saw) → ((x : Saw) → Contains old x → Contains new x) → (q : ℕ) (bucket key : List ℕ) (w : Version) → IsMarked old q bucket key w → IsMarked new q bucket key w
marked_later old new more q bucket key w m = record {
  end = m.end;
  was_seen = more _ m.was_seen;
  row = m.row;
  gave = m.gave;
  bucket_is = m.bucket_is;
  key_is = m.key_is;
  version = m.version;
  says = m.says;
  not_below = m.not_below;
}

-- what was seen and collected before is so still
pub record Sees (old new : Sights) : Type 0 where
  pub saw : (x : Saw) → Contains old.saw x → Contains new.saw x
  pub collected : (r : AnyRow) → Has old.collected r → Has new.collected r

abbrev forgotten_later : (old new : List AnyRow) → ((r : AnyRow) → Has old r → Has new r) → (bucket key : List ℕ) (w : Version) → IsForgotten old bucket key w → IsForgotten new bucket key w
forgotten_later old new more bucket key w f = record {
  row = f.row;
  was_collected = more _ f.was_collected;
  bucket_is = f.bucket_is;
  key_is = f.key_is;
  version = f.version;
  says = f.says;
  not_below = f.not_below;
}

pub explained_later : (draws : List Draw) (old new : Sights) → Sees old new → (q : ℕ) (bucket key : List ℕ) (w : Version) → IsExplained draws old q bucket key w → IsExplained draws new q bucket key w
explained_later draws old new more q bucket key w (inl m) = inl (marked_later old.saw new.saw more.saw q bucket key w m)
explained_later draws old new more q bucket key w (inr g) = inr (record { forgotten = forgotten_later old.collected new.collected more.collected bucket key w g.forgotten; is_of = g.is_of })

pub explained_drawn : (draws newer : List Draw) (seen : Sights) (q : ℕ) (bucket key : List ℕ) (w : Version) → IsExplained draws seen q bucket key w → IsExplained (newer ++ draws) seen q bucket key w
explained_drawn draws newer seen q bucket key w (inl m) = inl m
explained_drawn draws newer seen q bucket key w (inr g) = inr (record { forgotten = g.forgotten; is_of = more_draws draws newer (rows.Object g.forgotten.row) g.is_of })

-- what explains it, without whose draws it was
read_or_forgotten : (draws : List Draw) (seen : Sights) (q : ℕ) (bucket key : List ℕ) (w : Version) → IsExplained draws seen q bucket key w → IsMarked seen.saw q bucket key w ⊎ IsForgotten seen.collected bucket key w
read_or_forgotten draws seen q bucket key w (inl m) = inl m
read_or_forgotten draws seen q bucket key w (inr g) = inr g.forgotten

covers_later : (old new : Sights) → Sees old new → (q : ℕ) (bucket own : List ℕ) (a : Answer) (key : List ℕ) (w : Version) → Covers old.saw old.collected q bucket own a key w → Covers new.saw new.collected q bucket own a key w
covers_later old new more q bucket own a key w c = record {
  versions = c.versions;
  none = λ no. elim (c.none no) [
    | inl m ↦ inl (marked_later old.saw new.saw more.saw q bucket key w m)
    | inr f ↦ inr (forgotten_later old.collected new.collected more.collected bucket key w f)
  ];
}

module _ (s t : State) (rest : List Record) (history : t.history ≡ s.history ++ rest) (draws : (d : Draw) → Contains s.draws d → Contains t.draws d) where
  pub drawn_later : (j : ℕ) (bucket key : List ℕ) (v : Version) → IsDrawn s j bucket key v → IsDrawn t j bucket key v
  drawn_later j bucket key v d = record {
    draw = d.draw;
    drawn = draws d.draw d.drawn;
    version_is = d.version_is;
    request_is = d.request_is;
    name_is = d.name_is;
    kind = d.kind;
    is_source = d.is_source;
    place = d.place;
    began = (d.began.0, ap (λ h. slice_get h d.place) history ∙ get_append s.history rest d.place _ d.began.1);
    in_time = d.in_time;
    before = d.before;
  }

  pub deleted_later : (j : ℕ) (bucket key : List ℕ) (w : Version) → HasDeleted s j bucket key w → HasDeleted t j bucket key w
  deleted_later j bucket key w d = record {
    draw = d.draw;
    drawn = draws d.draw d.drawn;
    not_below = d.not_below;
    name_is = d.name_is;
    kind = d.kind;
    is_delete = d.is_delete;
    place = d.place;
    began = (d.began.0, ap (λ h. slice_get h d.place) history ∙ get_append s.history rest d.place _ d.began.1);
    in_time = d.in_time;
    before = d.before;
  }

-- a state with the same records, and more buckets, draws and sights
pub fresh_later : (s t : State) → t.history ≡ s.history → ((n : List ℕ) → Contains s.buckets n → Contains t.buckets n) → ((d : Draw) → Contains s.draws d → Contains t.draws d) →
    ((x : Saw) → Contains s.saw x → Contains t.saw x) → ((r : AnyRow) → Has s.world.collected r → Has t.world.collected r) → IsFresh s → IsFresh t
fresh_later s t history buckets draws saw collected fresh i j q kind bucket own a r =
    let old : IsFreshRead s i j q kind bucket own a = fresh i j q kind bucket own a (subst (λ h. IsRead h i j q kind bucket own a) history r) in
    record {
      covers = λ key w named ack. covers_later (sights s) (sights t) (record { saw = saw; collected = collected }) q bucket own a key w (old.covers key w named (subst (λ h. IsAcknowledged h i bucket key w) history ack));
      written = λ clash key v named shows. drawn_later s t [] (history ∙ sym (append-nil s.history)) draws j bucket key v (old.written (λ a b c d e. clash a b (buckets a c) (buckets b d) e) key v named shows);
      deleted = λ clash key w named ack no.
          deleted_later s t [] (history ∙ sym (append-nil s.history)) draws j bucket key w (old.deleted (λ a b c d e. clash a b (buckets a c) (buckets b d) e) key w named (subst (λ h. IsAcknowledged h i bucket key w) history ack) no);
    }

-- ---- a record more

module _ (h : List Record) (x : Record) where
  longer : length (h ++ x ∷ []) ≡ length h + 1
  longer = length_push h x

  -- what was acknowledged before a place of the list was so before the new record
  pub acknowledged_old : (i : ℕ) (bucket key : List ℕ) (w : Version) → i ≤ length h → IsAcknowledged (h ++ x ∷ []) i bucket key w → IsAcknowledged h i bucket key w
  acknowledged_old i bucket key w low a =
      let is = acknowledged_is (h ++ x ∷ []) a.place a.request a.end w a.finished in
      let before = a.before in
      let after = is.1 in
      record {
        request = a.request;
        kind = a.kind;
        place = a.place;
        end = a.end;
        writes = a.writes;
        began = (a.began.0, old_at h x a.place _ (omega arith) a.began.1);
        finished = acknowledged_before h x a.place a.request a.end w (omega arith) a.finished;
        before = a.before;
      }

-- what was acknowledged before a place is in the part of the list before it
pub was_acknowledged : (h : List Record) (i : ℕ) (bucket key : List ℕ) (w : Version) → i ≤ length h → IsAcknowledged h i bucket key w → WasAcknowledged (take i h) (record { bucket = bucket; key = key }) w
was_acknowledged h i bucket key w within a =
    let is = acknowledged_is h a.place a.request a.end w a.finished in
    let before = a.before in
    let after = is.1 in
    record {
      request = a.request;
      node = a.began.0;
      kind = a.kind;
      writes = a.writes;
      has_begun = in_front h a.place i _ a.began.1 (omega arith) within;
      has_finished = in_front h a.end i _ is.0 a.before within;
    }

module _ {H : Deed → Type 0} where
  -- a marker of this object whose versions were drawn was drawn by a delete of this very object
  marker_deleted : (s : State) (bucket key : List ℕ) (w : Version) → IsSound H s → NoClash s.buckets → Contains s.buckets bucket → (row : ObjectRow) (version : Version) → IsOf s.draws (rows.Object row) → said_by row ≡ marked version →
      row.bucket ≡ digest_of bucket → row.key ≡ key → ¬ Below version w → HasDeleted s (length s.history) bucket key w
  marker_deleted s bucket key w sound clash is_bucket row version is_of says of_bucket of_key not_below =
      let d = marker_drawn s.draws row version is_of says in
      let had = sound.drawn d.draw d.drawn in
      let bucket_is : d.draw.name.bucket ≡ bucket = clash d.draw.name.bucket bucket had.bucket is_bucket (ap (λ (b : Hash32). b.0) (d.bucket ∙ of_bucket)) in
      let key_is : d.draw.name.key ≡ key = d.key ∙ of_key in
      record {
        draw = d.draw;
        drawn = d.drawn;
        not_below = subst (λ (v : Version). ¬ Below v w) (sym d.version) not_below;
        name_is = λ i. record { bucket = bucket_is i; key = key_is i };
        kind = had.kind;
        is_delete = subst (IsWishOf had.kind) d.wish_is had.fits;
        place = had.place;
        began = (had.node, had.began_at ∙ (λ i. Some (Began d.draw.request had.node had.kind (bucket_is i) (key_is i))));
        in_time = had.in_time;
        before = had.moment;
      }

  -- so a delete explains that an object isn't shown
  explained_deleted : (s : State) (q : ℕ) (bucket key : List ℕ) (w : Version) → IsSound H s → NoClash s.buckets → Contains s.buckets bucket → IsExplained s.draws (sights s) q bucket key w → HasDeleted s (length s.history) bucket key w
  explained_deleted s q bucket key w sound clash is_bucket (inl m) =
      marker_deleted s bucket key w sound clash is_bucket m.row m.version (sound.seen (record { request = q; end = m.end }) m.row m.was_seen m.gave) m.says m.bucket_is m.key_is m.not_below
  explained_deleted s q bucket key w sound clash is_bucket (inr g) =
      let f = g.forgotten in
      marker_deleted s bucket key w sound clash is_bucket f.row f.version g.is_of f.says f.bucket_is f.key_is f.not_below

  -- the bucket of a request that began was made
  bucket_made : (s : State) (q n : ℕ) (kind : Kind) (name : Name) → IsSound H s → Contains s.history (began q n kind name) → Contains s.buckets name.bucket
  bucket_made s q n kind name sound c =
      let asked = sound.told.began_asked q n kind name c in
      subst (λ (m : Name). Contains s.buckets m.bucket) asked.name_is (sound.told.bucket_there q asked.one asked.is_there)

  -- fresh, if what the new record finishes is
  pub fresh_told : (s : State) (x : Record) → IsSound H s → IsClear H → ((q : ℕ) (a : Answer) → x ≡ Finished q a → IsFreshEnd H s q a) → IsFresh (record s { history = s.history ++ x ∷ [] })
  fresh_told s x sound clear ends i j q kind bucket own a r =
      let h : List Record = s.history in
      let t : State = record s { history = h ++ x ∷ [] } in
      let is = finish_is (h ++ x ∷ []) i q j a r.finished in
      let low : i < length h = began_before h x i j q a r.finished in
      let began_at : slice_get h i ≡ Some (Began q r.began.0 kind bucket own) = old_at h x i _ low r.began.1 in
      elim (finish_cases h x i q j a low r.finished) [
        | inl old ↦
            let was : IsFreshRead s i j q kind bucket own a = sound.fresh clear i j q kind bucket own a (record { reads = r.reads; began = (r.began.0, began_at); finished = old }) in
            record {
              covers = λ key w named ack. was.covers key w named (acknowledged_old h x i bucket key w (omega arith) ack);
              written = λ clash key v named shows. drawn_later s t (x ∷ []) refl (λ d c. c) j bucket key v (was.written clash key v named shows);
              deleted = λ clash key w named ack no. deleted_later s t (x ∷ []) refl (λ d c. c) j bucket key w (was.deleted clash key w named (acknowledged_old h x i bucket key w (omega arith) ack) no);
            }
        | inr new ↦
            let end : IsFreshEnd H s q a = ends q a new.1 in
            let name : Name = record { bucket = bucket; key = own } in
            let here : Contains h (began q r.began.0 kind name) = (i, low, get_or_from_slice_get h i _ _ began_at) in
            let covers_now : (key : List ℕ) (w : Version) → IsTrue (names kind own key) → IsAcknowledged t.history i bucket key w → CoversNow s q name a key w = (λ key w named ack.
            end.covers clear (take i h) (drop (suc i) h) r.began.0 kind name key w r.reads (split h i _ began_at) named
            (was_acknowledged h i bucket key w (omega arith) (acknowledged_old h x i bucket key w (omega arith) ack))) in
            record {
              covers = λ key w named ack.
                  let c = covers_now key w named ack in
                  record { versions = c.versions; none = λ no. read_or_forgotten s.draws (sights s) q bucket key w (c.none no) };
              deleted = λ clash key w named ack no.
                  deleted_later s t (x ∷ []) refl (λ d c. c) j bucket key w
                  (subst (λ (k : ℕ). HasDeleted s k bucket key w) (sym new.0) (explained_deleted s q bucket key w sound clash (bucket_made s q r.began.0 kind name sound here) ((covers_now key w named ack).none no)));
              written = λ clash key v named shows.
                  let d : DrewHere s (record { bucket = bucket; key = key }) v = end.written clash r.began.0 kind name key v r.reads here named shows in
                  let moment = d.moment in
                  let j_is = new.0 in
                  record {
                    draw = d.draw;
                    drawn = d.drawn;
                    version_is = d.version_is;
                    request_is = d.request_is;
                    name_is = d.name_is;
                    kind = d.kind;
                    is_source = d.is_source;
                    place = d.place;
                    began = (d.node, get_append h (x ∷ []) d.place _ d.began_at);
                    in_time = d.in_time;
                    before = omega arith;
                  };
            }
      ]
