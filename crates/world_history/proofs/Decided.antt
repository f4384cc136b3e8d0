-- The tests of which `first_stale` consists decide the sentences of `Fresh`.
use Rattle.std.proofs.Common.{◌≡◌, ℕ, ◌<◌, Bool, true, false, not, ◌&&◌, ◌||◌, List, Option, Some, None, length, slice_get, refl, ap, sym, subst, ◌∙◌, arith}
use Rattle.std.specs.Bool.{Decides, IsTrue}
use Rattle.std.specs.List.{Contains}
use Rattle.std.proofs.lemmas.Bool.Decides.{Decides-like, Decides-eqb, Decides-and, Decides-not, Decides-ltb}
use Rattle.std.proofs.lemmas.Option.{slice_get_within}
use Rattle.std.proofs.lemmas.Slice.Eq.{bytes_eq-Decides}
use Rattle.crdt_rows.specs.declared.version.Version.{Version}
use Rattle.history_model.specs.declared.record.Kind.{Kind}
use Rattle.history_model.specs.declared.record.Answer.{Answer}
use Rattle.history_model.specs.declared.record.Record.{Record}
use Rattle.history_model.specs.declared.record.Record.TheVariants.{Began, Finished, Ended}
use Rattle.history_model.specs.Record.{is_read, is_write, is_delete, is_source, finish, acknowledged, BeganAt, names, shown, Shows}
use Rattle.history_model.specs.Fresh.{Below, IsAcknowledged, IsDeleted, IsWritten, Covers, IsFreshRead, Fresh}
use Rattle.world_history.specs.Checks.{deletes_at, is_deleted, writes_at, is_written, shows, shows_below, covers, covers_at, covers_all, is_written_if_named, shows_written, stale_finish, stale_of, stale_at}
use Rattle.stale_model.specs.Stale.{IsStaleRead}
use Rattle.world_history.proofs.Below.{any_below-Decides, all_below-Decides}
use Rattle.world_history.proofs.Places.{acknowledged-later}
use Rattle.world_history.proofs.Parts.{Begun, Decides-itself, passes, fails, begins-Decides, is_none_or-Decides, is_some_with-Decides, is_below-Decides, same_version-Decides, list_any-Decides, list_all-Decides}

-- what a record says of a request is the same at equal buckets and keys
began_there : (h : List Record) (i q node : ℕ) (kind : Kind) (b bucket k key : List ℕ) → slice_get h i ≡ Some (Began q node kind b k) → b ≡ bucket → k ≡ key → BeganAt h i q kind bucket key
began_there h i q node kind b bucket k key is eb ek = (node, is ∙ (λ t. Some (Began q node kind (eb t) (ek t))))

module _ (h : List Record) (bucket key : List ℕ) where
  abbrev pub DeletesAs : Version → ℕ → ℕ → Kind → List ℕ → List ℕ → Type 0
  DeletesAs w place q kind b k =
      (is_delete kind ≡ true) × ((k ≡ key) × ((b ≡ bucket) × ((a : ℕ × Version) → acknowledged h place q ≡ Some a → ¬ Below a.1 w)))

  pub deletes_at-Decides : (w : Version) (place : ℕ) → Decides (deletes_at h bucket key w place) (Begun (slice_get h place) (DeletesAs w place))
  deletes_at-Decides w place =
      begins-Decides _ (DeletesAs w place)
      (λ q kind b k. Decides-and _ _ (Decides-itself (is_delete kind)) (Decides-and _ _ (bytes_eq-Decides k key) (Decides-and _ _ (bytes_eq-Decides b bucket)
      (is_none_or-Decides _ (λ a. ¬ Below a.1 w) (λ a. Decides-not _ (is_below-Decides a.1 w)) (acknowledged h place q)))))
      (slice_get h place)

  pub is_deleted-Decides : (j : ℕ) (w : Version) → Decides (is_deleted h j bucket key w) (IsDeleted h j bucket key w)
  is_deleted-Decides j w =
      Decides-like _
      (λ (place, lt, b). record {
        request = b.request;
        kind = b.kind;
        place = place;
        deletes = b.holds.0;
        began = began_there h place b.request b.node b.kind b.bucket bucket b.key key b.is b.holds.1.1.0 b.holds.1.0;
        before = lt;
        not_below = λ end v e. b.holds.1.1.1 (end, v) e;
      })
      (λ d. (
        d.place,
        d.before,
        record {
          request = d.request;
          node = d.began.0;
          kind = d.kind;
          bucket = bucket;
          key = key;
          is = d.began.1;
          holds = (d.deletes, (refl, (refl, λ a e. d.not_below a.0 a.1 e)));
        },
      ))
      (any_below-Decides (deletes_at h bucket key w) (λ place. Begun (slice_get h place) (DeletesAs w place)) (deletes_at-Decides w) j)

  abbrev pub WritesAs : Version → ℕ → ℕ → Kind → List ℕ → List ℕ → Type 0
  WritesAs v place q kind b k =
      (q ≡ v.id) × ((is_source kind ≡ true) × ((k ≡ key) × ((b ≡ bucket) × ((a : ℕ × Version) → acknowledged h place q ≡ Some a → a.1 ≡ v))))

  pub writes_at-Decides : (v : Version) (place : ℕ) → Decides (writes_at h bucket key v place) (Begun (slice_get h place) (WritesAs v place))
  writes_at-Decides v place =
      begins-Decides _ (WritesAs v place)
      (λ q kind b k. Decides-and _ _ (Decides-eqb q v.id) (Decides-and _ _ (Decides-itself (is_source kind)) (Decides-and _ _ (bytes_eq-Decides k key) (Decides-and _ _ (bytes_eq-Decides b bucket)
      (is_none_or-Decides _ (λ a. a.1 ≡ v) (λ a. same_version-Decides a.1 v) (acknowledged h place q))))))
      (slice_get h place)

  pub is_written-Decides : (j : ℕ) (v : Version) → Decides (is_written h j bucket key v) (IsWritten h j bucket key v)
  is_written-Decides j v =
      Decides-like _
      (λ (place, lt, b). written place lt b)
      (λ d. (
        d.place,
        d.before,
        record {
          request = v.id;
          node = d.began.0;
          kind = d.kind;
          bucket = bucket;
          key = key;
          is = d.began.1;
          holds = (refl, (d.writes, (refl, (refl, λ a e. d.no_other a.0 a.1 e))));
        },
      ))
      (any_below-Decides (writes_at h bucket key v) (λ place. Begun (slice_get h place) (WritesAs v place)) (writes_at-Decides v) j)
    where
      written : (place : ℕ) → place < j → Begun (slice_get h place) (WritesAs v place) → IsWritten h j bucket key v
      written place lt b = record {
        kind = b.kind;
        place = place;
        writes = b.holds.1.0;
        began = (b.node, b.is ∙ (λ t. Some (Began (b.holds.0 t) b.node b.kind (b.holds.1.1.1.0 t) (b.holds.1.1.0 t))));
        before = lt;
        no_other = λ end other e. b.holds.1.1.1.1 (end, other) (ap (acknowledged h place) b.holds.0 ∙ e);
      }

  module _ (own : List ℕ) (answer : Answer) where
    shows-Decides : Decides (shows own answer key) ((e : List ℕ × Version) × Contains (shown own answer) e × (e.0 ≡ key))
    shows-Decides = list_any-Decides _ (λ e. e.0 ≡ key) (λ e. bytes_eq-Decides e.0 key) (shown own answer)

    shows_below-Decides : (w : Version) → Decides (shows_below own answer key w) ((e : List ℕ × Version) × Contains (shown own answer) e × ((e.0 ≡ key) × Below e.1 w))
    shows_below-Decides w = list_any-Decides _ (λ e. (e.0 ≡ key) × Below e.1 w) (λ e. Decides-and _ _ (bytes_eq-Decides e.0 key) (is_below-Decides e.1 w)) (shown own answer)

    -- an entry for the key is what it shows for the key
    shows_there : (e : List ℕ × Version) → Contains (shown own answer) e → e.0 ≡ key → Shows own answer key e.1
    shows_there e there same = subst (λ k. Contains (shown own answer) (k, e.1)) same there

    shown_or_deleted : (j : ℕ) (w : Version) → Decides (shows own answer key || is_deleted h j bucket key w) (((v : Version) → ¬ Shows own answer key v) → IsDeleted h j bucket key w)
    shown_or_deleted j w = by_case (shows own answer key) refl
      where
        by_case : (b : Bool) → shows own answer key ≡ b → Decides (b || is_deleted h j bucket key w) (((v : Version) → ¬ Shows own answer key v) → IsDeleted h j bucket key w)
        by_case true e = (λ t none. let s = shows-Decides.0 e in absurd (none s.0.1 (shows_there s.0 s.1 s.2)), λ p. refl)
        by_case false e = (
          λ d none. (is_deleted-Decides j w).0 d,
          λ p. (is_deleted-Decides j w).1 (p (λ v there. let t = shows-Decides.1 ((key, v), there, refl) in let no : false ≡ true = sym e ∙ t in cc)),
        )

    pub covers-Decides : (j : ℕ) (w : Version) → Decides (covers h j bucket own answer key w) (Covers h j bucket own answer key w)
    covers-Decides j w =
        Decides-like _
        (λ both. record { versions = λ v there below. both.0 ((key, v), there, (refl, below)); none = both.1 })
        (λ c. (λ (e, there, (same, below)). c.versions e.1 (shows_there e there same) below, c.none))
        (Decides-and _ _ (Decides-not _ (shows_below-Decides w)) (shown_or_deleted j w))

module _ (h : List Record) (i j : ℕ) (kind : Kind) (bucket own : List ℕ) (answer : Answer) where
  -- what a read owes to each write of a key that it names which was acknowledged before it began
  abbrev pub CoversAll : Type 0
  CoversAll = (key : List ℕ) (w : Version) → IsTrue (names kind own key) → IsAcknowledged h i bucket key w → Covers h j bucket own answer key w

  -- and for each version that it shows
  abbrev pub WrittenAll : Type 0
  WrittenAll = (key : List ℕ) (v : Version) → IsTrue (names kind own key) → Shows own answer key v → IsWritten h j bucket key v

  -- a write that it doesn't cover
  abbrev UncoveredAs : ℕ → ℕ → Kind → List ℕ → List ℕ → Type 0
  UncoveredAs place q other b key =
      (is_write other ≡ true) × ((names kind own key ≡ true) × ((b ≡ bucket)
      × ((a : ℕ × Version) × (acknowledged h place q ≡ Some a) × ((a.0 < i) × ¬ Covers h j bucket own answer key a.1))))

  covers_at-Decides : (place : ℕ) → Decides (covers_at h i j kind bucket own answer place) (¬ Begun (slice_get h place) (UncoveredAs place))
  covers_at-Decides place =
      Decides-not _ (begins-Decides _ (UncoveredAs place)
      (λ q other b key. Decides-and _ _ (Decides-itself (is_write other)) (Decides-and _ _ (Decides-itself (names kind own key)) (Decides-and _ _ (bytes_eq-Decides b bucket)
      (is_some_with-Decides _ (λ a. (a.0 < i) × ¬ Covers h j bucket own answer key a.1)
      (λ a. Decides-and _ _ (Decides-ltb a.0 i) (Decides-not _ (covers-Decides h bucket key own answer j a.1))) (acknowledged h place q)))))
      (slice_get h place))

  pub covers_all-Decides : Decides (covers_all h i j kind bucket own answer) CoversAll
  covers_all-Decides =
      Decides-like _
      (λ all key w named a. passes _ (covers-Decides h bucket key own answer j w) (λ not_covered. all a.place (placed a) (uncovered a named not_covered)))
      (λ owed place lt b. let x = b.holds in x.1.1.1.2.1 (owed b.key x.1.1.1.0.1 x.1.0 (acked place b)))
      (all_below-Decides (covers_at h i j kind bucket own answer) (λ place. ¬ Begun (slice_get h place) (UncoveredAs place)) covers_at-Decides i)
    where
      placed : {key : List ℕ} {w : Version} (a : IsAcknowledged h i bucket key w) → a.place < i
      placed a = let later = acknowledged-later h a.place a.request _ a.finished in let before = a.before in omega arith

      uncovered : {key : List ℕ} {w : Version} (a : IsAcknowledged h i bucket key w) → names kind own key ≡ true → ¬ Covers h j bucket own answer key w → Begun (slice_get h a.place) (UncoveredAs a.place)
      uncovered {key} {w} a named not_covered = record {
        request = a.request;
        node = a.began.0;
        kind = a.kind;
        bucket = bucket;
        key = key;
        is = a.began.1;
        holds = (a.writes, (named, (refl, ((a.end, w), a.finished, (a.before, not_covered)))));
      }

      acked : (place : ℕ) (b : Begun (slice_get h place) (UncoveredAs place)) → IsAcknowledged h i bucket b.key b.holds.1.1.1.0.1
      acked place b = record {
        request = b.request;
        kind = b.kind;
        place = place;
        end = b.holds.1.1.1.0.0;
        writes = b.holds.0;
        began = began_there h place b.request b.node b.kind b.bucket bucket b.key b.key b.is b.holds.1.1.0 refl;
        finished = b.holds.1.1.1.1;
        before = b.holds.1.1.1.2.0;
      }

  -- an entry whose key the read names was written
  abbrev WrittenIfNamed : List ℕ × Version → Type 0
  WrittenIfNamed e = names kind own e.0 ≡ true → IsWritten h j bucket e.0 e.1

  if_named-Decides : (e : List ℕ × Version) → Decides (is_written_if_named h j kind bucket own e) (WrittenIfNamed e)
  if_named-Decides e = by_case (names kind own e.0) refl
    where
      by_case : (b : Bool) → names kind own e.0 ≡ b → Decides (not b || is_written h j bucket e.0 e.1) (WrittenIfNamed e)
      by_case true named = (λ t _. (is_written-Decides h bucket e.0 j e.1).0 t, λ p. (is_written-Decides h bucket e.0 j e.1).1 (p named))
      by_case false unnamed = (λ t named. let no : false ≡ true = sym unnamed ∙ named in cc, λ p. refl)

  pub shows_written-Decides : Decides (shows_written h j kind bucket own answer) WrittenAll
  shows_written-Decides =
      Decides-like _
      (λ all key v named there. all (key, v) there named)
      (λ all e there named. all e.0 e.1 named there)
      (list_all-Decides (is_written_if_named h j kind bucket own) WrittenIfNamed if_named-Decides (shown own answer))

  abbrev pub FreshParts : Type 0
  FreshParts = CoversAll × WrittenAll

module _ (h : List Record) where
  whole : {i j : ℕ} {kind : Kind} {bucket own : List ℕ} {answer : Answer} → FreshParts h i j kind bucket own answer → IsFreshRead h i j kind bucket own answer
  whole parts = record { covers = parts.0; written = parts.1 }

  parts-Decides : (i : ℕ) (kind : Kind) (bucket own : List ℕ) (f : ℕ × Answer) → Decides (covers_all h i f.0 kind bucket own f.1 && shows_written h f.0 kind bucket own f.1) (FreshParts h i f.0 kind bucket own f.1)
  parts-Decides i kind bucket own f = Decides-and _ _ (covers_all-Decides h i f.0 kind bucket own f.1) (shows_written-Decides h i f.0 kind bucket own f.1)

  -- what is found at a place is a read that isn't fresh
  pub stale_there : (i : ℕ) (f : ℕ × ℕ) → stale_at h i ≡ Some f → IsStaleRead h i f.0 f.1
  stale_there i f = there (slice_get h i) refl
    where
      there : (o : Option Record) → slice_get h i ≡ o → stale_of h i o ≡ Some f → IsStaleRead h i f.0 f.1
      there None at e = let no : ◌≡◌ {A = Option (ℕ × ℕ)} None (Some f) = e in cc
      there (Some (Finished q answer)) at e = let no : ◌≡◌ {A = Option (ℕ × ℕ)} None (Some f) = e in cc
      there (Some (Ended q cause)) at e = let no : ◌≡◌ {A = Option (ℕ × ℕ)} None (Some f) = e in cc
      there (Some (Began q node kind bucket own)) at e = by_kind (is_read kind) refl
        where
          by_test : (g : ℕ × Answer) → finish h i q ≡ Some g → stale_finish h i q kind bucket own (Some g) ≡ Some f → is_read kind ≡ true → (t : Bool) → (covers_all h i g.0 kind bucket own g.1 && shows_written h g.0 kind bucket own g.1) ≡ t → IsStaleRead h i f.0 f.1
          by_test g is found reads true t = let no : ◌≡◌ {A = Option (ℕ × ℕ)} None (Some f) = rw t at found in cc
          by_test g is found reads false t =
              let same : ◌≡◌ {A = Option (ℕ × ℕ)} (Some (g.0, q)) (Some f) = rw t at found in
              let one : (g.0, q) ≡ f = cc in
              subst (λ x. IsStaleRead h i x.0 x.1) one (record {
                kind = kind;
                bucket = bucket;
                own = own;
                answer = g.1;
                reads = reads;
                began = (node, at);
                finished = is;
                stale = λ fresh. let yes = (parts-Decides i kind bucket own g).1 (fresh.covers, fresh.written) in let no : false ≡ true = sym t ∙ yes in cc;
              })

          by_finish : (o : Option (ℕ × Answer)) → finish h i q ≡ o → stale_finish h i q kind bucket own o ≡ Some f → is_read kind ≡ true → IsStaleRead h i f.0 f.1
          by_finish None is found reads = let no : ◌≡◌ {A = Option (ℕ × ℕ)} None (Some f) = found in cc
          by_finish (Some g) is found reads = by_test g is found reads _ refl

          by_kind : (t : Bool) → is_read kind ≡ t → IsStaleRead h i f.0 f.1
          by_kind true t = by_finish (finish h i q) refl (rw t at e) t
          by_kind false t = let no : ◌≡◌ {A = Option (ℕ × ℕ)} None (Some f) = rw t at e in cc

  -- and the other way round
  pub stale_found : (i j q : ℕ) → IsStaleRead h i j q → stale_at h i ≡ Some (j, q)
  stale_found i j q s =
      let reads : is_read s.kind ≡ true = s.reads in
      let finished : finish h i q ≡ Some (j, s.answer) = s.finished in
      let owes : (covers_all h i j s.kind s.bucket s.own s.answer && shows_written h j s.kind s.bucket s.own s.answer) ≡ false =
      fails _ (parts-Decides i s.kind s.bucket s.own (j, s.answer)) (λ parts. s.stale (whole parts)) in
      ap (stale_of h i) s.began.1 ∙ rw (reads, finished, owes) refl

  -- a stale read began at one of the places
  pub stale_within : (i j q : ℕ) → IsStaleRead h i j q → i < length h
  stale_within i j q s = slice_get_within h i _ s.began.1

  -- where none is found the history is fresh
  pub none_stale : ((i : ℕ) → i < length h → stale_at h i ≡ None) → Fresh h
  none_stale none i j kind bucket own answer r =
      whole (passes _ (parts-Decides i kind bucket own (j, answer)) (λ owes. found (record {
        kind = kind;
        bucket = bucket;
        own = own;
        answer = answer;
        reads = r.reads;
        began = r.began;
        finished = r.finished;
        stale = λ fresh. owes (fresh.covers, fresh.written);
      })))
    where
      found : IsStaleRead h i j r.request → ⊥
      found s = let no : ◌≡◌ {A = Option (ℕ × ℕ)} None (Some (j, r.request)) = sym (none i (stale_within i j r.request s)) ∙ stale_found i j r.request s in cc

  -- where it is fresh none is stale
  pub no_stale : Fresh h → (i j q : ℕ) → IsStaleRead h i j q → ⊥
  no_stale fresh i j q s = s.stale (fresh i j s.kind s.bucket s.own s.answer (record { request = q; reads = s.reads; began = s.began; finished = s.finished }))
