-- What is done about rows, one after the other: how far it is, and where it stops.
use Rattle.std.specs.Prelude.{◌≡◌, ℕ, ◌+◌, ◌==◌, ◌&&◌, nat_lt, Bool, true, false, cond, List, [], ◌∷◌, ◌++◌, Option, Some, None, refl}
use Rattle.std.proofs.Common.{ap, sym, ◌∙◌, subst, arith, append-nil, append_assoc}
use Rattle.std.specs.List.{cons_option, list_all}
use Rattle.std.proofs.lemmas.Bool.{and_parts}
use Rattle.layout_roles.specs.declared.layout.Layout.{Layout}
use Rattle.gc_model.specs.declared.collection.Collection.{Collection}
use Rattle.gc_model.specs.Collecting.{Open, begun_with, changed, closed, in_second, keyed, missing_of}
use Rattle.table_schema.specs.Words.{Words}
use Rattle.table_model.specs.Rows.{find_row}
use Rattle.table_store.specs.Index.{Key}
use Rattle.wire_messages.specs.declared.message.Message.TheVariants.{Tomb}
use Rattle.cluster_machine.specs.Layouts.{layouts}
use Rattle.cluster_machine.specs.Node.{Post}
use Rattle.cluster_machine.specs.Phases.{bytes_of, is_spelled, to_each}
use Rattle.cluster_machine.specs.Collects.{Progress, collection_pause, has_bytes, is_aged, others, about, about_all, goes_on_with}
use Rattle.node_parts.specs.declared.collector.Collector.{Collector}
use Rattle.node_parts.specs.declared.packet.Envelope.{Envelope}
use Rattle.node_parts.specs.Posts.{Posts}
use Rattle.node_parts.specs.Collects.{AboutAt, AboutKeys, CannotAboutAt, CannotAboutKeys, about_row, about_rows, from_here, rows_at}
use Rattle.node_parts.proofs.Posting.{posts_more, posts_none}

module _ {R : Type 0} where
  -- this was done after that
  abbrev pub joined : Progress R Layout → Progress R Layout → Progress R Layout
  joined t u = record { gc = u.gc; posts = t.posts ++ u.posts; begun = t.begun + u.begun }

  joined_same : (t u : Progress R Layout) → (gc : t.gc ≡ u.gc) → (posts : t.posts ≡ u.posts) → (begun : t.begun ≡ u.begun) → t ≡ u
  joined_same t u gc posts begun = λ i. record { gc = gc i; posts = posts i; begun = begun i }

  joined_none : (t : Progress R Layout) → t ≡ joined t (from_here t.gc)
  joined_none t = joined_same t (joined t (from_here t.gc)) refl (sym (append-nil t.posts)) (omega arith)

module _ {R : Type 0} (join : R → R → R) (s : Words R) (id now version : ℕ) where
  module _ (t : Progress R Layout) where
    begins_joined : (r : R) (b : Bool) →
        cond b (record { gc = begun_with t.gc (s.key r) (bytes_of s r) id version; posts = t.posts ++ to_each (others id) (Tomb (t.gc.begun + 1) 1 (bytes_of s r)); begun = t.begun + 1 }) t
        ≡ joined t (cond b (record { gc = begun_with t.gc (s.key r) (bytes_of s r) id version; posts = to_each (others id) (Tomb (t.gc.begun + 1) 1 (bytes_of s r)); begun = 1 }) (from_here t.gc))
    begins_joined r true = refl
    begins_joined r false = joined_none t

    second_joined : (c : Collection) (b : Bool) (ready : ℕ) →
        cond b t (record t { gc = cond (c.round == 1) (changed in_second c.number t.gc) t.gc; posts = t.posts ++ to_each (missing_of (cond (c.round == 1) (in_second c) c)) (Tomb c.number 2 c.row) })
        ≡ joined t (cond b (from_here t.gc) (record { gc = cond (c.round == 1) (changed in_second c.number t.gc) t.gc; posts = to_each (missing_of (cond (c.round == 1) (in_second c) c)) (Tomb c.number 2 c.row); begun = 0 }))
    second_joined c true ready = joined_none t
    second_joined c false ready = joined_same _ _ refl refl (omega arith)

    goes_joined : (c : Collection) (o : Option ℕ) → goes_on_with join s layouts now c o t ≡ joined t (goes_on_with join s layouts now c o (from_here t.gc))
    goes_joined c None = joined_same _ _ refl refl (omega arith)
    goes_joined c (Some ready) = second_joined c (nat_lt now (ready + collection_pause)) ready

    open_joined : (c : Collection) (b : Bool) → cond b (goes_on_with join s layouts now c c.ready t) (record t { gc = closed c.number t.gc }) ≡ joined t (cond b (goes_on_with join s layouts now c c.ready (from_here t.gc)) (record (from_here t.gc) { gc = closed c.number t.gc }))
    open_joined c true = goes_joined c c.ready
    open_joined c false = joined_same _ _ refl (sym (append-nil t.posts)) (omega arith)

    about_joined : (r : R) (o : Option Collection) → about join s layouts id now version r o t ≡ joined t (about join s layouts id now version r o (from_here t.gc))
    about_joined r None = begins_joined r (is_spelled s r && is_aged now (s.marker r))
    about_joined r (Some c) = open_joined c (has_bytes join s c.row (Some r) && (version == c.newest))

  all_joined : (rs : List R) (t : Progress R Layout) → about_all join s layouts id now version rs t ≡ joined t (about_all join s layouts id now version rs (from_here t.gc))
  all_joined [] t = joined_none t
  all_joined (r ∷ rs) t =
      let u = about join s layouts id now version r (keyed (s.key r) t.gc) t in
      let v = about join s layouts id now version r (keyed (s.key r) t.gc) (from_here t.gc) in
      let step : u ≡ joined t v = about_joined t r (keyed (s.key r) t.gc) in
      all_joined rs u
      ∙ (ap (λ w. joined w (about_all join s layouts id now version rs (from_here w.gc))) step
      ∙ (joined_same _ _ refl (append_assoc t.posts v.posts (about_all join s layouts id now version rs (from_here v.gc)).posts) (omega arith)
      ∙ ap (joined t) (sym (all_joined rs v))))

  -- ---- how many began

  begins_counts : (r : R) (t : Progress R Layout) (b : Bool) (posts : List (Post R Layout)) → (cond b (record { gc = begun_with t.gc (s.key r) (bytes_of s r) id version; posts = posts; begun = t.begun + 1 }) t).gc.begun + t.begun ≡ t.gc.begun + (cond b (record { gc = begun_with t.gc (s.key r) (bytes_of s r) id version; posts = posts; begun = t.begun + 1 }) t).begun
  begins_counts r t true posts = omega arith
  begins_counts r t false posts = refl

  second_counts : (t : Progress R Layout) (n : ℕ) (a b : Bool) (posts : List (Post R Layout)) → (cond b t (record t { gc = cond a (changed in_second n t.gc) t.gc; posts = posts })).gc.begun + t.begun ≡ t.gc.begun + (cond b t (record t { gc = cond a (changed in_second n t.gc) t.gc; posts = posts })).begun
  second_counts t n a true posts = refl
  second_counts t n true false posts = refl
  second_counts t n false false posts = refl

  goes_counts : (t : Progress R Layout) (c : Collection) (o : Option ℕ) → (goes_on_with join s layouts now c o t).gc.begun + t.begun ≡ t.gc.begun + (goes_on_with join s layouts now c o t).begun
  goes_counts t c None = refl
  goes_counts t c (Some ready) = second_counts t c.number (c.round == 1) (nat_lt now (ready + collection_pause)) _

  open_counts : (t : Progress R Layout) (c : Collection) (b : Bool) → (cond b (goes_on_with join s layouts now c c.ready t) (record t { gc = closed c.number t.gc })).gc.begun + t.begun ≡ t.gc.begun + (cond b (goes_on_with join s layouts now c c.ready t) (record t { gc = closed c.number t.gc })).begun
  open_counts t c true = goes_counts t c c.ready
  open_counts t c false = refl

  about_counts : (r : R) (t : Progress R Layout) (o : Option Collection) → (about join s layouts id now version r o t).gc.begun + t.begun ≡ t.gc.begun + (about join s layouts id now version r o t).begun
  about_counts r t None = begins_counts r t (is_spelled s r && is_aged now (s.marker r)) _
  about_counts r t (Some c) = open_counts t c (has_bytes join s c.row (Some r) && (version == c.newest))

  pub all_counts : (rs : List R) (t : Progress R Layout) → (about_all join s layouts id now version rs t).gc.begun + t.begun ≡ t.gc.begun + (about_all join s layouts id now version rs t).begun
  all_counts [] t = refl
  all_counts (r ∷ rs) t =
      let first = about_counts r t (keyed (s.key r) t.gc) in
      let later = all_counts rs (about join s layouts id now version r (keyed (s.key r) t.gc) t) in
      omega (arith, first, later)

module _ {R : Type 0} (join : R → R → R) (s : Words R) (c : Collector) (rows : List R) where
  abbrev after : List Key → Open → Progress R Layout
  after keys gc = about_rows join s c (rows_at join s rows keys) gc

  -- so many have begun as the count rose by
  pub rows_count : (rs : List R) (gc : Open) → (about_rows join s c rs gc).gc.begun ≡ gc.begun + (about_rows join s c rs gc).begun
  rows_count rs gc = let all = all_counts join s c.node c.now c.newest rs (from_here gc) in omega (arith, all)

  -- of all these keys the rest is still to come
  pub record Going (whole : List Key) (first : Open) (start : List (Envelope R)) (rest : List Key) (gc : Open) (out : List (Envelope R)) : Type 0 where
    pub so_far : List (Post R Layout)
    pub posts : Posts c.node start out so_far
    pub gc_is : (after whole first).gc ≡ (after rest gc).gc
    pub posts_are : (after whole first).posts ≡ so_far ++ (after rest gc).posts
    pub spelled : list_all (is_spelled s) (rows_at join s rows whole) ≡ list_all (is_spelled s) (rows_at join s rows rest)

  pub going_first : (whole : List Key) (gc : Open) (out : List (Envelope R)) → Going whole gc out whole gc out
  going_first whole gc out = record { so_far = []; posts = posts_none c.node out; gc_is = refl; posts_are = refl; spelled = refl }

  module _ (whole : List Key) (first : Open) (start : List (Envelope R)) (k : Key) (rest : List Key) (gc : Open) (out : List (Envelope R)) (going : Going whole first start (k ∷ rest) gc out) where
    next_by : (new : Open) (later : List (Envelope R)) (o : Option R) → find_row s 1 k.items rows ≡ o → AboutAt join s c o gc new out later → Going whole first start rest new later
    next_by new later None is done = record {
      so_far = going.so_far ++ [];
      posts = posts_more c.node start out later going.so_far [] going.posts done.posts;
      gc_is = going.gc_is ∙ (ap (λ f. (about_rows join s c (cons_option f (rows_at join s rows rest)) gc).gc) is ∙ ap (λ g. (after rest g).gc) (sym done.gc_is));
      posts_are = going.posts_are ∙ (λ i. sym (append-nil going.so_far) i ++ (ap (λ f. (about_rows join s c (cons_option f (rows_at join s rows rest)) gc).posts) is ∙ ap (λ g. (after rest g).posts) (sym done.gc_is)) i);
      spelled = going.spelled ∙ ap (λ f. list_all (is_spelled s) (cons_option f (rows_at join s rows rest))) is;
    }
    next_by new later (Some r) is done =
        let u = about_row join s c r gc in
        let all : after (k ∷ rest) gc ≡ joined u (after rest new) =
        ap (λ f. about_rows join s c (cons_option f (rows_at join s rows rest)) gc) is
        ∙ (all_joined join s c.node c.now c.newest (rows_at join s rows rest) u ∙ ap (λ g. joined u (after rest g)) (sym done.done.gc_is)) in
        record {
          so_far = going.so_far ++ u.posts;
          posts = posts_more c.node start out later going.so_far u.posts going.posts done.done.posts;
          gc_is = going.gc_is ∙ ap (λ t. t.gc) all;
          posts_are = going.posts_are ∙ (ap (λ t. going.so_far ++ t.posts) all ∙ sym (append_assoc going.so_far u.posts (after rest new).posts));
          spelled =
              going.spelled
              ∙ (ap (λ f. list_all (is_spelled s) (cons_option f (rows_at join s rows rest))) is ∙ ap (λ b. b && list_all (is_spelled s) (rows_at join s rows rest)) done.spelled);
        }

    -- the row at one key more
    pub going_next : (new : Open) (later : List (Envelope R)) → AboutAt join s c (find_row s 1 k.items rows) gc new out later → Going whole first start rest new later
    going_next new later done = next_by new later (find_row s 1 k.items rows) refl done

    stops_by : (o : Option R) → find_row s 1 k.items rows ≡ o → CannotAboutAt join s c o gc → CannotAboutKeys join s c rows whole first
    stops_by None is cannot spelled fits = cannot
    stops_by (Some r) is cannot spelled fits =
        let u = about_row join s c r gc in
        let both : (is_spelled s r && list_all (is_spelled s) (rows_at join s rows rest)) ≡ true = sym (ap (λ f. list_all (is_spelled s) (cons_option f (rows_at join s rows rest))) is) ∙ (sym going.spelled ∙ spelled) in
        let later : (after whole first).gc.begun ≡ (about_all join s layouts c.node c.now c.newest (rows_at join s rows rest) u).gc.begun = ap (λ g. g.begun) (going.gc_is ∙ ap (λ f. (about_rows join s c (cons_option f (rows_at join s rows rest)) gc).gc) is) in
        let again = ap (λ t. t.gc.begun) (all_joined join s c.node c.now c.newest (rows_at join s rows rest) u) in
        let more = rows_count (rows_at join s rows rest) u.gc in
        cannot (and_parts (is_spelled s r) (list_all (is_spelled s) (rows_at join s rows rest)) both).0 (omega (arith, later, again, more, fits))

    -- where one can't be done all can't
    pub going_stops : CannotAboutAt join s c (find_row s 1 k.items rows) gc → CannotAboutKeys join s c rows whole first
    going_stops cannot = stops_by (find_row s 1 k.items rows) refl cannot

  -- none is to come
  pub going_last : (whole : List Key) (first : Open) (start : List (Envelope R)) (gc : Open) (out : List (Envelope R)) → Going whole first start [] gc out → AboutKeys join s c rows whole first gc start out
  going_last whole first start gc out going = record {
    done = record {
      gc_is = sym going.gc_is;
      posts = subst (Posts c.node start out) (sym (going.posts_are ∙ append-nil going.so_far)) going.posts;
    };
    spelled = going.spelled;
  }
