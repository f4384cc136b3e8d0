-- What a window adds to what a list has shown, and that a list that is done is fresh.
use Rattle.std.specs.Prelude.{◌≡◌, ◌⊎◌, ℕ, nat_eq, true, false, cond, not, Option, Some, None, List, [], ◌∷◌, ◌++◌, length, drop, filter, IsTrue, refl}
use Rattle.std.proofs.Common.{ap, sym, subst, ◌∙◌, inl, inr, arith}
use Rattle.std.specs.List.{Contains, starts_with}
use Rattle.std.specs.Ordering.{nat_cmp, is_lt}
use Rattle.std.specs.Cmp.Lexicographic.{slice_cmp}
use Rattle.std.proofs.lemmas.List.Elements.{All-contains, Contains-append_cases, Contains-append_left, Contains-append_right}
use Rattle.blake2_hash.specs.declared.digest.Hash32.{Hash32}
use Rattle.blake2_hash.specs.Hash.{digest_of}
use Rattle.crdt_rows.specs.declared.version.Version.{Version}
use Rattle.crdt_rows.specs.declared.object_row.ObjectRow.{ObjectRow}
use Rattle.crdt_rows.specs.declared.any_row.AnyRow.{AnyRow}
use Rattle.crdt_rows.specs.declared.any_row.AnyRow.TheVariants as rows
use Rattle.row_codec.specs.NumberLaws.{block_length}
use Rattle.table_model.specs.Rows.{find_row, is_at}
use Rattle.object_schema.specs.Schema.{words}
use Rattle.object_collects.specs.Seen.{object_versions}
use Rattle.collect_reads.specs.Clean.{IsNotBelow}
use Rattle.store_collects.proofs.Clean.{GaveClean}
use Rattle.quorum_model.specs.Window.{IsNamed, is_within}
use Rattle.range_laws.proofs.Ends.{begins_with}
use Rattle.wire_messages.specs.declared.phase.PhaseEnd.TheVariants.{Window}
use Rattle.cluster_machine.specs.Node.{Scan, scanned}
use Rattle.cluster_machine.specs.World.{numbered}
use Rattle.history_model.specs.declared.record.Kind.{Kind}
use Rattle.history_model.specs.declared.record.Kind.TheVariants as kind
use Rattle.history_model.specs.declared.record.Answer.TheVariants as answer
use Rattle.history_model.specs.Record.{names}
use Rattle.history_model.specs.Fresh.{Below}
use Rattle.flow_model.specs.declared.flow.Name.{Name}
use Rattle.flow_model.specs.Rows.{row_key}
use Rattle.flow_model.specs.Says.{Said, none, marked, inline, in_blocks, said_by, said_of, is_object, is_shown, object_rows, shown_rows}
use Rattle.store_model.specs.Answers.{Entry, with_entry, entries, versions_of}
use Rattle.store_model.specs.Run.{State, Asked, Draw}
use Rattle.store_model.specs.Fresh.{IsMarked}
use Rattle.store_laws.proofs.Elements.{at_cut, none_in, cons_cases, there, found_in, picked}
use Rattle.object_schema.specs.Laws.{key_parts}
use Rattle.blake2_hash.specs.DigestLaws.{digest_length}
use Rattle.store_laws.proofs.Every.{EveryWorld}
use Rattle.store_laws.proofs.Rows.{IsValue, IsFound, FoundIn, found, said_written}
use Rattle.store_laws.proofs.Clean.{reached_clean, reached_gone}
use Rattle.store_laws.proofs.Covering.{IsSaid, CoversIn, IsHere}
use Rattle.store_laws.proofs.Gone.{IsPassed, IsCovering, value_covers}
use Rattle.store_laws.proofs.Good.{IsGood}
use Rattle.store_laws.proofs.Orders.{past_front, begins_front, within_front, at_parts, found_itself}
use Rattle.store_laws.proofs.Reached.{reached_good, reached_window}
use Rattle.store_laws.proofs.Sound.{began, WasAcknowledged, HasKept, HasBefore, AreProper, HasFound, listed, HasRow, IsShown, HasShown, sights, IsExplained, IsFreshEnd, IsSound}
use Rattle.store_laws.proofs.Values.{is_own, drew_here}
use Rattle.machine_origins.specs.Windows.{IsWindow}
use Rattle.store_laws.proofs.Deeds.{Deed, IsClear}

-- ---- what is said of an object

-- one version is said
said_one : (said : Said) (u v : Version) → IsSaid u said → IsSaid v said → v ≡ u
said_one none u v a b = absurd a
said_one (marked n) u v a b = sym b ∙ a
said_one (inline n meta body) u v a b = sym b ∙ a
said_one (in_blocks n meta first) u v a b = sym b ∙ a

-- a row that shows no object, of which a version is said, has a marker
said_marked : (said : Said) (v : Version) → is_object said ≡ false → IsSaid v said → said ≡ marked v
said_marked none v e is = absurd is
said_marked (marked n) v e is = ap marked is
said_marked (inline n meta body) v e is = cc
said_marked (in_blocks n meta first) v e is = cc

-- a version that is said of an object was drawn for it
said_found : (draws : List Draw) (r : ObjectRow) (name : Name) (said : Said) (v : Version) → is_object said ≡ true → IsSaid v said → IsFound draws r name said → FoundIn draws name v
said_found draws r name none v e is f = cc
said_found draws r name (marked n) v e is f = cc
said_found draws r name (inline n meta body) v e is f = subst (FoundIn draws name) is f
said_found draws r name (in_blocks n meta first) v e is f = subst (FoundIn draws name) is f

-- ---- rows that are shown

objects_in : (rs : List AnyRow) (r : ObjectRow) → Contains (object_rows rs) r → Contains rs (rows.Object r)
objects_in [] r c = absurd (none_in r c)
objects_in (rows.Object x ∷ rs) r c = elim (cons_cases x (object_rows rs) r c) [
  | inl e ↦ (0, omega arith, ap rows.Object e)
  | inr more ↦ there (rows.Object x) rs (rows.Object r) (objects_in rs r more)
]
objects_in (rows.Version x ∷ rs) r c = there (rows.Version x) rs (rows.Object r) (objects_in rs r c)
objects_in (rows.Ref x ∷ rs) r c = there (rows.Ref x) rs (rows.Object r) (objects_in rs r c)

in_objects : (rs : List AnyRow) (r : ObjectRow) → Contains rs (rows.Object r) → Contains (object_rows rs) r
in_objects [] r c = absurd (none_in (rows.Object r) c)
in_objects (rows.Object x ∷ rs) r c = elim (cons_cases (rows.Object x) rs (rows.Object r) c) [
  | inl e ↦ (let same : x ≡ r = cc in (0, omega arith, same))
  | inr more ↦ there x (object_rows rs) r (in_objects rs r more)
]
in_objects (rows.Version x ∷ rs) r c = elim (cons_cases (rows.Version x) rs (rows.Object r) c) [
  | inl e ↦ cc
  | inr more ↦ in_objects rs r more
]
in_objects (rows.Ref x ∷ rs) r c = elim (cons_cases (rows.Ref x) rs (rows.Object r) c) [
  | inl e ↦ cc
  | inr more ↦ in_objects rs r more
]

passing : (xs : List ObjectRow) (r : ObjectRow) → Contains (filter is_shown xs) r → Contains xs r × (is_shown r ≡ true)
passing [] r c = absurd (none_in r c)
passing (x ∷ xs) r c =
    elim (is_shown x) as (λ b. is_shown x ≡ b → Contains (cond b (x ∷ filter is_shown xs) (filter is_shown xs)) r → Contains (x ∷ xs) r × (is_shown r ≡ true)) [
      | true ↦ (λ t k. elim (cons_cases x (filter is_shown xs) r k) [
        | inl e ↦ ((0, omega arith, e), subst (λ y. is_shown y ≡ true) e t)
        | inr more ↦ (let rest = passing xs r more in (there x xs r rest.0, rest.1))
      ])
      | false ↦ (λ f k. let rest = passing xs r k in (there x xs r rest.0, rest.1))
    ] refl c

passes : (xs : List ObjectRow) (r : ObjectRow) → is_shown r ≡ true → Contains xs r → Contains (filter is_shown xs) r
passes [] r t c = absurd (none_in r c)
passes (x ∷ xs) r t c = elim (cons_cases x xs r c) [
  | inl e ↦ subst (λ b. Contains (cond b (x ∷ filter is_shown xs) (filter is_shown xs)) r) (sym (ap is_shown e ∙ t)) (0, omega arith, e)
  | inr more ↦ elim (is_shown x) as (λ b. Contains (cond b (x ∷ filter is_shown xs) (filter is_shown xs)) r) [
    | true ↦ there x (filter is_shown xs) r (passes xs r t more)
    | false ↦ passes xs r t more
  ]
]

-- ---- a window

module _ {H : Deed → Type 0} where
  module _ (every : EveryWorld H) (s : State) (q : ℕ) (sound : IsSound H s) (bucket prefix : List ℕ) (shown_so_far : List ObjectRow) (others : List AnyRow) (end : Option (List ℕ)) (scan : Scan AnyRow)
      (read : Contains s.world.reads (scanned scan others end)) (position : scan.position ≡ (digest_of bucket).0) (prefix_is : scan.prefix ≡ prefix) (has : HasBefore s.history q scan.kept) (proper : AreProper scan.kept) where
    abbrev pub own : Name
    own = record { bucket = bucket; key = prefix }

    window : IsWindow words scan others end
    window = reached_window every s.world sound.reached (scanned scan others end) read

    good : (row : AnyRow) → Contains others row → IsGood s.draws row
    good row c = All-contains (IsGood s.draws) others row (reached_good every s.draws s.world sound.reached (scanned scan others end) read) c

    abbrev IsNamedKey : List ℕ → Type 0
    IsNamedKey key = IsNamed scan.position scan.prefix scan.after end key

    -- a row that is found at an object's key
    known : (key : List ℕ) (row : AnyRow) → find_row words 1 (row_key (listed own key)) others ≡ Some row → IsValue s.draws (listed own key) row
    known key row e =
        let f = found_in (is_at words 1 (row_key (listed own key))) others row e in
        let parts = at_parts words 1 (row_key (listed own key)) row f.0 in
        let g = good row f.1 in
        record { is_of = g.0; table = parts.0; key = parts.1; is_proper = g.1 parts.0 }

    -- what the window has at a key
    abbrev row_of_key : List ℕ → Option AnyRow
    row_of_key key = find_row words 1 (row_key (listed own key)) others

    here : (key : List ℕ) (row : AnyRow) → row_of_key key ≡ Some row → IsHere (row_key (listed own key)) row
    here key row e = let value = known key row e in record { table = value.table; key_is = value.key; is_proper = value.is_proper }

    -- what the window has at the key of an object that was kept before covers it, or a marker that was collected does
    at_key : IsClear H → (key : List ℕ) (w : Version) → IsNamedKey (row_key (listed own key)) → HasKept scan.kept (listed own key) w →
        IsCovering (row_of_key key) w ⊎ IsPassed s.draws s.world.collected (listed own key) (row_of_key key) w
    at_key clear key w named k =
        let name : Name = listed own key in
        let g : GaveClean s.world.collected (scanned scan others end) = reached_clean every s.world sound.reached clear (scanned scan others end) read in
        value_covers s.draws s.world.collected g.collected g.among g.marked (reached_gone every s.draws s.world sound.reached) name (row_of_key key)
        (λ r u there marked same row e.
        let value = here key row e in
        let inside = (found_in (is_at words 1 (row_key name)) others row e).1 in
        picked (IsNotBelow words object_versions (words.key r) u) others row (g.clean r u there marked) inside value.table (value.key_is ∙ sym same))
        w k.block k.wish scan.kept proper k.is_there (here key) (g.kept (row_key name) named)

    -- a key with the prefix, past the start key, up to the window's end
    named_key : (key : List ℕ) → IsTrue (starts_with nat_eq key prefix) → is_lt (slice_cmp nat_cmp scan.after key) ≡ true → IsTrue (is_within end key) → IsNamedKey (row_key (listed own key))
    named_key key begins past within =
        let p : List ℕ = (digest_of bucket).0 in
        subst (λ (x : List ℕ). IsNamed x scan.prefix scan.after end (p ++ key)) (sym position)
        (subst (λ (x : List ℕ). IsNamed p x scan.after end (p ++ key)) (sym prefix_is) (record {
          begins = begins_front p key prefix ∙ begins;
          past = ap is_lt (past_front p scan.after key) ∙ past;
          within = within_front p key end ∙ within;
        }))

    -- the window's rows are of the bucket
    own_key : (r : ObjectRow) → Contains others (rows.Object r) → words.key (rows.Object r) ≡ row_key (listed own r.key)
    own_key r c =
        let named : IsNamedKey (words.key (rows.Object r)) = All-contains (λ row. IsNamedKey (words.key row)) others (rows.Object r) window.named c in
        let whole : scan.position ++ drop (length scan.position) (words.key (rows.Object r)) ≡ r.bucket.0 ++ r.key = begins_with scan.position scan.prefix (words.key (rows.Object r)) named.begins in
        let here : (digest_of bucket).0 ++ drop (length scan.position) (words.key (rows.Object r)) ≡ r.bucket.0 ++ r.key = ap (λ p. p ++ drop (length scan.position) (words.key (rows.Object r))) (sym position) ∙ whole in
        let parts = key_parts (digest_of bucket) r.bucket (drop (length scan.position) (words.key (rows.Object r))) r.key (digest_length bucket) (block_length 32 r.bucket.0 ((good (rows.Object r) c).1 refl)) here in
        ap (λ (b : Hash32). b.0 ++ r.key) (sym parts.0)

    -- the version that a row says is not below what the window's row at its key covers
    above : (r : ObjectRow) → row_of_key r.key ≡ Some (rows.Object r) → (v : Version) → IsSaid v (said_by r) → (w : Version) →
        IsCovering (row_of_key r.key) w ⊎ IsPassed s.draws s.world.collected (listed own r.key) (row_of_key r.key) w → ¬ Below v w
    above r itself v is w (inl k) =
        let rows_same : Some (rows.Object k.row) ≡ Some (rows.Object r) = sym k.value_is ∙ itself in
        let same : k.row ≡ r = cc in
        let c : CoversIn r w = subst (λ (x : ObjectRow). CoversIn x w) same k.covers in
        subst (λ (u : Version). ¬ Below u w) (sym (said_one (said_by r) c.version v c.says is)) c.not_below
    above r itself v is w (inr p) = p.not_below v (subst (λ (o : Option AnyRow). IsSaid v (said_of o)) (sym itself) is)

    -- a row that the window shows
    pub new_shown : (r : ObjectRow) → Contains (shown_rows others) r → IsShown H s.draws s.history q own r
    new_shown r c =
        let p = passing (object_rows others) r c in
        let there = objects_in others r p.0 in
        let name : Name = listed own r.key in
        let key_is = own_key r there in
        let named : IsNamedKey (row_key name) = subst IsNamedKey key_is (All-contains (λ row. IsNamedKey (words.key row)) others (rows.Object r) window.named there) in
        let itself : find_row words 1 (row_key name) others ≡ Some (rows.Object r) = subst (λ k. find_row words 1 k others ≡ Some (rows.Object r)) key_is (found_itself words others (rows.Object r) window.table window.ascending there) in
        let is_found : IsFound s.draws r name (said_by r) = found s.draws r name (good (rows.Object r) there).0 key_is in (
          p.1,
          λ v is. record {
            found = said_found s.draws r name (said_by r) v p.1 is is_found;
            not_below = λ clear before after n kind w cut ack. above r itself v is w (at_key clear r.key w named (has before after n kind own cut name w ack));
          },
          said_written s.draws r (good (rows.Object r) there).0,
        )

    module _ (so_far : HasShown H s.draws s.history (sights s) q own shown_so_far (Some scan.after)) (seen : Contains s.saw (record { request = q; end = Window others end })) where
      abbrev shown_now : List ObjectRow
      shown_now = shown_so_far ++ shown_rows others

      -- a row at a key that the window names
      row_covers : (key : List ℕ) (w : Version) → IsCovering (row_of_key key) w → HasRow shown_now key ⊎ IsMarked s.saw q bucket key w
      row_covers key w at =
          let r : ObjectRow = at.row in
          let c : CoversIn r w = at.covers in
          let value = known key (rows.Object r) at.value_is in
          let there = (found_in (is_at words 1 (row_key (listed own key))) others (rows.Object r) at.value_is).1 in
          let parts = key_parts r.bucket (digest_of bucket) r.key key (block_length 32 r.bucket.0 value.is_proper) (digest_length bucket) value.key in
          elim (is_shown r) as (λ b. is_shown r ≡ b → HasRow shown_now key ⊎ IsMarked s.saw q bucket key w) [
            | true ↦ (λ t. inl (record { row = r; is_there = Contains-append_right shown_so_far (shown_rows others) r (passes (object_rows others) r t (in_objects others r there)); key_is = parts.1 }))
            | false ↦ (λ f. inr (record {
              end = Window others end;
              was_seen = seen;
              row = r;
              gave = there;
              bucket_is = parts.0;
              key_is = parts.1;
              version = c.version;
              says = said_marked (said_by r) c.version f c.says;
              not_below = c.not_below;
            }))
          ] refl

      -- an object at such a key
      new_covers : IsClear H → (key : List ℕ) (w : Version) → IsNamedKey (row_key (listed own key)) → HasKept scan.kept (listed own key) w → HasRow shown_now key ⊎ IsExplained s.draws (sights s) q bucket key w
      new_covers clear key w named k = elim (at_key clear key w named k) [
        | inl at ↦ elim (row_covers key w at) [ inl has_row ↦ inl has_row | inr m ↦ inr (inl m) ]
        | inr p ↦ inr (inr p.is_gone)
      ]

      -- what the list has shown with this window
      pub window_shown : HasShown H s.draws s.history (sights s) q own shown_now end
      window_shown = record {
        shown = λ r c. elim (Contains-append_cases shown_so_far (shown_rows others) r c) [
          | inl old ↦ so_far.shown r old
          | inr new ↦ new_shown r new
        ];
        covers = λ clear before after n kind key w cut begins within ack.
            elim (is_lt (slice_cmp nat_cmp scan.after key)) as (λ b. is_lt (slice_cmp nat_cmp scan.after key) ≡ b → HasRow shown_now key ⊎ IsExplained s.draws (sights s) q bucket key w) [
              | true ↦ (λ past. new_covers clear key w (named_key key begins past within) (has before after n kind own cut (listed own key) w ack))
              | false ↦ (λ low. elim (so_far.covers clear before after n kind key w cut begins (ap not low) ack) [
                | inl h ↦ inl (record { row = h.row; is_there = Contains-append_left shown_so_far (shown_rows others) h.row h.is_there; key_is = h.key_is })
                | inr m ↦ inr m
              ])
            ] refl;
      }

-- ---- the entries of a list

-- the row of an entry
record RowOf (rs : List ObjectRow) (key : List ℕ) (v : Version) : Type 0 where
  row : ObjectRow
  is_there : Contains rs row
  key_is : row.key ≡ key
  says : IsSaid v (said_by row)

row_more : (r : ObjectRow) (rs : List ObjectRow) (key : List ℕ) (v : Version) → RowOf rs key v → RowOf (r ∷ rs) key v
row_more r rs key v h = record { row = h.row; is_there = there r rs h.row h.is_there; key_is = h.key_is; says = h.says }

row_here : (r : ObjectRow) (rs : List ObjectRow) (key : List ℕ) (n v : Version) → IsSaid n (said_by r) → ◌≡◌ {A = List ℕ × Version} (r.key, n) (key, v) → RowOf (r ∷ rs) key v
row_here r rs key n v says e = record { row = r; is_there = (0, omega arith, refl); key_is = ap (λ p. p.0) e; says = subst (λ u. IsSaid u (said_by r)) (ap (λ p. p.1) e) says }

row_by : (r : ObjectRow) (rs : List ObjectRow) (key : List ℕ) (v : Version) (said : Said) → said_by r ≡ said → (Contains (versions_of (entries rs)) (key, v) → RowOf rs key v) → Contains (versions_of (with_entry r.key said (entries rs))) (key, v) → RowOf (r ∷ rs) key v
row_by r rs key v none e rest c = row_more r rs key v (rest c)
row_by r rs key v (marked n) e rest c = row_more r rs key v (rest c)
row_by r rs key v (inline n meta body) e rest c = elim (cons_cases (r.key, n) (versions_of (entries rs)) (key, v) c) [
  | inl same ↦ row_here r rs key n v (subst (IsSaid n) (sym e) refl) same
  | inr more ↦ row_more r rs key v (rest more)
]
row_by r rs key v (in_blocks n meta first) e rest c = elim (cons_cases (r.key, n) (versions_of (entries rs)) (key, v) c) [
  | inl same ↦ row_here r rs key n v (subst (IsSaid n) (sym e) refl) same
  | inr more ↦ row_more r rs key v (rest more)
]

row_of : (rs : List ObjectRow) (key : List ℕ) (v : Version) → Contains (versions_of (entries rs)) (key, v) → RowOf rs key v
row_of [] key v c = absurd (none_in _ c)
row_of (r ∷ rs) key v c = row_by r rs key v (said_by r) refl (row_of rs key v) c

-- the entry of a row
entry_here : (key : List ℕ) (es : List Entry) (said : Said) → is_object said ≡ true → (v : Version) × Contains (versions_of (with_entry key said es)) (key, v)
entry_here key es none t = cc
entry_here key es (marked n) t = cc
entry_here key es (inline n meta body) t = (n, (0, omega arith, refl))
entry_here key es (in_blocks n meta first) t = (n, (0, omega arith, refl))

entry_more : (key other : List ℕ) (es : List Entry) (said : Said) (v : Version) → Contains (versions_of es) (other, v) → Contains (versions_of (with_entry key said es)) (other, v)
entry_more key other es none v c = c
entry_more key other es (marked n) v c = c
entry_more key other es (inline n meta body) v c = there (key, n) (versions_of es) (other, v) c
entry_more key other es (in_blocks n meta first) v c = there (key, n) (versions_of es) (other, v) c

entry_of : (rs : List ObjectRow) (r : ObjectRow) → is_shown r ≡ true → Contains rs r → (v : Version) × Contains (versions_of (entries rs)) (r.key, v)
entry_of [] r t c = absurd (none_in r c)
entry_of (x ∷ rs) r t c = elim (cons_cases x rs r c) [
  | inl e ↦ subst (λ (y : ObjectRow). (v : Version) × Contains (versions_of (entries (x ∷ rs))) (y.key, v)) e (entry_here x.key (entries rs) (said_by x) (ap is_shown e ∙ t))
  | inr more ↦ (let rest = entry_of rs r t more in (rest.0, entry_more x.key r.key (entries rs) (said_by x) rest.0 rest.1))
]

-- ---- a list that is done

module _ {H : Deed → Type 0} where
  module _ (s : State) (q : ℕ) (a : Asked) (at : numbered s.asked q ≡ Some a) (sound : IsSound H s) (lists : a.kind ≡ kind.List) (shown : List ObjectRow) (h : HasShown H s.draws s.history (sights s) q a.name shown None) where
    -- a key that the list names begins with its prefix
    begins : (k : Kind) (m : Name) (key : List ℕ) → (a.kind ≡ k) × (a.name ≡ m) → IsTrue (names k m.key key) → IsTrue (starts_with nat_eq key a.name.key)
    begins k m key is named =
        subst (λ (k : Kind). IsTrue (names k a.name.key key)) lists (subst (λ (k : Kind). IsTrue (names k a.name.key key)) (sym is.0) (subst (λ (x : Name). IsTrue (names k x.key key)) (sym is.1) named))

    -- what the list shows of a key was found
    entry_found : (key : List ℕ) (v : Version) → Contains (versions_of (entries shown)) (key, v) → HasFound H s.draws s.history q a.name (listed a.name key) v
    entry_found key v c =
        let r = row_of shown key v c in
        subst (λ (k : List ℕ). HasFound H s.draws s.history q a.name (listed a.name k) v) r.key_is ((h.shown r.row r.is_there).1 v r.says)

    pub listed_end : IsFreshEnd H s q (answer.Listed (versions_of (entries shown)))
    listed_end = record {
      covers = λ clear before after n k m key w reading cut named ack.
          let is = is_own s q a at sound n k m (at_cut s.history before after (began q n k m) cut) in
          let here : s.history ≡ before ++ began q n k a.name ∷ after = subst (λ (x : Name). s.history ≡ before ++ began q n k x ∷ after) (sym is.1) cut in
          let acked : WasAcknowledged before (listed a.name key) w = subst (λ (x : Name). WasAcknowledged before (listed x key) w) (sym is.1) ack in
          record {
            versions = λ v c. (entry_found key v c).not_below clear before after n k w here acked;
            none = λ no. elim (h.covers clear before after n k key w here (begins k m key is named) refl acked) [
              | inl has ↦
                  let e = entry_of shown has.row (h.shown has.row has.is_there).0 has.is_there in
                  absurd (no e.0 (subst (λ (k : List ℕ). Contains (versions_of (entries shown)) (k, e.0)) has.key_is e.1))
              | inr e ↦ subst (λ (x : Name). IsExplained s.draws (sights s) q x.bucket key w) is.1 e
            ];
          };
      written = λ clash n k m key v reading begun named shows.
          let is = is_own s q a at sound n k m begun in
          drew_here s q a at sound v v refl (listed a.name key) (listed m key) (ap (λ (x : Name). listed x key) (sym is.1)) refl clash (entry_found key v shows).found;
    }
