-- What is not below a write that was acknowledged before: a value that a phase gave, or a marker that was collected, and then neither is what the value says.
use Rattle.std.specs.Prelude.{◌≡◌, ◌⊎◌, ℕ, Bool, true, false, not, if◌then◌else◌, Option, Some, None, option_map, List, [], ◌∷◌, IsTrue, refl}
use Rattle.std.specs.List.{Contains}
use Rattle.std.specs.Cmp.{tied_itself}
use Rattle.std.specs.Option.{unwrap_or}
use Rattle.std.specs.Ordering.{is_lt}
use Rattle.std.specs.declared.cmp.Ordering.{Ordering}
use Rattle.std.specs.declared.cmp.Ordering.TheVariants.{Less, Equal, Greater}
use Rattle.std.proofs.Common.{ap, sym, subst, ◌∙◌, inl, inr, lit<}
use Rattle.blake2_hash.specs.DigestLaws.{digest_length}
use Rattle.blake2_hash.specs.Hash.{digest_of}
use Rattle.crdt_core.specs.declared.max.Max.{Max}
use Rattle.crdt_core.specs.Entries.{value_at}
use Rattle.crdt_core.specs.EntryLaws.{and_parts}
use Rattle.crdt_core.specs.Lex.{by_order}
use Rattle.crdt_core.specs.Map.{map_entries}
use Rattle.crdt_core.specs.Members.{Has}
use Rattle.crdt_core.specs.Order.{option_join}
use Rattle.crdt_rows.specs.declared.version.Version.{Version}
use Rattle.crdt_rows.specs.declared.body.Body.TheVariants.{Marker, Inline, Blocks}
use Rattle.crdt_rows.specs.declared.state.State.{State}
use Rattle.crdt_rows.specs.declared.state.State.TheVariants.{Uploading, Aborted, Complete}
use Rattle.crdt_rows.specs.declared.object_row.ObjectRow.{ObjectRow}
use Rattle.crdt_rows.specs.declared.any_row.AnyRow.{AnyRow}
use Rattle.crdt_rows.specs.declared.any_row.AnyRow.TheVariants as rows
use Rattle.crdt_rows.specs.AnyRow.{any_join}
use Rattle.crdt_rows.specs.FieldLaws.{version_total, version_identical}
use Rattle.crdt_rows.specs.Newest.{later, is_older, none_older}
use Rattle.crdt_rows.specs.ObjectRow.{newest, state_at}
use Rattle.crdt_rows.specs.State.{is_complete}
use Rattle.crdt_rows.specs.Version.{version_cmp}
use Rattle.crdt_rows.proofs.NewestKeys.{newest_final}
use Rattle.crdt_rows.proofs.ObjectJoin.{join-newest}
use Rattle.row_codec.specs.NumberLaws.{block_length, some_is}
use Rattle.table_schema.specs.Laws.{Same}
use Rattle.table_model.specs.Rows.{AllProper, is_at, row_at}
use Rattle.object_schema.specs.Laws.{schema_laws, apart, key_parts}
use Rattle.object_schema.specs.Schema.{only_marker, words}
use Rattle.object_collects.specs.Seen.{version_of, row_below}
use Rattle.object_collects.proofs.Keeps.{not_less, not_below, marker_is, marker_newest}
use Rattle.cluster_machine.specs.Kept.{IsOver}
use Rattle.history_model.specs.Fresh.{Below}
use Rattle.flow_model.specs.declared.flow.Name.{Name}
use Rattle.flow_model.specs.declared.flow.Wish.{Wish}
use Rattle.flow_model.specs.Rows.{row_key, complete}
use Rattle.flow_model.specs.Says.{marked, of_state, of_version, said_by, said_of}
use Rattle.store_model.specs.Run.{Draw}
use Rattle.store_laws.proofs.Covering.{IsSaid, CoversIn, CoversRow, IsHere, row_newest, newest_covers, covers}
use Rattle.store_laws.proofs.Good.{IsGood}
use Rattle.store_laws.proofs.Objects.{tied_keys}
use Rattle.store_laws.proofs.Orders.{at_parts}
use Rattle.store_laws.proofs.Sound.{IsGone}

-- ---- versions

one_by : (a b v : Version) (o : Ordering) → Some (by_order o b a a) ≡ Some v → (Some a ≡ Some v) ⊎ (Some b ≡ Some v)
one_by a b v Less e = inr e
one_by a b v Equal e = inl e
one_by a b v Greater e = inl e

-- the later of two is one of them
later_one : (n m : Option Version) (v : Version) → later version_cmp n m ≡ Some v → (n ≡ Some v) ⊎ (m ≡ Some v)
later_one None m v e = inr e
later_one (Some a) None v e = inl e
later_one (Some a) (Some b) v e = one_by a b v (version_cmp a b) e

as_test : (n w : Version) → ¬ Below n w → not (is_lt (version_cmp n w)) ≡ true
as_test n w h = elim (version_cmp n w) as (λ o. version_cmp n w ≡ o → not (is_lt o) ≡ true) [
  | Less ↦ λ e. absurd (h e)
  | Equal ↦ λ e. refl
  | Greater ↦ λ e. refl
] refl

-- what is not below one that is not below w is not below w
not_below_it : (v m w : Version) → not (is_lt (version_cmp v m)) ≡ true → ¬ Below m w → ¬ Below v w
not_below_it v m w a h b = not_less v w Less b refl (not_below v m w a (as_test m w h))

-- ---- what a row says

state_says : (n v : Version) (state : Option State) → IsSaid v (of_state n state) → n ≡ v
state_says n v None is = absurd is
state_says n v (Some Uploading) is = absurd is
state_says n v (Some Aborted) is = absurd is
state_says n v (Some (Complete Marker)) is = is
state_says n v (Some (Complete (Inline meta body))) is = is
state_says n v (Some (Complete (Blocks meta first))) is = is

by_newest : (r : ObjectRow) (v : Version) (n : Option Version) → IsSaid v (of_version r n) → n ≡ Some v
by_newest r v None is = absurd is
by_newest r v (Some n) is = ap Some (state_says n v (state_at r n) is)

-- the version that is said is the newest complete one
said_newest : (r : ObjectRow) (v : Version) → IsSaid v (said_by r) → newest r ≡ Some v
said_newest r v is = by_newest r v (newest r) is

-- a row that covers w has such a newest version
record TopsIt (row : AnyRow) (w : Version) : Type 0 where
  version : Version
  newest_is : row_newest row ≡ Some version
  not_below : ¬ Below version w

covers_top : (row : AnyRow) (w : Version) → CoversRow row w → TopsIt row w
covers_top (rows.Object r) w c = record { version = c.version; newest_is = said_newest r c.version c.says; not_below = c.not_below }
covers_top (rows.Version r) w c = absurd c
covers_top (rows.Ref r) w c = absurd c

-- no version of these entries is below u
entry_not_older : (u v : Version) (es : List (Version × Max State)) (x : Max State) → none_older version_cmp (Some u) es ≡ true → value_at version_cmp v es ≡ Some x → not (is_lt (version_cmp v u)) ≡ true
entry_not_older u v [] x h at = absurd cc
entry_not_older u v (e ∷ es) x h at =
    let parts = and_parts (not (is_older version_cmp e.0 (Some u))) (none_older version_cmp (Some u) es) h in
    elim (version_cmp v e.0) as (λ o. version_cmp v e.0 ≡ o → by_order o None (Some e.1) (value_at version_cmp v es) ≡ Some x → not (is_lt (version_cmp v u)) ≡ true) [
      | Less ↦ λ is at. (let none : None ≡ Some x = at in absurd cc)
      | Equal ↦ λ is at. subst (λ z. not (is_lt (version_cmp z u)) ≡ true) (sym (version_identical v e.0 is)) parts.0
      | Greater ↦ λ is at. entry_not_older u v es x parts.1 at
    ] refl at

not_not : (b : Bool) → not b ≡ false → b ≡ true
not_not true e = refl
not_not false e = absurd cc

-- a row that has no version below u says none
newest_not_below : (r : ObjectRow) (u : ℕ × ℕ) (v : Version) → row_below (rows.Object r) u ≡ false → newest r ≡ Some v → not (is_lt (version_cmp v (version_of u))) ≡ true
newest_not_below r u v clean e =
    let found = newest_final version_total (λ s. is_complete s.0) v (map_entries r.versions) r.versions.ascending e in
    entry_not_older (version_of u) v (map_entries r.versions) found.0 (not_not (none_older version_cmp (Some (version_of u)) (map_entries r.versions)) clean) found.1

-- ---- delete markers

marker_state : (v : Version) (s : State) (u : ℕ × ℕ) → marker_is v s ≡ Some u → (s ≡ Complete Marker) × (v ≡ version_of u)
marker_state v Uploading u e = absurd cc
marker_state v Aborted u e = absurd cc
marker_state v (Complete Marker) u e = (refl, (let same : (v.ts, v.id) ≡ u = ap (λ (o : Option (ℕ × ℕ)). unwrap_or o (v.ts, v.id)) e in ap (λ (x : ℕ × ℕ). version_of x) same))
marker_state v (Complete (Inline m d)) u e = absurd cc
marker_state v (Complete (Blocks m h)) u e = absurd cc

-- a row with nothing but a delete marker says so
marker_says : (r : ObjectRow) (u : ℕ × ℕ) → words.marker (rows.Object r) ≡ Some u → said_by r ≡ marked (version_of u)
marker_says r u e = by_entries (map_entries r.versions) refl e
  where
    by_entries : (es : List (Version × Max State)) → map_entries r.versions ≡ es → only_marker es ≡ Some u → said_by r ≡ marked (version_of u)
    by_entries [] is e = absurd cc
    by_entries (x ∷ y ∷ es) is e = absurd cc
    by_entries (x ∷ []) is e =
        let both = marker_state x.0 x.1.0 u e in
        let newest_is : newest r ≡ Some (version_of u) = marker_newest (map_entries r.versions) u (ap only_marker is ∙ e) in
        let here : value_at version_cmp x.0 (x ∷ []) ≡ Some x.1 = ap (λ o. by_order o None (Some x.1) None) (tied_itself version_total x.0) in
        let held : state_at r x.0 ≡ Some (Complete Marker) = ap (λ es. option_map (λ (s : Max State). s.0) (value_at version_cmp x.0 es)) is ∙ (ap (option_map (λ (s : Max State). s.0)) here ∙ ap Some both.0) in
        ap (of_version r) (newest_is ∙ ap Some (sym both.1)) ∙ (ap (of_state x.0) held ∙ ap marked both.1)

-- ---- rows at a place

module _ (key : List ℕ) where
  same_here : (a b : AnyRow) → IsHere key a → IsHere key b → Same words a b
  same_here a b x y = record { first_proper = x.is_proper; second_proper = y.is_proper; table = x.table ∙ sym y.table; key = x.key_is ∙ sym y.key_is }

  joined_here : (a b : AnyRow) → IsHere key a → IsHere key b → IsHere key (any_join a b)
  joined_here a b x y =
      let same = same_here a b x y in
      record { table = schema_laws.joined_table a b same ∙ x.table; key_is = schema_laws.joined_key a b same ∙ x.key_is; is_proper = schema_laws.joined_is_proper a b same }

  join_newest : (a b : AnyRow) → Same words a b → words.table a ≡ 1 → row_newest (any_join a b) ≡ later version_cmp (row_newest a) (row_newest b)
  join_newest (rows.Object a) (rows.Object b) same t = join-newest a b (tied_keys a b same)
  join_newest (rows.Object a) (rows.Version b) same t = apart 1 2 (lit< tt) same.table
  join_newest (rows.Object a) (rows.Ref b) same t = apart 1 3 (lit< tt) same.table
  join_newest (rows.Version a) b same t = apart 1 2 (lit< tt) (sym t)
  join_newest (rows.Ref a) b same t = apart 1 3 (lit< tt) (sym t)

  joined_one : (a b : AnyRow) → IsHere key a → IsHere key b → (v : Version) → row_newest (any_join a b) ≡ Some v → (row_newest a ≡ Some v) ⊎ (row_newest b ≡ Some v)
  joined_one a b x y v e = later_one (row_newest a) (row_newest b) v (sym (join_newest a b (same_here a b x y) x.table) ∙ e)

  -- one of these rows has the key and this newest version
  record InRows (rs : List AnyRow) (v : Version) : Type 0 where
    row : AnyRow
    there : Has rs row
    here : IsHere key row
    newest_is : row_newest row ≡ Some v

  in_more : (r : AnyRow) (rs : List AnyRow) (v : Version) → InRows rs v → InRows (r ∷ rs) v
  in_more r rs v i = record { row = i.row; there = inr i.there; here = i.here; newest_is = i.newest_is }

  -- what rows have at the key, and whose newest version it has
  record Found (rs : List AnyRow) (c : AnyRow) : Type 0 where
    here : IsHere key c
    one : (v : Version) → row_newest c ≡ Some v → InRows rs v

  found_more : (r : AnyRow) (rs : List AnyRow) (c : AnyRow) → Found rs c → Found (r ∷ rs) c
  found_more r rs c f = record { here = f.here; one = λ v e. in_more r rs v (f.one v e) }

  found_last : (r : AnyRow) (older : List AnyRow) → IsHere key r → (o : Option AnyRow) → ((d : AnyRow) → o ≡ Some d → Found older d) → (c : AnyRow) → option_join any_join o (Some r) ≡ Some c → Found (r ∷ older) c
  found_last r older here None rest c e =
      subst (Found (r ∷ older)) (some_is r c e) (record { here = here; one = λ v n. record { row = r; there = inl refl; here = here; newest_is = n } })
  found_last r older here (Some d) rest c e =
      let f = rest d refl in
      subst (Found (r ∷ older)) (some_is (any_join d r) c e) (record {
        here = joined_here d r f.here here;
        one = λ v n. elim (joined_one d r f.here here v n) [
          | inl old ↦ in_more r older v (f.one v old)
          | inr new ↦ record { row = r; there = inl refl; here = here; newest_is = new }
        ];
      })

  found_rows : (rs : List AnyRow) → ((r : AnyRow) → Has rs r → words.table r ≡ 1 → IsTrue (words.is_proper r)) → (c : AnyRow) → row_at any_join words rs 1 key ≡ Some c → Found rs c
  found_rows [] proper c e = absurd cc
  found_rows (r ∷ older) proper c e =
      let rest : (d : AnyRow) → row_at any_join words older 1 key ≡ Some d → Found older d = λ d f. found_rows older (λ x h. proper x (inr h)) d f in
      elim (is_at words 1 key r) as (λ b. is_at words 1 key r ≡ b → (if b then option_join any_join (row_at any_join words older 1 key) (Some r) else row_at any_join words older 1 key) ≡ Some c → Found (r ∷ older) c) [
        | true ↦ λ at f.
            let parts = at_parts words 1 key r at in
            found_last r older (record { table = parts.0; key_is = parts.1; is_proper = proper r (inl refl) parts.0 }) (row_at any_join words older 1 key) rest c f
        | false ↦ λ at f. found_more r older c (rest c f)
      ] refl e

-- ---- what a value covers

-- a collected marker of the object is not below w, and neither is what the value says
pub record IsPassed (draws : List Draw) (gone : List AnyRow) (name : Name) (value : Option AnyRow) (w : Version) : Type 0 where
  pub is_gone : IsGone draws gone name.bucket name.key w
  pub not_below : (v : Version) → IsSaid v (said_of value) → ¬ Below v w

-- the value is an object's row that covers w
pub record IsCovering (value : Option AnyRow) (w : Version) : Type 0 where
  pub row : ObjectRow
  pub value_is : value ≡ Some (rows.Object row)
  pub covers : CoversIn row w

module _ (draws : List Draw) (gone collected : List AnyRow) (among : (r : AnyRow) → Has collected r → Has gone r) (tombs : (r : AnyRow) → Has collected r → (u : ℕ × ℕ) × (words.marker r ≡ Some u)) (good : (r : AnyRow) → Has gone r → IsGood draws r) (name : Name) (value : Option AnyRow)
    (clean : (r : AnyRow) (u : ℕ × ℕ) → Has collected r → words.marker r ≡ Some u → words.key r ≡ row_key name → (row : AnyRow) → value ≡ Some row → row_below row u ≡ false) (w : Version) where
  -- what is said is not below a marker that was collected
  said_low : (m : ObjectRow) (u : ℕ × ℕ) → Has collected (rows.Object m) → words.marker (rows.Object m) ≡ Some u → words.key (rows.Object m) ≡ row_key name → ¬ Below (version_of u) w → (v : Version) → IsSaid v (said_of value) → ¬ Below v w
  said_low m u there is key above v says = by_value value refl says
    where
      by_value : (o : Option AnyRow) → value ≡ o → IsSaid v (said_of o) → ¬ Below v w
      by_value None e says = absurd says
      by_value (Some (rows.Object r)) e says = not_below_it v (version_of u) w (newest_not_below r u v (clean (rows.Object m) u there is key (rows.Object r) e) (said_newest r v says)) above
      by_value (Some (rows.Version r)) e says = absurd says
      by_value (Some (rows.Ref r)) e says = absurd says

  passed_by : (row : AnyRow) → Has collected row → IsHere (row_key name) row → (v : Version) → row_newest row ≡ Some v → ¬ Below v w → IsPassed draws gone name value w
  passed_by (rows.Object m) there here v newest_is above =
      let tomb = tombs (rows.Object m) there in
      let own : Some v ≡ Some (version_of tomb.0) = sym newest_is ∙ marker_newest (map_entries m.versions) tomb.0 tomb.1 in
      let high : ¬ Below (version_of tomb.0) w = subst (λ (x : Version). ¬ Below x w) (some_is v (version_of tomb.0) own) above in
      let parts = key_parts m.bucket (digest_of name.bucket) m.key name.key (block_length 32 m.bucket.0 here.is_proper) (digest_length name.bucket) here.key_is in
      record {
        is_gone = record {
          forgotten = record {
            row = m;
            was_collected = among (rows.Object m) there;
            bucket_is = parts.0;
            key_is = parts.1;
            version = version_of tomb.0;
            says = marker_says m tomb.0 tomb.1;
            not_below = high;
          };
          is_of = (good (rows.Object m) (among (rows.Object m) there)).0;
        };
        not_below = said_low m tomb.0 there tomb.1 here.key_is high;
      }
  passed_by (rows.Version m) there here v newest_is above = apart 1 2 (lit< tt) (sym here.table)
  passed_by (rows.Ref m) there here v newest_is above = apart 1 3 (lit< tt) (sym here.table)

  proper_gone : (r : AnyRow) → Has collected r → words.table r ≡ 1 → IsTrue (words.is_proper r)
  proper_gone r there t = (good r (among r there)).1 t

  -- the rows that were collected cover w
  by_gone : (c : AnyRow) → row_at any_join words collected 1 (row_key name) ≡ Some c → (v : Version) → row_newest c ≡ Some v → ¬ Below v w → IsPassed draws gone name value w
  by_gone c at v newest_is above =
      let one = (found_rows (row_key name) collected proper_gone c at).one v newest_is in
      passed_by one.row one.there one.here v one.newest_is above

  covering : (row : AnyRow) → value ≡ Some row → CoversRow row w → IsCovering value w
  covering (rows.Object r) e c = record { row = r; value_is = e; covers = c }
  covering (rows.Version r) e c = absurd c
  covering (rows.Ref r) e c = absurd c

  top_covering : (row : AnyRow) → value ≡ Some row → (v : Version) → row_newest row ≡ Some v → ¬ Below v w → IsCovering value w
  top_covering (rows.Object r) e v n above = record { row = r; value_is = e; covers = newest_covers r v w n above }
  top_covering (rows.Version r) e v n above = absurd cc
  top_covering (rows.Ref r) e v n above = absurd cc

  module _ (block : ℕ) (wished : Wish) (kept : List AnyRow) (proper : AllProper words kept) (there : Contains kept (complete name w block wished)) (known : (row : AnyRow) → value ≡ Some row → IsHere (row_key name) row) where
    abbrev OverKept : Option AnyRow → Type 0
    OverKept o = IsOver any_join words o (row_at any_join words kept 1 (row_key name))

    beside : (c : AnyRow) → row_at any_join words collected 1 (row_key name) ≡ Some c → (o : Option AnyRow) → value ≡ o → OverKept (option_join any_join (Some c) o) → IsCovering value w ⊎ IsPassed draws gone name value w
    beside c at None e over =
        let f = found_rows (row_key name) collected proper_gone c at in
        let all = covers name w block wished kept (Some c) proper there over (λ row is. subst (IsHere (row_key name)) (some_is c row is) f.here) in
        let top = covers_top all.0 w all.2 in
        inr (by_gone c at top.version (ap row_newest (some_is c all.0 all.1) ∙ top.newest_is) top.not_below)
    beside c at (Some row) e over =
        let f = found_rows (row_key name) collected proper_gone c at in
        let own = known row e in
        let both : AnyRow = any_join c row in
        let all = covers name w block wished kept (Some both) proper there over (λ x is. subst (IsHere (row_key name)) (some_is both x is) (joined_here (row_key name) c row f.here own)) in
        let top = covers_top all.0 w all.2 in
        elim (joined_one (row_key name) c row f.here own top.version (ap row_newest (some_is both all.0 all.1) ∙ top.newest_is)) [
          | inl left ↦ inr (by_gone c at top.version left top.not_below)
          | inr right ↦ inl (top_covering row e top.version right top.not_below)
        ]

    by_rows : (g : Option AnyRow) → row_at any_join words collected 1 (row_key name) ≡ g → OverKept (option_join any_join g value) → IsCovering value w ⊎ IsPassed draws gone name value w
    by_rows None at over = (let c = covers name w block wished kept value proper there over known in inl (covering c.0 c.1 c.2))
    by_rows (Some c) at over = beside c at value refl over

    -- a value that is, with what was collected, at least what was kept covers what was kept, or a collected marker does, and what the value says is not below that
    pub value_covers : OverKept (option_join any_join (row_at any_join words collected 1 (row_key name)) value) → IsCovering value w ⊎ IsPassed draws gone name value w
    value_covers over = by_rows (row_at any_join words collected 1 (row_key name)) refl over
