-- What looks like a map, and is where lawful acts lead, holds it.
use Rattle.std.proofs.Common.{◌≡◌, ◌≤◌, ◌<◌, ◌^◌, ℕ, suc, max, true, false, Option, Some, None, List, [], ◌∷◌, ◌++◌, length, refl, sym, ap, ◌∙◌, subst, inl, arith}
use Rattle.std.specs.Prelude.{⊤, IsTrue, if◌then◌else◌}
use Rattle.std.specs.List.{AllByRecursion, Contains}
use Rattle.std.specs.Ordering.{is_lt}
use Rattle.std.specs.declared.cmp.Ordering.{Ordering}
use Rattle.std.specs.declared.cmp.Ordering.TheVariants.{Less, Equal, Greater}
use Rattle.std.proofs.lemmas.Bool.{lt-ltb}
use Rattle.std.proofs.lemmas.List.Elements.{recursion_from_All}
use Rattle.std.proofs.lemmas.Option.{same_Some}
use Rattle.blake2_hash.specs.Hash.{digest_of}
use Rattle.blake2_hash.specs.DigestLaws.{digest_length, digest_first}
use Rattle.blake2_hash.specs.declared.digest.Hash32.{Hash32}
use Rattle.layout_roles.specs.declared.layout.Layout.{Layout}
use Rattle.crdt_core.proofs.Each.{all_weaker}
use Rattle.crdt_core.specs.LexLaws.{turned}
use Rattle.crdt_rows.specs.declared.version.Version.{Version}
use Rattle.crdt_rows.specs.declared.body.Body.{Body}
use Rattle.crdt_rows.specs.declared.state.State.{State as VersionState}
use Rattle.crdt_rows.specs.declared.state.State.TheVariants.{Aborted, Complete}
use Rattle.crdt_rows.specs.declared.object_row.ObjectRow.{ObjectRow}
use Rattle.crdt_rows.specs.declared.any_row.AnyRow.{AnyRow}
use Rattle.crdt_rows.specs.declared.any_row.AnyRow.TheVariants as rows
use Rattle.crdt_rows.specs.AnyRow.{any_join}
use Rattle.crdt_rows.specs.Facts.{HasState}
use Rattle.crdt_rows.specs.FieldLaws.{version_total, version_identical}
use Rattle.crdt_rows.specs.Version.{version_cmp}
use Rattle.row_codec.specs.Spelling.{eight}
use Rattle.object_schema.specs.Laws.{schema_laws, key_parts, eight_same}
use Rattle.object_schema.specs.Schema.{words}
use Rattle.table_schema.specs.Words.{partition_at}
use Rattle.table_model.specs.Rows.{row_at}
use Rattle.quorum_model.specs.Quorum.{is_among}
use Rattle.cluster_machine.specs.Layouts.{layouts}
use Rattle.machine_origins.proofs.Good.{IsGood, IsFound, any_rules, row_found}
use Rattle.drained_laws.specs.Drained.{AreEqual, accepted_in}
use Rattle.drained_laws.specs.Waiting.{Has as IsIn}
use Rattle.drained_laws.proofs.Drained.{has_contained, contains_had}
use Rattle.drained_laws.proofs.Posts.{three_at}
use Rattle.drained_laws.proofs.ReadBegins.{all_read}
use Rattle.drained_laws.proofs.Views.{among_here}
use Rattle.drained_laws.proofs.Weights.{none_waits}
use Rattle.flow_model.specs.declared.flow.Name.{Name}
use Rattle.flow_model.specs.declared.flow.Wish.TheVariants as wish
use Rattle.flow_model.specs.Rows.{row_key, object_row, complete}
use Rattle.store_model.specs.Fresh.{NoClash}
use Rattle.store_model.specs.Run.{State, start, Draw}
use Rattle.store_model.specs.Acts.{Act, after_acts, AreLawfulActs}
use Rattle.store_laws.proofs.Hashing.{ActsIn}
use Rattle.store_laws.proofs.Placing.{asks_is_step}
use Rattle.store_laws.proofs.Rows.{IsDrawnIn}
use Rattle.store_laws.proofs.Values.{one_name}
use Rattle.store_laws.proofs.Deeds.{Deed}
use Rattle.store_anchors.proofs.Cited.{Cited}
use Rattle.serve_model.specs.Clusters.{Cluster}
use Rattle.serve_model.specs.Plain.{Has, never, deleted, object, Entry, Plain, same_name, has_among, has_at, row_of, last_ts, version_in, IsMap}
use Rattle.get_laws.specs.OnTheWay.{KnowsRequests}
use Rattle.plain_laws.specs.Holds.{nodes_at, IsFresh, GaveUp, given_up_at, row_with, IsGivenUp, Holds}
use Rattle.plain_laws.proofs.Entries.{names_equal}
use Rattle.plain_laws.proofs.GivenUp.{IsOldRow, old_row}
use Rattle.plain_laws.proofs.Past.{Says, own_facts, one_state, says_own}
use Rattle.held_laws.specs.Looks.{row_there, LooksLike, AreInTime}
use Rattle.held_laws.proofs.Beside.{IsOwn, map_says, is_beside}
use Rattle.held_laws.proofs.Gathering.{of_buckets, IsFoundIn, all_found, buckets_have, given_has, given_there}
use Rattle.held_laws.proofs.Numbers.{IsUpTo}
use Rattle.held_laws.proofs.Running.{CitedRows, stocked, marked, rows_low, rows_say, rows_drawn, rows_proper, drawn_low, drawn_keyed, drawn_bucket, drawn_once, lengths}

-- ---- what a map has

-- a name under which something is has an entry
entry_of : (Q : List ℕ → Type 0) (es : List Entry) → AllByRecursion (λ (e : Entry). Q e.name.bucket) es → (name : Name) (v : Version) → version_in (has_among es name) ≡ Some v → Q name.bucket
entry_of Q [] all name v e = absurd (cc)
entry_of Q (x ∷ xs) all name v e =
    elim (same_name x.name name) as (λ b. same_name x.name name ≡ b → version_in (if b then x.has else has_among xs name) ≡ Some v → Q name.bucket) [
      | true ↦ λ same f. subst (λ (n : Name). Q n.bucket) (names_equal x.name name same) all.0
      | false ↦ λ apart f. entry_of Q xs all.1 name v f
    ] refl e

-- the map's row says of its version that it is complete
pub record SaysWhole (name : Name) (has : Has) (v : Version) : Type 0 where
  pub body : Body
  pub says : Says (row_of name has) v (Complete body)

whole_by : (name : Name) (has : Has) (row : AnyRow) → row_of name has ≡ Some row → (v : Version) → version_in has ≡ Some v → SaysWhole name has v
whole_by name has row e v f =
    let o : IsOldRow name has row = old_row name has row e in
    let own : o.version ≡ v = same_Some o.version v (sym o.there ∙ f) in
    record {
      body = o.whole.body;
      says = subst (λ (x : Option AnyRow). Says x v (Complete o.whole.body)) (sym (e ∙ ap Some o.whole.is))
          (subst (λ (u : Version). Says (Some (object_row name o.version (Complete o.whole.body) o.whole.fits)) u (Complete o.whole.body)) own (says_own name o.version (Complete o.whole.body) o.whole.fits));
    }

map_whole : (name : Name) (has : Has) (v : Version) → version_in has ≡ Some v → SaysWhole name has v
map_whole name never v e = absurd (cc)
map_whole name (deleted w) v e = whole_by name (deleted w) (complete name w 0 wish.Marker) refl v e
map_whole name (object w block c) v e = whole_by name (object w block c) (complete name w block (wish.Content c)) refl v e

-- a version that is aborted in a row in which another one is complete is above that one
aborted_above : (r : ObjectRow) (w u : Version) (body : Body) → HasState r w (Complete body) → HasState r u Aborted → version_cmp w u ≡ Less
aborted_above r w u body h k = by (version_cmp w u) refl
  where
    current : is_lt (version_cmp u w) ≡ false
    current = ((own_facts r u Aborted).0 k).1 w body (inl h)

    by : (o : Ordering) → version_cmp w u ≡ o → version_cmp w u ≡ Less
    by Less e = e
    by Equal e = (let no : Complete body ≡ Aborted = one_state r u (Complete body) Aborted (subst (λ (x : Version). HasState r x (Complete body)) (version_identical w u e) h) k in absurd (cc))
    by Greater e = (let no : true ≡ false = ap is_lt (sym (turned version_total w u Greater e)) ∙ current in absurd (cc))

above_in : (o : Option AnyRow) (w u : Version) (body : Body) → Says o w (Complete body) → Says o u Aborted → version_cmp w u ≡ Less
above_in None w u body h k = absurd h
above_in (Some (rows.Object r)) w u body h k = aborted_above r w u body h k
above_in (Some (rows.Version r)) w u body h k = absurd h
above_in (Some (rows.Ref r)) w u body h k = absurd h

not_both : (o : Option AnyRow) (v : Version) (body : Body) → Says o v (Complete body) → Says o v Aborted → ⊥
not_both None v body h k = h
not_both (Some (rows.Object r)) v body h k = let no : Complete body ≡ Aborted = one_state r v (Complete body) Aborted h k in cc
not_both (Some (rows.Version r)) v body h k = h
not_both (Some (rows.Ref r)) v body h k = h

-- ---- the law

-- a write drew this version of this object
pub record WasDrawn (draws : List Draw) (name : Name) (v : Version) : Type 0 where
  pub draw : Draw
  pub drawn : Contains draws draw
  pub name_is : draw.name ≡ name
  pub version_is : draw.version ≡ v

module _ {H : Deed → Type 0} (cited : Cited H) (cited_rows : CitedRows) (acts : List Act) (lawful : AreLawfulActs start acts) (fit : ActsIn H start acts) (knows : KnowsRequests (after_acts start acts)) where
  abbrev s : State
  s = after_acts start acts

  module _ (ticked : ℕ) (members : List ℕ) (P : Plain) (looks : LooksLike (record { run = s; ticked = ticked; members = members }) P) (in_time : AreInTime s.world P) (clear : NoClash P.buckets) where
    abbrev l : Layout
    l = looks.layout

    abbrev accepted : ℕ → List AnyRow
    accepted n = (s.world.nodes n).accepted

    abbrev there : ℕ → Name → Option AnyRow
    there n name = row_there s.world n name

    abbrev nodes_of : List ℕ → List ℕ
    nodes_of b = nodes_at l (digest_of b).0

    count : length s.asked ≡ P.asked
    count = lengths cited cited_rows acts lawful fit ∙ looks.requests

    proper : (n : ℕ) → AllByRecursion (λ r. IsTrue (words.is_proper r)) (accepted n)
    proper n = recursion_from_All (λ r. IsTrue (words.is_proper r)) (accepted n) (rows_proper cited cited_rows acts lawful fit n)

    equal : AreEqual any_join words layouts l (accepted_in any_join words layouts l s.world)
    equal = record { proper = rows_proper cited cited_rows acts lawful fit; same = looks.replicas.same; nobody = looks.replicas.nobody }

    -- the rows of a name's nodes are one
    one_row : (name : Name) (n m : ℕ) → IsTrue (is_among n (nodes_of name.bucket)) → IsTrue (is_among m (nodes_of name.bucket)) → there n name ≡ there m name
    one_row name n m here other = (all_read schema_laws layouts l 1 (digest_of name.bucket) (row_key name) (asks_is_step 0 name) accepted equal m other).has n here

    -- a row that a node has is of its place
    found : (n table : ℕ) (key : List ℕ) → IsFound words (λ r. ⊤) table key (row_at any_join words (accepted n) table key)
    found n table key = row_found (any_rules schema_laws) (accepted n) table key (all_weaker (λ r. IsTrue (words.is_proper r)) (IsGood words (λ r. ⊤)) (λ r is. record { proper = is; has = tt }) (accepted n) (proper n))

    own_by : (n : ℕ) (name : Name) (o : Option AnyRow) → there n name ≡ o → IsFound words (λ r. ⊤) 1 (row_key name) o → IsOwn name o
    own_by n name None e f = tt
    own_by n name (Some (rows.Object r)) e f =
        let parts = key_parts r.bucket (digest_of name.bucket) r.key name.key (schema_laws.position_is_32_bytes (rows.Object r) f.good.proper) (digest_length name.bucket) f.key_is in
        ((λ i. (parts.0 i, parts.1 i)), rows_say cited cited_rows acts lawful fit n 1 (row_key name) (rows.Object r) e)
    own_by n name (Some (rows.Version r)) e f = let t = f.table_is in absurd (omega (arith, t))
    own_by n name (Some (rows.Ref r)) e f = let t = f.table_is in absurd (omega (arith, t))

    own : (n : ℕ) (name : Name) → IsOwn name (there n name)
    own n name = own_by n name (there n name) refl (found n 1 (row_key name))

    -- ---- draws

    -- the name of a draw with the digests of this one is this one
    name_known : (d : Draw) → Contains s.draws d → (name : Name) → Contains P.buckets name.bucket → digest_of d.name.bucket ≡ digest_of name.bucket → d.name.key ≡ name.key → d.name ≡ name
    name_known d c name known digest key =
        let made : Contains P.buckets d.name.bucket = subst (λ (bs : List (List ℕ)). Contains bs d.name.bucket) looks.buckets (drawn_bucket cited cited_rows acts lawful fit d c) in
        one_name d.name name (clear d.name.bucket name.bucket made known (ap (λ (h : Hash32). h.0) digest)) key

    drawn_by : (n : ℕ) (name : Name) (v : Version) (state : VersionState) → Contains P.buckets name.bucket → (o : Option AnyRow) → there n name ≡ o → IsOwn name o → Says o v state → WasDrawn s.draws name v
    drawn_by n name v state known None e is h = absurd h
    drawn_by n name v state known (Some (rows.Object r)) e is h =
        let d : IsDrawnIn s.draws r v state = rows_drawn cited cited_rows acts lawful fit n 1 (row_key name) (rows.Object r) e v state h in
        record {
          draw = d.draw;
          drawn = d.drawn;
          name_is = name_known d.draw d.drawn name known (d.bucket ∙ ap (λ (k : Hash32 × List ℕ). k.0) is.0) (d.key ∙ ap (λ (k : Hash32 × List ℕ). k.1) is.0);
          version_is = d.version;
        }
    drawn_by n name v state known (Some (rows.Version r)) e is h = absurd h
    drawn_by n name v state known (Some (rows.Ref r)) e is h = absurd h

    was_drawn : (n : ℕ) (name : Name) (v : Version) (state : VersionState) → Contains P.buckets name.bucket → Says (there n name) v state → WasDrawn s.draws name v
    was_drawn n name v state known h = drawn_by n name v state known (there n name) refl (own n name) h

    low_number : (name : Name) (v : Version) → WasDrawn s.draws name v → v.id ≤ P.asked
    low_number name v d =
        let low = drawn_low cited cited_rows acts lawful fit d.draw d.drawn in
        let id : d.draw.version.id ≡ v.id = ap (λ (u : Version). u.id) d.version_is in
        let same = count in
        omega (arith, low, id, same)

    once : (a b : Name) (u v : Version) → WasDrawn s.draws a u → WasDrawn s.draws b v → u.id ≡ v.id → (a ≡ b) × (u ≡ v)
    once a b u v d e same =
        let ids : d.draw.version.id ≡ e.draw.version.id = ap (λ (x : Version). x.id) d.version_is ∙ (same ∙ sym (ap (λ (x : Version). x.id) e.version_is)) in
        let one = drawn_once cited cited_rows acts lawful fit d.draw e.draw d.drawn e.drawn ids in
        (sym d.name_is ∙ (one.0 ∙ e.name_is), sym d.version_is ∙ (one.1 ∙ e.version_is))

    -- ---- what the map has

    known_name : (name : Name) (v : Version) → version_in (has_at P name) ≡ Some v → Contains P.buckets name.bucket
    known_name name v e = entry_of (Contains P.buckets) P.entries looks.entries.made name v e

    -- each node of its name has it complete
    map_there : (name : Name) (v : Version) (e : version_in (has_at P name) ≡ Some v) (n : ℕ) → IsTrue (is_among n (nodes_of name.bucket)) → Says (there n name) v (Complete (map_whole name (has_at P name) v e).body)
    map_there name v e n here = map_says name (has_at P name) (there n name) (looks.rows name n (known_name name v e) here) (own n name) v _ (map_whole name (has_at P name) v e).says

    -- a node of a name
    some_node : (b : List ℕ) → (n : ℕ) × IsTrue (is_among n (nodes_of b))
    some_node b =
        let three = three_at layouts l looks.is_layout (partition_at (digest_of b).0) (digest_first b) in
        (three.one, subst (λ (set : List ℕ). is_among three.one set ≡ true) (sym three.are) (among_here three.one (three.two ∷ three.three ∷ [])))

    map_drawn : (name : Name) (v : Version) → version_in (has_at P name) ≡ Some v → WasDrawn s.draws name v
    map_drawn name v e = let n = some_node name.bucket in was_drawn n.0 name v _ (known_name name v e) (map_there name v e n.0 n.1)

    map_is : IsMap P
    map_is = record {
      numbered = record { asked = λ name v e. low_number name v (map_drawn name v e); apart = λ a b u v e f same. (once a b u v (map_drawn a u e) (map_drawn b v f) same).0 };
      ordered = looks.entries.ordered;
      keyed = looks.entries.keyed;
    }

    -- ---- what was given up

    abbrev gone : List GaveUp
    gone = of_buckets accepted nodes_of P.buckets

    module _ (g : GaveUp) (is : IsFoundIn accepted nodes_of P.buckets g) where
      known_here : Contains P.buckets g.name.bucket
      known_here = contains_had P.buckets g.name.bucket is.0

      abbrev node : ℕ
      node = is.1.node

      drawn_here : WasDrawn s.draws g.name g.version
      drawn_here = was_drawn node g.name g.version Aborted known_here is.1.says

      above_map : (w : Version) → version_in (has_at P g.name) ≡ Some w → version_cmp w g.version ≡ Less
      above_map w e = above_in (there node g.name) w g.version _ (map_there g.name w e node is.1.is_node) is.1.says

      no_other : (other : Name) (w : Version) → version_in (has_at P other) ≡ Some w → w.id ≡ g.version.id → ⊥
      no_other other w e same =
          let one = once other g.name w g.version (map_drawn other w e) drawn_here same in
          let at : version_in (has_at P g.name) ≡ Some w = subst (λ (n : Name). version_in (has_at P n) ≡ Some w) one.0 e in
          not_both (there node g.name) g.version _ (subst (λ (u : Version). Says (there node g.name) u (Complete (map_whole g.name (has_at P g.name) w at).body)) one.1 (map_there g.name w at node is.1.is_node)) is.1.says

      in_time_by : (o : Option AnyRow) → there node g.name ≡ o → Says o g.version Aborted → g.version.ts ≤ max P.clock (suc (last_ts (has_at P g.name)))
      in_time_by None e h = absurd h
      in_time_by (Some (rows.Object r)) e h = in_time g.name node r g.version known_here e h
      in_time_by (Some (rows.Version r)) e h = absurd h
      in_time_by (Some (rows.Ref r)) e h = absurd h

      is_given_up : IsGivenUp P g
      is_given_up = record {
        above = above_map;
        late = in_time_by (there node g.name) refl is.1.says;
        numbered = low_number g.name g.version drawn_here;
        apart = no_other;
        keyed = subst (λ (n : Name). 1 ≤ length n.key) drawn_here.name_is (drawn_keyed cited cited_rows acts lawful fit drawn_here.draw drawn_here.drawn);
      }

    all_gone : AllByRecursion (IsFoundIn accepted nodes_of P.buckets) gone
    all_gone = all_found accepted nodes_of P.buckets

    -- the row of a name is the map's beside what was given up
    rows_so : (name : Name) (n : ℕ) → Contains P.buckets name.bucket → IsTrue (is_among n (nodes_of name.bucket)) → there n name ≡ row_with name (given_up_at gone name) (has_at P name)
    rows_so name n known here = is_beside name (has_at P name) (given_up_at gone name) above (there n name) (looks.rows name n known here) (own n name) to from
      where
        given : (v : Version) → IsIn (given_up_at gone name) v → IsFoundIn accepted nodes_of P.buckets (record { name = name; version = v })
        given v i = given_has (IsFoundIn accepted nodes_of P.buckets) gone all_gone name v i

        above : (u : Version) → IsIn (given_up_at gone name) u → (w : Version) → version_in (has_at P name) ≡ Some w → version_cmp w u ≡ Less
        above u i w e = above_map (record { name = name; version = u }) (given u i) w e

        to : (v : Version) → IsIn (given_up_at gone name) v → Says (there n name) v Aborted
        to v i = (let g = given v i in subst (λ (o : Option AnyRow). Says o v Aborted) (one_row name g.1.node n g.1.is_node here) g.1.says)

        from : (v : Version) → Says (there n name) v Aborted → IsIn (given_up_at gone name) v
        from v says = given_there gone name v (buckets_have accepted nodes_of proper n name v says P.buckets (has_contained P.buckets name.bucket known) here)

    -- ---- orders to come

    no_number : (id : ℕ) → P.asked < id → id < 2 ^ 64 → (n : ℕ) → eight n ≡ eight id → IsUpTo (length s.asked) n → ⊥
    no_number id late small n e low =
        let few = low.low in
        let same = count in
        let less : low.number < 2 ^ 64 = omega (arith, few, same, late, small) in
        let is : low.number ≡ id = eight_same low.number id (lt-ltb low.number (2 ^ 64) less) (lt-ltb id (2 ^ 64) small) (sym low.spelled ∙ e) in
        omega (arith, few, same, late, is)

    no_version : (id : ℕ) → P.asked < id → id < 2 ^ 64 → (n : ℕ) (o : Option AnyRow) → row_at any_join words (accepted n) 2 (eight id) ≡ o → IsFound words (λ r. ⊤) 2 (eight id) o → o ≡ None
    no_version id late small n None e f = refl
    no_version id late small n (Some (rows.Object r)) e f = let t = f.table_is in absurd (omega (arith, t))
    no_version id late small n (Some (rows.Version r)) e f = absurd (no_number id late small r.id f.key_is (rows_low cited cited_rows acts lawful fit n 2 (eight id) (rows.Version r) e))
    no_version id late small n (Some (rows.Ref r)) e f = let t = f.table_is in absurd (omega (arith, t))

    no_reference : (id : ℕ) (hash : List ℕ) → P.asked < id → id < 2 ^ 64 → length hash ≡ 32 → (n : ℕ) (o : Option AnyRow) → row_at any_join words (accepted n) 3 (hash ++ eight id) ≡ o → IsFound words (λ r. ⊤) 3 (hash ++ eight id) o → o ≡ None
    no_reference id hash late small size n None e f = refl
    no_reference id hash late small size n (Some (rows.Object r)) e f = let t = f.table_is in absurd (omega (arith, t))
    no_reference id hash late small size n (Some (rows.Version r)) e f = let t = f.table_is in absurd (omega (arith, t))
    no_reference id hash late small size n (Some (rows.Ref r)) e f =
        let parts = key_parts r.hash (record { 0 = hash }) (eight r.id) (eight id) (schema_laws.position_is_32_bytes (rows.Ref r) f.good.proper) size f.key_is in
        absurd (no_number id late small r.id parts.1 (rows_low cited cited_rows acts lawful fit n 3 (hash ++ eight id) (rows.Ref r) e))

    fresh : IsFresh s.world P.asked
    fresh = record {
      versions = λ n id late small. no_version id late small n _ refl (found n 2 (eight id));
      references = λ n id hash late small size. no_reference id hash late small size n _ refl (found n 3 (hash ++ eight id));
    }

    -- ---- all of it

    pub looks_held : Holds (record { run = s; ticked = ticked; members = members }) P
    looks_held = record {
      layout = l;
      is_layout = looks.is_layout;
      members_are = looks.members_are;
      rest = record { views = looks.still.views; marked = marked cited cited_rows acts lawful fit; delivered = none_waits s.world looks.still.delivered; calls = looks.still.calls; items = looks.still.items };
      skews = looks.still.skews;
      equal = equal;
      stocked = stocked cited cited_rows acts lawful fit;
      given_up = gone;
      are_given_up = all_weaker (IsFoundIn accepted nodes_of P.buckets) (IsGivenUp P) is_given_up gone all_gone;
      rows = rows_so;
      blocks = looks.blocks;
      buckets = looks.buckets;
      block = looks.block;
      clock = looks.clock;
      ticked = looks.ticked;
      requests = looks.requests;
      asked = count;
      map = map_is;
      fresh = fresh;
      knows = knows;
    }

-- the same of a cluster in this state
pub holds_so : {H : Deed → Type 0} → Cited H → CitedRows → (acts : List Act) → AreLawfulActs start acts → ActsIn H start acts → KnowsRequests (after_acts start acts) → (c : Cluster) (P : Plain) → c.run ≡ after_acts start acts → LooksLike c P → AreInTime c.run.world P → NoClash P.buckets → Holds c P
holds_so cited cited_rows acts lawful fit knows c P is looks in_time clear =
    let same : c ≡ record { run = after_acts start acts; ticked = c.ticked; members = c.members } = (λ i. record { run = is i; ticked = c.ticked; members = c.members }) in
    subst (λ (x : Cluster). Holds x P) (sym same)
    (looks_held cited cited_rows acts lawful fit knows c.ticked c.members P (subst (λ (x : Cluster). LooksLike x P) same looks) (subst (λ (t : State). AreInTime t.world P) is in_time) clear)
