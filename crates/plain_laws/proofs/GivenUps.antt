-- The row of a name under which versions were given up: beside these it says what the map has, and a write that comes later takes the place of all.
use Rattle.std.proofs.Common.{◌≡◌, ◌⊎◌, ◌<◌, ◌≤◌, ℕ, suc, max, true, false, cond, Option, Some, None, option_map, List, [], ◌∷◌, filter, refl, sym, ap, ap₂, ◌∙◌, subst, inl, inr, arith}
use Rattle.std.specs.Prelude.{not, if◌then◌else◌}
use Rattle.std.specs.List.{AllByRecursion}
use Rattle.std.specs.Ordering.{is_gt, is_lt}
use Rattle.std.specs.declared.cmp.Ordering.TheVariants.{Less}
use Rattle.std.specs.Cmp.{tied_itself}
use Rattle.std.proofs.lemmas.Option.{same_Some}
use Rattle.crdt_core.specs.declared.max.Max.{Max}
use Rattle.crdt_core.proofs.Each.{all_weaker}
use Rattle.crdt_core.specs.Entries.{value_at}
use Rattle.crdt_core.specs.Map.{map_entries}
use Rattle.crdt_core.specs.Order.{option_join}
use Rattle.crdt_rows.specs.declared.version.Version.{Version}
use Rattle.crdt_rows.specs.declared.body.Body.{Body}
use Rattle.crdt_rows.specs.declared.body.Body.TheVariants.{Blocks}
use Rattle.crdt_rows.specs.declared.state.State.{State}
use Rattle.crdt_rows.specs.declared.state.State.TheVariants.{Aborted, Complete}
use Rattle.crdt_rows.specs.declared.object_row.ObjectRow.{ObjectRow}
use Rattle.crdt_rows.specs.declared.any_row.AnyRow.{AnyRow}
use Rattle.crdt_rows.specs.declared.any_row.AnyRow.TheVariants as rows
use Rattle.crdt_rows.specs.AnyRow.{any_join}
use Rattle.crdt_rows.specs.Facts.{HasState, IsSaid, IsCurrent, IsObjectJoin, IsNewest}
use Rattle.crdt_rows.specs.FieldLaws.{version_total}
use Rattle.crdt_rows.specs.ObjectRow.{object_key, object_join, newest}
use Rattle.crdt_rows.specs.State.{state_cmp, is_aborted}
use Rattle.crdt_rows.specs.Version.{version_cmp}
use Rattle.crdt_rows.specs.Versions.{greatest_ts as greatest_of}
use Rattle.crdt_rows.proofs.ObjectFacts.{facts_joined, key_joined, newest_is}
use Rattle.object_origins.proofs.Given.{entries_found}
use Rattle.flow_model.specs.declared.flow.Name.{Name}
use Rattle.flow_model.specs.declared.flow.Content.{Content}
use Rattle.flow_model.specs.Blocks.{piece_hash, is_long}
use Rattle.flow_model.specs.Rows.{meta_of, object_row, aborted, inline, in_blocks}
use Rattle.flow_model.specs.Says.{of_state, of_version, said_of, greatest_ts}
use Rattle.drained_laws.specs.Waiting.{Has as IsIn}
use Rattle.serve_model.specs.Plain.{Has, never, deleted, object, Plain, same_name, has_at, row_of, last_ts, version_in}
use Rattle.plain_laws.specs.Holds.{GaveUp, given_up_at, row_with, IsGivenUp}
use Rattle.plain_laws.proofs.Entries.{names_equal}
use Rattle.plain_laws.proofs.GivenUp.{IsOldRow, old_row}
use Rattle.plain_laws.proofs.Ordered.{turned_name}
use Rattle.plain_laws.proofs.Past.{Says, own_key, same_state, with_one, says_own, alone, entry_there, ArePast}
use Rattle.plain_laws.proofs.Saids.{said_complete, ts_of_row}
use Rattle.plain_laws.proofs.Smalls.{before_by, below_by}

-- what was there under a name, and what was given up
abbrev pub WasThere : List Version → Has → Version → Type 0
WasThere vs has v = (version_in has ≡ Some v) ⊎ IsIn vs v

ts_in_map : (has : Has) (u : Version) → version_in has ≡ Some u → u.ts ≡ last_ts has
ts_in_map never u e = absurd (cc)
ts_in_map (deleted version) u e = ap (λ (v : Version). v.ts) (sym (same_Some version u e))
ts_in_map (object version block c) u e = ap (λ (v : Version). v.ts) (sym (same_Some version u e))

-- ---- the greatest timestamp of entries

-- what wasn't given up is no later than this
abbrev AreUpTo : ℕ → List (Version × Max State) → Type 0
AreUpTo t es = AllByRecursion (λ (e : Version × Max State). is_aborted e.1.0 ≡ false → e.0.ts ≤ t) es

up_to : (es : List (Version × Max State)) (t : ℕ) → AreUpTo t es → greatest_of es ≤ t
up_to [] t all = omega arith
up_to (e ∷ es) t all =
    elim (is_aborted e.1.0) as (λ b. is_aborted e.1.0 ≡ b → cond b (greatest_of es) (max e.0.ts (greatest_of es)) ≤ t) [
      | true ↦ λ is. up_to es t all.1
      | false ↦ λ is. (let first = all.0 is in let rest = up_to es t all.1 in omega (arith, first, rest))
    ] refl

at_most : (es : List (Version × Max State)) (e : Version × Max State) → IsIn es e → is_aborted e.1.0 ≡ false → e.0.ts ≤ greatest_of es
at_most [] e h is = absurd h
at_most (x ∷ xs) e (inl same) is =
    elim (is_aborted x.1.0) as (λ b. is_aborted x.1.0 ≡ b → e.0.ts ≤ cond b (greatest_of xs) (max x.0.ts (greatest_of xs))) [
      | true ↦ λ t. (let no : true ≡ false = sym t ∙ (ap (λ (y : Version × Max State). is_aborted y.1.0) same ∙ is) in absurd (cc))
      | false ↦ λ t. (let ts : x.0.ts ≡ e.0.ts = ap (λ (y : Version × Max State). y.0.ts) same in omega (arith, ts))
    ] refl
at_most (x ∷ xs) e (inr h) is =
    let rest = at_most xs e h is in
    elim (is_aborted x.1.0) as (λ b. e.0.ts ≤ cond b (greatest_of xs) (max x.0.ts (greatest_of xs))) [ true ↦ rest | false ↦ omega (arith, rest) ]

-- each entry of a row says what the row says
entries_say : (r : ObjectRow) → AllByRecursion (λ (e : Version × Max State). HasState r e.0 e.1.0) (map_entries r.versions)
entries_say r = along (map_entries r.versions) (entries_found version_total (map_entries r.versions) r.versions.ascending)
  where
    along : (es : List (Version × Max State)) → AllByRecursion (λ (e : Version × Max State). value_at version_cmp e.0 (map_entries r.versions) ≡ Some e.1) es → AllByRecursion (λ (e : Version × Max State). HasState r e.0 e.1.0) es
    along [] a = tt
    along (e ∷ es) a = (ap (option_map (λ (m : Max State). m.0)) a.0, along es a.1)

-- ---- what the map's row says

module _ (name : Name) (has : Has) where
  -- it says of one version alone, that it is complete
  pub record SaysOne (u : Version) (s : State) : Type 0 where
    pub body : Body
    pub is : s ≡ Complete body
    pub there : version_in has ≡ Some u
    pub alone : (w : Version) (t : State) → Says (row_of name has) w t → (w ≡ u) × (t ≡ s)

  one_by : (value : Option AnyRow) → row_of name has ≡ value → ((r : AnyRow) → value ≡ Some r → IsOldRow name has r) → (u : Version) (s : State) → Says value u s → SaysOne u s
  one_by None e old u s h = absurd h
  one_by (Some r) e old u s h =
      let o = old r refl in
      let says : (w : Version) (t : State) → Says (Some r) w t → (w ≡ o.version) × (t ≡ Complete o.whole.body) =
      λ w t k. alone name o.version (Complete o.whole.body) o.whole.fits w t (subst (λ (x : AnyRow). Says (Some x) w t) o.whole.is k) in
      let here = says u s h in
      record {
        body = o.whole.body;
        is = here.1;
        there = o.there ∙ ap Some (sym here.0);
        alone = λ w t k. (let other = says w t (subst (λ (v : Option AnyRow). Says v w t) e k) in (other.0 ∙ sym here.0, other.1 ∙ sym here.1));
      }

  pub says_one : (u : Version) (s : State) → Says (row_of name has) u s → SaysOne u s
  says_one u s h = one_by (row_of name has) refl (old_row name has) u s h

-- ---- the row beside versions that were given up

-- it says what the map has, and of other versions that they were given up
pub record IsBeside (name : Name) (has : Has) (vs : List Version) (r : ObjectRow) : Type 0 where
  pub key : object_key r ≡ own_key name
  pub said : (u : Version) (s : State) → HasState r u s → ((s ≡ Aborted) × IsIn vs u) ⊎ Says (row_of name has) u s
  pub kept : (u : Version) (s : State) → Says (row_of name has) u s → HasState r u s

-- there is none, where the map's isn't, or it is such a row
abbrev pub IsWith : Name → Has → List Version → Option AnyRow → Type 0
IsWith name has vs None = row_of name has ≡ None
IsWith name has vs (Some (rows.Object r)) = IsBeside name has vs r
IsWith name has vs (Some other) = ⊥

module _ (name : Name) (has : Has) where
  abbrev value : Option AnyRow
  value = row_of name has

  -- an upload that was given up, as a row
  abbrev left : Version → ObjectRow
  left v = with_one name v Aborted refl

  from_map : (o : Option AnyRow) → value ≡ o → ((r : AnyRow) → o ≡ Some r → IsOldRow name has r) → IsWith name has [] o
  from_map None e old = e
  from_map (Some r) e old =
      let o = old r refl in
      let is : value ≡ Some (object_row name o.version (Complete o.whole.body) o.whole.fits) = e ∙ ap Some o.whole.is in
      subst (λ (x : AnyRow). IsWith name has [] (Some x)) (sym o.whole.is)
      (record { key = refl; said = λ u s h. inr (subst (λ (v : Option AnyRow). Says v u s) (sym is) h); kept = λ u s h. subst (λ (v : Option AnyRow). Says v u s) is h })

  module _ (vs : List Version) (r : ObjectRow) (b : IsBeside name has vs r) where
    -- what is complete in the row is what the map has
    complete_is : {A : Type 0} (u : Version) (body : Body) → HasState r u (Complete body) → (Says value u (Complete body) → A) → A
    complete_is u body h f = elim (b.said u (Complete body) h) [
      | inl p ↦ (let no : Complete body ≡ Aborted = p.0 in absurd (cc))
      | inr p ↦ f p
    ]

    one_more : (v : Version) → IsBeside name has (v ∷ vs) (object_join r (left v))
    one_more v = record { key = key_joined r (left v) b.key ∙ b.key; said = said; kept = kept }
      where
        joined : IsObjectJoin (HasState r) (HasState (left v)) (HasState (object_join r (left v)))
        joined = facts_joined r (left v) b.key

        said : (u : Version) (s : State) → HasState (object_join r (left v)) u s → ((s ≡ Aborted) × IsIn (v ∷ vs) u) ⊎ Says value u s
        said u s h = elim ((joined u s).0 h).0.0 [
          | inl p ↦ elim (b.said u s p) [ inl x ↦ inl (x.0, inr x.1) | inr x ↦ inr x ]
          | inr p ↦ (let x = alone name v Aborted refl u s p in inl (x.1, inl (sym x.0)))
        ]

        kept : (u : Version) (s : State) → Says value u s → HasState (object_join r (left v)) u s
        kept u s h =
            let one = says_one name has u s h in
            let greatest : (y : State) → IsSaid (HasState r) (HasState (left v)) u y → is_gt (state_cmp y s) ≡ false = λ y said. elim said [
              | inl p ↦ elim (b.said u y p) [
                | inl x ↦ aborted_below one.body y s x.0 one.is
                | inr x ↦ subst (λ (t : State). is_gt (state_cmp t s) ≡ false) (sym (one.alone u y x).1) (same_state s)
              ]
              | inr p ↦ aborted_below one.body y s (alone name v Aborted refl u y p).1 one.is
            ] in
            let current : IsCurrent (HasState r) (HasState (left v)) u = λ w body said. elim said [
              | inl p ↦ complete_is w body p (λ x. ap (λ (t : Version). is_lt (version_cmp u t)) (one.alone w (Complete body) x).0 ∙ ap is_lt (tied_itself version_total u))
              | inr p ↦ (let no : Complete body ≡ Aborted = (alone name v Aborted refl w (Complete body) p).1 in absurd (cc))
            ] in
            (joined u s).1 ((inl (b.kept u s h), greatest), current)
          where
            aborted_below : (body : Body) (y s : State) → y ≡ Aborted → s ≡ Complete body → is_gt (state_cmp y s) ≡ false
            aborted_below body y s e f = ap₂ (λ (a b : State). is_gt (state_cmp a b)) e f

  given_up_more : (v : Version) (vs : List Version) (o : Option AnyRow) → IsWith name has vs o → IsWith name has (v ∷ vs) (option_join any_join o (Some (aborted name v)))
  given_up_more v vs None e = record {
    key = refl;
    said = λ u s h. (let x = alone name v Aborted refl u s h in inl (x.1, inl (sym x.0)));
    kept = λ u s h. absurd (subst (λ (o : Option AnyRow). Says o u s) e h);
  }
  given_up_more v vs (Some (rows.Object r)) b = one_more vs r b v
  given_up_more v vs (Some (rows.Version r)) b = absurd b
  given_up_more v vs (Some (rows.Ref r)) b = absurd b

  pub is_with : (vs : List Version) → IsWith name has vs (row_with name vs has)
  is_with [] = from_map value refl (old_row name has)
  is_with (v ∷ vs) = given_up_more v vs (row_with name vs has) (is_with vs)

  -- ---- it says of its object what the map's row says

  abbrev whole_of : (x : AnyRow) → IsOldRow name has x → AnyRow
  whole_of x o = object_row name o.version (Complete o.whole.body) o.whole.fits

  module _ (vs : List Version) (r : ObjectRow) (b : IsBeside name has vs r) where
    whole_kept : (x : AnyRow) → value ≡ Some x → (o : IsOldRow name has x) → HasState r o.version (Complete o.whole.body)
    whole_kept x e o =
        b.kept o.version (Complete o.whole.body)
        (subst (λ (v : Option AnyRow). Says v o.version (Complete o.whole.body)) (sym (e ∙ ap Some o.whole.is)) (says_own name o.version (Complete o.whole.body) o.whole.fits))

    newest_of : (o : Option AnyRow) → value ≡ o → ((x : AnyRow) → o ≡ Some x → IsOldRow name has x) → (n : Option Version) → IsNewest (HasState r) n → of_version r n ≡ said_of o
    newest_of None e old None is = refl
    newest_of None e old (Some n) is = absurd (complete_is vs r b n is.0.0 is.0.1 (λ x. subst (λ (o : Option AnyRow). Says o n (Complete is.0.0)) e x))
    newest_of (Some x) e old None is = let o = old x refl in absurd (is o.version o.whole.body (whole_kept x e o))
    newest_of (Some x) e old (Some n) is =
        let o = old x refl in
        let says : Says (Some (whole_of x o)) n (Complete is.0.0) = complete_is vs r b n is.0.0 is.0.1 (λ y. subst (λ (v : Option AnyRow). Says v n (Complete is.0.0)) (e ∙ ap Some o.whole.is) y) in
        let found = alone name o.version (Complete o.whole.body) o.whole.fits n (Complete is.0.0) says in
        ap (of_state n) is.0.1
        ∙ (ap₂ (λ (v : Version) (t : State). of_state v (Some t)) found.0 found.1
        ∙ (sym (said_complete name o.version o.whole.body o.whole.fits) ∙ ap (λ (y : AnyRow). said_of (Some y)) (sym o.whole.is)))

    -- ---- its greatest timestamp is the map's

    abbrev its_entries : List (Version × Max State)
    its_entries = map_entries r.versions

    up_to_last : AreUpTo (last_ts has) its_entries
    up_to_last = all_weaker (λ (e : Version × Max State). HasState r e.0 e.1.0) (λ (e : Version × Max State). is_aborted e.1.0 ≡ false → e.0.ts ≤ last_ts has) low its_entries (entries_say r)
      where
        low : (e : Version × Max State) → HasState r e.0 e.1.0 → is_aborted e.1.0 ≡ false → e.0.ts ≤ last_ts has
        low e h is = elim (b.said e.0 e.1.0 h) [
          | inl x ↦ (let no : true ≡ false = ap is_aborted (sym x.0) ∙ is in absurd (cc))
          | inr x ↦ (let same = ts_in_map has e.0 (says_one name has e.0 e.1.0 x).there in omega (arith, same))
        ]

    last_or_more : (o : Option AnyRow) → value ≡ o → ((x : AnyRow) → o ≡ Some x → IsOldRow name has x) → last_ts has ≤ greatest_of its_entries
    last_or_more None e old = let zero_is : last_ts has ≡ 0 = sym (ts_of_row name has) ∙ ap greatest_ts e in omega (arith, zero_is)
    last_or_more (Some x) e old =
        let o = old x refl in
        let high = at_most its_entries (o.version, record { 0 = Complete o.whole.body }) (entry_there r o.version (Complete o.whole.body) (whole_kept x e o)) refl in
        let same = o.ts_is in
        omega (arith, high, same)

    greatest_is : greatest_of its_entries ≡ last_ts has
    greatest_is = let low = up_to its_entries (last_ts has) up_to_last in let high = last_or_more value refl (old_row name has) in omega (arith, low, high)

  said_by : (vs : List Version) (o : Option AnyRow) → IsWith name has vs o → said_of o ≡ said_of value
  said_by vs None e = ap said_of (sym e)
  said_by vs (Some (rows.Object r)) b = newest_of vs r b value refl (old_row name has) (newest r) (newest_is r)
  said_by vs (Some (rows.Version r)) b = absurd b
  said_by vs (Some (rows.Ref r)) b = absurd b

  pub said_with : (vs : List Version) → said_of (row_with name vs has) ≡ said_of value
  said_with vs = said_by vs (row_with name vs has) (is_with vs)

  ts_by : (vs : List Version) (o : Option AnyRow) → IsWith name has vs o → greatest_ts o ≡ last_ts has
  ts_by vs None e = ap greatest_ts (sym e) ∙ ts_of_row name has
  ts_by vs (Some (rows.Object r)) b = greatest_is vs r b
  ts_by vs (Some (rows.Version r)) b = absurd b
  ts_by vs (Some (rows.Ref r)) b = absurd b

  pub ts_with : (vs : List Version) → greatest_ts (row_with name vs has) ≡ last_ts has
  ts_with vs = ts_by vs (row_with name vs has) (is_with vs)

  -- ---- its versions are what the map has, and those that were given up

  module _ (vs : List Version) (version : Version) (less : (u : Version) → WasThere vs has u → version_cmp u version ≡ Less) where
    past_by : (o : Option AnyRow) → IsWith name has vs o → ArePast name version (WasThere vs has) o
    past_by None e = tt
    past_by (Some (rows.Object r)) b = record { key = b.key; was = was; less = λ u s h. less u (was u s h) }
      where
        was : (u : Version) (s : State) → HasState r u s → WasThere vs has u
        was u s h = elim (b.said u s h) [ inl x ↦ inr x.1 | inr x ↦ inl (says_one name has u s x).there ]
    past_by (Some (rows.Version r)) b = absurd b
    past_by (Some (rows.Ref r)) b = absurd b

    pub past_with : ArePast name version (WasThere vs has) (row_with name vs has)
    past_with = past_by (row_with name vs has) (is_with vs)

  -- ---- an object in blocks

  -- the row is an object's, and says that this version is complete, with its first block
  pub record SaysBlocks (vs : List Version) (version : Version) (block : ℕ) (c : Content) : Type 0 where
    pub row : ObjectRow
    pub is : row_with name vs has ≡ Some (rows.Object row)
    pub says : HasState row version (Complete (Blocks (meta_of c) (piece_hash block c.body 0)))

  module _ (vs : List Version) (version : Version) (block : ℕ) (c : Content) (has_it : has ≡ object version block c) (long : is_long c.body ≡ true) where
    value_is : value ≡ Some (in_blocks name version block c)
    value_is = ap (row_of name) has_it ∙ ap (λ b. Some (elim b as (λ b. AnyRow) [ true ↦ in_blocks name version block c | false ↦ inline name version c ])) long

    in_blocks_by : (o : Option AnyRow) → row_with name vs has ≡ o → IsWith name has vs o → SaysBlocks vs version block c
    in_blocks_by None e none = let no : None ≡ Some (in_blocks name version block c) = sym none ∙ value_is in absurd (cc)
    in_blocks_by (Some (rows.Object r)) e b = record {
      row = r;
      is = e;
      says = b.kept version (Complete (Blocks (meta_of c) (piece_hash block c.body 0)))
          (subst (λ (v : Option AnyRow). Says v version (Complete (Blocks (meta_of c) (piece_hash block c.body 0)))) (sym value_is) (says_own name version (Complete (Blocks (meta_of c) (piece_hash block c.body 0))) refl));
    }
    in_blocks_by (Some (rows.Version r)) e b = absurd b
    in_blocks_by (Some (rows.Ref r)) e b = absurd b

    pub says_blocks : SaysBlocks vs version block c
    says_blocks = in_blocks_by (row_with name vs has) refl (is_with vs)

-- ---- the versions that were given up under a name

-- each of them was given up so
pub each_given_up : (P : Plain) (name : Name) (gs : List GaveUp) → AllByRecursion (IsGivenUp P) gs → (v : Version) → IsIn (given_up_at gs name) v → IsGivenUp P (record { name = name; version = v })
each_given_up P name [] all v h = absurd h
each_given_up P name (g ∷ gs) all v h =
    elim (same_name g.name name) as (λ b. same_name g.name name ≡ b → IsIn (if b then g.version ∷ given_up_at gs name else given_up_at gs name) v → IsGivenUp P (record { name = name; version = v })) [
      | true ↦ λ same i. elim i [
        | inl e ↦ ap_given (names_equal g.name name same) e all.0
        | inr rest ↦ each_given_up P name gs all.1 v rest
      ]
      | false ↦ λ apart i. each_given_up P name gs all.1 v i
    ] refl h
  where
    ap_given : g.name ≡ name → g.version ≡ v → IsGivenUp P g → IsGivenUp P (record { name = name; version = v })
    ap_given one same is = subst (λ (n : Name). IsGivenUp P (record { name = n; version = v })) one (subst (λ (u : Version). IsGivenUp P (record { name = g.name; version = u })) same is)

-- of what was there, or was given up, each has the number of an order that was asked
pub was_numbered : (P : Plain) (name : Name) (gs : List GaveUp) → AllByRecursion (IsGivenUp P) gs → ((v : Version) → version_in (has_at P name) ≡ Some v → v.id ≤ P.asked) → (v : Version) → WasThere (given_up_at gs name) (has_at P name) v → v.id ≤ P.asked
was_numbered P name gs all low v (inl e) = low v e
was_numbered P name gs all low v (inr i) = (each_given_up P name gs all v i).numbered

-- what a write draws at this time is later than all that was there, or was given up
pub later_than_all : (P : Plain) (name : Name) (gs : List GaveUp) → AllByRecursion (IsGivenUp P) gs → (id : ℕ) → P.asked < id → (u : Version) → WasThere (given_up_at gs name) (has_at P name) u → version_cmp u (record { ts = max P.clock (suc (last_ts (has_at P name))); id = id }) ≡ Less
later_than_all P name gs all id more u (inl e) =
    let v : Version = record { ts = max P.clock (suc (last_ts (has_at P name))); id = id } in
    let same = ts_in_map (has_at P name) u e in
    let low : u.ts < max P.clock (suc (last_ts (has_at P name))) = omega (arith, same) in
    before_by u v low
later_than_all P name gs all id more u (inr h) =
    let v : Version = record { ts = max P.clock (suc (last_ts (has_at P name))); id = id } in
    let g = each_given_up P name gs all u h in
    let late = g.late in
    let numbered = g.numbered in
    let fewer : u.id < id = omega (arith, numbered, more) in
    below_by u v late fewer

-- ---- a write takes out all that were given up under its name

-- those of other names
abbrev pub of_others : Name → List GaveUp → List GaveUp
of_others name gs = filter (λ (g : GaveUp). not (same_name name g.name)) gs

module _ (name : Name) where
  pub none_left_of : (gs : List GaveUp) → given_up_at (of_others name gs) name ≡ []
  none_left_of [] = refl
  none_left_of (g ∷ gs) =
      elim (same_name name g.name) as (λ b. same_name name g.name ≡ b → given_up_at (cond (not b) (g ∷ of_others name gs) (of_others name gs)) name ≡ []) [
        | true ↦ λ same. none_left_of gs
        | false ↦ λ apart. ap (λ b. if b then g.version ∷ given_up_at (of_others name gs) name else given_up_at (of_others name gs) name) (turned_name name g.name apart) ∙ none_left_of gs
      ] refl

  pub others_left : (other : Name) → same_name name other ≡ false → (gs : List GaveUp) → given_up_at (of_others name gs) other ≡ given_up_at gs other
  others_left other apart [] = refl
  others_left other apart (g ∷ gs) =
      elim (same_name name g.name) as (λ b. same_name name g.name ≡ b → given_up_at (cond (not b) (g ∷ of_others name gs) (of_others name gs)) other ≡ given_up_at (g ∷ gs) other) [
        | true ↦ λ same.
            let no : same_name g.name other ≡ false = ap (λ (n : Name). same_name n other) (sym (names_equal name g.name same)) ∙ apart in
            others_left other apart gs ∙ sym (ap (λ b. if b then g.version ∷ given_up_at gs other else given_up_at gs other) no)
        | false ↦ λ differs. ap (λ (vs : List Version). if same_name g.name other then g.version ∷ vs else vs) (others_left other apart gs)
      ] refl

  -- what holds of all of other names
  pub all_of_others : (Q R : GaveUp → Type 0) → ((g : GaveUp) → same_name name g.name ≡ false → Q g → R g) → (gs : List GaveUp) → AllByRecursion Q gs → AllByRecursion R (of_others name gs)
  all_of_others Q R f [] all = tt
  all_of_others Q R f (g ∷ gs) all =
      elim (same_name name g.name) as (λ b. same_name name g.name ≡ b → AllByRecursion R (cond (not b) (g ∷ of_others name gs) (of_others name gs))) [
        | true ↦ λ same. all_of_others Q R f gs all.1
        | false ↦ λ apart. (f g apart all.0, all_of_others Q R f gs all.1)
      ] refl
