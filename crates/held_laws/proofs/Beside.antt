-- A row that shows what the map has, and in which nothing is being uploaded, is the map's row beside versions that were given up.
use Rattle.std.proofs.Common.{◌≡◌, Option, Some, None, List, [], ◌∷◌, true, false, refl, sym, ap, ap₂, ◌∙◌, subst, inl, inr}
use Rattle.std.specs.Prelude.{⊤}
use Rattle.std.specs.declared.cmp.Ordering.{Ordering}
use Rattle.std.specs.declared.cmp.Ordering.TheVariants.{Less, Equal, Greater}
use Rattle.std.specs.Ordering.{is_gt, is_lt}
use Rattle.crdt_core.specs.LexLaws.{turned}
use Rattle.crdt_core.specs.Order.{option_join}
use Rattle.crdt_rows.specs.declared.version.Version.{Version}
use Rattle.crdt_rows.specs.declared.body.Body.{Body}
use Rattle.crdt_rows.specs.declared.body.Body.TheVariants.{Marker, Inline, Blocks}
use Rattle.crdt_rows.specs.declared.state.State.{State}
use Rattle.crdt_rows.specs.declared.state.State.TheVariants.{Uploading, Aborted, Complete}
use Rattle.crdt_rows.specs.declared.object_row.ObjectRow.{ObjectRow}
use Rattle.crdt_rows.specs.declared.any_row.AnyRow.{AnyRow}
use Rattle.crdt_rows.specs.declared.any_row.AnyRow.TheVariants as rows
use Rattle.crdt_rows.specs.AnyRow.{any_join}
use Rattle.crdt_rows.specs.Facts.{HasState, IsSaid, IsCurrent, IsNewest}
use Rattle.crdt_rows.specs.FieldLaws.{version_total, version_identical}
use Rattle.crdt_rows.specs.ObjectRow.{object_key, object_join, newest, state_at}
use Rattle.crdt_rows.specs.State.{state_cmp}
use Rattle.crdt_rows.specs.Version.{version_cmp}
use Rattle.flow_model.specs.declared.flow.Name.{Name}
use Rattle.flow_model.specs.Rows.{aborted}
use Rattle.flow_model.specs.Says.{none, marked, inline, in_blocks, of_state, of_version, said_of}
use Rattle.drained_laws.specs.Waiting.{Has as IsIn}
use Rattle.serve_model.specs.Plain.{Has, row_of, version_in}
use Rattle.plain_laws.specs.Holds.{row_with}
use Rattle.plain_laws.proofs.GivenUp.{IsOldRow, old_row}
use Rattle.plain_laws.proofs.GivenUps.{says_one, IsBeside, IsWith, is_with}
use Rattle.crdt_rows.proofs.ObjectFacts.{facts_joined, facts_decide, newest_is}
use Rattle.plain_laws.proofs.Past.{Says, own_key, own_facts, not_less, with_one, says_own, alone}
use Rattle.plain_laws.proofs.Saids.{said_complete}
use Rattle.held_laws.specs.Looks.{IsSeen}
use Rattle.held_laws.proofs.Saying.{SaysSome}

-- none of two versions is below the other: they are one
one_version : (u v : Version) (o : Ordering) → version_cmp u v ≡ o → is_lt (version_cmp u v) ≡ false → is_lt (version_cmp v u) ≡ false → u ≡ v
one_version u v Less e low high = let no : true ≡ false = ap is_lt (sym e) ∙ low in absurd (cc)
one_version u v Equal e low high = version_identical u v e
one_version u v Greater e low high = let no : true ≡ false = ap is_lt (sym (turned version_total u v Greater e)) ∙ high in absurd (cc)

-- a complete version is the newest one
newest_by : (r : ObjectRow) (v : Version) (body : Body) → HasState r v (Complete body) → (o : Option Version) → IsNewest (HasState r) o → o ≡ Some v
newest_by r v body h None is = absurd (is v body h)
newest_by r v body h (Some n) is =
    let low : is_lt (version_cmp v n) ≡ false = ((own_facts r v (Complete body)).0 h).1 n is.0.0 (inl is.0.1) in
    ap Some (one_version n v (version_cmp n v) refl (is.1 v body h) low)

complete_newest : (r : ObjectRow) (v : Version) (body : Body) → HasState r v (Complete body) → newest r ≡ Some v
complete_newest r v body h = newest_by r v body h (newest r) (newest_is r)

-- so the row says it of its object
complete_said : (r : ObjectRow) (v : Version) (body : Body) → HasState r v (Complete body) → said_of (Some (rows.Object r)) ≡ of_state v (Some (Complete body))
complete_said r v body h = ap (of_version r) (complete_newest r v body h) ∙ ap (of_state v) h

-- what is said of a complete version tells it, and its body
said_apart : (u v : Version) (a b : Body) → of_state u (Some (Complete a)) ≡ of_state v (Some (Complete b)) → (u ≡ v) × (a ≡ b)
said_apart u v Marker Marker e = let f : marked u ≡ marked v = e in (cc, refl)
said_apart u v (Inline m d) (Inline n b) e = let f : inline u m d ≡ inline v n b = e in let one : u ≡ v = cc in let meta : m ≡ n = cc in let bytes : d ≡ b = cc in (one, ap₂ Inline meta bytes)
said_apart u v (Blocks m first) (Blocks n other) e =
    let f : in_blocks u m first.0 ≡ in_blocks v n other.0 = e in
    let one : u ≡ v = cc in
    let meta : m ≡ n = cc in
    let hash : first.0 ≡ other.0 = cc in
    (one, ap₂ Blocks meta (λ i. record { 0 = hash i }))
said_apart u v Marker (Inline n b) e = let f : marked u ≡ inline v n b = e in absurd (cc)
said_apart u v Marker (Blocks n other) e = let f : marked u ≡ in_blocks v n other.0 = e in absurd (cc)
said_apart u v (Inline m d) Marker e = let f : inline u m d ≡ marked v = e in absurd (cc)
said_apart u v (Inline m d) (Blocks n other) e = let f : inline u m d ≡ in_blocks v n other.0 = e in absurd (cc)
said_apart u v (Blocks m first) Marker e = let f : in_blocks u m first.0 ≡ marked v = e in absurd (cc)
said_apart u v (Blocks m first) (Inline n b) e = let f : in_blocks u m first.0 ≡ inline v n b = e in absurd (cc)

said_some : (v : Version) (b : Body) → of_state v (Some (Complete b)) ≡ none → ⊥
said_some v Marker e = let f : marked v ≡ none = e in cc
said_some v (Inline m d) e = let f : inline v m d ≡ none = e in cc
said_some v (Blocks m first) e = let f : in_blocks v m first.0 ≡ none = e in cc

-- the object's own row, which says something; or none
abbrev pub IsOwn : Name → Option AnyRow → Type 0
IsOwn name None = ⊤
IsOwn name (Some (rows.Object r)) = (object_key r ≡ own_key name) × SaysSome (rows.Object r)
IsOwn name (Some other) = ⊥

-- two answers that tell the same are one
one_answer : {A : Type 0} (x y : Option A) → ((s : A) → x ≡ Some s → y ≡ Some s) → ((s : A) → y ≡ Some s → x ≡ Some s) → x ≡ y
one_answer None None to from = refl
one_answer None (Some b) to from = from b refl
one_answer (Some a) y to from = sym (to a refl)

module _ (name : Name) (has : Has) where
  abbrev value : Option AnyRow
  value = row_of name has

  -- what is said of the map's row is a version that it says to be complete
  told_by : (x : Option AnyRow) → value ≡ x → ((r : AnyRow) → x ≡ Some r → IsOldRow name has r) → (v : Version) (body : Body) → said_of x ≡ of_state v (Some (Complete body)) → Says x v (Complete body)
  told_by None e old v body said = absurd (said_some v body (sym said))
  told_by (Some x) e old v body said =
      let o = old x refl in
      let same = said_apart o.version v o.whole.body body (sym (ap (λ (y : AnyRow). said_of (Some y)) o.whole.is ∙ said_complete name o.version o.whole.body o.whole.fits) ∙ said) in
      subst (λ (u : Version). Says (Some x) u (Complete body)) same.0
      (subst (λ (b : Body). Says (Some x) o.version (Complete b)) same.1
      (subst (λ (y : AnyRow). Says (Some y) o.version (Complete o.whole.body)) (sym o.whole.is) (says_own name o.version (Complete o.whole.body) o.whole.fits)))

  -- what the map's row says is said of it
  told_of : (x : Option AnyRow) → value ≡ x → ((r : AnyRow) → x ≡ Some r → IsOldRow name has r) → (v : Version) (body : Body) → Says x v (Complete body) → said_of x ≡ of_state v (Some (Complete body))
  told_of None e old v body h = absurd h
  told_of (Some x) e old v body h =
      let o = old x refl in
      let own = alone name o.version (Complete o.whole.body) o.whole.fits v (Complete body) (subst (λ (y : AnyRow). Says (Some y) v (Complete body)) o.whole.is h) in
      ap (λ (y : AnyRow). said_of (Some y)) o.whole.is ∙ (said_complete name o.version o.whole.body o.whole.fits ∙ ap₂ (λ (u : Version) (t : State). of_state u (Some t)) (sym own.0) (sym own.1))

  -- ---- a row that shows what the map has

  module _ (o : Option AnyRow) (seen : IsSeen name has o) where
    -- a version that it says to be complete is what the map has
    pub says_map : (r : ObjectRow) → o ≡ Some (rows.Object r) → (v : Version) (body : Body) → HasState r v (Complete body) → Says value v (Complete body)
    says_map r e v body h = told_by value refl (old_row name has) v body (sym seen.newest ∙ (ap said_of e ∙ complete_said r v body h))

    -- and what the map has it says to be complete
    map_by : (x : Option AnyRow) → o ≡ x → IsOwn name x → (v : Version) (body : Body) → said_of x ≡ of_state v (Some (Complete body)) → Says x v (Complete body)
    map_by None e own v body said = absurd (said_some v body (sym said))
    map_by (Some (rows.Object r)) e own v body said = by_newest (newest r) (newest_is r) said
      where
        by_newest : (n : Option Version) → IsNewest (HasState r) n → of_version r n ≡ of_state v (Some (Complete body)) → HasState r v (Complete body)
        by_newest None is said = absurd (said_some v body (sym said))
        by_newest (Some n) is said =
            let same = said_apart n v is.0.0 body (sym (ap (of_state n) is.0.1) ∙ said) in
            subst (λ (u : Version). HasState r u (Complete body)) same.0 (subst (λ (b : Body). HasState r n (Complete b)) same.1 is.0.1)
    map_by (Some (rows.Version r)) e own v body said = absurd own
    map_by (Some (rows.Ref r)) e own v body said = absurd own

    pub map_says : IsOwn name o → (v : Version) (s : State) → Says value v s → Says o v s
    map_says own v s h =
        let one = says_one name has v s h in
        subst (Says o v) (sym one.is) (map_by o refl own v one.body (seen.newest ∙ told_of value refl (old_row name has) v one.body (subst (Says value v) one.is h)))

  -- ---- versions that were given up

  -- each is above what the map has
  abbrev pub AreAbove : List Version → Type 0
  AreAbove vs = (u : Version) → IsIn vs u → (w : Version) → version_in has ≡ Some w → version_cmp w u ≡ Less

  abbrev left : Version → ObjectRow
  left v = with_one name v Aborted refl

  module _ (vs : List Version) (v : Version) (above : AreAbove (v ∷ vs)) where
    -- the row with one more says of each that it was given up
    more_left : (r : ObjectRow) → IsBeside name has vs r → ((u : Version) → IsIn vs u → HasState r u Aborted) → (u : Version) → IsIn (v ∷ vs) u → HasState (object_join r (left v)) u Aborted
    more_left r b rest u there = (facts_joined r (left v) b.key u Aborted).1 ((here there, greatest), current)
      where
        here : IsIn (v ∷ vs) u → IsSaid (HasState r) (HasState (left v)) u Aborted
        here (inl same) = inr (subst (λ (w : Version). HasState (left v) w Aborted) same (says_own name v Aborted refl))
        here (inr old) = inl (rest u old)

        lower : (w : Version) (s : State) → Says value w s → version_cmp w u ≡ Less
        lower w s h = above u there w (says_one name has w s h).there

        greatest : (y : State) → IsSaid (HasState r) (HasState (left v)) u y → is_gt (state_cmp y Aborted) ≡ false
        greatest y (inl p) = elim (b.said u y p) [
          | inl x ↦ ap (λ (t : State). is_gt (state_cmp t Aborted)) x.0
          | inr x ↦ not_less u u (lower u y x) refl
        ]
        greatest y (inr p) = ap (λ (t : State). is_gt (state_cmp t Aborted)) (alone name v Aborted refl u y p).1

        current : IsCurrent (HasState r) (HasState (left v)) u
        current w body (inl p) = elim (b.said w (Complete body) p) [
          | inl x ↦ (let no : Complete body ≡ Aborted = x.0 in absurd (cc))
          | inr x ↦ ap is_lt (turned version_total w u Less (lower w (Complete body) x))
        ]
        current w body (inr p) = let no : Complete body ≡ Aborted = (alone name v Aborted refl w (Complete body) p).1 in absurd (cc)

    left_by : (x : Option AnyRow) → IsWith name has vs x → ((u : Version) → IsIn vs u → Says x u Aborted) → (u : Version) → IsIn (v ∷ vs) u → Says (option_join any_join x (Some (aborted name v))) u Aborted
    left_by None is rest u (inl same) = subst (λ (w : Version). HasState (left v) w Aborted) same (says_own name v Aborted refl)
    left_by None is rest u (inr old) = absurd (rest u old)
    left_by (Some (rows.Object r)) is rest u there = more_left r is rest u there
    left_by (Some (rows.Version r)) is rest u there = absurd is
    left_by (Some (rows.Ref r)) is rest u there = absurd is

  left_there : (vs : List Version) → AreAbove vs → (u : Version) → IsIn vs u → Says (row_with name vs has) u Aborted
  left_there [] above u there = absurd there
  left_there (v ∷ vs) above u there = left_by vs v above (row_with name vs has) (is_with name has vs) (left_there vs (λ w i. above w (inr i))) u there

  -- ---- the two rows are one

  module _ (vs : List Version) (above : AreAbove vs) (o : Option AnyRow) (seen : IsSeen name has o) (own : IsOwn name o) (to : (v : Version) → IsIn vs v → Says o v Aborted) (from : (v : Version) → Says o v Aborted → IsIn vs v) where
    abbrev with_them : Option AnyRow
    with_them = row_with name vs has

    forth : (r : ObjectRow) → o ≡ Some (rows.Object r) → (x : Option AnyRow) → with_them ≡ x → IsWith name has vs x → (v : Version) (s : State) → HasState r v s → Says x v s
    forth r e x f is v Uploading h = absurd (seen.none_begun r v e h)
    forth r e x f is v Aborted h = subst (λ (y : Option AnyRow). Says y v Aborted) f (left_there vs above v (from v (subst (λ (y : Option AnyRow). Says y v Aborted) (sym e) h)))
    forth r e x f is v (Complete body) h = kept x is (says_map o seen r e v body h)
      where
        kept : (x : Option AnyRow) → IsWith name has vs x → Says value v (Complete body) → Says x v (Complete body)
        kept None is says = subst (λ (y : Option AnyRow). Says y v (Complete body)) is says
        kept (Some (rows.Object r)) is says = is.kept v (Complete body) says
        kept (Some (rows.Version r)) is says = absurd is
        kept (Some (rows.Ref r)) is says = absurd is

    back : (r : ObjectRow) → IsBeside name has vs r → (v : Version) (s : State) → HasState r v s → Says o v s
    back r is v s h = elim (is.said v s h) [
      | inl x ↦ subst (Says o v) (sym x.0) (to v x.1)
      | inr x ↦ map_says o seen own v s x
    ]

    -- nothing is there
    none_with : o ≡ None → with_them ≡ None
    none_with e = by_list vs refl
      where
        no_value : (x : Option AnyRow) → value ≡ x → ((r : AnyRow) → x ≡ Some r → IsOldRow name has r) → x ≡ None
        no_value None f old = refl
        no_value (Some x) f old =
            let w = old x refl in
            let says : Says value w.version (Complete w.whole.body) = subst (λ (y : Option AnyRow). Says y w.version (Complete w.whole.body)) (sym (f ∙ ap Some w.whole.is)) (says_own name w.version (Complete w.whole.body) w.whole.fits) in
            absurd (subst (λ (y : Option AnyRow). Says y w.version (Complete w.whole.body)) e (map_says o seen own w.version (Complete w.whole.body) says))

        by_list : (us : List Version) → vs ≡ us → with_them ≡ None
        by_list [] f = ap (λ (us : List Version). row_with name us has) f ∙ no_value value refl (old_row name has)
        by_list (u ∷ us) f = absurd (subst (λ (y : Option AnyRow). Says y u Aborted) e (to u (subst (λ (xs : List Version). IsIn xs u) (sym f) (inl refl))))

    by_both : (x y : Option AnyRow) → o ≡ x → IsOwn name x → with_them ≡ y → IsWith name has vs y → x ≡ y
    by_both None y e is f w = sym (none_with e) ∙ f
    by_both (Some (rows.Object r)) None e is f w = let some = is.1 in absurd (forth r e None f w some.0 some.1 some.2)
    by_both (Some (rows.Object r)) (Some (rows.Object q)) e is f w =
        ap (λ (x : ObjectRow). Some (rows.Object x))
        (facts_decide r q (is.0 ∙ sym w.key) (λ v. one_answer (state_at r v) (state_at q v) (λ s h. forth r e (Some (rows.Object q)) f w v s h) (λ s h. subst (λ (x : Option AnyRow). Says x v s) e (back q w v s h))))
    by_both (Some (rows.Object r)) (Some (rows.Version q)) e is f w = absurd w
    by_both (Some (rows.Object r)) (Some (rows.Ref q)) e is f w = absurd w
    by_both (Some (rows.Version r)) y e is f w = absurd is
    by_both (Some (rows.Ref r)) y e is f w = absurd is

    pub is_beside : o ≡ with_them
    is_beside = by_both o with_them refl own refl (is_with name has vs)
