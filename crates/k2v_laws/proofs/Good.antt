-- What every row of an item that is stored, read or merged says of its writes.
use Rattle.std.proofs.Common.{◌≡◌, ◌⊎◌, inl, inr, ℕ, ◌≤◌, ◌<◌, Bool, true, false, cond, List, Option, Some, None, refl, sym, ap, ◌∙◌, subst, arith}
use Rattle.std.specs.Prelude.{◌&&◌, ◌==◌, max, nat_le, IsTrue}
use Rattle.std.specs.declared.cmp.Ordering.{Ordering}
use Rattle.std.specs.declared.cmp.Ordering.TheVariants.{Less, Equal, Greater}
use Rattle.std.proofs.lemmas.Bool.{leb-true, leb-false, eqb-true}
use Rattle.crdt_core.specs.EntryLaws.{and_parts}
use Rattle.crdt_core.specs.Lex.{by_order, larger}
use Rattle.crdt_core.specs.Order.{option_join}
use Rattle.table_schema.specs.Laws.{Same}
use Rattle.cluster_machine.specs.Hashes.{NoClash}
use Rattle.cluster_machine.specs.World.{numbered}
use Rattle.k2v_rows.specs.declared.value.K2vValue.{K2vValue}
use Rattle.k2v_rows.specs.declared.k2v_row.K2vRow.{K2vRow}
use Rattle.k2v_rows.specs.Value.{value_cmp}
use Rattle.k2v_rows.specs.Token.{TimeMap}
use Rattle.k2v_rows.specs.Row.{ItemKey, item_key, row_join, discard_at, value_of, time_at, can_put, after_put}
use Rattle.k2v_rows.proofs.Facts.{joined_key, joined_discard_at, joined_value_of, put_discard_at, put_others, put_stands}
use Rattle.k2v_schema.specs.Schema.{words}
use Rattle.k2v_schema.specs.Laws.{schema_laws}
use Rattle.k2v_model.specs.declared.order.Ask.TheVariants.{Write, Read}
use Rattle.k2v_model.specs.Orders.{token_in}
use Rattle.k2v_model.specs.Run.{ItemRequest, reading, storing, over}
use Rattle.k2v_model.specs.Owed.{IsWrite, HasRead, Shows, IsReplaced}
use Rattle.k2v_laws.proofs.Tokens.{max_is, IsTimeOf, token_time}

-- ---- one request

-- two entries at one number are one
pub one_entry : (requests : List ItemRequest) (q : ℕ) (a b : ItemRequest) → numbered requests q ≡ Some a → numbered requests q ≡ Some b → a ≡ b
one_entry requests q a b e f = let some_is : Some a ≡ Some b = sym e ∙ f in cc

-- equal requests and stages have equal parts
pub write_value : {v w : K2vValue} {t u : ℕ} → Write v t ≡ Write w u → v ≡ w
write_value e = cc

pub write_token : {v w : K2vValue} {t u : ℕ} → Write v t ≡ Write w u → t ≡ u
write_token e = cc

pub never_write : {A : Type 0} {v : K2vValue} {t : ℕ} → Read ≡ Write v t → A
never_write e = cc

pub storing_row : {r x : K2vRow} → storing r ≡ storing x → r ≡ x
storing_row e = cc

pub never_reading : {r : K2vRow} → storing r ≡ reading → ⊥
never_reading e = cc

-- the request has read, and begun to store what it wrote
abbrev pub HasStored : {requests : List ItemRequest} {q : ℕ} {key : ItemKey} {node : ℕ} → IsWrite requests q key node → Type 0
HasStored w = w.one.stage ≡ reading → ⊥

-- the request is open, or was acknowledged
abbrev pub IsLive : {requests : List ItemRequest} {q : ℕ} {key : ItemKey} {node : ℕ} → IsWrite requests q key node → Type 0
IsLive w = w.one.stage ≡ over → ⊥

-- this value of the item was written at this node by request q, which began to store it
pub record HasWritten (requests : List ItemRequest) (key : ItemKey) (node q : ℕ) : Type 0 where
  pub write : IsWrite requests q key node
  pub has_stored : HasStored write

-- one request writes one value
pub one_value : (requests : List ItemRequest) (key other : ItemKey) (node m q : ℕ) (v : IsWrite requests q key node) (w : IsWrite requests q other m) → v.value ≡ w.value
one_value requests key other node m q v w =
    let same : v.one ≡ w.one = one_entry requests q v.one w.one v.is_there w.is_there in
    let asks : Write v.value v.token ≡ Write w.value w.token = sym v.writes ∙ (ap (λ (a : ItemRequest). a.order.ask) same ∙ w.writes) in
    cc

-- the row shows the write, or its discard time covers it
abbrev pub Knows : K2vRow → ℕ → ℕ → Type 0
Knows row node q = Shows (Some row) node q ⊎ (q ≤ discard_at row node)

-- ---- rows

-- what a row of the item says of writes, the first b requests: each value was written so; its discard times are those of writes; and where no two of these strings have one digest, with a write of a node it knows of each earlier one that goes on or was acknowledged, and what it discards was replaced
pub record IsGood (H : List ℕ → Type 0) (requests : List ItemRequest) (key : ItemKey) (b : ℕ) (row : K2vRow) : Type 0 where
  pub proper : IsTrue (words.is_proper row)
  pub key_is : item_key row ≡ key
  pub values : (m t : ℕ) (v : K2vValue) → value_of row m t ≡ Some v → (h : HasWritten requests key m t) × (h.write.value ≡ v) × (t ≤ b)
  pub discards : (m : ℕ) → (discard_at row m ≡ 0) ⊎ (HasWritten requests key m (discard_at row m) × (discard_at row m ≤ b))
  pub whole : NoClash H → (m t q : ℕ) (v : K2vValue) → value_of row m t ≡ Some v → q < t → (w : IsWrite requests q key m) → IsLive w → Knows row m q
  pub covered : NoClash H → (m q : ℕ) → q ≤ discard_at row m → (w : IsWrite requests q key m) → IsLive w → IsReplaced requests key m q b

-- no request has number 0
pub none_at_zero : (requests : List ItemRequest) (key : ItemKey) (m : ℕ) → IsWrite requests 0 key m → {A : Type 0} → A
none_at_zero requests key m w = let no : None ≡ Some w.one = w.is_there in cc

-- ---- merges

-- the greater of two equal values
larger_one : (x : K2vValue) → larger value_cmp x x ≡ x
larger_one x = by_each (value_cmp x x) where
  by_each : (o : Ordering) → by_order o x x x ≡ x
  by_each Less = refl
  by_each Equal = refl
  by_each Greater = refl

-- what is joined of two values that agree, unless it is discarded, stands in one of both
joined_from : (c : Bool) (x y : Option K2vValue) (v : K2vValue) → ((a b : K2vValue) → x ≡ Some a → y ≡ Some b → a ≡ b) → cond c None (option_join (larger value_cmp) x y) ≡ Some v → (x ≡ Some v) ⊎ (y ≡ Some v)
joined_from true x y v agree e = cc
joined_from false None y v agree e = inr e
joined_from false (Some a) None v agree e = inl e
joined_from false (Some a) (Some b) v agree e =
    let same : a ≡ b = agree a b refl refl in
    inl (sym (ap Some (ap (larger value_cmp a) (sym same) ∙ larger_one a)) ∙ e)

-- where it isn't discarded, what stands in one of both is joined with the other
joined_left : (x y : Option K2vValue) (v : K2vValue) → x ≡ Some v → (w : K2vValue) × (option_join (larger value_cmp) x y ≡ Some w)
joined_left x None v e = (v, rw e refl)
joined_left x (Some b) v e = (larger value_cmp v b, rw e refl)

joined_right : (x y : Option K2vValue) (v : K2vValue) → y ≡ Some v → (w : K2vValue) × (option_join (larger value_cmp) x y ≡ Some w)
joined_right None y v e = (v, e)
joined_right (Some a) y v e = (larger value_cmp a v, rw e refl)

module _ (a b : K2vRow) (e : item_key a ≡ item_key b) where
  -- a joined value that isn't past the discard times is shown
  joined_knows : (m q : ℕ) → (w : K2vValue) × (option_join (larger value_cmp) (value_of a m q) (value_of b m q) ≡ Some w) → Knows (row_join a b) m q
  joined_knows m q h =
      let d : ℕ = max (discard_at a m) (discard_at b m) in
      elim (nat_le q d) as (λ c. nat_le q d ≡ c → Knows (row_join a b) m q) [
        | true ↦ λ t. inr (subst (λ k. q ≤ k) (sym (joined_discard_at a b e m)) (leb-true q d t))
        | false ↦ λ f. inl (h.0, joined_value_of a b e m q ∙ (ap (λ c. cond c None (option_join (larger value_cmp) (value_of a m q) (value_of b m q))) f ∙ h.1))
      ] refl

  discards_more : (m q : ℕ) → q ≤ max (discard_at a m) (discard_at b m) → Knows (row_join a b) m q
  discards_more m q le = inr (subst (λ k. q ≤ k) (sym (joined_discard_at a b e m)) le)

  pub knows_left : (m q : ℕ) → Knows a m q → Knows (row_join a b) m q
  knows_left m q (inl h) = joined_knows m q (joined_left (value_of a m q) (value_of b m q) h.0 h.1)
  knows_left m q (inr le) = discards_more m q (omega (arith, le))

  pub knows_right : (m q : ℕ) → Knows b m q → Knows (row_join a b) m q
  knows_right m q (inl h) = joined_knows m q (joined_right (value_of a m q) (value_of b m q) h.0 h.1)
  knows_right m q (inr le) = discards_more m q (omega (arith, le))

module _ {H : List ℕ → Type 0} (requests : List ItemRequest) (key : ItemKey) (bound : ℕ) (a b : K2vRow) (e : item_key a ≡ item_key b) (x : IsGood H requests key bound a) (y : IsGood H requests key bound b) where
  -- a value of the join is a value of one of both
  value_from : (m t : ℕ) (v : K2vValue) → value_of (row_join a b) m t ≡ Some v → (value_of a m t ≡ Some v) ⊎ (value_of b m t ≡ Some v)
  value_from m t v h =
      joined_from (nat_le t (max (discard_at a m) (discard_at b m))) (value_of a m t) (value_of b m t) v
      (λ p q f g. let s = x.values m t p f in let r = y.values m t q g in sym s.1 ∙ (one_value requests key key m m t s.0.write r.0.write ∙ r.1))
      (sym (joined_value_of a b e m t) ∙ h)

  -- the discard time of the join is that of one of both
  discard_from : (m : ℕ) → (discard_at (row_join a b) m ≡ discard_at a m) ⊎ (discard_at (row_join a b) m ≡ discard_at b m)
  discard_from m = elim (max_is (discard_at a m) (discard_at b m)) [
    | inl is ↦ inl (joined_discard_at a b e m ∙ is)
    | inr is ↦ inr (joined_discard_at a b e m ∙ is)
  ]

  abbrev IsTime : ℕ → ℕ → Type 0
  IsTime m d = (d ≡ 0) ⊎ (HasWritten requests key m d × (d ≤ bound))

  pub joined_good : Same words a b → IsGood H requests key bound (row_join a b)
  joined_good same = record {
    proper = schema_laws.joined_is_proper a b same;
    key_is = joined_key a b e ∙ x.key_is;
    values = λ m t v h. elim (value_from m t v h) [
      | inl one ↦ x.values m t v one
      | inr other ↦ y.values m t v other
    ];
    discards = λ m. elim (discard_from m) [
      | inl is ↦ subst (IsTime m) (sym is) (x.discards m)
      | inr is ↦ subst (IsTime m) (sym is) (y.discards m)
    ];
    whole = λ clear m t q v h lt w live. elim (value_from m t v h) [
      | inl one ↦ knows_left a b e m q (x.whole clear m t q v one lt w live)
      | inr other ↦ knows_right a b e m q (y.whole clear m t q v other lt w live)
    ];
    covered = λ clear m q le w live. elim (discard_from m) [
      | inl is ↦ x.covered clear m q (subst (λ k. q ≤ k) is le) w live
      | inr is ↦ y.covered clear m q (subst (λ k. q ≤ k) is le) w live
    ];
  }

-- ---- writes

-- what a token has seen: nothing, or a row that a finished read of the item gave
pub data IsToken (H : List ℕ → Type 0) (requests : List ItemRequest) (key : ItemKey) (token b : ℕ) : TimeMap → Type 0 where
  nothing : (times : TimeMap) → ((m : ℕ) → time_at times m ≡ 0) → IsToken H requests key token b times
  of_row : (row : K2vRow) (then : ℕ) → HasRead requests token key (Some row) then → IsGood H requests key b row → IsToken H requests key token b (token_in row)

module _ {H : List ℕ → Type 0} (requests : List ItemRequest) (key : ItemKey) (b : ℕ) (base : K2vRow) (n q : ℕ) (value : K2vValue) (times : TimeMap)
    (good : IsGood H requests key b base) (mine : IsWrite requests q key n) (value_is : mine.value ≡ value) (is_storing : HasStored mine) (low : q ≤ b)
    (seen : IsToken H requests key mine.token b times) (can : can_put base n q times ≡ true)
    (earlier : NoClash H → (p : ℕ) → p < q → (w : IsWrite requests p key n) → IsLive w → Knows base n p) where
  abbrev new : K2vRow
  new = after_put base n q value times

  -- the new value stands at its place
  pub own : value_of new n q ≡ Some value
  own = put_stands base n q value times can ∙ merged (value_of base n q) refl where
    merged : (o : Option K2vValue) → value_of base n q ≡ o → option_join (larger value_cmp) o (Some value) ≡ Some value
    merged None e = refl
    merged (Some v) e =
        let was = good.values n q v e in
        let same : v ≡ value = sym was.1 ∙ (one_value requests key key n n q was.0.write mine ∙ value_is) in
        ap Some (ap (λ u. larger value_cmp u value) same ∙ larger_one value)

  abbrev is_own : ℕ → ℕ → Bool
  is_own m t = (m == n) && (t == q)

  at_own : (m t : ℕ) → is_own m t ≡ true → (m ≡ n) × (t ≡ q)
  at_own m t e = let parts = and_parts (m == n) (t == q) e in (eqb-true m n parts.0, eqb-true t q parts.1)

  -- a value that stands is the new one, or stood before
  value_cases : (m t : ℕ) (v : K2vValue) → value_of new m t ≡ Some v → ((m ≡ n) × (t ≡ q) × (v ≡ value)) ⊎ (value_of base m t ≡ Some v)
  value_cases m t v h =
      elim (is_own m t) as (λ c. is_own m t ≡ c → ((m ≡ n) × (t ≡ q) × (v ≡ value)) ⊎ (value_of base m t ≡ Some v)) [
        | true ↦ λ e.
            let at = at_own m t e in
            let some_is : Some v ≡ Some value = sym h ∙ ((λ i. value_of new (at.0 i) (at.1 i)) ∙ own) in
            inl (at.0, at.1, (cc))
        | false ↦ λ f. inr (not_past (nat_le t (time_at times m)) (sym (put_others base n q value times m t f) ∙ h))
      ] refl where
        not_past : (c : Bool) → cond c None (value_of base m t) ≡ Some v → value_of base m t ≡ Some v
        not_past true e = cc
        not_past false e = e

  discard_is : (m : ℕ) → discard_at new m ≡ max (discard_at base m) (time_at times m)
  discard_is m = put_discard_at base n q value times m

  -- what was known stays known
  pub knows_still : (m p : ℕ) → Knows base m p → Knows new m p
  knows_still m p (inr le) = inr (subst (λ k. p ≤ k) (sym (discard_is m)) (omega (arith, le)))
  knows_still m p (inl h) =
      elim (is_own m p) as (λ c. is_own m p ≡ c → Knows new m p) [
        | true ↦ λ e. let at = at_own m p e in inl (value, (λ i. value_of new (at.0 i) (at.1 i)) ∙ own)
        | false ↦ λ f. by_past (nat_le p (time_at times m)) refl f
      ] refl where
        by_past : (c : Bool) → nat_le p (time_at times m) ≡ c → is_own m p ≡ false → Knows new m p
        by_past true t f = let le = leb-true p (time_at times m) t in inr (subst (λ k. p ≤ k) (sym (discard_is m)) (omega (arith, le)))
        by_past false t f = inl (h.0, put_others base n q value times m p f ∙ (ap (λ c. cond c None (value_of base m p)) t ∙ h.1))

  abbrev IsTimeHere : ℕ → ℕ → Type 0
  IsTimeHere m d = (d ≡ 0) ⊎ (HasWritten requests key m d × (d ≤ b))

  time_of : (row : K2vRow) → IsGood H requests key b row → (m t : ℕ) → IsTimeOf row m t → IsTimeHere m t
  time_of row g m t (inl is) = subst (IsTimeHere m) (sym is) (g.discards m)
  time_of row g m t (inr h) = let w = g.values m t h.0 h.1 in inr (w.0, w.2)

  time_here : (times : TimeMap) → IsToken H requests key mine.token b times → (m : ℕ) → IsTimeHere m (time_at times m)
  time_here times (IsToken.nothing other none) m = inl (none m)
  time_here times (IsToken.of_row row then read g) m = time_of row g m (time_at (token_in row) m) (token_time row m)

  -- what this write replaces
  replaces : (row : K2vRow) (then : ℕ) → HasRead requests mine.token key (Some row) then → (m p : ℕ) → Shows (Some row) m p → IsReplaced requests key m p b
  replaces row then read m p h = record { by = q; at = n; write = mine; in_time = low; given = Some row; then = then; was_read = read; shows = h }

  covered_in : NoClash H → (row : K2vRow) (then : ℕ) → HasRead requests mine.token key (Some row) then → IsGood H requests key b row → (m p t : ℕ) → p ≤ t → IsTimeOf row m t → (w : IsWrite requests p key m) → IsLive w → IsReplaced requests key m p b
  covered_in clear row then read g m p t le (inl is) w live = g.covered clear m p (subst (λ k. p ≤ k) is le) w live
  covered_in clear row then read g m p t le (inr h) w live =
      elim (nat_le t p) as (λ c. nat_le t p ≡ c → IsReplaced requests key m p b) [
        | true ↦ λ e. let back = leb-true t p e in let same : p ≡ t = omega (arith, le, back) in replaces row then read m p (h.0, ap (value_of row m) same ∙ h.1)
        | false ↦ λ e. let lt = leb-false t p e in elim (g.whole clear m t p h.0 h.1 (omega (arith, lt)) w live) [
          | inl known ↦ replaces row then read m p known
          | inr past ↦ g.covered clear m p past w live
        ]
      ] refl

  covered_here : NoClash H → (times : TimeMap) → IsToken H requests key mine.token b times → (m p : ℕ) → p ≤ time_at times m → (w : IsWrite requests p key m) → IsLive w → IsReplaced requests key m p b
  covered_here clear times (IsToken.nothing other none) m p le w live =
      let zero_is = none m in
      let is : p ≡ 0 = omega (arith, le, zero_is) in
      none_at_zero requests key m (subst (λ (k : ℕ). IsWrite requests k key m) is w)
  covered_here clear times (IsToken.of_row row then read g) m p le w live = covered_in clear row then read g m p (time_at (token_in row) m) le (token_time row m) w live

  -- this write
  mine_at : (m t : ℕ) → m ≡ n → t ≡ q → HasWritten requests key m t
  mine_at m t here now = record {
    write = record { one = mine.one; is_there = ap (numbered requests) now ∙ mine.is_there; key_is = mine.key_is; node_is = mine.node_is ∙ sym here; value = mine.value; token = mine.token; writes = mine.writes };
    has_stored = is_storing;
  }

  pub put_good : IsGood H requests key b new
  unfolding mine_at
  put_good = record {
    proper = good.proper;
    key_is = good.key_is;
    values = λ m t v h. elim (value_cases m t v h) [
      | inl is ↦ (mine_at m t is.0 is.1, value_is ∙ sym is.2, (let e = is.1 in let l = low in omega (arith, e, l)))
      | inr old ↦ good.values m t v old
    ];
    discards = λ m. elim (max_is (discard_at base m) (time_at times m)) [
      | inl is ↦ subst (IsTimeHere m) (sym (discard_is m ∙ is)) (good.discards m)
      | inr is ↦ subst (IsTimeHere m) (sym (discard_is m ∙ is)) (time_here times seen m)
    ];
    whole = λ clear m t p v h lt w live. knows_still m p (elim (value_cases m t v h) [
      | inl is ↦
          let here : IsWrite requests p key n = subst (IsWrite requests p key) is.0 w in
          let same : here.one ≡ w.one = one_entry requests p here.one w.one here.is_there w.is_there in
          subst (λ k. Knows base k p) (sym is.0) (earlier clear p (let e = is.1 in omega (arith, lt, e)) here (λ e. live (ap (λ (a : ItemRequest). a.stage) (sym same) ∙ e)))
      | inr old ↦ good.whole clear m t p v old lt w live
    ]);
    covered = λ clear m p le w live. elim (max_is (discard_at base m) (time_at times m)) [
      | inl is ↦ good.covered clear m p (subst (λ k. p ≤ k) (discard_is m ∙ is) le) w live
      | inr is ↦ covered_here clear times seen m p (subst (λ k. p ≤ k) (discard_is m ∙ is) le) w live
    ];
  }
