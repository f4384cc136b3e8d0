-- What rows say, node by node, after a merge and after a write.
use Rattle.std.proofs.Common.{◌≡◌, ℕ, suc, ◌<◌, ◌≤◌, Bool, true, false, cond, List, [], ◌∷◌, Option, Some, None, option_map, refl, ap, sym, ◌∙◌, arith}
use Rattle.std.specs.Prelude.{max, nat_le, nat_lt, ◌&&◌, ◌||◌, ◌==◌}
use Rattle.std.specs.declared.cmp.Ordering.{Ordering}
use Rattle.std.specs.declared.cmp.Ordering.TheVariants.{Less, Equal, Greater}
use Rattle.std.specs.Ordering.{nat_cmp, is_lt}
use Rattle.std.specs.List.{list_all}
use Rattle.std.specs.Cmp.{nat_cmp_total, tied_itself}
use Rattle.std.proofs.lemmas.Cmp.{ranked, by_ranked}
use Rattle.std.proofs.lemmas.Bool.{ltb-true, lt-ltb, le-leb, lt-leb}
use borrow.Author.Tests.{eq-eqb}
use Rattle.crdt_core.specs.declared.max.Max.{Max}
use Rattle.crdt_core.specs.Entries.{is_below, is_ascending, value_at}
use Rattle.crdt_core.specs.EntryLaws.{and_parts, less_is}
use Rattle.crdt_core.specs.Lex.{by_order, larger}
use Rattle.crdt_core.specs.Order.{option_join}
use Rattle.crdt_core.specs.OrderLaws.{option_join-none}
use Rattle.crdt_core.specs.Max.{max_join}
use Rattle.crdt_core.specs.IdentityLaws.{nat_identical}
use Rattle.crdt_core.specs.Map.{map_entries, map_get, map_single}
use Rattle.crdt_core.specs.MapLaws.{map_get-join}
use Rattle.k2v_rows.specs.declared.value.K2vValue.{K2vValue}
use Rattle.k2v_rows.specs.declared.writes.Writes.{Writes}
use Rattle.k2v_rows.specs.declared.k2v_row.K2vRow.{K2vRow}
use Rattle.k2v_rows.specs.Later.{are_later}
use Rattle.k2v_rows.specs.Value.{value_cmp}
use Rattle.k2v_rows.specs.Writes.{writes_of, writes_join}
use Rattle.k2v_rows.specs.WritesLaws.{is_past, past_joined, none_past, join-discard, join-get}
use Rattle.k2v_rows.specs.Token.{WritesMap, TimeMap, entries_join, discarded, raised}
use Rattle.k2v_rows.specs.Row.{item_key, item_cmp, row_join, discard_in, value_in, time_in, discard_at, value_of, time_at, written, can_put, after_put}
use Rattle.k2v_rows.specs.RowLaws.{item_total}

larger_max : (a b : ℕ) → larger nat_cmp a b ≡ max a b
larger_max a b =
    by_ranked _ _ _ (nat_cmp a b) (ranked a b (nat_cmp a b) refl)
    (λ e l. ap (λ r. by_order r b a a) e ∙ omega (arith, l))
    (λ e l. ap (λ r. by_order r b a a) e ∙ omega (arith, l))
    (λ e l. ap (λ r. by_order r b a a) e ∙ omega (arith, l))

past_le_is : (d t : ℕ) → is_past d t ≡ nat_le t d
past_le_is d t =
    by_ranked _ _ _ (nat_cmp t (suc d)) (ranked t (suc d) (nat_cmp t (suc d)) refl)
    (λ e l. ap is_lt e ∙ sym (le-leb t d (omega (arith, l))))
    (λ e l. ap is_lt e ∙ sym (lt-leb t d (omega (arith, l))))
    (λ e l. ap is_lt e ∙ sym (lt-leb t d (omega (arith, l))))

-- t is at most either
either_past : (a b t : ℕ) → (is_past a t || is_past b t) ≡ nat_le t (max a b)
either_past a b t = sym (past_joined a b t) ∙ (past_le_is (larger nat_cmp a b) t ∙ ap (nat_le t) (larger_max a b))

-- ---- the writes of one node, where there are any

none_kept : (w : Writes) (t : ℕ) (b : Bool) → nat_le t w.discard.0 ≡ b → value_in t (Some w) ≡ cond b None (value_in t (Some w))
none_kept w t true e = ap (option_map (λ v. v.0)) (none_past w.discard.0 t (map_entries w.values) w.kept (past_le_is w.discard.0 t ∙ e))
none_kept w t false e = refl

-- a value that stands is later than its discard time
pub value_kept : (x : Option Writes) (t : ℕ) → value_in t x ≡ cond (nat_le t (discard_in x)) None (value_in t x)
value_kept None t = same_none (nat_le t 0) where
  same_none : (b : Bool) → ◌≡◌ {A = Option K2vValue} None (cond b None None)
  same_none true = refl
  same_none false = refl
value_kept (Some w) t = none_kept w t (nat_le t w.discard.0) refl

pub value_past : (x : Option Writes) (t : ℕ) → t ≤ discard_in x → value_in t x ≡ None
value_past x t le = value_kept x t ∙ ap (λ b. cond b None (value_in t x)) (le-leb t (discard_in x) le)

pub discard_joined : (x y : Option Writes) → discard_in (option_join writes_join x y) ≡ max (discard_in x) (discard_in y)
discard_joined None None = omega arith
discard_joined None (Some w) = omega arith
discard_joined (Some v) None = omega arith
discard_joined (Some v) (Some w) = ap (λ d. d.0) (join-discard v w) ∙ larger_max v.discard.0 w.discard.0

inner : (x y : Option (Max K2vValue)) → option_map (λ v. v.0) (option_join (max_join value_cmp) x y) ≡ option_join (larger value_cmp) (option_map (λ v. v.0) x) (option_map (λ v. v.0) y)
inner None y = refl
inner (Some x) None = refl
inner (Some x) (Some y) = refl

inner_cond : (b : Bool) (x y : Option (Max K2vValue)) → option_map (λ v. v.0) (cond b None (option_join (max_join value_cmp) x y)) ≡ cond b None (option_join (larger value_cmp) (option_map (λ v. v.0) x) (option_map (λ v. v.0) y))
inner_cond true x y = refl
inner_cond false x y = inner x y

pub value_joined : (x y : Option Writes) (t : ℕ) → value_in t (option_join writes_join x y) ≡ cond (nat_le t (max (discard_in x) (discard_in y))) None (option_join (larger value_cmp) (value_in t x) (value_in t y))
value_joined None y t =
    let same : max 0 (discard_in y) ≡ discard_in y = omega arith in
    value_kept y t ∙ ap (λ d. cond (nat_le t d) None (value_in t y)) (sym same)
value_joined (Some v) None t =
    let same : max v.discard.0 0 ≡ v.discard.0 = omega arith in
    value_kept (Some v) t ∙ (λ i. cond (nat_le t (sym same i)) None (sym (option_join-none (larger value_cmp) (value_in t (Some v))) i))
value_joined (Some v) (Some w) t =
    ap (option_map (λ e. e.0)) (join-get v w t)
    ∙ (inner_cond (is_past v.discard.0 t || is_past w.discard.0 t) (map_get v.values t) (map_get w.values t)
    ∙ ap (λ b. cond b None (option_join (larger value_cmp) (value_in t (Some v)) (value_in t (Some w)))) (either_past v.discard.0 w.discard.0 t))

-- ---- rows of one item

module _ (a b : K2vRow) (e : item_key a ≡ item_key b) where
  tied : item_cmp (item_key a) (item_key b) ≡ Equal
  tied = ap (item_cmp (item_key a)) (sym e) ∙ tied_itself item_total (item_key a)

  joined_is : row_join a b ≡ record a { entries = entries_join a.entries b.entries }
  joined_is = rw tied refl

  pub joined_key : item_key (row_join a b) ≡ item_key a
  joined_key = ap item_key joined_is

  at_node : (node : ℕ) → map_get (row_join a b).entries node ≡ option_join writes_join (map_get a.entries node) (map_get b.entries node)
  at_node node = ap (λ (r : K2vRow). map_get r.entries node) joined_is ∙ map_get-join nat_cmp_total writes_join a.entries b.entries node

  pub joined_discard_at : (node : ℕ) → discard_at (row_join a b) node ≡ max (discard_at a node) (discard_at b node)
  joined_discard_at node = ap discard_in (at_node node) ∙ discard_joined (map_get a.entries node) (map_get b.entries node)

  pub joined_value_of : (node time : ℕ) → value_of (row_join a b) node time ≡ cond (nat_le time (max (discard_at a node) (discard_at b node))) None (option_join (larger value_cmp) (value_of a node time) (value_of b node time))
  joined_value_of node time = ap (value_in time) (at_node node) ∙ value_joined (map_get a.entries node) (map_get b.entries node) time

pub greater_stays : (a b : K2vRow) → item_cmp (item_key a) (item_key b) ≡ Less → row_join a b ≡ b
greater_stays a b e = rw e refl

-- ---- writes

-- what a token discards of a node
abbrev discards_in : Option (Max ℕ) → Option Writes
discards_in t = option_map discarded t

next_above : (k : ℕ) (t : ℕ × Max ℕ) (ts : List (ℕ × Max ℕ)) (r : Ordering) → nat_cmp k t.0 ≡ r → is_lt r ≡ true → is_ascending nat_cmp (t ∷ ts) ≡ true → value_at nat_cmp k ts ≡ None
next_above k t [] r e l s = refl
next_above k t (u ∷ us) r e l s =
    let below = less_is (nat_cmp t.0 u.0) (and_parts (is_below nat_cmp t.0 (u ∷ us)) (is_ascending nat_cmp (u ∷ us)) s).0 in
    rw (nat_cmp_total.trans k t.0 u.0 (e ∙ less_is r l) below) refl

next_same : (k : ℕ) (t : ℕ × Max ℕ) (ts : List (ℕ × Max ℕ)) → nat_cmp k t.0 ≡ Equal → is_ascending nat_cmp (t ∷ ts) ≡ true → value_at nat_cmp k ts ≡ None
next_same k t [] e s = refl
next_same k t (u ∷ us) e s =
    let below = less_is (nat_cmp t.0 u.0) (and_parts (is_below nat_cmp t.0 (u ∷ us)) (is_ascending nat_cmp (u ∷ us)) s).0 in
    rw (nat_cmp_total.congr k t.0 u.0 e ∙ below) refl

one_raised : (k : ℕ) (t : ℕ × Max ℕ) (ts : List (ℕ × Max ℕ)) (x : Option Writes) (r : Ordering) → nat_cmp k t.0 ≡ r → is_ascending nat_cmp (t ∷ ts) ≡ true
    → option_join writes_join (option_join writes_join x (by_order r None (Some (discarded t.1)) None)) (discards_in (value_at nat_cmp k ts)) ≡ option_join writes_join x (discards_in (by_order r None (Some t.1) (value_at nat_cmp k ts)))
one_raised k t ts x Less e s =
    ap (λ v. option_join writes_join (option_join writes_join x None) (discards_in v)) (next_above k t ts Less e refl s) ∙ option_join-none writes_join (option_join writes_join x None)
one_raised k t ts x Equal e s =
    ap (λ v. option_join writes_join (option_join writes_join x (Some (discarded t.1))) (discards_in v)) (next_same k t ts e s) ∙ option_join-none writes_join (option_join writes_join x (Some (discarded t.1)))
one_raised k t ts x Greater e s = ap (λ v. option_join writes_join v (discards_in (value_at nat_cmp k ts))) (option_join-none writes_join x)

raised_get : (m : WritesMap) (ts : List (ℕ × Max ℕ)) (k : ℕ) → is_ascending nat_cmp ts ≡ true → map_get (raised m ts) k ≡ option_join writes_join (map_get m k) (discards_in (value_at nat_cmp k ts))
raised_get m [] k s = sym (option_join-none writes_join (map_get m k))
raised_get m (t ∷ ts) k s =
    raised_get (entries_join m (map_single t.0 (discarded t.1))) ts k (and_parts (is_below nat_cmp t.0 ts) (is_ascending nat_cmp ts) s).1
    ∙ (ap (λ v. option_join writes_join v (discards_in (value_at nat_cmp k ts))) (map_get-join nat_cmp_total writes_join m (map_single t.0 (discarded t.1)) k)
    ∙ one_raised k t ts (map_get m k) (nat_cmp k t.0) refl s)

-- a discard time has no values
discards_none : (x : Option (Max ℕ)) (t : ℕ) → value_in t (discards_in x) ≡ None
discards_none None t = refl
discards_none (Some d) t = refl

discards_time : (x : Option (Max ℕ)) → discard_in (discards_in x) ≡ time_in x
discards_time None = refl
discards_time (Some d) = refl

-- one value has no discard time
written_zero : (time : ℕ) (value : K2vValue) → (written time value).discard.0 ≡ 0
written_zero time value = zero_by (are_later {V = Max K2vValue} 0 ((time, record { 0 = value }) ∷ [])) refl where
  zero_by : (s : Bool) (h : are_later {V = Max K2vValue} 0 ((time, record { 0 = value }) ∷ []) ≡ s) → (writes_of (record { 0 = 0 }) (map_single time (record { 0 = value })) s h (discarded (record { 0 = 0 }))).discard.0 ≡ 0
  zero_by true h = refl
  zero_by false h = refl

single_zero : (time : ℕ) (value : K2vValue) (r : Ordering) → discard_in (by_order r None (Some (written time value)) None) ≡ 0
single_zero time value Less = refl
single_zero time value Equal = written_zero time value
single_zero time value Greater = refl

module _ (r : K2vRow) (node time : ℕ) (value : K2vValue) (token : TimeMap) (at : ℕ) where
  -- the writes of a node without what the token discards, and the new write where it is of this node
  abbrev before : Option Writes
  before = option_join writes_join (map_get r.entries at) (discards_in (map_get token at))

  abbrev new : Option Writes
  new = by_order (nat_cmp at node) None (Some (written time value)) None

  put_at : map_get (after_put r node time value token).entries at ≡ option_join writes_join before new
  put_at =
      map_get-join nat_cmp_total writes_join (raised r.entries (map_entries token)) (map_single node (written time value)) at
      ∙ ap (λ v. option_join writes_join v new) (raised_get r.entries (map_entries token) at token.ascending)

  before_time : discard_in before ≡ max (discard_at r at) (time_at token at)
  before_time = discard_joined (map_get r.entries at) (discards_in (map_get token at)) ∙ ap (max (discard_at r at)) (discards_time (map_get token at))

  pub put_discard_at : discard_at (after_put r node time value token) at ≡ max (discard_at r at) (time_at token at)
  put_discard_at =
      let last : max (discard_in before) 0 ≡ discard_in before = omega arith in
      ap discard_in put_at ∙ (discard_joined before new ∙ (ap (max (discard_in before)) (single_zero time value (nat_cmp at node)) ∙ (last ∙ before_time)))

  cond_or : (p q : Bool) (v : Option K2vValue) → v ≡ cond p None v → cond (p || q) None v ≡ cond q None v
  cond_or true true v h = refl
  cond_or true false v h = sym h
  cond_or false q v h = refl

  le_max : (t a b : ℕ) → nat_le t (max a b) ≡ (nat_le t a || nat_le t b)
  le_max t a b = sym (either_past a b t) ∙ (λ i. past_le_is a t i || past_le_is b t i)

  before_value : (t : ℕ) → value_in t before ≡ cond (nat_le t (time_at token at)) None (value_of r at t)
  before_value t =
      let x = map_get r.entries at in
      let d = discards_in (map_get token at) in
      value_joined x d t
      ∙ ((λ i. cond (nat_le t (max (discard_in x) (discards_time (map_get token at) i))) None (option_join (larger value_cmp) (value_in t x) (discards_none (map_get token at) t i)))
      ∙ ((λ i. cond (le_max t (discard_in x) (time_at token at) i) None (option_join-none (larger value_cmp) (value_in t x) i))
      ∙ cond_or (nat_le t (discard_in x)) (nat_le t (time_at token at)) (value_in t x) (value_kept x t)))

  -- where the new write says nothing, what was before stays
  nothing_new : (t : ℕ) → value_in t new ≡ None → value_in t (option_join writes_join before new) ≡ value_in t before
  nothing_new t none =
      let last : max (discard_in before) 0 ≡ discard_in before = omega arith in
      value_joined before new t
      ∙ ((λ i. cond (nat_le t (max (discard_in before) (single_zero time value (nat_cmp at node) i))) None (option_join (larger value_cmp) (value_in t before) (none i)))
      ∙ ((λ i. cond (nat_le t (last i)) None (option_join-none (larger value_cmp) (value_in t before) i)) ∙ sym (value_kept before t)))

  written_apart : (t : ℕ) (o : Ordering) → nat_cmp t time ≡ o → (t == time) ≡ false → value_in t (Some (written time value)) ≡ None
  written_apart t o e apart = by_test (are_later {V = Max K2vValue} 0 ((time, record { 0 = value }) ∷ [])) refl o e where
    by_test : (s : Bool) (h : are_later {V = Max K2vValue} 0 ((time, record { 0 = value }) ∷ []) ≡ s) (o : Ordering) → nat_cmp t time ≡ o → value_in t (Some (writes_of (record { 0 = 0 }) (map_single time (record { 0 = value })) s h (discarded (record { 0 = 0 })))) ≡ None
    by_test true h Less p = rw p refl
    by_test true h Equal p = let no : true ≡ false = sym (eq-eqb t time (nat_identical t time p)) ∙ apart in cc
    by_test true h Greater p = rw p refl
    by_test false h o p = refl

  new_apart : (t : ℕ) (o : Ordering) → nat_cmp at node ≡ o → ((at == node) && (t == time)) ≡ false → value_in t (by_order o None (Some (written time value)) None) ≡ None
  new_apart t Less e apart = refl
  new_apart t Equal e apart =
      let here : (at == node) ≡ true = eq-eqb at node (nat_identical at node e) in
      written_apart t (nat_cmp t time) refl (ap (λ b. b && (t == time)) (sym here) ∙ apart)
  new_apart t Greater e apart = refl

  pub put_others : (t : ℕ) → ((at == node) && (t == time)) ≡ false → value_of (after_put r node time value token) at t ≡ cond (nat_le t (time_at token at)) None (value_of r at t)
  put_others t apart = ap (value_in t) put_at ∙ (nothing_new t (new_apart t (nat_cmp at node) refl apart) ∙ before_value t)

all_before : (time k : ℕ) (ts : List (ℕ × Max ℕ)) → 0 < time → list_all (λ s. nat_lt s.1.0 time) ts ≡ true → time_in (value_at nat_cmp k ts) < time
all_before time k [] some h = some
all_before time k (t ∷ ts) some h =
    let parts = and_parts (nat_lt t.1.0 time) (list_all (λ s. nat_lt s.1.0 time) ts) h in
    by_each (nat_cmp k t.0) (ltb-true t.1.0 time parts.0) (all_before time k ts some parts.1) where
      by_each : (o : Ordering) → t.1.0 < time → time_in (value_at nat_cmp k ts) < time → time_in (by_order o None (Some t.1) (value_at nat_cmp k ts)) < time
      by_each Less here rest = some
      by_each Equal here rest = here
      by_each Greater here rest = rest

module _ (r : K2vRow) (node time : ℕ) (value : K2vValue) (token : TimeMap) (can : can_put r node time token ≡ true) where
  parts : (nat_lt (discard_at r node) time ≡ true) × (list_all (λ s. nat_lt s.1.0 time) (map_entries token) ≡ true)
  parts = and_parts _ _ can

  above_discard : discard_at r node < time
  above_discard = ltb-true (discard_at r node) time parts.0

  above_token : time_at token node < time
  above_token = let lt = above_discard in all_before time node (map_entries token) (omega (arith, lt)) parts.1

  value_written : value_in time (Some (written time value)) ≡ Some value
  value_written = let lt = above_discard in by_test (are_later {V = Max K2vValue} 0 ((time, record { 0 = value }) ∷ [])) refl (lt-ltb 0 time (omega (arith, lt))) where
    by_test : (s : Bool) (h : are_later {V = Max K2vValue} 0 ((time, record { 0 = value }) ∷ []) ≡ s) → nat_lt 0 time ≡ true → value_in time (Some (writes_of (record { 0 = 0 }) (map_single time (record { 0 = value })) s h (discarded (record { 0 = 0 })))) ≡ Some value
    by_test true h p = rw (tied_itself nat_cmp_total time) refl
    by_test false h p = let no : true ≡ false = ap (λ b. b && true) (sym p) ∙ h in cc

  pub put_stands : value_of (after_put r node time value token) node time ≡ option_join (larger value_cmp) (value_of r node time) (Some value)
  put_stands =
      let b = before r node time value token node in
      let one : new r node time value token node ≡ Some (written time value) = rw (tied_itself nat_cmp_total node) refl in
      let d = above_discard in
      let t = above_token in
      let dated : discard_in b < time = rw (before_time r node time value token node) (omega (arith, d, t)) in
      let later : nat_le time (max (discard_in b) 0) ≡ false = lt-leb time (max (discard_in b) 0) (omega (arith, dated, d)) in
      let kept : value_in time b ≡ value_of r node time =
      before_value r node time value token node time ∙ ap (λ c. cond c None (value_of r node time)) (lt-leb time (time_at token node) t) in
      ap (value_in time) (put_at r node time value token node ∙ ap (option_join writes_join b) one)
      ∙ (value_joined b (Some (written time value)) time
      ∙ ((λ i. cond (nat_le time (max (discard_in b) (written_zero time value i))) None (option_join (larger value_cmp) (kept i) (value_written i)))
      ∙ ap (λ c. cond c None (option_join (larger value_cmp) (value_of r node time) (Some value))) later))
