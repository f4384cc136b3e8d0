-- A walk after an answer: other walks are as they were, what is open was open or is asked now, and what is noted is of rows.
use Rattle.std.specs.Prelude.{◌≡◌, ◌⊎◌, ℕ, nat_eq, true, false, not, cond, ◌==◌, ◌&&◌, Option, Some, None, List, [], ◌∷◌, ◌++◌, map, refl, ⊤}
use Rattle.std.specs.Option.{unwrap_or}
use Rattle.std.specs.List.{AllByRecursion, filter, starts_with}
use Rattle.std.specs.Cmp.Lexicographic.{pointwise}
use Rattle.std.proofs.Common.{ap, sym, subst, ◌∙◌, inl, inr}
use Rattle.std.proofs.lemmas.Bool.{eqb-true, eqb-false, eq-eqb, cases_Bool, or_cases, or_left, or_right, and_from, false≢true}
use Rattle.blake2_hash.specs.Blake2b.{blake2b}
use Rattle.blake2_hash.specs.declared.digest.Hash32.{Hash32}
use Rattle.crdt_core.specs.EntryLaws.{and_parts}
use Rattle.crdt_core.proofs.Each.{all_append}
use Rattle.table_schema.specs.Words.{Words}
use Rattle.table_model.specs.Root.{Pair}
use Rattle.table_model.specs.Top.{pair_of}
use Rattle.walk_model.specs.Sets.{only_at, only_key, with_prefix}
use Rattle.walk_model.specs.Walking.{Prefix, is_at, is_open, closed, note, notes_of}
use Rattle.walk_model.specs.Noting.{is_noted}
use Rattle.walk_model.specs.Account.{Noted}
use Rattle.walk_model.proofs.Prefixes.{same_is, same_from}
use Rattle.cluster_machine.specs.Node.{Walk}
use Rattle.cluster_machine.specs.Rounds.{is_walk, walk_at, without_walk, walks_after, has_ended, is_empty}
use Rattle.machine_origins.proofs.Lists.{all_any, all_found}
use Rattle.drained_laws.specs.Waiting.{SomeOf, Has as HasOne}
use Rattle.drained_laws.proofs.Waits.{some_weaker}
use Rattle.change_laws.specs.Rounds.{IsOfRow}
use Rattle.change_laws.proofs.Lists.{some_left_over, some_before_map}

-- ---- walks by partition and node

-- both numbers are those, or not
pub same_or_not : (p n q m : ℕ) → ((q ≡ p) × (m ≡ n)) ⊎ ((q ≡ p) → (m ≡ n) → ⊥)
same_or_not p n q m = elim (cases_Bool (q == p)) [
  | inl a ↦ (elim (cases_Bool (m == n)) [ inl b ↦ inl (eqb-true q p a, eqb-true m n b) | inr b ↦ inr (λ e f. eqb-false m n b f) ])
  | inr a ↦ inr (λ e f. eqb-false q p a e)
]

is_walk_parts : (p n : ℕ) (w : Walk) → is_walk p n w ≡ true → (w.state.partition ≡ p) × (w.node ≡ n)
is_walk_parts p n w e = let b = and_parts (w.state.partition == p) (w.node == n) e in (eqb-true w.state.partition p b.0, eqb-true w.node n b.1)

pub is_walk_from : (p n : ℕ) (w : Walk) → w.state.partition ≡ p → w.node ≡ n → is_walk p n w ≡ true
is_walk_from p n w e f = and_from (w.state.partition == p) (w.node == n) (eq-eqb w.state.partition p e) (eq-eqb w.node n f)

pub found_walk : (p n : ℕ) (walks : List Walk) (w : Walk) → walk_at p n walks ≡ Some w → (w.state.partition ≡ p) × (w.node ≡ n)
found_walk p n walks w e = is_walk_parts p n w (all_found (λ v. ⊤) (is_walk p n) walks w (all_any walks) e).1

none_without : (p n : ℕ) (walks : List Walk) → walk_at p n (without_walk p n walks) ≡ None
none_without p n [] = refl
none_without p n (w ∷ ws) =
    elim (is_walk p n w) as (λ b. is_walk p n w ≡ b → walk_at p n (cond (not b) (w ∷ without_walk p n ws) (without_walk p n ws)) ≡ None) [
      | true ↦ (λ e. none_without p n ws)
      | false ↦ (λ e. ap (λ b. cond b (Some w) (walk_at p n (without_walk p n ws))) e ∙ none_without p n ws)
    ] refl

-- a walk isn't another
not_walk : (p n q m : ℕ) (w : Walk) → ((q ≡ p) → (m ≡ n) → ⊥) → is_walk p n w ≡ true → is_walk q m w ≡ false
not_walk p n q m w d e = elim (cases_Bool (is_walk q m w)) [
  | inl t ↦ (let a = is_walk_parts p n w e in let b = is_walk_parts q m w t in absurd (d (sym b.0 ∙ a.0) (sym b.1 ∙ a.1)))
  | inr f ↦ f
]

other_without : (p n q m : ℕ) (walks : List Walk) → ((q ≡ p) → (m ≡ n) → ⊥) → walk_at q m (without_walk p n walks) ≡ walk_at q m walks
other_without p n q m [] d = refl
other_without p n q m (w ∷ ws) d =
    elim (is_walk p n w) as (λ b. is_walk p n w ≡ b → walk_at q m (cond (not b) (w ∷ without_walk p n ws) (without_walk p n ws)) ≡ cond (is_walk q m w) (Some w) (walk_at q m ws)) [
      | true ↦ (λ e. other_without p n q m ws d ∙ sym (ap (λ b. cond b (Some w) (walk_at q m ws)) (not_walk p n q m w d e)))
      | false ↦ (λ e. ap (λ o. cond (is_walk q m w) (Some w) o) (other_without p n q m ws d))
    ] refl

module _ (later : Walk) (walks : List Walk) where
  -- another walk is as it was
  pub after_other : (q m : ℕ) → ((q ≡ later.state.partition) → (m ≡ later.node) → ⊥) → walk_at q m (walks_after later walks) ≡ walk_at q m walks
  after_other q m d =
      elim (has_ended later) as (λ b. walk_at q m (cond b (without_walk later.state.partition later.node walks) (later ∷ without_walk later.state.partition later.node walks)) ≡ walk_at q m walks) [
        | true ↦ other_without later.state.partition later.node q m walks d
        | false ↦
            ap (λ b. cond b (Some later) (walk_at q m (without_walk later.state.partition later.node walks)))
            (not_walk later.state.partition later.node q m later d (is_walk_from later.state.partition later.node later refl refl)) ∙ other_without later.state.partition later.node q m walks d
      ]

  -- the walk itself is kept until it ends
  pub after_here : has_ended later ≡ false → walk_at later.state.partition later.node (walks_after later walks) ≡ Some later
  after_here e =
      ap (λ b. walk_at later.state.partition later.node (cond b (without_walk later.state.partition later.node walks) (later ∷ without_walk later.state.partition later.node walks))) e
      ∙ ap (λ b. cond b (Some later) (walk_at later.state.partition later.node (without_walk later.state.partition later.node walks))) (is_walk_from later.state.partition later.node later refl refl)

  after_ended : has_ended later ≡ true → walk_at later.state.partition later.node (walks_after later walks) ≡ None
  after_ended e =
      ap (λ b. walk_at later.state.partition later.node (cond b (without_walk later.state.partition later.node walks) (later ∷ without_walk later.state.partition later.node walks))) e
      ∙ none_without later.state.partition later.node walks

  -- a walk that is there then is this one, or another that was there
  pub at_after : (q m : ℕ) (u : Walk) → walk_at q m (walks_after later walks) ≡ Some u →
      ((q ≡ later.state.partition) × (m ≡ later.node) × (u ≡ later) × (has_ended later ≡ false)) ⊎ (((q ≡ later.state.partition) → (m ≡ later.node) → ⊥) × (walk_at q m walks ≡ Some u))
  at_after q m u e = elim (same_or_not later.state.partition later.node q m) [
    | inr d ↦ inr (d, sym (after_other q m d) ∙ e)
    | inl same ↦ (
        let here : walk_at later.state.partition later.node (walks_after later walks) ≡ Some u =
        subst (λ j. walk_at later.state.partition j (walks_after later walks) ≡ Some u) same.1 (subst (λ j. walk_at j m (walks_after later walks) ≡ Some u) same.0 e) in
        elim (cases_Bool (has_ended later)) [
          | inl t ↦ (let never : None ≡ Some u = sym (after_ended t) ∙ here in cc)
          | inr f ↦ inl (same.0, same.1, ap (λ o. unwrap_or o later) (sym here ∙ after_here f), f)
        ])
  ]

-- ---- open prefixes

is_at_parts : (t : ℕ) (x : List ℕ) (o : Prefix) → is_at t x o ≡ true → (o.0 ≡ t) × (o.1 ≡ x)
is_at_parts t x o e = let b = and_parts (o.0 == t) (pointwise nat_eq o.1 x) e in (eqb-true o.0 t b.0, same_is o.1 x b.1)

is_at_from : (t : ℕ) (x : List ℕ) (o : Prefix) → o.0 ≡ t → o.1 ≡ x → is_at t x o ≡ true
is_at_from t x o e f = and_from (o.0 == t) (pointwise nat_eq o.1 x) (eq-eqb o.0 t e) (same_from o.1 x f)

pub open_cases : (t : ℕ) (x : List ℕ) (os more : List Prefix) → is_open t x (os ++ more) ≡ true → (is_open t x os ≡ true) ⊎ (is_open t x more ≡ true)
open_cases t x [] more e = inr e
open_cases t x (o ∷ os) more e = elim (or_cases (is_at t x o) (is_open t x (os ++ more)) e) [
  | inl a ↦ inl (or_left (is_at t x o) (is_open t x os) a)
  | inr b ↦ (elim (open_cases t x os more b) [ inl c ↦ inl (or_right (is_at t x o) (is_open t x os) c) | inr c ↦ inr c ])
]

-- what is open after an answer was open, or was asked, and is another prefix
pub open_after : (table : ℕ) (prefix : List ℕ) (t : ℕ) (x : List ℕ) (os : List Prefix) → is_open t x (closed table prefix os) ≡ true → (is_open t x os ≡ true) × ((t ≡ table) → (x ≡ prefix) → ⊥)
open_after table prefix t x [] e = cc
open_after table prefix t x (o ∷ os) e =
    elim (is_at table prefix o) as (λ b. is_at table prefix o ≡ b → is_open t x (cond (not b) (o ∷ closed table prefix os) (closed table prefix os)) ≡ true → (is_open t x (o ∷ os) ≡ true) × ((t ≡ table) → (x ≡ prefix) → ⊥)) [
      | true ↦ (λ same g. let rest = open_after table prefix t x os g in (or_right (is_at t x o) (is_open t x os) rest.0, rest.1))
      | false ↦ (λ other g. elim (or_cases (is_at t x o) (is_open t x (closed table prefix os)) g) [
        | inl here ↦ (
            let a = is_at_parts t x o here in (
              or_left (is_at t x o) (is_open t x os) here,
              λ f h. false≢true (sym other ∙ is_at_from table prefix o (a.0 ∙ f) (a.1 ∙ h)),
            ))
        | inr more ↦ (let rest = open_after table prefix t x os more in (or_right (is_at t x o) (is_open t x os) rest.0, rest.1))
      ])
    ] refl e

pub open_asked : (table t : ℕ) (x : List ℕ) (asked : List (List ℕ)) → is_open t x (map (λ p. (table, p)) asked) ≡ true → (table ≡ t) × HasOne asked x
open_asked table t x [] e = cc
open_asked table t x (p ∷ ps) e = elim (or_cases (is_at t x (table, p)) (is_open t x (map (λ p. (table, p)) ps)) e) [
  | inl here ↦ (let a = is_at_parts t x (table, p) here in (a.0, inl a.1))
  | inr more ↦ (let rest = open_asked table t x ps more in (rest.0, inr rest.1))
]

-- a walk begins with empty prefixes
pub open_first : (t : ℕ) (x : List ℕ) (tables : List ℕ) → is_open t x (map (λ (t : ℕ). (t, [])) tables) ≡ true → ([] ≡ x) × HasOne tables t
open_first t x [] e = cc
open_first t x (u ∷ us) e = elim (or_cases (is_at t x (u, [])) (is_open t x (map (λ (t : ℕ). (t, [])) us)) e) [
  | inl here ↦ (let a = is_at_parts t x (u, []) here in (a.1, inl a.0))
  | inr more ↦ (let rest = open_first t x us more in (rest.0, inr rest.1))
]

open_one : (os : List Prefix) → is_empty os ≡ false → (o : Prefix) × (is_open o.0 o.1 os ≡ true)
open_one [] e = cc
open_one (o ∷ os) e = (o, or_left (is_at o.0 o.1 o) (is_open o.0 o.1 os) (is_at_from o.0 o.1 o refl refl))

-- a walk that goes on has an open prefix
pub has_open : (w : Walk) → has_ended w ≡ false → (o : Prefix) × (is_open o.0 o.1 w.state.prefixes ≡ true)
has_open w e = open_one w.state.prefixes e

-- ---- what is noted

only_some : (key : List ℕ) (pairs : List Pair) → only_key pairs ≡ Some key → SomeOf (λ (pair : Pair). pair.0 ≡ key) pairs
only_some key [] e = cc
only_some key (pair ∷ []) e = inl (ap (λ o. unwrap_or o pair.0) e)
only_some key (pair ∷ next ∷ pairs) e = cc

module _ {R : Type 0} (s : Words R) where
  module _ (there : List R) (table : ℕ) where
    abbrev pairs : List Pair
    pairs = map (pair_of s) (filter (λ r. s.table r == table) there)

    -- the one key at a prefix is that of a row
    one_row : (x key : List ℕ) → only_at x pairs ≡ Some key → SomeOf (λ r. (s.table r ≡ table) × (blake2b 32 (s.key r) ≡ key)) there
    one_row x key e =
        let pair = only_some key (with_prefix x pairs) e in
        let row = some_left_over (λ r. blake2b 32 (s.key r) ≡ key) (λ r. s.table r == table) there
        (some_before_map (λ (q : Pair). q.0 ≡ key) (pair_of s) (filter (λ r. s.table r == table) there)
        (some_weaker (λ (q : Pair). (q.0 ≡ key) × (starts_with nat_eq q.0 x ≡ true)) (λ (q : Pair). q.0 ≡ key) (λ q h. h.0) pairs (some_left_over (λ (q : Pair). q.0 ≡ key) (λ (q : Pair). starts_with nat_eq q.0 x) pairs pair))) in
        some_weaker (λ r. (blake2b 32 (s.key r) ≡ key) × ((s.table r == table) ≡ true)) (λ r. (s.table r ≡ table) × (blake2b 32 (s.key r) ≡ key)) (λ r h. (eqb-true (s.table r) table h.1, h.0)) there row

    note_row : (x : List ℕ) (o : Option (List ℕ)) → only_at x pairs ≡ o → AllByRecursion (IsOfRow s there) (note table o)
    note_row x None e = tt
    note_row x (Some key) e = (one_row x key e, tt)

    pub notes_rows : (prefix : List ℕ) (children : List (ℕ × List ℕ)) → AllByRecursion (IsOfRow s there) (notes_of table prefix pairs children)
    notes_rows prefix [] = tt
    notes_rows prefix (c ∷ cs) = all_append (IsOfRow s there) (note table (only_at (prefix ++ c.0 ∷ []) pairs)) (notes_of table prefix pairs cs) (note_row (prefix ++ c.0 ∷ []) (only_at (prefix ++ c.0 ∷ []) pairs) refl) (notes_rows prefix cs)

  -- a row whose key is noted is pushed
  pub noted_passes : (keys : List (ℕ × Hash32)) (r : R) → Noted keys (s.table r) (blake2b 32 (s.key r)) → is_noted s keys r ≡ true
  noted_passes [] r h = absurd h
  noted_passes (key ∷ keys) r h = elim h [
    | inl e ↦
        or_left ((key.0 == s.table r) && pointwise nat_eq key.1.0 (blake2b 32 (s.key r))) (is_noted s keys r)
        (and_from (key.0 == s.table r) (pointwise nat_eq key.1.0 (blake2b 32 (s.key r))) (eq-eqb key.0 (s.table r) (ap (λ (x : ℕ × Hash32). x.0) e)) (same_from key.1.0 (blake2b 32 (s.key r)) (ap (λ (x : ℕ × Hash32). x.1.0) e)))
    | inr more ↦ or_right ((key.0 == s.table r) && pointwise nat_eq key.1.0 (blake2b 32 (s.key r))) (is_noted s keys r) (noted_passes keys r more)
  ]

  -- where a key is noted there is a row to be pushed
  pub noted_row : (there : List R) (keys : List (ℕ × Hash32)) → AllByRecursion (IsOfRow s there) keys → is_empty keys ≡ false → SomeOf (λ r. is_noted s keys r ≡ true) there
  noted_row there [] a e = cc
  noted_row there (key ∷ keys) a e = some_weaker (λ r. (s.table r ≡ key.0) × (blake2b 32 (s.key r) ≡ key.1.0)) (λ r. is_noted s (key ∷ keys) r ≡ true) (λ r h. noted_passes (key ∷ keys) r (inl (λ i. (sym h.0 i, record { 0 = sym h.1 i })))) there a.0
