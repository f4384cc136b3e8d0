-- The roles of nodes, one by one.
use Rattle.std.proofs.Common.{◌≡◌, ◌≢◌, ℕ, ◌+◌, ◌<◌, ◌≤◌, min, ℤ, pos, negsuc, Bool, true, false, not, nat_lt, nat_le, List, [], ◌∷◌, Option, Some, None, Result, Ok, Err, option_and_then, length, drop, get_or, codes, refl, sym, ap, ◌∙◌, subst, arith, inl, inr, leb-true}
use Rattle.std.specs.List.{list_all}
use Rattle.std.proofs.lemmas.Bool.{cases_Bool, and_parts}
use Rattle.std.proofs.lemmas.Bool.Decides.{nat_tests}
use Rattle.std.proofs.lemmas.List.{drop_more}
use Rattle.toml.specs.Data.{Data, Members, get_member, as_table, as_integer}
use Rattle.toml.specs.View.{view, items_view}
use Rattle.toml.specs.declared.value.Value.{Value}
use Rattle.layout_roles.specs.declared.role.Role.{Role}
use Rattle.layout_roles.specs.declared.role.Kind.{Kind}
use Rattle.layout_roles.specs.Zones.{ascend_from, is_numbered}
use Rattle.layout_text.specs.declared.config.FieldName.{FieldName}
use Rattle.layout_text.specs.declared.config.FieldName.TheVariants as field
use Rattle.layout_text.specs.declared.config.ConfigFault.{ConfigFault}
use Rattle.layout_text.specs.declared.config.ConfigFault.TheVariants.{NotToml, Field, Memory}
use Rattle.layout_roles.specs.Names.{is_between}
use Rattle.layout_text.specs.Values.{keep_if, between, number_in, tables_of, is_taken, id_in, zone_in, kind_in}
use Rattle.layout_text.specs.Settings.{◌>>=◌, needed, put_role, role_in, roles_in, faulted, IsFaultOf}
use Rattle.layout_text.proofs.Tables.{both}

-- a role that may come after others: a node from 1 to 64 that none of them is
pub record IsNew (before : List Role) (role : Role) : Type 0 where
  pub low : 1 ≤ role.node
  pub high : role.node ≤ 64
  pub free : is_taken before role.node ≡ false

kept : {A : Type 0} (b : Bool) (x y : A) → keep_if b x ≡ Some y → (b ≡ true) × (x ≡ y)
kept true x y h = (refl, cc)
kept false x y h = cc

number_between : (low high : ℕ) (z : ℤ) (n : ℕ) → between low high z ≡ Some n → (low ≤ n) × (n ≤ high)
number_between low high (pos m) n h =
    let k = kept (is_between low high m) m n h in
    let parts = and_parts (nat_le low m) (nat_le m high) k.0 in
    let from : low ≤ m = leb-true low m parts.0 in
    let upto : m ≤ high = leb-true m high parts.1 in
    (omega (arith, k.1), omega (arith, k.1))
number_between low high (negsuc m) n h = cc

number_found : (low high : ℕ) (found : Option ℤ) (n : ℕ) → option_and_then (between low high) found ≡ Some n → (low ≤ n) × (n ≤ high)
number_found low high None n h = cc
number_found low high (Some z) n h = number_between low high z n h

value_found : (low high : ℕ) (found : Option Data) (n : ℕ) → option_and_then (number_in low high) found ≡ Some n → (low ≤ n) × (n ≤ high)
value_found low high None n h = cc
value_found low high (Some value) n h = number_found low high (as_integer value) n h

free_found : (before : List Role) (found : Option ℕ) (n : ℕ) → option_and_then (λ id. keep_if (not (is_taken before id)) id) found ≡ Some n → (found ≡ Some n) × (is_taken before n ≡ false)
free_found before None n h = cc
free_found before (Some m) n h =
    let k = kept (not (is_taken before m)) m n h in
    let free : is_taken before m ≡ false = elim (cases_Bool (is_taken before m)) [ inl taken ↦ cc | inr not_taken ↦ not_taken ] in
    (ap Some k.1, subst (λ i. is_taken before i ≡ false) k.1 free)

id_found : (greatest : ℕ) (before : List Role) (node : Members) (n : ℕ) → id_in greatest before node ≡ Some n → (1 ≤ n) × (n ≤ 64) × (is_taken before n ≡ false)
id_found greatest before node n h =
    let parts = free_found before (option_and_then (number_in 1 (min greatest 64)) (get_member (codes "id") node)) n h in
    let range = value_found 1 (min greatest 64) (get_member (codes "id") node) n parts.0 in
    (range.0, omega (arith, range.1), parts.1)

abbrev made : ℕ → List ℕ → Kind → Role
made i z k = record { node = i; zone = record { 0 = z }; kind = k }

role_made : (before : List Role) (id : Option ℕ) (zone : Option (List ℕ)) (kind : Option Kind) (role : Role) → ((n : ℕ) → id ≡ Some n → (1 ≤ n) × (n ≤ 64) × (is_taken before n ≡ false)) →
    (needed field.Id id >>= (λ i. needed field.Zone zone >>= (λ z. needed field.Capacity kind >>= (λ k. Ok (made i z k))))) ≡ Ok role → IsNew before role
role_made before None z k role fine h = cc
role_made before (Some i) None k role fine h = cc
role_made before (Some i) (Some z) None role fine h = cc
role_made before (Some i) (Some z) (Some k) role fine h =
    let is : made i z k ≡ role = cc in
    let same : i ≡ role.node = ap (λ (r : Role). r.node) is in
    let f = fine i refl in
    record { low = omega (arith, f.0, same); high = omega (arith, f.1, same); free = subst (λ n. is_taken before n ≡ false) same f.2 }

pub role_is_new : (greatest : ℕ) (before : List Role) (node : Members) (role : Role) → role_in greatest before node ≡ Ok role → IsNew before role
unfolding role_in
role_is_new greatest before node role h = role_made before (id_in greatest before node) (zone_in node) (kind_in node) role (id_found greatest before node) h

-- a new role keeps the order
not_first : (first : Role) (roles : List Role) (n : ℕ) → is_taken (first ∷ roles) n ≡ false → (first.node ≢ n) × (is_taken roles n ≡ false)
not_first first roles n h = grind (arith, nat_tests)

pub ascend_put : (b : ℕ) (roles : List Role) (role : Role) → ascend_from b roles ≡ true → b < role.node → is_taken roles role.node ≡ false → ascend_from b (put_role roles role) ≡ true
ascend_put b [] role up above free = grind (arith, nat_tests)
ascend_put b (first ∷ roles) role up above free =
    let parts = and_parts (nat_lt b first.node) (ascend_from first.node roles) up in
    let other = not_first first roles role.node free in
    elim (cases_Bool (nat_lt role.node first.node)) [
      | inl less ↦ rw less (grind (arith, nat_tests))
      | inr more ↦ rw more (grind (arith, nat_tests, ascend_put first.node roles role parts.1))
    ]

pub numbered_put : (roles : List Role) (role : Role) → list_all is_numbered roles ≡ true → role.node ≤ 64 → list_all is_numbered (put_role roles role) ≡ true
numbered_put [] role all high = grind (arith, nat_tests)
numbered_put (first ∷ roles) role all high =
    let parts = and_parts (is_numbered first) (list_all is_numbered roles) all in
    elim (cases_Bool (nat_lt role.node first.node)) [
      | inl less ↦ rw less (grind (arith, nat_tests))
      | inr more ↦ rw (more, parts.0) (numbered_put roles role parts.1 high)
    ]

-- a fault of the first of two readings is one of both
pub fault_first : {A B : Type 0} (reading : Result A FieldName) (next : A → Result B FieldName) (fault : ConfigFault) → IsFaultOf (faulted reading) fault → IsFaultOf (faulted (reading >>= next)) fault
fault_first (Ok x) next NotToml h = cc
fault_first (Ok x) next (Field name) h = cc
fault_first (Ok x) next Memory h = tt
fault_first (Err e) next NotToml h = cc
fault_first (Err e) next (Field name) h = let same : e ≡ name = cc in ap (λ f. Err (Field f)) same
fault_first (Err e) next Memory h = tt

pub faulted_ok : {A : Type 0} (reading : Result A FieldName) (x : A) → faulted reading ≡ Ok x → reading ≡ Ok x
faulted_ok (Ok y) x h = let same : y ≡ x = cc in ap Ok same
faulted_ok (Err e) x h = cc

-- the next of the values of the nodes
module _ (values : List Value) (i : ℕ) (value : Value) (node : Members) (inside : i < length values) (is : value ≡ get_or values i value) (table : as_table (view value) ≡ Some node) where
  pub next_node : (rest : List Members) → tables_of (items_view (drop i values)) ≡ Some rest → (later : List Members) × (rest ≡ node ∷ later) × (tables_of (items_view (drop (i + 1) values)) ≡ Some later)
  next_node rest h =
      let here : drop i values ≡ value ∷ drop (i + 1) values = drop_more values i value inside ∙ ap (λ (v : Value). v ∷ drop (i + 1) values) (sym is) in
      let found = both (as_table (view value)) (tables_of (items_view (drop (i + 1) values))) rest (subst (λ (vs : List Value). tables_of (items_view vs) ≡ Some rest) here h) in
      let same : found.0 ≡ node = cc in
      (found.1, found.4 ∙ ap (λ (t : Members). t ∷ found.1) same, found.3)

  module _ (greatest : ℕ) (before : List Role) (tables rest : List Members) (left : tables_of (items_view (drop i values)) ≡ Some rest) (same : roles_in greatest [] tables ≡ roles_in greatest before rest) where
    here : (later : List Members) → rest ≡ node ∷ later → roles_in greatest [] tables ≡ role_in greatest before node >>= (λ role. roles_in greatest (put_role before role) later)
    here later split = same ∙ ap (roles_in greatest before) split

    pub fault_here : (fault : ConfigFault) → IsFaultOf (faulted (role_in greatest before node)) fault → IsFaultOf (faulted (roles_in greatest [] tables)) fault
    fault_here fault h =
        let next = next_node rest left in
        subst (λ (r : Result (List Role) FieldName). IsFaultOf (faulted r) fault) (sym (here next.0 next.1))
        (fault_first (role_in greatest before node) (λ role. roles_in greatest (put_role before role) next.0) fault h)

    pub role_here : (role : Role) → faulted (role_in greatest before node) ≡ Ok role →
        (later : List Members) × (tables_of (items_view (drop (i + 1) values)) ≡ Some later) × (roles_in greatest [] tables ≡ roles_in greatest (put_role before role) later)
    role_here role h =
        let next = next_node rest left in
        (next.0, next.2, here next.0 next.1 ∙ ap (λ (r : Result Role FieldName). r >>= (λ role. roles_in greatest (put_role before role) next.0)) (faulted_ok (role_in greatest before node) role h))
