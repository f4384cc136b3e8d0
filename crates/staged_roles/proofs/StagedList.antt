-- A list of roles in which one node's role is put in, changed, or taken out.
use Rattle.std.proofs.Common.{◌≡◌, ◌<◌, ◌≤◌, ◌⊎◌, ℕ, Bool, true, false, cond, nat_lt, nat_le, nat_eq, get_or, ◌+◌, Option, Some, None, List, [], ◌∷◌, ◌++◌, filter, take, length, refl, ap, sym, subst, ◌∙◌, inl, inr, append_assoc, arith}
use Rattle.std.specs.List.{list_all}
use Rattle.std.proofs.lemmas.List.{append-nil, take_all}
use Rattle.std.proofs.lemmas.List.Elements.{filter_more}
use Rattle.std.proofs.lemmas.Bool.{and_parts, and_from, ltb-true, lt-ltb, le-ltb, le-leb, eq-eqb, ne_eqb, cond-true, cond-false, cases_order}
use Rattle.layout_roles.specs.declared.role.Role.{Role}
use Rattle.layout_roles.specs.declared.roles.Roles.{Roles}
use Rattle.layout_roles.specs.declared.role.Zone.{Zone}
use Rattle.layout_roles.specs.declared.role.Kind.{Kind}
use Rattle.layout_roles.specs.Zones.{ascend_from, nodes_ascend, is_numbered}
use Rattle.cluster_machine.specs.World.{new_role, staged}

-- the roles of the nodes below, and above
abbrev pub below : ℕ → List Role → List Role
below node roles = filter (λ r. nat_lt r.node node) roles

abbrev pub above : ℕ → List Role → List Role
above node roles = filter (λ r. nat_lt node r.node) roles

-- what is staged, where the first role is the node's, or above it, or below it
next : (node : ℕ) (role : Option (Zone × Kind)) (r : Role) (rs : List Role) → ((r.node ≡ node) × (staged node role (r ∷ rs) ≡ new_role node role rs)) ⊎
    (((node < r.node) × (staged node role (r ∷ rs) ≡ new_role node role (r ∷ rs))) ⊎ ((r.node < node) × (staged node role (r ∷ rs) ≡ r ∷ staged node role rs)))
next node role r rs =
    let past = cond (nat_lt node r.node) (new_role node role (r ∷ rs)) (r ∷ staged node role rs) in
    let other = λ (differ : r.node ≡ node → ⊥). cond-false (nat_eq r.node node) (new_role node role rs) past (ne_eqb r.node node differ) in
    elim (cases_order r.node node) [
      | inl same ↦ inl (same, cond-true (nat_eq r.node node) (new_role node role rs) past (eq-eqb r.node node same))
      | inr (inl lower) ↦ inr (inr (lower, other (λ e. omega arith) ∙ cond-false (nat_lt node r.node) (new_role node role (r ∷ rs)) (r ∷ staged node role rs) (le-ltb node r.node (omega arith))))
      | inr (inr higher) ↦ inr (inl (higher, other (λ e. omega arith) ∙ cond-true (nat_lt node r.node) (new_role node role (r ∷ rs)) (r ∷ staged node role rs) (lt-ltb node r.node higher)))
    ]

all_above : (node before : ℕ) (rs : List Role) → node ≤ before → ascend_from before rs ≡ true → (below node rs ≡ []) × (above node rs ≡ rs)
all_above node before [] le up = (refl, refl)
all_above node before (r ∷ rs) le up =
    let parts = and_parts (nat_lt before r.node) (ascend_from r.node rs) up in
    let first = ltb-true before r.node parts.0 in
    let higher : node < r.node = omega arith in
    let rest = all_above node r.node rs (omega arith) parts.1 in (
      cond-false (nat_lt r.node node) (r ∷ below node rs) (below node rs) (le-ltb r.node node (omega arith)) ∙ rest.0,
      cond-true (nat_lt node r.node) (r ∷ above node rs) (above node rs) (lt-ltb node r.node higher) ∙ ap (λ xs. r ∷ xs) rest.1,
    )

-- the roles below the node, then its role, then those above
pub staged_is : (node : ℕ) (role : Option (Zone × Kind)) (before : ℕ) (rs : List Role) → ascend_from before rs ≡ true → staged node role rs ≡ below node rs ++ new_role node role (above node rs)
staged_is node role before [] up = refl
staged_is node role before (r ∷ rs) up =
    let parts = and_parts (nat_lt before r.node) (ascend_from r.node rs) up in
    elim (next node role r rs) [
      | inl (same, is) ↦
          let rest = all_above node r.node rs (omega arith) parts.1 in
          let low : below node (r ∷ rs) ≡ [] = cond-false (nat_lt r.node node) (r ∷ below node rs) (below node rs) (le-ltb r.node node (omega arith)) ∙ rest.0 in
          let high : above node (r ∷ rs) ≡ rs = cond-false (nat_lt node r.node) (r ∷ above node rs) (above node rs) (le-ltb node r.node (omega arith)) ∙ rest.1 in
          is ∙ (λ i. sym low i ++ new_role node role (sym high i))
      | inr (inl (higher, is)) ↦
          let rest = all_above node node (r ∷ rs) (omega arith) (and_from (nat_lt node r.node) (ascend_from r.node rs) (lt-ltb node r.node higher) parts.1) in
          is ∙ (λ i. sym rest.0 i ++ new_role node role (sym rest.1 i))
      | inr (inr (lower, is)) ↦
          let low : below node (r ∷ rs) ≡ r ∷ below node rs = cond-true (nat_lt r.node node) (r ∷ below node rs) (below node rs) (lt-ltb r.node node lower) in
          let high : above node (r ∷ rs) ≡ above node rs = cond-false (nat_lt node r.node) (r ∷ above node rs) (above node rs) (le-ltb node r.node (omega arith)) in
          is ∙ (ap (λ xs. r ∷ xs) (staged_is node role r.node rs parts.1) ∙ (λ i. sym low i ++ new_role node role (sym high i)))
    ]

from_lower : (low high : ℕ) (rs : List Role) → low ≤ high → ascend_from high rs ≡ true → ascend_from low rs ≡ true
from_lower low high [] le up = refl
from_lower low high (r ∷ rs) le up =
    let parts = and_parts (nat_lt high r.node) (ascend_from r.node rs) up in
    let first = ltb-true high r.node parts.0 in
    and_from (nat_lt low r.node) (ascend_from r.node rs) (lt-ltb low r.node (omega arith)) parts.1

new_ascends : (node : ℕ) (role : Option (Zone × Kind)) (before : ℕ) (rs : List Role) → before < node → ascend_from node rs ≡ true → ascend_from before (new_role node role rs) ≡ true
new_ascends node None before rs lt up = from_lower before node rs (omega arith) up
new_ascends node (Some as') before rs lt up = and_from (nat_lt before node) (ascend_from node rs) (lt-ltb before node lt) up

pub staged_ascends : (node : ℕ) (role : Option (Zone × Kind)) (before : ℕ) (rs : List Role) → before < node → ascend_from before rs ≡ true → ascend_from before (staged node role rs) ≡ true
staged_ascends node role before [] lt up = new_ascends node role before [] lt refl
staged_ascends node role before (r ∷ rs) lt up =
    let parts = and_parts (nat_lt before r.node) (ascend_from r.node rs) up in
    elim (next node role r rs) [
      | inl (same, is) ↦ ap (ascend_from before) is ∙ new_ascends node role before rs lt (subst (λ n. ascend_from n rs ≡ true) same parts.1)
      | inr (inl (higher, is)) ↦ ap (ascend_from before) is ∙ new_ascends node role before (r ∷ rs) lt (and_from (nat_lt node r.node) (ascend_from r.node rs) (lt-ltb node r.node higher) parts.1)
      | inr (inr (lower, is)) ↦ ap (ascend_from before) is ∙ and_from (nat_lt before r.node) (ascend_from r.node (staged node role rs)) parts.0 (staged_ascends node role r.node rs lower parts.1)
    ]

new_numbered : (node : ℕ) (role : Option (Zone × Kind)) (rs : List Role) → node ≤ 64 → list_all is_numbered rs ≡ true → list_all is_numbered (new_role node role rs) ≡ true
new_numbered node None rs low all = all
new_numbered node (Some as') rs low all = and_from (nat_le node 64) (list_all is_numbered rs) (le-leb node 64 low) all

pub staged_numbered : (node : ℕ) (role : Option (Zone × Kind)) (rs : List Role) → node ≤ 64 → list_all is_numbered rs ≡ true → list_all is_numbered (staged node role rs) ≡ true
staged_numbered node role [] low all = new_numbered node role [] low refl
staged_numbered node role (r ∷ rs) low all =
    let parts = and_parts (is_numbered r) (list_all is_numbered rs) all in
    elim (next node role r rs) [
      | inl (same, is) ↦ ap (list_all is_numbered) is ∙ new_numbered node role rs low parts.1
      | inr (inl (higher, is)) ↦ ap (list_all is_numbered) is ∙ new_numbered node role (r ∷ rs) low all
      | inr (inr (lower, is)) ↦ ap (list_all is_numbered) is ∙ and_from (is_numbered r) (list_all is_numbered (staged node role rs)) parts.0 (staged_numbered node role rs low parts.1)
    ]

new_last : (node : ℕ) (role : Option (Zone × Kind)) (rs : List Role) → new_role node role rs ≡ new_role node role [] ++ rs
new_last node None rs = refl
new_last node (Some as') rs = refl

-- the list that is built from its parts
pub built : (node : ℕ) (role : Option (Zone × Kind)) (roles list : List Role) → nodes_ascend roles ≡ true → list ≡ (below node roles ++ new_role node role []) ++ above node roles → list ≡ staged node role roles
built node role roles list up is =
    is ∙ (append_assoc (below node roles) (new_role node role []) (above node roles)
    ∙ (ap (λ xs. below node roles ++ xs) (sym (new_last node role (above node roles))) ∙ sym (staged_is node role 0 roles up)))

-- one role more, which passes, or doesn't
pub more_in : (p : Role → Bool) (rs : List Role) (i : ℕ) (r : Role) → i < length rs → r ≡ get_or rs i r → p r ≡ true → filter p (take (i + 1) rs) ≡ filter p (take i rs) ++ r ∷ []
more_in p rs i r within is passed =
    filter_more p rs i r within
    ∙ (ap (λ x. filter p (take i rs) ++ cond (p x) (x ∷ []) []) (sym is) ∙ ap (λ xs. filter p (take i rs) ++ xs) (cond-true (p r) (r ∷ []) [] passed))

pub more_out : (p : Role → Bool) (rs : List Role) (i : ℕ) (r : Role) → i < length rs → r ≡ get_or rs i r → p r ≡ false → filter p (take (i + 1) rs) ≡ filter p (take i rs)
more_out p rs i r within is failed =
    filter_more p rs i r within
    ∙ (ap (λ x. filter p (take i rs) ++ cond (p x) (x ∷ []) []) (sym is) ∙ (ap (λ xs. filter p (take i rs) ++ xs) (cond-false (p r) (r ∷ []) [] failed) ∙ append-nil (filter p (take i rs))))

-- the roles below the node, and its role
pub begun_with : (node : ℕ) (role : Option (Zone × Kind)) (z : Zone) (k : Kind) (rs : List Role) → role ≡ Some (z, k) → below node rs ++ record { node = node; zone = z; kind = k } ∷ [] ≡ (below node rs ++ new_role node role []) ++ above node (take 0 rs)
begun_with node role z k rs e = ap (λ x. below node rs ++ new_role node x []) (sym e) ∙ sym (append-nil (below node rs ++ new_role node role []))

pub begun_without : (node : ℕ) (role : Option (Zone × Kind)) (rs : List Role) → role ≡ None → below node rs ≡ (below node rs ++ new_role node role []) ++ above node (take 0 rs)
begun_without node role rs e = sym (append-nil (below node rs)) ∙ (ap (λ x. below node rs ++ new_role node x []) (sym e) ∙ sym (append-nil (below node rs ++ new_role node role [])))

-- the whole list, read to its end
pub read_all : (node : ℕ) (roles : Roles) (role : Option (Zone × Kind)) (rs list : List Role) (i : ℕ) → rs ≡ roles.list → length rs ≤ i → list ≡ (below node rs ++ new_role node role []) ++ above node (take i rs) → list ≡ staged node role roles.list
read_all node roles role rs list i same end is =
    built node role roles.list list roles.ascending
    (is ∙ (ap (λ xs. (below node rs ++ new_role node role []) ++ above node xs) (take_all i rs end) ∙ ap (λ xs. (below node xs ++ new_role node role []) ++ above node xs) same))
