-- Changes that are said for a server: at most 99, and their roles are of nodes 1 to 16.
use Rattle.std.proofs.Common.{◌≡◌, ◌≤◌, ◌+◌, ℕ, suc, ℤ, pos, negsuc, Bool, true, false, cond, not, nat_lt, min, List, [], ◌∷◌, ◌++◌, length, length-append, codes, Option, Some, None, Result, Ok, Err, option_and_then, nat_le, refl, sym, ◌∙◌, ap, subst, arith, leb-true}
use Rattle.std.specs.List.{AllByRecursion}
use Rattle.std.specs.Option.{ok_or}
use Rattle.std.proofs.lemmas.Bool.{and_parts}
use Rattle.crdt_core.proofs.Each.{all_append}
use Rattle.toml.specs.Data.{Data, Members, as_integer, as_array, get_member}
use Rattle.toml.specs.Parse.{parse_document}
use Rattle.layout_roles.specs.declared.role.Role.{Role}
use Rattle.layout_roles.specs.declared.role.Kind.{Kind}
use Rattle.layout_roles.specs.declared.redundancy.Redundancy.{Redundancy}
use Rattle.layout_roles.specs.Names.{is_between}
use Rattle.layout_text.specs.declared.config.FieldName.{FieldName}
use Rattle.layout_text.specs.declared.config.FieldName.TheVariants as field
use Rattle.layout_text.specs.declared.config.ConfigFault.TheVariants.{NotToml}
use Rattle.layout_text.specs.Values.{keep_if, between, number_in, redundancy_in, tables_of, nodes_in, is_taken, id_in, zone_in, kind_in}
use Rattle.layout_text.specs.Settings.{◌>>=◌, needed, put_role, role_in, roles_in, roles_for, faulted}
use Rattle.layout_text.specs.Changes.{Coming, after_in, change_in, changes_of, few, changes_at, changes_if, changes_in, changes_said}
use Rattle.serve_cluster.specs.Changes.{AreWithin}
use Rattle.serve_run.specs.Plan.{greatest_node, IsOfServer}

-- ---- numbers

kept_is : {A : Type 0} (b : Bool) (x y : A) → keep_if b x ≡ Some y → (b ≡ true) × (x ≡ y)
kept_is true x y h = (refl, cc)
kept_is false x y h = absurd (cc)

some_at_most : (low high : ℕ) (z : ℤ) (n : ℕ) → between low high z ≡ Some n → n ≤ high
some_at_most low high (pos m) n h =
    let k = kept_is (is_between low high m) m n h in
    let upto : m ≤ high = leb-true m high (and_parts (nat_le low m) (nat_le m high) k.0).1 in
    subst (λ i. i ≤ high) k.1 upto
some_at_most low high (negsuc m) n h = absurd (cc)

found_at_most : (low high : ℕ) (z : Option ℤ) (n : ℕ) → option_and_then (between low high) z ≡ Some n → n ≤ high
found_at_most low high None n h = absurd (cc)
found_at_most low high (Some z) n h = some_at_most low high z n h

value_at_most : (low high : ℕ) (value : Option Data) (n : ℕ) → option_and_then (number_in low high) value ≡ Some n → n ≤ high
value_at_most low high None n h = absurd (cc)
value_at_most low high (Some value) n h = found_at_most low high (as_integer value) n h

free_is : (before : List Role) (found : Option ℕ) (n : ℕ) → option_and_then (λ id. keep_if (not (is_taken before id)) id) found ≡ Some n → found ≡ Some n
free_is before None n h = absurd (cc)
free_is before (Some m) n h = ap Some (kept_is (not (is_taken before m)) m n h).1

id_at_most : (before : List Role) (node : Members) (n : ℕ) → id_in greatest_node before node ≡ Some n → n ≤ 16
id_at_most before node n h =
    value_at_most 1 (min greatest_node 64) (get_member (codes "id") node) n (free_is before (option_and_then (number_in 1 (min greatest_node 64)) (get_member (codes "id") node)) n h)

-- ---- roles

abbrev made : ℕ → List ℕ → Kind → Role
made id zone kind = record { node = id; zone = record { 0 = zone }; kind = kind }

role_made : (id : Option ℕ) (zone : Option (List ℕ)) (kind : Option Kind) (role : Role) → ((n : ℕ) → id ≡ Some n → n ≤ 16) →
    (needed field.Id id >>= (λ i. needed field.Zone zone >>= (λ z. needed field.Capacity kind >>= (λ k. Ok (made i z k))))) ≡ Ok role → role.node ≤ 16
role_made None place kind role most h = absurd (cc)
role_made (Some i) None kind role most h = absurd (cc)
role_made (Some i) (Some z) None role most h = absurd (cc)
role_made (Some i) (Some z) (Some k) role most h =
    let is : made i z k ≡ role = cc in
    subst (λ (r : Role). r.node ≤ 16) is (most i refl)

role_within : (before : List Role) (node : Members) (role : Role) → role_in greatest_node before node ≡ Ok role → role.node ≤ 16
unfolding role_in
role_within before node role h = role_made (id_in greatest_node before node) (zone_in node) (kind_in node) role (id_at_most before node) h

by_place : (role r : Role) (rs : List Role) (b : Bool) → role.node ≤ 16 → AreWithin (r ∷ rs) → AreWithin (put_role rs role) → AreWithin (cond b (role ∷ r ∷ rs) (r ∷ put_role rs role))
by_place role r rs true g h later = (g, h)
by_place role r rs false g h later = (h.0, later)

put_within : (roles : List Role) (role : Role) → AreWithin roles → role.node ≤ 16 → AreWithin (put_role roles role)
put_within [] role h g = (g, tt)
put_within (r ∷ rs) role h g = by_place role r rs (nat_lt role.node r.node) g h (put_within rs role h.1 g)

-- one role more, and then the rest
next_roles : (nodes : List Members) (before roles : List Role) (r : Result Role FieldName) → ((role : Role) → r ≡ Ok role → AreWithin (put_role before role)) →
    ((more : List Role) → AreWithin more → roles_in greatest_node more nodes ≡ Ok roles → AreWithin roles) → (r >>= (λ role. roles_in greatest_node (put_role before role) nodes)) ≡ Ok roles → AreWithin roles
next_roles nodes before roles (Ok role) put rest k = rest (put_role before role) (put role refl) k
next_roles nodes before roles (Err name) put rest k = absurd (cc)

roles_within : (nodes : List Members) (before roles : List Role) → AreWithin before → roles_in greatest_node before nodes ≡ Ok roles → AreWithin roles
roles_within [] before roles h e = let same : before ≡ roles = cc in subst AreWithin same h
roles_within (node ∷ nodes) before roles h e =
    next_roles nodes before roles (role_in greatest_node before node) (λ role is. put_within before role h (role_within before node role is)) (λ more within k. roles_within nodes more roles within k) e

all_within : (nodes : Option (List Members)) (roles : List Role) → (needed field.Node nodes >>= roles_in greatest_node []) ≡ Ok roles → AreWithin roles
all_within None roles h = absurd (cc)
all_within (Some nodes) roles h = roles_within nodes [] roles tt h

for_within : (table : Members) (roles : List Role) → roles_for greatest_node table ≡ Ok roles → AreWithin roles
unfolding roles_for
for_within table roles h = all_within (nodes_in table) roles h

-- ---- changes

abbrev AllWithin : List Coming → Type 0
AllWithin comings = AllByRecursion (λ (c : Coming). AreWithin c.roles) comings

abbrev coming : ℕ → Redundancy → List Role → Coming
coming after wanted roles = record { after = after; redundancy = wanted; roles = roles }

change_made : (after : Option ℕ) (wanted : Option Redundancy) (roles : Result (List Role) FieldName) (c : Coming) → ((rs : List Role) → roles ≡ Ok rs → AreWithin rs) →
    (needed field.After after >>= (λ a. needed field.Redundancy wanted >>= (λ w. roles >>= (λ rs. Ok (coming a w rs))))) ≡ Ok c → AreWithin c.roles
change_made None wanted roles c within h = absurd (cc)
change_made (Some a) None roles c within h = absurd (cc)
change_made (Some a) (Some w) (Err name) c within h = absurd (cc)
change_made (Some a) (Some w) (Ok rs) c within h =
    let is : coming a w rs ≡ c = cc in
    subst (λ (x : Coming). AreWithin x.roles) is (within rs refl)

change_within : (before : ℕ) (table : Members) (c : Coming) → change_in greatest_node before table ≡ Ok c → AreWithin c.roles
unfolding change_in
change_within before table c h = change_made (after_in before table) (redundancy_in table) (roles_for greatest_node table) c (for_within table) h

-- those of tables: as many as there are, and within the nodes of a server
record AreFine (count : ℕ) (comings : List Coming) : Type 0 where
  within : AllWithin comings
  many : length comings ≡ count

-- one change more, and then the rest
next_change : (tables : List Members) (changes all : List Coming) (r : Result Coming FieldName) → AllWithin changes → ((c : Coming) → r ≡ Ok c → AreWithin c.roles) →
    ((before : ℕ) (more : List Coming) → AllWithin more → changes_of greatest_node before more tables ≡ Ok all → AreFine (length more + length tables) all) →
    (r >>= (λ c. changes_of greatest_node c.after (changes ++ c ∷ []) tables)) ≡ Ok all → AreFine (length changes + suc (length tables)) all
next_change tables changes all (Ok c) h within next k =
    let rest = next c.after (changes ++ c ∷ []) (all_append (λ (x : Coming). AreWithin x.roles) changes (c ∷ []) h (within c refl, tt)) k in
    let more : length (changes ++ c ∷ []) ≡ length changes + 1 = length-append changes (c ∷ []) in
    let many = rest.many in
    record { within = rest.within; many = omega (arith, many, more) }
next_change tables changes all (Err name) h within next k = absurd (cc)

changes_fine : (tables : List Members) (before : ℕ) (changes all : List Coming) → AllWithin changes → changes_of greatest_node before changes tables ≡ Ok all → AreFine (length changes + length tables) all
changes_fine [] before changes all h e = let same : changes ≡ all = cc in record { within = subst AllWithin same h; many = ap (λ (xs : List Coming). length xs) (sym same) ∙ omega arith }
changes_fine (table ∷ tables) before changes all h e =
    next_change tables changes all (change_in greatest_node before table) h (change_within before table) (λ after more within k. changes_fine tables after more all within k) e

tables_few : (found : Option (List Members)) (comings : List Coming) → (needed field.Change (option_and_then few found) >>= changes_of greatest_node 0 []) ≡ Ok comings → IsOfServer comings
tables_few None comings h = absurd (cc)
tables_few (Some tables) comings h = next (nat_le (length tables) 99) refl h
  where
    next : (b : Bool) → nat_le (length tables) 99 ≡ b → (needed field.Change (keep_if b tables) >>= changes_of greatest_node 0 []) ≡ Ok comings → IsOfServer comings
    next true e k =
        let fine = changes_fine tables 0 [] comings tt k in
        let most : length tables ≤ 99 = leb-true (length tables) 99 e in
        let many = fine.many in
        (fine.within, omega (arith, most, many))
    next false e k = absurd (cc)

at_fine : (value : Data) (comings : List Coming) → changes_at greatest_node value ≡ Ok comings → IsOfServer comings
unfolding changes_at
at_fine value comings h = tables_few (option_and_then tables_of (as_array value)) comings h

if_fine : (value : Option Data) (comings : List Coming) → changes_if greatest_node value ≡ Ok comings → IsOfServer comings
if_fine None comings h = let same : [] ≡ comings = cc in subst IsOfServer same (tt, omega arith)
if_fine (Some value) comings h = at_fine value comings h

fields_fine : (r : Result (List Coming) FieldName) (comings : List Coming) → ((all : List Coming) → r ≡ Ok all → IsOfServer all) → faulted r ≡ Ok comings → IsOfServer comings
fields_fine (Ok all) comings f h = let same : all ≡ comings = cc in subst IsOfServer same (f all refl)
fields_fine (Err name) comings f h = absurd (cc)

document_fine : (o : Option Members) (comings : List Coming) → (ok_or o NotToml >>= (λ root. faulted (changes_in greatest_node root))) ≡ Ok comings → IsOfServer comings
document_fine None comings h = absurd (cc)
document_fine (Some root) comings h = fields_fine (changes_in greatest_node root) comings (if_fine (get_member (codes "change") root)) h

pub said_of_server : (text : List ℕ) (comings : List Coming) → changes_said greatest_node text ≡ Ok comings → IsOfServer comings
unfolding changes_said
said_of_server text comings h = document_fine (parse_document text) comings h
