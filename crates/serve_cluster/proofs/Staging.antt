-- What is staged after the first acts of a change: its roles and its redundancy, whatever was staged before.
use Rattle.std.proofs.Common.{◌≡◌, ◌≤◌, ◌<◌, ℕ, zero, suc, ◌+◌, ◌-◌, ◌==◌, true, false, cond, nat_lt, Option, Some, None, List, [], ◌∷◌, ◌++◌, map, refl, sym, ◌∙◌, ap, subst, arith, append_assoc}
use Rattle.std.specs.Prelude.{⊤}
use Rattle.std.specs.List.{list_all, range_with_len}
use Rattle.std.proofs.lemmas.Bool.{and_parts, eqb-true, eqb-false, ltb-true, leb-true, lt-ltb, le-ltb, ne_eqb}
use Rattle.std.proofs.lemmas.List.{map-append}
use Rattle.layout_roles.specs.declared.role.Role.{Role}
use Rattle.layout_roles.specs.declared.role.Zone.{Zone}
use Rattle.layout_roles.specs.declared.role.Kind.{Kind}
use Rattle.layout_roles.specs.declared.redundancy.Redundancy.{Redundancy}
use Rattle.layout_roles.specs.Zones.{ascend_from, is_numbered}
use Rattle.cluster_machine.specs.declared.step.Step.TheVariants as step
use Rattle.cluster_machine.specs.World.{staged, new_role}
use Rattle.store_model.specs.Run.{State, Moving, plainly}
use Rattle.store_model.specs.Acts.{Act, moves, acted, after_acts}
use Rattle.store_model.proofs.Acts.{acts_after}
use Rattle.serve_changes.specs.Acts.{steps, stages_of}
use Rattle.serve_cluster.specs.Changes.{AreWithin}
use Rattle.change_deeds.specs.Deeds.{staged_as, staged_roles}

-- ---- lists of roles

-- the nodes are above this one, in order, and at most 16
abbrev pub Lies : ℕ → List Role → Type 0
Lies low [] = ⊤
Lies low (r ∷ rs) = (low < r.node) × (r.node ≤ 16) × Lies r.node rs

-- the nodes are above this one, in order
abbrev pub Ascends : ℕ → List Role → Type 0
Ascends low [] = ⊤
Ascends low (r ∷ rs) = (low < r.node) × Ascends r.node rs

pub ascends_so : (low : ℕ) (rs : List Role) → ascend_from low rs ≡ true → Ascends low rs
ascends_so low [] a = tt
ascends_so low (r ∷ rs) a = let up = and_parts (nat_lt low r.node) (ascend_from r.node rs) a in (ltb-true low r.node up.0, ascends_so r.node rs up.1)

-- a list of roles within 1 to 16 lies so
pub lies_so : (low : ℕ) (rs : List Role) → Ascends low rs → AreWithin rs → Lies low rs
lies_so low [] a n = tt
lies_so low (r ∷ rs) a n = (a.0, n.0, lies_so r.node rs a.1 n.1)

-- the nodes are 1 to 64
abbrev pub AreNodes : List Role → Type 0
AreNodes [] = ⊤
AreNodes (r ∷ rs) = (1 ≤ r.node) × (r.node ≤ 64) × AreNodes rs

pub nodes_so : (low : ℕ) (rs : List Role) → Ascends low rs → list_all is_numbered rs ≡ true → AreNodes rs
nodes_so low [] a n = tt
nodes_so low (r ∷ rs) a n =
    let few = and_parts (is_numbered r) (list_all is_numbered rs) n in
    let above = a.0 in
    (one_up low r.node above, leb-true r.node 64 few.0, nodes_so r.node rs a.1 few.1)
  where
    one_up : (low node : ℕ) → low < node → 1 ≤ node
    one_up low node above = omega (arith, above)

-- ---- no role

-- the roles once these nodes, so many from one on, have none
unstaged : ℕ → ℕ → List Role → List Role
unstaged n zero rs = rs
unstaged n (suc count) rs = unstaged (n + 1) count (staged n None rs)

one_out : (n : ℕ) (rs : List Role) → Lies n rs → Lies (n + 1) (staged (n + 1) None rs)
one_out n [] h = tt
one_out n (r ∷ rs) h =
    elim (r.node == n + 1) as (λ b. (r.node == n + 1) ≡ b → Lies (n + 1) (cond b (new_role (n + 1) None rs) (cond (nat_lt (n + 1) r.node) (new_role (n + 1) None (r ∷ rs)) (r ∷ staged (n + 1) None rs)))) [
      | true ↦ (λ e. subst (λ k. Lies k rs) (eqb-true r.node (n + 1) e) h.2)
      | false ↦ (λ e.
          let other = eqb-false r.node (n + 1) e in
          let above : n + 1 < r.node = later n r.node h.0 other in
          subst (λ b. Lies (n + 1) (cond b (r ∷ rs) (r ∷ staged (n + 1) None rs))) (sym (lt-ltb (n + 1) r.node above)) (above, h.1, h.2))
    ] refl
  where
    later : (n m : ℕ) → n < m → (m ≡ n + 1 → ⊥) → n + 1 < m
    later n m low other = omega (arith, low, other)

all_out : (count n : ℕ) (rs : List Role) → Lies n rs → 16 ≤ n + count → unstaged (n + 1) count rs ≡ []
unfolding unstaged
all_out zero n [] h far = refl
all_out zero n (r ∷ rs) h far = absurd (let low = h.0 in let high = h.1 in omega (arith, low, high, far))
all_out (suc count) n rs h far = all_out count (n + 1) (staged (n + 1) None rs) (one_out n rs h) (omega (arith, far))

-- ---- roles

-- the nodes are at most this one
abbrev AreUpTo : ℕ → List Role → Type 0
AreUpTo high [] = ⊤
AreUpTo high (r ∷ rs) = (r.node ≤ high) × AreUpTo high rs

up_to_more : (low high : ℕ) (rs : List Role) → low ≤ high → AreUpTo low rs → AreUpTo high rs
up_to_more low high [] le h = tt
up_to_more low high (r ∷ rs) le h = ((let low' = h.0 in omega (arith, le, low')), up_to_more low high rs le h.1)

up_to_one : (low : ℕ) (rs : List Role) (role : Role) → low < role.node → AreUpTo low rs → AreUpTo role.node (rs ++ role ∷ [])
up_to_one low [] role lt h = ((omega arith), tt)
up_to_one low (r ∷ rs) role lt h = ((let low' = h.0 in omega (arith, lt, low')), up_to_one low rs role lt h.1)

one_in : (low : ℕ) (rs : List Role) (role : Role) → low < role.node → AreUpTo low rs → staged role.node (Some (role.zone, role.kind)) rs ≡ rs ++ role ∷ []
one_in low [] role lt h = refl
one_in low (r ∷ rs) role lt h =
    let x : Option (Zone × Kind) = Some (role.zone, role.kind) in
    let le = h.0 in
    let below : r.node < role.node = omega (arith, lt, le) in
    let other : (r.node == role.node) ≡ false = ne_eqb r.node role.node (λ e. omega (arith, below, e)) in
    let before : nat_lt role.node r.node ≡ false = le-ltb role.node r.node (omega (arith, below)) in
    ap (λ b. cond b (new_role role.node x rs) (cond (nat_lt role.node r.node) (new_role role.node x (r ∷ rs)) (r ∷ staged role.node x rs))) other
    ∙ ap (λ b. cond b (new_role role.node x (r ∷ rs)) (r ∷ staged role.node x rs)) before
    ∙ ap (λ later. r ∷ later) (one_in low rs role lt h.1)

-- the roles once these are staged
all_staged : List Role → List Role → List Role
all_staged rs [] = rs
all_staged rs (r ∷ more) = all_staged (staged r.node (Some (r.zone, r.kind)) rs) more

all_in : (low : ℕ) (rs more : List Role) → AreUpTo low rs → Ascends low more → all_staged rs more ≡ rs ++ more
unfolding all_staged
all_in low rs [] up h = sym (append_nil rs)
  where
    append_nil : (xs : List Role) → xs ++ [] ≡ xs
    append_nil [] = refl
    append_nil (x ∷ xs) = ap (λ ys. x ∷ ys) (append_nil xs)
all_in low rs (r ∷ more) up h =
    ap (λ xs. all_staged xs more) (one_in low rs r h.0 up) ∙ (all_in r.node (rs ++ r ∷ []) more (up_to_one low rs r h.0 up) h.1 ∙ append_assoc rs (r ∷ []) more)

-- ---- states

out_leads : (count n : ℕ) (s : State) → (after_acts s (steps (map (λ k. plainly (step.Role k None)) (range_with_len n count)))).world.roles ≡ unstaged n count s.world.roles
unfolding unstaged
out_leads zero n s = refl
out_leads (suc count) n s = out_leads count (n + 1) (acted s (moves (plainly (step.Role n None)))).state

in_leads : (roles : List Role) (s : State) → (after_acts s (steps (map (λ role. plainly (staged_as role)) roles))).world.roles ≡ all_staged s.world.roles roles
unfolding all_staged
in_leads [] s = refl
in_leads (r ∷ roles) s = in_leads roles (acted s (moves (plainly (staged_as r)))).state

spread_leads : (wanted : Redundancy) (s : State) → ((after_acts s (steps (plainly (step.Redundancy wanted) ∷ []))).world.roles ≡ s.world.roles) × ((after_acts s (steps (plainly (step.Redundancy wanted) ∷ []))).world.redundancy ≡ wanted)
spread_leads wanted s = (refl, refl)

steps_append : (a b : List Moving) → steps (a ++ b) ≡ steps a ++ steps b
steps_append a b = map-append moves a b

-- each of these nodes has its role
abbrev pub in_acts : List Role → List Act
in_acts roles = steps (map (λ role. plainly (staged_as role)) roles)

-- no node has a role any more
abbrev pub out_acts : List Act
out_acts = steps (map (λ k. plainly (step.Role k None)) (range_with_len 1 16))

-- what is left of it, once so many nodes have none
abbrev pub out_from : ℕ → List Act
out_from n = steps (map (λ k. plainly (step.Role k None)) (range_with_len (n + 1) (16 - n)))

pub next_out : (n : ℕ) → n < 16 → out_from n ≡ moves (plainly (step.Role (n + 1) None)) ∷ out_from (n + 1)
next_out n few =
    let more : 16 - n ≡ suc (16 - (n + 1)) = omega (arith, few) in
    ap (λ count. steps (map (λ k. plainly (step.Role k None)) (range_with_len (n + 1) count))) more

pub none_out : (n : ℕ) → 16 ≤ n → out_from n ≡ []
none_out n all =
    let none : 16 - n ≡ 0 = omega (arith, all) in
    ap (λ count. steps (map (λ k. plainly (step.Role k None)) (range_with_len (n + 1) count))) none

-- the parts of what is staged
pub stages_parts : (roles : List Role) (wanted : Redundancy) → stages_of roles wanted ≡ out_acts ++ staged_roles roles wanted
stages_parts roles wanted =
    let out = map (λ k. plainly (step.Role k None)) (range_with_len 1 16) in
    let there = map (λ role. plainly (staged_as role)) roles in
    let last = plainly (step.Redundancy wanted) ∷ [] in
    steps_append out (there ++ last) ∙ ap (λ as'. steps out ++ as') (steps_append there last)

pub stages_staged : (s : State) (roles : List Role) (wanted : Redundancy) → Lies 0 s.world.roles → Ascends 0 roles →
    ((after_acts s (stages_of roles wanted)).world.roles ≡ roles) × ((after_acts s (stages_of roles wanted)).world.redundancy ≡ wanted)
stages_staged s roles wanted before there =
    let out = steps (map (λ k. plainly (step.Role k None)) (range_with_len 1 16)) in
    let come = steps (map (λ role. plainly (staged_as role)) roles) in
    let last = steps (plainly (step.Redundancy wanted) ∷ []) in
    let t = after_acts s out in
    let u = after_acts t come in
    let whole : after_acts s (stages_of roles wanted) ≡ after_acts u last =
    ap (after_acts s) (stages_parts roles wanted) ∙ (acts_after s out (come ++ last) ∙ acts_after t come last) in
    let none : t.world.roles ≡ [] = out_leads 16 1 s ∙ all_out 16 0 s.world.roles before (omega arith) in
    let all : u.world.roles ≡ roles = in_leads roles t ∙ (ap (λ rs. all_staged rs roles) none ∙ all_in 0 [] roles tt there) in
    let end = spread_leads wanted u in
    (ap (λ (x : State). x.world.roles) whole ∙ (end.0 ∙ all), ap (λ (x : State). x.world.redundancy) whole ∙ end.1)
