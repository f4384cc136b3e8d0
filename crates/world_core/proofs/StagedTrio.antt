-- The layout of nodes 1, 2 and 3: its parts are those of the model.
use Rattle.std.proofs.Common.{◌≡◌, ℕ, true, List, [], ◌∷◌, length, replicate, zero, suc, refl, ap, ◌∙◌}
use mathlib.Core.Bool.{Bool-set}
use mathlib.Core.HLevel.{is_prop→PathP}
use native.Mathlib.Nat.{ℕ_set}
use Rattle.std.specs.List.{list_all}
use Rattle.std.proofs.lemmas.List.{length-replicate}
use Rattle.layout_roles.specs.declared.roles.Roles.{Roles}
use Rattle.layout_roles.specs.declared.assignment.Assignment.{Assignment}
use Rattle.layout_roles.specs.Zones.{nodes_ascend, is_numbered, set_ascends}
use Rattle.cluster_machine.specs.Trio.{trio, trio_sets, stage_trio}

pub trio_whole : (sets : List (List ℕ)) → sets ≡ trio_sets → length sets ≡ 256
trio_whole sets is = ap length is ∙ length-replicate {A = List ℕ} 256 (1 ∷ 2 ∷ 3 ∷ [])

all_ascend : (n : ℕ) → list_all set_ascends (replicate n (1 ∷ 2 ∷ 3 ∷ [])) ≡ true
all_ascend zero = refl
all_ascend (suc n) = all_ascend n

pub trio_ascends : (sets : List (List ℕ)) → sets ≡ trio_sets → list_all set_ascends sets ≡ true
trio_ascends sets is = ap (list_all set_ascends) is ∙ all_ascend 256

same_roles : (a b : Roles) → a.list ≡ b.list → a ≡ b
same_roles a b e = λ i. record {
  list = e i;
  ascending = is_prop→PathP (λ t. nodes_ascend (e t) ≡ true) (λ t. Bool-set (nodes_ascend (e t)) true) a.ascending b.ascending i;
  numbered = is_prop→PathP (λ t. list_all is_numbered (e t) ≡ true) (λ t. Bool-set (list_all is_numbered (e t)) true) a.numbered b.numbered i;
}

same_sets : (a b : Assignment) → a.sets ≡ b.sets → a ≡ b
same_sets a b e = λ i. record {
  sets = e i;
  whole = is_prop→PathP (λ t. length (e t) ≡ 256) (λ t. ℕ_set (length (e t)) 256) a.whole b.whole i;
  ascending = is_prop→PathP (λ t. list_all set_ascends (e t) ≡ true) (λ t. Bool-set (list_all set_ascends (e t)) true) a.ascending b.ascending i;
}

-- a layout of these roles and sets is that of the model
pub is_trio : (roles : Roles) (sets : Assignment) → roles.list ≡ stage_trio [] → sets.sets ≡ trio_sets → record { version = 1; roles = roles; r = 3; size = 3; sets = sets } ≡ trio
is_trio roles sets e f = λ i. record { version = 1; roles = same_roles roles trio.roles e i; r = 3; size = 3; sets = same_sets sets trio.sets f i }
