-- Blocks one after the other.
use Rattle.std.proofs.Common.{◌≡◌, ℕ, suc, ◌+◌, ◌-◌, ◌<◌, ◌≤◌, nat_eq, Bool, true, false, ◌&&◌, List, [], ◌∷◌, length, drop, get_or, refl, ap, sym, ◌∙◌, arith}
use Rattle.std.proofs.Math.Seq.{drop-cons}
use Rattle.crdt_core.specs.declared.max.Max.{Max}
use Rattle.crdt_rows.specs.declared.version_row.Part.{Part}
use Rattle.crdt_rows.specs.declared.version_row.BlockRef.{BlockRef}
use Rattle.flow_model.specs.Says.{are_whole}

and_false : (b : Bool) → (b && false) ≡ false
and_false true = refl
and_false false = refl

-- blocks that begin past the end are not whole
pub past_end : (offset : ℕ) (es : List (Part × Max BlockRef)) (size : ℕ) → size < offset → are_whole offset es size ≡ false
past_end offset [] size lt = grind arith
past_end offset (e ∷ es) size lt = ap (nat_eq e.0.offset offset &&◌) (past_end (offset + e.1.0.size) es size (omega arith)) ∙ and_false (nat_eq e.0.offset offset)

differ : (a b : ℕ) → (a ≡ b → ⊥) → nat_eq a b ≡ false
differ a b h = grind arith

-- where the rest begins with this block, and that is not whole, nothing is
stopped : (all : List (Part × Max BlockRef)) (i offset size : ℕ) (d : Part × Max BlockRef) → i < length all → are_whole offset (drop i all) size ≡ are_whole 0 all size →
    are_whole offset (get_or all i d ∷ drop (suc i) all) size ≡ false → false ≡ are_whole 0 all size
stopped all i offset size d lt so miss = sym (sym so ∙ (ap (λ es. are_whole offset es size) (drop-cons all i d lt) ∙ miss))

-- a block that doesn't begin where the one before it ends
pub wrong_place : (all : List (Part × Max BlockRef)) (i left size : ℕ) (d : Part × Max BlockRef) → i < length all → are_whole (size - left) (drop i all) size ≡ are_whole 0 all size →
    ((get_or all i d).0.offset ≡ size - left → ⊥) → false ≡ are_whole 0 all size
wrong_place all i left size d lt so other =
    stopped all i (size - left) size d lt so
    (ap (λ b. b && are_whole (size - left + (get_or all i d).1.0.size) (drop (suc i) all) size) (differ (get_or all i d).0.offset (size - left) other))

-- a block that ends past the end
pub wrong_size : (all : List (Part × Max BlockRef)) (i left size bytes : ℕ) (d : Part × Max BlockRef) → i < length all → left ≤ size →
    are_whole (size - left) (drop i all) size ≡ are_whole 0 all size → bytes ≡ (get_or all i d).1.0.size → left < bytes → false ≡ are_whole 0 all size
wrong_size all i left size bytes d lt within so is_size long =
    stopped all i (size - left) size d lt so
    (ap (nat_eq (get_or all i d).0.offset (size - left) &&◌) (past_end (size - left + (get_or all i d).1.0.size) (drop (suc i) all) size (omega arith))
    ∙ and_false (nat_eq (get_or all i d).0.offset (size - left)))
