-- The bytes of an object one by one, and a bucket's name among others.
use Rattle.std.proofs.Common.{◌≡◌, ℕ, suc, ◌+◌, ◌-◌, ◌%◌, ◌<◌, nat_eq, List, [], ◌∷◌, ◌++◌, refl, ap, ◌∙◌, arith, append_assoc, ◌||◌}
use Rattle.std.specs.Cmp.Lexicographic.{pointwise, nat_list_eq_equiv}
use Rattle.name_set.specs.Found.{has_name}
use Rattle.store_model.specs.Events.{object_bytes}
use Rattle.store_model.specs.Run.{is_bucket}

-- the first i bytes were made
pub more_bytes : (bytes whole : List ℕ) (size i fill byte : ℕ) → byte ≡ (fill + i) % 251 → i < size → bytes ++ object_bytes (size - i) (fill + i) ≡ whole →
    (bytes ++ byte ∷ []) ++ object_bytes (size - (i + 1)) (fill + (i + 1)) ≡ whole
more_bytes bytes whole size i fill byte is lt h =
    let left : size - i ≡ suc (size - (i + 1)) = omega arith in
    let next : fill + (i + 1) ≡ suc (fill + i) = omega arith in
    rw (is, next) (append_assoc bytes (((fill + i) % 251) ∷ []) (object_bytes (size - (i + 1)) (suc (fill + i))) ∙ (rw left at h))

pub any_bucket : (buckets : List (List ℕ)) (name : List ℕ) → is_bucket buckets name ≡ has_name name buckets
any_bucket [] name = refl
any_bucket (b ∷ bs) name = ap (λ t. t || is_bucket bs name) (nat_list_eq_equiv.symm b name) ∙ ap (λ t. pointwise nat_eq name b || t) (any_bucket bs name)
