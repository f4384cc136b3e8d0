-- Values that reads tell of one by one, the bytes of a value one by one, and a bucket's name among others.
use Rattle.std.proofs.Common.{◌≡◌, ℕ, suc, ◌+◌, ◌-◌, ◌%◌, ◌<◌, nat_eq, List, [], ◌∷◌, ◌++◌, refl, ap, ◌∙◌, arith, append_assoc, ◌||◌}
use Rattle.std.specs.List.{list_any}
use Rattle.std.specs.Cmp.Lexicographic.{pointwise}
use Rattle.crdt_core.specs.declared.max.Max.{Max}
use Rattle.k2v_rows.specs.declared.value.K2vValue.{K2vValue}
use Rattle.k2v_rows.specs.declared.value.K2vValue.TheVariants.{Deleted, Value}
use Rattle.k2v_model.specs.Run.{is_bucket, values_of}
use Rattle.store_model.specs.Events.{object_bytes}

-- the first value's, then the others'
by_value : (n : ℕ) (time : ℕ) (v : K2vValue) (es : List (ℕ × Max K2vValue)) → values_of n ((time, record { 0 = v }) ∷ es) ≡ values_of n ((time, record { 0 = v }) ∷ []) ++ values_of n es
by_value n time Deleted es = refl
by_value n time (Value bytes) es = refl

pub values_first : (n : ℕ) (e : ℕ × Max K2vValue) (es : List (ℕ × Max K2vValue)) → values_of n (e ∷ es) ≡ values_of n (e ∷ []) ++ values_of n es
values_first n e es = by_value n e.0 e.1.0 es

-- the first i bytes were made
pub more_bytes : (bytes whole : List ℕ) (size i fill byte : ℕ) → byte ≡ (fill + i) % 251 → i < size → bytes ++ object_bytes (size - i) (fill + i) ≡ whole →
    (bytes ++ byte ∷ []) ++ object_bytes (size - (i + 1)) (fill + (i + 1)) ≡ whole
more_bytes bytes whole size i fill byte is lt h =
    let left : size - i ≡ suc (size - (i + 1)) = omega arith in
    let next : fill + (i + 1) ≡ suc (fill + i) = omega arith in
    rw (is, next) (append_assoc bytes (((fill + i) % 251) ∷ []) (object_bytes (size - (i + 1)) (suc (fill + i))) ∙ (rw left at h))

pub any_bucket : (buckets : List (List ℕ)) (name : List ℕ) → is_bucket buckets name ≡ list_any (λ b. pointwise nat_eq b name) buckets
any_bucket [] name = refl
any_bucket (b ∷ bs) name = ap (λ t. pointwise nat_eq b name || t) (any_bucket bs name)
