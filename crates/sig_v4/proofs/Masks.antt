-- A key that is hashed byte by byte under a mask.
use Rattle.std.proofs.Common.{◌≡◌, ℕ, zero, suc, ◌+◌, ◌-◌, List, ◌∷◌, ◌++◌, refl, sym, ◌∙◌, ap, arith, length, map, take, drop, replicate, bit_xor}
use Rattle.std.specs.Int.Bits.{xor_zero_l}
use Rattle.std.proofs.lemmas.List.{map-append, drop-replicate, length-replicate, take_all}
use Rattle.sig_v4.specs.Hmac.{masked}

map_replicate : (f : ℕ → ℕ) (n a : ℕ) → map f (replicate n a) ≡ replicate n (f a)
map_replicate f zero a = refl
map_replicate f (suc n) a = ap (λ t. f a ∷ t) (map_replicate f n a)

-- the key, and then the mask up to a block
pub masked_is : (mask : ℕ) (key : List ℕ) → map (λ b. bit_xor b mask) key ++ take (64 - length key) (drop (length key) (replicate 64 mask)) ≡ masked mask key
masked_is mask key =
    let zeros : map (λ b. bit_xor b mask) (replicate (64 - length key) 0) ≡ replicate (64 - length key) mask =
    map_replicate (λ b. bit_xor b mask) (64 - length key) 0 ∙ ap (replicate (64 - length key)) (xor_zero_l mask) in
    let rest : drop (length key) (replicate 64 mask) ≡ replicate (64 - length key) mask = drop-replicate (length key) 64 mask in
    let long : length (replicate (64 - length key) mask) ≡ 64 - length key = length-replicate (64 - length key) mask in
    ap (λ t. map (λ b. bit_xor b mask) key ++ take (64 - length key) t) rest
    ∙ ap (λ t. map (λ b. bit_xor b mask) key ++ t) (take_all (64 - length key) (replicate (64 - length key) mask) (omega (arith, long)) ∙ sym zeros)
    ∙ sym (map-append (λ b. bit_xor b mask) key (replicate (64 - length key) 0))
