use Rattle.std.proofs.Common.{ℕ, List, ◌++◌, ◌∙◌, ◌-◌, ap, subst, arith, length, map, take, drop, replicate, bit_xor}
use Rattle.std.proofs.lemmas.List.{take_all}
use Rattle.sha2.specs.Hashers.{Holds256}
use Rattle.sig_v4.proofs.Masks.{masked_is}
use Rattle.sig_v4.proofs.mac.masked_hash.Goals as goal

pub returns : goal.returns
returns c =
    let key = c.args.key.now in
    let mask = c.args.mask in
    let P : List ℕ → Type 0 = Holds256 c.update-2.new.self in
    subst P
    (ap (λ t. map (λ b. bit_xor b mask) t ++ take (64 - length key) (drop (length key) (replicate 64 mask))) (take_all c.loop-b.b-index key (omega (arith, c.loop-b-test.false))) ∙ masked_is mask key)
    (c.update-2.ensures _ c.loop-b.invariant)
