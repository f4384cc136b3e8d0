-- The notes that are due are those up to a moment.
use Rattle.std.proofs.Common.{◌≡◌, ◌≤◌, ◌<◌, ◌-◌, ℕ, false, List, [], ◌∷◌, map, refl, sym, ◌∙◌, arith}
use Rattle.std.specs.Prelude.{nat_le}
use Rattle.std.specs.List.{filter}
use Rattle.blake2_hash.specs.declared.digest.Hash32.{Hash32}
use Rattle.block_resync.specs.Outbox.{due_of}

same_test : (delay now n : ℕ) → 1 ≤ delay → delay ≤ now → nat_le delay (now - n) ≡ nat_le n (now - delay)
same_test delay now n some o = grind (arith, some, o)

pub due_up_to : (now moment : ℕ) (ns : List (Hash32 × ℕ)) → 600000 ≤ now → moment ≡ now - 600000 → due_of now ns ≡ map (λ n. n.0) (filter (λ n. nat_le n.1 moment) ns)
due_up_to now moment ns o is =
    (λ i. map (λ n. n.0) (filter (λ n. same_test 600000 now n.1 (omega arith) o i) ns))
    ∙ (λ i. map (λ n. n.0) (filter (λ n. nat_le n.1 (sym is i)) ns))

too_early : (delay now n : ℕ) → now < delay → nat_le delay (now - n) ≡ false
too_early delay now n o = grind (arith, o)

nothing : (ns : List (Hash32 × ℕ)) → map (λ n. n.0) (filter (λ n. false) ns) ≡ []
nothing [] = refl
nothing (n ∷ ns) = nothing ns

pub none_due : (now : ℕ) (ns : List (Hash32 × ℕ)) → now < 600000 → due_of now ns ≡ []
none_due now ns o = (λ i. map (λ n. n.0) (filter (λ n. too_early 600000 now n.1 o i) ns)) ∙ nothing ns
