use Rattle.std.specs.Prelude.{◌≡◌, ℕ, ◌==◌, ◌+◌, ◌++◌, List, map, filter, flat_map}
use Rattle.std.proofs.Common.{ap, ◌∙◌, subst, arith, append_assoc}
use Rattle.std.specs.List.{range_with_len}
use Rattle.blake2_hash.specs.Blake2b.{blake2b}
use Rattle.blake2_hash.specs.Hashing.{Holds}
use Rattle.table_model.specs.Root.{root}
use Rattle.table_store.specs.Pairs.{shown, tagged}
use Rattle.table_store.proofs.PartitionRoots.{all_bytes, parts_more, shown_pairs}
use Rattle.table_store.proofs.roots.take_hashes.Goals as goal

pub loop-p-preserved : goal.loop-p-preserved
loop-p-preserved c m h =
    let F : ℕ → List ℕ = λ p. root (blake2b 32) (map (λ g. (tagged g).1) (filter (λ g. g.partition == p) c.args.hashes.now)) in
    let p = c.loop-p.p in
    let root-is : c.in_ok-root.root.0 ≡ F p =
    c.in_ok-root.ensures.is ∙ ap (root (blake2b 32)) (ap shown (c.as_slice.ensures.value ∙ c.in_ok-pairs.ensures.are) ∙ shown_pairs (filter (λ g. g.partition == p) c.args.hashes.now)) in
    let same : (m ++ flat_map F (range_with_len 0 p)) ++ c.in_ok-root.root.0 ≡ m ++ flat_map F (range_with_len 0 (p + 1)) =
    append_assoc m (flat_map F (range_with_len 0 p)) c.in_ok-root.root.0 ∙ ap (λ l. m ++ l) (ap (λ r. flat_map F (range_with_len 0 p) ++ r) root-is ∙ parts_more F p) in
    subst (λ l. Holds c.update.new.self l) same (c.update.ensures (m ++ flat_map F (range_with_len 0 p)) (c.loop-p.invariant m h))

pub returns-clause-roots : goal.returns-clause-roots
returns-clause-roots c m h =
    let F : ℕ → List ℕ = λ p. root (blake2b 32) (map (λ g. (tagged g).1) (filter (λ g. g.partition == p) c.args.hashes.now)) in
    let end : c.loop-p.p ≡ 256 = omega arith in
    subst (λ bytes. Holds c.loop-p.hasher (m ++ flat_map F bytes)) (all_bytes c.loop-p.p end) (c.loop-p.invariant m h)
