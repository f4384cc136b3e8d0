-- Laws that impls cite; what is defined here serves their proofs alone.
-- The order of item keys is total and tells any two apart, and the join of rows has the laws of a join.
use Rattle.std.specs.Prelude.{◌≡◌, true, length, refl}
use mathlib.Core.Bool.{Bool-set}
use mathlib.Core.HLevel.{is_prop→PathP}
use Rattle.std.proofs.Common.{ap, sym, ◌∙◌}
use Rattle.std.specs.declared.cmp.Ordering.{Ordering}
use Rattle.std.specs.declared.cmp.Ordering.TheVariants.{Less, Equal, Greater}
use Rattle.std.specs.Ordering.{nat_cmp}
use Rattle.std.specs.Cmp.{IsTotalOrder, on_total, then_total, nat_cmp_total}
use Rattle.std.specs.Cmp.Lexicographic.{slice_cmp, nat_list_cmp_total}
use Rattle.crdt_core.specs.Orders.{Identifies}
use Rattle.crdt_core.specs.IdentityLaws.{nat_identical, slice_identical, then_equal}
use Rattle.crdt_core.specs.Laws.{JoinLaws}
use Rattle.crdt_core.specs.Lex.{lex_join}
use Rattle.crdt_core.specs.LexLaws.{lex_laws}
use Rattle.crdt_core.specs.MapLaws.{map_laws}
use Rattle.blake2_hash.specs.Hash.{hash_cmp}
use Rattle.blake2_hash.specs.HashLaws.{hash_total, hash_identical}
use Rattle.k2v_rows.specs.declared.k2v_row.K2vRow.{K2vRow}
use Rattle.k2v_rows.specs.Later.{is_short}
use Rattle.k2v_rows.specs.WritesLaws.{writes_laws}
use Rattle.k2v_rows.specs.Token.{WritesMap, entries_join}
use Rattle.k2v_rows.specs.Row.{ItemKey, item_key, item_cmp, row_join}

pub item_total : IsTotalOrder item_cmp
item_total =
    then_total (then_total (then_total (on_total (λ k. k.0) hash_total) (on_total (λ k. length k.1.0) nat_cmp_total)) (on_total (λ k. k.1.0) nat_list_cmp_total)) (on_total (λ k. k.1.1) nat_list_cmp_total)

pub item_identical : Identifies item_cmp
item_identical a b e =
    let last = then_equal _ (slice_cmp nat_cmp a.1.1 b.1.1) e in
    let third = then_equal _ (slice_cmp nat_cmp a.1.0 b.1.0) last.0 in
    let second = then_equal (hash_cmp a.0 b.0) _ third.0 in
    λ i. (hash_identical a.0 b.0 second.0 i, (slice_identical nat_identical a.1.0 b.1.0 third.1 i, slice_identical nat_identical a.1.1 b.1.1 last.1 i))

-- ---- the laws of the join

abbrev parts : K2vRow → ItemKey × WritesMap
parts r = (item_key r, r.entries)

pub same_row : (a b : K2vRow) → parts a ≡ parts b → a ≡ b
same_row a b e = λ i. record {
  bucket = (e i).0.0;
  pk = (e i).0.1.0;
  sk = (e i).0.1.1;
  entries = (e i).1;
  short = is_prop→PathP (λ k. is_short (e k).0.1.0 ≡ true) (λ k. Bool-set (is_short (e k).0.1.0) true) a.short b.short i;
}

parts_by : (a b : K2vRow) (r : Ordering) → item_cmp (item_key a) (item_key b) ≡ r → parts (row_join a b) ≡ lex_join item_cmp (entries_join) (parts a) (parts b)
parts_by a b Less e = rw e refl
parts_by a b Equal e = rw e refl
parts_by a b Greater e = rw e refl

parts_join : (a b : K2vRow) → parts (row_join a b) ≡ lex_join item_cmp (entries_join) (parts a) (parts b)
parts_join a b = parts_by a b (item_cmp (item_key a) (item_key b)) refl

entries_laws : JoinLaws entries_join
entries_laws = map_laws nat_cmp_total nat_identical writes_laws

parts_laws : JoinLaws (lex_join item_cmp (entries_join))
parts_laws = lex_laws item_total item_identical entries_laws

pub row_laws : JoinLaws row_join
row_laws = record {
  commutative = λ a b. same_row _ _ (parts_join a b ∙ (parts_laws.commutative (parts a) (parts b) ∙ sym (parts_join b a)));
  associative = λ a b c. same_row _ _
      (parts_join (row_join a b) c
      ∙ (ap (λ t. lex_join item_cmp (entries_join) t (parts c)) (parts_join a b)
      ∙ (parts_laws.associative (parts a) (parts b) (parts c)
      ∙ (ap (lex_join item_cmp (entries_join) (parts a)) (sym (parts_join b c)) ∙ sym (parts_join a (row_join b c))))));
  idempotent = λ a. same_row _ _ (parts_join a a ∙ parts_laws.idempotent (parts a));
}
