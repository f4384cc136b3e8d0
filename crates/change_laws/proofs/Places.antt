-- Rows that come leave a row at each place where there was one.
use Rattle.std.specs.Prelude.{◌≡◌, ℕ, ◌==◌, true, IsTrue, Option, Some, None, List, [], ◌∷◌, refl}
use Rattle.std.specs.List.{AllByRecursion}
use Rattle.std.specs.declared.cmp.Ordering.{Ordering}
use Rattle.std.specs.declared.cmp.Ordering.TheVariants.{Less, Equal, Greater}
use Rattle.std.proofs.Common.{ap, sym, subst, ◌∙◌, inl, inr}
use Rattle.std.proofs.lemmas.Bool.{eq-eqb, eqb-true}
use Rattle.std.proofs.lemmas.List.Elements.{All-from_recursion, recursion_from_All}
use Rattle.crdt_core.specs.Lex.{by_order}
use Rattle.crdt_core.proofs.Each.{all_weaker}
use Rattle.blake2_hash.specs.Blake2b.{blake2b}
use Rattle.blake2_hash.specs.declared.digest.Hash32.{Hash32}
use Rattle.table_schema.specs.Words.{Words, partition_at, partition_of}
use Rattle.table_schema.specs.Laws.{Laws}
use Rattle.table_model.specs.Rows.{row_cmp, merged_in, rows, rows_in}
use Rattle.table_model.proofs.RowLaws.{joins, rows_proper}
use Rattle.cluster_machine.specs.Node.{Node}
use Rattle.cluster_machine.specs.Rows.{accepts_read, accepts_all}
use Rattle.drained_laws.specs.Waiting.{SomeOf, Has as HasOne}
use Rattle.drained_laws.proofs.Waits.{some_weaker}
use Rattle.change_laws.specs.Rounds.{IsOfRow}
use Rattle.change_laws.proofs.Lists.{some_filtered, some_left_over, some_one}

module _ {R : Type 0} {join : R → R → R} {s : Words R} (laws : Laws join s) where
  abbrev pub AreProper : List R → Type 0
  AreProper xs = AllByRecursion (λ r. IsTrue (s.is_proper r)) xs

  -- a row of the same place and partition
  abbrev IsLike : R → R → Type 0
  IsLike z y = (s.table y ≡ s.table z) × (s.key y ≡ s.key z) × (partition_of s y ≡ partition_of s z)

  merged_has : (r : R) (xs : List R) → IsTrue (s.is_proper r) → AreProper xs → (z : R) → HasOne xs z → SomeOf (IsLike z) (merged_in join s r xs)
  merged_has r [] p all z h = elim h [ ]
  merged_has r (x ∷ xs) p all z h =
      elim (row_cmp s r x) as (λ (o : Ordering). row_cmp s r x ≡ o → SomeOf (IsLike z) (by_order o (r ∷ x ∷ xs) (join x r ∷ xs) (x ∷ merged_in join s r xs))) [
        | Less ↦ (λ e. inr (some_weaker (λ y. y ≡ z) (IsLike z) (λ y same. itself y same) (x ∷ xs) h))
        | Equal ↦ (λ e. elim h [
          | inl same ↦ inl (let l = joined e in (l.0 ∙ ap s.table same, l.1 ∙ ap s.key same, l.2 ∙ ap (partition_of s) same))
          | inr rest ↦ inr (some_weaker (λ y. y ≡ z) (IsLike z) (λ y same. itself y same) xs rest)
        ])
        | Greater ↦ (λ e. elim h [ inl same ↦ inl (itself x same) | inr rest ↦ inr (merged_has r xs p all.1 z rest) ])
      ] refl
    where
      itself : (y : R) → y ≡ z → IsLike z y
      itself y same = (ap s.table same, ap s.key same, ap (partition_of s) same)

      joined : row_cmp s r x ≡ Equal → (s.table (join x r) ≡ s.table x) × (s.key (join x r) ≡ s.key x) × (partition_of s (join x r) ≡ partition_of s x)
      joined e =
          let same = joins laws r x p all.0 e in
          let table = laws.joined_table x r same in
          let key = laws.joined_key x r same in
          (table, key, ap partition_at (laws.one_position (join x r) x (record { first_proper = laws.joined_is_proper x r same; second_proper = all.0; table = table; key = key })))

  -- where the one had a row the other has one
  abbrev pub KeepsPlaces : List R → List R → Type 0
  KeepsPlaces a b = (p : ℕ) (z : R) → HasOne (rows_in s p (rows join s a)) z → SomeOf (λ y. (s.table y ≡ s.table z) × (s.key y ≡ s.key z)) (rows_in s p (rows join s b))

  pub places_same : (acc : List R) → KeepsPlaces acc acc
  places_same acc p z h = some_weaker (λ y. y ≡ z) (λ y. (s.table y ≡ s.table z) × (s.key y ≡ s.key z)) (λ y same. (ap s.table same, ap s.key same)) (rows_in s p (rows join s acc)) h

  places_then : (a b c : List R) → KeepsPlaces a b → KeepsPlaces b c → KeepsPlaces a c
  places_then a b c f g p z h =
      let y = some_one (λ y. (s.table y ≡ s.table z) × (s.key y ≡ s.key z)) (rows_in s p (rows join s b)) (f p z h) in
      some_weaker (λ x. (s.table x ≡ s.table y.0) × (s.key x ≡ s.key y.0)) (λ x. (s.table x ≡ s.table z) × (s.key x ≡ s.key z)) (λ x e. (e.0 ∙ y.1.1.0, e.1 ∙ y.1.1.1)) (rows_in s p (rows join s c)) (g p y.0 y.1.0)

  places_one : (acc : List R) (r : R) → IsTrue (s.is_proper r) → AreProper acc → KeepsPlaces acc (r ∷ acc)
  places_one acc r p all q z h =
      let there = rows join s acc in
      let ordered : AreProper there = recursion_from_All (λ r. IsTrue (s.is_proper r)) there (rows_proper laws acc (All-from_recursion (λ r. IsTrue (s.is_proper r)) acc all)) in
      let one = some_one (λ y. (y ≡ z) × ((partition_of s y == q) ≡ true)) there (some_left_over (λ y. y ≡ z) (λ y. partition_of s y == q) there h) in
      let at : partition_of s z ≡ q = sym (ap (partition_of s) one.1.1.0) ∙ eqb-true (partition_of s one.0) q one.1.1.1 in
      some_filtered (λ y. (s.table y ≡ s.table z) × (s.key y ≡ s.key z)) (λ y. partition_of s y == q) (rows join s (r ∷ acc))
      (some_weaker (IsLike z) (λ y. ((s.table y ≡ s.table z) × (s.key y ≡ s.key z)) × ((partition_of s y == q) ≡ true)) (λ y e. ((e.0, e.1), eq-eqb (partition_of s y) q (e.2 ∙ at))) (rows join s (r ∷ acc))
      (merged_has r there p ordered z (subst (HasOne there) one.1.1.0 one.1.0)))

  -- ---- rows of a message

  module _ {L : Type 0} where
    -- rows are proper, and each place that had a row has one
    pub record Grows (x y : Node R L) : Type 0 where
      pub proper : AreProper y.accepted
      pub places : KeepsPlaces x.accepted y.accepted

    grows_one : (now : ℕ) (x : Node R L) (bytes : List ℕ) (o : Option R) (block : Option (List ℕ)) → s.read bytes ≡ o → AreProper x.accepted → Grows x (accepts_read join s now x o block)
    grows_one now x bytes None block e all = record { proper = all; places = places_same x.accepted }
    grows_one now x bytes (Some r) block e all =
        let proper = laws.spelled_is_proper r bytes ((laws.reads_back r bytes).0 e) in
        record { proper = (proper, all); places = places_one x.accepted r proper all }

    pub grows_all : (now : ℕ) (x : Node R L) (rs : List (List ℕ × Option (List ℕ))) → AreProper x.accepted → Grows x (accepts_all join s now x rs)
    grows_all now x [] all = record { proper = all; places = places_same x.accepted }
    grows_all now x (r ∷ rs) all =
        let one = grows_one now x r.0 (s.read r.0) r.1 refl all in
        let y = accepts_read join s now x (s.read r.0) r.1 in
        let rest = grows_all now y rs one.proper in
        record { proper = rest.proper; places = places_then x.accepted y.accepted (accepts_all join s now y rs).accepted one.places rest.places }

  -- what is noted stays so
  pub noted_stays : (a b : List R) (p : ℕ) (keys : List (ℕ × Hash32)) → KeepsPlaces a b → AllByRecursion (IsOfRow s (rows_in s p (rows join s a))) keys → AllByRecursion (IsOfRow s (rows_in s p (rows join s b))) keys
  noted_stays a b p keys keeps h =
      all_weaker (IsOfRow s (rows_in s p (rows join s a))) (IsOfRow s (rows_in s p (rows join s b))) (λ (key : ℕ × Hash32) some.
      (let one = some_one (λ r. (s.table r ≡ key.0) × (blake2b 32 (s.key r) ≡ key.1.0)) (rows_in s p (rows join s a)) some in
      some_weaker (λ y. (s.table y ≡ s.table one.0) × (s.key y ≡ s.key one.0)) (λ r. (s.table r ≡ key.0) × (blake2b 32 (s.key r) ≡ key.1.0)) (λ y e. (e.0 ∙ one.1.1.0, ap (blake2b 32) e.1 ∙ one.1.1.1)) (rows_in s p (rows join s b)) (keeps p one.0 one.1.0)))
      keys h
