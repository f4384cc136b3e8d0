-- Collections that are closed one after the other, by their numbers.
use Rattle.std.specs.Prelude.{◌≡◌, ◌<◌, ℕ, Bool, true, false, cond, not, List, [], ◌∷◌, map, refl}
use Rattle.std.proofs.Common.{ap, ◌∙◌, arith, eq-eqb}
use Rattle.std.specs.List.{AllByRecursion, filter}
use Rattle.numbered_list.specs.Numbers.{Rises}
use Rattle.numbered_list.proofs.Numbering.{apart_above, left_of, none_left_out, none_past}
use Rattle.gc_model.specs.declared.collection.Collection.{Collection}
use Rattle.gc_model.specs.Collecting.{Open, IsNumbered, number_of}
use Rattle.node_parts.specs.Collects.{closed_all}

abbrev left_all : List ℕ → List Collection → List Collection
left_all [] cs = cs
left_all (n ∷ ns) cs = left_all ns (left_of number_of n cs)

closed_is : (ns : List ℕ) (gc : Open) → closed_all ns gc ≡ record gc { collections = left_all ns gc.collections }
closed_is [] gc = refl
closed_is (n ∷ ns) gc = closed_is ns (record gc { collections = left_of number_of n gc.collections })

stays_first : (x : Collection) (xs : List Collection) (ns : List ℕ) → AllByRecursion (λ n. x.number < n) ns → left_all ns (x ∷ xs) ≡ x ∷ left_all ns xs
stays_first x xs [] all = refl
stays_first x xs (n ∷ ns) all =
    ap (λ b. left_all ns (cond (not b) (x ∷ left_of number_of n xs) (left_of number_of n xs))) (apart_above x.number n all.0) ∙ stays_first x (left_of number_of n xs) ns all.1

lower : (a b : ℕ) (ns : List ℕ) → a < b → AllByRecursion (λ n. b < n) ns → AllByRecursion (λ n. a < n) ns
lower a b [] lt all = tt
lower a b (n ∷ ns) lt all = (omega (arith, all.0), lower a b ns lt all.1)

module _ (stays : Collection → Bool) where
  abbrev gone : List Collection → List ℕ
  gone cs = map number_of (filter (λ c. not (stays c)) cs)

  all_above : (low : ℕ) (cs : List Collection) → Rises low (map number_of cs) → AllByRecursion (λ n. low < n) (gone cs)
  all_above low [] rises = tt
  all_above low (x ∷ xs) rises =
      let rest = lower low x.number (gone xs) rises.0 (all_above x.number xs rises.1) in
      elim (stays x) as (λ b. AllByRecursion (λ n. low < n) (map number_of (cond (not b) (x ∷ filter (λ c. not (stays c)) xs) (filter (λ c. not (stays c)) xs)))) [ true ↦ rest | false ↦ (rises.0, rest) ]

  gone_by : (x : Collection) (xs : List Collection) → Rises x.number (map number_of xs) → left_all (gone xs) xs ≡ filter stays xs →
      (b : Bool) → stays x ≡ b → left_all (map number_of (cond (not b) (x ∷ filter (λ c. not (stays c)) xs) (filter (λ c. not (stays c)) xs))) (x ∷ xs) ≡ cond b (x ∷ filter stays xs) (filter stays xs)
  gone_by x xs rises rest true h = stays_first x xs (gone xs) (all_above x.number xs rises) ∙ ap (λ l. x ∷ l) rest
  gone_by x xs rises rest false h =
      ap (λ b. left_all (gone xs) (cond (not b) (x ∷ left_of number_of x.number xs) (left_of number_of x.number xs))) (eq-eqb x.number x.number refl)
      ∙ (ap (left_all (gone xs)) (none_left_out number_of x.number xs (none_past number_of x.number x.number xs (omega arith) rises))
      ∙ rest)

  left_gone : (low : ℕ) (cs : List Collection) → Rises low (map number_of cs) → left_all (gone cs) cs ≡ filter stays cs
  left_gone low [] rises = refl
  left_gone low (x ∷ xs) rises = gone_by x xs rises.1 (left_gone x.number xs rises.1) (stays x) refl

  -- those that don't stay are closed by their numbers
  pub closes_gone : (gc : Open) → IsNumbered gc.begun gc.collections → closed_all (gone gc.collections) gc ≡ record gc { collections = filter stays gc.collections }
  closes_gone gc numbered = closed_is (gone gc.collections) gc ∙ ap (λ cs. record gc { collections = cs }) (left_gone 0 gc.collections numbered.rises)
