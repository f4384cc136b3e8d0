-- What a node begins and sends that is told to collect: at least one message for each collection that it begins, and few bytes for each of its object rows.
use Rattle.std.specs.Prelude.{◌≡◌, ◌≤◌, ◌+◌, ◌*◌, ℕ, suc, Bool, true, false, not, cond, ◌&&◌, ◌==◌, nat_lt, List, [], ◌∷◌, ◌++◌, Option, Some, None, length, refl}
use Rattle.std.specs.List.{AllByRecursion, filter}
use Rattle.std.proofs.Common.{ap, sym, ◌∙◌, length-append, arith}
use Rattle.std.proofs.lemmas.Bool.{eqb-true}
use Rattle.std.proofs.lemmas.Slice.Eq.{bytes_eq-Decides}
use Rattle.crdt_core.specs.EntryLaws.{and_parts}
use Rattle.crdt_core.proofs.Each.{all_append}
use Rattle.layout_roles.specs.declared.layout.Layout.{Layout}
use Rattle.table_schema.specs.Words.{Words}
use Rattle.gc_model.specs.declared.collection.Collection.{Collection}
use Rattle.gc_model.specs.Collecting.{Open, has_confirmed, keyed, begun_with, changed, closed, in_second, missing_of}
use Rattle.wire_messages.specs.declared.message.Message.{Message}
use Rattle.wire_messages.specs.declared.message.Message.TheVariants.{Tomb}
use Rattle.cluster_machine.specs.Layouts.{layouts}
use Rattle.cluster_machine.specs.Node.{says}
use Rattle.cluster_machine.specs.Rows.{same_bytes}
use Rattle.cluster_machine.specs.Phases.{to_each, bytes_of, is_spelled}
use Rattle.cluster_machine.specs.Collects.{collection_pause, all_nodes, others, is_aged, Progress, has_bytes, goes_on_with, about, about_all}
use Rattle.machine_origins.proofs.Good.{IsGood}
use Rattle.machine_limits.specs.Bounds.{AreBounded}
use Rattle.machine_limits.proofs.Totals.{total}
use Rattle.machine_limits.proofs.Posts.{Mail, filter_fewer, Costs, costs_more, costs_both, costs_few, bytes_are}

-- ---- the nodes that are asked

one_other : (id a b : ℕ) (ns : List ℕ) → (a ≡ b → ⊥) → 1 ≤ length (filter (λ n. not (n == id)) (a ∷ b ∷ ns))
one_other id a b ns apart = by_tests (a == id) (b == id) refl refl
  where
    by_tests : (p q : Bool) → (a == id) ≡ p → (b == id) ≡ q → (let rest = filter (λ n. not (n == id)) ns in 1 ≤ length (cond (not p) (a ∷ cond (not q) (b ∷ rest) rest) (cond (not q) (b ∷ rest) rest)))
    by_tests false q e f = omega arith
    by_tests true false e f = omega arith
    by_tests true true e f = absurd (apart (eqb-true a id e ∙ sym (eqb-true b id f)))

others_some : (id : ℕ) → 1 ≤ length (others id)
others_some id = one_other id 1 2 (3 ∷ 4 ∷ 5 ∷ 6 ∷ 7 ∷ 8 ∷ 9 ∷ 10 ∷ 11 ∷ 12 ∷ 13 ∷ 14 ∷ 15 ∷ 16 ∷ []) (λ e. omega (arith, e))

pub others_few : (id : ℕ) → length (others id) ≤ 16
others_few id = filter_fewer (λ n. not (n == id)) all_nodes

missing_few : (c : Collection) → length (missing_of c) ≤ 16
missing_few c = filter_fewer (λ n. not (has_confirmed n c)) all_nodes

module _ {R : Type 0} where
  each_length : (nodes : List ℕ) (m : Message R) → length (to_each {L = Layout} nodes m) ≡ length nodes
  each_length [] m = refl
  each_length (n ∷ nodes) m = ap suc (each_length nodes m)

  each_tomb : (Q : Mail R → Type 0) (number round : ℕ) (row : List ℕ) → ((to : ℕ) → Q (record { to = to; packet = says (Tomb number round row) })) → (nodes : List ℕ) → AllByRecursion Q (to_each nodes (Tomb number round row))
  each_tomb Q number round row h [] = tt
  each_tomb Q number round row h (n ∷ nodes) = (h n, each_tomb Q number round row h nodes)

-- ---- one row after the other

module _ {R : Type 0} {join : R → R → R} {s : Words R} {P : R → Type 0} {weight : R → ℕ} (bounded : AreBounded join s P weight) (Q : Mail R → Type 0) (tombs : (to number round : ℕ) (row : List ℕ) → Q (record { to = to; packet = says (Tomb number round row) })) (id now version before : ℕ) where
  -- what it has done about rows that count so much
  pub record Going (spent : ℕ) (t : Progress R Layout) : Type 0 where
    pub begun : t.gc.begun ≤ length t.posts + before
    pub cost : Costs s t.posts (128 * spent)
    pub each : AllByRecursion Q t.posts

  wider : (a b : ℕ) (t : Progress R Layout) → a ≤ b → Going a t → Going b t
  wider a b t h g = record { begun = g.begun; cost = costs_more t.posts (128 * a) (128 * b) g.cost (omega (arith, h)); each = g.each }

  -- it sends a tombstone of a row that counts so much, and begins no more collections than it sends messages
  sends : (spent w : ℕ) (t : Progress R Layout) (o : Open) (begun : ℕ) (nodes : List ℕ) (number round : ℕ) (row : List ℕ) → length nodes ≤ 16 → length row ≡ w → 10 ≤ w → o.begun ≤ length nodes + t.gc.begun → Going spent t →
      Going (w + spent) (record { gc = o; posts = t.posts ++ to_each nodes (Tomb number round row); begun = begun })
  sends spent w t o begun nodes number round row few is least low g =
      let m : Message R = Tomb number round row in
      let was = g.begun in
      let sum : length (t.posts ++ to_each nodes m) ≡ length t.posts + length (to_each {L = Layout} nodes m) = length-append t.posts (to_each nodes m) in
      let new = each_length {R = R} nodes m in
      let here : Costs s (to_each nodes m) ((64 + length row) * 16) = costs_few nodes m (64 + length row) (64 + length row) 16 refl (omega arith) few in
      record {
        begun = omega (arith, was, sum, new, low);
        cost = costs_more _ (128 * spent + (64 + length row) * 16) (128 * (w + spent)) (costs_both t.posts (to_each nodes m) (128 * spent) ((64 + length row) * 16) g.cost here) (omega (arith, is, least));
        each = all_append Q t.posts (to_each nodes m) g.each (each_tomb Q number round row (λ to. tombs to number round row) nodes);
      }

  begins : (spent : ℕ) (r : R) (t : Progress R Layout) → P r → Going spent t → (b : Bool) → Going (weight r + spent) (cond b (record {
    gc = begun_with t.gc (s.key r) (bytes_of s r) id version;
    posts = t.posts ++ to_each (others id) (Tomb (t.gc.begun + 1) 1 (bytes_of s r));
    begun = t.begun + 1;
  }) t)
  begins spent r t has g true =
      let some = others_some id in
      sends spent (weight r) t (begun_with t.gc (s.key r) (bytes_of s r) id version) (t.begun + 1) (others id) (t.gc.begun + 1) 1 (bytes_of s r) (others_few id) (bytes_are bounded r has) (bounded.least r has) (omega (arith, some)) g
  begins spent r t has g false = wider spent (weight r + spent) t (omega arith) g

  -- the collection, and the open ones, in the second round
  abbrev second_of : Collection → Collection
  second_of c = cond (c.round == 1) (in_second c) c

  abbrev second_in : Collection → Open → Open
  second_in c o = cond (c.round == 1) (changed in_second c.number o) o

  same_begun : (c : Collection) (o : Open) → (second_in c o).begun ≡ o.begun
  same_begun c o = elim (c.round == 1) as (λ b. (let p : Open = cond b (changed in_second c.number o) o in p.begun ≡ o.begun)) [ true ↦ refl | false ↦ refl ]

  goes_on : (spent w : ℕ) (c : Collection) (ready : Option ℕ) (t : Progress R Layout) → length c.row ≡ w → 10 ≤ w → Going spent t → Going (w + spent) (goes_on_with join s layouts now c ready t)
  goes_on spent w c None t is least g = sends spent w t t.gc t.begun (missing_of c) c.number 1 c.row (missing_few c) is least (omega arith) g
  goes_on spent w c (Some ready) t is least g = by_pause (nat_lt now (ready + collection_pause))
    where
      by_pause : (b : Bool) → Going (w + spent) (cond b t (record t { gc = second_in c t.gc; posts = t.posts ++ to_each (missing_of (second_of c)) (Tomb c.number 2 c.row) }))
      by_pause true = wider spent (w + spent) t (omega arith) g
      by_pause false = (let same = same_begun c t.gc in sends spent w t (second_in c t.gc) t.begun (missing_of (second_of c)) c.number 2 c.row (missing_few (second_of c)) is least (omega (arith, same)) g)

  closes : (spent w number : ℕ) (t : Progress R Layout) → Going spent t → Going (w + spent) (record t { gc = closed number t.gc })
  closes spent w number t g = (let h = wider spent (w + spent) t (omega arith) g in record { begun = h.begun; cost = h.cost; each = h.each })

  goes_about : (spent : ℕ) (r : R) (o : Option Collection) (t : Progress R Layout) → P r → Going spent t → Going (weight r + spent) (about join s layouts id now version r o t)
  goes_about spent r None t has g = begins spent r t has g (is_spelled s r && is_aged now (s.marker r))
  goes_about spent r (Some c) t has g = by_same (has_bytes join s c.row (Some r) && (version == c.newest)) refl
    where
      by_same : (b : Bool) → (has_bytes join s c.row (Some r) && (version == c.newest)) ≡ b → Going (weight r + spent) (cond b (goes_on_with join s layouts now c c.ready t) (record t { gc = closed c.number t.gc }))
      by_same true e =
          let has_its = (and_parts (has_bytes join s c.row (Some r)) (version == c.newest) e).0 in
          let same : bytes_of s r ≡ c.row = (bytes_eq-Decides (bytes_of s r) c.row).0 (and_parts (is_spelled s r) (same_bytes (bytes_of s r) c.row) has_its).1 in
          goes_on spent (weight r) c c.ready t (ap (λ (b : List ℕ). length b) (sym same) ∙ bytes_are bounded r has) (bounded.least r has) g
      by_same false e = closes spent (weight r) c.number t g

  pub goes_all : (spent : ℕ) (rs : List R) (t : Progress R Layout) → AllByRecursion (IsGood s P) rs → Going spent t → Going (total weight rs + spent) (about_all join s layouts id now version rs t)
  goes_all spent [] t a g = wider spent (total weight [] + spent) t (omega arith) g
  goes_all spent (r ∷ rs) t a g =
      let o = keyed (s.key r) t.gc in
      let whole : total weight (r ∷ rs) ≡ weight r + total weight rs = refl in
      wider (total weight rs + (weight r + spent)) (total weight (r ∷ rs) + spent) _ (omega (arith, whole)) (goes_all (weight r + spent) rs (about join s layouts id now version r o t) a.1 (goes_about spent r o t a.0.has g))
