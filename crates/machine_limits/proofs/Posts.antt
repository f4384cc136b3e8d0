-- How many bytes a node sends at once, and that none of it lacks a spelling.
use Rattle.std.specs.Prelude.{◌≡◌, ◌≤◌, ◌+◌, ◌*◌, ℕ, zero, suc, Bool, true, false, ◌==◌, nat_lt, cond, List, [], ◌∷◌, ◌++◌, Option, Some, None, option_map, is_some, length, map, sum_by, slice_get, refl, ⊤}
use Rattle.std.specs.List.{AllByRecursion, filter, find, flat_map, list_all, list_any}
use Rattle.std.specs.Option.{unwrap_or}
use Rattle.std.proofs.Common.{ap, sym, subst, ◌∙◌, mul-suc, mul-le-mul_left, length-append, append_assoc, arith}
use Rattle.std.proofs.lemmas.List.Recursion.{is_sum_by}
use Rattle.crdt_core.specs.EntryLaws.{and_both}
use Rattle.crdt_core.proofs.Each.{all_weaker}
use Rattle.layout_roles.specs.declared.layout.Layout.{Layout}
use Rattle.view_model.specs.View.{View, newest, layout_at}
use Rattle.table_schema.specs.Words.{Words, partition_of}
use Rattle.table_model.specs.Rows.{rows}
use Rattle.wire_messages.specs.Size.{plus, rows_length, block_length, stored_length, size}
use Rattle.wire_messages.specs.declared.message.Message.{Message}
use Rattle.wire_messages.specs.declared.message.Message.TheVariants.{Store}
use Rattle.wire_messages.specs.declared.message.Tag.TheVariants.{Round as ForRound, Item as ForItem}
use Rattle.cluster_machine.specs.Layouts.{layouts, set_of, set_in, stored_sets}
use Rattle.cluster_machine.specs.Node.{Item, Part, Walk, Node, says, Post}
use Rattle.cluster_machine.specs.Node as machine
use Rattle.cluster_machine.specs.Rows.{same_bytes, block_at}
use Rattle.cluster_machine.specs.Phases.{with_node, in_order, nodes_of, to_each, bytes_of, is_spelled}
use Rattle.cluster_machine.specs.Phases as phases
use Rattle.cluster_machine.specs.Rounds.{numbered_from, has_ended, rows_at, found, with_its_block, walk_with, walks_of, asks_at, first_asks, starts, sends_after, pushes_rows, are_spelled, sets_in, parts_of}
use Rattle.walk_model.specs.Noting.{tables_of, is_noted}
use Rattle.cluster_machine.specs.Acts.{item_posts}
use Rattle.cluster_machine.specs.World.{World, packet_size, sent_bytes}
use Rattle.cluster_machine.specs.Step.{sent_by}
use Rattle.machine_origins.proofs.Good.{IsGood, rows_good}
use Rattle.machine_origins.proofs.Lists.{all_filter}
use Rattle.machine_limits.specs.Bounds.{AreBounded}
use Rattle.machine_limits.specs.Steps.{IsShort}
use Rattle.machine_limits.proofs.Totals.{total, total_times, total_weaker, total_map, total_filter}
use Rattle.machine_limits.proofs.Contents.{rules_of, load, from_part, part_counts, all_parts_count}

abbrev pub Mail : Type 0 → Type 0
Mail R = Post R Layout

module _ {R : Type 0} (s : Words R) where
  -- the bytes of what is sent, none where a row has no spelling
  abbrev pub mail_bytes : List (Mail R) → Option ℕ
  mail_bytes [] = Some 0
  mail_bytes (p ∷ ps) = plus (packet_size s p.packet) (mail_bytes ps)

  -- these count so many bytes at most
  pub record Costs (posts : List (Mail R)) (limit : ℕ) : Type 0 where
    pub bytes : ℕ
    pub is : mail_bytes posts ≡ Some bytes
    pub within : bytes ≤ limit

  pub mail_sent : (w : World R Layout) (n : ℕ) (posts : List (Mail R)) → sent_bytes s (sent_by w n posts) ≡ mail_bytes posts
  mail_sent w n [] = refl
  mail_sent w n (p ∷ ps) = ap (plus (packet_size s p.packet)) (mail_sent w n ps)

plus_sum : (o p : Option ℕ) (a b : ℕ) → o ≡ Some a → p ≡ Some b → plus o p ≡ Some (a + b)
plus_sum o p a b e f = rw (e, f) refl

module _ {R : Type 0} {s : Words R} where
  pub costs_nothing : (limit : ℕ) → Costs s [] limit
  costs_nothing limit = record { bytes = 0; is = refl; within = omega arith }

  pub costs_more : (posts : List (Mail R)) (a b : ℕ) → Costs s posts a → a ≤ b → Costs s posts b
  costs_more posts a b c h = let low : c.bytes ≤ a = c.within in record { bytes = c.bytes; is = c.is; within = omega arith }

  pub costs_one : (p : Mail R) (b : ℕ) → packet_size s p.packet ≡ Some b → Costs s (p ∷ []) b
  costs_one p b e = record { bytes = b + 0; is = plus_sum _ (Some 0) b 0 e refl; within = omega arith }

  costs_cons : (p : Mail R) (ps : List (Mail R)) (a b c : ℕ) → packet_size s p.packet ≡ Some c → c ≤ a → Costs s ps b → Costs s (p ∷ ps) (a + b)
  costs_cons p ps a b c e h k = let low : k.bytes ≤ b = k.within in record { bytes = c + k.bytes; is = plus_sum _ _ c k.bytes e k.is; within = omega arith }

  pub costs_both : (xs ys : List (Mail R)) (a b : ℕ) → Costs s xs a → Costs s ys b → Costs s (xs ++ ys) (a + b)
  costs_both [] ys a b c d = costs_more ys b (a + b) d (omega arith)
  costs_both (x ∷ xs) ys a b c d =
      by_head (packet_size s x.packet) (mail_bytes s xs) refl refl c.bytes c.is c.within (λ k f. costs_both xs ys k b (record { bytes = k; is = f; within = omega arith }) d)
    where
      by_head : (o p : Option ℕ) → packet_size s x.packet ≡ o → mail_bytes s xs ≡ p → (n : ℕ) → plus o p ≡ Some n → n ≤ a → ((k : ℕ) → mail_bytes s xs ≡ Some k → Costs s (xs ++ ys) (k + b)) → Costs s (x ∷ (xs ++ ys)) (a + b)
      by_head None p e f n g h rest = cc
      by_head (Some m) None e f n g h rest = cc
      by_head (Some m) (Some k) e f n g h rest =
          let sum : m + k ≡ n = cc in
          costs_more (x ∷ (xs ++ ys)) (m + (k + b)) (a + b) (costs_cons x (xs ++ ys) m (k + b) m e (omega arith) (rest k f)) (omega arith)

  -- a message to each of these nodes
  pub costs_each : (nodes : List ℕ) (m : Message R) (b c : ℕ) → size s m ≡ Some b → b ≤ c → Costs s (to_each nodes m) (c * length nodes)
  costs_each [] m b c e h = costs_nothing (c * 0)
  costs_each (n ∷ nodes) m b c e h =
      let more : c * suc (length nodes) ≡ c * length nodes + c = mul-suc c (length nodes) in
      costs_more _ (c + c * length nodes) (c * suc (length nodes)) (costs_cons (record { to = n; packet = says m }) (to_each nodes m) c (c * length nodes) b e h (costs_each nodes m b c e h)) (omega arith)

  pub costs_few : (nodes : List ℕ) (m : Message R) (b c most : ℕ) → size s m ≡ Some b → b ≤ c → length nodes ≤ most → Costs s (to_each nodes m) (c * most)
  costs_few nodes m b c most e h few = costs_more _ (c * length nodes) (c * most) (costs_each nodes m b c e h) (mul-le-mul_left c few)

pub filter_fewer : {X : Type 0} (test : X → Bool) (xs : List X) → length (filter test xs) ≤ length xs
filter_fewer test [] = omega arith
filter_fewer test (x ∷ xs) = let rest = filter_fewer test xs in elim (test x) as (λ b. length (cond b (x ∷ filter test xs) (filter test xs)) ≤ suc (length xs)) [ true ↦ omega (arith, rest) | false ↦ omega (arith, rest) ]

-- ---- views

-- at most a hundred layouts, of sets of three nodes
pub record ViewFits (v : View Layout) : Type 0 where
  pub few : length v.layouts ≤ 100
  pub sets : AllByRecursion (λ (l : Layout). AllByRecursion (λ (set : List ℕ). length set ≤ 3) (layouts.reading.sets l)) v.layouts

abbrev pub SetsFit : Layout → Type 0
SetsFit l = AllByRecursion (λ (set : List ℕ). length set ≤ 3) (layouts.reading.sets l)

got_few : (sets : List (List ℕ)) (p : ℕ) → AllByRecursion (λ (set : List ℕ). length set ≤ 3) sets → length (unwrap_or (slice_get sets p) []) ≤ 3
got_few [] p a = omega arith
got_few (s ∷ sets) zero a = a.0
got_few (s ∷ sets) (suc p) a = got_few sets p a.1

abbrev pub OptionFits : Option Layout → Type 0
OptionFits None = ⊤
OptionFits (Some l) = SetsFit l

pub set_few : (o : Option Layout) (p : ℕ) → OptionFits o → length (set_in layouts o p) ≤ 3
set_few None p h = omega arith
set_few (Some l) p h = got_few (layouts.reading.sets l) p h

found_fits : (i : ℕ) (ls : List Layout) → AllByRecursion SetsFit ls → OptionFits (find (λ l. layouts.reading.version l == i) ls)
found_fits i [] a = tt
found_fits i (l ∷ ls) a = elim (layouts.reading.version l == i) as (λ b. OptionFits (cond b (Some l) (find (λ l. layouts.reading.version l == i) ls))) [ true ↦ a.0 | false ↦ found_fits i ls a.1 ]

pub layout_fits : (v : View Layout) (i : ℕ) → ViewFits v → OptionFits (layout_at layouts.reading v i)
layout_fits v i h = found_fits i v.layouts h.sets

with_few : (n : ℕ) (ns : List ℕ) → length (with_node n ns) ≤ suc (length ns)
with_few n [] = omega arith
with_few n (m ∷ ms) =
    let rest = with_few n ms in
    elim (n == m) as (λ b. length (cond b (m ∷ ms) (cond (nat_lt n m) (n ∷ m ∷ ms) (m ∷ with_node n ms))) ≤ suc (suc (length ms))) [
      | true ↦ omega arith
      | false ↦ (elim (nat_lt n m) as (λ b. length (cond b (n ∷ m ∷ ms) (m ∷ with_node n ms)) ≤ suc (suc (length ms))) [ true ↦ omega arith | false ↦ omega arith ])
    ]

order_few : (ns : List ℕ) → length (in_order ns) ≤ length ns
order_few [] = omega arith
order_few (n ∷ ns) = let a = with_few n (in_order ns) in let b = order_few ns in omega arith

sets_few : (p : ℕ) (ls : List Layout) → AllByRecursion SetsFit ls → length (flat_map (λ (set : List ℕ). set) (map (λ l. set_of layouts l p) ls)) ≤ 3 * length ls
sets_few p [] a = omega arith
sets_few p (l ∷ ls) a =
    let here = set_few (Some l) p a.0 in
    let rest = sets_few p ls a.1 in
    let c = length-append (set_of layouts l p) (flat_map (λ (set : List ℕ). set) (map (λ l. set_of layouts l p) ls)) in
    omega arith

-- a partition has at most 300 nodes in all stored versions
pub nodes_few : (v : View Layout) (p : ℕ) → ViewFits v → length (nodes_of (stored_sets layouts v p)) ≤ 300
nodes_few v p h =
    let a = order_few (flat_map (λ (set : List ℕ). set) (stored_sets layouts v p)) in
    let b = sets_few p v.layouts h.sets in
    let c = h.few in
    omega arith

-- parts of ascending partitions from p on, each with three nodes at most
abbrev pub ArePartsOf : ℕ → List Part → Type 0
ArePartsOf p [] = ⊤
ArePartsOf p (part ∷ parts) = (p ≤ part.partition) × (length part.set ≤ 3) × ArePartsOf (suc part.partition) parts

pub parts_lower : (p q : ℕ) (parts : List Part) → p ≤ q → ArePartsOf q parts → ArePartsOf p parts
parts_lower p q [] h a = tt
parts_lower p q (part ∷ parts) h a = let low = a.0 in (omega arith, a.1, a.2)

pub parts_filter : (test : Part → Bool) (p : ℕ) (parts : List Part) → ArePartsOf p parts → ArePartsOf p (filter test parts)
parts_filter test p [] a = tt
parts_filter test p (part ∷ parts) a =
    let rest = parts_filter test (suc part.partition) parts a.2 in
    let low = a.0 in
    elim (test part) as (λ b. ArePartsOf p (cond b (part ∷ filter test parts) (filter test parts))) [ true ↦ (a.0, a.1, rest) | false ↦ parts_lower p (suc part.partition) (filter test parts) (omega arith) rest ]

parts_map : (there : Option Layout) (p : ℕ) (parts : List Part) → OptionFits there → ArePartsOf p parts → ArePartsOf p (map (λ (part : Part). record { partition = part.partition; set = set_in layouts there part.partition }) parts)
parts_map there p [] h a = tt
parts_map there p (part ∷ parts) h a = (a.0, set_few there part.partition h, parts_map there (suc part.partition) parts h a.2)

numbered_parts : (p : ℕ) (sets : List (List ℕ)) → AllByRecursion (λ (set : List ℕ). length set ≤ 3) sets → ArePartsOf p (numbered_from p sets)
numbered_parts p [] a = tt
numbered_parts p (set ∷ sets) a = (omega arith, a.0, numbered_parts (suc p) sets a.1)

module _ {R : Type 0} (join : R → R → R) (s : Words R) where
  sets_parts : (o : Option Layout) → OptionFits o → ArePartsOf 0 (sets_in join s layouts o)
  sets_parts None h = tt
  sets_parts (Some l) h = numbered_parts 0 (layouts.reading.sets l) h

  pub parts_are : (id : ℕ) (x : Node R Layout) (here there : Option Layout) → OptionFits here → OptionFits there → ArePartsOf 0 (parts_of join s layouts id x here there)
  parts_are id x here there h k = parts_map there 0 (filter _ (sets_in join s layouts here)) k (parts_filter _ 0 (sets_in join s layouts here) (sets_parts here h))

-- ---- rows that are sent

counted_some : (o : Option (List ℕ)) (n : ℕ) → option_map length o ≡ Some n → is_some o ≡ true
counted_some None n e = cc
counted_some (Some bytes) n e = refl

counted_length : (o : Option (List ℕ)) (n : ℕ) → option_map length o ≡ Some n → length (phases.spelled o) ≡ n
counted_length None n e = cc
counted_length (Some bytes) n e = cc

module _ {R : Type 0} {join : R → R → R} {s : Words R} {P : R → Type 0} {weight : R → ℕ} (bounded : AreBounded join s P weight) where
  abbrev Good : R → Type 0
  Good = IsGood s P

  pub spelled_so : (r : R) → P r → is_spelled s r ≡ true
  spelled_so r f = counted_some (s.spelling r) (weight r) (bounded.counts r f)

  pub bytes_are : (r : R) → P r → length (bytes_of s r) ≡ weight r
  bytes_are r f = counted_length (s.spelling r) (weight r) (bounded.counts r f)

  pub all_spelled : (rs : List R) → AllByRecursion Good rs → list_all (is_spelled s) rs ≡ true
  all_spelled [] a = refl
  all_spelled (r ∷ rs) a = and_both (is_spelled s r) (list_all (is_spelled s) rs) (spelled_so r a.0.has) (all_spelled rs a.1)

  pub rows_count : (rs : List R) → AllByRecursion Good rs → rows_length s rs ≡ Some (total weight rs)
  rows_count [] a = refl
  rows_count (r ∷ rs) a = plus_sum _ _ (weight r) (total weight rs) (bounded.counts r a.0.has) (rows_count rs a.1)

  -- the block that a row needs is a mebibyte at most
  needs : (o : Option (List ℕ)) (x : Node R Layout) → AllByRecursion (λ (b : machine.Block). IsShort b.bytes) x.blocks → block_length (found join s x o) ≤ 1048576
  needs None x a = omega arith
  needs (Some hash) x a = by_found x.blocks a
    where
      by_found : (bs : List machine.Block) → AllByRecursion (λ (b : machine.Block). IsShort b.bytes) bs → block_length (block_at bs hash) ≤ 1048576
      by_found [] h = omega arith
      by_found (b ∷ bs) h = elim (same_bytes b.hash hash) as (λ c. block_length (cond c (Some b.bytes) (block_at bs hash)) ≤ 1048576) [ true ↦ h.0.short | false ↦ by_found bs h.1 ]

  beside_counts : (r : R) (x : Node R Layout) → P r → AllByRecursion (λ (b : machine.Block). IsShort b.bytes) x.blocks → stored_length (with_its_block join s x r) ≤ 39000 * weight r
  beside_counts r x f a = by_need (s.live_block r) refl (bytes_are r f) (bounded.least r f)
    where
      by_need : (o : Option (List ℕ)) → s.live_block r ≡ o → length (bytes_of s r) ≡ weight r → 10 ≤ weight r → length (bytes_of s r) + block_length (found join s x o) ≤ 39000 * weight r
      by_need None g e least = omega arith
      by_need (Some hash) g e least = let w = bounded.with_block r hash f g in let b = needs (Some hash) x a in omega arith

  -- ---- the rows of a partition to some nodes

  module _ (x : Node R Layout) (good : AllByRecursion Good x.accepted) (blocks : AllByRecursion (λ (b : machine.Block). IsShort b.bytes) x.blocks) where
    stored_counts : (rs : List R) → AllByRecursion Good rs → sum_by stored_length (map (with_its_block join s x) rs) ≤ 39000 * total weight rs
    stored_counts rs a =
        let f : List ℕ × Option (List ℕ) → ℕ = stored_length in
        let g = with_its_block join s x in
        let one : total stored_length (map g rs) ≡ sum_by stored_length (map g rs) = is_sum_by (total stored_length) stored_length refl (λ y ys. refl) (map g rs) in
        let two = total_map g stored_length rs in
        let three = total_weaker (λ r. stored_length (g r)) (λ r. 39000 * weight r) rs (all_weaker Good (λ r. stored_length (g r) ≤ 39000 * weight r) (λ r i. beside_counts r x i.has blocks) rs a) in
        let four = total_times 39000 weight rs in
        omega arith

    rows_cost : (number p : ℕ) (nodes : List ℕ) (rs : List R) → length nodes ≤ 3 → AllByRecursion Good rs → Costs s (pushes_rows join s layouts x number p nodes rs) (120000 * total weight rs)
    rows_cost number p nodes [] few a = costs_nothing (120000 * 0)
    rows_cost number p nodes (r ∷ rs) few a =
        let m : Message R = Store (ForRound number p) (newest layouts.reading x.view) p (map (with_its_block join s x) (r ∷ rs)) in
        let bytes = sum_by stored_length (map (with_its_block join s x) (r ∷ rs)) in
        let low : bytes ≤ 39000 * total weight (r ∷ rs) = stored_counts (r ∷ rs) a in
        let least = bounded.least r a.0.has in
        let whole : total weight (r ∷ rs) ≡ weight r + total weight rs = refl in
        let c = 40000 * total weight (r ∷ rs) in
        costs_more _ (c * 3) (120000 * total weight (r ∷ rs)) (costs_few nodes m (64 + bytes) c 3 refl (omega arith) few) (omega arith)

    at_good : (p : ℕ) → AllByRecursion Good (rows_at join s x p)
    at_good p = all_filter Good (λ r. partition_of s r == p) (rows join s x.accepted) (rows_good (rules_of bounded) x.accepted good)

    pub parts_spelled : (parts : List Part) → are_spelled join s layouts x parts ≡ true
    parts_spelled [] = refl
    parts_spelled (part ∷ parts) = and_both (list_all (is_spelled s) (rows_at join s x part.partition)) (are_spelled join s layouts x parts) (all_spelled (rows_at join s x part.partition) (at_good part.partition)) (parts_spelled parts)

    -- what a walk asks at its beginning
    asks_cost : (number p to : ℕ) (tables : List ℕ) → Costs s (map (λ (o : ℕ × List ℕ). asks_at join s layouts x number p to o.0 o.1) (map (λ (table : ℕ). (table, [])) tables)) (96 * length tables)
    asks_cost number p to [] = costs_nothing (96 * 0)
    asks_cost number p to (table ∷ tables) =
        let here = costs_one (asks_at join s layouts x number p to table []) 96 refl in
        let rest = asks_cost number p to tables in
        costs_more _ (96 + 96 * length tables) (96 * suc (length tables)) (costs_both (asks_at join s layouts x number p to table [] ∷ []) _ 96 (96 * length tables) here rest) (omega arith)

    tables_few : (rs : List R) → AllByRecursion Good rs → 96 * length (tables_of s rs) ≤ 30 * total weight rs
    tables_few [] a = omega arith
    tables_few (r ∷ rs) a =
        let three = filter_fewer (λ (table : ℕ). list_any (λ (r : R). s.table r == table) (r ∷ rs)) (1 ∷ 2 ∷ 3 ∷ []) in
        let least = bounded.least r a.0.has in
        let whole : total weight (r ∷ rs) ≡ weight r + total weight rs = refl in
        omega (arith, three, least, whole)

    walks_cost : (number p : ℕ) (nodes : List ℕ) → Costs s (starts join s layouts x number (map (walk_with join s x p) nodes)) (30 * total weight (rows_at join s x p) * length nodes)
    walks_cost number p [] = costs_nothing _
    walks_cost number p (n ∷ nodes) =
        let c = 30 * total weight (rows_at join s x p) in
        let few : 96 * length (tables_of s (rows_at join s x p)) ≤ c = tables_few (rows_at join s x p) (at_good p) in
        let more : c * suc (length nodes) ≡ c * length nodes + c = mul-suc c (length nodes) in
        let here = costs_more _ _ c (asks_cost number p n (tables_of s (rows_at join s x p))) few in
        costs_more _ (c + c * length nodes) (c * suc (length nodes))
        (costs_both (first_asks join s layouts x number (walk_with join s x p n)) (starts join s layouts x number (map (walk_with join s x p) nodes)) c (c * length nodes) here (walks_cost number p nodes)) (omega (arith, more))

    starts_more : (number : ℕ) (xs ys : List Walk) → starts join s layouts x number (xs ++ ys) ≡ starts join s layouts x number xs ++ starts join s layouts x number ys
    starts_more number [] ys = refl
    starts_more number (w ∷ xs) ys = ap (λ l. first_asks join s layouts x number w ++ l) (starts_more number xs ys) ∙ sym (append_assoc (first_asks join s layouts x number w) (starts join s layouts x number xs) (starts join s layouts x number ys))

    -- parts of ascending partitions, each with three nodes at most
    parts_cost_from : (number q : ℕ) (nodes : Part → List ℕ) (parts : List Part) → ArePartsOf q parts → ((part : Part) → length part.set ≤ 3 → length (nodes part) ≤ 3) →
        Costs s (starts join s layouts x number (walks_of join s x nodes parts)) (120000 * total weight (from_part s q (rows join s x.accepted)))
    parts_cost_from number q nodes [] a few = costs_nothing (120000 * total weight (from_part s q (rows join s x.accepted)))
    parts_cost_from number q nodes (part ∷ parts) a few =
        let all = rows join s x.accepted in
        let mine = rows_at join s x part.partition in
        let c = 30 * total weight mine in
        let three : c * length (nodes part) ≤ c * 3 = mul-le-mul_left c (few part a.1) in
        let here = costs_more _ (c * length (nodes part)) (120000 * total weight mine) (walks_cost number part.partition (nodes part)) (omega (arith, three)) in
        let rest = parts_cost_from number (suc part.partition) nodes parts a.2 few in
        let low = part_counts s weight q part.partition all a.0 in
        subst (λ posts. Costs s posts (120000 * total weight (from_part s q all))) (sym (starts_more number (map (walk_with join s x part.partition) (nodes part)) (walks_of join s x nodes parts)))
        (costs_more _ (120000 * total weight mine + 120000 * total weight (from_part s (suc part.partition) all)) (120000 * total weight (from_part s q all))
        (costs_both (starts join s layouts x number (map (walk_with join s x part.partition) (nodes part))) (starts join s layouts x number (walks_of join s x nodes parts)) _ _ here rest) (omega (arith, low)))

    pub parts_cost : (number : ℕ) (nodes : Part → List ℕ) (parts : List Part) → ArePartsOf 0 parts → ((part : Part) → length part.set ≤ 3 → length (nodes part) ≤ 3) →
        Costs s (starts join s layouts x number (walks_of join s x nodes parts)) (120000 * load join s weight x.accepted)
    parts_cost number nodes parts a few =
        let low = all_parts_count s weight (rows join s x.accepted) in
        costs_more _ (120000 * total weight (from_part s 0 (rows join s x.accepted))) (120000 * load join s weight x.accepted) (parts_cost_from number 0 nodes parts a few) (omega (arith, low))

    -- what a walk asks on
    further_cost : (number p to table : ℕ) (prefixes : List (List ℕ)) → AllByRecursion (λ (q : List ℕ). length q ≤ 32) prefixes → Costs s (map (asks_at join s layouts x number p to table) prefixes) (128 * length prefixes)
    further_cost number p to table [] a = costs_nothing (128 * 0)
    further_cost number p to table (prefix ∷ prefixes) a =
        let short = a.0 in
        let here = costs_more _ (64 + (length prefix + 32)) 128 (costs_one (asks_at join s layouts x number p to table prefix) (64 + (length prefix + 32)) refl) (omega (arith, short)) in
        costs_more _ (128 + 128 * length prefixes) (128 * suc (length prefixes)) (costs_both (asks_at join s layouts x number p to table prefix ∷ []) _ 128 (128 * length prefixes) here (further_cost number p to table prefixes a.1)) (omega arith)

    -- what a walk sends after an answer
    pub after_cost : (number : ℕ) (w : Walk) (table : ℕ) (asked : List (List ℕ)) → length asked ≤ 256 → AllByRecursion (λ (q : List ℕ). length q ≤ 32) asked → Costs s (sends_after join s layouts x number w table asked) (120000 * load join s weight x.accepted + 32768)
    after_cost number w table asked few short =
        let p = w.state.partition in
        let all = rows join s x.accepted in
        let mine = rows_at join s x p in
        let one = total_filter weight (is_noted s w.state.noted) mine in
        let two = total_filter weight (λ (r : R). partition_of s r == p) all in
        elim (has_ended w) as (λ b. Costs s (cond b (pushes_rows join s layouts x number p (w.node ∷ []) (filter (is_noted s w.state.noted) mine)) (map (asks_at join s layouts x number p w.node table) asked)) (120000 * load join s weight x.accepted + 32768)) [
          | true ↦ costs_more _ (120000 * total weight (filter (is_noted s w.state.noted) mine)) (120000 * load join s weight x.accepted + 32768)
              (rows_cost number p (w.node ∷ []) (filter (is_noted s w.state.noted) mine) (omega arith) (all_filter Good (is_noted s w.state.noted) mine (at_good p))) (omega (arith, one, two))
          | false ↦ costs_more _ (128 * length asked) (120000 * load join s weight x.accepted + 32768) (further_cost number p w.node table asked short) (omega (arith, few))
        ]

    pub part_spelled : (p : ℕ) → list_all (is_spelled s) (rows_at join s x p) ≡ true
    part_spelled p = all_spelled (rows_at join s x p) (at_good p)

  -- ---- the outbox

  pub items_cost : (view : View Layout) (items : List (Item R)) → ViewFits view → AllByRecursion (λ (item : Item R). P item.row) items → AllByRecursion (λ (item : Item R). weight item.row ≤ 64) items → Costs s (flat_map (item_posts join s layouts view) items) (38400 * length items)
  items_cost view [] fits a b = costs_nothing (38400 * 0)
  items_cost view (item ∷ items) fits a b =
      let p = partition_of s item.row in
      let m : Message R = Store (ForItem item.number) (newest layouts.reading view) p ((bytes_of s item.row, None) ∷ []) in
      let e = bytes_are item.row a.0 in
      let w = b.0 in
      let bytes = sum_by stored_length ((bytes_of s item.row, None) ∷ []) in
      let sum : bytes ≡ 0 + (length (bytes_of s item.row) + 0) = refl in
      let here = costs_few (nodes_of (stored_sets layouts view p)) m (64 + bytes) 128 300 refl (omega arith) (nodes_few view p fits) in
      costs_more _ (128 * 300 + 38400 * length items) (38400 * suc (length items)) (costs_both (item_posts join s layouts view item) (flat_map (item_posts join s layouts view) items) (128 * 300) (38400 * length items) here (items_cost view items fits a.1 b.1)) (omega arith)

  pub items_spelled : (items : List (Item R)) → AllByRecursion (λ (item : Item R). P item.row) items → list_all (λ (item : Item R). is_spelled s item.row) items ≡ true
  items_spelled [] a = refl
  items_spelled (item ∷ items) a = and_both (is_spelled s item.row) (list_all (λ (item : Item R). is_spelled s item.row) items) (spelled_so item.row a.0) (items_spelled items a.1)
