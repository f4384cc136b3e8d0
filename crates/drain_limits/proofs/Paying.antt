-- What a node sends when a message comes to it is paid by the message's load.
use Rattle.std.specs.Prelude.{◌≡◌, ◌≤◌, ◌<◌, ◌+◌, ◌*◌, ◌-◌, ℕ, suc, Bool, true, false, not, ◌==◌, ◌&&◌, nat_lt, cond, Option, Some, None, List, [], ◌∷◌, ◌++◌, length, map, filter, refl, ⊤}
use Rattle.std.specs.List.{AllByRecursion, list_all}
use Rattle.std.proofs.Common.{ap, sym, subst, inl, inr, arith}
use Rattle.std.proofs.Math.Nat.{mul_comm, mul-suc, mul-le-mul}
use Rattle.std.proofs.lemmas.Bool.{eqb-true, cases_lt}
use Rattle.crdt_core.specs.EntryLaws.{and_parts}
use Rattle.crdt_core.proofs.Each.{all_weaker}
use Rattle.blake2_hash.specs.Blake2b.{blake2b}
use Rattle.blake2_hash.specs.declared.digest.Hash32.{Hash32}
use Rattle.table_schema.specs.Words.{Words}
use Rattle.table_model.specs.Root.{every_byte}
use Rattle.table_model.specs.Rows.{row_at, rows, range}
use Rattle.view_model.specs.View.{newest}
use Rattle.gc_model.specs.declared.collection.Collection.{Collection}
use Rattle.gc_model.specs.declared.collection.GcEnd.{GcEnd}
use Rattle.gc_model.specs.declared.collection.GcEnd.TheVariants.{Wait, Closed, Complete}
use Rattle.gc_model.specs.Collecting.{Open, numbered as numbered_open, closed, answer_end, answered}
use Rattle.walk_model.specs.Noting.{is_noted}
use Rattle.walk_model.specs.Sets.{value_at}
use Rattle.walk_model.specs.Walking.{is_open}
use Rattle.walk_model.proofs.Bytes.{full, all_bytes}
use Rattle.wire_messages.specs.declared.message.Message.{Message}
use Rattle.wire_messages.specs.declared.message.Message.TheVariants.{Get, Row, Range, Rows, Store, Stored, Behind, NotHere, BlockGet, Block, NoBlock, Walk as AsksValue, Same as HasSame, Differ, Tomb, Tombed, Forget}
use Rattle.wire_messages.specs.declared.message.Tag.{Tag}
use Rattle.wire_messages.specs.declared.message.Tag.TheVariants.{Call as ForCall, Round as ForRound, Item as ForItem}
use Rattle.cluster_machine.specs.Layouts.{Layouts, is_given, is_stored}
use Rattle.cluster_machine.specs.Node.{Walk, Round, Mending, Node, Packet, says, shows, Post, Did, quiet}
use Rattle.cluster_machine.specs.Collects.{all_nodes, others, has_bytes, has_digest, forgets_row, drops_row, finishes, answered_to}
use Rattle.cluster_machine.specs.Phases.{to_each, bytes_of, is_spelled, call_at, row_came, rows_came, stored_came, block_came}
use Rattle.cluster_machine.specs.Rows.{same_bytes, block_at, accepts_all}
use Rattle.cluster_machine.specs.Rounds.{rows_at, pairs_at, value_here, children_here, asked_after, walk_after, has_ended, is_walk, walk_at, asks_at, pushes_rows, sends_after, round_walks, mending_walks, at_walk, mending_came, with_mending, with_lasting, late_came, answer_came}
use Rattle.cluster_machine.specs.Receives.{most_rows, answers, where_stored, gives_row, gives_rows, gives_block, compared, compares, round_came, walks_on, hears, receives}
use Rattle.cluster_machine.proofs.Asked.{few_asked, asked_longer}
use Rattle.machine_origins.proofs.Lists.{all_found}
use Rattle.machine_limits.proofs.Totals.{total, total_same, total_times}
use Rattle.drained_laws.proofs.Weights.{few_left}
use Rattle.drained_laws.proofs.Replies.{IsQuiet, is_quiet, in_call, row_quiet, rows_quiet, stored_quiet, block_quiet}
use Rattle.drain_limits.specs.Loads.{Keys, HasKeys, under, answer_load, tag_load, message_load, packet_load}
use Rattle.drain_limits.proofs.Counting.{total_sum, under_parts}
use Rattle.drain_limits.proofs.Asking.{asked_few}

-- ---- sums

-- what is asked at longer prefixes, by how many key hashes are below all of them
asked_sum : (keys : List (List ℕ)) (qs : List (List ℕ)) (m u : ℕ) → length qs ≤ u → total (λ q. under q keys) qs ≤ u → total (λ q. 4 + 4 * (under q keys * m)) qs ≤ 4 * (u * suc m)
asked_sum keys qs m u count sum =
    let a = total_sum (λ (q : List ℕ). 4) (λ (q : List ℕ). 4 * (under q keys * m)) qs in
    let b = total_times 4 (λ (q : List ℕ). under q keys * m) qs in
    let c = total_same (λ (q : List ℕ). under q keys * m) (λ (q : List ℕ). m * under q keys) (λ q. mul_comm (under q keys) m) qs in
    let d = total_times m (λ (q : List ℕ). under q keys) qs in
    let e = fours qs in
    let f : m * total (λ (q : List ℕ). under q keys) qs ≤ m * u = mul-le-mul (omega arith) sum in
    let g = mul_comm m u in
    let h = mul-suc u m in
    omega (arith, a, b, c, d, e, f, g, h, count)
  where
    fours : (qs : List (List ℕ)) → total (λ (q : List ℕ). 4) qs ≡ 4 * length qs
    fours [] = refl
    fours (q ∷ qs) = let rest = fours qs in omega (arith, rest)

module _ (keys : Keys) {R L : Type 0} where
  -- what posts lead to
  abbrev pub posts_load : List (Post R L) → ℕ
  posts_load [] = 0
  posts_load (p ∷ ps) = packet_load keys p.packet + posts_load ps

  -- they and all that they lead to are at most so many
  abbrev pub IsPaid : ℕ → Did R L → Type 0
  IsPaid i d = length d.posts + posts_load d.posts ≤ i

  quiet_paid : (y : Node R L) (d : Did R L) (i : ℕ) → IsQuiet y d → IsPaid i d
  quiet_paid y d i q = let none : length d.posts + posts_load d.posts ≡ 0 = ap (λ ps. length ps + posts_load ps) q.posts in omega (arith, none)

  either : (i : ℕ) (b : Bool) (d e : Did R L) → IsPaid i d → IsPaid i e → IsPaid i (cond b d e)
  either i true d e h g = h
  either i false d e h g = g

-- one message to each of these nodes, after which nothing follows
each_paid : (keys : Keys) {R : Type 0} (L : Type 0) (m : Message R) → message_load keys m ≡ 0 → (nodes : List ℕ) → length (to_each {L = L} nodes m) + posts_load keys (to_each {L = L} nodes m) ≡ length nodes
each_paid keys L m e [] = refl
each_paid keys L m e (n ∷ nodes) = let rest : length (to_each {L = L} nodes m) + posts_load keys (to_each {L = L} nodes m) ≡ length nodes = each_paid keys L m e nodes in omega (arith, e, rest)

module _ {R : Type 0} (join : R → R → R) (s : Words R) {L : Type 0} (k : Layouts L) (keys : Keys) (y : Node R L) (known : HasKeys join s keys y) where
  -- a push and its answer
  push_paid : (number p to : ℕ) (rs : List R) → length (pushes_rows join s k y number p (to ∷ []) rs) + posts_load keys (pushes_rows join s k y number p (to ∷ []) rs) ≤ 2
  push_paid number p to [] = omega arith
  push_paid number p to (r ∷ rs) = omega arith

  -- questions of a walk, each a byte longer than a prefix
  asks_paid : (number p to table m : ℕ) (qs : List (List ℕ)) → AllByRecursion (λ q. 32 - length q ≡ m) qs →
      length (map (asks_at join s k y number p to table) qs) + posts_load keys (map (asks_at join s k y number p to table) qs) ≤ total (λ q. 4 + 4 * (under q (keys p table) * m)) qs
  asks_paid number p to table m [] a = omega arith
  asks_paid number p to table m (q ∷ qs) a =
      let rest = asks_paid number p to table m qs a.1 in
      let here : under q (keys p table) * (32 - length q) ≡ under q (keys p table) * m = ap (λ n. under q (keys p table) * n) a.0 in
      omega (arith, rest, here)

  -- what an answer asks for is paid by it
  module _ (number p to table : ℕ) (prefix : List ℕ) where
    abbrev Within : List (List ℕ) → Type 0
    Within qs = length (map (asks_at join s k y number p to table) qs) + posts_load keys (map (asks_at join s k y number p to table) qs) ≤ answer_load prefix (keys p table)

    none_paid : (theirs : List (ℕ × Hash32)) → 32 ≤ length prefix → Within (asked_after join s y p table prefix (Some theirs))
    none_paid theirs long = subst Within (sym ((few_asked join s y p table prefix (Some theirs)).0 long)) (omega arith)

    some_paid : (theirs : List (ℕ × Hash32)) → length prefix < 32 → Within (asked_after join s y p table prefix (Some theirs))
    some_paid theirs short =
        let qs = asked_after join s y p table prefix (Some theirs) in
        let m = 32 - suc (length prefix) in
        let u = under prefix (keys p table) in
        let few = asked_few (keys p table) prefix (pairs_at join s y table p) theirs (λ byte. value_at (blake2b 32) (prefix ++ byte ∷ []) (pairs_at join s y table p)) (known p table) every_byte in
        let parts : total (λ b. under (prefix ++ b ∷ []) (keys p table)) every_byte ≤ u =
        subst (λ (bytes : List ℕ). total (λ b. under (prefix ++ b ∷ []) (keys p table)) bytes ≤ u) (sym all_bytes) (under_parts (keys p table) prefix 0 full) in
        let count : length qs ≤ total (λ b. under (prefix ++ b ∷ []) (keys p table)) every_byte = few.count in
        let sum : total (λ q. under q (keys p table)) qs ≤ total (λ b. under (prefix ++ b ∷ []) (keys p table)) every_byte = few.sum in
        let all = asked_sum (keys p table) qs m u (omega (arith, count, parts)) (omega (arith, sum, parts)) in
        let paid = asks_paid number p to table m qs (all_weaker (λ (q : List ℕ). length q ≡ suc (length prefix)) (λ (q : List ℕ). 32 - length q ≡ m) (λ q e. ap (λ n. 32 - n) e) qs (asked_longer join s y p table prefix (Some theirs))) in
        let left : suc m ≡ 32 - length prefix = omega (arith, short) in
        let same : u * suc m ≡ u * (32 - length prefix) = ap (λ n. u * n) left in
        omega (arith, all, paid, same)

    pub asked_paid : (answer : Option (List (ℕ × Hash32))) → Within (asked_after join s y p table prefix answer)
    asked_paid None = omega arith
    asked_paid (Some theirs) = elim (cases_lt (length prefix) 32) [ inl short ↦ some_paid theirs short | inr long ↦ none_paid theirs long ]

module _ {R : Type 0} (join : R → R → R) (s : Words R) {L : Type 0} (k : Layouts L) (keys : Keys) (id now : ℕ) (y : Node R L) (known : HasKeys join s keys y) (from : ℕ) where
  -- what follows an answer to a walk
  module _ (number : ℕ) (w : Walk) (table : ℕ) (prefix : List ℕ) (answer : Option (List (ℕ × Hash32))) where
    abbrev after_answer : List (Post R L)
    after_answer = sends_after join s k y number (walk_after join s y w table prefix answer) table (asked_after join s y w.state.partition table prefix answer)

    own_paid : length after_answer + posts_load keys after_answer ≤ answer_load prefix (keys w.state.partition table)
    own_paid = by_end (has_ended (walk_after join s y w table prefix answer))
      where
        by_end : (b : Bool) →
            (let posts = cond b (pushes_rows join s k y number w.state.partition (w.node ∷ []) (filter (is_noted s (walk_after join s y w table prefix answer).state.noted) (rows_at join s y w.state.partition)))
            (map (asks_at join s k y number w.state.partition w.node table) (asked_after join s y w.state.partition table prefix answer)) in
            length posts + posts_load keys posts ≤ answer_load prefix (keys w.state.partition table))
        by_end true = let low = push_paid join s k keys y known number w.state.partition w.node (filter (is_noted s (walk_after join s y w table prefix answer).state.noted) (rows_at join s y w.state.partition)) in omega (arith, low)
        by_end false = asked_paid join s k keys y known number w.state.partition w.node table prefix answer

    after_paid : (p : ℕ) → w.state.partition ≡ p → length after_answer + posts_load keys after_answer ≤ answer_load prefix (keys p table)
    after_paid p is = subst (λ (i : ℕ). length after_answer + posts_load keys after_answer ≤ answer_load prefix (keys i table)) is own_paid

  all_there : (xs : List Walk) → AllByRecursion (λ (x : Walk). ⊤) xs
  all_there [] = tt
  all_there (x ∷ xs) = (tt, all_there xs)

  -- the walk that is found is over this partition
  found_at : (p n : ℕ) (walks : List Walk) (w : Walk) → walk_at p n walks ≡ Some w → w.state.partition ≡ p
  found_at p n walks w e = eqb-true w.state.partition p (and_parts (w.state.partition == p) (w.node == n) (all_found (λ (x : Walk). ⊤) (is_walk p n) walks w (all_there walks) e).1).0

  at_walk_paid : (i table : ℕ) (prefix : List ℕ) (f : Walk → Did R L) (o : Option Walk) → ((w : Walk) → o ≡ Some w → IsPaid keys i (f w)) → IsPaid keys i (at_walk join s k y table prefix f o)
  at_walk_paid i table prefix f None h = omega arith
  at_walk_paid i table prefix f (Some w) h = either keys i (is_open table prefix w.state.prefixes) (f w) (quiet y) (h w refl) (omega arith)

  mending_paid : (now : Mending → Node R L) (other : Did R L) (number p table : ℕ) (prefix : List ℕ) (answer : Option (List (ℕ × Hash32))) (o : Option Mending) →
      IsPaid keys (answer_load prefix (keys p table)) other → IsPaid keys (answer_load prefix (keys p table)) (mending_came join s k y now other from number p table prefix answer o)
  mending_paid now other number p table prefix answer None h = h
  mending_paid now other number p table prefix answer (Some mending) h =
      either keys (answer_load prefix (keys p table)) (mending.number == number) _ other
      (at_walk_paid (answer_load prefix (keys p table)) table prefix (mending_walks join s k y now table prefix answer mending) (walk_at p from mending.walks) (λ w e. after_paid mending.number w table prefix answer p (found_at p from mending.walks w e))) h

  late_paid : (number p table : ℕ) (prefix : List ℕ) (answer : Option (List (ℕ × Hash32))) → IsPaid keys (answer_load prefix (keys p table)) (late_came join s k y from number p table prefix answer)
  late_paid number p table prefix answer =
      mending_paid (with_lasting join s k y) _ number p table prefix answer y.lasting (mending_paid (with_mending join s k y) (quiet y) number p table prefix answer y.mending (omega arith))

  answer_paid : (number p table : ℕ) (prefix : List ℕ) (answer : Option (List (ℕ × Hash32))) (o : Option Round) → IsPaid keys (answer_load prefix (keys p table)) (answer_came join s k id y from number p table prefix answer o)
  answer_paid number p table prefix answer None = late_paid number p table prefix answer
  answer_paid number p table prefix answer (Some round) =
      either keys (answer_load prefix (keys p table)) (round.number == number) _ _
      (at_walk_paid (answer_load prefix (keys p table)) table prefix (round_walks join s k id y table prefix answer round) (walk_at p from round.walks) (λ w e. after_paid round.number w table prefix answer p (found_at p from round.walks w e)))
      (late_paid number p table prefix answer)

  walks_paid : (tag : Tag) (table : ℕ) (prefix : List ℕ) (answer : Option (List (ℕ × Hash32))) → IsPaid keys (tag_load keys tag table prefix) (walks_on join s k id y from tag table prefix answer)
  walks_paid (ForCall request phase slot) table prefix answer = omega arith
  walks_paid (ForRound number p) table prefix answer = answer_paid number p table prefix answer y.round
  walks_paid (ForItem number) table prefix answer = omega arith

  compared_paid : (tag : Tag) (named p table : ℕ) (prefix : List ℕ) (hash : Hash32) → IsPaid keys (suc (tag_load keys tag table prefix)) (compares join s k id y from tag named p table prefix hash)
  compared_paid tag named p table prefix hash =
      let i = suc (tag_load keys tag table prefix) in
      either keys i (nat_lt (newest k.reading y.view) named) (answers y from (Behind tag (newest k.reading y.view))) _ (omega arith)
      (either keys i (not (is_given k y.view id p)) (answers y from (NotHere tag)) (record (answers y from (compared join s k y tag p table prefix hash)) { is_spelled = list_all (is_spelled s) (rows_at join s y p) }) (omega arith)
      (by_same (same_bytes hash.0 (value_here join s y table p prefix).0)))
    where
      by_same : (b : Bool) →
          (let posts : List (Post R L) = record { to = from; packet = says (cond b (HasSame tag table prefix) (Differ tag table prefix (children_here join s y table p prefix))) } ∷ [] in
          length posts + posts_load keys posts ≤ suc (tag_load keys tag table prefix))
      by_same true = omega arith
      by_same false = omega arith

  where_paid : (request phase at : ℕ) (d : Did R L) → IsPaid keys 1 d → IsPaid keys 1 (where_stored join s k y from request phase at d)
  where_paid request phase at d h = either keys 1 (is_stored k y.view at) d (answers y from (NotHere (ForCall request phase 0))) h (omega arith)

  block_paid : (request phase : ℕ) (o : Option (List ℕ)) → IsPaid keys 1 (gives_block join s k y from request phase o)
  block_paid request phase None = omega arith
  block_paid request phase (Some bytes) = omega arith

  round_paid : (number p : ℕ) (o : Option Round) → IsPaid keys 0 (round_came join s k id y from number p o)
  round_paid number p None = omega arith
  round_paid number p (Some round) = either keys 0 (round.number == number) _ _ (omega arith) (omega arith)

  confirms_paid : (tag : Tag) → IsPaid keys 0 (hears join s k id now y from (Stored tag))
  confirms_paid (ForCall request phase slot) = quiet_paid keys y _ 0 (in_call (IsQuiet y) y phase (λ c. stored_came k y c slot from c.present) (call_at y.calls request) (is_quiet y) (λ c. stored_quiet join s k y c from slot c.present))
  confirms_paid (ForRound number p) = round_paid number p y.round
  confirms_paid (ForItem number) = omega arith

  -- ---- collections

  forgotten_paid : (table : ℕ) (key : List ℕ) (test : R → Bool) (o : Option R) → IsPaid keys 0 (forgets_row join s y table key test o)
  forgotten_paid table key test None = omega arith
  forgotten_paid table key test (Some r) = either keys 0 (test r) _ (quiet y) (omega arith) (omega arith)

  -- the others are told to forget a row
  dropped_paid : (o : Open) (c : Collection) (row : Option R) → IsPaid keys 16 (drops_row join s id (record y { gc = o }) c row)
  dropped_paid o c None = omega arith
  dropped_paid o c (Some r) =
      let m : Message R = Forget 1 c.key (record { 0 = blake2b 32 (bytes_of s r) }) in
      let each : length (to_each {L = L} (others id) m) + posts_load keys (to_each {L = L} (others id) m) ≡ length (others id) = each_paid keys L m refl (others id) in
      let few : length (others id) ≤ 16 = few_left (λ n. not (n == id)) all_nodes in
      omega (arith, each, few)

  finished_paid : (o : Option Collection) → IsPaid keys 16 (finishes join s k id y o)
  finished_paid None = omega arith
  finished_paid (Some c) = either keys 16 ((newest k.reading y.view == c.newest) && has_bytes join s c.row (row_at join s y.accepted 1 c.key)) _ _ (dropped_paid (closed c.number y.gc) c (row_at join s y.accepted 1 c.key)) (omega arith)

  tombed_paid : (number round : ℕ) (o : Open) (e : GcEnd) → IsPaid keys 16 (answered_to join s k id y number round o e)
  tombed_paid number round o Wait = omega arith
  tombed_paid number round o Closed = omega arith
  tombed_paid number round o Complete = either keys 16 (round == 2) _ _ (finished_paid (numbered_open number y.gc)) (omega arith)

  hears_paid : (m : Message R) → IsPaid keys (message_load keys m) (hears join s k id now y from m)
  hears_paid (Get request phase at table key) = where_paid request phase at (gives_row join s k y from request phase (row_at join s y.accepted table key)) (omega arith)
  hears_paid (Row request phase row) = quiet_paid keys y _ 0 (in_call (IsQuiet y) y phase (λ c. row_came join y c from row c.present) (call_at y.calls request) (is_quiet y) (λ c. row_quiet join s k y c from row c.present))
  hears_paid (Range request phase at bucket prefix after) =
      where_paid request phase at (gives_rows join s k y from request phase (range s 1 (bucket.0 ++ prefix) (bucket.0 ++ after) most_rows (rows join s y.accepted))) (omega arith)
  hears_paid (Rows request phase rs more) = quiet_paid keys y _ 0 (in_call (IsQuiet y) y phase (λ c. rows_came join s y c from rs more c.present) (call_at y.calls request) (is_quiet y) (λ c. rows_quiet join s k y c from rs more c.present))
  hears_paid (Store tag named p rs) =
      either keys 1 (nat_lt (newest k.reading y.view) named) (answers y from (Behind tag (newest k.reading y.view))) _ (omega arith)
      (either keys 1 (not (is_given k y.view id p)) (answers y from (NotHere tag)) (answers (accepts_all join s now y rs) from (Stored tag)) (omega arith) (omega arith))
  hears_paid (Stored tag) = confirms_paid tag
  hears_paid (Behind tag v) = omega arith
  hears_paid (NotHere tag) = omega arith
  hears_paid (BlockGet request phase at hash) = where_paid request phase at (gives_block join s k y from request phase (block_at y.blocks hash.0)) (block_paid request phase (block_at y.blocks hash.0))
  hears_paid (Block request phase bytes) = quiet_paid keys y _ 0 (in_call (IsQuiet y) y phase (λ c. block_came y c bytes c.present) (call_at y.calls request) (is_quiet y) (λ c. block_quiet join s k y c from bytes c.present))
  hears_paid (NoBlock request phase) = omega arith
  hears_paid (AsksValue tag named p table prefix hash) = compared_paid tag named p table prefix hash
  hears_paid (HasSame tag table prefix) = walks_paid tag table prefix None
  hears_paid (Differ tag table prefix pairs) = walks_paid tag table prefix (Some pairs)
  hears_paid (Tomb number round row) = omega arith
  hears_paid (Tombed number round named) = tombed_paid number round (answered number round from named now y.gc) (answer_end number round from named y.gc)
  hears_paid (Forget table key hash) = forgotten_paid table key (has_digest join s hash.0) (row_at join s y.accepted table key)

  pub receives_paid : (p : Packet R L) → IsPaid keys (packet_load keys p) (receives join s k id now y from p)
  receives_paid (says m) = hears_paid m
  receives_paid (shows v) = omega arith
