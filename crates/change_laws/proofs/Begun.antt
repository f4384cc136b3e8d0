-- What a round seeks when it begins: with each other node of the newer set it walks over each row of its node, and asks for all of them.
use Rattle.std.specs.Prelude.{◌≡◌, ◌<◌, ◌≤◌, ◌⊎◌, ℕ, zero, suc, ◌+◌, Bool, true, false, not, ◌&&◌, IsTrue, Some, List, [], ◌∷◌, length, map, slice_get, refl}
use Rattle.std.specs.Option.{unwrap_or}
use Rattle.std.specs.List.{AllByRecursion, filter, flat_map}
use Rattle.std.proofs.Common.{ap, sym, subst, ◌∙◌, inl, inr, arith}
use Rattle.std.proofs.lemmas.Bool.{and_from}
use Rattle.blake2_hash.specs.Blake2b.{blake2b}
use Rattle.crdt_core.specs.Members.{OneOf}
use Rattle.table_schema.specs.Words.{Words, partition_of}
use Rattle.table_schema.specs.Laws.{Laws}
use Rattle.table_model.specs.Rows.{rows}
use Rattle.quorum_model.specs.Quorum.{is_among}
use Rattle.walk_model.specs.Account.{Noted, UnderOpen}
use Rattle.walk_model.specs.Noting.{tables_of}
use Rattle.walk_model.specs.Walking.{Prefix}
use Rattle.walk_model.proofs.Covering.{under_start}
use Rattle.cluster_machine.specs.Hashes.{AsksOver, Hashes}
use Rattle.cluster_machine.specs.Layouts.{Layouts, set_of}
use Rattle.cluster_machine.specs.Node.{Node, Post, Part, Walk}
use Rattle.cluster_machine.specs.Rounds.{numbered_from, is_empty, is_walk, walk_at, rows_at, has_rows, walk_with, asks_at, first_asks}
use Rattle.cluster_machine.specs.Run.{IsLayout}
use Rattle.cluster_machine.specs.World.{Sent}
use Rattle.drained_laws.specs.Waiting.{SomeOf, Has as HasOne}
use Rattle.drained_laws.specs.Calm.{IsMember}
use Rattle.drained_laws.proofs.Waits.{some_weaker, some_mapped, all_mapped, all_has}
use Rattle.change_laws.specs.Handing.{HasGood, Has, Means}
use Rattle.change_laws.proofs.Equal.{row_there, in_partition}
use Rattle.change_laws.proofs.Lists.{some_filtered, some_found, found_some, some_one, one_some, one_of_some, some_not_empty, all_flat, all_of_each}
use Rattle.change_laws.proofs.Moving.{sends_at}
use Rattle.change_laws.proofs.Pairs.{has_from}
use Rattle.change_laws.proofs.Starting.{IsReady, parts, walks, walk_there, each_start, tables_have}
use Rattle.change_laws.proofs.Walking.{found_walk, is_walk_from}

-- the partition with this number is among them
numbered_some : (p j : ℕ) (sets : List (List ℕ)) → j < length sets → SomeOf (λ (q : Part). (q.partition ≡ p + j) × (q.set ≡ unwrap_or (slice_get sets j) [])) (numbered_from p sets)
numbered_some p j [] h = absurd (omega arith)
numbered_some p zero (set ∷ sets) h = inl (omega arith, refl)
numbered_some p (suc j) (set ∷ sets) h =
    inr (some_weaker (λ (q : Part). (q.partition ≡ suc p + j) × (q.set ≡ unwrap_or (slice_get sets j) [])) (λ (q : Part). (q.partition ≡ p + suc j) × (q.set ≡ unwrap_or (slice_get sets j) []))
    (λ q i. (let e = i.0 in omega arith, i.1)) (numbered_from (suc p) sets) (numbered_some (suc p) j sets (omega arith)))

module _ {R : Type 0} {join : R → R → R} {s : Words R} (laws : Laws join s) (good : R → Type 0) (good_proper : (r : R) → good r → IsTrue (s.is_proper r))
    {L : Type 0} (k : Layouts L) (l new : L) (later : k.reading.version new ≡ suc (k.reading.version l)) (real : 1 ≤ k.reading.version l) (layout : IsLayout k 256 l) (layout_new : IsLayout k 256 new)
    (part : List ℕ) (members : (n : ℕ) → IsMember k l n → IsTrue (is_among n part)) (members_new : (n : ℕ) → IsMember k new n → IsTrue (is_among n part)) where
  module _ (n : ℕ) (x : Node R L) (is : IsReady laws k l new later real layout layout_new part members members_new x) (has : HasGood join s good x.accepted) where
    abbrev ps : List Part
    ps = parts laws k l new later real layout layout_new part members members_new n x is

    abbrev ws : List Walk
    ws = walks laws k l new later real layout layout_new part members members_new n x is

    -- ---- a row of the node is sought at each other node of the newer set

    module _ (r : R) (is_good : good r) (there : Has join s good r x) (of_old : IsTrue (is_among n (set_of k l (partition_of s r)))) where
      abbrev p : ℕ
      p = partition_of s r

      low : partition_of s r < 256
      low = laws.partition_is_byte r (good_proper r is_good)

      pub among_rows : HasOne (rows_at join s x (partition_of s r)) r
      among_rows = in_partition laws x.accepted has.proper (partition_of s r) r (row_there laws x.accepted has.proper (s.table r) (s.key r) r there).0 refl

      abbrev pub IsIt : Part → Type 0
      IsIt q = (q.partition ≡ partition_of s r) × (q.set ≡ set_of k new (partition_of s r))

      pub part_there : SomeOf IsIt ps
      part_there =
          let f : Part → Bool = λ q. is_among n q.set && has_rows join s x q.partition in
          let all = numbered_from 0 (k.reading.sets l) in
          let raw = numbered_some 0 p (k.reading.sets l) (let e = layout.count in let h = low in omega (arith, e, h)) in
          some_mapped (λ (q : Part). record { partition = q.partition; set = set_of k new q.partition }) (λ (q : Part). q.partition ≡ p) IsIt (λ q e. (e, ap (set_of k new) e)) (filter f all)
          (some_filtered (λ (q : Part). q.partition ≡ p) f all
          (some_weaker (λ (q : Part). (q.partition ≡ 0 + p) × (q.set ≡ unwrap_or (slice_get (k.reading.sets l) p) [])) (λ (q : Part). (q.partition ≡ p) × (f q ≡ true))
          (λ q i.
          (let at : q.partition ≡ p = (let e = i.0 in omega arith) in (
            at,
            and_from (is_among n q.set) (has_rows join s x q.partition) (subst (λ set. is_among n set ≡ true) (sym i.1) of_old)
                (ap not (subst (λ j. is_empty (rows_at join s x j) ≡ false) (sym at) (some_not_empty (λ y. y ≡ r) (rows_at join s x p) among_rows))),
          )))
          all raw))

      module _ (m : ℕ) (apart : m ≡ n → ⊥) (of_new : IsTrue (is_among m (set_of k new (partition_of s r)))) where
        walk_is : HasOne ws (walk_with join s x (partition_of s r) m)
        walk_is =
            let q = some_one IsIt ps part_there in
            subst (λ j. HasOne ws (walk_with join s x j m)) q.1.1.0
            (walk_there laws k l new later real layout layout_new part members members_new n x is q.0 m q.1.0 (subst (λ set. IsTrue (is_among m set)) (sym q.1.1.1) of_new) apart)

        -- the walk over its partition asks for it
        pub sought_first : (v : Walk) × ((walk_at (partition_of s r) m ws ≡ Some v) × (Noted v.state.noted (s.table r) (blake2b 32 (s.key r)) ⊎ UnderOpen v.state.prefixes (s.table r) (blake2b 32 (s.key r))))
        sought_first =
            let found = some_found (is_walk (partition_of s r) m) ws (one_some (λ (u : Walk). is_walk (partition_of s r) m u ≡ true) ws (walk_with join s x (partition_of s r) m) walk_is (is_walk_from (partition_of s r) m (walk_with join s x (partition_of s r) m) refl refl)) in
            let v = found.0 in
            let at = found_walk (partition_of s r) m ws v found.1 in
            let st = each_start laws k l new later real layout layout_new part members members_new n x is v (found_some (is_walk (partition_of s r) m) ws v found.1) in
            let of_p : st.of_part.partition ≡ partition_of s r = ap (λ (u : Walk). u.state.partition) st.same ∙ at.0 in
            let there = rows_at join s x st.of_part.partition in
            let row : HasOne there r = subst (λ j. HasOne (rows_at join s x j) r) (sym of_p) among_rows in
            let tables = tables_of s there in (
              v,
              (
                found.1,
                inr (subst (λ (u : Walk). UnderOpen u.state.prefixes (s.table r) (blake2b 32 (s.key r))) st.same
                    (under_start tables (map (λ (t : ℕ). (t, [])) tables) (s.table r) (blake2b 32 (s.key r)) refl (has_from tables (s.table r) (tables_have laws there r row (good_proper r is_good))))),
              ),
            )

    -- ---- what it sends means what questions mean

    module _ (H kept : List ℕ → Type 0) (was nodes : ℕ → Node R L) (number moment : ℕ) (over : (r : R) → Has join s good r (was n) → Has join s good r x) where
      abbrev posts : List (Post R L)
      posts = flat_map (first_asks join s k x number) ws

      abbrev send : Post R L → Sent R L
      send q = record { from = n; to = q.to; packet = q.packet; moment = moment }

      -- a first question
      record IsFirst (q : Post R L) : Type 0 where
        p : ℕ
        to : ℕ
        table : ℕ
        prefix : List ℕ
        is_it : asks_at join s k x number p to table prefix ≡ q

      first_posts : (w : Walk) (os : List Prefix) → AllByRecursion IsFirst (map (λ (o : Prefix). asks_at join s k x number w.state.partition w.node o.0 o.1) os)
      first_posts w [] = tt
      first_posts w (o ∷ os) = (record { p = w.state.partition; to = w.node; table = o.0; prefix = o.1; is_it = refl }, first_posts w os)

      all_first : AllByRecursion IsFirst posts
      all_first = all_flat IsFirst (first_asks join s k x number) ws (all_of_each (λ (w : Walk). AllByRecursion IsFirst (first_asks join s k x number w)) ws (λ w h. first_posts w w.state.prefixes))

      pub posts_mean : ((q : ℕ) → OneOf (λ (y : Sent R L). (y.from ≡ n) × AsksOver q y.packet) (sends_at moment n posts) → (y : List ℕ) → Hashes s q (rows join s x.accepted) y → H y) → AllByRecursion (Means join s good H kept was nodes) (sends_at moment n posts)
      posts_mean hashed =
          all_mapped send (λ (q : Post R L). Means join s good H kept was nodes (send q)) (Means join s good H kept was nodes) (λ q h. h) posts
          (all_of_each (λ (q : Post R L). Means join s good H kept was nodes (send q)) posts (λ q h. means q h (all_has IsFirst posts q all_first h)))
        where
          means : (q : Post R L) → HasOne posts q → IsFirst q → Means join s good H kept was nodes (send q)
          means q h f =
              let asks : AsksOver f.p (asks_at join s k x number f.p f.to f.table f.prefix).packet = refl in
              let one = one_of_some (λ (y : Sent R L). (y.from ≡ n) × AsksOver f.p y.packet) (sends_at moment n posts)
              (some_mapped send (λ z. z ≡ asks_at join s k x number f.p f.to f.table f.prefix) (λ (y : Sent R L). (y.from ≡ n) × AsksOver f.p y.packet) (λ z e. (refl, subst (λ (z : Post R L). AsksOver f.p z.packet) (sym e) asks)) posts (subst (HasOne posts) (sym f.is_it) h)) in
              subst (λ (z : Post R L). Means join s good H kept was nodes (send z)) f.is_it
              (record { rows_then = x.accepted; is_hashed = record { good_rows = has; hashed = hashed f.p one }; hash_is = refl; over = λ r is_good there. over r there })
