-- What nodes send of their rows: each row of the key is the row of now.
use Rattle.std.specs.Prelude.{◌≡◌, ℕ, zero, suc, Bool, true, false, cond, ◌==◌, List, [], ◌∷◌, Option, Some, None, is_some, map, take, IsTrue, refl}
use Rattle.std.specs.List.{All, AllByRecursion, filter, list_all, flat_map}
use Rattle.std.specs.declared.cmp.Ordering.TheVariants.{Less}
use Rattle.std.proofs.Common.{ap, sym, subst, ◌∙◌, inl}
use Rattle.std.proofs.lemmas.Bool.{and_parts, true≢false, eqb-true}
use Rattle.crdt_core.specs.EntryLaws.{and_both}
use Rattle.std.proofs.lemmas.Cmp.{tied_itself}
use Rattle.std.proofs.lemmas.List.Elements.{All-from_recursion}
use Rattle.crdt_core.specs.Members.{Has}
use Rattle.crdt_core.specs.LexLaws.{turned}
use Rattle.crdt_core.proofs.Each.{all_append, all_weaker}
use Rattle.view_model.specs.View.{View}
use Rattle.table_schema.specs.Words.{Words, partition_of}
use Rattle.table_schema.specs.Laws.{Laws}
use Rattle.table_model.specs.Rows.{place, row_at, rows, find_row, is_past, range}
use Rattle.table_model.proofs.RowLaws.{place_total, Above, Ascends, rows_ascend, row_found}
use Rattle.wire_messages.specs.declared.message.Message.{Message}
use Rattle.cluster_machine.specs.Layouts.{Layouts, stored_sets}
use Rattle.cluster_machine.specs.Node.{Node, Item, Walk, Post, says}
use Rattle.cluster_machine.specs.Phases.{nodes_of, to_each, bytes_of, is_spelled}
use Rattle.cluster_machine.specs.Rounds.{rows_at, with_its_block, has_ended, asks_at, first_asks, starts, pushes_rows, sends_after}
use Rattle.walk_model.specs.Noting.{is_noted}
use Rattle.cluster_machine.specs.Acts.{item_posts}
use Rattle.cluster_machine.specs.World.{World}
use Rattle.cluster_machine.specs.Step.{sent_by}
use Rattle.machine_collects.specs.Versions.{Versions}
use Rattle.machine_collects.specs.Tie.{State, Issued, IsOf, IsStored, MeansPacket, Means, with_read, rows_read, IsNoObject}

pub all_filter : {X : Type 0} (P : X → Type 0) (f : X → Bool) (xs : List X) → AllByRecursion P xs → AllByRecursion P (filter f xs)
all_filter P f [] a = tt
all_filter P f (x ∷ xs) a = elim (f x) as (λ b. AllByRecursion P (cond b (x ∷ filter f xs) (filter f xs))) [ true ↦ (a.0, all_filter P f xs a.1) | false ↦ all_filter P f xs a.1 ]

all_take : {X : Type 0} (P : X → Type 0) (n : ℕ) (xs : List X) → AllByRecursion P xs → AllByRecursion P (take n xs)
all_take P zero xs h = tt
all_take P (suc n) [] h = tt
all_take P (suc n) (x ∷ xs) h = (h.0, all_take P n xs h.1)

-- those that pass a test do
pub passing : {X : Type 0} (f : X → Bool) (xs : List X) → AllByRecursion (λ x. f x ≡ true) (filter f xs)
passing f [] = tt
passing f (x ∷ xs) = elim (f x) as (λ b. f x ≡ b → AllByRecursion (λ x. f x ≡ true) (cond b (x ∷ filter f xs) (filter f xs))) [ true ↦ λ e. (e, passing f xs) | false ↦ λ e. passing f xs ] refl

passing_too : {X : Type 0} (f test : X → Bool) (xs : List X) → list_all f xs ≡ true → list_all f (filter test xs) ≡ true
passing_too f test [] h = refl
passing_too f test (x ∷ xs) h =
    let parts = and_parts (f x) (list_all f xs) h in
    elim (test x) as (λ b. list_all f (cond b (x ∷ filter test xs) (filter test xs)) ≡ true) [ true ↦ and_both (f x) (list_all f (filter test xs)) parts.0 (passing_too f test xs parts.1) | false ↦ passing_too f test xs parts.1 ]

pub all_two : {X : Type 0} (P Q W : X → Type 0) → ((x : X) → P x → Q x → W x) → (xs : List X) → AllByRecursion P xs → AllByRecursion Q xs → AllByRecursion W xs
all_two P Q W f [] a b = tt
all_two P Q W f (x ∷ xs) a b = (f x a.0 b.0, all_two P Q W f xs a.1 b.1)

module _ {R : Type 0} (s : Words R) where
  pub found_itself : (xs : List R) → Ascends s xs → AllByRecursion (λ r. find_row s (s.table r) (s.key r) xs ≡ Some r) xs
  found_itself [] a = tt
  found_itself (x ∷ xs) a = (rw (tied_itself place_total (place s x)) refl, behind xs a.0 (found_itself xs a.1))
    where
      behind : (ys : List R) → Above s (place s x) ys → AllByRecursion (λ r. find_row s (s.table r) (s.key r) xs ≡ Some r) ys → AllByRecursion (λ r. find_row s (s.table r) (s.key r) (x ∷ xs) ≡ Some r) ys
      behind [] b h = tt
      behind (y ∷ ys) b h = (rw (turned place_total (place s x) (place s y) Less b.0) h.0, behind ys b.1 h.1)

  -- what is spelled is read
  spelled_by : (laws : (r : R) (bytes : List ℕ) → s.spelling r ≡ Some bytes → s.read bytes ≡ Some r) (r : R) (o : Option (List ℕ)) → s.spelling r ≡ o → is_some o ≡ true → s.read (Rattle.cluster_machine.specs.Phases.spelled o) ≡ Some r
  spelled_by back r None e h = absurd (true≢false (sym h))
  spelled_by back r (Some bytes) e h = back r bytes e

module _ {R L : Type 0} (join : R → R → R) (s : Words R) (laws : Laws join s) (v : Versions R) (k : Layouts L) (partitions : ℕ) (key : List ℕ) (partition : ℕ) where
  abbrev pub Of : R → Type 0
  Of r = IsOf join s v k partitions key partition r

  pub read_back : (r : R) (bytes : List ℕ) → s.spelling r ≡ Some bytes → s.read bytes ≡ Some r
  read_back r bytes e = (laws.reads_back r bytes).1 e

  pub read_spelled : (r : R) → is_spelled s r ≡ true → s.read (bytes_of s r) ≡ Some r
  read_spelled r h = spelled_by s read_back r (s.spelling r) refl h

  pub proper_read : (r : R) (bytes : List ℕ) → s.read bytes ≡ Some r → IsTrue (s.is_proper r)
  proper_read r bytes e = laws.spelled_is_proper r bytes ((laws.reads_back r bytes).0 e)

  -- a node's rows in order: each of the key is its row there
  pub rows_own : (contents : List R) → AllByRecursion (λ r. IsTrue (s.is_proper r)) contents → AllByRecursion (λ r. Of r → row_at join s contents 1 key ≡ Some r) (rows join s contents)
  rows_own contents proper =
      let all_proper : All (λ r. IsTrue (s.is_proper r)) contents = All-from_recursion (λ r. IsTrue (s.is_proper r)) contents proper in
      all_weaker (λ r. find_row s (s.table r) (s.key r) (rows join s contents) ≡ Some r) (λ r. Of r → row_at join s contents 1 key ≡ Some r)
      (λ r e of.
      let P : ℕ → Type 0 = λ table. row_at join s contents table (s.key r) ≡ Some r in
      let Q : List ℕ → Type 0 = λ its. row_at join s contents 1 its ≡ Some r in
      subst Q of.key_is (subst P of.table (sym (row_found laws contents (s.table r) (s.key r) all_proper) ∙ e)))
      (rows join s contents) (found_itself s (rows join s contents) (rows_ascend laws contents all_proper))

  pub range_own : (contents : List R) → AllByRecursion (λ r. IsTrue (s.is_proper r)) contents → (table : ℕ) (prefix after : List ℕ) (limit : ℕ) → AllByRecursion (λ r. Of r → row_at join s contents 1 key ≡ Some r) (range s table prefix after limit (rows join s contents)).0
  range_own contents proper table prefix after limit = all_take _ limit (filter (is_past s table prefix after) (rows join s contents)) (all_filter _ (is_past s table prefix after) (rows join s contents) (rows_own contents proper))

  -- spelled rows, with or without their blocks, are read
  pub rows_back : (x : Node R L) (rs : List R) → list_all (is_spelled s) rs ≡ true → rows_read s (map (with_its_block join s x) rs) ≡ rs
  rows_back x [] h = refl
  rows_back x (r ∷ rs) h =
      let both = and_parts (is_spelled s r) (list_all (is_spelled s) rs) h in
      ap (λ o. with_read s o (rows_read s (map (with_its_block join s x) rs))) (read_spelled r both.0) ∙ ap (λ l. r ∷ l) (rows_back x rs both.1)

  module _ (w : State R L) (g : Issued R) (collected : List R) (n moment : ℕ) where
    -- what node n sends now means something
    abbrev pub MeansPost : Post R L → Type 0
    MeansPost p = MeansPacket join s v k partitions key partition w g collected n p.to moment p.packet

    pub means_each : (nodes : List ℕ) (m : Message R) → ((to : ℕ) → MeansPacket join s v k partitions key partition w g collected n to moment (says m)) → AllByRecursion MeansPost (to_each nodes m)
    means_each [] m h = tt
    means_each (to ∷ nodes) m h = (h to, means_each nodes m h)

    means_map : {X : Type 0} (f : X → Post R L) → ((x : X) → MeansPost (f x)) → (xs : List X) → AllByRecursion MeansPost (map f xs)
    means_map f h [] = tt
    means_map f h (x ∷ xs) = (h x, means_map f h xs)

    -- questions of walks carry no row
    pub starts_mean : (x : Node R L) (number : ℕ) (walks : List Walk) → AllByRecursion MeansPost (starts join s k x number walks)
    starts_mean x number [] = tt
    starts_mean x number (u ∷ walks) = all_append _ (first_asks join s k x number u) (starts join s k x number walks) (means_map (λ o. asks_at join s k x number u.state.partition u.node o.0 o.1) (λ o. tt) u.state.prefixes) (starts_mean x number walks)

    module _ (x : Node R L) (proper : AllByRecursion (λ r. IsTrue (s.is_proper r)) x.accepted) (shown : (r : R) → row_at join s x.accepted 1 key ≡ Some r → Has w.shown (record { row = r; moment = moment })) where
      -- rows of one partition that a round or a repair pushes
      pushed_rows : (number p : ℕ) (nodes : List ℕ) (rs : List R) → list_all (is_spelled s) rs ≡ true → AllByRecursion (IsStored join s v k partitions key partition w moment p) rs → AllByRecursion MeansPost (pushes_rows join s k x number p nodes rs)
      pushed_rows number p nodes [] h a = tt
      pushed_rows number p nodes (r ∷ rs) h a = means_each nodes _ (λ to. subst (AllByRecursion (IsStored join s v k partitions key partition w moment p)) (sym (rows_back x (r ∷ rs) h)) a)

      -- those of them that pass a test
      passing_pushed : (number p : ℕ) (nodes : List ℕ) (test : R → Bool) → list_all (is_spelled s) (rows_at join s x p) ≡ true → AllByRecursion MeansPost (pushes_rows join s k x number p nodes (filter test (rows_at join s x p)))
      passing_pushed number p nodes test h =
          pushed_rows number p nodes (filter test (rows_at join s x p)) (passing_too (is_spelled s) test (rows_at join s x p) h)
          (all_filter _ test (rows_at join s x p)
          (all_two (λ r. (partition_of s r == p) ≡ true) (λ r. Of r → row_at join s x.accepted 1 key ≡ Some r) (IsStored join s v k partitions key partition w moment p)
          (λ r at own. (eqb-true (partition_of s r) p at, λ of. inl (shown r (own of)))) (rows_at join s x p)
          (passing (λ r. partition_of s r == p) (rows join s x.accepted)) (all_filter _ (λ r. partition_of s r == p) (rows join s x.accepted) (rows_own x.accepted proper))))

      -- what a walk sends after an answer
      pub walk_sends : (number : ℕ) (u : Walk) (table : ℕ) (asked : List (List ℕ)) → list_all (is_spelled s) (rows_at join s x u.state.partition) ≡ true → AllByRecursion MeansPost (sends_after join s k x number u table asked)
      walk_sends number u table asked h =
          let p = u.state.partition in
          elim (has_ended u) as (λ b. AllByRecursion MeansPost (cond b (pushes_rows join s k x number p (u.node ∷ []) (filter (is_noted s u.state.noted) (rows_at join s x p))) (map (asks_at join s k x number p u.node table) asked))) [
            | true ↦ passing_pushed number p (u.node ∷ []) (is_noted s u.state.noted) h
            | false ↦ means_map (asks_at join s k x number p u.node table) (λ o. tt) asked
          ]

    -- what waits in an outbox is of another table
    item_rows : (i : Item R) → IsNoObject s i → is_spelled s i.row ≡ true → AllByRecursion (IsStored join s v k partitions key partition w moment (partition_of s i.row)) (rows_read s ((bytes_of s i.row, None) ∷ []))
    item_rows i free h = subst (λ o. AllByRecursion (IsStored join s v k partitions key partition w moment (partition_of s i.row)) (with_read s o [])) (sym (read_spelled i.row h)) ((refl, λ of. absurd (free of.table)), tt)

    pub items_mean : (view : View L) (items : List (Item R)) → AllByRecursion (IsNoObject s) items → list_all (λ (i : Item R). is_spelled s i.row) items ≡ true → AllByRecursion MeansPost (flat_map (item_posts join s k view) items)
    items_mean view [] free h = tt
    items_mean view (i ∷ items) free h =
        let both = and_parts (is_spelled s i.row) (list_all (λ (i : Item R). is_spelled s i.row) items) h in
        all_append _ (item_posts join s k view i) (flat_map (item_posts join s k view) items)
        (means_each (nodes_of (stored_sets k view (partition_of s i.row))) _ (λ to. item_rows i free.0 both.0))
        (items_mean view items free.1 both.1)

  -- posts become messages of now
  pub sent_mean : (w : State R L) (g : Issued R) (collected : List R) (m : World R L) (n : ℕ) (posts : List (Post R L)) → AllByRecursion (MeansPost w g collected n m.time) posts → AllByRecursion (Means join s v k partitions key partition w g collected) (sent_by m n posts)
  sent_mean w g collected m n [] a = tt
  sent_mean w g collected m n (p ∷ posts) a = (a.0, sent_mean w g collected m n posts a.1)
