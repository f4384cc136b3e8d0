-- What a node asks and pushes in walks, one message after the other.
use Rattle.std.proofs.Common.{inl, inr, ◌≡◌, ℕ, ◌+◌, ◌<◌, Bool, true, false, ◌==◌, ◌&&◌, cond, List, [], ◌∷◌, ◌++◌, Option, Some, None, map, length, get_or, take, flat_map, refl, sym, ap, subst, ◌⊎◌, ◌∙◌, append-nil, append_assoc}
use Rattle.std.specs.List.{filter, list_all}
use Rattle.std.proofs.lemmas.List.{map-append, take_more}
use Rattle.std.proofs.lemmas.List.Folds.{list_all-map, list_all_at}
use Rattle.crdt_core.specs.declared.memory.Memory.{Memory}
use Rattle.crdt_core.specs.declared.memory.Memory.TheVariants.{Want, Full}
use Rattle.blake2_hash.specs.declared.digest.Hash32.{Hash32}
use Rattle.block_store.specs.Contents.{Contents as Kept, block_at as kept_at}
use Rattle.layout_roles.specs.declared.layout.Layout.{Layout}
use Rattle.table_schema.specs.Words.{Words}
use Rattle.table_model.specs.Rows.{rows_in}
use Rattle.walk_model.specs.Walking.{begun}
use Rattle.wire_messages.specs.declared.message.Message.TheVariants.{Store}
use Rattle.wire_messages.specs.declared.message.Tag.TheVariants.{Round as ForRound}
use Rattle.cluster_machine.specs.Layouts.{layouts}
use Rattle.cluster_machine.specs.Node.{Node, Part, Walk}
use Rattle.cluster_machine.specs.Phases.{is_spelled, bytes_of, to_each}
use Rattle.cluster_machine.specs.Rows.{block_at}
use Rattle.cluster_machine.specs.Rounds.{is_empty, rows_at, found, with_its_block, walk_with, asks_at, first_asks, starts, pushes_rows}
use Rattle.walk_model.specs.Noting.{tables_of, is_noted}
use Rattle.node_parts.specs.declared.contents.Contents.{Contents}
use Rattle.node_parts.specs.declared.packet.Envelope.{Envelope}
use Rattle.node_parts.specs.declared.sender.Sender.{Sender}
use Rattle.node_parts.specs.declared.walks.NodeWalk.{NodeWalk}
use Rattle.node_parts.specs.Contents.{IsContents}
use Rattle.node_parts.specs.Posts.{Posts}
use Rattle.node_parts.specs.Sends.{part_of, found_in, rows_with_blocks, Began, Sends, Sent, Pushes, Starts, CannotStart}
use Rattle.node_parts.specs.Walks.{walk_of, is_spelled_at, LacksSpelling}
use Rattle.node_parts.proofs.Posting.{posts_more}

-- what follows from a cause follows from each error
pub causes_more : {P Q : Type 0} (e : Memory) → (P → Q) → (e ≡ Want) ⊎ ((e ≡ Full) × P) → (e ≡ Want) ⊎ ((e ≡ Full) × Q)
causes_more e f (inl w) = inl w
causes_more e f (inr h) = inr (h.0, f h.1)

pub map_next : {A B : Type 0} (f : A → B) (xs : List A) (i : ℕ) (d : A) → i < length xs → map f (take (i + 1) xs) ≡ map f (take i xs) ++ f (get_or xs i d) ∷ []
map_next f xs i d lt = ap (map f) (take_more xs i d lt) ∙ map-append f (take i xs) (get_or xs i d ∷ [])

flat_append : {A B : Type 0} (f : A → List B) (xs ys : List A) → flat_map f (xs ++ ys) ≡ flat_map f xs ++ flat_map f ys
flat_append f [] ys = refl
flat_append f (x ∷ xs) ys = ap (λ l. f x ++ l) (flat_append f xs ys) ∙ sym (append_assoc (f x) (flat_map f xs) (flat_map f ys))

module _ {R : Type 0} (join : R → R → R) (s : Words R) where
  -- a walk asks for its first prefixes
  abbrev pub AsksFirst : {S : Type 0} → Sender → Contents S R → List (Envelope R) → List (Envelope R) → ℕ → ℕ → List (ℕ × List ℕ) → Type 0
  AsksFirst sender c old new to p opened = Sent join s sender c old new (λ x. map (λ o. asks_at join s layouts x sender.round p to o.0 o.1) opened)

  -- ---- walks that begin

  began_more : (sender : Sender) (first then : List Walk) (old mid new : List (Envelope R)) (a b c : List NodeWalk) (x : Node R Layout) → Began join s sender first old mid a b x → Began join s sender then mid new b c x → Began join s sender (first ++ then) old new a c x
  began_more sender first then old mid new a b c x f t = record {
    posts = subst (Posts sender.node old new) (sym (flat_append (first_asks join s layouts x sender.round) first then))
        (posts_more sender.node old mid new (starts join s layouts x sender.round first) (starts join s layouts x sender.round then) f.posts t.posts);
    begun = t.begun ∙ ap (λ l. l ++ then) f.begun ∙ append_assoc (map walk_of a) first then;
  }

  -- one walk began
  began_one : (sender : Sender) (p n : ℕ) (old new : List (Envelope R)) (a : List NodeWalk) (w : NodeWalk) (x : Node R Layout) → walk_of w ≡ walk_with join s x p n → Posts sender.node old new (first_asks join s layouts x sender.round (walk_of w)) →
      Began join s sender (walk_with join s x p n ∷ []) old new a (a ++ w ∷ []) x
  began_one sender p n old new a w x same posts = record {
    posts = subst (Posts sender.node old new) ((λ i. first_asks join s layouts x sender.round (same i)) ∙ sym (append-nil (first_asks join s layouts x sender.round (walk_with join s x p n)))) posts;
    begun = map-append walk_of a (w ∷ []) ∙ (λ i. map walk_of a ++ same i ∷ []);
  }

  -- with one node more
  pub starts_next : {S : Type 0} (sender : Sender) (c : Contents S R) (p : ℕ) (nodes : List ℕ) (old mid new : List (Envelope R)) (a b : List NodeWalk) (w : NodeWalk) (tables : List ℕ) (i d n : ℕ) → i < length nodes → n ≡ get_or nodes i d →
      ((x : Node R Layout) → IsContents join s c x → tables ≡ tables_of s (rows_at join s x p)) → walk_of w ≡ record { node = n; state = begun p tables } →
      Starts join s sender c p (take i nodes) old mid a b → Sent join s sender c mid new (λ x. first_asks join s layouts x sender.round (walk_of w)) → Starts join s sender c p (take (i + 1) nodes) old new a (b ++ w ∷ [])
  starts_next sender c p nodes old mid new a b w tables i d n lt at are is first next x sends =
      let same : walk_of w ≡ walk_with join s x p (get_or nodes i d) = is ∙ (λ j. record { node = at j; state = begun p (are x sends.is j) }) in
      subst (λ ws. Began join s sender ws old new a (b ++ w ∷ []) x) (sym (map_next (walk_with join s x p) nodes i d lt))
      (began_more sender (map (walk_with join s x p) (take i nodes)) (walk_with join s x p (get_or nodes i d) ∷ []) old mid new a b (b ++ w ∷ []) x (first x sends)
      (began_one sender p (get_or nodes i d) mid new b w x same (next x sends)))

  -- some row of one of these partitions has no spelling
  pub cannot_all : {A S : Type 0} (f : A → ℕ × List ℕ) (c : Contents S R) (items : List A) (i : ℕ) (item : A) → i < length items → item ≡ get_or items i item → LacksSpelling join s c (f item).0 → CannotStart join s c (map f items)
  cannot_all f c items i item lt at lacks x is =
      let spelled : Part → Bool = λ part. is_spelled_at join s x part.partition in
      list_all-map spelled part_of (map f items)
      ∙ list_all-map (λ part. spelled (part_of part)) f items
      ∙ list_all_at (λ t. spelled (part_of (f t))) items i item lt (ap (λ t. spelled (part_of (f t))) (sym at) ∙ lacks x is)

  -- ---- what is pushed

  same_found : {L : Type 0} (kept : Kept) (x : Node R L) (hash : Option (List ℕ)) → ((h : Hash32) → kept_at kept h ≡ block_at x.blocks h.0) → found join s x hash ≡ found_in kept hash
  same_found kept x None e = refl
  same_found kept x (Some hash) e = sym (e (record { 0 = hash }))

  with_blocks : {L : Type 0} (kept : Kept) (x : Node R L) (rs : List R) → ((h : Hash32) → kept_at kept h ≡ block_at x.blocks h.0) → map (with_its_block join s x) rs ≡ rows_with_blocks s kept rs
  with_blocks kept x rs e = λ i. map (λ r. (bytes_of s r, same_found kept x (s.live_block r) e i)) rs

  pub some_rows : (rs : List R) (n : ℕ) (b : Bool) → length rs ≡ n → b ≡ (n == 0) → b ≡ false → is_empty rs ≡ false
  some_rows [] n b l e f =
      let t : b ≡ true = e ∙ ap (λ m. m == 0) (sym l) in
      cc
  some_rows (r ∷ rs) n b l e f = refl

  some_sent : {S : Type 0} (sender : Sender) (c : Contents S R) (x : Node R Layout) (to p : ℕ) (rs : List R) → Sends join s sender c x → is_empty rs ≡ false →
      pushes_rows join s layouts x sender.round p (to ∷ []) rs ≡ to_each (to ∷ []) (Store (ForRound sender.round p) sender.newest p (rows_with_blocks s c.blocks rs))
  some_sent sender c x to p [] sends e = cc
  some_sent sender c x to p (r ∷ rs) sends e =
      λ i. to_each (to ∷ []) (Store (ForRound sender.round p) (sends.newest_is i) p (with_blocks c.blocks x (r ∷ rs) sends.is.blocks.bytes i))

  -- the rows that were noted
  abbrev noted_in : {S : Type 0} → Contents S R → ℕ → List (ℕ × Hash32) → List R
  noted_in c p noted = filter (is_noted s noted) (rows_in s p c.table)

  pub pushed_some : {S : Type 0} (sender : Sender) (c : Contents S R) (old new : List (Envelope R)) (to p : ℕ) (noted : List (ℕ × Hash32)) (rs : List R) (stored : List (List ℕ × Option (List ℕ))) → rs ≡ noted_in c p noted → is_empty rs ≡ false →
      stored ≡ rows_with_blocks s c.blocks rs → Posts sender.node old new (to_each (to ∷ []) (Store (ForRound sender.round p) sender.newest p stored)) → Pushes join s sender c old new to p noted
  pushed_some sender c old new to p noted rs stored same some are posts x sends =
      subst (Posts sender.node old new)
      (ap (λ l. to_each (to ∷ []) (Store (ForRound sender.round p) sender.newest p l)) are ∙ sym (some_sent sender c x to p rs sends some) ∙ ap (pushes_rows join s layouts x sender.round p (to ∷ [])) (same ∙ ap (λ t. filter (is_noted s noted) (rows_in s p t)) sends.is.table))
      posts

  some_lack : (test : R → Bool) (rs : List R) → list_all (is_spelled s) (filter test rs) ≡ false → list_all (is_spelled s) rs ≡ false
  some_lack test [] e = e
  some_lack test (r ∷ rs) e =
      elim (test r) as (λ b. list_all (is_spelled s) (cond b (r ∷ filter test rs) (filter test rs)) ≡ false → (is_spelled s r && list_all (is_spelled s) rs) ≡ false) [
        | true ↦ (λ h. elim (is_spelled s r) as (λ b. (b && list_all (is_spelled s) (filter test rs)) ≡ false → (b && list_all (is_spelled s) rs) ≡ false) [ true ↦ (λ k. some_lack test rs k) | false ↦ (λ k. refl) ] h)
        | false ↦ (λ h. elim (is_spelled s r) as (λ b. (b && list_all (is_spelled s) rs) ≡ false) [ true ↦ some_lack test rs h | false ↦ refl ])
      ] e

  -- some of these rows has no spelling, so the partition lacks one
  pub lacks_noted : {S : Type 0} (c : Contents S R) (p : ℕ) (noted : List (ℕ × Hash32)) → list_all (is_spelled s) (noted_in c p noted) ≡ false → LacksSpelling join s c p
  lacks_noted c p noted e x is = ap (λ t. list_all (is_spelled s) (rows_in s p t)) (sym is.table) ∙ some_lack (is_noted s noted) (rows_in s p c.table) e
