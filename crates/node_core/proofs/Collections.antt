-- A node whose collections change, and a collection that has come to its end.
use Rattle.std.specs.Prelude.{◌≡◌, ℕ, ◌+◌, ◌==◌, ◌&&◌, ◌++◌, not, Bool, true, false, cond, length, List, [], ◌∷◌, Option, Some, None, map, refl}
use Rattle.std.specs.List.{filter}
use Rattle.std.specs.Option.{option_map}
use Rattle.std.proofs.Common.{ap, sym, ◌∙◌, subst}
use Rattle.layout_roles.specs.declared.layout.Layout.{Layout}
use Rattle.view_model.specs.Layouts.{reading}
use Rattle.view_model.specs.View.{newest}
use Rattle.table_schema.specs.Words.{Words}
use Rattle.table_model.specs.Rows.{row_at}
use Rattle.gc_model.specs.declared.collection.Collection.{Collection}
use Rattle.gc_model.specs.declared.collection.GcEnd.{GcEnd}
use Rattle.gc_model.specs.declared.collection.GcEnd.TheVariants.{Wait, Closed, Complete}
use Rattle.gc_model.specs.Rounds.{is_closed}
use Rattle.gc_model.specs.Collecting.{Open, after_answer, answer_end, answered, changed, closed, end_at, has_confirmed, numbered, told}
use Rattle.table_gc.proofs.Answering.{answered_open}
use Rattle.table_gc.proofs.Numbering.{found_number}
use Rattle.wire_messages.specs.declared.message.Message.TheVariants.{Forget}
use Rattle.blake2_hash.specs.Blake2b.{blake2b}
use Rattle.cluster_machine.specs.Layouts.{layouts}
use Rattle.cluster_machine.specs.Phases.{bytes_of, to_each}
use Rattle.cluster_machine.specs.Node.{Node as Model, Did, quiet}
use Rattle.cluster_machine.specs.Collects.{answered_to, drops_row, finishes, others, forgets_row, has_bytes, tomb_came, without_row}
use Rattle.node_parts.specs.declared.contents.Contents.{Contents}
use Rattle.node_parts.specs.declared.collector.Collector.{Collector}
use Rattle.node_parts.specs.declared.packet.Envelope.{Envelope}
use Rattle.node_parts.specs.Contents.{IsContents, Became}
use Rattle.node_parts.specs.Posts.{Posts}
use Rattle.node_parts.specs.Collects.{ends_row}
use Rattle.node_parts.proofs.GoesOn.{find_changed}
use Rattle.node_core.specs.declared.node.Node.{Node}
use Rattle.node_core.specs.Stands.{StandsFor, Done}
use Rattle.node_core.proofs.Nodes.{nothing_sent, silent, with_contents}

-- contents have nothing to do with the collections
pub other_collections : {S R : Type 0} {join : R → R → R} {s : Words R} {c : Contents S R} (x : Model R Layout) (gc : Open) → IsContents join s c x → IsContents join s c (record x { gc = gc })
other_collections x gc is = record { proper = is.proper; table = is.table; items = is.items; queued = is.queued; blocks = is.blocks }

-- other collections, and the rest as it was
pub with_collections : {S R : Type 0} {join : R → R → R} {s : Words R} (c : Node S R) (id : ℕ) (x : Model R Layout) (gc o : Open) → StandsFor join s c id x → gc ≡ o → StandsFor join s (record c { gc = gc }) id (record x { gc = o })
with_collections c id x gc o is same = record {
  id_is = is.id_is;
  view = is.view;
  contents = other_collections x o is.contents;
  calls = is.calls;
  rounds = is.rounds;
  gc = same;
  has_version = is.has_version;
}

-- ---- a collection that has come to its end

module _ {R : Type 0} (join : R → R → R) (s : Words R) (c : Collector) (x : Model R Layout) (o : Collection) (gc : Open) where
  -- with other collections the same is made of the node, but for them
  abbrev Ended : Did R Layout → Did R Layout → Type 0
  Ended d e = (e.node ≡ record d.node { gc = gc }) × (e.posts ≡ d.posts) × (e.ends ≡ d.ends) × (e.dropped ≡ d.dropped) × (e.is_spelled ≡ true)

  drops_ended : (row : Option R) → Ended (drops_row join s c.node x o row) (drops_row join s c.node (record x { gc = gc }) o row)
  drops_ended None = (refl, refl, refl, refl, refl)
  drops_ended (Some r) = (refl, refl, refl, refl, refl)

  pub ends_ended : (b : Bool) (row : Option R) → Ended (cond b (drops_row join s c.node x o row) (quiet x)) (cond b (drops_row join s c.node (record x { gc = gc }) o row) (quiet (record x { gc = gc })))
  ends_ended true row = drops_ended row
  ends_ended false row = (refl, refl, refl, refl, refl)

  quiet_ends : (b : Bool) (row : Option R) → (cond b (drops_row join s c.node x o row) (quiet x)).ends ≡ []
  quiet_ends true None = refl
  quiet_ends true (Some r) = refl
  quiet_ends false row = refl

module _ {S R : Type 0} (join : R → R → R) (s : Words R) (node : Node S R) (id : ℕ) (x : Model R Layout) (is : StandsFor join s node id x) (c : Collector) (o : Collection)
    (node_is : c.node ≡ id) (newest_is : c.newest ≡ newest reading x.view) (contents : Contents S R) (gc : Open) (out later : List (Envelope R)) (dropped : Option (ℕ × ℕ)) where
  -- the node after the row was dropped or not, and the collection was closed
  pub finished : Became join s contents x (ends_row join s c x o).node → Posts c.node out later (ends_row join s c x o).posts → dropped ≡ (ends_row join s c x o).dropped → gc ≡ closed o.number x.gc →
      Done join s (record node { contents = contents; gc = gc }) id out later None (finishes join s layouts id x (Some o)) × (dropped ≡ (finishes join s layouts id x (Some o)).dropped)
  finished became posts same closes =
      let row = row_at join s x.accepted 1 o.key in
      let b = (c.newest == o.newest) && has_bytes join s o.row row in
      let d = ends_row join s c x o in
      let e = cond b (drops_row join s c.node (record x { gc = closed o.number x.gc }) o row) (quiet (record x { gc = closed o.number x.gc })) in
      let ended = ends_ended join s c x o (closed o.number x.gc) b row in
      let stands : StandsFor join s (record node { contents = contents; gc = gc }) id (record d.node { gc = closed o.number x.gc }) =
      with_collections (record node { contents = contents }) id d.node gc (closed o.number x.gc) (with_contents node id x d.node contents is became) closes in
      let e-is : e ≡ finishes join s layouts id x (Some o) = λ i. cond ((newest_is i == o.newest) && has_bytes join s o.row row) (drops_row join s (node_is i) (record x { gc = closed o.number x.gc }) o row) (quiet (record x { gc = closed o.number x.gc })) in
      subst (λ f. Done join s (record node { contents = contents; gc = gc }) id out later None f × (dropped ≡ f.dropped)) e-is (
        record {
          stands = subst (StandsFor join s (record node { contents = contents; gc = gc }) id) (sym ended.0) stands;
          posts = subst (λ n. Posts n out later e.posts) node_is (subst (Posts c.node out later) (sym ended.1) posts);
          ends = ended.2 ∙ quiet_ends join s c x o (closed o.number x.gc) b row;
          spelled = λ sized. ended.4;
        },
        same ∙ sym ended.3,
      )

-- ---- a row that another node has collected

module _ {S R : Type 0} (join : R → R → R) (s : Words R) (node : Node S R) (id : ℕ) (x : Model R Layout) (is : StandsFor join s node id x) (contents : Contents S R) (out : List (Envelope R)) where
  forgot_by : (table : ℕ) (key : List ℕ) (r : R) (b : Bool) → Became join s contents x (cond b (record (quiet (without_row join s x table key)) { collects = r ∷ []; dropped = s.marker r }) (quiet x)).node →
      Done join s (record node { contents = contents }) id out out None (cond b (record (quiet (without_row join s x table key)) { collects = r ∷ []; dropped = s.marker r }) (quiet x))
  forgot_by table key r true became = record {
    stands = with_contents node id x (without_row join s x table key) contents is became;
    posts = nothing_sent id out;
    ends = refl;
    spelled = λ sized. refl;
  }
  forgot_by table key r false became = silent (record node { contents = contents }) id x out (with_contents node id x x contents is became)

  -- the row went, or it is another one
  pub forgot : (table : ℕ) (key : List ℕ) (test : R → Bool) (o : Option R) → Became join s contents x (forgets_row join s x table key test o).node → Done join s (record node { contents = contents }) id out out None (forgets_row join s x table key test o)
  forgot table key test None became = silent (record node { contents = contents }) id x out (with_contents node id x x contents is became)
  forgot table key test (Some r) became = forgot_by table key r (test r) became

-- ---- an answer that ends a collection

-- an answer changes neither what a collection is of nor its number
abbrev Keeps : Collection → Collection → Type 0
Keeps c d = (d.number ≡ c.number) × (d.key ≡ c.key) × (d.row ≡ c.row) × (d.newest ≡ c.newest)

answer_keeps : (node newest now : ℕ) (c : Collection) → Keeps c (after_answer node newest now c)
answer_keeps node newest now c =
    elim (has_confirmed node c) as (λ b. Keeps c (cond b c (cond (c.round == 1) (record c { first = c.first ++ (node, newest) ∷ []; ready = cond (length c.first + 1 == 16) (Some now) c.ready }) (record c { again = c.again ++ node ∷ [] })))) [
      | true ↦ (refl, refl, refl, refl)
      | false ↦ elim (c.round == 1) as (λ b. Keeps c (cond b (record c { first = c.first ++ (node, newest) ∷ []; ready = cond (length c.first + 1 == 16) (Some now) c.ready }) (record c { again = c.again ++ node ∷ [] }))) [ true ↦ (refl, refl, refl, refl) | false ↦ (refl, refl, refl, refl) ]
    ]

told_keeps : (round node newest now : ℕ) (c : Collection) → Keeps c (told round node newest now c)
told_keeps round node newest now c = elim (round == c.round) as (λ b. Keeps c (cond b (after_answer node newest now c) c)) [ true ↦ answer_keeps node newest now c | false ↦ (refl, refl, refl, refl) ]

module _ (f : Collection → Collection) (keeps : (c : Collection) → (f c).number ≡ c.number) (n : ℕ) where
  abbrev altered : List Collection → List Collection
  altered cs = map (λ c. cond (c.number == n) (f c) c) cs

  told_by : (c : Collection) (cs : List Collection) → filter (λ d. not (d.number == n)) (altered cs) ≡ filter (λ d. not (d.number == n)) cs → (b : Bool) → (c.number == n) ≡ b →
      cond (not ((cond b (f c) c).number == n)) (cond b (f c) c ∷ filter (λ d. not (d.number == n)) (altered cs)) (filter (λ d. not (d.number == n)) (altered cs)) ≡ cond (not b) (c ∷ filter (λ d. not (d.number == n)) cs) (filter (λ d. not (d.number == n)) cs)
  told_by c cs rest true h = ap (λ b. cond (not b) (f c ∷ filter (λ d. not (d.number == n)) (altered cs)) (filter (λ d. not (d.number == n)) (altered cs))) (ap (λ m. m == n) (keeps c) ∙ h) ∙ rest
  told_by c cs rest false h = ap (λ b. cond (not b) (c ∷ filter (λ d. not (d.number == n)) (altered cs)) (filter (λ d. not (d.number == n)) (altered cs))) h ∙ ap (λ ds. c ∷ ds) rest

  closed_told : (cs : List Collection) → filter (λ c. not (c.number == n)) (altered cs) ≡ filter (λ c. not (c.number == n)) cs
  closed_told [] = refl
  closed_told (c ∷ cs) = told_by c cs (closed_told cs) (c.number == n) refl

module _ {R : Type 0} (join : R → R → R) (s : Words R) (id : ℕ) (x : Model R Layout) where
  -- the row with this key is dropped, if it is there
  abbrev drops_at : Open → List ℕ → Option R → Did R Layout
  drops_at gc key None = quiet (record x { gc = gc })
  drops_at gc key (Some r) = record (quiet (without_row join s (record x { gc = gc }) 1 key)) {
    posts = to_each (others id) (Forget 1 key (record { 0 = blake2b 32 (bytes_of s r) }));
    collects = r ∷ [];
    dropped = s.marker r;
  }

  drops_is : (gc : Open) (o : Collection) (row : Option R) → drops_row join s id (record x { gc = gc }) o row ≡ drops_at gc o.key row
  drops_is gc o None = refl
  drops_is gc o (Some r) = refl

  -- the same ends of two collections that differ in nothing but their confirmations
  same_end : (o p : Collection) (gc : Open) → Keeps o p → closed p.number gc ≡ closed o.number x.gc → finishes join s layouts id (record x { gc = gc }) (Some p) ≡ finishes join s layouts id x (Some o)
  same_end o p gc keeps left =
      let end : Open → Collection → Did R Layout = λ g c. cond ((newest reading x.view == c.newest) && has_bytes join s c.row (row_at join s x.accepted 1 c.key)) (drops_at g c.key (row_at join s x.accepted 1 c.key)) (quiet (record x { gc = g })) in
      let is : (g : Open) (c : Collection) → cond ((newest reading x.view == c.newest) && has_bytes join s c.row (row_at join s x.accepted 1 c.key)) (drops_row join s id (record x { gc = g }) c (row_at join s x.accepted 1 c.key)) (quiet (record x { gc = g })) ≡ end g c =
      λ g c. ap (λ d. cond ((newest reading x.view == c.newest) && has_bytes join s c.row (row_at join s x.accepted 1 c.key)) d (quiet (record x { gc = g }))) (drops_is g c (row_at join s x.accepted 1 c.key)) in
      is (closed p.number gc) p
      ∙ ((λ i. cond ((newest reading x.view == keeps.3 i) && has_bytes join s (keeps.2 i) (row_at join s x.accepted 1 (keeps.1 i))) (drops_at (left i) (keeps.1 i) (row_at join s x.accepted 1 (keeps.1 i))) (quiet (record x { gc = left i })))
      ∙ sym (is (closed o.number x.gc) o))

  module _ (n round from named now : ℕ) (ends : answer_end n round from named x.gc ≡ Complete) where
    abbrev after : Open
    after = answered n round from named now x.gc

    is_told : after ≡ changed (told round from named now) n x.gc
    is_told = answered_open n round from named now x.gc (ap is_closed ends)

    came_by : (o : Option Collection) → numbered n x.gc ≡ o → end_at round from named o ≡ Complete → finishes join s layouts id (record x { gc = after }) (numbered n after) ≡ finishes join s layouts id x o
    came_by None found leads = absurd (let no : Wait ≡ Complete = leads in cc)
    came_by (Some o) found leads =
        let f = told round from named now in
        let number : (c : Collection) → (f c).number ≡ c.number = λ c. (told_keeps round from named now c).0 in
        let it : numbered n after ≡ Some (f o) = ap (numbered n) is_told ∙ (find_changed f number n x.gc.collections ∙ ap (option_map f) found) in
        let o-is : o.number ≡ n = found_number n x.gc.collections o found in
        let left : closed (f o).number after ≡ closed o.number x.gc =
        (λ i. closed ((number o ∙ o-is) i) (is_told i)) ∙ (ap (λ cs. record x.gc { collections = cs }) (closed_told f number n x.gc.collections) ∙ ap (λ m. closed m x.gc) (sym o-is)) in
        ap (finishes join s layouts id (record x { gc = after })) it ∙ same_end o (f o) after (told_keeps round from named now o) left

    -- a node that has taken the answer finishes as one that hasn't
    pub came_last : (round == 2) ≡ true → finishes join s layouts id (record x { gc = after }) (numbered n after) ≡ tomb_came join s layouts id now x from n round named
    came_last second =
        came_by (numbered n x.gc) refl ends
        ∙ sym (ap (λ e. answered_to join s layouts id x n round after e) ends ∙ ap (λ b. cond b (finishes join s layouts id x (numbered n x.gc)) (quiet (record x { gc = after }))) second)

  -- an answer that doesn't end the collection
  pub came_on : (n round from named now : ℕ) (e : GcEnd) → answer_end n round from named x.gc ≡ e → (e ≡ Complete → (round == 2) ≡ false) → tomb_came join s layouts id now x from n round named ≡ quiet (record x { gc = answered n round from named now x.gc })
  came_on n round from named now Wait is other = ap (λ e. answered_to join s layouts id x n round (answered n round from named now x.gc) e) is
  came_on n round from named now Closed is other = ap (λ e. answered_to join s layouts id x n round (answered n round from named now x.gc) e) is
  came_on n round from named now Complete is other =
      ap (λ e. answered_to join s layouts id x n round (answered n round from named now x.gc) e) is
      ∙ ap (λ b. cond b (finishes join s layouts id x (numbered n x.gc)) (quiet (record x { gc = answered n round from named now x.gc }))) (other refl)
