-- What a node does about collections sends to places alone: to nodes 1 to 16, and to whom it was asked by.
use Rattle.std.proofs.Common.{◌≡◌, ℕ, ◌+◌, Bool, true, false, not, ◌&&◌, ◌==◌, nat_lt, cond, Option, Some, None, List, [], ◌∷◌, ◌++◌, refl, sym, subst, ◌∙◌}
use Rattle.std.specs.List.{AllByRecursion}
use Rattle.crdt_core.proofs.Each.{all_append}
use Rattle.view_model.specs.View.{newest}
use Rattle.table_schema.specs.Words.{Words, partition_of}
use Rattle.table_model.specs.Rows.{row_at}
use Rattle.gc_model.specs.declared.collection.Collection.{Collection}
use Rattle.gc_model.specs.declared.collection.GcEnd.{GcEnd}
use Rattle.gc_model.specs.declared.collection.GcEnd.TheVariants.{Wait, Closed, Complete}
use Rattle.gc_model.specs.Collecting.{Open, numbered, keyed, has_confirmed, closed, answer_end, answered, in_second, missing_of}
use Rattle.wire_messages.specs.declared.message.Message.TheVariants.{Tomb}
use Rattle.cluster_machine.specs.Layouts.{Layouts, is_given}
use Rattle.cluster_machine.specs.Node.{Node, Did, quiet}
use Rattle.cluster_machine.specs.Rows.{accepts}
use Rattle.cluster_machine.specs.Phases.{to_each, bytes_of, is_spelled}
use Rattle.cluster_machine.specs.Collects.{all_nodes, collection_pause, others, is_aged, Progress, object_rows, has_bytes, has_digest, forgets_row, forgets, drops_row, merges, takes_tomb, finishes, answered_to, tomb_came, goes_on_with, about, about_all, with_rows, collects}
use Rattle.machine_origins.proofs.Lists.{all_filter}
use Rattle.receiver_laws.specs.Places.{PostNames, OpenNames, MendingNames, NodeNames}
use Rattle.receiver_laws.proofs.Walks.{each_places}

module _ {R L : Type 0} where
  -- a node with the round, the repair and the last round of another
  abbrev pub Same : Node R L → Node R L → Type 0
  Same x y = (y.round ≡ x.round) × ((y.mending ≡ x.mending) × (y.lasting ≡ x.lasting))

  pub same_after : (x y z : Node R L) → Same x y → Same y z → Same x z
  same_after x y z h i = (i.0 ∙ h.0, (i.1.0 ∙ h.1.0, i.1.1 ∙ h.1.1))

module _ {R L : Type 0} (k : Layouts L) (IsPlace : ℕ → Type 0) where
  -- the rounds and repairs of a node name places, and what it sends goes to places
  pub record DidNames (d : Did R L) : Type 0 where
    pub round : OpenNames IsPlace d.node.round
    pub mending : MendingNames IsPlace d.node.mending
    pub lasting : MendingNames IsPlace d.node.lasting
    pub posts : AllByRecursion (PostNames IsPlace k) d.posts

  pub did_same : (x : Node R L) (d : Did R L) → NodeNames IsPlace k x → Same x d.node → AllByRecursion (PostNames IsPlace k) d.posts → DidNames d
  did_same x d h same posts = record {
    round = subst (OpenNames IsPlace) (sym same.0) h.round;
    mending = subst (MendingNames IsPlace) (sym same.1.0) h.mending;
    lasting = subst (MendingNames IsPlace) (sym same.1.1) h.lasting;
    posts = posts;
  }

  pub did_cond : (b : Bool) (d e : Did R L) → DidNames d → DidNames e → DidNames (cond b d e)
  did_cond true d e h i = h
  did_cond false d e h i = i

module _ {R L : Type 0} (join : R → R → R) (s : Words R) (k : Layouts L) (IsPlace : ℕ → Type 0) (all : AllByRecursion IsPlace all_nodes) (x : Node R L) (h : NodeNames IsPlace k x) where
  abbrev Places : Did R L → Type 0
  Places d = DidNames k IsPlace d

  other_gc : (o : Open) → Places (quiet (record x { gc = o }))
  other_gc o = did_same k IsPlace x _ h (refl, (refl, refl)) tt

  others_are : (id : ℕ) → AllByRecursion IsPlace (others id)
  others_are id = all_filter IsPlace (λ n. not (n == id)) all_nodes all

  missing_are : (c : Collection) → AllByRecursion IsPlace (missing_of c)
  missing_are c = all_filter IsPlace (λ node. not (has_confirmed node c)) all_nodes all

  forgotten_places : (table : ℕ) (key : List ℕ) (test : R → Bool) (o : Option R) → Places (forgets_row join s x table key test o)
  forgotten_places table key test None = other_gc x.gc
  forgotten_places table key test (Some r) = did_cond k IsPlace (test r) _ (quiet x) (did_same k IsPlace x _ h (refl, (refl, refl)) tt) (other_gc x.gc)

  pub forget_places : (table : ℕ) (key hash : List ℕ) → Places (forgets join s x table key hash)
  forget_places table key hash = forgotten_places table key (has_digest join s hash) (row_at join s x.accepted table key)

  dropped_places : (id : ℕ) (o : Open) (c : Collection) (row : Option R) → Places (drops_row join s id (record x { gc = o }) c row)
  dropped_places id o c None = other_gc o
  dropped_places id o c (Some r) = did_same k IsPlace x _ h (refl, (refl, refl)) (each_places k IsPlace (others id) _ (others_are id))

  finished_places : (id : ℕ) (o : Option Collection) → Places (finishes join s k id x o)
  finished_places id None = other_gc x.gc
  finished_places id (Some c) =
      let row = row_at join s x.accepted 1 c.key in
      did_cond k IsPlace ((newest k.reading x.view == c.newest) && has_bytes join s c.row row) _ _ (dropped_places id (closed c.number x.gc) c row) (other_gc (closed c.number x.gc))

  answered_places : (id number round : ℕ) (o : Open) (e : GcEnd) → Places (answered_to join s k id x number round o e)
  answered_places id number round o Wait = other_gc o
  answered_places id number round o Closed = other_gc o
  answered_places id number round o Complete = did_cond k IsPlace (round == 2) _ _ (finished_places id (numbered number x.gc)) (other_gc o)

  pub tombed_places : (id now from number round named : ℕ) → Places (tomb_came join s k id now x from number round named)
  tombed_places id now from number round named = answered_places id number round (answered number round from named now x.gc) (answer_end number round from named x.gc)

  merged_same : (id now : ℕ) (o : Option R) → Same x (merges join s k id now x o)
  merged_same id now None = (refl, (refl, refl))
  merged_same id now (Some r) = elim (is_given k x.view id (partition_of s r)) as (λ b. Same x (cond b (accepts join s now x r None) x)) [ true ↦ (refl, (refl, refl)) | false ↦ (refl, (refl, refl)) ]

  pub tomb_places : (id now from number round : ℕ) (row : List ℕ) → IsPlace from → Places (takes_tomb join s k id now x from number round row)
  tomb_places id now from number round row place = did_same k IsPlace x _ h (merged_same id now (s.read row)) (record { to = place; packet = tt }, tt)

  -- ---- the node is told to collect

  abbrev Asks : Progress R L → Type 0
  Asks t = AllByRecursion (PostNames IsPlace k) t.posts

  asks_cond : (b : Bool) (t u : Progress R L) → Asks t → Asks u → Asks (cond b t u)
  asks_cond true t u h i = h
  asks_cond false t u h i = i

  more_asks : (t : Progress R L) (nodes : List ℕ) (number round : ℕ) (row : List ℕ) → AllByRecursion IsPlace nodes → Asks t → AllByRecursion (PostNames IsPlace k) (t.posts ++ to_each nodes (Tomb number round row))
  more_asks t nodes number round row places h = all_append (PostNames IsPlace k) t.posts (to_each nodes (Tomb number round row)) h (each_places k IsPlace nodes (Tomb number round row) places)

  going_asks : (now : ℕ) (c : Collection) (ready : Option ℕ) (t : Progress R L) → Asks t → Asks (goes_on_with join s k now c ready t)
  going_asks now c None t h = more_asks t (missing_of c) c.number 1 c.row (missing_are c) h
  going_asks now c (Some ready) t h =
      let second : Collection = cond (c.round == 1) (in_second c) c in
      asks_cond (nat_lt now (ready + collection_pause)) t _ h (more_asks t (missing_of second) c.number 2 c.row (missing_are second) h)

  about_asks : (id now version : ℕ) (r : R) (o : Option Collection) (t : Progress R L) → Asks t → Asks (about join s k id now version r o t)
  about_asks id now version r None t h = asks_cond (is_spelled s r && is_aged now (s.marker r)) _ t (more_asks t (others id) (t.gc.begun + 1) 1 (bytes_of s r) (others_are id) h) h
  about_asks id now version r (Some c) t h = asks_cond (has_bytes join s c.row (Some r) && (version == c.newest)) _ _ (going_asks now c c.ready t h) h

  all_asks : (id now version : ℕ) (rs : List R) (t : Progress R L) → Asks t → Asks (about_all join s k id now version rs t)
  all_asks id now version [] t h = h
  all_asks id now version (r ∷ rs) t h = all_asks id now version rs _ (about_asks id now version r (keyed (s.key r) t.gc) t h)

  pub collects_places : (id now : ℕ) → Places (collects join s k id now x)
  collects_places id now = did_same k IsPlace x _ h (refl, (refl, refl)) (all_asks id now (newest k.reading x.view) (object_rows join s x) (record { gc = with_rows join s k x x.gc; posts = []; begun = 0 }) tt)
