-- What a node does about collections leaves its view and its requests.
use Rattle.std.specs.Prelude.{◌≡◌, ℕ, ◌+◌, Bool, true, false, cond, ◌&&◌, ◌==◌, nat_lt, Option, Some, None, List, [], ◌∷◌, ◌++◌, refl}
use Rattle.std.proofs.Common.{ap, inl}
use Rattle.crdt_core.proofs.Each.{all_append}
use Rattle.view_model.specs.View.{newest}
use Rattle.table_schema.specs.Words.{Words, partition_of}
use Rattle.table_model.specs.Rows.{row_at}
use Rattle.gc_model.specs.declared.collection.Collection.{Collection}
use Rattle.gc_model.specs.declared.collection.GcEnd.{GcEnd}
use Rattle.gc_model.specs.declared.collection.GcEnd.TheVariants.{Wait, Closed, Complete}
use Rattle.gc_model.specs.Collecting.{Open, numbered, keyed, closed, answer_end, answered, in_second, missing_of}
use Rattle.wire_messages.specs.declared.message.Message.TheVariants.{Tomb}
use Rattle.cluster_machine.specs.Layouts.{Layouts, is_given}
use Rattle.cluster_machine.specs.Node.{Node, Did, quiet}
use Rattle.cluster_machine.specs.Rows.{accepts}
use Rattle.cluster_machine.specs.Phases.{to_each, bytes_of, is_spelled}
use Rattle.cluster_machine.specs.Keeping.{ArePosts}
use Rattle.cluster_machine.specs.Collects.{collection_pause, others, is_aged, Progress, object_rows, has_bytes, has_digest, forgets_row, forgets, drops_row, merges, takes_tomb, finishes, answered_to, tomb_came, goes_on_with, about, about_all, with_rows, collects}
use Rattle.machine_origins.specs.Following.{Follows}
use Rattle.machine_origins.proofs.FollowingCalls.{follows_same}
use Rattle.machine_origins.proofs.KeepingNodes.{Keeps, posts_to_each}

module _ {R L : Type 0} where
  -- the node's view and its requests are as they were, no phase ends, and no view is sent
  pub record IsBeside (x : Node R L) (d : Did R L) : Type 0 where
    pub view : d.node.view ≡ x.view
    pub calls : d.node.calls ≡ x.calls
    pub ends : d.ends ≡ []
    pub keeps : d.keeps ≡ []
    pub reads : d.reads ≡ []
    pub posts : ArePosts d.posts

  pub beside_follows : (x : Node R L) (d : Did R L) → IsBeside x d → Follows x d
  beside_follows x d b = follows_same x d b.calls b.ends b.keeps b.reads

  pub beside_keeps : (k : Layouts L) (x : Node R L) (d : Did R L) → IsBeside x d → Keeps k x d
  beside_keeps k x d b = record { stays = record { newest_stays = ap (newest k.reading) b.view; calls = inl b.calls }; posts = b.posts }

  beside_cond : (x : Node R L) (b : Bool) (d e : Did R L) → IsBeside x d → IsBeside x e → IsBeside x (cond b d e)
  beside_cond x true d e h i = h
  beside_cond x false d e h i = i

  -- other collections, and nothing is sent
  beside_gc : (x : Node R L) (o : Open) → IsBeside x (quiet (record x { gc = o }))
  beside_gc x o = record { view = refl; calls = refl; ends = refl; keeps = refl; reads = refl; posts = tt }

module _ {R L : Type 0} (join : R → R → R) (s : Words R) (x : Node R L) where
  forgotten_beside : (table : ℕ) (key : List ℕ) (test : R → Bool) (o : Option R) → IsBeside x (forgets_row join s x table key test o)
  forgotten_beside table key test None = beside_gc x x.gc
  forgotten_beside table key test (Some r) = beside_cond x (test r) _ (quiet x) (record { view = refl; calls = refl; ends = refl; keeps = refl; reads = refl; posts = tt }) (beside_gc x x.gc)

  pub forget_beside : (table : ℕ) (key hash : List ℕ) → IsBeside x (forgets join s x table key hash)
  forget_beside table key hash = forgotten_beside table key (has_digest join s hash) (row_at join s x.accepted table key)

  dropped_beside : (id : ℕ) (o : Open) (c : Collection) (row : Option R) → IsBeside x (drops_row join s id (record x { gc = o }) c row)
  dropped_beside id o c None = beside_gc x o
  dropped_beside id o c (Some r) = record { view = refl; calls = refl; ends = refl; keeps = refl; reads = refl; posts = posts_to_each L (others id) _ }

  module _ (k : Layouts L) where
    finished_beside : (id : ℕ) (o : Option Collection) → IsBeside x (finishes join s k id x o)
    finished_beside id None = beside_gc x x.gc
    finished_beside id (Some c) =
        let row = row_at join s x.accepted 1 c.key in
        beside_cond x ((newest k.reading x.view == c.newest) && has_bytes join s c.row row) _ _ (dropped_beside id (closed c.number x.gc) c row) (beside_gc x (closed c.number x.gc))

    answered_beside : (id number round : ℕ) (o : Open) (e : GcEnd) → IsBeside x (answered_to join s k id x number round o e)
    answered_beside id number round o Wait = beside_gc x o
    answered_beside id number round o Closed = beside_gc x o
    answered_beside id number round o Complete = beside_cond x (round == 2) _ _ (finished_beside id (numbered number x.gc)) (beside_gc x o)

    pub tombed_beside : (id now from number round named : ℕ) → IsBeside x (tomb_came join s k id now x from number round named)
    tombed_beside id now from number round named = answered_beside id number round (answered number round from named now x.gc) (answer_end number round from named x.gc)

    merged_view : (id now : ℕ) (o : Option R) → (merges join s k id now x o).view ≡ x.view
    merged_view id now None = refl
    merged_view id now (Some r) = elim (is_given k x.view id (partition_of s r)) as (λ b. (cond b (accepts join s now x r None) x).view ≡ x.view) [ true ↦ refl | false ↦ refl ]

    merged_calls : (id now : ℕ) (o : Option R) → (merges join s k id now x o).calls ≡ x.calls
    merged_calls id now None = refl
    merged_calls id now (Some r) = elim (is_given k x.view id (partition_of s r)) as (λ b. (cond b (accepts join s now x r None) x).calls ≡ x.calls) [ true ↦ refl | false ↦ refl ]

    pub tomb_beside : (id now from number round : ℕ) (row : List ℕ) → IsBeside x (takes_tomb join s k id now x from number round row)
    tomb_beside id now from number round row = record { view = merged_view id now (s.read row); calls = merged_calls id now (s.read row); ends = refl; keeps = refl; reads = refl; posts = (tt, tt) }

    -- ---- a node is told to collect: what it sends are messages

    posts_cond : (b : Bool) (t u : Progress R L) → ArePosts t.posts → ArePosts u.posts → ArePosts (cond b t u).posts
    posts_cond true t u h i = h
    posts_cond false t u h i = i

    more_posts : (t : Progress R L) (nodes : List ℕ) (number round : ℕ) (row : List ℕ) → ArePosts t.posts → ArePosts (t.posts ++ to_each nodes (Tomb number round row))
    more_posts t nodes number round row h = all_append _ t.posts (to_each nodes (Tomb number round row)) h (posts_to_each L nodes (Tomb number round row))

    going_posts : (now : ℕ) (c : Collection) (ready : Option ℕ) (t : Progress R L) → ArePosts t.posts → ArePosts (goes_on_with join s k now c ready t).posts
    going_posts now c None t h = more_posts t (missing_of c) c.number 1 c.row h
    going_posts now c (Some ready) t h = posts_cond (nat_lt now (ready + collection_pause)) t _ h (more_posts t (missing_of (cond (c.round == 1) (in_second c) c)) c.number 2 c.row h)

    about_posts : (id now version : ℕ) (r : R) (o : Option Collection) (t : Progress R L) → ArePosts t.posts → ArePosts (about join s k id now version r o t).posts
    about_posts id now version r None t h = posts_cond (is_spelled s r && is_aged now (s.marker r)) _ t (more_posts t (others id) (t.gc.begun + 1) 1 (bytes_of s r) h) h
    about_posts id now version r (Some c) t h = posts_cond (has_bytes join s c.row (Some r) && (version == c.newest)) _ _ (going_posts now c c.ready t h) h

    all_posts : (id now version : ℕ) (rs : List R) (t : Progress R L) → ArePosts t.posts → ArePosts (about_all join s k id now version rs t).posts
    all_posts id now version [] t h = h
    all_posts id now version (r ∷ rs) t h = all_posts id now version rs _ (about_posts id now version r (keyed (s.key r) t.gc) t h)

    pub collects_beside : (id now : ℕ) → IsBeside x (collects join s k id now x)
    collects_beside id now = record {
      view = refl;
      calls = refl;
      ends = refl;
      keeps = refl;
      reads = refl;
      posts = all_posts id now (newest k.reading x.view) (object_rows join s x) (record { gc = with_rows join s k x x.gc; posts = []; begun = 0 }) tt;
    }
