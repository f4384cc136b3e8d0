-- The control plane sees nothing of collections.
use Rattle.std.specs.Prelude.{ℕ, ◌+◌, Bool, true, false, cond, ◌&&◌, ◌==◌, nat_lt, List, [], ◌∷◌, ◌++◌, Option, Some, None, refl}
use Rattle.view_model.specs.View.{newest}
use Rattle.table_schema.specs.Words.{Words, partition_of}
use Rattle.table_model.specs.Rows.{row_at}
use Rattle.gc_model.specs.declared.collection.Collection.{Collection}
use Rattle.gc_model.specs.declared.collection.GcEnd.{GcEnd}
use Rattle.gc_model.specs.declared.collection.GcEnd.TheVariants.{Wait, Closed, Complete}
use Rattle.gc_model.specs.Collecting.{Open, numbered, keyed, closed, answer_end, answered, in_second, missing_of}
use Rattle.wire_messages.specs.declared.message.Message.TheVariants.{Tomb}
use Rattle.cluster_machine.specs.Layouts.{Layouts, is_given}
use Rattle.cluster_machine.specs.Node.{Node, Post}
use Rattle.cluster_machine.specs.Phases.{bytes_of, is_spelled}
use Rattle.cluster_machine.specs.Collects.{collection_pause, others, is_aged, Progress, object_rows, has_bytes, has_digest, forgets_row, forgets, drops_row, merges, takes_tomb, finishes, answered_to, tomb_came, goes_on_with, about, about_all, with_rows, collects}
use Rattle.machine_laws.proofs.Same.{Same, SaysOnly, Unseen, same_self, same_accepts, unseen_quiet, unseen_cond, said_to_each}
use Rattle.crdt_core.proofs.Each.{all_append}

module _ {R L : Type 0} (join : R → R → R) (s : Words R) where
  unseen_forgets_row : (x : Node R L) (table : ℕ) (key : List ℕ) (test : R → Bool) (o : Option R) → Unseen x (forgets_row join s x table key test o)
  unseen_forgets_row x table key test None = unseen_quiet x x (same_self x)
  unseen_forgets_row x table key test (Some r) = unseen_cond x (test r) _ _ (record { same = record { view = refl; calls = refl; round = refl }; posts = tt }) (unseen_quiet x x (same_self x))

  pub unseen_forgets : (x : Node R L) (table : ℕ) (key hash : List ℕ) → Unseen x (forgets join s x table key hash)
  unseen_forgets x table key hash = unseen_forgets_row x table key (has_digest join s hash) (row_at join s x.accepted table key)

  -- beside its collections the node stays
  unseen_drops_row : (id : ℕ) (x : Node R L) (o : Open) (c : Collection) (row : Option R) → Unseen x (drops_row join s id (record x { gc = o }) c row)
  unseen_drops_row id x o c None = unseen_quiet x _ (record { view = refl; calls = refl; round = refl })
  unseen_drops_row id x o c (Some r) = record { same = record { view = refl; calls = refl; round = refl }; posts = said_to_each L (others id) _ }

module _ {R L : Type 0} (join : R → R → R) (s : Words R) (k : Layouts L) where
  same_merges : (id now : ℕ) (x : Node R L) (o : Option R) → Same x (merges join s k id now x o)
  same_merges id now x None = same_self x
  same_merges id now x (Some r) = elim (is_given k x.view id (partition_of s r)) as (λ b. Same x (cond b (Rattle.cluster_machine.specs.Rows.accepts join s now x r None) x)) [
    | true ↦ same_accepts join s k now x r None
    | false ↦ same_self x
  ]

  pub unseen_tomb : (id now : ℕ) (x : Node R L) (from number round : ℕ) (row : List ℕ) → Unseen x (takes_tomb join s k id now x from number round row)
  unseen_tomb id now x from number round row = record { same = same_merges id now x (s.read row); posts = (tt, tt) }

  unseen_finishes : (id : ℕ) (x : Node R L) (o : Option Collection) → Unseen x (finishes join s k id x o)
  unseen_finishes id x None = unseen_quiet x x (same_self x)
  unseen_finishes id x (Some c) = unseen_cond x _ _ _ (unseen_drops_row join s id x (closed c.number x.gc) c (row_at join s x.accepted 1 c.key)) (unseen_quiet x _ (record { view = refl; calls = refl; round = refl }))

  unseen_answered : (id : ℕ) (x : Node R L) (number round : ℕ) (o : Open) (e : GcEnd) → Unseen x (answered_to join s k id x number round o e)
  unseen_answered id x number round o Wait = unseen_quiet x _ (record { view = refl; calls = refl; round = refl })
  unseen_answered id x number round o Closed = unseen_quiet x _ (record { view = refl; calls = refl; round = refl })
  unseen_answered id x number round o Complete = unseen_cond x (round == 2) _ _ (unseen_finishes id x (numbered number x.gc)) (unseen_quiet x _ (record { view = refl; calls = refl; round = refl }))

  pub unseen_tomb_came : (id now : ℕ) (x : Node R L) (from number round named : ℕ) → Unseen x (tomb_came join s k id now x from number round named)
  unseen_tomb_came id now x from number round named = unseen_answered id x number round (answered number round from named now x.gc) (answer_end number round from named x.gc)

  -- what is sent shows no view
  said_more : (xs ys : List (Post R L)) → SaysOnly xs → SaysOnly ys → SaysOnly (xs ++ ys)
  said_more xs ys h k = all_append _ xs ys h k

  said_cond : (b : Bool) (t u : Progress R L) → SaysOnly t.posts → SaysOnly u.posts → SaysOnly ((cond b t u).posts)
  said_cond true t u h k = h
  said_cond false t u h k = k

  said_goes_on : (now : ℕ) (c : Collection) (o : Option ℕ) (t : Progress R L) → SaysOnly t.posts → SaysOnly (goes_on_with join s k now c o t).posts
  said_goes_on now c None t h = said_more t.posts _ h (said_to_each L (missing_of c) (Tomb c.number 1 c.row))
  said_goes_on now c (Some ready) t h = said_cond (nat_lt now (ready + collection_pause)) _ _ h (said_more t.posts _ h (said_to_each L (missing_of (cond (c.round == 1) (in_second c) c)) (Tomb c.number 2 c.row)))

  said_about : (id now version : ℕ) (r : R) (o : Option Collection) (t : Progress R L) → SaysOnly t.posts → SaysOnly (about join s k id now version r o t).posts
  said_about id now version r None t h = said_cond (is_spelled s r && is_aged now (s.marker r)) _ _ (said_more t.posts _ h (said_to_each L (others id) (Tomb (t.gc.begun + 1) 1 (bytes_of s r)))) h
  said_about id now version r (Some c) t h = said_cond (has_bytes join s c.row (Some r) && (version == c.newest)) _ _ (said_goes_on now c c.ready t h) h

  said_all : (id now version : ℕ) (rs : List R) (t : Progress R L) → SaysOnly t.posts → SaysOnly (about_all join s k id now version rs t).posts
  said_all id now version [] t h = h
  said_all id now version (r ∷ rs) t h = said_all id now version rs _ (said_about id now version r (keyed (s.key r) t.gc) t h)

  pub unseen_collects : (id now : ℕ) (x : Node R L) → Unseen x (collects join s k id now x)
  unseen_collects id now x = record {
    same = record { view = refl; calls = refl; round = refl };
    posts = said_all id now (newest k.reading x.view) (object_rows join s x) (record { gc = with_rows join s k x x.gc; posts = []; begun = 0 }) tt;
  }
