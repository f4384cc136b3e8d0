-- When the walks of the code stand for those of the model, and what an answer makes of them.
use Rattle.std.specs.Prelude.{◌≡◌, ℕ, Bool, true, false, ◌||◌, cond, Option, Some, None, List, [], option_map, option_copied}
use Rattle.std.specs.List.{list_all}
use Rattle.std.specs.Ordering.{nat_cmp, ordering_then}
use Rattle.std.specs.declared.cmp.Ordering.{Ordering}
use Rattle.std.specs.BTreeMap.{get}
use Rattle.blake2_hash.specs.declared.digest.Hash32.{Hash32}
use Rattle.layout_roles.specs.declared.layout.Layout.{Layout}
use Rattle.table_schema.specs.Words.{Words}
use Rattle.walk_model.specs.Noting.{has_table}
use Rattle.walk_model.specs.Walking.{Walking, is_open, taken}
use Rattle.merkle_sync.specs.declared.walk_end.WalkEnd.{WalkEnd}
use Rattle.merkle_sync.specs.declared.walk_end.WalkEnd.TheVariants.{Same, Ask, Push}
use Rattle.merkle_sync.specs.Telling.{Tells}
use Rattle.cluster_machine.specs.Layouts.{layouts}
use Rattle.cluster_machine.specs.Node.{Node, Walk, Post}
use Rattle.cluster_machine.specs.Phases.{is_spelled}
use Rattle.cluster_machine.specs.Rounds.{walk_at, rows_at, asked_after, noted_after, walk_after, walks_after, found_same, sends_after}
use Rattle.node_parts.specs.declared.contents.Contents.{Contents}
use Rattle.node_parts.specs.declared.walks.Answer.{Answer}
use Rattle.node_parts.specs.declared.walks.NodeWalk.{NodeWalk}
use Rattle.node_parts.specs.declared.walks.Walks.{Walks}
use Rattle.node_parts.specs.Contents.{IsContents}

-- a walk in the words of the model
abbrev pub walk_of : NodeWalk → Walk
walk_of w = record { node = w.node; state = w.state }

-- by partition, then by node
abbrev pub walk_cmp : ℕ × ℕ → ℕ × ℕ → Ordering
walk_cmp a b = ordering_then (nat_cmp a.0 b.0) (nat_cmp a.1 b.1)

-- the walk that the code has over a partition with a node
abbrev pub walk_in : Walks → ℕ → ℕ → Option Walk
walk_in walks p n = option_map (λ state. record { node = n; state = state }) (get walk_cmp walks.by_place (p, n))

-- at each place both have the same walk
abbrev pub AreWalks : Walks → List Walk → Type 0
AreWalks c walks = (p n : ℕ) → walk_in c p n ≡ walk_at p n walks

-- the walk asks no more
abbrev pub has_ended : WalkEnd → Bool
has_ended (Ask prefixes) = false
has_ended Same = true
has_ended (Push keys) = true

-- the other's children, where it has not the same
abbrev pub children_of : Answer → Option (List (ℕ × Hash32))
children_of a = option_copied a.children

-- the walk, where it awaits an answer on this prefix
abbrev pub awaiting : ℕ → List ℕ → Option Walk → Option Walk
awaiting table prefix None = None
awaiting table prefix (Some w) = cond (is_open table prefix w.state.prefixes) (Some w) None

-- the walk of these that awaits the answer
abbrev pub awaiting_in : Answer → List Walk → Option Walk
awaiting_in a walks = awaiting a.table a.prefix.now (walk_at a.p a.from walks)

-- what an answer makes of walks, what is sent then, whether a walk ended with nothing to push, and whether the rows have spellings
pub record Outcome (R : Type 0) : Type 0 where
  pub walks : List Walk
  pub posts : List (Post R Layout)
  pub is_same : Bool
  pub is_spelled : Bool

-- no walk awaits the answer
abbrev pub idle : {R : Type 0} → List Walk → Outcome R
idle walks = record { walks = walks; posts = []; is_same = false; is_spelled = true }

-- some row is of one of the three tables
abbrev pub has_tables : {R : Type 0} → Words R → List R → Bool
has_tables s rows = has_table s 1 rows || (has_table s 2 rows || has_table s 3 rows)

module _ {R : Type 0} (join : R → R → R) (s : Words R) where
  -- every row of the partition has a spelling
  abbrev pub is_spelled_at : Node R Layout → ℕ → Bool
  is_spelled_at x p = list_all (is_spelled s) (rows_at join s x p)

  -- what is asked after the answer
  abbrev pub asked_by : Node R Layout → Answer → ℕ → List (List ℕ)
  asked_by x a p = asked_after join s x p a.table a.prefix.now (children_of a)

  -- a walk over a partition after the answer
  abbrev pub state_after : Node R Layout → Answer → ℕ → Walking → Walking
  state_after x a p walk = taken a.table a.prefix.now (asked_by x a p) (noted_after join s x p a.table a.prefix.now (children_of a)) walk

  -- the walk that awaits the answer goes on
  abbrev pub outcome_of : Node R Layout → ℕ → Answer → List Walk → Option Walk → Outcome R
  outcome_of x number a walks None = idle walks
  outcome_of x number a walks (Some w) =
      let later = walk_after join s x w a.table a.prefix.now (children_of a) in
      record {
        walks = walks_after later walks;
        posts = sends_after join s layouts x number later a.table (asked_by x a w.state.partition);
        is_same = found_same later;
        is_spelled = is_spelled_at x w.state.partition;
      }

  -- what the answer makes of these walks, under a number
  abbrev pub outcome : Node R Layout → ℕ → Answer → List Walk → Outcome R
  outcome x number a walks = outcome_of x number a walks (awaiting_in a walks)

  -- the walk went on, and tells so; it is kept unless it has ended
  pub record WentOn (new : Walks) (a : Answer) (end : WalkEnd) (x : Node R Layout) (walks : List Walk) (w : Walk) : Type 0 where
    pub later : Walking
    pub tells : Tells (state_after x a w.state.partition w.state) (asked_by x a w.state.partition) end later
    pub kept : AreWalks new (walks_after (walk_after join s x w a.table a.prefix.now (children_of a)) walks)
    pub spelled : is_spelled_at x w.state.partition ≡ true

  -- nothing is told where no walk awaits the answer
  abbrev pub Tell : Walks → Answer → Option WalkEnd → Node R Layout → List Walk → Option Walk → Type 0
  Tell new a None x walks None = AreWalks new walks
  Tell new a (Some end) x walks (Some w) = WentOn new a end x walks w
  Tell new a _ x walks _ = ⊥

  -- a walk awaits the answer, and some row of its partition has no spelling
  abbrev pub Lacks : Node R Layout → Option Walk → Type 0
  Lacks x None = ⊥
  Lacks x (Some w) = is_spelled_at x w.state.partition ≡ false

  module _ {S : Type 0} where
    -- each row of the partition has a spelling
    abbrev pub IsSpelled : Contents S R → ℕ → Type 0
    IsSpelled c p = (x : Node R Layout) → IsContents join s c x → is_spelled_at x p ≡ true

    -- some row of it has none
    abbrev pub LacksSpelling : Contents S R → ℕ → Type 0
    LacksSpelling c p = (x : Node R Layout) → IsContents join s c x → is_spelled_at x p ≡ false

    -- a walk went on after the answer, by these contents
    abbrev pub GoesOn : Contents S R → Answer → Walking → Walking → WalkEnd → Type 0
    GoesOn c a old new end = (x : Node R Layout) → IsContents join s c x → Tells (state_after x a old.partition old) (asked_by x a old.partition) end new

    -- whatever walks they are, the answer was taken in
    abbrev pub TakesAnswer : Contents S R → Walks → Walks → Answer → Option WalkEnd → Type 0
    TakesAnswer c old new a end = (x : Node R Layout) (walks : List Walk) → IsContents join s c x → AreWalks old walks → Tell new a end x walks (awaiting_in a walks)

    -- whatever walks they are, it can't be
    abbrev pub CannotTake : Contents S R → Walks → Answer → Type 0
    CannotTake c old a = (x : Node R Layout) (walks : List Walk) → IsContents join s c x → AreWalks old walks → Lacks x (awaiting_in a walks)
