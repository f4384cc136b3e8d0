-- The world of the control plane: what is, and what was.
use Rattle.std.specs.Prelude.{ℕ, Bool, false, cond, ◌==◌, Option, None, List, [], ◌++◌}
use Rattle.layout_trackers.specs.Trackers.{no_trackers}
use Rattle.view_model.specs.View.{View}

-- a request in flight, and the version that was its coordinator's newest when it began
pub record Request : Type 0 where
  pub number : ℕ
  pub start : ℕ

-- a round of a node to a version
pub record Round : Type 0 where
  pub node : ℕ
  pub version : ℕ

-- a node of the control plane
pub record Node (L : Type 0) : Type 0 where
  pub view : View L
  pub requests : List Request  -- those in flight of which it is the coordinator
  pub round : Option ℕ  -- the version of its open round

-- what was applied as a version: the layout, the node that applied it, and that node's view from then. Version 1 has no one such node
pub record Applied (L : Type 0) : Type 0 where
  pub layout : Option L
  pub by : ℕ
  pub origin : View L

-- the nodes, each view and round that ever was, and each version that was applied
pub record World (L : Type 0) : Type 0 where
  pub nodes : ℕ → Node L
  pub sent : List (View L)  -- each view that was ever sent
  pub top : ℕ  -- how many versions were applied
  pub applied : ℕ → Applied L  -- each version that was applied
  pub began : List Round  -- each round that ever began, those that a restart lost included
  pub completed : List Round  -- each round that ever completed
  pub asked : ℕ  -- how many requests began

-- what a step changes: these nodes become those, and this is added
pub record Change (L : Type 0) : Type 0 where
  pub who : ℕ → Bool
  pub node : ℕ → Node L
  pub sends : List (View L)
  pub top : ℕ
  pub applied : ℕ → Applied L
  pub begins : List Round
  pub completes : List Round
  pub asked : ℕ

module _ {L : Type 0} where
  -- the world with what changed
  abbrev pub next : World L → Change L → World L
  next w c = record {
    nodes = λ n. cond (c.who n) (c.node n) (w.nodes n);
    sent = w.sent ++ c.sends;
    top = c.top;
    applied = c.applied;
    began = c.begins ++ w.began;
    completed = c.completes ++ w.completed;
    asked = c.asked;
  }

  -- no node changes, and nothing is sent, applied or begun
  abbrev pub nothing : World L → Change L
  nothing w = record { who = λ _. false; node = w.nodes; sends = []; top = w.top; applied = w.applied; begins = []; completes = []; asked = w.asked }

  -- this node alone changes
  abbrev pub only : World L → ℕ → Node L → Change L
  only w n x = record (nothing w) { who = λ m. m == n; node = λ _. x }

  -- a view without a version and without an entry
  abbrev pub unseen : View L
  unseen = record { layouts = []; trackers = no_trackers }

  -- no version is applied and no view sent
  abbrev pub empty : World L
  empty = record {
    nodes = λ _. record { view = unseen; requests = []; round = None };
    sent = [];
    top = 0;
    applied = λ _. record { layout = None; by = 0; origin = unseen };
    began = [];
    completed = [];
    asked = 0;
  }

  -- what node n knows of the versions
  abbrev pub view_of : World L → ℕ → View L
  view_of w n = (w.nodes n).view

  -- the layout that was applied as version i
  abbrev pub layout_of : World L → ℕ → Option L
  layout_of w i = (w.applied i).layout
