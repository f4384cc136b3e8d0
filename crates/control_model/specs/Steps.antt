-- What may happen.
use Rattle.std.specs.Prelude.{ℕ, suc, pred, min, Bool, true, false, cond, ◌&&◌, ◌==◌, leb, nat_lt, Option, Some, None, List, [], ◌∷◌, slice_get}
use Rattle.layout_trackers.specs.declared.which.Which.TheVariants.{Ack, Sync, SyncAck}
use Rattle.view_model.specs.View.{Reading, View, oldest, newest, layout_at, version_of, ack_least, read_version, merged, cleaned, appended, with_entry}
use Rattle.control_model.specs.Layouts.{is_member, is_lawful}
use Rattle.control_model.specs.World.{Request, Round, Node, World, Change, next, nothing, only, unseen, view_of}

-- the events of the control plane
pub data Step (L : Type 0) : Type 0 where
  Install : (who : ℕ → Bool) (layout : L) → Step L  -- version 1, into the views of these nodes at once; of one node, where it is applied there
  Apply : (node : ℕ) (layout : L) → Step L  -- one version more
  Gossip : (node : ℕ) → Step L  -- the node's view is sent
  Deliver : (node message : ℕ) → Step L  -- a view that was sent arrives at the node, whether or not it did before
  RaiseAck : (node : ℕ) → Step L
  RaiseSyncAck : (node : ℕ) → Step L
  Clean : (node : ℕ) → Step L
  Begin : (node : ℕ) → Step L  -- a request begins at its coordinator
  End : (node request : ℕ) → Step L  -- it ends, by an answer or by expiry
  BeginRound : (node : ℕ) → Step L
  Complete : (node : ℕ) → Step L  -- the node's open round completes, at any moment
  Restart : (node : ℕ) → Step L

-- a round stays open while the oldest version is below its own
abbrev pub still : ℕ → Option ℕ → Option ℕ
still oldest None = None
still oldest (Some v) = cond (leb v oldest) None (Some v)

-- the least start version, or this one where it is less
abbrev pub least_start : ℕ → List Request → ℕ
least_start newest [] = newest
least_start newest (q ∷ qs) = min q.start (least_start newest qs)

-- requests without that of this number
abbrev pub without : ℕ → List Request → List Request
without number [] = []
without number (q ∷ qs) = cond (q.number == number) (without number qs) (q ∷ without number qs)

-- no round is open
abbrev pub is_none : Option ℕ → Bool
is_none None = true
is_none (Some _) = false

-- node n's round to version i
abbrev pub round_of : ℕ → ℕ → Round
round_of n i = record { node = n; version = i }

module _ {L : Type 0} (r : Reading L) where
  -- version 1 comes into the views of the chosen nodes
  abbrev pub installs : World L → (ℕ → Bool) → L → Change L
  installs w who l = record (nothing w) {
    who = who;
    node = λ n. record (w.nodes n) { view = appended r (view_of w n) l };
    top = 1;
    applied = λ i. cond (i == 1) (record { layout = Some l; by = 0; origin = unseen }) (w.applied i);
  }

  -- node n applies one version more, and this is its view then
  abbrev pub applies : World L → ℕ → L → View L → Change L
  applies w n l v = record (only w n (record (w.nodes n) { view = v })) {
    top = suc w.top;
    applied = λ i. cond (i == suc w.top) (record { layout = Some l; by = n; origin = v }) (w.applied i);
  }

  -- the node's view becomes this one, which closes a round to a version that is at most its oldest one
  abbrev pub with_view : Node L → View L → Node L
  with_view x v = record x { view = v; round = still (oldest r v) x.round }

  -- a view that arrives is merged into node n's own
  abbrev pub comes : World L → ℕ → Option (View L) → Change L
  comes w n None = nothing w
  comes w n (Some v) = only w n (with_view (w.nodes n) (merged r (view_of w n) v))

  -- the node's own entry is raised
  abbrev pub completes : World L → ℕ → Option ℕ → Change L
  completes w n None = nothing w
  completes w n (Some i) = record (only w n (record (w.nodes n) { view = with_entry r Sync n i (view_of w n); round = None })) { completes = round_of n i ∷ [] }

  -- a request begins at node n, with the newest version that it knows
  abbrev pub begins : World L → ℕ → Change L
  begins w n = record (only w n (record (w.nodes n) { requests = record { number = suc w.asked; start = newest r (view_of w n) } ∷ (w.nodes n).requests })) { asked = suc w.asked }

  -- node n opens a round to version i
  abbrev pub begins_round : World L → ℕ → ℕ → Change L
  begins_round w n i = record (only w n (record (w.nodes n) { round = Some i })) { begins = round_of n i ∷ [] }

  -- node n is a member of the view's newest version
  abbrev pub is_current : View L → ℕ → Bool
  is_current v n = is_member r n (layout_at r v (newest r v))

  -- a round to version i, the one after the node's read version, may begin: i is known, the node is a member of the version before, the ack least is at least i, and its own sync is below i
  abbrev pub may_begin : Node L → ℕ → ℕ → Bool
  may_begin x n i = is_none x.round && (leb i (newest r x.view) && (is_member r n (layout_at r x.view (pred i)) && (leb i (ack_least r x.view) && nat_lt (version_of r Sync x.view n) i)))

  module _ (partitions : ℕ) where
    -- version 1 is installed where none was applied; each later one is applied once, at a member of the version before, the newest that it knows
    abbrev pub change : World L → Step L → Change L
    change w (Step.Install who l) = cond ((w.top == 0) && is_lawful r partitions 1 l) (installs w who l) (nothing w)
    change w (Step.Apply n l) =
        let v = view_of w n in
        cond (is_current v n && ((newest r v == w.top) && is_lawful r partitions (suc w.top) l)) (applies w n l (appended r v l)) (nothing w)
    change w (Step.Gossip n) = record (nothing w) { sends = view_of w n ∷ [] }
    change w (Step.Deliver n k) = comes w n (slice_get w.sent k)
    change w (Step.RaiseAck n) =
        let v = view_of w n in only w n (record (w.nodes n) { view = with_entry r Ack n (least_start (newest r v) (w.nodes n).requests) v })
    change w (Step.RaiseSyncAck n) =
        let v = view_of w n in only w n (record (w.nodes n) { view = with_entry r SyncAck n (read_version r v) v })
    change w (Step.Clean n) = only w n (with_view (w.nodes n) (cleaned r (view_of w n)))
    change w (Step.Begin n) = cond (is_current (view_of w n) n) (begins w n) (nothing w)
    change w (Step.End n q) = only w n (record (w.nodes n) { requests = without q (w.nodes n).requests })
    change w (Step.BeginRound n) =
        let i = suc (read_version r (view_of w n)) in cond (may_begin (w.nodes n) n i) (begins_round w n i) (nothing w)
    change w (Step.Complete n) = completes w n (w.nodes n).round
    change w (Step.Restart n) = only w n (record (w.nodes n) { requests = []; round = None })

    -- what the world is after one event
    abbrev pub step : World L → Step L → World L
    step w s = next w (change w s)

    -- what the world is after events in order
    abbrev pub run : World L → List (Step L) → World L
    run w [] = w
    run w (s ∷ ss) = run (step w s) ss
