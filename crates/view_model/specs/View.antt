-- What a node knows of the cluster's layout versions, and what follows from it.
use Rattle.std.specs.Prelude.{◌≡◌, ◌≤◌, ℕ, zero, suc, pred, max, Bool, true, false, cond, ◌&&◌, ◌||◌, ◌==◌, leb, nat_lt, map, List, [], ◌∷◌, ◌++◌, Option, Some, None}
use Rattle.std.specs.Option.{unwrap_or}
use Rattle.std.specs.List.{filter, find, list_all, flat_map}
use Rattle.crdt_core.specs.Members.{two_pass}
use Rattle.layout_trackers.specs.declared.trackers.Trackers.{Trackers}
use Rattle.layout_trackers.specs.declared.which.Which.{Which}
use Rattle.layout_trackers.specs.declared.which.Which.TheVariants.{Ack, Sync, SyncAck}
use Rattle.layout_trackers.specs.Trackers.{counts, raised, is_reached, trackers_join}
use Rattle.layout_trackers.specs.Entries.{Grows}
use Rattle.layout_trackers.specs.Least.{least}

-- what a layout says: its version, the nodes that have a role in it, gateways included, and the three nodes of each partition
pub record Reading (L : Type 0) : Type 0 where
  pub version : L → ℕ
  pub members : L → List ℕ
  pub sets : L → List (List ℕ)

-- the layouts of the stored versions, from the oldest to the newest, and the three trackers
pub record View (L : Type 0) : Type 0 where
  pub layouts : List L
  pub trackers : Trackers

-- the greatest of 1 .. n that passes, or 0
abbrev pub greatest : (ℕ → Bool) → ℕ → ℕ
greatest f zero = 0
greatest f (suc n) = cond (f (suc n)) (suc n) (greatest f n)

module _ {L : Type 0} (r : Reading L) where
  -- each version is the one after that before it
  abbrev pub follow : ℕ → List L → Bool
  follow before [] = true
  follow before (l ∷ ls) = (r.version l == suc before) && follow (r.version l) ls

  -- versions without a gap, none of which is 0
  abbrev pub is_gapless : List L → Bool
  is_gapless [] = true
  is_gapless (l ∷ ls) = leb 1 (r.version l) && follow (r.version l) ls

  -- the version of the first layout, 0 where there is none
  abbrev pub first_version : List L → ℕ
  first_version [] = 0
  first_version (l ∷ ls) = r.version l

  -- the version of the last layout, or that before them where there is none
  abbrev pub last_version : ℕ → List L → ℕ
  last_version before [] = before
  last_version before (l ∷ ls) = last_version (r.version l) ls

  -- the oldest stored version, 0 where none is stored
  abbrev pub oldest : View L → ℕ
  oldest v = first_version v.layouts

  -- the newest stored version, 0 where none is stored
  abbrev pub newest : View L → ℕ
  newest v = last_version 0 v.layouts

  -- the layout of version i, where it is stored
  abbrev pub layout_at : View L → ℕ → Option L
  layout_at v i = find (λ l. r.version l == i) v.layouts

  -- the layouts of version i and later ones
  abbrev pub from : ℕ → List L → List L
  from i ls = filter (λ l. leb i (r.version l)) ls

  -- a node's version, where one without an entry counts as of the oldest stored one
  abbrev pub version_of : Which → View L → ℕ → ℕ
  version_of which v node = counts (oldest v) which v.trackers node

  -- the members of all stored versions
  abbrev pub members_stored : View L → List ℕ
  members_stored v = flat_map r.members v.layouts

  -- the least version among the members of all stored versions, 0 where none is stored
  abbrev pub least_of : Which → View L → ℕ
  least_of which v = unwrap_or (least (map (version_of which v) (members_stored v))) 0

  -- the version that each member of all stored versions has acknowledged
  abbrev pub ack_least : View L → ℕ
  ack_least v = least_of Ack v

  -- in each partition of this layout two of the three nodes have synced to version i
  abbrev pub have_synced : View L → ℕ → Option L → Bool
  have_synced v i None = false
  have_synced v i (Some l) = list_all (two_pass (λ node. leb i (version_of Sync v node))) (r.sets l)

  -- version i, above the oldest stored, is established: by the sets of the version before it
  abbrev pub is_established : View L → ℕ → Bool
  is_established v i = nat_lt (oldest v) i && have_synced v i (layout_at v (pred i))

  -- version i may be read: it is the oldest stored, it is established, or some node told that all have synced to it
  abbrev pub is_readable : View L → ℕ → Bool
  is_readable v i = (i == oldest v) || (is_established v i || is_reached SyncAck i v.trackers)

  -- the greatest version up to the newest that is the oldest stored one, is established, or is at most some node's sync-ack
  abbrev pub read_version : View L → ℕ
  read_version v = greatest (is_readable v) (newest v)

  -- both views in one: the versions from the greater oldest to the greater newest, and the greater entries
  abbrev pub merged : View L → View L → View L
  merged a b = record {
    layouts = from (max (oldest a) (oldest b)) (a.layouts ++ from (suc (newest a)) b.layouts);
    trackers = trackers_join a.trackers b.trackers;
  }

  -- the versions that are stored in both have the same layouts
  abbrev pub Agree : View L → View L → Type 0
  Agree a b = (i : ℕ) (x y : L) → layout_at a i ≡ Some x → layout_at b i ≡ Some y → x ≡ y

  -- without the versions, other than the newest, that are below the least sync-ack
  abbrev pub cleaned : View L → View L
  cleaned v = record v { layouts = filter (λ l. (r.version l == newest v) || leb (least_of SyncAck v) (r.version l)) v.layouts }

  -- one version more
  abbrev pub appended : View L → L → View L
  appended v l = record v { layouts = v.layouts ++ l ∷ [] }

  -- a node's entry raised to version i
  abbrev pub with_entry : Which → ℕ → ℕ → View L → View L
  with_entry which node i v = record v { trackers = raised which node i v.trackers }

  -- a view that another one grew into: no entry and no end fell, and what the later one still reaches down to it stores
  pub record GrewFrom (a b : View L) : Type 0 where
    pub entries : Grows a.trackers b.trackers
    pub oldest_grew : oldest a ≤ oldest b
    pub newest_grew : newest a ≤ newest b
    pub layouts : (i : ℕ) (x : L) → oldest b ≤ i → layout_at a i ≡ Some x → layout_at b i ≡ Some x
