-- The old sets that a text gives, as the tables `old`: each a run of partitions with one set of nodes.
use Rattle.std.specs.Prelude.{ℕ, ◌+◌, ◌-◌, Bool, not, ◌&&◌, ◌==◌, List, [], ◌++◌, length, codes, replicate, Option, Some, None, Result, option_map, option_and_then}
use Rattle.std.specs.Option.{ok_or}
use Rattle.toml.specs.Data.{Data, Items, no_items, item, Members, get_member, as_array, as_table}
use Rattle.toml.specs.Parse.{parse_document}
use Rattle.layout_roles.specs.Fits.{NodeSet}
use Rattle.layout_roles.specs.Sets.{in_order}
use Rattle.layout_text.specs.declared.config.FieldName.TheVariants as field
use Rattle.layout_text.specs.declared.config.ConfigFault.{ConfigFault}
use Rattle.layout_text.specs.declared.config.ConfigFault.TheVariants.{NotToml}
use Rattle.layout_text.specs.declared.old.OldRun.{OldRun}
use Rattle.layout_text.specs.Values.{keep_if, number_in}
use Rattle.layout_text.specs.Settings.{◌>>=◌, needed, faulted}

-- no two of the three are one
abbrev pub are_different : ℕ → ℕ → ℕ → Bool
are_different a b c = not (a == b) && (not (a == c) && not (b == c))

-- the set of three nodes, where there are three and they are different
abbrev pub set_of : Option ℕ → Option ℕ → Option ℕ → Option NodeSet
set_of (Some a) (Some b) (Some c) = keep_if (are_different a b c) (in_order a b c)
set_of _ _ _ = None

-- a node is a number from 1 to 64
abbrev pub node_of : Data → Option ℕ
node_of value = number_in 1 64 value

-- three different nodes, in any order
abbrev pub nodes_of : Items → Option NodeSet
nodes_of (item a (item b (item c no_items))) = set_of (node_of a) (node_of b) (node_of c)
nodes_of _ = None

-- the nodes of a table
abbrev pub nodes_at : Members → Option NodeSet
nodes_at table = option_and_then nodes_of (option_and_then as_array (get_member (codes "nodes") table))

-- the number at a key, where it is in a range
abbrev pub number_at : List ℕ → ℕ → ℕ → Members → Option ℕ
number_at key low high table = option_and_then (number_in low high) (get_member key table)

-- the run of a table: its first partition is the next one, and its last is 255 at most
abbrev pub run_from : ℕ → Members → Option OldRun
run_from next table =
    option_and_then (λ first. option_and_then (λ last. option_map (λ set. record { count = last + 1 - first; set = set }) (nodes_at table)) (number_at (codes "last") first 255 table))
    (number_at (codes "first") next next table)

-- the sets before, and those of the tables after them, which cover the partitions to 255 in order without gap
abbrev pub sets_of : List NodeSet → Items → Option (List NodeSet)
sets_of before no_items = keep_if (length before == 256) before
sets_of before (item value items) =
    option_and_then (λ run. sets_of (before ++ replicate run.count run.set) items) (option_and_then (run_from (length before)) (as_table value))

-- the old sets of a document, one for each partition
abbrev pub old_in : Members → Option (List NodeSet)
old_in root = option_and_then (sets_of []) (option_and_then as_array (get_member (codes "old") root))

-- the old sets that a text says
unfoldable pub said_old : List ℕ → Result (List NodeSet) ConfigFault
said_old text = ok_or (parse_document text) NotToml >>= (λ root. faulted (needed field.Old (old_in root)))
