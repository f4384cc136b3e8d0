-- The outbox: a list of numbered items, and what each call makes of it. And which blocks are due.
use Rattle.std.specs.Prelude.{ℕ, ◌+◌, ◌-◌, Bool, not, if◌then◌else◌, ◌==◌, ◌&&◌, List, [], ◌∷◌, ◌++◌, map, nat_le}
use Rattle.std.specs.List.{filter, list_all, list_any}
use Rattle.blake2_hash.specs.declared.digest.Hash32.{Hash32}
use Rattle.quorum_model.specs.Quorum.{is_among, two_of}
use Rattle.numbered_list.specs.Numbers.{AreNumbered}
use Rattle.block_resync.specs.declared.item.Item.{Item}

-- items that wait to be confirmed
pub record Outbox : Type 0 where
  -- how many items were ever pushed, which is the number of the last one
  pub pushed : ℕ
  -- the items that wait, in order of their numbers, each with the nodes that have confirmed it
  pub items : List Item

-- no item was ever pushed
abbrev pub empty : Outbox
empty = record { pushed = 0; items = [] }

-- ---- numbers

-- an item's number
abbrev pub number_of : Item → ℕ
number_of x = x.number

-- the numbers ascend from 1, and none is above the last that was given
abbrev pub IsNumbered : ℕ → List Item → Type 0
IsNumbered pushed items = AreNumbered number_of pushed items

-- ---- confirmations

-- two nodes of each set have confirmed the item
abbrev pub two_of_each : List (List ℕ) → Item → Bool
two_of_each sets x = list_all (λ set. two_of set x.confirmed) sets

-- the item after a node confirmed it: a node counts once
abbrev pub item_confirmed : ℕ → Item → Item
item_confirmed node x = if is_among node x.confirmed then x else record x { confirmed = x.confirmed ++ node ∷ [] }

-- an item that none has confirmed
abbrev pub item_forgot : Item → Item
item_forgot x = record x { confirmed = [] }

-- ---- the calls

-- a row more waits, with its partition, under the next number
abbrev pub pushed_on : Outbox → List ℕ → ℕ → Outbox
pushed_on o row partition =
    record {
      pushed = o.pushed + 1;
      items = o.items ++ record { number = o.pushed + 1; row = row; partition = partition; confirmed = [] } ∷ [];
    }

-- the node confirms the item with this number, where there is one
abbrev pub confirmed : Outbox → ℕ → ℕ → Outbox
confirmed o number node = record o { items = map (λ x. if x.number == number then item_confirmed node x else x) o.items }

-- there is an item with this number, and two nodes of each set have confirmed it
abbrev pub is_done : Outbox → ℕ → List (List ℕ) → Bool
is_done o number sets = list_any (λ x. (x.number == number) && two_of_each sets x) o.items

-- without the item of this number
abbrev pub dropped : Outbox → ℕ → Outbox
dropped o number = record o { items = filter (λ x. not (x.number == number)) o.items }

-- each item waits anew for every confirmation
abbrev pub forgot : Outbox → Outbox
forgot o = record o { items = map item_forgot o.items }

-- ---- blocks

-- the note is 600,000 milliseconds old or more
abbrev pub is_due : ℕ → Hash32 × ℕ → Bool
is_due now n = nat_le 600000 (now - n.1)

-- the hashes of these notes that are due
abbrev pub due_of : ℕ → List (Hash32 × ℕ) → List Hash32
due_of now notes = map (λ n. n.0) (filter (is_due now) notes)
