-- The open collections, and what each call makes of them.
use Rattle.std.specs.Prelude.{ℕ, ◌+◌, ◌==◌, ◌&&◌, Bool, false, not, if◌then◌else◌, List, [], ◌∷◌, ◌++◌, length, map, nat_eq, Option, Some, None, is_some}
use Rattle.std.specs.List.{filter, find}
use Rattle.std.specs.Cmp.Lexicographic.{pointwise}
use Rattle.numbered_list.specs.Numbers.{AreNumbered}
use Rattle.gc_model.specs.declared.collection.Collection.{Collection}
use Rattle.gc_model.specs.declared.collection.GcEnd.{GcEnd}
use Rattle.gc_model.specs.declared.collection.GcEnd.TheVariants.{Wait, Closed, Complete}
use Rattle.quorum_model.specs.Quorum.{is_among}
use Rattle.gc_model.specs.Rounds.{given, is_changed, is_closed}

-- the open collections of a node
pub record Open : Type 0 where
  -- how many collections ever began, which is the number of the last one
  pub begun : ℕ
  -- those that are open, in order of their numbers
  pub collections : List Collection

-- none has begun
abbrev pub none_open : Open
none_open = record { begun = 0; collections = [] }

-- ---- one collection

-- the node has confirmed the open round
abbrev pub has_confirmed : ℕ → Collection → Bool
has_confirmed node c = if c.round == 1 then is_some (given node c.first) else is_among node c.again

-- how many different nodes have confirmed the open round
abbrev pub confirmed_count : Collection → ℕ
confirmed_count c = if c.round == 1 then length c.first else length c.again

-- the newest version isn't the first one that the node gave in round 1
abbrev pub is_other : ℕ → ℕ → Collection → Bool
is_other node newest c = is_changed (given node c.first) newest

-- Where an answer leads: it closes a collection in round 2 where it is of that round and gives another version than
-- in round 1, and completes the open round where it is of that round and 15 other nodes have confirmed that.
abbrev pub end_of : ℕ → ℕ → ℕ → Collection → GcEnd
end_of round node newest c =
    if not (round == c.round) then Wait
    else if (round == 2) && is_other node newest c then Closed
    else if not (has_confirmed node c) && (confirmed_count c == 15) then Complete
    else Wait

-- the collection after an answer of its open round: a node counts once, and the 16th of round 1 tells the time
abbrev pub after_answer : ℕ → ℕ → ℕ → Collection → Collection
after_answer node newest now c =
    if has_confirmed node c then c
    else if c.round == 1 then
    record c { first = c.first ++ (node, newest) ∷ []; ready = (if length c.first + 1 == 16 then Some now else c.ready) }
    else record c { again = c.again ++ node ∷ [] }

-- the nodes from 1 to 16 that haven't confirmed the open round
abbrev pub missing_of : Collection → List ℕ
missing_of c =
    filter (λ node. not (has_confirmed node c))
    (1 ∷ 2 ∷ 3 ∷ 4 ∷ 5 ∷ 6 ∷ 7 ∷ 8 ∷ 9 ∷ 10 ∷ 11 ∷ 12 ∷ 13 ∷ 14 ∷ 15 ∷ 16 ∷ [])

-- ---- numbers

-- a collection's number
abbrev pub number_of : Collection → ℕ
number_of c = c.number

-- the numbers ascend from 1, and none is above the last that was given
abbrev pub IsNumbered : ℕ → List Collection → Type 0
IsNumbered begun cs = AreNumbered number_of begun cs

-- the open collection with this number
abbrev pub numbered : ℕ → Open → Option Collection
numbered number o = find (λ c. c.number == number) o.collections

-- the first open collection with this key
abbrev pub keyed : List ℕ → Open → Option Collection
keyed key o = find (λ c. pointwise nat_eq c.key key) o.collections

-- ---- the calls

-- a collection that the own node has confirmed in round 1
abbrev pub opened : ℕ → List ℕ → List ℕ → ℕ → ℕ → Collection
opened number key row own newest = record {
  number = number;
  key = key;
  round = 1;
  row = row;
  own = own;
  newest = newest;
  ready = None;
  first = (own, newest) ∷ [];
  again = [];
}

-- one more is open, with the next number
abbrev pub begun_with : Open → List ℕ → List ℕ → ℕ → ℕ → Open
begun_with o key row own newest = record {
  begun = o.begun + 1;
  collections = o.collections ++ opened (o.begun + 1) key row own newest ∷ [];
}

-- the open collection with this number changed
abbrev pub changed : (Collection → Collection) → ℕ → Open → Open
changed f number o = record o { collections = map (λ c. if c.number == number then f c else c) o.collections }

-- without the collection of this number
abbrev pub closed : ℕ → Open → Open
closed number o = record o { collections = filter (λ c. not (c.number == number)) o.collections }

-- where an answer leads: nowhere for a collection that isn't open
abbrev pub end_at : ℕ → ℕ → ℕ → Option Collection → GcEnd
end_at round node newest None = Wait
end_at round node newest (Some c) = end_of round node newest c

-- where an answer to the collection with this number leads
abbrev pub answer_end : ℕ → ℕ → ℕ → ℕ → Open → GcEnd
answer_end number round node newest o = end_at round node newest (numbered number o)

-- the collection after an answer that doesn't close it: one of another round changes nothing
abbrev pub told : ℕ → ℕ → ℕ → ℕ → Collection → Collection
told round node newest now c = if round == c.round then after_answer node newest now c else c

-- the open collections after an answer, which closes one or is one more confirmation
abbrev pub answered : ℕ → ℕ → ℕ → ℕ → ℕ → Open → Open
answered number round node newest now o =
    if is_closed (answer_end number round node newest o) then closed number o else changed (told round node newest now) number o

-- an open collection whose round 1 is complete, and whose round 2 hasn't begun
abbrev pub is_ready : Option Collection → Bool
is_ready None = false
is_ready (Some c) = (c.round == 1) && is_some c.ready

-- round 2 of a collection has begun, and its own node has confirmed it
abbrev pub in_second : Collection → Collection
in_second c = record c { round = 2; again = c.own ∷ [] }

-- the nodes that haven't confirmed the open round of a collection, none where it isn't open
abbrev pub missing_at : Option Collection → List ℕ
missing_at None = []
missing_at (Some c) = missing_of c

-- the nodes that haven't confirmed the open round of the collection with this number; none where it isn't open
abbrev pub missing_in : ℕ → Open → List ℕ
missing_in number o = missing_at (numbered number o)
