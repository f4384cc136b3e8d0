-- Which event a line of a schedule over items spells.
use Rattle.std.specs.Prelude.{◌≡◌, ℕ, Bool, true, false, IsTrue, List, [], ◌∷◌, codes, decimal}
use Rattle.std.specs.List.{join_with_byte}
use Rattle.store_model.specs.declared.event.Event.{Event}
use Rattle.store_model.specs.declared.event.Event.TheVariants as event
use Rattle.k2v_model.specs.declared.order.Item.{Item}
use Rattle.text_model.specs.Grammar.{Range, number, bucket, key, both, node_range, range_of as common_range, words_of as common_words, IsIn, first_word}
use Rattle.k2v_text.specs.declared.event.ItemEvent.{ItemEvent}
use Rattle.k2v_text.specs.declared.event.ItemEvent.TheVariants.{Common, Put, Delete, Get}

-- an event that both kinds of schedules have: no request for an object, and no size of blocks
abbrev pub is_common : Event → Bool
is_common (event.Block size) = false
is_common (event.Put n name object size fill) = false
is_common (event.Get n name object) = false
is_common (event.Head n name object) = false
is_common (event.Delete n name object) = false
is_common (event.Copy n from_name from_object name object) = false
is_common (event.List n name start) = false
is_common other = true

-- the words of an item: its bucket, its partition key and its sort key
abbrev pub item_words : Item → List (List ℕ) → List (List ℕ)
item_words i ws = i.bucket ∷ i.pk ∷ i.sk ∷ ws

-- the words of an event
abbrev pub words_of : ItemEvent → List (List ℕ)
words_of (Common e) = common_words e
words_of (Put n item size fill token) = codes "kput" ∷ decimal n ∷ item_words item (decimal size ∷ decimal fill ∷ decimal token ∷ [])
words_of (Delete n item token) = codes "kdel" ∷ decimal n ∷ item_words item (decimal token ∷ [])
words_of (Get n item) = codes "kget" ∷ decimal n ∷ item_words item []

-- an event's name is the first of its words
abbrev pub name_of : ItemEvent → List ℕ
name_of e = first_word (words_of e)

-- an event is spelled by its words, one space apart
abbrev pub spelling : ItemEvent → List ℕ
spelling e = join_with_byte 32 (words_of e)

-- a request is at a node, for an item
abbrev pub item_range : ℕ → Item → Range
item_range n i = both (node_range n) (both (bucket i.bucket) (both (key i.pk) (key i.sk)))

-- a token is a request's number, or 0
abbrev pub token_range : ℕ → Range
token_range t = number 0 4294967295 t

-- the ranges of an event's words
abbrev pub range_of : ItemEvent → Range
range_of (Common e) = common_range e
range_of (Put n item size fill token) = both (item_range n item) (both (both (number 0 65536 size) (number 0 250 fill)) (token_range token))
range_of (Delete n item token) = both (item_range n item) (token_range token)
range_of (Get n item) = item_range n item

-- a line of a schedule of objects is one of these where both kinds have it
abbrev pub is_allowed_kind : ItemEvent → Bool
is_allowed_kind (Common e) = is_common e
is_allowed_kind other = true

-- the words of an event are in their ranges, and it is none of objects or blocks
abbrev pub IsAllowed : ItemEvent → Type 0
IsAllowed e = IsIn (range_of e) × IsTrue (is_allowed_kind e)

-- a line spells an event
pub record Spells (line : List ℕ) (e : ItemEvent) : Type 0 where
  pub spelled : line ≡ spelling e
  pub allowed : IsIn (range_of e)
  pub kind : IsTrue (is_allowed_kind e)
