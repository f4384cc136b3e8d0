-- The event that a line of a schedule over items spells, as a function.
use Rattle.std.specs.Prelude.{◌≡◌, ℕ, Bool, true, false, ◌&&◌, if◌then◌else◌, Option, option_map, Some, None, List, [], ◌∷◌, refl, bytes_eq}
use Rattle.row_codec.specs.Reads.{are_bytes}
use Rattle.k2v_rows.specs.Later.{is_short}
use Rattle.k2v_model.specs.declared.order.Item.{Item}
use Rattle.text_model.specs.Words.{words_in}
use Rattle.text_model.specs.Reading.{number_in, is_in, candidate as common_candidate}
use Rattle.k2v_text.specs.declared.event.ItemEvent.{ItemEvent}
use Rattle.k2v_text.specs.declared.event.ItemEvent.TheVariants.{Common, Put, Delete, Get}
use Rattle.k2v_text.specs.Grammar.{range_of, is_allowed_kind, spelling}

-- the item of these words, where both tests of its partition key passed
abbrev pub item_by : (bucket pk sk : List ℕ) (s b : Bool) → is_short pk ≡ s → are_bytes pk ≡ b → Option Item
item_by bucket pk sk true true short bytes = Some (record { bucket = bucket; pk = pk; sk = sk; short = short; bytes = bytes })
item_by bucket pk sk true false short bytes = None
item_by bucket pk sk false b short bytes = None

-- the item of these words, where they can be those of one
abbrev pub item_in : List ℕ → List ℕ → List ℕ → Option Item
item_in bucket pk sk = item_by bucket pk sk (is_short pk) (are_bytes pk) refl refl

-- the one event that words can be those of: five, six and eight words are those of no line that both kinds of schedules have
abbrev pub candidate : List (List ℕ) → Option ItemEvent
candidate (w ∷ n ∷ bucket ∷ pk ∷ sk ∷ []) = option_map (λ i. Get (number_in n) i) (item_in bucket pk sk)
candidate (w ∷ n ∷ bucket ∷ pk ∷ sk ∷ token ∷ []) = option_map (λ i. Delete (number_in n) i (number_in token)) (item_in bucket pk sk)
candidate (w ∷ n ∷ bucket ∷ pk ∷ sk ∷ size ∷ fill ∷ token ∷ []) =
    option_map (λ i. Put (number_in n) i (number_in size) (number_in fill) (number_in token)) (item_in bucket pk sk)
candidate ws = option_map Common (common_candidate ws)

-- the event, where the line spells it
abbrev pub where_spelled : List ℕ → ItemEvent → Option ItemEvent
where_spelled line e = if bytes_eq line (spelling e) && (is_in (range_of e) && is_allowed_kind e) then Some e else None

-- the event where it is the one that the line spells
abbrev pub spelled_by : List ℕ → Option ItemEvent → Option ItemEvent
spelled_by line None = None
spelled_by line (Some e) = where_spelled line e

-- the event that a line spells, where it spells one
unfoldable pub event_of : List ℕ → Option ItemEvent
event_of line = spelled_by line (candidate (words_in line))
