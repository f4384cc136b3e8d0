-- The words of a request for an item.
use Rattle.std.specs.Prelude.{◌≡◌, ℕ, IsTrue, List}
use Rattle.store_model.specs.declared.event.Event.{Event}
use Rattle.text_model.specs.Grammar.{IsIn, bucket, key, both}
use Rattle.k2v_model.specs.declared.order.Item.{Item}
use Rattle.k2v_text.specs.declared.event.ItemEvent.{ItemEvent}
use Rattle.k2v_text.specs.declared.event.ItemEvent.TheVariants.{Common}
use Rattle.k2v_text.specs.Grammar.{words_of, range_of, is_allowed_kind, Spells}

-- three words name an item, in their ranges
pub record IsItem (name pk sk : List ℕ) (i : Item) : Type 0 where
  pub bucket_is : i.bucket ≡ name
  pub pk_is : i.pk ≡ pk
  pub sk_is : i.sk ≡ sk
  pub allowed : IsIn (both (bucket i.bucket) (both (key i.pk) (key i.sk)))

-- these words are those of an event, in their ranges
pub record IsSpelledBy (words : List (List ℕ)) (e : ItemEvent) : Type 0 where
  pub spelled : words ≡ words_of e
  pub allowed : IsIn (range_of e)
  pub kind : IsTrue (is_allowed_kind e)

-- the line spells this event, which schedules of objects have too
pub record IsCommon (line : List ℕ) (e : ItemEvent) : Type 0 where
  pub event : Event
  pub is : e ≡ Common event
  pub spells : Spells line e
