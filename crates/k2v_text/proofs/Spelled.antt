-- The words of a line that spells an event are those of the event.
use Rattle.std.proofs.Common.{◌≡◌, ℕ, false, List, [], ◌∷◌, refl, ap, ◌∙◌, arith, rules}
use Rattle.std.specs.Prelude.{codes, decimal}
use Rattle.std.specs.List.{AllByRecursion}
use Rattle.k2v_model.specs.declared.order.Item.{Item}
use Rattle.text_model.specs.Grammar.{IsIn, spelling as common_spelling}
use Rattle.text_model.specs.Words.{is_space, words_in}
use Rattle.text_model.proofs.Spelled.{NoSpaces, split_join, bucket_no_space, key_no_space, name_no_space, number_no_space, words_spelled as common_spelled}
use Rattle.k2v_text.specs.declared.event.ItemEvent.{ItemEvent}
use Rattle.k2v_text.specs.declared.event.ItemEvent.TheVariants.{Common, Put, Delete, Get}
use Rattle.k2v_text.specs.Grammar.{item_words, words_of, spelling, item_range, range_of, Spells}

-- a name, a node and an item before other words
item_before : (name : List ℕ) → AllByRecursion (λ b. is_space b ≡ false) name → (n : ℕ) (i : Item) (ws : List (List ℕ)) → IsIn (item_range n i) → NoSpaces ws → NoSpaces (name ∷ decimal n ∷ item_words i ws)
item_before name s n i ws h rest =
    (name_no_space name s, (number_no_space n (omega arith), (bucket_no_space i.bucket h.1.0, (key_no_space i.pk h.1.1.0, (key_no_space i.sk h.1.1.1, rest)))))

words_of_spelling : (e : ItemEvent) → IsIn (range_of e) → words_in (spelling e) ≡ words_of e
words_of_spelling (Common e) h = (common_spelled (common_spelling e) e (record { spelled = refl; allowed = h })).spelled
words_of_spelling (Put n i size fill token) h =
    split_join _ _
    (item_before (codes "kput") (search rules) n i (decimal size ∷ decimal fill ∷ decimal token ∷ []) h.0 (
      number_no_space size (omega arith),
      (number_no_space fill (omega arith), (number_no_space token (omega arith), tt)),
    ))
words_of_spelling (Delete n i token) h = split_join _ _ (item_before (codes "kdel") (search rules) n i (decimal token ∷ []) h.0 (number_no_space token (omega arith), tt))
words_of_spelling (Get n i) h = split_join _ _ (item_before (codes "kget") (search rules) n i [] h tt)

-- the words of a line that spells an event
pub words_spelled : (line : List ℕ) (e : ItemEvent) → Spells line e → words_in line ≡ words_of e
words_spelled line e h = ap words_in h.spelled ∙ words_of_spelling e h.allowed
