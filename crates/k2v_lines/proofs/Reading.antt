-- What the loop over the lines keeps.
use Rattle.std.proofs.Common.{◌≡◌, ℕ, zero, suc, ◌+◌, ◌-◌, ◌<◌, ◌≤◌, inl, inr, true, false, ◌==◌, List, [], ◌∷◌, ◌++◌, length, length-append, refl, sym, ap, ◌∙◌, subst, arith, add-one}
use Rattle.std.proofs.lemmas.Bool.Decides.{nat_tests}
use Rattle.k2v_text.specs.declared.event.ItemEvent.{ItemEvent}
use Rattle.k2v_text.specs.declared.event.NumberedItemEvent.{NumberedItemEvent}
use Rattle.text_model.specs.Grammar.{is_blank, lines_of}
use Rattle.text_model.specs.Reading.{events_limit}
use Rattle.k2v_text.specs.Grammar.{Spells}
use Rattle.k2v_text.specs.Schedule.{Reading as Read, bad_line, too_many, event_before, event_among, line_before, reading_from, reading, IsSchedule, IsFirstBadLine, HasTooManyEvents}
use Rattle.k2v_text.proofs.Decided.{spelled_is_read, none_is_read}
use Rattle.k2v_text.proofs.Schedules.{events_before, before_push, before_none, before_bad, before_many}
use Rattle.k2v_lines.specs.Schedule.{AddsEvent, IsBad, IsOver}

-- events were read from the first lines of the input, `number` of them, and the rest is to be read, with room for so many more
pub record Reading (input rest : List ℕ) (number : ℕ) (events : List NumberedItemEvent) : Type 0 where
  pub few : length events ≤ events_limit
  pub read : reading input ≡ events_before events (reading_from (suc number) (events_limit - length events) (lines_of rest))
  pub counted : number + length rest ≤ length input

module _ (n room : ℕ) (line : List ℕ) (lines : List (List ℕ)) where
  from_blank : is_blank line ≡ true → reading_from n room (line ∷ lines) ≡ reading_from (suc n) room lines
  from_blank blank = rw blank refl

  from_spelled : (e : ItemEvent) → is_blank line ≡ false → Spells line e → reading_from n room (line ∷ lines) ≡ event_among room (record { line = n; event = e }) (reading_from (suc n) (room - 1) lines)
  from_spelled e not_blank spells = rw not_blank (ap (λ o. line_before n room o (reading_from (suc n) (room - 1) lines)) (spelled_is_read line e spells))

  from_bad : IsBad line → reading_from n room (line ∷ lines) ≡ bad_line n
  from_bad bad = rw bad.not_blank (ap (λ o. line_before n room o (reading_from (suc n) (room - 1) lines)) (none_is_read line bad.no_event))

-- with room for one more it is an event, and without room too many
among_some : (room : ℕ) (e : NumberedItemEvent) (rest : Read) → 0 < room → event_among room e rest ≡ event_before e rest
among_some zero e rest h = absurd (omega arith)
among_some (suc room) e rest h = refl

among_none : (room : ℕ) (e : NumberedItemEvent) (rest : Read) → room ≡ 0 → event_among room e rest ≡ too_many
among_none zero e rest h = refl
among_none (suc room) e rest h = cc

module _ (input rest line after : List ℕ) (number : ℕ) (old : List NumberedItemEvent) (h : Reading input rest number old) (cut : lines_of rest ≡ line ∷ lines_of after) where
  left : ℕ
  left = events_limit - length old

  read_so : reading input ≡ events_before old (reading_from (suc number) left (line ∷ lines_of after))
  unfolding left
  read_so = h.read ∙ ap (λ ls. events_before old (reading_from (suc number) (events_limit - length old) ls)) cut

  read_blank : is_blank line ≡ true → reading input ≡ events_before old (reading_from (suc (suc number)) left (lines_of after))
  read_blank blank = read_so ∙ ap (events_before old) (from_blank (suc number) left line (lines_of after) blank)

  read_spelled : (e : ItemEvent) → is_blank line ≡ false → Spells line e → reading input ≡ events_before old (event_among left (record { line = suc number; event = e }) (reading_from (suc (suc number)) (left - 1) (lines_of after)))
  read_spelled e not_blank spells = read_so ∙ ap (events_before old) (from_spelled (suc number) left line (lines_of after) e not_blank spells)

  read_event : (e : ItemEvent) → length old < events_limit → is_blank line ≡ false → Spells line e →
      reading input ≡ events_before (old ++ record { line = suc number; event = e } ∷ []) (reading_from (suc (suc number)) (left - 1) (lines_of after))
  unfolding left
  read_event e some not_blank spells =
      read_spelled e not_blank spells
      ∙ ap (events_before old) (among_some (events_limit - length old) (record { line = suc number; event = e }) (reading_from (suc (suc number)) (events_limit - length old - 1) (lines_of after)) (omega arith))
      ∙ sym (before_push old (record { line = suc number; event = e }) (reading_from (suc (suc number)) (events_limit - length old - 1) (lines_of after)))

  bad_here : IsBad line → IsFirstBadLine input (suc number)
  bad_here bad = read_so ∙ ap (events_before old) (from_bad (suc number) left line (lines_of after) bad) ∙ before_bad old (suc number)

  pub bad_at : (n : ℕ) → (n ≡ number + 1) × IsBad line → IsFirstBadLine input n
  bad_at n b = rw (b.0, add-one) (bad_here b.1)

  over_here : (e : ItemEvent) → events_limit ≤ length old → is_blank line ≡ false → Spells line e → HasTooManyEvents input
  unfolding left
  over_here e all not_blank spells =
      read_spelled e not_blank spells
      ∙ ap (events_before old) (among_none (events_limit - length old) (record { line = suc number; event = e }) (reading_from (suc (suc number)) (events_limit - length old - 1) (lines_of after)) (omega arith))
      ∙ before_many old

  pub over_at : IsOver line old → HasTooManyEvents input
  over_at o = over_here o.event o.full o.not_blank o.spells

  more_from : (new : List NumberedItemEvent) → length after < length rest → AddsEvent (suc number) line old new → Reading input after (suc number) new
  unfolding left
  more_from new shorter adds =
      elim adds [
        | inl x ↦
            let P : List NumberedItemEvent → Type 0 = Reading input after (suc number) in
            subst P (sym x.1) (record { few = h.few; read = read_blank x.0; counted = omega (arith, h.counted) })
        | inr x ↦
            let P : List NumberedItemEvent → Type 0 = Reading input after (suc number) in
            let e : NumberedItemEvent = record { line = suc number; event = x.0 } in
            let long : length (old ++ e ∷ []) ≡ length old + 1 = length-append old (e ∷ []) in
            let less : events_limit - length old - 1 ≡ events_limit - length (old ++ e ∷ []) = omega (arith, long) in
            subst P (sym x.4) (record {
              few = omega (arith, long, x.3);
              read = read_event x.0 x.3 x.1 x.2 ∙ ap (λ (room : ℕ). events_before (old ++ e ∷ []) (reading_from (suc (suc number)) room (lines_of after))) less;
              counted = omega (arith, h.counted);
            })
      ]

  pub reading_more : (new : List NumberedItemEvent) → length after < length rest → AddsEvent (number + 1) line old new → Reading input after (number + 1) new
  reading_more new shorter adds = rw add-one (more_from new shorter (rw add-one at adds))

pub reading_all : (input rest : List ℕ) (number : ℕ) (events : List NumberedItemEvent) → Reading input rest number events → length rest ≡ 0 → IsSchedule input events
reading_all input [] number events h e = h.read ∙ before_none events
reading_all input (b ∷ bs) number events h e = absurd (omega arith)

pub empty_is : (xs : List ℕ) → true ≡ (length xs == 0) → length xs ≡ 0
empty_is xs e = grind (arith, nat_tests)
