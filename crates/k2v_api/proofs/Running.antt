-- What the loop over the events keeps, and how it ends.
use Rattle.std.proofs.Common.{◌≡◌, ℕ, ◌+◌, ◌<◌, ◌≤◌, ◌⊎◌, Option, List, [], ◌∷◌, ◌++◌, length, take, drop, get_or, refl, sym, ap, ◌∙◌, subst, take-append-drop}
use Rattle.std.proofs.lemmas.List.{take_more, drop_more, take_all, length-map}
use Rattle.crdt_core.specs.declared.memory.Memory.{Memory as Why}
use Rattle.crdt_core.specs.declared.memory.Memory.TheVariants.{Want, Full}
use Rattle.lab_outside.specs.Bytes.{Wrote, WrotePrefix}
use Rattle.lab_outside.proofs.Bytes.{wrote_none, wrote_more, wrote_prefix_after, wrote_prefix_whole}
use Rattle.k2v_text.specs.declared.event.NumberedItemEvent.{NumberedItemEvent}
use Rattle.k2v_text.specs.declared.event.ItemTold.{ItemTold}
use Rattle.k2v_model.specs.Run.{State, start}
use Rattle.k2v_text.specs.Events.{Turn, outcome_of, run}
use Rattle.k2v_text.specs.Grammar.{name_of}
use Rattle.k2v_text.specs.Transcript.{told_text, tail_text, transcript}
use Rattle.k2v_world.specs.declared.world.ItemWorld.{ItemWorld}
use Rattle.k2v_world.specs.Stands.{IsItems, HasItems}
use Rattle.k2v_api.specs.declared.stop.Stop.{Stop}
use Rattle.k2v_api.specs.declared.stop.Stop.TheVariants.{Write, Memory, TooManyEvents, BadLine, Number, Sent}
use Rattle.k2v_text.specs.Played.{events_of, Step, ArePlayed}
use Rattle.k2v_api.specs.Tail.{CannotTell, TellsTail}
use Rattle.k2v_replay.specs.Replay.{front, SendsTooMuch, LacksRoom, AreFirst, StopsAfter, in_step, in_line, sent}
use Rattle.k2v_api.specs.Turning.{turn, Takes, StopsIn, EventStops, TurnsTo, TurnsOne}
use Rattle.k2v_api.specs.Stop.{stop_of_memory, IsWhole, IsPart, of_turns, of_all, Halts}
use Rattle.k2v_api.proofs.Causes.{stop_is}
use Rattle.k2v_replay.proofs.Turns.{run_push, front_push, events_push, played_none, played_push}

-- what the items took is a turn, with what is written of what it told
turns_one : (old new : ItemWorld) (told : ItemTold) (e : NumberedItemEvent) (text : List ℕ) → ((s : State) → IsItems old s → Takes new told s e.event) →
    text ≡ told_text e.line (name_of e.event) told.refused told.words told.lines → TurnsOne old new e text
turns_one old new told e text takes is s stands =
    let d = takes s stands in
    let o = outcome_of s (turn e d.choice) in
    record {
      choice = d.choice;
      lawful = d.lawful;
      stands = d.stands;
      go_on = d.go_on;
      text_is =
          is ∙ ap (λ r. told_text e.line (name_of e.event) r told.words told.lines) d.tells.refused
          ∙ ap (λ w. told_text e.line (name_of e.event) o.refused w told.lines) d.tells.words
          ∙ ap (λ ls. told_text e.line (name_of e.event) o.refused o.words ls) d.tells.lines;
    }

-- the same, where the name is told apart
pub turns_named : (old new : ItemWorld) (told : ItemTold) (e : NumberedItemEvent) (text name : List ℕ) → ((s : State) → IsItems old s → Takes new told s e.event) →
    name ≡ name_of e.event → text ≡ told_text e.line name told.refused told.words told.lines → TurnsOne old new e text
turns_named old new told e text name takes same is = turns_one old new told e text takes (is ∙ ap (λ (n : List ℕ). told_text e.line n told.refused told.words told.lines) same)

-- the first i events were played, with some layouts, and what is written of them was written
pub record Running (items : ItemWorld) (old now : Option (List ℕ)) (events : List NumberedItemEvent) (i : ℕ) : Type 0 where
  pub turns : List Turn
  pub events_are : events_of turns ≡ take i events
  pub played : ArePlayed turns
  pub stands : IsItems items (run start turns)
  pub wrote : Wrote old now (front turns)

none_wrote : (old : Option (List ℕ)) → Wrote old old (front [])
none_wrote old = wrote_none old

pub running_none : (items : ItemWorld) (old : Option (List ℕ)) (events : List NumberedItemEvent) → IsItems items start → Running items old old events 0
running_none items old events d = record { turns = []; events_are = refl; played = played_none; stands = d; wrote = none_wrote old }

pub part_none : (old : Option (List ℕ)) (events : List NumberedItemEvent) → IsPart events old old
part_none old events = of_turns [] (record { played = played_none; later = events; whole = refl }) (wrote_prefix_whole old old (front []) (none_wrote old))

module _ (items : ItemWorld) (old now : Option (List ℕ)) (events : List NumberedItemEvent) (i : ℕ) (r : Running items old now events i) where
  pub running_has : HasItems items
  running_has = (run start r.turns, r.stands)

  are_first : AreFirst events r.turns
  are_first = record { played = r.played; later = drop i events; whole = sym (take-append-drop i events) ∙ ap (λ es. es ++ drop i events) (sym r.events_are) }

  -- what was written when the next event or the end came to nothing
  pub running_part : IsPart events old now
  running_part = of_turns r.turns are_first (wrote_prefix_whole old now (front r.turns) r.wrote)

module _ (items new : ItemWorld) (old mid now : Option (List ℕ)) (events : List NumberedItemEvent) (i : ℕ) (next : NumberedItemEvent) (lt : i < length events) (is : next ≡ get_or events i next) (r : Running items old mid events i) where
  here : take (i + 1) events ≡ take i events ++ next ∷ []
  here = take_more events i next lt ∙ ap (λ (e : NumberedItemEvent). take i events ++ e ∷ []) (sym is)

  module _ (text : List ℕ) (turns : TurnsOne items new next text) where
    to : TurnsTo new (run start r.turns) next text
    to = turns (run start r.turns) r.stands

    more : List Turn
    more = r.turns ++ turn next to.choice ∷ []

    more_are : events_of more ≡ take (i + 1) events
    unfolding more
    more_are = events_push r.turns (turn next to.choice) ∙ ap (λ es. es ++ next ∷ []) r.events_are ∙ sym here

    more_played : ArePlayed more
    unfolding more
    more_played = played_push r.turns (turn next to.choice) r.played to.lawful to.go_on

    more_text : front more ≡ front r.turns ++ text
    unfolding more
    more_text = front_push r.turns (turn next to.choice) ∙ ap (λ t. front r.turns ++ t) (sym to.text_is)

    more_stands : IsItems new (run start more)
    unfolding more
    more_stands = subst (IsItems new) (sym (run_push start r.turns (turn next to.choice))) to.stands

    pub running_more : Wrote mid now text → Running new old now events (i + 1)
    running_more wrote = record {
      turns = more;
      events_are = more_are;
      played = more_played;
      stands = more_stands;
      wrote = subst (Wrote old now) (sym more_text) (wrote_more old mid now (front r.turns) text r.wrote wrote);
    }

    -- a write of the event's text failed
    pub running_cut : WrotePrefix mid now text → IsPart events old now
    running_cut wrote =
        of_turns more (record { played = more_played; later = drop (i + 1) events; whole = sym (take-append-drop (i + 1) events) ∙ ap (λ es. es ++ drop (i + 1) events) (sym more_are) })
        (subst (WrotePrefix old now) (sym more_text) (wrote_prefix_after old mid now (front r.turns) text r.wrote wrote))

  -- the event has a step after which the replay doesn't go on
  stops_after : (IsSo : Step → Type 0) → ((s : State) → IsItems items s → StopsIn IsSo s next.event) → StopsAfter IsSo events r.turns
  stops_after IsSo so =
      let h = so (run start r.turns) r.stands in
      record {
        played = r.played;
        next = turn next h.choice;
        later = drop (i + 1) events;
        whole =
            sym (take-append-drop i events) ∙ ap (λ es. take i events ++ es) (drop_more events i next lt ∙ ap (λ (e : NumberedItemEvent). e ∷ drop (i + 1) events) (sym is))
            ∙ ap (λ es. es ++ next ∷ drop (i + 1) events) (sym r.events_are);
        lawful = h.lawful;
        stops = h.stops;
      }

  -- the event gave up
  pub running_halts : (stop : Stop) → EventStops items next.event stop → Halts events stop old mid
  running_halts Write h = absurd h
  running_halts Memory h = running_part items old mid events i r
  running_halts TooManyEvents h = h
  running_halts (BadLine k) h = h
  running_halts Number h = (running_part items old mid events i r, in_step r.turns (stops_after LacksRoom h))
  running_halts Sent h = record { before = front r.turns; wrote = r.wrote; stated = sent r.turns (stops_after SendsTooMuch h) refl refl }

module _ (items : ItemWorld) (old mid now : Option (List ℕ)) (events : List NumberedItemEvent) (i : ℕ) (r : Running items old mid events i) (le : length events ≤ i) where
  all_are : events_of r.turns ≡ events
  all_are = r.events_are ∙ take_all i events le

  count_turns : length events ≡ length r.turns
  count_turns = ap length (sym all_are) ∙ length-map r.turns (λ (t : Turn). t.numbered)

  -- after the last event a node can't be shown
  unshown_here : CannotTell items → Halts events Number old mid
  unshown_here none = (running_part items old mid events i r, in_line r.turns all_are r.played (none (run start r.turns) r.stands))

  -- what follows the last event came to nothing
  pub all_halts : (why : Why) → (why ≡ Want) ⊎ ((why ≡ Full) × CannotTell items) → Halts events (stop_of_memory why) old mid
  all_halts why causes = stop_is why (λ (stop : Stop). Halts events stop old mid) (CannotTell items) (running_part items old mid events i r) unshown_here causes

  module _ (text : List ℕ) (tells : TellsTail items (length events) text) where
    whole_text : transcript r.turns ≡ front r.turns ++ text
    whole_text = ap (λ t. front r.turns ++ t) (sym (tells (run start r.turns) r.stands ∙ ap (λ n. tail_text n (run start r.turns)) count_turns))

    pub all_whole : Wrote mid now text → IsWhole events old now
    all_whole wrote = record {
      turns = r.turns;
      events_are = all_are;
      played = r.played;
      wrote = subst (Wrote old now) (sym whole_text) (wrote_more old mid now (front r.turns) text r.wrote wrote);
    }

    pub all_cut : WrotePrefix mid now text → IsPart events old now
    all_cut wrote = of_all r.turns all_are r.played (subst (WrotePrefix old now) (sym whole_text) (wrote_prefix_after old mid now (front r.turns) text r.wrote wrote))
