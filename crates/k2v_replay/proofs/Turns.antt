-- The turns of a replay one by one.
use Rattle.std.proofs.Common.{◌≡◌, List, [], ◌∷◌, ◌++◌, refl, sym, ap, ◌∙◌, append_assoc, append-nil}
use Rattle.std.specs.List.{AllByRecursion}
use Rattle.k2v_model.specs.Run.{State, start}
use Rattle.k2v_text.specs.Events.{Turn, outcome_of, after, run}
use Rattle.k2v_text.specs.Transcript.{event_text, turns_text}
use Rattle.k2v_text.specs.Played.{events_of, IsLawful, AreLawful, GoesOn, steps_of, AllGoOn, ArePlayed}
use Rattle.k2v_replay.specs.Replay.{front}

pub run_push : (s : State) (ts : List Turn) (t : Turn) → run s (ts ++ t ∷ []) ≡ after (run s ts) t
run_push s [] t = refl
run_push s (x ∷ xs) t = run_push (after s x) xs t

text_push : (s : State) (ts : List Turn) (t : Turn) → turns_text s (ts ++ t ∷ []) ≡ turns_text s ts ++ event_text t.numbered (outcome_of (run s ts) t)
text_push s [] t = append-nil (event_text t.numbered (outcome_of s t))
text_push s (x ∷ xs) t =
    let here = event_text x.numbered (outcome_of s x) in
    ap (λ w. here ++ w) (text_push (after s x) xs t) ∙ sym (append_assoc here (turns_text (after s x) xs) (event_text t.numbered (outcome_of (run (after s x) xs) t)))

pub front_push : (ts : List Turn) (t : Turn) → front (ts ++ t ∷ []) ≡ front ts ++ event_text t.numbered (outcome_of (run start ts) t)
front_push ts t = text_push start ts t

pub events_push : (ts : List Turn) (t : Turn) → events_of (ts ++ t ∷ []) ≡ events_of ts ++ t.numbered ∷ []
events_push [] t = refl
events_push (x ∷ xs) t = ap (λ es. x.numbered ∷ es) (events_push xs t)

lawful_push : (s : State) (ts : List Turn) (t : Turn) → AreLawful s ts → IsLawful (run s ts) t → AreLawful s (ts ++ t ∷ [])
lawful_push s [] t h k = (k, tt)
lawful_push s (x ∷ xs) t h k = (h.0, lawful_push (after s x) xs t h.1 k)

go_on_push : (s : State) (ts : List Turn) (t : Turn) → AllGoOn s ts → AllByRecursion GoesOn (steps_of (run s ts) t.numbered.event t.choice) → AllGoOn s (ts ++ t ∷ [])
go_on_push s [] t h k = (k, tt)
go_on_push s (x ∷ xs) t h k = (h.0, go_on_push (after s x) xs t h.1 k)

pub played_none : ArePlayed []
played_none = record { lawful = tt; go_on = tt }

pub played_push : (ts : List Turn) (t : Turn) → ArePlayed ts → IsLawful (run start ts) t → AllByRecursion GoesOn (steps_of (run start ts) t.numbered.event t.choice) → ArePlayed (ts ++ t ∷ [])
played_push ts t h lawful go_on = record { lawful = lawful_push start ts t h.lawful lawful; go_on = go_on_push start ts t h.go_on go_on }
