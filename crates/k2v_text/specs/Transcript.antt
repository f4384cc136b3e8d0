-- The text of what a run over items tells.
use Rattle.std.specs.Prelude.{ℕ, true, false, Bool, Option, Some, None, List, [], ◌∷◌, ◌++◌, length, flat_map, codes, decimal}
use Rattle.std.specs.List.{range_with_len}
use Rattle.hex.specs.Hex.{encode_lower}
use Rattle.layout_roles.specs.Text.{word, number}
use Rattle.cluster_machine.specs.declared.step.Words.{Words}
use Rattle.cluster_machine.specs.Layouts.{layouts}
use Rattle.cluster_machine.specs.World.{node_line}
use Rattle.text_model.specs.Transcript.{line_text as cluster_text, refusal_text as cluster_refusal, version_text, words_text, end_line, shown_text}
use Rattle.k2v_rows.specs.Row.{row_join}
use Rattle.k2v_schema.specs.Schema.{words as row_words}
use Rattle.k2v_model.specs.declared.line.ShownValue.{ShownValue}
use Rattle.k2v_model.specs.declared.line.ItemLine.{ItemLine}
use Rattle.k2v_model.specs.declared.line.ItemLine.TheVariants.{Cluster as OfCluster, WriteDone, ReadDone}
use Rattle.k2v_model.specs.declared.line.ItemRefusal.{ItemRefusal}
use Rattle.k2v_model.specs.declared.line.ItemRefusal.TheVariants.{Cluster, NoSuchToken, Busy}
use Rattle.k2v_model.specs.Run.{World, State, start, Outcome}
use Rattle.k2v_text.specs.declared.event.NumberedItemEvent.{NumberedItemEvent}
use Rattle.k2v_text.specs.Grammar.{name_of}
use Rattle.k2v_text.specs.Events.{Turn, outcome_of, run}

-- the word of a write
abbrev pub write_word : Bool → List ℕ
write_word true = codes "kdel"
write_word false = codes "kput"

-- `value N/T SIZE MD5`
abbrev pub value_line : ShownValue → List ℕ
value_line v = codes "value" ++ word (version_text (Some (v.node, v.time))) ++ number v.size ++ word (encode_lower v.md5) ++ 10 ∷ []

-- what happened, each line with its line feed
abbrev pub line_text : ItemLine → List ℕ
line_text (OfCluster line) = cluster_text line
line_text (WriteDone q is_deletion n) =
    codes "done" ++ number q ++ word (write_word is_deletion) ++ word (version_text (Some (n, q))) ++ 10 ∷ []
line_text (ReadDone q values) =
    codes "done" ++ number q ++ word (codes "kget") ++ number (length values) ++ 10 ∷ [] ++ flat_map value_line values

-- the words of a refusal
abbrev pub refusal_text : ItemRefusal → List ℕ
refusal_text (Cluster r) = cluster_refusal r
refusal_text (NoSuchToken t) = codes "NoSuchToken" ++ number t
refusal_text (Busy q) = codes "Busy" ++ number q

-- what an event answers, after its line and name
abbrev pub answer_text : Option ItemRefusal → Words → List ℕ
answer_text None words = codes "ok" ++ words_text words
answer_text (Some r) words = codes "refused" ++ word (refusal_text r)

-- the line of an event and its answer, and then what happened
abbrev pub told_text : ℕ → List ℕ → Option ItemRefusal → Words → List ItemLine → List ℕ
told_text line name refused words lines = (decimal line ++ word name ++ word (answer_text refused words) ++ 10 ∷ []) ++ flat_map line_text lines

-- the lines of one event, with what came of it
abbrev pub event_text : NumberedItemEvent → Outcome → List ℕ
event_text e o = told_text e.line (name_of e.event) o.refused o.words o.lines

-- the text of turns
abbrev pub turns_text : State → List Turn → List ℕ
turns_text s [] = []
turns_text s (t ∷ ts) = event_text t.numbered (outcome_of s t) ++ turns_text (outcome_of s t).state ts

-- the line of node n of a world
abbrev pub line_at : World → ℕ → List ℕ
line_at w n = shown_text (node_line row_join row_words layouts w n)

-- what is written after so many events that led to this state: the lines of its nodes, and the last line
abbrev pub tail_text : ℕ → State → List ℕ
tail_text events s = flat_map (line_at s.world) (range_with_len 1 16) ++ end_line events (length s.world.requests) (length s.world.messages)

-- the whole transcript of turns
abbrev pub transcript : List Turn → List ℕ
transcript ts = turns_text start ts ++ tail_text (length ts) (run start ts)
