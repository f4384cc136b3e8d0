-- What is written of a replay: the text of its events, or a summary, with a check of its history or without one.
use Rattle.std.specs.Prelude.{◌≡◌, ℕ, ◌-◌, ◌^◌, min, Bool, true, false, List, [], ◌∷◌, ◌++◌, length, codes, count_by}
use Rattle.history_model.specs.declared.record.Record.{Record}
use Rattle.history_model.specs.declared.record.Record.TheVariants.{Finished, Ended}
use Rattle.history_model.specs.Fresh.{Fresh}
use Rattle.history_model.specs.Pairs.{pair_count}
use Rattle.layout_roles.specs.Text.{word, number}
use Rattle.store_model.specs.Run.{State, start}
use Rattle.store_model.specs.Events.{Turn, run}
use Rattle.text_model.specs.Transcript.{turns_text, nodes_text, end_line}
use Rattle.replay_run.specs.declared.account.Account.{Account}
use Rattle.replay_run.specs.declared.account.Account.TheVariants.{Transcript, Checked, Summary}

-- what is written of one event, of what it tells
abbrev pub shown : Account → List ℕ → List ℕ
shown Transcript text = text
shown Checked text = text
shown (Summary count seed) text = []

-- what is written of turns, one by one
abbrev pub front : Account → List Turn → List ℕ
front Transcript turns = turns_text start turns
front Checked turns = turns_text start turns
front (Summary count seed) turns = []

-- a line of a check: its word, and how many pairs of a finished read and a write acknowledged before it began there are, 2^64 - 1 where there are more
abbrev pub check_line : List ℕ → List Record → List ℕ
check_line name history = name ++ number (min (pair_count history) (2 ^ 64 - 1)) ++ 10 ∷ []

-- all finished reads are fresh
abbrev pub fresh_line : List Record → List ℕ
fresh_line history = check_line (codes "fresh") history

-- some finished read isn't
abbrev pub stale_line : List Record → List ℕ
stale_line history = check_line (codes "stale") history

-- the line of a check of a history: whether all finished reads are fresh, told from the records alone
pub data IsCheck (history : List Record) (line : List ℕ) : Type 0 where
  fresh : Fresh history → line ≡ fresh_line history → IsCheck history line
  stale : (Fresh history → ⊥) → line ≡ stale_line history → IsCheck history line

-- the line of a check where one is asked for, and nothing where none is
abbrev pub IsLine : Account → List Record → List ℕ → Type 0
IsLine Transcript history line = line ≡ []
IsLine Checked history line = IsCheck history line
IsLine (Summary count seed) history line = IsCheck history line

-- the record says that a request finished with an answer
abbrev pub is_finish : Record → Bool
is_finish (Finished request answer) = true
is_finish _ = false

-- the record says that a request ended without an answer
abbrev pub is_end : Record → Bool
is_end (Ended request cause) = true
is_end _ = false

-- the first lines of a summary: the workload, how many of its requests finished, ended without an answer and did neither, and how many layout versions were applied
abbrev pub summary_of : ℕ → ℕ → ℕ → ℕ → ℕ → ℕ → List ℕ
summary_of count seed finished ended left versions =
    codes "workload" ++ number count ++ number seed ++ 10 ∷ [] ++ codes "finished" ++ number finished ++ word (codes "ended") ++ number ended ++ word (codes "open") ++ number left ++ 10 ∷ []
    ++ codes "versions" ++ number versions ++ 10 ∷ []

-- the same of the state after all events
abbrev pub summary_lines : ℕ → ℕ → State → List ℕ
summary_lines count seed s =
    let finished = count_by is_finish s.history in
    let ended = count_by is_end s.history in
    summary_of count seed finished ended (length s.world.requests - finished - ended) s.world.applied

-- what is written first of the state after all events
abbrev pub opening : Account → State → List ℕ
opening Transcript s = []
opening Checked s = []
opening (Summary count seed) s = summary_lines count seed s

-- the lines of the nodes, a line of a check or nothing, and the last line, after so many events
abbrev pub closing : ℕ → State → List ℕ → List ℕ
closing events s line = nodes_text s.world ++ (line ++ end_line events (length s.world.requests) (length s.world.messages))

-- what is written after so many events that led to this state
pub record IsTail (account : Account) (events : ℕ) (s : State) (text : List ℕ) : Type 0 where
  pub line : List ℕ
  pub is_line : IsLine account s.history line
  pub text_is : text ≡ opening account s ++ closing events s line

-- all that is written of turns
pub record IsText (account : Account) (turns : List Turn) (text : List ℕ) : Type 0 where
  pub tail : List ℕ
  pub ends : IsTail account (length turns) (run start turns) tail
  pub text_is : text ≡ front account turns ++ tail
