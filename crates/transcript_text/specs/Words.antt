-- The words of a line of a transcript, and of its parts.
use Rattle.std.specs.Prelude.{◌≡◌, ℕ, Bool, IsTrue, List, [], ◌∷◌, ◌++◌, codes, decimal, length, map}
use Rattle.std.specs.List.{list_all}
use Rattle.hex.specs.Hex.{encode_lower, IsBytes}
use Rattle.layout_roles.specs.Names.{is_zone_name}
use Rattle.cluster_machine.specs.declared.line.DoneWord.{DoneWord}
use Rattle.cluster_machine.specs.declared.line.EndWord.{EndWord}
use Rattle.cluster_machine.specs.declared.line.SentKind.{SentKind}
use Rattle.cluster_machine.specs.declared.step.Refusal.{Refusal}
use Rattle.cluster_machine.specs.declared.step.Words.{Words}
use Rattle.text_model.specs.Grammar.{is_key}
use Rattle.text_model.specs.Transcript.{kind_text, done_text, end_word}
use Rattle.audit_model.specs.declared.said.Answered.{Answered}
use Rattle.audit_model.specs.declared.said.Told.{Told}
use Rattle.audit_model.specs.declared.said.Said.{Said}
use Rattle.audit_model.specs.Lines.{refusal_words, answer_words, told_words, version_word, answered_words, word_where, zone_word, words_of, IsNumber, AreNumbers, AreBelow, refusal_numbers, answer_numbers, told_numbers, answered_numbers, IsAnswerOf, is_letter, IsInRange}
use Rattle.transcript_text.specs.declared.line_kind.Kind.{Kind}
use Rattle.transcript_text.specs.declared.line_kind.Kind.TheVariants as kind

-- the first word of a line that isn't an event's
abbrev pub first_text : Kind → List ℕ
first_text kind.Size = codes "size"
first_text kind.Redundancy = codes "redundancy"
first_text kind.Sets = codes "p"
first_text kind.Cut = codes "cut"
first_text kind.Side = codes "c"
first_text kind.Nodes = codes "cn"
first_text kind.Got = codes "got"
first_text kind.Sent = codes "sent"
first_text kind.Synced = codes "synced"
first_text kind.Dropped = codes "dropped"
first_text kind.Done = codes "done"
first_text kind.Key = codes "key"
first_text kind.Ended = codes "ended"
first_text kind.Node = codes "node"
first_text kind.Fresh = codes "fresh"
first_text kind.End = codes "end"

-- these words are those of a line that says this, in their ranges
pub record IsSpelledBy (words : List (List ℕ)) (said : Said) : Type 0 where
  pub spelled : words ≡ words_of said
  pub in_range : IsInRange said

-- one number
abbrev pub IsAlone : List (List ℕ) → ℕ → Type 0
IsAlone words n = (words ≡ decimal n ∷ []) × IsNumber n

-- two numbers
abbrev pub IsPair : List (List ℕ) → ℕ × ℕ → Type 0
IsPair words n = (words ≡ decimal n.0 ∷ decimal n.1 ∷ []) × IsNumber n.0 × IsNumber n.1

-- three numbers
abbrev pub IsTriple : List (List ℕ) → ℕ × ℕ × ℕ → Type 0
IsTriple words n = (words ≡ decimal n.0 ∷ decimal n.1 ∷ decimal n.2 ∷ []) × IsNumber n.0 × IsNumber n.1 × IsNumber n.2

-- a version, by timestamp and identifier
abbrev pub IsVersion : List ℕ → ℕ × ℕ → Type 0
IsVersion word v = (word ≡ version_word v) × IsNumber v.0 × IsNumber v.1

-- so many bytes in lower-case hexadecimal
abbrev pub IsDigest : ℕ → List ℕ → List ℕ → Type 0
IsDigest n word bytes = (word ≡ encode_lower bytes) × (length bytes ≡ n) × IsBytes bytes

-- what an accepted event answers
abbrev pub IsAnswer : List (List ℕ) → Words → Type 0
IsAnswer words answer = (words ≡ answer_words answer) × AreBelow (answer_numbers answer)

-- why an event was refused
abbrev pub IsRefusal : List (List ℕ) → Refusal ℕ → Type 0
IsRefusal words reason = (words ≡ refusal_words reason) × AreBelow (refusal_numbers reason)

-- what an event answered
abbrev pub IsTold : List (List ℕ) → Told → Type 0
IsTold words told = (words ≡ told_words told) × AreBelow (told_numbers told)

-- an event's line, its name and what it answered
abbrev pub IsEvent : List (List ℕ) → ℕ × List ℕ × Told → Type 0
IsEvent words e = (words ≡ decimal e.0 ∷ e.1 ∷ told_words e.2) × IsNumber e.0 × IsTrue (list_all is_letter e.1) × AreBelow (told_numbers e.2)

-- with what a request of this kind finished
abbrev pub IsAnswered : DoneWord → List (List ℕ) → Answered → Type 0
IsAnswered word words answer = (words ≡ answered_words answer) × AreNumbers (answered_numbers answer) × IsAnswerOf word answer

-- a zone on a cut's side
abbrev pub IsZone : List ℕ → List ℕ → Type 0
IsZone word name = (word ≡ zone_word name) × IsTrue (is_zone_name name)

-- zones on a cut's side, one by one
abbrev pub AreZones : List (List ℕ) → List (List ℕ) → Type 0
AreZones words names = (words ≡ map zone_word names) × IsTrue (list_all is_zone_name names)

-- nodes on a cut's side
abbrev pub AreNodes : List (List ℕ) → List ℕ → Type 0
AreNodes words nodes = (words ≡ map decimal nodes) × AreNumbers nodes

-- ---- the words of each kind of line, behind its first one

-- the set of partitions from the first to the last
abbrev pub IsSets : List (List ℕ) → ℕ × ℕ × (ℕ × ℕ × ℕ) → Type 0
IsSets words n =
    (words ≡ decimal n.0 ∷ decimal n.1 ∷ decimal n.2.0 ∷ decimal n.2.1 ∷ decimal n.2.2 ∷ []) × AreNumbers (n.0 ∷ n.1 ∷ n.2.0 ∷ n.2.1 ∷ n.2.2 ∷ [])

-- the vertices of partitions from the first to the last that are on the side
abbrev pub IsSide : List (List ℕ) → ℕ × ℕ × Bool × Bool × List (List ℕ) → Type 0
IsSide words s =
    (words ≡ decimal s.0 ∷ decimal s.1 ∷ word_where s.2 (codes "up") ++ word_where s.3 (codes "down") ++ map zone_word s.4) × AreNumbers (s.0 ∷ s.1 ∷ []) × IsTrue (list_all is_zone_name s.4)

-- a message's number, kind, sender and receiver
abbrev pub IsSent : List (List ℕ) → ℕ × SentKind × ℕ × ℕ → Type 0
IsSent words m = (words ≡ decimal m.0 ∷ kind_text m.1 ∷ decimal m.2 ∷ decimal m.3 ∷ []) × AreNumbers (m.0 ∷ m.2 ∷ m.3 ∷ [])

-- a node that dropped a row, and the version of its delete marker
abbrev pub IsDropped : List (List ℕ) → ℕ × (ℕ × ℕ) → Type 0
IsDropped words d = (words ≡ decimal d.0 ∷ version_word d.1 ∷ []) × AreNumbers (d.0 ∷ d.1.0 ∷ d.1.1 ∷ [])

-- a request that finished, its kind and its answer
abbrev pub IsDone : List (List ℕ) → ℕ × DoneWord × Answered → Type 0
IsDone words d = (words ≡ decimal d.0 ∷ done_text d.1 ∷ answered_words d.2) × IsNumber d.0 × AreNumbers (answered_numbers d.2) × IsAnswerOf d.1 d.2

-- a list that finished, and how many keys it has
abbrev pub IsListed : List (List ℕ) → ℕ × ℕ → Type 0
IsListed words n = (words ≡ decimal n.0 ∷ codes "list" ∷ decimal n.1 ∷ []) × IsNumber n.0 × IsNumber n.1

-- a key of a list, its version and its size
abbrev pub IsKey : List (List ℕ) → List ℕ × (ℕ × ℕ) × ℕ → Type 0
IsKey words k = (words ≡ k.0 ∷ version_word k.1 ∷ decimal k.2 ∷ []) × AreNumbers (k.1.0 ∷ k.1.1 ∷ k.2 ∷ []) × IsTrue (is_key k.0)

-- a request, and why it ended
abbrev pub IsEnded : List (List ℕ) → ℕ × EndWord → Type 0
IsEnded words e = (words ≡ decimal e.0 ∷ end_word e.1 ∷ []) × IsNumber e.0

-- a node, its counts of rows and of blocks, and the hash over the roots of its tables
abbrev pub IsNode : List (List ℕ) → ℕ × ℕ × ℕ × List ℕ → Type 0
IsNode words n =
    (words ≡ decimal n.0 ∷ codes "rows" ∷ decimal n.1 ∷ codes "blocks" ∷ decimal n.2 ∷ codes "top" ∷ encode_lower n.3 ∷ []) × AreNumbers (n.0 ∷ n.1 ∷ n.2 ∷ []) × (length n.3 ≡ 32) × IsBytes n.3
