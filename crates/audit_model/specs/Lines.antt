-- The words of each line of a transcript, and which line says what.
use Rattle.std.specs.Prelude.{◌≡◌, ◌<◌, ◌≤◌, ◌^◌, ℕ, Bool, true, false, IsTrue, ⊤, length, Option, Some, None, map, List, [], ◌∷◌, ◌++◌, codes, decimal}
use Rattle.std.specs.List.{AllByRecursion, list_all, join_with_byte}
use Rattle.hex.specs.Hex.{encode_lower, IsBytes}
use Rattle.layout_roles.specs.Names.{is_between, is_zone_name}
use Rattle.cluster_machine.specs.declared.line.DoneWord.{DoneWord}
use Rattle.cluster_machine.specs.declared.line.DoneWord.TheVariants as done
use Rattle.cluster_machine.specs.declared.step.Refusal.{Refusal}
use Rattle.cluster_machine.specs.declared.step.Refusal.TheVariants.{VersionTaken, VersionLimit, NotMember, NoSuchBucket, NoSuchMessage, Lost, NoSuchRequest, AlreadyEnded, TooFewNodes, TooFewZones, NoAssignment}
use Rattle.cluster_machine.specs.declared.step.Words.{Words}
use Rattle.cluster_machine.specs.declared.step.Words.TheVariants.{Empty, One, Idle, Two}
use Rattle.text_model.specs.Grammar.{is_key}
use Rattle.text_model.specs.Transcript.{kind_text, done_text, end_word}
use Rattle.audit_model.specs.declared.said.Told.{Told}
use Rattle.audit_model.specs.declared.said.Told.TheVariants.{Accepted, Refused}
use Rattle.audit_model.specs.declared.said.Answered.{Answered}
use Rattle.audit_model.specs.declared.said.Answered.TheVariants as answered
use Rattle.audit_model.specs.declared.said.Said.{Said}
use Rattle.audit_model.specs.declared.said.Said.TheVariants.{Event, Size, Redundancy, Sets, Cut, Side, Nodes, Got, Sent, Synced, Dropped, Done, Listed, Key, Ended, Node, Fresh, End}

-- ---- words

-- the name of a refusal, and its numbers
abbrev pub refusal_words : Refusal ℕ → List (List ℕ)
refusal_words (VersionTaken v) = codes "VersionTaken" ∷ decimal v ∷ []
refusal_words VersionLimit = codes "VersionLimit" ∷ []
refusal_words NotMember = codes "NotMember" ∷ []
refusal_words NoSuchBucket = codes "NoSuchBucket" ∷ []
refusal_words NoSuchMessage = codes "NoSuchMessage" ∷ []
refusal_words Lost = codes "Lost" ∷ []
refusal_words NoSuchRequest = codes "NoSuchRequest" ∷ []
refusal_words AlreadyEnded = codes "AlreadyEnded" ∷ []
refusal_words (TooFewNodes nodes) = codes "TooFewNodes" ∷ decimal nodes ∷ []
refusal_words (TooFewZones zones r) = codes "TooFewZones" ∷ decimal zones ∷ decimal r ∷ []
refusal_words (NoAssignment weight) = codes "NoAssignment" ∷ decimal weight ∷ []

-- the words that an event answers with
abbrev pub answer_words : Words → List (List ℕ)
answer_words Empty = []
answer_words (One n) = decimal n ∷ []
answer_words (Idle read least) = codes "idle" ∷ decimal read ∷ decimal least ∷ []
answer_words (Two a b) = decimal a ∷ decimal b ∷ []

-- accepted or refused, and with what
abbrev pub told_words : Told → List (List ℕ)
told_words (Accepted words) = codes "ok" ∷ answer_words words
told_words (Refused reason) = codes "refused" ∷ refusal_words reason

-- TS/ID
abbrev pub version_word : ℕ × ℕ → List ℕ
version_word v = decimal v.0 ++ 47 ∷ decimal v.1

-- a word, where there is one
abbrev pub word_if : {A : Type 0} → (A → List ℕ) → Option A → List (List ℕ)
word_if word None = []
word_if word (Some a) = word a ∷ []

-- a version with what else is told of it, or none
abbrev pub answered_words : Answered → List (List ℕ)
answered_words (answered.Version version size md5) = version_word version ∷ word_if decimal size ++ word_if encode_lower md5
answered_words answered.None = codes "none" ∷ []

-- the word, where it holds
abbrev pub word_where : Bool → List ℕ → List (List ℕ)
word_where true word = word ∷ []
word_where false word = []

-- a zone on the cut's side
abbrev pub zone_word : List ℕ → List ℕ
zone_word name = codes "z:" ++ name

-- the words of a line
abbrev pub words_of : Said → List (List ℕ)
words_of (Event line name told) = decimal line ∷ name ∷ told_words told
words_of (Size size) = codes "size" ∷ decimal size ∷ []
words_of (Redundancy r) = codes "redundancy" ∷ decimal r ∷ []
words_of (Sets first last set) = codes "p" ∷ decimal first ∷ decimal last ∷ decimal set.0 ∷ decimal set.1 ∷ decimal set.2 ∷ []
words_of (Cut size weight) = codes "cut" ∷ decimal size ∷ decimal weight ∷ []
words_of (Side first last up down zones) = codes "c" ∷ decimal first ∷ decimal last ∷ word_where up (codes "up") ++ word_where down (codes "down") ++ map zone_word zones
words_of (Nodes nodes) = codes "cn" ∷ map decimal nodes
words_of (Got m) = codes "got" ∷ decimal m ∷ []
words_of (Sent m kind from to) = codes "sent" ∷ decimal m ∷ kind_text kind ∷ decimal from ∷ decimal to ∷ []
words_of (Synced n v) = codes "synced" ∷ decimal n ∷ decimal v ∷ []
words_of (Dropped n version) = codes "dropped" ∷ decimal n ∷ version_word version ∷ []
words_of (Done q word answer) = codes "done" ∷ decimal q ∷ done_text word ∷ answered_words answer
words_of (Listed q count) = codes "done" ∷ decimal q ∷ codes "list" ∷ decimal count ∷ []
words_of (Key key version size) = codes "key" ∷ key ∷ version_word version ∷ decimal size ∷ []
words_of (Ended q word) = codes "ended" ∷ decimal q ∷ end_word word ∷ []
words_of (Node n rows blocks top) = codes "node" ∷ decimal n ∷ codes "rows" ∷ decimal rows ∷ codes "blocks" ∷ decimal blocks ∷ codes "top" ∷ encode_lower top ∷ []
words_of (Fresh pairs) = codes "fresh" ∷ decimal pairs ∷ []
words_of (End events requests messages) = codes "end" ∷ decimal events ∷ decimal requests ∷ decimal messages ∷ []

-- ---- what they may be

-- a number below 2^64
abbrev pub IsNumber : ℕ → Type 0
IsNumber n = n < 2 ^ 64

-- each of them is
abbrev pub AreNumbers : List ℕ → Type 0
AreNumbers ns = AllByRecursion IsNumber ns

-- each number is below the one beside it
abbrev pub AreBelow : List (ℕ × ℕ) → Type 0
AreBelow ns = AllByRecursion (λ n. n.0 < n.1) ns

-- the numbers of a refusal, and what they are below: layout versions have 32 bits, counts of nodes and of zones eight
abbrev pub refusal_numbers : Refusal ℕ → List (ℕ × ℕ)
refusal_numbers (VersionTaken v) = (v, 2 ^ 32) ∷ []
refusal_numbers (TooFewNodes nodes) = (nodes, 2 ^ 8) ∷ []
refusal_numbers (TooFewZones zones r) = (zones, 2 ^ 8) ∷ (r, 2 ^ 8) ∷ []
refusal_numbers (NoAssignment weight) = (weight, 2 ^ 64) ∷ []
refusal_numbers _ = []

-- the numbers of an answer; that a sync is idle is told by two layout versions
abbrev pub answer_numbers : Words → List (ℕ × ℕ)
answer_numbers Empty = []
answer_numbers (One n) = (n, 2 ^ 64) ∷ []
answer_numbers (Idle read least) = (read, 2 ^ 32) ∷ (least, 2 ^ 32) ∷ []
answer_numbers (Two a b) = (a, 2 ^ 64) ∷ (b, 2 ^ 64) ∷ []

-- the numbers of what an event answered
abbrev pub told_numbers : Told → List (ℕ × ℕ)
told_numbers (Accepted words) = answer_numbers words
told_numbers (Refused reason) = refusal_numbers reason

-- what a kind of request answers with: a write its version, a get also size and MD5, a head the size; a get, a head or a copy none
abbrev pub IsAnswerOf : DoneWord → Answered → Type 0
IsAnswerOf done.Put (answered.Version version None None) = ⊤
IsAnswerOf done.Delete (answered.Version version None None) = ⊤
IsAnswerOf done.Copy (answered.Version version None None) = ⊤
IsAnswerOf done.Get (answered.Version version (Some size) (Some md5)) = IsNumber size × (length md5 ≡ 16) × IsBytes md5
IsAnswerOf done.Head (answered.Version version (Some size) None) = IsNumber size
IsAnswerOf done.Copy answered.None = ⊤
IsAnswerOf done.Get answered.None = ⊤
IsAnswerOf done.Head answered.None = ⊤
IsAnswerOf word answer = ⊥

-- the numbers of a version that is answered
abbrev pub answered_numbers : Answered → List ℕ
answered_numbers (answered.Version version size md5) = version.0 ∷ version.1 ∷ []
answered_numbers answered.None = []

-- a to z
abbrev pub is_letter : ℕ → Bool
is_letter b = is_between 97 122 b

-- the words of a line are in their ranges; that an event's name is one of the schedule's, `Heard` looks up
abbrev pub IsInRange : Said → Type 0
IsInRange (Event line name told) = (IsNumber line × AreBelow (told_numbers told)) × IsTrue (list_all is_letter name)
IsInRange (Size size) = IsNumber size
IsInRange (Redundancy r) = (1 ≤ r) × (r ≤ 3)
IsInRange (Sets first last set) = AreNumbers (first ∷ last ∷ set.0 ∷ set.1 ∷ set.2 ∷ [])
IsInRange (Cut size weight) = AreNumbers (size ∷ weight ∷ [])
IsInRange (Side first last up down zones) = AreNumbers (first ∷ last ∷ []) × IsTrue (list_all is_zone_name zones)
IsInRange (Nodes nodes) = AreNumbers nodes
IsInRange (Got m) = IsNumber m
IsInRange (Sent m kind from to) = AreNumbers (m ∷ from ∷ to ∷ [])
IsInRange (Synced n v) = AreNumbers (n ∷ v ∷ [])
IsInRange (Dropped n version) = AreNumbers (n ∷ version.0 ∷ version.1 ∷ [])
IsInRange (Done q word answer) = AreNumbers (q ∷ answered_numbers answer) × IsAnswerOf word answer
IsInRange (Listed q count) = AreNumbers (q ∷ count ∷ [])
IsInRange (Key key version size) = AreNumbers (version.0 ∷ version.1 ∷ size ∷ []) × IsTrue (is_key key)
IsInRange (Ended q word) = IsNumber q
IsInRange (Node n rows blocks top) = AreNumbers (n ∷ rows ∷ blocks ∷ []) × (length top ≡ 32) × IsBytes top
IsInRange (Fresh pairs) = IsNumber pairs
IsInRange (End events requests messages) = AreNumbers (events ∷ requests ∷ messages ∷ [])

-- a line says this: it is these words, one space apart, in their ranges
pub record Says (line : List ℕ) (said : Said) : Type 0 where
  pub spelled : line ≡ join_with_byte 32 (words_of said)
  pub in_range : IsInRange said
