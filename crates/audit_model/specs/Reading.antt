-- What the words of a line say, as a function.
use Rattle.std.specs.Prelude.{◌==◌, ◌&&◌, ◌^◌, nat_lt, nat_eq, length, ℕ, Bool, true, false, if◌then◌else◌, map, drop, Option, Some, None, List, [], ◌∷◌, codes, bytes_eq}
use Rattle.std.specs.List.{slice_split, list_all, join_with_byte}
use Rattle.layout_roles.specs.Names.{is_between, is_zone_name}
use Rattle.row_codec.specs.Reads.{are_bytes}
use Rattle.text_model.specs.Grammar.{is_key}
use Rattle.text_model.specs.Words.{words_in}
use Rattle.audit_model.specs.Lines.{words_of, is_letter, told_numbers, answered_numbers}
use Rattle.std.specs.Prelude.{Result, Ok, Err}
use Rattle.hex.specs.Hex.{decode_of}
use Rattle.hex.specs.declared.error.FromHexError.{FromHexError}
use Rattle.cluster_machine.specs.declared.line.SentKind.{SentKind}
use Rattle.cluster_machine.specs.declared.line.SentKind.TheVariants as kind
use Rattle.cluster_machine.specs.declared.line.DoneWord.{DoneWord}
use Rattle.cluster_machine.specs.declared.line.DoneWord.TheVariants as done
use Rattle.cluster_machine.specs.declared.line.EndWord.{EndWord}
use Rattle.cluster_machine.specs.declared.line.EndWord.TheVariants as ending
use Rattle.cluster_machine.specs.declared.step.Refusal.{Refusal}
use Rattle.cluster_machine.specs.declared.step.Refusal.TheVariants.{VersionTaken, VersionLimit, NotMember, NoSuchBucket, NoSuchMessage, Lost, NoSuchRequest, AlreadyEnded, TooFewNodes, TooFewZones, NoAssignment}
use Rattle.cluster_machine.specs.declared.step.Words.{Words}
use Rattle.cluster_machine.specs.declared.step.Words.TheVariants.{Empty, One, Idle, Two}
use Rattle.text_model.specs.Reading.{number_in, is_number}
use Rattle.audit_model.specs.declared.said.Told.{Told}
use Rattle.audit_model.specs.declared.said.Told.TheVariants.{Accepted, Refused}
use Rattle.audit_model.specs.declared.said.Answered.{Answered}
use Rattle.audit_model.specs.declared.said.Answered.TheVariants as answered
use Rattle.audit_model.specs.declared.said.Said.{Said}
use Rattle.audit_model.specs.declared.said.Said.TheVariants.{Event, Size, Redundancy, Sets, Cut, Side, Nodes, Got, Sent, Synced, Dropped, Done, Listed, Key, Ended, Node, Fresh, End}

-- two numbers with a slash between them
abbrev pub two_numbers : List (List ℕ) → ℕ × ℕ
two_numbers (a ∷ b ∷ []) = (number_in a, number_in b)
two_numbers other = (0, 0)

-- the version that a word spells
abbrev pub version_in : List ℕ → ℕ × ℕ
version_in word = two_numbers (slice_split (λ b. b == 47) word)

-- the bytes of a hexadecimal text
abbrev pub bytes_or_none : Result (List ℕ) FromHexError → List ℕ
bytes_or_none (Ok bytes) = bytes
bytes_or_none (Err e) = []

-- the bytes that a word spells
abbrev pub digest_in : List ℕ → List ℕ
digest_in word = bytes_or_none (decode_of word)

-- the one kind of message that a word can be
abbrev pub kind_in : List ℕ → SentKind
kind_in w =
    if bytes_eq w (codes "get") then kind.Get
    else if bytes_eq w (codes "row") then kind.Row
    else if bytes_eq w (codes "range") then kind.Range
    else if bytes_eq w (codes "rows") then kind.Rows
    else if bytes_eq w (codes "store") then kind.Store
    else if bytes_eq w (codes "stored") then kind.Stored
    else if bytes_eq w (codes "behind") then kind.Behind
    else if bytes_eq w (codes "nothere") then kind.NotHere
    else if bytes_eq w (codes "blockget") then kind.BlockGet
    else if bytes_eq w (codes "block") then kind.Block
    else if bytes_eq w (codes "noblock") then kind.NoBlock
    else if bytes_eq w (codes "tomb") then kind.Tomb
    else if bytes_eq w (codes "tombed") then kind.Tombed
    else if bytes_eq w (codes "forget") then kind.Forget
    else if bytes_eq w (codes "walk") then kind.Walk
    else if bytes_eq w (codes "same") then kind.Same
    else if bytes_eq w (codes "differ") then kind.Differ
    else kind.View

-- the one kind of request that a word can be
abbrev pub done_in : List ℕ → DoneWord
done_in w =
    if bytes_eq w (codes "put") then done.Put
    else if bytes_eq w (codes "get") then done.Get
    else if bytes_eq w (codes "head") then done.Head
    else if bytes_eq w (codes "delete") then done.Delete
    else done.Copy

-- the one cause that a word can be
abbrev pub end_in : List ℕ → EndWord
end_in w = if bytes_eq w (codes "expired") then ending.Expired else if bytes_eq w (codes "restarted") then ending.Restarted else ending.Superseded

-- ---- events

-- the one answer that words can be
abbrev pub answer_in : List (List ℕ) → Words
answer_in (a ∷ []) = One (number_in a)
answer_in (a ∷ b ∷ []) = Two (number_in a) (number_in b)
answer_in (w ∷ a ∷ b ∷ []) = Idle (number_in a) (number_in b)
answer_in other = Empty

-- a refusal without numbers
abbrev pub plain_refusal : List ℕ → Refusal ℕ
plain_refusal w =
    if bytes_eq w (codes "VersionLimit") then VersionLimit
    else if bytes_eq w (codes "NotMember") then NotMember
    else if bytes_eq w (codes "NoSuchBucket") then NoSuchBucket
    else if bytes_eq w (codes "NoSuchMessage") then NoSuchMessage
    else if bytes_eq w (codes "Lost") then Lost
    else if bytes_eq w (codes "NoSuchRequest") then NoSuchRequest
    else AlreadyEnded

-- a refusal with one number
abbrev pub numbered_refusal : List ℕ → ℕ → Refusal ℕ
numbered_refusal w n =
    if bytes_eq w (codes "VersionTaken") then VersionTaken n
    else if bytes_eq w (codes "TooFewNodes") then TooFewNodes n
    else NoAssignment n

-- the one refusal that words can be
abbrev pub refusal_in : List (List ℕ) → Refusal ℕ
refusal_in (w ∷ n ∷ []) = numbered_refusal w (number_in n)
refusal_in (w ∷ a ∷ b ∷ []) = TooFewZones (number_in a) (number_in b)
refusal_in (w ∷ ws) = plain_refusal w
refusal_in [] = AlreadyEnded

-- what an event answered, by the word behind its name and the rest
abbrev pub told_in : List ℕ → List (List ℕ) → Told
told_in w ws = if bytes_eq w (codes "ok") then Accepted (answer_in ws) else Refused (refusal_in ws)

-- the line of an event, behind its number
abbrev pub event_in : ℕ → List (List ℕ) → Option Said
event_in line (name ∷ w ∷ ws) = Some (Event line name (told_in w ws))
event_in line other = None

-- ---- other lines

-- the words behind this one, if they begin with it
abbrev pub begins : List ℕ → List (List ℕ) → Bool
begins w [] = false
begins w (v ∷ vs) = bytes_eq v w

-- the words without the first one, where it is left out
abbrev pub behind : Bool → List (List ℕ) → List (List ℕ)
behind true (w ∷ ws) = ws
behind b ws = ws

-- the names of zones, without what stands before each
abbrev pub zones_in : List (List ℕ) → List (List ℕ)
zones_in ws = map (λ w. drop 2 w) ws

-- a side's line behind `up`
abbrev pub side_rest : ℕ → ℕ → Bool → List (List ℕ) → Option Said
side_rest first last up ws =
    let down = begins (codes "down") ws in Some (Side first last up down (zones_in (behind down ws)))

-- a side's line behind its first word
abbrev pub side_said : List (List ℕ) → Option Said
side_said (first ∷ last ∷ ws) = let up = begins (codes "up") ws in side_rest (number_in first) (number_in last) up (behind up ws)
side_said other = None

-- a line of a word and a number
abbrev pub one_said : List ℕ → ℕ → Said
one_said w n =
    if bytes_eq w (codes "size") then Size n
    else if bytes_eq w (codes "redundancy") then Redundancy n
    else if bytes_eq w (codes "got") then Got n
    else Fresh n

-- a line of a word, a number and one word more
abbrev pub two_said : List ℕ → ℕ → List ℕ → Said
two_said w n b =
    if bytes_eq w (codes "cut") then Cut n (number_in b)
    else if bytes_eq w (codes "synced") then Synced n (number_in b)
    else if bytes_eq w (codes "dropped") then Dropped n (version_in b)
    else Ended n (end_in b)

-- a version, or none
abbrev pub answered_in : List ℕ → Answered
answered_in c = if is_number c then answered.Version (version_in c) None None else answered.None

-- a line of a word and three more
abbrev pub three_said : List ℕ → List ℕ → List ℕ → List ℕ → Said
three_said w a b c =
    if bytes_eq w (codes "done") then (if bytes_eq b (codes "list") then Listed (number_in a) (number_in c) else Done (number_in a) (done_in b) (answered_in c))
    else if bytes_eq w (codes "key") then Key a (version_in b) (number_in c)
    else End (number_in a) (number_in b) (number_in c)

-- a line of a word and four more
abbrev pub four_said : List ℕ → List ℕ → List ℕ → List ℕ → List ℕ → Said
four_said w a b c d =
    if bytes_eq w (codes "done") then Done (number_in a) (done_in b) (answered.Version (version_in c) (Some (number_in d)) None)
    else Sent (number_in a) (kind_in b) (number_in c) (number_in d)

-- a line of a word and five more
abbrev pub five_said : List ℕ → List ℕ → List ℕ → List ℕ → List ℕ → List ℕ → Said
five_said w a b c d e =
    if bytes_eq w (codes "done") then Done (number_in a) (done_in b) (answered.Version (version_in c) (Some (number_in d)) (Some (digest_in e)))
    else Sets (number_in a) (number_in b) (number_in c, number_in d, number_in e)

-- a line of a word and others, by how many they are
abbrev pub by_count : List ℕ → List (List ℕ) → Option Said
by_count w (a ∷ []) = Some (one_said w (number_in a))
by_count w (a ∷ b ∷ []) = Some (two_said w (number_in a) b)
by_count w (a ∷ b ∷ c ∷ []) = Some (three_said w a b c)
by_count w (a ∷ b ∷ c ∷ d ∷ []) = Some (four_said w a b c d)
by_count w (a ∷ b ∷ c ∷ d ∷ e ∷ []) = Some (five_said w a b c d e)
by_count w (a ∷ b ∷ c ∷ d ∷ e ∷ f ∷ g ∷ []) = Some (Node (number_in a) (number_in c) (number_in e) (digest_in g))
by_count w other = None

-- a line that begins with a name
abbrev pub named_in : List ℕ → List (List ℕ) → Option Said
named_in w ws =
    if bytes_eq w (codes "cn") then Some (Nodes (map number_in ws))
    else if bytes_eq w (codes "c") then side_said ws
    else by_count w ws

-- the one thing that these words can say
abbrev pub said_in : List (List ℕ) → Option Said
said_in [] = None
said_in (w ∷ ws) = if is_number w then event_in (number_in w) ws else named_in w ws

-- ---- the same as tests

-- the number is below 2^64
abbrev pub is_small : ℕ → Bool
is_small n = nat_lt n (2 ^ 64)

-- each of them is
abbrev pub are_small : List ℕ → Bool
are_small ns = list_all is_small ns

-- each number is below the one beside it
abbrev pub are_below : List (ℕ × ℕ) → Bool
are_below ns = list_all (λ n. nat_lt n.0 n.1) ns

-- a digest of so many bytes
abbrev pub is_digest : ℕ → List ℕ → Bool
is_digest n bytes = nat_eq (length bytes) n && are_bytes bytes

-- a request of this kind answers so
abbrev pub is_answer_of : DoneWord → Answered → Bool
is_answer_of done.Put (answered.Version version None None) = true
is_answer_of done.Delete (answered.Version version None None) = true
is_answer_of done.Copy (answered.Version version None None) = true
is_answer_of done.Get (answered.Version version (Some size) (Some md5)) = is_small size && is_digest 16 md5
is_answer_of done.Head (answered.Version version (Some size) None) = is_small size
is_answer_of done.Copy answered.None = true
is_answer_of done.Get answered.None = true
is_answer_of done.Head answered.None = true
is_answer_of word answer = false

-- the words of a line are in their ranges
abbrev pub is_in_range : Said → Bool
is_in_range (Event line name told) = (is_small line && are_below (told_numbers told)) && list_all is_letter name
is_in_range (Size size) = is_small size
is_in_range (Redundancy r) = is_between 1 3 r
is_in_range (Sets first last set) = are_small (first ∷ last ∷ set.0 ∷ set.1 ∷ set.2 ∷ [])
is_in_range (Cut size weight) = are_small (size ∷ weight ∷ [])
is_in_range (Side first last up down zones) = are_small (first ∷ last ∷ []) && list_all is_zone_name zones
is_in_range (Nodes nodes) = are_small nodes
is_in_range (Got m) = is_small m
is_in_range (Sent m kind from to) = are_small (m ∷ from ∷ to ∷ [])
is_in_range (Synced n v) = are_small (n ∷ v ∷ [])
is_in_range (Dropped n version) = are_small (n ∷ version.0 ∷ version.1 ∷ [])
is_in_range (Done q word answer) = are_small (q ∷ answered_numbers answer) && is_answer_of word answer
is_in_range (Listed q count) = are_small (q ∷ count ∷ [])
is_in_range (Key key version size) = are_small (version.0 ∷ version.1 ∷ size ∷ []) && is_key key
is_in_range (Ended q word) = is_small q
is_in_range (Node n rows blocks top) = are_small (n ∷ rows ∷ blocks ∷ []) && is_digest 32 top
is_in_range (Fresh pairs) = is_small pairs
is_in_range (End events requests messages) = are_small (events ∷ requests ∷ messages ∷ [])

-- what these words can say, where the line says it
abbrev pub where_said : List ℕ → Option Said → Option Said
where_said line None = None
where_said line (Some s) = if bytes_eq line (join_with_byte 32 (words_of s)) && is_in_range s then Some s else None

-- what a line says, where it says anything
abbrev pub said_of : List ℕ → Option Said
said_of line = where_said line (said_in (words_in line))
