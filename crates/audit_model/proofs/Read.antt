-- The words of a line say what the line says, and one thing alone.
use Rattle.std.proofs.Common.{◌≡◌, ℕ, ◌^◌, ◌<◌, Bool, true, false, ◌==◌, Some, None, List, [], ◌∷◌, ◌++◌, length, map, refl, ap, sym, ◌∙◌, arith}
use Rattle.std.specs.Prelude.{codes, decimal}
use Rattle.std.specs.Int.{IsInRange as IsWithin}
use Rattle.std.specs.Str.Parse.{AllDigits}
use Rattle.std.specs.List.{All, slice_split}
use Rattle.std.proofs.lemmas.Bool.Decides.{nat_tests}
use Rattle.std.proofs.lemmas.Fmt.{decimal_is_IsNumeral}
use Rattle.std.proofs.lemmas.Str.Parse.{digit_from_value}
use Rattle.std.proofs.lemmas.List.Elements.{All-nil, All-cons}
use Rattle.std.proofs.lemmas.List.Splits.{slice_split_none, slice_split_at}
use Rattle.hex.specs.Hex.{encode_lower, IsBytes}
use Rattle.hex.proofs.HexLemmas.{decode_of-encode_lower}
use Rattle.cluster_machine.specs.declared.line.SentKind.{SentKind}
use Rattle.cluster_machine.specs.declared.line.SentKind.TheVariants as kind
use Rattle.cluster_machine.specs.declared.line.DoneWord.TheVariants as done
use Rattle.cluster_machine.specs.declared.line.EndWord.{EndWord}
use Rattle.cluster_machine.specs.declared.line.EndWord.TheVariants as ending
use Rattle.cluster_machine.specs.declared.step.Refusal.{Refusal}
use Rattle.cluster_machine.specs.declared.step.Refusal.TheVariants.{VersionTaken, VersionLimit, NotMember, NoSuchBucket, NoSuchMessage, Lost, NoSuchRequest, AlreadyEnded, TooFewNodes, TooFewZones, NoAssignment}
use Rattle.cluster_machine.specs.declared.step.Words.{Words}
use Rattle.cluster_machine.specs.declared.step.Words.TheVariants.{Empty, One, Idle, Two}
use Rattle.text_model.specs.Reading.{number_in, is_number}
use Rattle.text_model.specs.Transcript.{kind_text, end_word}
use Rattle.audit_model.specs.declared.said.Told.{Told}
use Rattle.audit_model.specs.declared.said.Told.TheVariants.{Accepted, Refused}
use Rattle.audit_model.specs.declared.said.Answered.TheVariants as answered
use Rattle.audit_model.specs.declared.said.Said.{Said}
use Rattle.audit_model.specs.declared.said.Said.TheVariants.{Event, Size, Redundancy, Sets, Cut, Side, Nodes, Got, Sent, Synced, Dropped, Done, Listed, Key, Ended, Node, Fresh, End}
use Rattle.audit_model.specs.Lines.{refusal_words, answer_words, version_word, zone_word, words_of, AreNumbers, AreBelow, refusal_numbers, answer_numbers, told_numbers, IsInRange}
use Rattle.audit_model.specs.Reading.{two_numbers, version_in, bytes_or_none, digest_in, kind_in, end_in, answer_in, refusal_in, begins, zones_in, said_in}

read_back : (n : ℕ) → n < 2 ^ 64 → number_in (decimal n) ≡ n
read_back n h = (decimal_is_IsNumeral n h).1

begins_with_digit : (ds rest : List ℕ) → 0 < length ds → AllDigits 10 ds → is_number (ds ++ rest) ≡ true
begins_with_digit [] rest some h = absurd (omega arith)
begins_with_digit (c ∷ cs) rest some h = let r : IsWithin 48 57 c = digit_from_value c h.0 in grind (arith, nat_tests)

first_digit : (ds : List ℕ) → 0 < length ds → AllDigits 10 ds → is_number ds ≡ true
first_digit [] some h = absurd (omega arith)
first_digit (c ∷ cs) some h = let r : IsWithin 48 57 c = digit_from_value c h.0 in grind (arith, nat_tests)

pub decimal_is_number : (n : ℕ) → n < 2 ^ 64 → is_number (decimal n) ≡ true
decimal_is_number n h = let d = (decimal_is_IsNumeral n h).0 in first_digit (decimal n) d.0 d.1

-- ---- versions

digit_no_slash : (c : ℕ) → IsWithin 48 57 c → (c == 47) ≡ false
digit_no_slash c h = grind (arith, nat_tests)

no_slash : (ds : List ℕ) → AllDigits 10 ds → All (λ b. (b == 47) ≡ false) ds
no_slash [] h = All-nil (λ b. (b == 47) ≡ false)
no_slash (c ∷ cs) h = All-cons (λ b. (b == 47) ≡ false) c cs (digit_no_slash c (digit_from_value c h.0)) (no_slash cs h.1)

pub numeral_no_slash : (n : ℕ) → n < 2 ^ 64 → All (λ b. (b == 47) ≡ false) (decimal n)
numeral_no_slash n h = no_slash (decimal n) (decimal_is_IsNumeral n h).0.1

version_is_number : (v : ℕ × ℕ) → v.0 < 2 ^ 64 → is_number (version_word v) ≡ true
version_is_number v h = let d = (decimal_is_IsNumeral v.0 h).0 in begins_with_digit (decimal v.0) (47 ∷ decimal v.1) d.0 d.1

version_back : (v : ℕ × ℕ) → v.0 < 2 ^ 64 → v.1 < 2 ^ 64 → version_in (version_word v) ≡ v
version_back v h k =
    let parts : slice_split (λ b. b == 47) (version_word v) ≡ decimal v.0 ∷ decimal v.1 ∷ [] =
    slice_split_at (λ b. b == 47) (decimal v.0) 47 (decimal v.1) (numeral_no_slash v.0 h) refl ∙ ap (λ ls. decimal v.0 ∷ ls) (slice_split_none (λ b. b == 47) (decimal v.1) (numeral_no_slash v.1 k)) in
    ap two_numbers parts ∙ (λ i. (read_back v.0 h i, read_back v.1 k i))

digest_back : (bytes : List ℕ) → IsBytes bytes → digest_in (encode_lower bytes) ≡ bytes
digest_back bytes h = ap bytes_or_none (decode_of-encode_lower bytes h)

-- ---- names

kind_back : (k : SentKind) → kind_in (kind_text k) ≡ k
kind_back kind.Get = refl
kind_back kind.Row = refl
kind_back kind.Range = refl
kind_back kind.Rows = refl
kind_back kind.Store = refl
kind_back kind.Stored = refl
kind_back kind.Behind = refl
kind_back kind.NotHere = refl
kind_back kind.BlockGet = refl
kind_back kind.Block = refl
kind_back kind.NoBlock = refl
kind_back kind.Tomb = refl
kind_back kind.Tombed = refl
kind_back kind.Forget = refl
kind_back kind.View = refl
kind_back kind.Walk = refl
kind_back kind.Same = refl
kind_back kind.Differ = refl

end_back : (w : EndWord) → end_in (end_word w) ≡ w
end_back ending.Expired = refl
end_back ending.Restarted = refl
end_back ending.Superseded = refl

-- ---- events

-- a layout version is read back
version_number_back : (n : ℕ) → n < 2 ^ 32 → number_in (decimal n) ≡ n
version_number_back n h = read_back n (omega (arith, h))

-- so is a count
count_back : (n : ℕ) → n < 2 ^ 8 → number_in (decimal n) ≡ n
count_back n h = read_back n (omega (arith, h))

answer_back : (ws : Words) → AreBelow (answer_numbers ws) → answer_in (answer_words ws) ≡ ws
answer_back Empty h = refl
answer_back (One n) h = ap One (read_back n h.0)
answer_back (Idle a b) h = λ i. Idle (version_number_back a h.0 i) (version_number_back b h.1.0 i)
answer_back (Two a b) h = λ i. Two (read_back a h.0 i) (read_back b h.1.0 i)

refusal_back : (r : Refusal ℕ) → AreBelow (refusal_numbers r) → refusal_in (refusal_words r) ≡ r
refusal_back (VersionTaken v) h = ap VersionTaken (version_number_back v h.0)
refusal_back VersionLimit h = refl
refusal_back NotMember h = refl
refusal_back NoSuchBucket h = refl
refusal_back NoSuchMessage h = refl
refusal_back Lost h = refl
refusal_back NoSuchRequest h = refl
refusal_back AlreadyEnded h = refl
refusal_back (TooFewNodes n) h = ap TooFewNodes (count_back n h.0)
refusal_back (TooFewZones z r) h = λ i. TooFewZones (count_back z h.0 i) (count_back r h.1.0 i)
refusal_back (NoAssignment w) h = ap NoAssignment (read_back w h.0)

event_back : (line : ℕ) (name : List ℕ) (told : Told) → line < 2 ^ 64 → AreBelow (told_numbers told) → said_in (words_of (Event line name told)) ≡ Some (Event line name told)
event_back line name (Accepted ws) h k = rw (decimal_is_number line h) (λ i. Some (Event (read_back line h i) name (Accepted (answer_back ws k i))))
event_back line name (Refused r) h k = rw (decimal_is_number line h) (λ i. Some (Event (read_back line h i) name (Refused (refusal_back r k i))))

-- ---- cuts

numbers_back : (ns : List ℕ) → AreNumbers ns → map number_in (map decimal ns) ≡ ns
numbers_back [] h = refl
numbers_back (n ∷ ns) h = λ i. read_back n h.0 i ∷ numbers_back ns h.1 i

zones_back : (zs : List (List ℕ)) → zones_in (map zone_word zs) ≡ zs
zones_back [] = refl
zones_back (z ∷ zs) = ap (λ rest. z ∷ rest) (zones_back zs)

-- no word of a zone is another word
down_not_zone : (zs : List (List ℕ)) → begins (codes "down") (map zone_word zs) ≡ false
down_not_zone [] = refl
down_not_zone (z ∷ zs) = refl

up_not_zone : (zs : List (List ℕ)) → begins (codes "up") (map zone_word zs) ≡ false
up_not_zone [] = refl
up_not_zone (z ∷ zs) = refl

side_back : (first last : ℕ) (up down : Bool) (zs : List (List ℕ)) → first < 2 ^ 64 → last < 2 ^ 64 → said_in (words_of (Side first last up down zs)) ≡ Some (Side first last up down zs)
side_back first last true true zs h k = λ i. Some (Side (read_back first h i) (read_back last k i) true true (zones_back zs i))
side_back first last true false zs h k = rw (down_not_zone zs) (λ i. Some (Side (read_back first h i) (read_back last k i) true false (zones_back zs i)))
side_back first last false true zs h k = λ i. Some (Side (read_back first h i) (read_back last k i) false true (zones_back zs i))
side_back first last false false zs h k = rw (up_not_zone zs, down_not_zone zs) (λ i. Some (Side (read_back first h i) (read_back last k i) false false (zones_back zs i)))

-- ---- all

pub said_back : (s : Said) → IsInRange s → said_in (words_of s) ≡ Some s
said_back (Event line name told) h = event_back line name told h.0.0 h.0.1
said_back (Size n) h = ap (λ x. Some (Size x)) (read_back n h)
said_back (Redundancy r) h = ap (λ x. Some (Redundancy x)) (read_back r (let low = h.1 in omega (arith, low)))
said_back (Sets first last set) h =
    let a = read_back first h.0 in
    let b = read_back last h.1.0 in
    let d = read_back set.0 h.1.1.0 in
    let e = read_back set.1 h.1.1.1.0 in
    let f = read_back set.2 h.1.1.1.1.0 in
    λ i. Some (Sets (a i) (b i) (d i, e i, f i))
said_back (Cut size weight) h = λ i. Some (Cut (read_back size h.0 i) (read_back weight h.1.0 i))
said_back (Side first last up down zs) h = side_back first last up down zs h.0.0 h.0.1.0
said_back (Nodes ns) h = ap (λ x. Some (Nodes x)) (numbers_back ns h)
said_back (Got m) h = ap (λ x. Some (Got x)) (read_back m h)
said_back (Sent m k from to) h = λ i. Some (Sent (read_back m h.0 i) (kind_back k i) (read_back from h.1.0 i) (read_back to h.1.1.0 i))
said_back (Synced n v) h = λ i. Some (Synced (read_back n h.0 i) (read_back v h.1.0 i))
said_back (Dropped n v) h = λ i. Some (Dropped (read_back n h.0 i) (version_back v h.1.0 h.1.1.0 i))
said_back (Done q done.Put (answered.Version v None None)) h =
    let a = read_back q h.0.0 in
    let d = version_is_number v h.0.1.0 in
    let b = version_back v h.0.1.0 h.0.1.1.0 in
    rw (a, d, b) refl
said_back (Done q done.Put (answered.Version v None (Some md5))) h = absurd h.1
said_back (Done q done.Put (answered.Version v (Some size) None)) h = absurd h.1
said_back (Done q done.Put (answered.Version v (Some size) (Some md5))) h = absurd h.1
said_back (Done q done.Put answered.None) h = absurd h.1
said_back (Done q done.Get (answered.Version v None None)) h = absurd h.1
said_back (Done q done.Get (answered.Version v None (Some md5))) h = absurd h.1
said_back (Done q done.Get (answered.Version v (Some size) None)) h = absurd h.1
said_back (Done q done.Get (answered.Version v (Some size) (Some md5))) h =
    let a = read_back q h.0.0 in
    let b = version_back v h.0.1.0 h.0.1.1.0 in
    let d = read_back size h.1.0 in
    let e = digest_back md5 h.1.2 in
    rw (a, b, d, e) refl
said_back (Done q done.Get answered.None) h = let a = read_back q h.0.0 in rw a refl
said_back (Done q done.Head (answered.Version v None None)) h = absurd h.1
said_back (Done q done.Head (answered.Version v None (Some md5))) h = absurd h.1
said_back (Done q done.Head (answered.Version v (Some size) None)) h =
    let a = read_back q h.0.0 in
    let b = version_back v h.0.1.0 h.0.1.1.0 in
    let d = read_back size h.1 in
    rw (a, b, d) refl
said_back (Done q done.Head (answered.Version v (Some size) (Some md5))) h = absurd h.1
said_back (Done q done.Head answered.None) h = let a = read_back q h.0.0 in rw a refl
said_back (Done q done.Delete (answered.Version v None None)) h =
    let a = read_back q h.0.0 in
    let d = version_is_number v h.0.1.0 in
    let b = version_back v h.0.1.0 h.0.1.1.0 in
    rw (a, d, b) refl
said_back (Done q done.Delete (answered.Version v None (Some md5))) h = absurd h.1
said_back (Done q done.Delete (answered.Version v (Some size) None)) h = absurd h.1
said_back (Done q done.Delete (answered.Version v (Some size) (Some md5))) h = absurd h.1
said_back (Done q done.Delete answered.None) h = absurd h.1
said_back (Done q done.Copy (answered.Version v None None)) h =
    let a = read_back q h.0.0 in
    let d = version_is_number v h.0.1.0 in
    let b = version_back v h.0.1.0 h.0.1.1.0 in
    rw (a, d, b) refl
said_back (Done q done.Copy (answered.Version v None (Some md5))) h = absurd h.1
said_back (Done q done.Copy (answered.Version v (Some size) None)) h = absurd h.1
said_back (Done q done.Copy (answered.Version v (Some size) (Some md5))) h = absurd h.1
said_back (Done q done.Copy answered.None) h = let a = read_back q h.0.0 in rw a refl
said_back (Listed q count) h = λ i. Some (Listed (read_back q h.0 i) (read_back count h.1.0 i))
said_back (Key key v size) h = λ i. Some (Key key (version_back v h.0.0 h.0.1.0 i) (read_back size h.0.1.1.0 i))
said_back (Ended q w) h = λ i. Some (Ended (read_back q h i) (end_back w i))
said_back (Node n rows blocks top) h = λ i. Some (Node (read_back n h.0.0 i) (read_back rows h.0.1.0 i) (read_back blocks h.0.1.1.0 i) (digest_back top h.2 i))
said_back (Fresh pairs) h = ap (λ x. Some (Fresh x)) (read_back pairs h)
said_back (End events requests messages) h = λ i. Some (End (read_back events h.0 i) (read_back requests h.1.0 i) (read_back messages h.1.1.0 i))

-- lines with the same words say the same
pub same_words_say_one : (s t : Said) → IsInRange s → IsInRange t → words_of s ≡ words_of t → s ≡ t
same_words_say_one s t h k e =
    let both : Some s ≡ Some t = sym (said_back s h) ∙ (ap said_in e ∙ said_back t k) in
    cc
