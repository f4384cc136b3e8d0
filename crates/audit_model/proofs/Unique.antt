-- A line says one thing at most, and so the lines of a transcript give one account.
use Rattle.std.proofs.Common.{◌≡◌, ℕ, zero, suc, ◌^◌, ◌<◌, ◌/◌, ◌%◌, Bool, true, false, IsTrue, ◌==◌, Some, None, List, [], ◌∷◌, ◌++◌, length, map, refl, ap, sym, subst, ◌∙◌, arith, rules, eqb-true}
use Rattle.std.specs.Prelude.{codes, decimal, slice_index, ⊤}
use Rattle.std.specs.Int.{IsInRange as IsWithin}
use Rattle.std.specs.Str.Parse.{AllDigits}
use Rattle.std.specs.List.{All, AllByRecursion, list_all, join_with_byte}
use Rattle.std.proofs.lemmas.Bool.{and_parts}
use Rattle.std.proofs.lemmas.Bool.Decides.{nat_tests}
use Rattle.std.proofs.lemmas.Fmt.{decimal_is_IsNumeral}
use Rattle.std.proofs.lemmas.Str.Parse.{digit_from_value}
use Rattle.std.proofs.lemmas.List.Elements.{All-nil, All-cons, All-append, All-from_recursion}
use Rattle.std.proofs.lemmas.List.Splits.{slice_split_none, slice_split_at}
use Rattle.hex.specs.Hex.{encode_lower, encode_with, lower_digits}
use Rattle.layout_roles.specs.Names.{is_between, is_name_byte, is_zone_name}
use Rattle.cluster_machine.specs.declared.line.SentKind.{SentKind}
use Rattle.cluster_machine.specs.declared.line.SentKind.TheVariants as kind
use Rattle.cluster_machine.specs.declared.line.DoneWord.TheVariants as done
use Rattle.cluster_machine.specs.declared.line.EndWord.TheVariants as ending
use Rattle.cluster_machine.specs.declared.step.Refusal.{Refusal}
use Rattle.cluster_machine.specs.declared.step.Refusal.TheVariants.{VersionTaken, VersionLimit, NotMember, NoSuchBucket, NoSuchMessage, Lost, NoSuchRequest, AlreadyEnded, TooFewNodes, TooFewZones, NoAssignment}
use Rattle.cluster_machine.specs.declared.step.Words.{Words}
use Rattle.cluster_machine.specs.declared.step.Words.TheVariants.{Empty, One, Idle, Two}
use Rattle.history_model.specs.declared.record.Record.{Record}
use Rattle.store_model.specs.declared.event.Numbered.{Numbered}
use Rattle.text_model.specs.Grammar.{is_key, is_key_byte}
use Rattle.text_model.specs.Words.{is_space, words_in}
use Rattle.text_model.specs.Transcript.{kind_text}
use Rattle.audit_model.specs.declared.said.Told.{Told}
use Rattle.audit_model.specs.declared.said.Told.TheVariants.{Accepted, Refused}
use Rattle.audit_model.specs.declared.said.Answered.TheVariants as answered
use Rattle.audit_model.specs.declared.said.Said.{Said}
use Rattle.audit_model.specs.declared.said.Said.TheVariants.{Event, Size, Redundancy, Sets, Cut, Side, Nodes, Got, Sent, Synced, Dropped, Done, Listed, Key, Ended, Node, Fresh, End}
use Rattle.audit_model.specs.Lines.{refusal_words, answer_words, told_words, version_word, word_where, zone_word, words_of, is_letter, AreNumbers, AreBelow, refusal_numbers, answer_numbers, told_numbers, IsInRange, Says}
use Rattle.audit_model.specs.Heard.{Heard, hears, Hears, AreReadable}
use Rattle.audit_model.proofs.Read.{same_words_say_one}

abbrev NoSpace : List ℕ → Type 0
NoSpace word = All (λ b. is_space b ≡ false) word

abbrev NoSpaces : List (List ℕ) → Type 0
NoSpaces [] = ⊤
NoSpaces (w ∷ ws) = NoSpace w × NoSpaces ws

-- words without a space, joined by spaces, are the words of what they make
split_join : (w : List ℕ) (ws : List (List ℕ)) → NoSpaces (w ∷ ws) → words_in (join_with_byte 32 (w ∷ ws)) ≡ w ∷ ws
split_join w [] h = slice_split_none (λ b. is_space b) w h.0
split_join w (v ∷ vs) h = slice_split_at (λ b. is_space b) w 32 (join_with_byte 32 (v ∷ vs)) h.0 refl ∙ ap (λ ls. w ∷ ls) (split_join v vs h.1)

passes : (p : ℕ → Bool) → p 32 ≡ false → (b : ℕ) → IsTrue (p b) → is_space b ≡ false
passes p at b h =
    elim (b == 32) as (λ t. (b == 32) ≡ t → t ≡ false) [
      | true ↦ λ e. absurd (let same : b ≡ 32 = eqb-true b 32 e in let k : p b ≡ false = ap p same ∙ at in cc)
      | false ↦ λ e. refl
    ] refl

all_no_space : (p : ℕ → Bool) → p 32 ≡ false → (name : List ℕ) → list_all p name ≡ true → NoSpace name
all_no_space p at [] h = All-nil (λ b. is_space b ≡ false)
all_no_space p at (b ∷ bs) h =
    All-cons (λ b. is_space b ≡ false) b bs (passes p at b ((and_parts (p b) (list_all p bs) h).0)) (all_no_space p at bs ((and_parts (p b) (list_all p bs) h).1))

name_no_space : (name : List ℕ) → AllByRecursion (λ b. is_space b ≡ false) name → NoSpace name
name_no_space name h = All-from_recursion (λ b. is_space b ≡ false) name h

zone_no_space : (name : List ℕ) → IsTrue (is_zone_name name) → NoSpace (zone_word name)
zone_no_space name h = All-append (λ b. is_space b ≡ false) (codes "z:") name (name_no_space (codes "z:") (search rules)) (all_no_space is_name_byte refl name (and_parts (is_between 1 16 (length name)) _ h).1)

key_no_space : (key : List ℕ) → IsTrue (is_key key) → NoSpace key
key_no_space key h = all_no_space is_key_byte refl key (and_parts (is_between 1 64 (length key)) _ h).1

digit_no_space : (c : ℕ) → IsWithin 48 57 c → is_space c ≡ false
digit_no_space c h = grind (arith, nat_tests)

digits_no_space : (ds : List ℕ) → AllDigits 10 ds → NoSpace ds
digits_no_space [] h = All-nil (λ b. is_space b ≡ false)
digits_no_space (c ∷ cs) h = All-cons (λ b. is_space b ≡ false) c cs (digit_no_space c (digit_from_value c h.0)) (digits_no_space cs h.1)

number_no_space : (n : ℕ) → n < 2 ^ 64 → NoSpace (decimal n)
number_no_space n h = digits_no_space (decimal n) (decimal_is_IsNumeral n h).0.1

version_no_space : (v : ℕ × ℕ) → v.0 < 2 ^ 64 → v.1 < 2 ^ 64 → NoSpace (version_word v)
version_no_space v h k =
    All-append (λ b. is_space b ≡ false) (decimal v.0) (47 ∷ decimal v.1) (number_no_space v.0 h) (All-cons (λ b. is_space b ≡ false) 47 (decimal v.1) refl (number_no_space v.1 k))

-- a digit of hexadecimal
hex_digit_no_space : (k : ℕ) → is_space (slice_index lower_digits k) ≡ false
hex_digit_no_space zero = refl
hex_digit_no_space (suc zero) = refl
hex_digit_no_space (suc (suc zero)) = refl
hex_digit_no_space (suc (suc (suc zero))) = refl
hex_digit_no_space (suc (suc (suc (suc zero)))) = refl
hex_digit_no_space (suc (suc (suc (suc (suc zero))))) = refl
hex_digit_no_space (suc (suc (suc (suc (suc (suc zero)))))) = refl
hex_digit_no_space (suc (suc (suc (suc (suc (suc (suc zero))))))) = refl
hex_digit_no_space (suc (suc (suc (suc (suc (suc (suc (suc zero)))))))) = refl
hex_digit_no_space (suc (suc (suc (suc (suc (suc (suc (suc (suc zero))))))))) = refl
hex_digit_no_space (suc (suc (suc (suc (suc (suc (suc (suc (suc (suc zero)))))))))) = refl
hex_digit_no_space (suc (suc (suc (suc (suc (suc (suc (suc (suc (suc (suc zero))))))))))) = refl
hex_digit_no_space (suc (suc (suc (suc (suc (suc (suc (suc (suc (suc (suc (suc zero)))))))))))) = refl
hex_digit_no_space (suc (suc (suc (suc (suc (suc (suc (suc (suc (suc (suc (suc (suc zero))))))))))))) = refl
hex_digit_no_space (suc (suc (suc (suc (suc (suc (suc (suc (suc (suc (suc (suc (suc (suc zero)))))))))))))) = refl
hex_digit_no_space (suc (suc (suc (suc (suc (suc (suc (suc (suc (suc (suc (suc (suc (suc (suc zero))))))))))))))) = refl
hex_digit_no_space (suc (suc (suc (suc (suc (suc (suc (suc (suc (suc (suc (suc (suc (suc (suc (suc n)))))))))))))))) = refl

hex_no_space : (bytes : List ℕ) → NoSpace (encode_lower bytes)
unfolding encode_with
hex_no_space [] = All-nil (λ b. is_space b ≡ false)
hex_no_space (b ∷ bs) =
    All-cons (λ b. is_space b ≡ false) (slice_index lower_digits (b / 16)) (slice_index lower_digits (b % 16) ∷ encode_lower bs) (hex_digit_no_space (b / 16))
    (All-cons (λ b. is_space b ≡ false) (slice_index lower_digits (b % 16)) (encode_lower bs) (hex_digit_no_space (b % 16)) (hex_no_space bs))

kind_no_space : (k : SentKind) → NoSpace (kind_text k)
kind_no_space kind.Get = name_no_space (codes "get") (search rules)
kind_no_space kind.Row = name_no_space (codes "row") (search rules)
kind_no_space kind.Range = name_no_space (codes "range") (search rules)
kind_no_space kind.Rows = name_no_space (codes "rows") (search rules)
kind_no_space kind.Store = name_no_space (codes "store") (search rules)
kind_no_space kind.Stored = name_no_space (codes "stored") (search rules)
kind_no_space kind.Behind = name_no_space (codes "behind") (search rules)
kind_no_space kind.NotHere = name_no_space (codes "nothere") (search rules)
kind_no_space kind.BlockGet = name_no_space (codes "blockget") (search rules)
kind_no_space kind.Block = name_no_space (codes "block") (search rules)
kind_no_space kind.NoBlock = name_no_space (codes "noblock") (search rules)
kind_no_space kind.Tomb = name_no_space (codes "tomb") (search rules)
kind_no_space kind.Tombed = name_no_space (codes "tombed") (search rules)
kind_no_space kind.Forget = name_no_space (codes "forget") (search rules)
kind_no_space kind.View = name_no_space (codes "view") (search rules)
kind_no_space kind.Walk = name_no_space (codes "walk") (search rules)
kind_no_space kind.Same = name_no_space (codes "same") (search rules)
kind_no_space kind.Differ = name_no_space (codes "differ") (search rules)

-- ---- lines

version_number_no_space : (n : ℕ) → n < 2 ^ 32 → NoSpace (decimal n)
version_number_no_space n h = number_no_space n (omega (arith, h))

count_no_space : (n : ℕ) → n < 2 ^ 8 → NoSpace (decimal n)
count_no_space n h = number_no_space n (omega (arith, h))

answer_no_spaces : (ws : Words) → AreBelow (answer_numbers ws) → NoSpaces (answer_words ws)
answer_no_spaces Empty h = tt
answer_no_spaces (One n) h = (number_no_space n h.0, tt)
answer_no_spaces (Idle a b) h = (name_no_space (codes "idle") (search rules), (version_number_no_space a h.0, (version_number_no_space b h.1.0, tt)))
answer_no_spaces (Two a b) h = (number_no_space a h.0, (number_no_space b h.1.0, tt))

refusal_no_spaces : (r : Refusal ℕ) → AreBelow (refusal_numbers r) → NoSpaces (refusal_words r)
refusal_no_spaces (VersionTaken v) h = (name_no_space (codes "VersionTaken") (search rules), (version_number_no_space v h.0, tt))
refusal_no_spaces VersionLimit h = (name_no_space (codes "VersionLimit") (search rules), tt)
refusal_no_spaces NotMember h = (name_no_space (codes "NotMember") (search rules), tt)
refusal_no_spaces NoSuchBucket h = (name_no_space (codes "NoSuchBucket") (search rules), tt)
refusal_no_spaces NoSuchMessage h = (name_no_space (codes "NoSuchMessage") (search rules), tt)
refusal_no_spaces Lost h = (name_no_space (codes "Lost") (search rules), tt)
refusal_no_spaces NoSuchRequest h = (name_no_space (codes "NoSuchRequest") (search rules), tt)
refusal_no_spaces AlreadyEnded h = (name_no_space (codes "AlreadyEnded") (search rules), tt)
refusal_no_spaces (TooFewNodes n) h = (name_no_space (codes "TooFewNodes") (search rules), (count_no_space n h.0, tt))
refusal_no_spaces (TooFewZones z r) h = (name_no_space (codes "TooFewZones") (search rules), (count_no_space z h.0, (count_no_space r h.1.0, tt)))
refusal_no_spaces (NoAssignment w) h = (name_no_space (codes "NoAssignment") (search rules), (number_no_space w h.0, tt))

told_no_spaces : (t : Told) → AreBelow (told_numbers t) → NoSpaces (told_words t)
told_no_spaces (Accepted ws) h = (name_no_space (codes "ok") (search rules), answer_no_spaces ws h)
told_no_spaces (Refused r) h = (name_no_space (codes "refused") (search rules), refusal_no_spaces r h)

zones_no_spaces : (zs : List (List ℕ)) → list_all is_zone_name zs ≡ true → NoSpaces (map zone_word zs)
zones_no_spaces [] h = tt
zones_no_spaces (z ∷ zs) h = let p = and_parts (is_zone_name z) (list_all is_zone_name zs) h in (zone_no_space z p.0, zones_no_spaces zs p.1)

sides_no_spaces : (up down : Bool) (zs : List (List ℕ)) → list_all is_zone_name zs ≡ true → NoSpaces (word_where up (codes "up") ++ word_where down (codes "down") ++ map zone_word zs)
sides_no_spaces true true zs h = (name_no_space (codes "up") (search rules), (name_no_space (codes "down") (search rules), zones_no_spaces zs h))
sides_no_spaces true false zs h = (name_no_space (codes "up") (search rules), zones_no_spaces zs h)
sides_no_spaces false true zs h = (name_no_space (codes "down") (search rules), zones_no_spaces zs h)
sides_no_spaces false false zs h = zones_no_spaces zs h

numbers_no_spaces : (ns : List ℕ) → AreNumbers ns → NoSpaces (map decimal ns)
numbers_no_spaces [] h = tt
numbers_no_spaces (n ∷ ns) h = (number_no_space n h.0, numbers_no_spaces ns h.1)

no_spaces : (s : Said) → IsInRange s → NoSpaces (words_of s)
no_spaces (Event line name told) h = (number_no_space line h.0.0, (all_no_space is_letter refl name h.1, told_no_spaces told h.0.1))
no_spaces (Size n) h = (name_no_space (codes "size") (search rules), (number_no_space n h, tt))
no_spaces (Redundancy r) h = (name_no_space (codes "redundancy") (search rules), (number_no_space r (let low = h.1 in omega (arith, low)), tt))
no_spaces (Sets first last set) h = (name_no_space (codes "p") (search rules), (number_no_space first h.0, (number_no_space last h.1.0, (number_no_space set.0 h.1.1.0, (number_no_space set.1 h.1.1.1.0, (number_no_space set.2 h.1.1.1.1.0, tt))))))
no_spaces (Cut size weight) h = (name_no_space (codes "cut") (search rules), (number_no_space size h.0, (number_no_space weight h.1.0, tt)))
no_spaces (Side first last up down zs) h = (name_no_space (codes "c") (search rules), (number_no_space first h.0.0, (number_no_space last h.0.1.0, sides_no_spaces up down zs h.1)))
no_spaces (Nodes ns) h = (name_no_space (codes "cn") (search rules), numbers_no_spaces ns h)
no_spaces (Got m) h = (name_no_space (codes "got") (search rules), (number_no_space m h, tt))
no_spaces (Sent m k from to) h = (name_no_space (codes "sent") (search rules), (number_no_space m h.0, (kind_no_space k, (number_no_space from h.1.0, (number_no_space to h.1.1.0, tt)))))
no_spaces (Synced n v) h = (name_no_space (codes "synced") (search rules), (number_no_space n h.0, (number_no_space v h.1.0, tt)))
no_spaces (Dropped n v) h = (name_no_space (codes "dropped") (search rules), (number_no_space n h.0, (version_no_space v h.1.0 h.1.1.0, tt)))
no_spaces (Done q done.Put (answered.Version v None None)) h = (name_no_space (codes "done") (search rules), (number_no_space q h.0.0, (name_no_space (codes "put") (search rules), (version_no_space v h.0.1.0 h.0.1.1.0, tt))))
no_spaces (Done q done.Put (answered.Version v None (Some md5))) h = absurd h.1
no_spaces (Done q done.Put (answered.Version v (Some size) None)) h = absurd h.1
no_spaces (Done q done.Put (answered.Version v (Some size) (Some md5))) h = absurd h.1
no_spaces (Done q done.Put answered.None) h = absurd h.1
no_spaces (Done q done.Get (answered.Version v None None)) h = absurd h.1
no_spaces (Done q done.Get (answered.Version v None (Some md5))) h = absurd h.1
no_spaces (Done q done.Get (answered.Version v (Some size) None)) h = absurd h.1
no_spaces (Done q done.Get (answered.Version v (Some size) (Some md5))) h = (name_no_space (codes "done") (search rules), (number_no_space q h.0.0, (name_no_space (codes "get") (search rules), (version_no_space v h.0.1.0 h.0.1.1.0, (number_no_space size h.1.0, (hex_no_space md5, tt))))))
no_spaces (Done q done.Get answered.None) h = (name_no_space (codes "done") (search rules), (number_no_space q h.0.0, (name_no_space (codes "get") (search rules), (name_no_space (codes "none") (search rules), tt))))
no_spaces (Done q done.Head (answered.Version v None None)) h = absurd h.1
no_spaces (Done q done.Head (answered.Version v None (Some md5))) h = absurd h.1
no_spaces (Done q done.Head (answered.Version v (Some size) None)) h = (name_no_space (codes "done") (search rules), (number_no_space q h.0.0, (name_no_space (codes "head") (search rules), (version_no_space v h.0.1.0 h.0.1.1.0, (number_no_space size h.1, tt)))))
no_spaces (Done q done.Head (answered.Version v (Some size) (Some md5))) h = absurd h.1
no_spaces (Done q done.Head answered.None) h = (name_no_space (codes "done") (search rules), (number_no_space q h.0.0, (name_no_space (codes "head") (search rules), (name_no_space (codes "none") (search rules), tt))))
no_spaces (Done q done.Delete (answered.Version v None None)) h = (name_no_space (codes "done") (search rules), (number_no_space q h.0.0, (name_no_space (codes "delete") (search rules), (version_no_space v h.0.1.0 h.0.1.1.0, tt))))
no_spaces (Done q done.Delete (answered.Version v None (Some md5))) h = absurd h.1
no_spaces (Done q done.Delete (answered.Version v (Some size) None)) h = absurd h.1
no_spaces (Done q done.Delete (answered.Version v (Some size) (Some md5))) h = absurd h.1
no_spaces (Done q done.Delete answered.None) h = absurd h.1
no_spaces (Done q done.Copy (answered.Version v None None)) h = (name_no_space (codes "done") (search rules), (number_no_space q h.0.0, (name_no_space (codes "copy") (search rules), (version_no_space v h.0.1.0 h.0.1.1.0, tt))))
no_spaces (Done q done.Copy (answered.Version v None (Some md5))) h = absurd h.1
no_spaces (Done q done.Copy (answered.Version v (Some size) None)) h = absurd h.1
no_spaces (Done q done.Copy (answered.Version v (Some size) (Some md5))) h = absurd h.1
no_spaces (Done q done.Copy answered.None) h = (name_no_space (codes "done") (search rules), (number_no_space q h.0.0, (name_no_space (codes "copy") (search rules), (name_no_space (codes "none") (search rules), tt))))
no_spaces (Listed q count) h = (name_no_space (codes "done") (search rules), (number_no_space q h.0, (name_no_space (codes "list") (search rules), (number_no_space count h.1.0, tt))))
no_spaces (Key key v size) h = (name_no_space (codes "key") (search rules), (key_no_space key h.1, (version_no_space v h.0.0 h.0.1.0, (number_no_space size h.0.1.1.0, tt))))
no_spaces (Ended q ending.Expired) h = (name_no_space (codes "ended") (search rules), (number_no_space q h, (name_no_space (codes "expired") (search rules), tt)))
no_spaces (Ended q ending.Restarted) h = (name_no_space (codes "ended") (search rules), (number_no_space q h, (name_no_space (codes "restarted") (search rules), tt)))
no_spaces (Ended q ending.Superseded) h = (name_no_space (codes "ended") (search rules), (number_no_space q h, (name_no_space (codes "superseded") (search rules), tt)))
no_spaces (Node n rows blocks top) h = (
  name_no_space (codes "node") (search rules),
  (number_no_space n h.0.0, (name_no_space (codes "rows") (search rules), (number_no_space rows h.0.1.0, (name_no_space (codes "blocks") (search rules), (number_no_space blocks h.0.1.1.0, (name_no_space (codes "top") (search rules), (hex_no_space top, tt))))))),
)
no_spaces (Fresh pairs) h = (name_no_space (codes "fresh") (search rules), (number_no_space pairs h, tt))
no_spaces (End events requests messages) h = (name_no_space (codes "end") (search rules), (number_no_space events h.0, (number_no_space requests h.1.0, (number_no_space messages h.1.1.0, tt))))

-- the words of a line that says this
line_words : (s : Said) (w : List ℕ) (ws : List (List ℕ)) → words_of s ≡ w ∷ ws → IsInRange s → words_in (join_with_byte 32 (words_of s)) ≡ words_of s
line_words s w ws e h = subst (λ vs. words_in (join_with_byte 32 vs) ≡ vs) (sym e) (split_join w ws (subst NoSpaces e (no_spaces s h)))

pub words_read : (s : Said) → IsInRange s → words_in (join_with_byte 32 (words_of s)) ≡ words_of s
words_read (Event line name told) h = line_words (Event line name told) _ _ refl h
words_read (Size n) h = line_words (Size n) _ _ refl h
words_read (Redundancy r) h = line_words (Redundancy r) _ _ refl h
words_read (Sets first last set) h = line_words (Sets first last set) _ _ refl h
words_read (Cut size weight) h = line_words (Cut size weight) _ _ refl h
words_read (Side first last up down zs) h = line_words (Side first last up down zs) _ _ refl h
words_read (Nodes ns) h = line_words (Nodes ns) _ _ refl h
words_read (Got m) h = line_words (Got m) _ _ refl h
words_read (Sent m k from to) h = line_words (Sent m k from to) _ _ refl h
words_read (Synced n v) h = line_words (Synced n v) _ _ refl h
words_read (Dropped n v) h = line_words (Dropped n v) _ _ refl h
words_read (Done q word answer) h = line_words (Done q word answer) _ _ refl h
words_read (Listed q count) h = line_words (Listed q count) _ _ refl h
words_read (Key key v size) h = line_words (Key key v size) _ _ refl h
words_read (Ended q w) h = line_words (Ended q w) _ _ refl h
words_read (Node n rows blocks top) h = line_words (Node n rows blocks top) _ _ refl h
words_read (Fresh pairs) h = line_words (Fresh pairs) _ _ refl h
words_read (End events requests messages) h = line_words (End events requests messages) _ _ refl h

-- a line says one thing at most
pub one_said : (line : List ℕ) (s t : Said) → Says line s → Says line t → s ≡ t
one_said line s t a b =
    same_words_say_one s t a.in_range b.in_range (sym (words_read s a.in_range) ∙ (ap words_in (sym a.spelled ∙ b.spelled) ∙ words_read t b.in_range))

-- so lines give one account at most
pub one_hearing : (events : List Numbered) (h : Heard) (lines : List (List ℕ)) (saids others : List Said) (a b : Heard) → Hears events h lines saids a → Hears events h lines others b → (saids ≡ others) × (a ≡ b)
one_hearing events h [] [] [] a b (Hears.none _) (Hears.none _) = (refl, refl)
one_hearing events h [] [] (t ∷ others) a b _ x = elim x [ ]
one_hearing events h [] (s ∷ saids) others a b x _ = elim x [ ]
one_hearing events h (line ∷ lines) [] others a b x _ = elim x [ ]
one_hearing events h (line ∷ lines) (s ∷ saids) [] a b _ x = elim x [ ]
one_hearing events h (line ∷ lines) (s ∷ saids) (t ∷ others) a b (Hears.line_first _ n _ _ _ _ _ x e more) (Hears.line_first _ m _ _ _ _ _ y f rest) =
    let same : s ≡ t = one_said line s t x y in
    let some_is : Some n ≡ Some m = sym e ∙ (ap (hears events h) same ∙ f) in
    let next : n ≡ m = cc in
    let later = one_hearing events m lines saids others a b (subst (λ k. Hears events k lines saids a) next more) rest in
    ((λ i. same i ∷ later.0 i), later.1)

pub one_account : (events : List Numbered) (lines : List (List ℕ)) (saids others : List Said) (h k : List Record) → AreReadable events lines saids h → AreReadable events lines others k → (saids ≡ others) × (h ≡ k)
one_account events lines saids others h k a b =
    let one = one_hearing events _ lines saids others a.last b.last a.hears b.hears in
    (one.0, sym a.history_is ∙ (ap (λ (x : Heard). x.history) one.1 ∙ b.history_is))
