-- The lines of a text that says things in their ranges are the words of these, one by one; and where they are heard, the text can be read.
use Rattle.std.proofs.Common.{◌≡◌, ℕ, Bool, true, false, not, ◌==◌, Option, Some, None, List, [], ◌∷◌, ◌++◌, map, refl, sym, ap, subst, ◌∙◌, append_assoc, arith}
use Rattle.std.specs.Prelude.{IsTrue, codes, decimal}
use Rattle.std.specs.Option.{option_and_then}
use Rattle.std.specs.List.{AllByRecursion, list_all, join_with_byte}
use Rattle.std.proofs.lemmas.Bool.{and_parts, and_from, eqb-true}
use Rattle.hex.specs.Hex.{encode_lower}
use Rattle.layout_roles.specs.Names.{is_name_byte, is_zone_name}
use Rattle.cluster_machine.specs.declared.line.DoneWord.TheVariants as done
use Rattle.cluster_machine.specs.declared.line.EndWord.TheVariants as ending
use Rattle.cluster_machine.specs.declared.line.SentKind.TheVariants as kind
use Rattle.cluster_machine.specs.declared.step.Refusal.{Refusal}
use Rattle.cluster_machine.specs.declared.step.Refusal.TheVariants.{VersionTaken, VersionLimit, NotMember, NoSuchBucket, NoSuchMessage, Lost, NoSuchRequest, AlreadyEnded, TooFewNodes, TooFewZones, NoAssignment}
use Rattle.cluster_machine.specs.declared.step.Words.{Words}
use Rattle.cluster_machine.specs.declared.step.Words.TheVariants.{Empty, One, Idle, Two}
use Rattle.store_model.specs.declared.event.Numbered.{Numbered}
use Rattle.text_model.specs.Grammar.{is_key, is_key_byte, lines_of}
use Rattle.audit_model.specs.declared.said.Told.{Told}
use Rattle.audit_model.specs.declared.said.Told.TheVariants.{Accepted, Refused}
use Rattle.audit_model.specs.declared.said.Answered.{Answered}
use Rattle.audit_model.specs.declared.said.Answered.TheVariants as answered
use Rattle.audit_model.specs.declared.said.Said.{Said}
use Rattle.audit_model.specs.declared.said.Said.TheVariants as said
use Rattle.audit_model.specs.Lines.{words_of, told_words, answer_words, refusal_words, version_word, word_if, word_where, zone_word, answered_words, is_letter, IsInRange}
use Rattle.audit_model.specs.Heard.{Heard, Hears, hears, hears_all}
use Rattle.audit_laws.specs.Told.{saids_text}
use Rattle.audit_runs.proofs.Lines.{Free, free_both, decimal_free, first_line}
use Rattle.audit_runs.proofs.Tails.{hex_free}
use Rattle.audit_runs.proofs.Tellings.{kind_free, done_free, end_free}
use Rattle.audit_accounts.specs.Saying.{line_said}

-- ---- words without a line feed

-- none of these words holds a line feed
abbrev AreFree : List (List ℕ) → Type 0
AreFree ws = AllByRecursion (Free 10) ws

joined_free : (ws : List (List ℕ)) → AreFree ws → Free 10 (join_with_byte 32 ws)
joined_free [] h = refl
joined_free (w ∷ []) h = h.0
joined_free (w ∷ v ∷ vs) h = free_both 10 w (32 ∷ join_with_byte 32 (v ∷ vs)) h.0 (joined_free (v ∷ vs) h.1)

both_free : (a b : List (List ℕ)) → AreFree a → AreFree b → AreFree (a ++ b)
both_free [] b h k = k
both_free (w ∷ ws) b h k = (h.0, both_free ws b h.1 k)

number_free : (n : ℕ) → Free 10 (decimal n)
number_free n = decimal_free 10 n (omega arith)

numbers_free : (ns : List ℕ) → AreFree (map decimal ns)
numbers_free [] = tt
numbers_free (n ∷ ns) = (number_free n, numbers_free ns)

-- bytes that pass a test which a line feed doesn't
tested_free : (test : ℕ → Bool) → test 10 ≡ false → (w : List ℕ) → list_all test w ≡ true → Free 10 w
tested_free test misses [] h = refl
tested_free test misses (b ∷ bs) h =
    let parts = and_parts (test b) (list_all test bs) h in
    and_from (not (b == 10)) (list_all (λ x. not (x == 10)) bs) (by_test (b == 10) refl parts.0) (tested_free test misses bs parts.1)
  where
    by_test : (t : Bool) → (b == 10) ≡ t → test b ≡ true → not t ≡ true
    by_test false is h = refl
    by_test true is h = absurd (let same : b ≡ 10 = eqb-true b 10 is in let not_so : true ≡ false = sym h ∙ (ap test same ∙ misses) in cc)

key_free : (key : List ℕ) → IsTrue (is_key key) → Free 10 key
key_free key h = tested_free is_key_byte refl key (and_parts _ (list_all is_key_byte key) h).1

zones_free : (zones : List (List ℕ)) → list_all is_zone_name zones ≡ true → AreFree (map zone_word zones)
zones_free [] h = tt
zones_free (z ∷ zs) h =
    let parts = and_parts (is_zone_name z) (list_all is_zone_name zs) h in
    (free_both 10 (codes "z:") z refl (tested_free is_name_byte refl z (and_parts _ (list_all is_name_byte z) parts.0).1), zones_free zs parts.1)

version_free : (v : ℕ × ℕ) → Free 10 (version_word v)
version_free v = free_both 10 (decimal v.0) (47 ∷ decimal v.1) (number_free v.0) (number_free v.1)

refusal_free : (r : Refusal ℕ) → AreFree (refusal_words r)
refusal_free (VersionTaken v) = (refl, (number_free v, tt))
refusal_free VersionLimit = (refl, tt)
refusal_free NotMember = (refl, tt)
refusal_free NoSuchBucket = (refl, tt)
refusal_free NoSuchMessage = (refl, tt)
refusal_free Lost = (refl, tt)
refusal_free NoSuchRequest = (refl, tt)
refusal_free AlreadyEnded = (refl, tt)
refusal_free (TooFewNodes nodes) = (refl, (number_free nodes, tt))
refusal_free (TooFewZones zones r) = (refl, (number_free zones, (number_free r, tt)))
refusal_free (NoAssignment weight) = (refl, (number_free weight, tt))

answer_free : (w : Words) → AreFree (answer_words w)
answer_free Empty = tt
answer_free (One n) = (number_free n, tt)
answer_free (Idle read least) = (refl, (number_free read, (number_free least, tt)))
answer_free (Two a b) = (number_free a, (number_free b, tt))

told_free : (t : Told) → AreFree (told_words t)
told_free (Accepted words) = (refl, answer_free words)
told_free (Refused reason) = (refl, refusal_free reason)

size_free : (size : Option ℕ) → AreFree (word_if decimal size)
size_free None = tt
size_free (Some size) = (number_free size, tt)

digest_free : (md5 : Option (List ℕ)) → AreFree (word_if encode_lower md5)
digest_free None = tt
digest_free (Some md5) = (hex_free md5, tt)

answered_free : (a : Answered) → AreFree (answered_words a)
answered_free (answered.Version version size md5) = (version_free version, both_free (word_if decimal size) (word_if encode_lower md5) (size_free size) (digest_free md5))
answered_free answered.None = (refl, tt)

where_free : (b : Bool) (w : List ℕ) → Free 10 w → AreFree (word_where b w)
where_free true w h = (h, tt)
where_free false w h = tt

words_free : (s : Said) → IsInRange s → AreFree (words_of s)
words_free (said.Event line name told) h = (number_free line, (tested_free is_letter refl name h.1, told_free told))
words_free (said.Size size) h = (refl, (number_free size, tt))
words_free (said.Redundancy r) h = (refl, (number_free r, tt))
words_free (said.Sets first last set) h = (refl, (number_free first, (number_free last, (number_free set.0, (number_free set.1, (number_free set.2, tt))))))
words_free (said.Cut size weight) h = (refl, (number_free size, (number_free weight, tt)))
words_free (said.Side first last up down zones) h =
    let both : AreFree (word_where up (codes "up") ++ word_where down (codes "down")) =
    both_free (word_where up (codes "up")) (word_where down (codes "down")) (where_free up (codes "up") refl) (where_free down (codes "down") refl) in
    (refl, (number_free first, (number_free last, both_free (word_where up (codes "up") ++ word_where down (codes "down")) (map zone_word zones) both (zones_free zones h.1))))
words_free (said.Nodes nodes) h = (refl, numbers_free nodes)
words_free (said.Got m) h = (refl, (number_free m, tt))
words_free (said.Sent m k from to) h = (refl, (number_free m, (kind_free k, (number_free from, (number_free to, tt)))))
words_free (said.Synced n v) h = (refl, (number_free n, (number_free v, tt)))
words_free (said.Dropped n v) h = (refl, (number_free n, (version_free v, tt)))
words_free (said.Done q word answer) h = (refl, (number_free q, (done_free word, answered_free answer)))
words_free (said.Listed q count) h = (refl, (number_free q, (refl, (number_free count, tt))))
words_free (said.Key key version size) h = (refl, (key_free key h.1, (version_free version, (number_free size, tt))))
words_free (said.Ended q word) h = (refl, (number_free q, (end_free word, tt)))
words_free (said.Node n rows blocks top) h = (refl, (number_free n, (refl, (number_free rows, (refl, (number_free blocks, (refl, (hex_free top, tt))))))))
words_free (said.Fresh pairs) h = (refl, (number_free pairs, tt))
words_free (said.End events requests messages) h = (refl, (number_free events, (number_free requests, (number_free messages, tt))))

-- ---- the lines of a text

-- the lines of what is said in range
pub lines_are : (saids : List Said) → AllByRecursion IsInRange saids → lines_of (saids_text saids) ≡ map line_said saids
lines_are [] h = refl
lines_are (s ∷ ss) h =
    ap lines_of (append_assoc (line_said s) (10 ∷ []) (saids_text ss))
    ∙ (first_line (line_said s) (saids_text ss) (joined_free (words_of s) (words_free s h.0)) ∙ ap (λ ls. line_said s ∷ ls) (lines_are ss h.1))

-- ---- lines that are heard

-- what is heard one by one, in its ranges, the lines that say it give
pub heard_lines : (events : List Numbered) (h last : Heard) (saids : List Said) → AllByRecursion IsInRange saids → hears_all events h saids ≡ Some last → Hears events h (map line_said saids) saids last
heard_lines events h last [] ranges e = let same : h ≡ last = cc in subst (λ (x : Heard). Hears events h [] [] x) same (Hears.none h)
heard_lines events h last (s ∷ ss) ranges e = by_next (hears events h s) refl e (λ next f. heard_lines events next last ss ranges.1 f) where
  by_next : (o : Option Heard) → hears events h s ≡ o → option_and_then (λ next. hears_all events next ss) o ≡ Some last → ((next : Heard) → hears_all events next ss ≡ Some last → Hears events next (map line_said ss) ss last) →
      Hears events h (map line_said (s ∷ ss)) (s ∷ ss) last
  by_next None is e rest = cc
  by_next (Some next) is e rest = Hears.line_first h next last (line_said s) (map line_said ss) s ss (record { spelled = refl; in_range = ranges.0 }) is (rest next e)
