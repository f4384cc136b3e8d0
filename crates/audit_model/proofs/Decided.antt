-- What is read of a line is what the line says, and each text can be read or has a first line that can't.
use Rattle.std.proofs.Common.{◌≡◌, ℕ, suc, ◌^◌, true, false, ◌&&◌, Option, Some, None, List, [], ◌∷◌, ◌++◌, length, refl, ap, sym, subst, ◌∙◌, bytes_eq, nat_eq}
use Rattle.std.specs.Prelude.{if◌then◌else◌, nat_lt}
use Rattle.std.specs.List.{join_with_byte}
use Rattle.std.proofs.lemmas.Bool.{and_parts, and_from, leb-true, le-leb, ltb-true, lt-ltb, eqb-true, eq-eqb}
use Rattle.std.proofs.lemmas.List.{append-nil}
use Rattle.std.proofs.lemmas.Slice.Eq.{bytes_eq-Decides}
use Rattle.hex.specs.Hex.{IsBytes}
use Rattle.row_codec.specs.NumberLaws.{bytes_from, bytes_each}
use Rattle.row_codec.specs.Reads.{are_bytes}
use Rattle.cluster_machine.specs.declared.line.DoneWord.{DoneWord}
use Rattle.cluster_machine.specs.declared.line.DoneWord.TheVariants as done
use Rattle.history_model.specs.declared.record.Record.{Record}
use Rattle.store_model.specs.declared.event.Numbered.{Numbered}
use Rattle.text_model.specs.Words.{words_in}
use Rattle.audit_model.specs.declared.said.Answered.{Answered}
use Rattle.audit_model.specs.declared.said.Answered.TheVariants as answered
use Rattle.audit_model.specs.declared.said.Said.{Said}
use Rattle.audit_model.specs.declared.said.Said.TheVariants.{Event, Size, Redundancy, Sets, Cut, Side, Nodes, Got, Sent, Synced, Dropped, Done, Listed, Key, Ended, Node, Fresh, End}
use Rattle.audit_model.specs.Lines.{words_of, told_numbers, answered_numbers, AreNumbers, AreBelow, IsAnswerOf, IsInRange, Says}
use Rattle.audit_model.specs.Reading.{is_small, are_small, are_below, is_digest, is_answer_of, is_in_range, where_said, said_in, said_of}
use Rattle.audit_model.specs.Heard.{Heard, Listing, nothing_heard, hears, Hears, AreReadable, IsDeaf, IsUnreadable}
use Rattle.audit_model.proofs.Read.{said_back}
use Rattle.audit_model.proofs.Unique.{words_read}

numbers_hold : (ns : List ℕ) → are_small ns ≡ true → AreNumbers ns
numbers_hold [] h = tt
numbers_hold (n ∷ ns) h = let p = and_parts (is_small n) (are_small ns) h in (ltb-true n (2 ^ 64) p.0, numbers_hold ns p.1)

numbers_test : (ns : List ℕ) → AreNumbers ns → are_small ns ≡ true
numbers_test [] h = refl
numbers_test (n ∷ ns) h = and_from _ _ (lt-ltb n (2 ^ 64) h.0) (numbers_test ns h.1)

below_holds : (ns : List (ℕ × ℕ)) → are_below ns ≡ true → AreBelow ns
below_holds [] h = tt
below_holds (n ∷ ns) h = let p = and_parts (nat_lt n.0 n.1) (are_below ns) h in (ltb-true n.0 n.1 p.0, below_holds ns p.1)

below_test : (ns : List (ℕ × ℕ)) → AreBelow ns → are_below ns ≡ true
below_test [] h = refl
below_test (n ∷ ns) h = and_from _ _ (lt-ltb n.0 n.1 h.0) (below_test ns h.1)

digest_holds : (n : ℕ) (bytes : List ℕ) → is_digest n bytes ≡ true → (length bytes ≡ n) × IsBytes bytes
digest_holds n bytes h = let p = and_parts (nat_eq (length bytes) n) (are_bytes bytes) h in (eqb-true (length bytes) n p.0, bytes_each bytes p.1)

digest_test : (n : ℕ) (bytes : List ℕ) → (length bytes ≡ n) × IsBytes bytes → is_digest n bytes ≡ true
digest_test n bytes h = and_from _ _ (eq-eqb (length bytes) n h.0) (bytes_from bytes h.1)

answer_holds : (word : DoneWord) (a : Answered) → is_answer_of word a ≡ true → IsAnswerOf word a
answer_holds done.Put (answered.Version v None None) h = tt
answer_holds done.Put (answered.Version v None (Some md5)) h = cc
answer_holds done.Put (answered.Version v (Some size) None) h = cc
answer_holds done.Put (answered.Version v (Some size) (Some md5)) h = cc
answer_holds done.Put answered.None h = cc
answer_holds done.Delete (answered.Version v None None) h = tt
answer_holds done.Delete (answered.Version v None (Some md5)) h = cc
answer_holds done.Delete (answered.Version v (Some size) None) h = cc
answer_holds done.Delete (answered.Version v (Some size) (Some md5)) h = cc
answer_holds done.Delete answered.None h = cc
answer_holds done.Copy (answered.Version v None None) h = tt
answer_holds done.Copy (answered.Version v None (Some md5)) h = cc
answer_holds done.Copy (answered.Version v (Some size) None) h = cc
answer_holds done.Copy (answered.Version v (Some size) (Some md5)) h = cc
answer_holds done.Copy answered.None h = tt
answer_holds done.Get (answered.Version v None None) h = cc
answer_holds done.Get (answered.Version v None (Some md5)) h = cc
answer_holds done.Get (answered.Version v (Some size) None) h = cc
answer_holds done.Get (answered.Version v (Some size) (Some md5)) h = let p = and_parts _ _ h in let d = digest_holds 16 md5 p.1 in (ltb-true size (2 ^ 64) p.0, d.0, d.1)
answer_holds done.Get answered.None h = tt
answer_holds done.Head (answered.Version v None None) h = cc
answer_holds done.Head (answered.Version v None (Some md5)) h = cc
answer_holds done.Head (answered.Version v (Some size) None) h = ltb-true size (2 ^ 64) h
answer_holds done.Head (answered.Version v (Some size) (Some md5)) h = cc
answer_holds done.Head answered.None h = tt

answer_test : (word : DoneWord) (a : Answered) → IsAnswerOf word a → is_answer_of word a ≡ true
answer_test done.Put (answered.Version v None None) h = refl
answer_test done.Put (answered.Version v None (Some md5)) h = absurd h
answer_test done.Put (answered.Version v (Some size) None) h = absurd h
answer_test done.Put (answered.Version v (Some size) (Some md5)) h = absurd h
answer_test done.Put answered.None h = absurd h
answer_test done.Delete (answered.Version v None None) h = refl
answer_test done.Delete (answered.Version v None (Some md5)) h = absurd h
answer_test done.Delete (answered.Version v (Some size) None) h = absurd h
answer_test done.Delete (answered.Version v (Some size) (Some md5)) h = absurd h
answer_test done.Delete answered.None h = absurd h
answer_test done.Copy (answered.Version v None None) h = refl
answer_test done.Copy (answered.Version v None (Some md5)) h = absurd h
answer_test done.Copy (answered.Version v (Some size) None) h = absurd h
answer_test done.Copy (answered.Version v (Some size) (Some md5)) h = absurd h
answer_test done.Copy answered.None h = refl
answer_test done.Get (answered.Version v None None) h = absurd h
answer_test done.Get (answered.Version v None (Some md5)) h = absurd h
answer_test done.Get (answered.Version v (Some size) None) h = absurd h
answer_test done.Get (answered.Version v (Some size) (Some md5)) h = and_from _ _ (lt-ltb size (2 ^ 64) h.0) (digest_test 16 md5 (h.1, h.2))
answer_test done.Get answered.None h = refl
answer_test done.Head (answered.Version v None None) h = absurd h
answer_test done.Head (answered.Version v None (Some md5)) h = absurd h
answer_test done.Head (answered.Version v (Some size) None) h = lt-ltb size (2 ^ 64) h
answer_test done.Head (answered.Version v (Some size) (Some md5)) h = absurd h
answer_test done.Head answered.None h = refl

range_holds : (s : Said) → is_in_range s ≡ true → IsInRange s
range_holds (Event line name told) h =
    let p = and_parts (is_small line && are_below (told_numbers told)) _ h in
    let q = and_parts (is_small line) (are_below (told_numbers told)) p.0 in
    ((ltb-true line (2 ^ 64) q.0, below_holds (told_numbers told) q.1), p.1)
range_holds (Size n) h = ltb-true n (2 ^ 64) h
range_holds (Redundancy r) h = let p = and_parts _ _ h in (leb-true 1 r p.0, leb-true r 3 p.1)
range_holds (Sets first last set) h = numbers_hold (first ∷ last ∷ set.0 ∷ set.1 ∷ set.2 ∷ []) h
range_holds (Cut size weight) h = numbers_hold (size ∷ weight ∷ []) h
range_holds (Side first last up down zs) h = let p = and_parts (are_small (first ∷ last ∷ [])) _ h in (numbers_hold (first ∷ last ∷ []) p.0, p.1)
range_holds (Nodes ns) h = numbers_hold ns h
range_holds (Got m) h = ltb-true m (2 ^ 64) h
range_holds (Sent m k from to) h = numbers_hold (m ∷ from ∷ to ∷ []) h
range_holds (Synced n v) h = numbers_hold (n ∷ v ∷ []) h
range_holds (Dropped n v) h = numbers_hold (n ∷ v.0 ∷ v.1 ∷ []) h
range_holds (Done q word answer) h = let p = and_parts (are_small (q ∷ answered_numbers answer)) _ h in (numbers_hold (q ∷ answered_numbers answer) p.0, answer_holds word answer p.1)
range_holds (Listed q count) h = numbers_hold (q ∷ count ∷ []) h
range_holds (Key key v size) h = let p = and_parts (are_small (v.0 ∷ v.1 ∷ size ∷ [])) _ h in (numbers_hold (v.0 ∷ v.1 ∷ size ∷ []) p.0, p.1)
range_holds (Ended q w) h = ltb-true q (2 ^ 64) h
range_holds (Node n rows blocks top) h = let p = and_parts (are_small (n ∷ rows ∷ blocks ∷ [])) _ h in let d = digest_holds 32 top p.1 in (numbers_hold (n ∷ rows ∷ blocks ∷ []) p.0, d.0, d.1)
range_holds (Fresh pairs) h = ltb-true pairs (2 ^ 64) h
range_holds (End events requests messages) h = numbers_hold (events ∷ requests ∷ messages ∷ []) h

range_test : (s : Said) → IsInRange s → is_in_range s ≡ true
range_test (Event line name told) h = and_from _ _ (and_from _ _ (lt-ltb line (2 ^ 64) h.0.0) (below_test (told_numbers told) h.0.1)) h.1
range_test (Size n) h = lt-ltb n (2 ^ 64) h
range_test (Redundancy r) h = and_from _ _ (le-leb 1 r h.0) (le-leb r 3 h.1)
range_test (Sets first last set) h = numbers_test (first ∷ last ∷ set.0 ∷ set.1 ∷ set.2 ∷ []) h
range_test (Cut size weight) h = numbers_test (size ∷ weight ∷ []) h
range_test (Side first last up down zs) h = and_from _ _ (numbers_test (first ∷ last ∷ []) h.0) h.1
range_test (Nodes ns) h = numbers_test ns h
range_test (Got m) h = lt-ltb m (2 ^ 64) h
range_test (Sent m k from to) h = numbers_test (m ∷ from ∷ to ∷ []) h
range_test (Synced n v) h = numbers_test (n ∷ v ∷ []) h
range_test (Dropped n v) h = numbers_test (n ∷ v.0 ∷ v.1 ∷ []) h
range_test (Done q word answer) h = and_from _ _ (numbers_test (q ∷ answered_numbers answer) h.0) (answer_test word answer h.1)
range_test (Listed q count) h = numbers_test (q ∷ count ∷ []) h
range_test (Key key v size) h = and_from _ _ (numbers_test (v.0 ∷ v.1 ∷ size ∷ []) h.0) h.1
range_test (Ended q w) h = lt-ltb q (2 ^ 64) h
range_test (Node n rows blocks top) h = and_from _ _ (numbers_test (n ∷ rows ∷ blocks ∷ []) h.0) (digest_test 32 top (h.1, h.2))
range_test (Fresh pairs) h = lt-ltb pairs (2 ^ 64) h
range_test (End events requests messages) h = numbers_test (events ∷ requests ∷ messages ∷ []) h

-- ---- lines

where_is : (line : List ℕ) (o : Option Said) (s : Said) → where_said line o ≡ Some s → Says line s
where_is line None s h = cc
where_is line (Some c) s h =
    elim (bytes_eq line (join_with_byte 32 (words_of c)) && is_in_range c) as (λ b. (bytes_eq line (join_with_byte 32 (words_of c)) && is_in_range c) ≡ b → (if b then Some c else None) ≡ Some s → Says line s) [
      | true ↦ λ t k.
          let same : c ≡ s = cc in
          let p = and_parts (bytes_eq line (join_with_byte 32 (words_of c))) (is_in_range c) t in
          subst (Says line) same (record { spelled = (bytes_eq-Decides line (join_with_byte 32 (words_of c))).0 p.0; in_range = range_holds c p.1 })
      | false ↦ λ t k. cc
    ] refl h

-- what is read of a line the line says
pub said_is : (line : List ℕ) (s : Said) → said_of line ≡ Some s → Says line s
said_is line s h = where_is line (said_in (words_in line)) s h

-- what a line says is read of it
pub is_said : (line : List ℕ) (s : Said) → Says line s → said_of line ≡ Some s
is_said line s h =
    let found : said_in (words_in line) ≡ Some s = ap (λ l. said_in (words_in l)) h.spelled ∙ (ap said_in (words_read s h.in_range) ∙ said_back s h.in_range) in
    let t : (bytes_eq line (join_with_byte 32 (words_of s)) && is_in_range s) ≡ true =
    and_from _ _ ((bytes_eq-Decides line (join_with_byte 32 (words_of s))).1 h.spelled) (range_test s h.in_range) in
    ap (where_said line) found ∙ (rw t refl)

-- ---- texts

-- all of these lines can be read from here, or one of them is the first that can't
pub data ReadsFrom (events : List Numbered) (h : Heard) (lines : List (List ℕ)) : Type 0 where
  to_end : (saids : List Said) (last : Heard) → Hears events h lines saids last → ReadsFrom events h lines
  stops : (before : List (List ℕ)) (line : List ℕ) (later : List (List ℕ)) (saids : List Said) (last : Heard) → lines ≡ before ++ line ∷ later → Hears events h before saids last → IsDeaf events last line → ReadsFrom events h lines

after_line : (events : List Numbered) (h next : Heard) (line : List ℕ) (lines : List (List ℕ)) (s : Said) → Says line s → hears events h s ≡ Some next → ReadsFrom events next lines → ReadsFrom events h (line ∷ lines)
after_line events h next line lines s says e (ReadsFrom.to_end saids last more) = ReadsFrom.to_end (s ∷ saids) last (Hears.line_first h next last line lines s saids says e more)
after_line events h next line lines s says e (ReadsFrom.stops before l later saids last whole more deaf) =
    ReadsFrom.stops (line ∷ before) l later (s ∷ saids) last (ap (λ ls. line ∷ ls) whole) (Hears.line_first h next last line before s saids says e more) deaf

-- the line, and what it says or that it says nothing
by_heard : (events : List Numbered) (h : Heard) (line : List ℕ) (lines : List (List ℕ)) (s : Said) → said_of line ≡ Some s → ((next : Heard) → ReadsFrom events next lines) → (o : Option Heard) → hears events h s ≡ o → ReadsFrom events h (line ∷ lines)
by_heard events h line lines s found rest None e =
    ReadsFrom.stops [] line lines [] h refl (Hears.none h) (λ t says. (let some_is : Some s ≡ Some t = sym found ∙ is_said line t says in let same : s ≡ t = cc in ap (hears events h) (sym same) ∙ e))
by_heard events h line lines s found rest (Some next) e = after_line events h next line lines s (said_is line s found) e (rest next)

by_said : (events : List Numbered) (h : Heard) (line : List ℕ) (lines : List (List ℕ)) → ((next : Heard) → ReadsFrom events next lines) → (o : Option Said) → said_of line ≡ o → ReadsFrom events h (line ∷ lines)
by_said events h line lines rest None none = ReadsFrom.stops [] line lines [] h refl (Hears.none h) (λ s says. (let no : None ≡ Some s = sym none ∙ is_said line s says in cc))
by_said events h line lines rest (Some s) found = by_heard events h line lines s found rest (hears events h s) refl

reads_from : (events : List Numbered) (h : Heard) (lines : List (List ℕ)) → ReadsFrom events h lines
reads_from events h [] = ReadsFrom.to_end [] h (Hears.none h)
reads_from events h (line ∷ lines) = by_said events h line lines (λ next. reads_from events next lines) (said_of line) refl

-- each text can be read, or has a first line that can't
pub data Reads (events : List Numbered) (lines : List (List ℕ)) : Type 0 where
  readable : (saids : List Said) (history : List Record) → AreReadable events lines saids history → Reads events lines
  unreadable : (k : ℕ) → IsUnreadable events lines k → Reads events lines

at_end : (events : List Numbered) (lines : List (List ℕ)) (saids : List Said) (last : Heard) → Hears events nothing_heard lines saids last → (o : Option Listing) → last.listing ≡ o → Reads events lines
at_end events lines saids last h None e = Reads.readable saids last.history (record { last = last; hears = h; history_is = refl; no_more = e })
at_end events lines saids last h (Some l) e =
    Reads.unreadable (suc (length lines)) (record { before = lines; later = []; whole = sym (append-nil lines); saids = saids; last = last; hears = h; stops = λ none. (let no : Some l ≡ None = sym e ∙ none in cc); place = refl })

from_start : (events : List Numbered) (lines : List (List ℕ)) → ReadsFrom events nothing_heard lines → Reads events lines
from_start events lines (ReadsFrom.to_end saids last h) = at_end events lines saids last h last.listing refl
from_start events lines (ReadsFrom.stops before line later saids last whole h deaf) =
    Reads.unreadable (suc (length before)) (record { before = before; later = line ∷ later; whole = whole; saids = saids; last = last; hears = h; stops = deaf; place = refl })

pub every_text_reads : (events : List Numbered) (lines : List (List ℕ)) → Reads events lines
every_text_reads events lines = from_start events lines (reads_from events nothing_heard lines)
