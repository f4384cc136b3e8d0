-- Whether a text begins with each piece of a head is decided.
use Rattle.std.proofs.Common.{◌≡◌, ℕ, zero, suc, ◌+◌, ◌<◌, ◌≤◌, ◌⊎◌, inl, inr, Bool, true, false, List, [], ◌∷◌, ◌++◌, length, refl, sym, ap, ◌∙◌, subst, arith, append_assoc, length-append}
use Rattle.std.proofs.lemmas.Bool.{cases_Bool, cases_eq}
use Rattle.std.proofs.lemmas.List.Elements.{All-nil, All-cons, All-head, All-tail}
use Rattle.std.proofs.lemmas.Str.{IsUtf8-from_is_utf8, is_utf8-from_IsUtf8}
use Rattle.std.specs.Str.{is_utf8}
use Rattle.std.specs.List.{flat_map}
use Rattle.httparse.specs.Grammar.{is_token_byte, is_uri_byte, is_value_byte, AllPass, LineEnd, crlf, lf, print_end, print_blank, print_version, Field, print_field, IsField}
use Rattle.httparse.specs.Pieces.{Piece, Then, Stops, is_newline, Newline, Blank, Word, Target, Version, Text, FieldLine, Section, RequestStart, Method}
use Rattle.httparse.proofs.PieceLemmas.{Blank_deterministic, Word_deterministic, Method_deterministic, Target_deterministic, Version_deterministic, Name_deterministic, FieldLine_deterministic, FieldLine_parts, print_field-append, print_end_unique, newline_not_stopped, RequestStart_deterministic, space_ends_token, colon_ends_token}
use Rattle.serve_model.proofs.Decisions.{Decision, begins, lacks, both, Front, is_front, no_front, front_of, newline_decided, same_head, same_tail, nil_is_no_cons}

not_both : (b : Bool) → b ≡ true → b ≡ false → ⊥
not_both b e k = cc

-- ---- words

-- bytes that pass, which may be none, and the byte stop
Tail : (ℕ → Bool) → ℕ → Piece (List ℕ)
Tail test stop word text rest = AllPass test word × (text ≡ word ++ stop ∷ rest)

module _ (test : ℕ → Bool) (stop : ℕ) (fails : test stop ≡ false) where
  Passes : ℕ → Type 0
  Passes v = test v ≡ true

  tail_more : (b : ℕ) (text : List ℕ) → test b ≡ true → Decision (Tail test stop) text → Decision (Tail test stop) (b ∷ text)
  unfolding Tail
  tail_more b text pass (begins word rest h) = begins (b ∷ word) rest (All-cons (λ v. test v ≡ true) b word pass h.0, ap (λ t. b ∷ t) h.1)
  tail_more b text pass (lacks none) = lacks (λ word rest h. refuse word rest h)
    where
      refuse : (word rest : List ℕ) → Tail test stop word (b ∷ text) rest → ⊥
      refuse [] rest h = let same : b ≡ stop = same_head b stop text rest h.1 in not_both (test stop) (ap test (sym same) ∙ pass) fails
      refuse (x ∷ word) rest h = none word rest (All-tail (λ v. test v ≡ true) x word h.0, same_tail b x text (word ++ stop ∷ rest) h.1)

  tail_stops : (b : ℕ) (text : List ℕ) → test b ≡ false → (b ≡ stop) ⊎ (b ≡ stop → ⊥) → Decision (Tail test stop) (b ∷ text)
  unfolding Tail
  tail_stops b text fail (inl same) = begins [] text (All-nil (λ v. test v ≡ true), ap (λ x. x ∷ text) same)
  tail_stops b text fail (inr other) = lacks (λ word rest h. refuse word rest h)
    where
      refuse : (word rest : List ℕ) → Tail test stop word (b ∷ text) rest → ⊥
      refuse [] rest h = other (same_head b stop text rest h.1)
      refuse (x ∷ word) rest h = let same : b ≡ x = same_head b x text (word ++ stop ∷ rest) h.1 in not_both (test b) (ap test same ∙ All-head (λ v. test v ≡ true) x word h.0) fail

  tail_decided : (text : List ℕ) → Decision (Tail test stop) text
  unfolding Tail
  tail_decided [] = lacks (λ word rest h. refuse word rest h)
    where
      refuse : (word rest : List ℕ) → Tail test stop word [] rest → ⊥
      refuse [] rest h = nil_is_no_cons stop rest h.1
      refuse (x ∷ word) rest h = nil_is_no_cons x (word ++ stop ∷ rest) h.1
  tail_decided (b ∷ text) = elim (cases_Bool (test b)) [ inl pass ↦ tail_more b text pass (tail_decided text) | inr fail ↦ tail_stops b text fail (cases_eq b stop) ]

  word_of : (text : List ℕ) → Decision (Tail test stop) text → Decision (Word test stop) text
  unfolding Tail
  word_of text (begins [] rest h) = lacks (λ word after x. refuse word after x)
    where
      refuse : (word after : List ℕ) → Word test stop word text after → ⊥
      refuse [] after x = absurd (omega (arith, x.0))
      refuse (y ∷ word) after x =
          let same : stop ≡ y = same_head stop y rest (word ++ stop ∷ after) (sym h.1 ∙ x.2) in
          not_both (test stop) (ap test same ∙ All-head (λ v. test v ≡ true) y word x.1) fails
  word_of text (begins (y ∷ word) rest h) = begins (y ∷ word) rest (omega arith, h.0, h.1)
  word_of text (lacks none) = lacks (λ word rest x. none word rest (x.1, x.2))

  pub word_decided : (text : List ℕ) → Decision (Word test stop) text
  word_decided text = word_of text (tail_decided text)

-- ---- the target and the version

target_of : (text : List ℕ) → Decision (Word is_uri_byte 32) text → Decision Target text
target_of text (lacks none) = lacks (λ word rest x. none word rest x.0)
target_of text (begins word rest h) =
    elim (cases_Bool (is_utf8 word)) [
      | inl good ↦ begins word rest (h, IsUtf8-from_is_utf8 word good)
      | inr bad ↦ lacks (λ other after x.
          let same : other ≡ word = ((Word_deterministic is_uri_byte 32 refl).unique other word text after rest x.0 h).0 in
          not_both (is_utf8 word) (ap is_utf8 (sym same) ∙ is_utf8-from_IsUtf8 other x.1) bad)
    ]

pub target_decided : (text : List ℕ) → Decision Target text
target_decided text = target_of text (word_decided is_uri_byte 32 refl text)

version_of : (text : List ℕ) → Front (print_version 0) text → Front (print_version 1) text → Decision Version text
version_of text (is_front rest h) other = begins 0 rest (omega arith, h)
version_of text (no_front none) (is_front rest h) = begins 1 rest (omega arith, h)
version_of text (no_front none) (no_front neither) = lacks (λ minor rest x. refuse minor rest x)
  where
    refuse : (minor : ℕ) (rest : List ℕ) → Version minor text rest → ⊥
    refuse zero rest x = none rest x.1
    refuse (suc zero) rest x = neither rest x.1
    refuse (suc (suc minor)) rest x = absurd (omega (arith, x.0))

pub version_decided : (text : List ℕ) → Decision Version text
version_decided text = version_of text (front_of (print_version 0) text) (front_of (print_version 1) text)

-- ---- the empty lines at the beginning

end_is_longer : (end : LineEnd) (text rest : List ℕ) → text ≡ print_end end ++ rest → length rest < length text
end_is_longer crlf text rest e = let l : length text ≡ length (print_end crlf ++ rest) = ap length e in omega arith
end_is_longer lf text rest e = let l : length text ≡ length (print_end lf ++ rest) = ap length e in omega arith

blank_more : (text : List ℕ) (end : LineEnd) (middle : List ℕ) → text ≡ print_end end ++ middle → Decision Blank middle → Decision Blank text
blank_more text end middle e (begins ends rest h) =
    begins (end ∷ ends) rest (e ∙ ap (λ m. print_end end ++ m) h.0 ∙ sym (append_assoc (print_end end) (print_blank ends) rest), h.1)
blank_more text end middle e (lacks none) = lacks (λ ends rest x. refuse ends rest x)
  where
    refuse : (ends : List LineEnd) (rest : List ℕ) → Blank ends text rest → ⊥
    refuse [] rest x = newline_not_stopped end middle rest (sym e ∙ x.0) x.1
    refuse (other ∷ ends) rest x =
        let same = print_end_unique end other middle (print_blank ends ++ rest) (sym e ∙ x.0 ∙ append_assoc (print_end other) (print_blank ends) rest) in
        none ends rest (same.1, x.1)

blank_none : (text : List ℕ) → ((end : LineEnd) (rest : List ℕ) → Newline end text rest → ⊥) → Decision Blank text
blank_none [] none = lacks (λ ends rest x. refuse ends rest x)
  where
    refuse : (ends : List LineEnd) (rest : List ℕ) → Blank ends [] rest → ⊥
    refuse [] rest x = let stops : Stops is_newline [] = subst (λ (t : List ℕ). Stops is_newline t) (sym x.0) x.1 in stops
    refuse (end ∷ ends) rest x = none end (print_blank ends ++ rest) (x.0 ∙ append_assoc (print_end end) (print_blank ends) rest)
blank_none (b ∷ text) none =
    elim (cases_Bool (is_newline b)) [
      | inr other ↦ begins [] (b ∷ text) (refl, other)
      | inl newline ↦ lacks (λ ends rest x. refuse newline ends rest x)
    ]
  where
    refuse : is_newline b ≡ true → (ends : List LineEnd) (rest : List ℕ) → Blank ends (b ∷ text) rest → ⊥
    refuse newline [] rest x = let stops : Stops is_newline (b ∷ text) = subst (λ (t : List ℕ). Stops is_newline t) (sym x.0) x.1 in not_both (is_newline b) newline stops
    refuse newline (end ∷ ends) rest x = none end (print_blank ends ++ rest) (x.0 ∙ append_assoc (print_end end) (print_blank ends) rest)

blank_within : (n : ℕ) (text : List ℕ) → length text ≤ n → Decision Newline text → Decision Blank text
blank_within n text fits (lacks none) = blank_none text none
blank_within zero text fits (begins end middle e) = let less : length middle < length text = end_is_longer end text middle e in absurd (omega arith)
blank_within (suc n) text fits (begins end middle e) =
    let less : length middle < length text = end_is_longer end text middle e in
    blank_more text end middle e (blank_within n middle (omega arith) (newline_decided middle))

pub blank_decided : (text : List ℕ) → Decision Blank text
blank_decided text = blank_within (length text) text (omega arith) (newline_decided text)

-- ---- field lines

text_more : (b : ℕ) (text : List ℕ) → ((end : LineEnd) (rest : List ℕ) → Newline end (b ∷ text) rest → ⊥) → is_value_byte b ≡ true → Decision Text text → Decision Text (b ∷ text)
text_more b text none pass (begins t rest h) = begins (b ∷ t.0, t.1) rest (All-cons (λ v. is_value_byte v ≡ true) b t.0 pass h.0, ap (λ x. b ∷ x) h.1)
text_more b text none pass (lacks fails) = lacks (λ t rest x. refuse t.0 t.1 rest x)
  where
    refuse : (word : List ℕ) (end : LineEnd) (rest : List ℕ) → Text (word, end) (b ∷ text) rest → ⊥
    refuse [] end rest x = none end rest x.1
    refuse (y ∷ word) end rest x = fails (word, end) rest (All-tail (λ v. is_value_byte v ≡ true) y word x.0, same_tail b y text (word ++ (print_end end ++ rest)) x.1)

text_ends : (b : ℕ) (text : List ℕ) → ((end : LineEnd) (rest : List ℕ) → Newline end (b ∷ text) rest → ⊥) → is_value_byte b ≡ false → Decision Text (b ∷ text)
text_ends b text none fail = lacks (λ t rest x. refuse t.0 t.1 rest x)
  where
    refuse : (word : List ℕ) (end : LineEnd) (rest : List ℕ) → Text (word, end) (b ∷ text) rest → ⊥
    refuse [] end rest x = none end rest x.1
    refuse (y ∷ word) end rest x =
        let same : b ≡ y = same_head b y text (word ++ (print_end end ++ rest)) x.1 in
        not_both (is_value_byte b) (ap is_value_byte same ∙ All-head (λ v. is_value_byte v ≡ true) y word x.0) fail

text_step : (b : ℕ) (text : List ℕ) → Decision Newline (b ∷ text) → Decision Text text → Decision Text (b ∷ text)
text_step b text (begins end rest h) next = begins ([], end) rest (All-nil (λ v. is_value_byte v ≡ true), h)
text_step b text (lacks none) next = elim (cases_Bool (is_value_byte b)) [ inl pass ↦ text_more b text none pass next | inr fail ↦ text_ends b text none fail ]

pub text_decided : (text : List ℕ) → Decision Text text
text_decided [] = lacks (λ t rest x. refuse t.0 t.1 rest x)
  where
    refuse : (word : List ℕ) (end : LineEnd) (rest : List ℕ) → Text (word, end) [] rest → ⊥
    refuse [] crlf rest x = nil_is_no_cons 13 (10 ∷ rest) x.1
    refuse [] lf rest x = nil_is_no_cons 10 rest x.1
    refuse (y ∷ word) end rest x = nil_is_no_cons y (word ++ (print_end end ++ rest)) x.1
text_decided (b ∷ text) = text_step b text (newline_decided (b ∷ text)) (text_decided text)

field_of : (text : List ℕ) → Decision (Then (Word is_token_byte 58) Text) text → Decision FieldLine text
field_of text (begins t rest h) =
    let f : Field = record { name = t.0; raw = t.1.0; end = t.1.1 } in
    begins f rest (record { name = (h.1.0, h.1.1); raw = h.2.0 }, h.1.2 ∙ ap (λ m. t.0 ++ 58 ∷ m) h.2.1 ∙ sym (print_field-append f rest))
field_of text (lacks none) = lacks (λ f rest x. none (f.name, (f.raw, f.end)) rest (FieldLine_parts f text rest x))

pub field_decided : (text : List ℕ) → Decision FieldLine text
field_decided text = field_of text (both (Word is_token_byte 58) Text Name_deterministic (word_decided is_token_byte 58 colon_ends_token) text_decided text)

-- ---- sections

field_is_longer : (f : Field) (text rest : List ℕ) → FieldLine f text rest → length rest < length text
field_is_longer f text rest x =
    let l : length text ≡ length (f.name ++ 58 ∷ (f.raw ++ (print_end f.end ++ rest))) = ap length (x.1 ∙ print_field-append f rest) in
    let a : length (f.name ++ 58 ∷ (f.raw ++ (print_end f.end ++ rest))) ≡ length f.name + length (58 ∷ (f.raw ++ (print_end f.end ++ rest))) = length-append f.name (58 ∷ (f.raw ++ (print_end f.end ++ rest))) in
    let b : length (f.raw ++ (print_end f.end ++ rest)) ≡ length f.raw + length (print_end f.end ++ rest) = length-append f.raw (print_end f.end ++ rest) in
    let d : length (print_end f.end ++ rest) ≡ length (print_end f.end) + length rest = length-append (print_end f.end) rest in
    omega arith

first_line : (g : Field) (gs : List Field) (last : LineEnd) (text rest : List ℕ) → Section (g ∷ gs, last) text rest → FieldLine g text ((flat_map print_field gs ++ print_end last) ++ rest)
first_line g gs last text rest x = (
  All-head IsField g gs x.0,
  x.1 ∙ ap (λ (t : List ℕ). t ++ rest) (append_assoc (print_field g) (flat_map print_field gs) (print_end last)) ∙ append_assoc (print_field g) (flat_map print_field gs ++ print_end last) rest,
)

section_more : (text : List ℕ) (f : Field) (middle : List ℕ) → ((end : LineEnd) (rest : List ℕ) → Newline end text rest → ⊥) → FieldLine f text middle → Decision Section middle → Decision Section text
section_more text f middle none line (begins s rest h) =
    begins (f ∷ s.0, s.1) rest (
      All-cons IsField f s.0 line.0 h.0,
      line.1 ∙ ap (λ m. print_field f ++ m) h.1 ∙ sym (append_assoc (print_field f) (flat_map print_field s.0 ++ print_end s.1) rest)
          ∙ ap (λ (t : List ℕ). t ++ rest) (sym (append_assoc (print_field f) (flat_map print_field s.0) (print_end s.1))),
    )
section_more text f middle none line (lacks fails) = lacks (λ s rest x. refuse s.0 s.1 rest x)
  where
    refuse : (fields : List Field) (last : LineEnd) (rest : List ℕ) → Section (fields, last) text rest → ⊥
    refuse [] last rest x = none last rest x.1
    refuse (g ∷ gs) last rest x =
        let same = FieldLine_deterministic.unique g f text ((flat_map print_field gs ++ print_end last) ++ rest) middle (first_line g gs last text rest x) line in
        fails (gs, last) rest (All-tail IsField g gs x.0, sym same.1)

section_none : (text : List ℕ) → ((end : LineEnd) (rest : List ℕ) → Newline end text rest → ⊥) → ((f : Field) (rest : List ℕ) → FieldLine f text rest → ⊥) → Decision Section text
section_none text none no_line = lacks (λ s rest x. refuse s.0 s.1 rest x)
  where
    refuse : (fields : List Field) (last : LineEnd) (rest : List ℕ) → Section (fields, last) text rest → ⊥
    refuse [] last rest x = none last rest x.1
    refuse (g ∷ gs) last rest x = no_line g ((flat_map print_field gs ++ print_end last) ++ rest) (first_line g gs last text rest x)

section_within : (n : ℕ) (text : List ℕ) → length text ≤ n → Decision Newline text → Decision FieldLine text → Decision Section text
section_within n text fits (begins end rest h) line = begins ([], end) rest (All-nil IsField, h)
section_within n text fits (lacks none) (lacks no_line) = section_none text none no_line
section_within zero text fits (lacks none) (begins f middle h) = let less : length middle < length text = field_is_longer f text middle h in absurd (omega arith)
section_within (suc n) text fits (lacks none) (begins f middle h) =
    let less : length middle < length text = field_is_longer f text middle h in
    section_more text f middle none h (section_within n middle (omega arith) (newline_decided middle) (field_decided middle))

pub section_decided : (text : List ℕ) → Decision Section text
section_decided text = section_within (length text) text (omega arith) (newline_decided text) (field_decided text)

-- ---- a head

pub head_decided : (text : List ℕ) → Decision (Then RequestStart Section) text
head_decided text =
    let version_line = both Version Newline Version_deterministic version_decided newline_decided in
    let target_line = both Target (Then Version Newline) Target_deterministic target_decided version_line in
    let method_line = both Method (Then Target (Then Version Newline)) Method_deterministic (word_decided is_token_byte 32 space_ends_token) target_line in
    let start = both Blank (Then Method (Then Target (Then Version Newline))) Blank_deterministic blank_decided method_line in
    both RequestStart Section RequestStart_deterministic start section_decided text
