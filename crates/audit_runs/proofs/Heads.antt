-- What the two lines say with which an apply tells its layout.
use Rattle.std.proofs.Common.{◌≡◌, ◌<◌, ◌^◌, ℕ, true, false, Some, None, List, [], ◌∷◌, length, refl, sym, ap, ◌∙◌, arith, bytes_eq}
use Rattle.std.specs.Prelude.{codes, decimal}
use Rattle.std.proofs.lemmas.List.Splits.{slice_split_none, slice_split_at}
use Rattle.cluster_machine.specs.declared.step.Words.TheVariants.{Empty, One, Idle, Two}
use Rattle.store_model.specs.declared.event.Numbered.{Numbered}
use Rattle.text_model.specs.Grammar.{name_of, first_word}
use Rattle.text_model.specs.Words.{is_space, words_in}
use Rattle.text_model.specs.Reading.{number_in}
use Rattle.audit_model.specs.declared.said.Told.{Told}
use Rattle.audit_model.specs.declared.said.Told.TheVariants.{Accepted, Refused}
use Rattle.audit_model.specs.declared.said.Said.{Said}
use Rattle.audit_model.specs.declared.said.Said.TheVariants as said
use Rattle.audit_model.specs.Lines.{words_of, told_words, Says}
use Rattle.audit_model.specs.Reading.{said_in}
use Rattle.audit_model.proofs.Read.{said_back}
use Rattle.audit_model.proofs.Unique.{words_read}
use Rattle.audit_runs.specs.First.{ok_line, size_words}
use Rattle.audit_runs.proofs.Lines.{decimal_free}
use Rattle.audit_runs.proofs.Texts.{SayAll, own_says, one_words, no_spaces, behind_first}

-- what says these words is a size
size_said : (size : ℕ) (s : Said) → Says (size_words size) s → (n : ℕ) × (s ≡ said.Size n)
size_said size s says =
    let spelled : words_in (size_words size) ≡ codes "size" ∷ decimal size ∷ [] =
    slice_split_at (λ b. is_space b) (codes "size") 32 (decimal size) (no_spaces (codes "size") refl) refl
    ∙ ap (λ ws. codes "size" ∷ ws) (slice_split_none (λ b. is_space b) (decimal size) (no_spaces (decimal size) (decimal_free 32 size (omega arith)))) in
    let are : words_of s ≡ codes "size" ∷ decimal size ∷ [] = sym (words_read s says.in_range) ∙ (ap words_in (sym says.spelled) ∙ spelled) in
    let some : Some s ≡ Some (said.Size (number_in (decimal size))) = sym (said_back s says.in_range) ∙ ap said_in are in
    let same : s ≡ said.Size (number_in (decimal size)) = cc in
    (number_in (decimal size), same)

-- what says `ok` and a number
one_told : (told : Told) (n : ℕ) → told_words told ≡ codes "ok" ∷ decimal n ∷ [] → (m : ℕ) × (told ≡ Accepted (One m))
one_told (Accepted Empty) n is = absurd (let no : 1 ≡ 2 = ap length is in omega (arith, no))
one_told (Accepted (One m)) n is = (m, refl)
one_told (Accepted (Idle a b)) n is = absurd (let no : 4 ≡ 2 = ap length is in omega (arith, no))
one_told (Accepted (Two a b)) n is = absurd (let no : 3 ≡ 2 = ap length is in omega (arith, no))
one_told (Refused refusal) n is = absurd (let no : bytes_eq (first_word (told_words (Refused refusal))) (codes "ok") ≡ true = ap (λ x. bytes_eq (first_word x) (codes "ok")) is in let is_false : false ≡ true = no in cc)

accepted_said : (e : Numbered) (n : ℕ) (s : Said) → e.line < 2 ^ 64 → Says (ok_line e n) s → (m : ℕ) × (s ≡ said.Event e.line (name_of e.event) (Accepted (One m)))
accepted_said e n s small says =
    let own = own_says e None (One n) s small says in
    let told : Told = own.0 in
    let are : words_of s ≡ decimal e.line ∷ name_of e.event ∷ codes "ok" ∷ decimal n ∷ [] = sym (words_read s says.in_range) ∙ (ap words_in (sym says.spelled) ∙ one_words e n) in
    let rest : told_words told ≡ codes "ok" ∷ decimal n ∷ [] = ap (λ ws. behind_first (behind_first ws)) (ap words_of (sym own.1.0) ∙ are) in
    let one = one_told told n rest in
    (one.0, own.1.0 ∙ ap (λ x. said.Event e.line (name_of e.event) x) one.1)

-- what these lines say: that the event was accepted with a number, and a size
pub record SaysLayout (e : Numbered) (saids : List Said) : Type 0 where
  pub one : ℕ
  pub two : ℕ
  pub more : List Said
  pub saids_are : saids ≡ said.Event e.line (name_of e.event) (Accepted (One one)) ∷ said.Size two ∷ more

pub two_said : (e : Numbered) (n size : ℕ) (lines : List (List ℕ)) (saids : List Said) → e.line < 2 ^ 64 → SayAll (ok_line e n ∷ size_words size ∷ lines) saids → SaysLayout e saids
two_said e n size lines [] small h = absurd h
two_said e n size lines (s ∷ []) small h = absurd h.1
two_said e n size lines (s ∷ t ∷ saids) small h =
    let first = accepted_said e n s small h.0 in
    let second = size_said size t h.1.0 in
    record { one = first.0; two = second.0; more = saids; saids_are = (λ i. first.1 i ∷ second.1 i ∷ saids) }
