-- The blocks of uploads.
use Rattle.std.proofs.Common.{◌≡◌, ◌≤◌, ◌<◌, inl, inr, ℕ, ◌+◌, ◌-◌, ◌*◌, List, ◌++◌, length, take, drop, take_all, length-append, length-take, length-drop, sym, ap, ◌∙◌, subst, arith}
use Rattle.std.proofs.lemmas.Bool.{cases_lt, ltb-true, lt-ltb}
use Rattle.std.proofs.lemmas.List.{take-append-le, drop-append-le}
use Rattle.std.proofs.Math.Seq.{take-append-add}
use Rattle.flow_model.specs.Blocks.{piece, has_piece}
use Rattle.serve_model.specs.Stores.{Upload, Job, carry, keep, leave, Asking, IsLeftOf, IsLeftFor}
use Rattle.serve_model.specs.Plain.{Plain, IsPiece, IsPieceOf, PutsPiece, PutsBlock}

-- all bytes of an upload came: its blocks are those into which they are cut
module _ (block : ℕ) (u : Upload) (came bytes : List ℕ) (all : length came ≡ u.length) where
  all_taken : take u.length came ≡ came
  all_taken = take_all u.length came (omega (arith, all))

  pub piece_of_kept : IsPiece block came bytes → IsPieceOf block u came bytes
  piece_of_kept (i, long, there, is) = record {
    place = i;
    there = ap (λ taken. has_piece block taken i) all_taken ∙ there;
    whole = inr (omega (arith, all));
    bytes_are = is ∙ ap (λ taken. piece block taken i) (sym all_taken);
  }

-- what came whole is still there when more came
module _ (block : ℕ) (u : Upload) (came rest bytes : List ℕ) (h : IsPieceOf block u came bytes) where
  -- all had come that was announced
  with_all : u.length ≤ length came → IsPieceOf block u (came ++ rest) bytes
  with_all all =
      let same : take u.length (came ++ rest) ≡ take u.length came = take-append-le u.length came rest all in
      let more = length-append came rest in
      record {
        place = h.place;
        there = ap (λ taken. has_piece block taken h.place) same ∙ h.there;
        whole = inr (omega (arith, all, more));
        bytes_are = h.bytes_are ∙ ap (λ taken. piece block taken h.place) (sym same);
      }

  -- less had come
  with_less : length came < u.length → length bytes ≡ block → IsPieceOf block u (came ++ rest) bytes
  with_less less size =
      let start : ℕ = h.place * block in
      let more : List ℕ = take (u.length - length came) rest in
      let taken : take u.length came ≡ came = take_all u.length came (omega (arith, less)) in
      let later : take u.length (came ++ rest) ≡ came ++ more = ap (λ n. take n (came ++ rest)) (let n : u.length ≡ length came + (u.length - length came) = omega (arith, less) in n) ∙ take-append-add came rest (u.length - length came) in
      let within : start < length came = ltb-true start (length came) (ap (λ taken. has_piece block taken h.place) (sym taken) ∙ h.there) in
      let bytes_are : bytes ≡ take block (drop start came) = h.bytes_are ∙ ap (λ taken. piece block taken h.place) taken in
      let left = length-drop start came in
      let cut = length-take block (drop start came) in
      let as_long = ap length bytes_are in
      let whole : block ≤ length (drop start came) = omega (arith, size, as_long, cut) in
      let longer = length-append came more in
      record {
        place = h.place;
        there = ap (λ taken. has_piece block taken h.place) later ∙ lt-ltb start (length (came ++ more)) (omega (arith, within, longer));
        whole = inl size;
        bytes_are = bytes_are ∙ sym (ap (λ taken. piece block taken h.place) later ∙ (ap (take block) (drop-append-le start came more (omega (arith, within))) ∙ take-append-le block (drop start came) more whole));
      }

  piece_later : IsPieceOf block u (came ++ rest) bytes
  piece_later = elim (cases_lt (length came) u.length) [
    | inl less ↦ elim h.whole [ inl size ↦ with_less less size | inr all ↦ absurd (omega (arith, less, all)) ]
    | inr all ↦ with_all all
  ]

job_later : (block : ℕ) (first second : Job) (bytes : List ℕ) → IsLeftOf first second → PutsPiece block first bytes → PutsPiece block second bytes
job_later block (leave u came) (keep v all) bytes (same, (rest, is)) h =
    subst (λ (v : Upload). IsPieceOf block v all bytes) same (subst (λ (all : List ℕ). IsPieceOf block u all bytes) is (piece_later block u came rest bytes h))
job_later block (leave u came) (leave v all) bytes (same, (rest, is)) h =
    subst (λ (v : Upload). IsPieceOf block v all bytes) same (subst (λ (all : List ℕ). IsPieceOf block u all bytes) is (piece_later block u came rest bytes h))
job_later block (leave u came) (carry o) bytes is h = absurd is
job_later block (carry o) second bytes is h = absurd is
job_later block (keep u came) second bytes is h = absurd is

-- an upload that is given up earlier puts no other blocks
pub left_puts : (bytes : List ℕ) (a b : Asking Plain) → IsLeftFor a b → PutsBlock bytes a → PutsBlock bytes b
left_puts bytes a b (state, time, left) h = subst (λ (P : Plain). PutsPiece P.block b.job bytes) state (job_later a.state.block a.job b.job bytes left h)
