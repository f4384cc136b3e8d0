-- How a request is served whose body was looked for.
use Rattle.std.proofs.Common.{◌≡◌, ℕ, ◌+◌, ◌<◌, List, [], ◌∷◌, ◌++◌, nat_le, refl, sym, ◌∙◌, ap, arith, length, length-append, take, drop}
use Rattle.std.proofs.lemmas.Bool.{le-leb, lt-leb, cond-true, cond-false}
use Rattle.std.proofs.Math.Seq.{drop-append_seam}
use Rattle.std.proofs.lemmas.List.{take-append-le}
use Rattle.lab_outside.specs.Connection.{Connection}
use Rattle.http_wire.specs.Reading.{Takes, Fails, IsBody}
use Rattle.s3_model.specs.declared.fault.Code.TheVariants.{IncompleteBody}
use Rattle.serve_model.specs.declared.buckets.Buckets.{Buckets}
use Rattle.serve_model.specs.declared.answer.Answer.TheVariants.{Refusal}
use Rattle.serve_model.specs.declared.request.Request.{Request}
use Rattle.serve_model.specs.Stores.{Store}
use Rattle.serve_model.specs.Talk.{Serving, passing, answer_turn, whole_turn, body_turn}
use Rattle.serve_loop.specs.Taking.{IsQuiet, IsFailed}

all_taken : (xs : List ℕ) → take (length xs) xs ≡ xs
all_taken [] = refl
all_taken (x ∷ xs) = ap (λ ys. x ∷ ys) (all_taken xs)

pub front_is : (all body rest : List ℕ) (size : ℕ) → all ≡ body ++ rest → length body ≡ size → take size all ≡ body
front_is all body rest size e n =
    ap (λ k. take k all) (sym n) ∙ ap (take (length body)) e ∙ take-append-le (length body) body rest (omega arith) ∙ all_taken body

pub rest_is : (all body rest : List ℕ) (size : ℕ) → all ≡ body ++ rest → length body ≡ size → drop size all ≡ rest
rest_is all body rest size e n = ap (λ k. drop k all) (sym n) ∙ ap (drop (length body)) e ∙ drop-append_seam body rest

module _ {S : Type 0} (store : Store S) (buckets : Buckets) (r : Request) (p : Serving S) where
  pub whole_body : (all body rest : List ℕ) → IsBody all r.length body rest → body_turn store buckets r p all ≡ passing p (whole_turn store buckets r body p rest)
  unfolding body_turn
  whole_body all body rest is =
      let len : length all ≡ length body + length rest = ap length is.whole ∙ length-append body rest in
      ap (passing p)
      (cond-true (nat_le r.length (length all)) (whole_turn store buckets r (take r.length all) p (drop r.length all)) (answer_turn r (Refusal IncompleteBody) p all) (le-leb r.length (length all) (omega (arith, is.size_is)))
      ∙ ap (λ b. whole_turn store buckets r b p (drop r.length all)) (front_is all body rest r.length is.whole is.size_is)
      ∙ ap (λ x. whole_turn store buckets r body p x) (rest_is all body rest r.length is.whole is.size_is))

  pub short_body : (all rest : List ℕ) → (length all < r.length) × (rest ≡ all) → body_turn store buckets r p all ≡ passing p (answer_turn r (Refusal IncompleteBody) p rest)
  unfolding body_turn
  short_body all rest h =
      ap (passing p)
      (cond-false (nat_le r.length (length all)) (whole_turn store buckets r (take r.length all) p (drop r.length all)) (answer_turn r (Refusal IncompleteBody) p all) (lt-leb r.length (length all) h.0)
      ∙ ap (answer_turn r (Refusal IncompleteBody) p) (sym h.1))

pub takes_quiet : (kept seen : List ℕ) (c d : Connection) → Takes kept seen c d → IsQuiet c d
takes_quiet kept seen c d t = record { unwritten = t.unwritten; steady = t.steady }

pub fails_failed : (kept seen : List ℕ) (c d : Connection) → Fails kept seen c d → IsFailed c d
fails_failed kept seen c d h = record { unwritten = h.0.unwritten; rose = h.1; counted = h.2 }
