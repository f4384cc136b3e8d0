-- Bytes cut into blocks.
use Rattle.std.proofs.Common.{◌≡◌, ℕ, zero, suc, ◌+◌, ◌*◌, ◌≤◌, nat_lt, true, false, List, ◌++◌, take, drop, length, refl, ap, sym, ◌∙◌, arith}
use Rattle.std.proofs.Math.Seq.{take-add}
use Rattle.std.proofs.lemmas.List.{drop-drop, take_all}
use Rattle.flow_model.specs.Blocks.{piece, has_piece, is_long}
use Rattle.flow_laws.specs.Pieces.{pieces}

-- so many blocks are so many bytes
pub cut : (block : ℕ) (body : List ℕ) (i n : ℕ) → pieces block body i n ≡ take (n * block) (drop (i * block) body)
cut block body i zero =
    let none : zero * block ≡ zero = omega arith in
    rw none refl
cut block body i (suc n) =
    let more : suc n * block ≡ block + n * block = omega arith in
    let on : suc i * block ≡ i * block + block = omega arith in
    ap (piece block body i ++◌) (cut block body (suc i) n ∙ (ap (λ k. take (n * block) (drop k body)) on ∙ ap (take (n * block)) (sym (drop-drop block (i * block) body))))
    ∙ (sym (take-add block (n * block) (drop (i * block) body)) ∙ ap (λ k. take k (drop (i * block) body)) (sym more))

pub not_less : (a b : ℕ) → nat_lt a b ≡ false → b ≤ a
not_less a b differ = grind arith

-- where there are no more blocks, they are the bytes
pub all : (block : ℕ) (body : List ℕ) (n : ℕ) → has_piece block body n ≡ false → pieces block body 0 n ≡ body
all block body n end =
    let none : 0 * block ≡ 0 = omega arith in
    let enough : length body ≤ n * block = not_less (n * block) (length body) end in
    cut block body 0 n ∙ (ap (λ k. take (n * block) (drop k body)) none ∙ take_all (n * block) body enough)

-- long bytes have a first block
pub has_first : (block : ℕ) (body : List ℕ) → is_long body ≡ true → has_piece block body 0 ≡ true
has_first block body long =
    let none : 0 * block ≡ 0 = omega arith in
    rw none (grind arith)
