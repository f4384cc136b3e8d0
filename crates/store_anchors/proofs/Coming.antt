-- The blocks of bytes that came, and of these with one block more.
use Rattle.std.specs.Prelude.{◌≡◌, ◌<◌, ◌≤◌, ◌*◌, ◌+◌, nat_lt, ℕ, suc, true, false, List, [], ◌++◌, length, take, drop, refl}
use Rattle.std.proofs.Common.{ap, sym, ◌∙◌, le_refl, arith}
use Rattle.std.proofs.lemmas.Bool.{lt-ltb, le-ltb, ltb-true, ltb-false}
use Rattle.std.proofs.lemmas.Nat.{mul-le}
use Rattle.std.proofs.lemmas.List.{length-append, drop-append-le, take-append-le, length-drop, take_all}
use Rattle.std.proofs.Math.Seq.{drop-append_seam}
use Rattle.flow_model.specs.Blocks.{piece, has_piece}
use Rattle.flow_model.specs.Rows.{version_row, version_row_at}

-- so many whole blocks came, and one more does
module _ (block : ℕ) (received bytes : List ℕ) (k : ℕ) (size : length received ≡ k * block) (some : 1 ≤ length bytes) (few : length bytes ≤ block) where
  abbrev pub both : List ℕ
  both = received ++ bytes

  pub many : length both ≡ k * block + length bytes
  many = length-append received bytes ∙ ap (λ n. n + length bytes) size

  -- a block that came is one of so many
  before : (i : ℕ) → i * block < k * block → i < k
  before i low = elim (nat_lt i k) as (λ b. nat_lt i k ≡ b → i < k) [
    | true ↦ λ t. ltb-true i k t
    | false ↦ λ f.
        let high : k ≤ i = ltb-false i k f in
        let grow : k * block ≤ i * block = mul-le k block i block high (le_refl block) in
        absurd (omega (arith, low, grow))
  ] refl

  pub came : (i : ℕ) → has_piece block received i ≡ true → i < k
  came i has = before i (let low : i * block < length received = ltb-true (i * block) (length received) has in omega (arith, low, size))

  -- of so many each came
  pub each_came : (i : ℕ) → i < k → has_piece block received i ≡ true
  each_came i low =
      let grow : suc i * block ≤ k * block = mul-le (suc i) block k block (omega (arith, low)) (le_refl block) in
      let step : suc i * block ≡ i * block + block = omega arith in
      lt-ltb (i * block) (length received) (omega (arith, grow, step, size, some, few))

  -- a block that came is where it was
  pub piece_old : (i : ℕ) → i < k → piece block both i ≡ piece block received i
  piece_old i low =
      let grow : suc i * block ≤ k * block = mul-le (suc i) block k block (omega (arith, low)) (le_refl block) in
      let step : suc i * block ≡ i * block + block = omega arith in
      let within : i * block ≤ length received = omega (arith, grow, step, size) in
      let left = length-drop (i * block) received in
      ap (take block) (drop-append-le (i * block) received bytes within) ∙ take-append-le block (drop (i * block) received) bytes (omega (arith, grow, step, size, left))

  -- and the new one is the next
  pub piece_new : piece block both k ≡ bytes
  piece_new = ap (λ n. take block (drop n both)) (sym size) ∙ (ap (take block) (drop-append_seam received bytes) ∙ take_all block bytes few)

  pub has_new : has_piece block both k ≡ true
  has_new = lt-ltb (k * block) (length both) (let n = many in omega (arith, n, some))

  pub has_old : (i : ℕ) → has_piece block received i ≡ true → has_piece block both i ≡ true
  has_old i has =
      let low : i * block < length received = ltb-true (i * block) (length received) has in
      let n = many in
      lt-ltb (i * block) (length both) (omega (arith, low, n, size))

  -- a block before the last one is an old one
  pub before_last : (i : ℕ) → has_piece block both (suc i) ≡ true → i < k
  before_last i has =
      let low : suc i * block < length both = ltb-true (suc i * block) (length both) has in
      let n = many in
      let step : suc i * block ≡ i * block + block = omega arith in
      before i (omega (arith, low, n, step, few))

  -- and the last one is the new one
  pub last_new : (i : ℕ) → has_piece block both i ≡ true → has_piece block both (suc i) ≡ false → i ≡ k
  last_new i has no_more =
      let low : i * block < length both = ltb-true (i * block) (length both) has in
      let high : length both ≤ suc i * block = ltb-false (suc i * block) (length both) no_more in
      let n = many in
      let step : suc i * block ≡ i * block + block = omega arith in
      let next : suc k * block ≡ k * block + block = omega arith in
      let at_most : i ≤ k = (let lt : i < suc k = elim (nat_lt i (suc k)) as (λ b. nat_lt i (suc k) ≡ b → i < suc k) [
        | true ↦ λ t. ltb-true i (suc k) t
        | false ↦ λ f.
            let over : suc k ≤ i = ltb-false i (suc k) f in
            let grow : suc k * block ≤ i * block = mul-le (suc k) block i block over (le_refl block) in
            absurd (omega (arith, low, n, next, grow, few))
      ] refl in omega (arith, lt)) in
      let at_least : k ≤ i = elim (nat_lt i k) as (λ b. nat_lt i k ≡ b → k ≤ i) [
        | true ↦ λ t.
            let lt : i < k = ltb-true i k t in
            let grow : suc i * block ≤ k * block = mul-le (suc i) block k block (omega (arith, lt)) (le_refl block) in
            absurd (omega (arith, high, n, grow, some))
        | false ↦ λ f. ltb-false i k f
      ] refl in
      omega (arith, at_most, at_least)

  -- the rows of old blocks, and of the new one
  pub row_old : (id i : ℕ) → has_piece block received i ≡ true → (has_piece block both i ≡ true) × (version_row id block received i ≡ version_row id block both i)
  row_old id i has = (has_old i has, ap (version_row_at id (i * block)) (sym (piece_old i (came i has))))

  pub row_new : (id : ℕ) → (i : ℕ) × (has_piece block both i ≡ true) × (version_row_at id (length received) bytes ≡ version_row id block both i)
  row_new id = (k, has_new, ap (λ n. version_row_at id n bytes) size ∙ ap (version_row_at id (k * block)) (sym piece_new))

  -- there is an end of them
  pub ends : has_piece block both (length both) ≡ false
  ends =
      let n = many in
      let wide : 1 ≤ block = omega (arith, some, few) in
      let grow : length both * 1 ≤ length both * block = mul-le (length both) 1 (length both) block (le_refl (length both)) wide in
      let one : length both * 1 ≡ length both = omega arith in
      le-ltb (length both * block) (length both) (omega (arith, grow, one))

-- of no bytes there is none
pub none_there : (block i : ℕ) → has_piece block [] i ≡ false
none_there block i = le-ltb (i * block) 0 (omega arith)
