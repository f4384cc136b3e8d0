-- How the state, the count and the pending bytes of a hasher follow a message as it grows.
use Rattle.std.proofs.Common.{◌≡◌, ℕ, zero, suc, ◌+◌, ◌-◌, ◌*◌, ◌%◌, ◌^◌, ◌<◌, ◌≤◌, ◌≢◌, false, List, [], ◌++◌, length, take, drop, replicate, refl, sym, ap, ◌∙◌, arith, min, length-append, length-drop, add-one}
use Rattle.std.proofs.lemmas.List.{take-append-le, drop-append-le, take_all, length-replicate, drop-drop}
use Rattle.std.proofs.Math.Seq.{take-append-add, drop-append-add}
use Rattle.std.proofs.lemmas.Bool.{ne_eqb, eq-eqb}
use Rattle.blake2_hash.specs.Blake2b.{compress, block_at, count_at, last_block, state_after, initial_state}
use Rattle.blake2_hash.specs.Hashing.{Progress, HoldsFor, kept, taken, taken_blocks, last_state}

-- ---- the blocks of a message before its last

block_before : (m : List ℕ) (i : ℕ) → 128 * i + 128 ≤ length m → block_at m i ≡ take 128 (drop (128 * i) m)
block_before m i fits =
    let zeros : List ℕ = replicate (128 * (last_block (length m) + 1) - length m) 0 in
    rw (drop-append-le (128 * i) m zeros (omega arith))
    (take-append-le 128 (drop (128 * i) m) zeros (omega (arith, length-drop (128 * i) m)))

count_before : (m : List ℕ) (i : ℕ) → 128 * i + 128 ≤ length m → count_at m i ≡ (128 * i + 128) % 2 ^ 128
count_before m i fits =
    let e : min (128 * (i + 1)) (length m) ≡ 128 * i + 128 = omega arith in
    ap (λ (n : ℕ). n % 2 ^ 128) e

-- a block that is not the last
pub state_next : (n : ℕ) (m : List ℕ) (i : ℕ) → 128 * i + 128 < length m
    → state_after n m (i + 1) ≡ compress (state_after n m i) (take 128 (drop (128 * i) m)) ((128 * i + 128) % 2 ^ 128) false
unfolding state_after
state_next n m i more =
    let fits : 128 * i + 128 ≤ length m = omega arith in
    let differs : i ≢ last_block (length m) = omega arith in
    rw (add-one, block_before m i fits, count_before m i fits, ne_eqb i (last_block (length m)) differs) refl

pub state_start : (n : ℕ) (m : List ℕ) → state_after n m 0 ≡ initial_state n
unfolding state_after
state_start n m = refl

-- the state before the last block reads none of what comes after
pub state_after-append : (n : ℕ) (m d : List ℕ) (i : ℕ) → i ≤ last_block (length m) → state_after n (m ++ d) i ≡ state_after n m i
state_after-append n m d zero low = state_start n (m ++ d) ∙ sym (state_start n m)
state_after-append n m d (suc i) low =
    let more : 128 * i + 128 < length m = omega arith in
    let longer : 128 * i + 128 < length (m ++ d) = omega (arith, length-append m d) in
    let plus : suc i ≡ i + 1 = omega arith in
    let same : take 128 (drop (128 * i) (m ++ d)) ≡ take 128 (drop (128 * i) m) =
    rw (drop-append-le (128 * i) m d (omega arith))
    (take-append-le 128 (drop (128 * i) m) d (omega (arith, length-drop (128 * i) m))) in
    rw (plus, state_next n (m ++ d) i longer, state_next n m i more, same, state_after-append n m d i (omega arith)) refl

-- the last block is the pending bytes and zeros
pub state_last : (n : ℕ) (p : Progress) (m : List ℕ) → HoldsFor n p m → last_state p ≡ state_after n m (last_block (length m) + 1)
unfolding state_after
state_last n p m h =
    let q : ℕ = last_block (length m) in
    let len : length p.pending ≡ length m - 128 * q = ap length h.pending_is ∙ length-drop (128 * q) m in
    let zeros : List ℕ = replicate (128 * (q + 1) - length m) 0 in
    let room : 128 - length p.pending ≡ 128 * (q + 1) - length m = omega arith in
    let whole : length (drop (128 * q) m ++ zeros) ≤ 128 =
    omega (arith, length-append (drop (128 * q) m) zeros, length-drop (128 * q) m, length-replicate {A = ℕ} (128 * (q + 1) - length m) 0) in
    let block : p.pending ++ replicate (128 - length p.pending) 0 ≡ block_at m q =
    rw (room, h.pending_is, drop-append-le (128 * q) m zeros (omega arith)) (sym (take_all 128 (drop (128 * q) m ++ zeros) whole)) in
    let count : (p.count + length p.pending) % 2 ^ 128 ≡ count_at m q = omega (arith, h.count_is) in
    rw (add-one, block, count, h.state_is, eq-eqb q q refl) refl

-- ---- pieces

-- p has taken in the first i blocks of the message m, none of which is its last
pub record Reaches (n : ℕ) (p : Progress) (m : List ℕ) (i : ℕ) : Type 0 where
  pub state_is : p.state ≡ state_after n m i
  pub count_is : p.count ≡ 128 * i % 2 ^ 128

pub Reaches_next : (n : ℕ) (p : Progress) (m block : List ℕ) (i j : ℕ) → Reaches n p m i → 128 * i + 128 < length m
    → block ≡ take 128 (drop (128 * i) m) → j ≡ i + 1 → Reaches n (taken p block) m j
Reaches_next n p m block i j r more e ej =
    let count : (p.count + 128) % 2 ^ 128 ≡ (128 * i + 128) % 2 ^ 128 = omega (arith, r.count_is) in
    record {
      state_is = rw (ej, state_next n m i more, count, r.state_is, e) refl;
      count_is = rw ej (omega (arith, count));
    }

-- the blocks of the bytes that follow the first i blocks of the message
pub Reaches_blocks : (n : ℕ) (p : Progress) (m bytes : List ℕ) (i k : ℕ) → Reaches n p m i → bytes ≡ drop (128 * i) m
    → k ≤ last_block (length bytes) → Reaches n (taken_blocks p bytes k) m (i + k)
unfolding taken_blocks
Reaches_blocks n p m bytes i zero r e low =
    let none : i + 0 ≡ i = omega arith in
    rw none r
Reaches_blocks n p m bytes i (suc k) r e low =
    let len : length bytes ≡ length m - 128 * i = ap length e ∙ length-drop (128 * i) m in
    let at : 128 * i + 128 * k ≡ 128 * (i + k) = omega arith in
    let same : take 128 (drop (128 * k) bytes) ≡ take 128 (drop (128 * (i + k)) m) =
    rw (e, drop-drop (128 * k) (128 * i) m, at) refl in
    Reaches_next n (taken_blocks p bytes k) m (take 128 (drop (128 * k) bytes)) (i + k) (i + suc k)
    (Reaches_blocks n p m bytes i k r e (omega arith)) (omega arith) same (omega arith)

-- bytes for which there is room
pub HoldsFor_kept : (n : ℕ) (p : Progress) (m d : List ℕ) → HoldsFor n p m → length p.pending + length d ≤ 128 → HoldsFor n (kept p d) (m ++ d)
HoldsFor_kept n p m d h room =
    let q : ℕ = last_block (length m) in
    let len : length p.pending ≡ length m - 128 * q = ap length h.pending_is ∙ length-drop (128 * q) m in
    let same : last_block (length (m ++ d)) ≡ q = omega (arith, length-append m d) in
    record {
      state_is = rw (same, state_after-append n m d q (omega arith)) h.state_is;
      count_is = rw same h.count_is;
      pending_is = rw (same, drop-append-le (128 * q) m d (omega arith), ← h.pending_is) refl;
    }

-- no block leaves bytes pending
pub pending_none : (p : Progress) (bytes : List ℕ) (k : ℕ) → p.pending ≡ [] → (taken_blocks p bytes k).pending ≡ []
unfolding taken_blocks
pending_none p bytes zero none = none
pending_none p bytes (suc k) none = refl

-- the rest of the message, past i blocks
pub HoldsFor_rest : (n : ℕ) (p : Progress) (m bytes : List ℕ) (i : ℕ) → Reaches n p m i → bytes ≡ drop (128 * i) m → 0 < length bytes
    → p.pending ≡ [] → HoldsFor n (kept (taken_blocks p bytes (last_block (length bytes))) (drop (128 * last_block (length bytes)) bytes)) m
HoldsFor_rest n p m bytes i r e more none =
    let k : ℕ = last_block (length bytes) in
    let len : length bytes ≡ length m - 128 * i = ap length e ∙ length-drop (128 * i) m in
    let last : last_block (length m) ≡ i + k = omega arith in
    let at : 128 * i + 128 * k ≡ 128 * (i + k) = omega arith in
    let tail : drop (128 * k) bytes ≡ drop (128 * (i + k)) m =
    ap (λ (xs : List ℕ). drop (128 * k) xs) e ∙ drop-drop (128 * k) (128 * i) m ∙ ap (λ (j : ℕ). drop j m) at in
    let end : Reaches n (taken_blocks p bytes k) m (i + k) = Reaches_blocks n p m bytes i k r e (omega arith) in
    record {
      state_is = rw last end.state_is;
      count_is = rw last end.count_is;
      pending_is = rw (last, pending_none p bytes k none) tail;
    }

-- more bytes than the buffer holds, where nothing is pending: the message is empty
pub HoldsFor_first : (n : ℕ) (p : Progress) (m d : List ℕ) → HoldsFor n p m → p.pending ≡ [] → 0 < length d
    → HoldsFor n (kept (taken_blocks p d (last_block (length d))) (drop (128 * last_block (length d)) d)) (m ++ d)
HoldsFor_first n p m d h none more =
    let q : ℕ = last_block (length m) in
    let len : 0 ≡ length m - 128 * q = ap length (sym none ∙ h.pending_is) ∙ length-drop (128 * q) m in
    let first : q ≡ 0 = omega arith in
    let empty : m ≡ [] = sym (ap (λ (k : ℕ). drop (128 * k) m) first) ∙ sym h.pending_is ∙ none in
    let start : p.state ≡ initial_state n = h.state_is ∙ ap (state_after n m) first ∙ state_start n m in
    let reached : Reaches n p (m ++ d) 0 = record {
      state_is = start ∙ sym (state_start n (m ++ d));
      count_is = omega (arith, h.count_is);
    } in
    let rest : d ≡ drop (128 * 0) (m ++ d) = rw empty refl in
    HoldsFor_rest n p (m ++ d) d 0 reached rest more none

-- more bytes than the buffer holds, where some are pending: the first of them fill it up
pub HoldsFor_filled : (n : ℕ) (p : Progress) (m d : List ℕ) (room : ℕ) → HoldsFor n p m → room + length p.pending ≡ 128 → 0 < length p.pending
    → room < length d
    → (let rest = drop room d in let full = p.pending ++ take room d in
    HoldsFor n (kept (taken_blocks (taken p full) rest (last_block (length rest))) (drop (128 * last_block (length rest)) rest)) (m ++ d))
HoldsFor_filled n p m d room h fills some more =
    let q : ℕ = last_block (length m) in
    let full : List ℕ = p.pending ++ take room d in
    let len : length p.pending ≡ length m - 128 * q = ap length h.pending_is ∙ length-drop (128 * q) m in
    let longer : length (m ++ d) ≡ length m + length d = length-append m d in
    let width : 128 ≡ length p.pending + room = omega arith in
    let after : drop (128 * q) (m ++ d) ≡ p.pending ++ d = rw (drop-append-le (128 * q) m d (omega arith), ← h.pending_is) refl in
    let block : full ≡ take 128 (drop (128 * q) (m ++ d)) = rw (after, width, take-append-add p.pending d room) refl in
    let reached : Reaches n p (m ++ d) q = record {
      state_is = rw (state_after-append n m d q (omega arith)) h.state_is;
      count_is = h.count_is;
    } in
    let next : Reaches n (taken p full) (m ++ d) (q + 1) = Reaches_next n p (m ++ d) full q (q + 1) reached (omega arith) block refl in
    let at : 128 * (q + 1) ≡ length m + room = omega arith in
    let rest : drop room d ≡ drop (128 * (q + 1)) (m ++ d) = rw at (sym (drop-append-add m d room)) in
    HoldsFor_rest n (taken p full) (m ++ d) (drop room d) (q + 1) next rest (omega (arith, length-drop room d)) refl

-- one more block of the bytes
pub taken_blocks_more : (start : Progress) (bytes block : List ℕ) (i : ℕ) → block ≡ take 128 (drop (128 * i) bytes)
    → taken_blocks start bytes (i + 1) ≡ taken (taken_blocks start bytes i) block
unfolding taken_blocks
taken_blocks_more start bytes block i e = rw (add-one, e) refl

pub taken_blocks_start : (start : Progress) (bytes : List ℕ) → taken_blocks start bytes 0 ≡ start
unfolding taken_blocks
taken_blocks_start start bytes = refl
