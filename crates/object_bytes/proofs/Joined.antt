-- Bytes that came at once, blocks after them, and the bytes that they are.
use Rattle.std.proofs.Common.{◌≡◌, ◌+◌, ◌<◌, ◌≤◌, ℕ, List, [], ◌∷◌, ◌++◌, length, take, drop, get_or, refl, sym, ap, ◌∙◌, arith}
use Rattle.std.specs.List.{concat}
use Rattle.std.proofs.lemmas.List.{append-nil, append_assoc, take_more, take-append-drop, length-append}
use Rattle.std.proofs.lemmas.List.Folds.{concat-append}

-- one block more
pub joined_more : (whole : List ℕ) (blocks : List (List ℕ)) (block : List ℕ) → whole ++ concat (blocks ++ block ∷ []) ≡ (whole ++ concat blocks) ++ block
joined_more whole blocks block = rw (concat-append, append-nil, append_assoc) refl

-- the blocks so far, and the next one
pub joined_next : (whole : List ℕ) (blocks : List (List ℕ)) (i : ℕ) (block default : List ℕ) → i < length blocks → block ≡ get_or blocks i default → (whole ++ concat (take i blocks)) ++ block ≡ whole ++ concat (take (i + 1) blocks)
joined_next whole blocks i block default within is = rw (take_more blocks i default within, concat-append, append-nil, append_assoc, is) refl

-- how many bytes there are with one block more
pub size_more : (whole : List ℕ) (blocks : List (List ℕ)) (block : List ℕ) (size : ℕ) → size ≡ length (whole ++ concat blocks) → size + length block ≡ length (whole ++ concat (blocks ++ block ∷ []))
size_more whole blocks block size is = rw (is, joined_more whole blocks block, length-append (whole ++ concat blocks) block) refl

-- how many bytes the blocks so far have with the next one
pub size_next : (blocks : List (List ℕ)) (i : ℕ) (block default : List ℕ) → i < length blocks → block ≡ get_or blocks i default → length (concat (take i blocks)) + length block ≡ length (concat (take (i + 1) blocks))
size_next blocks i block default within is = sym (length-append (concat (take i blocks)) block) ∙ ap length (joined_next [] blocks i block default within is)

-- some of the blocks have no more bytes than all
pub size_within : (blocks : List (List ℕ)) (n : ℕ) → length (concat (take n blocks)) ≤ length (concat blocks)
size_within blocks n =
    let parts : concat (take n blocks) ++ concat (drop n blocks) ≡ concat blocks = sym (concat-append (take n blocks) (drop n blocks)) ∙ ap concat (take-append-drop n blocks) in
    let sum = length-append (concat (take n blocks)) (concat (drop n blocks)) in
    let same = ap length parts in
    omega arith
