-- The acts of uploads come block by block, whatever comes of a last part of a block.
use Rattle.std.proofs.Common.{◌≡◌, ◌⊎◌, ◌≤◌, inl, inr, ℕ, zero, suc, ◌+◌, ◌==◌, Bool, true, false, ◌||◌, nat_lt, if◌then◌else◌, Option, Some, None, List, [], ◌∷◌, ◌++◌, length, take, drop, length-append, length-drop, append_assoc, append-nil, refl, sym, ap, ◌∙◌, subst, arith, eq-eqb, ne_eqb}
use Rattle.std.specs.List.{concat}
use Rattle.std.proofs.lemmas.Bool.{lt-ltb, le-ltb}
use Rattle.std.proofs.lemmas.List.Folds.{concat-append}
use Rattle.std.proofs.Math.Seq.{take-append_seam, drop-append_seam}
use Rattle.flow_model.specs.declared.order.Order.{Order}
use Rattle.flow_model.specs.declared.order.Order.TheVariants as order
use Rattle.store_model.specs.Run.{State, need_at}
use Rattle.store_model.specs.Acts.{Act, keeps, after_acts}
use Rattle.serve_model.specs.Stores.{Upload, Job, carry, keep, leave}
use Rattle.serve_model.specs.Clusters.{delivered, fed_block, fed_acts, decided, received_acts, streamed, IsWhole, order_acts, carried_acts}
use Rattle.serve_model.specs.Uploads.{IsPart, IsLeft, acts_of_blocks, AreNeeded}

-- ---- orders

-- an order that is whole is carried out once all messages are delivered
pub whole_acts : (s : State) (q : ℕ) (o : Order) → IsWhole o → order_acts s q o ≡ delivered
whole_acts s q (order.Stream bucket key announced headers) is = absurd is
whole_acts s q (order.Put bucket key body headers) is = refl
whole_acts s q (order.Get bucket key) is = refl
whole_acts s q (order.Head bucket key) is = refl
whole_acts s q (order.Delete bucket key) is = refl
whole_acts s q (order.Copy from_bucket from_key bucket key headers) is = refl
whole_acts s q (order.List bucket prefix) is = refl

-- ---- bytes come

or_right : (a b : Bool) → b ≡ true → (a || b) ≡ true
or_right true b h = refl
or_right false b h = h

none_either : (a b : Bool) → a ≡ false → b ≡ false → (a || b) ≡ false
none_either true b h k = h
none_either false b h k = k

short_part : (size : ℕ) (part : List ℕ) → IsPart (Some size) part → (size == 0 || nat_lt (length part) size) ≡ true
short_part zero part h = refl
short_part (suc size) part (inl none) = or_right (suc size == 0) (nat_lt (length part) (suc size)) (lt-ltb (length part) (suc size) (let l : length part ≡ 0 = ap length none in omega (arith, l)))
short_part (suc size) part (inr few) = or_right (suc size == 0) (nat_lt (length part) (suc size)) (lt-ltb (length part) (suc size) few)

positive : (size : ℕ) (b : Bool) → (size == 0 || b) ≡ false → 1 ≤ size
positive zero b h = cc
positive (suc size) b h = omega arith

part_of_none : (need : Option ℕ) → IsPart need []
part_of_none None = tt
part_of_none (Some size) = inl refl

-- what comes of the next block, where so much is needed
abbrev next_fed : ℕ → State → ℕ → List ℕ → Option ℕ → List Act
next_fed more s q bytes need = elim need as (λ o. List Act) [
  | None ↦ []
  | Some size ↦ if size == 0 || nat_lt (length bytes) size then [] else fed_block q (take size bytes) ++ fed_acts more (after_acts s (fed_block q (take size bytes))) q (drop size bytes)
]

-- a part of a block isn't fed
part_unfed : (n : ℕ) (s : State) (q : ℕ) (part : List ℕ) → IsPart (need_at s q) part → fed_acts n s q part ≡ []
part_unfed zero s q part h = refl
part_unfed (suc more) s q part h = by_need (need_at s q) h
  where
    by_need : (need : Option ℕ) → IsPart need part → next_fed more s q part need ≡ []
    by_need None h = refl
    by_need (Some size) h =
        ap (λ b. if b then [] else fed_block q (take size part) ++ fed_acts more (after_acts s (fed_block q (take size part))) q (drop size part)) (short_part size part h)

-- a block is fed that comes as it is needed
block_fed : (more : ℕ) (s : State) (q : ℕ) (b rest : List ℕ) → need_at s q ≡ Some (length b) → 1 ≤ length b → fed_acts (suc more) s q (b ++ rest) ≡ fed_block q b ++ fed_acts more (after_acts s (fed_block q b)) q rest
block_fed more s q b rest need some =
    let all = length-append b rest in
    let long : nat_lt (length (b ++ rest)) (length b) ≡ false = le-ltb (length (b ++ rest)) (length b) (omega (arith, all)) in
    let more_than_none : (length b == 0) ≡ false = ne_eqb (length b) 0 (λ none. omega (arith, none, some)) in
    let whole : (length b == 0 || nat_lt (length (b ++ rest)) (length b)) ≡ false = none_either (length b == 0) (nat_lt (length (b ++ rest)) (length b)) more_than_none long in
    let taken : take (length b) (b ++ rest) ≡ b = take-append_seam b rest in
    let dropped : drop (length b) (b ++ rest) ≡ rest = drop-append_seam b rest in
    ap (next_fed more s q (b ++ rest)) need
    ∙ (ap (λ t. if t then [] else fed_block q (take (length b) (b ++ rest)) ++ fed_acts more (after_acts s (fed_block q (take (length b) (b ++ rest)))) q (drop (length b) (b ++ rest))) whole
    ∙ (λ i. fed_block q (taken i) ++ fed_acts more (after_acts s (fed_block q (taken i))) q (dropped i)))

-- how many blocks at most may be fed doesn't matter, where there are as many as bytes
module _ (n m : ℕ) (s : State) (q : ℕ) (bytes : List ℕ) where
  abbrev SameRest : ℕ → Type 0
  SameRest size = fed_acts n (after_acts s (fed_block q (take size bytes))) q (drop size bytes) ≡ fed_acts m (after_acts s (fed_block q (take size bytes))) q (drop size bytes)

  same_block : (size : ℕ) (b : Bool) → (size == 0 || nat_lt (length bytes) size) ≡ b → (1 ≤ size → SameRest size) →
      (if b then [] else fed_block q (take size bytes) ++ fed_acts n (after_acts s (fed_block q (take size bytes))) q (drop size bytes)) ≡
      (if b then [] else fed_block q (take size bytes) ++ fed_acts m (after_acts s (fed_block q (take size bytes))) q (drop size bytes))
  same_block size true e rest = refl
  same_block size false e rest = ap (λ fed. fed_block q (take size bytes) ++ fed) (rest (positive size (nat_lt (length bytes) size) e))

  same_next : (need : Option ℕ) → ((size : ℕ) → 1 ≤ size → SameRest size) → next_fed n s q bytes need ≡ next_fed m s q bytes need
  same_next None rest = refl
  same_next (Some size) rest = same_block size (size == 0 || nat_lt (length bytes) size) refl (rest size)

as_many : (n m : ℕ) (s : State) (q : ℕ) (bytes : List ℕ) → length bytes ≤ n → length bytes ≤ m → fed_acts n s q bytes ≡ fed_acts m s q bytes
as_many zero m s q [] low high = sym (part_unfed m s q [] (part_of_none (need_at s q)))
as_many zero m s q (b ∷ bytes) low high = absurd (omega (arith, low))
as_many (suc n) zero s q [] low high = part_unfed (suc n) s q [] (part_of_none (need_at s q))
as_many (suc n) zero s q (b ∷ bytes) low high = absurd (omega (arith, high))
as_many (suc n) (suc m) s q bytes low high =
    same_next n m s q bytes (need_at s q)
    (λ size some.
    let left = length-drop size bytes in
    as_many n m (after_acts s (fed_block q (take size bytes))) q (drop size bytes) (omega (arith, low, some, left)) (omega (arith, high, some, left)))

-- blocks are fed that come as they are needed, and then what is left
abbrev BlocksFed : List (List ℕ) → State → ℕ → List ℕ → ℕ → ℕ → Type 0
BlocksFed bs s q rest n m = fed_acts n s q (concat bs ++ rest) ≡ acts_of_blocks q bs ++ fed_acts m (after_acts s (acts_of_blocks q bs)) q rest

first_fed : (b : List ℕ) (bs : List (List ℕ)) (s : State) (q : ℕ) (rest : List ℕ) (n m : ℕ) → need_at s q ≡ Some (length b) → 1 ≤ length b → length b + length (concat bs ++ rest) ≤ n →
    ((more : ℕ) → length (concat bs ++ rest) ≤ more → BlocksFed bs (after_acts s (fed_block q b)) q rest more m) → fed_acts n s q (b ++ (concat bs ++ rest)) ≡ acts_of_blocks q (b ∷ bs) ++ fed_acts m (after_acts s (acts_of_blocks q (b ∷ bs))) q rest
first_fed b bs s q rest zero m need some few later = absurd (omega (arith, few, some))
first_fed b bs s q rest (suc more) m need some few later = block_fed more s q b (concat bs ++ rest) need some ∙ ap (λ fed. fed_block q b ++ fed) (later more (omega (arith, few, some)))

blocks_fed : (bs : List (List ℕ)) (s : State) (q : ℕ) (rest : List ℕ) (n m : ℕ) → AreNeeded s q bs → length (concat bs ++ rest) ≤ n → length rest ≤ m → BlocksFed bs s q rest n m
blocks_fed [] s q rest n m needed low high = as_many n m s q rest low high
blocks_fed (b ∷ bs) s q rest n m needed low high =
    let parts : (b ++ concat bs) ++ rest ≡ b ++ (concat bs ++ rest) = append_assoc b (concat bs) rest in
    let long : length ((b ++ concat bs) ++ rest) ≡ length b + length (concat bs ++ rest) = ap length parts ∙ length-append b (concat bs ++ rest) in
    ap (fed_acts n s q) parts
    ∙ first_fed b bs s q rest n m needed.0 needed.1 (omega (arith, low, long)) (λ more few. blocks_fed bs (after_acts s (fed_block q b)) q rest more m needed.2 few high)

-- ---- an upload

module _ (s : State) (q : ℕ) (bs : List (List ℕ)) (needed : AreNeeded (after_acts s delivered) q bs) where
  -- what was done when these blocks came
  abbrev pub so_far : List Act
  so_far = delivered ++ acts_of_blocks q bs

  abbrev pub next_need : Option ℕ
  next_need = need_at (after_acts s so_far) q

  received_so : (part : List ℕ) → IsPart next_need part → received_acts s q (concat bs ++ part) ≡ so_far
  received_so part is =
      ap (λ fed. delivered ++ fed)
      (blocks_fed bs (after_acts s delivered) q part (length (concat bs ++ part)) (length part) needed (omega arith) (omega arith)
      ∙ (ap (λ fed. acts_of_blocks q bs ++ fed) (part_unfed (length part) (after_acts s so_far) q part is) ∙ append-nil (acts_of_blocks q bs)))

  streamed_so : (keeping : Bool) (part : List ℕ) → IsPart next_need part → streamed keeping s q (concat bs ++ part) ≡ so_far ++ decided keeping q next_need
  unfolding streamed
  streamed_so keeping part is = ap (λ (received : List Act). received ++ decided keeping q (need_at (after_acts s received) q)) (received_so part is)

  -- to give it up comes to this
  pub left_done : (u : Upload) (job : Job) → IsLeft u (concat bs) next_need job → carried_acts s q job ≡ so_far ++ decided false q next_need
  left_done u (carry o) h = absurd h
  left_done u (keep v all) (none, same, (part, all_is)) =
      let keeping : Bool = length all == v.length in
      ap (streamed keeping s q) all_is
      ∙ (streamed_so keeping part (subst (λ need. IsPart need part) (sym none) tt)
      ∙ (ap (λ need. so_far ++ decided keeping q need) none ∙ ap (λ need. so_far ++ decided false q need) (sym none)))
  left_done u (leave v all) (same, (part, is, all_is)) = ap (streamed false s q) all_is ∙ streamed_so false part is

  -- and to keep it, where all came, to this
  pub kept_done : (u : Upload) → next_need ≡ Some 0 → length (concat bs) ≡ u.length → carried_acts s q (keep u (concat bs)) ≡ so_far ++ keeps q ∷ delivered
  kept_done u need all =
      let is : IsPart next_need [] = part_of_none next_need in
      ap (λ keeping. streamed keeping s q (concat bs)) (eq-eqb (length (concat bs)) u.length all)
      ∙ (ap (streamed true s q) (sym (append-nil (concat bs))) ∙ (streamed_so true [] is ∙ ap (λ need. so_far ++ decided true q need) need))

-- ---- one block more

pub bytes_more : (bs : List (List ℕ)) (b : List ℕ) → concat (bs ++ b ∷ []) ≡ concat bs ++ b
bytes_more bs b = concat-append bs (b ∷ []) ∙ ap (λ rest. concat bs ++ rest) (append-nil b)

pub acts_more : (q : ℕ) (bs : List (List ℕ)) (b : List ℕ) → acts_of_blocks q (bs ++ b ∷ []) ≡ acts_of_blocks q bs ++ fed_block q b
acts_more q [] b = refl
acts_more q (x ∷ bs) b = ap (λ rest. fed_block q x ++ rest) (acts_more q bs b)

pub needed_more : (s : State) (q : ℕ) (bs : List (List ℕ)) (b : List ℕ) → AreNeeded s q bs → need_at (after_acts s (acts_of_blocks q bs)) q ≡ Some (length b) → 1 ≤ length b → AreNeeded s q (bs ++ b ∷ [])
needed_more s q [] b needed need some = (need, some, tt)
needed_more s q (x ∷ bs) b needed need some = (needed.0, needed.1, needed_more (after_acts s (fed_block q x)) q bs b needed.2 need some)
