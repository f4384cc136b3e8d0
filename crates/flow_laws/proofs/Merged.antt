-- The version rows of an upload's blocks, merged.
use Rattle.std.proofs.Common.{◌≡◌, ℕ, zero, suc, min, ◌+◌, ◌-◌, ◌*◌, ◌<◌, ◌≤◌, nat_eq, nat_lt, true, false, Some, List, [], ◌∷◌, ◌++◌, drop, length, refl, ap, sym, subst, ◌∙◌, arith}
use Rattle.std.proofs.Math.Nat.{mul-le-mul_left}
use Rattle.std.proofs.lemmas.List.{length-take, length-drop}
use Rattle.std.specs.declared.cmp.Ordering.TheVariants.{Less, Equal}
use Rattle.std.specs.declared.cmp.Ord as ord
use Rattle.std.specs.declared.cmp.PartialEq as partial_eq
use Rattle.std.specs.declared.cmp.PartialOrd as partial_ord
use Rattle.std.specs.Ordering.{nat_cmp}
use Rattle.std.specs.Cmp.{IsTotalOrder, nat_cmp_is}
use Rattle.crdt_core.specs.declared.map.Map.{Map}
use Rattle.crdt_core.specs.declared.max.Max.{Max}
use Rattle.crdt_core.specs.declared.deletable.Deletable.{Deletable}
use Rattle.crdt_core.specs.declared.deletable.Deletable.TheVariants.{Present, Deleted}
use Rattle.crdt_core.specs.Entries.{merged}
use Rattle.crdt_core.specs.Deletable.{deletable_join}
use Rattle.crdt_core.specs.Map.{map_entries, map_join}
use Rattle.crdt_core.specs.MapLaws.{map_join-entries}
use Rattle.crdt_core.specs.Max.{max_join}
use Rattle.crdt_rows.specs.declared.version_row.Part.{Part}
use Rattle.crdt_rows.specs.declared.version_row.BlockRef.{BlockRef}
use Rattle.crdt_rows.specs.declared.any_row.AnyRow.{AnyRow}
use Rattle.crdt_rows.specs.declared.any_row.AnyRow.TheVariants as rows
use Rattle.crdt_rows.specs.AnyRow.{any_join}
use Rattle.crdt_rows.specs.VersionRow.{part_cmp, block_ref_cmp}
use Rattle.crdt_rows.specs.FieldLaws.{part_total}
use Rattle.flow_model.specs.Blocks.{piece, has_piece}
use Rattle.flow_model.specs.Rows.{version_row}
use Rattle.flow_model.specs.Says.{unnamed, whole, deleted, are_whole, blocks_in, of_entries, named_by}
use Rattle.flow_laws.proofs.Cut.{not_less}
use Rattle.flow_laws.proofs.Going.{at_true}
use Rattle.flow_laws.specs.Pieces.{named_piece, named_pieces, merged_row}

-- the entry of a block
abbrev pub entry : ℕ → List ℕ → ℕ → Part × Max BlockRef
entry block body i = (record { part = 1; offset = i * block }, record { 0 = named_piece block body i })

-- the entries of so many blocks from block i on
abbrev pub entries : ℕ → List ℕ → ℕ → ℕ → List (Part × Max BlockRef)
entries block body i zero = []
entries block body i (suc n) = entry block body i ∷ entries block body (suc i) n

one_more : (block : ℕ) (body : List ℕ) (i n : ℕ) → entries block body i n ++ entry block body (i + n) ∷ [] ≡ entries block body i (suc n)
one_more block body i zero = let same : i + zero ≡ i = omega arith in rw same refl
one_more block body i (suc n) =
    let same : i + suc n ≡ suc i + n = omega arith in
    rw same (ap (entry block body i ∷◌) (one_more block body (suc i) n))

-- later blocks are merged in behind
behind : (j : Max BlockRef → Max BlockRef → Max BlockRef) (block : ℕ) (body : List ℕ) (i n k : ℕ) → 0 < block → i + n ≤ k →
    merged part_cmp j (entries block body i n) (entry block body k ∷ []) ≡ entries block body i n ++ entry block body k ∷ []
behind j block body i zero k some h = refl
behind j block body i (suc n) k some h =
    let after : suc i ≤ k = omega arith in
    let times : block * suc i ≤ block * k = mul-le-mul_left block after in
    let below : i * block < k * block = omega arith in
    let less : nat_cmp (i * block) (k * block) ≡ Less = sym (nat_cmp_is (i * block) (k * block) Less below) in
    rw less (ap (entry block body i ∷◌) (behind j block body (suc i) n k some (omega arith)))

named : (block : ℕ) (body : List ℕ) (i n : ℕ) → blocks_in (entries block body i n) ≡ named_pieces block body i n
named block body i zero = refl
named block body i (suc n) = ap (named_piece block body i ∷◌) (named block body (suc i) n)

pub long : (block : ℕ) (body : List ℕ) (i : ℕ) → length (piece block body i) ≡ min block (length body - i * block)
long block body i = length-take block (drop (i * block) body) ∙ ap (min block) (length-drop (i * block) body)

same_offset : (n : ℕ) → nat_eq n n ≡ true
same_offset n = grind arith

stand : (block : ℕ) (body : List ℕ) (i n : ℕ) → (i + n) * block < length body → length body ≤ (i + n) * block + block →
    are_whole (i * block) (entries block body i (suc n)) (length body) ≡ true
stand block body i zero low high =
    let at : i + zero ≡ i = omega arith in
    let rest : i * block + length (piece block body i) ≡ length body = rw (long block body i) (let l = rw at at low in let h = rw at at high in omega arith) in
    rw (same_offset (i * block), rest) (same_offset (length body))
stand block body i (suc n) low high =
    let step : suc i * block ≡ i * block + block = omega arith in
    let at : (i + suc n) * block ≡ i * block + block + n * block = omega arith in
    let on : i * block + length (piece block body i) ≡ suc i * block = rw (long block body i, step) (omega arith) in
    let same : suc i + n ≡ i + suc n = omega arith in
    rw (same_offset (i * block), on) (stand block body (suc i) n (rw same low) (rw same high))

module _ {o : ord.Ghosts Part} {p : partial_eq.Ghosts Part} {q : partial_ord.Ghosts Part} where
  -- these are the entries, and nothing is deleted
  abbrev pub Are : Deletable (Map Part (Max BlockRef) o p q) → List (Part × Max BlockRef) → Type 0
  Are (Present m) es = map_entries m ≡ es
  Are Deleted es = ⊥

-- the row is the version's, with these entries
abbrev Has : AnyRow → ℕ → List (Part × Max BlockRef) → Type 0
Has (rows.Version v) id es = (v.id ≡ id) × Are v.blocks es
Has (rows.Object r) id es = ⊥
Has (rows.Ref r) id es = ⊥

same_cmp : (n : ℕ) → nat_cmp n n ≡ Equal
same_cmp n = sym (nat_cmp_is n n Equal refl)

module _ {o : ord.Ghosts Part} {p : partial_eq.Ghosts Part} {q : partial_ord.Ghosts Part} (total : IsTotalOrder o.cmp) where
  both : (d : Deletable (Map Part (Max BlockRef) o p q)) (s : Map Part (Max BlockRef) o p q) (es fs : List (Part × Max BlockRef)) → Are d es → map_entries s ≡ fs →
      Are (deletable_join (map_join (max_join block_ref_cmp)) d (Present s)) (merged o.cmp (max_join block_ref_cmp) es fs)
  both (Present m) s es fs h k =
      map_join-entries total (max_join block_ref_cmp) m s ∙ (ap (λ x. merged o.cmp (max_join block_ref_cmp) x (map_entries s)) h ∙ ap (merged o.cmp (max_join block_ref_cmp) es) k)
  both Deleted s es fs h k = absurd h

-- one block's row merged in
grow : (r : AnyRow) (id block : ℕ) (body : List ℕ) (k : ℕ) (es : List (Part × Max BlockRef)) → Has r id es →
    Has (any_join r (version_row id block body k)) id (merged part_cmp (max_join block_ref_cmp) es (entry block body k ∷ []))
grow (rows.Version v) id block body k es h =
    let equal : nat_cmp v.id id ≡ Equal = ap (λ n. nat_cmp n id) h.0 ∙ same_cmp id in
    rw equal (h.0, both part_total v.blocks _ es (entry block body k ∷ []) h.1 refl)
grow (rows.Object r) id block body k es h = absurd h
grow (rows.Ref r) id block body k es h = absurd h

has : (id block : ℕ) (body : List ℕ) (n : ℕ) → 0 < block → Has (merged_row id block body n) id (entries block body 0 (suc n))
has id block body zero some = (refl, refl)
has id block body (suc n) some =
    let next = grow (merged_row id block body n) id block body (suc n) (entries block body 0 (suc n)) (has id block body n some) in
    let last = behind (max_join block_ref_cmp) block body 0 (suc n) (suc n) some (omega arith) in
    let same : 0 + suc n ≡ suc n = omega arith in
    let grown : entries block body 0 (suc n) ++ entry block body (suc n) ∷ [] ≡ entries block body 0 (suc (suc n)) = rw same at (one_more block body 0 (suc n)) in
    subst (λ (es : List (Part × Max BlockRef)). Has (merged_row id block body (suc n)) id es) (last ∙ grown) next

module _ {o : ord.Ghosts Part} {p : partial_eq.Ghosts Part} {q : partial_ord.Ghosts Part} where
  told : (d : Deletable (Map Part (Max BlockRef) o p q)) (es : List (Part × Max BlockRef)) (size : ℕ) → Are d es → are_whole 0 es size ≡ true →
      elim d [ Present m ↦ of_entries (map_entries m) size | Deleted ↦ deleted ] ≡ whole (blocks_in es)
  told (Present m) es size h k = ap (λ x. of_entries x size) h ∙ at_true (are_whole 0 es size) (whole (blocks_in es)) unnamed k
  told Deleted es size h k = absurd h

tells : (r : AnyRow) (id : ℕ) (es : List (Part × Max BlockRef)) (size : ℕ) → Has r id es → are_whole 0 es size ≡ true → named_by (Some r) size ≡ whole (blocks_in es)
tells (rows.Version v) id es size h k = told v.blocks es size h.1 k
tells (rows.Object r) id es size h k = absurd h
tells (rows.Ref r) id es size h k = absurd h

pub less : (a b : ℕ) → nat_lt a b ≡ true → a < b
less a b e = grind arith

-- the rows of all blocks name them in order
pub are_named : (id block : ℕ) (body : List ℕ) (last : ℕ) → has_piece block body last ≡ true → has_piece block body (suc last) ≡ false →
    named_by (Some (merged_row id block body last)) (length body) ≡ whole (named_pieces block body 0 (suc last))
are_named id block body last here done =
    let low : last * block < length body = less (last * block) (length body) here in
    let past : length body ≤ suc last * block = not_less (suc last * block) (length body) done in
    let more : suc last * block ≡ last * block + block = omega arith in
    let some : 0 < block = omega arith in
    let same : 0 + last ≡ last = omega arith in
    let none : 0 * block ≡ 0 = omega arith in
    let stands : are_whole (0 * block) (entries block body 0 (suc last)) (length body) ≡ true = stand block body 0 last (rw same low) (rw same (omega arith)) in
    let stands_here : are_whole 0 (entries block body 0 (suc last)) (length body) ≡ true = ap (λ k. are_whole k (entries block body 0 (suc last)) (length body)) (sym none) ∙ stands in
    tells (merged_row id block body last) id (entries block body 0 (suc last)) (length body) (has id block body last some) stands_here ∙ ap whole (named block body 0 (suc last))
