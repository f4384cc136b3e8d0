-- The bytes that came of an upload, beside as many as were announced: which blocks of these came, and that they are the first bytes.
use Rattle.std.proofs.Common.{◌≡◌, ◌⊎◌, ◌<◌, ◌≤◌, ◌+◌, ◌-◌, ◌*◌, ℕ, suc, min, Bool, true, ◌||◌, ◌&&◌, List, [], ◌++◌, take, drop, length, replicate, sym, ap, ap₂, ◌∙◌, inl, inr, arith}
use Rattle.std.specs.Prelude.{nat_lt, leb}
use Rattle.std.proofs.lemmas.Bool.{and_parts, or_cases, or_left, or_right, cases_lt, lt-ltb, ltb-true, le-leb, leb-true}
use Rattle.std.proofs.lemmas.List.{append-nil, length-append, length-take, length-drop, length-replicate, take_all, take-take, take-append-le, drop-append-le, drop-drop, drop-take}
use Rattle.flow_model.specs.Blocks.{piece, has_piece}
use Rattle.flow_laws.proofs.Merged.{long}

-- of two cuts the smaller one counts
cut_twice : (m n : ℕ) (xs : List ℕ) → take m (take n xs) ≡ take (min m n) xs
cut_twice m n xs = elim (cases_lt n m) [
  | inl less ↦
      let size = length-take n xs in
      let smaller : n ≡ min m n = omega (arith, less) in
      take_all m (take n xs) (omega (arith, less, size)) ∙ ap (λ k. take k xs) smaller
  | inr most ↦
      let smaller : m ≡ min m n = omega (arith, most) in
      take-take m n xs most ∙ ap (λ k. take k xs) smaller
]

module _ (block announced : ℕ) (came : List ℕ) where
  -- those of the bytes that were announced
  abbrev pub taken : List ℕ
  taken = take announced came

  -- as many more as were announced
  abbrev pub zeros : List ℕ
  zeros = replicate (announced - length taken) 0

  -- as many bytes as were announced, the first of which came
  abbrev pub padded : List ℕ
  padded = taken ++ zeros

  pub padded_length : length padded ≡ announced
  padded_length =
      let size = length-take announced came in
      let both = length-append taken zeros in
      let more : length zeros ≡ announced - length taken = length-replicate (announced - length taken) 0 in
      omega (arith, size, both, more)

  -- block i came whole, or is the last one and all came that was announced
  abbrev pub comes_whole : ℕ → Bool
  comes_whole i = nat_lt (i * block) (length taken) && (leb (suc i * block) (length taken) || leb announced (length came))

  module _ (i : ℕ) (whole : comes_whole i ≡ true) where
    parts : (nat_lt (i * block) (length taken) ≡ true) × ((leb (suc i * block) (length taken) || leb announced (length came)) ≡ true)
    parts = and_parts (nat_lt (i * block) (length taken)) (leb (suc i * block) (length taken) || leb announced (length came)) whole

    pub begins_within : i * block < length taken
    begins_within = ltb-true (i * block) (length taken) parts.0

    pub there_taken : has_piece block taken i ≡ true
    there_taken = parts.0

    pub there_padded : has_piece block padded i ≡ true
    there_padded = (let size = length-take announced came in let all = padded_length in let low = begins_within in lt-ltb (i * block) (length padded) (omega (arith, size, all, low)))

    pub size_is : (length (piece block padded i) ≡ block) ⊎ (announced ≤ length came)
    size_is = elim (or_cases (leb (suc i * block) (length taken)) (leb announced (length came)) parts.1) [
      | inl e ↦
          let size = length-take announced came in
          let all = padded_length in
          let cut = long block padded i in
          let within = leb-true (suc i * block) (length taken) e in
          let next : suc i * block ≡ i * block + block = omega arith in
          inl (omega (arith, size, all, cut, within, next))
      | inr e ↦ inr (leb-true announced (length came) e)
    ]

    -- it is a block of the bytes that came
    pub piece_is : piece block padded i ≡ piece block taken i
    piece_is = elim (or_cases (leb (suc i * block) (length taken)) (leb announced (length came)) parts.1) [
      | inl e ↦
          let low = begins_within in
          let within = leb-true (suc i * block) (length taken) e in
          let next : suc i * block ≡ i * block + block = omega arith in
          let size = length-drop (i * block) taken in
          ap (λ xs. take block xs) (drop-append-le (i * block) taken zeros (omega (arith, low)))
          ∙ take-append-le block (drop (i * block) taken) zeros (omega (arith, low, within, next, size))
      | inr e ↦
          let size = length-take announced came in
          let enough = leb-true announced (length came) e in
          let none : announced - length taken ≡ 0 = omega (arith, size, enough) in
          ap (λ k. piece block (taken ++ replicate k 0) i) none ∙ ap (λ xs. piece block xs i) (append-nil taken)
    ]

  -- what comes of the bytes that are left, where as many are there as the next block has, and it has one
  module _ (i : ℕ) (rest : List ℕ) (is_rest : has_piece block padded i ≡ true → rest ≡ drop (i * block) came) (some : 1 ≤ length (piece block padded i)) (enough : length (piece block padded i) ≤ length rest) where
    abbrev size : ℕ
    size = length (piece block padded i)

    cut : size ≡ min block (announced - i * block)
    cut = long block padded i ∙ ap (λ n. min block (n - i * block)) padded_length

    below : i * block < announced
    below = (let size_so = cut in omega (arith, some, size_so))

    here : has_piece block padded i ≡ true
    here = (let all = padded_length in let low = below in lt-ltb (i * block) (length padded) (omega (arith, all, low)))

    rest_length : length rest ≡ length came - i * block
    rest_length = ap (λ (xs : List ℕ). length xs) (is_rest here) ∙ length-drop (i * block) came

    -- it comes whole
    pub whole_so : comes_whole i ≡ true
    whole_so =
        let size_so = cut in
        let low = below in
        let left = rest_length in
        let front = length-take announced came in
        let next : suc i * block ≡ i * block + block = omega arith in
        ap₂ (λ (x y : Bool). x && y) (lt-ltb (i * block) (length taken) (omega (arith, some, enough, low, left, front)))
        (elim (cases_lt block (announced - i * block)) [
          | inl less ↦ or_left (leb (suc i * block) (length taken)) (leb announced (length came)) (le-leb (suc i * block) (length taken) (omega (arith, size_so, low, left, front, next, enough, less)))
          | inr most ↦ or_right (leb (suc i * block) (length taken)) (leb announced (length came)) (le-leb announced (length came) (omega (arith, size_so, low, left, enough, most)))
        ])

    -- they begin with it
    pub comes_so : take size rest ≡ piece block padded i
    comes_so =
        let low = below in
        let parts : announced ≡ i * block + (announced - i * block) = omega (arith, low) in
        let of_taken : piece block taken i ≡ take (min block (announced - i * block)) (drop (i * block) came) =
        ap (λ k. take block (drop (i * block) (take k came))) parts
        ∙ (ap (λ xs. take block xs) (drop-take (i * block) (announced - i * block) came) ∙ cut_twice block (announced - i * block) (drop (i * block) came)) in
        ap₂ (λ (k : ℕ) (xs : List ℕ). take k xs) cut (is_rest here) ∙ (sym of_taken ∙ sym (piece_is i whole_so))

    -- and past it are those of the next one, where there is one
    pub rest_so : has_piece block padded (suc i) ≡ true → drop size rest ≡ drop (suc i * block) came
    rest_so more =
        let size_so = cut in
        let all = padded_length in
        let high = ltb-true (suc i * block) (length padded) more in
        let next : suc i * block ≡ i * block + block = omega arith in
        let full : size ≡ block = omega (arith, size_so, all, high, next) in
        ap₂ (λ (k : ℕ) (xs : List ℕ). drop k xs) full (is_rest here) ∙ (drop-drop block (i * block) came ∙ ap (λ k. drop k came) (sym next))
