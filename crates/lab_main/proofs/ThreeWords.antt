-- Words that were looked up by their places.
use Rattle.std.proofs.Common.{◌≡◌, List, [], ◌∷◌, length, get_or, sym, arith}

-- three words, each of which stands at its place, are all
pub are_three : {X : Type 0} (words : List X) (a b c : X) → length words ≡ 3 → a ≡ get_or words 0 a → b ≡ get_or words 1 b → c ≡ get_or words 2 c → words ≡ a ∷ b ∷ c ∷ []
are_three [] a b c three is0 is1 is2 = absurd (omega (arith, three))
are_three (x ∷ []) a b c three is0 is1 is2 = absurd (omega (arith, three))
are_three (x ∷ y ∷ []) a b c three is0 is1 is2 = absurd (omega (arith, three))
are_three (x ∷ y ∷ z ∷ []) a b c three is0 is1 is2 = λ i. sym is0 i ∷ sym is1 i ∷ sym is2 i ∷ []
are_three (x ∷ y ∷ z ∷ w ∷ more) a b c three is0 is1 is2 = absurd (omega (arith, three))
