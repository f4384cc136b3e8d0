-- How the bytes of a body come to their place.
use Rattle.std.proofs.Common.{◌≡◌, ℕ, ◌+◌, ◌≤◌, List, ◌++◌, Ok, ◌∙◌, ap, arith, length, take, length-take-le}
use Rattle.std.proofs.lemmas.List.{take-append-le}
use Rattle.std.proofs.Math.Seq.{take-append-add}
use borrow.Rule.Slice.PartMut.{put_mid, post_of}
use Rattle.lab_outside.specs.Connection.{Connection, ReadsFrom}
use Rattle.http_wire.specs.Reading.{Takes}
use Rattle.http_wire.proofs.Takings.{takes_more}

-- bytes that are read stand behind those that had come
pub place_grows : (a m k : ℕ) (xs ys : List ℕ) → a ≤ length xs → m ≤ length ys → take (a + m) (put_mid a k xs ys) ≡ take a xs ++ take m ys
place_grows a m k xs ys h l =
    let len : length (take a xs) ≡ a = length-take-le a xs h in
    let sum : a + m ≡ length (take a xs) + m = omega arith in
    ap (λ n. take n (put_mid a k xs ys)) sum ∙ take-append-add (take a xs) (ys ++ post_of a k xs) m ∙ ap (λ t. take a xs ++ t) (take-append-le m ys (post_of a k xs) l)

pub place_fills : {E : Type 0} (before after new old into : List ℕ) (n : ℕ) (c d e : Connection) → new ≡ after ++ take n into → Takes before after c d → ReadsFrom {E = E} (Ok n) old into d e → Takes before new c e
place_fills before after new old into n c d e is t w =
    takes_more before after new c d e t (record { taken = take n into; seen_is = is; consumed = w.bytes; unwritten = w.unwritten; steady = w.steady })
