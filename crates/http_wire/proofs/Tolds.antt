-- What all the bytes of a connection begin with, where they are told.
use Rattle.std.proofs.Common.{◌≡◌, ℕ, List, ◌++◌, Option, Some, None, Result, Ok, Err, refl, sym, ◌∙◌, ap, subst, append_assoc, append-nil}
use Rattle.std.specs.Io.KnownBytes.{Consumes, IsAtEnd}
use Rattle.lab_outside.specs.Connection.{Connection}
use Rattle.http_model.specs.declared.head.Head.{Head}
use Rattle.http_wire.specs.declared.head.HeadEnd.{HeadEnd}
use Rattle.http_wire.specs.declared.head.HeadEnd.TheVariants.{Closed, TooLong, Bad, Failed, Memory}
use Rattle.http_wire.specs.Reading.{Takes, ReadsHead, ReadsBody, IsHeadOf, IsBodyOf, on_all, OnAll}
use Rattle.http_wire.proofs.Cuts.{cut_more, cut_long_more}

-- what follows from the bytes seen, whatever is left
told : (P : List ℕ → List ℕ → Type 0) (E : Option (List ℕ) → Type 0) (kept kept' seen taken : List ℕ) (o o' : Option (List ℕ)) → Consumes o o' taken → seen ≡ kept ++ taken → E o' → ((left : List ℕ) → E (Some left) → P (seen ++ left) (kept' ++ left)) → on_all P kept kept' o o'
told P E kept kept' seen taken None o' h e k f = tt
told P E kept kept' seen taken (Some left) None h e k f = absurd h
told P E kept kept' seen taken (Some left) (Some left') h e k f =
    let Q : List ℕ → Type 0 = λ all. P all (kept' ++ left') in
    let same : seen ++ left' ≡ kept ++ left = ap (λ s. s ++ left') e ∙ append_assoc kept taken left' ∙ ap (λ t. kept ++ t) (sym h) in
    subst Q same (f left' k)

Whatever : Option (List ℕ) → Type 0
Whatever o = Unit {0}

told_seen : (P : List ℕ → List ℕ → Type 0) (kept kept' seen : List ℕ) (c d : Connection) → Takes kept seen c d → ((left : List ℕ) → P (seen ++ left) (kept' ++ left)) → OnAll P kept kept' c d
unfolding Whatever
told_seen P kept kept' seen c d t f = told P Whatever kept kept' seen t.taken c.left d.left t.consumed t.seen_is tt (λ left e. f left)

told_end : (P : List ℕ → List ℕ → Type 0) (kept seen : List ℕ) (c d : Connection) → Takes kept seen c d → IsAtEnd d.left → P seen seen → OnAll P kept seen c d
told_end P kept seen c d t end p =
    told P IsAtEnd kept seen seen t.taken c.left d.left t.consumed t.seen_is end
    (λ left e. let same : seen ≡ seen ++ left = sym (ap (λ l. seen ++ l) e ∙ append-nil seen) in let Q : List ℕ → Type 0 = λ all. P all all in subst Q same p)

pub told_head : (kept kept' : List ℕ) (r : Result Head HeadEnd) (c d : Connection) → ReadsHead kept r kept' c d → OnAll (λ all rest. IsHeadOf all r rest) kept kept' c d
told_head kept kept' (Ok head) c d f =
    told_seen (λ all rest. IsHeadOf all (Ok head) rest) kept kept' f.seen c d f.takes (λ left. (f.front, cut_more f.seen left f.front kept' f.cut_is, f.head))
told_head kept kept' (Err Bad) c d f =
    told_seen (λ all rest. IsHeadOf all (Err Bad) rest) kept kept' f.seen c d f.takes (λ left. (f.front, cut_more f.seen left f.front kept' f.cut_is, f.head))
told_head kept kept' (Err TooLong) c d f =
    told_seen (λ all rest. IsHeadOf all (Err TooLong) rest) kept kept' kept' c d f.0 (λ left. (cut_long_more kept' left f.1, refl))
told_head kept kept' (Err Closed) c d f =
    told_end (λ all rest. IsHeadOf all (Err Closed) rest) kept kept' c d f.0 f.2 (f.1, refl)
told_head kept kept' (Err Failed) c d f =
    told_seen (λ all rest. IsHeadOf all (Err Failed) rest) kept kept' kept' c (record d { faults = c.faults }) f.0 (λ left. refl)
told_head kept kept' (Err Memory) c d f =
    told_seen (λ all rest. IsHeadOf all (Err Memory) rest) kept kept' kept' c d f (λ left. refl)

pub told_body : (kept : List ℕ) (size : ℕ) (kept' : List ℕ) (r : Result (List ℕ) HeadEnd) (c d : Connection) → ReadsBody kept size r kept' c d → OnAll (λ all rest. IsBodyOf all size r rest) kept kept' c d
told_body kept size kept' (Ok body) c d f =
    told_seen (λ all rest. IsBodyOf all size (Ok body) rest) kept kept' f.seen c d f.takes
    (λ left. record { whole = ap (λ s. s ++ left) f.body_is.whole ∙ append_assoc body kept' left; size_is = f.body_is.size_is })
told_body kept size kept' (Err Bad) c d f = absurd f
told_body kept size kept' (Err TooLong) c d f = absurd f
told_body kept size kept' (Err Closed) c d f =
    told_end (λ all rest. IsBodyOf all size (Err Closed) rest) kept kept' c d f.0 f.2 (f.1, refl)
told_body kept size kept' (Err Failed) c d f =
    told_seen (λ all rest. IsBodyOf all size (Err Failed) rest) kept kept' kept' c (record d { faults = c.faults }) f.0 (λ left. refl)
told_body kept size kept' (Err Memory) c d f =
    told_seen (λ all rest. IsBodyOf all size (Err Memory) rest) kept kept' kept' c d f.0 (λ left. refl)
