-- How looking for the end of a head or of a body ends.
use Rattle.std.proofs.Common.{◌≡◌, ◌⊎◌, inl, inr, ℕ, ◌<◌, ◌≤◌, List, ◌++◌, None, Result, Ok, Err, IfOk, IfErr, IsErrAnd, refl, sym, ◌∙◌, ap, subst, append-nil, length, take, drop}
use Rattle.lab_outside.specs.Connection.{Connection}
use Rattle.lab_outside.specs.Rose.{Rose}
use Rattle.http_model.specs.declared.head.Head.{Head}
use Rattle.http_wire.specs.declared.head.HeadEnd.{HeadEnd}
use Rattle.http_wire.specs.declared.head.HeadEnd.TheVariants.{Closed, TooLong, Bad, Failed, Memory}
use Rattle.http_model.specs.Cut.{head_limit, head_end, ends}
use Rattle.http_model.specs.Heads.{IsHead, IsNoHead}
use Rattle.http_wire.specs.Reading.{Takes, Fails, ReadsHead}
use Rattle.http_wire.specs.Pieces.{ReadsPiece, SeesEnd}
use Rattle.http_wire.proofs.Cuts.{cut_end, cut_unfinished}
use Rattle.http_wire.proofs.Takings.{takes_more}

-- an error that a `?` hands on is the error that came
pub handed_on : {A : Type 0} (R : Result A HeadEnd → Type 0) (r : Result A HeadEnd) (e : HeadEnd) → IsErrAnd r (λ x. x ≡ e) → R (Err e) → R r
handed_on R (Ok a) e is h = absurd is
handed_on R (Err x) e is h = let P : HeadEnd → Type 0 = λ y. R (Err y) in subst P (sym is) h

failed_later : (kept seen new : List ℕ) (c d f : Connection) → Takes kept seen c d → Fails seen new d f → Fails kept new c f
failed_later kept seen new c d f t u =
    (subst (λ n. Takes kept new c (record f { faults = n })) t.steady (takes_more kept seen new c d (record f { faults = d.faults }) t u.0), subst (λ n. Rose n f.faults) t.steady u.1, subst (λ n. n ≤ f.faults) t.steady u.2)

pub piece_fails : (kept seen new : List ℕ) (e : HeadEnd) (c d f : Connection) → Takes kept seen c d → ReadsPiece seen (Err e) new d f → SeesEnd kept (Err e) new c f
piece_fails kept seen new Closed c d f t u = absurd u
piece_fails kept seen new TooLong c d f t u = absurd u
piece_fails kept seen new Bad c d f t u = absurd u
piece_fails kept seen new Failed c d f t u = failed_later kept seen new c d f t u
piece_fails kept seen new Memory c d f t u = takes_more kept seen new c d f t u

-- a piece of no bytes changes nothing that is kept
no_more : (seen new piece : List ℕ) (n : ℕ) → new ≡ seen ++ take n piece → n ≡ 0 → new ≡ seen
no_more seen new piece n e z = e ∙ ap (λ k. seen ++ take k piece) z ∙ append-nil seen

pub piece_ends : (kept seen new piece : List ℕ) (n : ℕ) (c d f : Connection) → n ≡ 0 → new ≡ seen ++ take n piece → head_end seen ≡ None → length seen < head_limit → Takes kept seen c d → ReadsPiece seen (Ok n) new d f → SeesEnd kept (Err Closed) new c f
piece_ends kept seen new piece n c d f z grows none short t u =
    let same : new ≡ seen = no_more seen new piece n grows z in
    let short_new : length new < head_limit = subst (λ (x : List ℕ). length x < head_limit) (sym same) short in
    (takes_more kept seen new c d f t u.0, cut_unfinished new (ap head_end same ∙ none) short_new, u.1 z)

-- a head that was taken off what is kept
pub head_taken : (kept seen : List ℕ) (end : ℕ) (new : List ℕ) (r : Result Head HeadEnd) (c d : Connection) → IfOk r (IsHead (take end seen)) → (r ≡ Err Bad → IsNoHead (take end seen)) → ((r ≡ Err Memory → ⊥) → new ≡ drop end seen) → (r ≡ Err Memory → new ≡ seen) → IfErr r (λ e. (e ≡ Bad) ⊎ (e ≡ Memory)) → SeesEnd kept (Ok end) seen c d → ReadsHead kept r new c d
head_taken kept seen end new (Ok head) c d is bad rest same causes s =
    record { seen = seen; takes = s.0; front = take end seen; cut_is = cut_end seen end s.1 ∙ ap (ends (take end seen)) (sym (rest (λ e. cc))); head = is }
head_taken kept seen end new (Err Bad) c d is bad rest same causes s =
    record { seen = seen; takes = s.0; front = take end seen; cut_is = cut_end seen end s.1 ∙ ap (ends (take end seen)) (sym (rest (λ e. cc))); head = bad refl }
head_taken kept seen end new (Err Memory) c d is bad rest same causes s = let P : List ℕ → Type 0 = λ x. Takes kept x c d in subst P (sym (same refl)) s.0
head_taken kept seen end new (Err Closed) c d is bad rest same causes s = absurd (elim causes [ inl e ↦ cc | inr e ↦ cc ])
head_taken kept seen end new (Err TooLong) c d is bad rest same causes s = absurd (elim causes [ inl e ↦ cc | inr e ↦ cc ])
head_taken kept seen end new (Err Failed) c d is bad rest same causes s = absurd (elim causes [ inl e ↦ cc | inr e ↦ cc ])
