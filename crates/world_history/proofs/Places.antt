-- Where requests finish.
use Rattle.std.proofs.Common.{◌≡◌, ℕ, ◌+◌, ◌<◌, List, Option, Some, None, option_map, ap, arith}
use Rattle.std.proofs.lemmas.Option.{option_and_then_some}
use Rattle.crdt_rows.specs.declared.version.Version.{Version}
use Rattle.history_model.specs.declared.record.Answer.{Answer}
use Rattle.history_model.specs.declared.record.Record.{Record}
use Rattle.history_model.specs.Record.{version_of, next, finish_at, finish, acknowledged}

mapped : {A B : Type 0} (f : A → B) (o : Option A) (y : B) → option_map f o ≡ Some y → (x : A) × (f x ≡ y)
mapped f None y e = cc
mapped f (Some x) y e = (x, cc)

-- the next record of a request stands later
pub next-later : (h : List Record) (i q j : ℕ) → next h i q ≡ Some j → i < j
next-later h i q j e = let m = mapped (λ k. i + 1 + k) _ j e in omega (arith, m.1)

-- a request finishes after its beginning
pub finish-later : (h : List Record) (i q : ℕ) (f : ℕ × Answer) → finish h i q ≡ Some f → i < f.0
finish-later h i q f e =
    option_and_then_some (finish_at h) (next h i q) f e (λ j is at. let m = mapped (λ answer. (j, answer)) _ f at in let same : j ≡ f.0 = ap (λ x. x.0) m.1 in let later = next-later h i q j is in omega arith)

-- and is acknowledged after it
pub acknowledged-later : (h : List Record) (i q : ℕ) (a : ℕ × Version) → acknowledged h i q ≡ Some a → i < a.0
acknowledged-later h i q a e =
    option_and_then_some (λ f. option_map (λ v. (f.0, v)) (version_of f.1)) (finish h i q) a e (λ f is at. let m = mapped (λ v. (f.0, v)) _ a at in let same : f.0 ≡ a.0 = ap (λ x. x.0) m.1 in let later = finish-later h i q f is in omega arith)
