-- What the input says, and which stop it is where it says no plan.
use Rattle.std.proofs.Common.{◌≡◌, ℕ, ◌+◌, ◌≤◌, Option, Result, Ok, Err, IfErr, IfSome, List, length, take, sym, subst}
use Rattle.std.specs.Result.{IsErrAnd}
use Rattle.lab_main.proofs.Input.{not_longer, of_all}
use Rattle.serve_run.specs.declared.stop.Stop.{Stop}
use Rattle.serve_run.specs.declared.stop.Stop.TheVariants.{Read, Link, Memory, LongInput, Refused, Kept, Number}
use Rattle.lab_main.specs.Limits.{input_limit}
use Rattle.serve_run.specs.Plan.{IsRefused}
use Rattle.serve_run.specs.Stop.{IsOfText, IsOfInput}

-- the same stop is handed on
pub handed_on : {A : Type 0} (P : Stop → Type 0) (r : Result A Stop) (stop : Stop) → IsErrAnd r (λ e. e ≡ stop) → P stop → IfErr r P
handed_on P (Ok x) stop is h = tt
handed_on P (Err e) stop is h = subst P (sym is) h

-- a text without a plan
pub input_of_text : (left : Option (List ℕ)) (all : List ℕ) → length all ≤ input_limit → IfSome left (λ bytes. all ≡ take (input_limit + 1) bytes) → IfSome left (λ bytes. length bytes ≤ input_limit → all ≡ bytes) →
    (stop : Stop) → IsOfText all stop → IsOfInput left stop
input_of_text left all less h short Memory t = tt
input_of_text left all less h short (Refused line) t = of_all (λ bytes. IsRefused bytes line) left input_limit all (not_longer left input_limit all less h short) t
input_of_text left all less h short Read t = absurd t
input_of_text left all less h short Link t = absurd t
input_of_text left all less h short LongInput t = absurd t
input_of_text left all less h short Kept t = absurd t
input_of_text left all less h short Number t = absurd t
