-- What is told, where anybody hears it.
use Rattle.std.proofs.Common.{◌≡◌, Bool, true, false, List, [], refl, ap}
use Rattle.std.specs.Prelude.{if◌then◌else◌}
use Rattle.store_model.specs.declared.event.Told.{Told}
use Rattle.store_model.specs.Run.{Outcome}
use Rattle.s3_world.specs.Doing.{Tells, TellsHeard}

pub heard_when : (heard : Bool) (told : Told) (o : Outcome) → (heard ≡ true → Tells told o) → TellsHeard heard told o
heard_when true told o h = h refl
heard_when false told o h = tt

pub when_heard : (heard : Bool) (told : Told) (o : Outcome) → TellsHeard heard told o → heard ≡ true → Tells told o
when_heard true told o h e = h
when_heard false told o h e = cc

pub heard_all : {A : Type 0} (heard : Bool) (all : List A) → heard ≡ true → (if heard then all else []) ≡ all
heard_all heard all e = ap (λ b. if b then all else []) e
