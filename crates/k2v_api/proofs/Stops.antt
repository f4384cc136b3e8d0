-- Which fault stands behind why a replay gave up.
use Rattle.std.proofs.Common.{◌≡◌, ℕ, Result, Ok, Err, refl, sym, ap, ◌∙◌}
use Rattle.std.specs.Result.{IsErrAnd}
use Rattle.schedule_text.specs.declared.fault.ScheduleFault.{ScheduleFault}
use Rattle.schedule_text.specs.declared.fault.ScheduleFault.TheVariants.{BadLine as FaultLine, TooManyEvents as FaultMany, Memory as FaultMemory}
use Rattle.k2v_api.specs.declared.stop.Stop.{Stop}
use Rattle.k2v_api.specs.declared.stop.Stop.TheVariants.{TooManyEvents, BadLine}
use Rattle.k2v_api.specs.Stop.{stop_of_fault}

line_back : (fault : ScheduleFault) (n : ℕ) → stop_of_fault fault ≡ BadLine n → fault ≡ FaultLine n
line_back (FaultLine m) n e = let same : m ≡ n = cc in ap FaultLine same
line_back FaultMany n e = cc
line_back FaultMemory n e = cc

pub bad_line_back : {A : Type 0} (r : Result A Stop) (fault : ScheduleFault) (n : ℕ) → IsErrAnd r (λ stop. stop ≡ stop_of_fault fault) → r ≡ Err (BadLine n) → fault ≡ FaultLine n
bad_line_back (Ok x) fault n is e = cc
bad_line_back (Err stop) fault n is e = let same : stop ≡ BadLine n = cc in line_back fault n (sym is ∙ same)

many_back : (fault : ScheduleFault) → stop_of_fault fault ≡ TooManyEvents → fault ≡ FaultMany
many_back (FaultLine m) e = cc
many_back FaultMany e = refl
many_back FaultMemory e = cc

pub many_events_back : {A : Type 0} (r : Result A Stop) (fault : ScheduleFault) → IsErrAnd r (λ stop. stop ≡ stop_of_fault fault) → r ≡ Err TooManyEvents → fault ≡ FaultMany
many_events_back (Ok x) fault is e = cc
many_events_back (Err stop) fault is e = let same : stop ≡ TooManyEvents = cc in many_back fault (sym is ∙ same)
