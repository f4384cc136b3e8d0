-- From what a server did to the status and the text of its end.
use Rattle.std.proofs.Common.{◌≡◌, ◌⊎◌, ℕ, List, [], Option, Result, Ok, Err, IfErr, refl, sym, ap, ◌∙◌, subst, inl, inr}
use Rattle.std.specs.Result.{IsErrAnd}
use Rattle.lab_outside.specs.declared.exit.Status.{Status}
use Rattle.lab_outside.specs.declared.exit.Status.TheVariants as status
use Rattle.lab_outside.specs.Bytes.{Wrote}
use Rattle.serve_model.specs.Talk.{Grammar}
use Rattle.serve_run.specs.declared.plan.Plan.{Plan}
use Rattle.serve_run.specs.declared.stop.Stop.{Stop}
use Rattle.serve_run.specs.declared.stop.Stop.TheVariants.{Read, Link, Memory, LongInput, Refused, Kept, Number}
use Rattle.serve_run.specs.Plan.{WasRead}
use Rattle.serve_run.specs.Told.{Told}
use Rattle.lab_main.specs.Ends.{Ends, said, cut_off}
use Rattle.lab_main.specs.Edges.{IsAfterReading, Answers}
use Rattle.serve_model.specs.declared.served.ServeFault.TheVariants as fault
use Rattle.serve_loop.specs.declared.service.ServeStop.{ServeStop}
use Rattle.serve_loop.specs.declared.service.ServeStop.TheVariants as ended
use Rattle.serve_run.specs.Stop.{stop_of_serving, status_of, said_of, IsOfInput, IsOfServing, IsTold}
use Rattle.serve_run.specs.Answer.{HasEnded, HasStopped, IsEnd, long_input, refused, served, link_failed, too_much, no_room, EndsSo, IsStated, IsSilent, AnswersPrefix, IsServedWhole, WantsMemory, of_server}

module _ (g : Grammar) (count : ℕ) (input : Option (List ℕ)) (t : Told) where
  -- the input was no plan
  pub unread : (stop : Stop) → IsOfInput input stop → IsTold stop → IsEnd g count input t (status_of stop) (said_of stop)
  unread Read h told = absurd told
  unread Memory h told = absurd told
  unread LongInput h told = long_input h refl refl
  unread (Refused line) h told = refused h refl
  unread Link h told = absurd h
  unread Kept h told = absurd h
  unread Number h told = absurd h

  -- serving stopped early
  pub unserved : (p : Plan) → WasRead input p → (stop : Stop) → HasStopped g p t stop → IsTold stop → IsEnd g count input t (status_of stop) (said_of stop)
  unserved p read Read h told = absurd told
  unserved p read Memory h told = absurd told
  unserved p read LongInput h told = absurd h
  unserved p read (Refused line) h told = absurd h
  unserved p read Link h told = link_failed p read h.0 h.1 refl refl
  unserved p read Kept h told = too_much p read h refl refl
  unserved p read Number h told = no_room p read h refl refl

  -- the same stop is handed on
  pub ends_early : (r : Result (List ℕ) Stop) (stop : Stop) → IsErrAnd r (λ e. e ≡ stop) → (IsTold stop → IsEnd g count input t (status_of stop) (said_of stop)) → EndsSo g count input t r
  ends_early (Ok text) stop is h = absurd is
  ends_early (Err e) stop is h = subst (λ (s : Stop). IsTold s → IsEnd g count input t (status_of s) (said_of s)) (sym is) h

-- ---- memory that was wanting

module _ (g : Grammar) (input : Option (List ℕ)) (t : Told) where
  -- the same stop is handed on
  pub wants_on : (p : Plan) → WasRead input p → (r : Result (List ℕ) Stop) (stop : Stop) → IsErrAnd r (λ e. e ≡ stop) → HasStopped g p t stop → r ≡ Err Memory → WantsMemory g input t
  wants_on p read (Ok text) stop is h e = absurd is
  wants_on p read (Err f) stop is h e =
      let same : f ≡ Memory = cc in
      of_server p read (subst (HasStopped g p t) (sym is ∙ same) h)

  pub wants_none : (text : List ℕ) → (◌≡◌ {A = Result (List ℕ) Stop} (Ok text) (Err Memory)) → WantsMemory g input t
  wants_none text e = absurd (cc)

  -- no other end has it
  pub no_want : (is : Status) (text : List ℕ) (result : Status) (old new : Option (List ℕ)) (faults risen : ℕ) → (is ≡ status.Memory → ⊥) → Ends is text result old new faults risen → result ≡ status.Memory → WantsMemory g input t
  no_want is text result old new faults risen other (said e wrote) f = absurd (other (sym e ∙ f))
  no_want is text result old new faults risen other (cut_off e rose wrote) f = absurd (cc)

-- one stop has its status
memory_stop : (stop : Stop) → status_of stop ≡ status.Memory → stop ≡ Memory
memory_stop Memory h = refl
memory_stop Read h = absurd (cc)
memory_stop LongInput h = absurd (cc)
memory_stop (Refused line) h = absurd (cc)
memory_stop Link h = absurd (cc)
memory_stop Kept h = absurd (cc)
memory_stop Number h = absurd (cc)

pub stopped_wants : (stop : Stop) (result : Status) (old new : Option (List ℕ)) (faults risen : ℕ) → Ends (status_of stop) (said_of stop) result old new faults risen → result ≡ status.Memory → stop ≡ Memory
stopped_wants stop result old new faults risen (said e wrote) f = memory_stop stop (sym e ∙ f)
stopped_wants stop result old new faults risen (cut_off e rose wrote) f = absurd (cc)

pub no_want_done : status.Done ≡ status.Memory → ⊥
no_want_done h = cc

-- ---- a read that failed

-- what was read before, where that succeeded
pub read_before : {A B : Type 0} (x : A) (r : Result B Stop) (Same : Type 0) → (◌≡◌ {A = Result A Stop} (Ok x) (Err Read)) ⊎ Same → (r ≡ Err Read) ⊎ Same
read_before x r Same (inl e) = absurd (cc)
read_before x r Same (inr same) = inr same

-- the same stop is handed on
pub read_on : {A B : Type 0} (stop : Stop) (r : Result B Stop) (Same : Type 0) → IsErrAnd r (λ e. e ≡ stop) → (◌≡◌ {A = Result A Stop} (Err stop) (Err Read)) ⊎ Same → (r ≡ Err Read) ⊎ Same
read_on stop (Ok y) Same is h = absurd is
read_on stop (Err e) Same is (inl h) = inl (cc)
read_on stop (Err e) Same is (inr same) = inr same

-- it has its status
pub read_status : {A : Type 0} (stop : Stop) (is : Status) (Same : Type 0) → (stop ≡ Read → is ≡ status.ReadFault) → (◌≡◌ {A = Result A Stop} (Err stop) (Err Read)) ⊎ Same → (is ≡ status.ReadFault) ⊎ Same
read_status stop is Same says (inl e) = inl (says (cc))
read_status stop is Same says (inr same) = inr same

-- no other end has it
pub no_read_status : {A : Type 0} (x : A) (is : Status) (Same : Type 0) → (◌≡◌ {A = Result A Stop} (Ok x) (Err Read)) ⊎ Same → (is ≡ status.ReadFault) ⊎ Same
no_read_status x is Same (inl e) = absurd (cc)
no_read_status x is Same (inr same) = inr same

-- ---- a link that failed

-- it didn't fail before, where that succeeded
pub link_before : {A B : Type 0} (x : A) (r : Result B Stop) (Same : Type 0) → (◌≡◌ {A = Result A ServeStop} (Ok x) (Err ended.Link)) ⊎ Same → (r ≡ Err Link) ⊎ Same
link_before x r Same (inl e) = absurd (cc)
link_before x r Same (inr same) = inr same

-- the same fault is handed on
link_is : (stop : ServeStop) → stop ≡ ended.Link → stop_of_serving stop ≡ Link
link_is stop e = ap stop_of_serving e

pub link_on : {A B : Type 0} (stop : ServeStop) (r : Result B Stop) (Same : Type 0) → IsErrAnd r (λ e. e ≡ stop_of_serving stop) → (◌≡◌ {A = Result A ServeStop} (Err stop) (Err ended.Link)) ⊎ Same → (r ≡ Err Link) ⊎ Same
link_on stop (Ok y) Same is h = absurd is
link_on stop (Err e) Same is (inl h) = let failed : stop ≡ ended.Link = cc in inl (ap Err (is ∙ link_is stop failed))
link_on stop (Err e) Same is (inr same) = inr same

-- serving is the cause of each of its stops
stops_serving : (why : ServeStop) → IsOfServing (stop_of_serving why)
stops_serving ended.Link = tt
stops_serving (ended.Fault fault.Kept) = tt
stops_serving (ended.Fault fault.Number) = tt
stops_serving (ended.Fault fault.Memory) = tt

pub caused_on : {B : Type 0} (why : ServeStop) (r : Result B Stop) → IsErrAnd r (λ e. e ≡ stop_of_serving why) → IfErr r IsOfServing
caused_on why (Ok y) is = absurd is
caused_on why (Err e) is = subst IsOfServing (sym is) (stops_serving why)

-- none but a failed link is told as one
link_was : (why : ServeStop) → stop_of_serving why ≡ Link → why ≡ ended.Link
link_was ended.Link e = refl
link_was (ended.Fault fault.Kept) e = absurd (cc)
link_was (ended.Fault fault.Number) e = absurd (cc)
link_was (ended.Fault fault.Memory) e = absurd (cc)

pub fault_on : {A B : Type 0} {P : Type 0} (why : ServeStop) (r : Result B Stop) → IsErrAnd r (λ e. e ≡ stop_of_serving why) → (◌≡◌ {A = Result A ServeStop} (Err why) (Err ended.Link) → P) → r ≡ Err Link → P
fault_on why (Ok y) is h e = absurd is
fault_on why (Err f) is h e = let same : f ≡ Link = cc in h (ap Err (link_was why (sym is ∙ same)))

pub link_handed : {A B : Type 0} (stop : Stop) (r : Result B Stop) (Same : Type 0) → IsErrAnd r (λ e. e ≡ stop) → (◌≡◌ {A = Result A Stop} (Err stop) (Err Link)) ⊎ Same → (r ≡ Err Link) ⊎ Same
link_handed stop (Ok y) Same is h = absurd is
link_handed stop (Err e) Same is (inl h) = inl (cc)
link_handed stop (Err e) Same is (inr same) = inr same

-- it has its status, and no other end has it
pub link_status : {A : Type 0} (stop : Stop) (is : Status) (Same : Type 0) → (stop ≡ Link → is ≡ status.LinkFault) → (◌≡◌ {A = Result A Stop} (Err stop) (Err Link)) ⊎ Same → (is ≡ status.LinkFault) ⊎ Same
link_status stop is Same says (inl e) = inl (says (cc))
link_status stop is Same says (inr same) = inr same

pub no_link_status : {A : Type 0} (x : A) (is : Status) (Same : Type 0) → (◌≡◌ {A = Result A Stop} (Ok x) (Err Link)) ⊎ Same → (is ≡ status.LinkFault) ⊎ Same
no_link_status x is Same (inl e) = absurd (cc)
no_link_status x is Same (inr same) = inr same

-- ---- the statuses of the reasons

-- a status that comes only when the input was read
read_first : (stop : Stop) → IsAfterReading (status_of stop) → IsTold stop
read_first Read h = absurd h
read_first Memory h = absurd h
read_first LongInput h = tt
read_first (Refused line) h = tt
read_first Link h = tt
read_first Kept h = tt
read_first Number h = tt

pub after_reading : (stop : Stop) (result : Status) (old new : Option (List ℕ)) (faults risen : ℕ) → Ends (status_of stop) (said_of stop) result old new faults risen → (result ≡ status.WriteFault → IsTold stop) → IsAfterReading result → IsTold stop
after_reading stop result old new faults risen (said e wrote) told h = read_first stop (subst IsAfterReading e h)
after_reading stop result old new faults risen (cut_off e rose wrote) told h = told e

stated_told : (stop : Stop) → IsStated (status_of stop) → IsTold stop
stated_told Read h = absurd h
stated_told Memory h = absurd h
stated_told LongInput h = tt
stated_told (Refused line) h = tt
stated_told Link h = tt
stated_told Kept h = tt
stated_told Number h = tt

silent_said : (stop : Stop) → IsSilent (status_of stop) → said_of stop ≡ []
silent_said Read h = refl
silent_said Memory h = refl
silent_said LongInput h = absurd h
silent_said (Refused line) h = absurd h
silent_said Link h = absurd h
silent_said Kept h = absurd h
silent_said Number h = absurd h

no_write : (stop : Stop) → status_of stop ≡ status.WriteFault → ⊥
no_write Read h = cc
no_write Memory h = cc
no_write LongInput h = cc
no_write (Refused line) h = cc
no_write Link h = cc
no_write Kept h = cc
no_write Number h = cc

pub no_write_done : status.Done ≡ status.WriteFault → ⊥
no_write_done h = cc

module _ (result : Status) (old new : Option (List ℕ)) (faults risen : ℕ) where
  -- a text was written at the end
  module _ (Stated : Status → List ℕ → Type 0) (is : Status) (text : List ℕ) (ends : Ends is text result old new faults risen) where
    pub wrote_whole : (IsStated is → Stated is text) → IsStated result → Answers Stated result old new
    wrote_whole h k = whole ends
      where
        whole : Ends is text result old new faults risen → Answers Stated result old new
        whole (said e wrote) = record { text = text; stated = subst (λ (s : Status). Stated s text) (sym e) (h (subst IsStated e k)); wrote = wrote }
        whole (cut_off e rose wrote) = absurd (subst IsStated e k)

    pub wrote_part : Stated is text → (is ≡ status.WriteFault → ⊥) → result ≡ status.WriteFault → AnswersPrefix Stated old new
    wrote_part h other e = part ends
      where
        part : Ends is text result old new faults risen → AnswersPrefix Stated old new
        part (said f wrote) = absurd (other (sym f ∙ e))
        part (cut_off f rose wrote) = record { is = is; text = text; stated = h; wrote = wrote }

    pub wrote_none : (IsSilent is → text ≡ []) → IsSilent result → Wrote old new []
    wrote_none none k = silent ends
      where
        silent : Ends is text result old new faults risen → Wrote old new []
        silent (said e wrote) = subst (Wrote old new) (none (subst IsSilent e k)) wrote
        silent (cut_off e rose wrote) = absurd (subst IsSilent e k)

  -- the same, where there was no text to write at the end
  module _ (Stated : Status → List ℕ → Type 0) (stop : Stop) (stated : IsTold stop → Stated (status_of stop) (said_of stop)) (ends : Ends (status_of stop) (said_of stop) result old new faults risen) where
    pub stopped_whole : IsStated result → Answers Stated result old new
    stopped_whole k = wrote_whole Stated (status_of stop) (said_of stop) ends (λ s. stated (stated_told stop s)) k

    pub stopped_part : (result ≡ status.WriteFault → IsTold stop) → result ≡ status.WriteFault → AnswersPrefix Stated old new
    stopped_part told e = wrote_part Stated (status_of stop) (said_of stop) ends (stated (told e)) (no_write stop) e

    pub stopped_silent : IsSilent result → Wrote old new []
    stopped_silent k = wrote_none Stated (status_of stop) (said_of stop) ends (silent_said stop) k

-- what Done says
no_limit : (is : Status) → is ≡ status.Done → is ≡ status.Limit → ⊥
no_limit is d e = cc

no_refusal : (is : Status) → is ≡ status.Done → is ≡ status.Refused → ⊥
no_refusal is d e = cc

no_link_fault : (is : Status) → is ≡ status.Done → is ≡ status.LinkFault → ⊥
no_link_fault is d e = cc

module _ (g : Grammar) (count : ℕ) (input old new : Option (List ℕ)) (t : Told) (text : List ℕ) (wrote : Wrote old new text) where
  pub done_served : (p : Plan) → WasRead input p → HasEnded g p count t text → IsServedWhole g count input old new t
  done_served p read h =
      record {
        plan = p;
        was_read = read;
        number = h.number;
        within = h.within;
        short = h.short;
        gone = h.gone;
        has = h.has;
        wrote = subst (Wrote old new) h.text_is wrote;
      }

  pub done_whole : (is : Status) → is ≡ status.Done → IsEnd g count input t is text → IsServedWhole g count input old new t
  done_whole is d (long_input more e w) = absurd (no_limit is d e)
  done_whole is d (refused says e) = absurd (no_refusal is d e)
  done_whole is d (link_failed p read number has e w) = absurd (no_link_fault is d e)
  done_whole is d (too_much p read has e w) = absurd (no_limit is d e)
  done_whole is d (no_room p read lacks e w) = absurd (no_limit is d e)
  done_whole is d (served p read h e) = done_served p read h
