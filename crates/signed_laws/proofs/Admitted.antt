-- What is admitted where keys are configured is allowed.
use Rattle.std.proofs.Common.{◌≡◌, ℕ, Bool, true, false, if◌then◌else◌, Option, Some, None, Result, Ok, Err, refl, subst}
use Rattle.std.proofs.lemmas.Bool.{cond-false}
use Rattle.layout_text.specs.declared.keys.Access.{Access}
use Rattle.http_model.specs.declared.head.Head.{Head}
use Rattle.s3_model.specs.declared.ask.Ask.{Ask}
use Rattle.s3_model.specs.declared.fault.Code.TheVariants.{AccessDenied}
use Rattle.s3_model.specs.declared.fault.S3Fault.{S3Fault}
use Rattle.s3_model.specs.Words.{is_empty}
use Rattle.s3_model.specs.Faults.{head_fault_of}
use Rattle.s3_model.specs.Asks.{length_refusal, asked_of}
use Rattle.sig_v4.specs.declared.signed.Signed.{Signed}
use Rattle.sig_v4.specs.declared.refusal.Refusal.{Refusal}
use Rattle.sig_v4.specs.Checks.{checked}
use Rattle.serve_model.specs.declared.admitted.Admitted.{Admitted}
use Rattle.serve_model.specs.declared.admitted.Signer.{Signer}
use Rattle.serve_model.specs.Keys.{may}
use Rattle.serve_model.specs.Admitting.{anyone, signer_of, signer, unless_long, if_signed, if_asked, admitted}
use Rattle.signed_laws.specs.Allowed.{IsAllowed}

module _ (access : Access) (now : ℕ) (head : Head) (a : Admitted) where
  -- an ask that a key signed
  abbrev of_key : Ask → Signed → Admitted
  of_key ask signed = record { ask = ask; who = Some signed.place; digest = signed.digest }

  by_length : (ask : Ask) (signed : Signed) → asked_of head ≡ Ok ask → checked head access.keys access.region now ≡ Ok signed → may access (Some signed.place) ask ≡ true →
      (o : Option S3Fault) → length_refusal head ask ≡ o → unless_long (of_key ask signed) o ≡ Ok a → IsAllowed access now head a
  by_length ask signed asks is allows None long h =
      let same : of_key ask signed ≡ a = cc in
      subst (IsAllowed access now head) same (record { signed = signed; is_signed = is; who = refl; digest = refl; asks = asks; may_ask = allows; long = long })
  by_length ask signed asks is allows (Some fault) long h = cc

  by_leave : (ask : Ask) (signed : Signed) → asked_of head ≡ Ok ask → checked head access.keys access.region now ≡ Ok signed →
      (b : Bool) → may access (Some signed.place) ask ≡ b → (if b then unless_long (of_key ask signed) (length_refusal head ask) else Err (head_fault_of AccessDenied)) ≡ Ok a → IsAllowed access now head a
  by_leave ask signed asks is true allows h = by_length ask signed asks is allows (length_refusal head ask) refl h
  by_leave ask signed asks is false denies h = cc

  by_check : (ask : Ask) → asked_of head ≡ Ok ask → (c : Result Signed Refusal) → checked head access.keys access.region now ≡ c → if_signed access head ask (signer_of c) ≡ Ok a → IsAllowed access now head a
  by_check ask asks (Ok signed) is h = by_leave ask signed asks is (may access (Some signed.place) ask) refl h
  by_check ask asks (Err why) is h = cc

  by_ask : is_empty access.keys ≡ false → (r : Result Ask S3Fault) → asked_of head ≡ r → if_asked access now head r ≡ Ok a → IsAllowed access now head a
  by_ask some (Ok ask) asks h =
      let due : Result Signer S3Fault = signer_of (checked head access.keys access.region now) in
      let same : signer access now head ≡ due = cond-false (is_empty access.keys) (Ok anyone) due some in
      by_check ask asks (checked head access.keys access.region now) refl (subst (λ s. if_signed access head ask s ≡ Ok a) same h)
  by_ask some (Err fault) asks h = cc

  pub allowed : is_empty access.keys ≡ false → admitted access now head ≡ Ok a → IsAllowed access now head a
  allowed some h = by_ask some (asked_of head) refl h
