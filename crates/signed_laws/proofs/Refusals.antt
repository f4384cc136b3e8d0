-- The refusal of a head has the status of its code.
use Rattle.std.proofs.Common.{◌≡◌, ℕ, Bool, true, false, if◌then◌else◌, Option, Some, None, Result, Ok, Err, refl, subst}
use Rattle.std.specs.Prelude.{⊤}
use Rattle.layout_text.specs.declared.keys.Access.{Access}
use Rattle.http_model.specs.declared.head.Head.{Head}
use Rattle.s3_model.specs.declared.ask.Ask.{Ask}
use Rattle.s3_model.specs.declared.fault.Code.TheVariants.{InvalidRequest, NotImplemented, MissingContentLength, EntityTooLarge, AccessDenied}
use Rattle.s3_model.specs.declared.fault.S3Fault.{S3Fault}
use Rattle.s3_model.specs.Words.{is_empty}
use Rattle.s3_model.specs.Faults.{fault_of, head_fault_of}
use Rattle.s3_model.specs.Headers.{has_refused_header, is_bad_length}
use Rattle.s3_model.specs.Targets.{is_bad_target}
use Rattle.s3_model.specs.Asks.{operation_of, lacks_length, is_too_large, length_refusal, if_served, asked_of}
use Rattle.sig_v4.specs.declared.signed.Signed.{Signed}
use Rattle.sig_v4.specs.declared.refusal.Refusal.{Refusal}
use Rattle.sig_v4.specs.Checks.{checked}
use Rattle.serve_model.specs.declared.admitted.Admitted.{Admitted}
use Rattle.serve_model.specs.declared.admitted.Signer.{Signer}
use Rattle.serve_model.specs.Keys.{may}
use Rattle.serve_model.specs.Admitting.{anyone, signer_of, signer, unless_long, if_signed, if_asked, admitted}
use Rattle.signed_laws.specs.Allowed.{IsOfCode}

-- if there is a refusal, it has the status of its code
abbrev OfCode : {X : Type 0} → Result X S3Fault → Type 0
OfCode (Ok x) = ⊤
OfCode (Err fault) = IsOfCode fault

abbrev SomeOfCode : Option S3Fault → Type 0
SomeOfCode None = ⊤
SomeOfCode (Some fault) = IsOfCode fault

either : {X : Type 0} (b : Bool) (x y : Result X S3Fault) → OfCode x → OfCode y → OfCode (if b then x else y)
either true x y h k = h
either false x y h k = k

either_some : (b : Bool) (x y : Option S3Fault) → SomeOfCode x → SomeOfCode y → SomeOfCode (if b then x else y)
either_some true x y h k = h
either_some false x y h k = k

module _ (head : Head) where
  length_of_code : (ask : Ask) → SomeOfCode (length_refusal head ask)
  length_of_code ask =
      either_some (lacks_length head ask) (Some (fault_of MissingContentLength)) _ refl
      (either_some (is_bad_length head.headers) (Some (fault_of InvalidRequest)) _ refl
      (either_some (is_too_large head) (Some (fault_of EntityTooLarge)) None refl tt))

  served_of_code : (o : Option Ask) → OfCode (if_served head o)
  served_of_code None = refl
  served_of_code (Some ask) = either (has_refused_header head.headers) (Err (fault_of NotImplemented)) (Ok ask) refl tt

  asked_of_code : OfCode (asked_of head)
  asked_of_code = either (is_bad_target head.target) (Err (fault_of InvalidRequest)) (if_served head (operation_of head)) refl (served_of_code (operation_of head))

  module _ (access : Access) (now : ℕ) where
    long_of_code : (a : Admitted) (o : Option S3Fault) → SomeOfCode o → OfCode (unless_long a o)
    long_of_code a None h = tt
    long_of_code a (Some fault) h = h

    check_of_code : (c : Result Signed Refusal) → OfCode (signer_of c)
    check_of_code (Ok signed) = tt
    check_of_code (Err why) = refl

    signer_of_code : OfCode (signer access now head)
    signer_of_code = either (is_empty access.keys) (Ok anyone) (signer_of (checked head access.keys access.region now)) tt (check_of_code (checked head access.keys access.region now))

    signed_of_code : (ask : Ask) (s : Result Signer S3Fault) → OfCode s → OfCode (if_signed access head ask s)
    signed_of_code ask (Ok s) h =
        let a : Admitted = record { ask = ask; who = s.who; digest = s.digest } in
        either (may access s.who ask) (unless_long a (length_refusal head ask)) (Err (head_fault_of AccessDenied)) (long_of_code a (length_refusal head ask) (length_of_code ask)) refl
    signed_of_code ask (Err fault) h = h

    if_asked_of_code : (r : Result Ask S3Fault) → OfCode r → OfCode (if_asked access now head r)
    if_asked_of_code (Ok ask) h = signed_of_code ask (signer access now head) signer_of_code
    if_asked_of_code (Err fault) h = h

    pub admitted_of_code : (fault : S3Fault) → admitted access now head ≡ Err fault → IsOfCode fault
    admitted_of_code fault e = subst OfCode e (if_asked_of_code (asked_of head) asked_of_code)
