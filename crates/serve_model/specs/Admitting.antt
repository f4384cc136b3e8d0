-- Who asks, where keys are configured, and for what a head is refused.
use Rattle.std.specs.Prelude.{◌≡◌, ⊤, ℕ, Option, Some, None, Result, Ok, Err, if◌then◌else◌}
use Rattle.layout_text.specs.declared.keys.Access.{Access}
use Rattle.http_model.specs.declared.head.Head.{Head}
use Rattle.s3_model.specs.declared.ask.Ask.{Ask}
use Rattle.s3_model.specs.declared.fault.AskFault.{AskFault}
use Rattle.s3_model.specs.declared.fault.AskFault.TheVariants as fault
use Rattle.s3_model.specs.declared.fault.Code.{Code}
use Rattle.s3_model.specs.declared.fault.Code.TheVariants.{AccessDenied, AuthorizationHeaderMalformed, InvalidAccessKeyId, RequestTimeTooSkewed, SignatureDoesNotMatch}
use Rattle.s3_model.specs.declared.fault.S3Fault.{S3Fault}
use Rattle.s3_model.specs.Words.{is_empty}
use Rattle.s3_model.specs.Faults.{head_fault_of}
use Rattle.s3_model.specs.Asks.{length_refusal, asked_of}
use Rattle.sig_v4.specs.declared.signed.Signed.{Signed}
use Rattle.sig_v4.specs.declared.refusal.Refusal.{Refusal}
use Rattle.sig_v4.specs.declared.refusal.Refusal.TheVariants.{Unsigned, Malformed, UnknownKey, Skewed, WrongSignature, Memory}
use Rattle.sig_v4.specs.Checks.{checked}
use Rattle.serve_model.specs.declared.admitted.Admitted.{Admitted}
use Rattle.serve_model.specs.declared.admitted.Signer.{Signer}
use Rattle.serve_model.specs.Keys.{may}

-- ---- who asks

-- nobody need sign
abbrev pub anyone : Signer
anyone = record { who = None; digest = None }

-- the code with which a signature is refused; want of memory is never due
abbrev pub code_of : Refusal → Code
code_of Unsigned = AccessDenied
code_of Malformed = AuthorizationHeaderMalformed
code_of UnknownKey = InvalidAccessKeyId
code_of Skewed = RequestTimeTooSkewed
code_of WrongSignature = SignatureDoesNotMatch
code_of Memory = AccessDenied

-- who signed, where a signature was checked, or why it is refused
abbrev pub signer_of : Result Signed Refusal → Result Signer S3Fault
signer_of (Ok signed) = Ok (record { who = Some signed.place; digest = signed.digest })
signer_of (Err why) = Err (head_fault_of (code_of why))

-- who asks by a head, at a time in milliseconds, or why it is refused
abbrev pub signer : Access → ℕ → Head → Result Signer S3Fault
signer access now head = if is_empty access.keys then Ok anyone else signer_of (checked head access.keys access.region now)

-- an answer is who asks, or the refusal; want of memory says nothing
abbrev pub IsSigner : Access → ℕ → Head → Result Signer AskFault → Type 0
IsSigner access now head (Ok s) = signer access now head ≡ Ok s
IsSigner access now head (Err (fault.Refused why)) = signer access now head ≡ Err why
IsSigner access now head (Err fault.Memory) = ⊤

-- ---- a head

-- an ask of somebody whose length is refused, or isn't
abbrev pub unless_long : Admitted → Option S3Fault → Result Admitted S3Fault
unless_long a None = Ok a
unless_long a (Some fault) = Err fault

-- an ask of somebody, if they may ask it, and then if its length is in order
abbrev pub if_allowed : Access → Head → Admitted → Result Admitted S3Fault
if_allowed access head a = if may access a.who a.ask then unless_long a (length_refusal head a.ask) else Err (head_fault_of AccessDenied)

-- an ask, if it is known who asks it
abbrev pub if_signed : Access → Head → Ask → Result Signer S3Fault → Result Admitted S3Fault
if_signed access head ask (Ok s) = if_allowed access head (record { ask = ask; who = s.who; digest = s.digest })
if_signed access head ask (Err fault) = Err fault

-- an ask that is served
abbrev pub if_asked : Access → ℕ → Head → Result Ask S3Fault → Result Admitted S3Fault
if_asked access now head (Ok ask) = if_signed access head ask (signer access now head)
if_asked access now head (Err fault) = Err fault

-- what a head asks and who, or the first refusal that applies, in this order: what it asks isn't served, its signature, whether its key may ask it, its length
abbrev pub admitted : Access → ℕ → Head → Result Admitted S3Fault
admitted access now head = if_asked access now head (asked_of head)

-- an answer is what is admitted or the first refusal; want of memory says nothing
abbrev pub Admits : Access → ℕ → Head → Result Admitted AskFault → Type 0
Admits access now head (Ok a) = admitted access now head ≡ Ok a
Admits access now head (Err (fault.Refused why)) = admitted access now head ≡ Err why
Admits access now head (Err fault.Memory) = ⊤
