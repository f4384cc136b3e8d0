-- The refusals: the status and the code of each, and whether the connection closes after it.
use Rattle.std.specs.Prelude.{ℕ, Bool, true, false}
use Rattle.s3_model.specs.declared.fault.Code.{Code}
use Rattle.s3_model.specs.declared.fault.Code.TheVariants.{InvalidRequest, NotImplemented, MissingContentLength, EntityTooLarge, IncompleteBody, NoSuchBucket, KeyTooLongError, BadDigest, InvalidArgument, NoSuchKey, InvalidRange, AccessDenied, AuthorizationHeaderMalformed, InvalidAccessKeyId, RequestTimeTooSkewed, SignatureDoesNotMatch, XAmzContentSHA256Mismatch}
use Rattle.s3_model.specs.declared.fault.S3Fault.{S3Fault}

-- the status that an error code is answered with
abbrev pub status_of : Code → ℕ
status_of InvalidRequest = 400
status_of NotImplemented = 501
status_of MissingContentLength = 411
status_of EntityTooLarge = 400
status_of IncompleteBody = 400
status_of NoSuchBucket = 404
status_of KeyTooLongError = 400
status_of BadDigest = 400
status_of InvalidArgument = 400
status_of NoSuchKey = 404
status_of InvalidRange = 416
status_of AccessDenied = 403
status_of AuthorizationHeaderMalformed = 400
status_of InvalidAccessKeyId = 403
status_of RequestTimeTooSkewed = 403
status_of SignatureDoesNotMatch = 403
status_of XAmzContentSHA256Mismatch = 400

-- the connection closes after it, since where the next request begins isn't known or may not be waited for
abbrev pub closes_after : Code → Bool
closes_after InvalidRequest = true
closes_after NotImplemented = true
closes_after MissingContentLength = true
closes_after EntityTooLarge = true
closes_after IncompleteBody = true
closes_after NoSuchBucket = false
closes_after KeyTooLongError = false
closes_after BadDigest = false
closes_after InvalidArgument = false
closes_after NoSuchKey = false
closes_after InvalidRange = false
closes_after AccessDenied = false  -- of a copy's source; a head that is refused so closes the connection all the same
closes_after AuthorizationHeaderMalformed = true
closes_after InvalidAccessKeyId = true
closes_after RequestTimeTooSkewed = true
closes_after SignatureDoesNotMatch = true
closes_after XAmzContentSHA256Mismatch = false

-- the refusal with a code
abbrev pub fault_of : Code → S3Fault
fault_of code = record { status = status_of code; code = code; close = closes_after code }

-- the same where a head is refused with it: the connection closes, since the body isn't read
abbrev pub head_fault_of : Code → S3Fault
head_fault_of code = record { status = status_of code; code = code; close = true }
