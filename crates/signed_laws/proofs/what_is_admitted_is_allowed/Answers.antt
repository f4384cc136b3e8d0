use Rattle.std.proofs.Common.{◌≡◌, ◌≤◌, Bool, true, false, cond, List, [], ◌∷◌, refl, arith}
use Rattle.std.specs.List.{AllByRecursion, filter}
use Rattle.s3_model.specs.declared.fault.Code.{Code}
use Rattle.s3_model.specs.declared.fault.Code.TheVariants as code
use Rattle.s3_model.specs.Faults.{status_of}
use Rattle.serve_model.specs.Keys.{has_bucket, read_by}
use Rattle.serve_model.specs.Clusters.{cluster}
use Rattle.serve_model.specs.Plain.{plain}
use Rattle.serve_changes.specs.Changing.{changing}
use Rattle.signed_laws.proofs.Admitted.{allowed}
use Rattle.signed_laws.proofs.Turns.{turn_is}
use Rattle.signed_laws.proofs.what_is_admitted_is_allowed.Goals as goal

-- each item that a filter leaves passes its test
passes : {X : Type 0} (test : X → Bool) (xs : List X) → AllByRecursion (λ x. test x ≡ true) (filter test xs)
passes test [] = tt
passes {X} test (x ∷ xs) =
    elim (test x) as (λ b. test x ≡ b → AllByRecursion (λ y. test y ≡ true) (cond b (x ∷ filter test xs) (filter test xs))) [
      | true ↦ λ e. (e, passes test xs)
      | false ↦ λ e. passes test xs
    ] refl

many : (c : Code) → 400 ≤ status_of c
many code.InvalidRequest = omega arith
many code.NotImplemented = omega arith
many code.MissingContentLength = omega arith
many code.EntityTooLarge = omega arith
many code.IncompleteBody = omega arith
many code.NoSuchBucket = omega arith
many code.KeyTooLongError = omega arith
many code.BadDigest = omega arith
many code.InvalidArgument = omega arith
many code.NoSuchKey = omega arith
many code.InvalidRange = omega arith
many code.AccessDenied = omega arith
many code.AuthorizationHeaderMalformed = omega arith
many code.InvalidAccessKeyId = omega arith
many code.RequestTimeTooSkewed = omega arith
many code.SignatureDoesNotMatch = omega arith
many code.XAmzContentSHA256Mismatch = omega arith

pub returns-clause-admitted : goal.returns-clause-admitted
returns-clause-admitted c access now head a some h = allowed access now head a some h

pub returns-clause-of_map : goal.returns-clause-of_map
returns-clause-of_map c buckets g some last p bytes = let h = turn_is plain buckets some g last bytes p in (h.1, h.2)

pub returns-clause-of_cluster : goal.returns-clause-of_cluster
returns-clause-of_cluster c buckets g some last p bytes = let h = turn_is cluster buckets some g last bytes p in (h.1, h.2)

pub returns-clause-of_changing : goal.returns-clause-of_changing
returns-clause-of_changing c buckets g some last p bytes = let h = turn_is changing buckets some g last bytes p in (h.1, h.2)

pub returns-clause-statuses : goal.returns-clause-statuses
returns-clause-statuses c x = many x

pub returns-clause-shown : goal.returns-clause-shown
returns-clause-shown c buckets place = passes (has_bucket (read_by buckets.access place)) buckets.names
