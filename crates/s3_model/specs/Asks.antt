-- What a head asks, or the first refusal that applies.
use Rattle.std.specs.Prelude.{◌≡◌, ℕ, Bool, false, true, ◌&&◌, nat_lt, List, codes, bytes_eq, Option, Some, None, is_none, option_and_then, Result, Ok, Err, ⊤, if◌then◌else◌}
use Rattle.http_model.specs.declared.head.Head.{Head}
use Rattle.s3_model.specs.declared.ask.Ask.{Ask}
use Rattle.s3_model.specs.declared.ask.Ask.TheVariants.{ListBuckets, HeadBucket, List as Listing, BadList, Get, Head as HeadObject, Delete, Put, Copy}
use Rattle.s3_model.specs.declared.ask.Range.{Range}
use Rattle.s3_model.specs.declared.fault.AskFault.{AskFault}
use Rattle.s3_model.specs.declared.fault.AskFault.TheVariants.{Refused, Memory}
use Rattle.s3_model.specs.declared.fault.Code.TheVariants.{InvalidRequest, NotImplemented, MissingContentLength, EntityTooLarge}
use Rattle.s3_model.specs.declared.fault.S3Fault.{S3Fault}
use Rattle.s3_model.specs.declared.place.Place.{Place}
use Rattle.s3_model.specs.declared.place.Place.TheVariants.{Root, Bucket, Object}
use Rattle.s3_model.specs.Words.{is_empty, header}
use Rattle.s3_model.specs.Faults.{fault_of}
use Rattle.s3_model.specs.Ranges.{range_of}
use Rattle.s3_model.specs.Targets.{path_of, query_of, place_of, is_bad_target, parameters_of}
use Rattle.s3_model.specs.Headers.{has_refused_header, is_bad_length, length_of, put_length, body_limit, stored_headers, copy_headers}
use Rattle.s3_model.specs.Lists.{is_list, list_of}

-- the method is this word, with case
abbrev pub is_method : Head → List ℕ → Bool
is_method head word = bytes_eq head.method word

-- the range that the headers ask
abbrev pub asked_range : Head → Option Range
asked_range head = option_and_then range_of (header head.headers (codes "range"))

-- PUT of a key: a copy where a source is named, else an upload
abbrev pub write_of : Head → List ℕ → List ℕ → Option (List ℕ) → Ask
write_of head bucket key (Some source) = Copy source bucket key (copy_headers head.headers)
write_of head bucket key None = Put bucket key (put_length head.headers) (header head.headers (codes "content-md5")) (stored_headers head.headers)

-- what a method asks of a key
abbrev pub object_ask : Head → List ℕ → List ℕ → Option Ask
object_ask head bucket key =
    if is_method head (codes "GET") then Some (Get bucket key (asked_range head))
    else if is_method head (codes "HEAD") then Some (HeadObject bucket key (asked_range head))
    else if is_method head (codes "DELETE") then Some (Delete bucket key)
    else if is_method head (codes "PUT") then Some (write_of head bucket key (header head.headers (codes "x-amz-copy-source")))
    else None

-- what a method and parameters ask of a bucket
abbrev pub bucket_ask : Head → List ℕ → List (List ℕ × List ℕ) → Option Ask
bucket_ask head bucket parameters =
    if is_method head (codes "HEAD") && is_empty parameters then Some (HeadBucket bucket)
    else if is_method head (codes "GET") && is_list parameters then Some (list_of bucket parameters)
    else None

-- which operation the method, the place and the parameters ask, if it is served
abbrev pub operation : Head → Place → List (List ℕ × List ℕ) → Option Ask
operation head Root parameters = if is_method head (codes "GET") && is_empty parameters then Some ListBuckets else None
operation head (Bucket bucket) parameters = bucket_ask head bucket parameters
operation head (Object bucket key) parameters = if is_empty parameters then object_ask head bucket key else None

-- the operation that a head asks
abbrev pub operation_of : Head → Option Ask
operation_of head = operation head (place_of (path_of head.target)) (parameters_of (query_of head.target))

-- an upload
abbrev pub is_put : Ask → Bool
is_put ListBuckets = false
is_put (HeadBucket bucket) = false
is_put (Listing bucket ask delimiter url token start) = false
is_put (BadList bucket) = false
is_put (Get bucket key range) = false
is_put (HeadObject bucket key range) = false
is_put (Delete bucket key) = false
is_put (Put bucket key length md5 headers) = true
is_put (Copy from bucket key headers) = false

-- an upload announces no length
abbrev pub lacks_length : Head → Ask → Bool
lacks_length head ask = is_put ask && is_none (header head.headers (codes "content-length"))

-- a length is announced that is greater than a body may be
abbrev pub is_too_large : Head → Bool
is_too_large head = nat_lt body_limit (length_of head.headers)

-- the first refusal by the announced length, in this order: an upload has none, it is no number, it is too great
abbrev pub length_refusal : Head → Ask → Option S3Fault
length_refusal head ask =
    if lacks_length head ask then Some (fault_of MissingContentLength)
    else if is_bad_length head.headers then Some (fault_of InvalidRequest)
    else if is_too_large head then Some (fault_of EntityTooLarge)
    else None

-- an operation that is served, if the headers ask nothing that isn't
abbrev pub if_served : Head → Option Ask → Result Ask S3Fault
if_served head None = Err (fault_of NotImplemented)
if_served head (Some ask) =
    if has_refused_header head.headers then Err (fault_of NotImplemented) else Ok ask

-- what a head asks, or the first refusal that applies, in this order: the target isn't a path or its key isn't text, no operation is asked that is served, a header isn't served
abbrev pub asked_of : Head → Result Ask S3Fault
asked_of head =
    if is_bad_target head.target then Err (fault_of InvalidRequest)
    else if_served head (operation_of head)

-- an answer is what the head asks or its first refusal; want of memory says nothing
abbrev pub Understands : Head → Result Ask AskFault → Type 0
Understands head (Ok ask) = asked_of head ≡ Ok ask
Understands head (Err (Refused fault)) = asked_of head ≡ Err fault
Understands head (Err Memory) = ⊤
