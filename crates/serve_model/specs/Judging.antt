-- What becomes of a request whose body was read: which refusal comes first, what the store is asked, and what its end is answered with.
use Rattle.std.specs.Prelude.{ℕ, ◌≤◌, nat_le, ⊤, Bool, true, false, not, ◌&&◌, ◌||◌, List, [], length, filter, Option, Some, None, is_none, option_map, if◌then◌else◌}
use Rattle.layout_text.specs.declared.keys.Access.{Access}
use Rattle.crdt_rows.specs.declared.version.Version.{Version}
use Rattle.crdt_rows.specs.declared.body.Meta.{Meta}
use Rattle.flow_model.specs.declared.order.Order.{Order}
use Rattle.flow_model.specs.declared.order.Order.TheVariants as order
use Rattle.flow_model.specs.declared.flow.FlowEnd.{FlowEnd}
use Rattle.flow_model.specs.declared.flow.FlowEnd.TheVariants.{Stored, Found, Nothing, Listed, Superseded, Aborted}
use Rattle.flow_model.specs.Blocks.{inline_limit}
use Rattle.s3_model.specs.declared.ask.Ask.{Ask}
use Rattle.s3_model.specs.declared.ask.Ask.TheVariants as ask
use Rattle.s3_model.specs.declared.ask.Range.{Range}
use Rattle.s3_model.specs.declared.page.ListAsk.{ListAsk}
use Rattle.s3_model.specs.declared.fault.Code.{Code}
use Rattle.s3_model.specs.declared.fault.Code.TheVariants.{NoSuchBucket, KeyTooLongError, BadDigest, InvalidArgument, NoSuchKey, InvalidRange, AccessDenied, XAmzContentSHA256Mismatch}
use Rattle.s3_model.specs.declared.reply.Reply.{Reply}
use Rattle.s3_model.specs.declared.reply.Reply.TheVariants as reply
use Rattle.s3_model.specs.Asks.{is_put}
use Rattle.s3_model.specs.Page.{page_of}
use Rattle.s3_model.specs.Ranges.{span_of}
use Rattle.s3_model.specs.Sources.{source_of, is_long_key, is_digest_of}
use Rattle.sig_v4.specs.Bodies.{is_body_of}
use Rattle.serve_model.specs.declared.answer.Answer.{Answer}
use Rattle.serve_model.specs.declared.answer.Answer.TheVariants as answer
use Rattle.serve_model.specs.declared.buckets.Buckets.{Buckets}
use Rattle.serve_model.specs.declared.request.Request.{Request}
use Rattle.serve_model.specs.Keys.{has_bucket, may_read}
use Rattle.serve_model.specs.Stores.{Upload}

-- the bucket that is asked; none for the list of all
abbrev pub bucket_of : Ask → Option (List ℕ)
bucket_of ask.ListBuckets = None
bucket_of (ask.HeadBucket bucket) = Some bucket
bucket_of (ask.List bucket list delimiter url token start) = Some bucket
bucket_of (ask.BadList bucket) = Some bucket
bucket_of (ask.Get bucket key range) = Some bucket
bucket_of (ask.Head bucket key range) = Some bucket
bucket_of (ask.Delete bucket key) = Some bucket
bucket_of (ask.Put bucket key length md5 headers) = Some bucket
bucket_of (ask.Copy from bucket key headers) = Some bucket

-- the key that is asked; the empty one where none is
abbrev pub key_of : Ask → List ℕ
key_of ask.ListBuckets = []
key_of (ask.HeadBucket bucket) = []
key_of (ask.List bucket list delimiter url token start) = []
key_of (ask.BadList bucket) = []
key_of (ask.Get bucket key range) = key
key_of (ask.Head bucket key range) = key
key_of (ask.Delete bucket key) = key
key_of (ask.Put bucket key length md5 headers) = key
key_of (ask.Copy from bucket key headers) = key

-- what is written has a key of a byte at least
abbrev pub IsKeyed : Ask → Type 0
IsKeyed (ask.Delete bucket key) = 1 ≤ length key
IsKeyed (ask.Put bucket key length' md5 headers) = 1 ≤ length key
IsKeyed (ask.Copy from bucket key headers) = 1 ≤ length key
IsKeyed _ = ⊤

-- a bucket is asked that isn't one of these
abbrev pub is_missing : List (List ℕ) → Option (List ℕ) → Bool
is_missing buckets None = false
is_missing buckets (Some name) = not (has_bucket buckets name)

-- the body isn't the one whose digest was sent
abbrev pub has_wrong_digest : Ask → List ℕ → Bool
has_wrong_digest (ask.Put bucket key length (Some value) headers) body = not (is_digest_of value body)
has_wrong_digest _ body = false

-- a parameter of a list is none, or a copy's source names no bucket and key
abbrev pub has_bad_argument : Ask → Bool
has_bad_argument (ask.BadList bucket) = true
has_bad_argument (ask.Copy from bucket key headers) = is_none (source_of from)
has_bad_argument _ = false

-- the bucket that a copy reads
abbrev pub source_bucket : Ask → Option (List ℕ)
source_bucket (ask.Copy from bucket key headers) = option_map (λ s. s.0) (source_of from)
source_bucket _ = None

-- a digest of the body was signed, and the body has another
abbrev pub differs : Option (List ℕ) → List ℕ → Bool
differs None body = false
differs (Some digest) body = not (is_body_of digest body)

-- who asks may not read the bucket from which is copied
abbrev pub is_denied : Access → Option ℕ → Option (List ℕ) → Bool
is_denied access who None = false
is_denied access who (Some bucket) = not (may_read access who bucket)

-- the refusal that comes first once the body was read, if the store needn't be asked for it: the body isn't the one that was signed, the bucket isn't there, the key is too long, the digest is wrong, an argument is none, the bucket that is copied from may not be read, or isn't there
abbrev pub refusal_of : Buckets → Request → List ℕ → Option Code
refusal_of buckets r body =
    if differs r.digest body then Some XAmzContentSHA256Mismatch
    else if is_missing buckets.names (bucket_of r.ask) then Some NoSuchBucket
    else if is_long_key (key_of r.ask) then Some KeyTooLongError
    else if has_wrong_digest r.ask body then Some BadDigest
    else if has_bad_argument r.ask then Some InvalidArgument
    else if is_denied buckets.access r.who (source_bucket r.ask) then Some AccessDenied
    else if is_missing buckets.names (source_bucket r.ask) then Some NoSuchBucket
    else None

-- how many bytes an ask of so long a body counts before it is read: those of an upload that neither its bucket nor its key refuses
abbrev pub counted_before : List (List ℕ) → Ask → ℕ → ℕ
counted_before buckets ask size = if is_put ask && not (is_missing buckets (bucket_of ask) || is_long_key (key_of ask)) then size else 0

-- the upload that an ask of so long a body is whose bytes are taken block by block: as many that they are kept in blocks, where neither its bucket nor its key refuses it
abbrev pub upload_in : List (List ℕ) → ℕ → Ask → Option Upload
upload_in buckets size (ask.Put bucket key length md5 headers) =
    if nat_le inline_limit size && not (is_missing buckets (Some bucket) || is_long_key key) then Some (record { bucket = bucket; key = key; length = size; headers = headers }) else None
upload_in buckets size _ = None

-- the same of a request
abbrev pub upload_of : Buckets → Request → Option Upload
upload_of buckets r = upload_in buckets.names r.length r.ask

-- what the store is asked; nothing where what is asked is about buckets alone
abbrev pub order_of : Ask → List ℕ → Option Order
order_of ask.ListBuckets body = None
order_of (ask.HeadBucket bucket) body = None
order_of (ask.List bucket list delimiter url token start) body = Some (order.List bucket list.prefix)
order_of (ask.BadList bucket) body = None
order_of (ask.Get bucket key range) body = Some (order.Get bucket key)
order_of (ask.Head bucket key range) body = Some (order.Head bucket key)
order_of (ask.Delete bucket key) body = Some (order.Delete bucket key)
order_of (ask.Put bucket key length md5 headers) body = Some (order.Put bucket key body headers)
order_of (ask.Copy from bucket key headers) body = option_map (λ s. order.Copy s.0 s.1 bucket key headers) (source_of from)

-- the names that are shown to who asks: of the buckets that they may read
abbrev pub shown_to : Buckets → Option ℕ → List (List ℕ)
shown_to buckets who = filter (may_read buckets.access who) buckets.names

-- what is replied where the store isn't asked: the names of buckets, or that one is there
abbrev pub reply_without : Buckets → Option ℕ → Ask → Reply
reply_without buckets who ask.ListBuckets = reply.Buckets (shown_to buckets who)
reply_without buckets who _ = reply.Empty

-- an object, unless the range isn't one of it
abbrev pub found : Option Range → Version → Meta → List ℕ → Answer
found None version meta body = answer.Reply (reply.Found version meta body)
found (Some range) version meta body = elim (span_of range meta.size) as (λ o. Answer) [
  | None ↦ answer.Refusal InvalidRange
  | Some span ↦ answer.Reply (reply.Found version meta body)
]

-- what a get or a head is answered that ended so
abbrev pub answer_to_read : Option Range → FlowEnd → Answer
answer_to_read range (Found version meta body) = found range version meta body
answer_to_read range Nothing = answer.Refusal NoSuchKey
answer_to_read range (Stored version meta) = answer.Nothing
answer_to_read range (Listed rows) = answer.Nothing
answer_to_read range (Superseded id) = answer.Nothing
answer_to_read range Aborted = answer.Nothing

-- an upload that stored this
abbrev pub stored : Version → Option Meta → Answer
stored version None = answer.Nothing
stored version (Some meta) = answer.Reply (reply.Stored version meta.etag)

-- a copy that stored this
abbrev pub copied : Version → Option Meta → Answer
copied version None = answer.Nothing
copied version (Some meta) = answer.Reply (reply.Copied version meta.etag)

-- an upload whose order ended so
abbrev pub answer_to_put : FlowEnd → Answer
answer_to_put (Stored version meta) = stored version meta
answer_to_put _ = answer.Nothing

-- a copy whose order ended so: its source may not be there
abbrev pub answer_to_copy : FlowEnd → Answer
answer_to_copy (Stored version meta) = copied version meta
answer_to_copy Nothing = answer.Refusal NoSuchKey
answer_to_copy _ = answer.Nothing

-- a delete whose order ended so
abbrev pub answer_to_delete : FlowEnd → Answer
answer_to_delete (Stored version meta) = answer.Reply reply.Deleted
answer_to_delete _ = answer.Nothing

-- a list whose order ended so: its page of the rows
abbrev pub answer_to_list : ListAsk → FlowEnd → Answer
answer_to_list list (Listed rows) = answer.Reply (reply.Page (page_of list rows))
answer_to_list list _ = answer.Nothing

-- what an ask is answered whose order ended so
abbrev pub answer_to : Ask → FlowEnd → Answer
answer_to (ask.List bucket list delimiter url token start) end = answer_to_list list end
answer_to (ask.Get bucket key range) end = answer_to_read range end
answer_to (ask.Head bucket key range) end = answer_to_read range end
answer_to (ask.Delete bucket key) end = answer_to_delete end
answer_to (ask.Put bucket key length md5 headers) end = answer_to_put end
answer_to (ask.Copy from bucket key headers) end = answer_to_copy end
answer_to _ end = answer.Nothing

-- how many bytes were stored
abbrev pub size_of : FlowEnd → ℕ
size_of (Stored version (Some meta)) = meta.size
size_of _ = 0

-- how many bytes an ask counts that ended so: those of a copy that was stored
abbrev pub counted_after : Ask → FlowEnd → ℕ
counted_after (ask.Copy from bucket key headers) end = size_of end
counted_after _ end = 0
