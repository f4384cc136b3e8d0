-- The XML bodies of answers (Amazon S3 API reference).
use Rattle.std.specs.Prelude.{ℕ, ◌-◌, Bool, true, false, Option, Some, None, List, [], ◌∷◌, ◌++◌, length, codes, decimal, flat_map, slice_get, if◌then◌else◌}
use Rattle.hex.specs.Hex.{encode_lower}
use Rattle.crdt_rows.specs.declared.version.Version.{Version}
use Rattle.crdt_rows.specs.declared.body.Meta.{Meta}
use Rattle.s3_model.specs.declared.fault.Code.{Code}
use Rattle.s3_model.specs.declared.fault.Code.TheVariants.{InvalidRequest, NotImplemented, MissingContentLength, EntityTooLarge, IncompleteBody, NoSuchBucket, KeyTooLongError, BadDigest, InvalidArgument, NoSuchKey, InvalidRange, AccessDenied, AuthorizationHeaderMalformed, InvalidAccessKeyId, RequestTimeTooSkewed, SignatureDoesNotMatch, XAmzContentSHA256Mismatch}
use Rattle.s3_model.specs.declared.page.Entry.{Entry}
use Rattle.s3_model.specs.declared.page.Entry.TheVariants.{Object, Common}
use Rattle.s3_model.specs.declared.page.ListAsk.{ListAsk}
use Rattle.s3_model.specs.declared.page.Page.{Page}
use Rattle.s3_model.specs.Dates.{list_time}
use Rattle.s3_model.specs.Xml.{written, close_tag, element, text_element}

-- what each body begins with
abbrev pub xml_start : List ℕ
xml_start = codes "<?xml version=\"1.0\" encoding=\"UTF-8\"?>\n"

-- what stands before the content of the outermost element, which is in the name space of the API
abbrev pub root_start : List ℕ → List ℕ
root_start name = xml_start ++ codes "<" ++ name ++ codes " xmlns=\"http://s3.amazonaws.com/doc/2006-03-01/\">"

-- the outermost element
abbrev pub root : List ℕ → List ℕ → List ℕ
root name content = root_start name ++ content ++ close_tag name

-- the name of an error code
abbrev pub code_name : Code → List ℕ
code_name InvalidRequest = codes "InvalidRequest"
code_name NotImplemented = codes "NotImplemented"
code_name MissingContentLength = codes "MissingContentLength"
code_name EntityTooLarge = codes "EntityTooLarge"
code_name IncompleteBody = codes "IncompleteBody"
code_name NoSuchBucket = codes "NoSuchBucket"
code_name KeyTooLongError = codes "KeyTooLongError"
code_name BadDigest = codes "BadDigest"
code_name InvalidArgument = codes "InvalidArgument"
code_name NoSuchKey = codes "NoSuchKey"
code_name InvalidRange = codes "InvalidRange"
code_name AccessDenied = codes "AccessDenied"
code_name AuthorizationHeaderMalformed = codes "AuthorizationHeaderMalformed"
code_name InvalidAccessKeyId = codes "InvalidAccessKeyId"
code_name RequestTimeTooSkewed = codes "RequestTimeTooSkewed"
code_name SignatureDoesNotMatch = codes "SignatureDoesNotMatch"
code_name XAmzContentSHA256Mismatch = codes "XAmzContentSHA256Mismatch"

-- what is said of a refusal: its code, which is the message too, and the path of the request
abbrev pub error_parts : Code → List ℕ → List ℕ
error_parts code path = element (codes "Code") (code_name code) ++ element (codes "Message") (code_name code) ++ text_element (codes "Resource") path

-- a refusal
abbrev pub error_body : Code → List ℕ → List ℕ
error_body code path = xml_start ++ element (codes "Error") (error_parts code path)

-- a bucket's name, and when it was made, which isn't known
abbrev pub bucket_parts : List ℕ → List ℕ
bucket_parts name = text_element (codes "Name") name ++ element (codes "CreationDate") (codes "1970-01-01T00:00:00.000Z")

-- one bucket
abbrev pub bucket_element : List ℕ → List ℕ
bucket_element name = element (codes "Bucket") (bucket_parts name)

-- who owns all buckets
abbrev pub owner_element : List ℕ
owner_element = element (codes "Owner") (element (codes "ID") (codes "garage-lab") ++ element (codes "DisplayName") (codes "garage-lab"))

-- the owner and the buckets, in the order in which they are given
abbrev pub buckets_parts : List (List ℕ) → List ℕ
buckets_parts names = owner_element ++ element (codes "Buckets") (flat_map bucket_element names)

-- ListBuckets
abbrev pub buckets_body : List (List ℕ) → List ℕ
buckets_body names = root (codes "ListAllMyBucketsResult") (buckets_parts names)

-- when an object was written, in milliseconds
abbrev pub time_element : ℕ → List ℕ
time_element ms = element (codes "LastModified") (list_time ms)

-- a digest in lower-case hexadecimal, in quotes
abbrev pub quoted_text : List ℕ → List ℕ
quoted_text digest = codes "&quot;" ++ encode_lower digest ++ codes "&quot;"

-- an object's digest as an element
abbrev pub etag_element : List ℕ → List ℕ
etag_element digest = element (codes "ETag") (quoted_text digest)

-- CopyObject: when the copy was written, and its digest
abbrev pub copied_body : Version → List ℕ → List ℕ
copied_body version digest = root (codes "CopyObjectResult") (time_element version.ts ++ etag_element digest)

-- what a list says of an object
abbrev pub object_parts : Bool → List ℕ → Version → Meta → List ℕ
object_parts url key version meta =
    text_element (codes "Key") (written url key) ++ time_element version.ts ++ etag_element meta.etag
    ++ element (codes "Size") (decimal meta.size) ++ element (codes "StorageClass") (codes "STANDARD")

-- an object of a list
abbrev pub object_element : Bool → List ℕ → Version → Meta → List ℕ
object_element url key version meta = element (codes "Contents") (object_parts url key version meta)

-- a common prefix of a list
abbrev pub common_element : Bool → List ℕ → List ℕ
common_element url prefix = element (codes "CommonPrefixes") (text_element (codes "Prefix") (written url prefix))

-- an entry, if it is an object
abbrev pub contents_of : Bool → Entry → List ℕ
contents_of url (Object key version meta) = object_element url key version meta
contents_of url (Common prefix) = []

-- an entry, if it is a common prefix
abbrev pub common_of : Bool → Entry → List ℕ
common_of url (Object key version meta) = []
common_of url (Common prefix) = common_element url prefix

-- an element with a text, if there is one
abbrev pub given : List ℕ → Option (List ℕ) → List ℕ
given name None = []
given name (Some text) = text_element name text

-- the same, with a text that is percent-encoded where this is asked
abbrev pub given_key : Bool → List ℕ → Option (List ℕ) → List ℕ
given_key url name None = []
given_key url name (Some text) = text_element name (written url text)

-- a token: a mark and a text, in hexadecimal
abbrev pub token : ℕ → List ℕ → List ℕ
token mark text = encode_lower (mark ∷ text)

-- the token with which the list goes on past an entry: `k` and its key, or `p` and its common prefix
abbrev pub token_past : Option Entry → List ℕ
token_past None = []
token_past (Some (Object key version meta)) = token 107 key
token_past (Some (Common prefix)) = token 112 prefix

-- the next token, where the list goes on
abbrev pub next_element : Page → List ℕ
next_element page = if page.truncated then element (codes "NextContinuationToken") (token_past (slice_get page.entries (length page.entries - 1))) else []

-- keys are percent-encoded
abbrev pub encoding_element : Bool → List ℕ
encoding_element true = element (codes "EncodingType") (codes "url")
encoding_element false = []

-- a truth value as text
abbrev pub truth : Bool → List ℕ
truth true = codes "true"
truth false = codes "false"

-- what a list says of what was asked: the delimiter stands as it was given
abbrev pub asked_elements : List ℕ → ListAsk → Option (List ℕ) → Bool → List ℕ
asked_elements bucket ask delimiter url =
    text_element (codes "Name") bucket
    ++ text_element (codes "Prefix") (written url ask.prefix)
    ++ given_key url (codes "Delimiter") delimiter
    ++ element (codes "MaxKeys") (decimal ask.max)
    ++ encoding_element url

-- and of how far it comes: the token and the first key stand as they were given
abbrev pub counted_elements : Bool → Option (List ℕ) → Option (List ℕ) → Page → List ℕ
counted_elements url token start page =
    element (codes "KeyCount") (decimal (length page.entries))
    ++ element (codes "IsTruncated") (truth page.truncated)
    ++ given (codes "ContinuationToken") token
    ++ next_element page
    ++ given_key url (codes "StartAfter") start

-- the objects, and then the common prefixes
abbrev pub entry_elements : Bool → List Entry → List ℕ
entry_elements url entries = flat_map (contents_of url) entries ++ flat_map (common_of url) entries

-- ListObjectsV2
abbrev pub list_body : List ℕ → ListAsk → Option (List ℕ) → Bool → Option (List ℕ) → Option (List ℕ) → Page → List ℕ
list_body bucket ask delimiter url token start page =
    root (codes "ListBucketResult") (asked_elements bucket ask delimiter url ++ counted_elements url token start page ++ entry_elements url page.entries)
