-- The bytes of an answer.
use Rattle.std.specs.Prelude.{ℕ, ◌+◌, ◌-◌, Bool, Option, Some, None, List, [], ◌++◌, take, drop, codes, decimal, if◌then◌else◌}
use Rattle.crdt_rows.specs.declared.version.Version.{Version}
use Rattle.crdt_rows.specs.declared.body.Meta.{Meta}
use Rattle.s3_model.specs.declared.ask.Ask.{Ask}
use Rattle.s3_model.specs.declared.ask.Ask.TheVariants as ask
use Rattle.s3_model.specs.declared.ask.Range.{Range}
use Rattle.s3_model.specs.declared.fault.S3Fault.{S3Fault}
use Rattle.s3_model.specs.declared.page.Page.{Page}
use Rattle.s3_model.specs.declared.reply.Reply.{Reply}
use Rattle.s3_model.specs.declared.reply.Reply.TheVariants as reply
use Rattle.s3_model.specs.Ranges.{span_of}
use Rattle.s3_model.specs.Dates.{http_date}
use Rattle.s3_model.specs.Lines.{header_line, length_line, etag_line, stored_lines, head_of, xml_answer}
use Rattle.s3_model.specs.Bodies.{error_body, buckets_body, copied_body, list_body}

-- no body, and a length that says so
abbrev pub empty_text : ℕ → ℕ → Bool → List ℕ
empty_text status now close = head_of status now (length_line 0) close

-- a refusal; one of HEAD has no body
abbrev pub refused_text : S3Fault → List ℕ → Bool → ℕ → Bool → List ℕ
refused_text fault path head now close =
    if head then empty_text fault.status now close else xml_answer fault.status now close (error_body fault.code path)

-- ListBuckets
abbrev pub buckets_text : List (List ℕ) → ℕ → Bool → List ℕ
buckets_text names now close = xml_answer 200 now close (buckets_body names)

-- PutObject
abbrev pub stored_text : List ℕ → ℕ → Bool → List ℕ
stored_text digest now close = head_of 200 now (length_line 0 ++ etag_line digest) close

-- DeleteObject: no length either
abbrev pub deleted_text : ℕ → Bool → List ℕ
deleted_text now close = head_of 204 now [] close

-- CopyObject
abbrev pub copied_text : Version → List ℕ → ℕ → Bool → List ℕ
copied_text version digest now close = xml_answer 200 now close (copied_body version digest)

-- the first and the last place of the bytes of an object of so many
abbrev pub range_value : ℕ × ℕ → ℕ → List ℕ
range_value span size = codes "bytes " ++ decimal span.0 ++ codes "-" ++ decimal span.1 ++ codes "/" ++ decimal size

-- what is said of an object of which so many bytes are answered; its time is that of its version
abbrev pub object_lines : ℕ → Version → Meta → List ℕ
object_lines count version meta =
    length_line count ++ etag_line meta.etag ++ header_line (codes "Last-Modified") (http_date version.ts) ++ stored_lines meta.headers
    ++ header_line (codes "Accept-Ranges") (codes "bytes")

-- how many places there are from one to another
abbrev pub count_of : ℕ × ℕ → ℕ
count_of span = span.1 + 1 - span.0

-- what is said of a part of an object
abbrev pub part_lines : ℕ × ℕ → Version → Meta → List ℕ
part_lines span version meta = object_lines (count_of span) version meta ++ header_line (codes "Content-Range") (range_value span meta.size)

-- all bytes of an object
abbrev pub whole_text : Version → Meta → List ℕ → ℕ → Bool → List ℕ
whole_text version meta body now close = head_of 200 now (object_lines meta.size version meta) close ++ body

-- its bytes from one place to another; none where the range is refused
abbrev pub part_text : Option (ℕ × ℕ) → Version → Meta → List ℕ → ℕ → Bool → List ℕ
part_text None version meta body now close = []
part_text (Some span) version meta body now close = head_of 206 now (part_lines span version meta) close ++ take (count_of span) (drop span.0 body)

-- an object, or the bytes of a range of it
abbrev pub found_text : Option Range → Version → Meta → List ℕ → ℕ → Bool → List ℕ
found_text None version meta body now close = whole_text version meta body now close
found_text (Some range) version meta body now close = part_text (span_of range meta.size) version meta body now close

-- an object to a get, and the same head without bytes to a HEAD; to any other ask nothing
abbrev pub object_text : Option Ask → Version → Meta → List ℕ → ℕ → Bool → List ℕ
object_text (Some (ask.Get bucket key range)) version meta body now close = found_text range version meta body now close
object_text (Some (ask.Head bucket key range)) version meta body now close = found_text range version meta [] now close
object_text _ version meta body now close = []

-- a page to a list; to any other ask nothing
abbrev pub page_text : Option Ask → Page → ℕ → Bool → List ℕ
page_text (Some (ask.List bucket list delimiter url token start)) page now close = xml_answer 200 now close (list_body bucket list delimiter url token start page)
page_text _ page now close = []

-- the bytes with which an ask is answered at a time in milliseconds; the connection closes after them, or doesn't
unfoldable pub answer_text : Option Ask → Reply → ℕ → Bool → List ℕ
answer_text asked (reply.Buckets names) now close = buckets_text names now close
answer_text asked reply.Empty now close = empty_text 200 now close
answer_text asked (reply.Found version meta body) now close = object_text asked version meta body now close
answer_text asked (reply.Stored version digest) now close = stored_text digest now close
answer_text asked reply.Deleted now close = deleted_text now close
answer_text asked (reply.Copied version digest) now close = copied_text version digest now close
answer_text asked (reply.Page page) now close = page_text asked page now close
answer_text asked (reply.Refused fault path head) now close = refused_text fault path head now close
