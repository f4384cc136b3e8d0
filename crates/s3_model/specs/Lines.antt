-- The head of an answer: its status line and its header lines (RFC 9112), each ended by CR LF.
use Rattle.std.specs.Prelude.{ℕ, length, Bool, true, false, ◌&&◌, nat_le, nat_lt, if◌then◌else◌, List, [], ◌∷◌, ◌++◌, codes, decimal, bytes_eq, flat_map, unwrap_or}
use Rattle.http.specs.StatusCode.{reason_phrase}
use Rattle.hex.specs.Hex.{encode_lower}
use Rattle.s3_model.specs.Dates.{http_date}

-- a header's line
abbrev pub header_line : List ℕ → List ℕ → List ℕ
header_line name value = name ++ codes ": " ++ value ++ codes "\r\n"

-- the phrase of a status code; a number that is none has no phrase
unfoldable pub phrase : ℕ → List ℕ
phrase code = if nat_le 100 code && nat_lt code 1000 then unwrap_or (reason_phrase code) [] else []

-- the status line of a code, with its phrase
abbrev pub status_line : ℕ → List ℕ
status_line code = codes "HTTP/1.1 " ++ decimal code ++ codes " " ++ phrase code ++ codes "\r\n"

-- how many bytes the body has, or the one that HEAD leaves out
abbrev pub length_line : ℕ → List ℕ
length_line length = header_line (codes "Content-Length") (decimal length)

-- a digest in lower-case hexadecimal, in quotes
abbrev pub quoted : List ℕ → List ℕ
quoted digest = codes "\"" ++ encode_lower digest ++ codes "\""

-- the header of an object's digest
abbrev pub etag_line : List ℕ → List ℕ
etag_line digest = header_line (codes "ETag") (quoted digest)

-- a stored header is the Content-Type
abbrev pub is_type : List ℕ × List ℕ → Bool
is_type h = bytes_eq h.0 (codes "content-type")

-- the line of a stored header, if it is the Content-Type
abbrev pub type_line : List ℕ × List ℕ → List ℕ
type_line h = if is_type h then header_line (codes "Content-Type") h.1 else []

-- the line of another, as it is stored
abbrev pub other_line : List ℕ × List ℕ → List ℕ
other_line h = if is_type h then [] else header_line h.0 h.1

-- the lines of an object's stored headers: the Content-Type first, then the others in their order
abbrev pub stored_lines : List (List ℕ × List ℕ) → List ℕ
stored_lines headers = flat_map type_line headers ++ flat_map other_line headers

-- where the connection closes after the answer
abbrev pub close_line : Bool → List ℕ
close_line true = header_line (codes "Connection") (codes "close")
close_line false = []

-- the head of an answer: the status, the date of the request, these lines, whether the connection closes, and an empty line
abbrev pub head_of : ℕ → ℕ → List ℕ → Bool → List ℕ
head_of status now lines close = status_line status ++ header_line (codes "Date") (http_date now) ++ lines ++ close_line close ++ codes "\r\n"

-- an answer whose body is XML
abbrev pub xml_answer : ℕ → ℕ → Bool → List ℕ → List ℕ
xml_answer status now close body =
    head_of status now (length_line (length body) ++ header_line (codes "Content-Type") (codes "application/xml")) close ++ body
