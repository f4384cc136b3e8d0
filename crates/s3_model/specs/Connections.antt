-- What a head says of its connection: whether it closes after the answer, and whether the client waits before it sends the body.
use Rattle.std.specs.Prelude.{Bool, not, ◌&&◌, ◌||◌, ◌==◌, codes}
use Rattle.std.specs.List.{list_any}
use Rattle.http_model.specs.declared.head.Head.{Head}
use Rattle.s3_model.specs.Words.{is_word, holds_word}

-- the request is of HTTP/1.0
abbrev pub is_old : Head → Bool
is_old head = head.minor == 0

-- the connection closes after the answer: HTTP/1.0, or some Connection header holds `close`
abbrev pub closes : Head → Bool
closes head = is_old head || list_any (λ h. is_word h.0 (codes "connection") && holds_word h.1 (codes "close")) head.headers

-- the client waits for an interim answer before it sends the body (RFC 9110, section 10.1.1)
abbrev pub expects : Head → Bool
expects head = not (is_old head) && list_any (λ h. is_word h.0 (codes "expect") && is_word h.1 (codes "100-continue")) head.headers
