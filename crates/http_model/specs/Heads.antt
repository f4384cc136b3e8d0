-- What the bytes of a head say, by the grammar of httparse.
use Rattle.std.specs.Prelude.{◌≡◌, ℕ, ◌≤◌, List, [], Option, Some, None, length, map}
use Rattle.httparse.specs.Grammar.{RequestHead, ReadsRequest}
use Rattle.httparse.specs.Spans.{name_and_value}
use Rattle.http_model.specs.declared.head.Head.{Head}

-- how many headers a head may have
abbrev pub header_limit : ℕ
header_limit = 64

-- what the parts of a head say: values without the white space around them
abbrev pub said : RequestHead → Head
said h = record { method = h.method; target = h.target; minor = h.minor; headers = map name_and_value h.fields }

-- all these bytes are one head of the grammar, with few enough headers, and it says this
pub record IsHead (front : List ℕ) (head : Head) : Type 0 where
  pub tree : RequestHead
  pub reads : ReadsRequest front tree []
  pub fits : length tree.fields ≤ header_limit
  pub says : head ≡ said tree

-- these bytes are no such head
abbrev pub IsNoHead : List ℕ → Type 0
IsNoHead front = (head : Head) → IsHead front head → ⊥

-- these bytes are this head, or none
abbrev pub IsReading : List ℕ → Option Head → Type 0
IsReading front None = IsNoHead front
IsReading front (Some head) = IsHead front head
