-- The canonical request.
use Rattle.std.specs.Prelude.{ℕ, List, ◌++◌, codes}
use Rattle.http_model.specs.declared.head.Head.{Head}
use Rattle.sig_request.specs.Texts.{parts}
use Rattle.sig_request.specs.Fields.{fields_of, field_lines}
use Rattle.sig_request.specs.Query.{canonical_path, canonical_query}

-- the method, the path and the parameters, a line each
abbrev pub target_lines : List ℕ → List ℕ → List ℕ
target_lines method target = method ++ codes "\n" ++ canonical_path target ++ codes "\n" ++ canonical_query target ++ codes "\n"

-- these, a line for each signed name and an empty one, the names with ; between, and what is said of the body
abbrev pub canonical_request : Head → List ℕ → List ℕ → List ℕ
canonical_request head names payload = target_lines head.method head.target ++ field_lines (fields_of head) (parts 59 names) ++ codes "\n" ++ names ++ codes "\n" ++ payload
