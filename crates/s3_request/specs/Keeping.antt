-- What is kept of one header of a request.
use Rattle.std.specs.Prelude.{ℕ, Bool, not, ◌&&◌, List, [], ◌∷◌, if◌then◌else◌}
use Rattle.s3_model.specs.Headers.{is_stored, is_content_type, as_stored}

-- a header as it is stored, or nothing: it isn't stored, or is a Content-Type and one came before
abbrev pub kept_of : Bool → List ℕ × List ℕ → List (List ℕ × List ℕ)
kept_of typed h = if is_stored h && not (typed && is_content_type h) then as_stored h ∷ [] else []
