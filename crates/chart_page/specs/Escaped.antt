-- How bytes of the input stand in a page.
use Rattle.std.specs.Prelude.{ℕ, List, [], ◌∷◌, ◌==◌, if◌then◌else◌, codes, flat_map}

-- a byte that HTML reads otherwise stands by its name
abbrev pub escaped_byte : ℕ → List ℕ
escaped_byte b =
    if b == 38 then codes "&amp;"
    else if b == 60 then codes "&lt;"
    else if b == 62 then codes "&gt;"
    else if b == 34 then codes "&quot;"
    else if b == 39 then codes "&#39;"
    else b ∷ []

-- bytes, each as it stands in a page
abbrev pub escaped : List ℕ → List ℕ
escaped bytes = flat_map escaped_byte bytes
