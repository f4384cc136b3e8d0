-- How texts stand in XML (XML 1.0), and how keys are percent-encoded (RFC 3986).
use Rattle.std.specs.Prelude.{ℕ, ◌+◌, ◌-◌, ◌/◌, ◌%◌, ◌==◌, Bool, ◌&&◌, ◌||◌, nat_lt, nat_le, if◌then◌else◌, List, [], ◌∷◌, ◌++◌, flat_map, codes}

-- a digit of lower-case hexadecimal
abbrev pub lower_digit : ℕ → ℕ
lower_digit d = if nat_lt d 10 then 48 + d else 87 + d

-- a digit of upper-case hexadecimal
abbrev pub upper_digit : ℕ → ℕ
upper_digit d = if nat_lt d 10 then 48 + d else 55 + d

-- a number below 32 in hexadecimal, without a leading zero
abbrev pub small_hex : ℕ → List ℕ
small_hex b = if nat_lt b 16 then lower_digit b ∷ [] else 49 ∷ lower_digit (b - 16) ∷ []

-- a byte of a text as it stands in XML
abbrev pub escaped_byte : ℕ → List ℕ
escaped_byte b =
    if b == 38 then codes "&amp;"
    else if b == 60 then codes "&lt;"
    else if b == 62 then codes "&gt;"
    else if b == 34 then codes "&quot;"
    else if nat_lt b 32 then codes "&#x" ++ small_hex b ++ codes ";"
    else b ∷ []

-- a text as it stands in XML
abbrev pub escaped : List ℕ → List ℕ
escaped text = flat_map escaped_byte text

-- a number is in a range
abbrev pub is_in : ℕ → ℕ → ℕ → Bool
is_in low high b = nat_le low b && nat_le b high

-- letters, digits, and - . _ ~ /, which are not percent-encoded
abbrev pub is_plain : ℕ → Bool
is_plain b = is_in 97 122 b || (is_in 65 90 b || (is_in 48 57 b || ((b == 45) || ((b == 46) || ((b == 95) || ((b == 126) || (b == 47)))))))

-- a byte, percent-encoded
abbrev pub url_byte : ℕ → List ℕ
url_byte b = if is_plain b then b ∷ [] else 37 ∷ upper_digit (b / 16) ∷ upper_digit (b % 16) ∷ []

-- a text, percent-encoded where this is asked
abbrev pub written : Bool → List ℕ → List ℕ
written url text = if url then flat_map url_byte text else text

-- the tags of an element
abbrev pub open_tag : List ℕ → List ℕ
open_tag name = codes "<" ++ name ++ codes ">"

-- the tag at an element's end
abbrev pub close_tag : List ℕ → List ℕ
close_tag name = codes "</" ++ name ++ codes ">"

-- an element with its content
abbrev pub element : List ℕ → List ℕ → List ℕ
element name content = open_tag name ++ content ++ close_tag name

-- an element with a text
abbrev pub text_element : List ℕ → List ℕ → List ℕ
text_element name text = element name (escaped text)
