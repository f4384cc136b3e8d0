-- Texts in parts, and the bytes that stand for themselves in a target.
use Rattle.std.specs.Prelude.{ℕ, Bool, ◌&&◌, ◌||◌, ◌==◌, nat_lt, List, [], ◌∷◌, length, take, drop, if◌then◌else◌, Option}
use Rattle.std.specs.List.{filter, flat_map, slice_split, list_all}
use Rattle.std.specs.Char.{is_ascii_alphanumeric}
use Rattle.std.specs.Cmp.Lexicographic.{slice_cmp}
use Rattle.std.specs.Ordering.{nat_cmp, is_lt}
use Rattle.percent_encoding.specs.Percent.{percent_encode_byte}
use Rattle.layout_roles.specs.Zones.{same_name}
use Rattle.layout_roles.specs.Names.{is_between}
use Rattle.layout_text.specs.Values.{keep_if}

-- the first text comes before the second in order of bytes
abbrev pub is_less : List ℕ → List ℕ → Bool
is_less first second = is_lt (slice_cmp nat_cmp first second)

-- the parts of a text between bytes of this kind
abbrev pub parts : ℕ → List ℕ → List (List ℕ)
parts separator text = slice_split (λ b. b == separator) text

-- the part has a byte
abbrev pub is_filled : List ℕ → Bool
is_filled part = nat_lt 0 (length part)

-- the parts that aren't empty
abbrev pub words : ℕ → List ℕ → List (List ℕ)
words separator text = filter is_filled (parts separator text)

-- what stands behind a beginning, where the text has it
abbrev pub behind : List ℕ → List ℕ → Option (List ℕ)
behind beginning text = keep_if (same_name (take (length beginning) text) beginning) (drop (length beginning) text)

-- without the spaces before it
abbrev pub unspaced : List ℕ → List ℕ
unspaced [] = []
unspaced (b ∷ text) = if b == 32 then unspaced text else b ∷ text

-- 0 to 9, a to f
abbrev pub is_hexadecimal : ℕ → Bool
is_hexadecimal b = is_between 48 57 b || is_between 97 102 b

-- 64 hexadecimal digits in lower case
abbrev pub is_digest : List ℕ → Bool
is_digest text = (length text == 64) && list_all is_hexadecimal text

-- a letter, a digit, or one of - . _ ~; in a path / too
abbrev pub is_kept : Bool → ℕ → Bool
is_kept in_path b = is_ascii_alphanumeric b || ((b == 45) || ((b == 46) || ((b == 95) || ((b == 126) || (in_path && (b == 47))))))

-- such a byte, or % and two hexadecimal digits in upper case
abbrev pub escaped_byte : Bool → ℕ → List ℕ
escaped_byte in_path b = if is_kept in_path b then b ∷ [] else percent_encode_byte b

-- the bytes of a name, a value or a path, as they are signed
abbrev pub escaped : Bool → List ℕ → List ℕ
escaped in_path bytes = flat_map (escaped_byte in_path) bytes
