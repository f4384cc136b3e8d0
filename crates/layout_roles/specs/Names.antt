-- Which bytes are the name of a bucket or of a zone.
use Rattle.std.specs.Prelude.{ℕ, ◌-◌, Bool, ◌&&◌, ◌||◌, ◌==◌, nat_le, List, length, slice_index}
use Rattle.std.specs.List.{list_all}

-- the number is in a range
abbrev pub is_between : ℕ → ℕ → ℕ → Bool
is_between low high n = nat_le low n && nat_le n high

-- a to z, 0 to 9
abbrev pub is_name_byte : ℕ → Bool
is_name_byte b = is_between 97 122 b || is_between 48 57 b

-- these, - and .
abbrev pub is_bucket_byte : ℕ → Bool
is_bucket_byte b = is_name_byte b || ((b == 45) || (b == 46))

-- 3 to 63 of these, the first and the last a letter or digit
abbrev pub is_bucket_name : List ℕ → Bool
is_bucket_name name =
    is_between 3 63 (length name) && (list_all is_bucket_byte name && (is_name_byte (slice_index name 0) && is_name_byte (slice_index name (length name - 1))))

-- a zone's name: 1 to 16 bytes that names have
abbrev pub is_zone_name : List ℕ → Bool
is_zone_name name = is_between 1 16 (length name) && list_all is_name_byte name
