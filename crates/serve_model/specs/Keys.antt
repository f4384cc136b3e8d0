-- What a key may: the buckets that it reads, and those that it writes.
use Rattle.std.specs.Prelude.{ℕ, Bool, true, List, [], slice_get, bytes_eq, Option, Some, None}
use Rattle.std.specs.List.{list_any}
use Rattle.std.specs.Option.{option_map_or}
use Rattle.layout_text.specs.declared.keys.Access.{Access}
use Rattle.s3_model.specs.declared.ask.Ask.{Ask}
use Rattle.s3_model.specs.declared.ask.Ask.TheVariants as ask

-- a bucket is one of these
abbrev pub has_bucket : List (List ℕ) → List ℕ → Bool
has_bucket buckets name = list_any (λ b. bytes_eq b name) buckets

-- the buckets that the key at a place reads; none where there is no such key
abbrev pub read_by : Access → ℕ → List (List ℕ)
read_by access place = option_map_or (λ key. key.read) (slice_get access.keys place) []

-- and those that it writes
abbrev pub written_by : Access → ℕ → List (List ℕ)
written_by access place = option_map_or (λ key. key.write) (slice_get access.keys place) []

-- who asks may read a bucket; whoever it is, where nobody need sign
abbrev pub may_read : Access → Option ℕ → List ℕ → Bool
may_read access None bucket = true
may_read access (Some place) bucket = has_bucket (read_by access place) bucket

-- who asks may write in a bucket
abbrev pub may_write : Access → Option ℕ → List ℕ → Bool
may_write access None bucket = true
may_write access (Some place) bucket = has_bucket (written_by access place) bucket

-- who asks may do what is asked in the bucket that is asked; the list of all buckets is never refused
abbrev pub may : Access → Option ℕ → Ask → Bool
may access who ask.ListBuckets = true
may access who (ask.HeadBucket bucket) = may_read access who bucket
may access who (ask.List bucket list delimiter url token start) = may_read access who bucket
may access who (ask.BadList bucket) = may_read access who bucket
may access who (ask.Get bucket key range) = may_read access who bucket
may access who (ask.Head bucket key range) = may_read access who bucket
may access who (ask.Delete bucket key) = may_write access who bucket
may access who (ask.Put bucket key length md5 headers) = may_write access who bucket
may access who (ask.Copy from bucket key headers) = may_write access who bucket
