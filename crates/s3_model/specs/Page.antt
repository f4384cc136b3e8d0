-- Which keys a list of a bucket shows, in which entries, and how many of them one page has.
use Rattle.std.specs.Prelude.{ℕ, ◌+◌, ◌-◌, ◌==◌, Bool, false, not, ◌&&◌, nat_eq, nat_lt, if◌then◌else◌, Option, Some, None, option_map, option_and_then, List, [], ◌∷◌, length, take, drop}
use Rattle.std.specs.List.{starts_with, filter_map}
use Rattle.std.specs.Ordering.{nat_cmp, is_gt}
use Rattle.std.specs.Cmp.Lexicographic.{slice_cmp, pointwise}
use Rattle.crdt_rows.specs.declared.version.Version.{Version}
use Rattle.crdt_rows.specs.declared.body.Meta.{Meta}
use Rattle.crdt_rows.specs.declared.body.Body.TheVariants.{Inline, Blocks}
use Rattle.crdt_rows.specs.declared.state.State.{State}
use Rattle.crdt_rows.specs.declared.state.State.TheVariants.{Complete}
use Rattle.crdt_rows.specs.declared.object_row.ObjectRow.{ObjectRow}
use Rattle.crdt_rows.specs.ObjectRow.{newest, state_at}
use Rattle.http_model.specs.Cut.{least}
use Rattle.s3_model.specs.declared.page.After.{After}
use Rattle.s3_model.specs.declared.page.After.TheVariants.{Key, Prefix}
use Rattle.s3_model.specs.declared.page.ListAsk.{ListAsk}
use Rattle.s3_model.specs.declared.page.Entry.{Entry}
use Rattle.s3_model.specs.declared.page.Entry.TheVariants.{Object, Common}
use Rattle.s3_model.specs.declared.page.Page.{Page}

-- what a state says of an object: nothing where it isn't complete, or where it is a delete marker
abbrev pub meta_in : Option State → Option Meta
meta_in (Some (Complete (Inline meta bytes))) = Some meta
meta_in (Some (Complete (Blocks meta first))) = Some meta
meta_in _ = None

-- a row's object: its newest complete version with its metadata, unless that version is a delete marker
abbrev pub object_of : ObjectRow → Option (Version × Meta)
object_of row = option_and_then (λ v. option_map (λ meta. (v, meta)) (meta_in (state_at row v))) (newest row)

-- the key is past the start of the list: greater than a key, in the order of bytes, or past all keys with a prefix
abbrev pub is_past : After → List ℕ → Bool
is_past (Key k) key = is_gt (slice_cmp nat_cmp key k)
is_past (Prefix p) key = is_gt (slice_cmp nat_cmp key p) && not (starts_with nat_eq key p)

-- the key has the prefix that is asked, and it is past the start
abbrev pub is_listed : ListAsk → List ℕ → Bool
is_listed ask key = starts_with nat_eq key ask.prefix && is_past ask.after key

-- the first place in the key, past a prefix of so many bytes, where the delimiter stands
abbrev pub delimiter_place : List ℕ → ℕ → List ℕ → Option ℕ
delimiter_place delimiter from key = least (λ i. starts_with nat_eq (drop i key) delimiter) from (length key - from)

-- the common prefix that shows a key: up to and with the first delimiter past the prefix that is asked; none where no delimiter is asked
abbrev pub common_of : ListAsk → List ℕ → Option (List ℕ)
common_of ask key =
    if length ask.delimiter == 0 then None
    else option_map (λ i. take (i + length ask.delimiter) key) (delimiter_place ask.delimiter (length ask.prefix) key)

-- how an object is shown: by its key's common prefix, if it has one
abbrev pub shown : List ℕ → Version × Meta → Option (List ℕ) → Entry
shown key object (Some common) = Common common
shown key object None = Object key object.0 object.1

-- what the list shows of a row
abbrev pub entry_of : ListAsk → ObjectRow → Option Entry
entry_of ask row =
    if is_listed ask row.key then option_map (λ object. shown row.key object (common_of ask row.key)) (object_of row)
    else None

-- the entry is the common prefix that was shown last
abbrev pub is_repeated : Option Entry → Entry → Bool
is_repeated (Some (Common p)) (Common q) = pointwise nat_eq p q
is_repeated last entry = false

-- the entries, each common prefix once: past the one that was shown last, those that don't repeat the one before
abbrev pub once_after : Option Entry → List Entry → List Entry
once_after last [] = []
once_after last (e ∷ es) = if is_repeated last e then once_after last es else e ∷ once_after (Some e) es

-- all entries of a list of these rows, which stand in the order of their keys
abbrev pub entries_of : ListAsk → List ObjectRow → List Entry
entries_of ask rows = once_after None (filter_map (entry_of ask) rows)

-- a page shows the first entries; it is truncated where there is a further one, unless none at all was asked
abbrev pub page_of : ListAsk → List ObjectRow → Page
page_of ask rows = record {
  entries = take ask.max (entries_of ask rows);
  truncated = nat_lt ask.max (length (entries_of ask rows)) && not (ask.max == 0);
}
