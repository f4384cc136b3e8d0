-- The tests of which `first_stale` consists, each of which decides the sentence of `Fresh` that it is named for, and
-- what `pairs` adds up.
use Rattle.std.specs.Prelude.{◌≡◌, ◌<◌, ◌≤◌, ℕ, zero, suc, nat_eq, nat_lt, Bool, true, false, not, ◌&&◌, ◌||◌, if◌then◌else◌, Option, Some, None, is_some, List, slice_get}
use Rattle.std.specs.List.{list_any, list_all}
use Rattle.std.specs.Ordering.{is_lt}
use Rattle.crdt_rows.specs.declared.version.Version.{Version}
use Rattle.crdt_rows.specs.Version.{version_cmp}
use Rattle.history_model.specs.declared.record.Kind.{Kind}
use Rattle.history_model.specs.declared.record.Answer.{Answer}
use Rattle.history_model.specs.declared.record.Record.{Record}
use Rattle.history_model.specs.declared.record.Record.TheVariants.{Began, Finished, Ended}
use Rattle.history_model.specs.Record.{is_read, is_write, is_delete, is_source, finish, acknowledged, names, shown, is_some_with, begins, same_bytes}
use Rattle.history_model.specs.Pairs.{is_owed, count_below}

-- some number below n passes
abbrev pub any_below : (ℕ → Bool) → ℕ → Bool
any_below p zero = false
any_below p (suc n) = p n || any_below p n

-- each number below n passes
abbrev pub all_below : (ℕ → Bool) → ℕ → Bool
all_below p zero = true
all_below p (suc n) = p n && all_below p n

-- none, or a value that passes
abbrev pub is_none_or : {A : Type 0} → (A → Bool) → Option A → Bool
is_none_or p None = true
is_none_or p (Some a) = p a

-- the version of an acknowledgement that stands before place i
abbrev pub version_before : ℕ → Option (ℕ × Version) → Option Version
version_before i None = None
version_before i (Some a) = if nat_lt a.0 i then Some a.1 else None

-- one version is before the other
abbrev pub is_below : Version → Version → Bool
is_below v w = is_lt (version_cmp v w)

-- at this place a delete of the key began that may stand at version w or later: none acknowledges it with an earlier one
abbrev pub deletes_at : List Record → List ℕ → List ℕ → Version → ℕ → Bool
deletes_at h bucket key w place =
    begins (λ q kind b k. is_delete kind && (same_bytes k key && (same_bytes b bucket && is_none_or (λ a. not (is_below a.1 w)) (acknowledged h place q)))) (slice_get h place)

-- such a delete began before place j
abbrev pub is_deleted : List Record → ℕ → List ℕ → List ℕ → Version → Bool
is_deleted h j bucket key w = any_below (deletes_at h bucket key w) j

-- two versions are one
abbrev pub same_version : Version → Version → Bool
same_version v w = nat_eq v.ts w.ts && nat_eq v.id w.id

-- at this place a put or copy of the key began whose request's number the version has: none acknowledges it with another one
abbrev pub writes_at : List Record → List ℕ → List ℕ → Version → ℕ → Bool
writes_at h bucket key v place =
    begins (λ q kind b k. nat_eq q v.id && (is_source kind && (same_bytes k key && (same_bytes b bucket && is_none_or (λ a. same_version a.1 v) (acknowledged h place q))))) (slice_get h place)

-- such a request began before place j
abbrev pub is_written : List Record → ℕ → List ℕ → List ℕ → Version → Bool
is_written h j bucket key v = any_below (writes_at h bucket key v) j

-- the answer shows the key
abbrev pub shows : List ℕ → Answer → List ℕ → Bool
shows own answer key = list_any (λ e. same_bytes e.0 key) (shown own answer)

-- the answer shows the key in a version before w
abbrev pub shows_below : List ℕ → Answer → List ℕ → Version → Bool
shows_below own answer key w = list_any (λ e. same_bytes e.0 key && is_below e.1 w) (shown own answer)

-- the answer shows no version of the key before w, and it shows the key, or a delete may have taken it
abbrev pub covers : List Record → ℕ → List ℕ → List ℕ → Answer → List ℕ → Version → Bool
covers h j bucket own answer key w =
    not (shows_below own answer key w) && (shows own answer key || is_deleted h j bucket key w)

-- at this place no write of a key that the read names was acknowledged, before place i, with a version that the read doesn't cover
abbrev pub covers_at : List Record → ℕ → ℕ → Kind → List ℕ → List ℕ → Answer → ℕ → Bool
covers_at h i j kind bucket own answer place =
    not (begins (λ q other b key. is_write other && (names kind own key && (same_bytes b bucket
    && is_some_with (λ a. nat_lt a.0 i && not (covers h j bucket own answer key a.1)) (acknowledged h place q)))) (slice_get h place))

-- the version, if any, with which a write of this very key began at this place and was acknowledged before place i
abbrev pub version_at_of : List Record → ℕ → List ℕ → List ℕ → ℕ → Option Record → Option Version
version_at_of h i bucket key place None = None
version_at_of h i bucket key place (Some (Began q node kind b k)) =
    if is_write kind && (same_bytes k key && same_bytes b bucket) then version_before i (acknowledged h place q) else None
version_at_of h i bucket key place (Some (Finished q answer)) = None
version_at_of h i bucket key place (Some (Ended q cause)) = None

-- the same, of the record at this place
abbrev pub version_at : List Record → ℕ → List ℕ → List ℕ → ℕ → Option Version
version_at h i bucket key place = version_at_of h i bucket key place (slice_get h place)

-- the newer of two versions, of which each may be missing
abbrev pub newer_of : Option Version → Option Version → Option Version
newer_of None b = b
newer_of (Some a) None = Some a
newer_of (Some a) (Some b) = Some (if is_below a b then b else a)

-- the newest of the versions that the numbers below n have, if they have any
abbrev pub newest_of : (ℕ → Option Version) → ℕ → Option Version
newest_of p zero = None
newest_of p (suc n) = newer_of (newest_of p n) (p n)

-- of the versions at the numbers below n, if there are any, none is newer
pub record IsNewestBelow (p : ℕ → Option Version) (n : ℕ) (newest : Option Version) : Type 0 where
  pub none : newest ≡ None → (k : ℕ) → k < n → p k ≡ None
  pub some : (w : Version) → newest ≡ Some w → (k : ℕ) × (k < n) × (p k ≡ Some w)
  pub above : (w : Version) → newest ≡ Some w → (k : ℕ) (v : Version) → k < n → p k ≡ Some v → is_below w v ≡ false

-- the answer covers each write that was acknowledged before place i
abbrev pub covers_all : List Record → ℕ → ℕ → Kind → List ℕ → List ℕ → Answer → Bool
covers_all h i j kind bucket own answer = all_below (covers_at h i j kind bucket own answer) i

-- the answer covers each write of the key that was acknowledged before place i
abbrev pub covers_key : List Record → ℕ → ℕ → List ℕ → List ℕ → Answer → List ℕ → Bool
covers_key h i j bucket own answer key =
    all_below (λ place. is_none_or (covers h j bucket own answer key) (version_at h i bucket key place)) i

-- e is a key and a version
abbrev pub is_written_if_named : List Record → ℕ → Kind → List ℕ → List ℕ → List ℕ × Version → Bool
is_written_if_named h j kind bucket own e = not (names kind own e.0) || is_written h j bucket e.0 e.1

-- each version that the answer shows of a key that the read names was written
abbrev pub shows_written : List Record → ℕ → Kind → List ℕ → List ℕ → Answer → Bool
shows_written h j kind bucket own answer =
    list_all (is_written_if_named h j kind bucket own) (shown own answer)

-- where a read finished that isn't fresh, with its request's number
abbrev pub stale_finish : List Record → ℕ → ℕ → Kind → List ℕ → List ℕ → Option (ℕ × Answer) → Option (ℕ × ℕ)
stale_finish h i q kind bucket own None = None
stale_finish h i q kind bucket own (Some f) =
    if covers_all h i f.0 kind bucket own f.1 && shows_written h f.0 kind bucket own f.1 then None else Some (f.0, q)

-- the same, if the record at place i says that a read began
abbrev pub stale_of : List Record → ℕ → Option Record → Option (ℕ × ℕ)
stale_of h i None = None
stale_of h i (Some (Began q node kind bucket own)) = if is_read kind then stale_finish h i q kind bucket own (finish h i q) else None
stale_of h i (Some (Finished q answer)) = None
stale_of h i (Some (Ended q cause)) = None

-- the same, of the record at this place
abbrev pub stale_at : List Record → ℕ → Option (ℕ × ℕ)
stale_at h i = stale_of h i (slice_get h i)

-- the earlier of two places, each with a number, of which each may be missing
abbrev pub earlier_of : Option (ℕ × ℕ) → Option (ℕ × ℕ) → Option (ℕ × ℕ)
earlier_of None b = b
earlier_of (Some a) None = Some a
earlier_of (Some a) (Some b) = Some (if nat_lt b.0 a.0 then b else a)

-- of the places that the numbers below n have, if they have any, none is earlier
pub record IsFirstBelow (p : ℕ → Option (ℕ × ℕ)) (n : ℕ) (first : Option (ℕ × ℕ)) : Type 0 where
  pub none : first ≡ None → (k : ℕ) → k < n → p k ≡ None
  pub some : (a : ℕ × ℕ) → first ≡ Some a → (k : ℕ) × (k < n) × (p k ≡ Some a)
  pub least : (a : ℕ × ℕ) → first ≡ Some a → (k : ℕ) (b : ℕ × ℕ) → k < n → p k ≡ Some b → a.0 ≤ b.0

-- how many writes it owes something, if the record at place i says that a read began, and it finished
abbrev pub owed_of : List Record → ℕ → Option Record → ℕ
owed_of h i None = 0
owed_of h i (Some (Began q node kind bucket own)) =
    if is_read kind && is_some (finish h i q) then count_below (is_owed h i kind bucket own) i else 0
owed_of h i (Some (Finished q answer)) = 0
owed_of h i (Some (Ended q cause)) = 0

-- the same, of the record at this place
abbrev pub owed : List Record → ℕ → ℕ
owed h i = owed_of h i (slice_get h i)
