-- What the join of two object rows of one key has.
use Rattle.std.specs.Prelude.{◌≡◌, Bool, true, false, cond, ◌||◌, Option, Some, None, option_map, refl}
use Rattle.std.proofs.Common.{ap, ◌∙◌}
use Rattle.std.specs.declared.cmp.Ordering.TheVariants.{Equal}
use Rattle.crdt_core.specs.declared.max.Max.{Max}
use Rattle.crdt_core.specs.Lex.{larger}
use Rattle.crdt_core.specs.Order.{option_join}
use Rattle.crdt_core.specs.Max.{max_join}
use Rattle.crdt_core.specs.Map.{map_entries, map_get, map_join}
use Rattle.crdt_rows.specs.declared.object_row.ObjectRow.{ObjectRow}
use Rattle.crdt_rows.specs.declared.version.Version.{Version}
use Rattle.crdt_rows.specs.declared.state.State.{State}
use Rattle.crdt_rows.specs.State.{state_cmp, is_complete, is_sized}
use Rattle.crdt_rows.specs.Version.{version_cmp}
use Rattle.crdt_rows.specs.FieldLaws.{version_total, version_identical}
use Rattle.crdt_rows.specs.Versions.{is_settled_row, is_sized_row, newest_version}
use Rattle.crdt_rows.specs.VersionsLaws.{complete_either, sized_both}
use Rattle.crdt_rows.specs.Newest.{later, is_older}
use Rattle.crdt_rows.specs.Settled.{kept_map, settled_join}
use Rattle.crdt_rows.specs.SettledLaws.{joined_settled, joined_fit, settled_join-map, newest_joined, map_get-settled}
use Rattle.crdt_rows.specs.ObjectRow.{object_key_cmp, object_key, newest, state_at, object_join}

module _ (a b : ObjectRow) where
  pub versions_settled : is_settled_row (map_entries (kept_map (later version_cmp (newest a) (newest b)) (map_join (max_join state_cmp) a.versions b.versions))) ≡ true
  versions_settled = joined_settled (λ s. is_complete s.0) (λ s. is_sized s.0) version_total version_identical (max_join state_cmp) complete_either sized_both a.versions b.versions

  pub versions_sized : is_sized_row (map_entries (kept_map (later version_cmp (newest a) (newest b)) (map_join (max_join state_cmp) a.versions b.versions))) ≡ true
  versions_sized = joined_fit (λ s. is_complete s.0) (λ s. is_sized s.0) version_total version_identical (max_join state_cmp) complete_either sized_both a.versions b.versions a.sized b.sized

  module _ (e : object_key_cmp (object_key a) (object_key b) ≡ Equal) where
    pub join-bucket : (object_join a b).bucket ≡ a.bucket
    join-bucket = rw e refl

    pub join-key : (object_join a b).key ≡ a.key
    join-key = rw e refl

    part-join : (object_join a b).versions ≡ (settled_join (λ s. is_complete s.0) (λ s. is_sized s.0) (max_join state_cmp) (record { map = a.versions; settled = a.settled; fit = a.sized }) (record { map = b.versions; settled = b.settled; fit = b.sized })).map
    part-join = rw e refl

    pub join-versions : (object_join a b).versions ≡ kept_map (later version_cmp (newest a) (newest b)) (map_join (max_join state_cmp) a.versions b.versions)
    join-versions = part-join ∙ settled_join-map (λ s. is_complete s.0) (λ s. is_sized s.0) version_total version_identical (max_join state_cmp) complete_either sized_both (record { map = a.versions; settled = a.settled; fit = a.sized }) (record { map = b.versions; settled = b.settled; fit = b.sized })

    -- the newest complete version of the join is the newer of theirs
    pub join-newest : newest (object_join a b) ≡ later version_cmp (newest a) (newest b)
    join-newest =
        ap (λ m. newest_version (map_entries m)) part-join
        ∙ newest_joined (λ s. is_complete s.0) (λ s. is_sized s.0) version_total version_identical (max_join state_cmp) complete_either sized_both (record { map = a.versions; settled = a.settled; fit = a.sized }) (record { map = b.versions; settled = b.settled; fit = b.sized })

    get-join : (v : Version) → map_get (object_join a b).versions v ≡ cond (is_older version_cmp v (newest a) || is_older version_cmp v (newest b)) None (option_join (max_join state_cmp) (map_get a.versions v) (map_get b.versions v))
    get-join v =
        ap (λ m. map_get m v) part-join
        ∙ map_get-settled (λ s. is_complete s.0) (λ s. is_sized s.0) version_total version_identical (max_join state_cmp) complete_either sized_both (record { map = a.versions; settled = a.settled; fit = a.sized }) (record { map = b.versions; settled = b.settled; fit = b.sized }) v

    states : (old : Bool) (x y : Option (Max State)) → option_map (λ s. s.0) (cond old None (option_join (max_join state_cmp) x y)) ≡ cond old None (option_join (larger state_cmp) (option_map (λ s. s.0) x) (option_map (λ s. s.0) y))
    states true x y = refl
    states false None y = refl
    states false (Some x) None = refl
    states false (Some x) (Some y) = refl

    -- the state of a version in the join is the greater of theirs, unless the version is older than a complete one
    pub join-state : (v : Version) → state_at (object_join a b) v ≡ cond (is_older version_cmp v (newest a) || is_older version_cmp v (newest b)) None (option_join (larger state_cmp) (state_at a v) (state_at b v))
    join-state v =
        ap (option_map (λ s. s.0)) (get-join v)
        ∙ states (is_older version_cmp v (newest a) || is_older version_cmp v (newest b)) (map_get a.versions v) (map_get b.versions v)
