-- Each input has a stated answer: roles that are read are in order, so something is computed from them.
use Rattle.std.proofs.Common.{◌≡◌, ℕ, ◌<◌, ◌≤◌, ℤ, pos, negsuc, Bool, true, false, IsTrue, List, [], ◌∷◌, ◌++◌, codes, Option, Some, None, Result, Ok, Err, option_map, option_and_then, nat_le, length, refl, ap, ◌∙◌, subst, arith, leb-true}
use Rattle.std.specs.List.{list_all}
use Rattle.std.specs.Prelude.{IsUtf8}
use Rattle.std.specs.Option.{ok_or}
use Rattle.std.specs.Str.{is_utf8}
use Rattle.std.proofs.lemmas.Bool.{and_parts}
use Rattle.std.proofs.lemmas.Str.{IsUtf8-from_is_utf8, is_utf8-from_IsUtf8}
use Rattle.toml.specs.Data.{Data, string, Members, as_integer, get_member}
use Rattle.toml.specs.Parse.{parse_document}
use Rattle.lab_outside.specs.declared.exit.Status.{Status}
use Rattle.lab_outside.specs.declared.exit.Status.TheVariants.{Done, Refused}
use Rattle.layout_roles.specs.declared.role.Role.{Role}
use Rattle.layout_roles.specs.declared.redundancy.Redundancy.{Redundancy}
use Rattle.layout_roles.specs.declared.redundancy.Redundancy.TheVariants.{AtLeast, Maximum}
use Rattle.layout_roles.specs.Zones.{nodes_ascend, is_numbered, storage_nodes, zone_names}
use Rattle.layout_roles.specs.Certificates.{IsRedundancy}
use Rattle.layout_roles.specs.Text.{cut_lines, layout_text}
use Rattle.layout_text.specs.declared.config.FieldName.{FieldName}
use Rattle.layout_text.specs.declared.config.FieldName.TheVariants as field
use Rattle.layout_text.specs.declared.config.ConfigFault.TheVariants.{NotToml}
use Rattle.layout_roles.specs.Names.{is_between}
use Rattle.layout_text.specs.Values.{keep_if, between, read_or, redundancy_of, redundancy_in, nodes_in}
use Rattle.layout_text.specs.Settings.{◌>>=◌, needed, put_role, role_in, roles_in, roles_for, buckets_for, block_size_for, Settings, settings_in, faulted, said}
use Rattle.layout_text.proofs.Roles.{IsNew, role_is_new, ascend_put, numbered_put}
use Rattle.layout_command.specs.Answer.{greatest_node, nodes_line, zones_line, none_line, zones_for, toml_line, field_line, IsLaidOut, few_nodes, few_zones, none, layout, IsAnswer, not_text, not_toml, bad_field, laid_out}
use Rattle.layout_command.proofs.Computed as computed

-- some status and text are stated
abbrev pub Laid : Settings → Type 0
Laid settings = (status : Status) × ((text : List ℕ) × IsLaidOut settings status text)

abbrev pub Stated : List ℕ → Type 0
Stated input = (status : Status) × ((text : List ℕ) × IsAnswer input status text)

lays : (settings : Settings) → computed.Computed settings.roles settings.redundancy → Laid settings
lays settings (computed.few_nodes few) = (Refused, (nodes_line (length (storage_nodes settings.roles)), few_nodes few refl refl))
lays settings (computed.few_zones enough few) = (Refused, (zones_line (length (zone_names settings.roles)) (zones_for settings), few_zones enough few refl refl))
lays settings (computed.none cut enough shows) = (Refused, (none_line ++ cut_lines settings.roles cut, none cut enough shows refl refl))
lays settings (computed.layout certified enough is) = (Done, (layout_text settings.roles certified, layout certified enough is refl refl))

-- redundancies that are read are in their range
three_at_most : (z : ℤ) (n : ℕ) → between 1 3 z ≡ Some n → (1 ≤ n) × (n ≤ 3)
three_at_most (pos m) n h =
    elim (is_between 1 3 m) as (λ b. is_between 1 3 m ≡ b → keep_if b m ≡ Some n → (1 ≤ n) × (n ≤ 3)) [
      | true ↦ λ e k.
          let same : m ≡ n = cc in
          let p = and_parts (nat_le 1 m) (nat_le m 3) e in
          let from : 1 ≤ m = leb-true 1 m p.0 in
          let upto : m ≤ 3 = leb-true m 3 p.1 in
          (omega arith, omega arith)
      | false ↦ λ e k. cc
    ] refl h
three_at_most (negsuc m) n h = cc

found_three : (z : Option ℤ) (wanted : Redundancy) → option_map AtLeast (option_and_then (between 1 3) z) ≡ Some wanted → IsRedundancy wanted
found_three None wanted h = cc
found_three (Some z) wanted h =
    elim (between 1 3 z) as (λ o. between 1 3 z ≡ o → option_map AtLeast o ≡ Some wanted → IsRedundancy wanted) [
      | None ↦ λ e k. cc
      | Some n ↦ λ e k. let same : AtLeast n ≡ wanted = cc in subst IsRedundancy same (three_at_most z n e)
    ] refl h

kept_maximum : (b : Bool) (wanted : Redundancy) → keep_if b Maximum ≡ Some wanted → IsRedundancy wanted
kept_maximum true wanted h = let same : Maximum ≡ wanted = cc in subst IsRedundancy same tt
kept_maximum false wanted h = cc

value_redundancy : (value : Data) (wanted : Redundancy) → redundancy_of value ≡ Some wanted → IsRedundancy wanted
value_redundancy (string word) wanted h = kept_maximum _ wanted h
value_redundancy value wanted h = found_three (as_integer value) wanted h

redundancy_or : (found : Option Data) (wanted : Redundancy) → read_or Maximum redundancy_of found ≡ Some wanted → IsRedundancy wanted
redundancy_or None wanted h = let same : Maximum ≡ wanted = cc in subst IsRedundancy same tt
redundancy_or (Some value) wanted h = value_redundancy value wanted h

-- roles that are read are in order
abbrev AreFine : List Role → Type 0
AreFine roles = IsTrue (nodes_ascend roles) × IsTrue (list_all is_numbered roles)

roles_fine : (greatest : ℕ) (before : List Role) (nodes : List Members) (roles : List Role) → AreFine before → roles_in greatest before nodes ≡ Ok roles → AreFine roles
roles_fine greatest before [] roles fine h = let same : before ≡ roles = cc in subst AreFine same fine
roles_fine greatest before (node ∷ nodes) roles fine h =
    elim (role_in greatest before node) as (λ r. role_in greatest before node ≡ r → (r >>= (λ role. roles_in greatest (put_role before role) nodes)) ≡ Ok roles → AreFine roles) [
      | Ok role ↦ λ e k.
          let new : IsNew before role = role_is_new greatest before node role e in
          roles_fine greatest (put_role before role) nodes roles (ascend_put 0 before role fine.0 new.low new.free, numbered_put before role fine.1 new.high) k
      | Err name ↦ λ e k. cc
    ] refl h

all_fine : (greatest : ℕ) (root : Members) (roles : List Role) → roles_for greatest root ≡ Ok roles → AreFine roles
unfolding roles_for
all_fine greatest root roles h =
    elim (nodes_in root) as (λ o. (needed field.Node o >>= roles_in greatest []) ≡ Ok roles → AreFine roles) [
      | None ↦ λ k. cc
      | Some nodes ↦ λ k. roles_fine greatest [] nodes roles (refl, refl) k
    ] h

abbrev settled : Redundancy → List (List ℕ) → ℕ → List Role → Settings
settled wanted buckets size roles = record { redundancy = wanted; roles = roles; buckets = buckets; block_size = size }

parts : (r : Option Redundancy) (b : Option (List (List ℕ))) (z : Option ℕ) (roles : Result (List Role) FieldName) (s : Settings) →
    (needed field.Redundancy r >>= (λ wanted. needed field.Buckets b >>= (λ buckets. needed field.BlockSize z >>= (λ size. roles >>= (λ rs. Ok (settled wanted buckets size rs)))))) ≡ Ok s → (r ≡ Some s.redundancy) × (roles ≡ Ok s.roles)
parts None b z roles s h = cc
parts (Some wanted) None z roles s h = cc
parts (Some wanted) (Some buckets) None roles s h = cc
parts (Some wanted) (Some buckets) (Some size) (Err name) s h = cc
parts (Some wanted) (Some buckets) (Some size) (Ok rs) s h =
    let same : settled wanted buckets size rs ≡ s = cc in (ap (λ (x : Settings). Some x.redundancy) same, ap (λ (x : Settings). Ok x.roles) same)

-- settings that are read have roles in order, and a redundancy in its range
record IsFine (s : Settings) : Type 0 where
  roles : AreFine s.roles
  wanted : IsRedundancy s.redundancy

settings_fine : (greatest : ℕ) (root : Members) (s : Settings) → settings_in greatest root ≡ Ok s → IsFine s
unfolding settings_in
settings_fine greatest root s h =
    let p = parts (redundancy_in root) (buckets_for greatest root) (block_size_for greatest root) (roles_for greatest root) s h in
    record { roles = all_fine greatest root s.roles p.1; wanted = redundancy_or (get_member (codes "redundancy") root) s.redundancy p.0 }

lays_out : (s : Settings) → IsFine s → Laid s
lays_out s fine = lays s (computed.something_computed s.roles s.redundancy fine.roles.0 fine.roles.1 fine.wanted)

module _ (input : List ℕ) (text : IsUtf8 input) where
  of_settings : (s : Settings) → said greatest_node input ≡ Ok s → IsFine s → Stated input
  of_settings s says fine = let l = lays_out s fine in (l.0, (l.1.0, laid_out s text says l.1.1))

  of_fields : (r : Result Settings FieldName) → ((s : Settings) → r ≡ Ok s → IsFine s) → said greatest_node input ≡ faulted r → Stated input
  of_fields (Ok s) fine says = of_settings s says (fine s refl)
  of_fields (Err name) fine says = (Refused, (field_line name, bad_field name text says refl refl))

  of_document : (o : Option Members) → said greatest_node input ≡ (ok_or o NotToml >>= (λ root. faulted (settings_in greatest_node root))) → Stated input
  of_document None says = (Refused, (toml_line, not_toml text says refl refl))
  of_document (Some root) says = of_fields (settings_in greatest_node root) (settings_fine greatest_node root) says

  of_text : Stated input
  unfolding said
  of_text = of_document (parse_document input) refl

pub something_stated : (input : List ℕ) → Stated input
something_stated input =
    elim (is_utf8 input) as (λ b. is_utf8 input ≡ b → Stated input) [
      | true ↦ λ e. of_text input (IsUtf8-from_is_utf8 input e)
      | false ↦ λ e. (Refused, (toml_line, not_text (λ u. let t = is_utf8-from_IsUtf8 input u in cc) refl refl))
    ] refl
