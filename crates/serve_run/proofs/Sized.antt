-- Blocks that are read have a byte or more.
use Rattle.std.proofs.Common.{◌≡◌, ℕ, ◌≤◌, ℤ, pos, negsuc, true, false, List, codes, Option, Some, None, Result, Ok, Err, nat_le, option_and_then, refl, ap, subst, arith, leb-true}
use Rattle.std.proofs.lemmas.Bool.{and_parts}
use Rattle.std.specs.Option.{ok_or}
use Rattle.toml.specs.Data.{Data, Members, as_integer, get_member}
use Rattle.toml.specs.Parse.{parse_document}
use Rattle.layout_roles.specs.declared.role.Role.{Role}
use Rattle.layout_roles.specs.declared.redundancy.Redundancy.{Redundancy}
use Rattle.layout_text.specs.declared.config.FieldName.{FieldName}
use Rattle.layout_text.specs.declared.config.FieldName.TheVariants as field
use Rattle.layout_text.specs.declared.config.ConfigFault.TheVariants.{NotToml}
use Rattle.layout_roles.specs.Names.{is_between}
use Rattle.layout_text.specs.Values.{keep_if, between, read_or, number_in, default_block_size, redundancy_in}
use Rattle.layout_text.specs.declared.keys.Access.{Access}
use Rattle.layout_text.specs.Keys.{access_in, access_said}
use Rattle.layout_text.specs.Settings.{◌>>=◌, needed, roles_for, buckets_for, block_size_for, Settings, settings_in, faulted, said}
use Rattle.layout_text.specs.Changes.{Coming, changes_in, changes_said}
use Rattle.serve_run.specs.Plan.{greatest_node}

some_at_least : (low high : ℕ) (z : ℤ) (n : ℕ) → between low high z ≡ Some n → low ≤ n
some_at_least low high (pos m) n h =
    elim (is_between low high m) as (λ b. is_between low high m ≡ b → keep_if b m ≡ Some n → low ≤ n) [
      | true ↦ λ e k.
          let same : m ≡ n = cc in
          let from : low ≤ m = leb-true low m (and_parts (nat_le low m) (nat_le m high) e).0 in
          omega arith
      | false ↦ λ e k. cc
    ] refl h
some_at_least low high (negsuc m) n h = cc

found_at_least : (low high : ℕ) (z : Option ℤ) (n : ℕ) → option_and_then (between low high) z ≡ Some n → low ≤ n
found_at_least low high None n h = cc
found_at_least low high (Some z) n h = some_at_least low high z n h

size_or : (found : Option Data) (n : ℕ) → read_or default_block_size (number_in 16 1048576) found ≡ Some n → 1 ≤ n
size_or None n h = let same : default_block_size ≡ n = cc in omega arith
size_or (Some value) n h = let least : 16 ≤ n = found_at_least 16 1048576 (as_integer value) n h in omega arith

parts : (r : Option Redundancy) (b : Option (List (List ℕ))) (z : Option ℕ) (roles : Result (List Role) FieldName) (s : Settings) →
    (needed field.Redundancy r >>= (λ wanted. needed field.Buckets b >>= (λ buckets. needed field.BlockSize z >>= (λ size. roles >>= (λ rs. Ok (record { redundancy = wanted; roles = rs; buckets = buckets; block_size = size })))))) ≡ Ok s → z ≡ Some s.block_size
parts None b z roles s h = cc
parts (Some wanted) None z roles s h = cc
parts (Some wanted) (Some buckets) None roles s h = cc
parts (Some wanted) (Some buckets) (Some size) (Err name) s h = cc
parts (Some wanted) (Some buckets) (Some size) (Ok rs) s h =
    let same : record { redundancy = wanted; roles = rs; buckets = buckets; block_size = size } ≡ s = cc in ap (λ (x : Settings). Some x.block_size) same

settings_sized : (root : Members) (s : Settings) → settings_in greatest_node root ≡ Ok s → 1 ≤ s.block_size
unfolding settings_in
settings_sized root s h = size_or (get_member (codes "block_size") root) s.block_size (parts (redundancy_in root) (buckets_for greatest_node root) (block_size_for greatest_node root) (roles_for greatest_node root) s h)

fields_sized : (r : Result Settings FieldName) → ((s : Settings) → r ≡ Ok s → 1 ≤ s.block_size) → (s : Settings) → faulted r ≡ Ok s → 1 ≤ s.block_size
fields_sized (Ok x) h s e = let same : x ≡ s = cc in subst (λ (y : Settings). 1 ≤ y.block_size) same (h x refl)
fields_sized (Err name) h s e = cc

document_sized : (o : Option Members) (s : Settings) → (ok_or o NotToml >>= (λ root. faulted (settings_in greatest_node root))) ≡ Ok s → 1 ≤ s.block_size
document_sized None s e = cc
document_sized (Some root) s e = fields_sized (settings_in greatest_node root) (settings_sized root) s e

pub said_sized : (text : List ℕ) (s : Settings) → said greatest_node text ≡ Ok s → 1 ≤ s.block_size
unfolding said
said_sized text s e = document_sized (parse_document text) s e

-- a text that says settings is a TOML document for the keys too
document_read : (o : Option Members) (s : Settings) (buckets : List (List ℕ)) → (ok_or o NotToml >>= (λ root. faulted (settings_in greatest_node root))) ≡ Ok s → (ok_or o NotToml >>= (λ root. faulted (access_in buckets root))) ≡ Err NotToml → ⊥
document_read None s buckets e h = cc
document_read (Some root) s buckets e h = no_fault (access_in buckets root) h
  where
    no_fault : (r : Result Access FieldName) → faulted r ≡ Err NotToml → ⊥
    no_fault (Ok x) h = cc
    no_fault (Err name) h = cc

pub read_before : (text : List ℕ) (s : Settings) (buckets : List (List ℕ)) → said greatest_node text ≡ Ok s → access_said buckets text ≡ Err NotToml → ⊥
unfolding said access_said
read_before text s buckets e h = document_read (parse_document text) s buckets e h

-- and for the changes
changes_document_read : (o : Option Members) (s : Settings) → (ok_or o NotToml >>= (λ root. faulted (settings_in greatest_node root))) ≡ Ok s → (ok_or o NotToml >>= (λ root. faulted (changes_in greatest_node root))) ≡ Err NotToml → ⊥
changes_document_read None s e h = cc
changes_document_read (Some root) s e h = no_fault (changes_in greatest_node root) h
  where
    no_fault : (r : Result (List Coming) FieldName) → faulted r ≡ Err NotToml → ⊥
    no_fault (Ok x) h = cc
    no_fault (Err name) h = cc

pub changes_read_before : (text : List ℕ) (s : Settings) → said greatest_node text ≡ Ok s → changes_said greatest_node text ≡ Err NotToml → ⊥
unfolding said changes_said
changes_read_before text s e h = changes_document_read (parse_document text) s e h
