-- Laws that impls cite; no definition stands here.
-- What the greater of two states keeps.
use Rattle.std.specs.Prelude.{◌≡◌, true, ◌||◌, refl}
use Rattle.std.proofs.Common.{sym}
use Rattle.std.specs.declared.cmp.Ordering.{Ordering}
use Rattle.std.specs.declared.cmp.Ordering.TheVariants.{Less, Equal, Greater}
use Rattle.crdt_core.specs.declared.max.Max.{Max}
use Rattle.crdt_core.specs.Lex.{by_order}
use Rattle.crdt_core.specs.Max.{max_join}
use Rattle.crdt_rows.specs.declared.state.State.{State}
use Rattle.crdt_rows.specs.declared.state.State.TheVariants.{Uploading, Aborted, Complete}
use Rattle.crdt_rows.specs.State.{is_complete, is_sized, state_cmp}

complete_pick : (a b : State) (r : Ordering) → state_cmp a b ≡ r → is_complete (by_order r b a a) ≡ (is_complete a || is_complete b)
complete_pick Uploading Uploading r e = rw (sym e) refl
complete_pick Uploading Aborted r e = rw (sym e) refl
complete_pick Uploading (Complete b) r e = rw (sym e) refl
complete_pick Aborted Uploading r e = rw (sym e) refl
complete_pick Aborted Aborted r e = rw (sym e) refl
complete_pick Aborted (Complete b) r e = rw (sym e) refl
complete_pick (Complete a) Uploading r e = rw (sym e) refl
complete_pick (Complete a) Aborted r e = rw (sym e) refl
complete_pick (Complete a) (Complete b) Less e = refl
complete_pick (Complete a) (Complete b) Equal e = refl
complete_pick (Complete a) (Complete b) Greater e = refl

-- the greater of two states is complete where either is
pub complete_either : (a b : Max State) → is_complete (max_join state_cmp a b).0 ≡ (is_complete a.0 || is_complete b.0)
complete_either a b = complete_pick a.0 b.0 (state_cmp a.0 b.0) refl

sized_pick : (a b : State) (r : Ordering) → is_sized a ≡ true → is_sized b ≡ true → is_sized (by_order r b a a) ≡ true
sized_pick a b Less p q = q
sized_pick a b Equal p q = p
sized_pick a b Greater p q = p

pub sized_both : (a b : Max State) → is_sized a.0 ≡ true → is_sized b.0 ≡ true → is_sized (max_join state_cmp a b).0 ≡ true
sized_both a b p q = sized_pick a.0 b.0 (state_cmp a.0 b.0) p q
