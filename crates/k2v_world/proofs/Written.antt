-- The row that a write stores, from the one that it read.
use Rattle.std.proofs.Common.{◌≡◌, ℕ, Bool, true, cond, Option, Some, None, sym, ap, ◌∙◌}
use Rattle.std.specs.Prelude.{slice_get}
use Rattle.std.specs.Option.{unwrap_or}
use Rattle.cluster_machine.specs.World.{numbered}
use Rattle.k2v_rows.specs.declared.value.K2vValue.{K2vValue}
use Rattle.k2v_rows.specs.declared.k2v_row.K2vRow.{K2vRow}
use Rattle.k2v_rows.specs.Row.{can_put, after_put}
use Rattle.k2v_rows.specs.Token.{TimeMap}
use Rattle.k2v_model.specs.Orders.{empty_row}
use Rattle.k2v_world.specs.declared.asked.Asked.{Asked}
use Rattle.k2v_world.specs.declared.world.ItemWorld.{ItemWorld}
use Rattle.k2v_world.specs.Kept.{times_at, written}
use Rattle.k2v_world.specs.Stands.{IsAt}
use Rattle.k2v_world.proofs.Places.{same_some}

module _ (c : ItemWorld) (i q : ℕ) (one : Asked) (there : slice_get c.requests i ≡ Some one) (value : K2vValue) (token : ℕ) (read : Option K2vRow)
    (row : K2vRow) (is_base : row ≡ unwrap_or read (empty_row one.order.item)) (times : TimeMap) (are_times : times ≡ times_at (numbered c.requests token)) where
  -- what comes of this row and these times
  abbrev made : K2vRow → TimeMap → Option K2vRow
  made r t = cond (can_put r one.node q t) (Some (after_put r one.node q value t)) None

  is_made : made row times ≡ written c.requests q one value token read
  is_made = ap (λ (r : K2vRow). made r times) is_base ∙ ap (made (unwrap_or read (empty_row one.order.item))) are_times

  of_any : (x : Option K2vRow) → x ≡ made row times → (a : Asked) → IsAt c i q a → x ≡ written c.requests q a value token read
  of_any x e a at =
      let same : one ≡ a = same_some one a (sym there ∙ at.there) in
      e ∙ is_made ∙ ap (λ (y : Asked). written c.requests q y value token read) same

  by_can : (b : Bool) → can_put row one.node q times ≡ b → cond b (Some (after_put row one.node q value times)) None ≡ made row times
  by_can b e = ap (λ t. cond t (Some (after_put row one.node q value times)) None) (sym e)

  pub is_written : can_put row one.node q times ≡ true → (new : K2vRow) → new ≡ after_put row one.node q value times → (a : Asked) → IsAt c i q a → Some new ≡ written c.requests q a value token read
  is_written can new e = of_any (Some new) (ap Some e ∙ by_can true can)
