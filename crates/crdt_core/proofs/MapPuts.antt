-- What one entry that is joined into a map does to the value at each key.
use Rattle.std.specs.Prelude.{◌≡◌, ◌≢◌, Some, None, refl}
use Rattle.std.proofs.Common.{ap, ◌∙◌}
use Rattle.std.specs.declared.cmp.Ordering.{Ordering}
use Rattle.std.specs.declared.cmp.Ordering.TheVariants.{Less, Equal, Greater}
use Rattle.std.specs.declared.cmp.Ord as ord
use Rattle.std.specs.declared.cmp.PartialEq as partial_eq
use Rattle.std.specs.declared.cmp.PartialOrd as partial_ord
use Rattle.std.specs.Cmp.{IsTotalOrder, tied_itself}
use Rattle.crdt_core.specs.declared.map.Map.{Map}
use Rattle.crdt_core.specs.Lex.{by_order}
use Rattle.crdt_core.specs.Order.{option_join}
use Rattle.crdt_core.specs.OrderLaws.{option_join-none}
use Rattle.crdt_core.specs.Map.{map_get, map_single, map_join}
use Rattle.crdt_core.specs.MapLaws.{map_get-join}

none_by : {V : Type 0} (v : V) (r : Ordering) → r ≢ Equal → by_order r None (Some v) None ≡ None
none_by v Less h = refl
none_by v Equal h = absurd (h refl)
none_by v Greater h = refl

module _ {K V : Type 0} {o : ord.Ghosts K} {p : partial_eq.Ghosts K} {q : partial_ord.Ghosts K} where
  module _ (total : IsTotalOrder o.cmp) where
    -- one entry that is joined in adds its value at its key
    pub map_get-put : (j : V → V → V) (m : Map K V o p q) (k : K) (v : V) → map_get (map_join j m (map_single k v)) k ≡ option_join j (map_get m k) (Some v)
    map_get-put j m k v = map_get-join total j m (map_single k v) k ∙ ap (option_join j (map_get m k)) (rw (tied_itself total k) refl)

    -- and nothing elsewhere
    pub map_get-put_other : (j : V → V → V) (m : Map K V o p q) (k : K) (v : V) (other : K) → o.cmp other k ≢ Equal → map_get (map_join j m (map_single k v)) other ≡ map_get m other
    map_get-put_other j m k v other apart =
        map_get-join total j m (map_single k v) other
        ∙ (ap (option_join j (map_get m other)) (none_by v (o.cmp other k) apart) ∙ option_join-none j (map_get m other))
