-- The token of a read, from its times.
use Rattle.std.proofs.Common.{◌≡◌, ℕ, Bool, true, false, List, [], ◌∷◌, Result, Ok, Err, IfOk, refl, ap, sym, ◌∙◌}
use Rattle.std.specs.Prelude.{◌&&◌}
use Rattle.std.specs.Ordering.{nat_cmp, is_lt}
use Rattle.crdt_core.specs.declared.memory.Memory.{Memory}
use Rattle.crdt_core.specs.declared.max.Max.{Max}
use Rattle.crdt_core.specs.Entries.{is_ascending}
use Rattle.crdt_core.specs.Map.{map_entries}
use Rattle.crdt_core.specs.MapLaws.{same_map}
use Rattle.k2v_rows.specs.declared.writes.Writes.{Writes}
use Rattle.k2v_rows.specs.declared.k2v_row.K2vRow.{K2vRow}
use Rattle.k2v_rows.specs.Token.{TimeMap, token_entries}
use Rattle.k2v_model.specs.Orders.{no_times, times_by, token_in}

ascends : (es : List (ℕ × Writes)) → is_ascending nat_cmp (token_entries es) ≡ is_ascending nat_cmp es
ascends [] = refl
ascends (e ∷ []) = refl
ascends (e ∷ f ∷ es) = ap (λ b. is_lt (nat_cmp e.0 f.0) && b) (ascends (f ∷ es))

times_are : (ts : List (ℕ × Max ℕ)) (b : Bool) (h : is_ascending nat_cmp ts ≡ b) → is_ascending nat_cmp ts ≡ true → map_entries (times_by ts b h) ≡ ts
times_are ts true h t = refl
times_are ts false h t = let no : true ≡ false = sym t ∙ h in cc

token_is : (row : K2vRow) (t : TimeMap) → map_entries t ≡ token_entries (map_entries row.entries) → t ≡ token_in row
token_is row t e =
    let ts = token_entries (map_entries row.entries) in same_map t (token_in row) (e ∙ sym (times_are ts _ refl (ascends (map_entries row.entries) ∙ row.entries.ascending)))

pub tokens_are : (row : K2vRow) (r : Result TimeMap Memory) → IfOk r (λ t. map_entries t ≡ token_entries (map_entries row.entries)) → IfOk r (λ t. t ≡ token_in row)
tokens_are row (Ok t) e = token_is row t e
tokens_are row (Err e) h = tt

pub none_is : (t : TimeMap) → map_entries t ≡ [] → t ≡ no_times
none_is t e = same_map t no_times e
