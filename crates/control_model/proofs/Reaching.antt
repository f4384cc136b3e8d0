-- The worlds that steps lead to, step by step; and an element of a list has a place.
use Rattle.std.specs.Prelude.{◌≡◌, ◌≤◌, ℕ, suc, List, [], ◌∷◌, ◌++◌, Some, slice_get, refl}
use Rattle.std.proofs.Common.{ap, sym, ◌∙◌, inl, inr}
use Rattle.view_model.specs.View.{Reading}
use Rattle.control_model.specs.World.{World, empty}
use Rattle.control_model.specs.Steps.{Step, step, run}
use Rattle.crdt_core.specs.Members.{Has}
use Rattle.control_model.specs.Reached.{IsReached}

-- an element has a place: a view that was ever sent may be delivered
pub place_of : {A : Type 0} (xs : List A) (x : A) → Has xs x → (k : ℕ) × (slice_get xs k ≡ Some x)
place_of [] x h = absurd h
place_of (y ∷ ys) x (inl e) = (0, ap Some e)
place_of (y ∷ ys) x (inr h) = let k = place_of ys x h in (suc k.0, k.1)

module _ {L : Type 0} (r : Reading L) (partitions : ℕ) where
  pub reached_empty : 1 ≤ partitions → IsReached r partitions empty
  reached_empty some = (some, ([], refl))

  run_more : (steps : List (Step L)) (w : World L) (s : Step L) → run r partitions w (steps ++ s ∷ []) ≡ step r partitions (run r partitions w steps) s
  run_more [] w s = refl
  run_more (x ∷ steps) w s = run_more steps (step r partitions w x) s

  pub reached_step : (w : World L) (s : Step L) → IsReached r partitions w → IsReached r partitions (step r partitions w s)
  reached_step w s h = (h.0, (h.1.0 ++ s ∷ [], ap (λ w. step r partitions w s) h.1.1 ∙ sym (run_more h.1.0 empty s)))

  pub reached_run : (steps : List (Step L)) (w : World L) → IsReached r partitions w → IsReached r partitions (run r partitions w steps)
  reached_run [] w h = h
  reached_run (s ∷ steps) w h = reached_run steps (step r partitions w s) (reached_step w s h)
