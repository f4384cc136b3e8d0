-- How serving ends.
use Rattle.std.specs.Prelude.{ℕ, List, Option, Result, Ok, Err}
use Rattle.lab_outside.specs.Connection.{Connection}
use Rattle.serve_model.specs.declared.buckets.Buckets.{Buckets}
use Rattle.serve_model.specs.declared.served.Served.{Served}
use Rattle.serve_model.specs.Stores.{Job, Store, Known}
use Rattle.serve_model.specs.Talk.{Grammar, Serving}
use Rattle.serve_model.specs.Serving.{HasState, Reached, Goes}
use Rattle.serve_model.specs.Connections.{ServesAll, ServesAllButLast}
use Rattle.serve_loop.specs.declared.service.ServeStop.{ServeStop}
use Rattle.serve_loop.specs.declared.service.ServeStop.TheVariants.{Link, Fault}

module _ {S : Type 0} (store : Store S) where
  -- all connections that came were served, and so many they are; or all but the last, with which serving ended
  abbrev pub Ends : Buckets → Grammar → Serving S → (S → Type 0) → Known S → Option (List ℕ) → Served → Result ℕ ServeStop → List (List ℕ) → Option (List (List ℕ)) → List Connection → List Connection → Type 0
  Ends buckets g p holds known times served (Ok n) coming coming_new past past_new = ServesAll store buckets g known.fits p n holds times served coming coming_new past past_new
  Ends buckets g p holds known times served (Err Link) coming coming_new past past_new = (n : ℕ) × ServesAll store buckets g known.fits p n holds times served coming coming_new past past_new
  Ends buckets g p holds known times served (Err (Fault e)) coming coming_new past past_new = ServesAllButLast store buckets g known.fits known.overflows p e coming coming_new past past_new

  -- whatever state the code's store stood for, jobs lead to one for which it stands, or to a job without room
  abbrev pub Leaves : (S → ℕ → Job → Type 0) → (S → ℕ → Job → Type 0) → (S → Type 0) → (S → Type 0) → Result ℕ ServeStop → Type 0
  Leaves fits lacks holds holds' (Ok n) = (s : S) → holds s → HasState (Reached store fits lacks holds' s)
  Leaves fits lacks holds holds' (Err Link) = (s : S) → holds s → HasState (Reached store fits lacks holds' s)
  Leaves fits lacks holds holds' (Err (Fault e)) = Goes store fits lacks {A = Unit} holds holds' (Err e)
