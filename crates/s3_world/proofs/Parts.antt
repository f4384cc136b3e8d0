-- What fits, has room or holds of steps and versions one after the other, in two parts.
use Rattle.std.proofs.Common.{List, [], ◌∷◌, ◌++◌}
use Rattle.std.specs.List.{AllByRecursion}
use Rattle.crdt_rows.specs.declared.version.Version.{Version}
use Rattle.crdt_rows.specs.AnyRow.{any_join}
use Rattle.object_schema.specs.Schema.{words}
use Rattle.cluster_machine.specs.Worlds.{next, FitAll, HaveRoom, run}
use Rattle.store_model.specs.Run.{World, Moving}

pub fit_more : (w : World) (first rest : List Moving) → FitAll any_join words w first → FitAll any_join words (run any_join words w first) rest → FitAll any_join words w (first ++ rest)
fit_more w [] rest a b = b
fit_more w (m ∷ first) rest a b = (a.0, fit_more (next any_join words w m) first rest a.1 b)

pub room_rest : (w : World) (first rest : List Moving) → HaveRoom any_join words w (first ++ rest) → HaveRoom any_join words (run any_join words w first) rest
room_rest w [] rest h = h
room_rest w (m ∷ first) rest h = room_rest (next any_join words w m) first rest h.1

pub room_first : (w : World) (first rest : List Moving) → HaveRoom any_join words w (first ++ rest) → HaveRoom any_join words w first
room_first w [] rest h = tt
room_first w (m ∷ first) rest h = (h.0, room_first (next any_join words w m) first rest h.1)

pub all_rest : (P : Version → Type 0) (first rest : List Version) → AllByRecursion P (first ++ rest) → AllByRecursion P rest
all_rest P [] rest h = h
all_rest P (v ∷ first) rest h = all_rest P first rest h.1

pub all_first : (P : Version → Type 0) (first rest : List Version) → AllByRecursion P (first ++ rest) → AllByRecursion P first
all_first P [] rest h = tt
all_first P (v ∷ first) rest h = (h.0, all_first P first rest h.1)
