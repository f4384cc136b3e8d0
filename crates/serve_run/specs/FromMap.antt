-- What a server that is one map would write.
use Rattle.std.specs.Prelude.{◌≡◌, ◌≤◌, ℕ, ⊤, Option, List, [], ◌++◌, length}
use Rattle.lab_outside.specs.Connection.{Connection}
use Rattle.layout_roles.specs.declared.layout.Layout.{Layout}
use Rattle.cluster_machine.specs.Hashes.{NoClash as NoWalkClash}
use Rattle.store_model.specs.Fresh.{NoClash}
use Rattle.serve_model.specs.Talk.{Grammar, Serving}
use Rattle.serve_model.specs.declared.buckets.Buckets.{Buckets}
use Rattle.serve_model.specs.declared.served.ServeFault.{ServeFault}
use Rattle.serve_model.specs.Connections.{AreServed, SomeAsked, ServesAllButLast}
use Rattle.serve_model.specs.Plain.{Plain as Map, plain, PutsBlock, AreApart}
use Rattle.serve_run.specs.declared.plan.Plan.{Plan}
use Rattle.plain_changes.specs.Changing.{IsServedHash}
use Rattle.serve_run.specs.Begun.{serving}
use Rattle.serve_run.specs.Told.{Told, WhereTold}

-- the empty map with a plan's buckets and size of blocks
abbrev pub empty_map : Plan → Map
empty_map p = record { buckets = p.config.buckets; block = p.config.block_size; clock = 0; ticked = 0; asked = 0; entries = [] }

-- what is served at first by a server that is this map
abbrev pub map_serving : Plan → List ℕ → Serving Map
map_serving p times = record { store = empty_map p; times = times; time = 0; kept = 0 }

-- these connections, which have these bytes, are served as by that server
abbrev pub AreServedFromMap : Grammar → Plan → Buckets → List ℕ → List (List ℕ) → List Connection → Type 0
AreServedFromMap g p buckets times came gone = (q : Serving Map) × AreServed plain buckets g (λ a. ⊤) (map_serving p times) came gone q

-- no two blocks have one digest into which that server puts what these connections ask it to put, which have these bytes, uploads that are given up among it as far as whole blocks came: from the end of each one on, and from wherever it may be cut off where its count of faults rose; of the connections nothing else is said
abbrev pub PutsApart : Grammar → Plan → Buckets → List ℕ → List (List ℕ) → List Connection → Type 0
PutsApart g p buckets times came gone = AreApart (λ bytes. SomeAsked plain buckets g (PutsBlock bytes) (map_serving p times) came gone)

-- no two strings have one digest that the changes hash for walks which are made after jobs of these connections, wherever these may be cut off; without changes there are none
abbrev pub WalksApart : Grammar → Plan → Layout → Buckets → List ℕ → List (List ℕ) → List Connection → Type 0
WalksApart g p first buckets times came gone = NoWalkClash (IsServedHash buckets g (serving p first times) came gone)

-- the first of the connections to come were served with these texts, all but at least so many: they are served as by that server, if its blocks are apart, and so is what its changes hash
abbrev pub AreFromMap : Grammar → Plan → Layout → Buckets → ℕ → List Connection → List Connection → List ℕ → List (List ℕ) → Type 0
AreFromMap g p first buckets left_out past past_after times coming =
    (came to_come : List (List ℕ)) (gone later : List Connection) → coming ≡ came ++ to_come → past_after ≡ past ++ gone ++ later → length came ≡ length gone → left_out ≤ length later → PutsApart g p buckets times came gone → WalksApart g p first buckets times came gone →
    AreServedFromMap g p buckets times came gone

-- so it is where clock and link tell, and no two names of buckets have one digest
abbrev pub IsFromMap : Grammar → Plan → Layout → Buckets → ℕ → Told → Type 0
IsFromMap g p first buckets left_out t = NoClash p.config.buckets → WhereTold t (AreFromMap g p first buckets left_out t.past t.past_after)

-- these connections came, and with the last one serving ended for this fault, so that these are still to come: they are served as by that server, and with the last one it ends so, if its blocks are apart, and so is what its changes hash
abbrev pub AreFromMapButLast : Grammar → Plan → Layout → Buckets → ServeFault → Option (List (List ℕ)) → List Connection → List Connection → List ℕ → List (List ℕ) → Type 0
AreFromMapButLast g p first buckets fault coming_after past past_after times coming =
    (gone : List Connection) → past_after ≡ past ++ gone → PutsApart g p buckets times coming gone → WalksApart g p first buckets times coming gone → ServesAllButLast plain buckets g (λ a. ⊤) (λ asks. ⊤) (map_serving p times) fault coming coming_after past past_after

-- so it is where clock and link tell, and no two names of buckets have one digest
abbrev pub EndsFromMap : Grammar → Plan → Layout → Buckets → ServeFault → Told → Type 0
EndsFromMap g p first buckets fault t = NoClash p.config.buckets → WhereTold t (AreFromMapButLast g p first buckets fault t.coming_after t.past t.past_after)
