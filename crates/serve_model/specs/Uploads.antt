-- Uploads on their way in a cluster.
use Rattle.std.specs.Prelude.{◌≡◌, ◌⊎◌, ◌≤◌, ◌<◌, ℕ, ⊤, Option, Some, None, List, [], ◌∷◌, ◌++◌, length}
use Rattle.std.specs.List.{concat}
use Rattle.layout_roles.specs.declared.cut.Cut.{Cut}
use Rattle.cluster_machine.specs.declared.step.Refusal.{Refusal}
use Rattle.store_model.specs.Run.{State, Outcome, need_at}
use Rattle.store_model.specs.Acts.{Act, after_acts, AreLawfulActs, ActsFit}
use Rattle.serve_model.specs.Stores.{Upload, Job, carry, keep, leave, stream_of}
use Rattle.serve_model.specs.Clusters.{Cluster, wait, asking, number_in, acts_to_ask, delivered, fed_block}

-- ---- what comes of giving an upload up

-- some bytes came of so many that are needed next, not all; where nothing is needed any more, whatever came
abbrev pub IsPart : Option ℕ → List ℕ → Type 0
IsPart None part = ⊤
IsPart (Some need) part = (part ≡ []) ⊎ (length part < need)

-- to give the upload up, of which these bytes were taken and so many are needed next, is this job: it is left after these bytes and some more, or, where it waits for no client any more, to be kept after them and some more, since then nothing is decided
abbrev pub IsLeft : Upload → List ℕ → Option ℕ → Job → Type 0
IsLeft u came need (carry o) = ⊥
IsLeft u came need (keep v all) = (need ≡ None) × (u ≡ v) × ((part : List ℕ) × (all ≡ came ++ part))
IsLeft u came need (leave v all) = (u ≡ v) × ((part : List ℕ) × IsPart need part × (all ≡ came ++ part))

-- ---- blocks

-- these blocks come for request q
abbrev pub acts_of_blocks : ℕ → List (List ℕ) → List Act
acts_of_blocks q [] = []
acts_of_blocks q (b ∷ bs) = fed_block q b ++ acts_of_blocks q bs

-- each has as many bytes as request q needs when it comes, one at least
abbrev pub AreNeeded : State → ℕ → List (List ℕ) → Type 0
AreNeeded s q [] = ⊤
AreNeeded s q (b ∷ bs) = (need_at s q ≡ Some (length b)) × (1 ≤ length b) × AreNeeded (after_acts s (fed_block q b)) q bs

-- ---- an upload on its way

-- what comes of asking for an upload
abbrev pub asked_for : Cluster → ℕ → Upload → Outcome
asked_for c time u = asking c.members c.run (wait c time) (stream_of u)

-- the number of its request
abbrev pub number_of : Cluster → ℕ → Upload → ℕ
number_of c time u = number_in (asked_for c time u).words

-- what was done for it once its request was opened, when these blocks came; nothing where it was refused
abbrev pub acts_opened_so_far : ℕ → Option (Refusal Cut) → List (List ℕ) → List Act
acts_opened_so_far q (Some reason) blocks = []
acts_opened_so_far q None blocks = delivered ++ acts_of_blocks q blocks

-- its acts so far
abbrev pub acts_so_far : Cluster → ℕ → Upload → List (List ℕ) → List Act
acts_so_far c time u blocks = acts_to_ask c.members (wait c time) (stream_of u) ++ acts_opened_so_far (number_of c time u) (asked_for c time u).refused blocks

-- where it was opened, each block came as it was needed; where it was refused, none came
abbrev pub CameAsNeeded : State → ℕ → Option (Refusal Cut) → List (List ℕ) → Type 0
CameAsNeeded s q (Some reason) blocks = blocks ≡ []
CameAsNeeded s q None blocks = AreNeeded (after_acts s delivered) q blocks

-- so much is needed next; nothing where it was refused
abbrev pub needed_next : State → ℕ → Option (Refusal Cut) → Option ℕ
needed_next s q (Some reason) = None
needed_next s q None = need_at s q

-- since this time an upload is on its way, of which these bytes came, in blocks, each as it was needed; so much is needed next, or it waits for no client; and this is the state: all so far was lawful and fits
pub record IsComing (c : Cluster) (time : ℕ) (u : Upload) (came : List ℕ) (need : Option ℕ) (s : State) : Type 0 where
  pub blocks : List (List ℕ)
  pub came_is : came ≡ concat blocks
  pub needed : CameAsNeeded (asked_for c time u).state (number_of c time u) (asked_for c time u).refused blocks
  pub lawful : AreLawfulActs c.run (acts_so_far c time u blocks)
  pub fit : ActsFit c.run (acts_so_far c time u blocks)
  pub state_is : s ≡ after_acts c.run (acts_so_far c time u blocks)
  pub need_is : need ≡ needed_next s (number_of c time u) (asked_for c time u).refused
