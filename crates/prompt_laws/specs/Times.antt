-- What is said of collections with times, and digests of forgets, as premises alone.
use Rattle.std.specs.Prelude.{◌⊎◌, List, []}
use Rattle.store_model.specs.Run.{start}
use Rattle.store_model.specs.Acts.{Act}
use Rattle.store_model.specs.Moments.{AtEachMoment}
use Rattle.store_collects.specs.Prompt.{ArePromptActs}
use Rattle.store_collects.specs.Times.{AreTimelyActs, ForgetsAreClear}
use Rattle.store_laws.specs.Hashed.{NeverCollect}

-- what these acts collect is collected in time: they collect nothing, or they are timely and no forget takes another row for the one that was collected
abbrev pub CollectsInTime : List Act → Type 0
CollectsInTime acts = NeverCollect acts ⊎ (AreTimelyActs [] start acts × ForgetsAreClear start acts)

-- if these acts are timely, and no forget takes another row for the one that was collected, then at each moment of their run, within drains too, they are prompt
abbrev pub IsPromptIfTimely : List Act → Type 0
IsPromptIfTimely acts = AreTimelyActs [] start acts → ForgetsAreClear start acts → AtEachMoment (ArePromptActs [] start) acts
