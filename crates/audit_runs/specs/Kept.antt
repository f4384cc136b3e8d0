-- What is promised of a replay, beside a run that differs from it in nothing but cuts.
use Rattle.std.specs.Prelude.{List}
use Rattle.history_model.specs.Fresh.{Fresh}
use Rattle.store_model.specs.Run.{start}
use Rattle.store_model.specs.Events.{Turn, acts_of, run}
use Rattle.store_model.specs.Fresh.{NoClash}
use Rattle.store_model.specs.Moments.{AtEachMoment}
use Rattle.store_anchors.specs.Promises.{WalksAreClear, KeepsPromises}
use Rattle.text_model.specs.Played.{ArePlayed}
use Rattle.prompt_laws.specs.Times.{CollectsInTime, IsPromptIfTimely}
use Rattle.audit_runs.specs.Alike.{DifferInCuts}

-- turns of a replay differ from these in nothing but cuts, so the states are theirs; at each moment of that replay, within drains too, all that is promised holds, and it is prompt if that replay is timely and no forget clashes; and the records of these turns are fresh, where no digests of its walks or of buckets' names clash and what it collects is collected in time
pub record IsKeptBeside (turns : List Turn) : Type 0 where
  pub others : List Turn
  pub differ : DifferInCuts turns others
  pub played : ArePlayed others
  pub promises : AtEachMoment KeepsPromises (acts_of others)
  pub prompt : IsPromptIfTimely (acts_of others)
  pub recorded : WalksAreClear (acts_of others) → CollectsInTime (acts_of others) → NoClash (run start turns).buckets → Fresh (run start turns).history
