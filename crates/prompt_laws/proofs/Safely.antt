-- What acts collect in time is collected safely, where they are prompt if they are timely.
use Rattle.std.proofs.Common.{inl, inr, List, [], sym}
use Rattle.std.proofs.lemmas.List.{append-nil}
use Rattle.store_model.specs.Run.{start}
use Rattle.store_model.specs.Acts.{Act}
use Rattle.store_model.specs.Events.{Turn, acts_of}
use Rattle.store_model.specs.Moments.{between}
use Rattle.store_model.specs.Turns.{AreLawful}
use Rattle.store_laws.specs.Hashed.{CollectsSafely}
use Rattle.text_model.specs.Played.{AreAllowed}
use Rattle.prompt_laws.specs.Times.{CollectsInTime, IsPromptIfTimely}

-- what is said of the turns of schedules
abbrev pub TimelyTurnsArePrompt : Type 0
TimelyTurnsArePrompt = (turns : List Turn) → AreAllowed turns → AreLawful start turns → IsPromptIfTimely (acts_of turns)

pub collects_safely : (acts : List Act) → IsPromptIfTimely acts → CollectsInTime acts → CollectsSafely acts
collects_safely acts prompt (inl never) = inl never
collects_safely acts prompt (inr timely) = inr (prompt timely.0 timely.1 acts (between acts [] (sym (append-nil acts))))
