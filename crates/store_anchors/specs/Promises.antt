-- What is promised of a run of the store.
use Rattle.std.specs.Prelude.{List, []}
use Rattle.crdt_rows.specs.AnyRow.{any_join}
use Rattle.object_schema.specs.Schema.{words}
use Rattle.cluster_machine.specs.Kept.{KeptReads}
use Rattle.history_model.specs.Fresh.{Fresh}
use Rattle.store_model.specs.Run.{start}
use Rattle.store_model.specs.Acts.{Act, after_acts, AreLawfulActs, ActsFit}
use Rattle.store_model.specs.Moments.{AtEachMoment}
use Rattle.store_model.specs.Fresh.{NoClash, IsFresh}
use Rattle.store_collects.specs.Fresh.{IsFresh as IsFreshOrForgotten}
use Rattle.store_collects.specs.Past.{NothingIsBelow}
use Rattle.store_collects.specs.Prompt.{ArePromptActs}
use Rattle.store_model.specs.Equal.{AreEqual}
use Rattle.store_model.specs.Written.{GivesWhatWasWritten}
use Rattle.cluster_machine.specs.Hashes.{NoClash as NoTrieClash}
use Rattle.store_laws.specs.Hashed.{ActsHash, NeverCollect, CollectsSafely}
use Rattle.store_laws.specs.Promised.{UsesGreatest, GoesOn, IsRightlySuperseded, IsAnchored}
use Rattle.store_anchors.specs.Stored.{BlocksDiffer}
use Rattle.store_anchors.specs.Copied.{CopiesEndRightly, CopiesSources}
use Rattle.store_anchors.specs.Whole.{GivesAllBytes}

-- no two of the strings that these acts hash for walks have one digest, and none has 32 zero bytes
abbrev pub WalksAreClear : List Act → Type 0
WalksAreClear acts = NoTrieClash (ActsHash start acts)

-- what is promised of acts: each layout in use has the greatest partition size, what answers tell of a version's bytes is as was written, and replicas are equal. And where no digests of walks clash: each phase of a read gave, joined with what was collected, at least all rows that were kept before it began; what answers tell of bytes in blocks is as was written too where no two blocks have one digest; a get or copy ends superseded only where what it read was overwritten, of a get its object and of a copy its source, and no request waits for what never comes; acknowledged blocks that are not deleted lie at a node with a live reference; if none of the acts is `collect`, answered reads are fresh, and if all are prompt, they are but that a collected marker too may explain that nothing is shown; and in both cases they are fresh by the records alone where the buckets' names have different digests, and a copy takes what was written to its source. In prompt acts nothing but delete markers is collected, and no node has an older version of the object from then on
pub record KeepsPromises (acts : List Act) : Type 0 where
  pub greatest : UsesGreatest (after_acts start acts).world
  pub written : GivesWhatWasWritten acts
  pub equal : AreEqual acts
  pub kept : WalksAreClear acts → KeptReads any_join words (after_acts start acts).world
  pub fresh : WalksAreClear acts → NeverCollect acts → IsFresh (after_acts start acts)
  pub forgotten : WalksAreClear acts → ArePromptActs [] start acts → IsFreshOrForgotten (after_acts start acts)
  pub below : ArePromptActs [] start acts → NothingIsBelow acts
  pub recorded : WalksAreClear acts → CollectsSafely acts → NoClash (after_acts start acts).buckets → Fresh (after_acts start acts).history
  pub whole : WalksAreClear acts → BlocksDiffer acts → GivesAllBytes acts
  pub copied : WalksAreClear acts → CollectsSafely acts → CopiesSources acts
  pub superseded : WalksAreClear acts → IsRightlySuperseded acts
  pub copies_end : WalksAreClear acts → CopiesEndRightly acts
  pub goes_on : WalksAreClear acts → GoesOn (after_acts start acts)
  pub anchored : WalksAreClear acts → BlocksDiffer acts → IsAnchored acts

-- at each moment of every run of lawful acts after which everything fits, within drains too, it holds
abbrev pub EveryRunKeepsPromises : Type 0
EveryRunKeepsPromises = (acts : List Act) → AreLawfulActs start acts → ActsFit start acts → AtEachMoment KeepsPromises acts
