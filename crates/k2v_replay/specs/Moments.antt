-- The moments of a run, and what is owed to writes at each.
use Rattle.std.specs.Prelude.{◌≡◌, ◌≤◌, ◌++◌, ℕ, List, ◌∷◌, []}
use Rattle.cluster_machine.specs.Hashes.{NoClash}
use Rattle.k2v_model.specs.Run.{start}
use Rattle.k2v_model.specs.Acts.{Act, drain, after_acts}
use Rattle.k2v_model.specs.Owed.{AreWhole, ReadsCover, ReadsShowWrites, ReadsLeaveReplaced, WritesHavePlace}
use Rattle.k2v_laws.specs.Hashed.{ActsHash}

-- these acts lead to a moment of a run: they are its first ones, and if a drain follows, some of its deliveries may have been made
pub data IsMoment (acts : List Act) : List Act → Type 0 where
  between : (before after : List Act) → acts ≡ before ++ after → IsMoment acts before
  within : (before after : List Act) (n k : ℕ) → acts ≡ before ++ drain n ∷ after → k ≤ n → IsMoment acts (before ++ drain k ∷ [])

-- what is owed to writes at a moment: of what is read only what was written is shown, and each write has its place; and where the strings that were hashed for walks don't clash, each acknowledged write of an item is shown by what was read after it, or what replaced it, and nothing that had been replaced before
pub record KeepsItems (acts : List Act) : Type 0 where
  pub written : ReadsShowWrites (after_acts start acts)
  pub place : WritesHavePlace (after_acts start acts)
  pub whole : NoClash (ActsHash start acts) → AreWhole (after_acts start acts)
  pub cover : NoClash (ActsHash start acts) → ReadsCover (after_acts start acts)
  pub replaced : NoClash (ActsHash start acts) → ReadsLeaveReplaced (after_acts start acts)
