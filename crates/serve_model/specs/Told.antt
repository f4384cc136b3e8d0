-- What is told of how a job ended.
use Rattle.std.specs.Prelude.{◌≡◌, Option, option_map, List}
use Rattle.flow_model.specs.declared.flow.FlowEnd.{FlowEnd}
use Rattle.flow_model.specs.declared.flow.FlowEnd.TheVariants.{Listed}
use Rattle.store_model.specs.Answers.{Entry, entries}

-- of a list its keys, each with its version and meta, and of any other end all
pub data Told : Type 0 where
  list : List Entry → Told
  whole : FlowEnd → Told

-- what is told of an end
abbrev pub told_of : FlowEnd → Told
told_of (Listed rows) = list (entries rows)
told_of end = whole end

-- of two ends, if there are some, the same is told
abbrev pub TellSame : Option FlowEnd → Option FlowEnd → Type 0
TellSame end other = option_map told_of end ≡ option_map told_of other
