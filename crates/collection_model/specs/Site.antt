-- What collections of one key stand on.
use Rattle.std.specs.Prelude.{ℕ, ◌+◌, ◌<◌, List}
use Rattle.plane_model.specs.Control.{Control, ControlLaws}
use Rattle.collection_model.specs.Marks.{Marks, MarkLaws}

-- the times of a collection, in milliseconds
pub record Times : Type 0 where
  pub hour : ℕ  -- a message, and a request, take no longer; a clock is ahead by no more
  pub age : ℕ  -- a marker is collected only when its timestamp lies as far back
  pub pause : ℕ  -- from the first round's completion to the second round

-- the pause is above two hours, the age above three
pub record TimeLaws (t : Times) : Type 0 where
  pub pause : t.hour + t.hour < t.pause
  pub age : t.hour + t.hour + t.hour < t.age

-- a control plane, the rows of one key, its partition, the times, and the nodes that a collection asks
pub record Site (C E R V : Type 0) : Type 0 where
  pub control : Control C E
  pub marks : Marks R V
  pub times : Times
  pub partition : ℕ
  pub asked : List ℕ

-- the control plane, the marks and the times have their laws
pub record SiteLaws {C E R V : Type 0} (s : Site C E R V) : Type 0 where
  pub control : ControlLaws s.control
  pub marks : MarkLaws s.marks
  pub times : TimeLaws s.times
