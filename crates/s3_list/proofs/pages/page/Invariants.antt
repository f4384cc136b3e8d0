use Rattle.std.proofs.Common.{drop}
use Rattle.std.specs.List.{filter_map}
use Rattle.s3_model.specs.Page.{entry_of, entries_of}
use Rattle.s3_list.specs.SoFar.{IsSoFar}
use Rattle.s3_list.proofs.pages.page.Given as goal

-- what is shown so far, and what the rows to come show, is all; and it isn't more than are asked
abbrev pub invariant-loop-row : goal.invariant-loop-row
invariant-loop-row l = IsSoFar l.ask.max (entries_of l.ask l.rows) l.entries (filter_map (entry_of l.ask) (drop l.row-index l.rows))
