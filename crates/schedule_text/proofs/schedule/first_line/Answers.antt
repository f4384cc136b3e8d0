use Rattle.std.proofs.Common.{add-one}
use Rattle.std.proofs.lemmas.List.{take_rest}
use Rattle.schedule_text.proofs.FirstLine.{cut_some, cut_none}
use Rattle.schedule_text.proofs.schedule.first_line.Goals as goal

pub returns-in-Some-clause-lines : goal.returns-in-Some-clause-lines
returns-in-Some-clause-lines c =
    rw take_rest (rw add-one (cut_some c.args.text.now c.in-Some.end c.in-Some.ensures))

pub returns-in-None-clause-lines : goal.returns-in-None-clause-lines
returns-in-None-clause-lines c = cut_none c.args.text.now c.in-None.ensures c.requires
