use Rattle.std.proofs.Common.{◌∙◌}
use Rattle.world_history.proofs.Newest.{newest_covers, none_covers}
use Rattle.world_history.proofs.read.Read.covers_key.Goals as goal

-- what covers the newest version covers each
pub returns-in-Some : goal.returns-in-Some
returns-in-Some c =
    let read = c.args.self.now in
    c.covers.ensures ∙ newest_covers c.args.past.now.table.index.records.now read.began read.finished read.bucket.now read.key.now read.answer.now c.args.key.now c.in-Some.version c.in-Some.ensures

pub returns-in-None : goal.returns-in-None
returns-in-None c =
    let read = c.args.self.now in
    none_covers c.args.past.now.table.index.records.now read.began read.finished read.bucket.now read.key.now read.answer.now c.args.key.now c.in-None.ensures
