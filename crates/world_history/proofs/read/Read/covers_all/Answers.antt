use Rattle.std.proofs.Common.{sym, ◌∙◌}
use Rattle.world_history.proofs.Newest.{own_covers}
use Rattle.world_history.proofs.read.Read.covers_all.Goals as goal

-- a read of one key owes what it owes to its own
pub returns : goal.returns
returns c =
    let read = c.args.self.now in
    let no_list = sym c.is_list.ensures ∙ c.if-is_list.false in
    c.covers_key.ensures ∙ own_covers c.args.past.now.table.index.records.now read.began read.finished read.kind read.bucket.now read.key.now read.answer.now no_list
