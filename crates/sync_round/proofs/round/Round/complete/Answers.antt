use Rattle.std.proofs.Common.{ap, ◌∙◌, ◌==◌}
use Rattle.sync_round.specs.Round.{is_complete}
use Rattle.sync_round.proofs.Counting.{none_lacks}
use Rattle.sync_round.proofs.round.Round.complete.Goals as goal

pub returns : goal.returns
returns c target parts own told r =
    ap (λ n. n == 0) c.args.self.now.counted ∙ none_lacks own told c.args.self.now.parts.entries r.marks ∙ ap (λ ps. is_complete ps own told) r.parts_of
