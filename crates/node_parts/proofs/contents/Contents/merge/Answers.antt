use Rattle.std.proofs.Common.{◌≡◌, None, inl, inr, ap, sym, subst, ◌∙◌}
use Rattle.std.proofs.lemmas.Result.{on_ok_weaker}
use Rattle.node_parts.specs.Collects.{MergesRow}
use Rattle.node_parts.proofs.TombSteps.{became_same}
use Rattle.node_parts.proofs.contents.Contents.merge.Goals as goal

-- what is read is spelled, and what is spelled is proper
pub merge_row-requires-clause-proper : goal.merge_row-requires-clause-proper
merge_row-requires-clause-proper g c =
    let laws = g.met.S.Schema.laws in
    laws.spelled_is_proper c.in-Ok.row c.as_slice.result.now ((laws.reads_back c.in-Ok.row c.as_slice.result.now).0 c.in-Ok.ensures.is)

pub merge_row-requires-clause-needs_none : goal.merge_row-requires-clause-needs_none
merge_row-requires-clause-needs_none g c = c.requires.needs_none c.in-Ok.row (ap g.S.Schema.words.read (sym c.as_slice.ensures) ∙ c.in-Ok.ensures.is)

pub returns-in-Ok-clause-merges : goal.returns-in-Ok-clause-merges
returns-in-Ok-clause-merges g c =
    let join = g.S.Row.Crdt.join in
    let words = g.S.Schema.words in
    let read = ap words.read (sym c.as_slice.ensures) ∙ c.in-Ok.ensures.is in
    on_ok_weaker c.merge_row.result (λ m. subst (MergesRow join words c.args.self.now c.merge_row.new.self c.args.view.now c.args.node c.args.now) (sym read) m) c.merge_row.ensures.merges

pub returns-in-Err-NotARow-clause-merges : goal.returns-in-Err-NotARow-clause-merges
returns-in-Err-NotARow-clause-merges g c x same is =
    let words = g.S.Schema.words in
    let none : words.read c.as_slice.result.now ≡ None = elim c.in-Err-NotARow.ensures.causes [ inl bad ↦ cc | inr both ↦ both.1 ] in
    rw (ap words.read (sym c.as_slice.ensures) ∙ none) (became_same c.args.self.now x is)
