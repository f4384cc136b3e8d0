use Rattle.std.proofs.Common.{◌≡◌, ◌+◌, Some, None, drop, inl, inr, sym, ap, ◌∙◌, subst, drop_of_length-le}
use Rattle.std.proofs.Permutation.{every_at}
use Rattle.blake2_hash.specs.Blake2b.{blake2b}
use Rattle.cluster_machine.specs.Blocks.{IsRowWithBlock}
use Rattle.node_parts.specs.declared.contents.Contents.{Contents}
use Rattle.node_parts.proofs.Accepting.{PassesTo, passes_first, passes_last, passes_next, passes_over, passes_on, stops}
use Rattle.node_parts.proofs.Faults.{passed_on}
use Rattle.node_parts.proofs.contents.Contents.accept_all.Goals as goal
use Rattle.node_parts.proofs.contents.Contents.accept_all.Goals.{in-Ok+in_ok-accept-in-Ok, in-Err-NotARow}

pub loop-stored-init : goal.loop-stored-init
loop-stored-init g c = passes_first g.S.Row.Crdt.join g.S.Schema.words c.args.now c.args.self.now c.args.rows.now

-- what is read is spelled, and what is spelled is proper
pub accept-requires-clause-proper : goal.accept-requires-clause-proper
accept-requires-clause-proper g c =
    let laws = g.met.S.Schema.laws in
    laws.spelled_is_proper c.in-Ok.row c.as_slice.result.now ((laws.reads_back c.in-Ok.row c.as_slice.result.now).0 c.in-Ok.ensures.is)

-- the block that the row needs came with it
pub accept-requires-clause-beside : goal.accept-requires-clause-beside
accept-requires-clause-beside g c =
    let words = g.S.Schema.words in
    let stored : IsRowWithBlock (blake2b 32) words c.stored-item.result = rw c.stored-item.is (every_at (IsRowWithBlock (blake2b 32) words) c.args.rows.now c.loop-stored.stored-index c.stored-item.result c.loop-stored-test.true c.requires.stocked) in
    stored c.in-Ok.row (ap words.read (sym c.as_slice.ensures) ∙ c.in-Ok.ensures.is)

pub returns-in_err-accept-in-Ok-clause-causes : goal.returns-in_err-accept-in-Ok-clause-causes
returns-in_err-accept-in-Ok-clause-causes g c =
    let join = g.S.Row.Crdt.join in
    let words = g.S.Schema.words in
    let rows = c.args.rows.now in
    let old = c.args.self.now in
    let i = c.loop-stored.stored-index in
    let b = c.stored-item.result in
    let is : words.read b.0 ≡ Some c.in-Ok.row = ap words.read (sym c.as_slice.ensures) ∙ c.in-Ok.ensures.is in
    passed_on c.from_residual.result c.in_err-accept-in-Ok.field-0.0 c.from_residual.ensures.1 c.in_err-accept-in-Ok.ensures.causes
    (stops join words c.args.now old c.loop-stored.self rows (drop (i + 1) rows) b (passes_next join words c.args.now old c.loop-stored.self rows i b c.loop-stored-test.true c.stored-item.is c.loop-stored.invariant) c.in-Ok.row is)

pub loop-stored-preserved : goal.loop-stored-preserved
loop-stored-preserved g c =
    let join = g.S.Row.Crdt.join in
    let words = g.S.Schema.words in
    let rows = c.args.rows.now in
    let old = c.args.self.now in
    let i = c.loop-stored.stored-index in
    let b = c.stored-item.result in
    let passes = passes_next join words c.args.now old c.loop-stored.self rows i b c.loop-stored-test.true c.stored-item.is c.loop-stored.invariant in
    elim c.match-row_from.branch [
      | in-Ok+in_ok-accept-in-Ok w ↦
          let is : words.read b.0 ≡ Some w.in-Ok.row = ap words.read (sym c.as_slice.ensures) ∙ w.in-Ok.ensures.is in
          subst (λ (k : Contents g.row.S.Denot g.row.S-Row.Denot). PassesTo join words c.args.now old k rows (drop (i + 1) rows)) (sym w.self-is)
          (passes_on join words c.args.now old c.loop-stored.self rows (drop (i + 1) rows) b passes w.in-Ok.row is w.accept.new.self w.in_ok-accept-in-Ok.ensures.accepts)
      | in-Err-NotARow w ↦
          let none : words.read c.as_slice.result.now ≡ None = elim w.in-Err-NotARow.ensures.causes [ inl bad ↦ cc | inr both ↦ both.1 ] in
          subst (λ (k : Contents g.row.S.Denot g.row.S-Row.Denot). PassesTo join words c.args.now old k rows (drop (i + 1) rows)) (sym w.self-is)
          (passes_over join words c.args.now old c.loop-stored.self rows (drop (i + 1) rows) b passes (ap words.read (sym c.as_slice.ensures) ∙ none))
    ]

pub returns-clause-accepts : goal.returns-clause-accepts
returns-clause-accepts g c =
    let rows = c.args.rows.now in
    passes_last g.S.Row.Crdt.join g.S.Schema.words c.args.now c.args.self.now c.loop-stored.self rows
    (subst (PassesTo g.S.Row.Crdt.join g.S.Schema.words c.args.now c.args.self.now c.loop-stored.self rows) (drop_of_length-le rows c.loop-stored-test.false) c.loop-stored.invariant)
