use Rattle.std.proofs.Common.{◌≡◌, true, false, cond, None, [], ◌∷◌, ◌++◌, take, refl, subst, sym, ap, ◌∙◌, arith}
use Rattle.std.proofs.lemmas.List.{take_more, take_all}
use Rattle.table_model.specs.Rows.{change_of, find_row}
use Rattle.node_parts.proofs.Accepting.{Queues, queues_none, queues_more, needs_is, became, lacks_spelling, overflows}
use Rattle.node_parts.proofs.Faults.{passed_on, not_pushed}
use Rattle.node_parts.proofs.KeptBlocks.{hash_of}
use Rattle.node_parts.proofs.contents.Contents.accept.Goals as goal
use Rattle.node_parts.proofs.contents.Contents.accept.Goals.{then-taken, else-taken}

pub loop-called-init : goal.loop-called-init
loop-called-init g c = record {
  table = c.in_ok-taken.ensures.rows;
  queue = queues_none g.S.Row.Crdt.join g.S.Schema.words c.args.self.now.outbox;
  kept = refl;
}

pub loop-called-preserved : goal.loop-called-preserved
loop-called-preserved g c =
    let join = g.S.Row.Crdt.join in
    let words = g.S.Schema.words in
    let items = c.as_slice-called-items.result.now in
    let old = c.args.self.now.outbox in
    let i = c.loop-called.called-index in
    let x = c.called-item.result in
    record {
      table = c.loop-called.invariant.table;
      queue = rw c.in_ok-push.ensures.ok
          (subst (Queues join words old _) (sym (take_more items i x c.loop-called-test.true ∙ ap (λ y. take i items ++ y ∷ []) (sym c.called-item.is)))
          (queues_more join words old c.loop-called.self.outbox (take i items) x c.in_ok-bytes.bytes c.partition.result c.loop-called.invariant.queue c.in_ok-bytes.ensures.are c.partition.ensures.is));
      kept = c.loop-called.invariant.kept;
    }

pub returns-in_err-bytes-clause-causes : goal.returns-in_err-bytes-clause-causes
returns-in_err-bytes-clause-causes g c =
    let join = g.S.Row.Crdt.join in
    let words = g.S.Schema.words in
    let items = c.as_slice-called-items.result.now in
    let is : items ≡ (change_of join words (find_row words (words.table c.args.row) (words.key c.args.row) c.args.self.now.table) c.args.row).triggered = c.as_slice-called-items.ensures ∙ ap (λ change. change.triggered) c.in_ok-taken.ensures.change in
    passed_on c.from_residual-in_err-bytes.result c.in_err-bytes.field-0.0 c.from_residual-in_err-bytes.ensures.1 c.in_err-bytes.ensures.causes
    (λ none x h. lacks_spelling g.met.S.Schema.laws c.args.self.now x c.args.row items h is c.args.now c.args.given.now c.loop-called.called-index c.called-item.result c.loop-called-test.true (ap words.spelling (sym c.called-item.is) ∙ none))

pub returns-in_err-push-clause-causes : goal.returns-in_err-push-clause-causes
returns-in_err-push-clause-causes g c =
    let join = g.S.Row.Crdt.join in
    let words = g.S.Schema.words in
    let items = c.as_slice-called-items.result.now in
    let is : items ≡ (change_of join words (find_row words (words.table c.args.row) (words.key c.args.row) c.args.self.now.table) c.args.row).triggered = c.as_slice-called-items.ensures ∙ ap (λ change. change.triggered) c.in_ok-taken.ensures.change in
    not_pushed c.from_residual-in_err-push.result c.in_err-push.field-0.0 c.loop-called.self.outbox.pushed c.from_residual-in_err-push.ensures.1 c.in_err-push.ensures.refused
    (λ full x h. overflows g.met.S.Schema.laws c.args.self.now x c.args.row items h is c.args.now c.args.given.now c.loop-called.called-index c.loop-called.self.outbox c.loop-called-test.true c.loop-called.invariant.queue full)

pub returns-clause-accepts : goal.returns-clause-accepts
returns-clause-accepts g c x h =
    let join = g.S.Row.Crdt.join in
    let words = g.S.Schema.words in
    let items = c.as_slice-called-items.result.now in
    let all : take c.loop-called.called-index items ≡ items = take_all c.loop-called.called-index items (omega arith) in
    let is : items ≡ (change_of join words (find_row words (words.table c.args.row) (words.key c.args.row) c.args.self.now.table) c.args.row).triggered = c.as_slice-called-items.ensures ∙ ap (λ change. change.triggered) c.in_ok-taken.ensures.change in
    let change = change_of join words (find_row words (words.table c.args.row) (words.key c.args.row) c.args.self.now.table) c.args.row in
    let after : hash_of c.if-taken.after ≡ cond change.is_live (words.live_block c.args.row) None = elim c.if-taken.branch [
      | then-taken w ↦
          let live : change.is_live ≡ true = sym (ap (λ k. k.is_live) c.in_ok-taken.ensures.change) ∙ w.if-taken.true in
          ap hash_of w.after-is ∙ (c.live_block-needed.ensures ∙ ap (λ b. cond b (words.live_block c.args.row) None) (sym live))
      | else-taken w ↦
          let gone : change.is_live ≡ false = sym (ap (λ k. k.is_live) c.in_ok-taken.ensures.change) ∙ w.if-taken.false in
          ap hash_of w.after-is ∙ ap (λ b. cond b (words.live_block c.args.row) None) (sym gone)
    ] in
    became g.met.S.Schema.laws c.args.self.now x c.args.row items h is c.loop-called.self c.args.now c.args.given.now c.in_ok-taken.taken.before c.if-taken.after c.requires.proper c.loop-called.invariant.table
    (subst (Queues join words c.args.self.now.outbox c.loop-called.self.outbox) all c.loop-called.invariant.queue) (c.in_ok-taken.ensures.before ∙ needs_is join words (find_row words (words.table c.args.row) (words.key c.args.row) c.args.self.now.table)) after (c.loop-called.invariant.kept ∙ c.in_ok-refer.ensures.told)
