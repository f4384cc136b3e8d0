use Rattle.std.proofs.Common.{rules, ◌≡◌, ◌+◌, true, false, refl, sym, ap, ◌∙◌, subst, arith}
use Rattle.layout_history.specs.Views.{known}
use Rattle.table_model.specs.Rows.{without}
use Rattle.cluster_machine.specs.Layouts.{is_given, layouts}
use Rattle.node_parts.specs.declared.contents.Contents.{Contents}
use Rattle.node_parts.specs.References.{ended}
use Rattle.node_parts.proofs.Dropping.{left_at, left_first, left_lost, left_kept, dropped, Ends, ends_first, ends_more}
use Rattle.node_parts.proofs.contents.Contents.drop_lost.Goals as goal
use Rattle.node_parts.proofs.contents.Contents.drop_lost.Goals.{then-not-is_given+in_ok-hashes, else-not-is_given}

pub loop-p-init : goal.loop-p-init
loop-p-init g c = record {
  table = left_first (is_given layouts (known c.args.view.now) c.args.node) g.S.Schema.words c.args.self.now.table;
  outbox = refl;
  ends = ends_first g.S.Row.Crdt.join g.S.Schema.words c.args.now c.args.self.now.blocks c.args.self.now.table;
}

pub loop-p-preserved : goal.loop-p-preserved
loop-p-preserved g c =
    let words = g.S.Schema.words in
    let given = is_given layouts (known c.args.view.now) c.args.node in
    let p = c.loop-p.p in
    elim c.if-not-is_given.branch [
      | then-not-is_given+in_ok-hashes w ↦
          let none : c.is_given.result ≡ false = search rules in
          record {
            table = ap (λ k. k.table) w.self-is ∙ (w.in_ok-hashes.ensures.rows ∙ (ap (without words p) c.loop-p.invariant.table ∙ left_lost given words p c.args.self.now.table (sym c.is_given.ensures ∙ none)));
            outbox = ap (λ k. k.outbox) w.self-is ∙ c.loop-p.invariant.outbox;
            ends = subst (λ l. Ends g.S.Row.Crdt.join words c.args.now c.args.self.now.blocks c.if-not-is_given.self.blocks c.args.self.now.table l) (sym (ap (λ k. k.table) w.self-is ∙ w.in_ok-hashes.ensures.rows))
                (ends_more g.S.Row.Crdt.join words c.args.now c.args.self.now.blocks c.loop-p.self.blocks c.if-not-is_given.self.blocks c.args.self.now.table c.loop-p.self.table p w.in_ok-hashes.hashes.items c.loop-p.invariant.ends
                (ap (λ k. k.blocks) w.self-is ∙ (w.end_references.ensures ∙ ap (ended c.args.now c.loop-p.self.blocks) w.as_slice.ensures.value)) w.in_ok-hashes.ensures.blocks);
          }
      | else-not-is_given w ↦
          let some : c.is_given.result ≡ true = search rules in
          record {
            table = ap (λ k. k.table) w.self-is ∙ (c.loop-p.invariant.table ∙ left_kept given words p c.args.self.now.table (sym c.is_given.ensures ∙ some));
            outbox = ap (λ k. k.outbox) w.self-is ∙ c.loop-p.invariant.outbox;
            ends = subst (λ (k : Contents g.row.S.Denot g.row.S-Row.Denot). Ends g.S.Row.Crdt.join words c.args.now c.args.self.now.blocks k.blocks c.args.self.now.table k.table) (sym w.self-is) c.loop-p.invariant.ends;
          }
    ]

pub returns-after-not-is_given-clause-drops : goal.returns-after-not-is_given-clause-drops
returns-after-not-is_given-clause-drops g c x same h =
    let words = g.S.Schema.words in
    let given = is_given layouts (known c.args.view.now) c.args.node in
    let p = c.loop-p.p in
    let last : p + 1 ≡ 256 = omega arith in
    let table : c.if-not-is_given.self.table ≡ left_at given words (p + 1) c.args.self.now.table = elim c.if-not-is_given.branch [
      | then-not-is_given+in_ok-hashes w ↦
          let none : c.is_given.result ≡ false = search rules in
          ap (λ k. k.table) w.self-is ∙ (w.in_ok-hashes.ensures.rows ∙ (ap (without words p) c.loop-p.invariant.table ∙ left_lost given words p c.args.self.now.table (sym c.is_given.ensures ∙ none)))
      | else-not-is_given w ↦
          let some : c.is_given.result ≡ true = search rules in
          ap (λ k. k.table) w.self-is ∙ (c.loop-p.invariant.table ∙ left_kept given words p c.args.self.now.table (sym c.is_given.ensures ∙ some))
    ] in
    let outbox : c.if-not-is_given.self.outbox ≡ c.args.self.now.outbox = elim c.if-not-is_given.branch [
      | then-not-is_given+in_ok-hashes w ↦ ap (λ k. k.outbox) w.self-is ∙ c.loop-p.invariant.outbox
      | else-not-is_given w ↦ ap (λ k. k.outbox) w.self-is ∙ c.loop-p.invariant.outbox
    ] in
    let ends : Ends g.S.Row.Crdt.join words c.args.now c.args.self.now.blocks c.if-not-is_given.self.blocks c.args.self.now.table c.if-not-is_given.self.table = elim c.if-not-is_given.branch [
      | then-not-is_given+in_ok-hashes w ↦
          subst (λ l. Ends g.S.Row.Crdt.join words c.args.now c.args.self.now.blocks c.if-not-is_given.self.blocks c.args.self.now.table l) (sym (ap (λ k. k.table) w.self-is ∙ w.in_ok-hashes.ensures.rows))
          (ends_more g.S.Row.Crdt.join words c.args.now c.args.self.now.blocks c.loop-p.self.blocks c.if-not-is_given.self.blocks c.args.self.now.table c.loop-p.self.table p w.in_ok-hashes.hashes.items c.loop-p.invariant.ends
          (ap (λ k. k.blocks) w.self-is ∙ (w.end_references.ensures ∙ ap (ended c.args.now c.loop-p.self.blocks) w.as_slice.ensures.value)) w.in_ok-hashes.ensures.blocks)
      | else-not-is_given w ↦ subst (λ (k : Contents g.row.S.Denot g.row.S-Row.Denot). Ends g.S.Row.Crdt.join words c.args.now c.args.self.now.blocks k.blocks c.args.self.now.table k.table) (sym w.self-is) c.loop-p.invariant.ends
    ] in
    dropped g.met.S.Schema.laws c.args.self.now c.if-not-is_given.self (known c.args.view.now) c.args.node c.args.now x same h (table ∙ ap (λ k. left_at given words k c.args.self.now.table) last) outbox ends
