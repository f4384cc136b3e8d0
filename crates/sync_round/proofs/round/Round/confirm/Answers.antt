use Rattle.std.proofs.Common.{ap, ◌∙◌}
use Rattle.sync_round.specs.Round.{is_asked}
use Rattle.sync_round.proofs.Confirming.{shown_after, told_after, unasked_same}
use Rattle.sync_round.proofs.round.Round.confirm.Goals as goal

pub returns-then-confirm_in-clause-told : goal.returns-then-confirm_in-clause-told
returns-then-confirm_in-clause-told c target parts own told r =
    let es = c.args.self.now.parts.entries in
    record {
      version = r.version;
      parts_of = rw c.confirm_in.ensures.entries (shown_after c.args.p c.args.node es ∙ r.parts_of);
      marks = rw c.confirm_in.ensures.entries (told_after own told c.args.p c.args.node es r.marks);
    }

pub returns-then-confirm_in-clause-unasked : goal.returns-then-confirm_in-clause-unasked
returns-then-confirm_in-clause-unasked c target parts own told r none =
    let es = c.args.self.now.parts.entries in
    let same = c.confirm_in.ensures.entries ∙ unasked_same c.args.p c.args.node es (ap (λ ps. is_asked ps c.args.p c.args.node) r.parts_of ∙ none) in
    record {
      version = r.version;
      parts_of = rw same r.parts_of;
      marks = rw same r.marks;
    }

pub returns-else-confirm_in-clause-told : goal.returns-else-confirm_in-clause-told
returns-else-confirm_in-clause-told c target parts own told r =
    let es = c.args.self.now.parts.entries in
    record {
      version = r.version;
      parts_of = rw c.confirm_in.ensures.entries (shown_after c.args.p c.args.node es ∙ r.parts_of);
      marks = rw c.confirm_in.ensures.entries (told_after own told c.args.p c.args.node es r.marks);
    }

pub returns-else-confirm_in-clause-unasked : goal.returns-else-confirm_in-clause-unasked
returns-else-confirm_in-clause-unasked c target parts own told r none =
    let es = c.args.self.now.parts.entries in
    let same = c.confirm_in.ensures.entries ∙ unasked_same c.args.p c.args.node es (ap (λ ps. is_asked ps c.args.p c.args.node) r.parts_of ∙ none) in
    record {
      version = r.version;
      parts_of = rw same r.parts_of;
      marks = rw same r.marks;
    }
