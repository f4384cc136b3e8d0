use Rattle.std.proofs.Common.{Some, subst}
use Rattle.lab_outside.specs.Connection.{OnPresent}
use Rattle.lab_outside.proofs.Present.{on_present, on_present_then, stays_none}
use Rattle.serve_loop.specs.declared.giving.Progress.{Progress}
use Rattle.serve_loop.specs.Gets.{with_piece}
use Rattle.serve_loop.specs.Giving.{Sends, HasWritten, IsAt}
use Rattle.serve_loop.proofs.Writing.{sent_on, still}
use Rattle.serve_loop.proofs.giving.write_piece.Goals as goal

pub returns-in-Writing-clause-written : goal.returns-in-Writing-clause-written
returns-in-Writing-clause-written g c = λ r range given start at.
    let old = g.L.Link.present c.args.link.now in
    let new = g.L.Link.present c.send.new.link in
    let P : Progress → Type 0 = λ x. OnPresent (IsAt r range x (Some given)) start old in
    on_present_then (HasWritten r range given c.in-Writing.portion) (Sends c.take.result.1 c.take.result.0.now c.send.result) (IsAt r range c.send.result (Some (with_piece given c.args.piece.now))) start old new
    (λ a b d was s. sent_on r range given c.args.piece.now c.take.result.0.now c.in-Writing.portion c.take.result.1 c.send.result a b d c.take.ensures.taken c.take.ensures.later was s)
    (subst P c.in-Writing.is at) c.send.ensures.sends

pub returns-in_default : goal.returns-in_default
returns-in_default g c =
    let o = g.L.Link.present c.args.link.now in
    record {
      present = c.requires;
      written = λ r range given start at.
          on_present (IsAt r range c.args.progress (Some given)) (IsAt r range c.args.progress (Some (with_piece given c.args.piece.now))) start o
          (λ a b is. still r range given c.args.piece.now c.args.progress a b c.in_default.not-Writing is) at;
      stays = stays_none g.L.Link c.args.link.now;
    }
