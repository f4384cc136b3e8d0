use Rattle.std.proofs.Common.{refl, suc, length}
use Rattle.world_core.specs.Parts.{lines_from}
use Rattle.world_core.specs.Stands.{synced_lines}
use Rattle.world_core.proofs.WorldsSending.{sent_and_synced}
use Rattle.world_core.proofs.world.World.tell.Goals as goal

pub returns-clause-tells : goal.returns-clause-tells
returns-clause-tells g c = record {
  rest = refl;
  posts = c.in_ok-send.ensures.sent;
  lines = λ messages marks post.
      sent_and_synced c.args.lines.now c.send.new.lines c.push_synced.new.lines (lines_from (suc (length messages)) c.args.out.items) (synced_lines c.args.node c.args.before c.args.after)
      (c.in_ok-send.ensures.told messages marks post) c.in_ok-push_synced.ensures.pushed;
}
