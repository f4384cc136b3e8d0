use Rattle.std.proofs.Common.{map, refl, sym, ap, ◌∙◌, subst}
use Rattle.std.specs.List.{AllZip}
use Rattle.block_resync.specs.Outbox.{Outbox}
use Rattle.cluster_machine.specs.Acts.{unconfirmed}
use Rattle.node_parts.specs.Contents.{IsItem}
use Rattle.node_parts.proofs.Waiting.{forgot_items}
use Rattle.node_parts.proofs.contents.Contents.forget_confirmations.Goals as goal

pub returns : goal.returns
returns g c x h =
    let words = g.S.Schema.words in
    record {
      contents = record {
        proper = h.proper;
        table = h.table;
        items = subst (λ (o : Outbox). AllZip (IsItem words) o.items (map unconfirmed x.items)) (sym c.forget_confirms.ensures) (forgot_items words c.args.self.now.outbox.items x.items h.items);
        queued = ap (λ (o : Outbox). o.pushed) c.forget_confirms.ensures ∙ h.queued;
        blocks = h.blocks;
      };
      rest = record { view = refl; calls = refl; round = refl; rounds = refl; mending = refl; lasting = refl; gc = refl };
    }
