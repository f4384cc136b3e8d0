use Rattle.std.proofs.Common.{[], ◌∷◌, OnOk, sym, subst}
use Rattle.store_model.specs.Acts.{drain, all_messages}
use Rattle.change_deeds.specs.Deeds.{act_of}
use Rattle.serve_cluster.specs.Acting.{DoesActs}
use Rattle.serve_cluster.proofs.Acting.{does_kept}
use Rattle.serve_cluster.proofs.change.play.Goals as goal

pub returns-in-Drain-clause-does : goal.returns-in-Drain-clause-does
returns-in-Drain-clause-does c =
    subst (λ deed. OnOk c.drain_all.result (DoesActs c.args.world.now c.drain_all.new.world (act_of deed ∷ []))) (sym c.in-Drain.is) (does_kept c.drain_all.result c.args.world.now c.drain_all.new.world (drain all_messages ∷ []) c.drain_all.ensures.keeps)
