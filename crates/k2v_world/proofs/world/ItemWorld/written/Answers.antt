use Rattle.std.proofs.Common.{sym, ◌∙◌}
use Rattle.k2v_world.proofs.Follows.{digest_kept}
use Rattle.k2v_world.proofs.Tokens.{none_is}
use Rattle.k2v_world.proofs.Written.{is_written}
use Rattle.k2v_world.proofs.world.ItemWorld.written.Goals as goal

pub base-requires : goal.base-requires
base-requires c = digest_kept c.args.self.now c.args.i c.at-asked.result.now c.requires.stands c.at-asked.ensures

pub times-times-requires : goal.times-times-requires
times-times-requires c = record { empty = none_is c.new-none.result c.new-none.ensures }

pub returns-clause-is : goal.returns-clause-is
returns-clause-is c =
    is_written c.args.self.now c.args.i c.args.request c.at-asked.result.now c.at-asked.ensures c.args.value c.args.token c.args.read c.in_ok-row.row c.in_ok-row.ensures.is
    c.times-times.result.now c.times-times.ensures (sym c.can_put.ensures ∙ c.if-not-can_put.false) c.put.new.self c.in_ok-put.ensures.put
