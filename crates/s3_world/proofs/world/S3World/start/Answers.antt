use Rattle.s3_world.proofs.Starting.{refused_starts, number_starts, number_gives, has_number}
use Rattle.s3_world.proofs.world.S3World.start.Goals as goal

pub returns-in-Some-clause-starts : goal.returns-in-Some-clause-starts
returns-in-Some-clause-starts c = refused_starts c.args.self.now c.begins.new.self c.in_ok-refused.field-0 c.args.node c.args.order c.in_ok-refused.ensures.keeps c.in-Some.reason c.in-Some.is

pub unreachable-requires : goal.unreachable-requires
unreachable-requires c =
    let h = has_number c.args.self.now c.begins.new.self c.in_ok-refused.field-0 c.args.node c.args.order c.in_ok-refused.ensures.keeps c.requires.stands c.in_default.is in
    c.in_default-words.not-One h.0 h.1

pub returns-clause-starts : goal.returns-clause-starts
returns-clause-starts c = number_starts c.args.self.now c.begins.new.self c.in_ok-refused.field-0 c.args.node c.args.order c.in_ok-refused.ensures.keeps c.in-One.number c.in_default.is c.in-One.is

pub returns-clause-gives : goal.returns-clause-gives
returns-clause-gives c = number_gives c.args.self.now c.begins.new.self c.in_ok-refused.field-0 c.args.node c.args.order c.in_ok-refused.ensures.keeps c.in-One.number c.in_default.is c.in-One.is
