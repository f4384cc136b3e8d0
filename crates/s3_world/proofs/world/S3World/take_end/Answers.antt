use Rattle.std.proofs.Common.{refl}
use Rattle.store_model.specs.Acts.{acted, takes}
use Rattle.s3_world.proofs.Storing.{is_handing, has_run, becomes}
use Rattle.s3_world.proofs.world.S3World.take_end.Goals as goal

pub take_end-requires : goal.take_end-requires
take_end-requires c = record { stands = has_run c.args.self.now c.requires.stands }

pub returns-clause-end : goal.returns-clause-end
returns-clause-end c = λ s bytes d. c.take_end.ensures.end s bytes (is_handing c.args.self.now s d)

pub returns-clause-taken : goal.returns-clause-taken
returns-clause-taken c = becomes c.args.self.now c.take_end.new.self (λ s. acted s (takes c.args.request)) (λ s. (refl, refl)) c.take_end.ensures.taken
