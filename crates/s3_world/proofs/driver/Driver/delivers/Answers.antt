use Rattle.std.proofs.Common.{refl}
use Rattle.s3_world.proofs.Causes.{handed_on}
use Rattle.s3_world.proofs.Delivers.{has_next, delivered_plays, delivered_overflows}
use Rattle.s3_world.proofs.driver.Driver.delivers.Goals as goal

pub goes_on-requires : goal.goes_on-requires
goes_on-requires g c = record { stands = has_next c.args.self.now _ c.args.message c.in_ok-report.report c.in_ok-report.ensures.steps refl refl refl c.requires.stands }

pub returns-clause-plays : goal.returns-clause-plays
returns-clause-plays g c = λ given s d.
    rw c.in_ok-append.ensures.ok.0
    (delivered_plays c.args.self.now _ c.args.message c.in_ok-report.report c.in_ok-report.ensures.steps refl refl refl c.args.heard c.goes_on.new.self c.in_ok-told.told c.in_ok-told.ensures.plays given s d)

pub returns-in_err-told-clause-causes : goal.returns-in_err-told-clause-causes
returns-in_err-told-clause-causes g c =
    handed_on c.from_residual-in_err-told.result c.in_err-told.field-0.0 c.from_residual-in_err-told.ensures.1
    (delivered_overflows c.args.self.now _ c.args.message c.in_ok-report.report c.in_ok-report.ensures.steps refl refl refl)
    c.in_err-told.ensures.causes
