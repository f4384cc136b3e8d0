use Rattle.layout_text.specs.Settings.{settings_of}
use Rattle.serve_run.specs.Plan.{bad_field}
use Rattle.serve_run.proofs.Sized.{said_sized}
use Rattle.serve_run.proofs.plan.configured.Goals as goal

pub returns-in-Ok-clause-sized : goal.returns-in-Ok-clause-sized
returns-in-Ok-clause-sized c = said_sized c.args.text.now (settings_of c.in-Ok.config) c.in-Ok.ensures.config

pub returns-in_ok-bad_field-in-Err-Field-clause-causes : goal.returns-in_ok-bad_field-in-Err-Field-clause-causes
returns-in_ok-bad_field-in-Err-Field-clause-causes c =
    bad_field c.in-Err-Field.name c.utf8.text (rw c.in-Err-Field.field-0-is at c.in-Err-Field.ensures.fault) c.in_ok-bad_field-in-Err-Field.ensures.text
