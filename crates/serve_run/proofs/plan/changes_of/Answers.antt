use Rattle.layout_text.specs.Settings.{settings_of}
use Rattle.serve_run.specs.Plan.{bad_change}
use Rattle.serve_run.proofs.Sized.{changes_read_before}
use Rattle.layout_text.specs.Changes.{comings_of}
use Rattle.serve_run.proofs.Within.{said_of_server}
use Rattle.serve_run.proofs.plan.changes_of.Goals as goal

pub returns-in-Ok-clause-of_server : goal.returns-in-Ok-clause-of_server
returns-in-Ok-clause-of_server c = said_of_server c.args.text.now (comings_of c.in-Ok.changes) c.in-Ok.ensures.changes

pub returns-in_ok-bad_toml-in-Err-NotToml-clause-causes : goal.returns-in_ok-bad_toml-in-Err-NotToml-clause-causes
returns-in_ok-bad_toml-in-Err-NotToml-clause-causes c =
    absurd (changes_read_before c.args.text.now (settings_of c.args.config.now) c.requires.says (rw c.in-Err-NotToml.field-0-is at c.in-Err-NotToml.ensures.fault))

pub returns-in_ok-bad_field-in-Err-Field-clause-causes : goal.returns-in_ok-bad_field-in-Err-Field-clause-causes
returns-in_ok-bad_field-in-Err-Field-clause-causes c =
    bad_change (settings_of c.args.config.now) c.in-Err-Field.name c.utf8.text c.requires.says (rw c.in-Err-Field.field-0-is at c.in-Err-Field.ensures.fault) c.in_ok-bad_field-in-Err-Field.ensures.text
