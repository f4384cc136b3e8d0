use Rattle.layout_text.specs.Settings.{settings_of}
use Rattle.serve_run.specs.Plan.{bad_access}
use Rattle.serve_run.proofs.Sized.{read_before}
use Rattle.serve_run.proofs.plan.access_of.Goals as goal

pub returns-in_ok-bad_toml-in-Err-NotToml-clause-causes : goal.returns-in_ok-bad_toml-in-Err-NotToml-clause-causes
returns-in_ok-bad_toml-in-Err-NotToml-clause-causes c = λ comings e.
    absurd (read_before c.args.text.now (settings_of c.args.config.now) c.args.config.now.buckets c.requires.says (rw c.in-Err-NotToml.field-0-is at c.in-Err-NotToml.ensures))

pub returns-in_ok-bad_field-in-Err-Field-clause-causes : goal.returns-in_ok-bad_field-in-Err-Field-clause-causes
returns-in_ok-bad_field-in-Err-Field-clause-causes c = λ comings e.
    bad_access (settings_of c.args.config.now) comings c.in-Err-Field.name c.utf8.text c.requires.says e (rw c.in-Err-Field.field-0-is at c.in-Err-Field.ensures) c.in_ok-bad_field-in-Err-Field.ensures.text
