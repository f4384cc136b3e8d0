use Rattle.std.specs.Prelude.{option_map}
use Rattle.std.proofs.Common.{ap, ◌∙◌}
use Rattle.table_store.proofs.Shelves.{find_is_lookup}
use Rattle.table_store.proofs.shelf.find.Goals as goal

pub returns : goal.returns
returns g c = ap (option_map (λ p. p.row)) c.in_ok-get.ensures.value ∙ find_is_lookup c.args.key.now c.args.shelf.now.rows.entries

pub returns-in_err-get : goal.returns-in_err-get
returns-in_err-get g c = rw c.from_residual.ensures (ap (option_map (λ p. p.row)) c.in_err-get.ensures.value ∙ find_is_lookup c.args.key.now c.args.shelf.now.rows.entries)
