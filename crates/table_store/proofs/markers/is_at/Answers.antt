use Rattle.std.specs.Prelude.{◌≡◌, ◌==◌, Some, None}
use Rattle.std.proofs.Common.{ap, sym, ◌∙◌}
use Rattle.std.proofs.lemmas.Option.{same_Some}
use Rattle.table_store.proofs.markers.is_at.Goals as goal

pub returns-in-Some : goal.returns-in-Some
returns-in-Some c apart version is = ap (λ v. c.args.ts == v.0) (same_Some version c.in-Some.version (sym is ∙ c.in-Some.is)) ∙ apart

pub returns-in-None : goal.returns-in-None
returns-in-None c apart version is = absurd (let no : Some version ≡ None = sym is ∙ c.in-None.is in cc)
