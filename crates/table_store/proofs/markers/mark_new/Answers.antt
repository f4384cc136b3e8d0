use Rattle.std.specs.Prelude.{◌≡◌, Some, None}
use Rattle.std.proofs.Common.{ap, sym, ◌∙◌}
use Rattle.std.proofs.lemmas.Option.{same_Some}
use Rattle.std.proofs.lemmas.Result.{on_ok_weaker}
use Rattle.table_store.specs.Markers.{marked_at}
use Rattle.table_store.proofs.markers.mark_new.Goals as goal

pub returns-in-Some-clause-stay : goal.returns-in-Some-clause-stay
returns-in-Some-clause-stay c = c.mark.ensures.stay

pub returns-in-Some-clause-marked : goal.returns-in-Some-clause-marked
returns-in-Some-clause-marked c =
    on_ok_weaker c.mark.result
    (λ marked version is. ap (λ v. marked_at v.0 c.args.key.now c.mark.new.markers) (same_Some version c.in-Some.version (sym is ∙ c.in-Some.is)) ∙ marked)
    c.mark.ensures.marked

pub returns-in-None-clause-stay : goal.returns-in-None-clause-stay
returns-in-None-clause-stay c t key had = had

pub returns-in-None-clause-marked : goal.returns-in-None-clause-marked
returns-in-None-clause-marked c version is = absurd (let no : Some version ≡ None = sym is ∙ c.in-None.is in cc)
