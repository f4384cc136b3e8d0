-- A line that schedules of objects have too.
use Rattle.std.proofs.Common.{◌≡◌, ℕ, true, false, Some, List, sym, ◌∙◌, ap, subst}
use Rattle.store_model.specs.declared.event.Event.{Event}
use Rattle.text_model.specs.Grammar.{Spells as SpellsCommon}
use Rattle.text_model.proofs.Decided.{spelled_is_read}
use Rattle.k2v_text.specs.declared.event.ItemEvent.{ItemEvent}
use Rattle.k2v_text.specs.declared.event.ItemEvent.TheVariants.{Common}
use Rattle.k2v_text.specs.Grammar.{is_common, Spells}
use Rattle.k2v_lines.specs.Words.{IsCommon}

as_common : (line : List ℕ) (x : ItemEvent) → IsCommon line x → (e : Event) × SpellsCommon line e × (is_common e ≡ true)
as_common line x h =
    let s : Spells line (Common h.event) = subst (Spells line) h.is h.spells in (h.event, record { spelled = s.spelled; allowed = s.allowed }, s.kind)

-- a line spells one event
pub common_other : (line : List ℕ) (e : Event) → SpellsCommon line e → is_common e ≡ false → (x : ItemEvent) → IsCommon line x → ⊥
common_other line e s other x h =
    let c = as_common line x h in
    let both : Some e ≡ Some c.0 = sym (spelled_is_read line e s) ∙ spelled_is_read line c.0 c.1 in
    let same : e ≡ c.0 = cc in
    let no : true ≡ false = sym c.2 ∙ ap is_common (sym same) ∙ other in cc
