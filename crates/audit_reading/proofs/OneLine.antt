-- What one line adds, by what it says.
use Rattle.std.proofs.Common.{◌≡◌, ℕ, true, false, Option, Some, None, List, [], ◌∷◌, ◌++◌, refl, ap, ◌∙◌}
use Rattle.store_model.specs.declared.event.Numbered.{Numbered}
use Rattle.audit_model.specs.declared.said.Said.{Said}
use Rattle.audit_model.specs.Lines.{Says}
use Rattle.audit_model.specs.Heard.{Heard, hears}
use Rattle.audit_reading.specs.declared.heard.Heard as kept
use Rattle.audit_reading.specs.Kept.{IsNext, Follows}
use Rattle.audit_reading.specs.Reads.{IsHeard, AddsLine}

-- a line says one thing at most
abbrev pub SaysOne : List ℕ → Type 0
SaysOne line = (said other : Said) → Says line said → Says line other → said ≡ other

none_next : (k : kept.Heard) (o : Option Heard) → IsNext k o false → o ≡ None
none_next k None x = refl
none_next k (Some h) x = absurd x

module _ (events : List Numbered) (line : List ℕ) (old new : kept.Heard) (saids more : List Said) (said : Said) (says : Says line said) where
  pub deaf_line : SaysOne line → Follows old new (λ h. hears events h said) false → AddsLine events line old new saids more false
  deaf_line one follows h stands other says_other =
      ap (hears events h) (one other said says_other says) ∙ none_next new (hears events h said) (follows h stands)

  some_next : (h : Heard) → more ≡ saids ++ said ∷ [] → (o : Option Heard) → hears events h said ≡ o → IsNext new o true → IsHeard events line h new saids more
  some_next h added None e x = absurd x
  some_next h added (Some next) e x = record { said = said; next = next; says = says; heard = e; stands = x; added = added }

  pub heard_line : more ≡ saids ++ said ∷ [] → Follows old new (λ h. hears events h said) true → AddsLine events line old new saids more true
  heard_line added follows h stands = some_next h added (hears events h said) refl (follows h stands)
