-- What was read of the lines of a transcript.
use Rattle.std.specs.Prelude.{◌≡◌, ℕ, suc, Bool, true, false, Option, Some, None, List, [], ◌∷◌, ◌++◌}
use Rattle.history_model.specs.declared.record.Record.{Record}
use Rattle.store_model.specs.declared.event.Numbered.{Numbered}
use Rattle.audit_model.specs.declared.said.Said.{Said}
use Rattle.audit_model.specs.Lines.{Says}
use Rattle.audit_model.specs.Heard.{Heard, hears, IsDeaf, AreReadable, IsUnreadable}
use Rattle.audit_reading.specs.declared.heard.Heard as kept
use Rattle.audit_reading.specs.declared.heard.Listing as awaited
use Rattle.audit_reading.specs.declared.lines.Text.{Text}
use Rattle.audit_reading.specs.declared.lines.Text.TheVariants.{Readable, Unreadable}
use Rattle.audit_reading.specs.Kept.{StandsFor}

-- a line says this, which can be heard: it is the last that was said, and what is kept stands for what is heard then
pub record IsHeard (events : List Numbered) (line : List ℕ) (h : Heard) (new : kept.Heard) (old_saids new_saids : List Said) : Type 0 where
  pub said : Said
  pub next : Heard
  pub says : Says line said
  pub heard : hears events h said ≡ Some next
  pub stands : StandsFor new next
  pub added : new_saids ≡ old_saids ++ said ∷ []

-- or nothing that it says can be heard
abbrev pub IsHeardOrNot : List Numbered → List ℕ → Heard → kept.Heard → List Said → List Said → Bool → Type 0
IsHeardOrNot events line h new old_saids new_saids true = IsHeard events line h new old_saids new_saids
IsHeardOrNot events line h new old_saids new_saids false = IsDeaf events h line

-- whatever was heard before
abbrev pub AddsLine : List Numbered → List ℕ → kept.Heard → kept.Heard → List Said → List Said → Bool → Type 0
AddsLine events line old new old_saids new_saids could = (h : Heard) → StandsFor old h → IsHeardOrNot events line h new old_saids new_saids could

-- after the last line: the account, or that keys of a list are still to come
abbrev pub account : ℕ → Option awaited.Listing → List Record → List Said → Text
account count None history saids = Readable (record { saids = saids; history = record { 0 = history } })
account count (Some l) history saids = Unreadable (suc count)

-- the lines say this and give this account, or this one is the first that can't be read
abbrev pub IsReadOf : List Numbered → List (List ℕ) → Text → Type 0
IsReadOf events lines (Readable reading) = AreReadable events lines reading.saids reading.history.0
IsReadOf events lines (Unreadable k) = IsUnreadable events lines k
