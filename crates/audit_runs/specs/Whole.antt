-- Texts that are whole lines, none of which is an event's own.
use Rattle.std.specs.Prelude.{◌≡◌, ◌<◌, ◌^◌, ℕ, Bool, true, false, not, ◌==◌, ⊤, List, [], ◌∷◌, ◌++◌, flat_map}
use Rattle.std.specs.List.{AllByRecursion, list_all}
use Rattle.layout_roles.specs.Zones.{zone_names}
use Rattle.cluster_machine.specs.declared.applied.Applied.{Applied}
use Rattle.cluster_machine.specs.declared.line.Line.{Line}
use Rattle.cluster_machine.specs.declared.line.Line.TheVariants.{Layout, Listed}
use Rattle.text_model.specs.Reading.{is_number}
use Rattle.store_model.specs.declared.event.Numbered.{Numbered}
use Rattle.store_model.specs.Run.{State}
use Rattle.store_model.specs.Events.{Turn, outcome_of}

-- no line feed is in it
abbrev pub is_unbroken : List ℕ → Bool
is_unbroken t = list_all (λ b. not (b == 10)) t

-- a line that doesn't begin with a digit
pub record IsOtherLine (line : List ℕ) : Type 0 where
  pub unbroken : is_unbroken line ≡ true
  pub no_number : is_number line ≡ false

-- the text is lines, each with its line feed, none of which begins with a digit
pub record IsOtherLines (text : List ℕ) : Type 0 where
  pub lines : List (List ℕ)
  pub are_other : AllByRecursion IsOtherLine lines
  pub text_is : text ≡ flat_map (λ line. line ++ 10 ∷ []) lines

-- the lines of the schedule have numbers of the code
abbrev pub AreNumbered : List Numbered → Type 0
AreNumbered events = AllByRecursion (λ (e : Numbered). e.line < 2 ^ 64) events

-- no key of a list's lines and no zone's name of a layout's holds a line feed
abbrev pub IsUnbroken : Line Applied → Type 0
IsUnbroken (Layout shown) = AllByRecursion (λ name. is_unbroken name ≡ true) (zone_names shown.roles.list)
IsUnbroken (Listed q keys) = AllByRecursion (λ k. is_unbroken k.0 ≡ true) keys
IsUnbroken line = ⊤

-- of all lines that a run tells beside its events' own
abbrev pub TellUnbroken : State → List Turn → Type 0
TellUnbroken s [] = ⊤
TellUnbroken s (t ∷ ts) = let o = outcome_of s t in AllByRecursion IsUnbroken o.lines × TellUnbroken o.state ts
