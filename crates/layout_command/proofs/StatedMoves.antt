-- Which answer with `--moves` is stated, and that its status is one.
use Rattle.std.proofs.Common.{◌≡◌, ℕ, List, Result, Ok, Err, refl, sym, ◌∙◌, subst}
use Rattle.lab_outside.specs.declared.exit.Status.{Status}
use Rattle.lab_outside.specs.declared.exit.Status.TheVariants.{Done, Refused}
use Rattle.layout_roles.specs.Fits.{NodeSet}
use Rattle.layout_roles.specs.Text.{layout_text}
use Rattle.layout_text.specs.declared.config.ConfigFault.{ConfigFault}
use Rattle.layout_text.specs.Settings.{Settings, said}
use Rattle.layout_text.specs.Old.{said_old}
use Rattle.layout_command.specs.Answer.{greatest_node, layout}
use Rattle.layout_command.specs.Moves.{IsMoved, not_laid_out, moved, SaysNone, IsMovesAnswer, no_settings, bad_old, laid_out}
use Rattle.layout_command.proofs.Stated.{SmallerSizes, laid_status, answer_status}

-- a fault says no settings
pub says_none : (input : List ℕ) (fault : ConfigFault) → said greatest_node input ≡ Err fault → SaysNone input
says_none input fault e = λ settings u h. cc

refused_not_done : Refused ≡ Done → ⊥
refused_not_done h = cc

module _ (smaller : SmallerSizes) where
  moved_status : (settings : Settings) (old : List NodeSet) (s t : Status) (a b : List ℕ) → IsMoved settings old s a → IsMoved settings old t b → s ≡ t
  moved_status settings old s t a b (not_laid_out x e) (not_laid_out y d) = e ∙ sym d
  moved_status settings old s t a b (not_laid_out x e) (moved certified count entries enough is few d v) =
      absurd (refused_not_done (laid_status smaller settings Refused Done a (layout_text settings.roles certified) x (layout certified enough is refl refl)))
  moved_status settings old s t a b (moved certified count entries enough is few e w) (not_laid_out y d) =
      absurd (refused_not_done (laid_status smaller settings Refused Done b (layout_text settings.roles certified) y (layout certified enough is refl refl)))
  moved_status settings old s t a b (moved certified count entries enough is few e w) (moved other more rest also are least d v) = e ∙ sym d

  same : {A : Type 0} (reading : Result A ConfigFault) (one two : A) → reading ≡ Ok one → reading ≡ Ok two → one ≡ two
  same reading one two h k = cc

  pub moves_status : (input : List ℕ) (s t : Status) (a b : List ℕ) → IsMovesAnswer input s a → IsMovesAnswer input t b → s ≡ t
  moves_status input s t a b (no_settings none x) (no_settings also y) = answer_status smaller input s t a b x y
  moves_status input s t a b (no_settings none x) (bad_old settings name u k f d v) = absurd (none settings u k)
  moves_status input s t a b (no_settings none x) (laid_out settings old u k f d) = absurd (none settings u k)
  moves_status input s t a b (bad_old settings name u h f e w) (no_settings none y) = absurd (none settings u h)
  moves_status input s t a b (bad_old settings name u h f e w) (bad_old others other x k g d v) = e ∙ sym d
  moves_status input s t a b (bad_old settings name u h f e w) (laid_out others old x k g d) = cc
  moves_status input s t a b (laid_out settings old u h f e) (no_settings none y) = absurd (none settings u h)
  moves_status input s t a b (laid_out settings old u h f e) (bad_old others name x k g d v) = cc
  moves_status input s t a b (laid_out settings old u h f e) (laid_out others older x k g d) =
      moved_status settings old s t a b e
      (subst (λ (o : List NodeSet). IsMoved settings o t b) (sym (same (said_old input) old older f g))
      (subst (λ (o : Settings). IsMoved o older t b) (sym (same (said greatest_node input) settings others h k)) d))
