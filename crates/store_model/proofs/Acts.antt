-- Acts in two parts.
use Rattle.std.proofs.Common.{◌≡◌, List, [], ◌∷◌, ◌++◌, refl}
use Rattle.store_model.specs.Run.{State}
use Rattle.store_model.specs.Acts.{Act, acted, after_acts, AreLawfulActs, ActsFit}

pub acts_after : (s : State) (before after : List Act) → after_acts s (before ++ after) ≡ after_acts (after_acts s before) after
acts_after s [] after = refl
acts_after s (a ∷ before) after = acts_after (acted s a).state before after

pub lawful_in_parts : (s : State) (before after : List Act) → AreLawfulActs s (before ++ after) → AreLawfulActs s before × AreLawfulActs (after_acts s before) after
lawful_in_parts s [] after h = (tt, h)
lawful_in_parts s (a ∷ before) after h = let rest = lawful_in_parts (acted s a).state before after h.1 in ((h.0, rest.0), rest.1)

pub fit_in_parts : (s : State) (before after : List Act) → ActsFit s (before ++ after) → ActsFit s before × ActsFit (after_acts s before) after
fit_in_parts s [] after h = (tt, h)
fit_in_parts s (a ∷ before) after h = let rest = fit_in_parts (acted s a).state before after h.1 in ((h.0, rest.0), rest.1)
