-- The layouts of a plan's changes, and which refusal comes first.
use Rattle.std.proofs.Common.{◌≡◌, ◌≤◌, inl, inr, ℕ, List, [], ◌∷◌, ◌++◌, map, length, Some, slice_get, Ok, sym, ◌∙◌, ap, subst}
use Rattle.std.specs.Prelude.{IsUtf8}
use Rattle.std.specs.List.{AllByRecursion, remove}
use Rattle.std.proofs.lemmas.List.{length-map}
use Rattle.lab_outside.specs.declared.exit.Status.TheVariants.{Refused}
use Rattle.layout_roles.specs.declared.certified.Certified.{Certified}
use Rattle.layout_roles.specs.Certificates.{AreEnough as EnoughFor, IsCertified}
use Rattle.layout_text.specs.declared.keys.Access.{Access}
use Rattle.layout_text.specs.declared.change.Change.{Change as Said}
use Rattle.layout_text.specs.Settings.{Settings, said}
use Rattle.layout_text.specs.Keys.{access_said}
use Rattle.layout_text.specs.Changes.{Coming, changes_said, coming_of, comings_of}
use Rattle.layout_command.specs.Answer.{IsLaidOut, few_nodes, few_zones, none, layout}
use Rattle.serve_cluster.specs.declared.change.Change.{Change}
use Rattle.serve_cluster.specs.Changes.{IsComputed}
use Rattle.serve_run.specs.declared.stop.Stop.{Stop}
use Rattle.serve_run.specs.declared.stop.Stop.TheVariants as stop
use Rattle.serve_run.specs.Plan.{greatest_node, coming_in, settings_with, settings_in, IsFirstRefused, no_layout}
use Rattle.serve_run.specs.Stop.{IsOfText, IsOfRoles, IsOfComings}

-- a layout depends on roles and redundancy alone
laid_same : (s : Settings) (line : List ℕ) → IsLaidOut (settings_with s.roles s.redundancy) Refused line → IsLaidOut s Refused line
laid_same s line (few_nodes h e w) = few_nodes h e w
laid_same s line (few_zones h g e w) = few_zones h g e w
laid_same s line (none cut h g e w) = none cut h g e w
laid_same s line (layout c h g e w) = layout c h g e w

-- changes that have layouts stand before the first that has none
pub refused_behind : (cs : List Change) (later : List Coming) (line : List ℕ) → AllByRecursion IsComputed cs → IsFirstRefused (map settings_in later) line → IsFirstRefused (map settings_in (map coming_in cs ++ later)) line
refused_behind [] later line h f = f
refused_behind (c ∷ cs) later line h f = inr (record { certified = c.shown.certified; enough = h.0.is_for.enough; layout = h.0.is_for.certified }, refused_behind cs later line h.1 f)

-- what is said first stands before the rest
pub first_said : (xs : List Said) (x : Said) → slice_get xs 0 ≡ Some x → comings_of xs ≡ coming_of x ∷ comings_of (remove xs 0)
first_said [] x e = absurd (cc)
first_said (y ∷ ys) x e = let is : y ≡ x = cc in ap (λ z. coming_of z ∷ comings_of ys) is

-- the next change has no layout
pub comings_stop : (cs : List Change) (coming : Coming) (later all : List Coming) → AllByRecursion IsComputed cs → map coming_in cs ++ coming ∷ later ≡ all → (why : Stop) → IsOfRoles coming.roles coming.redundancy why → IsOfComings all why
comings_stop cs coming later all h e stop.Memory k = tt
comings_stop cs coming later all h e (stop.Refused line) k = subst (λ xs. IsFirstRefused (map settings_in xs) line) e (refused_behind cs (coming ∷ later) line h (inl k))
comings_stop cs coming later all h e stop.Read k = absurd k
comings_stop cs coming later all h e stop.Link k = absurd k
comings_stop cs coming later all h e stop.LongInput k = absurd k
comings_stop cs coming later all h e stop.Kept k = absurd k
comings_stop cs coming later all h e stop.Number k = absurd k

module _ (text : List ℕ) (s : Settings) (comings : List Coming) (access : Access) (u : IsUtf8 text) (says : said greatest_node text ≡ Ok s) (changes : changes_said greatest_node text ≡ Ok comings) (allows : access_said s.buckets text ≡ Ok access) where
  -- the configuration has no layout
  pub text_of_roles : (why : Stop) → IsOfRoles s.roles s.redundancy why → IsOfText text why
  text_of_roles stop.Memory h = tt
  text_of_roles (stop.Refused line) h = no_layout s comings access u says changes allows (inl (laid_same s line h))
  text_of_roles stop.Read h = absurd h
  text_of_roles stop.Link h = absurd h
  text_of_roles stop.LongInput h = absurd h
  text_of_roles stop.Kept h = absurd h
  text_of_roles stop.Number h = absurd h

  -- it has one, but a change hasn't
  pub text_of_comings : (certified : Certified) → EnoughFor s.roles s.redundancy → IsCertified s.roles s.redundancy certified → (why : Stop) → IsOfComings comings why → IsOfText text why
  text_of_comings certified enough fits stop.Memory h = tt
  text_of_comings certified enough fits (stop.Refused line) h = no_layout s comings access u says changes allows (inr (record { certified = certified; enough = enough; layout = fits }, h))
  text_of_comings certified enough fits stop.Read h = absurd h
  text_of_comings certified enough fits stop.Link h = absurd h
  text_of_comings certified enough fits stop.LongInput h = absurd h
  text_of_comings certified enough fits stop.Kept h = absurd h
  text_of_comings certified enough fits stop.Number h = absurd h

-- as many changes as were said
pub as_few : (cs : List Change) (comings : List Said) → map coming_in cs ≡ comings_of comings → length (comings_of comings) ≤ 99 → length cs ≤ 99
as_few cs comings e few = subst (λ n. n ≤ 99) (sym (sym (length-map cs coming_in) ∙ ap (λ (xs : List Coming). length xs) e)) few
