-- Which answer is stated for settings and for an input, and that its status is one.
use Rattle.std.proofs.Common.{◌≡◌, ℕ, ◌+◌, ◌<◌, ◌≤◌, ◌↔◌, List, ◌++◌, length, Result, Ok, Err, IfErr, refl, sym, ap, ap₂, ◌∙◌, subst, arith, inl, inr}
use Rattle.std.proofs.lemmas.Bool.{cases_lt}
use Rattle.std.proofs.lemmas.Result.{IfErr-at_err}
use Rattle.lab_outside.specs.declared.exit.Status.{Status}
use Rattle.lab_outside.specs.declared.exit.Status.TheVariants.{Done, Refused}
use Rattle.layout_roles.specs.declared.role.Role.{Role}
use Rattle.layout_roles.specs.Zones.{storage_nodes, zone_names}
use Rattle.layout_roles.specs.Fits.{NodeSet, Fits}
use Rattle.layout_roles.specs.declared.cut.Cut.{Cut}
use Rattle.layout_roles.specs.declared.certified.Certified.{Certified}
use Rattle.layout_size.specs.declared.fault.LayoutFault.{LayoutFault}
use Rattle.layout_size.specs.declared.fault.LayoutFault.TheVariants.{TooFewNodes, TooFewZones, NoAssignment, Memory}
use Rattle.layout_size.specs.Answers.{IfNoAssignment}
use Rattle.layout_roles.specs.Text.{cut_lines, layout_text}
use Rattle.layout_text.specs.declared.config.ConfigFault.{ConfigFault}
use Rattle.layout_text.specs.Settings.{Settings, said}
use Rattle.layout_command.specs.Reasons.{reason_text, IsTold}
use Rattle.layout_command.specs.Answer.{greatest_node, nodes_line, zones_line, none_line, zones_for, AreEnough, IsLayout, HasNone, IsLaidOut, few_nodes, few_zones, none, layout, IsAnswer, not_text, not_toml, bad_field, laid_out}

-- what `compute` says of a lack of nodes and of zones
abbrev pub NodesCause : Settings → Result Certified LayoutFault → Type 0
NodesCause settings r = (n : ℕ) → (r ≡ Err (TooFewNodes n)) ↔ ((length (storage_nodes settings.roles) ≡ n) × (n < 3))

abbrev pub ZonesCause : Settings → Result Certified LayoutFault → Type 0
ZonesCause settings r = (z k : ℕ) → (r ≡ Err (TooFewZones z k)) ↔ ((3 ≤ length (storage_nodes settings.roles)) × (length (zone_names settings.roles) ≡ z) × (zones_for settings ≡ k) × (z < k))

pub are_enough : (settings : Settings) (r : Result Certified LayoutFault) → NodesCause settings r → ZonesCause settings r → ((n : ℕ) → r ≡ Err (TooFewNodes n) → ⊥) → ((z k : ℕ) → r ≡ Err (TooFewZones z k) → ⊥) → AreEnough settings
are_enough settings r nodes zones no_nodes no_zones =
    let enough : 3 ≤ length (storage_nodes settings.roles) = elim (cases_lt (length (storage_nodes settings.roles)) 3) [
      | inl few ↦ absurd (no_nodes (length (storage_nodes settings.roles)) ((nodes (length (storage_nodes settings.roles))).1 (refl, few)))
      | inr more ↦ more
    ] in
    record {
      nodes = enough;
      zones = elim (cases_lt (length (zone_names settings.roles)) (zones_for settings)) [
        | inl few ↦ absurd (no_zones (length (zone_names settings.roles)) (zones_for settings) ((zones (length (zone_names settings.roles)) (zones_for settings)).1 (enough, refl, refl, few)))
        | inr more ↦ more
      ];
    }

module _ (settings : Settings) (r : Result Certified LayoutFault) (nodes : NodesCause settings r) (zones : ZonesCause settings r) (status : Status) (text : List ℕ) where
  pub stated_nodes : (n : ℕ) → r ≡ Err (TooFewNodes n) → status ≡ Refused → text ≡ nodes_line n → IsLaidOut settings status text
  stated_nodes n e is wrote = let h = (nodes n).0 e in few_nodes (omega (arith, h.0, h.1)) is (wrote ∙ ap nodes_line (sym h.0))

  pub stated_zones : (z k : ℕ) → r ≡ Err (TooFewZones z k) → status ≡ Refused → text ≡ zones_line z k → IsLaidOut settings status text
  stated_zones z k e is wrote = let h = (zones z k).0 e in few_zones h.0 (omega (arith, h.1, h.2, h.3)) is (wrote ∙ ap₂ zones_line (sym h.1) (sym h.2))

  pub stated_none : (cut : Cut) → r ≡ Err (NoAssignment cut) → status ≡ Refused → text ≡ none_line ++ cut_lines settings.roles cut →
      IfErr r (λ fault. IfNoAssignment fault (HasNone settings)) → IsLaidOut settings status text
  stated_none cut e is wrote shows =
      none cut (are_enough settings r nodes zones (λ n k. cc) (λ z m k. cc)) (IfErr-at_err (λ fault. IfNoAssignment fault (HasNone settings)) e shows) is wrote

  pub stated_layout : (certified : Certified) → r ≡ Ok certified → IsLayout settings certified → status ≡ Done → text ≡ layout_text settings.roles certified → IsLaidOut settings status text
  stated_layout certified e is done wrote = layout certified (are_enough settings r nodes zones (λ n k. cc) (λ z m k. cc)) is done wrote

  -- each reason as it is told
  pub stated_reason : (fault : LayoutFault) → r ≡ Err fault → IsTold fault → status ≡ Refused → text ≡ reason_text settings.roles fault →
      IfErr r (λ fault. IfNoAssignment fault (HasNone settings)) → IsLaidOut settings status text
  stated_reason (TooFewNodes n) e told is wrote shows = stated_nodes n e is wrote
  stated_reason (TooFewZones z k) e told is wrote shows = stated_zones z k e is wrote
  stated_reason (NoAssignment cut) e told is wrote shows = stated_none cut e is wrote shows
  stated_reason Memory e told is wrote shows = absurd told

-- where something is computed there are nodes and zones enough
pub enough_ok : (settings : Settings) (r : Result Certified LayoutFault) → NodesCause settings r → ZonesCause settings r → (certified : Certified) → r ≡ Ok certified → AreEnough settings
enough_ok settings r nodes zones certified e = are_enough settings r nodes zones (λ n k. cc) (λ z m k. cc)

abbrev pub SmallerSizes : Type 0
SmallerSizes = (roles : List Role) (r small great : ℕ) (sets : List NodeSet) → 0 < small → small ≤ great → Fits roles r great sets → Fits roles r small sets

module _ (smaller : SmallerSizes) where
  not_both : (settings : Settings) (certified : Certified) (cut : Cut) → IsLayout settings certified → HasNone settings cut → ⊥
  not_both settings certified cut is has =
      has.none certified.sets.sets
      (subst (λ r. Fits settings.roles r 1 certified.sets.sets) is.redundancy (smaller settings.roles certified.r 1 certified.size certified.sets.sets (omega arith) (omega (arith, is.some)) is.greatest.fits))

  pub laid_status : (settings : Settings) (s t : Status) (a b : List ℕ) → IsLaidOut settings s a → IsLaidOut settings t b → s ≡ t
  laid_status settings s t a b (few_nodes few e w) (few_nodes also d v) = e ∙ sym d
  laid_status settings s t a b (few_nodes few e w) (few_zones all less d v) = e ∙ sym d
  laid_status settings s t a b (few_nodes few e w) (none cut all is d v) = e ∙ sym d
  laid_status settings s t a b (few_nodes few e w) (layout certified all is d v) = absurd (omega (arith, all.nodes))
  laid_status settings s t a b (few_zones all less e w) (few_nodes also d v) = e ∙ sym d
  laid_status settings s t a b (few_zones all less e w) (few_zones also more d v) = e ∙ sym d
  laid_status settings s t a b (few_zones all less e w) (none cut enough is d v) = e ∙ sym d
  laid_status settings s t a b (few_zones all less e w) (layout certified enough is d v) = absurd (omega (arith, enough.zones))
  laid_status settings s t a b (none cut enough is e w) (few_nodes also d v) = e ∙ sym d
  laid_status settings s t a b (none cut enough is e w) (few_zones all less d v) = e ∙ sym d
  laid_status settings s t a b (none cut enough is e w) (none other also has d v) = e ∙ sym d
  laid_status settings s t a b (none cut enough is e w) (layout certified also has d v) = absurd (not_both settings certified cut has is)
  laid_status settings s t a b (layout certified enough is e w) (few_nodes also d v) = absurd (omega (arith, enough.nodes))
  laid_status settings s t a b (layout certified enough is e w) (few_zones all less d v) = absurd (omega (arith, enough.zones))
  laid_status settings s t a b (layout certified enough is e w) (none cut also has d v) = absurd (not_both settings certified cut is has)
  laid_status settings s t a b (layout certified enough is e w) (layout other also has d v) = e ∙ sym d

  pub same_settings : (reading : Result Settings ConfigFault) (one two : Settings) → reading ≡ Ok one → reading ≡ Ok two → one ≡ two
  same_settings reading one two h k = cc

  pub answer_status : (input : List ℕ) (s t : Status) (a b : List ℕ) → IsAnswer input s a → IsAnswer input t b → s ≡ t
  answer_status input s t a b (not_text h e w) (not_text k d v) = e ∙ sym d
  answer_status input s t a b (not_text h e w) (not_toml u k d v) = e ∙ sym d
  answer_status input s t a b (not_text h e w) (bad_field name u k d v) = e ∙ sym d
  answer_status input s t a b (not_text h e w) (laid_out settings u k d) = absurd (h u)
  answer_status input s t a b (not_toml u h e w) (not_text k d v) = e ∙ sym d
  answer_status input s t a b (not_toml u h e w) (not_toml x k d v) = e ∙ sym d
  answer_status input s t a b (not_toml u h e w) (bad_field name x k d v) = e ∙ sym d
  answer_status input s t a b (not_toml u h e w) (laid_out settings x k d) = cc
  answer_status input s t a b (bad_field name u h e w) (not_text k d v) = e ∙ sym d
  answer_status input s t a b (bad_field name u h e w) (not_toml x k d v) = e ∙ sym d
  answer_status input s t a b (bad_field name u h e w) (bad_field other x k d v) = e ∙ sym d
  answer_status input s t a b (bad_field name u h e w) (laid_out settings x k d) = cc
  answer_status input s t a b (laid_out settings u h e) (not_text k d v) = absurd (k u)
  answer_status input s t a b (laid_out settings u h e) (not_toml x k d v) = cc
  answer_status input s t a b (laid_out settings u h e) (bad_field name x k d v) = cc
  answer_status input s t a b (laid_out settings u h e) (laid_out other x k d) =
      laid_status settings s t a b e (subst (λ (o : Settings). IsLaidOut o t b) (sym (same_settings (said greatest_node input) settings other h k)) d)
