-- An input that says a plan isn't refused, and so without faults its server is served, passes a limit or wants memory.
use Rattle.std.proofs.Common.{◌≡◌, ◌≤◌, ◌<◌, inl, inr, ℕ, List, [], ◌∷◌, map, Option, Err, IfSome, refl, subst, arith, length}
use Rattle.std.specs.List.{AllByRecursion}
use Rattle.lab_outside.specs.declared.exit.Status.{Status}
use Rattle.lab_outside.specs.declared.exit.Status.TheVariants as status
use Rattle.lab_outside.specs.Bytes.{Wrote}
use Rattle.layout_roles.specs.declared.certified.Certified.{Certified}
use Rattle.layout_roles.specs.Text.{layout_text}
use Rattle.layout_text.specs.declared.config.ConfigFault.TheVariants.{Field}
use Rattle.layout_text.specs.Keys.{access_said}
use Rattle.layout_text.specs.Settings.{Settings, settings_of, said}
use Rattle.layout_command.specs.Answer.{AreEnough, IsLayout, IsLaidOut, layout}
use Rattle.layout_command.proofs.Stated.{SmallerSizes, laid_status, same_settings}
use Rattle.serve_model.specs.Talk.{Grammar}
use Rattle.serve_cluster.specs.declared.change.Change.{Change}
use Rattle.serve_cluster.specs.Changes.{IsComputed}
use Rattle.serve_run.specs.declared.plan.Plan.{Plan}
use Rattle.lab_main.specs.Limits.{input_limit}
use Rattle.lab_main.specs.Edges.{Answers}
use Rattle.serve_run.specs.Plan.{greatest_node, coming_in, settings_in, IsFirstRefused, IsSaid, IsRefused, not_text, not_toml, bad_field, bad_change, bad_access, no_layout, OfInput, SaysPlan}
use Rattle.serve_run.specs.Told.{Told}
use Rattle.serve_run.specs.Answer.{IsEnd, long_input, refused, served, link_failed, too_much, no_room, IsStated, IsSilent, Completes, served_whole, over_limit, without_room, without_memory}
use Rattle.serve_run.proofs.Ending.{done_served}

module _ (smaller : SmallerSizes) where
  -- settings with a layout aren't refused
  not_laid_out : (settings : Settings) (certified : Certified) (line : List ℕ) → AreEnough settings → IsLayout settings certified → IsLaidOut settings status.Refused line → ⊥
  not_laid_out settings certified line enough fits unfit =
      let e : status.Refused ≡ status.Done = laid_status smaller settings status.Refused status.Done line (layout_text settings.roles certified) unfit (layout certified enough fits refl refl) in
      cc

  -- neither is a change that has one
  no_change_refused : (cs : List Change) (line : List ℕ) → AllByRecursion IsComputed cs → IsFirstRefused (map settings_in (map coming_in cs)) line → ⊥
  no_change_refused [] line h f = f
  no_change_refused (c ∷ cs) line h (inl unfit) = not_laid_out (settings_in (coming_in c)) c.shown.certified line h.0.is_for.enough h.0.is_for.certified unfit
  no_change_refused (c ∷ cs) line h (inr later) = no_change_refused cs line h.1 later.1

  none_refused : (p : Plan) (bytes line : List ℕ) → IsSaid bytes p → IsFirstRefused (settings_of p.config ∷ map settings_in (map coming_in p.changes)) line → ⊥
  none_refused p bytes line s (inl unfit) = not_laid_out (settings_of p.config) p.certified line s.enough s.layout unfit
  none_refused p bytes line s (inr later) = no_change_refused p.changes line s.layouts later.1

  -- no bytes say a plan and are refused
  not_refused : (p : Plan) (bytes line : List ℕ) → IsSaid bytes p → IsRefused bytes line → ⊥
  not_refused p bytes line s (not_text h w) = h s.is_text
  not_refused p bytes line s (not_toml u e w) = let says = s.says in cc
  not_refused p bytes line s (bad_field name u e w) = let says = s.says in cc
  not_refused p bytes line s (bad_change settings name u says e w) = let changes = s.changes in cc
  not_refused p bytes line s (bad_access settings comings name u says changes e w) =
      let same : settings ≡ settings_of p.config = same_settings smaller (said greatest_node bytes) settings (settings_of p.config) says s.says in
      let there : access_said p.config.buckets bytes ≡ Err (Field name) = subst (λ (o : Settings). access_said o.buckets bytes ≡ Err (Field name)) same e in
      let allows = s.allows in
      cc
  not_refused p bytes line s (no_layout settings comings access u says changes allows unfit) =
      let same : settings ≡ settings_of p.config = same_settings smaller (said greatest_node bytes) settings (settings_of p.config) says s.says in
      let there = s.changes in
      let ours : comings ≡ map coming_in p.changes = cc in
      none_refused p bytes line s (subst (λ xs. IsFirstRefused (settings_of p.config ∷ map settings_in xs) line) ours (subst (λ (o : Settings). IsFirstRefused (o ∷ map settings_in comings) line) same unfit))

  module _ (g : Grammar) (count : ℕ) (input old new : Option (List ℕ)) (t : Told) (p : Plan) (says : SaysPlan input p) where
    -- what is known of the input is known of the bytes that say the plan
    of_bytes : (P : List ℕ → Type 0) → IfSome input P → P says.bytes
    of_bytes P h = subst (λ i. IfSome i P) says.told h

    too_long : IfSome input (λ bytes. input_limit < length bytes) → ⊥
    too_long h = let more = of_bytes (λ bytes. input_limit < length bytes) h in omega (arith, more, says.short)

    refusal : (line : List ℕ) → OfInput (λ bytes. IsRefused bytes line) input → ⊥
    refusal line h = not_refused p says.bytes line says.is_said (of_bytes (λ bytes. (length bytes ≤ input_limit) × IsRefused bytes line) h).1

    module _ (is : Status) (no_link : is ≡ status.LinkFault → ⊥) where
      by_end : (text : List ℕ) → Wrote old new text → IsEnd g count input t is text → Completes g count input old new t is
      by_end text wrote (long_input more e w) = absurd (too_long more)
      by_end text wrote (refused h e) = absurd (refusal text h)
      by_end text wrote (served q read h e) = served_whole (done_served g count input old new t text wrote q read h) e
      by_end text wrote (link_failed q read number h e w) = absurd (no_link e)
      by_end text wrote (too_much q read h e w) = over_limit q read h e (subst (Wrote old new) w wrote)
      by_end text wrote (no_room q read h e w) = without_room q read h e (subst (Wrote old new) w wrote)

    -- each status that is left
    pub completed : (is : Status) → (IsStated is → Answers (IsEnd g count input t) is old new) → (IsSilent is → Wrote old new []) →
        (is ≡ status.Usage → ⊥) → (is ≡ status.ReadFault → ⊥) → (is ≡ status.WriteFault → ⊥) → (is ≡ status.LinkFault → ⊥) → Completes g count input old new t is
    completed status.Done answers silent no_usage no_read no_write no_link = let a = answers tt in by_end status.Done no_link a.text a.wrote a.stated
    completed status.Refused answers silent no_usage no_read no_write no_link = let a = answers tt in by_end status.Refused no_link a.text a.wrote a.stated
    completed status.Limit answers silent no_usage no_read no_write no_link = let a = answers tt in by_end status.Limit no_link a.text a.wrote a.stated
    completed status.Usage answers silent no_usage no_read no_write no_link = absurd (no_usage refl)
    completed status.ReadFault answers silent no_usage no_read no_write no_link = absurd (no_read refl)
    completed status.WriteFault answers silent no_usage no_read no_write no_link = absurd (no_write refl)
    completed status.LinkFault answers silent no_usage no_read no_write no_link = absurd (no_link refl)
    completed status.Memory answers silent no_usage no_read no_write no_link = without_memory refl (silent tt)
