-- The acts with which a server begins.
use Rattle.std.proofs.Common.{◌≡◌, ℕ, List, [], ◌∷◌, ◌++◌, ◌+◌, ◌<◌, get_or, length, drop, map, refl, sym, ◌∙◌, ap, subst}
use Rattle.std.proofs.lemmas.List.{drop_more}
use Rattle.layout_roles.specs.declared.layout.Layout.{Layout}
use Rattle.cluster_machine.specs.Choices.{IsFirst}
use Rattle.store_model.specs.Run.{State, World, start}
use Rattle.store_model.specs.Acts.{Act, adds, installs, acted, after_acts, AreLawfulActs, ActsFit}
use Rattle.s3_world.specs.declared.world.S3World.{S3World}
use Rattle.s3_world.specs.Stands.{IsStore}
use Rattle.serve_run.specs.declared.plan.Plan.{Plan}
use Rattle.serve_run.specs.Start.{preparing, opening, Does, IsOf, IsOpened}

pub after_last : (s : State) (xs : List Act) (a : Act) → after_acts s (xs ++ a ∷ []) ≡ (acted (after_acts s xs) a).state
after_last s [] a = refl
after_last s (x ∷ xs) a = after_last (acted s x).state xs a

-- one act more
pub does_one : (old mid new : S3World) (xs : List Act) (a : Act) → Does old mid xs → Does mid new (a ∷ []) → Does old new (xs ++ a ∷ [])
does_one old mid new xs a f g = λ s st. subst (λ (t : State). IsStore new t) (sym (after_last s xs a)) (g (after_acts s xs) (f s st))

-- nothing was applied so far
pub world_kept : (s : State) (buckets : List (List ℕ)) (size : ℕ) → (after_acts s (preparing buckets size)).world ≡ s.world
world_kept s [] size = refl
world_kept s (b ∷ bs) size = world_kept (acted s (adds b)).state bs size

same_applied : (c : S3World) (s t : State) → IsStore c s → IsStore c t → t.world.applied ≡ s.world.applied
same_applied c s t a b = sym b.world.applied ∙ a.world.applied

pub unused : (c : S3World) (buckets : List (List ℕ)) (size : ℕ) → IsStore c (after_acts start (preparing buckets size)) → (t : State) → IsStore c t → t.world.applied ≡ 0
unused c buckets size a t b = same_applied c (after_acts start (preparing buckets size)) t a b ∙ ap (λ (w : World). w.applied) (world_kept start buckets size)

lawful : (s : State) (buckets : List (List ℕ)) (size : ℕ) (first : Layout) → IsFirst first → s.world.applied ≡ 0 → AreLawfulActs s (opening buckets size first)
lawful s [] size first h e = (tt, ((h, e), tt))
lawful s (b ∷ bs) size first h e = (tt, lawful (acted s (adds b)).state bs size first h e)

fit : (s : State) (buckets : List (List ℕ)) (size : ℕ) (first : Layout) → ActsFit s (opening buckets size first)
fit s [] size first = (tt, (tt, tt))
fit s (b ∷ bs) size first = (tt, fit (acted s (adds b)).state bs size first)

pub is_opened : (mid new : S3World) (p : Plan) (first : Layout) → IsOf p first → IsFirst first → IsStore mid (after_acts start (preparing p.config.buckets p.config.block_size)) → Does mid new (installs first ∷ []) → IsOpened new p
is_opened mid new p first is h a f =
    let acts = preparing p.config.buckets p.config.block_size in
    record {
      first = first;
      is_of = is;
      lawful = lawful start p.config.buckets p.config.block_size first h refl;
      fit = fit start p.config.buckets p.config.block_size first;
      stands = subst (λ (t : State). IsStore new t) (sym (after_last start acts (installs first))) (f (after_acts start acts) a);
    }

-- the world stands for a state from which the rest of the buckets leads where all of them lead
pub record Leads (world : S3World) (s : State) (rest all : List (List ℕ)) : Type 0 where
  pub at : State
  pub stands : IsStore world at
  pub leads : after_acts at (map adds rest) ≡ after_acts s (map adds all)

abbrev pub AllLead : S3World → S3World → List (List ℕ) → List (List ℕ) → Type 0
AllLead old now rest all = (s : State) → IsStore old s → Leads now s rest all

leads_next : (mid new : S3World) (s : State) (x : List ℕ) (rest all : List (List ℕ)) → Leads mid s (x ∷ rest) all → Does mid new (adds x ∷ []) → Leads new s rest all
leads_next mid new s x rest all h f = record { at = (acted h.at (adds x)).state; stands = f h.at h.stands; leads = h.leads }

pub leads_on : (mid new : S3World) (s : State) (all : List (List ℕ)) (i : ℕ) (x : List ℕ) → i < length all → x ≡ get_or all i x → Leads mid s (drop i all) all → Does mid new (adds x ∷ []) → Leads new s (drop (i + 1) all) all
leads_on mid new s all i x lt is h f =
    let e : drop i all ≡ x ∷ drop (i + 1) all = drop_more all i x lt ∙ ap (λ y. y ∷ drop (i + 1) all) (sym is) in
    let P : List (List ℕ) → Type 0 = λ rest. Leads mid s rest all in
    leads_next mid new s x (drop (i + 1) all) all (subst P e h) f
