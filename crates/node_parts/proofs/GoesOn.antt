-- What is done about an open collection whose row is still the same.
use Rattle.std.specs.Prelude.{◌≡◌, ℕ, ◌+◌, ◌==◌, ◌&&◌, nat_lt, Bool, true, false, cond, List, [], ◌∷◌, Option, Some, None, map, option_map, refl}
use Rattle.std.proofs.Common.{ap, sym, ◌∙◌, subst}
use Rattle.std.specs.List.{find}
use Rattle.std.specs.Option.{is_some}
use Rattle.std.proofs.lemmas.Option.{same_Some}
use Rattle.gc_model.specs.declared.collection.Collection.{Collection}
use Rattle.gc_model.specs.Collecting.{Open, changed, in_second, is_ready, missing_at, missing_in, missing_of, numbered}
use Rattle.table_gc.proofs.Numbering.{found_number}
use Rattle.table_schema.specs.Words.{Words}
use Rattle.wire_messages.specs.declared.message.Message.TheVariants.{Tomb}
use Rattle.cluster_machine.specs.Layouts.{layouts}
use Rattle.cluster_machine.specs.Phases.{to_each}
use Rattle.cluster_machine.specs.Collects.{collection_pause, goes_on_with}
use Rattle.node_parts.specs.declared.collector.Collector.{Collector}
use Rattle.node_parts.specs.declared.packet.Envelope.{Envelope}
use Rattle.node_parts.specs.Posts.{Posts}
use Rattle.node_parts.specs.Collects.{IsDone, IsOpen, from_here, going_on}

-- ---- the collection with a number

change_by : (f : Collection → Collection) (n : ℕ) (x : Collection) (rest : Option Collection) → (f x).number ≡ x.number → (b : Bool) → (x.number == n) ≡ b → (later : Option Collection) → later ≡ option_map f rest →
    cond ((cond b (f x) x).number == n) (Some (cond b (f x) x)) later ≡ option_map f (cond b (Some x) rest)
change_by f n x rest keeps true h later is = ap (λ b. cond b (Some (f x)) later) (ap (λ m. m == n) keeps ∙ h)
change_by f n x rest keeps false h later is = ap (λ b. cond b (Some x) later) h ∙ is

pub find_changed : (f : Collection → Collection) → ((c : Collection) → (f c).number ≡ c.number) → (n : ℕ) (cs : List Collection) → find (λ x. x.number == n) (map (λ c. cond (c.number == n) (f c) c) cs) ≡ option_map f (find (λ x. x.number == n) cs)
find_changed f keeps n [] = refl
find_changed f keeps n (x ∷ xs) = change_by f n x (find (λ y. y.number == n) xs) (keeps x) (x.number == n) refl (find (λ y. y.number == n) (map (λ c. cond (c.number == n) (f c) c) xs)) (find_changed f keeps n xs)

-- ---- what is done

module _ {R : Type 0} (join : R → R → R) (s : Words R) (c : Collector) (number round : ℕ) (ready : Option ℕ) (row : List ℕ) (gc : Open) (is : IsOpen number round ready row gc) (o : Collection) (found : numbered number gc ≡ Some o) where
  same : is.it ≡ o
  same = same_Some is.it o (sym is.found ∙ found)

  number_is : o.number ≡ number
  number_is = found_number number gc.collections o found

  row_is : row ≡ o.row
  row_is = sym is.row_is ∙ ap (λ k. k.row) same

  ready_is : o.ready ≡ ready
  ready_is = ap (λ k. k.ready) (sym same) ∙ is.ready_is

  round_is : o.round ≡ round
  round_is = ap (λ k. k.round) (sym same) ∙ is.round_is

  module _ (out later : List (Envelope R)) where
    -- those who have not confirmed round 1 are asked again
    pub asks_again : ready ≡ None → Posts c.node out later (to_each (missing_in number gc) (Tomb number 1 row)) → IsDone c.node gc out later (going_on join s c o gc)
    asks_again none posts =
        subst (λ r. IsDone c.node gc out later (goes_on_with join s layouts c.now o r (from_here gc))) (sym (ready_is ∙ none))
        (record {
          gc_is = refl;
          posts = subst (Posts c.node out later) (λ i. to_each (missing_at (found i)) (Tomb (sym number_is i) 1 (row_is i))) posts;
        })

    -- round 2 begins, or goes on
    pub asks_second : (moment : ℕ) → ready ≡ Some moment → nat_lt c.now (moment + collection_pause) ≡ false → (new : Open) → new ≡ cond (round == 1) (changed in_second number gc) gc →
        Posts c.node out later (to_each (missing_in number new) (Tomb number 2 row)) → IsDone c.node new out later (going_on join s c o gc)
    asks_second moment some late new new_is posts =
        subst (λ r. IsDone c.node new out later (goes_on_with join s layouts c.now o r (from_here gc))) (sym (ready_is ∙ some))
        (subst (λ b. IsDone c.node new out later (cond b (from_here gc) (record (from_here gc) { gc = cond (o.round == 1) (changed in_second o.number gc) gc; posts = to_each (missing_of (cond (o.round == 1) (in_second o) o)) (Tomb o.number 2 o.row) }))) (sym late)
        (record {
          gc_is = new_is ∙ (λ i. cond (sym round_is i == 1) (changed in_second (sym number_is i) gc) gc);
          posts = subst (Posts c.node out later) (λ i. to_each (missing_is i) (Tomb (sym number_is i) 2 (row_is i))) posts;
        }))
      where
        missing_by : (b : Bool) → missing_in number (cond b (changed in_second number gc) gc) ≡ missing_of (cond b (in_second o) o)
        missing_by true = ap missing_at (find_changed in_second (λ k. refl) number gc.collections ∙ ap (option_map in_second) found)
        missing_by false = ap missing_at found

        missing_is : missing_in number new ≡ missing_of (cond (o.round == 1) (in_second o) o)
        missing_is = ap (missing_in number) new_is ∙ (missing_by (round == 1) ∙ ap (λ r. missing_of (cond (r == 1) (in_second o) o)) (sym round_is))

  -- round 1 was complete too short a time ago
  pub waits_on : (out : List (Envelope R)) (moment : ℕ) → ready ≡ Some moment → nat_lt c.now (moment + collection_pause) ≡ true → Posts c.node out out [] → IsDone c.node gc out out (going_on join s c o gc)
  waits_on out moment some early posts =
      subst (λ r. IsDone c.node gc out out (goes_on_with join s layouts c.now o r (from_here gc))) (sym (ready_is ∙ some))
      (subst (λ b. IsDone c.node gc out out (cond b (from_here gc) (record (from_here gc) { gc = cond (o.round == 1) (changed in_second o.number gc) gc; posts = to_each (missing_of (cond (o.round == 1) (in_second o) o)) (Tomb o.number 2 o.row) }))) (sym early)
      (record { gc_is = refl; posts = posts }))

-- an open collection in round 1 that was complete then is ready for round 2
pub ready_for : (number round moment : ℕ) (row : List ℕ) (gc : Open) → IsOpen number round (Some moment) row gc → (round == 1) ≡ true → is_ready (numbered number gc) ≡ true
ready_for number round moment row gc is first =
    ap is_ready is.found ∙ (λ i. ((ap (λ r. r == 1) is.round_is ∙ first) i) && is_some (is.ready_is i))
