-- A delivered message counts as lost: the slots one after the other, and the post after that.
use Rattle.std.proofs.Common.{◌≡◌, ◌≢◌, ℕ, zero, suc, ◌+◌, ◌<◌, ◌≤◌, Bool, true, false, not, ◌&&◌, Some, None, List, [], ◌∷◌, ◌++◌, length, map, refl, sym, ap, ap₂, ◌∙◌, subst, arith, inl, inr}
use Rattle.std.proofs.lemmas.Option.{slice_get-map, slice_get_past}
use Rattle.std.proofs.lemmas.List.{append_assoc, map-append, take-append-drop}
use Rattle.std.proofs.lemmas.Bool.{cases_lt, cases_eq}
use Rattle.crdt_core.proofs.Each.{all_append, all_weaker}
use Rattle.std.specs.Prelude.{Option, is_some, option_map, slice_get, slice_set, take, drop, ◌^◌}
use Rattle.std.specs.List.{AllZip, AllByRecursion}
use Rattle.layout_roles.specs.declared.layout.Layout.{Layout}
use Rattle.table_schema.specs.Words.{Words}
use Rattle.cluster_machine.specs.World.{Sent, Mark, forgot}
use Rattle.node_parts.specs.declared.packet.Envelope.{Envelope}
use Rattle.world_core.specs.declared.post.Slot.{Slot}
use Rattle.world_core.specs.declared.post.Post.{Post}
use Rattle.world_core.specs.Parts.{mark_of, is_waiting, forgotten, IsHeld, IsOver, AreGone, IsFirst, IsPost}

same_lists : {A : Type 0} (xs ys : List A) → ((i : ℕ) → slice_get xs i ≡ slice_get ys i) → xs ≡ ys
same_lists [] [] e = refl
same_lists [] (y ∷ ys) e = let h : None ≡ Some y = e 0 in cc
same_lists (x ∷ xs) [] e = let h : Some x ≡ None = e 0 in cc
same_lists (x ∷ xs) (y ∷ ys) e = let h : Some x ≡ Some y = e 0 in let t : xs ≡ ys = same_lists xs ys (λ i. e (suc i)) in cc

get_set_same : {A : Type 0} (xs : List A) (i : ℕ) (new x : A) → slice_get xs i ≡ Some x → slice_get (slice_set xs i new) i ≡ Some new
get_set_same [] i new x h = cc
get_set_same (y ∷ ys) zero new x h = refl
get_set_same (y ∷ ys) (suc i) new x h = get_set_same ys i new x h

get_set_other : {A : Type 0} (xs : List A) (i j : ℕ) (new : A) → j ≢ i → slice_get (slice_set xs i new) j ≡ slice_get xs j
get_set_other [] i j new ne = refl
get_set_other (y ∷ ys) zero zero new ne = absurd (ne refl)
get_set_other (y ∷ ys) zero (suc j) new ne = refl
get_set_other (y ∷ ys) (suc i) zero new ne = refl
get_set_other (y ∷ ys) (suc i) (suc j) new ne = get_set_other ys i j new (λ e. ne (ap suc e))

get_drop : {A : Type 0} (xs : List A) (n : ℕ) → slice_get (drop n xs) 0 ≡ slice_get xs n
get_drop xs zero = refl
get_drop [] (suc n) = refl
get_drop (x ∷ xs) (suc n) = get_drop xs n

module _ {R : Type 0} where
  -- the slots up to `place` are forgotten, if they were delivered
  pub record Forgets (old new : List (Slot R)) (place : ℕ) : Type 0 where
    pub before : (i : ℕ) → i < place → slice_get new i ≡ option_map forgotten (slice_get old i)
    pub after : (i : ℕ) → place ≤ i → slice_get new i ≡ slice_get old i

  pub forgets_none : (slots : List (Slot R)) → Forgets slots slots 0
  forgets_none slots = record { before = λ i h. absurd (omega arith); after = λ i h. refl }

  pub forgets_more : (old new : List (Slot R)) (place : ℕ) (slot : Slot R) → slice_get new place ≡ Some slot → Forgets old new place → Forgets old (slice_set new place (forgotten slot)) (place + 1)
  forgets_more old new place slot there f =
      let was : slice_get old place ≡ Some slot = sym (f.after place (omega arith)) ∙ there in
      let here : slice_get (slice_set new place (forgotten slot)) place ≡ option_map forgotten (slice_get old place) =
      get_set_same new place (forgotten slot) slot there ∙ ap (option_map forgotten) (sym was) in
      record {
        before = λ i h. elim (cases_eq i place) [
          | inl e ↦ subst (λ k. slice_get (slice_set new place (forgotten slot)) k ≡ option_map forgotten (slice_get old k)) (sym e) here
          | inr ne ↦ get_set_other new place i (forgotten slot) ne ∙ f.before i (omega arith)
        ];
        after = λ i h. get_set_other new place i (forgotten slot) (λ e. omega arith) ∙ f.after i (omega arith);
      }

  forgets_at : (old new : List (Slot R)) (place : ℕ) → Forgets old new place → length old ≤ place → (i : ℕ) → slice_get new i ≡ option_map forgotten (slice_get old i)
  forgets_at old new place f long i = elim (cases_lt i place) [
    | inl lt ↦ f.before i lt
    | inr past ↦ let none : slice_get old i ≡ None = slice_get_past old i (omega arith) in f.after i past ∙ none ∙ ap (option_map forgotten) (sym none)
  ]

  pub forgets_all : (old new : List (Slot R)) (place : ℕ) → Forgets old new place → length old ≤ place → new ≡ map forgotten old
  forgets_all old new place f long = same_lists new (map forgotten old) (λ i. forgets_at old new place f long i ∙ sym (slice_get-map forgotten old i))

  marks_by : (e : Option (Envelope R)) (d : Bool) → mark_of (forgotten (record { envelope = e; is_delivered = d })) ≡ forgot (mark_of (record { envelope = e; is_delivered = d }))
  marks_by e true = refl
  marks_by e false = refl

  marks_forgotten : (slots : List (Slot R)) → map mark_of (map forgotten slots) ≡ map forgot (map mark_of slots)
  marks_forgotten [] = refl
  marks_forgotten (slot ∷ slots) = ap₂ ◌∷◌ (marks_by slot.envelope slot.is_delivered) (marks_forgotten slots)

  held_by : (e : Option (Envelope R)) (d : Bool) (m : Sent R Layout) → IsHeld (record { envelope = e; is_delivered = d }) m → IsHeld (forgotten (record { envelope = e; is_delivered = d })) m
  held_by e true m h = tt
  held_by e false m h = h

  held_forgotten : (slots : List (Slot R)) (ms : List (Sent R Layout)) → AllZip IsHeld slots ms → AllZip IsHeld (map forgotten slots) ms
  held_forgotten [] [] h = h
  held_forgotten [] (m ∷ ms) h = h
  held_forgotten (slot ∷ slots) [] h = h
  held_forgotten (slot ∷ slots) (m ∷ ms) h = (held_by slot.envelope slot.is_delivered m h.0, held_forgotten slots ms h.1)

  waits_forgotten : (e : Option (Envelope R)) (d : Bool) → is_waiting (forgotten (record { envelope = e; is_delivered = d })) ≡ is_waiting (record { envelope = e; is_delivered = d })
  waits_forgotten e true = refl
  waits_forgotten e false = refl

  gone_by : (e : Option (Envelope R)) (d : Bool) → is_waiting (record { envelope = e; is_delivered = d }) ≡ false → (forgotten (record { envelope = e; is_delivered = d })).envelope ≡ None
  gone_by e true h = refl
  gone_by None false h = refl
  gone_by (Some e) false h = cc

  at_forgotten : (slots : List (Slot R)) (i : ℕ) (x : Slot R) → slice_get (map forgotten slots) i ≡ Some x → (slot : Slot R) × (slice_get slots i ≡ Some slot) × (x ≡ forgotten slot)
  at_forgotten [] i x h = cc
  at_forgotten (slot ∷ slots) zero x h = (slot, refl, cc)
  at_forgotten (slot ∷ slots) (suc i) x h = at_forgotten slots i x h

  -- the first n slots, none of which waits, are over once they are forgotten
  over_forgotten : (slots : List (Slot R)) → AllByRecursion (λ slot. is_waiting slot ≡ false) slots → AllByRecursion IsOver (map forgotten slots)
  over_forgotten [] gone = tt
  over_forgotten (slot ∷ slots) gone = (gone_by slot.envelope slot.is_delivered gone.0, over_forgotten slots gone.1)

  gone_front : (slots : List (Slot R)) (n : ℕ) → AreGone slots n → AllByRecursion (λ slot. is_waiting slot ≡ false) (take n slots)
  gone_front slots zero g = tt
  gone_front [] (suc n) g = tt
  gone_front (slot ∷ slots) (suc n) g = (g 0 slot (omega arith) refl, gone_front slots n (λ i x lt h. g (suc i) x (omega arith) h))

  lost_waits : (d : Bool) (e : Option (Envelope R)) → e ≡ None → not d && is_some e ≡ false
  lost_waits true e h = refl
  lost_waits false e h = rw h refl

  -- the first slot that is left waits
  first_left : (slots : List (Slot R)) (n : ℕ) → IsFirst slots n → IsFirst (map forgotten (drop n slots)) 0
  first_left slots n f = record {
    within = omega arith;
    before = λ i x lt h. absurd (omega arith);
    here = λ x h.
        let at = at_forgotten (drop n slots) 0 x h in
        rw at.2 (waits_forgotten at.0.envelope at.0.is_delivered ∙ f.here at.0 (sym (get_drop slots n) ∙ at.1));
  }

  pub forgot_post : (s : Words R) (old new : Post R) (messages : List (Sent R Layout)) (marks : List Mark) → IsPost s old messages marks →
      new.slots.items ≡ map forgotten (drop old.first old.slots.items) → new.first ≡ 0 → new.sent ≡ old.sent → new.bytes ≡ old.bytes → IsPost s new messages (map forgot marks)
  forgot_post s old new messages marks p es ef en eb =
      let slots = old.slots.items in
      let ended = p.over ++ take old.first slots in
      let parts : ended ++ drop old.first slots ≡ p.over ++ slots = append_assoc p.over (take old.first slots) (drop old.first slots) ∙ ap (p.over ++◌) (take-append-drop old.first slots) in
      let all : map forgotten (p.over ++ slots) ≡ map forgotten ended ++ new.slots.items =
      ap (map forgotten) (sym parts) ∙ map-append forgotten ended (drop old.first slots) ∙ ap (map forgotten ended ++◌) (sym es) in
      let gone = all_append (λ slot. is_waiting slot ≡ false) p.over (take old.first slots)
      (all_weaker IsOver (λ slot. is_waiting slot ≡ false) (λ slot h. lost_waits slot.is_delivered slot.envelope h) p.over p.lost) (gone_front slots old.first p.first.before) in
      let small : old.bytes < 2 ^ 64 = p.small in
      record {
        over = map forgotten ended;
        lost = over_forgotten ended gone;
        marks_are = ap (map mark_of) (sym all) ∙ marks_forgotten (p.over ++ slots) ∙ ap (map forgot) p.marks_are;
        held = subst (λ xs. AllZip IsHeld xs messages) all (held_forgotten (p.over ++ slots) messages p.held);
        first = subst (λ n. IsFirst new.slots.items n) (sym ef) (subst (λ xs. IsFirst xs 0) (sym es) (first_left slots old.first p.first));
        sent = p.sent ∙ sym en;
        bytes = p.bytes ∙ ap Some (sym eb);
        few = p.few;
        small = omega arith;
      }
