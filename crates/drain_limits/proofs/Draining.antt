-- Each delivery sends no more than it takes from the load of the messages that wait, and so do many.
use Rattle.std.specs.Prelude.{◌≡◌, ◌≤◌, ◌+◌, ◌-◌, ℕ, zero, suc, Option, Some, None, List, [], ◌∷◌, ◌++◌, length, slice_set, refl}
use Rattle.std.proofs.Common.{ap, sym, subst, ◌∙◌, length-append, arith}
use Rattle.std.proofs.lemmas.List.{length-set}
use Rattle.layout_roles.specs.declared.role.Role.{Role}
use Rattle.table_schema.specs.Words.{Words}
use Rattle.cluster_machine.specs.declared.step.Step.TheVariants.{Deliver}
use Rattle.cluster_machine.specs.Layouts.{Layouts}
use Rattle.cluster_machine.specs.Node.{Post}
use Rattle.cluster_machine.specs.Receives.{receives}
use Rattle.cluster_machine.specs.Run.{next}
use Rattle.cluster_machine.specs.Step.{Choice, Effects, sent_by, did, received, at_message, effects, applied}
use Rattle.cluster_machine.specs.World.{Sent, World, numbered, clock, undelivered}
use Rattle.drained_laws.specs.Waiting.{fresh, waiting}
use Rattle.drained_laws.specs.Weights.{drains}
use Rattle.drained_laws.proofs.Steps.{at_number}
use Rattle.drained_laws.proofs.Waits.{done, taken, sent_wait}
use Rattle.drained_laws.proofs.Weights.{first_fresh, marked_next}
use Rattle.drain_limits.specs.Loads.{Keys, HasKeys, packet_load, load}
use Rattle.drain_limits.proofs.Paying.{posts_load, receives_paid}

module _ (keys : Keys) {R L : Type 0} where
  load_append : (xs ys : List (Sent R L)) → load keys (xs ++ ys) ≡ load keys xs + load keys ys
  load_append [] ys = omega arith
  load_append (x ∷ xs) ys = let rest : load keys (xs ++ ys) ≡ load keys xs + load keys ys = load_append xs ys in omega (arith, rest)

  sent_load : (w : World R L) (n : ℕ) (ps : List (Post R L)) → load keys (sent_by w n ps) ≡ posts_load keys ps
  sent_load w n [] = refl
  sent_load w n (p ∷ ps) = ap (λ i. packet_load keys p.packet + i) (sent_load w n ps)

  sent_count : (w : World R L) (n : ℕ) (ps : List (Post R L)) → length (sent_by w n ps) ≡ length ps
  sent_count w n [] = refl
  sent_count w n (p ∷ ps) = ap suc (sent_count w n ps)

  -- messages and load together
  abbrev pub all : World R L → ℕ
  all w = length w.messages + load keys (waiting w)

module _ {R L A C : Type 0} (join : R → R → R) (s : Words R) (k : Layouts L) (trio : L) (trio_roles : List Role → List Role) (choice : Choice L A C) (keys : Keys) where
  abbrev then : World R L → ℕ → World R L
  then w m = next join s k trio trio_roles w (record { step = Deliver m; choice = choice })

  pub delivery_paid : (w : World R L) (m : ℕ) → ((n : ℕ) → HasKeys join s keys (w.nodes n)) → length w.messages ≡ length w.marks → numbered w.marks m ≡ Some fresh → all keys (then w m) ≤ all keys w
  delivery_paid w m known equal e =
      let found = at_number w.messages w.marks m fresh equal e in
      let x = found.0 in
      let f : Sent R L → Effects R L A C = λ sent. received m (did w sent.to (receives join s k sent.to (clock w sent.to) (w.nodes sent.to) sent.from sent.packet)) in
      let d = receives join s k x.to (clock w x.to) (w.nodes x.to) x.from x.packet in
      let sends = sent_by w x.to d.posts in
      let t = taken w.messages w.marks m x found.1 e in
      let marks = slice_set w.marks (m - 1) done in
      let is : effects join s k trio trio_roles w (Deliver m) choice ≡ f x = ap (λ o. at_message w f o (numbered w.marks m)) found.1 ∙ ap (at_message w f (Some x)) e in
      let now : waiting (applied w (f x)) ≡ (t.before ++ t.after) ++ sends = sent_wait w.messages sends marks (equal ∙ sym (length-set w.marks (m - 1) done)) ∙ ap (λ ws. ws ++ sends) t.is in
      let paid : length d.posts + posts_load keys d.posts ≤ packet_load keys x.packet = receives_paid join s k keys x.to (clock w x.to) (w.nodes x.to) (known x.to) x.from x.packet in
      let a = load_append keys (t.before ++ t.after) sends in
      let b = load_append keys t.before t.after in
      let c = load_append keys t.before (x ∷ t.after) in
      let g = sent_load keys w x.to d.posts in
      let h = sent_count keys w x.to d.posts in
      let was : load keys (waiting w) ≡ load keys (t.before ++ x ∷ t.after) = ap (λ ws. load keys ws) t.was in
      let is_now : load keys (waiting (applied w (f x))) ≡ load keys ((t.before ++ t.after) ++ sends) = ap (λ ws. load keys ws) now in
      let count : length (applied w (f x)).messages ≡ length w.messages + length sends = length-append w.messages sends in
      subst (λ (e : Effects R L A C). all keys (applied w e) ≤ all keys w) (sym is) (omega (arith, paid, a, b, c, g, h, was, is_now, count))

  -- after one of them
  module _ (n : ℕ) (w : World R L) (equal : length w.messages ≡ length w.marks) where
    abbrev on : ℕ → Option ℕ → World R L
    on i o = elim o as (λ p. World R L) [ None ↦ w | Some m ↦ drains join s k trio trio_roles choice i (then w m) ]

    by_least : (o : Option ℕ) → undelivered w ≡ o → ((j : ℕ) → HasKeys join s keys (w.nodes j)) → ((i : ℕ) → i ≤ n → (j : ℕ) → HasKeys join s keys ((on i o).nodes j)) →
        ((u : World R L) → ((i : ℕ) → i ≤ n → (j : ℕ) → HasKeys join s keys ((drains join s k trio trio_roles choice i u).nodes j)) → length u.messages ≡ length u.marks → all keys (drains join s k trio trio_roles choice n u) ≤ all keys u) →
        all keys (on n o) ≤ all keys w
    by_least None e known later rest = omega arith
    by_least (Some m) e known later rest =
        let first = delivery_paid w m known equal (first_fresh w.marks m e) in
        let more = rest (then w m) later (marked_next w (effects join s k trio trio_roles w (Deliver m) choice) equal) in
        omega (arith, first, more)

  pub drains_paid : (n : ℕ) (w : World R L) → ((i : ℕ) → i ≤ n → (m : ℕ) → HasKeys join s keys ((drains join s k trio trio_roles choice i w).nodes m)) → length w.messages ≡ length w.marks →
      all keys (drains join s k trio trio_roles choice n w) ≤ all keys w
  drains_paid zero w known equal = omega arith
  drains_paid (suc n) w known equal = by_least n w equal (undelivered w) refl (known 0 (omega arith)) (λ i low. known (suc i) (omega (arith, low))) (drains_paid n)
