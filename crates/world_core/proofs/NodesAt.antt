-- One of the nodes changed, and the others stay.
use Rattle.std.specs.Prelude.{◌≡◌, ◌⊎◌, ℕ, ◌==◌, Bool, true, false, cond, Option, Some, None, List, IsSome, refl}
use Rattle.std.proofs.Common.{Bor, inl, inr, sym, subst, ap, ◌∙◌}
use Rattle.std.specs.Ordering.{nat_cmp, is_eq}
use Rattle.std.specs.BTreeMap.{BTreeMap, get, Updates, WritesThrough}
use Rattle.std.proofs.lemmas.Bool.{eq-eqb, eqb-true}
use Rattle.std.proofs.lemmas.Cmp.{nat_cmp_total, tied_itself}
use Rattle.std.specs.Option.{unwrap_or, is_some, option_copied}
use Rattle.layout_roles.specs.declared.layout.Layout.{Layout}
use Rattle.layout_trackers.specs.declared.which.Which.TheVariants.{Sync}
use Rattle.layout_trackers.specs.Trackers.{counts}
use Rattle.view_model.specs.Layouts.{reading}
use Rattle.view_model.specs.View.{newest}
use Rattle.table_schema.specs.Words.{Words}
use Rattle.table_store.proofs.Keys.{ne_cmp}
use Rattle.wire_messages.specs.declared.phase.PhaseEnd.{PhaseEnd}
use Rattle.cluster_machine.specs.declared.step.LocalEnd.{LocalEnd}
use Rattle.cluster_machine.specs.Node.{Node as Model, Did, new_node}
use Rattle.cluster_machine.specs.Acts.{Acted}
use Rattle.node_parts.specs.declared.packet.Envelope.{Envelope}
use Rattle.node_core.specs.declared.node.Node.{Node}
use Rattle.node_core.specs.declared.node.BeginFault.{BeginFault}
use Rattle.node_core.specs.declared.node.BeginFault.TheVariants.{NotMember, Memory as WantsMemory}
use Rattle.node_core.specs.Stands.{StandsFor, view_of, Done, Does, Acts, Becomes, Overflows}
use Rattle.world_core.specs.declared.nodes.Nodes.{Nodes}
use Rattle.world_core.specs.Nodes.{newest_of, newest_in, StayThere, IsNodeAt, AreNodes, IsSyncAt, DidAt, DoesAt, ActsAt, BecomesAt, OverflowsAt, with_node}

same_number : (n m : ℕ) → is_eq (nat_cmp n m) ≡ (m == n)
same_number n m =
    elim (m == n) as (λ b. (m == n) ≡ b → is_eq (nat_cmp n m) ≡ b) [
      | true ↦ λ e. let same = eqb-true m n e in rw (same, tied_itself nat_cmp_total n) refl
      | false ↦ λ e. ne_cmp n m (λ same. let is = eq-eqb m n (sym same) in cc)
    ] refl

pub same_at : {R : Type 0} → (n m : ℕ) (xs : ℕ → Model R Layout) (b : Bool) → (m == n) ≡ b → unwrap_or (cond b (Some (xs n)) None) (xs m) ≡ xs m
same_at n m xs true same = ap xs (sym (eqb-true m n same))
same_at n m xs false apart = refl

module _ {S R : Type 0} where
  pub none_copied : (found : Option (Bor (Node S R))) → is_some found ≡ false → None ≡ option_copied found
  none_copied None none = refl
  none_copied (Some c) none = cc

  abbrev pub with_map : Nodes S R → BTreeMap ℕ (Node S R) → Nodes S R
  with_map nodes m = record nodes { by_number = m }

  -- node n of the map is c
  abbrev pub IsThere : Nodes S R → ℕ → Node S R → Type 0
  IsThere nodes n c = Some c ≡ get nat_cmp nodes.by_number n

  -- node n is w now, and the others stay
  abbrev pub Writes : Nodes S R → BTreeMap ℕ (Node S R) → ℕ → Node S R → Type 0
  Writes nodes m n w = WritesThrough nat_cmp (nat_cmp n) nodes.by_number w m

  pub newest_there : (older old : Nodes S R) (n : ℕ) (c : Node S R) → newest_in old n ≡ newest_in older n → IsThere old n c → newest_in older n ≡ newest reading (view_of c)
  newest_there older old n c same there = sym same ∙ ap newest_of (sym there)

-- of two causes the other one
pub not_want : {P : Type 0} → (e : BeginFault) → e ≡ NotMember → (e ≡ WantsMemory) ⊎ ((e ≡ NotMember) × P) → P
not_want e is causes = elim causes [ inl a ↦ cc | inr b ↦ b.1 ]

module _ {S R : Type 0} (join : R → R → R) (s : Words R) where
  pub stands_at : (nodes : Nodes S R) (n : ℕ) (c : Node S R) (xs : ℕ → Model R Layout) → IsThere nodes n c → AreNodes join s nodes xs → StandsFor join s c n (xs n)
  stands_at nodes n c xs there are = subst (λ o. IsNodeAt join s o n (xs n)) (sym there) (are n)

  pub is_new : (nodes : Nodes S R) (n : ℕ) (xs : ℕ → Model R Layout) → None ≡ get nat_cmp nodes.by_number n → AreNodes join s nodes xs → xs n ≡ new_node
  is_new nodes n xs none are = subst (λ o. IsNodeAt join s o n (xs n)) (sym none) (are n)

  at_it : (old : Option (Node S R)) (n m : ℕ) (w : Node S R) (x y : Model R Layout) → StandsFor join s w n y → IsNodeAt join s old m x → (b : Bool) → (m == n) ≡ b →
      IsNodeAt join s (cond b (Some w) old) m (unwrap_or (cond b (Some y) None) x)
  at_it old n m w x y stands is true same = subst (λ (k : ℕ). StandsFor join s w k y) (sym (eqb-true m n same)) stands
  at_it old n m w x y stands is false apart = is

  put : (old : Nodes S R) (map : BTreeMap ℕ (Node S R)) (n : ℕ) (w : Node S R) (xs : ℕ → Model R Layout) (y : Model R Layout) →
      ((m : ℕ) → get nat_cmp map m ≡ cond (is_eq (nat_cmp n m)) (Some w) (get nat_cmp old.by_number m)) → StandsFor join s w n y → AreNodes join s old xs → AreNodes join s (with_map old map) (with_node n y xs)
  put old map n w xs y puts stands are m =
      let step : get nat_cmp map m ≡ cond (m == n) (Some w) (get nat_cmp old.by_number m) = puts m ∙ ap (λ b. cond b (Some w) (get nat_cmp old.by_number m)) (same_number n m) in
      subst (λ o. IsNodeAt join s o m (with_node n y xs m)) (sym step) (at_it (get nat_cmp old.by_number m) n m w (xs m) y stands (are m) (m == n) refl)

  pub written : (old : Nodes S R) (map : BTreeMap ℕ (Node S R)) (n : ℕ) (c w : Node S R) (xs : ℕ → Model R Layout) (y : Model R Layout) →
      IsThere old n c → Writes old map n w → StandsFor join s w n y → AreNodes join s old xs → AreNodes join s (with_map old map) (with_node n y xs)
  written old map n c w xs y there writes stands are =
      let present : IsSome (get nat_cmp old.by_number n) = rw (sym there) refl in
      put old map n w xs y (writes.3 present).0 stands are

  -- the sync of a node that is there
  pub sync_there : (nodes : Nodes S R) (n : ℕ) (c : Node S R) (sync : ℕ) → IsThere nodes n c → sync ≡ counts 0 Sync (view_of c).trackers n → IsSyncAt join s nodes n sync
  sync_there nodes n c sync there is xs are = is ∙ ap (λ v. counts 0 Sync v.trackers n) (stands_at nodes n c xs there are).view

  -- and of one that was written
  pub sync_written : (old : Nodes S R) (map : BTreeMap ℕ (Node S R)) (n : ℕ) (c w : Node S R) (sync : ℕ) → IsThere old n c → Writes old map n w → sync ≡ counts 0 Sync (view_of w).trackers n → IsSyncAt join s (with_map old map) n sync
  sync_written old map n c w sync there writes is =
      let present : IsSome (get nat_cmp old.by_number n) = rw (sym there) refl in
      sync_there (with_map old map) n w sync (sym (writes.3 present).1) is

  pub became : (old : Nodes S R) (map : BTreeMap ℕ (Node S R)) (n : ℕ) (c w : Node S R) (f : ℕ → Model R Layout → Model R Layout) →
      IsThere old n c → Writes old map n w → Becomes join s c w f → BecomesAt join s old (with_map old map) n (f n)
  became old map n c w f there writes becomes xs are = written old map n c w xs (f n (xs n)) there writes (becomes n (xs n) (stands_at old n c xs there are)) are

  done_at : (old : Nodes S R) (map : BTreeMap ℕ (Node S R)) (n : ℕ) (c w : Node S R) (xs : ℕ → Model R Layout) (old_out new_out : List (Envelope R)) (given : Option (ℕ × PhaseEnd R)) (d : Did R Layout) →
      IsThere old n c → Writes old map n w → Done join s w n old_out new_out given d → AreNodes join s old xs → DidAt join s (with_map old map) n xs old_out new_out given d
  done_at old map n c w xs old_out new_out given d there writes done are = record {
    nodes = written old map n c w xs d.node there writes done.stands are;
    posts = done.posts;
    ends = done.ends;
    spelled = done.spelled;
  }

  pub does : (old : Nodes S R) (map : BTreeMap ℕ (Node S R)) (n : ℕ) (c w : Node S R) (old_out new_out : List (Envelope R)) (given : Option (ℕ × PhaseEnd R)) (f : ℕ → Model R Layout → Did R Layout) →
      IsThere old n c → Writes old map n w → Does join s c w old_out new_out given f → DoesAt join s old (with_map old map) n old_out new_out given (f n)
  does old map n c w old_out new_out given f there writes it xs are =
      done_at old map n c w xs old_out new_out given (f n (xs n)) there writes (it n (xs n) (stands_at old n c xs there are)) are

  pub acts : (old : Nodes S R) (map : BTreeMap ℕ (Node S R)) (n : ℕ) (c w : Node S R) (old_out new_out : List (Envelope R)) (how : LocalEnd) (f : ℕ → Model R Layout → Acted R Layout) →
      IsThere old n c → Writes old map n w → Acts join s c w old_out new_out how f → ActsAt join s old (with_map old map) n old_out new_out how (f n)
  acts old map n c w old_out new_out how f there writes it xs are =
      let done = it n (xs n) (stands_at old n c xs there are) in
      (done_at old map n c w xs old_out new_out None (f n (xs n)).did there writes done.0 are, done.1)

  pub overflows : (old : Nodes S R) (n : ℕ) (c : Node S R) (f : ℕ → Model R Layout → Did R Layout) → IsThere old n c → Overflows join s c f → OverflowsAt join s old n (f n)
  overflows old n c f there it xs are = it n (xs n) (stands_at old n c xs there are)

  -- the same node in its own place
  pub same_nodes : (new : Nodes S R) (n : ℕ) (xs : ℕ → Model R Layout) → AreNodes join s new (with_node n (xs n) xs) → AreNodes join s new xs
  same_nodes new n xs are m = subst (λ x. IsNodeAt join s (get nat_cmp new.by_number m) m x) (same_at n m xs (m == n) refl) (are m)

  -- a new node in the place of none
  pub put_new : (old : Nodes S R) (map : BTreeMap ℕ (Node S R)) (n : ℕ) (w : Node S R) (xs : ℕ → Model R Layout) →
      None ≡ get nat_cmp old.by_number n → Updates nat_cmp old.by_number map n (Some w) → StandsFor join s w n new_node → AreNodes join s old xs → AreNodes join s (with_map old map) xs
  put_new old map n w xs none puts stands are =
      let is = is_new old n xs none are in
      same_nodes (with_map old map) n xs (put old map n w xs (xs n) puts.0 (subst (λ x. StandsFor join s w n x) (sym is) stands) are)

  -- a new node stands in nobody's place
  pub put_stays : (old : Nodes S R) (map : BTreeMap ℕ (Node S R)) (n : ℕ) (w : Node S R) → None ≡ get nat_cmp old.by_number n → Updates nat_cmp old.by_number map n (Some w) → StayThere old (with_map old map)
  put_stays old map n w none puts m c there =
      elim (m == n) as (λ b. (m == n) ≡ b → Some c ≡ get nat_cmp map m) [
        | true ↦ λ e.
            let never : Some c ≡ None = there ∙ (ap (get nat_cmp old.by_number) (eqb-true m n e) ∙ sym none) in
            absurd cc
        | false ↦ λ e. there ∙ sym (puts.0 m ∙ ap (λ b. cond b (Some w) (get nat_cmp old.by_number m)) (same_number n m ∙ e))
      ] refl

  pub newest_new : (old : Nodes S R) (map : BTreeMap ℕ (Node S R)) (n : ℕ) (w : Node S R) →
      None ≡ get nat_cmp old.by_number n → Updates nat_cmp old.by_number map n (Some w) → StandsFor join s w n new_node → newest_in (with_map old map) n ≡ newest_in old n
  newest_new old map n w none puts stands = ap newest_of puts.1 ∙ ap (newest reading) stands.view ∙ ap newest_of none
