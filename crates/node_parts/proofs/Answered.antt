-- What an answer does to the open requests, by what it does to the one that it is for.
use Rattle.std.specs.Prelude.{◌≡◌, ℕ, ◌==◌, true, false, cond, Option, Some, None, List, [], ◌∷◌, refl}
use Rattle.std.proofs.Common.{ap, sym, subst, ◌∙◌}
use Rattle.std.specs.List.{AllZip}
use Rattle.std.specs.List.Sorted.{IsStrictlySortedBy}
use Rattle.std.specs.Map.{lookup, set_value, keys_of}
use Rattle.std.specs.declared.cmp.Reverse.{Reverse}
use Rattle.std.proofs.lemmas.Bool.{eq-eqb, eqb-true, ne_eqb, cond-true, cond-false}
use Rattle.std.proofs.lemmas.Map.Steps.{set_value_same}
use Rattle.std.proofs.lemmas.Option.{same_Some}
use Rattle.layout_roles.specs.declared.layout.Layout.{Layout}
use Rattle.wire_messages.specs.declared.phase.PhaseEnd.{PhaseEnd}
use Rattle.cluster_machine.specs.Node.{Node, Call as Opened, Did, quiet}
use Rattle.cluster_machine.specs.Phases.{call_at, with_call, at_call, in_phase}
use Rattle.node_parts.specs.declared.call.Call.{Call}
use Rattle.node_parts.specs.declared.calls.Calls.{Calls}
use Rattle.node_parts.specs.Calls.{IsCall, IsEntry, Took, Heard, ended_with}
use Rattle.node_parts.proofs.OpenCalls.{newest_first, finds, AreFound, looked_up, call_again, call_written}

module _ {R : Type 0} where
  pub request_is : (q : ℕ) (c : Opened R) (ms : List (Opened R)) → call_at ms q ≡ Some c → c.request ≡ q
  request_is q c [] e = cc
  request_is q c (m ∷ ms) e =
      elim (m.request == q) as (λ b. (m.request == q) ≡ b → cond b (Some m) (call_at ms q) ≡ Some c → c.request ≡ q) [
        | true ↦ λ here is. ap (λ (d : Opened R). d.request) (sym (same_Some m c is)) ∙ eqb-true m.request q here
        | false ↦ λ apart later. request_is q c ms later
      ] refl e

module _ {S R : Type 0} (k : Reverse ℕ) (es : List (Reverse ℕ × Call S R)) (new : Calls S R) (phase : ℕ) (x : Node R Layout) (f : Opened R → Did R Layout) (all : AllZip IsEntry es x.calls) where
  same_heard : (given : Option (PhaseEnd R)) (d e : Did R Layout) → d ≡ e → Heard new given k.0 x e → Heard new given k.0 x d
  same_heard given d e is heard = subst (λ o. Heard new given k.0 x o) (sym is) heard

  none_heard : new.by_number.entries ≡ es → Heard new None k.0 x (quiet x)
  none_heard same = record {
    calls = subst (λ ns. AllZip IsEntry ns x.calls) (sym same) all;
    rest = refl;
    posts = refl;
    ends = refl;
    spelled = refl;
  }

  heard_by : (given : Option (PhaseEnd R)) (w : Call S R) (c : Opened R) → new.by_number.entries ≡ set_value (finds k) es w → IsStrictlySortedBy newest_first (keys_of es) →
      c.request ≡ k.0 → call_at x.calls k.0 ≡ Some c → (d : Did R Layout) → Took w given x c d → Heard new given k.0 x d
  heard_by given w c written sorted of there d took =
      let after : d.node.calls ≡ with_call took.after x.calls = ap (λ (n : Node R Layout). n.calls) took.node in
      let all_now : AllZip IsEntry (set_value (finds k) es w) (with_call took.after x.calls) =
      call_written k w took.after es x.calls sorted all (took.request ∙ of) (λ m other. took.start ∙ ap (λ (n : Opened R). n.start) (same_Some c m (sym there ∙ other))) took.is in
      record {
        calls = subst (λ ns. AllZip IsEntry ns d.node.calls) (sym written) (subst (λ ms. AllZip IsEntry (set_value (finds k) es w) ms) (sym after) all_now);
        rest = took.node ∙ ap (λ cs. record x { calls = cs }) (sym after);
        posts = took.posts;
        ends = took.ends ∙ ap (λ q. ended_with q given) of;
        spelled = took.spelled;
      }

  heard_at : (given : Option (PhaseEnd R)) (call w : Call S R) → new.by_number.entries ≡ set_value (finds k) es w → IsStrictlySortedBy newest_first (keys_of es) → call.phases ≡ phase →
      ((c : Opened R) → with_call c x.calls ≡ x.calls → IsCall call c → Took w given x c (f c)) → (o : Option (Opened R)) → call_at x.calls k.0 ≡ o → AreFound (Some call) o → Heard new given k.0 x (at_call x phase f o)
  heard_at given call w written sorted number takes None there found = absurd found
  heard_at given call w written sorted number takes (Some c) there found =
      let of = request_is k.0 c x.calls there in
      let took = takes c (call_again k c es x.calls sorted all of there) found in
      same_heard given (at_call x phase f (Some c)) (f c) (cond-true (c.phases == phase) (f c) (quiet x) (eq-eqb c.phases phase (sym found.phases ∙ number)))
      (heard_by given w c written sorted of there (f c) took)

  -- the request is open and in this phase
  pub heard_open : (given : Option (PhaseEnd R)) (call w : Call S R) → new.by_number.entries ≡ set_value (finds k) es w → IsStrictlySortedBy newest_first (keys_of es) → lookup (finds k) es ≡ Some call → call.phases ≡ phase →
      ((c : Opened R) → with_call c x.calls ≡ x.calls → IsCall call c → Took w given x c (f c)) → Heard new given k.0 x (in_phase x k.0 phase f)
  heard_open given call w written sorted there number takes =
      heard_at given call w written sorted number takes (call_at x.calls k.0) refl (subst (λ o. AreFound o (call_at x.calls k.0)) there (looked_up k es x.calls all))

  late_at : (call : Call S R) → new.by_number.entries ≡ es → (call.phases == phase) ≡ false → (o : Option (Opened R)) → AreFound (Some call) o → Heard new None k.0 x (at_call x phase f o)
  late_at call same other None found = absurd found
  late_at call same other (Some c) found =
      same_heard None (at_call x phase f (Some c)) (quiet x) (cond-false (c.phases == phase) (f c) (quiet x) (ap (λ n. n == phase) (sym found.phases) ∙ other)) (none_heard same)

  -- the request is open, in another phase
  pub heard_late : (call : Call S R) → new.by_number.entries ≡ set_value (finds k) es call → lookup (finds k) es ≡ Some call → (call.phases ≡ phase → ⊥) → Heard new None k.0 x (in_phase x k.0 phase f)
  heard_late call written there other =
      late_at call (written ∙ set_value_same (finds k) es call there) (ne_eqb call.phases phase other) (call_at x.calls k.0) (subst (λ o. AreFound o (call_at x.calls k.0)) there (looked_up k es x.calls all))

  closed_at : new.by_number.entries ≡ es → (o : Option (Opened R)) → AreFound {S = S} {R = R} None o → Heard new None k.0 x (at_call x phase f o)
  closed_at same None found = none_heard same
  closed_at same (Some c) found = absurd found

  -- the request isn't open
  pub heard_closed : new.by_number.entries ≡ es → lookup (finds k) es ≡ None → Heard new None k.0 x (in_phase x k.0 phase f)
  heard_closed same there = closed_at same (call_at x.calls k.0) (subst (λ o. AreFound o (call_at x.calls k.0)) there (looked_up k es x.calls all))
