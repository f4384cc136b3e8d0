-- Requests of a later moment: there may be more, and each is the same request at the same stage or a later one.
use Rattle.std.proofs.Common.{◌≡◌, inl, inr, ℕ, zero, suc, ◌-◌, ◌≤◌, List, [], ◌∷◌, ◌++◌, Option, Some, length, slice_set, refl, sym, ap, ◌∙◌, subst, arith}
use Rattle.std.specs.Prelude.{⊤}
use Rattle.std.proofs.lemmas.List.{length-set}
use Rattle.cluster_machine.specs.World.{numbered}
use Rattle.k2v_rows.specs.declared.k2v_row.K2vRow.{K2vRow}
use Rattle.k2v_rows.specs.Row.{ItemKey}
use Rattle.k2v_model.specs.declared.order.Order.{Order}
use Rattle.k2v_model.specs.Orders.{key_of}
use Rattle.k2v_model.specs.Run.{ItemRequest, Stage, reading, storing, stored, shown, over, set_stage}
use Rattle.k2v_model.specs.Owed.{IsWrite, HasRead, IsReplaced}
use Rattle.machine_origins.proofs.Places.{numbered_there, length_push, numbered_append, numbered_set_here, numbered_set}
use Rattle.k2v_laws.proofs.Good.{one_entry, IsLive, HasWritten, IsGood, none_at_zero}

-- what becomes of a write that stores this row
abbrev pub AfterStoring : K2vRow → Stage → Type 0
AfterStoring row reading = ⊥
AfterStoring row (storing r) = r ≡ row
AfterStoring row (stored r) = r ≡ row
AfterStoring row (shown given begun) = ⊥
AfterStoring row over = ⊤

-- what becomes of a request
abbrev pub IsAfter : Stage → Stage → Type 0
IsAfter reading new = ⊤
IsAfter (storing row) new = AfterStoring row new
IsAfter (stored row) new = new ≡ stored row
IsAfter (shown given begun) new = new ≡ shown given begun
IsAfter over new = new ≡ over

pub same_after : (stage : Stage) → IsAfter stage stage
same_after reading = tt
same_after (storing row) = refl
same_after (stored row) = refl
same_after (shown given begun) = refl
same_after over = refl

-- the same request, at a later moment
pub record IsLater (new : List ItemRequest) (q : ℕ) (a : ItemRequest) : Type 0 where
  pub one : ItemRequest
  pub is_there : numbered new q ≡ Some one
  pub node_is : one.node ≡ a.node
  pub order_is : one.order ≡ a.order
  pub before_is : one.before ≡ a.before
  pub stage : IsAfter a.stage one.stage

pub record Grows (old new : List ItemRequest) : Type 0 where
  pub longer : length old ≤ length new
  pub later : (q : ℕ) (a : ItemRequest) → numbered old q ≡ Some a → IsLater new q a

-- ---- what stays so

never_reading : (old new : Stage) → IsAfter old new → (old ≡ reading → ⊥) → new ≡ reading → ⊥
never_reading reading new after had is = had refl
never_reading (storing row) reading after had is = after
never_reading (storing row) (storing r) after had is = cc
never_reading (storing row) (stored r) after had is = cc
never_reading (storing row) (shown given begun) after had is = cc
never_reading (storing row) over after had is = cc
never_reading (stored row) new after had is = cc
never_reading (shown given begun) new after had is = cc
never_reading over new after had is = cc

was_live : (old new : Stage) → IsAfter old new → (new ≡ over → ⊥) → old ≡ over → ⊥
was_live reading new after live is = cc
was_live (storing row) new after live is = cc
was_live (stored row) new after live is = cc
was_live (shown given begun) new after live is = cc
was_live over new after live is = live after

still_shown : (given : Option K2vRow) (begun : ℕ) (old new : Stage) → old ≡ shown given begun → IsAfter old new → new ≡ shown given begun
still_shown given begun reading new is after = cc
still_shown given begun (storing row) new is after = cc
still_shown given begun (stored row) new is after = cc
still_shown given begun (shown g b) new is after = after ∙ is
still_shown given begun over new is after = cc

pub still_stored : (row : K2vRow) (old new : Stage) → old ≡ stored row → IsAfter old new → new ≡ stored row
still_stored row reading new is after = cc
still_stored row (storing r) new is after = cc
still_stored row (stored r) new is after = after ∙ is
still_stored row (shown g b) new is after = cc
still_stored row over new is after = cc

module _ (old new : List ItemRequest) (grows : Grows old new) where
  pub write_later : (key : ItemKey) (m q : ℕ) → IsWrite old q key m → IsWrite new q key m
  write_later key m q w =
      let l = grows.later q w.one w.is_there in
      record {
        one = l.one;
        is_there = l.is_there;
        key_is = ap (λ (o : Order). key_of o.item) l.order_is ∙ w.key_is;
        node_is = l.node_is ∙ w.node_is;
        value = w.value;
        token = w.token;
        writes = ap (λ (o : Order). o.ask) l.order_is ∙ w.writes;
      }

  pub written_later : (key : ItemKey) (m q : ℕ) → HasWritten old key m q → HasWritten new key m q
  unfolding write_later
  written_later key m q h =
      let l = grows.later q h.write.one h.write.is_there in
      record { write = write_later key m q h.write; has_stored = never_reading h.write.one.stage l.one.stage l.stage h.has_stored }

  pub read_later : (key : ItemKey) (q : ℕ) (given : Option K2vRow) (begun : ℕ) → HasRead old q key given begun → HasRead new q key given begun
  read_later key q given begun r =
      let l = grows.later q r.one r.is_there in
      record { one = l.one; is_there = l.is_there; key_is = ap (λ (o : Order). key_of o.item) l.order_is ∙ r.key_is; stage_is = still_shown given begun r.one.stage l.one.stage r.stage_is l.stage }

  pub replaced_later : (key : ItemKey) (m q b c : ℕ) → b ≤ c → IsReplaced old key m q b → IsReplaced new key m q c
  unfolding write_later
  replaced_later key m q b c le h =
      let low = h.in_time in
      record { by = h.by; at = h.at; write = write_later key h.at h.by h.write; in_time = omega (arith, le, low); given = h.given; then = h.then; was_read = read_later key h.write.token h.given h.then h.was_read; shows = h.shows }

  -- a request that is one of the old ones was so before
  pub entry_before : (q : ℕ) (b : ItemRequest) → q ≤ length old → numbered new q ≡ Some b → (a : ItemRequest) × (numbered old q ≡ Some a) × (b.node ≡ a.node) × (b.order ≡ a.order) × (b.before ≡ a.before) × IsAfter a.stage b.stage
  entry_before q b low at =
      let there = numbered_there old q (positive q b at) low in
      let l = grows.later q there.0 there.1 in
      let same : l.one ≡ b = one_entry new q l.one b l.is_there at in
      (there.0, there.1, sym (ap (λ (o : ItemRequest). o.node) same) ∙ l.node_is, sym (ap (λ (o : ItemRequest). o.order) same) ∙ l.order_is, sym (ap (λ (o : ItemRequest). o.before) same) ∙ l.before_is, subst (λ (o : ItemRequest). IsAfter there.0.stage o.stage) same l.stage) where
        positive : (q : ℕ) (b : ItemRequest) → numbered new q ≡ Some b → 1 ≤ q
        positive zero b e = cc
        positive (suc n) b e = omega arith

  pub live_before : (key : ItemKey) (m q : ℕ) → q ≤ length old → (w : IsWrite new q key m) → IsLive w → (v : IsWrite old q key m) × IsLive v
  live_before key m q low w live =
      let e = entry_before q w.one low w.is_there in (
        record { one = e.0; is_there = e.1; key_is = ap (λ (o : Order). key_of o.item) (sym e.3) ∙ w.key_is; node_is = sym e.2 ∙ w.node_is; value = w.value; token = w.token; writes = ap (λ (o : Order). o.ask) (sym e.3) ∙ w.writes },
        was_live e.0.stage w.one.stage e.5 live,
      )

  -- a good row stays good
  pub good_later : {H : List ℕ → Type 0} (key : ItemKey) (b c : ℕ) (row : K2vRow) → b ≤ length old → b ≤ c → IsGood H old key b row → IsGood H new key c row
  unfolding written_later
  good_later key b c row low le g = record {
    proper = g.proper;
    key_is = g.key_is;
    values = λ m t v h. let was = g.values m t v h in let under = was.2 in (written_later key m t was.0, was.1, omega (arith, le, under));
    discards = λ m. elim (g.discards m) [
      | inl is ↦ inl is
      | inr h ↦ inr (written_later key m _ h.0, (let under = h.1 in omega (arith, le, under)))
    ];
    whole = λ clear m t q v h lt w live.
        let under = (g.values m t v h).2 in
        let was = live_before key m q (omega (arith, low, under, lt)) w live in
        g.whole clear m t q v h lt was.0 was.1;
    covered = λ clear m q under w live. elim (g.discards m) [
      | inl is ↦ none_at_zero new key m (subst (λ (k : ℕ). IsWrite new k key m) (omega (arith, is, under)) w)
      | inr h ↦
          let d = h.1 in
          let was = live_before key m q (omega (arith, low, under, d)) w live in
          replaced_later key m q b c le (g.covered clear m q under was.0 was.1)
    ];
  }

-- ---- how requests grow

pub grows_same : (requests : List ItemRequest) → Grows requests requests
grows_same requests = record { longer = omega arith; later = λ q a at. record { one = a; is_there = at; node_is = refl; order_is = refl; before_is = refl; stage = same_after a.stage } }

pub grows_push : (requests : List ItemRequest) (a : ItemRequest) → Grows requests (requests ++ a ∷ [])
grows_push requests a = record {
  longer = (let l = length_push requests a in omega (arith, l));
  later = λ q b at. record { one = b; is_there = numbered_append requests (a ∷ []) q b at; node_is = refl; order_is = refl; before_is = refl; stage = same_after b.stage };
}

pub grows_set : (requests : List ItemRequest) (q : ℕ) (a : ItemRequest) (stage : Stage) → numbered requests q ≡ Some a → IsAfter a.stage stage → Grows requests (set_stage requests q a stage)
grows_set requests q a stage at after =
    let new : ItemRequest = record a { stage = stage } in
    record {
      longer = (let l = length-set requests (q - 1) new in omega (arith, l));
      later = λ p b there. elim (numbered_set requests q p a new b at there) [
        | inl e ↦
            let same : a ≡ b = one_entry requests q a b at (ap (numbered requests) (sym e) ∙ there) in
            record {
              one = new;
              is_there = ap (λ (n : ℕ). numbered (slice_set requests (q - 1) new) n) e ∙ numbered_set_here requests q new a at;
              node_is = ap (λ (o : ItemRequest). o.node) same;
              order_is = ap (λ (o : ItemRequest). o.order) same;
              before_is = ap (λ (o : ItemRequest). o.before) same;
              stage = subst (λ (o : ItemRequest). IsAfter o.stage stage) same after;
            }
        | inr still ↦ record { one = b; is_there = still; node_is = refl; order_is = refl; before_is = refl; stage = same_after b.stage }
      ];
    }
