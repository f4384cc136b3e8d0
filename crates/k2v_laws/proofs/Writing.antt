-- A write that still reads may be made on each good row of its item.
use Rattle.std.proofs.Common.{◌≡◌, inl, inr, ℕ, zero, suc, ◌≤◌, ◌<◌, true, false, List, [], ◌∷◌, Option, Some, None, length, refl, sym, ap, ◌∙◌, subst, arith}
use Rattle.std.specs.Prelude.{nat_le, nat_lt}
use Rattle.std.specs.List.{list_all}
use Rattle.std.specs.Ordering.{nat_cmp}
use Rattle.std.proofs.lemmas.Bool.{lt-ltb, leb-true, leb-false}
use Rattle.crdt_core.specs.Entries.{is_below, is_ascending, value_at}
use Rattle.crdt_core.specs.EntryLaws.{and_parts, and_both}
use Rattle.crdt_core.specs.Map.{map_entries, map_get}
use Rattle.cluster_machine.specs.Node.{read}
use Rattle.cluster_machine.specs.World.{numbered}
use Rattle.machine_origins.specs.Origins.{Gave}
use Rattle.k2v_rows.specs.declared.writes.Writes.{Writes}
use Rattle.k2v_rows.specs.declared.k2v_row.K2vRow.{K2vRow}
use Rattle.k2v_rows.specs.Token.{TimeMap, token_entries}
use Rattle.k2v_rows.specs.Writes.{greatest_time}
use Rattle.k2v_rows.specs.Row.{ItemKey, discard_at}
use Rattle.k2v_schema.specs.Schema.{words}
use Rattle.k2v_model.specs.Run.{ItemRequest, reading, shown, stage_token, token_at, State}
use Rattle.k2v_model.specs.Owed.{IsWrite, HasRead, WritesHavePlace}
use Rattle.k2v_laws.proofs.Every.{EveryWorld, reached_good}
use Rattle.k2v_laws.proofs.Good.{one_entry, HasWritten, IsGood}
use Rattle.k2v_laws.proofs.Later.{read_token}
use Rattle.k2v_laws.proofs.Sound.{IsGoodRow, IsTokenOf, IsGiven, IsStage, Passed, IsSound}
use Rattle.k2v_laws.proofs.Tokens.{first_found, found_later, token_is, greatest_in, greatest_of}

-- where each node's greatest time is before q, so are those of its token
times_before : (q : ℕ) (es : List (ℕ × Writes)) → is_ascending nat_cmp es ≡ true → ((k : ℕ) (w : Writes) → value_at nat_cmp k es ≡ Some w → greatest_time w < q) → list_all (λ seen. nat_lt seen.1.0 q) (token_entries es) ≡ true
times_before q [] s low = refl
times_before q (e ∷ es) s low =
    let rest = (and_parts (is_below nat_cmp e.0 es) (is_ascending nat_cmp es) s).1 in
    and_both _ _ (lt-ltb (greatest_time e.1) q (low e.0 e.1 (first_found e es))) (times_before q es rest (λ k w h. low k w (found_later e es k w s h)))

-- a request's number is 1 or more
some_number : (requests : List ItemRequest) (q : ℕ) (a : ItemRequest) → numbered requests q ≡ Some a → 1 ≤ q
some_number requests zero a e = cc
some_number requests (suc n) a e = omega arith

module _ {H : List ℕ → Type 0} (s : State) (sound : IsSound H s) (q : ℕ) (key : ItemKey) (n : ℕ) (w : IsWrite s.requests q key n) (is_reading : w.one.stage ≡ reading) where
  -- no later write of the item at this node has begun, and this one has not stored
  before_it : (d : ℕ) → HasWritten s.requests key n d → d < q
  before_it d h =
      elim (nat_le q d) as (λ c. nat_le q d ≡ c → d < q) [
        | true ↦ λ t. absurd (not_from d h (leb-true q d t))
        | false ↦ λ f. let lt = leb-false q d f in omega (arith, lt)
      ] refl where
        not_from : (d : ℕ) → HasWritten s.requests key n d → q ≤ d → ⊥
        not_from d h le =
            elim (nat_le d q) as (λ c. nat_le d q ≡ c → ⊥) [
              | true ↦ λ t.
                  let back = leb-true d q t in
                  let same_number : d ≡ q = omega (arith, le, back) in
                  let same : h.write.one ≡ w.one = one_entry s.requests q h.write.one w.one (ap (numbered s.requests) (sym same_number) ∙ h.write.is_there) w.is_there in
                  h.has_stored (ap (λ (a : ItemRequest). a.stage) same ∙ is_reading)
              | false ↦ λ f.
                  let lt = leb-false d q f in
                  subst (Passed h.write.one q) is_reading (sound.passed key n q d w h.write (omega (arith, lt)))
            ] refl

  discard_before : (row : K2vRow) → IsGood H s.requests key (length s.requests) row → discard_at row n < q
  discard_before row g = elim (g.discards n) [
    | inl none ↦ (let some = some_number s.requests q w.one w.is_there in omega (arith, none, some))
    | inr h ↦ before_it (discard_at row n) h.0
  ]

  row_times : (row : K2vRow) (begun : ℕ) → IsGood H s.requests key begun row → begun < q → (k : ℕ) (x : Writes) → map_get row.entries k ≡ Some x → greatest_time x < q
  row_times row begun g low k x at = subst (λ (o : Option Writes). greatest_in o < q) at (elim (greatest_of (map_get row.entries k)) [
    | inl is ↦ elim (g.discards k) [
      | inl none ↦ (let some = some_number s.requests q w.one w.is_there in omega (arith, is, none, some))
      | inr h ↦ (let under = h.1 in omega (arith, is, under, low))
    ]
    | inr h ↦ (let under = (g.values k (greatest_in (map_get row.entries k)) h.0 h.1).2 in omega (arith, under, low))
  ])

  abbrev AreBefore : TimeMap → Type 0
  AreBefore times = list_all (λ seen. nat_lt seen.1.0 q) (map_entries times) ≡ true

  token_before : AreBefore (token_at (numbered s.requests w.token))
  token_before = of_token (subst (λ k. IsTokenOf s.requests k q w.token) w.key_is ((sound.entries q w.one w.is_there).token w.value w.token w.writes)) where
    of_given : (given : Option K2vRow) (begun : ℕ) → HasRead s.requests w.token key given begun → begun < q → AreBefore (stage_token (shown given begun))
    of_given None begun r low = refl
    of_given (Some row) begun r low =
        let own : IsGiven H s.requests r.one (Some row) begun = subst (IsStage H s.requests s.world.kept w.token r.one) r.stage_is (sound.entries w.token r.one r.is_there).stage in
        let g : IsGood H s.requests key begun row = subst (λ k. IsGood H s.requests k begun row) r.key_is (own.good row refl) in
        subst (λ ts. list_all (λ seen. nat_lt seen.1.0 q) ts ≡ true) (sym (token_is row)) (times_before q (map_entries row.entries) row.entries.ascending (row_times row begun g low))

    of_token : IsTokenOf s.requests key q w.token → AreBefore (token_at (numbered s.requests w.token))
    of_token (inl none) = ap (λ k. list_all (λ seen. nat_lt seen.1.0 q) (map_entries (token_at (numbered s.requests k)))) none
    of_token (inr h) = subst AreBefore (sym (read_token s.requests key w.token h.0 h.1 h.2)) (of_given h.0 h.1 h.2 h.3)

pub writes_have_place : {H : List ℕ → Type 0} (every : EveryWorld) (s : State) → IsSound H s → WritesHavePlace s
writes_have_place {H = H} every s sound q key n w is_reading =
    let token : AreBefore s sound q key n w is_reading (token_at (numbered s.requests w.token)) = token_before s sound q key n w is_reading in (
      and_both _ _ (lt-ltb 0 q (some_number s.requests q w.one w.is_there)) token,
      λ question row there row_is.
          let g : Gave words (IsGoodRow H s.requests) (read question (Some row)) = reached_good every s.requests s.world sound.reached (read question (Some row)) there in
          let good : IsGood H s.requests key (length s.requests) row = subst (λ k. IsGood H s.requests k (length s.requests) row) (row_is ∙ w.key_is) g.0 in
          and_both _ _ (lt-ltb (discard_at row n) q (discard_before s sound q key n w is_reading row good)) token,
    )
