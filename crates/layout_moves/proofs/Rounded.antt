-- Prices that are rounded to whole moves: sets that were cheap within 1 are cheap.
use Rattle.std.proofs.Common.{◌≡◌, ℕ, zero, suc, ◌+◌, ◌-◌, ◌/◌, ◌%◌, ◌<◌, ◌≤◌, Bool, true, false, cond, ◌&&◌, ◌==◌, nat_lt, nat_eq, IsTrue, List, [], ◌∷◌, map, length, get_or, ap, inl, inr, arith, ltb-true, ltb-false, eqb-true}
use Rattle.std.specs.List.{sum_by, count_by, list_all, range_with_len}
use Rattle.std.proofs.lemmas.Bool.{cases_Bool, eq-eqb, eqb-false}
use Rattle.std.proofs.lemmas.List.{get_or-map}
use Rattle.std.proofs.lemmas.List.FromFn.{length-range_with_len}
use Rattle.std.proofs.lemmas.List.Sums.{sum_by-cons, AllPass-from_list_all}
use Rattle.std.proofs.lemmas.List.Elements.{All-filter}
use Rattle.layout_roles.specs.declared.role.Role.{Role}
use Rattle.layout_roles.specs.Zones.{is_numbered, is_storage, storage_nodes, zones}
use Rattle.layout_roles.specs.Fits.{NodeSet, has_node, is_storage_node, set_at}
use Rattle.layout_flow.proofs.Sums.{yes, no, sum_by-swap, sum_by-below, sum_by-constant}
use Rattle.layout_flow.proofs.Zones.{count-cons}
use Rattle.layout_flow.proofs.Printed.{all_parts}
use Rattle.layout_moves.specs.Prices.{IsBase, IsCheap, asked, dearest}
use Rattle.layout_moves.specs.Auction.{IsPriced}
use Rattle.layout_flow.proofs.Few.{numbered_below}
use Rattle.layout_moves.proofs.Steps.{found, taker_stored}
use Rattle.layout_moves.proofs.Certificate.{Settled}

-- ---- a shift that no price hits

hit_step : (k : ℕ) → cond {A = ℕ} (nat_eq (k % 66) 0) 1 0 + (k + 65) / 66 ≡ (k + 66) / 66
hit_step k =
    elim (cases_Bool (nat_eq (k % 66) 0)) [
      | inl t ↦ let e = eqb-true (k % 66) 0 t in omega (arith, yes (nat_eq (k % 66) 0) 1 t)
      | inr f ↦ let ne = eqb-false (k % 66) 0 f in omega (arith, no (nat_eq (k % 66) 0) 1 f)
    ]

hits : (x a n : ℕ) → sum_by (λ t. cond (nat_eq ((x + t) % 66) 0) 1 0) (range_with_len a n) + (x + a + 65) / 66 ≡ (x + a + n + 65) / 66
hits x a zero = let e : x + a + 0 + 65 ≡ x + a + 65 = omega arith in let f = ap (λ m. m / 66) e in omega arith
hits x a (suc n) =
    let c = sum_by-cons (λ t. cond (nat_eq ((x + t) % 66) 0) 1 0) a (range_with_len (a + 1) n) in
    let ih = hits x (a + 1) n in
    let s = hit_step (x + a) in
    let e : x + (a + 1) + 65 ≡ x + a + 66 = omega arith in
    let f : x + (a + 1) + n + 65 ≡ x + a + suc n + 65 = omega arith in
    let g = ap (λ m. m / 66) e in
    let h = ap (λ m. m / 66) f in
    omega arith

hit_once : (x : ℕ) → sum_by (λ t. cond (nat_eq ((x + t) % 66) 0) 1 0) (range_with_len 0 66) ≤ 1
hit_once x =
    let h = hits x 0 66 in
    let e : x + 0 + 66 + 65 ≡ (x + 0 + 65) + 66 = omega arith in
    let g = ap (λ m. m / 66) e in
    omega arith

hit_some : (t : ℕ) (xs : List ℕ) → list_all (λ x. nat_lt 0 ((x + t) % 66)) xs ≡ false → 1 ≤ count_by (λ x. nat_eq ((x + t) % 66) 0) xs
hit_some t [] h = cc
hit_some t (x ∷ xs) h =
    let c = count-cons (λ x. nat_eq ((x + t) % 66) 0) x xs in
    elim (cases_Bool (nat_lt 0 ((x + t) % 66))) [
      | inl above ↦ let ih = hit_some t xs (later (nat_lt 0 ((x + t) % 66)) (list_all (λ x. nat_lt 0 ((x + t) % 66)) xs) above h) in omega arith
      | inr none ↦
          let le = ltb-false 0 ((x + t) % 66) none in
          let z : (x + t) % 66 ≡ 0 = omega arith in
          omega (arith, yes (nat_eq ((x + t) % 66) 0) 1 (eq-eqb ((x + t) % 66) 0 z))
    ]
  where
    later : (a b : Bool) → a ≡ true → (a && b) ≡ false → b ≡ false
    later true b e h = h
    later false b e h = cc

pub some_clear : (xs : List ℕ) → length xs < 66 → ((t : ℕ) → t < 66 → list_all (λ x. nat_lt 0 ((x + t) % 66)) xs ≡ false) → ⊥
some_clear xs few none =
    let f : ℕ → ℕ → ℕ = λ t x. cond (nat_eq ((x + t) % 66) 0) 1 0 in
    let ts = range_with_len 0 66 in
    let a = sum_by-below (λ t. 1) (λ t. sum_by (f t) xs) ts (all_parts 66 (λ t. 1 ≤ sum_by (f t) xs) (λ t less. hit_some t xs (none t less))) in
    let b = sum_by-constant 1 ts in
    let len = length-range_with_len 0 66 in
    let c = sum_by-swap f ts xs in
    let d = sum_by-below (λ x. sum_by (λ t. f t x) ts) (λ x. 1) xs (λ k d h. hit_once (get_or xs k d)) in
    let e = sum_by-constant 1 xs in
    absurd (omega arith)

-- ---- rounding

round_step : (p q s : ℕ) (a b : Bool) → 0 < (p + s) % 66 → p + cond a 0 66 ≤ q + cond b 0 66 + 1 → (p + s) / 66 + cond a 0 1 ≤ (q + s) / 66 + cond b 0 1 + 0
round_step p q s true true some h = omega arith
round_step p q s true false some h = omega arith
round_step p q s false true some h = omega arith
round_step p q s false false some h = omega arith

abbrev pub rounded : List ℕ → ℕ → List ℕ
rounded prices shift = map (λ price. (price + shift) / 66) prices

round_at : (prices : List ℕ) (shift n : ℕ) → n < length prices → get_or (rounded prices shift) n 0 ≡ (get_or prices n 0 + shift) / 66
round_at prices shift n less = get_or-map (λ price. (price + shift) / 66) prices n 0 0 less

stored_small : (roles : List Role) (node : ℕ) → IsTrue (list_all is_numbered roles) → IsTrue (is_storage_node roles node) → node ≤ 64
stored_small roles node numbered t =
    let f = found (λ role. role.node == node) (storage_nodes roles) t in
    let all = All-filter is_storage (λ role. role.node ≤ 64) roles (numbered_below roles numbered) in
    let small = all f.at f.item f.inside in
    let same = ap (λ (r : Role). r.node) (f.is f.item) in
    let e = eqb-true f.item.node node f.passes in
    omega arith

round_cheap : (roles : List Role) (each : ℕ) (old : NodeSet) (set : NodeSet) (prices : List ℕ) (shift : ℕ) → IsTrue (list_all is_numbered roles) → length prices ≡ 65 → IsBase roles each set →
    IsTrue (list_all (λ price. nat_lt 0 ((price + shift) % 66)) prices) → IsCheap 1 each (zones roles) (asked 66 old prices) set → IsCheap 0 each (zones roles) (asked 1 old (rounded prices shift)) set
round_cheap roles each old set prices shift numbered rows base clear cheap k d h node t =
    let out = get_or set k d in
    let o = stored_small roles out numbered (base.three.stored k d h) in
    let n = stored_small roles node numbered (taker_stored roles each set out node t) in
    let some = ltb-true 0 ((get_or prices out 0 + shift) % 66) (AllPass-from_list_all (λ price. nat_lt 0 ((price + shift) % 66)) prices clear out 0 (omega arith)) in
    let step = round_step (get_or prices out 0) (get_or prices node 0) shift (has_node out old) (has_node node old) some (cheap k d h node t) in
    let e = round_at prices shift out (omega arith) in
    let f = round_at prices shift node (omega arith) in
    omega arith

pub settled_from : (roles : List Role) (r size : ℕ) (old sets : List NodeSet) (prices : List ℕ) (shift top : ℕ) → IsTrue (list_all is_numbered roles) → IsPriced roles r size old sets prices → shift < 66 →
    IsTrue (list_all (λ price. nat_lt 0 ((price + shift) % 66)) prices) → ((p : ℕ) → p < 256 → dearest (asked 1 (set_at old p) (rounded prices shift)) (set_at sets p) ≤ top) →
    Settled 256 roles r size old sets (rounded prices shift) top
settled_from roles r size old sets prices shift top numbered priced small clear topped = record {
  whole = priced.whole;
  bases = priced.bases;
  cheap = λ p less. round_cheap roles (4 - r) (set_at old p) (set_at sets p) prices shift numbered priced.rows (priced.bases p [] (let w = priced.whole in omega arith)) clear (priced.cheap p less);
  covered = λ k d h some.
      let role = get_or (storage_nodes roles) k d in
      let low = All-filter is_storage (λ role. role.node ≤ 64) roles (numbered_below roles numbered) k d h in
      let w = priced.rows in
      let e = round_at prices shift role.node (omega arith) in
      priced.covered k d h (omega arith);
  topped = topped;
}
