-- The cheapest offers and bids, as a search goes on.
use Rattle.std.proofs.Common.{◌≡◌, ℕ, ◌+◌, ◌<◌, ◌≤◌, Bool, true, false, not, ◌&&◌, ◌||◌, ◌==◌, nat_eq, IsTrue, List, [], length, get_or, take, refl, sym, ap, ◌∙◌, subst, ◌⊎◌, inl, inr, arith, eqb-true}
use Rattle.std.specs.Prelude.{Option, Some, None, IfSome}
use Rattle.std.specs.List.{All, list_any}
use Rattle.std.proofs.lemmas.Bool.{cases_Bool, cases_lt, eq-eqb, eqb-false, ne_eqb}
use Rattle.std.proofs.lemmas.List.Folds.{list_any_more}
use Rattle.layout_roles.specs.declared.role.Role.{Role}
use Rattle.layout_roles.specs.Fits.{NodeSet, has_node, set_at}
use Rattle.layout_moves.specs.Prices.{may_take, is_open, lies, asked, IsCheap}
use Rattle.layout_moves.specs.Offers.{AtMost, IsCheapest, Needs, RisesAtMost, IsLeastBid}
use Rattle.layout_moves.specs.declared.offers.Offer.{Offer}
use Rattle.layout_moves.specs.declared.bids.Bid.{Bid}
use Rattle.layout_moves.proofs.Steps.{found}

-- no copy of some nodes of the set could move to a node that asks less by more than 1
abbrev pub CheapSoFar : ℕ → List (List Role) → (ℕ → ℕ) → NodeSet → List ℕ → Type 0
CheapSoFar each zs asks set outs = All (λ out. (node : ℕ) → IsTrue (may_take each set out zs node) → asks out ≤ asks node + 1) outs

-- ---- offers

pub recast : (test other : ℕ → Bool) (asks : ℕ → ℕ) (best : Option Offer) → ((n : ℕ) → other n ≡ test n) → IsCheapest test asks best → IsCheapest other asks best
recast test other asks None same c = record { least = λ n h. c.least n (sym (same n) ∙ h); made = tt }
recast test other asks (Some offer) same c = record { least = λ n h. c.least n (sym (same n) ∙ h); made = (same offer.node ∙ c.made.0, c.made.1) }

equal_either : (a b : ℕ) → (a == b) ≡ nat_eq b a
equal_either a b = elim (cases_Bool (a == b)) [
  | inl t ↦ t ∙ sym (eq-eqb b a (sym (eqb-true a b t)))
  | inr f ↦ f ∙ sym (ne_eqb b a (λ e. eqb-false a b f (sym e)))
]

-- a role whose node the set has, and one whose node it hasn't
pub role_had : (test : ℕ → Bool) (set : NodeSet) (node : ℕ) → has_node node set ≡ true → (n : ℕ) → (test n || ((node == n) && not (has_node n set))) ≡ test n
role_had test set node had n =
    elim (cases_Bool (node == n)) [
      | inl t ↦ there (test n) (node == n) (has_node n set) (ap (λ m. has_node m set) (sym (eqb-true node n t)) ∙ had)
      | inr f ↦ apart (test n) (node == n) (has_node n set) f
    ]
  where
    there : (a b s : Bool) → s ≡ true → (a || (b && not s)) ≡ a
    there true b true e = refl
    there false true true e = refl
    there false false true e = refl
    there a b false e = cc

    apart : (a b s : Bool) → b ≡ false → (a || (b && not s)) ≡ a
    apart true false s e = refl
    apart false false s e = refl
    apart a true s e = cc

pub role_lacked : (test : ℕ → Bool) (set : NodeSet) (node : ℕ) → has_node node set ≡ false → (n : ℕ) → (test n || ((node == n) && not (has_node n set))) ≡ (test n || nat_eq n node)
role_lacked test set node lacked n =
    elim (cases_Bool (node == n)) [
      | inl t ↦ there (test n) (node == n) (nat_eq n node) (has_node n set) t (sym (equal_either node n) ∙ t) (ap (λ m. has_node m set) (sym (eqb-true node n t)) ∙ lacked)
      | inr f ↦ apart (test n) (node == n) (nat_eq n node) (has_node n set) f (sym (equal_either node n) ∙ f)
    ]
  where
    there : (a b c s : Bool) → b ≡ true → c ≡ true → s ≡ false → (a || (b && not s)) ≡ (a || c)
    there a true true false e f g = refl
    there a false c s e f g = cc
    there a b false s e f g = cc
    there a b c true e f g = cc

    apart : (a b c s : Bool) → b ≡ false → c ≡ false → (a || (b && not s)) ≡ (a || c)
    apart a false false s e f = refl
    apart a true c s e f = cc
    apart a b true s e f = cc

-- one more role of a zone
pub role_more : (test : ℕ → Bool) (set : NodeSet) (zone : List Role) (i : ℕ) (role : Role) → i < length zone → role ≡ get_or zone i role → (n : ℕ) →
    (test n || (lies (take (i + 1) zone) n && not (has_node n set))) ≡ ((test n || (lies (take i zone) n && not (has_node n set))) || ((role.node == n) && not (has_node n set)))
role_more test set zone i role h e n =
    ap (λ b. test n || (b && not (has_node n set))) (list_any_more (λ role. role.node == n) zone i role h ∙ ap (λ (r : Role). lies (take i zone) n || (r.node == n)) (sym e))
    ∙ by (test n) (lies (take i zone) n) (role.node == n) (not (has_node n set))
  where
    by : (a l b s : Bool) → (a || ((l || b) && s)) ≡ ((a || (l && s)) || (b && s))
    by true l b s = refl
    by false true true true = refl
    by false true true false = refl
    by false true false true = refl
    by false true false false = refl
    by false false b s = refl

-- a zone that is open, one that is shut, and one more zone
pub zone_opened : (test : ℕ → Bool) (set : NodeSet) (zone : List Role) (opened : Bool) → opened ≡ true → (n : ℕ) →
    (test n || ((opened && lies zone n) && not (has_node n set))) ≡ (test n || (lies zone n && not (has_node n set)))
zone_opened test set zone opened e n = ap (λ b. test n || ((b && lies zone n) && not (has_node n set))) e

pub zone_shut : (test : ℕ → Bool) (set : NodeSet) (zone : List Role) (opened : Bool) → opened ≡ false → (n : ℕ) → (test n || ((opened && lies zone n) && not (has_node n set))) ≡ test n
zone_shut test set zone opened e n = ap (λ b. test n || ((b && lies zone n) && not (has_node n set))) e ∙ by (test n)
  where
    by : (a : Bool) → (a || false) ≡ a
    by true = refl
    by false = refl

pub no_roles : (test : ℕ → Bool) (set : NodeSet) (n : ℕ) → (test n || (lies [] n && not (has_node n set))) ≡ test n
no_roles test set n = by (test n)
  where
    by : (a : Bool) → (a || false) ≡ a
    by true = refl
    by false = refl

pub zone_more : (each : ℕ) (set : NodeSet) (out : ℕ) (zs : List (List Role)) (i : ℕ) (zone : List Role) → i < length zs → zone ≡ get_or zs i zone → (n : ℕ) →
    may_take each set out (take (i + 1) zs) n ≡ (may_take each set out (take i zs) n || ((is_open each set out zone && lies zone n) && not (has_node n set)))
zone_more each set out zs i zone h e n =
    let test : List Role → Bool = λ z. is_open each set out z && lies z n in
    ap (λ b. b && not (has_node n set)) (list_any_more test zs i zone h ∙ ap (λ (z : List Role). list_any test (take i zs) || test z) (sym e))
    ∙ by (list_any test (take i zs)) (test zone) (not (has_node n set))
  where
    by : (a b s : Bool) → ((a || b) && s) ≡ ((a && s) || (b && s))
    by true b true = refl
    by true true false = refl
    by true false false = refl
    by false b s = refl

-- no zone yet
pub none_yet : (each : ℕ) (set : NodeSet) (out : ℕ) (asks : ℕ → ℕ) → IsCheapest (may_take each set out []) asks None
none_yet each set out asks = record { least = λ n t. never t; made = tt }
  where
    never : false ≡ true → ⊥
    never e = cc

-- what the best offer says of the move of a copy
pub least_at : (test : ℕ → Bool) (asks : ℕ → ℕ) (best : Option Offer) (offer : Offer) → best ≡ Some offer → IsCheapest test asks best → (node : ℕ) → IsTrue (test node) → offer.price ≤ asks node
least_at test asks best offer e c node t = subst (λ b. AtMost b (asks node)) e (c.least node t)

pub made_at : (test : ℕ → Bool) (asks : ℕ → ℕ) (best : Option Offer) (offer : Offer) → best ≡ Some offer → IsCheapest test asks best → IsTrue (test offer.node) × (offer.price ≡ asks offer.node)
made_at test asks best offer e c = subst (λ b. IfSome b (λ offer. IsTrue (test offer.node) × (offer.price ≡ asks offer.node))) e c.made

pub none_at : (test : ℕ → Bool) (asks : ℕ → ℕ) (best : Option Offer) → best ≡ None → IsCheapest test asks best → (node : ℕ) → IsTrue (test node) → ⊥
none_at test asks best e c node t = subst (λ b. AtMost b (asks node)) e (c.least node t)

-- ---- bids

weaker : (fee : ℕ) (zs : List (List Role)) (each : ℕ) (old sets : List NodeSet) (prices : List ℕ) (out i : ℕ) (best : Option Bid) →
    IfSome best (λ bid. (bid.partition < i) × Needs fee zs each old sets prices out bid.partition bid.node bid.rise) → IfSome best (λ bid. (bid.partition < i + 1) × Needs fee zs each old sets prices out bid.partition bid.node bid.rise)
weaker fee zs each old sets prices out i None made = tt
weaker fee zs each old sets prices out i (Some bid) made = (let l = made.0 in omega arith, made.1)

bid_next : (fee : ℕ) (zs : List (List Role)) (each : ℕ) (old sets : List NodeSet) (prices : List ℕ) (out i : ℕ) (best after : Option Bid) → IsLeastBid fee zs each old sets prices out i best →
    ((low high : ℕ) → RisesAtMost best low high → RisesAtMost after low high) →
    IfSome after (λ bid. (bid.partition < i + 1) × Needs fee zs each old sets prices out bid.partition bid.node bid.rise) →
    (IsTrue (has_node out (set_at sets i)) → (node : ℕ) → IsTrue (may_take each (set_at sets i) out zs node) → RisesAtMost after (asked fee (set_at old i) prices out) (asked fee (set_at old i) prices node)) →
    IsLeastBid fee zs each old sets prices out (i + 1) after
bid_next fee zs each old sets prices out i best after is kept made last = record {
  least = λ p less has node t. elim (cases_lt p i) [
    | inl before ↦ kept (asked fee (set_at old p) prices out) (asked fee (set_at old p) prices node) (is.least p before has node t)
    | inr at ↦
        let e : i ≡ p = omega arith in
        subst (λ q. IsTrue (has_node out (set_at sets q)) → (node : ℕ) → IsTrue (may_take each (set_at sets q) out zs node) → RisesAtMost after (asked fee (set_at old q) prices out) (asked fee (set_at old q) prices node)) e last has node t
  ];
  made = made;
}

pub bid_made : (fee : ℕ) (zs : List (List Role)) (each : ℕ) (old sets : List NodeSet) (prices : List ℕ) (out i : ℕ) (best after : Option Bid) (bid : Bid) → IsLeastBid fee zs each old sets prices out i best →
    ((low high : ℕ) → RisesAtMost best low high → RisesAtMost after low high) → ((low high : ℕ) → low + bid.rise ≤ high + 1 → RisesAtMost after low high) → (after ≡ best) ⊎ (after ≡ Some bid) →
    bid.partition ≡ i → Needs fee zs each old sets prices out i bid.node bid.rise →
    ((node : ℕ) → IsTrue (may_take each (set_at sets i) out zs node) → asked fee (set_at old i) prices bid.node ≤ asked fee (set_at old i) prices node) →
    IsLeastBid fee zs each old sets prices out (i + 1) after
bid_made fee zs each old sets prices out i best after bid is kept new one at needs least =
    let this : (bid.partition < i + 1) × Needs fee zs each old sets prices out bid.partition bid.node bid.rise =
    (omega arith, subst (λ q. Needs fee zs each old sets prices out q bid.node bid.rise) (sym at) needs) in
    let made : IfSome after (λ b. (b.partition < i + 1) × Needs fee zs each old sets prices out b.partition b.node b.rise) = elim one [
      | inl e ↦ subst (λ o. IfSome o (λ b. (b.partition < i + 1) × Needs fee zs each old sets prices out b.partition b.node b.rise)) (sym e) (weaker fee zs each old sets prices out i best is.made)
      | inr e ↦ subst (λ o. IfSome o (λ b. (b.partition < i + 1) × Needs fee zs each old sets prices out b.partition b.node b.rise)) (sym e) this
    ] in
    bid_next fee zs each old sets prices out i best after is kept made
    (λ has node t. new (asked fee (set_at old i) prices out) (asked fee (set_at old i) prices node) (let l = least node t in let e = needs.2 in omega arith))

-- a cheap set at one of its nodes
pub cheap_has : (each : ℕ) (zs : List (List Role)) (asks : ℕ → ℕ) (set : NodeSet) (out : ℕ) → IsCheap 1 each zs asks set → has_node out set ≡ true → (node : ℕ) → IsTrue (may_take each set out zs node) → asks out ≤ asks node + 1
cheap_has each zs asks set out cheap has node t =
    let f = found (nat_eq out) set has in
    let same : out ≡ get_or set f.at 0 = eqb-true out f.item f.passes ∙ sym (f.is 0) in
    let c = cheap f.at 0 f.inside node (subst (λ n. IsTrue (may_take each set n zs node)) same t) in
    let e = ap asks same in
    omega arith
