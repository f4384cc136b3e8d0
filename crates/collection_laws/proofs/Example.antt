-- The run of the example may happen.
use Rattle.std.specs.Prelude.{◌≡◌, ◌≢◌, ◌≤◌, ◌<◌, ℕ, max, true, false, not, nat_lt, Option, Some, [], ◌∷◌, refl}
use Rattle.std.specs.List.{Contains}
use Rattle.std.proofs.Common.{ap, sym, inl, inr, arith, lit<, lit≤}
use Rattle.std.proofs.lemmas.Bool.{ltb-false, ltb-true}
use Rattle.crdt_core.specs.Members.{Has}
use Rattle.plane_model.specs.Control.{ControlLaws, IsAlways, Later, led_to}
use Rattle.plane_laws.proofs.Sets.{contains_here, contains_there}
use Rattle.collection_model.specs.Marks.{MarkLaws}
use Rattle.collection_model.specs.Site.{SiteLaws}
use Rattle.collection_model.specs.Action.{IsGiven, IsRun, after}
use Rattle.collection_laws.specs.Example.{one_layout, markers, two_nodes, collecting}

differ : {X : Type 0} → false ≡ true → X
differ e = absurd cc

-- ---- the laws of the site

always : (c : ℕ) → IsAlways one_layout c
always c = record {
  three = λ i p. lit≤ tt;
  stored = λ n. lit≤ tt;
  greatest = record { version = 1; above = λ n. lit≤ tt; reached = inl (lit≤ tt) };
  began = λ i e. differ e;
  flight = λ n s e. differ e;
  round = λ n s e. differ e;
}

later : (c d : ℕ) → Later one_layout c d
later c d = record {
  oldest = λ n. lit≤ tt;
  newest = λ n. lit≤ tt;
  sets = λ n i p h. refl;
  began = λ i e. differ e;
  rises = λ i two is below. (let low : 2 ≤ i = two in let read : i ≤ 1 = is.1 in absurd (omega arith));
}

control_laws : ControlLaws one_layout
control_laws = record { none_completed = λ n s e. differ e; always = λ steps. always (led_to one_layout one_layout.start steps); later = λ steps e. later _ _ }

less : (a b : ℕ) → nat_lt a b ≡ true → a < b
less a b e = ltb-true a b e

least : (a b : ℕ) → not (nat_lt a b) ≡ true → b ≤ a
least a b e = elim (nat_lt a b) as (λ x. nat_lt a b ≡ x → not x ≡ true → b ≤ a) [ true ↦ λ f g. differ g | false ↦ λ f g. ltb-false a b f ] refl e

is_less : (a b : ℕ) → a < b → nat_lt a b ≡ true
is_less a b h = elim (nat_lt a b) as (λ x. nat_lt a b ≡ x → x ≡ true) [ true ↦ λ f. refl | false ↦ λ f. (let k : b ≤ a = ltb-false a b f in absurd (omega arith)) ] refl

is_least : (a b : ℕ) → b ≤ a → not (nat_lt a b) ≡ true
is_least a b h = elim (nat_lt a b) as (λ x. nat_lt a b ≡ x → not x ≡ true) [ true ↦ λ f. (let k : a < b = less a b f in absurd (omega arith)) | false ↦ λ f. refl ] refl

same : (a u : ℕ) → Some a ≡ Some u → a ≡ u
same a u e = ap (λ (o : Option ℕ). Rattle.std.specs.Option.unwrap_or o a) e

mark_laws : MarkLaws markers
mark_laws = record {
  joined_below = λ a b v h. inl (is_less a v (let k : max a b < v = less (max a b) v h in omega arith));
  tops_left = λ a b v h. is_least (max a b) v (let k : v ≤ a = least a v h in omega arith);
  tops_right = λ a b v h. is_least (max a b) v (let k : v ≤ b = least b v h in omega arith);
  topped = λ a v h. topped a v h;
  marked = λ a v e. is_least a v (let k : a ≡ v = same a v e in omega arith);
  marked_time = λ a u v e h. (let k : a ≡ u = same a u e in let l : v ≤ a = least a v h in omega arith);
  marked_below = λ a b u v e h i. is_less b u (let k : a ≡ u = same a u e in let l : v ≤ a = least a v h in let m : b < v = less b v i in omega arith);
}
  where
    topped : (a v : ℕ) → not (nat_lt a v) ≡ true → nat_lt a v ≡ false
    topped a v h = elim (nat_lt a v) as (λ x. not x ≡ true → x ≡ false) [ true ↦ λ g. differ g | false ↦ λ g. refl ] h

pub site_laws : SiteLaws two_nodes
site_laws = record { control = control_laws; marks = mark_laws; times = record { pause = lit< tt; age = lit< tt } }

-- ---- the run

given : (c n : ℕ) → Contains {X = ℕ} (1 ∷ 2 ∷ []) n → IsGiven two_nodes c n
given c n is = record { version = 1; stores = record { from_oldest = lit≤ tt; to_newest = lit≤ tt }; given = is }

first_given : Contains {X = ℕ} (1 ∷ 2 ∷ []) 1
first_given = contains_here 1 (2 ∷ [])

second_given : Contains {X = ℕ} (1 ∷ 2 ∷ []) 2
second_given = contains_there 1 (2 ∷ []) 2 (contains_here 2 [])

apart : (n m : ℕ) → n ≡ 2 → m ≡ 1 → n ≢ m
apart n m two one e = absurd (omega arith)

pub happens : IsRun two_nodes collecting
happens = (
  λ v e. (let z : 0 ≤ v = omega arith in omega arith),
  (
    record { sent = inr (inl refl); live = lit≤ tt; given = given 0 1 first_given; asked = inl refl },
    (
      tt,
      (
        record { has = refl; marked = refl; aged = lit≤ tt },
        (
          refl,
          (
            record { sent = inl (inl refl); live = lit≤ tt; given = given 0 2 second_given; asked = inr (inl refl) },
            (
              record { began = inl refl; shuts = inr (0, (refl, refl)) },
              (
                record {
                  began = inl refl;
                  each = λ n is. elim is [
                    | inl one ↦ (1, inl (λ i. record { node = one i; newest = 1 }))
                    | inr more ↦ elim more [ inl two ↦ (1, inr (inl (λ i. record { node = two i; newest = 1 }))) | inr none ↦ absurd none ]
                  ];
                  witnesses = λ u is. elim is [
                    | inl one ↦ inl (ap (λ (u : Rattle.collection_model.specs.World.Witness). u.node) (sym one), ap (λ (u : Rattle.collection_model.specs.World.Witness). u.newest) (sym one))
                    | inr more ↦ elim more [
                      | inl two ↦ inr (
                        apart _ 1 (ap (λ (u : Rattle.collection_model.specs.World.Witness). u.node) (sym two)) refl,
                        inl (λ i. record { begun = Rattle.collection_laws.specs.Example.collection; node = (two i).node; newest = (two i).newest }),
                      )
                      | inr none ↦ absurd none
                    ]
                  ];
                  behind = lit≤ tt;
                  ahead = lit≤ tt;
                },
                (
                  tt,
                  (
                    record { is_ready = inl refl; paused = lit≤ tt; same = refl },
                    (
                      inl refl,
                      (
                        record {
                          began = inl refl;
                          all = λ u is. elim is [
                            | inl one ↦ inl (ap (λ (u : Rattle.collection_model.specs.World.Witness). u.node) (sym one))
                            | inr more ↦ elim more [
                              | inl two ↦ inr (inl (λ i. record { second = Rattle.collection_laws.specs.Example.round_two; node = (two i).node; newest = (two i).newest }))
                              | inr none ↦ absurd none
                            ]
                          ];
                        },
                        (
                          (refl, inl refl),
                          tt,
                        ),
                      ),
                    ),
                  ),
                ),
              ),
            ),
          ),
        ),
      ),
    ),
  ),
)

pub collects : Has (after two_nodes collecting).dropped 0
collects = inl refl
