-- Laws that impls cite; no definition stands here.
-- Joins through another type, and joins by an order.
use Rattle.std.specs.Prelude.{◌≡◌, refl}
use Rattle.std.proofs.Common.{ap, sym, ◌∙◌, subst}
use Rattle.crdt_core.specs.Laws.{JoinLaws, through}
use Rattle.std.specs.declared.cmp.Ordering.{Ordering}
use Rattle.std.specs.declared.cmp.Ordering.TheVariants.{Less, Equal, Greater}
use Rattle.std.specs.Cmp.{IsTotalOrder, alike_right, tied_itself}
use Rattle.std.specs.Ordering.{ordering_reverse}
use Rattle.crdt_core.specs.Orders.{Identifies}
use Rattle.crdt_core.specs.Lex.{by_order, lex_join, larger}

module _ {S T : Type 0} (to : S → T) (from : T → S) (there : (t : T) → to (from t) ≡ t) (back : (s : S) → from (to s) ≡ s) {j : T → T → T} (laws : JoinLaws j) where
  pub through_laws : JoinLaws (through to from j)
  through_laws = record {
    commutative = λ a b. ap from (laws.commutative (to a) (to b));
    associative = λ a b c. ap from (ap (λ t. j t (to c)) (there (j (to a) (to b))) ∙ laws.associative (to a) (to b) (to c) ∙ ap (j (to a)) (sym (there (j (to b) (to c)))));
    idempotent = λ a. ap from (laws.idempotent (to a)) ∙ back a;
  }

module _ {K : Type 0} {R : K → K → Ordering} (o : IsTotalOrder R) where
  pub turned : (x y : K) (r : Ordering) → R x y ≡ r → R y x ≡ ordering_reverse r
  turned x y r e = o.antisymm y x ∙ ap ordering_reverse e

  pub greater_trans : (x y z : K) → R x y ≡ Greater → R y z ≡ Greater → R x z ≡ Greater
  greater_trans x y z p q = turned z x Less (o.trans z y x (turned y z Greater q) (turned x y Greater p))

  module _ (same : Identifies R) {V : Type 0} {j : V → V → V} (laws : JoinLaws j) where
    comm_by : (a b : K × V) (r : Ordering) → R a.0 b.0 ≡ r → lex_join R j a b ≡ lex_join R j b a
    comm_by a b Less p = rw (p, turned a.0 b.0 Less p) refl
    comm_by a b Equal p = rw (p, turned a.0 b.0 Equal p) (λ i. (same a.0 b.0 p i, laws.commutative a.1 b.1 i))
    comm_by a b Greater p = rw (p, turned a.0 b.0 Greater p) refl

    assoc_by : (a b c : K × V) (r s : Ordering) → R a.0 b.0 ≡ r → R b.0 c.0 ≡ s → lex_join R j (lex_join R j a b) c ≡ lex_join R j a (lex_join R j b c)
    assoc_by a b c Less Less p q = rw (p, q, o.trans a.0 b.0 c.0 p q) refl
    assoc_by a b c Less Equal p q = rw (p, q, p) refl
    assoc_by a b c Less Greater p q = rw (p, q, p) refl
    assoc_by a b c Equal Less p q = rw (p, q, o.congr a.0 b.0 c.0 p ∙ q) refl
    assoc_by a b c Equal Equal p q = rw (p, q, o.congr a.0 b.0 c.0 p ∙ q, p) (λ i. (a.0, laws.associative a.1 b.1 c.1 i))
    assoc_by a b c Equal Greater p q = rw (p, q, o.congr a.0 b.0 c.0 p ∙ q, p) refl
    assoc_by a b c Greater Less p q = rw (p, q) refl
    assoc_by a b c Greater Equal p q = rw (p, q, p, sym (alike_right o b.0 c.0 a.0 q) ∙ p) refl
    assoc_by a b c Greater Greater p q = rw (p, q, p, greater_trans a.0 b.0 c.0 p q) refl

    pub lex_laws : JoinLaws (lex_join R j)
    lex_laws = record {
      commutative = λ a b. comm_by a b (R a.0 b.0) refl;
      associative = λ a b c. assoc_by a b c (R a.0 b.0) (R b.0 c.0) refl refl;
      idempotent = λ a. rw (tied_itself o a.0) (λ i. (a.0, laws.idempotent a.1 i));
    }

  unit_laws : JoinLaws (λ (a b : Unit {0}). a)
  unit_laws = record {
    commutative = λ a b. refl;
    associative = λ a b c. refl;
    idempotent = λ a. refl;
  }

  alone : (r : Ordering) (a b : K) → (by_order {X = K × Unit {0}} r (b, tt) (a, tt) (a, tt)).0 ≡ by_order r b a a
  alone Less a b = refl
  alone Equal a b = refl
  alone Greater a b = refl

  pub larger_laws : Identifies R → JoinLaws (larger R)
  larger_laws same = subst JoinLaws (λ i a b. alone (R a b) a b i) (through_laws (λ x. (x, tt)) (λ p. p.0) (λ t. refl) (λ s. refl) (lex_laws same unit_laws))
