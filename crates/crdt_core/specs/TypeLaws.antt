-- Laws that impls cite; no definition stands here.
-- The join of each type has the laws of a join.
use Rattle.std.specs.Prelude.{◌≡◌, Bool as Test, true, false, ◌||◌, refl}
use Rattle.std.proofs.Common.{ap}
use Rattle.crdt_core.specs.Laws.{JoinLaws}
use Rattle.crdt_core.specs.Flag.{flag, or_join}
use Rattle.crdt_core.specs.declared.deletable.Deletable.{Deletable}
use Rattle.crdt_core.specs.declared.deletable.Deletable.TheVariants.{Present, Deleted}
use Rattle.crdt_core.specs.Deletable.{deletable_join}
use Rattle.std.specs.declared.cmp.Ordering.{Ordering}
use Rattle.std.specs.Cmp.{IsTotalOrder, nat_cmp_total}
use Rattle.crdt_core.specs.Orders.{Identifies}
use Rattle.crdt_core.specs.LexLaws.{through_laws, larger_laws, lex_laws}
use Rattle.crdt_core.specs.Max.{max_join}
use Rattle.crdt_core.specs.IdentityLaws.{nat_identical}
use Rattle.crdt_core.specs.Lww.{lww_join}
use Rattle.crdt_core.specs.Keyed.{keyed_join}
use Rattle.crdt_core.specs.Pair.{pair_join}

or_comm : (a b : Test) → (a || b) ≡ (b || a)
or_comm true true = refl
or_comm true false = refl
or_comm false true = refl
or_comm false false = refl

or_assoc : (a b c : Test) → ((a || b) || c) ≡ (a || (b || c))
or_assoc true b c = refl
or_assoc false b c = refl

or_same : (a : Test) → (a || a) ≡ a
or_same true = refl
or_same false = refl

pub or_laws : JoinLaws or_join
or_laws = record {
  commutative = λ a b. ap flag (or_comm a.0 b.0);
  associative = λ a b c. ap flag (or_assoc a.0 b.0 c.0);
  idempotent = λ a. ap flag (or_same a.0);
}

module _ {V : Type 0} {j : V → V → V} (laws : JoinLaws j) where
  comm : (a b : Deletable V) → deletable_join j a b ≡ deletable_join j b a
  comm (Present a) (Present b) = ap Present (laws.commutative a b)
  comm (Present a) Deleted = refl
  comm Deleted (Present b) = refl
  comm Deleted Deleted = refl

  assoc : (a b c : Deletable V) → deletable_join j (deletable_join j a b) c ≡ deletable_join j a (deletable_join j b c)
  assoc (Present a) (Present b) (Present c) = ap Present (laws.associative a b c)
  assoc (Present a) (Present b) Deleted = refl
  assoc (Present a) Deleted c = refl
  assoc Deleted b c = refl

  idem : (a : Deletable V) → deletable_join j a a ≡ a
  idem (Present a) = ap Present (laws.idempotent a)
  idem Deleted = refl

  pub deletable_laws : JoinLaws (deletable_join j)
  deletable_laws = record { commutative = comm; associative = assoc; idempotent = idem }

pub max_laws : {T : Type 0} {R : T → T → Ordering} → IsTotalOrder R → Identifies R → JoinLaws (max_join R)
max_laws o same = through_laws (λ m. m.0) (λ x. record { 0 = x }) (λ t. refl) (λ s. refl) (larger_laws o same)

pub lww_laws : {V : Type 0} {j : V → V → V} → JoinLaws j → JoinLaws (lww_join j)
lww_laws laws = through_laws (λ a. (a.ts, a.v)) (λ p. record { ts = p.0; v = p.1 }) (λ t. refl) (λ s. refl) (lex_laws nat_cmp_total nat_identical laws)

pub keyed_laws : {K V : Type 0} {R : K → K → Ordering} {j : V → V → V} → IsTotalOrder R → Identifies R → JoinLaws j → JoinLaws (keyed_join R j)
keyed_laws o same laws = through_laws (λ a. (a.key, a.v)) (λ p. record { key = p.0; v = p.1 }) (λ t. refl) (λ s. refl) (lex_laws o same laws)

pub pair_laws : {A B : Type 0} {f : A → A → A} {g : B → B → B} → JoinLaws f → JoinLaws g → JoinLaws (pair_join f g)
pair_laws l m = record {
  commutative = λ a b i. record { a = l.commutative a.a b.a i; b = m.commutative a.b b.b i };
  associative = λ a b c i. record { a = l.associative a.a b.a c.a i; b = m.associative a.b b.b c.b i };
  idempotent = λ a i. record { a = l.idempotent a.a i; b = m.idempotent a.b i };
}
