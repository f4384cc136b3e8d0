-- What tests decide, of which the checks of reads consist.
use Rattle.std.proofs.Common.{◌≡◌, ℕ, Bool, true, false, List, Option, Some, None, Ordering, refl, ap, sym, ◌∙◌}
use Rattle.std.specs.Bool.{Decides}
use Rattle.std.specs.List.{Contains, list_any, list_all}
use Rattle.std.specs.Ordering.{is_lt}
use Rattle.std.specs.declared.cmp.Ordering.TheVariants.{Less, Equal, Greater}
use Rattle.std.proofs.lemmas.Bool.Decides.{Decides-by_and, Decides-like, Decides-eqb, Decides-and}
use Rattle.std.proofs.lemmas.List.Elements.{All-contains, Contains-get_or}
use Rattle.std.proofs.lemmas.List.Folds.{Any-from_list_any, list_any-from_Any}
use Rattle.crdt_rows.specs.declared.version.Version.{Version}
use Rattle.history_model.specs.declared.record.Kind.{Kind}
use Rattle.history_model.specs.declared.record.Record.{Record}
use Rattle.history_model.specs.declared.record.Record.TheVariants.{Began, Finished, Ended}
use Rattle.history_model.specs.Record.{begins, is_some_with}
use Rattle.history_model.specs.Fresh.{Below}
use Rattle.world_history.specs.Checks.{is_none_or, is_below, same_version}

-- a test decides that it passes
pub Decides-itself : (b : Bool) → Decides b (b ≡ true)
Decides-itself b = (λ e. e, λ e. e)

-- what cannot fail passes
pub passes : {P : Type 0} (b : Bool) → Decides b P → ((P → ⊥) → ⊥) → P
passes {P} true d h = d.0 refl
passes {P} false d h = absurd (h (λ p. let e : false ≡ true = d.1 p in cc))

pub fails : {P : Type 0} (b : Bool) → Decides b P → (P → ⊥) → b ≡ false
fails {P} true d h = absurd (h (d.0 refl))
fails {P} false d h = refl

-- the record says that a request began of which P holds
pub record Begun (o : Option Record) (P : ℕ → Kind → List ℕ → List ℕ → Type 0) : Type 0 where
  pub request : ℕ
  pub node : ℕ
  pub kind : Kind
  pub bucket : List ℕ
  pub key : List ℕ
  pub is : o ≡ Some (Began request node kind bucket key)
  pub holds : P request kind bucket key

pub begins-Decides : (p : ℕ → Kind → List ℕ → List ℕ → Bool) (P : ℕ → Kind → List ℕ → List ℕ → Type 0) → ((q : ℕ) (kind : Kind) (bucket key : List ℕ) → Decides (p q kind bucket key) (P q kind bucket key)) → (o : Option Record) → Decides (begins p o) (Begun o P)
begins-Decides p P each o = (there o, λ b. ap (begins p) b.is ∙ (each b.request b.kind b.bucket b.key).1 b.holds)
  where
    there : (r : Option Record) → begins p r ≡ true → Begun r P
    there None e = let no : false ≡ true = e in cc
    there (Some (Began q node kind bucket key)) e = record { request = q; node = node; kind = kind; bucket = bucket; key = key; is = refl; holds = (each q kind bucket key).0 e }
    there (Some (Finished q answer)) e = let no : false ≡ true = e in cc
    there (Some (Ended q cause)) e = let no : false ≡ true = e in cc

pub is_none_or-Decides : {A : Type 0} (p : A → Bool) (P : A → Type 0) → ((a : A) → Decides (p a) (P a)) → (o : Option A) → Decides (is_none_or p o) ((a : A) → o ≡ Some a → P a)
is_none_or-Decides {A} p P each o = (there o, back o)
  where
    there : (r : Option A) → is_none_or p r ≡ true → (a : A) → r ≡ Some a → P a
    there r e a is = (each a).0 (sym (ap (is_none_or p) is) ∙ e)

    back : (r : Option A) → ((a : A) → r ≡ Some a → P a) → is_none_or p r ≡ true
    back None h = refl
    back (Some a) h = (each a).1 (h a refl)

pub is_some_with-Decides : {A : Type 0} (p : A → Bool) (P : A → Type 0) → ((a : A) → Decides (p a) (P a)) → (o : Option A) → Decides (is_some_with p o) ((a : A) × (o ≡ Some a) × P a)
is_some_with-Decides {A} p P each o = (there o, λ (a, is, holds). ap (is_some_with p) is ∙ (each a).1 holds)
  where
    there : (r : Option A) → is_some_with p r ≡ true → (a : A) × (r ≡ Some a) × P a
    there None e = let no : false ≡ true = e in cc
    there (Some a) e = (a, refl, (each a).0 e)

is_lt-Decides : (r : Ordering) → Decides (is_lt r) (r ≡ Less)
is_lt-Decides Less = (λ e. refl, λ e. refl)
is_lt-Decides Equal = (λ e. let no : false ≡ true = e in cc, λ e. cc)
is_lt-Decides Greater = (λ e. let no : false ≡ true = e in cc, λ e. cc)

pub is_below-Decides : (v w : Version) → Decides (is_below v w) (Below v w)
is_below-Decides v w = is_lt-Decides _

pub same_version-Decides : (v w : Version) → Decides (same_version v w) (v ≡ w)
same_version-Decides v w =
    Decides-like (same_version v w) (λ both. λ i. record { ts = both.0 i; id = both.1 i }) (λ e. (ap (λ x. x.ts) e, ap (λ x. x.id) e))
    (Decides-and _ _ (Decides-eqb v.ts w.ts) (Decides-eqb v.id w.id))

-- some element passes
pub list_any-Decides : {X : Type 0} (p : X → Bool) (P : X → Type 0) → ((x : X) → Decides (p x) (P x)) → (xs : List X) → Decides (list_any p xs) ((x : X) × Contains xs x × P x)
list_any-Decides p P each xs = (
  λ e. let a = Any-from_list_any p xs e in (a.1, (a.0, a.2, a.3), (each a.1).0 a.4),
  λ (x, (k, lt, at), holds). list_any-from_Any p xs (k, x, lt, at, (each x).1 holds),
)

-- each element passes
pub list_all-Decides : {X : Type 0} (p : X → Bool) (P : X → Type 0) → ((x : X) → Decides (p x) (P x)) → (xs : List X) → Decides (list_all p xs) ((x : X) → Contains xs x → P x)
list_all-Decides p P each xs =
    Decides-like (list_all p xs) (λ all x there. All-contains P xs x all there) (λ h k d lt. h _ (Contains-get_or xs k d lt))
    (Decides-by_and p P (list_all p) each refl (λ x ys. refl) xs)
