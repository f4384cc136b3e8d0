-- Entries in ascending order: no key is there twice, and what stands at a key is an entry.
use Rattle.std.specs.Prelude.{◌≡◌, true, List, [], ◌∷◌, Option, Some, None, map, refl}
use Rattle.std.specs.Option.{unwrap_or}
use Rattle.std.specs.List.{AllByRecursion}
use Rattle.std.specs.declared.cmp.Ordering.{Ordering}
use Rattle.std.specs.declared.cmp.Ordering.TheVariants.{Less, Equal, Greater}
use Rattle.std.specs.Cmp.{IsTotalOrder}
use Rattle.std.proofs.Common.{ap, sym, subst, inl, inr}
use Rattle.crdt_core.specs.Orders.{Identifies}
use Rattle.crdt_core.specs.Members.{Has}
use Rattle.crdt_core.specs.Lex.{by_order}
use Rattle.crdt_core.specs.Entries.{is_below, is_ascending, value_at}
use Rattle.crdt_core.specs.EntryLaws.{and_parts, below_none}
use Rattle.object_origins.proofs.Given.{entries_found}
use Rattle.machine_limits.proofs.Totals.{AreApart}

pub has_key : {K V : Type 0} (es : List (K × V)) (e : K × V) → Has es e → Has (map (λ (x : K × V). x.0) es) e.0
has_key [] e h = elim h [ ]
has_key {K} (f ∷ es) e (inl s) = inl (ap (λ (x : K × _). x.0) s)
has_key (f ∷ es) e (inr h) = inr (has_key es e h)

module _ {K V : Type 0} {R : K → K → Ordering} (o : IsTotalOrder R) where
  -- each key that is there has a value
  keyed : (es : List (K × V)) (k : K) → is_ascending R es ≡ true → Has (map (λ (x : K × V). x.0) es) k → (x : V) × (value_at R k es ≡ Some x)
  keyed es k a h = along es (entries_found o es a) h
    where
      along : (fs : List (K × V)) → AllByRecursion (λ (e : K × V). value_at R e.0 es ≡ Some e.1) fs → Has (map (λ (x : K × V). x.0) fs) k → (x : V) × (value_at R k es ≡ Some x)
      along [] b i = elim i [ ]
      along (f ∷ fs) b (inl e) = (f.1, subst (λ (q : K). value_at R q es ≡ Some f.1) e b.0)
      along (f ∷ fs) b (inr i) = along fs b.1 i

  pub apart_keys : (es : List (K × V)) → is_ascending R es ≡ true → AreApart (map (λ (x : K × V). x.0) es)
  apart_keys [] a = tt
  apart_keys (e ∷ es) a =
      let parts = and_parts (is_below R e.0 es) (is_ascending R es) a in
      (λ h. (let x = keyed es e.0 parts.1 h in let none : value_at R e.0 es ≡ None = below_none o e.0 es parts.0 in cc (x.1)), apart_keys es parts.1)

  -- no entry is there twice
  pub apart_entries : (es : List (K × V)) → AreApart (map (λ (x : K × V). x.0) es) → AreApart es
  apart_entries [] a = tt
  apart_entries (e ∷ es) a = (λ h. a.0 (has_key es e h), apart_entries es a.1)

  module _ (identical : Identifies R) where
    there_by : (k : K) (x : V) (e : K × V) (es : List (K × V)) → (value_at R k es ≡ Some x → Has es (k, x)) → (r : Ordering) → R k e.0 ≡ r → by_order r None (Some e.1) (value_at R k es) ≡ Some x → Has (e ∷ es) (k, x)
    there_by k x e es rest Less h g = cc
    there_by k x e es rest Equal h g =
        let same : k ≡ e.0 = identical k e.0 h in
        let val : e.1 ≡ x = ap (λ (q : Option V). unwrap_or q x) g in
        inl (λ i. (sym same i, val i))
    there_by k x e es rest Greater h g = inr (rest g)

    -- what stands at a key is an entry
    pub there : (k : K) (x : V) (es : List (K × V)) → value_at R k es ≡ Some x → Has es (k, x)
    there k x [] g = cc
    there k x (e ∷ es) g = there_by k x e es (there k x es) (R k e.0) refl g
