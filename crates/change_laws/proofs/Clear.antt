-- What a run hashes for walks, part by part, and what is known by it of each delivery.
use Rattle.std.specs.Prelude.{◌⊎◌, ℕ, List, [], ◌∷◌, ◌++◌, refl}
use Rattle.std.proofs.Common.{sym, subst, inl, inr}
use Rattle.layout_roles.specs.declared.role.Role.{Role}
use Rattle.table_schema.specs.Words.{Words}
use Rattle.table_model.specs.Rows.{rows}
use Rattle.cluster_machine.specs.Hashes.{IsOfWalk, Hears, Hashes, RunHashes}
use Rattle.cluster_machine.specs.Layouts.{Layouts}
use Rattle.cluster_machine.specs.Node.{Node}
use Rattle.cluster_machine.specs.World.{Sent, World}
use Rattle.cluster_machine.specs.Run.{Move, next, run}
use Rattle.drained_laws.specs.Waiting.{fresh}
use Rattle.change_laws.proofs.Moving.{AreKnown}

module _ {R L : Type 0} (A C : Type 0) (join : R → R → R) (s : Words R) (k : Layouts L) (trio : L) (trio_roles : List Role → List Role) where
  abbrev Hashed : World R L → List (Move R L A C) → List ℕ → Type 0
  Hashed w ms y = RunHashes s join k trio trio_roles w ms y

  -- the first steps of a run hash what it hashes
  pub hashes_first : (w : World R L) (xs ys : List (Move R L A C)) (y : List ℕ) → Hashed w xs y → Hashed w (xs ++ ys) y
  hashes_first w [] ys y h = absurd h
  hashes_first w (x ∷ xs) ys y h = elim h [ inl this ↦ inl this | inr later ↦ inr (hashes_first (next join s k trio trio_roles w x) xs ys y later) ]

  -- and so do the others
  pub hashes_then : (w : World R L) (xs ys : List (Move R L A C)) (y : List ℕ) → Hashed (run join s k trio trio_roles w xs) ys y → Hashed w (xs ++ ys) y
  hashes_then w [] ys y h = h
  hashes_then w (x ∷ xs) ys y h = inr (hashes_then (next join s k trio trio_roles w x) xs ys y h)

  -- the one or the other hashes it
  pub hashes_parts : (w : World R L) (xs ys : List (Move R L A C)) (y : List ℕ) → Hashed w (xs ++ ys) y → Hashed w xs y ⊎ Hashed (run join s k trio trio_roles w xs) ys y
  hashes_parts w [] ys y h = inr h
  hashes_parts w (x ∷ xs) ys y h = elim h [
    | inl this ↦ inl (inl this)
    | inr later ↦ (elim (hashes_parts (next join s k trio trio_roles w x) xs ys y later) [ inl first ↦ inl (inr first) | inr rest ↦ inr rest ])
  ]

  module _ (H : List ℕ → Type 0) where
    -- what the node hashes to which a message of a walk comes is among these strings
    abbrev pub IsClear : (ℕ → Node R L) → Sent R L → Type 0
    IsClear nodes x = (p : ℕ) → IsOfWalk p x.packet → (y : List ℕ) → Hashes s p (rows join s (nodes x.to).accepted) y → H y

    -- where a run hashes these alone
    pub known_so : (w : World R L) (ms : List (Move R L A C)) → ((y : List ℕ) → Hashed w ms y → H y) → AreKnown A C join s k trio trio_roles IsClear w ms
    known_so w [] f = tt
    known_so w (m ∷ ms) f = (
      (λ i x e sent mark p h y hashes. f y (inl (x.to, (p, (inl (subst (λ step. Hears w step x.to p) (sym e) (record { message = x; was_sent = sent; mark = fresh; marked = mark; not_lost = refl; to_it = refl; of_walk = h })), hashes))))),
      known_so (next join s k trio trio_roles w m) ms (λ y h. f y (inr h)),
    )
