-- What layouts say, in the words of the control plane.
use Rattle.std.specs.Prelude.{ℕ, Bool, false, not, ◌&&◌, ◌==◌, length, List, [], ◌∷◌, Option, Some, None, IsTrue, slice_get}
use Rattle.std.specs.List.{list_all, list_any}
use Rattle.std.specs.Option.{option_and_then}
use Rattle.view_model.specs.View.{Reading}

-- a node is one of these
abbrev pub is_in : ℕ → List ℕ → Bool
is_in node nodes = list_any (λ n. node == n) nodes

-- three different nodes
abbrev pub are_three : List ℕ → Bool
are_three [] = false
are_three (a ∷ []) = false
are_three (a ∷ b ∷ []) = false
are_three (a ∷ b ∷ c ∷ []) = not (a == b) && (not (a == c) && not (b == c))
are_three (a ∷ b ∷ c ∷ d ∷ more) = false

-- three different members
abbrev pub is_set : List ℕ → List ℕ → Bool
is_set members set = are_three set && list_all (λ node. is_in node members) set

module _ {L : Type 0} (r : Reading L) where
  -- the members of a layout, nobody where there is none
  abbrev pub members_of : Option L → List ℕ
  members_of None = []
  members_of (Some l) = r.members l

  -- the node is a member, by a test
  abbrev pub is_member : ℕ → Option L → Bool
  is_member node layout = is_in node (members_of layout)

  -- a node has a role in a layout that is there
  abbrev pub IsMember : ℕ → Option L → Type 0
  IsMember node layout = IsTrue (is_member node layout)

  -- the nodes of a partition
  abbrev pub set_in : Option L → ℕ → Option (List ℕ)
  set_in layout p = option_and_then (λ l. slice_get (r.sets l) p) layout

  -- a layout that may be applied as this version: it gives each of so many partitions three different members
  abbrev pub is_lawful : ℕ → ℕ → L → Bool
  is_lawful partitions version l = (r.version l == version) && ((length (r.sets l) == partitions) && list_all (is_set (r.members l)) (r.sets l))
