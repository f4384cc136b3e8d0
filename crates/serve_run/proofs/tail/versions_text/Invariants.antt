use Rattle.std.proofs.Common.{◌≡◌, ◌∷◌, ◌++◌, drop, map, flat_map}
use Rattle.layout_roles.specs.declared.assignment.Assignment.{Assignment}
use Rattle.layout_roles.specs.Text.{set_lines}
use Rattle.serve_run.proofs.tail.versions_text.Given as goal

-- the lines of the sets that are left stand behind those so far
abbrev pub invariant-loop-sets : goal.invariant-loop-sets
invariant-loop-sets l = l.text ++ flat_map set_lines (map (λ (sets : Assignment). sets.sets) (drop l.sets-index l.later)) ≡ flat_map set_lines (l.first.sets ∷ map (λ (sets : Assignment). sets.sets) l.later)
