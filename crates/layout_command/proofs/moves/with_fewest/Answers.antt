use Rattle.std.proofs.Common.{◌≤◌, refl, sym, ap, ◌∙◌, subst}
use Rattle.layout_roles.specs.declared.certified.Certified.{Certified}
use Rattle.layout_size.proofs.Zones.{wanted_some}
use Rattle.layout_command.specs.Moves.{moves_text, moved as moves_fewest}
use Rattle.layout_command.proofs.moves.with_fewest.Goals as goal

pub fewest_sets-requires-clause-low : goal.fewest_sets-requires-clause-low
fewest_sets-requires-clause-low c =
    subst (λ r. 1 ≤ r) (sym c.requires.layout.redundancy) (wanted_some c.args.config.now.redundancy c.args.config.now.roles.list c.requires.redundancy c.requires.enough.nodes)

pub returns-clause-stated : goal.returns-clause-stated
returns-clause-stated c =
    let given = c.args.certified in
    let best = c.in_ok-moved.moved in
    let certified : Certified = record { r = given.r; size = given.size; sets = best.sets; cut = given.cut } in
    let layout = c.requires.layout in
    moves_fewest certified best.moves best.potentials c.requires.enough
    (record {
      redundancy = layout.redundancy;
      greatest = record { fits = c.in_ok-moved.ensures.fits; greatest = layout.greatest.greatest };
      above = layout.above;
      some = layout.some;
      cut = layout.cut;
      light = layout.light;
    })
    c.in_ok-moved.ensures.fewest refl (c.in_ok-text.ensures.text ∙ ap (moves_text c.args.config.now.roles.list certified best.moves) c.as_slice-potentials.ensures)
