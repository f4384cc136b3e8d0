use Rattle.std.proofs.Common.{ap}
use Rattle.std.proofs.lemmas.Bool.{iff_false}
use Rattle.layout_roles.specs.Fits.{Fits}
use Rattle.layout_size.proofs.Moved.{fits_moved}
use Rattle.layout_size.proofs.search.fits.Goals as goal

pub returns-clause-none : goal.returns-clause-none
returns-clause-none c = λ no greater le sets fits.
    let network = c.args.network.now in
    let after = c.resize.new.self in
    let less : Fits network.roles.list network.r c.args.size sets = c.smaller_sizes.ensures network.roles.list network.r c.args.size greater sets c.requires le fits in
    let same = fits_moved after.roles.list network.roles.list after.r network.r after.size c.args.size sets (ap (λ roles. roles.list) c.resize.ensures.roles) c.resize.ensures.redundancy c.resize.ensures.size less in
    iff_false c.has_flow.ensures no (sets, same)
