use Rattle.std.proofs.Common.{◌+◌, refl, sym, ap, ◌∙◌, arith}
use Rattle.layout_size.proofs.Moved.{fits_moved, none_moved}
use Rattle.layout_size.proofs.answer.certify.Goals as goal

pub cut_of-requires-2 : goal.cut_of-requires-2
cut_of-requires-2 c =
    let network = c.args.network in
    let after = c.resize-2.new.self in
    let size = c.greatest_size-size.result in
    let roles = c.resize-2.ensures.roles ∙ c.resize.ensures.roles ∙ c.greatest_size-size.ensures.roles in
    let r = c.resize-2.ensures.redundancy ∙ c.resize.ensures.redundancy ∙ c.greatest_size-size.ensures.redundancy in
    none_moved after.roles.list network.roles.list after.r network.r after.size (size + 1) (ap (λ roles. roles.list) roles) r c.resize-2.ensures.size
    (c.greatest_size-size.ensures.above (size + 1) (omega arith))

pub returns-clause-greatest : goal.returns-clause-greatest
returns-clause-greatest c =
    let network = c.args.network in
    let before = c.resize.new.self in
    let size = c.greatest_size-size.result in
    let roles = c.resize.ensures.roles ∙ c.greatest_size-size.ensures.roles in
    let r = c.resize.ensures.redundancy ∙ c.greatest_size-size.ensures.redundancy in
    record {
      fits = fits_moved network.roles.list before.roles.list network.r before.r size before.size c.in_ok-sets.sets.sets (ap (λ roles. roles.list) (sym roles)) (sym r) (sym c.resize.ensures.size) c.in_ok-sets.ensures.fits;
      greatest = c.greatest_size-size.ensures.above (size + 1) (omega arith);
    }

pub returns-clause-above : goal.returns-clause-above
returns-clause-above c = λ size above.
    let network = c.args.network in
    let r = c.resize-2.ensures.redundancy ∙ c.resize.ensures.redundancy ∙ c.greatest_size-size.ensures.redundancy in
    none_moved network.roles.list network.roles.list c.resize-2.new.self.r network.r size size refl r refl (c.greatest_size-size.ensures.above size above)
