use Rattle.std.specs.Prelude.{refl}
use Rattle.std.proofs.Common.{ap}
use Rattle.table_store.specs.Index.{pair_at}
use Rattle.table_store.proofs.Entries.{has_rest}
use Rattle.table_store.proofs.Fitting.{fits_same, fits_taken}
use Rattle.table_store.proofs.Putting.{kept_on, popped}
use Rattle.table_store.proofs.settling.settle_first.Goals as goal

pub returns-in_err-take_at-in-Some-clause-fits : goal.returns-in_err-take_at-in-Some-clause-fits
returns-in_err-take_at-in-Some-clause-fits g c =
    let was = c.args.part.now in
    fits_same g.S.Schema.words c.args.p c.args.rows.now.entries was _ c.in_err-take_at-in-Some.ensures.err refl
    (c.take_at.ensures.kept (kept_on was.trie c.settle.new.self was.pairs.entries c.settle.ensures.kept c.requires.kept)) c.requires

pub returns-in_ok-take_at-in-Some-clause-fits : goal.returns-in_ok-take_at-in-Some-clause-fits
returns-in_ok-take_at-in-Some-clause-fits g c =
    let was = c.args.part.now in
    let key = c.in-Some.key.now in
    let rest = popped was.waiting.keys c.pop_first.new.self.keys key c.pop_first.result c.in-Some.ensures.first c.pop_first.ensures.removal c.pop_first.ensures.variant.1 in
    fits_taken g.S.Schema.words c.args.p c.args.rows.now.entries was _ key.items
    (c.take_at.ensures.kept (kept_on was.trie c.settle.new.self was.pairs.entries c.settle.ensures.kept c.requires.kept))
    c.take_at.ensures.keys c.take_at.ensures.others (λ other apart had. has_rest other key was.waiting.keys c.pop_first.new.self.keys rest apart had)
    c.in_ok-take_at-in-Some.ensures.taken (λ none. ap (pair_at key.items) (c.take_at.ensures.nothing none)) c.requires
