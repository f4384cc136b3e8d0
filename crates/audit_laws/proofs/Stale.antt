-- One request's read is the first that is stale.
use Rattle.std.proofs.Common.{◌≡◌, ◌≤◌, ℕ, Some, List, slice_get, ap, sym, ◌∙◌, arith}
use Rattle.history_model.specs.declared.record.Record.{Record}
use Rattle.history_model.specs.declared.record.Record.TheVariants.{Finished}
use Rattle.stale_model.specs.Stale.{IsFirstStale}
use Rattle.store_laws.proofs.Records.{finish_is}

-- two that finish at one place are one request
pub one_stale : (h : List Record) (q other : ℕ) → IsFirstStale h q → IsFirstStale h other → q ≡ other
one_stale h q other a b =
    let before : a.finished ≤ b.finished = a.first b.began b.finished other b.one in
    let behind : b.finished ≤ a.finished = b.first a.began a.finished q a.one in
    let place : a.finished ≡ b.finished = omega arith in
    let is = finish_is h a.began q a.finished a.one.answer a.one.finished in
    let others = finish_is h b.began other b.finished b.one.answer b.one.finished in
    let same : Some (Finished q a.one.answer) ≡ Some (Finished other b.one.answer) = sym is.1 ∙ (ap (slice_get h) place ∙ others.1) in
    cc
