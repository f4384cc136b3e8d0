use Rattle.std.proofs.Common.{ℕ, ◌<◌, ◌≤◌, List, refl, sym, ap, ◌∙◌, arith, inl, inr}
use Rattle.std.proofs.lemmas.Bool.{cases_lt}
use Rattle.layout_roles.specs.declared.role.Role.{Role}
use Rattle.layout_roles.specs.Fits.{SomeFits, NoneFits}
use Rattle.layout_size.proofs.Moved.{none_moved}
use Rattle.layout_size.proofs.search.greatest_size.Goals as goal

-- a size that fits isn't above the bound
within : (roles : List Role) (r high : ℕ) → SomeFits roles r 1 → ((size : ℕ) → high < size → NoneFits roles r size) → 1 ≤ high
within roles r high some above = elim (cases_lt high 1) [
  | inl low ↦ absurd (above 1 low some.0 some.1)
  | inr enough ↦ enough
]

pub loop-low-init : goal.loop-low-init
loop-low-init c =
    let network = c.args.network.now in
    let bound = c.size_bound-high.result in
    let enough : 1 ≤ bound = within network.roles.list network.r bound c.requires c.size_bound-high.ensures.above in
    (refl, refl, omega arith, enough, c.size_bound-high.ensures.small, c.requires, c.size_bound-high.ensures.above)

pub loop-low-preserved : goal.loop-low-preserved
loop-low-preserved c =
    let network = c.args.network.now in
    let before = c.loop-low.network in
    let kept = c.loop-low.invariant in
    let less = c.loop-low-test.true in
    let low = kept.2 in
    let small = kept.4 in (
      c.fits.ensures.roles ∙ kept.0,
      c.fits.ensures.redundancy ∙ kept.1,
      low,
      omega arith,
      omega arith,
      kept.5,
      λ size above.
          none_moved network.roles.list before.roles.list network.r before.r size size (ap (λ roles. roles.list) (sym kept.0)) (sym kept.1) refl
          (c.fits.ensures.none c.if-fits.false size (omega arith)),
    )

pub returns-clause-above : goal.returns-clause-above
returns-clause-above c = λ size above.
    let kept = c.loop-low.invariant in
    let done = c.loop-low-test.false in
    let order = kept.3 in
    kept.6 size (omega arith)
