use Rattle.std.proofs.Common.{ℕ, ◌≡◌, ◌<◌, ◌-◌, true, List, length, sym, ◌∙◌, subst}
use Rattle.std.specs.List.{list_all}
use Rattle.layout_roles.specs.declared.role.Role.{Role}
use Rattle.layout_roles.specs.Fits.{set_at}
use Rattle.layout_moves.specs.Prices.{asked, IsCheap}
use Rattle.layout_moves.specs.Auction.{is_fair}
use Rattle.layout_moves.proofs.Heading.{priced_from}
use Rattle.layout_moves.proofs.head_start.could_go_on.Goals as goal

pub returns-then-are_cheap : goal.returns-then-are_cheap
returns-then-are_cheap c = λ fair.
    let roles = c.args.roles.now.list in
    let old = c.args.old.now in
    let sets = c.args.sets.now in
    let prices = c.args.prices.now in
    let cheap = subst (λ (zs : List (List Role)). (p : ℕ) → p < length sets → IsCheap 1 (4 - c.args.r) zs (asked 66 (set_at old p) prices) (set_at sets p)) c.requires.grouped (c.are_cheap.ensures c.if-are_cheap.true) in
    let all = subst (λ (rs : List Role). list_all (is_fair c.args.size sets prices) rs ≡ true) c.as_slice.ensures (sym c.are_fair.ensures ∙ fair) in
    priced_from roles c.args.r c.args.size old sets prices c.requires.bases c.requires.rows cheap all
