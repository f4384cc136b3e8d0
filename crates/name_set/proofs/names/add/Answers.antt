use Rattle.std.proofs.Common.{◌≡◌, ap, sym, ◌∙◌, ◌||◌, List, ℕ, nat_eq}
use Rattle.std.specs.List.{list_any}
use Rattle.std.specs.Cmp.Lexicographic.{pointwise, slice_cmp, texts_ties}
use Rattle.std.specs.Ordering.{nat_cmp, is_eq}
use Rattle.name_set.specs.Found.{finds}
use Rattle.name_set.proofs.Finding.{added}
use Rattle.name_set.proofs.names.add.Goals as goal

pub returns-clause-added : goal.returns-clause-added
returns-clause-added c other =
    let same : is_eq (slice_cmp nat_cmp other c.in_ok-name.name.items) ≡ pointwise nat_eq other c.args.name.now = ap (λ (i : List ℕ). is_eq (slice_cmp nat_cmp other i)) c.in_ok-name.ensures.items ∙ sym (texts_ties other c.args.name.now) in
    ap (list_any (λ k. is_eq (slice_cmp nat_cmp other k.items))) c.in_ok-insert.ensures.keys
    ∙ added other c.in_ok-name.name c.args.known.now.keys
    ∙ ap (λ b. b || finds other c.args.known.now) same
