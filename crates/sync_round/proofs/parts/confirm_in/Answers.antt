use Rattle.std.proofs.Common.{◌≡◌, sym, ap, ◌∙◌, ◌+◌, true, false, not}
use Rattle.std.specs.Prelude.{if◌then◌else◌}
use Rattle.std.proofs.lemmas.Map.{none_passes_from_lookup}
use Rattle.quorum_tally.specs.Marks.{has_two}
use Rattle.sync_round.specs.Parts.{lacking_of}
use Rattle.sync_round.proofs.Confirming.{none_marked, one_marked, second_counted, finds}
use Rattle.sync_round.proofs.parts.confirm_in.Goals as goal

pub returns-then-not-had_two-clause-entries : goal.returns-then-not-had_two-clause-entries
returns-then-not-had_two-clause-entries c =
    rw c.after.ensures
    ((c.get_mut.follows.holds _).0 ∙ one_marked c.args.p c.args.node c.in-Some.marks.now c.args.parts.now.entries c.get_mut.ensures.ordered (sym c.in-Some.ensures.value))

pub returns-then-not-had_two-clause-second : goal.returns-then-not-had_two-clause-second
returns-then-not-had_two-clause-second c =
    let v = c.in-Some.marks.now in
    let had : has_two v ≡ false = sym c.has_two-had_two.ensures ∙ c.if-not-had_two.true in
    let counted = rw had at (second_counted c.args.p c.args.node v c.args.parts.now.entries (sym c.in-Some.ensures.value)) in
    ap (λ es. lacking_of es + (if c.has_two.result then 1 else 0)) (c.get_mut.follows.holds c.after.result).0
    ∙ rw (c.has_two.ensures, c.after.ensures) counted

pub returns-else-not-had_two-clause-entries : goal.returns-else-not-had_two-clause-entries
returns-else-not-had_two-clause-entries c =
    rw c.after.ensures
    ((c.get_mut.follows.holds _).0 ∙ one_marked c.args.p c.args.node c.in-Some.marks.now c.args.parts.now.entries c.get_mut.ensures.ordered (sym c.in-Some.ensures.value))

pub returns-else-not-had_two-clause-second : goal.returns-else-not-had_two-clause-second
returns-else-not-had_two-clause-second c =
    let v = c.in-Some.marks.now in
    let had : has_two v ≡ true = sym c.has_two-had_two.ensures ∙ c.if-not-had_two.false in
    let counted = rw had at (second_counted c.args.p c.args.node v c.args.parts.now.entries (sym c.in-Some.ensures.value)) in
    ap (λ es. lacking_of es + (if not c.has_two-had_two.result then 1 else 0)) (c.get_mut.follows.holds c.after.result).0
    ∙ rw (c.if-not-had_two.false, c.after.ensures) counted

pub returns-in-None-clause-entries : goal.returns-in-None-clause-entries
returns-in-None-clause-entries c =
    ap (λ m. m.entries) c.get_mut.follows.holds-at-none ∙ sym (none_marked c.args.p c.args.node c.args.parts.now.entries (none_passes_from_lookup (finds c.args.p) c.args.parts.now.entries (sym c.in-None.ensures.value)))
