use Rattle.std.proofs.Common.{◌≡◌, ◌≤◌, ◌⊎◌, ◌++◌, length, drop, inl, inr, arith, ap, ◌∙◌, append_assoc}
use Rattle.std.proofs.lemmas.List.{take_rest}
use Rattle.crdt_core.proofs.Tails.{merged_tails}
use Rattle.crdt_core.proofs.map.merge_entries.Goals as goal
use Rattle.crdt_core.proofs.map.merge_entries.Goals.{then-loop-i-test+else-k-theirs, else-loop-i-test}

-- the loop ends where one side is used up, and the other is copied
pub returns-clause-merged : goal.returns-clause-merged
returns-clause-merged g c =
    let ended : (length c.args.ours.now ≤ c.loop-i.i) ⊎ (length c.args.theirs.now ≤ c.loop-i.k) =
    elim c.loop-i-test.branch [ then-loop-i-test+else-k-theirs w ↦ inr (omega arith) | else-loop-i-test w ↦ inl (omega arith) ] in
    let rest = merged_tails g.K.Ord.cmp g.V.Crdt.join c.args.ours.now c.args.theirs.now c.loop-i.i c.loop-i.k ended in
    let both = append_assoc c.loop-i.made (drop c.loop-i.i c.args.ours.now) (drop c.loop-i.k c.args.theirs.now) in
    let f : c.push_copies.new.made ≡ c.loop-i.made ++ drop c.loop-i.i c.args.ours.now =
    c.in_ok-push_copies.ensures.ok ∙ ap (λ es. c.loop-i.made ++ es) (take_rest c.args.ours.now c.loop-i.i) in
    let h : c.push_copies-2.new.made ≡ c.push_copies.new.made ++ drop c.loop-i.k c.args.theirs.now =
    c.in_ok-push_copies-2.ensures.ok ∙ ap (λ es. c.push_copies.new.made ++ es) (take_rest c.args.theirs.now c.loop-i.k) in
    h ∙ (ap (λ es. es ++ drop c.loop-i.k c.args.theirs.now) f ∙ (both ∙ (ap (λ es. c.loop-i.made ++ es) rest ∙ c.loop-i.invariant.whole)))
