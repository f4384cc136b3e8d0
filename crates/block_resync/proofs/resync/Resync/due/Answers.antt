use Rattle.std.proofs.Common.{ℕ, map, sym, ap, ◌∙◌, arith}
use Rattle.std.proofs.lemmas.Result.{IfOk-weaker}
use Rattle.blake2_hash.specs.declared.digest.Hash32.{Hash32}
use Rattle.block_store.specs.Contents.{idle_notes}
use Rattle.block_resync.proofs.Due.{due_up_to, none_due}
use Rattle.block_resync.proofs.resync.Resync.due.Goals as goal

pub returns-in_default-clause-hashes : goal.returns-in_default-clause-hashes
returns-in_default-clause-hashes c =
    c.new.ensures.items ∙ sym (none_due c.args.now (idle_notes c.args.blocks.now) (omega (arith, c.in_default.ensures)))

pub returns-clause-hashes : goal.returns-clause-hashes
returns-clause-hashes c =
    IfOk-weaker c.hashes_of.result _ _
    (λ v is.
    is
    ∙ ap (map (λ (n : Hash32 × ℕ). n.0)) (c.as_slice.ensures.value ∙ c.in_ok-due.ensures.notes)
    ∙ sym (due_up_to c.args.now c.in-Some.moment (idle_notes c.args.blocks.now) c.in-Some.ensures.0 c.in-Some.ensures.1))
    c.hashes_of.ensures.hashes
