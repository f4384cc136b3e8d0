-- What each step of an audit finds.
use Rattle.std.proofs.Common.{◌≡◌, ℕ, Result, Ok, Err, IfOk, List, ap, ◌∙◌}
use Rattle.std.specs.Prelude.{◌++◌, ◌-◌, ◌^◌, min, codes}
use Rattle.crdt_core.specs.declared.memory.Memory.{Memory as Why}
use Rattle.layout_roles.specs.Text.{line, number}
use Rattle.store_model.specs.declared.event.Numbered.{Numbered}
use Rattle.audit_model.specs.Audit.{Finding, Finds}
use Rattle.audit_run.specs.declared.reply.Reply.{Reply}
use Rattle.audit_run.specs.Answer.{ok_line, finding_line, finding_status, IsFound}

-- the line of what is found, with its status
pub is_found : (events : List Numbered) (text : List ℕ) (f : Finding) (r : Result Reply Why) → Finds events text f → IfOk r (λ reply. reply.status ≡ finding_status f) → IfOk r (λ reply. reply.text ≡ finding_line f) →
    IfOk r (λ reply. IsFound events text reply.status reply.text)
is_found events text f (Ok reply) finds s t = record { finding = f; finds = finds; status_is = s; text_is = t }
is_found events text f (Err why) finds s t = tt

-- the line with the number of pairs
pub is_ok_line : (r : Result Reply Why) (n pairs : ℕ) → n ≡ min pairs (2 ^ 64 - 1) → IfOk r (λ reply. reply.text ≡ line (codes "audit ok" ++ number n)) → IfOk r (λ reply. reply.text ≡ ok_line pairs)
unfolding ok_line
is_ok_line (Ok reply) n pairs counted h = h ∙ ap (λ m. line (codes "audit ok" ++ number m)) counted
is_ok_line (Err why) n pairs counted h = tt
