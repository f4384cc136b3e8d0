use Rattle.std.proofs.Common.{◌⊎◌, inl, inr, ℕ, List}
use Rattle.store_model.specs.declared.event.Numbered.{Numbered}
use Rattle.history_model.specs.declared.record.Record.{Record}
use Rattle.audit_model.specs.declared.said.Said.{Said}
use Rattle.audit_model.specs.Heard.{AreReadable, IsUnreadable}
use Rattle.audit_model.proofs.Unique.{one_account}
use Rattle.audit_model.proofs.Decided.{Reads, every_text_reads}
use Rattle.audit_model.proofs.One.{readable_or_not, one_unreadable}
use Rattle.audit_laws.proofs.texts_give_one_account.Goals as goal

either : (events : List Numbered) (lines : List (List ℕ)) → Reads events lines → ((saids : List Said) × (history : List Record) × AreReadable events lines saids history) ⊎ ((k : ℕ) × IsUnreadable events lines k)
either events lines (Reads.readable saids history a) = inl (saids, history, a)
either events lines (Reads.unreadable k u) = inr (k, u)

pub returns : goal.returns
returns c = record { some = λ events lines. either events lines (every_text_reads events lines); account = one_account; not_both = readable_or_not; line = one_unreadable }
