-- Of each schedule and each text something is found.
use Rattle.std.proofs.Common.{◌⊎◌, inl, inr, ℕ, List}
use Rattle.std.specs.List.{AllByRecursion}
use Rattle.history_model.specs.declared.record.Record.{Record}
use Rattle.history_model.specs.Fresh.{Fresh}
use Rattle.stale_model.specs.Stale.{IsFirstStale}
use Rattle.store_model.specs.declared.event.Numbered.{Numbered}
use Rattle.text_model.specs.Grammar.{lines_of}
use Rattle.audit_model.specs.declared.said.Said.{Said}
use Rattle.audit_model.specs.Heard.{AreReadable, IsUnreadable}
use Rattle.audit_model.specs.Printed.{Print, all_prints, IsLawfulPrint, IsUnlawful}
use Rattle.audit_model.specs.Audit.{Finding, Finds, unreadable, stale, unlawful, not_read, not_fresh, not_lawful}

abbrev pub ReadOrNot : Type 0
ReadOrNot = (events : List Numbered) (lines : List (List ℕ)) → ((saids : List Said) × (history : List Record) × AreReadable events lines saids history) ⊎ ((k : ℕ) × IsUnreadable events lines k)

abbrev pub FreshOrStale : Type 0
FreshOrStale = (history : List Record) → Fresh history ⊎ ((q : ℕ) × IsFirstStale history q)

abbrev pub LawfulOrFirst : Type 0
LawfulOrFirst = (prints : List Print) → AllByRecursion IsLawfulPrint prints ⊎ ((k : ℕ) × IsUnlawful prints k)

abbrev pub EachIsFound : List Numbered → Type 0
EachIsFound events = (text : List ℕ) (saids : List Said) (history : List Record) → AreReadable events (lines_of text) saids history → Fresh history → AllByRecursion IsLawfulPrint (all_prints events saids) → (f : Finding) × Finds events text f

module _ (read : ReadOrNot) (judged : FreshOrStale) (lawful_or : LawfulOrFirst) (events : List Numbered) (each : EachIsFound events) (text : List ℕ) where
  by_lawful : (saids : List Said) (history : List Record) → AreReadable events (lines_of text) saids history → Fresh history → AllByRecursion IsLawfulPrint (all_prints events saids) ⊎ ((k : ℕ) × IsUnlawful (all_prints events saids) k) →
      (f : Finding) × Finds events text f
  by_lawful saids history readable fresh (inl all) = each text saids history readable fresh all
  by_lawful saids history readable fresh (inr found) = (unlawful found.0, not_lawful saids history found.0 readable fresh found.1)

  by_fresh : (saids : List Said) (history : List Record) → AreReadable events (lines_of text) saids history → Fresh history ⊎ ((q : ℕ) × IsFirstStale history q) → (f : Finding) × Finds events text f
  by_fresh saids history readable (inl fresh) = by_lawful saids history readable fresh (lawful_or (all_prints events saids))
  by_fresh saids history readable (inr found) = (stale found.0, not_fresh saids history found.0 readable found.1)

  by_read : ((saids : List Said) × (history : List Record) × AreReadable events (lines_of text) saids history) ⊎ ((k : ℕ) × IsUnreadable events (lines_of text) k) → (f : Finding) × Finds events text f
  by_read (inl r) = by_fresh r.0 r.1 r.2 (judged r.1)
  by_read (inr u) = (unreadable u.0, not_read u.0 u.1)

  pub found : (f : Finding) × Finds events text f
  found = by_read (read events (lines_of text))
