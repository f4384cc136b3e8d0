-- A run's own text can be read, and the account that its lines give is the run's history, but for the identifiers of superseded ends.
use Rattle.std.proofs.Common.{◌≡◌, List, [], map, refl, ap, sym, subst, ◌∙◌}
use Rattle.std.specs.List.{AllByRecursion}
use Rattle.history_model.specs.declared.record.Record.{Record}
use Rattle.store_model.specs.declared.event.Numbered.{Numbered}
use Rattle.store_model.specs.Run.{start}
use Rattle.store_model.specs.Events.{Turn, run}
use Rattle.text_model.specs.Grammar.{lines_of}
use Rattle.text_model.specs.Transcript.{transcript}
use Rattle.audit_model.specs.declared.said.Said.{Said}
use Rattle.audit_model.specs.Lines.{IsInRange}
use Rattle.audit_model.specs.Heard.{Heard, nothing_heard, quiet, Hears, AreReadable}
use Rattle.audit_laws.specs.Account.{blunt}
use Rattle.audit_laws.specs.Told.{TurnsCanBeHeard, saids_text, requests_after}
use Rattle.audit_accounts.specs.Saying.{transcript_says}
use Rattle.audit_accounts.proofs.Lines.{lines_are, heard_lines}
use Rattle.audit_accounts.proofs.Hearing.{SheetsAreQuiet, transcript_adds}

pub can_be_read : SheetsAreQuiet → (events : List Numbered) (ts : List Turn) → TurnsCanBeHeard events [] start ts → transcript ts ≡ saids_text (transcript_says ts) → AllByRecursion IsInRange (transcript_says ts) →
    AreReadable events (lines_of (transcript ts)) (transcript_says ts) (map blunt (run start ts).history)
can_be_read silent events ts heard spelled ranges =
    let saids : List Said = transcript_says ts in
    let history : List Record = map blunt (run start ts).history in
    let last : Heard = quiet (requests_after [] start ts) history in
    let same : lines_of (transcript ts) ≡ _ = ap lines_of spelled ∙ lines_are saids ranges in
    record {
      last = last;
      hears = subst (λ ls. Hears events nothing_heard ls saids last) (sym same) (heard_lines events nothing_heard last saids ranges (transcript_adds silent events ts heard));
      history_is = refl;
      no_more = refl;
    }
