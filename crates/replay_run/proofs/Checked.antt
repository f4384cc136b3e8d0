-- The line of a check: each history has one, and where all reads are fresh it says so.
use Rattle.std.proofs.Common.{◌≡◌, List, [], ℕ, inl, inr, refl}
use Rattle.history_model.specs.declared.record.Record.{Record}
use Rattle.history_model.specs.Fresh.{Fresh}
use Rattle.world_history.proofs.First.{fresh_or_not}
use Rattle.replay_run.specs.declared.account.Account.{Account}
use Rattle.replay_run.specs.declared.account.Account.TheVariants.{Transcript, Checked, Summary}
use Rattle.replay_run.specs.Account.{fresh_line, stale_line, IsCheck, fresh, stale, IsLine}

pub line_is_fresh : (history : List Record) (line : List ℕ) → Fresh history → IsCheck history line → line ≡ fresh_line history
line_is_fresh history line all (fresh also is) = is
line_is_fresh history line all (stale never is) = absurd (never all)

-- whether they are fresh or not
checked : (h : List Record) → (line : List ℕ) × IsCheck h line
checked h =
    elim (fresh_or_not h) [
      | inl all ↦ (fresh_line h, fresh all refl)
      | inr never ↦ (stale_line h, stale never refl)
    ]

pub has_line : (account : Account) (h : List Record) → (line : List ℕ) × IsLine account h line
has_line Transcript h = ([], refl)
has_line Checked h = checked h
has_line (Summary count seed) h = checked h
