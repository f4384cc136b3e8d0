-- What is judged: the events of a schedule, and whole lines.
use Rattle.std.specs.Prelude.{ℕ, List}
use Rattle.history_model.specs.declared.record.Record.{Record}
use Rattle.history_model.specs.Fresh.{Fresh}
use Rattle.store_model.specs.declared.event.Numbered.{Numbered}
use Rattle.text_model.specs.Grammar.{lines_of}
use Rattle.text_model.specs.Played.{AreScheduled}
use Rattle.audit_model.specs.declared.said.Said.{Said}
use Rattle.audit_model.specs.Heard.{AscendFrom, AreReadable}
use Rattle.audit_prints.specs.declared.sheet.Sheet.{Sheet}
use Rattle.audit_play.specs.Parting.{IsWhole}
use Rattle.audit_play.specs.Comparing.{AreCompared}

-- the events are as those of a schedule, and the text is whole lines
pub record IsToJudge (events : List Numbered) (text : List ℕ) : Type 0 where
  pub scheduled : AreScheduled events
  pub ascend : AscendFrom 0 events
  pub whole : IsWhole text

-- and the text can be read: it says this, and gives this account
pub record IsRead (events : List Numbered) (text : List ℕ) (saids : List Said) (h : List Record) : Type 0 where
  pub judged : IsToJudge events text
  pub readable : AreReadable events (lines_of text) saids h

-- and this account is fresh
pub record IsReadFresh (events : List Numbered) (text : List ℕ) (saids : List Said) (h : List Record) : Type 0 where
  pub read : IsRead events text saids h
  pub fresh : Fresh h

-- and each layout that it prints is lawful, and has a sheet
pub record IsComparedFresh (events : List Numbered) (text : List ℕ) (h : List Record) (sheets : List Sheet) : Type 0 where
  pub saids : List Said
  pub compared : AreCompared events text saids h sheets
  pub fresh : Fresh h
