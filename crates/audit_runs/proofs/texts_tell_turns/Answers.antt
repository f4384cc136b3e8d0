use Rattle.std.specs.Prelude.{length}
use Rattle.store_model.specs.Run.{start}
use Rattle.store_model.specs.Events.{run}
use Rattle.text_model.specs.Grammar.{lines_of}
use Rattle.text_model.specs.Transcript.{transcript, tail_text}
use Rattle.audit_model.specs.Heard.{nothing_heard}
use Rattle.audit_runs.proofs.Texts.{all_say, tell_others, text_tells}
use Rattle.audit_runs.proofs.Tails.{tail_is}
use Rattle.audit_runs.proofs.texts_tell_turns.Goals as goal

pub returns : goal.returns
returns c = λ events turns saids history small unbroken readable.
    text_tells (tail_text (length turns) (run start turns)) (tail_is (length turns) (run start turns)) start turns saids small (tell_others c.other_lines_are_whole.ensures start turns unbroken)
    (all_say events nothing_heard readable.last (lines_of (transcript turns)) saids readable.hears)
