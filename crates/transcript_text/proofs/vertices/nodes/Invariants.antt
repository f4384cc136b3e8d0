use Rattle.std.proofs.Common.{take}
use Rattle.schedule_text.specs.Kinds.{texts}
use Rattle.transcript_text.specs.Words.{AreNodes}
use Rattle.transcript_text.proofs.vertices.nodes.Given as goal

abbrev pub invariant-loop-word : goal.invariant-loop-word
invariant-loop-word l = AreNodes (texts (take l.word-index l.words)) l.nodes
