use Rattle.std.proofs.Common.{sym, ◌∙◌}
use Rattle.cluster_machine.specs.World.{numbered}
use Rattle.wire_messages.specs.declared.phase.PhaseEnd.TheVariants.{Row, Kept}
use Rattle.k2v_model.specs.Run.{follow}
use Rattle.k2v_world.proofs.Follows.{silent_as, follow_nobody, read_ignored, kept_ignored, other_ends, reading_is, storing_is}
use Rattle.k2v_world.proofs.world.ItemWorld.follow.Goals as goal

pub returns-in_default-clause-plays : goal.returns-in_default-clause-plays
returns-in_default-clause-plays c =
    silent_as c.args.self.now c.quiet.result (λ s. follow s c.args.request (numbered s.requests c.args.request) c.args.end)
    (follow_nobody c.args.self.now c.args.request c.args.end (rw c.len.ensures at c.in_default.ensures.none)) c.quiet.ensures

pub returns-then-not-is_reading-clause-plays : goal.returns-then-not-is_reading-clause-plays
returns-then-not-is_reading-clause-plays c =
    rw c.in-Row.is (
    silent_as c.args.self.now c.quiet-then-not-is_reading.result (λ s. follow s c.args.request (numbered s.requests c.args.request) (Row c.in-Row.read))
    (read_ignored c.args.self.now c.in-Some.i c.args.request c.at.result.now (record { place = c.in-Some.ensures.found.0; there = c.at.ensures }) c.in-Row.read (sym c.is_reading.ensures ∙ c.if-not-is_reading.true))
    c.quiet-then-not-is_reading.ensures)

pub has_read-requires-clause-reading : goal.has_read-requires-clause-reading
has_read-requires-clause-reading c = record {
  one = c.at.result.now;
  at = record { place = c.in-Some.ensures.found.0; there = c.at.ensures };
  is_in = reading_is c.at.result.now.stage (sym c.is_reading.ensures ∙ c.if-not-is_reading.false);
}

pub returns-then-not-is_storing-clause-plays : goal.returns-then-not-is_storing-clause-plays
returns-then-not-is_storing-clause-plays c =
    rw c.in-Kept.is (
    silent_as c.args.self.now c.quiet-then-not-is_storing.result (λ s. follow s c.args.request (numbered s.requests c.args.request) Kept)
    (kept_ignored c.args.self.now c.in-Some.i c.args.request c.at-in-Kept.result.now (record { place = c.in-Some.ensures.found.0; there = c.at-in-Kept.ensures }) (sym c.is_storing.ensures ∙ c.if-not-is_storing.true))
    c.quiet-then-not-is_storing.ensures)

pub is_kept-requires-clause-storing : goal.is_kept-requires-clause-storing
is_kept-requires-clause-storing c = record {
  one = c.at-in-Kept.result.now;
  at = record { place = c.in-Some.ensures.found.0; there = c.at-in-Kept.ensures };
  is_in = storing_is c.at-in-Kept.result.now.stage (sym c.is_storing.ensures ∙ c.if-not-is_storing.false);
}

pub returns-clause-plays : goal.returns-clause-plays
returns-clause-plays c =
    silent_as c.args.self.now c.quiet-in_default-end.result (λ s. follow s c.args.request (numbered s.requests c.args.request) c.args.end)
    (λ s d. other_ends s c.args.request (numbered s.requests c.args.request) c.args.end c.in_default-end.not-Row c.in_default-end.not-Kept) c.quiet-in_default-end.ensures
