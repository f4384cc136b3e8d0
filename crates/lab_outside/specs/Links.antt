-- What a call on the connection that is present leaves of its link.
use Rattle.std.specs.Prelude.{◌≡◌}
use Rattle.lab_outside.specs.declared.ports.Link as ports

-- the connections to come, those that are past, the port and the link's own count of faults stay
pub record Stays {L : Type 0} (l : ports.Ghosts L) (old new : L) : Type 0 where
  pub coming : l.coming new ≡ l.coming old
  pub past : l.past new ≡ l.past old
  pub open_at : l.open_at new ≡ l.open_at old
  pub faults : l.faults new ≡ l.faults old
