use Rattle.std.proofs.Common.{◌≡◌, ◌++◌, take, drop}
use Rattle.layout_text.specs.Settings.{put_role}
use Rattle.layout_text.proofs.read.place_of.Given as goal

abbrev pub invariant-loop-i : goal.invariant-loop-i
invariant-loop-i l = take l.i l.roles ++ put_role (drop l.i l.roles) l.role ≡ put_role l.roles l.role
