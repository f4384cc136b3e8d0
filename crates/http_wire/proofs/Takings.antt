-- Bytes that are taken from a connection one piece after the other.
use Rattle.std.proofs.Common.{ℕ, List, [], ◌++◌, refl, sym, ◌∙◌, ap, append_assoc, append-nil}
use Rattle.lab_outside.specs.Connection.{Connection}
use Rattle.lab_outside.proofs.Bytes.{consumes_none, consumes_more}
use Rattle.http_wire.specs.Reading.{Takes}

pub takes_none : (kept : List ℕ) (c : Connection) → Takes kept kept c c
takes_none kept c = record { taken = []; seen_is = sym (append-nil kept); consumed = consumes_none c.left; unwritten = refl; steady = refl }

pub takes_more : (kept seen later : List ℕ) (c d e : Connection) → Takes kept seen c d → Takes seen later d e → Takes kept later c e
takes_more kept seen later c d e t u =
    record {
      taken = t.taken ++ u.taken;
      seen_is = u.seen_is ∙ ap (λ x. x ++ u.taken) t.seen_is ∙ append_assoc kept t.taken u.taken;
      consumed = consumes_more c.left d.left e.left t.taken u.taken t.consumed u.consumed;
      unwritten = u.unwritten ∙ t.unwritten;
      steady = u.steady ∙ t.steady;
    }
