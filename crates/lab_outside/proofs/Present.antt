-- What holds of the connection that is present, from one call to the next.
use Rattle.std.proofs.Common.{◌≡◌, ℕ, List, drop, Option, Some, None, IsSome, Ok, refl, ◌∙◌}
use Rattle.lab_outside.specs.declared.ports.Link as ports
use Rattle.lab_outside.specs.Links.{Stays}
use Rattle.lab_outside.specs.Connection.{Connection, OnPresent, WritesTo}
use Rattle.lab_outside.proofs.Bytes.{Written, written_none, written_more}

pub stays_none : {L : Type 0} (l : ports.Ghosts L) (link : L) → Stays l link link
stays_none l link = record { coming = refl; past = refl; open_at = refl; faults = refl }

pub stays_more : {L : Type 0} (l : ports.Ghosts L) (a b c : L) → Stays l a b → Stays l b c → Stays l a c
stays_more l a b c s t = record { coming = t.coming ∙ s.coming; past = t.past ∙ s.past; open_at = t.open_at ∙ s.open_at; faults = t.faults ∙ s.faults }

pub still_present : (R : Connection → Connection → Type 0) (o n : Option Connection) → IsSome o → OnPresent R o n → IsSome n
still_present R None n h k = cc
still_present R (Some c) None h k = absurd k
still_present R (Some c) (Some d) h k = refl

pub on_present_same : (R : Connection → Connection → Type 0) (o : Option Connection) → ((c : Connection) → R c c) → OnPresent R o o
on_present_same R None f = tt
on_present_same R (Some c) f = f c

pub on_present : (R S : Connection → Connection → Type 0) (o n : Option Connection) → ((c d : Connection) → R c d → S c d) → OnPresent R o n → OnPresent S o n
on_present R S None n f h = tt
on_present R S (Some c) None f h = absurd h
on_present R S (Some c) (Some d) f h = f c d h

pub on_present_then : (R S T : Connection → Connection → Type 0) (o m n : Option Connection) → ((c d e : Connection) → R c d → S d e → T c e) → OnPresent R o m → OnPresent S m n → OnPresent T o n
on_present_then R S T None m n f h k = tt
on_present_then R S T (Some c) None n f h k = absurd h
on_present_then R S T (Some c) (Some d) None f h k = absurd k
on_present_then R S T (Some c) (Some d) (Some e) f h k = f c d e h k

-- of `bytes` all but `rest` was written to the connection
pub record IsPart (bytes rest : List ℕ) (c d : Connection) : Type 0 where
  pub part : Written c.written d.written bytes rest
  pub steady : d.faults ≡ c.faults
  pub unread : d.left ≡ c.left

pub part_none : (bytes : List ℕ) (c : Connection) → IsPart bytes bytes c c
part_none bytes c = record { part = written_none c.written bytes; steady = refl; unread = refl }

pub part_more : {E : Type 0} (bytes rest : List ℕ) (n : ℕ) (c d e : Connection) → IsPart bytes rest c d → WritesTo {E = E} (Ok n) rest d e → IsPart bytes (drop n rest) c e
part_more bytes rest n c d e p w =
    record {
      part = written_more c.written d.written e.written bytes rest n p.part w.bytes;
      steady = w.steady ∙ p.steady;
      unread = w.unread ∙ p.unread;
    }

-- what a call on the present connection says of no connection
pub of_present : (R : Connection → Connection → Type 0) (P : Type 0) (o n : Option Connection) → IsSome o → ((c d : Connection) → R c d → P) → OnPresent R o n → P
of_present R P None n h f k = absurd (cc)
of_present R P (Some c) None h f k = absurd k
of_present R P (Some c) (Some d) h f k = f c d k
