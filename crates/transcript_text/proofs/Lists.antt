-- Words of which each is read by itself.
use Rattle.std.proofs.Common.{◌≡◌, ℕ, zero, suc, ◌<◌, true, List, [], ◌∷◌, map, length, get_or, Bor, arith, Err}
use Rattle.std.specs.Prelude.{decimal}
use Rattle.std.specs.List.{list_all}
use Rattle.std.proofs.lemmas.Bool.{and_parts}
use Rattle.layout_roles.specs.Names.{is_zone_name}
use Rattle.schedule_text.specs.declared.fault.LineFault.{LineFault}
use Rattle.schedule_text.specs.Reads.{Reads}
use Rattle.schedule_text.specs.Kinds.{texts}
use Rattle.schedule_text.proofs.Inverse.{unread}
use Rattle.audit_model.specs.Lines.{zone_word, IsNumber, AreNumbers}
use Rattle.transcript_text.specs.Words.{IsZone, AreZones, AreNodes}

abbrev Words : Type 0
Words = List (Bor (List ℕ))

-- the bytes of word i
abbrev at : Words → ℕ → List ℕ
at words i = (get_or words i (record { ref_ptr = (0, 0); now = [] })).now

-- ---- zones

zone_at : (words : Words) (names : List (List ℕ)) (i : ℕ) (d : Bor (List ℕ)) → texts words ≡ map zone_word names → list_all is_zone_name names ≡ true → i < length words → (z : List ℕ) × IsZone (get_or words i d).now z
zone_at [] names i d e a lt = absurd (omega arith)
zone_at (w ∷ ws) [] i d e a lt = cc
zone_at (w ∷ ws) (n ∷ ns) zero d e a lt = (n, (cc, (and_parts (is_zone_name n) (list_all is_zone_name ns) a).0))
zone_at (w ∷ ws) (n ∷ ns) (suc i) d e a lt = let rest : texts ws ≡ map zone_word ns = cc in zone_at ws ns i d rest (and_parts (is_zone_name n) (list_all is_zone_name ns) a).1 (omega arith)

pub zone_unread : (words : Words) (i : ℕ) → i < length words → (f : LineFault) → Reads (IsZone (at words i)) (Err f) → Reads (AreZones (texts words)) (Err f)
zone_unread words i inside f none =
    unread (AreZones (texts words)) (IsZone (at words i)) f (λ names h. zone_at words names i (record { ref_ptr = (0, 0); now = [] }) h.0 h.1 inside) none

-- ---- nodes

node_at : (words : Words) (nodes : List ℕ) (i : ℕ) (d : Bor (List ℕ)) → texts words ≡ map decimal nodes → AreNumbers nodes → i < length words → (n : ℕ) × ((get_or words i d).now ≡ decimal n) × IsNumber n
node_at [] nodes i d e a lt = absurd (omega arith)
node_at (w ∷ ws) [] i d e a lt = cc
node_at (w ∷ ws) (n ∷ ns) zero d e a lt = (n, cc, a.0)
node_at (w ∷ ws) (n ∷ ns) (suc i) d e a lt = let rest : texts ws ≡ map decimal ns = cc in node_at ws ns i d rest a.1 (omega arith)

pub node_unread : (words : Words) (i : ℕ) → i < length words → (f : LineFault) → Reads (λ n. (at words i ≡ decimal n) × IsNumber n) (Err f) → Reads (AreNodes (texts words)) (Err f)
node_unread words i inside f none =
    unread (AreNodes (texts words)) (λ n. (at words i ≡ decimal n) × IsNumber n) f
    (λ nodes h. let n = node_at words nodes i (record { ref_ptr = (0, 0); now = [] }) h.0 h.1 inside in (n.0, (n.1, n.2))) none
