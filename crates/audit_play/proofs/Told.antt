-- The text of each event, of a node and of the end ends with a line feed.
use Rattle.std.proofs.Common.{◌≡◌, ℕ, Bool, true, Option, Some, None, List, [], ◌∷◌, ◌++◌, length, refl, ◌∙◌}
use Rattle.std.specs.Prelude.{codes, decimal, flat_map}
use Rattle.std.specs.List.{range_with_len}
use Rattle.hex.specs.Hex.{encode_lower}
use Rattle.layout_roles.specs.declared.cut.Cut.{Cut}
use Rattle.layout_roles.specs.declared.certified.Certified.{Certified}
use Rattle.layout_roles.specs.declared.role.Role.{Role}
use Rattle.layout_roles.specs.Zones.{Name, zone_names}
use Rattle.layout_roles.specs.Text.{word, number, set_lines, side_lines, node_word, cut_line, nodes_line, cut_text, size_line, redundancy_line, layout_text}
use Rattle.crdt_rows.specs.AnyRow.{any_join}
use Rattle.object_schema.specs.Schema.{words}
use Rattle.cluster_machine.specs.declared.applied.Applied.{Applied}
use Rattle.cluster_machine.specs.declared.line.Line.{Line}
use Rattle.cluster_machine.specs.declared.line.Line.TheVariants as line
use Rattle.cluster_machine.specs.Layouts.{layouts}
use Rattle.cluster_machine.specs.World.{NodeLine, node_line}
use Rattle.store_model.specs.declared.event.Numbered.{Numbered}
use Rattle.store_model.specs.Run.{World, State, Outcome, start}
use Rattle.store_model.specs.Events.{Turn, outcome_of, run}
use Rattle.text_model.specs.Grammar.{name_of}
use Rattle.text_model.specs.Transcript.{kind_text, done_text, end_word, version_text, size_text, digest_text, key_line, line_text, answer_text, event_text, turns_text, end_line, shown_text, line_at, nodes_text, tail_text, transcript}
use Rattle.audit_play.proofs.Whole.{ends, whole, ends_both, both_whole}

-- whatever stands before the line feed, and before that
feed_ends : (t : Bool) (a : List ℕ) → ends t (a ++ 10 ∷ []) ≡ true
feed_ends t a = ends_both t a (10 ∷ [])

feed_whole : (a : List ℕ) → whole (a ++ 10 ∷ []) ≡ true
feed_whole a = feed_ends true a

each_whole : {A : Type 0} (f : A → List ℕ) (xs : List A) → ((x : A) → whole (f x) ≡ true) → whole (flat_map f xs) ≡ true
each_whole f [] h = refl
each_whole f (x ∷ xs) h = both_whole (f x) (flat_map f xs) (h x) (each_whole f xs h)

cut_ends : (t : Bool) (names : List Name) (cut : Cut) → ends t (cut_text names cut) ≡ true
unfolding nodes_line
cut_ends t names cut =
    let first : List ℕ = cut_line cut.size cut.weight ++ side_lines names cut.side in
    ends_both t first (nodes_line cut.side) ∙ feed_ends (ends t first) (codes "cn" ++ flat_map node_word cut.side)

layout_whole : (roles : List Role) (c : Certified) → whole (layout_text roles c) ≡ true
layout_whole roles c =
    let first : List ℕ = size_line c.size ++ redundancy_line c.r ++ set_lines c.sets.sets in
    ends_both true first (cut_text (zone_names roles) c.cut) ∙ cut_ends (ends true first) (zone_names roles) c.cut

key_whole : (k : List ℕ × ℕ × ℕ × ℕ) → whole (key_line k) ≡ true
key_whole k = feed_whole (codes "key" ++ word k.0 ++ word (decimal k.1 ++ 47 ∷ decimal k.2) ++ number k.3)

line_whole : (l : Line Applied) → whole (line_text l) ≡ true
line_whole (line.Layout shown) = layout_whole shown.roles.list shown.certified
line_whole (line.Got m) = feed_whole (codes "got" ++ number m)
line_whole (line.Sent m k a b) = feed_whole (codes "sent" ++ number m ++ word (kind_text k) ++ number a ++ number b)
line_whole (line.Synced n v) = feed_whole (codes "synced" ++ number n ++ number v)
line_whole (line.Dropped n ts id) = feed_whole (codes "dropped" ++ number n ++ word (version_text (Some (ts, id))))
line_whole (line.Done q w version size md5) = feed_whole (codes "done" ++ number q ++ word (done_text w) ++ word (version_text version) ++ size_text size ++ digest_text md5)
line_whole (line.Listed q keys) =
    both_whole (codes "done" ++ number q ++ word (codes "list") ++ number (length keys) ++ 10 ∷ []) (flat_map key_line keys)
    (feed_whole (codes "done" ++ number q ++ word (codes "list") ++ number (length keys))) (each_whole key_line keys key_whole)
line_whole (line.Ended q w) = feed_whole (codes "ended" ++ number q ++ word (end_word w))

pub event_whole : (e : Numbered) (o : Outcome) → whole (event_text e o) ≡ true
event_whole e o =
    both_whole ((decimal e.line ++ word (name_of e.event) ++ word (answer_text o.refused o.words)) ++ 10 ∷ []) (flat_map line_text o.lines)
    (feed_whole (decimal e.line ++ word (name_of e.event) ++ word (answer_text o.refused o.words))) (each_whole line_text o.lines line_whole)

pub turns_whole : (s : State) (turns : List Turn) → whole (turns_text s turns) ≡ true
turns_whole s [] = refl
turns_whole s (t ∷ ts) = both_whole (event_text t.numbered (outcome_of s t)) (turns_text (outcome_of s t).state ts) (event_whole t.numbered (outcome_of s t)) (turns_whole (outcome_of s t).state ts)

shown_whole : (o : Option NodeLine) → whole (shown_text o) ≡ true
shown_whole None = refl
shown_whole (Some n) =
    feed_whole (codes "node" ++ number n.node ++ word (codes "rows") ++ number n.rows ++ word (codes "blocks") ++ number n.blocks ++ word (codes "top") ++ word (encode_lower n.top))

nodes_whole : (w : World) → whole (nodes_text w) ≡ true
nodes_whole w = each_whole (line_at w) (range_with_len 1 16) (λ n. shown_whole (node_line any_join words layouts w n))

tail_whole : (events : ℕ) (s : State) → whole (tail_text events s) ≡ true
tail_whole events s =
    both_whole (nodes_text s.world) (end_line events (length s.world.requests) (length s.world.messages)) (nodes_whole s.world)
    (feed_whole (codes "end" ++ number events ++ number (length s.world.requests) ++ number (length s.world.messages)))

pub transcript_whole : (turns : List Turn) → whole (transcript turns) ≡ true
transcript_whole turns = both_whole (turns_text start turns) (tail_text (length turns) (run start turns)) (turns_whole start turns) (tail_whole (length turns) (run start turns))
