-- The lines of a run are the words of what they say.
use Rattle.std.proofs.Common.{◌≡◌, ℕ, Option, Some, None, List, [], ◌∷◌, ◌++◌, flat_map, map, length, refl, ap, sym, ◌∙◌, codes, decimal}
use Rattle.std.specs.List.{AllByRecursion, join_with_byte}
use Rattle.std.proofs.lemmas.List.{append_assoc, append-nil}
use Rattle.std.proofs.lemmas.Grind.{flat_map-append}
use Rattle.hex.specs.Hex.{encode_lower}
use Rattle.layout_roles.specs.declared.cut.Cut.{Cut}
use Rattle.layout_roles.specs.Text.{word, number}
use Rattle.cluster_machine.specs.declared.applied.Applied.{Applied}
use Rattle.cluster_machine.specs.declared.line.Line.{Line}
use Rattle.cluster_machine.specs.declared.line.Line.TheVariants as line
use Rattle.cluster_machine.specs.declared.step.Refusal.{Refusal}
use Rattle.cluster_machine.specs.declared.step.Refusal.TheVariants.{VersionTaken, VersionLimit, NotMember, NoSuchBucket, NoSuchMessage, Lost, NoSuchRequest, AlreadyEnded, TooFewNodes, TooFewZones, NoAssignment}
use Rattle.cluster_machine.specs.declared.step.Words.{Words}
use Rattle.cluster_machine.specs.declared.step.Words.TheVariants.{Empty, One, Idle, Two}
use Rattle.cluster_machine.specs.World.{NodeLine}
use Rattle.store_model.specs.declared.event.Numbered.{Numbered}
use Rattle.store_model.specs.Run.{Outcome}
use Rattle.text_model.specs.Grammar.{name_of}
use Rattle.text_model.specs.Transcript.{kind_text, done_text, end_word, node_text, size_text, digest_text, key_line, line_text, refusal_text, words_text, answer_text, event_text, end_line}
use Rattle.audit_model.specs.declared.said.Said.{Said}
use Rattle.audit_model.specs.declared.said.Said.TheVariants as said
use Rattle.audit_model.specs.declared.said.Answered.TheVariants as answered
use Rattle.audit_model.specs.Lines.{told_words, answer_words, refusal_words, word_if, version_word}
use Rattle.audit_laws.specs.Told.{said_text, saids_text, weighed, told_of, key_said, saids_of, IsSpoken, event_said, event_saids, node_said}

-- words, each after a space, and a line feed
abbrev ends_in : List (List ℕ) → List ℕ
ends_in [] = 10 ∷ []
ends_in (w ∷ ws) = 32 ∷ (w ++ ends_in ws)

joined : (w : List ℕ) (ws : List (List ℕ)) → join_with_byte 32 (w ∷ ws) ++ 10 ∷ [] ≡ w ++ ends_in ws
joined w [] = refl
joined w (v ∷ vs) = append_assoc w (32 ∷ join_with_byte 32 (v ∷ vs)) (10 ∷ []) ∙ ap (λ t. w ++ 32 ∷ t) (joined v vs)

words_end : (words : Words) → words_text words ++ 10 ∷ [] ≡ ends_in (answer_words words)
words_end Empty = refl
words_end (One n) = refl
words_end (Idle read least) = ap (λ t. 32 ∷ (codes "idle" ++ 32 ∷ t)) (append_assoc (decimal read) (number least) (10 ∷ []))
words_end (Two a b) = ap (λ t. 32 ∷ t) (append_assoc (decimal a) (number b) (10 ∷ []))

refusal_ends : (r : Refusal Cut) → word (refusal_text r) ++ 10 ∷ [] ≡ ends_in (refusal_words (weighed r))
refusal_ends (VersionTaken v) = refl
refusal_ends VersionLimit = refl
refusal_ends NotMember = refl
refusal_ends NoSuchBucket = refl
refusal_ends NoSuchMessage = refl
refusal_ends Lost = refl
refusal_ends NoSuchRequest = refl
refusal_ends AlreadyEnded = refl
refusal_ends (TooFewNodes nodes) = refl
refusal_ends (TooFewZones zones r) = ap (λ t. 32 ∷ (codes "TooFewZones" ++ 32 ∷ t)) (append_assoc (decimal zones) (number r) (10 ∷ []))
refusal_ends (NoAssignment cut) = refl

answer_ends : (refused : Option (Refusal Cut)) (words : Words) → word (answer_text refused words) ++ 10 ∷ [] ≡ ends_in (told_words (told_of refused words))
answer_ends None words = ap (λ t. 32 ∷ (codes "ok" ++ t)) (words_end words)
answer_ends (Some r) words = ap (λ t. 32 ∷ (codes "refused" ++ t)) (refusal_ends r)

-- words behind a text, each after a space
abbrev after_text : List ℕ → List (List ℕ) → List ℕ
after_text t [] = t
after_text t (w ∷ ws) = after_text (t ++ 32 ∷ w) ws

ends_after : (t : List ℕ) (ws : List (List ℕ)) → after_text t ws ++ 10 ∷ [] ≡ t ++ ends_in ws
ends_after t [] = refl
ends_after t (w ∷ ws) = ends_after (t ++ 32 ∷ w) ws ∙ append_assoc t (32 ∷ w) (ends_in ws)

-- a line of words
of_words : (w : List ℕ) (ws : List (List ℕ)) → after_text w ws ++ 10 ∷ [] ≡ join_with_byte 32 (w ∷ ws) ++ 10 ∷ []
of_words w ws = ends_after w ws ∙ sym (joined w ws)

after_both : (t : List ℕ) (ws vs : List (List ℕ)) → after_text (after_text t ws) vs ≡ after_text t (ws ++ vs)
after_both t [] vs = refl
after_both t (w ∷ ws) vs = after_both (t ++ 32 ∷ w) ws vs

-- an event's own line
pub event_line : (e : Numbered) (o : Outcome) → decimal e.line ++ word (name_of e.event) ++ word (answer_text o.refused o.words) ++ 10 ∷ [] ≡ said_text (event_said e o)
event_line e o =
    let name : List ℕ = name_of e.event in
    let answer : List ℕ = word (answer_text o.refused o.words) in
    append_assoc (decimal e.line ++ word name) answer (10 ∷ [])
    ∙ (append_assoc (decimal e.line) (word name) (answer ++ 10 ∷ [])
    ∙ (ap (λ t. decimal e.line ++ 32 ∷ (name ++ t)) (answer_ends o.refused o.words)
    ∙ sym (joined (decimal e.line) (name ∷ told_words (told_of o.refused o.words)))))

one : (s : Said) (text : List ℕ) → text ≡ said_text s → text ≡ saids_text (s ∷ [])
one s text e = e ∙ sym (append-nil (said_text s))

sized : (t : List ℕ) (size : Option ℕ) → t ++ size_text size ≡ after_text t (word_if decimal size)
sized t None = append-nil t
sized t (Some size) = refl

digested : (t : List ℕ) (md5 : Option (List ℕ)) → t ++ digest_text md5 ≡ after_text t (word_if encode_lower md5)
digested t None = append-nil t
digested t (Some md5) = refl

done_line : (w : List ℕ) (q : ℕ) (version : List ℕ) (size : Option ℕ) (md5 : Option (List ℕ)) →
    codes "done" ++ number q ++ word w ++ word version ++ size_text size ++ digest_text md5 ++ 10 ∷ [] ≡ join_with_byte 32 (codes "done" ∷ decimal q ∷ w ∷ version ∷ word_if decimal size ++ word_if encode_lower md5) ++ 10 ∷ []
done_line w q version size md5 =
    let first : List ℕ = codes "done" ++ number q ++ word w ++ word version in
    let sizes : List (List ℕ) = word_if decimal size in
    let digests : List (List ℕ) = word_if encode_lower md5 in
    ap (λ t. t ++ 10 ∷ []) (ap (λ t. t ++ digest_text md5) (sized first size) ∙ (digested (after_text first sizes) md5 ∙ after_both first sizes digests))
    ∙ of_words (codes "done") (decimal q ∷ w ∷ version ∷ sizes ++ digests)

key_is : (k : List ℕ × ℕ × ℕ × ℕ) → key_line k ≡ said_text (key_said k)
key_is k = of_words (codes "key") (k.0 ∷ (decimal k.1 ++ 47 ∷ decimal k.2) ∷ decimal k.3 ∷ [])

keys_end : (keys : List (List ℕ × ℕ × ℕ × ℕ)) → flat_map key_line keys ≡ saids_text (map key_said keys)
keys_end [] = refl
keys_end (k ∷ ks) = ap (λ t. t ++ flat_map key_line ks) (key_is k) ∙ ap (λ t. said_text (key_said k) ++ t) (keys_end ks)

-- each line of a run is the words of what it says
pub line_says : (l : Line Applied) → IsSpoken l → line_text l ≡ saids_text (saids_of l)
line_says (line.Layout shown) told = absurd told
line_says (line.Got m) told = one (said.Got m) _ (of_words (codes "got") (decimal m ∷ []))
line_says (line.Sent m k a b) told = one (said.Sent m k a b) _ (of_words (codes "sent") (decimal m ∷ kind_text k ∷ decimal a ∷ decimal b ∷ []))
line_says (line.Synced n v) told = one (said.Synced n v) _ (of_words (codes "synced") (decimal n ∷ decimal v ∷ []))
line_says (line.Dropped n ts id) told = one (said.Dropped n (ts, id)) _ (of_words (codes "dropped") (decimal n ∷ version_word (ts, id) ∷ []))
line_says (line.Done q w None None None) told = one (said.Done q w answered.None) _ (done_line (done_text w) q (codes "none") None None)
line_says (line.Done q w None (Some size) md5) told = cc
line_says (line.Done q w None None (Some md5)) told = cc
line_says (line.Done q w (Some v) size md5) told = one (said.Done q w (answered.Version v size md5)) _ (done_line (done_text w) q (version_word v) size md5)
line_says (line.Listed q keys) told =
    ap (λ t. t ++ flat_map key_line keys) (of_words (codes "done") (decimal q ∷ codes "list" ∷ decimal (length keys) ∷ [])) ∙ ap (λ t. said_text (said.Listed q (length keys)) ++ t) (keys_end keys)
line_says (line.Ended q w) told = one (said.Ended q w) _ (of_words (codes "ended") (decimal q ∷ end_word w ∷ []))

lines_say : (ls : List (Line Applied)) → AllByRecursion IsSpoken ls → flat_map line_text ls ≡ saids_text (flat_map saids_of ls)
lines_say [] told = refl
lines_say (l ∷ ls) told = (ap (λ t. t ++ flat_map line_text ls) (line_says l told.0) ∙ ap (λ t. saids_text (saids_of l) ++ t) (lines_say ls told.1)) ∙ sym (flat_map-append said_text (saids_of l) (flat_map saids_of ls))

-- the text of an event is what it says
pub event_says : (e : Numbered) (o : Outcome) → AllByRecursion IsSpoken o.lines → event_text e o ≡ saids_text (event_saids e o)
event_says e o told = ap (λ t. t ++ flat_map line_text o.lines) (event_line e o) ∙ ap (λ t. said_text (event_said e o) ++ t) (lines_say o.lines told)

-- so is the line of a node, and the last one
pub node_says : (n : NodeLine) → node_text n ≡ said_text (node_said n)
node_says n = of_words (codes "node") (decimal n.node ∷ codes "rows" ∷ decimal n.rows ∷ codes "blocks" ∷ decimal n.blocks ∷ codes "top" ∷ encode_lower n.top ∷ [])

pub end_says : (events requests messages : ℕ) → end_line events requests messages ≡ said_text (said.End events requests messages)
end_says events requests messages = of_words (codes "end") (decimal events ∷ decimal requests ∷ decimal messages ∷ [])
