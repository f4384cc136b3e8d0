-- What a run tells beside its events' own lines is whole lines that begin with no digit, where no key and no zone's name holds a line feed.
use Rattle.std.proofs.Common.{◌≡◌, ℕ, zero, suc, ◌+◌, ◌-◌, Bool, true, false, if◌then◌else◌, nat_eq, Option, Some, None, List, [], ◌∷◌, ◌++◌, length, map, refl, arith}
use Rattle.std.specs.Prelude.{⊤, codes, decimal, flat_map, get_or}
use Rattle.std.specs.Cmp.Lexicographic.{pointwise}
use Rattle.std.specs.List.{AllByRecursion, filter, range_with_len}
use Rattle.layout_roles.specs.declared.vertex.Vertex.{Vertex}
use Rattle.layout_roles.specs.declared.vertex.Vertex.TheVariants.{Source, Up, Down, Zone, Node, Sink}
use Rattle.layout_roles.specs.declared.cut.Cut.{Cut}
use Rattle.layout_roles.specs.declared.certified.Certified.{Certified}
use Rattle.layout_roles.specs.declared.role.Role.{Role}
use Rattle.layout_roles.specs.Zones.{Name, zone_names}
use Rattle.layout_roles.specs.Fits.{NodeSet}
use Rattle.layout_roles.specs.Runs.{Run, once, joined, runs, run_lines}
use Rattle.layout_roles.specs.Text.{word, number, set_line, set_lines, is_in_partition, vertex_word, side_words, side_line, side_lines, node_word, cut_line, nodes_line, cut_text, size_line, redundancy_line, layout_text}
use Rattle.cluster_machine.specs.declared.applied.Applied.{Applied}
use Rattle.cluster_machine.specs.declared.line.Line.{Line}
use Rattle.cluster_machine.specs.declared.line.Line.TheVariants as line
use Rattle.cluster_machine.specs.declared.line.SentKind.{SentKind}
use Rattle.cluster_machine.specs.declared.line.SentKind.TheVariants as kind
use Rattle.cluster_machine.specs.declared.line.DoneWord.{DoneWord}
use Rattle.cluster_machine.specs.declared.line.DoneWord.TheVariants as done
use Rattle.cluster_machine.specs.declared.line.EndWord.{EndWord}
use Rattle.cluster_machine.specs.declared.line.EndWord.TheVariants as ending
use Rattle.text_model.specs.Transcript.{kind_text, done_text, end_word, version_text, size_text, digest_text, key_line, line_text}
use Rattle.audit_runs.specs.Whole.{is_unbroken, IsOtherLines, IsUnbroken}
use Rattle.audit_runs.proofs.Lines.{Free, free_both, decimal_free, no_lines, both_lines, one_line, each_lines}
use Rattle.audit_runs.proofs.Tails.{hex_free, and_number}

-- ---- requests and messages

pub kind_free : (k : SentKind) → Free 10 (kind_text k)
kind_free kind.Get = refl
kind_free kind.Row = refl
kind_free kind.Range = refl
kind_free kind.Rows = refl
kind_free kind.Store = refl
kind_free kind.Stored = refl
kind_free kind.Behind = refl
kind_free kind.NotHere = refl
kind_free kind.BlockGet = refl
kind_free kind.Block = refl
kind_free kind.NoBlock = refl
kind_free kind.Tomb = refl
kind_free kind.Tombed = refl
kind_free kind.Forget = refl
kind_free kind.Walk = refl
kind_free kind.Same = refl
kind_free kind.Differ = refl
kind_free kind.View = refl

pub done_free : (w : DoneWord) → Free 10 (done_text w)
done_free done.Put = refl
done_free done.Get = refl
done_free done.Head = refl
done_free done.Delete = refl
done_free done.Copy = refl

pub end_free : (w : EndWord) → Free 10 (end_word w)
end_free ending.Expired = refl
end_free ending.Restarted = refl
end_free ending.Superseded = refl

version_free : (v : Option (ℕ × ℕ)) → Free 10 (version_text v)
version_free None = refl
version_free (Some v) = free_both 10 (decimal v.0) (47 ∷ decimal v.1) (decimal_free 10 v.0 (omega arith)) (decimal_free 10 v.1 (omega arith))

size_free : (size : Option ℕ) → Free 10 (size_text size)
size_free None = refl
size_free (Some size) = decimal_free 10 size (omega arith)

digest_free : (md5 : Option (List ℕ)) → Free 10 (digest_text md5)
digest_free None = refl
digest_free (Some md5) = hex_free md5

key_is : (k : List ℕ × ℕ × ℕ × ℕ) → is_unbroken k.0 ≡ true → IsOtherLines (key_line k)
key_is k unbroken =
    let version : List ℕ = decimal k.1 ++ 47 ∷ decimal k.2 in
    one_line (codes "key" ++ word k.0 ++ word version ++ number k.3)
    (and_number (codes "key" ++ word k.0 ++ word version) k.3
    (free_both 10 (codes "key" ++ word k.0) (word version) (free_both 10 (codes "key") (word k.0) refl unbroken) (version_free (Some (k.1, k.2))))) refl

keys_are : (keys : List (List ℕ × ℕ × ℕ × ℕ)) → AllByRecursion (λ k. is_unbroken k.0 ≡ true) keys → AllByRecursion (λ k. IsOtherLines (key_line k)) keys
keys_are [] h = tt
keys_are (k ∷ ks) h = (key_is k h.0, keys_are ks h.1)

-- ---- layouts

each_free : {A : Type 0} (f : A → List ℕ) (xs : List A) → ((x : A) → Free 10 (f x)) → Free 10 (flat_map f xs)
each_free f [] h = refl
each_free f (x ∷ xs) h = free_both 10 (f x) (flat_map f xs) (h x) (each_free f xs h)

module _ {A : Type 0} (same : A → A → Bool) (P : A → Type 0) where
  joined_are : (x : A) (rs : List (Run A)) → P x → AllByRecursion (λ (r : Run A). P r.value) rs → AllByRecursion (λ (r : Run A). P r.value) (joined same x rs)
  joined_are x [] h k = (h, tt)
  joined_are x (r ∷ rs) h k =
      elim (same x r.value) as (λ b. AllByRecursion (λ (q : Run A). P q.value) (if b then record { value = x; count = suc r.count } ∷ rs else once x ∷ r ∷ rs)) [
        | true ↦ (h, k.1)
        | false ↦ (h, k)
      ]

  runs_are : (xs : List A) → AllByRecursion P xs → AllByRecursion (λ (r : Run A). P r.value) (runs same xs)
  runs_are [] h = tt
  runs_are (x ∷ xs) h = joined_are x (runs same xs) h.0 (runs_are xs h.1)

  lines_of_runs : (f : ℕ → ℕ → A → List ℕ) → ((first last : ℕ) (x : A) → P x → IsOtherLines (f first last x)) → (place : ℕ) (rs : List (Run A)) → AllByRecursion (λ (r : Run A). P r.value) rs →
      IsOtherLines (run_lines f place rs)
  lines_of_runs f each place [] h = no_lines
  lines_of_runs f each place (r ∷ rs) h =
      both_lines (f place (place + r.count - 1) r.value) (run_lines f (place + r.count) rs) (each place (place + r.count - 1) r.value h.0) (lines_of_runs f each (place + r.count) rs h.1)

any_set : (sets : List NodeSet) → AllByRecursion (λ (set : NodeSet). ⊤) sets
any_set [] = tt
any_set (s ∷ ss) = (tt, any_set ss)

set_is : (first last : ℕ) (set : NodeSet) → IsOtherLines (set_line first last set)
set_is first last set =
    one_line (codes "p" ++ number first ++ number last ++ flat_map number set)
    (free_both 10 (codes "p" ++ number first ++ number last) (flat_map number set) (and_number (codes "p" ++ number first) last (and_number (codes "p") first refl))
    (each_free number set (λ n. decimal_free 10 n (omega arith)))) refl

sets_are : (sets : List NodeSet) → IsOtherLines (set_lines sets)
unfolding set_lines
sets_are sets = lines_of_runs (pointwise nat_eq) (λ (set : NodeSet). ⊤) set_line (λ first last set h. set_is first last set) 0 (runs (pointwise nat_eq) sets) (runs_are (pointwise nat_eq) (λ (set : NodeSet). ⊤) sets (any_set sets))

name_at : (names : List Name) (i : ℕ) → AllByRecursion (λ name. is_unbroken name ≡ true) names → Free 10 (get_or names i [])
name_at [] i h = refl
name_at (n ∷ ns) zero h = h.0
name_at (n ∷ ns) (suc i) h = name_at ns i h.1

module _ (names : List Name) (unbroken : AllByRecursion (λ name. is_unbroken name ≡ true) names) where
  vertex_free : (v : Vertex) → Free 10 (word (vertex_word names v))
  vertex_free (Up p) = refl
  vertex_free (Down p) = refl
  vertex_free (Zone p i) = name_at names i unbroken
  vertex_free (Node n) = refl
  vertex_free Source = refl
  vertex_free Sink = refl

  side_is : (first last : ℕ) (w : List ℕ) → Free 10 w → IsOtherLines (side_line first last w)
  side_is first last [] h = no_lines
  side_is first last (b ∷ w) h =
      one_line (codes "c" ++ number first ++ number last ++ (b ∷ w))
      (free_both 10 (codes "c" ++ number first ++ number last) (b ∷ w) (and_number (codes "c" ++ number first) last (and_number (codes "c") first refl)) h) refl

  each_side : (side : List Vertex) (ps : List ℕ) → AllByRecursion (Free 10) (map (side_words names side) ps)
  each_side side [] = tt
  each_side side (p ∷ ps) = (each_free (λ vertex. word (vertex_word names vertex)) (filter (is_in_partition p) side) vertex_free, each_side side ps)

  sides_are : (side : List Vertex) → IsOtherLines (side_lines names side)
  unfolding side_lines
  sides_are side =
      lines_of_runs (pointwise nat_eq) (Free 10) side_line side_is 0 (runs (pointwise nat_eq) (map (side_words names side) (range_with_len 0 256)))
      (runs_are (pointwise nat_eq) (Free 10) (map (side_words names side) (range_with_len 0 256)) (each_side side (range_with_len 0 256)))

  node_free : (v : Vertex) → Free 10 (node_word v)
  node_free (Node n) = decimal_free 10 n (omega arith)
  node_free (Up p) = refl
  node_free (Down p) = refl
  node_free (Zone p i) = refl
  node_free Source = refl
  node_free Sink = refl

  nodes_are : (side : List Vertex) → IsOtherLines (nodes_line side)
  unfolding nodes_line
  nodes_are side = one_line (codes "cn" ++ flat_map node_word side) (free_both 10 (codes "cn") (flat_map node_word side) refl (each_free node_word side node_free)) refl

  cut_is : (cut : Cut) → IsOtherLines (cut_text names cut)
  unfolding cut_line
  cut_is cut =
      both_lines (cut_line cut.size cut.weight ++ side_lines names cut.side) (nodes_line cut.side)
      (both_lines (cut_line cut.size cut.weight) (side_lines names cut.side)
      (one_line (codes "cut" ++ number cut.size ++ number cut.weight) (and_number (codes "cut" ++ number cut.size) cut.weight (and_number (codes "cut") cut.size refl)) refl)
      (sides_are cut.side)) (nodes_are cut.side)

layout_is : (roles : List Role) (c : Certified) → AllByRecursion (λ name. is_unbroken name ≡ true) (zone_names roles) → IsOtherLines (layout_text roles c)
unfolding size_line redundancy_line
layout_is roles c unbroken =
    both_lines (size_line c.size ++ redundancy_line c.r ++ set_lines c.sets.sets) (cut_text (zone_names roles) c.cut)
    (both_lines (size_line c.size ++ redundancy_line c.r) (set_lines c.sets.sets)
    (both_lines (size_line c.size) (redundancy_line c.r) (one_line (codes "size" ++ number c.size) (and_number (codes "size") c.size refl) refl) (one_line (codes "redundancy" ++ number c.r) (and_number (codes "redundancy") c.r refl) refl))
    (sets_are c.sets.sets)) (cut_is (zone_names roles) unbroken c.cut)

-- ---- all lines

pub line_is : (l : Line Applied) → IsUnbroken l → IsOtherLines (line_text l)
line_is (line.Layout shown) h = layout_is shown.roles.list shown.certified h
line_is (line.Got m) h = one_line (codes "got" ++ number m) (and_number (codes "got") m refl) refl
line_is (line.Sent m k a b) h =
    one_line (codes "sent" ++ number m ++ word (kind_text k) ++ number a ++ number b)
    (and_number (codes "sent" ++ number m ++ word (kind_text k) ++ number a) b (and_number (codes "sent" ++ number m ++ word (kind_text k)) a
    (free_both 10 (codes "sent" ++ number m) (word (kind_text k)) (and_number (codes "sent") m refl) (kind_free k)))) refl
line_is (line.Synced n v) h = one_line (codes "synced" ++ number n ++ number v) (and_number (codes "synced" ++ number n) v (and_number (codes "synced") n refl)) refl
line_is (line.Dropped n ts id) h =
    one_line (codes "dropped" ++ number n ++ word (version_text (Some (ts, id))))
    (free_both 10 (codes "dropped" ++ number n) (word (version_text (Some (ts, id)))) (and_number (codes "dropped") n refl) (version_free (Some (ts, id)))) refl
line_is (line.Done q w version size md5) h =
    let first : List ℕ = codes "done" ++ number q ++ word (done_text w) in
    one_line (first ++ word (version_text version) ++ size_text size ++ digest_text md5)
    (free_both 10 (first ++ word (version_text version) ++ size_text size) (digest_text md5)
    (free_both 10 (first ++ word (version_text version)) (size_text size)
    (free_both 10 first (word (version_text version)) (free_both 10 (codes "done" ++ number q) (word (done_text w)) (and_number (codes "done") q refl) (done_free w)) (version_free version))
    (size_free size)) (digest_free md5)) refl
line_is (line.Listed q keys) h =
    both_lines (codes "done" ++ number q ++ word (codes "list") ++ number (length keys) ++ 10 ∷ []) (flat_map key_line keys)
    (one_line (codes "done" ++ number q ++ word (codes "list") ++ number (length keys))
    (and_number (codes "done" ++ number q ++ word (codes "list")) (length keys) (free_both 10 (codes "done" ++ number q) (word (codes "list")) (and_number (codes "done") q refl) refl)) refl)
    (each_lines key_line keys (keys_are keys h))
line_is (line.Ended q w) h =
    one_line (codes "ended" ++ number q ++ word (end_word w)) (free_both 10 (codes "ended" ++ number q) (word (end_word w)) (and_number (codes "ended") q refl) (end_free w)) refl
