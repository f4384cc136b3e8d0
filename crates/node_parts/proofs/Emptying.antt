-- The open partitions of a round of which the node has no rows any more: all their nodes confirm them.
use Rattle.std.proofs.Common.{◌≡◌, ℕ, ◌+◌, ◌<◌, Bool, true, false, not, cond, List, [], ◌∷◌, ◌++◌, map, flat_map, refl, sym, ap, subst, ◌∙◌, append-nil}
use Rattle.std.specs.List.{filter}
use Rattle.layout_roles.specs.declared.layout.Layout.{Layout}
use Rattle.table_schema.specs.Words.{Words}
use Rattle.table_schema.specs.Laws.{Laws}
use Rattle.table_model.specs.Rows.{rows_in}
use Rattle.cluster_machine.specs.Node.{Node, Part, Confirmed, Round as Moved}
use Rattle.cluster_machine.specs.Rounds.{is_empty, has_rows, open_nodes, confirmations}
use Rattle.node_parts.specs.declared.contents.Contents.{Contents}
use Rattle.node_parts.specs.declared.rounds.Moving.{Moving}
use Rattle.node_parts.specs.Contents.{IsContents}
use Rattle.node_parts.specs.Rounds.{IsMoving, confirmed_all, has_any, open_parts_of, Empties}
use Rattle.node_parts.specs.Walks.{has_tables}
use Rattle.node_parts.proofs.Spelled.{has_both}

-- ---- nodes that confirm, one after the other

abbrev by_nodes : ℕ → List ℕ → List Confirmed
by_nodes p nodes = map (λ n. record { partition = p; node = n }) nodes

-- the first of these nodes have confirmed
abbrev pub ConfirmedSome : Moving → Moving → ℕ → List ℕ → Type 0
ConfirmedSome old new p nodes = (node : ℕ) (r : Moved) → IsMoving node old r → IsMoving node new (confirmed_all r p nodes)

pub none_confirmed : (m : Moving) (p : ℕ) → ConfirmedSome m m p []
none_confirmed m p node r is = subst (λ cs. IsMoving node m (record r { confirmed = cs })) (sym (append-nil r.confirmed)) is

-- the code's pairs that pass, one way and the other
pub filter_map_same : {A : Type 0} (f : A → ℕ × List ℕ) (test : ℕ × List ℕ → Bool) (items : List A) → map f (filter (λ i. test (f i)) items) ≡ filter test (map f items)
filter_map_same f test [] = refl
filter_map_same f test (i ∷ items) =
    elim (test (f i)) as (λ b. map f (cond b (i ∷ filter (λ j. test (f j)) items) (filter (λ j. test (f j)) items)) ≡ cond b (f i ∷ filter test (map f items)) (filter test (map f items))) [
      | true ↦ ap (λ l. f i ∷ l) (filter_map_same f test items)
      | false ↦ filter_map_same f test items
    ]

-- ---- partitions

module _ {R : Type 0} (join : R → R → R) (s : Words R) where
  -- the code's partition has no rows
  abbrev gone_in : {S : Type 0} → Contents S R → ℕ × List ℕ → List Confirmed
  gone_in c part = cond (has_tables s (rows_in s part.0 c.table)) [] (by_nodes part.0 part.1)

  -- of the first of these partitions those that have no rows are confirmed
  abbrev pub EmptiedSome : {S : Type 0} → Contents S R → Moving → Moving → List (ℕ × List ℕ) → Type 0
  EmptiedSome c old new parts = (node : ℕ) (r : Moved) → IsMoving node old r → IsMoving node new (record r { confirmed = r.confirmed ++ flat_map (gone_in c) parts })

  -- ---- all open partitions

  module _ {S : Type 0} (laws : Laws join s) (c : Contents S R) (x : Node R Layout) (is : IsContents join s c x) (r : Moved) where
    abbrev pair : Part → ℕ × List ℕ
    pair part = (part.partition, open_nodes r part)

    gone_or : (part : Part) → gone_in c (pair part) ≡ cond (has_rows join s x part.partition) [] (by_nodes part.partition (open_nodes r part))
    gone_or part = ap (λ b. cond b [] (by_nodes part.partition (open_nodes r part))) (has_both laws c x part.partition is)

    gone_by : (parts : List Part) (part : Part) (o b : Bool) → flat_map (gone_in c) (filter has_any (map pair parts)) ≡ confirmations (open_nodes r) (filter (λ q. not (has_rows join s x q.partition)) (filter (λ q. not (is_empty (open_nodes r q))) parts)) →
        not (is_empty (open_nodes r part)) ≡ o → has_rows join s x part.partition ≡ b →
        flat_map (gone_in c) (cond o (pair part ∷ filter has_any (map pair parts)) (filter has_any (map pair parts))) ≡
        confirmations (open_nodes r) (filter (λ q. not (has_rows join s x q.partition)) (cond o (part ∷ filter (λ q. not (is_empty (open_nodes r q))) parts) (filter (λ q. not (is_empty (open_nodes r q))) parts)))
    gone_by parts part false b rest eo eb = rest
    gone_by parts part true true rest eo eb =
        (λ i. (gone_or part ∙ ap (λ t. cond t [] (by_nodes part.partition (open_nodes r part))) eb) i ++ rest i)
        ∙ ap (λ t. confirmations (open_nodes r) (cond (not t) (part ∷ filter (λ q. not (has_rows join s x q.partition)) (filter (λ q. not (is_empty (open_nodes r q))) parts)) (filter (λ q. not (has_rows join s x q.partition)) (filter (λ q. not (is_empty (open_nodes r q))) parts)))) (sym eb)
    gone_by parts part true false rest eo eb =
        (λ i. (gone_or part ∙ ap (λ t. cond t [] (by_nodes part.partition (open_nodes r part))) eb) i ++ rest i)
        ∙ ap (λ t. confirmations (open_nodes r) (cond (not t) (part ∷ filter (λ q. not (has_rows join s x q.partition)) (filter (λ q. not (is_empty (open_nodes r q))) parts)) (filter (λ q. not (has_rows join s x q.partition)) (filter (λ q. not (is_empty (open_nodes r q))) parts)))) (sym eb)

    gone_all : (parts : List Part) → flat_map (gone_in c) (filter has_any (map pair parts)) ≡ confirmations (open_nodes r) (filter (λ q. not (has_rows join s x q.partition)) (filter (λ q. not (is_empty (open_nodes r q))) parts))
    gone_all [] = refl
    gone_all (part ∷ parts) = gone_by parts part (not (is_empty (open_nodes r part))) (has_rows join s x part.partition) (gone_all parts) refl refl

  filter_same : (f g : ℕ × List ℕ → Bool) (parts : List (ℕ × List ℕ)) → ((part : ℕ × List ℕ) → f part ≡ g part) → filter f parts ≡ filter g parts
  filter_same f g [] e = refl
  filter_same f g (part ∷ parts) e = λ i. cond (e part i) (part ∷ filter_same f g parts e i) (filter_same f g parts e i)

  pub all_emptied : {S : Type 0} (laws : Laws join s) (c : Contents S R) (old new : Moving) (parts filled : List (ℕ × List ℕ)) → EmptiedSome c old new parts → filled ≡ filter (λ part. has_tables s (rows_in s part.0 c.table)) parts → Empties join s c old new parts filled
  all_emptied laws c old new parts filled so are node x r is moving opened =
      record {
        moving = subst (λ cs. IsMoving node new (record r { confirmed = r.confirmed ++ cs })) (ap (flat_map (gone_in c)) opened ∙ gone_all laws c x is r r.parts) (so node r moving);
        filled_are = are ∙ ap (filter (λ part. has_tables s (rows_in s part.0 c.table))) opened ∙ filter_same (λ part. has_tables s (rows_in s part.0 c.table)) (λ part. has_rows join s x part.0) (open_parts_of r) (λ part. has_both laws c x part.0 is);
      }
