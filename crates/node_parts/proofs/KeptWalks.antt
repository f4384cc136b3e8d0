-- The walks by partition and node against those of the model: walks that begin, and one that goes on after an answer.
use Rattle.std.proofs.Common.{◌≡◌, ◌<◌, ℕ, ◌==◌, ◌&&◌, Bool, true, false, cond, Option, Some, None, option_map, List, [], ◌∷◌, ◌++◌, map, length, refl, sym, ap, subst, ◌∙◌, append-nil, append_assoc, arith}
use Rattle.std.specs.Option.{option_or}
use Rattle.std.specs.Ordering.{is_eq}
use Rattle.std.specs.BTreeMap.{get}
use Rattle.std.proofs.lemmas.Bool.{eqb-true}
use Rattle.crdt_core.specs.EntryLaws.{and_parts}
use Rattle.layout_roles.specs.declared.layout.Layout.{Layout}
use Rattle.table_schema.specs.Words.{Words}
use Rattle.walk_model.specs.Walking.{Walking, is_open}
use Rattle.merkle_sync.specs.declared.walk_end.WalkEnd.{WalkEnd}
use Rattle.merkle_sync.specs.declared.walk_end.WalkEnd.TheVariants.{Same, Ask, Push}
use Rattle.merkle_sync.specs.Telling.{Tells}
use Rattle.cluster_machine.specs.Node.{Node, Walk}
use Rattle.cluster_machine.specs.Rounds.{is_empty, is_walk, walk_at, without_walk, with_walk, renewed}
use Rattle.node_parts.specs.declared.contents.Contents.{Contents}
use Rattle.node_parts.specs.declared.walks.Answer.{Answer}
use Rattle.node_parts.specs.declared.walks.NodeWalk.{NodeWalk}
use Rattle.node_parts.specs.declared.walks.Walks.{Walks}
use Rattle.node_parts.specs.Contents.{IsContents}
use Rattle.node_parts.specs.Walks.{AreWalks, walk_in, walk_of, walk_cmp, has_ended, awaiting, awaiting_in, asked_by, state_after, Tell, IsSpelled, GoesOn}
use Rattle.node_parts.proofs.PlacedWalks.{same_place, found_at, taken_out, put_in, renewed_at}

abbrev pub as_walk : ℕ → Walking → Walk
as_walk n state = record { node = n; state = state }

-- ---- walks that begin

-- those that were taken from the end are there, each in the place of the one before it
pub record Begun (old new : Walks) (all left : List NodeWalk) : Type 0 where
  pub done : List NodeWalk
  pub all_are : all ≡ left ++ done
  pub placed : (p n : ℕ) → walk_in new p n ≡ option_or (walk_at p n (map walk_of done)) (walk_in old p n)

pub none_begun : (walks : Walks) (all : List NodeWalk) → Begun walks walks all all
none_begun walks all = record { done = []; all_are = sym (append-nil all); placed = λ p n. refl }

-- the walk at a place, where this state was put at this one
pub put_at : (p n q m : ℕ) (state : Walking) (old new : Option Walking) → new ≡ cond (is_eq (walk_cmp (q, m) (p, n))) (Some state) old →
    option_map (as_walk n) new ≡ cond ((q == p) && (m == n)) (Some (as_walk m state)) (option_map (as_walk n) old)
put_at p n q m state old new e =
    ap (option_map (as_walk n)) (e ∙ ap (λ b. cond b (Some state) old) (same_place (q, m) (p, n)))
    ∙ elim ((q == p) && (m == n)) as (λ b. ((q == p) && (m == n)) ≡ b → option_map (as_walk n) (cond b (Some state) old) ≡ cond b (Some (as_walk m state)) (option_map (as_walk n) old)) [
      | true ↦ (λ h. let parts = and_parts (q == p) (m == n) h in ap (λ k. Some (as_walk k state)) (sym (eqb-true m n parts.1)))
      | false ↦ (λ h. refl)
    ] refl

-- and where the one at this place was taken out
pub out_at : (p n q m : ℕ) (old new : Option Walking) → new ≡ cond (is_eq (walk_cmp (q, m) (p, n))) None old →
    option_map (as_walk n) new ≡ cond ((q == p) && (m == n)) None (option_map (as_walk n) old)
out_at p n q m old new e =
    ap (option_map (as_walk n)) (e ∙ ap (λ b. cond b None old) (same_place (q, m) (p, n)))
    ∙ elim ((q == p) && (m == n)) as (λ b. option_map (as_walk n) (cond b None old) ≡ cond b None (option_map (as_walk n) old)) [ true ↦ refl | false ↦ refl ]

first_of_both : (b : Bool) (w : Walk) (o r : Option Walk) → cond b (Some w) (option_or o r) ≡ option_or (cond b (Some w) o) r
first_of_both true w o r = refl
first_of_both false w o r = refl

-- one more
pub one_begun : (old mid new : Walks) (all left rest : List NodeWalk) (w : NodeWalk) → left ≡ rest ++ w ∷ [] →
    ((k : ℕ × ℕ) → get walk_cmp new.by_place k ≡ cond (is_eq (walk_cmp (w.state.partition, w.node) k)) (Some w.state) (get walk_cmp mid.by_place k)) →
    Begun old mid all left → Begun old new all rest
one_begun old mid new all left rest w e put b = record {
  done = w ∷ b.done;
  all_are = b.all_are ∙ ap (λ l. l ++ b.done) e ∙ append_assoc rest (w ∷ []) b.done;
  placed = λ p n.
      put_at p n w.state.partition w.node w.state (get walk_cmp mid.by_place (p, n)) (get walk_cmp new.by_place (p, n)) (put (p, n))
      ∙ ap (λ r. cond (is_walk p n (walk_of w)) (Some (walk_of w)) r) (b.placed p n)
      ∙ first_of_both (is_walk p n (walk_of w)) (walk_of w) (walk_at p n (map walk_of b.done)) (walk_in old p n);
}

-- all of them
pub all_begun : (old new : Walks) (all left : List NodeWalk) (walks : List Walk) → left ≡ [] → Begun old new all left → AreWalks old walks → AreWalks new (renewed (map walk_of all) walks)
all_begun old new all left walks e b are p n =
    let same : b.done ≡ all = sym (b.all_are ∙ ap (λ l. l ++ b.done) e) in
    b.placed p n
    ∙ (λ i. option_or (walk_at p n (map walk_of (same i))) (are p n i))
    ∙ sym (renewed_at p n (map walk_of all) walks)

pub none_in : {A : Type 0} (xs : List A) → length xs ≡ 0 → xs ≡ []
none_in [] e = refl
none_in (x ∷ xs) e = absurd (omega (arith, e))

-- ---- a walk that goes on

-- the place of the walk
abbrev pub Updated : Walks → Walks → ℕ → ℕ → Option Walking → Type 0
Updated old new p n state = (k : ℕ × ℕ) → get walk_cmp new.by_place k ≡ cond (is_eq (walk_cmp (p, n) k)) state (get walk_cmp old.by_place k)

-- it is written anew
pub kept_at : (old new : Walks) (p n : ℕ) (state later : Walking) (walks : List Walk) → AreWalks old walks → walk_at p n walks ≡ Some (as_walk n state) → later.partition ≡ state.partition → Updated old new p n (Some later) →
    AreWalks new (with_walk (as_walk n later) walks)
kept_at old new p n state later walks are at same up q m =
    let mine : later.partition ≡ p = same ∙ (found_at p n walks (as_walk n state) at).0 in
    put_at q m p n later (get walk_cmp old.by_place (q, m)) (get walk_cmp new.by_place (q, m)) (up (q, m))
    ∙ (λ i. cond ((sym mine i == q) && (n == m)) (Some (as_walk n later)) (are q m i))
    ∙ sym (put_in q m (as_walk n later) walks)

-- it is taken out
pub dropped_at : (old new : Walks) (p n : ℕ) (state later : Walking) (walks : List Walk) → AreWalks old walks → walk_at p n walks ≡ Some (as_walk n state) → later.partition ≡ state.partition → Updated old new p n None →
    AreWalks new (without_walk later.partition n walks)
dropped_at old new p n state later walks are at same up q m =
    let mine : later.partition ≡ p = same ∙ (found_at p n walks (as_walk n state) at).0 in
    out_at q m p n (get walk_cmp old.by_place (q, m)) (get walk_cmp new.by_place (q, m)) (up (q, m))
    ∙ (λ i. cond ((sym mine i == q) && (n == m)) None (are q m i))
    ∙ sym (taken_out q later.partition m n walks)

-- it is put back as it was
pub unchanged_at : (old new : Walks) (p n : ℕ) (state : Walking) (walks : List Walk) → AreWalks old walks → walk_in old p n ≡ Some (as_walk n state) → Updated old new p n (Some state) → AreWalks new walks
unchanged_at old new p n state walks are at up q m =
    put_at q m p n state (get walk_cmp old.by_place (q, m)) (get walk_cmp new.by_place (q, m)) (up (q, m))
    ∙ elim ((p == q) && (n == m)) as (λ b. ((p == q) && (n == m)) ≡ b → cond b (Some (as_walk n state)) (walk_in old q m) ≡ walk_at q m walks) [
      | true ↦ (λ h. let parts = and_parts (p == q) (n == m) h in sym at ∙ (λ i. walk_in old (eqb-true p q parts.0 i) (eqb-true n m parts.1 i)) ∙ are q m)
      | false ↦ (λ h. are q m)
    ] refl

-- it was written, and then taken out
pub taken_after : (old mid new : Walks) (p n : ℕ) (later : Walking) → Updated old mid p n (Some later) → Updated mid new p n None → Updated old new p n None
taken_after old mid new p n later up out k =
    out k ∙ elim (is_eq (walk_cmp (p, n) k)) as (λ b. is_eq (walk_cmp (p, n) k) ≡ b → cond b None (get walk_cmp mid.by_place k) ≡ cond b None (get walk_cmp old.by_place k)) [
      | true ↦ (λ e. refl)
      | false ↦ (λ e. up k ∙ ap (λ b. cond b (Some later) (get walk_cmp old.by_place k)) e)
    ] refl

-- no walk stands at the place
pub none_there : (a : Answer) (c : Walks) (walks : List Walk) → AreWalks c walks → get walk_cmp c.by_place (a.p, a.from) ≡ None → awaiting_in a walks ≡ None
none_there a c walks are none = ap (awaiting a.table a.prefix.now) (sym (are a.p a.from) ∙ ap (option_map (as_walk a.from)) none)

-- the walk that stands there
pub some_there : (a : Answer) (c : Walks) (walks : List Walk) (state : Walking) → AreWalks c walks → get walk_cmp c.by_place (a.p, a.from) ≡ Some state → walk_at a.p a.from walks ≡ Some (as_walk a.from state)
some_there a c walks state are some = sym (are a.p a.from) ∙ ap (option_map (as_walk a.from)) some

-- it awaits the answer, or doesn't
pub awaits_there : (a : Answer) (c : Walks) (walks : List Walk) (state : Walking) (b : Bool) → AreWalks c walks → get walk_cmp c.by_place (a.p, a.from) ≡ Some state → is_open a.table a.prefix.now state.prefixes ≡ b →
    awaiting_in a walks ≡ cond b (Some (as_walk a.from state)) None
awaits_there a c walks state b are some e = ap (awaiting a.table a.prefix.now) (some_there a c walks state are some) ∙ ap (λ t. cond t (Some (as_walk a.from state)) None) e

no_more : (ps : List (ℕ × List ℕ)) → 0 < length ps → is_empty ps ≡ false
no_more [] h = absurd (omega (arith, h))
no_more (p ∷ ps) h = refl

-- whether the walk has ended shows in what it tells
pub ends_so : (walk : Walking) (asked : List (List ℕ)) (end : WalkEnd) (later : Walking) → Tells walk asked end later → is_empty walk.prefixes ≡ has_ended end
ends_so walk asked (Ask prefixes) later t = no_more walk.prefixes t.0
ends_so walk asked Same later t = ap is_empty t.0
ends_so walk asked (Push keys) later t = ap is_empty t.0

-- while it goes on it is kept as it is
pub goes_so : (walk : Walking) (asked : List (List ℕ)) (end : WalkEnd) (later : Walking) → Tells walk asked end later → has_ended end ≡ false → later ≡ walk
goes_so walk asked (Ask prefixes) later t e = t.2
goes_so walk asked Same later t e = cc
goes_so walk asked (Push keys) later t e = cc

module _ {R : Type 0} (join : R → R → R) (s : Words R) where
  -- what is told where none awaits the answer
  pub tells_none : (new : Walks) (a : Answer) (x : Node R Layout) (walks : List Walk) → awaiting_in a walks ≡ None → AreWalks new walks → Tell join s new a None x walks (awaiting_in a walks)
  tells_none new a x walks e are = subst (λ o. Tell join s new a None x walks o) (sym e) are

  -- what is told where this one awaits it
  pub tells_some : {S : Type 0} (c : Contents S R) (old new : Walks) (a : Answer) (end : WalkEnd) (x : Node R Layout) (walks : List Walk) (state later : Walking) → IsContents join s c x → AreWalks old walks →
      get walk_cmp old.by_place (a.p, a.from) ≡ Some state → is_open a.table a.prefix.now state.prefixes ≡ true → GoesOn join s c a state later end → IsSpelled join s c state.partition →
      Updated old new a.p a.from (cond (has_ended end) None (Some later)) → Tell join s new a (Some end) x walks (awaiting_in a walks)
  tells_some c old new a end x walks state later is are some opened goes spelled up =
      let w = as_walk a.from state in
      let tells = goes x is in
      let at = some_there a old walks state are some in
      let after = state_after join s x a state.partition state in
      let ends = ends_so after (asked_by join s x a state.partition) end later tells in
      subst (λ o. Tell join s new a (Some end) x walks o) (sym (awaits_there a old walks state true are some opened))
      (record {
        later = later;
        tells = tells;
        kept = subst (λ b. AreWalks new (cond b (without_walk state.partition a.from walks) (with_walk (as_walk a.from after) walks))) (sym ends)
            (elim (has_ended end) as (λ b. has_ended end ≡ b → AreWalks new (cond b (without_walk state.partition a.from walks) (with_walk (as_walk a.from after) walks))) [
              | true ↦ (λ h. dropped_at old new a.p a.from state state walks are at refl (λ k. up k ∙ ap (λ b. cond (is_eq (walk_cmp (a.p, a.from) k)) (cond b None (Some later)) (get walk_cmp old.by_place k)) h))
              | false ↦ (λ h. kept_at old new a.p a.from state after walks are at refl
                  (λ k. up k ∙ (λ i. cond (is_eq (walk_cmp (a.p, a.from) k)) (cond (h i) None (Some (goes_so after (asked_by join s x a state.partition) end later tells h i))) (get walk_cmp old.by_place k))))
            ] refl);
        spelled = spelled x is;
      })
