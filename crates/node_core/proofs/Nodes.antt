-- What stays when a part of a node changes.
use Rattle.std.proofs.Common.{◌≡◌, ◌≤◌, ◌<◌, ◌==◌, ℕ, zero, suc, Bool, true, false, leb, nat_lt, IsTrue, List, [], ◌∷◌, Option, Some, None, is_some, option_map, ◌&&◌, map, length, count_by, append-nil, refl, ap, sym, subst, ◌∙◌, arith, Result, Ok, Err, IfOk}
use Rattle.std.specs.List.{AllZip, list_all}
use Rattle.std.specs.Cmp.{nat_cmp_total}
use Rattle.std.proofs.lemmas.Bool.{le-leb, leb-true, eqb-true}
use Rattle.std.proofs.lemmas.List.Recursion.{is_count_by}
use Rattle.std.proofs.Math.Nat.{le_trans}
use Rattle.layout_roles.specs.declared.layout.Layout.{Layout}
use Rattle.crdt_core.specs.EntryLaws.{and_parts}
use Rattle.crdt_core.specs.IdentityLaws.{nat_identical}
use Rattle.crdt_core.specs.Map.{map_get}
use Rattle.crdt_core.specs.MapLaws.{map_get-decides}
use Rattle.layout_trackers.specs.declared.trackers.Trackers.{Trackers}
use Rattle.layout_trackers.specs.declared.which.Which.{Which}
use Rattle.layout_trackers.specs.declared.which.Which.TheVariants.{Ack, Sync, SyncAck}
use Rattle.layout_trackers.specs.Trackers.{Tracker, entry, no_trackers}
use Rattle.view_model.specs.Layouts.{reading}
use Rattle.view_model.specs.View.{View, newest, layout_at, is_gapless, merged, cleaned}
use Rattle.view_model.proofs.ReadVersions.{merged_grew}
use Rattle.view_model.proofs.Cleans.{newest_stays}
use Rattle.view_model.proofs.Gapless.{none_at_0, lt_leb}
use Rattle.table_schema.specs.Words.{Words}
use Rattle.quorum_model.specs.Quorum.{is_among}
use Rattle.cluster_machine.specs.Layouts.{members_in, is_member, layouts}
use Rattle.cluster_machine.specs.Node.{quiet, Item as Waiting, Node as Model, Call as Opened, Round as Moved, Mending}
use Rattle.node_parts.specs.declared.contents.Contents.{Contents}
use Rattle.node_parts.specs.Contents.{IsContents, IsItem, Became}
use Rattle.block_resync.specs.declared.item.Item.{Item}
use Rattle.cluster_machine.specs.Phases.{is_spelled}
use Rattle.node_parts.specs.Calls.{AreCalls}
use Rattle.node_core.specs.declared.node.Node.{Node}
use Rattle.node_parts.specs.declared.rounds.Moving.{Moving}
use Rattle.node_parts.specs.declared.rounds.Rounds.{Rounds}
use Rattle.node_parts.specs.Rounds.{IsOpen, IsMoving, AreRounds}
use Rattle.node_parts.specs.Sends.{AreMended}
use Rattle.node_core.specs.Stands.{HasVersion, StandsFor, StandsApart, StandsButView, Done}
use Rattle.node_parts.specs.declared.packet.Envelope.{Envelope}
use Rattle.node_parts.specs.Posts.{Posts, posted}

pub ok_all : {A E : Type 0} {P Q : A → Type 0} → (r : Result A E) → IfOk r P → ((a : A) → P a → Q a) → IfOk r Q
ok_all (Ok a) p f = f a p
ok_all (Err e) p f = tt

-- contents have nothing to do with the view, the requests and the rounds
pub same_contents : {S R : Type 0} {join : R → R → R} {s : Words R} {c : Contents S R} (x : Model R Layout) (v : View Layout) (calls : List (Opened R)) (round : Option Moved) (rounds : ℕ) (mending lasting : Option Mending) →
    IsContents join s c x → IsContents join s c (record x { view = v; calls = calls; round = round; rounds = rounds; mending = mending; lasting = lasting })
same_contents x v calls round rounds mending lasting is = record { proper = is.proper; table = is.table; items = is.items; queued = is.queued; blocks = is.blocks }

-- a version is stored when the newest one has not fallen
pub version_stays : {R : Type 0} (a b : View Layout) (calls : List (Opened R)) → newest reading a ≤ newest reading b → HasVersion a calls → HasVersion b calls
version_stays a b [] le h = tt
version_stays a b (c ∷ cs) le h = le-leb 1 (newest reading b) (le_trans (leb-true 1 (newest reading a) h) le)

pub version_kept : {R : Type 0} (v : View Layout) (t : Trackers) (calls : List (Opened R)) → HasVersion v calls → HasVersion (record v { trackers = t }) calls
version_kept v t [] h = tt
version_kept v t (c ∷ cs) h = h

-- other rounds, with the same view and contents
pub with_rounds : {S R : Type 0} {join : R → R → R} {s : Words R} (c : Node S R) (id : ℕ) (x : Model R Layout) (rounds : Rounds) (round : Option Moved) (begun : ℕ) (mending lasting : Option Mending) → StandsFor join s c id x →
    AreRounds id rounds round begun mending lasting → StandsFor join s (record c { rounds = rounds }) id (record x { round = round; rounds = begun; mending = mending; lasting = lasting })
with_rounds c id x rounds round begun mending lasting is are = record {
  id_is = is.id_is;
  view = is.view;
  contents = same_contents x x.view x.calls round begun mending lasting is.contents;
  calls = is.calls;
  rounds = are;
  gc = is.gc;
  has_version = is.has_version;
}

-- the same, where the round is to come yet
pub apart : {S R : Type 0} {join : R → R → R} {s : Words R} (c : Node S R) (id : ℕ) (x : Model R Layout) (round : Option Moving) → StandsFor join s c id x → StandsApart join s (record c { rounds = record c.rounds { round = round } }) id x
apart c id x round is = record {
  id_is = is.id_is;
  view = is.view;
  contents = is.contents;
  calls = is.calls;
  begun = is.rounds.begun;
  mending_is = is.rounds.mending_is;
  lasting_is = is.rounds.lasting_is;
  gc = is.gc;
  has_version = is.has_version;
}

-- and when it has come
pub together : {S R : Type 0} {join : R → R → R} {s : Words R} (c : Node S R) (id : ℕ) (x : Model R Layout) (m : Moving) (r : Moved) → StandsApart join s c id x → IsMoving id m r →
    StandsFor join s (record c { rounds = record c.rounds { round = Some m } }) id (record x { round = Some r })
together c id x m r is moving = record {
  id_is = is.id_is;
  view = is.view;
  contents = same_contents x x.view x.calls (Some r) x.rounds x.mending x.lasting is.contents;
  calls = is.calls;
  rounds = record { is_open = moving; begun = is.begun; mending_is = is.mending_is; lasting_is = is.lasting_is };
  gc = is.gc;
  has_version = is.has_version;
}

-- an open round is one of the model
pub open_some : {id : ℕ} (m : Moving) (round : Option Moved) → IsOpen id (Some m) round → (r : Moved) × (round ≡ Some r) × IsMoving id m r
open_some m None is = absurd is
open_some m (Some r) is = (r, refl, is)

-- ---- a view without a version and without an entry

none_under : {A B : Type 0} (f : A → B) (o : Option A) → option_map f o ≡ None → o ≡ None
none_under f None e = refl
none_under f (Some a) e = cc

same_trackers : (a b : Trackers) → a.ack ≡ b.ack → a.sync ≡ b.sync → a.sync_ack ≡ b.sync_ack → a ≡ b
same_trackers a b x y z = λ i. record { ack = x i; sync = y i; sync_ack = z i }

no_entry : (a b : Tracker) → ((node : ℕ) → map_get a node ≡ None) → ((node : ℕ) → map_get b node ≡ None) → a ≡ b
no_entry a b na nb = map_get-decides nat_cmp_total nat_identical a b (λ k. na k ∙ sym (nb k))

pub no_entries : (t : Trackers) → ((which : Which) (node : ℕ) → entry which node t ≡ None) → t ≡ no_trackers
no_entries t none = same_trackers t no_trackers
    (no_entry t.ack no_trackers.ack (λ node. none_under (λ v. v.0) (map_get t.ack node) (none Ack node)) (λ node. refl))
    (no_entry t.sync no_trackers.sync (λ node. none_under (λ v. v.0) (map_get t.sync node) (none Sync node)) (λ node. refl))
    (no_entry t.sync_ack no_trackers.sync_ack (λ node. none_under (λ v. v.0) (map_get t.sync_ack node) (none SyncAck node)) (λ node. refl))

-- ---- a member has a version

none_in : (o : Option Layout) (id : ℕ) → o ≡ None → is_among id (members_in layouts o) ≡ false
none_in o id e = rw e refl

has_by : (v : View Layout) (id n : ℕ) → newest reading v ≡ n → is_gapless reading v.layouts ≡ true → is_member layouts v id ≡ true → leb 1 (newest reading v) ≡ true
has_by v id (suc n) e gapless member = rw e (le-leb 1 (suc n) (omega arith))
has_by v id zero e gapless member =
    let none = none_in (layout_at reading v (newest reading v)) id (rw e (none_at_0 reading v.layouts gapless)) in
    let no : true ≡ false = sym member ∙ none in cc

pub member_has_version : (v : View Layout) (id : ℕ) → is_gapless reading v.layouts ≡ true → is_member layouts v id ≡ true → IsTrue (leb 1 (newest reading v))
member_has_version v id gapless member = has_by v id (newest reading v) refl gapless member

-- ---- contents that changed

pub with_contents : {S R : Type 0} {join : R → R → R} {s : Words R} (c : Node S R) (id : ℕ) (x y : Model R Layout) (contents : Contents S R) →
    StandsFor join s c id x → Became join s contents x y → StandsFor join s (record c { contents = contents }) id y
with_contents c id x y contents is became =
    let rest = became.rest in
    record {
      id_is = is.id_is;
      view = is.view ∙ sym rest.view;
      contents = became.contents;
      calls = subst (λ calls. AreCalls c.calls calls) (sym rest.calls) is.calls;
      rounds = record {
        is_open = subst (λ round. IsOpen id c.rounds.round round) (sym rest.round) is.rounds.is_open;
        begun = is.rounds.begun ∙ sym rest.rounds;
        mending_is = subst (λ m. AreMended c.rounds.mending m) (sym rest.mending) is.rounds.mending_is;
        lasting_is = subst (λ m. AreMended c.rounds.lasting m) (sym rest.lasting) is.rounds.lasting_is;
      };
      gc = is.gc ∙ sym rest.gc;
      has_version = subst (λ v. HasVersion v y.calls) (sym rest.view) (subst (λ calls. HasVersion x.view calls) (sym rest.calls) is.has_version);
    }

-- what the node knows of its view
pub knows_less : (a b n : ℕ) → n ≡ a → b ≤ n → nat_lt a b ≡ false
knows_less a b n e le = lt_leb (suc a) b (omega arith)

-- the view changed, and the round closed where it had to
pub seen : {S R : Type 0} {join : R → R → R} {s : Words R} (c : Node S R) (id : ℕ) (x : Model R Layout) (v : View Layout) (rounds : Rounds) (round : Option Moved) →
    StandsButView join s c id x v → AreRounds id rounds round x.rounds x.mending x.lasting → StandsFor join s (record c { rounds = rounds }) id (record x { view = v; round = round })
seen c id x v rounds round is closed = record {
  id_is = is.id_is;
  view = is.view;
  contents = same_contents x v x.calls round x.rounds x.mending x.lasting is.contents;
  calls = is.calls;
  rounds = closed;
  gc = is.gc;
  has_version = is.has_version;
}

pub rose : (old new before now : ℕ) → now ≡ new → old ≡ before → before < now → leb new old ≡ false
rose old new before now e f lt = lt_leb new old (omega arith)

pub stayed : (old new before now : ℕ) → now ≡ new → old ≡ before → now ≤ before → leb new old ≡ true
stayed old new before now e f le = le-leb new old (omega arith)

-- ---- nothing is sent

pub nothing_sent : {R : Type 0} (id : ℕ) (out : List (Envelope R)) → Posts id out out []
nothing_sent id out = sym (append-nil (map posted out))

pub silent : {S R : Type 0} {join : R → R → R} {s : Words R} (c : Node S R) (id : ℕ) (y : Model R Layout) (out : List (Envelope R)) → StandsFor join s c id y → Done join s c id out out None (quiet y)
silent c id y out is = record { stands = is; posts = nothing_sent id out; ends = refl; spelled = λ sizes. refl }

-- a view after a merge has at least as new a version
pub newer_merged : (a b : View Layout) → is_gapless reading a.layouts ≡ true → is_gapless reading b.layouts ≡ true → newest reading a ≤ newest reading (merged reading a b)
newer_merged a b ga gb = (merged_grew reading a b ga gb).newest_grew

-- a clean keeps the newest version
pub cleaned_newest : (v : View Layout) → is_gapless reading v.layouts ≡ true → newest reading v ≤ newest reading (cleaned reading v)
cleaned_newest v g = let e = newest_stays reading v g in omega arith

pub and_first : (a b : Bool) → (a && b) ≡ true → a ≡ true
and_first a b e = (and_parts a b e).0

-- ---- the outbox

-- each item has a spelling
pub items_spelled : {R : Type 0} (s : Words R) (cs : List Item) (ms : List (Waiting R)) → AllZip (IsItem s) cs ms → list_all (λ (m : Waiting R). is_spelled s m.row) ms ≡ true
items_spelled s [] [] all = refl
items_spelled s [] (m ∷ ms) all = absurd all
items_spelled s (c ∷ cs) [] all = absurd all
items_spelled s (c ∷ cs) (m ∷ ms) all = rw (ap is_some all.0.row) (items_spelled s cs ms all.1)

-- ---- blocks

-- a list has as many members as pass every test
all_counted : {A : Type 0} (xs : List A) → count_by (λ x. true) xs ≡ length xs
all_counted xs = sym (is_count_by length (λ x. true) refl (λ x xs. omega arith) xs)

-- the code has as many blocks as the node
pub as_many_blocks : {S R : Type 0} {join : R → R → R} {s : Words R} {c : Contents S R} (x : Model R Layout) → IsContents join s c x → length c.blocks.blocks ≡ length x.blocks
as_many_blocks {c = c} x is = sym (all_counted c.blocks.blocks) ∙ (is.blocks.number (λ hash. true) ∙ all_counted x.blocks)

-- different numbers
pub differs : (a b : ℕ) → (a ≡ b → ⊥) → (a == b) ≡ false
differs a b unlike = elim (a == b) as (λ t. (a == b) ≡ t → t ≡ false) [ true ↦ (λ e. absurd (unlike (eqb-true a b e))) | false ↦ (λ e. refl) ] refl

-- an open round that was taken out and put back
pub put_back : {S R : Type 0} {join : R → R → R} {s : Words R} (c : Node S R) (id : ℕ) (x : Model R Layout) (m : Moving) → c.rounds.round ≡ Some m → StandsFor join s c id x → StandsFor join s (record c { rounds = record c.rounds { round = Some m } }) id x
put_back c id x m there is =
    with_rounds c id x (record c.rounds { round = Some m }) x.round x.rounds x.mending x.lasting is
    (record { is_open = subst (λ o. IsOpen id o x.round) there is.rounds.is_open; begun = is.rounds.begun; mending_is = is.rounds.mending_is; lasting_is = is.rounds.lasting_is })

-- a delete marker that is to be handed out has nothing to do with the node's state
pub with_dropped : {S R : Type 0} {join : R → R → R} {s : Words R} (c : Node S R) (id : ℕ) (x : Model R Layout) (dropped : Option (ℕ × ℕ)) → StandsFor join s c id x → StandsFor join s (record c { dropped = dropped }) id x
with_dropped c id x dropped is = record {
  id_is = is.id_is;
  view = is.view;
  contents = is.contents;
  calls = is.calls;
  rounds = is.rounds;
  gc = is.gc;
  has_version = is.has_version;
}
