-- What a node does that takes or drops no row and leaves its collections.
use Rattle.std.specs.Prelude.{◌≡◌, ◌≤◌, ℕ, Bool, true, false, not, cond, ◌==◌, nat_lt, List, [], ◌∷◌, ◌++◌, Option, Some, None, IsTrue, refl}
use Rattle.std.specs.List.{AllByRecursion}
use Rattle.std.proofs.Common.{sym, subst, ◌∙◌, inl, arith}
use Rattle.blake2_hash.specs.declared.digest.Hash32.{Hash32}
use Rattle.crdt_core.specs.Members.{Has}
use Rattle.crdt_core.specs.Order.{option_join}
use Rattle.view_model.specs.View.{View, oldest, newest}
use Rattle.table_schema.specs.Words.{Words}
use Rattle.table_schema.specs.Laws.{Same, Laws}
use Rattle.table_model.specs.Rows.{is_at, row_at, rows, range}
use Rattle.quorum_model.specs.declared.range.RangeAnswer.{RangeAnswer}
use Rattle.quorum_model.specs.Quorum.{StoreSlot, with_confirmation}
use Rattle.quorum_model.specs.Window.{Window}
use Rattle.wire_messages.specs.declared.message.Message.{Message}
use Rattle.wire_messages.specs.declared.message.Message.TheVariants.{Same as HasSame, Differ}
use Rattle.wire_messages.specs.declared.message.Tag.{Tag}
use Rattle.wire_messages.specs.declared.message.Tag.TheVariants.{Call as ForCall, Round as ForRound, Item as ForItem}
use Rattle.wire_messages.specs.declared.phase.PhaseEnd.{PhaseEnd}
use Rattle.cluster_machine.specs.Layouts.{Layouts, is_stored, is_given}
use Rattle.cluster_machine.specs.Node.{Question, Scan, Present, resting, asking, scanning, storing, fetching, Call, Item, Walk, Round, Mending, Node, says, Did, quiet}
use Rattle.cluster_machine.specs.Phases.{calls_now, call_at, ended, asked, looked, stored, row_came, rows_came, stored_came, block_came, at_call}
use Rattle.cluster_machine.specs.Rows.{same_bytes}
use Rattle.cluster_machine.specs.Rounds.{walk_at, found_same, walks_after, value_here, children_here, asked_after, walk_after, is_complete, synced, goes_on, round_walks, mending_walks, at_walk, mending_came, with_mending, with_lasting, late_came, answer_came}
use Rattle.walk_model.specs.Walking.{is_open}
use Rattle.cluster_machine.specs.Receives.{most_rows, answers, where_stored, gives_row, gives_rows, gives_block, compares, walks_on, round_came, is_done, kept_item, item_came, confirms}
use Rattle.machine_collects.specs.Versions.{Versions}
use Rattle.machine_collects.specs.Tie.{State, Issued, IsNoObject}
use Rattle.machine_collects.proofs.OfKey.{at_parts, some_is}
use Rattle.machine_collects.proofs.Still.{Calm, calm_self}
use Rattle.machine_collects.proofs.Sends.{Of, MeansPost, range_own, walk_sends}

itself : (n : ℕ) → n ≤ n
itself n = omega arith

module _ {R L : Type 0} (join : R → R → R) (s : Words R) (laws : Laws join s) (v : Versions R) (k : Layouts L) (partitions : ℕ) (some : 1 ≤ partitions) (key : List ℕ) (partition : ℕ) where
  -- the node is calm, its oldest version doesn't rise, and no row is collected
  pub record CalmDid (x : Node R L) (d : Did R L) : Type 0 where
    pub calm : Calm join s v k partitions some key partition x d.node
    pub low : oldest k.reading d.node.view ≤ oldest k.reading x.view
    pub collects : d.collects ≡ []

  -- a node that is calm, and whose oldest version doesn't rise
  abbrev pub CalmNode : Node R L → Node R L → Type 0
  CalmNode x y = Calm join s v k partitions some key partition x y × (oldest k.reading y.view ≤ oldest k.reading x.view)

  -- and it sends nothing
  pub record StillDid (x : Node R L) (d : Did R L) : Type 0 where
    pub did : CalmDid x d
    pub posts : d.posts ≡ []

  pub still_self : (x : Node R L) → StillDid x (quiet x)
  still_self x = record { did = record { calm = calm_self join s v k partitions some key partition x; low = itself (oldest k.reading x.view); collects = refl }; posts = refl }

  still_calls : (x : Node R L) (c : Call R) → StillDid x (quiet (calls_now x c))
  still_calls x c = record { did = record { calm = record { accepted = refl; items = λ i. i; gc = inl refl }; low = itself (oldest k.reading x.view); collects = refl }; posts = refl }

  still_ended : (x : Node R L) (c : Call R) (how : PhaseEnd R) → StillDid x (ended x c how)
  still_ended x c how = record { did = record { calm = record { accepted = refl; items = λ i. i; gc = inl refl }; low = itself (oldest k.reading x.view); collects = refl }; posts = refl }

  still_asked : (x : Node R L) (c : Call R) (q : Question R) (as' : List (ℕ × Option R)) (a : ℕ × Option R) (value : Option (Option R)) → StillDid x (asked x c q as' a value)
  still_asked x c q as' a None = still_calls x (record c { present = asking q (as' ++ a ∷ []) })
  still_asked x c q as' a (Some value) = record { did = record { calm = record { accepted = refl; items = λ i. i; gc = inl refl }; low = itself (oldest k.reading x.view); collects = refl }; posts = refl }

  still_looked : (x : Node R L) (c : Call R) (q : Scan R) (as' : List (ℕ × RangeAnswer R)) (a : ℕ × RangeAnswer R) (w : Option (Window R)) → StillDid x (looked x c q as' a w)
  still_looked x c q as' a None = still_calls x (record c { present = scanning q (as' ++ a ∷ []) })
  still_looked x c q as' a (Some w) = record { did = record { calm = record { accepted = refl; items = λ i. i; gc = inl refl }; low = itself (oldest k.reading x.view); collects = refl }; posts = refl }

  still_stored : (x : Node R L) (c : Call R) (rs : List R) (slots : List StoreSlot) (b : Bool) → StillDid x (stored x c rs slots b)
  still_stored x c rs slots false = still_calls x (record c { present = storing rs slots })
  still_stored x c rs slots true = record { did = record { calm = record { accepted = refl; items = λ i. i; gc = inl refl }; low = itself (oldest k.reading x.view); collects = refl }; posts = refl }

  still_cond : (x : Node R L) (b : Bool) (d e : Did R L) → StillDid x d → StillDid x e → StillDid x (cond b d e)
  still_cond x true d e h i = h
  still_cond x false d e h i = i

  still_call : (x : Node R L) (phase : ℕ) (f : Call R → Did R L) (o : Option (Call R)) → ((c : Call R) → StillDid x (f c)) → StillDid x (at_call x phase f o)
  still_call x phase f None h = still_self x
  still_call x phase f (Some c) h = still_cond x (c.phases == phase) (f c) (quiet x) (h c) (still_self x)

  still_row : (x : Node R L) (c : Call R) (from : ℕ) (row : Option R) (p : Present R) → StillDid x (row_came join x c from row p)
  still_row x c from row resting = still_self x
  still_row x c from row (asking q as') = still_asked x c q as' _ _
  still_row x c from row (scanning q as') = still_self x
  still_row x c from row (storing rs slots) = still_self x
  still_row x c from row (fetching hash) = still_self x

  still_rows : (x : Node R L) (c : Call R) (from : ℕ) (rs : List R) (more : Bool) (p : Present R) → StillDid x (rows_came join s x c from rs more p)
  still_rows x c from rs more resting = still_self x
  still_rows x c from rs more (asking q as') = still_self x
  still_rows x c from rs more (scanning q as') = still_looked x c q as' _ _
  still_rows x c from rs more (storing rs' slots) = still_self x
  still_rows x c from rs more (fetching hash) = still_self x

  still_slot : (x : Node R L) (c : Call R) (slot from : ℕ) (p : Present R) → StillDid x (stored_came k x c slot from p)
  still_slot x c slot from resting = still_self x
  still_slot x c slot from (asking q as') = still_self x
  still_slot x c slot from (scanning q as') = still_self x
  still_slot x c slot from (storing rs slots) = still_stored x c rs (with_confirmation slots slot from) _
  still_slot x c slot from (fetching hash) = still_self x

  still_block : (x : Node R L) (c : Call R) (bytes : List ℕ) (p : Present R) → StillDid x (block_came x c bytes p)
  still_block x c bytes resting = still_self x
  still_block x c bytes (asking q as') = still_self x
  still_block x c bytes (scanning q as') = still_self x
  still_block x c bytes (storing rs slots) = still_self x
  still_block x c bytes (fetching hash) = still_ended x c _

  pub row_still : (x : Node R L) (from request phase : ℕ) (row : Option R) → StillDid x (at_call x phase (λ c. row_came join x c from row c.present) (call_at x.calls request))
  row_still x from request phase row = still_call x phase _ (call_at x.calls request) (λ c. still_row x c from row c.present)

  pub rows_still : (x : Node R L) (from request phase : ℕ) (rs : List R) (more : Bool) → StillDid x (at_call x phase (λ c. rows_came join s x c from rs more c.present) (call_at x.calls request))
  rows_still x from request phase rs more = still_call x phase _ (call_at x.calls request) (λ c. still_rows x c from rs more c.present)

  pub block_still : (x : Node R L) (request phase : ℕ) (bytes : List ℕ) → StillDid x (at_call x phase (λ c. block_came x c bytes c.present) (call_at x.calls request))
  block_still x request phase bytes = still_call x phase _ (call_at x.calls request) (λ c. still_block x c bytes c.present)

  -- a round goes on or is complete
  pub calm_goes_on : (id : ℕ) (x y : Node R L) (round : Round) → y.accepted ≡ x.accepted → y.items ≡ x.items → y.gc ≡ x.gc → y.view ≡ x.view → CalmNode x (goes_on join s k id y round)
  calm_goes_on id x y round accepted items gc view = elim (is_complete round) as (λ b. CalmNode x (cond b (synced join s k id y round) (record y { round = Some round }))) [
    | true ↦ (record { accepted = accepted; items = λ i. subst (AllByRecursion (IsNoObject s)) (sym items) i; gc = inl gc }, (let P : View L → Type 0 = λ w. oldest k.reading y.view ≤ oldest k.reading w in subst P view (itself (oldest k.reading y.view))))
    | false ↦ (record { accepted = accepted; items = λ i. subst (AllByRecursion (IsNoObject s)) (sym items) i; gc = inl gc }, (let P : View L → Type 0 = λ w. oldest k.reading y.view ≤ oldest k.reading w in subst P view (itself (oldest k.reading y.view))))
  ]

  still_round : (id : ℕ) (x : Node R L) (from number p : ℕ) (o : Option Round) → StillDid x (round_came join s k id x from number p o)
  still_round id x from number p None = still_self x
  still_round id x from number p (Some round) = still_cond x (round.number == number) _ (quiet x)
      (let c = calm_goes_on id x x (record round { confirmed = round.confirmed ++ record { partition = p; node = from } ∷ [] }) refl refl refl refl in record { did = record { calm = c.0; low = c.1; collects = refl }; posts = refl })
      (still_self x)

  kept_free : (view : View L) (i : Item R) (items : List (Item R)) → IsNoObject s i → AllByRecursion (IsNoObject s) items → AllByRecursion (IsNoObject s) (kept_item join s k view i items)
  kept_free view i items h a = elim (is_done join s k view i) as (λ b. AllByRecursion (IsNoObject s) (cond b items (i ∷ items))) [ true ↦ a | false ↦ (h, a) ]

  item_free : (view : View L) (from number : ℕ) (items : List (Item R)) → AllByRecursion (IsNoObject s) items → AllByRecursion (IsNoObject s) (item_came join s k view from number items)
  item_free view from number [] a = tt
  item_free view from number (i ∷ items) a = elim (i.number == number) as (λ b. AllByRecursion (IsNoObject s) (cond b (kept_item join s k view (record i { confirmed = i.confirmed ++ from ∷ [] }) items) (i ∷ item_came join s k view from number items))) [
    | true ↦ kept_free view (record i { confirmed = i.confirmed ++ from ∷ [] }) items a.0 a.1
    | false ↦ (a.0, item_free view from number items a.1)
  ]

  pub confirms_still : (id : ℕ) (x : Node R L) (from : ℕ) (tag : Tag) → StillDid x (confirms join s k id x from tag)
  confirms_still id x from (ForCall request phase slot) = still_call x phase _ (call_at x.calls request) (λ c. still_slot x c slot from c.present)
  confirms_still id x from (ForRound number p) = still_round id x from number p x.round
  confirms_still id x from (ForItem number) = record { did = record { calm = record { accepted = refl; items = item_free x.view from number x.items; gc = inl refl }; low = itself (oldest k.reading x.view); collects = refl }; posts = refl }

  -- a node that answers is calm
  pub calm_answers : (x : Node R L) (to : ℕ) (m : Message R) → CalmDid x (answers x to m)
  calm_answers x to m = record { calm = calm_self join s v k partitions some key partition x; low = itself (oldest k.reading x.view); collects = refl }

  calm_cond : (x : Node R L) (b : Bool) (d e : Did R L) → CalmDid x d → CalmDid x e → CalmDid x (cond b d e)
  calm_cond x true d e h i = h
  calm_cond x false d e h i = i

  pub where_calm : (x : Node R L) (from request phase at : ℕ) (d : Did R L) → CalmDid x d → CalmDid x (where_stored join s k x from request phase at d)
  where_calm x from request phase at d h = calm_cond x (is_stored k x.view at) d _ h (calm_answers x from _)

  pub gives_row_calm : (x : Node R L) (from request phase : ℕ) (row : Option R) → CalmDid x (gives_row join s k x from request phase row)
  gives_row_calm x from request phase row = record { calm = calm_self join s v k partitions some key partition x; low = itself (oldest k.reading x.view); collects = refl }

  pub gives_rows_calm : (x : Node R L) (from request phase : ℕ) (found : List R × Bool) → CalmDid x (gives_rows join s k x from request phase found)
  gives_rows_calm x from request phase found = record { calm = calm_self join s v k partitions some key partition x; low = itself (oldest k.reading x.view); collects = refl }

  pub gives_block_calm : (x : Node R L) (from request phase : ℕ) (b : Option (List ℕ)) → CalmDid x (gives_block join s k x from request phase b)
  gives_block_calm x from request phase None = calm_answers x from _
  gives_block_calm x from request phase (Some bytes) = calm_answers x from _

  -- ---- what a node does for walks: it is calm, and sends rows of now

  pub record Walked (x : Node R L) (d : Did R L) : Type 0 where
    pub did : CalmDid x d
    pub posts : d.is_spelled ≡ true → (w : State R L) (g : Issued R) (collected : List R) (n moment : ℕ) → AllByRecursion (λ r. IsTrue (s.is_proper r)) x.accepted →
        ((r : R) → row_at join s x.accepted 1 key ≡ Some r → Has w.shown (record { row = r; moment = moment })) → AllByRecursion (MeansPost join s laws v k partitions key partition w g collected n moment) d.posts

  walked_quiet : (x : Node R L) → Walked x (quiet x)
  walked_quiet x = record { did = (still_self x).did; posts = λ spelled w g collected n moment proper shown. tt }

  walked_cond : (x : Node R L) (b : Bool) (d e : Did R L) → Walked x d → Walked x e → Walked x (cond b d e)
  walked_cond x true d e h i = h
  walked_cond x false d e h i = i

  walked_round : (id : ℕ) (x : Node R L) (table : ℕ) (prefix : List ℕ) (answer : Option (List (ℕ × Hash32))) (round : Round) (u : Walk) → Walked x (round_walks join s k id x table prefix answer round u)
  walked_round id x table prefix answer round u =
      let later = walk_after join s x u table prefix answer in
      let now : Round = record round { walks = walks_after later round.walks } in
      let there : Round = record now { confirmed = now.confirmed ++ record { partition = u.state.partition; node = u.node } ∷ [] } in
      let c : CalmNode x (cond (found_same later) (goes_on join s k id x there) (record x { round = Some now })) =
      elim (found_same later) as (λ b. CalmNode x (cond b (goes_on join s k id x there) (record x { round = Some now }))) [
        | true ↦ calm_goes_on id x x there refl refl refl refl
        | false ↦ (record { accepted = refl; items = λ i. i; gc = inl refl }, itself (oldest k.reading x.view))
      ] in
      record {
        did = record { calm = c.0; low = c.1; collects = refl };
        posts = λ spelled w g collected n moment proper shown. walk_sends join s laws v k partitions key partition w g collected n moment x proper shown round.number later table (asked_after join s x u.state.partition table prefix answer) spelled;
      }

  walked_mending : (x : Node R L) (then : Mending → Node R L) → ((mending : Mending) → CalmNode x (then mending)) → (table : ℕ) (prefix : List ℕ) (answer : Option (List (ℕ × Hash32))) (mending : Mending) (u : Walk) → Walked x (mending_walks join s k x then table prefix answer mending u)
  walked_mending x then calm table prefix answer mending u =
      let later = walk_after join s x u table prefix answer in
      let c = calm (record mending { walks = walks_after later mending.walks }) in
      record {
        did = record { calm = c.0; low = c.1; collects = refl };
        posts = λ spelled w g collected n moment proper shown. walk_sends join s laws v k partitions key partition w g collected n moment x proper shown mending.number later table (asked_after join s x u.state.partition table prefix answer) spelled;
      }

  walked_at : (x : Node R L) (table : ℕ) (prefix : List ℕ) (f : Walk → Did R L) → ((u : Walk) → Walked x (f u)) → (o : Option Walk) → Walked x (at_walk join s k x table prefix f o)
  walked_at x table prefix f h None = walked_quiet x
  walked_at x table prefix f h (Some u) = walked_cond x (is_open table prefix u.state.prefixes) (f u) (quiet x) (h u) (walked_quiet x)

  walked_came : (x : Node R L) (then : Mending → Node R L) (other : Did R L) → ((mending : Mending) → CalmNode x (then mending)) → Walked x other → (from number p table : ℕ) (prefix : List ℕ) (answer : Option (List (ℕ × Hash32))) (o : Option Mending) →
      Walked x (mending_came join s k x then other from number p table prefix answer o)
  walked_came x then other calm h from number p table prefix answer None = h
  walked_came x then other calm h from number p table prefix answer (Some mending) =
      walked_cond x (mending.number == number) _ other (walked_at x table prefix _ (λ u. walked_mending x then calm table prefix answer mending u) (walk_at p from mending.walks)) h

  walked_late : (x : Node R L) (from number p table : ℕ) (prefix : List ℕ) (answer : Option (List (ℕ × Hash32))) → Walked x (late_came join s k x from number p table prefix answer)
  walked_late x from number p table prefix answer =
      walked_came x (with_lasting join s k x) _ (λ mending. (record { accepted = refl; items = λ i. i; gc = inl refl }, itself (oldest k.reading x.view)))
      (walked_came x (with_mending join s k x) (quiet x) (λ mending. (record { accepted = refl; items = λ i. i; gc = inl refl }, itself (oldest k.reading x.view))) (walked_quiet x) from number p table prefix answer x.mending)
      from number p table prefix answer x.lasting

  walked_answer : (id : ℕ) (x : Node R L) (from number p table : ℕ) (prefix : List ℕ) (answer : Option (List (ℕ × Hash32))) (o : Option Round) → Walked x (answer_came join s k id x from number p table prefix answer o)
  walked_answer id x from number p table prefix answer None = walked_late x from number p table prefix answer
  walked_answer id x from number p table prefix answer (Some round) =
      walked_cond x (round.number == number) _ _ (walked_at x table prefix _ (λ u. walked_round id x table prefix answer round u) (walk_at p from round.walks)) (walked_late x from number p table prefix answer)

  -- an answer comes to a walk
  pub walks_on_walked : (id : ℕ) (x : Node R L) (from : ℕ) (tag : Tag) (table : ℕ) (prefix : List ℕ) (answer : Option (List (ℕ × Hash32))) → Walked x (walks_on join s k id x from tag table prefix answer)
  walks_on_walked id x from (ForCall request phase slot) table prefix answer = walked_quiet x
  walks_on_walked id x from (ForRound number p) table prefix answer = walked_answer id x from number p table prefix answer x.round
  walks_on_walked id x from (ForItem number) table prefix answer = walked_quiet x

  -- a question of a walk is answered
  pub compares_walked : (id : ℕ) (x : Node R L) (from : ℕ) (tag : Tag) (named p table : ℕ) (prefix : List ℕ) (hash : Hash32) → Walked x (compares join s k id x from tag named p table prefix hash)
  compares_walked id x from tag named p table prefix hash =
      walked_cond x (nat_lt (newest k.reading x.view) named) _ _ (record { did = calm_answers x from _; posts = λ spelled w g collected n moment proper shown. (tt, tt) })
      (walked_cond x (not (is_given k x.view id p)) _ _ (record { did = calm_answers x from _; posts = λ spelled w g collected n moment proper shown. (tt, tt) })
      (record {
        did = record { calm = calm_self join s v k partitions some key partition x; low = itself (oldest k.reading x.view); collects = refl };
        posts = λ spelled w g collected n moment proper shown. (
          elim (same_bytes hash.0 (value_here join s x table p prefix).0) as (λ b. MeansPost join s laws v k partitions key partition w g collected n moment (record { to = from; packet = says (cond b (HasSame tag table prefix) (Differ tag table prefix (children_here join s x table p prefix))) })) [ true ↦ tt | false ↦ tt ],
          tt,
        );
      }))

  -- what a node has at a table and key has these
  place_by : (table : ℕ) (its : List ℕ) (o : Option R) (x r : R) → ((y : R) → o ≡ Some y → (IsTrue (s.is_proper y)) × ((s.table y ≡ table) × (s.key y ≡ its))) → (IsTrue (s.is_proper x)) × ((s.table x ≡ table) × (s.key x ≡ its)) → option_join join o (Some x) ≡ Some r → (IsTrue (s.is_proper r)) × ((s.table r ≡ table) × (s.key r ≡ its))
  place_by table its None x r f h e = (let P : R → Type 0 = λ r. (IsTrue (s.is_proper r)) × ((s.table r ≡ table) × (s.key r ≡ its)) in subst P (some_is (Some x) x r refl e) h)
  place_by table its (Some y) x r f h e =
      let P : R → Type 0 = λ r. (IsTrue (s.is_proper r)) × ((s.table r ≡ table) × (s.key r ≡ its)) in
      let i = f y refl in
      let same : Same s y x = record { first_proper = i.0; second_proper = h.0; table = i.1.0 ∙ sym h.1.0; key = i.1.1 ∙ sym h.1.1 } in
      subst P (some_is (Some (join y x)) (join y x) r refl e) (laws.joined_is_proper y x same, (laws.joined_table y x same ∙ i.1.0, laws.joined_key y x same ∙ i.1.1))

  pub row_place : (table : ℕ) (its : List ℕ) (rs : List R) → AllByRecursion (λ r. IsTrue (s.is_proper r)) rs → (r : R) → row_at join s rs table its ≡ Some r → (IsTrue (s.is_proper r)) × ((s.table r ≡ table) × (s.key r ≡ its))
  row_place table its [] a r e = cc
  row_place table its (x ∷ older) a r e = elim (is_at s table its x) as (λ b. is_at s table its x ≡ b → cond b (option_join join (row_at join s older table its) (Some x)) (row_at join s older table its) ≡ Some r → (IsTrue (s.is_proper r)) × ((s.table r ≡ table) × (s.key r ≡ its))) [
    | true ↦ λ at f. place_by table its (row_at join s older table its) x r (row_place table its older a.1) (a.0, at_parts join s v k partitions key partition table its x at) f
    | false ↦ λ at f. row_place table its older a.1 r f
  ] refl e

  module _ (w : State R L) (g : Issued R) (collected : List R) (n moment : ℕ) where
    -- what is sent means something, whichever is sent
    pub posts_cond : (b : Bool) (d e : Did R L) → AllByRecursion (MeansPost join s laws v k partitions key partition w g collected n moment) d.posts → AllByRecursion (MeansPost join s laws v k partitions key partition w g collected n moment) e.posts → AllByRecursion (MeansPost join s laws v k partitions key partition w g collected n moment) (cond b d e).posts
    posts_cond true d e h i = h
    posts_cond false d e h i = i

    pub block_means : (x : Node R L) (from request phase : ℕ) (b : Option (List ℕ)) → AllByRecursion (MeansPost join s laws v k partitions key partition w g collected n moment) (gives_block join s k x from request phase b).posts
    block_means x from request phase None = (tt, tt)
    block_means x from request phase (Some bytes) = (tt, tt)

    module _ (x : Node R L) (proper : AllByRecursion (λ r. IsTrue (s.is_proper r)) x.accepted) (shown : (r : R) → row_at join s x.accepted 1 key ≡ Some r → Has w.shown (record { row = r; moment = moment })) where
      row_means : (table : ℕ) (its : List ℕ) (o : Option R) → row_at join s x.accepted table its ≡ o → Rattle.machine_collects.specs.Tie.MeansRow join s v k partitions key partition w moment o
      row_means table its None e = tt
      row_means table its (Some r) e = λ of. by_of r e of
        where
          by_of : (r : R) → row_at join s x.accepted table its ≡ Some r → Of join s laws v k partitions key partition r → Has w.shown (record { row = r; moment = moment })
          by_of r e of =
              let at = (row_place table its x.accepted proper r e).1 in
              let P : ℕ × List ℕ → Type 0 = λ q. row_at join s x.accepted q.0 q.1 ≡ Some r in
              let same : (table, its) ≡ (1, key) = λ i. ((sym at.0 ∙ of.table) i, (sym at.1 ∙ of.key_is) i) in
              shown r (subst P same e)

      pub get_means : (from request phase at table : ℕ) (its : List ℕ) → AllByRecursion (MeansPost join s laws v k partitions key partition w g collected n moment) (where_stored join s k x from request phase at (gives_row join s k x from request phase (row_at join s x.accepted table its))).posts
      get_means from request phase at table its = posts_cond (is_stored k x.view at) _ _ (row_means table its (row_at join s x.accepted table its) refl, tt) (tt, tt)

      pub range_means : (from request phase at : ℕ) (prefix after : List ℕ) → AllByRecursion (MeansPost join s laws v k partitions key partition w g collected n moment) (where_stored join s k x from request phase at (gives_rows join s k x from request phase (range s 1 prefix after most_rows (rows join s x.accepted)))).posts
      range_means from request phase at prefix after = posts_cond (is_stored k x.view at) _ _ (Rattle.crdt_core.proofs.Each.all_weaker (λ r. Of join s laws v k partitions key partition r → row_at join s x.accepted 1 key ≡ Some r) _ (λ r own of. shown r (own of)) (range s 1 prefix after most_rows (rows join s x.accepted)).0 (range_own join s laws v k partitions key partition x.accepted proper 1 prefix after most_rows), tt) (tt, tt)
