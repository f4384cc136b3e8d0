-- What a node does when a packet comes: it sends to places, and walks with them.
use Rattle.std.proofs.Common.{◌≡◌, ℕ, Bool, true, false, not, ◌==◌, nat_lt, leb, cond, Option, Some, None, List, [], ◌∷◌, ◌++◌, refl, sym, subst}
use Rattle.std.specs.List.{AllByRecursion, list_all}
use Rattle.blake2_hash.specs.declared.digest.Hash32.{Hash32}
use Rattle.view_model.specs.View.{View, oldest, newest, merged}
use Rattle.table_schema.specs.Words.{Words}
use Rattle.table_model.specs.Rows.{row_at}
use Rattle.quorum_model.specs.Quorum.{StoreSlot, is_kept, with_confirmation}
use Rattle.quorum_model.specs.Answers.{first_two_at}
use Rattle.quorum_model.specs.Window.{Window}
use Rattle.quorum_model.specs.declared.range.RangeAnswer.{RangeAnswer}
use Rattle.walk_model.specs.Walking.{is_open}
use Rattle.wire_messages.specs.declared.message.Message.{Message}
use Rattle.wire_messages.specs.declared.message.Message.TheVariants.{Get, Row, Range, Rows, Store, Stored, Behind, NotHere, BlockGet, Block, NoBlock, Walk as AsksValue, Same as HasSame, Differ, Tomb, Tombed, Forget}
use Rattle.wire_messages.specs.declared.message.Tag.{Tag}
use Rattle.wire_messages.specs.declared.message.Tag.TheVariants.{Call as ForCall, Round as ForRound, Item as ForItem}
use Rattle.cluster_machine.specs.Layouts.{Layouts, is_given, is_stored}
use Rattle.cluster_machine.specs.Node.{Question, Scan, Present, asking, scanning, storing, fetching, Call, Walk, Round, Mending, Node, Packet, says, shows, Post, Did, quiet}
use Rattle.cluster_machine.specs.Rows.{block_at, still, accepts_read, accepts_all, drops, sees}
use Rattle.cluster_machine.specs.Phases.{call_at, asked, looked, stored, value_after, row_came, window_at, rows_came, stored_came, block_came, at_call, is_spelled}
use Rattle.cluster_machine.specs.Rounds.{is_complete, walk_at, is_walk, walks_after, found_same, rows_at, walk_after, asked_after, sends_after, synced, goes_on, round_walks, mending_walks, at_walk, mending_came, with_mending, with_lasting, late_came, answer_came}
use Rattle.cluster_machine.specs.Collects.{all_nodes}
use Rattle.cluster_machine.specs.Receives.{answers, where_stored, gives_block, gives_row, takes, compares, walks_on, round_came, confirms, hears, receives}
use Rattle.machine_origins.proofs.Lists.{all_found}
use Rattle.world_laws.proofs.Unbroken.{layouts_in, layouts_received}
use Rattle.receiver_laws.specs.Places.{LayoutNames, PacketNames, PostNames, WalkNames, RoundNames, OpenNames, MendingNames, NodeNames}
use Rattle.receiver_laws.proofs.Walks.{walks_after_places, after_places}
use Rattle.receiver_laws.proofs.Gathering.{Same, same_after, DidNames, did_same, did_cond, forget_places, tombed_places, tomb_places}

module _ {R L : Type 0} (join : R → R → R) (s : Words R) (now : ℕ) where
  read_same : (x : Node R L) (o : Option R) (given : Option (List ℕ)) → Same x (accepts_read join s now x o given)
  read_same x None given = (refl, (refl, refl))
  read_same x (Some r) given = (refl, (refl, refl))

  all_same : (rows : List (List ℕ × Option (List ℕ))) (x : Node R L) → Same x (accepts_all join s now x rows)
  all_same [] x = (refl, (refl, refl))
  all_same (r ∷ rs) x = let one : Node R L = accepts_read join s now x (s.read r.0) r.1 in same_after x one (accepts_all join s now one rs) (read_same x (s.read r.0) r.1) (all_same rs one)

module _ {R L : Type 0} (join : R → R → R) (s : Words R) (k : Layouts L) (IsPlace : ℕ → Type 0) where
  -- a node goes on with its round, or has completed it
  pub goes_places : (id : ℕ) (x y : Node R L) (round : Round) → NodeNames IsPlace k x → Same x y → RoundNames IsPlace round → (posts : List (Post R L)) → AllByRecursion (PostNames IsPlace k) posts → (b : Bool) → DidNames k IsPlace (record (quiet (goes_on join s k id y round)) { posts = posts; is_spelled = b })
  goes_places id x y round h same r posts sends b = elim (is_complete round) as (λ c. DidNames k IsPlace (record (quiet (cond c (synced join s k id y round) (record y { round = Some round }))) { posts = posts; is_spelled = b })) [
    | true ↦ record { round = tt; mending = subst (MendingNames IsPlace) (sym same.1.0) h.mending; lasting = r.walks; posts = sends }
    | false ↦ record { round = r; mending = subst (MendingNames IsPlace) (sym same.1.0) h.mending; lasting = subst (MendingNames IsPlace) (sym same.1.1) h.lasting; posts = sends }
  ]

module _ {R L : Type 0} (join : R → R → R) (s : Words R) (k : Layouts L) (IsPlace : ℕ → Type 0) (all : AllByRecursion IsPlace all_nodes) (id : ℕ) (x : Node R L) (h : NodeNames IsPlace k x) where
  abbrev Places : Did R L → Type 0
  Places d = DidNames k IsPlace d

  either : (b : Bool) (d e : Did R L) → Places d → Places e → Places (cond b d e)
  either b d e i j = did_cond k IsPlace b d e i j

  -- a node of which neither rounds nor repairs change, and that sends nothing
  rests_as : (d : Did R L) → Same x d.node → d.posts ≡ [] → Places d
  rests_as d same none = did_same k IsPlace x d h same (subst (AllByRecursion (PostNames IsPlace k)) (sym none) tt)

  rests : Places (quiet x)
  rests = rests_as (quiet x) (refl, (refl, refl)) refl

  answers_places : (to : ℕ) (m : Message R) → IsPlace to → Places (answers x to m)
  answers_places to m place = did_same k IsPlace x _ h (refl, (refl, refl)) (record { to = place; packet = tt }, tt)

  -- ---- requests

  in_call : (phase : ℕ) (act : Call R → Did R L) (o : Option (Call R)) → ((c : Call R) → Places (act c)) → Places (at_call x phase act o)
  in_call phase act None i = rests
  in_call phase act (Some c) i = either (c.phases == phase) (act c) (quiet x) (i c) rests

  here : (from request phase at : ℕ) (d : Did R L) → IsPlace from → Places d → Places (where_stored join s k x from request phase at d)
  here from request phase at d place i = either (is_stored k x.view at) d _ i (answers_places from (NotHere (ForCall request phase 0)) place)

  asked_places : (c : Call R) (q : Question R) (before : List (ℕ × Option R)) (a : ℕ × Option R) (o : Option (Option R)) → Places (asked x c q before a o)
  asked_places c q before a None = rests_as _ (refl, (refl, refl)) refl
  asked_places c q before a (Some value) = rests_as _ (refl, (refl, refl)) refl

  looked_places : (c : Call R) (q : Scan R) (before : List (ℕ × RangeAnswer R)) (a : ℕ × RangeAnswer R) (o : Option (Window R)) → Places (looked x c q before a o)
  looked_places c q before a None = rests_as _ (refl, (refl, refl)) refl
  looked_places c q before a (Some w) = rests_as _ (refl, (refl, refl)) refl

  stored_places : (c : Call R) (rs : List R) (slots : List StoreSlot) (b : Bool) → Places (stored x c rs slots b)
  stored_places c rs slots false = rests_as _ (refl, (refl, refl)) refl
  stored_places c rs slots true = rests_as _ (refl, (refl, refl)) refl

  row_places : (c : Call R) (from : ℕ) (row : Option R) (p : Present R) → Places (row_came join x c from row p)
  row_places c from row (asking q before) = asked_places c q before (from, row) (value_after join q before (from, row))
  row_places c from row _ = rests

  window_places : (c : Call R) (from : ℕ) (rs : List R) (more : Bool) (p : Present R) → Places (rows_came join s x c from rs more p)
  window_places c from rs more (scanning q before) = looked_places c q before (from, record { rows = rs; more = more }) (window_at join s (first_two_at q.set before (from, record { rows = rs; more = more })))
  window_places c from rs more _ = rests

  confirmed_places : (c : Call R) (slot from : ℕ) (p : Present R) → Places (stored_came k x c slot from p)
  confirmed_places c slot from (storing rs slots) = let now = with_confirmation slots slot from in stored_places c rs now (is_kept now (oldest k.reading x.view))
  confirmed_places c slot from _ = rests

  block_places : (c : Call R) (bytes : List ℕ) (p : Present R) → Places (block_came x c bytes p)
  block_places c bytes (fetching hash) = rests_as _ (refl, (refl, refl)) refl
  block_places c bytes _ = rests

  given_places : (from request phase : ℕ) (o : Option (List ℕ)) → IsPlace from → Places (gives_block join s k x from request phase o)
  given_places from request phase None place = answers_places from (NoBlock request phase) place
  given_places from request phase (Some bytes) place = answers_places from (Block request phase bytes) place

  -- ---- rows, and what is asked for walks

  takes_places : (now from : ℕ) (tag : Tag) (named p : ℕ) (bs : List (List ℕ × Option (List ℕ))) → IsPlace from → Places (takes join s k id now x from tag named p bs)
  takes_places now from tag named p bs place =
      either (nat_lt (newest k.reading x.view) named) _ _ (answers_places from (Behind tag (newest k.reading x.view)) place)
      (either (not (is_given k x.view id p)) _ _ (answers_places from (NotHere tag) place)
      (did_same k IsPlace x _ h (all_same join s now bs x) (record { to = place; packet = tt }, tt)))

  compares_places : (from : ℕ) (tag : Tag) (named p table : ℕ) (prefix : List ℕ) (hash : Hash32) → IsPlace from → Places (compares join s k id x from tag named p table prefix hash)
  compares_places from tag named p table prefix hash place =
      either (nat_lt (newest k.reading x.view) named) _ _ (answers_places from (Behind tag (newest k.reading x.view)) place)
      (either (not (is_given k x.view id p)) _ _ (answers_places from (NotHere tag) place) (did_same k IsPlace x _ h (refl, (refl, refl)) (record { to = place; packet = tt }, tt)))

  -- ---- rounds and repairs

  round_places : (from number p : ℕ) (o : Option Round) → OpenNames IsPlace o → Places (round_came join s k id x from number p o)
  round_places from number p None r = rests
  round_places from number p (Some round) r =
      let more : Round = record round { confirmed = round.confirmed ++ record { partition = p; node = from } ∷ [] } in
      either (round.number == number) (quiet (goes_on join s k id x more)) (quiet x) (goes_places join s k IsPlace id x x more h (refl, (refl, refl)) (record { parts = r.parts; walks = r.walks }) [] tt true) rests

  at_walk_places : (table : ℕ) (prefix : List ℕ) (act : Walk → Did R L) (o : Option Walk) → ((w : Walk) → o ≡ Some w → Places (act w)) → Places (at_walk join s k x table prefix act o)
  at_walk_places table prefix act None i = rests
  at_walk_places table prefix act (Some w) i = either (is_open table prefix w.state.prefixes) (act w) (quiet x) (i w refl) rests

  -- a repair or the last round goes on
  mended_places : (now : Mending → Node R L) (mending : Mending) (w : Walk) (table : ℕ) (prefix : List ℕ) (answer : Option (List (ℕ × Hash32))) →
      ((m : Mending) → AllByRecursion (WalkNames IsPlace) m.walks → Places (quiet (now m))) → AllByRecursion (WalkNames IsPlace) mending.walks → WalkNames IsPlace w → Places (mending_walks join s k x now table prefix answer mending w)
  mended_places now mending w table prefix answer i m there =
      let later : Walk = walk_after join s x w table prefix answer in
      let node = i (record mending { walks = walks_after later mending.walks }) (walks_after_places IsPlace later mending.walks there m) in
      record {
        round = node.round;
        mending = node.mending;
        lasting = node.lasting;
        posts = after_places join s k IsPlace x mending.number later table (asked_after join s x w.state.partition table prefix answer) there;
      }

  mending_places : (now : Mending → Node R L) (other : Did R L) → ((m : Mending) → AllByRecursion (WalkNames IsPlace) m.walks → Places (quiet (now m))) → Places other → (from number p table : ℕ) (prefix : List ℕ) (answer : Option (List (ℕ × Hash32))) (o : Option Mending) →
      MendingNames IsPlace o → Places (mending_came join s k x now other from number p table prefix answer o)
  mending_places now other i d from number p table prefix answer None m = d
  mending_places now other i d from number p table prefix answer (Some mending) m =
      either (mending.number == number) _ other
      (at_walk_places table prefix (mending_walks join s k x now table prefix answer mending) (walk_at p from mending.walks) (λ w e. mended_places now mending w table prefix answer i m (all_found (WalkNames IsPlace) (is_walk p from) mending.walks w m e).0)) d

  late_places : (from number p table : ℕ) (prefix : List ℕ) (answer : Option (List (ℕ × Hash32))) → Places (late_came join s k x from number p table prefix answer)
  late_places from number p table prefix answer =
      mending_places (with_lasting join s k x) _ (λ m walks. record { round = h.round; mending = h.mending; lasting = walks; posts = tt })
      (mending_places (with_mending join s k x) (quiet x) (λ m walks. record { round = h.round; mending = walks; lasting = h.lasting; posts = tt }) rests from number p table prefix answer x.mending h.mending)
      from number p table prefix answer x.lasting h.lasting

  walked_places : (table : ℕ) (prefix : List ℕ) (answer : Option (List (ℕ × Hash32))) (round : Round) (w : Walk) → RoundNames IsPlace round → WalkNames IsPlace w → Places (round_walks join s k id x table prefix answer round w)
  walked_places table prefix answer round w r there =
      let later : Walk = walk_after join s x w table prefix answer in
      let now : Round = record round { walks = walks_after later round.walks } in
      let more : Round = record now { confirmed = now.confirmed ++ record { partition = w.state.partition; node = w.node } ∷ [] } in
      let walks = walks_after_places IsPlace later round.walks there r.walks in
      let posts = after_places join s k IsPlace x round.number later table (asked_after join s x w.state.partition table prefix answer) there in
      let asked : List (List ℕ) = asked_after join s x w.state.partition table prefix answer in
      let sent : List (Post R L) = sends_after join s k x round.number later table asked in
      let fine : Bool = list_all (is_spelled s) (rows_at join s x w.state.partition) in
      elim (found_same later) as (λ b. Places (record (quiet (cond b (goes_on join s k id x more) (record x { round = Some now }))) { posts = sent; is_spelled = fine })) [
        | true ↦ goes_places join s k IsPlace id x x more h (refl, (refl, refl)) (record { parts = r.parts; walks = walks }) sent posts fine
        | false ↦ record { round = record { parts = r.parts; walks = walks }; mending = h.mending; lasting = h.lasting; posts = posts }
      ]

  answer_places : (from number p table : ℕ) (prefix : List ℕ) (answer : Option (List (ℕ × Hash32))) (o : Option Round) → OpenNames IsPlace o → Places (answer_came join s k id x from number p table prefix answer o)
  answer_places from number p table prefix answer None r = late_places from number p table prefix answer
  answer_places from number p table prefix answer (Some round) r =
      either (round.number == number) _ _
      (at_walk_places table prefix (round_walks join s k id x table prefix answer round) (walk_at p from round.walks) (λ w e. walked_places table prefix answer round w r (all_found (WalkNames IsPlace) (is_walk p from) round.walks w r.walks e).0))
      (late_places from number p table prefix answer)

  walks_on_places : (from : ℕ) (tag : Tag) (table : ℕ) (prefix : List ℕ) (answer : Option (List (ℕ × Hash32))) → Places (walks_on join s k id x from tag table prefix answer)
  walks_on_places from (ForRound number p) table prefix answer = answer_places from number p table prefix answer x.round h.round
  walks_on_places from _ table prefix answer = rests

  confirms_places : (from : ℕ) (tag : Tag) → Places (confirms join s k id x from tag)
  confirms_places from (ForCall request phase slot) = in_call phase (λ c. stored_came k x c slot from c.present) (call_at x.calls request) (λ c. confirmed_places c slot from c.present)
  confirms_places from (ForRound number p) = round_places from number p x.round h.round
  confirms_places from (ForItem number) = rests_as _ (refl, (refl, refl)) refl

  -- ---- whatever comes

  hears_places : (now from : ℕ) (m : Message R) → IsPlace from → Places (hears join s k id now x from m)
  hears_places now from (Get request phase at table key) place = here from request phase at (gives_row join s k x from request phase (row_at join s x.accepted table key)) place (did_same k IsPlace x _ h (refl, (refl, refl)) (record { to = place; packet = tt }, tt))
  hears_places now from (Row request phase row) place = in_call phase (λ c. row_came join x c from row c.present) (call_at x.calls request) (λ c. row_places c from row c.present)
  hears_places now from (Range request phase at bucket prefix after) place = here from request phase at _ place (did_same k IsPlace x _ h (refl, (refl, refl)) (record { to = place; packet = tt }, tt))
  hears_places now from (Rows request phase rs more) place = in_call phase (λ c. rows_came join s x c from rs more c.present) (call_at x.calls request) (λ c. window_places c from rs more c.present)
  hears_places now from (Store tag named p bs) place = takes_places now from tag named p bs place
  hears_places now from (Stored tag) place = confirms_places from tag
  hears_places now from (Behind tag version) place = rests
  hears_places now from (NotHere tag) place = rests
  hears_places now from (BlockGet request phase at hash) place = here from request phase at _ place (given_places from request phase (block_at x.blocks hash.0) place)
  hears_places now from (Block request phase bytes) place = in_call phase (λ c. block_came x c bytes c.present) (call_at x.calls request) (λ c. block_places c bytes c.present)
  hears_places now from (NoBlock request phase) place = rests
  hears_places now from (AsksValue tag named p table prefix hash) place = compares_places from tag named p table prefix hash place
  hears_places now from (HasSame tag table prefix) place = walks_on_places from tag table prefix None
  hears_places now from (Differ tag table prefix pairs) place = walks_on_places from tag table prefix (Some pairs)
  hears_places now from (Tomb number round row) place = tomb_places join s k IsPlace all x h id now from number round row place
  hears_places now from (Tombed number round named) place = tombed_places join s k IsPlace all x h id now from number round named
  hears_places now from (Forget table key hash) place = forget_places join s k IsPlace all x h table key hash.0

  still_places : (old : ℕ) (o : Option Round) → OpenNames IsPlace o → OpenNames IsPlace (still old o)
  still_places old None r = tt
  still_places old (Some round) r = elim (leb round.target old) as (λ b. OpenNames IsPlace (cond b None (Some round))) [ true ↦ tt | false ↦ r ]

  pub sees_places : (now : ℕ) (v : View L) → Places (quiet (sees join s k id now x v))
  sees_places now v =
      let new : Node R L = record x { view = v; round = still (oldest k.reading v) x.round } in
      let round = still_places (oldest k.reading v) x.round h.round in
      elim (leb (oldest k.reading v) (oldest k.reading x.view)) as (λ b. Places (quiet (cond b new (drops join s k id now new)))) [
        | true ↦ record { round = round; mending = h.mending; lasting = h.lasting; posts = tt }
        | false ↦ record { round = round; mending = h.mending; lasting = h.lasting; posts = tt }
      ]

  comes_places : (now from : ℕ) (packet : Packet R L) → IsPlace from → Places (receives join s k id now x from packet)
  comes_places now from (says m) place = hears_places now from m place
  comes_places now from (shows v) place = sees_places now (merged k.reading x.view v)

  shown_places : (packet : Packet R L) → PacketNames IsPlace k packet → AllByRecursion (LayoutNames IsPlace k) (layouts_in packet)
  shown_places (says m) p = tt
  shown_places (shows v) p = p

  -- what a node is after a packet, and what it sends
  pub received_places : (now from : ℕ) (packet : Packet R L) → IsPlace from → PacketNames IsPlace k packet →
      NodeNames IsPlace k (receives join s k id now x from packet).node × AllByRecursion (PostNames IsPlace k) (receives join s k id now x from packet).posts
  received_places now from packet place p =
      let d = comes_places now from packet place in
      (record { layouts = layouts_received join s k x (LayoutNames IsPlace k) id now from packet h.layouts (shown_places packet p); round = d.round; mending = d.mending; lasting = d.lasting }, d.posts)
