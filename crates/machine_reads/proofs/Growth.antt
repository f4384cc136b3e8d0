-- What stays as it is while a world of the data plane grows.
use Rattle.std.specs.Prelude.{◌≡◌, ◌≤◌, ◌⊎◌, ℕ, suc, ◌+◌, Option, Some, None, List, [], ◌∷◌, length, refl}
use Rattle.std.specs.List.{Contains, AllByRecursion}
use Rattle.std.proofs.Common.{sym, subst, ◌∙◌, inl, inr, arith}
use Rattle.blake2_hash.specs.declared.digest.Hash32.{Hash32}
use Rattle.table_schema.specs.Words.{Words, partition_of}
use Rattle.quorum_model.specs.Quorum.{StoreSlot}
use Rattle.quorum_model.specs.declared.range.RangeAnswer.{RangeAnswer}
use Rattle.wire_messages.specs.declared.message.Message.{Message}
use Rattle.wire_messages.specs.declared.message.Message.TheVariants.{Get, Row, Range, Rows, Store, Stored, Behind, NotHere, BlockGet, Block, NoBlock, Walk as AsksValue, Same as HasSame, Differ, Tomb, Tombed, Forget}
use Rattle.wire_messages.specs.declared.message.Tag.{Tag}
use Rattle.wire_messages.specs.declared.message.Tag.TheVariants.{Call as ForCall, Round as ForRound, Item as ForItem}
use Rattle.plane_model.specs.World as plane
use Rattle.plane_model.specs.World.{Extends, row_at as log_at, collected_at}
use Rattle.plane_model.specs.Rows.{IsOver as PlaneOver}
use Rattle.plane_model.specs.Action.{HasPushed}
use Rattle.plane_model.specs.Kept.{Holds, IsGone}
use Rattle.cluster_machine.specs.Layouts.{Layouts}
use Rattle.cluster_machine.specs.Node as machine
use Rattle.cluster_machine.specs.Node.{Scan, Present, resting, asking, scanning, storing, fetching, Call, Packet, says, shows, Node}
use Rattle.cluster_machine.specs.World.{Sent}
use Rattle.machine_reads.specs.Places.{Place}
use Rattle.machine_reads.specs.Tie.{Question, Asked, a_key, a_range, Begun, a_round, a_repair, Issued, both, State, Answered, AtKey, InRange, AnsweredRow, AnsweredRows, IsAsked, HasBase, GivesNext, HoldsFor, IsAllGone, IsConfirmed, IsPushOf, IsPushedOf, IsAskOf, IsAnswer, IsAnswerOf, MeansValue, MeansReply, MeansTag, MeansDone, IsWalk, IsPart, IsMending, MeansMessage, MeansPacket, Means, IsAsking, IsScanning, AreSets, IsSlot, IsStoring, IsPresent, IsCall, IsRound, IsRoundIn, IsNode}
use Rattle.crdt_core.proofs.Each.{all_weaker}

module _ {R L : Type 0} (join : R → R → R) (s : Words R) (k : Layouts L) (partitions : ℕ) (H : List ℕ → Type 0) where
  -- the data plane's world and what was issued only grow, but that a number of a round may become one of a repair
  pub record Grown (p new : State join s k partitions H) (g h : Issued R L) : Type 0 where
    pub lists : Extends p new
    pub gone : (q : Place) (x : R) → IsGone (both join s k partitions H) p.log q x → IsGone (both join s k partitions H) new.log q x
    pub oldest : (n : ℕ) → (both join s k partitions H).control.oldest p.control n ≤ (both join s k partitions H).control.oldest new.control n
    pub newest : (n : ℕ) → (both join s k partitions H).control.newest p.control n ≤ (both join s k partitions H).control.newest new.control n
    pub sets : (n i part : ℕ) → i ≤ (both join s k partitions H).control.newest p.control n → (both join s k partitions H).control.set new.control i part ≡ (both join s k partitions H).control.set p.control i part
    pub holds : (i : ℕ) (q : Place) (x : R) (n : ℕ) → Holds (both join s k partitions H) p.control p.log i q x n → Holds (both join s k partitions H) new.control new.log i q x n ⊎ IsGone (both join s k partitions H) new.log q x
    pub asks : (request phase : ℕ) (a : Asked R L) → g.asks request phase ≡ Some a → h.asks request phase ≡ Some a
    pub stores : (request phase slot : ℕ) (a : plane.Store Place R) → g.stores request phase slot ≡ Some a → h.stores request phase slot ≡ Some a
    pub rounds : (n number : ℕ) (b : Begun R) → g.rounds n number ≡ Some b → (h.rounds n number ≡ Some b) ⊎ (h.rounds n number ≡ Some a_repair)

  -- nothing was issued for this request
  pub record SameOf (g h : Issued R L) (request : ℕ) : Type 0 where
    pub owner : h.owner request ≡ g.owner request
    pub start : h.start request ≡ g.start request
    pub asks : (phase : ℕ) → h.asks request phase ≡ g.asks request phase
    pub stores : (phase slot : ℕ) → h.stores request phase slot ≡ g.stores request phase slot

  -- nor for the requests and rounds of this node
  pub record SameAt (g h : Issued R L) (requests n : ℕ) : Type 0 where
    pub calls : (request : ℕ) → request ≤ requests → g.owner request ≡ n → SameOf g h request
    pub rounds : (number : ℕ) → h.rounds n number ≡ g.rounds n number

  pub same_of : (g : Issued R L) (request : ℕ) → SameOf g g request
  same_of g request = record { owner = refl; start = refl; asks = λ phase. refl; stores = λ phase slot. refl }

  pub same_at : (g : Issued R L) (requests n : ℕ) → SameAt g g requests n
  same_at g requests n = record { calls = λ r b o. same_of g r; rounds = λ number. refl }

  module _ (p new : State join s k partitions H) (g h : Issued R L) (up : Grown p new g h) where
    abbrev answered_grows : (question : Question R L) (n : ℕ) → Answered join s k partitions H p g question n → Answered join s k partitions H new h question n
    answered_grows question n a = record { answer = a.answer; is_there = up.lists.answers a.answer a.is_there; of_it = a.of_it; at_node = a.at_node }

    key_grows : (question : Question R L) (table : ℕ) (key : List ℕ) (n : ℕ) (row : Option R) → AtKey join s k partitions H p g question table key n row → AtKey join s k partitions H new h question table key n row
    key_grows question table key n row a = record { answered = answered_grows question n a.answered; row_is = a.row_is }

    range_grows : (question : Question R L) (position prefix after : List ℕ) (n : ℕ) (found : RangeAnswer R) → InRange join s k partitions H p g question position prefix after n found → InRange join s k partitions H new h question position prefix after n found
    range_grows question position prefix after n found a = record { answered = answered_grows question n a.answered; contents = a.contents; proper = a.proper; rows_are = a.rows_are; found_is = a.found_is }

    row_grows : (q : Asked R L) (n : ℕ) (row : Option R) → AnsweredRow join s k partitions H p g q n row → AnsweredRow join s k partitions H new h q n row
    row_grows (a_key question table key) n row a = key_grows question table key n row a
    row_grows (a_range question position prefix after) n row a = absurd a

    rows_grow : (q : Asked R L) (n : ℕ) (found : RangeAnswer R) → AnsweredRows join s k partitions H p g q n found → AnsweredRows join s k partitions H new h q n found
    rows_grow (a_key question table key) n found a = absurd a
    rows_grow (a_range question position prefix after) n found a = range_grows question position prefix after n found a

    abbrev asked_grows : (request phase at : ℕ) (asked : Question R L → Asked R L) (to : ℕ) → IsAsked join s k partitions H p g request phase at asked to → IsAsked join s k partitions H new h request phase at asked to
    asked_grows request phase at asked to m = record { question = m.question; issued = up.asks request phase (asked m.question) m.issued; is_there = up.lists.questions m.question m.is_there; version = m.version; given = m.given }

    pub base_grows : (round : plane.Round Place R) (part named more : ℕ) → named ≤ more → HasBase join s k partitions H p g round part named → HasBase join s k partitions H new h round part more
    base_grows round part named more low m =
        let a : m.push.newest ≤ named = m.newest in
        let from : suc round.from ≤ (both join s k partitions H).control.newest p.control round.node = m.known in
        let high : (both join s k partitions H).control.newest p.control round.node ≤ (both join s k partitions H).control.newest new.control round.node = up.newest round.node in
        record {
          push = m.push;
          is_there = up.lists.pushes m.push m.is_there;
          of_it = m.of_it;
          partition_is = m.partition_is;
          newest = omega arith;
          next = m.next;
          mine = subst (λ set. Contains set round.node) (sym (up.sets round.node round.from part (omega arith))) m.mine;
          known = omega arith;
          rows_are = m.rows_are;
        }

    base_here : (round : plane.Round Place R) (part n : ℕ) → HasBase join s k partitions H p g round part ((both join s k partitions H).control.newest p.control n) → HasBase join s k partitions H new h round part ((both join s k partitions H).control.newest new.control n)
    base_here round part n m = base_grows round part ((both join s k partitions H).control.newest p.control n) ((both join s k partitions H).control.newest new.control n) (up.newest n) m

    base_stays : (round : plane.Round Place R) (part named : ℕ) → HasBase join s k partitions H p g round part named → HasBase join s k partitions H new h round part named
    base_stays round part named m = base_grows round part named named (omega arith) m

    given_grows : (round : plane.Round Place R) (part n : ℕ) → suc round.from ≤ (both join s k partitions H).control.newest p.control round.node → GivesNext join s k partitions H p g round part n → GivesNext join s k partitions H new h round part n
    given_grows round part n known m = subst (λ set. Contains set n) (sym (up.sets round.node (suc round.from) part known)) m

    -- what was held or collected is held or collected
    pub held_grows : (round : plane.Round Place R) (n : ℕ) (q : Place) (x : R) → HoldsFor join s k partitions H p g round n q x → HoldsFor join s k partitions H new h round n q x
    held_grows round n q x m = elim m [ inl held ↦ up.holds (suc round.from) q x n held | inr gone ↦ inr (up.gone q x gone) ]

    push_grows : (b : Begun R) (part named : ℕ) (rows : List (List ℕ × Option (List ℕ))) (to : ℕ) → IsPushOf join s k partitions H p g b part named rows to → IsPushOf join s k partitions H new h b part named rows to
    push_grows (a_round round) part named rows to m = record { base = base_stays round part named m.base; covers = λ q x had. elim (m.covers q x had) [ inl rows_have ↦ inl rows_have | inr held ↦ inr (held_grows round to q x held) ] }
    push_grows a_repair part named rows to m = tt

    ask_grows : (b : Begun R) (part named table : ℕ) (prefix hash : List ℕ) (to : ℕ) → IsAskOf join s k partitions H p g b part named table prefix hash to → IsAskOf join s k partitions H new h b part named table prefix hash to
    ask_grows (a_round round) part named table prefix hash to m = record { base = base_stays round part named m.base; given = given_grows round part to m.base.known m.given; contents = m.contents; hashed = m.hashed; over = λ q x had. elim (m.over q x had) [ inl has ↦ inl has | inr gone ↦ inr (up.gone q x gone) ]; hash_is = m.hash_is }
    ask_grows a_repair part named table prefix hash to m = tt

    says_grow : (round : plane.Round Place R) (part table : ℕ) (prefix : List ℕ) (answer : Option (List (ℕ × Hash32))) (from : ℕ) → IsAnswer join s k partitions H p g round part table prefix answer from → IsAnswer join s k partitions H new h round part table prefix answer from
    says_grow round part table prefix None from m = record { base = base_here round part from m.base; given = given_grows round part from m.base.known m.given; holds = λ q x had below. held_grows round from q x (m.holds q x had below) }
    says_grow round part table prefix (Some pairs) from m = record {
      base = base_here round part from m.base;
      given = given_grows round part from m.base.known m.given;
      contents = m.contents;
      hashed = m.hashed;
      children_are = m.children_are;
      holds = λ q x e has. held_grows round from q x (m.holds q x e has);
    }

    answer_grows : (b : Begun R) (part table : ℕ) (prefix : List ℕ) (answer : Option (List (ℕ × Hash32))) (from : ℕ) → IsAnswerOf join s k partitions H p g b part table prefix answer from → IsAnswerOf join s k partitions H new h b part table prefix answer from
    answer_grows (a_round round) part table prefix answer from m = says_grow round part table prefix answer from m
    answer_grows a_repair part table prefix answer from m = tt

    value_grows : (from to : ℕ) (tag : Tag) (named part table : ℕ) (prefix hash : List ℕ) → MeansValue join s k partitions H p g from to tag named part table prefix hash → MeansValue join s k partitions H new h from to tag named part table prefix hash
    value_grows from to (ForCall request phase slot) named part table prefix hash m = tt
    value_grows from to (ForRound number part') named part table prefix hash m = (m.0, elim (up.rounds from number m.1.begun m.1.issued) [ inl same ↦ record { begun = m.1.begun; issued = same; ask = ask_grows m.1.begun part named table prefix hash to m.1.ask } | inr over ↦ record { begun = a_repair; issued = over; ask = tt } ])
    value_grows from to (ForItem number) named part table prefix hash m = tt

    reply_grows : (from to : ℕ) (tag : Tag) (table : ℕ) (prefix : List ℕ) (answer : Option (List (ℕ × Hash32))) → MeansReply join s k partitions H p g from to tag table prefix answer → MeansReply join s k partitions H new h from to tag table prefix answer
    reply_grows from to (ForCall request phase slot) table prefix answer m = tt
    reply_grows from to (ForRound number part) table prefix answer m = elim (up.rounds to number m.begun m.issued) [ inl same ↦ record { begun = m.begun; issued = same; says = answer_grows m.begun part table prefix answer from m.says } | inr over ↦ record { begun = a_repair; issued = over; says = tt } ]
    reply_grows from to (ForItem number) table prefix answer m = tt

    pushed_grows : (b : Begun R) (part node : ℕ) → IsPushedOf join s k partitions H p g b part node → IsPushedOf join s k partitions H new h b part node
    pushed_grows (a_round round) part node m = up.lists.pushed _ m
    pushed_grows a_repair part node m = tt

    tag_grows : (from to : ℕ) (tag : Tag) (named part : ℕ) (rows : List (List ℕ × Option (List ℕ))) → MeansTag join s k partitions H p g from to tag named part rows → MeansTag join s k partitions H new h from to tag named part rows
    tag_grows from to (ForCall request phase slot) named part rows m = record { store = m.store; issued = up.stores request phase slot m.store m.issued; is_there = up.lists.stores m.store m.is_there; newest = m.newest; key = m.key; partition_is = m.partition_is; rows_are = m.rows_are }
    tag_grows from to (ForRound number part') named part rows m = (m.0, elim (up.rounds from number m.1.begun m.1.issued) [ inl same ↦ record { begun = m.1.begun; issued = same; push = push_grows m.1.begun part named rows to m.1.push } | inr over ↦ record { begun = a_repair; issued = over; push = tt } ])
    tag_grows from to (ForItem number) named part rows m = tt

    done_grows : (from to : ℕ) (tag : Tag) → MeansDone join s k partitions H p g from to tag → MeansDone join s k partitions H new h from to tag
    done_grows from to (ForCall request phase slot) m = record { store = m.store; issued = up.stores request phase slot m.store m.issued; confirmed = up.lists.stored _ m.confirmed }
    done_grows from to (ForRound number part) m = elim (up.rounds to number m.begun m.issued) [ inl same ↦ record { begun = m.begun; issued = same; pushed = pushed_grows m.begun part from m.pushed } | inr over ↦ record { begun = a_repair; issued = over; pushed = tt } ]
    done_grows from to (ForItem number) m = tt

    message_grows : (from to : ℕ) (x : Message R) → MeansMessage join s k partitions H p g from to x → MeansMessage join s k partitions H new h from to x
    message_grows from to (Get request phase at table key) m = record { asked = asked_grows request phase at _ to m.asked; one_partition = m.one_partition }
    message_grows from to (Row request phase row) m = record { asked = m.asked; issued = up.asks request phase m.asked m.issued; answered = row_grows m.asked from row m.answered }
    message_grows from to (Range request phase at position prefix after) m = asked_grows request phase at _ to m
    message_grows from to (Rows request phase rows more) m = record { asked = m.asked; issued = up.asks request phase m.asked m.issued; answered = rows_grow m.asked from (record { rows = rows; more = more }) m.answered }
    message_grows from to (Store tag named part rows) m = tag_grows from to tag named part rows m
    message_grows from to (Stored tag) m = done_grows from to tag m
    message_grows from to (Behind tag v) m = tt
    message_grows from to (NotHere tag) m = tt
    message_grows from to (BlockGet request phase at hash) m = tt
    message_grows from to (Block request phase bytes) m = tt
    message_grows from to (NoBlock request phase) m = tt
    message_grows from to (AsksValue tag named part table prefix hash) m = value_grows from to tag named part table prefix hash.0 m
    message_grows from to (HasSame tag table prefix) m = reply_grows from to tag table prefix None m
    message_grows from to (Differ tag table prefix pairs) m = reply_grows from to tag table prefix (Some pairs) m
    message_grows from to (Tomb number round row) m = tt
    message_grows from to (Tombed number round named) m = tt
    message_grows from to (Forget table key hash) m = tt

    packet_grows : (from to : ℕ) (x : Packet R L) → MeansPacket join s k partitions H p g from to x → MeansPacket join s k partitions H new h from to x
    packet_grows from to (says x) m = message_grows from to x m
    packet_grows from to (shows v) m = tt

    pub means_grows : (x : Sent R L) → Means join s k partitions H p g x → Means join s k partitions H new h x
    means_grows x m = packet_grows x.from x.to x.packet m

    sets_grow : (n m part first : ℕ) (sets : List (List ℕ)) → first + length sets ≡ suc m → m ≤ (both join s k partitions H).control.newest p.control n → AreSets join s k partitions H p g part first sets → AreSets join s k partitions H new h part first sets
    sets_grow n m part first [] long known a = tt
    sets_grow n m part first (set ∷ sets) long known a = (up.sets n first part (omega arith) ∙ a.0, sets_grow n m part (suc first) sets (omega arith) known a.1)

    slot_grows : (n request phase slot : ℕ) (r : R) (t : StoreSlot) → h.start request ≡ g.start request → IsSlot join s k partitions H p g n request phase slot r t → IsSlot join s k partitions H new h n request phase slot r t
    slot_grows n request phase slot r t same m =
        let high : (both join s k partitions H).control.newest p.control n ≤ (both join s k partitions H).control.newest new.control n = up.newest n in
        let older : (both join s k partitions H).control.oldest p.control n ≤ (both join s k partitions H).control.oldest new.control n = up.oldest n in
        let old : t.first ≤ (both join s k partitions H).control.oldest p.control n = m.old in
        let known : m.store.newest ≤ (both join s k partitions H).control.newest p.control n = m.known in
        record {
          store = m.store;
          issued = up.stores request phase slot m.store m.issued;
          is_there = up.lists.stores m.store m.is_there;
          proper = m.proper;
          row = m.row;
          key = m.key;
          node = m.node;
          start = m.start ∙ sym same;
          known = omega arith;
          old = omega arith;
          sets = sets_grow n m.store.newest (partition_of s r) t.first t.sets m.long m.known m.sets;
          long = m.long;
          confirmed = all_weaker _ _ (λ x c. up.lists.stored _ c) t.nodes m.confirmed;
        }

    storing_grows : (n request phase slot : ℕ) (rs : List R) (ts : List StoreSlot) → h.start request ≡ g.start request → IsStoring join s k partitions H p g n request phase slot rs ts → IsStoring join s k partitions H new h n request phase slot rs ts
    storing_grows n request phase slot [] [] same m = tt
    storing_grows n request phase slot [] (t ∷ ts) same m = absurd m
    storing_grows n request phase slot (r ∷ rs) [] same m = absurd m
    storing_grows n request phase slot (r ∷ rs) (t ∷ ts) same m = (slot_grows n request phase slot r t same m.0, storing_grows n request phase (suc slot) rs ts same m.1)

    asking_grows : (request phase : ℕ) (q : machine.Question R) (as' : List (ℕ × Option R)) → IsAsking join s k partitions H p g request phase q as' → IsAsking join s k partitions H new h request phase q as'
    asking_grows request phase q as' m = record { question = m.question; issued = up.asks request phase (a_key m.question q.table q.key) m.issued; one_partition = m.one_partition; kept = m.kept; answered = all_weaker _ _ (λ a b. key_grows m.question q.table q.key a.0 a.1 b) as' m.answered }

    scanning_grows : (request phase : ℕ) (q : Scan R) (as' : List (ℕ × RangeAnswer R)) → IsScanning join s k partitions H p g request phase q as' → IsScanning join s k partitions H new h request phase q as'
    scanning_grows request phase q as' m = record {
      question = m.question;
      issued = up.asks request phase (a_range m.question q.position q.prefix q.after) m.issued;
      long = m.long;
      one_partition = m.one_partition;
      kept = m.kept;
      answered = all_weaker _ _ (λ a b. range_grows m.question q.position q.prefix q.after a.0 a.1 b) as' m.answered;
    }

    pub present_grows : (n request phase : ℕ) (x : Present R) → h.start request ≡ g.start request → IsPresent join s k partitions H p g n request phase x → IsPresent join s k partitions H new h n request phase x
    present_grows n request phase resting same m = tt
    present_grows n request phase (asking q as') same m = asking_grows request phase q as' m
    present_grows n request phase (scanning q as') same m = scanning_grows request phase q as' m
    present_grows n request phase (storing rs ts) same m = storing_grows n request phase 0 rs ts same m
    present_grows n request phase (fetching hash) same m = tt

    pub call_stays : (requests more n : ℕ) (c : Call R) → requests ≤ more → SameOf g h c.request → IsCall join s k partitions H p g requests n c → IsCall join s k partitions H new h more n c
    call_stays requests more n c low same m =
        let b : c.request ≤ requests = m.begun in
        record {
          owner = same.owner ∙ m.owner;
          start = same.start ∙ m.start;
          begun = omega arith;
          not_asked = λ phase late. same.asks phase ∙ m.not_asked phase late;
          not_stored = λ phase slot late. same.stores phase slot ∙ m.not_stored phase slot late;
          present = present_grows n c.request c.phases c.present same.start m.present;
        }

    pub calls_stay : (requests more n : ℕ) (cs : List (Call R)) → requests ≤ more → SameAt g h requests n → AllByRecursion (IsCall join s k partitions H p g requests n) cs → AllByRecursion (IsCall join s k partitions H new h more n) cs
    calls_stay requests more n cs low same a = all_weaker _ _ (λ c m. call_stays requests more n c low (same.calls c.request m.begun m.owner) m) cs a

    has_pushed_grows : (r : plane.Round Place R) (part n : ℕ) → HasPushed p r part n → HasPushed new r part n
    has_pushed_grows r part n m = elim m [ inl e ↦ inl e | inr c ↦ inr (up.lists.pushed _ c) ]

    -- what is collected is over what it was over
    gone_over : (o : Option R) (q : Place) → PlaneOver join (collected_at (both join s k partitions H) p.log q) o → PlaneOver join (collected_at (both join s k partitions H) new.log q) o
    gone_over None q h = tt
    gone_over (Some x) q h = up.gone q x h

    all_gone_grows : (round : plane.Round Place R) (part : ℕ) → IsAllGone join s k partitions H p g round part → IsAllGone join s k partitions H new h round part
    all_gone_grows round part m = λ q e. gone_over (log_at (both join s k partitions H) round.log round.node q) q (m q e)

    confirmed_grows : (round : plane.Round Place R) (part n : ℕ) → IsConfirmed join s k partitions H p g round part n → IsConfirmed join s k partitions H new h round part n
    confirmed_grows round part n m = elim m [ inl pushed ↦ inl (has_pushed_grows round part n pushed) | inr gone ↦ inr (all_gone_grows round part gone) ]

    pub walk_stays : (round : plane.Round Place R) (w : machine.Walk) → IsWalk join s k partitions H p g round w → IsWalk join s k partitions H new h round w
    walk_stays round w m = record {
      base = base_here round w.state.partition round.node m.base;
      given = given_grows round w.state.partition w.node m.base.known m.given;
      covers = λ q x had. elim (m.covers q x had) [ inl held ↦ inl (held_grows round w.node q x held) | inr rest ↦ inr rest ];
    }

    pub part_stays : (round : plane.Round Place R) (part : machine.Part) → IsPart join s k partitions H p g round part → IsPart join s k partitions H new h round part
    part_stays round part m = record { base = base_here round part.partition round.node m.base; set_is = m.set_is ∙ sym (up.sets round.node (suc round.from) part.partition m.base.known) }

    pub mending_stays : (n : ℕ) (x : Option machine.Mending) → IsMending join s k partitions H p g n x → IsMending join s k partitions H new h n x
    mending_stays n None m = tt
    mending_stays n (Some x) m = elim (up.rounds n x.number a_repair m) [ inl same ↦ same | inr over ↦ over ]

    -- the numbers of a node's rounds stay those of rounds
    abbrev pub NumbersStay : ℕ → Type 0
    NumbersStay n = (number : ℕ) (b : Begun R) → g.rounds n number ≡ Some b → h.rounds n number ≡ Some b

    pub round_stays : (n : ℕ) (x : machine.Round) → NumbersStay n → IsRound join s k partitions H p g n x → IsRound join s k partitions H new h n x
    round_stays n x same m =
        let both = both join s k partitions H in
        let target : suc m.round.from ≡ x.target = m.target in
        let known : x.target ≤ both.control.newest p.control n = m.known in
        let high : both.control.newest p.control n ≤ both.control.newest new.control n = up.newest n in
        record {
          round = m.round;
          issued = same x.number (a_round m.round) m.issued;
          is_there = up.lists.rounds m.round m.is_there;
          node = m.node;
          target = m.target;
          known = omega arith;
          confirmed = all_weaker _ _ (λ (c : machine.Confirmed) b. confirmed_grows m.round c.partition c.node b) x.confirmed m.confirmed;
          parts = λ part is. elim (m.parts part (subst (λ set. Contains set n) (up.sets n m.round.from part (omega arith)) is)) [
            | inl gone ↦ inl (all_gone_grows m.round part gone)
            | inr some ↦ inr (record { part = some.part; is_there = some.is_there; partition_is = some.partition_is; set_is = some.set_is ∙ sym (up.sets n x.target part m.known) })
          ];
          all_parts = all_weaker _ _ (part_stays m.round) x.parts m.all_parts;
          walks = all_weaker _ _ (walk_stays m.round) x.walks m.walks;
        }

    pub round_in_stays : (n : ℕ) (x : Option machine.Round) → NumbersStay n → IsRoundIn join s k partitions H p g n x → IsRoundIn join s k partitions H new h n x
    round_in_stays n None same m = tt
    round_in_stays n (Some x) same m = round_stays n x same m

    -- a node that does not change, and of which the log says nothing new
    pub node_stays : (requests more n : ℕ) (x : Node R L) → requests ≤ more → SameAt g h requests n → ((q : Place) → log_at (both join s k partitions H) new.log n q ≡ log_at (both join s k partitions H) p.log n q) →
        IsNode join s k partitions H p g requests n x → IsNode join s k partitions H new h more n x
    node_stays requests more n x low same log m = record {
      rows = λ q. log q ∙ m.rows q;
      proper = m.proper;
      calls = calls_stay requests more n x.calls low same m.calls;
      round = round_in_stays n x.round (λ number b e. same.rounds number ∙ e) m.round;
      mending = mending_stays n x.mending m.mending;
      lasting = mending_stays n x.lasting m.lasting;
      later_rounds = λ number late. same.rounds number ∙ m.later_rounds number late;
    }
