-- What messages, collections and rows are in the world of one key they go on to be.
use Rattle.std.specs.Prelude.{◌≡◌, ◌⊎◌, ◌≤◌, ℕ, List, [], ◌∷◌, Option, Some, None, refl}
use Rattle.std.proofs.Common.{sym, ◌∙◌, inl, inr, arith}
use Rattle.crdt_core.specs.Members.{Has}
use Rattle.crdt_core.proofs.Each.{all_weaker}
use Rattle.control_model.specs.Steps.{Step}
use Rattle.table_schema.specs.Words.{Words}
use Rattle.gc_model.specs.declared.collection.Collection.{Collection}
use Rattle.wire_messages.specs.declared.message.Message.{Message}
use Rattle.wire_messages.specs.declared.message.Message.TheVariants.{Get, Row, Range, Rows, Store, Stored, Behind, NotHere, BlockGet, Block, NoBlock, Walk as AsksValue, Same as HasSame, Differ, Tomb, Tombed, Forget}
use Rattle.collection_model.specs.World.{Sent as Message', Begun, Tombed as Confirmed, Witness, Ready, Second, Again}
use Rattle.collection_model.specs.Action as act
use Rattle.collection_model.specs.Action.{Action, IsWitness, step, run}
use Rattle.cluster_machine.specs.Layouts.{Layouts}
use Rattle.cluster_machine.specs.Node.{Node, Packet, says, shows}
use Rattle.cluster_machine.specs.World.{Sent}
use Rattle.machine_collects.specs.Versions.{Version, Versions, site}
use Rattle.machine_collects.specs.Tie.{State, Issued, witness, rows_read, IsShown, IsStored, MeansRow, IsCollected, MeansTomb, MeansTombed, MeansMessage, MeansPacket, Means, IsReady, HasAgain, IsSecond, IsFirst, IsMine, IsOpen, IsNode}

-- nothing is forgotten
pub record Grew {R L : Type 0} (w new : State R L) : Type 0 where
  pub shown : (x : Message' R) → Has w.shown x → Has new.shown x
  pub stored : (x : Message' R) → Has w.stored x → Has new.stored x
  pub begun : (x : Begun R Version) → Has w.begun x → Has new.begun x
  pub tombed : (x : Confirmed R Version) → Has w.tombed x → Has new.tombed x
  pub ready : (x : Ready R Version) → Has w.ready x → Has new.ready x
  pub second : (x : Second R Version) → Has w.second x → Has new.second x
  pub again : (x : Again R Version) → Has w.again x → Has new.again x
  pub dropped : (x : R) → Has w.dropped x → Has new.dropped x

pub grew_self : {R L : Type 0} (w : State R L) → Grew w w
grew_self w = record { shown = λ x h. h; stored = λ x h. h; begun = λ x h. h; tombed = λ x h. h; ready = λ x h. h; second = λ x h. h; again = λ x h. h; dropped = λ x h. h }

pub grew_then : {R L : Type 0} (w mid new : State R L) → Grew w mid → Grew mid new → Grew w new
grew_then w mid new g h = record { shown = λ x i. h.shown x (g.shown x i); stored = λ x i. h.stored x (g.stored x i); begun = λ x i. h.begun x (g.begun x i); tombed = λ x i. h.tombed x (g.tombed x i); ready = λ x i. h.ready x (g.ready x i); second = λ x i. h.second x (g.second x i); again = λ x i. h.again x (g.again x i); dropped = λ x i. h.dropped x (g.dropped x i) }

-- numbers stand for what they stood for
pub record Later {R : Type 0} (g h : Issued R) : Type 0 where
  pub last : (n : ℕ) → g.last n ≤ h.last n
  pub begun : (n m : ℕ) → m ≤ g.last n → h.begun n m ≡ g.begun n m
  pub second : (n m : ℕ) (t : Second R Version) → g.second n m ≡ Some t → h.second n m ≡ Some t

-- a number of a node stands for the same
pub record SameFor {R : Type 0} (g h : Issued R) (n m : ℕ) : Type 0 where
  pub last : g.last n ≤ h.last n
  pub begun : h.begun n m ≡ g.begun n m
  pub second : h.second n m ≡ g.second n m

-- all numbers of a node stand for the same
pub record SameAt {R : Type 0} (g h : Issued R) (n : ℕ) : Type 0 where
  pub last : h.last n ≡ g.last n
  pub begun : (m : ℕ) → h.begun n m ≡ g.begun n m
  pub second : (m : ℕ) → h.second n m ≡ g.second n m

pub later_self : {R : Type 0} (g : Issued R) → Later g g
later_self g = record { last = λ n. omega arith; begun = λ n m l. refl; second = λ n m t e. e }

pub same_self : {R : Type 0} (g : Issued R) (n : ℕ) → SameAt g g n
same_self g n = record { last = refl; begun = λ m. refl; second = λ m. refl }

pub same_for_at : {R : Type 0} (g h : Issued R) (n m : ℕ) → SameAt g h n → SameFor g h n m
same_for_at g h n m s = record { last = (let e : h.last n ≡ g.last n = s.last in omega arith); begun = s.begun m; second = s.second m }

module _ {R L : Type 0} (join : R → R → R) (s : Words R) (v : Versions R) (k : Layouts L) (partitions : ℕ) (key : List ℕ) (partition : ℕ) where
  abbrev S : Rattle.collection_model.specs.Site.Site (Rattle.control_model.specs.World.World L) (Step L) R Version
  S = site join s v key k partitions partition

  abbrev pub Act : Type 0
  Act = Action (Step L) R Version

  grew_step : (w : State R L) (a : Act) → Grew w (step S w a)
  grew_step w (act.ticks ms) = record { shown = λ x h. h; stored = λ x h. h; begun = λ x h. h; tombed = λ x h. h; ready = λ x h. h; second = λ x h. h; again = λ x h. h; dropped = λ x h. h }
  grew_step w (act.moves es rows) = record { shown = λ x h. h; stored = λ x h. h; begun = λ x h. h; tombed = λ x h. h; ready = λ x h. h; second = λ x h. h; again = λ x h. h; dropped = λ x h. h }
  grew_step w (act.takes n x) = record { shown = λ x h. h; stored = λ x h. h; begun = λ x h. h; tombed = λ x h. h; ready = λ x h. h; second = λ x h. h; again = λ x h. h; dropped = λ x h. h }
  grew_step w (act.shows n x) = record { shown = λ x h. inr h; stored = λ x h. h; begun = λ x h. h; tombed = λ x h. h; ready = λ x h. h; second = λ x h. h; again = λ x h. h; dropped = λ x h. h }
  grew_step w (act.stores x) = record { shown = λ x h. h; stored = λ x h. inr h; begun = λ x h. h; tombed = λ x h. h; ready = λ x h. h; second = λ x h. h; again = λ x h. h; dropped = λ x h. h }
  grew_step w (act.begins n x u) = record { shown = λ x h. h; stored = λ x h. h; begun = λ x h. inr h; tombed = λ x h. h; ready = λ x h. h; second = λ x h. h; again = λ x h. h; dropped = λ x h. h }
  grew_step w (act.confirms b n) = record { shown = λ x h. h; stored = λ x h. h; begun = λ x h. h; tombed = λ x h. inr h; ready = λ x h. h; second = λ x h. h; again = λ x h. h; dropped = λ x h. h }
  grew_step w (act.completes b us c) = record { shown = λ x h. h; stored = λ x h. h; begun = λ x h. h; tombed = λ x h. h; ready = λ x h. inr h; second = λ x h. h; again = λ x h. h; dropped = λ x h. h }
  grew_step w (act.seconds r) = record { shown = λ x h. h; stored = λ x h. h; begun = λ x h. h; tombed = λ x h. h; ready = λ x h. h; second = λ x h. inr h; again = λ x h. h; dropped = λ x h. h }
  grew_step w (act.answers t n) = record { shown = λ x h. h; stored = λ x h. h; begun = λ x h. h; tombed = λ x h. h; ready = λ x h. h; second = λ x h. h; again = λ x h. inr h; dropped = λ x h. h }
  grew_step w (act.ends t) = record { shown = λ x h. h; stored = λ x h. h; begun = λ x h. h; tombed = λ x h. h; ready = λ x h. h; second = λ x h. h; again = λ x h. h; dropped = λ x h. inr h }
  grew_step w (act.drops n x) = record { shown = λ x h. h; stored = λ x h. h; begun = λ x h. h; tombed = λ x h. h; ready = λ x h. h; second = λ x h. h; again = λ x h. h; dropped = λ x h. h }

  pub grew_run : (acts : List Act) (w : State R L) → Grew w (run S w acts)
  grew_run [] w = grew_self w
  grew_run (a ∷ acts) w = grew_then w (step S w a) (run S (step S w a) acts) (grew_step w a) (grew_run acts (step S w a))

  module _ (w new : State R L) (grew : Grew w new) where
    pub shown_stays : (moment : ℕ) (r : R) → IsShown join s v k partitions key partition w moment r → IsShown join s v k partitions key partition new moment r
    shown_stays moment r h of = grew.shown _ (h of)

    stored_stays : (moment part : ℕ) (r : R) → IsStored join s v k partitions key partition w moment part r → IsStored join s v k partitions key partition new moment part r
    stored_stays moment part r h = (h.0, λ of. elim (h.1 of) [ inl shown ↦ inl (grew.shown _ shown) | inr stored ↦ inr (grew.stored _ stored) ])

    row_stays : (moment : ℕ) (o : Option R) → MeansRow join s v k partitions key partition w moment o → MeansRow join s v k partitions key partition new moment o
    row_stays moment None h = tt
    row_stays moment (Some r) h = shown_stays moment r h

    pub collected_stays : (r : R) → IsCollected join s v k partitions key partition w r → IsCollected join s v k partitions key partition new r
    collected_stays r h = record { proper = h.proper; table = h.table; dropped = λ e. grew.dropped r (h.dropped e) }

    witness_stays : (b : Begun R Version) (u : Witness) → IsWitness S w b u → IsWitness S new b u
    witness_stays b u h = elim h [ inl self ↦ inl self | inr other ↦ inr (other.0, grew.tombed _ other.1) ]

    module _ (g h : Issued R) where
      tomb_stays : (from moment number round : ℕ) (row : List ℕ) → Later g h → MeansTomb join s v k partitions key partition w g from moment number round row → MeansTomb join s v k partitions key partition new h from moment number round row
      tomb_stays from moment number round row later m =
          let low : number ≤ g.last from = m.low in
          let up : g.last from ≤ h.last from = later.last from in
          record {
            low = omega arith;
            shown = λ r e. shown_stays moment r (m.shown r e);
            means = λ b e. (let old = m.means b (sym (later.begun from number low) ∙ e) in record {
              there = grew.begun b old.there;
              row_is = old.row_is;
              second = λ two. (let t = old.second two in (t.0, (later.second from number t.0 t.1.0, grew.second t.0 t.1.1)));
            });
          }

      tombed_stays : (from to number round named : ℕ) → Later g h → MeansTombed join s v k partitions key partition w g from to number round named → MeansTombed join s v k partitions key partition new h from to number round named
      tombed_stays from to number round named later m =
          let low : number ≤ g.last to = m.low in
          let up : g.last to ≤ h.last to = later.last to in
          record {
            low = omega arith;
            asked = m.asked;
            means = λ b e. (let old = m.means b (sym (later.begun to number low) ∙ e) in record {
              first = λ one. grew.tombed _ (old.first one);
              second = λ two. (let t = old.second two in (t.0, (later.second to number t.0 t.1.0, grew.again _ t.1.1)));
            });
          }

      message_stays : (old more : List R) (from to moment : ℕ) (m : Message R) → Later g h → ((r : R) → Has old r → Has more r) → MeansMessage join s v k partitions key partition w g old from to moment m → MeansMessage join s v k partitions key partition new h more from to moment m
      message_stays old more from to moment (Get request phase at table its) later up m = tt
      message_stays old more from to moment (Row request phase row) later up m = row_stays moment row m
      message_stays old more from to moment (Range request phase at bucket prefix after) later up m = tt
      message_stays old more from to moment (Rows request phase rows x) later up m = all_weaker _ _ (shown_stays moment) rows m
      message_stays old more from to moment (Store tag named part rows) later up m = all_weaker _ _ (stored_stays moment part) (rows_read s rows) m
      message_stays old more from to moment (Stored tag) later up m = tt
      message_stays old more from to moment (Behind tag x) later up m = tt
      message_stays old more from to moment (NotHere tag) later up m = tt
      message_stays old more from to moment (BlockGet request phase at hash) later up m = tt
      message_stays old more from to moment (Block request phase bytes) later up m = tt
      message_stays old more from to moment (NoBlock request phase) later up m = tt
      message_stays old more from to moment (AsksValue tag named part table prefix hash) later up m = tt
      message_stays old more from to moment (HasSame tag table prefix) later up m = tt
      message_stays old more from to moment (Differ tag table prefix pairs) later up m = tt
      message_stays old more from to moment (Tomb number round row) later up m = tomb_stays from moment number round row later m
      message_stays old more from to moment (Tombed number round named) later up m = tombed_stays from to number round named later m
      message_stays old more from to moment (Forget table its hash) later up m = record { objects = m.objects; row = m.row; there = up m.row m.there; key_is = m.key_is; bytes = m.bytes; spelled = m.spelled; hash_is = m.hash_is }

      pub packet_stays : (old more : List R) (from to moment : ℕ) (p : Packet R L) → Later g h → ((r : R) → Has old r → Has more r) → MeansPacket join s v k partitions key partition w g old from to moment p → MeansPacket join s v k partitions key partition new h more from to moment p
      packet_stays old more from to moment (says m) later up means = message_stays old more from to moment m later up means
      packet_stays old more from to moment (shows view) later up means = tt

      pub means_stays : (old more : List R) → Later g h → ((r : R) → Has old r → Has more r) → (x : Sent R L) → Means join s v k partitions key partition w g old x → Means join s v k partitions key partition new h more x
      means_stays old more later up x m = packet_stays old more x.from x.to x.moment x.packet later up m

      abbrev ready_stays : (c : Collection) (b : Begun R Version) → IsReady join s v k partitions key partition w g c b → IsReady join s v k partitions key partition new h c b
      ready_stays c b r = record { ready = r.ready; there = grew.ready r.ready r.there; of_it = r.of_it; first = r.first; clock = r.clock; full = r.full }

      again_stays : (c : Collection) (t : Second R Version) (n m : ℕ) → HasAgain join s v k partitions key partition w g c t n m → HasAgain join s v k partitions key partition new h c t n m
      again_stays c t n m a = elim a [ inl own ↦ inl own | inr other ↦ inr (other.0, (other.1.0, grew.again _ other.1.1)) ]

      phase_stays : (n : ℕ) (c : Collection) (b : Begun R Version) → SameFor g h n c.number → IsFirst join s v k partitions key partition w g n c b ⊎ IsSecond join s v k partitions key partition w g n c b → IsFirst join s v k partitions key partition new h n c b ⊎ IsSecond join s v k partitions key partition new h n c b
      phase_stays n c b same p = elim p [
        | inl first ↦ inl (record { round = first.round; none = same.second ∙ first.none; ready = elim first.ready [ inl none ↦ inl none | inr r ↦ inr (ready_stays c b r) ] })
        | inr second ↦ inr (record {
          round = second.round;
          ready = ready_stays c b second.ready;
          second = second.second;
          issued = same.second ∙ second.issued;
          there = grew.second second.second second.there;
          of_it = second.of_it;
          again = all_weaker _ _ (again_stays c second.second n) c.again second.again;
          different = second.different;
          among = second.among;
        })
      ]

      pub mine_stays : (n : ℕ) (c : Collection) → SameFor g h n c.number → IsMine join s v k partitions key partition w g n c → IsMine join s v k partitions key partition new h n c
      mine_stays n c same m = record {
        key_is = m.key_is;
        begun = m.begun;
        issued = same.begun ∙ m.issued;
        there = grew.begun m.begun m.there;
        at_node = m.at_node;
        bytes = m.bytes;
        of_key = m.of_key;
        newest = m.newest;
        self = m.self;
        first = all_weaker _ _ (λ (a : ℕ × ℕ). witness_stays m.begun (witness a)) c.first m.first;
        different = m.different;
        among = m.among;
        phase = phase_stays n c m.begun same m.phase;
      }

      pub open_stays : (n : ℕ) (c : Collection) → SameFor g h n c.number → IsOpen join s v k partitions key partition w g n c → IsOpen join s v k partitions key partition new h n c
      open_stays n c same o = record {
        low = (let a : c.number ≤ g.last n = o.low in let b : g.last n ≤ h.last n = same.last in omega arith);
        own = o.own;
        mine = λ e. mine_stays n c same (o.mine e);
        other = λ d. same.begun ∙ o.other d;
      }

      pub node_stays : (n : ℕ) (x : Node R L) → SameAt g h n → new.row n ≡ w.row n → IsNode join s v k partitions key partition w g n x → IsNode join s v k partitions key partition new h n x
      node_stays n x same row m = record {
        row = row ∙ m.row;
        proper = m.proper;
        items = m.items;
        last = same.last ∙ m.last;
        unissued = λ i late. (same.begun i ∙ (m.unissued i late).0, same.second i ∙ (m.unissued i late).1);
        collections = all_weaker _ _ (λ c. open_stays n c (same_for_at g h n c.number same)) x.gc.collections m.collections;
        different = m.different;
      }
