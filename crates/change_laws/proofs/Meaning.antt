-- What a message means stays so where nodes keep what they had.
use Rattle.std.specs.Prelude.{◌≡◌, ℕ, IsTrue, List, refl}
use Rattle.std.proofs.Common.{sym, subst}
use Rattle.blake2_hash.specs.declared.digest.Hash32.{Hash32}
use Rattle.table_schema.specs.Words.{Words}
use Rattle.quorum_model.specs.Quorum.{is_among}
use Rattle.wire_messages.specs.declared.message.Message.{Message}
use Rattle.wire_messages.specs.declared.message.Message.TheVariants.{Store, Walk as AsksValue, Same as HasSame, Differ}
use Rattle.wire_messages.specs.declared.message.Tag.{Tag}
use Rattle.wire_messages.specs.declared.message.Tag.TheVariants.{Call as ForCall, Round as ForRound, Item as ForItem}
use Rattle.cluster_machine.specs.Layouts.{Layouts}
use Rattle.cluster_machine.specs.Node.{Node, Packet, says, shows}
use Rattle.cluster_machine.specs.World.{Sent}
use Rattle.drained_laws.proofs.Deliveries.{one_changes}
use Rattle.change_laws.specs.Handing.{AllKept, HasGood, Holds, SaysSame, SaysDiffer, MeansMessage, MeansPacket, Means}
use Rattle.change_laws.proofs.Found.{SameRows}
use Rattle.change_laws.proofs.Moving.{with_one}

module _ {R : Type 0} (join : R → R → R) (s : Words R) (good : R → Type 0) (H kept : List ℕ → Type 0) {L : Type 0} (k : Layouts L) (part : List ℕ) (was : ℕ → Node R L) where
  -- ---- what a message means stays so where nodes keep what they had

  abbrev pub Keep : (old nodes : ℕ → Node R L) → Type 0
  Keep old nodes = (r : R) (n : ℕ) → Holds join s good r (old n).accepted → Holds join s good r (nodes n).accepted

  same_more : (old nodes : ℕ → Node R L) → Keep old nodes → (m n : ℕ) (tag : Tag) (table : ℕ) (prefix : List ℕ) → SaysSame join s good H kept was old m n tag table prefix → SaysSame join s good H kept was nodes m n tag table prefix
  same_more old nodes f m n (ForRound i p) table prefix h = λ clear r under there. f r m (h clear r under there)
  same_more old nodes f m n (ForCall a b c) table prefix h = tt
  same_more old nodes f m n (ForItem a) table prefix h = tt

  differ_more : (old nodes : ℕ → Node R L) → Keep old nodes → (m : ℕ) (tag : Tag) (table : ℕ) (prefix : List ℕ) (children : List (ℕ × Hash32)) → SaysDiffer join s good H kept was old m tag table prefix children → SaysDiffer join s good H kept was nodes m tag table prefix children
  differ_more old nodes f m (ForRound i p) table prefix children h = record { rows_then = h.rows_then; is_hashed = h.is_hashed; children_are = h.children_are; still = λ r g there. f r m (h.still r g there) }
  differ_more old nodes f m (ForCall a b c) table prefix children h = tt
  differ_more old nodes f m (ForItem a) table prefix children h = tt

  message_more : (old nodes : ℕ → Node R L) → Keep old nodes → (from to : ℕ) (m : Message R) → MeansMessage join s good H kept was old from to m → MeansMessage join s good H kept was nodes from to m
  message_more old nodes f from to (Store tag named p rows) h = h
  message_more old nodes f from to (AsksValue tag named p table prefix hash) h = record { rows_then = h.rows_then; is_hashed = h.is_hashed; hash_is = h.hash_is; over = h.over }
  message_more old nodes f from to (HasSame tag table prefix) h = same_more old nodes f from to tag table prefix h
  message_more old nodes f from to (Differ tag table prefix children) h = differ_more old nodes f from tag table prefix children h
  message_more old nodes f from to _ h = tt

  pub means_more : (old nodes : ℕ → Node R L) → Keep old nodes → (x : Sent R L) → Means join s good H kept was old x → Means join s good H kept was nodes x
  means_more old nodes f x h = by_packet x.packet h
    where
      by_packet : (p : Packet R L) → MeansPacket join s good H kept was old x.from x.to p → MeansPacket join s good H kept was nodes x.from x.to p
      by_packet (says m) h = message_more old nodes f x.from x.to m h
      by_packet (shows v) h = tt

  -- ---- one node changes

  -- a node that keeps what it had, and has good rows alone
  pub record Takes (to : ℕ) (x y : Node R L) : Type 0 where
    pub has : IsTrue (is_among to part) → HasGood join s good y.accepted
    pub items : y.items ≡ x.items
    pub blocks : AllKept kept x.blocks → AllKept kept y.blocks
    pub holds : (r : R) → Holds join s good r x.accepted → Holds join s good r y.accepted

  pub keeps_all : (nodes : ℕ → Node R L) (to : ℕ) (y : Node R L) → Takes to (nodes to) y → Keep nodes (with_one to y nodes)
  keeps_all nodes to y t r n h = one_changes (λ m z. m ≡ n → Holds join s good r z.accepted) to y nodes (λ e. t.holds r (subst (λ j. Holds join s good r (nodes j).accepted) (sym e) h)) (λ m apart e. subst (λ j. Holds join s good r (nodes j).accepted) (sym e) h) n refl

  pub takes_same : (to : ℕ) (x y : Node R L) → (IsTrue (is_among to part) → HasGood join s good x.accepted) → SameRows join s k x y → Takes to x y
  takes_same to x y has same = record {
    has = λ h. subst (HasGood join s good) (sym same.accepted) (has h);
    items = same.items;
    blocks = λ b. subst (AllKept kept) (sym same.blocks) b;
    holds = λ r h. subst (Holds join s good r) (sym same.accepted) h;
  }
