-- Runs of worlds within the limits: how far they come. Each delivery of the least message that waits spends it, and other events are few.
use Rattle.std.specs.Prelude.{◌≡◌, ◌≤◌, ◌+◌, ◌*◌, ◌||◌, ℕ, zero, suc, Bool, true, false, cond, List, [], ◌∷◌, Option, Some, None, length, slice_get, refl}
use Rattle.std.specs.Option.{unwrap_or}
use Rattle.std.proofs.Common.{ap, sym, ◌∙◌, inl, inr, arith}
use Rattle.crdt_core.specs.Members.{Has}
use Rattle.layout_roles.specs.declared.cut.Cut.{Cut}
use Rattle.layout_roles.specs.declared.layout.Layout.{Layout}
use Rattle.table_schema.specs.Words.{Words}
use Rattle.wire_messages.specs.Size.{plus}
use Rattle.cluster_machine.specs.declared.applied.Applied.{Applied}
use Rattle.cluster_machine.specs.declared.step.Step.TheVariants.{Deliver}
use Rattle.cluster_machine.specs.declared.step.Refusal.TheVariants.{Lost}
use Rattle.cluster_machine.specs.Layouts.{layouts}
use Rattle.cluster_machine.specs.Receives.{receives}
use Rattle.cluster_machine.specs.World.{empty, clock, numbered, packet_size, sent_bytes, undelivered}
use Rattle.cluster_machine.specs.Step.{Choice, received, did, at_message, refusal}
use Rattle.cluster_machine.specs.Worlds.{Model, Done, IsSound, does, next}
use Rattle.machine_limits.specs.Steps.{HasPlace}
use Rattle.machine_limits.proofs.Totals.{total, total_ones, total_has}
use Rattle.machine_limits.proofs.Worlds.{WorldFits, messages_few}
use Rattle.machine_limits.proofs.Moves.{world_exact}
use Rattle.machine_limits.proofs.Spending.{Mailed, Spends, delivery_spends, first_mark, message_there}

-- ---- bytes

-- what a message counts
abbrev pub size_of : {R : Type 0} → Words R → Mailed R → ℕ
size_of s x = unwrap_or (packet_size s x.packet) 0

module _ {R : Type 0} (s : Words R) where
  sizes : (ms : List (Mailed R)) (b : ℕ) → sent_bytes s ms ≡ Some b → total (size_of s) ms ≡ b
  sizes [] b e = cc
  sizes (m ∷ ms) b e = by_both (packet_size s m.packet) (sent_bytes s ms) refl refl e (sizes ms)
    where
      by_both : (o p : Option ℕ) → packet_size s m.packet ≡ o → sent_bytes s ms ≡ p → plus o p ≡ Some b → ((d : ℕ) → sent_bytes s ms ≡ Some d → total (size_of s) ms ≡ d) → size_of s m + total (size_of s) ms ≡ b
      by_both None p f g e rest = cc
      by_both (Some c) None f g e rest = cc
      by_both (Some c) (Some d) f g e rest =
          let more = rest d g in
          let same : c + d ≡ b = cc in
          let here : size_of s m ≡ c = ap (λ o. unwrap_or o 0) f in
          omega arith

numbered_has : {X : Type 0} (xs : List X) (j : ℕ) (x : X) → numbered xs j ≡ Some x → Has xs x
numbered_has xs zero x h = cc
numbered_has xs (suc j) x h = by_place xs j h
  where
    by_place : (xs : List _) (j : ℕ) → slice_get xs j ≡ Some x → Has xs x
    by_place [] j h = cc
    by_place (y ∷ xs) zero h = inl (ap (λ o. unwrap_or o y) h)
    by_place (y ∷ xs) (suc j) h = inr (by_place xs j h)

-- ---- how far a run comes

module _ {R : Type 0} (join : R → R → R) (s : Words R) (P : R → Type 0) (weight : R → ℕ) where
  -- a world to which a run within the limits came in so many events and steps: three steps at most for each event and each delivery of a drain, and what a drain delivers was sent once
  pub record RunFits (e t : ℕ) (w : Model R) : Type 0 where
    pub k : ℕ
    pub world : WorldFits join s P weight t k 268435456 w
    pub marks : length w.messages ≡ length w.marks
    pub count : ℕ
    pub size : ℕ
    pub one : Spends (λ (x : Mailed R). 1) empty w count
    pub two : Spends (size_of s) empty w size
    pub steps : t ≤ 3 * (e + count)
    pub bytes : k ≤ e * 268435456 + size

module _ {R : Type 0} {join : R → R → R} {s : Words R} {P : R → Type 0} {weight : R → ℕ} where
  -- how far it can have come
  pub record Far (e t : ℕ) (w : Model R) (r : RunFits join s P weight e t w) : Type 0 where
    pub count : r.count ≤ 4194304
    pub size : r.size ≤ 268435456
    pub sent : total (size_of s) w.messages ≤ 268435456

  pub far : (e t : ℕ) (w : Model R) (r : RunFits join s P weight e t w) → Far e t w r
  far e t w r =
      let few = r.world.few in
      let messages = messages_few s w.messages r.world.bytes r.world.bytes_are in
      let ones = total_ones w.messages in
      let all = sizes s w.messages r.world.bytes r.world.bytes_are in
      let one = r.one in
      let two = r.two in
      record { count = omega arith; size = omega arith; sent = omega arith }

  -- in more events
  pub later_run : (e u t : ℕ) (w : Model R) → e ≤ u → RunFits join s P weight e t w → RunFits join s P weight u t w
  later_run e u t w h r =
      let steps = r.steps in
      let bytes = r.bytes in
      record { k = r.k; world = r.world; marks = r.marks; count = r.count; size = r.size; one = r.one; two = r.two; steps = omega arith; bytes = omega arith }

  -- a world after what happened, in so many steps, where no more was sent than may be; more may be known of its rows than before
  pub advance : {Q : R → Type 0} (e u now : ℕ) (w new : Model R) (r : RunFits join s Q weight e now w) (t m b : ℕ) (c : (Mailed R → ℕ) → ℕ) → WorldFits join s P weight t m b new → length new.messages ≡ length new.marks → ((f : Mailed R → ℕ) → Spends f w new (c f)) →
      t ≤ 3 * (u + (r.count + c (λ (x : Mailed R). 1))) → m ≤ u * 268435456 + (r.size + c (size_of s)) → (n : ℕ) → sent_bytes s new.messages ≡ Some n → n ≤ 268435456 → RunFits join s P weight u t new
  advance e u now w new r t m b c fits marks spends steps bytes n sent within =
      let one = r.one in
      let two = r.two in
      let more_one = spends (λ (x : Mailed R). 1) in
      let more_two = spends (size_of s) in
      record {
        k = m;
        world = world_exact t m b 268435456 new n sent within fits;
        marks = marks;
        count = r.count + c (λ (x : Mailed R). 1);
        size = r.size + c (size_of s);
        one = omega arith;
        two = omega arith;
        steps = steps;
        bytes = bytes;
      }

  -- the first world
  pub start_world : IsSound (empty {R = R} {L = Layout}) → WorldFits join s P weight 0 0 268435456 empty
  start_world sound = record {
    early = omega arith;
    sound = sound;
    asks = λ n q p. None;
    rows = record { nodes = λ n. record { accepted = tt; items = tt; calls = tt; collections = tt }; messages = tt; later = λ n q p h. refl; reads = tt; collected = tt };
    nodes = λ n. record { counted = omega arith; listed = omega arith; small = tt; rounds = omega arith; phases = tt; blocks = tt; collections = omega arith; round = tt };
    beside = tt;
    time = omega arith;
    skews = λ n. omega arith;
    requests = omega arith;
    applied = omega arith;
    bytes = 0;
    bytes_are = refl;
    few = omega arith;
  }

  pub start_run : IsSound (empty {R = R} {L = Layout}) → RunFits join s P weight 0 0 empty
  start_run sound = record { k = 0; world = start_world sound; marks = refl; count = 0; size = 0; one = omega arith; two = omega arith; steps = omega arith; bytes = omega arith }

  -- ---- deliveries

  -- there is room for each message that was sent
  pub message_place : (e t : ℕ) (w : Model R) (i m : ℕ) (r : RunFits join s P weight e t w) → r.k + 268435456 ≤ m → HasPlace s r.k m w (Deliver i)
  message_place e t w i m r high x there c is =
      let sent = (far e t w r).sent in
      let within : size_of s x ≤ total (size_of s) w.messages = total_has (size_of s) w.messages x (numbered_has w.messages i x there) in
      let same : size_of s x ≡ c = ap (λ o. unwrap_or o 0) is in
      omega arith

  -- which counts no more than all that were sent
  pub message_size : (e t : ℕ) (w : Model R) (i : ℕ) (x : Mailed R) → RunFits join s P weight e t w → numbered w.messages i ≡ Some x → size_of s x ≤ 268435456
  message_size e t w i x r there =
      let sent = (far e t w r).sent in
      let within : size_of s x ≤ total (size_of s) w.messages = total_has (size_of s) w.messages x (numbered_has w.messages i x there) in
      omega arith

-- and there is room for one that is there, with what it counts
pub own_place : {R : Type 0} (s : Words R) (w : Model R) (i k : ℕ) (x : Mailed R) → numbered w.messages i ≡ Some x → HasPlace s k (k + size_of s x) w (Deliver i)
own_place s w i k x is y there b e =
    let both : Some y ≡ Some x = sym there ∙ is in
    let same : y ≡ x = cc in
    let is_size : size_of s y ≡ b = ap (λ o. unwrap_or o 0) e in
    let is_x : size_of s y ≡ size_of s x = ap (size_of s) same in
    omega arith

-- the least message that waits: what it counts, and that its delivery spends it
pub record Waiting {R : Type 0} (join : R → R → R) (s : Words R) (w : Model R) (i : ℕ) (choice : Choice Layout Applied Cut) : Type 0 where
  pub message : Mailed R
  pub is_there : numbered w.messages i ≡ Some message
  pub spends : (f : Mailed R → ℕ) → Spends f w (next join s w (record { step = Deliver i; choice = choice })) (f message)

module _ {R : Type 0} {join : R → R → R} {s : Words R} where
  pub waiting : (w : Model R) (i : ℕ) (choice : Choice Layout Applied Cut) → length w.messages ≡ length w.marks → undelivered w ≡ Some i → Waiting join s w i choice
  waiting w i choice equal is =
      let first = first_mark w.marks 1 i is in
      let j = first.place in
      let at : i ≡ 1 + j = first.is in
      let next_is : i ≡ suc j = omega arith in
      let found = message_there w.messages w.marks j first.mark equal first.there in
      let x = found.0 in
      let message : numbered w.messages i ≡ Some x = ap (numbered w.messages) next_is ∙ found.1 in
      let mark : numbered w.marks i ≡ Some first.mark = ap (numbered w.marks) next_is ∙ first.there in
      let lost : first.mark.is_lost ≡ false = second first.mark.is_delivered first.mark.is_lost first.waits in
      let f : Mailed R → Done R = λ sent. received i (did w sent.to (receives join s layouts sent.to (clock w sent.to) (w.nodes sent.to) sent.from sent.packet)) in
      let done : does join s w (record { step = Deliver i; choice = choice }) ≡ f x =
      ap (λ o. at_message w f o (numbered w.marks i)) message ∙ (ap (at_message w f (Some x)) mark ∙ ap (λ b. cond b (refusal w Lost) (f x)) lost) in
      let marks : (does join s w (record { step = Deliver i; choice = choice })).marks ≡ Some (suc j, record { is_delivered = true; is_lost = false }) = ap (λ (e : Done R). e.marks) done ∙ ap (λ n. Some (n, record { is_delivered = true; is_lost = false })) next_is in
      record {
        message = x;
        is_there = message;
        spends = λ g. delivery_spends g w (does join s w (record { step = Deliver i; choice = choice })) j x first.mark (record { is_delivered = true; is_lost = false }) marks refl found.1 first.there first.waits equal;
      }
    where
      second : (a b : Bool) → (a || b) ≡ false → b ≡ false
      second true b h = cc
      second false b h = h
