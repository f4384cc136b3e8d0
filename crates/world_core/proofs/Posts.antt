-- Slots and what they stand for, those of messages that are over before all others: which message waits first, and what stays when one slot changes or is put at the end.
use Rattle.std.proofs.Common.{◌≡◌, ℕ, zero, suc, ◌+◌, ◌-◌, ◌*◌, ◌<◌, ◌≤◌, ◌⊎◌, inl, inr, Bool, true, false, not, ◌&&◌, ◌||◌, Some, None, List, [], ◌∷◌, ◌++◌, length, map, get_or, refl, sym, ap, ap₂, ◌∙◌, subst, arith}
use Rattle.std.proofs.lemmas.Option.{slice_get-map, slice_get-get_or, slice_get_within}
use Rattle.std.proofs.lemmas.List.{append_assoc, map-set, map-append, length-map, length-set, length-append, set-append_left}
use Rattle.std.proofs.lemmas.Slice.Zip.{AllZip-long, all_zipped_more}
use Rattle.std.specs.Prelude.{Option, option_map, is_some, is_none, slice_get, slice_set, SomeIff, ◌^◌}
use Rattle.std.specs.List.{AllZip, AllByRecursion}
use Rattle.layout_roles.specs.declared.layout.Layout.{Layout}
use Rattle.table_schema.specs.Words.{Words}
use Rattle.wire_messages.specs.Size.{plus, carried}
use Rattle.cluster_machine.specs.Fits.{IsWord}
use Rattle.cluster_machine.specs.Node as machine
use Rattle.cluster_machine.specs.Node.{says, shows}
use Rattle.cluster_machine.specs.World.{Sent, Mark, first_waiting, numbered, packet_size, sent_bytes}
use Rattle.node_parts.specs.declared.packet.Envelope.{Envelope}
use Rattle.world_core.specs.declared.post.Slot.{Slot}
use Rattle.world_core.specs.declared.post.Post.{Post}
use Rattle.world_core.specs.Parts.{mark_of, is_waiting, IsHeld, IsHeldIn, IsOver, AreGone, IsFirst, IsPost, IsPlace, HasNoPlace, IsSent, IsFound, IsLost, not_yet, packet_bytes}
use Rattle.world_core.proofs.Asked.{numbered_back}

get_set : {A : Type 0} (xs : List A) (i j : ℕ) (new x : A) → slice_get (slice_set xs i new) j ≡ Some x → ((j ≡ i) × (x ≡ new)) ⊎ (slice_get xs j ≡ Some x)
get_set [] i j new x h = inr h
get_set (y ∷ ys) zero zero new x h = inl (refl, cc)
get_set (y ∷ ys) zero (suc j) new x h = inr h
get_set (y ∷ ys) (suc i) zero new x h = inr h
get_set (y ∷ ys) (suc i) (suc j) new x h = elim (get_set ys i j new x h) [ inl p ↦ inl (ap suc p.0, p.1) | inr e ↦ inr e ]

get_push : {A : Type 0} (xs : List A) (j : ℕ) (new x : A) → slice_get (xs ++ new ∷ []) j ≡ Some x → (slice_get xs j ≡ Some x) ⊎ ((j ≡ length xs) × (x ≡ new))
get_push [] zero new x h = inr (refl, cc)
get_push [] (suc j) new x h = inl h
get_push (y ∷ ys) zero new x h = inl h
get_push (y ∷ ys) (suc j) new x h = elim (get_push ys j new x h) [ inl e ↦ inl e | inr p ↦ inr (ap suc p.0, p.1) ]

get_past : {A : Type 0} (xs ys : List A) (i : ℕ) → slice_get (xs ++ ys) (length xs + i) ≡ slice_get ys i
get_past [] ys i = ap (slice_get ys) (omega arith)
get_past (x ∷ xs) ys i = let e : suc (length xs) + i ≡ suc (length xs + i) = omega arith in ap (slice_get (x ∷ xs ++ ys)) e ∙ get_past xs ys i

get_within : {A : Type 0} (xs ys : List A) (i : ℕ) → i < length xs → slice_get (xs ++ ys) i ≡ slice_get xs i
get_within [] ys i lt = absurd (omega arith)
get_within (x ∷ xs) ys zero lt = refl
get_within (x ∷ xs) ys (suc i) lt = get_within xs ys i (omega arith)

set_past : {A : Type 0} (xs ys : List A) (i : ℕ) (new : A) → slice_set (xs ++ ys) (length xs + i) new ≡ xs ++ slice_set ys i new
set_past [] ys i new = ap (λ n. slice_set ys n new) (omega arith)
set_past (x ∷ xs) ys i new =
    let e : suc (length xs) + i ≡ suc (length xs + i) = omega arith in ap (λ n. slice_set (x ∷ xs ++ ys) n new) e ∙ ap (◌∷◌ x) (set_past xs ys i new)

all_at : {A : Type 0} (P : A → Type 0) (xs : List A) (i : ℕ) (x : A) → AllByRecursion P xs → slice_get xs i ≡ Some x → P x
all_at P [] i x all h = cc
all_at P (y ∷ ys) zero x all h = let e : y ≡ x = cc in subst P e all.0
all_at P (y ∷ ys) (suc i) x all h = all_at P ys i x all.1 h

all_set : {A : Type 0} (P : A → Type 0) (xs : List A) (i : ℕ) (new : A) → P new → AllByRecursion P xs → AllByRecursion P (slice_set xs i new)
all_set P [] i new p all = all
all_set P (y ∷ ys) zero new p all = (p, all.1)
all_set P (y ∷ ys) (suc i) new p all = (all.0, all_set P ys i new p all.1)

zip_at : {A B : Type 0} (P : A → B → Type 0) (xs : List A) (ys : List B) (i : ℕ) (x : A) → AllZip P xs ys → slice_get xs i ≡ Some x → (y : B) × (slice_get ys i ≡ Some y) × P x y
zip_at P [] ys i x z h = cc
zip_at P (a ∷ xs) [] i x z h = absurd z
zip_at P (a ∷ xs) (b ∷ ys) zero x z h = let e : a ≡ x = cc in (b, refl, subst (λ v. P v b) e z.0)
zip_at P (a ∷ xs) (b ∷ ys) (suc i) x z h = zip_at P xs ys i x z.1 h

zip_set : {A B : Type 0} (P : A → B → Type 0) (xs : List A) (ys : List B) (i : ℕ) (old new : A) → slice_get xs i ≡ Some old → ((y : B) → P old y → P new y) → AllZip P xs ys → AllZip P (slice_set xs i new) ys
zip_set P [] ys i old new h f z = cc
zip_set P (a ∷ xs) [] i old new h f z = absurd z
zip_set P (a ∷ xs) (b ∷ ys) zero old new h f z = let e : a ≡ old = cc in (f b (subst (λ v. P v b) e z.0), z.1)
zip_set P (a ∷ xs) (b ∷ ys) (suc i) old new h f z = (z.0, zip_set P xs ys i old new h f z.1)

plus_nothing : (a : Option ℕ) → plus a (Some 0) ≡ a
plus_nothing None = refl
plus_nothing (Some n) = ap Some (omega arith)

nothing_plus : (a : Option ℕ) → a ≡ plus (Some 0) a
nothing_plus None = refl
nothing_plus (Some n) = ap Some (omega arith)

plus_each : (a b c : Option ℕ) → plus a (plus b c) ≡ plus (plus a b) c
plus_each None b c = refl
plus_each (Some x) None c = refl
plus_each (Some x) (Some y) None = refl
plus_each (Some x) (Some y) (Some z) = ap Some (omega arith)

pub word_left : (a b : Option ℕ) → IsWord (plus a b) → IsWord a
word_left None b h = h
word_left (Some x) None h = absurd h
word_left (Some x) (Some y) h = omega arith

word_right : (a b : Option ℕ) → IsWord (plus a b) → IsWord b
word_right None b h = absurd h
word_right (Some x) None h = h
word_right (Some x) (Some y) h = omega arith

counts_both : (a b : Option ℕ) (k n : ℕ) → ((x : ℕ) → a ≡ Some x → 1 ≤ x) → ((y : ℕ) → b ≡ Some y → k ≤ y) → plus a b ≡ Some n → suc k ≤ n
counts_both None b k n f g h = cc
counts_both (Some x) None k n f g h = cc
counts_both (Some x) (Some y) k n f g h = let is : x + y ≡ n = cc in omega (arith, f x refl, g y refl)

few_messages : (o : Option ℕ) (k : ℕ) → ((n : ℕ) → o ≡ Some n → k ≤ n) → IsWord o → k < 2 ^ 64
few_messages None k f h = absurd h
few_messages (Some n) k f h = let most = f n refl in omega arith

module _ {R : Type 0} where
  marked_by : (d : Bool) (e : Option (Envelope R)) → not d && is_some e ≡ false → d || is_none e ≡ true
  marked_by true e h = refl
  marked_by false None h = refl
  marked_by false (Some e) h = cc

  lost_marked : (d : Bool) (e : Option (Envelope R)) → e ≡ None → d || is_none e ≡ true
  lost_marked true e h = refl
  lost_marked false e h = rw h refl

  waits_by : (d : Bool) (e : Option (Envelope R)) → not d && is_some e ≡ true → d || is_none e ≡ false
  waits_by true e h = cc
  waits_by false None h = cc
  waits_by false (Some e) h = refl

  tail_gone : (slot : Slot R) (slots : List (Slot R)) (n : ℕ) → AreGone (slot ∷ slots) (suc n) → AreGone slots n
  tail_gone slot slots n g i x lt h = g (suc i) x (omega arith) h

  waits_at : (slots : List (Slot R)) (n k : ℕ) → AreGone slots n → ((slot : Slot R) → slice_get slots n ≡ Some slot → is_waiting slot ≡ true) → n < length slots →
      first_waiting k (map mark_of slots) ≡ Some (n + k)
  waits_at [] n k g w lt = absurd (omega arith)
  waits_at (slot ∷ slots) zero k g w lt = rw (waits_by slot.is_delivered slot.envelope (w slot refl)) (ap Some (omega arith))
  waits_at (slot ∷ slots) (suc n) k g w lt =
      rw (marked_by slot.is_delivered slot.envelope (g zero slot (omega arith) refl)) (waits_at slots n (suc k) (tail_gone slot slots n g) w (omega arith) ∙ ap Some (omega arith))

  waits_nowhere : (slots : List (Slot R)) (n k : ℕ) → AreGone slots n → length slots ≤ n → first_waiting k (map mark_of slots) ≡ None
  waits_nowhere [] n k g h = refl
  waits_nowhere (slot ∷ slots) zero k g h = absurd (omega arith)
  waits_nowhere (slot ∷ slots) (suc n) k g h =
      rw (marked_by slot.is_delivered slot.envelope (g zero slot (omega arith) refl)) (waits_nowhere slots n (suc k) (tail_gone slot slots n g) (omega arith))

  waits_later : (over slots : List (Slot R)) (k : ℕ) → AllByRecursion IsOver over → first_waiting k (map mark_of (over ++ slots)) ≡ first_waiting (length over + k) (map mark_of slots)
  waits_later [] slots k lost = ap (λ n. first_waiting n (map mark_of slots)) (omega arith)
  waits_later (slot ∷ over) slots k lost =
      rw (lost_marked slot.is_delivered slot.envelope lost.0) (waits_later over slots (suc k) lost.1 ∙ ap (λ n. first_waiting n (map mark_of slots)) (omega arith))

  -- how many slots there are, with those of the messages that are over
  pub counted : (s : Words R) (post : Post R) (messages : List (Sent R Layout)) (marks : List Mark) (p : IsPost s post messages marks) → post.sent ≡ length p.over + length post.slots.items
  counted s post messages marks p = sym p.sent ∙ AllZip-long IsHeld (p.over ++ post.slots.items) messages p.held ∙ length-append p.over post.slots.items

  pub first_is : (s : Words R) (post : Post R) (messages : List (Sent R Layout)) (marks : List Mark) (o : Option ℕ) (later : ℕ) → SomeIff o (later ≤ post.sent) (post.sent - later) →
      IsPost s post messages marks → post.first < length post.slots.items → later ≡ length post.slots.items - post.first - 1 → o ≡ first_waiting 1 marks
  first_is s post messages marks None later h p lt is = absurd (h (omega (arith, is, counted s post messages marks p)))
  first_is s post messages marks (Some n) later h p lt is =
      let here = waits_at post.slots.items post.first (length p.over + 1) p.first.before p.first.here lt in
      ap Some (omega (arith, is, h.1, counted s post messages marks p)) ∙ sym here ∙ sym (waits_later p.over post.slots.items 1 p.lost) ∙ ap (first_waiting 1) p.marks_are

  pub first_is_none : (s : Words R) (post : Post R) (messages : List (Sent R Layout)) (marks : List Mark) → IsPost s post messages marks → length post.slots.items ≤ post.first →
      None ≡ first_waiting 1 marks
  first_is_none s post messages marks p h =
      sym (waits_nowhere post.slots.items post.first (length p.over + 1) p.first.before h) ∙ sym (waits_later p.over post.slots.items 1 p.lost) ∙ ap (first_waiting 1) p.marks_are

  gone_set : (slots : List (Slot R)) (n i : ℕ) (new : Slot R) → is_waiting new ≡ false → AreGone slots n → AreGone (slice_set slots i new) n
  gone_set slots n i new w g j slot lt h = elim (get_set slots i j new slot h) [ inl p ↦ rw p.1 w | inr e ↦ g j slot lt e ]

  gone_push : (slots : List (Slot R)) (n : ℕ) (new : Slot R) → n ≤ length slots → AreGone slots n → AreGone (slots ++ new ∷ []) n
  gone_push slots n new within g j slot lt h = elim (get_push slots j new slot h) [ inl e ↦ g j slot lt e | inr p ↦ absurd (omega (arith, p.0)) ]

  mark_at : (slots : List (Slot R)) (marks : List Mark) (number : ℕ) (slot : Slot R) → map mark_of slots ≡ marks → 1 ≤ number → slice_get slots (number - 1) ≡ Some slot →
      numbered marks number ≡ Some (mark_of slot)
  mark_at slots marks number slot e low there =
      ap (λ ms. numbered ms number) (sym e) ∙ numbered_back (map mark_of slots) number low ∙ slice_get-map mark_of slots (number - 1) ∙ ap (option_map mark_of) there

  -- the message with this number is the one whose slot stands there
  low : (s : Words R) (post : Post R) (messages : List (Sent R Layout)) (marks : List Mark) (number i : ℕ) → IsPost s post messages marks → IsPlace post number i → 1 ≤ number
  low s post messages marks number i p at = let known = at.at in omega (arith, counted s post messages marks p)

  slot_there : (s : Words R) (post : Post R) (messages : List (Sent R Layout)) (marks : List Mark) (number i : ℕ) (slot : Slot R) (p : IsPost s post messages marks) → IsPlace post number i →
      slice_get post.slots.items i ≡ Some slot → slice_get (p.over ++ post.slots.items) (number - 1) ≡ Some slot
  slot_there s post messages marks number i slot p at there =
      let is : number - 1 ≡ length p.over + i = (let known = at.at in omega (arith, counted s post messages marks p)) in
      ap (slice_get (p.over ++ post.slots.items)) is ∙ get_past p.over post.slots.items i ∙ there

  mark_there : (s : Words R) (post : Post R) (messages : List (Sent R Layout)) (marks : List Mark) (number i : ℕ) (slot : Slot R) → IsPost s post messages marks → IsPlace post number i →
      slice_get post.slots.items i ≡ Some slot → numbered marks number ≡ Some (mark_of slot)
  mark_there s post messages marks number i slot p at there =
      mark_at (p.over ++ post.slots.items) marks number slot p.marks_are (low s post messages marks number i p at) (slot_there s post messages marks number i slot p at there)

  -- one slot changed, and the first message that waits was looked for from the former one on
  pub record Sets (old new : Post R) (i : ℕ) (before after : Slot R) : Type 0 where
    pub there : slice_get old.slots.items i ≡ Some before
    pub slots : new.slots.items ≡ slice_set old.slots.items i after
    pub sent : new.sent ≡ old.sent
    pub bytes : new.bytes ≡ old.bytes
    pub first : old.first ≤ length new.slots.items → AreGone new.slots.items old.first → IsFirst new.slots.items new.first

  set_post : (s : Words R) (old new : Post R) (messages : List (Sent R Layout)) (marks : List Mark) (number i : ℕ) (before after : Slot R) → IsPost s old messages marks → IsPlace old number i →
      Sets old new i before after → is_waiting after ≡ false → ((m : Sent R Layout) → IsHeld before m → IsHeld after m) → IsPost s new messages (slice_set marks (number - 1) (mark_of after))
  set_post s old new messages marks number i before after p at e w h =
      let slots = old.slots.items in
      let all = p.over ++ slots in
      let place = length p.over + i in
      let is : number - 1 ≡ place = (let known = at.at in omega (arith, counted s old messages marks p)) in
      let there : slice_get all place ≡ Some before = get_past p.over slots i ∙ e.there in
      let now : slice_set all place after ≡ p.over ++ new.slots.items = set_past p.over slots i after ∙ ap (p.over ++◌) (sym e.slots) in
      let sized : length new.slots.items ≡ length slots = ap length e.slots ∙ length-set slots i after in
      let within : old.first ≤ length slots = p.first.within in
      let small : old.bytes < 2 ^ 64 = p.small in
      record {
        over = p.over;
        lost = p.lost;
        marks_are = ap (map mark_of) (sym now) ∙ map-set mark_of all place after ∙ ap₂ (λ ms n. slice_set ms n (mark_of after)) p.marks_are (sym is);
        held = subst (λ xs. AllZip IsHeld xs messages) now (zip_set IsHeld all messages place before after there h p.held);
        first = e.first (omega arith) (subst (λ xs. AreGone xs old.first) (sym e.slots) (gone_set slots old.first i after w p.first.before));
        sent = p.sent ∙ sym e.sent;
        bytes = p.bytes ∙ ap Some (sym e.bytes);
        few = p.few;
        small = omega arith;
      }

  pub delivered_post : (s : Words R) (old new : Post R) (messages : List (Sent R Layout)) (marks : List Mark) (mark : Mark) (number i : ℕ) (slot : Slot R) → IsPost s old messages marks →
      numbered marks number ≡ Some mark → mark.is_lost ≡ false → IsPlace old number i → Sets old new i slot (record { envelope = slot.envelope; is_delivered = true }) →
      IsPost s new messages (slice_set marks (number - 1) (record { is_delivered = true; is_lost = false }))
  delivered_post s old new messages marks mark number i slot p there live at e =
      let seen : Some mark ≡ Some (mark_of slot) = sym there ∙ mark_there s old messages marks number i slot p at e.there in
      let held : is_none slot.envelope ≡ false = cc in
      subst (λ b. IsPost s new messages (slice_set marks (number - 1) (record { is_delivered = true; is_lost = b }))) held
      (set_post s old new messages marks number i slot (record { envelope = slot.envelope; is_delivered = true }) p at e refl (λ m h. h))

  pub lost_post : (s : Words R) (old new : Post R) (messages : List (Sent R Layout)) (marks : List Mark) (number i : ℕ) (slot : Slot R) → IsPost s old messages marks → IsPlace old number i →
      Sets old new i slot (record { envelope = None; is_delivered = false }) → IsPost s new messages (slice_set marks (number - 1) (record { is_delivered = false; is_lost = true }))
  lost_post s old new messages marks number i slot p at e = set_post s old new messages marks number i slot (record { envelope = None; is_delivered = false }) p at e refl (λ m h. tt)

  found_at : (slots : List (Slot R)) (messages : List (Sent R Layout)) (marks : List Mark) (number : ℕ) (slot : Slot R) (e : Envelope R) → map mark_of slots ≡ marks → AllZip IsHeld slots messages →
      1 ≤ number → slice_get slots (number - 1) ≡ Some slot → slot.envelope ≡ Some e → IsFound number messages marks e
  found_at slots messages marks number slot e marks_are held low there is =
      let h = zip_at IsHeld slots messages (number - 1) slot held there in
      record {
        message = h.0;
        mark = mark_of slot;
        is_there = numbered_back messages number low ∙ h.1;
        is_marked = mark_at slots marks number slot marks_are low there;
        not_lost = ap is_none is;
        is = subst (λ o. IsHeldIn o h.0) is h.2;
      }

  lost_at : (slots : List (Slot R)) (messages : List (Sent R Layout)) (marks : List Mark) (number : ℕ) (slot : Slot R) → map mark_of slots ≡ marks → AllZip IsHeld slots messages →
      1 ≤ number → slice_get slots (number - 1) ≡ Some slot → slot.envelope ≡ None → IsLost number messages marks
  lost_at slots messages marks number slot marks_are held low there is =
      let h = zip_at IsHeld slots messages (number - 1) slot held there in
      record {
        message = h.0;
        mark = mark_of slot;
        is_there = numbered_back messages number low ∙ h.1;
        is_marked = mark_at slots marks number slot marks_are low there;
        lost = ap is_none is;
      }

  pub found : (s : Words R) (post : Post R) (messages : List (Sent R Layout)) (marks : List Mark) (number i : ℕ) (slot : Slot R) (e : Envelope R) → IsPost s post messages marks → IsPlace post number i →
      slice_get post.slots.items i ≡ Some slot → slot.envelope ≡ Some e → IsFound number messages marks e
  found s post messages marks number i slot e p at there is =
      found_at (p.over ++ post.slots.items) messages marks number slot e p.marks_are p.held (low s post messages marks number i p at) (slot_there s post messages marks number i slot p at there) is

  pub lost_there : (s : Words R) (post : Post R) (messages : List (Sent R Layout)) (marks : List Mark) (number i : ℕ) (slot : Slot R) → IsPost s post messages marks → IsPlace post number i →
      slice_get post.slots.items i ≡ Some slot → slot.envelope ≡ None → IsLost number messages marks
  lost_there s post messages marks number i slot p at there is =
      lost_at (p.over ++ post.slots.items) messages marks number slot p.marks_are p.held (low s post messages marks number i p at) (slot_there s post messages marks number i slot p at there) is

  -- ---- a message that is over

  -- the slot that a message had which is over
  record Had (over : List (Slot R)) (number : ℕ) : Type 0 where
    pub low : 1 ≤ number
    pub within : number - 1 < length over
    pub slot : Slot R
    pub there : slice_get over (number - 1) ≡ Some slot

  had : (s : Words R) (post : Post R) (messages : List (Sent R Layout)) (marks : List Mark) (number : ℕ) (p : IsPost s post messages marks) → 1 ≤ number → number ≤ post.sent → HasNoPlace post number → Had p.over number
  had s post messages marks number p low high none =
      let in_over : number ≤ length p.over = (let n = counted s post messages marks p in elim none [ inl past ↦ absurd (omega (arith, n)) | inr before ↦ omega (arith, n) ]) in
      let empty : Slot R = record { envelope = None; is_delivered = false } in
      record { low = low; within = omega arith; slot = get_or p.over (number - 1) empty; there = slice_get-get_or p.over (number - 1) empty (omega arith) }

  -- the marks are as many as the messages
  sent_of : (s : Words R) (post : Post R) (messages : List (Sent R Layout)) (marks : List Mark) (mark : Mark) (number : ℕ) → IsPost s post messages marks → numbered marks number ≡ Some mark →
      (1 ≤ number) × (number ≤ post.sent)
  sent_of s post messages marks mark zero p there = cc
  sent_of s post messages marks mark (suc n) p there =
      let long : length marks ≡ post.sent =
      ap length (sym p.marks_are) ∙ length-map (p.over ++ post.slots.items) mark_of ∙ length-append p.over post.slots.items ∙ sym (counted s post messages marks p) in
      let within : n < length marks = slice_get_within marks n mark there in
      (omega arith, omega arith)

  pub lost_over : (s : Words R) (post : Post R) (messages : List (Sent R Layout)) (marks : List Mark) (number : ℕ) → IsPost s post messages marks → 1 ≤ number → number ≤ post.sent →
      HasNoPlace post number → IsLost number messages marks
  lost_over s post messages marks number p low high none =
      let h = had s post messages marks number p low high none in
      lost_at (p.over ++ post.slots.items) messages marks number h.slot p.marks_are p.held low (get_within p.over post.slots.items (number - 1) h.within ∙ h.there) (all_at IsOver p.over (number - 1) h.slot p.lost h.there)

  pub not_over : (s : Words R) (post : Post R) (messages : List (Sent R Layout)) (marks : List Mark) (mark : Mark) (number : ℕ) → IsPost s post messages marks → numbered marks number ≡ Some mark →
      mark.is_lost ≡ false → HasNoPlace post number → ⊥
  not_over s post messages marks mark number p there live none =
      let h = sent_of s post messages marks mark number p there in
      let l = lost_over s post messages marks number p h.0 h.1 none in
      let is : Some mark ≡ Some l.mark = sym there ∙ l.is_marked in
      let lost : l.mark.is_lost ≡ true = l.lost in
      cc

  -- a message that is over is lost once more
  pub over_post : (s : Words R) (post : Post R) (messages : List (Sent R Layout)) (marks : List Mark) (mark : Mark) (number : ℕ) → IsPost s post messages marks → numbered marks number ≡ Some mark →
      HasNoPlace post number → IsPost s post messages (slice_set marks (number - 1) (record { is_delivered = false; is_lost = true }))
  over_post s post messages marks mark number p there none =
      let slots = post.slots.items in
      let n = sent_of s post messages marks mark number p there in
      let h = had s post messages marks number p n.0 n.1 none in
      let lost : Slot R = record { envelope = None; is_delivered = false } in
      let now : slice_set (p.over ++ slots) (number - 1) lost ≡ slice_set p.over (number - 1) lost ++ slots = set-append_left p.over slots (number - 1) lost h.within in
      record {
        over = slice_set p.over (number - 1) lost;
        lost = all_set IsOver p.over (number - 1) lost refl p.lost;
        marks_are = ap (map mark_of) (sym now) ∙ map-set mark_of (p.over ++ slots) (number - 1) lost ∙ ap (λ ms. slice_set ms (number - 1) (mark_of lost)) p.marks_are;
        held = subst (λ xs. AllZip IsHeld xs messages) now
            (zip_set IsHeld (p.over ++ slots) messages (number - 1) h.slot lost (get_within p.over slots (number - 1) h.within ∙ h.there) (λ m _. tt) p.held);
        first = p.first;
        sent = p.sent;
        bytes = p.bytes;
        few = p.few;
        small = p.small;
      }

  -- ---- one more message

  pub sent_bytes_append : (s : Words R) (ms ns : List (Sent R Layout)) → sent_bytes s (ms ++ ns) ≡ plus (sent_bytes s ms) (sent_bytes s ns)
  sent_bytes_append s [] ns = nothing_plus (sent_bytes s ns)
  sent_bytes_append s (m ∷ ms) ns = ap (plus (packet_size s m.packet)) (sent_bytes_append s ms ns) ∙ plus_each (packet_size s m.packet) (sent_bytes s ms) (sent_bytes s ns)

  bytes_push : (s : Words R) (ms : List (Sent R Layout)) (m : Sent R Layout) (e : Envelope R) → IsSent e m → sent_bytes s (ms ++ m ∷ []) ≡ plus (sent_bytes s ms) (packet_bytes s e.packet)
  bytes_push s ms m e sent = sent_bytes_append s ms (m ∷ []) ∙ ap (plus (sent_bytes s ms)) (plus_nothing (packet_size s m.packet) ∙ ap (packet_size s) (sym sent.packet))

  first_push : (slots : List (Slot R)) (n : ℕ) (new : Slot R) → is_waiting new ≡ true → IsFirst slots n → IsFirst (slots ++ new ∷ []) n
  first_push slots n new w f =
      let within : n ≤ length slots = f.within in
      record {
        within = omega (arith, length-append slots (new ∷ []));
        before = gone_push slots n new within f.before;
        here = λ slot h. elim (get_push slots n new slot h) [ inl e ↦ f.here slot e | inr p ↦ rw p.1 w ];
      }

  pub push_post : (s : Words R) (old new : Post R) (messages : List (Sent R Layout)) (marks : List Mark) (m : Sent R Layout) (e : Envelope R) (size : ℕ) → IsPost s old messages marks → IsSent e m →
      packet_bytes s e.packet ≡ Some size → new.slots.items ≡ old.slots.items ++ record { envelope = Some e; is_delivered = false } ∷ [] → new.first ≡ old.first → new.sent ≡ old.sent + 1 →
      new.bytes ≡ old.bytes + size → new.bytes < 2 ^ 64 → new.sent < 2 ^ 64 → IsPost s new (messages ++ m ∷ []) (marks ++ not_yet (m ∷ []))
  push_post s old new messages marks m e size p sent sized es ef en eb small few =
      let slots = old.slots.items in
      let slot : Slot R = record { envelope = Some e; is_delivered = false } in
      let all : (p.over ++ slots) ++ slot ∷ [] ≡ p.over ++ new.slots.items = append_assoc p.over slots (slot ∷ []) ∙ ap (p.over ++◌) (sym es) in
      let long : length (messages ++ m ∷ []) ≡ new.sent = (let n = p.sent in omega (arith, length-append messages (m ∷ []))) in
      let f : IsFirst (slots ++ slot ∷ []) old.first = first_push slots old.first slot refl p.first in
      record {
        over = p.over;
        lost = p.lost;
        marks_are = ap (map mark_of) (sym all) ∙ map-append mark_of (p.over ++ slots) (slot ∷ []) ∙ ap (λ ms. ms ++ not_yet (m ∷ [])) p.marks_are;
        held = subst (λ xs. AllZip IsHeld xs (messages ++ m ∷ [])) all (all_zipped_more IsHeld (p.over ++ slots) messages slot m p.held sent);
        first = subst (λ n. IsFirst new.slots.items n) (sym ef) (subst (λ xs. IsFirst xs old.first) (sym es) f);
        sent = long;
        bytes = bytes_push s messages m e sent ∙ ap₂ plus p.bytes sized ∙ ap Some (sym eb);
        few = omega arith;
        small = small;
      }

  -- one packet is too great
  pub too_great : (s : Words R) (messages : List (Sent R Layout)) (m : Sent R Layout) (e : Envelope R) → (IsWord (packet_bytes s e.packet) → ⊥) → IsSent e m → IsWord (sent_bytes s (messages ++ m ∷ [])) → ⊥
  too_great s messages m e not sent h = not (word_right (sent_bytes s messages) (packet_bytes s e.packet) (subst IsWord (bytes_push s messages m e sent) h))

  -- all packets together are too great
  pub too_many : (s : Words R) (post : Post R) (messages : List (Sent R Layout)) (marks : List Mark) (m : Sent R Layout) (e : Envelope R) (size : ℕ) → packet_bytes s e.packet ≡ Some size →
      (post.bytes + size < 2 ^ 64 → ⊥) → IsPost s post messages marks → IsSent e m → IsWord (sent_bytes s (messages ++ m ∷ [])) → ⊥
  too_many s post messages marks m e size sized not p sent h = not (subst IsWord (bytes_push s messages m e sent ∙ ap₂ plus p.bytes sized) h)

  -- each message counts a byte at least
  packet_counts : (s : Words R) (packet : machine.Packet R Layout) (n : ℕ) → packet_size s packet ≡ Some n → 1 ≤ n
  packet_counts s (says m) n h = sized (carried s m) h
    where
      sized : (o : Option ℕ) → plus (Some 64) o ≡ Some n → 1 ≤ n
      sized None e = cc
      sized (Some c) e = let is : 64 + c ≡ n = cc in omega arith
  packet_counts s (shows v) n h = let is : 64 + 1600 * length v.layouts ≡ n = cc in omega arith

  messages_count : (s : Words R) (ms : List (Sent R Layout)) (n : ℕ) → sent_bytes s ms ≡ Some n → length ms ≤ n
  messages_count s [] n e = omega arith
  messages_count s (m ∷ ms) n e = counts_both (packet_size s m.packet) (sent_bytes s ms) (length ms) n (packet_counts s m.packet) (messages_count s ms) e

  -- there are too many messages
  pub too_many_sent : (s : Words R) (post : Post R) (messages : List (Sent R Layout)) (marks : List Mark) (m : Sent R Layout) → (post.sent + 1 < 2 ^ 64 → ⊥) → IsPost s post messages marks →
      IsWord (sent_bytes s (messages ++ m ∷ [])) → ⊥
  too_many_sent s post messages marks m not p h =
      let few = few_messages (sent_bytes s (messages ++ m ∷ [])) (length (messages ++ m ∷ [])) (messages_count s (messages ++ m ∷ [])) h in
      not (let sent = p.sent in omega (arith, length-append messages (m ∷ [])))
