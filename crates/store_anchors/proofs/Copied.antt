-- A copy writes what was written to its source before, and ended superseded only where the version that it read of its source was overwritten.
use Rattle.std.specs.Prelude.{◌≡◌, ◌≤◌, ℕ, suc, true, false, if◌then◌else◌, Some, List, [], ◌∷◌, ◌++◌, length, refl}
use Rattle.std.proofs.Common.{ap, sym, subst, ◌∙◌, arith, inl, inr}
use Rattle.std.specs.List.{Contains}
use Rattle.std.proofs.lemmas.List.Elements.{Contains-append_cases}
use Rattle.blake2_hash.specs.Hash.{digest_of}
use Rattle.crdt_rows.specs.declared.version.Version.{Version}
use Rattle.history_model.specs.declared.record.Cause.TheVariants.{Superseded}
use Rattle.history_model.specs.declared.record.Record.TheVariants.{Ended}
use Rattle.std.proofs.lemmas.List.{append-nil, append_assoc}
use Rattle.cluster_machine.specs.Layouts.{layouts}
use Rattle.cluster_machine.specs.World.{is_member_at, numbered}
use Rattle.cluster_machine.specs.declared.step.Refusal.TheVariants.{NotMember, NoSuchBucket}
use Rattle.cluster_machine.specs.declared.step.Words.TheVariants.{Empty, One}
use Rattle.flow_model.specs.declared.order.Order.{Order}
use Rattle.flow_model.specs.declared.flow.Name.{Name}
use Rattle.flow_model.specs.declared.flow.Flow.{Flow}
use Rattle.flow_model.specs.Flow.{started}
use Rattle.store_model.specs.Orders.{buckets_of, kind_of, name_of}
use Rattle.store_model.specs.Run.{Moving, State, Outcome, Asked, Draw, start, new_request, opened, began_with, begins, refusal, are_buckets}
use Rattle.store_model.specs.Acts.{Act, asks, acted, after_acts, AreLawfulActs}
use Rattle.store_model.proofs.Acts.{acts_after, lawful_in_parts}
use Rattle.store_laws.specs.Promised.{moves_in, IsReplaced}
use Rattle.machine_origins.proofs.Places.{numbered_last, numbered_within}
use Rattle.store_model.specs.Written.{IsOneWrite}
use Rattle.store_laws.proofs.Elements.{only}
use Rattle.store_laws.proofs.Once.{one_name}
use Rattle.store_laws.proofs.Records.{is_in}
use Rattle.store_laws.proofs.Sound.{IsSound, began}
use Rattle.store_anchors.specs.Copied.{Copying, order_of, IsAskedIn, CopiesSources, CopiesEndRightly}
use Rattle.store_anchors.specs.Stored.{blocks_of}
use Rattle.store_anchors.proofs.Acts.{IsHeld, acts_held, began_is_no_end, draws_apart, held, start_held}
use Rattle.store_anchors.proofs.Cited.{Cited}
use Rattle.store_anchors.proofs.Laid.{IsLaidIn}
use Rattle.store_anchors.proofs.Whole.{rightly}
use Rattle.store_anchors.proofs.Taking.{AreTaken, IsFollowedIn, IsOfSource, Knows, none_taken, followed_joined, taken_of}
use Rattle.store_laws.proofs.Hashing.{ActsIn, acts_in_parts}
use Rattle.store_laws.proofs.Deeds.{Deed, IsSafe}

-- ---- acts before others

moves_after : (s : State) (before after : List Act) → moves_in s (before ++ after) ≡ moves_in s before ++ moves_in (after_acts s before) after
moves_after s [] after = refl
moves_after s (a ∷ before) after =
    ap (λ (ms : List Moving). (acted s a).moves ++ ms) (moves_after (acted s a).state before after) ∙ sym (append_assoc (acted s a).moves (moves_in (acted s a).state before) (moves_in (after_acts (acted s a).state before) after))

-- ---- a copy begins

module _ {H : Deed → Type 0} where
  -- no request has the number of the next one, so it drew nothing
  next_is_new : (s : State) → IsSound H s → (d : Draw) → Contains s.draws d → ¬ (d.request ≡ suc (length s.world.requests))
  next_is_new s sound d c e =
      let h = sound.drawn d c in
      let asked = sound.told.began_asked d.request h.node h.kind d.name (is_in s.history h.place _ h.began_at) in
      let within : d.request ≤ length s.asked = numbered_within s.asked d.request asked.one asked.is_there in
      let lengths : length s.asked ≡ length s.world.requests = sound.lengths in
      absurd (omega arith)

  -- nor has it ended superseded
  next_is_open : (ms : List Moving) (s : State) → IsSound H s → IsLaidIn H ms s → (id : ℕ) → Contains s.history (Ended (suc (length s.world.requests)) (Superseded id)) → ⊥
  next_is_open ms s sound laid id c =
      let asked = (laid.superseded (suc (length s.world.requests)) id c).was_asked in
      let within : suc (length s.world.requests) ≤ length s.asked = numbered_within s.asked (suc (length s.world.requests)) asked.one asked.is_there in
      let lengths : length s.asked ≡ length s.world.requests = sound.lengths in
      absurd (omega arith)

  opened_follows : (ms : List Moving) (s : State) (n : ℕ) (copy : Copying) (name : Name) → IsSound H s → ((id : ℕ) → Contains s.history (Ended copy.request (Superseded id)) → ⊥) → s.history ≡ copy.history → suc (length s.world.requests) ≡ copy.request →
      IsFollowedIn (IsSafe H) ms (opened s n (order_of copy name)).state copy
  opened_follows ms s n copy name sound never past is =
      let o : Order = order_of copy name in
      let q : ℕ = suc (length s.world.requests) in
      let flow : Flow = (started o q s.block).0 in
      let a : Asked = new_request n o flow in
      let last : suc (length s.asked) ≡ copy.request = ap suc sound.lengths ∙ is in
      let there : numbered (s.asked ++ a ∷ []) copy.request ≡ Some a = subst (λ (k : ℕ). numbered (s.asked ++ a ∷ []) k ≡ Some a) last (numbered_last s.asked a) in
      record {
        kind = kind_of o;
        name = name_of o;
        was_asked = record { one = a; is_there = there; kind_is = refl; name_is = refl };
        began = record { node = n; kind = kind_of o; name = name_of o; after = []; cut = λ i. past i ++ began (is i) n (kind_of o) (name_of o) ∷ [] };
        knows = λ b f at flow_is.
            let some_is : Some a ≡ Some b = sym there ∙ at in
            let one_is : a ≡ b = cc in
            let flows : Some flow ≡ Some f = ap (λ (x : Asked). x.flow) one_is ∙ flow_is in
            let same : flow ≡ f = cc in
            subst (λ (g : Flow). Knows (IsSafe H) (blocks_of ms) s.draws copy g.stage) same (refl, refl);
        taken = none_taken (IsSafe H) (blocks_of ms) copy s.draws (λ d c own. next_is_new s sound d c (own ∙ sym is));
        ended = λ id c. elim (Contains-append_cases s.history (began_with q n o ∷ []) (Ended copy.request (Superseded id)) c) [
          | inl was ↦ absurd (never id was)
          | inr new ↦ absurd (began_is_no_end q n o copy.request id (only (began_with q n o) (Ended copy.request (Superseded id)) new))
        ];
      }

number_is : (p q : ℕ) → One p ≡ One q → p ≡ q
number_is p q e = cc

no_number : (q : ℕ) → Empty ≡ One q → ⊥
no_number q e = cc

module _ {H : Deed → Type 0} where
  begins_follows : (ms : List Moving) (s : State) (n : ℕ) (copy : Copying) (name : Name) → IsSound H s → IsLaidIn H ms s → s.history ≡ copy.history → (let o = begins s n (order_of copy name) in o.words ≡ One copy.request → IsFollowedIn (IsSafe H) (ms ++ o.moves) o.state copy)
  begins_follows ms s n copy name sound laid past =
      let o : Order = order_of copy name in
      let Follows : Outcome → Type 0 = λ (x : Outcome). x.words ≡ One copy.request → IsFollowedIn (IsSafe H) (ms ++ x.moves) x.state copy in
      elim (is_member_at layouts s.world n) as (λ b. Follows (if b then (if are_buckets s.buckets (buckets_of o) then opened s n o else refusal s NoSuchBucket) else refusal s NotMember)) [
        | true ↦ elim (are_buckets s.buckets (buckets_of o)) as (λ b. Follows (if b then opened s n o else refusal s NoSuchBucket)) [
          | true ↦ λ is.
              let number : suc (length s.world.requests) ≡ copy.request = number_is (suc (length s.world.requests)) copy.request is in
              opened_follows (ms ++ (opened s n o).moves) s n copy name sound
              (λ id c. next_is_open ms s sound laid id (subst (λ (q : ℕ). Contains s.history (Ended q (Superseded id))) (sym number) c)) past number
          | false ↦ λ is. absurd (no_number copy.request is)
        ]
        | false ↦ λ is. absurd (no_number copy.request is)
      ]

-- ---- the law

module _ {H : Deed → Type 0} where
  module _ (cited : Cited H) where
    asked_copies : (copy : Copying) (before : List Act) (node : ℕ) (name : Name) (after : List Act) → (after_acts start before).history ≡ copy.history → (let acts = before ++ asks node (order_of copy name) ∷ after in AreLawfulActs start acts → ActsIn H start acts →
        (acted (after_acts start before) (asks node (order_of copy name))).words ≡ One copy.request → IsFollowedIn (IsSafe H) (moves_in start acts) (after_acts start acts) copy)
    asked_copies copy before node name after past lawful fit begins =
        let a : Act = asks node (order_of copy name) in
        let s : State = after_acts start before in
        let ms : List Moving = moves_in start before in
        let o : Outcome = acted s a in
        let laws = lawful_in_parts start before (a ∷ after) lawful in
        let fits = acts_in_parts H start before (a ∷ after) fit in
        let first : IsHeld H ms s = (acts_held cited [] start before laws.0 fits.0 (start_held cited)).0 in
        let held_then : IsHeld H (ms ++ (o.moves ++ [])) o.state = (acts_held cited ms s (a ∷ []) (laws.1.0, tt) (fits.1.0, tt) first).0 in
        let now : IsHeld H (ms ++ o.moves) o.state = subst (λ (k : List Moving). IsHeld H (ms ++ k) o.state) (append-nil o.moves) held_then in
        let begun : IsFollowedIn (IsSafe H) (ms ++ o.moves) o.state copy = begins_follows ms s node copy name first.sound first.laid past begins in
        let last : State = after_acts o.state after in
        let all : IsFollowedIn (IsSafe H) (ms ++ (o.moves ++ moves_in o.state after)) last copy =
        followed_joined ms o.moves (moves_in o.state after) last copy ((acts_held cited (ms ++ o.moves) o.state after laws.1.1 fits.1.1 now).2 copy begun) in
        let ends : IsFollowedIn (IsSafe H) (moves_in start (before ++ a ∷ after)) last copy = subst (λ (k : List Moving). IsFollowedIn (IsSafe H) k last copy) (sym (moves_after start before (a ∷ after))) all in
        subst (λ (x : State). IsFollowedIn (IsSafe H) (moves_in start (before ++ a ∷ after)) x copy) (sym (acts_after start before (a ∷ after))) ends

    followed : (acts : List Act) → AreLawfulActs start acts → ActsIn H start acts → (copy : Copying) → IsAskedIn acts copy → IsFollowedIn (IsSafe H) (moves_in start acts) (after_acts start acts) copy
    followed acts lawful fit copy asked =
        let moves : List Act = asked.before ++ asks asked.node (order_of copy asked.name) ∷ asked.after in
        let there : IsFollowedIn (IsSafe H) (moves_in start moves) (after_acts start moves) copy =
        asked_copies copy asked.before asked.node asked.name asked.after asked.history_is (subst (AreLawfulActs start) asked.acts_are lawful) (subst (ActsIn H start) asked.acts_are fit) asked.begins in
        subst (λ (as' : List Act). IsFollowedIn (IsSafe H) (moves_in start as') (after_acts start as') copy) (sym asked.acts_are) there

    pub copies : IsSafe H → (acts : List Act) → AreLawfulActs start acts → ActsIn H start acts → CopiesSources acts
    copies safe acts lawful fit copy asked newer d older cut own =
        taken_of safe (blocks_of (moves_in start acts)) copy newer d older (subst (AreTaken (IsSafe H) (blocks_of (moves_in start acts)) copy) cut (followed acts lawful fit copy asked).taken) own

    -- the version with which it ended was drawn once, and so for its source
    pub copies_end : (acts : List Act) → AreLawfulActs start acts → ActsIn H start acts → CopiesEndRightly acts
    copies_end acts lawful fit copy id asked c =
        let s : State = after_acts start acts in
        let now : IsHeld H (moves_in start acts) s = held cited acts lawful fit in
        let was : IsReplaced acts copy.request id = rightly cited acts lawful fit copy.request id c in
        let read : IsOfSource s.draws copy id = (followed acts lawful fit copy asked).ended id c in
        let d : Draw = read.found.draw in
        let one : IsOneWrite d was.draw = draws_apart s now.sound now.once d was.draw read.found.drawn was.drawn (ap (λ (v : Version). v.id) read.found.version ∙ (read.id_is ∙ sym was.id_is)) in
        let same : d.name ≡ was.draw.name = one_name d was.draw one in
        record { replaced = was; bucket = ap (λ (n : Name). digest_of n.bucket) (sym same) ∙ read.found.bucket; key = ap (λ (n : Name). n.key) (sym same) ∙ read.found.key }
