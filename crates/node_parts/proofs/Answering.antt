-- What a node sends after an answer to a walk.
use Rattle.std.proofs.Common.{◌≡◌, ℕ, ◌<◌, Bool, true, false, ◌&&◌, ◌==◌, cond, List, [], ◌∷◌, Option, Some, None, map, length, refl, sym, ap, subst, ◌∙◌, arith}
use Rattle.std.specs.List.{filter}
use Rattle.blake2_hash.specs.declared.digest.Hash32.{Hash32}
use Rattle.layout_roles.specs.declared.layout.Layout.{Layout}
use Rattle.table_schema.specs.Words.{Words}
use Rattle.walk_model.specs.Walking.{is_open}
use Rattle.merkle_sync.specs.declared.walk_end.WalkEnd.{WalkEnd}
use Rattle.merkle_sync.specs.declared.walk_end.WalkEnd.TheVariants.{Same, Ask, Push}
use Rattle.cluster_machine.specs.Layouts.{layouts}
use Rattle.cluster_machine.specs.Node.{Node, Walk}
use Rattle.cluster_machine.specs.Rounds.{is_empty, rows_at, walk_at, walk_after, asks_at, pushes_rows, sends_after}
use Rattle.walk_model.specs.Noting.{is_noted}
use Rattle.node_parts.specs.declared.contents.Contents.{Contents}
use Rattle.node_parts.specs.declared.packet.Envelope.{Envelope}
use Rattle.node_parts.specs.declared.rounds.Mending.{Mending as Mended}
use Rattle.node_parts.specs.declared.sender.Sender.{Sender}
use Rattle.node_parts.specs.declared.walks.Answer.{Answer}
use Rattle.node_parts.specs.declared.walks.Walks.{Walks}
use Rattle.node_parts.specs.Contents.{IsContents}
use Rattle.node_parts.specs.Posts.{Posts}
use Rattle.node_parts.specs.Sends.{Sends, Asks, Pushes, Walked, WalksOn, CannotWalk, WalkedLate, WalksLate}
use Rattle.node_parts.specs.Walks.{children_of, awaiting, awaiting_in, is_spelled_at, asked_by, WentOn, Tell, TakesAnswer, idle, outcome, outcome_of}
use Rattle.node_parts.proofs.Posting.{posts_none}
use Rattle.node_parts.proofs.PlacedWalks.{found_at}

-- the walk that awaits an answer is the one at its place
awaiting_is : (table : ℕ) (prefix : List ℕ) (o : Option Walk) (w : Walk) → awaiting table prefix o ≡ Some w → o ≡ Some w
awaiting_is table prefix None w e = cc
awaiting_is table prefix (Some v) w e =
    elim (is_open table prefix v.state.prefixes) as (λ b. cond b (Some v) None ≡ Some w → Some v ≡ Some w) [ true ↦ (λ h. h) | false ↦ (λ h. cc) ] e

pub awaits_at : (a : Answer) (walks : List Walk) (w : Walk) → awaiting_in a walks ≡ Some w → (w.state.partition ≡ a.p) × (w.node ≡ a.from)
awaits_at a walks w e = found_at a.p a.from walks w (awaiting_is a.table a.prefix.now (walk_at a.p a.from walks) w e)

some_keys : (keys : List (ℕ × Hash32)) → 0 < length keys → is_empty keys ≡ false
some_keys [] h = absurd (omega (arith, h))
some_keys (k ∷ ks) h = refl

some_open : (ps : List (ℕ × List ℕ)) → 0 < length ps → is_empty ps ≡ false
some_open [] h = absurd (omega (arith, h))
some_open (p ∷ ps) h = refl

module _ {R : Type 0} (join : R → R → R) (s : Words R) where
  none_noted : (rs : List R) → filter (is_noted s []) rs ≡ []
  none_noted [] = refl
  none_noted (r ∷ rs) = none_noted rs

  -- what is sent after what the walk told
  abbrev pub SendsEnd : {S : Type 0} → Sender → Contents S R → Answer → List (Envelope R) → List (Envelope R) → Bool → WalkEnd → Type 0
  SendsEnd sender c a old new is_same (Ask prefixes) = (is_same ≡ false) × Asks join s sender c old new a.from a.p a.table prefixes.items
  SendsEnd sender c a old new is_same Same = (is_same ≡ true) × (new ≡ old)
  SendsEnd sender c a old new is_same (Push keys) = (is_same ≡ false) × Pushes join s sender c old new a.from a.p keys.items

  module _ {S : Type 0} (sender : Sender) (c : Contents S R) (new : Walks) (a : Answer) (old_out new_out : List (Envelope R)) (is_same : Bool) (x : Node R Layout) (walks : List Walk) (sends : Sends join s sender c x) where
    abbrev later_of : Walk → Walk
    later_of w = walk_after join s x w a.table a.prefix.now (children_of a)

    after_ask : (w : Walk) → w.state.partition ≡ a.p → w.node ≡ a.from → (asked : List (List ℕ)) → is_empty (later_of w).state.prefixes ≡ false → Asks join s sender c old_out new_out a.from a.p a.table asked →
        Posts sender.node old_out new_out (sends_after join s layouts x sender.round (later_of w) a.table asked)
    after_ask w p n asked e asks =
        subst (Posts sender.node old_out new_out)
        ((λ i. map (asks_at join s layouts x sender.round (sym p i) (sym n i) a.table) asked)
        ∙ ap (λ b. cond b (pushes_rows join s layouts x sender.round w.state.partition (w.node ∷ []) (filter (is_noted s (later_of w).state.noted) (rows_at join s x w.state.partition))) (map (asks_at join s layouts x sender.round w.state.partition w.node a.table) asked)) (sym e))
        (asks x sends)

    after_push : (w : Walk) → w.state.partition ≡ a.p → w.node ≡ a.from → (asked : List (List ℕ)) (keys : List (ℕ × Hash32)) → is_empty (later_of w).state.prefixes ≡ true → keys ≡ (later_of w).state.noted → Pushes join s sender c old_out new_out a.from a.p keys →
        Posts sender.node old_out new_out (sends_after join s layouts x sender.round (later_of w) a.table asked)
    after_push w p n asked keys e same pushes =
        subst (Posts sender.node old_out new_out)
        ((λ i. pushes_rows join s layouts x sender.round (sym p i) (sym n i ∷ []) (filter (is_noted s (same i)) (rows_at join s x (sym p i))))
        ∙ ap (λ b. cond b (pushes_rows join s layouts x sender.round w.state.partition (w.node ∷ []) (filter (is_noted s (later_of w).state.noted) (rows_at join s x w.state.partition))) (map (asks_at join s layouts x sender.round w.state.partition w.node a.table) asked)) (sym e))
        (pushes x sends)

    after_same : (w : Walk) (asked : List (List ℕ)) → is_empty (later_of w).state.prefixes ≡ true → (later_of w).state.noted ≡ [] → new_out ≡ old_out →
        Posts sender.node old_out new_out (sends_after join s layouts x sender.round (later_of w) a.table asked)
    after_same w asked e none same =
        subst (Posts sender.node old_out new_out)
        (ap (pushes_rows join s layouts x sender.round w.state.partition (w.node ∷ [])) (sym (none_noted (rows_at join s x w.state.partition)))
        ∙ (λ i. pushes_rows join s layouts x sender.round w.state.partition (w.node ∷ []) (filter (is_noted s (sym none i)) (rows_at join s x w.state.partition)))
        ∙ ap (λ b. cond b (pushes_rows join s layouts x sender.round w.state.partition (w.node ∷ []) (filter (is_noted s (later_of w).state.noted) (rows_at join s x w.state.partition))) (map (asks_at join s layouts x sender.round w.state.partition w.node a.table) asked)) (sym e))
        (subst (λ out. Posts sender.node old_out out []) (sym same) (posts_none sender.node old_out))

    -- what a walk told leads to
    walked_end : (end : WalkEnd) (w : Walk) → w.state.partition ≡ a.p → w.node ≡ a.from → WentOn join s new a end x walks w → SendsEnd sender c a old_out new_out is_same end → Walked join s sender new old_out new_out is_same (outcome_of join s x sender.round a walks (Some w))
    walked_end (Ask prefixes) w p n went sent =
        let opened = some_open (later_of w).state.prefixes went.tells.0 in
        record {
          walks = went.kept;
          posts = after_ask w p n (asked_by join s x a w.state.partition) opened (subst (λ l. Asks join s sender c old_out new_out a.from a.p a.table l) went.tells.1 sent.1);
          same = sent.0 ∙ ap (λ b. b && is_empty (later_of w).state.noted) (sym opened);
          spelled = went.spelled;
        }
    walked_end Same w p n went sent =
        let over : is_empty (later_of w).state.prefixes ≡ true = ap is_empty went.tells.0 in
        record {
          walks = went.kept;
          posts = after_same w (asked_by join s x a w.state.partition) over went.tells.1 sent.1;
          same = sent.0 ∙ (λ i. sym over i && is_empty (sym went.tells.1 i));
          spelled = went.spelled;
        }
    walked_end (Push keys) w p n went sent =
        let over : is_empty (later_of w).state.prefixes ≡ true = ap is_empty went.tells.0 in
        record {
          walks = went.kept;
          posts = after_push w p n (asked_by join s x a w.state.partition) keys.items over went.tells.2 sent.1;
          same = sent.0 ∙ (λ i. sym over i && sym (some_keys (later_of w).state.noted went.tells.1) i);
          spelled = went.spelled;
        }

  -- no walk awaits the answer
  pub walks_idle : {S : Type 0} (sender : Sender) (c : Contents S R) (old new : Walks) (a : Answer) (out : List (Envelope R)) → TakesAnswer join s c old new a None → WalksOn join s sender c old new a out out false
  walks_idle sender c old new a out takes x walks sends are =
      elim (awaiting_in a walks) as (λ o. Tell join s new a None x walks o → Walked join s sender new out out false (outcome_of join s x sender.round a walks o)) [
        | None ↦ (λ t. record { walks = t; posts = posts_none sender.node out; same = refl; spelled = refl })
        | Some w ↦ (λ t. absurd t)
      ] (takes x walks sends.is are)

  -- a walk took it in, and told so
  pub walks_told : {S : Type 0} (sender : Sender) (c : Contents S R) (old new : Walks) (a : Answer) (old_out new_out : List (Envelope R)) (is_same : Bool) (end : WalkEnd) → TakesAnswer join s c old new a (Some end) → SendsEnd sender c a old_out new_out is_same end →
      WalksOn join s sender c old new a old_out new_out is_same
  walks_told sender c old new a old_out new_out is_same end takes sent x walks sends are =
      elim (awaiting_in a walks) as (λ o. awaiting_in a walks ≡ o → Tell join s new a (Some end) x walks o → Walked join s sender new old_out new_out is_same (outcome_of join s x sender.round a walks o)) [
        | None ↦ (λ e t. absurd t)
        | Some w ↦ (λ e t. let at = awaits_at a walks w e in walked_end sender c new a old_out new_out is_same x walks sends end w at.0 at.1 t sent)
      ] refl (takes x walks sends.is are)

  -- after a walk told what it did some row has no spelling
  pub cannot_send : {S : Type 0} (sender : Sender) (c : Contents S R) (old new : Walks) (a : Answer) (end : WalkEnd) → TakesAnswer join s c old new a (Some end) → ((x : Node R Layout) → IsContents join s c x → is_spelled_at join s x a.p ≡ false) → CannotWalk join s sender c old a
  cannot_send sender c old new a end takes lacks x walks sends are =
      elim (awaiting_in a walks) as (λ o. awaiting_in a walks ≡ o → Tell join s new a (Some end) x walks o → (outcome_of join s x sender.round a walks o).is_spelled ≡ false) [
        | None ↦ (λ e t. absurd t)
        | Some w ↦ (λ e t. ap (is_spelled_at join s x) (awaits_at a walks w e).0 ∙ lacks x sends.is)
      ] refl (takes x walks sends.is are)

  -- ---- repairs, and rounds that are complete

  -- there is none
  pub none_late : {S : Type 0} (sender : Sender) (c : Contents S R) (a : Answer) (out : List (Envelope R)) → WalksLate join s sender c None None a out out false
  none_late sender c a out x None sends are = record { mending = tt; posts = posts_none sender.node out; taken_is = refl; spelled = refl }
  none_late sender c a out x (Some m) sends are = absurd are

  -- the answer is for it
  pub late_walked : {S : Type 0} (sender : Sender) (c : Contents S R) (d : Mended) (new : Walks) (a : Answer) (old_out new_out : List (Envelope R)) (is_same : Bool) → (d.number == sender.round) ≡ true → WalksOn join s sender c d.walks new a old_out new_out is_same →
      WalksLate join s sender c (Some d) (Some (record d { walks = new })) a old_out new_out true
  late_walked sender c d new a old_out new_out is_same mine walks x None sends are = absurd are
  late_walked sender c d new a old_out new_out is_same mine walks x (Some m) sends are =
      let e : (m.number == sender.round) ≡ true = ap (λ n. n == sender.round) (sym are.number) ∙ mine in
      let w = walks x m.walks sends are.walks in
      subst (λ b. WalkedLate join s sender (Some (record d { walks = new })) old_out new_out true (Some m) (cond b (outcome join s x sender.round a m.walks) (idle m.walks))) (sym e)
      (record { mending = record { number = are.number; walks = w.walks }; posts = w.posts; taken_is = sym e; spelled = w.spelled })
