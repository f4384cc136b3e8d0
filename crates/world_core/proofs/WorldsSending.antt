-- A node did something, and its messages were sent: the world, what is told, and the room that is needed.
use Rattle.std.proofs.Common.{◌≡◌, ℕ, suc, true, cond, leb, Option, Some, None, List, [], ◌∷◌, ◌++◌, length, map, IsTrue, IsSome, refl, sym, subst, ap, ◌∙◌, append_assoc}
use Rattle.std.specs.Option.{unwrap_or}
use Rattle.std.proofs.lemmas.Bool.{eq-eqb}
use Rattle.layout_roles.specs.declared.layout.Layout.{Layout}
use Rattle.layout_trackers.specs.declared.which.Which.TheVariants.{Sync}
use Rattle.layout_trackers.specs.Trackers.{counts}
use Rattle.layout_roles.specs.declared.cut.Cut.{Cut}
use Rattle.table_schema.specs.Words.{Words}
use Rattle.wire_messages.specs.Size.{plus}
use Rattle.wire_messages.specs.declared.phase.PhaseEnd.{PhaseEnd}
use Rattle.cluster_machine.specs.declared.line.Line.{Line}
use Rattle.cluster_machine.specs.declared.line.Line.TheVariants.{Sent as WasSent, Synced}
use Rattle.cluster_machine.specs.Node.{Node, Post as Sends, Did}
use Rattle.cluster_machine.specs.World.{Sent, Mark, packet_size, sent_bytes}
use Rattle.cluster_machine.specs.Step.{only, sent_by, sent_from, sync_line, dropped_line, kind_of as kind_told, did, applied}
use Rattle.node_parts.specs.declared.packet.Envelope.{Envelope}
use Rattle.node_parts.specs.Posts.{posted}
use Rattle.node_core.specs.Stands.{AreSized, Fits as FitsDid}
use Rattle.cluster_machine.specs.declared.applied.Applied.{Applied}
use Rattle.cluster_machine.specs.Fits.{IsWord, FitsNode}
use Rattle.cluster_machine.specs.Worlds.{Model, Done, RoomWith}
use Rattle.world_core.specs.declared.nodes.Nodes.{Nodes}
use Rattle.world_core.specs.declared.post.Post.{Post}
use Rattle.world_core.specs.declared.world.World.{World}
use Rattle.world_core.specs.Parts.{IsPost, AreSent, not_yet, lines_from}
use Rattle.world_core.specs.Nodes.{IsSyncAt, DidAt, OverflowsAt}
use Rattle.world_core.specs.Stands.{StandsFor, SendsOut, CannotSend}
use Rattle.world_core.proofs.WorldsStand.{stands_of, same_clocks, same_applied, same_requests, same_few, IsWhole}

both_there : (a b : Option ℕ) (n : ℕ) → plus a b ≡ Some n → IsSome a × ((m : ℕ) × (b ≡ Some m))
both_there None b n e = cc
both_there (Some x) None n e = cc
both_there (Some x) (Some y) n e = (refl, (y, refl))

-- lines of messages, and that of a sync
pub sent_and_synced : (old mid new out synced : List (Line Applied)) → mid ≡ old ++ out → new ≡ mid ++ synced → new ≡ old ++ (out ++ synced)
sent_and_synced old mid new out synced sent told = told ∙ (ap (λ ls. ls ++ synced) sent ∙ append_assoc old out synced)

module _ {R : Type 0} where
  -- what node n sent from nothing on
  pub are_sent : (w : Model R) (n : ℕ) (out : List (Envelope R)) (posts : List (Sends R Layout)) → map posted out ≡ map (λ p. (n, p)) posts → AreSent out (sent_by w n posts)
  are_sent w n [] [] e = tt
  are_sent w n [] (p ∷ posts) e = cc
  are_sent w n (x ∷ out) [] e = cc
  are_sent w n (x ∷ out) (p ∷ posts) e =
      let first : posted x ≡ (n, p) = cc in
      let rest : map posted out ≡ map (λ q. (n, q)) posts = cc in
      (record { from = ap (λ q. q.0) first; to = ap (λ q. q.1.to) first; packet = ap (λ q. q.1.packet) first }, are_sent w n out posts rest)

  lines_sent : (k : ℕ) (out : List (Envelope R)) (ms : List (Sent R Layout)) → AreSent out ms → lines_from k out ≡ sent_from k ms
  lines_sent k [] [] h = refl
  lines_sent k [] (m ∷ ms) h = absurd h
  lines_sent k (x ∷ out) [] h = absurd h
  lines_sent k (x ∷ out) (m ∷ ms) h = λ i. WasSent k (kind_told (h.0.packet i)) (h.0.from i) (h.0.to i) ∷ lines_sent (suc k) out ms h.1 i

  pub at_itself : (n : ℕ) (y : Node R Layout) (xs : ℕ → Node R Layout) → unwrap_or (only n y n) (xs n) ≡ y
  at_itself n y xs = ap (λ b. unwrap_or (cond b (Some y) None) (xs n)) (eq-eqb n n refl)

  module _ (s : Words R) where
    sized : (w : Model R) (n : ℕ) (posts : List (Sends R Layout)) (bytes : ℕ) → sent_bytes s (sent_by w n posts) ≡ Some bytes → AreSized s posts
    sized w n [] bytes e = tt
    sized w n (p ∷ posts) bytes e =
        let both = both_there (packet_size s p.packet) (sent_bytes s (sent_by w n posts)) bytes e in
        (both.0, sized w n posts both.1.0 both.1.1)

    -- the sizes of all messages are a number, so those of the last ones are
    are_sized : (w : Model R) (n : ℕ) (ms : List (Sent R Layout)) (posts : List (Sends R Layout)) (bytes : ℕ) → sent_bytes s (ms ++ sent_by w n posts) ≡ Some bytes → AreSized s posts
    are_sized w n [] posts bytes e = sized w n posts bytes e
    are_sized w n (m ∷ ms) posts bytes e =
        let both = both_there (packet_size s m.packet) (sent_bytes s (ms ++ sent_by w n posts)) bytes e in
        are_sized w n ms posts both.1.0 both.1.1

    -- where there is room in the world there is room at the node
    fits_did : (join : R → R → R) (w : Model R) (e : Done R) (n : ℕ) (d : Did R Layout) → unwrap_or (e.nodes n) (w.nodes n) ≡ d.node → e.is_spelled ≡ d.is_spelled → RoomWith join s w e → FitsDid s d
    fits_did join w e n d at spelled room =
        let x : FitsNode s d.node = subst (FitsNode s) at (room.1 n) in
        record { items = record { spelled = x.spelled; queued = x.queued }; rounds = x.rounds; collections = x.collections; phases = x.phases; spelled = subst IsTrue spelled room.0.1 }

  -- the world after d at node n, where these became of the earlier messages
  abbrev pub after_it : Model R → ℕ → Did R Layout → List Mark → Model R
  after_it w n d marks = record (applied {A = Applied} {C = Cut} w (did w n d)) { marks = marks ++ not_yet (sent_by w n d.posts) }

module _ {S R : Type 0} (join : R → R → R) (s : Words R) where
  -- node n did d, the code has these nodes and this post, and then sent the messages
  pub record Acted (old new : World S R) (w : Model R) (nodes : Nodes S R) (post : Post R) (n before after : ℕ) (out : List (Envelope R)) (given : Option (ℕ × PhaseEnd R)) (d : Did R Layout) (marks : List Mark) (first all : List (Line Applied)) : Type 0 where
    pub stands : StandsFor join s old w
    pub marked : IsPost s post w.messages marks
    pub did : DidAt join s nodes n w.nodes [] out given d
    pub synced : before ≡ counts 0 Sync (w.nodes n).view.trackers n
    pub raised : IsSyncAt join s nodes n after
    pub sends : SendsOut join s (record old { nodes = nodes; post = post }) new n before after out first all

  module _ {old new : World S R} {w : Model R} {nodes : Nodes S R} {post : Post R} {n before after : ℕ} {out : List (Envelope R)} {given : Option (ℕ × PhaseEnd R)} {d : Did R Layout} {marks : List Mark} {first all : List (Line Applied)}
      (h : Acted old new w nodes post n before after out given d marks first all) where
    they_are : AreSent out (sent_by w n d.posts)
    they_are = are_sent w n out d.posts h.did.posts

    post_after : IsPost s new.post (w.messages ++ sent_by w n d.posts) (marks ++ not_yet (sent_by w n d.posts))
    post_after = h.sends.posts w.messages marks (sent_by w n d.posts) h.marked they_are

    pub acted_spelled : d.is_spelled ≡ true
    acted_spelled = h.did.spelled (are_sized s w n w.messages d.posts new.post.bytes post_after.bytes)

    pub acted_lines : all ≡ first ++ (sent_from (suc (length w.messages)) (sent_by w n d.posts) ++ sync_line n (w.nodes n).view d.node.view)
    acted_lines =
        let raised : after ≡ counts 0 Sync d.node.view.trackers n = h.raised _ h.did.nodes ∙ ap (λ (x : Node R Layout). counts 0 Sync x.view.trackers n) (at_itself n d.node w.nodes) in
        h.sends.lines w.messages marks h.marked ∙
        (λ i.
        let before = h.synced i in
        let counted = raised i in first ++ (lines_sent (suc (length w.messages)) out (sent_by w n d.posts) they_are i ++ cond (leb counted before) [] (Synced n counted ∷ [])))

    -- the lines of a node that drops no row
    pub quiet_lines : d.dropped ≡ None → all ≡ first ++ (dropped_line n d.dropped ++ (sent_from (suc (length w.messages)) (sent_by w n d.posts) ++ sync_line n (w.nodes n).view d.node.view))
    quiet_lines none =
        acted_lines ∙ ap (λ o. first ++ (dropped_line n o ++ (sent_from (suc (length w.messages)) (sent_by w n d.posts) ++ sync_line n (w.nodes n).view d.node.view))) (sym none)

    pub acted_stands : IsWhole join s (after_it w n d marks) → StandsFor join s new (after_it w n d marks)
    acted_stands whole =
        let is = h.stands in
        subst (λ c. StandsFor join s c (after_it w n d marks)) (sym h.sends.rest) (stands_of join s (record old { nodes = nodes; post = new.post }) (after_it w n d marks) (record {
          nodes = h.did.nodes;
          post = post_after;
          clocks = same_clocks join s old w is;
          roles = is.roles;
          redundancy = is.redundancy;
          wanted = is.wanted;
          applied = same_applied join s old w is;
          requests = same_requests join s old w is;
          few = same_few join s old w is;
          whole = whole;
        }))

  -- ---- room

  pub node_full : (old : World S R) (w : Model R) (e : Done R) (n : ℕ) (f : Node R Layout → Did R Layout) → StandsFor join s old w → OverflowsAt join s old.nodes n f →
      unwrap_or (e.nodes n) (w.nodes n) ≡ (f (w.nodes n)).node → e.is_spelled ≡ (f (w.nodes n)).is_spelled → RoomWith join s w e → ⊥
  node_full old w e n f h over at spelled room = over w.nodes h.nodes (fits_did s join w e n (f (w.nodes n)) at spelled room)

  pub post_full : (c : World S R) (w : Model R) (e : Done R) (n : ℕ) (out : List (Envelope R)) (posts : List (Sends R Layout)) (marks : List Mark) → IsPost s c.post w.messages marks → map posted out ≡ map (λ p. (n, p)) posts →
      CannotSend s c out → e.sends ≡ sent_by w n posts → RoomWith join s w e → ⊥
  post_full c w e n out posts marks post are cannot sends room =
      cannot w.messages marks (sent_by w n posts) post (are_sent w n out posts are) (subst (λ ms. IsWord (sent_bytes s (w.messages ++ ms))) sends room.0.0.bytes)
