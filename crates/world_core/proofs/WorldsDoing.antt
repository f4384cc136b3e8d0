-- What a node does in a step of the world, and what is lacking where it can't.
use Rattle.std.proofs.Common.{◌≡◌, ◌==◌, ℕ, zero, suc, true, false, cond, IsTrue, Option, Some, None, List, [], ◌∷◌, ◌++◌, map, refl, sym, subst, ap, ◌∙◌, arith}
use Rattle.std.specs.Prelude.{slice_get}
use Rattle.std.specs.List.{AllByRecursion}
use Rattle.std.proofs.lemmas.Bool.{le-leb}
use Rattle.layout_roles.specs.declared.layout.Layout.{Layout}
use Rattle.layout_trackers.specs.declared.which.Which.TheVariants.{Sync}
use Rattle.layout_trackers.specs.Trackers.{counts}
use Rattle.layout_roles.specs.declared.cut.Cut.{Cut}
use Rattle.table_schema.specs.Laws.{Laws}
use Rattle.table_schema.specs.Words.{Words}
use Rattle.wire_messages.specs.declared.phase.Phase.{Phase}
use Rattle.wire_messages.specs.declared.phase.PhaseEnd.{PhaseEnd}
use Rattle.cluster_machine.specs.declared.line.Line.{Line}
use Rattle.cluster_machine.specs.declared.line.Line.TheVariants.{Got, Synced}
use Rattle.cluster_machine.specs.declared.step.Action.{Action}
use Rattle.cluster_machine.specs.declared.step.Step.TheVariants.{Deliver, Gossip, Phase as Begin}
use Rattle.cluster_machine.specs.declared.step.Refusal.TheVariants.{Lost}
use Rattle.cluster_machine.specs.declared.step.LocalEnd.{LocalEnd}
use Rattle.cluster_machine.specs.declared.step.Words.{Words as Told}
use Rattle.cluster_machine.specs.declared.step.Words.TheVariants.{Empty}
use Rattle.cluster_machine.specs.Node.{Call, Node, Did, shows, quiet}
use Rattle.cluster_machine.specs.Phases.{call_at}
use Rattle.cluster_machine.specs.Receives.{receives}
use Rattle.cluster_machine.specs.Acts.{acts}
use Rattle.cluster_machine.specs.World.{Sent, clock, numbered}
use Rattle.cluster_machine.specs.Step.{told as says, nothing, refusal, did, received, at_message, begun, beginning, sync_line, marked, dropped_line, applied}
use Rattle.blake2_hash.specs.Blake2b.{blake2b}
use Rattle.cluster_machine.specs.Blocks.{BringsBlocks, PacketCarriesBlocks, SentWithBlocks}
use Rattle.node_parts.specs.declared.packet.Packet.{Packet}
use Rattle.node_parts.specs.declared.packet.Envelope.{Envelope}
use Rattle.cluster_machine.specs.Layouts.{layouts}
use Rattle.node_parts.specs.Posts.{told}
use Rattle.node_core.specs.Stands.{begins_at, ends_of}
use Rattle.node_core.proofs.DropNone.{acts_none, begins_none}
use Rattle.cluster_machine.specs.declared.applied.Applied.{Applied}
use Rattle.cluster_machine.specs.Trio.{trio, stage_trio}
use Rattle.cluster_machine.specs.Worlds.{Model, Done, RoomWith, does}
use Rattle.world_laws.proofs.Additions.{fine_stays_sound}
use Rattle.world_laws.proofs.Doings.{fine_did, fine_acted}
use Rattle.world_core.specs.declared.nodes.Nodes.{Nodes}
use Rattle.world_core.specs.declared.post.Post.{Post}
use Rattle.world_core.specs.declared.report.Report.{Report}
use Rattle.world_core.specs.declared.world.World.{World}
use Rattle.world_core.specs.Parts.{IsPost, IsFound}
use Rattle.world_core.specs.Nodes.{AreNodes, IsSyncAt, DidAt, DoesAt, ActsAt, OverflowsAt, with_node}
use Rattle.world_core.specs.Stands.{StandsFor, Tells, DoesSo, SendsOut, CannotSend, acts_so, plainly, nothing_given, ended}
use Rattle.world_core.proofs.NodesAt.{same_at}
use Rattle.world_core.proofs.WorldsStand.{told_report, is_told, whole_after, IsWhole, whole_of}
use Rattle.world_core.proofs.Stocked.{acts_stocked}
use Rattle.world_core.proofs.WorldsSending.{Acted, acted_stands, acted_lines, quiet_lines, acted_spelled, at_itself, node_full, post_full, after_it}

all_at : {A : Type 0} (P : A → Type 0) (xs : List A) (i : ℕ) (x : A) → AllByRecursion P xs → slice_get xs i ≡ Some x → P x
all_at P [] i x h e = cc
all_at P (a ∷ xs) zero x h e = let same : a ≡ x = cc in subst P same h.0
all_at P (a ∷ xs) (suc i) x h e = all_at P xs i x h.1 e

all_numbered : {A : Type 0} (P : A → Type 0) (xs : List A) (n : ℕ) (x : A) → AllByRecursion P xs → numbered xs n ≡ Some x → P x
all_numbered P xs zero x h e = cc
all_numbered P xs (suc n) x h e = all_at P xs n x h e

module _ {R : Type 0} where
  -- a node in its own place
  still : (n : ℕ) (xs : ℕ → Node R Layout) → with_node n (xs n) xs ≡ xs
  still n xs = λ i m. same_at n m xs (m == n) refl i

  no_sync : (n : ℕ) (x : Node R Layout) → sync_line {A = Applied} n x.view x.view ≡ []
  no_sync n x = let at = counts 0 Sync x.view.trackers n in ap (λ b. cond b [] (Synced n at ∷ [])) (le-leb at at (omega arith))

module _ {S R : Type 0} (join : R → R → R) (s : Words R) where
  -- a node did d in a step, which is told with these words
  did_so : {old new : World S R} {w : Model R} {nodes : Nodes S R} {n before after : ℕ} {out : List (Envelope R)} {d : Did R Layout} {all : List (Line Applied)} → Acted join s old new w nodes old.post n before after out None d w.marks [] all →
      d.dropped ≡ None → (words : Told) (report : Report R) → IsWhole join s (after_it w n d w.marks) → report ≡ told_report words all → DoesSo join s new report w (record (did w n d) { words = words })
  did_so h none words report whole is = record { stands = acted_stands join s h whole; tells = is_told report words _ _ is refl refl (quiet_lines join s h none) h.did.ends refl; spelled = acted_spelled join s h }

  -- ---- an action

  module _ (old : World S R) (w : Model R) (n now : ℕ) (action : Action) (h : StandsFor join s old w) (is_now : now ≡ clock w n) where
    pub action_full : OverflowsAt join s old.nodes n (λ x. (acts join s layouts n now x action).did) → RoomWith join s w (acts_so join s n action w) → ⊥
    action_full over =
        node_full join s old w (acts_so join s n action w) n (λ x. (acts join s layouts n (clock w n) x action).did) h
        (subst (λ t. OverflowsAt join s old.nodes n (λ x. (acts join s layouts n t x action).did)) is_now over) (at_itself n _ w.nodes) refl

    module _ (nodes : Nodes S R) (start out : List (Envelope R)) (how : LocalEnd) (none : start ≡ []) (acts_at : ActsAt join s old.nodes nodes n start out how (λ x. acts join s layouts n now x action)) where
      done : DidAt join s nodes n w.nodes [] out None (acts join s layouts n (clock w n) (w.nodes n) action).did × (how ≡ (acts join s layouts n (clock w n) (w.nodes n) action).how)
      done =
          subst (λ t. DidAt join s nodes n w.nodes [] out None (acts join s layouts n t (w.nodes n) action).did × (how ≡ (acts join s layouts n t (w.nodes n) action).how)) is_now
          (subst (λ es. DidAt join s nodes n w.nodes es out None (acts join s layouts n now (w.nodes n) action).did × (how ≡ (acts join s layouts n now (w.nodes n) action).how)) none (acts_at w.nodes h.nodes))

      pub action_sent_full : CannotSend s (record old { nodes = nodes }) out → RoomWith join s w (acts_so join s n action w) → ⊥
      action_sent_full cannot = post_full join s (record old { nodes = nodes }) w (acts_so join s n action w) n out _ w.marks h.post done.0.posts cannot refl

      pub action_does : (laws : Laws join s) (new : World S R) (before after : ℕ) (first all : List (Line Applied)) (words : Told) (report : Report R) → before ≡ counts 0 Sync (w.nodes n).view.trackers n → IsSyncAt join s nodes n after → first ≡ [] →
          SendsOut join s (record old { nodes = nodes }) new n before after out first all → words ≡ says how → report ≡ told_report words all → DoesSo join s new report w (acts_so join s n action w)
      action_does laws new before after first all words report synced raised no_lines sends are is =
          let a = acts join s layouts n (clock w n) (w.nodes n) action in
          let it : Acted join s old new w nodes old.post n before after out None a.did w.marks [] all =
          record { stands = h; marked = h.post; did = done.0; synced = synced; raised = raised; sends = subst (λ ls. SendsOut join s (record old { nodes = nodes }) new n before after out ls all) no_lines sends } in
          let e = acts_so join s n action w in
          did_so it (acts_none join s layouts n (clock w n) (w.nodes n) action) (says a.how) report (record {
            sound = fine_stays_sound w e h.sound (fine_did w e n a.did h.sound (λ m. refl) refl (fine_acted w h.sound join s n (clock w n) action));
            stocked = acts_stocked join s laws w h.stocked n action (acted_spelled join s it);
          })
          (is ∙ ap (λ ws. told_report ws all) (are ∙ ap says done.1))

  -- ---- a view that is sent

  module _ (old : World S R) (w : Model R) (from to : ℕ) (packet : Packet R) (start out : List (Envelope R)) (h : StandsFor join s old w) (shown : told packet ≡ shows (w.nodes from).view) (none : start ≡ []) (pushed : out ≡ start ++ record { from = from; to = to; packet = packet } ∷ []) where
    abbrev shows_it : Did R Layout
    shows_it = record (quiet (w.nodes from)) { posts = record { to = to; packet = shows (w.nodes from).view } ∷ [] }

    view_shown : DidAt join s old.nodes from w.nodes [] out None shows_it
    view_shown = subst (λ es. DidAt join s old.nodes from w.nodes [] es None shows_it) (sym (pushed ∙ ap (λ es. es ++ record { from = from; to = to; packet = packet } ∷ []) none)) (record {
      nodes = subst (AreNodes join s old.nodes) (sym (still from w.nodes)) h.nodes;
      posts = ap (λ p. (from, record { to = to; packet = p }) ∷ []) shown;
      ends = refl;
      spelled = λ sized. refl;
    })

    pub gossip_full : CannotSend s old out → RoomWith join s w (does join s w (plainly (Gossip from to))) → ⊥
    gossip_full cannot = post_full join s old w (does join s w (plainly (Gossip from to))) from out shows_it.posts w.marks h.post view_shown.posts cannot refl

    pub gossip_does : (laws : Laws join s) (new : World S R) (synced : ℕ) (first all : List (Line Applied)) (report : Report R) → IsSyncAt join s old.nodes from synced → first ≡ [] →
        SendsOut join s old new from synced synced out first all → report ≡ told_report Empty all → DoesSo join s new report w (does join s w (plainly (Gossip from to)))
    gossip_does laws new synced first all report is_sync no_lines sends is =
        let it : Acted join s old new w old.nodes old.post from synced synced out None shows_it w.marks [] all =
        record { stands = h; marked = h.post; did = view_shown; synced = is_sync w.nodes h.nodes; raised = is_sync; sends = subst (λ ls. SendsOut join s old new from synced synced out ls all) no_lines sends } in
        did_so it refl Empty report (whole_after join s laws w (Gossip from to) nothing_given (whole_of h) tt tt refl) is

  -- ---- a phase

  module _ (old : World S R) (w : Model R) (n : ℕ) (phase : Phase R) (h : StandsFor join s old w) where
    abbrev begun_now : Option (Call R) → Done R
    begun_now o = begun join s layouts trio stage_trio w n phase o

    begun_full : (o : Option (Call R)) (f : Node R Layout → Did R Layout) → f (w.nodes n) ≡ begins_at s w.kept (w.nodes n) phase o → OverflowsAt join s old.nodes n f → RoomWith join s w (begun_now o) → ⊥
    begun_full None f is over = node_full join s old w (begun_now None) n f h over (ap (λ d. d.node) (sym is)) (ap (λ d. d.is_spelled) (sym is))
    begun_full (Some c) f is over = node_full join s old w (begun_now (Some c)) n f h over (at_itself n _ w.nodes ∙ ap (λ d. d.node) (sym is)) (ap (λ d. d.is_spelled) (sym is))

    module _ (nodes : Nodes S R) (out : List (Envelope R)) where
      begun_sent_full : (o : Option (Call R)) → DidAt join s nodes n w.nodes [] out None (begins_at s w.kept (w.nodes n) phase o) → CannotSend s (record old { nodes = nodes }) out → RoomWith join s w (begun_now o) → ⊥
      begun_sent_full None did cannot = post_full join s (record old { nodes = nodes }) w (begun_now None) n out [] w.marks h.post did.posts cannot refl
      begun_sent_full (Some c) did cannot = post_full join s (record old { nodes = nodes }) w (begun_now (Some c)) n out _ w.marks h.post did.posts cannot refl

      begun_does : (new : World S R) (before after : ℕ) (all : List (Line Applied)) (report : Report R) (o : Option (Call R)) → DidAt join s nodes n w.nodes [] out None (begins_at s w.kept (w.nodes n) phase o) →
          before ≡ counts 0 Sync (w.nodes n).view.trackers n → IsSyncAt join s nodes n after → SendsOut join s (record old { nodes = nodes }) new n before after out [] all → report ≡ told_report Empty all → (IsTrue (begun_now o).is_spelled → IsWhole join s (applied w (begun_now o))) →
          DoesSo join s new report w (begun_now o)
      begun_does new before after all report None done synced raised sends is whole =
          let x = w.nodes n in
          let it : Acted join s old new w nodes old.post n before after out None (quiet x) w.marks [] all = record { stands = h; marked = h.post; did = done; synced = synced; raised = raised; sends = sends } in
          let same : applied {A = Applied} {C = Cut} w (did w n (quiet x)) ≡ applied {A = Applied} {C = Cut} w (nothing w) = (λ i. record (applied {A = Applied} {C = Cut} w (nothing w)) { nodes = still n w.nodes i }) in
          record {
            stands = subst (StandsFor join s new) same (acted_stands join s it (subst (IsWhole join s) (sym same) (whole refl)));
            tells = is_told report Empty all (nothing w) is refl refl (acted_lines join s it ∙ no_sync n x) refl refl;
            spelled = refl;
          }
      begun_does new before after all report (Some c) done synced raised sends is whole =
          let it : Acted join s old new w nodes old.post n before after out None _ w.marks [] all = record { stands = h; marked = h.post; did = done; synced = synced; raised = raised; sends = sends } in
          did_so it (begins_none join s layouts w.kept (w.nodes n) c phase) Empty report (whole (acted_spelled join s it)) is

  -- a phase of an open request begins
  module _ (old : World S R) (w : Model R) (number n : ℕ) (phase : Phase R) (h : StandsFor join s old w) (found : numbered w.requests number ≡ Some (record { coordinator = n; is_open = true })) where
    abbrev call : Option (Call R)
    call = call_at (w.nodes n).calls number

    begun_is : does join s w (plainly (Begin number phase)) ≡ begun join s layouts trio stage_trio w n phase call
    begun_is = ap (beginning join s layouts trio stage_trio w number phase) found

    pub phase_full : OverflowsAt join s old.nodes n (λ x. begins_at s w.kept x phase (call_at x.calls number)) → RoomWith join s w (does join s w (plainly (Begin number phase))) → ⊥
    phase_full over room = begun_full old w n phase h call (λ x. begins_at s w.kept x phase (call_at x.calls number)) refl over (subst (RoomWith join s w) begun_is room)

    module _ (nodes : Nodes S R) (start out : List (Envelope R)) (none : start ≡ []) (begins : DoesAt join s old.nodes nodes n start out None (λ x. begins_at s w.kept x phase (call_at x.calls number))) where
      phase_done : DidAt join s nodes n w.nodes [] out None (begins_at s w.kept (w.nodes n) phase call)
      phase_done = subst (λ es. DidAt join s nodes n w.nodes es out None (begins_at s w.kept (w.nodes n) phase call)) none (begins w.nodes h.nodes)

      pub phase_sent_full : CannotSend s (record old { nodes = nodes }) out → RoomWith join s w (does join s w (plainly (Begin number phase))) → ⊥
      phase_sent_full cannot room = begun_sent_full old w n phase h nodes out call phase_done cannot (subst (RoomWith join s w) begun_is room)

      pub phase_does : (laws : Laws join s) (brings : BringsBlocks (blake2b 32) s phase) (new : World S R) (before after : ℕ) (first all : List (Line Applied)) (report : Report R) → before ≡ counts 0 Sync (w.nodes n).view.trackers n → IsSyncAt join s nodes n after → first ≡ [] →
          SendsOut join s (record old { nodes = nodes }) new n before after out first all → report ≡ told_report Empty all → DoesSo join s new report w (does join s w (plainly (Begin number phase)))
      phase_does laws brings new before after first all report synced raised no_lines sends is =
          subst (DoesSo join s new report w) (sym begun_is)
          (begun_does old w n phase h nodes out new before after all report call phase_done synced raised (subst (λ ls. SendsOut join s (record old { nodes = nodes }) new n before after out ls all) no_lines sends) is
          (λ spelled. subst (λ e. IsWhole join s (applied w e)) begun_is (whole_after join s laws w (Begin number phase) nothing_given (whole_of h) brings tt (subst (λ e. IsTrue e.is_spelled) (sym begun_is) spelled))))

  -- ---- a message that comes

  module _ (old : World S R) (w : Model R) (number : ℕ) (envelope : Envelope R) (h : StandsFor join s old w) (found : IsFound number w.messages w.marks envelope) where
    abbrev pub message : Sent R Layout
    message = record { from = envelope.from; to = envelope.to; packet = told envelope.packet; moment = found.message.moment }

    is_message : numbered w.messages number ≡ Some message
    is_message = found.is_there ∙ ap Some (λ i. record { from = sym found.is.from i; to = sym found.is.to i; packet = sym found.is.packet i; moment = found.message.moment })

    -- its rows come with their blocks
    pub stocked_found : PacketCarriesBlocks (blake2b 32) s (told envelope.packet)
    stocked_found = all_numbered (SentWithBlocks (blake2b 32) s) w.messages number message h.stocked.messages is_message

    -- a message that wasn't lost is there
    pub at_found : (f : Sent R Layout → Done R) → at_message w f (numbered w.messages number) (numbered w.marks number) ≡ f message
    at_found f = (λ i. at_message w f (is_message i) (found.is_marked i)) ∙ ap (λ b. cond b (refusal w Lost) (f message)) found.not_lost

    abbrev it_does : ℕ → Node R Layout → Did R Layout
    it_does now x = receives join s layouts envelope.to now x envelope.from (told envelope.packet)

    abbrev came : Done R
    came = received number (did w envelope.to (it_does (clock w envelope.to) (w.nodes envelope.to)))

    came_is : does join s w (plainly (Deliver number)) ≡ came
    came_is = at_found (λ sent. received number (did w sent.to (receives join s layouts sent.to (clock w sent.to) (w.nodes sent.to) sent.from sent.packet)))

    module _ (now : ℕ) (is_now : now ≡ clock w envelope.to) where
      pub came_full : OverflowsAt join s old.nodes envelope.to (it_does now) → RoomWith join s w (does join s w (plainly (Deliver number))) → ⊥
      came_full over room =
          node_full join s old w came envelope.to (it_does (clock w envelope.to)) h (subst (λ t. OverflowsAt join s old.nodes envelope.to (it_does t)) is_now over) (at_itself envelope.to _ w.nodes) refl
          (subst (RoomWith join s w) came_is room)

      module _ (nodes : Nodes S R) (post : Post R) (start out : List (Envelope R)) (given : Option (ℕ × PhaseEnd R)) (none : start ≡ []) (receives_at : DoesAt join s old.nodes nodes envelope.to start out given (it_does now))
          (delivered : IsPost s post w.messages (marked w.marks (Some (number, record { is_delivered = true; is_lost = false })))) where
        received_it : DidAt join s nodes envelope.to w.nodes [] out given (it_does (clock w envelope.to) (w.nodes envelope.to))
        received_it =
            subst (λ t. DidAt join s nodes envelope.to w.nodes [] out given (it_does t (w.nodes envelope.to))) is_now
            (subst (λ es. DidAt join s nodes envelope.to w.nodes es out given (it_does now (w.nodes envelope.to))) none (receives_at w.nodes h.nodes))

        pub came_sent_full : CannotSend s (record old { nodes = nodes; post = post }) out → RoomWith join s w (does join s w (plainly (Deliver number))) → ⊥
        came_sent_full cannot room = post_full join s (record old { nodes = nodes; post = post }) w came envelope.to out _ _ delivered received_it.posts cannot refl (subst (RoomWith join s w) came_is room)

        pub came_does : (laws : Laws join s) (new : World S R) (before after : ℕ) (empty told_got first all : List (Line Applied)) (dropped : Option (ℕ × ℕ)) (ends : List (ℕ × PhaseEnd R)) (plain : Report R) → before ≡ counts 0 Sync (w.nodes envelope.to).view.trackers envelope.to → IsSyncAt join s nodes envelope.to after →
            empty ≡ [] → told_got ≡ empty ++ Got number ∷ [] → first ≡ told_got ++ dropped_line envelope.to dropped → dropped ≡ (it_does now (w.nodes envelope.to)).dropped → SendsOut join s (record old { nodes = nodes; post = post }) new envelope.to before after out first all → map ended ends ≡ ends_of given →
            plain ≡ told_report Empty all → DoesSo join s new (record plain { ends = ends }) w (does join s w (plainly (Deliver number)))
        came_does laws new before after empty told_got first all dropped ends plain synced raised no_lines got first_is dropped_is sends ended_so is =
            let d = it_does (clock w envelope.to) (w.nodes envelope.to) in
            let it : Acted join s old new w nodes post envelope.to before after out given d (marked w.marks (Some (number, record { is_delivered = true; is_lost = false }))) (Got number ∷ dropped_line envelope.to d.dropped) all =
            record {
              stands = h;
              marked = delivered;
              did = received_it;
              synced = synced;
              raised = raised;
              sends = subst (λ ls. SendsOut join s (record old { nodes = nodes; post = post }) new envelope.to before after out ls all)
                  (first_is ∙ (λ i. (got ∙ ap (λ ls. ls ++ Got number ∷ []) no_lines) i ++ dropped_line envelope.to ((dropped_is ∙ ap (λ t. (it_does t (w.nodes envelope.to)).dropped) is_now) i))) sends;
            } in
            subst (DoesSo join s new (record plain { ends = ends }) w) (sym came_is) (record {
              stands = acted_stands join s it (subst (λ e. IsWhole join s (applied w e)) came_is (whole_after join s laws w (Deliver number) nothing_given (whole_of h) tt tt (subst (λ e. IsTrue e.is_spelled) (sym came_is) (acted_spelled join s it))));
              tells = subst (λ r. Tells (record r { ends = ends }) came) (sym is) (record { refused = refl; words = refl; lines = acted_lines join s it; ends = ended_so ∙ sym received_it.ends; lost = refl });
              spelled = acted_spelled join s it;
            })
