-- What each step of the world tells has numbers of the code, and what the world names stays so.
use Rattle.std.proofs.Common.{◌≡◌, ◌≤◌, ◌<◌, ◌+◌, ◌-◌, ◌^◌, ℕ, suc, Bool, true, false, not, ◌&&◌, ◌==◌, leb, cond, Option, Some, None, List, [], ◌∷◌, ◌++◌, length, map, refl, sym, ap, subst, arith}
use Rattle.std.specs.Prelude.{⊤, reverse}
use Rattle.std.specs.List.{AllByRecursion}
use Rattle.std.specs.Option.{unwrap_or}
use Rattle.std.proofs.lemmas.Grind.{reverse_onto}
use Rattle.crdt_core.proofs.Each.{all_append}
use Rattle.layout_roles.specs.declared.layout.Layout.{Layout}
use Rattle.layout_roles.specs.declared.cut.Cut.{Cut}
use Rattle.layout_roles.specs.declared.role.Role.{Role}
use Rattle.layout_roles.specs.declared.redundancy.Redundancy as wanted
use Rattle.layout_roles.specs.declared.redundancy.Redundancy.TheVariants.{AtLeast, Maximum}
use Rattle.layout_roles.specs.Certificates.{IsRedundancy, zones_wanted}
use Rattle.layout_trackers.specs.Trackers.{entry, counts}
use Rattle.layout_trackers.specs.declared.which.Which.TheVariants.{Sync}
use Rattle.view_model.specs.View.{newest}
use Rattle.view_model.specs.Layouts.{reading}
use Rattle.crdt_rows.specs.declared.any_row.AnyRow.{AnyRow}
use Rattle.crdt_rows.specs.AnyRow.{any_join}
use Rattle.object_schema.specs.Schema.{words}
use Rattle.quorum_model.specs.Quorum.{is_among}
use Rattle.wire_messages.specs.declared.phase.Phase.{Phase}
use Rattle.cluster_machine.specs.declared.applied.Applied.{Applied}
use Rattle.cluster_machine.specs.declared.line.Line.{Line}
use Rattle.cluster_machine.specs.declared.line.Line.TheVariants.{Synced, Ended as HasEnded}
use Rattle.cluster_machine.specs.declared.line.EndWord.TheVariants.{Restarted}
use Rattle.cluster_machine.specs.declared.step.Action.{Action}
use Rattle.cluster_machine.specs.declared.step.Action.TheVariants.{Ack as RaiseAck, Sync as GoOn, SyncAck as RaiseSyncAck, Clean as CleanUp, Work as WorkOff, Repair as Mend, Collect as Gather}
use Rattle.cluster_machine.specs.declared.step.Step.{Step}
use Rattle.cluster_machine.specs.declared.step.Step.TheVariants as step
use Rattle.cluster_machine.specs.declared.step.Refusal.{Refusal}
use Rattle.cluster_machine.specs.declared.step.Refusal.TheVariants.{VersionTaken, VersionLimit, NotMember, NoSuchBucket, NoSuchMessage, Lost, NoSuchRequest, AlreadyEnded, TooFewNodes, TooFewZones, NoAssignment}
use Rattle.cluster_machine.specs.declared.step.Words.{Words as Answer}
use Rattle.cluster_machine.specs.declared.step.Words.TheVariants.{Empty}
use Rattle.cluster_machine.specs.Layouts.{layouts, has_none}
use Rattle.cluster_machine.specs.Node.{Call, Node, shows, Post, Did, quiet}
use Rattle.cluster_machine.specs.Phases.{call_at, begins, opened, closed}
use Rattle.cluster_machine.specs.Acts.{Acted, acts, appends, restarts}
use Rattle.cluster_machine.specs.World.{Sent, Mark, Request, numbered, clock, is_member_at}
use Rattle.cluster_machine.specs.Choices.{Decision, IsComputed, IsRefused, IsNone}
use Rattle.cluster_machine.specs.Step.{most_versions, given, none_given, nothing, refusal, sent_by, sent_from, sync_line, dropped_line, told, did, received, at_message, expires, closing, restarted, chosen, applies_at, trio_applies, acting, begun, beginning, opening, effects, applied, shut, shut_one, only, requests_of}
use Rattle.cluster_machine.specs.Trio.{trio, stage_trio}
use Rattle.cluster_machine.specs.Worlds.{Done as Effect, newest_at, IsLawfulStep}
use Rattle.machine_origins.proofs.Lists.{all_numbered}
use Rattle.machine_origins.proofs.Places.{numbered_within}
use Rattle.machine_limits.specs.Steps.{HasPlace}
use Rattle.machine_limits.proofs.Lists.{all_set}
use Rattle.store_model.specs.Run.{World}
use Rattle.audit_model.specs.Lines.{IsNumber, AreBelow, answer_numbers, told_numbers, IsInRange}
use Rattle.audit_laws.specs.Told.{saids_of, told_of}
use Rattle.audit_accounts.proofs.Nodes.{NodeNamed, node_wider, ViewNamed, PacketNamed, PostNamed, MarkNamed, MarksNamed, DidNamed, IsLow, receives_named, acts_named, begins_named}

-- what a line says is in its ranges, but for the lines of a layout
abbrev pub LineFits : Line Applied → Type 0
LineFits l = AllByRecursion IsInRange (saids_of l)

abbrev pub LinesFit : List (Line Applied) → Type 0
LinesFit ls = AllByRecursion LineFits ls

-- what an event tells of its answer is
abbrev pub AnswerFits : Option (Refusal Cut) → Answer → Type 0
AnswerFits r answer = AreBelow (told_numbers (told_of r answer))

abbrev pub SentNamed : Sent AnyRow Layout → Type 0
SentNamed x = IsNumber x.from × IsNumber x.to × PacketNamed x.packet

abbrev pub RequestNamed : Request → Type 0
RequestNamed r = IsNumber r.coordinator

-- the nodes and versions that a world names are numbers of the code, and its redundancy is one; each node has so many blocks at most
pub record WorldNamed (k : ℕ) (w : World) : Type 0 where
  pub nodes : (n : ℕ) → NodeNamed k (w.nodes n)
  pub messages : AllByRecursion SentNamed w.messages
  pub requests : AllByRecursion RequestNamed w.requests
  pub wanted : IsRedundancy w.redundancy

-- what else is known of it
pub record IsSmall (w : World) : Type 0 where
  pub views : (n : ℕ) → ViewNamed (w.nodes n).view
  pub marks : (n : ℕ) → MarksNamed (w.nodes n)
  pub most : ℕ
  pub top : most < 2 ^ 64
  pub items : (n : ℕ) → length (w.nodes n).items ≤ most
  pub requests : suc (length w.requests) < 2 ^ 64
  pub calls : (n : ℕ) → AllByRecursion (λ (c : Call AnyRow). c.request ≤ length w.requests) (w.nodes n).calls
  pub begun : (n : ℕ) → (w.nodes n).gc.begun ≤ length w.messages

-- a step names nodes and messages that are numbers of the code
abbrev pub StepNamed : Step AnyRow → Type 0
StepNamed (step.Redundancy r) = IsRedundancy r
StepNamed (step.Deliver m) = IsNumber m
StepNamed (step.Gossip from to) = IsNumber from × IsNumber to
StepNamed (step.Ack n) = IsNumber n
StepNamed (step.Sync n) = IsNumber n
StepNamed (step.SyncAck n) = IsNumber n
StepNamed (step.Clean n) = IsNumber n
StepNamed (step.Work n) = IsNumber n
StepNamed (step.Repair n) = IsNumber n
StepNamed (step.Collect n) = IsNumber n
StepNamed (step.Open n) = IsNumber n
StepNamed _ = ⊤

-- what a step does
pub record EffectNamed (m : ℕ) (w : World) (e : Effect AnyRow) : Type 0 where
  pub nodes : (n : ℕ) → NodeNamed m (unwrap_or (e.nodes n) (w.nodes n))
  pub sends : AllByRecursion SentNamed e.sends
  pub opens : AllByRecursion RequestNamed e.opens
  pub wanted : IsRedundancy e.redundancy
  pub answer : length w.messages + length e.sends < 2 ^ 64 → AnswerFits e.refused e.words
  pub lines : length w.messages + length e.sends < 2 ^ 64 → LinesFit e.tells

or_low : (o : Option ℕ) → IsLow o → unwrap_or o 0 < 2 ^ 64
or_low None h = omega arith
or_low (Some v) h = omega arith

at_most_three : (r : wanted.Redundancy) (roles : List Role) → IsRedundancy r → zones_wanted r roles ≤ 3
at_most_three (AtLeast r) roles h = h.1
at_most_three Maximum roles h = omega arith

refused_fits : (roles : List Role) (r : wanted.Redundancy) (cause : Refusal Cut) → IsRedundancy r → IsRefused roles r cause → AnswerFits (Some cause) Empty
refused_fits roles r (TooFewNodes nodes) w h = let low = h.1 in (omega arith, tt)
refused_fits roles r (TooFewZones zones z) w h = let three = at_most_three r roles w in let is = h.2 in let low = h.3 in (omega arith, (omega arith, tt))
refused_fits roles r (NoAssignment cut) w h = let low = h.1.light in (omega arith, tt)
refused_fits roles r (VersionTaken v) w h = absurd h
refused_fits roles r VersionLimit w h = absurd h
refused_fits roles r NotMember w h = absurd h
refused_fits roles r NoSuchBucket w h = absurd h
refused_fits roles r NoSuchMessage w h = absurd h
refused_fits roles r Lost w h = absurd h
refused_fits roles r NoSuchRequest w h = absurd h
refused_fits roles r AlreadyEnded w h = absurd h

module _ (k most : ℕ) (grows : k ≤ most) (high : most < 2 ^ 64) (w : World) (named : WorldNamed k w) (small : IsSmall w) where
  abbrev Named : Effect AnyRow → Type 0
  Named e = EffectNamed most w e

  nodes_now : (n : ℕ) → NodeNamed most (w.nodes n)
  nodes_now n = node_wider k most (w.nodes n) grows (named.nodes n)

  one_named : (n : ℕ) (x : Node AnyRow Layout) → NodeNamed most x → (m : ℕ) → NodeNamed most (unwrap_or (only n x m) (w.nodes m))
  one_named n x h m = elim (m == n) as (λ b. NodeNamed most (unwrap_or (cond b (Some x) None) (w.nodes m))) [ true ↦ h | false ↦ nodes_now m ]

  -- nodes change, and nothing is told
  silent : (e : Effect AnyRow) → ((n : ℕ) → NodeNamed most (unwrap_or (e.nodes n) (w.nodes n))) → e.sends ≡ [] → AllByRecursion RequestNamed e.opens → IsRedundancy e.redundancy → AnswerFits e.refused e.words → LinesFit e.tells → Named e
  silent e nodes sends opens wanted answer lines = record { nodes = nodes; sends = subst (AllByRecursion SentNamed) (sym sends) tt; opens = opens; wanted = wanted; answer = λ few. answer; lines = λ few. lines }

  refusal_named : (r : Refusal Cut) → AnswerFits (Some r) Empty → Named (refusal w r)
  refusal_named r h = silent (refusal w r) nodes_now refl tt named.wanted h tt

  nothing_named : Named (nothing w)
  nothing_named = silent (nothing w) nodes_now refl tt named.wanted tt tt

  by_test : (b : Bool) (d e : Effect AnyRow) → (b ≡ true → Named d) → (b ≡ false → Named e) → Named (cond b d e)
  by_test true d e h k = h refl
  by_test false d e h k = k refl

  -- ---- what a node does

  sent_named : (n : ℕ) (posts : List (Post AnyRow Layout)) → IsNumber n → AllByRecursion PostNamed posts → AllByRecursion SentNamed (sent_by w n posts)
  sent_named n [] h k = tt
  sent_named n (p ∷ posts) h k = ((h, k.0.0, k.0.1), sent_named n posts h k.1)

  sent_length : (n : ℕ) (posts : List (Post AnyRow Layout)) → length (sent_by w n posts) ≡ length posts
  sent_length n [] = refl
  sent_length n (p ∷ posts) = ap suc (sent_length n posts)

  sent_lines : (m : ℕ) (ss : List (Sent AnyRow Layout)) → m + length ss ≤ 2 ^ 64 → AllByRecursion SentNamed ss → LinesFit (sent_from m ss)
  sent_lines m [] few h = tt
  sent_lines m (s ∷ ss) few h = (((omega (arith, few), (h.0.0, (h.0.1, tt))), tt), sent_lines (suc m) ss (omega (arith, few)) h.1)

  synced_lines : (b : Bool) (n after : ℕ) → IsNumber n → IsNumber after → LinesFit (cond b [] (Synced n after ∷ []))
  synced_lines true n after h k = tt
  synced_lines false n after h k = (((h, (k, tt)), tt), tt)

  dropped_lines : (n : ℕ) (o : Option (ℕ × ℕ)) → IsNumber n → MarkNamed o → LinesFit (dropped_line n o)
  dropped_lines n None h m = tt
  dropped_lines n (Some version) h m = (((h, (m.0, (m.1, tt))), tt), tt)

  did_named : (n : ℕ) (d : Did AnyRow Layout) → IsNumber n → DidNamed most d → Named (did w n d)
  did_named n d number h =
      let sends : List (Sent AnyRow Layout) = sent_by w n d.posts in
      let sent = sent_named n d.posts number h.posts in
      record {
        nodes = one_named n d.node h.node;
        sends = sent;
        opens = tt;
        wanted = named.wanted;
        answer = λ few. tt;
        lines = λ few.
            let first : List (Line Applied) = sent_from (suc (length w.messages)) sends in
            let last : List (Line Applied) = sync_line n (w.nodes n).view d.node.view in
            all_append LineFits (dropped_line n d.dropped) (first ++ last) (dropped_lines n d.dropped number h.dropped)
            (all_append LineFits first last (sent_lines (suc (length w.messages)) sends (omega (arith, few)) sent)
            (synced_lines _ n (counts 0 Sync d.node.view.trackers n) number (or_low (entry Sync n d.node.view.trackers) (h.node.entries Sync n))));
      }

  received_named : (m : ℕ) (e : Effect AnyRow) → IsNumber m → Named e → Named (received m e)
  received_named m e number h = record { nodes = h.nodes; sends = h.sends; opens = h.opens; wanted = h.wanted; answer = h.answer; lines = λ few. ((number, tt), h.lines few) }

  worded_named : (e : Effect AnyRow) (answer : Answer) → e.refused ≡ None → (length w.messages + length e.sends < 2 ^ 64 → AreBelow (answer_numbers answer)) → Named e → Named (record e { words = answer })
  worded_named e answer none fits h = record { nodes = h.nodes; sends = h.sends; opens = h.opens; wanted = h.wanted; answer = λ few. subst (λ r. AnswerFits r answer) (sym none) (fits few); lines = h.lines }

  message_named : (f : Sent AnyRow Layout → Effect AnyRow) (o : Option (Sent AnyRow Layout)) (mark : Option Mark) → ((x : Sent AnyRow Layout) → o ≡ Some x → Named (f x)) → Named (at_message w f o mark)
  message_named f None mark h = refusal_named NoSuchMessage tt
  message_named f (Some x) None h = refusal_named NoSuchMessage tt
  message_named f (Some x) (Some mark) h = by_test mark.is_lost (refusal w Lost) (f x) (λ e. refusal_named Lost tt) (λ e. h x refl)

  acting_named : (n : ℕ) (b : Bool) (action : Action) → IsNumber n → Named (acting any_join words layouts trio stage_trio w n b (acts any_join words layouts n (clock w n) (w.nodes n) action))
  acting_named n b action number =
      let a : Acted AnyRow Layout = acts any_join words layouts n (clock w n) (w.nodes n) action in
      let h = acts_named most n (w.nodes n) (nodes_now n) (small.views n) (small.marks n) (clock w n) small.most small.top high (small.items n) action in
      let begun = small.begun n in
      let same : length (sent_by w n a.did.posts) ≡ length a.did.posts = sent_length n a.did.posts in
      by_test b (refusal w NotMember) _ (λ e. refusal_named NotMember tt) (λ e. worded_named (did w n a.did) (told a.how) refl (λ few. h.1 (omega (arith, begun, same, few))) (did_named n a.did number h.0))

  -- ---- layouts

  appended_named : (n : ℕ) (l : Layout) → NodeNamed most (appends layouts (w.nodes n) l)
  appended_named n l = let h = nodes_now n in record { blocks = h.blocks; entries = h.entries; round = h.round; mending = h.mending; lasting = h.lasting; few_open = h.few_open }

  trio_named : Named (trio_applies any_join words layouts trio stage_trio w)
  trio_named =
      silent (trio_applies any_join words layouts trio stage_trio w)
      (λ n. elim (is_among n (reading.members trio)) as (λ b. NodeNamed most (unwrap_or (cond b (Some (appends layouts (w.nodes n) trio)) None) (w.nodes n))) [ true ↦ appended_named n trio | false ↦ nodes_now n ])
      refl tt named.wanted tt tt

  version_small : (n : ℕ) → suc (newest_at w n) < 2 ^ 32
  version_small n = let low = (small.views n).newest in omega arith

  chosen_named : (n new : ℕ) (choice : Decision) → new < 2 ^ 32 → IsComputed w.roles w.redundancy new choice → Named (chosen any_join words layouts trio stage_trio w n new choice)
  chosen_named n new (none_given r) low h = refusal_named r (refused_fits w.roles w.redundancy r named.wanted h)
  chosen_named n new (given l shown) low h = silent _ (one_named n (appends layouts (w.nodes n) l) (appended_named n l)) refl tt named.wanted (omega (arith, low), tt) (tt, tt)

  computed : (a b c : Bool) (choice : Decision) (IsSo IsNot : Type 0) → cond (not a && (not b && not c)) IsSo IsNot → a ≡ false → b ≡ false → c ≡ false → IsSo
  computed true b c choice IsSo IsNot h x y z = cc
  computed false true c choice IsSo IsNot h x y z = cc
  computed false false true choice IsSo IsNot h x y z = cc
  computed false false false choice IsSo IsNot h x y z = h

  applies_named : (n : ℕ) (choice : Decision) → IsLawfulStep w (step.Apply n) choice → Named (applies_at any_join words layouts trio stage_trio w n choice)
  applies_named n choice lawful =
      let new : ℕ = suc (newest_at w n) in
      let low = version_small n in
      by_test (leb 1 w.applied && not (is_member_at layouts w n)) (refusal w NotMember) _ (λ e. refusal_named NotMember tt)
      (λ a. by_test (leb new w.applied) (refusal w (VersionTaken new)) _ (λ e. refusal_named (VersionTaken new) (low, tt))
      (λ b. by_test (leb most_versions w.applied) (refusal w VersionLimit) _ (λ e. refusal_named VersionLimit tt)
      (λ c. chosen_named n new choice low (computed (leb 1 w.applied && not (is_member_at layouts w n)) (leb new w.applied) (leb most_versions w.applied) choice (IsComputed w.roles w.redundancy new choice) (IsNone choice) lawful a b c))))

  -- ---- requests

  closed_named : (n q : ℕ) → NodeNamed most (closed q (w.nodes n))
  closed_named n q = let h = nodes_now n in record { blocks = h.blocks; entries = h.entries; round = h.round; mending = h.mending; lasting = h.lasting; few_open = h.few_open }

  expires_named : (q : ℕ) (o : Option Request) → numbered w.requests q ≡ o → Named (expires {A = Applied} {C = Cut} w q o)
  expires_named q None is = refusal_named NoSuchRequest tt
  expires_named q (Some r) is =
      let within = numbered_within w.requests q r is in
      let few = small.requests in
      by_test r.is_open _ (refusal w AlreadyEnded) (λ e. silent _ (one_named r.coordinator (closed q (w.nodes r.coordinator)) (closed_named r.coordinator q)) refl tt named.wanted tt ((omega (arith, within, few), tt), tt))
      (λ e. refusal_named AlreadyEnded tt)

  closing_named : (q : ℕ) (o : Option Request) → Named (closing {A = Applied} {C = Cut} w q o)
  closing_named q None = nothing_named
  closing_named q (Some r) = by_test r.is_open _ (nothing w) (λ e. silent _ (one_named r.coordinator (closed q (w.nodes r.coordinator)) (closed_named r.coordinator q)) refl tt named.wanted tt tt) (λ e. nothing_named)

  ended_lines : (qs : List ℕ) → AllByRecursion IsNumber qs → LinesFit (map (λ q. HasEnded q Restarted) qs)
  ended_lines [] h = tt
  ended_lines (q ∷ qs) h = ((h.0, tt), ended_lines qs h.1)

  calls_small : (cs : List (Call AnyRow)) → AllByRecursion (λ (c : Call AnyRow). c.request ≤ length w.requests) cs → AllByRecursion IsNumber (requests_of cs)
  calls_small [] h = tt
  calls_small (c ∷ cs) h = let few = small.requests in (omega (arith, h.0, few), calls_small cs h.1)

  turned_all : (P : ℕ → Type 0) (qs : List ℕ) → AllByRecursion P qs → AllByRecursion P (reverse qs)
  turned_all P [] h = tt
  turned_all P (q ∷ qs) h = subst (AllByRecursion P) (sym (reverse_onto qs q [])) (all_append P (reverse qs) (q ∷ []) (turned_all P qs h.1) (h.0, tt))

  restarted_named : (n : ℕ) → Named (restarted {A = Applied} {C = Cut} w n)
  restarted_named n =
      let h = nodes_now n in
      silent _ (one_named n (restarts (w.nodes n)) (record { blocks = h.blocks; entries = h.entries; round = tt; mending = tt; lasting = tt; few_open = omega arith })) refl tt named.wanted tt
      (ended_lines (reverse (requests_of (w.nodes n).calls)) (turned_all IsNumber (requests_of (w.nodes n).calls) (calls_small (w.nodes n).calls (small.calls n))))

  opening_named : (n : ℕ) → IsNumber n → Named (opening {A = Applied} {C = Cut} any_join words layouts trio stage_trio w n)
  opening_named n number =
      let h = nodes_now n in
      let few = small.requests in
      by_test (is_member_at layouts w n) _ (refusal w NotMember)
      (λ e. silent _ (one_named n (opened (suc (length w.requests)) (newest reading (w.nodes n).view) (w.nodes n)) (record { blocks = h.blocks; entries = h.entries; round = h.round; mending = h.mending; lasting = h.lasting; few_open = h.few_open })) refl (number, tt) named.wanted (few, tt) tt)
      (λ e. refusal_named NotMember tt)

  begun_named : (n : ℕ) (phase : Phase AnyRow) (o : Option (Call AnyRow)) → IsNumber n → Named (begun {A = Applied} {C = Cut} any_join words layouts trio stage_trio w n phase o)
  begun_named n phase None number = nothing_named
  begun_named n phase (Some c) number = did_named n (begins words layouts w.kept (w.nodes n) c phase) number (begins_named most n (w.nodes n) (nodes_now n) (small.views n) (small.marks n) w.kept c phase)

  beginning_named : (q : ℕ) (phase : Phase AnyRow) (o : Option Request) → numbered w.requests q ≡ o → Named (beginning {A = Applied} {C = Cut} any_join words layouts trio stage_trio w q phase o)
  beginning_named q phase None is = nothing_named
  beginning_named q phase (Some r) is = by_test r.is_open _ (nothing w) (λ e. begun_named r.coordinator phase (call_at (w.nodes r.coordinator).calls q) (all_numbered RequestNamed w.requests q r named.requests is)) (λ e. nothing_named)

  -- ---- steps

  pub step_named : (st : Step AnyRow) (choice : Decision) → StepNamed st → HasPlace words k most w st → IsLawfulStep w st choice → Named (effects any_join words layouts trio stage_trio w st choice)
  step_named step.Trio choice h place lawful = by_test (leb 1 w.applied) (refusal w (VersionTaken 1)) _ (λ e. refusal_named (VersionTaken 1) (omega arith, tt)) (λ e. trio_named)
  step_named (step.Role n role) choice h place lawful = silent _ nodes_now refl tt named.wanted tt tt
  step_named (step.Redundancy r) choice h place lawful = silent _ nodes_now refl tt h tt tt
  step_named (step.Apply n) choice h place lawful = applies_named n choice lawful
  step_named (step.Tick ms) choice h place lawful = silent _ nodes_now refl tt named.wanted tt tt
  step_named (step.Skew n ms) choice h place lawful = silent _ nodes_now refl tt named.wanted tt tt
  step_named (step.Deliver m) choice h place lawful =
      message_named _ (numbered w.messages m) (numbered w.marks m)
      (λ x e.
      let is = all_numbered SentNamed w.messages m x named.messages e in
      received_named m _ h (did_named x.to _ is.1 (receives_named most x.to (w.nodes x.to) (nodes_now x.to) (small.views x.to) (small.marks x.to) (clock w x.to) x.from x.packet is.0 is.2 (λ b f. let more = place x e b f in let few = (named.nodes x.to).blocks in omega (arith, more, few)))))
  step_named (step.Lose m) choice h place lawful = message_named _ (numbered w.messages m) (numbered w.marks m) (λ x e. silent _ nodes_now refl tt named.wanted tt tt)
  step_named (step.Expire q) choice h place lawful = expires_named q (numbered w.requests q) refl
  step_named (step.Restart n) choice h place lawful = restarted_named n
  step_named (step.Gossip from to) choice h place lawful = did_named from (record (quiet (w.nodes from)) { posts = record { to = to; packet = shows (w.nodes from).view } ∷ [] }) h.0 (record { node = nodes_now from; posts = ((h.1, (nodes_now from).entries), tt); dropped = tt })
  step_named (step.Ack n) choice h place lawful = acting_named n (has_none layouts (w.nodes n).view) RaiseAck h
  step_named (step.Sync n) choice h place lawful = acting_named n (has_none layouts (w.nodes n).view) GoOn h
  step_named (step.SyncAck n) choice h place lawful = acting_named n (has_none layouts (w.nodes n).view) RaiseSyncAck h
  step_named (step.Clean n) choice h place lawful = acting_named n (has_none layouts (w.nodes n).view) CleanUp h
  step_named (step.Work n) choice h place lawful = acting_named n (has_none layouts (w.nodes n).view) WorkOff h
  step_named (step.Repair n) choice h place lawful = acting_named n (not (is_member_at layouts w n)) Mend h
  step_named (step.Collect n) choice h place lawful = acting_named n (has_none layouts (w.nodes n).view) Gather h
  step_named (step.Open n) choice h place lawful = opening_named n h
  step_named (step.Phase q phase) choice h place lawful = beginning_named q phase (numbered w.requests q) refl
  step_named (step.Close q) choice h place lawful = closing_named q (numbered w.requests q)

  -- ---- the world after it

  shut_one_named : (requests : List Request) (q : ℕ) (o : Option Request) → numbered requests q ≡ o → AllByRecursion RequestNamed requests → AllByRecursion RequestNamed (shut_one requests q o)
  shut_one_named requests q None is h = h
  shut_one_named requests q (Some r) is h = all_set RequestNamed requests (q - 1) (record r { is_open = false }) h (all_numbered RequestNamed requests q r h is)

  shut_named : (requests : List Request) (qs : List ℕ) → AllByRecursion RequestNamed requests → AllByRecursion RequestNamed (shut requests qs)
  shut_named requests [] h = h
  shut_named requests (q ∷ qs) h = shut_named (shut_one requests q (numbered requests q)) qs (shut_one_named requests q (numbered requests q) refl h)

  pub next_named : (e : Effect AnyRow) → Named e → WorldNamed most (applied w e)
  next_named e h = record {
    nodes = h.nodes;
    messages = all_append SentNamed w.messages e.sends named.messages h.sends;
    requests = all_append RequestNamed (shut w.requests e.closes) e.opens (shut_named w.requests e.closes named.requests) h.opens;
    wanted = h.wanted;
  }
