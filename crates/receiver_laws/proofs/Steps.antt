-- Each step leaves a world that names places alone.
use Rattle.std.proofs.Common.{◌≡◌, ℕ, suc, ◌-◌, Bool, true, false, not, ◌&&◌, ◌==◌, leb, nat_lt, cond, Option, Some, None, List, [], ◌∷◌, refl, sym, subst}
use Rattle.std.specs.Prelude.{zero, length, slice_set}
use Rattle.std.specs.List.{AllByRecursion}
use Rattle.std.specs.Option.{unwrap_or}
use Rattle.crdt_core.proofs.Each.{all_append}
use Rattle.layout_roles.specs.declared.role.Role.{Role}
use Rattle.layout_roles.specs.declared.role.Zone.{Zone}
use Rattle.layout_roles.specs.declared.role.Kind.{Kind}
use Rattle.view_model.specs.View.{newest}
use Rattle.table_schema.specs.Words.{Words}
use Rattle.quorum_model.specs.Quorum.{is_among}
use Rattle.wire_messages.specs.declared.phase.Phase.{Phase}
use Rattle.cluster_machine.specs.declared.step.Action.{Action}
use Rattle.cluster_machine.specs.declared.step.Action.TheVariants.{Ack as RaiseAck, Sync as GoOn, SyncAck as RaiseSyncAck, Clean as CleanUp, Work as WorkOff, Repair as Mend, Collect as Gather}
use Rattle.cluster_machine.specs.declared.step.Step.{Step}
use Rattle.cluster_machine.specs.declared.step.Step.TheVariants as step
use Rattle.cluster_machine.specs.declared.step.Refusal.{Refusal}
use Rattle.cluster_machine.specs.declared.step.Refusal.TheVariants.{VersionTaken, VersionLimit, NotMember, NoSuchMessage, Lost, NoSuchRequest, AlreadyEnded}
use Rattle.cluster_machine.specs.Layouts.{Layouts, has_none}
use Rattle.cluster_machine.specs.Node.{Call, Node, shows, Post, Did, quiet}
use Rattle.cluster_machine.specs.Phases.{call_at, begins, opened, closed}
use Rattle.cluster_machine.specs.Collects.{all_nodes}
use Rattle.cluster_machine.specs.Receives.{receives}
use Rattle.cluster_machine.specs.Acts.{acts, appends, restarts}
use Rattle.cluster_machine.specs.World.{Sent, Mark, Request, World, numbered, clock, is_member_at, new_role, staged}
use Rattle.cluster_machine.specs.Step.{Choice, given, none_given, Effects, most_versions, nothing, refusal, only, sent_by, did, received, at_message, expires, closing, restarted, chosen, applies_at, trio_applies, acting, begun, beginning, opening, effects, applied, shut, shut_one}
use Rattle.machine_origins.proofs.Lists.{all_numbered}
use Rattle.receiver_laws.specs.Places.{StepNames, RolesName, LayoutNames, ChoiceNames, NodeNames, PostNames, SentNames, WorldNames}
use Rattle.receiver_laws.proofs.Hearing.{received_places}
use Rattle.receiver_laws.proofs.Acting.{acted_places, begins_places}

-- ---- staged roles

module _ (IsPlace : ℕ → Type 0) where
  new_role_places : (n : ℕ) (role : Option (Zone × Kind)) (roles : List Role) → IsPlace n → RolesName IsPlace roles → RolesName IsPlace (new_role n role roles)
  new_role_places n None roles h k = k
  new_role_places n (Some role) roles h k = (h, k)

  pub staged_places : (n : ℕ) (role : Option (Zone × Kind)) (roles : List Role) → IsPlace n → RolesName IsPlace roles → RolesName IsPlace (staged n role roles)
  staged_places n role [] h k = new_role_places n role [] h k
  staged_places n role (r ∷ roles) h k =
      elim (r.node == n) as (λ b. RolesName IsPlace (cond b (new_role n role roles) (cond (nat_lt n r.node) (new_role n role (r ∷ roles)) (r ∷ staged n role roles)))) [
        | true ↦ new_role_places n role roles h k.1
        | false ↦ (elim (nat_lt n r.node) as (λ b. RolesName IsPlace (cond b (new_role n role (r ∷ roles)) (r ∷ staged n role roles))) [ true ↦ new_role_places n role (r ∷ roles) h k | false ↦ (k.0, staged_places n role roles h k.1) ])
      ]

  abbrev RequestNames : Request → Type 0
  RequestNames r = IsPlace r.coordinator

  set_requests : (rs : List Request) (i : ℕ) (r : Request) → RequestNames r → AllByRecursion RequestNames rs → AllByRecursion RequestNames (slice_set rs i r)
  set_requests [] i r h k = tt
  set_requests (q ∷ rs) zero r h k = (h, k.1)
  set_requests (q ∷ rs) (suc i) r h k = (k.0, set_requests rs i r h k.1)

  shut_one_places : (requests : List Request) (q : ℕ) (o : Option Request) → numbered requests q ≡ o → AllByRecursion RequestNames requests → AllByRecursion RequestNames (shut_one requests q o)
  shut_one_places requests q None is h = h
  shut_one_places requests q (Some r) is h = set_requests requests (q - 1) (record r { is_open = false }) (all_numbered RequestNames requests q r h is) h

  pub shut_places : (requests : List Request) (qs : List ℕ) → AllByRecursion RequestNames requests → AllByRecursion RequestNames (shut requests qs)
  shut_places requests [] h = h
  shut_places requests (q ∷ qs) h = shut_places (shut_one requests q (numbered requests q)) qs (shut_one_places requests q (numbered requests q) refl h)

-- ---- nodes and messages

module _ {R L : Type 0} (k : Layouts L) (IsPlace : ℕ → Type 0) (w : World R L) (h : WorldNames IsPlace k w) where
  pub one_node : (n : ℕ) (x : Node R L) → NodeNames IsPlace k x → (m : ℕ) → NodeNames IsPlace k (unwrap_or (only n x m) (w.nodes m))
  one_node n x i m = elim (m == n) as (λ b. NodeNames IsPlace k (unwrap_or (cond b (Some x) None) (w.nodes m))) [ true ↦ i | false ↦ h.nodes m ]

  sent_places : (n : ℕ) (posts : List (Post R L)) → IsPlace n → AllByRecursion (PostNames IsPlace k) posts → AllByRecursion (SentNames IsPlace k) (sent_by w n posts)
  sent_places n [] place i = tt
  sent_places n (p ∷ posts) place i = (record { from = place; to = i.0.to; packet = i.0.packet }, sent_places n posts place i.1)

  appended_places : (n : ℕ) (l : L) → LayoutNames IsPlace k l → NodeNames IsPlace k (appends k (w.nodes n) l)
  appended_places n l places = let i = h.nodes n in record { layouts = all_append (LayoutNames IsPlace k) (w.nodes n).view.layouts (l ∷ []) i.layouts (places, tt); round = i.round; mending = i.mending; lasting = i.lasting }

-- ---- what a step does

module _ {R L A C : Type 0} (k : Layouts L) (IsPlace : ℕ → Type 0) where
  -- the nodes that change, what is sent, the requests that open and the staged roles
  pub record EffectNames (w : World R L) (e : Effects R L A C) : Type 0 where
    pub nodes : (n : ℕ) → NodeNames IsPlace k (unwrap_or (e.nodes n) (w.nodes n))
    pub sends : AllByRecursion (SentNames IsPlace k) e.sends
    pub opens : AllByRecursion (RequestNames IsPlace) e.opens
    pub roles : RolesName IsPlace e.roles

  pub applied_places : (w : World R L) (e : Effects R L A C) → WorldNames IsPlace k w → EffectNames w e → WorldNames IsPlace k (applied w e)
  applied_places w e h i = record {
    nodes = i.nodes;
    messages = all_append (SentNames IsPlace k) w.messages e.sends h.messages i.sends;
    requests = all_append (RequestNames IsPlace) (shut w.requests e.closes) e.opens (shut_places IsPlace w.requests e.closes h.requests) i.opens;
    roles = i.roles;
  }

  module _ (w : World R L) (h : WorldNames IsPlace k w) where
    abbrev Places : Effects R L A C → Type 0
    Places e = EffectNames w e

    by_test : (b : Bool) (d e : Effects R L A C) → Places d → Places e → Places (cond b d e)
    by_test true d e i j = i
    by_test false d e i j = j

    -- no node changes, and nothing is sent
    still_places : (e : Effects R L A C) → ((n : ℕ) → e.nodes n ≡ None) → e.sends ≡ [] → e.opens ≡ [] → e.roles ≡ w.roles → Places e
    still_places e still sends opens roles = record {
      nodes = λ n. subst (λ o. NodeNames IsPlace k (unwrap_or o (w.nodes n))) (sym (still n)) (h.nodes n);
      sends = subst (AllByRecursion (SentNames IsPlace k)) (sym sends) tt;
      opens = subst (AllByRecursion (RequestNames IsPlace)) (sym opens) tt;
      roles = subst (RolesName IsPlace) (sym roles) h.roles;
    }

    refusal_places : (r : Refusal C) → Places (refusal w r)
    refusal_places r = still_places (refusal w r) (λ n. refl) refl refl refl

    nothing_places : Places (nothing w)
    nothing_places = still_places (nothing w) (λ n. refl) refl refl refl

    did_places : (n : ℕ) (d : Did R L) → IsPlace n → NodeNames IsPlace k d.node × AllByRecursion (PostNames IsPlace k) d.posts → Places (did w n d)
    did_places n d place i = record { nodes = one_node k IsPlace w h n d.node i.0; sends = sent_places k IsPlace w h n d.posts place i.1; opens = tt; roles = h.roles }

    message_places : (f : Sent R L → Effects R L A C) (o : Option (Sent R L)) (mark : Option Mark) → ((x : Sent R L) → o ≡ Some x → Places (f x)) → Places (at_message w f o mark)
    message_places f None mark i = refusal_places NoSuchMessage
    message_places f (Some x) None i = refusal_places NoSuchMessage
    message_places f (Some x) (Some mark) i = by_test mark.is_lost (refusal w Lost) (f x) (refusal_places Lost) (i x refl)

    -- one node is as it was, but for its requests
    closed_places : (n q : ℕ) (e : Effects R L A C) → ((m : ℕ) → e.nodes m ≡ only n (closed q (w.nodes n)) m) → e.sends ≡ [] → e.opens ≡ [] → e.roles ≡ w.roles → Places e
    closed_places n q e one sends opens roles = let i = h.nodes n in record {
      nodes = λ m. subst (λ o. NodeNames IsPlace k (unwrap_or o (w.nodes m))) (sym (one m)) (one_node k IsPlace w h n (closed q (w.nodes n)) (record { layouts = i.layouts; round = i.round; mending = i.mending; lasting = i.lasting }) m);
      sends = subst (AllByRecursion (SentNames IsPlace k)) (sym sends) tt;
      opens = subst (AllByRecursion (RequestNames IsPlace)) (sym opens) tt;
      roles = subst (RolesName IsPlace) (sym roles) h.roles;
    }

    expires_places : (q : ℕ) (o : Option Request) → Places (expires w q o)
    expires_places q None = refusal_places NoSuchRequest
    expires_places q (Some r) = by_test r.is_open _ (refusal w AlreadyEnded) (closed_places r.coordinator q _ (λ m. refl) refl refl refl) (refusal_places AlreadyEnded)

    closing_places : (q : ℕ) (o : Option Request) → Places (closing w q o)
    closing_places q None = nothing_places
    closing_places q (Some r) = by_test r.is_open _ (nothing w) (closed_places r.coordinator q _ (λ m. refl) refl refl refl) nothing_places

    restarted_places : (n : ℕ) → Places (restarted w n)
    restarted_places n = let i = h.nodes n in record {
      nodes = one_node k IsPlace w h n (restarts (w.nodes n)) (record { layouts = i.layouts; round = tt; mending = tt; lasting = tt });
      sends = tt;
      opens = tt;
      roles = h.roles;
    }

module _ {R L A C : Type 0} (join : R → R → R) (s : Words R) (k : Layouts L) (trio : L) (trio_roles : List Role → List Role) (IsPlace : ℕ → Type 0) (all : AllByRecursion IsPlace all_nodes) (first : LayoutNames IsPlace k trio) (staging : (roles : List Role) → RolesName IsPlace roles → RolesName IsPlace (trio_roles roles)) (w : World R L) (h : WorldNames IsPlace k w) where
  abbrev Does : Effects R L A C → Type 0
  Does e = EffectNames k IsPlace w e

  either : (b : Bool) (d e : Effects R L A C) → Does d → Does e → Does (cond b d e)
  either b d e i j = by_test k IsPlace w h b d e i j

  refuses : (r : Refusal C) → Does (refusal w r)
  refuses r = refusal_places k IsPlace w h r

  trio_places : Does (trio_applies join s k trio trio_roles w)
  trio_places = record {
    nodes = λ n. elim (is_among n (k.reading.members trio)) as (λ b. NodeNames IsPlace k (unwrap_or (cond b (Some (appends k (w.nodes n) trio)) None) (w.nodes n))) [ true ↦ appended_places k IsPlace w h n trio first | false ↦ h.nodes n ];
    sends = tt;
    opens = tt;
    roles = staging w.roles h.roles;
  }

  chosen_places : (n new : ℕ) (choice : Choice L A C) → ChoiceNames IsPlace k choice → Does (chosen join s k trio trio_roles w n new choice)
  chosen_places n new (none_given r) places = refuses r
  chosen_places n new (given l shown) places = record { nodes = one_node k IsPlace w h n (appends k (w.nodes n) l) (appended_places k IsPlace w h n l places); sends = tt; opens = tt; roles = h.roles }

  applies_places : (n : ℕ) (choice : Choice L A C) → ChoiceNames IsPlace k choice → Does (applies_at join s k trio trio_roles w n choice)
  applies_places n choice places =
      let new : ℕ = suc (newest k.reading (w.nodes n).view) in
      either (leb 1 w.applied && not (is_member_at k w n)) (refusal w NotMember) _ (refuses NotMember)
      (either (leb new w.applied) (refusal w (VersionTaken new)) _ (refuses (VersionTaken new))
      (either (leb most_versions w.applied) (refusal w VersionLimit) _ (refuses VersionLimit) (chosen_places n new choice places)))

  acting_places : (n : ℕ) (b : Bool) (action : Action) → IsPlace n → Does (acting join s k trio trio_roles w n b (acts join s k n (clock w n) (w.nodes n) action))
  acting_places n b action place =
      let i = did_places {A = A} {C = C} k IsPlace w h n (acts join s k n (clock w n) (w.nodes n) action).did place (acted_places join s k IsPlace all n (w.nodes n) (h.nodes n) (clock w n) action) in
      either b (refusal w NotMember) _ (refuses NotMember) (record { nodes = i.nodes; sends = i.sends; opens = i.opens; roles = i.roles })

  opening_places : (n : ℕ) → IsPlace n → Does (opening join s k trio trio_roles w n)
  opening_places n place =
      let i = h.nodes n in
      either (is_member_at k w n) _ (refusal w NotMember)
      (record { nodes = one_node k IsPlace w h n (opened (suc (length w.requests)) (newest k.reading (w.nodes n).view) (w.nodes n)) (record { layouts = i.layouts; round = i.round; mending = i.mending; lasting = i.lasting }); sends = tt; opens = (place, tt); roles = h.roles })
      (refuses NotMember)

  begun_places : (n : ℕ) (phase : Phase R) (o : Option (Call R)) → IsPlace n → Does (begun join s k trio trio_roles w n phase o)
  begun_places n phase None place = nothing_places k IsPlace w h
  begun_places n phase (Some c) place = did_places k IsPlace w h n (begins s k w.kept (w.nodes n) c phase) place (begins_places s k IsPlace w.kept (w.nodes n) (h.nodes n) c phase)

  beginning_places : (q : ℕ) (phase : Phase R) (o : Option Request) → numbered w.requests q ≡ o → Does (beginning join s k trio trio_roles w q phase o)
  beginning_places q phase None is = nothing_places k IsPlace w h
  beginning_places q phase (Some r) is =
      either r.is_open _ (nothing w) (begun_places r.coordinator phase (call_at (w.nodes r.coordinator).calls q) (all_numbered (RequestNames IsPlace) w.requests q r h.requests is)) (nothing_places k IsPlace w h)

  delivered_places : (m : ℕ) (x : Sent R L) → numbered w.messages m ≡ Some x → Does (received m (did w x.to (receives join s k x.to (clock w x.to) (w.nodes x.to) x.from x.packet)))
  delivered_places m x is =
      let sent = all_numbered (SentNames IsPlace k) w.messages m x h.messages is in
      let i = did_places {A = A} {C = C} k IsPlace w h x.to (receives join s k x.to (clock w x.to) (w.nodes x.to) x.from x.packet) sent.to (received_places join s k IsPlace all x.to (w.nodes x.to) (h.nodes x.to) (clock w x.to) x.from x.packet sent.from sent.packet) in
      record { nodes = i.nodes; sends = i.sends; opens = i.opens; roles = i.roles }

  pub step_places : (st : Step R) (choice : Choice L A C) → StepNames IsPlace st → ChoiceNames IsPlace k choice → Does (effects join s k trio trio_roles w st choice)
  step_places step.Trio choice i places = either (leb 1 w.applied) (refusal w (VersionTaken 1)) _ (refuses (VersionTaken 1)) trio_places
  step_places (step.Role n role) choice i places = record { nodes = h.nodes; sends = tt; opens = tt; roles = staged_places IsPlace n role w.roles i h.roles }
  step_places (step.Redundancy r) choice i places = still_places k IsPlace w h _ (λ n. refl) refl refl refl
  step_places (step.Apply n) choice i places = applies_places n choice places
  step_places (step.Tick ms) choice i places = still_places k IsPlace w h _ (λ n. refl) refl refl refl
  step_places (step.Skew n ms) choice i places = still_places k IsPlace w h _ (λ n. refl) refl refl refl
  step_places (step.Deliver m) choice i places = message_places k IsPlace w h _ (numbered w.messages m) (numbered w.marks m) (λ x e. delivered_places m x e)
  step_places (step.Lose m) choice i places = message_places k IsPlace w h _ (numbered w.messages m) (numbered w.marks m) (λ x e. still_places k IsPlace w h _ (λ n. refl) refl refl refl)
  step_places (step.Expire q) choice i places = expires_places k IsPlace w h q (numbered w.requests q)
  step_places (step.Restart n) choice i places = restarted_places k IsPlace w h n
  step_places (step.Gossip from to) choice i places =
      did_places k IsPlace w h from (record (quiet (w.nodes from)) { posts = record { to = to; packet = shows (w.nodes from).view } ∷ [] }) i.0 (h.nodes from, (record { to = i.1; packet = (h.nodes from).layouts }, tt))
  step_places (step.Ack n) choice i places = acting_places n (has_none k (w.nodes n).view) RaiseAck i
  step_places (step.Sync n) choice i places = acting_places n (has_none k (w.nodes n).view) GoOn i
  step_places (step.SyncAck n) choice i places = acting_places n (has_none k (w.nodes n).view) RaiseSyncAck i
  step_places (step.Clean n) choice i places = acting_places n (has_none k (w.nodes n).view) CleanUp i
  step_places (step.Work n) choice i places = acting_places n (has_none k (w.nodes n).view) WorkOff i
  step_places (step.Repair n) choice i places = acting_places n (not (is_member_at k w n)) Mend i
  step_places (step.Collect n) choice i places = acting_places n (has_none k (w.nodes n).view) Gather i
  step_places (step.Open n) choice i places = opening_places n i
  step_places (step.Phase q phase) choice i places = beginning_places q phase (numbered w.requests q) refl
  step_places (step.Close q) choice i places = closing_places k IsPlace w h q (numbered w.requests q)
