-- A change is a run: what its steps leave as it is, and that they keep what every step keeps.
use Rattle.std.specs.Prelude.{◌≡◌, ℕ, suc, ◌+◌, Bool, true, false, cond, not, ◌&&◌, leb, Option, Some, None, List, [], ◌∷◌, ◌++◌, refl}
use Rattle.std.specs.List.{AllByRecursion}
use Rattle.std.proofs.Common.{ap, sym, subst, ◌∙◌, inr, arith}
use Rattle.std.proofs.lemmas.List.{append-nil}
use Rattle.layout_roles.specs.declared.role.Role.{Role}
use Rattle.table_schema.specs.Words.{Words}
use Rattle.table_schema.specs.Laws.{Laws}
use Rattle.view_model.specs.View.{newest}
use Rattle.cluster_machine.specs.declared.step.Step.{Step}
use Rattle.cluster_machine.specs.declared.step.Step.TheVariants.{Apply, Deliver, Gossip, Ack, Sync, SyncAck, Clean}
use Rattle.cluster_machine.specs.declared.step.Action.{Action}
use Rattle.cluster_machine.specs.declared.step.Action.TheVariants.{Ack as RaiseAck, Sync as GoOn, SyncAck as RaiseSyncAck, Clean as CleanUp}
use Rattle.cluster_machine.specs.declared.step.Refusal.{Refusal}
use Rattle.cluster_machine.specs.declared.step.Refusal.TheVariants.{NotMember, VersionTaken, VersionLimit, NoSuchMessage, Lost}
use Rattle.cluster_machine.specs.Hashes.{RunHashes}
use Rattle.cluster_machine.specs.Layouts.{Layouts, has_none}
use Rattle.cluster_machine.specs.Blocks.{StepBringsBlocks, AllStocked}
use Rattle.cluster_machine.specs.Receives.{receives}
use Rattle.cluster_machine.specs.World.{Sent, Mark, World, numbered, clock, is_member_at, forget_delivered}
use Rattle.cluster_machine.specs.Step.{Choice, given, none_given, Effects, most_versions, refusal, received, at_message, did, chosen, local, effects, skewed, shut, applied}
use Rattle.cluster_machine.specs.Run.{Move, next, run}
use Rattle.block_laws.proofs.Steps.{next_world}
use Rattle.change_model.specs.Steps.{to_one, from_one, gossips, each}
use Rattle.change_laws.specs.Script.{IsOfChange, IsFresh, AreFresh, AreSpelled, Spreads, after_each, Changes, RoundHashes, spread_moves, moves_of}
use Rattle.crdt_core.proofs.Each.{all_append}
use Rattle.change_laws.proofs.Clear.{hashes_first, hashes_then}

module _ {R L : Type 0} (A C : Type 0) (join : R → R → R) (s : Words R) (k : Layouts L) (trio : L) (trio_roles : List Role → List Role) where
  abbrev M : Type 0
  M = Move R L A C

  abbrev after : World R L → List M → World R L
  after w ms = run {A = A} {C = C} join s k trio trio_roles w ms

  -- ---- runs in parts

  pub run_append : (a b : List M) (w : World R L) → after w (a ++ b) ≡ after (after w a) b
  run_append [] b w = refl
  run_append (m ∷ ms) b w = run_append ms b (next join s k trio trio_roles w m)

  append_append : (a b c : List M) → (a ++ b) ++ c ≡ a ++ (b ++ c)
  append_append [] b c = refl
  append_append (m ∷ ms) b c = ap (λ rest. m ∷ rest) (append_append ms b c)

  pub spelled_parts : (a b : List M) (w : World R L) → AreSpelled A C join s k trio trio_roles w (a ++ b) → AreSpelled A C join s k trio trio_roles w a × AreSpelled A C join s k trio trio_roles (after w a) b
  spelled_parts [] b w h = (tt, h)
  spelled_parts (m ∷ ms) b w h = let rest = spelled_parts ms b (next join s k trio trio_roles w m) h.1 in ((h.0, rest.0), rest.1)

  spelled_at : (v w : World R L) (ms : List M) → w ≡ v → AreSpelled A C join s k trio trio_roles w ms → AreSpelled A C join s k trio trio_roles v ms
  spelled_at v w ms e h = subst (λ u. AreSpelled A C join s k trio trio_roles u ms) e h

  abbrev OfChange : List M → Type 0
  OfChange ms = AllByRecursion (λ (m : M). IsOfChange m.step) ms

  fresh_of : (step : Step R) (w : World R L) → IsFresh w step → IsOfChange step
  fresh_of (Deliver m) w h = tt
  fresh_of _ w h = elim h [ ]

  deliveries_of : (ms : List M) (w : World R L) → AreFresh A C join s k trio trio_roles w ms → OfChange ms
  deliveries_of [] w h = tt
  deliveries_of (m ∷ ms) w h = (fresh_of m.step w h.0, deliveries_of ms (next join s k trio trio_roles w m) h.1)

  gossips_of : (choice : Choice L A C) (pairs : List (ℕ × ℕ)) → OfChange (gossips choice pairs)
  gossips_of choice [] = tt
  gossips_of choice (p ∷ ps) = (tt, gossips_of choice ps)

  each_of : (choice : Choice L A C) (does : ℕ → Step R) → ((n : ℕ) → IsOfChange (does n)) → (ns : List ℕ) → OfChange (each choice does ns)
  each_of choice does h [] = tt
  each_of choice does h (n ∷ ns) = (h n, each_of choice does h ns)

  abbrev both : (a b : List M) → OfChange a → OfChange b → OfChange (a ++ b)
  both a b g h = all_append (λ (m : M). IsOfChange m.step) a b g h

  module _ (choice : Choice L A C) (m : ℕ) (nodes : List ℕ) where
    spread_of : (w new : World R L) (is : Spreads A C join s k trio trio_roles choice m nodes w new) → OfChange (spread_moves A C join s k trio trio_roles choice m nodes w new is)
    spread_of w new is =
        both _ _ (gossips_of choice (to_one m nodes)) (both _ _ (deliveries_of is.first.deliveries _ is.first.fresh_ones) (both _ _ (gossips_of choice (from_one m nodes)) (deliveries_of is.second.deliveries _ is.second.fresh_ones)))

    pub spread_run : (w new : World R L) (is : Spreads A C join s k trio trio_roles choice m nodes w new) → after w (spread_moves A C join s k trio trio_roles choice m nodes w new is) ≡ new
    spread_run w new is =
        let g = gossips choice (to_one m nodes) in
        let h = gossips choice (from_one m nodes) in
        run_append g (is.first.deliveries ++ (h ++ is.second.deliveries)) w
        ∙ (run_append is.first.deliveries (h ++ is.second.deliveries) (after w g)
        ∙ (ap (λ u. after u (h ++ is.second.deliveries)) (sym is.first.leads)
        ∙ (run_append h is.second.deliveries is.between ∙ sym is.second.leads)))

    module _ (l : L) (shown : A) (w new : World R L) (is : Changes A C join s k trio trio_roles choice l shown m nodes w new) where
      abbrev applied_so : M
      applied_so = record { step = Apply m; choice = given l shown }

      abbrev w1 : World R L
      w1 = next join s k trio trio_roles w applied_so

      abbrev tell : List M
      tell = gossips choice (from_one m nodes)

      abbrev rest5 : List M
      rest5 = spread_moves A C join s k trio trio_roles choice m nodes (after_each A C join s k trio trio_roles choice SyncAck nodes is.synced) is.known is.knows ++ each choice Clean nodes

      abbrev rest4 : List M
      rest4 = spread_moves A C join s k trio trio_roles choice m nodes is.moved is.synced is.syncs ++ (each choice SyncAck nodes ++ rest5)

      abbrev rest3 : List M
      rest3 = each choice Sync nodes ++ (is.moves.deliveries ++ rest4)

      abbrev rest2 : List M
      rest2 = each choice Ack nodes ++ (spread_moves A C join s k trio trio_roles choice m nodes (after_each A C join s k trio trio_roles choice Ack nodes is.told) is.acked is.acks ++ rest3)

      -- up to where all know that all have acknowledged
      to_acked : after w1 (tell ++ (is.tells.deliveries ++ rest2)) ≡ after is.acked rest3
      to_acked =
          let a = each choice Ack nodes in
          let sp = spread_moves A C join s k trio trio_roles choice m nodes (after_each A C join s k trio trio_roles choice Ack nodes is.told) is.acked is.acks in
          run_append tell (is.tells.deliveries ++ rest2) w1
          ∙ (run_append is.tells.deliveries rest2 (after w1 tell)
          ∙ (ap (λ u. after u rest2) (sym is.tells.leads)
          ∙ (run_append a (sp ++ rest3) is.told
          ∙ (run_append sp rest3 (after is.told a) ∙ ap (λ u. after u rest3) (spread_run _ is.acked is.acks)))))

      from_acked : after is.acked rest3 ≡ after_each A C join s k trio trio_roles choice Clean nodes is.known
      from_acked =
          let a = each choice Sync nodes in
          let b = each choice SyncAck nodes in
          let first = spread_moves A C join s k trio trio_roles choice m nodes is.moved is.synced is.syncs in
          let second = spread_moves A C join s k trio trio_roles choice m nodes (after_each A C join s k trio trio_roles choice SyncAck nodes is.synced) is.known is.knows in
          run_append a (is.moves.deliveries ++ rest4) is.acked
          ∙ (run_append is.moves.deliveries rest4 (after is.acked a)
          ∙ (ap (λ u. after u rest4) (sym is.moves.leads)
          ∙ (run_append first (b ++ rest5) is.moved
          ∙ (ap (λ u. after u (b ++ rest5)) (spread_run is.moved is.synced is.syncs)
          ∙ (run_append b rest5 is.synced
          ∙ (run_append second (each choice Clean nodes) (after is.synced b) ∙ ap (λ u. after u (each choice Clean nodes)) (spread_run _ is.known is.knows)))))))

      -- the change is the run of its steps
      pub run_so : after w (moves_of A C join s k trio trio_roles choice l shown m nodes w new is) ≡ after_each A C join s k trio trio_roles choice Clean nodes is.known
      run_so = to_acked ∙ from_acked

      pub all_of_change : OfChange (moves_of A C join s k trio trio_roles choice l shown m nodes w new is)
      all_of_change = (
        tt,
        both _ _ (gossips_of choice (from_one m nodes)) (both _ _ (deliveries_of is.tells.deliveries _ is.tells.fresh_ones)
            (both _ _ (each_of choice Ack (λ n. tt) nodes) (both _ _ (spread_of _ is.acked is.acks)
            (both _ _ (each_of choice Sync (λ n. tt) nodes) (both _ _ (deliveries_of is.moves.deliveries _ is.moves.fresh_ones) (both _ _ (spread_of is.moved is.synced is.syncs)
            (both _ _ (each_of choice SyncAck (λ n. tt) nodes) (both _ _ (spread_of _ is.known is.knows) (each_of choice Clean (λ n. tt) nodes))))))))),
      )

      -- where its steps send rows that have a spelling, so do the rounds
      pub rounds_spelled : AreSpelled A C join s k trio trio_roles w (moves_of A C join s k trio trio_roles choice l shown m nodes w new is) → AreSpelled A C join s k trio trio_roles is.acked (each choice Sync nodes)
      rounds_spelled h =
          let a = each choice Ack nodes in
          let sp = spread_moves A C join s k trio trio_roles choice m nodes (after_each A C join s k trio trio_roles choice Ack nodes is.told) is.acked is.acks in
          let one = (spelled_parts tell (is.tells.deliveries ++ rest2) w1 h.1).1 in
          let two = spelled_at is.told (after (after w1 tell) is.tells.deliveries) rest2 (sym is.tells.leads) (spelled_parts is.tells.deliveries rest2 (after w1 tell) one).1 in
          let three = (spelled_parts a (sp ++ rest3) is.told two).1 in
          let four = spelled_at is.acked (after (after is.told a) sp) rest3 (spread_run _ is.acked is.acks) (spelled_parts sp rest3 (after is.told a) three).1 in
          (spelled_parts (each choice Sync nodes) (is.moves.deliveries ++ rest4) is.acked four).0

      -- what is hashed for the walks of the rounds the run of the steps hashes
      pub rounds_hash : (y : List ℕ) → RoundHashes A C join s k trio trio_roles choice l shown m nodes w new is y → RunHashes s join k trio trio_roles w (moves_of A C join s k trio trio_roles choice l shown m nodes w new is) y
      rounds_hash y h =
          let a = each choice Ack nodes in
          let sp = spread_moves A C join s k trio trio_roles choice m nodes (after_each A C join s k trio trio_roles choice Ack nodes is.told) is.acked is.acks in
          let syncs = each choice Sync nodes in
          let whole : RunHashes s join k trio trio_roles is.acked rest3 y =
          subst (λ ms. RunHashes s join k trio trio_roles is.acked ms y) (append_append syncs is.moves.deliveries rest4) (hashes_first A C join s k trio trio_roles is.acked (syncs ++ is.moves.deliveries) rest4 y h) in
          let four = subst (λ u. RunHashes s join k trio trio_roles u rest3 y) (sym (spread_run _ is.acked is.acks)) whole in
          let three = hashes_then A C join s k trio trio_roles (after is.told a) sp rest3 y four in
          let two = hashes_then A C join s k trio trio_roles is.told a (sp ++ rest3) y three in
          let one = subst (λ u. RunHashes s join k trio trio_roles u rest2 y) is.tells.leads two in
          inr (hashes_then A C join s k trio trio_roles w1 tell (is.tells.deliveries ++ rest2) y (hashes_then A C join s k trio trio_roles (after w1 tell) is.tells.deliveries rest2 y one))

  -- ---- what the steps leave

  -- no time passes, no clock is set, and no request begins or ends
  pub record IsStill (e : Effects R L A C) : Type 0 where
    pub passes : e.passes ≡ 0
    pub skews : e.skews ≡ None
    pub opens : e.opens ≡ []
    pub closes : e.closes ≡ []

  still_refusal : (w : World R L) (r : Refusal C) → IsStill (refusal w r)
  still_refusal w r = record { passes = refl; skews = refl; opens = refl; closes = refl }

  still_by : (b : Bool) (d e : Effects R L A C) → IsStill d → IsStill e → IsStill (cond b d e)
  still_by true d e g h = g
  still_by false d e g h = h

  still_chosen : (w : World R L) (n at : ℕ) (choice : Choice L A C) → IsStill (chosen join s k trio trio_roles w n at choice)
  still_chosen w n at (given l shown) = record { passes = refl; skews = refl; opens = refl; closes = refl }
  still_chosen w n at (none_given r) = still_refusal w r

  still_local : (w : World R L) (n : ℕ) (a : Action) → IsStill (local join s k trio trio_roles w n a)
  still_local w n a = still_by (has_none k (w.nodes n).view) (refusal w NotMember) _ (still_refusal w NotMember) (record { passes = refl; skews = refl; opens = refl; closes = refl })

  still_message : (w : World R L) (f : Sent R L → Effects R L A C) → ((x : Sent R L) → IsStill (f x)) → (o : Option (Sent R L)) (mark : Option Mark) → IsStill (at_message w f o mark)
  still_message w f h None mark = still_refusal w NoSuchMessage
  still_message w f h (Some x) None = still_refusal w NoSuchMessage
  still_message w f h (Some x) (Some mark) = still_by mark.is_lost (refusal w Lost) (f x) (still_refusal w Lost) (h x)

  pub still : (w : World R L) (step : Step R) (choice : Choice L A C) → IsOfChange step → IsStill (effects join s k trio trio_roles w step choice)
  still w (Apply n) choice h =
      let at = suc (newest k.reading (w.nodes n).view) in
      still_by (leb 1 w.applied && not (is_member_at k w n)) (refusal w NotMember) _ (still_refusal w NotMember)
      (still_by (leb at w.applied) (refusal w (VersionTaken at)) _ (still_refusal w (VersionTaken at))
      (still_by (leb most_versions w.applied) (refusal w VersionLimit) _ (still_refusal w VersionLimit) (still_chosen w n at choice)))
  still w (Deliver m) choice h =
      still_message w (λ sent. received m (did w sent.to (receives join s k sent.to (clock w sent.to) (w.nodes sent.to) sent.from sent.packet)))
      (λ x. record { passes = refl; skews = refl; opens = refl; closes = refl }) (numbered w.messages m) (numbered w.marks m)
  still w (Gossip from to) choice h = record { passes = refl; skews = refl; opens = refl; closes = refl }
  still w (Ack n) choice h = still_local w n RaiseAck
  still w (Sync n) choice h = still_local w n GoOn
  still w (SyncAck n) choice h = still_local w n RaiseSyncAck
  still w (Clean n) choice h = still_local w n CleanUp
  still w _ choice h = elim h [ ]

  -- two worlds at the same time, with the same clocks and requests
  pub record SameTime (w v : World R L) : Type 0 where
    pub time : v.time ≡ w.time
    pub skews : (n : ℕ) → v.skew_of n ≡ w.skew_of n
    pub requests : v.requests ≡ w.requests

  still_world : (w : World R L) (e : Effects R L A C) → IsStill e → SameTime w (applied w e)
  still_world w e h = record {
    time = ap (λ p. w.time + p) h.passes ∙ omega arith;
    skews = λ n. ap (λ o. skewed o w.skew_of n) h.skews;
    requests = ap (λ os. shut w.requests e.closes ++ os) h.opens ∙ (append-nil (shut w.requests e.closes) ∙ ap (shut w.requests) h.closes);
  }

  pub same_time : (ms : List M) (w : World R L) → OfChange ms → SameTime w (after w ms)
  same_time [] w h = record { time = refl; skews = λ n. refl; requests = refl }
  same_time (m ∷ ms) w h =
      let one = still_world w (effects join s k trio trio_roles w m.step m.choice) (still w m.step m.choice h.0) in
      let rest = same_time ms (next join s k trio trio_roles w m) h.1 in
      record { time = rest.time ∙ one.time; skews = λ n. rest.skews n ∙ one.skews n; requests = rest.requests ∙ one.requests }

  -- ---- blocks

  module _ (digest : List ℕ → List ℕ) (laws : Laws join s) where
    brings : (step : Step R) → IsOfChange step → StepBringsBlocks digest s step
    brings (Apply n) h = tt
    brings (Deliver m) h = tt
    brings (Gossip from to) h = tt
    brings (Ack n) h = tt
    brings (Sync n) h = tt
    brings (SyncAck n) h = tt
    brings (Clean n) h = tt
    brings _ h = elim h [ ]

    -- nodes have the blocks that their rows need
    pub stocked_run : (ms : List M) (w : World R L) → OfChange ms → AreSpelled A C join s k trio trio_roles w ms → AllStocked digest s join w → AllStocked digest s join (after w ms)
    stocked_run [] w h spelled is = is
    stocked_run (m ∷ ms) w h spelled is = stocked_run ms (next join s k trio trio_roles w m) h.1 spelled.1 (next_world digest laws k trio trio_roles w m is (brings m.step h.0) spelled.0)

  -- ---- the whole change

  module _ (choice : Choice L A C) (m : ℕ) (nodes : List ℕ) (l : L) (shown : A) (w new : World R L) (is : Changes A C join s k trio trio_roles choice l shown m nodes w new) where
    abbrev steps : List M
    steps = moves_of A C join s k trio trio_roles choice l shown m nodes w new is

    pub change_leads : new ≡ forget_delivered (after w steps)
    change_leads = is.leads ∙ ap forget_delivered (sym (run_so choice m nodes l shown w new is))

    pub change_time : (new.time ≡ w.time) × ((n : ℕ) → new.skew_of n ≡ w.skew_of n) × (new.requests ≡ w.requests)
    change_time =
        let t = same_time steps w (all_of_change choice m nodes l shown w new is) in
        subst (λ (u : World R L). (u.time ≡ w.time) × ((n : ℕ) → u.skew_of n ≡ w.skew_of n) × (u.requests ≡ w.requests)) (sym change_leads) (t.time, t.skews, t.requests)

    pub change_hashes : (y : List ℕ) → RoundHashes A C join s k trio trio_roles choice l shown m nodes w new is y → RunHashes s join k trio trio_roles w steps y
    change_hashes = rounds_hash choice m nodes l shown w new is

    pub change_stocked : (digest : List ℕ → List ℕ) → Laws join s → AreSpelled A C join s k trio trio_roles w steps → AllStocked digest s join w → AllStocked digest s join new
    change_stocked digest laws spelled stocked =
        let there = stocked_run digest laws steps w (all_of_change choice m nodes l shown w new is) spelled stocked in
        subst (λ (u : World R L). AllStocked digest s join u) (sym change_leads) (record { nodes = there.nodes; messages = there.messages })
