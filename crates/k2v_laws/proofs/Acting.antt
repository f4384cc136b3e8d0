-- What a request does whose phase ended keeps a state sound.
use Rattle.std.specs.Prelude.{◌≡◌, ◌≤◌, ◌<◌, ℕ, true, false, cond, Option, Some, None, List, [], ◌∷◌, length, refl}
use Rattle.std.specs.Option.{unwrap_or}
use Rattle.std.specs.List.{AllByRecursion, Contains}
use Rattle.std.proofs.Common.{ap, sym, subst, ◌∙◌, inl, inr, arith}
use Rattle.std.proofs.lemmas.List.Elements.{All-nil, All-cons}
use Rattle.crdt_core.specs.Order.{AtMost}
use Rattle.wire_messages.specs.declared.phase.PhaseEnd.{PhaseEnd}
use Rattle.wire_messages.specs.declared.phase.PhaseEnd.TheVariants.{Row as Answered, Window, Kept, Block}
use Rattle.wire_messages.specs.declared.phase.Phase.{Phase}
use Rattle.wire_messages.specs.declared.phase.Phase.TheVariants.{Store}
use Rattle.cluster_machine.specs.declared.step.Step.TheVariants as step
use Rattle.cluster_machine.specs.Layouts.{layouts}
use Rattle.cluster_machine.specs.Trio.{trio, stage_trio}
use Rattle.cluster_machine.specs.Hashes.{NoClash}
use Rattle.cluster_machine.specs.Kept.{IsOver}
use Rattle.table_model.specs.Rows.{row_at}
use Rattle.cluster_machine.specs.Node.{Question, Present, resting, asking, scanning, storing as keeping, fetching, read, Ended}
use Rattle.cluster_machine.specs.World.{numbered}
use Rattle.cluster_machine.specs.Worlds.{Done as Effect, IsLawfulRun}
use Rattle.machine_origins.specs.Following.{Began}
use Rattle.machine_origins.specs.Origins.{Gave}
use Rattle.k2v_rows.specs.declared.value.K2vValue.{K2vValue}
use Rattle.k2v_rows.specs.declared.k2v_row.K2vRow.{K2vRow}
use Rattle.k2v_rows.specs.Token.{TimeMap}
use Rattle.k2v_rows.specs.Row.{ItemKey, item_key, row_join, discard_at, value_of, time_at, can_put, after_put}
use Rattle.k2v_rows.proofs.Facts.{put_discard_at}
use Rattle.k2v_schema.specs.Schema.{words}
use Rattle.k2v_model.specs.declared.order.Item.{Item}
use Rattle.k2v_model.specs.declared.order.Ask.{Ask}
use Rattle.k2v_model.specs.declared.order.Ask.TheVariants.{Write, Read}
use Rattle.k2v_model.specs.declared.order.Order.{Order}
use Rattle.k2v_model.specs.declared.line.ItemLine.{ItemLine}
use Rattle.k2v_model.specs.declared.line.ItemLine.TheVariants.{WriteDone, ReadDone}
use Rattle.k2v_model.specs.Orders.{key_of, empty_row}
use Rattle.k2v_model.specs.Run.{Moving, ItemRequest, Stage, reading, storing, stored, shown, over, is_open, State, Outcome, token_at, plainly, effect, doing, phases, set_stage, silent, stores, finishes, writes, values_told, is_deletion, reads_on, follows, follow, goes_on}
use Rattle.k2v_model.specs.Owed.{IsWrite, HasRead}
use Rattle.machine_origins.proofs.Begun.{IsBegun, begun_step}
use Rattle.machine_origins.proofs.Calm.{IsCalm, IsCalmStep, calm_step}
use Rattle.k2v_laws.proofs.Every.{EveryWorld, reached_kept, reached_good, reached_different}
use Rattle.k2v_laws.proofs.Good.{one_entry, write_value, write_token, never_write, storing_row, never_reading, IsLive, Knows, IsGood, none_at_zero, knows_right, IsToken, own, put_good}
use Rattle.k2v_laws.proofs.Grown.{IsAfter, Grows, live_before, good_later, read_later}
use Rattle.k2v_laws.proofs.Hashing.{HashesIn, FitIn}
use Rattle.k2v_laws.proofs.Later.{read_token, token_same, stored_before, row_later}
use Rattle.machine_origins.proofs.Places.{numbered_within}
use Rattle.k2v_laws.proofs.Placing.{empty_proper, row_is_of, key_is_of, stores_is_step, stores_is_meant, kept_under}
use Rattle.k2v_laws.proofs.Sound.{IsGoodRow, StoresGood, BeganAt, Asks, Fits, IsPresent, IsTokenOf, IsRowOf, IsStage, IsEntry, Passed, IsSound}
use Rattle.k2v_laws.proofs.Steps.{step_sound, HasEnded, Rests, calm_presents, fits_closed, set_at, set_grows, set_sound}

-- the row of an item without writes is good
empty_good : (H : List ℕ → Type 0) (requests : List ItemRequest) (i : Item) (b : ℕ) → IsGood H requests (key_of i) b (empty_row i)
empty_good H requests i b = record {
  proper = empty_proper i;
  key_is = refl;
  values = λ m t v h. cc;
  discards = λ m. inl refl;
  whole = λ clear m t q v h lt w live. cc;
  covered = λ clear m q le w live. none_at_zero requests (key_of i) m (subst (λ (k : ℕ). IsWrite requests k (key_of i) m) (omega (arith, le)) w);
}

module _ {H : List ℕ → Type 0} (every : EveryWorld) where
  pub is_calm : (s : State) (m : Moving) → IsCalmStep m.step → IsSound H s → IsCalm s.world (effect s m)
  is_calm s m calm sound = calm_step row_join words layouts trio stage_trio s.world (reached_different every s.requests s.world sound.reached) m.step m.choice calm

  -- a calm step keeps a state sound
  pub calm_sound : (s : State) (m : Moving) → IsCalm s.world (effect s m) → IsLawfulRun row_join words s.world (m ∷ []) → HashesIn H s.world m → StoresGood H s.requests m → IsSound H s → IsSound H (doing s m)
  calm_sound s m calm lawful hashes good sound = step_sound s m sound lawful hashes good (record { opens = calm.opens; presents = calm_presents s m sound calm })

  -- a phase begins
  pub phase_sound : (s : State) (q : ℕ) (phase : Phase K2vRow) → ((n : ℕ) (p : Present K2vRow) → BeganAt s.requests n q → Began s.world.kept phase p → Fits s.requests q p) →
      IsLawfulRun row_join words s.world (phases q phase ∷ []) → HashesIn H s.world (phases q phase) → StoresGood H s.requests (phases q phase) → IsSound H s → IsSound H (doing s (phases q phase))
  phase_sound s q phase fits lawful hashes good sound =
      let e : Effect K2vRow = effect s (phases q phase) in
      let b : IsBegun s.world q phase e = begun_step s.world q phase row_join words layouts trio stage_trio (reached_different every s.requests s.world sound.reached) (numbered s.world.requests q) in
      step_sound s (phases q phase) sound lawful hashes good (record {
        opens = b.opens;
        presents = λ n c h. elim (b.calls n c h) [
          | inl old ↦ sound.presents n c old
          | inr new ↦
              let began : BeganAt s.requests n q = subst (BeganAt s.requests n) new.was_its (sound.presents n new.was new.was_there).began in
              subst (λ k. IsPresent s.requests n k c.present) (sym new.request) (record { began = began; fits = fits n c.present began new.began })
        ];
      })

  -- a request finishes
  finishes_sound : (s : State) (q : ℕ) (a : ItemRequest) (at : numbered s.requests q ≡ Some a) (stage : Stage) (line : ItemLine) (opened_now : is_open a.stage ≡ true) (after : IsAfter a.stage stage) → is_open stage ≡ false →
      IsStage H (set_stage s.requests q a stage) s.world.kept q (record a { stage = stage }) stage → FitIn H s.world (finishes s q a stage line).moves → IsSound H s → IsSound H (finishes s q a stage line).state
  finishes_sound s q a at stage line opened_now after closed is_stage fits sound =
      let here : State = record s { requests = set_stage s.requests q a stage } in
      let m : Moving = plainly (step.Close q) in
      let now : IsSound H here = set_sound s q a at stage opened_now after sound is_stage (λ n c h is. fits_closed here.requests q (record a { stage = stage }) (set_at s q a at stage opened_now after) closed c.present) in
      calm_sound here m (is_calm here m tt now) (tt, tt, tt, fits.0.1, tt) fits.0.2 (All-nil _) now

  module _ (s : State) (q : ℕ) (a : ItemRequest) (at : numbered s.requests q ≡ Some a) (is_reading : a.stage ≡ reading) (sound : IsSound H s)
      (given : Option K2vRow) (question : Question K2vRow) (there : Contains s.world.reads (read question given)) (asks : Asks s.requests a question) where
    abbrev item : Item
    item = a.order.item

    abbrev key : ItemKey
    key = key_of item

    -- a row that was given is a good row of the item
    given_good : (row : K2vRow) → given ≡ Some row → IsGood H s.requests key (length s.requests) row
    given_good row e =
        let g : Gave words (λ r. IsGood H s.requests (item_key r) (length s.requests) r) (read question (Some row)) =
        reached_good every s.requests s.world sound.reached (read question (Some row)) (subst (λ o. Contains s.world.reads (read question o)) e there) in
        let of : item_key row ≡ key = row_is_of row item g.0.proper (g.2 ∙ asks.key) in
        subst (λ k. IsGood H s.requests k (length s.requests) row) of g.0

    -- what was kept before the question was asked is at most what was given
    pub given_over : NoClash H → (p : ℕ) (b : ItemRequest) (row : K2vRow) → a.before p ≡ true → numbered s.requests p ≡ Some b → b.stage ≡ stored row → key_of b.order.item ≡ key → (r : K2vRow) × (given ≡ Some r) × AtMost row_join row r
    given_over clear p b row before there_b stage_is same =
        let own : IsEntry H s.requests s.world.kept p b = sound.entries p b there_b in
        let is : IsStage H s.requests s.world.kept p b (stored row) = subst (IsStage H s.requests s.world.kept p b) stage_is own.stage in
        let over = reached_kept every s.requests s.world sound.reached clear (read question given) there in
        kept_under question.key question.kept given row (key_is_of row item (is.0.good.key_is ∙ same) ∙ sym asks.key) (asks.has p b row before there_b stage_is)
        (subst (λ t. IsOver row_join words given (row_at row_join words question.kept t question.key)) asks.table over)

    abbrev base : K2vRow
    base = unwrap_or given (empty_row item)

    base_good : IsGood H s.requests key (length s.requests) base
    base_good = by_given given refl where
      by_given : (o : Option K2vRow) → given ≡ o → IsGood H s.requests key (length s.requests) (unwrap_or o (empty_row item))
      by_given None e = empty_good H s.requests item (length s.requests)
      by_given (Some row) e = given_good row e

    abbrev times : ℕ → TimeMap
    times token = token_at (numbered s.requests token)

    opened_now : is_open a.stage ≡ true
    opened_now = ap is_open is_reading

    after : (stage : Stage) → IsAfter a.stage stage
    after stage = subst (λ t. IsAfter t stage) (sym is_reading) tt

    -- ---- a write

    module _ (value : K2vValue) (token : ℕ) (writes_it : a.order.ask ≡ Write value token) (can : can_put base a.node q (times token) ≡ true) where
      abbrev row : K2vRow
      row = after_put base a.node q value (times token)

      abbrev one : ItemRequest
      one = record a { stage = storing row }

      abbrev now : List ItemRequest
      now = set_stage s.requests q a (storing row)

      grows : Grows s.requests now
      grows = set_grows s q a at (storing row) opened_now (after (storing row))

      here : numbered now q ≡ Some one
      here = set_at s q a at (storing row) opened_now (after (storing row))

      abbrev mine : IsWrite now q key a.node
      mine = record { one = one; is_there = here; key_is = refl; node_is = refl; value = value; token = token; writes = writes_it }

      abbrev was_mine : IsWrite s.requests q key a.node
      was_mine = record { one = a; is_there = at; key_is = refl; node_is = refl; value = value; token = token; writes = writes_it }

      low : q ≤ length now
      low = numbered_within now q one here

      later_good : (b : ℕ) (r : K2vRow) → b ≤ length s.requests → IsGood H s.requests key b r → IsGood H now key (length now) r
      later_good b r le g = let more = grows.longer in good_later s.requests now grows key b (length now) r le (omega (arith, le, more)) g

      read_given : (r : K2vRow) (begun : ℕ) → HasRead s.requests token key (Some r) begun → IsGood H now key (length now) r
      read_given r begun h =
          let own : IsStage H s.requests s.world.kept token h.one (shown (Some r) begun) = subst (IsStage H s.requests s.world.kept token h.one) h.stage_is (sound.entries token h.one h.is_there).stage in
          later_good begun r own.low (subst (λ k. IsGood H s.requests k begun r) h.key_is (own.good r refl))

      seen_in : IsTokenOf s.requests key q token → IsToken H now key token (length now) (times token)
      seen_in (inl none) = IsToken.nothing (times token) (λ m. ap (λ k. time_at (times k) m) none)
      seen_in (inr h) = by_given h.0 h.2 where
        by_given : (o : Option K2vRow) → HasRead s.requests token key o h.1 → IsToken H now key token (length now) (times token)
        by_given None r = IsToken.nothing (times token) (λ m. ap (λ t. time_at t m) (read_token s.requests key token None h.1 r))
        by_given (Some x) r = subst (IsToken H now key token (length now)) (sym (read_token s.requests key token (Some x) h.1 r)) (IsToken.of_row x h.1 (read_later s.requests now grows key token (Some x) h.1 r) (read_given x h.1 r))

      -- an earlier write of the item at this node that was acknowledged is known of
      knows_stored : NoClash H → (p : ℕ) (v : IsWrite s.requests p key a.node) (r : K2vRow) → v.one.stage ≡ stored r → a.before p ≡ true → Knows base a.node p
      knows_stored clear p v r stage_is before =
          let own : IsStage H s.requests s.world.kept p v.one (stored r) = subst (IsStage H s.requests s.world.kept p v.one) stage_is (sound.entries p v.one v.is_there).stage in
          let over = given_over clear p v.one r before v.is_there stage_is v.key_is in
          let base_is : base ≡ over.0 = ap (λ o. unwrap_or o (empty_row item)) over.1 in
          let keys : item_key over.0 ≡ item_key r = (given_good over.0 over.1).key_is ∙ sym (own.0.good.key_is ∙ v.key_is) in
          let shows : value_of r a.node p ≡ Some v.value = subst (λ n. value_of r n p ≡ Some v.value) v.node_is (own.0.shows v.value v.token v.writes) in
          subst (λ x. Knows x a.node p) (over.2 ∙ sym base_is) (knows_right over.0 r keys a.node p (inl (v.value, shows)))

      never_shown : {A : Type 0} (p : ℕ) (v : IsWrite s.requests p key a.node) (given : Option K2vRow) (begun : ℕ) → v.one.stage ≡ shown given begun → A
      never_shown p v given begun stage_is =
          let own : IsStage H s.requests s.world.kept p v.one (shown given begun) = subst (IsStage H s.requests s.world.kept p v.one) stage_is (sound.entries p v.one v.is_there).stage in
          never_write (sym own.reads ∙ v.writes)

      by_stage : NoClash H → (p : ℕ) (v : IsWrite s.requests p key a.node) → IsLive v → (stage : Stage) → v.one.stage ≡ stage → Passed a p stage → Knows base a.node p
      by_stage clear p v live reading e passed = absurd passed
      by_stage clear p v live (storing r) e passed = absurd passed
      by_stage clear p v live (stored r) e passed = knows_stored clear p v r e passed
      by_stage clear p v live (shown g begun) e passed = never_shown p v g begun e
      by_stage clear p v live over e passed = absurd (live e)

      earlier : NoClash H → (p : ℕ) → p < q → (w : IsWrite now p key a.node) → IsLive w → Knows base a.node p
      earlier clear p lt w live =
          let within = numbered_within s.requests q a at in
          let was = live_before s.requests now grows key a.node p (omega (arith, lt, within)) w live in
          by_stage clear p was.0 was.1 was.0.one.stage refl (sound.passed key a.node p q was.0 was_mine lt)

      is_storing : mine.one.stage ≡ reading → ⊥
      is_storing e = never_reading e

      seen : IsToken H now key token (length now) (times token)
      seen = seen_in ((sound.entries q a at).token value token writes_it)

      row_good : IsGood H now key (length now) row
      row_good = put_good now key (length now) base a.node q value (times token) (later_good (length s.requests) base (omega arith) base_good) mine refl is_storing low seen can earlier

      row_of : IsRowOf H now q one row
      row_of = record {
        good = row_good;
        shows = λ v t asks_it.
            let value_is : value ≡ v = write_value (sym writes_it ∙ asks_it) in
            own now key (length now) base a.node q value (times token) (later_good (length s.requests) base (omega arith) base_good) mine refl is_storing low seen can earlier ∙ ap Some value_is;
        replaces = λ v t asks_it m.
            let token_is : token ≡ t = write_token (sym writes_it ∙ asks_it) in
            let kept_time : token_at (numbered now t) ≡ times token = ap (λ k. token_at (numbered now k)) (sym token_is) ∙ sym (token_same s.requests now grows key q token ((sound.entries q a at).token value token writes_it)) in
            let d = put_discard_at base a.node q value (times token) m in
            subst (λ (x : TimeMap). time_at x m ≤ discard_at row m) (sym kept_time) (omega (arith, d));
      }

      fits_rows : (n : ℕ) (p : Present K2vRow) → BeganAt now n q → Began s.world.kept (Store ((row, None) ∷ [])) p → Fits now q p
      fits_rows n resting began b = tt
      fits_rows n (asking question answers) began b = absurd b
      fits_rows n (scanning scan answers) began b = tt
      fits_rows n (keeping rows slots) began b = λ c r there is.
          let same : one ≡ c = one_entry now q one c here there in
          let rows_are : row ≡ r = storing_row (ap (λ (o : ItemRequest). o.stage) same ∙ is) in
          b ∙ ap (λ (x : K2vRow). x ∷ []) rows_are
      fits_rows n (fetching hash) began b = tt

      pub stores_sound : Rests s q → FitIn H s.world (stores s q a row).moves → IsSound H (stores s q a row).state
      stores_sound rests fits =
          let then : State = record s { requests = now } in
          let is_then : IsSound H then = set_sound s q a at (storing row) opened_now (after (storing row)) sound row_of (λ n c has is. subst (Fits now q) (sym (rests n c has is)) tt) in
          phase_sound then q (Store ((row, None) ∷ [])) fits_rows (stores_is_meant q row, stores_is_step q row row_good.proper, tt, fits.0.1, tt) fits.0.2
          (All-cons (IsGoodRow H now) row [] (subst (λ k. IsGood H now k (length now) row) (sym row_good.key_is) row_good) (All-nil _)) is_then

    writes_sound : (value : K2vValue) (token : ℕ) → a.order.ask ≡ Write value token → Rests s q → FitIn H s.world (writes s q a value token given).moves → IsSound H (writes s q a value token given).state
    writes_sound value token writes_it rests fits =
        (elim (can_put base a.node q (times token)) as (λ c. can_put base a.node q (times token) ≡ c →
        (let o : Outcome = cond c (stores s q a (after_put base a.node q value (times token))) (silent s) in FitIn H s.world o.moves → IsSound H o.state)) [
          | true ↦ λ can fits. stores_sound value token writes_it can rests fits
          | false ↦ λ can fits. sound
        ]) refl fits

    -- ---- a read

    gives_sound : a.order.ask ≡ Read → (line : ItemLine) → FitIn H s.world (finishes s q a (shown given (length s.requests)) line).moves → IsSound H (finishes s q a (shown given (length s.requests)) line).state
    gives_sound reads line fits =
        let stage : Stage = shown given (length s.requests) in
        let grows : Grows s.requests (set_stage s.requests q a stage) = set_grows s q a at stage opened_now (after stage) in
        finishes_sound s q a at stage line opened_now (after stage) refl (record {
          reads = reads;
          low = grows.longer;
          good = λ row e. good_later s.requests (set_stage s.requests q a stage) grows key (length s.requests) (length s.requests) row (omega arith) (omega arith) (given_good row e);
          covers = λ clear p b row before there_b stage_is same.
              let was = stored_before s.requests (set_stage s.requests q a stage) grows a (sound.entries q a at).before p b row before there_b stage_is in
              given_over clear p was.0 row before was.1 was.2 (ap (λ (o : Order). key_of o.item) (sym was.3) ∙ same);
        }) fits sound

    reads_sound : (ask : Ask) → a.order.ask ≡ ask → Rests s q → FitIn H s.world (reads_on s q a given ask).moves → IsSound H (reads_on s q a given ask).state
    reads_sound (Write value token) e rests fits = writes_sound value token e rests fits
    reads_sound Read e rests fits = gives_sound e (ReadDone q (values_told given)) fits

  -- ---- a phase ended

  follows_sound : (s : State) (q : ℕ) (a : ItemRequest) (at : numbered s.requests q ≡ Some a) (end : PhaseEnd K2vRow) (stage : Stage) → a.stage ≡ stage → Rests s q → HasEnded s.requests s.world.kept s.world.reads q end →
      FitIn H s.world (follows s q a end stage).moves → IsSound H s → IsSound H (follows s q a end stage).state
  follows_sound s q a at (Answered given) reading e rests h fits sound = reads_sound s q a at e sound given h.0 h.1 (h.2 a at e) a.order.ask refl rests fits
  follows_sound s q a at (Answered given) (storing r) e rests h fits sound = sound
  follows_sound s q a at (Answered given) (stored r) e rests h fits sound = sound
  follows_sound s q a at (Answered given) (shown g begun) e rests h fits sound = sound
  follows_sound s q a at (Answered given) over e rests h fits sound = sound
  follows_sound s q a at (Window rows more) stage e rests h fits sound = sound
  follows_sound s q a at Kept reading e rests h fits sound = sound
  follows_sound s q a at Kept (storing r) e rests h fits sound =
      let opened_now : is_open a.stage ≡ true = ap is_open e in
      let after : IsAfter a.stage (stored r) = subst (λ t. IsAfter t (stored r)) (sym e) refl in
      let own : IsRowOf H s.requests q a r = subst (IsStage H s.requests s.world.kept q a) e (sound.entries q a at).stage in
      let kept : IsRowOf H (set_stage s.requests q a (stored r)) q a r = row_later s.requests (set_stage s.requests q a (stored r)) (set_grows s q a at (stored r) opened_now after) q a r (sound.entries q a at).token own in
      finishes_sound s q a at (stored r) (WriteDone q (is_deletion a.order.ask) a.node) opened_now after refl
      (record { good = kept.good; shows = kept.shows; replaces = kept.replaces }, h a r at e) fits sound
  follows_sound s q a at Kept (stored r) e rests h fits sound = sound
  follows_sound s q a at Kept (shown g begun) e rests h fits sound = sound
  follows_sound s q a at Kept over e rests h fits sound = sound
  follows_sound s q a at (Block bytes) stage e rests h fits sound = sound

  follow_sound : (s : State) (q : ℕ) (one : Option ItemRequest) (end : PhaseEnd K2vRow) → numbered s.requests q ≡ one → Rests s q → HasEnded s.requests s.world.kept s.world.reads q end →
      FitIn H s.world (follow s q one end).moves → IsSound H s → IsSound H (follow s q one end).state
  follow_sound s q None end at rests h fits sound = sound
  follow_sound s q (Some a) end at rests h fits sound = follows_sound s q a at end a.stage refl rests h fits sound

  pub goes_on_sound : (s : State) (ends : List (Ended K2vRow)) → FitIn H s.world (goes_on s ends).moves → IsSound H s →
      AllByRecursion (λ (e : Ended K2vRow). HasEnded s.requests s.world.kept s.world.reads e.request e.how × Rests s e.request) ends → IsSound H (goes_on s ends).state
  goes_on_sound s [] fits sound h = sound
  goes_on_sound s (e ∷ es) fits sound h = follow_sound s e.request (numbered s.requests e.request) e.how refl h.0.1 h.0.0 fits sound
