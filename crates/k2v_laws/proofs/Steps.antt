-- What keeps a state sound: a step of the world, and a request in another stage.
use Rattle.std.specs.Prelude.{◌≡◌, ◌⊎◌, ⊤, ℕ, ◌-◌, ◌==◌, Bool, true, false, Some, List, [], ◌∷◌, ◌++◌, length, refl}
use Rattle.std.specs.List.{AllByRecursion, Contains}
use Rattle.std.proofs.Common.{ap, sym, subst, ◌∙◌, inl, inr, arith}
use Rattle.std.proofs.lemmas.Bool.{eqb-true, eqb-false}
use Rattle.std.proofs.lemmas.List.{length-set, append-nil}
use Rattle.std.proofs.lemmas.List.Elements.{Contains-append_right}
use Rattle.crdt_core.specs.Members.{Has}
use Rattle.wire_messages.specs.declared.phase.PhaseEnd.{PhaseEnd}
use Rattle.wire_messages.specs.declared.phase.PhaseEnd.TheVariants.{Row as Answered, Window, Kept, Block}
use Rattle.cluster_machine.specs.Node.{Question, Present, resting, asking, scanning, storing as keeping, fetching, Call, Reading, read, Ended}
use Rattle.cluster_machine.specs.World.{Request, numbered}
use Rattle.cluster_machine.specs.Step.{changed, shut}
use Rattle.cluster_machine.specs.Worlds.{Done as Effect, IsLawfulRun}
use Rattle.cluster_machine.proofs.Closing.{length_shut}
use Rattle.machine_origins.specs.Following.{GoesOn, Continues, EndsSo, AtMostOne}
use Rattle.k2v_rows.specs.declared.k2v_row.K2vRow.{K2vRow}
use Rattle.k2v_rows.specs.Row.{row_join}
use Rattle.k2v_schema.specs.Schema.{words}
use Rattle.k2v_model.specs.declared.order.Order.{Order}
use Rattle.k2v_model.specs.Orders.{key_of}
use Rattle.k2v_model.specs.Run.{Moving, ItemRequest, Stage, reading, storing, stored, shown, over, is_open, State, doing, effect, set_stage}
use Rattle.k2v_model.specs.Owed.{IsWrite}
use Rattle.machine_origins.proofs.Places.{numbered_within, numbered_set_here, numbered_set_cases}
use Rattle.machine_origins.proofs.Calm.{IsCalm}
use Rattle.k2v_laws.proofs.Good.{one_entry}
use Rattle.k2v_laws.proofs.Grown.{IsAfter, Grows, grows_same, grows_set, entry_before}
use Rattle.k2v_laws.proofs.Sound.{StoresGood, BeganAt, Asks, Fits, IsPresent, ArePresent, IsStage, IsEntry, Passed, ArePassed, IsSound}
use Rattle.k2v_laws.proofs.Every.{reached_step, reached_later}
use Rattle.k2v_laws.proofs.Hashing.{HashesIn}
use Rattle.k2v_laws.proofs.Later.{before_later, token_later, entry_later, fits_later}

-- ---- a step of the world

-- what is added fits the requests, and none opens
pub record IsFine (s : State) (e : Effect K2vRow) : Type 0 where
  pub opens : e.opens ≡ []
  pub presents : (n : ℕ) → ArePresent s.requests n (changed e.nodes s.world.nodes n).calls

pub step_sound : {H : List ℕ → Type 0} (s : State) (m : Moving) → IsSound H s → IsLawfulRun row_join words s.world (m ∷ []) → HashesIn H s.world m → StoresGood H s.requests m → IsFine s (effect s m) → IsSound H (doing s m)
step_sound s m sound lawful hashes good fine =
    let e : Effect K2vRow = effect s m in
    let shut_now : List Request = shut s.world.requests e.closes in
    let requests : shut_now ++ e.opens ≡ shut_now = ap (λ (o : List Request). shut_now ++ o) fine.opens ∙ append-nil shut_now in
    record {
      reached = reached_step s.requests s.world m sound.reached lawful hashes good;
      lengths = sound.lengths ∙ sym (ap (λ (rs : List Request). length rs) requests ∙ length_shut s.world.requests e.closes);
      presents = fine.presents;
      entries = λ q a at. entry_later s.requests s.requests (grows_same s.requests) s.world.kept (e.keeps ++ s.world.kept) (λ r c. Contains-append_right e.keeps s.world.kept r c) q a (sound.entries q a at);
      passed = sound.passed;
    }

-- ---- a calm step

fits_goes : (requests : List ItemRequest) (q : ℕ) (old new : Present K2vRow) → GoesOn old new → Fits requests q old → Fits requests q new
fits_goes requests q old resting goes h = tt
fits_goes requests q old (scanning p as') goes h = tt
fits_goes requests q old (fetching hash) goes h = tt
fits_goes requests q resting (asking p as') goes h = absurd goes
fits_goes requests q (asking o bs) (asking p as') goes h = λ a at is. subst (Asks requests a) (sym goes) (h a at is)
fits_goes requests q (scanning o bs) (asking p as') goes h = absurd goes
fits_goes requests q (keeping rows slots) (asking p as') goes h = absurd goes
fits_goes requests q (fetching hash) (asking p as') goes h = absurd goes
fits_goes requests q resting (keeping rows slots) goes h = absurd goes
fits_goes requests q (asking o bs) (keeping rows slots) goes h = absurd goes
fits_goes requests q (scanning o bs) (keeping rows slots) goes h = absurd goes
fits_goes requests q (keeping others before) (keeping rows slots) goes h = λ a row at is. goes ∙ h a row at is
fits_goes requests q (fetching hash) (keeping rows slots) goes h = absurd goes

present_goes : (requests : List ItemRequest) (n q : ℕ) (old new : Present K2vRow) → GoesOn old new → IsPresent requests n q old → IsPresent requests n q new
present_goes requests n q old new goes h = record { began = h.began; fits = fits_goes requests q old new goes h.fits }

continues_present : (requests : List ItemRequest) (n : ℕ) (calls : List (Call K2vRow)) → ArePresent requests n calls → (c : Call K2vRow) → Continues calls c → IsPresent requests n c.request c.present
continues_present requests n calls are c k =
    present_goes requests n c.request k.before.present c.present k.goes_on (subst (λ q. IsPresent requests n q k.before.present) k.request (are k.before k.is_there))

-- a phase of request q ended so: a read that asked for it, among the reads, or rows that it stored, among what is kept
abbrev pub HasEnded : List ItemRequest → List K2vRow → List (Reading K2vRow) → ℕ → PhaseEnd K2vRow → Type 0
HasEnded requests kept reads q (Answered given) = (question : Question K2vRow) × Contains reads (read question given) × ((a : ItemRequest) → numbered requests q ≡ Some a → a.stage ≡ reading → Asks requests a question)
HasEnded requests kept reads q (Window rows end) = ⊤
HasEnded requests kept reads q Kept = (a : ItemRequest) (row : K2vRow) → numbered requests q ≡ Some a → a.stage ≡ storing row → Contains kept row
HasEnded requests kept reads q (Block bytes) = ⊤

module _ (requests : List ItemRequest) (n : ℕ) (kept : List K2vRow) (before : List (Reading K2vRow)) (keeps : List K2vRow) (reads : List (Reading K2vRow)) where
  one_end : (q : ℕ) (p : Present K2vRow) (how : PhaseEnd K2vRow) → Fits requests q p → EndsSo p how keeps reads → HasEnded requests (keeps ++ kept) (reads ++ before) q how
  one_end q p (Window rows end) h so = tt
  one_end q p (Block bytes) h so = tt
  one_end q resting (Answered given) h so = absurd so
  one_end q (asking question as') (Answered given) h so = (question, subst (λ r. Contains (r ++ before) (read question given)) (sym so.1) (0, omega arith, refl), h)
  one_end q (scanning scan as') (Answered given) h so = absurd so
  one_end q (keeping rows slots) (Answered given) h so = absurd so
  one_end q (fetching hash) (Answered given) h so = absurd so
  one_end q resting Kept h so = absurd so
  one_end q (asking question as') Kept h so = absurd so
  one_end q (scanning scan as') Kept h so = absurd so
  one_end q (keeping rows slots) Kept h so = λ a row at is. subst (λ k. Contains (k ++ kept) row) (sym (so.0 ∙ h a row at is)) (0, omega arith, refl)
  one_end q (fetching hash) Kept h so = absurd so

  abbrev RestsIn : List (Call K2vRow) → ℕ → Type 0
  RestsIn later q = (c : Call K2vRow) → Has later c → c.request ≡ q → c.present ≡ resting

  ends_are : (old later : List (Call K2vRow)) (ends : List (Ended K2vRow)) → ArePresent requests n old → AtMostOne old later ends keeps reads →
      AllByRecursion (λ (e : Ended K2vRow). HasEnded requests (keeps ++ kept) (reads ++ before) e.request e.how × BeganAt requests n e.request × RestsIn later e.request) ends
  ends_are old later [] are one = tt
  ends_are old later (e ∷ []) are one =
      let was : IsPresent requests n e.request one.call.present = subst (λ q. IsPresent requests n q one.call.present) one.request (are one.call one.is_there) in
      ((one_end e.request one.call.present e.how was.fits one.ends_so, was.began, one.rests), tt)
  ends_are old later (e ∷ f ∷ es) are one = absurd one

-- the request rests wherever it is open
abbrev pub Rests : State → ℕ → Type 0
Rests s q = (n : ℕ) (c : Call K2vRow) → Has (s.world.nodes n).calls c → c.request ≡ q → c.present ≡ resting

module _ {H : List ℕ → Type 0} (s : State) (m : Moving) (sound : IsSound H s) (calm : IsCalm s.world (effect s m)) where
  abbrev e : Effect K2vRow
  e = effect s m

  pub calm_presents : (n : ℕ) → ArePresent s.requests n (changed e.nodes s.world.nodes n).calls
  calm_presents n c h = continues_present s.requests n (s.world.nodes n).calls (sound.presents n) c (calm.calls n c h)

  one_node : (n k q : ℕ) → BeganAt s.requests n q → BeganAt s.requests k q → n ≡ k
  one_node n k q v w =
      let same : v.one ≡ w.one = one_entry s.requests q v.one w.one v.is_there w.is_there in
      sym v.node_is ∙ (ap (λ (a : ItemRequest). a.node) same ∙ w.node_is)

  abbrev pub IsEnded : Ended K2vRow → Type 0
  IsEnded x = HasEnded s.requests (e.keeps ++ s.world.kept) (e.reads ++ s.world.reads) x.request x.how × Rests (doing s m) x.request

  rests_now : (q : ℕ) → BeganAt s.requests calm.node q → ((c : Call K2vRow) → Has (changed e.nodes s.world.nodes calm.node).calls c → c.request ≡ q → c.present ≡ resting) → Rests (doing s m) q
  rests_now q began here n c has is =
      elim (n == calm.node) as (λ b. (n == calm.node) ≡ b → c.present ≡ resting) [
        | true ↦ (λ t. here c (subst (λ k. Has (changed e.nodes s.world.nodes k).calls c) (eqb-true n calm.node t) has) is)
        | false ↦ (λ f. absurd (eqb-false n calm.node f (one_node n calm.node q (subst (BeganAt s.requests n) is (calm_presents n c has).began) began)))
      ] refl

  ends_rest : (ends : List (Ended K2vRow)) →
      AllByRecursion (λ (x : Ended K2vRow). HasEnded s.requests (e.keeps ++ s.world.kept) (e.reads ++ s.world.reads) x.request x.how × BeganAt s.requests calm.node x.request ×
      ((c : Call K2vRow) → Has (changed e.nodes s.world.nodes calm.node).calls c → c.request ≡ x.request → c.present ≡ resting)) ends → AllByRecursion IsEnded ends
  ends_rest [] h = tt
  ends_rest (x ∷ xs) h = ((h.0.0, rests_now x.request h.0.1 h.0.2), ends_rest xs h.1)

  -- the phases that ended in the step, and their requests rest
  pub calm_ends : AllByRecursion IsEnded e.ends
  calm_ends = ends_rest e.ends (ends_are s.requests calm.node s.world.kept s.world.reads e.keeps e.reads (s.world.nodes calm.node).calls (changed e.nodes s.world.nodes calm.node).calls e.ends (sound.presents calm.node) calm.ends)

-- ---- another stage

open_passed : (a : ItemRequest) (p : ℕ) (stage : Stage) → is_open stage ≡ true → Passed a p stage → ⊥
open_passed a p reading is h = h
open_passed a p (storing row) is h = h
open_passed a p (stored row) is h = cc
open_passed a p (shown given begun) is h = cc
open_passed a p over is h = cc

passed_as : (a b : ItemRequest) (p : ℕ) (stage : Stage) → b.before ≡ a.before → Passed a p stage → Passed b p stage
passed_as a b p reading e h = h
passed_as a b p (storing row) e h = h
passed_as a b p (stored row) e h = ap (λ (f : ℕ → Bool). f p) e ∙ h
passed_as a b p (shown given begun) e h = tt
passed_as a b p over e h = tt

-- a phase of a closed request fits
pub fits_closed : (requests : List ItemRequest) (q : ℕ) (a : ItemRequest) → numbered requests q ≡ Some a → is_open a.stage ≡ false → (p : Present K2vRow) → Fits requests q p
fits_closed requests q a at closed resting = tt
fits_closed requests q a at closed (asking question answers) = λ c there is.
    let same : a ≡ c = one_entry requests q a c at there in
    let no : false ≡ true = sym closed ∙ (ap (λ (o : ItemRequest). is_open o.stage) same ∙ ap is_open is) in cc
fits_closed requests q a at closed (scanning scan answers) = tt
fits_closed requests q a at closed (keeping rows slots) = λ c row there is.
    let same : a ≡ c = one_entry requests q a c at there in
    let no : false ≡ true = sym closed ∙ (ap (λ (o : ItemRequest). is_open o.stage) same ∙ ap is_open is) in cc
fits_closed requests q a at closed (fetching hash) = tt

module _ (s : State) (q : ℕ) (a : ItemRequest) (at : numbered s.requests q ≡ Some a) (stage : Stage) (opened_now : is_open a.stage ≡ true) (after : IsAfter a.stage stage) where
  abbrev new : ItemRequest
  new = record a { stage = stage }

  abbrev requests : List ItemRequest
  requests = set_stage s.requests q a stage

  pub set_at : numbered requests q ≡ Some new
  set_at = numbered_set_here s.requests q new a at

  pub set_grows : Grows s.requests requests
  set_grows = grows_set s.requests q a stage at after

  set_cases : (p : ℕ) (b : ItemRequest) → numbered requests p ≡ Some b → ((p ≡ q) × (new ≡ b)) ⊎ (numbered s.requests p ≡ Some b)
  set_cases p b there = numbered_set_cases s.requests q p a new b at there

  set_passed : ArePassed s.requests → ArePassed requests
  set_passed passed key n p r v w lt =
      let longer : length requests ≡ length s.requests = length-set s.requests (q - 1) new in
      let low_v = numbered_within requests p v.one v.is_there in
      let low_w = numbered_within requests r w.one w.is_there in
      let from_v = entry_before s.requests requests set_grows p v.one (omega (arith, longer, low_v)) v.is_there in
      let from_w = entry_before s.requests requests set_grows r w.one (omega (arith, longer, low_w)) w.is_there in
      let old_v : IsWrite s.requests p key n = record { one = from_v.0; is_there = from_v.1; key_is = ap (λ (o : Order). key_of o.item) (sym from_v.3) ∙ v.key_is; node_is = sym from_v.2 ∙ v.node_is; value = v.value; token = v.token; writes = ap (λ (o : Order). o.ask) (sym from_v.3) ∙ v.writes } in
      let old_w : IsWrite s.requests r key n = record { one = from_w.0; is_there = from_w.1; key_is = ap (λ (o : Order). key_of o.item) (sym from_w.3) ∙ w.key_is; node_is = sym from_w.2 ∙ w.node_is; value = w.value; token = w.token; writes = ap (λ (o : Order). o.ask) (sym from_w.3) ∙ w.writes } in
      let was : Passed from_w.0 p from_v.0.stage = passed key n p r old_v old_w lt in
      elim (set_cases p v.one v.is_there) [
        | inl e ↦
            let same : from_v.0 ≡ a = one_entry s.requests q from_v.0 a (ap (numbered s.requests) (sym e.0) ∙ from_v.1) at in
            absurd (open_passed from_w.0 p from_v.0.stage (ap (λ (o : ItemRequest). is_open o.stage) same ∙ opened_now) was)
        | inr old ↦
            let same : from_v.0 ≡ v.one = one_entry s.requests p from_v.0 v.one from_v.1 old in
            passed_as from_w.0 w.one p v.one.stage from_w.4 (subst (λ (o : ItemRequest). Passed from_w.0 p o.stage) same was)
      ]

  -- an open request is in a later stage
  pub set_sound : {H : List ℕ → Type 0} → IsSound H s → IsStage H requests s.world.kept q new stage → ((n : ℕ) (c : Call K2vRow) → Has (s.world.nodes n).calls c → c.request ≡ q → Fits requests q c.present) → IsSound H (record s { requests = requests })
  set_sound {H = H} sound is_stage fits = record {
    reached = reached_later s.requests requests s.world set_grows sound.reached;
    lengths = length-set s.requests (q - 1) new ∙ sound.lengths;
    presents = λ n c h.
        let was = sound.presents n c h in
        let b = set_grows.later c.request was.began.one was.began.is_there in
        record {
          began = record { one = b.one; is_there = b.is_there; node_is = b.node_is ∙ was.began.node_is };
          fits = elim (c.request == q) as (λ t. (c.request == q) ≡ t → Fits requests c.request c.present) [
            | true ↦ λ t. let is = eqb-true c.request q t in subst (λ k. Fits requests k c.present) (sym is) (fits n c h is)
            | false ↦ λ f. fits_later s.requests requests set_grows s.world.kept sound.entries c.request (λ b there. elim (set_cases c.request b there) [ inl e ↦ absurd (eqb-false c.request q f e.0) | inr old ↦ inr old ]) c.present was.fits
          ] refl;
        };
    entries = λ p b there. elim (set_cases p b there) [
      | inl e ↦
          let own = sound.entries q a at in
          let made : IsEntry H requests s.world.kept q new = record { before = before_later s.requests requests set_grows new own.before; token = λ v token asks. token_later s.requests requests set_grows (key_of a.order.item) q token (own.token v token asks); stage = is_stage } in
          subst (λ (o : ItemRequest). IsEntry H requests s.world.kept p o) e.1 (subst (λ (k : ℕ). IsEntry H requests s.world.kept k new) (sym e.0) made)
      | inr old ↦ entry_later s.requests requests set_grows s.world.kept s.world.kept (λ r c. c) p b (sound.entries p b old)
    ];
    passed = set_passed sound.passed;
  }
