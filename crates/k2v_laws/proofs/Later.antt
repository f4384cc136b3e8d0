-- What is known of requests stays known at a later moment.
use Rattle.std.specs.Prelude.{◌≡◌, ◌≤◌, ◌⊎◌, ℕ, true, false, Option, Some, List, length, refl}
use Rattle.std.specs.List.{Contains}
use Rattle.std.proofs.Common.{ap, sym, subst, ◌∙◌, inl, inr, arith}
use Rattle.cluster_machine.specs.Node.{Question, Present, resting, asking, scanning, storing as keeping, fetching}
use Rattle.cluster_machine.specs.World.{numbered}
use Rattle.k2v_rows.specs.declared.value.K2vValue.{K2vValue}
use Rattle.k2v_rows.specs.declared.k2v_row.K2vRow.{K2vRow}
use Rattle.k2v_rows.specs.Token.{TimeMap}
use Rattle.k2v_rows.specs.Row.{ItemKey, discard_at, time_at}
use Rattle.k2v_model.specs.declared.order.Order.{Order}
use Rattle.k2v_model.specs.declared.order.Ask.TheVariants.{Write}
use Rattle.k2v_model.specs.Orders.{key_of}
use Rattle.k2v_model.specs.Run.{ItemRequest, Stage, reading, storing, stored, shown, over, is_open, stage_token, token_at}
use Rattle.k2v_model.specs.Owed.{HasRead}
use Rattle.k2v_laws.proofs.Good.{one_entry}
use Rattle.k2v_laws.proofs.Grown.{still_stored, Grows, read_later, good_later}
use Rattle.k2v_laws.proofs.Sound.{Asks, Fits, IsTokenOf, IsRowOf, IsGiven, IsStage, HasBefore, IsEntry, AreEntries}

-- the token of a finished read
pub read_token : (requests : List ItemRequest) (key : ItemKey) (token : ℕ) (given : Option K2vRow) (begun : ℕ) → HasRead requests token key given begun → token_at (numbered requests token) ≡ stage_token (shown given begun)
read_token requests key token given begun r = ap token_at r.is_there ∙ ap stage_token r.stage_is

module _ (old new : List ItemRequest) (grows : Grows old new) where
  pub token_later : (key : ItemKey) (q token : ℕ) → IsTokenOf old key q token → IsTokenOf new key q token
  token_later key q token (inl none) = inl none
  token_later key q token (inr h) = inr (h.0, h.1, read_later old new grows key token h.0 h.1 h.2, h.3)

  pub token_same : (key : ItemKey) (q token : ℕ) → IsTokenOf old key q token → token_at (numbered old token) ≡ token_at (numbered new token)
  token_same key q token (inl none) = ap (λ k. token_at (numbered old k)) none ∙ sym (ap (λ k. token_at (numbered new k)) none)
  token_same key q token (inr h) = read_token old key token h.0 h.1 h.2 ∙ sym (read_token new key token h.0 h.1 (read_later old new grows key token h.0 h.1 h.2))

  pub before_later : (a : ItemRequest) → HasBefore old a → HasBefore new a
  before_later a h p is =
      let was = h p is in
      let l = grows.later p was.0 was.2 in (l.one, was.1, l.is_there, still_stored was.1 was.0.stage l.one.stage was.3 l.stage)

  -- an acknowledged write stored one row, then as now
  pub stored_before : (a : ItemRequest) → HasBefore old a → (p : ℕ) (c : ItemRequest) (row : K2vRow) → a.before p ≡ true → numbered new p ≡ Some c → c.stage ≡ stored row → (b : ItemRequest) × (numbered old p ≡ Some b) × (b.stage ≡ stored row) × (c.order ≡ b.order)
  stored_before a h p c row is at stage =
      let was = h p is in
      let l = grows.later p was.0 was.2 in
      let same : l.one ≡ c = one_entry new p l.one c l.is_there at in
      let both : stored was.1 ≡ stored row = sym (still_stored was.1 was.0.stage l.one.stage was.3 l.stage) ∙ (ap (λ (o : ItemRequest). o.stage) same ∙ stage) in
      (was.0, was.2, was.3 ∙ both, sym (ap (λ (o : ItemRequest). o.order) same) ∙ l.order_is)

  pub row_later : {H : List ℕ → Type 0} (q : ℕ) (a : ItemRequest) (row : K2vRow) → ((v : K2vValue) (token : ℕ) → a.order.ask ≡ Write v token → IsTokenOf old (key_of a.order.item) q token) → IsRowOf H old q a row → IsRowOf H new q a row
  row_later q a row tokens h = record {
    good = good_later old new grows (key_of a.order.item) (length old) (length new) row (omega arith) grows.longer h.good;
    shows = h.shows;
    replaces = λ v token asks m. subst (λ (t : TimeMap). time_at t m ≤ discard_at row m) (token_same (key_of a.order.item) q token (tokens v token asks)) (h.replaces v token asks m);
  }

  pub given_later : {H : List ℕ → Type 0} (a : ItemRequest) (given : Option K2vRow) (begun : ℕ) → HasBefore old a → IsGiven H old a given begun → IsGiven H new a given begun
  given_later a given begun before h = record {
    reads = h.reads;
    low = (let l = h.low in let more = grows.longer in omega (arith, l, more));
    good = λ row e. good_later old new grows (key_of a.order.item) begun begun row h.low (omega arith) (h.good row e);
    covers = λ clear p c row is at stage key.
        let was = stored_before a before p c row is at stage in
        h.covers clear p was.0 row is was.1 was.2 (ap (λ (o : Order). key_of o.item) (sym was.3) ∙ key);
  }

  pub entry_later : {H : List ℕ → Type 0} (kept more : List K2vRow) → ((r : K2vRow) → Contains kept r → Contains more r) → (q : ℕ) (a : ItemRequest) → IsEntry H old kept q a → IsEntry H new more q a
  entry_later {H = H} kept more there q a h = record {
    before = before_later a h.before;
    token = λ v token asks. token_later (key_of a.order.item) q token (h.token v token asks);
    stage = by_stage a.stage h.stage;
  } where
    by_stage : (stage : Stage) → IsStage H old kept q a stage → IsStage H new more q a stage
    by_stage reading k = tt
    by_stage (storing row) k = row_later q a row h.token k
    by_stage (stored row) k = (row_later q a row h.token k.0, there row k.1)
    by_stage (shown given begun) k = given_later a given begun h.before k
    by_stage over k = tt

  -- ---- open requests

  asks_later : (a : ItemRequest) (question : Question K2vRow) → HasBefore old a → Asks old a question → Asks new a question
  asks_later a question before h = record {
    table = h.table;
    key = h.key;
    has = λ p c row is at stage. let was = stored_before a before p c row is at stage in h.has p was.0 row is was.1 was.2;
  }

  never_open : {A : Type 0} (stage other : Stage) → is_open stage ≡ false → stage ≡ other → is_open other ≡ true → A
  never_open stage other closed is opened_now = let no : false ≡ true = sym closed ∙ (ap is_open is ∙ opened_now) in cc

  -- a phase fits, where its request is closed or what it was
  pub fits_later : {H : List ℕ → Type 0} (kept : List K2vRow) → AreEntries H old kept → (q : ℕ) → ((c : ItemRequest) → numbered new q ≡ Some c → (is_open c.stage ≡ false) ⊎ (numbered old q ≡ Some c)) → (p : Present K2vRow) → Fits old q p → Fits new q p
  fits_later kept entries q same resting h = tt
  fits_later kept entries q same (asking question answers) h = λ c at is. elim (same c at) [
    | inl closed ↦ never_open c.stage reading closed is refl
    | inr was ↦ asks_later c question (entries q c was).before (h c was is)
  ]
  fits_later kept entries q same (scanning scan answers) h = tt
  fits_later kept entries q same (keeping rows slots) h = λ c row at is. elim (same c at) [
    | inl closed ↦ never_open c.stage (storing row) closed is refl
    | inr was ↦ h c row was is
  ]
  fits_later kept entries q same (fetching hash) h = tt
