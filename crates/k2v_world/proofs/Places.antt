-- Requests by their places and numbers.
use Rattle.std.proofs.Common.{◌≡◌, ℕ, zero, suc, ◌+◌, ◌-◌, ◌<◌, Bool, true, false, cond, ◌&&◌, ◌||◌, ◌==◌, Option, Some, None, option_map, List, [], ◌∷◌, length, refl, sym, ap, ◌∙◌, arith, ◌⊎◌, inl, inr}
use Rattle.std.specs.Prelude.{slice_get, slice_set, map, if◌then◌else◌}
use Rattle.std.proofs.lemmas.List.{map-set}
use Rattle.cluster_machine.specs.World.{numbered}
use Rattle.k2v_rows.specs.Row.{ItemKey}
use Rattle.k2v_model.specs.declared.order.Ask.{Ask}
use Rattle.k2v_model.specs.declared.order.Ask.TheVariants.{Write, Read}
use Rattle.k2v_model.specs.declared.order.Order.{Order}
use Rattle.k2v_model.specs.declared.line.ItemRefusal.{ItemRefusal}
use Rattle.k2v_model.specs.declared.line.ItemRefusal.TheVariants.{NoSuchToken, Busy}
use Rattle.k2v_model.specs.Orders.{key_of, is_same_key, is_write}
use Rattle.k2v_model.specs.Run as model
use Rattle.k2v_model.specs.Run.{ItemRequest, State, Outcome, is_open, set_stage, begins_reading, refusal, admits, unless_busy}
use Rattle.k2v_model.specs.Acts.{ends_one, ends_all}
use Rattle.k2v_world.specs.declared.asked.Asked.{Asked}
use Rattle.k2v_world.specs.declared.asked.Stage.{Stage}
use Rattle.k2v_world.specs.declared.asked.Stage.TheVariants.{Over}
use Rattle.k2v_world.specs.Kept.{kept, kept_stage, waits, is_shown, has_shown, is_token, times_at, busy_from, hindrance, with_stage, ended_one, ended_all}

-- ---- places

pub numbered_place : {A : Type 0} (xs : List A) (i q : ℕ) → i + 1 ≡ q → numbered xs q ≡ slice_get xs i
numbered_place xs i zero e = absurd (omega arith)
numbered_place xs i (suc q) e = let same : q ≡ i = omega arith in ap (slice_get xs) same

get_past : {A : Type 0} (xs : List A) (q : ℕ) → length xs < q → numbered xs q ≡ None
get_past [] zero lt = refl
get_past [] (suc q) lt = refl
get_past (x ∷ xs) zero lt = absurd (omega arith)
get_past (x ∷ xs) (suc zero) lt = absurd (omega arith)
get_past (x ∷ xs) (suc (suc q)) lt = get_past xs (suc q) (omega arith)

pub get_none : {A : Type 0} (xs : List A) (q : ℕ) → (q ≡ 0) ⊎ (length xs < q) → numbered xs q ≡ None
get_none xs q (inl zero_is) = ap (numbered xs) zero_is
get_none xs q (inr past) = get_past xs q past

-- one stands at a place
pub same_some : {A : Type 0} (x y : A) → Some x ≡ Some y → x ≡ y
same_some x y e = cc

-- what is kept at a place is what is kept of the request there
pub get_map : (xs : List ItemRequest) (i : ℕ) → slice_get (map kept xs) i ≡ option_map kept (slice_get xs i)
get_map [] i = refl
get_map (m ∷ xs) zero = refl
get_map (m ∷ xs) (suc i) = get_map xs i

pub numbered_map : (xs : List ItemRequest) (q : ℕ) → numbered (map kept xs) q ≡ option_map kept (numbered xs q)
numbered_map xs zero = refl
numbered_map xs (suc q) = get_map xs q

-- the model's request whose code's is this
pub get_kept : (xs : List ItemRequest) (i : ℕ) (a : Asked) → slice_get (map kept xs) i ≡ Some a → (m : ItemRequest) × (slice_get xs i ≡ Some m) × (kept m ≡ a)
get_kept [] i a h = absurd (cc)
get_kept (m ∷ xs) zero a h = (m, refl, cc)
get_kept (m ∷ xs) (suc i) a h = get_kept xs i a h

-- ---- what is found

pub times_kept : (o : Option ItemRequest) → times_at (option_map kept o) ≡ model.token_at o
times_kept None = refl
times_kept (Some a) = by_stage a.stage where
  by_stage : (stage : model.Stage) → times_at (Some (kept (record a { stage = stage }))) ≡ model.stage_token stage
  by_stage model.reading = refl
  by_stage (model.storing row) = refl
  by_stage (model.stored row) = refl
  by_stage (model.shown None begun) = refl
  by_stage (model.shown (Some row) begun) = refl
  by_stage model.over = refl

pub waits_kept : (stage : model.Stage) → waits (kept_stage stage) ≡ is_open stage
waits_kept model.reading = refl
waits_kept (model.storing row) = refl
waits_kept (model.stored row) = refl
waits_kept (model.shown given begun) = refl
waits_kept model.over = refl

shown_kept : (stage : model.Stage) → is_shown (kept_stage stage) ≡ model.is_shown stage
shown_kept model.reading = refl
shown_kept (model.storing row) = refl
shown_kept (model.stored row) = refl
shown_kept (model.shown given begun) = refl
shown_kept model.over = refl

has_kept : (key : ItemKey) (o : Option ItemRequest) → has_shown key (option_map kept o) ≡ model.passes (λ a. model.is_shown a.stage && is_same_key (key_of a.order.item) key) o
has_kept key None = refl
has_kept key (Some a) = ap (λ b. b && is_same_key (key_of a.order.item) key) (shown_kept a.stage)

token_kept : (xs : List ItemRequest) (key : ItemKey) (t : ℕ) → is_token (map kept xs) key t ≡ model.is_token xs key t
token_kept xs key t = ap (λ b. (t == 0) || b) (ap (has_shown key) (numbered_map xs t) ∙ has_kept key (numbered xs t))

busy_kept : (q : ℕ) (xs : List ItemRequest) (n : ℕ) (key : ItemKey) → busy_from q (map kept xs) n key ≡ model.busy_from q xs n key
busy_kept q [] n key = refl
busy_kept q (a ∷ xs) n key =
    (λ i. if is_write a.order.ask && (waits_kept a.stage i && ((a.node == n) && is_same_key (key_of a.order.item) key)) then Some q else busy_kept (suc q) xs n key i)

-- ---- admission

-- a request begins where nothing hinders it, and else is refused for that
abbrev pub admitted : State → ℕ → Order → Option ItemRefusal → Outcome
admitted s n order None = begins_reading s n order
admitted s n order (Some r) = refusal s r

module _ (s : State) (n : ℕ) (order : Order) where
  unless : (o : Option ℕ) → unless_busy s n order o ≡ admitted s n order (option_map Busy o)
  unless None = refl
  unless (Some q) = refl

  by_test : (b : Bool) (o : Option ℕ) (t : ℕ) →
      (if b then unless_busy s n order o else refusal s (NoSuchToken t)) ≡ admitted s n order (if b then option_map Busy o else Some (NoSuchToken t))
  by_test true o t = unless o
  by_test false o t = refl

  pub by_ask : (ask : Ask) → admits s n order ask ≡ admitted s n order (hindrance (map kept s.requests) n (key_of order.item) ask)
  by_ask Read = refl
  by_ask (Write value t) =
      let key = key_of order.item in
      by_test (model.is_token s.requests key t) (model.busy_from 1 s.requests n key) t
      ∙ ap (λ b. admitted s n order (if b then option_map Busy (model.busy_from 1 s.requests n key) else Some (NoSuchToken t))) (sym (token_kept s.requests key t))
      ∙ ap (λ o. admitted s n order (if is_token (map kept s.requests) key t then option_map Busy o else Some (NoSuchToken t))) (sym (busy_kept 1 s.requests n key))

-- ---- stages

-- the request at a place is in another stage
pub stage_kept : (xs : List ItemRequest) (i q : ℕ) (m : ItemRequest) (stage : model.Stage) (now : Stage) → i + 1 ≡ q → slice_get xs i ≡ Some m → now ≡ kept_stage stage →
    with_stage (map kept xs) i (slice_get (map kept xs) i) now ≡ map kept (set_stage xs q m stage)
stage_kept xs i q m stage now place there is =
    let at_place : i ≡ q - 1 = omega arith in
    ap (λ o. with_stage (map kept xs) i o now) (get_map xs i ∙ ap (option_map kept) there)
    ∙ ap (λ (t : Stage). slice_set (map kept xs) i (record (kept m) { stage = t })) is
    ∙ sym (map-set kept xs i (record m { stage = stage }))
    ∙ ap (λ n. map kept (slice_set xs n (record m { stage = stage }))) at_place

one_kept : (xs : List ItemRequest) (q : ℕ) (o : Option ItemRequest) → ended_one (map kept xs) q (option_map kept o) ≡ map kept (ends_one xs q o)
one_kept xs q None = refl
one_kept xs q (Some a) = ap (λ b. cond b (slice_set (map kept xs) (q - 1) (record (kept a) { stage = Over })) (map kept xs)) (waits_kept a.stage) ∙ by_open (is_open a.stage) where
  by_open : (b : Bool) → cond b (slice_set (map kept xs) (q - 1) (record (kept a) { stage = Over })) (map kept xs) ≡ map kept (cond b (set_stage xs q a model.over) xs)
  by_open true = sym (map-set kept xs (q - 1) (record a { stage = model.over }))
  by_open false = refl

pub all_kept : (xs : List ItemRequest) (qs : List ℕ) → ended_all (map kept xs) qs ≡ map kept (ends_all xs qs)
all_kept xs [] = refl
all_kept xs (q ∷ qs) =
    ap (λ rs. ended_all rs qs) (ap (ended_one (map kept xs) q) (numbered_map xs q) ∙ one_kept xs q (numbered xs q)) ∙ all_kept (ends_one xs q (numbered xs q)) qs
