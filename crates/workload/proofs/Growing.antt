-- The events of a workload grow turn by turn, so its first ones stay.
use Rattle.std.specs.Prelude.{IfOk}
use Rattle.std.proofs.Common.{Result, Ok, Err, ◌≡◌, ◌<◌, ◌≤◌, ℕ, zero, suc, ◌+◌, ◌-◌, ◌%◌, ◌/◌, true, false, if◌then◌else◌, ◌==◌, List, ◌++◌, length, take, refl, sym, ap, subst, ◌∙◌, ◌⊎◌, inl, inr, arith, length-append}
use Rattle.std.proofs.lemmas.List.{take-append-le}
use Rattle.std.proofs.lemmas.Bool.{cases_lt}
use Rattle.crdt_core.specs.declared.memory.Memory.{Memory}
use Rattle.store_model.specs.declared.event.Event.{Event}
use Rattle.store_model.specs.declared.event.Numbered.{Numbered}
use Rattle.workload.specs.Turns.{plain_turn}
use Rattle.workload.specs.Change.{change}
use Rattle.workload.specs.Schedule.{opening, turn_of, followed, made, on_lines, schedule}

pub made_next : (seed i : ℕ) → made seed (i + 1) ≡ followed (i + 1) (made seed i)
unfolding made
made_next seed i = let e : i + 1 ≡ suc i = omega arith in rw e refl

-- a turn has an event or more
pub turn_has_events : (i x e : ℕ) → 1 ≤ length (turn_of i x e).events
unfolding plain_turn change
turn_has_events i x e =
    elim (i % 250 == 0) as (λ b. 1 ≤ length (if b then record { events = change (i / 250); state = x } else plain_turn x e).events) [
      | true ↦ omega arith
      | false ↦ omega arith
    ]

-- what was made, by its parts
abbrev pub IsMade : ℕ → ℕ → List Event → ℕ → Type 0
IsMade seed i events state = (events ≡ (made seed i).events) × (state ≡ (made seed i).state)

pub made_first : (seed : ℕ) (events : List Event) (state : ℕ) → events ≡ opening → state ≡ seed → IsMade seed 0 events state
unfolding made
made_first seed events state h k = (h, k)

pub turn_follows : (seed i : ℕ) (events events' : List Event) (x x' : ℕ) → IsMade seed i events x → events' ≡ events ++ (turn_of (i + 1) x (length events)).events → x' ≡ (turn_of (i + 1) x (length events)).state → IsMade seed (i + 1) events' x'
turn_follows seed i events events' x x' h grown went =
    rw (made_next seed i) (
      grown ∙ ap (λ es. es ++ (turn_of (i + 1) x (length es)).events) h.0 ∙ ap (λ y. (made seed i).events ++ (turn_of (i + 1) y (length (made seed i).events)).events) h.1,
      went ∙ ap (λ es. (turn_of (i + 1) x (length es)).state) h.0 ∙ ap (λ y. (turn_of (i + 1) y (length (made seed i).events)).state) h.1,
    )

next_events : (seed i : ℕ) → (made seed (suc i)).events ≡ (made seed i).events ++ (turn_of (suc i) (made seed i).state (length (made seed i).events)).events
unfolding made
next_events seed i = refl

opens : (seed : ℕ) → (made seed 0).events ≡ opening
unfolding made
opens seed = refl

-- the opening and i turns have more than i events
pub made_has_events : (seed i : ℕ) → i + 3 ≤ length (made seed i).events
made_has_events seed zero = rw (opens seed) (omega arith)
made_has_events seed (suc i) =
    let before = made_has_events seed i in
    let more = turn_has_events (suc i) (made seed i).state (length (made seed i).events) in
    rw (next_events seed i) (rw (length-append (made seed i).events (turn_of (suc i) (made seed i).state (length (made seed i).events)).events) (omega arith))

-- events that are there stay, whatever turns follow
stays : (seed n i j : ℕ) → n ≤ length (made seed j).events → (take n (made seed (i + j)).events ≡ take n (made seed j).events) × (n ≤ length (made seed (i + j)).events)
stays seed n zero j h = let e : 0 + j ≡ j = omega arith in rw e (refl, h)
stays seed n (suc i) j h =
    let e : suc i + j ≡ suc (i + j) = omega arith in
    let before = stays seed n i j h in
    let next = (turn_of (suc (i + j)) (made seed (i + j)).state (length (made seed (i + j)).events)).events in
    rw e (rw (next_events seed (i + j)) (
      take-append-le n (made seed (i + j)).events next before.1 ∙ before.0,
      rw (length-append (made seed (i + j)).events next) (omega (arith, before.1)),
    ))

-- so where j turns have n events, these are those that n turns have first
pub first_events : (seed n j : ℕ) → n ≤ length (made seed j).events → take n (made seed j).events ≡ take n (made seed n).events
first_events seed n j h = by_order (cases_lt j n) where
  by_order : (j < n) ⊎ (n ≤ j) → take n (made seed j).events ≡ take n (made seed n).events
  by_order (inl lt) =
      let e : n - j + j ≡ n = omega arith in
      sym (subst (λ k. take n (made seed k).events ≡ take n (made seed j).events) e (stays seed n (n - j) j h).0)
  by_order (inr le) =
      let e : j - n + n ≡ j = omega arith in
      let long : n ≤ length (made seed n).events = omega (arith, made_has_events seed n) in
      subst (λ k. take n (made seed k).events ≡ take n (made seed n).events) e (stays seed n (j - n) n long).0

-- the first n of what j turns made, on lines, are the schedule
pub is_schedule : (n seed j : ℕ) (events first : List Event) → events ≡ (made seed j).events → n ≤ length events → first ≡ take n events → on_lines 1 first ≡ schedule n seed
is_schedule n seed j events first h long is =
    ap (on_lines 1) (is ∙ ap (take n) h ∙ first_events seed n j (subst (λ es. n ≤ length es) h long))

-- a turn leaves fewer events to be made
pub shorter : (i x n : ℕ) (events events' : List Event) → events' ≡ events ++ (turn_of i x (length events)).events → length events < n → n - length events' < n - length events
shorter i x n events events' grown few =
    let more = turn_has_events i x (length events) in
    rw grown (rw (length-append events (turn_of i x (length events)).events) (omega (arith, more)))

-- an answer that is one list is the same list under another name
pub if_same : (r : Result (List Numbered) Memory) (xs ys : List Numbered) → IfOk r (λ zs. zs ≡ xs) → xs ≡ ys → IfOk r (λ zs. zs ≡ ys)
if_same (Ok zs) xs ys h e = h ∙ e
if_same (Err m) xs ys h e = tt
