-- The steps of an outcome lead to its world; what fits and has room in two parts; and a drain is one delivery after the other.
use Rattle.std.proofs.Common.{◌≡◌, ℕ, zero, suc, Bool, true, false, cond, Option, Some, None, List, [], ◌∷◌, ◌++◌, refl, ap, ◌∙◌}
use Rattle.wire_messages.specs.declared.phase.PhaseEnd.{PhaseEnd}
use Rattle.wire_messages.specs.declared.phase.PhaseEnd.TheVariants.{Row, Window, Kept, Block}
use Rattle.cluster_machine.specs.declared.step.Step.TheVariants.{Deliver}
use Rattle.cluster_machine.specs.declared.step.Words.TheVariants.{Empty}
use Rattle.cluster_machine.specs.Node.{Ended}
use Rattle.cluster_machine.specs.World.{numbered, undelivered}
use Rattle.cluster_machine.specs.Worlds.{next, run, FitAll, HaveRoom}
use Rattle.k2v_rows.specs.declared.k2v_row.K2vRow.{K2vRow}
use Rattle.std.specs.Option.{unwrap_or}
use Rattle.k2v_rows.specs.Row.{row_join, can_put, after_put}
use Rattle.k2v_model.specs.Orders.{empty_row}
use Rattle.k2v_schema.specs.Schema.{words}
use Rattle.k2v_model.specs.declared.order.Ask.{Ask}
use Rattle.k2v_model.specs.declared.order.Ask.TheVariants.{Write, Read}
use Rattle.k2v_model.specs.Run.{World, Moving, ItemRequest, Stage, reading, storing, stored, shown, over, State, Outcome, silent, plainly, effect, doing, token_at, stores, reads_on, follows, follow, goes_on, delivers, then_drains, drains}

-- ---- steps in two parts

pub fit_more : (w : World) (first rest : List Moving) → FitAll row_join words w first → FitAll row_join words (run row_join words w first) rest → FitAll row_join words w (first ++ rest)
fit_more w [] rest a b = b
fit_more w (m ∷ first) rest a b = (a.0, fit_more (next row_join words w m) first rest a.1 b)

pub room_rest : (w : World) (first rest : List Moving) → HaveRoom row_join words w (first ++ rest) → HaveRoom row_join words (run row_join words w first) rest
room_rest w [] rest h = h
room_rest w (m ∷ first) rest h = room_rest (next row_join words w m) first rest h.1

pub room_first : (w : World) (first rest : List Moving) → HaveRoom row_join words w (first ++ rest) → HaveRoom row_join words w first
room_first w [] rest h = tt
room_first w (m ∷ first) rest h = (h.0, room_first (next row_join words w m) first rest h.1)

pub run_more : (w : World) (first rest : List Moving) → run row_join words w (first ++ rest) ≡ run row_join words (run row_join words w first) rest
run_more w [] rest = refl
run_more w (m ∷ first) rest = run_more (next row_join words w m) first rest

-- ---- they lead to the world

abbrev pub Leads : State → Outcome → Type 0
Leads s o = run row_join words s.world o.moves ≡ o.state.world

by_can : (s : State) (b : Bool) (o : Outcome) → Leads s o → Leads s (cond b o (silent s))
by_can s true o h = h
by_can s false o h = refl

reads_on_leads : (s : State) (q : ℕ) (a : ItemRequest) (read : Option K2vRow) (ask : Ask) → Leads s (reads_on s q a read ask)
reads_on_leads s q a read (Write value token) =
    let base = unwrap_or read (empty_row a.order.item) in
    let times = token_at (numbered s.requests token) in by_can s (can_put base a.node q times) (stores s q a (after_put base a.node q value times)) refl
reads_on_leads s q a read Read = refl

follows_leads : (s : State) (q : ℕ) (a : ItemRequest) (end : PhaseEnd K2vRow) (stage : Stage) → Leads s (follows s q a end stage)
follows_leads s q a (Row read) reading = reads_on_leads s q a read a.order.ask
follows_leads s q a (Row read) (storing row) = refl
follows_leads s q a (Row read) (stored row) = refl
follows_leads s q a (Row read) (shown given begun) = refl
follows_leads s q a (Row read) over = refl
follows_leads s q a Kept reading = refl
follows_leads s q a Kept (storing row) = refl
follows_leads s q a Kept (stored row) = refl
follows_leads s q a Kept (shown given begun) = refl
follows_leads s q a Kept over = refl
follows_leads s q a (Window rows more) reading = refl
follows_leads s q a (Window rows more) (storing row) = refl
follows_leads s q a (Window rows more) (stored row) = refl
follows_leads s q a (Window rows more) (shown given begun) = refl
follows_leads s q a (Window rows more) over = refl
follows_leads s q a (Block bytes) reading = refl
follows_leads s q a (Block bytes) (storing row) = refl
follows_leads s q a (Block bytes) (stored row) = refl
follows_leads s q a (Block bytes) (shown given begun) = refl
follows_leads s q a (Block bytes) over = refl

follow_leads : (s : State) (q : ℕ) (o : Option ItemRequest) (end : PhaseEnd K2vRow) → Leads s (follow s q o end)
follow_leads s q None end = refl
follow_leads s q (Some a) end = follows_leads s q a end a.stage

goes_on_leads : (s : State) (ends : List (Ended K2vRow)) → Leads s (goes_on s ends)
goes_on_leads s [] = refl
goes_on_leads s (e ∷ es) = follow_leads s e.request (numbered s.requests e.request) e.how

pub delivers_lead : (s : State) (m : ℕ) → Leads s (delivers s m)
delivers_lead s m = goes_on_leads (doing s (plainly (Deliver m))) (effect s (plainly (Deliver m))).ends

-- ---- drains

pub drains_lead : (n : ℕ) (s : State) → Leads s (drains n s)
drains_lead zero s = refl
drains_lead (suc n) s =
    elim (undelivered s.world) as (λ o. Leads s (elim o as (λ o. Outcome) [ None ↦ silent s | Some m ↦ let o = delivers s m in then_drains o (drains n o.state) ])) [
      | None ↦ refl
      | Some m ↦
          let o : Outcome = delivers s m in
          run_more s.world o.moves (drains n o.state).moves ∙ ap (λ w. run row_join words w (drains n o.state).moves) (delivers_lead s m) ∙ drains_lead n o.state
    ]

-- it says nothing but what its deliveries tell
pub drains_quietly : (n : ℕ) (s : State) → (drains n s).refused ≡ None
drains_quietly zero s = refl
drains_quietly (suc n) s = elim (undelivered s.world) as (λ o. (elim o as (λ o. Outcome) [ None ↦ silent s | Some m ↦ let o = delivers s m in then_drains o (drains n o.state) ]).refused ≡ None) [ None ↦ refl | Some m ↦ refl ]

pub drains_empty : (n : ℕ) (s : State) → (drains n s).words ≡ Empty
drains_empty zero s = refl
drains_empty (suc n) s = elim (undelivered s.world) as (λ o. (elim o as (λ o. Outcome) [ None ↦ silent s | Some m ↦ let o = delivers s m in then_drains o (drains n o.state) ]).words ≡ Empty) [ None ↦ refl | Some m ↦ refl ]

pub drains_one : (n m : ℕ) (s : State) → undelivered s.world ≡ Some m → drains (suc n) s ≡ then_drains (delivers s m) (drains n (delivers s m).state)
drains_one n m s e = rw (e, drains) refl

pub drains_none : (n : ℕ) (s : State) → undelivered s.world ≡ None → drains n s ≡ silent s
drains_none zero s e = refl
drains_none (suc n) s e = rw (e, drains) refl
