-- What phases give: rows with the property, and blocks that are short.
use Rattle.std.specs.Prelude.{◌≡◌, ℕ, true, false, cond, List, [], ◌∷◌, Option, Some, None, length, refl, ⊤}
use Rattle.std.specs.List.{AllByRecursion}
use Rattle.std.proofs.Common.{subst}
use Rattle.layout_roles.specs.declared.cut.Cut.{Cut}
use Rattle.layout_roles.specs.declared.layout.Layout.{Layout}
use Rattle.table_schema.specs.Words.{Words}
use Rattle.wire_messages.specs.declared.phase.PhaseEnd.{PhaseEnd}
use Rattle.wire_messages.specs.declared.phase.PhaseEnd.TheVariants.{Row as GaveRow, Window as GaveWindow, Kept as IsKept, Block as GaveBlock}
use Rattle.cluster_machine.specs.declared.applied.Applied.{Applied}
use Rattle.cluster_machine.specs.declared.step.Step.TheVariants.{Deliver}
use Rattle.cluster_machine.specs.declared.step.Refusal.TheVariants.{Lost}
use Rattle.cluster_machine.specs.Layouts.{layouts}
use Rattle.cluster_machine.specs.Node.{Present, resting, asking, scanning, storing, fetching, Call, Packet, Reading, Ended}
use Rattle.cluster_machine.specs.Receives.{receives}
use Rattle.cluster_machine.specs.Keeping.{AreDifferent}
use Rattle.cluster_machine.specs.World.{Sent, Mark, numbered, clock}
use Rattle.cluster_machine.specs.Step.{Choice, refusal, received, did, at_message}
use Rattle.cluster_machine.specs.Worlds.{Model, Done, does}
use Rattle.machine_origins.specs.Following.{EndsSo, AtMostOne}
use Rattle.machine_origins.proofs.Lists.{all_numbered}
use Rattle.machine_origins.proofs.Sound.{Asks, IsPacket, IsNode, IsGiven, IsSent, EndsAs}
use Rattle.machine_origins.proofs.Doing.{receives_done}
use Rattle.machine_origins.proofs.FollowingSteps.{follows_receives}
use Rattle.machine_limits.specs.Bounds.{AreBounded}
use Rattle.machine_limits.specs.Steps.{IsShort}
use Rattle.machine_limits.proofs.Contents.{rules_of}
use Rattle.machine_limits.proofs.Nodes.{Machine, Short, NodeFits}
use Rattle.machine_limits.proofs.Worlds.{WorldFits}

-- what a phase gave fits
abbrev pub GivesFit : {R : Type 0} → (R → Type 0) → PhaseEnd R → Type 0
GivesFit P (GaveRow None) = ⊤
GivesFit P (GaveRow (Some r)) = P r
GivesFit P (GaveWindow rs end) = ⊤
GivesFit P IsKept = ⊤
GivesFit P (GaveBlock bytes) = IsShort bytes

module _ {R : Type 0} {join : R → R → R} {s : Words R} {P : R → Type 0} {weight : R → ℕ} (bounded : AreBounded join s P weight) where
  abbrev AllFit : List (Ended R) → Type 0
  AllFit ends = AllByRecursion (λ (e : Ended R). GivesFit P e.how) ends

  module _ (g : Asks) (count n : ℕ) (x : Machine R) (i : IsNode join s P Short g count n x) where
    end_by : (p : Present R) (request : ℕ) (how : PhaseEnd R) (keeps : List R) (reads : List (Reading R)) → EndsSo p how keeps reads → AllByRecursion (IsGiven join s P Short) reads → EndsAs join s P Short x.calls request how → GivesFit P how
    end_by p request (GaveRow None) keeps reads so given fetched = tt
    end_by (asking q as') request (GaveRow (Some r)) keeps reads so given fetched = (subst (AllByRecursion (IsGiven join s P Short)) so.1 given).0.0.0
    end_by resting request (GaveRow (Some r)) keeps reads so given fetched = absurd so
    end_by (scanning q as') request (GaveRow (Some r)) keeps reads so given fetched = absurd so
    end_by (storing rs slots) request (GaveRow (Some r)) keeps reads so given fetched = absurd so
    end_by (fetching hash) request (GaveRow (Some r)) keeps reads so given fetched = absurd so
    end_by p request (GaveWindow rs end) keeps reads so given fetched = tt
    end_by p request IsKept keeps reads so given fetched = tt
    end_by p request (GaveBlock bytes) keeps reads so given fetched = fetched.has

    ends_by : (new : List (Call R)) (ends : List (Ended R)) (keeps : List R) (reads : List (Reading R)) → AtMostOne x.calls new ends keeps reads → AllByRecursion (IsGiven join s P Short) reads →
        AllByRecursion (λ (e : Ended R). EndsAs join s P Short x.calls e.request e.how) ends → AllFit ends
    ends_by new [] keeps reads one given fetched = tt
    ends_by new (e ∷ []) keeps reads one given fetched = (end_by one.call.present e.request e.how keeps reads one.ends_so given fetched.0, tt)
    ends_by new (e ∷ f ∷ es) keeps reads one given fetched = absurd one

    -- what a message ends
    pub receives_gives : {sent : ℕ} → AreDifferent x.calls → (t k : ℕ) → NodeFits join s weight t k sent x → (now from : ℕ) (p : Packet R Layout) → IsPacket join s P Short g from n p → AllFit (receives join s layouts n now x from p).ends
    receives_gives differ t k f now from p is =
        let d = receives join s layouts n now x from p in
        let done = receives_done (rules_of bounded) Short layouts g count n x i now from p f.blocks is in
        let follow = follows_receives join s layouts x differ n now from p in
        ends_by d.node.calls d.ends d.keeps d.reads follow.ends done.reads done.ends

  -- what a delivery ends
  pub delivery_gives : (t k b : ℕ) (w : Model R) (i : ℕ) (choice : Choice Layout Applied Cut) → WorldFits join s P weight t k b w → AllFit (does join s w (record { step = Deliver i; choice = choice })).ends
  delivery_gives t k b w i choice fits = by_message (numbered w.messages i) (numbered w.marks i) refl
    where
      delivered : Sent R Layout → Done R
      delivered sent = received i (did w sent.to (receives join s layouts sent.to (clock w sent.to) (w.nodes sent.to) sent.from sent.packet))

      by_message : (o : Option (Sent R Layout)) (mark : Option Mark) → numbered w.messages i ≡ o → AllFit (at_message w delivered o mark).ends
      by_message None mark e = tt
      by_message (Some x) None e = tt
      by_message (Some x) (Some mark) e =
          let here = receives_gives fits.asks (length w.requests) x.to (w.nodes x.to) (fits.rows.nodes x.to) (fits.sound.different x.to) t k (fits.nodes x.to) (clock w x.to) x.from x.packet (all_numbered (IsSent join s P Short fits.asks) w.messages i x fits.rows.messages e) in
          elim mark.is_lost as (λ c. AllFit (cond c (refusal w Lost) (delivered x)).ends) [ true ↦ tt | false ↦ here ]
