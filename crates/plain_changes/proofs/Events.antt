-- A cluster answers jobs as the map does, through any number of layout changes.
use Rattle.std.specs.Prelude.{◌≡◌, ◌≤◌, ℕ, true, Bool, false, cond, IsTrue, Some, None, List, [], ◌∷◌, refl}
use Rattle.std.specs.Option.{unwrap_or}
use Rattle.std.proofs.Common.{ap, sym, subst, ◌∙◌, arith}
use Rattle.crdt_rows.specs.AnyRow.{any_join}
use Rattle.crdt_rows.specs.declared.any_row.AnyRow.{AnyRow}
use Rattle.object_schema.specs.Schema.{words}
use Rattle.layout_roles.specs.declared.layout.Layout.{Layout}
use Rattle.layout_roles.specs.declared.cut.Cut.{Cut}
use Rattle.quorum_model.specs.Quorum.{is_among}
use Rattle.cluster_machine.specs.declared.applied.Applied.{Applied}
use Rattle.cluster_machine.specs.declared.step.Step.TheVariants.{Trio}
use Rattle.cluster_machine.specs.declared.step.Refusal.TheVariants.{VersionLimit}
use Rattle.cluster_machine.specs.Choices.{IsFirst}
use Rattle.cluster_machine.specs.Layouts.{layouts}
use Rattle.cluster_machine.specs.Run.{IsLayout}
use Rattle.cluster_machine.specs.Step.{none_given, effects}
use Rattle.cluster_machine.specs.Acts.{appends}
use Rattle.cluster_machine.specs.Node.{Block, new_node}
use Rattle.cluster_machine.specs.World.{empty}
use Rattle.crdt_core.specs.Members.{OneOf}
use Rattle.machine_laws.specs.Follows.{Follows}
use Rattle.machine_laws.proofs.Runs.{goes, reached_all, follows_empty}
use Rattle.machine_laws.proofs.Controls.{turned}
use Rattle.control_model.specs.Steps.{run as turn_all}
use Rattle.world_laws.proofs.Sets.{first_is_layout}
use Rattle.store_model.specs.Fresh.{NoClash}
use Rattle.store_model.specs.Run.{start}
use Rattle.store_model.specs.Acts.{installs, acted}
use Rattle.serve_model.specs.Stores.{Job}
use Rattle.serve_model.specs.Clusters.{Cluster, cluster, fits, acts_at}
use Rattle.serve_model.specs.Plain.{Plain, plain, AreApart}
use Rattle.drained_laws.specs.Calm.{IsMember}
use Rattle.drained_laws.proofs.Posts.{three_at, member_at}
use Rattle.drained_laws.proofs.Views.{among_here}
use Rattle.change_laws.proofs.Reached.{reached_rests}
use Rattle.plain_laws.specs.Blocks.{IsBlockAt}
use Rattle.plain_laws.specs.Holds.{Holds}
use Rattle.plain_laws.proofs.First.{first_holds}
use Rattle.plain_laws.proofs.Stores.{carries_grow, job_follows}
use Rattle.plain_changes.specs.Standing.{Standing, after_change}
use Rattle.plain_changes.specs.Events.{Event, asks, changes, EventsFit, AnswersThrough}
use Rattle.plain_changes.proofs.FirstRests.{first_rests}
use Rattle.plain_changes.proofs.Modest.{AllSaid, IsTame, GoesOn}
use Rattle.plain_changes.proofs.Ordered.{acts_go, job_orderly}
use Rattle.plain_changes.proofs.Standing.{stands_on}

-- ---- the layout of a map

some_member : (l : Layout) → IsLayout layouts 256 l → (n : ℕ) × IsMember layouts l n
some_member l layout =
    let three = three_at layouts l layout 0 (omega arith) in
    (three.one, member_at layouts l layout 0 three.one (omega arith) (subst (λ ms. is_among three.one ms ≡ true) (sym three.are) (among_here three.one (three.two ∷ three.three ∷ []))))

-- it is the one that the members have
layout_is : (c : Cluster) (P : Plain) (h : Holds c P) (l : Layout) → IsLayout layouts 256 l → c.members ≡ layouts.reading.members l → ((n : ℕ) → IsMember layouts l n → (c.run.world.nodes n).view.layouts ≡ l ∷ []) → h.layout ≡ l
layout_is c P h l layout members alone =
    let m = some_member l layout in
    let there : IsMember layouts h.layout m.0 = subst (λ ms. IsTrue (is_among m.0 ms)) (sym members ∙ h.members_are) m.1 in
    ap (λ ls. first_of ls) (sym (h.rest.views m.0 there) ∙ alone m.0 m.1)
  where
    first_of : List Layout → Layout
    first_of [] = l
    first_of (x ∷ xs) = x

-- ---- one job

module _ (c : Cluster) (P : Plain) (l : Layout) (stands : Standing c P l) (clash : NoClash P.buckets) (some : 1 ≤ P.block) (time : ℕ) (job : Job) (apart : AreApart (IsBlockAt c P job)) (fit : fits c time job) where
  abbrev then : Cluster
  then = (cluster.carries c time job).state

  abbrev now : Plain
  now = (plain.carries P time job).state

  is_layout : IsLayout layouts 256 l
  is_layout = subst (IsLayout layouts 256) stands.at stands.holds.is_layout

  tame : IsTame c.run.world
  tame = record { matched = stands.rest.marked; said = subst AllSaid (sym stands.rest.delivered) tt }

  goes_there : GoesOn c.run.world then.run.world
  goes_there = acts_go (acts_at c time job) c.run (job_orderly c time job) tame

  pub holds_then : Holds then now
  holds_then = (job_follows c P time job stands.holds clash some apart fit).agrees.holds

  alone : (n : ℕ) → IsMember layouts l n → (then.run.world.nodes n).view.layouts ≡ l ∷ []
  alone n member = goes_there.layouts_stay n ∙ (stands.rest.members n member).layouts

  members_are : then.members ≡ layouts.reading.members l
  members_are = stands.holds.members_are ∙ ap (λ x. layouts.reading.members x) stands.at

  follows_then : Follows layouts 256 then.run.world
  follows_then = goes_there.follows stands.follows

  pub stands_then : Standing then now l
  stands_then = record {
    holds = holds_then;
    at = layout_is then now holds_then l is_layout members_are alone;
    rest = reached_rests layouts then.run.world follows_then l is_layout alone (goes_there.versions_stay ∙ stands.rest.applied) holds_then.rest.calls holds_then.rest.marked holds_then.rest.delivered;
    apart = λ a b here there same. apart a b ((job_follows c P time job stands.holds clash some apart fit).keeps a here) ((job_follows c P time job stands.holds clash some apart fit).keeps b there) same;
    follows = follows_then;
  }

-- ---- all of them

pub answers_through : (c : Cluster) (P : Plain) (l : Layout) → Standing c P l → NoClash P.buckets → 1 ≤ P.block → (es : List Event) → EventsFit c P l es → AnswersThrough c P l es
answers_through c P l stands clash some [] fit = record { ends = tt; stands = stands }
answers_through c P l stands clash some (asks time job ∷ es) fit =
    let grown = carries_grow P time job in
    let rest = answers_through (cluster.carries c time job).state (plain.carries P time job).state l (stands_then c P l stands clash some time job fit.0 fit.1)
    (subst NoClash (sym grown.buckets) clash) (subst (λ b. 1 ≤ b) (sym grown.block) some) es fit.2 in
    record {
      ends = ((job_follows c P time job stands.holds clash some fit.0 fit.1).agrees.end, rest.ends);
      stands = rest.stands;
    }
answers_through c P l stands clash some (changes ch ∷ es) fit =
    let rest = answers_through (after_change c ch) P ch.new (stands_on c P l stands ch fit.0 fit.1 fit.2 fit.3) clash some es fit.4 in
    record { ends = rest.ends; stands = rest.stands }

-- ---- from a first layout on

module _ (first : Layout) (buckets : List (List ℕ)) (block : ℕ) (is : IsFirst first) where
  abbrev begun : Cluster
  begun = record { run = (acted (record start { buckets = buckets; block = block }) (installs first)).state; ticked = 0; members = layouts.reading.members first }

  abbrev none_yet : Plain
  none_yet = record { buckets = buckets; block = block; clock = 0; ticked = 0; asked = 0; entries = [] }

  follows_begun : Follows layouts 256 begun.run.world
  follows_begun =
      let f : Follows layouts 256 (empty {R = AnyRow} {L = Layout}) = follows_empty layouts 256 (omega arith) in
      let g = goes {A = Applied} {C = Cut} any_join words layouts first (λ roles. roles) 256 (first_is_layout first is) is.version empty f.control_world Trio (none_given VersionLimit) f.reached f.same tt in
      record {
        control_world = turn_all layouts.reading 256 f.control_world g.steps;
        reached = reached_all layouts 256 f.control_world g.steps f.reached;
        same = turned layouts 256 empty f.control_world (turn_all layouts.reading 256 f.control_world g.steps) (effects any_join words layouts first (λ roles. roles) empty Trio (none_given VersionLimit)) f.same g.turns;
      }

  no_blocks : (b : Bool) (bytes : List ℕ) → OneOf (λ (x : Block). x.bytes ≡ bytes) (unwrap_or (cond b (Some (appends {R = AnyRow} layouts new_node first)) None) new_node).blocks → ⊥
  no_blocks true bytes h = h
  no_blocks false bytes h = h

  pub stands_begun : Standing begun none_yet first
  stands_begun =
      let h = first_holds first buckets block 0 is in
      let r = first_rests first buckets block is in
      record {
        holds = h;
        at = layout_is begun none_yet h first (first_is_layout first is) refl (λ n member. (r.members n member).layouts);
        rest = r;
        apart = λ a b here there same. absurd (no_blocks (is_among here.0 (layouts.reading.members first)) a here.1);
        follows = follows_begun;
      }
