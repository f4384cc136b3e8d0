-- Deliveries of the least message that was neither delivered nor lost, one by one.
use Rattle.std.proofs.Common.{◌≡◌, ℕ, Bool, true, suc, ◌<◌, ◌^◌, Some, None, List, [], ◌++◌, refl, sym, ap, ◌∙◌, subst, append_assoc, append-nil}
use Rattle.crdt_rows.specs.declared.version.Version.{Version}
use Rattle.crdt_rows.specs.AnyRow.{any_join}
use Rattle.object_schema.specs.Schema.{words}
use Rattle.cluster_machine.specs.declared.line.Line.{Line}
use Rattle.cluster_machine.specs.declared.step.Words.TheVariants.{Empty}
use Rattle.cluster_machine.specs.World.{undelivered}
use Rattle.cluster_machine.specs.declared.applied.Applied.{Applied}
use Rattle.cluster_machine.specs.Worlds.{FitAll, HaveRoom, run}
use Rattle.store_model.specs.declared.event.Told.{Told}
use Rattle.store_model.specs.Run.{Moving, State, Outcome, silent, delivers, then_drains, drains}
use Rattle.store_model.specs.Turns.{FitsOutcome}
use Rattle.s3_world.specs.declared.driver.Driver.{Driver}
use Rattle.s3_world.specs.Driven.{IsHanding, IsDriven, HasRun, DoesHeard, PlaysHeard, Overflows}
use Rattle.s3_world.specs.Reads.{Handed, nothing_handed}
use Rattle.s3_world.proofs.Follows.{as_driven}
use Rattle.s3_world.proofs.Heard.{heard_when, when_heard}
use Rattle.store_model.proofs.Drains.{drains_quietly, drains_empty, drains_one, drains_none}
use Rattle.store_model.proofs.Leads.{delivers_lead, run_more}
use Rattle.s3_world.proofs.Parts.{fit_more, room_first, room_rest, all_first, all_rest}

-- the outcome of some deliveries, and then of others
abbrev after_these : List Moving → List Version → List (Line Applied) → Outcome → Outcome
after_these moves versions lines o = record { state = o.state; moves = moves ++ o.moves; new_versions = versions ++ o.new_versions; refused = None; words = Empty; lines = lines ++ o.lines }

-- the driver came to some state, and what was done with up to so many deliveries from there is all; these lines are what was told, where anybody hears it
pub record Drained {F : Type 0} (heard : Bool) (given : Handed) (driver : Driver F) (lines : List (Line Applied)) (left : ℕ) (s : State) (whole : Outcome) : Type 0 where
  pub state : State
  pub stands : IsHanding given driver state
  pub moves : List Moving
  pub versions : List Version
  pub said : List (Line Applied)
  pub says : heard ≡ true → lines ≡ said
  pub fits : FitAll any_join words s.world moves
  pub leads : run any_join words s.world moves ≡ state.world
  pub all : whole ≡ after_these moves versions said (drains left state)

-- whatever state the first driver stood for
pub record Draining {F : Type 0} (heard : Bool) (first now : Driver F) (lines : List (Line Applied)) (left count : ℕ) : Type 0 where
  pub held : HasRun now
  pub drained : (given : Handed) (s : State) → IsHanding given first s → Drained heard given now lines left s (drains count s)

pub draining_none : {F : Type 0} (heard : Bool) (driver : Driver F) (count : ℕ) → HasRun driver → Draining heard driver driver [] count count
draining_none heard driver count has = record {
  held = has;
  drained = λ given s d. record {
    state = s;
    stands = d;
    moves = [];
    versions = [];
    said = [];
    says = λ e. refl;
    fits = tt;
    leads = refl;
    all = λ i. record (drains count s) { refused = drains_quietly count s i; words = drains_empty count s i };
  };
}

module _ {F : Type 0} (heard : Bool) (first now : Driver F) (lines : List (Line Applied)) (left rest count m : ℕ) (e : left ≡ suc rest) (so_far : Draining heard first now lines left count) (least : (s : State) → IsDriven now s → Some m ≡ undelivered s.world) where
  one_left : (s : State) → IsDriven now s → drains left s ≡ then_drains (delivers s m) (drains rest (delivers s m).state)
  one_left s d = ap (λ k. drains k s) e ∙ drains_one rest m s (sym (least s d))

  draining_more : (new : Driver F) (told : Told) → PlaysHeard heard now new told (λ s. delivers s m) → (given : Handed) (s : State) → IsHanding given first s → Drained heard given new (lines ++ told.lines) rest s (drains count s)
  draining_more new told plays given s d =
      let h = so_far.drained given s d in
      let o : Outcome = delivers h.state m in
      let does : DoesHeard given heard new told h.state o = plays given h.state h.stands in
      let then : Outcome = drains rest o.state in
      record {
        state = o.state;
        stands = does.stands;
        moves = h.moves ++ o.moves;
        versions = h.versions ++ o.new_versions;
        said = h.said ++ o.lines;
        says = λ e. let told_so = when_heard heard told o does.tells e in λ i. h.says e i ++ told_so.lines i;
        fits = fit_more s.world h.moves o.moves h.fits (subst (λ w. FitAll any_join words w o.moves) (sym h.leads) does.fits);
        leads = run_more s.world h.moves o.moves ∙ ap (λ w. run any_join words w o.moves) h.leads ∙ delivers_lead h.state m;
        all =
            h.all
            ∙ ap (after_these h.moves h.versions h.said) (one_left h.state (as_driven given now h.state h.stands))
            ∙ (λ i. record (after_these [] [] [] then) {
              moves = sym (append_assoc h.moves o.moves then.moves) i;
              new_versions = sym (append_assoc h.versions o.new_versions then.new_versions) i;
              lines = sym (append_assoc h.said o.lines then.lines) i;
            });
      }

  pub draining_on : (new : Driver F) (told : Told) → PlaysHeard heard now new told (λ s. delivers s m) → Draining heard first new (lines ++ told.lines) rest count
  draining_on new told plays = record { held = ((delivers so_far.held.0 m).state, (plays nothing_handed so_far.held.0 so_far.held.1).stands); drained = draining_more new told plays }

  pub drain_overflows : Overflows now (λ s. delivers s m) → Overflows first (λ s. drains count s)
  drain_overflows full s d fits =
      let h = so_far.drained nothing_handed s d in
      let o : Outcome = delivers h.state m in
      let then : Outcome = drains rest o.state in
      let here : FitsOutcome s (after_these h.moves h.versions h.said (then_drains o then)) = subst (λ (o : Outcome). FitsOutcome s o) (h.all ∙ ap (after_these h.moves h.versions h.said) (one_left h.state h.stands)) fits in
      full h.state h.stands (
        subst (λ w. HaveRoom any_join words w o.moves) h.leads (room_first (run any_join words s.world h.moves) o.moves then.moves (room_rest s.world h.moves (o.moves ++ then.moves) here.0)),
        all_first (λ (v : Version). v.ts < 2 ^ 64) o.new_versions then.new_versions (all_rest (λ (v : Version). v.ts < 2 ^ 64) h.versions (o.new_versions ++ then.new_versions) here.1),
      )

module _ {F : Type 0} (heard : Bool) (first now : Driver F) (lines : List (Line Applied)) (left count : ℕ) (so_far : Draining heard first now lines left count) where
  drained_plays : ((s : State) → IsDriven now s → drains left s ≡ silent s) → PlaysHeard heard first now (record { refused = None; words = Empty; lines = lines }) (λ s. drains count s)
  drained_plays ends given s d =
      let h = so_far.drained given s d in
      let is : drains count s ≡ record { state = h.state; moves = h.moves; new_versions = h.versions; refused = None; words = Empty; lines = h.said } =
      h.all
      ∙ ap (after_these h.moves h.versions h.said) (ends h.state (as_driven given now h.state h.stands))
      ∙ (λ i. record (silent h.state) { moves = append-nil h.moves i; new_versions = append-nil h.versions i; lines = append-nil h.said i })
      in
      subst (λ (o : Outcome). DoesHeard given heard now (record { refused = None; words = Empty; lines = lines }) s o) (sym is) (record {
        stands = h.stands;
        tells = heard_when heard (record { refused = None; words = Empty; lines = lines }) (record { state = h.state; moves = h.moves; new_versions = h.versions; refused = None; words = Empty; lines = h.said }) (λ e. record { refused = refl; words = refl; lines = h.says e });
        fits = h.fits;
      })

  pub drained_early : ((s : State) → IsDriven now s → None ≡ undelivered s.world) → PlaysHeard heard first now (record { refused = None; words = Empty; lines = lines }) (λ s. drains count s)
  drained_early none = drained_plays (λ s d. drains_none left s (sym (none s d)))

  pub drained_all : left ≡ 0 → PlaysHeard heard first now (record { refused = None; words = Empty; lines = lines }) (λ s. drains count s)
  drained_all e = drained_plays (λ s d. ap (λ n. drains n s) e)
