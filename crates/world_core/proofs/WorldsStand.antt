-- A world of the code stands for one of the machine where its parts do.
use Rattle.std.proofs.Common.{◌≡◌, ◌<◌, ◌+◌, ◌^◌, IsTrue, Some, None, List, [], ◌++◌, length, refl, sym, subst, ◌∙◌, append-nil, add-zero}
use Rattle.layout_roles.specs.declared.cut.Cut.{Cut}
use Rattle.layout_roles.specs.Certificates.{IsRedundancy}
use Rattle.blake2_hash.specs.Blake2b.{blake2b}
use Rattle.block_laws.proofs.Steps.{next_world}
use Rattle.cluster_machine.specs.Layouts.{layouts}
use Rattle.table_schema.specs.Laws.{Laws}
use Rattle.table_schema.specs.Words.{Words}
use Rattle.cluster_machine.specs.declared.step.Step.{Step}
use Rattle.cluster_machine.specs.declared.step.Words.{Words as Told}
use Rattle.cluster_machine.specs.declared.step.Words.TheVariants.{Empty}
use Rattle.cluster_machine.specs.declared.step.Refusal.{Refusal}
use Rattle.cluster_machine.specs.declared.line.Line.{Line}
use Rattle.cluster_machine.specs.Step.{nothing, refusal, applied}
use Rattle.cluster_machine.specs.declared.applied.Applied.{Applied}
use Rattle.cluster_machine.specs.Choices.{Decision}
use Rattle.cluster_machine.specs.Fits.{IsWord}
use Rattle.cluster_machine.specs.Trio.{trio, stage_trio}
use Rattle.cluster_machine.specs.Blocks.{StepBringsBlocks, AllStocked}
use Rattle.cluster_machine.specs.Worlds.{Model, Done, IsSound, IsLawfulStep, does}
use Rattle.world_laws.proofs.Additions.{fine_stays_sound}
use Rattle.world_laws.proofs.TrioGreatest.{trio_is_first}
use Rattle.world_laws.proofs.Steps.{fine_step}
use Rattle.world_core.specs.declared.report.Report.{Report}
use Rattle.world_core.specs.declared.world.World.{World}
use Rattle.world_core.specs.Parts.{AreClocks, IsPost}
use Rattle.world_core.specs.Nodes.{AreNodes}
use Rattle.world_core.specs.Stands.{StandsFor, Tells, DoesSo}

module _ {R : Type 0} where
  -- what is answered where the step is refused, and where it isn't
  abbrev pub refused_report : Refusal Cut → Report R
  refused_report reason = record { refused = Some reason; words = Empty; lines = []; ends = []; lost = [] }

  abbrev pub told_report : Told → List (Line Applied) → Report R
  told_report words lines = record { refused = None; words = words; lines = lines; ends = []; lost = [] }

  -- the effects tell this, and nothing else
  pub is_told : (report : Report R) (words : Told) (lines : List (Line Applied)) (e : Done R) → report ≡ told_report words lines → e.refused ≡ None → words ≡ e.words → lines ≡ e.tells → e.ends ≡ [] → e.lost ≡ [] → Tells report e
  is_told report words lines e is refused word line ends lost =
      subst (λ r. Tells r e) (sym is) (record { refused = sym refused; words = word; lines = line; ends = sym ends; lost = sym lost })

  -- a world that is sound, and has the blocks of the rows in its nodes and messages
  pub record IsWhole (join : R → R → R) (s : Words R) (w : Model R) : Type 0 where
    pub sound : IsSound w
    pub stocked : AllStocked (blake2b 32) s join w

  -- a lawful step whose phase brings its blocks keeps the world so
  pub whole_after : (join : R → R → R) (s : Words R) (laws : Laws join s) (w : Model R) (step : Step R) (choice : Decision) → IsWhole join s w → StepBringsBlocks (blake2b 32) s step → IsLawfulStep w step choice →
      IsTrue (does join s w (record { step = step; choice = choice })).is_spelled → IsWhole join s (applied w (does join s w (record { step = step; choice = choice })))
  whole_after join s laws w step choice h brings lawful spelled = record {
    sound = fine_stays_sound w _ h.sound (fine_step w h.sound join s trio stage_trio trio_is_first step choice lawful);
    stocked = next_world (blake2b 32) laws layouts trio stage_trio w (record { step = step; choice = choice }) h.stocked brings spelled;
  }

-- all parts stand for those of the world, which is whole; the numbers fit, as the parts and the count of requests say
pub record PartsStand {S R : Type 0} (join : R → R → R) (s : Words R) (c : World S R) (w : Model R) : Type 0 where
  pub nodes : AreNodes join s c.nodes w.nodes
  pub post : IsPost s c.post w.messages w.marks
  pub clocks : AreClocks c.clocks w.time w.skew_of
  pub roles : c.roles.list ≡ w.roles
  pub redundancy : c.redundancy ≡ w.redundancy
  pub wanted : IsRedundancy w.redundancy
  pub applied : c.applied ≡ w.applied
  pub requests : c.requests ≡ w.requests
  pub few : length w.requests < 2 ^ 64
  pub whole : IsWhole join s w

pub whole_of : {S R : Type 0} {join : R → R → R} {s : Words R} {c : World S R} {w : Model R} → StandsFor join s c w → IsWhole join s w
whole_of h = record { sound = h.sound; stocked = h.stocked }

module _ {S R : Type 0} (join : R → R → R) (s : Words R) where
  pub stands_of : (c : World S R) (w : Model R) → PartsStand join s c w → StandsFor join s c w
  stands_of c w h = record {
    nodes = h.nodes;
    post = h.post;
    clocks = h.clocks;
    roles = h.roles;
    redundancy = h.redundancy;
    wanted = h.wanted;
    applied = h.applied;
    requests = h.requests;
    fits = record {
      time = h.clocks.none_late.0;
      clocks = h.clocks.none_late.1;
      messages = h.post.few;
      requests = h.few;
      bytes = subst IsWord (sym h.post.bytes) h.post.small;
    };
    sound = h.whole.sound;
    stocked = h.whole.stocked;
  }

  module _ (c : World S R) (w : Model R) (h : StandsFor join s c w) where
    -- parts that stay, as they stand in the world after effects that add nothing to them
    pub same_post : IsPost s c.post (w.messages ++ []) (w.marks ++ [])
    same_post = subst (λ ms. IsPost s c.post ms (w.marks ++ [])) (sym (append-nil w.messages)) (subst (IsPost s c.post w.messages) (sym (append-nil w.marks)) h.post)

    pub same_clocks : AreClocks c.clocks (w.time + 0) w.skew_of
    same_clocks = subst (λ t. AreClocks c.clocks t w.skew_of) (sym (add-zero w.time)) h.clocks

    pub same_applied : c.applied ≡ w.applied + 0
    same_applied = h.applied ∙ sym (add-zero w.applied)

    pub same_requests : c.requests ≡ w.requests ++ []
    same_requests = h.requests ∙ sym (append-nil w.requests)

    pub same_few : length (w.requests ++ []) < 2 ^ 64
    same_few = subst (λ rs. length rs < 2 ^ 64) (sym (append-nil w.requests)) h.fits.requests

    -- nothing changed
    pub stands_still : StandsFor join s c (applied {A = Applied} {C = Cut} w (nothing w))
    stands_still =
        subst (StandsFor join s c) (sym (λ j. record {
          nodes = w.nodes;
          messages = append-nil w.messages j;
          marks = append-nil w.marks j;
          time = add-zero w.time j;
          skew_of = w.skew_of;
          roles = w.roles;
          redundancy = w.redundancy;
          applied = add-zero w.applied j;
          requests = append-nil w.requests j;
          kept = w.kept;
          reads = w.reads;
          collected = w.collected;
        })) h

    pub plays_nothing : (report : Report R) → report ≡ told_report Empty [] → DoesSo join s c report w (nothing w)
    plays_nothing report is = record { stands = stands_still; tells = is_told report Empty [] (nothing w) is refl refl refl refl refl; spelled = refl }

    pub plays_refusal : (report : Report R) (reason : Refusal Cut) → report ≡ refused_report reason → DoesSo join s c report w (refusal w reason)
    plays_refusal report reason is = record {
      stands = stands_still;
      tells = subst (λ r. Tells r (refusal w reason)) (sym is) (record { refused = refl; words = refl; lines = refl; ends = refl; lost = refl });
      spelled = refl;
    }
