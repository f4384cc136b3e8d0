-- A world in which one part changed: what is staged, the time, or the skews.
use Rattle.std.proofs.Common.{◌≡◌, ◌≤◌, add-zero, ◌+◌, ◌==◌, ℕ, cond, Option, [], refl, sym, subst}
use Rattle.layout_roles.specs.declared.redundancy.Redundancy.{Redundancy}
use Rattle.layout_roles.specs.declared.roles.Roles.{Roles}
use Rattle.layout_roles.specs.declared.role.Zone.{Zone}
use Rattle.layout_roles.specs.declared.role.Kind.{Kind}
use Rattle.layout_roles.specs.Certificates.{IsRedundancy}
use Rattle.table_schema.specs.Laws.{Laws}
use Rattle.table_schema.specs.Words.{Words}
use Rattle.cluster_machine.specs.declared.step.Step.TheVariants.{Role as Stage, Redundancy as Spread, Tick, Skew}
use Rattle.cluster_machine.specs.declared.step.Words.TheVariants.{Empty}
use Rattle.cluster_machine.specs.World.{staged}
use Rattle.world_core.specs.declared.report.Report.{Report}
use Rattle.world_core.specs.declared.world.World.{World}
use Rattle.world_core.specs.declared.clocks.Clocks.{Clocks}
use Rattle.world_core.specs.Parts.{AreClocks, NoneLate}
use Rattle.world_core.specs.Stands.{Plays, Exceeds, nothing_given}
use Rattle.world_core.proofs.WorldsStand.{stands_of, whole_after, same_post, same_clocks, same_applied, same_requests, same_few, told_report, is_told, whole_of}

module _ {S R : Type 0} (join : R → R → R) (s : Words R) (laws : Laws join s) (c : World S R) (report : Report R) (is : report ≡ told_report Empty []) where
  pub staged_plays : (node : ℕ) (role : Option (Zone × Kind)) (roles : Roles) → (1 ≤ node) × (node ≤ 64) → roles.list ≡ staged node role c.roles.list → Plays join s c (record c { roles = roles }) report (Stage node role)
  staged_plays node role roles numbered new w h = record {
    stands = stands_of join s (record c { roles = roles }) _ (record {
      nodes = h.nodes;
      post = same_post join s c w h;
      clocks = same_clocks join s c w h;
      roles = subst (λ rs. roles.list ≡ staged node role rs) h.roles new;
      redundancy = h.redundancy;
      wanted = h.wanted;
      applied = same_applied join s c w h;
      requests = same_requests join s c w h;
      few = same_few join s c w h;
      whole = whole_after join s laws w (Stage node role) nothing_given (whole_of h) tt tt refl;
    });
    tells = is_told report Empty [] _ is refl refl refl refl refl;
    spelled = refl;
  }

  pub spread_plays : (wanted : Redundancy) → IsRedundancy wanted → Plays join s c (record c { redundancy = wanted }) report (Spread wanted)
  spread_plays wanted one w h = record {
    stands = stands_of join s (record c { redundancy = wanted }) _ (record {
      nodes = h.nodes;
      post = same_post join s c w h;
      clocks = same_clocks join s c w h;
      roles = h.roles;
      redundancy = refl;
      wanted = one;
      applied = same_applied join s c w h;
      requests = same_requests join s c w h;
      few = same_few join s c w h;
      whole = whole_after join s laws w (Spread wanted) nothing_given (whole_of h) tt tt refl;
    });
    tells = is_told report Empty [] _ is refl refl refl refl refl;
    spelled = refl;
  }

  pub tick_plays : (ms : ℕ) (clocks : Clocks) → ((time : ℕ) (skew_of : ℕ → ℕ) → AreClocks c.clocks time skew_of → AreClocks clocks (time + ms) skew_of) → Plays join s c (record c { clocks = clocks }) report (Tick ms)
  tick_plays ms clocks ticked w h = record {
    stands = stands_of join s (record c { clocks = clocks }) _ (record {
      nodes = h.nodes;
      post = same_post join s c w h;
      clocks = ticked w.time w.skew_of h.clocks;
      roles = h.roles;
      redundancy = h.redundancy;
      wanted = h.wanted;
      applied = same_applied join s c w h;
      requests = same_requests join s c w h;
      few = same_few join s c w h;
      whole = whole_after join s laws w (Tick ms) nothing_given (whole_of h) tt tt refl;
    });
    tells = is_told report Empty [] _ is refl refl refl refl refl;
    spelled = refl;
  }

  pub skew_plays : (node ms : ℕ) (clocks : Clocks) → ((time : ℕ) (skew_of : ℕ → ℕ) → AreClocks c.clocks time skew_of → AreClocks clocks time (λ n. cond (n == node) ms (skew_of n))) →
      Plays join s c (record c { clocks = clocks }) report (Skew node ms)
  skew_plays node ms clocks skewed w h = record {
    stands = stands_of join s (record c { clocks = clocks }) _ (record {
      nodes = h.nodes;
      post = same_post join s c w h;
      clocks = subst (λ t. AreClocks clocks t (λ n. cond (n == node) ms (w.skew_of n))) (sym (add-zero w.time)) (skewed w.time w.skew_of h.clocks);
      roles = h.roles;
      redundancy = h.redundancy;
      wanted = h.wanted;
      applied = same_applied join s c w h;
      requests = same_requests join s c w h;
      few = same_few join s c w h;
      whole = whole_after join s laws w (Skew node ms) nothing_given (whole_of h) tt tt refl;
    });
    tells = is_told report Empty [] _ is refl refl refl refl refl;
    spelled = refl;
  }

module _ {S R : Type 0} (join : R → R → R) (s : Words R) (c : World S R) where
  pub tick_exceeds : (ms : ℕ) → ((time : ℕ) (skew_of : ℕ → ℕ) → AreClocks c.clocks time skew_of → NoneLate (time + ms) skew_of → ⊥) → Exceeds join s c (Tick ms)
  tick_exceeds ms late w h room = let fits = room.0.0 in late w.time w.skew_of h.clocks (fits.time, fits.clocks)

  pub skew_exceeds : (node ms : ℕ) → ((time : ℕ) (skew_of : ℕ → ℕ) → AreClocks c.clocks time skew_of → NoneLate time (λ n. cond (n == node) ms (skew_of n)) → ⊥) → Exceeds join s c (Skew node ms)
  skew_exceeds node ms late w h room =
      let fits = room.0.0 in late w.time w.skew_of h.clocks (subst (λ t. NoneLate t (λ n. cond (n == node) ms (w.skew_of n))) (add-zero w.time) (fits.time, fits.clocks))
