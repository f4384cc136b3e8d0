-- The change after a job leaves the map.
use Rattle.std.specs.Prelude.{◌≡◌, ◌==◌, ℕ, true, false, cond, List, [], ◌∷◌, length}
use Rattle.std.proofs.Common.{sym, subst}
use Rattle.layout_roles.specs.declared.layout.Layout.{Layout}
use Rattle.cluster_machine.specs.Hashes.{NoClash}
use Rattle.cluster_machine.specs.Layouts.{layouts}
use Rattle.store_model.specs.Acts.{Act, after_acts, AreLawfulActs, ActsFit}
use Rattle.store_laws.specs.Hashed.{ActsHash}
use Rattle.serve_model.specs.Clusters.{Cluster}
use Rattle.serve_model.specs.Plain.{Plain}
use Rattle.plain_laws.specs.Blocks.{IsKept}
use Rattle.serve_changes.specs.Changing.{Change, acts_in, changed, Changing, with_change, ChangeFits, acts_due}
use Rattle.plain_changes.specs.Standing.{Standing, acts_of}
use Rattle.plain_changes.specs.Changing.{MayCome}
use Rattle.plain_changes.proofs.Applying.{acts_same}
use Rattle.plain_changes.proofs.Standing.{stands_on, kept_before}

-- the cluster stands with the same map, the changes that are left may be made, and no node keeps a block that none kept before
pub record IsDue (c : Cluster) (P : Plain) (d : Changing) : Type 0 where
  pub layout : Layout
  pub stands : Standing d.cluster P layout
  pub may : MayCome layout d.to_come
  pub kept : (bytes : List ℕ) → IsKept d.cluster.run.world bytes → IsKept c.run.world bytes

-- the change that is made is the one that applies its layout
module _ (c : Cluster) (P : Plain) (l : Layout) (stands : Standing c P l) (ch : Change) (chs : List (ℕ × Change)) (after : ℕ) (may : MayCome l ((after, ch) ∷ chs)) where
  made_due : (acts : List Act) → acts ≡ acts_of ch → AreLawfulActs c.run acts × ActsFit c.run acts → NoClash (ActsHash c.run acts) → IsDue c P (record { cluster = record c { run = after_acts c.run acts; members = layouts.reading.members ch.new }; to_come = chs })
  made_due acts same fit clear =
      let fits : ActsFit c.run (acts_of ch) = subst (ActsFit c.run) same fit.1 in
      let none : NoClash (ActsHash c.run (acts_of ch)) = subst (λ as'. NoClash (ActsHash c.run as')) same clear in
      subst (λ as'. IsDue c P (record { cluster = record c { run = after_acts c.run as'; members = layouts.reading.members ch.new }; to_come = chs })) (sym same)
      (record {
        layout = ch.new;
        stands = stands_on c P l stands ch may.0 may.1 fits none;
        may = may.3;
        kept = λ bytes k. kept_before c P l stands ch may.0 may.1 fits bytes k;
      })

pub due_so : (c : Cluster) (P : Plain) (l : Layout) → Standing c P l → (chs : List (ℕ × Change)) → MayCome l chs → ChangeFits c chs → NoClash (ActsHash c.run (acts_due c chs)) → IsDue c P (with_change c chs)
due_so c P l stands [] may fits clear = record { layout = l; stands = stands; may = tt; kept = λ bytes k. k }
due_so c P l stands (ch ∷ chs) may fits clear =
    let acts = acts_in c.run ch.1 in
    let same : acts ≡ acts_of ch.1 = acts_same c P l stands may.1.few ch.1 may.0 may.1.first may.2 in
    elim (length c.run.world.requests == ch.0) as (λ b. AreLawfulActs c.run (cond b acts []) × ActsFit c.run (cond b acts []) → NoClash (ActsHash c.run (cond b acts [])) → IsDue c P (cond b (record { cluster = changed c ch.1; to_come = chs }) (record { cluster = c; to_come = ch ∷ chs }))) [
      | true ↦ (λ fit none_clash. made_due c P l stands ch.1 chs ch.0 may acts same fit none_clash)
      | false ↦ (λ fit none_clash. record { layout = l; stands = stands; may = may; kept = λ bytes k. k })
    ] fits clear
