-- Every step of a prompt run leads on, and so does every prompt run.
use Rattle.std.specs.Prelude.{◌≡◌, ◌⊎◌, ◌≤◌, ◌<◌, ◌+◌, ℕ, suc, Bool, true, false, not, cond, ◌==◌, ◌&&◌, leb, List, [], ◌∷◌, ◌++◌, length, Option, Some, None, IsTrue, map, refl}
use Rattle.std.specs.Option.{unwrap_or}
use Rattle.std.specs.List.{AllByRecursion}
use Rattle.std.proofs.Common.{ap, sym, subst, ◌∙◌, inl, inr, arith}
use Rattle.std.proofs.lemmas.Bool.{leb-false}
use Rattle.crdt_core.specs.Members.{Has}
use Rattle.control_model.specs.World as control
use Rattle.control_model.specs.Reached as reach
use Rattle.layout_roles.specs.declared.role.Role.{Role}
use Rattle.view_model.specs.View.{View, oldest, newest, cleaned, merged}
use Rattle.table_schema.specs.Words.{Words, partition_of}
use Rattle.table_schema.specs.Laws.{Laws}
use Rattle.table_model.specs.Rows.{row_at}
use Rattle.wire_messages.specs.declared.message.Message.{Message}
use Rattle.wire_messages.specs.declared.message.Message.TheVariants.{Get, Row, Range, Rows, Store, Stored, Behind, NotHere, BlockGet, Block, NoBlock, Walk as AsksValue, Same as HasSame, Differ, Tomb, Tombed, Forget}
use Rattle.wire_messages.specs.declared.phase.Phase.{Phase}
use Rattle.wire_messages.specs.declared.phase.Phase.TheVariants.{Read, Range as Scans, Store as Keeps, Block as Fetches}
use Rattle.collection_model.specs.Action as act
use Rattle.collection_model.specs.Action.{run, step, Happens}
use Rattle.collection_laws.proofs.Sound.{IsSound}
use Rattle.collection_laws.proofs.Steps.{run_sound, first_sound}
use Rattle.cluster_machine.specs.declared.step.Step.{Step}
use Rattle.cluster_machine.specs.declared.step.Step.TheVariants.{Trio, Role as Stage, Redundancy as Spread, Apply, Tick, Skew, Deliver, Lose, Expire, Restart, Gossip, Ack, Sync as Syncs, SyncAck, Clean, Work, Repair, Collect, Open, Phase as Begin, Close}
use Rattle.cluster_machine.specs.declared.step.Action.{Action}
use Rattle.cluster_machine.specs.declared.step.Action.TheVariants.{Ack as RaiseAck, Sync as GoOn, SyncAck as RaiseSyncAck, Clean as CleanUp, Work as WorkOff, Repair as Mend, Collect as Gather}
use Rattle.cluster_machine.specs.Layouts.{Layouts}
use Rattle.cluster_machine.specs.Node.{Call, Item, Part, Round, Node, Packet, says, shows, Did, quiet}
use Rattle.cluster_machine.specs.Phases.{closed, opened, begins, call_at}
use Rattle.cluster_machine.specs.Rounds.{walks_of, parts_of, may_sync, other_nodes, begin_round, new_walks, walked_anew, again}
use Rattle.cluster_machine.specs.Receives.{hears, receives}
use Rattle.cluster_machine.specs.Acts.{Acted, acts, appends, restarts, unconfirmed}
use Rattle.cluster_machine.specs.Collects.{all_nodes}
use Rattle.cluster_machine.specs.World.{Sent, Mark, Request, World, numbered, clock, empty}
use Rattle.cluster_machine.specs.Step.{Choice, given, none_given, Effects, nothing, refusal, only, did, at_message, expires, closing, chosen, applies_at, trio_applies, acting, begun, beginning, effects, changed, applied}
use Rattle.cluster_machine.specs.Run.{Move, IsLayout, does, next, run as run_moves, IsRun}
use Rattle.machine_laws.proofs.Rounding.{Goes}
use Rattle.machine_laws.proofs.Runs.{goes, all_numbered}
use Rattle.machine_collects.specs.Versions.{Version, Versions, VersionLaws, hour}
use Rattle.machine_collects.specs.Prompt.{ComesInTime, BeginsInTime, IsPromptStep, ArePrompt, moments_after}
use Rattle.machine_collects.specs.Tie.{State, Issued, none_issued, IsOf, IsNoObject, Means, MeansPacket, MeansMessage, IsNode, IsTied}
use Rattle.machine_collects.proofs.Growth.{Act, grew_run, later_self, same_self}
use Rattle.machine_collects.proofs.Leads.{Place, Leads, by_nodes, moved, stays, reached_of}
use Rattle.machine_collects.proofs.Still.{Calm, calm_self, quiet_leads, acts_of}
use Rattle.machine_collects.proofs.Sends.{MeansPost, means_each, starts_mean, items_mean}
use Rattle.machine_collects.proofs.Hearing.{StillDid, still_self, row_still, rows_still, block_still, confirms_still, where_calm, gives_row_calm, gives_rows_calm, gives_block_calm, get_means, range_means, block_means, calm_goes_on, posts_cond, Walked, walks_on_walked, compares_walked}
use Rattle.machine_collects.proofs.Doing.{changed_is, IsDid, did_leads}
use Rattle.machine_collects.proofs.Acting.{acts_with, after_moves, acts_lead, stay_all, store_leads, view_leads, stores_all, store_all, was_stored, stores_mean, with_rows}
use Rattle.machine_collects.proofs.Tombs.{tomb_leads}
use Rattle.machine_collects.proofs.Forgetting.{forget_leads}
use Rattle.machine_collects.proofs.Ending.{tombed_leads}
use Rattle.machine_collects.proofs.Gathering.{gather_leads}

itself : (n : ℕ) → n ≤ n
itself n = omega arith

free_all : {R : Type 0} (s : Words R) (items : List (Item R)) → AllByRecursion (IsNoObject s) items → AllByRecursion (IsNoObject s) (map unconfirmed items)
free_all s [] a = tt
free_all s (i ∷ items) a = (a.0, free_all s items a.1)

module _ {R L : Type 0} (join : R → R → R) (s : Words R) (v : Versions R) (k : Layouts L) (partitions : ℕ) (some : 1 ≤ partitions) (key : List ℕ) (partition : ℕ) (m : World R L) (w : State R L) (g : Issued R) (sound : IsSound (Place join s v k partitions some key partition) w) (t : IsTied join s v k partitions key partition m w g) where
  -- a node that knows no version has no row
  no_row : (n : ℕ) → newest k.reading (m.nodes n).view ≡ 0 → w.row n ≡ None
  no_row n none = by_row (w.row n) refl
    where
      reached : reach.IsReached k.reading partitions w.control
      reached = reached_of k partitions some w.control sound.control

      no_version : (i : ℕ) → i ≤ 0 → Rattle.std.specs.List.Contains ((Rattle.plane_meets.specs.Joint.seen k.reading partitions).set w.control i partition) n → ⊥
      no_version i low has =
          let nobody = subst (Rattle.plane_meets.proofs.Unapplied.HasNone) (sym reached.1.1) (Rattle.plane_meets.proofs.Unapplied.run_none k.reading partitions reached.1.0 control.empty (Rattle.plane_meets.proofs.Unapplied.empty_none k.reading partitions)) in
          let zero_is : i ≡ 0 = omega arith in
          Rattle.plane_laws.proofs.Sets.contains_none n (subst (λ o. Rattle.std.specs.List.Contains (unwrap_or (Rattle.control_model.specs.Layouts.set_in k.reading o partition) []) n) (nobody i (inl zero_is)) has)

      by_row : (o : Option R) → w.row n ≡ o → w.row n ≡ None
      by_row None f = f
      by_row (Some x) f =
          let gives = (sound.given n x f).0 in
          let same : newest k.reading (control.view_of w.control n) ≡ newest k.reading (m.nodes n).view = ap (newest k.reading) (t.control.nodes n).view in
          let high : gives.version ≤ newest k.reading (control.view_of w.control n) = gives.stores.to_newest in
          absurd (no_version gives.version (omega arith) gives.given)

  -- one more layout leaves the oldest version, unless there was none
  append_low : (n : ℕ) (l : L) → (w.row n ≡ None) ⊎ (oldest k.reading (appends k (m.nodes n) l).view ≤ oldest k.reading (m.nodes n).view)
  append_low n l = by_layouts (m.nodes n).view.layouts refl
    where
      by_layouts : (ls : List L) → (m.nodes n).view.layouts ≡ ls → (w.row n ≡ None) ⊎ (oldest k.reading (appends k (m.nodes n) l).view ≤ oldest k.reading (m.nodes n).view)
      by_layouts [] f = inl (no_row n (ap (Rattle.view_model.specs.View.last_version k.reading 0) f))
      by_layouts (x ∷ ls) f = inr (let a : Rattle.view_model.specs.View.first_version k.reading ((m.nodes n).view.layouts ++ l ∷ []) ≡ k.reading.version x = ap (λ q. Rattle.view_model.specs.View.first_version k.reading (q ++ l ∷ [])) f in let b : Rattle.view_model.specs.View.first_version k.reading (m.nodes n).view.layouts ≡ k.reading.version x = ap (Rattle.view_model.specs.View.first_version k.reading) f in omega arith)

module _ {R L : Type 0} (join : R → R → R) (s : Words R) (v : Versions R) (k : Layouts L) (partitions : ℕ) (some : 1 ≤ partitions) (key : List ℕ) (partition : ℕ) where
  -- a world of the machine is tied to one of the key, to which actions lead
  pub record Follows (m : World R L) : Type 0 where
    pub acts : List (Act join s v k partitions key partition)
    pub issued : Issued R
    pub happens : Happens (Place join s v k partitions some key partition) (Rattle.collection_model.specs.World.first control.empty) acts
    pub tied : IsTied join s v k partitions key partition m (run (Place join s v k partitions some key partition) (Rattle.collection_model.specs.World.first control.empty) acts) issued

  -- it goes on to be tied, and what was over is over
  pub record GoesOn (m new : World R L) (f : Follows m) : Type 0 where
    pub follows : Follows new
    pub past : (u : Version) → Rattle.collection_model.specs.Past.IsPast (Place join s v k partitions some key partition) (run (Place join s v k partitions some key partition) (Rattle.collection_model.specs.World.first control.empty) f.acts) u → Rattle.collection_model.specs.Past.IsPast (Place join s v k partitions some key partition) (run (Place join s v k partitions some key partition) (Rattle.collection_model.specs.World.first control.empty) follows.acts) u

  pub follows_empty : Follows empty
  follows_empty = record {
    acts = [];
    issued = none_issued;
    happens = tt;
    tied = record {
      control = record { nodes = λ n. record { view = refl; requests = refl; round = refl }; top = refl; asked = refl; sent = tt; layouts = λ i l e. cc };
      time = refl;
      skews = λ n. omega arith;
      nodes = λ n. record { row = refl; proper = tt; items = tt; last = refl; unissued = λ i late. (refl, refl); collections = tt; different = tt };
      messages = tt;
      collected = tt;
    };
  }

module _ {R L A C : Type 0} (join : R → R → R) (s : Words R) (laws : Laws join s) (v : Versions R) (versions : VersionLaws join s v) (k : Layouts L) (trio : L) (trio_roles : List Role → List Role) (partitions : ℕ) (some : 1 ≤ partitions) (is_trio : IsLayout k partitions trio) (is_first : k.reading.version trio ≡ 1) (key : List ℕ) (partition : ℕ) (one : (r : R) → IsOf join s v k partitions key partition r → partition_of s r ≡ partition) where
  module _ (m : World R L) (w : State R L) (g : Issued R) (sound : IsSound (Place join s v k partitions some key partition) w) (t : IsTied join s v k partitions key partition m w g) where
    abbrev On : Effects R L A C → Type 0
    On e = Goes k partitions m w.control e → Leads join s v k partitions some key partition m w g e

    on_if : (b : Bool) (d e : Effects R L A C) → (b ≡ true → On d) → (b ≡ false → On e) → On (cond b d e)
    on_if true d e f h = f refl
    on_if false d e f h = h refl

    -- nothing changes but what this key does not see
    calm_on : (e : Effects R L A C) → ((i : ℕ) → (w.row i ≡ None) ⊎ (oldest k.reading (changed e.nodes m.nodes i).view ≤ oldest k.reading (m.nodes i).view)) → e.passes ≡ 0 → ((i : ℕ) → Rattle.cluster_machine.specs.Step.skewed e.skews m.skew_of i ≤ hour) → e.collects ≡ [] → ((i : ℕ) → Calm join s v k partitions some key partition (m.nodes i) (changed e.nodes m.nodes i)) → e.sends ≡ [] → On e
    calm_on e low passes skews collects calm sends goes = quiet_leads join s v k partitions some key partition m w g sound t e goes 0 low passes skews collects calm (subst (AllByRecursion (Means join s v k partitions key partition (run (Place join s v k partitions some key partition) w (acts_of join s v k partitions some key partition m w g sound t e goes 0 [])) g m.collected)) (sym sends) tt)

    pub nothing_on : On (nothing m)
    nothing_on = calm_on (nothing m) (λ i. inr (itself (oldest k.reading (m.nodes i).view))) refl t.skews refl (λ i. calm_self join s v k partitions some key partition (m.nodes i)) refl

    refusal_on : (r : Rattle.cluster_machine.specs.declared.step.Refusal.Refusal C) → On (refusal m r)
    refusal_on r = calm_on (refusal m r) (λ i. inr (itself (oldest k.reading (m.nodes i).view))) refl t.skews refl (λ i. calm_self join s v k partitions some key partition (m.nodes i)) refl

    -- one node does what leaves its rows and its collections, and sends nothing
    one_on : (e : Effects R L A C) (n : ℕ) (y : Node R L) → ((i : ℕ) → e.nodes i ≡ only n y i) → Calm join s v k partitions some key partition (m.nodes n) y → (w.row n ≡ None) ⊎ (oldest k.reading y.view ≤ oldest k.reading (m.nodes n).view) → e.passes ≡ 0 → e.skews ≡ None → e.collects ≡ [] → e.sends ≡ [] → On e
    one_on e n y nodes calm low passes skews collects sends =
        calm_on e (λ i. subst (λ (z : Node R L). (w.row i ≡ None) ⊎ (oldest k.reading z.view ≤ oldest k.reading (m.nodes i).view)) (sym (changed_is e.nodes m.nodes n y nodes i)) (Rattle.machine_collects.proofs.Leads.at_each (λ i (z : Node R L). (w.row i ≡ None) ⊎ (oldest k.reading z.view ≤ oldest k.reading (m.nodes i).view)) m.nodes n y low (λ i d. inr (itself (oldest k.reading (m.nodes i).view))) i))
        passes (λ i. subst (λ o. Rattle.cluster_machine.specs.Step.skewed o m.skew_of i ≤ hour) (sym skews) (t.skews i)) collects
        (λ i. subst (Calm join s v k partitions some key partition (m.nodes i)) (sym (changed_is e.nodes m.nodes n y nodes i)) (Rattle.machine_collects.proofs.Leads.at_each (λ i z. Calm join s v k partitions some key partition (m.nodes i) z) m.nodes n y calm (λ i d. calm_self join s v k partitions some key partition (m.nodes i)) i)) sends

    -- what a node did, and sends nothing
    still_on : (e : Effects R L A C) (n : ℕ) (d : Did R L) → IsDid m e n d → StillDid join s laws v k partitions some key partition (m.nodes n) d → On e
    still_on e n d is h goes = did_leads join s laws v k partitions some key partition m w g sound t e goes n d is h.did (λ w' shown. subst (AllByRecursion (MeansPost join s laws v k partitions key partition w' g m.collected n m.time)) (sym h.posts) tt)

    -- what a node does for walks
    walked_on : (e : Effects R L A C) (n : ℕ) (d : Did R L) → IsDid m e n d → d.is_spelled ≡ true → Walked join s laws v k partitions some key partition (m.nodes n) d → On e
    walked_on e n d is spelled h goes = did_leads join s laws v k partitions some key partition m w g sound t e goes n d is h.did (λ w' shown. h.posts spelled w' g m.collected n m.time (t.nodes n).proper shown)

    -- a message is heard
    hears_on : (e : Effects R L A C) (n from moment : ℕ) (p : Message R) → (hears join s k n (clock m n) (m.nodes n) from p).is_spelled ≡ true → m.time ≤ moment + hour → Has all_nodes n → Rattle.machine_collects.specs.Prompt.HasNoClash join s v m n p → MeansMessage join s v k partitions key partition w g m.collected from n moment p → IsDid m e n (hears join s k n (clock m n) (m.nodes n) from p) → On e
    hears_on e n from moment (Get request phase at table its) spelled live asked clear means is goes = did_leads join s laws v k partitions some key partition m w g sound t e goes n _ is (where_calm join s laws v k partitions some key partition (m.nodes n) from request phase at _ (gives_row_calm join s laws v k partitions some key partition (m.nodes n) from request phase (row_at join s (m.nodes n).accepted table its))) (λ w' shown. get_means join s laws v k partitions some key partition w' g m.collected n m.time (m.nodes n) (t.nodes n).proper shown from request phase at table its)
    hears_on e n from moment (Row request phase row) spelled live asked clear means is goes = still_on e n _ is (row_still join s laws v k partitions some key partition (m.nodes n) from request phase row) goes
    hears_on e n from moment (Range request phase at bucket prefix after) spelled live asked clear means is goes = did_leads join s laws v k partitions some key partition m w g sound t e goes n _ is (where_calm join s laws v k partitions some key partition (m.nodes n) from request phase at _ (gives_rows_calm join s laws v k partitions some key partition (m.nodes n) from request phase _)) (λ w' shown. range_means join s laws v k partitions some key partition w' g m.collected n m.time (m.nodes n) (t.nodes n).proper shown from request phase at (bucket.0 ++ prefix) (bucket.0 ++ after))
    hears_on e n from moment (Rows request phase rows more) spelled live asked clear means is goes = still_on e n _ is (rows_still join s laws v k partitions some key partition (m.nodes n) from request phase rows more) goes
    hears_on e n from moment (Store tag named p rows) spelled live asked clear means is goes = store_leads join s laws v versions k partitions some key partition m w g sound t e goes n from moment tag named p rows live asked one means is
    hears_on e n from moment (Stored tag) spelled live asked clear means is goes = still_on e n _ is (confirms_still join s laws v k partitions some key partition n (m.nodes n) from tag) goes
    hears_on e n from moment (Behind tag x) spelled live asked clear means is goes = still_on e n _ is (still_self join s laws v k partitions some key partition (m.nodes n)) goes
    hears_on e n from moment (NotHere tag) spelled live asked clear means is goes = still_on e n _ is (still_self join s laws v k partitions some key partition (m.nodes n)) goes
    hears_on e n from moment (BlockGet request phase at hash) spelled live asked clear means is goes = did_leads join s laws v k partitions some key partition m w g sound t e goes n _ is (where_calm join s laws v k partitions some key partition (m.nodes n) from request phase at _ (gives_block_calm join s laws v k partitions some key partition (m.nodes n) from request phase _)) (λ w' shown. posts_cond join s laws v k partitions some key partition w' g m.collected n m.time (Rattle.cluster_machine.specs.Layouts.is_stored k (m.nodes n).view at) _ _ (block_means join s laws v k partitions some key partition w' g m.collected n m.time (m.nodes n) from request phase _) (tt, tt))
    hears_on e n from moment (Block request phase bytes) spelled live asked clear means is goes = still_on e n _ is (block_still join s laws v k partitions some key partition (m.nodes n) request phase bytes) goes
    hears_on e n from moment (NoBlock request phase) spelled live asked clear means is goes = still_on e n _ is (still_self join s laws v k partitions some key partition (m.nodes n)) goes
    hears_on e n from moment (AsksValue tag named p table prefix hash) spelled live asked clear means is goes = walked_on e n _ is spelled (compares_walked join s laws v k partitions some key partition n (m.nodes n) from tag named p table prefix hash) goes
    hears_on e n from moment (HasSame tag table prefix) spelled live asked clear means is goes = walked_on e n _ is spelled (walks_on_walked join s laws v k partitions some key partition n (m.nodes n) from tag table prefix None) goes
    hears_on e n from moment (Differ tag table prefix pairs) spelled live asked clear means is goes = walked_on e n _ is spelled (walks_on_walked join s laws v k partitions some key partition n (m.nodes n) from tag table prefix (Some pairs)) goes
    hears_on e n from moment (Tomb number round row) spelled live asked clear means is goes = tomb_leads join s laws v versions k partitions some key partition m w g sound t e goes n from moment number round row live asked one means is
    hears_on e n from moment (Tombed number round named) spelled live asked clear means is goes = tombed_leads join s laws v versions k partitions some key partition m w g sound t e goes n from number round named means is
    hears_on e n from moment (Forget table its hash) spelled live asked clear means is goes = forget_leads join s laws v versions k partitions some key partition m w g sound t e goes n table its hash.0 means clear is

    -- a packet comes
    receives_on : (e : Effects R L A C) (x : Sent R L) → (receives join s k x.to (clock m x.to) (m.nodes x.to) x.from x.packet).is_spelled ≡ true → ComesInTime join s v m x → Means join s v k partitions key partition w g m.collected x → IsDid m e x.to (receives join s k x.to (clock m x.to) (m.nodes x.to) x.from x.packet) → On e
    receives_on e x spelled prompt means is = by_packet x.packet spelled prompt.no_clash means is
      where
        by_packet : (p : Packet R L) → (receives join s k x.to (clock m x.to) (m.nodes x.to) x.from p).is_spelled ≡ true → Rattle.machine_collects.specs.Prompt.HasNoClashIn join s v m x.to p → MeansPacket join s v k partitions key partition w g m.collected x.from x.to x.moment p → IsDid m e x.to (receives join s k x.to (clock m x.to) (m.nodes x.to) x.from p) → On e
        by_packet (says p) spelled clear means is goes = hears_on e x.to x.from x.moment p spelled prompt.soon prompt.asked clear means is goes
        by_packet (shows view) spelled clear means is goes = view_leads join s laws v versions k partitions some key partition m w g sound t e goes x.to (clock m x.to) (merged k.reading (m.nodes x.to).view view) one is

    -- below: what a node does by itself

    pub acts_on : (e : Effects R L A C) (n : ℕ) (a : Action) → (a ≡ Gather → Has all_nodes n) → (acts join s k n (clock m n) (m.nodes n) a).did.is_spelled ≡ true → IsDid m e n (acts join s k n (clock m n) (m.nodes n) a).did → On e
    acts_on e n RaiseAck asked spelled is goes = still_on e n _ is (record { did = record { calm = record { accepted = refl; items = λ i. i; gc = inl refl }; low = itself (oldest k.reading (m.nodes n).view); collects = refl }; posts = refl }) goes
    acts_on e n GoOn asked spelled is goes = by_round (m.nodes n).round spelled is goes
      where
        x : Node R L
        x = m.nodes n

        by_may : (b : Bool) → (cond {A = Acted R L} b (record { did = begin_round join s k n x; how = Rattle.cluster_machine.specs.declared.step.LocalEnd.TheVariants.At (suc (Rattle.view_model.specs.View.read_version k.reading x.view)) }) (record { did = quiet x; how = Rattle.cluster_machine.specs.declared.step.LocalEnd.TheVariants.Idle (Rattle.view_model.specs.View.read_version k.reading x.view) (Rattle.view_model.specs.View.ack_least k.reading x.view) })).did.is_spelled ≡ true → IsDid m e n (cond {A = Acted R L} b (record { did = begin_round join s k n x; how = Rattle.cluster_machine.specs.declared.step.LocalEnd.TheVariants.At (suc (Rattle.view_model.specs.View.read_version k.reading x.view)) }) (record { did = quiet x; how = Rattle.cluster_machine.specs.declared.step.LocalEnd.TheVariants.Idle (Rattle.view_model.specs.View.read_version k.reading x.view) (Rattle.view_model.specs.View.ack_least k.reading x.view) })).did → On e
        by_may true spelled is goes =
            let at = Rattle.view_model.specs.View.read_version k.reading x.view in
            let parts = parts_of join s k n x (Rattle.view_model.specs.View.layout_at k.reading x.view at) (Rattle.view_model.specs.View.layout_at k.reading x.view (suc at)) in
            let walks = walks_of join s x (other_nodes join s k n) parts in
            let round : Round = record { number = suc x.rounds; target = suc at; parts = parts; confirmed = map (λ (part : Part). record { partition = part.partition; node = n }) parts; walks = walks } in
            let c = calm_goes_on join s laws v k partitions some key partition n x (record x { rounds = suc x.rounds; lasting = None }) round refl refl refl refl in
            did_leads join s laws v k partitions some key partition m w g sound t e goes n (begin_round join s k n x) is (record { calm = c.0; low = c.1; collects = refl })
            (λ w' shown. starts_mean join s laws v k partitions key partition w' g m.collected n m.time x (suc x.rounds) walks)
        by_may false spelled is goes = still_on e n (quiet x) is (still_self join s laws v k partitions some key partition x) goes

        by_round : (o : Option Round) → (Rattle.cluster_machine.specs.Acts.syncs join s k n x o).did.is_spelled ≡ true → IsDid m e n (Rattle.cluster_machine.specs.Acts.syncs join s k n x o).did → On e
        by_round (Some round) spelled is goes =
            let c = calm_goes_on join s laws v k partitions some key partition n x x (walked_anew join s k x round) refl refl refl refl in
            did_leads join s laws v k partitions some key partition m w g sound t e goes n (again join s k n x round) is (record { calm = c.0; low = c.1; collects = refl })
            (λ w' shown. starts_mean join s laws v k partitions key partition w' g m.collected n m.time x round.number (new_walks join s k x round))
        by_round None spelled is goes = by_may (may_sync join s k n x.view) spelled is goes
    acts_on e n RaiseSyncAck asked spelled is goes = still_on e n _ is (record { did = record { calm = record { accepted = refl; items = λ i. i; gc = inl refl }; low = itself (oldest k.reading (m.nodes n).view); collects = refl }; posts = refl }) goes
    acts_on e n CleanUp asked spelled is goes = view_leads join s laws v versions k partitions some key partition m w g sound t e goes n (clock m n) (cleaned k.reading (m.nodes n).view) one is
    acts_on e n WorkOff asked spelled is goes = did_leads join s laws v k partitions some key partition m w g sound t e goes n _ is (record { calm = record { accepted = refl; items = λ i. i; gc = inl refl }; low = itself (oldest k.reading (m.nodes n).view); collects = refl })
        (λ w' shown. items_mean join s laws v k partitions key partition w' g m.collected n m.time (m.nodes n).view (m.nodes n).items (t.nodes n).items spelled)
    acts_on e n Mend asked spelled is goes = did_leads join s laws v k partitions some key partition m w g sound t e goes n _ is (record { calm = record { accepted = refl; items = λ i. i; gc = inl refl }; low = itself (oldest k.reading (m.nodes n).view); collects = refl })
        (λ w' shown. starts_mean join s laws v k partitions key partition w' g m.collected n m.time (m.nodes n) (suc (m.nodes n).rounds) (let l = Rattle.view_model.specs.View.layout_at k.reading (m.nodes n).view (newest k.reading (m.nodes n).view) in walks_of join s (m.nodes n) (other_nodes join s k n) (parts_of join s k n (m.nodes n) l l)))
    acts_on e n Gather asked spelled is goes = gather_leads join s laws v versions k partitions some key partition m w g sound t e goes n (asked refl) is

    chosen_on : (n version : ℕ) (choice : Choice L A C) → On (chosen join s k trio trio_roles m n version choice)
    chosen_on n version (none_given r) goes = refusal_on r goes
    chosen_on n version (given l shown) goes = one_on _ n (appends k (m.nodes n) l) (λ i. refl) (record { accepted = refl; items = λ i. i; gc = inl refl }) (append_low join s v k partitions some key partition m w g sound t n l) refl refl refl refl goes

    trio_on : leb 1 m.applied ≡ false → On (trio_applies join s k trio trio_roles m)
    trio_on free goes = calm_on _ (λ i. inl (no_row join s v k partitions some key partition m w g sound t i (let low : m.applied < 1 = leb-false 1 m.applied free in let top : w.control.top ≡ m.applied = t.control.top in let under : newest k.reading (control.view_of w.control i) ≤ w.control.top = (Rattle.version_laws.proofs.Laws.safe_at k.reading partitions w.control (reached_of k partitions some w.control sound.control)).applied i in let same : newest k.reading (control.view_of w.control i) ≡ newest k.reading (m.nodes i).view = ap (newest k.reading) (t.control.nodes i).view in omega arith))) refl t.skews refl
        (λ i. elim (Rattle.quorum_model.specs.Quorum.is_among i (k.reading.members trio)) as (λ b. Calm join s v k partitions some key partition (m.nodes i) (unwrap_or (cond b (Some (appends k (m.nodes i) trio)) None) (m.nodes i))) [ true ↦ record { accepted = refl; items = λ i. i; gc = inl refl } | false ↦ calm_self join s v k partitions some key partition (m.nodes i) ]) refl goes

    -- a phase begins
    phase_on : (e : Effects R L A C) (n : ℕ) (c : Call R) (began : ℕ) (phase : Phase R) → BeginsInTime join s v m began phase → (begins s k m.kept (m.nodes n) c phase).is_spelled ≡ true → IsDid m e n (begins s k m.kept (m.nodes n) c phase) → On e
    phase_on e n c began (Read table position its) prompt spelled is goes = did_leads join s laws v k partitions some key partition m w g sound t e goes n _ is (record { calm = record { accepted = refl; items = λ i. i; gc = inl refl }; low = itself (oldest k.reading (m.nodes n).view); collects = refl }) (λ w' shown. means_each join s laws v k partitions key partition w' g m.collected n m.time _ _ (λ to. tt))
    phase_on e n c began (Scans position prefix after) prompt spelled is goes = did_leads join s laws v k partitions some key partition m w g sound t e goes n _ is (record { calm = record { accepted = refl; items = λ i. i; gc = inl refl }; low = itself (oldest k.reading (m.nodes n).view); collects = refl }) (λ w' shown. means_each join s laws v k partitions key partition w' g m.collected n m.time _ _ (λ to. tt))
    phase_on e n c began (Fetches hash) prompt spelled is goes = did_leads join s laws v k partitions some key partition m w g sound t e goes n _ is (record { calm = record { accepted = refl; items = λ i. i; gc = inl refl }; low = itself (oldest k.reading (m.nodes n).view); collects = refl }) (λ w' shown. means_each join s laws v k partitions key partition w' g m.collected n m.time _ _ (λ to. tt))
    phase_on e n c began (Keeps rows) prompt spelled is goes =
        let x = m.nodes n in
        let d = begins s k m.kept x c (Keeps rows) in
        let mid = after_moves join s laws v versions k partitions some key partition m w g sound t e goes w.row in
        let more = stores_all join s laws v versions k partitions some key partition rows in
        let soon : m.time ≤ began + hour = prompt.soon in
        let same : w.time ≡ m.time = t.time in
        let stored = store_all join s laws v versions k partitions some key partition mid began rows (omega arith) prompt.late in
        let acts' = acts_with join s laws v versions k partitions some key partition m w g sound t e goes w.row more in
        let new = run (Place join s v k partitions some key partition) w acts' in
        let P : ℕ → Type 0 = λ moment. AllByRecursion (λ (r : R × Option (List ℕ)). IsOf join s v k partitions key partition r.0 → Has new.stored (record { row = r.0; moment = moment })) rows in
        acts_lead join s laws v versions k partitions some key partition m w g sound t e goes n d is w.row (λ i apart. refl) (stay_all join s laws v versions k partitions some key partition m w g sound t e goes n d is (itself (oldest k.reading x.view))) more g (later_self g) (λ i apart. same_self g i) stored.happens stored.calm (λ i apart. stored.rows i)
        (with_rows join s laws v versions k partitions some key partition w new g n x d.node (grew_run join s v k partitions key partition acts' w) (t.nodes n) refl (record { row = stored.rows n ∙ (t.nodes n).row; proper = (t.nodes n).proper; items = (t.nodes n).items }))
        (stores_mean join s laws v versions k partitions some key partition new g m.collected n m.time x.view c.request (suc c.phases) 0 rows spelled (subst P same (was_stored join s laws v versions k partitions some key partition mid rows)))
        tt

    -- time passes
    tick_on : (e : Effects R L A C) (ms : ℕ) → e.passes ≡ ms → ((i : ℕ) → e.nodes i ≡ None) → e.skews ≡ None → e.sends ≡ [] → e.collects ≡ [] → On e
    tick_on e ms passes nodes skews sends collects goes =
        let acts' : List (Act join s v k partitions key partition) = act.moves goes.steps w.row ∷ act.ticks ms ∷ [] in
        let new = run (Place join s v k partitions some key partition) w acts' in
        let same : (i : ℕ) → changed e.nodes m.nodes i ≡ m.nodes i = λ i. ap (λ o. unwrap_or o (m.nodes i)) (nodes i) in
        by_nodes join s v k partitions some key partition m w g sound t e acts' g
        ((λ i. stays join s v k partitions some key partition m w g sound t e goes i (inr (subst (λ (z : Node R L). oldest k.reading z.view ≤ oldest k.reading (m.nodes i).view) (sym (same i)) (itself (oldest k.reading (m.nodes i).view))))), (tt, tt))
        (later_self g) (moved join s v k partitions some key partition m w g sound t e goes) (let a : w.time ≡ m.time = t.time in let b : e.passes ≡ ms = passes in omega arith)
        (λ i. subst (λ o. Rattle.cluster_machine.specs.Step.skewed o m.skew_of i ≤ hour) (sym skews) (t.skews i))
        (λ i. subst (IsNode join s v k partitions key partition new g i) (sym (same i)) (Rattle.machine_collects.proofs.Growth.node_stays join s v k partitions key partition w new (grew_run join s v k partitions key partition acts' w) g g i (m.nodes i) (same_self g i) refl (t.nodes i)))
        (subst (AllByRecursion (Means join s v k partitions key partition new g (e.collects ++ m.collected))) (sym sends) tt)
        (subst (AllByRecursion (Rattle.machine_collects.specs.Tie.IsCollected join s v k partitions key partition new)) (sym collects) tt)

    -- each step of the machine
    acting_on : (n : ℕ) (b : Bool) (a : Action) → (a ≡ Gather → Has all_nodes n) → (acting {A = A} {C = C} join s k trio trio_roles m n b (acts join s k n (clock m n) (m.nodes n) a)).is_spelled ≡ true → On (acting join s k trio trio_roles m n b (acts join s k n (clock m n) (m.nodes n) a))
    acting_on n true a asked spelled goes = refusal_on Rattle.cluster_machine.specs.declared.step.Refusal.TheVariants.NotMember goes
    acting_on n false a asked spelled goes = acts_on _ n a asked spelled (record { nodes = λ i. refl; sends = refl; passes = refl; skews = refl; collects = refl }) goes

    message_on : (o : Option (Sent R L)) (mark : Option Mark) (f : Sent R L → Effects R L A C) → ((x : Sent R L) (k : Mark) → o ≡ Some x → mark ≡ Some k → k.is_lost ≡ false → (f x).is_spelled ≡ true → On (f x)) → (at_message m f o mark).is_spelled ≡ true → On (at_message m f o mark)
    message_on None mark f h spelled goes = refusal_on Rattle.cluster_machine.specs.declared.step.Refusal.TheVariants.NoSuchMessage goes
    message_on (Some x) None f h spelled goes = refusal_on Rattle.cluster_machine.specs.declared.step.Refusal.TheVariants.NoSuchMessage goes
    message_on (Some x) (Some mark) f h spelled goes = by_lost mark.is_lost refl spelled goes
      where
        by_lost : (b : Bool) → mark.is_lost ≡ b → (cond b (refusal m Rattle.cluster_machine.specs.declared.step.Refusal.TheVariants.Lost) (f x)).is_spelled ≡ true → On (cond b (refusal m Rattle.cluster_machine.specs.declared.step.Refusal.TheVariants.Lost) (f x))
        by_lost true e is_spelled = refusal_on Rattle.cluster_machine.specs.declared.step.Refusal.TheVariants.Lost
        by_lost false e is_spelled = h x mark refl refl e is_spelled

    close_on : (q : ℕ) (r : Request) (e : Effects R L A C) → ((i : ℕ) → e.nodes i ≡ only r.coordinator (closed q (m.nodes r.coordinator)) i) → e.passes ≡ 0 → e.skews ≡ None → e.collects ≡ [] → e.sends ≡ [] → On e
    close_on q r e nodes passes skews collects sends = one_on e r.coordinator (closed q (m.nodes r.coordinator)) nodes (record { accepted = refl; items = λ i. i; gc = inl refl }) (inr (itself (oldest k.reading (m.nodes r.coordinator).view))) passes skews collects sends

    expires_on : (q : ℕ) (o : Option Request) → On (expires m q o)
    expires_on q None = refusal_on Rattle.cluster_machine.specs.declared.step.Refusal.TheVariants.NoSuchRequest
    expires_on q (Some r) = on_if r.is_open _ (refusal m Rattle.cluster_machine.specs.declared.step.Refusal.TheVariants.AlreadyEnded) (λ e. close_on q r _ (λ i. refl) refl refl refl refl) (λ e. refusal_on Rattle.cluster_machine.specs.declared.step.Refusal.TheVariants.AlreadyEnded)

    closing_on : (q : ℕ) (o : Option Request) → On (closing m q o)
    closing_on q None = nothing_on
    closing_on q (Some r) = on_if r.is_open _ (nothing m) (λ e. close_on q r _ (λ i. refl) refl refl refl refl) (λ e. nothing_on)

    begun_on : (n : ℕ) (phase : Phase R) (began : ℕ) → BeginsInTime join s v m began phase → (o : Option (Call R)) → (begun {A = A} {C = C} join s k trio trio_roles m n phase o).is_spelled ≡ true → On (begun join s k trio trio_roles m n phase o)
    begun_on n phase began prompt None spelled goes = nothing_on goes
    begun_on n phase began prompt (Some c) spelled goes = phase_on _ n c began phase prompt spelled (record { nodes = λ i. refl; sends = refl; passes = refl; skews = refl; collects = refl }) goes

    beginning_on : (q : ℕ) (phase : Phase R) (o : Option Request) → ((r : Request) → o ≡ Some r → r.is_open ≡ true → (began : ℕ) × BeginsInTime join s v m began phase) → (beginning {A = A} {C = C} join s k trio trio_roles m q phase o).is_spelled ≡ true → On (beginning join s k trio trio_roles m q phase o)
    beginning_on q phase None prompt spelled goes = nothing_on goes
    beginning_on q phase (Some r) prompt spelled goes = by_open r.is_open refl spelled goes
      where
        by_open : (b : Bool) → r.is_open ≡ b → (cond b (begun {A = A} {C = C} join s k trio trio_roles m r.coordinator phase (call_at (m.nodes r.coordinator).calls q)) (nothing m)).is_spelled ≡ true → On (cond b (begun join s k trio trio_roles m r.coordinator phase (call_at (m.nodes r.coordinator).calls q)) (nothing m))
        by_open true f spelled goes = begun_on r.coordinator phase (prompt r refl f).0 (prompt r refl f).1 (call_at (m.nodes r.coordinator).calls q) spelled goes
        by_open false f spelled goes = nothing_on goes

    gossip_on : (from to : ℕ) → On (did m from (record (quiet (m.nodes from)) { posts = record { to = to; packet = shows (m.nodes from).view } ∷ [] }))
    gossip_on from to goes = did_leads join s laws v k partitions some key partition m w g sound t _ goes from (record (quiet (m.nodes from)) { posts = record { to = to; packet = shows (m.nodes from).view } ∷ [] }) (record { nodes = λ i. refl; sends = refl; passes = refl; skews = refl; collects = refl }) (record { calm = calm_self join s v k partitions some key partition (m.nodes from); low = itself (oldest k.reading (m.nodes from).view); collects = refl }) (λ w' shown. (tt, tt))

    apply_on : (n : ℕ) (choice : Choice L A C) → On (applies_at join s k trio trio_roles m n choice)
    apply_on n choice =
        let version = suc (newest k.reading (m.nodes n).view) in
        let member : Effects R L A C = refusal m Rattle.cluster_machine.specs.declared.step.Refusal.TheVariants.NotMember in
        let taken : Effects R L A C = refusal m (Rattle.cluster_machine.specs.declared.step.Refusal.TheVariants.VersionTaken version) in
        let many : Effects R L A C = refusal m Rattle.cluster_machine.specs.declared.step.Refusal.TheVariants.VersionLimit in
        let last = chosen join s k trio trio_roles m n version choice in
        let third = cond (leb Rattle.cluster_machine.specs.Step.most_versions m.applied) many last in
        let second = cond (leb version m.applied) taken third in
        on_if (leb 1 m.applied && not (Rattle.cluster_machine.specs.World.is_member_at k m n)) member second (λ e. refusal_on Rattle.cluster_machine.specs.declared.step.Refusal.TheVariants.NotMember) (λ e.
        on_if (leb version m.applied) taken third (λ e. refusal_on (Rattle.cluster_machine.specs.declared.step.Refusal.TheVariants.VersionTaken version)) (λ e.
        on_if (leb Rattle.cluster_machine.specs.Step.most_versions m.applied) many last (λ e. refusal_on Rattle.cluster_machine.specs.declared.step.Refusal.TheVariants.VersionLimit) (λ e. chosen_on n version choice)))

    pub step_on : (moments : List ℕ) (step : Step R) (choice : Choice L A C) → IsPromptStep join s v moments m step → (effects join s k trio trio_roles m step choice).is_spelled ≡ true → On (effects join s k trio trio_roles m step choice)
    step_on moments Trio choice prompt spelled = by_applied (leb 1 m.applied) refl
      where
        by_applied : (b : Bool) → leb 1 m.applied ≡ b → On (cond b (refusal m (Rattle.cluster_machine.specs.declared.step.Refusal.TheVariants.VersionTaken 1)) (trio_applies join s k trio trio_roles m))
        by_applied true f = refusal_on (Rattle.cluster_machine.specs.declared.step.Refusal.TheVariants.VersionTaken 1)
        by_applied false f = trio_on f
    step_on moments (Stage n role) choice prompt spelled = calm_on _ (λ i. inr (itself (oldest k.reading (m.nodes i).view))) refl t.skews refl (λ i. calm_self join s v k partitions some key partition (m.nodes i)) refl
    step_on moments (Spread r) choice prompt spelled = calm_on _ (λ i. inr (itself (oldest k.reading (m.nodes i).view))) refl t.skews refl (λ i. calm_self join s v k partitions some key partition (m.nodes i)) refl
    step_on moments (Apply n) choice prompt spelled = apply_on n choice
    step_on moments (Tick ms) choice prompt spelled = tick_on _ ms refl (λ i. refl) refl refl refl
    step_on moments (Skew n ms) choice prompt spelled = calm_on _ (λ i. inr (itself (oldest k.reading (m.nodes i).view))) refl (λ i. elim (i == n) as (λ b. cond b ms (m.skew_of i) ≤ hour) [ true ↦ prompt | false ↦ t.skews i ]) refl (λ i. calm_self join s v k partitions some key partition (m.nodes i)) refl
    step_on moments (Deliver i) choice prompt spelled = message_on (numbered m.messages i) (numbered m.marks i) _ (λ x mark there marked free sp. receives_on _ x sp (prompt x mark there marked free) (all_numbered (Means join s v k partitions key partition w g m.collected) m.messages i x t.messages there) (record { nodes = λ i. refl; sends = refl; passes = refl; skews = refl; collects = refl })) spelled
    step_on moments (Lose i) choice prompt spelled = message_on (numbered m.messages i) (numbered m.marks i) _ (λ x mark there marked free sp. calm_on _ (λ i. inr (itself (oldest k.reading (m.nodes i).view))) refl t.skews refl (λ i. calm_self join s v k partitions some key partition (m.nodes i)) refl) spelled
    step_on moments (Expire q) choice prompt spelled = expires_on q (numbered m.requests q)
    step_on moments (Restart n) choice prompt spelled = one_on _ n (restarts (m.nodes n)) (λ i. refl) (record { accepted = refl; items = λ a. free_all s (m.nodes n).items a; gc = inr refl }) (inr (itself (oldest k.reading (m.nodes n).view))) refl refl refl refl
    step_on moments (Gossip from to) choice prompt spelled = gossip_on from to
    step_on moments (Ack n) choice prompt spelled = acting_on n _ RaiseAck (λ e. cc) spelled
    step_on moments (Syncs n) choice prompt spelled = acting_on n _ GoOn (λ e. cc) spelled
    step_on moments (SyncAck n) choice prompt spelled = acting_on n _ RaiseSyncAck (λ e. cc) spelled
    step_on moments (Clean n) choice prompt spelled = acting_on n _ CleanUp (λ e. cc) spelled
    step_on moments (Work n) choice prompt spelled = acting_on n _ WorkOff (λ e. cc) spelled
    step_on moments (Repair n) choice prompt spelled = acting_on n _ Mend (λ e. cc) spelled
    step_on moments (Collect n) choice prompt spelled = acting_on n _ Gather (λ e. prompt) spelled
    step_on moments (Open n) choice prompt spelled = on_if (Rattle.cluster_machine.specs.World.is_member_at k m n) _ (refusal m Rattle.cluster_machine.specs.declared.step.Refusal.TheVariants.NotMember) (λ e. one_on _ n (opened (suc (length m.requests)) (newest k.reading (m.nodes n).view) (m.nodes n)) (λ i. refl) (record { accepted = refl; items = λ i. i; gc = inl refl }) (inr (itself (oldest k.reading (m.nodes n).view))) refl refl refl refl) (λ e. refusal_on Rattle.cluster_machine.specs.declared.step.Refusal.TheVariants.NotMember)
    step_on moments (Begin q phase) choice prompt spelled = beginning_on q phase (numbered m.requests q) (λ r there opened_it. let p = prompt r there opened_it in (p.0, p.1.1)) spelled
    step_on moments (Close q) choice prompt spelled = closing_on q (numbered m.requests q)

  pub follows_next : (moments : List ℕ) (m : World R L) (move : Move R L A C) (f : Follows join s v k partitions some key partition m) → IsPromptStep join s v moments m move.step → Rattle.cluster_machine.specs.Run.IsChoice k partitions m move.choice → IsTrue (effects join s k trio trio_roles m move.step move.choice).is_spelled → GoesOn join s v k partitions some key partition m (next join s k trio trio_roles m move) f
  follows_next moments m move f prompt choice spelled =
      let S = Place join s v k partitions some key partition in
      let w0 : State R L = Rattle.collection_model.specs.World.first control.empty in
      let w = run S w0 f.acts in
      let site = Rattle.machine_collects.proofs.Marking.site_laws join s laws v versions k partitions key partition some in
      let sound : IsSound S w = (run_sound S site f.acts w0 (first_sound S site) f.happens).sound in
      let step_goes : Goes k partitions m w.control (effects join s k trio trio_roles m move.step move.choice) = goes join s k trio trio_roles partitions is_trio is_first m w.control move.step move.choice (reached_of k partitions some w.control sound.control) f.tied.control choice in
      let lead = step_on m w f.issued sound f.tied moments move.step move.choice prompt spelled step_goes in
      let same : run S w0 (f.acts ++ lead.acts) ≡ run S w lead.acts = Rattle.collection_laws.proofs.Laws.run_append S f.acts lead.acts w0 in
      let P : State R L → Type 0 = λ z. IsTied join s v k partitions key partition (next join s k trio trio_roles m move) z lead.issued in
      record {
        follows = record {
          acts = f.acts ++ lead.acts;
          issued = lead.issued;
          happens = Rattle.collection_laws.proofs.Laws.happens_append S f.acts lead.acts w0 f.happens lead.happens;
          tied = subst P (sym same) lead.tied;
        };
        past = λ u p. (let Q : State R L → Type 0 = λ z. Rattle.collection_model.specs.Past.IsPast S z u in subst Q (sym same) ((run_sound S site lead.acts w sound lead.happens).past u p));
      }

  pub follows_run : (moves : List (Move R L A C)) (moments : List ℕ) (m : World R L) (f : Follows join s v k partitions some key partition m) → ArePrompt join s v k trio trio_roles moments m moves → IsRun join s k trio trio_roles partitions m moves → GoesOn join s v k partitions some key partition m (run_moves join s k trio trio_roles m moves) f
  follows_run [] moments m f prompt is = record { follows = f; past = λ u p. p }
  follows_run (move ∷ moves) moments m f prompt is =
      let first = follows_next moments m move f prompt.0 is.1 is.2 in
      let rest = follows_run moves (moments_after moments m (does join s k trio trio_roles m move)) (next join s k trio trio_roles m move) first.follows prompt.1 is.3 in
      record { follows = rest.follows; past = λ u p. rest.past u (first.past u p) }
