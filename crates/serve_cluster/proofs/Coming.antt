-- A cluster with changes to come, from what the code's stood for.
use Rattle.std.proofs.Common.{◌≡◌, inl, inr, ◌==◌, ℕ, suc, true, false, cond, List, [], ◌∷◌, ◌++◌, length, Option, Some, None, Result, Ok, Err, OnOk, slice_get, refl, sym, ◌∙◌, ap, subst}
use Rattle.std.specs.List.{remove}
use Rattle.crdt_core.specs.declared.memory.Memory.{Memory}
use Rattle.cluster_machine.specs.Layouts.{layouts}
use Rattle.cluster_machine.specs.declared.applied.Applied.{Applied}
use Rattle.change_model.specs.Given.{given_at}
use Rattle.flow_model.specs.declared.order.Order.{Order}
use Rattle.flow_model.specs.declared.flow.FlowEnd.{FlowEnd}
use Rattle.store_model.specs.Run.{State}
use Rattle.store_model.specs.Acts.{Act, after_acts, AreLawfulActs, ActsFit}
use Rattle.s3_world.specs.declared.world.S3World.{S3World}
use Rattle.s3_world.specs.Stands.{IsStore}
use Rattle.serve_model.specs.declared.upload.Upload.{Upload}
use Rattle.serve_model.specs.Stores.{Job, carry, Given}
use Rattle.serve_model.specs.Clusters.{Cluster as Model, cluster, fits, lacks, ActLacksRoom}
use Rattle.serve_model.specs.Serving.{HasState, CarriedOut}
use Rattle.serve_changes.specs.Acts.{change_acts}
use Rattle.serve_changes.specs.Changing.{Change as Later, Changing as Models, acts_in, changed, with_change, changing, acts_due, ChangeFits, changing_fits, changing_lacks}
use Rattle.serve_cluster.specs.declared.change.Change.{Change}
use Rattle.serve_cluster.specs.declared.changing.Changing.{Changing}
use Rattle.serve_cluster.specs.declared.cluster.Cluster.{Cluster}
use Rattle.serve_cluster.specs.Acting.{LacksRoom}
use Rattle.serve_cluster.specs.Changes.{nodes_of, IsComputed, AreWithin, acts_with, DoesIn, IsChange, AreChanges, IsChanging, is_due, IsChangingGet, IsChangingUpload}
use Rattle.serve_loop.specs.declared.storage.Got.{Got}
use Rattle.serve_loop.specs.declared.storage.Got.TheVariants as got
use Rattle.serve_loop.specs.Gets as gets
use Rattle.serve_loop.specs.Gets.{GoesOn, Gives, MayGive, with_given}
use Rattle.serve_loop.specs.Uploads.{Takes, IsTaken}
use Rattle.serve_cluster.specs.Giving.{IsOnItsWay}
use Rattle.serve_cluster.specs.Uploads.{IsUploading}
use Rattle.serve_cluster.specs.Standing.{StandsFor}
use Rattle.serve_cluster.proofs.Making.{staged_after}
use Rattle.serve_cluster.proofs.Unstaged.{job_leaves}

-- ---- one change

acts_same : (members : List ℕ) (c : Change) (ch : ℕ × Later) → IsChange members c ch → (s : State) → acts_with members c s ≡ acts_in s ch.1
acts_same members c ch h s =
    let F : List Act → ℕ → Applied → List ℕ → List Act = λ stages first shown part. stages ++ change_acts (given_at (after_acts s stages).world first shown) first part in
    λ i. F (sym h.stages i) (sym h.first i) (sym h.shown i) (sym h.part i)

module _ (old : Cluster) (c : Change) (m : Model) (ch : ℕ × Later) (st : StandsFor old m) (h : IsChange m.members c ch) where
  acts_are : acts_with old.members c m.run ≡ acts_in m.run ch.1
  acts_are = ap (λ ms. acts_with ms c m.run) st.members ∙ acts_same m.members c ch h m.run

  pub changes_so : (world : S3World) (newer : List ℕ) → newer ≡ nodes_of c.shown.roles.list → DoesIn old.world world (acts_with old.members c) →
      AreLawfulActs m.run (acts_in m.run ch.1) × ActsFit m.run (acts_in m.run ch.1) × StandsFor (record old { world = world; members = newer }) (changed m ch.1)
  changes_so world newer is f =
      let a = f m.run st.world in (
        subst (AreLawfulActs m.run) acts_are a.lawful,
        subst (ActsFit m.run) acts_are a.fit,
        record { world = subst (λ as'. IsStore world (after_acts m.run as')) acts_are a.stands; ticked = st.ticked; members = is ∙ sym h.newer },
      )

  pub changes_lack : LacksRoom old.world (acts_with old.members c) → ActLacksRoom m.run (acts_in m.run ch.1)
  changes_lack f = subst (ActLacksRoom m.run) acts_are (f m.run st.world)

-- what is staged is the same whatever the code stands for
pub same_staged : (c : S3World) (s t : State) → IsStore c s → IsStore c t → AreWithin s.world.roles → AreWithin t.world.roles
same_staged c s t a b h = subst AreWithin (sym a.world.roles ∙ b.world.roles) h

-- it stays within the nodes of a server
within_after : (code : Cluster) (k : Model) → StandsFor code k → (c : Change) (ch : ℕ × Later) → IsChange k.members c ch → AreWithin k.run.world.roles → AreWithin (after_acts k.run (acts_in k.run ch.1)).world.roles
within_after code k st c ch h within =
    let roles = staged_after code.world k.run st.world within k.members c in
    let same = ap (λ as'. (after_acts k.run as').world.roles) (acts_same k.members c ch h k.run) in
    subst AreWithin (sym roles ∙ same) h.computed.within

-- ---- the next change

pub due_some : (members : List ℕ) (cs : List Change) (chs : List (ℕ × Later)) (x : Change) (k : Model) (n : ℕ) → Some x ≡ slice_get cs 0 → AreChanges members cs chs → n ≡ length k.run.world.requests → (n == x.after) ≡ is_due k chs
due_some members [] chs x k n e h same = absurd (cc)
due_some members (c ∷ cs) [] x k n e h same = absurd h
due_some members (c ∷ cs) (ch ∷ chs) x k n e h same =
    let is : x ≡ c = cc in
    ap (λ (y : Change). n == y.after) is ∙ (ap (λ a. n == a) h.0.after ∙ ap (λ a. a == ch.0) same)

pub due_none : (members : List ℕ) (cs : List Change) (chs : List (ℕ × Later)) (k : Model) → None ≡ slice_get cs 0 → AreChanges members cs chs → false ≡ is_due k chs
due_none members [] [] k e h = refl
due_none members [] (ch ∷ chs) k e h = absurd h
due_none members (c ∷ cs) chs k e h = absurd (cc)

-- what is asked of the change of a cluster
abbrev pub Changes : Cluster → Cluster → Change → Type 0
Changes old new c = (m : Model) (ch : ℕ × Later) → StandsFor old m → IsChange m.members c ch → AreLawfulActs m.run (acts_in m.run ch.1) × ActsFit m.run (acts_in m.run ch.1) × StandsFor new (changed m ch.1)

module _ (code : Cluster) (k : Model) (stands : StandsFor code k) (within : AreWithin k.run.world.roles) (x : Change) where
  made_at : (cs : List Change) (chs : List (ℕ × Later)) (rest : List Change) (new : Cluster) → AreChanges k.members cs chs → slice_get cs 0 ≡ Some x → rest ≡ remove cs 0 → Changes code new x → is_due k chs ≡ true →
      ChangeFits k chs × IsChanging (record { cluster = new; to_come = rest }) (with_change k chs)
  made_at [] chs rest new h e r f due = absurd (cc)
  made_at (c ∷ cs) [] rest new h e r f due = absurd h
  made_at (c ∷ cs) (ch ∷ chs) rest new h e r f due =
      let is : c ≡ x = cc in
      let one : IsChange k.members x ch = subst (λ y. IsChange k.members y ch) is h.0 in
      let d = f k ch stands one in
      let later : AreChanges (layouts.reading.members ch.1.new) cs chs = subst (λ ms. AreChanges ms cs chs) (sym h.0.newer) h.1 in
      let made : IsChanging (record { cluster = new; to_come = rest }) (record { cluster = changed k ch.1; to_come = chs }) = record { cluster = d.2; staged = within_after code k stands x ch one within; to_come = subst (λ ys. AreChanges (layouts.reading.members ch.1.new) ys chs) (sym r) later } in (
        subst (λ b. AreLawfulActs k.run (cond b (acts_in k.run ch.1) []) × ActsFit k.run (cond b (acts_in k.run ch.1) [])) (sym due) (d.0, d.1),
        subst (λ b. IsChanging (record { cluster = new; to_come = rest }) (cond {A = Models} b (record { cluster = changed k ch.1; to_come = chs }) (record { cluster = k; to_come = ch ∷ chs }))) (sym due) made,
      )

  computed_at : (cs : List Change) (chs : List (ℕ × Later)) → AreChanges k.members cs chs → slice_get cs 0 ≡ Some x → IsComputed x
  computed_at [] chs h e = absurd (cc)
  computed_at (c ∷ cs) [] h e = absurd h
  computed_at (c ∷ cs) (ch ∷ chs) h e = let is : c ≡ x = cc in subst IsComputed is h.0.computed

module _ (code : Changing) (x : Change) (there : slice_get code.to_come 0 ≡ Some x) where
  pub due_made : (rest : List Change) (new : Cluster) → rest ≡ remove code.to_come 0 → Changes code.cluster new x → (m : Models) → IsChanging code m → is_due m.cluster m.to_come ≡ true →
      ChangeFits m.cluster m.to_come × IsChanging (record { cluster = new; to_come = rest }) (with_change m.cluster m.to_come)
  due_made rest new r f m h due = made_at code.cluster m.cluster h.cluster h.staged x code.to_come m.to_come rest new h.to_come there r f due

  pub due_computed : (m : Models) → IsChanging code m → IsComputed x
  due_computed m h = computed_at code.cluster m.cluster h.cluster h.staged x code.to_come m.to_come h.to_come there

-- what the change of the cluster answers is handed on
pub due_next : {A : Type 0} (r : Result A Memory) (code : Changing) (x : Change) → slice_get code.to_come 0 ≡ Some x → (rest : List Change) (new : Cluster) → rest ≡ remove code.to_come 0 →
    ((m : Models) → IsChanging code m → is_due m.cluster m.to_come ≡ true) → OnOk r (Changes code.cluster new x) →
    OnOk r ((m : Models) → IsChanging code m → ChangeFits m.cluster m.to_come × IsChanging (record { cluster = new; to_come = rest }) (with_change m.cluster m.to_come))
due_next (Ok v) code x there rest new r due f = λ m h. due_made code x there rest new r f m h (due m h)
due_next (Err e) code x there rest new r due f = tt

-- what is staged, whatever the code's cluster stands for
pub due_within : (code : Changing) (m : Models) → IsChanging code m → (k : Model) → StandsFor code.cluster k → AreWithin k.run.world.roles
due_within code m h k st = same_staged code.cluster.world m.cluster.run k.run h.cluster.world st.world h.staged

-- how many changes are to come
pub as_many : (members : List ℕ) (cs : List Change) (chs : List (ℕ × Later)) → AreChanges members cs chs → length cs ≡ length chs
as_many members [] [] h = refl
as_many members [] (ch ∷ chs) h = absurd h
as_many members (c ∷ cs) [] h = absurd h
as_many members (c ∷ cs) (ch ∷ chs) h = ap suc (as_many (nodes_of c.shown.roles.list) cs chs h.1)

-- ---- one job, and the change after it

abbrev pub Carries : Cluster → Cluster → ℕ → Job → Option FlowEnd → Type 0
Carries old new time job end = (s : Model) → StandsFor old s → CarriedOut cluster fits lacks (StandsFor new) s time job end

-- the change that is due is made
abbrev pub MakesDue : Cluster → List Change → Changing → Type 0
MakesDue mid to_come new = (m : Models) → IsChanging (record { cluster = mid; to_come = to_come }) m → ChangeFits m.cluster m.to_come × IsChanging new (with_change m.cluster m.to_come)

-- or it has no room
abbrev pub DueLacks : Cluster → List Change → Type 0
DueLacks mid to_come = (m : Models) → IsChanging (record { cluster = mid; to_come = to_come }) m → ActLacksRoom m.cluster.run (acts_due m.cluster m.to_come)

module _ (to_come : List Change) (mid : Cluster) (m : Models) (time : ℕ) (job : Job) (end : Option FlowEnd) (staged : AreWithin m.cluster.run.world.roles) (are : AreChanges m.cluster.members to_come m.to_come) (carried : CarriedOut cluster fits lacks (StandsFor mid) m.cluster time job end) where
  abbrev then : Models
  then = record { cluster = (cluster.carries m.cluster time job).state; to_come = m.to_come }

  stands_mid : IsChanging (record { cluster = mid; to_come = to_come }) then
  stands_mid = record { cluster = carried.stands; staged = subst AreWithin (sym (job_leaves m.cluster time job)) staged; to_come = are }

  then_made : (new : Changing) → MakesDue mid to_come new → CarriedOut changing changing_fits changing_lacks (IsChanging new) m time job end
  then_made new f = let d = f then stands_mid in record { end_is = carried.end_is; fit = (carried.fit, d.0); stands = d.1 }

  then_lacks : DueLacks mid to_come → changing_lacks m time job
  then_lacks f = inr (carried.fit, f then stands_mid)

module _ (old : Changing) (time : ℕ) (job : Job) (mid : Cluster) (end : Option FlowEnd) (carried : Carries old.cluster mid time job end) where
  pub mid_state : HasState (IsChanging old) → HasState (IsChanging (record { cluster = mid; to_come = old.to_come }))
  mid_state h = let m = h.0 in (then old.to_come mid m time job end h.1.staged h.1.to_come (carried m.cluster h.1.cluster), stands_mid old.to_come mid m time job end h.1.staged h.1.to_come (carried m.cluster h.1.cluster))

  pub carried_all : (new : Changing) → MakesDue mid old.to_come new → (m : Models) → IsChanging old m → CarriedOut changing changing_fits changing_lacks (IsChanging new) m time job end
  carried_all new f m h = then_made old.to_come mid m time job end h.staged h.to_come (carried m.cluster h.cluster) new f

  pub carried_lacks : DueLacks mid old.to_come → (m : Models) → IsChanging old m → changing_lacks m time job
  carried_lacks f m h = then_lacks old.to_come mid m time job end h.staged h.to_come (carried m.cluster h.cluster) f

pub job_lacks : (old : Changing) (time : ℕ) (job : Job) → ((s : Model) → StandsFor old.cluster s → lacks s time job) → (m : Models) → IsChanging old m → changing_lacks m time job
job_lacks old time job f m h = inl (f m.cluster h.cluster)

-- ---- a get, and the change after it

-- what the cluster gives next, whatever is on its way in it
abbrev pub Goes : Cluster → Cluster → Got → Type 0
Goes old new got = (s : Model) (time : ℕ) (order : Order) (so_far : Option Given) → IsOnItsWay old s time order so_far → Gives (IsOnItsWay new s time order) (CarriedOut cluster fits lacks (StandsFor new) s time (carry order)) (cluster.carries s time (carry order)) so_far got

module _ (old : Changing) (mid : Cluster) where
  abbrev left : Changing
  left = record { cluster = mid; to_come = old.to_come }

  pub get_begins : (time : ℕ) (order : Order) → ((s : Model) → StandsFor old.cluster s → IsOnItsWay mid s time order None) → (m : Models) → IsChanging old m → IsChangingGet left m time order None
  get_begins time order f m h = record { cluster = f m.cluster h.cluster; staged = h.staged; to_come = h.to_come }

  pub get_goes_on : (g : Got) → GoesOn g → Goes old.cluster mid g → (m : Models) (time : ℕ) (order : Order) (so_far : Option Given) → IsChangingGet old m time order so_far →
      Gives (IsChangingGet left m time order) (CarriedOut changing changing_fits changing_lacks (IsChanging left) m time (carry order)) (changing.carries m time (carry order)) so_far g
  get_goes_on (got.Found version meta) on f m time order so_far h = let x = f m.cluster time order so_far h.cluster in (x.0, record { cluster = x.1; staged = h.staged; to_come = h.to_come })
  get_goes_on (got.Piece bytes) on f m time order so_far h = let x = f m.cluster time order so_far h.cluster in (x.0, x.1, record { cluster = x.2; staged = h.staged; to_come = h.to_come })
  get_goes_on (got.End end) on f m time order so_far h = absurd on

  module _ (end : Option FlowEnd) (f : Goes old.cluster mid (got.End end)) where
    pub get_mid : gets.IsOnItsWay (IsChangingGet old) → HasState (IsChanging left)
    get_mid h = let x = f h.0.cluster h.1 h.2 h.3 h.4.cluster in (then old.to_come mid h.0 h.1 (carry h.2) (with_given h.3 end) h.4.staged h.4.to_come x.0, stands_mid old.to_come mid h.0 h.1 (carry h.2) (with_given h.3 end) h.4.staged h.4.to_come x.0)

    pub get_ends : (new : Changing) → MakesDue mid old.to_come new → (m : Models) (time : ℕ) (order : Order) (so_far : Option Given) → IsChangingGet old m time order so_far →
        Gives (IsChangingGet new m time order) (CarriedOut changing changing_fits changing_lacks (IsChanging new) m time (carry order)) (changing.carries m time (carry order)) so_far (got.End end)
    get_ends new made m time order so_far h =
        let x = f m.cluster time order so_far h.cluster in
        (then_made old.to_come mid m time (carry order) (with_given so_far end) h.staged h.to_come x.0 new made, x.1)

    pub get_lacks : DueLacks mid old.to_come → (m : Models) (time : ℕ) (order : Order) (so_far : Option Given) → IsChangingGet old m time order so_far → changing_lacks m time (carry order)
    get_lacks full m time order so_far h =
        let x = f m.cluster time order so_far h.cluster in
        then_lacks old.to_come mid m time (carry order) (with_given so_far end) h.staged h.to_come x.0 full

pub get_may : (m : Models) (time : ℕ) (order : Order) (so_far : Option Given) → MayGive cluster m.cluster time order so_far → MayGive changing m time order so_far
get_may m time order None h = tt
get_may m time order (Some g) h = h

pub get_order_lacks : (old : Changing) → ((s : Model) (time : ℕ) (order : Order) (so_far : Option Given) → IsOnItsWay old.cluster s time order so_far → lacks s time (carry order)) → (m : Models) (time : ℕ) (order : Order) (so_far : Option Given) → IsChangingGet old m time order so_far → changing_lacks m time (carry order)
get_order_lacks old f m time order so_far h = inl (f m.cluster time order so_far h.cluster)

-- ---- an upload, and the change after it

pub upload_taken : (old : Changing) (need : Option ℕ) → IsTaken (IsChangingUpload old) need → IsTaken (IsUploading old.cluster) need
upload_taken old need h = (h.0.cluster, h.1, h.2, h.3, h.4.cluster)

module _ (old : Changing) (mid : Cluster) where
  pub upload_goes : (m : Models) (time : ℕ) (u : Upload) (came : List ℕ) (need : Option ℕ) → AreWithin m.cluster.run.world.roles → AreChanges m.cluster.members old.to_come m.to_come → Takes (IsUploading mid m.cluster time) u came need →
      Takes (IsChangingUpload (left old mid) m time) u came need
  upload_goes m time u came need staged are x = (record { cluster = x.0; staged = staged; to_come = are }, x.1)

  -- a job ended it
  module _ (m : Models) (time : ℕ) (u : Upload) (came : List ℕ) (need : Option ℕ) (h : IsChangingUpload old m time u came need) (job : Job) (end : Option FlowEnd) (carried : CarriedOut cluster fits lacks (StandsFor mid) m.cluster time job end) where
    pub upload_mid : HasState (IsChanging (left old mid))
    upload_mid = (then old.to_come mid m time job end h.staged h.to_come carried, stands_mid old.to_come mid m time job end h.staged h.to_come carried)

    pub upload_ends : (new : Changing) → MakesDue mid old.to_come new → CarriedOut changing changing_fits changing_lacks (IsChanging new) m time job end
    upload_ends new made = then_made old.to_come mid m time job end h.staged h.to_come carried new made

    pub upload_lacks : DueLacks mid old.to_come → changing_lacks m time job
    upload_lacks full = then_lacks old.to_come mid m time job end h.staged h.to_come carried full
