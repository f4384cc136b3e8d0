-- An upload that is on its way in a cluster.
use Rattle.std.proofs.Common.{◌≡◌, ◌≤◌, ◌<◌, ◌+◌, ◌-◌, min, inl, ℕ, false, Option, Some, None, Result, Ok, Err, IfOk, List, [], ◌∷◌, ◌++◌, length, refl, sym, ap, ◌∙◌, subst, append-nil, arith}
use Rattle.std.specs.List.{concat}
use Rattle.layout_roles.specs.declared.cut.Cut.{Cut}
use Rattle.crdt_core.specs.declared.memory.Memory.{Memory}
use Rattle.cluster_machine.specs.declared.step.Refusal.{Refusal}
use Rattle.flow_model.specs.declared.order.Order.{Order}
use Rattle.flow_model.specs.declared.flow.FlowEnd.{FlowEnd}
use Rattle.store_model.specs.Run.{State, Outcome, need_at}
use Rattle.store_model.specs.Acts.{Act, feeds, keeps, end_of, after_acts, AreLawfulActs, ActsFit}
use Rattle.store_model.proofs.Acts.{acts_after}
use Rattle.s3_world.specs.declared.world.S3World.{S3World}
use Rattle.s3_world.specs.Reads.{of}
use Rattle.s3_world.specs.Stands.{IsStore, IsGiving, HasStore, Allows}
use Rattle.s3_world.proofs.Storing.{as_store}
use Rattle.serve_model.specs.declared.upload.Upload.{Upload}
use Rattle.serve_model.specs.Stores.{Job, carry, keep, leave, stream_of}
use Rattle.serve_model.specs.Clusters.{Cluster as Model, cluster, fits, lacks, wait, number_in, delivered, round, fed_block, decided, carried_acts, acts_to_ask, acts_to_end, acts_opened, ActLacksRoom}
use Rattle.serve_model.specs.Serving.{HasState, CarriedOut}
use Rattle.serve_model.specs.Uploads.{IsPart, IsLeft, acts_of_blocks, asked_for, acts_opened_so_far, CameAsNeeded, needed_next, IsComing}
use Rattle.serve_model.proofs.Uploads.{left_done, kept_done, bytes_more, acts_more, needed_more}
use Rattle.get_laws.proofs.Coming.{upload_needs, upload_within, upload_endless}
use Rattle.serve_loop.specs.Uploads.{IsNeedOf, Takes, EachTaken, EachLeft}
use Rattle.serve_cluster.specs.declared.cluster.Cluster.{Cluster}
use Rattle.serve_cluster.specs.Acting.{KeepsActs, LacksRoom, Finished, Finishes, DoneActs}
use Rattle.serve_cluster.specs.Giving.{HasAsked, GivesNothing, IsNumber}
use Rattle.serve_cluster.specs.Standing.{StandsFor}
use Rattle.serve_cluster.specs.Uploads.{NeedIs, NeedOf, IsUploading}
use Rattle.serve_cluster.proofs.Acting.{acts_lawful, acts_fit, lacks_past, first_lacks, finished_past, opened_lacks}
use Rattle.serve_cluster.proofs.Carrying.{as_numbered, of_numbered, done_for, came as job_came, came_refused, came_opened, lacks_opened, asking_full, AskedSo, asked_store, with_world}

-- two rounds of a cluster
abbrev two_rounds : Model → List Act
two_rounds m = round m.members ++ round m.members

none_part : (need : Option ℕ) → IsPart need []
none_part None = tt
none_part (Some size) = inl refl

-- to give it up now is a job
pub left_now : (u : Upload) (came : List ℕ) (need : Option ℕ) → IsLeft u came need (leave u came)
left_now u came need = (refl, ([], none_part need, sym (append-nil came)))

-- ---- its acts so far, where it was refused so or not

module _ (m : Model) (time : ℕ) (u : Upload) where
  abbrev o : Outcome
  o = asked_for m time u

  abbrev to_ask : List Act
  to_ask = acts_to_ask m.members (wait m time) (stream_of u)

  -- these bytes came for request q, which was refused so or not; so much is needed next, and this is the state
  record ComesSo (came : List ℕ) (need : Option ℕ) (s : State) (q : ℕ) (r : Option (Refusal Cut)) : Type 0 where
    blocks : List (List ℕ)
    came_is : came ≡ concat blocks
    needed : CameAsNeeded o.state q r blocks
    lawful : AreLawfulActs m.run (to_ask ++ acts_opened_so_far q r blocks)
    fit : ActsFit m.run (to_ask ++ acts_opened_so_far q r blocks)
    state_is : s ≡ after_acts m.run (to_ask ++ acts_opened_so_far q r blocks)
    need_is : need ≡ needed_next s q r

  module _ (came : List ℕ) (need : Option ℕ) (s : State) where
    as_coming : ComesSo came need s (number_in o.words) o.refused → IsComing m time u came need s
    as_coming x = record { blocks = x.blocks; came_is = x.came_is; needed = x.needed; lawful = x.lawful; fit = x.fit; state_is = x.state_is; need_is = x.need_is }

    of_coming : IsComing m time u came need s → ComesSo came need s (number_in o.words) o.refused
    of_coming x = record { blocks = x.blocks; came_is = x.came_is; needed = x.needed; lawful = x.lawful; fit = x.fit; state_is = x.state_is; need_is = x.need_is }

-- ---- how much it needs

needs_so : (block size came need : ℕ) → 0 < block → need ≡ min block (size - came) → came ≤ size → (came + need ≤ size) × (need ≡ 0 → came ≡ size)
needs_so block size came need some is few = (omega (arith, is, few), λ none. omega (arith, some, is, few, none))

module _ (c : Cluster) (m : Model) (time : ℕ) (u : Upload) (came : List ℕ) where
  need_so : (need : Option ℕ) → IsUploading c m time u came need → IsNeedOf u came need
  need_so None h = upload_within m time u h.knows came None h.state h.coming
  need_so (Some need) h = let x = upload_needs m time u h.knows came need h.state h.coming in needs_so m.run.block u.length (length came) need h.sized x.0 x.1

  pub takes_so : (need : Option ℕ) → IsUploading c m time u came need → Takes (IsUploading c m time) u came need
  takes_so need h = (h, need_so need h)

-- ---- it begins

module _ (c : Cluster) (m : Model) (time : ℕ) (u : Upload) where
  -- its order could not be asked
  pub asked_full : ActLacksRoom m.run (acts_to_ask m.members (wait m time) (stream_of u)) → lacks m time (leave u [])
  asked_full full = asking_full m time (leave u []) full

  pub none_begun : HasAsked c m time (stream_of u) None → Takes (IsUploading (record c { uploading = None }) m time) u [] None
  none_begun h =
      let o : Outcome = asked_for m time u in
      let r = h.number_is in
      let x : ComesSo m time u [] None o.state (number_in o.words) (Some r.0) = record { blocks = []; came_is = refl; needed = refl; lawful = h.does.lawful; fit = h.does.fit; state_is = refl; need_is = refl } in
      let on : IsUploading (record c { uploading = None }) m time u [] None = record {
        state = o.state;
        coming = as_coming m time u [] None o.state (subst (λ a. ComesSo m time u [] None o.state (number_in o.words) a) (sym r.1) x);
        number_is = r;
        stands = h.does.stands;
        gives = tt;
        needs = refl;
        ticked = h.ticked;
        members = h.members;
        sized = h.sized;
        knows = h.knows;
      } in
      takes_so (record c { uploading = None }) m time u [] None on

  module _ (q : ℕ) (h : HasAsked c m time (stream_of u) (Some q)) where
    abbrev at : State
    at = (asked_for m time u).state

    pub begun_at : (new : S3World) (need : Option ℕ) → KeepsActs c.world new delivered → NeedIs new q need → Takes (IsUploading (record c { world = new; uploading = Some q }) m time) u [] need
    begun_at new need kept_so is =
        let on : Cluster = record c { world = new; uploading = Some q } in
        let a = kept_so (of q []) at h.gives in
        let t : State = after_acts at delivered in
        let ask : List Act = acts_to_ask m.members (wait m time) (stream_of u) in
        let x : ComesSo m time u [] need t q None = record {
          blocks = [];
          came_is = refl;
          needed = tt;
          lawful = acts_lawful m.run ask delivered h.does.lawful a.lawful;
          fit = acts_fit m.run ask delivered h.does.fit a.fit;
          state_is = refl;
          need_is = is t (as_store new t a.stands);
        } in
        let o : Outcome = asked_for m time u in
        let way : IsUploading on m time u [] need = record {
          state = t;
          coming = as_coming m time u [] need t (as_numbered o q h.number_is (ComesSo m time u [] need t) x);
          number_is = h.number_is;
          stands = as_store new t a.stands;
          gives = a.stands;
          needs = is;
          ticked = h.ticked;
          members = h.members;
          sized = h.sized;
          knows = h.knows;
        } in
        takes_so on m time u [] need way

    -- its first messages have no room
    pub begun_full : LacksRoom c.world (λ _. delivered) → lacks m time (leave u [])
    begun_full full =
        let more : List Act = decided false q (need_at (after_acts at delivered) q) in
        lacks_opened c m time (stream_of u) (done_for m time (leave u [])) q (delivered ++ more) (left_done at q [] tt u (leave u []) (left_now u [] (need_at (after_acts at delivered) q))) h.number_is h.does.lawful h.does.fit
        (first_lacks m.members at q delivered more (full at h.does.stands))

-- what came of asking for it
module _ (old c : Cluster) (time : ℕ) (u : Upload) (order : Order) (of_upload : order ≡ stream_of u) where
  pub asking_lacks : ((m : Model) → StandsFor old m → ActLacksRoom m.run (acts_to_ask m.members (wait m time) order)) → (m : Model) → StandsFor old m → lacks m time (leave u [])
  asking_lacks full m st = asked_full c m time u (subst (λ (o : Order). ActLacksRoom m.run (acts_to_ask m.members (wait m time) o)) of_upload (full m st))

  module _ (number : Option ℕ) (asked : AskedSo old c time order number) where
    asked_upload : AskedSo old c time (stream_of u) number
    asked_upload = subst (λ (o : Order). AskedSo old c time o number) of_upload asked

    -- it was refused
    pub refused_begins : number ≡ None → (m : Model) → StandsFor old m → Takes (IsUploading (record c { uploading = number }) m time) u [] None
    refused_begins none m st =
        subst (λ (n : Option ℕ). Takes (IsUploading (record c { uploading = n }) m time) u [] None) (sym none) (none_begun c m time u (subst (λ (n : Option ℕ). HasAsked c m time (stream_of u) n) none (asked_upload m st)))

    module _ (q : ℕ) (some : number ≡ Some q) where
      asked_as : AskedSo old c time (stream_of u) (Some q)
      asked_as = subst (λ (n : Option ℕ). AskedSo old c time (stream_of u) n) some asked_upload

      pub begun_store : HasState (StandsFor old) → HasStore c.world
      begun_store h = asked_store old c time (stream_of u) (Some q) asked_as h

      pub begins : (new : S3World) (need : Option ℕ) → KeepsActs c.world new delivered → NeedIs new q need → (m : Model) → StandsFor old m → Takes (IsUploading (record c { world = new; uploading = number }) m time) u [] need
      begins new need kept_so is m st =
          subst (λ (n : Option ℕ). Takes (IsUploading (record c { world = new; uploading = n }) m time) u [] need) (sym some) (begun_at c m time u q (asked_as m st) new need kept_so is)

      pub begins_full : LacksRoom c.world (λ _. delivered) → (m : Model) → StandsFor old m → lacks m time (leave u [])
      begins_full full m st = begun_full c m time u q (asked_as m st) full

-- ---- it was refused

module _ (c : Cluster) (m : Model) (time : ℕ) (u : Upload) (came : List ℕ) (need : Option ℕ) (h : IsUploading c m time u came need) (is : c.uploading ≡ None) where
  pub needs_none : need ≡ None
  needs_none = subst (λ (n : Option ℕ). NeedOf c.world n need) is h.needs

  none_number : IsNumber None (asked_for m time u)
  none_number = subst (λ (n : Option ℕ). IsNumber n (asked_for m time u)) is h.number_is

  none_done : DoneActs c.world m.run (to_ask m time u)
  none_done =
      let x : ComesSo m time u came need h.state (number_in (asked_for m time u).words) (Some none_number.0) =
      subst (λ (r : Option (Refusal Cut)). ComesSo m time u came need h.state (number_in (asked_for m time u).words) r) none_number.1 (of_coming m time u came need h.state h.coming) in
      record { lawful = x.lawful; fit = x.fit; stands = subst (IsStore c.world) x.state_is h.stands }

  pub left_none : (job : Job) → IsLeft u came need job → CarriedOut cluster fits lacks (StandsFor c) m time job None
  left_none (carry order) is_left = absurd is_left
  left_none (keep v all) is_left =
      subst (λ (v : Upload). CarriedOut cluster fits lacks (StandsFor c) m time (keep v all) None) is_left.1
      (job_came c m time (keep u all) None h.ticked h.members (came_refused c m time (stream_of u) (done_for m time (keep u all)) none_number none_done))
  left_none (leave v all) is_left =
      subst (λ (v : Upload). CarriedOut cluster fits lacks (StandsFor c) m time (leave v all) None) is_left.0
      (job_came c m time (leave u all) None h.ticked h.members (came_refused c m time (stream_of u) (done_for m time (leave u all)) none_number none_done))

-- nothing is needed of it
pub none_taken : {A : Type 0} (c : Cluster) (m : Model) (time : ℕ) (u : Upload) (came : List ℕ) (size : ℕ) → c.uploading ≡ None → IsUploading c m time u came (Some size) → A
none_taken c m time u came size is h = absurd (let no' : Some size ≡ None = needs_none c m time u came (Some size) h is in cc)

-- ---- it was opened

module _ (c : Cluster) (m : Model) (time : ℕ) (u : Upload) (came : List ℕ) (need : Option ℕ) (h : IsUploading c m time u came need) (q : ℕ) (is : c.uploading ≡ Some q) where
  abbrev asked_now : Outcome
  asked_now = asked_for m time u

  number : IsNumber (Some q) asked_now
  number = subst (λ (n : Option ℕ). IsNumber n asked_now) is h.number_is

  comes : ComesSo m time u came need h.state q None
  comes = of_numbered asked_now q number (ComesSo m time u came need h.state) (of_coming m time u came need h.state h.coming)

  abbrev so_far : List Act
  so_far = delivered ++ acts_of_blocks q comes.blocks

  abbrev now : State
  now = after_acts asked_now.state so_far

  -- what is known of it in its state is known of this one
  at_now : (P : State → Type 0) → P h.state → P now
  at_now P x = subst P comes.state_is x

  ask_lawful : AreLawfulActs m.run (to_ask m time u)
  ask_lawful = let l = comes.lawful in (l.0, (l.1.0, tt))

  ask_fit : ActsFit m.run (to_ask m time u)
  ask_fit = let f = comes.fit in (f.0, (f.1.0, tt))

  far_lawful : AreLawfulActs asked_now.state so_far
  far_lawful = let l = comes.lawful in l.1.1

  far_fit : ActsFit asked_now.state so_far
  far_fit = let f = comes.fit in f.1.1

  gives_now : IsGiving c.world now q []
  gives_now = at_now (λ s. IsGiving c.world s q []) (subst (λ (n : Option ℕ). GivesNothing c.world h.state n) is h.gives)

  stands_now : IsStore c.world now
  stands_now = at_now (IsStore c.world) h.stands

  need_now : need ≡ need_at now q
  need_now = comes.need_is ∙ ap (λ (s : State). need_at s q) comes.state_is

  -- what it needs it needs whatever state the world stands for
  need_always : NeedIs c.world q need
  need_always = subst (λ (n : Option ℕ). NeedOf c.world n need) is h.needs

  pub opened_store : HasStore c.world
  opened_store = (h.state, h.stands)

  -- ---- a block comes

  module _ (b : List ℕ) (needs : need ≡ Some (length b)) (some : 1 ≤ length b) where
    abbrev blocks : List (List ℕ)
    blocks = comes.blocks ++ b ∷ []

    bytes_are : came ++ b ≡ concat blocks
    bytes_are = ap (λ (front : List ℕ). front ++ b) comes.came_is ∙ sym (bytes_more comes.blocks b)

    more_needed : CameAsNeeded asked_now.state q None blocks
    more_needed = needed_more (after_acts asked_now.state delivered) q comes.blocks b comes.needed (sym need_now ∙ needs) some

    acts_are : delivered ++ acts_of_blocks q blocks ≡ so_far ++ fed_block q b
    acts_are = ap (λ (acts : List Act). delivered ++ acts) (acts_more q comes.blocks b)

    pub fed : (new : S3World) (next : Option ℕ) → KeepsActs c.world new (fed_block q b) → NeedIs new q next → Takes (IsUploading (with_world c new) m time) u (came ++ b) next
    fed new next kept_so is_next =
        let a = kept_so (of q []) now gives_now in
        let t : State = after_acts now (fed_block q b) in
        let all : List Act = delivered ++ acts_of_blocks q blocks in
        let lawful : AreLawfulActs asked_now.state all = subst (AreLawfulActs asked_now.state) (sym acts_are) (acts_lawful asked_now.state so_far (fed_block q b) far_lawful a.lawful) in
        let fit : ActsFit asked_now.state all = subst (ActsFit asked_now.state) (sym acts_are) (acts_fit asked_now.state so_far (fed_block q b) far_fit a.fit) in
        let x : ComesSo m time u (came ++ b) next t q None = record {
          blocks = blocks;
          came_is = bytes_are;
          needed = more_needed;
          lawful = acts_lawful m.run (to_ask m time u) all ask_lawful lawful;
          fit = acts_fit m.run (to_ask m time u) all ask_fit fit;
          state_is = sym (ap (after_acts asked_now.state) acts_are ∙ acts_after asked_now.state so_far (fed_block q b));
          need_is = is_next t (as_store new t a.stands);
        } in
        let way : IsUploading (with_world c new) m time u (came ++ b) next = record {
          state = t;
          coming = as_coming m time u (came ++ b) next t (as_numbered asked_now q number (ComesSo m time u (came ++ b) next t) x);
          number_is = h.number_is;
          stands = as_store new t a.stands;
          gives = subst (λ (n : Option ℕ). GivesNothing new t n) (sym is) a.stands;
          needs = subst (λ (n : Option ℕ). NeedOf new n next) (sym is) is_next;
          ticked = h.ticked;
          members = h.members;
          sized = h.sized;
          knows = h.knows;
        } in
        takes_so (with_world c new) m time u (came ++ b) next way

    pub may_feed : Allows c.world (feeds q b)
    may_feed = λ s st. (sym (need_always s st) ∙ needs, some)

    -- or it has no room
    pub fed_full : LacksRoom c.world (λ _. fed_block q b) → lacks m time (leave u (came ++ b))
    fed_full full =
        let next : Option ℕ = need_at (after_acts asked_now.state (delivered ++ acts_of_blocks q blocks)) q in
        let more : List Act = decided false q next in
        let left : IsLeft u (concat blocks) next (leave u (came ++ b)) = subst (λ (bytes : List ℕ). IsLeft u (concat blocks) next (leave u bytes)) (sym bytes_are) (left_now u (concat blocks) next) in
        let done : carried_acts asked_now.state q (leave u (came ++ b)) ≡ (so_far ++ fed_block q b) ++ more = left_done asked_now.state q blocks more_needed u (leave u (came ++ b)) left ∙ ap (λ (acts : List Act). acts ++ more) acts_are in
        lacks_opened c m time (stream_of u) (done_for m time (leave u (came ++ b))) q ((so_far ++ fed_block q b) ++ more) done number ask_lawful ask_fit
        (first_lacks m.members asked_now.state q (so_far ++ fed_block q b) more (lacks_past asked_now.state so_far (fed_block q b) far_lawful far_fit (full now stands_now)))

  -- ---- it comes to its end

  module _ (done : State → List Act) (job : Job) (is_done : carried_acts asked_now.state q job ≡ so_far ++ done now) where
    ended_so : (new : S3World) (end : Option FlowEnd) → Finishes c.world new c.members q done end → Finished new asked_now.state m.members q (so_far ++ done now) end
    ended_so new end f =
        finished_past m.members asked_now.state q so_far (done now) far_lawful far_fit new end (subst (λ ns. Finishes c.world new ns q done end) h.members f now gives_now)

    ended_lacks : LacksRoom c.world (λ s. acts_opened c.members s q (done s)) → ActLacksRoom asked_now.state (acts_opened m.members asked_now.state q (so_far ++ done now))
    ended_lacks full =
        opened_lacks m.members asked_now.state q so_far (done now) far_lawful far_fit (subst (λ ns. LacksRoom c.world (λ s. acts_opened ns s q (done s))) h.members full now stands_now)

  -- it is kept
  module _ (none : need ≡ Some 0) where
    all_came : length came ≡ u.length
    all_came = let x = subst (IsNeedOf u came) none (need_so c m time u came need h) in x.1 refl

    kept_is : carried_acts asked_now.state q (keep u came) ≡ so_far ++ keeps q ∷ delivered
    kept_is =
        let bytes = comes.came_is in
        ap (λ (bytes : List ℕ). carried_acts asked_now.state q (keep u bytes)) bytes
        ∙ kept_done asked_now.state q comes.blocks comes.needed u (sym need_now ∙ none) (sym (ap length bytes) ∙ all_came)

    pub may_keep : Allows c.world (keeps q)
    may_keep = λ s st. sym (need_always s st) ∙ none

    pub kept : (new : S3World) (end : Option FlowEnd) → Finishes c.world new c.members q (λ _. keeps q ∷ delivered) end → CarriedOut cluster fits lacks (StandsFor (with_world c new)) m time (keep u came) end
    kept new end f =
        job_came (with_world c new) m time (keep u came) end h.ticked h.members
        (came_opened (with_world c new) m time (stream_of u) (done_for m time (keep u came)) q (so_far ++ keeps q ∷ delivered) kept_is number ask_lawful ask_fit end (ended_so (λ _. keeps q ∷ delivered) (keep u came) kept_is new end f))

    pub kept_full : LacksRoom c.world (λ s. acts_opened c.members s q (keeps q ∷ delivered)) → lacks m time (keep u came)
    kept_full full =
        lacks_opened c m time (stream_of u) (done_for m time (keep u came)) q (so_far ++ keeps q ∷ delivered) kept_is number ask_lawful ask_fit (ended_lacks (λ _. keeps q ∷ delivered) (keep u came) kept_is full)

  -- it is given up
  abbrev leaves : State → List Act
  leaves s = decided false q (need_at s q)

  left_is : (job : Job) → IsLeft u came need job → carried_acts asked_now.state q job ≡ so_far ++ leaves now
  left_is job left =
      left_done asked_now.state q comes.blocks comes.needed u job
      (subst (λ (next : Option ℕ). IsLeft u (concat comes.blocks) next job) need_now (subst (λ (bytes : List ℕ). IsLeft u bytes need job) comes.came_is left))

  module _ (new : S3World) (end : Option FlowEnd) (f : Finishes c.world new c.members q leaves end) where
    pub left : (job : Job) → IsLeft u came need job → CarriedOut cluster fits lacks (StandsFor (with_world c new)) m time job end
    left (carry order) is_left = absurd is_left
    left (keep v all) is_left =
        let here : IsLeft u came need (keep u all) = (is_left.0, refl, is_left.2) in
        let done = left_is (keep u all) here in
        subst (λ (v : Upload). CarriedOut cluster fits lacks (StandsFor (with_world c new)) m time (keep v all) end) is_left.1
        (job_came (with_world c new) m time (keep u all) end h.ticked h.members
        (came_opened (with_world c new) m time (stream_of u) (done_for m time (keep u all)) q (so_far ++ leaves now) done number ask_lawful ask_fit end (ended_so leaves (keep u all) done new end f)))
    left (leave v all) is_left =
        let here : IsLeft u came need (leave u all) = (refl, is_left.1) in
        let done = left_is (leave u all) here in
        subst (λ (v : Upload). CarriedOut cluster fits lacks (StandsFor (with_world c new)) m time (leave v all) end) is_left.0
        (job_came (with_world c new) m time (leave u all) end h.ticked h.members
        (came_opened (with_world c new) m time (stream_of u) (done_for m time (leave u all)) q (so_far ++ leaves now) done number ask_lawful ask_fit end (ended_so leaves (leave u all) done new end f)))

    -- nothing is told where it waits for no client
    pub left_silent : need ≡ None → end ≡ None
    left_silent none =
        let at_end = subst (λ ns. Finishes c.world new ns q leaves end) h.members f now gives_now in
        let unneeded : leaves now ≡ [] = ap (decided false q) (sym need_now ∙ none) in
        let q_is : number_in asked_now.words ≡ q = ap number_in number.1 in
        let ends = subst (λ n. end_of (after_acts h.state (two_rounds m)).ends n ≡ None) q_is (upload_endless m time u h.knows came need h.state number.0 h.coming) in
        at_end.end_is ∙ (ap (λ (done : List Act). end_of (after_acts now (acts_to_end m.members done)).ends q) unneeded ∙ at_now (λ s. end_of (after_acts s (two_rounds m)).ends q ≡ None) ends)

  pub left_full : LacksRoom c.world (λ s. acts_opened c.members s q (leaves s)) → lacks m time (leave u came)
  left_full full =
      let done = left_is (leave u came) (left_now u came need) in
      lacks_opened c m time (stream_of u) (done_for m time (leave u came)) q (so_far ++ leaves now) done number ask_lawful ask_fit (ended_lacks leaves (leave u came) done full)

-- ---- of any upload

module _ (c : Cluster) (q : ℕ) (is : c.uploading ≡ Some q) (new : S3World) where
  pub kept_next : (r : Result (Option FlowEnd) Memory) → IfOk r (λ end. Finishes c.world new c.members q (λ _. keeps q ∷ delivered) end) →
      IfOk r (λ end. EachTaken (IsUploading c) (Some 0) (λ m time u came. CarriedOut cluster fits lacks (StandsFor (with_world c new)) m time (keep u came) end))
  kept_next (Ok end) f = λ m time u came h. kept c m time u came (Some 0) h q is refl new end f
  kept_next (Err e) f = tt

  abbrev leaves_now : State → List Act
  leaves_now s = decided false q (need_at s q)

  pub left_next : (r : Result (Option FlowEnd) Memory) → IfOk r (λ end. Finishes c.world new c.members q leaves_now end) →
      IfOk r (λ end. EachLeft (IsUploading c) (λ m time job. CarriedOut cluster fits lacks (StandsFor (with_world c new)) m time job end))
  left_next (Ok end) f = λ m time u came need job h is_left. left c m time u came need h q is new end f job is_left
  left_next (Err e) f = tt

  pub silent_next : (r : Result (Option FlowEnd) Memory) → IfOk r (λ end. Finishes c.world new c.members q leaves_now end) → IfOk r (λ end. EachTaken (IsUploading c) None (λ m time u came. end ≡ None))
  silent_next (Ok end) f = λ m time u came h. left_silent c m time u came None h q is new end f refl
  silent_next (Err e) f = tt
