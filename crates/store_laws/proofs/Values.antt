-- What a read of an object's row gives: versions that writes drew, and none below what was acknowledged before.
use Rattle.std.proofs.Common.{◌≡◌, ◌⊎◌, inl, inr, ℕ, Option, Some, None, List, ◌∷◌, ◌++◌, refl, sym, ap, ◌∙◌, subst, arith}
use Rattle.std.specs.Prelude.{IsTrue}
use Rattle.std.specs.List.{Contains}
use Rattle.std.proofs.lemmas.List.Elements.{All-contains}
use Rattle.blake2_hash.specs.declared.digest.Hash32.{Hash32}
use Rattle.blake2_hash.specs.Hash.{digest_of}
use Rattle.crdt_core.specs.Order.{option_join}
use Rattle.crdt_rows.specs.declared.version.Version.{Version}
use Rattle.crdt_rows.specs.declared.body.Meta.{Meta}
use Rattle.crdt_rows.specs.declared.object_row.ObjectRow.{ObjectRow}
use Rattle.crdt_rows.specs.declared.any_row.AnyRow.{AnyRow}
use Rattle.crdt_rows.specs.declared.any_row.AnyRow.TheVariants as rows
use Rattle.crdt_rows.specs.AnyRow.{any_join}
use Rattle.table_model.specs.Rows.{row_at}
use Rattle.object_schema.specs.Schema.{words}
use Rattle.object_collects.specs.Seen.{object_versions}
use Rattle.collect_reads.specs.Clean.{GaveNotBelow}
use Rattle.store_collects.proofs.Clean.{GaveClean}
use Rattle.wire_messages.specs.declared.phase.PhaseEnd.{PhaseEnd}
use Rattle.wire_messages.specs.declared.phase.PhaseEnd.TheVariants.{Row as Answered, Window, Kept, Block}
use Rattle.cluster_machine.specs.Node.{read, scanned}
use Rattle.cluster_machine.specs.Kept.{IsOver}
use Rattle.cluster_machine.specs.World.{numbered}
use Rattle.machine_origins.specs.Origins.{Gave as HasGiven}
use Rattle.history_model.specs.declared.record.Kind.{Kind}
use Rattle.history_model.specs.declared.record.Answer.TheVariants as answer
use Rattle.history_model.specs.declared.record.Record.{Record}
use Rattle.history_model.specs.Record.{names}
use Rattle.history_model.specs.Fresh.{Below}
use Rattle.flow_model.specs.declared.flow.Name.{Name}
use Rattle.flow_model.specs.declared.flow.Flow.{Flow}
use Rattle.flow_model.specs.Rows.{row_key}
use Rattle.flow_model.specs.Says.{Said, none, marked, inline, in_blocks, said_by, said_of}
use Rattle.store_model.specs.Run.{Asked, State}
use Rattle.store_model.specs.Fresh.{Gave, NoClash}
use Rattle.store_laws.proofs.Elements.{at_cut, only, none_in}
use Rattle.store_laws.proofs.Every.{EveryWorld}
use Rattle.store_laws.proofs.Rows.{IsOf, IsValue, IsFound, FoundIn, SaysWritten, found, value_written}
use Rattle.store_laws.proofs.Clean.{reached_clean, reached_gone}
use Rattle.store_laws.proofs.Covering.{IsSaid, IsHere}
use Rattle.store_laws.proofs.Gone.{IsPassed, IsCovering, value_covers}
use Rattle.store_laws.proofs.Good.{IsGood}
use Rattle.store_laws.proofs.Sound.{began, IsWishOf, WasAcknowledged, HasKept, AsksRow, AsksFor, DrewHere, IsGone, sights, CoversNow, IsFreshEnd, HasFound, IsSound}
use Rattle.store_laws.proofs.Reached.{reached_good}
use Rattle.store_laws.proofs.Ends.{HasRead, IsEnd}
use Rattle.store_laws.proofs.Deeds.{Deed, IsClear}

-- two names with equal parts
pub one_name : (a b : Name) → a.bucket ≡ b.bucket → a.key ≡ b.key → a ≡ b
one_name a b bucket key = λ i. record { bucket = bucket i; key = key i }

-- ---- what a request owes that shows a version

module _ {H : Deed → Type 0} where
  module _ (s : State) (q : ℕ) (a : Asked) (at : numbered s.asked q ≡ Some a) (sound : IsSound H s) where
    -- the request that a record says began is this one
    pub is_own : (n : ℕ) (kind : Kind) (began_name : Name) → Contains s.history (began q n kind began_name) → (a.kind ≡ kind) × (a.name ≡ began_name)
    is_own n kind began_name c =
        let asked = sound.told.began_asked q n kind began_name c in
        let some_is : Some asked.one ≡ Some a = sym asked.is_there ∙ at in
        let one_is : asked.one ≡ a = cc in
        (ap (λ (b : Asked). b.kind) (sym one_is) ∙ asked.kind_is, ap (λ (b : Asked). b.name) (sym one_is) ∙ asked.name_is)

    -- what was found was drawn by a write of this object, where no two buckets have one digest
    pub drew_here : (v u : Version) → v ≡ u → (name here : Name) → here ≡ name → name.bucket ≡ a.name.bucket → NoClash s.buckets → FoundIn s.draws name v → DrewHere s here u
    drew_here v u version_is name here same in_own clash f =
        let d = sound.drawn f.draw f.drawn in
        let bucket : f.draw.name.bucket ≡ name.bucket =
        clash f.draw.name.bucket name.bucket d.bucket (subst (Contains s.buckets) (sym in_own) (sound.told.bucket_there q a at)) (ap (λ (b : Hash32). b.0) f.bucket) in
        let name_is : f.draw.name ≡ here = one_name f.draw.name name bucket f.key ∙ sym same in
        let drew : f.draw.version ≡ u = f.version ∙ version_is in
        let request : f.draw.request ≡ u.id = sym d.id_is ∙ ap (λ (x : Version). x.id) drew in
        record {
          draw = f.draw;
          drawn = f.drawn;
          version_is = drew;
          request_is = request;
          name_is = name_is;
          node = d.node;
          kind = d.kind;
          is_source = subst (IsWishOf d.kind) f.wish_is d.fits;
          place = d.place;
          began_at = d.began_at ∙ (λ i. Some (began (request i) d.node d.kind (name_is i)));
          in_time = d.in_time;
          moment = d.moment;
        }

    module _ (own : (key : List ℕ) → IsTrue (names a.kind a.name.key key) → a.name.key ≡ key) where
      -- a key that the request names is the object's
      pub own_key : (kind : Kind) (began_name : Name) (key : List ℕ) → (a.kind ≡ kind) × (a.name ≡ began_name) → IsTrue (names kind began_name.key key) → record { bucket = began_name.bucket; key = key } ≡ a.name
      own_key kind began_name key is named =
          let here : a.name.key ≡ key = own key (subst (λ (k : Kind). IsTrue (names k a.name.key key)) (sym is.0) (subst (λ (m : Name). IsTrue (names kind m.key key)) (sym is.1) named)) in
          one_name (record { bucket = began_name.bucket; key = key }) a.name (ap (λ (m : Name). m.bucket) (sym is.1)) (sym here)

      -- the version that a get or head found is fresh
      pub version_end : (v : Version) → HasFound H s.draws s.history q a.name a.name v → IsFreshEnd H s q (answer.Version v)
      version_end v f = record {
        covers = λ clear before after n kind m key w reading cut named ack.
            let is = is_own n kind m (at_cut s.history before after (began q n kind m) cut) in
            let same : record { bucket = m.bucket; key = key } ≡ a.name = own_key kind m key is named in
            let here : s.history ≡ before ++ began q n kind a.name ∷ after = subst (λ (x : Name). s.history ≡ before ++ began q n kind x ∷ after) (sym is.1) cut in
            let low : ¬ Below v w = f.not_below clear before after n kind w here (subst (λ (x : Name). WasAcknowledged before x w) same ack) in
            let key_is : m.key ≡ key = ap (λ (x : Name). x.key) (sym is.1) ∙ ap (λ (x : Name). x.key) (sym same) in
            record {
              versions = λ u shows. (let pair : (m.key, v) ≡ (key, u) = only (m.key, v) (key, u) shows in subst (λ (x : Version). ¬ Below x w) (ap (λ p. p.1) pair) low);
              none = λ no. absurd (no v (0, omega arith, ap (λ k. (k, v)) key_is));
            };
        written = λ clash n kind m key u reading begins named shows.
            let is = is_own n kind m begins in
            let pair : (m.key, v) ≡ (key, u) = only (m.key, v) (key, u) shows in
            drew_here v u (ap (λ p. p.1) pair) a.name (record { bucket = m.bucket; key = key }) (own_key kind m key is named) refl clash f.found;
      }

-- ---- what a read phase gave

-- a value that says something is an object's row
pub says_row : (v : Option AnyRow) (said : Said) → said_of v ≡ said → (said ≡ none → ⊥) → (r : ObjectRow) × (v ≡ Some (rows.Object r)) × (said_by r ≡ said)
says_row None said e some = absurd (some (sym e))
says_row (Some (rows.Object r)) said e some = (r, refl, e)
says_row (Some (rows.Version r)) said e some = absurd (some (sym e))
says_row (Some (rows.Ref r)) said e some = absurd (some (sym e))

module _ {H : Deed → Type 0} where
  module _ (every : EveryWorld H) (s : State) (q : ℕ) (sound : IsSound H s) (value : Option AnyRow) (h : HasRead s.asked s.history s.world.reads q value) where
    given : (row : AnyRow) → value ≡ Some row → HasGiven words (IsGood s.draws) (read h.question (Some row))
    given row e = reached_good every s.draws s.world sound.reached (read h.question (Some row)) (subst (λ v. Contains s.world.reads (read h.question v)) e h.is_there)

    -- the row that a read gave is good
    pub given_good : (row : AnyRow) → value ≡ Some row → IsGood s.draws row
    given_good row e = (given row e).0

    -- what it says of bytes was written
    pub read_written : SaysWritten s.draws (said_of value)
    read_written = value_written s.draws value (λ row e. (given_good row e).0)

    module _ (a : Asked) (flow : Flow) (at : numbered s.asked q ≡ Some a) (flow_is : a.flow ≡ Some flow) (asks : AsksFor flow.stage h.question → AsksRow a.name h.question) where
      -- the question is for this object
      asked_row : AsksRow a.name h.question
      asked_row =
          let w = h.is_asking.waits in
          let some_is : Some w.one ≡ Some a = sym w.is_there ∙ at in
          let one_is : w.one ≡ a = cc in
          let flows : Some w.flow ≡ Some flow = sym w.flow_is ∙ (ap (λ (b : Asked). b.flow) one_is ∙ flow_is) in
          let same : w.flow ≡ flow = cc in
          asks (subst (λ (f : Flow). AsksFor f.stage h.question) same h.is_asking.asks)

      value_known : (row : AnyRow) → value ≡ Some row → IsValue s.draws a.name row
      value_known row e =
          let g = given row e in
          let table : words.table row ≡ 1 = g.1 ∙ asked_row.0 in
          record { is_of = g.0.0; table = table; key = g.2 ∙ asked_row.1; is_proper = g.0.1 table }

      object_found : (r : ObjectRow) → value ≡ Some (rows.Object r) → IsFound s.draws r a.name (said_by r)
      object_found r e = let known = value_known (rows.Object r) e in found s.draws r a.name known.is_of known.key

      value_here : (row : AnyRow) → value ≡ Some row → IsHere (row_key a.name) row
      value_here row e = let known = value_known row e in record { table = known.table; key_is = known.key; is_proper = known.is_proper }

      -- it is an object's row, which covers what was acknowledged before, or a marker that was collected covers that
      covered : IsClear H → (before after : List Record) (n : ℕ) (kind : Kind) (w : Version) → s.history ≡ before ++ began q n kind a.name ∷ after → WasAcknowledged before a.name w →
          IsCovering value w ⊎ IsPassed s.draws s.world.collected a.name value w
      covered clear before after n kind w cut ack =
          let name : Name = a.name in
          let k : HasKept h.question.kept name w = h.is_asking.has before after n kind name cut name w ack in
          let g : GaveClean s.world.collected (read h.question value) = reached_clean every s.world sound.reached clear (read h.question value) h.is_there in
          let P : ℕ → List ℕ → Type 0 = λ t i. IsOver any_join words (option_join any_join (row_at any_join words g.collected t i) value) (row_at any_join words h.question.kept t i) in
          let over : P 1 (row_key name) = subst (P 1) asked_row.1 (subst (λ (t : ℕ). P t h.question.key) asked_row.0 g.kept) in
          value_covers s.draws s.world.collected g.collected g.among g.marked (reached_gone every s.draws s.world sound.reached) name value
          (λ r u there marked same row e.
          let here = value_here row e in
          subst (λ (v : Option AnyRow). GaveNotBelow words object_versions (words.key r) u (read h.question v)) e (g.clean r u there marked) here.table (here.key_is ∙ sym same))
          w k.block k.wish h.question.kept h.is_asking.proper k.is_there value_here over

      -- a version that is said was found, where a write drew it
      has_found : (said : Said) (v : Version) → said_of value ≡ said → IsSaid v said → ((u : Version) → IsSaid u said → v ≡ u) → FoundIn s.draws a.name v → HasFound H s.draws s.history q a.name a.name v
      has_found said v e own one f = record {
        found = f;
        not_below = λ clear before after n kind w cut ack. elim (covered clear before after n kind w cut ack) [
          | inl c ↦
              let says : said_by c.row ≡ said = sym (ap said_of c.value_is) ∙ e in
              subst (λ (u : Version). ¬ Below u w) (sym (one c.covers.version (subst (IsSaid c.covers.version) says c.covers.says))) c.covers.not_below
          | inr p ↦ p.not_below v (subst (IsSaid v) (sym e) own)
        ];
      }

      -- what the read found, in its row
      pub inline_found : (v : Version) (meta : Meta) (body : List ℕ) → said_of value ≡ inline v meta body → HasFound H s.draws s.history q a.name a.name v
      inline_found v meta body e =
          let row = says_row value (inline v meta body) e (λ no. cc) in
          has_found (inline v meta body) v e refl (λ u is. is) (subst (IsFound s.draws row.0 a.name) row.2 (object_found row.0 row.1))

      -- or in blocks
      pub blocks_found : (v : Version) (meta : Meta) (first : List ℕ) → said_of value ≡ in_blocks v meta first → HasFound H s.draws s.history q a.name a.name v
      blocks_found v meta first e =
          let row = says_row value (in_blocks v meta first) e (λ no. cc) in
          has_found (in_blocks v meta first) v e refl (λ u is. is) (subst (IsFound s.draws row.0 a.name) row.2 (object_found row.0 row.1))

      module _ (own : (key : List ℕ) → IsTrue (names a.kind a.name.key key) → a.name.key ≡ key) where
        -- a key that the request names is the object's
        same_name : (before after : List Record) (n : ℕ) (kind : Kind) (m : Name) (key : List ℕ) → s.history ≡ before ++ began q n kind m ∷ after → IsTrue (names kind m.key key) → record { bucket = m.bucket; key = key } ≡ a.name
        same_name before after n kind m key cut named = own_key s q a at sound own kind m key (is_own s q a at sound n kind m (at_cut s.history before after (began q n kind m) cut)) named

        -- what the row covers that was acknowledged of a key that the request names
        covered_own : IsClear H → (before after : List Record) (n : ℕ) (kind : Kind) (m : Name) (key : List ℕ) (w : Version) → s.history ≡ before ++ began q n kind m ∷ after → IsTrue (names kind m.key key) →
            WasAcknowledged before (record { bucket = m.bucket; key = key }) w → IsCovering value w ⊎ IsPassed s.draws s.world.collected a.name value w
        covered_own clear before after n kind m key w cut named ack =
            let is = is_own s q a at sound n kind m (at_cut s.history before after (began q n kind m) cut) in
            covered clear before after n kind w (subst (λ (x : Name). s.history ≡ before ++ began q n kind x ∷ after) (sym is.1) cut) (subst (λ (x : Name). WasAcknowledged before x w) (same_name before after n kind m key cut named) ack)

        -- a collected marker explains that there is no object
        passed_none : (m : Name) (key : List ℕ) (w : Version) → record { bucket = m.bucket; key = key } ≡ a.name → IsPassed s.draws s.world.collected a.name value w → CoversNow s q m answer.None key w
        passed_none m key w same p = record {
          versions = λ u shows. absurd (none_in _ shows);
          none = λ no. inr (subst (λ (x : Name). IsGone s.draws s.world.collected x.bucket x.key w) (sym same) p.is_gone);
        }

        -- where no version is said, nothing was acknowledged, or a collected marker is not below it
        pub none_end : said_of value ≡ none → IsFreshEnd H s q answer.None
        none_end e = record {
          covers = λ clear before after n kind m key w reading cut named ack. elim (covered_own clear before after n kind m key w cut named ack) [
            | inl c ↦ absurd (subst (IsSaid c.covers.version) (sym (ap said_of c.value_is) ∙ e) c.covers.says)
            | inr p ↦ passed_none m key w (same_name before after n kind m key cut named) p
          ];
          written = λ clash n kind m key v reading begins named shows. absurd (none_in _ shows);
        }

        -- a marker explains that there is no object
        pub marked_end : (v : Version) → said_of value ≡ marked v → Contains s.saw (record { request = q; end = Answered value }) → IsFreshEnd H s q answer.None
        marked_end v e seen = record {
          covers = λ clear before after n kind m key w reading cut named ack.
              let same : record { bucket = m.bucket; key = key } ≡ a.name = same_name before after n kind m key cut named in
              elim (covered_own clear before after n kind m key w cut named ack) [
                | inl c ↦
                    let says : said_by c.row ≡ marked v = sym (ap said_of c.value_is) ∙ e in
                    let version_is : v ≡ c.covers.version = subst (IsSaid c.covers.version) says c.covers.says in
                    let object = subst (IsFound s.draws c.row a.name) says (object_found c.row c.value_is) in
                    record {
                      versions = λ u shows. absurd (none_in _ shows);
                      none = λ no. inl (record {
                        end = Answered value;
                        was_seen = seen;
                        row = c.row;
                        gave = c.value_is;
                        bucket_is = object.0 ∙ ap (λ (x : Name). digest_of x.bucket) (sym same);
                        key_is = object.1 ∙ ap (λ (x : Name). x.key) (sym same);
                        version = v;
                        says = says;
                        not_below = subst (λ (u : Version). ¬ Below u w) (sym version_is) c.covers.not_below;
                      });
                    }
                | inr p ↦ passed_none m key w same p
              ];
          written = λ clash n kind m key v reading begins named shows. absurd (none_in _ shows);
        }

-- ---- what a phase gave

module _ {H : Deed → Type 0} where
  -- each version of an object's row that a phase gave was drawn
  pub gave_drawn : (every : EveryWorld H) (s : State) (q : ℕ) → IsSound H s → (end : PhaseEnd AnyRow) → IsEnd H s.asked s.draws s.history (sights s) s.world.kept s.world.reads q end → (r : ObjectRow) → Gave end (rows.Object r) → IsOf s.draws (rows.Object r)
  gave_drawn every s q sound (Answered value) h r gave = (given_good every s q sound value h (rows.Object r) gave).0
  gave_drawn every s q sound (Window others end) h r gave =
      (All-contains (IsGood s.draws) others (rows.Object r) (reached_good every s.draws s.world sound.reached (scanned h.scan others end) h.is_there) gave).0
  gave_drawn every s q sound Kept h r gave = absurd gave
  gave_drawn every s q sound (Block bytes) h r gave = absurd gave
