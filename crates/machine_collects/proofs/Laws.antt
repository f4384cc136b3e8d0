-- What a prompt run owes once a marker was collected.
use Rattle.std.specs.Prelude.{◌≡◌, ◌⊎◌, ◌≤◌, ◌+◌, ℕ, false, ◌&&◌, List, [], ◌∷◌, ◌++◌, Option, Some, None, refl}
use Rattle.std.proofs.Common.{ap, sym, subst, ◌∙◌, inl, arith}
use Rattle.crdt_core.specs.Members.{Has}
use Rattle.control_model.specs.World as control
use Rattle.layout_roles.specs.declared.role.Role.{Role}
use Rattle.table_schema.specs.Words.{Words, partition_of}
use Rattle.table_schema.specs.Laws.{Laws}
use Rattle.table_model.specs.Rows.{row_at}
use Rattle.wire_messages.specs.declared.message.Message.{Message}
use Rattle.wire_messages.specs.declared.message.Message.TheVariants.{Get, Row, Range, Rows, Store, Stored, Behind, NotHere, BlockGet, Block, NoBlock, Walk as AsksValue, Same as HasSame, Differ, Tomb, Tombed, Forget}
use Rattle.collection_model.specs.World.{first}
use Rattle.collection_model.specs.Action.{run}
use Rattle.collection_model.specs.Past.{IsPast}
use Rattle.collection_laws.proofs.Sound.{IsSound, IsGoodDropped}
use Rattle.collection_laws.proofs.Growth.{same_some}
use Rattle.collection_laws.proofs.Steps.{run_sound, first_sound, sent_clean}
use Rattle.cluster_machine.specs.Layouts.{Layouts}
use Rattle.cluster_machine.specs.Node.{Packet, says, shows}
use Rattle.cluster_machine.specs.World.{Sent, World, empty}
use Rattle.cluster_machine.specs.Run.{Move, IsLayout, does, next, run as run_moves, IsRun}
use Rattle.machine_collects.specs.Versions.{Version, Versions, VersionLaws, hour, marks}
use Rattle.machine_collects.specs.Prompt.{ArePrompt, IsPrompt, moments_after}
use Rattle.machine_collects.specs.Tie.{State, IsOf, IsCollected, Means, MeansPacket, MeansMessage}
use Rattle.machine_collects.specs.Carried.{Carries}
use Rattle.machine_collects.proofs.OfKey.{test_of, row_of}
use Rattle.machine_collects.proofs.Marking.{site_laws, marker_of, marker_parts}
use Rattle.machine_collects.proofs.Leads.{Place, all_has}
use Rattle.machine_collects.proofs.Tied.{Follows, follows_empty, follows_run}

module _ {R L A C : Type 0} (join : R → R → R) (s : Words R) (laws : Laws join s) (v : Versions R) (versions : VersionLaws join s v) (k : Layouts L) (trio : L) (trio_roles : List Role → List Role) (partitions : ℕ) (some : 1 ≤ partitions) (is_trio : IsLayout k partitions trio) (is_first : k.reading.version trio ≡ 1) where
  -- the two parts of a prompt run, with the moments of the requests between them
  record Parts (before later : List (Move R L A C)) (moments : List ℕ) (m : World R L) : Type 0 where
    pub first_run : IsRun join s k trio trio_roles partitions m before
    pub first_prompt : ArePrompt join s v k trio trio_roles moments m before
    pub between : List ℕ
    pub second_run : IsRun join s k trio trio_roles partitions (run_moves join s k trio trio_roles m before) later
    pub second_prompt : ArePrompt join s v k trio trio_roles between (run_moves join s k trio trio_roles m before) later

  happens_parts : (before later : List (Move R L A C)) (moments : List ℕ) (m : World R L) → IsRun join s k trio trio_roles partitions m (before ++ later) → ArePrompt join s v k trio trio_roles moments m (before ++ later) → Parts before later moments m
  happens_parts [] later moments m is prompt = record { first_run = tt; first_prompt = tt; between = moments; second_run = is; second_prompt = prompt }
  happens_parts (move ∷ before) later moments m is prompt =
      let rest = happens_parts before later (moments_after moments m (does join s k trio trio_roles m move)) (next join s k trio trio_roles m move) is.3 prompt.1 in
      record {
        first_run = (is.0, is.1, is.2, rest.first_run);
        first_prompt = (prompt.0, rest.first_prompt);
        between = rest.between;
        second_run = rest.second_run;
        second_prompt = rest.second_prompt;
      }

  run_parts : (before later : List (Move R L A C)) (m : World R L) → run_moves join s k trio trio_roles m (before ++ later) ≡ run_moves join s k trio trio_roles (run_moves join s k trio trio_roles m before) later
  run_parts [] later m = refl
  run_parts (move ∷ before) later m = run_parts before later (next join s k trio trio_roles m move)

module _ {R L : Type 0} (join : R → R → R) (s : Words R) (laws : Laws join s) (v : Versions R) (versions : VersionLaws join s v) (k : Layouts L) (partitions : ℕ) (some : 1 ≤ partitions) (key : List ℕ) where
  abbrev pub partition : ℕ
  partition = v.partition key

  abbrev pub State_of : (m : World R L) → Follows join s v k partitions some key partition m → State R L
  State_of m f = run (Place join s v k partitions some key partition) (first control.empty) f.acts

  pub one : (q : R) → IsOf join s v k partitions key partition q → partition_of s q ≡ partition
  one q of = versions.partition_is q of.proper of.table ∙ ap v.partition of.key_is

  pub sound_of : (m : World R L) (f : Follows join s v k partitions some key partition m) → IsSound (Place join s v k partitions some key partition) (State_of m f)
  sound_of m f = (run_sound (Place join s v k partitions some key partition) (site_laws join s laws v versions k partitions key partition some) f.acts (first control.empty) (first_sound (Place join s v k partitions some key partition) (site_laws join s laws v versions k partitions key partition some)) f.happens).sound

  -- a marker that was collected is over
  pub over : (m : World R L) (f : Follows join s v k partitions some key partition m) (r : R) → Has m.collected r → s.key r ≡ key → IsGoodDropped (Place join s v k partitions some key partition) (State_of m f) r
  over m f r there same = (sound_of m f).dropped r ((all_has (IsCollected join s v k partitions key partition (State_of m f)) m.collected r f.tied.collected there).dropped same)

  -- no row of the key that a live message carries is below what is over
  carried : (m : World R L) (f : Follows join s v k partitions some key partition m) (u : Version) → IsPast (Place join s v k partitions some key partition) (State_of m f) u → (moment : ℕ) (q : R) → m.time ≤ moment + hour → IsOf join s v k partitions key partition q →
      Has (State_of m f).shown (record { row = q; moment = moment }) ⊎ Has (State_of m f).stored (record { row = q; moment = moment }) → v.below q u ≡ false
  carried m f u past moment q live of sent =
      let same : (State_of m f).time ≡ m.time = f.tied.time in
      let clean : (marks join s v key).below q u ≡ false = sent_clean (Place join s v k partitions some key partition) (site_laws join s laws v versions k partitions key partition some) (State_of m f) (sound_of m f) (record { row = q; moment = moment }) sent (omega arith) u past in
      sym (ap (λ b. b && v.below q u) (test_of join s v k partitions key partition q of)) ∙ clean

  pub message_clean : (m : World R L) (f : Follows join s v k partitions some key partition m) (u : Version) → IsPast (Place join s v k partitions some key partition) (State_of m f) u → (x : Sent R L) (q : R) → Has m.messages x → m.time ≤ x.moment + hour → Carries s x.packet q → IsOf join s v k partitions key partition q → v.below q u ≡ false
  message_clean m f u past x q there live carries of = by_packet x.packet (all_has (Means join s v k partitions key partition (State_of m f) f.issued m.collected) m.messages x f.tied.messages there) carries
    where
      by_row : (o : Option R) → Rattle.machine_collects.specs.Tie.MeansRow join s v k partitions key partition (State_of m f) x.moment o → o ≡ Some q → v.below q u ≡ false
      by_row None means e = cc
      by_row (Some r) means e =
          let same : r ≡ q = same_some (Some r) r q refl e in
          let P : R → Type 0 = λ z. IsOf join s v k partitions key partition z → Has (State_of m f).shown (record { row = z; moment = x.moment }) in
          carried m f u past x.moment q live of (inl (subst P same means of))

      by_message : (p : Message R) → MeansMessage join s v k partitions key partition (State_of m f) f.issued m.collected x.from x.to x.moment p → Carries {L = L} s (says p) q → v.below q u ≡ false
      by_message (Row request phase row) means e = by_row row means e
      by_message (Rows request phase rows more) means e = carried m f u past x.moment q live of (inl (all_has _ rows q means e of))
      by_message (Store tag named p rows) means e = carried m f u past x.moment q live of ((all_has (Rattle.machine_collects.specs.Tie.IsStored join s v k partitions key partition (State_of m f) x.moment p) (Rattle.machine_collects.specs.Tie.rows_read s rows) q means e).1 of)
      by_message (Tomb number round row) means e = carried m f u past x.moment q live of (inl (means.shown q e of))
      by_message (Get request phase at table its) means e = absurd e
      by_message (Range request phase at bucket prefix after) means e = absurd e
      by_message (Stored tag) means e = absurd e
      by_message (Behind tag z) means e = absurd e
      by_message (NotHere tag) means e = absurd e
      by_message (BlockGet request phase at hash) means e = absurd e
      by_message (Block request phase bytes) means e = absurd e
      by_message (NoBlock request phase) means e = absurd e
      by_message (AsksValue tag named p table prefix hash) means e = absurd e
      by_message (HasSame tag table prefix) means e = absurd e
      by_message (Differ tag table prefix pairs) means e = absurd e
      by_message (Tombed number round named) means e = absurd e
      by_message (Forget table its hash) means e = absurd e

      by_packet : (p : Packet R L) → MeansPacket join s v k partitions key partition (State_of m f) f.issued m.collected x.from x.to x.moment p → Carries s p q → v.below q u ≡ false
      by_packet (says p) means e = by_message p means e
      by_packet (shows view) means e = absurd e

  pub node_clean : (m : World R L) (f : Follows join s v k partitions some key partition m) (u : Version) → IsPast (Place join s v k partitions some key partition) (State_of m f) u → (n : ℕ) (x : R) → row_at join s (m.nodes n).accepted 1 key ≡ Some x → v.below x u ≡ false
  node_clean m f u past n x has =
      let of = row_of join s v k partitions key partition laws (m.nodes n).accepted (f.tied.nodes n).proper x has in
      sym (ap (λ b. b && v.below x u) (test_of join s v k partitions key partition x of)) ∙ past.nodes n x ((f.tied.nodes n).row ∙ has)

module _ {R L : Type 0} (join : R → R → R) (s : Words R) (laws : Laws join s) (v : Versions R) (versions : VersionLaws join s v) (k : Layouts L) (partitions : ℕ) (some : 1 ≤ partitions) where
  -- at the end of a run of which a front collected a marker
  pub record Ends (key : List ℕ) (u : Version) (m : World R L) : Type 0 where
    pub follows : Follows join s v k partitions some key (v.partition key) m
    pub past : IsPast (Place join s v k partitions some key (v.partition key)) (State_of join s laws v versions k partitions some key m follows) u

module _ {R L A C : Type 0} (join : R → R → R) (s : Words R) (laws : Laws join s) (v : Versions R) (versions : VersionLaws join s v) (k : Layouts L) (trio : L) (trio_roles : List Role → List Role) (partitions : ℕ) (some : 1 ≤ partitions) (is_trio : IsLayout k partitions trio) (is_first : k.reading.version trio ≡ 1) where
  pub ends_at : (before later : List (Move R L A C)) → IsRun join s k trio trio_roles partitions empty (before ++ later) → IsPrompt join s v k trio trio_roles (before ++ later) → (r : R) (u : Version) → Has (run_moves join s k trio trio_roles empty before).collected r → s.marker r ≡ Some u → Ends join s laws v versions k partitions some (s.key r) u (run_moves join s k trio trio_roles empty (before ++ later))
  ends_at before later is prompt r u there marked =
      let key = s.key r in
      let p = v.partition key in
      let both = happens_parts join s laws v versions k trio trio_roles partitions some is_trio is_first before later [] empty is prompt in
      let first_part = follows_run join s laws v versions k trio trio_roles partitions some is_trio is_first key p (one join s laws v versions k partitions some key) before [] empty (follows_empty join s v k partitions some key p) both.first_prompt both.first_run in
      let m = run_moves join s k trio trio_roles empty before in
      let f = first_part.follows in
      let second_part = follows_run join s laws v versions k trio trio_roles partitions some is_trio is_first key p (one join s laws v versions k partitions some key) later both.between m f both.second_prompt both.second_run in
      let dropped = over join s laws v versions k partitions some key m f r there refl in
      let c = all_has (IsCollected join s v k partitions key p (State_of join s laws v versions k partitions some key m f)) m.collected r f.tied.collected there in
      let of : IsOf join s v k partitions key p r = record { proper = c.proper; table = c.table; key_is = refl } in
      let same : dropped.version ≡ u = same_some ((marks join s v key).marker r) dropped.version u dropped.marked (marker_of join s laws v versions k partitions key p r u (test_of join s v k partitions key p r of) marked) in
      let P : World R L → Type 0 = λ z. Ends join s laws v versions k partitions some key u z in
      let Q : Version → Type 0 = λ z. IsPast (Place join s v k partitions some key p) (State_of join s laws v versions k partitions some key m f) z in
      subst P (sym (run_parts join s laws v versions k trio trio_roles partitions some is_trio is_first before later empty)) (record { follows = second_part.follows; past = second_part.past u (subst Q same dropped.past) })

  pub tombstones : (moves : List (Move R L A C)) → IsRun join s k trio trio_roles partitions empty moves → IsPrompt join s v k trio trio_roles moves → (r : R) → Has (run_moves join s k trio trio_roles empty moves).collected r → (u : Version) × (s.marker r ≡ Some u)
  tombstones moves is prompt r there =
      let key = s.key r in
      let p = v.partition key in
      let f = (follows_run join s laws v versions k trio trio_roles partitions some is_trio is_first key p (one join s laws v versions k partitions some key) moves [] empty (follows_empty join s v k partitions some key p) prompt is).follows in
      let dropped = over join s laws v versions k partitions some key (run_moves join s k trio trio_roles empty moves) f r there refl in
      (dropped.version, (marker_parts join s laws v versions k partitions key p r dropped.version dropped.marked).1)
