-- How phases end at a node: each end is of a request that was given its number, and what a window gives is made of two answers, each of rows with the property.
use Rattle.std.specs.Prelude.{◌≡◌, ◌≤◌, ℕ, Bool, true, false, not, ◌==◌, nat_lt, cond, List, [], Option, Some, None, refl, ⊤}
use Rattle.std.specs.List.{AllByRecursion}
use Rattle.std.proofs.Common.{sym, subst}
use Rattle.crdt_core.proofs.Each.{all_weaker}
use Rattle.layout_roles.specs.declared.layout.Layout.{Layout}
use Rattle.view_model.specs.View.{newest, oldest}
use Rattle.table_schema.specs.Words.{Words}
use Rattle.quorum_model.specs.declared.range.RangeAnswer.{RangeAnswer}
use Rattle.quorum_model.specs.Answers.{first_two_at}
use Rattle.quorum_model.specs.Quorum.{StoreSlot, is_kept, with_confirmation}
use Rattle.quorum_model.specs.Window.{window}
use Rattle.blake2_hash.specs.declared.digest.Hash32.{Hash32}
use Rattle.walk_model.specs.Walking.{is_open}
use Rattle.wire_messages.specs.declared.message.Message.{Message}
use Rattle.wire_messages.specs.declared.message.Message.TheVariants.{Get, Row, Range, Rows, Store, Stored, Behind, NotHere, BlockGet, Block, NoBlock, Walk as AsksValue, Same as HasSame, Differ, Tomb, Tombed, Forget}
use Rattle.wire_messages.specs.declared.message.Tag.{Tag}
use Rattle.wire_messages.specs.declared.message.Tag.TheVariants.{Call as ForCall, Round as ForRound, Item as ForItem}
use Rattle.wire_messages.specs.declared.phase.PhaseEnd.{PhaseEnd}
use Rattle.wire_messages.specs.declared.phase.PhaseEnd.TheVariants.{Window as GaveWindow}
use Rattle.cluster_machine.specs.Layouts.{layouts, is_given, is_stored}
use Rattle.cluster_machine.specs.Node.{Question, Scan, Present, resting, asking, scanning, storing, fetching, Call, Walk, Round, Mending, Packet, says, shows, Ended, Did, quiet}
use Rattle.cluster_machine.specs.Rows.{block_at}
use Rattle.cluster_machine.specs.Phases.{call_at, asked, looked, stored, value_after, row_came, window_at, rows_came, stored_came, block_came, at_call}
use Rattle.cluster_machine.specs.Collects.{forgets, tomb_came}
use Rattle.cluster_machine.specs.Rounds.{walk_at, round_walks, mending_walks, at_walk, mending_came, with_mending, with_lasting, late_came, answer_came}
use Rattle.cluster_machine.specs.Receives.{gives_block, walks_on, round_came, confirms, hears, receives}
use Rattle.machine_origins.proofs.Collecting.{tombed_beside, forget_beside}
use Rattle.machine_origins.proofs.Lists.{all_found}
use Rattle.machine_origins.proofs.Sound.{Asks, IsPresent, IsAnswer, AnswersTo, IsMessage, IsPacket, IsCall, IsNode}
use Rattle.machine_origins.proofs.Good.{two_have}
use Rattle.machine_limits.proofs.Nodes.{Machine}

module _ {R : Type 0} (join : R → R → R) (words : Words R) (P : R → Type 0) (Q : List ℕ → List ℕ → Type 0) where
  -- what a node answers to some question about a range
  pub record IsAnswered (a : RangeAnswer R) : Type 0 where
    pub position : List ℕ
    pub prefix : List ℕ
    pub after : List ℕ
    pub is_so : IsAnswer join words P Q position prefix after a

  -- these rows with this end are the window of two such answers
  pub record IsWindow (rs : List R) (end : Option (List ℕ)) : Type 0 where
    pub two : RangeAnswer R × RangeAnswer R
    pub first : IsAnswered two.0
    pub second : IsAnswered two.1
    pub rows_are : rs ≡ (window join words two).rows
    pub end_is : end ≡ (window join words two).end

  abbrev pub IsOfAnswers : PhaseEnd R → Type 0
  IsOfAnswers (GaveWindow rs end) = IsWindow rs end
  IsOfAnswers _ = ⊤

  abbrev pub IsShown : ℕ → Ended R → Type 0
  IsShown count e = (e.request ≤ count) × IsOfAnswers e.how

module _ {R : Type 0} (join : R → R → R) (words : Words R) (P : R → Type 0) (Q : List ℕ → List ℕ → Type 0) (g : Asks) (count n : ℕ) (x : Machine R) (i : IsNode join words P Q g count n x) where
  answered : (position prefix after : List ℕ) (a : RangeAnswer R) → IsAnswer join words P Q position prefix after a → IsAnswered join words P Q a
  answered position prefix after a is = record { position = position; prefix = prefix; after = after; is_so = is }

  abbrev Shown : Did R Layout → Type 0
  Shown d = AllByRecursion (IsShown join words P Q count) d.ends

  either : (b : Bool) (d e : Did R Layout) → Shown d → Shown e → Shown (cond b d e)
  either true d e h j = h
  either false d e h j = j

  in_call : (request phase : ℕ) (act : Call R → Did R Layout) (o : Option (Call R)) → call_at x.calls request ≡ o → ((c : Call R) → IsCall join words P Q g count n c → Shown (act c)) → Shown (at_call x phase act o)
  in_call request phase act None e h = tt
  in_call request phase act (Some c) e h = either (c.phases == phase) (act c) (quiet x) (h c (all_found (IsCall join words P Q g count n) (λ (c : Call R). c.request == request) x.calls c i.calls e).0) tt

  asked_shown : (c : Call R) → c.request ≤ count → (q : Question R) (as' : List (ℕ × Option R)) (a : ℕ × Option R) (o : Option (Option R)) → Shown (asked x c q as' a o)
  asked_shown c low q as' a None = tt
  asked_shown c low q as' a (Some value) = ((low, tt), tt)

  row_shown : (c : Call R) → c.request ≤ count → (from : ℕ) (row : Option R) (p : Present R) → Shown (row_came join x c from row p)
  row_shown c low from row (asking q as') = asked_shown c low q as' (from, row) (value_after join q as' (from, row))
  row_shown c low from row resting = tt
  row_shown c low from row (scanning q as') = tt
  row_shown c low from row (storing rs slots) = tt
  row_shown c low from row (fetching hash) = tt

  looked_shown : (c : Call R) → c.request ≤ count → (q : Scan R) (as' : List (ℕ × RangeAnswer R)) (a : ℕ × RangeAnswer R) (o : Option (RangeAnswer R × RangeAnswer R)) → ((two : RangeAnswer R × RangeAnswer R) → o ≡ Some two → IsAnswered join words P Q two.0 × IsAnswered join words P Q two.1) → Shown (looked x c q as' a (window_at join words o))
  looked_shown c low q as' a None h = tt
  looked_shown c low q as' a (Some two) h = let both = h two refl in ((low, record { two = two; first = both.0; second = both.1; rows_are = refl; end_is = refl }), tt)

  rows_shown : (c : Call R) → c.request ≤ count → (from : ℕ) (rs : List R) (more : Bool) (p : Present R) (request phase : ℕ) → IsPresent join words P Q (g n c.request c.phases) p → AnswersTo join words P Q (g n request phase) (record { rows = rs; more = more }) → Shown (rows_came join words x c from rs more p)
  rows_shown c low from rs more (scanning q as') request phase present m =
      let a : RangeAnswer R = record { rows = rs; more = more } in
      let known = all_weaker (λ (b : ℕ × RangeAnswer R). IsAnswer join words P Q q.position q.prefix q.after b.1) (λ (b : ℕ × RangeAnswer R). IsAnswered join words P Q b.1) (λ b h. answered q.position q.prefix q.after b.1 h) as' present.2 in
      looked_shown c low q as' (from, a) (first_two_at q.set as' (from, a)) (λ two e. two_have (IsAnswered join words P Q) q.set as' (from, a) two known (answered m.position m.prefix m.after a m.answer) e)
  rows_shown c low from rs more resting request phase present m = tt
  rows_shown c low from rs more (asking q as') request phase present m = tt
  rows_shown c low from rs more (storing rs' slots) request phase present m = tt
  rows_shown c low from rs more (fetching hash) request phase present m = tt

  stored_shown : (c : Call R) → c.request ≤ count → (rs : List R) (slots : List StoreSlot) (b : Bool) → Shown (stored x c rs slots b)
  stored_shown c low rs slots false = tt
  stored_shown c low rs slots true = ((low, tt), tt)

  confirmed_shown : (c : Call R) → c.request ≤ count → (slot from : ℕ) (p : Present R) → Shown (stored_came layouts x c slot from p)
  confirmed_shown c low slot from (storing rs slots) = let now = with_confirmation slots slot from in stored_shown c low rs now (is_kept now (oldest layouts.reading x.view))
  confirmed_shown c low slot from resting = tt
  confirmed_shown c low slot from (asking q as') = tt
  confirmed_shown c low slot from (scanning q as') = tt
  confirmed_shown c low slot from (fetching hash) = tt

  block_shown : (c : Call R) → c.request ≤ count → (bytes : List ℕ) (p : Present R) → Shown (block_came x c bytes p)
  block_shown c low bytes (fetching hash) = ((low, tt), tt)
  block_shown c low bytes resting = tt
  block_shown c low bytes (asking q as') = tt
  block_shown c low bytes (scanning q as') = tt
  block_shown c low bytes (storing rs slots) = tt

  given_shown : (from request phase : ℕ) (o : Option (List ℕ)) → Shown (gives_block join words layouts x from request phase o)
  given_shown from request phase None = tt
  given_shown from request phase (Some bytes) = tt

  round_shown : (from number p : ℕ) (o : Option Round) → Shown (round_came join words layouts n x from number p o)
  round_shown from number p None = tt
  round_shown from number p (Some round) = either (round.number == number) _ (quiet x) tt tt

  at_walk_shown : (table : ℕ) (prefix : List ℕ) (act : Walk → Did R Layout) (o : Option Walk) → ((w : Walk) → Shown (act w)) → Shown (at_walk join words layouts x table prefix act o)
  at_walk_shown table prefix act None h = tt
  at_walk_shown table prefix act (Some w) h = either (is_open table prefix w.state.prefixes) (act w) (quiet x) (h w) tt

  mending_shown : (now : Mending → Machine R) (other : Did R Layout) → Shown other → (from number p table : ℕ) (prefix : List ℕ) (answer : Option (List (ℕ × Hash32))) (o : Option Mending) → Shown (mending_came join words layouts x now other from number p table prefix answer o)
  mending_shown now other h from number p table prefix answer None = h
  mending_shown now other h from number p table prefix answer (Some mending) = either (mending.number == number) _ other (at_walk_shown table prefix (mending_walks join words layouts x now table prefix answer mending) (walk_at p from mending.walks) (λ w. tt)) h

  late_shown : (from number p table : ℕ) (prefix : List ℕ) (answer : Option (List (ℕ × Hash32))) → Shown (late_came join words layouts x from number p table prefix answer)
  late_shown from number p table prefix answer =
      mending_shown (with_lasting join words layouts x) _ (mending_shown (with_mending join words layouts x) (quiet x) tt from number p table prefix answer x.mending) from number p table prefix answer x.lasting

  answer_shown : (from number p table : ℕ) (prefix : List ℕ) (answer : Option (List (ℕ × Hash32))) (o : Option Round) → Shown (answer_came join words layouts n x from number p table prefix answer o)
  answer_shown from number p table prefix answer None = late_shown from number p table prefix answer
  answer_shown from number p table prefix answer (Some round) =
      either (round.number == number) _ _ (at_walk_shown table prefix (round_walks join words layouts n x table prefix answer round) (walk_at p from round.walks) (λ w. tt)) (late_shown from number p table prefix answer)

  walks_shown : (from : ℕ) (tag : Tag) (table : ℕ) (prefix : List ℕ) (answer : Option (List (ℕ × Hash32))) → Shown (walks_on join words layouts n x from tag table prefix answer)
  walks_shown from (ForCall request phase slot) table prefix answer = tt
  walks_shown from (ForRound number p) table prefix answer = answer_shown from number p table prefix answer x.round
  walks_shown from (ForItem number) table prefix answer = tt

  confirms_shown : (from : ℕ) (tag : Tag) → Shown (confirms join words layouts n x from tag)
  confirms_shown from (ForCall request phase slot) = in_call request phase (λ c. stored_came layouts x c slot from c.present) (call_at x.calls request) refl (λ c is. confirmed_shown c is.begun slot from c.present)
  confirms_shown from (ForRound number p) = round_shown from number p x.round
  confirms_shown from (ForItem number) = tt

  none_shown : (d : Did R Layout) → d.ends ≡ [] → Shown d
  none_shown d e = subst (AllByRecursion (IsShown join words P Q count)) (sym e) tt

  hears_shown : (now from : ℕ) (m : Message R) → IsMessage join words P Q g from n m → Shown (hears join words layouts n now x from m)
  hears_shown now from (Get request phase at table key) m = either (is_stored layouts x.view at) _ _ tt tt
  hears_shown now from (Row request phase row) m = in_call request phase (λ c. row_came join x c from row c.present) (call_at x.calls request) refl (λ c is. row_shown c is.begun from row c.present)
  hears_shown now from (Range request phase at bucket prefix after) m = either (is_stored layouts x.view at) _ _ tt tt
  hears_shown now from (Rows request phase rs more) m = in_call request phase (λ c. rows_came join words x c from rs more c.present) (call_at x.calls request) refl (λ c is. rows_shown c is.begun from rs more c.present request phase is.present m)
  hears_shown now from (Store tag named p bs) m = either (nat_lt (newest layouts.reading x.view) named) _ _ tt (either (not (is_given layouts x.view n p)) _ _ tt tt)
  hears_shown now from (Stored tag) m = confirms_shown from tag
  hears_shown now from (Behind tag new) m = tt
  hears_shown now from (NotHere tag) m = tt
  hears_shown now from (BlockGet request phase at hash) m = either (is_stored layouts x.view at) _ _ (given_shown from request phase (block_at x.blocks hash.0)) tt
  hears_shown now from (Block request phase bytes) m = in_call request phase (λ c. block_came x c bytes c.present) (call_at x.calls request) refl (λ c is. block_shown c is.begun bytes c.present)
  hears_shown now from (NoBlock request phase) m = tt
  hears_shown now from (AsksValue tag named p table prefix hash) m = either (nat_lt (newest layouts.reading x.view) named) _ _ tt (either (not (is_given layouts x.view n p)) _ _ tt tt)
  hears_shown now from (HasSame tag table prefix) m = walks_shown from tag table prefix None
  hears_shown now from (Differ tag table prefix pairs) m = walks_shown from tag table prefix (Some pairs)
  hears_shown now from (Tomb number round row) m = tt
  hears_shown now from (Tombed number round named) m = none_shown (tomb_came join words layouts n now x from number round named) (tombed_beside join words x layouts n now from number round named).ends
  hears_shown now from (Forget table key hash) m = none_shown (forgets join words x table key hash.0) (forget_beside join words x table key hash.0).ends

  -- what a message ends
  pub receives_shown : (now from : ℕ) (p : Packet R Layout) → IsPacket join words P Q g from n p → Shown (receives join words layouts n now x from p)
  receives_shown now from (says m) is = hears_shown now from m is
  receives_shown now from (shows view) is = tt
