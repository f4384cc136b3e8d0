-- How a phase begins: what was sent, and what the call waits for.
use Rattle.std.proofs.Common.{◌≡◌, ℕ, Option, List, [], ◌++◌, map, refl, sym, ap, ◌∙◌, subst}
use Rattle.std.specs.Prelude.{leb, IsTrue}
use Rattle.layout_roles.specs.declared.layout.Layout.{Layout}
use Rattle.layout_history.specs.declared.view.View.{View}
use Rattle.view_model.specs.Layouts.{reading}
use Rattle.layout_history.specs.Views.{known}
use Rattle.view_model.specs.View.{View as Known, newest, read_version}
use Rattle.blake2_hash.specs.declared.digest.Hash32.{Hash32}
use Rattle.table_schema.specs.Words.{Words, partition_at}
use Rattle.read_call.specs.declared.read.ReadCall.{ReadCall}
use Rattle.read_call.specs.declared.range.RangeCall.{RangeCall}
use Rattle.read_call.specs.Stands.{ReadStands, RangeStands}
use Rattle.write_call.specs.declared.call.WriteCall.{WriteCall}
use Rattle.write_call.specs.Stands.{Stands}
use Rattle.wire_messages.specs.declared.message.Message.{Message}
use Rattle.wire_messages.specs.declared.message.Message.TheVariants.{Get, Range as Scan, BlockGet}
use Rattle.wire_messages.specs.declared.phase.Phase.{Phase}
use Rattle.wire_messages.specs.declared.phase.Phase.TheVariants.{Read, Range, Store, Block}
use Rattle.cluster_machine.specs.Layouts.{set_at, layouts}
use Rattle.cluster_machine.specs.Node.{asking, scanning, storing, fetching}
use Rattle.cluster_machine.specs.Phases.{to_each, calls_now, stores, slots_of}
use Rattle.node_parts.specs.declared.begin.Beginning.{Beginning}
use Rattle.node_parts.specs.declared.call.Present.TheVariants.{Resting, Asking, Scanning, Storing, Fetching}
use Rattle.node_parts.specs.declared.packet.Envelope.{Envelope}
use Rattle.node_parts.specs.Posts.{posted, Posts}
use Rattle.node_parts.specs.Begins.{StoresAll, Begins}

-- the version that is read
abbrev pub at : Known Layout → ℕ
at v = read_version reading v

module _ {R : Type 0} (b : Beginning) (view : View) (old new : List (Envelope R)) where
  -- a question went to the set of a position in the version that is read
  abbrev pub Asks : List ℕ → List ℕ → Message R → Type 0
  Asks position nodes message = (set_at layouts (known view) (at (known view)) (partition_at position) ≡ nodes) × Posts b.node old new (to_each nodes message)

  pub asks : (position nodes : List ℕ) (message sent : Message R) → sent ≡ message → nodes ≡ set_at layouts (known view) (at (known view)) (partition_at position) → Posts b.node old new (to_each nodes sent) → Asks position nodes message
  asks position nodes message sent same nodes_are posts = (sym nodes_are, subst (λ m. Posts b.node old new (to_each nodes m)) same posts)

module _ {S R : Type 0} (s : Words R) (b : Beginning) (view : View) (old new : List (Envelope R)) where
  -- the set that is asked is stored
  pub not_resting : (phase : Phase R) → (IsTrue (leb 1 (newest reading (known view))) → ⊥) → Begins s {S = S} b view phase old new Resting
  not_resting phase none kept x c same some request phases = absurd (none (subst (λ v. IsTrue (leb 1 (newest reading v))) (sym same) some))

  pub read_begins : (table : ℕ) (position : Hash32) (key nodes : List ℕ) (call : ReadCall R) → ReadStands call nodes [] → Asks b view old new position.0 nodes (Get b.request b.phase (at (known view)) table key) →
      Begins s {S = S} b view (Read table position key) old new (Asking call)
  read_begins table position key nodes call stands asked kept x c same some request phase = record {
    doing = asking (record { table = table; position = position.0; key = key; set = set_at layouts x.view (at x.view) (partition_at position.0); kept = kept }) [];
    is = subst (λ v. ReadStands call (set_at layouts v (at v) (partition_at position.0)) []) same (subst (λ ns. ReadStands call ns []) (sym asked.0) stands);
    node = λ i. calls_now x (record c { phases = phase i; present = asking (record { table = table; position = position.0; key = key; set = set_at layouts x.view (at x.view) (partition_at position.0); kept = kept }) [] });
    posts = asked.1 ∙ (λ i. map posted old ++ map (λ m. (b.node, m)) (to_each ((sym asked.0 ∙ ap (λ v. set_at layouts v (at v) (partition_at position.0)) same) i) (Get (sym request i) (sym phase i) (at (same i)) table key)));
    ends = refl;
    spelled = refl;
  }

  pub range_begins : (position : Hash32) (prefix after nodes : List ℕ) (call : RangeCall S R) → RangeStands call nodes [] → Asks b view old new position.0 nodes (Scan b.request b.phase (at (known view)) position prefix after) →
      Begins s {S = S} b view (Range position prefix after) old new (Scanning call)
  range_begins position prefix after nodes call stands asked kept x c same some request phase = record {
    doing = scanning (record { position = position.0; prefix = prefix; after = after; set = set_at layouts x.view (at x.view) (partition_at position.0); kept = kept }) [];
    is = subst (λ v. RangeStands call (set_at layouts v (at v) (partition_at position.0)) []) same (subst (λ ns. RangeStands call ns []) (sym asked.0) stands);
    node = λ i. calls_now x (record c { phases = phase i; present = scanning (record { position = position.0; prefix = prefix; after = after; set = set_at layouts x.view (at x.view) (partition_at position.0); kept = kept }) [] });
    posts = asked.1 ∙ (λ i. map posted old ++ map (λ m. (b.node, m)) (to_each ((sym asked.0 ∙ ap (λ v. set_at layouts v (at v) (partition_at position.0)) same) i) (Scan (sym request i) (sym phase i) (at (same i)) position prefix after)));
    ends = refl;
    spelled = refl;
  }

  pub block_begins : (hash : Hash32) (nodes : List ℕ) → Asks b view old new hash.0 nodes (BlockGet b.request b.phase (at (known view)) hash) → Begins s {S = S} b view (Block hash) old new Fetching
  block_begins hash nodes asked kept x c same some request phase = record {
    doing = fetching hash.0;
    is = tt;
    node = λ i. calls_now x (record c { phases = phase i; present = fetching hash.0 });
    posts = asked.1 ∙ (λ i. map posted old ++ map (λ m. (b.node, m)) (to_each ((sym asked.0 ∙ ap (λ v. set_at layouts v (at v) (partition_at hash.0)) same) i) (BlockGet (sym request i) (sym phase i) (at (same i)) hash)));
    ends = refl;
    spelled = refl;
  }

  pub store_begins : (rows : List (R × Option (List ℕ))) (call : WriteCall) → StoresAll s b view rows old new call → Begins s {S = S} b view (Store rows) old new (Storing call)
  store_begins rows call sent kept x c same some request phase = record {
    doing = storing (map (λ r. r.0) rows) (slots_of s layouts x.view rows);
    is = subst (λ v. Stands call (slots_of s layouts v rows)) same sent.slots;
    node = λ i. calls_now x (record c { phases = phase i; present = storing (map (λ r. r.0) rows) (slots_of s layouts x.view rows) });
    posts = sent.posts ∙ (λ i. map posted old ++ map (λ m. (b.node, m)) (stores s layouts (same i) (sym request i) (sym phase i) 0 rows));
    ends = refl;
    spelled = sent.spelled;
  }
