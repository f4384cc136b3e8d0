-- An upload that is given up, in a cluster that holds a map: once the rounds are over it holds the same map, beside one version more that was given up.
use Rattle.std.proofs.Common.{◌≡◌, ◌≤◌, ◌<◌, ◌^◌, ◌*◌, ◌+◌, ℕ, suc, max, true, false, Option, List, [], ◌∷◌, ◌++◌, length, refl, sym, ap, ap₂, ◌∙◌, subst, inl, arith}
use Rattle.std.specs.Prelude.{IsTrue, if◌then◌else◌, ◌==◌}
use Rattle.std.specs.List.{Contains}
use Rattle.std.specs.declared.cmp.Ordering.TheVariants.{Less}
use Rattle.std.proofs.lemmas.Bool.{lt-ltb, le-leb}
use Rattle.blake2_hash.specs.Hash.{digest_of}
use Rattle.row_codec.specs.Spelling.{eight}
use Rattle.layout_roles.specs.declared.layout.Layout.{Layout}
use Rattle.crdt_core.proofs.Each.{all_weaker}
use Rattle.crdt_rows.specs.declared.version.Version.{Version}
use Rattle.crdt_rows.specs.declared.any_row.AnyRow.{AnyRow}
use Rattle.crdt_rows.specs.AnyRow.{any_join}
use Rattle.crdt_rows.specs.Version.{version_cmp}
use Rattle.object_schema.specs.Schema.{words}
use Rattle.object_schema.specs.Laws.{eight_same}
use Rattle.table_model.specs.Rows.{row_at}
use Rattle.quorum_model.specs.Quorum.{is_among}
use Rattle.flow_model.specs.declared.order.Order.{Order}
use Rattle.flow_model.specs.declared.order.Order.TheVariants as order
use Rattle.flow_model.specs.declared.flow.Name.{Name}
use Rattle.flow_model.specs.declared.flow.Flow.{Flow}
use Rattle.flow_model.specs.declared.flow.FlowEnd.TheVariants.{Aborted}
use Rattle.flow_model.specs.Blocks.{piece, inline_limit, is_long}
use Rattle.flow_model.specs.Flow.{asks_for, started}
use Rattle.flow_model.specs.Next.{drawn}
use Rattle.flow_model.specs.Rows.{row_key}
use Rattle.store_model.specs.Fresh.{NoClash}
use Rattle.store_model.specs.Orders.{kind_of, name_of}
use Rattle.store_model.specs.Run.{State, are_buckets}
use Rattle.store_model.specs.Acts.{Act, HasKey, ActsFit, after_acts}
use Rattle.store_model.proofs.Acts.{acts_after}
use Rattle.store_laws.proofs.Placing.{asks_is_step}
use Rattle.serve_model.specs.declared.upload.Upload.{Upload}
use Rattle.serve_model.specs.Stores.{stream_of}
use Rattle.serve_model.specs.Clusters.{Cluster, fits, round, streamed}
use Rattle.serve_model.specs.Plain.{Has, Plain, same_name, has_at, last_ts, version_of, at_time, counted}
use Rattle.plain_laws.specs.Holds.{nodes_at, HasItsBlocks, GaveUp, given_up_at, row_with, IsGivenUp, Holds}
use Rattle.plain_laws.proofs.Answering.{row_there, one_bucket}
use Rattle.plain_laws.proofs.Carrying.{now, asker_now, asker_is, holding_now, gone_now, row_now, asked_state}
use Rattle.plain_laws.proofs.Entries.{names_equal}
use Rattle.plain_laws.proofs.GivenUps.{WasThere, ts_with, past_with, later_than_all}
use Rattle.plain_laws.proofs.Holding.{Holding, clock_at, blocks_stay}
use Rattle.plain_laws.proofs.Keeping.{AllKeep}
use Rattle.plain_laws.proofs.LeftBlocks.{Begins}
use Rattle.plain_laws.proofs.LeftBytes.{padded, padded_length, comes_whole}
use Rattle.plain_laws.proofs.LeftFeeding.{IsLeft, leaves}
use Rattle.plain_laws.proofs.Looks.{AllHad, Asking}
use Rattle.plain_laws.proofs.Parts.{IsCount, some_count}
use Rattle.plain_laws.proofs.Seeking.{a_row}
use Rattle.plain_laws.proofs.Starting.{number, opened_is, starts}
use Rattle.plain_laws.proofs.Streamed.{reading}
use Rattle.plain_laws.proofs.Writing.{one_name}

module _ (c : Cluster) (P : Plain) (h : Holds c P) (clash : NoClash P.buckets) (time : ℕ) (u : Upload) (came : List ℕ) (known : are_buckets P.buckets (u.bucket ∷ []) ≡ true) (some : 1 ≤ P.block) (keyed : HasKey (stream_of u)) (few : suc P.asked < 2 ^ 64)
    (Such : List ℕ → Type 0) (kept_so : AllKeep Such c.run.world) (pieces : (i : ℕ) → comes_whole P.block u.length came i ≡ true → Such (piece P.block (padded P.block u.length came) i)) where
  abbrev its_order : Order
  its_order = stream_of u

  abbrev name : Name
  name = record { bucket = u.bucket; key = u.key }

  abbrev before : State
  before = now c P h time its_order

  abbrev l : Layout
  l = h.layout

  abbrev n : ℕ
  n = asker_now c P h time its_order

  abbrev q : ℕ
  q = number before

  abbrev block : ℕ
  block = c.run.block

  abbrev after : Plain
  after = counted (at_time P time)

  abbrev has : Has
  has = has_at P name

  abbrev version : Version
  version = version_of after name

  abbrev gone : List Version
  gone = gone_now c P h time its_order name

  abbrev value : Option AnyRow
  value = row_now c P h time its_order name

  abbrev Was : Version → Type 0
  Was v = WasThere gone has v

  there : Contains P.buckets u.bucket
  there = one_bucket P.buckets u.bucket known

  asked_so : q ≡ suc P.asked
  asked_so = ap suc (holding_now c P h time its_order).requests

  -- it comes after all that was there, and after what was given up
  less : (v : Version) → Was v → version_cmp v version ≡ Less
  less = later_than_all (at_time P time) name (holding_now c P h time its_order).given_up (holding_now c P h time its_order).are_given_up (suc P.asked) (omega arith)

  drawn_is : drawn q value (before.world.time + before.world.skew_of n) ≡ version
  drawn_is = ap₂ (λ (t g : ℕ). drawn_of t g q) (clock_at l (at_time P time) before (holding_now c P h time its_order) n) (ts_with name has gone) ∙ ap (drawn_of after.clock (last_ts has)) asked_so
    where
      drawn_of : ℕ → ℕ → ℕ → Version
      drawn_of t g id = record { ts = max t (suc g); id = id }

  abbrev all : AllHad l h.is_layout before n q (kind_of its_order) (name_of its_order) (a_row 1 (row_key name) value) (nodes_at l (digest_of name.bucket).0)
  all = row_there c P h time its_order known name there

  begins : Begins l before name value version Was
  begins = record {
    equal = (holding_now c P h time its_order).equal;
    past = past_with name has gone version less;
    low = few;
    no_version = λ m. (holding_now c P h time its_order).fresh.versions m version.id (omega arith) few;
    no_reference = λ m hash size. (holding_now c P h time its_order).fresh.references m version.id hash (omega arith) few size;
  }

  -- ---- its bytes

  abbrev body : List ℕ
  body = padded block u.length came

  long : is_long body ≡ true
  long = le-leb inline_limit (length body) (subst (λ k. inline_limit ≤ k) (sym (padded_length block u.length came)) keyed.1)

  counted_so : (count : ℕ) × IsCount block body count
  counted_so = some_count block body (subst (λ b. 1 ≤ b) (sym h.block) some)

  pieces_so : (i : ℕ) → comes_whole block u.length came i ≡ true → Such (piece block body i)
  pieces_so = subst (λ b. (i : ℕ) → comes_whole b u.length came i ≡ true → Such (piece b (padded b u.length came) i)) (sym h.block) pieces

  abbrev flow : Flow
  flow = reading q name version block (record { body = body; headers = u.headers }) long counted_so.0 counted_so.1

  begins_so : started its_order q before.block ≡ (flow, asks_for name)
  begins_so = ap (λ k. started (order.Stream u.bucket u.key k u.headers) q before.block) (sym (padded_length block u.length came))

  -- ---- it is asked

  abbrev asked : State
  asked = asked_state c P h time its_order known

  abbrev Asks : State → Type 0
  Asks t = Asking l h.is_layout before n q (kind_of its_order) (name_of its_order) flow (a_row 1 (row_key name) value) (nodes_at l (digest_of name.bucket).0) all t

  asks_so : Asks asked
  asks_so =
      let sought = a_row 1 (row_key name) value in
      let begun = starts l h.is_layout (at_time P time) before (holding_now c P h time its_order) n (asker_is c P h time its_order) its_order flow (asks_for name) sought (refl, refl) (asks_is_step q name) begins_so all in
      subst Asks (sym (opened_is l h.is_layout (at_time P time) before (holding_now c P h time its_order) n (asker_is c P h time its_order) its_order flow (asks_for name) sought (refl, refl) (asks_is_step q name) begins_so)) begun

  -- ---- it is given up, and the rounds are over

  abbrev done : List Act
  done = streamed false asked q came

  abbrev rounds : List Act
  rounds = round c.members ++ round c.members

  abbrev IsOver : State → Type 0
  IsOver v = IsLeft l h.is_layout before n q (kind_of its_order) (name_of its_order) name value version Was all begins block u.length came u.headers long counted_so.0 counted_so.1 Such kept_so pieces_so v

  left_over : ActsFit asked (done ++ rounds) → IsOver (after_acts asked (done ++ rounds))
  left_over fits =
      leaves l h.is_layout before n q (kind_of its_order) (name_of its_order) name value version Was all begins block u.length came u.headers long counted_so.0 counted_so.1 Such kept_so pieces_so c.members h.members_are drawn_is asked asks_so fits

  -- ---- what the cluster holds then

  abbrev new : GaveUp
  new = record { name = name; version = version }

  new_given : IsGivenUp after new
  new_given = record {
    above = λ w e. less w (inl e);
    late = omega arith;
    numbered = omega arith;
    apart = λ other w e same. (let low = h.map.numbered.asked other w e in omega (arith, low, same));
    keyed = keyed.0;
  }

  still_given : (g : GaveUp) → IsGivenUp (at_time P time) g → IsGivenUp after g
  still_given g is = record { above = is.above; late = is.late; numbered = (let low = is.numbered in omega (arith, low)); apart = is.apart; keyed = is.keyed }

  -- its number is no other's, as these are spelled
  spelled_apart : (id : ℕ) → id < 2 ^ 64 → (suc P.asked ≡ id → ⊥) → eight version.id ≡ eight id → ⊥
  spelled_apart id low other same = other (eight_same (suc P.asked) id (lt-ltb (suc P.asked) (2 ^ 64) few) (lt-ltb id (2 ^ 64) low) same)

  module _ (v : State) (over : IsOver v) where
    rows_so : (other : Name) (m : ℕ) → Contains P.buckets other.bucket → IsTrue (is_among m (nodes_at l (digest_of other.bucket).0)) →
        row_at any_join words (v.world.nodes m).accepted 1 (row_key other) ≡ row_with other (given_up_at (new ∷ (holding_now c P h time its_order).given_up) other) (has_at P other)
    rows_so other m too is =
        let gs = (holding_now c P h time its_order).given_up in
        elim (same_name name other) as (λ b. same_name name other ≡ b → row_at any_join words (v.world.nodes m).accepted 1 (row_key other) ≡ row_with other (if b then version ∷ given_up_at gs other else given_up_at gs other) (has_at P other)) [
          | true ↦ λ e.
              subst (λ (o : Name). IsTrue (is_among m (nodes_at l (digest_of o.bucket).0)) → row_at any_join words (v.world.nodes m).accepted 1 (row_key o) ≡ row_with o (version ∷ given_up_at gs o) (has_at P o)) (names_equal name other e)
              (λ is. over.here m is) is
          | false ↦ λ e. over.objects other (λ same. one_name P.buckets clash name other there too same e) m ∙ (holding_now c P h time its_order).rows other m too is
        ] refl

    blocks_so : (other : Name) → Contains P.buckets other.bucket → HasItsBlocks l v.world (has_at P other)
    blocks_so other too =
        blocks_stay l before.world v.world (has_at P other)
        (λ w e. (let low = h.map.numbered.asked other w e in over.others w.id (spelled_apart w.id (omega (arith, low, few)) (λ same. omega (arith, low, same)))))
        ((holding_now c P h time its_order).blocks other too)

    later : (id : ℕ) → suc P.asked < id → id < 2 ^ 64 → eight version.id ≡ eight id → ⊥
    later id late low = spelled_apart id low (λ same. omega (arith, late, same))

    left_holding : Holding l after v
    left_holding =
        let was = holding_now c P h time its_order in
        record {
          rest = over.at_rest;
          skews = λ m. over.skews m ∙ was.skews m;
          equal = over.equal;
          stocked = over.stocked;
          given_up = new ∷ was.given_up;
          are_given_up = (new_given, all_weaker (IsGivenUp (at_time P time)) (IsGivenUp after) still_given was.given_up was.are_given_up);
          rows = rows_so;
          blocks = blocks_so;
          buckets = over.buckets ∙ was.buckets;
          block = over.block_is ∙ was.block;
          clock = over.time ∙ was.clock;
          requests = over.requests ∙ asked_so;
          asked = over.asked ∙ asked_so;
          fresh = record {
            versions = λ m id late low. (over.others id (later id late low)).0.row m ∙ was.fresh.versions m id (omega (arith, late)) low;
            references = λ m id hash late low size. (over.others id (later id late low)).0.references m hash size ∙ was.fresh.references m id hash (omega (arith, late)) low size;
          };
        }

  -- what the cluster has become: it holds the map, nodes keep such blocks, and the request was given up
  pub record IsServed (v : State) : Type 0 where
    pub holding : Holding l after v
    pub keeps : AllKeep Such v.world
    pub ends : v.ends ≡ before.ends ++ (q, Aborted) ∷ []

  pub left_served : ActsFit asked (done ++ rounds) → IsServed (after_acts (after_acts asked done) rounds)
  left_served fits =
      let over = left_over fits in
      subst IsServed (acts_after asked done rounds) (record { holding = left_holding (after_acts asked (done ++ rounds)) over; keeps = over.given; ends = over.ends })
