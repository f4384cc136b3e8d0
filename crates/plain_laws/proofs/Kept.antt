-- An upload whose bytes all came and which is kept, by a cluster that holds a map: it ends as the map's put of these bytes.
use Rattle.std.proofs.Common.{◌≡◌, ◌<◌, ◌≤◌, ◌^◌, ℕ, true, false, List, [], ◌∷◌, ◌++◌, length, refl, sym, ap, ◌∙◌, subst, inr, arith}
use Rattle.std.specs.Prelude.{◌==◌, if◌then◌else◌}
use Rattle.std.specs.List.{Contains}
use Rattle.std.proofs.lemmas.Bool.{eq-eqb, le-leb}
use Rattle.layout_roles.specs.declared.layout.Layout.{Layout}
use Rattle.crdt_rows.specs.declared.version.Version.{Version}
use Rattle.flow_model.specs.declared.order.Order.{Order}
use Rattle.flow_model.specs.declared.order.Order.TheVariants as order
use Rattle.flow_model.specs.declared.flow.Name.{Name}
use Rattle.flow_model.specs.declared.flow.Coming.{Coming}
use Rattle.flow_model.specs.declared.flow.Content.{Content}
use Rattle.flow_model.specs.declared.flow.Wish.TheVariants as wish
use Rattle.flow_model.specs.declared.flow.Stage.TheVariants.{Drawing}
use Rattle.flow_model.specs.declared.flow.Flow.{Flow}
use Rattle.flow_model.specs.declared.flow.FlowEnd.{FlowEnd}
use Rattle.flow_model.specs.declared.flow.FlowEnd.TheVariants.{Aborted}
use Rattle.flow_model.specs.Blocks.{piece, has_piece, is_long, inline_limit}
use Rattle.flow_model.specs.Rows.{row_key}
use Rattle.flow_model.specs.Flow.{asks_for, started}
use Rattle.store_model.specs.Fresh.{NoClash}
use Rattle.store_model.specs.Run.{State, are_buckets}
use Rattle.store_model.specs.Acts.{Act, ActsFit}
use Rattle.store_laws.proofs.Placing.{asks_is_step}
use Rattle.serve_model.specs.declared.upload.Upload.{Upload}
use Rattle.serve_model.specs.Stores.{Job, keep, stream_of}
use Rattle.serve_model.specs.Clusters.{Cluster, cluster, carried_acts, streamed, round, fits}
use Rattle.serve_model.specs.Plain.{Plain, object, has_at, at_time, counted, tells, writes, answered, done_for, AreApart}
use Rattle.serve_model.proofs.Blocks.{piece_of_kept}
use Rattle.plain_laws.specs.Holds.{Holds, IsGone}
use Rattle.plain_laws.specs.Blocks.{IsBlockAt}
use Rattle.plain_laws.proofs.Jobs.{put_of}
use Rattle.plain_laws.proofs.Keeping.{Follows}
use Rattle.plain_laws.proofs.Seeking.{a_row}
use Rattle.plain_laws.proofs.Starting.{number, opened_is, starts}
use Rattle.plain_laws.proofs.Carrying.{now, asker_now, asker_is, holding_now, row_now, asked_state, has_key, number_fits, done_state, done_fits, worked_state, worked_fits}
use Rattle.plain_laws.proofs.Followed.{kept_before, agrees_refused, serves_so, rows_so}
use Rattle.plain_laws.proofs.Answering.{one_bucket, row_there}
use Rattle.plain_laws.proofs.Parts.{IsCount, some_count}
use Rattle.plain_laws.proofs.Uploading.{IsServed, upload_served, wrote_gone, end as upload_end}
use Rattle.plain_laws.proofs.Streaming.{HasAsked, HasStored, streamed_writes}

module _ (c : Cluster) (P : Plain) (h : Holds c P) (clash : NoClash P.buckets) (time : ℕ) (u : Upload) (came : List ℕ) (known : are_buckets P.buckets (u.bucket ∷ []) ≡ true) (fit : fits c time (keep u came)) (apart : AreApart (IsBlockAt c P (keep u came))) (some : 1 ≤ P.block) (all : length came ≡ u.length) where
  abbrev job : Job
  job = keep u came

  abbrev its_order : Order
  its_order = stream_of u

  abbrev name : Name
  name = record { bucket = u.bucket; key = u.key }

  abbrev content : Content
  content = record { body = came; headers = u.headers }

  abbrev before : State
  before = now c P h time its_order

  abbrev l : Layout
  l = h.layout

  abbrev n : ℕ
  n = asker_now c P h time its_order

  abbrev q : ℕ
  q = number before

  abbrev after : Plain
  after = counted (at_time P time)

  abbrev Q : Plain
  Q = (writes after name (wish.Content content)).state

  there : Contains P.buckets u.bucket
  there = one_bucket P.buckets u.bucket known

  long : is_long came ≡ true
  long = let announced : inline_limit ≤ u.length = (has_key c P h time job fit).1 in le-leb inline_limit (length came) (subst (λ k. inline_limit ≤ k) (sym all) announced)

  abbrev Such : List ℕ → Type 0
  Such = IsBlockAt c P job

  some_here : 1 ≤ c.run.block
  some_here = subst (λ b. 1 ≤ b) (sym h.block) some

  counted_so : (count : ℕ) × IsCount c.run.block came count
  counted_so = some_count c.run.block came some_here

  pieces_so : (i : ℕ) → has_piece c.run.block came i ≡ true → Such (piece c.run.block came i)
  pieces_so = subst (λ b. (i : ℕ) → has_piece b came i ≡ true → Such (piece b came i)) (sym h.block) (λ i e. inr (piece_of_kept P.block u came (piece P.block came i) all (i, long, e, refl)))

  small : q < 2 ^ 64
  small = let few = number_fits c P h time job known fit in let so_far = (holding_now c P h time its_order).requests in omega (arith, few, so_far)

  -- ---- it is asked

  abbrev coming : ℕ → Coming
  coming size = record { length = size; headers = u.headers }

  abbrev flow : Flow
  flow = record { id = q; block = c.run.block; stage = Drawing name (wish.Stream (coming (length came))) }

  begins_so : started its_order q before.block ≡ (flow, asks_for name)
  begins_so = ap (λ k. started (order.Stream u.bucket u.key k u.headers) q before.block) (sym all)

  abbrev asked : State
  asked = asked_state c P h time its_order known

  abbrev Asks : State → Type 0
  Asks t = HasAsked c P h clash time its_order known name there content long Such apart (kept_before c P job) counted_so.0 counted_so.1 pieces_so small some_here t

  asks_so : Asks asked
  asks_so =
      let sought = a_row 1 (row_key name) (row_now c P h time its_order name) in
      let had_all = row_there c P h time its_order known name there in
      let holding = holding_now c P h time its_order in
      let begun = starts l h.is_layout (at_time P time) before holding n (asker_is c P h time its_order) its_order flow (asks_for name) sought (refl, refl) (asks_is_step q name) begins_so had_all in
      subst Asks (sym (opened_is l h.is_layout (at_time P time) before holding n (asker_is c P h time its_order) its_order flow (asks_for name) sought (refl, refl) (asks_is_step q name) begins_so)) begun

  -- ---- its bytes come, and it is kept

  abbrev done : List Act
  done = streamed true asked q came

  done_is : carried_acts asked q job ≡ done
  done_is = ap (λ b. streamed b asked q came) (eq-eqb (length came) u.length all)

  abbrev stored_state : State
  stored_state = done_state c P h time job known done done_is

  stored : HasStored c P h clash time its_order known name there content long Such apart (kept_before c P job) counted_so.0 counted_so.1 pieces_so small some_here stored_state
  stored =
      streamed_writes c P h clash time its_order known name there content long Such apart (kept_before c P job) counted_so.0 counted_so.1 pieces_so small some_here asked asks_so
      (done_fits c P h time job known done done_is fit)

  rounds_fit : ActsFit stored_state (round c.members ++ round c.members)
  rounds_fit = worked_fits c P h time job known done done_is fit

  served : IsServed c P h clash time its_order known name there content long Such apart (kept_before c P job) counted_so.0 counted_so.1 pieces_so small (worked_state c P h time job known done done_is)
  served =
      upload_served c P h clash time its_order known name there content long Such apart (kept_before c P job) counted_so.0 counted_so.1 pieces_so small h.block stored_state stored.0 stored.1 rounds_fit

  abbrev end : FlowEnd
  end = upload_end c P h clash time its_order known name there content long Such apart (kept_before c P job) counted_so.0 counted_so.1 pieces_so small

  -- the map puts these bytes
  puts_so : done_for after job ≡ tells Q end
  puts_so = ap (λ b. if b then answered after (put_of u came) else tells after Aborted) (eq-eqb (length came) u.length all)

  kept_follows : Follows c P time job
  kept_follows = serves_so c P h time job known done done_is fit Q end end refl puts_so refl served.holding served.keeps served.ends

  -- what was there in blocks is given up
  kept_gives_up : (version : Version) (block : ℕ) (old : Content) → has_at P name ≡ object version block old → is_long old.body ≡ true → IsGone l (λ m. ((cluster.carries c time job).state.run.world.nodes m).accepted) version block old
  kept_gives_up version block old was old_long =
      rows_so c P h time job known done done_is fit Q end end refl puts_so refl served.holding served.ends (λ rows. IsGone l rows version block old)
      (wrote_gone c P h clash time its_order known name there content long Such apart (kept_before c P job) counted_so.0 counted_so.1 pieces_so small stored_state stored.0 stored.1 version block old was old_long rounds_fit)

-- whether or not the bucket is there
pub keeps_follow : (c : Cluster) (P : Plain) (time : ℕ) (u : Upload) (came : List ℕ) → Holds c P → NoClash P.buckets → 1 ≤ P.block → AreApart (IsBlockAt c P (keep u came)) → fits c time (keep u came) → length came ≡ u.length → Follows c P time (keep u came)
keeps_follow c P time u came h clash some apart fit all =
    elim (are_buckets P.buckets (u.bucket ∷ [])) as (λ b. are_buckets P.buckets (u.bucket ∷ []) ≡ b → Follows c P time (keep u came)) [
      | true ↦ λ known. kept_follows c P h clash time u came known fit apart some all
      | false ↦ λ unknown. agrees_refused c P h time (keep u came) unknown
    ] refl

-- what such an upload overwrites is given up
pub keeps_gone : (c : Cluster) (P : Plain) (time : ℕ) (u : Upload) (came : List ℕ) (h : Holds c P) → NoClash P.buckets → 1 ≤ P.block → AreApart (IsBlockAt c P (keep u came)) → fits c time (keep u came) → length came ≡ u.length → are_buckets P.buckets (u.bucket ∷ []) ≡ true →
    (version : Version) (block : ℕ) (content : Content) → has_at P (record { bucket = u.bucket; key = u.key }) ≡ object version block content → is_long content.body ≡ true →
    IsGone h.layout (λ m. ((cluster.carries c time (keep u came)).state.run.world.nodes m).accepted) version block content
keeps_gone c P time u came h clash some apart fit all known = kept_gives_up c P h clash time u came known fit apart some all
