-- A streamed put whose bytes all come, to a cluster that holds a map: block by block it stores the rows of the put of these bytes.
use Rattle.std.proofs.Common.{◌≡◌, ◌<◌, ◌≤◌, ◌+◌, ◌-◌, ◌*◌, ◌^◌, ℕ, zero, suc, min, true, false, Option, Some, None, List, [], ◌∷◌, ◌++◌, length, take, drop, refl, sym, ap, ◌∙◌, subst, arith}
use Rattle.std.specs.Prelude.{nat_lt, ◌==◌, ◌||◌, if◌then◌else◌}
use Rattle.std.specs.List.{Contains}
use Rattle.std.proofs.lemmas.Bool.{ltb-true, ltb-false, le-ltb, ne_eqb, or_from}
use Rattle.std.proofs.lemmas.List.{length-take, length-drop, drop-drop}
use Rattle.blake2_hash.specs.Blake2b.{blake2b}
use Rattle.cluster_machine.specs.World.{undelivered}
use Rattle.flow_model.specs.declared.order.Order.{Order}
use Rattle.flow_model.specs.declared.flow.Name.{Name}
use Rattle.flow_model.specs.declared.flow.Content.{Content}
use Rattle.flow_model.specs.Blocks.{piece, has_piece, is_long}
use Rattle.store_model.specs.Fresh.{NoClash}
use Rattle.store_model.specs.Orders.{buckets_of}
use Rattle.store_model.specs.Run.{State, are_buckets, need_at}
use Rattle.store_model.specs.Acts.{Act, ActsFit, after_acts}
use Rattle.store_model.proofs.Acts.{acts_after, fit_in_parts}
use Rattle.serve_model.specs.Clusters.{Cluster, delivered, fed_block, fed_acts, decided, received_acts, streamed}
use Rattle.serve_model.specs.Plain.{Plain}
use Rattle.plain_laws.specs.Holds.{Holds}
use Rattle.plain_laws.proofs.Carrying.{now}
use Rattle.plain_laws.proofs.Given.{AllKept}
use Rattle.plain_laws.proofs.Parts.{IsCount, times}
use Rattle.plain_laws.proofs.Starting.{number}
use Rattle.plain_laws.proofs.Uploading.{NeedsBlock, StreamReads, HasWritten, stream_announced, stream_need, stream_fed, stream_kept}

-- the front and the rest of a list, by how long the front is
fronts : (n : ℕ) (xs : List ℕ) → (take (length (take n xs)) xs ≡ take n xs) × (drop (length (take n xs)) xs ≡ drop n xs)
fronts zero [] = (refl, refl)
fronts zero (x ∷ xs) = (refl, refl)
fronts (suc n) [] = (refl, refl)
fronts (suc n) (x ∷ xs) = let rest = fronts n xs in (ap (λ ys. x ∷ ys) rest.0, rest.1)

-- blocks are no more than bytes
few_blocks : (block : ℕ) (body : List ℕ) → 1 ≤ block → (count : ℕ) → ((i : ℕ) → i < count → has_piece block body i ≡ true) → count ≤ length body
few_blocks block body some zero there = omega arith
few_blocks block body some (suc i) there =
    let less : i * block < length body = ltb-true (i * block) (length body) (there i (omega arith)) in
    let more : i ≤ i * block = times i block some in
    omega (arith, less, more)

module _ (c : Cluster) (P : Plain) (h : Holds c P) (clash : NoClash P.buckets) (time : ℕ) (order : Order) (known : are_buckets P.buckets (buckets_of order) ≡ true) (name : Name) (there : Contains P.buckets name.bucket) (content : Content) (long : is_long content.body ≡ true)
    (Bytes : List ℕ → Type 0) (one_digest : (a b : List ℕ) → Bytes a → Bytes b → blake2b 32 a ≡ blake2b 32 b → a ≡ b) (kept_so : (m : ℕ) → AllKept Bytes (c.run.world.nodes m).blocks)
    (count : ℕ) (counts : IsCount c.run.block content.body count) (pieces : (i : ℕ) → has_piece c.run.block content.body i ≡ true → Bytes (piece c.run.block content.body i))
    (small : number (now c P h time order) < 2 ^ 64) (some : 1 ≤ c.run.block) where
  abbrev q : ℕ
  q = number (now c P h time order)

  abbrev block : ℕ
  block = c.run.block

  abbrev body : List ℕ
  body = content.body

  -- the bytes from block i on
  abbrev rest : ℕ → List ℕ
  rest i = drop (i * block) body

  abbrev size : ℕ → ℕ
  size i = length (piece block body i)

  -- where nothing waits, the request needs its client after so many blocks
  abbrev Needs : ℕ → State → Type 0
  Needs i t = NeedsBlock c P h clash time order known name there content long Bytes one_digest kept_so count counts pieces small i t × (undelivered t.world ≡ None)

  -- and it has written
  abbrev pub HasStored : State → Type 0
  HasStored t = HasWritten c P h clash time order known name there content long Bytes one_digest kept_so count counts pieces small t × (undelivered t.world ≡ None)

  -- it reads what is there
  abbrev pub HasAsked : State → Type 0
  HasAsked t = StreamReads c P h clash time order known name there content long Bytes one_digest kept_so count counts pieces small t

  need_of : (i : ℕ) (t : State) → Needs i t → need_at t q ≡ Some (size i)
  need_of i t a = stream_need c P h clash time order known name there content long Bytes one_digest kept_so count counts pieces small i t a.0

  -- ---- a block comes

  -- what comes where so much is needed
  abbrev fed_more : ℕ → State → List ℕ → ℕ → List Act
  fed_more more t bytes wanted = fed_block q (take wanted bytes) ++ fed_acts more (after_acts t (fed_block q (take wanted bytes))) q (drop wanted bytes)

  abbrev fed_where : ℕ → State → List ℕ → Option ℕ → List Act
  fed_where more t bytes need = elim need as (λ o. List Act) [ None ↦ [] | Some wanted ↦ if wanted == 0 || nat_lt (length bytes) wanted then [] else fed_more more t bytes wanted ]

  rest_next : (i : ℕ) → drop block (rest i) ≡ rest (suc i)
  rest_next i = let on : suc i * block ≡ i * block + block = omega arith in drop-drop block (i * block) body ∙ ap (λ k. drop k body) (sym on)

  size_is : (i : ℕ) → size i ≡ min block (length (rest i))
  size_is i = length-take block (rest i)

  -- a block that is there is there whole, and has a byte at least
  is_whole : (i : ℕ) → has_piece block body i ≡ true → (size i == 0 || nat_lt (length (rest i)) (size i)) ≡ false
  is_whole i here =
      let less : i * block < length body = ltb-true (i * block) (length body) here in
      let left : length (rest i) ≡ length body - i * block = length-drop (i * block) body in
      let sized = size_is i in
      or_from (size i == 0) (nat_lt (length (rest i)) (size i)) (ne_eqb (size i) 0 (λ none. omega (arith, less, left, sized, none, some))) (le-ltb (length (rest i)) (size i) (omega (arith, sized)))

  -- so it comes
  fed_step : (more i : ℕ) → has_piece block body i ≡ true → (t : State) → Needs i t →
      fed_acts (suc more) t q (rest i) ≡ fed_block q (piece block body i) ++ fed_acts more (after_acts t (fed_block q (piece block body i))) q (rest (suc i))
  fed_step more i here t a =
      let front = fronts block (rest i) in
      ap (fed_where more t (rest i)) (need_of i t a)
      ∙ (ap (λ b. if b then [] else fed_more more t (rest i) (size i)) (is_whole i here)
      ∙ (ap (λ p. fed_block q p ++ fed_acts more (after_acts t (fed_block q p)) q (drop (size i) (rest i))) front.0
      ∙ ap (λ r. fed_block q (piece block body i) ++ fed_acts more (after_acts t (fed_block q (piece block body i))) q r) (front.1 ∙ rest_next i)))

  -- after the last block nothing is left
  none_left : size count ≡ 0
  none_left =
      let high : length body ≤ count * block = ltb-false (count * block) (length body) counts.no_more in
      let left : length (rest count) ≡ length body - count * block = length-drop (count * block) body in
      let sized = size_is count in
      omega (arith, high, left, sized)

  fed_none : (more : ℕ) (t : State) → Needs count t → fed_acts more t q (rest count) ≡ []
  fed_none zero t a = refl
  fed_none (suc more) t a =
      ap (fed_where more t (rest count)) (need_of count t a) ∙ ap (λ n. if n == 0 || nat_lt (length (rest count)) n then [] else fed_more more t (rest count) n) none_left

  -- ---- all its bytes come

  fed_all : (more i : ℕ) → i ≤ count → count ≤ i + more → (t : State) → Needs i t → ActsFit t (fed_acts more t q (rest i)) → Needs count (after_acts t (fed_acts more t q (rest i)))
  fed_all zero i low high t a fits = let same : i ≡ count = omega (arith, low, high) in subst (λ k. Needs k t) same a
  fed_all (suc more) i low high t a fits =
      elim (nat_lt i count) as (λ b. nat_lt i count ≡ b → Needs count (after_acts t (fed_acts (suc more) t q (rest i)))) [
        | true ↦ λ e.
            let less = ltb-true i count e in
            let here = counts.there i less in
            let acts = fed_block q (piece block body i) in
            let v : State = after_acts t acts in
            let later : List Act = fed_acts more v q (rest (suc i)) in
            let is : fed_acts (suc more) t q (rest i) ≡ acts ++ later = fed_step more i here t a in
            let parts = fit_in_parts t acts later (subst (ActsFit t) is fits) in
            let fed = stream_fed c P h clash time order known name there content long Bytes one_digest kept_so count counts pieces small i here t a.0 parts.0 in
            let all = fed_all more (suc i) (omega (arith, less)) (omega (arith, high)) v fed parts.1 in
            subst (Needs count) (sym (ap (after_acts t) is ∙ acts_after t acts later)) all
        | false ↦ λ e.
            let at_least = ltb-false i count e in
            let same : i ≡ count = omega (arith, low, at_least) in
            let all : Needs count t = subst (λ k. Needs k t) same a in
            let is : fed_acts (suc more) t q (rest i) ≡ [] = ap (λ k. fed_acts (suc more) t q (rest k)) same ∙ fed_none (suc more) t all in
            subst (Needs count) (sym (ap (after_acts t) is)) all
      ] refl

  received : (s : State) → HasAsked s → ActsFit s (received_acts s q body) → Needs count (after_acts s (received_acts s q body))
  received s a fits =
      let t : State = after_acts s delivered in
      let none : 0 * block ≡ 0 = omega arith in
      let whole : body ≡ rest 0 = sym (ap (λ k. drop k body) none) in
      let parts = fit_in_parts s delivered (fed_acts (length body) t q body) fits in
      let first : Needs 0 t = stream_announced c P h clash time order known name there content long Bytes one_digest kept_so count counts pieces small s a parts.0.0 in
      let few : count ≤ length body = few_blocks block body some count counts.there in
      let all = fed_all (length body) 0 (omega arith) (omega (arith, few)) t first (subst (λ bytes. ActsFit t (fed_acts (length body) t q bytes)) whole parts.1) in
      subst (Needs count) (sym (acts_after s delivered (fed_acts (length body) t q body) ∙ ap (λ bytes. after_acts t (fed_acts (length body) t q bytes)) whole)) all

  -- and it is kept: it has written what the put of them writes
  pub streamed_writes : (s : State) → HasAsked s → ActsFit s (streamed true s q body) → HasStored (after_acts s (streamed true s q body))
  unfolding streamed
  streamed_writes s a fits =
      let first = received_acts s q body in
      let t : State = after_acts s first in
      let last : List Act = decided true q (need_at t q) in
      let parts = fit_in_parts s first last fits in
      let got : Needs count t = received s a parts.0 in
      let is : last ≡ Act.keeps q ∷ delivered = ap (decided true q) (need_of count t got ∙ ap Some none_left) in
      let stored : HasStored (after_acts t (Act.keeps q ∷ delivered)) = stream_kept c P h clash time order known name there content long Bytes one_digest kept_so count counts pieces small t got.0 (subst (ActsFit t) is parts.1) in
      subst HasStored (sym (acts_after s first last ∙ ap (after_acts t) is)) stored
