-- What is known of every world that lawful steps lead to, and of one whose stored rows are good.
use Rattle.std.specs.Prelude.{◌≡◌, ℕ, List, [], ◌∷◌, ◌++◌, length, refl}
use Rattle.std.specs.List.{Contains}
use Rattle.std.proofs.Common.{ap, sym, subst, ◌∙◌, inl, inr, arith}
use Rattle.std.proofs.lemmas.List.Elements.{All-push, All-weaker}
use Rattle.cluster_machine.specs.Hashes.{RunHashes, NoClash}
use Rattle.cluster_machine.specs.Layouts.{layouts}
use Rattle.cluster_machine.specs.Trio.{trio, stage_trio}
use Rattle.cluster_machine.specs.Node.{Reading}
use Rattle.cluster_machine.specs.World.{empty}
use Rattle.cluster_machine.specs.Kept.{GaveKept, KeptReads}
use Rattle.cluster_machine.specs.Keeping.{AreDifferent}
use Rattle.cluster_machine.specs.Worlds.{IsLawfulRun, next, run, IsSound}
use Rattle.machine_origins.specs.Origins.{ComesFrom, Gave, stored_by, stored_in}
use Rattle.machine_origins.proofs.ByOrigin.{IsInherited, stored_have, gave_by_origin}
use Rattle.world_reads.proofs.Installed.{clear_within}
use Rattle.k2v_rows.specs.declared.k2v_row.K2vRow.{K2vRow}
use Rattle.k2v_rows.specs.Row.{item_key, row_join}
use Rattle.k2v_rows.proofs.Facts.{joined_key}
use Rattle.k2v_schema.specs.Schema.{words}
use Rattle.k2v_schema.specs.Laws.{same_item}
use Rattle.k2v_model.specs.Run.{World, Moving, ItemRequest}
use Rattle.k2v_laws.proofs.Good.{IsGood, joined_good}
use Rattle.k2v_laws.proofs.Grown.{Grows, good_later}
use Rattle.k2v_laws.proofs.Hashing.{HashesIn, hashed_more}
use Rattle.k2v_laws.proofs.Sound.{IsGoodRow, StoresGood, IsReached}

-- where no two strings that the steps hash for walks have one digest reads gave what was kept; and they gave only what was stored, the world is sound, and nothing was collected
pub record EveryWorld : Type 0 where
  pub kept_reads : (moves : List Moving) → IsLawfulRun row_join words empty moves → NoClash (RunHashes words row_join layouts trio stage_trio empty moves) → KeptReads row_join words (run row_join words empty moves)
  pub stored_rows : (moves : List Moving) → IsLawfulRun row_join words empty moves →
      (r : Reading K2vRow) → Contains (run row_join words empty moves).reads r → Gave words (ComesFrom row_join words (stored_in moves)) r
  pub is_sound : (moves : List Moving) → IsLawfulRun row_join words empty moves → IsSound (run row_join words empty moves)
  pub nothing_collected : (moves : List Moving) → (run row_join words empty moves).collected ≡ []

run_more : (w : World) (moves : List Moving) (m : Moving) → run row_join words w (moves ++ m ∷ []) ≡ next row_join words (run row_join words w moves) m
run_more w [] m = refl
run_more w (first ∷ moves) m = run_more (next row_join words w first) moves m

lawful_more : (w : World) (moves : List Moving) (m : Moving) → IsLawfulRun row_join words w moves → IsLawfulRun row_join words (run row_join words w moves) (m ∷ []) → IsLawfulRun row_join words w (moves ++ m ∷ [])
lawful_more w [] m h k = k
lawful_more w (first ∷ moves) m h k = (h.0, h.1, h.2, h.3, lawful_more (next row_join words w first) moves m h.4 k)

-- a lawful step more, which hashes no more than these strings and stores good rows
pub reached_step : {H : List ℕ → Type 0} (requests : List ItemRequest) (w : World) (m : Moving) → IsReached H requests w → IsLawfulRun row_join words w (m ∷ []) → HashesIn H w m → StoresGood H requests m → IsReached H requests (next row_join words w m)
reached_step {H = H} requests w m r lawful hashes good = record {
  moves = r.moves ++ m ∷ [];
  lawful = lawful_more empty r.moves m r.lawful (subst (λ (u : World). IsLawfulRun row_join words u (m ∷ [])) r.is lawful);
  is = ap (λ (u : World). next row_join words u m) r.is ∙ sym (run_more empty r.moves m);
  hashed = λ x h. elim (hashed_more empty r.moves m x h) [ inl old ↦ r.hashed x old | inr new ↦ subst (λ (u : World). HashesIn H u m) r.is hashes x new ];
  good = All-push (StoresGood H requests) r.moves m r.good good;
}

-- the requests of a later moment
pub reached_later : {H : List ℕ → Type 0} (old new : List ItemRequest) (w : World) → Grows old new → IsReached H old w → IsReached H new w
reached_later {H = H} old new w grows r =
    let row_later : (row : K2vRow) → IsGoodRow H old row → IsGoodRow H new row = (λ row g. good_later old new grows (item_key row) (length old) (length new) row (omega arith) grows.longer g) in
    record {
      moves = r.moves;
      lawful = r.lawful;
      is = r.is;
      hashed = r.hashed;
      good = All-weaker (StoresGood H old) (StoresGood H new) (λ m h. All-weaker (IsGoodRow H old) (IsGoodRow H new) row_later (stored_by m.step) h) r.moves r.good;
    }

good_inherited : (H : List ℕ → Type 0) (requests : List ItemRequest) → IsInherited row_join words (IsGoodRow H requests)
good_inherited H requests = record {
  joined = λ a b same x y.
      let e : item_key a ≡ item_key b = same_item a b same in
      subst (λ k. IsGood H requests k (length requests) (row_join a b)) (sym (joined_key a b e))
      (joined_good requests (item_key a) (length requests) a b e x (subst (λ k. IsGood H requests k (length requests) b) (sym e) y) same);
  called_for = λ old new row x y c. absurd (omega (arith, c.1));
}

module _ {H : List ℕ → Type 0} (every : EveryWorld) (requests : List ItemRequest) (w : World) (r : IsReached H requests w) where
  pub reached_kept : NoClash H → (reading : Reading K2vRow) → Contains w.reads reading → GaveKept row_join words [] reading
  reached_kept clear reading c =
      let kept : KeptReads row_join words w = subst (KeptReads row_join words) (sym r.is) (every.kept_reads r.moves r.lawful (clear_within _ H r.hashed clear)) in
      let none : w.collected ≡ [] = ap (λ (u : World). u.collected) r.is ∙ every.nothing_collected r.moves in
      subst (λ (collected : List K2vRow). GaveKept row_join words collected reading) none (kept reading c)

  pub reached_good : (reading : Reading K2vRow) → Contains w.reads reading → Gave words (IsGoodRow H requests) reading
  reached_good reading c =
      gave_by_origin (IsGoodRow H requests) (good_inherited H requests) (stored_in r.moves) (stored_have (IsGoodRow H requests) r.moves r.good) reading
      (every.stored_rows r.moves r.lawful reading (subst (λ (u : World). Contains u.reads reading) r.is c))

  pub reached_different : (n : ℕ) → AreDifferent (w.nodes n).calls
  reached_different n = subst (λ (u : World). AreDifferent (u.nodes n).calls) (sym r.is) ((every.is_sound r.moves r.lawful).different n)
