-- Prompt steps and acts: one more, the first of them, and what they say of each step that comes.
use Rattle.std.specs.Prelude.{◌≡◌, ◌+◌, ℕ, suc, zero, List, [], ◌∷◌, ◌++◌, length, map, take, refl}
use Rattle.std.proofs.Common.{ap, sym, ◌∙◌, length-append, arith}
use Rattle.std.proofs.lemmas.List.{append-nil, append_assoc, length-map}
use Rattle.crdt_rows.specs.AnyRow.{any_join}
use Rattle.object_schema.specs.Schema.{words}
use Rattle.cluster_machine.specs.Step.{shut}
use Rattle.cluster_machine.specs.World.{Request}
use Rattle.cluster_machine.specs.Worlds.{Done as Effect, does, next, run}
use Rattle.cluster_machine.proofs.Closing.{length_shut}
use Rattle.machine_collects.specs.Prompt.{moments_after}
use Rattle.store_model.specs.Run.{World, Moving}
use Rattle.store_collects.specs.Prompt.{IsPromptMove, ArePromptMoves}
use Rattle.store_collects.proofs.Machine.{moments_then}

-- ---- a step more

pub moments_more : (moments : List ℕ) (w : World) (ms : List Moving) (m : Moving) →
    moments_then moments w (ms ++ m ∷ []) ≡ moments_after (moments_then moments w ms) (run any_join words w ms) (does any_join words (run any_join words w ms) m)
moments_more moments w [] m = refl
moments_more moments w (x ∷ ms) m = moments_more (moments_after moments w (does any_join words w x)) (next any_join words w x) ms m

pub prompt_more : (moments : List ℕ) (w : World) (ms : List Moving) (m : Moving) → ArePromptMoves moments w ms → IsPromptMove (moments_then moments w ms) (run any_join words w ms) m → ArePromptMoves moments w (ms ++ m ∷ [])
prompt_more moments w [] m h p = (p, tt)
prompt_more moments w (x ∷ ms) m h p = (h.0, prompt_more (moments_after moments w (does any_join words w x)) (next any_join words w x) ms m h.1 p)

-- ---- steps in two parts

pub prompt_parts : (moments : List ℕ) (w : World) (first rest : List Moving) → ArePromptMoves moments w (first ++ rest) → ArePromptMoves moments w first × ArePromptMoves (moments_then moments w first) (run any_join words w first) rest
prompt_parts moments w [] rest h = (tt, h)
prompt_parts moments w (x ∷ first) rest h =
    let more = prompt_parts (moments_after moments w (does any_join words w x)) (next any_join words w x) first rest h.1 in
    ((h.0, more.0), more.1)

pub prompt_both : (moments : List ℕ) (w : World) (first rest : List Moving) → ArePromptMoves moments w first → ArePromptMoves (moments_then moments w first) (run any_join words w first) rest → ArePromptMoves moments w (first ++ rest)
prompt_both moments w [] rest h k = k
prompt_both moments w (x ∷ first) rest h k = (h.0, prompt_both (moments_after moments w (does any_join words w x)) (next any_join words w x) first rest h.1 k)

-- ---- moments are as many as requests, and stay

-- these are as many as the world's requests
abbrev pub AreOf : List ℕ → World → Type 0
AreOf moments w = length moments ≡ length w.requests

-- and so they are after a step
pub more_of : (moments : List ℕ) (w : World) (m : Moving) → AreOf moments w → AreOf (moments_after moments w (does any_join words w m)) (next any_join words w m)
more_of moments w m of =
    let e : Effect _ = does any_join words w m in
    let one = length-append moments (map (λ (r : Request). w.time) e.opens) in
    let two = length-map e.opens (λ (r : Request). w.time) in
    let three : length (shut w.requests e.closes ++ e.opens) ≡ length (shut w.requests e.closes) + length e.opens = length-append (shut w.requests e.closes) e.opens in
    let four : length (shut w.requests e.closes) ≡ length w.requests = length_shut w.requests e.closes in
    omega (arith, one, two, three, four, of)

pub many_of : (moments : List ℕ) (w : World) (ms : List Moving) → AreOf moments w → AreOf (moments_then moments w ms) (run any_join words w ms)
many_of moments w [] of = of
many_of moments w (m ∷ ms) of = many_of (moments_after moments w (does any_join words w m)) (next any_join words w m) ms (more_of moments w m of)

-- later moments begin with these
pub moments_grow : (moments : List ℕ) (w : World) (ms : List Moving) → (more : List ℕ) × (moments_then moments w ms ≡ moments ++ more)
moments_grow moments w [] = ([], sym (append-nil moments))
moments_grow moments w (m ∷ ms) =
    let new : List ℕ = map (λ (r : Request). w.time) (does any_join words w m).opens in
    let rest = moments_grow (moments ++ new) (next any_join words w m) ms in
    (new ++ rest.0, rest.1 ∙ append_assoc moments new rest.0)

-- so many of a list that begins with so many are these
pub take_front : (moments more : List ℕ) (n : ℕ) → length moments ≡ n → take n (moments ++ more) ≡ moments
take_front [] more zero e = refl
take_front [] more (suc n) e = absurd (omega (arith, e))
take_front (t ∷ moments) more zero e = absurd (omega (arith, e))
take_front (t ∷ moments) more (suc n) e = ap (λ (ts : List ℕ). t ∷ ts) (take_front moments more n (omega (arith, e)))
