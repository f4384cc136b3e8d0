-- A streamed put block by block.
use Rattle.std.proofs.Common.{◌≡◌, ℕ, suc, min, ◌+◌, ◌-◌, ◌*◌, ◌<◌, ◌≤◌, true, false, Some, List, [], ◌++◌, take, drop, length, ap, sym, ◌∙◌, arith}
use Rattle.std.proofs.Math.Seq.{take-add}
use Rattle.std.proofs.lemmas.List.{length-take}
use Rattle.crdt_rows.specs.declared.version.Version.{Version}
use Rattle.wire_messages.specs.declared.phase.Phase.TheVariants.{Store}
use Rattle.flow_model.specs.declared.flow.Name.{Name}
use Rattle.flow_model.specs.declared.flow.Content.{Content}
use Rattle.flow_model.specs.declared.flow.Wish.TheVariants as wish
use Rattle.flow_model.specs.declared.flow.Stage.TheVariants.{Receiving, Completing}
use Rattle.flow_model.specs.Blocks.{piece, has_piece}
use Rattle.flow_model.specs.Rows as row
use Rattle.flow_model.specs.Flow.{waiting}
use Rattle.flow_model.specs.Next.{stores, wanted}
use Rattle.flow_model.specs.Streams.{fed, finished}
use Rattle.flow_laws.specs.Pieces.{pieces}
use Rattle.flow_laws.specs.Streams.{coming_of, receiving, needing}
use Rattle.flow_laws.proofs.Cut.{cut, all}
use Rattle.flow_laws.proofs.Merged.{long, less}

-- so many blocks are the first bytes
first_pieces : (block : ℕ) (body : List ℕ) (i : ℕ) → pieces block body 0 i ≡ take (i * block) body
first_pieces block body i = let none : 0 * block ≡ 0 = omega arith in cut block body 0 i ∙ ap (λ k. take (i * block) (drop k body)) none

-- how many bytes they are
many : (block : ℕ) (body : List ℕ) (i : ℕ) → length (pieces block body 0 i) ≡ min (i * block) (length body)
many block body i = ap length (first_pieces block body i) ∙ length-take (i * block) body

-- one block more
one_more : (block : ℕ) (body : List ℕ) (i : ℕ) → pieces block body 0 i ++ piece block body i ≡ pieces block body 0 (suc i)
one_more block body i =
    let more : suc i * block ≡ i * block + block = omega arith in
    ap (λ xs. xs ++ piece block body i) (first_pieces block body i) ∙ (sym (take-add (i * block) block body) ∙ (ap (λ k. take k body) (sym more) ∙ sym (first_pieces block body (suc i))))

left : (block at size : ℕ) → min block (size - min at size) ≡ min block (size - at)
left block at size = omega arith

-- what is needed is the next block, or nothing where there is none
pub wants_next : (id block : ℕ) (c : Content) (i : ℕ) → wanted id block (coming_of c) (pieces block c.body 0 i) ≡ length (piece block c.body i)
wants_next id block c i =
    ap (λ n. min block (length c.body - n)) (many block c.body i) ∙ (left block (i * block) (length c.body) ∙ sym (long block c.body i))

within : (a b : ℕ) → a < b → min a b ≡ a
within a b h = omega arith

-- the next block is stored with the rows of the put
pub fed_next : (id block : ℕ) (name : Name) (version : Version) (c : Content) (i : ℕ) → has_piece block c.body i ≡ true →
    fed (needing id block name version c i) (piece block c.body i) ≡ Some (receiving id block name version c (suc i), Store (row.block_rows version.id block c.body i))
fed_next id block name version c i here =
    let at : length (pieces block c.body 0 i) ≡ i * block = many block c.body i ∙ within (i * block) (length c.body) (less (i * block) (length c.body) here) in
    ap (λ n. Some (waiting id block (Receiving name version (coming_of c) (pieces block c.body 0 i ++ piece block c.body i)) (Store (row.rows_at version.id n (piece block c.body i))))) at
    ∙ ap (λ body. Some (waiting id block (Receiving name version (coming_of c) body) (Store (row.block_rows version.id block c.body i)))) (one_more block c.body i)

-- where all have come the complete version is stored as by the put
pub finished_whole : (id block : ℕ) (name : Name) (version : Version) (c : Content) (i : ℕ) → has_piece block c.body i ≡ false →
    finished (needing id block name version c i) ≡ Some (waiting id block (Completing version (Some (row.meta_of c))) (stores (row.complete name version block (wish.Content c))))
finished_whole id block name version c i end =
    ap (λ body. (let k : Content = row.content_of (coming_of c) body in Some (waiting id block (Completing version (Some (row.meta_of k))) (stores (row.complete name version block (wish.Content k)))))) (all block c.body i end)
