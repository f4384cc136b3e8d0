use Rattle.std.proofs.Common.{◌≡◌, ◌++◌, map}
use Rattle.table_model.specs.Rows.{live_blocks}
use Rattle.std.specs.Map.{keys_of}
use Rattle.table_store.proofs.Partitions.{walked}
use Rattle.table_store.proofs.shelf.push_blocks.Given as goal

abbrev pub invariant-loop-key : goal.invariant-loop-key
invariant-loop-key g l =
    map (λ hash. hash.0) l.hashes.items ++ live_blocks g.S.Schema.words (walked l.p (keys_of l.key-iterator) l.shelf.rows.entries)
    ≡ map (λ hash. hash.0) l.fn.hashes.items ++ live_blocks g.S.Schema.words (walked l.p (keys_of l.initial.key-iterator) l.shelf.rows.entries)
