-- The blocks of bytes, one after the other, and the rows that an upload stores of them, merged.
use Rattle.std.specs.Prelude.{ℕ, zero, suc, List, [], ◌∷◌, ◌++◌, length}
use Rattle.crdt_rows.specs.declared.version_row.BlockRef.{BlockRef}
use Rattle.crdt_rows.specs.declared.any_row.AnyRow.{AnyRow}
use Rattle.crdt_rows.specs.AnyRow.{any_join}
use Rattle.flow_model.specs.Blocks.{piece, piece_hash}
use Rattle.flow_model.specs.Rows.{version_row}

-- so many blocks of the bytes from block i on, one after the other
abbrev pub pieces : ℕ → List ℕ → ℕ → ℕ → List ℕ
pieces block body i zero = []
pieces block body i (suc n) = piece block body i ++ pieces block body (suc i) n

-- block i as a version row names it: its digest and its size
abbrev pub named_piece : ℕ → List ℕ → ℕ → BlockRef
named_piece block body i = record { hash = piece_hash block body i; size = length (piece block body i) }

-- so many blocks from block i on, as a version row names them
abbrev pub named_pieces : ℕ → List ℕ → ℕ → ℕ → List BlockRef
named_pieces block body i zero = []
named_pieces block body i (suc n) = named_piece block body i ∷ named_pieces block body (suc i) n

-- the version rows of the blocks from the first to this one, merged one after the other
abbrev pub merged_row : ℕ → ℕ → List ℕ → ℕ → AnyRow
merged_row id block body zero = version_row id block body 0
merged_row id block body (suc n) = any_join (merged_row id block body n) (version_row id block body (suc n))
