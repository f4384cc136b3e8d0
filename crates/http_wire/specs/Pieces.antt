-- How the bytes of a head and of a body come, piece by piece.
use Rattle.std.specs.Prelude.{◌≡◌, ℕ, ◌+◌, ◌<◌, ◌≤◌, List, Some, None, length, take, Result, Ok, Err}
use Rattle.std.specs.Io.KnownBytes.{IsAtEnd}
use Rattle.std.specs.List.{list_any}
use Rattle.lab_outside.specs.Connection.{Connection}
use Rattle.http_wire.specs.declared.head.HeadEnd.{HeadEnd}
use Rattle.http_wire.specs.declared.head.HeadEnd.TheVariants.{Closed, TooLong, Bad, Failed, Memory}
use Rattle.http_wire.specs.declared.end.Search.{Search}
use Rattle.http_model.specs.Cut.{is_text, ends_head, least, too_long, unfinished, head_end, cut}
use Rattle.http_wire.specs.Reading.{Takes, Fails}

-- the bytes were searched as far as the search has come: no head ends there, and it knows whether there was text
pub record IsSearched (bytes : List ℕ) (search : Search) : Type 0 where
  pub within : search.place ≤ length bytes
  pub none : least (λ n. ends_head (take n bytes)) 0 (search.place + 1) ≡ None
  pub text : search.text ≡ list_any is_text (take search.place bytes)

-- how a piece is read that was answered so
abbrev pub ReadsPiece : List ℕ → Result ℕ HeadEnd → List ℕ → Connection → Connection → Type 0
ReadsPiece kept (Ok n) kept' c d = Takes kept kept' c d × (n ≡ 0 → IsAtEnd d.left)
ReadsPiece kept (Err Bad) kept' c d = ⊥
ReadsPiece kept (Err TooLong) kept' c d = ⊥
ReadsPiece kept (Err Closed) kept' c d = ⊥
ReadsPiece kept (Err Failed) kept' c d = Fails kept kept' c d
ReadsPiece kept (Err Memory) kept' c d = Takes kept kept' c d

-- how the end of a head is looked for, when it was answered so
abbrev pub SeesEnd : List ℕ → Result ℕ HeadEnd → List ℕ → Connection → Connection → Type 0
SeesEnd kept (Ok n) kept' c d = Takes kept kept' c d × (head_end kept' ≡ Some n)
SeesEnd kept (Err Bad) kept' c d = ⊥
SeesEnd kept (Err TooLong) kept' c d = Takes kept kept' c d × (cut kept' ≡ too_long)
SeesEnd kept (Err Closed) kept' c d = Takes kept kept' c d × (cut kept' ≡ unfinished) × IsAtEnd d.left
SeesEnd kept (Err Failed) kept' c d = Fails kept kept' c d
SeesEnd kept (Err Memory) kept' c d = Takes kept kept' c d

-- how the place of a body of `size` bytes is filled, to which `before` had come and `after` have come, when it was answered so
abbrev pub FillsPlace : ℕ → List ℕ → Result Unit HeadEnd → List ℕ → Connection → Connection → Type 0
FillsPlace size before (Ok done) after c d = Takes before after c d × (length after ≡ size)
FillsPlace size before (Err Bad) after c d = ⊥
FillsPlace size before (Err TooLong) after c d = ⊥
FillsPlace size before (Err Memory) after c d = ⊥
FillsPlace size before (Err Closed) after c d = Takes before after c d × (length after < size) × IsAtEnd d.left
FillsPlace size before (Err Failed) after c d = Fails before after c d × (length after < size)
