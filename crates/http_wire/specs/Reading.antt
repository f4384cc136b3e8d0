-- What the calls of this crate take from a connection, what they answer, and what they keep.
use Rattle.std.specs.Prelude.{◌≡◌, ℕ, ◌<◌, ◌≤◌, List, ◌++◌, length, Option, Some, None, Result, Ok, Err, ⊤}
use Rattle.std.specs.Io.KnownBytes.{Consumes, IsAtEnd}
use Rattle.lab_outside.specs.Connection.{Connection}
use Rattle.lab_outside.specs.Rose.{Rose}
use Rattle.http_model.specs.declared.head.Head.{Head}
use Rattle.http_wire.specs.declared.head.HeadEnd.{HeadEnd}
use Rattle.http_wire.specs.declared.head.HeadEnd.TheVariants.{Closed, TooLong, Bad, Failed, Memory}
use Rattle.http_model.specs.Cut.{ends, too_long, unfinished, cut}
use Rattle.http_model.specs.Heads.{IsHead, IsNoHead}

-- `seen` is what was kept and then the bytes that were taken from the connection, of which nothing else changed
pub record Takes (kept seen : List ℕ) (c d : Connection) : Type 0 where
  pub taken : List ℕ
  pub seen_is : seen ≡ kept ++ taken
  pub consumed : Consumes c.left d.left taken
  pub unwritten : d.written ≡ c.written
  pub steady : d.faults ≡ c.faults

-- the same, but that a read failed then, and the connection's count of faults rose
abbrev pub Fails : List ℕ → List ℕ → Connection → Connection → Type 0
Fails kept seen c d = Takes kept seen c (record d { faults = c.faults }) × Rose c.faults d.faults × (c.faults ≤ d.faults)

-- the bytes were seen up to the head's end, and those read too far are kept
pub record FindsHead (kept kept' : List ℕ) (P : List ℕ → Type 0) (c d : Connection) : Type 0 where
  pub seen : List ℕ
  pub takes : Takes kept seen c d
  pub front : List ℕ
  pub cut_is : cut seen ≡ ends front kept'
  pub head : P front

-- how a head is read that was answered so
abbrev pub ReadsHead : List ℕ → Result Head HeadEnd → List ℕ → Connection → Connection → Type 0
ReadsHead kept (Ok head) kept' c d = FindsHead kept kept' (λ front. IsHead front head) c d
ReadsHead kept (Err Bad) kept' c d = FindsHead kept kept' IsNoHead c d
ReadsHead kept (Err TooLong) kept' c d = Takes kept kept' c d × (cut kept' ≡ too_long)
ReadsHead kept (Err Closed) kept' c d = Takes kept kept' c d × (cut kept' ≡ unfinished) × IsAtEnd d.left
ReadsHead kept (Err Failed) kept' c d = Fails kept kept' c d
ReadsHead kept (Err Memory) kept' c d = Takes kept kept' c d

-- the bytes are a body of this length and then the rest
pub record IsBody (bytes : List ℕ) (size : ℕ) (body rest : List ℕ) : Type 0 where
  pub whole : bytes ≡ body ++ rest
  pub size_is : length body ≡ size

-- the bytes were seen up to the body's end, and those read too far are kept
pub record FindsBody (kept : List ℕ) (size : ℕ) (body kept' : List ℕ) (c d : Connection) : Type 0 where
  pub seen : List ℕ
  pub takes : Takes kept seen c d
  pub body_is : IsBody seen size body kept'

-- how a body of this length is read that was answered so
abbrev pub ReadsBody : List ℕ → ℕ → Result (List ℕ) HeadEnd → List ℕ → Connection → Connection → Type 0
ReadsBody kept size (Ok body) kept' c d = FindsBody kept size body kept' c d
ReadsBody kept size (Err Bad) kept' c d = ⊥
ReadsBody kept size (Err TooLong) kept' c d = ⊥
ReadsBody kept size (Err Closed) kept' c d = Takes kept kept' c d × (length kept' < size) × IsAtEnd d.left
ReadsBody kept size (Err Failed) kept' c d = Fails kept kept' c d
ReadsBody kept size (Err Memory) kept' c d = Takes kept kept' c d × (kept' ≡ kept)

-- what all the bytes begin with that are kept or left, for a head that was answered so; `rest` are those that are kept or left then
abbrev pub IsHeadOf : List ℕ → Result Head HeadEnd → List ℕ → Type 0
IsHeadOf all (Ok head) rest = (front : List ℕ) × (cut all ≡ ends front rest) × IsHead front head
IsHeadOf all (Err Bad) rest = (front : List ℕ) × (cut all ≡ ends front rest) × IsNoHead front
IsHeadOf all (Err TooLong) rest = (cut all ≡ too_long) × (rest ≡ all)
IsHeadOf all (Err Closed) rest = (cut all ≡ unfinished) × (rest ≡ all)
IsHeadOf all (Err Failed) rest = rest ≡ all
IsHeadOf all (Err Memory) rest = rest ≡ all

-- the same for a body
abbrev pub IsBodyOf : List ℕ → ℕ → Result (List ℕ) HeadEnd → List ℕ → Type 0
IsBodyOf all size (Ok body) rest = IsBody all size body rest
IsBodyOf all size (Err Bad) rest = ⊥
IsBodyOf all size (Err TooLong) rest = ⊥
IsBodyOf all size (Err Closed) rest = (length all < size) × (rest ≡ all)
IsBodyOf all size (Err Failed) rest = rest ≡ all
IsBodyOf all size (Err Memory) rest = rest ≡ all

-- where the bytes left are told before, they are told after it, and all the bytes before and after are related so
abbrev pub on_all : (List ℕ → List ℕ → Type 0) → List ℕ → List ℕ → Option (List ℕ) → Option (List ℕ) → Type 0
on_all P kept kept' None new = ⊤
on_all P kept kept' (Some left) None = ⊥
on_all P kept kept' (Some left) (Some left') = P (kept ++ left) (kept' ++ left')

-- the same of a connection: what was kept and left before, and what is kept and left after
abbrev pub OnAll : (List ℕ → List ℕ → Type 0) → List ℕ → List ℕ → Connection → Connection → Type 0
OnAll P kept kept' c d = on_all P kept kept' c.left d.left
