-- What gets, heads and lists tell of versions' bytes.
use Rattle.std.specs.Prelude.{◌≡◌, ◌⊎◌, ℕ, false, Option, Some, List, [], ◌∷◌, ◌++◌, length, ⊤}
use Rattle.std.specs.List.{Contains}
use Rattle.md5.specs.Md5.{md5}
use Rattle.crdt_rows.specs.declared.version.Version.{Version}
use Rattle.cluster_machine.specs.declared.applied.Applied.{Applied}
use Rattle.cluster_machine.specs.declared.line.Line.{Line}
use Rattle.cluster_machine.specs.declared.line.Line.TheVariants.{Done, Listed}
use Rattle.cluster_machine.specs.declared.line.DoneWord.TheVariants as word
use Rattle.flow_model.specs.declared.flow.Coming.{Coming}
use Rattle.flow_model.specs.declared.flow.Content.{Content}
use Rattle.flow_model.specs.declared.flow.Wish.TheVariants as wish
use Rattle.flow_model.specs.Rows.{content_of}
use Rattle.flow_model.specs.Blocks.{is_long}
use Rattle.store_model.specs.Run.{State, start, Draw}
use Rattle.store_model.specs.Acts.{Act, acted, after_acts}

-- the lines that acts tell, in order
abbrev pub lines_told : State → List Act → List (Line Applied)
lines_told s [] = []
lines_told s (a ∷ as') = (acted s a).lines ++ lines_told (acted s a).state as'

-- a write drew this version, to make this content of its object
pub record IsWritten (draws : List Draw) (version : Version) (content : Content) : Type 0 where
  pub draw : Draw
  pub drawn : Contains draws draw
  pub version_is : draw.version ≡ version
  pub wish_is : draw.wish ≡ wish.Content content

-- a write drew its version for a stream, and makes its object of these bytes, which have come
pub record IsFilled (stream full : Draw) : Type 0 where
  pub request_is : stream.request ≡ full.request
  pub name_is : stream.name ≡ full.name
  pub version_is : stream.version ≡ full.version
  pub coming : Coming
  pub received : List ℕ
  pub wish_is : stream.wish ≡ wish.Stream coming
  pub makes : full.wish ≡ wish.Content (content_of coming received)

-- two draws are of one write: they are the same, or the one is of a stream and the other of the bytes that came in it
abbrev pub IsOneWrite : Draw → Draw → Type 0
IsOneWrite d e = (d ≡ e) ⊎ IsFilled d e ⊎ IsFilled e d

-- no two writes drew one version
abbrev pub AreDrawnOnce : List Draw → Type 0
AreDrawnOnce draws = (d e : Draw) → Contains draws d → Contains draws e → d.version ≡ e.version → IsOneWrite d e

-- size and MD5 are those of the bytes that were written as the version, unless these are kept in blocks
pub record SaysBytes (draws : List Draw) (version : Version) (size : Option ℕ) (digest : Option (List ℕ)) : Type 0 where
  pub content : Content
  pub was_written : IsWritten draws version content
  pub says : is_long content.body ≡ false → (size ≡ Some (length content.body)) × (digest ≡ Some (md5 content.body))

-- the size is that of the bytes that were written as the version
pub record SaysSize (draws : List Draw) (version : Version) (size : Option ℕ) : Type 0 where
  pub content : Content
  pub was_written : IsWritten draws version content
  pub says : size ≡ Some (length content.body)

-- what a line says of versions' bytes: a get's size and MD5, a head's size, and the size of each key of a list; other lines say nothing of them
abbrev pub IsAsWritten : List Draw → Line Applied → Type 0
IsAsWritten draws (Done q word.Get (Some v) size digest) = SaysBytes draws (record { ts = v.0; id = v.1 }) size digest
IsAsWritten draws (Done q word.Head (Some v) size digest) = SaysSize draws (record { ts = v.0; id = v.1 }) size
IsAsWritten draws (Listed q keys) = (e : List ℕ × ℕ × ℕ × ℕ) → Contains keys e → SaysSize draws (record { ts = e.1; id = e.2 }) (Some e.3)
IsAsWritten draws _ = ⊤

-- no two writes drew one version, and each line that acts tell is as was written
pub record GivesWhatWasWritten (acts : List Act) : Type 0 where
  pub once : AreDrawnOnce (after_acts start acts).draws
  pub lines : (line : Line Applied) → Contains (lines_told start acts) line → IsAsWritten (after_acts start acts).draws line
