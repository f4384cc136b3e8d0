-- The words of a line, and what the first one says.
use Rattle.std.specs.Prelude.{◌≡◌, ℕ, List, [], ◌∷◌, codes, decimal, map}
use Rattle.std.specs.Borrow.{Bor}
use Rattle.text_model.specs.Grammar.{IsFrom, IsIn, bucket, key, prefix, prefix_word, object_range}
use Rattle.schedule_text.specs.declared.line_kind.Kind.{Kind}
use Rattle.schedule_text.specs.declared.line_kind.Kind.TheVariants as kind

-- the bytes of some words
abbrev pub texts : List (Bor (List ℕ)) → List (List ℕ)
texts words = map (λ word. word.now) words

-- the name of an event
abbrev pub kind_text : Kind → List ℕ
kind_text kind.Trio = codes "trio"
kind_text kind.Block = codes "block"
kind_text kind.Bucket = codes "bucket"
kind_text kind.Role = codes "role"
kind_text kind.Redundancy = codes "redundancy"
kind_text kind.Apply = codes "apply"
kind_text kind.Tick = codes "tick"
kind_text kind.Skew = codes "skew"
kind_text kind.Put = codes "put"
kind_text kind.Get = codes "get"
kind_text kind.Head = codes "head"
kind_text kind.Delete = codes "delete"
kind_text kind.Copy = codes "copy"
kind_text kind.List = codes "list"
kind_text kind.Deliver = codes "deliver"
kind_text kind.Lose = codes "lose"
kind_text kind.Drain = codes "drain"
kind_text kind.Expire = codes "expire"
kind_text kind.Restart = codes "restart"
kind_text kind.Gossip = codes "gossip"
kind_text kind.Ack = codes "ack"
kind_text kind.Sync = codes "sync"
kind_text kind.SyncAck = codes "syncack"
kind_text kind.Clean = codes "clean"
kind_text kind.Work = codes "work"
kind_text kind.Repair = codes "repair"
kind_text kind.Collect = codes "collect"

-- two words name a bucket and a key
abbrev pub IsObject : List (List ℕ) → List ℕ × List ℕ → Type 0
IsObject words object = (words ≡ object.0 ∷ object.1 ∷ []) × IsIn (bucket object.0) × IsIn (key object.1)

-- three words name a node, a bucket and a key
abbrev pub IsPlace : List (List ℕ) → ℕ × List ℕ × List ℕ → Type 0
IsPlace words place = (words ≡ decimal place.0 ∷ place.1 ∷ place.2 ∷ []) × IsIn (object_range place.0 place.1 place.2)

-- two words name a bucket and a prefix
abbrev pub IsPrefixed : List (List ℕ) → List ℕ × List ℕ → Type 0
IsPrefixed words names = (words ≡ names.0 ∷ prefix_word names.1 ∷ []) × IsIn (bucket names.0) × IsIn (prefix names.1)

-- two words spell a size and a first byte
abbrev pub IsFilling : List (List ℕ) → ℕ × ℕ → Type 0
IsFilling words filling = (words ≡ decimal filling.0 ∷ decimal filling.1 ∷ []) × IsFrom 0 65536 filling.0 × IsFrom 0 250 filling.1
