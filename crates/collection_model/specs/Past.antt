-- A version that is over: no node's row is below it, no message that may still bring a row is, and it is so old that no store phase is either.
use Rattle.std.specs.Prelude.{◌≡◌, ◌⊎◌, ℕ, ◌+◌, ◌<◌, false, Some}
use Rattle.crdt_core.specs.Members.{Has}
use Rattle.collection_model.specs.Site.{Site}
use Rattle.collection_model.specs.World.{Sent, World}
use Rattle.collection_model.specs.Action.{IsLive}

module _ {C E R V : Type 0} (site : Site C E R V) where
  -- the version is over
  pub record IsPast (w : World C R V) (v : V) : Type 0 where
    pub late : site.marks.time v + site.times.hour + site.times.hour < w.time
    pub nodes : (n : ℕ) (x : R) → w.row n ≡ Some x → site.marks.below x v ≡ false
    pub live : (s : Sent R) → Has w.shown s → IsLive site w s → site.marks.below s.row v ≡ false

  -- a row that some message may still bring, of a store phase or not
  abbrev pub MayCome : World C R V → Sent R → Type 0
  MayCome w s = (Has w.shown s ⊎ Has w.stored s) × IsLive site w s
