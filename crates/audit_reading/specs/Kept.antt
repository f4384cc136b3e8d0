-- What the code keeps of the lines so far, and what was heard as definitions have it.
use Rattle.std.specs.Prelude.{◌≡◌, ℕ, ◌==◌, if◌then◌else◌, Bool, true, false, ⊤, Option, Some, None, option_map, [], ◌∷◌, ◌++◌}
use Rattle.std.specs.Ordering.{nat_cmp}
use Rattle.std.specs.BTreeMap.{get}
use Rattle.history_model.specs.declared.record.Answer.TheVariants.{Listed}
use Rattle.history_model.specs.declared.record.Record.{Record}
use Rattle.history_model.specs.declared.record.Record.TheVariants.{Finished}
use Rattle.audit_model.specs.Heard.{Asking, Heard, Listing, kind_at}
use Rattle.audit_reading.specs.declared.asking.Asking as asking
use Rattle.audit_reading.specs.declared.heard.Heard as kept
use Rattle.audit_reading.specs.declared.heard.Listing as awaited

-- what a request asks, without where its names lie
abbrev pub asked : asking.Asking → Asking
asked a = record { node = a.node; kind = a.kind; bucket = a.bucket.now; key = a.key.now }

-- a list whose keys are still to come
abbrev pub listing_of : awaited.Listing → Listing
listing_of l = record { request = l.request; left = l.left; keys = l.keys }

-- the requests that began are looked up alike, the records are the same, and so is the list whose keys are to come
pub record StandsFor (k : kept.Heard) (h : Heard) : Type 0 where
  pub kinds : (q : ℕ) → get nat_cmp k.kinds q ≡ kind_at h.asked q
  pub history : k.history ≡ h.history
  pub listing : option_map listing_of k.listing ≡ h.listing

-- a line that can be heard is told apart from one that can't, and what is kept then stands for what is heard then
abbrev pub IsNext : kept.Heard → Option Heard → Bool → Type 0
IsNext k (Some h) true = StandsFor k h
IsNext k None false = ⊤
IsNext k (Some h) false = ⊥
IsNext k None true = ⊥

-- whatever was heard before
abbrev pub Follows : kept.Heard → kept.Heard → (Heard → Option Heard) → Bool → Type 0
Follows old new step could = (h : Heard) → StandsFor old h → IsNext new (step h) could

-- one record more
abbrev pub with_record : kept.Heard → Record → kept.Heard
with_record k r = record k { history = k.history ++ r ∷ [] }

-- a list is complete where no key is left, else its keys are awaited
abbrev pub with_listing : kept.Heard → awaited.Listing → kept.Heard
with_listing k l = if l.left == 0 then with_record k (Finished l.request (Listed l.keys)) else record k { listing = Some l }
