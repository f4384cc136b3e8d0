-- What is known of an upload that is on its way.
use Rattle.std.specs.Prelude.{◌≡◌, ◌≤◌, ◌+◌, ℕ, List, length, Option, Some, None}
use Rattle.serve_model.specs.declared.upload.Upload.{Upload}
use Rattle.serve_model.specs.Stores.{Job}
use Rattle.serve_model.specs.Uploads.{IsLeft}

-- it needs no more than is still to come, and nothing more only once all has; no more came than was announced
abbrev pub IsNeedOf : Upload → List ℕ → Option ℕ → Type 0
IsNeedOf u came None = length came ≤ u.length
IsNeedOf u came (Some need) = (length came + need ≤ u.length) × (need ≡ 0 → length came ≡ u.length)

-- these bytes of it were taken, and it needs so many next
abbrev pub Takes : (Upload → List ℕ → Option ℕ → Type 0) → Upload → List ℕ → Option ℕ → Type 0
Takes takes u came need = takes u came need × IsNeedOf u came need

-- an upload is on its way, and needs so many bytes next
abbrev pub IsTaken : {S : Type 0} → (S → ℕ → Upload → List ℕ → Option ℕ → Type 0) → Option ℕ → Type 0
IsTaken {S} takes need = (s : S) × (time : ℕ) × (u : Upload) × (came : List ℕ) × takes s time u came need

-- whatever upload is on its way that needs so many bytes next
abbrev pub EachTaken : {S : Type 0} → (S → ℕ → Upload → List ℕ → Option ℕ → Type 0) → Option ℕ → (S → ℕ → Upload → List ℕ → Type 0) → Type 0
EachTaken {S} takes need Holds = (s : S) (time : ℕ) (u : Upload) (came : List ℕ) → takes s time u came need → Holds s time u came

-- an upload is on its way, whatever it needs
abbrev pub IsOnItsWay : {S : Type 0} → (S → ℕ → Upload → List ℕ → Option ℕ → Type 0) → Type 0
IsOnItsWay takes = (need : Option ℕ) × IsTaken takes need

-- whatever upload is on its way, each job that comes to giving it up
abbrev pub EachLeft : {S : Type 0} → (S → ℕ → Upload → List ℕ → Option ℕ → Type 0) → (S → ℕ → Job → Type 0) → Type 0
EachLeft {S} takes Holds = (s : S) (time : ℕ) (u : Upload) (came : List ℕ) (need : Option ℕ) (job : Job) → takes s time u came need → IsLeft u came need job → Holds s time job
