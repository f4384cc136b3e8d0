-- What is shown of the first rows, and what is still to come.
use Rattle.std.specs.Prelude.{◌≡◌, ℕ, ◌-◌, ◌≤◌, Bool, not, ◌&&◌, ◌==◌, nat_lt, MatchBool, Option, List, ◌∷◌, ◌++◌, length, take, slice_get}
use Rattle.s3_model.specs.declared.page.Entry.{Entry}
use Rattle.s3_model.specs.declared.page.Page.{Page}
use Rattle.s3_model.specs.Page.{once_after}

-- the last entry
abbrev pub last_of : List Entry → Option Entry
last_of es = slice_get es (length es - 1)

-- what is shown so far, and what is to come, is all; and it isn't more than are asked
pub record IsSoFar (max : ℕ) (all shown come : List Entry) : Type 0 where
  pub whole : shown ++ once_after (last_of shown) come ≡ all
  pub few : length shown ≤ max

-- the page of these entries
abbrev pub page_from : ℕ → List Entry → Page
page_from max all = record { entries = take max all; truncated = nat_lt max (length all) && not (max == 0) }

-- one entry more: it is shown, or needn't be; or there is no room for it, and the page is full
abbrev pub Shows : ℕ → List Entry → Entry → Bool → List Entry → Type 0
Shows max old e fits new = (all come : List Entry) → IsSoFar max all old (e ∷ come) →
    MatchBool fits (IsSoFar max all new come) (record { entries = new; truncated = not (max == 0) } ≡ page_from max all)
