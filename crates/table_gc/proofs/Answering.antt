-- Where an answer leads, by what its collection is.
use Rattle.std.proofs.Common.{◌≡◌, ℕ, true, false, cond, Some, None, ap}
use Rattle.gc_model.specs.declared.collection.Collection.{Collection}
use Rattle.gc_model.specs.declared.collection.GcEnd.TheVariants.{Wait}
use Rattle.gc_model.specs.Rounds.{is_closed}
use Rattle.gc_model.specs.Collecting.{Open, numbered, end_of, end_at, answer_end, answered, closed, changed, told}

pub end_found : (number round node newest : ℕ) (o : Open) (v : Collection) → numbered number o ≡ Some v → answer_end number round node newest o ≡ end_of round node newest v
end_found number round node newest o v found = ap (end_at round node newest) found

pub end_nowhere : (number round node newest : ℕ) (o : Open) → numbered number o ≡ None → answer_end number round node newest o ≡ Wait
end_nowhere number round node newest o none = ap (end_at round node newest) none

module _ (number round node newest now : ℕ) (o : Open) where
  pub answered_closed : is_closed (answer_end number round node newest o) ≡ true → answered number round node newest now o ≡ closed number o
  answered_closed closes = ap (λ b. cond b (closed number o) (changed (told round node newest now) number o)) closes

  pub answered_open : is_closed (answer_end number round node newest o) ≡ false → answered number round node newest now o ≡ changed (told round node newest now) number o
  answered_open stays = ap (λ b. cond b (closed number o) (changed (told round node newest now) number o)) stays
