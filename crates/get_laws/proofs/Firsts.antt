-- What was given is the first of what is given in all.
use Rattle.std.proofs.Common.{ℕ, Option, Some, None, List, [], ◌++◌, refl, sym, ap, ◌∙◌, append-nil, append_assoc}
use Rattle.serve_model.specs.Stores.{Given, IsFirstOf}

pub first_same : (all : Option Given) → IsFirstOf all all
first_same None = tt
first_same (Some g) = (refl, refl, ([], append-nil g.bytes))

pub first_through : (first more all : Option Given) → IsFirstOf first more → IsFirstOf more all → IsFirstOf first all
first_through None more all a b = tt
first_through (Some f) None all a b = absurd a
first_through (Some f) (Some g) None a b = absurd b
first_through (Some f) (Some g) (Some h) a b =
    (a.0 ∙ b.0, a.1 ∙ b.1, (a.2.0 ++ b.2.0, sym (append_assoc f.bytes a.2.0 b.2.0) ∙ (ap (λ (bytes : List ℕ). bytes ++ b.2.0) a.2.1 ∙ b.2.1)))
