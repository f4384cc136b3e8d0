use Rattle.std.proofs.Common.{◌≡◌, ℕ, List, Option, Some, None, refl, ap}
use Rattle.http_model.specs.declared.head.Head.{Head}
use Rattle.http_model.specs.Heads.{IsReading}
use Rattle.http_model.proofs.HeadFacts.{head_unique}
use Rattle.serve_model.proofs.grammar.grammar_is_one.Goals as goal

same_heads : (front : List ℕ) (a b : Option Head) → IsReading front a → IsReading front b → a ≡ b
same_heads front None None x y = refl
same_heads front None (Some head) x y = absurd (x head y)
same_heads front (Some head) None x y = absurd (y head x)
same_heads front (Some head) (Some other) x y = ap Some (head_unique front head other x y)

pub returns : goal.returns
returns c = λ g h front. same_heads front (g.head_of front) (h.head_of front) (g.reads front) (h.reads front)
