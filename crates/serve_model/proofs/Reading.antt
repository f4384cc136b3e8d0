-- A reader of heads.
use Rattle.std.proofs.Common.{◌≡◌, ℕ, ◌<◌, ◌≤◌, ◌⊎◌, inl, inr, List, [], ◌∷◌, Option, Some, None, length, refl, ap, arith}
use Rattle.std.proofs.lemmas.Bool.{cases_lt}
use Rattle.httparse.specs.Grammar.{RequestHead, ReadsRequest}
use Rattle.httparse.specs.Pieces.{Then, RequestStart, Section}
use Rattle.httparse.proofs.GrammarLemmas.{request_tree, request_head, request_pieces, request_from_pieces, request_unique}
use Rattle.http_model.specs.declared.head.Head.{Head}
use Rattle.http_model.specs.Heads.{header_limit, said, IsHead, IsNoHead, IsReading}
use Rattle.serve_model.specs.Talk.{Grammar}
use Rattle.serve_model.proofs.Decisions.{Decision, begins, lacks}
use Rattle.serve_model.proofs.Pieces.{head_decided}

-- a head, or that there is none
data Finding (front : List ℕ) : Type 0 where
  found : (head : Head) → IsHead front head → Finding front
  missing : IsNoHead front → Finding front

few : (front : List ℕ) (h : RequestHead) → ReadsRequest front h [] → (header_limit < length h.fields) ⊎ (length h.fields ≤ header_limit) → Finding front
few front h reads (inr fits) = found (said h) (record { tree = h; reads = reads; fits = fits; says = refl })
few front h reads (inl many) =
    missing (λ head x.
    let same : x.tree ≡ h = (request_unique front x.tree h [] [] x.reads reads).0 in
    let fields : length x.tree.fields ≡ length h.fields = ap (λ (t : RequestHead). length t.fields) same in
    omega (arith, x.fits))

whole : (front : List ℕ) (h : RequestHead) (rest : List ℕ) → ReadsRequest front h rest → Finding front
whole front h [] reads = few front h reads (cases_lt header_limit (length h.fields))
whole front h (b ∷ rest) reads = missing (λ head x. nil_is_cons b rest (request_unique front x.tree h [] (b ∷ rest) x.reads reads).1)
  where
    nil_is_cons : (y : ℕ) (ys : List ℕ) → [] ≡ y ∷ ys → ⊥
    nil_is_cons y ys e = cc

find_head : (front : List ℕ) → Decision (Then RequestStart Section) front → Finding front
find_head front (begins t rest h) = whole front (request_head t) rest (request_from_pieces front t rest h)
find_head front (lacks none) = missing (λ head x. none (request_tree x.tree) [] (request_pieces front x.tree [] x.reads))

head_in : (front : List ℕ) → Finding front → Option Head
head_in front (found head is) = Some head
head_in front (missing none) = None

head_is : (front : List ℕ) (f : Finding front) → IsReading front (head_in front f)
unfolding head_in
head_is front (found head is) = is
head_is front (missing none) = none

pub reader : Grammar
reader = record { head_of = λ front. head_in front (find_head front (head_decided front)); reads = λ front. head_is front (find_head front (head_decided front)) }
