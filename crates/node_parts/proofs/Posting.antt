-- What was sent, one message after the other.
use Rattle.std.proofs.Common.{◌≡◌, ℕ, ◌+◌, ◌<◌, List, [], ◌∷◌, ◌++◌, map, length, get_or, take, sym, ap, ◌∙◌, append_assoc, append-nil}
use Rattle.std.proofs.lemmas.List.{map-append, take_more}
use Rattle.layout_roles.specs.declared.layout.Layout.{Layout}
use Rattle.wire_messages.specs.declared.message.Message.{Message}
use Rattle.cluster_machine.specs.Node.{Post, says}
use Rattle.cluster_machine.specs.Phases.{to_each}
use Rattle.node_parts.specs.declared.packet.Envelope.{Envelope}
use Rattle.node_parts.specs.Posts.{posted, Posts}

module _ {R : Type 0} where
  -- nothing was sent
  pub posts_none : (from : ℕ) (out : List (Envelope R)) → Posts from out out []
  posts_none from out = sym (append-nil (map posted out))

  pub posts_more : (from : ℕ) (old mid new : List (Envelope R)) (first then : List (Post R Layout)) → Posts from old mid first → Posts from mid new then → Posts from old new (first ++ then)
  posts_more from old mid new first then p q =
      q
      ∙ ap (λ sent. sent ++ map (λ m. (from, m)) then) p
      ∙ append_assoc (map posted old) (map (λ m. (from, m)) first) (map (λ m. (from, m)) then)
      ∙ ap (λ sent. map posted old ++ sent) (sym (map-append (λ m. (from, m)) first then))

  to_each_more : (nodes : List ℕ) (i d : ℕ) (m : Message R) → i < length nodes → to_each {L = Layout} (take (i + 1) nodes) m ≡ to_each (take i nodes) m ++ to_each (get_or nodes i d ∷ []) m
  to_each_more nodes i d m lt = ap (λ ns. to_each ns m) (take_more nodes i d lt) ∙ map-append (λ n. record { to = n; packet = says m }) (take i nodes) (get_or nodes i d ∷ [])

  -- the message went to one node more
  pub sent_to_next : (from : ℕ) (old mid new : List (Envelope R)) (nodes : List ℕ) (i d : ℕ) (m shared : Message R) → i < length nodes → shared ≡ m →
      Posts from old mid (to_each (take i nodes) m) → Posts from mid new (to_each (get_or nodes i d ∷ []) shared) → Posts from old new (to_each (take (i + 1) nodes) m)
  sent_to_next from old mid new nodes i d m shared lt same p q =
      posts_more from old mid new (to_each (take i nodes) m) (to_each (get_or nodes i d ∷ []) shared) p q
      ∙ ap (λ c. map posted old ++ map (λ m. (from, m)) (to_each (take i nodes) m ++ to_each (get_or nodes i d ∷ []) c)) same
      ∙ ap (λ posts. map posted old ++ map (λ m. (from, m)) posts) (sym (to_each_more nodes i d m lt))

  -- and so to all of them
  pub sent_to_all : (from : ℕ) (old new : List (Envelope R)) (nodes so_far : List ℕ) (m : Message R) → so_far ≡ nodes →
      Posts from old new (to_each so_far m) → Posts from old new (to_each nodes m)
  sent_to_all from old new nodes so_far m all p = p ∙ ap (λ ns. map posted old ++ map (λ m. (from, m)) (to_each ns m)) all
