-- What is sent, in the words of the model.
use Rattle.std.specs.Prelude.{◌≡◌, ℕ, List, ◌++◌, map}
use Rattle.layout_roles.specs.declared.layout.Layout.{Layout}
use Rattle.layout_history.specs.Views.{known}
use Rattle.cluster_machine.specs.Node.{Packet as Told, says, shows, Post}
use Rattle.node_parts.specs.declared.packet.Packet.{Packet}
use Rattle.node_parts.specs.declared.packet.Packet.TheVariants.{Msg, View}
use Rattle.node_parts.specs.declared.packet.Envelope.{Envelope}

module _ {R : Type 0} where
  -- the packet in the words of the model
  abbrev pub told : Packet R → Told R Layout
  told (Msg m) = says m
  told (View v) = shows (known v)

  -- who sends it, and what to whom
  abbrev pub posted : Envelope R → ℕ × Post R Layout
  posted e = (e.from, record { to = e.to; packet = told e.packet })

  -- from `old` to `new` the node sent these, in order
  abbrev pub Posts : ℕ → List (Envelope R) → List (Envelope R) → List (Post R Layout) → Type 0
  Posts from old new posts = map posted new ≡ map posted old ++ map (λ p. (from, p)) posts
