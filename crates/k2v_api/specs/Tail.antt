-- What is written after the last event, and when it can't be.
use Rattle.std.specs.Prelude.{◌≡◌, ℕ, List, IsTrue, flat_map}
use Rattle.std.specs.List.{list_any}
use Rattle.cluster_machine.specs.Ties as ties
use Rattle.k2v_text.specs.Transcript.{line_at, tail_text}
use Rattle.k2v_replay.specs.Replay.{is_unshown, IsUnshown}
use Rattle.k2v_world.specs.declared.world.ItemWorld.{ItemWorld}
use Rattle.k2v_world.specs.Stands.{IsItems}

-- whatever state the code's world of items stands for, this is the line of node n
abbrev pub ShowsNode : ItemWorld → ℕ → List ℕ → Type 0
ShowsNode items n text = ties.Steps IsItems items (λ s. text ≡ line_at s.world n)

-- whatever state it stands for, these are the lines of these nodes
abbrev pub ShowsNodes : ItemWorld → List ℕ → List ℕ → Type 0
ShowsNodes items nodes text = ties.Steps IsItems items (λ s. text ≡ flat_map (line_at s.world) nodes)

-- whatever state it stands for, node n can't be shown
abbrev pub CannotShow : ItemWorld → ℕ → Type 0
CannotShow items n = ties.Steps IsItems items (λ s. IsTrue (is_unshown s.world n))

-- whatever state it stands for, one of these nodes can't
abbrev pub CannotShowSome : ItemWorld → List ℕ → Type 0
CannotShowSome items nodes = ties.Steps IsItems items (λ s. IsTrue (list_any (is_unshown s.world) nodes))

-- whatever state it stands for, one of nodes 1 to 16 can't
abbrev pub CannotTell : ItemWorld → Type 0
CannotTell items = ties.Steps IsItems items IsUnshown

-- whatever state it stands for, this is what is written after so many events
abbrev pub TellsTail : ItemWorld → ℕ → List ℕ → Type 0
TellsTail items events text = ties.Steps IsItems items (λ s. text ≡ tail_text events s)
