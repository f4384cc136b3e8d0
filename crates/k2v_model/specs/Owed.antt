-- What reads owe to the writes of an item.
use Rattle.std.specs.Prelude.{◌≡◌, ◌≤◌, ◌<◌, ◌⊎◌, ℕ, true, Option, Some, None, List}
use Rattle.std.specs.List.{Contains}
use Rattle.k2v_rows.specs.declared.value.K2vValue.{K2vValue}
use Rattle.k2v_rows.specs.declared.k2v_row.K2vRow.{K2vRow}
use Rattle.k2v_rows.specs.Row.{ItemKey, item_key, discard_at, value_of, can_put}
use Rattle.cluster_machine.specs.Node.{Question, read}
use Rattle.cluster_machine.specs.World.{numbered}
use Rattle.k2v_model.specs.declared.order.Item.{Item}
use Rattle.k2v_model.specs.declared.order.Ask.TheVariants.{Write}
use Rattle.k2v_model.specs.Orders.{key_of, empty_row}
use Rattle.k2v_model.specs.Run.{ItemRequest, reading, shown, is_stored, token_at, State}

-- request q is a write of the item with this key, and began at this node
pub record IsWrite (requests : List ItemRequest) (q : ℕ) (key : ItemKey) (node : ℕ) : Type 0 where
  pub one : ItemRequest
  pub is_there : numbered requests q ≡ Some one
  pub key_is : key_of one.order.item ≡ key
  pub node_is : one.node ≡ node
  pub value : K2vValue
  pub token : ℕ
  pub writes : one.order.ask ≡ Write value token

-- the write has finished
abbrev pub WasAcknowledged : {requests : List ItemRequest} {q : ℕ} {key : ItemKey} {node : ℕ} → IsWrite requests q key node → Type 0
WasAcknowledged w = is_stored w.one.stage ≡ true

-- request q is a read of the item with this key that finished with this row, or none, when so many requests had begun
pub record HasRead (requests : List ItemRequest) (q : ℕ) (key : ItemKey) (given : Option K2vRow) (begun : ℕ) : Type 0 where
  pub one : ItemRequest
  pub is_there : numbered requests q ≡ Some one
  pub key_is : key_of one.order.item ≡ key
  pub stage_is : one.stage ≡ shown given begun

-- what was read shows the write of this node with this number: its value, or that it deleted
abbrev pub Shows : Option K2vRow → ℕ → ℕ → Type 0
Shows None node q = ⊥
Shows (Some row) node q = (value : K2vValue) × (value_of row node q ≡ Some value)

-- what was read shows this value of the write of this node with this number
abbrev pub ShowsValue : Option K2vRow → ℕ → ℕ → K2vValue → Type 0
ShowsValue None node q value = ⊥
ShowsValue (Some row) node q value = value_of row node q ≡ Some value

-- a write of the item, one of the first so many requests, took its token from a read that showed write q of this node
pub record IsReplaced (requests : List ItemRequest) (key : ItemKey) (node q begun : ℕ) : Type 0 where
  pub by : ℕ
  pub at : ℕ
  pub write : IsWrite requests by key at
  pub in_time : by ≤ begun
  pub given : Option K2vRow
  pub then : ℕ
  pub was_read : HasRead requests write.token key given then
  pub shows : Shows given node q

-- where a row shows a write of a node it shows each acknowledged write of its item at that node with a smaller number,
-- or its discard time covers it
abbrev pub IsWhole : List ItemRequest → K2vRow → Type 0
IsWhole requests row =
    (node later q : ℕ) → Shows (Some row) node later → q < later →
    (w : IsWrite requests q (item_key row) node) → WasAcknowledged w →
    Shows (Some row) node q ⊎ (q ≤ discard_at row node)

-- so is each row that a read phase gave
abbrev pub AreWhole : State → Type 0
AreWhole s = (question : Question K2vRow) (row : K2vRow) → Contains s.world.reads (read question (Some row)) → IsWhole s.requests row

-- a finished read shows each write of its item that was acknowledged before it began, or some write that began before it
-- finished replaced it
abbrev pub ReadsCover : State → Type 0
ReadsCover s =
    (r : ℕ) (key : ItemKey) (given : Option K2vRow) (begun : ℕ) (one : HasRead s.requests r key given begun) →
    (q node : ℕ) → IsWrite s.requests q key node → one.one.before q ≡ true →
    Shows given node q ⊎ IsReplaced s.requests key node q begun

-- each write that a finished read shows is one of its item that began before the read finished, and wrote what is shown
abbrev pub ReadsShowWrites : State → Type 0
ReadsShowWrites s =
    (r : ℕ) (key : ItemKey) (given : Option K2vRow) (begun : ℕ) → HasRead s.requests r key given begun →
    (node q : ℕ) (value : K2vValue) → ShowsValue given node q value →
    (w : IsWrite s.requests q key node) × (w.value ≡ value) × (q ≤ begun)

-- no write that a finished read shows was replaced by a write that was acknowledged before the read began
abbrev pub ReadsLeaveReplaced : State → Type 0
ReadsLeaveReplaced s =
    (r : ℕ) (key : ItemKey) (given : Option K2vRow) (begun : ℕ) (one : HasRead s.requests r key given begun) →
    (u at : ℕ) (w : IsWrite s.requests u key at) → one.one.before u ≡ true →
    (earlier : Option K2vRow) (then : ℕ) → HasRead s.requests w.token key earlier then →
    (node q : ℕ) → Shows earlier node q → Shows given node q → ⊥

-- a write of the item at this node, with this number and token, may be made on the row without writes, and on each row of the
-- item that some read phase gave
abbrev pub HasPlace : State → Item → ℕ → ℕ → ℕ → Type 0
HasPlace s item node q token =
    let times = token_at (numbered s.requests token) in
    (can_put (empty_row item) node q times ≡ true) ×
    ((question : Question K2vRow) (row : K2vRow) → Contains s.world.reads (read question (Some row)) → item_key row ≡ key_of item →
    can_put row node q times ≡ true)

-- so may each write that still asks for its item's row
abbrev pub WritesHavePlace : State → Type 0
WritesHavePlace s =
    (q : ℕ) (key : ItemKey) (node : ℕ) (w : IsWrite s.requests q key node) → w.one.stage ≡ reading →
    HasPlace s w.one.order.item node q w.token
