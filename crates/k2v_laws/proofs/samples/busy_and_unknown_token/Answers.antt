use Rattle.std.proofs.Common.{◌≡◌, Bool, true, false, if◌then◌else◌, Some, None, refl, ap}
use Rattle.std.specs.Ordering.{is_eq}
use Rattle.std.specs.Cmp.{tied_itself}
use Rattle.k2v_rows.specs.Row.{ItemKey}
use Rattle.k2v_rows.specs.RowLaws.{item_total}
use Rattle.cluster_machine.specs.Layouts.{layouts}
use Rattle.cluster_machine.specs.World.{is_member_at}
use Rattle.k2v_model.specs.declared.line.ItemRefusal.TheVariants.{Busy}
use Rattle.k2v_model.specs.Orders.{key_of, is_same_key}
use Rattle.k2v_model.specs.Run.{refusal, unless_busy}
use Rattle.k2v_laws.specs.Requests.{item, writing, open_write, with_requests}
use Rattle.k2v_laws.proofs.samples.busy_and_unknown_token.Goals as goal

-- what comes of a test that passes
where_true : {A : Type 0} (b : Bool) (x y z : A) → b ≡ true → x ≡ z → (if b then x else y) ≡ z
where_true true x y z h e = e
where_true false x y z h e = cc

abbrev key : ItemKey
key = key_of item

same : is_same_key key key ≡ true
same = ap is_eq (tied_itself item_total key)

pub returns-clause-busy : goal.returns-clause-busy
returns-clause-busy c w member =
    where_true (is_member_at layouts w 1) _ _ _ member (found (is_same_key key key) same) where
      found : (b : Bool) → b ≡ true → unless_busy (with_requests w open_write) 1 (writing 0) (if b then Some 1 else None) ≡ refusal (with_requests w open_write) (Busy 1)
      found true h = refl
      found false h = cc

pub returns-clause-elsewhere : goal.returns-clause-elsewhere
returns-clause-elsewhere c w member = where_true (is_member_at layouts w 2) _ _ _ member refl

pub returns-clause-read : goal.returns-clause-read
returns-clause-read c w member = where_true (is_member_at layouts w 1) _ _ _ member refl

pub returns-clause-unknown : goal.returns-clause-unknown
returns-clause-unknown c w member = where_true (is_member_at layouts w 2) _ _ _ member refl

pub returns-clause-unfinished : goal.returns-clause-unfinished
returns-clause-unfinished c w member = where_true (is_member_at layouts w 2) _ _ _ member refl

pub returns-clause-finished : goal.returns-clause-finished
returns-clause-finished c w member =
    where_true (is_member_at layouts w 2) _ _ _ member
    (where_true (is_same_key key key) _ _ _ same refl)
