-- Finished reads that aren't fresh, and the one of them that finished first.
use Rattle.std.specs.Prelude.{◌≡◌, ◌≤◌, ℕ, IsTrue, Some, List}
use Rattle.history_model.specs.declared.record.Kind.{Kind}
use Rattle.history_model.specs.declared.record.Answer.{Answer}
use Rattle.history_model.specs.declared.record.Record.{Record}
use Rattle.history_model.specs.Record.{is_read, finish, BeganAt}
use Rattle.history_model.specs.Fresh.{IsFreshRead}

-- request q began at place i as a read, finished at place j, and isn't fresh
pub record IsStaleRead (h : List Record) (i j q : ℕ) : Type 0 where
  pub kind : Kind
  pub bucket : List ℕ
  pub own : List ℕ
  pub answer : Answer
  pub reads : IsTrue (is_read kind)
  pub began : BeganAt h i q kind bucket own
  pub finished : finish h i q ≡ Some (j, answer)
  pub stale : ¬ IsFreshRead h i j kind bucket own answer

-- request q's read isn't fresh, and no other that isn't finished before it
pub record IsFirstStale (h : List Record) (q : ℕ) : Type 0 where
  pub began : ℕ
  pub finished : ℕ
  pub one : IsStaleRead h began finished q
  pub first : (i j other : ℕ) → IsStaleRead h i j other → finished ≤ j
