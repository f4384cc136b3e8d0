-- How far the answer to a get on its way is written.
use Rattle.std.specs.Prelude.{◌≡◌, ⊤, ℕ, ◌≤◌, Bool, List, ◌++◌, Option, Some, None, Result, Ok, Err}
use Rattle.lab_outside.specs.declared.ports.Failed.{Failed as LinkFailed}
use Rattle.lab_outside.specs.Connection.{Connection, WritesWhole}
use Rattle.lab_outside.specs.Rose.{Rose}
use Rattle.lab_outside.specs.Bytes.{Wrote, WrotePrefix}
use Rattle.flow_model.specs.declared.flow.FlowEnd.{FlowEnd}
use Rattle.s3_model.specs.declared.ask.Ask.{Ask}
use Rattle.s3_model.specs.declared.ask.Ask.TheVariants as ask
use Rattle.s3_model.specs.declared.ask.Range.{Range}
use Rattle.s3_model.specs.Answer.{found_text}
use Rattle.s3_answer.specs.declared.portion.Portion.{Portion}
use Rattle.s3_answer.specs.Portions.{taken, portion_of}
use Rattle.serve_model.specs.declared.answer.Answer.{Answer}
use Rattle.serve_model.specs.declared.answer.Answer.TheVariants as answer
use Rattle.serve_model.specs.declared.request.Request.{Request}
use Rattle.serve_model.specs.Stores.{Given, IsFirstOf, given_with}
use Rattle.serve_model.specs.declared.served.ServeFault.{ServeFault}
use Rattle.serve_model.specs.declared.served.ServeFault.TheVariants.{Memory}
use Rattle.serve_model.specs.Judging.{answer_to}
use Rattle.serve_model.specs.Serving.{Says}
use Rattle.serve_loop.specs.declared.giving.Progress.{Progress}
use Rattle.serve_loop.specs.declared.giving.Progress.TheVariants.{Waiting, Refused, Writing, Failed}
use Rattle.serve_loop.specs.Gets.{with_piece, with_given, GaveAll}

-- the ask is a get of this range of an object, or of all of it
abbrev pub IsGetOf : Option Range → Ask → Type 0
IsGetOf range a = (bucket : List ℕ) × (key : List ℕ) × (a ≡ ask.Get bucket key range)

-- the range that is asked
abbrev pub range_of : Ask → Option Range
range_of (ask.Get bucket key range) = range
range_of (ask.Head bucket key range) = range
range_of _ = None

-- the ask isn't a get
abbrev pub IsNoGet : Ask → Type 0
IsNoGet (ask.Get bucket key range) = ⊥
IsNoGet _ = ⊤

-- bytes were sent, and then an answer goes on with a portion of those to come; or a first part of them was, and no more
pub data Sends (portion : Portion) (bytes : List ℕ) (progress : Progress) (c d : Connection) : Type 0 where
  sent : progress ≡ Writing portion → WritesWhole {E = LinkFailed} (Ok tt) bytes c d → Sends portion bytes progress c d
  unsent : (failed : LinkFailed) → progress ≡ Failed → WritesWhole (Err failed) bytes c d → Sends portion bytes progress c d

module _ (r : Request) (range : Option Range) where
  -- the answer with what was given
  abbrev pub text_with : Given → List ℕ
  text_with g = found_text range g.version g.meta g.bytes r.time r.closes

  -- the range isn't one of the object, and nothing was written
  pub record HasRefused (g : Given) (c d : Connection) : Type 0 where
    pub none : portion_of range g.meta.size ≡ None
    pub unwritten : d ≡ c

  -- the answer with what was given was written; of the bytes to come those in the portion follow
  pub record HasWritten (g : Given) (portion : Portion) (c d : Connection) : Type 0 where
    pub whole : Portion
    pub some : portion_of range g.meta.size ≡ Some whole
    pub later : (more : List ℕ) → text_with (with_piece g more) ≡ text_with g ++ taken portion more
    pub wrote : Wrote c.written d.written (text_with g)
    pub unread : d.left ≡ c.left
    pub steady : d.faults ≡ c.faults

  -- the link failed: a first part of that answer was written
  pub record HasFailed (g : Given) (c d : Connection) : Type 0 where
    pub part : WrotePrefix c.written d.written (text_with g)
    pub rose : Rose c.faults d.faults
    pub counted : c.faults ≤ d.faults

  -- so far is the answer written to a get that has given so much
  abbrev pub IsAt : Progress → Option Given → Connection → Connection → Type 0
  IsAt Waiting None c d = d ≡ c
  IsAt Waiting (Some g) c d = ⊥
  IsAt Refused None c d = ⊥
  IsAt Refused (Some g) c d = HasRefused g c d
  IsAt (Writing portion) None c d = ⊥
  IsAt (Writing portion) (Some g) c d = HasWritten g portion c d
  IsAt Failed None c d = ⊥
  IsAt Failed (Some g) c d = HasFailed g c d

-- with what a request is answered whose order ended so
abbrev pub answer_at : Request → Option FlowEnd → Answer
answer_at r None = answer.Nothing
answer_at r (Some end) = answer_to r.ask end

-- what a get told before its end and with it is all that it gives
pub record ToldAll (so_far begun : Option Given) (end : Option FlowEnd) : Type 0 where
  pub first : IsFirstOf so_far (given_with (with_given so_far end) begun)
  pub all : GaveAll so_far (given_with (with_given so_far end) begun) end

-- an answer was written, or not whole, as the link failed; or a first part of it is all, as memory was wanting, and no call failed
pub data EndsWith (text : List ℕ) (close : Bool) (result : Result Bool ServeFault) (c d : Connection) : Type 0 where
  says : Says text close result c d → EndsWith text close result c d
  stops : result ≡ Err Memory → WrotePrefix c.written d.written text → d.faults ≡ c.faults → EndsWith text close result c d
