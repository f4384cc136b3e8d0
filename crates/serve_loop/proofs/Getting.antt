-- How a get is served.
use Rattle.std.proofs.Common.{◌≡◌, ℕ, ◌≤◌, ◌⊎◌, inl, inr, List, [], ◌∷◌, ◌++◌, Option, Some, None, Bool, Result, Err, refl, sym, ap, subst, arith}
use Rattle.crdt_core.specs.declared.memory.Memory.{Memory as Wanting}
use Rattle.crdt_core.specs.declared.memory.Memory.TheVariants.{Want, Full}
use Rattle.lab_outside.specs.Connection.{Connection, OnPresent}
use Rattle.lab_outside.specs.Bytes.{WrotePrefix}
use Rattle.lab_outside.proofs.Bytes.{wrote_none, wrote_prefix_whole}
use Rattle.lab_outside.proofs.Present.{on_present, on_present_then}
use Rattle.flow_model.specs.declared.order.Order.TheVariants.{Get}
use Rattle.flow_model.specs.declared.flow.FlowEnd.{FlowEnd}
use Rattle.s3_model.specs.declared.ask.Range.{Range}
use Rattle.serve_model.specs.declared.request.Request.{Request}
use Rattle.serve_model.specs.declared.served.Served.{Served}
use Rattle.serve_model.specs.declared.served.ServeFault.{ServeFault}
use Rattle.serve_model.specs.Stores.{Job, carry, Given, Store, Asking, IsFirstOf, given, given_with, known_from, OverflowsAmong}
use Rattle.serve_model.specs.Judging.{counted_after}
use Rattle.serve_model.specs.Talk.{Serving, given_text, closes_of, kept_limit, order_turn}
use Rattle.serve_model.specs.Serving.{CarriedOut, Reached, GivesUp, Stands, given_up, halted, Serves, ServesOn, OnLeft}
use Rattle.serve_loop.specs.declared.giving.Progress.{Progress}
use Rattle.serve_loop.specs.declared.giving.Progress.TheVariants.{Waiting, Refused, Writing, Failed}
use Rattle.serve_loop.specs.Gets.{MayGive, with_piece, with_given, GaveAll}
use Rattle.serve_loop.specs.Giving.{IsGetOf, IsAt, EndsWith, ToldAll, text_with, answer_at}
use Rattle.serve_loop.proofs.Serving.{on_left}
use Rattle.serve_loop.proofs.Carrying.{ended_not, ended_answered, order_so}
use Rattle.serve_loop.proofs.Ending.{begun_is}

nothing_prefix : (c d : Connection) (text : List ℕ) → d ≡ c → WrotePrefix c.written d.written text
nothing_prefix c d text same = let P : Connection → Type 0 = λ x. WrotePrefix c.written x.written text in subst P (sym same) (record { front = []; rest = text; whole = refl; wrote = wrote_none c.written })

not_fewer : (c d : Connection) → d ≡ c → c.faults ≤ d.faults
not_fewer c d same = let P : Connection → Type 0 = λ x. c.faults ≤ x.faults in subst P (sym same) (omega arith)

-- a first part of the answer with what was given was written
part_of : (r : Request) (range : Option Range) (progress : Progress) (g : Given) (c d : Connection) → IsAt r range progress (Some g) c d → WrotePrefix c.written d.written (text_with r range g) × (c.faults ≤ d.faults)
part_of r range Waiting g c d at = absurd at
part_of r range Refused g c d at = (nothing_prefix c d (text_with r range g) at.unwritten, not_fewer c d at.unwritten)
part_of r range (Writing portion) g c d at = (wrote_prefix_whole c.written d.written (text_with r range g) at.wrote, (let same = at.steady in omega (arith, same)))
part_of r range Failed g c d at = (at.part, at.counted)

nothing_written : (r : Request) (range : Option Range) (progress : Progress) (c d : Connection) → IsAt r range progress None c d → d ≡ c
nothing_written r range Waiting c d at = at
nothing_written r range Refused c d at = absurd at
nothing_written r range (Writing portion) c d at = absurd at
nothing_written r range Failed c d at = absurd at

module _ {S : Type 0} (store : Store S) (fits lacks : S → ℕ → Job → Type 0) (holds holds' : S → Type 0) (r : Request) (bucket key : List ℕ) (range : Option Range) (asked : IsGetOf range r.ask) (times : Option (List ℕ)) (kept : List ℕ) (p : Serving S) (served : Served) (st : Stands holds times served p) where
  -- it ended so, and that was answered
  pub got_answered : (within : served.kept ≤ kept_limit) (result : Result Bool ServeFault) (o n : Option Connection) (end : Option FlowEnd) → ((s : S) → holds s → CarriedOut store fits lacks holds' s r.time (carry (Get bucket key)) end)
      → OnPresent (EndsWith (given_text r (answer_at r end) (store.carries p.store r.time (carry (Get bucket key))).begun) (closes_of r (answer_at r end)) result) o n
      → ServesOn (λ left. order_turn store r (Get bucket key) p (kept ++ left)) (Reached store fits lacks holds' p.store) (known_from store fits lacks p.store) times served result kept o n
  got_answered within result o n None f ends =
      order_so store fits lacks holds holds' r (Get bucket key) times kept p served st served result o n (ended_not store fits lacks holds holds' r (carry (Get bucket key)) times kept p served st result o n f ends)
  got_answered within result o n (Some end) f ends =
      let none : 0 ≡ counted_after r.ask end = sym (ap (λ a. counted_after a end) asked.2) in
      order_so store fits lacks holds holds' r (Get bucket key) times kept p served st served result o n
      (ended_answered store fits lacks holds holds' r (carry (Get bucket key)) times kept p served st served result o n end 0 f none (omega arith) refl (omega (arith, within)) ends)

  -- what it gave and told is all that it gives
  told_all : (so_far : Option Given) (end : Option FlowEnd) → with_given so_far end ≡ (store.carries p.store r.time (carry (Get bucket key))).end → IsFirstOf so_far (given (store.carries p.store r.time (carry (Get bucket key)))) → GaveAll so_far (given (store.carries p.store r.time (carry (Get bucket key)))) end
      → ToldAll so_far (store.carries p.store r.time (carry (Get bucket key))).begun end
  told_all so_far end same first all =
      let c = store.carries p.store r.time (carry (Get bucket key)) in
      let P : Option FlowEnd → Type 0 = λ x. IsFirstOf so_far (given_with x c.begun) in
      let Q : Option FlowEnd → Type 0 = λ x. GaveAll so_far (given_with x c.begun) end in
      record { first = subst P (sym same) first; all = subst Q (sym same) all }

  -- it ended, and what was left of its answer was written
  pub got_end : (within : served.kept ≤ kept_limit) (result : Result Bool ServeFault) (o m n : Option Connection) (progress : Progress) (so_far : Option Given) (end : Option FlowEnd)
      → ((s : S) → holds s → CarriedOut store fits lacks holds' s r.time (carry (Get bucket key)) (with_given so_far end) × GaveAll so_far (given (store.carries s r.time (carry (Get bucket key)))) end)
      → IsFirstOf so_far (given (store.carries p.store r.time (carry (Get bucket key)))) → OnPresent (IsAt r range progress so_far) o m
      → ((range : Option Range) (so_far begun : Option Given) (start : Option Connection) → IsGetOf range r.ask → ToldAll so_far begun end → OnPresent (IsAt r range progress so_far) start m
      → (let a = answer_at r (with_given so_far end) in OnPresent (EndsWith (given_text r a begun) (closes_of r a) result) start n))
      → ServesOn (λ left. order_turn store r (Get bucket key) p (kept ++ left)) (Reached store fits lacks holds' p.store) (known_from store fits lacks p.store) times served result kept o n
  got_end within result o m n progress so_far end gives first at ends =
      let here = gives p.store st.store in
      got_answered within result o n (with_given so_far end) (λ s st. (gives s st).0) (ends range so_far (store.carries p.store r.time (carry (Get bucket key))).begun o asked (told_all so_far end here.0.end_is first here.1) at)

  -- serving is given up in it
  gives_up_at : (e : ServeFault) (progress : Progress) (so_far : Option Given) (left : List ℕ) (c d : Connection) → GivesUp (OverflowsAmong store fits lacks p.store) (order_turn store r (Get bucket key) p (kept ++ left)).asks e
      → MayGive store p.store r.time (Get bucket key) so_far → IsAt r range progress so_far c d
      → Serves (order_turn store r (Get bucket key) p (kept ++ left)) (Reached store fits lacks holds' p.store) (known_from store fits lacks p.store) times served (Err e) kept c d
  gives_up_at e progress None left c d why may at = let same = nothing_written r range progress c d at in given_up e refl why (inl (nothing_prefix c d [] same, tt)) (inl (ap (λ (x : Connection). x.faults) same))
  gives_up_at e progress (Some g) left c d why may at =
      let part = part_of r range progress g c d at in
      let P : List ℕ → Type 0 = WrotePrefix c.written d.written in
      halted e refl why (inl (g, may, subst P (sym (begun_is r range asked g)) part.0, tt)) part.1

  pub got_given_up : (e : ServeFault) (progress : Progress) (so_far : Option Given) (o n : Option Connection) → ((later : List (Asking S)) → GivesUp (OverflowsAmong store fits lacks p.store) (record { state = p.store; time = r.time; job = carry (Get bucket key) } ∷ later) e)
      → MayGive store p.store r.time (Get bucket key) so_far → OnPresent (IsAt r range progress so_far) o n
      → ServesOn (λ left. order_turn store r (Get bucket key) p (kept ++ left)) (Reached store fits lacks holds' p.store) (known_from store fits lacks p.store) times served (Err e) kept o n
  got_given_up e progress so_far o n why may at =
      on_present (IsAt r range progress so_far) (λ c d. OnLeft (λ left. Serves (order_turn store r (Get bucket key) p (kept ++ left)) (Reached store fits lacks holds' p.store) (known_from store fits lacks p.store) times served (Err e) kept c d) c.left) o n
      (λ c d is. on_left (λ left. Serves (order_turn store r (Get bucket key) p (kept ++ left)) (Reached store fits lacks holds' p.store) (known_from store fits lacks p.store) times served (Err e) kept c d) c.left
      (λ left told. gives_up_at e progress so_far left c d (why _) may is)) at

-- ---- why a call gave up

pub because : (m : Wanting) (P Q : Type 0) → (P → Q) → (m ≡ Want) ⊎ ((m ≡ Full) × P) → (m ≡ Want) ⊎ ((m ≡ Full) × Q)
because m P Q f (inl e) = inl e
because m P Q f (inr h) = inr (h.0, f h.1)

-- ---- one thing more was given

-- the object that was found
pub found_on : (r : Request) (range : Option Range) (progress later : Progress) (so_far : Option Given) (g : Given) (o m n : Option Connection) → so_far ≡ None → OnPresent (IsAt r range progress so_far) o m → OnPresent (IsAt r range later (Some g)) m n → OnPresent (IsAt r range later (Some g)) o n
found_on r range progress later so_far g o m n none at more =
    let P : Option Given → Type 0 = λ x. OnPresent (IsAt r range progress x) o m in
    on_present_then (IsAt r range progress None) (IsAt r range later (Some g)) (IsAt r range later (Some g)) o m n
    (λ c d f first next. let Q : Connection → Type 0 = λ x. IsAt r range later (Some g) x f in subst Q (nothing_written r range progress c d first) next) (subst P none at) more

same_given : (so_far : Option Given) (g h : Given) → so_far ≡ Some g → so_far ≡ Some h → h ≡ g
same_given so_far g h e k = cc

-- a piece: whatever the store stood for, it goes on from the same
pub piece_goes : {S : Type 0} (On : S → Option Given → Type 0) (so_far : Option Given) (g : Given) (piece : List ℕ) → so_far ≡ Some g → (s : S) → ((h : Given) × (so_far ≡ Some h) × On s (Some (with_piece h piece))) → On s (Some (with_piece g piece))
piece_goes On so_far g piece e s on = let P : Given → Type 0 = λ x. On s (Some (with_piece x piece)) in subst P (same_given so_far g on.0 e on.1) on.2
