-- What the loop over the lines keeps.
use Rattle.std.proofs.Common.{◌≡◌, ℕ, suc, true, false, ◌+◌, ◌<◌, ◌≤◌, Some, List, [], ◌∷◌, ◌++◌, length, length-append, append_assoc, refl, ap, sym, subst, ◌∙◌, arith, add-one}
use Rattle.store_model.specs.declared.event.Numbered.{Numbered}
use Rattle.text_model.specs.Grammar.{lines_of}
use Rattle.audit_model.specs.declared.said.Said.{Said}
use Rattle.audit_model.specs.Lines.{Says}
use Rattle.audit_model.specs.Heard.{Heard, nothing_heard, hears, Hears, IsUnreadable}
use Rattle.audit_reading.specs.declared.heard.Heard as kept
use Rattle.audit_reading.specs.Kept.{StandsFor}
use Rattle.audit_reading.specs.Reads.{IsHeard, AddsLine}

-- one line more
heard_more : (events : List Numbered) (h last next : Heard) (lines : List (List ℕ)) (saids : List Said) (line : List ℕ) (s : Said) → Hears events h lines saids last → Says line s → hears events last s ≡ Some next →
    Hears events h (lines ++ line ∷ []) (saids ++ s ∷ []) next
heard_more events h last next [] [] line s (Hears.none _) says e = Hears.line_first h next next line [] s [] says e (Hears.none next)
heard_more events h last next [] (t ∷ saids) line s x says e = elim x [ ]
heard_more events h last next (l ∷ lines) [] line s x says e = elim x [ ]
heard_more events h last next (l ∷ lines) (t ∷ saids) line s (Hears.line_first _ n _ _ _ _ _ y f more) says e =
    Hears.line_first h n next l (lines ++ line ∷ []) t (saids ++ s ∷ []) y f (heard_more events n last next lines saids line s more says e)

-- the first lines of the text were read, `number` of them, and the rest is to be read
pub record ReadSoFar (events : List Numbered) (text rest : List ℕ) (number : ℕ) (k : kept.Heard) (saids : List Said) : Type 0 where
  pub before : List (List ℕ)
  pub whole : lines_of text ≡ before ++ lines_of rest
  pub place : number ≡ length before
  pub last : Heard
  pub hears : Hears events nothing_heard before saids last
  pub stands : StandsFor k last
  pub short : number + length rest ≤ length text

pub nothing_read : (events : List Numbered) (text : List ℕ) (k : kept.Heard) → StandsFor k nothing_heard → ReadSoFar events text text 0 k []
nothing_read events text k s = record { before = []; whole = refl; place = refl; last = nothing_heard; hears = Hears.none nothing_heard; stands = s; short = omega arith }

module _ (events : List Numbered) (text rest : List ℕ) (number : ℕ) (old : kept.Heard) (saids : List Said) (h : ReadSoFar events text rest number old saids) where
  module _ (line after : List ℕ) (cut : lines_of rest ≡ line ∷ lines_of after) where
    whole_so : lines_of text ≡ h.before ++ line ∷ lines_of after
    whole_so = h.whole ∙ ap (λ ls. h.before ++ ls) cut

    more_by : (new : kept.Heard) (more : List Said) → length after < length rest → IsHeard events line h.last new saids more → ReadSoFar events text after (number + 1) new more
    more_by new more shorter x = record {
      before = h.before ++ line ∷ [];
      whole = whole_so ∙ sym (append_assoc h.before (line ∷ []) (lines_of after));
      place = (let long = length-append h.before (line ∷ []) in let at : number ≡ length h.before = h.place in omega arith);
      last = x.next;
      hears = subst (λ ss. Hears events nothing_heard (h.before ++ line ∷ []) ss x.next) (sym x.added) (heard_more events nothing_heard h.last x.next h.before saids line x.said h.hears x.says x.heard);
      stands = x.stands;
      short = omega (arith, h.short);
    }

    -- a line that was heard
    pub read_more : (new : kept.Heard) (more : List Said) → length after < length rest → AddsLine events line old new saids more true → ReadSoFar events text after (number + 1) new more
    read_more new more shorter adds = more_by new more shorter (adds h.last h.stands)

    -- a line that can't be heard
    pub unreadable_here : (new : kept.Heard) (more : List Said) → AddsLine events line old new saids more false → IsUnreadable events (lines_of text) (number + 1)
    unreadable_here new more adds = record {
      before = h.before;
      later = line ∷ lines_of after;
      whole = whole_so;
      saids = saids;
      last = h.last;
      hears = h.hears;
      stops = adds h.last h.stands;
      place = rw add-one (ap suc h.place);
    }
