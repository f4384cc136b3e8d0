-- How far the answer to a get on its way is written.
use Rattle.std.proofs.Common.{◌≡◌, ℕ, Bool, false, not, Option, Some, None, List, [], ◌++◌, Ok, Err, refl, sym, ap, ◌∙◌, subst, append_assoc, arith}
use Rattle.lab_outside.specs.Connection.{Connection}
use Rattle.lab_outside.specs.Bytes.{Wrote, WrotePrefix}
use Rattle.lab_outside.proofs.Bytes.{wrote_more, wrote_prefix_after, wrote_prefix_more, wrote_prefix_whole}
use Rattle.lab_outside.specs.Rose.{Rose}
use Rattle.s3_model.specs.declared.ask.Ask.TheVariants as ask
use Rattle.s3_model.specs.declared.ask.Range.{Range}
use Rattle.s3_answer.specs.declared.portion.Portion.{Portion}
use Rattle.s3_answer.specs.Portions.{taken}
use Rattle.serve_model.specs.declared.request.Request.{Request}
use Rattle.serve_model.specs.Stores.{Given}
use Rattle.serve_model.specs.Connections.{IsPrefixOf}
use Rattle.serve_model.specs.declared.served.ServeFault.TheVariants.{Memory}
use Rattle.serve_model.specs.Serving.{said, cut_short}
use Rattle.serve_model.proofs.Giving.{first_got}
use Rattle.serve_loop.specs.declared.giving.Progress.{Progress}
use Rattle.serve_loop.specs.declared.giving.Progress.TheVariants.{Waiting, Refused, Writing, Failed}
use Rattle.serve_loop.specs.Gets.{with_piece}
use Rattle.serve_loop.specs.Giving.{Sends, sent, unsent, text_with, HasRefused, HasWritten, HasFailed, IsAt, EndsWith, says, stops}

-- ---- texts

pub longer : (o n : Option (List ℕ)) (front all : List ℕ) → IsPrefixOf front all → WrotePrefix o n front → WrotePrefix o n all
longer o n front all h w = let P : List ℕ → Type 0 = WrotePrefix o n in subst P h.1 (wrote_prefix_more o n front h.0 w)

module _ (r : Request) (range : Option Range) where
  -- the answer with more of the bytes
  text_more : (g : Given) (piece : List ℕ) → IsPrefixOf (text_with r range g) (text_with r range (with_piece g piece))
  text_more g piece = first_got r.time r.closes (ask.Get [] [] range) g (with_piece g piece) (refl, refl, (piece, refl))

  module _ (g : Given) (piece bytes : List ℕ) (portion later : Portion) (is : bytes ≡ taken portion piece) (next : (more : List ℕ) → taken portion (piece ++ more) ≡ bytes ++ taken later more)
      (goes : (more : List ℕ) → text_with r range (with_piece g more) ≡ text_with r range g ++ taken portion more) where
    text_then : text_with r range g ++ bytes ≡ text_with r range (with_piece g piece)
    text_then = ap (λ (t : List ℕ). text_with r range g ++ t) is ∙ sym (goes piece)

    goes_then : (more : List ℕ) → text_with r range (with_piece (with_piece g piece) more) ≡ text_with r range (with_piece g piece) ++ taken later more
    goes_then more =
        ap (λ (bs : List ℕ). text_with r range (record g { bytes = bs })) (append_assoc g.bytes piece more)
        ∙ goes (piece ++ more)
        ∙ ap (λ (t : List ℕ). text_with r range g ++ t) (next more)
        ∙ sym (append_assoc (text_with r range g) bytes (taken later more))
        ∙ ap (λ (t : List ℕ). t ++ taken later more) text_then

  -- ---- the head, and pieces

  module _ (g : Given) (piece : List ℕ) where
    -- a piece was sent
    pub sent_on : (bytes : List ℕ) (portion later : Portion) (progress : Progress) (c d f : Connection) → bytes ≡ taken portion piece → ((more : List ℕ) → taken portion (piece ++ more) ≡ bytes ++ taken later more)
        → HasWritten r range g portion c d → Sends later bytes progress d f → IsAt r range progress (Some (with_piece g piece)) c f
    sent_on bytes portion later progress c d f is next was (sent e w) =
        let P : Progress → Type 0 = λ x. IsAt r range x (Some (with_piece g piece)) c f in
        let Q : List ℕ → Type 0 = Wrote c.written f.written in
        subst P (sym e)
        (record {
          whole = was.whole;
          some = was.some;
          later = goes_then g piece bytes portion later is next was.later;
          wrote = subst Q (text_then g piece bytes portion later is next was.later) (wrote_more c.written d.written f.written (text_with r range g) bytes was.wrote w.ok);
          unread = w.unread ∙ was.unread;
          steady = w.steady ∙ was.steady;
        })
    sent_on bytes portion later progress c d f is next was (unsent failed e w) =
        let P : Progress → Type 0 = λ x. IsAt r range x (Some (with_piece g piece)) c f in
        let Q : List ℕ → Type 0 = WrotePrefix c.written f.written in
        subst P (sym e)
        (record {
          part = subst Q (text_then g piece bytes portion later is next was.later) (wrote_prefix_after c.written d.written f.written (text_with r range g) bytes was.wrote w.err);
          rose = subst (λ k. Rose k f.faults) was.steady w.fault;
          counted = (let same = was.steady in let le = w.counted in omega (arith, same, le));
        })

    -- nothing more is written
    still_refused : (c d : Connection) → HasRefused r range g c d → HasRefused r range (with_piece g piece) c d
    still_refused c d h = record { none = h.none; unwritten = h.unwritten }

    still_failed : (c d : Connection) → HasFailed r range g c d → HasFailed r range (with_piece g piece) c d
    still_failed c d h = record { part = longer c.written d.written (text_with r range g) (text_with r range (with_piece g piece)) (text_more g piece) h.part; rose = h.rose; counted = h.counted }

    -- so it is in each case but one
    pub still : (progress : Progress) (c d : Connection) → ((portion : Portion) → progress ≡ Writing portion → ⊥) → IsAt r range progress (Some g) c d → IsAt r range progress (Some (with_piece g piece)) c d
    still Waiting c d other at = absurd at
    still Refused c d other at = still_refused c d at
    still (Writing portion) c d other at = absurd (other portion refl)
    still Failed c d other at = still_failed c d at

  -- ---- the rest of an object

  module _ (g : Given) (rest : List ℕ) (portion : Portion) where
    -- memory was wanting for it
    pub rest_wants : (close : Bool) (c d : Connection) → HasWritten r range g portion c d → EndsWith (text_with r range (with_piece g rest)) close (Err Memory) c d
    rest_wants close c d w = stops refl (longer c.written d.written (text_with r range g) (text_with r range (with_piece g rest)) (text_more g rest) (wrote_prefix_whole c.written d.written (text_with r range g) w.wrote)) w.steady

    pub rest_written : (later : Portion) (close : Bool) (c d : Connection) → HasWritten r range (with_piece g rest) later c d → EndsWith (text_with r range (with_piece g rest)) close (Ok (not close)) c d
    rest_written later close c d w = says (said refl w.wrote w.unread w.steady)

    rest_failed : (close : Bool) (c d : Connection) → HasFailed r range (with_piece g rest) c d → EndsWith (text_with r range (with_piece g rest)) close (Ok false) c d
    rest_failed close c d h = says (cut_short refl h.part h.rose)

    -- a range is one of the object or it isn't
    not_both : (T : Type 0) (c d f : Connection) → HasWritten r range g portion c d → HasRefused r range (with_piece g rest) c f → T
    not_both T c d f w h = absurd (some_is_none w.whole (sym w.some ∙ h.none))
      where
        some_is_none : (p : Portion) → Some p ≡ None → ⊥
        some_is_none p e = cc

    pub rest_unwritten : (progress : Progress) (close : Bool) (c d f : Connection) → ((later : Portion) → progress ≡ Writing later → ⊥) → HasWritten r range g portion c d → IsAt r range progress (Some (with_piece g rest)) c f
        → EndsWith (text_with r range (with_piece g rest)) close (Ok false) c f
    rest_unwritten Waiting close c d f other w at = absurd at
    rest_unwritten Refused close c d f other w at = not_both (EndsWith (text_with r range (with_piece g rest)) close (Ok false) c f) c d f w at
    rest_unwritten (Writing later) close c d f other w at = absurd (other later refl)
    rest_unwritten Failed close c d f other w at = rest_failed close c f at
