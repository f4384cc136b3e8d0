-- What is written when a get has ended.
use Rattle.std.proofs.Common.{◌≡◌, ◌⊎◌, inl, inr, ℕ, Bool, true, false, Option, Some, None, option_map, List, [], ◌++◌, Result, Ok, refl, sym, ap, ◌∙◌, subst}
use Rattle.lab_outside.specs.Connection.{Connection, OnPresent}
use Rattle.lab_outside.specs.Bytes.{Wrote}
use Rattle.crdt_rows.specs.declared.version.Version.{Version}
use Rattle.crdt_rows.specs.declared.body.Meta.{Meta}
use Rattle.flow_model.specs.declared.flow.FlowEnd.{FlowEnd}
use Rattle.flow_model.specs.declared.flow.FlowEnd.TheVariants.{Stored, Found, Nothing, Listed, Superseded, Aborted}
use Rattle.s3_model.specs.declared.ask.Range.{Range}
use Rattle.s3_model.specs.declared.reply.Reply.TheVariants as reply
use Rattle.s3_model.specs.declared.fault.Code.TheVariants.{InvalidRange}
use Rattle.s3_model.specs.Answer.{object_text, answer_text, count_of}
use Rattle.s3_model.specs.Ranges.{span_of}
use Rattle.s3_answer.specs.declared.portion.Portion.{Portion}
use Rattle.s3_answer.specs.Portions.{portion_of}
use Rattle.s3_answer.proofs.Portions.{no_answer}
use Rattle.serve_model.specs.declared.answer.Answer.{Answer}
use Rattle.serve_model.specs.declared.answer.Answer.TheVariants as answer
use Rattle.serve_model.specs.declared.request.Request.{Request}
use Rattle.serve_model.specs.declared.served.ServeFault.{ServeFault}
use Rattle.serve_model.specs.Stores.{Given, IsFirstOf, given_with}
use Rattle.serve_model.specs.Connections.{IsPrefixOf}
use Rattle.serve_model.specs.Judging.{found, answer_to, answer_to_read}
use Rattle.serve_model.specs.Talk.{text_of, get_text, begun_text, given_text, closes_of}
use Rattle.serve_model.specs.Serving.{Says, said, cut_short}
use Rattle.serve_model.proofs.Giving.{end_text, given_lies}
use Rattle.serve_loop.specs.declared.giving.Progress.{Progress}
use Rattle.serve_loop.specs.declared.giving.Progress.TheVariants.{Waiting, Refused, Writing, Failed}
use Rattle.serve_loop.specs.Gets.{with_piece, with_given}
use Rattle.serve_loop.specs.Giving.{IsGetOf, text_with, HasWritten, HasFailed, IsAt, EndsWith, answer_at, ToldAll}
use Rattle.serve_loop.proofs.Writing.{longer}

-- ---- with what a get is answered

-- the portion of a span
abbrev portion_at : Option (ℕ × ℕ) → Option Portion
portion_at o = option_map (λ (span : ℕ × ℕ). record { skip = span.0; count = Some (count_of span) }) o

-- an object whose range isn't one of it is refused
none_refused : (o : Option (ℕ × ℕ)) (version : Version) (meta : Meta) (body : List ℕ) → portion_at o ≡ None
    → elim o as (λ o. Answer) [ None ↦ answer.Refusal InvalidRange | Some span ↦ answer.Reply (reply.Found version meta body) ] ≡ answer.Refusal InvalidRange
none_refused None version meta body e = refl
none_refused (Some span) version meta body e = absurd (some_is_none (record { skip = span.0; count = Some (count_of span) }) e)
  where
    some_is_none : (p : Portion) → Some p ≡ None → ⊥
    some_is_none p e = cc

some_found : (o : Option (ℕ × ℕ)) (p : Portion) (version : Version) (meta : Meta) (body : List ℕ) → portion_at o ≡ Some p
    → elim o as (λ o. Answer) [ None ↦ answer.Refusal InvalidRange | Some span ↦ answer.Reply (reply.Found version meta body) ] ≡ answer.Reply (reply.Found version meta body)
some_found None p version meta body e = absurd (none_is_some p e)
  where
    none_is_some : (p : Portion) → None ≡ Some p → ⊥
    none_is_some p e = cc
some_found (Some span) p version meta body e = refl

is_refused : (range : Option Range) (version : Version) (meta : Meta) (body : List ℕ) → portion_of range meta.size ≡ None → found range version meta body ≡ answer.Refusal InvalidRange
is_refused None version meta body e = absurd (some_is_none (record { skip = 0; count = None }) e)
  where
    some_is_none : (p : Portion) → Some p ≡ None → ⊥
    some_is_none p e = cc
is_refused (Some range) version meta body e = none_refused (span_of range meta.size) version meta body e

is_found : (range : Option Range) (p : Portion) (version : Version) (meta : Meta) (body : List ℕ) → portion_of range meta.size ≡ Some p → found range version meta body ≡ answer.Reply (reply.Found version meta body)
is_found None p version meta body e = refl
is_found (Some range) p version meta body e = some_found (span_of range meta.size) p version meta body e

-- ---- two facts of two moments of a connection

pub on_present_two : (A B T : Connection → Connection → Type 0) (o m n : Option Connection) → ((c d f : Connection) → A c d → B c f → T c f) → OnPresent A o m → OnPresent B o n → OnPresent T o n
on_present_two A B T None m n f h k = tt
on_present_two A B T (Some c) None n f h k = absurd h
on_present_two A B T (Some c) (Some d) None f h k = absurd k
on_present_two A B T (Some c) (Some d) (Some e) f h k = f c d e h k

on_never : (A T : Connection → Connection → Type 0) (o m n : Option Connection) → ((c d : Connection) → A c d → ⊥) → OnPresent A o m → OnPresent T o n
on_never A T None m n never h = tt
on_never A T (Some c) None n never h = absurd h
on_never A T (Some c) (Some d) n never h = absurd (never c d h)

-- ---- an answer

-- where an object was found, there is an answer
found_any : (r : Request) (range : Option Range) (version : Version) (meta : Meta) (body : List ℕ) (had : Option Given) → given_text r (found range version meta body) had ≡ text_of r (found range version meta body)
found_any r None version meta body had = refl
found_any r (Some range) version meta body had =
    elim (span_of range meta.size) as (λ (o : Option (ℕ × ℕ)).
    let a = elim o as (λ o. Answer) [ None ↦ answer.Refusal InvalidRange | Some span ↦ answer.Reply (reply.Found version meta body) ] in given_text r a had ≡ text_of r a) [
      | None ↦ refl
      | Some span ↦ refl
    ]

-- without anything given there is nothing to write without an answer
none_given : (r : Request) (a : Answer) → given_text r a None ≡ text_of r a
none_given r answer.Nothing = refl
none_given r (answer.Reply reply) = refl
none_given r (answer.Refusal code) = refl

ended : (r : Request) (end : Option FlowEnd) (had : Option Given) → end_text r end had ≡ given_text r (answer_at r end) had
ended r None had = refl
ended r (Some end) had = refl

module _ (r : Request) (range : Option Range) (asked : IsGetOf range r.ask) where
  pub begun_is : (g : Given) → begun_text r (Some g) ≡ text_with r range g
  begun_is g = ap (λ a. get_text a g r.time r.closes) asked.2

  answer_is : (end : FlowEnd) → answer_to r.ask end ≡ answer_to_read range end
  answer_is end = ap (λ a. answer_to a end) asked.2

  -- an answer, whichever it is
  module _ (had : Option Given) (result : Result Bool ServeFault) (c d : Connection) where
    abbrev pub Answers : Answer → Type 0
    Answers a = Says (given_text r a had) (closes_of r a) result c d

    abbrev pub Replies : Answer → Type 0
    Replies a = Says (text_of r a) (closes_of r a) result c d

    replied : (a : Answer) → given_text r a had ≡ text_of r a → Replies a → Answers a
    replied a e says = let P : List ℕ → Type 0 = λ text. Says text (closes_of r a) result c d in subst P (sym e) says

  module _ (had : Option Given) (result : Result Bool ServeFault) where
    -- no object was told of before
    waited : (end : FlowEnd) (c d : Connection) → ToldAll None had (Some end) → Replies had result c d (answer_to r.ask end) → Answers had result c d (answer_at r (with_given None (Some end)))
    waited (Found version meta body) c d told says =
        let P : Answer → Type 0 = λ a. given_text r a had ≡ text_of r a in
        let a = answer_to r.ask (Found version meta body) in
        replied had result c d a (subst P (sym (answer_is (Found version meta body))) (found_any r range version meta body had)) says
    waited Nothing c d told says =
        let P : Answer → Type 0 = λ a. given_text r a had ≡ text_of r a in
        replied had result c d (answer_to r.ask Nothing) (subst P (sym (answer_is Nothing)) refl) says
    waited (Stored version meta) c d told says = let a = answer_to r.ask (Stored version meta) in replied had result c d a (ap (given_text r a) (sym told.all) ∙ none_given r a) says
    waited (Listed rows) c d told says = let a = answer_to r.ask (Listed rows) in replied had result c d a (ap (given_text r a) (sym told.all) ∙ none_given r a) says
    waited (Superseded id) c d told says = let a = answer_to r.ask (Superseded id) in replied had result c d a (ap (given_text r a) (sym told.all) ∙ none_given r a) says
    waited Aborted c d told says = let a = answer_to r.ask Aborted in replied had result c d a (ap (given_text r a) (sym told.all) ∙ none_given r a) says

    waiting_says : (so_far : Option Given) (end : FlowEnd) (c d f : Connection) → ToldAll so_far had (Some end) → IsAt r range Waiting so_far c d → Replies had result d f (answer_to r.ask end)
        → Answers had result c f (answer_at r (with_given so_far (Some end)))
    waiting_says None end c d f told at says = let P : Connection → Type 0 = λ x. Replies had result x f (answer_to r.ask end) in waited end c f told (subst P at says)
    waiting_says (Some g) end c d f told at says = absurd at

    -- its range is refused, and it has no answer
    silent : (g : Given) (a : Answer) (c d : Connection) → Some g ≡ had → a ≡ answer.Nothing → portion_of range g.meta.size ≡ None → Replies had result c d a → Answers had result c d a
    silent g a c d all e none says =
        let empty : begun_text r had ≡ [] = ap (begun_text r) (sym all) ∙ begun_is g ∙ no_answer g.version g.meta g.bytes r.time r.closes range none in
        let P : List ℕ → Type 0 = λ text. Says text true result c d in
        let says_none : P [] = subst (Replies had result c d) e says in
        subst (Answers had result c d) (sym e) (subst P (sym empty) says_none)

    refused : (g : Given) (end : FlowEnd) (c d : Connection) → ToldAll (Some g) had (Some end) → portion_of range g.meta.size ≡ None → Replies had result c d (answer_to r.ask end) → Answers had result c d (answer_at r (with_given (Some g) (Some end)))
    refused g (Found version meta rest) c d told none says =
        let P : Meta → Type 0 = λ m. portion_of range m.size ≡ None in
        let gone : portion_of range meta.size ≡ None = subst P told.first.1 none in
        let now = answer_is (Found version meta rest) ∙ is_refused range version meta rest gone in
        let all = answer_is (Found version meta (g.bytes ++ rest)) ∙ is_refused range version meta (g.bytes ++ rest) gone in
        subst (Answers had result c d) (sym all) (subst (Replies had result c d) now says)
    refused g Nothing c d told none says = absurd told.first
    refused g (Stored version meta) c d told none says = silent g (answer_to r.ask (Stored version meta)) c d told.all (answer_is (Stored version meta)) none says
    refused g (Listed rows) c d told none says = silent g (answer_to r.ask (Listed rows)) c d told.all (answer_is (Listed rows)) none says
    refused g (Superseded id) c d told none says = silent g (answer_to r.ask (Superseded id)) c d told.all (answer_is (Superseded id)) none says
    refused g Aborted c d told none says = silent g (answer_to r.ask Aborted) c d told.all (answer_is Aborted) none says

    refused_says : (so_far : Option Given) (end : FlowEnd) (c d f : Connection) → ToldAll so_far had (Some end) → IsAt r range Refused so_far c d → Replies had result d f (answer_to r.ask end)
        → Answers had result c f (answer_at r (with_given so_far (Some end)))
    refused_says None end c d f told at says = absurd at
    refused_says (Some g) end c d f told at says =
        let P : Connection → Type 0 = λ x. Replies had result x f (answer_to r.ask end) in
        refused g end c f told at.none (subst P at.unwritten says)

    -- nothing was written before it ended
    waiting_ends : (so_far : Option Given) (end : Option FlowEnd) (c d f : Connection) → ToldAll so_far had end → IsAt r range Waiting so_far c d → Replies had result d f (answer_at r end) → Answers had result c f (answer_at r (with_given so_far end))
    waiting_ends so_far (Some end) c d f told at says = waiting_says so_far end c d f told at says
    waiting_ends None None c d f told at says =
        let P : Connection → Type 0 = λ x. Replies had result x f answer.Nothing in
        replied had result c f answer.Nothing (ap (begun_text r) (sym told.all)) (subst P at says)
    waiting_ends (Some g) None c d f told at says = absurd at

    refused_ends : (so_far : Option Given) (end : Option FlowEnd) (c d f : Connection) → ToldAll so_far had end → IsAt r range Refused so_far c d → Replies had result d f (answer_at r end) → Answers had result c f (answer_at r (with_given so_far end))
    refused_ends so_far (Some end) c d f told at says = refused_says so_far end c d f told at says
    refused_ends None None c d f told at says = absurd at
    refused_ends (Some g) None c d f told at says =
        let P : Connection → Type 0 = λ x. Replies had result x f answer.Nothing in
        silent g answer.Nothing c f told.all refl at.none (subst P at.unwritten says)

    pub unwritten_ends : (progress : Progress) (so_far : Option Given) (end : Option FlowEnd) (c d f : Connection) → (progress ≡ Waiting) ⊎ (progress ≡ Refused) → ToldAll so_far had end → IsAt r range progress so_far c d → Replies had result d f (answer_at r end)
        → Answers had result c f (answer_at r (with_given so_far end))
    unwritten_ends Waiting so_far end c d f which told at says = waiting_ends so_far end c d f told at says
    unwritten_ends Refused so_far end c d f which told at says = refused_ends so_far end c d f told at says
    unwritten_ends (Writing portion) so_far end c d f (inl e) told at says = cc
    unwritten_ends (Writing portion) so_far end c d f (inr e) told at says = cc
    unwritten_ends Failed so_far end c d f (inl e) told at says = cc
    unwritten_ends Failed so_far end c d f (inr e) told at says = cc

  module _ (had : Option Given) where
    -- the same, or a first part of it as memory was wanting
    abbrev pub Ends : Result Bool ServeFault → Connection → Connection → Answer → Type 0
    Ends result c d a = EndsWith (given_text r a had) (closes_of r a) result c d

    -- what was written is all that it gave
    written_silent : (g : Given) (portion : Portion) (a : Answer) (c d : Connection) → Some g ≡ had → a ≡ answer.Nothing → HasWritten r range g portion c d → Answers had (Ok false) c d a
    written_silent g portion a c d all e w =
        let P : List ℕ → Type 0 = Wrote c.written d.written in
        let same : text_with r range g ≡ begun_text r had = sym (begun_is g) ∙ ap (begun_text r) all in
        subst (Answers had (Ok false) c d) (sym e) (said refl (subst P same w.wrote) w.unread w.steady)

    pub writing_silent : (so_far : Option Given) (portion : Portion) (c d : Connection) → ToldAll so_far had None → IsAt r range (Writing portion) so_far c d → Answers had (Ok false) c d answer.Nothing
    writing_silent None portion c d told at = absurd at
    writing_silent (Some g) portion c d told at = written_silent g portion answer.Nothing c d told.all refl at

    -- it ended with no object
    pub writing_ends : (so_far : Option Given) (portion : Portion) (end : FlowEnd) (c d : Connection) → ((version : Version) (meta : Meta) (rest : List ℕ) → end ≡ Found version meta rest → ⊥) → ToldAll so_far had (Some end) → IsAt r range (Writing portion) so_far c d
        → Answers had (Ok false) c d (answer_at r (with_given so_far (Some end)))
    writing_ends None portion end c d other told at = absurd at
    writing_ends (Some g) portion (Found version meta rest) c d other told at = absurd (other version meta rest refl)
    writing_ends (Some g) portion Nothing c d other told at = absurd told.first
    writing_ends (Some g) portion (Stored version meta) c d other told at = written_silent g portion (answer_to r.ask (Stored version meta)) c d told.all (answer_is (Stored version meta)) at
    writing_ends (Some g) portion (Listed rows) c d other told at = written_silent g portion (answer_to r.ask (Listed rows)) c d told.all (answer_is (Listed rows)) at
    writing_ends (Some g) portion (Superseded id) c d other told at = written_silent g portion (answer_to r.ask (Superseded id)) c d told.all (answer_is (Superseded id)) at
    writing_ends (Some g) portion Aborted c d other told at = written_silent g portion (answer_to r.ask Aborted) c d told.all (answer_is Aborted) at

    -- the link failed
    failed_says : (g : Given) (end : Option FlowEnd) (c d : Connection) → IsFirstOf (Some g) (given_with end had) → HasFailed r range g c d → Answers had (Ok false) c d (answer_at r end)
    failed_says g end c d first h =
        let P : List ℕ → Type 0 = λ text. IsPrefixOf text (given_text r (answer_at r end) had) in
        let Q : List ℕ → Type 0 = λ text. IsPrefixOf (begun_text r (Some g)) text in
        cut_short refl (longer c.written d.written (text_with r range g) (given_text r (answer_at r end) had) (subst P (begun_is g) (subst Q (ended r end had) (given_lies r had g end first))) h.part) h.rose

    pub failed_ends : (so_far : Option Given) (end : Option FlowEnd) (c d : Connection) → ToldAll so_far had end → IsAt r range Failed so_far c d → Answers had (Ok false) c d (answer_at r (with_given so_far end))
    failed_ends None end c d told at = absurd at
    failed_ends (Some g) end c d told at = failed_says g (with_given (Some g) end) c d told.first at

    -- ---- it ended with the rest of its object

    -- the answer with an object
    found_said : (g : Given) (whole : Portion) → portion_of range g.meta.size ≡ Some whole → given_text r (answer_to r.ask (Found g.version g.meta g.bytes)) had ≡ text_with r range g
    unfolding answer_text
    found_said g whole some =
        ap (λ a. given_text r a had) (answer_is (Found g.version g.meta g.bytes) ∙ is_found range whole g.version g.meta g.bytes some)
        ∙ ap (λ a. object_text (Some a) g.version g.meta g.bytes r.time r.closes) asked.2

    found_closes : (g : Given) (whole : Portion) → portion_of range g.meta.size ≡ Some whole → closes_of r (answer_to r.ask (Found g.version g.meta g.bytes)) ≡ r.closes
    found_closes g whole some = ap (closes_of r) (answer_is (Found g.version g.meta g.bytes) ∙ is_found range whole g.version g.meta g.bytes some)

    -- the object is the one that was found
    same_object : (g : Given) (version : Version) (meta : Meta) (result : Result Bool ServeFault) (c d : Connection) → g.version ≡ version → g.meta ≡ meta → Ends result c d (answer_to r.ask (Found g.version g.meta g.bytes)) → Ends result c d (answer_to r.ask (Found version meta g.bytes))
    same_object g version meta result c d v m ends =
        let P : Version → Meta → Type 0 = λ v m. Ends result c d (answer_to r.ask (Found v m g.bytes)) in
        subst (λ v. P v meta) v (subst (λ m. P g.version m) m ends)

    -- its rest was written
    rest_ends : (g : Given) (version : Version) (meta : Meta) (rest : List ℕ) (portion : Portion) (result : Result Bool ServeFault) (c d f : Connection) → ToldAll (Some g) had (Some (Found version meta rest)) → HasWritten r range g portion c d
        → EndsWith (text_with r range (with_piece g rest)) r.closes result c f → Ends result c f (answer_at r (with_given (Some g) (Some (Found version meta rest))))
    rest_ends g version meta rest portion result c d f told w ends =
        let all = with_piece g rest in
        let P : List ℕ → Type 0 = λ text. EndsWith text (closes_of r (answer_to r.ask (Found all.version all.meta all.bytes))) result c f in
        let Q : Bool → Type 0 = λ close. EndsWith (text_with r range all) close result c f in
        same_object all version meta result c f told.first.0 told.first.1 (subst P (sym (found_said all w.whole w.some)) (subst Q (sym (found_closes all w.whole w.some)) ends))

    pub rest_on : (so_far : Option Given) (version : Version) (meta : Meta) (rest : List ℕ) (portion : Portion) (result : Result Bool ServeFault) (o m n : Option Connection) → ToldAll so_far had (Some (Found version meta rest))
        → OnPresent (IsAt r range (Writing portion) so_far) o m → ((g : Given) → OnPresent (HasWritten r range g portion) o m → OnPresent (EndsWith (text_with r range (with_piece g rest)) r.closes result) o n)
        → OnPresent (λ c d. Ends result c d (answer_at r (with_given so_far (Some (Found version meta rest))))) o n
    rest_on None version meta rest portion result o m n told at ends = on_never (IsAt r range (Writing portion) None) (λ c d. Ends result c d (answer_at r (with_given None (Some (Found version meta rest))))) o m n (λ c d h. h) at
    rest_on (Some g) version meta rest portion result o m n told at ends =
        on_present_two (HasWritten r range g portion) (EndsWith (text_with r range (with_piece g rest)) r.closes result) (λ c d. Ends result c d (answer_at r (with_given (Some g) (Some (Found version meta rest))))) o m n
        (λ c d f w e. rest_ends g version meta rest portion result c d f told w e) at (ends g at)
