-- What is written of a first part of an object's bytes is a first part of what is written of all of them.
use Rattle.std.proofs.Common.{◌≡◌, ℕ, zero, suc, Bool, Option, Some, None, List, [], ◌∷◌, ◌++◌, take, drop, refl, sym, ap, ◌∙◌, append_assoc, append-nil, subst}
use Rattle.crdt_rows.specs.declared.version.Version.{Version}
use Rattle.crdt_rows.specs.declared.body.Meta.{Meta}
use Rattle.flow_model.specs.declared.flow.FlowEnd.{FlowEnd}
use Rattle.flow_model.specs.declared.flow.FlowEnd.TheVariants.{Stored, Found, Nothing, Listed, Superseded, Aborted}
use Rattle.s3_model.specs.declared.ask.Ask.{Ask}
use Rattle.s3_model.specs.declared.ask.Ask.TheVariants as ask
use Rattle.s3_model.specs.declared.ask.Range.{Range}
use Rattle.s3_model.specs.declared.reply.Reply.TheVariants as reply
use Rattle.s3_model.specs.declared.fault.Code.TheVariants.{InvalidRange}
use Rattle.s3_model.specs.Answer.{object_lines, part_lines, count_of, part_text, found_text, answer_text}
use Rattle.s3_model.specs.Lines.{head_of}
use Rattle.s3_model.specs.Ranges.{span_of}
use Rattle.serve_model.specs.declared.answer.Answer.{Answer}
use Rattle.serve_model.specs.declared.answer.Answer.TheVariants as answer
use Rattle.serve_model.specs.declared.request.Request.{Request}
use Rattle.serve_model.specs.Stores.{Given, IsFirstOf, given_with}
use Rattle.serve_model.specs.Connections.{IsPrefixOf}
use Rattle.serve_model.specs.Judging.{answer_to}
use Rattle.serve_model.specs.Talk.{get_text, begun_text, given_text}

module _ {A : Type 0} where
  -- all is a first part of itself, and of itself with more
  pub prefix_all : (xs : List A) → IsPrefixOf xs xs
  prefix_all xs = ([], append-nil xs)

  pub prefix_more : (front xs ys : List A) → IsPrefixOf front xs → IsPrefixOf front (xs ++ ys)
  prefix_more front xs ys h = (h.0 ++ ys, sym (append_assoc front h.0 ys) ∙ ap (λ x. x ++ ys) h.1)

  -- the same comes before both
  pub prefix_behind : (xs front ys : List A) → IsPrefixOf front ys → IsPrefixOf (xs ++ front) (xs ++ ys)
  prefix_behind xs front ys h = (h.0, append_assoc xs front h.0 ∙ ap (λ x. xs ++ x) h.1)

  -- a part from one place on is longer where there is more
  pub dropped_more : (n : ℕ) (xs ys : List A) → IsPrefixOf (drop n xs) (drop n (xs ++ ys))
  dropped_more zero xs ys = (ys, refl)
  dropped_more (suc n) [] ys = (drop (suc n) ys, refl)
  dropped_more (suc n) (x ∷ xs) ys = dropped_more n xs ys

  -- so many of a first part are the first of so many
  pub taken_more : (n : ℕ) (front all : List A) → IsPrefixOf front all → IsPrefixOf (take n front) (take n all)
  taken_more zero front all h = ([], refl)
  taken_more (suc n) [] all h = (take (suc n) all, refl)
  taken_more (suc n) (x ∷ front) all h =
      let k = taken_more n front (front ++ h.0) (h.0, refl) in
      subst (λ (xs : List A). IsPrefixOf (x ∷ take n front) (take (suc n) xs)) h.1 (k.0, ap (λ (xs : List A). x ∷ xs) k.1)

module _ (version : Version) (meta : Meta) (front rest : List ℕ) (now : ℕ) (close : Bool) where
  part_more : (span : Option (ℕ × ℕ)) → IsPrefixOf (part_text span version meta front now close) (part_text span version meta (front ++ rest) now close)
  part_more None = ([], refl)
  part_more (Some span) =
      prefix_behind (head_of 206 now (part_lines span version meta) close) (take (count_of span) (drop span.0 front)) (take (count_of span) (drop span.0 (front ++ rest)))
      (taken_more (count_of span) (drop span.0 front) (drop span.0 (front ++ rest)) (dropped_more span.0 front rest))

  -- of an object, with a range or without
  pub found_more : (range : Option Range) → IsPrefixOf (found_text range version meta front now close) (found_text range version meta (front ++ rest) now close)
  found_more None = prefix_behind (head_of 200 now (object_lines meta.size version meta) close) front (front ++ rest) (rest, refl)
  found_more (Some range) = part_more (span_of range meta.size)

module _ (now : ℕ) (close : Bool) where
  -- what was given is the first of what is given in all: so are the answers
  first_found : (range : Option Range) (g h : Given) → IsFirstOf (Some g) (Some h) → IsPrefixOf (found_text range g.version g.meta g.bytes now close) (found_text range h.version h.meta h.bytes now close)
  first_found range g h first =
      let P : Version → Meta → List ℕ → Type 0 = λ v m bytes. IsPrefixOf (found_text range g.version g.meta g.bytes now close) (found_text range v m bytes now close) in
      subst (λ (v : Version). P v h.meta h.bytes) first.0
      (subst (λ (m : Meta). P g.version m h.bytes) first.1
      (subst (λ (bytes : List ℕ). P g.version g.meta bytes) first.2.1 (found_more g.version g.meta g.bytes first.2.0 now close range)))

  pub first_got : (a : Ask) (g h : Given) → IsFirstOf (Some g) (Some h) → IsPrefixOf (get_text a g now close) (get_text a h now close)
  first_got (ask.Get bucket key range) g h first = first_found range g h first
  first_got ask.ListBuckets g h first = ([], refl)
  first_got (ask.HeadBucket bucket) g h first = ([], refl)
  first_got (ask.List bucket list delimiter url token start) g h first = ([], refl)
  first_got (ask.BadList bucket) g h first = ([], refl)
  first_got (ask.Head bucket key range) g h first = ([], refl)
  first_got (ask.Delete bucket key) g h first = ([], refl)
  first_got (ask.Put bucket key length md5 headers) g h first = ([], refl)
  first_got (ask.Copy from bucket key headers) g h first = ([], refl)

-- what is written once an order has ended so, where no count is passed
abbrev pub end_text : Request → Option FlowEnd → Option Given → List ℕ
end_text r None had = given_text r answer.Nothing had
end_text r (Some end) had = given_text r (answer_to r.ask end) had

module _ (r : Request) (had : Option Given) (g : Given) where
  abbrev asking : Ask → Request
  asking a = record r { ask = a }

  abbrev got : Ask → List ℕ
  got a = get_text a g r.time r.closes

  -- it had no answer
  unanswered : (a : Ask) (given : Option Given) → IsFirstOf (Some g) given → IsPrefixOf (got a) (begun_text (asking a) given)
  unanswered a None first = absurd first
  unanswered a (Some h) first = first_got r.time r.closes a g h first

  -- it is answered with a part of the object, or its range is none of it
  in_part : (bucket key : List ℕ) (range : Range) (h : Given) → IsFirstOf (Some g) (Some h) →
      IsPrefixOf (got (ask.Get bucket key (Some range))) (end_text (asking (ask.Get bucket key (Some range))) (Some (Found h.version h.meta h.bytes)) had)
  unfolding answer_text
  in_part bucket key range h first =
      let a : Ask = ask.Get bucket key (Some range) in
      let as_got : IsPrefixOf (got a) (get_text a h r.time r.closes) = first_got r.time r.closes a g h first in
      let found : Answer = answer.Reply (reply.Found h.version h.meta h.bytes) in
      let refused : Answer = answer.Refusal InvalidRange in
      elim (span_of range h.meta.size) as (λ o. span_of range h.meta.size ≡ o → IsPrefixOf (got a) (given_text (asking a) (elim o as (λ o. Answer) [ None ↦ refused | Some span ↦ found ]) had)) [
        | None ↦ λ e.
            let none : IsPrefixOf (got a) [] = subst (λ (o : Option (ℕ × ℕ)). IsPrefixOf (got a) (part_text o h.version h.meta h.bytes r.time r.closes)) e as_got in
            prefix_more (got a) [] (given_text (asking a) refused had) none
        | Some span ↦ λ e. as_got
      ] refl

  -- what a get had given is a first part of what is written once it has ended
  lies_in_end : (a : Ask) (end : Option FlowEnd) → IsFirstOf (Some g) (given_with end had) → IsPrefixOf (got a) (end_text (asking a) end had)
  unfolding answer_text
  lies_in_end (ask.Get bucket key range) None first = unanswered (ask.Get bucket key range) had first
  lies_in_end (ask.Get bucket key None) (Some (Found version meta body)) first = first_got r.time r.closes (ask.Get bucket key None) g (record { version = version; meta = meta; bytes = body }) first
  lies_in_end (ask.Get bucket key (Some range)) (Some (Found version meta body)) first = in_part bucket key range (record { version = version; meta = meta; bytes = body }) first
  lies_in_end (ask.Get bucket key range) (Some Nothing) first = absurd first
  lies_in_end (ask.Get bucket key range) (Some (Stored version meta)) first = unanswered (ask.Get bucket key range) had first
  lies_in_end (ask.Get bucket key range) (Some (Listed rows)) first = unanswered (ask.Get bucket key range) had first
  lies_in_end (ask.Get bucket key range) (Some (Superseded id)) first = unanswered (ask.Get bucket key range) had first
  lies_in_end (ask.Get bucket key range) (Some Aborted) first = unanswered (ask.Get bucket key range) had first
  lies_in_end ask.ListBuckets end first = (end_text (asking ask.ListBuckets) end had, refl)
  lies_in_end (ask.HeadBucket bucket) end first = (end_text (asking (ask.HeadBucket bucket)) end had, refl)
  lies_in_end (ask.List bucket list delimiter url token start) end first = (end_text (asking (ask.List bucket list delimiter url token start)) end had, refl)
  lies_in_end (ask.BadList bucket) end first = (end_text (asking (ask.BadList bucket)) end had, refl)
  lies_in_end (ask.Head bucket key range) end first = (end_text (asking (ask.Head bucket key range)) end had, refl)
  lies_in_end (ask.Delete bucket key) end first = (end_text (asking (ask.Delete bucket key)) end had, refl)
  lies_in_end (ask.Put bucket key length md5 headers) end first = (end_text (asking (ask.Put bucket key length md5 headers)) end had, refl)
  lies_in_end (ask.Copy from bucket key headers) end first = (end_text (asking (ask.Copy from bucket key headers)) end had, refl)

  pub given_lies : (end : Option FlowEnd) → IsFirstOf (Some g) (given_with end had) → IsPrefixOf (begun_text r (Some g)) (end_text r end had)
  given_lies end first = lies_in_end r.ask end first
