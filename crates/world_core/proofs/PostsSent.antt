-- Messages that are sent one after the other: what they count together, and the line of each.
use Rattle.std.proofs.Common.{◌≡◌, ℕ, suc, ◌+◌, List, [], ◌∷◌, ◌++◌, length, refl, sym, ap, ap₂, ◌∙◌, subst, arith}
use Rattle.std.proofs.lemmas.List.{append_assoc, append-nil, map-append, nil_from_length}
use Rattle.std.specs.List.{AllZip}
use Rattle.layout_roles.specs.declared.layout.Layout.{Layout}
use Rattle.table_schema.specs.Words.{Words}
use Rattle.wire_messages.specs.Size.{plus}
use Rattle.cluster_machine.specs.World.{Sent, Mark, sent_bytes}
use Rattle.cluster_machine.specs.Fits.{IsWord}
use Rattle.world_core.specs.declared.post.Post.{Post}
use Rattle.world_core.proofs.Posts.{sent_bytes_append, word_left}
use Rattle.cluster_machine.specs.declared.line.Line.{Line}
use Rattle.cluster_machine.specs.declared.line.Line.TheVariants.{Sent as WasSent}
use Rattle.node_parts.specs.declared.packet.Envelope.{Envelope}
use Rattle.cluster_machine.specs.declared.applied.Applied.{Applied}
use Rattle.world_core.specs.Parts.{kind_of, lines_from, IsPost, IsSent, AreSent, not_yet}

pub taken : {A : Type 0} (xs ys all : List A) → xs ++ ys ≡ all → length ys ≡ 0 → all ≡ xs
taken xs ys all e none = sym e ∙ ap (xs ++◌) (nil_from_length ys none) ∙ append-nil xs

record SplitAt {A B : Type 0} (P : A → B → Type 0) (xs : List A) (x : A) (rest : List A) (ys : List B) : Type 0 where
  pub front : List B
  pub here : B
  pub back : List B
  pub is : ys ≡ front ++ here ∷ back
  pub fronts : AllZip P xs front
  pub at : P x here
  pub backs : AllZip P rest back

zip_split : {A B : Type 0} (P : A → B → Type 0) (xs : List A) (x : A) (rest : List A) (ys : List B) → AllZip P (xs ++ x ∷ rest) ys → SplitAt P xs x rest ys
zip_split P [] x rest [] z = absurd z
zip_split P [] x rest (y ∷ ys) z = record { front = []; here = y; back = ys; is = refl; fronts = tt; at = z.0; backs = z.1 }
zip_split P (a ∷ xs) x rest [] z = absurd z
zip_split P (a ∷ xs) x rest (y ∷ ys) z =
    let s = zip_split P xs x rest ys z.1 in
    record { front = y ∷ s.front; here = s.here; back = s.back; is = ap (◌∷◌ y) s.is; fronts = (z.0, s.fronts); at = s.at; backs = s.backs }

lines_append : {R : Type 0} (n : ℕ) (es fs : List (Envelope R)) → lines_from n (es ++ fs) ≡ lines_from n es ++ lines_from (n + length es) fs
lines_append n [] fs = ap (λ k. lines_from k fs) (omega arith)
lines_append n (e ∷ es) fs = ap (◌∷◌ (WasSent n (kind_of e.packet) e.from e.to)) (lines_append (suc n) es fs ∙ ap (λ k. lines_from (suc n) es ++ lines_from k fs) (omega arith))

none_left : {A B : Type 0} (P : A → B → Type 0) (ys : List B) → AllZip P [] ys → ys ≡ []
none_left P [] z = refl
none_left P (y ∷ ys) z = absurd z

module _ {R : Type 0} where
  -- whatever messages the old post stood for, the new one stands for them and these
  abbrev pub Sends : Words R → Post R → Post R → List (Envelope R) → Type 0
  Sends s old new es = (messages : List (Sent R Layout)) (marks : List Mark) (sent : List (Sent R Layout)) → IsPost s old messages marks → AreSent es sent → IsPost s new (messages ++ sent) (marks ++ not_yet sent)

  abbrev Puts : Words R → Post R → Post R → Envelope R → Type 0
  Puts s old new e = (messages : List (Sent R Layout)) (marks : List Mark) (m : Sent R Layout) → IsPost s old messages marks → IsSent e m → IsPost s new (messages ++ m ∷ []) (marks ++ not_yet (m ∷ []))

  -- no post has room for these too
  abbrev CannotPut : Words R → Post R → Envelope R → Type 0
  CannotPut s post e = (messages : List (Sent R Layout)) (marks : List Mark) (m : Sent R Layout) → IsPost s post messages marks → IsSent e m → IsWord (sent_bytes s (messages ++ m ∷ [])) → ⊥

  abbrev CannotSend : Words R → Post R → List (Envelope R) → Type 0
  CannotSend s post es = (messages : List (Sent R Layout)) (marks : List Mark) (sent : List (Sent R Layout)) → IsPost s post messages marks → AreSent es sent → IsWord (sent_bytes s (messages ++ sent)) → ⊥

  pub sends_none : (s : Words R) (post : Post R) → Sends s post post []
  sends_none s post messages marks sent p are =
      let e : [] ≡ sent = sym (none_left IsSent sent are) in
      subst (λ ms. IsPost s post (messages ++ ms) (marks ++ not_yet ms)) e (subst (λ ms. IsPost s post ms (marks ++ [])) (sym (append-nil messages)) (subst (IsPost s post messages) (sym (append-nil marks)) p))

  pub sends_more : (s : Words R) (old mid new : Post R) (es : List (Envelope R)) (e : Envelope R) → Sends s old mid es → Puts s mid new e → Sends s old new (es ++ e ∷ [])
  sends_more s old mid new es e sends puts messages marks sent p are =
      let at = zip_split IsSent es e [] sent are in
      let all : at.front ++ at.here ∷ [] ≡ sent = ap (λ back. at.front ++ at.here ∷ back) (sym (none_left IsSent at.back at.backs)) ∙ sym at.is in
      let q : IsPost s new ((messages ++ at.front) ++ at.here ∷ []) ((marks ++ not_yet at.front) ++ not_yet (at.here ∷ [])) =
      puts (messages ++ at.front) (marks ++ not_yet at.front) at.here (sends messages marks at.front p at.fronts) at.at in
      let marks_are : (marks ++ not_yet at.front) ++ not_yet (at.here ∷ []) ≡ marks ++ not_yet (at.front ++ at.here ∷ []) =
      append_assoc marks (not_yet at.front) (not_yet (at.here ∷ [])) ∙ ap (marks ++◌) (sym (map-append _ at.front (at.here ∷ []))) in
      subst (λ ms. IsPost s new (messages ++ ms) (marks ++ not_yet ms)) all
      (subst (λ ms. IsPost s new ms (marks ++ not_yet (at.front ++ at.here ∷ []))) (append_assoc messages at.front (at.here ∷ []))
      (subst (IsPost s new ((messages ++ at.front) ++ at.here ∷ [])) marks_are q))

  pub cannot_send : (s : Words R) (old mid : Post R) (es : List (Envelope R)) (e : Envelope R) (rest all : List (Envelope R)) → Sends s old mid es → es ++ e ∷ rest ≡ all → CannotPut s mid e → CannotSend s old all
  cannot_send s old mid es e rest all sends is cannot messages marks sent p are word =
      let at = zip_split IsSent es e rest sent (subst (λ xs. AreSent xs sent) (sym is) are) in
      let before : List (Sent R Layout) = (messages ++ at.front) ++ at.here ∷ [] in
      let total : messages ++ sent ≡ before ++ at.back =
      ap (messages ++◌) at.is ∙ sym (append_assoc messages at.front (at.here ∷ at.back)) ∙ sym (append_assoc (messages ++ at.front) (at.here ∷ []) at.back) in
      let part : IsWord (plus (sent_bytes s before) (sent_bytes s at.back)) = subst IsWord (ap (sent_bytes s) total ∙ sent_bytes_append s before at.back) word in
      cannot (messages ++ at.front) (marks ++ not_yet at.front) at.here (sends messages marks at.front p at.fronts) at.at (word_left (sent_bytes s before) (sent_bytes s at.back) part)

  pub told_more : (old mid new : List (Line Applied)) (n k : ℕ) (es : List (Envelope R)) (e : Envelope R) → mid ≡ old ++ lines_from n es → new ≡ mid ++ lines_from k (e ∷ []) → k ≡ n + length es →
      new ≡ old ++ lines_from n (es ++ e ∷ [])
  told_more old mid new n k es e before put at =
      put ∙ ap₂ (λ xs i. xs ++ lines_from i (e ∷ [])) before at ∙ append_assoc old (lines_from n es) (lines_from (n + length es) (e ∷ [])) ∙ ap (old ++◌) (sym (lines_append n es (e ∷ [])))
