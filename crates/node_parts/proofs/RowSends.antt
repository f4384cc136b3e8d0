-- The stores of a phase's rows, one row after the other.
use Rattle.std.proofs.Common.{◌≡◌, ◌<◌, ℕ, suc, ◌+◌, true, ◌&&◌, Option, List, [], ◌∷◌, ◌++◌, map, length, get_or, take, sym, ap, ◌∙◌, subst, append_assoc, length-append, arith}
use Rattle.std.specs.List.{list_all}
use Rattle.std.proofs.lemmas.List.{map-append, take_more, length-take-le}
use Rattle.std.proofs.lemmas.List.Folds.{list_all_more}
use Rattle.layout_roles.specs.declared.layout.Layout.{Layout}
use Rattle.layout_history.specs.declared.view.View.{View}
use Rattle.view_model.specs.Layouts.{reading}
use Rattle.layout_history.specs.Views.{known}
use Rattle.view_model.specs.View.{View as Known, oldest, newest}
use Rattle.table_schema.specs.Words.{Words, partition_of}
use Rattle.quorum_model.specs.Quorum.{StoreSlot}
use Rattle.quorum_tally.specs.declared.tally.Tally.{Tally}
use Rattle.quorum_tally.specs.Stands.{Tallies}
use Rattle.write_call.specs.Stands.{AreTallies}
use Rattle.wire_messages.specs.declared.message.Message.TheVariants.{Store}
use Rattle.wire_messages.specs.declared.message.Tag.TheVariants.{Call}
use Rattle.cluster_machine.specs.Layouts.{stored_sets, layouts}
use Rattle.cluster_machine.specs.Node.{Post}
use Rattle.cluster_machine.specs.Phases.{bytes_of, is_spelled, nodes_of, to_each, stores, slots_of}
use Rattle.node_parts.specs.declared.begin.Beginning.{Beginning}
use Rattle.node_parts.specs.declared.packet.Envelope.{Envelope}
use Rattle.node_parts.specs.Posts.{posted, Posts}
use Rattle.node_parts.specs.Begins.{Stores}
use Rattle.node_parts.proofs.Posting.{posts_more}

tallies_more : (ts : List Tally) (ss : List StoreSlot) (t : Tally) (s : StoreSlot) → AreTallies ts ss → Tallies t s.first s.sets s.nodes → AreTallies (ts ++ t ∷ []) (ss ++ s ∷ [])
tallies_more [] [] t s all last = (last, tt)
tallies_more [] (r ∷ ss) t s all last = absurd all
tallies_more (u ∷ ts) [] t s all last = absurd all
tallies_more (u ∷ ts) (r ∷ ss) t s all last = (all.0, tallies_more ts ss t s all.1 last)

length_min : {A : Type 0} (i : ℕ) (xs : List A) → i < length xs → i ≡ 0 + length (take i xs)
length_min i xs lt = let few : length (take i xs) ≡ i = length-take-le i xs (omega arith) in omega arith

length_push : {A : Type 0} (xs : List A) (x : A) (i : ℕ) → length xs ≡ i → length (xs ++ x ∷ []) ≡ i + 1
length_push xs x i e = let more : length (xs ++ x ∷ []) ≡ length xs + 1 = length-append xs (x ∷ []) in omega arith

module _ {R : Type 0} (s : Words R) where
  abbrev Row : Type 0
  Row = R × Option (List ℕ)

  abbrev row_sends : Known Layout → ℕ → ℕ → ℕ → Row → List (Post R Layout)
  row_sends v request phase slot r = to_each (nodes_of (stored_sets layouts v (partition_of s r.0))) (Store (Call request phase slot) (newest reading v) (partition_of s r.0) ((bytes_of s r.0, r.1) ∷ []))

  stores_more : (v : Known Layout) (request phase slot : ℕ) (rs : List Row) (r : Row) →
      stores s layouts v request phase slot (rs ++ r ∷ []) ≡ stores s layouts v request phase slot rs ++ stores s layouts v request phase (slot + length rs) (r ∷ [])
  stores_more v request phase slot [] r = let here : slot ≡ slot + 0 = omega arith in ap (λ n. stores s layouts v request phase n (r ∷ [])) here
  stores_more v request phase slot (q ∷ rs) r =
      let next : suc slot + length rs ≡ slot + length (q ∷ rs) = omega arith in
      ap (λ posts. row_sends v request phase slot q ++ posts) (stores_more v request phase (suc slot) rs r)
      ∙ sym (append_assoc (row_sends v request phase slot q) (stores s layouts v request phase (suc slot) rs) (stores s layouts v request phase (suc slot + length rs) (r ∷ [])))
      ∙ ap (λ n. stores s layouts v request phase slot (q ∷ rs) ++ stores s layouts v request phase n (r ∷ [])) next

  -- the first `count` rows were sent
  pub record Sent (b : Beginning) (view : View) (rows : List Row) (old new : List (Envelope R)) (tallies : List Tally) (count : ℕ) : Type 0 where
    pub counted : length tallies ≡ count
    pub posts : Posts b.node old new (stores s layouts (known view) b.request b.phase 0 (take count rows))
    pub stand : AreTallies tallies (slots_of s layouts (known view) (take count rows))
    pub spelled : list_all (λ r. is_spelled s r.0) (take count rows) ≡ true

  pub next_sent : (b : Beginning) (view : View) (rows : List Row) (old mid new : List (Envelope R)) (tallies after : List Tally) (tally : Tally) (i n : ℕ) (d : Row) → i < length rows → d ≡ get_or rows i d →
      Sent b view rows old mid tallies i → after ≡ tallies ++ tally ∷ [] → Stores s b view n d mid new tally → n ≡ i → Sent b view rows old new after (i + 1)
  next_sent b view rows old mid new tallies after tally i n d lt is before pushed stored n_is =
      let r = get_or rows i d in
      let one : Stores s b view i r mid new tally = subst (λ (q : Row). Stores s b view i q mid new tally) is (subst (λ k. Stores s b view k d mid new tally) n_is stored) in
      let few = length_min i rows lt in
      let one_posts : Posts b.node mid new (stores s layouts (known view) b.request b.phase (0 + length (take i rows)) (r ∷ [])) =
      one.posts ∙ (λ j. map posted mid ++ map (λ m. (b.node, m)) (stores s layouts (known view) b.request b.phase (few j) (r ∷ []))) in
      let all_posts = posts_more b.node old mid new (stores s layouts (known view) b.request b.phase 0 (take i rows)) (stores s layouts (known view) b.request b.phase (0 + length (take i rows)) (r ∷ [])) before.posts one_posts in
      let more = take_more rows i d lt in
      let more_sent : Sent b view rows old new (tallies ++ tally ∷ []) (i + 1) = record {
        counted = length_push tallies tally i before.counted;
        posts = all_posts ∙ ap (λ posts. map posted old ++ map (λ m. (b.node, m)) posts) (sym (stores_more (known view) b.request b.phase 0 (take i rows) r) ∙ ap (stores s layouts (known view) b.request b.phase 0) (sym more));
        stand = subst (λ slots. AreTallies (tallies ++ tally ∷ []) slots) (sym (ap (slots_of s layouts (known view)) more ∙ map-append (λ r. record { first = oldest reading (known view); sets = stored_sets layouts (known view) (partition_of s r.0); nodes = [] }) (take i rows) (r ∷ []))) (tallies_more tallies (slots_of s layouts (known view) (take i rows)) tally (record { first = oldest reading (known view); sets = stored_sets layouts (known view) (partition_of s r.0); nodes = [] }) before.stand one.confirmed);
        spelled = list_all_more (λ r. is_spelled s r.0) rows i d lt ∙ (λ j. before.spelled j && one.spelled j);
      } in
      subst (λ ts. Sent b view rows old new ts (i + 1)) (sym pushed) more_sent
