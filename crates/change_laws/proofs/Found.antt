-- What an answer to a walk does at its node: the walk that awaits it goes on, or nothing happens. Rows stay.
use Rattle.std.specs.Prelude.{◌≡◌, ◌⊎◌, ℕ, true, false, cond, ◌==◌, ◌++◌, ◌∷◌, Option, Some, None, List, [], refl}
use Rattle.std.proofs.Common.{ap, sym, subst, ◌∙◌, inl, inr}
use Rattle.std.proofs.lemmas.Bool.{eq-eqb}
use Rattle.blake2_hash.specs.declared.digest.Hash32.{Hash32}
use Rattle.table_schema.specs.Words.{Words}
use Rattle.walk_model.specs.Walking.{is_open}
use Rattle.cluster_machine.specs.Layouts.{Layouts}
use Rattle.cluster_machine.specs.Node.{Node, Round, Mending, Walk, Did, quiet}
use Rattle.cluster_machine.specs.Receives.{round_came}
use Rattle.cluster_machine.specs.Rounds.{is_complete, walk_at, walks_after, found_same, asked_after, walk_after, sends_after, synced, goes_on, round_walks, mending_walks, at_walk, mending_came, with_mending, with_lasting, late_came, answer_came}
use Rattle.change_laws.specs.Rounds.{walks_in, HasNumber}

module _ {R : Type 0} (join : R → R → R) (s : Words R) {L : Type 0} (k : Layouts L) where
  -- what a node has is as it was
  pub record SameRows (x y : Node R L) : Type 0 where
    pub accepted : y.accepted ≡ x.accepted
    pub items : y.items ≡ x.items
    pub blocks : y.blocks ≡ x.blocks

  same_rows : (x : Node R L) → SameRows x x
  same_rows x = record { accepted = refl; items = refl; blocks = refl }

  -- a round goes on: rows and walks stay
  pub goes_same : (id : ℕ) (x : Node R L) (round : Round) → SameRows x (goes_on join s k id x round)
  goes_same id x round = elim (is_complete round) as (λ b. SameRows x (cond b (synced join s k id x round) (record x { round = Some round }))) [ true ↦ record { accepted = refl; items = refl; blocks = refl } | false ↦ record { accepted = refl; items = refl; blocks = refl } ]

  pub goes_walks : (id : ℕ) (x : Node R L) (round : Round) → walks_in (goes_on join s k id x round).round (goes_on join s k id x round).lasting ≡ round.walks
  goes_walks id x round = elim (is_complete round) as (λ b. walks_in (cond b (synced join s k id x round) (record x { round = Some round })).round (cond b (synced join s k id x round) (record x { round = Some round })).lasting ≡ round.walks) [ true ↦ refl | false ↦ refl ]

  -- ---- a confirmation

  module _ (id : ℕ) (x : Node R L) (from number p : ℕ) where
    -- rows and walks stay, and nothing is sent
    pub record IsCalmly (d : Did R L) : Type 0 where
      pub rows : SameRows x d.node
      pub walks : walks_in d.node.round d.node.lasting ≡ walks_in x.round x.lasting
      pub posts : d.posts ≡ []

    came_by : (o : Option Round) → x.round ≡ o → IsCalmly (round_came join s k id x from number p o)
    came_by None e = record { rows = same_rows x; walks = refl; posts = refl }
    came_by (Some round) e =
        let more : Round = record round { confirmed = round.confirmed ++ record { partition = p; node = from } ∷ [] } in
        elim (round.number == number) as (λ b. IsCalmly (cond b (quiet (goes_on join s k id x more)) (quiet x))) [
          | true ↦ record { rows = goes_same id x more; walks = goes_walks id x more ∙ sym (ap (λ o. walks_in o x.lasting) e); posts = refl }
          | false ↦ record { rows = same_rows x; walks = refl; posts = refl }
        ]

    pub came_calmly : IsCalmly (round_came join s k id x from number p x.round)
    came_calmly = came_by x.round refl

  -- ---- an answer

  module _ (id : ℕ) (x : Node R L) (from i p table : ℕ) (prefix : List ℕ) (answer : Option (List (ℕ × Hash32))) where
    abbrev walks : List Walk
    walks = walks_in x.round x.lasting

    -- no walk awaits it, and nothing happens
    pub record IsIgnored (d : Did R L) : Type 0 where
      pub is : d ≡ quiet x

    -- a walk awaits it, and goes on
    pub record IsFound (d : Did R L) : Type 0 where
      pub walk : Walk
      pub is_there : walk_at p from (walks_in x.round x.lasting) ≡ Some walk
      pub rows : SameRows x d.node
      pub walks_now : walks_in d.node.round d.node.lasting ≡ walks_after (walk_after join s x walk table prefix answer) (walks_in x.round x.lasting)
      pub posts : d.posts ≡ sends_after join s k x i (walk_after join s x walk table prefix answer) table (asked_after join s x walk.state.partition table prefix answer)

    abbrev pub Either : Did R L → Type 0
    Either d = IsIgnored d ⊎ IsFound d

    round_found : (round : Round) → x.round ≡ Some round → round.number ≡ i → (w : Walk) → walk_at p from round.walks ≡ Some w → IsFound (round_walks join s k id x table prefix answer round w)
    round_found round e same w there =
        let gone : Walk = walk_after join s x w table prefix answer in
        let now : Round = record round { walks = walks_after gone round.walks } in
        let more : Round = record now { confirmed = round.confirmed ++ record { partition = w.state.partition; node = w.node } ∷ [] } in
        let so : walks_in x.round x.lasting ≡ round.walks = ap (λ o. walks_in o x.lasting) e in
        record {
          walk = w;
          is_there = ap (walk_at p from) so ∙ there;
          rows = elim (found_same gone) as (λ t. SameRows x (cond t (goes_on join s k id x more) (record x { round = Some now }))) [ true ↦ goes_same id x more | false ↦ record { accepted = refl; items = refl; blocks = refl } ];
          walks_now = elim (found_same gone) as (λ t. walks_in (cond t (goes_on join s k id x more) (record x { round = Some now })).round (cond t (goes_on join s k id x more) (record x { round = Some now })).lasting ≡ walks_after gone (walks_in x.round x.lasting)) [
            | true ↦ goes_walks id x more ∙ ap (walks_after gone) (sym so)
            | false ↦ ap (walks_after gone) (sym so)
          ];
          posts = ap (λ j. sends_after join s k x j gone table (asked_after join s x w.state.partition table prefix answer)) same;
        }

    lasting_found : (lasting : Mending) → x.round ≡ None → x.lasting ≡ Some lasting → lasting.number ≡ i → (w : Walk) → walk_at p from lasting.walks ≡ Some w → IsFound (mending_walks join s k x (with_lasting join s k x) table prefix answer lasting w)
    lasting_found lasting e f same w there =
        let gone : Walk = walk_after join s x w table prefix answer in
        let so : walks_in x.round x.lasting ≡ lasting.walks = ap (λ o. walks_in o x.lasting) e ∙ ap (λ o. walks_in None o) f in
        record {
          walk = w;
          is_there = ap (walk_at p from) so ∙ there;
          rows = record { accepted = refl; items = refl; blocks = refl };
          walks_now = ap (λ o. walks_in o (Some (record lasting { walks = walks_after gone lasting.walks }))) e ∙ ap (walks_after gone) (sym so);
          posts = ap (λ j. sends_after join s k x j gone table (asked_after join s x w.state.partition table prefix answer)) same;
        }

    at_by : (f : Walk → Did R L) (ws : List Walk) (o : Option Walk) → walk_at p from ws ≡ o → ((w : Walk) → walk_at p from ws ≡ Some w → IsFound (f w)) → Either (at_walk join s k x table prefix f o)
    at_by f ws None e h = inl (record { is = refl })
    at_by f ws (Some w) e h = elim (is_open table prefix w.state.prefixes) as (λ t. Either (cond t (f w) (quiet x))) [ true ↦ inr (h w e) | false ↦ inl (record { is = refl }) ]

    answer_by : (o : Option Round) (q : Option Mending) → x.round ≡ o → x.lasting ≡ q → HasNumber i o q → Either (answer_came join s k id x from i p table prefix answer o)
    answer_by None None e f h = elim h [ ]
    answer_by None (Some lasting) e f h =
        let other = mending_came join s k x (with_mending join s k x) (quiet x) from i p table prefix answer x.mending in
        subst (λ o. Either (mending_came join s k x (with_lasting join s k x) other from i p table prefix answer o)) (sym f)
        (subst (λ t. Either (cond t (at_walk join s k x table prefix (mending_walks join s k x (with_lasting join s k x) table prefix answer lasting) (walk_at p from lasting.walks)) other)) (sym (eq-eqb lasting.number i h))
        (at_by (mending_walks join s k x (with_lasting join s k x) table prefix answer lasting) lasting.walks (walk_at p from lasting.walks) refl (λ w there. lasting_found lasting e f h w there)))
    answer_by (Some round) q e f h =
        subst (λ t. Either (cond t (at_walk join s k x table prefix (round_walks join s k id x table prefix answer round) (walk_at p from round.walks)) (late_came join s k x from i p table prefix answer))) (sym (eq-eqb round.number i h))
        (at_by (round_walks join s k id x table prefix answer round) round.walks (walk_at p from round.walks) refl (λ w there. round_found round e h w there))

    pub answer_does : HasNumber i x.round x.lasting → Either (answer_came join s k id x from i p table prefix answer x.round)
    answer_does h = answer_by x.round x.lasting refl refl h
