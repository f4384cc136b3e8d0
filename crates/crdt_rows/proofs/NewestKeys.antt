-- The newest final key is the greatest of the final ones, and has a final value.
use Rattle.std.specs.List.{list_any}
use Rattle.std.specs.Prelude.{unwrap_or, is_some, ◌≡◌, Bool, true, false, cond, not, ◌||◌, List, [], ◌∷◌, Option, Some, None, refl}
use Rattle.std.proofs.Common.{ap, sym, subst, ◌∙◌}
use Rattle.std.specs.declared.cmp.Ordering.{Ordering}
use Rattle.std.specs.declared.cmp.Ordering.TheVariants.{Less, Equal, Greater}
use Rattle.std.specs.Cmp.{IsTotalOrder, tied_itself}
use Rattle.std.specs.Ordering.{is_lt}
use Rattle.crdt_core.specs.Orders.{Identifies}
use Rattle.crdt_core.specs.Lex.{by_order, larger}
use Rattle.crdt_core.specs.LexLaws.{turned}
use Rattle.crdt_core.specs.OrderLaws.{option_join-none}
use Rattle.crdt_core.specs.Entries.{is_below, is_ascending, value_at}
use Rattle.crdt_core.specs.EntryLaws.{and_parts}
use Rattle.crdt_rows.specs.Newest.{later, is_older, none_older, own, newest_of, is_settled}
use Rattle.crdt_rows.specs.NewestLaws.{swapped, older_later, later_laws, below_newest, newest_past, settled_whole}

or_true : (b : Bool) → (b || true) ≡ true
or_true true = refl
or_true false = refl

module _ {K : Type 0} {R : K → K → Ordering} (o : IsTotalOrder R) where
  module _ {V : Type 0} (final : V → Bool) where
    first_by : (e : K × V) (es : List (K × V)) (n : Option K) → is_ascending R (e ∷ es) ≡ true → is_settled R final (e ∷ es) ≡ true → newest_of R final es ≡ n → newest_of R final (e ∷ es) ≡ own R final e
    first_by e es None s t p = rw p (option_join-none (larger R) (own R final e))
    first_by e es (Some w) s t p =
        let parts = and_parts (is_below R e.0 es) (is_ascending R es) s in
        let whole = newest_past o final e es w s p in
        let old : is_lt (R e.0 w) ≡ true = ap is_lt (below_newest o final e.0 es w parts.1 parts.0 p) in
        let kept : not (is_lt (R e.0 w)) ≡ true = (and_parts _ _ (rw whole at t)).0 in
        let no : false ≡ true = sym (ap not old) ∙ kept in cc

    pub newest_first : (e : K × V) (es : List (K × V)) → is_ascending R (e ∷ es) ≡ true → is_settled R final (e ∷ es) ≡ true → newest_of R final (e ∷ es) ≡ own R final e
    newest_first e es s t = first_by e es (newest_of R final es) s t refl

    some_by : (k : K) (b : Bool) (n : Option K) → (b || is_some n) ≡ true → (w : K) × (later R (cond b (Some k) None) n ≡ Some w)
    some_by k true None h = (k, refl)
    some_by k true (Some u) h = (larger R k u, refl)
    some_by k false None h = let no : false ≡ true = h in cc
    some_by k false (Some u) h = (u, refl)

    any_by : (n : Option K) (w : K) → n ≡ Some w → is_some n ≡ true
    any_by n w e = ap is_some e

    or_right : (b c : Bool) → c ≡ true → (b || c) ≡ true
    or_right b c e = rw e (or_true b)

    or_left : (b c : Bool) → b ≡ true → (b || c) ≡ true
    or_left b c e = rw e refl

    some_final : (e : K × V) (es : List (K × V)) (b : Bool) → final e.1 ≡ b → (b || list_any (λ f. final f.1) es) ≡ true → (list_any (λ f. final f.1) es ≡ true → (w : K) × (newest_of R final es ≡ Some w)) → (w : K) × (newest_of R final (e ∷ es) ≡ Some w)
    some_final e es true p h rest = some_by e.0 (final e.1) (newest_of R final es) (or_left (final e.1) (is_some (newest_of R final es)) p)
    some_final e es false p h rest = some_by e.0 (final e.1) (newest_of R final es) (or_right (final e.1) (is_some (newest_of R final es)) (let found = rest h in any_by (newest_of R final es) found.0 found.1))

    newest_some : (es : List (K × V)) → list_any (λ f. final f.1) es ≡ true → (w : K) × (newest_of R final es ≡ Some w)
    newest_some [] h = let no : false ≡ true = h in cc
    newest_some (e ∷ es) h = some_final e es (final e.1) refl h (newest_some es)

    none_final : (e : K × V) (es : List (K × V)) (b : Bool) → final e.1 ≡ b → (b || list_any (λ f. final f.1) es) ≡ false → (list_any (λ f. final f.1) es ≡ false → newest_of R final es ≡ None) → newest_of R final (e ∷ es) ≡ None
    none_final e es true p h rest = let no : true ≡ false = h in cc
    none_final e es false p h rest = rw (p, rest h) refl

    newest_none : (es : List (K × V)) → list_any (λ f. final f.1) es ≡ false → newest_of R final es ≡ None
    newest_none [] h = refl
    newest_none (e ∷ es) h = none_final e es (final e.1) refl h (newest_none es)

    any_cases : (e : K × V) (es : List (K × V)) (b : Bool) → is_ascending R (e ∷ es) ≡ true → list_any (λ f. final f.1) es ≡ b → is_settled R final (e ∷ es) ≡ not b
    any_cases e es false s p = settled_whole o final e es s (newest_none es p)
    any_cases e es true s p =
        let parts = and_parts (is_below R e.0 es) (is_ascending R es) s in
        let found = newest_some es p in
        ap (λ n. none_older R n (e ∷ es)) (newest_past o final e es found.0 s found.1) ∙ (rw (below_newest o final e.0 es found.0 parts.1 parts.0 found.1) refl)

    -- entries are settled where none after the first is final
    pub settled_any : (e : K × V) (es : List (K × V)) → is_ascending R (e ∷ es) ≡ true → is_settled R final (e ∷ es) ≡ not (list_any (λ f. final f.1) es)
    settled_any e es s = any_cases e es (list_any (λ f. final f.1) es) s refl

    module _ (same : Identifies R) where
      final_by : (k : K) (e : K × V) (es : List (K × V)) (v : V) (r : Ordering) → R k e.0 ≡ r → by_order r None (Some e.1) (value_at R k es) ≡ Some v → final v ≡ true → (value_at R k es ≡ Some v → later R (Some k) (newest_of R final es) ≡ newest_of R final es) → later R (Some k) (newest_of R final (e ∷ es)) ≡ newest_of R final (e ∷ es)
      final_by k e es v Less p g f h = let no : None ≡ Some v = g in cc
      final_by k e es v Equal p g f h =
          let laws = later_laws o same in
          let mine : e.1 ≡ v = ap (λ x. unwrap_or x v) g in
          let owned : own R final e ≡ Some k = ap (λ b. cond b (Some e.0) None) (ap final mine ∙ f) ∙ ap Some (sym (same k e.0 p)) in
          ap (λ n. later R (Some k) (later R n (newest_of R final es))) owned
          ∙ (sym (laws.associative (Some k) (Some k) (newest_of R final es)) ∙ (ap (λ n. later R n (newest_of R final es)) (laws.idempotent (Some k))
          ∙ ap (λ n. later R n (newest_of R final es)) (sym owned)))
      final_by k e es v Greater p g f h = swapped (later_laws o same) (Some k) (own R final e) (newest_of R final es) ∙ ap (later R (own R final e)) (h g)

      -- the newest final key is no smaller than a final one
      pub final_at_most : (k : K) (es : List (K × V)) (v : V) → value_at R k es ≡ Some v → final v ≡ true → later R (Some k) (newest_of R final es) ≡ newest_of R final es
      final_at_most k [] v g f = let no : None ≡ Some v = g in cc
      final_at_most k (e ∷ es) v g f = final_by k e es v (R k e.0) refl g f (λ h. final_at_most k es v h f)

      -- what is smaller than a final key is older than the newest one
      pub final_older : (q k : K) (es : List (K × V)) (v : V) → value_at R k es ≡ Some v → final v ≡ true → R q k ≡ Less → is_older R q (newest_of R final es) ≡ true
      final_older q k es v g f l = ap (is_older R q) (sym (final_at_most k es v g f)) ∙ (older_later o q (Some k) (newest_of R final es) ∙ (rw l refl))

    here_by : (e : K × V) (es : List (K × V)) (b : Bool) (n : K) → final e.1 ≡ b → cond b (Some e.0) None ≡ Some n → (v : V) × (value_at R n (e ∷ es) ≡ Some v) × (final v ≡ true)
    here_by e es false n p q = let no : None ≡ Some n = q in cc
    here_by e es true n p q =
        let mine : e.0 ≡ n = ap (λ x. unwrap_or x n) q in
        (e.1, rw (sym mine, tied_itself o e.0) refl, p)

    past : (w : K) (e : K × V) (es : List (K × V)) → R w e.0 ≡ Greater → value_at R w (e ∷ es) ≡ value_at R w es
    past w e es p = rw p refl

    there_by : (e : K × V) (es : List (K × V)) (m : Option K) (n : K) → is_ascending R (e ∷ es) ≡ true → newest_of R final es ≡ m → newest_of R final (e ∷ es) ≡ Some n → ((w : K) → newest_of R final es ≡ Some w → (v : V) × (value_at R w es ≡ Some v) × (final v ≡ true)) → (v : V) × (value_at R n (e ∷ es) ≡ Some v) × (final v ≡ true)
    there_by e es None n s p q h = here_by e es (final e.1) n refl (sym (option_join-none (larger R) (own R final e)) ∙ (ap (later R (own R final e)) (sym p) ∙ q))
    there_by e es (Some w) n s p q h =
        let parts = and_parts (is_below R e.0 es) (is_ascending R es) s in
        let mine : n ≡ w = ap (λ x. unwrap_or x n) (sym q ∙ newest_past o final e es w s p) in
        let found = h w p in
        let above : R w e.0 ≡ Greater = turned o e.0 w Less (below_newest o final e.0 es w parts.1 parts.0 p) in
        (found.0, subst (λ x. value_at R x (e ∷ es) ≡ Some found.0) (sym mine) (past w e es above ∙ found.1), found.2)

    -- the newest final key has a final value
    pub newest_final : (n : K) (es : List (K × V)) → is_ascending R es ≡ true → newest_of R final es ≡ Some n → (v : V) × (value_at R n es ≡ Some v) × (final v ≡ true)
    newest_final n [] s q = let no : None ≡ Some n = q in cc
    newest_final n (e ∷ es) s q = there_by e es (newest_of R final es) n s refl q (λ w. newest_final w es (and_parts (is_below R e.0 es) (is_ascending R es) s).1)
