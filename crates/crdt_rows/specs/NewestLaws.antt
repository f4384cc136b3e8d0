-- Laws that impls cite; no definition stands here.
-- The newest final key of entries: what merging and leaving out older entries do to it.
use Rattle.std.specs.Prelude.{unwrap_or, ◌≡◌, Bool, true, false, cond, not, ◌||◌, List, [], ◌∷◌, Option, Some, None, refl}
use Rattle.std.proofs.Common.{ap, sym, subst, ◌∙◌}
use Rattle.std.specs.declared.cmp.Ordering.{Ordering}
use Rattle.std.specs.declared.cmp.Ordering.TheVariants.{Less, Equal, Greater}
use Rattle.std.specs.Cmp.{IsTotalOrder, alike_right, tied_itself}
use Rattle.std.specs.Ordering.{is_lt}
use Rattle.crdt_core.specs.Orders.{Identifies}
use Rattle.crdt_core.specs.Laws.{JoinLaws}
use Rattle.crdt_core.specs.Lex.{larger}
use Rattle.crdt_core.specs.LexLaws.{larger_laws, turned, greater_trans}
use Rattle.crdt_core.specs.OrderLaws.{option_laws, option_join-none}
use Rattle.crdt_core.specs.Entries.{is_below, is_ascending, value_at, entries_from, merged}
use Rattle.crdt_core.specs.EntryLaws.{and_parts, less_is}
use Rattle.crdt_rows.specs.Newest.{later, is_older, kept, none_older, own, newest_of, is_settled}

module _ {S : Type 0} {j : S → S → S} (laws : JoinLaws j) where
  pub swapped : (a b c : S) → j a (j b c) ≡ j b (j a c)
  swapped a b c = sym (laws.associative a b c) ∙ (ap (λ x. j x c) (laws.commutative a b) ∙ laws.associative b a c)

  interchange : (a b c d : S) → j (j a b) (j c d) ≡ j (j a c) (j b d)
  interchange a b c d = laws.associative a b (j c d) ∙ (ap (j a) (swapped b c d) ∙ sym (laws.associative a c (j b d)))

module _ {K : Type 0} {R : K → K → Ordering} (o : IsTotalOrder R) where
  older_by : (k : K) (n m : K) (r a b : Ordering) → R n m ≡ r → R k n ≡ a → R k m ≡ b → is_lt (R k (larger R n m)) ≡ (is_lt a || is_lt b)
  older_by k n m Less Less b p q s = rw (p, o.trans k n m q p) refl
  older_by k n m Less Equal b p q s = rw (p, s) refl
  older_by k n m Less Greater b p q s = rw (p, s) refl
  older_by k n m Equal Less b p q s = rw (p, q) refl
  older_by k n m Equal Equal b p q s = rw (p, q) (sym (ap is_lt (sym s ∙ sym (alike_right o n m k p) ∙ q)))
  older_by k n m Equal Greater b p q s = rw (p, q) (sym (ap is_lt (sym s ∙ sym (alike_right o n m k p) ∙ q)))
  older_by k n m Greater Less b p q s = rw (p, q) refl
  older_by k n m Greater Equal b p q s = rw (p, q) (sym (ap is_lt (sym s ∙ o.congr k n m q ∙ p)))
  older_by k n m Greater Greater b p q s = rw (p, q) (sym (ap is_lt (sym s ∙ greater_trans o k n m q p)))

  or_false : (b : Bool) → b ≡ (b || false)
  or_false true = refl
  or_false false = refl

  -- older than the later of two is older than one of them
  pub older_later : (k : K) (n m : Option K) → is_older R k (later R n m) ≡ (is_older R k n || is_older R k m)
  older_later k None m = refl
  older_later k (Some n) None = or_false (is_lt (R k n))
  older_later k (Some n) (Some m) = older_by k n m (R n m) (R k n) (R k m) refl refl refl

  -- the later of two keys is a join
  pub later_laws : Identifies R → JoinLaws (later R)
  later_laws same = option_laws (larger_laws o same)

  module _ {V : Type 0} (final : V → Bool) where
    -- a final entry below those with a newest final one
    later_above : (k : K) (b : Bool) (n : K) → R k n ≡ Less → later R (cond b (Some k) None) (Some n) ≡ Some n
    later_above k true n p = rw p refl
    later_above k false n p = refl

    below_by : (k : K) (e : K × V) (b : Bool) (n : Option K) (w : K) → R k e.0 ≡ Less → ((u : K) → n ≡ Some u → R e.0 u ≡ Less) → later R (cond b (Some e.0) None) n ≡ Some w → R k w ≡ Less
    below_by k e true None w p h q = let same : e.0 ≡ w = ap (λ x. unwrap_or x e.0) q in subst (λ x. R k x ≡ Less) same p
    below_by k e false None w p h q = let no : None ≡ Some w = q in cc
    below_by k e b (Some u) w p h q =
        let same : u ≡ w = ap (λ x. unwrap_or x u) (sym (later_above e.0 b u (h u refl)) ∙ q) in
        subst (λ x. R k x ≡ Less) same (o.trans k e.0 u p (h u refl))

    -- a key below the entries is smaller than the newest final one
    pub below_newest : (k : K) (es : List (K × V)) (w : K) → is_ascending R es ≡ true → is_below R k es ≡ true → newest_of R final es ≡ Some w → R k w ≡ Less
    below_newest k [] w s h p = let no : None ≡ Some w = p in cc
    below_newest k (e ∷ es) w s h p =
        let parts = and_parts (is_below R e.0 es) (is_ascending R es) s in
        below_by k e (final e.1) (newest_of R final es) w (less_is (R k e.0) h) (λ u q. below_newest e.0 es u parts.1 parts.0 q) p

    -- where a later entry is final, the first one does not count
    pub newest_past : (e : K × V) (es : List (K × V)) (w : K) → is_ascending R (e ∷ es) ≡ true → newest_of R final es ≡ Some w → newest_of R final (e ∷ es) ≡ Some w
    newest_past e es w s p =
        let parts = and_parts (is_below R e.0 es) (is_ascending R es) s in
        rw p (later_above e.0 (final e.1) w (below_newest e.0 es w parts.1 parts.0 p))

    older_first : (k w : K) (r : Ordering) (x : K) → R x w ≡ r → not (is_lt r) ≡ true → R k w ≡ Less → R k x ≡ Less
    older_first k w Less x p h q = let no : false ≡ true = h in cc
    older_first k w Equal x p h q = alike_right o x w k p ∙ q
    older_first k w Greater x p h q = o.trans k w x q (turned o x w Greater p)

    none_by : (k : K) (n : Option K) (es : List (K × V)) → none_older R n es ≡ true → is_older R k n ≡ true → value_at R k es ≡ None
    none_by k n [] t h = refl
    none_by k None (e ∷ es) t h = let no : false ≡ true = h in cc
    none_by k (Some w) (e ∷ es) t h =
        rw (older_first k w (R e.0 w) e.0 refl ((and_parts (not (is_lt (R e.0 w))) (none_older R (Some w) es) t).0) (less_is (R k w) h)) refl

    -- nothing is held at a key that is older than the newest final one
    pub settled_none : (k : K) (es : List (K × V)) → is_settled R final es ≡ true → is_older R k (newest_of R final es) ≡ true → value_at R k es ≡ None
    settled_none k es t h = none_by k (newest_of R final es) es t h

    settle : List (K × V) → List (K × V)
    settle es = kept R (newest_of R final es) es

    -- what is above a key stays
    not_less : (k x : K) → R k x ≡ Less → is_lt (R x k) ≡ false
    not_less k x p = ap is_lt (turned o k x Less p)

    lower : (q k : K) (es : List (K × V)) → R q k ≡ Less → is_below R k es ≡ true → is_below R q es ≡ true
    lower q k [] p h = refl
    lower q k (e ∷ es) p h = ap is_lt (o.trans q k e.0 p (less_is (R k e.0) h))

    from_above : (k : K) (es : List (K × V)) → is_ascending R es ≡ true → is_below R k es ≡ true → entries_from R k es ≡ es
    from_above k [] s h = refl
    from_above k (e ∷ es) s h =
        let parts = and_parts (is_below R e.0 es) (is_ascending R es) s in
        let below = less_is (R k e.0) h in
        rw (not_less k e.0 below) (ap (λ fs. e ∷ fs) (from_above k es parts.1 (lower k e.0 es below parts.0)))

    whole_by : (e : K × V) (es : List (K × V)) (b : Bool) → is_ascending R (e ∷ es) ≡ true → final e.1 ≡ b → kept R (own R final e) (e ∷ es) ≡ e ∷ es
    whole_by e es true s p =
        let parts = and_parts (is_below R e.0 es) (is_ascending R es) s in
        rw (p, tied_itself o e.0) (ap (λ fs. e ∷ fs) (from_above e.0 es parts.1 parts.0))
    whole_by e es false s p = rw p refl

    -- entries of which none after the first is final stay whole
    settle_whole : (e : K × V) (es : List (K × V)) → is_ascending R (e ∷ es) ≡ true → newest_of R final es ≡ None → settle (e ∷ es) ≡ e ∷ es
    unfolding settle
    settle_whole e es s p = rw (p, option_join-none (larger R) (own R final e)) (whole_by e es (final e.1) s refl)

    -- where a later one is final, the first goes
    settle_past : (e : K × V) (es : List (K × V)) (w : K) → is_ascending R (e ∷ es) ≡ true → newest_of R final es ≡ Some w → settle (e ∷ es) ≡ settle es
    unfolding settle
    settle_past e es w s p =
        let parts = and_parts (is_below R e.0 es) (is_ascending R es) s in
        ap (λ n. kept R n (e ∷ es)) (newest_past e es w s p) ∙ (rw (below_newest e.0 es w parts.1 parts.0 p) refl ∙ ap (λ n. kept R n es) (sym p))

    none_older_none : (es : List (K × V)) → none_older R None es ≡ true
    none_older_none [] = refl
    none_older_none (e ∷ es) = none_older_none es

    none_older_above : (k : K) (es : List (K × V)) → is_ascending R es ≡ true → is_below R k es ≡ true → none_older R (Some k) es ≡ true
    none_older_above k [] s h = refl
    none_older_above k (e ∷ es) s h =
        let parts = and_parts (is_below R e.0 es) (is_ascending R es) s in
        let below = less_is (R k e.0) h in
        rw (not_less k e.0 below) (none_older_above k es parts.1 (lower k e.0 es below parts.0))

    settled_own : (e : K × V) (es : List (K × V)) (b : Bool) → is_ascending R (e ∷ es) ≡ true → final e.1 ≡ b → none_older R (own R final e) (e ∷ es) ≡ true
    settled_own e es true s p =
        let parts = and_parts (is_below R e.0 es) (is_ascending R es) s in
        let mine : own R final e ≡ Some e.0 = ap (λ b. cond b (Some e.0) None) p in
        ap (λ n. none_older R n (e ∷ es)) mine ∙ (rw (tied_itself o e.0) (none_older_above e.0 es parts.1 parts.0))
    settled_own e es false s p =
        let mine : own R final e ≡ None = ap (λ b. cond b (Some e.0) None) p in
        ap (λ n. none_older R n (e ∷ es)) mine ∙ none_older_none es

    pub settled_whole : (e : K × V) (es : List (K × V)) → is_ascending R (e ∷ es) ≡ true → newest_of R final es ≡ None → is_settled R final (e ∷ es) ≡ true
    settled_whole e es s p =
        let mine : newest_of R final (e ∷ es) ≡ own R final e = ap (later R (own R final e)) p ∙ option_join-none (larger R) (own R final e) in
        ap (λ n. none_older R n (e ∷ es)) mine ∙ settled_own e es (final e.1) s refl

    newest_by : (e : K × V) (es : List (K × V)) (n : Option K) → is_ascending R (e ∷ es) ≡ true → newest_of R final es ≡ n → newest_of R final (settle es) ≡ newest_of R final es → newest_of R final (settle (e ∷ es)) ≡ newest_of R final (e ∷ es)
    newest_by e es None s p h = ap (newest_of R final) (settle_whole e es s p)
    newest_by e es (Some w) s p h = ap (newest_of R final) (settle_past e es w s p) ∙ (h ∙ (p ∙ sym (newest_past e es w s p)))

    newest_settle : (es : List (K × V)) → is_ascending R es ≡ true → newest_of R final (settle es) ≡ newest_of R final es
    unfolding settle
    newest_settle [] s = refl
    newest_settle (e ∷ es) s = newest_by e es (newest_of R final es) s refl (newest_settle es (and_parts (is_below R e.0 es) (is_ascending R es) s).1)

    settled_by : (e : K × V) (es : List (K × V)) (n : Option K) → is_ascending R (e ∷ es) ≡ true → newest_of R final es ≡ n → is_settled R final (settle es) ≡ true → is_settled R final (settle (e ∷ es)) ≡ true
    settled_by e es None s p h = ap (is_settled R final) (settle_whole e es s p) ∙ settled_whole e es s p
    settled_by e es (Some w) s p h = ap (is_settled R final) (settle_past e es w s p) ∙ h

    settled_settle : (es : List (K × V)) → is_ascending R es ≡ true → is_settled R final (settle es) ≡ true
    unfolding settle
    settled_settle [] s = refl
    settled_settle (e ∷ es) s = settled_by e es (newest_of R final es) s refl (settled_settle es (and_parts (is_below R e.0 es) (is_ascending R es) s).1)

    -- leaving out what is older than the newest final entry keeps that entry
    pub newest_kept : (es : List (K × V)) → is_ascending R es ≡ true → newest_of R final (kept R (newest_of R final es) es) ≡ newest_of R final es
    unfolding settle
    newest_kept es s = newest_settle es s

    -- and leaves settled entries
    pub settled_kept : (es : List (K × V)) → is_ascending R es ≡ true → is_settled R final (kept R (newest_of R final es) es) ≡ true
    unfolding settle
    settled_kept es s = settled_settle es s

    module _ (same : Identifies R) (j : V → V → V) (either : (a b : V) → final (j a b) ≡ (final a || final b)) where
      own_by : (x y : K) (a b : Bool) → R x y ≡ Equal → cond (a || b) (Some x) None ≡ later R (cond a (Some x) None) (cond b (Some y) None)
      own_by x y true true e = rw e refl
      own_by x y true false e = refl
      own_by x y false true e = ap Some (same x y e)
      own_by x y false false e = refl

      own_tied : (x y : K × V) → R x.0 y.0 ≡ Equal → own R final (x.0, j x.1 y.1) ≡ later R (own R final x) (own R final y)
      own_tied x y e = rw (either x.1 y.1) (own_by x.0 y.0 (final x.1) (final y.1) e)

      merged_by : (x y : K × V) (xs ys : List (K × V)) (r : Ordering) → R x.0 y.0 ≡ r → newest_of R final (merged R j xs (y ∷ ys)) ≡ later R (newest_of R final xs) (newest_of R final (y ∷ ys)) → newest_of R final (merged R j xs ys) ≡ later R (newest_of R final xs) (newest_of R final ys) → newest_of R final (merged R j (x ∷ xs) ys) ≡ later R (newest_of R final (x ∷ xs)) (newest_of R final ys) → newest_of R final (merged R j (x ∷ xs) (y ∷ ys)) ≡ later R (newest_of R final (x ∷ xs)) (newest_of R final (y ∷ ys))
      merged_by x y xs ys Less e a b c = rw e (ap (later R (own R final x)) a ∙ sym ((later_laws same).associative (own R final x) (newest_of R final xs) (newest_of R final (y ∷ ys))))
      merged_by x y xs ys Equal e a b c =
          rw e (ap (λ n. later R n (newest_of R final (merged R j xs ys))) (own_tied x y e) ∙ (ap (later R (later R (own R final x) (own R final y))) b
          ∙ interchange (later_laws same) (own R final x) (own R final y) (newest_of R final xs) (newest_of R final ys)))
      merged_by x y xs ys Greater e a b c = rw e (ap (later R (own R final y)) c ∙ swapped (later_laws same) (own R final y) (newest_of R final (x ∷ xs)) (newest_of R final ys))

      pub newest_merged : (xs ys : List (K × V)) → newest_of R final (merged R j xs ys) ≡ later R (newest_of R final xs) (newest_of R final ys)
      newest_merged [] ys = refl
      newest_merged (x ∷ xs) [] = sym (option_join-none (larger R) (newest_of R final (x ∷ xs)))
      newest_merged (x ∷ xs) (y ∷ ys) = merged_by x y xs ys (R x.0 y.0) refl (newest_merged xs (y ∷ ys)) (newest_merged xs ys) (newest_merged (x ∷ xs) ys)
