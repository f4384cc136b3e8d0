-- Laws that impls cite; no definition stands here.
-- What merging entries does to the value at each key, and from it the laws of a join.
use Rattle.std.specs.Prelude.{◌≡◌, Bool, true, false, cond, not, ◌&&◌, List, [], ◌∷◌, Option, Some, None, refl}
use Rattle.std.proofs.Common.{ap, sym, ◌∙◌}
use Rattle.std.specs.declared.cmp.Ordering.{Ordering}
use Rattle.std.specs.declared.cmp.Ordering.TheVariants.{Less, Equal, Greater}
use Rattle.std.specs.Cmp.{IsTotalOrder, alike_right, tied_itself}
use Rattle.std.specs.Ordering.{is_lt}
use Rattle.std.specs.Option.{unwrap_or}
use Rattle.crdt_core.specs.Orders.{Identifies}
use Rattle.crdt_core.specs.Laws.{JoinLaws}
use Rattle.crdt_core.specs.Lex.{by_order}
use Rattle.crdt_core.specs.LexLaws.{turned, greater_trans}
use Rattle.crdt_core.specs.Order.{option_join}
use Rattle.crdt_core.specs.OrderLaws.{option_join-none, option_laws}
use Rattle.crdt_core.specs.Entries.{is_below, is_ascending, value_at, entries_from, merged}

pub less_is : (r : Ordering) → is_lt r ≡ true → r ≡ Less
less_is Less e = refl
less_is Equal e = cc
less_is Greater e = cc

pub and_parts : (a b : Bool) → (a && b) ≡ true → (a ≡ true) × (b ≡ true)
and_parts true b e = (refl, e)
and_parts false b e = cc

pub and_both : (a b : Bool) → a ≡ true → b ≡ true → (a && b) ≡ true
and_both a b p q = rw (p, q) refl

-- ---- entries in order

module _ {K V : Type 0} {R : K → K → Ordering} (o : IsTotalOrder R) where
  -- what is no greater than a key that is below the entries is below them
  pub below_lower : (q k : K) (es : List (K × V)) → R q k ≡ Less → is_below R k es ≡ true → is_below R q es ≡ true
  below_lower q k [] p h = refl
  below_lower q k (e ∷ es) p h = ap is_lt (o.trans q k e.0 p (less_is (R k e.0) h))

  pub below_same : (q k : K) (es : List (K × V)) → R q k ≡ Equal → is_below R k es ≡ true → is_below R q es ≡ true
  below_same q k [] p h = refl
  below_same q k (e ∷ es) p h = ap is_lt (o.congr q k e.0 p) ∙ h

  -- a key below the entries has no value there
  pub below_none : (q : K) (es : List (K × V)) → is_below R q es ≡ true → value_at R q es ≡ None
  below_none q [] h = refl
  below_none q (e ∷ es) h = rw (less_is (R q e.0) h) refl

  tail : (e : K × V) (es : List (K × V)) → is_ascending R (e ∷ es) ≡ true → is_ascending R es ≡ true
  tail e es h = (and_parts (is_below R e.0 es) (is_ascending R es) h).1

  first : (e : K × V) (es : List (K × V)) → is_ascending R (e ∷ es) ≡ true → is_below R e.0 es ≡ true
  first e es h = (and_parts (is_below R e.0 es) (is_ascending R es) h).0

  none_lower : (q : K) (e : K × V) (es : List (K × V)) → is_ascending R (e ∷ es) ≡ true → R q e.0 ≡ Less → value_at R q es ≡ None
  none_lower q e es h p = below_none q es (below_lower q e.0 es p (first e es h))

  none_same : (q : K) (e : K × V) (es : List (K × V)) → is_ascending R (e ∷ es) ≡ true → R q e.0 ≡ Equal → value_at R q es ≡ None
  none_same q e es h p = below_none q es (below_same q e.0 es p (first e es h))

  found : (e : K × V) (es : List (K × V)) → value_at R e.0 (e ∷ es) ≡ Some e.1
  found e es = rw (tied_itself o e.0) refl

  module _ (same : Identifies R) where
    tails : (x y : K × V) (xs ys : List (K × V)) → is_ascending R (x ∷ xs) ≡ true → is_ascending R (y ∷ ys) ≡ true → R x.0 y.0 ≡ Equal → (q : K) → value_at R q (x ∷ xs) ≡ value_at R q (y ∷ ys) → (r : Ordering) → R q x.0 ≡ r → value_at R q xs ≡ value_at R q ys
    tails x y xs ys s t e q h Less p = none_lower q x xs s p ∙ sym (none_lower q y ys t (sym (alike_right o x.0 y.0 q e) ∙ p))
    tails x y xs ys s t e q h Equal p = none_same q x xs s p ∙ sym (none_same q y ys t (sym (alike_right o x.0 y.0 q e) ∙ p))
    tails x y xs ys s t e q h Greater p = rw (p, sym (alike_right o x.0 y.0 q e) ∙ p) at h

    same_by : (x y : K × V) (xs ys : List (K × V)) → is_ascending R (x ∷ xs) ≡ true → is_ascending R (y ∷ ys) ≡ true → ((q : K) → value_at R q (x ∷ xs) ≡ value_at R q (y ∷ ys)) → (((q : K) → value_at R q xs ≡ value_at R q ys) → xs ≡ ys) → (r : Ordering) → R x.0 y.0 ≡ r → (x ∷ xs) ≡ (y ∷ ys)
    same_by x y xs ys s t h others Less e = let no : Some x.1 ≡ None = sym (found x xs) ∙ (h x.0 ∙ rw e refl) in cc
    same_by x y xs ys s t h others Greater e = let no : None ≡ Some y.1 = rw (turned o x.0 y.0 Greater e) refl ∙ (h y.0 ∙ found y ys) in cc
    same_by x y xs ys s t h others Equal e =
        let value : Some x.1 ≡ Some y.1 = sym (found x xs) ∙ (h x.0 ∙ rw e refl) in
        let rest = others (λ q. tails x y xs ys s t e q (h q) (R q x.0) refl) in
        λ i. (same x.0 y.0 e i, unwrap_or (value i) x.1) ∷ rest i

    -- entries in order are one where each key has one value
    pub same_entries : (xs ys : List (K × V)) → is_ascending R xs ≡ true → is_ascending R ys ≡ true → ((q : K) → value_at R q xs ≡ value_at R q ys) → xs ≡ ys
    same_entries [] [] s t h = refl
    same_entries [] (y ∷ ys) s t h = let no : None ≡ Some y.1 = h y.0 ∙ found y ys in cc
    same_entries (x ∷ xs) [] s t h = let no : Some x.1 ≡ None = sym (found x xs) ∙ h x.0 in cc
    same_entries (x ∷ xs) (y ∷ ys) s t h = same_by x y xs ys s t h (same_entries xs ys (tail x xs s) (tail y ys t)) (R x.0 y.0) refl

  module _ (j : V → V → V) where
    below_by : (q : K) (x y : K × V) (xs ys : List (K × V)) → is_below R q (x ∷ xs) ≡ true → is_below R q (y ∷ ys) ≡ true → (r : Ordering) → R x.0 y.0 ≡ r → is_below R q (merged R j (x ∷ xs) (y ∷ ys)) ≡ true
    below_by q x y xs ys h g Less e = rw e h
    below_by q x y xs ys h g Equal e = rw e h
    below_by q x y xs ys h g Greater e = rw e g

    below_merged : (q : K) (xs ys : List (K × V)) → is_below R q xs ≡ true → is_below R q ys ≡ true → is_below R q (merged R j xs ys) ≡ true
    below_merged q [] ys h g = g
    below_merged q (x ∷ xs) [] h g = h
    below_merged q (x ∷ xs) (y ∷ ys) h g = below_by q x y xs ys h g (R x.0 y.0) refl

    ascending_by : (x y : K × V) (xs ys : List (K × V)) → is_ascending R (x ∷ xs) ≡ true → is_ascending R (y ∷ ys) ≡ true → is_ascending R (merged R j xs (y ∷ ys)) ≡ true → is_ascending R (merged R j xs ys) ≡ true → is_ascending R (merged R j (x ∷ xs) ys) ≡ true → (r : Ordering) → R x.0 y.0 ≡ r → is_ascending R (merged R j (x ∷ xs) (y ∷ ys)) ≡ true
    ascending_by x y xs ys s t a b c Less e = rw e (and_both _ _ (below_merged x.0 xs (y ∷ ys) (first x xs s) (ap is_lt e)) a)
    ascending_by x y xs ys s t a b c Equal e = rw e (and_both _ _ (below_merged x.0 xs ys (first x xs s) (below_same x.0 y.0 ys e (first y ys t))) b)
    ascending_by x y xs ys s t a b c Greater e = rw e (and_both _ _ (below_merged y.0 (x ∷ xs) ys (ap is_lt (turned o x.0 y.0 Greater e)) (first y ys t)) c)

    -- merging keeps the order
    pub ascending_merged : (xs ys : List (K × V)) → is_ascending R xs ≡ true → is_ascending R ys ≡ true → is_ascending R (merged R j xs ys) ≡ true
    ascending_merged [] ys s t = t
    ascending_merged (x ∷ xs) [] s t = s
    ascending_merged (x ∷ xs) (y ∷ ys) s t =
        ascending_by x y xs ys s t (ascending_merged xs (y ∷ ys) (tail x xs s) t) (ascending_merged xs ys (tail x xs s) (tail y ys t)) (ascending_merged (x ∷ xs) ys s (tail y ys t)) (R x.0 y.0) refl

    at_less : (q : K) (x y : K × V) (xs ys : List (K × V)) → is_ascending R (x ∷ xs) ≡ true → is_ascending R (y ∷ ys) ≡ true → R x.0 y.0 ≡ Less → value_at R q (merged R j xs (y ∷ ys)) ≡ option_join j (value_at R q xs) (value_at R q (y ∷ ys)) → (r : Ordering) → R q x.0 ≡ r → value_at R q (merged R j (x ∷ xs) (y ∷ ys)) ≡ option_join j (value_at R q (x ∷ xs)) (value_at R q (y ∷ ys))
    at_less q x y xs ys s t e h Less p = rw (e, p, o.trans q x.0 y.0 p e) refl
    at_less q x y xs ys s t e h Equal p = rw (e, p, o.congr q x.0 y.0 p ∙ e) refl
    at_less q x y xs ys s t e h Greater p = rw (e, p) h

    at_equal : (q : K) (x y : K × V) (xs ys : List (K × V)) → R x.0 y.0 ≡ Equal → value_at R q (merged R j xs ys) ≡ option_join j (value_at R q xs) (value_at R q ys) → (r : Ordering) → R q x.0 ≡ r → value_at R q (merged R j (x ∷ xs) (y ∷ ys)) ≡ option_join j (value_at R q (x ∷ xs)) (value_at R q (y ∷ ys))
    at_equal q x y xs ys e h Less p = rw (e, p, sym (alike_right o x.0 y.0 q e) ∙ p) refl
    at_equal q x y xs ys e h Equal p = rw (e, p, sym (alike_right o x.0 y.0 q e) ∙ p) refl
    at_equal q x y xs ys e h Greater p = rw (e, p, sym (alike_right o x.0 y.0 q e) ∙ p) h

    at_greater : (q : K) (x y : K × V) (xs ys : List (K × V)) → R x.0 y.0 ≡ Greater → value_at R q (merged R j (x ∷ xs) ys) ≡ option_join j (value_at R q (x ∷ xs)) (value_at R q ys) → (r : Ordering) → R q y.0 ≡ r → value_at R q (merged R j (x ∷ xs) (y ∷ ys)) ≡ option_join j (value_at R q (x ∷ xs)) (value_at R q (y ∷ ys))
    at_greater q x y xs ys e h Less p = let back = turned o x.0 y.0 Greater e in rw (e, p, o.trans q y.0 x.0 p back) refl
    at_greater q x y xs ys e h Equal p = let back = turned o x.0 y.0 Greater e in rw (e, p, o.congr q y.0 x.0 p ∙ back) refl
    at_greater q x y xs ys e h Greater p = rw (e, p) h

    at_by : (q : K) (x y : K × V) (xs ys : List (K × V)) → is_ascending R (x ∷ xs) ≡ true → is_ascending R (y ∷ ys) ≡ true → value_at R q (merged R j xs (y ∷ ys)) ≡ option_join j (value_at R q xs) (value_at R q (y ∷ ys)) → value_at R q (merged R j xs ys) ≡ option_join j (value_at R q xs) (value_at R q ys) → value_at R q (merged R j (x ∷ xs) ys) ≡ option_join j (value_at R q (x ∷ xs)) (value_at R q ys) → (r : Ordering) → R x.0 y.0 ≡ r → value_at R q (merged R j (x ∷ xs) (y ∷ ys)) ≡ option_join j (value_at R q (x ∷ xs)) (value_at R q (y ∷ ys))
    at_by q x y xs ys s t a b c Less e = at_less q x y xs ys s t e a (R q x.0) refl
    at_by q x y xs ys s t a b c Equal e = at_equal q x y xs ys e b (R q x.0) refl
    at_by q x y xs ys s t a b c Greater e = at_greater q x y xs ys e c (R q y.0) refl

    pub value_at-merged : (q : K) (xs ys : List (K × V)) → is_ascending R xs ≡ true → is_ascending R ys ≡ true → value_at R q (merged R j xs ys) ≡ option_join j (value_at R q xs) (value_at R q ys)
    value_at-merged q [] ys s t = refl
    value_at-merged q (x ∷ xs) [] s t = sym (option_join-none j (value_at R q (x ∷ xs)))
    value_at-merged q (x ∷ xs) (y ∷ ys) s t =
        at_by q x y xs ys s t (value_at-merged q xs (y ∷ ys) (tail x xs s) t) (value_at-merged q xs ys (tail x xs s) (tail y ys t)) (value_at-merged q (x ∷ xs) ys s (tail y ys t)) (R x.0 y.0) refl

  -- ---- the entries without those of smaller keys

  below_kept : (q k : K) (e : K × V) (es : List (K × V)) (kept : Bool) → is_below R q (e ∷ es) ≡ true → is_below R q (entries_from R k es) ≡ true → is_below R q (cond kept (e ∷ entries_from R k es) (entries_from R k es)) ≡ true
  below_kept q k e es true h rest = h
  below_kept q k e es false h rest = rest

  below_from : (q k : K) (es : List (K × V)) → is_below R q es ≡ true → is_ascending R es ≡ true → is_below R q (entries_from R k es) ≡ true
  below_from q k [] h s = refl
  below_from q k (e ∷ es) h s =
      below_kept q k e es (not (is_lt (R e.0 k))) h (below_from q k es (below_lower q e.0 es (less_is (R q e.0) h) (first e es s)) (tail e es s))

  ascending_kept : (k : K) (e : K × V) (es : List (K × V)) (kept : Bool) → is_ascending R (e ∷ es) ≡ true → is_ascending R (entries_from R k es) ≡ true → is_ascending R (cond kept (e ∷ entries_from R k es) (entries_from R k es)) ≡ true
  ascending_kept k e es true s rest = and_both _ _ (below_from e.0 k es (first e es s) (tail e es s)) rest
  ascending_kept k e es false s rest = rest

  -- leaving out smaller keys keeps the order
  pub ascending_from : (k : K) (es : List (K × V)) → is_ascending R es ≡ true → is_ascending R (entries_from R k es) ≡ true
  ascending_from k [] s = refl
  ascending_from k (e ∷ es) s = ascending_kept k e es (not (is_lt (R e.0 k))) s (ascending_from k es (tail e es s))

  none_either : (b : Bool) → ◌≡◌ {A = Option V} None (cond b None None)
  none_either true = refl
  none_either false = refl

  -- R q k, R e.0 k and R q e.0 are not free of one another
  from_by : (q k : K) (e : K × V) (rest kept : Option V) (a b r : Ordering) → R q k ≡ a → R e.0 k ≡ b → R q e.0 ≡ r → kept ≡ cond (is_lt a) None rest → cond (not (is_lt b)) (by_order r None (Some e.1) kept) kept ≡ cond (is_lt a) None (by_order r None (Some e.1) rest)
  from_by q k e rest kept Less Less r p u v h = h
  from_by q k e rest kept Less Equal r p u v h = rw (sym v ∙ alike_right o e.0 k q u ∙ p) refl
  from_by q k e rest kept Less Greater r p u v h = rw (sym v ∙ o.trans q k e.0 p (turned o e.0 k Greater u)) refl
  from_by q k e rest kept Equal Less r p u v h = rw (sym v ∙ o.congr q k e.0 p ∙ turned o e.0 k Less u) h
  from_by q k e rest kept Equal Equal r p u v h = rw h refl
  from_by q k e rest kept Equal Greater r p u v h = rw h refl
  from_by q k e rest kept Greater Less r p u v h = rw (sym v ∙ greater_trans o q k e.0 p (turned o e.0 k Less u)) h
  from_by q k e rest kept Greater Equal r p u v h = rw h refl
  from_by q k e rest kept Greater Greater r p u v h = rw h refl

  value_kept : (q k : K) (e : K × V) (es : List (K × V)) (kept : Bool) → value_at R q (cond kept (e ∷ entries_from R k es) (entries_from R k es)) ≡ cond kept (by_order (R q e.0) None (Some e.1) (value_at R q (entries_from R k es))) (value_at R q (entries_from R k es))
  value_kept q k e es true = refl
  value_kept q k e es false = refl

  -- a smaller key has no value there, and each other has its own
  pub value_at-from : (q k : K) (es : List (K × V)) → value_at R q (entries_from R k es) ≡ cond (is_lt (R q k)) None (value_at R q es)
  value_at-from q k [] = none_either (is_lt (R q k))
  value_at-from q k (e ∷ es) =
      value_kept q k e es (not (is_lt (R e.0 k))) ∙ from_by q k e (value_at R q es) (value_at R q (entries_from R k es)) (R q k) (R e.0 k) (R q e.0) refl refl refl (value_at-from q k es)

  module _ (same : Identifies R) {j : V → V → V} (laws : JoinLaws j) (xs ys zs : List (K × V)) (s : is_ascending R xs ≡ true) (t : is_ascending R ys ≡ true) (u : is_ascending R zs ≡ true) where
    xy : is_ascending R (merged R j xs ys) ≡ true
    xy = ascending_merged j xs ys s t

    yz : is_ascending R (merged R j ys zs) ≡ true
    yz = ascending_merged j ys zs t u

    pub merged_comm : merged R j xs ys ≡ merged R j ys xs
    merged_comm = same_entries same (merged R j xs ys) (merged R j ys xs) xy (ascending_merged j ys xs t s) (λ q.
        value_at-merged j q xs ys s t ∙ ((option_laws laws).commutative (value_at R q xs) (value_at R q ys) ∙ sym (value_at-merged j q ys xs t s)))

    pub merged_idem : merged R j xs xs ≡ xs
    merged_idem = same_entries same (merged R j xs xs) xs (ascending_merged j xs xs s s) s (λ q. value_at-merged j q xs xs s s ∙ (option_laws laws).idempotent (value_at R q xs))

    pub merged_assoc : merged R j (merged R j xs ys) zs ≡ merged R j xs (merged R j ys zs)
    merged_assoc = same_entries same (merged R j (merged R j xs ys) zs) (merged R j xs (merged R j ys zs)) (ascending_merged j (merged R j xs ys) zs xy u) (ascending_merged j xs (merged R j ys zs) s yz) (λ q.
        value_at-merged j q (merged R j xs ys) zs xy u
        ∙ (ap (λ v. option_join j v (value_at R q zs)) (value_at-merged j q xs ys s t)
        ∙ ((option_laws laws).associative (value_at R q xs) (value_at R q ys) (value_at R q zs)
        ∙ (ap (option_join j (value_at R q xs)) (sym (value_at-merged j q ys zs t u))
        ∙ sym (value_at-merged j q xs (merged R j ys zs) s yz)))))
