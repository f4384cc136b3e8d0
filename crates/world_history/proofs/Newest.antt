-- The newest of the versions at the numbers below one, and that a read of one key covers each where it covers it.
use Rattle.std.proofs.Common.{◌≡◌, ℕ, zero, suc, ◌+◌, ◌<◌, Bool, true, false, ◌&&◌, List, Option, Some, None, nat_lt, slice_get, refl, ap, sym, ◌∙◌, subst, arith, Ordering, below_more}
use Rattle.std.specs.declared.cmp.Ordering.TheVariants.{Less, Equal, Greater}
use Rattle.std.specs.Cmp.{tied_itself}
use Rattle.std.specs.Ordering.{is_lt}
use Rattle.std.proofs.lemmas.Bool.{and_parts, lt-ltb, ltb-true}
use Rattle.std.specs.Bool.{Decides}
use Rattle.std.proofs.lemmas.Bool.Decides.{Decides-like, same_from_decides}
use Rattle.std.proofs.lemmas.Slice.Eq.{bytes_eq-Decides}
use Rattle.crdt_core.specs.LexLaws.{turned}
use Rattle.crdt_rows.specs.declared.version.Version.{Version}
use Rattle.crdt_rows.specs.Version.{version_cmp}
use Rattle.crdt_rows.specs.FieldLaws.{version_identical, version_total}
use Rattle.history_model.specs.declared.record.Kind.{Kind}
use Rattle.history_model.specs.declared.record.Kind.TheVariants.{Put, Get, Head, Delete, Copy, List as Listing}
use Rattle.history_model.specs.declared.record.Answer.{Answer}
use Rattle.history_model.specs.declared.record.Record.{Record}
use Rattle.history_model.specs.declared.record.Record.TheVariants.{Began, Finished, Ended}
use Rattle.history_model.specs.Record.{is_write, is_list, acknowledged, names, same_bytes}
use Rattle.history_model.specs.Fresh.{Below, IsAcknowledged, Covers}
use Rattle.world_history.specs.Checks.{is_none_or, is_below, covers, covers_key, covers_all, version_before, version_at_of, version_at, newer_of, newest_of, IsNewestBelow}
use Rattle.world_history.proofs.Below.{all_below-Decides}
use Rattle.world_history.proofs.Parts.{fails, is_none_or-Decides, is_below-Decides}
use Rattle.world_history.proofs.Places.{acknowledged-later}
use Rattle.world_history.proofs.Decided.{CoversAll, covers-Decides, covers_all-Decides}

-- what is below w', where w isn't below w', is below w
below_upto : (v w w' : Version) → Below v w' → is_below w w' ≡ false → Below v w
below_upto v w w' below upto = by_order (version_cmp w w') refl
  where
    by_order : (r : Ordering) → version_cmp w w' ≡ r → Below v w
    by_order Less e = let t = (is_below-Decides w w').1 e in let no : false ≡ true = sym upto ∙ t in cc
    by_order Equal e = subst (λ x. Below v x) (sym (version_identical w w' e)) below
    by_order Greater e = version_total.trans v w' w below (turned version_total w w' Greater e)

not_below_itself : (v : Version) → is_below v v ≡ false
not_below_itself v = ap is_lt (tied_itself version_total v)

-- what a isn't below, b isn't below, where a is below b
not_below_after : (a b v : Version) → is_below a b ≡ true → is_below a v ≡ false → is_below b v ≡ false
not_below_after a b v ab av = by_case (is_below b v) refl
  where
    by_case : (t : Bool) → is_below b v ≡ t → t ≡ false
    by_case false e = refl
    by_case true e =
        let there = (is_below-Decides a v).1 (version_total.trans a b v ((is_below-Decides a b).0 ab) ((is_below-Decides b v).0 e)) in
        let no : false ≡ true = sym av ∙ there in cc

newest_is : (p : ℕ → Option Version) (n : ℕ) (w : Version) → (k : ℕ) × (k < n) × (p k ≡ Some w) → ((k : ℕ) → k < n → (v : Version) → p k ≡ Some v → is_below w v ≡ false) → IsNewestBelow p n (Some w)
newest_is p n w (k, lt, at) above = record {
  none = λ e. let no : ◌≡◌ {A = Option Version} (Some w) None = e in cc;
  some = λ w' e. (k, lt, at ∙ e);
  above = λ w' e m v less there. let same : w ≡ w' = cc in subst (λ x. is_below x v ≡ false) same (above m less v there);
}

pub newest_not : (p : ℕ → Option Version) (n : ℕ) → ((k : ℕ) → k < n → p k ≡ None) → IsNewestBelow p n None
newest_not p n none = record {
  none = λ e. none;
  some = λ w e. let no : ◌≡◌ {A = Option Version} None (Some w) = e in cc;
  above = λ w e k v lt at. let no : ◌≡◌ {A = Option Version} None (Some w) = e in cc;
}

pub newest_none : (p : ℕ → Option Version) → IsNewestBelow p 0 None
newest_none p = newest_not p 0 (λ k lt. absurd (omega arith))

-- one more
pub newest_more : (p : ℕ → Option Version) (n : ℕ) (r : Option Version) → IsNewestBelow p n r → IsNewestBelow p (n + 1) (newer_of r (p n))
newest_more p n r old = step r (p n) refl old
  where
    last : n < n + 1
    last = omega arith

    more : (k : ℕ) → k < n → k < n + 1
    more k lt = omega arith

    step : (r o : Option Version) → p n ≡ o → IsNewestBelow p n r → IsNewestBelow p (n + 1) (newer_of r o)
    step None None e old = newest_not p (n + 1) (below_more (λ k. p k ≡ None) n (old.none refl) e)
    step None (Some b) e old =
        newest_is p (n + 1) b (n, last, e)
        (below_more (λ k. (v : Version) → p k ≡ Some v → is_below b v ≡ false) n
        (λ k lt v at. let none = old.none refl k lt in let no : ◌≡◌ {A = Option Version} None (Some v) = sym none ∙ at in cc)
        (λ v at. let same : b ≡ v = cc in subst (λ x. is_below b x ≡ false) same (not_below_itself b)))
    step (Some a) None e old =
        newest_is p (n + 1) a (let there = old.some a refl in (there.0, more there.0 there.1, there.2))
        (below_more (λ k. (v : Version) → p k ≡ Some v → is_below a v ≡ false) n
        (λ k lt v at. old.above a refl k v lt at)
        (λ v at. let no : ◌≡◌ {A = Option Version} None (Some v) = sym e ∙ at in cc))
    step (Some a) (Some b) e old = by_case (is_below a b) refl
      where
        by_case : (t : Bool) → is_below a b ≡ t → IsNewestBelow p (n + 1) (newer_of (Some a) (Some b))
        by_case true t =
            rw t (newest_is p (n + 1) b (n, last, e)
            (below_more (λ k. (v : Version) → p k ≡ Some v → is_below b v ≡ false) n
            (λ k lt v at. not_below_after a b v t (old.above a refl k v lt at))
            (λ v at. let same : b ≡ v = cc in subst (λ x. is_below b x ≡ false) same (not_below_itself b))))
        by_case false t =
            rw t (newest_is p (n + 1) a (let there = old.some a refl in (there.0, more there.0 there.1, there.2))
            (below_more (λ k. (v : Version) → p k ≡ Some v → is_below a v ≡ false) n
            (λ k lt v at. old.above a refl k v lt at)
            (λ v at. let same : b ≡ v = cc in subst (λ x. is_below a x ≡ false) same t)))

-- the newest that is computed is the newest
pub newest_of-is : (p : ℕ → Option Version) (n : ℕ) → IsNewestBelow p n (newest_of p n)
newest_of-is p zero = newest_none p
newest_of-is p (suc n) = let next : n + 1 ≡ suc n = omega arith in subst (λ m. IsNewestBelow p m (newest_of p (suc n))) next (newest_more p n (newest_of p n) (newest_of-is p n))

pub newest_of_none : (p : ℕ → Option Version) (n : ℕ) → ((m : ℕ) → m < n → p m ≡ None) → newest_of p n ≡ None
newest_of_none p zero none = refl
newest_of_none p (suc n) none =
    let before = newest_of_none p n (λ m lt. let more : m < suc n = omega arith in none m more) in
    let last : n < suc n = omega arith in
    (λ t. newer_of (before t) (none n last t))

-- a read that is no list names its own key alone
pub one_key : (kind : Kind) → is_list kind ≡ false → (own key : List ℕ) → names kind own key ≡ true → own ≡ key
one_key Put e own key t = (bytes_eq-Decides own key).0 t
one_key Get e own key t = (bytes_eq-Decides own key).0 t
one_key Head e own key t = (bytes_eq-Decides own key).0 t
one_key Delete e own key t = (bytes_eq-Decides own key).0 t
one_key Copy e own key t = (bytes_eq-Decides own key).0 t
one_key Listing e own key t = let no : true ≡ false = e in cc

-- and names it
pub own_key : (kind : Kind) → is_list kind ≡ false → (own : List ℕ) → names kind own own ≡ true
own_key Put e own = (bytes_eq-Decides own own).1 refl
own_key Get e own = (bytes_eq-Decides own own).1 refl
own_key Head e own = (bytes_eq-Decides own own).1 refl
own_key Delete e own = (bytes_eq-Decides own own).1 refl
own_key Copy e own = (bytes_eq-Decides own own).1 refl
own_key Listing e own = let no : true ≡ false = e in cc

module _ (h : List Record) (i : ℕ) (bucket key : List ℕ) where
  -- a version at a place is that of an acknowledged write
  pub acknowledged_there : (place : ℕ) (v : Version) → version_at h i bucket key place ≡ Some v → IsAcknowledged h i bucket key v
  acknowledged_there place v = there (slice_get h place) refl
    where
      before : (o : Option (ℕ × Version)) → version_before i o ≡ Some v → (end : ℕ) × (o ≡ Some (end, v)) × (end < i)
      before None e = let no : ◌≡◌ {A = Option Version} None (Some v) = e in cc
      before (Some (end, w)) e = by_case (nat_lt end i) refl
        where
          by_case : (t : Bool) → nat_lt end i ≡ t → (n : ℕ) × (◌≡◌ {A = Option (ℕ × Version)} (Some (end, w)) (Some (n, v))) × (n < i)
          by_case true t = let is : ◌≡◌ {A = Option Version} (Some w) (Some v) = rw t at e in (end, (let same : w ≡ v = cc in ap (λ x. Some (end, x)) same), ltb-true end i t)
          by_case false t = let no : ◌≡◌ {A = Option Version} None (Some v) = rw t at e in cc

      there : (o : Option Record) → slice_get h place ≡ o → version_at_of h i bucket key place o ≡ Some v → IsAcknowledged h i bucket key v
      there None at e = let no : ◌≡◌ {A = Option Version} None (Some v) = e in cc
      there (Some (Finished q answer)) at e = let no : ◌≡◌ {A = Option Version} None (Some v) = e in cc
      there (Some (Ended q cause)) at e = let no : ◌≡◌ {A = Option Version} None (Some v) = e in cc
      there (Some (Began q node kind b k)) at e = by_case (is_write kind && (same_bytes k key && same_bytes b bucket)) refl
        where
          by_case : (t : Bool) → (is_write kind && (same_bytes k key && same_bytes b bucket)) ≡ t → IsAcknowledged h i bucket key v
          by_case true t =
              let found = before (acknowledged h place q) (rw t at e) in
              let parts = and_parts (is_write kind) (same_bytes k key && same_bytes b bucket) t in
              let both = and_parts (same_bytes k key) (same_bytes b bucket) parts.1 in
              let ek = (bytes_eq-Decides k key).0 both.0 in
              let eb = (bytes_eq-Decides b bucket).0 both.1 in
              record {
                request = q;
                kind = kind;
                place = place;
                end = found.0;
                writes = parts.0;
                began = (node, at ∙ (λ x. Some (Began q node kind (eb x) (ek x))));
                finished = found.1;
                before = found.2;
              }
          by_case false t = let no : ◌≡◌ {A = Option Version} None (Some v) = rw t at e in cc

  -- and the other way round
  pub version_there : (w : Version) (a : IsAcknowledged h i bucket key w) → version_at h i bucket key a.place ≡ Some w
  version_there w a =
      let writes : is_write a.kind ≡ true = a.writes in
      let same_key : same_bytes key key ≡ true = (bytes_eq-Decides key key).1 refl in
      let same_bucket : same_bytes bucket bucket ≡ true = (bytes_eq-Decides bucket bucket).1 refl in
      let finished : acknowledged h a.place a.request ≡ Some (a.end, w) = a.finished in
      let early : nat_lt a.end i ≡ true = lt-ltb a.end i a.before in
      ap (version_at_of h i bucket key a.place) a.began.1 ∙ rw (writes, same_key, same_bucket, finished, early) refl

  pub placed : (w : Version) (a : IsAcknowledged h i bucket key w) → a.place < i
  placed w a = let later = acknowledged-later h a.place a.request _ a.finished in let before = a.before in omega arith

module _ (h : List Record) (i j : ℕ) (bucket own : List ℕ) (answer : Answer) (key : List ℕ) where
  -- what a read owes to the writes of a key that were acknowledged before it began
  abbrev pub CoversKey : Type 0
  CoversKey = (w : Version) → IsAcknowledged h i bucket key w → Covers h j bucket own answer key w

  pub covers_key-Decides : Decides (covers_key h i j bucket own answer key) CoversKey
  covers_key-Decides =
      Decides-like _
      (λ all w a. all a.place (placed h i bucket key w a) w (version_there h i bucket key w a))
      (λ all place lt w at. all w (acknowledged_there h i bucket key place w at))
      (all_below-Decides (λ place. is_none_or (covers h j bucket own answer key) (version_at h i bucket key place)) (λ place. (w : Version) → version_at h i bucket key place ≡ Some w → Covers h j bucket own answer key w)
      (λ place. is_none_or-Decides _ _ (covers-Decides h bucket key own answer j) (version_at h i bucket key place)) i)

  -- what covers a version covers what isn't above it
  covers_upto : (w v : Version) → is_below w v ≡ false → Covers h j bucket own answer key w → Covers h j bucket own answer key v
  covers_upto w v upto c = record {
    versions = λ x there below. c.versions x there (below_upto x w v below upto);
    none = λ none. let d = c.none none in record {
      request = d.request;
      kind = d.kind;
      place = d.place;
      deletes = d.deletes;
      began = d.began;
      before = d.before;
      not_below = λ end x e below. d.not_below end x e (below_upto x w v below upto);
    };
  }

  -- it covers each where it covers the newest
  pub newest_covers : (w : Version) → IsNewestBelow (version_at h i bucket key) i (Some w) → covers h j bucket own answer key w ≡ covers_key h i j bucket own answer key
  newest_covers w newest =
      same_from_decides (covers h j bucket own answer key w) (covers_key h i j bucket own answer key) (forward, backward) covers_key-Decides
    where
      forward : covers h j bucket own answer key w ≡ true → CoversKey
      forward t v a = covers_upto w v (newest.above w refl a.place v (placed h i bucket key v a) (version_there h i bucket key v a)) ((covers-Decides h bucket key own answer j w).0 t)

      backward : CoversKey → covers h j bucket own answer key w ≡ true
      backward all = let found = newest.some w refl in (covers-Decides h bucket key own answer j w).1 (all w (acknowledged_there h i bucket key found.0 w found.2))

  -- and where there is none
  pub none_covers : IsNewestBelow (version_at h i bucket key) i None → true ≡ covers_key h i j bucket own answer key
  none_covers newest = same_from_decides true (covers_key h i j bucket own answer key) (λ t v a. absurd (no v a), λ all. refl) covers_key-Decides
    where
      no : (v : Version) → IsAcknowledged h i bucket key v → ⊥
      no v a =
          let none = newest.none refl a.place (placed h i bucket key v a) in
          let absent : ◌≡◌ {A = Option Version} None (Some v) = sym none ∙ version_there h i bucket key v a in cc

module _ (h : List Record) (i j : ℕ) (kind : Kind) (bucket own : List ℕ) (answer : Answer) where
  -- a read that is no list covers all that it owes where it covers its own key
  pub own_covers : is_list kind ≡ false → covers_key h i j bucket own answer own ≡ covers_all h i j kind bucket own answer
  own_covers no_list =
      same_from_decides (covers_key h i j bucket own answer own) (covers_all h i j kind bucket own answer) (forward, backward) (covers_all-Decides h i j kind bucket own answer)
    where
      at_own : CoversKey h i j bucket own answer own → (key : List ℕ) (v : Version) → own ≡ key → IsAcknowledged h i bucket key v → Covers h j bucket own answer key v
      at_own all key v same a = subst (λ k. Covers h j bucket own answer k v) same (all v (subst (λ k. IsAcknowledged h i bucket k v) (sym same) a))

      forward : covers_key h i j bucket own answer own ≡ true → CoversAll h i j kind bucket own answer
      forward t key v named a = at_own ((covers_key-Decides h i j bucket own answer own).0 t) key v (one_key kind no_list own key named) a

      backward : CoversAll h i j kind bucket own answer → covers_key h i j bucket own answer own ≡ true
      backward all = (covers_key-Decides h i j bucket own answer own).1 (λ w a. all own w (own_key kind no_list own) a)

  -- where it doesn't cover a key that it names, it doesn't cover all
  pub not_covers : (key : List ℕ) → names kind own key ≡ true → covers_key h i j bucket own answer key ≡ false → covers_all h i j kind bucket own answer ≡ false
  not_covers key named e =
      fails _ (covers_all-Decides h i j kind bucket own answer)
      (λ all. let yes = (covers_key-Decides h i j bucket own answer key).1 (λ w a. all key w named a) in let no : false ≡ true = sym e ∙ yes in cc)

  -- where it covers each key that it names, of which there is an acknowledged write, it covers all
  pub all_covers : ((key : List ℕ) (v : Version) → names kind own key ≡ true → IsAcknowledged h i bucket key v → covers_key h i j bucket own answer key ≡ true) → covers_all h i j kind bucket own answer ≡ true
  all_covers each = (covers_all-Decides h i j kind bucket own answer).1 (λ key v named a. (covers_key-Decides h i j bucket own answer key).0 (each key v named a) v a)
