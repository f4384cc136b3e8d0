-- One view: what grows, what is read, and what a clean leaves.
use Rattle.std.proofs.Common.{◌≡◌, ◌≢◌, ℕ, zero, suc, pred, ◌<◌, ◌≤◌, min, max, Bool, true, false, cond, ◌&&◌, ◌||◌, ◌==◌, leb, List, [], ◌∷◌, ◌++◌, map, IsTrue, Option, Some, None, refl, sym, ◌∙◌, ap, subst, inl, inr, ◌⊎◌, arith, eqb-true, leb-true, le-leb, le_refl, le_trans, length, unwrap_or}
use Rattle.std.specs.Prelude.{nat_lt}
use Rattle.std.specs.Option.{option_or}
use Rattle.std.specs.List.{list_all}
use Rattle.std.proofs.lemmas.Bool.{cases_lt, or_cases, and_parts, ltb-true, ne_eqb, eq-eqb}
use Rattle.std.proofs.lemmas.List.Folds.{find-append}
use Rattle.layout_trackers.specs.declared.which.Which.{Which}
use Rattle.layout_trackers.specs.declared.which.Which.TheVariants.{Ack, Sync, SyncAck}
use Rattle.layout_trackers.specs.Trackers.{entry, is_reached}
use Rattle.layout_trackers.specs.Entries.{later, IsNotAbove}
use Rattle.layout_trackers.proofs.EntriesGrow.{never_falls, grows_trans, counts-joined, entry-raised, entry-raised_alone, entry-raised_one}
use Rattle.layout_trackers.proofs.Reaching.{reached_by}
use Rattle.view_model.specs.View.{Reading, View, is_gapless, first_version, last_version, from, oldest, newest, layout_at, version_of, members_stored, least_of, have_synced, is_established, read_version, merged, cleaned, appended, with_entry, GrewFrom}
use Rattle.crdt_core.specs.Members.{two_pass, Has, TwoOf}
use Rattle.view_model.proofs.Gapless.{at, Stored, lt_leb, led, below_oldest, above_newest, none_at_0, oldest_least, inside, first_is, at_from, gapless_from}
use Rattle.view_model.proofs.Cleans.{cleaned_from, gapless_cleaned, newest_stays}
use Rattle.view_model.proofs.ReadVersions.{read_known, read_stored, read_readable, read_grows, gapless_appended, newest_appended}
use Rattle.control_model.specs.Layouts.{is_in, is_set, are_three, IsMember, is_lawful}
use Rattle.control_model.specs.Facts.{entry_of}
use Rattle.version_laws.proofs.Tests.{some_is, none_is_not, has_map, has_flat, has_found, is_in-has, list_all-at, least_at, two_of}

-- the three trackers are different ones
pub sync_not_syncack : Sync ≢ SyncAck
sync_not_syncack e = cc

pub sync_not_ack : Sync ≢ Ack
sync_not_ack e = cc

pub syncack_not_sync : SyncAck ≢ Sync
syncack_not_sync e = cc

pub syncack_not_ack : SyncAck ≢ Ack
syncack_not_ack e = cc

pub ack_not_syncack : Ack ≢ SyncAck
ack_not_syncack e = cc

pub ack_not_sync : Ack ≢ Sync
ack_not_sync e = cc

-- ---- entries

not_above_le : (a b : Option ℕ) → IsNotAbove a b → unwrap_or a 0 ≤ unwrap_or b 0
not_above_le None b h = omega arith
not_above_le (Some a) None h = absurd h
not_above_le (Some a) (Some b) h = h

later_own : (a : Option ℕ) (i : ℕ) → unwrap_or (later a (Some i)) 0 ≡ max (unwrap_or a 0) i
later_own None i = omega arith
later_own (Some a) i = refl

-- above the oldest version a missing entry tells no more than 0
pub counted : (i o : ℕ) (e : Option ℕ) → o < i → i ≤ unwrap_or e o → i ≤ unwrap_or e 0
counted i o None h k = absurd (omega arith)
counted i o (Some a) h k = k

reached_le : (i : ℕ) (e : Option ℕ) (x : ℕ) → e ≡ Some x → i ≤ x → i ≤ unwrap_or e 0
reached_le i None x e h = absurd (none_is_not x e)
reached_le i (Some a) x e h = let same : a ≡ x = some_is a x e in omega arith

module _ {L : Type 0} (R : Reading L) where
  abbrev pub Gapless : View L → Type 0
  Gapless v = IsTrue (is_gapless R v.layouts)

  -- ---- what grew

  pub grew_refl : (v : View L) → GrewFrom R v v
  grew_refl v = record { entries = never_falls v.trackers; oldest_grew = le_refl (oldest R v); newest_grew = le_refl (newest R v); layouts = λ i x h e. e }

  pub grew_trans : (a b c : View L) → GrewFrom R a b → GrewFrom R b c → GrewFrom R a c
  grew_trans a b c p q = record {
    entries = grows_trans a.trackers b.trackers c.trackers p.entries q.entries;
    oldest_grew = le_trans p.oldest_grew q.oldest_grew;
    newest_grew = le_trans p.newest_grew q.newest_grew;
    layouts = λ i x h e. q.layouts i x h (p.layouts i x (le_trans q.oldest_grew h) e);
  }

  pub entries_grew : (a b : View L) → GrewFrom R a b → (k : Which) (n : ℕ) → entry_of k a n ≤ entry_of k b n
  entries_grew a b p k n = not_above_le (entry k n a.trackers) (entry k n b.trackers) (p.entries k n)

  pub merged_entry : (a b : View L) (k : Which) (n : ℕ) → entry_of k (merged R a b) n ≡ max (entry_of k a n) (entry_of k b n)
  merged_entry a b k n = counts-joined k n a.trackers b.trackers

  pub own_entry : (v : View L) (k : Which) (n i : ℕ) → entry_of k (with_entry R k n i v) n ≡ max (entry_of k v n) i
  own_entry v k n i = ap (λ e. unwrap_or e 0) (entry-raised k n i v.trackers) ∙ later_own (entry k n v.trackers) i

  pub other_node : (v : View L) (kind : Which) (n i : ℕ) (k : Which) (m : ℕ) → m ≢ n → entry_of k (with_entry R kind n i v) m ≡ entry_of k v m
  other_node v kind n i k m apart = ap (λ e. unwrap_or e 0) (entry-raised_alone kind k n m i v.trackers apart)

  pub other_kind : (v : View L) (kind : Which) (n i : ℕ) (k : Which) (m : ℕ) → k ≢ kind → entry_of k (with_entry R kind n i v) m ≡ entry_of k v m
  other_kind v kind n i k m apart = ap (λ e. unwrap_or e 0) (entry-raised_one kind k n m i v.trackers apart)

  -- ---- where a version is stored

  pub stored_at : (v : View L) → Gapless v → (i : ℕ) → 1 ≤ i → oldest R v ≤ i → i ≤ newest R v → Stored R v.layouts i
  stored_at v g i p h k = inside R v.layouts i g p h k

  pub range_of : (v : View L) → Gapless v → (i : ℕ) (x : L) → layout_at R v i ≡ Some x → (oldest R v ≤ i) × (i ≤ newest R v)
  range_of v g i x e = (
    elim (cases_lt i (oldest R v)) [ inl less ↦ absurd (none_is_not x (sym (below_oldest R v.layouts i g less) ∙ e)) | inr at ↦ at ],
    elim (cases_lt (newest R v) i) [ inl more ↦ absurd (none_is_not x (sym (above_newest R v.layouts i g more) ∙ e)) | inr at ↦ at ],
  )

  pub ordered : (v : View L) → Gapless v → oldest R v ≤ newest R v
  ordered v g = oldest_least R v.layouts g

  started_by : (xs : List L) → IsTrue (is_gapless R xs) → 1 ≤ last_version R 0 xs → 1 ≤ first_version R xs
  started_by [] g h = h
  started_by (x ∷ xs) g h = (led R x xs g).0

  pub started : (v : View L) → Gapless v → 1 ≤ newest R v → 1 ≤ oldest R v
  started v g h = started_by v.layouts g h

  -- a view that grew from another has the same layouts where both store them
  pub grew_at : (a b : View L) → Gapless a → Gapless b → GrewFrom R a b → (i : ℕ) → oldest R b ≤ i → i ≤ newest R a → layout_at R a i ≡ layout_at R b i
  grew_at a b f g p zero h k = none_at_0 R a.layouts f ∙ sym (none_at_0 R b.layouts g)
  grew_at a b f g p (suc i) h k =
      let s = stored_at a f (suc i) (omega arith) (le_trans p.oldest_grew h) k in
      s.1 ∙ sym (p.layouts (suc i) s.0 h s.1)

  -- ---- what is read

  -- a greater view reads no less
  pub read_below : (a b : View L) → Gapless a → Gapless b → GrewFrom R a b → read_version R a ≤ read_version R b
  read_below a b f g p = read_grows R a b f g p

  pub read_low : (v : View L) → Gapless v → oldest R v ≤ read_version R v
  read_low v g = read_stored R v g

  pub read_high : (v : View L) → read_version R v ≤ newest R v
  read_high v = read_known R v

  -- why a version is read
  pub data WhyRead (v : View L) : Type 0 where
    is_oldest : read_version R v ≡ oldest R v → WhyRead v
    synced : oldest R v < read_version R v → is_established R v (read_version R v) ≡ true → WhyRead v
    acked : (n : ℕ) → read_version R v ≤ entry_of SyncAck v n → WhyRead v

  by_synced : (v : View L) → is_established R v (read_version R v) ≡ true → WhyRead v
  by_synced v e =
      let i = read_version R v in
      WhyRead.synced (ltb-true (oldest R v) i (and_parts (nat_lt (oldest R v) i) (have_synced R v i (layout_at R v (pred i))) e).0) e

  by_reached : (v : View L) → is_reached SyncAck (read_version R v) v.trackers ≡ true → WhyRead v
  by_reached v e =
      let found = (reached_by SyncAck (read_version R v) v.trackers).0 e in
      WhyRead.acked found.0 (reached_le (read_version R v) (entry SyncAck found.0 v.trackers) found.1 found.2 found.3)

  pub why_read : (v : View L) → Gapless v → WhyRead v
  why_read v g =
      let i = read_version R v in
      elim (or_cases (i == oldest R v) (is_established R v i || is_reached SyncAck i v.trackers) (read_readable R v g)) [
        | inl e ↦ WhyRead.is_oldest (eqb-true i (oldest R v) e)
        | inr t ↦ elim (or_cases (is_established R v i) (is_reached SyncAck i v.trackers) t) [
          | inl e ↦ by_synced v e
          | inr e ↦ by_reached v e
        ]
      ]

  -- in each partition of the version before an established one two nodes have synced so far
  pub established_two : (v : View L) (i : ℕ) (l : L) → is_established R v i ≡ true → layout_at R v (pred i) ≡ Some l → (set : List ℕ) → Has (R.sets l) set → TwoOf (λ n. i ≤ entry_of Sync v n) set
  established_two v i l t e set h =
      let both = and_parts (nat_lt (oldest R v) i) (have_synced R v i (layout_at R v (pred i))) t in
      let low : oldest R v < i = ltb-true (oldest R v) i both.0 in
      let synced : have_synced R v i (Some l) ≡ true = subst (λ o. have_synced R v i o ≡ true) e both.1 in
      two_of (λ n. leb i (version_of R Sync v n)) (λ n. i ≤ entry_of Sync v n)
      (λ n k. counted i (oldest R v) (entry Sync n v.trackers) low (leb-true i (version_of R Sync v n) k))
      set (list_all-at (two_pass (λ n. leb i (version_of R Sync v n))) (R.sets l) set synced h)

  -- ---- the least of the members of stored versions

  -- above the oldest version it is at most each member's entry
  pub least_member : (k : Which) (v : View L) (i j m : ℕ) → i ≤ least_of R k v → oldest R v < i → IsMember R m (layout_at R v j) → i ≤ entry_of k v m
  least_member k v i j m h low mem =
      let l = stored (layout_at R v j) refl mem in
      let member : Has (members_stored R v) m = has_flat R.members v.layouts l.0 m (has_found (λ l. R.version l == j) v.layouts l.0 l.1) (is_in-has m (R.members l.0) l.2) in
      let one = least_at (map (version_of R k v) (members_stored R v)) (version_of R k v m) (has_map (version_of R k v) (members_stored R v) m member) in
      counted i (oldest R v) (entry k m v.trackers) low (le_trans h one)
    where
      stored : (o : Option L) → layout_at R v j ≡ o → IsMember R m o → (l : L) × (layout_at R v j ≡ Some l) × IsTrue (is_in m (R.members l))
      stored None e h = cc
      stored (Some l) e h = (l, e, h)

  -- ---- a clean

  oldest_by : (v : View L) (m : ℕ) → max (oldest R v) (min (least_of R SyncAck v) (newest R v)) ≡ m → Gapless v → oldest R (cleaned R v) ≡ m
  oldest_by v zero e g =
      let stays = newest_stays R v g in
      let order = oldest_least R (cleaned R v).layouts (gapless_cleaned R v g) in
      let start : 1 ≤ newest R v → 1 ≤ oldest R v = started v g in
      elim (cases_lt 0 (newest R v)) [ inl some ↦ (let one = start some in absurd (omega arith)) | inr none ↦ omega arith ]
  oldest_by v (suc m) e g =
      let k = min (least_of R SyncAck v) (newest R v) in
      let o = ordered v g in
      let s = stored_at v g (suc m) (omega arith) (omega arith) (omega arith) in
      let top : leb k (suc m) ≡ true = le-leb k (suc m) (omega arith) in
      ap (first_version R) (cleaned_from R v g)
      ∙ first_is R (from R k v.layouts) (suc m) (gapless_from R k v.layouts g)
      (s.0, at_from R k v.layouts (suc m) ∙ (ap (λ b. cond b (at R v.layouts (suc m)) None) top ∙ s.1))
      (λ i h. at_from R k v.layouts i ∙ below i h)
    where
      none : (b : Bool) → ◌≡◌ {A = Option L} (cond b None None) None
      none true = refl
      none false = refl

      below : (i : ℕ) → i < suc m → cond (leb (min (least_of R SyncAck v) (newest R v)) i) (at R v.layouts i) None ≡ None
      below i h = elim (cases_lt i (oldest R v)) [
        | inl less ↦ ap (λ o. cond (leb (min (least_of R SyncAck v) (newest R v)) i) o None) (below_oldest R v.layouts i g less) ∙ none (leb (min (least_of R SyncAck v) (newest R v)) i)
        | inr more ↦ ap (λ b. cond b (at R v.layouts i) None) (lt_leb (min (least_of R SyncAck v) (newest R v)) i (omega arith))
      ]

  pub oldest_cleaned : (v : View L) → Gapless v → oldest R (cleaned R v) ≡ max (oldest R v) (min (least_of R SyncAck v) (newest R v))
  oldest_cleaned v g = oldest_by v (max (oldest R v) (min (least_of R SyncAck v) (newest R v))) refl g

  pub cleaned_grew : (v : View L) → Gapless v → GrewFrom R v (cleaned R v)
  cleaned_grew v g =
      let k = min (least_of R SyncAck v) (newest R v) in
      let o = oldest_cleaned v g in
      let n = newest_stays R v g in
      record {
        entries = never_falls v.trackers;
        oldest_grew = omega arith;
        newest_grew = omega arith;
        layouts = λ i x h e.
            (let top : leb k i ≡ true = le-leb k i (omega arith) in
            ap (λ ls. at R ls i) (cleaned_from R v g) ∙ (at_from R k v.layouts i ∙ (ap (λ b. cond b (at R v.layouts i) None) top ∙ e)));
      }

  -- a node cleans below a version only where each member of each stored version acknowledged it
  pub clean_reaches : (v : View L) → Gapless v → (j m : ℕ) → IsMember R m (layout_at R v j) → (oldest R (cleaned R v) ≡ oldest R v) ⊎ (oldest R (cleaned R v) ≤ entry_of SyncAck v m)
  clean_reaches v g j m mem =
      let o = oldest_cleaned v g in
      elim (cases_lt (oldest R v) (oldest R (cleaned R v))) [
        | inl more ↦ inr (least_member SyncAck v (oldest R (cleaned R v)) j m (omega arith) more mem)
        | inr same ↦ inl (omega arith)
      ]

  -- ---- a version more

  or_none : (p : Option L) → option_or p None ≡ p
  or_none None = refl
  or_none (Some x) = refl

  module _ (v : View L) (l : L) (g : Gapless v) (next : R.version l ≡ suc (newest R v)) where
    alone : (i : ℕ) → i ≢ R.version l → at R (l ∷ []) i ≡ None
    alone i apart = ap (λ b. cond b (Some l) None) (ne_eqb (R.version l) i (λ e. apart (sym e)))

    pub at_appended : (i : ℕ) → i ≤ newest R v → layout_at R (appended R v l) i ≡ layout_at R v i
    at_appended i h =
        find-append (λ l. R.version l == i) v.layouts (l ∷ []) ∙ (ap (option_or (at R v.layouts i)) (alone i (λ e. omega arith)) ∙ or_none (at R v.layouts i))

    pub at_new : layout_at R (appended R v l) (suc (newest R v)) ≡ Some l
    at_new =
        let i = suc (newest R v) in
        let none : at R v.layouts i ≡ None = above_newest R v.layouts i g (omega arith) in
        let hit : at R (l ∷ []) i ≡ Some l = ap (λ b. cond b (Some l) None) (eq-eqb (R.version l) i next) in
        find-append (λ l. R.version l == i) v.layouts (l ∷ []) ∙ (ap (λ o. option_or o (at R (l ∷ []) i)) none ∙ hit)

    pub newest_new : newest R (appended R v l) ≡ suc (newest R v)
    newest_new = newest_appended R v l ∙ next

    pub gapless_new : Gapless (appended R v l)
    gapless_new = gapless_appended R v l g next

  first_same : (xs : List L) (l : L) → 1 ≤ first_version R xs → first_version R (xs ++ l ∷ []) ≡ first_version R xs
  first_same [] l h = absurd (omega arith)
  first_same (x ∷ xs) l h = refl

  pub oldest_appended : (v : View L) (l : L) → 1 ≤ oldest R v → oldest R (appended R v l) ≡ oldest R v
  oldest_appended v l h = first_same v.layouts l h

  -- ---- a lawful layout has a set, and a member

  pub some_set : (partitions : ℕ) → 1 ≤ partitions → (i : ℕ) (l : L) → IsTrue (is_lawful R partitions i l) → (set : List ℕ) × Has (R.sets l) set
  some_set partitions some i l t =
      let rest = and_parts (R.version l == i) ((length (R.sets l) == partitions) && list_all (is_set (R.members l)) (R.sets l)) t in
      let counts = and_parts (length (R.sets l) == partitions) (list_all (is_set (R.members l)) (R.sets l)) rest.1 in
      find (R.sets l) (eqb-true (length (R.sets l)) partitions counts.0)
    where
      find : (xs : List (List ℕ)) → length xs ≡ partitions → (set : List ℕ) × Has xs set
      find [] e = absurd (omega arith)
      find (x ∷ xs) e = (x, inl refl)

  pub some_member : (partitions : ℕ) → 1 ≤ partitions → (i : ℕ) (l : L) → IsTrue (is_lawful R partitions i l) → (n : ℕ) × IsMember R n (Some l)
  some_member partitions some i l t =
      let rest = and_parts (R.version l == i) ((length (R.sets l) == partitions) && list_all (is_set (R.members l)) (R.sets l)) t in
      let sets = (and_parts (length (R.sets l) == partitions) (list_all (is_set (R.members l)) (R.sets l)) rest.1).1 in
      let set = some_set partitions some i l t in
      let both = and_parts (are_three set.0) (list_all (λ n. is_in n (R.members l)) set.0) (list_all-at (is_set (R.members l)) (R.sets l) set.0 sets set.1) in
      first set.0 both.0 both.1
    where
      first : (xs : List ℕ) → IsTrue (are_three xs) → IsTrue (list_all (λ n. is_in n (R.members l)) xs) → (n : ℕ) × IsMember R n (Some l)
      first [] a b = cc
      first (x ∷ xs) a b = (x, (and_parts (is_in x (R.members l)) (list_all (λ n. is_in n (R.members l)) xs) b).0)
