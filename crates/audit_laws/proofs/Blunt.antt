-- Freshness looks at no cause: a history is fresh where it is so without the identifiers of superseded ends.
use Rattle.std.proofs.Common.{◌≡◌, ℕ, zero, suc, ◌+◌, ◌==◌, Option, Some, None, option_map, List, [], ◌∷◌, drop, map, refl, ap, sym, ◌∙◌, slice_get}
use Rattle.std.specs.Prelude.{position}
use Rattle.std.specs.List.{position_or_len}
use Rattle.std.proofs.lemmas.List.{length-map}
use Rattle.std.specs.Option.{option_and_then}
use Rattle.crdt_rows.specs.declared.version.Version.{Version}
use Rattle.history_model.specs.declared.record.Kind.{Kind}
use Rattle.history_model.specs.declared.record.Answer.{Answer}
use Rattle.history_model.specs.declared.record.Record.{Record}
use Rattle.history_model.specs.declared.record.Record.TheVariants.{Began, Finished, Ended}
use Rattle.history_model.specs.Record.{request_of, answer_of, next, finish_at, finish, version_of, acknowledged, BeganAt}
use Rattle.history_model.specs.Fresh.{Covers, Fresh}
use Rattle.audit_laws.specs.Account.{blunt}

-- ---- two lists of records that say the same of requests

module _ (h k : List Record) (finishes : (i q : ℕ) → finish k i q ≡ finish h i q) (was : (i q : ℕ) (kind : Kind) (bucket key : List ℕ) → BeganAt k i q kind bucket key → BeganAt h i q kind bucket key)
    (is : (i q : ℕ) (kind : Kind) (bucket key : List ℕ) → BeganAt h i q kind bucket key → BeganAt k i q kind bucket key) where
  acknowledged_same : (i q : ℕ) → acknowledged k i q ≡ acknowledged h i q
  acknowledged_same i q = ap (option_and_then (λ (f : ℕ × Answer). option_map (λ v. (f.0, v)) (version_of f.1))) (finishes i q)

  covers_same : (j : ℕ) (bucket own : List ℕ) (answer : Answer) (key : List ℕ) (w : Version) → Covers h j bucket own answer key w → Covers k j bucket own answer key w
  covers_same j bucket own answer key w c = record {
    versions = c.versions;
    none = λ shows_none.
        let d = c.none shows_none in
        record {
          request = d.request;
          kind = d.kind;
          place = d.place;
          deletes = d.deletes;
          began = is d.place d.request d.kind bucket key d.began;
          before = d.before;
          not_below = λ end v e. d.not_below end v (sym (acknowledged_same d.place d.request) ∙ e);
        };
  }

  -- where one is fresh, so is the other
  pub fresh_same : Fresh h → Fresh k
  fresh_same fresh i j kind bucket own answer r =
      let f = fresh i j kind bucket own answer (record { request = r.request; reads = r.reads; began = was i r.request kind bucket own r.began; finished = sym (finishes i r.request) ∙ r.finished }) in
      record {
        covers = λ key w named a. covers_same j bucket own answer key w (f.covers key w named (record {
          request = a.request;
          kind = a.kind;
          place = a.place;
          end = a.end;
          writes = a.writes;
          began = was a.place a.request a.kind bucket key a.began;
          finished = sym (acknowledged_same a.place a.request) ∙ a.finished;
          before = a.before;
        }));
        written = λ key v named shows.
            let w = f.written key v named shows in
            record {
              kind = w.kind;
              place = w.place;
              writes = w.writes;
              began = is w.place v.id w.kind bucket key w.began;
              before = w.before;
              no_other = λ end other e. w.no_other end other (sym (acknowledged_same w.place v.id) ∙ e);
            };
      }

-- ---- without identifiers

same_request : (r : Record) → request_of (blunt r) ≡ request_of r
same_request (Began q n kind bucket key) = refl
same_request (Finished q answer) = refl
same_request (Ended q c) = refl

same_answer : (r : Record) → answer_of (blunt r) ≡ answer_of r
same_answer (Began q n kind bucket key) = refl
same_answer (Finished q answer) = refl
same_answer (Ended q c) = refl

get_blunt : (h : List Record) (i : ℕ) → slice_get (map blunt h) i ≡ option_map blunt (slice_get h i)
get_blunt [] i = refl
get_blunt (r ∷ h) zero = refl
get_blunt (r ∷ h) (suc i) = get_blunt h i

drop_blunt : (h : List Record) (i : ℕ) → drop i (map blunt h) ≡ map blunt (drop i h)
drop_blunt h zero = refl
drop_blunt [] (suc i) = refl
drop_blunt (r ∷ h) (suc i) = drop_blunt h i

long_blunt : (q : ℕ) (h : List Record) → position_or_len (λ r. request_of r == q) (map blunt h) ≡ position_or_len (λ r. request_of r == q) h
long_blunt q [] = refl
long_blunt q (r ∷ h) = rw (same_request r, long_blunt q h) refl

position_blunt : (q : ℕ) (h : List Record) → position (λ r. request_of r == q) (map blunt h) ≡ position (λ r. request_of r == q) h
position_blunt q h = rw (long_blunt q h, length-map h blunt) refl

next_blunt : (h : List Record) (i q : ℕ) → next (map blunt h) i q ≡ next h i q
next_blunt h i q = ap (option_map (λ k. i + 1 + k)) (ap (position (λ r. request_of r == q)) (drop_blunt h (i + 1)) ∙ position_blunt q (drop (i + 1) h))

answer_blunt : (o : Option Record) → option_and_then answer_of (option_map blunt o) ≡ option_and_then answer_of o
answer_blunt None = refl
answer_blunt (Some r) = same_answer r

finish_at_blunt : (h : List Record) (j : ℕ) → finish_at (map blunt h) j ≡ finish_at h j
finish_at_blunt h j = ap (option_map (λ a. (j, a))) (ap (option_and_then answer_of) (get_blunt h j) ∙ answer_blunt (slice_get h j))

finish_each : (h : List Record) (o : Option ℕ) → option_and_then (finish_at (map blunt h)) o ≡ option_and_then (finish_at h) o
finish_each h None = refl
finish_each h (Some j) = finish_at_blunt h j

finish_blunt : (h : List Record) (i q : ℕ) → finish (map blunt h) i q ≡ finish h i q
finish_blunt h i q = ap (option_and_then (finish_at (map blunt h))) (next_blunt h i q) ∙ finish_each h (next h i q)

began_was : (o : Option Record) (q n : ℕ) (kind : Kind) (bucket key : List ℕ) → option_map blunt o ≡ Some (Began q n kind bucket key) → o ≡ Some (Began q n kind bucket key)
began_was None q n kind bucket key e = cc
began_was (Some (Began p m k b c)) q n kind bucket key e = e
began_was (Some (Finished p answer)) q n kind bucket key e = cc
began_was (Some (Ended p c)) q n kind bucket key e = cc

-- what is fresh is so without the identifiers of superseded ends
pub fresh_blunt : (h : List Record) → Fresh h → Fresh (map blunt h)
fresh_blunt h =
    fresh_same h (map blunt h) (finish_blunt h)
    (λ i q kind bucket key b. (b.0, began_was (slice_get h i) q b.0 kind bucket key (sym (get_blunt h i) ∙ b.1)))
    (λ i q kind bucket key b. (b.0, get_blunt h i ∙ ap (option_map blunt) b.1))
