-- The event that is read of a line is the one that the line spells.
use Rattle.std.proofs.Common.{◌≡◌, ℕ, Bool, true, false, ◌&&◌, Option, Some, None, List, refl, sym, ap, subst, ◌∙◌, arith, bytes_eq}
use Rattle.std.specs.Prelude.{if◌then◌else◌, option_map}
use Rattle.std.proofs.lemmas.Bool.{and_parts, and_from}
use Rattle.std.proofs.lemmas.Slice.Eq.{bytes_eq-Decides}
use mathlib.Core.Bool.{Bool-set}
use Rattle.row_codec.specs.Reads.{are_bytes}
use Rattle.k2v_rows.specs.Later.{is_short}
use Rattle.k2v_model.specs.declared.order.Item.{Item}
use Rattle.store_model.specs.declared.event.Event.{Event}
use Rattle.store_model.specs.declared.event.Event.TheVariants as event
use Rattle.text_model.specs.Grammar.{IsIn, words_of as common_words}
use Rattle.text_model.specs.Words.{words_in}
use Rattle.text_model.specs.Reading.{is_in, candidate as common_candidate}
use Rattle.text_model.proofs.Decided.{in_range, range_in, read_back, candidate_back as common_back}
use Rattle.k2v_text.specs.declared.event.ItemEvent.{ItemEvent}
use Rattle.k2v_text.specs.declared.event.ItemEvent.TheVariants.{Common, Put, Delete, Get}
use Rattle.k2v_text.specs.Grammar.{is_common, words_of, spelling, range_of, is_allowed_kind, Spells}
use Rattle.k2v_text.specs.Reading.{item_by, item_in, candidate, where_spelled, spelled_by, event_of}
use Rattle.k2v_text.proofs.Spelled.{words_spelled}

-- an item is read of its words
item_back : (i : Item) → item_in i.bucket i.pk i.sk ≡ Some i
item_back i = by_tests (is_short i.pk) (are_bytes i.pk) refl refl where
  by_tests : (s b : Bool) (h : is_short i.pk ≡ s) (k : are_bytes i.pk ≡ b) → item_by i.bucket i.pk i.sk s b h k ≡ Some i
  by_tests true true h k = λ j. Some (record {
    bucket = i.bucket;
    pk = i.pk;
    sk = i.sk;
    short = Bool-set (is_short i.pk) true h i.short j;
    bytes = Bool-set (are_bytes i.pk) true k i.bytes j;
  })
  by_tests true false h k = let no : true ≡ false = sym i.bytes ∙ k in cc
  by_tests false b h k = let no : true ≡ false = sym i.short ∙ h in cc

-- the words of an event that both kinds of schedules have are read as those of a schedule of objects
common_read : (e : Event) → is_common e ≡ true → candidate (common_words e) ≡ option_map Common (common_candidate (common_words e))
common_read event.Trio h = refl
common_read (event.Block size) h = cc
common_read (event.Bucket name) h = refl
common_read (event.Role n None) h = refl
common_read (event.Role n (Some role)) h = refl
common_read (event.Redundancy r) h = refl
common_read (event.Apply n) h = refl
common_read (event.Tick ms) h = refl
common_read (event.Skew n ms) h = refl
common_read (event.Put n bucket key size fill) h = cc
common_read (event.Get n bucket key) h = cc
common_read (event.Head n bucket key) h = cc
common_read (event.Delete n bucket key) h = cc
common_read (event.Copy n from_bucket from_key bucket key) h = cc
common_read (event.List n bucket prefix) h = cc
common_read (event.Deliver m) h = refl
common_read (event.Lose m) h = refl
common_read (event.Drain n) h = refl
common_read (event.Expire q) h = refl
common_read (event.Restart n) h = refl
common_read (event.Gossip from to) h = refl
common_read (event.Ack n) h = refl
common_read (event.Sync n) h = refl
common_read (event.SyncAck n) h = refl
common_read (event.Clean n) h = refl
common_read (event.Work n) h = refl
common_read (event.Repair n) h = refl
common_read (event.Collect n) h = refl

candidate_back : (e : ItemEvent) → IsIn (range_of e) → is_allowed_kind e ≡ true → candidate (words_of e) ≡ Some e
candidate_back (Common e) h kind = common_read e kind ∙ ap (option_map Common) (common_back e h)
candidate_back (Put n i size fill token) h kind =
    let a = read_back n (omega arith) in
    let b = read_back size (omega arith) in
    let c = read_back fill (omega arith) in
    let d = read_back token (omega arith) in
    rw (a, b, c, d) (ap (option_map (λ x. Put n x size fill token)) (item_back i))
candidate_back (Delete n i token) h kind =
    let a = read_back n (omega arith) in
    let b = read_back token (omega arith) in
    rw (a, b) (ap (option_map (λ x. Delete n x token)) (item_back i))
candidate_back (Get n i) h kind =
    let a = read_back n (omega arith) in
    rw a (ap (option_map (λ x. Get n x)) (item_back i))

-- what is found to be spelled is spelled
where_is : (line : List ℕ) (c e : ItemEvent) → where_spelled line c ≡ Some e → Spells line e
where_is line c e h =
    elim (bytes_eq line (spelling c) && (is_in (range_of c) && is_allowed_kind c)) as (λ b. (bytes_eq line (spelling c) && (is_in (range_of c) && is_allowed_kind c)) ≡ b → (if b then Some c else None) ≡ Some e → Spells line e) [
      | true ↦ λ t k.
          let same : c ≡ e = cc in
          let p = and_parts (bytes_eq line (spelling c)) _ t in
          let q = and_parts (is_in (range_of c)) (is_allowed_kind c) p.1 in
          subst (Spells line) same (record { spelled = (bytes_eq-Decides line (spelling c)).0 p.0; allowed = in_range (range_of c) q.0; kind = q.1 })
      | false ↦ λ t k. cc
    ] refl h

spelled_is : (line : List ℕ) (o : Option ItemEvent) (e : ItemEvent) → spelled_by line o ≡ Some e → Spells line e
spelled_is line None e h = cc
spelled_is line (Some c) e h = where_is line c e h

-- the event that is read of a line is spelled by it
pub event_is_spelled : (line : List ℕ) (e : ItemEvent) → event_of line ≡ Some e → Spells line e
unfolding event_of
event_is_spelled line e h = spelled_is line (candidate (words_in line)) e h

is_where : (line : List ℕ) (e : ItemEvent) → Spells line e → where_spelled line e ≡ Some e
is_where line e h =
    let t : (bytes_eq line (spelling e) && (is_in (range_of e) && is_allowed_kind e)) ≡ true =
    and_from _ _ ((bytes_eq-Decides line (spelling e)).1 h.spelled) (and_from _ _ (range_in (range_of e) h.allowed) h.kind) in
    rw t refl

-- the event that a line spells is read of it
pub spelled_is_read : (line : List ℕ) (e : ItemEvent) → Spells line e → event_of line ≡ Some e
unfolding event_of
spelled_is_read line e h =
    let c : candidate (words_in line) ≡ Some e = ap candidate (words_spelled line e h) ∙ candidate_back e h.allowed h.kind in
    ap (spelled_by line) c ∙ is_where line e h

nothing_read : (line : List ℕ) (o : Option ItemEvent) → event_of line ≡ o → ((e : ItemEvent) → Spells line e → ⊥) → o ≡ None
nothing_read line None h none = refl
nothing_read line (Some e) h none = absurd (none e (event_is_spelled line e h))

-- where no event is spelled none is read
pub none_is_read : (line : List ℕ) → ((e : ItemEvent) → Spells line e → ⊥) → event_of line ≡ None
none_is_read line none = nothing_read line (event_of line) refl none
