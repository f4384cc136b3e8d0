-- A search for a head's end that goes on where it stopped.
use Rattle.std.proofs.Common.{◌≡◌, ℕ, ◌+◌, ◌<◌, ◌≤◌, min, Bool, true, false, ◌||◌, Some, None, List, [], ◌∷◌, ◌++◌, refl, sym, ◌∙◌, ap, length, take, arith, length-append, get_or}
use Rattle.std.proofs.lemmas.List.{take-append-le}
use Rattle.std.proofs.lemmas.List.Folds.{list_any-append}
use Rattle.std.proofs.lemmas.Grind.{take_at_read}
use Rattle.std.specs.List.{list_any}
use Rattle.http_wire.specs.declared.end.Search.{Search}
use Rattle.http_model.specs.Cut.{head_limit, is_text, ends_head, least, head_end}
use Rattle.http_wire.specs.Pieces.{IsSearched}
use Rattle.http_wire.proofs.Cuts.{least_same, least_fewer, least_next_none, least_next_some, same_front, head_end_is}

-- nothing was searched yet
none_at_first : (bytes : List ℕ) (n : ℕ) → n ≡ 1 → least (λ k. ends_head (take k bytes)) 0 n ≡ None
unfolding ends_head
none_at_first bytes n e = ap (least (λ k. ends_head (take k bytes)) 0) e

pub search_begins : (bytes : List ℕ) (search : Search) → search.place ≡ 0 → search.text ≡ false → IsSearched bytes search
search_begins bytes search e f =
    record {
      within = omega arith;
      none = none_at_first bytes (search.place + 1) (omega arith);
      text = f ∙ ap (λ n. list_any is_text (take n bytes)) (sym e);
    }

-- what was searched stays so when bytes follow
pub search_grows : (bytes more : List ℕ) (search : Search) → IsSearched bytes search → IsSearched (bytes ++ more) search
search_grows bytes more search s =
    let len : length (bytes ++ more) ≡ length bytes + length more = length-append bytes more in
    record {
      within = omega (arith, s.within);
      none =
          least_same (λ k. ends_head (take k bytes)) (λ k. ends_head (take k (bytes ++ more))) 0 (search.place + 1) (λ j k. same_front bytes more j (omega (arith, s.within)))
          ∙ s.none;
      text = s.text ∙ ap (list_any is_text) (sym (take-append-le search.place bytes more s.within));
    }

or_none : (a b : Bool) → (a || (b || false)) ≡ (a || b)
or_none true b = refl
or_none false true = refl
or_none false false = refl

-- there is text in one byte more where there was before, or where this one is
pub text_step : (bytes : List ℕ) (n d : ℕ) → n < length bytes → list_any is_text (take (n + 1) bytes) ≡ (list_any is_text (take n bytes) || is_text (get_or bytes n d))
text_step bytes n d h =
    ap (list_any is_text) (take_at_read bytes n d h).1 ∙ list_any-append is_text (take n bytes) (get_or bytes n d ∷ []) ∙ or_none (list_any is_text (take n bytes)) (is_text (get_or bytes n d))

-- one byte more was searched, and no head ends with it
pub search_steps : (bytes : List ℕ) (old new : Search) → IsSearched bytes old → new.place ≡ old.place + 1 → new.place ≤ length bytes → ends_head (take new.place bytes) ≡ false → new.text ≡ list_any is_text (take new.place bytes) → IsSearched bytes new
search_steps bytes old new s e within k text =
    record {
      within = within;
      none =
          least_next_none (λ n. ends_head (take n bytes)) new.place (new.place + 1) refl
          (ap (least (λ n. ends_head (take n bytes)) 0) e ∙ s.none)
          k;
      text = text;
    }

-- a head ends with the byte that follows
pub search_finds : (bytes : List ℕ) (old new : Search) → IsSearched bytes old → new.place ≡ old.place + 1 → new.place ≤ min (length bytes) head_limit → ends_head (take new.place bytes) ≡ true → head_end bytes ≡ Some new.place
search_finds bytes old new s e within k =
    head_end_is bytes (Some new.place)
    (least_next_some (λ n. ends_head (take n bytes)) new.place (min (length bytes) head_limit + 1) (omega arith) (ap (least (λ n. ends_head (take n bytes)) 0) e ∙ s.none) k)

-- all was searched
pub search_ends : (bytes : List ℕ) (search : Search) → IsSearched bytes search → min (length bytes) head_limit ≤ search.place → head_end bytes ≡ None
search_ends bytes search s full = head_end_is bytes None (least_fewer (λ n. ends_head (take n bytes)) 0 (min (length bytes) head_limit + 1) (search.place + 1) (omega arith) s.none)
