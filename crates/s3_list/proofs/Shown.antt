-- An entry more on a page.
use Rattle.std.proofs.Common.{◌≡◌, ℕ, suc, ◌+◌, ◌-◌, ◌<◌, ◌≤◌, Bool, true, false, not, ◌&&◌, ◌==◌, nat_lt, if◌then◌else◌, Option, Some, List, [], ◌∷◌, ◌++◌, length, take, drop, get_or, refl, sym, ap, ◌∙◌, subst, arith, append_assoc, length-append, drop-cons, add-one}
use Rattle.std.proofs.lemmas.List.{take_at, get_or_push, length_push}
use Rattle.std.proofs.lemmas.Option.{slice_get-get_or}
use Rattle.std.proofs.lemmas.Bool.{lt-ltb}
use Rattle.std.specs.List.{filter_map, cons_option, slice_get}
use Rattle.crdt_rows.specs.declared.object_row.ObjectRow.{ObjectRow}
use Rattle.s3_model.specs.declared.page.ListAsk.{ListAsk}
use Rattle.s3_model.specs.declared.page.Entry.{Entry}
use Rattle.s3_model.specs.declared.page.Page.{Page}
use Rattle.s3_model.specs.Page.{entry_of, is_repeated, once_after}
use Rattle.s3_list.specs.SoFar.{last_of, IsSoFar, page_from}

pub last_push : (es : List Entry) (e : Entry) → last_of (es ++ e ∷ []) ≡ Some e
last_push es e =
    let place : length (es ++ e ∷ []) - 1 ≡ length es = omega (arith, length_push es e) in
    let within : length es < length (es ++ e ∷ []) = omega (arith, length_push es e) in
    ap (slice_get (es ++ e ∷ [])) place ∙ slice_get-get_or (es ++ e ∷ []) (length es) e within ∙ ap Some (get_or_push es e e (length es) refl)

-- an entry that repeats the last one is left out
pub repeated : (max : ℕ) (all shown come : List Entry) (e : Entry) → is_repeated (last_of shown) e ≡ true → IsSoFar max all shown (e ∷ come) → IsSoFar max all shown come
repeated max all shown come e same so =
    record { whole = sym (ap (λ b. shown ++ (if b then once_after (last_of shown) come else e ∷ once_after (Some e) come)) same) ∙ so.whole; few = so.few }

-- what stands where another is the next
pub other : (max : ℕ) (all shown come : List Entry) (e : Entry) → is_repeated (last_of shown) e ≡ false → IsSoFar max all shown (e ∷ come) → shown ++ (e ∷ once_after (Some e) come) ≡ all
other max all shown come e new so = sym (ap (λ b. shown ++ (if b then once_after (last_of shown) come else e ∷ once_after (Some e) come)) new) ∙ so.whole

-- another is shown, where there is room
pub pushed : (max : ℕ) (all shown come : List Entry) (e : Entry) → is_repeated (last_of shown) e ≡ false → length shown < max → IsSoFar max all shown (e ∷ come) → IsSoFar max all (shown ++ e ∷ []) come
pushed max all shown come e new room so =
    let joined : (shown ++ e ∷ []) ++ once_after (Some e) come ≡ all = append_assoc shown (e ∷ []) (once_after (Some e) come) ∙ other max all shown come e new so in
    let P : Option Entry → Type 0 = λ last. (shown ++ e ∷ []) ++ once_after last come ≡ all in
    record { whole = subst P (sym (last_push shown e)) joined; few = omega (arith, length_push shown e) }

-- another isn't shown, where there is none
pub full : (max : ℕ) (all shown come : List Entry) (e : Entry) → is_repeated (last_of shown) e ≡ false → max ≤ length shown → IsSoFar max all shown (e ∷ come) →
    record { entries = shown; truncated = not (max == 0) } ≡ page_from max all
full max all shown come e new room so =
    let long : length shown ≡ max = omega (arith, so.few) in
    let whole = other max all shown come e new so in
    let more : length all ≡ length shown + suc (length (once_after (Some e) come)) = sym (ap length whole) ∙ length-append shown (e ∷ once_after (Some e) come) in
    let longer : max < length all = omega arith in
    let front : take max all ≡ shown = sym (ap (take max) whole) ∙ take_at shown (e ∷ once_after (Some e) come) max long in
    let over : nat_lt max (length all) ≡ true = lt-ltb max (length all) longer in
    let page : List Entry → Bool → Page = λ es b. record { entries = es; truncated = b && not (max == 0) } in
    sym (ap (λ es. page es (nat_lt max (length all))) front ∙ ap (page shown) over)

-- the next row's entry is the next one, if it has one
pub next_row : (ask : ListAsk) (rows : List ObjectRow) (i : ℕ) (row : ObjectRow) → i < length rows → row ≡ get_or rows i row →
    filter_map (entry_of ask) (drop i rows) ≡ cons_option (entry_of ask row) (filter_map (entry_of ask) (drop (i + 1) rows))
next_row ask rows i row h is =
    let f : ObjectRow → Option Entry = entry_of ask in
    let step : drop i rows ≡ row ∷ drop (i + 1) rows = drop-cons rows i row h ∙ ap (λ r. r ∷ drop (suc i) rows) (sym is) ∙ ap (λ n. row ∷ drop n rows) (sym (add-one i)) in
    ap (filter_map f) step

-- whether an entry repeats the last one, as it was looked up
pub repeats_is : (es now : List Entry) (last : Option Entry) (e : Entry) (b : Bool) → now ≡ es → last ≡ slice_get now (length now - 1) → b ≡ is_repeated last e → is_repeated (last_of es) e ≡ b
repeats_is es now last e b same found is = ap (λ o. is_repeated o e) (sym (found ∙ ap last_of same)) ∙ sym is

-- what is to come begins with the next row's entry, if it has one
pub next_comes : (ask : ListAsk) (rows : List ObjectRow) (all shown : List Entry) (i : ℕ) (row : ObjectRow) (e : Option Entry) → i < length rows → row ≡ get_or rows i row → e ≡ entry_of ask row →
    IsSoFar ask.max all shown (filter_map (entry_of ask) (drop i rows)) → IsSoFar ask.max all shown (cons_option e (filter_map (entry_of ask) (drop (i + 1) rows)))
next_comes ask rows all shown i row e h is entry so =
    let P : List Entry → Type 0 = λ come. IsSoFar ask.max all shown come in
    subst P (next_row ask rows i row h is ∙ ap (λ (o : Option Entry). cons_option o (filter_map (entry_of ask) (drop (i + 1) rows))) (sym entry)) so
