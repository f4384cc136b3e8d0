-- What date and time jiff shows at a time in milliseconds since 1970.
use Rattle.std.proofs.Common.{◌≡◌, ℕ, ◌+◌, ◌*◌, ◌/◌, ◌%◌, ◌<◌, ◌≤◌, ◌⊎◌, inl, inr, refl, sym, ap, ◌∙◌, arith, ℤ, pos, ◌+ℤ◌, ◌*ℤ◌, ◌<ℤ◌, ◌≤ℤ◌}
use Rattle.std.proofs.lemmas.Bool.{cases_order}
use Rattle.std.proofs.lemmas.Int.{by_lt_z}
use Rattle.jiff_core.specs.declared.civil.date.Date.{Date}
use Rattle.jiff_core.specs.declared.civil.datetime.DateTime.{DateTime}
use Rattle.jiff_core.specs.Calendar.{day_count, days_from_civil, IsCivilDate}
use Rattle.jiff_core.specs.Date.{epoch_day}
use Rattle.jiff_core.specs.DateTime.{civil_nanos}
use Rattle.jiff_core.proofs.SignedLemmas.{signed_arith}
use Rattle.jiff_core.proofs.CalendarLemmas.{days_from_civil-day_count, day_count-lt_year, day_count-lt_month, day_count-day}
use Rattle.jiff_core.proofs.DateLemmas.{civil}
use Rattle.jiff_core.proofs.DateTimeLemmas.{civil_nanos-parts, time_nanos_bound}
use Rattle.date_model.specs.Days.{Day, day_after, IsOn, IsShown}
use Rattle.date_model.proofs.Calendar.{IsDay, day_is}

-- two days of one number have one day count
same_count : (n : ℕ) (x : Day) (d : Date) → IsDay n x → epoch_day d ≡ pos n → day_count d.year d.month d.day ≡ day_count (pos x.year) x.mon x.day
same_count n x d is e = omega (arith, signed_arith, days_from_civil-day_count d.year d.month d.day, days_from_civil-day_count (pos x.year) x.mon x.day, is.days)

-- a day of a year that the library has
civil_day : (n : ℕ) (x : Day) (d : Date) → IsDay n x → pos x.year ≤ℤ d.year → IsCivilDate (pos x.year) x.mon x.day
civil_day n x d is h = ((omega (arith, signed_arith), omega (arith, signed_arith, d.year_in)), (is.mon_low, is.mon_high), (is.day_low, is.day_high))

same_month : (n : ℕ) (x : Day) (d : Date) → IsDay n x → day_count d.year d.month d.day ≡ day_count (pos x.year) x.mon x.day → d.year ≡ pos x.year → (d.month ≡ x.mon) × (d.day ≡ x.day)
same_month n x d is e year =
    let here : day_count (pos x.year) d.month d.day ≡ day_count (pos x.year) x.mon x.day = rw year at e in
    let mine : IsCivilDate (pos x.year) d.month d.day = rw year at (civil d) in
    let theirs : IsCivilDate (pos x.year) x.mon x.day = civil_day n x d is (omega (arith, signed_arith)) in
    elim (cases_order d.month x.mon) [
      | inr (inl lt) ↦ absurd (omega (arith, day_count-lt_month (pos x.year) d.month d.day x.mon x.day mine is.day_low lt))
      | inl month ↦ (
        month,
        (let counted = day_count-day (pos x.year) x.mon d.day x.day d.day_in.0 is.day_low in
            let again : day_count (pos x.year) x.mon d.day ≡ day_count (pos x.year) x.mon x.day = rw month at here in
            omega arith),
      )
      | inr (inr gt) ↦ absurd (omega (arith, day_count-lt_month (pos x.year) x.mon x.day d.month d.day theirs d.day_in.0 gt))
    ]

-- the date of a day number is the day that comes so many days after the first of 1970
date_is : (n : ℕ) (x : Day) (d : Date) → IsDay n x → epoch_day d ≡ pos n → IsOn x d
date_is n x d is e =
    let count = same_count n x d is e in
    by_lt_z d.year (pos x.year)
    (λ lt. absurd (omega (arith, day_count-lt_year d.year d.month d.day (pos x.year) x.mon x.day (civil d) is.day_low lt)))
    (λ ge. by_lt_z (pos x.year) d.year
    (λ gt. absurd (omega (arith, day_count-lt_year (pos x.year) x.mon x.day d.year d.month d.day (civil_day n x d is ge) d.day_in.0 gt)))
    (λ le. let year : d.year ≡ pos x.year = omega (arith, signed_arith) in let month = same_month n x d is count year in (year, month.0, month.1)))

-- the one lemma: the civil date and time whose nanoseconds since 1970 are those of a time in milliseconds
pub shown_at : (ms : ℕ) (dt : DateTime) → civil_nanos dt ≡ pos (ms * 1000000) → IsShown ms dt
shown_at ms dt e =
    let parts = civil_nanos-parts dt in
    let within = time_nanos_bound dt.time in
    let day : epoch_day dt.date ≡ pos (ms / 1000 / 86400) = omega (arith, signed_arith) in
    record {
      date = date_is (ms / 1000 / 86400) (day_after (ms / 1000 / 86400)) dt.date (day_is (ms / 1000 / 86400)) day;
      clock = omega (arith, signed_arith);
      milli = omega (arith, signed_arith);
    }
