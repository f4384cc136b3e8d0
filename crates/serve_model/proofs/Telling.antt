-- What is told of an end is all that its answer is made of.
use Rattle.std.proofs.Common.{◌≡◌, ℕ, ◌==◌, nat_lt, not, ◌&&◌, if◌then◌else◌, true, false, length, take, Option, Some, None, option_map, option_and_then, List, [], ◌∷◌, refl, sym, ap, ◌∙◌}
use Rattle.std.specs.List.{filter_map, cons_option}
use Rattle.crdt_rows.specs.declared.version.Version.{Version}
use Rattle.crdt_rows.specs.declared.body.Meta.{Meta}
use Rattle.crdt_rows.specs.declared.body.Body.TheVariants.{Marker, Inline, Blocks}
use Rattle.crdt_rows.specs.declared.state.State.{State}
use Rattle.crdt_rows.specs.declared.state.State.TheVariants.{Uploading, Aborted as GivenUp, Complete}
use Rattle.crdt_rows.specs.declared.object_row.ObjectRow.{ObjectRow}
use Rattle.crdt_rows.specs.ObjectRow.{newest, state_at}
use Rattle.flow_model.specs.declared.flow.FlowEnd.{FlowEnd}
use Rattle.flow_model.specs.declared.flow.FlowEnd.TheVariants.{Stored, Found, Nothing, Listed, Superseded, Aborted}
use Rattle.flow_model.specs.Says.{Said, none, marked, inline, in_blocks, of_state, of_version, said_by}
use Rattle.store_model.specs.Answers.{Entry, with_entry, entries}
use Rattle.store_model.specs.Gets.{object_in}
use Rattle.s3_model.specs.declared.ask.Ask.{Ask}
use Rattle.s3_model.specs.declared.ask.Ask.TheVariants as ask
use Rattle.s3_model.specs.declared.page.Entry.{Entry as Shown}
use Rattle.s3_model.specs.declared.page.ListAsk.{ListAsk}
use Rattle.s3_model.specs.declared.page.Page.{Page}
use Rattle.s3_model.specs.declared.reply.Reply.TheVariants as reply
use Rattle.s3_model.specs.Page.{meta_in, is_listed, common_of, shown, entry_of, once_after}
use Rattle.serve_model.specs.declared.answer.Answer.{Answer}
use Rattle.serve_model.specs.declared.answer.Answer.TheVariants as answer
use Rattle.serve_model.specs.Told.{Told, list, whole, told_of, TellSame}
use Rattle.serve_model.specs.Judging.{answer_to, counted_after}

-- ---- the page of a list

state_said : (version : Version) (state : Option State) → option_map (λ (meta : Meta). (version, meta)) (meta_in state) ≡ object_in (of_state version state)
state_said version None = refl
state_said version (Some Uploading) = refl
state_said version (Some GivenUp) = refl
state_said version (Some (Complete Marker)) = refl
state_said version (Some (Complete (Inline meta bytes))) = refl
state_said version (Some (Complete (Blocks meta first))) = refl

version_said : (row : ObjectRow) (version : Option Version) → option_and_then (λ (v : Version). option_map (λ (meta : Meta). (v, meta)) (meta_in (state_at row v))) version ≡ object_in (of_version row version)
version_said row None = refl
version_said row (Some version) = state_said version (state_at row version)

module _ (asked : ListAsk) where
  -- how a list shows the object with this key, where there is one
  abbrev shown_at : List ℕ → Option (Version × Meta) → Option Shown
  shown_at key object = if is_listed asked key then option_map (λ (o : Version × Meta). shown key o (common_of asked key)) object else None

  -- how it shows an entry
  abbrev shown_entry : Entry → Option Shown
  shown_entry e = shown_at e.key (Some (e.version, e.meta))

  row_shown : (row : ObjectRow) → entry_of asked row ≡ shown_at row.key (object_in (said_by row))
  row_shown row = ap (shown_at row.key) (version_said row (newest row))

  none_shown : (key : List ℕ) → shown_at key None ≡ None
  none_shown key = elim (is_listed asked key) as (λ b. (if b then option_map (λ (o : Version × Meta). shown key o (common_of asked key)) None else None) ≡ None) [ true ↦ refl | false ↦ refl ]

  row_first : (key : List ℕ) (said : Said) (es : List Entry) → cons_option (shown_at key (object_in said)) (filter_map shown_entry es) ≡ filter_map shown_entry (with_entry key said es)
  row_first key none es = ap (λ (o : Option Shown). cons_option o (filter_map shown_entry es)) (none_shown key)
  row_first key (marked version) es = ap (λ (o : Option Shown). cons_option o (filter_map shown_entry es)) (none_shown key)
  row_first key (inline version meta body) es = refl
  row_first key (in_blocks version meta first) es = refl

  rows_shown : (rows : List ObjectRow) → filter_map (entry_of asked) rows ≡ filter_map shown_entry (entries rows)
  rows_shown [] = refl
  rows_shown (row ∷ rows) =
      ap (λ (o : Option Shown). cons_option o (filter_map (entry_of asked) rows)) (row_shown row)
      ∙ (ap (λ (es : List Shown). cons_option (shown_at row.key (object_in (said_by row))) es) (rows_shown rows) ∙ row_first row.key (said_by row) (entries rows))

  -- the page of what is shown
  abbrev page_cut : List Shown → Page
  page_cut all = let once = once_after None all in record { entries = take asked.max once; truncated = nat_lt asked.max (length once) && not (asked.max == 0) }

-- ---- answers

module _ (a : Ask) where
  -- the answer, and the count, that is made of what is told
  abbrev answer_from : Told → Answer
  answer_from (whole end) = answer_to a end
  answer_from (list es) = elim a as (λ a. Answer) [
    | ask.List bucket asked delimiter url token start ↦ answer.Reply (reply.Page (page_cut asked (filter_map (shown_entry asked) es)))
    | _ ↦ answer.Nothing
  ]

  abbrev count_from : Told → ℕ
  count_from (whole end) = counted_after a end
  count_from (list es) = 0

list_answers : (a : Ask) (rows : List ObjectRow) → answer_to a (Listed rows) ≡ answer_from a (list (entries rows))
list_answers (ask.List bucket asked delimiter url token start) rows = ap (λ (all : List Shown). answer.Reply (reply.Page (page_cut asked all))) (rows_shown asked rows)
list_answers ask.ListBuckets rows = refl
list_answers (ask.HeadBucket bucket) rows = refl
list_answers (ask.BadList bucket) rows = refl
list_answers (ask.Get bucket key range) rows = refl
list_answers (ask.Head bucket key range) rows = refl
list_answers (ask.Delete bucket key) rows = refl
list_answers (ask.Put bucket key length md5 headers) rows = refl
list_answers (ask.Copy from bucket key headers) rows = refl

list_counts : (a : Ask) (rows : List ObjectRow) → counted_after a (Listed rows) ≡ 0
list_counts (ask.Copy from bucket key headers) rows = refl
list_counts _ rows = refl

told_answers : (a : Ask) (end : FlowEnd) → answer_to a end ≡ answer_from a (told_of end)
told_answers a (Listed rows) = list_answers a rows
told_answers a (Stored version meta) = refl
told_answers a (Found version meta body) = refl
told_answers a Nothing = refl
told_answers a (Superseded id) = refl
told_answers a Aborted = refl

told_counts : (a : Ask) (end : FlowEnd) → counted_after a end ≡ count_from a (told_of end)
told_counts a (Listed rows) = list_counts a rows
told_counts a (Stored version meta) = refl
told_counts a (Found version meta body) = refl
told_counts a Nothing = refl
told_counts a (Superseded id) = refl
told_counts a Aborted = refl

module _ (a : Ask) (end other : FlowEnd) (same : told_of end ≡ told_of other) where
  pub same_answers : answer_to a end ≡ answer_to a other
  same_answers = told_answers a end ∙ (ap (answer_from a) same ∙ sym (told_answers a other))

  pub same_counts : counted_after a end ≡ counted_after a other
  same_counts = told_counts a end ∙ (ap (count_from a) same ∙ sym (told_counts a other))

-- equal ends tell the same
pub tells_same : (end other : Option FlowEnd) → end ≡ other → TellSame end other
tells_same end other same = ap (λ (o : Option FlowEnd). option_map told_of o) same
