use Rattle.std.proofs.Common.{◌≡◌, ◌≤◌, ◌<◌, IsSorted, true, false, length, sym, subst, ◌∙◌, arith}
use Rattle.std.proofs.lemmas.Option.{get_or_from_slice_get}
use Rattle.world_history.specs.Table.{row_cmp, IsTable, IsKeyEnd}
use Rattle.world_history.specs.Checks.{covers_key}
use Rattle.world_history.proofs.Listed.{listed_there, none_first, none_further, covers_first, covers_next, covers_not, covers_end}
use Rattle.world_history.proofs.read.Read.covers_listed.Goals as goal

pub before-k-requires : goal.before-k-requires
before-k-requires c = subst (IsSorted row_cmp) (sym c.as_slice-rows.ensures.value) c.args.past.now.table.made.sorted

pub loop-rows-init : goal.loop-rows-init
loop-rows-init c =
    let read = c.args.self.now in
    let h = c.args.past.now.table.index.records.now in
    let rows = c.as_slice-rows.result.now in
    let t = subst (IsTable h) (sym c.as_slice-rows.ensures.value) c.args.past.now.table.made in
    record {
      upto = c.before-k.ensures.bound;
      none = none_first rows read.bucket.now read.key.now c.before-k.result c.before-k.ensures.point;
      covers = covers_first h rows t read.began read.finished read.kind read.bucket.now read.key.now read.answer.now c.requires.list c.before-k.result c.before-k.ensures.point;
    }

-- a named key that isn't covered
pub returns-then-not-covers_key : goal.returns-then-not-covers_key
returns-then-not-covers_key c =
    let read = c.args.self.now in
    let h = c.args.past.now.table.index.records.now in
    let rows = c.as_slice-rows.result.now in
    let t = subst (IsTable h) (sym c.as_slice-rows.ensures.value) c.args.past.now.table.made in
    let found = listed_there rows c.loop-rows.k read.bucket.now read.key.now (sym c.is_listed_at.ensures ∙ c.loop-rows-test.true) in
    let here = get_or_from_slice_get rows c.loop-rows.k found.0 c.index-rows-k.result found.2.0 in
    sym (covers_not h rows t read.began read.finished read.kind read.bucket.now read.key.now read.answer.now c.requires.list found.0 found.2.1
    (subst (λ x. covers_key h read.began read.finished read.bucket.now read.key.now read.answer.now x.key ≡ false) here (sym c.covers_key.ensures ∙ c.if-not-covers_key.true)))

pub key_end-k-requires : goal.key_end-k-requires
key_end-k-requires c =
    let read = c.args.self.now in
    let rows = c.as_slice-rows.result.now in
    let found = listed_there rows c.loop-rows.k read.bucket.now read.key.now (sym c.is_listed_at.ensures ∙ c.loop-rows-test.true) in
    subst (λ x. c.loop-rows.k < length x) c.as_slice-rows.ensures.value found.1

-- the rows of one key more
pub loop-rows-preserved : goal.loop-rows-preserved
loop-rows-preserved c =
    let read = c.args.self.now in
    let h = c.args.past.now.table.index.records.now in
    let rows = c.as_slice-rows.result.now in
    let t = subst (IsTable h) (sym c.as_slice-rows.ensures.value) c.args.past.now.table.made in
    let found = listed_there rows c.loop-rows.k read.bucket.now read.key.now (sym c.is_listed_at.ensures ∙ c.loop-rows-test.true) in
    let here = get_or_from_slice_get rows c.loop-rows.k found.0 c.index-rows-k.result found.2.0 in
    let bound : c.key_end-k.result ≤ length rows = subst (λ x. c.key_end-k.result ≤ length x) (sym c.as_slice-rows.ensures.value) c.key_end-k.ensures.bound in
    let end = subst (λ x. IsKeyEnd x c.loop-rows.k (length h) c.key_end-k.result) (sym c.as_slice-rows.ensures.value) c.key_end-k.ensures.end in
    let up : c.loop-rows.k ≤ c.key_end-k.result = omega (arith, c.key_end-k.ensures.further) in
    record {
      upto = bound;
      none = none_further rows read.bucket.now read.key.now c.loop-rows.k c.key_end-k.result up c.loop-rows.invariant.none;
      covers = covers_next h rows t read.began read.finished read.kind read.bucket.now read.key.now read.answer.now c.requires.list c.loop-rows.k c.key_end-k.result found.0 found.2.0 bound end
          (subst (λ x. covers_key h read.began read.finished read.bucket.now read.key.now read.answer.now x.key ≡ true) here (sym c.covers_key.ensures ∙ c.if-not-covers_key.false)) c.loop-rows.invariant.covers;
    }

-- each named key was covered
pub returns : goal.returns
returns c =
    let read = c.args.self.now in
    let h = c.args.past.now.table.index.records.now in
    let rows = c.as_slice-rows.result.now in
    let t = subst (IsTable h) (sym c.as_slice-rows.ensures.value) c.args.past.now.table.made in
    sym (covers_end h rows t read.began read.finished read.kind read.bucket.now read.key.now read.answer.now c.requires.list c.loop-rows.k c.loop-rows.invariant.none c.loop-rows.invariant.covers
    (sym c.is_listed_at.ensures ∙ c.loop-rows-test.false))
