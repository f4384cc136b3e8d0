-- What is kept of what gets read, as requests begin, go on, end, and are done with.
use Rattle.std.proofs.Common.{◌≡◌, ℕ, Bool, true, false, Option, Some, None, List, [], ◌∷◌, ◌++◌, refl, sym, ap, ◌∙◌, subst, append-nil, append_assoc}
use Rattle.std.specs.Prelude.{⊤, if◌then◌else◌}
use Rattle.std.specs.Option.{option_or}
use Rattle.std.specs.List.{concat}
use Rattle.std.proofs.lemmas.List.Folds.{concat-append}
use Rattle.crdt_rows.specs.declared.version.Version.{Version}
use Rattle.crdt_rows.specs.declared.body.Meta.{Meta}
use Rattle.crdt_rows.specs.declared.version_row.BlockRef.{BlockRef}
use Rattle.crdt_rows.specs.declared.any_row.AnyRow.{AnyRow}
use Rattle.wire_messages.specs.declared.phase.PhaseEnd.{PhaseEnd}
use Rattle.wire_messages.specs.declared.phase.PhaseEnd.TheVariants.{Row, Window, Kept, Block}
use Rattle.history_model.specs.declared.record.Kind.{Kind}
use Rattle.history_model.specs.declared.record.Kind.TheVariants.{Put, Get, Head, Delete, Copy, List as Keys}
use Rattle.flow_model.specs.declared.flow.Aim.TheVariants as aim
use Rattle.flow_model.specs.declared.flow.Stage.{Stage}
use Rattle.flow_model.specs.declared.flow.Stage.TheVariants.{Drawing, Uploading, Receiving, Needing, Aborting, Completing, Looking, Opening, Gathering, Listing}
use Rattle.flow_model.specs.declared.flow.Flow.{Flow}
use Rattle.flow_model.specs.declared.flow.FlowStep.{FlowStep}
use Rattle.flow_model.specs.declared.flow.FlowStep.TheVariants.{More, Need, Wait, End}
use Rattle.flow_model.specs.declared.flow.FlowEnd.{FlowEnd}
use Rattle.flow_model.specs.Says.{Said, none, marked, inline, in_blocks, said_of, Named, unnamed, whole, deleted, named_by}
use Rattle.flow_model.specs.Next as flow
use Rattle.store_model.specs.Run.{Asked as Waiting}
use Rattle.store_model.specs.Gets.{object_given, stage_of, is_get, is_there, gathered_at, body_of}
use Rattle.s3_world.specs.Reads.{IsLeft, with_block, found_after, blocks_after, IsWaitingGet, IsReadingAs}

-- ---- what a get that waits does

-- the bytes of an object that came, once it does this
abbrev pub gathered_then : FlowStep → List ℕ
gathered_then (More f phase) = gathered_at (Some f.stage)
gathered_then (Need f wanted) = gathered_at (Some f.stage)
gathered_then (Wait f) = gathered_at (Some f.stage)
gathered_then (End end) = body_of (Some end)

-- it waits as gets do, once it does this
abbrev pub IsWaitingThen : Option (List (List ℕ)) → FlowStep → Type 0
IsWaitingThen blocks (More f phase) = IsWaitingGet blocks f.stage
IsWaitingThen blocks (Need f wanted) = IsWaitingGet blocks f.stage
IsWaitingThen blocks (Wait f) = IsWaitingGet blocks f.stage
IsWaitingThen blocks (End end) = ⊤

-- the rest stays the rest, and it waits as gets do
abbrev pub GoesRight : Option (List (List ℕ)) → List ℕ → FlowStep → Type 0
GoesRight blocks given does = IsLeft blocks given (gathered_then does) × IsWaitingThen blocks does

module _ (id block : ℕ) where
  -- no byte came, and its row was read
  looked_right : (blocks : Option (List (List ℕ))) (given : List ℕ) → blocks ≡ None → given ≡ [] → (said : Said) → GoesRight blocks given (flow.looked id block aim.Get said)
  looked_right blocks given no_block none_given none = (subst (λ b. IsLeft b given []) (sym no_block) none_given, tt)
  looked_right blocks given no_block none_given (marked v) = (subst (λ b. IsLeft b given []) (sym no_block) none_given, tt)
  looked_right blocks given no_block none_given (inline v m body) = (subst (λ b. IsLeft b given body) (sym no_block) none_given, tt)
  looked_right blocks given no_block none_given (in_blocks v m first) = (subst (λ b. IsLeft b given []) (sym no_block) none_given, no_block)

module _ (id block : ℕ) (version : Version) (meta : Meta) where
  -- the bytes so far are given and the rest, and the next block is asked for or all came
  gathers_right : (blocks : Option (List (List ℕ))) (given body : List ℕ) → IsLeft blocks given body → (blocks ≡ None → body ≡ []) → (left : List BlockRef) → GoesRight blocks given (flow.gathers id block aim.Get version meta left body)
  gathers_right blocks given body is_left nothing [] = (is_left, tt)
  gathers_right blocks given body is_left nothing (b ∷ left) = (is_left, nothing)

  opened_right : (blocks : Option (List (List ℕ))) (given : List ℕ) → blocks ≡ None → given ≡ [] → (named : Named) → GoesRight blocks given (flow.opened id block aim.Get version meta named)
  opened_right blocks given no_block none_given unnamed = (subst (λ b. IsLeft b given []) (sym no_block) none_given, no_block)
  opened_right blocks given no_block none_given (whole bs) = gathers_right blocks given [] (subst (λ b. IsLeft b given []) (sym no_block) none_given) (λ e. refl) bs
  opened_right blocks given no_block none_given deleted = (subst (λ b. IsLeft b given []) (sym no_block) none_given, tt)

-- one block more waits
left_more : (blocks : Option (List (List ℕ))) (given body bytes : List ℕ) → IsLeft blocks given body → (blocks ≡ None → body ≡ []) → IsLeft (with_block blocks bytes) given (body ++ bytes)
left_more None given body bytes is_left nothing = rw (is_left, nothing refl) (append-nil bytes)
left_more (Some blocks) given body bytes is_left nothing =
    ap (given ++◌) (concat-append blocks (bytes ∷ []) ∙ ap (concat blocks ++◌) (append-nil bytes)) ∙ sym (append_assoc given (concat blocks) bytes) ∙ ap (λ bs. bs ++ bytes) is_left

some_block : (blocks : Option (List (List ℕ))) (bytes : List ℕ) (body : List ℕ) → with_block blocks bytes ≡ None → body ≡ []
some_block None bytes body e = absurd (cc)
some_block (Some blocks) bytes body e = absurd (cc)

-- without a block nothing was handed out
none_left : (blocks : Option (List (List ℕ))) (given bytes : List ℕ) → blocks ≡ None → IsLeft blocks given bytes → given ≡ []
none_left blocks given bytes e is_left = let h : IsLeft None given bytes = subst (λ b. IsLeft b given bytes) e is_left in h

-- where no byte came none was handed out, and no byte waits
pub nothing_left : (blocks : Option (List (List ℕ))) (bytes : List ℕ) → IsLeft blocks bytes [] → (bytes ≡ []) × IsLeft blocks [] []
nothing_left None bytes is_left = (is_left, refl)
nothing_left (Some blocks) [] is_left = (refl, is_left)
nothing_left (Some blocks) (b ∷ bytes) is_left = absurd (cc)

-- whatever its phase gave, the rest stays the rest
pub get_right : (id block : ℕ) (blocks : Option (List (List ℕ))) (given : List ℕ) (stage : Stage) (end : PhaseEnd AnyRow) (now : ℕ) → IsWaitingGet blocks stage → IsLeft blocks given (gathered_at (Some stage)) →
    GoesRight (blocks_after Get blocks stage end) given (flow.goes_on id block stage end now)
get_right id block blocks given (Looking name aim.Get) (Row value) now waits is_left = looked_right id block blocks given waits (none_left blocks given [] waits is_left) (said_of value)
get_right id block blocks given (Looking name aim.Get) (Window rows more) now waits is_left = (is_left, waits)
get_right id block blocks given (Looking name aim.Get) Kept now waits is_left = (is_left, waits)
get_right id block blocks given (Looking name aim.Get) (Block bytes) now waits is_left = (is_left, waits)
get_right id block blocks given (Looking name aim.Head) end now waits is_left = absurd waits
get_right id block blocks given (Looking name (aim.Copy other headers)) end now waits is_left = absurd waits
get_right id block blocks given (Opening version meta aim.Get) (Row value) now waits is_left = opened_right id block version meta blocks given waits (none_left blocks given [] waits is_left) (named_by value meta.size)
get_right id block blocks given (Opening version meta aim.Get) (Window rows more) now waits is_left = (is_left, waits)
get_right id block blocks given (Opening version meta aim.Get) Kept now waits is_left = (is_left, waits)
get_right id block blocks given (Opening version meta aim.Get) (Block bytes) now waits is_left = (is_left, waits)
get_right id block blocks given (Opening version meta aim.Head) end now waits is_left = absurd waits
get_right id block blocks given (Opening version meta (aim.Copy other headers)) end now waits is_left = absurd waits
get_right id block blocks given (Gathering version meta aim.Get left body) (Row value) now waits is_left = (is_left, waits)
get_right id block blocks given (Gathering version meta aim.Get left body) (Window rows more) now waits is_left = (is_left, waits)
get_right id block blocks given (Gathering version meta aim.Get left body) Kept now waits is_left = (is_left, waits)
get_right id block blocks given (Gathering version meta aim.Get left body) (Block bytes) now waits is_left =
    gathers_right id block version meta (with_block blocks bytes) given (body ++ bytes) (left_more blocks given body bytes is_left waits) (some_block blocks bytes (body ++ bytes)) left
get_right id block blocks given (Gathering version meta aim.Head left body) end now waits is_left = absurd waits
get_right id block blocks given (Gathering version meta (aim.Copy other headers) left body) end now waits is_left = absurd waits
get_right id block blocks given (Drawing name wish) end now waits is_left = absurd waits
get_right id block blocks given (Uploading name version content stored) end now waits is_left = absurd waits
get_right id block blocks given (Receiving name version coming received) end now waits is_left = absurd waits
get_right id block blocks given (Needing name version coming received) end now waits is_left = absurd waits
get_right id block blocks given (Aborting version) end now waits is_left = absurd waits
get_right id block blocks given (Completing version meta) end now waits is_left = absurd waits
get_right id block blocks given (Listing bucket prefix rows) end now waits is_left = absurd waits

-- what it waits for once it does this
abbrev pub flow_then : FlowStep → Option Flow
flow_then (More f phase) = Some f
flow_then (Need f wanted) = Some f
flow_then (Wait f) = Some f
flow_then (End end) = None

-- of a request that hands out nothing
pub others_left : (bytes more given : List ℕ) (blocks : Option (List (List ℕ))) → blocks ≡ None → IsLeft blocks given bytes → IsLeft blocks given more
others_left bytes more given blocks e is_left = subst (λ b. IsLeft b given more) (sym e) (none_left blocks given bytes e is_left)

waiting_then : (blocks : Option (List (List ℕ))) (does : FlowStep) → IsWaitingThen blocks does → IsReadingAs Get blocks (flow_then does)
waiting_then blocks (More f phase) h = h
waiting_then blocks (Need f wanted) h = h
waiting_then blocks (Wait f) h = h
waiting_then blocks (End end) h = tt

-- ---- one request

nothing_else : (b : Bool) {o : Option (Version × Meta)} → o ≡ None → (if b then o else None) ≡ None
nothing_else true e = e
nothing_else false e = refl

-- what was found, of what is asked, how it ended, and what its phases gave
abbrev pub found_of : Option Waiting → Option FlowEnd → Option (Version × Meta) → Option (Version × Meta)
found_of asked end seen = if is_get asked then (if is_there (stage_of asked) end then seen else None) else None

-- nothing was found
pub found_nothing : (asked : Option Waiting) (end : Option FlowEnd) → found_of asked end None ≡ None
found_nothing asked end = nothing_else (is_get asked) (nothing_else (is_there (stage_of asked) end) refl)

-- the bytes that came
abbrev pub gathered_of : Option Waiting → Option FlowEnd → List ℕ
gathered_of asked end = elim (stage_of asked) as (λ o. List ℕ) [
  | Some stage ↦ gathered_at (Some stage)
  | None ↦ body_of end
]

-- how it ended once it does this, if it hadn't before
abbrev pub end_then : FlowStep → Option FlowEnd
end_then (More f phase) = None
end_then (Need f wanted) = None
end_then (Wait f) = None
end_then (End end) = Some end

-- its ends once it does this
abbrev pub ends_then : List (ℕ × FlowEnd) → ℕ → FlowStep → List (ℕ × FlowEnd)
ends_then ends q (More f phase) = ends
ends_then ends q (Need f wanted) = ends
ends_then ends q (Wait f) = ends
ends_then ends q (End end) = ends ++ (q, end) ∷ []

pub there_then : (does : FlowStep) (m : Waiting) → is_there (stage_of (Some (record m { flow = flow_then does }))) (end_then does) ≡ true
there_then (More f phase) m = refl
there_then (Need f wanted) m = refl
there_then (Wait f) m = refl
there_then (End end) m = refl

pub gathered_is : (does : FlowStep) (m : Waiting) → gathered_of (Some (record m { flow = flow_then does })) (end_then does) ≡ gathered_then does
gathered_is (More f phase) m = refl
gathered_is (Need f wanted) m = refl
gathered_is (Wait f) m = refl
gathered_is (End end) m = refl

module _ (m : Waiting) (f : Flow) (end : PhaseEnd AnyRow) (before : Option FlowEnd) where
  pub found_next : (k : Kind) (found seen : Option (Version × Meta)) (next : Option Flow) (after : Option FlowEnd) → is_there (stage_of (Some (record m { flow = next }))) after ≡ true →
      found ≡ found_of (Some (record m { kind = k; flow = Some f })) before seen → found_after k found end ≡ found_of (Some (record m { kind = k; flow = next })) after (option_or seen (object_given end))
  found_next Get found seen next after there is = ap (λ o. option_or o (object_given end)) is ∙ (rw there refl)
  found_next Put found seen next after there is = is
  found_next Head found seen next after there is = is
  found_next Delete found seen next after there is = is
  found_next Copy found seen next after there is = is
  found_next Keys found seen next after there is = is

module _ (f : Flow) (end : PhaseEnd AnyRow) (now : ℕ) (given : List ℕ) where
  -- what it does
  abbrev does_next : FlowStep
  does_next = flow.next f end now

  pub left_next : (k : Kind) (blocks : Option (List (List ℕ))) → IsReadingAs k blocks (Some f) → IsLeft blocks given (gathered_at (Some f.stage)) → IsLeft (blocks_after k blocks f.stage end) given (gathered_then does_next)
  left_next Get blocks reading is_left = (get_right f.id f.block blocks given f.stage end now reading is_left).0
  left_next Put blocks reading is_left = others_left (gathered_at (Some f.stage)) (gathered_then does_next) given blocks reading is_left
  left_next Head blocks reading is_left = others_left (gathered_at (Some f.stage)) (gathered_then does_next) given blocks reading is_left
  left_next Delete blocks reading is_left = others_left (gathered_at (Some f.stage)) (gathered_then does_next) given blocks reading is_left
  left_next Copy blocks reading is_left = others_left (gathered_at (Some f.stage)) (gathered_then does_next) given blocks reading is_left
  left_next Keys blocks reading is_left = others_left (gathered_at (Some f.stage)) (gathered_then does_next) given blocks reading is_left

  pub reading_next : (k : Kind) (blocks : Option (List (List ℕ))) → IsReadingAs k blocks (Some f) → IsLeft blocks given (gathered_at (Some f.stage)) → IsReadingAs k (blocks_after k blocks f.stage end) (flow_then does_next)
  reading_next Get blocks reading is_left = waiting_then (blocks_after Get blocks f.stage end) does_next (get_right f.id f.block blocks given f.stage end now reading is_left).1
  reading_next Put blocks reading is_left = reading
  reading_next Head blocks reading is_left = reading
  reading_next Delete blocks reading is_left = reading
  reading_next Copy blocks reading is_left = reading
  reading_next Keys blocks reading is_left = reading
