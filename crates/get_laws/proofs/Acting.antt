-- Each act keeps what is known of a get that is on its way, which gives more and more.
use Rattle.std.proofs.Common.{◌≡◌, inl, inr, ℕ, zero, suc, ◌-◌, true, false, ◌==◌, cond, Option, Some, None, List, [], ◌∷◌, ◌++◌, slice_set, if◌then◌else◌, option_map, refl, sym, ap, ◌∙◌, subst}
use Rattle.std.specs.List.{AllByRecursion}
use Rattle.std.specs.Option.{option_or, option_and_then}
use Rattle.std.proofs.lemmas.Bool.{eqb-true, eqb-false, eq-eqb, ne_eqb}
use Rattle.crdt_rows.specs.declared.version.Version.{Version}
use Rattle.crdt_rows.specs.declared.body.Meta.{Meta}
use Rattle.crdt_rows.specs.declared.any_row.AnyRow.{AnyRow}
use Rattle.wire_messages.specs.declared.phase.PhaseEnd.{PhaseEnd}
use Rattle.cluster_machine.specs.declared.step.Step.TheVariants as step
use Rattle.cluster_machine.specs.declared.step.Refusal.TheVariants.{NotMember, NoSuchBucket}
use Rattle.cluster_machine.specs.Layouts.{layouts}
use Rattle.cluster_machine.specs.Node.{Ended}
use Rattle.cluster_machine.specs.World.{clock, is_member_at, numbered, undelivered}
use Rattle.machine_origins.proofs.Places.{numbered_append, numbered_set, numbered_set_here}
use Rattle.history_model.specs.declared.record.Kind.TheVariants as kind
use Rattle.flow_model.specs.declared.order.Order.{Order}
use Rattle.flow_model.specs.declared.flow.Name.{Name}
use Rattle.flow_model.specs.declared.flow.Stage.{Stage}
use Rattle.flow_model.specs.declared.flow.Flow.{Flow}
use Rattle.flow_model.specs.declared.flow.FlowStep.{FlowStep}
use Rattle.flow_model.specs.declared.flow.FlowStep.TheVariants.{More, Need, Wait, End}
use Rattle.flow_model.specs.declared.flow.FlowEnd.{FlowEnd}
use Rattle.flow_model.specs.Next.{next}
use Rattle.flow_model.specs.Streams as stream
use Rattle.store_model.specs.Orders.{buckets_of}
use Rattle.store_model.specs.Run.{Moving, State, Asked, Draw, Outcome, silent, refusal, plainly, effect, doing, are_buckets, opened, begins, draws_of, takes, follows, follow, goes_on, delivers, then_drains, drains, hears, heard_in, heard, fills_at}
use Rattle.store_model.specs.Acts.{Act, moves, installs, asks, delivery, drain, forgets, takes as takes_end, end_of, without_end, adds, cuts, feeds, keeps, gives_up, acted, after_acts}
use Rattle.store_model.specs.Gets.{object_seen, object_given, stage_of, is_get, is_there, gathered_at, body_of}
use Rattle.serve_model.specs.Stores.{Given, IsFirstOf}
use Rattle.serve_model.specs.Clusters.{given_by}
use Rattle.get_laws.specs.OnTheWay.{LeavesEnd, IsLater}
use Rattle.get_laws.proofs.Firsts.{first_same, first_through}
use Rattle.get_laws.proofs.Getting.{Seen, WaitsWith, IsAt, given_at, Advances, stage_advances, hears_none}

-- what a request waits for
abbrev pub stage_in : Option Flow → Option Stage
stage_in flow = option_and_then (λ (f : Flow). Some f.stage) flow

-- a get, as it is asked for
abbrev getting : ℕ → Name → Option Flow → Asked
getting node name flow = record { node = node; kind = kind.Get; name = name; flow = flow }

-- request q is a get that waits, or whose end waits to be taken, and has given this and more
pub record GivesOn (first : Option Given) (s : State) (q : ℕ) : Type 0 where
  pub node : ℕ
  pub name : Name
  pub flow : Option Flow
  pub end : Option FlowEnd
  pub seen : Seen
  pub asked : numbered s.asked q ≡ Some (getting node name flow)
  pub end_is : end_of s.ends q ≡ end
  pub seen_is : object_seen s.saw q ≡ seen
  pub at : IsAt (stage_in flow) end seen
  pub more : IsFirstOf first (given_at (stage_in flow) end seen)

-- what a request that was asked for so has given, if it is a get
abbrev given_so : Option Asked → Option FlowEnd → Seen → Option Given
given_so asked end seen =
    option_map (λ (found : Version × Meta). record { version = found.0; meta = found.1; bytes = elim (stage_of asked) as (λ o. List ℕ) [ Some stage ↦ gathered_at (Some stage) | None ↦ body_of end ] })
    (if is_get asked then (if is_there (stage_of asked) end then seen else None) else None)

get_so : (node : ℕ) (name : Name) (flow : Option Flow) (end : Option FlowEnd) (seen : Seen) → given_so (Some (getting node name flow)) end seen ≡ given_at (stage_in flow) end seen
get_so node name None end seen = refl
get_so node name (Some f) end seen = refl

module _ {first : Option Given} {q : ℕ} where
  -- what it has given
  pub gives_so : (s : State) (h : GivesOn first s q) → given_by s q ≡ given_at (stage_in h.flow) h.end h.seen
  gives_so s h = (λ i. given_so (h.asked i) (h.end_is i) (h.seen_is i)) ∙ get_so h.node h.name h.flow h.end h.seen

  pub gives_more : (s : State) → GivesOn first s q → IsFirstOf first (given_by s q)
  gives_more s h = subst (IsFirstOf first) (sym (gives_so s h)) h.more

  -- from here on
  pub gives_from : (s : State) → GivesOn first s q → GivesOn (given_by s q) s q
  gives_from s h = record {
    node = h.node;
    name = h.name;
    flow = h.flow;
    end = h.end;
    seen = h.seen;
    asked = h.asked;
    end_is = h.end_is;
    seen_is = h.seen_is;
    at = h.at;
    more = subst (λ (g : Option Given). IsFirstOf g (given_at (stage_in h.flow) h.end h.seen)) (sym (gives_so s h)) (first_same (given_at (stage_in h.flow) h.end h.seen));
  }

  -- nothing of it changes
  still : (s t : State) (h : GivesOn first s q) → numbered t.asked q ≡ Some (getting h.node h.name h.flow) → end_of t.ends q ≡ end_of s.ends q → object_seen t.saw q ≡ object_seen s.saw q → GivesOn first t q
  still s t h asked ends saw = record {
    node = h.node;
    name = h.name;
    flow = h.flow;
    end = h.end;
    seen = h.seen;
    asked = asked;
    end_is = ends ∙ h.end_is;
    seen_is = saw ∙ h.seen_is;
    at = h.at;
    more = h.more;
  }

-- ---- ends and phases of requests

-- a request that ends has its end
end_here : (ends : List (ℕ × FlowEnd)) (q : ℕ) (end : FlowEnd) → end_of ends q ≡ None → end_of (ends ++ (q, end) ∷ []) q ≡ Some end
end_here [] q end none = rw (eq-eqb q q refl) refl
end_here (e ∷ es) q end none =
    elim (e.0 == q) as (λ b. cond b (Some e.1) (end_of es q) ≡ None → cond b (Some e.1) (end_of (es ++ (q, end) ∷ []) q) ≡ Some end) [
      | true ↦ λ none. cc
      | false ↦ λ none. end_here es q end none
    ] none

-- and others have theirs
pub end_there : (ends : List (ℕ × FlowEnd)) (p q : ℕ) (end : FlowEnd) → (p == q) ≡ false → end_of (ends ++ (p, end) ∷ []) q ≡ end_of ends q
end_there [] p q end apart = rw apart refl
end_there (e ∷ es) p q end apart = ap (λ o. cond (e.0 == q) (Some e.1) o) (end_there es p q end apart)

taken_there : (ends : List (ℕ × FlowEnd)) (p q : ℕ) → (p == q) ≡ false → end_of (without_end ends p) q ≡ end_of ends q
taken_there [] p q apart = refl
taken_there (e ∷ es) p q apart =
    elim (e.0 == p) as (λ b. (e.0 == p) ≡ b → end_of (cond b es (e ∷ without_end es p)) q ≡ cond (e.0 == q) (Some e.1) (end_of es q)) [
      | true ↦ λ is. let other : (e.0 == q) ≡ false = rw (eqb-true e.0 p is) apart in rw other refl
      | false ↦ λ is. ap (λ o. cond (e.0 == q) (Some e.1) o) (taken_there es p q apart)
    ] refl

-- the state in which a phase of a request has ended
abbrev sees : State → ℕ → PhaseEnd AnyRow → State
sees s q end = record s { saw = record { request = q; end = end } ∷ s.saw }

-- ---- a phase of another request ended

module _ (s : State) (p q : ℕ) (apart : (p == q) ≡ false) where
  others_asked : (a x : Asked) (flow : Option Flow) → numbered s.asked p ≡ Some a → numbered s.asked q ≡ Some x → numbered (slice_set s.asked (p - 1) (record a { flow = flow })) q ≡ Some x
  others_asked a x flow at is = elim (numbered_set s.asked p q a (record a { flow = flow }) x at is) [ inl same ↦ absurd (eqb-false p q apart (sym same)) | inr other ↦ other ]

  others_take : {first : Option Given} (a : Asked) (draws : List Draw) (st : FlowStep) → numbered s.asked p ≡ Some a → (h : GivesOn first s q) → GivesOn first (takes s p a draws st).state q
  others_take a draws (More flow phase) at h = still s _ h (others_asked a (getting h.node h.name h.flow) (Some flow) at h.asked) refl refl
  others_take a draws (Need flow wanted) at h = still s _ h (others_asked a (getting h.node h.name h.flow) (Some flow) at h.asked) refl refl
  others_take a draws (Wait flow) at h = still s _ h (others_asked a (getting h.node h.name h.flow) (Some flow) at h.asked) refl refl
  others_take a draws (End end) at h = still s _ h (others_asked a (getting h.node h.name h.flow) None at h.asked) (end_there s.ends p q end apart) refl

module _ {first : Option Given} (s : State) (p q : ℕ) (apart : (p == q) ≡ false) (how : PhaseEnd AnyRow) where
  others_see : GivesOn first s q → GivesOn first (sees s p how) q
  others_see h = still s (sees s p how) h h.asked refl (rw apart refl)

  others_follow : (asked : Option Asked) → numbered s.asked p ≡ asked → GivesOn first s q → GivesOn first (follow s p asked how).state q
  others_follow None at h = h
  others_follow (Some a) at h = by_flow a.flow
    where
      by_flow : (flow : Option Flow) → GivesOn first (follows s p a how flow).state q
      by_flow None = h
      by_flow (Some flow) = others_take (sees s p how) p q apart a (draws_of s p flow.block flow.stage how (clock s.world a.node)) (next flow how (clock s.world a.node)) at (others_see h)

-- ---- a phase of its own ended

module _ (s : State) (q node : ℕ) (name : Name) (flow : Flow) (seen : Seen) (asked : numbered s.asked q ≡ Some (getting node name (Some flow))) (none : end_of s.ends q ≡ None)
    (seen_is : object_seen s.saw q ≡ seen) (draws : List Draw) where
  abbrev own_asked : Option Flow → List Asked
  own_asked now = slice_set s.asked (q - 1) (getting node name now)

  own_there : (now : Option Flow) → numbered (own_asked now) q ≡ Some (getting node name now)
  own_there now = numbered_set_here s.asked q (getting node name now) (getting node name (Some flow)) asked

  -- what was given at first was the first of this before
  own_takes : (first before : Option Given) (st : FlowStep) → IsFirstOf first before → Advances before st seen → GivesOn first (takes s q (getting node name (Some flow)) draws st).state q
  own_takes first before (More new phase) more goes = record {
    node = node;
    name = name;
    flow = Some new;
    end = None;
    seen = seen;
    asked = own_there (Some new);
    end_is = none;
    seen_is = seen_is;
    at = goes.0;
    more = first_through first before (given_at (Some new.stage) None seen) more goes.1;
  }
  own_takes first before (Need new wanted) more goes = record {
    node = node;
    name = name;
    flow = Some new;
    end = None;
    seen = seen;
    asked = own_there (Some new);
    end_is = none;
    seen_is = seen_is;
    at = goes.0;
    more = first_through first before (given_at (Some new.stage) None seen) more goes.1;
  }
  own_takes first before (Wait new) more goes = record {
    node = node;
    name = name;
    flow = Some new;
    end = None;
    seen = seen;
    asked = own_there (Some new);
    end_is = none;
    seen_is = seen_is;
    at = goes.0;
    more = first_through first before (given_at (Some new.stage) None seen) more goes.1;
  }
  own_takes first before (End end) more goes = record {
    node = node;
    name = name;
    flow = None;
    end = Some end;
    seen = seen;
    asked = own_there None;
    end_is = end_here s.ends q end none;
    seen_is = seen_is;
    at = goes.0;
    more = first_through first before (given_at None (Some end) seen) more goes.1;
  }

module _ {first : Option Given} (s : State) (q : ℕ) (how : PhaseEnd AnyRow) (h : GivesOn first s q) where
  abbrev own : Option Flow → State
  own flow = (follows s q (getting h.node h.name flow) how flow).state

  own_sees : (seen : Seen) → object_seen s.saw q ≡ seen → object_seen (sees s q how).saw q ≡ option_or seen (object_given how)
  own_sees seen is = rw (eq-eqb q q refl, is) refl

  own_follows : (flow : Option Flow) (end : Option FlowEnd) → h.flow ≡ flow → h.end ≡ end → IsAt (stage_in flow) end h.seen → IsFirstOf first (given_at (stage_in flow) end h.seen) → GivesOn first (own flow) q
  own_follows None end flow_is end_is at more = h
  own_follows (Some f) (Some end) flow_is end_is at more = absurd at
  own_follows (Some f) None flow_is end_is at more =
      let now = clock s.world h.node in
      own_takes (sees s q how) q h.node h.name f (option_or h.seen (object_given how)) (h.asked ∙ ap (λ (o : Option Flow). Some (getting h.node h.name o)) flow_is) (h.end_is ∙ end_is) (own_sees h.seen h.seen_is)
      (draws_of s q f.block f.stage how now) first (given_at (Some f.stage) None h.seen) (next f how now) more (stage_advances f.id f.block f.stage how now h.seen at)

  own_follow : GivesOn first (follow s q (numbered s.asked q) how).state q
  own_follow = subst (λ (o : Option Asked). GivesOn first (follow s q o how).state q) (sym h.asked) (own_follows h.flow h.end refl refl h.at h.more)

-- ---- the client of a streamed upload was heard

-- a get goes on waiting, whatever a client does
abbrev HearsNone : (Flow → stream.Step) → Type 0
HearsNone says = (flow : Flow) (seen : Seen) → WaitsWith flow.stage seen → says flow ≡ None

module _ {first : Option Given} (s : State) (says : Flow → stream.Step) where
  others_heard : (p q : ℕ) → (p == q) ≡ false → (asked : Option Asked) → numbered s.asked p ≡ asked → GivesOn first s q → GivesOn first (heard s p says asked).state q
  others_heard p q apart None at h = h
  others_heard p q apart (Some a) at h = by_flow a.flow
    where
      by_next : (next : stream.Step) → GivesOn first (hears s p a next).state q
      by_next None = h
      by_next (Some next) = others_take s p q apart a [] (More next.0 next.1) at h

      by_flow : (flow : Option Flow) → GivesOn first (heard_in s p says a flow).state q
      by_flow None = h
      by_flow (Some flow) = by_next (says flow)

  own_heard : (q : ℕ) → HearsNone says → (h : GivesOn first s q) → GivesOn first (heard s q says (numbered s.asked q)).state q
  own_heard q none h = subst (λ (o : Option Asked). GivesOn first (heard s q says o).state q) (sym h.asked) (by_flow h.flow h.end h.at)
    where
      by_flow : (flow : Option Flow) (end : Option FlowEnd) → IsAt (stage_in flow) end h.seen → GivesOn first (heard_in s q says (getting h.node h.name h.flow) flow).state q
      by_flow None end at = h
      by_flow (Some f) (Some end) at = absurd at
      by_flow (Some f) None at = subst (λ (next : stream.Step). GivesOn first (hears s q (getting h.node h.name h.flow) next).state q) (sym (none f h.seen at)) h

-- ---- acts

module _ {first : Option Given} {q : ℕ} where
  follow_gives : (s : State) (p : ℕ) (how : PhaseEnd AnyRow) → GivesOn first s q → GivesOn first (follow s p (numbered s.asked p) how).state q
  follow_gives s p how h =
      elim (p == q) as (λ b. (p == q) ≡ b → GivesOn first (follow s p (numbered s.asked p) how).state q) [
        | true ↦ λ same. subst (λ (p : ℕ). GivesOn first (follow s p (numbered s.asked p) how).state q) (sym (eqb-true p q same)) (own_follow s q how h)
        | false ↦ λ apart. others_follow s p q apart how (numbered s.asked p) refl h
      ] refl

  goes_on_gives : (s : State) (ends : List (Ended AnyRow)) → GivesOn first s q → GivesOn first (goes_on s ends).state q
  goes_on_gives s [] h = h
  goes_on_gives s (e ∷ es) h = follow_gives s e.request e.how h

  delivers_gives : (s : State) (m : ℕ) → GivesOn first s q → GivesOn first (delivers s m).state q
  delivers_gives s m h = let d : Moving = plainly (step.Deliver m) in goes_on_gives (doing s d) (effect s d).ends (still s (doing s d) h h.asked refl refl)

  drains_give : (n : ℕ) (s : State) → GivesOn first s q → GivesOn first (drains n s).state q
  drains_give zero s h = h
  drains_give (suc n) s h =
      elim (undelivered s.world) as (λ o. GivesOn first (elim o as (λ o. Outcome) [ None ↦ silent s | Some m ↦ let o = delivers s m in then_drains o (drains n o.state) ]).state q) [
        | None ↦ h
        | Some m ↦ drains_give n (delivers s m).state (delivers_gives s m h)
      ]

  begins_give : (s : State) (n : ℕ) (o : Order) → GivesOn first s q → GivesOn first (begins s n o).state q
  begins_give s n o h =
      elim (is_member_at layouts s.world n) as (λ b. GivesOn first (if b then (if are_buckets s.buckets (buckets_of o) then opened s n o else refusal s NoSuchBucket) else refusal s NotMember).state q) [
        | true ↦ elim (are_buckets s.buckets (buckets_of o)) as (λ b. GivesOn first (if b then opened s n o else refusal s NoSuchBucket).state q) [
          | true ↦ still s (opened s n o).state h (numbered_append s.asked _ q (getting h.node h.name h.flow) h.asked) refl refl
          | false ↦ h
        ]
        | false ↦ h
      ]

  heard_gives : (s : State) (p : ℕ) (says : Flow → stream.Step) → HearsNone says → GivesOn first s q → GivesOn first (heard s p says (numbered s.asked p)).state q
  heard_gives s p says none h =
      elim (p == q) as (λ b. (p == q) ≡ b → GivesOn first (heard s p says (numbered s.asked p)).state q) [
        | true ↦ λ same. subst (λ (p : ℕ). GivesOn first (heard s p says (numbered s.asked p)).state q) (sym (eqb-true p q same)) (own_heard s says q none h)
        | false ↦ λ apart. others_heard s says p q apart (numbered s.asked p) refl h
      ] refl

  act_gives : (s : State) (a : Act) → LeavesEnd q a → GivesOn first s q → GivesOn first (acted s a).state q
  act_gives s (moves m) leaves h = still s (acted s (moves m)).state h h.asked refl refl
  act_gives s (installs l) leaves h = still s (acted s (installs l)).state h h.asked refl refl
  act_gives s (asks n o) leaves h = begins_give s n o h
  act_gives s (delivery m) leaves h = delivers_gives s m h
  act_gives s (drain n) leaves h = drains_give n s h
  act_gives s forgets leaves h = still s (acted s forgets).state h h.asked refl refl
  act_gives s (takes_end p) leaves h = still s (acted s (takes_end p)).state h h.asked (taken_there s.ends p q (ne_eqb p q leaves)) refl
  act_gives s (adds name) leaves h = still s (acted s (adds name)).state h h.asked refl refl
  act_gives s (cuts block) leaves h = still s (acted s (cuts block)).state h h.asked refl refl
  act_gives s (feeds p bytes) leaves h = heard_gives s p (λ flow. stream.fed flow bytes) (λ f seen is. (hears_none f.id f.block bytes f.stage seen is).0) h
  act_gives s (keeps p) leaves h =
      let filled : State = record s { draws = fills_at s p (numbered s.asked p) ++ s.draws } in
      heard_gives filled p stream.finished (λ f seen is. (hears_none f.id f.block [] f.stage seen is).1) (still s filled h h.asked refl refl)
  act_gives s (gives_up p) leaves h = heard_gives s p stream.given_up (λ f seen is. (hears_none f.id f.block [] f.stage seen is).2) h

  acts_give : (s : State) (acts : List Act) → AllByRecursion (LeavesEnd q) acts → GivesOn first s q → GivesOn first (after_acts s acts) q
  acts_give s [] leave h = h
  acts_give s (a ∷ acts) leave h = acts_give (acted s a).state acts leave.1 (act_gives s a leave.0 h)

  pub later_gives : (s t : State) → IsLater q s t → GivesOn first s q → GivesOn first t q
  later_gives s t later h = subst (λ (u : State). GivesOn first u q) (sym later.after) (acts_give s later.acts later.leave h)
