-- What a get has given on its way, act after act.
use Rattle.std.proofs.Common.{◌≡◌, ◌≤◌, ◌<◌, ◌+◌, ◌-◌, ℕ, Bool, true, false, Option, Some, None, List, [], ◌∷◌, ◌++◌, option_map, refl, sym, ap, ◌∙◌, subst, arith}
use Rattle.std.specs.List.{AllByRecursion}
use Rattle.crdt_core.proofs.Each.{all_append}
use Rattle.crdt_rows.specs.declared.version.Version.{Version}
use Rattle.crdt_rows.specs.declared.body.Meta.{Meta}
use Rattle.crdt_rows.specs.AnyRow.{any_join}
use Rattle.object_schema.specs.Schema.{words}
use Rattle.cluster_machine.specs.World.{undelivered}
use Rattle.cluster_machine.specs.Worlds.{FitAll}
use Rattle.history_model.specs.declared.record.Kind.TheVariants as kind
use Rattle.flow_model.specs.declared.order.Order.TheVariants.{Get}
use Rattle.flow_model.specs.declared.flow.Name.{Name}
use Rattle.flow_model.specs.declared.flow.Flow.{Flow}
use Rattle.flow_model.specs.declared.flow.FlowEnd.{FlowEnd}
use Rattle.flow_model.specs.declared.flow.FlowEnd.TheVariants.{Stored, Found, Nothing, Listed, Superseded, Aborted}
use Rattle.store_model.specs.Run.{State, Asked, Outcome, opened, drains, silent}
use Rattle.store_model.specs.Acts.{Act, drain, acted, after_acts, end_of, all_messages}
use Rattle.store_model.specs.Gets.{found_by, gathered, gathered_at, body_of, stage_of, is_get}
use Rattle.store_model.proofs.Acts.{acts_after}
use Rattle.store_model.proofs.Drains.{drains_none}
use Rattle.s3_world.specs.declared.world.S3World.{S3World}
use Rattle.s3_world.specs.Reads.{of, HasAll, with_first}
use Rattle.s3_world.specs.Stands.{IsStore, IsGiving, Overflows}
use Rattle.s3_world.proofs.Storing.{as_store}
use Rattle.serve_model.specs.Stores.{Given, IsFirstOf}
use Rattle.serve_model.specs.Clusters.{delivered, round, acts_to_end, acts_past_end, acts_opened, given_by, ActLacksRoom}
use Rattle.get_laws.specs.OnTheWay.{LeavesEnd, IsLater}
use Rattle.get_laws.proofs.Acting.{GivesOn, stage_in, later_gives}
use Rattle.get_laws.proofs.Getting.{Seen, IsAt}
use Rattle.get_laws.proofs.Ending.{opened_gives, finds_on, acts_leave}
use Rattle.serve_loop.specs.declared.storage.Got.{Got}
use Rattle.serve_loop.specs.declared.storage.Got.TheVariants as got
use Rattle.serve_loop.specs.Gets.{found_now, with_piece, bytes_of, with_given, GaveAll}
use Rattle.serve_cluster.specs.Acting.{LedTo, KeepsActs, LacksRoom, IsDrained, TakesEnd}
use Rattle.serve_cluster.specs.declared.getting.Getting.{Getting}
use Rattle.serve_cluster.specs.Giving.{IsOpened, HasTold, HasGiven, GivesMore, Ended, HandsOut, is_object}
use Rattle.serve_cluster.proofs.Handing.{bytes_left}
use Rattle.serve_cluster.proofs.Acting.{acts_lawful, acts_fit, led_more, led_store, lacks_act, lacks_first, lacks_after}
use Rattle.serve_cluster.proofs.Draining.{drains_parts, fits_parts, fits_among}

-- ---- a get that was opened

module _ (s : State) (q : ℕ) (o : IsOpened s q) where
  gives_first : GivesOn None s q
  gives_first = subst (λ (t : State). GivesOn None t q) (sym o.state) (subst (λ n. GivesOn None (opened o.before o.node (Get o.bucket o.key)).state n) (sym o.number) (opened_gives o.before o.node o.bucket o.key o.knows))

  later_by : (acts : List Act) → AllByRecursion (LeavesEnd q) acts → IsLater q s (after_acts s acts)
  later_by acts leaves = record { acts = acts; leave = leaves; after = refl }

  gives_after : (acts : List Act) → AllByRecursion (LeavesEnd q) acts → GivesOn None (after_acts s acts) q
  gives_after acts leaves = later_gives s (after_acts s acts) (later_by acts leaves) gives_first

  told_after : (acts more : List Act) → AllByRecursion (LeavesEnd q) acts → AllByRecursion (LeavesEnd q) more → (told : Bool) (so_far : Option Given) →
      HasTold told (found_by (after_acts s acts) q) so_far → HasTold told (found_by (after_acts s (acts ++ more)) q) so_far
  told_after acts more leaves then false so_far h = h
  told_after acts more leaves then true so_far h =
      let later : IsLater q (after_acts s acts) (after_acts s (acts ++ more)) = record { acts = more; leave = then; after = acts_after s acts more } in
      (h.0, h.1, finds_on s (after_acts s acts) (after_acts s (acts ++ more)) (h.0.version, h.0.meta) gives_first (later_by acts leaves) later h.2)

-- ---- what was told

-- what was found, with the bytes that came
abbrev given_as : Option (Version × Meta) → List ℕ → Option Given
given_as found bytes = option_map (λ (f : Version × Meta). record { version = f.0; meta = f.1; bytes = bytes }) found

-- what was told and handed out is a first part of what came
told_first : (told : Bool) (f : Option (Version × Meta)) (b : List ℕ) (so_far : Option Given) → HasTold told f so_far → (rest : List ℕ) → bytes_of so_far ++ rest ≡ b → IsFirstOf so_far (given_as f b)
told_first false f b so_far h rest e = subst (λ so. IsFirstOf so (given_as f b)) (sym h) tt
told_first true f b so_far h rest e =
    let g : Given = h.0 in
    let there : IsFirstOf (Some g) (given_as (Some (g.version, g.meta)) b) = (refl, refl, (rest, ap (λ so. bytes_of so ++ rest) (sym h.1) ∙ e)) in
    subst (λ so. IsFirstOf so (given_as f b)) (sym h.1) (subst (λ x. IsFirstOf (Some g) (given_as x b)) (sym h.2) there)

module _ (world : S3World) (q : ℕ) (told : Bool) (acts : List Act) (s : State) (so_far : Option Given) (h : HasGiven world q told acts s so_far) where
  pub given_first : IsFirstOf so_far (given_by (after_acts s acts) q)
  given_first =
      let t : State = after_acts s acts in
      let left = bytes_left world t q (bytes_of so_far) h.led.stands in
      told_first told (found_by t q) (gathered t q) so_far h.told_is left.0 left.1

  pub given_more : (new : S3World) (more : List Act) → AllByRecursion (LeavesEnd q) more → KeepsActs world new more → HasGiven new q told (acts ++ more) s so_far
  given_more new more leaves keeps =
      record {
        opened = h.opened;
        leaves = all_append (LeavesEnd q) acts more h.leaves leaves;
        led = led_more (λ c v. IsGiving c v q (bytes_of so_far)) s acts more world new h.led (keeps (of q (bytes_of so_far)));
        told_is = told_after s q h.opened acts more h.leaves leaves told so_far h.told_is;
      }

  -- other acts that lead to the same state
  pub given_by_others : (others : List Act) → AllByRecursion (LeavesEnd q) others → LedTo (λ t. t ≡ after_acts s acts) s others → HasGiven world q told others s so_far
  given_by_others others leaves led = record {
    opened = h.opened;
    leaves = leaves;
    led = record { lawful = led.lawful; fit = led.fit; stands = subst (λ t. IsGiving world t q (bytes_of so_far)) (sym led.stands) h.led.stands };
    told_is = subst (λ (t : State). HasTold told (found_by t q) so_far) (sym led.stands) h.told_is;
  }

-- ---- messages that are delivered

module _ (world : S3World) (q : ℕ) (told : Bool) (s : State) (so_far : Option Given) where
  -- so much was given after some deliveries
  abbrev After : ℕ → Type 0
  After k = HasGiven world q told (drain k ∷ []) s so_far

  two_drains : (k j n : ℕ) → k + j ≡ n → HasGiven world q told (drain k ∷ drain j ∷ []) s so_far → After n
  two_drains k j n e h =
      let fit = fits_parts k j s h.led.fit.0 h.led.fit.1.0 in
      let state : (drains (k + j) s).state ≡ (drains j (drains k s).state).state = ap (λ (o : Outcome). o.state) (drains_parts k j s) in
      let sum : After (k + j) = given_by_others world q told (drain k ∷ drain j ∷ []) s so_far h (drain (k + j) ∷ []) (tt, tt) (record { lawful = (tt, tt); fit = (fit, tt); stands = state }) in
      subst After e sum

  -- where none is left a drain does no more
  none_more : (k j : ℕ) → undelivered (drains k s).state.world ≡ None → After k → HasGiven world q told (drain k ∷ drain j ∷ []) s so_far
  none_more k j none h =
      let t : State = (drains k s).state in
      let still : drains j t ≡ silent t = drains_none j t none in
      let fit : FitAll any_join words t.world (drains j t).moves = subst (λ (o : Outcome). FitAll any_join words t.world o.moves) (sym still) tt in
      given_by_others world q told (drain k ∷ []) s so_far h (drain k ∷ drain j ∷ []) (tt, (tt, tt)) (record { lawful = (tt, (tt, tt)); fit = (h.led.fit.0, (fit, tt)); stands = ap (λ (o : Outcome). o.state) still })

  pub all_after : (left : ℕ) → left ≤ all_messages → undelivered (drains (all_messages - left) s).state.world ≡ None → After (all_messages - left) → After all_messages
  all_after left few none h = two_drains (all_messages - left) left all_messages (omega arith) (none_more (all_messages - left) left none h)

module _ (old new : S3World) (q : ℕ) (told : Bool) (s : State) (so_far : Option Given) (left : ℕ) (few : left ≤ all_messages) (some : 0 < left) (h : After old q told s so_far (all_messages - left)) where
  pub one_delivered : KeepsActs old new (drain 1 ∷ []) → After new q told s so_far (all_messages - (left - 1))
  one_delivered keeps =
      two_drains new q told s so_far (all_messages - left) 1 (all_messages - (left - 1)) (omega (arith, few, some)) (given_more old q told (drain (all_messages - left) ∷ []) s so_far h new (drain 1 ∷ []) (tt, tt) keeps)

  -- nothing was delivered, as no message was left
  pub none_delivered : KeepsActs old new (drain 1 ∷ []) → IsDrained old → After new q told s so_far all_messages
  none_delivered keeps drained =
      let k : ℕ = all_messages - left in
      let t : State = (drains k s).state in
      let none : undelivered t.world ≡ None = drained t (as_store old t h.led.stands) in
      let still : (drains 1 t).state ≡ t = ap (λ (o : Outcome). o.state) (drains_none 1 t none) in
      let sum : (drains (all_messages - (left - 1)) s).state ≡ t = ap (λ j. (drains j s).state) (omega (arith, few, some)) ∙ (ap (λ (o : Outcome). o.state) (drains_parts k 1 s) ∙ still) in
      all_after new q told s so_far (left - 1) (omega (arith, few)) (ap (λ (u : State). undelivered u.world) sum ∙ none) (one_delivered keeps)

  -- the next delivery has no room, so the drain hasn't
  pub drain_full : Overflows old (λ t. acted t (drain 1)) → ActLacksRoom s delivered
  drain_full full =
      let t : State = (drains (all_messages - left) s).state in
      lacks_act s (drain all_messages) tt (λ fits.
      full t (as_store old t h.led.stands) (fits_among (all_messages - left) 1 (left - 1) s (omega (arith, few, some)) fits))

-- ---- what is handed out

-- a get, as it is asked for
abbrev getting : ℕ → Name → Option Flow → Asked
getting node name flow = record { node = node; kind = kind.Get; name = name; flow = flow }

-- the bytes that came, of a request that was asked for so and ended so
abbrev gathered_so : Option Asked → Option FlowEnd → List ℕ
gathered_so asked end = elim (stage_of asked) as (λ o. List ℕ) [
  | Some stage ↦ gathered_at (Some stage)
  | None ↦ body_of end
]

no_bytes : (bytes rest : List ℕ) → bytes ++ rest ≡ [] → bytes ≡ []
no_bytes [] rest e = refl
no_bytes (b ∷ bytes) rest e = absurd (let no' : b ∷ (bytes ++ rest) ≡ [] = e in cc)

-- a get that waits, or ended without an object, gave all that came
given_whole : (node : ℕ) (name : Name) (flow : Option Flow) (end : Option FlowEnd) (seen : Seen) (g : Given) (rest : List ℕ) → IsAt (stage_in flow) end seen → (end ≡ None → g.bytes ≡ gathered_so (Some (getting node name flow)) end) → g.bytes ++ rest ≡ gathered_so (Some (getting node name flow)) end →
    GaveAll (Some g) (Some (record { version = g.version; meta = g.meta; bytes = gathered_so (Some (getting node name flow)) end })) end
given_whole node name None None seen g rest at all e = absurd at
given_whole node name (Some f) None seen g rest at all e = ap (λ bytes. Some (record g { bytes = bytes })) (all refl)
given_whole node name (Some f) (Some end) seen g rest at all e = absurd at
given_whole node name None (Some (Found version meta body)) seen g rest at all e = tt
given_whole node name None (Some Nothing) seen g rest at all e = ap (λ bytes. Some (record g { bytes = bytes })) (no_bytes g.bytes rest e)
given_whole node name None (Some (Superseded id)) seen g rest at all e = ap (λ bytes. Some (record g { bytes = bytes })) (no_bytes g.bytes rest e)
given_whole node name None (Some (Stored version meta)) seen g rest at all e = absurd at
given_whole node name None (Some (Listed rows)) seen g rest at all e = absurd at
given_whole node name None (Some Aborted) seen g rest at all e = absurd at

module _ (old : S3World) (q : ℕ) (acts : List Act) (s : State) (so_far : Option Given) where
  pub hands_none : ((t : State) (bytes : List ℕ) → IsGiving old t q bytes → HasAll t q bytes) → HasGiven old q true acts s so_far → GaveAll so_far (given_by (after_acts s acts) q) (end_of (after_acts s acts).ends q)
  hands_none f h =
      let t : State = after_acts s acts in
      let g : Given = h.told_is.0 in
      let k = gives_after s q h.opened acts h.leaves in
      let asked : Option Asked = Some (getting k.node k.name k.flow) in
      let stands : IsGiving old t q g.bytes = subst (λ so. IsGiving old t q (bytes_of so)) h.told_is.1 h.led.stands in
      let came : gathered t q ≡ gathered_so asked k.end = λ i. gathered_so (k.asked i) (k.end_is i) in
      let left = bytes_left old t q g.bytes stands in
      let all : k.end ≡ None → g.bytes ≡ gathered_so asked k.end = λ none. f t g.bytes stands (ap is_get k.asked) (k.end_is ∙ none) ∙ came in
      let whole = given_whole k.node k.name k.flow k.end k.seen g left.0 k.at all (left.1 ∙ came) in
      let found : given_by t q ≡ Some (record { version = g.version; meta = g.meta; bytes = gathered_so asked k.end }) = ap (λ x. given_as x (gathered t q)) h.told_is.2 ∙ ap (λ bytes. Some (record { version = g.version; meta = g.meta; bytes = bytes })) came in
      subst (λ so. GaveAll so (given_by t q) (end_of t.ends q)) (sym h.told_is.1) (subst (λ x. GaveAll (Some g) x (end_of t.ends q)) (sym found) (subst (GaveAll (Some g) (Some (record { version = g.version; meta = g.meta; bytes = gathered_so asked k.end }))) (sym k.end_is) whole))

-- ---- what is told of a get

-- what was found, however the code has it
pub found_as : {A B : Type 0} (f : A → B) (result x : Option A) (found : Option B) → option_map f result ≡ found → result ≡ x → found ≡ option_map f x
found_as f result x found e is = sym e ∙ ap (λ r. option_map f r) is

-- one that ended with an object gives it with its end
gave_object : (end : Option FlowEnd) (so_far all : Option Given) → is_object end ≡ true → GaveAll so_far all end
gave_object None so_far all e = cc
gave_object (Some (Found version meta body)) so_far all e = tt
gave_object (Some (Stored version meta)) so_far all e = cc
gave_object (Some Nothing) so_far all e = cc
gave_object (Some (Listed rows)) so_far all e = cc
gave_object (Some (Superseded id)) so_far all e = cc
gave_object (Some Aborted) so_far all e = cc

-- one that found nothing gave all by giving nothing
gave_nothing : (end : Option FlowEnd) → GaveAll None None end
gave_nothing None = refl
gave_nothing (Some (Found version meta body)) = tt
gave_nothing (Some (Stored version meta)) = refl
gave_nothing (Some Nothing) = refl
gave_nothing (Some (Listed rows)) = refl
gave_nothing (Some (Superseded id)) = refl
gave_nothing (Some Aborted) = refl

module _ (world : S3World) (g : Getting) (untold : g.told ≡ false) where
  module _ (acts : List Act) (s : State) (so_far : Option Given) (h : HasGiven world g.request g.told acts s so_far) where
    abbrev now : State
    now = after_acts s acts

    stands_now : IsStore world now
    stands_now = as_store world now h.led.stands

    gave_none : so_far ≡ None
    gave_none = subst (λ told. HasTold told (found_by now g.request) so_far) untold h.told_is

    told_now : (version : Version) (meta : Meta) → found_by now g.request ≡ Some (version, meta) → HasGiven world g.request true acts s (Some (found_now version meta))
    told_now version meta found = record {
      opened = h.opened;
      leaves = h.leaves;
      led = subst (λ so. LedTo (λ t. IsGiving world t g.request (bytes_of so)) s acts) gave_none h.led;
      told_is = (found_now version meta, refl, found);
    }

    all_of_none : found_by now g.request ≡ None → GaveAll so_far (given_by now g.request) (end_of now.ends g.request)
    all_of_none found =
        let end : Option FlowEnd = end_of now.ends g.request in
        subst (λ so. GaveAll so (given_by now g.request) end) (sym gave_none) (subst (λ x. GaveAll None (given_as x (gathered now g.request)) end) (sym found) (gave_nothing end))

  pub tells_end : (is : Bool) → ((t : State) → IsStore world t → is ≡ is_object (end_of t.ends g.request)) → is ≡ true → HandsOut world world g g None
  tells_end is ends ended_so = λ acts s so_far h.
      let t = now acts s so_far h in
      (h, gave_object (end_of t.ends g.request) so_far (given_by t g.request) (sym (ends t (stands_now acts s so_far h)) ∙ ended_so))

  pub tells_found : (version : Version) (meta : Meta) → ((t : State) → IsStore world t → found_by t g.request ≡ Some (version, meta)) → HandsOut world world g (record g { told = true }) (Some (got.Found version meta))
  tells_found version meta found = λ acts s so_far h.
      (gave_none acts s so_far h, told_now acts s so_far h version meta (found (now acts s so_far h) (stands_now acts s so_far h)))

  pub tells_nothing : ((t : State) → IsStore world t → found_by t g.request ≡ None) → HandsOut world world g g None
  tells_nothing found = λ acts s so_far h. (h, all_of_none acts s so_far h (found (now acts s so_far h) (stands_now acts s so_far h)))

-- ---- its end

first_is : (so_far : Option Given) (end : Option FlowEnd) → with_given so_far end ≡ with_first (bytes_of so_far) end
first_is so_far None = refl
first_is so_far (Some (Found version meta rest)) = refl
first_is so_far (Some (Stored version meta)) = refl
first_is so_far (Some Nothing) = refl
first_is so_far (Some (Listed rows)) = refl
first_is so_far (Some (Superseded id)) = refl
first_is so_far (Some Aborted) = refl

gave_before : (so_far all : Option Given) (end e : Option FlowEnd) → with_first (bytes_of so_far) end ≡ e → GaveAll so_far all e → GaveAll so_far all end
gave_before so_far all None e is h = subst (GaveAll so_far all) (sym is) h
gave_before so_far all (Some (Found version meta rest)) e is h = tt
gave_before so_far all (Some (Stored version meta)) e is h = subst (GaveAll so_far all) (sym is) h
gave_before so_far all (Some Nothing) e is h = subst (GaveAll so_far all) (sym is) h
gave_before so_far all (Some (Listed rows)) e is h = subst (GaveAll so_far all) (sym is) h
gave_before so_far all (Some (Superseded id)) e is h = subst (GaveAll so_far all) (sym is) h
gave_before so_far all (Some Aborted) e is h = subst (GaveAll so_far all) (sym is) h

module _ (old : S3World) (members : List ℕ) (q : ℕ) (told : Bool) (s : State) (so_far : Option Given) where
  -- all messages were delivered: the rounds of work follow
  pub works_on : (new : S3World) → KeepsActs old new (round members ++ round members) → HasGiven old q told delivered s so_far → HasGiven new q told (acts_to_end members delivered) s so_far
  works_on new keeps h = given_more old q told delivered s so_far h new (round members ++ round members) (acts_leave q members).1 keeps

  pub works_full : LacksRoom old (λ _. round members ++ round members) → HasGiven old q told delivered s so_far → ActLacksRoom s (acts_opened members s q delivered)
  works_full full h =
      let t : State = after_acts s delivered in
      let given = of q (bytes_of so_far) in
      let past : List Act = acts_past_end q (end_of (after_acts s (acts_to_end members delivered)).ends q) in
      lacks_first s (acts_to_end members delivered) past (lacks_after s delivered (round members ++ round members) old (led_store given old s delivered h.led) (full t (as_store old t h.led.stands)))

  pub drains_full : ActLacksRoom s delivered → ActLacksRoom s (acts_opened members s q delivered)
  drains_full full = lacks_first s delivered ((round members ++ round members) ++ acts_past_end q (end_of (after_acts s (acts_to_end members delivered)).ends q)) full

  module _ (h : HasGiven old q told (acts_to_end members delivered) s so_far) where
    abbrev at_end : State
    at_end = after_acts s (acts_to_end members delivered)

    pub ended : (new : S3World) (end : Option FlowEnd) → GaveAll so_far (given_by at_end q) (end_of at_end.ends q) → TakesEnd old new q end → Ended new members q s so_far end
    ended new end all takes =
        let x = takes (bytes_of so_far) at_end h.led.stands in
        let past : List Act = acts_past_end q (end_of at_end.ends q) in
        record {
          end_is = first_is so_far end ∙ x.end_is;
          all = gave_before so_far (given_by at_end q) end (end_of at_end.ends q) x.end_is all;
          does = record {
            lawful = acts_lawful s (acts_to_end members delivered) past h.led.lawful x.does.lawful;
            fit = acts_fit s (acts_to_end members delivered) past h.led.fit x.does.fit;
            stands = subst (λ t. IsStore new t) (sym (acts_after s (acts_to_end members delivered) past)) x.does.stands;
          };
        }

    pub end_full : LacksRoom old (λ t. acts_past_end q (end_of t.ends q)) → ActLacksRoom s (acts_opened members s q delivered)
    end_full full =
        let given = of q (bytes_of so_far) in
        lacks_after s (acts_to_end members delivered) (acts_past_end q (end_of at_end.ends q)) old (led_store given old s (acts_to_end members delivered) h.led) (full at_end (as_store old at_end h.led.stands))

-- ---- what is given, however it is said

pub gives_as : (P Q : Option Given → Type 0) → ((so : Option Given) → P so → Q so) → (so_far : Option Given) (g : Got) → GivesMore P so_far g → GivesMore Q so_far g
gives_as P Q f so_far (got.Found version meta) h = (h.0, f (Some (found_now version meta)) h.1)
gives_as P Q f so_far (got.Piece bytes) h = (h.0, h.1, f (Some (with_piece h.0 bytes)) h.2)
gives_as P Q f so_far (got.End end) h = absurd h
