-- A server's connections are served as by a server that is one map.
use Rattle.std.proofs.Common.{◌≡◌, ◌≤◌, ◌+◌, ℕ, suc, inl, inr, Option, List, [], ◌∷◌, ◌++◌, length, length-append, map, refl, sym, ◌∙◌, ap, subst, arith, append_assoc, append-nil}
use Rattle.std.specs.Prelude.{⊤}
use Rattle.std.proofs.lemmas.List.{append_cancel_left}
use Rattle.lab_outside.specs.Connection.{Connection}
use Rattle.layout_roles.specs.declared.layout.Layout.{Layout}
use Rattle.layout_roles.specs.declared.role.Role.{Role}
use Rattle.cluster_machine.specs.Choices.{IsFirst}
use Rattle.cluster_machine.specs.Hashes.{NoClash as NoWalkClash}
use Rattle.cluster_machine.specs.Layouts.{layouts}
use Rattle.store_model.specs.Run.{State, start}
use Rattle.store_model.specs.Acts.{Act, adds, cuts, installs, acted, after_acts, AreLawfulActs}
use Rattle.store_model.specs.Fresh.{NoClash}
use Rattle.serve_model.specs.declared.buckets.Buckets.{Buckets}
use Rattle.serve_model.specs.declared.served.ServeFault.{ServeFault}
use Rattle.serve_model.specs.declared.served.ServeFault.TheVariants as cause
use Rattle.serve_model.specs.Stores.{Store, Asking, fits_asking}
use Rattle.serve_changes.specs.Changing.{Change, Changing, changing, changing_fits}
use Rattle.serve_model.specs.Talk.{Grammar, Serving, Stop, Talk, talk, request_limit}
use Rattle.serve_model.specs.Serving.{GivesUp}
use Rattle.serve_model.specs.Connections.{stated, IsServed, AreServed, SomeAsked, EndsSo, too_many, begun as has_begun, halted, ServesAllButLast}
use Rattle.serve_model.proofs.Ones.{one_weaker}
use Rattle.serve_model.specs.Plain.{Plain as Map, plain, PutsBlock, AreApart}
use Rattle.plain_laws.specs.Blocks.{IsKept, IsOfMap}
use Rattle.plain_changes.specs.Changing.{MayCome, StandsWith, IsServedBlock, IsServedHash, AreServedFrom, EndsFrom}
use Rattle.plain_laws.proofs.Stores.{all_put}
use Rattle.serve_run.specs.declared.plan.Plan.{Plan}
use Rattle.serve_run.specs.Start.{preparing, opening, opened, IsOf}
use Rattle.serve_run.specs.Begun.{nodes_of, to_come_from, begun, serving}
use Rattle.serve_run.specs.FromMap.{empty_map, map_serving, AreServedFromMap, PutsApart, WalksApart, AreFromMap, AreFromMapButLast}

-- ---- the first state

added : (s : State) (names : List (List ℕ)) (rest : List Act) → after_acts s (map adds names ++ rest) ≡ after_acts (record s { buckets = s.buckets ++ names }) rest
added s [] rest = ap (λ b. after_acts (record s { buckets = b }) rest) (sym (append-nil s.buckets))
added s (name ∷ names) rest =
    added (record s { buckets = s.buckets ++ name ∷ [] }) names rest ∙ ap (λ b. after_acts (record s { buckets = b }) rest) (append_assoc s.buckets (name ∷ []) names)

opened_is : (p : Plan) (first : Layout) → opened p first ≡ (acted (record start { buckets = p.config.buckets; block = p.config.block_size }) (installs first)).state
opened_is p first =
    ap (after_acts start) (append_assoc (map adds p.config.buckets) (cuts p.config.block_size ∷ []) (installs first ∷ [])) ∙ added start p.config.buckets (cuts p.config.block_size ∷ installs first ∷ [])

-- a first layout that is installed lawfully is one
last_is_first : (s : State) (acts : List Act) (first : Layout) (later : List Act) → AreLawfulActs s (acts ++ installs first ∷ later) → IsFirst first
last_is_first s [] first later h = h.0.0
last_is_first s (a ∷ acts) first later h = last_is_first (acted s a).state acts first later h.1

pub installs_first : (p : Plan) (first : Layout) → AreLawfulActs start (opening p.config.buckets p.config.block_size first) → IsFirst first
installs_first p first h = last_is_first start (preparing p.config.buckets p.config.block_size) first [] h

-- what the law on first layouts says
abbrev pub FirstStands : Type 0
FirstStands = (first : Layout) (buckets : List (List ℕ)) (block : ℕ) (to_come : List (ℕ × Change)) → IsFirst first → NoClash buckets → 1 ≤ block → MayCome first to_come →
    StandsWith (record { cluster = record { run = (acted (record start { buckets = buckets; block = block }) (installs first)).state; ticked = 0; members = layouts.reading.members first }; to_come = to_come })
    (record { buckets = buckets; block = block; clock = 0; ticked = 0; asked = 0; entries = [] })

-- what the laws on connections say
abbrev pub ServedFrom : Type 0
ServedFrom = (buckets : Buckets) (g : Grammar) (p s : Serving Changing) (P : Map) (came : List (List ℕ)) (gone : List Connection) → StandsWith p.store P → AreApart (IsServedBlock buckets g p P came gone) → NoWalkClash (IsServedHash buckets g p came gone) →
    AreServed changing buckets g (fits_asking changing_fits) p came gone s → AreServedFrom P buckets g p came gone s

abbrev pub EndedFrom : Type 0
EndedFrom = (buckets : Buckets) (g : Grammar) (p s : Serving Changing) (P : Map) (came : List (List ℕ)) (gone : List Connection) (bytes : List ℕ) (last : Connection) (fault : ServeFault) →
    StandsWith p.store P → AreApart (IsServedBlock buckets g p P (came ++ bytes ∷ []) (gone ++ last ∷ [])) → NoWalkClash (IsServedHash buckets g p (came ++ bytes ∷ []) (gone ++ last ∷ [])) → AreServed changing buckets g (fits_asking changing_fits) p came gone s →
    EndsSo changing buckets g (fits_asking changing_fits) (λ asks. ⊤) (stated changing buckets g s bytes) last fault → EndsFrom P buckets g p came gone bytes last fault

-- whatever job had no room
module _ {S : Type 0} (store : Store S) (buckets : Buckets) (g : Grammar) (FitsIt : Asking S → Type 0) (t : Talk S) (d : Connection) (overflows : List (Asking S) → Type 0) where
  any_job : (fault : ServeFault) → GivesUp overflows t.asks fault → GivesUp (λ (asks : List (Asking S)). ⊤) t.asks fault
  any_job cause.Kept why = why
  any_job cause.Number why = tt
  any_job cause.Memory why = tt

  ends_anyhow : (fault : ServeFault) → EndsSo store buckets g FitsIt overflows t d fault → EndsSo store buckets g FitsIt (λ asks. ⊤) t d fault
  ends_anyhow fault (too_many over wrote fit none) = too_many over wrote fit none
  ends_anyhow fault (has_begun e why stops steady) = has_begun e (any_job e why) stops steady
  ends_anyhow fault (halted e why halts) = halted e (any_job e why) halts

begun_stands : FirstStands → (p : Plan) (first : Layout) → IsOf p first → IsFirst first → NoClash p.config.buckets → 1 ≤ p.config.block_size → MayCome first (to_come_from first p.changes) → StandsWith (begun p first) (empty_map p)
begun_stands law p first of is clash sized may =
    let members : layouts.reading.members first ≡ nodes_of p = ap (map (λ (role : Role). role.node)) of.roles in
    let K : State → List ℕ → Type 0 = λ s ms. StandsWith (record { cluster = record { run = s; ticked = 0; members = ms }; to_come = to_come_from first p.changes }) (empty_map p) in
    subst (λ ms. K (opened p first) ms) members
    (subst (λ s. K s (layouts.reading.members first)) (sym (opened_is p first)) (law first p.config.buckets p.config.block_size (to_come_from first p.changes) is clash sized may))

-- ---- no blocks yet

-- nothing is in the empty map, and no node keeps a block
none_there : (p : Plan) (first : Layout) (bytes : List ℕ) → IsOfMap (empty_map p) bytes → ⊥
none_there p first bytes m = all_put first p.config.buckets p.config.block_size [] bytes (inr (inl m))

none_kept : (p : Plan) (first : Layout) (bytes : List ℕ) → IsKept (opened p first).world bytes → ⊥
none_kept p first bytes k = all_put first p.config.buckets p.config.block_size [] bytes (inl (subst (λ (s : State). IsKept s.world bytes) (opened_is p first) k))

-- ---- the first connections

-- the first of the connections that were served one after the other, with these texts
record Front (buckets : Buckets) (g : Grammar) (q : Serving Changing) (came : List (List ℕ)) (gone : List Connection) : Type 0 where
  pub front : List (List ℕ)
  pub back : List (List ℕ)
  pub comes : came ≡ front ++ back
  pub long : length front ≡ length gone
  pub at : Serving Changing
  pub served : AreServed changing buckets g (fits_asking changing_fits) q front gone at

head_is : {A : Type 0} (x y : A) (xs ys : List A) → x ∷ xs ≡ y ∷ ys → x ≡ y
head_is x y xs ys e = cc

tail_is : {A : Type 0} (x y : A) (xs ys : List A) → x ∷ xs ≡ y ∷ ys → xs ≡ ys
tail_is x y xs ys e = cc

lengths : {A : Type 0} (xs ys : List A) → xs ≡ ys → length xs ≡ length ys
lengths xs ys e = ap length e

front_of : (buckets : Buckets) (g : Grammar) (came : List (List ℕ)) (all gone later more : List Connection) (q s : Serving Changing) → AreServed changing buckets g (fits_asking changing_fits) q came all s → all ++ more ≡ gone ++ later → length more ≤ length later → Front buckets g q came gone
front_of buckets g came all [] later more q s h e le = record { front = []; back = came; comes = refl; long = refl; at = q; served = refl }
front_of buckets g came [] (d ∷ gone) later more q s h e le =
    let long : length more ≡ suc (length gone + length later) = lengths more (d ∷ gone ++ later) e ∙ ap suc (length-append gone later) in
    absurd (omega (arith, long, le))
front_of buckets g [] (x ∷ all) (d ∷ gone) later more q s h e le = absurd h
front_of buckets g (bytes ∷ came) (x ∷ all) (d ∷ gone) later more q s h e le =
    let rest = front_of buckets g came all gone later more h.0 s h.2 (tail_is x d (all ++ more) (gone ++ later) e) le in
    let first = subst (λ y. IsServed changing buckets g (fits_asking changing_fits) q bytes y h.0) (head_is x d (all ++ more) (gone ++ later) e) h.1 in
    record { front = bytes ∷ rest.front; back = rest.back; comes = ap (λ x. bytes ∷ x) rest.comes; long = ap suc rest.long; at = rest.at; served = (h.0, first, rest.served) }

-- lists of one length with which one list begins are the same
same_front : {A : Type 0} (front came back later : List A) → front ++ back ≡ came ++ later → length front ≡ length came → front ≡ came
same_front [] [] back later e l = refl
same_front [] (y ∷ came) back later e l = absurd (omega (arith, l))
same_front (x ∷ front) [] back later e l = absurd (omega (arith, l))
same_front (x ∷ front) (y ∷ came) back later e l =
    let heads = head_is x y (front ++ back) (came ++ later) e in
    let rest = same_front front came back later (tail_is x y (front ++ back) (came ++ later) e) (omega (arith, l)) in
    λ i. heads i ∷ rest i

-- what the first connections ask of those to come
module _ (buckets : Buckets) (g : Grammar) (IsSo : Asking Map → Type 0) where
  asked_before : (came more : List (List ℕ)) (gone : List Connection) (q : Serving Map) → SomeAsked plain buckets g IsSo q came gone → SomeAsked plain buckets g IsSo q (came ++ more) gone
  asked_before [] more gone q h = absurd h
  asked_before (bytes ∷ came) more [] q h = absurd h
  asked_before (bytes ∷ came) more (d ∷ gone) q (inl one) = inl one
  asked_before (bytes ∷ came) more (d ∷ gone) q (inr (inl later)) = inr (inl (asked_before came more gone (talk plain buckets g request_limit q bytes).serving later))
  asked_before (bytes ∷ came) more (d ∷ gone) q (inr (inr (rose, at))) =
      inr
      (inr (
        rose,
        one_weaker (λ (s : Stop Map). SomeAsked plain buckets g IsSo s.serving came gone) (λ (s : Stop Map). SomeAsked plain buckets g IsSo s.serving (came ++ more) gone) (λ s h. asked_before came more gone s.serving h) (talk plain buckets g request_limit q bytes).stops at,
      ))

-- what the changes hash among the first connections they hash among all
module _ (buckets : Buckets) (g : Grammar) (x : List ℕ) where
  hashed_before : (came more : List (List ℕ)) (gone : List Connection) (q : Serving Changing) → IsServedHash buckets g q came gone x → IsServedHash buckets g q (came ++ more) gone x
  hashed_before [] more gone q h = absurd h
  hashed_before (bytes ∷ came) more [] q h = absurd h
  hashed_before (bytes ∷ came) more (d ∷ gone) q (inl one) = inl one
  hashed_before (bytes ∷ came) more (d ∷ gone) q (inr (inl later)) = inr (inl (hashed_before came more gone (stated changing buckets g q bytes).serving later))
  hashed_before (bytes ∷ came) more (d ∷ gone) q (inr (inr at)) =
      inr (inr (one_weaker (λ (s : Stop Changing). IsServedHash buckets g s.serving came gone x) (λ (s : Stop Changing). IsServedHash buckets g s.serving (came ++ more) gone x) (λ s h. hashed_before came more gone s.serving h) (stated changing buckets g q bytes).stops at))

walks_before : (buckets : Buckets) (g : Grammar) (q : Serving Changing) (came more : List (List ℕ)) (gone : List Connection) → NoWalkClash (IsServedHash buckets g q (came ++ more) gone) → NoWalkClash (IsServedHash buckets g q came gone)
walks_before buckets g q came more gone h = record {
  apart = λ x y hx hy e. h.apart x y (hashed_before buckets g x came more gone q hx) (hashed_before buckets g y came more gone q hy) e;
  some = λ x hx. h.some x (hashed_before buckets g x came more gone q hx);
}

-- ---- the connections that came

module _ (first_stands : FirstStands) (served_from : ServedFrom) (g : Grammar) (p : Plan) (sized : 1 ≤ p.config.block_size) (first : Layout) (is_of : IsOf p first) (is_first : IsFirst first) (may : MayCome first (to_come_from first p.changes)) (buckets : Buckets) (times : List ℕ) where
  -- at first no block is kept, and nothing is in the map
  abbrev Puts : List (List ℕ) → List Connection → List ℕ → Type 0
  Puts came gone bytes = SomeAsked plain buckets g (PutsBlock bytes) (map_serving p times) came gone

  is_put : (came : List (List ℕ)) (gone : List Connection) (bytes : List ℕ) → IsServedBlock buckets g (serving p first times) (empty_map p) came gone bytes → Puts came gone bytes
  is_put came gone bytes (inl kept) = absurd (none_kept p first bytes kept)
  is_put came gone bytes (inr (inl m)) = absurd (none_there p first bytes m)
  is_put came gone bytes (inr (inr put)) = put

  at_first : NoClash p.config.buckets → StandsWith (begun p first) (empty_map p)
  at_first clash = begun_stands first_stands p first is_of is_first clash sized may

  from_map_here : NoClash p.config.buckets → (came : List (List ℕ)) (gone : List Connection) (s : Serving Changing) → AreServed changing buckets g (fits_asking changing_fits) (serving p first times) came gone s → PutsApart g p buckets times came gone → WalksApart g p first buckets times came gone → AreServedFromMap g p buckets times came gone
  from_map_here clash came gone s served apart clear =
      let k = served_from buckets g (serving p first times) s (empty_map p) came gone (at_first clash) (λ x y h l e. apart x y (is_put came gone x h) (is_put came gone y l) e) clear served in
      (k.serving, k.are_served)

  pub are_from_map : NoClash p.config.buckets → (left_out : ℕ) (past past_after : List Connection) (coming came to_come : List (List ℕ)) (all more : List Connection) (s : Serving Changing) → AreServed changing buckets g (fits_asking changing_fits) (serving p first times) came all s →
      coming ≡ came ++ to_come → past_after ≡ past ++ (all ++ more) → length more ≤ left_out → AreFromMap g p first buckets left_out past past_after times coming
  are_from_map clash left_out past past_after coming came to_come all more s served comes goes few = λ front back gone later comes_so goes_so long out apart clear.
      let same : all ++ more ≡ gone ++ later = append_cancel_left past (all ++ more) (gone ++ later) (sym goes ∙ goes_so ∙ append_assoc past gone later) in
      let f = front_of buckets g came all gone later more (serving p first times) s served same (omega (arith, few, out)) in
      let joined : f.front ++ (f.back ++ to_come) ≡ front ++ back = sym (append_assoc f.front f.back to_come) ∙ ap (λ x. x ++ to_come) (sym f.comes) ∙ sym comes ∙ comes_so in
      let is : f.front ≡ front = same_front f.front front (f.back ++ to_come) back joined (f.long ∙ sym long) in
      let served_here = subst (λ x. AreServed changing buckets g (fits_asking changing_fits) (serving p first times) x gone f.at) is f.served in
      from_map_here clash front gone f.at served_here apart clear

  -- serving ended with the last of them
  pub end_from_map : EndedFrom → NoClash p.config.buckets → (overflows : List (Asking Changing) → Type 0) (fault : ServeFault) (coming_after : Option (List (List ℕ))) (past past_after : List Connection) (coming : List (List ℕ)) →
      ServesAllButLast changing buckets g (fits_asking changing_fits) overflows (serving p first times) fault coming coming_after past past_after → AreFromMapButLast g p first buckets fault coming_after past past_after times coming
  end_from_map ended_from clash overflows fault coming_after past past_after coming a = λ gone goes_so apart clear.
      let front = a.came ++ a.bytes ∷ [] in
      let back = a.gone ++ a.last ∷ [] in
      let same : gone ≡ back = append_cancel_left past gone back (sym goes_so ∙ a.goes ∙ append_assoc past a.gone (a.last ∷ [])) in
      let all : coming ≡ front ++ a.to_come = a.comes ∙ sym (append_assoc a.came (a.bytes ∷ []) a.to_come) in
      let there : PutsApart g p buckets times (front ++ a.to_come) back = subst (λ x. PutsApart g p buckets times x back) all (subst (λ x. PutsApart g p buckets times coming x) same apart) in
      let walks : WalksApart g p first buckets times front back = walks_before buckets g (serving p first times) front a.to_come back (subst (λ x. WalksApart g p first buckets times x back) all (subst (λ x. WalksApart g p first buckets times coming x) same clear)) in
      let put : (bytes : List ℕ) → IsServedBlock buckets g (serving p first times) (empty_map p) front back bytes → Puts (front ++ a.to_come) back bytes = λ bytes h. asked_before buckets g (PutsBlock bytes) front a.to_come back (map_serving p times) (is_put front back bytes h) in
      let k = ended_from buckets g (serving p first times) a.serving (empty_map p) a.came a.gone a.bytes a.last fault (at_first clash) (λ x y h l e. there x y (put x h) (put y l) e) walks a.are_served (ends_anyhow changing buckets g (fits_asking changing_fits) (stated changing buckets g a.serving a.bytes) a.last overflows fault a.ends) in
      record {
        came = a.came;
        bytes = a.bytes;
        to_come = a.to_come;
        comes = a.comes;
        comes_new = a.comes_new;
        gone = a.gone;
        last = a.last;
        goes = a.goes;
        serving = k.serving;
        are_served = k.are_served;
        ends = k.ends;
      }
