-- Connections are served as from the map, through layout changes.
use Rattle.std.proofs.Common.{◌≡◌, ◌≤◌, ℕ, Bool, List, [], ◌∷◌, ◌++◌, append-nil, refl, sym, subst, inl, inr}
use Rattle.std.specs.Prelude.{⊤}
use Rattle.std.specs.List.{AllByRecursion}
use Rattle.crdt_core.specs.Members.{OneOf}
use Rattle.lab_outside.specs.Connection.{Connection}
use Rattle.cluster_machine.specs.Hashes.{NoClash as NoWalkClash}
use Rattle.store_model.specs.Fresh.{NoClash}
use Rattle.serve_model.specs.declared.buckets.Buckets.{Buckets}
use Rattle.serve_model.specs.Stores.{Job, Asking, IsLeftFor, fits_asking}
use Rattle.serve_model.specs.Told.{TellSame}
use Rattle.serve_model.specs.declared.served.ServeFault.{ServeFault}
use Rattle.serve_model.specs.Talk.{Grammar, Serving, Stop, turn, talk, request_limit}
use Rattle.serve_model.specs.Connections.{stated, AreServed, SomeAsked, EndsSo}
use Rattle.serve_model.specs.Plain.{Plain, plain, PutsBlock, AreApart}
use Rattle.serve_model.proofs.Alike.{AnswerAlike, Serves, Stops, TurnsSo, turn_alike, AllMeant, ServedAlike, served_alike, ended_alike}
use Rattle.serve_model.proofs.Blocks.{left_puts}
use Rattle.serve_model.proofs.Ones.{one_weaker}
use Rattle.plain_laws.specs.Blocks.{IsKept, WritesPiece, IsBlockAt, IsOfMap}
use Rattle.plain_laws.proofs.Giving.{gives_as_the_map}
use Rattle.plain_laws.proofs.Stores.{written_or_put, map_or_written, carries_grow, job_follows}
use Rattle.serve_model.specs.Clusters.{cluster}
use Rattle.serve_changes.specs.Changing.{Changing, changing, changing_fits}
use Rattle.plain_changes.specs.Changing.{HashesAfter, StandsWith, over_map, IsServedBlock, IsServedHash, AreServedFrom, EndsFrom, IsTurnBlock, IsTurnHash, IsTurnFrom, IsAtMapStop, AreStopsFrom}
use Rattle.plain_changes.proofs.Asked.{MaySuch, all_may, AreSuch, served_such, ends_such}
use Rattle.plain_changes.proofs.Events.{stands_then}
use Rattle.plain_changes.proofs.Due.{due_so}

module _ (IsSuch IsHash : List ℕ → Type 0) (apart : AreApart IsSuch) (clear : NoWalkClash IsHash) where
  -- each block into which what is asked puts bytes is such a string
  abbrev PutsSuch : Asking Plain → Type 0
  PutsSuch a = (bytes : List ℕ) → PutsBlock bytes a → IsSuch bytes

  -- and so is each that a node keeps, or into which an object of the map is cut
  record HoldsSuch (c : Changing) (P : Plain) : Type 0 where
    map : StandsWith c P
    kept : (bytes : List ℕ) → IsKept c.cluster.run.world bytes → IsSuch bytes
    of_map : (bytes : List ℕ) → IsOfMap P bytes → IsSuch bytes

  module _ (c : Changing) (P : Plain) (time : ℕ) (job : Job) (h : HoldsSuch c P) (fit : MaySuch IsHash (record { state = c; time = time; job = job })) (ask : PutsSuch (record { state = P; time = time; job = job })) where
    written_is_such : (bytes : List ℕ) → WritesPiece P job bytes → IsSuch bytes
    written_is_such bytes p = elim (written_or_put P job bytes p) [
      | inl was ↦ h.of_map bytes was
      | inr put ↦ ask bytes put
    ]

    here_is_such : (bytes : List ℕ) → IsBlockAt c.cluster P job bytes → IsSuch bytes
    here_is_such bytes (inl kept) = h.kept bytes kept
    here_is_such bytes (inr p) = written_is_such bytes p

    later_is_such : (bytes : List ℕ) → IsOfMap (plain.carries P time job).state bytes → IsSuch bytes
    later_is_such bytes m = elim (map_or_written P time job bytes m) [
      | inl was ↦ h.of_map bytes was
      | inr p ↦ written_is_such bytes p
    ]

    agrees : TellSame (changing.carries c time job).end (plain.carries P time job).end × ((changing.carries c time job).begun ≡ (plain.carries P time job).begun) × HoldsSuch (changing.carries c time job).state (plain.carries P time job).state
    agrees =
        let here : AreApart (IsBlockAt c.cluster P job) = λ a b x y e. apart a b (here_is_such a x) (here_is_such b y) e in
        let f = job_follows c.cluster P time job h.map.stands.holds h.map.clash h.map.some here fit.0.0 in
        let g = carries_grow P time job in
        let now = stands_then c.cluster P h.map.layout h.map.stands h.map.clash h.map.some time job here fit.0.0 in
        let due = due_so (cluster.carries c.cluster time job).state (plain.carries P time job).state h.map.layout now c.to_come h.map.may fit.0.1
        (record { apart = λ x y a b e. clear.apart x y (fit.1 x a) (fit.1 y b) e; some = λ x a. clear.some x (fit.1 x a) }) in (
          f.agrees.end,
          f.agrees.begun,
          record {
            map = record { layout = due.layout; stands = due.stands; may = due.may; clash = subst NoClash (sym g.buckets) h.map.clash; some = subst (λ b. 1 ≤ b) (sym g.block) h.map.some };
            kept = λ bytes k. here_is_such bytes (f.keeps bytes (due.kept bytes k));
            of_map = later_is_such;
          },
        )

  -- an upload that is given up earlier puts no other blocks
  earlier_such : (a b : Asking Plain) → IsLeftFor a b → PutsSuch b → PutsSuch a
  earlier_such a b left such bytes puts = such bytes (left_puts bytes a b left puts)

  -- the cluster answers as the map does, and gives as it does in the middle of a get
  answers : AnswerAlike changing plain HoldsSuch (MaySuch IsHash) PutsSuch
  answers = record { answers = agrees; earlier = earlier_such; gives = λ c P time bucket key g h gives. gives_as_the_map c.cluster P time bucket key g h.map.stands.holds gives }

  module _ (buckets : Buckets) (g : Grammar) where
    -- jobs whose blocks are such put such blocks
    all_such : (asks : List (Asking Plain)) → ((bytes : List ℕ) → OneOf (PutsBlock bytes) asks → IsSuch bytes) → AllByRecursion PutsSuch asks
    all_such [] f = tt
    all_such (a ∷ asks) f = ((λ bytes h. f bytes (inl h)), all_such asks (λ bytes h. f bytes (inr h)))

    -- what holds wherever the blocks are such holds at these stops
    each_such : (Such : List ℕ → Serving Plain → Type 0) (So : Serving Plain → Type 0) → ((q : Serving Plain) → ((bytes : List ℕ) → Such bytes q → IsSuch bytes) → So q) → (stops : List (Stop Plain)) →
        ((bytes : List ℕ) → OneOf (λ (r : Stop Plain). Such bytes r.serving) stops → IsSuch bytes) → AllByRecursion (λ (r : Stop Plain). So r.serving) stops
    each_such Such So one [] f = tt
    each_such Such So one (r ∷ stops) f = (one r.serving (λ bytes h. f bytes (inl h)), each_such Such So one stops (λ bytes h. f bytes (inr h)))

    -- connections whose blocks are such put such blocks, wherever they were cut off
    all_meant : (came : List (List ℕ)) (gone : List Connection) (q : Serving Plain) → ((bytes : List ℕ) → SomeAsked plain buckets g (PutsBlock bytes) q came gone → IsSuch bytes) → AllMeant changing plain HoldsSuch (MaySuch IsHash) PutsSuch answers buckets g q came gone
    all_meant [] gone q f = tt
    all_meant (x ∷ came) [] q f = tt
    all_meant (x ∷ came) (d ∷ gone) q f =
        let t = talk plain buckets g request_limit q x in (
          all_such t.asks (λ bytes h. f bytes (inl h)),
          all_meant came gone t.serving (λ bytes h. f bytes (inr (inl h))),
          λ rose.
              each_such (λ bytes r. SomeAsked plain buckets g (PutsBlock bytes) r came gone) (λ r. AllMeant changing plain HoldsSuch (MaySuch IsHash) PutsSuch answers buckets g r came gone) (λ r k. all_meant came gone r k) t.stops
              (λ bytes h. f bytes (inr (inr (rose, h)))),
        )

  -- what is served at first is alike
  module _ (p : Serving Changing) (P : Plain) (h : StandsWith p.store P) (kept : (bytes : List ℕ) → IsKept p.store.cluster.run.world bytes → IsSuch bytes) (of_map : (bytes : List ℕ) → IsOfMap P bytes → IsSuch bytes) where
    begins : Serves changing plain HoldsSuch (MaySuch IsHash) PutsSuch answers p (over_map P p)
    begins = record {
      store = record { map = h; kept = kept; of_map = of_map };
      times = refl;
      time = refl;
      kept = refl;
    }

-- connections are served alike, with others behind them
module _ (buckets : Buckets) (g : Grammar) (p s : Serving Changing) (P : Plain) (came rest : List (List ℕ)) (gone ds : List Connection) (h : StandsWith p.store P) (apart : AreApart (IsServedBlock buckets g p P (came ++ rest) (gone ++ ds)))
    (clear : NoWalkClash (IsServedHash buckets g p (came ++ rest) (gone ++ ds))) (served : AreServed changing buckets g (fits_asking changing_fits) p came gone s) where
  abbrev IsSuch : List ℕ → Type 0
  IsSuch = IsServedBlock buckets g p P (came ++ rest) (gone ++ ds)

  abbrev IsHash : List ℕ → Type 0
  IsHash = IsServedHash buckets g p (came ++ rest) (gone ++ ds)

  such : AreSuch IsHash buckets g p s came rest gone ds
  such = served_such IsHash buckets g rest ds came gone p s served (λ x h. h)

  behind : ServedAlike changing plain (HoldsSuch IsSuch IsHash apart clear) (MaySuch IsHash) (PutsSuch IsSuch IsHash apart clear) (answers IsSuch IsHash apart clear) buckets g (over_map P p) came rest gone ds s
  behind =
      served_alike changing plain (HoldsSuch IsSuch IsHash apart clear) (MaySuch IsHash) (PutsSuch IsSuch IsHash apart clear) (answers IsSuch IsHash apart clear) buckets g rest ds came gone p s (over_map P p)
      (begins IsSuch IsHash apart clear p P h (λ bytes k. inl k) (λ bytes m. inr (inl m))) (all_meant IsSuch IsHash apart clear buckets g (came ++ rest) (gone ++ ds) (over_map P p) (λ bytes k. inr (inr k))) such.served

pub served_from : (buckets : Buckets) (g : Grammar) (p s : Serving Changing) (P : Plain) (came : List (List ℕ)) (gone : List Connection) → StandsWith p.store P → AreApart (IsServedBlock buckets g p P came gone) → NoWalkClash (IsServedHash buckets g p came gone) →
    AreServed changing buckets g (fits_asking changing_fits) p came gone s → AreServedFrom P buckets g p came gone s
served_from buckets g p s P came gone h apart clear served =
    let all : AreApart (IsServedBlock buckets g p P (came ++ []) (gone ++ [])) = subst (λ xs. AreApart (IsServedBlock buckets g p P xs (gone ++ []))) (sym (append-nil came)) (subst (λ ds. AreApart (IsServedBlock buckets g p P came ds)) (sym (append-nil gone)) apart) in
    let none : NoWalkClash (IsServedHash buckets g p (came ++ []) (gone ++ [])) = subst (λ xs. NoWalkClash (IsServedHash buckets g p xs (gone ++ []))) (sym (append-nil came)) (subst (λ ds. NoWalkClash (IsServedHash buckets g p came ds)) (sym (append-nil gone)) clear) in
    let k = behind buckets g p s P came [] gone [] h all none served in
    record { serving = k.serving; are_served = k.are_served; stands = k.alike.store.map }

pub ended_from : (buckets : Buckets) (g : Grammar) (p s : Serving Changing) (P : Plain) (came : List (List ℕ)) (gone : List Connection) (bytes : List ℕ) (last : Connection) (fault : ServeFault) → StandsWith p.store P →
    AreApart (IsServedBlock buckets g p P (came ++ bytes ∷ []) (gone ++ last ∷ [])) → NoWalkClash (IsServedHash buckets g p (came ++ bytes ∷ []) (gone ++ last ∷ [])) → AreServed changing buckets g (fits_asking changing_fits) p came gone s → EndsSo changing buckets g (fits_asking changing_fits) (λ asks. ⊤) (stated changing buckets g s bytes) last fault →
    EndsFrom P buckets g p came gone bytes last fault
ended_from buckets g p s P came gone bytes last fault h apart clear served ends =
    let such = IsServedBlock buckets g p P (came ++ bytes ∷ []) (gone ++ last ∷ []) in
    let hash = IsServedHash buckets g p (came ++ bytes ∷ []) (gone ++ last ∷ []) in
    let k = behind buckets g p s P came (bytes ∷ []) gone (last ∷ []) h apart clear served in
    let others = (served_such hash buckets g (bytes ∷ []) (last ∷ []) came gone p s served (λ x a. a)).others in
    record {
      serving = k.serving;
      are_served = k.are_served;
      ends = ended_alike changing plain (HoldsSuch such hash apart clear) (MaySuch hash) (PutsSuch such hash apart clear) (answers such hash apart clear) buckets g (λ asks. ⊤) s k.serving bytes last fault k.alike k.meant.0
          (ends_such hash buckets g s bytes last fault (λ asks. ⊤) (λ x a. others x (inl a)) ends);
    }

-- one request
module _ (buckets : Buckets) (g : Grammar) (last : Bool) (p : Serving Changing) (P : Plain) (request : List ℕ) (h : StandsWith p.store P) (apart : AreApart (IsTurnBlock buckets g last p P request)) (clear : NoWalkClash (IsTurnHash buckets g last p request)) where
  abbrev IsOne : List ℕ → Type 0
  IsOne = IsTurnBlock buckets g last p P request

  abbrev Hash : List ℕ → Type 0
  Hash = IsTurnHash buckets g last p request

  turn_meant : AllByRecursion (PutsSuch IsOne Hash apart clear) (turn plain buckets g last (over_map P p) request).asks
  turn_meant = all_such IsOne Hash apart clear buckets g (turn plain buckets g last (over_map P p) request).asks (λ bytes k. inr (inr k))

  turns : TurnsSo changing plain (HoldsSuch IsOne Hash apart clear) (MaySuch Hash) (PutsSuch IsOne Hash apart clear) (answers IsOne Hash apart clear) (turn changing buckets g last p request) (turn plain buckets g last (over_map P p) request)
  turns = turn_alike changing plain (HoldsSuch IsOne Hash apart clear) (MaySuch Hash) (PutsSuch IsOne Hash apart clear) (answers IsOne Hash apart clear) buckets g last p (over_map P p) request (begins IsOne Hash apart clear p P h (λ bytes k. inl k) (λ bytes m. inr (inl m)))

  pub turned_from : AllByRecursion (fits_asking changing_fits) (turn changing buckets g last p request).asks → IsTurnFrom P buckets g last p request
  turned_from fit = let t = turns.whole (all_may Hash (turn changing buckets g last p request).asks fit (λ x h. inl h)) turn_meant in record { text = t.text; next = t.next; stands = t.serving.store.map }

  pub stopped_from : AreStopsFrom P buckets g last p request
  stopped_from = each_stop (turn changing buckets g last p request).stops (λ x h. inr h) (turns.stops turn_meant)
    where
      each_stop : (stops : List (Stop Changing)) → ((x : List ℕ) → OneOf (λ (stop : Stop Changing). OneOf (HashesAfter x) stop.asks) stops → IsTurnHash buckets g last p request x) →
          AllByRecursion (λ (s : Stop Changing). AllByRecursion (MaySuch Hash) s.asks → OneOf (Stops changing plain (HoldsSuch IsOne Hash apart clear) (MaySuch Hash) (PutsSuch IsOne Hash apart clear) (answers IsOne Hash apart clear) s) (turn plain buckets g last (over_map P p) request).stops) stops →
          AllByRecursion (λ (s : Stop Changing). AllByRecursion (fits_asking changing_fits) s.asks → IsAtMapStop P buckets g last p request s) stops
      each_stop [] f h = tt
      each_stop (s ∷ stops) f h = (
        (λ fit.
            one_weaker (Stops changing plain (HoldsSuch IsOne Hash apart clear) (MaySuch Hash) (PutsSuch IsOne Hash apart clear) (answers IsOne Hash apart clear) s) (λ (r : Stop Plain). (s.text ≡ r.text) × StandsWith s.serving.store r.serving.store) (λ r a. (a.text, a.serving.store.map)) (turn plain buckets g last (over_map P p) request).stops
            (h.0 (all_may Hash s.asks fit (λ x g. f x (inl g))))),
        each_stop stops (λ x g. f x (inr g)) h.1,
      )
