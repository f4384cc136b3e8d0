-- Two stores that answer alike serve alike: what is written to a connection is the same.
use Rattle.std.specs.Prelude.{⊤}
use Rattle.std.proofs.Common.{◌≡◌, ℕ, zero, suc, ◌+◌, min, Bool, true, false, nat_le, nat_lt, if◌then◌else◌, ◌==◌, Option, Some, None, Result, Ok, Err, List, [], ◌∷◌, ◌++◌, map, length, take, drop, take-append-drop, codes, IfSome, ◌∙◌, refl, sym, ap, ap₂, subst, inl, inr}
use Rattle.std.specs.List.{AllByRecursion}
use Rattle.crdt_core.specs.Members.{OneOf}
use Rattle.crdt_core.proofs.Each.{all_append, all_weaker}
use Rattle.lab_outside.specs.Connection.{Connection}
use Rattle.lab_outside.specs.Rose.{Rose}
use Rattle.flow_model.specs.declared.order.Order.{Order}
use Rattle.flow_model.specs.declared.order.Order.TheVariants as order
use Rattle.flow_model.specs.declared.flow.FlowEnd.{FlowEnd}
use Rattle.http_model.specs.declared.head.Head.{Head}
use Rattle.http_model.specs.Cut.{Cut, ends, too_long, unfinished, cut}
use Rattle.s3_model.specs.declared.fault.Code.{Code}
use Rattle.s3_model.specs.declared.fault.S3Fault.{S3Fault}
use Rattle.s3_model.specs.declared.fault.Code.TheVariants.{IncompleteBody}
use Rattle.s3_model.specs.Asks.{is_method}
use Rattle.serve_model.specs.declared.answer.Answer.{Answer}
use Rattle.serve_model.specs.declared.answer.Answer.TheVariants as answer
use Rattle.serve_model.specs.declared.admitted.Admitted.{Admitted}
use Rattle.serve_model.specs.declared.buckets.Buckets.{Buckets}
use Rattle.serve_model.specs.declared.request.Request.{Request}
use Rattle.serve_model.specs.Admitting.{admitted}
use Rattle.serve_model.specs.Stores.{Upload, Job, carry, keep, leave, Given, Store, Asking, IsLeftFor, gives_in, gives_asked}
use Rattle.serve_model.specs.Told.{told_of, TellSame}
use Rattle.serve_model.specs.declared.served.ServeFault.{ServeFault}
use Rattle.serve_model.specs.declared.served.ServeFault.TheVariants.{Kept, Number, Memory}
use Rattle.serve_model.specs.Serving.{GivesUp}
use Rattle.serve_model.specs.Connections.{IsPrefixOf, IsUpTo, IsInto, WasSteady, exact, part, AreServed, EndsSo, too_many, begun, halted}
use Rattle.serve_model.specs.Judging.{refusal_of, counted_before, upload_of, order_of, reply_without, answer_to, counted_after}
use Rattle.serve_model.specs.Talk.{request_limit, Grammar, Serving, kept_limit, first_of, later_of, time_from, Next, goes, closes, exceeds, Stop, Halt, Turn, request_of, clocked, counted, stop, behind, behind_halt, passing, having_asked, after, said, answer_turn, exceeded, counting, given_turn, end_turn, giving, asking_now, order_turn, left_turn, leaving_turn, came_turn, below, uploading, cut_after, while_coming, plan_turn, judged_turn, whole_turn, body_turn, received_turn, stream_turn, coming_turn, waiting_turn, request_turn, asked_turn, head_turn, cut_turn, turn, Talk, go_on, talk, interim, bad_head, head_refusal, path_shown, text_of, begun_text, given_text, closes_of}
use Rattle.serve_model.proofs.Telling.{same_answers, same_counts}
use Rattle.serve_model.proofs.Ones.{split, one_weaker, one_left, one_right, one_mapped, all_mapped, one_at, at_one, at_all, all_under}

pub any : {A : Type 0} (xs : List A) → AllByRecursion (λ x. ⊤) xs
any [] = tt
any (x ∷ xs) = (tt, any xs)

-- two stores answer alike: from states that are alike, what one may and the other should be asked tells the same, and leads to states that are alike; what should be asked may as well give its upload up; and what one may give in the middle of a get the other may
pub record AnswerAlike {S T : Type 0} (one : Store S) (other : Store T) (Alike : S → T → Type 0) (May : Asking S → Type 0) (Should : Asking T → Type 0) : Type 0 where
  pub answers : (s : S) (t : T) (time : ℕ) (job : Job) → Alike s t → May (record { state = s; time = time; job = job }) → Should (record { state = t; time = time; job = job }) →
      TellSame (one.carries s time job).end (other.carries t time job).end × ((one.carries s time job).begun ≡ (other.carries t time job).begun) × Alike (one.carries s time job).state (other.carries t time job).state
  pub earlier : (a b : Asking T) → IsLeftFor a b → Should b → Should a
  pub gives : (s : S) (t : T) (time : ℕ) (bucket key : List ℕ) (g : Given) → Alike s t → one.gives s time (order.Get bucket key) g → other.gives t time (order.Get bucket key) g

module _ {S T : Type 0} (one : Store S) (other : Store T) (Alike : S → T → Type 0) (May : Asking S → Type 0) (Should : Asking T → Type 0) (answers : AnswerAlike one other Alike May Should) where
  -- what is served is alike
  pub record Serves (p : Serving S) (q : Serving T) : Type 0 where
    pub store : Alike p.store q.store
    pub times : p.times ≡ q.times
    pub time : p.time ≡ q.time
    pub kept : p.kept ≡ q.kept

  abbrev Fit : List (Asking S) → Type 0
  Fit asks = AllByRecursion May asks

  abbrev Meant : List (Asking T) → Type 0
  Meant asks = AllByRecursion Should asks

  -- what is written up to a stop is alike, and what is served there
  pub record Stops (s : Stop S) (r : Stop T) : Type 0 where
    pub text : s.text ≡ r.text
    pub serving : Serves s.serving r.serving
    pub uploads : s.uploads ≡ r.uploads

  -- what is written before a halt is alike, and the get in the middle of which it is
  pub record Halts (h : Halt S) (k : Halt T) : Type 0 where
    pub text : h.text ≡ k.text
    pub request : h.request ≡ k.request
    pub bucket : List ℕ
    pub key : List ℕ
    pub asked : h.asking.job ≡ carry (order.Get bucket key)
    pub other_asked : k.asking.job ≡ carry (order.Get bucket key)
    pub time : h.asking.time ≡ k.asking.time
    pub store : Alike h.asking.state k.asking.state

  -- of these places each one before which all that is asked may be asked has one alike among those
  abbrev pub Follow : {X Y : Type 0} → (X → List (Asking S)) → (X → Y → Type 0) → List X → List Y → Type 0
  Follow asks Like xs ys = AllByRecursion (λ x. Fit (asks x) → OneOf (Like x) ys) xs

  abbrev pub asks_of : Stop S → List (Asking S)
  asks_of s = s.asks

  abbrev pub asks_before : Halt S → List (Asking S)
  asks_before h = h.asks

  abbrev pub StopsFollow : List (Stop S) → List (Stop T) → Type 0
  StopsFollow = Follow asks_of Stops

  abbrev pub HaltsFollow : List (Halt S) → List (Halt T) → Type 0
  HaltsFollow = Follow asks_before Halts

  -- what comes of a request is alike
  pub record Turns (t : Turn S) (u : Turn T) : Type 0 where
    pub text : t.text ≡ u.text
    pub serving : Serves t.serving u.serving
    pub next : t.next ≡ u.next

  -- the same, where all that is asked may be asked; and so it is at its stops and halts
  pub record TurnsSo (t : Turn S) (u : Turn T) : Type 0 where
    pub whole : Fit t.asks → Meant u.asks → Turns t u
    pub stops : Meant u.asks → StopsFollow t.stops u.stops
    pub halts : Meant u.asks → HaltsFollow t.halts u.halts

  either : (b c : Bool) → b ≡ c → (t v : Turn S) (u w : Turn T) → TurnsSo t u → TurnsSo v w → TurnsSo (if b then t else v) (if c then u else w)
  either true true e t v u w h k = h
  either false false e t v u w h k = k
  either true false e t v u w h k = cc
  either false true e t v u w h k = cc

  module _ {X Y : Type 0} (asks : X → List (Asking S)) (Like : X → Y → Type 0) where
    -- one place more, and all places behind it
    one_more : (x : X) (y : Y) (xs : List X) (ys : List Y) → (Fit (asks x) → Like x y) → Follow asks Like xs ys → Follow asks Like (x ∷ xs) (y ∷ ys)
    one_more x y xs ys h f = ((λ fit. inl (h fit)), all_weaker (λ (x : X). Fit (asks x) → OneOf (Like x) ys) (λ (x : X). Fit (asks x) → OneOf (Like x) (y ∷ ys)) (λ x k fit. inr (k fit)) xs f)

    -- before all places comes something that fits under a premise
    placed_behind : (Premise : Type 0) (f : X → X) (ys zs : List Y) (xs : List X) → ((x : X) → Fit (asks (f x)) → Premise × Fit (asks x)) → (Premise → (x : X) → OneOf (Like x) ys → OneOf (Like (f x)) zs) → (Premise → Follow asks Like xs ys) → Follow asks Like (map f xs) zs
    placed_behind Premise f ys zs xs parts into h =
        all_mapped (λ (x : X). Premise → Fit (asks x) → OneOf (Like x) ys) (λ (x : X). Fit (asks x) → OneOf (Like x) zs) f (λ x k fit. let p = parts x fit in into p.0 x (k p.0 p.1)) xs
        (all_under Premise (λ (x : X). Fit (asks x) → OneOf (Like x) ys) xs h)

  -- the same comes before both
  module _ (text text' : List ℕ) (asks : List (Asking S)) (asks' : List (Asking T)) (same : text ≡ text') where
    stops_behind : (s : Stop S) (rs : List (Stop T)) → OneOf (Stops s) rs → OneOf (Stops (behind text asks s)) (map (behind text' asks') rs)
    stops_behind s rs = one_mapped (Stops s) (Stops (behind text asks s)) (behind text' asks') (λ r a. record { text = ap₂ (λ x y. x ++ y) same a.text; serving = a.serving; uploads = a.uploads }) rs

    halts_behind : (h : Halt S) (ks : List (Halt T)) → OneOf (Halts h) ks → OneOf (Halts (behind_halt text asks h)) (map (behind_halt text' asks') ks)
    halts_behind h ks =
        one_mapped (Halts h) (Halts (behind_halt text asks h)) (behind_halt text' asks')
        (λ k a. record { text = ap₂ (λ x y. x ++ y) same a.text; request = a.request; bucket = a.bucket; key = a.key; asked = a.asked; other_asked = a.other_asked; time = a.time; store = a.store }) ks

  passing_alike : (p : Serving S) (q : Serving T) (t : Turn S) (u : Turn T) → Serves p q → TurnsSo t u → TurnsSo (passing p t) (passing q u)
  passing_alike p q t u l h =
      record {
        whole = λ fit meant. let k = h.whole fit meant in record { text = k.text; serving = k.serving; next = k.next };
        stops = λ meant. one_more asks_of Stops (stop [] p) (stop [] q) t.stops u.stops (λ fit. record { text = refl; serving = l; uploads = refl }) (h.stops meant);
        halts = h.halts;
      }

  after_alike : (text : List ℕ) (t : Turn S) (u : Turn T) → TurnsSo t u → TurnsSo (after text t) (after text u)
  after_alike text t u h =
      record {
        whole = λ fit meant. let k = h.whole fit meant in record { text = ap (λ x. text ++ x) k.text; serving = k.serving; next = k.next };
        stops = λ meant.
            placed_behind asks_of Stops ⊤ (behind text []) u.stops (map (behind text []) u.stops) t.stops (λ s fit. (tt, fit)) (λ here s. stops_behind text text [] [] refl s u.stops) (λ here. h.stops meant);
        halts = λ meant.
            placed_behind asks_before Halts ⊤ (behind_halt text []) u.halts (map (behind_halt text []) u.halts) t.halts (λ k fit. (tt, fit)) (λ here k. halts_behind text text [] [] refl k u.halts) (λ here. h.halts meant);
      }

  asked_before : (a : Asking S) (b : Asking T) (t : Turn S) (u : Turn T) → (May a → Should b → TurnsSo t u) → TurnsSo (having_asked a t) (having_asked b u)
  asked_before a b t u h =
      record {
        whole = λ fit meant. let k = (h fit.0 meant.0).whole fit.1 meant.1 in record { text = k.text; serving = k.serving; next = k.next };
        stops = λ meant.
            placed_behind asks_of Stops (May a) (behind [] (a ∷ [])) u.stops (map (behind [] (b ∷ [])) u.stops) t.stops (λ s fit. fit) (λ may s. stops_behind [] [] (a ∷ []) (b ∷ []) refl s u.stops)
            (λ may. (h may meant.0).stops meant.1);
        halts = λ meant.
            placed_behind asks_before Halts (May a) (behind_halt [] (a ∷ [])) u.halts (map (behind_halt [] (b ∷ [])) u.halts) t.halts (λ k fit. fit) (λ may k. halts_behind [] [] (a ∷ []) (b ∷ []) refl k u.halts)
            (λ may. (h may meant.0).halts meant.1);
      }

  -- a get may be given up in the middle of it, of both
  giving_alike : (r : Request) (o : Order) (p : Serving S) (q : Serving T) (t : Turn S) (u : Turn T) → Alike p.store q.store → TurnsSo t u → TurnsSo (giving r (asking_now r (carry o) p) t) (giving r (asking_now r (carry o) q) u)
  giving_alike r (order.Get bucket key) p q t u l h =
      let a : Asking S = asking_now r (carry (order.Get bucket key)) p in
      let b : Asking T = asking_now r (carry (order.Get bucket key)) q in
      record {
        whole = λ fit meant. let k = h.whole fit meant in record { text = k.text; serving = k.serving; next = k.next };
        stops = h.stops;
        halts = λ meant.
            one_more asks_before Halts (record { text = []; asks = []; request = r; asking = a }) (record { text = []; asks = []; request = r; asking = b }) t.halts u.halts
            (λ fit. record { text = refl; request = refl; bucket = bucket; key = key; asked = refl; other_asked = refl; time = refl; store = l }) (h.halts meant);
      }
  giving_alike r (order.Put bucket key body headers) p q t u l h = record { whole = h.whole; stops = h.stops; halts = h.halts }
  giving_alike r (order.Stream bucket key announced headers) p q t u l h = record { whole = h.whole; stops = h.stops; halts = h.halts }
  giving_alike r (order.Head bucket key) p q t u l h = record { whole = h.whole; stops = h.stops; halts = h.halts }
  giving_alike r (order.Delete bucket key) p q t u l h = record { whole = h.whole; stops = h.stops; halts = h.halts }
  giving_alike r (order.Copy from_bucket from_key bucket key headers) p q t u l h = record { whole = h.whole; stops = h.stops; halts = h.halts }
  giving_alike r (order.List bucket prefix) p q t u l h = record { whole = h.whole; stops = h.stops; halts = h.halts }

  said_alike : (text : List ℕ) (close : Bool) (p : Serving S) (q : Serving T) (rest : List ℕ) → Serves p q → TurnsSo (said text close p rest) (said text close q rest)
  said_alike text close p q rest l =
      record { whole = λ fit meant. record { text = refl; serving = l; next = refl }; stops = λ meant. ((λ fit. inl (record { text = refl; serving = l; uploads = refl })), tt); halts = λ meant. tt }

  counted_alike : (size : ℕ) (p : Serving S) (q : Serving T) → Serves p q → Serves (counted size p) (counted size q)
  counted_alike size p q l = record { store = l.store; times = l.times; time = l.time; kept = ap (λ n. n + size) l.kept }

  counting_alike : (size : ℕ) (p : Serving S) (q : Serving T) → Serves p q → (f : Serving S → Turn S) (g : Serving T → Turn T) → (Serves (counted size p) (counted size q) → TurnsSo (f (counted size p)) (g (counted size q))) →
      TurnsSo (counting size p f) (counting size q g)
  unfolding counting
  counting_alike size p q l f g h =
      let m = counted_alike size p q l in
      either (nat_lt kept_limit (p.kept + size)) (nat_lt kept_limit (q.kept + size)) (ap (λ n. nat_lt kept_limit (n + size)) l.kept) (exceeded (counted size p)) (f (counted size p)) (exceeded (counted size q)) (g (counted size q))
      (record { whole = λ fit meant. record { text = refl; serving = m; next = refl }; stops = λ meant. ((λ fit. inl (record { text = refl; serving = m; uploads = refl })), tt); halts = λ meant. tt }) (h m)

  answer_alike : (r : Request) (a : Answer) (p : Serving S) (q : Serving T) (rest : List ℕ) → Serves p q → TurnsSo (answer_turn r a p rest) (answer_turn r a q rest)
  answer_alike r a p q rest l = said_alike (text_of r a) (closes_of r a) p q rest l

  given_alike : (r : Request) (a : Answer) (had : Option Given) (p : Serving S) (q : Serving T) (rest : List ℕ) → Serves p q → TurnsSo (given_turn r a had p rest) (given_turn r a had q rest)
  given_alike r a had p q rest l = said_alike (given_text r a had) (closes_of r a) p q rest l

  -- ends that tell the same are answered alike
  end_alike : (r : Request) (end same : Option FlowEnd) (had : Option Given) (p : Serving S) (q : Serving T) (rest : List ℕ) → TellSame end same → Serves p q → TurnsSo (end_turn r end had p rest) (end_turn r same had q rest)
  end_alike r None None had p q rest tells l = given_alike r answer.Nothing had p q rest l
  end_alike r None (Some same) had p q rest tells l = cc
  end_alike r (Some end) None had p q rest tells l = cc
  end_alike r (Some end) (Some same) had p q rest tells l =
      let told : Some (told_of end) ≡ Some (told_of same) = tells in
      let is : told_of end ≡ told_of same = cc in
      let t : Turn S = end_turn r (Some end) had p rest in
      subst (λ (size : ℕ). TurnsSo t (counting size q (λ v. given_turn r (answer_to r.ask same) had v rest))) (same_counts r.ask end same is)
      (subst (λ (a : Answer). TurnsSo t (counting (counted_after r.ask end) q (λ v. given_turn r a had v rest))) (same_answers r.ask end same is)
      (counting_alike (counted_after r.ask end) p q l (λ v. given_turn r (answer_to r.ask end) had v rest) (λ v. given_turn r (answer_to r.ask end) had v rest)
      (λ m. given_alike r (answer_to r.ask end) had (counted (counted_after r.ask end) p) (counted (counted_after r.ask end) q) rest m)))

  left_alike : (r : Request) (code : Code) (end same : Option FlowEnd) (p : Serving S) (q : Serving T) (rest : List ℕ) → TellSame end same → Serves p q → TurnsSo (left_turn r code end p rest) (left_turn r code same q rest)
  left_alike r code None None p q rest tells l = answer_alike r answer.Nothing p q rest l
  left_alike r code None (Some same) p q rest tells l = cc
  left_alike r code (Some end) None p q rest tells l = cc
  left_alike r code (Some end) (Some same) p q rest tells l = answer_alike r (answer.Refusal code) p q rest l

  -- a job is carried out, and what is served then is alike
  carried_alike : (r : Request) (job : Job) (p : Serving S) (q : Serving T) → Serves p q → May (asking_now r job p) → Should (asking_now r job q) →
      Serves (record p { store = (one.carries p.store r.time job).state }) (record q { store = (other.carries q.store r.time job).state })
  carried_alike r job p q l may should = record { store = (answers.answers p.store q.store r.time job l.store may should).2; times = l.times; time = l.time; kept = l.kept }

  -- and it is answered by its end
  job_alike : (r : Request) (job : Job) (p : Serving S) (q : Serving T) (rest : List ℕ) → Serves p q →
      (let c = one.carries p.store r.time job in
      let d = other.carries q.store r.time job in
      TurnsSo (having_asked (asking_now r job p) (end_turn r c.end c.begun (record p { store = c.state }) rest)) (having_asked (asking_now r job q) (end_turn r d.end d.begun (record q { store = d.state }) rest)))
  job_alike r job p q rest l =
      let c = one.carries p.store r.time job in
      let d = other.carries q.store r.time job in
      let after_one : Serving S = record p { store = c.state } in
      let after_other : Serving T = record q { store = d.state } in
      let t = end_turn r c.end c.begun after_one rest in
      asked_before (asking_now r job p) (asking_now r job q) t (end_turn r d.end d.begun after_other rest)
      (λ may should.
      let k = answers.answers p.store q.store r.time job l.store may should in
      subst (λ (had : Option Given). TurnsSo t (end_turn r d.end had after_other rest)) k.1 (end_alike r c.end d.end c.begun after_one after_other rest k.0 (carried_alike r job p q l may should)))

  order_alike : (r : Request) (o : Order) (p : Serving S) (q : Serving T) (rest : List ℕ) → Serves p q → TurnsSo (order_turn one r o p rest) (order_turn other r o q rest)
  order_alike r o p q rest l =
      let a : Asking S = asking_now r (carry o) p in
      let b : Asking T = asking_now r (carry o) q in
      let c = one.carries p.store r.time (carry o) in
      let d = other.carries q.store r.time (carry o) in
      let t = having_asked a (end_turn r c.end c.begun (record p { store = c.state }) rest) in
      let u = having_asked b (end_turn r d.end d.begun (record q { store = d.state }) rest) in
      passing_alike p q (giving r a t) (giving r b u) l (giving_alike r o p q t u l.store (job_alike r (carry o) p q rest l))

  -- ---- uploads

  module _ (r : Request) (u : Upload) where
    leaving_alike : (code : Code) (came : List ℕ) (p : Serving S) (q : Serving T) (rest : List ℕ) → Serves p q → TurnsSo (leaving_turn one r u code came p rest) (leaving_turn other r u code came q rest)
    leaving_alike code came p q rest l =
        let c = one.carries p.store r.time (leave u came) in
        let d = other.carries q.store r.time (leave u came) in
        let after_one : Serving S = record p { store = c.state } in
        let after_other : Serving T = record q { store = d.state } in
        asked_before (asking_now r (leave u came) p) (asking_now r (leave u came) q) (left_turn r code c.end after_one rest) (left_turn r code d.end after_other rest)
        (λ may should. left_alike r code c.end d.end after_one after_other rest (answers.answers p.store q.store r.time (leave u came) l.store may should).0 (carried_alike r (leave u came) p q l may should))

    came_alike : (c : Option Code) (came : List ℕ) (p : Serving S) (q : Serving T) (rest : List ℕ) → Serves p q → TurnsSo (came_turn one r u c came p rest) (came_turn other r u c came q rest)
    came_alike (Some code) came p q rest l = leaving_alike code came p q rest l
    came_alike None came p q rest l = job_alike r (keep u came) p q rest l

    -- it may be cut off while the bytes come, of both, where the other store should be asked to give the upload up then
    cuts_alike : (came : List ℕ) (p : Serving S) (q : Serving T) (stops : List (Stop S)) (others : List (Stop T)) → Serves p q → ((n : ℕ) → Should (asking_now r (leave u (take n came)) q)) → StopsFollow stops others → (ns : List ℕ) →
        StopsFollow (map (cut_after one r u came p) ns ++ stops) (map (cut_after other r u came q) ns ++ others)
    cuts_alike came p q stops others l should follow [] = follow
    cuts_alike came p q stops others l should follow (n ∷ ns) =
        one_more asks_of Stops (cut_after one r u came p n) (cut_after other r u came q n) (map (cut_after one r u came p) ns ++ stops) (map (cut_after other r u came q) ns ++ others)
        (λ fit. record { text = refl; serving = carried_alike r (leave u (take n came)) p q l fit.0 (should n); uploads = refl }) (cuts_alike came p q stops others l should follow ns)

    coming_alike : (came : List ℕ) (p : Serving S) (q : Serving T) (t : Turn S) (v : Turn T) → Serves p q → (Meant v.asks → (n : ℕ) → Should (asking_now r (leave u (take n came)) q)) → TurnsSo t v →
        TurnsSo (while_coming one r u came p t) (while_coming other r u came q v)
    coming_alike came p q t v l should h =
        record {
          whole = λ fit meant. let k = h.whole fit meant in record { text = k.text; serving = k.serving; next = k.next };
          stops = λ meant.
              let ns = below (min (suc (length came)) u.length) in
              one_more asks_of Stops (uploading one r u p) (uploading other r u q) (map (cut_after one r u came p) ns ++ t.stops) (map (cut_after other r u came q) ns ++ v.stops)
              (λ fit. record { text = refl; serving = l; uploads = refl }) (cuts_alike came p q t.stops v.stops l (should meant) (h.stops meant) ns);
          halts = h.halts;
        }

    -- what is asked once bytes came should be asked: so should it be that the upload is given up before
    left_before : (c : Option Code) (came : List ℕ) (q : Serving T) (rest : List ℕ) → Meant (came_turn other r u c came q rest).asks → (n : ℕ) → Should (asking_now r (leave u (take n came)) q)
    left_before (Some code) came q rest meant n = answers.earlier (asking_now r (leave u (take n came)) q) (asking_now r (leave u came) q) (refl, refl, (refl, (drop n came, take-append-drop n came))) meant.0
    left_before None came q rest meant n = answers.earlier (asking_now r (leave u (take n came)) q) (asking_now r (keep u came) q) (refl, refl, (refl, (drop n came, take-append-drop n came))) meant.0

  module _ (buckets : Buckets) where
    plan_alike : (r : Request) (o : Option Order) (p : Serving S) (q : Serving T) (rest : List ℕ) → Serves p q → TurnsSo (plan_turn one buckets r o p rest) (plan_turn other buckets r o q rest)
    plan_alike r (Some order) p q rest l = order_alike r order p q rest l
    plan_alike r None p q rest l = answer_alike r (answer.Reply (reply_without buckets r.who r.ask)) p q rest l

    judged_alike : (r : Request) (body : List ℕ) (c : Option Code) (p : Serving S) (q : Serving T) (rest : List ℕ) → Serves p q → TurnsSo (judged_turn one buckets r body c p rest) (judged_turn other buckets r body c q rest)
    judged_alike r body (Some code) p q rest l = answer_alike r (answer.Refusal code) p q rest l
    judged_alike r body None p q rest l = plan_alike r (order_of r.ask body) p q rest l

    body_alike : (r : Request) (p : Serving S) (q : Serving T) (rest : List ℕ) → Serves p q → TurnsSo (body_turn one buckets r p rest) (body_turn other buckets r q rest)
    unfolding body_turn
    body_alike r p q rest l =
        passing_alike p q _ _ l
        (either (nat_le r.length (length rest)) (nat_le r.length (length rest)) refl (whole_turn one buckets r (take r.length rest) p (drop r.length rest)) (answer_turn r (answer.Refusal IncompleteBody) p rest) (whole_turn other buckets r (take r.length rest) q (drop r.length rest)) (answer_turn r (answer.Refusal IncompleteBody) q rest)
        (judged_alike r (take r.length rest) (refusal_of buckets r (take r.length rest)) p q (drop r.length rest) l) (answer_alike r (answer.Refusal IncompleteBody) p q rest l))

    module _ (r : Request) (u : Upload) (came : List ℕ) (p : Serving S) (q : Serving T) (rest : List ℕ) where
      received_alike : Serves p q → TurnsSo (received_turn one buckets r u came p rest) (received_turn other buckets r u came q rest)
      received_alike l =
          either (nat_le r.length (length rest)) (nat_le r.length (length rest)) refl (came_turn one r u (refusal_of buckets r came) came p (drop r.length rest)) (leaving_turn one r u IncompleteBody came p rest)
          (came_turn other r u (refusal_of buckets r came) came q (drop r.length rest)) (leaving_turn other r u IncompleteBody came q rest) (came_alike r u (refusal_of buckets r came) came p q (drop r.length rest) l) (leaving_alike r u IncompleteBody came p q rest l)

      received_meant : (b : Bool) → Meant (if b then came_turn other r u (refusal_of buckets r came) came q (drop r.length rest) else leaving_turn other r u IncompleteBody came q rest).asks → (n : ℕ) → Should (asking_now r (leave u (take n came)) q)
      received_meant true meant n = left_before r u (refusal_of buckets r came) came q (drop r.length rest) meant n
      received_meant false meant n = left_before r u (Some IncompleteBody) came q rest meant n

    stream_alike : (r : Request) (u : Upload) (p : Serving S) (q : Serving T) (rest : List ℕ) → Serves p q → TurnsSo (stream_turn one buckets r u p rest) (stream_turn other buckets r u q rest)
    unfolding stream_turn
    stream_alike r u p q rest l =
        let came = take r.length rest in
        passing_alike p q _ _ l (coming_alike r u came p q (received_turn one buckets r u came p rest) (received_turn other buckets r u came q rest) l (received_meant r u came p q rest (nat_le r.length (length rest))) (received_alike r u came p q rest l))

    at_once_or_not : (r : Request) (o : Option Upload) (p : Serving S) (q : Serving T) (rest : List ℕ) → Serves p q → TurnsSo (coming_turn one buckets r o p rest) (coming_turn other buckets r o q rest)
    at_once_or_not r (Some u) p q rest l = stream_alike r u p q rest l
    at_once_or_not r None p q rest l = body_alike r p q rest l

    waiting_alike : (r : Request) (p : Serving S) (q : Serving T) (rest : List ℕ) → Serves p q → TurnsSo (waiting_turn one buckets r p rest) (waiting_turn other buckets r q rest)
    waiting_alike r p q rest l = after_alike (interim r) (coming_turn one buckets r (upload_of buckets r) p rest) (coming_turn other buckets r (upload_of buckets r) q rest) (at_once_or_not r (upload_of buckets r) p q rest l)

    request_alike : (r : Request) (p : Serving S) (q : Serving T) (rest : List ℕ) → Serves p q → TurnsSo (request_turn one buckets r p rest) (request_turn other buckets r q rest)
    request_alike r p q rest l = counting_alike (counted_before buckets.names r.ask r.length) p q l (λ v. waiting_turn one buckets r v rest) (λ v. waiting_turn other buckets r v rest) (λ m. waiting_alike r (counted (counted_before buckets.names r.ask r.length) p) (counted (counted_before buckets.names r.ask r.length) q) rest m)

    asked_alike : (last : Bool) (now : ℕ) (head : Head) (a : Result Admitted S3Fault) (p : Serving S) (q : Serving T) (rest : List ℕ) → Serves p q → TurnsSo (asked_turn one buckets last now head a p rest) (asked_turn other buckets last now head a q rest)
    asked_alike last now head (Ok ask) p q rest l = request_alike (request_of last now head ask) p q rest l
    asked_alike last now head (Err fault) p q rest l = said_alike (head_refusal fault (path_shown head) (is_method head (codes "HEAD")) now) true p q rest l

    head_alike : (last : Bool) (now : ℕ) (h : Option Head) (p : Serving S) (q : Serving T) (rest : List ℕ) → Serves p q → TurnsSo (head_turn one buckets last now h p rest) (head_turn other buckets last now h q rest)
    head_alike last now (Some head) p q rest l = asked_alike last now head (admitted buckets.access now head) p q rest l
    head_alike last now None p q rest l = said_alike (bad_head now) true p q rest l

    module _ (g : Grammar) where
      clocked_alike : (p : Serving S) (q : Serving T) → Serves p q → Serves (clocked p) (clocked q)
      clocked_alike p q l = record { store = l.store; times = ap later_of l.times; time = ap₂ (λ t ts. time_from t (first_of ts)) l.time l.times; kept = l.kept }

      cut_alike : (last : Bool) (p : Serving S) (q : Serving T) (c : Cut) → Serves p q → TurnsSo (cut_turn one buckets g last p c) (cut_turn other buckets g last q c)
      cut_alike last p q (ends front rest) l =
          let m = clocked_alike p q l in
          subst (λ n. TurnsSo (head_turn one buckets last (clocked p).time (g.head_of front) (clocked p) rest) (head_turn other buckets last n (g.head_of front) (clocked q) rest)) m.time
          (head_alike last (clocked p).time (g.head_of front) (clocked p) (clocked q) rest m)
      cut_alike last p q too_long l =
          let m = clocked_alike p q l in
          subst (λ n. TurnsSo (cut_turn one buckets g last p too_long) (said (bad_head n) true (clocked q) [])) m.time (said_alike (bad_head (clocked p).time) true (clocked p) (clocked q) [] m)
      cut_alike last p q unfinished l = said_alike [] true p q [] l

      -- one request is served alike
      pub turn_alike : (last : Bool) (p : Serving S) (q : Serving T) (bytes : List ℕ) → Serves p q → TurnsSo (turn one buckets g last p bytes) (turn other buckets g last q bytes)
      turn_alike last p q bytes l = passing_alike p q (cut_turn one buckets g last p (cut bytes)) (cut_turn other buckets g last q (cut bytes)) l (cut_alike last p q (cut bytes) l)

      -- what is written to a connection is alike, and what is served after it
      pub record Talks (t : Talk S) (u : Talk T) : Type 0 where
        pub text : t.text ≡ u.text
        pub serving : Serves t.serving u.serving
        pub is_over : t.is_over ≡ u.is_over

      -- the same, where all that is asked may be asked; and so it is at its stops and halts
      pub record TalksSo (t : Talk S) (u : Talk T) : Type 0 where
        pub whole : Fit t.asks → Meant u.asks → Talks t u
        pub stops : Meant u.asks → StopsFollow t.stops u.stops
        pub halts : Meant u.asks → HaltsFollow t.halts u.halts

      first_fit : (f : Serving S → List ℕ → Talk S) (t : Turn S) (n : Next) → Fit (go_on f t n).asks → Fit t.asks
      first_fit f t (goes rest) fit = (split May t.asks (f t.serving rest).asks fit).0
      first_fit f t closes fit = fit
      first_fit f t exceeds fit = fit

      first_meant : (h : Serving T → List ℕ → Talk T) (u : Turn T) (n : Next) → Meant (go_on h u n).asks → Meant u.asks
      first_meant h u (goes rest) meant = (split Should u.asks (h u.serving rest).asks meant).0
      first_meant h u closes meant = meant
      first_meant h u exceeds meant = meant

      -- a turn's stops are the talk's, and so are its halts
      first_stops : (h : Serving T → List ℕ → Talk T) (u : Turn T) (n : Next) (s : Stop S) → OneOf (Stops s) u.stops → OneOf (Stops s) (go_on h u n).stops
      first_stops h u (goes rest) s k = one_left (Stops s) u.stops (map (behind u.text u.asks) (h u.serving rest).stops) k
      first_stops h u closes s k = k
      first_stops h u exceeds s k = k

      first_halts : (h : Serving T → List ℕ → Talk T) (u : Turn T) (n : Next) (s : Halt S) → OneOf (Halts s) u.halts → OneOf (Halts s) (go_on h u n).halts
      first_halts h u (goes rest) s k = one_left (Halts s) u.halts (map (behind_halt u.text u.asks) (h u.serving rest).halts) k
      first_halts h u closes s k = k
      first_halts h u exceeds s k = k

      module _ (f : Serving S → List ℕ → Talk S) (h : Serving T → List ℕ → Talk T) (t : Turn S) (u : Turn T) (so : TurnsSo t u) (later : (rest : List ℕ) → Serves t.serving u.serving → TalksSo (f t.serving rest) (h u.serving rest)) where
        go_on_alike : (m n : Next) → m ≡ n → Fit t.asks → Meant u.asks → Fit (go_on f t m).asks → Meant (go_on h u n).asks → Talks (go_on f t m) (go_on h u n)
        go_on_alike (goes rest) (goes others) e first second fit meant =
            let same : rest ≡ others = cc in
            let k = so.whole first second in
            let a = split May t.asks (f t.serving rest).asks fit in
            let b = split Should u.asks (h u.serving others).asks meant in
            let l = (later rest k.serving).whole a.1 (subst (λ (x : List ℕ). Meant (h u.serving x).asks) (sym same) b.1) in
            subst (λ (x : List ℕ). Talks (go_on f t (goes rest)) (go_on h u (goes x))) same (record { text = ap₂ (λ x y. x ++ y) k.text l.text; serving = l.serving; is_over = l.is_over })
        go_on_alike closes closes e first second fit meant = let k = so.whole first second in record { text = k.text; serving = k.serving; is_over = refl }
        go_on_alike exceeds exceeds e first second fit meant = let k = so.whole first second in record { text = k.text; serving = k.serving; is_over = refl }
        go_on_alike (goes rest) closes e first second fit meant = cc
        go_on_alike (goes rest) exceeds e first second fit meant = cc
        go_on_alike closes (goes rest) e first second fit meant = cc
        go_on_alike closes exceeds e first second fit meant = cc
        go_on_alike exceeds (goes rest) e first second fit meant = cc
        go_on_alike exceeds closes e first second fit meant = cc

        -- the turn's stops and halts
        turn_stops : (n : Next) → Meant (go_on h u n).asks → StopsFollow t.stops (go_on h u n).stops
        turn_stops n meant = all_weaker (λ (s : Stop S). Fit s.asks → OneOf (Stops s) u.stops) (λ (s : Stop S). Fit s.asks → OneOf (Stops s) (go_on h u n).stops) (λ s k fit. first_stops h u n s (k fit)) t.stops (so.stops (first_meant h u n meant))

        turn_halts : (n : Next) → Meant (go_on h u n).asks → HaltsFollow t.halts (go_on h u n).halts
        turn_halts n meant = all_weaker (λ (s : Halt S). Fit s.asks → OneOf (Halts s) u.halts) (λ (s : Halt S). Fit s.asks → OneOf (Halts s) (go_on h u n).halts) (λ s k fit. first_halts h u n s (k fit)) t.halts (so.halts (first_meant h u n meant))

        -- those behind the turn, which goes on with these bytes
        module _ (rest : List ℕ) (n : Next) (e : Fit t.asks → goes rest ≡ n) (meant : Meant (go_on h u n).asks) where
          abbrev one_later : Talk S
          one_later = f t.serving rest

          abbrev other_later : Talk T
          other_later = h u.serving rest

          so_far : Fit t.asks → Turns t u
          so_far first = so.whole first (first_meant h u n meant)

          so_later : Fit t.asks → TalksSo one_later other_later
          so_later first = later rest (so_far first).serving

          meant_later : Fit t.asks → Meant other_later.asks
          meant_later first = (split Should u.asks other_later.asks (subst (λ (n : Next). Meant (go_on h u n).asks) (sym (e first)) meant)).1

          later_stops : StopsFollow (map (behind t.text t.asks) one_later.stops) (go_on h u n).stops
          later_stops =
              placed_behind asks_of Stops (Fit t.asks) (behind t.text t.asks) other_later.stops (go_on h u n).stops one_later.stops (λ s fit. split May t.asks s.asks fit)
              (λ first s k.
              subst (λ (n : Next). OneOf (Stops (behind t.text t.asks s)) (go_on h u n).stops) (e first)
              (one_right (Stops (behind t.text t.asks s)) u.stops (map (behind u.text u.asks) other_later.stops) (stops_behind t.text u.text t.asks u.asks (so_far first).text s other_later.stops k)))
              (λ first. (so_later first).stops (meant_later first))

          later_halts : HaltsFollow (map (behind_halt t.text t.asks) one_later.halts) (go_on h u n).halts
          later_halts =
              placed_behind asks_before Halts (Fit t.asks) (behind_halt t.text t.asks) other_later.halts (go_on h u n).halts one_later.halts (λ s fit. split May t.asks s.asks fit)
              (λ first s k.
              subst (λ (n : Next). OneOf (Halts (behind_halt t.text t.asks s)) (go_on h u n).halts) (e first)
              (one_right (Halts (behind_halt t.text t.asks s)) u.halts (map (behind_halt u.text u.asks) other_later.halts) (halts_behind t.text u.text t.asks u.asks (so_far first).text s other_later.halts k)))
              (λ first. (so_later first).halts (meant_later first))

        go_on_stops : (m n : Next) → (Fit t.asks → m ≡ n) → Meant (go_on h u n).asks → StopsFollow (go_on f t m).stops (go_on h u n).stops
        go_on_stops (goes rest) n e meant =
            all_append (λ (s : Stop S). Fit s.asks → OneOf (Stops s) (go_on h u n).stops) t.stops (map (behind t.text t.asks) (f t.serving rest).stops) (turn_stops n meant) (later_stops rest n e meant)
        go_on_stops closes n e meant = turn_stops n meant
        go_on_stops exceeds n e meant = turn_stops n meant

        go_on_halts : (m n : Next) → (Fit t.asks → m ≡ n) → Meant (go_on h u n).asks → HaltsFollow (go_on f t m).halts (go_on h u n).halts
        go_on_halts (goes rest) n e meant =
            all_append (λ (s : Halt S). Fit s.asks → OneOf (Halts s) (go_on h u n).halts) t.halts (map (behind_halt t.text t.asks) (f t.serving rest).halts) (turn_halts n meant) (later_halts rest n e meant)
        go_on_halts closes n e meant = turn_halts n meant
        go_on_halts exceeds n e meant = turn_halts n meant

      pub talk_alike : (count : ℕ) (p : Serving S) (q : Serving T) (bytes : List ℕ) → Serves p q → TalksSo (talk one buckets g count p bytes) (talk other buckets g count q bytes)
      unfolding talk
      talk_alike zero p q bytes l = record { whole = λ fit meant. record { text = refl; serving = l; is_over = refl }; stops = λ meant. tt; halts = λ meant. tt }
      talk_alike (suc more) p q bytes l =
          let t = turn one buckets g (more == 0) p bytes in
          let u = turn other buckets g (more == 0) q bytes in
          let f = talk one buckets g more in
          let h = talk other buckets g more in
          let so = turn_alike (more == 0) p q bytes l in
          let later : (rest : List ℕ) → Serves t.serving u.serving → TalksSo (f t.serving rest) (h u.serving rest) = λ rest served. talk_alike more t.serving u.serving rest served in
          record {
            whole = λ fit meant.
                let first = first_fit f t t.next fit in
                let second = first_meant h u u.next meant in
                go_on_alike f h t u so later t.next u.next (so.whole first second).next first second fit meant;
            stops = λ meant. go_on_stops f h t u so later t.next u.next (λ first. (so.whole first (first_meant h u u.next meant)).next) meant;
            halts = λ meant. go_on_halts f h t u so later t.next u.next (λ first. (so.whole first (first_meant h u u.next meant)).next) meant;
          }

      -- each job that these connections ask, one after the other, is as it should be, wherever one whose count of faults rose was cut off
      abbrev pub AllMeant : Serving T → List (List ℕ) → List Connection → Type 0
      AllMeant q [] ds = ⊤
      AllMeant q (bytes ∷ more) [] = ⊤
      AllMeant q (bytes ∷ more) (d ∷ ds) =
          Meant (talk other buckets g request_limit q bytes).asks × AllMeant (talk other buckets g request_limit q bytes).serving more ds × (Rose 0 d.faults → AllByRecursion (λ (r : Stop T). AllMeant r.serving more ds) (talk other buckets g request_limit q bytes).stops)

      -- what is written up to a stop is what is written up to one that is alike
      up_to_alike : (d : Connection) (s : Stop S) (r : Stop T) → Stops s r → IsUpTo one buckets g May d s → IsUpTo other buckets g (λ a. ⊤) d r
      up_to_alike d s r a h = (subst (λ (text : List ℕ). IfSome d.written (λ w. IsPrefixOf w text)) a.text h.0, any r.asks)

      -- what one may give in the middle of a get the other may
      gives_alike : (h : Halt S) (k : Halt T) → Halts h k → (x : Given) → gives_asked one h.asking x → gives_asked other k.asking x
      gives_alike h k a x gives =
          let get : Job = carry (order.Get a.bucket a.key) in
          let here : gives_in one h.asking.state k.asking.time get x = subst (λ (n : ℕ). gives_in one h.asking.state n get x) a.time (subst (λ (job : Job). gives_in one h.asking.state h.asking.time job x) a.asked gives) in
          subst (λ (job : Job). gives_in other k.asking.state k.asking.time job x) (sym a.other_asked) (answers.gives h.asking.state k.asking.state k.asking.time a.bucket a.key x a.store here)

      -- what is written in the middle of a get is what is written in the middle of one that is alike
      pub into_alike : (d : Connection) (h : Halt S) (k : Halt T) → Halts h k → IsInto one buckets g May d h → IsInto other buckets g (λ a. ⊤) d k
      into_alike d h k a (x, gives, wrote, fit) = (
        x,
        gives_alike h k a x gives,
        subst (λ (text : List ℕ). IfSome d.written (λ w. IsPrefixOf w (text ++ begun_text k.request (Some x)))) a.text (subst (λ (r : Request). IfSome d.written (λ w. IsPrefixOf w (h.text ++ begun_text r (Some x)))) a.request wrote),
        any k.asks,
      )

      -- connections were served alike
      pub record ServedAlike (q : Serving T) (came rest : List (List ℕ)) (gone ds : List Connection) (s : Serving S) : Type 0 where
        pub serving : Serving T
        pub are_served : AreServed other buckets g (λ a. ⊤) q came gone serving
        pub alike : Serves s serving
        pub meant : AllMeant serving rest ds

      -- and so it is of connections one after the other, with others behind them
      pub served_alike : (rest : List (List ℕ)) (ds : List Connection) (came : List (List ℕ)) (gone : List Connection) (p s : Serving S) (q : Serving T) → Serves p q → AllMeant q (came ++ rest) (gone ++ ds) → AreServed one buckets g May p came gone s → ServedAlike q came rest gone ds s
      served_alike rest ds [] [] p s q l meant served = record { serving = q; are_served = refl; alike = subst (λ (x : Serving S). Serves x q) (sym served) l; meant = meant }
      served_alike rest ds [] (d ∷ gone) p s q l meant served = absurd served
      served_alike rest ds (bytes ∷ came) [] p s q l meant served = absurd served
      served_alike rest ds (bytes ∷ came) (d ∷ gone) p s q l meant (mid, exact over wrote fit none is, later) =
          let k = (talk_alike request_limit p q bytes l).whole fit meant.0 in
          let z = (talk other buckets g request_limit q bytes).serving in
          let more = served_alike rest ds came gone (talk one buckets g request_limit p bytes).serving s z k.serving meant.1 (subst (λ (x : Serving S). AreServed one buckets g May x came gone s) is later) in
          record {
            serving = more.serving;
            are_served = (z, exact (sym k.is_over ∙ over) (subst (λ (text : List ℕ). IfSome d.written (λ w. w ≡ text)) k.text wrote) (any (talk other buckets g request_limit q bytes).asks) none refl, more.are_served);
            alike = more.alike;
            meant = more.meant;
          }
      served_alike rest ds (bytes ∷ came) (d ∷ gone) p s q l meant (mid, part rose stops, later) =
          let t = talk one buckets g request_limit p bytes in
          let u = talk other buckets g request_limit q bytes in
          let at = one_at (λ (x : Stop S). IsUpTo one buckets g May d x × (mid ≡ x.serving)) t.stops stops in
          let k = at_all (λ (x : Stop S). Fit x.asks → OneOf (Stops x) u.stops) t.stops at.0 at.1.0 ((talk_alike request_limit p q bytes l).stops meant.0) at.1.1.0.1 in
          let to = one_at (Stops at.0) u.stops k in
          let more = served_alike rest ds came gone at.0.serving s to.0.serving to.1.1.serving (at_all (λ (x : Stop T). AllMeant x.serving (came ++ rest) (gone ++ ds)) u.stops to.0 to.1.0 (meant.2 rose)) (subst (λ (x : Serving S). AreServed one buckets g May x came gone s) at.1.1.1 later) in
          record {
            serving = more.serving;
            are_served = (to.0.serving, part rose (at_one (λ (x : Stop T). IsUpTo other buckets g (λ a. ⊤) d x × (to.0.serving ≡ x.serving)) u.stops to.0 to.1.0 (up_to_alike d at.0 to.0 to.1.1 at.1.1.0, refl)), more.are_served);
            alike = more.alike;
            meant = more.meant;
          }

      any_cause : (overflows : List (Asking S) → Type 0) (asks : List (Asking S)) (others : List (Asking T)) (e : ServeFault) → GivesUp overflows asks e → GivesUp (λ (x : List (Asking T)). ⊤) others e
      any_cause overflows asks others Kept why = absurd why
      any_cause overflows asks others Number why = tt
      any_cause overflows asks others Memory why = tt

      -- where the client of an upload was lost
      steady_alike : (d : Connection) (stops : List (Stop S)) (others : List (Stop T)) → StopsFollow stops others → WasSteady one buckets g May d stops → WasSteady other buckets g (λ a. ⊤) d others
      steady_alike d stops others follow (inl none) = inl none
      steady_alike d stops others follow (inr (rose, lost)) =
          let at = one_at (λ (x : Stop S). IsUpTo one buckets g May d x × (x.uploads ≡ true)) stops lost in
          let k = at_all (λ (x : Stop S). Fit x.asks → OneOf (Stops x) others) stops at.0 at.1.0 follow at.1.1.0.1 in
          inr (rose, one_weaker (Stops at.0) (λ (x : Stop T). IsUpTo other buckets g (λ a. ⊤) d x × (x.uploads ≡ true)) (λ r a. (up_to_alike d at.0 r a at.1.1.0, sym a.uploads ∙ at.1.1.1)) others k)

      -- and with one more serving ended so
      pub ended_alike : (overflows : List (Asking S) → Type 0) (p : Serving S) (q : Serving T) (bytes : List ℕ) (d : Connection) (e : ServeFault) → Serves p q → Meant (talk other buckets g request_limit q bytes).asks → EndsSo one buckets g May overflows (talk one buckets g request_limit p bytes) d e →
          EndsSo other buckets g (λ a. ⊤) (λ asks. ⊤) (talk other buckets g request_limit q bytes) d e
      ended_alike overflows p q bytes d e l meant (too_many over wrote fit none) =
          let k = (talk_alike request_limit p q bytes l).whole fit meant in
          too_many (sym k.is_over ∙ over) (subst (λ (text : List ℕ). IfSome d.written (λ w. w ≡ text)) k.text wrote) (any (talk other buckets g request_limit q bytes).asks) none
      ended_alike overflows p q bytes d e l meant (begun f why stops steady) =
          let t = talk one buckets g request_limit p bytes in
          let u = talk other buckets g request_limit q bytes in
          let at = one_at (IsUpTo one buckets g May d) t.stops stops in
          let k = at_all (λ (x : Stop S). Fit x.asks → OneOf (Stops x) u.stops) t.stops at.0 at.1.0 ((talk_alike request_limit p q bytes l).stops meant) at.1.1.1 in
          begun f (any_cause overflows t.asks u.asks f why) (one_weaker (Stops at.0) (IsUpTo other buckets g (λ a. ⊤) d) (λ r a. up_to_alike d at.0 r a at.1.1) u.stops k) (steady_alike d t.stops u.stops ((talk_alike request_limit p q bytes l).stops meant) steady)
      ended_alike overflows p q bytes d e l meant (halted f why halts) =
          let t = talk one buckets g request_limit p bytes in
          let u = talk other buckets g request_limit q bytes in
          let at = one_at (IsInto one buckets g May d) t.halts halts in
          let k = at_all (λ (x : Halt S). Fit x.asks → OneOf (Halts x) u.halts) t.halts at.0 at.1.0 ((talk_alike request_limit p q bytes l).halts meant) at.1.1.3 in
          halted f (any_cause overflows t.asks u.asks f why) (one_weaker (Halts at.0) (IsInto other buckets g (λ a. ⊤) d) (λ r a. into_alike d at.0 r a at.1.1) u.halts k)
