-- Requests and messages of the world: what becomes of one, where it is found and where it isn't.
use Rattle.std.proofs.Common.{◌≡◌, ◌<◌, ◌≤◌, ◌^◌, ◌==◌, ℕ, suc, Bool, true, false, not, cond, leb, Option, Some, None, List, [], ◌∷◌, ◌++◌, length, map, reverse, refl, sym, subst, ap, ◌∙◌, append-nil, arith}
use Rattle.std.specs.List.{All}
use Rattle.std.proofs.lemmas.Bool.{and_parts, leb-true, eqb-true, eq-eqb, ne_eqb, not-true, not-false}
use Rattle.std.proofs.lemmas.List.{length-append}
use Rattle.std.proofs.lemmas.List.Elements.{All-weaker}
use Rattle.layout_roles.specs.declared.layout.Layout.{Layout}
use Rattle.layout_roles.specs.declared.cut.Cut.{Cut}
use Rattle.view_model.specs.Layouts.{reading}
use Rattle.view_model.specs.View.{View, newest, last_version, follow, is_gapless}
use Rattle.table_schema.specs.Laws.{Laws}
use Rattle.table_schema.specs.Words.{Words}
use Rattle.wire_messages.specs.declared.phase.Phase.{Phase}
use Rattle.cluster_machine.specs.declared.line.Line.{Line}
use Rattle.cluster_machine.specs.declared.line.Line.TheVariants.{Ended as HasEnded}
use Rattle.cluster_machine.specs.declared.line.EndWord.TheVariants.{Expired, Restarted}
use Rattle.cluster_machine.specs.declared.step.Action.{Action}
use Rattle.cluster_machine.specs.declared.step.Action.TheVariants.{Repair as Mend}
use Rattle.cluster_machine.specs.declared.step.Refusal.{Refusal}
use Rattle.cluster_machine.specs.declared.step.Refusal.TheVariants.{NotMember, NoSuchMessage, Lost as WasLost, NoSuchRequest, AlreadyEnded}
use Rattle.cluster_machine.specs.declared.step.Step.TheVariants.{Lose, Expire, Restart, Open, Phase as Begin, Close, Repair}
use Rattle.cluster_machine.specs.declared.step.Words.TheVariants.{Empty, One}
use Rattle.cluster_machine.specs.Layouts.{is_member, layouts}
use Rattle.cluster_machine.specs.Node.{Node}
use Rattle.cluster_machine.specs.Phases.{closed, opened}
use Rattle.cluster_machine.specs.Acts.{restarts}
use Rattle.cluster_machine.specs.World.{Sent, Mark, Request, numbered}
use Rattle.cluster_machine.specs.Step.{only, nothing, refusal, at_message, expires, closing, restarted, beginning, requests_of, marked, shut, changed, applied}
use Rattle.node_parts.specs.declared.packet.Envelope.{Envelope}
use Rattle.cluster_machine.specs.declared.applied.Applied.{Applied}
use Rattle.cluster_machine.specs.Trio.{trio, stage_trio}
use Rattle.cluster_machine.specs.Worlds.{Model, Done, does}
use Rattle.world_core.specs.declared.nodes.Nodes.{Nodes}
use Rattle.world_core.specs.declared.post.Post.{Post}
use Rattle.world_core.specs.declared.report.Report.{Report}
use Rattle.world_core.specs.declared.requests.Request.{Request as Asked}
use Rattle.world_core.specs.declared.world.World.{World}
use Rattle.world_core.specs.Parts.{IsPost, IsFound, IsMissing, asked}
use Rattle.world_core.specs.Nodes.{AreNodes, BecomesAt, Opens}
use Rattle.world_core.specs.Stands.{StandsFor, Tells, DoesSo, acts_so, local_so, plainly, nothing_given}
use Rattle.world_core.proofs.WorldsStand.{refused_report, told_report, is_told, whole_after, stands_of, same_post, same_clocks, same_applied, same_requests, same_few, plays_nothing, plays_refusal, IsWhole, whole_of}
use Rattle.world_core.proofs.WorldsDoing.{at_found}
use Rattle.cluster_machine.proofs.Closing.{length_shut}

-- the last version is none of those before
not_below : (before : ℕ) (ls : List Layout) → follow reading before ls ≡ true → before ≤ last_version reading before ls
not_below before [] f = omega arith
not_below before (l ∷ ls) f =
    let parts = and_parts (l.version == suc before) (follow reading l.version ls) f in
    let next = eqb-true l.version (suc before) parts.0 in
    let rest = not_below l.version ls parts.1 in
    omega arith

none_stored : (ls : List Layout) → is_gapless reading ls ≡ true → last_version reading 0 ls ≡ 0 → ls ≡ []
none_stored [] g e = refl
none_stored (l ∷ ls) g e =
    let parts = and_parts (leb 1 l.version) (follow reading l.version ls) g in
    let first = leb-true 1 l.version parts.0 in
    let rest = not_below l.version ls parts.1 in
    absurd (omega arith)

-- who knows no version is no member
no_member : (v : View Layout) (n : ℕ) → is_gapless reading v.layouts ≡ true → newest reading v ≡ 0 → is_member layouts v n ≡ false
no_member v n g e = ap (λ ls. is_member layouts (record v { layouts = ls }) n) (none_stored v.layouts g e)

module _ {R : Type 0} where
  not_there : (w : Model R) (number : ℕ) (why : Refusal Cut) → IsMissing number w.messages w.marks why → (f : Sent R Layout → Done R) → at_message w f (numbered w.messages number) (numbered w.marks number) ≡ refusal w why
  not_there w number NoSuchMessage none f = ap (λ o. at_message w f o (numbered w.marks number)) none
  not_there w number WasLost lost f = (λ i. at_message w f (lost.is_there i) (lost.is_marked i)) ∙ ap (λ b. cond b (refusal w WasLost) (f lost.message)) lost.lost
  not_there w number _ none f = absurd none

module _ {S R : Type 0} (join : R → R → R) (s : Words R) where
  module _ (old : World S R) (w : Model R) (number : ℕ) (h : StandsFor join s old w) where
    there : (r : Option Request) → r ≡ numbered old.requests number → numbered w.requests number ≡ r
    there r is = sym (is ∙ ap (λ rs. numbered rs number) h.requests)

    module _ (found : Asked) (is : Some (asked found) ≡ numbered old.requests number) where
      -- an open request, and one that has ended
      pub open_there : not found.is_open ≡ false → numbered w.requests number ≡ Some (record { coordinator = found.coordinator; is_open = true })
      open_there open' = there (Some (asked found)) is ∙ ap (λ b. Some (record { coordinator = found.coordinator; is_open = b })) (not-false found.is_open open')

      ended_there : not found.is_open ≡ true → numbered w.requests number ≡ Some (record { coordinator = found.coordinator; is_open = false })
      ended_there over = there (Some (asked found)) is ∙ ap (λ b. Some (record { coordinator = found.coordinator; is_open = b })) (not-true found.is_open over)

  -- ---- phases of requests that aren't open

  module _ (old : World S R) (w : Model R) (number : ℕ) (phase : Phase R) (h : StandsFor join s old w) where
    pub begins_none : None ≡ numbered old.requests number → (report : Report R) → report ≡ told_report Empty [] → DoesSo join s old report w (does join s w (plainly (Begin number phase)))
    begins_none is report told = subst (DoesSo join s old report w) (sym (ap (beginning join s layouts trio stage_trio w number phase) (there old w number h None is))) (plays_nothing join s old w h report told)

    pub begins_nothing : (found : Asked) → Some (asked found) ≡ numbered old.requests number → not found.is_open ≡ true → (report : Report R) → report ≡ told_report Empty [] → DoesSo join s old report w (does join s w (plainly (Begin number phase)))
    begins_nothing found is over report told =
        subst (DoesSo join s old report w) (sym (ap (beginning join s layouts trio stage_trio w number phase) (ended_there old w number h found is over))) (plays_nothing join s old w h report told)

  -- ---- a message that isn't there

  pub plays_missing : (old : World S R) (w : Model R) (number : ℕ) (why : Refusal Cut) (h : StandsFor join s old w) → IsMissing number w.messages w.marks why → (f : Sent R Layout → Done R) (report : Report R) → report ≡ refused_report why →
      DoesSo join s old report w (at_message w f (numbered w.messages number) (numbered w.marks number))
  plays_missing old w number why h missing f report is = subst (DoesSo join s old report w) (sym (not_there w number why missing f)) (plays_refusal join s old w h report why is)

  pub loses : (laws : Laws join s) (old : World S R) (w : Model R) (number : ℕ) (envelope : Envelope R) (post : Post R) (h : StandsFor join s old w) (found : IsFound number w.messages w.marks envelope) →
      IsPost s post w.messages (marked w.marks (Some (number, record { is_delivered = false; is_lost = true }))) → (report : Report R) → report ≡ told_report Empty [] →
      DoesSo join s (record old { post = post }) report w (does join s w (plainly (Lose number)))
  loses laws old w number envelope post h found lost report is =
      let mark : Mark = record { is_delivered = false; is_lost = true } in
      let e : Done R = record (nothing w) { marks = Some (number, mark) } in
      let same : does join s w (plainly (Lose number)) ≡ e = at_found join s old w number envelope h found (λ sent. e) in
      let ms = marked w.marks (Some (number, mark)) in
      subst (DoesSo join s (record old { post = post }) report w) (sym same) (record {
        stands = stands_of join s (record old { post = post }) (applied w e) (record {
          nodes = h.nodes;
          post = subst (λ xs. IsPost s post xs (ms ++ [])) (sym (append-nil w.messages)) (subst (IsPost s post w.messages) (sym (append-nil ms)) lost);
          clocks = same_clocks join s old w h;
          roles = h.roles;
          redundancy = h.redundancy;
          wanted = h.wanted;
          applied = same_applied join s old w h;
          requests = same_requests join s old w h;
          few = same_few join s old w h;
          whole = subst (λ e. IsWhole join s (applied w e)) same (whole_after join s laws w (Lose number) nothing_given (whole_of h) tt tt (ap (λ e. e.is_spelled) same));
        });
        tells = is_told report Empty [] e is refl refl refl refl refl;
        spelled = refl;
      })

  -- ---- nodes and requests change

  -- nothing is sent, and these requests are shut and opened
  turned : (old : World S R) (w : Model R) (nodes : Nodes S R) (requests : List Request) (f : ℕ → Option (Node R Layout)) (closes : List ℕ) (opens : List Request) → StandsFor join s old w → AreNodes join s nodes (changed f w.nodes) →
      requests ≡ shut w.requests closes ++ opens → length (shut w.requests closes ++ opens) < 2 ^ 64 → IsWhole join s (applied w (record (nothing {A = Applied} {C = Cut} w) { nodes = f; closes = closes; opens = opens })) →
      StandsFor join s (record old { nodes = nodes; requests = requests }) (applied w (record (nothing {A = Applied} {C = Cut} w) { nodes = f; closes = closes; opens = opens }))
  turned old w nodes requests f closes opens h are now few sound = stands_of join s (record old { nodes = nodes; requests = requests }) _ (record {
    nodes = are;
    post = same_post join s old w h;
    clocks = same_clocks join s old w h;
    roles = h.roles;
    redundancy = h.redundancy;
    wanted = h.wanted;
    applied = same_applied join s old w h;
    requests = now;
    few = few;
    whole = sound;
  })

  -- requests are shut, and none is opened
  shuts : (old : World S R) (w : Model R) (nodes : Nodes S R) (requests : List Request) (n : ℕ) (x : Node R Layout) (closes : List ℕ) → StandsFor join s old w → AreNodes join s nodes (changed (only n x) w.nodes) →
      requests ≡ shut old.requests closes → IsWhole join s (applied w (record (nothing {A = Applied} {C = Cut} w) { nodes = only n x; closes = closes })) →
      StandsFor join s (record old { nodes = nodes; requests = requests }) (applied w (record (nothing {A = Applied} {C = Cut} w) { nodes = only n x; closes = closes }))
  shuts old w nodes requests n x closes h are now sound =
      let few : length (shut w.requests closes ++ []) < 2 ^ 64 = subst (λ k. k < 2 ^ 64) (sym (ap length (append-nil (shut w.requests closes)) ∙ length_shut w.requests closes)) h.fits.requests in
      turned old w nodes requests (only n x) closes [] h are (now ∙ (ap (λ rs. shut rs closes) h.requests ∙ sym (append-nil (shut w.requests closes)))) few sound

  module _ (old : World S R) (w : Model R) (number : ℕ) (h : StandsFor join s old w) where
    pub expires_none : None ≡ numbered old.requests number → (report : Report R) → report ≡ refused_report NoSuchRequest → DoesSo join s old report w (does join s w (plainly (Expire number)))
    expires_none is report told = subst (DoesSo join s old report w) (sym (ap (expires w number) (there old w number h None is))) (plays_refusal join s old w h report NoSuchRequest told)

    pub closes_none : None ≡ numbered old.requests number → (report : Report R) → report ≡ told_report Empty [] → DoesSo join s old report w (does join s w (plainly (Close number)))
    closes_none is report told = subst (DoesSo join s old report w) (sym (ap (closing w number) (there old w number h None is))) (plays_nothing join s old w h report told)

    module _ (found : Asked) (is : Some (asked found) ≡ numbered old.requests number) where
      pub expires_ended : not found.is_open ≡ true → (report : Report R) → report ≡ refused_report AlreadyEnded → DoesSo join s old report w (does join s w (plainly (Expire number)))
      expires_ended over report told = subst (DoesSo join s old report w) (sym (ap (expires w number) (ended_there old w number h found is over))) (plays_refusal join s old w h report AlreadyEnded told)

      pub closes_ended : not found.is_open ≡ true → (report : Report R) → report ≡ told_report Empty [] → DoesSo join s old report w (does join s w (plainly (Close number)))
      closes_ended over report told = subst (DoesSo join s old report w) (sym (ap (closing w number) (ended_there old w number h found is over))) (plays_nothing join s old w h report told)

      module _ (laws : Laws join s) (nodes : Nodes S R) (requests : List Request) (open' : not found.is_open ≡ false) (becomes : BecomesAt join s old.nodes nodes found.coordinator (λ x. closed number x)) (now : requests ≡ shut old.requests (number ∷ [])) where
        pub expires_open : (empty lines : List (Line Applied)) (report : Report R) → empty ≡ [] → lines ≡ empty ++ HasEnded number Expired ∷ [] → report ≡ told_report Empty lines →
            DoesSo join s (record old { nodes = nodes; requests = requests }) report w (does join s w (plainly (Expire number)))
        expires_open empty lines report none told is_report =
            let x = closed number (w.nodes found.coordinator) in
            let e : Done R = record (nothing w) { nodes = only found.coordinator x; closes = number ∷ []; tells = HasEnded number Expired ∷ [] } in
            let same : does join s w (plainly (Expire number)) ≡ e = ap (expires w number) (open_there old w number h found is open') in
            subst (DoesSo join s (record old { nodes = nodes; requests = requests }) report w) (sym same) (record {
              stands = shuts old w nodes requests found.coordinator x (number ∷ []) h (becomes w.nodes h.nodes) now (subst (λ e. IsWhole join s (applied w e)) same (whole_after join s laws w (Expire number) nothing_given (whole_of h) tt tt (ap (λ e. e.is_spelled) same)));
              tells = is_told report Empty lines e is_report refl refl (told ∙ ap (λ ls. ls ++ HasEnded number Expired ∷ []) none) refl refl;
              spelled = refl;
            })

        pub closes_open : (report : Report R) → report ≡ told_report Empty [] → DoesSo join s (record old { nodes = nodes; requests = requests }) report w (does join s w (plainly (Close number)))
        closes_open report is_report =
            let x = closed number (w.nodes found.coordinator) in
            let e : Done R = record (nothing w) { nodes = only found.coordinator x; closes = number ∷ [] } in
            let same : does join s w (plainly (Close number)) ≡ e = ap (closing w number) (open_there old w number h found is open') in
            subst (DoesSo join s (record old { nodes = nodes; requests = requests }) report w) (sym same) (record {
              stands = shuts old w nodes requests found.coordinator x (number ∷ []) h (becomes w.nodes h.nodes) now (subst (λ e. IsWhole join s (applied w e)) same (whole_after join s laws w (Close number) nothing_given (whole_of h) tt tt (ap (λ e. e.is_spelled) same)));
              tells = is_told report Empty [] e is_report refl refl refl refl refl;
              spelled = refl;
            })

  -- `a`, `b` and `d` are what the code calls lost
  pub restarts_it : (laws : Laws join s) (old : World S R) (w : Model R) (n : ℕ) (nodes : Nodes S R) (requests : List Request) (lost a b d : List ℕ) (lines : List (Line Applied)) (plain : Report R) (h : StandsFor join s old w) → BecomesAt join s old.nodes nodes n (λ x. restarts x) →
      lost ≡ reverse (requests_of (w.nodes n).calls) → a ≡ lost → b ≡ lost → d ≡ lost → requests ≡ shut old.requests a → lines ≡ map (λ q. HasEnded q Restarted) b → plain ≡ told_report Empty lines →
      DoesSo join s (record old { nodes = nodes; requests = requests }) (record plain { lost = d }) w (does join s w (plainly (Restart n)))
  restarts_it laws old w n nodes requests lost a b d lines plain h becomes are is_a is_b is_d now told is =
      let all = reverse (requests_of (w.nodes n).calls) in
      record {
        stands = shuts old w nodes requests n (restarts (w.nodes n)) all h (becomes w.nodes h.nodes) (now ∙ ap (shut old.requests) (is_a ∙ are)) (whole_after join s laws w (Restart n) nothing_given (whole_of h) tt tt refl);
        tells = subst (λ r. Tells (record r { lost = d }) (restarted w n)) (sym is) (record { refused = refl; words = refl; lines = told ∙ ap (map (λ q. HasEnded q Restarted)) (is_b ∙ are); ends = refl; lost = is_d ∙ are });
        spelled = refl;
      }

  -- ---- a request begins

  module _ (old : World S R) (w : Model R) (n : ℕ) (member : Bool) (h : StandsFor join s old w) (is_so : member ≡ is_member layouts (w.nodes n).view n) where
    abbrev opens_now : Done R
    opens_now =
        let q = suc (length w.requests) in
        record (nothing w) { words = One q; nodes = only n (opened q (newest reading (w.nodes n).view) (w.nodes n)); opens = record { coordinator = n; is_open = true } ∷ [] }

    opening_is : (b : Bool) → member ≡ b → does join s w (plainly (Open n)) ≡ cond b opens_now (refusal w NotMember)
    opening_is b is = ap (λ b. cond b opens_now (refusal w NotMember)) (sym is_so ∙ is)

    pub opens_refused : member ≡ false → (report : Report R) → report ≡ refused_report NotMember → DoesSo join s old report w (does join s w (plainly (Open n)))
    opens_refused other report told = subst (DoesSo join s old report w) (sym (opening_is false other)) (plays_refusal join s old w h report NotMember told)

    begun_there : (nodes : Nodes S R) (number : ℕ) (b : Bool) → is_member layouts (w.nodes n).view n ≡ true → Opens join s nodes n number w.nodes b → AreNodes join s nodes (changed (only n (opened number (newest reading (w.nodes n).view) (w.nodes n))) w.nodes)
    begun_there nodes number true is opens = opens.1
    begun_there nodes number false is opens = let other = opens.0 in cc

    pub opens_it : (laws : Laws join s) (nodes : Nodes S R) (requests : List Request) (number : ℕ) (b : Bool) (empty : List (Line Applied)) (report : Report R) → member ≡ true →
        ((xs : ℕ → Node R Layout) → AreNodes join s old.nodes xs → All (λ c. c.request < number) (xs n).calls → Opens join s nodes n number xs b) →
        number ≡ suc (length old.requests) → number < 2 ^ 64 → requests ≡ old.requests ++ record { coordinator = n; is_open = true } ∷ [] → empty ≡ [] → report ≡ told_report (One number) empty →
        DoesSo join s (record old { nodes = nodes; requests = requests }) report w (does join s w (plainly (Open n)))
    opens_it laws nodes requests number b empty report one_is opens next small now none told =
        let member_there : is_member layouts (w.nodes n).view n ≡ true = sym is_so ∙ one_is in
        let q = suc (length w.requests) in
        let is_q : number ≡ q = next ∙ ap (λ rs. suc (length rs)) h.requests in
        let one : List Request = record { coordinator = n; is_open = true } ∷ [] in
        let x = opened q (newest reading (w.nodes n).view) (w.nodes n) in
        let same : does join s w (plainly (Open n)) ≡ opens_now = opening_is true one_is in
        let below : All (λ c. c.request < number) (w.nodes n).calls = All-weaker (λ c. c.request ≤ length w.requests) (λ c. c.request < number) (λ c low. omega (arith, is_q)) (w.nodes n).calls (h.sound.requests n) in
        let are : AreNodes join s nodes (changed (only n x) w.nodes) =
        subst (λ k. AreNodes join s nodes (changed (only n (opened k (newest reading (w.nodes n).view) (w.nodes n))) w.nodes)) is_q (begun_there nodes number b member_there (opens w.nodes h.nodes below)) in
        let few : length (w.requests ++ one) < 2 ^ 64 = omega (arith, length-append w.requests one, is_q, small) in
        subst (DoesSo join s (record old { nodes = nodes; requests = requests }) report w) (sym same) (record {
          stands = turned old w nodes requests (only n x) [] one h are (now ∙ ap (λ rs. rs ++ one) h.requests) few (subst (λ e. IsWhole join s (applied w e)) same (whole_after join s laws w (Open n) nothing_given (whole_of h) tt tt (ap (λ e. e.is_spelled) same)));
          tells = is_told report (One number) empty opens_now told refl (ap One is_q) none refl refl;
          spelled = refl;
        })

  -- ---- who may act

  module _ (old : World S R) (w : Model R) (n known : ℕ) (h : StandsFor join s old w) (is_known : known ≡ newest reading (w.nodes n).view) where
    pub local_refused : (action : Action) → known ≡ 0 → (report : Report R) → report ≡ refused_report NotMember → DoesSo join s old report w (local_so join s n action w)
    local_refused action zero' report told =
        let same : local_so join s n action w ≡ refusal w NotMember = (λ i. cond (sym is_known i == 0) (refusal w NotMember) (acts_so join s n action w)) ∙ ap (λ b. cond b (refusal w NotMember) (acts_so join s n action w)) (eq-eqb known 0 zero') in
        subst (DoesSo join s old report w) (sym same) (plays_refusal join s old w h report NotMember told)

    pub local_acts : (new : World S R) (action : Action) → (known ≡ 0 → ⊥) → (report : Report R) → DoesSo join s new report w (acts_so join s n action w) → DoesSo join s new report w (local_so join s n action w)
    local_acts new action more report acts =
        let same : local_so join s n action w ≡ acts_so join s n action w = (λ i. cond (sym is_known i == 0) (refusal w NotMember) (acts_so join s n action w)) ∙ ap (λ b. cond b (refusal w NotMember) (acts_so join s n action w)) (ne_eqb known 0 more) in
        subst (DoesSo join s new report w) (sym same) acts

    pub no_member_yet : known ≡ 0 → is_member layouts (w.nodes n).view n ≡ false
    no_member_yet zero' = no_member (w.nodes n).view n (h.sound.gapless n) (sym is_known ∙ zero')

  pub repairs_refused : (old : World S R) (w : Model R) (n : ℕ) (h : StandsFor join s old w) → is_member layouts (w.nodes n).view n ≡ false → (report : Report R) → report ≡ refused_report NotMember → DoesSo join s old report w (does join s w (plainly (Repair n)))
  repairs_refused old w n h other report told =
      let same : does join s w (plainly (Repair n)) ≡ refusal w NotMember = ap (λ b. cond (not b) (refusal w NotMember) (acts_so join s n Mend w)) other in
      subst (DoesSo join s old report w) (sym same) (plays_refusal join s old w h report NotMember told)

  pub repairs_it : (new : World S R) (w : Model R) (n : ℕ) → is_member layouts (w.nodes n).view n ≡ true → (report : Report R) → DoesSo join s new report w (acts_so join s n Mend w) → DoesSo join s new report w (does join s w (plainly (Repair n)))
  repairs_it new w n one_is report acts =
      let same : does join s w (plainly (Repair n)) ≡ acts_so join s n Mend w = ap (λ b. cond (not b) (refusal w NotMember) (acts_so join s n Mend w)) one_is in
      subst (DoesSo join s new report w) (sym same) acts
