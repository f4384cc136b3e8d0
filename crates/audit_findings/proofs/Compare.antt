-- Two lists of turns of the same events, given the same prints: one goes on where the other ends, or both come to a layout of one size, for which none is printed.
use Rattle.std.proofs.Common.{◌≡◌, ℕ, List, [], ◌∷◌, ◌++◌, refl, sym, ap, subst, ◌∙◌, append_assoc}
use Rattle.store_model.specs.declared.event.Event.TheVariants.{Apply}
use Rattle.store_model.specs.declared.event.Numbered.{Numbered}
use Rattle.store_model.specs.Run.{State}
use Rattle.store_model.specs.Events.{Turn, outcome_of, after, events_of, run}
use Rattle.text_model.specs.Played.{AllGoOn}
use Rattle.text_model.specs.Transcript.{event_text, turns_text}
use Rattle.audit_model.specs.Printed.{Print, print_at}
use Rattle.audit_model.specs.Audit.{AreGiven}
use Rattle.audit_findings.proofs.Meets.{PrintsFix, OneAnswer, IsUnfit, head_text, Split, Meet, one, split, meet_turns}

-- the others go on where these end
pub record Leads (s : State) (ts us : List Turn) : Type 0 where
  pub rest : List Turn
  pub text : turns_text s us ≡ turns_text s ts ++ turns_text (run s ts) rest
  pub state : run s us ≡ run (run s ts) rest
  pub events_are : events_of us ≡ events_of ts ++ events_of rest
  pub go_on : AllGoOn (run s ts) rest

module _ (ps : List Print) where
  -- both have the same first turns, and then an apply that comes to a layout of one size, for which none is printed
  pub record Fork (s : State) (ts us : List Turn) : Type 0 where
    pub before : List Turn
    pub next : Turn
    pub rest : List Turn
    pub ts_are : ts ≡ before ++ next ∷ rest
    pub node : ℕ
    pub is_apply : next.numbered.event ≡ Apply node
    pub version : ℕ
    pub size : ℕ
    pub rest_a : List ℕ
    pub rest_b : List ℕ
    pub a_is : turns_text s ts ≡ (turns_text s before ++ head_text next.numbered version size) ++ rest_a
    pub b_is : turns_text s us ≡ (turns_text s before ++ head_text next.numbered version size) ++ rest_b
    pub unfit : IsUnfit (run s before) (print_at ps next.numbered.line)

  pub data Meeting (s : State) (ts us : List Turn) : Type 0 where
    leads : Leads s ts us → Meeting s ts us
    lags : Leads s us ts → Meeting s ts us
    forks : Fork s ts us → Meeting s ts us

  -- after one turn more before both
  module _ (s : State) (t u : Turn) (ts us : List Turn) (first : t.numbered ≡ u.numbered) where
    abbrev here : List ℕ
    here = event_text t.numbered (outcome_of s t)

    module _ (state : after s t ≡ after s u) (text : here ≡ event_text u.numbered (outcome_of s u)) where
      text_moved : turns_text s (u ∷ us) ≡ here ++ turns_text (after s t) us
      text_moved = λ i. sym text i ++ turns_text (sym state i) us

      state_moved : run s (u ∷ us) ≡ run (after s t) us
      state_moved = ap (λ (x : State). run x us) (sym state)

      onward : Meeting (after s t) ts us → Meeting s (t ∷ ts) (u ∷ us)
      onward (leads l) =
          leads (record {
            rest = l.rest;
            text = text_moved ∙ (ap (λ x. here ++ x) l.text ∙ sym (append_assoc here (turns_text (after s t) ts) (turns_text (run (after s t) ts) l.rest)));
            state = state_moved ∙ l.state;
            events_are = λ i. sym first i ∷ l.events_are i;
            go_on = l.go_on;
          })
      onward (lags l) =
          lags (record {
            rest = l.rest;
            text = ap (λ x. here ++ x) l.text ∙ (sym (append_assoc here (turns_text (after s t) us) (turns_text (run (after s t) us) l.rest)) ∙ (λ i. sym text_moved i ++ turns_text (sym state_moved i) l.rest));
            state = l.state ∙ ap (λ (x : State). run x l.rest) (sym state_moved);
            events_are = λ i. first i ∷ l.events_are i;
            go_on = subst (λ (x : State). AllGoOn x l.rest) (sym state_moved) l.go_on;
          })
      onward (forks p) =
          let head : List ℕ = head_text p.next.numbered p.version p.size in
          forks (record {
            before = t ∷ p.before;
            next = p.next;
            rest = p.rest;
            ts_are = ap (λ x. t ∷ x) p.ts_are;
            node = p.node;
            is_apply = p.is_apply;
            version = p.version;
            size = p.size;
            rest_a = p.rest_a;
            rest_b = p.rest_b;
            a_is = ap (λ x. here ++ x) p.a_is ∙ regrouped (turns_text (after s t) p.before) head p.rest_a;
            b_is = text_moved ∙ (ap (λ x. here ++ x) p.b_is ∙ regrouped (turns_text (after s t) p.before) head p.rest_b);
            unfit = p.unfit;
          })
        where
          regrouped : (before head rest : List ℕ) → here ++ ((before ++ head) ++ rest) ≡ ((here ++ before) ++ head) ++ rest
          regrouped before head rest = sym (append_assoc here (before ++ head) rest) ∙ ap (λ x. x ++ rest) (sym (append_assoc here before head))

    -- what parts them in their first turns parts them
    parted : Split ps s t here (event_text u.numbered (outcome_of s u)) → Fork s (t ∷ ts) (u ∷ us)
    parted p = record {
      before = [];
      next = t;
      rest = ts;
      ts_are = refl;
      node = p.node;
      is_apply = p.is_apply;
      version = p.version;
      size = p.size;
      rest_a = p.rest_a ++ turns_text (after s t) ts;
      rest_b = p.rest_b ++ turns_text (after s u) us;
      a_is = ap (λ x. x ++ turns_text (after s t) ts) p.a_is ∙ append_assoc (head_text t.numbered p.version p.size) p.rest_a (turns_text (after s t) ts);
      b_is = ap (λ x. x ++ turns_text (after s u) us) p.b_is ∙ append_assoc (head_text t.numbered p.version p.size) p.rest_b (turns_text (after s u) us);
      unfit = p.unfit;
    }

module _ (fix : PrintsFix) (answer : OneAnswer) (ps : List Print) where
  pub compare : (s : State) (ts us : List Turn) (xs ys : List Numbered) → events_of ts ++ xs ≡ events_of us ++ ys → AreGiven ps s ts → AreGiven ps s us → AllGoOn s ts → AllGoOn s us → Meeting ps s ts us
  compare s [] us xs ys same g h on_t on_u = leads (record { rest = us; text = refl; state = refl; events_are = refl; go_on = on_u })
  compare s (t ∷ ts) [] xs ys same g h on_t on_u = lags (record { rest = t ∷ ts; text = refl; state = refl; events_are = refl; go_on = on_t })
  compare s (t ∷ ts) (u ∷ us) xs ys same g h on_t on_u =
      let first : t.numbered ≡ u.numbered = cc in
      let later : events_of ts ++ xs ≡ events_of us ++ ys = cc in
      of_meet first (meet_turns fix answer ps s t u first g.0 h.0)
      (λ state. compare (after s t) ts us xs ys later g.1 (subst (λ (x : State). AreGiven ps x us) (sym state) h.1) on_t.1 (subst (λ (x : State). AllGoOn x us) (sym state) on_u.1))
    where
      of_meet : t.numbered ≡ u.numbered → Meet ps s t u → (after s t ≡ after s u → Meeting ps (after s t) ts us) → Meeting ps s (t ∷ ts) (u ∷ us)
      of_meet first (one state text) more = onward ps s t u ts us first state text (more state)
      of_meet first (split p) more = forks (parted ps s t u ts us first p)
