-- The laws, of every world that steps lead to.
use Rattle.std.proofs.Common.{◌≡◌, ℕ, pred, ◌<◌, ◌≤◌, List, [], ◌∷◌, Option, Some, None, slice_get, sym, ◌∙◌, subst, refl}
use Rattle.std.specs.Option.{option_and_then}
use Rattle.view_model.specs.View.{Reading, View, layout_at}
use Rattle.control_model.specs.World.{World, empty, view_of, layout_of}
use Rattle.control_model.specs.Steps.{Step, change, step, run}
use Rattle.crdt_core.specs.Members.{Has}
use Rattle.control_model.specs.Facts.{Stores, Greatest, Rises, Moves, Travels, Safe, read_of}
use Rattle.control_model.specs.Reached.{IsReached}
use Rattle.version_laws.proofs.Tests.{all_has, has_left, has_right, has_at, none_is_not}
use Rattle.version_laws.proofs.OneView.{read_low, read_high, read_below}
use Rattle.version_laws.proofs.WholeViews.{IsView, IsMessage, IsWhole, same_layout}
use Rattle.version_laws.proofs.WholeSteps.{whole_change, step_whole, step_grows, empty_whole}
use Rattle.version_laws.proofs.Paced.{IsPaced, start_real}
use Rattle.version_laws.proofs.PacedSteps.{paced_change, step_paced, empty_paced}
use Rattle.version_laws.proofs.Recent.{IsRecent, member_recent, step_recent, empty_recent}
use Rattle.version_laws.proofs.Greatest.{step_greatest, empty_greatest}
use Rattle.version_laws.proofs.Opens.{AllOpen, all_open, empty_open, open_round}
use Rattle.version_laws.proofs.Rise.{by_one, two_completed}

module _ {L : Type 0} (R : Reading L) (parts : ℕ) where
  pub record IsSound (w : World L) : Type 0 where
    pub whole : IsWhole R parts w
    pub paced : IsPaced R w
    pub recent : IsRecent R w
    pub open_ones : AllOpen R w
    pub greatest : Greatest R w

  step_sound : 1 ≤ parts → (w : World L) (e : Step L) → IsSound w → IsSound (step R parts w e)
  step_sound some w e s = record {
    whole = step_whole R parts w e s.whole;
    paced = step_paced R parts some w e s.whole s.paced;
    recent = step_recent R parts some w e s.whole s.paced s.recent;
    open_ones = all_open R parts some w s.whole s.paced s.open_ones e;
    greatest = step_greatest R parts w e s.whole s.greatest;
  }

  run_sound : 1 ≤ parts → (steps : List (Step L)) (w : World L) → IsSound w → IsSound (run R parts w steps)
  run_sound some [] w s = s
  run_sound some (e ∷ es) w s = run_sound some es (step R parts w e) (step_sound some w e s)

  empty_sound : IsSound empty
  empty_sound = record { whole = empty_whole R parts; paced = empty_paced R; recent = empty_recent R; open_ones = empty_open R; greatest = empty_greatest R }

  pub sound : (w : World L) → IsReached R parts w → IsSound w
  sound w h = subst IsSound (sym h.1.1) (run_sound h.0 h.1.0 empty empty_sound)

  pub safe_at : (w : World L) → IsReached R parts w → Safe R parts w
  safe_at w h =
      let s = sound w h in
      let a = s.whole in
      let p = s.paced in
      record {
        gapless = λ n. (a.views n).gapless;
        stored = λ n. read_low R (view_of w n) (a.views n).gapless;
        known = λ n. read_high R (view_of w n);
        applied = λ n. (a.views n).under;
        layouts = λ n. (a.views n).agrees;
        lawful = a.lawful;
        own = λ n. (a.views n).known;
        acks = a.acks;
        syncacks = a.syncacks;
        passed = p.passed;
        behind = p.behind;
        requests = λ n q has.
            (let one = p.requests n q has in
            record {
              member = one.member;
              real = start_real R parts w a (w.nodes n) n q one;
              known = one.within;
              acked = one.acked;
              least = one.least;
              late = λ t began. (p.rounds t began).late n q has;
              recent = s.recent.asked n q has;
            });
        members = λ n mem. member_recent R w s.recent n mem;
        rounds = λ t began. (let one = p.rounds t began in record { reached = one.reached; known = one.under; on = one.on });
        open_rounds = open_round R w s.open_ones;
        completed = p.done;
        greatest = s.greatest;
      }

  -- a set of a version comes from its layout
  set_of : (o : Option L) (p : ℕ) (set : List ℕ) → option_and_then (λ l. slice_get (R.sets l) p) o ≡ Some set → (l : L) × (o ≡ Some l) × Has (R.sets l) set
  set_of None p set e = absurd (none_is_not set e)
  set_of (Some l) p set e = (l, refl, has_at (R.sets l) p set e)

  pub moves_at : (w : World L) (e : Step L) → IsReached R parts w → Moves R w (step R parts w e)
  moves_at w e h =
      let s = sound w h in
      let a = s.whole in
      let c = change R parts w e in
      let hc = whole_change R parts w e a in
      let pc = paced_change R parts h.0 w e a s.paced hc in
      let g = step_grows R parts w e a in
      let new = step_whole R parts w e a in
      record {
        views = g.views;
        reads = λ n. read_below R (view_of w n) (view_of (step R parts w e) n) (a.views n).gapless (new.views n).gapless (g.views n);
        top = g.top;
        layouts = same_layout R parts w (step R parts w e) g;
        sent = λ v has. has_left w.sent c.sends v has;
        began = λ t has. has_right c.begins w.began t has;
        completed = λ t has. has_right c.completes w.completed t has;
        rises = λ n real all. record {
          by_one = by_one R parts h.0 w c a hc s.paced pc n real all;
          two = λ p set at.
              (let l = set_of (layout_of (step R parts w e) (pred (read_of R (step R parts w e) n))) p set at in
              two_completed R parts h.0 w c a hc s.paced pc n real all l.0 l.1 set l.2);
        };
      }

  travels_view : (w : World L) (v : View L) → IsView R parts w v → Travels R w v
  travels_view w v h = record { gapless = h.gapless; under = h.under; layouts = h.agrees; since = h.since; before = h.before; own = h.known }

  pub travels_node : (w : World L) (n : ℕ) → IsReached R parts w → Travels R w (view_of w n)
  travels_node w n h = travels_view w (view_of w n) ((sound w h).whole.views n)

  pub travels_message : (w : World L) (v : View L) → IsReached R parts w → Has w.sent v → Travels R w v
  travels_message w v h has = travels_view w v (all_has (IsMessage R parts w) w.sent v (sound w h).whole.sent has).0

  pub rises_at : (w : World L) (e : Step L) → IsReached R parts w → (v n : ℕ) → 2 ≤ v → read_of R (step R parts w e) n ≡ v → ((m : ℕ) → read_of R w m < v) → Rises R w (step R parts w e) v
  rises_at w e h v n real is all =
      subst (λ v. 2 ≤ v → ((m : ℕ) → read_of R w m < v) → Rises R w (step R parts w e) v) is ((moves_at w e h).rises n) real all

  pub same_layouts : (w : World L) → IsReached R parts w → (m n i : ℕ) → Stores R w m i → Stores R w n i → layout_at R (view_of w m) i ≡ layout_at R (view_of w n) i
  same_layouts w h m n i a b = let s = safe_at w h in s.layouts m i a.0 a.1 ∙ sym (s.layouts n i b.0 b.1)
