-- Reads of a run are fresh by the records alone: whoever drew a version had begun before, and was acknowledged with no other.
use Rattle.std.proofs.Common.{◌≡◌, ℕ, Some, List, sym, ◌∙◌, subst, arith}
use Rattle.std.specs.List.{Contains}
use Rattle.crdt_rows.specs.declared.version.Version.{Version}
use Rattle.history_model.specs.Record.{acknowledged}
use Rattle.history_model.specs.Fresh.{Below, IsDeleted, IsWritten, Fresh}
use Rattle.store_model.specs.Run.{State, start, Draw}
use Rattle.store_model.specs.Acts.{Act, after_acts, AreLawfulActs, ActsFit}
use Rattle.store_model.specs.Fresh.{IsDrawn, HasDeleted, NoClash}
use Rattle.store_laws.proofs.Records.{is_in, acknowledged_is}
use Rattle.store_laws.proofs.Every.{EveryWorld}
use Rattle.store_laws.proofs.Sound.{IsSound}
use Rattle.store_laws.proofs.Enders.{wish_writes}
use Rattle.store_laws.proofs.Starting.{start_sound}
use Rattle.store_laws.proofs.Once.{IsOnceIn, one_version, start_once, acts_once}
use Rattle.store_laws.proofs.Deeds.{Deed, IsClear, ActsDo}

module _ {H : Deed → Type 0} where
  module _ (s : State) (sound : IsSound H s) (once : IsOnceIn s) where
    -- a request that drew a version is acknowledged with no other
    own_version : (d : Draw) (place end : ℕ) (v : Version) → Contains s.draws d → acknowledged s.history place d.request ≡ Some (end, v) → v ≡ d.version
    own_version d place end v c e =
        let had = sound.drawn d c in
        let drew = sound.answered d.name v (record {
          request = d.request;
          node = had.node;
          kind = had.kind;
          writes = wish_writes had.kind d.wish had.fits;
          has_begun = is_in s.history had.place _ had.began_at;
          has_finished = is_in s.history end _ (acknowledged_is s.history place d.request end v e).0;
        }) in
        sym drew.version_is ∙ one_version drew.draw d (once.one drew.draw d drew.drawn c drew.request_is)

    -- a delete that drew a version not below w is recorded so
    deleted_recorded : (j : ℕ) (bucket key : List ℕ) (w : Version) → HasDeleted s j bucket key w → IsDeleted s.history j bucket key w
    deleted_recorded j bucket key w d =
        let in_time = d.in_time in
        let before = d.before in
        record {
          request = d.draw.request;
          kind = d.kind;
          place = d.place;
          deletes = d.is_delete;
          began = d.began;
          before = omega arith;
          not_below = λ end v e. subst (λ (x : Version). ¬ Below x w) (sym (own_version d.draw d.place end v d.drawn e)) d.not_below;
        }

    -- and so is a put or copy that drew this version
    written_recorded : (j : ℕ) (bucket key : List ℕ) (v : Version) → IsDrawn s j bucket key v → IsWritten s.history j bucket key v
    written_recorded j bucket key v d =
        let in_time = d.in_time in
        let before = d.before in
        record {
          kind = d.kind;
          place = d.place;
          writes = d.is_source;
          began = d.began;
          before = omega arith;
          no_other = λ end other e.
              own_version d.draw d.place end other d.drawn (subst (λ (q : ℕ). acknowledged s.history d.place q ≡ Some (end, other)) (sym d.request_is) e) ∙ d.version_is;
        }

    -- where no two buckets' names have one digest, the records are fresh
    records_fresh : IsClear H → NoClash s.buckets → Fresh s.history
    records_fresh clear clash i j kind bucket own answer r =
        let is = sound.fresh clear i j r.request kind bucket own answer (record { reads = r.reads; began = r.began; finished = r.finished }) in
        record {
          covers = λ key w named ack. record {
            versions = (is.covers key w named ack).versions;
            none = λ no. deleted_recorded j bucket key w (is.deleted clash key w named ack no);
          };
          written = λ key v named shows. written_recorded j bucket key v (is.written clash key v named shows);
        }

  module _ (every : EveryWorld H) where
    pub acts_recorded : (as' : List Act) → AreLawfulActs start as' → ActsFit start as' → ((d : Deed) → ActsDo start as' d → H d) → IsClear H → NoClash (after_acts start as').buckets → Fresh (after_acts start as').history
    acts_recorded as' lawful fit all =
        let both = acts_once every start as' lawful fit all start_sound start_once in
        records_fresh (after_acts start as') both.0 both.1
