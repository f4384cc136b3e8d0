-- The state in which a run begins is sound, and it stays so with more buckets, another size of blocks, ends that are taken and messages that are forgotten.
use Rattle.std.proofs.Common.{ℕ, List, [], ◌∷◌, ◌++◌, refl, inl}
use Rattle.std.proofs.lemmas.List.Elements.{All-nil, Contains-append_left}
use Rattle.store_model.specs.Run.{State, start}
use Rattle.flow_model.specs.declared.flow.FlowEnd.{FlowEnd}
use Rattle.cluster_machine.specs.World.{empty, forget_delivered}
use Rattle.store_laws.proofs.Elements.{no_entry, none_in}
use Rattle.store_laws.proofs.Alike.{alike_same}
use Rattle.store_laws.proofs.Reached.{reached_forgetting}
use Rattle.store_laws.proofs.Sound.{IsSound}
use Rattle.store_laws.proofs.Freshness.{fresh_later}
use Rattle.store_laws.proofs.Deeds.{Deed}

module _ {H : Deed → Type 0} where
  pub start_sound : IsSound H start
  start_sound = record {
    reached = record { before = []; begin = empty; begun = inl (refl, refl); moves = []; lawful = tt; alike = alike_same empty; before_are = All-nil _; are = All-nil _; done_before = λ d any h. absurd h; done = λ d any h. absurd h; prompt = λ all are_prompt. record { first = tt; rest = tt; now = refl } };
    lengths = refl;
    told = record {
      began_asked = λ q n kind name c. absurd (none_in _ c);
      finished_asked = λ q answer c. absurd (none_in _ c);
      asked_began = λ q a h. absurd (no_entry q a h);
      bucket_there = λ q a h. absurd (no_entry q a h);
      key_there = λ q n kind name c. absurd (none_in _ c);
    };
    presents = λ n c h. absurd h;
    stages = λ q a flow h is. absurd (no_entry q a h);
    drawn = λ d c. absurd (none_in d c);
    acknowledged = λ name version a. absurd (none_in _ a.has_begun);
    answered = λ name version a. absurd (none_in _ a.has_begun);
    seen = λ x r c gave. absurd (none_in x c);
    proper = All-nil _;
    fresh = λ clear i j q kind bucket own answer r. cc;
  }

  pub bucket_sound : (s : State) (name : List ℕ) → IsSound H s → IsSound H (record s { buckets = s.buckets ++ name ∷ [] })
  bucket_sound s name sound = record {
    reached = sound.reached;
    lengths = sound.lengths;
    told = record {
      began_asked = sound.told.began_asked;
      finished_asked = sound.told.finished_asked;
      asked_began = sound.told.asked_began;
      bucket_there = λ q a h. Contains-append_left s.buckets (name ∷ []) _ (sound.told.bucket_there q a h);
      key_there = sound.told.key_there;
    };
    presents = sound.presents;
    stages = sound.stages;
    drawn = λ d c.
        let h = sound.drawn d c in
        record {
          id_is = h.id_is;
          node = h.node;
          kind = h.kind;
          fits = h.fits;
          place = h.place;
          began_at = h.began_at;
          in_time = h.in_time;
          bucket = Contains-append_left s.buckets (name ∷ []) _ h.bucket;
          moment = h.moment;
        };
    acknowledged = sound.acknowledged;
    answered = sound.answered;
    seen = sound.seen;
    proper = sound.proper;
    fresh = λ clear. fresh_later s (record s { buckets = s.buckets ++ name ∷ [] }) refl (λ n c. Contains-append_left s.buckets (name ∷ []) n c) (λ d c. c) (λ x c. c) (λ r c. c) (sound.fresh clear);
  }

  pub block_sound : (s : State) (block : ℕ) → IsSound H s → IsSound H (record s { block = block })
  block_sound s block sound = record {
    reached = sound.reached;
    lengths = sound.lengths;
    told = sound.told;
    presents = sound.presents;
    stages = sound.stages;
    drawn = sound.drawn;
    acknowledged = sound.acknowledged;
    answered = sound.answered;
    seen = sound.seen;
    proper = sound.proper;
    fresh = λ clear. fresh_later s (record s { block = block }) refl (λ n c. c) (λ d c. c) (λ x c. c) (λ r c. c) (sound.fresh clear);
  }

  pub ends_sound : (s : State) (ends : List (ℕ × FlowEnd)) → IsSound H s → IsSound H (record s { ends = ends })
  ends_sound s ends sound = record {
    reached = sound.reached;
    lengths = sound.lengths;
    told = sound.told;
    presents = sound.presents;
    stages = sound.stages;
    drawn = sound.drawn;
    acknowledged = sound.acknowledged;
    answered = sound.answered;
    seen = sound.seen;
    proper = sound.proper;
    fresh = λ clear. fresh_later s (record s { ends = ends }) refl (λ n c. c) (λ d c. c) (λ x c. c) (λ r c. c) (sound.fresh clear);
  }

  pub forgetting_sound : (s : State) → IsSound H s → IsSound H (record s { world = forget_delivered s.world })
  forgetting_sound s sound = record {
    reached = reached_forgetting s.world sound.reached;
    lengths = sound.lengths;
    told = sound.told;
    presents = sound.presents;
    stages = sound.stages;
    drawn = sound.drawn;
    acknowledged = sound.acknowledged;
    answered = sound.answered;
    seen = sound.seen;
    proper = sound.proper;
    fresh = λ clear. fresh_later s (record s { world = forget_delivered s.world }) refl (λ n c. c) (λ d c. c) (λ x c. c) (λ r c. c) (sound.fresh clear);
  }
