-- Gets read whole versions.
use Rattle.history_model.specs.declared.record.Kind.TheVariants.{Get}
use Rattle.blake2_hash.specs.Hash.{digest_of}
use Rattle.flow_model.specs.declared.flow.Name.{Name}
use Rattle.std.proofs.Common.{ap, sym, ◌∙◌}
use Rattle.std.specs.Prelude.{◌≡◌, List, Some}
use Rattle.store_model.specs.Run.{start, Asked, Draw}
use Rattle.store_model.specs.Acts.{Act, after_acts, AreLawfulActs}
use Rattle.store_laws.specs.Promised.{GoesOn, IsRightlySuperseded}
use Rattle.store_anchors.specs.Stored.{BlocksDiffer}
use Rattle.store_anchors.specs.Whole.{GivesAllBytes}
use Rattle.store_anchors.proofs.Busy.{goes_on_always}
use Rattle.store_anchors.proofs.Cited.{Cited}
use Rattle.store_anchors.proofs.Acts.{held, told}
use Rattle.store_laws.proofs.Hashing.{ActsIn}
use Rattle.store_laws.proofs.Deeds.{Deed}

module _ {H : Deed → Type 0} where
  module _ (cited : Cited H) (acts : List Act) (lawful : AreLawfulActs start acts) (fit : ActsIn H start acts) where
    pub rightly : IsRightlySuperseded acts
    rightly q id c =
        let now = held cited acts lawful fit in
        let h = now.laid.superseded q id c in
        let d : Draw = h.passed.draw in
        record {
          draw = d;
          drawn = h.passed.drawn;
          id_is = h.passed.id_is;
          overwritten = record { newer = h.passed.above.newer; block = h.passed.above.block; wished = h.passed.above.wished; above = h.passed.above.above; was_stored = h.passed.above.was_stored };
          own = λ n bucket key begun.
              let asked = now.sound.told.began_asked q n Get (record { bucket = bucket; key = key }) begun in
              let some_is : Some asked.one ≡ Some h.was_asked.one = sym asked.is_there ∙ h.was_asked.is_there in
              let one_is : asked.one ≡ h.was_asked.one = cc in
              let kind_is : h.kind ≡ Get = sym h.was_asked.kind_is ∙ (ap (λ (a : Asked). a.kind) (sym one_is) ∙ asked.kind_is) in
              let name_is : h.name ≡ record { bucket = bucket; key = key } = sym h.was_asked.name_is ∙ (ap (λ (a : Asked). a.name) (sym one_is) ∙ asked.name_is) in
              let own = h.own kind_is in
              (own.0 ∙ ap (λ (m : Name). digest_of m.bucket) name_is, own.1 ∙ ap (λ (m : Name). m.key) name_is);
        }

    pub gives : BlocksDiffer acts → GivesAllBytes acts
    gives differ line c = told cited acts lawful fit line c differ

    pub goes : GoesOn (after_acts start acts)
    goes = goes_on_always cited acts lawful fit
