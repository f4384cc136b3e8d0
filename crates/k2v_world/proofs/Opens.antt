-- A request begins: two steps of the world, and one more request.
use Rattle.std.proofs.Common.{◌≡◌, ℕ, suc, true, None, Some, Result, Ok, Err, IfOk, [], ◌∷◌, ◌++◌, length, refl, ap, sym, ◌∙◌, subst, add-one}
use Rattle.std.specs.Prelude.{map}
use Rattle.crdt_core.specs.declared.memory.Memory.{Memory}
use Rattle.std.proofs.lemmas.List.{length_push, map_push}
use Rattle.blake2_hash.specs.declared.digest.Hash32.{Hash32}
use Rattle.blake2_hash.specs.Hash.{digest_of}
use Rattle.wire_messages.specs.declared.phase.Phase.{Phase}
use Rattle.cluster_machine.specs.declared.step.Step.TheVariants.{Open, Phase as Begin}
use Rattle.cluster_machine.specs.declared.step.Words.TheVariants.{Empty, One}
use Rattle.cluster_machine.specs.World.{Request, is_member_at}
use Rattle.cluster_machine.specs.Layouts.{layouts}
use Rattle.cluster_machine.specs.Worlds.{next, HaveRoom}
use Rattle.k2v_rows.specs.declared.k2v_row.K2vRow.{K2vRow}
use Rattle.k2v_rows.specs.Row.{row_join}
use Rattle.k2v_schema.specs.declared.schema.K2vSchema.{K2vSchema}
use Rattle.k2v_schema.specs.Schema.{words}
use Rattle.k2v_model.specs.declared.order.Order.{Order}
use Rattle.k2v_model.specs.declared.line.ItemRefusal.{ItemRefusal}
use Rattle.k2v_model.specs.Orders.{asks_for}
use Rattle.k2v_model.specs.Run.{World as Model, State, Outcome, plainly, new_request, begins_reading, cluster_lines, refusal, is_bucket, begins, admits}
use Rattle.k2v_text.specs.declared.event.ItemTold.{ItemTold}
use Rattle.world_core.specs.declared.world.World.{World}
use Rattle.world_core.specs.declared.report.Report.{Report}
use Rattle.world_core.specs.Stands.{StandsFor, IsWorld, Steps, Overflows as WorldOverflows}
use Rattle.k2v_world.specs.declared.asked.Stage.TheVariants.{Reading}
use Rattle.k2v_world.specs.declared.world.ItemWorld.{ItemWorld}
use Rattle.k2v_world.specs.Kept.{kept, hindrance}
use Rattle.k2v_world.specs.Stands.{IsItems, HasItems, Does, Plays, PlaysIf, Overflows, OverflowsIf}
use Rattle.k2v_world.proofs.Places.{admitted, by_ask}

opened_count : (w : Model) (n : ℕ) → is_member_at layouts w n ≡ true → length (next row_join words w (plainly (Open n))).requests ≡ suc (length w.requests)
opened_count w n m =
    let request : Request = record { coordinator = n; is_open = true } in
    rw m (length_push w.requests request ∙ add-one (length w.requests))

module _ (old : ItemWorld) (node : ℕ) (order : Order) (mid : World K2vSchema K2vRow) (report : Report K2vRow) (first : Steps row_join words old.world mid report (Open node)) where
  abbrev here : State → Model
  here s = next row_join words s.world (plainly (Open node))

  stands : (s : State) → IsItems old s → StandsFor row_join words mid (here s)
  stands s d = (first s.world d.world).does.stands

  pub opened_stands : HasItems old → IsWorld row_join words mid
  opened_stands has = (here has.0, stands has.0 has.1)

  module _ (number : ℕ) (phase : Phase K2vRow) (is_first : phase ≡ asks_for order.item) (counted : (w : Model) → StandsFor row_join words mid w → number ≡ length w.requests) where
    the_number : (s : State) → IsItems old s → is_member_at layouts s.world node ≡ true → number ≡ suc (length s.world.requests)
    the_number s d m = counted (here s) (stands s d) ∙ opened_count s.world node m

    pub opens_plays : (new : ItemWorld) (more : Report K2vRow) (bucket : Hash32) (told : ItemTold) → Steps row_join words mid new.world more (Begin number phase) → new.buckets ≡ old.buckets →
        new.requests ≡ old.requests ++ record { node = node; order = order; bucket = bucket; stage = Reading } ∷ [] → bucket ≡ digest_of order.item.bucket →
        told ≡ record { refused = None; words = One number; lines = cluster_lines more.lines } →
        PlaysIf (λ s. is_member_at layouts s.world node ≡ true) old new told (λ s. begins_reading s node order)
    opens_plays new more bucket told second buckets requests digest says s d m =
        let q = suc (length s.world.requests) in
        let count = the_number s d m in
        let Q : Phase K2vRow → Type 0 = λ p. Steps row_join words mid new.world more (Begin number p) in
        let P : ℕ → Type 0 = λ n. Steps row_join words mid new.world more (Begin n (asks_for order.item)) in
        let one = (first s.world d.world).does in
        let two = (subst P count (subst Q is_first second) (here s) (stands s d)).does in
        record {
          stands = record {
            world = two.stands;
            buckets = buckets ∙ d.buckets;
            requests =
                requests ∙ ap (λ rs. rs ++ record { node = node; order = order; bucket = bucket; stage = Reading } ∷ []) d.requests
                ∙ ap (λ (b : Hash32). map kept s.requests ++ record { node = node; order = order; bucket = b; stage = Reading } ∷ []) digest
                ∙ sym (map_push kept s.requests (new_request s node order));
          };
          tells = record {
            refused = ap (λ (t : ItemTold). t.refused) says;
            words = ap (λ (t : ItemTold). t.words) says ∙ ap One count;
            lines = ap (λ (t : ItemTold). t.lines) says ∙ ap cluster_lines two.tells.lines;
          };
          fits = ((one.stands.fits, one.spelled), ((two.stands.fits, two.spelled), tt));
        }

    pub opens_overflows : WorldOverflows row_join words mid (Begin number phase) → OverflowsIf (λ s. is_member_at layouts s.world node ≡ true) old (λ s. begins_reading s node order)
    opens_overflows full s d m fits =
        let P : ℕ → Type 0 = λ n. WorldOverflows row_join words mid (Begin n (asks_for order.item)) in
        let Q : Phase K2vRow → Type 0 = λ p. WorldOverflows row_join words mid (Begin number p) in
        (subst P (the_number s d m) (subst Q is_first full) (here s) (stands s d)).lacks fits.1.0

-- ---- a request that may begin, and one that is refused

refused_plays : (old : ItemWorld) (reason : ItemRefusal) (told : ItemTold) → told ≡ record { refused = Some reason; words = Empty; lines = [] } → (s : State) → IsItems old s → Does old told s (refusal s reason)
refused_plays old reason told says s d = record {
  stands = d;
  tells = record { refused = ap (λ (t : ItemTold). t.refused) says; words = ap (λ (t : ItemTold). t.words) says; lines = ap (λ (t : ItemTold). t.lines) says };
  fits = tt;
}

module _ (old : ItemWorld) (node : ℕ) (order : Order) (member : (s : State) → IsItems old s → is_member_at layouts s.world node ≡ true) (made : is_bucket old.buckets order.item.bucket ≡ true)
    (bucket : Hash32) (digest : bucket ≡ digest_of order.item.bucket) where
  begins_so : (s : State) → IsItems old s → begins s node order ≡ admitted s node order (hindrance old.requests node (bucket, (order.item.pk, order.item.sk)) order.ask)
  begins_so s d =
      let there : is_bucket s.buckets order.item.bucket ≡ true = ap (λ bs. is_bucket bs order.item.bucket) (sym d.buckets) ∙ made in
      let first : begins s node order ≡ admits s node order order.ask = rw (member s d, there) refl in
      first ∙ by_ask s node order order.ask
      ∙ ap (λ rs. admitted s node order (hindrance rs node (digest_of order.item.bucket, (order.item.pk, order.item.sk)) order.ask)) (sym d.requests)
      ∙ ap (λ (b : Hash32). admitted s node order (hindrance old.requests node (b, (order.item.pk, order.item.sk)) order.ask)) (sym digest)

  pub hindered : (reason : ItemRefusal) (told : ItemTold) → Some reason ≡ hindrance old.requests node (bucket, (order.item.pk, order.item.sk)) order.ask →
      told ≡ record { refused = Some reason; words = Empty; lines = [] } → Plays old old told (λ s. begins s node order)
  hindered reason told why says s d =
      let P : Outcome → Type 0 = λ o. Does old told s o in
      subst P (sym (begins_so s d ∙ ap (admitted s node order) (sym why))) (refused_plays old reason told says s d)

  module _ (free : None ≡ hindrance old.requests node (bucket, (order.item.pk, order.item.sk)) order.ask) where
    begins_free : (s : State) → IsItems old s → begins s node order ≡ begins_reading s node order
    begins_free s d = begins_so s d ∙ ap (admitted s node order) (sym free)

    pub begun_plays : (new : ItemWorld) (r : Result ItemTold Memory) → IfOk r (λ told. PlaysIf (λ s. is_member_at layouts s.world node ≡ true) old new told (λ s. begins_reading s node order)) → IfOk r (λ told. Plays old new told (λ s. begins s node order))
    begun_plays new (Err e) h = tt
    begun_plays new (Ok told) h = λ s d. let P : Outcome → Type 0 = λ o. Does new told s o in subst P (sym (begins_free s d)) (h s d (member s d))

    pub begun_overflows : OverflowsIf (λ s. is_member_at layouts s.world node ≡ true) old (λ s. begins_reading s node order) → Overflows old (λ s. begins s node order)
    begun_overflows full s d fits = full s d (member s d) (subst (λ (o : Outcome). HaveRoom row_join words s.world o.moves) (begins_free s d) fits)
