-- How requests finish, and what they owe when they do.
use Rattle.std.proofs.Common.{◌≡◌, ℕ, Option, Some, None, List, [], ◌∷◌, ◌++◌, refl, sym, ap, ◌∙◌, subst, arith}
use Rattle.std.specs.Prelude.{IsTrue}
use Rattle.std.specs.List.{Contains}
use Rattle.std.proofs.lemmas.List.Elements.{All-nil}
use Rattle.crdt_rows.specs.declared.version.Version.{Version}
use Rattle.crdt_rows.specs.declared.body.Meta.{Meta}
use Rattle.crdt_rows.specs.declared.any_row.AnyRow.{AnyRow}
use Rattle.crdt_rows.specs.AnyRow.{any_join}
use Rattle.object_schema.specs.Schema.{words}
use Rattle.cluster_machine.specs.Layouts.{layouts}
use Rattle.cluster_machine.specs.declared.step.Step.TheVariants as step
use Rattle.cluster_machine.specs.World.{numbered}
use Rattle.cluster_machine.specs.Trio.{trio, stage_trio}
use Rattle.history_model.specs.declared.record.Kind.{Kind}
use Rattle.history_model.specs.declared.record.Kind.TheVariants as kind
use Rattle.history_model.specs.declared.record.Answer.{Answer}
use Rattle.history_model.specs.declared.record.Answer.TheVariants as answer
use Rattle.history_model.specs.declared.record.Record.TheVariants.{Finished}
use Rattle.history_model.specs.Record.{is_read, is_write, is_delete, is_source}
use Rattle.flow_model.specs.declared.flow.Name.{Name}
use Rattle.flow_model.specs.declared.flow.Wish.{Wish}
use Rattle.flow_model.specs.declared.flow.Wish.TheVariants as wish
use Rattle.flow_model.specs.declared.flow.Stage.{Stage}
use Rattle.flow_model.specs.declared.flow.Stage.TheVariants.{Completing}
use Rattle.flow_model.specs.declared.flow.Flow.{Flow}
use Rattle.flow_model.specs.declared.flow.FlowEnd.{FlowEnd}
use Rattle.flow_model.specs.declared.flow.FlowEnd.TheVariants.{Stored, Found, Nothing, Listed, Superseded, Aborted}
use Rattle.flow_model.specs.Rows.{complete}
use Rattle.store_model.specs.Answers.{record_of}
use Rattle.history_model.specs.declared.record.Record.{Record}
use Rattle.store_model.specs.Run.{Moving, State, Asked, Draw, plainly, effect, doing, finishes}
use Rattle.store_laws.proofs.Elements.{at_cut, none_in}
use Rattle.store_laws.proofs.Records.{is_in}
use Rattle.machine_origins.proofs.Calm.{IsCalm, IsCalmStep, calm_step}
use Rattle.store_laws.proofs.Every.{EveryWorld}
use Rattle.store_laws.proofs.Good.{IsGood}
use Rattle.store_laws.proofs.Sound.{began, IsAsked, IsWishOf, Completes, StoresFor, WaitsAt, IsFreshEnd, IsSound}
use Rattle.store_laws.proofs.Reached.{reached_different}
use Rattle.store_laws.proofs.Grown.{Rests}
use Rattle.store_laws.proofs.Ends.{HasStored}
use Rattle.store_laws.proofs.Starting.{ends_sound}
use Rattle.store_laws.proofs.Stepping.{step_sound, calm_fine}
use Rattle.store_laws.proofs.Flows.{waiting, MayWait, waiting_sound}
use Rattle.store_laws.proofs.Finishing.{IsEndOf, told_sound}
use Rattle.store_laws.proofs.Hashing.{FitIn}
use Rattle.store_laws.proofs.Deeds.{Deed}

-- a source of versions writes
pub source_writes : (k : Kind) → IsTrue (is_source k) → IsTrue (is_write k)
source_writes kind.Put h = refl
source_writes kind.Get h = cc
source_writes kind.Head h = cc
source_writes kind.Delete h = cc
source_writes kind.Copy h = refl
source_writes kind.List h = cc

-- and so does a delete
delete_writes : (k : Kind) → IsTrue (is_delete k) → IsTrue (is_write k)
delete_writes kind.Put h = cc
delete_writes kind.Get h = cc
delete_writes kind.Head h = cc
delete_writes kind.Delete h = refl
delete_writes kind.Copy h = cc
delete_writes kind.List h = cc

pub wish_writes : (k : Kind) (w : Wish) → IsWishOf k w → IsTrue (is_write k)
wish_writes k wish.Marker h = delete_writes k h
wish_writes k (wish.Stream coming) h = source_writes k h
wish_writes k (wish.Content c) h = source_writes k h

-- a write doesn't read
write_reads_not : (k : Kind) → IsTrue (is_write k) → IsTrue (is_read k) → ⊥
write_reads_not kind.Put w r = cc
write_reads_not kind.Get w r = cc
write_reads_not kind.Head w r = cc
write_reads_not kind.Delete w r = cc
write_reads_not kind.Copy w r = cc
write_reads_not kind.List w r = cc

module _ {H : Deed → Type 0} where
  module _ (every : EveryWorld H) where
    pub is_calm : (s : State) (m : Moving) → IsCalmStep m.step → IsSound H s → IsCalm s.world (effect s m)
    is_calm s m calm sound = calm_step any_join words layouts trio stage_trio s.world (reached_different every s.world sound.reached) m.step m.choice calm

    module _ (s : State) (q : ℕ) (a : Asked) (at : numbered s.asked q ≡ Some a) (rests : Rests s q) where
      none_waits : (draws : List Draw) (history : List Record) → MayWait H draws history q a None
      none_waits draws history f e = cc

      never_begins : (end : FlowEnd) (p n : ℕ) (k : Kind) (name : Name) → record_of q end ≡ began p n k name → ⊥
      never_begins (Stored version meta) p n k name e = cc
      never_begins (Found version meta body) p n k name e = cc
      never_begins Nothing p n k name e = cc
      never_begins (Listed rows) p n k name e = cc
      never_begins (Superseded id) p n k name e = cc
      never_begins Aborted p n k name e = cc

      -- a request that finishes with what it owes
      pub finishes_keeps : (end : FlowEnd) → FitIn H s.world (finishes s q a end).moves → ((n : ℕ) (x : Answer) → record_of q end ≡ Finished n x → IsEndOf H s n x) →
          IsSound H s → IsSound H (finishes s q a end).state
      finishes_keeps end fits ends sound =
          let told : State = record s { history = s.history ++ record_of q end ∷ [] } in
          let is_told : IsSound H told = told_sound s (record_of q end) (never_begins end) ends sound in
          let waits : State = waiting told q a None [] in
          let now : IsSound H waits = waiting_sound told q a None [] at rests (none_waits _ _) (λ d c. absurd (none_in d c)) is_told in
          ends_sound (doing waits (plainly (step.Close q))) (s.ends ++ (q, end) ∷ [])
          (step_sound waits (plainly (step.Close q)) now (tt, tt, tt, fits.0.1, tt) fits.0.2 (All-nil (IsGood waits.draws)) (calm_fine waits (effect waits (plainly (step.Close q))) now (is_calm waits (plainly (step.Close q)) tt now)))

      -- how a request ends that finishes with this answer
      pub one_end : (x y : Answer) (n : ℕ) → IsEndOf H s q x → Finished q x ≡ Finished n y → IsEndOf H s n y
      one_end x y n end e =
          let q_is : q ≡ n = cc in
          let x_is : x ≡ y = cc in
          subst (λ (m : ℕ). IsEndOf H s m y) q_is (subst (λ (z : Answer). IsEndOf H s q z) x_is end)

      -- the kind of a request that a record says
      pub kind_told : (k : Kind) (name : Name) → IsAsked s.asked q k name → (a.kind ≡ k) × (a.name ≡ name)
      kind_told k name asked =
          let some_is : Some asked.one ≡ Some a = sym asked.is_there ∙ at in
          let one_is : asked.one ≡ a = cc in
          (ap (λ (b : Asked). b.kind) (sym one_is) ∙ asked.kind_is, ap (λ (b : Asked). b.name) (sym one_is) ∙ asked.name_is)

      -- a write owes nothing as a read
      pub write_end : IsSound H s → IsTrue (is_write a.kind) → (x : Answer) → IsFreshEnd H s q x
      write_end sound writes x = record {
        covers = λ clear before after n k name key w reads cut named ack.
            let is = kind_told k name (sound.told.began_asked q n k name (at_cut s.history before after (began q n k name) cut)) in
            absurd (write_reads_not k (subst (λ (k : Kind). IsTrue (is_write k)) is.0 writes) reads);
        written = λ clash n k name key v reads begun named shows.
            let is = kind_told k name (sound.told.began_asked q n k name begun) in
            absurd (write_reads_not k (subst (λ (k : Kind). IsTrue (is_write k)) is.0 writes) reads);
      }

      -- a read acknowledges nothing
      pub read_end : (x : Answer) → IsTrue (is_read a.kind) → IsFreshEnd H s q x → IsEndOf H s q x
      read_end x reads fresh = record {
        one = a;
        is_there = at;
        fresh = fresh;
        kept = λ version k name e writes asked. absurd (write_reads_not k writes (subst (λ (k : Kind). IsTrue (is_read k)) (kind_told k name asked).0 reads));
      }

      -- a write that gives up acknowledges nothing
      pub nothing_end : IsSound H s → IsTrue (is_write a.kind) → IsEndOf H s q answer.None
      nothing_end sound writes = record { one = a; is_there = at; fresh = write_end sound writes answer.None; kept = λ version k name e w asked. cc }

      -- a write's version is kept
      pub stored_end : (flow : Flow) (version : Version) (meta : Option Meta) → a.flow ≡ Some flow → flow.stage ≡ Completing version meta → IsSound H s → IsTrue (is_write a.kind) →
          HasStored s.asked s.draws s.world.kept q → IsEndOf H s q (answer.Version version)
      stored_end flow version meta flow_is stage_is sound writes h = record {
        one = a;
        is_there = at;
        fresh = write_end sound writes (answer.Version version);
        kept = λ v k name e w asked.
            let waits : WaitsAt s.asked h.node q = h.is_storing.waits in
            let some_is : Some waits.one ≡ Some a = sym waits.is_there ∙ at in
            let one_is : waits.one ≡ a = cc in
            let flows : Some waits.flow ≡ Some flow = sym waits.flow_is ∙ (ap (λ (b : Asked). b.flow) one_is ∙ flow_is) in
            let same : waits.flow ≡ flow = cc in
            let c : Completes s.draws q version h.rows = subst (λ (g : Stage). StoresFor s.draws q g h.rows) (ap (λ (f : Flow). f.stage) same ∙ stage_is) h.is_storing.stores in
            let d = sound.drawn c.draw c.drawn in
            let told = kind_told d.kind c.draw.name (subst (λ (m : ℕ). IsAsked s.asked m d.kind c.draw.name) c.request_is (sound.told.began_asked c.draw.request d.node d.kind c.draw.name (is_in s.history d.place _ d.began_at))) in
            let name_is : c.draw.name ≡ name = sym told.1 ∙ (kind_told k name asked).1 in
            let version_is : c.draw.version ≡ v = c.version_is ∙ (cc) in (
              record {
                block = c.block;
                wish = c.draw.wish;
                is_there = subst (λ (r : AnyRow). Contains s.world.kept r) (λ i. complete (name_is i) (version_is i) c.block c.draw.wish)
                    (h.are_there (complete c.draw.name c.draw.version c.block c.draw.wish) (subst (λ (rs : List AnyRow). Contains rs (complete c.draw.name c.draw.version c.block c.draw.wish)) (sym c.rows_are) (0, omega arith, refl)));
              },
              record { draw = c.draw; drawn = c.drawn; request_is = c.request_is; version_is = version_is },
            );
      }
