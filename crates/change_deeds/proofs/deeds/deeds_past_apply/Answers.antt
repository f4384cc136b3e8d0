use Rattle.std.proofs.Common.{[], ◌∷◌, ◌++◌, ◌∙◌, ap, map}
use Rattle.std.proofs.lemmas.List.{map-append}
use Rattle.cluster_machine.specs.declared.step.Step.TheVariants as step
use Rattle.change_model.specs.Steps.{from_one}
use Rattle.store_model.specs.Acts.{drain, forgets, all_messages}
use Rattle.serve_changes.specs.Acts.{shows_acts, spreads_acts, each_acts}
use Rattle.change_deeds.specs.declared.deeds.Deed.TheVariants.{Drain}
use Rattle.change_deeds.specs.Deeds.{act_of}
use Rattle.change_deeds.proofs.Parts.{all_parts}
use Rattle.change_deeds.proofs.deeds.deeds_past_apply.Goals as goal

pub returns-clause-deeds : goal.returns-clause-deeds
returns-clause-deeds c =
    let m = c.args.node in
    let part = c.args.part.now in
    let shows = shows_acts (from_one m part) in
    let spreads = spreads_acts m part in
    let acks = each_acts step.Ack part in
    let syncs = each_acts step.Sync part in
    let sync_acks = each_acts step.SyncAck part in
    let cleans = each_acts step.Clean part in
    let one = c.in_ok-show_from.ensures.shows ∙ ap (λ ds. map act_of ds ++ shows) c.new-deeds.ensures in
    let two = c.in_ok-turns_spread.ensures.turns ∙ ap (λ xs. xs ++ (acks ++ spreads)) one in
    let three = c.in_ok-turns.ensures.turns ∙ ap (λ xs. xs ++ syncs) two in
    let four = ap (map act_of) c.in_ok-push.ensures.ok ∙ (map-append act_of c.turns.new.deeds (Drain ∷ []) ∙ ap (λ xs. xs ++ drain all_messages ∷ []) three) in
    let five = c.in_ok-spread.ensures.spreads ∙ ap (λ xs. xs ++ spreads) four in
    let six = c.in_ok-turns_spread-2.ensures.turns ∙ ap (λ xs. xs ++ (sync_acks ++ spreads)) five in
    let seven = c.in_ok-turns-2.ensures.turns ∙ ap (λ xs. xs ++ cleans) six in
    ap (λ xs. xs ++ forgets ∷ []) seven ∙ all_parts shows acks spreads syncs spreads sync_acks spreads cleans (forgets ∷ []) (drain all_messages)
