use Rattle.crdt_rows.specs.AnyRow.{any_join}
use Rattle.object_schema.specs.Schema.{words}
use Rattle.cluster_machine.specs.Layouts.{layouts}
use Rattle.cluster_machine.specs.Trio.{trio, stage_trio}
use Rattle.prompt_laws.proofs.Places.{is_place, all_places, trio_places, staging_places}
use Rattle.prompt_laws.proofs.Turns.{all_prompt}
use Rattle.prompt_laws.proofs.timely_turns_are_prompt.Goals as goal

pub returns : goal.returns
returns c =
    let names = c.worlds_name_places.ensures in
    all_prompt (λ w m step choice h. names.stepped is_place any_join words layouts trio stage_trio w m all_places trio_places staging_places step choice h) (names.empty is_place layouts)
