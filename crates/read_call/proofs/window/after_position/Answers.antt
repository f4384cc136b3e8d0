use Rattle.std.proofs.Common.{Some, sym, ap, ◌∙◌}
use Rattle.std.specs.Prelude.{option_map}
use Rattle.quorum_model.specs.Window.{after_position}
use Rattle.read_call.proofs.Walking.{without_position}
use Rattle.read_call.proofs.window.after_position.Goals as goal

pub returns-clause-is : goal.returns-clause-is
returns-clause-is c =
    ap Some (without_position c.as_slice-bytes.result.now c.in-Some.key c.in_ok-from_slice.field-0 c.min-start.result c.as_slice-bytes.ensures c.min-start.ensures c.in_ok-from_slice.ensures.same)
    ∙ ap (option_map after_position) (sym c.in-Some.is)
