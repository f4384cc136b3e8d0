use Rattle.std.proofs.Common.{map, refl}
use Rattle.std.specs.String.{string_bytes}
use Rattle.garage_lab.proofs.Running.{does_asked, tells_usage, asked_in_range}
use Rattle.garage_lab.proofs.run.run.Goals as goal

pub run_command-requires-clause-in_range : goal.run_command-requires-clause-in_range
run_command-requires-clause-in_range g c = asked_in_range (map string_bytes c.args.words.now) c.in-Some.command c.in-Some.ensures

pub returns-in-Some-clause-does : goal.returns-in-Some-clause-does
returns-in-Some-clause-does g c =
    does_asked g.I.Source g.O.Sink g.L.Link g.C.Clock c.run_command.result c.args.input.now c.run_command.new.input c.args.output.now c.run_command.new.output c.args.link.now c.run_command.new.link c.args.clock.now c.run_command.new.clock
    (map string_bytes c.args.words.now) c.in-Some.command c.in-Some.ensures c.run_command.ensures.does

pub returns-in-None-clause-usage : goal.returns-in-None-clause-usage
returns-in-None-clause-usage g c = λ none.
    tells_usage g.I.Source g.O.Sink g.L.Link g.C.Clock c.usage.result c.args.input.now c.args.input.now c.args.output.now c.usage.new.output c.args.link.now c.args.link.now c.args.clock.now c.args.clock.now
    c.usage.ensures.says c.usage.ensures.steady refl refl refl

pub returns-in-None-clause-does : goal.returns-in-None-clause-does
returns-in-None-clause-does g c = λ command asks. absurd (c.in-None.ensures command asks)
