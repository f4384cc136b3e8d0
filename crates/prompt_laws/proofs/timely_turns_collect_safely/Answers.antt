use Rattle.store_model.specs.Events.{acts_of}
use Rattle.prompt_laws.proofs.Safely.{collects_safely}
use Rattle.prompt_laws.proofs.timely_turns_collect_safely.Goals as goal

at_each_moment : goal.returns-clause-prompt
at_each_moment c = λ turns allowed lawful timely clear moment is.
    c.moments_are_runs.ensures.prompt (acts_of turns) moment is (c.timely_turns_are_prompt.ensures turns allowed lawful timely clear)

pub returns-clause-prompt : goal.returns-clause-prompt
returns-clause-prompt c = at_each_moment c

pub returns-clause-safely : goal.returns-clause-safely
returns-clause-safely c = λ turns allowed lawful. collects_safely (acts_of turns) (at_each_moment c turns allowed lawful)
