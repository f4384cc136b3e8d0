use Rattle.change_laws.proofs.Running.{change_leads, change_time, change_hashes, change_stocked}
use Rattle.change_laws.proofs.changes_are_runs.Goals as goal

pub returns-clause-leads : goal.returns-clause-leads
returns-clause-leads g c join s k new trio trio_roles part choice shown m w after is = change_leads _ _ join s k trio trio_roles choice m part new shown w after is

pub returns-clause-time : goal.returns-clause-time
returns-clause-time g c join s k new trio trio_roles part choice shown m w after is = change_time _ _ join s k trio trio_roles choice m part new shown w after is

pub returns-clause-hashes : goal.returns-clause-hashes
returns-clause-hashes g c join s k new trio trio_roles part choice shown m w after is = change_hashes _ _ join s k trio trio_roles choice m part new shown w after is

pub returns-clause-stocked : goal.returns-clause-stocked
returns-clause-stocked g c digest join s k new trio trio_roles part choice shown m w after laws is spelled stocked = change_stocked _ _ join s k trio trio_roles choice m part new shown w after is digest laws spelled stocked
