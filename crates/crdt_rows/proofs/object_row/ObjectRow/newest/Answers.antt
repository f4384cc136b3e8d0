use Rattle.std.proofs.Common.{Some, None, cond, option_map, ap, sym, ◌∙◌}
use Rattle.crdt_core.specs.Map.{map_entries}
use Rattle.crdt_rows.specs.State.{is_complete}
use Rattle.crdt_rows.proofs.Firsts.{newest_by_first, newest_without, own_incomplete, state_of_first}
use Rattle.crdt_rows.proofs.object_row.ObjectRow.newest.Goals as goal

-- a first version that is complete is the newest such one
pub returns-in-Complete-clause-version : goal.returns-in-Complete-clause-version
returns-in-Complete-clause-version c =
    let row = c.args.self.now in
    sym (newest_by_first (map_entries row.versions) (c.in-Some.version.now, c.in-Some.state.now) row.versions.ascending row.settled c.in-Some.ensures
    ∙ ap (λ s. cond (is_complete s) (Some c.in-Some.version.now) None) c.in-Complete.is)

pub returns-in-Complete-clause-body : goal.returns-in-Complete-clause-body
returns-in-Complete-clause-body c =
    let row = c.args.self.now in
    ap (option_map (λ s. s.0)) (state_of_first (map_entries row.versions) (c.in-Some.version.now, c.in-Some.state.now) c.in-Some.ensures) ∙ ap Some c.in-Complete.is

-- where the first version is not complete, none is
pub returns-in_default : goal.returns-in_default
returns-in_default c =
    let row = c.args.self.now in
    record {
      version = sym (newest_by_first (map_entries row.versions) (c.in-Some.version.now, c.in-Some.state.now) row.versions.ascending row.settled c.in-Some.ensures ∙ own_incomplete c.in-Some.version.now c.in-Some.state.now c.in_default.not-Complete);
      body = tt;
    }

pub returns-in-None-clause-version : goal.returns-in-None-clause-version
returns-in-None-clause-version c = sym (newest_without (map_entries c.args.self.now.versions) c.in-None.ensures)
