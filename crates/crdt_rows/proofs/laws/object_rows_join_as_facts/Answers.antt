use Rattle.crdt_rows.proofs.ObjectFacts.{facts_joined, facts_decide, newest_is, newer_joined, key_joined, greater_stays}
use Rattle.crdt_rows.proofs.laws.object_rows_join_as_facts.Goals as goal

pub returns : goal.returns
returns c = record {
  joined = facts_joined;
  decide = facts_decide;
  newest_is = newest_is;
  newest_joined = newer_joined;
  key = key_joined;
  greater_key = greater_stays;
}
