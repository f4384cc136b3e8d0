use Rattle.block_store.proofs.ByHash.{put_by_hash, live_by_hash, dead_by_hash, note_by_hash, lookup_removed, idle_by_hash}
use Rattle.block_store.proofs.laws.calls_by_hash.Goals as goal

pub returns : goal.returns
returns c = record {
  put_block = put_by_hash;
  live_count = live_by_hash;
  dead_count = λ k h q now. dead_by_hash k h q;
  dead_note = note_by_hash;
  deleted_block = λ k h q o. lookup_removed h q k.blocks o.blocks;
  idle_note = idle_by_hash;
  deleted_note = λ k h q o. lookup_removed h q k.notes o.notes;
}
