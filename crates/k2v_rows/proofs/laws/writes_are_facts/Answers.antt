use Rattle.std.proofs.Common.{refl}
use Rattle.k2v_rows.proofs.Facts.{put_discard_at, put_stands, put_others}
use Rattle.k2v_rows.proofs.laws.writes_are_facts.Goals as goal

pub returns : goal.returns
returns c = record {
  discards = put_discard_at;
  stands = put_stands;
  others = put_others;
  key = λ r node time value token. refl;
}
