use Rattle.s3_answer.proofs.Appends.{three}
use Rattle.s3_answer.proofs.list.append_common.Goals as goal

pub returns-clause-ok : goal.returns-clause-ok
returns-clause-ok c = three c.close_tag.result _ _ _ _ _ _ _ c.in_ok-open_tag.ensures.ok c.in_ok-append_key.ensures.ok c.close_tag.ensures.ok
