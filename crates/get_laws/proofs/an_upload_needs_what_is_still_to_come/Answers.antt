use Rattle.get_laws.proofs.Coming.{upload_needs, upload_within, upload_endless}
use Rattle.get_laws.proofs.an_upload_needs_what_is_still_to_come.Goals as goal

pub returns-clause-needs : goal.returns-clause-needs
returns-clause-needs x c time u came size s known is = (upload_needs c time u known came size s is).0

pub returns-clause-within : goal.returns-clause-within
returns-clause-within x c time u came need s known is = upload_within c time u known came need s is

pub returns-clause-endless : goal.returns-clause-endless
returns-clause-endless x c time u came need s known is taken = upload_endless c time u known came need s taken is
