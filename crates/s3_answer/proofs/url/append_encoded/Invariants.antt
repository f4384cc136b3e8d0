use Rattle.std.proofs.Common.{◌≡◌, ◌++◌, take, flat_map}
use Rattle.s3_model.specs.Xml.{url_byte}
use Rattle.s3_answer.proofs.url.append_encoded.Given as goal

abbrev pub invariant-loop-byte : goal.invariant-loop-byte
invariant-loop-byte l = l.out ≡ l.fn.out ++ flat_map url_byte (take l.byte-index l.text)
