use Rattle.transcript_text.proofs.Digests.{not_decoded, not_spelled, when_ok}
use Rattle.transcript_text.proofs.Inverse.{fails}
use Rattle.transcript_text.proofs.numbers.sixteen_bytes.Goals as goal

-- what isn't read
pub returns-in_err-bytes : goal.returns-in_err-bytes
returns-in_err-bytes c = rw c.from_residual.ensures (not_decoded 16 c.args.word.now c.from_hex.result c.from_hex.ensures c.in_err-bytes.ensures.variant)

-- what is spelled otherwise
pub returns-else-is : goal.returns-else-is
returns-else-is c =
    let written = when_ok c.encode_to_slice.result c.in_ok-ok.field-0 c.encode_to_slice.ensures.written c.in_ok-ok.ensures.value in
    not_spelled 16 c.args.word.now c.from_hex.result c.in_ok-bytes.bytes c.encode_to_slice.new.output c.from_hex.ensures c.in_ok-bytes.ensures.value written (fails c.is.result c.is.ensures c.if-is.false)
