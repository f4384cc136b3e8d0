use Rattle.std.proofs.Common.{sym, ap, ◌∙◌}
use Rattle.date_model.specs.Texts.{seconds_of}
use Rattle.sig_v4.proofs.Claiming.{claim_fine, claim_bad}
use Rattle.sig_v4.proofs.claim.claim_in.Goals as goal

pub returns-then-branch : goal.returns-then-branch
returns-then-branch c =
    claim_fine c.args.region.now c.args.fields.now c.in_ok-authorization.authorization c.in_ok-time.time c.in_ok-seconds.seconds c.in_ok-id-2.id c.in_ok-payload.payload
    (record {
      authorization = c.in_ok-authorization.ensures;
      dated = sym c.in_ok-first_value.ensures.value ∙ c.in_ok-time.ensures.ok_part;
      moment = ap seconds_of (sym c.as_slice.ensures) ∙ (sym c.seconds_of.ensures ∙ c.in_ok-seconds.ensures.ok_part);
      credential = sym (rw (c.day_of.ensures, c.as_slice-2.ensures, c.as_slice-credential.ensures) at c.in_ok-id.ensures.id) ∙ c.in_ok-id-2.ensures.ok_part;
      said = sym c.in_ok-payload_in.ensures.payload ∙ c.in_ok-payload.ensures.ok_part;
    })
    (sym c.in_ok-is_signed_list.ensures.fine ∙ c.if-branch.true)

pub returns-else-branch : goal.returns-else-branch
returns-else-branch c =
    claim_bad c.args.region.now c.args.fields.now c.in_ok-authorization.authorization c.in_ok-time.time c.in_ok-seconds.seconds c.in_ok-id-2.id c.in_ok-payload.payload
    (record {
      authorization = c.in_ok-authorization.ensures;
      dated = sym c.in_ok-first_value.ensures.value ∙ c.in_ok-time.ensures.ok_part;
      moment = ap seconds_of (sym c.as_slice.ensures) ∙ (sym c.seconds_of.ensures ∙ c.in_ok-seconds.ensures.ok_part);
      credential = sym (rw (c.day_of.ensures, c.as_slice-2.ensures, c.as_slice-credential.ensures) at c.in_ok-id.ensures.id) ∙ c.in_ok-id-2.ensures.ok_part;
      said = sym c.in_ok-payload_in.ensures.payload ∙ c.in_ok-payload.ensures.ok_part;
    })
    (sym c.in_ok-is_signed_list.ensures.fine ∙ c.if-branch.false)
