use Rattle.std.proofs.Common.{sym, ap, subst, ◌∙◌}
use Rattle.text_model.specs.Grammar.{IsAllowed}
use Rattle.audit_prints.specs.Roles.{are_bounded}
use Rattle.audit_prints.proofs.Bounds.{trio_bounded, staged_bounded, role_given, IsGivenBound}
use Rattle.audit_prints.proofs.stage.Stage.after.Goals as goal

pub invariant_of-result : goal.invariant_of-result
invariant_of-result c = record {
  bounded = ap are_bounded c.in_ok-with_trio-in-Trio.ensures.staged ∙ trio_bounded c.args.self.roles.list c.args.self.bounded;
  meant = c.args.self.meant;
}

pub invariant_of-result-in-Role : goal.invariant_of-result-in-Role
invariant_of-result-in-Role c =
    let given : IsGivenBound c.in-Role.role = role_given c.in-Role.node c.in-Role.role (subst IsAllowed c.in-Role.is c.requires) in
    record {
      bounded =
          ap are_bounded c.in_ok-staged-in-Role.ensures.staged
          ∙ staged_bounded c.in-Role.node c.in_ok-copy_role-in-Role.field-0 c.args.self.roles.list (subst IsGivenBound (sym c.in_ok-copy_role-in-Role.ensures.same) given) c.args.self.bounded;
      meant = c.args.self.meant;
    }
