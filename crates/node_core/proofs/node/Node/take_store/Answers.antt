use Rattle.std.proofs.Common.{◌≡◌, nat_lt, true, false, refl, ap, sym, ◌∙◌}
use Rattle.view_model.specs.Layouts.{reading}
use Rattle.view_model.specs.View.{newest}
use Rattle.wire_messages.specs.declared.message.Message.TheVariants.{Stored, NotHere}
use Rattle.cluster_machine.specs.Layouts.{is_given, layouts}
use Rattle.cluster_machine.specs.Rows.{accepts_all}
use Rattle.node_parts.proofs.Faults.{ok_to, passed_on}
use Rattle.node_core.proofs.Nodes.{with_contents, knows_less}
use Rattle.node_core.proofs.Replies.{replies}
use Rattle.node_core.proofs.node.Node.take_store.Goals as goal

pub returns-then-not-is_given-clause-takes : goal.returns-then-not-is_given-clause-takes
returns-then-not-is_given-clause-takes g c = ok_to c.send-then-not-is_given.result c.send-then-not-is_given.ensures.sent (λ sent id x is.
    let known_version : nat_lt (newest reading x.view) c.args.named ≡ false = knows_less (newest reading x.view) c.args.named c.newest-newest.result (c.newest-newest.ensures ∙ ap (newest reading) is.view) c.if-newest-named.false in
    let given : is_given layouts x.view id c.args.p ≡ false = (λ i. is_given layouts (sym is.view i) (sym is.id_is i) c.args.p) ∙ (sym c.is_given.ensures ∙ c.if-not-is_given.true) in
    rw (known_version, given) (replies c.args.self.now id x c.args.from (NotHere c.args.tag) true c.args.out.now.items c.send-then-not-is_given.new.out.items is sent (λ h. refl)))

pub returns-clause-takes : goal.returns-clause-takes
returns-clause-takes g c = ok_to c.send-2.result c.send-2.ensures.sent (λ sent id x is.
    let known_version : nat_lt (newest reading x.view) c.args.named ≡ false = knows_less (newest reading x.view) c.args.named c.newest-newest.result (c.newest-newest.ensures ∙ ap (newest reading) is.view) c.if-newest-named.false in
    let given : is_given layouts x.view id c.args.p ≡ true = (λ i. is_given layouts (sym is.view i) (sym is.id_is i) c.args.p) ∙ (sym c.is_given.ensures ∙ c.if-not-is_given.false) in
    let y = accepts_all g.S.Row.Crdt.join g.S.Schema.words c.args.now x c.args.rows.now in
    let stands = with_contents c.args.self.now id x y c.accept_all.new.self is (c.in_ok-accept_all.ensures.accepts x is.contents) in
    rw (known_version, given) (replies (record c.args.self.now { contents = c.accept_all.new.self }) id y c.args.from (Stored c.args.tag) true c.args.out.now.items c.send-2.new.out.items stands sent (λ h. refl)))

pub returns-in_err-accept_all-clause-causes : goal.returns-in_err-accept_all-clause-causes
returns-in_err-accept_all-clause-causes g c = passed_on c.from_residual.result c.in_err-accept_all.field-0.0 c.from_residual.ensures.1 c.in_err-accept_all.ensures.causes (λ cannot id x is fits.
    let known_version : nat_lt (newest reading x.view) c.args.named ≡ false = knows_less (newest reading x.view) c.args.named c.newest-newest.result (c.newest-newest.ensures ∙ ap (newest reading) is.view) c.if-newest-named.false in
    let given : is_given layouts x.view id c.args.p ≡ true = (λ i. is_given layouts (sym is.view i) (sym is.id_is i) c.args.p) ∙ (sym c.is_given.ensures ∙ c.if-not-is_given.false) in
    let fitted = rw (known_version, given) at fits in
    cannot x is.contents fitted.items)
