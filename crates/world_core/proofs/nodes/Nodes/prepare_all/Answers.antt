use Rattle.std.proofs.Common.{◌≤◌, ◌<◌, length, map, take, ◌++◌, ◌∷◌, [], sym, subst, ap, ◌∙◌, arith}
use Rattle.std.specs.List.{AllByRecursion}
use Rattle.std.proofs.lemmas.List.{map-append, take_more, take_all}
use Rattle.crdt_core.proofs.Each.{all_append}
use Rattle.world_core.specs.declared.first.Prepared.{Prepared}
use Rattle.world_core.specs.Nodes.{IsPrepared}
use Rattle.world_core.proofs.WorldsInstall.{still_none, prepared_stays}
use Rattle.world_core.proofs.nodes.Nodes.prepare_all.Goals as goal

pub loop-node-init : goal.loop-node-init
loop-node-init g c = record {
  same = λ xs are. are;
  prepared = subst (AllByRecursion (IsPrepared c.args.self.now c.args.first.now)) (sym c.new-all.ensures.items) tt;
  nodes = ap (map (λ (p : Prepared). p.node)) c.new-all.ensures.items;
}

pub prepare-requires-clause-unused : goal.prepare-requires-clause-unused
prepare-requires-clause-unused g c = still_none g.S.Row.Crdt.join g.S.Schema.words c.args.self.now c.loop-node.self c.requires.unused c.loop-node.invariant.same

pub loop-node-preserved : goal.loop-node-preserved
loop-node-preserved g c =
    let nodes = c.args.nodes.now in
    let i = c.loop-node.node-index in
    let within : i < length nodes = omega arith in
    let inv = c.loop-node.invariant in
    let old = c.loop-node.all.items in
    let one = c.in_ok-prepare.field-0 in
    record {
      same = λ xs are. c.in_ok-prepare.ensures.same xs (inv.same xs are);
      prepared = subst (AllByRecursion (IsPrepared c.prepare.new.self c.args.first.now)) (sym c.in_ok-push.ensures.items)
          (all_append (IsPrepared c.prepare.new.self c.args.first.now) old (one ∷ []) (prepared_stays g.S.Row.Crdt.join g.S.Schema.words c.loop-node.self c.prepare.new.self c.args.first.now old c.in_ok-prepare.ensures.there inv.prepared) (c.in_ok-prepare.ensures.prepared, tt));
      nodes = ap (map (λ (p : Prepared). p.node)) c.in_ok-push.ensures.items ∙ (map-append (λ (p : Prepared). p.node) old (one ∷ []) ∙ (ap (λ ns. ns ++ one.node ∷ []) inv.nodes ∙ (ap (λ n. take i nodes ++ n ∷ []) c.in_ok-prepare.ensures.node ∙ sym (take_more nodes i 0 within))));
    }

pub returns-clause-nodes : goal.returns-clause-nodes
returns-clause-nodes g c =
    let nodes = c.args.nodes.now in
    let end : length nodes ≤ c.loop-node.node-index = omega arith in
    c.loop-node.invariant.nodes ∙ take_all c.loop-node.node-index nodes end
