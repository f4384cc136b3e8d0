use Rattle.std.proofs.Common.{rules, ◌≡◌, true, sym, ◌∙◌}
use Rattle.blake2_hash.specs.Hash.{digest_of}
use Rattle.k2v_model.specs.Run.{is_bucket}
use Rattle.k2v_world.proofs.Causes.{same_causes}
use Rattle.k2v_world.proofs.Opens.{hindered, begun_plays, begun_overflows}
use Rattle.k2v_world.proofs.world.ItemWorld.begins.Goals as goal

pub returns-in-Some-clause-plays : goal.returns-in-Some-clause-plays
returns-in-Some-clause-plays c =
    let made : is_bucket c.args.self.now.buckets c.args.order.item.bucket ≡ true = sym c.is_bucket.ensures ∙ c.if-not-is_bucket.false in
    let digest : c.blake2b_256-bucket.result ≡ digest_of c.args.order.item.bucket = search rules in
    hindered c.args.self.now c.args.node c.args.order (λ s d. sym (c.member.ensures s.world d.world) ∙ c.if-not-member.false) made c.blake2b_256-bucket.result digest
    c.in-Some.reason c.refusal-in-Some.result c.in-Some.ensures c.refusal-in-Some.ensures

pub returns-in-None-clause-plays : goal.returns-in-None-clause-plays
returns-in-None-clause-plays c =
    let made : is_bucket c.args.self.now.buckets c.args.order.item.bucket ≡ true = sym c.is_bucket.ensures ∙ c.if-not-is_bucket.false in
    let digest : c.blake2b_256-bucket.result ≡ digest_of c.args.order.item.bucket = search rules in
    begun_plays c.args.self.now c.args.node c.args.order (λ s d. sym (c.member.ensures s.world d.world) ∙ c.if-not-member.false) made c.blake2b_256-bucket.result digest
    c.in-None.ensures c.opens.new.self c.opens.result c.opens.ensures.plays

pub returns-in-None-clause-causes : goal.returns-in-None-clause-causes
returns-in-None-clause-causes c =
    let made : is_bucket c.args.self.now.buckets c.args.order.item.bucket ≡ true = sym c.is_bucket.ensures ∙ c.if-not-is_bucket.false in
    let digest : c.blake2b_256-bucket.result ≡ digest_of c.args.order.item.bucket = search rules in
    same_causes c.opens.result
    (begun_overflows c.args.self.now c.args.node c.args.order (λ s d. sym (c.member.ensures s.world d.world) ∙ c.if-not-member.false) made c.blake2b_256-bucket.result digest c.in-None.ensures)
    c.opens.ensures.causes
