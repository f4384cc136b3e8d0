use Rattle.plain_laws.specs.Served.{HoldsApart}
use Rattle.serve_lent.proofs.FromMap.{from_map}
use Rattle.serve_lent.proofs.serve_lent_request.Goals as goal

pub returns-clause-from_map : goal.returns-clause-from_map
returns-clause-from_map g c = λ g' q stands.
    let law = c.a_request_is_served_as_from_the_map.ensures in
    let held = stands.store in
    from_map (record { whole = law.whole; stops = law.stops; gets = law.gets }) c.args.buckets.now g' c.args.last held.state q held.holds c.serve_request.new.store c.args.kept.now.bytes.items
    (g.C.Clock.times c.serve_request.new.clock) c.serve_request.new.served c.serve_request.result c.serve_request.new.kept.bytes.items (g.L.Link.present c.args.link.now) (g.L.Link.present c.serve_request.new.link)
    (c.serve_request.ensures.serves g' (record { store = held.state; times = q.times; time = q.time; kept = q.kept }) (record { store = held.stands; clock = stands.clock; time = stands.time; kept = stands.kept }))

pub returns-clause-from_looks : goal.returns-clause-from_looks
returns-clause-from_looks g c = λ g' q stands.
    let law = c.a_request_is_served_as_from_the_map.ensures in
    let looks = stands.store in
    let holds : HoldsApart looks.state q.store = record { holds = c.a_cluster_that_looks_like_a_map_holds_it.ensures looks.state q.store looks.led; clash = looks.led.names; some = looks.some } in
    from_map (record { whole = law.whole; stops = law.stops; gets = law.gets }) c.args.buckets.now g' c.args.last looks.state q holds c.serve_request.new.store c.args.kept.now.bytes.items
    (g.C.Clock.times c.serve_request.new.clock) c.serve_request.new.served c.serve_request.result c.serve_request.new.kept.bytes.items (g.L.Link.present c.args.link.now) (g.L.Link.present c.serve_request.new.link)
    (c.serve_request.ensures.serves g' (record { store = looks.state; times = q.times; time = q.time; kept = q.kept }) (record { store = looks.stands; clock = stands.clock; time = stands.time; kept = stands.kept }))
