use Rattle.crdt_core.specs.MapLaws.{map_get-decides, map_get-join, map_get-from}
use Rattle.crdt_core.proofs.MapPuts.{map_get-put, map_get-put_other}
use Rattle.crdt_core.proofs.laws.maps_join_by_key.Goals as goal

pub returns : goal.returns
returns g c = let total = g.met.K.Ord.total in let j = g.V.Crdt.join in record {
  values_decide = map_get-decides total g.met.K.Value.identical;
  joined = map_get-join total j;
  put = map_get-put total j;
  cut = map_get-from total;
  put_elsewhere = map_get-put_other total j;
}
