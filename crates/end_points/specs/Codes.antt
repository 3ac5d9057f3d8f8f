-- The code of the names of a bay, by which a proof tells its values apart.
use Rattle.std.specs.Prelude.{ℕ, List, refl}
use Rattle.std.specs.Coded.{Coded, code_by, coded×, coded_ℕ, coded_list}
use Rattle.std.specs.FinMap as map
use Rattle.byte_maps.specs.ByteMap.{ByteMap}
use Rattle.end_points.specs.Bay.{Names}

abbrev coded_bytes : Coded (List ℕ)
coded_bytes = coded_list coded_ℕ

abbrev coded_map : Coded (ByteMap (List ℕ))
coded_map = map.code coded_bytes coded_bytes

-- names are stored as the pair of their maps
abbrev pub coded_names : Coded Names
coded_names =
    code_by (ByteMap (List ℕ) × ByteMap (List ℕ)) (coded× coded_map coded_map)
    (λ n. (n.devices, n.texts)) (λ p. record { devices = p.0; texts = p.1 }) (λ _. refl)
