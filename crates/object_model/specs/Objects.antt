-- What the store holds, as its users see it: objects by name in collections by name.
use Rattle.std.specs.Prelude.{ℕ, List, [], refl}
use Rattle.std.specs.Coded.{Coded, code_by, coded×, coded_ℕ, coded_list}
use Rattle.std.specs.FinMap as map
use Rattle.byte_maps.specs.ByteMap.{ByteMap}

-- an object: its bytes, its attributes by name, its omap header and its omap values by key
pub record Object : Type 0 where
  pub bytes : List ℕ
  pub attrs : ByteMap (List ℕ)
  pub header : List ℕ
  pub omap : ByteMap (List ℕ)

-- the objects of one collection, by name
abbrev pub Collection : Type 0
Collection = ByteMap Object

-- the collections, by name
abbrev pub Objects : Type 0
Objects = ByteMap Collection

-- an object without bytes, attributes and omap
abbrev pub empty_object : Object
empty_object = record { bytes = []; attrs = map.empty; header = []; omap = map.empty }

-- the codes by which values are told apart
abbrev coded_bytes : Coded (List ℕ)
coded_bytes = coded_list coded_ℕ

abbrev coded_map : Coded (ByteMap (List ℕ))
coded_map = map.code coded_bytes coded_bytes

abbrev pub coded_object : Coded Object
coded_object = code_by (List ℕ × (ByteMap (List ℕ) × (List ℕ × ByteMap (List ℕ))))
    (coded× coded_bytes (coded× coded_map (coded× coded_bytes coded_map)))
    (λ o. (o.bytes, (o.attrs, (o.header, o.omap)))) (λ p. record { bytes = p.0; attrs = p.1.0; header = p.1.1.0; omap = p.1.1.1 }) (λ _. refl)
