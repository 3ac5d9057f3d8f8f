-- What rows and units stand for depends on no unit but those that pages stand on.
use Rattle.std.proofs.Common.{◌≡◌, ℕ, List, refl, ◌∙◌}
use Rattle.unit_fields.specs.declared.width.Width.{Width}
use Rattle.meta_rows.specs.Prelude.{Rows}
use Rattle.object_model.specs.Prelude.{Objects}
use Rattle.store_image.specs.Prelude.{PageUnit, IsPageOn, HasPage, IsPageSeen, AreBytes, ObjectsStand}

module _ (w : Width) (at at' : ℕ → List ℕ) (rows : Rows) (same : (unit : ℕ) → HasPage w rows unit → at unit ≡ at' unit) where
  page_seen : (c o : List ℕ) (page : ℕ) (on : PageUnit) (bytes : List ℕ) → IsPageOn w rows c o page on → IsPageSeen at rows on bytes
      → IsPageSeen at' rows on bytes
  page_seen c o page on bytes is seen = record {
    seen = seen.seen ∙ same on.unit (record { coll = c; object = o; page = page; on = on; is_on = is; is_unit = refl });
    kept = seen.kept;
  }

  pub bytes_seen : (objects : Objects) → AreBytes w at rows objects → AreBytes w at' rows objects
  bytes_seen objects all c o object there = record {
    mapped = λ page on is. page_seen c o page on _ is ((all c o object there).mapped page on is);
    holes = (all c o object there).holes;
  }

  pub objects_stand : (objects : Objects) → ObjectsStand w at rows objects → ObjectsStand w at' rows objects
  objects_stand objects p = record { shape = p.shape; bytes = bytes_seen objects p.bytes }
