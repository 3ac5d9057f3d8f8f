-- The shape and the bytes of an object that a row put in leaves as it was.
use Rattle.std.proofs.Common.{◌≡◌, ◌≢◌, ℕ, List, ◌∷◌, length, unwrap_or, [], refl, sym, ap, ◌∙◌, arith}
use Rattle.std.specs.FinMap as map
use Rattle.unit_fields.specs.declared.width.Width.{Width}
use Rattle.meta_rows.specs.Prelude.{Rows}
use Rattle.object_model.specs.Prelude.{Object}
use Rattle.row_format.specs.Prelude.{Row}
use Rattle.store_image.specs.Prelude.{HasOnode, HasPage, IsObjectShape, AreObjectBytes}
use Rattle.row_facts.proofs.PutRow.{put_row, IsApart, IsNoBlob, on_kept, on_was}

-- rows of other kinds than collections, onodes, shards and those of the bitmap are the same
abbrev pub SameOthers : Rows → Rows → Type 0
SameOthers rows after = (k : ℕ) (rest : List ℕ) → k ≢ 0x43 → k ≢ 0x4f → k ≢ 0x62 → map.get after (k ∷ rest) ≡ map.get rows (k ∷ rest)

pub shape_kept : (rows after : Rows) (c o : List ℕ) (object : Object) → SameOthers rows after → HasOnode after c o (length object.bytes)
    → IsObjectShape rows c o object → IsObjectShape after c o object
shape_kept rows after c o object same size shape = record {
  size = size;
  size_most = shape.size_most;
  attr_names = shape.attr_names;
  attrs = λ name is. shape.attrs name is ∙ sym (same 0x41 _ (λ e. omega (arith, e)) (λ e. omega (arith, e)) (λ e. omega (arith, e)));
  header = shape.header ∙ ap (λ x. unwrap_or x []) (sym (same 0x4d _ (λ e. omega (arith, e)) (λ e. omega (arith, e)) (λ e. omega (arith, e))));
  omap_keys = shape.omap_keys;
  omap = λ key is. shape.omap key is ∙ sym (same 0x4d _ (λ e. omega (arith, e)) (λ e. omega (arith, e)) (λ e. omega (arith, e)));
}

-- the object's pages are seen as before, where the units on which pages stand hold what they held
pub bytes_kept : (w : Width) (at after : ℕ → List ℕ) (rows : Rows) (r : Row) (d u : List ℕ) (bytes : List ℕ) → IsApart w rows r d u → IsNoBlob w rows r
    → ((unit : ℕ) → HasPage w rows unit → after unit ≡ at unit) → AreObjectBytes w at rows d u bytes
    → AreObjectBytes w after (put_row w rows r) d u bytes
bytes_kept w at after rows r d u bytes apart no_blob same all = record {
  mapped = λ page on is.
      let was = on_was w rows r d u apart no_blob page on is in
      let seen = all.mapped page on was in
      let has : HasPage w rows on.unit = record { coll = d; object = u; page = page; on = on; is_on = was; is_unit = refl } in
      record { seen = seen.seen ∙ sym (same on.unit has); kept = seen.kept };
  holes = λ page hole. all.holes page (λ on is. hole on (on_kept w rows r d u apart no_blob page on is));
}
