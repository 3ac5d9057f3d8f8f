-- An image stands for at most one Objects.
use Rattle.std.proofs.Common.{◌≡◌, ◌≢◌, inl, inr, ℕ, List, length, Option, Some, None, is_some, refl, sym, ap, subst, ◌∙◌, arith}
use Rattle.std.specs.Prelude.{IsSome, unwrap_or, [], option_and_then}
use Rattle.std.specs.Int.{w64, from_le_bytes}
use Rattle.std.proofs.lemmas.Nat.{from_le_bytes-to_le_bytes_8}
use Rattle.std.specs.FinMap as map
use Rattle.byte_maps.specs.ByteMap.{ByteMap}
use Rattle.byte_maps.proofs.Prelude.{same}
use Rattle.object_model.specs.Prelude.{Object, Collection, Objects, object_under}
use Rattle.meta_rows.specs.Prelude.{Rows, rows_of_records}
use Rattle.meta_log.specs.declared.slot.Super.{Super}
use Rattle.meta_log.specs.Prelude.{AreRowsOf, active_half, width_of}
use Rattle.meta_log.proofs.RecordLemmas.{same_records}
use Rattle.meta_log.proofs.SlotLemmas.{same_active}
use Rattle.unit_fields.specs.Prelude.{IsName}
use Rattle.unit_fields.specs.declared.width.Width.{Width}
use Rattle.store_image.specs.Prelude.{PageUnit, IsHole, page_bytes, IsPageSeen, IsObjectShape, AreObjectBytes, ObjectsStand, StandsFor}
use Rattle.store_image.proofs.ByteLemmas.{equal_or_not, same_pages}

-- a unit is seen in one way
pub seen_one : (at : ℕ → List ℕ) (rows : Rows) (on : PageUnit) (x y : List ℕ) → IsPageSeen at rows on x → IsPageSeen at rows on y → x ≡ y
seen_one at rows on x y p q = p.seen ∙ sym q.seen

-- maps of names that agree at each name
agree_at : (x y : Option (List ℕ)) {N : Type 0} → (IsSome x → N) → (IsSome y → N) → (N → x ≡ y) → x ≡ y
agree_at None None a b h = refl
agree_at None (Some y) a b h = h (b refl)
agree_at (Some x) y a b h = h (a refl)

same_named : (m n : ByteMap (List ℕ)) → ((k : List ℕ) → IsSome (map.get m k) → IsName k) → ((k : List ℕ) → IsSome (map.get n k) → IsName k) → ((k : List ℕ) → IsName k → map.get m k ≡ map.get n k) → m ≡ n
same_named m n a b h = same m n (λ k. agree_at (map.get m k) (map.get n k) (a k) (b k) (h k))

module _ (w : Width) (at : ℕ → List ℕ) (rows : Rows) (c o : List ℕ) where
  module _ (x y : List ℕ) (p : AreObjectBytes w at rows c o x) (q : AreObjectBytes w at rows c o y) where
    unmapped : (page : ℕ) → page_bytes x page ≢ page_bytes y page → IsHole w rows c o page
    unmapped page ne on is = ne (seen_one at rows on _ _ (p.mapped page on is) (q.mapped page on is))

    pub same_page : (page : ℕ) → page_bytes x page ≡ page_bytes y page
    same_page page = elim (equal_or_not (page_bytes x page) (page_bytes y page)) [
      | inl e ↦ e
      | inr ne ↦ absurd (ne (p.holes page (unmapped page ne) ∙ sym (q.holes page (unmapped page ne))))
    ]

  module _ (x y : Object) (p : IsObjectShape rows c o x) (q : IsObjectShape rows c o y) where
    pub same_size : length x.bytes ≡ length y.bytes
    same_size =
        let e = ap (λ v. unwrap_or v []) (sym p.size.stands ∙ q.size.stands) in
        sym (from_le_bytes-to_le_bytes_8 (length x.bytes) (omega (arith, p.size_most))) ∙ ap (from_le_bytes w64) e ∙ from_le_bytes-to_le_bytes_8 (length y.bytes) (omega (arith, q.size_most))

    pub same_object : AreObjectBytes w at rows c o x.bytes → AreObjectBytes w at rows c o y.bytes → x ≡ y
    same_object s t =
        let bytes = same_pages x.bytes y.bytes same_size (same_page x.bytes y.bytes s t) in
        let attrs = same_named x.attrs y.attrs p.attr_names q.attr_names (λ name n. p.attrs name n ∙ sym (q.attrs name n)) in
        let header = p.header ∙ sym q.header in
        let omap = same_named x.omap y.omap p.omap_keys q.omap_keys (λ key n. p.omap key n ∙ sym (q.omap key n)) in
        λ i. record { bytes = bytes i; attrs = attrs i; header = header i; omap = omap i }

module _ (w : Width) (at : ℕ → List ℕ) (rows : Rows) (a b : Objects) (p : ObjectsStand w at rows a) (q : ObjectsStand w at rows b) where
  same_found : (c o : List ℕ) (x y : Option Object) → object_under a c o ≡ x → object_under b c o ≡ y → x ≡ y
  same_found c o None None s t = refl
  same_found c o None (Some y) s t =
      let size = (q.shape.present c o y t).size in
      let none = p.shape.missing c o size.fits.0 size.fits.1 s in
      absurd (let e = sym none ∙ size.stands in cc)
  same_found c o (Some x) None s t =
      let size = (p.shape.present c o x s).size in
      let none = q.shape.missing c o size.fits.0 size.fits.1 t in
      absurd (let e = sym none ∙ size.stands in cc)
  same_found c o (Some x) (Some y) s t =
      ap Some (same_object w at rows c o x y (p.shape.present c o x s) (q.shape.present c o y t) (p.bytes c o x s) (q.bytes c o y t))

  same_in : (c o : List ℕ) → object_under a c o ≡ object_under b c o
  same_in c o = same_found c o (object_under a c o) (object_under b c o) refl refl

  same_collection : (m n : Option Collection) → is_some m ≡ is_some n → ((o : List ℕ) → option_and_then (λ found. map.get found o) m ≡ option_and_then (λ found. map.get found o) n) → m ≡ n
  same_collection None None t h = refl
  same_collection None (Some n) t h = absurd cc
  same_collection (Some m) None t h = absurd cc
  same_collection (Some m) (Some n) t h = ap Some (same m n h)

  pub same_objects : a ≡ b
  same_objects = same a b (λ c. same_collection (map.get a c) (map.get b c) (p.shape.collections c ∙ sym (q.shape.collections c)) (same_in c))

pub same_rows : (image : List ℕ) (s : Super) (m n : Rows) → AreRowsOf image s m → AreRowsOf image s n → m ≡ n
same_rows image s m n p q = p.made ∙ ap (rows_of_records map.empty) (same_records p.records q.records s.first (active_half image s) p.stand q.stand) ∙ sym q.made

-- An image stands for at most one Objects.
pub stands_for_one : (image : List ℕ) (a b : Objects) → StandsFor image a → StandsFor image b → a ≡ b
stands_for_one image a b p q =
    let s = same_active image p.super q.super p.active q.active in
    let r : p.rows ≡ q.rows = same_rows image q.super p.rows q.rows (subst (λ t. AreRowsOf image t p.rows) s p.read) q.read in
    same_objects (width_of q.super) _ q.rows a b (subst (λ m. ObjectsStand (width_of q.super) _ m a) r p.stand) q.stand
